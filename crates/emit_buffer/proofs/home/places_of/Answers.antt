use Rattle.std.proofs.Common.{refl}
use Rattle.std.proofs.lemmas.Option.{slice_get_read}
use Rattle.emit_buffer.proofs.Imports.{place_more}
use Rattle.emit_buffer.proofs.home.places_of.Goals as goal

pub loop-place-preserved : goal.loop-place-preserved
loop-place-preserved c =
    let i = c.index-imports-place.result in
    place_more c.loop-place.places.entries _ c.args.imports.now c.loop-place.place i c.loop-place.invariant
    (slice_get_read c.args.imports.now _ c.loop-place.place i refl c.loop-place-test.true c.index-imports-place.is)
    c.in_ok-with_place.ensures
