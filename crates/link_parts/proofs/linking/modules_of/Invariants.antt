use Rattle.std.proofs.Common.{◌≡◌, take, map}
use Rattle.std.specs.Prelude.{slice_get}
use Rattle.std.specs.List.{flat_map}
use Rattle.m2_emit.specs.Emitted.{parts}
use Rattle.link_parts.specs.Stands.{stand_of}
use Rattle.link_parts.specs.Linked.{sizes_in}
use Rattle.link_parts.proofs.linking.modules_of.Given as goal

abbrev pub invariant-loop-start : goal.invariant-loop-start
invariant-loop-start l =
    parts l.modules.items ≡ flat_map (λ n. sizes_in (slice_get (map stand_of l.stands) n)) (take l.start-index l.starts)
