use Rattle.std.proofs.Common.{◌≡◌, ap, ◌∙◌, rules}
use Rattle.emit_buffer.specs.Cut.{cut}
use Rattle.m2_emit.proofs.Fits.{emitted_is}
use Rattle.m2_emit.proofs.bytes.emit.Goals as goal

pub returns : goal.returns
returns c =
    let named : c.in_ok-clone.field-0 ≡ c.args.module_body.now.name = search rules in
    record {
      emitted = emitted_is c.args.module_body.now c.args.layout.now c.in_ok-clone.field-0 c.from_vec.result c.cut.result
          c.requires.layout c.requires.fits named
          (c.from_vec.ensures ∙ c.in_ok-bytes.ensures) (c.cut.ensures ∙ ap cut c.slots_of.ensures);
    }
