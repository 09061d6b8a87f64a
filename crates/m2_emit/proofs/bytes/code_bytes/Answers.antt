use Rattle.std.proofs.Common.{Err, ap, ◌∙◌}
use Rattle.wasm_tree.specs.declared.encode.EncodeError.{EncodeError}
use Rattle.m2_emit.proofs.Fits.{bytes_if, none_if}
use Rattle.m2_emit.proofs.bytes.code_bytes.Goals as goal

pub returns-in-Ok : goal.returns-in-Ok
returns-in-Ok c = bytes_if c.args.tree.now c.in-Ok.bytes.items c.in-Ok.ensures.written c.in-Ok.ensures.only.encodes.fits

pub returns-in-Err-NoEncoding : goal.returns-in-Err-NoEncoding
returns-in-Err-NoEncoding c = c.new.ensures.items
    ∙ none_if c.args.tree.now (c.in-Err-NoEncoding.ensures.unfit
    (ap (λ (e : EncodeError). Err e) c.in-Err-NoEncoding.field-0-is))
