use Rattle.std.proofs.Common.{arith, length}
use Rattle.std.proofs.lemmas.Bool.{and_from, lt-ltb}
use Rattle.wasm_code.proofs.LawsParts.{are_bytes}
use Rattle.wasm_code.proofs.writer.Writer.part.Goals as goal

pub returns-clause-fits : goal.returns-clause-fits
returns-clause-fits c =
    and_from _ _ (are_bytes c.args.part.now (λ i. omega (arith, c.type_inv.part i)))
    (lt-ltb (length c.args.part.now) 4294967296 (omega (arith, c.if-part-gt-MAX_PART.false)))
