use Rattle.wasm_valid.proofs.Names.{at}
use Rattle.wasm_valid.proofs.valid.is_added.Goals as goal

pub returns-clause-held : goal.returns-clause-held
returns-clause-held c = λ n. c.in_ok-is_new.ensures.updates.0 (at n)
