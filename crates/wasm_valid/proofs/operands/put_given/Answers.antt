use Rattle.std.proofs.Common.{refl}
use Rattle.wasm_valid.proofs.Stacks.{puts}
use Rattle.wasm_valid.proofs.operands.put_given.Goals as goal

pub returns-in_ok-push-in-Some : goal.returns-in_ok-push-in-Some
returns-in_ok-push-in-Some c = rw c.in-Some.is (puts c.args.operands.now _ _ c.in_ok-push-in-Some.ensures.ok refl)
