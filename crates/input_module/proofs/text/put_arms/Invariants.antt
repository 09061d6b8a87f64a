use Rattle.std.proofs.Common.{◌≡◌, ◌++◌}
use Rattle.input_module.specs.Text.{arms}
use Rattle.input_module.proofs.text.put_arms.Given as goal

abbrev pub invariant-loop-number : goal.invariant-loop-number
invariant-loop-number l = l.text.items ≡ l.fn.text.items ++ arms l.bytes l.number
