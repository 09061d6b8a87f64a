use Rattle.std.proofs.Common.{sym}
use Rattle.wasm_link.proofs.Same.{other_length}
use Rattle.wasm_link.proofs.types.are_same.Goals as goal

pub returns-then-xs-ys : goal.returns-then-xs-ys
returns-then-xs-ys c = sym (other_length c.args.xs.now c.args.ys.now c.if-xs-ys.true)
