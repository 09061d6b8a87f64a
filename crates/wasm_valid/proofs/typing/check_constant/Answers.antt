use Rattle.std.proofs.Common.{refl}
use Rattle.wasm_tree.specs.Code.{tree}
use Rattle.wasm_valid.specs.CodeScope.{scope_of}
use Rattle.wasm_valid.proofs.Within.{constant_decides}
use Rattle.wasm_valid.proofs.typing.check_constant.Goals as goal

pub returns : goal.returns
returns c = constant_decides c.check_code.result _ (scope_of c.args.scope) (tree c.args.code.now) c.args.value_type
    (c.if-not-are_constant.ensures.0 refl) c.check_code.ensures.fits (rw c.new-blocks.ensures refl)
