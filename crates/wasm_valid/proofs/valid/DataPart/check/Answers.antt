use Rattle.wasm_tree.specs.Code.{tree}
use Rattle.wasm_valid.specs.CodeScope.{scope_of}
use Rattle.wasm_valid.proofs.Whole.{data_decides}
use Rattle.wasm_valid.proofs.valid.DataPart.check.Goals as goal

pub returns : goal.returns
returns c = data_decides c.check_constant.result (scope_of c.args.scope) c.args.self.now (tree c.ops.result.now)
    c.ops.ensures c.if-scope-self.false c.check_constant.ensures
