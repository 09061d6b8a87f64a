use Rattle.std.specs.Prelude.{All, take}
use Rattle.wasm_valid.specs.CodeScope.{scope_of}
use Rattle.wasm_tree.specs.Validity.{IsFunction}
use Rattle.wasm_valid.proofs.valid.check_functions.Given as goal

abbrev pub invariant-loop-function : goal.invariant-loop-function
invariant-loop-function l = All (IsFunction (scope_of l.scope)) (take l.function-index l.functions)
