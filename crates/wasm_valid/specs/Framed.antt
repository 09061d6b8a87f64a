-- What the code of a function may name.
use Rattle.std.specs.Prelude.{List, ◌++◌, map, reverse, Option}
use Rattle.wasm_tree.specs.declared.kinds.ValueType.{ValueType}
use Rattle.wasm_tree.specs.Validity.{Context, result_types, local_types}
use Rattle.wasm_valid.specs.declared.frame.Frame.{Frame}
use Rattle.wasm_valid.specs.CodeScope.{scope_of}

-- what a branch takes, for results of blocks of which the innermost is the last
abbrev pub labels_of : List (Option ValueType) → List (List ValueType)
labels_of blocks = map result_types (reverse blocks)

abbrev pub locals_of : Frame → List ValueType
locals_of f = f.params.now ++ local_types f.locals.groups.now

abbrev pub frame_context : Frame → (blocks : List (Option ValueType)) → Context
frame_context f blocks = record (scope_of f.scope) {
  locals = locals_of f;
  labels = labels_of blocks;
  returns = result_types f.returns;
}
