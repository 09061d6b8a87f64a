-- What the lists of a scope stand for.
use Rattle.std.specs.Prelude.{[]}
use Rattle.wasm_valid.specs.declared.code_scope.Scope as rust
use Rattle.wasm_tree.specs.Validity.{Context}

abbrev pub scope_of : rust.Scope → Context
scope_of s = record {
  types = s.types.now;
  functions = s.functions.now;
  tables = s.tables.now;
  memories = s.memories.now;
  globals = s.globals.now;
  locals = [];
  labels = [];
  returns = [];
}
