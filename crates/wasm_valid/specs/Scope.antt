-- What the names of a module stand for.
use Rattle.std.specs.Prelude.{◌≡◌}
use Rattle.wasm_valid.specs.declared.scope.Names.{Names}
use Rattle.wasm_tree.specs.declared.module.WModule.{WModule}
use Rattle.wasm_tree.specs.Validity.{context, initial_context}

pub record HasNames (n : Names) (m : WModule) : Type 0 where
  pub functions : n.functions.items ≡ (context m).functions
  pub tables : n.tables.items ≡ (context m).tables
  pub memories : n.memories.items ≡ (context m).memories
  pub initial : n.imported_globals.items ≡ (initial_context m).globals
  pub globals : n.globals.items ≡ (context m).globals
