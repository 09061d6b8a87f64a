-- What stays the same under other numbers of modules.
use Rattle.std.specs.Prelude.{◌≡◌}
use Rattle.typed_tree.specs.declared.typed_module.TypedModule.{TypedModule}
use Rattle.layout_storage.specs.Layouts.{too_large}
use Rattle.m2_emit.specs.Emitted.{emitted}
use Rattle.def_exchange.specs.Moved.{Exchange}
use Rattle.def_exchange.specs.MovedTrees.{moved_module}

-- what is emitted for a module: its bytes, and what link needs of it
abbrev pub CodeStays : Type 0
CodeStays = (x : Exchange) (m : TypedModule) → emitted (moved_module x m) ≡ emitted m

-- whether the storage of a module is too large, and where
abbrev pub StorageStays : Type 0
StorageStays = (x : Exchange) (m : TypedModule) → too_large (moved_module x m) ≡ too_large m
