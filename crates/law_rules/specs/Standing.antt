-- What a name stands for behind imports.
use Rattle.std.specs.Prelude.{ℕ, Bool, List}
use Rattle.m2_tree.specs.declared.name.Ident.{Ident}
use Rattle.typed_tree.specs.declared.meaning.Meaning.{Meaning}
use Rattle.typed_tree.specs.declared.table.Table.{Table}
use Rattle.def_typing.specs.Things.{Standing}
use Rattle.def_typing.specs.Imports as rules
use Rattle.def_typing.specs.Imports.{Imported, all_imported, Itself, Exported, Brings, BrokenIn}
use Rattle.law_typing.specs.Known.{standing}

-- what a name stands for behind imports
pub data StandsFor (tables : List Table) (own : List ℕ → Bool) (front : List Imported)
    (outside : Ident → Standing) (name : Ident) : Standing → Type 0 where
  imported : (s : rules.Origin) (m : Meaning) → Brings tables own front name.name s m
      → StandsFor tables own front outside name (standing m)
  from_outside : ((s : rules.Origin) (m : Meaning) → Brings tables own front name.name s m → ⊥)
      → StandsFor tables own front outside name (outside name)
