-- The rules read a block in one way alone.
use Rattle.std.specs.Prelude.{◌≡◌, ◌↔◌, ℕ, List, Option}
use Rattle.m2_rule.specs.declared.breach.Breach.{Breach}
use Rattle.m2_tree.specs.declared.pos.Pos.{Pos}
use Rattle.m2_tree.specs.declared.name.Ident.{Ident}
use Rattle.m2_tree.specs.declared.decl.Block.{Block}
use Rattle.m2_tree.specs.declared.decl.Module.{Module}
use Rattle.typed_tree.specs.declared.known_types.Types.{Types}
use Rattle.typed_tree.specs.declared.types.TypeNo.{TypeNo}
use Rattle.typed_tree.specs.declared.meaning.Meaning.{Meaning}
use Rattle.typed_tree.specs.declared.statement.TypedStmt.{TypedStmt}
use Rattle.typed_tree.specs.declared.table.Table.{Table}
use Rattle.typed_tree.specs.declared.typed_module.Which.{Which}
use Rattle.typed_tree.specs.declared.typed_module.TypedModule.{TypedModule}
use Rattle.def_typing.specs.Things.{Standing}
use Rattle.def_typing.specs.Imports.{Entry}
use Rattle.def_typing.specs.Bodies.{Place, Reads, BrokenBlock, LacksHeading}
use Rattle.def_typed.specs.Blocks.{Before}
use Rattle.def_typed.specs.Bodies.{Routines, MeansBlock}
use Rattle.def_typed.specs.Modules.{MeansModule}

-- Two readings of a block are alike: the same types are known behind it, the same rules are broken
-- in it, the same headings are missing, and it has the same typed trees, whatever stands before it.
pub record AreAlike (exports : ℕ → Ident → Standing) {p : Place} {types end last : Types}
    {b : Block} (r : Reads exports p types b end) (q : Reads exports p types b last) : Type 0 where
  pub same_types : end ≡ last
  pub same_rules : (f : Breach) → BrokenBlock exports r f ↔ BrokenBlock exports q f
  pub same_headings : (at : Pos) (f : Breach)
      → LacksHeading exports r at f ↔ LacksHeading exports q at f
  pub same_trees : (of_exports : ℕ → Ident → Option Meaning) (before : Before)
      (around : Option Which) (rs : Routines) (vs : List TypeNo) (xs : List TypedStmt)
      → MeansBlock exports of_exports r before around rs vs xs
      ↔ MeansBlock exports of_exports q before around rs vs xs

-- Whatever the place of a block and the types that are known there, two readings are alike.
abbrev pub ReadingsAreAlike : Type 0
ReadingsAreAlike =
    (exports : ℕ → Ident → Standing) (p : Place) (types end last : Types) (b : Block)
    → (r : Reads exports p types b end) (q : Reads exports p types b last)
    → AreAlike exports r q

-- So a module has the same typed trees, whichever way its block is read.
abbrev pub ModulesAreAlike : Type 0
ModulesAreAlike =
    (home : ℕ) (tables : List Table) (exported : List Entry) (of_definition : List (List ℕ × ℕ))
    (m : Module) (exports : ℕ → Ident → Standing) (p : Place) (types end last : Types) (b : Block)
    → (r : Reads exports p types b end) (q : Reads exports p types b last) → (t : TypedModule)
    → MeansModule home tables exported of_definition m exports r t
    ↔ MeansModule home tables exported of_definition m exports q t
