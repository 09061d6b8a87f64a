-- What modules know of the types of others: their tables reach types in order, with ranges of the
-- language.
use Rattle.std.specs.Prelude.{◌≡◌, ℕ, suc, ◌<◌, Bool, true, List, [], Option, Some, None, map, slice_get}
use Rattle.std.specs.List.{AllByRecursion, list_all}
use Rattle.m2_tree.specs.declared.decl.Decl.{Decl, Decl-F, fold-Decl}
use Rattle.m2_tree.specs.declared.decl.Decl.TheOpen as layer
use Rattle.m2_tree.specs.declared.decl.Block.{Block, Block-F, fold-Block}
use Rattle.m2_tree.specs.declared.decl.Contents.{Contents}
use Rattle.m2_tree.specs.declared.decl.Contents.TheVariants as contents
use Rattle.m2_tree.specs.declared.decl.Module.{Module}
use Rattle.typed_tree.specs.declared.shape.Made.{Made}
use Rattle.typed_tree.specs.declared.table.ModuleTypes.{ModuleTypes}
use Rattle.typed_tree.specs.declared.table.Table.{Table}
use Rattle.typed_tree.specs.declared.known_types.Types.{Types}
use Rattle.typed_tree.specs.Known.{made_in}
use Rattle.check_scope.specs.Elaborated.{Gathers}
use Rattle.check_definition.specs.Compiled.{definition_table}
use Rattle.check_body.specs.Own.{types_made_in}
use Rattle.check_body.specs.Elaborating.{Elaborates}
use Rattle.check_body.specs.Checked.{body_module}
use Rattle.law_well_formed.specs.Formed.{Holds}
use Rattle.law_modules.specs.Ranges.{AreRanged}
use Rattle.law_well_formed.specs.FormedRanges.{AllBased, ExportsRanged, ReachedRanged, itself, fits_constant, fits_type_decl, fits_variables, fits_def}
use Rattle.law_well_formed.specs.Ordered.{OthersOrdered, AreOrdered}
use Rattle.law_well_formed.specs.FormedOrder.{AllOnce, ExportsOrdered}

-- ---- trees: all declarations of a module fit, those in its procedures included

abbrev pub fits_within_layer : Decl-F Bool Bool → Bool
fits_within_layer (layer.Constants cs) = list_all fits_constant cs
fits_within_layer (layer.Types ts) = list_all fits_type_decl ts
fits_within_layer (layer.Variables vs) = list_all fits_variables vs
fits_within_layer (layer.Procedure h block) = block

abbrev pub fits_block_layer : Block-F Bool Bool → Bool
fits_block_layer b = list_all itself b.decls

unfoldable pub fits_within : Decl → Bool
fits_within = fold-Decl Bool Bool fits_within_layer fits_block_layer

unfoldable pub fits_block : Block → Bool
fits_block = fold-Block Bool Bool fits_within_layer fits_block_layer

abbrev pub fits_contents : Contents → Bool
fits_contents (contents.Definition defs) = list_all fits_def defs
fits_contents (contents.Implementation b) = fits_block b
fits_contents (contents.Program b) = fits_block b

abbrev pub fits_module : Module → Bool
fits_module m = fits_contents m.contents

-- ---- tables

-- these types have all that a table reaches
abbrev pub HasReached : Types → List ModuleTypes → Type 0
HasReached types ms =
    AllByRecursion
    (λ m. (n : ℕ) (x : Made) → slice_get m.made n ≡ Some x → made_in types m.number n ≡ Some x) ms

abbrev pub entries_of : List ModuleTypes → List (ℕ × List Made)
entries_of ms = map (λ m. (m.number, m.made)) ms

-- A table reaches modules below this number, and the types of each module are the same in all
-- tables. They stand in order, have ranges of the language, and what the table exports means types
-- and numbers of this kind.
pub record TableFormed (types_of : ℕ → List Made) (below : ℕ) (t : Table) : Type 0 where
  pub reached : AllByRecursion (λ m. (m.number < below) × (m.made ≡ types_of m.number)) t.reached
  pub ordered : OthersOrdered [] (entries_of t.reached)
  pub once : AllByRecursion (λ m. AllOnce m.made) t.reached
  pub ranged : ReachedRanged t.reached
  pub based : (types : Types) → HasReached types t.reached
      → AllByRecursion (λ m. AllBased types m.made) t.reached
  pub exports : (types : Types) → HasReached types t.reached
      → ExportsOrdered types t.exported × ExportsRanged types t.exported

abbrev pub TablesFormed : (types_of : ℕ → List Made) → (below : ℕ) → List Table → Type 0
TablesFormed types_of below ts = AllByRecursion (TableFormed types_of below) ts

-- the table of a module's own definition, whose types are those that all tables reach of it
abbrev pub OwnFormed : (types_of : ℕ → List Made) → (below : ℕ) → Option Table → Type 0
OwnFormed types_of below None = Unit {0}
OwnFormed types_of below (Some t) =
    TableFormed types_of below t × (types_made_in t.number t.reached ≡ types_of t.number)

-- ---- the laws

-- The table of a definition is formed so, if the tables of its imports are.
abbrev pub TablesAreFormed : Gathers → Type 0
TablesAreFormed g =
    (types_of : ℕ → List Made) (home : ℕ) (m : Module) (tables : List Table)
    → fits_module m ≡ true
    → TablesFormed types_of home tables
    → Holds
    (λ t.
    (t.number ≡ home)
    × (types_made_in home t.reached ≡ types_of home → TableFormed types_of (suc home) t))
    (definition_table g home m tables)

-- The types that the module of a body knows have ranges of the language, and stand in order.
abbrev pub BodiesAreFormed : Gathers → Type 0
BodiesAreFormed g =
    (elaborates : Elaborates g.Reported) (types_of : ℕ → List Made) (number : ℕ) (m : Module)
    (own : Option Table) (tables : List Table)
    → fits_module m ≡ true
    → OwnFormed types_of number own
    → TablesFormed types_of number tables
    → Holds (λ t. AreRanged t.types × AreOrdered t.types)
    (body_module g elaborates number m own tables)
