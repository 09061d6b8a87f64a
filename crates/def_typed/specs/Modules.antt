-- The typed tree of a module: what is known where its block begins, and where its procedures stand.
use Rattle.std.specs.Prelude.{◌≡◌, ℕ, ◌+◌, ◌<◌, true, false, List, [], ◌∷◌, ◌++◌, map, length, Option, Some, None, slice_get, slice_set}
use Rattle.std.specs.List.{fold, flat_map}
use Rattle.std.specs.Option.{is_some}
use Rattle.m2_tree.specs.declared.name.Ident.{Ident}
use Rattle.m2_tree.specs.Names.{is_console}
use Rattle.m2_tree.specs.declared.decl.Import.{Import}
use Rattle.m2_tree.specs.declared.decl.Block.{Block, out-Block}
use Rattle.m2_tree.specs.declared.decl.Module.{Module}
use Rattle.typed_tree.specs.declared.types.TypeNo.{TypeNo}
use Rattle.typed_tree.specs.declared.known_types.Types.{Types}
use Rattle.typed_tree.specs.declared.meaning.Meaning.{Meaning}
use Rattle.typed_tree.specs.declared.meaning.Meaning.TheVariants as meaning
use Rattle.typed_tree.specs.declared.table.Table.{Table}
use Rattle.typed_tree.specs.declared.typed_module.Imported.{Imported as ImportedModule}
use Rattle.typed_tree.specs.declared.typed_module.Routine.{Routine}
use Rattle.typed_tree.specs.declared.typed_module.TypedModule.{TypedModule}
use Rattle.typed_tree.specs.Names.{find_name}
use Rattle.def_typing.specs.Parts.{Among}
use Rattle.def_typing.specs.Things.{Standing}
use Rattle.def_typing.specs.Imports.{Entry, Imported, Origin, IsFoundAt, Brings, all_imported}
use Rattle.def_typing.specs.Bodies.{Place, Reads}
use Rattle.def_typed.specs.Numbers.{headings_in, new_headings}
use Rattle.def_typed.specs.Blocks.{StandsWithoutCode, Before}
use Rattle.def_typed.specs.Bodies.{Routines, MeansBlock}

-- ---- what a definition exports

abbrev pub exported_from : List ℕ → Option Table → Option Meaning
exported_from name None = None
exported_from name (Some t) = find_name name t.exported

-- what a module exports under a name, by the place of its table
abbrev pub exported_in : List Table → ℕ → Ident → Option Meaning
exported_in tables k name = exported_from name.name (slice_get tables k)

abbrev pub variable_type : Meaning → List TypeNo
variable_type (meaning.Variable v) = v.of ∷ []
variable_type other = []

-- the types of its variables, by their numbers
abbrev pub variable_types : List Entry → List TypeNo
variable_types [] = []
variable_types (e ∷ es) = variable_type e.1 ++ variable_types es

abbrev pub heading_type : Meaning → List TypeNo
heading_type (meaning.Procedure p) = p.heading ∷ []
heading_type other = []

-- the types of its headings, by the numbers of the procedures
abbrev pub heading_types : List Entry → List TypeNo
heading_types [] = []
heading_types (e ∷ es) = heading_type e.1 ++ heading_types es

-- ---- where the block of a module begins

-- by the tables of the modules that can be imported, by what the module's own definition exports,
-- and by what names stand for behind the imports
module _ (tables : List Table) (exported : List Entry) (front : List Imported)
    (names : Ident → Standing) where
  pub data MeansBefore (name : Ident) : Option Meaning → Type 0 where
    of_definition : {m : Meaning} → find_name name.name exported ≡ Some m
        → MeansBefore name (Some m)
    of_import : (o : Origin) {m : Meaning}
        → Brings tables (λ n. is_some (find_name n exported)) front name.name o m
        → MeansBefore name (Some m)
    -- Nothing else that is known there has code.
    without_code : StandsWithoutCode (names name) → MeansBefore name None

-- The variables and procedures of the definition are the first ones.
abbrev pub before_module : (home : ℕ) → List Entry → (Ident → Option Meaning) → Before
before_module home exported of_names = record {
  home = home;
  level = 0;
  variables = length (variable_types exported);
  procedures = length (heading_types exported);
  nested = 0;
  of_names = of_names;
}

-- ---- where procedures stand

-- each put to its number, one after another
abbrev pub with_bodies : List Routine → List (ℕ × Routine) → List Routine
with_bodies ps rs = fold (λ ps r. slice_set ps r.0 r.1) ps rs

-- This many procedures stand at their numbers, and each number has one.
pub record ArePlaced (count : ℕ) (rs : List (ℕ × Routine)) (ps : List Routine) : Type 0 where
  pub before : List Routine
  pub counted : length before ≡ count
  pub put : ps ≡ with_bodies before rs
  pub each : (n : ℕ) → n < count → (r : Routine) × Among (n, r) rs

-- ---- the modules that a module imports

abbrev pub modules_of : Option Ident → List Ident → List (List ℕ)
modules_of None names = map (λ x. x.name) names
modules_of (Some m) names = m.name ∷ []

-- the names of the modules that imports name, in the order of the text
abbrev pub named_modules : List Import → List (List ℕ)
named_modules imports = flat_map (λ i. modules_of i.from i.names) imports

-- by the tables of the modules that can be imported, and by the modules that the definition
-- imports, with their numbers
module _ (tables : List Table) (of_definition : List (List ℕ × ℕ)) where
  abbrev pub IsTable : List ℕ → Table → ℕ → Type 0
  IsTable n t k = IsFoundAt (λ t. t.name ≡ n) t tables k

  -- what the typed tree has of a module
  pub data IsImported (n : List ℕ) : List ImportedModule → Type 0 where
    -- Console has no module.
    of_console : is_console n ≡ true → IsImported n []
    -- its number, and the types of the variables that it exports
    of_table : {t : Table} {k : ℕ} → is_console n ≡ false → IsTable n t k
        → IsImported n (record {
          name = t.name;
          number = t.number;
          variables = variable_types t.exported;
        } ∷ [])
    -- The body names none of its variables if the definition alone imports it.
    of_definition_alone : {k : ℕ} → is_console n ≡ false
        → ((t : Table) (k : ℕ) → IsTable n t k → ⊥) → find_name n of_definition ≡ Some k
        → IsImported n (record { name = n; number = k; variables = [] } ∷ [])
    -- A module without a definition is refused.
    without_definition : ((t : Table) (k : ℕ) → IsTable n t k → ⊥)
        → find_name n of_definition ≡ None → IsImported n []

  -- each of these modules once, at its first place
  pub data AreImported : (before : List (List ℕ)) → List (List ℕ) → List ImportedModule
      → Type 0 where
    no_import : {before : List (List ℕ)} → AreImported before [] []
    one_import : {before : List (List ℕ)} {n : List ℕ} {ns : List (List ℕ)}
        {i is : List ImportedModule} → (Among n before → ⊥) → IsImported n i
        → AreImported (n ∷ before) ns is → AreImported before (n ∷ ns) (i ++ is)
    again : {before : List (List ℕ)} {n : List ℕ} {ns : List (List ℕ)}
        {is : List ImportedModule} → Among n before → AreImported before ns is
        → AreImported before (n ∷ ns) is

-- ---- modules

-- the typed tree of a module whose block is read; first the modules that its definition imports
pub record MeansModule (home : ℕ) (tables : List Table) (exported : List Entry)
    (of_definition : List (List ℕ × ℕ)) (m : Module) (exports : ℕ → Ident → Standing) {p : Place}
    {types end : Types} {b : Block} (read : Reads exports p types b end) (t : TypedModule)
    : Type 0 where
  pub of_name : t.name ≡ m.name.name
  pub of_pos : t.pos ≡ m.name.pos
  pub of_imports : AreImported tables of_definition []
      (map (λ e. e.0) of_definition ++ named_modules m.imports) t.imports
  pub of_types : t.types ≡ end
  -- what names mean where the block begins
  pub of_names : Ident → Option Meaning
  pub means : (name : Ident)
      → MeansBefore tables exported (all_imported m.imports) p.names name (of_names name)
  pub routines : Routines
  pub variables : List TypeNo
  pub of_block : MeansBlock exports (exported_in tables) read (before_module home exported of_names)
      None routines variables t.body
  pub of_variables : t.variables ≡ variable_types exported ++ variables
  pub of_procedures : ArePlaced (length (heading_types exported)
      + length (new_headings p.awaited (headings_in (out-Block b).decls))) routines.procedures
      t.procedures
  pub of_locals : t.locals ≡ routines.locals
  pub of_order : t.order ≡ routines.order
