-- The names around every module, the module Console, and what is known where a module begins.
use Rattle.std.specs.Prelude.{ℕ, ℤ, pos, nat_eq, cond, List, [], ◌∷◌, length, codes, Ok}
use Rattle.std.specs.List.{fold}
use Rattle.std.specs.Map.{lookup}
use Rattle.std.specs.Option.{is_some}
use Rattle.indexmap.specs.IndexMap.{insert_entry}
use Rattle.typed_tree.specs.declared.shape.Made.{Made}
use Rattle.typed_tree.specs.declared.meaning.Value.TheVariants as value
use Rattle.typed_tree.specs.declared.meaning.Standard.TheVariants.{Abs, Cap, Chr, High, Max, Min, Odd, Ord, Val, Inc, Dec, Incl, Excl, Halt, Put}
use Rattle.typed_tree.specs.declared.meaning.Meaning.{Meaning}
use Rattle.typed_tree.specs.declared.meaning.Meaning.TheVariants as meaning
use Rattle.typed_tree.specs.declared.table.ModuleTypes.{ModuleTypes}
use Rattle.typed_tree.specs.declared.table.Table.{Table}
use Rattle.typed_tree.specs.Types.{integer, cardinal, boolean, char, bitset}
use Rattle.typed_tree.specs.Names.{enter_name}
use Rattle.check_scope.specs.declared.known.Origin.TheVariants.{Here}
use Rattle.check_scope.specs.declared.known.Known.{Known}
use Rattle.check_scope.specs.declared.known.Known.TheVariants.{Declared}
use Rattle.check_scope.specs.declared.scope.Block.{Block}
use Rattle.check_scope.specs.declared.scope.Scope.{Scope}

-- ---- predeclared names

module _ {T : Type 0} where
  abbrev pub predeclared_as : List ℕ → Meaning → List (List ℕ × Known T) → List (List ℕ × Known T)
  predeclared_as name m ns = enter_name name (Declared Here (Ok m)) ns

  abbrev pub with_types : List (List ℕ × Known T) → List (List ℕ × Known T)
  with_types ns =
      predeclared_as (codes "BITSET") (meaning.Type bitset 1)
      (predeclared_as (codes "CHAR") (meaning.Type char 1)
      (predeclared_as (codes "BOOLEAN") (meaning.Type boolean 1)
      (predeclared_as (codes "CARDINAL") (meaning.Type cardinal 1)
      (predeclared_as (codes "INTEGER") (meaning.Type integer 1) ns))))

abbrev pub truth : ℤ → Meaning
truth n = meaning.Constant (value.Scalar (record { of = boolean; base = boolean; number = n }))

module _ {T : Type 0} where
  abbrev pub with_truth : List (List ℕ × Known T) → List (List ℕ × Known T)
  with_truth ns =
      predeclared_as (codes "TRUE") (truth (pos 1))
      (predeclared_as (codes "FALSE") (truth (pos 0)) ns)

  abbrev pub with_functions : List (List ℕ × Known T) → List (List ℕ × Known T)
  with_functions ns =
      predeclared_as (codes "HIGH") (meaning.Standard High)
      (predeclared_as (codes "CHR") (meaning.Standard Chr)
      (predeclared_as (codes "CAP") (meaning.Standard Cap)
      (predeclared_as (codes "ABS") (meaning.Standard Abs) ns)))

  abbrev pub with_bounds : List (List ℕ × Known T) → List (List ℕ × Known T)
  with_bounds ns =
      predeclared_as (codes "VAL") (meaning.Standard Val)
      (predeclared_as (codes "ORD") (meaning.Standard Ord)
      (predeclared_as (codes "ODD") (meaning.Standard Odd)
      (predeclared_as (codes "MIN") (meaning.Standard Min)
      (predeclared_as (codes "MAX") (meaning.Standard Max) ns))))

  abbrev pub with_procedures : List (List ℕ × Known T) → List (List ℕ × Known T)
  with_procedures ns =
      predeclared_as (codes "HALT") (meaning.Standard Halt)
      (predeclared_as (codes "EXCL") (meaning.Standard Excl)
      (predeclared_as (codes "INCL") (meaning.Standard Incl)
      (predeclared_as (codes "DEC") (meaning.Standard Dec)
      (predeclared_as (codes "INC") (meaning.Standard Inc) ns))))

  unfoldable pub predeclared_names : List (List ℕ × Known T)
  predeclared_names = with_procedures (with_bounds (with_functions (with_truth (with_types []))))

-- ---- Console

unfoldable pub console : Table
console = record {
  number = 4294967295;
  name = codes "Console";
  imports = [];
  exported = (codes "Put", meaning.Standard Put) ∷ [];
  reached = [];
}

-- ---- the types that can be met through tables: each module's once

abbrev pub with_reached : List (ℕ × List Made) → ModuleTypes → List (ℕ × List Made)
with_reached so m =
    cond (is_some (lookup (nat_eq m.number) so)) so (insert_entry nat_eq so m.number m.made)

abbrev pub with_table : List (ℕ × List Made) → Table → List (ℕ × List Made)
with_table so t = fold with_reached so t.reached

abbrev pub others_of : List Table → List (ℕ × List Made)
others_of tables = fold with_table [] tables

module _ {T : Type 0} where
  abbrev pub predeclared_block : Block T
  predeclared_block =
      record { names = predeclared_names {T = T}; seen = length (predeclared_names {T = T}) }

  abbrev pub first_scope : ℕ → List Table → Scope T
  first_scope home tables = record {
    tables = tables;
    types = record { home = home; own = []; others = others_of tables };
    variables = [];
    procedures = [];
    level = 0;
    own = [];
    outer = predeclared_block ∷ [];
    withs = [];
  }
