-- Denote of check_const, with other numbers of modules.
use Rattle.check_const.specs.Denote.{constant_by, denoted_by, is_bitset, exported_meaning, of_value, component, exported_by, export_of, as_constant, denoted_of}
use Rattle.check_const.specs.declared.denoted.Denoted.{Denoted}
use Rattle.check_scope.specs.Elaborated.{Gathers}
use Rattle.check_scope.specs.declared.meaningless.Meaningless.{Meaningless}
use Rattle.check_scope.specs.declared.meaningless.Meaningless.TheVariants.{Broken, Headless}
use Rattle.def_exchange.specs.Moved.{moved_meaning, moved_table, moved_value, Exchange}
use Rattle.law_exchange_types.proofs.Basics.{then_map, map_then, same_moves as are_same_moves}
use Rattle.law_exchange_types.specs.Constants.{moved_denoted}
use Rattle.law_exchange_types.specs.Pieces.{map_ok}
use Rattle.m2_tree.specs.declared.name.Ident.{Ident}
use Rattle.m2_tree.specs.declared.pos.Pos.{Pos}
use Rattle.std.proofs.Common.{◌≡◌, refl, Err, List, None, Ok, Option, Result, Some, map, option_map, ℕ}
use Rattle.std.proofs.lemmas.Option.{slice_get-map}
use Rattle.typed_tree.specs.Types.{bitset}
use Rattle.typed_tree.specs.declared.meaning.Meaning.{Meaning}
use Rattle.typed_tree.specs.declared.meaning.Value.{Value}
use Rattle.typed_tree.specs.declared.table.Table.{Table}
use Rattle.typed_tree.specs.declared.meaning.Meaning.TheVariants as meaning
use Rattle.check_const.specs.declared.denoted.Denoted.TheVariants as denoted
use Rattle.law_exchange_types.proofs.Basics.{find_moves}

pub denoted_by_moves : (z : Exchange) (a0 : Meaning)
    → denoted_by (moved_meaning z a0) ≡ moved_denoted z (denoted_by a0)
denoted_by_moves z (meaning.Constant v) = refl
denoted_by_moves z (meaning.Type t n) = refl
denoted_by_moves z (meaning.Variable v) = refl
denoted_by_moves z (meaning.Local v) = refl
denoted_by_moves z (meaning.Field f) = refl
denoted_by_moves z (meaning.Procedure p) = refl
denoted_by_moves z (meaning.LocalProcedure p) = refl
denoted_by_moves z meaning.Ahead = refl
denoted_by_moves z (meaning.Standard f) = refl
denoted_by_moves z (meaning.Module k) = refl

pub denoted_of_moves : (z : Exchange) {T : Type 0} (a0 : Result Meaning (Meaningless T))
    → denoted_of (map_ok (moved_meaning z) a0) ≡ map_ok (moved_denoted z) (denoted_of a0)
denoted_of_moves z (Ok m) = simp (denoted_by_moves)
denoted_of_moves z (Err (Broken e)) = refl
denoted_of_moves z (Err (Headless nested e)) = refl

pub as_constant_moves : (z : Exchange) (g : Gathers) (at : Pos) (a1 : Denoted)
    → as_constant g at (moved_denoted z a1) ≡ map_ok (moved_value z) (as_constant g at a1)
as_constant_moves z g at (denoted.Value v) = refl
as_constant_moves z g at (denoted.Type t) = refl
as_constant_moves z g at denoted.Variable = refl
as_constant_moves z g at denoted.Procedure = refl
as_constant_moves z g at (denoted.Standard f) = refl
as_constant_moves z g at (denoted.Module k) = refl

pub constant_by_moves : (z : Exchange) (g : Gathers) (at : Pos) (d : Result Denoted g.Reported)
    → constant_by g at (map_ok (moved_denoted z) d) ≡ map_ok (moved_value z) (constant_by g at d)
constant_by_moves z g at d = simp (as_constant_moves, then_map, map_then)

pub of_value_moves : (z : Exchange) {T : Type 0} (v : Result Value T)
    → of_value (map_ok (moved_value z) v) ≡ map_ok (moved_denoted z) (of_value v)
of_value_moves z v = simp (then_map, map_then)

pub is_bitset_moves : (z : Exchange) (g : Gathers) (at : Pos) (a1 : Meaning)
    → is_bitset g at (moved_meaning z a1) ≡ is_bitset g at a1
is_bitset_moves z g at (meaning.Type t n) = simp (are_same_moves z t bitset)
is_bitset_moves z g at (meaning.Constant v) = refl
is_bitset_moves z g at (meaning.Variable v) = refl
is_bitset_moves z g at (meaning.Local v) = refl
is_bitset_moves z g at (meaning.Field f) = refl
is_bitset_moves z g at (meaning.Procedure p) = refl
is_bitset_moves z g at (meaning.LocalProcedure p) = refl
is_bitset_moves z g at meaning.Ahead = refl
is_bitset_moves z g at (meaning.Standard f) = refl
is_bitset_moves z g at (meaning.Module k) = refl

pub component_moves : (z : Exchange) (g : Gathers) (at : Pos) (a1 : Denoted)
    → component g at (moved_denoted z a1) ≡ map_ok (moved_denoted z) (component g at a1)
component_moves z g at denoted.Variable = refl
component_moves z g at (denoted.Value v) = refl
component_moves z g at (denoted.Type t) = refl
component_moves z g at denoted.Procedure = refl
component_moves z g at (denoted.Standard f) = refl
component_moves z g at (denoted.Module k) = refl

pub exported_by_moves : (z : Exchange) (name : List ℕ) (t : Option Table)
    → exported_by name (option_map (moved_table z) t) ≡ option_map (moved_meaning z) (exported_by name t)
exported_by_moves z name None = refl
exported_by_moves z name (Some table) = find_moves (moved_meaning z) name table.exported

pub export_of_moves : (z : Exchange) (g : Gathers) (at : Pos) (a1 : Option Meaning)
    → export_of g at (option_map (moved_meaning z) a1) ≡ map_ok (moved_meaning z) (export_of g at a1)
export_of_moves z g at None = refl
export_of_moves z g at (Some m) = refl

pub exported_meaning_moves : (z : Exchange) (g : Gathers) (tables : List Table) (k : ℕ) (name : Ident)
    → exported_meaning g (map (moved_table z) tables) k name
    ≡ map_ok (moved_meaning z) (exported_meaning g tables k name)
exported_meaning_moves z g tables k name = simp (export_of_moves, exported_by_moves, slice_get-map)
