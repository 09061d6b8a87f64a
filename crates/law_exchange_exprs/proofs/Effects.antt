-- What assignments and standard procedures do, with other numbers of modules.
use Rattle.check_const.specs.declared.operand.Ordinal.{Ordinal}
use Rattle.check_scope.specs.Elaborated.{Gathers}
use Rattle.check_scope.specs.declared.meaningless.Meaningless.{Meaningless}
use Rattle.check_value.specs.Effects.{known_amount, amount, store_statement, change_target, set_as, assignment_to, assignment_of, target_of, change_target_as, type_of_number, set_element, set_variable, membership_of, element_known, put, change_by, target_at}
use Rattle.check_value.specs.declared.class.Class.{Class}
use Rattle.check_value.specs.declared.computed.Computed.{Computed}
use Rattle.check_value.specs.declared.computed.Designated.{Designated}
use Rattle.check_value.specs.declared.effect.Target.{Target}
use Rattle.check_value.specs.declared.places.Accepted.{Accepted}
use Rattle.def_exchange.specs.Moved.{moved_type, moved_types, Exchange}
use Rattle.law_exchange_exprs.proofs.Steps.{stmt_Assign, stmt_Copy, stmt_CopyText, stmt_Change, stmt_Membership, stmt_Put}
use Rattle.law_exchange_exprs.specs.Steps.{moved_stmt, moved_target}
use Rattle.law_exchange_types.proofs.Basics.{sort_moves as of_sort_moves, then_map, map_then, both_moves, cond_in, where_moves}
use Rattle.law_exchange_types.proofs.Classes.{class_at_moves}
use Rattle.law_exchange_types.proofs.Numeric.{is_numeric_moves}
use Rattle.law_exchange_types.proofs.Standards.{whole_number_moves}
use Rattle.law_exchange_types.proofs.Suits.{value_for_place_moves, value_suited_moves}
use Rattle.law_exchange_types.proofs.Trees.{expr_Constant}
use Rattle.law_exchange_types.specs.Constants.{moved_ordinal}
use Rattle.law_exchange_types.specs.Pieces.{map_ok, moved_pair}
use Rattle.law_exchange_types.specs.Trees.{moved_expr, moved_place}
use Rattle.law_exchange_types.specs.Values.{moved_accepted, moved_class, moved_computed, moved_designated}
use Rattle.m2_tree.specs.declared.pos.Pos.{Pos}
use Rattle.std.proofs.Common.{◌≡◌, refl, None, Option, Result, Some, option_map, ℤ}
use Rattle.typed_tree.specs.Types.{char}
use Rattle.typed_tree.specs.declared.computed.Place.{Place}
use Rattle.typed_tree.specs.declared.computed.TypedExpr.{TypedExpr}
use Rattle.typed_tree.specs.declared.known_types.Types.{Types}
use Rattle.typed_tree.specs.declared.statement.Change.{Change}
use Rattle.typed_tree.specs.declared.statement.Membership.{Membership}
use Rattle.typed_tree.specs.declared.types.TypeNo.{TypeNo}
use Rattle.m2_rule.specs.declared.rule.Rule.TheVariants as rule
use Rattle.check_value.specs.declared.class.Class.TheVariants as class
use Rattle.check_value.specs.declared.computed.Computed.TheVariants as value
use Rattle.check_value.specs.declared.computed.Designated.TheVariants as designated
use Rattle.check_value.specs.declared.places.Accepted.TheVariants as accepted
use Rattle.check_value.specs.declared.effect.Target.TheVariants as target

pub target_of_moves : (z : Exchange) (g : Gathers) (at : Pos) (a1 : Designated)
    → target_of g at (moved_designated z a1) ≡ map_ok (moved_target z) (target_of g at a1)
target_of_moves z g at (designated.Variable t d) = refl
target_of_moves z g at (designated.Open t slot) = refl
target_of_moves z g at (designated.Value x) = refl
target_of_moves z g at (designated.Type t) = refl
target_of_moves z g at (designated.Procedure p) = refl
target_of_moves z g at (designated.Nested p) = refl
target_of_moves z g at (designated.Standard f) = refl
target_of_moves z g at (designated.Module k) = refl

pub target_at_moves : (z : Exchange) (g : Gathers) (at : Pos) (d : Result Designated (Meaningless g.Reported))
    → target_at g at (map_ok (moved_designated z) d) ≡ map_ok (moved_target z) (target_at g at d)
target_at_moves z g at d = simp (of_sort_moves, target_of_moves, then_map, map_then)

pub store_statement_moves : (z : Exchange) (t : TypeNo) (d : Place) (a2 : Accepted)
    → store_statement (moved_type z t) (moved_place z d) (moved_accepted z a2) ≡ moved_stmt z (store_statement t d a2)
store_statement_moves z t d (accepted.Value e) = simp (stmt_Assign)
store_statement_moves z t d (accepted.Whole from) = simp (stmt_Copy)
store_statement_moves z t d (accepted.Text text) = simp (stmt_CopyText)

pub assignment_to_moves : (z : Exchange) (g : Gathers) (types : Types) (a1 : Target) (at : Pos) (x : Computed)
    → assignment_to g (moved_types z types) (moved_target z a1) at (moved_computed z x)
    ≡ map_ok (moved_stmt z) (assignment_to g types a1 at x)
assignment_to_moves z g types target.Open at x = refl
assignment_to_moves z g types (target.Variable t d) at x =
    simp (value_for_place_moves z g rule.NotAssignable types t at x, store_statement_moves, then_map, map_then)

pub assignment_of_moves : (z : Exchange) (g : Gathers) (types : Types) (left : Result Target g.Reported) (at : Pos)
    (x : Result Computed g.Reported)
    → assignment_of g (moved_types z types) (map_ok (moved_target z) left) at (map_ok (moved_computed z) x)
    ≡ map_ok (moved_stmt z) (assignment_of g types left at x)
assignment_of_moves z g types left at x = simp (assignment_to_moves, then_map, map_then, both_moves)

pub change_target_as_moves : (z : Exchange) (g : Gathers) (at : Pos) (t : TypeNo) (d : Place) (a3 : Class)
    → change_target_as g at (moved_type z t) (moved_place z d) (moved_class z a3)
    ≡ map_ok (moved_pair (moved_type z) (moved_place z)) (change_target_as g at t d a3)
change_target_as_moves z g at t d (class.Scalar s) = refl
change_target_as_moves z g at t d class.Set = refl
change_target_as_moves z g at t d class.Procedure = refl
change_target_as_moves z g at t d class.Whole = refl

pub change_target_moves : (z : Exchange) (g : Gathers) (types : Types) (at : Pos) (a2 : Designated)
    → change_target g (moved_types z types) at (moved_designated z a2)
    ≡ map_ok (moved_pair (moved_type z) (moved_place z)) (change_target g types at a2)
change_target_moves z g types at (designated.Variable t d) = simp (change_target_as_moves, class_at_moves)
change_target_moves z g types at (designated.Value x) = refl
change_target_moves z g types at (designated.Open t slot) = refl
change_target_moves z g types at (designated.Type t) = refl
change_target_moves z g types at (designated.Procedure p) = refl
change_target_moves z g types at (designated.Nested p) = refl
change_target_moves z g types at (designated.Standard f) = refl
change_target_moves z g types at (designated.Module k) = refl

pub type_of_number_moves : (z : Exchange) (n : ℤ) (a1 : Option TypeNo)
    → type_of_number n (option_map (moved_type z) a1) ≡ moved_type z (type_of_number n a1)
type_of_number_moves z n None = simp (cond_in (moved_type z))
type_of_number_moves z n (Some t) = refl

pub known_amount_moves : (z : Exchange) (g : Gathers) (at : Pos) (a1 : Option Ordinal)
    → known_amount g at (option_map (moved_ordinal z) a1) ≡ map_ok (moved_expr z) (known_amount g at a1)
known_amount_moves z g at None = refl
known_amount_moves z g at (Some a) = simp (expr_Constant, type_of_number_moves)

pub amount_moves : (z : Exchange) (g : Gathers) (at : Pos) (a1 : Computed)
    → amount g at (moved_computed z a1) ≡ map_ok (moved_expr z) (amount g at a1)
amount_moves z g at (value.Constant v) = simp (known_amount_moves, whole_number_moves)
amount_moves z g at (value.Scalar t b e) = simp (is_numeric_moves, where_moves)
amount_moves z g at (value.Set e) = refl
amount_moves z g at (value.Routine t e) = refl
amount_moves z g at (value.Procedure p) = refl
amount_moves z g at (value.Whole t d) = refl
amount_moves z g at value.Untaken = refl

pub change_by_moves : (z : Exchange) (g : Gathers) (o : Change) (variable : Result (TypeNo × Place) g.Reported)
    (by : Result TypedExpr g.Reported)
    → change_by g o (map_ok (moved_pair (moved_type z) (moved_place z)) variable) (map_ok (moved_expr z) by)
    ≡ map_ok (moved_stmt z) (change_by g o variable by)
change_by_moves z g o variable by = simp (stmt_Change, then_map, map_then, both_moves)

pub set_as_moves : (z : Exchange) (g : Gathers) (at : Pos) (d : Place) (a2 : Class)
    → set_as g at (moved_place z d) (moved_class z a2) ≡ map_ok (moved_place z) (set_as g at d a2)
set_as_moves z g at d class.Set = refl
set_as_moves z g at d (class.Scalar s) = refl
set_as_moves z g at d class.Procedure = refl
set_as_moves z g at d class.Whole = refl

pub set_variable_moves : (z : Exchange) (g : Gathers) (types : Types) (at : Pos) (a2 : Designated)
    → set_variable g (moved_types z types) at (moved_designated z a2)
    ≡ map_ok (moved_place z) (set_variable g types at a2)
set_variable_moves z g types at (designated.Variable t d) = simp (set_as_moves, class_at_moves)
set_variable_moves z g types at (designated.Value x) = refl
set_variable_moves z g types at (designated.Open t slot) = refl
set_variable_moves z g types at (designated.Type t) = refl
set_variable_moves z g types at (designated.Procedure p) = refl
set_variable_moves z g types at (designated.Nested p) = refl
set_variable_moves z g types at (designated.Standard f) = refl
set_variable_moves z g types at (designated.Module k) = refl

pub element_known_moves : (z : Exchange) (g : Gathers) (at : Pos) (a1 : Option Ordinal)
    → element_known g at (option_map (moved_ordinal z) a1) ≡ map_ok (moved_expr z) (element_known g at a1)
element_known_moves z g at None = refl
element_known_moves z g at (Some a) = simp (expr_Constant, type_of_number_moves, where_moves)

pub set_element_moves : (z : Exchange) (g : Gathers) (at : Pos) (a1 : Computed)
    → set_element g at (moved_computed z a1) ≡ map_ok (moved_expr z) (set_element g at a1)
set_element_moves z g at (value.Constant v) = simp (element_known_moves, whole_number_moves)
set_element_moves z g at (value.Scalar t b e) = simp (is_numeric_moves, where_moves)
set_element_moves z g at (value.Set e) = refl
set_element_moves z g at (value.Routine t e) = refl
set_element_moves z g at (value.Procedure p) = refl
set_element_moves z g at (value.Whole t d) = refl
set_element_moves z g at value.Untaken = refl

pub membership_of_moves : (z : Exchange) (g : Gathers) (o : Membership) (set : Result Place g.Reported)
    (x : Result TypedExpr g.Reported)
    → membership_of g o (map_ok (moved_place z) set) (map_ok (moved_expr z) x)
    ≡ map_ok (moved_stmt z) (membership_of g o set x)
membership_of_moves z g o set x = simp (stmt_Membership, then_map, map_then, both_moves)

pub put_moves : (z : Exchange) (g : Gathers) (types : Types) (at : Pos) (x : Computed)
    → put g (moved_types z types) at (moved_computed z x) ≡ map_ok (moved_stmt z) (put g types at x)
put_moves z g types at x = simp (
  value_suited_moves z g rule.WrongArgument types char at x,
  stmt_Put,
  then_map,
  map_then,
)
