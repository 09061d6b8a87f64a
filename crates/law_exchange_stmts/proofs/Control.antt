-- The course of a FOR, with other numbers of modules.
use Rattle.check_const.specs.declared.operand.Ordinal.{Ordinal}
use Rattle.check_scope.specs.Elaborated.{Gathers, reported_where}
use Rattle.check_scope.specs.declared.scope.Scope.{Scope}
use Rattle.check_stmt_parts.specs.Control.{limit_number, limit_by, control_variable, control_by, base_of, is_own, controlled_as, start_at, step_by, repeated_for, course, control_of, type_of, step_number, limit_at}
use Rattle.check_stmt_parts.specs.declared.control.Control.{Control}
use Rattle.check_stmt_parts.specs.declared.control.Course.{Course}
use Rattle.check_value.specs.Values.{slot_of}
use Rattle.check_value.specs.declared.class.Class.{Class}
use Rattle.check_value.specs.declared.computed.Computed.{Computed}
use Rattle.check_value.specs.declared.side.Amount.TheVariants.{Known, Run}
use Rattle.check_value.specs.declared.side.Side.{Side}
use Rattle.def_exchange.specs.Moved.{moved_meaning, moved_type, moved_types, moved_value, Exchange}
use Rattle.law_exchange_exprs.proofs.Steps.{stmt_For}
use Rattle.law_exchange_exprs.specs.Steps.{moved_stmt}
use Rattle.law_exchange_stmts.specs.MovedStatements.{moved_control, moved_course}
use Rattle.law_exchange_types.proofs.Basics.{sort_moves as of_sort_moves, then_map, map_then, both_moves, both_left, where_moves}
use Rattle.law_exchange_types.proofs.Classes.{class_at_moves}
use Rattle.law_exchange_types.proofs.InScope.{looked_up_moves}
use Rattle.law_exchange_types.proofs.Numbers.{fits_moves}
use Rattle.law_exchange_types.proofs.Sides.{side_of_moves}
use Rattle.law_exchange_types.proofs.Standards.{whole_number_moves}
use Rattle.law_exchange_types.proofs.Suits.{value_suited_moves, sort_suits_moves, bases_suit_moves}
use Rattle.law_exchange_types.proofs.Trees.{expr_Constant}
use Rattle.law_exchange_types.specs.Constants.{moved_ordinal}
use Rattle.law_exchange_types.specs.Pieces.{map_ok}
use Rattle.law_exchange_types.specs.Scopes.{moved_scope}
use Rattle.law_exchange_types.specs.Trees.{moved_expr, moved_place}
use Rattle.law_exchange_types.specs.Values.{moved_class, moved_computed, moved_side}
use Rattle.m2_tree.specs.declared.name.Ident.{Ident}
use Rattle.m2_tree.specs.declared.pos.Pos.{Pos}
use Rattle.std.proofs.Common.{◌≡◌, refl, Bool, List, None, Option, Result, Some, ap, ap₂, map, not, option_map, sym, ℤ, ◌==◌, ◌&&◌, ◌∙◌}
use Rattle.typed_tree.specs.Chains.{root_place}
use Rattle.typed_tree.specs.declared.computed.Place.{Place}
use Rattle.typed_tree.specs.declared.computed.TypedExpr.{TypedExpr}
use Rattle.typed_tree.specs.declared.known_types.Types.{Types}
use Rattle.typed_tree.specs.declared.meaning.Meaning.{Meaning}
use Rattle.typed_tree.specs.declared.meaning.Value.{Value}
use Rattle.typed_tree.specs.declared.statement.TypedStmt.{TypedStmt}
use Rattle.typed_tree.specs.declared.types.TypeNo.{TypeNo}
use Rattle.m2_rule.specs.declared.rule.Rule.TheVariants as rule
use Rattle.typed_tree.specs.declared.computed.Root.TheVariants as root
use Rattle.typed_tree.specs.declared.meaning.Meaning.TheVariants as meaning
use Rattle.check_value.specs.declared.class.Class.TheVariants as class
use Rattle.check_value.specs.declared.side.Side.TheVariants as side
use Rattle.law_exchange_types.proofs.Basics.{same_number, where_moves}
use Rattle.law_exchange_types.proofs.Trees.{root_place_moves}

pub controlled_as_moves : (z : Exchange) (g : Gathers) (at : Pos) (t : TypeNo) (d : Place) (a3 : Class)
    → controlled_as g at (moved_type z t) (moved_place z d) (moved_class z a3)
    ≡ map_ok (moved_control z) (controlled_as g at t d a3)
controlled_as_moves z g at t d (class.Scalar s) = refl
controlled_as_moves z g at t d class.Set = refl
controlled_as_moves z g at t d class.Procedure = refl
controlled_as_moves z g at t d class.Whole = refl

pub control_variable_moves : (z : Exchange) (g : Gathers) (types : Types) (at : Pos) (t : TypeNo) (d : Place)
    → control_variable g (moved_types z types) at (moved_type z t) (moved_place z d)
    ≡ map_ok (moved_control z) (control_variable g types at t d)
control_variable_moves z g types at t d = simp (controlled_as_moves, class_at_moves)

pub control_by_moves : (z : Exchange) (g : Gathers) (s : Scope g.Reported) (at : Pos) (m : Meaning)
    → control_by g (moved_scope z s) at (moved_meaning z m) ≡ map_ok (moved_control z) (control_by g s at m)
control_by_moves z g s at (meaning.Constant v) = refl
control_by_moves z g s at (meaning.Type t n) = refl
control_by_moves z g s at (meaning.Variable v) =
    ap₂ (λ (b : Bool) (r : Result Control g.Reported). reported_where g (not b) at rule.WrongControl r)
    (same_number z v.home s.types.home)
    (ap (λ (d : Place). control_variable g (moved_types z s.types) at (moved_type z v.of) d)
    (sym (root_place_moves z (root.Global v)))
    ∙ control_variable_moves z g s.types at v.of (root_place (root.Global v)))
    ∙ sym (where_moves g (moved_control z) (not (v.home == s.types.home)) at rule.WrongControl
    (control_variable g s.types at v.of (root_place (root.Global v))))
control_by_moves z g s at (meaning.Local v) =
    ap (λ (r : Result Control g.Reported).
    reported_where g (not (is_own v.kind && (v.level == s.level))) at rule.WrongControl r)
    (ap (λ (d : Place). control_variable g (moved_types z s.types) at (moved_type z v.of) d)
    (sym (root_place_moves z (root.Local (slot_of s.level v))))
    ∙ control_variable_moves z g s.types at v.of (root_place (root.Local (slot_of s.level v))))
    ∙ sym (where_moves g (moved_control z) (not (is_own v.kind && (v.level == s.level))) at rule.WrongControl
    (control_variable g s.types at v.of (root_place (root.Local (slot_of s.level v)))))
control_by_moves z g s at (meaning.Field f) = refl
control_by_moves z g s at (meaning.Procedure p) = refl
control_by_moves z g s at (meaning.LocalProcedure p) = refl
control_by_moves z g s at meaning.Ahead = refl
control_by_moves z g s at (meaning.Standard f) = refl
control_by_moves z g s at (meaning.Module k) = refl

pub control_of_moves : (z : Exchange) (g : Gathers) (s : Scope g.Reported) (name : Ident)
    → control_of g (moved_scope z s) name ≡ map_ok (moved_control z) (control_of g s name)
control_of_moves z g s name = simp (of_sort_moves, looked_up_moves, control_by_moves, then_map, map_then)

pub start_at_moves : (z : Exchange) (g : Gathers) (types : Types) (at : Pos) (t : Result TypeNo g.Reported)
    (x : Result Computed g.Reported)
    → start_at g (moved_types z types) at (map_ok (moved_type z) t) (map_ok (moved_computed z) x)
    ≡ map_ok (moved_expr z) (start_at g types at t x)
start_at_moves z g types at t x = simp (value_suited_moves, then_map, map_then, both_moves)

pub limit_number_moves : (z : Exchange) (g : Gathers) (base : TypeNo) (at : Pos) (n : ℤ) (a3 : Option TypeNo)
    → limit_number g (moved_type z base) at n (option_map (moved_type z) a3)
    ≡ map_ok (moved_expr z) (limit_number g base at n a3)
limit_number_moves z g base at n None = simp (fits_moves z (Some base) n, expr_Constant, where_moves)
limit_number_moves z g base at n (Some t) = simp (expr_Constant)

pub limit_by_moves : (z : Exchange) (g : Gathers) (base : TypeNo) (at : Pos) (a2 : Option Side)
    → limit_by g (moved_type z base) at (option_map (moved_side z) a2) ≡ map_ok (moved_expr z) (limit_by g base at a2)
limit_by_moves z g base at None = refl
limit_by_moves z g base at (Some (side.Scalar (Known a))) = simp (sort_suits_moves, limit_number_moves, where_moves)
limit_by_moves z g base at (Some (side.Scalar (Run b e))) = simp (bases_suit_moves, where_moves)
limit_by_moves z g base at (Some (side.Set e)) = refl
limit_by_moves z g base at (Some (side.Routine t e)) = refl
limit_by_moves z g base at (Some (side.Procedure p)) = refl

pub limit_at_moves : (z : Exchange) (g : Gathers) (at : Pos) (base : Result TypeNo g.Reported)
    (x : Result Computed g.Reported)
    → limit_at g at (map_ok (moved_type z) base) (map_ok (moved_computed z) x)
    ≡ map_ok (moved_expr z) (limit_at g at base x)
limit_at_moves z g at base x =
    simp (limit_by_moves, side_of_moves, then_map, map_then, both_moves)

pub step_number_moves : (z : Exchange) (g : Gathers) (at : Pos) (a1 : Option Ordinal)
    → step_number g at (option_map (moved_ordinal z) a1) ≡ step_number g at a1
step_number_moves z g at None = refl
step_number_moves z g at (Some a) = refl

pub step_by_moves : (z : Exchange) (g : Gathers) (at : Pos) (v : Value)
    → step_by g at (moved_value z v) ≡ step_by g at v
step_by_moves z g at v = simp (step_number_moves, whole_number_moves)

pub type_of_moves : (z : Exchange) {T : Type 0} (v : Result Control T)
    → type_of (map_ok (moved_control z) v) ≡ map_ok (moved_type z) (type_of v)
type_of_moves z v = simp (then_map, map_then)

pub base_of_moves : (z : Exchange) {T : Type 0} (v : Result Control T)
    → base_of (map_ok (moved_control z) v) ≡ map_ok (moved_type z) (base_of v)
base_of_moves z v = simp (then_map, map_then)

pub course_moves : (z : Exchange) (g : Gathers) (v : Result Control g.Reported) (start : Result TypedExpr g.Reported)
    (limit : Result TypedExpr g.Reported) (by : Result ℤ g.Reported)
    → course g (map_ok (moved_control z) v) (map_ok (moved_expr z) start) (map_ok (moved_expr z) limit) by
    ≡ map_ok (moved_course z) (course g v start limit by)
course_moves z g v start limit by = simp (then_map, map_then, both_moves, both_left)

pub repeated_for_moves : (z : Exchange) (g : Gathers) (c : Result Course g.Reported)
    (body : Result (List TypedStmt) g.Reported)
    → repeated_for g (map_ok (moved_course z) c) (map_ok (map (moved_stmt z)) body)
    ≡ map_ok (moved_stmt z) (repeated_for g c body)
repeated_for_moves z g c body = simp (stmt_For, then_map, map_then, both_moves)
