-- Operations of check_value, with other numbers of modules.
use Rattle.check_const.specs.Operate.{binary}
use Rattle.check_const.specs.declared.operand.Operand.{Operand}
use Rattle.check_const.specs.declared.operator.BinaryOp.{BinaryOp}
use Rattle.check_scope.specs.Elaborated.{Gathers}
use Rattle.check_value.specs.Operations.{of_value, member, constant_result, with_partner, partner_of, on_sets, set_in, fitting_both, operation_on, routine_of, operation_between, on_procedures, with_set, set_built, truth_of, with_scalar, equality_of, element_fits, fitting_of, step_or_refusal, divisor_of, set_step_of, by_known, on_amounts, between, step_result}
use Rattle.check_value.specs.declared.computed.Computed.{Computed}
use Rattle.check_value.specs.declared.operate.SetStep.{SetStep}
use Rattle.check_value.specs.declared.operate.Step.{Step}
use Rattle.check_value.specs.declared.side.Amount.{Amount}
use Rattle.check_value.specs.declared.side.Amount.TheVariants.{Known, Run}
use Rattle.check_value.specs.declared.side.Side.{Side}
use Rattle.def_exchange.specs.Moved.{moved_procedure, moved_type, moved_types, moved_value, Exchange}
use Rattle.law_exchange_types.proofs.Agreement.{headings_agree_moves}
use Rattle.law_exchange_types.proofs.Basics.{then_map, map_then, where_moves, same_moves as are_same_moves, both_moves}
use Rattle.law_exchange_types.proofs.Common.{common_moves}
use Rattle.law_exchange_types.proofs.Operands.{is_number_moves}
use Rattle.law_exchange_types.proofs.Operate.{fitting_moves, takes_moves, binary_moves}
use Rattle.law_exchange_types.proofs.Sides.{or_cardinal_moves, run_of_moves, sort_of_moves, side_of_moves, known_of_moves}
use Rattle.law_exchange_types.proofs.Trees.{link_operand_moves, link_Arithmetic, link_And, link_Or, expr_Compare, expr_In, link_Combine, expr_Include, expr_Procedure}
use Rattle.law_exchange_types.specs.Constants.{moved_operand}
use Rattle.law_exchange_types.specs.Pieces.{map_ok, moved_pair, same}
use Rattle.law_exchange_types.specs.Trees.{moved_expr}
use Rattle.law_exchange_types.specs.Values.{moved_amount, moved_computed, moved_side}
use Rattle.m2_tree.specs.declared.pos.Pos.{Pos}
use Rattle.std.proofs.Common.{◌≡◌, refl, Bool, None, Option, Result, Some, ap, ap₂, option_map, sym, ◌∙◌}
use Rattle.typed_tree.specs.declared.computed.Comparison.{Comparison}
use Rattle.typed_tree.specs.declared.computed.TypedExpr.{TypedExpr}
use Rattle.typed_tree.specs.declared.known_types.Types.{Types}
use Rattle.typed_tree.specs.declared.meaning.Procedure.{Procedure}
use Rattle.typed_tree.specs.declared.meaning.Value.{Value}
use Rattle.typed_tree.specs.declared.types.TypeNo.{TypeNo}
use Rattle.typed_tree.specs.declared.computed.Link.TheVariants as link
use Rattle.typed_tree.specs.declared.computed.TypedExpr.TheVariants as expr
use Rattle.check_value.specs.declared.side.Side.TheVariants as side
use Rattle.check_value.specs.declared.operate.Step.TheVariants as step
use Rattle.check_value.specs.declared.operate.SetStep.TheVariants as set_step
use Rattle.law_exchange_types.proofs.Trees.{expr_Procedure}

pub of_value_moves : (z : Exchange) {T : Type 0} (v : Result Value T)
    → of_value (map_ok (moved_value z) v) ≡ map_ok (moved_computed z) (of_value v)
of_value_moves z v = simp (then_map, map_then)

pub truth_of_moves : (z : Exchange) (e : TypedExpr)
    → truth_of (moved_expr z e) ≡ moved_computed z (truth_of e)
truth_of_moves z e = refl

pub step_result_moves : (z : Exchange) (t : TypeNo) (x : TypedExpr) (y : TypedExpr) (a3 : Step)
    → step_result (moved_type z t) (moved_expr z x) (moved_expr z y) a3 ≡ moved_computed z (step_result t x y a3)
step_result_moves z t x y (step.Arithmetic o) = simp (link_operand_moves z x (link.Arithmetic o t y), link_Arithmetic)
step_result_moves z t x y step.And = simp (link_operand_moves z x (link.And y), link_And)
step_result_moves z t x y step.Or = simp (link_operand_moves z x (link.Or y), link_Or)
step_result_moves z t x y (step.Compare c) = simp (expr_Compare)

pub fitting_of_moves : (z : Exchange) (g : Gathers) (sort : Option TypeNo) (at : Pos) (a2 : Amount)
    → fitting_of g (option_map (moved_type z) sort) at (moved_amount z a2) ≡ fitting_of g sort at a2
fitting_of_moves z g sort at (Known a) = fitting_moves z g sort at a
fitting_of_moves z g sort at (Run b e) = refl

pub divisor_of_moves : (z : Exchange) (g : Gathers) (op : BinaryOp) (spot : Pos) (a2 : Amount)
    → divisor_of g op spot (moved_amount z a2) ≡ divisor_of g op spot a2
divisor_of_moves z g op spot (Known b) = refl
divisor_of_moves z g op spot (Run b e) = refl

pub fitting_both_moves : (z : Exchange) (g : Gathers) (op : BinaryOp) (spot : Pos) (sort : Option TypeNo) (at : Pos)
    (a : Amount) (at' : Pos) (b : Amount)
    → fitting_both g op spot (option_map (moved_type z) sort) at (moved_amount z a) at' (moved_amount z b)
    ≡ fitting_both g op spot sort at a at' b
fitting_both_moves z g op spot sort at a at' b = simp (takes_moves, divisor_of_moves, fitting_of_moves)

pub step_or_refusal_moves : (z : Exchange) (g : Gathers) (spot : Pos) (sort : Option TypeNo) (a : Amount) (b : Amount)
    (a4 : Option Step)
    → step_or_refusal g spot (option_map (moved_type z) sort) (moved_amount z a) (moved_amount z b) a4
    ≡ map_ok (moved_computed z) (step_or_refusal g spot sort a b a4)
step_or_refusal_moves z g spot sort a b None = refl
step_or_refusal_moves z g spot sort a b (Some o) = simp (step_result_moves, or_cardinal_moves, run_of_moves)

pub on_amounts_moves : (z : Exchange) (g : Gathers) (op : BinaryOp) (spot : Pos) (at : Pos) (a : Amount) (at' : Pos)
    (b : Amount) (a6 : Option (Option TypeNo))
    → on_amounts g op spot at (moved_amount z a) at' (moved_amount z b) (option_map (option_map (moved_type z)) a6)
    ≡ map_ok (moved_computed z) (on_amounts g op spot at a at' b a6)
on_amounts_moves z g op spot at a at' b None = refl
on_amounts_moves z g op spot at a at' b (Some sort) = simp (fitting_both_moves, step_or_refusal_moves, map_then)

pub element_fits_moves : (z : Exchange) (g : Gathers) (at : Pos) (a1 : Amount)
    → element_fits g at (moved_amount z a1) ≡ element_fits g at a1
element_fits_moves z g at (Known a) = refl
element_fits_moves z g at (Run b e) = refl

pub member_moves : (z : Exchange) (g : Gathers) (op : BinaryOp) (spot : Pos) (at : Pos) (a : Amount) (s : TypedExpr)
    → member g op spot at (moved_amount z a) (moved_expr z s) ≡ map_ok (moved_computed z) (member g op spot at a s)
member_moves z g op spot at a s = simp (
  is_number_moves,
  sort_of_moves,
  element_fits_moves,
  expr_In,
  run_of_moves,
  or_cardinal_moves,
  map_then,
  where_moves,
)

pub set_built_moves : (z : Exchange) (x : TypedExpr) (y : TypedExpr) (a2 : SetStep)
    → set_built (moved_expr z x) (moved_expr z y) a2 ≡ moved_computed z (set_built x y a2)
set_built_moves z x y (set_step.Combine o) = simp (link_operand_moves z x (link.Combine o y), link_Combine)
set_built_moves z x y (set_step.Compare c) = simp (expr_Compare)
set_built_moves z x y (set_step.Include i) = simp (expr_Include)

pub on_sets_moves : (z : Exchange) (g : Gathers) (spot : Pos) (x : TypedExpr) (y : TypedExpr) (a3 : Option SetStep)
    → on_sets g spot (moved_expr z x) (moved_expr z y) a3 ≡ map_ok (moved_computed z) (on_sets g spot x y a3)
on_sets_moves z g spot x y None = refl
on_sets_moves z g spot x y (Some o) = simp (set_built_moves)

pub on_procedures_moves : (z : Exchange) (g : Gathers) (spot : Pos) (fit : Bool) (x : TypedExpr) (y : TypedExpr)
    (a3 : Option Comparison)
    → on_procedures g spot fit (moved_expr z x) (moved_expr z y) a3
    ≡ map_ok (moved_computed z) (on_procedures g spot fit x y a3)
on_procedures_moves z g spot fit x y None = refl
on_procedures_moves z g spot fit x y (Some c) = simp (expr_Compare, where_moves)

pub with_scalar_moves : (z : Exchange) (g : Gathers) (op : BinaryOp) (spot : Pos) (at : Pos) (a : Amount) (at' : Pos)
    (a5 : Option Side)
    → with_scalar g op spot at (moved_amount z a) at' (option_map (moved_side z) a5)
    ≡ map_ok (moved_computed z) (with_scalar g op spot at a at' a5)
with_scalar_moves z g op spot at a at' None = refl
with_scalar_moves z g op spot at a at' (Some (side.Scalar b)) = simp (on_amounts_moves, common_moves, sort_of_moves)
with_scalar_moves z g op spot at a at' (Some (side.Set s)) = member_moves z g op spot at a s
with_scalar_moves z g op spot at a at' (Some (side.Routine t e)) = refl
with_scalar_moves z g op spot at a at' (Some (side.Procedure p)) = refl

pub set_in_moves : (z : Exchange) (a0 : Option Side)
    → set_in (option_map (moved_side z) a0) ≡ option_map (moved_expr z) (set_in a0)
set_in_moves z None = refl
set_in_moves z (Some (side.Scalar b)) = refl
set_in_moves z (Some (side.Set s)) = refl
set_in_moves z (Some (side.Routine t e)) = refl
set_in_moves z (Some (side.Procedure p)) = refl

pub with_set_moves : (z : Exchange) (g : Gathers) (op : BinaryOp) (spot : Pos) (x : TypedExpr) (a3 : Option TypedExpr)
    → with_set g op spot (moved_expr z x) (option_map (moved_expr z) a3)
    ≡ map_ok (moved_computed z) (with_set g op spot x a3)
with_set_moves z g op spot x None = refl
with_set_moves z g op spot x (Some s) = on_sets_moves z g spot x s (set_step_of op)

pub partner_of_moves : (z : Exchange) (types : Types) (t : TypeNo) (a2 : Option Side)
    → partner_of (moved_types z types) (moved_type z t) (option_map (moved_side z) a2)
    ≡ option_map (moved_pair same (moved_expr z)) (partner_of types t a2)
partner_of_moves z types t None = refl
partner_of_moves z types t (Some (side.Scalar b)) = refl
partner_of_moves z types t (Some (side.Set s)) = refl
partner_of_moves z types t (Some (side.Routine u e)) = simp (are_same_moves)
partner_of_moves z types t (Some (side.Procedure p)) = simp (headings_agree_moves, expr_Procedure)

pub routine_of_moves : (z : Exchange) (types : Types) (p : Procedure) (a2 : Option Side)
    → routine_of (moved_types z types) (moved_procedure z p) (option_map (moved_side z) a2)
    ≡ option_map (moved_pair same (moved_expr z)) (routine_of types p a2)
routine_of_moves z types p None = refl
routine_of_moves z types p (Some (side.Scalar b)) = refl
routine_of_moves z types p (Some (side.Set s)) = refl
routine_of_moves z types p (Some (side.Routine t e)) = simp (headings_agree_moves)
routine_of_moves z types p (Some (side.Procedure q)) = refl

pub with_partner_moves : (z : Exchange) (g : Gathers) (spot : Pos) (x : TypedExpr) (c : Option Comparison)
    (a3 : Option (Bool × TypedExpr))
    → with_partner g spot (moved_expr z x) c (option_map (moved_pair same (moved_expr z)) a3)
    ≡ map_ok (moved_computed z) (with_partner g spot x c a3)
with_partner_moves z g spot x c None = refl
with_partner_moves z g spot x c (Some p) = on_procedures_moves z g spot p.0 x p.1 c

pub between_moves : (z : Exchange) (g : Gathers) (types : Types) (op : BinaryOp) (spot : Pos) (at : Pos)
    (a4 : Option Side) (at' : Pos) (y : Option Side)
    → between g (moved_types z types) op spot at (option_map (moved_side z) a4) at' (option_map (moved_side z) y)
    ≡ map_ok (moved_computed z) (between g types op spot at a4 at' y)
between_moves z g types op spot at None at' y = refl
between_moves z g types op spot at (Some (side.Scalar a)) at' y = with_scalar_moves z g op spot at a at' y
between_moves z g types op spot at (Some (side.Set e)) at' y = simp (with_set_moves, set_in_moves)
between_moves z g types op spot at (Some (side.Routine t e)) at' y =
    ap (λ (o : Option (Bool × TypedExpr)). with_partner g spot (moved_expr z e) (equality_of op) o)
    (partner_of_moves z types t y)
    ∙ with_partner_moves z g spot e (equality_of op) (partner_of types t y)
between_moves z g types op spot at (Some (side.Procedure p)) at' y =
    ap₂ (λ (e : TypedExpr) (o : Option (Bool × TypedExpr)). with_partner g spot e (equality_of op) o)
    (sym (expr_Procedure z p)) (routine_of_moves z types p y)
    ∙ with_partner_moves z g spot (expr.Procedure p) (equality_of op) (routine_of types p y)

pub constant_result_moves : (z : Exchange) (g : Gathers) (op : BinaryOp) (spot : Pos) (at : Pos) (a : Operand)
    (at' : Pos) (b : Operand)
    → constant_result g op spot at (moved_operand z a) at' (moved_operand z b)
    ≡ map_ok (moved_computed z) (constant_result g op spot at a at' b)
constant_result_moves z g op spot at a at' b =
    simp (
      of_value_moves z (binary g op spot at (Some a) at' (Some b)),
      binary_moves z g op spot at (Some a) at'
          (Some b),
    )

pub by_known_moves : (z : Exchange) (g : Gathers) (types : Types) (op : BinaryOp) (spot : Pos) (at : Pos) (x : Computed)
    (at' : Pos) (y : Computed) (a7 : Option Operand) (b : Option Operand)
    → by_known g (moved_types z types) op spot at (moved_computed z x) at' (moved_computed z y)
    (option_map (moved_operand z) a7) (option_map (moved_operand z) b)
    ≡ map_ok (moved_computed z) (by_known g types op spot at x at' y a7 b)
by_known_moves z g types op spot at x at' y None b = simp (between_moves, side_of_moves)
by_known_moves z g types op spot at x at' y (Some a) None = simp (between_moves, side_of_moves)
by_known_moves z g types op spot at x at' y (Some a) (Some b) = constant_result_moves z g op spot at a at' b

pub operation_on_moves : (z : Exchange) (g : Gathers) (types : Types) (op : BinaryOp) (spot : Pos) (at : Pos)
    (x : Computed) (at' : Pos) (y : Computed)
    → operation_on g (moved_types z types) op spot at (moved_computed z x) at' (moved_computed z y)
    ≡ map_ok (moved_computed z) (operation_on g types op spot at x at' y)
operation_on_moves z g types op spot at x at' y = simp (by_known_moves, known_of_moves)

pub operation_between_moves : (z : Exchange) (g : Gathers) (types : Types) (op : BinaryOp) (spot : Pos) (at : Pos)
    (x : Result Computed g.Reported) (at' : Pos) (y : Result Computed g.Reported)
    → operation_between g (moved_types z types) op spot at (map_ok (moved_computed z) x) at'
    (map_ok (moved_computed z) y) ≡ map_ok (moved_computed z) (operation_between g types op spot at x at' y)
operation_between_moves z g types op spot at x at' y = simp (operation_on_moves, then_map, map_then, both_moves)
