-- Meanings of check_expr, with other numbers of modules.
use Rattle.check_expr.specs.Meanings.{formals_of, value_standing, signed_first, passed_for, first_name, name_in_module, index_at, of_computed, field_of, relation_value, argument_by, field_at, type_of, call_given, type_in}
use Rattle.check_scope.specs.Elaborated.{Gathers, of_sort, plain, ◌▷◌}
use Rattle.check_scope.specs.declared.meaningless.Meaningless.{Meaningless}
use Rattle.check_scope.specs.declared.scope.Scope.{Scope}
use Rattle.check_value.specs.Callees.{call_by}
use Rattle.check_value.specs.Selection.{indices, element_at_index}
use Rattle.check_value.specs.Values.{function_result}
use Rattle.check_value.specs.declared.callee.Callee.{Callee}
use Rattle.check_value.specs.declared.computed.Computed.{Computed}
use Rattle.check_value.specs.declared.computed.Designated.{Designated}
use Rattle.def_exchange.specs.Moved.{moved_formal, moved_signature, moved_type, moved_types, Exchange}
use Rattle.law_exchange_types.proofs.Actuals.{actual_moves}
use Rattle.law_exchange_types.proofs.Basics.{plain_moves, then_map, map_then, value_moves as of_value_moves, sort_moves as of_sort_moves, cond_ok}
use Rattle.law_exchange_types.proofs.Callees.{call_by_moves}
use Rattle.law_exchange_types.proofs.Denote.{exported_meaning_moves}
use Rattle.law_exchange_types.proofs.InScope.{looked_up_moves}
use Rattle.law_exchange_types.proofs.Operations.{operation_between_moves}
use Rattle.law_exchange_types.proofs.Selection.{field_moves, element_at_index_moves, indices_moves}
use Rattle.law_exchange_types.proofs.Signs.{with_sign_moves}
use Rattle.law_exchange_types.proofs.Trees.{expr_Call}
use Rattle.law_exchange_types.proofs.Valued.{value_at_place_moves, designated_by_moves, function_result_moves}
use Rattle.law_exchange_types.specs.Pieces.{map_ok}
use Rattle.law_exchange_types.specs.Scopes.{moved_scope}
use Rattle.law_exchange_types.specs.Trees.{moved_argument}
use Rattle.law_exchange_types.specs.Values.{moved_callee, moved_computed, moved_designated, moved_subscripted}
use Rattle.m2_tree.specs.declared.expr.Operator.{Operator}
use Rattle.m2_tree.specs.declared.expr.RelOp.{RelOp}
use Rattle.m2_tree.specs.declared.expr.Sign.{Sign}
use Rattle.m2_tree.specs.declared.name.Ident.{Ident}
use Rattle.m2_tree.specs.declared.pos.Pos.{Pos}
use Rattle.std.proofs.Common.{◌≡◌, refl, List, None, Ok, Option, Result, Some, ap, map, option_map, sym, ℕ, ◌∙◌}
use Rattle.typed_tree.specs.declared.computed.Argument.{Argument}
use Rattle.typed_tree.specs.declared.known_types.Types.{Types}
use Rattle.typed_tree.specs.declared.shape.Formal.{Formal}
use Rattle.typed_tree.specs.declared.shape.Signature.{Signature}
use Rattle.typed_tree.specs.declared.types.TypeNo.{TypeNo}
use Rattle.m2_rule.specs.declared.rule.Rule.TheVariants as rule
use Rattle.typed_tree.specs.declared.computed.TypedExpr.TheVariants as expr
use Rattle.check_const.specs.declared.operator.BinaryOp.TheVariants as op
use Rattle.check_value.specs.declared.computed.Designated.TheVariants as designated
use Rattle.law_exchange_types.proofs.Basics.{then_moves, plain_moves, sort_moves}
use Rattle.check_value.specs.declared.select.Subscripted.{Subscripted}

pub of_computed_moves : (z : Exchange) {T : Type 0} (x : Result Computed T)
    → of_computed (map_ok (moved_computed z) x) ≡ map_ok (moved_designated z) (of_computed x)
of_computed_moves z x = simp (plain_moves, then_map, map_then)

pub value_standing_moves : (z : Exchange) (g : Gathers) (types : Types) (at : Pos)
    (d : Result Designated (Meaningless g.Reported))
    → value_standing g (moved_types z types) at (map_ok (moved_designated z) d)
    ≡ map_ok (moved_computed z) (value_standing g types at d)
value_standing_moves z g types at d = simp (of_value_moves, value_at_place_moves, then_map, map_then)

pub signed_first_moves : (z : Exchange) (g : Gathers) (a0 : Option (Operator Sign)) (x : Result Computed g.Reported)
    → signed_first g a0 (map_ok (moved_computed z) x) ≡ map_ok (moved_computed z) (signed_first g a0 x)
signed_first_moves z g None x = refl
signed_first_moves z g (Some o) x = with_sign_moves z g o.op o.pos x

pub relation_value_moves : (z : Exchange) (g : Gathers) (types : Types) (o : Operator RelOp) (at : Pos)
    (x : Result Computed g.Reported) (at' : Pos) (y : Result Computed g.Reported)
    → relation_value g (moved_types z types) o at (map_ok (moved_computed z) x) at' (map_ok (moved_computed z) y)
    ≡ map_ok (moved_computed z) (relation_value g types o at x at' y)
relation_value_moves z g types o at x at' y = operation_between_moves z g types (op.Relation o.op) o.pos at x at' y

pub first_name_moves : (z : Exchange) (g : Gathers) (s : Scope g.Reported) (name : Ident)
    → first_name g (moved_scope z s) name ≡ map_ok (moved_designated z) (first_name g s name)
first_name_moves z g s name = simp (looked_up_moves, plain_moves, designated_by_moves, then_map, map_then)

pub name_in_module_moves : (z : Exchange) (g : Gathers) (s : Scope g.Reported) (k : ℕ) (name : Ident)
    → name_in_module g (moved_scope z s) k name ≡ map_ok (moved_designated z) (name_in_module g s k name)
name_in_module_moves z g s k name = simp (exported_meaning_moves, designated_by_moves, then_map, map_then)

pub field_of_moves : (z : Exchange) (g : Gathers) (s : Scope g.Reported) (at : Pos) (name : Ident) (a3 : Designated)
    → field_of g (moved_scope z s) at name (moved_designated z a3)
    ≡ map_ok (moved_designated z) (field_of g s at name a3)
field_of_moves z g s at name (designated.Module k) = name_in_module_moves z g s k name
field_of_moves z g s at name (designated.Value x) = field_moves z g s.types at name (designated.Value x)
field_of_moves z g s at name (designated.Variable t d) = field_moves z g s.types at name (designated.Variable t d)
field_of_moves z g s at name (designated.Open t slot) = field_moves z g s.types at name (designated.Open t slot)
field_of_moves z g s at name (designated.Type t) = field_moves z g s.types at name (designated.Type t)
field_of_moves z g s at name (designated.Procedure p) = field_moves z g s.types at name (designated.Procedure p)
field_of_moves z g s at name (designated.Nested p) = field_moves z g s.types at name (designated.Nested p)
field_of_moves z g s at name (designated.Standard f) = field_moves z g s.types at name (designated.Standard f)

pub field_at_moves : (z : Exchange) (g : Gathers) (s : Scope g.Reported) (at : Pos) (name : Ident)
    (d : Result Designated (Meaningless g.Reported))
    → field_at g (moved_scope z s) at name (map_ok (moved_designated z) d)
    ≡ map_ok (moved_designated z) (field_at g s at name d)
field_at_moves z g s at name d =
    ap (λ (u : Result Designated g.Reported). plain (u ▷ field_of g (moved_scope z s) at name))
    (sort_moves g (moved_designated z) at rule.WrongType d)
    ∙ (ap plain (then_moves (moved_designated z) (moved_designated z) (of_sort g at rule.WrongType d)
    (field_of g s at name) (field_of g (moved_scope z s) at name) (field_of_moves z g s at name))
    ∙ sym (plain_moves (moved_designated z) (of_sort g at rule.WrongType d ▷ field_of g s at name)))

pub index_at_moves : (z : Exchange) (g : Gathers) (types : Types) (at : Pos)
    (d : Result Designated (Meaningless g.Reported)) (at' : Pos) (x : Result Computed g.Reported)
    → index_at g (moved_types z types) at (map_ok (moved_designated z) d) at' (map_ok (moved_computed z) x)
    ≡ map_ok (moved_designated z) (index_at g types at d at' x)
index_at_moves z g types at d at' x =
    ap plain (ap (λ (a : Result Subscripted g.Reported).
    element_at_index g (moved_types z types) a at' (map_ok (moved_computed z) x))
    (ap (λ (u : Result Designated g.Reported). u ▷ indices g (moved_types z types) at)
    (sort_moves g (moved_designated z) at rule.WrongType d)
    ∙ then_moves (moved_designated z) (moved_subscripted z) (of_sort g at rule.WrongType d)
    (indices g types at) (indices g (moved_types z types) at) (indices_moves z g types at))
    ∙ element_at_index_moves z g types (of_sort g at rule.WrongType d ▷ indices g types at) at' x)
    ∙ sym (plain_moves (moved_designated z)
    (element_at_index g types (of_sort g at rule.WrongType d ▷ indices g types at) at' x))

pub type_in_moves : (z : Exchange) (a0 : Designated)
    → type_in (moved_designated z a0) ≡ option_map (moved_type z) (type_in a0)
type_in_moves z (designated.Type t) = refl
type_in_moves z (designated.Value x) = refl
type_in_moves z (designated.Variable t d) = refl
type_in_moves z (designated.Open t slot) = refl
type_in_moves z (designated.Procedure p) = refl
type_in_moves z (designated.Nested p) = refl
type_in_moves z (designated.Standard f) = refl
type_in_moves z (designated.Module k) = refl

pub type_of_moves : (z : Exchange) (g : Gathers) (at : Pos) (d : Result Designated (Meaningless g.Reported))
    → type_of g at (map_ok (moved_designated z) d) ≡ map_ok (option_map (moved_type z)) (type_of g at d)
type_of_moves z g at d = simp (of_sort_moves, type_in_moves, then_map, map_then)

pub formals_of_moves : (z : Exchange) (a0 : Option Signature)
    → formals_of (option_map (moved_signature z) a0) ≡ map (moved_formal z) (formals_of a0)
formals_of_moves z None = refl
formals_of_moves z (Some h) = refl

pub passed_for_moves : (z : Exchange) (g : Gathers) (f : Formal) (at : Pos)
    (d : Result Designated (Meaningless g.Reported))
    → passed_for g (moved_formal z f) at (map_ok (moved_designated z) d)
    ≡ map_ok (moved_designated z) (passed_for g f at d)
passed_for_moves z g f at d = simp (of_sort_moves, of_value_moves, cond_ok)

pub argument_by_moves : (z : Exchange) (g : Gathers) (types : Types) (a1 : Option Formal) (at : Pos)
    (d : Result Designated (Meaningless g.Reported))
    → argument_by g (moved_types z types) (option_map (moved_formal z) a1) at (map_ok (moved_designated z) d)
    ≡ map_ok (moved_argument z) (argument_by g types a1 at d)
argument_by_moves z g types None at d = refl
argument_by_moves z g types (Some f) at d = simp (passed_for_moves, actual_moves, then_map, map_then)

pub call_given_moves : (z : Exchange) (g : Gathers) (types : Types) (t : TypeNo) (c : Callee)
    (args : Result (List Argument) g.Reported)
    → call_given g (moved_types z types) (moved_type z t) (moved_callee z c) (map_ok (map (moved_argument z)) args)
    ≡ map_ok (moved_computed z) (call_given g types t c args)
call_given_moves z g types t c args =
    then_moves (map (moved_argument z)) (moved_computed z) args
    (λ us. Ok (function_result types t (expr.Call t (call_by us c))))
    (λ us. Ok (function_result (moved_types z types) (moved_type z t)
    (expr.Call (moved_type z t) (call_by us (moved_callee z c)))))
    (λ us. ap Ok (ap (function_result (moved_types z types) (moved_type z t))
    (ap (expr.Call (moved_type z t)) (call_by_moves z us c) ∙ sym (expr_Call z t (call_by us c)))
    ∙ function_result_moves z types t (expr.Call t (call_by us c))))
