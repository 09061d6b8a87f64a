-- The same of functions that take one part after the other.
use Rattle.check_const.specs.Operate.{constant_operation}
use Rattle.check_const.specs.Operators.{mul_op, add_op}
use Rattle.check_const.specs.Parts.{constant, joined_bits}
use Rattle.check_const.specs.declared.denoted.Denoted.{Denoted}
use Rattle.check_expr.specs.Meanings.{constant_term_in, part, constant_factor_in, look_in, pick_in, meanings_of, use_with, Meant, term_in, item_in, actual_in, factor_in, constant_pick_in}
use Rattle.check_scope.specs.Elaborated.{least}
use Rattle.check_scope.specs.declared.meaningless.Meaningless.{Meaningless}
use Rattle.check_scope.specs.declared.scope.Scope.{Scope}
use Rattle.check_value.specs.declared.computed.Computed.{Computed}
use Rattle.check_value.specs.declared.computed.Designated.{Designated}
use Rattle.def_exchange.specs.Moved.{moved_formal, moved_value, Exchange}
use Rattle.law_exchange_exprs.proofs.Calls.{constant_of_moves, actual_moves, look_moves}
use Rattle.law_exchange_exprs.proofs.Knot.{expression_moves, selector_is, item_is, constant_part_moves, arguments_move}
use Rattle.law_exchange_exprs.proofs.Operated.{factor_moves, term_moves, with_arguments, without_arguments}
use Rattle.law_exchange_exprs.specs.Moving.{MeantMoves}
use Rattle.law_exchange_types.proofs.Operate.{constant_operation_moves}
use Rattle.law_exchange_types.specs.Constants.{moved_denoted}
use Rattle.law_exchange_types.specs.Pieces.{map_ok, moved_pair}
use Rattle.law_exchange_types.specs.Scopes.{moved_scope}
use Rattle.law_exchange_types.specs.Trees.{moved_argument}
use Rattle.law_exchange_types.specs.Values.{moved_computed, moved_designated}
use Rattle.m2_tree.specs.declared.expr.AddOp.{AddOp}
use Rattle.m2_tree.specs.declared.expr.Expr.{Expr}
use Rattle.m2_tree.specs.declared.expr.Item.{Item}
use Rattle.m2_tree.specs.declared.expr.MulOp.{MulOp}
use Rattle.m2_tree.specs.declared.expr.Operator.{Operator}
use Rattle.m2_tree.specs.declared.expr.Selector.{Selector}
use Rattle.m2_tree.specs.declared.pos.Pos.{Pos}
use Rattle.std.proofs.Common.{◌≡◌, List, None, Option, Result, Some, ap, map, ℕ, ◌∙◌}
use Rattle.typed_tree.specs.declared.computed.Argument.{Argument}
use Rattle.typed_tree.specs.declared.meaning.Value.{Value}
use Rattle.typed_tree.specs.declared.shape.Formal.{Formal}

module _ (z : Exchange) where
  pub constant_factor_in_moves : (s : Scope (least).Reported) (at : Pos) (v : Result Value (least).Reported)
      (x : Operator MulOp × Expr)
      → constant_factor_in (moved_scope z s) at (map_ok (moved_value z) v) x
      ≡ map_ok (moved_value z) (constant_factor_in s at v x)
  constant_factor_in_moves s at v x =
      ap (constant_operation least (mul_op x.0.op) x.0.pos at (map_ok (moved_value z) v) (part least x.1).at)
      (constant_of_moves z least s (part least x.1) (constant_part_moves z least x.1))
      ∙ constant_operation_moves z least (mul_op x.0.op) x.0.pos at v (part least x.1).at
      (constant least s (part least x.1))

  pub constant_term_in_moves : (s : Scope (least).Reported) (at : Pos) (v : Result Value (least).Reported)
      (x : Operator AddOp × Expr)
      → constant_term_in (moved_scope z s) at (map_ok (moved_value z) v) x
      ≡ map_ok (moved_value z) (constant_term_in s at v x)
  constant_term_in_moves s at v x =
      ap (constant_operation least (add_op x.0.op) x.0.pos at (map_ok (moved_value z) v) (part least x.1).at)
      (constant_of_moves z least s (part least x.1) (constant_part_moves z least x.1))
      ∙ constant_operation_moves z least (add_op x.0.op) x.0.pos at v (part least x.1).at
      (constant least s (part least x.1))

  pub constant_pick_in_moves : (s : Scope (least).Reported) (d : Result Denoted (least).Reported) (x : Selector)
      → constant_pick_in (moved_scope z s) (map_ok (moved_denoted z) d) x
      ≡ map_ok (moved_denoted z) (constant_pick_in s d x)
  constant_pick_in_moves s d x = (selector_is z least x).fixed s d

  pub pick_in_moves : (s : Scope (least).Reported) (d : Result Designated (Meaningless (least).Reported))
      (x : Selector)
      → pick_in (moved_scope z s) (map_ok (moved_designated z) d) x ≡ map_ok (moved_designated z) (pick_in s d x)
  pick_in_moves s d x = (selector_is z least x).picks s d

  pub item_in_moves : (s : Scope (least).Reported) (so : Result ℕ (least).Reported) (i : Item)
      → item_in (moved_scope z s) so i ≡ item_in s so i
  item_in_moves s so i = ap (joined_bits least so) (item_is z least i s)

  pub factor_in_moves : (s : Scope (least).Reported) (at : Pos) (v : Result Computed (least).Reported)
      (x : Operator MulOp × Expr)
      → factor_in (moved_scope z s) at (map_ok (moved_computed z) v) x
      ≡ map_ok (moved_computed z) (factor_in s at v x)
  factor_in_moves s at v x =
      factor_moves z least s at v (x.0, meanings_of least x.1) (expression_moves z least x.1)

  pub term_in_moves : (s : Scope (least).Reported) (at : Pos) (v : Result Computed (least).Reported)
      (x : Operator AddOp × Expr)
      → term_in (moved_scope z s) at (map_ok (moved_computed z) v) x ≡ map_ok (moved_computed z) (term_in s at v x)
  term_in_moves s at v x = term_moves z least s at v (x.0, meanings_of least x.1) (expression_moves z least x.1)

  pub actual_in_moves : (s : Scope (least).Reported) (st : List Formal × Result (List Argument) (least).Reported)
      (x : Expr)
      → actual_in (moved_scope z s) (moved_pair (map (moved_formal z)) (map_ok (map (moved_argument z))) st) x
      ≡ moved_pair (map (moved_formal z)) (map_ok (map (moved_argument z))) (actual_in s st x)
  actual_in_moves s st x = actual_moves z least s st (meanings_of least x) (expression_moves z least x)

  pub use_with_moves : (s : Scope (least).Reported) (d : Meant (least).Reported) (args : Option (List Expr))
      → MeantMoves z d
      → use_with (moved_scope z s) d args ≡ map_ok (moved_designated z) (use_with s d args)
  use_with_moves s d None h = without_arguments z least s d h
  use_with_moves s d (Some es) h =
      with_arguments z least s d (map (meanings_of least) es) h (arguments_move z least es)

  pub look_in_moves : (s : Scope (least).Reported) (so : Result (Unit {0}) (least).Reported) (x : Expr)
      → look_in (moved_scope z s) so x ≡ look_in s so x
  look_in_moves s so x = look_moves z least s (meanings_of least x) so (expression_moves z least x)
