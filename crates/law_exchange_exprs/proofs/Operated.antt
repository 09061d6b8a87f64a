-- Operations and uses in expressions, with other numbers of modules.
use Rattle.check_const.specs.Operators.{mul_op, add_op}
use Rattle.check_const.specs.Parts.{Part}
use Rattle.check_expr.specs.Meanings.{relation, as_constant, used_with, Meant, value_of, relation_value, factor, term}
use Rattle.check_scope.specs.Elaborated.{Gathers}
use Rattle.check_scope.specs.declared.scope.Scope.{Scope}
use Rattle.check_value.specs.Operations.{operation_between}
use Rattle.check_value.specs.declared.computed.Computed.{Computed}
use Rattle.def_exchange.specs.Moved.{moved_types, Exchange}
use Rattle.law_exchange_exprs.proofs.Calls.{value_of_moves}
use Rattle.law_exchange_exprs.specs.Moving.{MeantMoves, MeantsMove, PartMoves}
use Rattle.law_exchange_types.proofs.Fixed.{PartMoves as Found}
use Rattle.law_exchange_types.proofs.Meaning.{MeantMoves as Known, AllMove, constant_means, meant_used_moves}
use Rattle.law_exchange_types.proofs.MeaningPieces.{relation_value_moves}
use Rattle.law_exchange_types.proofs.Operations.{operation_between_moves}
use Rattle.law_exchange_types.specs.Pieces.{map_ok}
use Rattle.law_exchange_types.specs.Scopes.{moved_scope}
use Rattle.law_exchange_types.specs.Values.{moved_computed, moved_designated}
use Rattle.m2_tree.specs.declared.expr.AddOp.{AddOp}
use Rattle.m2_tree.specs.declared.expr.MulOp.{MulOp}
use Rattle.m2_tree.specs.declared.expr.Operator.{Operator}
use Rattle.m2_tree.specs.declared.expr.RelOp.{RelOp}
use Rattle.m2_tree.specs.declared.pos.Pos.{Pos}
use Rattle.std.proofs.Common.{◌≡◌, List, None, Result, Some, ap, ap₂, ◌∷◌, ◌∙◌, []}

module _ (z : Exchange) (g : Gathers) where
  -- ---- what is known of parts, as it is written below

  part_to : (p : Part g.Reported) → PartMoves z p → Found z g p
  part_to p h = record { denotes = h.denotes; names = h.names }

  meant_to : (m : Meant g.Reported) → MeantMoves z m → Known z g m
  meant_to m h = record { fixed = part_to m.fixed h.fixed; means = h.means }

  all_to : (ms : List (Meant g.Reported)) → MeantsMove z ms → AllMove z g ms
  all_to [] h = tt
  all_to (m ∷ ms) h = (meant_to m h.0, all_to ms h.1)

  -- ---- parts, whatever they are

  pub as_constant_moves : (s : Scope g.Reported) (p : Part g.Reported) → PartMoves z p
      → as_constant g (moved_scope z s) p ≡ map_ok (moved_designated z) (as_constant g s p)
  as_constant_moves s p h = constant_means z g s p (part_to p h)

  pub without_arguments : (s : Scope g.Reported) (d : Meant g.Reported) → MeantMoves z d
      → used_with g (moved_scope z s) d None ≡ map_ok (moved_designated z) (used_with g s d None)
  without_arguments s d h = h.means s

  pub with_arguments : (s : Scope g.Reported) (d : Meant g.Reported) (ms : List (Meant g.Reported)) → MeantMoves z d
      → MeantsMove z ms
      → used_with g (moved_scope z s) d (Some ms) ≡ map_ok (moved_designated z) (used_with g s d (Some ms))
  with_arguments s d ms h k = meant_used_moves z g s d (Some ms) (meant_to d h) (all_to ms k)

  pub factor_moves : (s : Scope g.Reported) (at : Pos) (v : Result Computed g.Reported)
      (x : Operator MulOp × Meant g.Reported) → MeantMoves z x.1
      → factor g (moved_scope z s) at (map_ok (moved_computed z) v) x ≡ map_ok (moved_computed z) (factor g s at v x)
  factor_moves s at v x h =
      ap (operation_between g (moved_types z s.types) (mul_op x.0.op) x.0.pos at (map_ok (moved_computed z) v)
      x.1.fixed.at) (value_of_moves z g s x.1 h)
      ∙ operation_between_moves z g s.types (mul_op x.0.op) x.0.pos at v x.1.fixed.at (value_of g s x.1)

  pub term_moves : (s : Scope g.Reported) (at : Pos) (v : Result Computed g.Reported)
      (x : Operator AddOp × Meant g.Reported) → MeantMoves z x.1
      → term g (moved_scope z s) at (map_ok (moved_computed z) v) x ≡ map_ok (moved_computed z) (term g s at v x)
  term_moves s at v x h =
      ap (operation_between g (moved_types z s.types) (add_op x.0.op) x.0.pos at (map_ok (moved_computed z) v)
      x.1.fixed.at) (value_of_moves z g s x.1 h)
      ∙ operation_between_moves z g s.types (add_op x.0.op) x.0.pos at v x.1.fixed.at (value_of g s x.1)

  pub relation_moves : (s : Scope g.Reported) (a : Meant g.Reported) (o : Operator RelOp) (b : Meant g.Reported)
      → MeantMoves z a → MeantMoves z b
      → relation g (moved_scope z s) a o b ≡ map_ok (moved_computed z) (relation g s a o b)
  relation_moves s a o b h k =
      ap₂ (λ (u v : Result Computed g.Reported). relation_value g (moved_types z s.types) o a.fixed.at u b.fixed.at v)
      (value_of_moves z g s a h) (value_of_moves z g s b k)
      ∙ relation_value_moves z g s.types o a.fixed.at (value_of g s a) b.fixed.at (value_of g s b)
