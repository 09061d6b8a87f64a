-- The same of functions that take one part after the other.
use Rattle.std.specs.Prelude.{◌≡◌, ℕ, List, map, Option, Some, Result}
use Rattle.m2_tree.specs.declared.pos.Pos.{Pos}
use Rattle.m2_tree.specs.declared.expr.MulOp.{MulOp}
use Rattle.m2_tree.specs.declared.expr.AddOp.{AddOp}
use Rattle.m2_tree.specs.declared.expr.RelOp.{RelOp}
use Rattle.m2_tree.specs.declared.expr.Operator.{Operator}
use Rattle.m2_tree.specs.declared.expr.Expr.{Expr}
use Rattle.m2_tree.specs.declared.expr.Selector.{Selector}
use Rattle.m2_tree.specs.declared.expr.Item.{Item}
use Rattle.typed_tree.specs.declared.computed.Argument.{Argument}
use Rattle.typed_tree.specs.declared.shape.Formal.{Formal}
use Rattle.typed_tree.specs.declared.meaning.Value.{Value}
use Rattle.check_scope.specs.declared.meaningless.Meaningless.{Meaningless}
use Rattle.check_scope.specs.declared.scope.Scope.{Scope}
use Rattle.check_scope.specs.Elaborated.{Gathers, least}
use Rattle.check_const.specs.declared.denoted.Denoted.{Denoted}
use Rattle.check_value.specs.declared.computed.Computed.{Computed}
use Rattle.check_value.specs.declared.computed.Designated.{Designated}
use Rattle.check_expr.specs.Meanings.{Meant, breaches_in_all, actuals, used_with, factor, term, relation, constant_factor_in, constant_term_in, constant_pick_in, item_in, factor_in, term_in, pick_in, actual_in, use_with, look_in}
use Rattle.def_exchange.specs.Moved.{Exchange, moved_formal, moved_value}
use Rattle.law_exchange_types.specs.Constants.{moved_denoted}
use Rattle.law_exchange_types.specs.Pieces.{map_ok, moved_pair}
use Rattle.law_exchange_types.specs.Scopes.{moved_scope}
use Rattle.law_exchange_types.specs.Trees.{moved_argument}
use Rattle.law_exchange_types.specs.Values.{moved_computed, moved_designated}
use Rattle.law_exchange_exprs.specs.Moving.{MeantMoves, MeantsMove}

-- ---- of parts, whatever they are

abbrev pub LooksMove : Gathers → Type 0
LooksMove g =
    (z : Exchange) (s : Scope g.Reported) (ms : List (Meant g.Reported)) → MeantsMove z ms
    → breaches_in_all g (moved_scope z s) ms ≡ breaches_in_all g s ms

abbrev pub ActualsMove : Gathers → Type 0
ActualsMove g =
    (z : Exchange) (s : Scope g.Reported) (fs : List Formal) (ms : List (Meant g.Reported))
    → MeantsMove z ms
    → actuals g (moved_scope z s) (map (moved_formal z) fs) ms
    ≡ map_ok (map (moved_argument z)) (actuals g s fs ms)

abbrev pub UsesMove : Gathers → Type 0
UsesMove g =
    (z : Exchange) (s : Scope g.Reported) (d : Meant g.Reported) (ms : List (Meant g.Reported))
    → MeantMoves z d → MeantsMove z ms
    → used_with g (moved_scope z s) d (Some ms)
    ≡ map_ok (moved_designated z) (used_with g s d (Some ms))

abbrev pub FactorsMove : Gathers → Type 0
FactorsMove g =
    (z : Exchange) (s : Scope g.Reported) (at : Pos) (v : Result Computed g.Reported)
    (x : Operator MulOp × Meant g.Reported) → MeantMoves z x.1
    → factor g (moved_scope z s) at (map_ok (moved_computed z) v) x
    ≡ map_ok (moved_computed z) (factor g s at v x)

abbrev pub TermsMove : Gathers → Type 0
TermsMove g =
    (z : Exchange) (s : Scope g.Reported) (at : Pos) (v : Result Computed g.Reported)
    (x : Operator AddOp × Meant g.Reported) → MeantMoves z x.1
    → term g (moved_scope z s) at (map_ok (moved_computed z) v) x
    ≡ map_ok (moved_computed z) (term g s at v x)

abbrev pub RelationsMove : Gathers → Type 0
RelationsMove g =
    (z : Exchange) (s : Scope g.Reported) (a : Meant g.Reported) (o : Operator RelOp)
    (b : Meant g.Reported) → MeantMoves z a → MeantMoves z b
    → relation g (moved_scope z s) a o b ≡ map_ok (moved_computed z) (relation g s a o b)

-- ---- of trees, for the least rule

abbrev pub ConstantFactorsMove : Type 0
ConstantFactorsMove =
    (z : Exchange) (s : Scope (least).Reported) (at : Pos) (v : Result Value (least).Reported)
    (x : Operator MulOp × Expr)
    → constant_factor_in (moved_scope z s) at (map_ok (moved_value z) v) x
    ≡ map_ok (moved_value z) (constant_factor_in s at v x)

abbrev pub ConstantTermsMove : Type 0
ConstantTermsMove =
    (z : Exchange) (s : Scope (least).Reported) (at : Pos) (v : Result Value (least).Reported)
    (x : Operator AddOp × Expr)
    → constant_term_in (moved_scope z s) at (map_ok (moved_value z) v) x
    ≡ map_ok (moved_value z) (constant_term_in s at v x)

abbrev pub ConstantPicksMove : Type 0
ConstantPicksMove =
    (z : Exchange) (s : Scope (least).Reported) (d : Result Denoted (least).Reported) (x : Selector)
    → constant_pick_in (moved_scope z s) (map_ok (moved_denoted z) d) x
    ≡ map_ok (moved_denoted z) (constant_pick_in s d x)

abbrev pub ItemsInMove : Type 0
ItemsInMove =
    (z : Exchange) (s : Scope (least).Reported) (so : Result ℕ (least).Reported) (i : Item)
    → item_in (moved_scope z s) so i ≡ item_in s so i

abbrev pub FactorsInMove : Type 0
FactorsInMove =
    (z : Exchange) (s : Scope (least).Reported) (at : Pos) (v : Result Computed (least).Reported)
    (x : Operator MulOp × Expr)
    → factor_in (moved_scope z s) at (map_ok (moved_computed z) v) x
    ≡ map_ok (moved_computed z) (factor_in s at v x)

abbrev pub TermsInMove : Type 0
TermsInMove =
    (z : Exchange) (s : Scope (least).Reported) (at : Pos) (v : Result Computed (least).Reported)
    (x : Operator AddOp × Expr)
    → term_in (moved_scope z s) at (map_ok (moved_computed z) v) x
    ≡ map_ok (moved_computed z) (term_in s at v x)

abbrev pub PicksInMove : Type 0
PicksInMove =
    (z : Exchange) (s : Scope (least).Reported)
    (d : Result Designated (Meaningless (least).Reported)) (x : Selector)
    → pick_in (moved_scope z s) (map_ok (moved_designated z) d) x
    ≡ map_ok (moved_designated z) (pick_in s d x)

abbrev pub ActualsInMove : Type 0
ActualsInMove =
    (z : Exchange) (s : Scope (least).Reported)
    (st : List Formal × Result (List Argument) (least).Reported) (x : Expr)
    → actual_in (moved_scope z s)
    (moved_pair (map (moved_formal z)) (map_ok (map (moved_argument z))) st) x
    ≡ moved_pair (map (moved_formal z)) (map_ok (map (moved_argument z))) (actual_in s st x)

abbrev pub UsesInMove : Type 0
UsesInMove =
    (z : Exchange) (s : Scope (least).Reported) (d : Meant (least).Reported)
    (args : Option (List Expr)) → MeantMoves z d
    → use_with (moved_scope z s) d args ≡ map_ok (moved_designated z) (use_with s d args)

abbrev pub LooksInMove : Type 0
LooksInMove =
    (z : Exchange) (s : Scope (least).Reported) (so : Result (Unit {0}) (least).Reported) (x : Expr)
    → look_in (moved_scope z s) so x ≡ look_in s so x
