-- What moves with a scope.
use Rattle.std.specs.Prelude.{◌≡◌, List, [], ◌∷◌, Result}
use Rattle.std.specs.Option.{option_map}
use Rattle.check_scope.specs.declared.meaningless.Meaningless.{Meaningless}
use Rattle.check_scope.specs.declared.scope.Scope.{Scope}
use Rattle.check_const.specs.declared.denoted.Denoted.{Denoted}
use Rattle.check_const.specs.Parts.{Part, Adds}
use Rattle.check_value.specs.declared.computed.Designated.{Designated}
use Rattle.check_expr.specs.Meanings.{Meant, Picks}
use Rattle.def_exchange.specs.Moved.{Exchange, moved_type}
use Rattle.law_exchange_types.specs.Constants.{moved_denoted}
use Rattle.law_exchange_types.specs.Pieces.{map_ok}
use Rattle.law_exchange_types.specs.Scopes.{moved_scope}
use Rattle.law_exchange_types.specs.Values.{moved_designated}

module _ (z : Exchange) where
  -- a constant expression
  pub record PartMoves {T : Type 0} (p : Part T) : Type 0 where
    pub denotes : (s : Scope T)
        → p.denotes (moved_scope z s) ≡ map_ok (moved_denoted z) (p.denotes s)
    pub names : (s : Scope T)
        → p.names (moved_scope z s) ≡ map_ok (option_map (moved_type z)) (p.names s)

  -- an expression or a designator
  pub record MeantMoves {T : Type 0} (m : Meant T) : Type 0 where
    pub fixed : PartMoves m.fixed
    pub means : (s : Scope T) → m.means (moved_scope z s) ≡ map_ok (moved_designated z) (m.means s)

  -- a selector
  pub record PicksMoves {T : Type 0} (p : Picks T) : Type 0 where
    pub fixed : (s : Scope T) (d : Result Denoted T)
        → p.fixed (moved_scope z s) (map_ok (moved_denoted z) d)
        ≡ map_ok (moved_denoted z) (p.fixed s d)
    pub picks : (s : Scope T) (d : Result Designated (Meaningless T))
        → p.picks (moved_scope z s) (map_ok (moved_designated z) d)
        ≡ map_ok (moved_designated z) (p.picks s d)

  -- an element of a set
  abbrev pub AddMoves : {T : Type 0} → Adds T → Type 0
  AddMoves {T} a = (s : Scope T) → a (moved_scope z s) ≡ a s

  -- arguments
  abbrev pub MeantsMove : {T : Type 0} → List (Meant T) → Type 0
  MeantsMove [] = Unit {0}
  MeantsMove (m ∷ ms) = MeantMoves m × MeantsMove ms
