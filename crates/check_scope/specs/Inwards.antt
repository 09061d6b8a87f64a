-- From a block into a procedure, and back.
use Rattle.std.specs.Prelude.{ℕ, List, [], ◌∷◌, ◌++◌, length, Option, Some, None}
use Rattle.check_scope.specs.declared.known.Known.{Known}
use Rattle.check_scope.specs.declared.scope.Block.{Block}
use Rattle.check_scope.specs.declared.scope.Scope.{Scope}
use Rattle.check_scope.specs.declared.inner.Outside.{Outside}

-- ---- inwards

-- in a procedure, before its formals are known: its block's names are around it, and this many of
-- them stand before it
abbrev pub inwards : {T : Type 0} → Scope T → (seen : ℕ) → Scope T
inwards s seen = record s {
  level = length s.outer;
  own = [];
  outer = s.outer ++ record { names = s.own; seen = seen } ∷ [];
  variables = [];
}

-- what is put back behind the procedure
abbrev pub outside : {T : Type 0} → Scope T → Outside
outside s = record { level = s.level; variables = s.variables }

-- ---- outwards: the types that were made stay

abbrev pub outwards : {T : Type 0} → Outside → Scope T → List (Block T) → List (List ℕ × Known T)
    → Scope T
outwards o s outer names =
    record s { level = o.level; own = names; outer = outer; variables = o.variables }

abbrev pub split_last : {A : Type 0} → List A → Option (List A × A)
split_last [] = None
split_last (x ∷ xs) = elim (split_last xs) [ None ↦ Some ([], x) | Some p ↦ Some (x ∷ p.0, p.1) ]

-- the blocks that stay, and the names of the one that is taken
abbrev pub pop_block : {T : Type 0} → Option (List (Block T) × Block T)
    → List (Block T) × List (List ℕ × Known T)
pop_block None = ([], [])
pop_block (Some p) = (p.0, p.1.names)

-- behind a procedure the innermost block around it is the own one again
abbrev pub left_procedure : {T : Type 0} → Outside → Scope T → Scope T
left_procedure o s = let b = pop_block (split_last s.outer) in outwards o s b.0 b.1
