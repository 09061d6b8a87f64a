-- Two meanings that end alike, in a state whose procedure variables hold procedures.
use Rattle.std.proofs.Common.{◌≡◌, ℕ, ℤ, nat_lt, Bool, true, false, List, Option, Some, None, if◌then◌else◌, refl, sym, subst}
use Rattle.typed_tree.specs.declared.shape.Scalar.{Scalar as Range}
use Rattle.def_meaning.specs.Answer.{State, Answer, Value, ◌▷◌, Ended, StillRunning}
use Rattle.def_meaning.specs.Outcome.{Outcome, Normal, Exited, Returned, sequence}
use Rattle.def_meaning.specs.Environment.{Modules}
use Rattle.def_meaning.specs.Operators.{is_between}
use Rattle.def_meaning.specs.Expressions.{within, within_range}
use Rattle.law_nothing_missing.specs.Worlds.{World}
use Rattle.law_nothing_missing.specs.Expressions.{if_provided, needs}
use Rattle.law_nothing_missing.proofs.Worlds.{IsFine}

abbrev pub Any : {A : Type 0} → A → Type 0
Any x = Unit {0}

-- a number with which a run ends by the language: 0, a fault, or HALT
abbrev pub IsEnd : ℕ → Type 0
IsEnd k = nat_lt k 10 ≡ true

-- the same answer, and what it gives is good
pub data Same (p : Modules) (world : World) {A : Type 0} (G : A → Type 0) : Answer A → Answer A → Type 0 where
  gives : (x : A) (st : State) → IsFine p world st.store → G x → Same p world G (Value x st) (Value x st)
  ends : (k : ℕ) (out : List ℕ) → IsEnd k → Same p world G (Ended k out) (Ended k out)
  still : (out : List ℕ) → Same p world G (StillRunning out) (StillRunning out)

-- the same outcome: EXIT comes from within a LOOP, and what is returned is good
pub data SameEnd (p : Modules) (world : World) (looped : Bool) (G : ℤ → Type 0) : Outcome → Outcome → Type 0 where
  goes : (st : State) → IsFine p world st.store → SameEnd p world looped G (Value Normal st) (Value Normal st)
  leaves : (st : State) → IsFine p world st.store → looped ≡ true
      → SameEnd p world looped G (Value Exited st) (Value Exited st)
  returns : (v : ℤ) (st : State) → IsFine p world st.store → G v
      → SameEnd p world looped G (Value (Returned v) st) (Value (Returned v) st)
  stops : (k : ℕ) (out : List ℕ) → IsEnd k → SameEnd p world looped G (Ended k out) (Ended k out)
  unfinished : (out : List ℕ) → SameEnd p world looped G (StillRunning out) (StillRunning out)

module _ (p : Modules) (world : World) where
  pub same_is : {A : Type 0} {G : A → Type 0} {x y : Answer A} → Same p world G x y → x ≡ y
  same_is (gives x st fine good) = refl
  same_is (ends k out e) = refl
  same_is (still out) = refl

  pub same_weak : {A : Type 0} {G H : A → Type 0} {x y : Answer A} → ((v : A) → G v → H v) → Same p world G x y
      → Same p world H x y
  same_weak f (gives x st fine good) = gives x st fine (f x good)
  same_weak f (ends k out e) = ends k out e
  same_weak f (still out) = still out

  pub same_then : {A B : Type 0} {G : A → Type 0} {H : B → Type 0} {x y : Answer A} {f g : A → State → Answer B}
      → Same p world G x y
      → ((v : A) (st : State) → IsFine p world st.store → G v → Same p world H (f v st) (g v st))
      → Same p world H (x ▷ f) (y ▷ g)
  same_then (gives x st fine good) next = next x st fine good
  same_then (ends k out e) next = ends k out e
  same_then (still out) next = still out

  pub end_with : {A : Type 0} {G : A → Type 0} {l : Bool} {H : ℤ → Type 0} {x y : Answer A} {f g : A → State → Outcome}
      → Same p world G x y
      → ((v : A) (st : State) → IsFine p world st.store → G v → SameEnd p world l H (f v st) (g v st))
      → SameEnd p world l H (x ▷ f) (y ▷ g)
  end_with (gives x st fine good) next = next x st fine good
  end_with (ends k out e) next = stops k out e
  end_with (still out) next = unfinished out

  pub end_then : {l : Bool} {H : ℤ → Type 0} {x y : Outcome} {f g : State → Outcome} → SameEnd p world l H x y
      → ((st : State) → IsFine p world st.store → SameEnd p world l H (f st) (g st))
      → SameEnd p world l H (sequence x f) (sequence y g)
  end_then (goes st fine) next = next st fine
  end_then (leaves st fine e) next = leaves st fine e
  end_then (returns v st fine good) next = returns v st fine good
  end_then (stops k out e) next = stops k out e
  end_then (unfinished out) next = unfinished out

  pub end_if : {l : Bool} {H : ℤ → Type 0} (b : Bool) {x y x' y' : Outcome} → SameEnd p world l H x y
      → SameEnd p world l H x' y' → SameEnd p world l H (if b then x else x') (if b then y else y')
  end_if true h g = h
  end_if false h g = g

  pub same_if : {A : Type 0} {G : A → Type 0} (b : Bool) {x y x' y' : Answer A} → Same p world G x y
      → Same p world G x' y' → Same p world G (if b then x else x') (if b then y else y')
  same_if true h g = h
  same_if false h g = g

  -- ---- what is there

  pub same_provided : (lacking : ℕ) {A : Type 0} {G : A → Type 0} (b : Bool) (go : State → Answer A) (st : State)
      {y : Answer A} → b ≡ true → Same p world G (go st) y → Same p world G (if_provided lacking b go st) y
  same_provided lacking true go st e h = h
  same_provided lacking false go st e h = cc e

  pub same_needs : (lacking : ℕ) {A B : Type 0} {G : B → Type 0} (o : Option A) (x : A) (next : A → State → Answer B)
      (st : State) (y : Answer B) → o ≡ Some x → Same p world G (next x st) y
      → Same p world G (needs lacking o next st) y
  same_needs lacking {A = A} {G = G} o x next st y e h =
      subst (λ (o : Option A). Same p world G (needs lacking o next st) y) (sym e) h

  -- ---- checks

  pub same_within : {G : ℤ → Type 0} (low high : ℤ) (fault : ℕ) (v : ℤ) (st : State) → IsEnd fault
      → IsFine p world st.store → G v → Same p world G (within low high fault v st) (within low high fault v st)
  same_within low high fault v st e fine good =
      same_if (is_between low v high) (gives v st fine good) (ends fault st.out e)

  pub same_range : {G : ℤ → Type 0} (o : Option Range) (fault : ℕ) (v : ℤ) (st : State) → IsEnd fault
      → IsFine p world st.store → G v → Same p world G (within_range o fault v st) (within_range o fault v st)
  same_range None fault v st e fine good = gives v st fine good
  same_range (Some s) fault v st e fine good = same_within s.low s.high fault v st e fine good
