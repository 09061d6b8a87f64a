-- Lists of names, where one is entered.
use Rattle.std.proofs.Common.{◌≡◌, ℕ, zero, suc, Bool, true, false, cond, List, [], ◌∷◌, ◌++◌, length, Option, Some, None, refl, sym, ap, subst, ◌∙◌}
use Rattle.std.specs.Prelude.{slice_get}
use lib.Pointwise.{bytes_decides}
use Rattle.m2_tree.specs.Names.{same_name}
use Rattle.typed_tree.specs.Names.{find_name, enter_name}
use Rattle.law_well_formed.specs.FormedScopes.{holds_of}

pub same_refl : (name : List ℕ) → same_name name name ≡ true
same_refl name = (bytes_decides name name).1 refl

pub same_is : (a b : List ℕ) → same_name a b ≡ true → a ≡ b
same_is a b h = (bytes_decides a b).0 h

-- ---- places

pub get_more : {A : Type 0} (xs ys : List A) (n : ℕ) (x : A) → slice_get xs n ≡ Some x → slice_get (xs ++ ys) n ≡ Some x
get_more [] ys n x e = absurd cc
get_more (y ∷ xs) ys zero x e = e
get_more (y ∷ xs) ys (suc n) x e = get_more xs ys n x e

pub get_last : {A : Type 0} (xs : List A) (y : A) → slice_get (xs ++ y ∷ []) (length xs) ≡ Some y
get_last [] y = refl
get_last (x ∷ xs) y = get_last xs y

module _ {V : Type 0} where
  found_cond : (other : List ℕ) (b : Bool) (xs ys : List (List ℕ × V))
      → find_name other (cond b xs ys) ≡ cond b (find_name other xs) (find_name other ys)
  found_cond other true xs ys = refl
  found_cond other false xs ys = refl

  -- ---- the name itself

  self_step : (b : Bool) (v : V) (there rest : Option V) → (b ≡ false → rest ≡ Some v)
      → cond b (cond b (Some v) there) (cond b (Some v) rest) ≡ Some v
  self_step true v there rest k = refl
  self_step false v there rest k = k refl

  self_at : (name : List ℕ) (v old : V) (b : Bool) (there rest : Option V) → rest ≡ Some v
      → cond b (cond b (Some v) there) (cond b (Some old) rest) ≡ Some v
  self_at name v old true there rest k = refl
  self_at name v old false there rest k = k

  pub found_self : (name : List ℕ) (v : V) (es : List (List ℕ × V)) → find_name name (enter_name name v es) ≡ Some v
  found_self name v [] = ap (λ (b : Bool). cond b (Some v) None) (same_refl name)
  found_self name v (e ∷ es) =
      found_cond name (same_name name e.0) ((e.0, v) ∷ es) (e ∷ enter_name name v es)
      ∙ self_at name v e.1 (same_name name e.0) (find_name name es) (find_name name (enter_name name v es))
      (found_self name v es)

  -- ---- others that are picked stay

  kept_step : (pick : V → Bool) (x : V) → pick x ≡ true → (b c : Bool) (old v : V) (own there new : Option V)
      → holds_of pick (cond b (Some old) own) ≡ false → cond c (Some old) there ≡ Some x
      → (holds_of pick own ≡ false → there ≡ Some x → new ≡ Some x)
      → cond b (cond c (Some v) there) (cond c (Some old) new) ≡ Some x
  kept_step pick x r true true old v own there new p q k = absurd cc
  kept_step pick x r true false old v own there new p q k = q
  kept_step pick x r false true old v own there new p q k = q
  kept_step pick x r false false old v own there new p q k = k p q

  pub kept_entered : (pick : V → Bool) (name : List ℕ) (v : V) (es : List (List ℕ × V)) (other : List ℕ) (x : V)
      → pick x ≡ true → holds_of pick (find_name name es) ≡ false → find_name other es ≡ Some x
      → find_name other (enter_name name v es) ≡ Some x
  kept_entered pick name v [] other x r p q = absurd cc
  kept_entered pick name v (e ∷ es) other x r p q =
      found_cond other (same_name name e.0) ((e.0, v) ∷ es) (e ∷ enter_name name v es)
      ∙ kept_step pick x r (same_name name e.0) (same_name other e.0) e.1 v (find_name name es) (find_name other es)
      (find_name other (enter_name name v es)) p q (λ a b. kept_entered pick name v es other x r a b)

  -- ---- none comes to be picked

  none_at : (pick : V → Bool) (c : Bool) (v : V) → pick v ≡ false → holds_of pick (cond c (Some v) None) ≡ false
  none_at pick true v e = e
  none_at pick false v e = refl

  none_step : (pick : V → Bool) (b c : Bool) (old v : V) (there new : Option V) → pick v ≡ false
      → holds_of pick (cond c (Some old) there) ≡ false
      → (holds_of pick there ≡ false → holds_of pick new ≡ false)
      → holds_of pick (cond b (cond c (Some v) there) (cond c (Some old) new)) ≡ false
  none_step pick true true old v there new e p k = e
  none_step pick true false old v there new e p k = p
  none_step pick false true old v there new e p k = p
  none_step pick false false old v there new e p k = k p

  pub none_entered : (pick : V → Bool) (name : List ℕ) (v : V) (es : List (List ℕ × V)) (other : List ℕ)
      → pick v ≡ false → holds_of pick (find_name other es) ≡ false
      → holds_of pick (find_name other (enter_name name v es)) ≡ false
  none_entered pick name v [] other e p = none_at pick (same_name other name) v e
  none_entered pick name v (x ∷ es) other e p =
      subst (λ (o : Option V). holds_of pick o ≡ false)
      (sym (found_cond other (same_name name x.0) ((x.0, v) ∷ es) (x ∷ enter_name name v es)))
      (none_step pick (same_name name x.0) (same_name other x.0) x.1 v (find_name other es)
      (find_name other (enter_name name v es)) e p (λ a. none_entered pick name v es other e a))

  -- what is picked was there before

  same_at : (pick : V → Bool) (c : Bool) (v : V) → pick v ≡ false → holds_of pick (cond c (Some v) None) ≡ true
      → cond c (Some v) None ≡ None
  same_at pick true v e p = absurd cc
  same_at pick false v e p = refl

  same_step : (pick : V → Bool) (b c : Bool) (old v : V) (there new : Option V) → pick v ≡ false
      → holds_of pick (cond b (cond c (Some v) there) (cond c (Some old) new)) ≡ true
      → (holds_of pick new ≡ true → new ≡ there)
      → cond b (cond c (Some v) there) (cond c (Some old) new) ≡ cond c (Some old) there
  same_step pick true true old v there new e p k = absurd cc
  same_step pick true false old v there new e p k = refl
  same_step pick false true old v there new e p k = refl
  same_step pick false false old v there new e p k = k p

  pub same_entered : (pick : V → Bool) (name : List ℕ) (v : V) (es : List (List ℕ × V)) (other : List ℕ)
      → pick v ≡ false → holds_of pick (find_name other (enter_name name v es)) ≡ true
      → find_name other (enter_name name v es) ≡ find_name other es
  same_entered pick name v [] other e p = same_at pick (same_name other name) v e p
  same_entered pick name v (x ∷ es) other e p =
      found_cond other (same_name name x.0) ((x.0, v) ∷ es) (x ∷ enter_name name v es)
      ∙ same_step pick (same_name name x.0) (same_name other x.0) x.1 v (find_name other es)
      (find_name other (enter_name name v es)) e
      (subst (λ (o : Option V). holds_of pick o ≡ true)
      (found_cond other (same_name name x.0) ((x.0, v) ∷ es) (x ∷ enter_name name v es)) p)
      (λ a. same_entered pick name v es other e a)
