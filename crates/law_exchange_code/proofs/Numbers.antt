-- Tests and look-ups of numbers.
use Rattle.std.proofs.Common.{map, ◌≡◌, ℕ, Bool, true, false, cond, List, [], ◌∷◌, Option, Some, refl, sym, ap, ◌∙◌}
use Rattle.std.specs.Prelude.{nat_eq}
use Rattle.std.specs.Option.{option_map}
use Rattle.std.specs.Map.{lookup}
use Rattle.std.proofs.lemmas.Bool.{eqb-true, eq-eqb}
use Rattle.def_exchange.specs.Moved.{Exchange}
use Rattle.law_exchange_code.proofs.Lists.{two_paths}

module _ (x : Exchange) where
  pub one_number : (m n : ℕ) → x.there m ≡ x.there n → m ≡ n
  one_number m n p = sym (x.back_there m) ∙ ap x.back p ∙ x.back_there n

  same_case : (m n : ℕ) (b c : Bool) → nat_eq (x.there m) (x.there n) ≡ b → nat_eq m n ≡ c → b ≡ c
  same_case m n true c p q = sym (eq-eqb m n (one_number m n (eqb-true (x.there m) (x.there n) p))) ∙ q
  same_case m n false true p q = sym p ∙ eq-eqb (x.there m) (x.there n) (ap x.there (eqb-true m n q))
  same_case m n false false p q = refl

  pub same_number : (m n : ℕ) → nat_eq (x.there m) (x.there n) ≡ nat_eq m n
  same_number m n = same_case m n (nat_eq (x.there m) (x.there n)) (nat_eq m n) refl refl

  pub lookup_moved : {A B : Type 0} (f : A → B) (h : ℕ) (es : List (ℕ × A))
      → lookup (nat_eq (x.there h)) (map (λ e. (x.there e.0, f e.1)) es) ≡ option_map f (lookup (nat_eq h) es)
  lookup_moved f h [] = refl
  lookup_moved f h (e ∷ es) =
      two_paths (λ b o. cond b (Some (f e.1)) o) (same_number h e.0) (lookup_moved f h es)
      ∙ split f (nat_eq h e.0) e.1 (lookup (nat_eq h) es)
    where
      split : {A B : Type 0} (f : A → B) (b : Bool) (v : A) (o : Option A)
          → cond b (Some (f v)) (option_map f o) ≡ option_map f (cond b (Some v) o)
      split f true v o = refl
      split f false v o = refl

  pub lookup_kept : {A : Type 0} (h : ℕ) (es : List (ℕ × A))
      → lookup (nat_eq (x.there h)) (map (λ e. (x.there e.0, e.1)) es) ≡ lookup (nat_eq h) es
  lookup_kept h [] = refl
  lookup_kept h (e ∷ es) = two_paths (λ b o. cond b (Some e.1) o) (same_number h e.0) (lookup_kept h es)
