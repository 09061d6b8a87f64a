-- Whether a procedure of the definition lacks a heading is decided.
use Rattle.std.proofs.Common.{◌≡◌, ℕ, Bool, true, false, cond, List, [], ◌∷◌, Option, Some, None, ◌⊎◌, inl, inr, refl, sym, subst}
use Rattle.std.specs.Prelude.{◌||◌}
use Rattle.std.specs.List.{fold}
use Rattle.typed_tree.specs.Names.{find_name}
use Rattle.check_scope.specs.declared.known.Known.{Known}
use Rattle.check_block.specs.Headings.{standing_known, name_standing}
use Rattle.check_block.specs.Declarations.{is_awaited, or_awaited, lacks}
use Rattle.law_typing.specs.Exact.{AreOnce, no_names, one_name}
use Rattle.law_typing.proofs.Combining.{Decided, holds, fails_it, decided_as}
use Rattle.law_typing.proofs.Deciding.{decided_itself}
use Rattle.law_typing.proofs.Entering.{name_decided}
use Rattle.law_typing.proofs.Meeting.{either_decided}

module _ {T : Type 0} where
  -- a procedure with what is known so awaits its heading
  abbrev pub Awaits : Option (Known T) → Type 0
  Awaits o = is_awaited (name_standing o) ≡ true

  abbrev pub AnyAwaits : List (List ℕ × Known T) → Type 0
  AnyAwaits own = (n : List ℕ) × Awaits (find_name n own)

  waits_first : (e : List ℕ × Known T) (r : Option (Known T)) {b : Bool} → Decided (e.0 ≡ e.0) b
      → is_awaited (standing_known e.1) ≡ true → Awaits (cond b (Some e.1) r)
  waits_first e r (holds q) w = w
  waits_first e r (fails_it c) w = absurd (c refl)

  module _ (e : List ℕ × Known T) (es : List (List ℕ × Known T)) (new : find_name e.0 es ≡ None) (m : List ℕ) where
    waits_later : {b : Bool} → Decided (m ≡ e.0) b → Awaits (find_name m es)
        → Awaits (cond b (Some e.1) (find_name m es))
    waits_later (holds q) w = let z : find_name m es ≡ None =
        subst (λ (n : List ℕ). find_name n es ≡ None) (sym q) new in
        let y : false ≡ true = subst (λ (o : Option (Known T)). Awaits o) z w in absurd cc
    waits_later (fails_it c) w = w

    waits_in : {b : Bool} → Decided (m ≡ e.0) b → Awaits (cond b (Some e.1) (find_name m es))
        → (is_awaited (standing_known e.1) ≡ true) ⊎ AnyAwaits es
    waits_in (holds q) w = inl w
    waits_in (fails_it c) w = inr (m, w)

  lacks_by : {P : Type 0} {own : List (List ℕ × Known T)} (b : Bool) → AreOnce own → Decided P b
      → Decided (P ⊎ AnyAwaits own) (fold or_awaited b own)
  lacks_by {P = P} b no_names d = decided_as (λ p. inl p) (λ z. elim z [ inl p ↦ p | inr a ↦ none a ]) d
    where
      none : AnyAwaits [] → P
      none a = let z : false ≡ true = a.1 in absurd cc
  lacks_by {P = P} b (one_name {e = e} {es = es} n o) d =
      decided_as (λ z. to z) (λ z. from z) (lacks_by {P = P ⊎ (is_awaited (standing_known e.1) ≡ true)}
      (b || is_awaited (standing_known e.1)) o (either_decided d (decided_itself (is_awaited (standing_known e.1)))))
    where
      to : (P ⊎ (is_awaited (standing_known e.1) ≡ true)) ⊎ AnyAwaits es → P ⊎ AnyAwaits (e ∷ es)
      to (inl (inl p)) = inl p
      to (inl (inr w)) = inr (e.0, waits_first e (find_name e.0 es) (name_decided e.0 e.0) w)
      to (inr (m, w)) = inr (m, waits_later e es n m (name_decided m e.0) w)

      from : P ⊎ AnyAwaits (e ∷ es) → (P ⊎ (is_awaited (standing_known e.1) ≡ true)) ⊎ AnyAwaits es
      from (inl p) = inl (inl p)
      from (inr (m, w)) = elim (waits_in e es n m (name_decided m e.0) w) [ inl y ↦ inl (inr y) | inr a ↦ inr a ]

  pub lacks_decided : {own : List (List ℕ × Known T)} → AreOnce own → Decided (AnyAwaits own) (lacks own)
  lacks_decided o = decided_as (λ z. elim z [ inl y ↦ absurd y | inr a ↦ a ]) (λ a. inr a)
      (lacks_by {P = ⊥} false o (fails_it (λ z. z)))
