-- Names keep their order in a scope.
use Rattle.std.proofs.Common.{◌≡◌, ℕ, Bool, true, false, cond, List, [], ◌∷◌, ◌++◌, Option, Some, None, refl, sym, ap, subst, ◌∙◌}
use Rattle.std.specs.Prelude.{map}
use Rattle.m2_tree.specs.Names.{same_name}
use Rattle.typed_tree.specs.Names.{find_name, enter_name}
use Rattle.def_typing.specs.Parts.{Among, here, later}
use Rattle.law_typing.specs.Exact.{AreOnce, no_names, one_name}
use Rattle.law_typing.proofs.Heading.{nil_right, append_assoc}
use Rattle.law_typing.proofs.Combining.{Decided, holds, fails_it}
use Rattle.law_typing.proofs.Entering.{name_decided, entered_all}

key_right : {n : List ℕ} (ks : List (List ℕ)) {rest : List (List ℕ)} → Among n rest → Among n (ks ++ rest)
key_right [] m = m
key_right (k ∷ ks) m = later (key_right ks m)

key_head : {a b : List ℕ} {xs ys : List (List ℕ)} → a ∷ xs ≡ b ∷ ys → a ≡ b
key_head q = cc

key_tail : {a b : List ℕ} {xs ys : List (List ℕ)} → a ∷ xs ≡ b ∷ ys → xs ≡ ys
key_tail q = cc

module _ {V : Type 0} where
  abbrev pub keys : List (List ℕ × V) → List (List ℕ)
  keys es = map (λ e. e.0) es

  -- these names come first
  abbrev pub Begins : List (List ℕ) → List (List ℕ × V) → Type 0
  Begins ks es = (rest : List (List ℕ)) × (keys es ≡ ks ++ rest)

  -- what stands in a list behind one name more
  abbrev Longer : List (List ℕ × V) → List (List ℕ × V) → Type 0
  Longer es fs = (rest : List (List ℕ)) × (keys fs ≡ keys es ++ rest)

  entered_longer : (name : List ℕ) (v : V) (es : List (List ℕ × V)) → Longer es (enter_name name v es)
  entered_longer name v [] = (name ∷ [], refl)
  entered_longer name v (e ∷ es) = by (same_name name e.0) (entered_longer name v es)
    where
      by : (b : Bool) → Longer es (enter_name name v es)
          → Longer (e ∷ es) (cond b ((e.0, v) ∷ es) (e ∷ enter_name name v es))
      by true q = ([], sym (nil_right (e.0 ∷ keys es)))
      by false q = (q.0, ap (λ (ks : List (List ℕ)). e.0 ∷ ks) q.1)

  pub begins_more : (ks : List (List ℕ)) (name : List ℕ) (v : V) (es : List (List ℕ × V)) → Begins ks es
      → Begins ks (enter_name name v es)
  begins_more ks name v es b = let q = entered_longer name v es in
      (b.0 ++ q.0, q.1 ∙ ap (λ (xs : List (List ℕ)). xs ++ q.0) b.1 ∙ append_assoc ks b.0 q.0)

  pub keys_both : (es fs : List (List ℕ × V)) → keys (es ++ fs) ≡ keys es ++ keys fs
  keys_both [] fs = refl
  keys_both (e ∷ es) fs = ap (λ (ks : List (List ℕ)). e.0 ∷ ks) (keys_both es fs)

  last_by : (name : List ℕ) (v : V) (e : List ℕ × V) (es : List (List ℕ × V)) {b : Bool} → Decided (name ≡ e.0) b
      → cond b (Some e.1) (find_name name es) ≡ None
      → (find_name name es ≡ None → enter_name name v es ≡ es ++ (name, v) ∷ [])
      → cond b ((e.0, v) ∷ es) (e ∷ enter_name name v es) ≡ e ∷ (es ++ (name, v) ∷ [])
  last_by name v e es (holds q) n h = absurd cc
  last_by name v e es (fails_it c) n h = ap (λ (fs : List (List ℕ × V)). e ∷ fs) (h n)

  -- a new name comes last
  pub entered_last : (name : List ℕ) (v : V) (es : List (List ℕ × V)) → find_name name es ≡ None
      → enter_name name v es ≡ es ++ (name, v) ∷ []
  entered_last name v [] n = refl
  entered_last name v (e ∷ es) n = last_by name v e es (name_decided name e.0) n (λ q. entered_last name v es q)

  pub last_key : (name : List ℕ) (v : V) (es : List (List ℕ × V)) → find_name name es ≡ None
      → keys (enter_name name v es) ≡ keys es ++ name ∷ []
  last_key name v es n = ap (λ (fs : List (List ℕ × V)). keys fs) (entered_last name v es n)
      ∙ keys_both es ((name, v) ∷ [])

  -- ---- what is entered is found

  pub entered_self : (name : List ℕ) (v : V) (es : List (List ℕ × V)) → find_name name (enter_name name v es) ≡ Some v
  entered_self name v es = entered_all (λ n o. name ≡ n → o ≡ Some v) name v es (λ e. refl) (λ n c e. absurd (c e)) name
      refl

  pub entered_other : (name n : List ℕ) (v : V) (es : List (List ℕ × V)) → (name ≡ n → ⊥)
      → find_name n (enter_name name v es) ≡ find_name n es
  entered_other name n v es d = entered_all (λ m o. (name ≡ m → ⊥) → o ≡ find_name m es) name v es
      (λ c. absurd (c refl)) (λ m c d. refl) n d

  here_found : (e : List ℕ × V) (o : Option V) {b : Bool} → Decided (e.0 ≡ e.0) b → cond b (Some e.1) o ≡ Some e.1
  here_found e o (holds q) = refl
  here_found e o (fails_it c) = absurd (c refl)

  pub found_first : (e : List ℕ × V) (es : List (List ℕ × V)) → find_name e.0 (e ∷ es) ≡ Some e.1
  found_first e es = here_found e (find_name e.0 es) (name_decided e.0 e.0)

  never_none : (n : List ℕ) (o : Option V) (f : List ℕ × V) {b : Bool} → Decided (n ≡ f.0) b
      → cond b (Some f.1) o ≡ None → (o ≡ None → ⊥) → ⊥
  never_none n o f (holds q) h c = absurd cc
  never_none n o f (fails_it q) h c = c h

  -- A name in a list is found there.
  pub there_found : (e : List ℕ × V) (es : List (List ℕ × V)) → Among e es → find_name e.0 es ≡ None → ⊥
  there_found e [] m h = elim m [ ]
  there_found _ (e ∷ es) here h = let z = sym (found_first e es) ∙ h in absurd cc
  there_found e (f ∷ es) (later m) h = never_none e.0 (find_name e.0 es) f (name_decided e.0 f.0) h
      (λ q. there_found e es m q)

  once_by : (e f : List ℕ × V) (o : Option V) {b : Bool} → Decided (e.0 ≡ f.0) b → (e.0 ≡ f.0 → ⊥) → o ≡ Some e.1
      → cond b (Some f.1) o ≡ Some e.1
  once_by e f o (holds q) c h = absurd (c q)
  once_by e f o (fails_it q) c h = h

  -- Names that are there once are found as they are.
  pub once_found : {es : List (List ℕ × V)} → AreOnce es → (e : List ℕ × V) → Among e es → find_name e.0 es ≡ Some e.1
  once_found no_names e m = elim m [ ]
  once_found (one_name {es = es} n o) e here = found_first e es
  once_found (one_name {e = f} {es = es} n o) e (later m) =
      once_by e f (find_name e.0 es) (name_decided e.0 f.0)
      (λ q. there_found e es m (subst (λ (k : List ℕ). find_name k es ≡ None) (sym q) n)) (once_found o e m)

  -- ---- no name twice

  key_there : {n : List ℕ} (es : List (List ℕ × V)) → Among n (keys es) → (e : List ℕ × V) × Among e es × (e.0 ≡ n)
  key_there [] m = elim m [ ]
  key_there (e ∷ es) here = (e, here, refl)
  key_there (e ∷ es) (later m) = let q = key_there es m in (q.0, later q.1, q.2)

  apart_by : {n : List ℕ} (e : List ℕ × V) (es : List (List ℕ × V)) → find_name e.0 es ≡ None → e.0 ≡ n
      → Among n (keys es) → ⊥
  apart_by e es c q m = let w = key_there es m in
      there_found w.0 es w.1 (subst (λ (k : List ℕ). find_name k es ≡ None) (q ∙ sym w.2) c)

  -- What comes first does not come again.
  pub keys_apart : {es : List (List ℕ × V)} → AreOnce es → (n : List ℕ) (ks rest : List (List ℕ)) → keys es ≡ ks ++ rest
      → Among n ks → Among n rest → ⊥
  keys_apart o n [] rest q m w = elim m [ ]
  keys_apart no_names n (k ∷ ks) rest q m w = absurd cc
  keys_apart (one_name {e = e} {es = es} c o) _ (k ∷ ks) rest q here w =
      apart_by e es c (key_head q) (subst (λ (xs : List (List ℕ)). Among k xs) (sym (key_tail q)) (key_right ks w))
  keys_apart (one_name {e = e} {es = es} c o) n (k ∷ ks) rest q (later m) w =
      keys_apart {es = es} o n ks rest (key_tail q) m w
