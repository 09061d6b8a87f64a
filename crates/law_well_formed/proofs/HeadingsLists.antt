-- Lists of names: where a name stands, and what one that is entered leaves as it was.
use Rattle.std.proofs.Common.{◌≡◌, ℕ, suc, ◌+◌, ◌<◌, Bool, true, false, cond, List, [], ◌∷◌, ◌++◌, length, Option, Some, None, refl, sym, ap, subst, ◌∙◌, arith}
use Rattle.std.specs.Prelude.{slice_get}
use Rattle.std.specs.List.{position_from}
use Rattle.std.proofs.lemmas.Iterator.Adapters.{position_from-zero}
use Rattle.m2_tree.specs.Names.{same_name}
use Rattle.typed_tree.specs.Names.{find_name, place_of, enter_name}
use Rattle.law_well_formed.specs.FormedScopes.{holds_of}
use Rattle.law_well_formed.proofs.Names.{same_refl, same_is, found_self}

apart : (name other x : List ℕ) → same_name other name ≡ false → same_name name x ≡ true → same_name other x ≡ true → ⊥
apart name other x e p q = let z : other ≡ name = same_is other x q ∙ sym (same_is name x p) in
    let t : same_name other name ≡ true = ap (λ (n : List ℕ). same_name n name) z ∙ same_refl name in
    absurd (let y : false ≡ true = sym e ∙ t in cc)

module _ {V : Type 0} where
  -- the place of a name, or how many there are
  abbrev pub index : List ℕ → List (List ℕ × V) → ℕ
  index name [] = 0
  index name (e ∷ es) = cond (same_name name e.0) 0 (suc (index name es))

  -- ---- a name that is there

  index_by : (b : Bool) (k v : V) (o : Option V) (i n : ℕ) → cond b (Some v) o ≡ Some k → (o ≡ Some k → i < n)
      → cond b 0 (suc i) < suc n
  index_by true k v o i n e h = omega arith
  index_by false k v o i n e h = let l = h e in omega (arith, l)

  pub index_less : (name : List ℕ) (es : List (List ℕ × V)) (k : V) → find_name name es ≡ Some k
      → index name es < length es
  index_less name [] k e = absurd cc
  index_less name (x ∷ es) k e = index_by (same_name name x.0) k x.1 (find_name name es) (index name es) (length es) e
      (index_less name es k)

  place_by : (b : Bool) (n i : ℕ) (k v : V) (o : Option V) (p : Option ℕ) → cond b (Some v) o ≡ Some k
      → (o ≡ Some k → p ≡ Some (n + 1 + i)) → cond b (Some n) p ≡ Some (n + cond b 0 (suc i))
  place_by true n i k v o p e h = let z : n ≡ n + 0 = omega arith in ap (λ (j : ℕ). Some j) z
  place_by false n i k v o p e h = let z : n + 1 + i ≡ n + suc i = omega arith in h e ∙ ap (λ (j : ℕ). Some j) z

  place_from : (name : List ℕ) (n : ℕ) (es : List (List ℕ × V)) (k : V) → find_name name es ≡ Some k
      → position_from (λ e. same_name name e.0) n es ≡ Some (n + index name es)
  place_from name n [] k e = absurd cc
  place_from name n (x ∷ es) k e = place_by (same_name name x.0) n (index name es) k x.1 (find_name name es)
      (position_from (λ e. same_name name e.0) (n + 1) es) e (place_from name (n + 1) es k)

  pub place_found : (name : List ℕ) (es : List (List ℕ × V)) (k : V) → find_name name es ≡ Some k
      → place_of name es ≡ Some (index name es)
  place_found name es k e = let z : 0 + index name es ≡ index name es = omega arith in
      position_from-zero (λ e. same_name name e.0) es ∙ place_from name 0 es k e ∙ ap (λ (j : ℕ). Some j) z

  none_by : (b : Bool) (n : ℕ) (v : V) (o : Option V) (p : Option ℕ) → cond b (Some v) o ≡ None → (o ≡ None → p ≡ None)
      → cond b (Some n) p ≡ None
  none_by true n v o p e h = absurd cc
  none_by false n v o p e h = h e

  none_from : (name : List ℕ) (n : ℕ) (es : List (List ℕ × V)) → find_name name es ≡ None
      → position_from (λ e. same_name name e.0) n es ≡ None
  none_from name n [] e = refl
  none_from name n (x ∷ es) e = none_by (same_name name x.0) n x.1 (find_name name es)
      (position_from (λ e. same_name name e.0) (n + 1) es) e (none_from name (n + 1) es)

  pub place_none : (name : List ℕ) (es : List (List ℕ × V)) → find_name name es ≡ None → place_of name es ≡ None
  place_none name es e = position_from-zero (λ e. same_name name e.0) es ∙ none_from name 0 es e

  -- what stands at the place
  abbrev pub Stands : List (List ℕ × V) → ℕ → V → Type 0
  Stands es n k = (x : List ℕ) × (slice_get es n ≡ Some (x, k))

  stands_by : (b : Bool) (e : List ℕ × V) (es : List (List ℕ × V)) (k : V) (o : Option V) (i : ℕ)
      → cond b (Some e.1) o ≡ Some k → (o ≡ Some k → Stands es i k) → Stands (e ∷ es) (cond b 0 (suc i)) k
  stands_by true e es k o i q h = let z : e.1 ≡ k = cc in (e.0, ap (λ (v : V). Some (e.0, v)) z)
  stands_by false e es k o i q h = h q

  pub stands_at : (name : List ℕ) (es : List (List ℕ × V)) (k : V) → find_name name es ≡ Some k
      → Stands es (index name es) k
  stands_at name [] k e = absurd cc
  stands_at name (x ∷ es) k e = stands_by (same_name name x.0) x es k (find_name name es) (index name es) e
      (stands_at name es k)

  -- ---- one name is entered

  found_cond : (other : List ℕ) (b : Bool) (xs ys : List (List ℕ × V))
      → find_name other (cond b xs ys) ≡ cond b (find_name other xs) (find_name other ys)
  found_cond other true xs ys = refl
  found_cond other false xs ys = refl

  other_by : (b c : Bool) (v old : V) (there new : Option V) → (b ≡ true → c ≡ true → ⊥) → new ≡ there
      → cond b (cond c (Some v) there) (cond c (Some old) new) ≡ cond c (Some old) there
  other_by true true v old there new h e = absurd (h refl refl)
  other_by true false v old there new h e = refl
  other_by false true v old there new h e = refl
  other_by false false v old there new h e = e

  other_new : (b : Bool) (v : V) → b ≡ false → cond b (Some v) None ≡ None
  other_new true v e = absurd cc
  other_new false v e = refl

  pub found_other : (name : List ℕ) (v : V) (es : List (List ℕ × V)) (other : List ℕ) → same_name other name ≡ false
      → find_name other (enter_name name v es) ≡ find_name other es
  found_other name v [] other e = other_new (same_name other name) v e
  found_other name v (x ∷ es) other e =
      found_cond other (same_name name x.0) ((x.0, v) ∷ es) (x ∷ enter_name name v es)
      ∙ other_by (same_name name x.0) (same_name other x.0) v x.1 (find_name other es)
      (find_name other (enter_name name v es)) (apart name other x.0 e) (found_other name v es other e)

  index_cond : (other : List ℕ) (b : Bool) (xs ys : List (List ℕ × V))
      → index other (cond b xs ys) ≡ cond b (index other xs) (index other ys)
  index_cond other true xs ys = refl
  index_cond other false xs ys = refl

  index_kept : (b c : Bool) (k old : V) (o : Option V) (i j : ℕ) → cond c (Some old) o ≡ Some k → (o ≡ Some k → j ≡ i)
      → cond b (cond c 0 (suc i)) (cond c 0 (suc j)) ≡ cond c 0 (suc i)
  index_kept true c k old o i j e h = refl
  index_kept false true k old o i j e h = refl
  index_kept false false k old o i j e h = ap suc (h e)

  -- a name that is there keeps its place
  pub index_entered : (name : List ℕ) (v : V) (es : List (List ℕ × V)) (other : List ℕ) (k : V)
      → find_name other es ≡ Some k → index other (enter_name name v es) ≡ index other es
  index_entered name v [] other k e = absurd cc
  index_entered name v (x ∷ es) other k e =
      index_cond other (same_name name x.0) ((x.0, v) ∷ es) (x ∷ enter_name name v es)
      ∙ index_kept (same_name name x.0) (same_name other x.0) k x.1 (find_name other es) (index other es)
      (index other (enter_name name v es)) e (index_entered name v es other k)

  -- and it is there still
  there_by : (b : Bool) (name : List ℕ) (v : V) (es : List (List ℕ × V)) (other : List ℕ) (k : V)
      → same_name other name ≡ b → find_name other es ≡ Some k → (w : V)
      × (find_name other (enter_name name v es) ≡ Some w)
  there_by true name v es other k b e = (
    v,
    ap (λ (n : List ℕ). find_name n (enter_name name v es))
        (same_is other name b) ∙ found_self name v es,
  )
  there_by false name v es other k b e = (k, found_other name v es other b ∙ e)

  pub there_entered : (name : List ℕ) (v : V) (es : List (List ℕ × V)) (other : List ℕ) (k : V)
      → find_name other es ≡ Some k → (w : V) × (find_name other (enter_name name v es) ≡ Some w)
  there_entered name v es other k e = there_by (same_name other name) name v es other k refl e
