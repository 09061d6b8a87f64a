-- Lists of names: where a name stands.
use Rattle.std.proofs.Common.{◌≡◌, ℕ, suc, ◌+◌, ◌<◌, Bool, true, false, cond, List, [], ◌∷◌, length, Option, Some, None, refl, sym, ap, subst, ◌∙◌, arith}
use Rattle.std.specs.Prelude.{slice_get}
use Rattle.std.specs.List.{position_from}
use Rattle.std.specs.Option.{option_map}
use Rattle.std.proofs.lemmas.Iterator.Adapters.{position_from-zero}
use Rattle.m2_tree.specs.Names.{same_name}
use Rattle.typed_tree.specs.declared.types.TypeNo.{TypeNo}
use Rattle.typed_tree.specs.Names.{find_name, place_of}
use Rattle.check_value.specs.Selection.{typed_field, numbered_field}

module _ {V : Type 0} where
  -- the place of a name, or how many there are
  abbrev pub index : List ℕ → List (List ℕ × V) → ℕ
  index name [] = 0
  index name (e ∷ es) = cond (same_name name e.0) 0 (suc (index name es))

  -- ---- a name that is there

  index_by : (b : Bool) (k v : V) (o : Option V) (i n : ℕ) → cond b (Some v) o ≡ Some k → (o ≡ Some k → i < n)
      → cond b 0 (suc i) < suc n
  index_by true k v o i n e h = omega arith
  index_by false k v o i n e h = let l = h e in omega (arith, l)

  pub index_less : (name : List ℕ) (es : List (List ℕ × V)) (k : V) → find_name name es ≡ Some k
      → index name es < length es
  index_less name [] k e = absurd cc
  index_less name (x ∷ es) k e = index_by (same_name name x.0) k x.1 (find_name name es) (index name es) (length es) e
      (index_less name es k)

  place_by : (b : Bool) (n i : ℕ) (k v : V) (o : Option V) (p : Option ℕ) → cond b (Some v) o ≡ Some k
      → (o ≡ Some k → p ≡ Some (n + 1 + i)) → cond b (Some n) p ≡ Some (n + cond b 0 (suc i))
  place_by true n i k v o p e h = let z : n ≡ n + 0 = omega arith in ap (λ (j : ℕ). Some j) z
  place_by false n i k v o p e h = let z : n + 1 + i ≡ n + suc i = omega arith in h e ∙ ap (λ (j : ℕ). Some j) z

  place_from : (name : List ℕ) (n : ℕ) (es : List (List ℕ × V)) (k : V) → find_name name es ≡ Some k
      → position_from (λ e. same_name name e.0) n es ≡ Some (n + index name es)
  place_from name n [] k e = absurd cc
  place_from name n (x ∷ es) k e = place_by (same_name name x.0) n (index name es) k x.1 (find_name name es)
      (position_from (λ e. same_name name e.0) (n + 1) es) e (place_from name (n + 1) es k)

  pub place_found : (name : List ℕ) (es : List (List ℕ × V)) (k : V) → find_name name es ≡ Some k
      → place_of name es ≡ Some (index name es)
  place_found name es k e = let z : 0 + index name es ≡ index name es = omega arith in
      position_from-zero (λ e. same_name name e.0) es ∙ place_from name 0 es k e ∙ ap (λ (j : ℕ). Some j) z

  none_by : (b : Bool) (n : ℕ) (v : V) (o : Option V) (p : Option ℕ) → cond b (Some v) o ≡ None → (o ≡ None → p ≡ None)
      → cond b (Some n) p ≡ None
  none_by true n v o p e h = absurd cc
  none_by false n v o p e h = h e

  none_from : (name : List ℕ) (n : ℕ) (es : List (List ℕ × V)) → find_name name es ≡ None
      → position_from (λ e. same_name name e.0) n es ≡ None
  none_from name n [] e = refl
  none_from name n (x ∷ es) e = none_by (same_name name x.0) n x.1 (find_name name es)
      (position_from (λ e. same_name name e.0) (n + 1) es) e (none_from name (n + 1) es)

  pub place_none : (name : List ℕ) (es : List (List ℕ × V)) → find_name name es ≡ None → place_of name es ≡ None
  place_none name es e = position_from-zero (λ e. same_name name e.0) es ∙ none_from name 0 es e

  -- what stands at the place
  abbrev pub Stands : List (List ℕ × V) → ℕ → V → Type 0
  Stands es n k = (x : List ℕ) × (slice_get es n ≡ Some (x, k))

  stands_by : (b : Bool) (e : List ℕ × V) (es : List (List ℕ × V)) (k : V) (o : Option V) (i : ℕ)
      → cond b (Some e.1) o ≡ Some k → (o ≡ Some k → Stands es i k) → Stands (e ∷ es) (cond b 0 (suc i)) k
  stands_by true e es k o i q h = let z : e.1 ≡ k = cc in (e.0, ap (λ (v : V). Some (e.0, v)) z)
  stands_by false e es k o i q h = h q

  pub stands_at : (name : List ℕ) (es : List (List ℕ × V)) (k : V) → find_name name es ≡ Some k
      → Stands es (index name es) k
  stands_at name [] k e = absurd cc
  stands_at name (x ∷ es) k e = stands_by (same_name name x.0) x es k (find_name name es) (index name es) e
      (stands_at name es k)

-- the type of a field, by its number
pub data FieldIs (name : List ℕ) (fs : List (List ℕ × TypeNo)) : Option (ℕ × TypeNo) → Type 0 where
  field_there : (n : ℕ) (t : TypeNo) → find_name name fs ≡ Some t → FieldIs name fs (Some (n, t))
  field_nowhere : find_name name fs ≡ None → FieldIs name fs None

field_by : (name : List ℕ) (fs : List (List ℕ × TypeNo)) (o : Option TypeNo) → find_name name fs ≡ o
    → FieldIs name fs (numbered_field name fs)
field_by name fs None e = subst (λ (p : Option ℕ). FieldIs name fs (typed_field fs p)) (sym (place_none name fs e))
    (field_nowhere e)
field_by name fs (Some t) e = let s = stands_at name fs t e in
    subst (λ (p : Option ℕ). FieldIs name fs (typed_field fs p)) (sym (place_found name fs t e))
    (subst (λ (x : Option (List ℕ × TypeNo)). FieldIs name fs
    (option_map (λ (e : List ℕ × TypeNo). (index name fs, e.1)) x)) (sym s.1) (field_there (index name fs) t e))

pub field_is : (name : List ℕ) (fs : List (List ℕ × TypeNo)) → FieldIs name fs (numbered_field name fs)
field_is name fs = field_by name fs (find_name name fs) refl
