-- The constants of the enumerations in a type that breaks no rule are new.
use Rattle.std.proofs.Common.{◌≡◌, ℕ, Bool, true, false, cond, List, [], ◌∷◌, ◌++◌, Option, Some, ◌⊎◌, inl, inr, refl, sym, subst}
use Rattle.std.specs.Prelude.{◌+◌, map}
use Rattle.std.specs.Option.{is_some}
use Rattle.m2_tree.specs.declared.name.Ident.{Ident}
use Rattle.m2_tree.specs.declared.decl.Simple.{Simple}
use Rattle.m2_tree.specs.declared.decl.TypeExpr.{TypeExpr}
use Rattle.m2_tree.specs.declared.decl.TypeExpr.TheOpen as layer
use Rattle.m2_tree.specs.declared.decl.Field.{Field}
use Rattle.typed_tree.specs.declared.types.TypeNo.{TypeNo}
use Rattle.typed_tree.specs.Names.{find_name}
use Rattle.def_typing.specs.Things.{Standing}
use Rattle.def_typing.specs.Parts.{Named, here, later}
use Rattle.def_typing.specs.TypeExprs as rules
use Rattle.def_typing.specs.TypeExprs.{constants_listed, all_listed, constants_in, constants_in_field, Member, members_from, Added, Setting, behind, IsSimpleType, IsTypeOf, AreFields}
use Rattle.law_typing.proofs.Combining.{Decided, holds, fails_it}
use Rattle.law_typing.proofs.Entering.{name_decided, named_split}
use Rattle.law_typing.proofs.TypeReading.{constants_at}
use Rattle.law_typing.proofs.Beginning.{Adding, added}
use Rattle.law_typing.proofs.Recording.{NoTwice, field_constants}
use Rattle.law_rules.proofs.Formals.{twice_split}
use Rattle.law_rules.proofs.Twices.{twice_as, either_first, either_second}

-- ---- names in lists

module _ {V : Type 0} where
  left_by : (n : List ℕ) (e : List ℕ × V) (es fs : List (List ℕ × V)) (b : Bool)
      → (is_some (find_name n es) ≡ true → is_some (find_name n (es ++ fs)) ≡ true)
      → is_some (cond b (Some e.1) (find_name n es)) ≡ true
      → is_some (cond b (Some e.1) (find_name n (es ++ fs))) ≡ true
  left_by n e es fs true h q = refl
  left_by n e es fs false h q = h q

  found_left : (n : List ℕ) (es fs : List (List ℕ × V)) → is_some (find_name n es) ≡ true
      → is_some (find_name n (es ++ fs)) ≡ true
  found_left n [] fs q = absurd cc
  found_left n (e ∷ es) fs q = left_by n e es fs _ (found_left n es fs) q

  right_by : (n : List ℕ) (e : List ℕ × V) (o : Option V) (b : Bool) → is_some o ≡ true
      → is_some (cond b (Some e.1) o) ≡ true
  right_by n e o true q = refl
  right_by n e o false q = q

  found_right : (n : List ℕ) (es fs : List (List ℕ × V)) → is_some (find_name n fs) ≡ true
      → is_some (find_name n (es ++ fs)) ≡ true
  found_right n [] fs q = q
  found_right n (e ∷ es) fs q = right_by n e (find_name n (es ++ fs)) _ (found_right n es fs q)

member_by : (n : List ℕ) (x : Ident) (m : Member) (o : Option Member) {b : Bool} → Decided (n ≡ x.name) b → (x.name ≡ n)
    ⊎ (is_some o ≡ true) → is_some (cond b (Some m) o) ≡ true
member_by n x m o (holds q) h = refl
member_by n x m o (fails_it c) (inl e) = absurd (c (sym e))
member_by n x m o (fails_it c) (inr q) = q

members_found : (t : TypeNo) (k : ℕ) (xs : List Ident) (n : List ℕ) → Named xs n
    → is_some (find_name n (members_from t k xs)) ≡ true
members_found t k [] n h = elim h.1 [ ]
members_found t k (x ∷ xs) n (_, here, e) =
    member_by n x (t, k) (find_name n (members_from t (k + 1) xs)) (name_decided n x.name) (inl e)
members_found t k (x ∷ xs) n (y, later m, e) =
    member_by n x (t, k) (find_name n (members_from t (k + 1) xs)) (name_decided n x.name)
    (inr (members_found t (k + 1) xs n (y, m, e)))

module _ (exports : ℕ → Ident → Standing) where
  -- ---- what they bring

  simple_found : {w : Setting} {x : Simple} {a : Added} {t : TypeNo} → IsSimpleType exports w x a t → (n : List ℕ)
      → Named (constants_listed x) n → is_some (find_name n a.brings) ≡ true
  simple_found (rules.named i) n h = elim h.1 [ ]
  simple_found (rules.enumeration {xs = xs} s i) n h = members_found _ 0 xs n h
  simple_found (rules.subrange i) n h = elim h.1 [ ]

  listed_at : (e : TypeExpr) {xs : List Ident} {n : List ℕ} → constants_in e ≡ xs → Named (constants_in e) n
      → Named xs n
  listed_at e {n = n} q h = subst (λ (ys : List Ident). Named ys n) q h

  mutual
    type_found : {w : Setting} {e : TypeExpr} {a : Added} {t : TypeNo} → IsTypeOf exports w e a t → (n : List ℕ)
        → Named (constants_in e) n → is_some (find_name n a.brings) ≡ true
    type_found (rules.is_simple {e = e} {x = x} q i) n h =
        simple_found i n (listed_at e (constants_at e (layer.Simple x) q) h)
    type_found (rules.is_array {e = e} {of = of} {at = at} {index = index} {a = a} {b = b} q i k m z) n h =
        elim (named_split (constants_listed index) (listed_at e (constants_at e (layer.Array at index of) q) h)) [
          | inl y ↦ found_left n a.brings (b.brings ++ []) (simple_found i n y)
          | inr y ↦ found_right n a.brings (b.brings ++ []) (found_left n b.brings [] (type_found m n y))
        ]
    type_found (rules.is_procedure {e = e} {at = at} {xs = xs} {q = r} q i k) n h =
        elim (listed_at e (constants_at e (layer.Procedure at xs r) q) h).1 [ ]
    type_found (rules.is_record {e = e} {at = at} {fields = fields} {a = a} q i k z) n h =
        found_left n a.brings [] (fields_found i n (listed_at e (constants_at e (layer.Record at fields) q) h))

    fields_found : {w : Setting} {fs : List Field} {a : Added} {ns : List (List ℕ × TypeNo)} {k : ℕ}
        → AreFields exports w fs a ns k → (n : List ℕ) → Named (all_listed (map constants_in_field fs)) n
        → is_some (find_name n a.brings) ≡ true
    fields_found rules.no_field n h = elim h.1 [ ]
    fields_found (rules.a_field {f = f} {rest = rest} {a = a} {b = b} i k) n h =
        elim (named_split (constants_in_field f) h) [
          | inl y ↦ found_left n a.brings b.brings
              (type_found i n (subst (λ (ys : List Ident). Named ys n) (field_constants f) y))
          | inr y ↦ found_right n a.brings b.brings (fields_found k n y)
        ]

  -- ---- they are new

  abbrev pub There : Setting → List ℕ → Type 0
  There w n = w.there n ≡ true

  -- behind a part, its constants are there
  module _ (w : Setting) (a : Added) (xs : List Ident)
      (found : (n : List ℕ) → Named xs n → is_some (find_name n a.brings) ≡ true) where
    there_behind : (n : List ℕ) → Adding xs (There w) n → There (behind w a) n
    there_behind n h = elim (added xs (There w) n h) [
      | inl y ↦ either_second (w.there n) (is_some (find_name n a.brings)) (found n y)
      | inr y ↦ either_first (w.there n) (is_some (find_name n a.brings)) y
    ]

    both_new : (ys : List Ident) → NoTwice (There w) xs → NoTwice (There (behind w a)) ys → NoTwice (There w) (xs ++ ys)
    both_new ys p q f h = elim (twice_split (There w) xs ys f h)
        [ inl y ↦ p f y | inr y ↦ q f (twice_as there_behind ys f y) ]

  simple_new : {w : Setting} {x : Simple} {a : Added} {t : TypeNo} → IsSimpleType exports w x a t
      → NoTwice (There w) (constants_listed x)
  simple_new (rules.named i) f h = absurd h
  simple_new (rules.enumeration s i) f h = i f h
  simple_new (rules.subrange i) f h = absurd h

  none_at : (w : Setting) (e : TypeExpr) {xs : List Ident} → constants_in e ≡ xs → NoTwice (There w) xs
      → NoTwice (There w) (constants_in e)
  none_at w e q h = subst (λ (ys : List Ident). NoTwice (There w) ys) (sym q) h

  mutual
    pub type_new : {w : Setting} {e : TypeExpr} {a : Added} {t : TypeNo} → IsTypeOf exports w e a t
        → NoTwice (There w) (constants_in e)
    type_new (rules.is_simple {w = w} {e = e} {x = x} q i) =
        none_at w e (constants_at e (layer.Simple x) q) (simple_new i)
    type_new (rules.is_array {w = w} {e = e} {of = of} {at = at} {index = index} {a = a} q i k m z) =
        none_at w e (constants_at e (layer.Array at index of) q)
        (both_new w a (constants_listed index) (λ n y. simple_found i n y) (constants_in of) (simple_new i)
        (type_new m))
    type_new (rules.is_procedure {w = w} {e = e} {at = at} {xs = xs} {q = r} q i k) =
        none_at w e (constants_at e (layer.Procedure at xs r) q) (λ f h. absurd h)
    type_new (rules.is_record {w = w} {e = e} {at = at} {fields = fields} q i k z) =
        none_at w e (constants_at e (layer.Record at fields) q) (fields_new i)

    fields_new : {w : Setting} {fs : List Field} {a : Added} {ns : List (List ℕ × TypeNo)} {k : ℕ}
        → AreFields exports w fs a ns k → NoTwice (There w) (all_listed (map constants_in_field fs))
    fields_new rules.no_field f h = absurd h
    fields_new (rules.a_field {w = w} {f = f} {rest = rest} {a = a} i k) z h =
        both_new w a (constants_in_field f) (λ n y. type_found i n
        (subst (λ (ys : List Ident). Named ys n) (field_constants f) y)) (all_listed (map constants_in_field rest))
        (subst (λ (ys : List Ident). NoTwice (There w) ys) (sym (field_constants f)) (type_new i)) (fields_new k) z h
