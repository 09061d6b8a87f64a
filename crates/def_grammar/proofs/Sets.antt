-- Laws of lists of kinds.
use Rattle.std.proofs.Common.{◌≡◌, Bool, true, false, not, ◌||◌, List, [], ◌∷◌, ◌++◌, refl, sym, subst, inl, inr, ◌⊎◌}
use Rattle.def_grammar.specs.declared.kind.Kind.{Kind}
use Rattle.def_grammar.specs.Kinds.{same_kind}
use Rattle.def_grammar.specs.Reading.{is_among}
use Rattle.def_grammar.proofs.Truth.{and_both, or_either, same_kind-is}
use Rattle.def_grammar.proofs.OneAhead.{disjoint, within}

pub or_left : (a b : Bool) → a ≡ true → (a || b) ≡ true
or_left true b e = refl
or_left false b e = absurd cc

pub or_right : (a b : Bool) → b ≡ true → (a || b) ≡ true
or_right true b e = refl
or_right false b e = e

pub or_none : (a b : Bool) → a ≡ false → b ≡ false → (a || b) ≡ false
or_none true b e d = absurd cc
or_none false b e d = d

pub not_true : (b : Bool) → not b ≡ true → b ≡ false
not_true true e = absurd cc
not_true false e = refl

pub false_from : (b : Bool) → (b ≡ true → ⊥) → b ≡ false
false_from true f = absurd (f refl)
false_from false f = refl

pub clash : {P : Type 0} (b : Bool) → b ≡ true → b ≡ false → P
clash true p q = absurd cc
clash false p q = absurd cc

pub among_left : (k : Kind) (xs ys : List Kind) → is_among k xs ≡ true → is_among k (xs ++ ys) ≡ true
among_left k [] ys e = absurd cc
among_left k (x ∷ xs) ys e =
    elim (or_either (same_kind k x) (is_among k xs) e) [
      | inl p ↦ or_left (same_kind k x) (is_among k (xs ++ ys)) p
      | inr q ↦ or_right (same_kind k x) (is_among k (xs ++ ys)) (among_left k xs ys q)
    ]

pub among_right : (k : Kind) (xs ys : List Kind) → is_among k ys ≡ true → is_among k (xs ++ ys) ≡ true
among_right k [] ys e = e
among_right k (x ∷ xs) ys e = or_right (same_kind k x) (is_among k (xs ++ ys)) (among_right k xs ys e)

pub among_either : (k : Kind) (xs ys : List Kind) → is_among k (xs ++ ys) ≡ true → (is_among k xs ≡ true)
    ⊎ (is_among k ys ≡ true)
among_either k [] ys e = inr e
among_either k (x ∷ xs) ys e =
    elim (or_either (same_kind k x) (is_among k (xs ++ ys)) e) [
      | inl p ↦ inl (or_left (same_kind k x) (is_among k xs) p)
      | inr q ↦ elim (among_either k xs ys q) [
        | inl r ↦ inl (or_right (same_kind k x) (is_among k xs) r)
        | inr r ↦ inr r
      ]
    ]

pub among_neither : (k : Kind) (xs ys : List Kind) → is_among k (xs ++ ys) ≡ false → (is_among k xs ≡ false)
    × (is_among k ys ≡ false)
among_neither k xs ys e = (
  false_from (is_among k xs) (λ p. clash (is_among k (xs ++ ys)) (among_left k xs ys p) e),
  false_from (is_among k ys) (λ p. clash (is_among k (xs ++ ys)) (among_right k xs ys p) e),
)

pub within-among : (k : Kind) (xs ys : List Kind) → within xs ys ≡ true → is_among k xs ≡ true → is_among k ys ≡ true
within-among k [] ys w e = absurd cc
within-among k (x ∷ xs) ys w e =
    let p = and_both (is_among x ys) (within xs ys) w in
    elim (or_either (same_kind k x) (is_among k xs) e) [
      | inl s ↦ subst (λ (j : Kind). is_among j ys ≡ true) (sym (same_kind-is k x s)) p.0
      | inr q ↦ within-among k xs ys p.1 q
    ]

pub within-not : (k : Kind) (xs ys : List Kind) → within xs ys ≡ true → is_among k ys ≡ false → is_among k xs ≡ false
within-not k xs ys w e = false_from (is_among k xs) (λ p. clash (is_among k ys) (within-among k xs ys w p) e)

disjoint-clash : (k : Kind) (xs ys : List Kind) → disjoint xs ys ≡ true → is_among k xs ≡ true → is_among k ys ≡ true
    → ⊥
disjoint-clash k [] ys d e f = absurd cc
disjoint-clash k (x ∷ xs) ys d e f =
    let p = and_both (not (is_among x ys)) (disjoint xs ys) d in
    elim (or_either (same_kind k x) (is_among k xs) e) [
      | inl s ↦ clash (is_among x ys) (subst (λ (j : Kind). is_among j ys ≡ true) (same_kind-is k x s) f)
          (not_true (is_among x ys) p.0)
      | inr q ↦ disjoint-clash k xs ys p.1 q f
    ]

pub disjoint-not : (k : Kind) (xs ys : List Kind) → disjoint xs ys ≡ true → is_among k ys ≡ true → is_among k xs ≡ false
disjoint-not k xs ys d f = false_from (is_among k xs) (λ p. disjoint-clash k xs ys d p f)
