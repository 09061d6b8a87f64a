-- What reading one token gives.
use Rattle.std.proofs.Common.{◌≡◌, Bool, true, false, cond, List, [], ◌∷◌, Ok, Err, refl, subst, inl, inr}
use Rattle.def_grammar.specs.declared.kind.Kind.{Kind}
use Rattle.m2_tree.specs.declared.token.Token.{Token}
use Rattle.def_grammar.specs.declared.refusal.GrammarRule.TheVariants.{Unfit}
use Rattle.def_grammar.specs.Spelling.{Among, here, there}
use Rattle.def_grammar.specs.Kinds.{kind_of, same_kind}
use Rattle.def_grammar.specs.Reading.{Outcome, is_among, one_token}
use Rattle.def_grammar.proofs.Truth.{same_kind-is, or_either}

pub among_is : (k : Kind) (ks : List Kind) → is_among k ks ≡ true → Among k ks
among_is k [] e = absurd cc
among_is k (j ∷ js) e =
    elim (or_either (same_kind k j) (is_among k js) e) [
      | inl same ↦ subst (λ (i : Kind). Among k (i ∷ js)) (same_kind-is k j same) here
      | inr other ↦ there (among_is k js other)
    ]

pub among_one : (k j : Kind) → is_among k (j ∷ []) ≡ true → k ≡ j
among_one k j e =
    elim (or_either (same_kind k j) false e) [
      | inl same ↦ same_kind-is k j same
      | inr other ↦ absurd cc
    ]

abbrev pub OneOf : List Kind → List Token → Outcome Token → Type 0
OneOf ks ts (Ok p) = (ts ≡ p.0 ∷ p.1) × (is_among (kind_of p.0) ks ≡ true)
OneOf ks ts (Err e) = e ≡ (ts, Unfit)

one_by : (ks : List Kind) (t : Token) (ts : List Token) (b : Bool) → is_among (kind_of t) ks ≡ b
    → OneOf ks (t ∷ ts) (cond b (Ok (t, ts)) (Err (t ∷ ts, Unfit)))
one_by ks t ts true e = (refl, e)
one_by ks t ts false e = refl

pub one_of : (ks : List Kind) (ts : List Token) → OneOf ks ts (one_token ks ts)
one_of ks [] = refl
one_of ks (t ∷ ts) = one_by ks t ts (is_among (kind_of t) ks) refl
