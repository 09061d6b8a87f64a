-- Every list of tokens has a tree or a refusal.
use Rattle.std.proofs.Common.{◌≡◌, List, [], ◌∷◌, Result, Ok, Err, refl, ap}
use Rattle.m2_tree.specs.declared.token.Token.{Token}
use Rattle.m2_tree.specs.declared.decl.Module.{Module}
use Rattle.def_grammar.specs.declared.refusal.GrammarRule.{GrammarRule}
use Rattle.def_grammar.specs.declared.refusal.GrammarRule.TheVariants.{Unfit}
use Rattle.def_grammar.specs.declared.refusal.ParseRefusal.{ParseRefusal}
use Rattle.def_grammar.specs.Refusal.{number_of, place_of}
use Rattle.def_grammar.specs.Reading.{Outcome}
use Rattle.def_grammar.proofs.Exact.{outcome_of, is_tree, reported, reported_rest, at_most_one, never_both, refused_once}
use Rattle.law_texts.specs.Laws.{IsParsed, TokensAreParsed}

-- what is reported at this place
refusal_at : GrammarRule → List Token → ParseRefusal
refusal_at broken at = record { pos = place_of at; number = number_of broken at }

answer_of : (ts : List Token) (o : Outcome Module) → outcome_of ts ≡ o → (r : Result Module ParseRefusal)
    × IsParsed ts r
unfolding refusal_at
answer_of ts (Ok (m, [])) e = (Ok m, is_tree ts m e)
answer_of ts (Ok (m, t ∷ us)) e = (
  Err (refusal_at Unfit (t ∷ us)),
  reported_rest ts (t ∷ us) m
      (refusal_at Unfit (t ∷ us)) e (λ d. cc) refl refl,
)
answer_of ts (Err (at, f)) e = (Err (refusal_at f at), reported ts at f (refusal_at f at) e refl refl)

one_answer : (ts : List Token) (r q : Result Module ParseRefusal) → IsParsed ts r → IsParsed ts q → q ≡ r
one_answer ts (Ok m) (Ok n) h k = ap Ok (at_most_one ts n m k h)
one_answer ts (Ok m) (Err q) h k = absurd (never_both ts m q h k)
one_answer ts (Err r) (Ok n) h k = absurd (never_both ts n r k h)
one_answer ts (Err r) (Err q) h k = ap Err (refused_once ts q r k h)

pub tokens_are_parsed : TokensAreParsed
tokens_are_parsed ts =
    let p = answer_of ts (outcome_of ts) refl in
    (p.0, record { has = p.1; none_else = λ q h. one_answer ts p.0 q p.1 h })
