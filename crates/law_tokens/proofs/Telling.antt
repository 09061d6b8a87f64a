-- Texts whose tokens say the same have the same tokens, but for their places.
use Rattle.std.proofs.Common.{◌≡◌, ℕ, List, [], ◌∷◌, ◌++◌, map, codes, refl, sym, ap, ◌∙◌, append_assoc}
use Rattle.std.proofs.lemmas.List.Concat.{flat_map-cons}
use Rattle.m2_tree.specs.declared.token.Token.{Token}
use Rattle.show_tokens.specs.Tokens.{lexeme_text, lexeme_line, lexemes_text}
use Rattle.law_tokens.specs.Telling.{AreToldApart}
use Rattle.law_tokens.proofs.Lines.{same_line}
use Rattle.law_tokens.proofs.InLine.{text_in_line}
use Rattle.law_tokens.proofs.Apart.{same_lexeme}
use Rattle.law_tokens.proofs.Plain.{ArePlain, tokens_plain}

first_line : (t : Token) (ts : List Token)
    → lexemes_text (t ∷ ts) ≡ lexeme_text t.lexeme ++ 10 ∷ lexemes_text ts
unfolding lexeme_line
first_line t ts =
    flat_map-cons (λ t. lexeme_line t.lexeme) t ts
    ∙ append_assoc (lexeme_text t.lexeme) (codes "\n") (lexemes_text ts)

never_empty : (x r : List ℕ) → [] ≡ x ++ 10 ∷ r → ⊥
never_empty [] r e = cc
never_empty (b ∷ x) r e = cc

same_lexemes : (ts us : List Token) → ArePlain ts → ArePlain us → lexemes_text ts ≡ lexemes_text us
    → map (λ t. t.lexeme) ts ≡ map (λ t. t.lexeme) us
same_lexemes [] [] h k e = refl
same_lexemes [] (u ∷ us) h k e = absurd (never_empty _ _ (e ∙ first_line u us))
same_lexemes (t ∷ ts) [] h k e = absurd (never_empty _ _ (sym e ∙ first_line t ts))
same_lexemes (t ∷ ts) (u ∷ us) h k e =
    let lines = sym (first_line t ts) ∙ e ∙ first_line u us in
    let cut =
    same_line (lexeme_text t.lexeme) (lexeme_text u.lexeme) (lexemes_text ts) (lexemes_text us)
    (text_in_line t.lexeme h.0) (text_in_line u.lexeme k.0) lines in
    let here : t.lexeme ≡ u.lexeme = same_lexeme t.lexeme u.lexeme h.0 k.0 cut.0 in
    let later = same_lexemes ts us h.1 k.1 cut.1 in
    ap (λ l. l ∷ map (λ t. t.lexeme) ts) here ∙ ap (λ ls. u.lexeme ∷ ls) later

pub told_apart : AreToldApart
told_apart text other ts us has also e =
    same_lexemes ts us (tokens_plain text ts has) (tokens_plain other us also) e
