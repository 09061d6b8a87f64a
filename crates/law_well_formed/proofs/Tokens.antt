-- The tokens of a text fit.
use Rattle.std.proofs.Common.{◌≡◌, ℕ, pos, ◌<◌, ◌≤◌, Bool, true, false, ◌&&◌, List, [], ◌∷◌, ◌++◌, Option, Some, None, refl, sym, ap, subst, ◌∙◌, arith}
use Rattle.std.specs.Prelude.{int_le, nat_le}
use Rattle.std.specs.List.{list_all}
use Rattle.std.proofs.lemmas.Bool.{le-leb, leb-true}
use Rattle.m2_tree.specs.declared.token.Lexeme.{Lexeme}
use Rattle.m2_tree.specs.declared.token.Lexeme.TheVariants as lexeme
use Rattle.m2_tree.specs.declared.token.Token.{Token}
use Rattle.scan_tokens.specs.Bytes.{Text, is_printable}
use Rattle.scan_tokens.specs.Forms.{Spells, Member}
use Rattle.scan_tokens.specs.Division.{place, Divides, tokens_at, tokens_behind, HasTokens}
use Rattle.law_well_formed.specs.FormedRanges.{fits_character}
use Rattle.law_well_formed.proofs.RangesTypes.{both_left, both_right}
use Rattle.law_well_formed.specs.FormedFits.{lexeme_fits, token_fits}
use Rattle.law_well_formed.proofs.Folds.{and_both}

to_le : (m n : ℕ) → m ≤ n → int_le (pos m) (pos n) ≡ true
to_le m n l = le-leb m n l

printable_small : (c : ℕ) → is_printable c ≡ true → c ≤ 126
unfolding is_printable
printable_small c e = leb-true c 126 (both_right (nat_le 32 c) (nat_le c 126) e)

text_fits : (text : List ℕ) → list_all is_printable text ≡ true → list_all fits_character text ≡ true
text_fits [] e = refl
text_fits (c ∷ text) e =
    let l : c ≤ 126 = printable_small c (both_left (is_printable c) (list_all is_printable text) e) in
    and_both (fits_character c) (list_all fits_character text) (to_le c 255 (omega (arith, l)))
    (text_fits text (both_right (is_printable c) (list_all is_printable text) e))

lexeme_from : (w : Text) (l : Lexeme) → Spells w l → lexeme_fits l ≡ true
lexeme_from w (lexeme.Number n) h = let l : n < 4294967296 = h.2 in to_le n 4294967295 (omega (arith, l))
lexeme_from w (lexeme.Char c) h = let l : c < 256 = h.2 in to_le c 255 (omega (arith, l))
lexeme_from w (lexeme.Text text) h = text_fits text h.1
lexeme_from w (lexeme.Name n) h = refl
lexeme_from w (lexeme.Symbol s) h = refl
lexeme_from w lexeme.End h = refl

members_fit : (text front : Text) (ms : List Member) (rest : Text) → Divides text ms rest
    → list_all token_fits (tokens_behind front ms) ≡ true
members_fit text front [] rest h = refl
members_fit text front ((w, None) ∷ ms) rest h = members_fit h.0 (front ++ w) ms rest h.4
members_fit text front ((w, Some t) ∷ ms) rest h =
    and_both (lexeme_fits t) (list_all token_fits (tokens_behind (front ++ w) ms)) (lexeme_from w t h.3)
    (members_fit h.0 (front ++ w) ms rest h.4)

with_end : (ts : List Token) (t : Token) → list_all token_fits ts ≡ true → token_fits t ≡ true
    → list_all token_fits (ts ++ t ∷ []) ≡ true
with_end [] t h k = and_both (token_fits t) true k refl
with_end (x ∷ ts) t h k =
    and_both (token_fits x) (list_all token_fits (ts ++ t ∷ [])) (both_left (token_fits x) (list_all token_fits ts) h)
    (with_end ts t (both_right (token_fits x) (list_all token_fits ts) h) k)

pub tokens_fit : (text : Text) (ts : List Token) → HasTokens text ts → list_all token_fits ts ≡ true
tokens_fit text ts h =
    subst (λ (us : List Token). list_all token_fits us ≡ true) (sym h.2)
    (with_end (tokens_behind [] h.0) (record { lexeme = lexeme.End; pos = place text }) (members_fit text [] h.0 [] h.1)
    refl)
