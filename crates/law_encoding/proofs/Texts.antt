-- A text has no more tokens than bytes, but for its end.
use Rattle.std.proofs.Common.{◌≡◌, ℕ, suc, ◌+◌, ◌*◌, ◌≤◌, List, [], ◌∷◌, ◌++◌, length, Some, None, sym, ap, subst, ◌∙◌, length-append, arith}
use Rattle.m2_tree.specs.declared.token.Lexeme.TheVariants as lexeme
use Rattle.m2_tree.specs.declared.token.Symbol.{Symbol}
use Rattle.m2_tree.specs.declared.token.Token.{Token}
use Rattle.scan_tokens.specs.declared.class.Class.{Class}
use Rattle.scan_tokens.specs.Bytes.{Text}
use Rattle.scan_tokens.specs.Symbols.{sign_of}
use Rattle.scan_tokens.specs.Forms.{IsRun, IsQuoted, IsForm, space, name, number, quoted, sign, comment, opened, Member}
use Rattle.scan_tokens.specs.Division.{place, Divides, tokens_behind, HasTokens}

one_byte : (n : ℕ) → 1 ≤ suc n
one_byte n = omega arith

run_filled : (k : Class) (w : Text) → IsRun k w → 1 ≤ length w
run_filled k [] h = absurd h
run_filled k (b ∷ w) h = one_byte (length w)

quoted_filled : (w inside : Text) → IsQuoted w inside → 1 ≤ length w
quoted_filled w inside h = subst (λ (v : Text). 1 ≤ length v) (sym h.3) (one_byte _)

sign_filled : (w : Text) (s : Symbol) → sign_of w ≡ Some s → 1 ≤ length w
unfolding sign_of
sign_filled [] s e = absurd cc
sign_filled (b ∷ w) s e = one_byte (length w)

form_filled : (w : Text) → IsForm w → 1 ≤ length w
form_filled _ (space b e) = one_byte 0
form_filled w (name _ h) = run_filled _ w h
form_filled w (number _ h) = run_filled _ w h
form_filled w (quoted _ inside h) = quoted_filled w inside h
form_filled w (sign _ s e) = sign_filled w s e
form_filled _ (comment bs h) = one_byte _
form_filled _ opened = one_byte _

behind_sum : (n k w m : ℕ) → n ≤ m → k ≡ w + m → n ≤ k
behind_sum n k w m h e = omega (arith, h, e)

token_sum : (n k w m : ℕ) → n ≤ m → k ≡ w + m → 1 ≤ w → suc n ≤ k
token_sum n k w m h e l = omega (arith, h, e, l)

parts : (text w more : Text) → text ≡ w ++ more → length text ≡ length w + length more
parts text w more e = ap (λ (v : Text). length v) e ∙ length-append w more

members_below : (text front : Text) (ms : List Member) (rest : Text) → Divides text ms rest
    → length (tokens_behind front ms) ≤ length text
members_below text front [] rest h = omega arith
members_below text front ((w, None) ∷ ms) rest h =
    behind_sum _ _ (length w) _ (members_below h.0 (front ++ w) ms rest h.4) (parts text w h.0 h.1)
members_below text front ((w, Some t) ∷ ms) rest h =
    token_sum _ _ (length w) _ (members_below h.0 (front ++ w) ms rest h.4) (parts text w h.0 h.1)
    (form_filled w h.2.form)

with_end : (n k m : ℕ) → n ≡ k + 1 → k ≤ m → n ≤ 1 + m
with_end n k m e l = omega (arith, e, l)

pub tokens_below : (text : Text) (ts : List Token) → HasTokens text ts → length ts ≤ 1 + length text
tokens_below text ts h =
    with_end _ (length (tokens_behind [] h.0)) _
    (ap (λ (us : List Token). length us) h.2
    ∙ length-append (tokens_behind [] h.0) (record { lexeme = lexeme.End; pos = place text } ∷ []))
    (members_below text [] h.0 [] h.1)

text_sum : (n k m : ℕ) → n ≤ 4 * k → k ≤ 1 + m → n ≤ 4 * (1 + m)
text_sum n k m h l = omega (arith, h, l)

pub text_below : (text : Text) (ts : List Token) (n : ℕ) → HasTokens text ts → n ≤ 4 * length ts
    → n ≤ 4 * (1 + length text)
text_below text ts n h l = text_sum n (length ts) (length text) l (tokens_below text ts h)
