-- What is known of the tokens of a text, without its bytes.
use Rattle.std.proofs.Common.{◌≡◌, ◌<◌, ◌^◌, true, List, [], ◌∷◌, ◌++◌, Some, None, refl, sym, ap, ◌∙◌, subst}
use Rattle.std.specs.List.{list_all}
use Rattle.m2_tree.specs.declared.token.Token.{Token}
use Rattle.m2_tree.specs.declared.token.Lexeme.{Lexeme}
use Rattle.m2_tree.specs.declared.token.Lexeme.TheVariants as lexeme
use Rattle.scan_tokens.specs.declared.class.Class.TheVariants.{Letter}
use Rattle.scan_tokens.specs.Bytes.{Text, in_run, is_run_byte, is_printable}
use Rattle.scan_tokens.specs.Forms.{IsRun, Spells, Member}
use Rattle.scan_tokens.specs.Division.{Divides, HasTokens, place, tokens_at, tokens_behind}
use Rattle.law_tokens.proofs.Lines.{and_both}

abbrev pub IsPlain : Lexeme → Type 0
IsPlain (lexeme.Name name) = list_all is_run_byte name ≡ true
IsPlain (lexeme.Number n) = n < 2 ^ 32
IsPlain (lexeme.Char code) = code < 256
IsPlain (lexeme.Text bytes) = list_all is_printable bytes ≡ true
IsPlain (lexeme.Symbol s) = Unit {0}
IsPlain lexeme.End = Unit {0}

abbrev pub ArePlain : List Token → Type 0
ArePlain [] = Unit {0}
ArePlain (t ∷ ts) = IsPlain t.lexeme × ArePlain ts

run_bytes : (w : Text) → IsRun Letter w → list_all is_run_byte w ≡ true
run_bytes [] r = refl
run_bytes (b ∷ w) r = and_both (is_run_byte b) (list_all is_run_byte w) (ap in_run r.0) r.1

plain : (w : Text) (l : Lexeme) → Spells w l → IsPlain l
plain w (lexeme.Name n) h = ap (list_all is_run_byte) h.3 ∙ run_bytes w h.0
plain w (lexeme.Number n) h = h.2
plain w (lexeme.Char c) h = h.2
plain w (lexeme.Text inside) h = h.1
plain w (lexeme.Symbol s) h = tt
plain w lexeme.End h = absurd h

joined : (ts us : List Token) → ArePlain ts → ArePlain us → ArePlain (ts ++ us)
joined [] us h k = k
joined (t ∷ ts) us h k = (h.0, joined ts us h.1 k)

members : (front text rest : Text) (ms : List Member) → Divides text ms rest
    → ArePlain (tokens_behind front ms)
members front text rest [] h = tt
members front text rest ((w, None) ∷ ms) h = members (front ++ w) h.0 rest ms h.4
members front text rest ((w, Some l) ∷ ms) h = (plain w l h.3, members (front ++ w) h.0 rest ms h.4)

pub tokens_plain : (text : Text) (ts : List Token) → HasTokens text ts → ArePlain ts
tokens_plain text ts h =
    let P : List Token → Type 0 = λ ts. ArePlain ts in
    let last = tokens_at (place text) (Some lexeme.End) in
    let all = joined (tokens_behind [] h.0) last (members [] text [] h.0 h.1) (tt, tt) in
    subst P (sym h.2) all
