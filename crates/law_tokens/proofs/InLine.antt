-- What a token says stands in one line.
use Rattle.std.proofs.Common.{◌≡◌, ◌<◌, ℕ, ◌+◌, ◌/◌, ◌%◌, ◌^◌, ◌==◌, true, false, List, [], ◌∷◌, ◌++◌, codes, decimal, refl, arith}
use Rattle.std.specs.List.{list_all, list_any}
use Rattle.std.proofs.lemmas.Bool.{cond_both}
use Rattle.std.proofs.lemmas.Fmt.{decimal_by_steps}
use Rattle.m2_tree.specs.declared.token.Lexeme.{Lexeme}
use Rattle.m2_tree.specs.declared.token.Lexeme.TheVariants as lexeme
use Rattle.scan_tokens.specs.Bytes.{class, is_run_byte, is_printable}
use Rattle.show_tokens.specs.Tokens.{lexeme_text, octal, quote_of, quote_bytes}
use Rattle.law_tokens.proofs.Lines.{in_line, above_in_line, and_both, tests_in_line, joined_in_line}
use Rattle.law_tokens.proofs.Symbols.{spelling_in_line}
use Rattle.law_tokens.proofs.Plain.{IsPlain}

no_run_ends : is_run_byte 10 ≡ false
unfolding class
no_run_ends = refl

none_printed : is_printable 10 ≡ false
unfolding is_printable
none_printed = refl

one_in_line : (b : ℕ) → 10 < b → list_all in_line (b ∷ []) ≡ true
one_in_line b h = and_both (in_line b) true (above_in_line b h) refl

digit_in_line : (n : ℕ) → list_all in_line ((48 + n) ∷ []) ≡ true
digit_in_line n = one_in_line (48 + n) (omega arith)

decimal_in_line : (n : ℕ) → n < 2 ^ 64 → list_all in_line (decimal n) ≡ true
decimal_in_line n h =
    let P : ℕ → List ℕ → Type 0 = λ n ds. list_all in_line ds ≡ true in
    decimal_by_steps P (λ n _. digit_in_line n)
    (λ n ds _ front. joined_in_line in_line ds ((48 + n % 10) ∷ []) front (digit_in_line (n % 10)))
    n h

octal_in_line : (code : ℕ) → list_all in_line (octal code) ≡ true
unfolding octal
octal_in_line code =
    and_both (in_line (48 + code / 64)) _ (above_in_line (48 + code / 64) (omega arith))
    (and_both (in_line (48 + code / 8 % 8)) _ (above_in_line (48 + code / 8 % 8) (omega arith))
    (digit_in_line (code % 8)))

quote_above : (bytes : List ℕ) → 10 < quote_of bytes
unfolding quote_of
quote_above bytes =
    cond_both (list_any (λ b. b == 34) bytes) 39 34 (λ q. 10 < q) (λ _. omega arith) (λ _. omega arith)

quoted_in_line : (bytes : List ℕ) → list_all is_printable bytes ≡ true
    → list_all in_line (quote_bytes bytes) ≡ true
quoted_in_line bytes h =
    let q = quote_of bytes in
    let above = quote_above bytes in
    let inside = tests_in_line is_printable bytes none_printed h in
    and_both (in_line q) (list_all in_line (bytes ++ q ∷ [])) (above_in_line q above)
    (joined_in_line in_line bytes (q ∷ []) inside (one_in_line q above))

pub text_in_line : (l : Lexeme) → IsPlain l → list_all in_line (lexeme_text l) ≡ true
text_in_line (lexeme.Name name) h = tests_in_line is_run_byte name no_run_ends h
text_in_line (lexeme.Number n) h = decimal_in_line n (omega arith)
text_in_line (lexeme.Char code) h =
    joined_in_line in_line (octal code) (codes "C") (octal_in_line code) refl
text_in_line (lexeme.Text bytes) h = quoted_in_line bytes h
text_in_line (lexeme.Symbol s) h = spelling_in_line s
text_in_line lexeme.End h = refl
