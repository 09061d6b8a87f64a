-- What a token says tells it apart from all others.
use Rattle.std.proofs.Common.{◌≡◌, ◌<◌, ℕ, ◌+◌, ◌/◌, ◌%◌, List, [], ◌∷◌, ◌++◌, codes, decimal, refl, sym, ap, ◌∙◌, arith}
use Rattle.std.proofs.lemmas.Fmt.{decimal_injective}
use Rattle.std.proofs.lemmas.List.{append_cancel_left, append_cancel_right, same_from_push}
use Rattle.m2_tree.specs.declared.token.Lexeme.{Lexeme}
use Rattle.m2_tree.specs.declared.token.Lexeme.TheVariants as lexeme
use Rattle.show_tokens.specs.Tokens.{lexeme_text, octal, quote_of, quote_bytes}
use Rattle.law_tokens.proofs.Symbols.{same_symbol, beginning, symbol_begins}
use Rattle.law_tokens.proofs.Plain.{IsPlain}

-- what sort of token it is, as its line begins
abbrev sort : Lexeme → ℕ
sort (lexeme.Name name) = 0
sort (lexeme.Number n) = 1
sort (lexeme.Char code) = 2
sort (lexeme.Text bytes) = 3
sort lexeme.End = 4
sort (lexeme.Symbol s) = 5

begins : (l : Lexeme) → beginning (lexeme_text l) ≡ sort l
begins (lexeme.Symbol s) = symbol_begins s
begins _ = refl

-- three octal digits say which byte it is
octal_once : (c d : ℕ) → octal c ≡ octal d → c < 256 → d < 256 → c ≡ d
unfolding octal
octal_once c d e h k =
    let high : 48 + c / 64 ≡ 48 + d / 64 = cc in
    let middle : 48 + c / 8 % 8 ≡ 48 + d / 8 % 8 = cc in
    let low : 48 + c % 8 ≡ 48 + d % 8 = cc in
    omega arith

quoted_once : (i j : List ℕ) → quote_bytes i ≡ quote_bytes j → i ≡ j
quoted_once i j e =
    let tails : i ++ quote_of i ∷ [] ≡ j ++ quote_of j ∷ [] = cc in
    (same_from_push i j (quote_of i) (quote_of j) tails).0

same_of_sort : (l m : Lexeme) → IsPlain l → IsPlain m → lexeme_text l ≡ lexeme_text m
    → sort l ≡ sort m → l ≡ m
same_of_sort (lexeme.Name n) (lexeme.Name o) h k e s =
    ap lexeme.Name (append_cancel_left (codes "name ") n o e)
same_of_sort (lexeme.Number n) (lexeme.Number o) h k e s =
    let digits = append_cancel_left (codes "number ") (decimal n) (decimal o) e in
    ap lexeme.Number (decimal_injective n o (omega arith) (omega arith) digits)
same_of_sort (lexeme.Char c) (lexeme.Char d) h k e s =
    let suffix = codes "C" in
    let ends = append_cancel_left (codes "character ") (octal c ++ suffix) (octal d ++ suffix) e in
    let digits = append_cancel_right (octal c) (octal d) suffix ends in
    ap lexeme.Char (octal_once c d digits h k)
same_of_sort (lexeme.Text i) (lexeme.Text j) h k e s =
    let strings = append_cancel_left (codes "string ") (quote_bytes i) (quote_bytes j) e in
    ap lexeme.Text (quoted_once i j strings)
same_of_sort (lexeme.Symbol s) (lexeme.Symbol t) h k e _ = ap lexeme.Symbol (same_symbol s t e)
same_of_sort lexeme.End lexeme.End h k e s = refl
same_of_sort _ _ h k e s = absurd (omega arith)

pub same_lexeme : (l m : Lexeme) → IsPlain l → IsPlain m → lexeme_text l ≡ lexeme_text m → l ≡ m
same_lexeme l m h k e = same_of_sort l m h k e (sym (begins l) ∙ ap beginning e ∙ begins m)
