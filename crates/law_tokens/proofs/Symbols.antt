-- The spellings of signs and reserved words: which symbol one is of, and how it begins.
use Rattle.std.proofs.Common.{◌≡◌, ℕ, true, ◌==◌, List, [], ◌∷◌, ◌++◌, Option, Some, refl, sym, ap, ◌∙◌, if◌then◌else◌}
use Rattle.std.specs.List.{list_all}
use Rattle.std.proofs.lemmas.Option.{same_Some}
use Rattle.m2_tree.specs.declared.token.Symbol.{Symbol}
use Rattle.m2_tree.specs.declared.token.Symbol.TheVariants.{And}
use Rattle.scan_tokens.specs.Symbols.{words, signs, lookup}
use Rattle.show_tokens.specs.Tokens.{spelling}
use Rattle.law_tokens.proofs.Lines.{in_line}

abbrev symbol_of : List ℕ → Option Symbol
symbol_of w = lookup (words ++ signs) w

read_back : (s : Symbol) → symbol_of (spelling s) ≡ Some s
read_back And = refl
read_back _ = refl

-- spellings tell symbols apart
pub same_symbol : (s t : Symbol) → spelling s ≡ spelling t → s ≡ t
same_symbol s t e = same_Some s t (sym (read_back s) ∙ ap symbol_of e ∙ read_back t)

pub spelling_in_line : (s : Symbol) → list_all in_line (spelling s) ≡ true
spelling_in_line And = refl
spelling_in_line _ = refl

-- how a line begins: 0 to 4 as the lines of names, numbers, characters, strings and the end do, or
-- else 5
abbrev second : ℕ → ℕ
second b = if b == 97 then 0 else 1

abbrev first : (b c : ℕ) → ℕ
first b c =
    if b == 110
    then second c
    else if b == 99 then 2 else if b == 115 then 3 else if b == 101 then 4 else 5

abbrev pub beginning : List ℕ → ℕ
beginning [] = 5
beginning (b ∷ []) = first b 0
beginning (b ∷ c ∷ bs) = first b c

pub symbol_begins : (s : Symbol) → beginning (spelling s) ≡ 5
symbol_begins And = refl
symbol_begins _ = refl
