-- The trees of texts fit: their numbers and characters are as the scanner gives them.
use Rattle.std.specs.Prelude.{◌≡◌, ℕ, Bool, true, pos, int_le, List}
use Rattle.std.specs.List.{list_all}
use Rattle.m2_tree.specs.declared.token.Lexeme.{Lexeme}
use Rattle.m2_tree.specs.declared.token.Lexeme.TheVariants as lexeme
use Rattle.m2_tree.specs.declared.token.Token.{Token}
use Rattle.m2_tree.specs.declared.decl.Module.{Module}
use Rattle.scan_tokens.specs.Division.{HasTokens}
use Rattle.def_grammar.specs.Refusal.{IsModule}
use Rattle.law_well_formed.specs.FormedRanges.{fits_character}
use Rattle.law_well_formed.specs.FormedKnown.{fits_module}

-- a number has 32 bits, and a character has 8
abbrev pub lexeme_fits : Lexeme → Bool
lexeme_fits (lexeme.Number n) = int_le (pos n) (pos 4294967295)
lexeme_fits (lexeme.Char c) = fits_character c
lexeme_fits (lexeme.Text text) = list_all fits_character text
lexeme_fits (lexeme.Name name) = true
lexeme_fits (lexeme.Symbol s) = true
lexeme_fits lexeme.End = true

abbrev pub token_fits : Token → Bool
token_fits t = lexeme_fits t.lexeme

-- The tree of tokens that fit, fits.
abbrev pub TreesFit : Type 0
TreesFit =
    (ts : List Token) (m : Module) → list_all token_fits ts ≡ true → IsModule ts m
    → fits_module m ≡ true

-- The tokens of a text fit,
abbrev pub TokensFit : Type 0
TokensFit = (text : List ℕ) (ts : List Token) → HasTokens text ts → list_all token_fits ts ≡ true

-- and so does its tree.
abbrev pub TextsFit : Type 0
TextsFit =
    (text : List ℕ) (ts : List Token) (m : Module) → HasTokens text ts → IsModule ts m
    → fits_module m ≡ true
