-- What a new layout leaves as it was.
use Rattle.std.specs.Prelude.{◌≡◌, not, List, map}
use Rattle.std.specs.List.{filter}
use Rattle.std.specs.Char.{is_ascii_whitespace}
use Rattle.m2_tree.specs.declared.token.Token.{Token}
use Rattle.m2_tree.specs.declared.token.Lexeme.{Lexeme}
use Rattle.scan_tokens.specs.Bytes.{Text}
use Rattle.scan_tokens.specs.Division.{HasTokens}

-- what tokens say, wherever they stand
abbrev pub lexemes : List Token → List Lexeme
lexemes = map (λ t. t.lexeme)

-- the bytes that are no blanks: those of the tokens and of the comments
abbrev pub ink : Text → Text
ink = filter (λ b. not (is_ascii_whitespace b))

-- One text is another in a new layout: they have the same tokens but for places, and the same
-- bytes but for blanks, so the same comments in the same order.
abbrev pub IsLayoutOf : Text → Text → Type 0
IsLayoutOf text out =
    (before : List Token) × (after : List Token) × HasTokens text before × HasTokens out after
    × (lexemes after ≡ lexemes before) × (ink out ≡ ink text)
