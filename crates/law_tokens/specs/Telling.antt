-- Texts whose tokens say the same have the same tokens, but for their places.
use Rattle.std.specs.Prelude.{◌≡◌, List, map}
use Rattle.m2_tree.specs.declared.token.Token.{Token}
use Rattle.scan_tokens.specs.Bytes.{Text}
use Rattle.scan_tokens.specs.Division.{HasTokens}
use Rattle.show_tokens.specs.Tokens.{lexemes_text}

-- If the lines of two texts' tokens are the same, without places, so is what each token is.
abbrev pub AreToldApart : Type 0
AreToldApart =
    (text other : Text) (ts us : List Token) → HasTokens text ts → HasTokens other us
    → lexemes_text ts ≡ lexemes_text us → map (λ t. t.lexeme) ts ≡ map (λ t. t.lexeme) us
