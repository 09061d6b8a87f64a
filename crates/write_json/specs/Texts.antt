-- What is written of a text of JSON, unless memory ran out.
use Rattle.std.specs.Prelude.{◌≡◌, ◌++◌, [], ◌∷◌, IsOk}
use Rattle.json.specs.Token.{Token}
use Rattle.write_json.specs.declared.text.Json.{Json}

-- Behind a text that is whole stands one more token.
abbrev pub Adds : Json → Json → Token → Type 0
Adds old new t =
    IsOk new.written → IsOk old.written × (new.out.tokens ≡ old.out.tokens ++ t ∷ [])

-- The same of two tokens.
abbrev pub AddsTwo : Json → Json → Token → Token → Type 0
AddsTwo old new t u =
    IsOk new.written → IsOk old.written × (new.out.tokens ≡ old.out.tokens ++ t ∷ u ∷ [])
