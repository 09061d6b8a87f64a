-- What is put at the end of a text, unless memory ran out.
use Rattle.std.specs.Prelude.{ℕ, ◌≡◌, List, ◌++◌, IsOk, string_bytes}
use Rattle.write_text.specs.declared.text.Text.{Text}

-- These words are put at the end of a text. Where memory did not run out, it had not before, and
-- all of them stand there.
abbrev pub Puts : (old new : Text) → (words : List ℕ) → Type 0
Puts old new words =
    IsOk new.written → IsOk old.written × (string_bytes new.words ≡ string_bytes old.words ++ words)
