-- Checksums by which texts and modules are told apart.
use Rattle.std.specs.Prelude.{◌≡◌, ℕ, List, ◌⊎◌}
use Rattle.m2_tree.specs.declared.token.Token.{Token}
use Rattle.hex.specs.Hex.{encode_lower}
use Rattle.sha2.specs.Sha256.{sha256}
use Rattle.scan_tokens.specs.declared.refusal.ScanRefusal.{ScanRefusal}
use Rattle.scan_tokens.specs.Bytes.{Text}
use Rattle.scan_tokens.specs.Division.{HasTokens, Refuses}
use Rattle.show_tokens.specs.Tokens.{lexemes_text}

-- the SHA-256 of bytes, in hexadecimal digits
abbrev pub sum_of : List ℕ → List ℕ
sum_of bytes = encode_lower (sha256 bytes)

-- The bytes are what the tokens of a text say, wherever these stand. A text that has no tokens
-- stands for itself.
abbrev pub Says : Text → List ℕ → Type 0
Says text bytes =
    ((tokens : List Token) × HasTokens text tokens × (bytes ≡ lexemes_text tokens))
    ⊎ ((refusal : ScanRefusal) × Refuses text refusal × (bytes ≡ text))

-- the checksum of a definition: that of what its tokens say
abbrev pub IsInterfaceSum : Text → List ℕ → Type 0
IsInterfaceSum text sum = (bytes : List ℕ) × Says text bytes × (sum ≡ sum_of bytes)
