-- Checksums of what is kept.
use Rattle.std.specs.Prelude.{◌≡◌, ℕ, List}
use Rattle.std.specs.Hash.DefaultHasher as sip
use Rattle.std.specs.Int.{w64, to_be_bytes}
use Rattle.hex.specs.Hex.{encode_lower}
use Rattle.link_parts.specs.Sums.{Says}

-- the SipHash-1-3 of bytes, with keys of zeros
abbrev pub hash_of : List ℕ → ℕ
hash_of bytes = sip.finish (sip.write sip.initial bytes)

-- the same in hexadecimal digits
abbrev pub short_sum : List ℕ → List ℕ
short_sum bytes = encode_lower (to_be_bytes w64 (hash_of bytes))

-- the checksum of a definition: that of what its tokens say
abbrev pub IsDefinitionSum : (text sum : List ℕ) → Type 0
IsDefinitionSum text sum = (bytes : List ℕ) × Says text bytes × (sum ≡ short_sum bytes)
