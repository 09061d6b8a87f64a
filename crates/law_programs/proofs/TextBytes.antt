-- A text of bytes that stands among the characters of a module.
use Rattle.std.proofs.Common.{◌≡◌, ℕ, zero, suc, ◌<◌, true, List, [], ◌∷◌, get_or, pos, refl, arith}
use Rattle.std.specs.List.{list_all}
use Rattle.std.proofs.lemmas.Int.{ints}
use Rattle.layout_storage.specs.Texts.{argument_text}
use Rattle.law_well_formed.specs.FormedRanges.{fits_character}
use Rattle.law_well_formed.proofs.RangesTypes.{both_left, both_right}
use Rattle.law_well_formed.proofs.Subranges.{from_le}
use Rattle.law_simulation.specs.TreesTyped.{Context, HasText}
use Rattle.law_programs.specs.Wanted.{TextStands}

-- ---- a text

byte_small : (c : ℕ) → fits_character c ≡ true → c < 256
byte_small c e = let l = from_le (pos c) (pos 255) e in omega (arith, ints, l)

-- past the end stands 0
bytes_small : (cs : List ℕ) → list_all fits_character cs ≡ true → (j : ℕ) → get_or cs j 0 < 256
bytes_small [] e j = omega arith
bytes_small (c ∷ cs) e zero = byte_small c (both_left (fits_character c) (list_all fits_character cs) e)
bytes_small (c ∷ cs) e (suc j) = bytes_small cs (both_right (fits_character c) (list_all fits_character cs) e) j

pub passed_bytes : (cs : List ℕ) → list_all fits_character cs ≡ true → list_all fits_character (argument_text cs) ≡ true
passed_bytes [] e = refl
passed_bytes (c ∷ cs) e = e

pub has_text : (x : Context) (at : ℕ) (text : List ℕ) → TextStands x at text → list_all fits_character text ≡ true
    → HasText x at text
has_text x at text t e = record { fits = t.fits; same = t.same; small = bytes_small text e }
