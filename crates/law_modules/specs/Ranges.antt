-- Types whose ranges are ranges of the language.
use Rattle.std.specs.Prelude.{◌≡◌, ℕ, suc, ◌-ℤ◌, ◌≤ℤ◌, pos, negsuc, true, false, List, [], ◌∷◌, Some}
use Rattle.typed_tree.specs.declared.types.Home.TheVariants.{Module}
use Rattle.typed_tree.specs.declared.types.TypeNo.{TypeNo}
use Rattle.typed_tree.specs.declared.shape.Scalar.{Scalar as Range}
use Rattle.typed_tree.specs.declared.shape.Shape.{Shape}
use Rattle.typed_tree.specs.declared.shape.Shape.TheVariants as shape
use Rattle.typed_tree.specs.declared.shape.Made.{Made}
use Rattle.typed_tree.specs.declared.known_types.Types.{Types}
use Rattle.typed_tree.specs.Known.{scalar_at}
use Rattle.typed_tree.specs.Types.{are_same, is_integer}

-- the numbers of a scalar type: a base type other than INTEGER begins with 0
pub record IsRange (t : TypeNo) (s : Range) : Type 0 where
  pub low : negsuc 2147483647 ≤ℤ s.low
  pub high : s.high ≤ℤ pos 4294967295
  pub some : s.low ≤ℤ s.high
  pub narrow : (s.high -ℤ s.low) ≤ℤ pos 4294967295
  pub integer : are_same t s.base ≡ true → is_integer t ≡ true
      → (s.low ≡ negsuc 2147483647) × (s.high ≡ pos 2147483647)
  pub base : are_same t s.base ≡ true → is_integer t ≡ false → s.low ≡ pos 0

abbrev pub IsRanged : TypeNo → Shape → Type 0
IsRanged t (shape.Scalar s) = IsRange t s
IsRanged t shape.Set = Unit {0}
IsRanged t (shape.Array i e) = Unit {0}
IsRanged t (shape.Record fs) = Unit {0}
IsRanged t (shape.Procedure p) = Unit {0}
IsRanged t (shape.Open e) = Unit {0}

abbrev pub type_of : (home n : ℕ) → TypeNo
type_of home n = record { home = Module home; number = n }

-- the types of a module from this number on
abbrev pub AreRangedFrom : (home n : ℕ) → List Made → Type 0
AreRangedFrom home n [] = Unit {0}
AreRangedFrom home n (m ∷ ms) = IsRanged (type_of home n) m.shape × AreRangedFrom home (suc n) ms

abbrev pub OthersRanged : List (ℕ × List Made) → Type 0
OthersRanged [] = Unit {0}
OthersRanged (e ∷ es) = AreRangedFrom e.0 0 e.1 × OthersRanged es

-- all types that a module knows
pub record AreRanged (types : Types) : Type 0 where
  pub own : AreRangedFrom types.home 0 types.own
  pub others : OthersRanged types.others

-- the range of a type that is known
abbrev pub RangesAreKnown : Type 0
RangesAreKnown =
    (types : Types) → AreRanged types → (t : TypeNo) (r : Range) → scalar_at types t ≡ Some r
    → IsRange t r
