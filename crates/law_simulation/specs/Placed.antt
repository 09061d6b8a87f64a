-- Code with its texts where they are.
use Rattle.std.specs.Prelude.{◌≡◌, ℕ}
use Rattle.def_scheme.specs.Coded.{Coded, Counts, Setting}
use Rattle.law_simulation.specs.Scene.{Grows}

-- the second code has the texts from one offset to another, whatever stands before; else it is the
-- first one
pub record Pins (from to : ℕ) (x y : Coded) : Type 0 where
  pub is : (s : Setting) (c : Counts)
      → x s (record c { texts = from }) ≡ ((y s c).0, record (y s c).1 { texts = to })
  -- and in every setting its counts never fall
  pub grows : (s : Setting) (c : Counts) → Grows c (y s c).1
