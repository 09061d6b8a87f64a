-- The one thing of which something holds.
use Rattle.std.specs.Prelude.{◌≡◌}

-- It is the one thing of which this holds.
pub record IsOne {A : Type 0} (P : A → Type 0) (x : A) : Type 0 where
  pub holds : P x
  pub alone : (y : A) → P y → y ≡ x
