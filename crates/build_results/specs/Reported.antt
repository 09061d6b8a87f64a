-- What is reported of files.
use Rattle.std.specs.Prelude.{◌≡◌, ℕ, List, map}
use Rattle.std.specs.String.{string_bytes}
use Rattle.m2_tree.specs.declared.refusal.Refusal.{Refusal}
use Rattle.build_results.specs.Order.{AreInOrder}

-- a refusal without where it lies in memory
pub record Reported : Type 0 where
  pub file : List ℕ
  pub line : ℕ
  pub column : ℕ
  pub number : ℕ

abbrev pub report_of : Refusal → Reported
report_of r =
    record { file = string_bytes r.file; line = r.pos.line; column = r.pos.col; number = r.number }

abbrev pub reported_at : (file : List ℕ) (line column number : ℕ) → Reported
reported_at file line column number =
    record { file = file; line = line; column = column; number = number }

-- the refusals are these, in order of the names of their files, and as they are found if these are
-- equal
abbrev pub AreReported : List Reported → List Refusal → Type 0
AreReported all refusals =
    (found : List Refusal) × (map report_of found ≡ all) × AreInOrder found refusals
