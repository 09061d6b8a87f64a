-- When the arms of a CASE are chosen by a table.
use Rattle.std.specs.Prelude.{ℕ, suc, ◌+◌, ◌*◌, ◌-ℤ◌, min, unsigned_abs, nat_le, Bool, ◌&&◌, Option, Some, None, if◌then◌else◌}
use Rattle.typed_tree.specs.declared.statement.Label.{Label}
use Rattle.def_scheme.specs.Steps.{lesser, greater, values_of, max_arms, max_span, least_values, max_spread}
use Rattle.emit_stmt.specs.declared.plan.Bounds.{Bounds}
use Rattle.emit_stmt.specs.declared.plan.Plan.{Plan}

-- up to here values are counted
abbrev pub max_counted : ℕ
max_counted = 4096

abbrev pub few : ℕ → ℕ
few n = min n max_counted

abbrev pub with_few : ℕ → Label → ℕ
with_few n x = few (n + few (values_of x))

-- the bounds of one label more
abbrev pub with_label : Option Bounds → Label → Option Bounds
with_label None x = Some (record { least = x.low; greatest = x.high; values = few (values_of x) })
with_label (Some b) x =
    Some (record {
      least = lesser b.least x.low;
      greatest = greater b.greatest x.high;
      values = with_few b.values x;
    })

abbrev pub gap_of : Bounds → ℕ
gap_of b = unsigned_abs (b.greatest -ℤ b.least)

abbrev pub dense : (arms gap values : ℕ) → Bool
dense n gap values =
    nat_le n max_arms
    && (nat_le least_values values
    && (nat_le (suc gap) max_span && nat_le (suc gap) (max_spread * values)))

abbrev pub plan_by : (arms : ℕ) → Option Bounds → Option Plan
plan_by n None = None
plan_by n (Some b) =
    if dense n (gap_of b) b.values
    then Some (record { least = b.least; span = suc (gap_of b) })
    else None
