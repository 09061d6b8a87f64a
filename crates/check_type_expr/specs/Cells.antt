-- How many scalar cells types have, counted up to one more than the most.
use Rattle.std.specs.Prelude.{ℕ, ◌+◌, ◌*◌, ℤ, ◌-ℤ◌, Bool, true, false, not, cond, nat_lt, int_lt, unsigned_abs, Option, Some, None, Result, Ok}
use Rattle.m2_rule.specs.declared.rule.Rule.TheVariants as rule
use Rattle.m2_tree.specs.declared.pos.Pos.{Pos}
use Rattle.typed_tree.specs.declared.types.TypeNo.{TypeNo}
use Rattle.typed_tree.specs.declared.shape.Scalar.{Scalar}
use Rattle.typed_tree.specs.Types.{is_numeric}
use Rattle.typed_tree.specs.declared.known_types.Types.{Types}
use Rattle.typed_tree.specs.Known.{scalar_at}
use Rattle.check_scope.specs.Elaborated.{Gathers, reported_where}
use Rattle.m2_tree.specs.Limits.{max_cells}

abbrev pub count_up : ℕ → ℕ
count_up distance = cond (nat_lt max_cells distance) (max_cells + 1) (distance + 1)

-- how many values a scalar type has
abbrev pub count_of : Option Scalar → ℕ
count_of None = 0
count_of (Some s) = cond (int_lt s.high s.low) 0 (count_up (unsigned_abs (s.high -ℤ s.low)))

abbrev pub count_at : Types → TypeNo → ℕ
count_at types t = count_of (scalar_at types t)

abbrev pub plus : ℕ → ℕ → ℕ
plus a b = cond (nat_lt max_cells (a + b)) (max_cells + 1) (a + b)

abbrev pub array_cells : (g : Gathers) → Pos → (count cells : ℕ) → Result ℕ g.Reported
array_cells g at count cells =
    reported_where g (nat_lt max_cells (count * cells)) at rule.LargeType (Ok (count * cells))

-- a scalar, but not INTEGER or CARDINAL as a whole
abbrev pub is_index_scalar : TypeNo → Option Scalar → Bool
is_index_scalar t None = false
is_index_scalar t (Some s) = not (is_numeric t)

abbrev pub is_index : Types → TypeNo → Bool
is_index types t = is_index_scalar t (scalar_at types t)
