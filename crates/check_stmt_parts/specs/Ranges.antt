-- Ranges of points, each by its first and its last.
use Rattle.std.specs.Prelude.{Bool, true, false, ◌&&◌, cond, List, [], ◌∷◌}
use Rattle.std.specs.List.{list_any, list_all}
use Rattle.std.specs.Option.{option_cmp}
use Rattle.std.specs.declared.cmp.Ordering.{Ordering}
use Rattle.std.specs.Ordering.{nat_cmp, int_cmp, ordering_then, is_lt, is_le}
use Rattle.std.specs.BTreeMap.{insert_entry}
use Rattle.check_stmt_parts.specs.declared.ranges.Point.{Point}

abbrev pub point_cmp : Point → Point → Ordering
point_cmp p q =
    ordering_then (option_cmp nat_cmp p.home q.home)
    (ordering_then (nat_cmp p.place q.place) (int_cmp p.number q.number))

abbrev pub is_below : Point → Point → Bool
is_below p q = is_lt (point_cmp p q)

abbrev pub is_at_most : Point → Point → Bool
is_at_most p q = is_le (point_cmp p q)

abbrev pub Range : Type 0
Range = Point × Point

-- whether a range has a point from low to high
abbrev pub meets : Point → Point → Range → Bool
meets low high r = is_at_most low r.1 && is_at_most r.0 high

abbrev pub is_met : Point → Point → List Range → Bool
is_met low high ranges = list_any (meets low high) ranges

-- one more range, if it has a point
abbrev pub with_range : Point → Point → List Range → List Range
with_range low high ranges =
    cond (is_below high low) ranges (insert_entry point_cmp ranges low high)

-- one more range, if it is new, and whether it is
abbrev pub enter_range : Point → Point → List Range → List Range × Bool
enter_range low high ranges =
    cond (is_met low high ranges) (ranges, false) (with_range low high ranges, true)

-- ranges that have points, in order, and none in common
abbrev pub are_apart : List Range → Bool
are_apart [] = true
are_apart (r ∷ rs) =
    is_at_most r.0 r.1 && list_all (λ (s : Range). is_below r.1 s.0) rs && are_apart rs
