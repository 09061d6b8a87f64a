-- The order of points is a total one.
use Rattle.std.proofs.Common.{◌≡◌, Bool, true, false, Ordering, Less, Equal, Greater, refl, sym, ap, ◌∙◌}
use Rattle.std.specs.Prelude.{not}
use Rattle.std.specs.Ordering.{ordering_reverse, is_lt, is_le}
use Rattle.std.specs.Cmp.{IsTotalOrder}
use Rattle.std.specs.Cmp.Lexicographic.{options_total}
use Rattle.std.proofs.lemmas.Cmp.{on_total, then_total, nat_cmp_total, int_cmp_total, alike_right}
use Rattle.check_stmt_parts.specs.declared.ranges.Point.{Point}
use Rattle.check_stmt_parts.specs.Ranges.{point_cmp, is_below, is_at_most}

pub points_total : IsTotalOrder point_cmp
points_total = then_total (on_total (λ (p : Point). p.home) (options_total nat_cmp_total))
    (then_total (on_total (λ (p : Point). p.place) nat_cmp_total) (on_total (λ (p : Point). p.number) int_cmp_total))

less_of : (o : Ordering) → is_lt o ≡ true → o ≡ Less
less_of Less h = refl
less_of Equal h = absurd (cc h)
less_of Greater h = absurd (cc h)

lt_le : (o : Ordering) → is_lt o ≡ true → is_le o ≡ true
lt_le Less h = refl
lt_le Equal h = refl
lt_le Greater h = absurd (cc h)

le_reversed : (o : Ordering) → is_le o ≡ not (is_lt (ordering_reverse o))
le_reversed Less = refl
le_reversed Equal = refl
le_reversed Greater = refl

pub weaker : (a b : Point) → is_below a b ≡ true → is_at_most a b ≡ true
weaker a b h = lt_le (point_cmp a b) h

pub flipped : (a b : Point) → is_at_most a b ≡ not (is_below b a)
flipped a b = le_reversed (point_cmp a b) ∙ ap (λ (o : Ordering). not (is_lt o)) (sym (points_total.antisymm b a))

pub chain : (a b c : Point) → is_below a b ≡ true → is_below b c ≡ true → is_below a c ≡ true
chain a b c h k = ap is_lt (points_total.trans a b c (less_of (point_cmp a b) h) (less_of (point_cmp b c) k))

below_by : (a b c : Point) (o : Ordering) → point_cmp b c ≡ o → is_le o ≡ true → is_below a b ≡ true
    → is_below a c ≡ true
below_by a b c Less e h k = ap is_lt (points_total.trans a b c (less_of (point_cmp a b) k) e)
below_by a b c Equal e h k = ap is_lt (sym (alike_right points_total b c a e)) ∙ k
below_by a b c Greater e h k = absurd (cc h)

pub below_end : (a b c : Point) → is_below a b ≡ true → is_at_most b c ≡ true → is_below a c ≡ true
below_end a b c h k = below_by a b c (point_cmp b c) refl k h

at_most_by : (a b c : Point) (o : Ordering) → point_cmp a b ≡ o → is_le o ≡ true → is_at_most b c ≡ true
    → is_at_most a c ≡ true
at_most_by a b c Less e h k = weaker a c (below_end a b c (ap is_lt e) k)
at_most_by a b c Equal e h k = ap is_le (points_total.congr a b c e) ∙ k
at_most_by a b c Greater e h k = absurd (cc h)

pub at_most : (a b c : Point) → is_at_most a b ≡ true → is_at_most b c ≡ true → is_at_most a c ≡ true
at_most a b c h k = at_most_by a b c (point_cmp a b) refl h k

-- what is not at most another is behind it
turned : (x : Bool) → false ≡ not x → x ≡ true
turned true h = refl
turned false h = absurd (cc h)

pub behind_it : (a b : Point) → is_at_most a b ≡ false → is_below b a ≡ true
behind_it a b h = turned (is_below b a) (sym h ∙ flipped a b)

pub not_behind : (a b : Point) → is_below b a ≡ false → is_at_most a b ≡ true
not_behind a b h = flipped a b ∙ ap not h
