-- Which labels meet, and what is known of the ranges that are kept.
use Rattle.std.proofs.Common.{◌≡◌, ℕ, ℤ, ◌<ℤ◌, Bool, true, false, List, [], ◌∷◌, Option, Some, None, Ordering, Less, Equal, Greater, ◌⊎◌, inl, inr, refl, sym, ap, subst, ◌∙◌, arith}
use Rattle.std.specs.Prelude.{if◌then◌else◌, int_le, int_lt, ◌||◌}
use Rattle.std.specs.Option.{option_cmp}
use Rattle.std.specs.Ordering.{nat_cmp, int_cmp, ordering_then, ordering_reverse, is_lt, is_le, match_ordering, MatchOrdering}
use Rattle.std.specs.Cmp.{IsTotalOrder, int_ranks}
use Rattle.std.specs.Cmp.Lexicographic.{options_total}
use Rattle.std.proofs.lemmas.Cmp.{on_total, then_total, nat_cmp_total, tied_itself, ranked}
use Rattle.std.specs.BTreeMap.{insert_entry}
use Rattle.typed_tree.specs.declared.types.Home.{Home}
use Rattle.typed_tree.specs.declared.types.Home.TheVariants.{Predeclared, Module}
use Rattle.typed_tree.specs.declared.types.TypeNo.{TypeNo}
use Rattle.typed_tree.specs.Types.{integer, are_same, is_numeric}
use Rattle.check_stmt_parts.specs.declared.ranges.Point.{Point}
use Rattle.check_stmt_parts.specs.Ranges.{point_cmp, is_below, is_at_most, Range, meets, is_met}
use Rattle.check_stmt_parts.specs.Labels.{base_of, module_of, point_of}
use Rattle.check_stmt_parts.proofs.Points.{points_total, at_most}
use Rattle.def_typing.specs.Amounts as amounts
use Rattle.def_typing.specs.Amounts.{IsWhole, IsNumber}
use Rattle.def_typing.specs.Cases.{Number, AreOfOneBase, one_type, whole_numbers, ShareValues}
use Rattle.def_typing.specs.Parts.{Among, here, later}
use Rattle.law_typing.proofs.Combining.{Decided, holds, fails_it, decided_as}
use Rattle.law_typing.proofs.Deciding.{both_decided, decided_itself, same_decided, whole_decided}

pub either_decided : {P Q : Type 0} {b c : Bool} → Decided P b → Decided Q c → Decided (P ⊎ Q) (b || c)
either_decided (holds p) d = holds (inl p)
either_decided (fails_it n) (holds q) = holds (inr q)
either_decided (fails_it n) (fails_it m) = fails_it (λ z. elim z [ inl p ↦ n p | inr q ↦ m q ])

-- ---- the order of types, by which labels are kept

abbrev type_cmp : TypeNo → TypeNo → Ordering
type_cmp t u = ordering_then (option_cmp nat_cmp (module_of t.home) (module_of u.home)) (nat_cmp t.number u.number)

types_total : IsTotalOrder type_cmp
types_total = then_total (on_total (λ (t : TypeNo). module_of t.home) (options_total nat_cmp_total))
    (on_total (λ (t : TypeNo). t.number) nat_cmp_total)

tied_first : (a b : Ordering) → ordering_then a b ≡ Equal → a ≡ Equal
tied_first Less b e = e
tied_first Equal b e = refl
tied_first Greater b e = e

tied_second : (a b : Ordering) → ordering_then a b ≡ Equal → b ≡ Equal
tied_second Less b e = absurd cc
tied_second Equal b e = e
tied_second Greater b e = absurd cc

tied_numbers : (n m : ℕ) → nat_cmp n m ≡ Equal → n ≡ m
tied_numbers n m e = ranked n m Equal (sym e)

tied_options : (x y : Option ℕ) → option_cmp nat_cmp x y ≡ Equal → x ≡ y
tied_options None None e = refl
tied_options None (Some m) e = absurd cc
tied_options (Some n) None e = absurd cc
tied_options (Some n) (Some m) e = ap Some (tied_numbers n m e)

one_module : (h k : Home) → module_of h ≡ module_of k → h ≡ k
one_module Predeclared Predeclared e = refl
one_module Predeclared (Module m) e = absurd cc
one_module (Module n) Predeclared e = absurd cc
one_module (Module n) (Module m) e = let same : n ≡ m = cc in ap Module same

same_parts : (t : TypeNo) (h : Home) (n : ℕ) → t.home ≡ h → t.number ≡ n → t ≡ record { home = h; number = n }
same_parts t h n e f = ap (λ (x : Home). let u : TypeNo = record { home = x; number = t.number } in u) e
    ∙ ap (λ (m : ℕ). let u : TypeNo = record { home = h; number = m } in u) f

tied_types : (t u : TypeNo) → type_cmp t u ≡ Equal → t ≡ u
tied_types t u e = same_parts t u.home u.number
    (one_module t.home u.home (tied_options (module_of t.home) (module_of u.home) (tied_first _ _ e)))
    (tied_numbers t.number u.number (tied_second _ _ e))

at_most_first : (a b : Ordering) → is_le (ordering_then a b) ≡ true → is_le a ≡ true
at_most_first Less b h = refl
at_most_first Equal b h = refl
at_most_first Greater b h = h

tied_by : (o : Ordering) → is_le o ≡ true → is_le (ordering_reverse o) ≡ true → o ≡ Equal
tied_by Less h k = absurd cc
tied_by Equal h k = refl
tied_by Greater h k = absurd cc

tied : (t u : TypeNo) → is_le (type_cmp t u) ≡ true → is_le (type_cmp u t) ≡ true → t ≡ u
tied t u h k = tied_types t u (tied_by (type_cmp t u) h (sym (ap is_le (types_total.antisymm u t)) ∙ k))

-- ---- bounds of one base

data BaseIs : Option TypeNo → TypeNo → Type 0 where
  is_number : {s : Option TypeNo} → IsNumber s → BaseIs s integer
  is_other : {t : TypeNo} → (IsWhole t → ⊥) → BaseIs (Some t) t

base_by : (t : TypeNo) {b : Bool} → Decided (IsWhole t) b → BaseIs (Some t) (if b then integer else t)
base_by t (holds w) = is_number (amounts.whole w)
base_by t (fails_it n) = is_other n

base_is : (s : Option TypeNo) → BaseIs s (base_of s)
base_is None = is_number amounts.number
base_is (Some t) = base_by t (whole_decided t)

bases_joined : {s t : Option TypeNo} {b c : TypeNo} → BaseIs s b → BaseIs t c → b ≡ c → AreOfOneBase s t
bases_joined (is_number p) (is_number q) e = whole_numbers p q
bases_joined (is_number p) (is_other n) e = absurd (n (subst IsWhole e amounts.is_integer))
bases_joined (is_other n) (is_number q) e = absurd (n (subst IsWhole (sym e) amounts.is_integer))
bases_joined (is_other {t = t} n) (is_other m) e = subst (λ (u : TypeNo). AreOfOneBase (Some t) (Some u)) e one_type

number_base : {s : Option TypeNo} → IsNumber s → base_of s ≡ integer
number_base amounts.number = refl
number_base (amounts.whole amounts.is_integer) = refl
number_base (amounts.whole amounts.is_cardinal) = refl

same_base : {s t : Option TypeNo} → AreOfOneBase s t → base_of s ≡ base_of t
same_base one_type = refl
same_base (whole_numbers p q) = number_base p ∙ sym (number_base q)

one_base : (s t : Option TypeNo) → base_of s ≡ base_of t → AreOfOneBase s t
one_base s t e = bases_joined (base_is s) (base_is t) e

pub one_base_decided : (s t : Option TypeNo) → Decided (AreOfOneBase s t) (are_same (base_of s) (base_of t))
one_base_decided s t = decided_as (one_base s t) same_base (same_decided (base_of s) (base_of t))

-- ---- where bounds stand

abbrev pub place : Number → Point
place p = point_of (record { sort = p.0; number = p.1 })

abbrev pub span : Number × Number → Range
span b = (place b.0, place b.1)

le_by : (n m : ℤ) (o : Ordering) → MatchOrdering o (n <ℤ m) (n ≡ m) (m <ℤ n) → is_le o ≡ int_le n m
le_by n m Less h = grind (arith, h)
le_by n m Equal h = grind (arith, h)
le_by n m Greater h = grind (arith, h)

lt_by : (n m : ℤ) (o : Ordering) → MatchOrdering o (n <ℤ m) (n ≡ m) (m <ℤ n) → is_lt o ≡ int_lt n m
lt_by n m Less h = grind (arith, h)
lt_by n m Equal h = grind (arith, h)
lt_by n m Greater h = grind (arith, h)

abbrev compared : TypeNo → TypeNo → ℤ → ℤ → Ordering
compared t u n m = ordering_then (type_cmp t u) (int_cmp n m)

first_two : (a b c : Ordering) → ordering_then a (ordering_then b c) ≡ ordering_then (ordering_then a b) c
first_two Less b c = refl
first_two Equal b c = refl
first_two Greater b c = refl

-- Points are in the order of their types, and then of their numbers.
point_is : (a b : Number) → point_cmp (place a) (place b) ≡ compared (base_of a.0) (base_of b.0) a.1 b.1
point_is a b = first_two (option_cmp nat_cmp (place a).home (place b).home) (nat_cmp (place a).place (place b).place)
    (int_cmp a.1 b.1)

by_numbers : (t : TypeNo) (n m : ℤ) → compared t t n m ≡ int_cmp n m
by_numbers t n m = ap (λ (o : Ordering). ordering_then o (int_cmp n m)) (tied_itself types_total t)

-- Bounds of one base stand as their numbers do.
at_most_is : (a b : Number) → base_of a.0 ≡ base_of b.0 → is_at_most (place a) (place b) ≡ int_le a.1 b.1
at_most_is a b e = ap is_le (point_is a b)
    ∙ subst (λ (u : TypeNo). is_le (compared (base_of a.0) u a.1 b.1) ≡ int_le a.1 b.1) e
    (ap is_le (by_numbers (base_of a.0) a.1 b.1) ∙ le_by a.1 b.1 (int_cmp a.1 b.1) (int_ranks a.1 b.1))

pub below_is : (a b : Number) → base_of a.0 ≡ base_of b.0 → is_below (place a) (place b) ≡ int_lt a.1 b.1
below_is a b e = ap is_lt (point_is a b)
    ∙ subst (λ (u : TypeNo). is_lt (compared (base_of a.0) u a.1 b.1) ≡ int_lt a.1 b.1) e
    (ap is_lt (by_numbers (base_of a.0) a.1 b.1) ∙ lt_by a.1 b.1 (int_cmp a.1 b.1) (int_ranks a.1 b.1))

pub turned : {s t : Option TypeNo} → AreOfOneBase s t → base_of t ≡ base_of s
turned w = sym (same_base w)

-- ---- labels that meet

-- A range that is kept has a point of the label.
pub record Touches (r : Range) (b : Number × Number) : Type 0 where
  pub from_low : is_at_most (place b.0) r.1 ≡ true
  pub to_high : is_at_most r.0 (place b.1) ≡ true

pub meets_touches : {a b : Number × Number} → ShareValues a b → Touches (span a) b
meets_touches {a = a} {b = b} m =
    let one = same_base m.one_base in
    record {
      from_low = at_most_is b.0 a.1 (sym one ∙ same_base m.first_base) ∙ m.from_low;
      to_high = at_most_is a.0 b.1 (one ∙ same_base m.second_base) ∙ m.to_high;
    }

pub touches_meets : (a b : Number × Number) → AreOfOneBase a.0.0 a.1.0 → AreOfOneBase b.0.0 b.1.0
    → int_lt a.1.1 a.0.1 ≡ false → Touches (span a) b → ShareValues a b
touches_meets a b v w h t =
    let down = subst (λ (u : TypeNo). is_le (type_cmp (base_of b.0.0) u) ≡ true) (sym (same_base v))
    (at_most_first (type_cmp (base_of b.0.0) (base_of a.1.0)) (int_cmp b.0.1 a.1.1)
    (sym (ap is_le (point_is b.0 a.1)) ∙ t.from_low)) in
    let up = subst (λ (u : TypeNo). is_le (type_cmp (base_of a.0.0) u) ≡ true) (sym (same_base w))
    (at_most_first (type_cmp (base_of a.0.0) (base_of b.1.0)) (int_cmp a.0.1 b.1.1)
    (sym (ap is_le (point_is a.0 b.1)) ∙ t.to_high)) in
    let one : base_of a.0.0 ≡ base_of b.0.0 = tied (base_of a.0.0) (base_of b.0.0) up down in
    record {
      first_base = v;
      second_base = w;
      one_base = one_base a.0.0 b.0.0 one;
      has_values = h;
      from_low = sym (at_most_is b.0 a.1 (sym one ∙ same_base v)) ∙ t.from_low;
      to_high = sym (at_most_is a.0 b.1 (one ∙ same_base w)) ∙ t.to_high;
    }

-- some range of these has a point of it
abbrev pub Met : List Range → Number × Number → Type 0
Met rs b = (r : Range) × Among r rs × Touches r b

-- all of them have points
abbrev pub Filled : List Range → Type 0
Filled rs = (r : Range) → Among r rs → is_at_most r.0 r.1 ≡ true

touches_decided : (b : Number × Number) (r : Range) → Decided (Touches r b) (meets (place b.0) (place b.1) r)
touches_decided b r = decided_as (λ p. record { from_low = p.0; to_high = p.1 }) (λ t. (t.from_low, t.to_high))
    (both_decided (decided_itself (is_at_most (place b.0) r.1)) (decided_itself (is_at_most r.0 (place b.1))))

met_first : {b : Number × Number} {r : Range} {rs : List Range} → Touches r b ⊎ Met rs b → Met (r ∷ rs) b
met_first {r = r} (inl t) = (r, here, t)
met_first (inr (q, a, t)) = (q, later a, t)

met_parts : {b : Number × Number} {r : Range} {rs : List Range} → Met (r ∷ rs) b → Touches r b ⊎ Met rs b
met_parts (q, here, t) = inl t
met_parts (q, later a, t) = inr (q, a, t)

pub met_decided : (b : Number × Number) (rs : List Range) → Decided (Met rs b) (is_met (place b.0) (place b.1) rs)
met_decided b [] = fails_it (λ m. elim m.1 [ ])
met_decided b (r ∷ rs) = decided_as met_first met_parts (either_decided (touches_decided b r) (met_decided b rs))

-- ---- one more range

abbrev pub inserted : Range → List Range → List Range
inserted b rs = insert_entry point_cmp rs b.0 b.1

abbrev placed : Ordering → Range → Range → List Range → List Range
placed o b r rs = match_ordering o (b ∷ r ∷ rs) ((r.0, b.1) ∷ rs) (r ∷ inserted b rs)

-- no range begins where this one begins
abbrev NewStart : Range → List Range → Type 0
NewStart b rs = (r : Range) → Among r rs → point_cmp b.0 r.0 ≡ Equal → ⊥

abbrev Parts : Range → Range → List Range → Type 0
Parts q b rs = (q ≡ b) ⊎ Among q rs

first_part : {q b : Range} {rs : List Range} → Among q (b ∷ rs) → Parts q b rs
first_part here = inl refl
first_part (later a) = inr a

later_part : {q b r : Range} {rs : List Range} → Parts q b rs → Parts q b (r ∷ rs)
later_part (inl e) = inl e
later_part (inr a) = inr (later a)

placed_parts : (o : Ordering) (q b r : Range) (rs : List Range) → point_cmp b.0 r.0 ≡ o → NewStart b (r ∷ rs)
    → (Among q (inserted b rs) → Parts q b rs) → Among q (placed o b r rs) → Parts q b (r ∷ rs)
placed_parts Less q b r rs k n h a = first_part a
placed_parts Equal q b r rs k n h a = absurd (n r here k)
placed_parts Greater q b r rs k n h here = inr here
placed_parts Greater q b r rs k n h (later a) = later_part (h a)

pub insert_parts : (q b : Range) (rs : List Range) → NewStart b rs → Among q (inserted b rs) → Parts q b rs
insert_parts q b [] n a = first_part a
insert_parts q b (r ∷ rs) n a = placed_parts (point_cmp b.0 r.0) q b r rs refl n
    (insert_parts q b rs (λ x m. n x (later m))) a

part_first : {q b : Range} {rs : List Range} → Parts q b rs → Among q (b ∷ rs)
part_first {q = q} {rs = rs} (inl e) = subst (λ (x : Range). Among q (x ∷ rs)) e here
part_first (inr a) = later a

part_behind : {q b r : Range} {rs all : List Range} → (Parts q b rs → Among q all) → Parts q b (r ∷ rs)
    → Among q (r ∷ all)
part_behind h (inl e) = later (h (inl e))
part_behind h (inr here) = here
part_behind h (inr (later a)) = later (h (inr a))

parts_placed : (o : Ordering) (q b r : Range) (rs : List Range) → point_cmp b.0 r.0 ≡ o → NewStart b (r ∷ rs)
    → (Parts q b rs → Among q (inserted b rs)) → Parts q b (r ∷ rs) → Among q (placed o b r rs)
parts_placed Less q b r rs k n h p = part_first p
parts_placed Equal q b r rs k n h p = absurd (n r here k)
parts_placed Greater q b r rs k n h p = part_behind h p

pub parts_insert : (q b : Range) (rs : List Range) → NewStart b rs → Parts q b rs → Among q (inserted b rs)
parts_insert q b [] n p = part_first p
parts_insert q b (r ∷ rs) n p = parts_placed (point_cmp b.0 r.0) q b r rs refl n
    (parts_insert q b rs (λ x m. n x (later m))) p

-- A label that is not met begins where no range begins.
pub new_start : (b : Number × Number) (rs : List Range) → is_at_most (place b.0) (place b.1) ≡ true → Filled rs
    → (Met rs b → ⊥) → NewStart (span b) rs
new_start b rs h f n r a e =
    let back : point_cmp r.0 (place b.0) ≡ Equal = points_total.antisymm r.0 (place b.0) ∙ ap ordering_reverse e in
    n (
      r,
      a,
      record {
        from_low = at_most (place b.0) r.0 r.1 (ap is_le e) (f r a);
        to_high =
            at_most r.0 (place b.0) (place b.1) (ap is_le back) h;
      },
    )
