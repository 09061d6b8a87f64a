-- Ranges in order: the last of those that begin at or in front of a point is the only one that can meet what ends
-- there.
use Rattle.std.proofs.Common.{◌≡◌, List, [], ◌∷◌, ◌++◌, Bool, true, false, cond, Ordering, Less, Equal, Greater, refl, sym, ap, subst, ◌∙◌}
use Rattle.std.specs.Prelude.{Result, Ok, Err, OnOk, ◌&&◌, ◌||◌}
use Rattle.std.specs.Result.{OnErr}
use Rattle.std.specs.List.{list_any, list_all, filter}
use Rattle.std.specs.Cmp.Derive.{both_true}
use Rattle.std.specs.Ordering.{ordering_reverse, is_le, match_ordering}
use Rattle.std.specs.BTreeMap.Range.{range_contains}
use Rattle.std.specs.declared.ops.Bound.TheVariants.{Included, Unbounded}
use Rattle.std.specs.BTreeMap.{insert_entry}
use Rattle.check_stmt_parts.specs.declared.ranges.Point.{Point}
use Rattle.check_stmt_parts.specs.Ranges.{point_cmp, is_below, is_at_most, Range, meets, are_apart}
use Rattle.check_stmt_parts.proofs.Points.{points_total, weaker, flipped, chain, below_end, at_most, behind_it}

both_true_fst : (x y : Bool) → (x && y) ≡ true → x ≡ true
both_true_fst true y h = refl
both_true_fst false y h = h

both_true_snd : (x y : Bool) → (x && y) ≡ true → y ≡ true
both_true_snd true y h = h
both_true_snd false y h = absurd (cc h)

-- ---- none begins at or in front

missed : (a b c : Bool) → false ≡ b → c ≡ false → (a && b || c) ≡ false
missed true true c h k = absurd (cc h)
missed true false c h k = k
missed false b c h k = k

none_one : (low high : Point) (r : Range) (rs fs : List Range) (b : Bool) → b ≡ is_at_most r.0 high
    → cond b (r ∷ fs) fs ≡ [] → (fs ≡ [] → list_any (meets low high) rs ≡ false)
    → list_any (meets low high) (r ∷ rs) ≡ false
none_one low high r rs fs true is e f = absurd (cc e)
none_one low high r rs fs false is e f =
    missed (is_at_most low r.1) (is_at_most r.0 high) (list_any (meets low high) rs) is (f e)

pub none : (low high : Point) (p : Range → Bool) → ((e : Range) → p e ≡ is_at_most e.0 high) → (es : List Range)
    → filter p es ≡ [] → list_any (meets low high) es ≡ false
none low high p h [] e = refl
none low high p h (r ∷ rs) e = none_one low high r rs (filter p rs) (p r) (h r) e (none low high p h rs)

-- ---- what holds of all holds of the last of some

kept_one : (q : Range → Bool) (r : Range) (rs fs : List Range) (b : Bool) → list_all q (r ∷ rs) ≡ true
    → (list_all q rs ≡ true → list_all q fs ≡ true) → list_all q (cond b (r ∷ fs) fs) ≡ true
kept_one q r rs fs true a h = both_true (both_true_fst (q r) (list_all q rs) a)
    (h (both_true_snd (q r) (list_all q rs) a))
kept_one q r rs fs false a h = h (both_true_snd (q r) (list_all q rs) a)

kept : (q p : Range → Bool) (es : List Range) → list_all q es ≡ true → list_all q (filter p es) ≡ true
kept q p [] a = refl
kept q p (r ∷ rs) a = kept_one q r rs (filter p rs) (p r) a (kept q p rs)

last_of : (q : Range → Bool) (t : List Range) (e : Range) → list_all q (t ++ e ∷ []) ≡ true → q e ≡ true
last_of q [] e a = both_true_fst (q e) true a
last_of q (x ∷ t) e a = last_of q t e (both_true_snd (q x) (list_all q (t ++ e ∷ [])) a)

all_last : (q p : Range → Bool) (es t : List Range) (e : Range) → list_all q es ≡ true → filter p es ≡ t ++ e ∷ []
    → q e ≡ true
all_last q p es t e a f = last_of q t e (subst (λ (xs : List Range). list_all q xs ≡ true) f (kept q p es a))

-- ---- ranges that are apart

-- the parts of what `are_apart` says of a range and those behind it
is_ordered : (r : Range) (rs : List Range) → are_apart (r ∷ rs) ≡ true → is_at_most r.0 r.1 ≡ true
is_ordered r rs a = both_true_fst (is_at_most r.0 r.1) (list_all (λ (s : Range). is_below r.1 s.0) rs)
    (both_true_fst (is_at_most r.0 r.1 && list_all (λ (s : Range). is_below r.1 s.0) rs) (are_apart rs) a)

are_behind : (r : Range) (rs : List Range) → are_apart (r ∷ rs) ≡ true
    → list_all (λ (s : Range). is_below r.1 s.0) rs ≡ true
are_behind r rs a = both_true_snd (is_at_most r.0 r.1) (list_all (λ (s : Range). is_below r.1 s.0) rs)
    (both_true_fst (is_at_most r.0 r.1 && list_all (λ (s : Range). is_below r.1 s.0) rs) (are_apart rs) a)

are_rest : (r : Range) (rs : List Range) → are_apart (r ∷ rs) ≡ true → are_apart rs ≡ true
are_rest r rs a = both_true_snd (is_at_most r.0 r.1 && list_all (λ (s : Range). is_below r.1 s.0) rs) (are_apart rs) a

ordered : (es : List Range) → are_apart es ≡ true → list_all (λ (s : Range). is_at_most s.0 s.1) es ≡ true
ordered [] a = refl
ordered (r ∷ rs) a = both_true (is_ordered r rs a) (ordered rs (are_rest r rs a))

met_first : (a b c : Bool) → true ≡ b → c ≡ false → (a && b || c) ≡ a
met_first true true c h k = refl
met_first true false c h k = absurd (cc h)
met_first false b c h k = k

met_rest : (a b c d : Bool) → c ≡ d → (a ≡ true → d ≡ true) → true ≡ b → (a && b || c) ≡ d
met_rest true true c d h k e = sym (k refl)
met_rest true false c d h k e = absurd (cc e)
met_rest false b c d h k e = h

met_later : (a b c d : Bool) → false ≡ b → c ≡ d → (a && b || c) ≡ d
met_later true true c d h k = absurd (cc h)
met_later true false c d h k = k
met_later false b c d h k = k

no_last : (t : List Range) (e : Range) → [] ≡ t ++ e ∷ [] → ⊥
no_last [] e f = cc f
no_last (x ∷ t) e f = cc f

through : (low a b c : Point) → is_below a b ≡ true → is_at_most b c ≡ true → is_at_most low a ≡ true
    → is_at_most low c ≡ true
through low a b c h k l = at_most low a c l (weaker a c (below_end a b c h k))

-- the last range that begins at or in front of `high` decides
some_one : (low high : Point) (r e : Range) (rs fs t : List Range) (b : Bool) → b ≡ is_at_most r.0 high
    → (fs ≡ [] → list_any (meets low high) rs ≡ false)
    → ((ts : List Range) → fs ≡ ts ++ e ∷ [] → list_any (meets low high) rs ≡ is_at_most low e.1)
    → ((ts : List Range) → fs ≡ ts ++ e ∷ [] → is_at_most low r.1 ≡ true → is_at_most low e.1 ≡ true)
    → cond b (r ∷ fs) fs ≡ t ++ e ∷ [] → list_any (meets low high) (r ∷ rs) ≡ is_at_most low e.1
some_one low high r e rs fs t false is none some less f =
    met_later (is_at_most low r.1) (is_at_most r.0 high) (list_any (meets low high) rs) (is_at_most low e.1) is
    (some t f)
some_one low high r e rs fs [] true is none some less f =
    let head : r ≡ e = cc f in
    let tail : fs ≡ [] = cc f in
    met_first (is_at_most low r.1) (is_at_most r.0 high) (list_any (meets low high) rs) is (none tail)
    ∙ ap (λ (x : Range). is_at_most low x.1) head
some_one low high r e rs fs (x ∷ ts) true is none some less f =
    let tail : fs ≡ ts ++ e ∷ [] = cc f in
    met_rest (is_at_most low r.1) (is_at_most r.0 high) (list_any (meets low high) rs) (is_at_most low e.1)
    (some ts tail) (less ts tail) is

pub some : (low high : Point) (p : Range → Bool) → ((e : Range) → p e ≡ is_at_most e.0 high) → (es : List Range)
    → are_apart es ≡ true → (t : List Range) (e : Range) → filter p es ≡ t ++ e ∷ []
    → list_any (meets low high) es ≡ is_at_most low e.1
some low high p h [] a t e f = absurd (no_last t e f)
some low high p h (r ∷ rs) a t e f =
    let rest = are_rest r rs a in
    some_one low high r e rs (filter p rs) t (p r) (h r) (none low high p h rs) (λ ts. some low high p h rs rest ts e)
    (λ ts g. through low r.1 e.0 e.1 (all_last (λ (s : Range). is_below r.1 s.0) p rs ts e (are_behind r rs a) g)
    (all_last (λ (s : Range). is_at_most s.0 s.1) p rs ts e (ordered rs rest) g)) f

-- ---- one more range

above : (a b : Point) (es : List Range) → is_below a b ≡ true → list_all (λ (s : Range). is_below b s.0) es ≡ true
    → list_all (λ (s : Range). is_below a s.0) es ≡ true
above a b [] h k = refl
above a b (e ∷ es) h k = both_true (chain a b e.0 h
    (both_true_fst (is_below b e.0) (list_all (λ (s : Range). is_below b s.0) es) k))
    (above a b es h (both_true_snd (is_below b e.0) (list_all (λ (s : Range). is_below b s.0) es) k))

all_above_one : (low high b : Point) (e : Range) (es : List Range) (o : Ordering) → is_below b low ≡ true
    → is_below b e.0 ≡ true → list_all (λ (s : Range). is_below b s.0) es ≡ true
    → (list_all (λ (s : Range). is_below b s.0) es ≡ true
    → list_all (λ (s : Range). is_below b s.0) (insert_entry point_cmp es low high) ≡ true)
    → list_all (λ (s : Range). is_below b s.0)
    (match_ordering o ((low, high) ∷ e ∷ es) ((e.0, high) ∷ es) (e ∷ insert_entry point_cmp es low high)) ≡ true
all_above_one low high b e es Less h k l f = both_true h (both_true k l)
all_above_one low high b e es Equal h k l f = both_true k l
all_above_one low high b e es Greater h k l f = both_true k (f l)

all_above : (low high b : Point) (es : List Range) → is_below b low ≡ true
    → list_all (λ (s : Range). is_below b s.0) es ≡ true
    → list_all (λ (s : Range). is_below b s.0) (insert_entry point_cmp es low high) ≡ true
all_above low high b [] h k = both_true h refl
all_above low high b (e ∷ es) h k = all_above_one low high b e es (point_cmp low e.0) h
    (both_true_fst (is_below b e.0) (list_all (λ (s : Range). is_below b s.0) es) k)
    (both_true_snd (is_below b e.0) (list_all (λ (s : Range). is_below b s.0) es) k)
    (all_above low high b es h)

-- what a range that is not met says of where it stands

first_missed : (a b : Bool) → (a && b) ≡ false → a ≡ true → b ≡ false
first_missed true b h k = h
first_missed false b h k = absurd (cc k)

second_missed : (a b : Bool) → (a && b) ≡ false → b ≡ true → a ≡ false
second_missed true b h k = absurd (cc (sym h ∙ k))
second_missed false b h k = refl

before : (low high : Point) (r : Range) → point_cmp low r.0 ≡ Less → is_at_most r.0 r.1 ≡ true
    → meets low high r ≡ false → is_below high r.0 ≡ true
before low high r h k m = behind_it r.0 high
    (first_missed (is_at_most low r.1) (is_at_most r.0 high) m (at_most low r.0 r.1 (ap is_le h) k))

reversed : (low high : Point) (o : Ordering) → point_cmp low high ≡ o → point_cmp high low ≡ ordering_reverse o
reversed low high o e = points_total.antisymm high low ∙ ap ordering_reverse e

behind : (low high : Point) (r : Range) → point_cmp low r.0 ≡ Greater → is_at_most low high ≡ true
    → meets low high r ≡ false → is_below r.1 low ≡ true
behind low high r h k m = behind_it low r.1
    (second_missed (is_at_most low r.1) (is_at_most r.0 high) m
    (at_most r.0 low high (ap is_le (reversed low r.0 Greater h)) k))

same : (low high : Point) (r : Range) → point_cmp low r.0 ≡ Equal → is_at_most low high ≡ true
    → is_at_most r.0 r.1 ≡ true → meets low high r ≡ false → ⊥
same low high r h k o m =
    let miss : is_at_most r.0 high ≡ false =
    first_missed (is_at_most low r.1) (is_at_most r.0 high) m (at_most low r.0 r.1 (ap is_le h) o) in
    let met : is_at_most r.0 high ≡ true = at_most r.0 low high (ap is_le (reversed low r.0 Equal h)) k in
    let clash : false ≡ true = sym miss ∙ met in
    cc clash

pub upto : (x high : Point) → range_contains point_cmp Unbounded (Included high) x ≡ is_at_most x high
upto x high = sym (flipped x high)

below_high : (high : Point) (r : Range) → is_below high r.0 ≡ true → is_at_most r.0 r.1 ≡ true
    → is_below high r.1 ≡ true
below_high high r h k = below_end high r.0 r.1 h k

neither : (x y : Bool) → false ≡ (x || y) → (x ≡ false) × (y ≡ false)
neither false y h = (refl, sym h)
neither true y h = absurd (cc h)

placed_one : (low high : Point) (r : Range) (rs : List Range) (o : Ordering) → point_cmp low r.0 ≡ o
    → is_at_most low high ≡ true → are_apart (r ∷ rs) ≡ true → meets low high r ≡ false
    → are_apart (insert_entry point_cmp rs low high) ≡ true
    → are_apart (match_ordering o ((low, high) ∷ r ∷ rs) ((r.0, high) ∷ rs)
    (r ∷ insert_entry point_cmp rs low high)) ≡ true
placed_one low high r rs Less k h a m f =
    let at = before low high r k (is_ordered r rs a) m in
    both_true (both_true h (both_true at (above high r.1 rs (below_high high r at (is_ordered r rs a))
    (are_behind r rs a)))) a
placed_one low high r rs Equal k h a m f = absurd (same low high r k h (is_ordered r rs a) m)
placed_one low high r rs Greater k h a m f =
    both_true (both_true (is_ordered r rs a) (all_above low high r.1 rs (behind low high r k h m) (are_behind r rs a)))
    f

-- a range that is not met is placed among those that are apart
pub placed : (low high : Point) (es : List Range) → is_at_most low high ≡ true → are_apart es ≡ true
    → false ≡ list_any (meets low high) es → are_apart (insert_entry point_cmp es low high) ≡ true
placed low high [] h a m = both_true (both_true h refl) refl
placed low high (r ∷ rs) h a m =
    placed_one low high r rs (point_cmp low r.0) refl h a
    (neither (meets low high r) (list_any (meets low high) rs) m).0
    (placed low high rs h (are_rest r rs a) (sym (neither (meets low high r) (list_any (meets low high) rs) m).1))

-- also where it could not be placed for want of memory
pub stays_apart : {A E : Type 0} (r : Result A E) (low high : Point) (old new : List Range)
    → OnOk r (new ≡ insert_entry point_cmp old low high) → OnErr r (new ≡ old) → is_at_most low high ≡ true
    → are_apart old ≡ true → false ≡ list_any (meets low high) old → are_apart new ≡ true
stays_apart (Ok x) low high old new is keeps h a m = ap are_apart is ∙ placed low high old h a m
stays_apart (Err e) low high old new is keeps h a m = ap are_apart keeps ∙ a
