-- The values of labels so far, with other numbers of modules: which others they meet is the same.
use Rattle.std.proofs.Common.{◌≡◌, Bool, true, false, cond, List, [], ◌∷◌, Ordering, Less, Equal, Greater, refl, sym, ap, ap₂, subst, ◌∙◌}
use Rattle.std.specs.Prelude.{◌&&◌, ◌||◌}
use Rattle.std.specs.List.{list_all}
use Rattle.std.specs.Ordering.{is_lt, is_le, match_ordering, ordering_reverse}
use Rattle.std.specs.BTreeMap.{insert_entry}
use Rattle.check_stmt_parts.specs.declared.ranges.Point.{Point}
use Rattle.check_stmt_parts.specs.Ranges.{point_cmp, is_below, is_at_most, Range, meets, is_met, with_range, enter_range, are_apart}
use Rattle.check_stmt_parts.proofs.Points.{points_total, at_most, not_behind}
use Rattle.check_stmt_parts.proofs.Apart.{placed}
use Rattle.def_exchange.specs.Moved.{Exchange}
use Rattle.law_exchange_stmts.specs.MovedStatements.{moved_point}
use Rattle.law_exchange_stmts.proofs.Points.{seat, within_moves, moved_range, meets_moves}

left_true : (a b : Bool) → (a && b) ≡ true → a ≡ true
left_true true b e = refl
left_true false b e = e

right_true : (a b : Bool) → (a && b) ≡ true → b ≡ true
right_true true b e = e
right_true false b e = absurd cc

left_false : (a b : Bool) → (a || b) ≡ false → a ≡ false
left_false true b e = absurd cc
left_false false b e = refl

right_false : (a b : Bool) → (a || b) ≡ false → b ≡ false
right_false true b e = absurd cc
right_false false b e = e

is_filled : (r : Range) (rs : List Range) → are_apart (r ∷ rs) ≡ true → is_at_most r.0 r.1 ≡ true
is_filled r rs a =
    left_true (is_at_most r.0 r.1) (list_all (λ (s : Range). is_below r.1 s.0) rs)
    (left_true (is_at_most r.0 r.1 && list_all (λ (s : Range). is_below r.1 s.0) rs) (are_apart rs) a)

are_rest : (r : Range) (rs : List Range) → are_apart (r ∷ rs) ≡ true → are_apart rs ≡ true
are_rest r rs a =
    right_true (is_at_most r.0 r.1 && list_all (λ (s : Range). is_below r.1 s.0) rs) (are_apart rs) a

-- a range that begins where this one begins is met
met_there : (low high : Point) (r : Range) → point_cmp low r.0 ≡ Equal → is_at_most low high ≡ true
    → is_at_most r.0 r.1 ≡ true → meets low high r ≡ true
met_there low high r e h f =
    let back : point_cmp r.0 low ≡ Equal = points_total.antisymm r.0 low ∙ ap ordering_reverse e in
    ap₂ (λ (a b : Bool). a && b) (at_most low r.0 r.1 (ap is_le e) f) (at_most r.0 low high (ap is_le back) h)

swapped : (a b c : Bool) → (a || (b || c)) ≡ (b || (a || c))
swapped true true c = refl
swapped true false c = refl
swapped false true c = refl
swapped false false c = refl

placed_met : (low high l h : Point) (r : Range) (rs : List Range) (o : Ordering) → point_cmp l r.0 ≡ o
    → is_at_most l h ≡ true → is_at_most r.0 r.1 ≡ true → meets l h r ≡ false
    → is_met low high (insert_entry point_cmp rs l h) ≡ (meets low high (l, h) || is_met low high rs)
    → is_met low high (match_ordering o ((l, h) ∷ r ∷ rs) ((r.0, h) ∷ rs) (r ∷ insert_entry point_cmp rs l h))
    ≡ (meets low high (l, h) || is_met low high (r ∷ rs))
placed_met low high l h r rs Less k e f m i = refl
placed_met low high l h r rs Equal k e f m i = absurd (let b : false ≡ true = sym m ∙ met_there l h r k e f in cc b)
placed_met low high l h r rs Greater k e f m i =
    ap (λ (b : Bool). meets low high r || b) i
    ∙ swapped (meets low high r) (meets low high (l, h)) (is_met low high rs)

-- one more range is met, or one of the others
inserted_met : (low high l h : Point) (rs : List Range) → is_at_most l h ≡ true → are_apart rs ≡ true
    → is_met l h rs ≡ false
    → is_met low high (insert_entry point_cmp rs l h) ≡ (meets low high (l, h) || is_met low high rs)
inserted_met low high l h [] e a m = refl
inserted_met low high l h (r ∷ rs) e a m =
    placed_met low high l h r rs (point_cmp l r.0) refl e (is_filled r rs a)
    (left_false (meets l h r) (is_met l h rs) m)
    (inserted_met low high l h rs e (are_rest r rs a) (right_false (meets l h r) (is_met l h rs) m))

abbrev more_met : Bool → Bool → Bool → Bool
more_met b one others = cond b others (one || others)

with_range_met : (low high l h : Point) (rs : List Range) (b : Bool) → is_below h l ≡ b → are_apart rs ≡ true
    → is_met l h rs ≡ false
    → is_met low high (cond b rs (insert_entry point_cmp rs l h))
    ≡ more_met b (meets low high (l, h)) (is_met low high rs)
with_range_met low high l h rs true e a m = refl
with_range_met low high l h rs false e a m = inserted_met low high l h rs (not_behind l h e) a m

with_range_apart : (l h : Point) (rs : List Range) (b : Bool) → is_below h l ≡ b → are_apart rs ≡ true
    → is_met l h rs ≡ false → are_apart (cond b rs (insert_entry point_cmp rs l h)) ≡ true
with_range_apart l h rs true e a m = a
with_range_apart l h rs false e a m = placed l h rs (not_behind l h e) a (sym m)

-- ---- both at once

module _ (z : Exchange) where
  -- the same ranges meet these and those
  pub record Alike (rs us : List Range) : Type 0 where
    pub apart : are_apart rs ≡ true
    pub apart_there : are_apart us ≡ true
    pub met : (low high : Point) → seat low ≡ seat high
        → is_met (moved_point z low) (moved_point z high) us ≡ is_met low high rs

  pub none_alike : Alike [] []
  none_alike = record { apart = refl; apart_there = refl; met = λ low high e. refl }

  abbrev pub EnteredAlike : List Range × Bool → List Range × Bool → Type 0
  EnteredAlike t u = Alike t.0 u.0 × (u.1 ≡ t.1)

  below_moves : (l h : Point) → seat l ≡ seat h → is_below (moved_point z h) (moved_point z l) ≡ is_below h l
  below_moves l h e = ap is_lt (within_moves z h l (sym e))

  with_range_alike : (l h : Point) (rs us : List Range) → seat l ≡ seat h → Alike rs us → is_met l h rs ≡ false
      → Alike (with_range l h rs) (with_range (moved_point z l) (moved_point z h) us)
  with_range_alike l h rs us e a m =
      let there : is_met (moved_point z l) (moved_point z h) us ≡ false = a.met l h e ∙ m in
      record {
        apart = with_range_apart l h rs (is_below h l) refl a.apart m;
        apart_there =
            with_range_apart (moved_point z l) (moved_point z h) us (is_below (moved_point z h) (moved_point z l)) refl
            a.apart_there there;
        met = λ low high k.
            with_range_met (moved_point z low) (moved_point z high) (moved_point z l) (moved_point z h) us
            (is_below (moved_point z h) (moved_point z l)) refl a.apart_there there
            ∙ (ap (λ (b : Bool). more_met b (meets (moved_point z low) (moved_point z high) (moved_range z (l, h)))
            (is_met (moved_point z low) (moved_point z high) us)) (below_moves l h e)
            ∙ (ap₂ (more_met (is_below h l)) (meets_moves z low high (l, h) k e) (a.met low high k)
            ∙ sym (with_range_met low high l h rs (is_below h l) refl a.apart m)));
      }

  entered : (l h : Point) (rs us : List Range) (b : Bool) → is_met l h rs ≡ b → seat l ≡ seat h → Alike rs us
      → EnteredAlike (cond b (rs, false) (with_range l h rs, true))
      (cond b (us, false) (with_range (moved_point z l) (moved_point z h) us, true))
  entered l h rs us true m e a = (a, refl)
  entered l h rs us false m e a = (with_range_alike l h rs us e a m, refl)

  pub enter_range_alike : (l h : Point) (rs us : List Range) → seat l ≡ seat h → Alike rs us
      → EnteredAlike (enter_range l h rs) (enter_range (moved_point z l) (moved_point z h) us)
  enter_range_alike l h rs us e a =
      subst (λ (b : Bool). EnteredAlike (enter_range l h rs)
      (cond b (us, false) (with_range (moved_point z l) (moved_point z h) us, true)))
      (sym (a.met l h e)) (entered l h rs us (is_met l h rs) refl e a)
