-- Points stand in another order with other numbers of modules, but those of one type in the same one. So the same
-- ranges meet.
use Rattle.std.proofs.Common.{◌≡◌, ℕ, Bool, true, false, cond, Option, Some, None, Ordering, Less, Equal, Greater, option_map, refl, sym, ap, ap₂, subst, ◌∙◌}
use Rattle.std.specs.Prelude.{◌&&◌}
use Rattle.std.specs.Option.{option_cmp}
use Rattle.std.specs.Ordering.{nat_cmp, int_cmp, ordering_then, ordering_reverse, is_le, is_eq}
use Rattle.std.specs.Cmp.{IsTotalOrder}
use Rattle.std.specs.Cmp.Lexicographic.{options_total}
use Rattle.std.proofs.lemmas.Bool.Decides.{same_from_decides}
use Rattle.std.proofs.lemmas.Cmp.{on_total, then_total, nat_cmp_total, tied_itself, ranked}
use Rattle.check_stmt_parts.specs.declared.ranges.Point.{Point}
use Rattle.check_stmt_parts.specs.Ranges.{point_cmp, Range, meets}
use Rattle.def_exchange.specs.Moved.{Exchange}
use Rattle.law_exchange_stmts.specs.MovedStatements.{moved_point}

-- the type at which a point stands
abbrev pub Seat : Type 0
Seat = Option ℕ × ℕ

abbrev pub seat : Point → Seat
seat p = (p.home, p.place)

abbrev pub moved_seat : Exchange → Seat → Seat
moved_seat z a = (option_map z.there a.0, a.1)

abbrev seat_cmp : Seat → Seat → Ordering
seat_cmp a b = ordering_then (option_cmp nat_cmp a.0 b.0) (nat_cmp a.1 b.1)

seats_total : IsTotalOrder seat_cmp
seats_total = then_total (on_total (λ (a : Seat). a.0) (options_total nat_cmp_total))
    (on_total (λ (a : Seat). a.1) nat_cmp_total)

first_two : (a b c : Ordering) → ordering_then a (ordering_then b c) ≡ ordering_then (ordering_then a b) c
first_two Less b c = refl
first_two Equal b c = refl
first_two Greater b c = refl

point_is : (p q : Point) → point_cmp p q ≡ ordering_then (seat_cmp (seat p) (seat q)) (int_cmp p.number q.number)
point_is p q = first_two (option_cmp nat_cmp p.home q.home) (nat_cmp p.place q.place) (int_cmp p.number q.number)

-- ---- which seats are one

tied_order : (o : Ordering) → is_eq o ≡ true → o ≡ Equal
tied_order Less e = absurd cc
tied_order Equal e = refl
tied_order Greater e = absurd cc

tied_numbers : (m n : ℕ) → is_eq (nat_cmp m n) ≡ true → m ≡ n
tied_numbers m n e = ranked m n Equal (sym (tied_order (nat_cmp m n) e))

numbers_tied : (m n : ℕ) → m ≡ n → is_eq (nat_cmp m n) ≡ true
numbers_tied m n e = subst (λ (k : ℕ). is_eq (nat_cmp m k) ≡ true) e (ap is_eq (tied_itself nat_cmp_total m))

number_tie : (z : Exchange) (m n : ℕ) → is_eq (nat_cmp (z.there m) (z.there n)) ≡ is_eq (nat_cmp m n)
number_tie z m n =
    same_from_decides {P = m ≡ n} (is_eq (nat_cmp (z.there m) (z.there n))) (is_eq (nat_cmp m n)) (
      (λ e. sym (z.back_there m) ∙ (ap z.back (tied_numbers (z.there m) (z.there n) e) ∙ z.back_there n)),
      (λ e. numbers_tied (z.there m) (z.there n) (ap z.there e)),
    )
    (tied_numbers m n, numbers_tied m n)

home_tie : (z : Exchange) (h k : Option ℕ)
    → is_eq (option_cmp nat_cmp (option_map z.there h) (option_map z.there k)) ≡ is_eq (option_cmp nat_cmp h k)
home_tie z None None = refl
home_tie z None (Some n) = refl
home_tie z (Some m) None = refl
home_tie z (Some m) (Some n) = number_tie z m n

both_tie : (a b c : Ordering) → is_eq a ≡ is_eq b → is_eq (ordering_then a c) ≡ is_eq (ordering_then b c)
both_tie Equal Equal c e = refl
both_tie Equal Less c e = absurd cc
both_tie Equal Greater c e = absurd cc
both_tie Less Equal c e = absurd cc
both_tie Less Less c e = refl
both_tie Less Greater c e = refl
both_tie Greater Equal c e = absurd cc
both_tie Greater Less c e = refl
both_tie Greater Greater c e = refl

seat_tie : (z : Exchange) (a b : Seat) → is_eq (seat_cmp (moved_seat z a) (moved_seat z b)) ≡ is_eq (seat_cmp a b)
seat_tie z a b =
    both_tie (option_cmp nat_cmp (option_map z.there a.0) (option_map z.there b.0)) (option_cmp nat_cmp a.0 b.0)
    (nat_cmp a.1 b.1) (home_tie z a.0 b.0)

-- ---- points of one type

same_seat : (o : Ordering) (a : Seat) → ordering_then (seat_cmp a a) o ≡ o
same_seat o a = ap (λ (e : Ordering). ordering_then e o) (tied_itself seats_total a)

pub within : (p q : Point) → seat p ≡ seat q → point_cmp p q ≡ int_cmp p.number q.number
within p q e =
    point_is p q
    ∙ (sym (ap (λ (a : Seat). ordering_then (seat_cmp (seat p) a) (int_cmp p.number q.number)) e)
    ∙ same_seat (int_cmp p.number q.number) (seat p))

pub within_moves : (z : Exchange) (p q : Point) → seat p ≡ seat q
    → point_cmp (moved_point z p) (moved_point z q) ≡ point_cmp p q
within_moves z p q e = within (moved_point z p) (moved_point z q) (ap (moved_seat z) e) ∙ sym (within p q e)

-- ---- ranges that meet

by_order : (o a b : Ordering) → (is_le (ordering_then o a) && is_le (ordering_then (ordering_reverse o) b))
    ≡ cond (is_eq o) (is_le a && is_le b) false
by_order Less a b = refl
by_order Equal a b = refl
by_order Greater a b = refl

-- a range meets another one of the same type alone
meets_by : (low high : Point) (r : Range) → seat low ≡ seat high → seat r.0 ≡ seat r.1
    → meets low high r ≡ cond (is_eq (seat_cmp (seat low) (seat r.0)))
    (is_le (int_cmp low.number r.1.number) && is_le (int_cmp r.0.number high.number)) false
meets_by low high r e f =
    let l : point_cmp low r.1 ≡ ordering_then (seat_cmp (seat low) (seat r.0)) (int_cmp low.number r.1.number) =
    point_is low r.1
    ∙ sym (ap (λ (a : Seat). ordering_then (seat_cmp (seat low) a) (int_cmp low.number r.1.number)) f) in
    let h : point_cmp r.0 high
    ≡ ordering_then (ordering_reverse (seat_cmp (seat low) (seat r.0))) (int_cmp r.0.number high.number) =
    point_is r.0 high
    ∙ (sym (ap (λ (a : Seat). ordering_then (seat_cmp (seat r.0) a) (int_cmp r.0.number high.number)) e)
    ∙ ap (λ (o : Ordering). ordering_then o (int_cmp r.0.number high.number))
    (seats_total.antisymm (seat r.0) (seat low))) in
    ap₂ (λ (a b : Ordering). is_le a && is_le b) l h
    ∙ by_order (seat_cmp (seat low) (seat r.0)) (int_cmp low.number r.1.number) (int_cmp r.0.number high.number)

abbrev pub moved_range : Exchange → Range → Range
moved_range z r = (moved_point z r.0, moved_point z r.1)

pub meets_moves : (z : Exchange) (low high : Point) (r : Range) → seat low ≡ seat high → seat r.0 ≡ seat r.1
    → meets (moved_point z low) (moved_point z high) (moved_range z r) ≡ meets low high r
meets_moves z low high r e f =
    meets_by (moved_point z low) (moved_point z high) (moved_range z r) (ap (moved_seat z) e) (ap (moved_seat z) f)
    ∙ (ap (λ (b : Bool). cond b (is_le (int_cmp low.number r.1.number) && is_le (int_cmp r.0.number high.number)) false)
    (seat_tie z (seat low) (seat r.0))
    ∙ sym (meets_by low high r e f))
