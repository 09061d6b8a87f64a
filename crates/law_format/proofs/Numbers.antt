-- Where readings of numbers stop: at the first byte behind which no number of the range can come.
use Rattle.std.proofs.Common.{◌≡◌, ℕ, zero, suc, ◌+◌, ◌-◌, ◌*◌, ◌/◌, ◌%◌, ◌^◌, ◌<◌, ◌≤◌, max, Bool, true, cond, leb, ltb, ◌&&◌, List, [], ◌∷◌, Ok, Err, refl, sym, ap, ◌∙◌, append-nil, arith, inl, inr}
use Rattle.std.proofs.lemmas.Bool.{cases_lt, cases_Bool, lt-ltb, le-ltb, ltb-true, le-leb, lt-leb, leb-true, and_parts, and_from}
use Rattle.wasm_tree.specs.declared.fault.WFault.{WFault}
use Rattle.wasm_tree.specs.declared.fault.WFault.TheVariants.{Malformed}
use Rattle.wasm_tree.specs.Format.{Format, Reading, ◌>>=◌}
use Rattle.wasm_code.specs.Number.{groups, join_groups, groups_at}
use Rattle.wasm_code.proofs.Laws.{IsBytes, IsBytes-tail}
use Rattle.law_format.specs.Places.{OtherByte, Cell, others}
use Rattle.law_format.proofs.Stops.{Stop, into}
use Rattle.law_format.proofs.Combined.{err_is, bind_err}

-- ---- numbers of a range

abbrev pub in_range : (least end n : ℕ) → Bool
in_range least end n = leb least n && ltb n end

abbrev pub ranged : (least end : ℕ) → Reading ℕ → Reading ℕ
ranged least end read = read >>= λ n. cond (in_range least end n.0) (Ok n) (Err Malformed)

-- of at most so many groups
abbrev pub numbers : (k most least end : ℕ) → Format ℕ
numbers k most least end = record {
  encoding = groups k;
  reading = λ bytes. ranged least end (groups_at most bytes);
  fits = in_range least end;
}

abbrev pub cells : ℕ → ℕ → List Cell
cells k n = others (groups k n)

range_from : (least end n : ℕ) → least ≤ n → n < end → in_range least end n ≡ true
range_from least end n le lt = and_from _ _ (le-leb least n le) (lt-ltb n end lt)

abbrev malformed : Reading ℕ
malformed = Err Malformed

in_bounds : (least end n : ℕ) → in_range least end n ≡ true → (least ≤ n) × (n < end)
in_bounds least end n e =
    let f = and_parts (leb least n) (ltb n end) e in
    (leb-true least n f.0, ltb-true n end f.1)

-- how many numbers stand for the groups above the lowest
abbrev above : (end low : ℕ) → ℕ
above end low = (end - low + 127) / 128

-- the least of them
abbrev from : (least low : ℕ) → ℕ
from least low = max 1 ((least - low + 127) / 128)

abbrev put_low : ℕ → Reading ℕ → Reading ℕ
put_low low read = read >>= λ h. Ok (low + 128 * h.0, h.1)

below_range : (least end n : ℕ) (bs : List ℕ) → n < least → ranged least end (Ok (n, bs)) ≡ malformed
below_range least end n bs lt = rw (lt-leb least n lt) refl

past_range : (least end n : ℕ) (bs : List ℕ) → end ≤ n → ranged least end (Ok (n, bs)) ≡ malformed
past_range least end n bs le = elim (cases_lt n least) [
  | inl lt ↦ below_range least end n bs lt
  | inr ge ↦ rw (le-leb least n ge, le-ltb n end le) refl
]

inside_range : (least end n : ℕ) (bs : List ℕ) → least ≤ n → n < end → ranged least end (Ok (n, bs)) ≡ Ok (n, bs)
inside_range least end n bs le lt = rw (le-leb least n le, lt-ltb n end lt) refl

joined_at : (least end low h : ℕ) (bs : List ℕ) → end ≤ 2 ^ 32
    → ranged least end (join_groups low h bs) ≡ put_low low (ranged (from least low) (above end low) (Ok (h, bs)))
joined_at least end low zero bs room = sym
    (ap (put_low low) (below_range (from least low) (above end low) 0 bs (omega arith)))
joined_at least end low (suc h) bs room =
    let n : ℕ = low + 128 * suc h in
    elim (cases_lt (low + 128 * suc h) (2 ^ 32)) [
      | inr large ↦
          rw (le-ltb (low + 128 * suc h) (2 ^ 32) large)
          (sym (ap (put_low low) (past_range (from least low) (above end low) (suc h) bs (omega arith))))
      | inl fits ↦
          rw (lt-ltb (low + 128 * suc h) (2 ^ 32) fits) (elim (cases_lt (low + 128 * suc h) end) [
            | inr ge ↦ past_range least end n bs ge
                ∙ sym (ap (put_low low) (past_range (from least low) (above end low) (suc h) bs (omega arith)))
            | inl lt ↦
                elim (cases_lt (low + 128 * suc h) least) [
                  | inl less ↦ below_range least end n bs less
                      ∙ sym (ap (put_low low) (below_range (from least low) (above end low) (suc h) bs (omega arith)))
                  | inr more ↦ inside_range least end n bs more lt
                      ∙ sym (ap (put_low low) (inside_range (from least low) (above end low) (suc h) bs (omega arith)
                      (omega arith)))
                ]
          ])
    ]

joined_of : (least end low : ℕ) → end ≤ 2 ^ 32 → (r : Reading ℕ)
    → ranged least end (r >>= λ high. join_groups low high.0 high.1)
    ≡ put_low low (ranged (from least low) (above end low) r)
joined_of least end low room (Ok x) = joined_at least end low x.0 x.1 room
joined_of least end low room (Err f) = refl

more_groups : (most least end b : ℕ) (bs : List ℕ) → end ≤ 2 ^ 32 → 128 ≤ b
    → ranged least end (groups_at (suc most) (b ∷ bs))
    ≡ put_low (b - 128) (ranged (from least (b - 128)) (above end (b - 128)) (groups_at most bs))
unfolding groups_at
more_groups most least end b bs room large =
    rw (le-ltb b 128 large) (joined_of least end (b - 128) room (groups_at most bs))

one_group : (most least end b : ℕ) (bs : List ℕ) → b < 128
    → ranged least end (groups_at (suc most) (b ∷ bs)) ≡ ranged least end (Ok (b, bs))
unfolding groups_at
one_group most least end b bs lt = rw (lt-ltb b 128 lt) refl

absent : (x : ℕ × List ℕ) (f : WFault) → ◌≡◌ {A = Reading ℕ} (Ok x) (Err f) → ⊥
absent x f e = cc

-- every fault of a number is 80
join_malformed : (low h : ℕ) (bs : List ℕ) (f : WFault) → join_groups low h bs ≡ Err f → f ≡ Malformed
join_malformed low zero bs f e = sym (err_is Malformed f e)
join_malformed low (suc h) bs f e = elim (cases_Bool (ltb (low + 128 * suc h) (2 ^ 32))) [
  | inl yes' ↦ absurd (absent (low + 128 * suc h, bs) f (rw yes' at e))
  | inr no' ↦ sym (err_is Malformed f (rw no' at e))
]

joined_malformed : (low : ℕ) (r : Reading ℕ) (f : WFault) → ((g : WFault) → r ≡ Err g → g ≡ Malformed)
    → (r >>= λ high. join_groups low high.0 high.1) ≡ Err f → f ≡ Malformed
joined_malformed low (Ok x) f h e = join_malformed low x.0 x.1 f e
joined_malformed low (Err g) f h e = sym (err_is g f e) ∙ h g refl

groups_malformed : (most : ℕ) (bytes : List ℕ) (f : WFault) → groups_at most bytes ≡ Err f → f ≡ Malformed
unfolding groups_at
groups_malformed zero bytes f e = sym (err_is Malformed f e)
groups_malformed (suc most) [] f e = sym (err_is Malformed f e)
groups_malformed (suc most) (b ∷ bytes) f e = elim (cases_lt b 128) [
  | inl lt ↦ absurd (absent (b, bytes) f (rw (lt-ltb b 128 lt) at e))
  | inr large ↦ joined_malformed (b - 128) (groups_at most bytes) f (groups_malformed most bytes)
      (rw (le-ltb b 128 large) at e)
]

pub ranged_malformed : (least end : ℕ) (r : Reading ℕ) (f : WFault) → ((g : WFault) → r ≡ Err g → g ≡ Malformed)
    → ranged least end r ≡ Err f → f ≡ Malformed
ranged_malformed least end (Ok x) f h e = elim (cases_Bool (in_range least end x.0)) [
  | inl yes' ↦ absurd (absent x f (rw yes' at e))
  | inr no' ↦ sym (err_is Malformed f (rw no' at e))
]
ranged_malformed least end (Err g) f h e = sym (err_is g f e) ∙ h g refl

abbrev failing : WFault → Reading ℕ
failing f = Err f

-- nothing is in an empty range
ranged_none : (least end : ℕ) (r : Reading ℕ) → end ≤ least → ((g : WFault) → r ≡ Err g → g ≡ Malformed)
    → ranged least end r ≡ malformed
ranged_none least end (Ok x) le h = elim (cases_lt x.0 least) [
  | inl lt ↦ below_range least end x.0 x.1 lt
  | inr ge ↦ past_range least end x.0 x.1 (omega arith)
]
ranged_none least end (Err g) le h = ap failing (h g refl)

-- ---- where they stop

small_is : (k n : ℕ) → n < 128 → groups (suc k) n ≡ n ∷ []
unfolding groups
small_is k n lt = rw (lt-ltb n 128 lt) refl

large_is : (k low high n : ℕ) → low < 128 → 0 < high → n ≡ low + 128 * high
    → groups (suc k) n ≡ (128 + low) ∷ groups k high
unfolding groups
large_is k low high n small more is =
    let large : 128 ≤ n = omega arith in
    let first : n % 128 ≡ low = omega arith in
    let rest : n / 128 ≡ high = omega arith in
    rw (le-ltb n 128 large, first, rest) refl

record FirstCell (k n : ℕ) : Type 0 where
  byte : ℕ
  rest : List Cell
  is : cells (suc k) n ≡ (OtherByte, byte) ∷ rest

first_cell : (k n : ℕ) → FirstCell k n
unfolding groups
first_cell k n = elim (cases_lt n 128) [
  | inl lt ↦ record { byte = n; rest = []; is = ap others (small_is k n lt) }
  | inr ge ↦ record { byte = 128 + n % 128; rest = cells k (n / 128); is = rw (le-ltb n 128 ge) refl }
]

module _ (k most least end : ℕ) (some : least < end) where
  abbrev this : Format ℕ
  this = numbers (suc k) most least end

  least_fits : in_range least end least ≡ true
  least_fits = range_from least end least (omega arith) some

  first : FirstCell k least
  first = first_cell k least

  missing : (fault : WFault) → this.reading [] ≡ Err fault → (fault ≡ Malformed) → Stop this (cells (suc k)) [] fault
  missing fault e is = record {
    front = [];
    at = [];
    parts = refl;
    value = least;
    fits = least_fits;
    next =
        (OtherByte, first.byte);
    rest = first.rest;
    begins = first.is;
    how = is;
  }

  decided : (b : ℕ) (bs : List ℕ) (fault : WFault) → fault ≡ Malformed
      → ((follow : List ℕ) → IsBytes (b ∷ follow) → this.reading (b ∷ follow) ≡ malformed)
      → Stop this (cells (suc k)) (b ∷ bs) fault
  decided b bs fault is h = record {
    front = [];
    at = b ∷ bs;
    parts = refl;
    value = least;
    fits = least_fits;
    next = (OtherByte, first.byte);
    rest = first.rest;
    begins = first.is;
    how = (is, λ follow fits. h follow fits ∙ ap failing (sym is));
  }

one_fails : (least end b : ℕ) (bs follow : List ℕ) (fault : WFault) → ranged least end (Ok (b, bs)) ≡ Err fault
    → ranged least end (Ok (b, follow)) ≡ malformed
one_fails least end b bs follow fault e = elim (cases_Bool (in_range least end b)) [
  | inl yes' ↦ absurd (absent (b, bs) fault (rw yes' at e))
  | inr no' ↦ rw no' refl
]

zero_groups : (bytes : List ℕ) → groups_at 0 bytes ≡ malformed
unfolding groups_at
zero_groups bytes = refl

no_bytes : (most : ℕ) → groups_at most [] ≡ malformed
unfolding groups_at
no_bytes zero = refl
no_bytes (suc most) = refl

pub numbers_stop : (k most least end : ℕ) (bytes : List ℕ) (fault : WFault) → most ≤ k → least < end → end ≤ 2 ^ 32
    → IsBytes bytes → ranged least end (groups_at most bytes) ≡ Err fault
    → Stop (numbers (suc k) most least end) (cells (suc k)) bytes fault
numbers_stop k most least end [] fault le some room fits e =
    missing k most least end some fault e (ranged_malformed least end (groups_at most []) fault
    (groups_malformed most []) e)
numbers_stop k zero least end (b ∷ bs) fault le some room fits e =
    decided k 0 least end some b bs fault (ranged_malformed least end (groups_at 0 (b ∷ bs)) fault
    (groups_malformed 0 (b ∷ bs)) e) (λ follow g. ap (ranged least end) (zero_groups (b ∷ follow)))
numbers_stop zero (suc most) least end (b ∷ bs) fault le some room fits e = absurd (omega arith)
numbers_stop (suc k) (suc most) least end (b ∷ bs) fault le some room fits e =
    let is : fault ≡ Malformed = ranged_malformed least end (groups_at (suc most) (b ∷ bs)) fault
    (groups_malformed (suc most) (b ∷ bs)) e in
    elim (cases_lt b 128) [
      | inl lt ↦
          decided (suc k) (suc most) least end some b bs fault is
          (λ follow g. one_group most least end b follow lt
          ∙ one_fails least end b bs follow fault (sym (one_group most least end b bs lt) ∙ e))
      | inr large ↦
          let low : ℕ = b - 128 in
          elim (cases_lt (from least low) (above end low)) [
            | inr none ↦
                decided (suc k) (suc most) least end some b bs fault is
                (λ follow g. more_groups most least end b follow room large
                ∙ ap (put_low low) (ranged_none (from least low) (above end low) (groups_at most follow) none
                (groups_malformed most follow)))
            | inl more ↦
                let inner : ranged (from least low) (above end low) (groups_at most bs) ≡ Err fault =
                bind_err (ranged (from least low) (above end low) (groups_at most bs)) (λ h. (low + 128 * h.0, h.1))
                fault (sym (more_groups most least end b bs room large) ∙ e) in
                let s = numbers_stop k most (from least low) (above end low) bs fault (omega arith) more (omega arith)
                (IsBytes-tail b bs fits) inner in
                let range = λ (h : ℕ) (g : in_range (from least low) (above end low) h ≡ true). in_bounds
                (from least low) (above end low) h g in
                into (numbers (suc k) most (from least low) (above end low)) (cells (suc k))
                (numbers (suc (suc k)) (suc most) least end) (cells (suc (suc k))) ((OtherByte, b) ∷ [])
                (λ h. low + 128 * h) (λ h. [])
                (λ h g.
                let one : 1 ≤ h = omega (arith, (range h g).0) in
                let first : 128 + low ≡ b = omega arith in
                ap others (large_is (suc k) low h (low + 128 * h) (omega (arith, fits 0)) one refl)
                ∙ ap (λ (c : ℕ). (OtherByte, c) ∷ cells (suc k) h) first
                ∙ ap (λ (t : List Cell). (OtherByte, b) ∷ t) (sym (append-nil (cells (suc k) h))))
                (λ h g.
                let r = range h g in
                range_from least end (low + 128 * h) (omega (arith, r.0)) (omega (arith, r.1)))
                (λ t f g h. more_groups most least end b t room large ∙ ap (put_low low) h)
                bs fault s
          ]
    ]
