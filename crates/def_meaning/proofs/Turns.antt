-- Loops with a bound and with a greater one.
use Rattle.std.proofs.Common.{ℕ, zero, suc, ◌≤◌, ℤ, arith}
use Rattle.std.specs.Prelude.{◌+ℤ◌, if◌then◌else◌}
use Rattle.def_meaning.specs.Store.{Location}
use Rattle.def_meaning.specs.Answer.{State, Answer, ◌▷◌, StillRunning, Value}
use Rattle.def_meaning.specs.Outcome.{Outcome, Normal}
use Rattle.def_meaning.specs.Operators.{is_true}
use Rattle.def_meaning.specs.Statements.{store_number, loop_outcome, while_true, until_true, has_passed, for_turns, for_all}
use Rattle.def_meaning.specs.Whiles.{Whiles}
use Rattle.def_meaning.proofs.After.{begins, Later, alike, reported_later, After, same, open_yet, printed_later, with_later, go_later, left_later, if_after, went}

abbrev pub Alike : (State → Outcome) → (State → Outcome) → Type 0
Alike f g = (st : State) → After st.out (f st) (g st)

abbrev pub Tests : (State → Answer ℤ) → (State → Answer ℤ) → Type 0
Tests f g = (st : State) → Later st.out (f st) (g st)

-- at the end of the lesser bound the other goes on
pub on : (st : State) {x y : Outcome} → After st.out x y → After st.out (StillRunning st.out) y
on st {y = y} h = open_yet st.out y (begins st.out) (printed_later h)

pub stays : (st : State) → After st.out (StillRunning st.out) (StillRunning st.out)
stays st = same (StillRunning st.out) (begins st.out)

-- the second of both beside itself
pub second : {f g : State → Outcome} → Alike f g → Alike g g
second {g = g} h = λ st. same (g st) (printed_later (h st))

pub second_test : {f g : State → Answer ℤ} → Tests f g → Tests g g
second_test {g = g} h = λ st. alike (g st) (reported_later (h st))

-- ---- LOOP

looped_twice : {g : State → Outcome} → Alike g g → (m : ℕ) → Alike (loop_outcome m g) (loop_outcome m g)
looped_twice h zero = λ st. stays st
looped_twice h (suc m) = λ st. left_later (looped_twice h m) (h st)

pub looped_later : {f g : State → Outcome} → Alike f g → (n m : ℕ) → n ≤ m → Alike (loop_outcome n f) (loop_outcome m g)
looped_later h zero m q = λ st. on st (looped_twice (second h) m st)
looped_later h (suc n) zero q = absurd (omega arith)
looped_later h (suc n) (suc m) q = λ st. left_later (looped_later h n m (omega arith)) (h st)

-- ---- WHILE

-- no turn is left: a condition that is met still runs
no_turn : {t u : State → Answer ℤ} {g : State → Outcome} → Tests t u → Alike g g
    → Alike (λ st. t st ▷ λ v st. if is_true v then StillRunning st.out else Value Normal st)
    (λ st. u st ▷ λ v st. if is_true v then g st else Value Normal st)
no_turn t h = λ st. with_later (λ v st. if_after (is_true v) (on st (h st)) (went st)) (t st)

while_twice : {t : State → Answer ℤ} {g : State → Outcome} → Tests t t → Alike g g → (m : ℕ)
    → Alike (while_true m t g) (while_true m t g)
while_twice t h zero = λ st. with_later (λ v st. if_after (is_true v) (stays st) (went st)) (t st)
while_twice t h (suc m) = λ st. with_later
    (λ v st. if_after (is_true v) (go_later (while_twice t h m) (h st)) (went st)) (t st)

pub while_later : {t u : State → Answer ℤ} {f g : State → Outcome} → Tests t u → Alike f g → (n m : ℕ) → n ≤ m
    → Alike (while_true n t f) (while_true m u g)
while_later t h zero zero q = λ st. with_later (λ v st. if_after (is_true v) (stays st) (went st)) (t st)
while_later t h zero (suc m) q = no_turn t (λ st. go_later (while_twice (second_test t) (second h) m) (second h st))
while_later t h (suc n) zero q = absurd (omega arith)
while_later t h (suc n) (suc m) q = λ st. with_later
    (λ v st. if_after (is_true v) (go_later (while_later t h n m (omega arith)) (h st)) (went st)) (t st)

-- ---- REPEAT

until_twice : {t : State → Answer ℤ} {g : State → Outcome} → Tests t t → Alike g g → (m : ℕ)
    → Alike (until_true m g t) (until_true m g t)
until_twice t h zero = λ st. stays st
until_twice t h (suc m) = λ st. go_later
    (λ st. with_later (λ v st. if_after (is_true v) (went st) (until_twice t h m st)) (t st)) (h st)

pub until_later : {t u : State → Answer ℤ} {f g : State → Outcome} → Tests t u → Alike f g → (n m : ℕ) → n ≤ m
    → Alike (until_true n f t) (until_true m g u)
until_later t h zero m q = λ st. on st (until_twice (second_test t) (second h) m st)
until_later t h (suc n) zero q = absurd (omega arith)
until_later t h (suc n) (suc m) q = λ st. go_later
    (λ st. with_later (λ v st. if_after (is_true v) (went st) (until_later t h n m (omega arith) st)) (t st)) (h st)

-- ---- FOR

module _ (check : ℤ → State → Answer ℤ) (c : (v : ℤ) (st : State) → Later st.out (check v st) (check v st))
    (l : Location) (by limit : ℤ) where
  turns_twice : {g : State → Outcome} → Alike g g → (m : ℕ)
      → Alike (for_turns m check l by limit g) (for_turns m check l by limit g)
  turns_twice h zero = λ st. stays st
  turns_twice h (suc m) =
      λ st. go_later (λ st. if_after (has_passed by limit (st.store l +ℤ by)) (went st)
      (with_later (λ v st. turns_twice h m (store_number l v st)) (c (st.store l +ℤ by) st))) (h st)

  turns_later : {f g : State → Outcome} → Alike f g → (n m : ℕ) → n ≤ m
      → Alike (for_turns n check l by limit f) (for_turns m check l by limit g)
  turns_later h zero m q = λ st. on st (turns_twice (second h) m st)
  turns_later h (suc n) zero q = absurd (omega arith)
  turns_later h (suc n) (suc m) q =
      λ st. go_later (λ st. if_after (has_passed by limit (st.store l +ℤ by)) (went st)
      (with_later (λ v st. turns_later h n m (omega arith) (store_number l v st)) (c (st.store l +ℤ by) st))) (h st)

  pub for_later : {f g : State → Outcome} → Alike f g → (n m : ℕ) → n ≤ m
      → Alike (for_all n check l by limit f) (for_all m check l by limit g)
  for_later h n m q = λ st. if_after (has_passed by limit (st.store l)) (went st) (turns_later h n m q st)

-- ---- a WHILE that is bounded in some way

pub record WhilesLater (w w' : Whiles) (n m : ℕ) : Type 0 where
  pub at : {t u : State → Answer ℤ} {f g : State → Outcome} → Tests t u → Alike f g → Alike (w n t f) (w' m u g)

pub whiles_later : (n m : ℕ) → n ≤ m → WhilesLater while_true while_true n m
whiles_later n m q = record { at = λ t h. while_later t h n m q }
