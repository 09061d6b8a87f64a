-- What does not leave by EXIT.
use Rattle.std.proofs.Common.{◌≡◌, ℕ, zero, suc, ◌+ℤ◌, ℤ, Bool, true, false, if◌then◌else◌, refl}
use Rattle.def_meaning.specs.Store.{Location}
use Rattle.def_meaning.specs.Answer.{State, Answer, Value, Ended, StillRunning, ◌▷◌}
use Rattle.def_meaning.specs.Outcome.{Outcome, Normal, Exited, Returned, sequence}
use Rattle.def_meaning.specs.Environment.{Environment}
use Rattle.def_meaning.specs.Operators.{is_true}
use Rattle.def_meaning.specs.Statements.{Does, store_number, loop_left, loop_outcome, until_true, has_passed, for_turns, for_all}
use Rattle.law_simulation.specs.Begun.{while_begun}

abbrev pub is_left : Outcome → Bool
is_left (Value Normal s) = false
is_left (Value Exited s) = true
is_left (Value (Returned v) s) = false
is_left (Ended k out) = false
is_left (StillRunning out) = false

-- from each state
abbrev pub Stay : (State → Outcome) → Type 0
Stay f = (s : State) → is_left (f s) ≡ false

abbrev pub Stays : Does → Type 0
Stays d = (a : Environment) → Stay (d a)

pub then_stays : (o : Outcome) (next : State → Outcome) → is_left o ≡ false → Stay next
    → is_left (sequence o next) ≡ false
then_stays (Value Normal s) next h g = g s
then_stays (Value Exited s) next h g = h
then_stays (Value (Returned v) s) next h g = refl
then_stays (Ended k out) next h g = refl
then_stays (StillRunning out) next h g = refl

pub with_stays : {A : Type 0} (x : Answer A) (next : A → State → Outcome) → ((v : A) → Stay (next v))
    → is_left (x ▷ next) ≡ false
with_stays (Value v s) next g = g v s
with_stays (Ended k out) next g = refl
with_stays (StillRunning out) next g = refl

pub if_stays : (b : Bool) (o o' : Outcome) → is_left o ≡ false → is_left o' ≡ false
    → is_left (if b then o else o') ≡ false
if_stays true o o' h g = h
if_stays false o o' h g = g

-- LOOP takes EXIT
loop_stays : (o : Outcome) (next : State → Outcome) → Stay next → is_left (loop_left o next) ≡ false
loop_stays (Value Normal s) next g = g s
loop_stays (Value Exited s) next g = refl
loop_stays (Value (Returned v) s) next g = refl
loop_stays (Ended k out) next g = refl
loop_stays (StillRunning out) next g = refl

pub looped_stays : (n : ℕ) (body : State → Outcome) → Stay (loop_outcome n body)
looped_stays zero body s = refl
looped_stays (suc n) body s = loop_stays (body s) (loop_outcome n body) (looped_stays n body)

pub while_stays : (n : ℕ) (test : State → Answer ℤ) (body : State → Outcome) → Stay body
    → Stay (while_begun n test body)
while_stays zero test body h s = refl
while_stays (suc n) test body h s =
    with_stays (test s) (λ v s. if is_true v then sequence (body s) (while_begun n test body) else Value Normal s)
    (λ v s. if_stays (is_true v) (sequence (body s) (while_begun n test body)) (Value Normal s)
    (then_stays (body s) (while_begun n test body) (h s) (while_stays n test body h)) refl)

pub until_stays : (n : ℕ) (body : State → Outcome) (test : State → Answer ℤ) → Stay body → Stay (until_true n body test)
until_stays zero body test h s = refl
until_stays (suc n) body test h s =
    then_stays (body s) (λ s. test s ▷ λ v s. if is_true v then Value Normal s else until_true n body test s) (h s)
    (λ s. with_stays (test s) (λ v s. if is_true v then Value Normal s else until_true n body test s)
    (λ v s. if_stays (is_true v) (Value Normal s) (until_true n body test s) refl (until_stays n body test h s)))

turns_stay : (n : ℕ) (check : ℤ → State → Answer ℤ) (l : Location) (by limit : ℤ) (body : State → Outcome) → Stay body
    → Stay (for_turns n check l by limit body)
turns_stay zero check l by limit body h s = refl
turns_stay (suc n) check l by limit body h s =
    let on : State → Outcome = λ s. if has_passed by limit (s.store l +ℤ by) then Value Normal s else
    (check (s.store l +ℤ by) s ▷ (λ v s. for_turns n check l by limit body (store_number l v s))) in
    then_stays (body s) on (h s)
    (λ s. if_stays (has_passed by limit (s.store l +ℤ by)) (Value Normal s)
    (check (s.store l +ℤ by) s ▷ λ v s. for_turns n check l by limit body (store_number l v s)) refl
    (with_stays (check (s.store l +ℤ by) s) (λ v s. for_turns n check l by limit body (store_number l v s))
    (λ v s. turns_stay n check l by limit body h (store_number l v s))))

pub for_stays : (n : ℕ) (check : ℤ → State → Answer ℤ) (l : Location) (by limit : ℤ) (body : State → Outcome)
    → Stay body → Stay (for_all n check l by limit body)
for_stays n check l by limit body h s = if_stays (has_passed by limit (s.store l)) (Value Normal s)
    (for_turns n check l by limit body s) refl (turns_stay n check l by limit body h s)

-- an arm of a CASE, or all others
pub arm_stays : (b : Bool) (d other : Does) → Stays d → Stays other → Stays (if b then d else other)
arm_stays true d other h g = h
arm_stays false d other h g = g
