-- How a part of a program ends: with a value, with a fault or HALT, or not yet, since a bound was
-- met.
use Rattle.std.specs.Prelude.{ℕ, List}
use Rattle.def_meaning.specs.Store.{Store}

-- what the variables hold, and what has been printed
pub record State : Type 0 where
  pub store : Store
  pub out : List ℕ

pub data Answer (A : Type 0) : Type 0 where
  Value : (value : A) (st : State) → Answer A
  Ended : (number : ℕ) (out : List ℕ) → Answer A
  StillRunning : (out : List ℕ) → Answer A

-- What comes next with a value. Behind an end, and while a part goes on, nothing does.
infixl 10 ◌▷◌
abbrev pub ◌▷◌ : {A B : Type 0} → Answer A → (A → State → Answer B) → Answer B
(Value x st) ▷ next = next x st
(Ended k out) ▷ next = Ended k out
(StillRunning out) ▷ next = StillRunning out

-- the faults, and HALT
abbrev pub range_fault : ℕ
range_fault = 1

abbrev pub overflow : ℕ
overflow = 2

abbrev pub index_fault : ℕ
index_fault = 3

abbrev pub divisor_fault : ℕ
divisor_fault = 4

abbrev pub case_fault : ℕ
case_fault = 5

abbrev pub no_return : ℕ
no_return = 6

abbrev pub empty_procedure : ℕ
empty_procedure = 7

abbrev pub storage_fault : ℕ
storage_fault = 8

abbrev pub halt_status : ℕ
halt_status = 9
