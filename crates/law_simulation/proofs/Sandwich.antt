-- The run in which a WHILE evaluates its condition at most n times, and the language's run, in which it makes at most n
-- turns: each with the bound n is a beginning of the other, the second with
-- one more.
use Rattle.std.proofs.Common.{ℕ, zero, suc, ℤ, [], subst, arith}
use Rattle.def_meaning.specs.Answer.{State, Answer}
use Rattle.def_meaning.specs.Outcome.{Outcome}
use Rattle.def_meaning.specs.Operators.{is_true}
use Rattle.def_meaning.specs.Environment.{Modules}
use Rattle.def_meaning.specs.Statements.{while_true}
use Rattle.def_meaning.specs.Runs as meaning
use Rattle.def_meaning.proofs.After.{After, with_later, go_later, if_after, went}
use Rattle.def_meaning.proofs.Turns.{Alike, Tests, on, stays, second, second_test, whiles_later}
use Rattle.def_meaning.proofs.Ran.{run_later, same_run}
use Rattle.law_simulation.specs.Begun.{while_begun, run}

begun_twice : {t u : State → Answer ℤ} {f g : State → Outcome} → Tests t u → Alike f g → (m : ℕ)
    → Alike (while_begun m t f) (while_begun m u g)
begun_twice t h zero = λ st. stays st
begun_twice t h (suc m) = λ st. with_later
    (λ v st. if_after (is_true v) (go_later (begun_twice t h m) (h st)) (went st)) (t st)

begun_before : {t u : State → Answer ℤ} {f g : State → Outcome} → Tests t u → Alike f g → (n : ℕ)
    → Alike (while_begun n t f) (while_true n u g)
begun_before t h zero = λ st. on st ((whiles_later 0 0 (omega arith)).at (second_test t) (second h) st)
begun_before t h (suc n) = λ st. with_later
    (λ v st. if_after (is_true v) (go_later (begun_before t h n) (h st)) (went st)) (t st)

begun_behind : {t u : State → Answer ℤ} {f g : State → Outcome} → Tests t u → Alike f g → (n : ℕ)
    → Alike (while_true n t f) (while_begun (suc n) u g)
begun_behind t h zero = λ st. with_later
    (λ v st. if_after (is_true v) (on st (go_later (begun_twice (second_test t) (second h) zero) (second h st)))
    (went st)) (t st)
begun_behind t h (suc n) = λ st. with_later
    (λ v st. if_after (is_true v) (go_later (begun_behind t h n) (h st)) (went st)) (t st)

pub run_before : (p : Modules) (pages n : ℕ) → After [] (run p n pages) (meaning.run p pages n)
run_before p pages n =
    subst (After [] (run p n pages)) (same_run p pages n)
    (run_later while_begun while_true p n n (omega arith) (record { at = λ t h. begun_before t h n })
    (whiles_later n n (omega arith)) pages)

pub run_behind : (p : Modules) (pages n : ℕ) → After [] (meaning.run p pages n) (run p (suc n) pages)
run_behind p pages n =
    subst (λ (o : Outcome). After [] o (run p (suc n) pages)) (same_run p pages n)
    (run_later while_true while_begun p n (suc n) (omega arith) (record { at = λ t h. begun_behind t h n })
    (record { at = λ t h. begun_twice t h (suc n) }) pages)
