-- Calls, bodies and runs with a bound and with a greater one.
use Rattle.std.proofs.Common.{◌≡◌, ℕ, zero, suc, ◌≤◌, ◌-◌, List, [], ◌∷◌, map, Option, Some, None, refl, sym, ap, ◌∙◌, arith}
use Rattle.std.specs.Prelude.{nat_lt, if◌then◌else◌}
use Rattle.std.proofs.Math.Path.{fun_ext}
use Rattle.typed_tree.specs.declared.statement.TypedStmt.{TypedStmt, TypedStmt-F, fold-TypedStmt}
use Rattle.typed_tree.specs.declared.statement.TypedStmt.TheOpen as step
use Rattle.def_meaning.specs.Answer.{State, StillRunning, storage_fault, empty_procedure, Ended}
use Rattle.def_meaning.specs.Outcome.{Outcome}
use Rattle.def_meaning.specs.Environment.{Modules, Environment, Callee, Passed}
use Rattle.def_meaning.specs.Expressions.{Asks}
use Rattle.def_meaning.specs.Statements.{Does, Arm, in_turn, while_true, step_layer, arm_layer, does}
use Rattle.def_meaning.specs.Calls.{storage_need, is_function, result, enter_call, environment_of, body_does, calling}
use Rattle.def_meaning.specs.Runs.{storage, body_frame, first_state, body_environment, then_body, bodies, run}
use Rattle.def_meaning.specs.Whiles.{Whiles, step_with, does_with, body_with, runs_with, calling_with, bodies_with, run_with}
use Rattle.def_meaning.specs.Later.{output_of, Begins, EndsAlike, PrintsOn}
use Rattle.def_meaning.proofs.After.{begins, Later, alike, going, reported_later, After, same, open_yet, if_later, ended, result_later, body_later}
use Rattle.def_meaning.proofs.Evaluated.{AsksLater, Pairwise, none, more, carry}
use Rattle.def_meaning.proofs.Turns.{WhilesLater, whiles_later}
use Rattle.def_meaning.proofs.Done.{DoesLater, turn_later, does_later}

each : {A B C : Type 0} (R : B → C → Type 0) (f : A → B) (g : A → C) → ((x : A) → R (f x) (g x)) → (xs : List A)
    → Pairwise R (map f xs) (map g xs)
each R f g h [] = none
each R f g h (x ∷ xs) = more (h x) (each R f g h xs)

module _ (w w' : Whiles) (p : Modules) (n m : ℕ) (q : n ≤ m) (whiles : WhilesLater w w' n m) where
  body_runs : {ask ask' : Asks} → AsksLater ask ask' → (body : List TypedStmt) (a : Environment) (st : State)
      → After st.out (body_with w p n ask body a st) (body_with w' p m ask' body a st)
  body_runs {ask = ask} {ask' = ask'} k body a st =
      turn_later (each DoesLater (does_with w p ask n) (does_with w' p ask' m)
      (does_later w w' p ask ask' k n m q whiles) body) a st

  runs_later : {ask ask' : Asks} → AsksLater ask ask' → (c : Callee) (vs : List Passed) (next left : ℕ) (st : State)
      → Later st.out (runs_with w p n ask c vs next left st) (runs_with w' p m ask' c vs next left st)
  runs_later k c vs next left st =
      if_later (nat_lt left (storage_need c.types c.routine vs)) (ended storage_fault st.out)
      (result_later (is_function c.types c.routine)
      (body_runs k c.routine.body (environment_of c next (enter_call c.types c.routine next vs st.store)
      (left - storage_need c.types c.routine vs))
      (record st { store = (enter_call c.types c.routine next vs st.store).store })))

  -- one more level of calls
  deeper : (d e : ℕ) → AsksLater (calling_with w p n d) (calling_with w' p m e)
      → (c : Option Callee) (vs : List Passed) (next left : ℕ) (st : State)
      → Later st.out (calling_with w p n (suc d) c vs next left st) (calling_with w' p m (suc e) c vs next left st)
  unfolding calling_with
  deeper d e k None vs next left st = ended empty_procedure st.out
  deeper d e k (Some c) vs next left st = runs_later k c vs next left st

calling_twice : (w : Whiles) (p : Modules) (m : ℕ) → WhilesLater w w m m → (d : ℕ)
    → AsksLater (calling_with w p m d) (calling_with w p m d)
unfolding calling_with
calling_twice w p m h zero = record { at = λ c vs next left st. alike (StillRunning st.out) (begins st.out) }
calling_twice w p m h (suc d) = record { at = deeper w w p m m (omega arith) h d d (calling_twice w p m h d) }

module _ (w w' : Whiles) (p : Modules) (n m : ℕ) (q : n ≤ m) (whiles : WhilesLater w w' n m)
    (twice : WhilesLater w' w' m m) where
  no_more : (e : ℕ) (c : Option Callee) (vs : List Passed) (next left : ℕ) (st : State)
      → Later st.out (calling_with w p n zero c vs next left st) (calling_with w' p m e c vs next left st)
  unfolding calling_with
  no_more e c vs next left st = going st.out (calling_with w' p m e c vs next left st) (begins st.out)
      (reported_later ((calling_twice w' p m twice e).at c vs next left st))

  calling_later : (d e : ℕ) → d ≤ e → AsksLater (calling_with w p n d) (calling_with w' p m e)
  calling_later zero e r = record { at = no_more e }
  calling_later (suc d) zero r = absurd (omega arith)
  calling_later (suc d) (suc e) r = record { at = deeper w w' p n m q whiles d e (calling_later d e (omega arith)) }

  bodies_later : (left place : ℕ) (ms : Modules) (st : State)
      → After st.out (bodies_with w p n left place ms st) (bodies_with w' p m left place ms st)
  bodies_later left place [] st = same (Ended 0 st.out) (begins st.out)
  bodies_later left place (x ∷ xs) st =
      body_later (bodies_later left (suc place) xs)
      (body_runs w w' p n m q whiles (calling_later n m q) x.body (body_environment p place x left) st)

  pub run_later : (pages : ℕ) → After [] (run_with w p n pages) (run_with w' p m pages)
  unfolding run_with
  run_later pages = bodies_later (storage p pages - body_frame) 0 p (first_state p)

-- ---- the meaning itself

-- with the WHILE of the definition
same_layer : (p : Modules) (ask : Asks) (n : ℕ) (x : TypedStmt-F Does Arm)
    → step_with while_true p ask n x ≡ step_layer p ask n x
same_layer p ask n (step.Assign d t e) = refl
same_layer p ask n (step.Copy to from t) = refl
same_layer p ask n (step.CopyText d t text) = refl
same_layer p ask n (step.Call c) = refl
same_layer p ask n (step.Put e) = refl
same_layer p ask n (step.Change o d t e) = refl
same_layer p ask n (step.Membership o d e) = refl
same_layer p ask n step.Halt = refl
same_layer p ask n (step.If e body others) = refl
same_layer p ask n (step.Case e arms others) = refl
same_layer p ask n (step.While e body) = refl
same_layer p ask n (step.Repeat body e) = refl
same_layer p ask n (step.Loop body) = refl
same_layer p ask n step.Exit = refl
same_layer p ask n step.Return = refl
same_layer p ask n (step.Give t e) = refl
same_layer p ask n (step.For d t start limit by body) = refl
same_layer p ask n (step.With d body) = refl

same_does : (p : Modules) (ask : Asks) (n : ℕ) → does_with while_true p ask n ≡ does p ask n
unfolding does_with does
same_does p ask n = ap (λ (layer : TypedStmt-F Does Arm → Does). fold-TypedStmt Does Arm layer (arm_layer p ask n))
    (fun_ext (same_layer p ask n))

same_body : (p : Modules) (n : ℕ) (ask : Asks) (body : List TypedStmt) (a : Environment) (st : State)
    → body_with while_true p n ask body a st ≡ body_does p n ask body a st
same_body p n ask body a st = ap (λ (d : TypedStmt → Does). in_turn (map d body) a st) (same_does p ask n)

same_deeper : (p : Modules) (n d : ℕ) → calling_with while_true p n d ≡ calling p n d → (c : Option Callee)
    → calling_with while_true p n (suc d) c ≡ calling p n (suc d) c
unfolding calling_with calling
same_deeper p n d h None = refl
same_deeper p n d h (Some c) =
    ap (λ (ask : Asks). runs_with while_true p n ask c) h
    ∙ fun_ext (λ vs. fun_ext (λ next. fun_ext (λ left. fun_ext (λ st.
    ap (λ (o : Outcome). if nat_lt left (storage_need c.types c.routine vs) then Ended storage_fault st.out else result
    (is_function c.types c.routine) o)
    (same_body p n (calling p n d) c.routine.body
    (environment_of c next (enter_call c.types c.routine next vs st.store)
    (left - storage_need c.types c.routine vs))
    (record st { store = (enter_call c.types c.routine next vs st.store).store }))))))

same_calling : (p : Modules) (n d : ℕ) → calling_with while_true p n d ≡ calling p n d
unfolding calling_with calling
same_calling p n zero = refl
same_calling p n (suc d) = fun_ext (same_deeper p n d (same_calling p n d))

same_bodies : (p : Modules) (n left place : ℕ) (ms : Modules) (st : State)
    → bodies_with while_true p n left place ms st ≡ bodies p n left place ms st
same_bodies p n left place [] st = refl
same_bodies p n left place (m ∷ ms) st =
    ap (λ (ask : Asks). then_body (body_with while_true p n ask m.body (body_environment p place m left) st)
    (bodies_with while_true p n left (suc place) ms)) (same_calling p n n)
    ∙ ap (λ (o : Outcome). then_body o (bodies_with while_true p n left (suc place) ms))
    (same_body p n (calling p n n) m.body (body_environment p place m left) st)
    ∙ ap (then_body (body_does p n (calling p n n) m.body (body_environment p place m left) st))
    (fun_ext (same_bodies p n left (suc place) ms))

pub same_run : (p : Modules) (pages n : ℕ) → run_with while_true p n pages ≡ run p pages n
unfolding run_with run
same_run p pages n = same_bodies p n (storage p pages - body_frame) 0 p (first_state p)

both_runs : (p : Modules) (pages n m : ℕ) → n ≤ m → After [] (run p pages n) (run p pages m)
both_runs p pages n m q = carry (After []) (sym (same_run p pages n)) (sym (same_run p pages m))
    (run_later while_true while_true p n m q (whiles_later n m q) (whiles_later m m (omega arith)) pages)

-- ---- the laws

pub still : {out : List ℕ} {x y : Outcome} (k : ℕ) (all : List ℕ) → After out x y → x ≡ Ended k all → y ≡ Ended k all
still k all (same x b) e = e
still k all (open_yet first x b c) e = cc e

pub goes_on : {out : List ℕ} {x y : Outcome} → After out x y → Begins (output_of x) (output_of y)
goes_on (same x b) = begins (output_of x)
goes_on (open_yet first x b c) = c

pub ends_alike : EndsAlike
ends_alike p pages n m k out q e = still k out (both_runs p pages n m q) e

pub prints_on : PrintsOn
prints_on p pages n m q = goes_on (both_runs p pages n m q)
