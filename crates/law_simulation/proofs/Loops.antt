-- WHILE, REPEAT and LOOP: turn by turn, with the same bound on both sides.
use Rattle.std.proofs.Common.{◌≡◌, ℕ, zero, suc, ◌+◌, ℤ, Bool, true, false, not, List, [], ◌∷◌, ◌++◌, length, None, if◌then◌else◌, refl, sym, ap, subst, ◌∙◌, arith}
use Rattle.std.specs.Prelude.{◌==◌}
use Rattle.std.proofs.lemmas.List.{append-nil}
use Rattle.wasm_tree.specs.declared.instr.Instr.{Instr}
use Rattle.wasm_tree.specs.declared.instr.Instr.TheVariants as instr
use Rattle.wasm_tree.specs.declared.store.Value.{Value}
use Rattle.wasm_tree.specs.declared.store.Value.TheVariants.{I64}
use Rattle.wasm_tree.specs.Numbers.{truth}
use Rattle.law_effect.specs.Effect.{State as Target, Effect, FellThrough, Branched, StillRunning, Does as Effects, then_run, out_of, turn, turns, to_label}
use Rattle.law_effect.proofs.Steps.{block_runs, loop_runs, br_runs, br_if_runs, to_label_keeps}
use Rattle.typed_tree.specs.Types.{boolean}
use Rattle.def_meaning.specs.Answer.{State as Source, Answer, Ended, ◌▷◌}
use Rattle.def_meaning.specs.Outcome.{Outcome, Normal, Exited, Returned, sequence}
use Rattle.def_meaning.specs.Answer as answer
use Rattle.def_meaning.specs.Operators.{is_true}
use Rattle.def_meaning.specs.Expressions.{Gives}
use Rattle.def_meaning.specs.Statements.{Does, until_true, loop_outcome, loop_left}
use Rattle.def_scheme.specs.Coded.{Coded, Counts, plain, ◌⨾◌, within, is_zero}
use Rattle.def_scheme.specs.Steps.{block_loop, loop, leaving}
use Rattle.law_simulation.specs.Begun.{while_begun}
use Rattle.law_simulation.specs.Scene.{Scene, calls, runs, HasHelpers, IsValue, AreSmall, word, Stands, Into, GivesNumber, IsFree, HasLocals, inside, Agrees, Ends, Executes}
use Rattle.law_simulation.proofs.Parts.{grows_more, has_before, free_after}
use Rattle.law_simulation.proofs.Operators.{wide, narrow}
use Rattle.law_simulation.proofs.Relations.{zero_runs, is_zero_true}

-- a branch to a label without results, from where the block began
pub label_here : (st : Target) (stack : List Value) (go : Effects) → to_label 0 (length stack) st stack go ≡ go st stack
label_here st stack go =
    ap (λ (s : List Value). to_label 0 (length stack) st s go) (sym (append-nil (stack ++ []) ∙ append-nil stack))
    ∙ to_label_keeps stack [] [] 0 (length stack) st go refl refl ∙ ap (go st) (append-nil stack)

module _ (k : Scene) (function : Bool) (has : HasHelpers k) (small : AreSmall k.setting.home.types) where
  abbrev leaves : (label : ℕ) → List Value → Target → Effect
  leaves label stack st = Branched label st stack

  -- whether a condition is not met
  tested : (v : ℤ) → IsValue k.setting.home.types boolean v
      → (label : ℕ) (rest : List Instr) (st : Target) (stack : List Value)
      → runs k (is_zero ∷ instr.BrIf label ∷ rest) st (stack ++ I64 (word v) ∷ [])
      ≡ then_run (if truth (not (is_true v)) == 0 then FellThrough st stack else Branched label st stack)
      (runs k rest)
  tested v is label rest st stack =
      zero_runs k has small (word v) (instr.BrIf label ∷ rest) st stack
      ∙ br_if_runs k.modules k.fixed k.turns (calls k) k.own rest st label (truth (word v == 0)) stack
      ∙ ap (λ (b : Bool). then_run (if truth b == 0 then FellThrough st stack else Branched label st stack)
      (runs k rest)) (is_zero_true k has small v is.0 (wide v (narrow k has small boolean v is)))

  -- ---- WHILE

  module _ (exit : ℕ) (code : List Instr) (stack : List Value) where
    abbrev turned : ℕ → Effect → Effect
    turned j r = turn (length stack) r (turns j (runs k code))

    -- the body of a turn, and the turns behind it
    body_turned : (j : ℕ) (r : Effect) (o : Outcome) (next : Source → Outcome)
        → Ends k function (suc (suc exit)) stack (leaves 0 stack) r o
        → ((s : Source) (st : Target) → Stands k s st
        → Ends k function (suc exit) stack (leaves 0 stack) (turns j (runs k code) st stack) (next s))
        → Ends k function (suc exit) stack (leaves 0 stack) (turned j r) (sequence o next)
    body_turned j r (answer.Value Normal s) next p h =
        subst (λ (e : Effect). Ends k function (suc exit) stack (leaves 0 stack) e (next s))
        (sym (ap (turned j) p.run ∙ label_here p.st stack (turns j (runs k code)))) (h s p.st p.stands)
    body_turned j r (answer.Value Exited s) next p h =
        record { st = p.st; stands = p.stands; run = ap (turned j) p.run }
    body_turned j r (answer.Value (Returned v) s) next p h =
        record { below = p.below; st = p.st; stands = p.stands; run = ap (turned j) p.run }
    body_turned j r (Ended i out) next p h = ap (turned j) p
    body_turned j r (answer.StillRunning out) next p h = ap (turned j) p

    -- the condition of a turn
    test_turned : (j : ℕ) (after : List Instr) (r : Effect) (a : Answer ℤ) (next : ℤ → Source → Outcome)
        → Into (GivesNumber k boolean (runs k after) stack) r a
        → ((v : ℤ) → IsValue k.setting.home.types boolean v → (s : Source) (st : Target) → Stands k s st
        → Ends k function (suc exit) stack (leaves 0 stack)
        (turned j (runs k after st (stack ++ I64 (word v) ∷ []))) (next v s))
        → Ends k function (suc exit) stack (leaves 0 stack) (turned j r) (a ▷ next)
    test_turned j after r (answer.Value v s) next p h =
        subst (λ (e : Effect). Ends k function (suc exit) stack (leaves 0 stack) (turned j e) (next v s)) (sym p.run)
        (h v p.is s p.st p.stands)
    test_turned j after r (Ended i out) next p h = ap (turned j) p
    test_turned j after r (answer.StillRunning out) next p h = ap (turned j) p

  -- out of the block around the loop
  module _ (exit : ℕ) (rest : List Instr) (stack : List Value) where
    abbrev out_loop : Effect → Effect
    out_loop r = then_run (out_of 0 (length stack) (then_run r (runs k []))) (runs k rest)

    pub after_loop : (r : Effect) (o : Outcome) → Ends k function (suc exit) stack (leaves 0 stack) r o
        → Ends k function exit stack (λ st. runs k rest st stack) (out_loop r) o
    after_loop r (answer.Value Normal s) p = record {
      st = p.st;
      stands = p.stands;
      run = ap out_loop p.run ∙ ap (λ (e : Effect). then_run e (runs k rest)) (label_here p.st stack FellThrough);
    }
    after_loop r (answer.Value Exited s) p = record { st = p.st; stands = p.stands; run = ap out_loop p.run }
    after_loop r (answer.Value (Returned v) s) p =
        record { below = p.below; st = p.st; stands = p.stands; run = ap out_loop p.run }
    after_loop r (Ended i out) p = ap out_loop p
    after_loop r (answer.StillRunning out) p = ap out_loop p

  module _ (x y : Coded) (test : Gives ℤ) (step : Does) (hx : Agrees k boolean x test) (hy : Executes k function y step)
    where
      abbrev while_coded : Coded
      while_coded = x ⨾ plain (is_zero ∷ instr.BrIf 1 ∷ []) ⨾ y ⨾ plain (instr.Br 0 ∷ [])

      module _ (e label : ℕ) (same : e + 2 ≡ suc (suc label)) (c : Counts) (free : IsFree k c)
          (full : HasLocals k (y (inside k (e + 2)) (x (inside k (e + 2)) c).1).1) (stack : List Value) where
        abbrev condition : List Instr
        condition = (x (inside k (e + 2)) c).0

        abbrev middle : Counts
        middle = (x (inside k (e + 2)) c).1

        abbrev body : List Instr
        body = (y (inside k (e + 2)) middle).0

        abbrev code : List Instr
        code = condition ++ (is_zero ∷ instr.BrIf 1 ∷ (body ++ instr.Br 0 ∷ []))

        -- the body goes on to the next turn
        body_goes : (s : Source) (st : Target) → Stands k s st
            → Ends k function (suc (suc label)) stack (leaves 0 stack) (runs k (body ++ instr.Br 0 ∷ []) st stack)
            (step k.around s)
        body_goes s st h =
            subst (λ (l : ℕ). Ends k function l stack (leaves 0 stack) (runs k (body ++ instr.Br 0 ∷ []) st stack)
            (step k.around s)) same
            (branches (step k.around s) (hy.goes (e + 2) middle (free_after k (hx.grows (e + 2) c) free) full s st h
            (instr.Br 0 ∷ []) stack))
          where
            branches : (o : Outcome) → Ends k function (e + 2) stack (λ st. runs k (instr.Br 0 ∷ []) st stack)
                (runs k (body ++ instr.Br 0 ∷ []) st stack) o
                → Ends k function (e + 2) stack (leaves 0 stack) (runs k (body ++ instr.Br 0 ∷ []) st stack) o
            branches (answer.Value Normal s) p =
                record {
                  st = p.st;
                  stands = p.stands;
                  run = p.run
                      ∙ br_runs k.modules k.fixed k.turns (calls k) k.own [] p.st 0 stack;
                }
            branches (answer.Value Exited s) p = p
            branches (answer.Value (Returned v) s) p = p
            branches (Ended j out) p = p
            branches (answer.StillRunning out) p = p

        while_turns : (j : ℕ) (s : Source) (st : Target) → Stands k s st
            → Ends k function (suc label) stack (leaves 0 stack) (turns j (runs k code) st stack)
            (while_begun j (test k.around) (step k.around) s)
        while_turns zero s st h = ap StillRunning h.out
        while_turns (suc j) s st h =
            test_turned label code stack j (is_zero ∷ instr.BrIf 1 ∷ (body ++ instr.Br 0 ∷ [])) (runs k code st stack)
            (test k.around s)
            (λ v s. if is_true v then sequence (step k.around s) (while_begun j (test k.around) (step k.around)) else
            answer.Value Normal s)
            (hx.gives (e + 2) c free (has_before k (hy.grows (e + 2) middle) full) s st h
            (is_zero ∷ instr.BrIf 1 ∷ (body ++ instr.Br 0 ∷ [])) stack)
            (λ v is s' st' h'.
            subst (λ (r : Effect). Ends k function (suc label) stack (leaves 0 stack) (turned label code stack j r)
            (if is_true v then sequence (step k.around s') (while_begun j (test k.around) (step k.around)) else
            answer.Value Normal s'))
            (sym (tested v is 1 (body ++ instr.Br 0 ∷ []) st' stack))
            (by (λ s'' st'' h''. while_turns j s'' st'' h'') s' st' h' (is_true v)))
          where
            by : ((s : Source) (st : Target) → Stands k s st
                → Ends k function (suc label) stack (leaves 0 stack) (turns j (runs k code) st stack)
                (while_begun j (test k.around) (step k.around) s))
                → (s : Source) (st : Target) → Stands k s st → (b : Bool)
                → Ends k function (suc label) stack (leaves 0 stack)
                (turned label code stack j (then_run
                (if truth (not b) == 0 then FellThrough st stack else Branched 1 st stack)
                (runs k (body ++ instr.Br 0 ∷ []))))
                (if b then sequence (step k.around s) (while_begun j (test k.around) (step k.around)) else answer.Value
                Normal s)
            by next s st h true =
                body_turned label code stack j (runs k (body ++ instr.Br 0 ∷ []) st stack) (step k.around s)
                (while_begun j (test k.around) (step k.around)) (body_goes s st h) next
            by next s st h false = record { st = st; stands = h; run = refl }

      pub while_executes : Executes k function (within 2 block_loop while_coded)
          (λ a s. while_begun k.turns (test a) (step a) s)
      while_executes = record {
        grows = λ e c. grows_more (hx.grows (e + 2) c) (hy.grows (e + 2) (x (inside k (e + 2)) c).1);
        goes = λ e c free full s st h rest stack.
            let body_code : List Instr = code e e (omega arith) c free full stack in
            let path : runs k (instr.Block None (instr.Loop None body_code ∷ []) ∷ rest) st stack
            ≡ out_loop e rest stack (turns k.turns (runs k body_code) st stack) =
            block_runs k.modules k.fixed k.turns (calls k) k.own rest st None (instr.Loop None body_code ∷ []) stack
            ∙ ap (λ (r : Effect). then_run (out_of 0 (length stack) r) (runs k rest))
            (loop_runs k.modules k.fixed k.turns (calls k) k.own [] st None body_code stack)
            in
            subst (λ (r : Effect). Ends k function e stack (λ st. runs k rest st stack) r
            (while_begun k.turns (test k.around) (step k.around) s)) (sym path)
            (after_loop e rest stack (turns k.turns (runs k body_code) st stack)
            (while_begun k.turns (test k.around) (step k.around) s)
            (while_turns e e (omega arith) c free full stack k.turns s st h));
      }

  -- ---- REPEAT

  module _ (exit : ℕ) (code : List Instr) (stack : List Value) where
    abbrev again : ℕ → Effect → Effect
    again j r = turn (length stack) r (turns j (runs k code))

    abbrev falls : Target → Effect
    falls st = FellThrough st stack

    -- the body, and the condition behind it
    body_again : (j : ℕ) (after : List Instr) (r : Effect) (o : Outcome) (next : Source → Outcome)
        → Ends k function (suc exit) stack (λ st. runs k after st stack) r o
        → ((s : Source) (st : Target) → Stands k s st
        → Ends k function exit stack falls (again j (runs k after st stack)) (next s))
        → Ends k function exit stack falls (again j r) (sequence o next)
    body_again j after r (answer.Value Normal s) next p h =
        subst (λ (e : Effect). Ends k function exit stack falls (again j e) (next s)) (sym p.run) (h s p.st p.stands)
    body_again j after r (answer.Value Exited s) next p h =
        record { st = p.st; stands = p.stands; run = ap (again j) p.run }
    body_again j after r (answer.Value (Returned v) s) next p h =
        record { below = p.below; st = p.st; stands = p.stands; run = ap (again j) p.run }
    body_again j after r (Ended i out) next p h = ap (again j) p
    body_again j after r (answer.StillRunning out) next p h = ap (again j) p

    test_again : (j : ℕ) (after : List Instr) (r : Effect) (a : Answer ℤ) (next : ℤ → Source → Outcome)
        → Into (GivesNumber k boolean (runs k after) stack) r a
        → ((v : ℤ) → IsValue k.setting.home.types boolean v → (s : Source) (st : Target) → Stands k s st
        → Ends k function exit stack falls (again j (runs k after st (stack ++ I64 (word v) ∷ []))) (next v s))
        → Ends k function exit stack falls (again j r) (a ▷ next)
    test_again j after r (answer.Value v s) next p h =
        subst (λ (e : Effect). Ends k function exit stack falls (again j e) (next v s)) (sym p.run)
        (h v p.is s p.st p.stands)
    test_again j after r (Ended i out) next p h = ap (again j) p
    test_again j after r (answer.StillRunning out) next p h = ap (again j) p

  fallen : (exit : ℕ) (rest : List Instr) (stack : List Value) (r : Effect) (o : Outcome)
      → Ends k function exit stack (λ st. FellThrough st stack) r o
      → Ends k function exit stack (λ st. runs k rest st stack) (then_run r (runs k rest)) o
  fallen exit rest stack r (answer.Value Normal s) p =
      record { st = p.st; stands = p.stands; run = ap (λ (e : Effect). then_run e (runs k rest)) p.run }
  fallen exit rest stack r (answer.Value Exited s) p =
      record { st = p.st; stands = p.stands; run = ap (λ (e : Effect). then_run e (runs k rest)) p.run }
  fallen exit rest stack r (answer.Value (Returned v) s) p =
      record {
        below = p.below;
        st = p.st;
        stands = p.stands;
        run =
            ap (λ (e : Effect). then_run e (runs k rest)) p.run;
      }
  fallen exit rest stack r (Ended i out) p = ap (λ (e : Effect). then_run e (runs k rest)) p
  fallen exit rest stack r (answer.StillRunning out) p = ap (λ (e : Effect). then_run e (runs k rest)) p

  module _ (x y : Coded) (test : Gives ℤ) (step : Does) (hx : Agrees k boolean x test) (hy : Executes k function y step)
    where
      abbrev repeat_coded : Coded
      repeat_coded = y ⨾ x ⨾ plain (is_zero ∷ instr.BrIf 0 ∷ [])

      module _ (e label : ℕ) (same : e + 1 ≡ suc label) (c : Counts) (free : IsFree k c)
          (full : HasLocals k (x (inside k (e + 1)) (y (inside k (e + 1)) c).1).1) (stack : List Value) where
        abbrev repeated : List Instr
        repeated = (y (inside k (e + 1)) c).0

        abbrev until : List Instr
        until = (x (inside k (e + 1)) (y (inside k (e + 1)) c).1).0 ++ (is_zero ∷ instr.BrIf 0 ∷ [])

        abbrev until_code : List Instr
        until_code = repeated ++ until

        until_turns : (j : ℕ) (s : Source) (st : Target) → Stands k s st
            → Ends k function label stack (λ st. FellThrough st stack) (turns j (runs k until_code) st stack)
            (until_true j (step k.around) (test k.around) s)
        until_turns zero s st h = ap StillRunning h.out
        until_turns (suc j) s st h =
            body_again label until_code stack j until (runs k until_code st stack) (step k.around s)
            (λ s. test k.around s ▷ λ v s. if is_true v then answer.Value Normal s else until_true j (step k.around)
            (test k.around) s)
            (subst (λ (l : ℕ). Ends k function l stack (λ st. runs k until st stack) (runs k until_code st stack)
            (step k.around s)) same
            (hy.goes (e + 1) c free (has_before k (hx.grows (e + 1) (y (inside k (e + 1)) c).1) full) s st h until
            stack))
            (λ s' st' h'.
            test_again label until_code stack j (is_zero ∷ instr.BrIf 0 ∷ []) (runs k until st' stack)
            (test k.around s')
            (λ v s. if is_true v then answer.Value Normal s else until_true j (step k.around) (test k.around) s)
            (hx.gives (e + 1) (y (inside k (e + 1)) c).1 (free_after k (hy.grows (e + 1) c) free) full s' st' h'
            (is_zero ∷ instr.BrIf 0 ∷ []) stack)
            (λ v is s'' st'' h''.
            subst (λ (r : Effect). Ends k function label stack (λ st. FellThrough st stack)
            (again label until_code stack j r) (if is_true v then answer.Value Normal s'' else until_true j
            (step k.around) (test k.around) s''))
            (sym (tested v is 0 [] st'' stack)) (by (λ s st h. until_turns j s st h) s'' st'' h'' (is_true v))))
          where
            by : ((s : Source) (st : Target) → Stands k s st
                → Ends k function label stack (λ st. FellThrough st stack) (turns j (runs k until_code) st stack)
                (until_true j (step k.around) (test k.around) s))
                → (s : Source) (st : Target) → Stands k s st → (b : Bool)
                → Ends k function label stack (λ st. FellThrough st stack)
                (again label until_code stack j (then_run
                (if truth (not b) == 0 then FellThrough st stack else Branched 0 st stack) (runs k [])))
                (if b then answer.Value Normal s else until_true j (step k.around) (test k.around) s)
            by next s st h true = record { st = st; stands = h; run = refl }
            by next s st h false =
                subst (λ (r : Effect). Ends k function label stack (λ st. FellThrough st stack) r
                (until_true j (step k.around) (test k.around) s))
                (sym (label_here st stack (turns j (runs k until_code)))) (next s st h)

      pub repeat_executes : Executes k function (within 1 loop repeat_coded)
          (λ a s. until_true k.turns (step a) (test a) s)
      repeat_executes = record {
        grows = λ e c. grows_more (hy.grows (e + 1) c) (hx.grows (e + 1) (y (inside k (e + 1)) c).1);
        goes = λ e c free full s st h rest stack.
            let body_code : List Instr = until_code e e (omega arith) c free full stack in
            subst (λ (r : Effect). Ends k function e stack (λ st. runs k rest st stack) r
            (until_true k.turns (step k.around) (test k.around) s))
            (sym (loop_runs k.modules k.fixed k.turns (calls k) k.own rest st None body_code stack))
            (fallen e rest stack (turns k.turns (runs k body_code) st stack)
            (until_true k.turns (step k.around) (test k.around) s)
            (until_turns e e (omega arith) c free full stack k.turns s st h));
      }

  -- ---- LOOP

  module _ (y : Coded) (step : Does) (hy : Executes k function y step) where
    abbrev loop_coded : Coded
    loop_coded = y ⨾ plain (instr.Br 0 ∷ [])

    module _ (exit : ℕ) (c : Counts) (free : IsFree k c) (full : HasLocals k (y (inside k 1) c).1) (stack : List Value)
      where
        abbrev loop_code : List Instr
        loop_code = (y (inside k 1) c).0 ++ instr.Br 0 ∷ []

        -- EXIT leaves the block around the loop
        body_loops : (j : ℕ) (r : Effect) (o : Outcome) (next : Source → Outcome)
            → Ends k function 1 stack (λ st. runs k (instr.Br 0 ∷ []) st stack) r o
            → ((s : Source) (st : Target) → Stands k s st
            → Ends k function (suc exit) stack (leaves 0 stack) (turns j (runs k loop_code) st stack) (next s))
            → Ends k function (suc exit) stack (leaves 0 stack) (again exit loop_code stack j r) (loop_left o next)
        body_loops j r (answer.Value Normal s) next p h =
            subst (λ (e : Effect). Ends k function (suc exit) stack (leaves 0 stack) e (next s))
            (sym (ap (again exit loop_code stack j)
            (p.run ∙ br_runs k.modules k.fixed k.turns (calls k) k.own [] p.st 0 stack)
            ∙ label_here p.st stack (turns j (runs k loop_code)))) (h s p.st p.stands)
        body_loops j r (answer.Value Exited s) next p h =
            record { st = p.st; stands = p.stands; run = ap (again exit loop_code stack j) p.run }
        body_loops j r (answer.Value (Returned v) s) next p h =
            record { below = p.below; st = p.st; stands = p.stands; run = ap (again exit loop_code stack j) p.run }
        body_loops j r (Ended i out) next p h = ap (again exit loop_code stack j) p
        body_loops j r (answer.StillRunning out) next p h = ap (again exit loop_code stack j) p

        loop_turns : (j : ℕ) (s : Source) (st : Target) → Stands k s st
            → Ends k function (suc exit) stack (leaves 0 stack) (turns j (runs k loop_code) st stack)
            (loop_outcome j (step k.around) s)
        loop_turns zero s st h = ap StillRunning h.out
        loop_turns (suc j) s st h =
            body_loops j (runs k loop_code st stack) (step k.around s) (loop_outcome j (step k.around))
            (hy.goes 1 c free full s st h (instr.Br 0 ∷ []) stack) (λ s' st' h'. loop_turns j s' st' h')

    pub loop_executes : Executes k function (leaving 1 block_loop loop_coded) (λ a s. loop_outcome k.turns (step a) s)
    loop_executes = record {
      grows = λ e c. hy.grows 1 c;
      goes = λ e c free full s st h rest stack.
          let body_code : List Instr = loop_code e c free full stack in
          let path : runs k (instr.Block None (instr.Loop None body_code ∷ []) ∷ rest) st stack
          ≡ out_loop e rest stack (turns k.turns (runs k body_code) st stack) =
          block_runs k.modules k.fixed k.turns (calls k) k.own rest st None (instr.Loop None body_code ∷ []) stack
          ∙ ap (λ (r : Effect). then_run (out_of 0 (length stack) r) (runs k rest))
          (loop_runs k.modules k.fixed k.turns (calls k) k.own [] st None body_code stack)
          in
          subst (λ (r : Effect). Ends k function e stack (λ st. runs k rest st stack) r
          (loop_outcome k.turns (step k.around) s)) (sym path)
          (after_loop e rest stack (turns k.turns (runs k body_code) st stack) (loop_outcome k.turns (step k.around) s)
          (loop_turns e c free full stack k.turns s st h));
    }
