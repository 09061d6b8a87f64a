-- CASE by a chain of tests: the value is kept, and the first arm with a label for it runs.
use Rattle.std.proofs.Common.{◌≡◌, ℕ, suc, ◌+◌, ◌-◌, ◌%◌, ◌<◌, ◌^◌, ℤ, pos, negsuc, ◌-ℤ◌, ◌≤ℤ◌, ◌<ℤ◌, ◌⊎◌, Bool, true, false, List, [], ◌∷◌, ◌++◌, map, length, Some, None, if◌then◌else◌, refl, sym, ap, subst, ◌∙◌, arith}
use Rattle.std.specs.Prelude.{◌==◌, ◌||◌, nat_le, slice_set}
use Rattle.std.specs.List.{list_any}
use Rattle.std.proofs.lemmas.Int.{ints}
use Rattle.std.proofs.lemmas.Bool.{le-leb, lt-leb}
use Rattle.wasm_tree.specs.declared.instr.Instr.{Instr}
use Rattle.wasm_tree.specs.declared.instr.Instr.TheVariants as instr
use Rattle.wasm_tree.specs.declared.instr.Operation.TheVariants.{Sub}
use Rattle.wasm_tree.specs.declared.instr.Relation.TheVariants.{LeU}
use Rattle.wasm_tree.specs.declared.store.Value.{Value}
use Rattle.wasm_tree.specs.declared.store.Value.TheVariants.{I64}
use Rattle.wasm_tree.specs.Numbers.{truth}
use Rattle.law_effect.specs.Effect.{State as Target, Effect, FellThrough, Branched, then_run, out_of}
use Rattle.law_effect.proofs.Steps.{get_runs, i64_runs, block_runs, br_runs, br_if_runs}
use Rattle.typed_tree.specs.declared.statement.Label.{Label}
use Rattle.typed_tree.specs.declared.types.TypeNo.{TypeNo}
use Rattle.def_meaning.specs.Answer.{State as Source, Ended, StillRunning, ◌▷◌}
use Rattle.def_meaning.specs.Outcome.{Outcome, Normal, Exited, Returned}
use Rattle.def_meaning.specs.Answer as answer
use Rattle.def_meaning.specs.Operators.{is_between}
use Rattle.def_meaning.specs.Expressions.{Gives}
use Rattle.def_meaning.specs.Statements as meaning
use Rattle.def_meaning.specs.Statements.{Does, is_labelled, choose_arm}
use Rattle.def_scheme.specs.Coded.{Coded, Counts, plain, ◌⨾◌, all_coded, with_number, number_local, number, operation, relation}
use Rattle.def_scheme.specs.Steps as code
use Rattle.def_scheme.specs.Steps.{label_code, tests_code, arm_code, chain_code}
use Rattle.law_simulation.specs.Scene.{Scene, calls, runs, HasHelpers, AreSmall, IsLabel, AreLabels, word, Stands, keeping, Grows, IsGrowing, IsFree, HasLocals, inside, Agrees, Ends, Executes}
use Rattle.law_simulation.specs.Laws.{AreArms, no_arms, more_arms}
use Rattle.law_simulation.proofs.Parts.{grows_more, has_before, free_after}
use Rattle.law_simulation.proofs.Operators.{IsNarrow, narrow, between_in, operation_runs}
use Rattle.law_simulation.proofs.Relations.{relation_runs}
use Rattle.law_simulation.proofs.Loops.{label_here}
use Rattle.law_simulation.proofs.Statements.{through_block, alone, with_executes}
use Rattle.law_simulation.proofs.Locals.{set_keeps, set_runs_here, free_beside, has_beside, helpers_beside}
use Rattle.law_simulation.proofs.Kept.{ends_forgets}
use Rattle.law_simulation.proofs.Changes.{kept_itself}

-- ---- labels

outside : (low v high : ℤ) → is_between low v high ≡ false → (v <ℤ low) ⊎ (high <ℤ v)
outside low v high e = grind (arith, e)

label_is : (low v high : ℤ) → IsNarrow v → negsuc 2147483647 ≤ℤ low → low ≤ℤ high → high ≤ℤ pos 4294967295
    → nat_le ((word v + (2 ^ 64 - word low)) % 2 ^ 64) (word (high -ℤ low)) ≡ is_between low v high
label_is low v high hv l order h = by (is_between low v high) refl
  where
    by : (b : Bool) → is_between low v high ≡ b
        → nat_le ((word v + (2 ^ 64 - word low)) % 2 ^ 64) (word (high -ℤ low)) ≡ b
    by true e = let p = between_in low high v e in let a = p.0 in let b = p.1 in
        le-leb ((word v + (2 ^ 64 - word low)) % 2 ^ 64) (word (high -ℤ low)) (omega (arith, ints, a, b, l, h))
    by false e = let p = outside low v high e in let c = hv.low in let d = hv.high in
        lt-leb ((word v + (2 ^ 64 - word low)) % 2 ^ 64) (word (high -ℤ low))
        (omega (arith, ints, p, c, d, l, order, h))

module _ (k : Scene) (has : HasHelpers k) (small : AreSmall k.setting.home.types) (function : Bool) (n : ℕ) (v : ℤ)
    (hv : IsNarrow v) (kept : k.kept n ≡ Some (I64 (word v))) where
  label_runs : (x : Label) → IsLabel x → (rest : List Instr) (s : Source) (st : Target) → Stands k s st
      → (stack : List Value)
      → runs k (label_code n x ++ rest) st stack
      ≡ then_run (if truth (is_labelled v x) == 0 then FellThrough st stack else Branched 0 st stack) (runs k rest)
  label_runs x hx rest s st h stack =
      let low : ℕ = word x.low in
      let span : ℕ = word (x.high -ℤ x.low) in
      let from : ℕ = (word v + (2 ^ 64 - low)) % 2 ^ 64 in
      let r1 : List Instr = relation LeU ∷ instr.BrIf 0 ∷ rest in
      get_runs k.modules k.fixed k.turns (calls k) k.own (number x.low ∷ operation Sub ∷ number (x.high -ℤ x.low) ∷ r1)
      st n (I64 (word v)) stack (h.kept n (I64 (word v)) kept)
      ∙ i64_runs k.modules k.fixed k.turns (calls k) k.own (operation Sub ∷ number (x.high -ℤ x.low) ∷ r1) st low
      (stack ++ I64 (word v) ∷ [])
      ∙ operation_runs k has small Sub (word v) low from (number (x.high -ℤ x.low) ∷ r1) st stack refl
      ∙ i64_runs k.modules k.fixed k.turns (calls k) k.own r1 st span (stack ++ I64 from ∷ [])
      ∙ relation_runs k has small LeU from span (instr.BrIf 0 ∷ rest) st stack
      ∙ br_if_runs k.modules k.fixed k.turns (calls k) k.own rest st 0 (truth (nat_le from span)) stack
      ∙ ap (λ (b : Bool). then_run (if truth b == 0 then FellThrough st stack else Branched 0 st stack) (runs k rest))
      (label_is x.low v x.high hv hx.low hx.order hx.high)

  -- the tests of an arm branch to it, or past it
  tests_run : (xs : List Label) → AreLabels xs → (s : Source) (st : Target) → Stands k s st → (stack : List Value)
      → runs k (tests_code n xs) st stack ≡ Branched (if list_any (is_labelled v) xs then 0 else 1) st stack
  tests_run [] hx s st h stack = br_runs k.modules k.fixed k.turns (calls k) k.own [] st 1 stack
  tests_run (x ∷ xs) hx s st h stack = label_runs x hx.0 (tests_code n xs) s st h stack
      ∙ by (is_labelled v x) (tests_run xs hx.1 s st h stack)
    where
      by : (b : Bool) → runs k (tests_code n xs) st stack
          ≡ Branched (if list_any (is_labelled v) xs then 0 else 1) st stack
          → then_run (if truth b == 0 then FellThrough st stack else Branched 0 st stack) (runs k (tests_code n xs))
          ≡ Branched (if b || list_any (is_labelled v) xs then 0 else 1) st stack
      by true rest = refl
      by false rest = rest

  -- ---- arms

  module _ (label inner : ℕ) (same : inner ≡ suc label) (rest : List Instr) (stack : List Value) (otherwise : Coded)
      (other : Does) (ho : Executes k function otherwise other) where
    abbrev out_block : Effect → Effect
    out_block r = then_run (out_of 0 (length stack) r) (runs k rest)

    abbrev Chosen : Effect → Outcome → Type 0
    Chosen r o = Ends k function label stack (λ st. runs k rest st stack) (out_block r) o

    abbrev arms_code : List code.Arm → Coded
    arms_code xs = all_coded (map (arm_code n) xs) ⨾ otherwise

    -- out of the block of an arm, behind which there is other code
    abbrev arm_left : List Instr → Effect → Effect
    arm_left others r = then_run (out_of 0 (length stack) r) (runs k others)

    -- an arm ends by a branch out of the block around all
    arm_ends : (others : List Instr) (r : Effect) (o : Outcome)
        → Ends k function (suc (suc label)) stack (λ st. runs k (instr.Br 1 ∷ []) st stack) r o
        → Chosen (arm_left others r) o
    arm_ends others r (answer.Value Normal s) p = record {
      st = p.st;
      stands = p.stands;
      run =
          ap (λ (r : Effect). out_block (arm_left others r))
          (p.run ∙ br_runs k.modules k.fixed k.turns (calls k) k.own [] p.st 1 stack)
          ∙ ap (λ (e : Effect). then_run e (runs k rest)) (label_here p.st stack FellThrough);
    }
    arm_ends others r (answer.Value Exited s) p =
        record { st = p.st; stands = p.stands; run = ap (λ (r : Effect). out_block (arm_left others r)) p.run }
    arm_ends others r (answer.Value (Returned w) s) p =
        record {
          below = p.below;
          st = p.st;
          stands = p.stands;
          run =
              ap (λ (r : Effect). out_block (arm_left others r)) p.run;
        }
    arm_ends others r (Ended i out) p = ap (λ (r : Effect). out_block (arm_left others r)) p
    arm_ends others r (StillRunning out) p = ap (λ (r : Effect). out_block (arm_left others r)) p

    arms_grow : (xs : List code.Arm) (ys : List meaning.Arm) → AreArms k function xs ys → (c : Counts)
        → Grows c (arms_code xs (inside k inner) c).1
    arms_grow [] [] no_arms c = ho.grows inner c
    arms_grow _ _ (more_arms labels x xs d ys hl hx hs) c =
        grows_more (hx.grows (inner + 1) c) (arms_grow xs ys hs (x (inside k (inner + 1)) c).1)

    arms_go : (xs : List code.Arm) (ys : List meaning.Arm) → AreArms k function xs ys → (c : Counts) → IsFree k c
        → HasLocals k (arms_code xs (inside k inner) c).1 → (s : Source) (st : Target) → Stands k s st
        → Chosen (runs k (arms_code xs (inside k inner) c).0 st stack) (choose_arm v ys other k.around s)
    arms_go [] [] no_arms c free full s st h =
        through_block k function label rest stack (runs k (otherwise (inside k inner) c).0 st stack) (other k.around s)
        (subst (λ (x : ℕ). Ends k function x stack (λ st. FellThrough st stack)
        (runs k (otherwise (inside k inner) c).0 st stack) (other k.around s)) same
        (alone k function otherwise other ho inner c free full s st h stack))
    arms_go _ _ (more_arms labels x xs d ys hl hx hs) c free full s st h =
        let first = x (inside k (inner + 1)) c in
        let others : List Instr = (arms_code xs (inside k inner) first.1).0 in
        let after : List Instr = first.0 ++ instr.Br 1 ∷ [] in
        let tests : List Instr = tests_code n labels in
        let path : runs k (instr.Block None (instr.Block None tests ∷ after) ∷ others) st stack
        ≡ arm_left others (then_run (out_of 0 (length stack)
        (Branched (if list_any (is_labelled v) labels then 0 else 1) st stack)) (runs k after)) =
        block_runs k.modules k.fixed k.turns (calls k) k.own others st None (instr.Block None tests ∷ after) stack
        ∙ ap (arm_left others) (block_runs k.modules k.fixed k.turns (calls k) k.own after st None tests stack
        ∙ ap (λ (r : Effect). then_run (out_of 0 (length stack) r) (runs k after)) (tests_run labels hl s st h stack))
        in
        let here : Ends k function (suc (suc label)) stack (λ st. runs k (instr.Br 1 ∷ []) st stack)
        (runs k after st stack) (d k.around s) =
        subst (λ (e : ℕ). Ends k function e stack (λ st. runs k (instr.Br 1 ∷ []) st stack) (runs k after st stack)
        (d k.around s)) (omega (arith, same))
        (hx.goes (inner + 1) c free (has_before k (arms_grow xs ys hs first.1) full) s st h (instr.Br 1 ∷ []) stack)
        in
        let next : Chosen (runs k others st stack) (choose_arm v ys other k.around s) =
        arms_go xs ys hs first.1 (free_after k (hx.grows (inner + 1) c) free) full s st h in
        subst (λ (r : Effect). Chosen r ((if list_any (is_labelled v) labels then d else choose_arm v ys other) k.around
        s)) (sym path) (either others after d ys s st here next (list_any (is_labelled v) labels))
      where
        either : (others after : List Instr) (d : Does) (ys : List meaning.Arm) (s : Source) (st : Target)
            → Ends k function (suc (suc label)) stack (λ st. runs k (instr.Br 1 ∷ []) st stack) (runs k after st stack)
            (d k.around s) → Chosen (runs k others st stack) (choose_arm v ys other k.around s)
            → (b : Bool) → Chosen (arm_left others
            (then_run (out_of 0 (length stack) (Branched (if b then 0 else 1) st stack)) (runs k after)))
            ((if b then d else choose_arm v ys other) k.around s)
        either others after d ys s st here next true =
            subst (λ (r : Effect). Chosen (arm_left others (then_run r (runs k after))) (d k.around s))
            (sym (label_here st stack FellThrough)) (arm_ends others (runs k after st stack) (d k.around s) here)
        either others after d ys s st here next false =
            subst (λ (r : Effect). Chosen (then_run r (runs k others)) (choose_arm v ys other k.around s))
            (sym (label_here st stack FellThrough)) next

  pub chain_goes : (xs : List code.Arm) (ys : List meaning.Arm) (otherwise : Coded) (other : Does)
      → AreArms k function xs ys → Executes k function otherwise other
      → (e : ℕ) (c : Counts) → IsFree k c → HasLocals k (chain_code n xs otherwise (inside k e) c).1
      → (s : Source) (st : Target) → Stands k s st → (rest : List Instr) (stack : List Value)
      → Ends k function e stack (λ st. runs k rest st stack)
      (runs k ((chain_code n xs otherwise (inside k e) c).0 ++ rest) st stack) (choose_arm v ys other k.around s)
  chain_goes xs ys otherwise other hs ho e c free full s st h rest stack =
      let list : List Instr = ((all_coded (map (arm_code n) xs) ⨾ otherwise) (inside k (e + 1)) c).0 in
      subst (λ (r : Effect). Ends k function e stack (λ st. runs k rest st stack) r (choose_arm v ys other k.around s))
      (sym (block_runs k.modules k.fixed k.turns (calls k) k.own rest st None list stack))
      (arms_go e (e + 1) (omega arith) rest stack otherwise other ho xs ys hs c free full s st h)

module _ (k : Scene) (has : HasHelpers k) (small : AreSmall k.setting.home.types) (function : Bool) (xs : List code.Arm)
    (ys : List meaning.Arm) (otherwise : Coded) (other : Does)
    (growing : (n : ℕ) → IsGrowing k (chain_code n xs otherwise))
    (arms : (n : ℕ) (v : Value) → k.kept n ≡ None → AreArms (keeping k n v) function xs ys)
    (ho : (n : ℕ) (v : Value) → k.kept n ≡ None → Executes (keeping k n v) function otherwise other) where
  abbrev kept_chain : Coded
  kept_chain = with_number (λ n. plain (instr.LocalSet n ∷ []) ⨾ chain_code n xs otherwise)

  pub case_executes : (t : TypeNo) (x : Coded) (value : Gives ℤ) → Agrees k t x value
      → Executes k function (x ⨾ kept_chain) (λ a s. value a s ▷ λ v s. choose_arm v ys other a s)
  case_executes t x value hx = with_executes k function t x kept_chain value (λ v a s. choose_arm v ys other a s) hx
      (record {
        grows = λ e c.
            let g = growing (number_local k.setting c.numbers) e (record c { numbers = suc c.numbers }) in
            record { numbers = omega (arith, g.numbers); addresses = omega (arith, g.addresses) };
        goes = λ e c free full v is s st h rest stack.
            let n : ℕ = number_local k.setting c.numbers in
            let after : Counts = record c { numbers = suc c.numbers } in
            let inner = chain_code n xs otherwise (inside k e) after in
            let kept_value : Value = I64 (word v) in
            let new : k.kept n ≡ None = free.numbers n (omega arith) in
            let g = growing n e after in
            let less : n < k.locals = omega (arith, g.numbers, full.numbers) in
            let set : Target = record st { locals = slice_set st.locals n kept_value } in
            subst (λ (r : Effect). Ends k function e stack (λ st. runs k rest st stack) r
            (choose_arm v ys other k.around s)) (sym (set_runs_here k n kept_value (inner.0 ++ rest) s st stack less h))
            (ends_forgets k function n kept_value new e stack (λ st. runs k rest st stack)
            (runs k (inner.0 ++ rest) set stack) (choose_arm v ys other k.around s)
            (chain_goes (keeping k n kept_value) (helpers_beside k n kept_value has) small function n v
            (narrow k has small t v is) (kept_itself k n kept_value) xs ys otherwise other (arms n kept_value new)
            (ho n kept_value new) e after
            (free_beside k n kept_value c refl free) (has_beside k n kept_value inner.1 full) s set
            (set_keeps k n kept_value new less s st h) rest stack));
      })
