-- CASE by a table: the value is kept, tested against the span of the labels, and leads to its arm.
use Rattle.std.proofs.Common.{◌≡◌, ℕ, suc, ◌+◌, ◌-◌, ◌*◌, ◌%◌, ◌<◌, ◌≤◌, ◌^◌, ℤ, pos, ◌-ℤ◌, ◌+ℤ◌, ◌≤ℤ◌, ◌<ℤ◌, ◌⊎◌, inl, inr, Bool, true, false, List, [], ◌∷◌, ◌++◌, length, Some, None, if◌then◌else◌, refl, sym, ap, subst, ◌∙◌, arith}
use Rattle.std.specs.Prelude.{◌==◌, ◌&&◌, nat_le, nat_lt, slice_set, slice_index_or, unsigned_abs}
use Rattle.std.proofs.lemmas.Int.{ints}
use Rattle.std.proofs.lemmas.Bool.{lt-ltb, le-ltb, leb-true}
use Rattle.wasm_tree.specs.declared.instr.Instr.{Instr}
use Rattle.wasm_tree.specs.declared.instr.Instr.TheVariants as instr
use Rattle.wasm_tree.specs.declared.instr.Operation.TheVariants.{Sub}
use Rattle.wasm_tree.specs.declared.instr.Relation.TheVariants.{GtU}
use Rattle.wasm_tree.specs.declared.store.Value.{Value}
use Rattle.wasm_tree.specs.declared.store.Value.TheVariants.{I64}
use Rattle.wasm_tree.specs.Numbers.{truth}
use Rattle.law_effect.specs.Effect.{State as Target, Effect, FellThrough, Branched, then_run}
use Rattle.law_effect.proofs.Steps.{get_runs, i64_runs, br_if_runs, br_table_runs}
use Rattle.typed_tree.specs.declared.statement.Label.{Label}
use Rattle.typed_tree.specs.declared.types.TypeNo.{TypeNo}
use Rattle.def_meaning.specs.Answer.{State as Source, ◌▷◌}
use Rattle.def_meaning.specs.Operators.{is_between}
use Rattle.def_meaning.specs.Expressions.{Gives}
use Rattle.def_meaning.specs.Statements as meaning
use Rattle.def_meaning.specs.Statements.{Does, choose_arm}
use Rattle.def_scheme.specs.Coded.{Coded, Counts, plain, ◌⨾◌, with_number, number_local, number, operation, relation, wrap_word}
use Rattle.def_scheme.specs.Steps as code
use Rattle.def_scheme.specs.Steps.{all_labels, least_of, greatest_of, span_of, is_dense, target, targets, from_least, dispatch, table_code, chain_code, all_values}
use Rattle.law_simulation.specs.Scene.{Scene, calls, runs, HasHelpers, AreSmall, AreLabels, word, Stands, keeping, IsGrowing, inside, Agrees, Ends, Executes}
use Rattle.law_simulation.specs.Laws.{AreArms, no_arms, more_arms}
use Rattle.law_simulation.proofs.Operators.{IsNarrow, narrow, between_in, operation_runs}
use Rattle.law_simulation.proofs.Relations.{relation_runs, wrapped_runs}
use Rattle.law_simulation.proofs.Statements.{with_executes}
use Rattle.law_simulation.proofs.Locals.{set_keeps, set_runs_here, free_beside, has_beside, helpers_beside}
use Rattle.law_simulation.proofs.Kept.{ends_forgets}
use Rattle.law_simulation.proofs.Changes.{kept_itself}
use Rattle.law_simulation.specs.TablesLaws.{TableCases}
use Rattle.law_simulation.proofs.Targets.{IsSpan, labels_span, target_below, target_above, target_at}
use Rattle.law_simulation.proofs.Jumps.{table_goes}

-- ---- the labels of all arms

append_labels : (xs ys : List Label) → AreLabels xs → AreLabels ys → AreLabels (xs ++ ys)
append_labels [] ys h g = g
append_labels (x ∷ xs) ys h g = (h.0, append_labels xs ys h.1 g)

arms_labels : (k : Scene) (function : Bool) (xs : List code.Arm) (ys : List meaning.Arm) → AreArms k function xs ys
    → AreLabels (all_labels xs)
arms_labels k function [] [] no_arms = tt
arms_labels k function _ _ (more_arms labels x xs d ys hl hx hs) =
    append_labels labels (all_labels xs) hl (arms_labels k function xs ys hs)

-- ---- the distance of a value from the least label

abbrev from : (low v : ℤ) → ℕ
from low v = (word v + (2 ^ 64 - word low)) % 2 ^ 64

outside : (low v high : ℤ) → is_between low v high ≡ false → (v <ℤ low) ⊎ (high <ℤ v)
outside low v high e = grind (arith, e)

module _ (low high v : ℤ) (span : IsSpan low high) (hv : IsNarrow v) where
  far_below : v <ℤ low → unsigned_abs (high -ℤ low) < from low v
  far_below h = let a = span.low_small in let b = span.order in let c = span.high_small in let d = hv.low in
      let f = hv.high in omega (arith, ints, h)

  far_above : high <ℤ v → unsigned_abs (high -ℤ low) < from low v
  far_above h = let a = span.low_small in let b = span.order in let c = span.high_small in let d = hv.low in
      let f = hv.high in omega (arith, ints, h)

  near : low ≤ℤ v → v ≤ℤ high → from low v ≤ unsigned_abs (high -ℤ low)
  near h g = let a = span.low_small in let b = span.order in let c = span.high_small in let d = hv.low in
      let f = hv.high in omega (arith, ints, h, g)

  -- the value is that far from the least label
  back_again : low ≤ℤ v → v ≤ℤ high → low +ℤ pos (from low v) ≡ v
  back_again h g = let a = span.low_small in let b = span.order in let c = span.high_small in let d = hv.low in
      let f = hv.high in omega (arith, ints, h, g)

and_second : (p q : Bool) → p && q ≡ true → q ≡ true
and_second true q e = e
and_second false q e = absurd (cc e)

and_first : (p q : Bool) → p && q ≡ true → p ≡ true
and_first true q e = refl
and_first false q e = absurd (cc e)

dense_span : (arms : ℕ) (ls : List Label) → is_dense arms ls ≡ true → span_of ls ≤ 1024
dense_span arms ls e =
    let a = and_second (nat_le arms 16) (nat_le 4 (all_values ls) &&
    (nat_le (span_of ls) 1024 && nat_le (span_of ls) (4 * all_values ls))) e in
    let b = and_second (nat_le 4 (all_values ls)) (nat_le (span_of ls) 1024 && nat_le (span_of ls) (4 * all_values ls))
    a in
    leb-true (span_of ls) 1024 (and_first (nat_le (span_of ls) 1024) (nat_le (span_of ls) (4 * all_values ls)) b)

-- ---- the jump

module _ (k : Scene) (has : HasHelpers k) (small : AreSmall k.setting.home.types) (function : Bool) (n : ℕ) (v : ℤ)
    (hv : IsNarrow v) (kept : k.kept n ≡ Some (I64 (word v))) where
  from_runs : (low : ℤ) (rest : List Instr) (s : Source) (st : Target) → Stands k s st → (stack : List Value)
      → runs k (from_least n low ++ rest) st stack ≡ runs k rest st (stack ++ I64 (from low v) ∷ [])
  from_runs low rest s st h stack =
      get_runs k.modules k.fixed k.turns (calls k) k.own (number low ∷ operation Sub ∷ rest) st n (I64 (word v)) stack
      (h.kept n (I64 (word v)) kept)
      ∙ i64_runs k.modules k.fixed k.turns (calls k) k.own (operation Sub ∷ rest) st (word low)
      (stack ++ I64 (word v) ∷ [])
      ∙ operation_runs k has small Sub (word v) (word low) (from low v) rest st stack refl

  module _ (xs : List code.Arm) (labels : AreLabels (all_labels xs))
      (dense : is_dense (length xs) (all_labels xs) ≡ true) where
    abbrev low : ℤ
    low = least_of (all_labels xs)

    abbrev high : ℤ
    high = greatest_of (all_labels xs)

    abbrev most : ℕ
    most = unsigned_abs (high -ℤ low)

    abbrev table : List ℕ
    table = targets xs low (suc most)

    abbrev jump : List Instr
    jump = from_least n low ++ (wrap_word ∷ instr.BrTable table (length xs) ∷ [])

    dispatch_runs : (s : Source) (st : Target) → Stands k s st → (stack : List Value)
        → runs k (dispatch n xs low (suc most)) st stack ≡ Branched (target xs v) st stack
    dispatch_runs s st h stack =
        ap (λ (last : ℕ). runs k (from_least n low
        ++ (instr.I64Const last ∷ relation GtU ∷ instr.BrIf (length xs) ∷ jump)) st stack) one_less
        ∙ from_runs low (instr.I64Const most ∷ relation GtU ∷ instr.BrIf (length xs) ∷ jump) s st h stack
        ∙ i64_runs k.modules k.fixed k.turns (calls k) k.own (relation GtU ∷ instr.BrIf (length xs) ∷ jump) st most
        (stack ++ I64 (from low v) ∷ [])
        ∙ relation_runs k has small GtU (from low v) most (instr.BrIf (length xs) ∷ jump) st stack
        ∙ br_if_runs k.modules k.fixed k.turns (calls k) k.own jump st (length xs) (truth (nat_lt most (from low v)))
        stack
        ∙ by (is_between low v high) refl
      where
        one_less : suc most - 1 ≡ most
        one_less = omega arith

        span : IsSpan low high
        span = labels_span (all_labels xs) labels

        away : most < from low v → target xs v ≡ length xs
            → then_run (if truth (nat_lt most (from low v)) ==
            0 then FellThrough st stack else Branched (length xs) st stack) (runs k jump)
            ≡ Branched (target xs v) st stack
        away far is =
            ap (λ (b : Bool). then_run (if truth b == 0 then FellThrough st stack else Branched (length xs) st stack)
            (runs k jump)) (lt-ltb most (from low v) far)
            ∙ ap (λ (j : ℕ). Branched j st stack) (sym is)

        by : (b : Bool) → is_between low v high ≡ b
            → then_run (if truth (nat_lt most (from low v)) ==
            0 then FellThrough st stack else Branched (length xs) st stack) (runs k jump)
            ≡ Branched (target xs v) st stack
        by true e =
            let p = between_in low high v e in
            let close : from low v ≤ most = near low high v span hv p.0 p.1 in
            let few : suc most ≤ 1024 = dense_span (length xs) (all_labels xs) dense in
            let whole : from low v % 2 ^ 32 ≡ from low v = omega (arith, close, few) in
            ap (λ (b : Bool). then_run (if truth b == 0 then FellThrough st stack else Branched (length xs) st stack)
            (runs k jump)) (le-ltb most (from low v) close)
            ∙ from_runs low (wrap_word ∷ instr.BrTable table (length xs) ∷ []) s st h stack
            ∙ wrapped_runs k has small (from low v) (instr.BrTable table (length xs) ∷ []) st stack
            ∙ br_table_runs k.modules k.fixed k.turns (calls k) k.own [] st table (length xs) (from low v % 2 ^ 32)
            stack
            ∙ ap (λ (j : ℕ). Branched (slice_index_or table j (length xs)) st stack) whole
            ∙ ap (λ (j : ℕ). Branched j st stack)
            (target_at xs low (suc most) (from low v) (length xs) (omega (arith, close))
            ∙ ap (target xs) (back_again low high v span hv p.0 p.1))
        by false e = elim (outside low v high e) [
          | inl less ↦ away (far_below low high v span hv less) (target_below v xs less)
          | inr more ↦ away (far_above low high v span hv more) (target_above v xs more)
        ]

-- ---- the value is kept

module _ (k : Scene) (has : HasHelpers k) (small : AreSmall k.setting.home.types) (function : Bool) (xs : List code.Arm)
    (ys : List meaning.Arm) (otherwise : Coded) (other : Does)
    (dense : is_dense (length xs) (all_labels xs) ≡ true) (growing : (n : ℕ) → IsGrowing k (table_code n xs otherwise))
    (arms : (n : ℕ) (v : Value) → k.kept n ≡ None → AreArms (keeping k n v) function xs ys)
    (ho : (n : ℕ) (v : Value) → k.kept n ≡ None → Executes (keeping k n v) function otherwise other) where
  abbrev kept_table : Coded
  kept_table = with_number (λ n. plain (instr.LocalSet n ∷ []) ⨾ table_code n xs otherwise)

  table_executes : (t : TypeNo) (x : Coded) (value : Gives ℤ) → Agrees k t x value
      → Executes k function (x ⨾ kept_table) (λ a s. value a s ▷ λ v s. choose_arm v ys other a s)
  table_executes t x value hx = with_executes k function t x kept_table value (λ v a s. choose_arm v ys other a s) hx
      (record {
        grows = λ e c.
            let g = growing (number_local k.setting c.numbers) e (record c { numbers = suc c.numbers }) in
            record { numbers = omega (arith, g.numbers); addresses = omega (arith, g.addresses) };
        goes = λ e c free full v is s st h rest stack.
            let n : ℕ = number_local k.setting c.numbers in
            let after : Counts = record c { numbers = suc c.numbers } in
            let inner = table_code n xs otherwise (inside k e) after in
            let kept_value : Value = I64 (word v) in
            let new : k.kept n ≡ None = free.numbers n (omega arith) in
            let g = growing n e after in
            let less : n < k.locals = omega (arith, g.numbers, full.numbers) in
            let set : Target = record st { locals = slice_set st.locals n kept_value } in
            let beside : Scene = keeping k n kept_value in
            let stands : Stands beside s set = set_keeps k n kept_value new less s st h in
            let are = arms n kept_value new in
            subst (λ (r : Effect). Ends k function e stack (λ st. runs k rest st stack) r
            (choose_arm v ys other k.around s)) (sym (set_runs_here k n kept_value (inner.0 ++ rest) s st stack less h))
            (ends_forgets k function n kept_value new e stack (λ st. runs k rest st stack)
            (runs k (inner.0 ++ rest) set stack) (choose_arm v ys other k.around s)
            (table_goes beside function e stack s set stands xs ys otherwise other are (ho n kept_value new) v
            (dispatch n xs (least_of (all_labels xs)) (span_of (all_labels xs))) after
            (free_beside k n kept_value c refl free) (has_beside k n kept_value inner.1 full)
            (dispatch_runs beside (helpers_beside k n kept_value has) small function n v (narrow k has small t v is)
            (kept_itself k n kept_value) xs (arms_labels beside function xs ys are) dense s set stands stack) rest));
      })

pub table_cases : TableCases
table_cases k set function x value xs ys otherwise other dense hx growing arms ho =
    subst (λ (b : Bool). Executes k function
    (x.code ⨾ with_number (λ n. plain (instr.LocalSet n ∷ []) ⨾
    (if b then table_code n xs otherwise else chain_code n xs otherwise)))
    (λ a s. value a s ▷ λ v s. choose_arm v ys other a s))
    (sym dense) (table_executes k set.helpers set.small function xs ys otherwise other dense growing arms ho x.of x.code
    value hx)
