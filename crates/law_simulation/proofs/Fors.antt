-- FOR: the limit is kept, the variable steps on where that does not pass the limit, and both sides have the same bound
-- on turns.
use Rattle.std.proofs.Common.{◌≡◌, ℕ, zero, suc, ◌+◌, ◌<◌, ◌^◌, ℤ, pos, ◌+ℤ◌, Bool, true, false, List, [], ◌∷◌, ◌++◌, length, Some, None, if◌then◌else◌, refl, sym, ap, subst, ◌∙◌, append_assoc, arith}
use Rattle.std.specs.Prelude.{◌==◌, int_lt, slice_set}
use Rattle.std.specs.Int.{w64}
use Rattle.std.proofs.lemmas.Int.{ints}
use Rattle.wasm_tree.specs.declared.instr.Instr.{Instr}
use Rattle.wasm_tree.specs.declared.instr.Instr.TheVariants as instr
use Rattle.wasm_tree.specs.declared.instr.Operation.TheVariants.{Add}
use Rattle.wasm_tree.specs.declared.instr.Relation.TheVariants.{LtS, GtS}
use Rattle.wasm_tree.specs.declared.store.Value.{Value}
use Rattle.wasm_tree.specs.declared.store.Value.TheVariants.{I32, I64}
use Rattle.wasm_tree.specs.Numbers.{truth, compares}
use Rattle.law_effect.specs.Effect.{State as Target, Effect, FellThrough, Branched, StillRunning, Does as Effects, then_run, out_of, turn, turns}
use Rattle.law_effect.proofs.Steps.{get_runs, i64_runs, block_runs, loop_runs, br_runs, br_if_runs}
use Rattle.typed_tree.specs.declared.types.TypeNo.{TypeNo}
use Rattle.typed_tree.specs.declared.known_types.Types.{Types}
use Rattle.typed_tree.specs.Known.{scalar_at}
use Rattle.layout_storage.specs.Types.{Scalar, Cell, row, component}
use Rattle.def_meaning.specs.Store.{Location}
use Rattle.def_meaning.specs.Answer.{State as Source, Answer, Ended, ◌▷◌}
use Rattle.def_meaning.specs.Outcome.{Outcome, Normal, Exited, Returned, sequence}
use Rattle.def_meaning.specs.Answer as answer
use Rattle.def_meaning.specs.Expressions.{Gives, as_type}
use Rattle.def_meaning.specs.Statements.{Does, has_passed, for_turns, for_all, store_number as stores}
use Rattle.def_scheme.specs.Coded.{Coded, Counts, Setting, plain, ◌⨾◌, within, with_number, with_setting, number_local, number, operation, relation}
use Rattle.def_scheme.specs.Cells.{load_code, store_code, in_type}
use Rattle.def_scheme.specs.Steps.{passes, block, loop, for_turn}
use Rattle.def_scheme.specs.Exprs.{behind}
use Rattle.law_simulation.specs.Scene.{Scene, calls, runs, place, HasHelpers, IsValue, AreSmall, IsCell, word, Stands, keeping, IsThere, Into, GivesNumber, IsGrowing, IsFree, HasLocals, inside, Agrees, Ends, Executes}
use Rattle.law_simulation.proofs.Words.{IsWide, less_is, sum_word}
use Rattle.law_simulation.proofs.Operators.{IsNarrow, wide, narrow, range_gives, operation_runs}
use Rattle.law_simulation.proofs.Relations.{relation_runs}
use Rattle.law_simulation.proofs.Places.{loaded_gives}
use Rattle.law_simulation.proofs.Stores.{stored_goes}
use Rattle.law_simulation.proofs.Parts.{has_before, free_after}
use Rattle.law_simulation.proofs.Locals.{set_keeps, forgets, set_runs_here, free_beside, has_beside, helpers_beside}
use Rattle.law_simulation.proofs.Statements.{ends_with}
use Rattle.law_simulation.proofs.Loops.{label_here, after_loop}
use Rattle.law_simulation.proofs.Kept.{ends_forgets}
use Rattle.law_simulation.proofs.Changes.{kept_itself}

-- a number that is compared with the limit
passes_is : (by v limit : ℤ) → IsWide v → IsWide limit
    → compares w64 (passes by) (word v) (word limit) ≡ has_passed by limit v
passes_is by v limit hv hl = either (int_lt by (pos 0))
  where
    either : (b : Bool) → compares w64 (if b then LtS else GtS) (word v) (word limit)
        ≡ (if b then int_lt v limit else int_lt limit v)
    either true = less_is v limit hv hl
    either false = less_is limit v hl hv

module _ (k : Scene) (has : HasHelpers k) (small : AreSmall k.setting.home.types) (room : k.limit < 2 ^ 32)
    (function : Bool) (t : TypeNo) (c : Scalar) (cell : IsCell k.setting.home.types t c)
    (some : scalar_at k.setting.home.types t ≡ None → ⊥) (l : Location)
    (type : component (row k.world) l ≡ Some (Cell c)) (by limit : ℤ) (hb : IsNarrow by) (hl : IsNarrow limit)
    (n : ℕ) (kept : k.kept n ≡ Some (I64 (word limit))) where
  -- code that leaves the address of the variable
  abbrev pub LeavesAddress : List Instr → Type 0
  LeavesAddress list = (s : Source) (st : Target) → Stands k s st → (rest : List Instr) (stack : List Value)
      → runs k (list ++ rest) st stack ≡ runs k rest st (stack ++ I32 (place k l) ∷ [])

  abbrev value_code : List Instr → List Instr
  value_code list = list ++ load_code k.setting.home.types t

  read_gives : (list : List Instr) → LeavesAddress list → (s : Source) (st : Target) → Stands k s st
      → (rest : List Instr) (stack : List Value)
      → GivesNumber k t (runs k rest) stack (s.store l) s (runs k (value_code list ++ rest) st stack)
  read_gives list at s st h rest stack =
      let p = loaded_gives k has small room t c cell l s st h type rest stack in
      record {
        st = p.st;
        stands = p.stands;
        is = p.is;
        run = ap (λ (c : List Instr). runs k c st stack) (append_assoc list (load_code k.setting.home.types t) rest)
            ∙ at s st h (load_code k.setting.home.types t ++ rest) stack ∙ p.run;
      }

  wide_step : (v : ℤ) → IsNarrow v → IsWide (v +ℤ by)
  wide_step v hv = let a = hv.low in let b = hv.high in let c = hb.low in let d = hb.high in
      record { low = omega (arith, ints); high = omega (arith, ints) }

  step_runs : (v : ℤ) → IsNarrow v → (rest : List Instr) (st : Target) (stack : List Value)
      → runs k (number by ∷ operation Add ∷ rest) st (stack ++ I64 (word v) ∷ [])
      ≡ runs k rest st (stack ++ I64 (word (v +ℤ by)) ∷ [])
  step_runs v hv rest st stack =
      i64_runs k.modules k.fixed k.turns (calls k) k.own (operation Add ∷ rest) st (word by)
      (stack ++ I64 (word v) ∷ [])
      ∙ operation_runs k has small Add (word v) (word by) (word (v +ℤ by)) rest st stack
      (ap Some (sum_word v by (wide v hv) (wide by hb) (wide_step v hv)))

  -- where the limit is passed a branch leaves
  passed_runs : (v : ℤ) → IsWide v → (label : ℕ) (rest : List Instr) (s : Source) (st : Target) → Stands k s st
      → (stack : List Value)
      → runs k (instr.LocalGet n ∷ relation (passes by) ∷ instr.BrIf label ∷ rest) st (stack ++ I64 (word v) ∷ [])
      ≡ then_run (if truth (has_passed by limit v) == 0 then FellThrough st stack else Branched label st stack)
      (runs k rest)
  passed_runs v hv label rest s st h stack =
      get_runs k.modules k.fixed k.turns (calls k) k.own (relation (passes by) ∷ instr.BrIf label ∷ rest) st n
      (I64 (word limit)) (stack ++ I64 (word v) ∷ []) (h.kept n (I64 (word limit)) kept)
      ∙ relation_runs k has small (passes by) (word v) (word limit) (instr.BrIf label ∷ rest) st stack
      ∙ br_if_runs k.modules k.fixed k.turns (calls k) k.own rest st label
      (truth (compares w64 (passes by) (word v) (word limit))) stack
      ∙ ap (λ (b : Bool). then_run (if truth b == 0 then FellThrough st stack else Branched label st stack)
      (runs k rest)) (passes_is by v limit hv (wide limit hl))

  abbrev leaves : (label : ℕ) → List Value → Target → Effect
  leaves label stack st = Branched label st stack

  abbrev stores_code : List Instr
  stores_code = store_code k.setting.home.types t ++ instr.Br 0 ∷ []

  abbrev next_code : List Instr → List Instr
  next_code list = list ++ (value_code list
      ++ (number by ∷ operation Add ∷ (in_type k.setting.home.types t 1 ++ stores_code)))

  abbrev turn_code : List Instr → List Instr
  turn_code list = value_code list ++ ((number by ∷ operation Add ∷ instr.LocalGet n ∷ relation (passes by)
      ∷ instr.BrIf 1 ∷ []) ++ next_code list)

  -- the next value, above the address
  next_gives : (list : List Instr) → LeavesAddress list → (s : Source) (st : Target) → Stands k s st
      → (stack : List Value)
      → Into (GivesNumber k t (runs k stores_code) (stack ++ I32 (place k l) ∷ [])) (runs k (next_code list) st stack)
      (as_type k.setting.home.types t (s.store l +ℤ by) s)
  next_gives list at s st h stack =
      let below : List Value = stack ++ I32 (place k l) ∷ [] in
      let checks : List Instr = in_type k.setting.home.types t 1 ++ stores_code in
      let after : List Instr = number by ∷ operation Add ∷ checks in
      let p = read_gives list at s st h after below in
      let hv = narrow k has small t (s.store l) p.is in
      let path : runs k (next_code list) st stack ≡ runs k checks p.st (below ++ I64 (word (s.store l +ℤ by)) ∷ []) =
      at s st h (value_code list ++ after) stack ∙ p.run ∙ step_runs (s.store l) hv checks p.st below in
      subst (λ (r : Effect). Into (GivesNumber k t (runs k stores_code) below) r
      (as_type k.setting.home.types t (s.store l +ℤ by) s)) (sym path)
      (range_gives k has small t (scalar_at k.setting.home.types t) refl 1 (omega arith) (omega arith) (s.store l +ℤ by)
      (wide_step (s.store l) hv) (λ e. absurd (some e)) s p.st p.stands stores_code below)

  module _ (list : List Instr) (at : LeavesAddress list) (y : Coded) (step : Does) (hy : Executes k function y step)
      (e inner label : ℕ) (same : inner ≡ suc (suc label)) (counts : Counts) (free : IsFree k counts)
      (full : HasLocals k (y (inside k inner) counts).1) (stack : List Value) where
    abbrev code : List Instr
    code = (y (inside k inner) counts).0 ++ turn_code list

    abbrev turned : ℕ → Effect → Effect
    turned j r = turn (length stack) r (turns j (runs k code))

    abbrev Turns : Effect → Outcome → Type 0
    Turns r o = Ends k function (suc label) stack (leaves 0 stack) r o

    abbrev all_turns : ℕ → Source → Outcome
    all_turns j = for_turns j (as_type k.setting.home.types t) l by limit (step k.around)

    abbrev after_body : ℕ → Source → Outcome
    after_body j s = if has_passed by limit (s.store l +ℤ by) then answer.Value Normal s else
        (as_type k.setting.home.types t (s.store l +ℤ by) s ▷ λ v s. all_turns j (stores l v s))

    body_for : (j : ℕ) (r : Effect) (o : Outcome) (next : Source → Outcome)
        → Ends k function (suc (suc label)) stack (λ st. runs k (turn_code list) st stack) r o
        → ((s : Source) (st : Target) → Stands k s st → Turns (turned j (runs k (turn_code list) st stack)) (next s))
        → Turns (turned j r) (sequence o next)
    body_for j r (answer.Value Normal s) next p h =
        subst (λ (e : Effect). Turns (turned j e) (next s)) (sym p.run) (h s p.st p.stands)
    body_for j r (answer.Value Exited s) next p h = record { st = p.st; stands = p.stands; run = ap (turned j) p.run }
    body_for j r (answer.Value (Returned v) s) next p h =
        record { below = p.below; st = p.st; stands = p.stands; run = ap (turned j) p.run }
    body_for j r (Ended i out) next p h = ap (turned j) p
    body_for j r (answer.StillRunning out) next p h = ap (turned j) p

    value_for : (j : ℕ) (operands : List Value) (go : Effects) (r : Effect) (a : Answer ℤ) (next : ℤ → Source → Outcome)
        → Into (GivesNumber k t go operands) r a
        → ((v : ℤ) → IsValue k.setting.home.types t v → (s : Source) (st : Target) → Stands k s st
        → Turns (turned j (go st (operands ++ I64 (word v) ∷ []))) (next v s)) → Turns (turned j r) (a ▷ next)
    value_for j operands go r (answer.Value v s) next p h =
        subst (λ (e : Effect). Turns (turned j e) (next v s)) (sym p.run) (h v p.is s p.st p.stands)
    value_for j operands go r (Ended i out) next p h = ap (turned j) p
    value_for j operands go r (answer.StillRunning out) next p h = ap (turned j) p

    abbrev Later : ℕ → Type 0
    Later j = (s : Source) (st : Target) → Stands k s st → Turns (turns j (runs k code) st stack) (all_turns j s)

    -- the variable steps on, and the next turn follows
    on_goes : (j : ℕ) → Later j → (s : Source) (st : Target) → Stands k s st
        → Turns (turned j (runs k (next_code list) st stack))
        (as_type k.setting.home.types t (s.store l +ℤ by) s ▷ λ v s. all_turns j (stores l v s))
    on_goes j later s st h =
        let below : List Value = stack ++ I32 (place k l) ∷ [] in
        value_for j below (runs k stores_code) (runs k (next_code list) st stack)
        (as_type k.setting.home.types t (s.store l +ℤ by) s) (λ v s. all_turns j (stores l v s))
        (next_gives list at s st h stack)
        (λ v is s st h.
        let p = stored_goes k has small room t c cell l v is type s st h (instr.Br 0 ∷ []) stack in
        subst (λ (r : Effect). Turns r (all_turns j (stores l v s)))
        (sym (ap (turned j) (p.run ∙ br_runs k.modules k.fixed k.turns (calls k) k.own [] p.st 0 stack)
        ∙ label_here p.st stack (turns j (runs k code)))) (later (stores l v s) p.st p.stands))

    turn_goes : (j : ℕ) → Later j → (s : Source) (st : Target) → Stands k s st
        → Turns (turned j (runs k (turn_code list) st stack)) (after_body j s)
    turn_goes j later s st h =
        let tests : List Instr = instr.LocalGet n ∷ relation (passes by) ∷ instr.BrIf 1 ∷ next_code list in
        let p = read_gives list at s st h (number by ∷ operation Add ∷ tests) stack in
        let hv = narrow k has small t (s.store l) p.is in
        let path = p.run ∙ step_runs (s.store l) hv tests p.st stack
        ∙ passed_runs (s.store l +ℤ by) (wide_step (s.store l) hv) 1 (next_code list) s p.st p.stands stack in
        subst (λ (r : Effect). Turns (turned j r) (after_body j s)) (sym path)
        (either p.st p.stands (has_passed by limit (s.store l +ℤ by)))
      where
        either : (st : Target) → Stands k s st → (b : Bool)
            → Turns (turned j (then_run (if truth b == 0 then FellThrough st stack else Branched 1 st stack)
            (runs k (next_code list)))) (if b then answer.Value Normal s else
            (as_type k.setting.home.types t (s.store l +ℤ by) s ▷ λ v s. all_turns j (stores l v s)))
        either st h true = record { st = st; stands = h; run = refl }
        either st h false = on_goes j later s st h

    turns_go : (j : ℕ) → Later j
    turns_go zero s st h = ap StillRunning h.out
    turns_go (suc j) s st h =
        body_for j (runs k code st stack) (step k.around s) (after_body j)
        (subst (λ (x : ℕ). Ends k function x stack (λ st. runs k (turn_code list) st stack) (runs k code st stack)
        (step k.around s)) same (hy.goes inner counts free full s st h (turn_code list) stack))
        (λ s st h. turn_goes j (λ s st h. turns_go j s st h) s st h)

    -- the first test stands before the loop
    abbrev block_code : List Instr → List Instr
    block_code first = value_code first ++
        ((instr.LocalGet n ∷ relation (passes by) ∷ instr.BrIf 0 ∷ []) ++ instr.Loop None code ∷ [])

    pub for_goes : (first : List Instr) → LeavesAddress first → (s : Source) (st : Target) → Stands k s st
        → (rest : List Instr)
        → Ends k function label stack (λ st. runs k rest st stack)
        (runs k (instr.Block None (block_code first) ∷ rest) st stack)
        (for_all k.turns (as_type k.setting.home.types t) l by limit (step k.around) s)
    for_goes first begins s st h rest =
        let looping : List Instr = instr.Loop None code ∷ [] in
        let tests : List Instr = instr.LocalGet n ∷ relation (passes by) ∷ instr.BrIf 0 ∷ looping in
        let p = read_gives first begins s st h tests stack in
        let hv = narrow k has small t (s.store l) p.is in
        let path =
        block_runs k.modules k.fixed k.turns (calls k) k.own rest st None (block_code first) stack
        ∙ ap (λ (r : Effect). then_run (out_of 0 (length stack) r) (runs k rest))
        (p.run ∙ passed_runs (s.store l) (wide (s.store l) hv) 0 looping s p.st p.stands stack)
        in
        subst (λ (r : Effect). Ends k function label stack (λ st. runs k rest st stack) r
        (for_all k.turns (as_type k.setting.home.types t) l by limit (step k.around) s)) (sym path)
        (either p.st p.stands (has_passed by limit (s.store l)))
      where
        either : (st : Target) → Stands k s st → (b : Bool)
            → Ends k function label stack (λ st. runs k rest st stack)
            (then_run (out_of 0 (length stack)
            (then_run (if truth b == 0 then FellThrough st stack else Branched 0 st stack)
            (runs k (instr.Loop None code ∷ [])))) (runs k rest))
            (if b then answer.Value Normal s else all_turns k.turns s)
        either st h true = record {
          st = st;
          stands = h;
          run =
              ap (λ (e : Effect). then_run e (runs k rest)) (label_here st stack FellThrough);
        }
        either st h false =
            subst (λ (r : Effect). Ends k function label stack (λ st. runs k rest st stack) r (all_turns k.turns s))
            (sym (ap (λ (r : Effect). then_run (out_of 0 (length stack) r) (runs k rest))
            (loop_runs k.modules k.fixed k.turns (calls k) k.own [] st None code stack)))
            (after_loop k function has small label rest stack (turns k.turns (runs k code) st stack)
            (all_turns k.turns s) (turns_go k.turns s st h))

-- ---- the statement

module _ (k : Scene) (has : HasHelpers k) (small : AreSmall k.setting.home.types) (room : k.limit < 2 ^ 32)
    (function : Bool) (t u : TypeNo) (c : Scalar) (cell : IsCell k.setting.home.types t c)
    (some : scalar_at k.setting.home.types t ≡ None → ⊥) (l : Location)
    (type : component (row k.world) l ≡ Some (Cell c)) (by : ℤ) (hb : IsNarrow by) (at : Setting → List Instr)
    (there : IsThere k at l)
    (start bound y : Coded) (first last : Gives ℤ) (step : Does) (hstart : Agrees k t start first)
    (hbound : Agrees k u bound last) (growing : IsGrowing k y)
    (hy : (n : ℕ) (v : Value) → k.kept n ≡ None → Executes (keeping k n v) function y step) where
  abbrev types : Types
  types = k.setting.home.types

  abbrev variable : Coded
  variable = with_setting (λ s. plain (at s))

  abbrev behind_bound : ℕ → Coded
  behind_bound n =
      (plain (instr.LocalSet n ∷ []) ⨾ with_setting (λ s. plain (store_code s.home.types t)))
      ⨾ within 1 block (behind variable (λ types. load_code types t) ⨾ plain
      (instr.LocalGet n ∷ relation (passes by) ∷ instr.BrIf 0 ∷ []) ⨾ within 1 loop (for_turn variable t by n y))

  pub for_executes : Executes k function (variable ⨾ start ⨾ bound ⨾ with_number behind_bound)
      (λ a s. first a s ▷ λ v s. last a s ▷ λ x s. for_all k.turns (as_type types t) l by x (step a) (stores l v s))
  for_executes = record {
    grows = λ e c.
        let f = (start (inside k e) c).1 in
        let m = (bound (inside k e) f).1 in
        let g = hstart.grows e c in let h = hbound.grows e f in
        let i = growing (e + 1 + 1) (record m { numbers = suc m.numbers }) in
        record {
          numbers = omega (arith, g.numbers, h.numbers, i.numbers);
          addresses =
              omega (arith, g.addresses, h.addresses, i.addresses);
        };
    goes = λ e c0 free full s st h rest stack.
        let f = start (inside k e) c0 in
        let m = bound (inside k e) f.1 in
        let n : ℕ = number_local k.setting m.1.numbers in
        let after : Counts = record m.1 { numbers = suc m.1.numbers } in
        let inner : ℕ = e + 1 + 1 in
        let body = y (inside k inner) after in
        let store : List Instr = store_code types t in
        let turning : List Instr = at (inside k inner) in
        let opens : List Instr = at (inside k (e + 1)) in
        let a : Value = I32 (place k l) in
        let g = hstart.grows e c0 in let h1 = hbound.grows e f.1 in let h2 = growing inner after in
        let free_f : IsFree k f.1 = free_after k g free in
        let free_m : IsFree k m.1 = free_after k h1 free_f in
        let full_after : HasLocals k after = has_before k h2 full in
        let full_m : HasLocals k m.1 = record {
          numbers = omega (arith, full_after.numbers);
          addresses =
              full_after.addresses;
        } in
        let less : n < k.locals = omega (arith, full_after.numbers) in
        let new : k.kept n ≡ None = free_m.numbers n (omega arith) in
        let turn_list : List Instr = (turning ++ load_code types t)
        ++ ((number by ∷ operation Add ∷ instr.LocalGet n ∷ relation (passes by) ∷ instr.BrIf 1 ∷ [])
        ++ (turning ++ ((turning ++ load_code types t)
        ++ (number by ∷ operation Add ∷ (in_type types t 1 ++ (store ++ instr.Br 0 ∷ [])))))) in
        let block_list : List Instr = (opens ++ load_code types t)
        ++ ((instr.LocalGet n ∷ relation (passes by) ∷ instr.BrIf 0 ∷ []) ++ instr.Loop None (body.0 ++ turn_list)
        ∷ []) in
        let ending : List Instr = instr.Block None block_list ∷ [] in
        let tail : List Instr = (instr.LocalSet n ∷ store) ++ ending in
        let last_code : List Instr = instr.LocalSet n ∷ (store ++ (instr.Block None block_list ∷ rest)) in
        let on : Target → Effect = λ st. runs k rest st stack in
        let outcome : Source → Outcome = λ s.
        (first k.around s ▷ (λ v s. last k.around s ▷ λ x s. for_all k.turns (as_type types t) l by x
        (step k.around) (stores l v s))) in
        let front : List Instr = at (inside k e) in
        let lists : (front ++ (f.0 ++ (m.0 ++ tail))) ++ rest ≡ front ++ (f.0 ++ (m.0 ++ last_code)) =
        append_assoc front (f.0 ++ (m.0 ++ tail)) rest
        ∙ ap (λ (c : List Instr). front ++ c)
        (append_assoc f.0 (m.0 ++ tail) rest
        ∙ ap (λ (c : List Instr). f.0 ++ c) (append_assoc m.0 tail rest
        ∙ ap (λ (c : List Instr). m.0 ++ (instr.LocalSet n ∷ c)) (append_assoc store ending rest)))
        in
        subst (λ (r : Effect). Ends k function e stack on r (outcome s))
        (sym (ap (λ (c : List Instr). runs k c st stack) lists ∙ there e s st h (f.0 ++ (m.0 ++ last_code)) stack))
        (ends_with k function e stack (stack ++ a ∷ []) on t (runs k (m.0 ++ last_code))
        (runs k (f.0 ++ (m.0 ++ last_code)) st (stack ++ a ∷ [])) (first k.around s)
        (λ v s. last k.around s ▷ λ x s. for_all k.turns (as_type types t) l by x (step k.around) (stores l v s))
        (hstart.gives e c0 free (has_before k h1 full_m) s st h (m.0 ++ last_code) (stack ++ a ∷ []))
        (λ v is s st h.
        ends_with k function e stack ((stack ++ a ∷ []) ++ I64 (word v) ∷ []) on u (runs k last_code)
        (runs k (m.0 ++ last_code) st ((stack ++ a ∷ []) ++ I64 (word v) ∷ [])) (last k.around s)
        (λ x s. for_all k.turns (as_type types t) l by x (step k.around) (stores l v s))
        (hbound.gives e f.1 free_f full_m s st h last_code ((stack ++ a ∷ []) ++ I64 (word v) ∷ []))
        (λ x isx s st h.
        let value : Value = I64 (word x) in
        let here : Scene = keeping k n value in
        let set : Target = record st { locals = slice_set st.locals n value } in
        let kept : Stands here s set = set_keeps k n value new less s st h in
        let q = stored_goes here (helpers_beside k n value has) small room t c cell l v is type s set kept
        (instr.Block None block_list ∷ rest) stack in
        let at_here : (exit : ℕ) → (s : Source) (st : Target) → Stands here s st
        → (rest : List Instr) (stack : List Value)
        → runs here (at (inside k exit) ++ rest) st stack ≡ runs here rest st (stack ++ I32 (place k l) ∷ []) =
        λ exit s st h rest stack. there exit s st (forgets k n value new s st h) rest stack
        in
        subst (λ (r : Effect). Ends k function e stack on r
        (for_all k.turns (as_type types t) l by x (step k.around) (stores l v s)))
        (sym (set_runs_here k n value (store ++ (instr.Block None block_list ∷ rest)) s st
        ((stack ++ a ∷ []) ++ I64 (word v) ∷ []) less h))
        (ends_forgets k function n value new e stack on
        (runs k (store ++ (instr.Block None block_list ∷ rest)) set ((stack ++ a ∷ []) ++ I64 (word v) ∷ []))
        (for_all k.turns (as_type types t) l by x (step k.around) (stores l v s))
        (subst (λ (r : Effect). Ends here function e stack on r
        (for_all k.turns (as_type types t) l by x (step k.around) (stores l v s))) (sym q.run)
        (for_goes here (helpers_beside k n value has) small room function t c cell some l type by x hb
        (narrow k has small u x isx) n (kept_itself k n value) turning (at_here inner) y step (hy n value new) e
        inner e (omega arith)
        after (free_beside k n value m.1 refl free_m) (has_beside k n value body.1 full) stack opens (at_here (e + 1))
        (stores l v s) q.st q.stands rest))))));
  }
