-- A call of what a procedure variable holds: it is checked and kept, and then the table has its function.
use Rattle.std.proofs.Common.{◌≡◌, ⊎_elim, ℕ, suc, ◌%◌, ◌<◌, ◌^◌, ℤ, pos, ◌≤ℤ◌, Bool, true, List, [], ◌∷◌, ◌++◌, length, Option, Some, None, if◌then◌else◌, refl, sym, ap, subst, ◌∙◌, append_assoc, arith}
use Rattle.std.specs.Prelude.{nat_eq, slice_set}
use Rattle.std.specs.Option.{option_and_then}
use Rattle.std.proofs.lemmas.Int.{ints}
use Rattle.std.proofs.lemmas.Bool.{cases_eq, ne_eqb}
use Rattle.wasm_tree.specs.declared.kinds.FuncType.{FuncType}
use Rattle.wasm_tree.specs.declared.instr.Instr.{Instr}
use Rattle.wasm_tree.specs.declared.instr.Instr.TheVariants as instr
use Rattle.wasm_tree.specs.declared.store.Callee.TheVariants.{Own}
use Rattle.wasm_tree.specs.declared.store.Value.{Value}
use Rattle.wasm_tree.specs.declared.store.Value.TheVariants.{I32, I64}
use Rattle.wasm_tree.specs.Machine.{Typed, own_function, type_at, agree}
use Rattle.law_effect.specs.Effect.{State as Target, Effect, then_run}
use Rattle.law_effect.proofs.Steps.{split_end_at, get_runs, indirect_runs, own_does}
use Rattle.typed_tree.specs.declared.types.TypeNo.{TypeNo}
use Rattle.typed_tree.specs.Types.{bitset}
use Rattle.layout_storage.specs.Types.{Ty, Heading, row}
use Rattle.layout_storage.specs.Sizes.{size}
use Rattle.layout_storage.specs.Frames.{formals_of}
use Rattle.def_meaning.specs.Store.{Location}
use Rattle.def_meaning.specs.Answer.{State as Source, Answer, Ended, StillRunning, ◌▷◌}
use Rattle.def_meaning.specs.Answer as answer
use Rattle.def_meaning.specs.Environment.{Callee, Frames, Passed, entry_of, entry_callee}
use Rattle.def_meaning.specs.Operators.{is_between}
use Rattle.def_meaning.specs.Expressions.{Asks, Gives, all_given, asked_if}
use Rattle.law_memory.specs.Relation.{IsProcedureValue, Empty, Full, heading_at}
use Rattle.def_scheme.specs.Coded.{Coded, Counts, plain, ◌⨾◌, all_coded, with_number, top_local, number_local, check_code, wrap_word}
use Rattle.def_scheme.specs.Exprs.{Numbered, all_arguments, has_result, top_code, value_call}
use Rattle.def_scheme.specs.Signatures.{of_heading, type_of}
use Rattle.law_simulation.specs.Scene.{Scene, IsSet, calls, runs, word, Stands, keeping, Into, GivesNumber, Grows, IsGrowing, IsFree, HasLocals, inside}
use Rattle.law_simulation.proofs.Words.{IsWide}
use Rattle.law_simulation.proofs.Checks.{checked_gives}
use Rattle.law_simulation.proofs.Parts.{into_then, has_before, free_after}
use Rattle.law_simulation.proofs.Relations.{wrapped_runs}
use Rattle.law_simulation.proofs.Locals.{set_keeps, forgets, kept_runs, set_runs_here, free_beside, has_beside}
use Rattle.law_simulation.specs.Frames.{IsChain, chain_end}
use Rattle.law_simulation.specs.Passing.{Forms, forms_in, all_operands, Result, heading_result, PassAll, HasTop, IsCallHere, GivesResult, Calls}
use Rattle.law_simulation.specs.Held.{HasCallee, HasCallees, GivesHeld, AgreesHeld, held_call, HeldCalls}
use Rattle.law_simulation.proofs.Called.{front_calls}
use Rattle.law_simulation.proofs.Headings.{many_length, agrees_itself, type_same}

none_some : {A : Type 0} (x : A) → None ≡ Some x → ⊥
none_some x e = cc e

-- what was kept is kept
still_kept : (kept : ℕ → Option Value) (n : ℕ) (v : Value) → kept n ≡ None → (w : ℕ) (u : Value) → kept w ≡ Some u
    → (if nat_eq w n then Some v else kept w) ≡ Some u
still_kept kept n v new w u e =
    ⊎_elim
    (λ (same : w ≡ n). absurd (none_some u (sym new ∙ ap kept (sym same) ∙ e)))
    (λ (other : w ≡ n → ⊥). ap (λ (b : Bool). if b then Some v else kept w) (ne_eqb w n other) ∙ e)
    (cases_eq w n)

-- ---- numbers of procedures

word_is : (n : ℕ) → n < 2 ^ 32 → word (pos n) ≡ n
word_is n less = omega (arith, ints, less)

wide : (n : ℕ) → n < 2 ^ 32 → IsWide (pos n)
wide n less = record { low = omega (arith, ints, less); high = omega (arith, ints, less) }

inner : (low v high : ℤ) → low ≤ℤ v → v ≤ℤ high → is_between low v high ≡ true
inner low v high l h = grind (arith, l, h)

bit_set : (n : ℕ) → n < 2 ^ 32 → (pos 0 ≤ℤ pos n) × (pos n ≤ℤ pos 4294967295)
bit_set n less = (omega (arith, ints, less), omega (arith, ints, less))

module _ (k : Scene) (set : IsSet k) (ask : Asks) (numbered : Numbered) (base : List Ty) (texts : Location → ℕ → ℕ)
    (top : HasTop k base texts) (callees : HasCallees k ask base texts) (t : TypeNo) (h : Heading)
    (is : heading_at k.setting.home.types t ≡ Some h)
    (at_index : type_at k.modules k.own (numbered (all_arguments (formals_of k.setting.home.types t))
    (has_result k.setting.home.types t)) ≡ Some (type_of (of_heading k.setting.home.types t))) where
  abbrev forms : Forms
  forms = forms_in h

  abbrev result : Result
  result = heading_result h

  abbrev index : ℕ
  index = numbered (all_arguments (formals_of k.setting.home.types t)) (has_result k.setting.home.types t)

  module _ (n : ℕ) (q : HasCallee k ask base texts h n) (w : ℕ) (new : k.kept w ≡ None) where
    abbrev v : Value
    v = I64 (word (pos n))

    abbrev K : Scene
    K = keeping k w v

    -- the code of the call
    abbrev list : List Instr
    list = instr.LocalGet w ∷ wrap_word ∷ instr.CallIndirect index ∷ []

    same_type : type_of (of_heading k.setting.home.types t) ≡ q.typed.type
    same_type = type_same k.setting.home.types t h is ∙ sym q.type

    calls_here : IsCallHere K list q.own q.function q.typed
    calls_here s st stands rest stack args many =
        let small = q.small in
        let low : word (pos n) % 2 ^ 32 ≡ n = ap (λ (i : ℕ). i % 2 ^ 32) (word_is n small) ∙ omega (arith, small) in
        let typed : agree (type_at k.modules k.own index)
        (option_and_then (λ (t : Typed). Some t.type) (own_function k.modules q.own q.function)) ≡ true =
        ap (λ (o : Option Typed). agree (type_at k.modules k.own index)
        (option_and_then (λ (t : Typed). Some t.type) o)) q.there
        ∙ ap (λ (o : Option FuncType). agree o (Some q.typed.type)) (at_index ∙ ap Some same_type)
        ∙ agrees_itself q.typed.type
        in
        kept_runs k w v (wrap_word ∷ instr.CallIndirect index ∷ rest) s st (stack ++ args) stands
        ∙ wrapped_runs k set.helpers set.small (word (pos n)) (instr.CallIndirect index ∷ rest) st (stack ++ args)
        ∙ ap (λ (i : ℕ). runs k (instr.CallIndirect index ∷ rest) st ((stack ++ args) ++ I32 i ∷ [])) low
        ∙ indirect_runs k.modules k.fixed k.turns (calls k) k.own rest st index n (Own q.own q.function) (stack ++ args)
        (q.filled st.bytes) typed
        ∙ ap (λ (e : Effect). then_run e (runs k rest))
        (own_does k.modules k.fixed k.turns (calls k) k.own rest st q.own q.function q.typed (stack ++ args) stack
        args q.there (split_end_at stack args (length q.typed.type.params) (sym many)))

    top_here : HasTop K base texts
    top_here = record {
      kept = still_kept k.kept w v new (top_local k.setting) (I32 (size (row k.world))) top.kept;
      next = top.next;
      left = top.left;
      based = top.based;
    }

    kept_calls : (xs : List Coded) (gs : List (Gives Passed)) → PassAll K forms xs gs
        → Calls K result (top_code ⨾ (all_coded xs ⨾ value_call numbered w t))
        (λ a s. all_given k.program ask gs a s ▷ λ vs s. ask (Some q.callee) vs a.next a.free s)
    kept_calls xs gs hs =
        let chain : IsChain K.world K.hidden [] q.callee.frames [] =
        subst (λ (nss : Frames). IsChain K.world K.hidden [] nss []) (sym q.outermost) chain_end in
        let many : length q.typed.type.params ≡ suc (all_operands forms) = ap (λ (f : FuncType). length f.params) q.type
        ∙ ap suc (many_length (all_operands forms)) in
        front_calls K base texts top_here k.program ask q.callee [] [] chain forms result q.own q.function q.typed
        q.does list calls_here (omega (arith, many)) xs gs hs (value_call numbered w t) (λ e c. refl)
        (instr.LocalGet (top_local k.setting) ∷ [])
        (λ s st stands rest stack. get_runs k.modules k.fixed k.turns (calls k) k.own rest st (top_local k.setting)
        (I32 (size (row k.world))) stack (stands.kept (top_local k.setting) (I32 (size (row k.world)))
        top_here.kept))
        top_code (λ e c. refl)

    -- what was kept is forgotten
    forgotten : (rest : List Instr) (stack : List Value) (r : Effect) (a : Answer ℤ)
        → Into (GivesResult K result (runs K rest) stack) r a → Into (GivesResult k result (runs k rest) stack) r a
    forgotten rest stack r (answer.Value i s) g =
        record { st = g.st; stands = forgets k w v new s g.st g.stands; is = g.is; run = g.run }
    forgotten rest stack r (Ended i out) g = g
    forgotten rest stack r (StillRunning out) g = g

  -- ---- all of it

  module _ (xs : List Coded) (gs : List (Gives Passed)) (growing : IsGrowing k (all_coded xs))
      (passed : (n : ℕ) (v : Value) → k.kept n ≡ None → PassAll (keeping k n v) forms xs gs) where
    abbrev kept_code : Coded
    kept_code = with_number (λ w. plain (instr.LocalSet w ∷ []) ⨾ top_code ⨾ all_coded xs ⨾ value_call numbered w t)

    abbrev behind_it : Coded
    behind_it = plain (check_code (pos 1) (pos 4294967295) 7) ⨾ kept_code

    kept_grows : (e : ℕ) (c : Counts) → Grows c (kept_code (inside k e) c).1
    kept_grows e c = let g = growing e (record c { numbers = suc c.numbers }) in
        record { numbers = omega (arith, g.numbers); addresses = omega (arith, g.addresses) }

    abbrev next : ℤ → Source → Answer ℤ
    next v s = asked_if k.program ask (entry_callee k.program (entry_of k.program v)) gs k.around s

    -- a procedure's number is kept
    full_goes : (n : ℕ) (q : HasCallee k ask base texts h n) (e : ℕ) (c : Counts) → IsFree k c
        → HasLocals k (kept_code (inside k e) c).1 → (s : Source) (st : Target) → Stands k s st
        → (rest : List Instr) (stack : List Value)
        → Into (GivesResult k result (runs k rest) stack)
        (runs k ((kept_code (inside k e) c).0 ++ rest) st (stack ++ I64 (word (pos n)) ∷ [])) (next (pos n) s)
    full_goes n q e c free full s st stands rest stack =
        let w : ℕ = number_local k.setting c.numbers in
        let new : k.kept w ≡ None = free.numbers w (omega arith) in
        let after : Counts = record c { numbers = suc c.numbers } in
        let u : Value = I64 (word (pos n)) in
        let code = (top_code ⨾ (all_coded xs ⨾ value_call numbered w t)) (inside k e) after in
        let g = growing e after in
        let less : w < k.locals = omega (arith, g.numbers, full.numbers) in
        let now : Target = record st { locals = slice_set st.locals w u } in
        let asked : ℤ → Answer ℤ = λ i. next i s in
        subst (λ (o : Option Callee). Into (GivesResult k result (runs k rest) stack)
        (runs k (instr.LocalSet w ∷ (code.0 ++ rest)) st (stack ++ u ∷ []))
        (asked_if k.program ask o gs k.around s)) (sym q.is)
        (subst (λ (r : Effect). Into (GivesResult k result (runs k rest) stack) r
        (asked_if k.program ask (Some q.callee) gs k.around s))
        (sym (set_runs_here k w u (code.0 ++ rest) s st stack less stands))
        (forgotten n q w new rest stack (runs k (code.0 ++ rest) now stack)
        (asked_if k.program ask (Some q.callee) gs k.around s)
        ((kept_calls n q w new xs gs (passed w u new)).gives e after (free_beside k w u c refl free)
        (has_beside k w u code.1 full) s now (set_keeps k w u new less s st stands) rest stack)))

    held_goes : (i : ℤ) → IsProcedureValue k.program h i → (e : ℕ) (c : Counts) → IsFree k c
        → HasLocals k (kept_code (inside k e) c).1 → (s : Source) (st : Target) → Stands k s st
        → (rest : List Instr) (stack : List Value)
        → Into (GivesResult k result (runs k rest) stack)
        (runs k ((behind_it (inside k e) c).0 ++ rest) st (stack ++ I64 (word i) ∷ [])) (next i s)
    held_goes _ Empty e c free full s st stands rest stack =
        checked_gives k set.helpers bitset (pos 1) (pos 4294967295) (pos 0) 7 (wide 1 (omega arith))
        (wide 4294967295 (omega arith)) (wide 0 (omega arith)) (omega arith) (omega arith)
        (λ o. bit_set 0 (omega arith)) s st stands ((kept_code (inside k e) c).0 ++ rest) stack
    held_goes _ (Full n names) e c free full s st stands rest stack =
        let q = callees h n names in
        let some = q.some in
        let small = q.small in
        let low : pos 1 ≤ℤ pos n = omega (arith, ints, some) in
        let high : pos n ≤ℤ pos 4294967295 = omega (arith, ints, small) in
        let code : List Instr = (kept_code (inside k e) c).0 ++ rest in
        let got : GivesNumber k bitset (runs k code) stack (pos n) s
        (runs k (check_code (pos 1) (pos 4294967295) 7 ++ code) st (stack ++ I64 (word (pos n)) ∷ [])) =
        subst (λ (b : Bool). Into (GivesNumber k bitset (runs k code) stack)
        (runs k (check_code (pos 1) (pos 4294967295) 7 ++ code) st (stack ++ I64 (word (pos n)) ∷ []))
        (if b then answer.Value (pos n) s else Ended 7 s.out)) (inner (pos 1) (pos n) (pos 4294967295) low high)
        (checked_gives k set.helpers bitset (pos 1) (pos 4294967295) (pos n) 7 (wide 1 (omega arith))
        (wide 4294967295 (omega arith)) (wide n small) (omega arith) (omega arith) (λ o. bit_set n small) s st
        stands code stack)
        in
        subst (λ (r : Effect). Into (GivesResult k result (runs k rest) stack) r (next (pos n) s)) (sym got.run)
        (full_goes n q e c free full s got.st got.stands rest stack)

    pub calls_held : (x : Coded) (value : Gives ℤ) → AgreesHeld k h x value
        → Calls k result (held_call numbered t x xs)
        (λ a s. value a s ▷ λ v s. asked_if k.program ask (entry_callee k.program (entry_of k.program v)) gs a s)
    calls_held x value hx = record {
      grows = λ e c.
          let f = hx.grows e c in
          let g = kept_grows e (x (inside k e) c).1 in
          record { numbers = omega (arith, f.numbers, g.numbers); addresses = omega (arith, f.addresses, g.addresses) };
      gives = λ e c free full s st stands rest stack.
          let first = x (inside k e) c in
          let second = behind_it (inside k e) first.1 in
          subst (λ (code : List Instr). Into (GivesResult k result (runs k rest) stack) (runs k code st stack)
          (value k.around s ▷ next)) (sym (append_assoc first.0 second.0 rest))
          (into_then (GivesHeld k h (runs k (second.0 ++ rest)) stack) (GivesResult k result (runs k rest) stack)
          (runs k (first.0 ++ (second.0 ++ rest)) st stack) (value k.around s) next
          (hx.gives e c free (has_before k (kept_grows e first.1) full) s st stands (second.0 ++ rest) stack)
          (λ i s' g. subst (λ (r : Effect). Into (GivesResult k result (runs k rest) stack) r (next i s')) (sym g.run)
          (held_goes i g.held e first.1 (free_after k (hx.grows e c) free) full s' g.st g.stands rest stack)));
    }

pub held_calls : HeldCalls
held_calls k set ask numbered base texts top callees t h is at_index x value hx xs gs growing passed =
    calls_held k set ask numbered base texts top callees t h is at_index xs gs growing passed x value hx
