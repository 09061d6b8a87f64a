-- Statements: their code does what they do.
use Rattle.std.proofs.Common.{◌≡◌, ℕ, suc, ◌+◌, ◌%◌, ◌^◌, ℤ, pos, negsuc, ◌≤ℤ◌, Bool, true, false, not, List, [], ◌∷◌, ◌++◌, length, Some, None, if◌then◌else◌, refl, sym, ap, subst, ◌∙◌, append_assoc, arith, map}
use Rattle.std.specs.Prelude.{unsigned_abs}
use Rattle.std.proofs.lemmas.Int.{ints}
use Rattle.std.proofs.lemmas.List.{append-nil}
use Rattle.wasm_tree.specs.declared.instr.Instr.{Instr}
use Rattle.wasm_tree.specs.declared.instr.Instr.TheVariants as instr
use Rattle.wasm_tree.specs.declared.store.Value.{Value}
use Rattle.wasm_tree.specs.declared.store.Value.TheVariants.{I64}
use Rattle.law_effect.specs.Effect.{State as Target, Effect, FellThrough, Branched, Returned, StillRunning, Does as Effects, then_run, out_of, turn, turns, exec, pick_branch}
use Rattle.law_effect.specs.Effect as effects
use Rattle.law_effect.proofs.Steps.{i64_runs, if_runs, if_one_runs, br_runs, return_runs, put_runs, stop_runs}
use Rattle.typed_tree.specs.declared.types.TypeNo.{TypeNo}
use Rattle.typed_tree.specs.Types.{boolean, char}
use Rattle.def_meaning.specs.Answer.{State as Source, Answer, Ended, ◌▷◌}
use Rattle.def_meaning.specs.Outcome.{Outcome, Normal, Exited, sequence}
use Rattle.def_meaning.specs.Outcome as outcome
use Rattle.def_meaning.specs.Answer as answer
use Rattle.def_meaning.specs.Operators.{is_true}
use Rattle.def_meaning.specs.Expressions.{Gives}
use Rattle.def_meaning.specs.Statements.{Does, in_turn}
use Rattle.def_scheme.specs.Coded.{Coded, Counts, plain, nothing, ◌⨾◌, all_coded, within, wrap_word, fault}
use Rattle.law_simulation.specs.Scene.{Scene, calls, runs, HasHelpers, IsValue, AreSmall, word, Stands, Into, GivesNumber, Grows, IsFree, HasLocals, inside, Agrees, stack_after_return, Ends, Executes}
use Rattle.def_scheme.specs.Steps.{if_else}
use Rattle.law_simulation.proofs.Relations.{wrapped_runs, chosen_by}
use Rattle.law_simulation.proofs.Parts.{grows_more, grows_same, has_before, free_after}

module _ (k : Scene) (function : Bool) where
  abbrev On : Type 0
  On = Target → Effect

  -- ---- one after another

  -- what follows where a statement goes on
  pub ends_then : (exit : ℕ) (stack : List Value) (middle on : On) (r : Effect) (o : Outcome) (next : Source → Outcome)
      → Ends k function exit stack middle r o
      → ((s : Source) (st : Target) → Stands k s st → Ends k function exit stack on (middle st) (next s))
      → Ends k function exit stack on r (sequence o next)
  ends_then exit stack middle on r (answer.Value Normal s) next p h =
      subst (λ (e : Effect). Ends k function exit stack on e (next s)) (sym p.run) (h s p.st p.stands)
  ends_then exit stack middle on r (answer.Value Exited s) next p h = p
  ends_then exit stack middle on r (answer.Value (outcome.Returned v) s) next p h = p
  ends_then exit stack middle on r (Ended j out) next p h = p
  ends_then exit stack middle on r (answer.StillRunning out) next p h = p

  -- a value first
  pub ends_with : (exit : ℕ) (stack operands : List Value) (on : On) (t : TypeNo) (go : Effects) (r : Effect)
      (a : Answer ℤ) (next : ℤ → Source → Outcome) → Into (GivesNumber k t go operands) r a
      → ((v : ℤ) → IsValue k.setting.home.types t v → (s : Source) (st : Target) → Stands k s st
      → Ends k function exit stack on (go st (operands ++ I64 (word v) ∷ [])) (next v s))
      → Ends k function exit stack on r (a ▷ next)
  ends_with exit stack operands on t go r (answer.Value v s) next p h =
      subst (λ (e : Effect). Ends k function exit stack on e (next v s)) (sym p.run) (h v p.is s p.st p.stands)
  ends_with exit stack operands on t go r (Ended j out) next p h = p
  ends_with exit stack operands on t go r (answer.StillRunning out) next p h = p

  abbrev behind : (rest : List Instr) (stack : List Value) → On
  behind rest stack st = runs k rest st stack

  -- the code of one statement behind that of another
  pub then_executes : (x y : Coded) (step : Does) (next : Does) → Executes k function x step
      → Executes k function y next → Executes k function (x ⨾ y) (λ a s. sequence (step a s) (next a))
  then_executes x y step next hx hy = record {
    grows = λ e c. grows_more (hx.grows e c) (hy.grows e (x (inside k e) c).1);
    goes = λ e c free full s st h rest stack.
        let first = x (inside k e) c in
        let second = y (inside k e) first.1 in
        subst (λ (code : List Instr). Ends k function e stack (behind rest stack) (runs k code st stack)
        (sequence (step k.around s) (next k.around))) (sym (append_assoc first.0 second.0 rest))
        (ends_then e stack (behind (second.0 ++ rest) stack) (behind rest stack)
        (runs k (first.0 ++ (second.0 ++ rest)) st stack) (step k.around s) (next k.around)
        (hx.goes e c free (has_before k (hy.grows e first.1) full) s st h (second.0 ++ rest) stack)
        (λ s' st' h'. hy.goes e first.1 (free_after k (hx.grows e c) free) full s' st' h' rest stack));
  }

  pub nothing_executes : Executes k function nothing (λ a s. answer.Value Normal s)
  nothing_executes = record {
    grows = λ e c. grows_same c;
    goes =
        λ e c free full s st h rest stack. record { st = st; stands = h; run = refl };
  }

  -- statements in a row
  pub data AllExecute : List Coded → List Does → Type 0 where
    none : AllExecute [] []
    more : (x : Coded) (xs : List Coded) (d : Does) (ds : List Does) → Executes k function x d → AllExecute xs ds
        → AllExecute (x ∷ xs) (d ∷ ds)

  pub all_execute : (xs : List Coded) (ds : List Does) → AllExecute xs ds
      → Executes k function (all_coded xs) (in_turn ds)
  all_execute [] [] none = nothing_executes
  all_execute _ _ (more x xs d ds h hs) = then_executes x (all_coded xs) d (in_turn ds) h (all_execute xs ds hs)

  -- ---- EXIT, RETURN, HALT

  pub exit_executes : Executes k function (λ s c. (instr.Br s.exit ∷ [], c)) (λ a s. answer.Value Exited s)
  exit_executes = record {
    grows = λ e c. grows_same c;
    goes = λ e c free full s st h rest stack.
        record { st = st; stands = h; run = br_runs k.modules k.fixed k.turns (calls k) k.own rest st e stack };
  }

  pub halt_executes : HasHelpers k → Executes k function (plain (fault 9)) (λ a s. Ended 9 s.out)
  halt_executes has = record {
    grows = λ e c. grows_same c;
    goes = λ e c free full s st h rest stack.
        i64_runs k.modules k.fixed k.turns (calls k) k.own (instr.Call 1 ∷ instr.Unreachable ∷ rest) st 9 stack
        ∙ stop_runs k.modules k.fixed k.turns (calls k) k.own (instr.Unreachable ∷ rest) st 1 9 stack
        (has.stop st.bytes)
        ∙ ap (λ (out : List ℕ). effects.Ended 9 out) h.out;
  }

  -- the fault of a CASE
  pub unlabelled_executes : HasHelpers k → Executes k function (plain (fault 5)) (λ a s. Ended 5 s.out)
  unlabelled_executes has = record {
    grows = λ e c. grows_same c;
    goes = λ e c free full s st h rest stack.
        i64_runs k.modules k.fixed k.turns (calls k) k.own (instr.Call 1 ∷ instr.Unreachable ∷ rest) st 5 stack
        ∙ stop_runs k.modules k.fixed k.turns (calls k) k.own (instr.Unreachable ∷ rest) st 1 5 stack
        (has.stop st.bytes)
        ∙ ap (λ (out : List ℕ). effects.Ended 5 out) h.out;
  }

  -- ---- RETURN of a procedure without a result

  pub return_executes : function ≡ false →
      Executes k function (plain (instr.Return ∷ [])) (λ a s. answer.Value (outcome.Returned (pos 0)) s)
  return_executes proper = record {
    grows = λ e c. grows_same c;
    goes = λ e c free full s st h rest stack. record {
      below = stack;
      st = st;
      stands = (h, λ gives. absurd (true_false (sym gives ∙ proper)));
      run = return_runs k.modules k.fixed k.turns (calls k) k.own rest st stack
          ∙ ap (λ (b : Bool). Returned st (stack_after_return b stack (pos 0))) (sym proper);
    };
  }
    where
      true_false : true ≡ false → ⊥
      true_false e = cc e

  -- ---- what is done with a value

  pub value_executes : (t : TypeNo) (code after : Coded) (list : List Instr) (value : Gives ℤ) (next : ℤ → Does)
      → Agrees k t code value → ((e : ℕ) (c : Counts) → after (inside k e) c ≡ (list, c))
      → ((v : ℤ) → IsValue k.setting.home.types t v → (e : ℕ) (s : Source) (st : Target) → Stands k s st
      → (rest : List Instr) (stack : List Value)
      → Ends k function e stack (behind rest stack) (runs k (list ++ rest) st (stack ++ I64 (word v) ∷ []))
      (next v k.around s))
      → Executes k function (code ⨾ after) (λ a s. value a s ▷ λ v s. next v a s)
  value_executes t code after list value next ha is go = record {
    grows = λ e c. subst (λ (p : List Instr × Counts). Grows c p.1) (sym (is e (code (inside k e) c).1)) (ha.grows e c);
    goes = λ e c free full s st h rest stack.
        let first = code (inside k e) c in
        subst (λ (p : List Instr × Counts). Ends k function e stack (behind rest stack)
        (runs k ((first.0 ++ p.0) ++ rest) st stack) (value k.around s ▷ λ v s. next v k.around s))
        (sym (is e first.1))
        (subst (λ (code : List Instr). Ends k function e stack (behind rest stack) (runs k code st stack)
        (value k.around s ▷ λ v s. next v k.around s)) (sym (append_assoc first.0 list rest))
        (ends_with e stack stack (behind rest stack) t (runs k (list ++ rest))
        (runs k (first.0 ++ (list ++ rest)) st stack) (value k.around s) (λ v s. next v k.around s)
        (ha.gives e c free (subst (λ (p : List Instr × Counts). HasLocals k p.1) (is e first.1) full) s st h
        (list ++ rest) stack)
        (λ v in_type s' st' h'. go v in_type e s' st' h' rest stack)));
  }

  -- the same where what follows the value asks for locals
  pub record ExecutesWith (t : TypeNo) (code : Coded) (next : ℤ → Does) : Type 0 where
    pub grows : (exit : ℕ) (c : Counts) → Grows c (code (inside k exit) c).1
    pub goes : (exit : ℕ) (c : Counts) → IsFree k c → HasLocals k (code (inside k exit) c).1 → (v : ℤ)
        → IsValue k.setting.home.types t v
        → (s : Source) (st : Target) → Stands k s st → (rest : List Instr) (stack : List Value)
        → Ends k function exit stack (behind rest stack)
        (runs k ((code (inside k exit) c).0 ++ rest) st (stack ++ I64 (word v) ∷ [])) (next v k.around s)

  pub with_executes : (t : TypeNo) (x y : Coded) (value : Gives ℤ) (next : ℤ → Does) → Agrees k t x value
      → ExecutesWith t y next → Executes k function (x ⨾ y) (λ a s. value a s ▷ λ v s. next v a s)
  with_executes t x y value next hx hy = record {
    grows = λ e c. grows_more (hx.grows e c) (hy.grows e (x (inside k e) c).1);
    goes = λ e c free full s st h rest stack.
        let first = x (inside k e) c in
        let second = y (inside k e) first.1 in
        subst (λ (code : List Instr). Ends k function e stack (behind rest stack) (runs k code st stack)
        (value k.around s ▷ λ v s. next v k.around s)) (sym (append_assoc first.0 second.0 rest))
        (ends_with e stack stack (behind rest stack) t (runs k (second.0 ++ rest))
        (runs k (first.0 ++ (second.0 ++ rest)) st stack) (value k.around s) (λ v s. next v k.around s)
        (hx.gives e c free (has_before k (hy.grows e first.1) full) s st h (second.0 ++ rest) stack)
        (λ v is s' st' h'. hy.goes e first.1 (free_after k (hx.grows e c) free) full v is s' st' h' rest stack));
  }

  byte_of : (v : ℤ) → pos 0 ≤ℤ v → v ≤ℤ pos 255 → word v % 256 ≡ unsigned_abs v
  byte_of (pos n) l h = omega (arith, ints)
  byte_of (negsuc n) l h = absurd (omega (arith, ints))

  abbrev printed : ℤ → Does
  printed v a s = answer.Value Normal (record s { out = s.out ++ unsigned_abs v ∷ [] })

  pub put_executes : HasHelpers k → (code : Coded) (value : Gives ℤ) → Agrees k char code value
      → Executes k function (code ⨾ plain (instr.Call 0 ∷ [])) (λ a s. value a s ▷ λ v s. printed v a s)
  put_executes has code value ha =
      value_executes char code (plain (instr.Call 0 ∷ [])) (instr.Call 0 ∷ []) value printed ha (λ e c. refl)
      (λ v is e s st h rest stack. record {
        st = record st { out = st.out ++ word v % 256 ∷ [] };
        stands = record {
          holds = h.holds;
          long = h.long;
          count = h.count;
          kept = h.kept;
          out = ap (λ (n : ℕ). st.out ++ n ∷ []) (byte_of v is.0 is.1)
              ∙ ap (λ (out : List ℕ). out ++ unsigned_abs v ∷ []) h.out;
        };
        run = put_runs k.modules k.fixed k.turns (calls k) k.own rest st 0 (word v) stack (has.put st.bytes);
      })

  -- ---- blocks

  -- out of a block without results, which EXIT leaves by one label more
  abbrev out_block : (rest : List Instr) (stack : List Value) → Effect → Effect
  out_block rest stack r = then_run (out_of 0 (length stack) r) (runs k rest)

  pub through_block : (exit : ℕ) (rest : List Instr) (stack : List Value) (r : Effect) (o : Outcome)
      → Ends k function (suc exit) stack (λ st. FellThrough st stack) r o
      → Ends k function exit stack (behind rest stack) (out_block rest stack r) o
  through_block exit rest stack r (answer.Value Normal s) p =
      record { st = p.st; stands = p.stands; run = ap (out_block rest stack) p.run }
  through_block exit rest stack r (answer.Value Exited s) p =
      record { st = p.st; stands = p.stands; run = ap (out_block rest stack) p.run }
  through_block exit rest stack r (answer.Value (outcome.Returned v) s) p =
      record { below = p.below; st = p.st; stands = p.stands; run = ap (out_block rest stack) p.run }
  through_block exit rest stack r (Ended j out) p = ap (out_block rest stack) p
  through_block exit rest stack r (answer.StillRunning out) p = ap (out_block rest stack) p

  -- a statement's code alone
  pub alone : (x : Coded) (step : Does) → Executes k function x step → (exit : ℕ) (c : Counts) → IsFree k c
      → HasLocals k (x (inside k exit) c).1 → (s : Source) (st : Target) → Stands k s st → (stack : List Value)
      → Ends k function exit stack (λ st. FellThrough st stack) (runs k (x (inside k exit) c).0 st stack)
      (step k.around s)
  alone x step hx exit c free full s st h stack =
      subst (λ (code : List Instr). Ends k function exit stack (λ st. FellThrough st stack) (runs k code st stack)
      (step k.around s)) (append-nil (x (inside k exit) c).0) (hx.goes exit c free full s st h [] stack)

  -- the label of a block around it
  alone_inside : (x : Coded) (step : Does) → Executes k function x step → (exit labels label : ℕ)
      → exit + labels ≡ label → (c : Counts) → IsFree k c → HasLocals k (x (inside k (exit + labels)) c).1
      → (s : Source) (st : Target) → Stands k s st → (stack : List Value)
      → Ends k function label stack (λ st. FellThrough st stack) (runs k (x (inside k (exit + labels)) c).0 st stack)
      (step k.around s)
  alone_inside x step hx exit labels label e c free full s st h stack =
      subst (λ (l : ℕ). Ends k function l stack (λ st. FellThrough st stack)
      (runs k (x (inside k (exit + labels)) c).0 st stack) (step k.around s)) e
      (alone x step hx (exit + labels) c free full s st h stack)

  -- ---- IF

  module _ (has : HasHelpers k) (small : AreSmall k.setting.home.types) where
    abbrev chosen : List Instr → Instr
    chosen code = instr.If None code None

    abbrev one_side : (b : Bool) → List Instr → Target → List Value → Effect
    one_side b code st stack = exec (if b then [] else map (effects.does k.modules k.fixed k.turns (calls k) k.own)
        code) st stack

    if_only_goes : (x : Coded) (step : Does) → Executes k function x step → (exit : ℕ) (c : Counts) → IsFree k c
        → HasLocals k (x (inside k (exit + 1)) c).1 → (v : ℤ) → IsValue k.setting.home.types boolean v
        → (s : Source) (st : Target) → Stands k s st → (rest : List Instr) (stack : List Value) (b : Bool)
        → is_true v ≡ b
        → Ends k function exit stack (behind rest stack)
        (runs k (wrap_word ∷ chosen (x (inside k (exit + 1)) c).0 ∷ rest) st (stack ++ I64 (word v) ∷ []))
        (if b then step k.around s else answer.Value Normal s)
    if_only_goes x step hx exit c free full v is s st h rest stack b e =
        let code : List Instr = (x (inside k (exit + 1)) c).0 in
        let path : runs k (wrap_word ∷ chosen code ∷ rest) st (stack ++ I64 (word v) ∷ [])
        ≡ out_block rest stack (one_side (not b) code st stack) =
        wrapped_runs k has small (word v) (chosen code ∷ rest) st stack
        ∙ if_one_runs k.modules k.fixed k.turns (calls k) k.own rest st None code stack (word v % 2 ^ 32)
        ∙ ap (λ (b : Bool). out_block rest stack (one_side b code st stack))
        (chosen_by k has small v is.0 is.1 ∙ ap not e)
        in
        subst (λ (r : Effect). Ends k function exit stack (behind rest stack) r
        (if b then step k.around s else answer.Value Normal s)) (sym path) (by b)
      where
        by : (b : Bool) → Ends k function exit stack (behind rest stack)
            (out_block rest stack (one_side (not b) (x (inside k (exit + 1)) c).0 st stack))
            (if b then step k.around s else answer.Value Normal s)
        by true = through_block exit rest stack (runs k (x (inside k (exit + 1)) c).0 st stack) (step k.around s)
            (alone_inside x step hx exit 1 (suc exit) (omega arith) c free full s st h stack)
        by false = record { st = st; stands = h; run = refl }

    pub if_only_executes : (x : Coded) (step : Does) → Executes k function x step
        → ExecutesWith boolean (plain (wrap_word ∷ []) ⨾ within 1 (λ code. chosen code ∷ []) x)
        (λ v a s. if is_true v then step a s else answer.Value Normal s)
    if_only_executes x step hx = record {
      grows = λ e c. hx.grows (e + 1) c;
      goes = λ e c free full v is s st h rest stack. if_only_goes x step hx e c free full v is s st h rest stack
          (is_true v) refl;
    }

    -- both sides
    abbrev chosen_both : List Instr → List Instr → Instr
    chosen_both code other = instr.If None code (Some other)

    abbrev two_sides : (b : Bool) → List Instr → List Instr → Target → List Value → Effect
    two_sides b code other st stack = exec
        (if b then map (effects.does k.modules k.fixed k.turns (calls k) k.own) other else map
        (effects.does k.modules k.fixed k.turns (calls k) k.own) code) st stack

    pub if_else_executes : (x y : Coded) (step other : Does) → Executes k function x step → Executes k function y other
        → ExecutesWith boolean (plain (wrap_word ∷ []) ⨾ if_else x y)
        (λ v a s. if is_true v then step a s else other a s)
    if_else_executes x y step other hx hy = record {
      grows = λ e c. grows_more (hx.grows (suc e) c) (hy.grows (suc e) (x (inside k (suc e)) c).1);
      goes = λ e c free full v is s st h rest stack.
          let first = x (inside k (suc e)) c in
          let second = y (inside k (suc e)) first.1 in
          let path : runs k (wrap_word ∷ chosen_both first.0 second.0 ∷ rest) st (stack ++ I64 (word v) ∷ [])
          ≡ out_block rest stack (two_sides (not (is_true v)) first.0 second.0 st stack) =
          wrapped_runs k has small (word v) (chosen_both first.0 second.0 ∷ rest) st stack
          ∙ if_runs k.modules k.fixed k.turns (calls k) k.own rest st None first.0 second.0 stack (word v % 2 ^ 32)
          ∙ ap (λ (b : Bool). out_block rest stack (two_sides b first.0 second.0 st stack))
          (chosen_by k has small v is.0 is.1)
          in
          let left = alone x step hx (suc e) c free (has_before k (hy.grows (suc e) first.1) full) s st h stack in
          let right = alone y other hy (suc e) first.1 (free_after k (hx.grows (suc e) c) free) full s st h stack in
          subst (λ (r : Effect). Ends k function e stack (behind rest stack) r
          (if is_true v then step k.around s else other k.around s)) (sym path)
          (by e first.0 second.0 s st rest stack left right (is_true v));
    }
      where
        by : (e : ℕ) (code otherwise : List Instr) (s : Source) (st : Target) (rest : List Instr) (stack : List Value)
            → Ends k function (suc e) stack (λ st. FellThrough st stack) (runs k code st stack) (step k.around s)
            → Ends k function (suc e) stack (λ st. FellThrough st stack) (runs k otherwise st stack)
            (other k.around s)
            → (b : Bool) → Ends k function e stack (behind rest stack)
            (out_block rest stack (two_sides (not b) code otherwise st stack))
            (if b then step k.around s else other k.around s)
        by e code otherwise s st rest stack left right true =
            through_block e rest stack (runs k code st stack) (step k.around s) left
        by e code otherwise s st rest stack left right false =
            through_block e rest stack (runs k otherwise st stack) (other k.around s) right
