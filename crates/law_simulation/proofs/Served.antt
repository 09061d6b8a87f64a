-- Calls of helpers, whose own calls do not count.
use Rattle.std.proofs.Common.{◌≡◌, ℕ, suc, ◌<◌, Bool, true, false, List, [], ◌∷◌, length, Some, if◌then◌else◌, refl, sym, ap, ◌∙◌}
use Rattle.wasm_tree.specs.declared.instr.Instr.{Instr}
use Rattle.wasm_tree.specs.declared.instr.Instr.TheVariants as instr
use Rattle.wasm_tree.specs.declared.store.Value.{Value}
use Rattle.wasm_tree.specs.declared.store.Callee.TheVariants.{Own}
use Rattle.wasm_tree.specs.Machine.{Typed, split_end, callee_at, own_function}
use Rattle.law_effect.specs.Effect.{State as Target, store_of, Effect, FellThrough, Branched, Returned, Ended, Traps, StillRunning, Does, Calling, then_run, exec, back, effect, calling}
use Rattle.law_effect.proofs.Steps.{own_runs}
use Rattle.law_simulation.specs.Scene.{Scene, calls, runs, HasHelpers}

-- nothing behind
then_nothing : (r : Effect) → then_run r (exec []) ≡ r
then_nothing (FellThrough st stack) = refl
then_nothing (Branched k st stack) = refl
then_nothing (Returned st stack) = refl
then_nothing (Ended k out) = refl
then_nothing (Traps out) = refl
then_nothing (StillRunning out) = refl

pub tested_on : (b c : Bool) (j : ℕ) (out : List ℕ) (st : Target) (stack : List Value) (go : Does)
    → then_run (if b then Ended j out else (if c then Ended j out else FellThrough st stack)) go
    ≡ (if b then Ended j out else (if c then Ended j out else go st stack))
tested_on true c j out st stack go = refl
tested_on false true j out st stack go = refl
tested_on false false j out st stack go = refl

module _ (k : Scene) (has : HasHelpers k) where
  -- what the helper's own calls lead to
  abbrev pub served : List Instr → Target → List Value → Effect
  served code st stack = effect k.modules k.fixed k.turns
      (calling k.modules k.fixed k.extra k.turns (suc (suc has.levels))) k.own code st stack

  pub served_runs : (g f : ℕ) (t : Typed) (st : Target) (stack s args : List Value) (rest : List Instr) → f < 5
      → callee_at (store_of k.fixed st.bytes) k.own g ≡ Some (Own k.own f) → own_function k.modules k.own f ≡ Some t
      → split_end (length t.type.params) stack ≡ Some (s, args)
      → runs k (instr.Call g ∷ rest) st stack ≡ then_run (served (instr.Call g ∷ []) st stack) (runs k rest)
  served_runs g f t st stack s args rest less at_g is cut =
      let inner : Calling = calling k.modules k.fixed k.extra k.turns (suc (suc has.levels)) in
      let made : Effect = back (length t.type.results) st.locals s (inner k.own f t args st.bytes st.out) in
      let alone : served (instr.Call g ∷ []) st stack ≡ made =
      own_runs k.modules k.fixed k.turns inner k.own [] st g k.own f t stack s args at_g is cut
      ∙ then_nothing made in
      own_runs k.modules k.fixed k.turns (calls k) k.own rest st g k.own f t stack s args at_g is cut
      ∙ ap (λ (e : Effect). then_run (back (length t.type.results) st.locals s e) (runs k rest))
      (has.serves f less t args st.bytes st.out)
      ∙ ap (λ (e : Effect). then_run e (runs k rest)) (sym alone)
