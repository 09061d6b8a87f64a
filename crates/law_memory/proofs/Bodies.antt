-- The run of a whole program, body by body.
use Rattle.std.proofs.Common.{◌≡◌, ℕ, suc, ◌+◌, List, [], ◌∷◌, length, refl, sym, ap, ◌∙◌, subst}
use Rattle.wasm_tree.specs.declared.kinds.FuncType.{FuncType}
use Rattle.wasm_tree.specs.declared.module.WModule.{WModule}
use Rattle.wasm_tree.specs.declared.store.Value.{Value}
use Rattle.wasm_tree.specs.declared.store.Value.TheVariants.{I32}
use Rattle.wasm_tree.specs.Machine.{Going, enter_function}
use Rattle.law_effect.specs.Effect.{Fixed, State, store_of, Effect, FellThrough, Branched, Returned, Ended, Traps, StillRunning, Does, Calling, effect, calling, then_run, back}
use Rattle.law_effect.specs.Laws.{RunLeads}
use Rattle.law_effect.proofs.Follows.{runs}
use Rattle.law_memory.specs.Bodies.{BodyAt, IsThere, AreThere, bodies_code, bodies_do, BodiesCalled, run_typed, ProgramRuns}
use Rattle.law_memory.proofs.Helpers.{table_called}

then_same : (e : Effect) (f g : Does) → ((st : State) (s : List Value) → f st s ≡ g st s) → then_run e f ≡ then_run e g
then_same (FellThrough st s) f g h = h st s
then_same (Branched k st s) f g h = refl
then_same (Returned st s) f g h = refl
then_same (Ended k out) f g h = refl
then_same (Traps out) f g h = refl
then_same (StillRunning out) f g h = refl

pub bodies_called : BodiesCalled
bodies_called modules fx n calls m top type [] are st s = refl
bodies_called modules fx n calls m top type (b ∷ bs) are st s =
    let is : IsThere modules fx m type b = are.0 in
    let rest = bodies_code top type bs in
    let did : ℕ → Effect = λ k. back k st.locals s (calls b.own b.function b.typed (I32 top ∷ []) st.bytes st.out) in
    table_called modules fx n calls m top b.global b.slot type b.own b.function b.typed st (is.slot st.bytes)
    (is.callee st.bytes) is.typed is.agrees is.is_body s rest
    ∙ ap (λ (t : FuncType). then_run (did (length t.results)) (effect modules fx n calls m rest)) is.is_body
    ∙ then_same (did 0) (effect modules fx n calls m rest) (bodies_do calls top bs)
    (λ st' s'. bodies_called modules fx n calls m top type bs are.1 st' s')

pub program_runs : ProgramRuns
unfolding calling
program_runs modules fx extra n m f index top type bs are bytes =
    subst (λ (e : Effect). RunLeads modules n 0
    (Going (store_of fx bytes) (enter_function m (run_typed index top type bs) []) []) e)
    (bodies_called modules fx (n + extra m f) (calling modules fx extra n n) m top type bs are
    (record { locals = []; bytes = bytes; out = [] }) [])
    (runs modules fx extra n m f (run_typed index top type bs) bytes)
