-- What the body of a call does.
use Rattle.std.proofs.Common.{◌≡◌, ℕ, ◌-◌, ◌<◌, ◌≤◌, ℤ, Bool, true, false, List, [], ◌∷◌, ◌++◌, map, length, nat_lt, refl, ap, sym, ◌∙◌, lt-ltb, le-ltb}
use Rattle.std.specs.Prelude.{if◌then◌else◌}
use Rattle.def_meaning.specs.Store.{Store}
use Rattle.def_meaning.specs.Answer.{State as Meant, Answer as Given, Ended, storage_fault}
use Rattle.def_meaning.specs.Outcome.{Outcome as Course}
use Rattle.def_meaning.specs.Environment.{Modules, Named as Name, Passed as Sent, Environment as Setting, Callee as Asked}
use Rattle.def_meaning.specs.Expressions.{Asks}
use Rattle.def_meaning.specs.Statements.{does, in_turn}
use Rattle.def_meaning.specs.Calls.{Entered, variables_from, enter_call, environment_of, body_does, calling, storage_need, is_function, result, runs, runs_in}
use Rattle.typed_tree.specs.declared.statement.TypedStmt.{TypedStmt}
use Rattle.typed_tree.specs.declared.known_types.Types.{Types}
use Rattle.plain_store.specs.declared.prepared.Prepared.{Prepared}
use Rattle.plain_values.specs.declared.program.Program.{Program}
use Rattle.plain_values.specs.declared.program.Around.{Around}
use Rattle.plain_values.specs.declared.program.Callee.{Callee}
use Rattle.plain_steps.specs.declared.entering.Begun.{Begun}
use Rattle.plain_steps.specs.declared.entering.Request.{Request}
use Rattle.plain_steps.specs.Asked.{need_of, IsTooSmall, HasRoom}
use Rattle.plain_values.specs.Surroundings.{modules_of, asks_of, surroundings, frames_of, callee_of, argument_sent, steps_in}
use Rattle.plain_steps.specs.Entering.{names_of, begun_of, IsBodyOf}

abbrev setting_of : ℕ → Types → List (List Name) → List (List ℕ) → ℕ → ℕ → Setting
setting_of place types frames withs next left =
    record { place = place; types = types; frames = frames; withs = withs; next = next; free = left }

setting_is : (program : Program) (depth : ℕ) (c : Callee) (activation : ℕ) (b : Begun) (left : ℕ) (a : Around)
    (st : Meant) → IsBodyOf program depth c activation b left a
    → surroundings a ≡ environment_of (callee_of c) activation (begun_of b st) left
unfolding surroundings callee_of
setting_is program depth c activation b left a st i =
    ap (λ (k : ℕ). setting_of (k) (a.home.body.now.types) (frames_of a.frames) (a.withs) (a.next) (a.left)) i.place
    ∙ ap (λ (m : Prepared). setting_of (c.place) (m.body.now.types) (frames_of a.frames) (a.withs) (a.next) (a.left))
    i.home
    ∙ ap (λ (fs : List (List Name)). setting_of (c.place) (c.home.body.now.types) (fs) (a.withs) (a.next) (a.left))
    i.frames
    ∙ ap (λ (ws : List (List ℕ)). setting_of (c.place) (c.home.body.now.types)
    ((names_of b.names ++ variables_from activation (length (names_of b.names)) c.routine.now.variables)
    ∷ frames_of c.frames) (ws) (a.next) (a.left)) i.withs
    ∙ ap (λ (k : ℕ). setting_of (c.place) (c.home.body.now.types)
    ((names_of b.names ++ variables_from activation (length (names_of b.names)) c.routine.now.variables)
    ∷ frames_of c.frames) ([]) (k) (a.left)) i.next
    ∙ ap (λ (k : ℕ). setting_of (c.place) (c.home.body.now.types)
    ((names_of b.names ++ variables_from activation (length (names_of b.names)) c.routine.now.variables)
    ∷ frames_of c.frames) ([]) (b.next) (k)) i.free

steps_are : (program : Program) (depth : ℕ) (c : Callee) (activation : ℕ) (b : Begun) (left : ℕ) (a : Around)
    (st0 : Meant) → IsBodyOf program depth c activation b left a → (ss : List TypedStmt) (st : Meant)
    → steps_in a ss st ≡ body_does (modules_of program) program.bound (calling (modules_of program) program.bound depth)
    ss (environment_of (callee_of c) activation (begun_of b st0) left) st
unfolding steps_in asks_of
steps_are program depth c activation b left a st0 i ss st =
    ap (λ (x : Setting). in_turn (map (does (modules_of a.program.now)
    (calling (modules_of a.program.now) a.program.now.bound a.depth) a.program.now.bound) ss) x st)
    (setting_is program depth c activation b left a st0 i)
    ∙ ap (λ (p : Program). in_turn (map (does (modules_of p) (calling (modules_of p) p.bound a.depth) p.bound) ss)
    (environment_of (callee_of c) activation (begun_of b st0) left) st) i.of
    ∙ ap (λ (d : ℕ). in_turn (map (does (modules_of program) (calling (modules_of program) program.bound d)
    program.bound) ss) (environment_of (callee_of c) activation (begun_of b st0) left) st) i.nests

abbrev rest_runs : Program → ℕ → Request → Meant → (need : ℕ) → Given ℤ
rest_runs program depth q st need = runs_in (modules_of program) program.bound
    (calling (modules_of program) program.bound depth) (callee_of q.callee) q.next
    (enter_call q.callee.home.body.now.types q.callee.routine.now q.next (map argument_sent q.passed) st.store)
    (q.left - need) st

pub too_small : (program : Program) (depth : ℕ) (q : Request) (st : Meant) → IsTooSmall q
    → runs (modules_of program) program.bound (calling (modules_of program) program.bound depth) (callee_of q.callee)
    (map argument_sent q.passed) q.next q.left st ≡ Ended storage_fault st.out
unfolding callee_of need_of
too_small program depth q st i = ap (λ (b : Bool). if b then Ended storage_fault st.out else rest_runs program depth q
    st (need_of q)) (lt-ltb q.left (need_of q) i.less)

pub fits : (program : Program) (depth rest : ℕ) (q : Request) (b : Begun) (a : Around) (st st1 : Meant) → HasRoom q rest
    → IsBodyOf program depth q.callee q.next b rest a
    → begun_of b st1 ≡ enter_call q.callee.home.body.now.types q.callee.routine.now q.next (map argument_sent q.passed)
    st.store → st1.out ≡ st.out
    → runs (modules_of program) program.bound (calling (modules_of program) program.bound depth) (callee_of q.callee)
    (map argument_sent q.passed) q.next q.left st
    ≡ result (is_function q.callee.home.body.now.types q.callee.routine.now)
    (steps_in a q.callee.routine.now.body st1)
unfolding callee_of need_of
fits program depth rest q b a st st1 r i g o =
    let p : Modules = modules_of program in
    let ask : Asks = calling (modules_of program) program.bound depth in
    ap (λ (x : Bool). if x then Ended storage_fault st.out else rest_runs program depth q st (need_of q))
    (le-ltb q.left (need_of q) r.fits)
    ∙ ap (λ (x : Entered). runs_in p program.bound ask (callee_of q.callee) q.next x (q.left - need_of q) st) (sym g)
    ∙ ap (λ (k : ℕ). runs_in p program.bound ask (callee_of q.callee) q.next (begun_of b st1) k st) (sym r.left_over)
    ∙ ap (λ (out : List ℕ). result (is_function q.callee.home.body.now.types q.callee.routine.now)
    (body_does p program.bound ask q.callee.routine.now.body
    (environment_of (callee_of q.callee) q.next (begun_of b st1) rest) (record { store = st1.store; out = out })))
    (sym o)
    ∙ ap (λ (x : Course). result (is_function q.callee.home.body.now.types q.callee.routine.now) x)
    (sym (steps_are program depth q.callee q.next b rest a st1 i q.callee.routine.now.body st1))

pub ruleset bodies = (too_small, fits)
