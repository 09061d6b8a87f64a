-- The run of a program, from its parts.
use Rattle.std.proofs.Common.{◌≡◌, ℕ, suc, ◌+◌, ◌-◌, ◌*◌, ◌<◌, ◌≤◌, ℤ, List, [], ◌∷◌, map, length, get_or, drop, take, Result, Ok, Err, IfOk, refl, ap, sym, ◌∙◌, subst, arith}
use Rattle.std.proofs.lemmas.List.{length-map, take_rest}
use Rattle.m2_tree.specs.declared.pos.Pos.{Pos}
use Rattle.typed_tree.specs.declared.statement.TypedStmt.{TypedStmt}
use Rattle.typed_tree.specs.declared.typed_module.TypedModule.{TypedModule}
use Rattle.typed_tree.specs.declared.known_types.Types.{Types}
use Rattle.layout_storage.specs.declared.layout.Layout.{Layout}
use Rattle.layout_storage.specs.Types.{row}
use Rattle.layout_storage.specs.Sizes.{size}
use Rattle.layout_storage.specs.Frames.{module_row}
use Rattle.layout_storage.specs.Texts.{characters, module_texts}
use Rattle.layout_storage.specs.Capped.{cap_size}
use Rattle.layout_storage.specs.Layouts.{IsAnswer}
use Rattle.def_meaning.specs.Store.{Store, fresh}
use Rattle.def_meaning.specs.Answer.{State as Meant, Ended, StillRunning}
use Rattle.def_meaning.specs.Outcome.{Outcome as Course}
use Rattle.def_meaning.specs.Environment.{Modules, Environment as Setting, Named as Name}
use Rattle.def_meaning.specs.Statements.{does, in_turn}
use Rattle.def_meaning.specs.Calls.{body_does, calling}
use Rattle.def_meaning.specs.Runs.{run, bodies, data_size, storage, body_frame, first_state, body_environment, then_body}
use Rattle.plain_store.specs.declared.state.State.{State}
use Rattle.plain_store.specs.declared.state.Stop.{Stop}
use Rattle.plain_store.specs.declared.state.Stop.TheVariants as stop
use Rattle.plain_store.specs.declared.state.Outcome.{Outcome}
use Rattle.plain_store.specs.declared.state.Outcome.TheVariants as outcome
use Rattle.plain_store.specs.declared.blanks.Blank.{Blank}
use Rattle.plain_store.specs.declared.prepared.Prepared.{Prepared}
use Rattle.plain_values.specs.declared.program.Named.{Named}
use Rattle.plain_values.specs.declared.program.Program.{Program}
use Rattle.plain_values.specs.declared.program.Around.{Around}
use Rattle.plain_run.specs.declared.whole.Report.{Report}
use Rattle.plain_store.specs.Contents.{contents}
use Rattle.plain_store.specs.Seen.{view_of, stop_course, outcome_course}
use Rattle.plain_values.specs.Surroundings.{modules_in, modules_of, asks_of, surroundings, frames_of, steps_in}
use Rattle.plain_store.specs.Blanks.{row_blank, variables_of}
use Rattle.plain_run.specs.Whole.{IsBodyAround, course_of, data_of, bodies_in}
use Rattle.plain_store.proofs.Fresh.{module_size_is, whole_fresh}

pub texts_exact : (m : TypedModule) (r : Result Layout Pos) (x : Layout) → IsAnswer m r → r ≡ Ok x
    → x.texts ≡ characters (module_texts m)
texts_exact m r x h e =
    let i = subst (λ (y : Result Layout Pos). IsAnswer m y) e h in
    i.2.texts ∙ fits (size (module_row m)) (characters (module_texts m)) i.1.bytes
  where
    fits : (s n : ℕ) → s + n ≤ 16777216 → cap_size n ≡ n
    fits s n h = omega (arith, h)

pub module_size : (m : TypedModule) (b : Blank) → b ≡ variables_of m → b.size ≡ size (module_row m)
module_size m b h = ap (λ (x : Blank). x.size) h ∙ module_size_is m

-- the modules behind the first
abbrev behind : List Prepared → List Prepared
behind hs = take (length hs - 1) (drop 1 hs)

sums : (s c b t own later d n : ℕ) → b ≡ s → t ≡ c → own ≡ b + t → later ≡ d → n ≡ own + later → n ≡ s + c + d
sums s c b t own later d n e f g h k = omega (arith, e, f, g, h, k)

data_is : (hs : List Prepared) (home : Prepared) (b : Blank) (t own later n : ℕ) → 1 ≤ length hs
    → home ≡ get_or hs 0 home → b ≡ variables_of home.body.now → t ≡ characters (module_texts home.body.now)
    → own ≡ b.size + t → later ≡ data_of (modules_in (behind hs)) → n ≡ own + later → n ≡ data_of (modules_in hs)
unfolding data_of
data_is [] home b t own later n l i e f g h k = absurd (omega (arith, l))
data_is (x ∷ xs) home b t own later n l i e f g h k =
    sums (size (module_row home.body.now)) (characters (module_texts home.body.now)) b.size t own later
    (data_size (modules_in xs)) n (module_size home.body.now b e) f g
    (h ∙ ap (λ (ys : List Prepared). data_size (modules_in ys)) (take_rest (x ∷ xs) 1)) k
    ∙ ap (λ (y : Prepared). size (module_row y.body.now) + characters (module_texts y.body.now) + data_size
    (modules_in xs)) i

pub data_more : {E : Type 0} (hs : List Prepared) (home : Prepared) (b : Blank) (t own later : ℕ) (r : Result ℕ E)
    → 1 ≤ length hs → home ≡ get_or hs 0 home → b ≡ variables_of home.body.now
    → t ≡ characters (module_texts home.body.now) → own ≡ b.size + t → later ≡ data_of (modules_in (behind hs))
    → IfOk r (λ n. n ≡ own + later) → IfOk r (λ n. n ≡ data_of (modules_in hs))
data_more hs home b t own later (Ok n) l i e f g h k = data_is hs home b t own later n l i e f g h k
data_more hs home b t own later (Err z) l i e f g h k = tt

pub data_none : (hs : List Prepared) → length hs < 1 → 0 ≡ data_of (modules_in hs)
unfolding data_of
data_none [] h = refl
data_none (x ∷ xs) h = absurd (omega (arith, h))

pub storage_is : (p : Modules) (pages used all left : ℕ) → used ≡ data_of p → all ≡ pages * 65536
    → left ≡ all - used - 16 → left ≡ storage p pages - body_frame
unfolding size data_of
storage_is p pages used all left d a l = l ∙ ap (λ (k : ℕ). k - used - 16) a ∙ ap (λ (k : ℕ). pages * 65536 - k - 16) d

pub all_fresh : (p : Modules) (b : Blank) → b ≡ row_blank (map variables_of p)
    → contents b.held ≡ fresh (row (map module_row p))
all_fresh p b e = ap (λ (x : Blank). contents x.held) e ∙ whole_fresh p

-- ---- bodies

abbrev setting_of : ℕ → Types → List (List Name) → List (List ℕ) → ℕ → ℕ → Setting
setting_of place types frames withs next left =
    record { place = place; types = types; frames = frames; withs = withs; next = next; free = left }

setting_is : (program : Program) (home : Prepared) (place left : ℕ) (a : Around)
    → IsBodyAround program home place left a
    → surroundings a ≡ body_environment (modules_of program) place home.body.now left
unfolding surroundings modules_of
setting_is program home place left a i =
    ap (λ (k : ℕ). setting_of (k) (a.home.body.now.types) (frames_of a.frames) (a.withs) (a.next) (a.left)) i.at
    ∙ ap (λ (m : Prepared). setting_of (place) (m.body.now.types) (frames_of a.frames) (a.withs) (a.next) (a.left))
    i.body
    ∙ ap (λ (fs : List (List Named)). setting_of (place) (home.body.now.types) (frames_of fs) (a.withs) (a.next)
    (a.left)) i.frames
    ∙ ap (λ (ws : List (List ℕ)). setting_of (place) (home.body.now.types) ([]) (ws) (a.next) (a.left)) i.withs
    ∙ ap (λ (k : ℕ). setting_of (place) (home.body.now.types) ([]) ([]) (k) (a.left))
    (i.next ∙ ap suc (sym (length-map program.modules.now (λ (m : Prepared). m.body.now))))
    ∙ ap (λ (k : ℕ). setting_of (place) (home.body.now.types) ([]) ([]) (suc (length (modules_in program.modules.now)))
    (k)) i.free

steps_are : (program : Program) (home : Prepared) (place left : ℕ) (a : Around) → IsBodyAround program home place left a
    → (st : Meant)
    → body_does (modules_of program) program.bound (calling (modules_of program) program.bound program.bound)
    home.body.now.body (body_environment (modules_of program) place home.body.now left) st
    ≡ steps_in a home.body.now.body st
unfolding steps_in asks_of
steps_are program home place left a i st = sym (
    ap (λ (x : Setting). in_turn (map (does (modules_of a.program.now)
    (calling (modules_of a.program.now) a.program.now.bound a.depth) a.program.now.bound) home.body.now.body) x st)
    (setting_is program home place left a i)
    ∙ ap (λ (p : Program). in_turn (map (does (modules_of p) (calling (modules_of p) p.bound a.depth) p.bound)
    home.body.now.body) (body_environment (modules_of program) place home.body.now left) st) i.of
    ∙ ap (λ (d : ℕ). in_turn (map (does (modules_of program) (calling (modules_of program) program.bound d)
    program.bound) home.body.now.body) (body_environment (modules_of program) place home.body.now left) st) i.nests)

next_is : (place next : ℕ) → next ≡ place + 1 → next ≡ suc place
next_is place next e = omega (arith, e)

begun : (program : Program) (home : Prepared) (place left : ℕ) (a : Around) (ms : Modules) (st : Meant)
    → IsBodyAround program home place left a
    → bodies_in program left place (home.body.now ∷ ms) st
    ≡ then_body (steps_in a home.body.now.body st) (bodies_in program left (suc place) ms)
unfolding bodies_in
begun program home place left a ms st i =
    ap (λ (o : Course). then_body o (bodies_in program left (suc place) ms)) (steps_are program home place left a i st)

-- the same, as the code knows it

begun_with : (program : Program) (hs : List Prepared) (home : Prepared) (place next left : ℕ) (a : Around)
    (ss : List TypedStmt) (x : Course) (st : Meant) → 1 ≤ length hs → home ≡ get_or hs 0 home
    → IsBodyAround program home place left a → next ≡ place + 1 → ss ≡ home.body.now.body → x ≡ steps_in a ss st
    → then_body x (bodies_in program left next (modules_in (behind hs)))
    ≡ bodies_in program left place (modules_in hs) st
unfolding bodies_in
begun_with program [] home place next left a ss x st n h i e b g = absurd (omega (arith, n))
begun_with program (y ∷ ys) home place next left a ss x st n h i e b g =
    ap (λ (zs : List Prepared). then_body x (bodies_in program left next (modules_in zs))) (take_rest (y ∷ ys) 1)
    ∙ ap (λ (o : Course). then_body o (bodies_in program left next (modules_in ys)))
    (g ∙ ap (λ (ts : List TypedStmt). steps_in a ts st) b)
    ∙ ap (λ (k : ℕ). then_body (steps_in a home.body.now.body st) (bodies_in program left k (modules_in ys)))
    (next_is place next e)
    ∙ sym (begun program home place left a (modules_in ys) st i)
    ∙ ap (λ (m : Prepared). bodies_in program left place (m.body.now ∷ modules_in ys) st) h

pub no_bodies : (program : Program) (hs : List Prepared) (left place : ℕ) (st : Meant) → length hs < 1
    → Ended 0 st.out ≡ bodies_in program left place (modules_in hs) st
unfolding bodies_in
no_bodies program [] left place st h = refl
no_bodies program (x ∷ xs) left place st h = absurd (omega (arith, h))

goes : {E : Type 0} (r : Result Stop E) (st : State) (x y : Course) → IfOk r (λ s. stop_course s st ≡ x) → x ≡ y
    → IfOk r (λ s. stop_course s st ≡ y)
goes (Ok s) st x y h e = h ∙ e
goes (Err z) st x y h e = tt

module _ {E : Type 0} (program : Program) (hs : List Prepared) (home : Prepared) (place next left : ℕ) (a : Around)
    (ss : List TypedStmt) (o : Outcome) (st : Meant) (st1 st2 : State) (r : Result Stop E) (n : 1 ≤ length hs)
    (h : home ≡ get_or hs 0 home) (i : IsBodyAround program home place left a) (e : next ≡ place + 1)
    (b : ss ≡ home.body.now.body) (g : outcome_course o st1 ≡ steps_in a ss st) where
  abbrev rest : Meant → Course
  rest = bodies_in program left next (modules_in (behind hs))

  all_is : then_body (outcome_course o st1) rest ≡ bodies_in program left place (modules_in hs) st
  all_is = begun_with program hs home place next left a ss (outcome_course o st1) st n h i e b g

  ended_by : (w : Outcome) → o ≡ w → then_body (outcome_course w st1) rest
      ≡ bodies_in program left place (modules_in hs) st
  ended_by w q = ap (λ (y : Outcome). then_body (outcome_course y st1) rest) (sym q) ∙ all_is

  pub body_went : o ≡ outcome.Normal → IfOk r (λ s. stop_course s st2 ≡ rest (view_of st1))
      → IfOk r (λ s. stop_course s st2 ≡ bodies_in program left place (modules_in hs) st)
  body_went q k = goes r st2 (rest (view_of st1)) _ k (ended_by outcome.Normal q)

  pub body_left : o ≡ outcome.Exited → IfOk r (λ s. stop_course s st2 ≡ rest (view_of st1))
      → IfOk r (λ s. stop_course s st2 ≡ bodies_in program left place (modules_in hs) st)
  body_left q k = goes r st2 (rest (view_of st1)) _ k (ended_by outcome.Exited q)

  pub body_came : (v : ℤ) → o ≡ outcome.Returned v → IfOk r (λ s. stop_course s st2 ≡ rest (view_of st1))
      → IfOk r (λ s. stop_course s st2 ≡ bodies_in program left place (modules_in hs) st)
  body_came v q k = goes r st2 (rest (view_of st1)) _ k (ended_by (outcome.Returned v) q)

stays : (s : Stop) (x : State) (rest : Meant → Course) → stop_course s x ≡ then_body (stop_course s x) rest
stays (stop.Ended k) x rest = refl
stays stop.StillRunning x rest = refl

pub body_stopped : (program : Program) (hs : List Prepared) (home : Prepared) (place next left : ℕ) (a : Around)
    (ss : List TypedStmt) (o : Outcome) (s : Stop) (st : Meant) (st1 : State) → 1 ≤ length hs → home ≡ get_or hs 0 home
    → IsBodyAround program home place left a → next ≡ place + 1 → ss ≡ home.body.now.body
    → outcome_course o st1 ≡ steps_in a ss st → o ≡ outcome.Stopped s
    → stop_course s st1 ≡ bodies_in program left place (modules_in hs) st
body_stopped program hs home place next left a ss o s st st1 n h i e b g q =
    stays s st1 (bodies_in program left next (modules_in (behind hs)))
    ∙ ended_by {E = ℕ} program hs home place next left a ss o st st1 st1 (Err 0) n h i e b g (outcome.Stopped s) q

-- ---- the whole

pub run_is : (ms : List Prepared) (program : Program) (pages left : ℕ) (st st' : State) (x : Report)
    → program.modules.now ≡ ms → left ≡ storage (modules_in ms) pages - body_frame
    → contents st.store ≡ fresh (row (map module_row (modules_in ms))) → st.out ≡ []
    → stop_course x.end st' ≡ bodies_in program left 0 (modules_in ms) (view_of st) → x.out ≡ st'.out
    → course_of x ≡ run (modules_in ms) pages program.bound
unfolding run modules_of bodies_in
run_is ms program pages left st st' x p l s o h out =
    ends x.end x.out st' out
    ∙ h
    ∙ ap (λ (f : Store). bodies (modules_in program.modules.now) program.bound left 0 (modules_in ms)
    (record { store = f; out = st.out })) s
    ∙ ap (λ (w : List ℕ). bodies (modules_in program.modules.now) program.bound left 0 (modules_in ms)
    (record { store = fresh (row (map module_row (modules_in ms))); out = w })) o
    ∙ ap (λ (ps : List Prepared). bodies (modules_in ps) program.bound left 0 (modules_in ms)
    (first_state (modules_in ms))) p
    ∙ ap (λ (k : ℕ). bodies (modules_in ms) program.bound k 0 (modules_in ms) (first_state (modules_in ms))) l
  where
    ends : (s : Stop) (out : List ℕ) (st : State) → out ≡ st.out
        → course_of (record { end = s; out = out }) ≡ stop_course s st
    ends (stop.Ended k) out st e = ap (λ (w : List ℕ). Ended k w) e
    ends stop.StillRunning out st e = ap (λ (w : List ℕ). StillRunning w) e
