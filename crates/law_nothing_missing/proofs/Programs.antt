-- Whole programs: the strict run is the run.
use Rattle.std.proofs.Common.{◌≡◌, ℕ, zero, suc, ◌-◌, ◌<◌, ℤ, pos, Bool, true, false, ◌==◌, ◌||◌, List, [], ◌∷◌, ◌++◌, map, length, Option, Some, None, if◌then◌else◌, refl, sym, ap, subst, ◌∙◌, append_assoc, length-append, arith}
use Rattle.std.specs.Prelude.{slice_get, ◌&&◌}
use Rattle.std.specs.List.{list_any}
use Rattle.std.proofs.lemmas.Bool.{eqb-true, eq-eqb, ltb-true}
use Rattle.typed_tree.specs.declared.meaning.Variable.{Variable}
use Rattle.typed_tree.specs.declared.typed_module.Imported.{Imported}
use Rattle.typed_tree.specs.declared.typed_module.TypedModule.{TypedModule}
use Rattle.typed_tree.specs.declared.typed_module.Which.TheVariants as which
use Rattle.layout_storage.specs.Types.{Ty, Callable, Cell, Heading, row, frame_of, component}
use Rattle.layout_storage.specs.Shapes.{tree}
use Rattle.layout_storage.specs.Frames.{module_row}
use Rattle.def_meaning.specs.Store.{Location, fresh, first_in}
use Rattle.def_meaning.specs.Answer.{State, Ended, StillRunning, Value}
use Rattle.def_meaning.specs.Outcome.{Outcome, Normal, Exited, Returned}
use Rattle.def_meaning.specs.Environment.{Modules, Environment, module_place}
use Rattle.def_meaning.specs.Calls.{calling}
use Rattle.def_meaning.specs.Runs as meaning
use Rattle.def_meaning.specs.Runs.{run, storage, body_frame, first_state, body_environment}
use Rattle.law_memory.specs.Relation.{IsProcedureValue, Empty}
use Rattle.law_memory.proofs.Worlds.{component_old}
use Rattle.def_scheme.specs.Exprs.{is_own, import_place, imported_row}
use Rattle.def_scheme.specs.Functions.{routine_of}
use Rattle.law_modules.specs.Linked.{Program}
use Rattle.law_modules.proofs.Numbers.{mapped_at}
use Rattle.law_modules.proofs.Own.{at_place}
use Rattle.law_simulation.specs.Frames.{Kinds}
use Rattle.law_simulation.specs.TreesTyped.{IsVariable, kinds_around}
use Rattle.law_simulation.specs.Linked.{Spot, context, text_of, environment_of}
use Rattle.law_simulation.specs.RunsPrograms.{ground}
use Rattle.law_simulation.specs.Knows.{IsKnown, Knows as KnowsImport}
use Rattle.law_simulation.specs.Modules.{AreModules, AreTypedModules}
use Rattle.law_simulation.proofs.Globals.{each_at, import_of}
use Rattle.law_nothing_missing.specs.Worlds.{World, component_in, type_at}
use Rattle.law_modules.specs.There.{are_types, are_whole}
use Rattle.law_nothing_missing.specs.Expressions.{is_module, if_provided}
use Rattle.law_nothing_missing.specs.Calls.{calling as strict_calling}
use Rattle.law_nothing_missing.specs.Runs as strict
use Rattle.law_nothing_missing.specs.Runs.{first_world, has_types, all_have_types, strict_run}
use Rattle.law_nothing_missing.specs.Laws.{StrictRuns, NothingLacks}
use Rattle.law_nothing_missing.proofs.Worlds.{none_some, there_more, IsFine}
use Rattle.law_nothing_missing.proofs.Same.{IsEnd, SameEnd, goes, leaves, returns, stops, unfinished}
use Rattle.law_nothing_missing.proofs.Frames.{no_pairs, IsGood}
use Rattle.law_nothing_missing.proofs.Exprs.{AllSame, Fits}
use Rattle.law_nothing_missing.proofs.Stmts.{stmts_same}
use Rattle.law_nothing_missing.proofs.Procedures.{HasBase, AreTyped, AreKnown, AreKept, all_calls_same}

-- the same outcome, and a number of the language, where it is one
abbrev IsWithin : Outcome → Type 0
IsWithin (Value Normal st) = Unit {0}
IsWithin (Value Exited st) = Unit {0}
IsWithin (Value (Returned v) st) = Unit {0}
IsWithin (Ended k out) = IsEnd k
IsWithin (StillRunning out) = Unit {0}

record SameRun (y z : Outcome) : Type 0 where
  pub is : y ≡ z
  pub within : IsWithin y

-- ---- lists

any_place : {A : Type 0} (f : A → Bool) (xs : List A) (k : ℕ) (x : A) → slice_get xs k ≡ Some x → f x ≡ true
    → list_any f xs ≡ true
any_place f [] k x h e = absurd (none_some x h)
any_place f (y ∷ ys) zero x h e = let same : y ≡ x = cc h in ap (λ (b : Bool). b || list_any f ys) (ap f same ∙ e)
any_place f (y ∷ ys) (suc k) x h e = either (f y) (list_any f ys) (any_place f ys k x h e)
  where
    either : (b c : Bool) → c ≡ true → (b || c) ≡ true
    either true c e = refl
    either false c e = e

length_map : {A B : Type 0} (f : A → B) (xs : List A) → length (map f xs) ≡ length xs
length_map f [] = refl
length_map f (x ∷ xs) = ap suc (length_map f xs)

-- ---- procedures that stand in no other

no_kinds : (m : TypedModule) (level : ℕ) → kinds_around m level None ≡ []
no_kinds m zero = refl
no_kinds m (suc k) = no_kinds m k

-- ---- the first store

-- a procedure variable is empty
fresh_empty : (world : World) (t : Ty) (l : Location) (h : Heading)
    → type_at (world ++ t ∷ []) l ≡ Some (Cell (Callable h)) → fresh (row world) l ≡ pos 0
unfolding fresh component
fresh_empty world t [] h e = absurd (none_some (Cell (Callable h)) e)
fresh_empty [] t (i ∷ r) h e = refl
fresh_empty (u ∷ world) t (zero ∷ r) h e = ap first_in e
fresh_empty (u ∷ world) t (suc i ∷ r) h e = fresh_empty world t (i ∷ r) h e

first_fine : (p : Modules) → IsFine p (first_world p) (first_state p).store
first_fine p = record {
  each = λ l h e. subst (λ (v : ℤ). IsProcedureValue p h v)
      (sym (fresh_empty (map module_row p) (frame_of []) l h e)) Empty;
}

-- ---- what the trees of a module may name

module _ (p : Program) (pages : ℕ) (modules : AreModules p) where
  abbrev base : List Ty
  base = (ground p pages).base

  abbrev texts : Location → ℕ → ℕ
  texts = (ground p pages).texts

  module _ (place : ℕ) (m : TypedModule) (at : slice_get p place ≡ Some m) where
    known_module : (home : ℕ) (b : Bool) → is_own m home ≡ b → IsKnown m home → is_module p home ≡ true
    known_module home true e k = any_place (λ m. m.types.home == home) p place m at
        (eq-eqb m.types.home home (sym (eqb-true home m.types.home e)))
    known_module home false e k =
        let i = import_of m home e k in
        let t = each_at (KnowsImport p m) m.imports (import_place m home) i.import i.there
        (modules place m at).coherent.imports in
        any_place (λ m. m.types.home == home) p (module_place p i.import.number) t.home t.there
        (eq-eqb t.home.types.home home (t.number ∙ i.number))

    -- a variable is there, where the row of its module has it
    row_there : (home : ℕ) (found : TypedModule) (j : ℕ) (t : Ty) (world : World) → HasBase p world
        → slice_get p (module_place p home) ≡ Some found → component (module_row found) (j ∷ []) ≡ Some t
        → type_at world (module_place p home ∷ j ∷ []) ≡ Some t
    row_there home found j t world has is e =
        ap (λ (w : World). type_at w (module_place p home ∷ j ∷ [])) has.is
        ∙ there_more (map module_row p) has.more (module_place p home ∷ j ∷ []) t
        (ap (λ (o : Option Ty). component_in o (j ∷ [])) (mapped_at module_row p (module_place p home) found is)
        ∙ e)

    variable_there : (kinds : List Kinds) (world : World) → HasBase p world → (v : Variable) (t : Ty)
        → IsVariable (context p base texts place m kinds) v t → (b : Bool) → is_own m v.home ≡ b
        → type_at world (module_place p v.home ∷ v.number ∷ []) ≡ Some t
    variable_there kinds world has v t is true e =
        row_there v.home m v.number t world has
        (ap (λ (n : ℕ). slice_get p (module_place p n)) (eqb-true v.home m.types.home e)
        ∙ ap (slice_get p) (modules place m at).coherent.own ∙ at)
        (ap (λ (b : Bool). component (if b then module_row m else imported_row m.types
        (slice_get m.imports (import_place m v.home))) (v.number ∷ [])) (sym e) ∙ is.type)
    variable_there kinds world has v t is false e =
        let i = import_of m v.home e is.known in
        let k = each_at (KnowsImport p m) m.imports (import_place m v.home) i.import i.there
        (modules place m at).coherent.imports in
        let first : component (row (map (tree m.types) i.import.variables)) (v.number ∷ []) ≡ Some t =
        ap (λ (o : Option Imported). component (imported_row m.types o) (v.number ∷ [])) (sym i.there)
        ∙ ap (λ (b : Bool). component (if b then module_row m else imported_row m.types
        (slice_get m.imports (import_place m v.home))) (v.number ∷ [])) (sym e)
        ∙ is.type in
        row_there v.home k.home v.number t world has
        (ap (λ (n : ℕ). slice_get p (module_place p n)) (sym i.number) ∙ k.there)
        (ap (λ (ts : List Ty). component (row ts) (v.number ∷ [])) k.variables
        ∙ component_old (map (tree m.types) i.import.variables) k.more v.number [] t first)

  outermost : (o : Spot p) (number : ℕ) → o.at ≡ which.Module number → environment_of o.home o.routine ≡ []
  outermost o number e =
      let none : o.routine.around ≡ None = at_place (λ r. r.around ≡ None) o.home.procedures number o.routine
      (ap (routine_of o.home) (sym e) ∙ o.is) (modules o.place o.home o.there).outermost in
      ap (kinds_around o.home o.routine.level) none ∙ no_kinds o.home o.routine.level

  all_known : (lacking n : ℕ) → AreKnown p lacking n base texts
  all_known lacking n place m at kinds world has = record {
    modules = λ home k. known_module place m at home (is_own m home) refl k;
    globals = λ v t is. variable_there place m at kinds world has v t is (is_own m v.home) refl;
    outermost = outermost;
  }

  -- ---- the bodies of modules

  module _ (typed : AreTypedModules p pages) (lacking n : ℕ) where
    all_typed : AreTyped p lacking n base texts
    all_typed o = let t = (typed o.place o.home o.there).procedures o.at o.routine o.is in
        (text_of o.home o.at, t.0, t.1)

    all_kept : AreKept p lacking n base texts
    all_kept o = (typed o.place o.home o.there).kept o.at o.routine o.is

    first_base : HasBase p (first_world p)
    first_base = record { more = frame_of [] ∷ []; is = refl }

    all_asked : AllSame p (first_world p) (strict_calling lacking p n n (first_world p)) (calling p n n)
    all_asked = all_calls_same p lacking n base texts all_typed (all_known lacking n) all_kept n (first_world p)
        first_base

    -- what comes after a body
    body_then : (y z : Outcome) (f g : State → Outcome) → SameEnd p (first_world p) false (IsGood p None) y z
        → ((st : State) → IsFine p (first_world p) st.store → SameRun (f st) (g st))
        → SameRun (strict.then_body lacking y f) (meaning.then_body z g)
    body_then _ _ f g (goes st fine) next = next st fine
    body_then _ _ f g (leaves st fine e) next = cc e
    body_then _ _ f g (returns v st fine good) next = next st fine
    body_then _ _ f g (stops k out e) next = record { is = refl; within = e }
    body_then _ _ f g (unfinished out) next = record { is = refl; within = tt }

    next_place : suc (length p) ≡ length (first_world p)
    next_place = let x = length-append (map module_row p) (frame_of [] ∷ []) in let y = length_map module_row p in
        omega (arith, x, y)

    bodies_same : (left : ℕ) (before ms : Program) → p ≡ before ++ ms → (st : State) → IsFine p (first_world p) st.store
        → SameRun (strict.bodies lacking p n left (length before) ms st) (meaning.bodies p n left (length before) ms st)
    bodies_same left before [] is st fine = record { is = refl; within = refl }
    bodies_same left before (m ∷ ms) is st fine =
        let place : ℕ = length before in
        let at : slice_get p place ≡ Some m = ap (λ (q : Program). slice_get q place) is ∙ get_here before ms m in
        let t = (typed place m at).body in
        let a : Environment = body_environment p place m left in
        let fit : Fits (context p base texts place m []) (first_world p) [] a =
        record { place = refl; types = refl; frames = no_pairs; withs = no_pairs; next = next_place } in
        let body = stmts_same (context p base texts place m []) lacking (first_world p)
        (strict_calling lacking p n n (first_world p)) (calling p n n)
        (all_known lacking n place m at [] (first_world p) first_base) all_asked None false refl n
        [] false _ t.0 m.body t.1 a fit st fine in
        let more : length (before ++ m ∷ []) ≡ suc place =
        (let x = length-append before (m ∷ []) in omega (arith, x)) in
        body_then _ _ (strict.bodies lacking p n left (suc place) ms) (meaning.bodies p n left (suc place) ms) body
        (λ st fine. subst (λ (k : ℕ). SameRun (strict.bodies lacking p n left k ms st)
        (meaning.bodies p n left k ms st)) more
        (bodies_same left (before ++ m ∷ []) ms (is ∙ sym (append_assoc before (m ∷ []) ms)) st fine))
      where
        get_here : (before rest : Program) (m : TypedModule) → slice_get (before ++ m ∷ rest) (length before) ≡ Some m
        get_here [] rest m = refl
        get_here (x ∷ before) rest m = get_here before rest m

-- ---- the types of variables

both_true : (a b : Bool) → a ≡ true → b ≡ true → (a && b) ≡ true
both_true true b h k = k
both_true false b h k = cc h

all_by_place : (ms : Modules) → ((k : ℕ) (m : TypedModule) → slice_get ms k ≡ Some m → has_types m ≡ true)
    → all_have_types ms ≡ true
all_by_place [] h = refl
all_by_place (m ∷ ms) h = both_true (has_types m) (all_have_types ms) (h 0 m refl)
    (all_by_place ms (λ k x e. h (suc k) x e))

types_there : (p : Program) (pages : ℕ) → AreModules p → AreTypedModules p pages → all_have_types p ≡ true
types_there p pages modules typed =
    all_by_place p (λ k m e. both_true (are_whole m.types) (are_types m.types m.variables) (modules k m e).whole
    (typed k m e).variables)

same_run : (p : Program) (pages : ℕ) → AreModules p → AreTypedModules p pages → (lacking n : ℕ)
    → SameRun (strict_run lacking p pages n) (run p pages n)
unfolding strict_run run
same_run p pages modules typed lacking n =
    subst (λ (b : Bool). SameRun (if_provided lacking b (strict.bodies lacking p n (storage p pages - body_frame) 0 p)
    (first_state p)) (run p pages n)) (sym (types_there p pages modules typed))
    (bodies_same p pages modules typed lacking n (storage p pages - body_frame) [] p refl (first_state p)
    (first_fine p))

pub strict_runs : StrictRuns
strict_runs p pages modules typed lacking n = (same_run p pages modules typed lacking n).is

pub nothing_lacks : NothingLacks
nothing_lacks p pages modules typed lacking n above out e =
    let below : lacking < 10 = ltb-true lacking 10 (subst IsWithin e (same_run p pages modules typed lacking n).within)
    in
    absurd (omega (arith, above, below))
