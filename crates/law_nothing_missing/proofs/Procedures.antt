-- Procedures of typed modules, to every depth of calls: the strict meaning is the meaning.
use Rattle.std.proofs.Common.{◌≡◌, ℕ, zero, suc, ◌-◌, pos, Bool, true, false, List, [], ◌∷◌, ◌++◌, map, length, Some, None, refl, ap, ◌∙◌, append_assoc}
use Rattle.std.specs.Prelude.{slice_get, ◌&&◌, nat_lt, nat_eq}
use Rattle.std.proofs.lemmas.Bool.{eq-eqb}
use Rattle.typed_tree.specs.declared.shape.Formal.{Formal}
use Rattle.typed_tree.specs.declared.typed_module.Routine.{Routine}
use Rattle.typed_tree.specs.declared.typed_module.TypedModule.{TypedModule}
use Rattle.layout_storage.specs.Types.{Ty}
use Rattle.layout_storage.specs.Frames.{formals_of, frame, module_row}
use Rattle.def_meaning.specs.Store.{Location}
use Rattle.def_meaning.specs.Answer.{storage_fault, no_return}
use Rattle.def_meaning.specs.Outcome.{Outcome}
use Rattle.def_meaning.specs.Environment.{Modules, Environment, Callee, Frames}
use Rattle.def_meaning.specs.Calls as meaning
use Rattle.def_meaning.specs.Calls.{Entered, calling, enter_call, environment_of, storage_need, is_function, is_there, variables_from}
use Rattle.law_simulation.specs.Frames.{Kinds, kinds_of}
use Rattle.law_simulation.specs.Passing.{Result, forms_of, result_of}
use Rattle.law_simulation.proofs.Headings.{means_it}
use Rattle.law_simulation.specs.ProceduresLaws.{callee_of}
use Rattle.law_simulation.specs.StmtsTyped.{AreStmts}
use Rattle.law_simulation.specs.TreesTyped.{Context}
use Rattle.law_simulation.specs.Linked as linked
use Rattle.law_simulation.specs.Linked.{Spot, context}
use Rattle.law_modules.specs.There.{are_types}
use Rattle.law_nothing_missing.specs.Worlds.{World}
use Rattle.law_nothing_missing.specs.Calls as strict
use Rattle.law_nothing_missing.specs.Calls.{all_suit, copies_of, calling as strict_calling}
use Rattle.law_nothing_missing.proofs.Worlds.{fine_less}
use Rattle.law_nothing_missing.proofs.Same.{Same, gives, ends, still, SameEnd, goes, leaves, returns, stops, unfinished, same_if, same_provided}
use Rattle.law_nothing_missing.proofs.Frames.{no_pairs, more_pairs, AreFrames, frames_more, IsGood}
use Rattle.law_nothing_missing.proofs.Exprs.{CalleeSame, AllSame, Knows, Fits}
use Rattle.law_nothing_missing.proofs.Stmts.{stmts_same}
use Rattle.law_nothing_missing.proofs.Formals.{all_given_suit, is_entered}

-- the world begins with the variables of all modules
pub record HasBase (p : Modules) (world : World) : Type 0 where
  pub more : World
  pub is : world ≡ map module_row p ++ more

pub base_more : (p : Modules) (world more : World) → HasBase p world → HasBase p (world ++ more)
base_more p world more b = record {
  more = b.more ++ more;
  is = ap (λ (w : World). w ++ more) b.is
      ∙ append_assoc (map module_row p) b.more more;
}

-- the end of a body is the answer of the call, where the activation's instances end
result_same : (p : Modules) (lacking : ℕ) (world more : World) (function : Bool) (r : Result) → function ≡ is_there r
    → (y z : Outcome) → SameEnd p (world ++ more) false (IsGood p r) y z
    → Same p world (IsGood p r) (strict.result lacking function y) (meaning.result function z)
result_same p lacking world more true r kind _ _ (goes st fine) = ends no_return st.out refl
result_same p lacking world more false None kind _ _ (goes st fine) =
    gives (pos 0) st (fine_less p world more st.store fine) tt
result_same p lacking world more false (Some t) kind _ _ (goes st fine) = cc kind
result_same p lacking world more function r kind _ _ (leaves st fine e) = cc e
result_same p lacking world more function r kind _ _ (returns v st fine good) =
    gives v st (fine_less p world more st.store fine) good
result_same p lacking world more function r kind _ _ (stops k out e) = ends k out e
result_same p lacking world more function r kind _ _ (unfinished out) = still out

-- the bodies of the procedures are typed, and what they may name is there
module _ (p : Modules) (lacking n : ℕ) (base : List Ty) (texts : Location → ℕ → ℕ) where
  abbrev pub context_of : (o : Spot p) → Context
  context_of o = context p base texts o.place o.home
      (kinds_of o.home.types o.routine ∷ linked.environment_of o.home o.routine)

  abbrev pub AreTyped : Type 0
  AreTyped = (o : Spot p) → (a b : ℕ) × AreStmts (context_of o) (result_of o.home.types o.routine.heading) [] false a b
      o.routine.body

  abbrev pub AreKnown : Type 0
  AreKnown = (place : ℕ) (m : TypedModule) → slice_get p place ≡ Some m → (kinds : List Kinds) (world : World)
      → HasBase p world → Knows (context p base texts place m kinds) world

  -- the types of the variables of procedures are there
  abbrev pub AreKept : Type 0
  AreKept = (o : Spot p) → are_types o.home.types o.routine.variables ≡ true

  module _ (typed : AreTyped) (known : AreKnown) (kept : AreKept) where
    -- one call, where those in its body are the same
    call_same : (d : ℕ) (o : Spot p) (frames : Frames) (world : World) → HasBase p world
        → AreFrames world (linked.environment_of o.home o.routine) frames
        → ((w : World) → HasBase p w → AllSame p w (strict_calling lacking p n d w) (calling p n d))
        → CalleeSame p world (strict_calling lacking p n (suc d) world) (calling p n (suc d))
        (callee_of o.place o.home o.routine frames) (forms_of o.home.types o.routine.heading)
        (result_of o.home.types o.routine.heading)
    unfolding strict_calling calling
    call_same d o frames world has is below vs given left st fine =
        let m : TypedModule = o.home in
        let r : Routine = o.routine in
        let c : Callee = callee_of o.place m r frames in
        let fs : List Formal = formals_of m.types r.heading in
        let result : Result = result_of m.types r.heading in
        let more : World = frame m.types r ∷ copies_of m.types fs vs in
        let w : World = world ++ more in
        let e : Entered = enter_call m.types r (length world) vs st.store in
        let left' : ℕ = left - storage_need m.types r vs in
        let q = is_entered p m.types r world vs st.store fine given in
        let kind : is_function m.types r ≡ is_there result = means_it m.types r.heading in
        let a : Environment = environment_of c (length world) e left' in
        let fit : Fits (context_of o) w [] a = record {
          place = refl;
          types = refl;
          frames = more_pairs (kinds_of m.types r) (linked.environment_of m r)
              (e.names ++ variables_from (length world) (length e.names) r.variables) frames q.names
              (frames_more world more (linked.environment_of m r) frames is);
          withs = no_pairs;
          next = q.next;
        } in
        let there = base_more p world more has in
        let t = typed o in
        let body = stmts_same (context_of o) lacking w (strict_calling lacking p n d w) (calling p n d)
        (known o.place m o.there (kinds_of m.types r ∷ linked.environment_of m r) w there) (below w there) result
        (is_function m.types r) kind n
        [] false t.0 t.1 r.body t.2 a fit (record st { store = e.store }) q.fine in
        let fresh : (nat_eq (length world) (length world) && all_suit m.types world fs vs && are_types m.types
        r.variables) ≡ true
        = ap (λ (b : Bool). b && all_suit m.types world fs vs && are_types m.types r.variables)
        (eq-eqb (length world) (length world) refl)
        ∙ ap (λ (b : Bool). b && are_types m.types r.variables) (all_given_suit p m.types world fs vs given)
        ∙ kept o in
        same_provided p world lacking (nat_eq (length world) (length world) && all_suit m.types world fs vs && are_types
        m.types r.variables) (strict.runs_with lacking p n (strict_calling lacking p n d) world c vs (length world)
        left) st fresh
        (same_if p world (nat_lt left (storage_need m.types r vs)) (ends storage_fault st.out refl)
        (result_same p lacking world more (is_function m.types r) result kind _ _ body))

    pub all_calls_same : (d : ℕ) (world : World) → HasBase p world
        → AllSame p world (strict_calling lacking p n d world) (calling p n d)
    unfolding strict_calling calling
    all_calls_same zero world has o frames is = λ vs given left st fine. still st.out
    all_calls_same (suc d) world has o frames is = call_same d o frames world has is (λ w b. all_calls_same d w b)
