-- The whole run, body by body, and what follows from it for the machine.
use Rattle.std.proofs.Common.{◌≡◌, ℕ, zero, suc, ◌+◌, ◌-◌, Bool, List, [], ◌∷◌, ◌++◌, Option, Some, None, if◌then◌else◌, refl, sym, ap, subst, ◌∙◌, append_assoc, arith}
use Rattle.wasm_tree.specs.declared.module.WModule.{WModule}
use Rattle.wasm_tree.specs.declared.store.Value.{Value}
use Rattle.wasm_tree.specs.declared.store.Value.TheVariants.{I32}
use Rattle.wasm_tree.specs.Machine.{Config, Going, Over, Trapped, Progress, Typed, enter_function}
use Rattle.wasm_tree.specs.Machine as machine
use Rattle.law_effect.specs.Effect.{State as Target, store_of, Effect, FellThrough, Branched, Returned, Ended, Traps, StillRunning, Calling, back, effect, calling, nest_calls, then_run}
use Rattle.law_effect.specs.Laws.{Reaches, GoesOn, RunLeads, comes, output_shown, IsOver}
use Rattle.law_effect.proofs.Follows.{nested_runs}
use Rattle.law_effect.proofs.Whole.{nested_only, nested_prints}
use Rattle.layout_storage.specs.Types.{row}
use Rattle.layout_storage.specs.Sizes.{size}
use Rattle.def_meaning.specs.Answer.{State as Source}
use Rattle.def_meaning.specs.Outcome.{Outcome, Normal, Exited}
use Rattle.def_meaning.specs.Outcome as outcome
use Rattle.def_meaning.specs.Answer as answer
use Rattle.def_meaning.specs.Environment.{Modules}
use Rattle.def_meaning.specs.Runs.{storage, body_frame, first_state, then_body}
use Rattle.def_meaning.specs.Later.{Begins, output_of}
use Rattle.def_meaning.specs.Whiles.{run_with}
use Rattle.def_meaning.proofs.After.{After, open_yet}
use Rattle.def_meaning.proofs.After as further
use Rattle.def_meaning.proofs.Ran.{still, goes_on}
use Rattle.law_memory.specs.Bodies.{BodyAt, bodies_do, run_typed}
use Rattle.law_memory.proofs.Bodies.{bodies_called}
use Rattle.law_simulation.specs.Begun.{bodies, run}
use Rattle.law_simulation.proofs.Printing.{printed_between}
use Rattle.law_simulation.proofs.Sandwich.{run_before, run_behind}
use Rattle.law_simulation.specs.Bodies.{Ground, IsHeld, BodyEnds, statements_do, AllDo, BodiesBehave}

-- ---- the run of the bodies is that of the program

-- a run ends as the program does, or still runs as it does
abbrev RunSame : Effect → Outcome → Type 0
RunSame r (answer.Value Normal s) = ⊥
RunSame r (answer.Value Exited s) = ⊥
RunSame r (answer.Value (outcome.Returned v) s) = ⊥
RunSame r (answer.Ended k out) = comes 0 r ≡ Some (Over k, out)
RunSame r (answer.StillRunning out) = r ≡ StillRunning out

module _ (p : Modules) (pages n : ℕ) (g : Ground) (calls : Calling) where
  abbrev left : ℕ
  left = storage p pages - body_frame

  abbrev top : ℕ
  top = size (row g.base)

  abbrev From : ℕ → Modules → List BodyAt → Type 0
  From place ms bs = (s : Source) (st : Target) → IsHeld g s st.bytes → st.out ≡ s.out
      → RunSame (bodies_do calls top bs st []) (bodies p n left place ms s)

  next_bodies : (place : ℕ) (ms : Modules) (bs : List BodyAt) → From place ms bs
      → (locals : List Value) (r : Effect) (o : Outcome) → BodyEnds g locals [] r o
      → RunSame (then_run r (bodies_do calls top bs)) (then_body o (bodies p n left place ms))
  next_bodies place ms bs rest locals r (answer.Value Normal s) h =
      subst (λ (e : Effect). RunSame (then_run e (bodies_do calls top bs)) (bodies p n left place ms s)) (sym h.run)
      (rest s (record { locals = locals; bytes = h.bytes; out = s.out }) h.held refl)
  next_bodies place ms bs rest locals r (answer.Value Exited s) h =
      subst (λ (e : Effect). RunSame (then_run e (bodies_do calls top bs)) (bodies p n left place ms s)) (sym h.run)
      (rest s (record { locals = locals; bytes = h.bytes; out = s.out }) h.held refl)
  next_bodies place ms bs rest locals r (answer.Value (outcome.Returned v) s) h =
      subst (λ (e : Effect). RunSame (then_run e (bodies_do calls top bs)) (bodies p n left place ms s)) (sym h.run)
      (rest s (record { locals = locals; bytes = h.bytes; out = s.out }) h.held refl)
  next_bodies place ms bs rest locals r (answer.Ended k out) h =
      ap (λ (e : Effect). comes 0 (then_run e (bodies_do calls top bs))) h
  next_bodies place ms bs rest locals r (answer.StillRunning out) h =
      ap (λ (e : Effect). then_run e (bodies_do calls top bs)) h

  bodies_same : (place : ℕ) (ms : Modules) (bs : List BodyAt) → AllDo g calls (statements_do p pages n) place ms bs
      → From place ms bs
  bodies_same place [] [] all s st held out = ap (λ (o : List ℕ). Some (Over 0, o)) out
  bodies_same place [] (b ∷ bs) all s st held out = absurd all
  bodies_same place (m ∷ ms) [] all s st held out = absurd all
  bodies_same place (m ∷ ms) (b ∷ bs) all s st held out =
      next_bodies (suc place) ms bs (bodies_same (suc place) ms bs all.1) st.locals
      (back 0 st.locals [] (calls b.own b.function b.typed (I32 top ∷ []) st.bytes st.out))
      (statements_do p pages n place m s)
      (subst (λ (o : List ℕ). BodyEnds g st.locals []
      (back 0 st.locals [] (calls b.own b.function b.typed (I32 top ∷ []) st.bytes o))
      (statements_do p pages n place m s)) (sym out) (all.0 s st.bytes held st.locals []))

-- ---- what follows

-- a run that comes to an end reaches it
module _ (modules : List WModule) (least : ℕ) (c : Config) (k : ℕ) (out : List ℕ) where
  abbrev Comes : Type 0
  Comes = (m : ℕ) × (machine.run modules m c ≡ (Over k, out))

  abbrev first_of : Option Progress → Progress
  first_of None = (Trapped, [])
  first_of (Some x) = x

  arrives : (d : Config) (last : List ℕ) → Reaches modules c [] d last
      → ◌≡◌ {A = Option Progress} (Some (d, last)) (Some (Over k, out)) → Comes
  arrives d last r e = (r.count, r.path ∙ ap first_of e)

  comes_there : (e : Effect) → RunLeads modules least 0 c e → comes 0 e ≡ Some (Over k, out) → Comes
  comes_there (FellThrough st stack) r e = arrives _ st.out r e
  comes_there (Branched zero st stack) r e = arrives _ st.out r e
  comes_there (Branched (suc l) st stack) r e = arrives Trapped st.out r e
  comes_there (Returned st stack) r e = arrives _ st.out r e
  comes_there (Ended j last) r e = arrives (Over j) last r e
  comes_there (Traps last) r e = arrives Trapped last r e
  comes_there (StillRunning last) r e = absurd (cc e)

abbrev second_of : Option Progress → List ℕ
second_of None = []
second_of (Some x) = x.1

shown_is : (e : Effect) (k : ℕ) (out : List ℕ) → comes 0 e ≡ Some (Over k, out) → output_shown e ≡ out
shown_is (FellThrough st stack) k out h = ap second_of h
shown_is (Branched zero st stack) k out h = ap second_of h
shown_is (Branched (suc l) st stack) k out h = ap second_of h
shown_is (Returned st stack) k out h = ap second_of h
shown_is (Ended j last) k out h = ap second_of h
shown_is (Traps last) k out h = ap second_of h
shown_is (StillRunning last) k out h = absurd (cc h)

same_shown : (e : Effect) (o : Outcome) → RunSame e o → output_shown e ≡ output_of o
same_shown e (answer.Value Normal s) h = absurd h
same_shown e (answer.Value Exited s) h = absurd h
same_shown e (answer.Value (outcome.Returned v) s) h = absurd h
same_shown e (answer.Ended k out) h = shown_is e k out h
same_shown e (answer.StillRunning out) h = ap output_shown h

running_comes : (e : Effect) (out : List ℕ) (x : Progress) → e ≡ StillRunning out → comes 0 e ≡ Some x → ⊥
running_comes e out x is h = none_some (sym (ap (comes 0) is) ∙ h)
  where
    none_some : ◌≡◌ {A = Option Progress} None (Some x) → ⊥
    none_some h = cc h

-- where the machine is over, so is the program
ended_is : (e : Effect) (o : Outcome) → RunSame e o → (d : Config) (out : List ℕ) → comes 0 e ≡ Some (d, out) → (k : ℕ)
    × (d ≡ Over k) × (o ≡ answer.Ended k out)
ended_is e (answer.Value Normal s) h d out is = absurd h
ended_is e (answer.Value Exited s) h d out is = absurd h
ended_is e (answer.Value (outcome.Returned v) s) h d out is = absurd h
ended_is e (answer.Ended k last) h d out is =
    let same : ◌≡◌ {A = Option Progress} (Some (d, out)) (Some (Over k, last)) = sym is ∙ h in (
      k,
      ap (λ (x : Option Progress). (of x).0) same,
      ap (answer.Ended k)
          (sym (ap (λ (x : Option Progress). (of x).1) same)),
    )
  where
    of : Option Progress → Progress
    of None = (Trapped, [])
    of (Some x) = x
ended_is e (answer.StillRunning last) h d out is = absurd (running_comes e last (d, out) h is)

unfinished_is : (e : Effect) (o : Outcome) (out : List ℕ) → RunSame e o → o ≡ answer.StillRunning out
    → e ≡ StillRunning out
unfinished_is e o out h is = subst (RunSame e) is h

stopped_is : (e : Effect) (o : Outcome) (k : ℕ) (out : List ℕ) → RunSame e o → o ≡ answer.Ended k out
    → comes 0 e ≡ Some (Over k, out)
stopped_is e o k out h is = subst (RunSame e) is h

-- what a run leads to does not depend on how its effect is written
goes_still : (modules : List WModule) (least : ℕ) (c : Config) (e : Effect) (out : List ℕ)
    → RunLeads modules least 0 c e → e ≡ StillRunning out → GoesOn modules least c [] out
goes_still modules least c e out r is = subst (RunLeads modules least 0 c) is r

-- a run that goes on goes on with a lesser bound
goes_yet : {out : List ℕ} {x y : Outcome} (last : List ℕ) → After out x y → y ≡ answer.StillRunning last
    → (first : List ℕ) × (x ≡ answer.StillRunning first)
goes_yet last (further.same x b) is = (last, is)
goes_yet last (open_yet first x b c) is = (first, refl)

-- the machine prints what the program does
prints_there : (modules : List WModule) (least : ℕ) (c : Config) (e : Effect) (o : Outcome) → RunSame e o
    → RunLeads modules least 0 c e → (m : ℕ) × ((machine.run modules m c).1 ≡ output_of o)
prints_there modules least c e (answer.Value Normal s) h leads = absurd h
prints_there modules least c e (answer.Value Exited s) h leads = absurd h
prints_there modules least c e (answer.Value (outcome.Returned v) s) h leads = absurd h
prints_there modules least c e (answer.Ended k out) h leads = let w = comes_there modules least c k out e leads h in
    (w.0, ap (λ (x : Progress). x.1) w.1)
prints_there modules least c e (answer.StillRunning out) h leads = let w = goes_still modules least c e out leads h in
    (w.count, ap (λ (x : Progress). x.1) w.path)

pub bodies_behave : BodiesBehave
unfolding run_with nest_calls
bodies_behave p pages g modules fx serves extra m f index type bs none there all bytes held = record {
  ends = λ n k out is. comes_there modules (suc n) c k out (does (suc n)) (leads (suc n))
      (stopped_is (does (suc n)) (run p (suc n) pages) k out (same (suc n)) (still k out (run_behind p pages n) is));
  goes_on = λ on j over.
      let s = on j in
      let first = goes_yet s.0 (run_before p pages j) s.1 in
      running_comes (does j) first.0 _ (unfinished_is (does j) (run p j pages) first.0 (same j) first.1)
      (only j (machine.run modules j c).0 (machine.run modules j c).1 over refl);
  only = λ j d out over is. let e = ended_is (does j) (run p j pages) (same j) d out (only j d out over is) in
      (j, e.0, e.1, still e.0 out (run_before p pages j) e.2);
  prints = λ j.
      let b = nested_prints modules fx serves extra (suc j) m f none t bytes j (omega arith) in
      let more = goes_on (run_before p pages j) in (
        j,
        b.0 ++ more.more,
        sym more.rest ∙ ap (λ (xs : List ℕ). xs ++ more.more)
            (sym (same_shown (does j) (run p j pages) (same j)) ∙ b.1)
            ∙ append_assoc (machine.run modules j c).1 b.0 more.more,
      );
  prints_also = λ n out is.
      let first = goes_yet out (run_before p pages n) is in
      let w = goes_still modules n c (does n) first.0 (leads n)
      (unfinished_is (does n) (run p n pages) first.0 (same n) first.1) in
      let last = prints_there modules (suc n) c (does (suc n)) (run p (suc n) pages) (same (suc n)) (leads (suc n)) in
      let printed_first : (machine.run modules w.count c).1 ≡ first.0 = ap (λ (x : Progress). x.1) w.path in
      let before : Begins (machine.run modules w.count c).1 out =
      subst (λ (xs : List ℕ). Begins xs out) (sym printed_first)
      (subst (λ (o : Outcome). Begins (output_of o) out) first.1
      (subst (λ (o : Outcome). Begins (output_of (run p n pages)) (output_of o)) is
      (goes_on (run_before p pages n)))) in
      let later : Begins out (machine.run modules last.0 c).1 =
      subst (Begins out) (sym last.1) (subst
      (λ (o : Outcome). Begins (output_of o) (output_of (run p (suc n) pages))) is (goes_on (run_behind p pages n)))
      in
      let m = printed_between modules c w.count last.0 out before later in
      let enough = w.enough in
      let after_first = m.1 in
      (m.0, omega (arith, enough, after_first), m.2);
}
  where
    t : Typed
    t = run_typed index (size (row g.base)) type bs

    c : Config
    c = Going (store_of fx bytes) (enter_function m t []) []

    does : ℕ → Effect
    does n = nest_calls modules fx serves extra n (suc (suc n)) m f t [] bytes []

    begin : Target
    begin = record { locals = []; bytes = bytes; out = [] }

    does_is : (n : ℕ) → does n ≡ bodies_do (nest_calls modules fx serves extra n (suc n)) (size (row g.base)) bs begin
        []
    does_is n =
        ap (λ (b : Bool). if b then calling modules fx extra n (suc (suc n)) m f t [] bytes [] else effect modules fx
        (n + extra m f) (nest_calls modules fx serves extra n (suc n)) m t.function.body.code begin []) none
        ∙ bodies_called modules fx (n + extra m f) (nest_calls modules fx serves extra n (suc n)) m (size (row g.base))
        type bs there begin []

    same : (n : ℕ) → RunSame (does n) (run p n pages)
    same n = subst (λ (e : Effect). RunSame e (run p n pages)) (sym (does_is n))
        (bodies_same p pages n g (nest_calls modules fx serves extra n (suc n)) 0 p bs (all n) (first_state p) begin
        held refl)

    leads : (n : ℕ) → RunLeads modules n 0 c (does n)
    leads n = nested_runs modules fx serves extra n (suc n) m f (omega arith) none t bytes

    only : (j : ℕ) (d : Config) (out : List ℕ) → IsOver d → machine.run modules j c ≡ (d, out)
        → comes 0 (does j) ≡ Some (d, out)
    only j d out over is = nested_only modules fx serves extra (suc j) m f none t bytes j (omega arith) d out over is
