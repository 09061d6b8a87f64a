-- Labels and ends: out of blocks, round in loops, back from functions.
use Rattle.std.proofs.Common.{◌≡◌, ℕ, zero, suc, ◌-◌, ◌≤◌, List, [], ◌∷◌, ◌++◌, length, take, Bool, true, false, nat_le, Option, Some, None, if◌then◌else◌, refl, ap, ◌∙◌, subst, arith}
use Rattle.std.proofs.lemmas.List.{take-append-le, length-append}
use Rattle.std.proofs.lemmas.Bool.{le-leb}
use Rattle.std.proofs.Math.Dec.{leb-suc-suc, leb-suc-zero}
use Rattle.std.proofs.Math.Seq.{take-length}
use Rattle.wasm_tree.specs.declared.instr.Instr.{Instr}
use Rattle.wasm_tree.specs.declared.module.WModule.{WModule}
use Rattle.wasm_tree.specs.declared.store.Value.{Value}
use Rattle.wasm_tree.specs.declared.store.Store.{Store}
use Rattle.wasm_tree.specs.Machine.{Label, Activation, Config, Going, Over, Progress, trap_now, or_trap, split_last, split_end, keep_operands, branch_to, branch_by, end_block, return_to, reduce}
use Rattle.law_effect.specs.Effect.{Fixed, State, store_of, Effect, FellThrough, Branched, Returned, Ended, Traps, StillRunning, Does, or_traps, to_label, out_of, turn, turns, back, back_with}
use Rattle.law_effect.specs.Laws.{Around, frame, at, Reaches, GoesOn, Leads}
use Rattle.law_effect.proofs.Reaching.{silent, none, join, behind, begins, fewer, run-zero, got}

-- as in wasm_sound/proofs/Lists
pub split_last-push : {A : Type 0} (xs : List A) (x : A) → split_last (xs ++ x ∷ []) ≡ Some (xs, x)
split_last-push [] x = refl
split_last-push (y ∷ xs) x = rw (split_last-push xs x) refl

-- ---- branches print nothing

returned_silent : (st : Store) (callers : List Activation) (o : Option (List Value × List Value))
    → (or_trap o (λ p. return_to st callers p.1)).1 ≡ []
returned_silent st callers None = refl
returned_silent st callers (Some p) = go (split_last callers)
  where
    go : (q : Option (List Activation × Activation))
        → (elim q as (λ _. Progress) [
          | None ↦ (Over 0, [])
          | Some c ↦
              (Going st (record c.1 { stack = c.1.stack ++ p.1 }) c.0, [])
        ]).1 ≡ []
    go None = refl
    go (Some c) = refl

kept_silent : (st : Store) (now : Activation) (callers : List Activation) (l : List Label × Label)
    (o : Option (List Value × List Value))
    → (or_trap o (λ p. (
      Going st (record now { labels = l.0; rest = l.1.again; stack = keep_operands l.1.height p })
          callers,
      [],
    ))).1 ≡ []
kept_silent st now callers l None = refl
kept_silent st now callers l (Some p) = refl

pub found_silent : (st : Store) (now : Activation) (callers : List Activation) (o : Option (List Label × Label))
    → (branch_to st now callers o).1 ≡ []
found_silent st now callers None = returned_silent st callers (split_end now.arity now.stack)
found_silent st now callers (Some l) = kept_silent st now callers l (split_end l.1.arity now.stack)

pub branched_silent : (st : Store) (now : Activation) (callers : List Activation) (k : ℕ)
    → (branch_by st now callers k).1 ≡ []
branched_silent st now callers k = go (nat_le k (length now.labels))
    (split_last (take (length now.labels - k) now.labels))
  where
    go : (b : Bool) (o : Option (List Label × Label)) → (if b then branch_to st now callers o else trap_now).1 ≡ []
    go true o = found_silent st now callers o
    go false o = refl

-- ---- branches under one more label

-- under one more label
abbrev pub under : Around → Label → Around
under a l = record { arity = a.arity; labels = a.labels ++ l ∷ []; callers = a.callers }

one_longer : (ls : List Label) (l : Label) → length (ls ++ l ∷ []) ≡ suc (length ls)
one_longer ls l = length-append ls (l ∷ []) ∙ omega arith

at_all : (n : ℕ) (ls : List Label) → n ≡ length ls → take n ls ≡ ls
at_all n ls e = ap (λ (i : ℕ). take i ls) e ∙ take-length ls

within_same : (k : ℕ) (ls : List Label) (l : Label) → nat_le (suc k) (length (ls ++ l ∷ [])) ≡ nat_le k (length ls)
within_same k ls l = ap (nat_le (suc k)) (one_longer ls l) ∙ leb-suc-suc k (length ls)

taken_same : (k : ℕ) (ls : List Label) (l : Label)
    → take (length (ls ++ l ∷ []) - suc k) (ls ++ l ∷ []) ≡ take (length ls - k) ls
taken_same k ls l =
    let e : length (ls ++ l ∷ []) - suc k ≡ length ls - k = omega (arith, one_longer ls l) in
    ap (λ (i : ℕ). take i (ls ++ l ∷ [])) e ∙ take-append-le (length ls - k) ls (l ∷ []) (omega arith)

module _ (modules : List WModule) (fx : Fixed) (m : ℕ) (a : Around) where
  -- where a branch in the function goes to that finds so many labels
  abbrev to_found : (labels : List Label) → State → List Value → (Bool × List Label) → Progress
  to_found labels st stack q = if q.0 then branch_to (store_of fx st.bytes)
      (frame m (record a { labels = labels }) [] st stack) a.callers (split_last q.1) else trap_now

  found_same : (l : Label) (st : State) (stack : List Value) (o : Option (List Label × Label))
      → branch_to (store_of fx st.bytes) (frame m (under a l) [] st stack) a.callers o
      ≡ branch_to (store_of fx st.bytes) (frame m a [] st stack) a.callers o
  found_same l st stack None = refl
  found_same l st stack (Some q) = refl

  abbrev test : Bool → Progress → Progress
  test b p = if b then p else trap_now

  -- to a label further out
  branch_past : (l : Label) (st : State) (stack : List Value) (k : ℕ)
      → branch_by (store_of fx st.bytes) (frame m (under a l) [] st stack) a.callers (suc k)
      ≡ branch_by (store_of fx st.bytes) (frame m a [] st stack) a.callers k
  branch_past l st stack k =
      let labels = a.labels ++ l ∷ [] in
      let where_to : Option (List Label × Label) = split_last (take (length labels - suc k) labels) in
      found_in (nat_le (suc k) (length labels)) where_to
      ∙ ap (λ b. test b (branch_to (store_of fx st.bytes) (frame m a [] st stack) a.callers where_to))
      (within_same k a.labels l)
      ∙ ap (λ ls. test (nat_le k (length a.labels))
      (branch_to (store_of fx st.bytes) (frame m a [] st stack) a.callers (split_last ls)))
      (taken_same k a.labels l)
    where
      found_in : (b : Bool) (o : Option (List Label × Label))
          → test b (branch_to (store_of fx st.bytes) (frame m (under a l) [] st stack) a.callers o)
          ≡ test b (branch_to (store_of fx st.bytes) (frame m a [] st stack) a.callers o)
      found_in b o = ap (test b) (found_same l st stack o)

  -- to this label
  branch_here : (l : Label) (st : State) (stack : List Value)
      → branch_by (store_of fx st.bytes) (frame m (under a l) [] st stack) a.callers 0
      ≡ branch_to (store_of fx st.bytes) (frame m (under a l) [] st stack) a.callers (Some (a.labels, l))
  branch_here l st stack =
      ap (λ b. test b (branch_to (store_of fx st.bytes) (frame m (under a l) [] st stack) a.callers
      (split_last (take (length (a.labels ++ l ∷ []) - 0) (a.labels ++ l ∷ [])))))
      (le-leb 0 (length (a.labels ++ l ∷ [])) (omega arith))
      ∙ ap (λ ls. branch_to (store_of fx st.bytes) (frame m (under a l) [] st stack) a.callers (split_last ls))
      (at_all (length (a.labels ++ l ∷ []) - 0) (a.labels ++ l ∷ []) (omega arith))
      ∙ ap (branch_to (store_of fx st.bytes) (frame m (under a l) [] st stack) a.callers) (split_last-push a.labels l)

  -- a branch to this label leads where its code leads
  to_label_leads : (w : ℕ) (l : Label) (rest : List Instr) (c : Config) (first : List ℕ) (st : State)
      (stack : List Value) (go : Does) → Reaches modules c first
      (branch_by (store_of fx st.bytes) (frame m (under a l) [] st stack) a.callers 0).0 st.out
      → ((s : State) (vs : List Value) → Leads modules fx w m a rest (at fx m a l.again s vs) s.out (go s vs))
      → Leads modules fx w m a rest c first (to_label l.arity l.height st stack go)
  to_label_leads w l rest c first st stack go r next =
      cases (split_end l.arity stack) (subst (λ (p : Progress). Reaches modules c first p.0 st.out)
      (branch_here l st stack) r)
    where
      cases : (o : Option (List Value × List Value))
          → Reaches modules c first (or_trap o (λ p. (at fx m a l.again st (keep_operands l.height p), []))).0 st.out
          → Leads modules fx w m a rest c first (or_traps st.out o (λ p. go st (keep_operands l.height p)))
      cases None q = q
      cases (Some p) q = behind modules fx m a w rest c _ first st.out (go st (keep_operands l.height p)) q
          (next st (keep_operands l.height p))

  -- the end of the code under a label
  label_ends : (l : Label) (st : State) (stack : List Value)
      → Reaches modules (at fx m (under a l) [] st stack) st.out (at fx m a l.rest st stack) st.out
  unfolding reduce
  label_ends l st stack = silent modules (at fx m (under a l) [] st stack) (at fx m a l.rest st stack) st.out
      (ends l st stack)
    where
      ends : (l : Label) (st : State) (stack : List Value)
          → reduce modules (at fx m (under a l) [] st stack) ≡ (at fx m a l.rest st stack, [])
      ends l st stack = ap (end_block (store_of fx st.bytes) (frame m (under a l) [] st stack) a.callers)
          (split_last-push a.labels l)

  past : (c : Config) (first : List ℕ) (l : Label) (k : ℕ) (st : State) (stack : List Value)
      → Reaches modules c first (branch_by (store_of fx st.bytes) (frame m (under a l) [] st stack) a.callers (suc k)).0
      st.out → Reaches modules c first (branch_by (store_of fx st.bytes) (frame m a [] st stack) a.callers k).0 st.out
  past c first l k st stack r = subst (λ (p : Progress). Reaches modules c first p.0 st.out) (branch_past l st stack k)
      r

  abbrev pub block_label : (arity height : ℕ) → List Instr → Label
  block_label arity height rest = record { arity = arity; height = height; again = rest; rest = rest }

  pub block_leads : (w arity height : ℕ) (rest : List Instr) (c : Config) (first : List ℕ) (e : Effect)
      → Leads modules fx w m (under a (block_label arity height rest)) [] c first e
      → Leads modules fx w m a rest c first (out_of arity height e)
  block_leads w arity height rest c first (FellThrough st stack) l =
      join modules c _ _ first st.out st.out l (label_ends (block_label arity height rest) st stack)
  block_leads w arity height rest c first (Branched zero st stack) l =
      to_label_leads w (block_label arity height rest) rest c first st stack FellThrough l
      (λ s vs. none modules _ s.out)
  block_leads w arity height rest c first (Branched (suc k) st stack) l =
      past c first (block_label arity height rest) k st stack l
  block_leads w arity height rest c first (Returned st stack) l = l
  block_leads w arity height rest c first (Ended k out) l = l
  block_leads w arity height rest c first (Traps out) l = l
  block_leads w arity height rest c first (StillRunning out) l = l

  abbrev pub loop_label : (height : ℕ) (again rest : List Instr) → Label
  loop_label height again rest = record { arity = 0; height = height; again = again; rest = rest }

  turn_leads : (w height : ℕ) (again rest : List Instr) (c : Config) (first : List ℕ) (next : Does) (e : Effect)
      → Leads modules fx w m (under a (loop_label height again rest)) [] c first e
      → ((s : State) (vs : List Value) → Leads modules fx w m a rest (at fx m a again s vs) s.out (next s vs))
      → Leads modules fx w m a rest c first (turn height e next)
  turn_leads w height again rest c first next (FellThrough st stack) l go =
      join modules c _ _ first st.out st.out l (label_ends (loop_label height again rest) st stack)
  turn_leads w height again rest c first next (Branched zero st stack) l go =
      to_label_leads w (loop_label height again rest) rest c first st stack next l go
  turn_leads w height again rest c first next (Branched (suc k) st stack) l go =
      past c first (loop_label height again rest) k st stack l
  turn_leads w height again rest c first next (Returned st stack) l go = l
  turn_leads w height again rest c first next (Ended k out) l go = l
  turn_leads w height again rest c first next (Traps out) l go = l
  turn_leads w height again rest c first next (StillRunning out) l go = l

  pub still : (c : Config) (out : List ℕ) (store : Store) (now : Activation) (callers : List Activation)
      → GoesOn modules 0 (Going store now callers) out out
  still c out store now callers = record {
    count = 0;
    enough = omega arith;
    store = store;
    now = now;
    callers =
        callers;
    path = run-zero modules out (Going store now callers);
  }

  -- the turns of a loop, each of which begins its body by one reduction
  pub turns_lead : (w : ℕ) (again code rest : List Instr) (body : Does)
      → ((st : State) (stack : List Value) → reduce modules (at fx m a again st stack)
      ≡ (at fx m (under a (loop_label (length stack) again rest)) code st stack, []))
      → ((l : Label) (st : State) (stack : List Value)
      → Leads modules fx w m (under a l) [] (at fx m (under a l) code st stack) st.out (body st stack))
      → (k v : ℕ) → v ≤ k → v ≤ w → (st : State) (stack : List Value)
      → Leads modules fx v m a rest (at fx m a again st stack) st.out (turns k body st stack)
  turns_lead w again code rest body enters h zero zero le le' st stack = still (at fx m a again st stack) st.out _ _ _
  turns_lead w again code rest body enters h zero (suc v) le le' st stack = absurd (omega (arith, le))
  turns_lead w again code rest body enters h (suc k) zero le le' st stack =
      fewer modules fx m a 0 1 rest _ st.out (turns (suc k) body st stack) (omega arith)
      (begins modules fx m a 0 rest _ _ st.out (turns (suc k) body st stack) (enters st stack)
      (turn_leads 0 (length stack) again rest _ st.out (turns k body) (body st stack)
      (fewer modules fx m (under a (loop_label (length stack) again rest)) 0 w [] _ st.out (body st stack) (omega arith)
      (h (loop_label (length stack) again rest) st stack))
      (λ s vs. turns_lead w again code rest body enters h k 0 (omega arith) (omega arith) s vs)))
  turns_lead w again code rest body enters h (suc k) (suc v) le le' st stack =
      begins modules fx m a v rest _ _ st.out (turns (suc k) body st stack) (enters st stack)
      (turn_leads v (length stack) again rest _ st.out (turns k body) (body st stack)
      (fewer modules fx m (under a (loop_label (length stack) again rest)) v w [] _ st.out (body st stack)
      (omega (arith, le')) (h (loop_label (length stack) again rest) st stack))
      (λ s vs. turns_lead w again code rest body enters h k v (omega (arith, le)) (omega (arith, le')) s vs))

  -- ---- back from functions

  -- a function that was called, with this caller
  abbrev pub callee : (arity : ℕ) → (caller : Activation) → Around
  callee arity caller = record { arity = arity; labels = []; callers = a.callers ++ caller ∷ [] }

  back_with_leads : (w k arity : ℕ) (rest : List Instr) (c : Config) (first : List ℕ) (st : State) (below : List Value)
      (s : State) (vs : List Value)
      → Reaches modules c first (branch_to (store_of fx s.bytes)
      (frame k (callee arity (frame m a rest st below)) [] s vs) (a.callers ++ frame m a rest st below ∷ []) None).0
      s.out → Leads modules fx w m a rest c first (back_with arity st.locals below s vs)
  back_with_leads w k arity rest c first st below s vs r = cases (split_end arity vs) r
    where
      back_to : (p : List Value × List Value)
          → return_to (store_of fx s.bytes) (a.callers ++ frame m a rest st below ∷ []) p.1
          ≡ (at fx m a rest (record s { locals = st.locals }) (below ++ p.1), [])
      back_to p = ap (λ o. elim o as (λ _. Progress) [
        | None ↦ (Over 0, [])
        | Some q ↦ (
          Going (store_of fx s.bytes) (record q.1 { stack = q.1.stack ++ p.1 }) q.0,
          [],
        )
      ]) (split_last-push a.callers (frame m a rest st below))

      cases : (o : Option (List Value × List Value))
          → Reaches modules c first (or_trap o
          (λ p. return_to (store_of fx s.bytes) (a.callers ++ frame m a rest st below ∷ []) p.1)).0 s.out
          → Leads modules fx w m a rest c first
          (or_traps s.out o (λ p. FellThrough (record s { locals = st.locals }) (below ++ p.1)))
      cases None q = q
      cases (Some p) q = subst (λ (x : Progress). Reaches modules c first x.0 s.out) (back_to p) q

  function_ends : (k arity : ℕ) (caller : Activation) (s : State) (vs : List Value)
      → Reaches modules (at fx k (callee arity caller) [] s vs) s.out
      (branch_to (store_of fx s.bytes) (frame k (callee arity caller) [] s vs) (a.callers ++ caller ∷ []) None).0
      s.out
  unfolding reduce
  function_ends k arity caller s vs =
      let to : Progress = branch_to (store_of fx s.bytes) (frame k (callee arity caller) [] s vs)
      (a.callers ++ caller ∷ []) None in
      silent modules _ to.0 s.out (ap (λ (w : List ℕ). got to.0 w)
      (found_silent (store_of fx s.bytes) (frame k (callee arity caller) [] s vs) (a.callers ++ caller ∷ []) None))

  -- a branch out of a function by more than one label
  abbrev too_far : (k arity : ℕ) → Activation → (j : ℕ) → State → List Value → Bool → Progress
  too_far k arity caller j s vs b = test b
      (branch_to (store_of fx s.bytes) (frame k (callee arity caller) [] s vs) (a.callers ++ caller ∷ [])
      (split_last (take (0 - suc j) [])))

  pub back_leads : (w k arity : ℕ) (rest : List Instr) (c : Config) (first : List ℕ) (st : State) (below : List Value)
      (e : Effect) → Leads modules fx w k (callee arity (frame m a rest st below)) [] c first e
      → Leads modules fx w m a rest c first (back arity st.locals below e)
  back_leads w k arity rest c first st below (FellThrough s vs) l =
      back_with_leads w k arity rest c first st below s vs
      (join modules c _ _ first s.out s.out l (function_ends k arity (frame m a rest st below) s vs))
  back_leads w k arity rest c first st below (Branched zero s vs) l =
      back_with_leads w k arity rest c first st below s vs l
  back_leads w k arity rest c first st below (Branched (suc j) s vs) l =
      subst (λ (b : Bool). Reaches modules c first (too_far k arity (frame m a rest st below) j s vs b).0 s.out)
      (leb-suc-zero j) l
  back_leads w k arity rest c first st below (Returned s vs) l = back_with_leads w k arity rest c first st below s vs l
  back_leads w k arity rest c first st below (Ended j out) l = l
  back_leads w k arity rest c first st below (Traps out) l = l
  back_leads w k arity rest c first st below (StillRunning out) l = l
