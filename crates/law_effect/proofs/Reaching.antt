-- Runs, one after the other, and where effects lead.
use Rattle.std.proofs.Common.{◌≡◌, ℕ, zero, suc, ◌+◌, ◌≤◌, List, [], ◌++◌, sym, ap, ◌∙◌, append_assoc, arith}
use Rattle.std.proofs.lemmas.List.{append-nil}
use Prim.Native.Nat.add
use Rattle.wasm_tree.specs.declared.instr.Instr.{Instr}
use Rattle.wasm_tree.specs.declared.module.WModule.{WModule}
use Rattle.wasm_tree.specs.declared.store.Value.{Value}
use Rattle.wasm_tree.specs.Machine.{Config, Progress, reduce, run}
use Rattle.law_effect.specs.Effect.{Fixed, State, Effect, FellThrough, Branched, Returned, Ended, Traps, StillRunning, Does, then_run}
use Rattle.law_effect.specs.Laws.{Around, at, after, Reaches, GoesOn, Leads}

abbrev pub got : Config → List ℕ → Progress
got c out = (c, out)

-- one reduction, and others
pub run-suc : (modules : List WModule) (i : ℕ) (first : List ℕ) (c : Config)
    → after first (run modules (suc i) c) ≡ after (first ++ (reduce modules c).1) (run modules i (reduce modules c).0)
unfolding run
run-suc modules i first c =
    let f : Progress = reduce modules c in
    let o : Progress = run modules i f.0 in
    ap (λ (w : List ℕ). got o.0 w) (sym (append_assoc first f.1 o.1))

pub run-zero : (modules : List WModule) (first : List ℕ) (c : Config) → after first (run modules zero c) ≡ got c first
unfolding run
run-zero modules first c = ap (λ (w : List ℕ). got c w) (append-nil first)

pub run-add : (modules : List WModule) (i j : ℕ) (first : List ℕ) (c : Config)
    → after first (run modules (i + j) c) ≡ after (after first (run modules i c)).1
    (run modules j (after first (run modules i c)).0)
run-add modules zero j first c =
    ap (λ (n : ℕ). after first (run modules n c)) (add.zero j)
    ∙ ap (λ (x : Progress). after x.1 (run modules j x.0)) (sym (run-zero modules first c))
run-add modules (suc i) j first c =
    let f : Progress = reduce modules c in
    ap (λ (n : ℕ). after first (run modules n c)) (add.suc i j) ∙ run-suc modules (i + j) first c
    ∙ run-add modules i j (first ++ f.1) f.0
    ∙ ap (λ (x : Progress). after x.1 (run modules j x.0)) (sym (run-suc modules i first c))

module _ (modules : List WModule) where
  pub none : (c : Config) (first : List ℕ) → Reaches modules c first c first
  none c first = record { count = 0; path = run-zero modules first c }

  pub one : (c d : Config) (first bytes : List ℕ) → reduce modules c ≡ (d, bytes)
      → Reaches modules c first d (first ++ bytes)
  one c d first bytes e = record {
    count = 1;
    path = run-suc modules 0 first c ∙ ap (λ (x : Progress). after (first ++ x.1) (run modules 0 x.0)) e
        ∙ run-zero modules (first ++ bytes) d;
  }

  -- one that prints nothing
  abbrev pub silent : (c d : Config) (first : List ℕ) → reduce modules c ≡ (d, []) → Reaches modules c first d first
  silent c d first e = record {
    count = 1;
    path = run-suc modules 0 first c ∙ ap (λ (x : Progress). after (first ++ x.1) (run modules 0 x.0)) e
        ∙ run-zero modules (first ++ []) d ∙ ap (got d) (append-nil first);
  }

  pub join : (c d e : Config) (first middle last : List ℕ) → Reaches modules c first d middle
      → Reaches modules d middle e last → Reaches modules c first e last
  join c d e first middle last r q = record {
    count = r.count + q.count;
    path = run-add modules r.count q.count first c ∙ ap (λ (x : Progress). after x.1 (run modules q.count x.0)) r.path
        ∙ q.path;
  }

  goes_on : (v w : ℕ) (c d : Config) (first middle last : List ℕ) (r : Reaches modules c first d middle)
      → v ≤ r.count + w → GoesOn modules w d middle last → GoesOn modules v c first last
  goes_on v w c d first middle last r le g = record {
    count = r.count + g.count;
    enough = omega (arith, le, g.enough);
    store = g.store;
    now = g.now;
    callers = g.callers;
    path = run-add modules r.count g.count first c ∙ ap (λ (x : Progress). after x.1 (run modules g.count x.0)) r.path
        ∙ g.path;
  }

  module _ (fx : Fixed) (m : ℕ) (a : Around) where
    -- what follows a stretch of so many reductions at least
    pub on : (v w : ℕ) (rest : List Instr) (c d : Config) (first middle : List ℕ) (e : Effect)
        (r : Reaches modules c first d middle) → v ≤ r.count + w → Leads modules fx w m a rest d middle e
        → Leads modules fx v m a rest c first e
    on v w rest c d first middle (FellThrough st stack) r le l = join c d _ first middle _ r l
    on v w rest c d first middle (Branched k st stack) r le l = join c d _ first middle _ r l
    on v w rest c d first middle (Returned st stack) r le l = join c d _ first middle _ r l
    on v w rest c d first middle (Ended k out) r le l = join c d _ first middle _ r l
    on v w rest c d first middle (Traps out) r le l = join c d _ first middle _ r l
    on v w rest c d first middle (StillRunning out) r le l = goes_on v w c d first middle out r le l

    -- what follows a stretch
    pub behind : (w : ℕ) (rest : List Instr) (c d : Config) (first middle : List ℕ) (e : Effect)
        → Reaches modules c first d middle → Leads modules fx w m a rest d middle e
        → Leads modules fx w m a rest c first e
    behind w rest c d first middle e r l = on w w rest c d first middle e r (omega arith) l

    -- what follows one reduction, which counts
    pub begins : (w : ℕ) (rest : List Instr) (c d : Config) (first : List ℕ) (e : Effect) → reduce modules c ≡ (d, [])
        → Leads modules fx w m a rest d first e → Leads modules fx (suc w) m a rest c first e
    begins w rest c d first e p l = on (suc w) w rest c d first first e (silent c d first p) (omega arith) l

    pub fewer : (v w : ℕ) (rest : List Instr) (c : Config) (first : List ℕ) (e : Effect) → v ≤ w
        → Leads modules fx w m a rest c first e → Leads modules fx v m a rest c first e
    fewer v w rest c first e le l = on v w rest c c first first e (none c first) (omega (arith, le)) l

    -- code, and the code behind it
    pub then_leads : (w : ℕ) (middle rest : List Instr) (c : Config) (first : List ℕ) (go : Does) (e : Effect)
        → Leads modules fx w m a middle c first e
        → ((st : State) (stack : List Value) →
        Leads modules fx w m a rest (at fx m a middle st stack) st.out (go st stack))
        → Leads modules fx w m a rest c first (then_run e go)
    then_leads w middle rest c first go (FellThrough st stack) l next =
        behind w rest c _ first st.out (go st stack) l (next st stack)
    then_leads w middle rest c first go (Branched k st stack) l next = l
    then_leads w middle rest c first go (Returned st stack) l next = l
    then_leads w middle rest c first go (Ended k out) l next = l
    then_leads w middle rest c first go (Traps out) l next = l
    then_leads w middle rest c first go (StillRunning out) l next = l
