-- Runs of modules that behave as a program are right.
use Rattle.std.proofs.Common.{◌≡◌, ℕ, ◌+◌, ◌-◌, ◌≤◌, List, Result, Ok, Err, sym, ap, subst, ◌∙◌, arith}
use Rattle.wasm_tree.specs.declared.fault.WFault.{WFault}
use Rattle.wasm_tree.specs.Machine.{Config, Going, Over, Trapped, Progress, run as reductions}
use Rattle.wasm_tree.specs.Linking.{link as linked}
use Rattle.law_effect.specs.Laws.{IsOver}
use Rattle.wasm_engine.specs.declared.engine.End.{End}
use Rattle.wasm_engine.specs.declared.engine.End.TheVariants.{Done, Trap, StillRunning}
use Rattle.wasm_engine.specs.Instances.{IsEnd}
use Rattle.wasm_engine.proofs.Runs as engine
use Rattle.def_meaning.specs.Answer.{Ended}
use Rattle.def_meaning.specs.Environment.{Modules}
use Rattle.def_meaning.specs.Runs.{run}
use Rattle.law_simulation.specs.Behaves.{Behaves}
use Rattle.run_directory.specs.Reported.{HasRun}
use Rattle.run_program.specs.Runs.{IsBeginning, EndsWith, IsRight, EndsInTime, modules_of}

-- ---- ends

abbrev number_in : ℕ → End → ℕ
number_in other (Done k) = k
number_in other Trap = other
number_in other StillRunning = other

abbrev number_at : ℕ → Config → ℕ
number_at other (Going st now callers) = other
number_at other (Over k) = k
number_at other Trapped = other

trapped_is_none : (k : ℕ) → Trapped ≡ Over k → ⊥
trapped_is_none k e = cc

abbrev config_in : Config → Result Config WFault → Config
config_in other (Ok c) = c
config_in other (Err f) = other

-- ---- what is over stays so

over_for_good : (e : ℕ) (steps : ℕ) → e ≤ steps → steps ≡ (steps - e) + e
over_for_good e steps le = omega (arith, le)

module _ (p : Modules) (pages : ℕ) (c : Config) (is : linked (modules_of p pages) ≡ Ok c)
    (b : Behaves (modules_of p pages) c (run p pages)) where
  begins_at : (m : ℕ) → IsBeginning p pages (reductions (modules_of p pages) m c).1
  begins_at m = let n = b.prints m in record { bound = n.0; rest = n.1; is = n.2 }

  path_of : (steps : ℕ) (bytes : List ℕ) (d : Config) → HasRun (modules_of p pages) steps bytes d
      → reductions (modules_of p pages) steps c ≡ (d, bytes)
  path_of steps bytes d ran =
      let same : c ≡ ran.first = ap (config_in c) (sym is ∙ ran.linked) in
      ap (λ (first : Config). reductions (modules_of p pages) steps first) same ∙ ran.is_run

  -- what was printed is a beginning of what the program prints
  pub begins : (steps : ℕ) (bytes : List ℕ) (d : Config) → HasRun (modules_of p pages) steps bytes d
      → IsBeginning p pages bytes
  begins steps bytes d ran = subst (IsBeginning p pages) (ap (λ (x : Progress). x.1) (path_of steps bytes d ran))
      (begins_at steps)

  ended_as : (k steps : ℕ) (bytes : List ℕ) (d : Config) → d ≡ Over k
      → reductions (modules_of p pages) steps c ≡ (d, bytes) → EndsWith p pages k bytes
  ended_as k steps bytes d over path =
      let o = b.only steps d bytes (subst IsOver (sym over) tt) path in
      let same : o.1 ≡ k = ap (number_at 0) (sym o.2 ∙ over) in
      record { bound = o.0; is = o.3 ∙ ap (λ (n : ℕ). Ended n bytes) same }

  right_by : (end : End) (steps : ℕ) (bytes : List ℕ) (d : Config) → IsEnd end d
      → reductions (modules_of p pages) steps c ≡ (d, bytes) → IsBeginning p pages bytes → IsRight p pages end bytes
  right_by (Done k) steps bytes d over path begun = record {
    begins = begun;
    ended = λ number e. subst (λ (n : ℕ). EndsWith p pages n bytes) (ap (number_in 0) e)
        (ended_as k steps bytes d over path);
    no_trap = λ e. cc;
  }
  right_by Trap steps bytes d trapped path begun =
      let o = b.only steps d bytes (subst IsOver (sym trapped) tt) path in
      absurd (trapped_is_none o.1 (sym trapped ∙ o.2))
  right_by StillRunning steps bytes d goes path begun = record {
    begins = begun;
    ended = λ number e. absurd (cc);
    no_trap = λ e. cc;
  }

  pub right : (end : End) (steps : ℕ) (bytes : List ℕ) (d : Config) → IsEnd end d
      → HasRun (modules_of p pages) steps bytes d → IsRight p pages end bytes
  right end steps bytes d at ran = right_by end steps bytes d at (path_of steps bytes d ran) (begins steps bytes d ran)

  -- the modules end in time
  over_after : (m k : ℕ) (bytes : List ℕ) → reductions (modules_of p pages) m c ≡ (Over k, bytes) → (steps : ℕ)
      → m ≤ steps → HasRun (modules_of p pages) steps bytes (Over k)
  over_after m k bytes path steps le = record {
    first = c;
    linked = is;
    is_run =
        ap (λ (n : ℕ). reductions (modules_of p pages) n c) (over_for_good m steps le)
        ∙ engine.run_over (modules_of p pages) m (steps - m) c
        (subst (λ (x : Progress). engine.IsOver x.0) (sym path) tt)
        ∙ path;
  }

  pub in_time : EndsInTime p pages
  in_time number bytes e =
      let m = b.ends e.bound number bytes e.is in
      (m.0, over_after m.0 number bytes m.1)
