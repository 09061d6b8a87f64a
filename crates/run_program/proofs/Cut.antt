-- Runs of a program's modules, to where they are or until they are broken off.
use Rattle.std.proofs.Common.{◌≡◌, ◌≢◌, ℕ, ◌+◌, ◌↔◌, List, [], true, false, Option, Result, Ok, Err, inl, inr, refl, sym, ap, subst, ◌∙◌, arith}
use Rattle.std.specs.Prelude.{IfErr, IfOk, IsOk, MatchResult}
use Rattle.std.proofs.lemmas.Bool.{false≢true}
use Rattle.wasm_tree.specs.declared.fault.WFault.{WFault}
use Rattle.wasm_tree.specs.declared.fault.WFault.TheVariants as machine
use Rattle.wasm_tree.specs.Format.{Gives}
use Rattle.wasm_tree.specs.declared.module.WModule.{WModule}
use Rattle.wasm_tree.specs.Machine.{Config, run as reductions}
use Rattle.wasm_tree.specs.Linking.{link as linked}
use Rattle.wasm_engine.specs.declared.engine.End.{End}
use Rattle.wasm_engine.specs.declared.engine.RunFault.{RunFault}
use Rattle.wasm_engine.specs.declared.engine.RunFault.TheVariants as run
use Rattle.wasm_engine.specs.declared.engine.Instances.{Instances}
use Rattle.wasm_engine.specs.Reported.{with_bytes}
use Rattle.wasm_engine.specs.Instances.{modules_of as linked_modules, config_of, has_failed, RunsPart}
use Rattle.wasm_engine.proofs.Runs.{run-zero, with_bytes-nil}
use Rattle.run_directory.specs.Reported.{HasRun, IsRun, Printed}
use Rattle.build_jobs.specs.declared.file.SourceFile.{SourceFile}
use Rattle.build_jobs.specs.declared.options.Options.{Options}
use Rattle.m2c.specs.Compiles.{AreFine}
use Rattle.run_program.specs.declared.fault.ProgramFault.{ProgramFault}
use Rattle.run_program.specs.declared.fault.ProgramFault.TheVariants.{Workers, Pages, NoMemory, Write}
use Rattle.run_program.specs.Faults.{ComesWith, IsUnbuilt, IsOfRun, IsFaultOf}
use Rattle.run_program.specs.Cut.{IsPart, IsCutBy}
use Rattle.run_program.specs.Runs.{IsProgramOf, modules_of}
use Rattle.run_program.specs.Whole.{HasRunTo, IsCut, Breaks}
use Rattle.run_program.proofs.Right.{begins, right}

module _ {S : Type 0} (reported : S → Option (List ℕ)) (failed : S → ℕ) where
  pub nothing : (s : S) → Printed reported failed [] s s
  nothing s = record { taken = sym (with_bytes-nil (reported s)); failures = refl }

  -- ---- modules

  module _ (trees : List WModule) (steps : ℕ) where
    -- a run that was broken off
    pub part : (before after : S) (i : Instances) (failures : ℕ) → linked trees ≡ Ok (config_of i)
        → linked_modules i ≡ trees → RunsPart reported steps i before after → failed after ≡ failed before + failures
        → IsPart reported failed trees steps failures before after
    part before after i failures is same ran failures_are = record {
      made = ran.0;
      fits = ran.1;
      bytes = (reductions trees ran.0 (config_of i)).1;
      config = (reductions trees ran.0 (config_of i)).0;
      ran = record { first = config_of i; linked = is; is_run = refl };
      taken = subst (λ (ms : List WModule). reported after
          ≡ with_bytes (reported before) (reductions ms ran.0 (config_of i)).1) same ran.2;
      failed_more = failures_are;
    }

    -- one that did not begin
    none_by : (s : S) (r : Result Config WFault) → linked trees ≡ r → IsOk r → IsPart reported failed trees steps 0 s s
    none_by s (Ok c) is ok = record {
      made = 0;
      fits = omega arith;
      bytes = [];
      config = c;
      ran = record { first = c; linked = is; is_run = run-zero trees c };
      taken = sym (with_bytes-nil (reported s));
      failed_more = omega arith;
    }
    none_by s (Err e) is ok = absurd (false≢true ok)

    pub none : (s : S) → IsOk (linked trees) → (fault : ProgramFault) → fault ≡ NoMemory
        → IsCutBy reported failed trees steps fault s s
    none s ok fault is = subst (λ (f : ProgramFault). IsCutBy reported failed trees steps f s s) (sym is)
        (none_by s (linked trees) refl ok)

  -- ---- programs

  module _ (files : List SourceFile) (pages steps : ℕ) (trees : List WModule) (of : IsProgramOf files pages trees)
      (before after : S) where
    abbrev of_program : (bytes : List ℕ) (c : Config) (made : ℕ) → HasRun trees made bytes c
        → HasRun (modules_of of.program.program pages) made bytes c
    of_program bytes c made ran = subst (λ (ms : List WModule). HasRun ms made bytes c) of.are ran

    pub has_run : (end : End) → IsRun reported failed trees steps end before after
        → HasRunTo reported failed files pages steps end before after
    has_run end ran = record {
      modules = trees;
      of = of;
      ran = ran;
      right = right of.program.program pages of.program.behaves.0 of.program.behaves.1 of.program.behaves.2 end steps
          ran.bytes ran.config ran.is_end (of_program ran.bytes ran.config steps ran.has_run);
    }

    cut : (failures : ℕ) → IsPart reported failed trees steps failures before after
        → IsCut reported failed files pages steps failures before after
    cut failures ran = record {
      modules = trees;
      of = of;
      ran = ran;
      begins = begins of.program.program pages of.program.behaves.0 of.program.behaves.1 of.program.behaves.2 ran.made
          ran.bytes ran.config (of_program ran.bytes ran.config ran.made ran.ran);
    }

    pub breaks : (fault : ProgramFault) → IsCutBy reported failed trees steps fault before after
        → Breaks reported failed files pages steps fault before after
    breaks NoMemory ran = inr (cut 0 ran)
    breaks Write ran = cut 1 ran
    breaks Workers not_so = absurd not_so
    breaks Pages not_so = absurd not_so

  -- a program that was not built
  pub unbuilt : (files : List SourceFile) (pages steps : ℕ) (s : S) (o : Options) (fault : ProgramFault)
      → IsUnbuilt fault o → Breaks reported failed files pages steps fault s s
  unbuilt files pages steps s o Workers not_so = nothing s
  unbuilt files pages steps s o Pages not_so = nothing s
  unbuilt files pages steps s o NoMemory not_so = inl (nothing s)
  unbuilt files pages steps s o Write not_so = absurd not_so

-- ---- faults and options

pub comes_unbuilt : (o : Options) (fault : ProgramFault) → IsUnbuilt fault o → ComesWith fault o
comes_unbuilt o Workers h = h
comes_unbuilt o Pages h = h
comes_unbuilt o NoMemory h = h
comes_unbuilt o Write h = absurd h

comes_in_run : (o : Options) → AreFine o → (fault : ProgramFault) → IsOfRun fault → ComesWith fault o
comes_in_run o fine NoMemory h = fine
comes_in_run o fine Write h = fine
comes_in_run o fine Workers h = absurd h
comes_in_run o fine Pages h = absurd h

-- what is answered of a program that is ready
pub comes_of_run : {A : Type 0} (o : Options) → AreFine o → (r : Result A ProgramFault) → IfErr r IsOfRun
    → MatchResult r (λ _. AreFine o) (λ e. ComesWith e o)
comes_of_run o fine (Ok x) h = fine
comes_of_run o fine (Err e) h = comes_in_run o fine e h

pub of_run : {S : Type 0} (reported : S → Option (List ℕ)) (failed : S → ℕ) (trees : List WModule) (steps : ℕ)
    (before after : S) (fault : ProgramFault) → IsCutBy reported failed trees steps fault before after → IsOfRun fault
of_run reported failed trees steps before after NoMemory h = tt
of_run reported failed trees steps before after Write h = tt
of_run reported failed trees steps before after Workers h = absurd h
of_run reported failed trees steps before after Pages h = absurd h

-- ---- faults of the machine

module _ (trees slice : List WModule) (same : slice ≡ trees) (ok : IsOk (linked trees)) where
  never : (e : WFault) → linked slice ≡ Err e → ⊥
  never e is = false≢true (subst IsOk (sym (ap linked same) ∙ is) ok)

  -- modules that link fail to be linked for want of memory alone
  pub links_or_memory : (r : Result Instances WFault) → Gives (λ (i : Instances). config_of i) r (linked slice)
      → IfErr r (λ e. e ≡ machine.NoMemory)
  links_or_memory (Ok i) h = tt
  links_or_memory (Err machine.Malformed) h = absurd (never machine.Malformed h)
  links_or_memory (Err machine.OutsideProfile) h = absurd (never machine.OutsideProfile h)
  links_or_memory (Err machine.Invalid) h = absurd (never machine.Invalid h)
  links_or_memory (Err machine.Unlinked) h = absurd (never machine.Unlinked h)
  links_or_memory (Err machine.SegmentOutside) h = absurd (never machine.SegmentOutside h)
  links_or_memory (Err machine.NoMemory) h = refl

abbrev Fresh : (trees : List WModule) → Instances → Type 0
Fresh trees i = (linked trees ≡ Ok (config_of i)) × (linked_modules i ≡ trees) × (has_failed i ≡ false)

module _ (trees slice : List WModule) (same : slice ≡ trees) (r : Result Instances WFault)
    (gives : Gives (λ (i : Instances). config_of i) r (linked slice))
    (fresh : IfOk r (λ i. (linked_modules i ≡ slice) × (has_failed i ≡ false))) where
  fresh_of : (i : Instances) → r ≡ Ok i → Fresh trees i
  fresh_of i is =
      let g : linked slice ≡ Ok (config_of i) =
      subst (λ (x : Result Instances WFault). Gives (λ (y : Instances). config_of y) x (linked slice)) is gives in
      let f : (linked_modules i ≡ slice) × (has_failed i ≡ false) =
      subst (λ (x : Result Instances WFault). IfOk x (λ y. (linked_modules y ≡ slice) × (has_failed y ≡ false))) is
      fresh in
      (sym (ap linked same) ∙ g, f.0 ∙ same, f.1)

  -- what was linked is handed on
  pub handed : (out : Result Instances ProgramFault) → MatchResult out (λ x. r ≡ Ok x) (λ e. e ≡ NoMemory)
      → MatchResult out (λ i. Fresh trees i) (λ e. e ≡ NoMemory)
  handed (Ok i) is = fresh_of i is
  handed (Err e) is = is

abbrev fault_in : RunFault → Result End RunFault → RunFault
fault_in other (Ok e) = other
fault_in other (Err f) = f

memory_is_no_write : run.NoMemory ≡ run.Write → ⊥
memory_is_no_write e = cc

no_more : (n : ℕ) → n ≡ n + 0
no_more n = omega arith

module _ (i : Instances) (r : Result End RunFault) (fault : RunFault) (is : r ≡ Err fault) where
  -- the first call of a run does not find it broken off
  pub not_ended : (r ≡ Err run.Ended) ↔ (has_failed i ≡ true) → has_failed i ≡ false → fault ≢ run.Ended
  not_ended ended fresh e = false≢true (sym fresh ∙ ended.0 (is ∙ ap (λ (f : RunFault). Err f) e))

  module _ {S : Type 0} (reported : S → Option (List ℕ)) (failed : S → ℕ) (trees : List WModule) (steps : ℕ)
      (before after : S) (linked_to : linked trees ≡ Ok (config_of i)) (same : linked_modules i ≡ trees)
      (ran : RunsPart reported steps i before after)
      (write : (r ≡ Err run.Write) ↔ (failed after ≡ failed before + 1))
      (others : (r ≡ Err run.Write → ⊥) → failed after ≡ failed before) where
    cut_with : (f : RunFault) → fault ≡ f → (named : ProgramFault) → IsFaultOf f named
        → IsCutBy reported failed trees steps named before after
    cut_with run.NoMemory e named as_is =
        let not_write : r ≡ Err run.Write → ⊥ = λ w. memory_is_no_write (sym e ∙ ap (fault_in fault) (sym is ∙ w)) in
        let same_failures : failed after ≡ failed before + 0 = others not_write ∙ no_more (failed before) in
        subst (λ (p : ProgramFault). IsCutBy reported failed trees steps p before after) (sym as_is)
        (part reported failed trees steps before after i 0 linked_to same ran same_failures)
    cut_with run.Write e named as_is =
        let more : failed after ≡ failed before + 1 = write.0 (is ∙ ap (λ (f : RunFault). Err f) e) in
        subst (λ (p : ProgramFault). IsCutBy reported failed trees steps p before after) (sym as_is)
        (part reported failed trees steps before after i 1 linked_to same ran more)
    cut_with run.Ended e named as_is = absurd as_is

    -- how the run was broken off
    pub cut_by : (named : ProgramFault) → IsFaultOf fault named → IsCutBy reported failed trees steps named before after
    cut_by named as_is = cut_with fault refl named as_is
