-- The faults of a build, and the options with which they come.
use Rattle.std.proofs.Common.{◌≡◌, ℕ, ◌<◌, ◌≤◌, ◌↔◌, ◌⊎◌, inl, inr, Result, Ok, Err, sym, ap, subst, ◌∙◌}
use Rattle.std.proofs.lemmas.Bool.{cases_lt}
use Rattle.pool_board.specs.Seats.{max_workers}
use Rattle.def_scheme.specs.Modules.{max_pages}
use Rattle.m2c.specs.declared.files.BuildFault.{BuildFault}
use Rattle.m2c.specs.declared.files.BuildFault.TheVariants.{Workers, Pages, NoMemory}
use Rattle.build_jobs.specs.declared.options.Options.{Options}
use Rattle.m2c.specs.declared.files.Outcome.{Outcome}
use Rattle.m2c.specs.Compiles.{AreFine, AreWorkers}
use Rattle.run_program.specs.declared.fault.ProgramFault.{ProgramFault}
use Rattle.run_program.specs.Faults.{IsUnbuilt, fault_of}

-- a number from a least one to a greatest one
within : (n least most : ℕ) → ((n < least) ⊎ (most < n) → ⊥) → (least ≤ n) × (n ≤ most)
within n least most not_so = (low (cases_lt n least), high (cases_lt most n))
  where
    low : (n < least) ⊎ (least ≤ n) → least ≤ n
    low (inl h) = absurd (not_so (inl h))
    low (inr h) = h

    high : (most < n) ⊎ (n ≤ most) → n ≤ most
    high (inl h) = absurd (not_so (inr h))
    high (inr h) = h

ok_and_err : (x : Outcome) (f : BuildFault) → ◌≡◌ {A = Result Outcome BuildFault} (Ok x) (Err f) → ⊥
ok_and_err x f e = cc

abbrev fault_in : BuildFault → Result Outcome BuildFault → BuildFault
fault_in other (Ok x) = other
fault_in other (Err f) = f

module _ (o : Options) (r : Result Outcome BuildFault)
    (workers : (r ≡ Err Workers) ↔ ((o.workers < 1) ⊎ (max_workers < o.workers)))
    (pages : AreWorkers o.workers → (r ≡ Err Pages) ↔ ((o.pages < 1) ⊎ (max_pages < o.pages))) where
  few : (r ≡ Err Workers → ⊥) → AreWorkers o.workers
  few not_so = within o.workers 1 max_workers (λ wrong. not_so (workers.1 wrong))

  fine : (r ≡ Err Workers → ⊥) → (r ≡ Err Pages → ⊥) → AreFine o
  fine no_workers no_pages = (
    few no_workers,
    within o.pages 1 max_pages
        (λ wrong. no_pages ((pages (few no_workers)).1 wrong)),
  )

  is_other : (fault other : BuildFault) → r ≡ Err fault → (fault ≡ other → ⊥) → r ≡ Err other → ⊥
  is_other fault other is not_so e = not_so (ap (fault_in fault) (sym is ∙ e))

  -- what is built is built with options that can be had
  pub fine_if_built : (x : Outcome) → r ≡ Ok x → AreFine o
  fine_if_built x is = fine (λ e. ok_and_err x Workers (sym is ∙ e)) (λ e. ok_and_err x Pages (sym is ∙ e))

  named_as : (fault : BuildFault) → r ≡ Err fault → IsUnbuilt (fault_of fault) o
  named_as Workers is = workers.0 is
  named_as Pages is = let w = few (is_other Pages Workers is (λ e. cc)) in (w, (pages w).0 is)
  named_as NoMemory is = fine (is_other NoMemory Workers is (λ e. cc)) (is_other NoMemory Pages is (λ e. cc))

  -- a fault comes with these options
  pub comes_with : (fault : BuildFault) (reported : ProgramFault) → r ≡ Err fault → reported ≡ fault_of fault
      → IsUnbuilt reported o
  comes_with fault reported is same = subst (λ (f : ProgramFault). IsUnbuilt f o) (sym same) (named_as fault is)
