-- What is answered of modules that are held against one another.
use Rattle.std.proofs.Common.{◌≡◌, ℕ, List, [], Result, Ok, Err, OnOk, IfErr, refl, sym, subst}
use Rattle.std.specs.String.{string_bytes}
use Rattle.link_parts.specs.declared.part.Part.{Part}
use Rattle.link_parts.specs.declared.fault.LinkFault.{LinkFault}
use Rattle.link_parts.specs.declared.fault.LinkFault.TheVariants as fault
use Rattle.link_parts.specs.Fitting.{Use, uses_from, Agree, Differ, HasFault}
use Rattle.link_parts.specs.Held.{Known, with_uses, Tells}
use Rattle.link_parts.proofs.Seeing.{told_well}
use Rattle.link_parts.proofs.Agreeing.{agree, differ}

pub fits_told : (us : List Use) (now : Known) (r : Result (Unit {0}) LinkFault) → Tells r now (with_uses us [])
    → OnOk r (Agree us)
fits_told us now (Ok fine) h = agree us now (told_well now (with_uses us []) h)
fits_told us now (Err e) h = tt

module _ (parts : List Part) (now : Known) where
  fault_by : (e : LinkFault) (r : Result Known (ℕ × Use)) → with_uses (uses_from 0 parts) [] ≡ r → Tells (Err e) now r
      → HasFault parts e
  fault_by fault.NoMemory r is h = tt
  fault_by fault.NoProgram r is h = absurd h
  fault_by (fault.Program n) r is h = absurd h
  fault_by (fault.Imports n) r is h = absurd h
  fault_by (fault.Pages n) r is h = absurd h
  fault_by (fault.Interfaces m n name) (Ok known) is h = absurd h
  fault_by (fault.Interfaces m n name) (Err x) is h =
      subst (λ (k : ℕ). Differ (uses_from 0 parts) k n (string_bytes name)) (sym h.0)
      (subst (λ (k : ℕ). Differ (uses_from 0 parts) x.0 k (string_bytes name)) (sym h.1)
      (subst (λ (k : List ℕ). Differ (uses_from 0 parts) x.0 x.1.by k) (sym h.2) (differ (uses_from 0 parts) x is)))

  pub fault_told : (r : Result (Unit {0}) LinkFault) → Tells r now (with_uses (uses_from 0 parts) [])
      → IfErr r (λ e. HasFault parts e)
  fault_told (Ok fine) h = tt
  fault_told (Err e) h = fault_by e (with_uses (uses_from 0 parts) []) refl h
