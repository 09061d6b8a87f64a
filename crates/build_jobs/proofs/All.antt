-- What is read of each file, one by one.
use Rattle.std.proofs.Common.{◌≡◌, ℕ, suc, List, [], ◌∷◌, length, Some, refl, arith}
use Rattle.std.specs.Prelude.{slice_get}
use Rattle.build_jobs.specs.declared.file.SourceFile.{SourceFile}
use Rattle.build_jobs.specs.declared.reading.Read.{Read}
use Rattle.build_jobs.specs.Reading.{AreRead, IsReadAt}

pub are_read : (files : List SourceFile) (reads : List Read) → length reads ≡ length files
    → ((k : ℕ) (r : Read) → slice_get reads k ≡ Some r → IsReadAt files k r) → AreRead files reads
are_read [] [] same at = tt
are_read [] (r ∷ rs) same at = absurd (omega (arith, same))
are_read (f ∷ fs) [] same at = absurd (omega (arith, same))
are_read (f ∷ fs) (r ∷ rs) same at = (at 0 r refl, are_read fs rs (omega (arith, same)) (λ k q is. at (suc k) q is))
