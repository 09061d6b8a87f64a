-- Files that are there, and the first that is not.
use Rattle.std.proofs.Common.{◌≡◌, ℕ, ◌<◌, suc, List, [], ◌∷◌, ◌++◌, length, take, drop, map, get_or, Option, refl, sym, subst}
use Rattle.run_directory.specs.Directory.{Files, FileRead, HasRead}
use Rattle.run_directory.proofs.FileReads.{none_read, more_read}
use Rattle.run_directory.proofs.Missing.{map_one_between}
use Rattle.build_jobs.specs.declared.file.SourceFile.{SourceFile}
use Rattle.m2c.specs.declared.ending.Ending.{Ending}
use Rattle.m2c.specs.Compiles.{IsGiven, AreGiven, Empty, More, Lacks, FirstLack}

and_one : (reads : List FileRead) (names : List (List ℕ)) (files : List SourceFile) (read : FileRead) (name : List ℕ)
    (file : SourceFile) → AreGiven reads names files → IsGiven read name file
    → AreGiven (reads ++ read ∷ []) (names ++ name ∷ []) (files ++ file ∷ [])
and_one _ _ _ read name file Empty h = More read name file [] [] [] h Empty
and_one _ _ _ read name file (More r n f rs ns fs first others) h =
    More r n f (rs ++ read ∷ []) (ns ++ name ∷ []) (fs ++ file ∷ []) first (and_one rs ns fs read name file others h)

module _ {I : Type 0} (noted : I → Option (List FileRead)) (gives : I → Files) where
  -- the files of these names are there
  abbrev pub GivenSoFar : (dir now : I) (names : List (List ℕ)) (files : List SourceFile) → Type 0
  GivenSoFar dir now names files = (reads : List FileRead) × HasRead noted gives reads dir now
      × AreGiven reads names files

  pub none_so_far : (dir : I) (files : List SourceFile) → files ≡ [] → GivenSoFar dir dir [] files
  none_so_far dir files e = (
    [],
    none_read noted gives dir,
    subst (λ (fs : List SourceFile). AreGiven [] [] fs) (sym e)
        Empty,
  )

  pub one_behind : (dir now after : I) (names more : List (List ℕ)) (name : List ℕ) (files new : List SourceFile)
      → GivenSoFar dir now names files → more ≡ names ++ name ∷ []
      → (read : FileRead) × HasRead noted gives (read ∷ []) now after × (file : SourceFile) × (new ≡ files ++ file ∷ [])
      × IsGiven read name file → GivenSoFar dir after more new
  one_behind dir now after names more name files new so_far is found = (
    so_far.0 ++ found.0 ∷ [],
    more_read noted gives so_far.0 (found.0 ∷ []) dir now after so_far.1 found.1,
    subst (λ (ns : List (List ℕ)). AreGiven (so_far.0 ++ found.0 ∷ []) ns new) (sym is)
        (subst (λ (fs : List SourceFile). AreGiven (so_far.0 ++ found.0 ∷ []) (names ++ name ∷ []) fs) (sym found.3)
        (and_one so_far.0 names files found.0 name found.2 so_far.2 found.4)),
  )

  -- all before one that is not there are there
  pub stops_at : {X : Type 0} (f : X → List ℕ) (xs : List X) (k : ℕ) (x : X) (name : List ℕ) → k < length xs
      → x ≡ get_or xs k x → name ≡ f x
      → (dir now after : I) (files : List SourceFile) → GivenSoFar dir now (map f (take k xs)) files
      → (e : Ending) → (read : FileRead) × HasRead noted gives (read ∷ []) now after × Lacks read name e
      → (reads : List FileRead) × HasRead noted gives reads dir after × FirstLack reads (map f xs) e
  stops_at f xs k x name h is of dir now after files so_far e lacking = (
    so_far.0 ++ lacking.0 ∷ [],
    more_read noted gives so_far.0 (lacking.0 ∷ []) dir now after so_far.1 lacking.1,
    record {
      before = map f (take k xs);
      name = name;
      after = map f (drop (suc k) xs);
      are = map_one_between f xs k x name h is of;
      reads_before = so_far.0;
      last = lacking.0;
      all_reads = refl;
      files = files;
      there = so_far.2;
      lacks = lacking.2;
    },
  )
