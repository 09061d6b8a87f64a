-- The two rounds of a build's jobs.
use Rattle.std.proofs.Common.{◌≡◌, ℕ, zero, suc, ◌+◌, ◌<◌, ◌≤◌, Bool, true, false, cond, ◌==◌, List, [], ◌∷◌, length, map, refl, sym, ap, subst, ◌∙◌, Some, arith}
use Rattle.std.specs.Prelude.{slice_get, if◌then◌else◌}
use Rattle.std.proofs.lemmas.List.{length-map, map-id}
use Rattle.pool_board.specs.Graph.{prerequisites_of, IsJobGraph}
use Rattle.pool_board.specs.Lists.{times}
use Rattle.graph_walk.specs.Links.{has, targets}
use Rattle.graph_walk.specs.Links.{times as often}
use Rattle.std.specs.List.{AllZip}
use Rattle.m2_graph.specs.Files.{File, given_of, number_files, trees}
use Rattle.m2_graph.specs.Refused.{max_files}
use Rattle.law_graph.proofs.Given.{few_files}
use Rattle.std.proofs.lemmas.List.Sorted.{length_permutation}
use Rattle.m2_graph.specs.Graph.{IsGraph, CompileEach}
use Rattle.m2_graph.specs.Jobs.{AreJobs}
use Rattle.pool_board.specs.Results.{AreResults}
use Rattle.pool_board.proofs.Resulting.{as_defined}
use Rattle.build_jobs.specs.declared.file.SourceFile.{SourceFile}
use Rattle.build_jobs.specs.declared.reading.Read.{Read}
use Rattle.build_jobs.specs.Reading.{AreRead, IsReadAt}
use Rattle.build_jobs.proofs.All.{are_read}
use Rattle.m2_tree.specs.declared.decl.Module.{Module}
use Rattle.build_jobs.specs.declared.outcome.Compiled.{Compiled}
use Rattle.build_jobs.specs.Jobs.{compile_at, all_compiled, Defines}

-- ---- rows

as_often : (xs : List ℕ) (p : ℕ) → times p xs ≡ often xs p
as_often [] p = refl
as_often (x ∷ xs) p = by (x == p) (as_often xs p)
  where
    by : (b : Bool) → times p xs ≡ often xs p → (if b then 1 else 0) + times p xs ≡ cond b 1 0 + often xs p
    by true e = ap (λ n. 1 + n) e
    by false e = ap (λ n. 0 + n) e

has_some : (xs : List ℕ) (p : ℕ) → 0 < often xs p → has xs p ≡ true
has_some [] p l = absurd (omega arith)
has_some (x ∷ xs) p l = by (x == p) refl (λ m. has_some xs p m)
  where
    by : (b : Bool) → (x == p) ≡ b → (0 < often xs p → has xs p ≡ true) → has (x ∷ xs) p ≡ true
    by true is onward = rw is refl
    by false is onward = rw is (onward (subst (λ (n : ℕ). 0 < n) (rw is (omega arith)) l))

-- the jobs of a graph of modules are such as the pool takes
pub pool_takes : (jobs : List (List ℕ)) → AreJobs jobs → IsJobGraph jobs
pool_takes jobs are job p l =
    let same : times p (prerequisites_of jobs job) ≡ often (targets jobs job) p =
    as_often (prerequisites_of jobs job) p in (
      (λ some. (are job p).0 (has_some (targets jobs job) p (subst (λ (n : ℕ). 0 < n) same some))),
      subst
          (λ (n : ℕ). n ≤ 1) (sym same) (are job p).1,
    )

no_rows : (files : List SourceFile) (job : ℕ) → prerequisites_of (map (λ f. []) files) job ≡ []
no_rows [] job = refl
no_rows (f ∷ fs) zero = refl
no_rows (f ∷ fs) (suc job) = no_rows fs job

-- so are jobs that need nothing
pub pool_takes_free : (files : List SourceFile) (rows : List (List ℕ)) → rows ≡ map (λ f. []) files → IsJobGraph rows
pool_takes_free files rows e job p l =
    let none : times p (prerequisites_of rows job) ≡ 0 =
    ap (λ (rs : List (List ℕ)). times p (prerequisites_of rs job)) e ∙ ap (times p) (no_rows files job) in
    ((λ some. absurd (omega (arith, none, some))), omega (arith, none))

zip_length : {A B : Type 0} (R : A → B → Type 0) (xs : List A) (ys : List B) → AllZip R xs ys → length xs ≡ length ys
zip_length R [] [] h = refl
zip_length R [] (y ∷ ys) h = absurd h
zip_length R (x ∷ xs) [] h = absurd h
zip_length R (x ∷ xs) (y ∷ ys) h = ap suc (zip_length R xs ys h.1)

-- each job has a file
pub jobs_count : (given : List File) (numbers : List ℕ) (jobs : List (List ℕ)) (starts : List ℕ)
    → IsGraph given numbers jobs starts → length numbers ≡ length jobs
jobs_count given numbers jobs starts g =
    let j = g.2.is_jobs in
    ap length j.compiled ∙ length-map j.order (given_of g.0) ∙ zip_length _ j.order jobs j.needs

-- a graph has no more jobs than a program has files
pub few_jobs : (fs : List (List ℕ × Module)) (numbers : List ℕ) (jobs : List (List ℕ)) (starts : List ℕ)
    → IsGraph (number_files 0 fs) numbers jobs starts → CompileEach (number_files 0 fs) numbers
    → length jobs ≤ max_files
few_jobs fs numbers jobs starts g each =
    let few : length (trees g.0) ≤ max_files = few_files fs g.0 g.1 g.2.fine in
    let all : length numbers ≡ length (map (λ f. f.given) (number_files 0 fs)) =
    length_permutation (map (λ f. f.given) (number_files 0 fs)) numbers each in
    let same : length g.0 ≡ length (number_files 0 fs) = length_permutation (number_files 0 fs) g.0 g.1.same in
    omega (
      arith,
      few,
      all,
      same,
      length-map (number_files 0 fs) (λ (f : File). f.given),
      length-map g.0
          (λ (f : File). f.tree),
      jobs_count (number_files 0 fs) numbers jobs starts g,
    )

-- ---- results

-- where the results of all jobs are there, each file is read
pub all_read : (files : List SourceFile) (reads : List Read)
    → AreResults (map (λ f. []) files) (λ job outs r. IsReadAt files job r) reads → AreRead files reads
all_read files reads are = are_read files reads (are.count_is ∙ length-map files (λ (f : SourceFile). []))
    (λ k r is. are.coherent k r is)

pub read_count : (files : List SourceFile) (reads : List Read) → AreRead files reads → length files ≡ length reads
read_count [] [] h = refl
read_count (f ∷ fs) (r ∷ rs) h = ap suc (read_count fs rs h.1)
read_count [] (r ∷ rs) h = absurd h
read_count (f ∷ fs) [] h = absurd h

-- where the results of all jobs are there, they are what becomes of the modules
pub each_compiled : (trees : List Module) (files : List ℕ) (jobs : List (List ℕ)) (all : List Compiled)
    → IsJobGraph jobs → AreResults jobs (Defines trees files) all → all ≡ all_compiled trees files jobs
each_compiled trees files jobs all graph are =
    sym (map-id all) ∙ as_defined jobs (Defines trees files) (λ c. c) (compile_at trees files) graph
    (λ job outs x is. is ∙ ap (compile_at trees files job) (sym (map-id outs))) all are
