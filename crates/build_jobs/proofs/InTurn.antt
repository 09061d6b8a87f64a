-- Texts and jobs, one after the other.
use Rattle.std.proofs.Common.{◌≡◌, ℕ, zero, suc, ◌+◌, ◌<◌, ◌≤◌, List, [], ◌∷◌, ◌++◌, length, take, get_or, map, refl, sym, ap, subst, ◌∙◌, add-one, arith}
use Rattle.std.specs.Prelude.{slice_get, slice_index_or}
use Rattle.std.specs.Global.{Vec}
use Rattle.std.proofs.Math.Seq.{take-suc}
use Rattle.std.proofs.lemmas.List.{take_all, length-append}
use Rattle.m2_tree.specs.declared.decl.Module.{Module}
use Rattle.pool_board.specs.Graph.{prerequisites_of}
use Rattle.pool_board.specs.Results.{items_at, results_below}
use Rattle.build_jobs.specs.declared.file.SourceFile.{SourceFile}
use Rattle.build_jobs.specs.declared.reading.Read.{Read}
use Rattle.build_jobs.specs.declared.outcome.Compiled.{Compiled}
use Rattle.build_jobs.specs.Reading.{AreRead, IsRead}
use Rattle.build_jobs.specs.Jobs.{compile_at, compile_in_place}

-- ---- texts

and_one : (files : List SourceFile) (reads : List Read) (f : SourceFile) (r : Read) → AreRead files reads
    → IsRead f.bytes.items r → AreRead (files ++ f ∷ []) (reads ++ r ∷ [])
and_one [] [] f r h k = (k, tt)
and_one (g ∷ fs) (q ∷ qs) f r h k = (h.0, and_one fs qs f r h.1 k)
and_one [] (q ∷ qs) f r h k = absurd h
and_one (g ∷ fs) [] f r h k = absurd h

-- one more text is read
pub one_more : (files : List SourceFile) (k : ℕ) (f : SourceFile) (text : List ℕ) (r : Read) (reads new : List Read)
    → k < length files → f ≡ get_or files k f → text ≡ f.bytes.items
    → AreRead (take k files) reads → IsRead text r → new ≡ reads ++ r ∷ [] → AreRead (take (k + 1) files) new
one_more files k f text r reads new l at of so is e =
    let more : take (k + 1) files ≡ take k files ++ f ∷ [] =
    rw add-one (take-suc files k f l ∙ ap (λ (x : SourceFile). take k files ++ x ∷ []) (sym at)) in
    let read : AreRead (take k files ++ f ∷ []) (reads ++ r ∷ []) =
    and_one (take k files) reads f r so (subst (λ (t : List ℕ). IsRead t r) of is) in
    subst (λ (fs : List SourceFile). AreRead fs new) (sym more)
    (subst (λ (rs : List Read). AreRead (take k files ++ f ∷ []) rs) (sym e) read)

as_many : (files : List SourceFile) (reads : List Read) → AreRead files reads → length files ≡ length reads
as_many [] [] h = refl
as_many (f ∷ fs) (r ∷ rs) h = ap suc (as_many fs rs h.1)
as_many [] (r ∷ rs) h = absurd h
as_many (f ∷ fs) [] h = absurd h

-- all are read, and as many
pub all_counted : (files : List SourceFile) (k : ℕ) (reads : List Read) → length files ≤ k
    → AreRead (take k files) reads → length files ≡ length reads
all_counted files k reads l so = as_many files reads
    (subst (λ (fs : List SourceFile). AreRead fs reads) (take_all k files l) so)

-- ---- jobs

module _ {X : Type 0} (graph : List (List ℕ)) (defined : ℕ → List X → X) where
  pub below_length : (n : ℕ) → length (results_below graph defined n) ≡ n
  below_length zero = refl
  below_length (suc n) =
      let x = defined n (items_at (results_below graph defined n) (prerequisites_of graph n)) in
      let more : length (results_below graph defined n ++ x ∷ []) ≡ length (results_below graph defined n) + 1 =
      length-append (results_below graph defined n) (x ∷ []) in
      more ∙ ap (λ (m : ℕ). m + 1) (below_length n) ∙ add-one n

pub row_at : (rows : List (Vec ℕ)) (k : ℕ) (v : Vec ℕ) → k < length rows → v ≡ get_or rows k v
    → v.items ≡ slice_index_or (map (λ r. r.items) rows) k []
row_at [] k v l e = absurd (omega (arith, l))
row_at (r ∷ rs) zero v l e = ap (λ (x : Vec ℕ). x.items) e
row_at (r ∷ rs) (suc k) v l e = row_at rs k v (omega (arith, l)) e

-- one more job is made
pub next_job : (graph : List (List ℕ)) (trees : List Module) (files : List ℕ) (job : ℕ) (old new : List Compiled)
    (file : ℕ) (needs : List ℕ) → old ≡ results_below graph (compile_at trees files) job
    → file ≡ slice_index_or files job 0 → needs ≡ prerequisites_of graph job
    → new ≡ old ++ compile_in_place (slice_get trees file) (length old) (items_at old needs) ∷ []
    → new ≡ results_below graph (compile_at trees files) (job + 1)
next_job graph trees files job old new file needs so f n is =
    let count : length old ≡ job = ap length so ∙ below_length graph (compile_at trees files) job in
    let made : new ≡ results_below graph (compile_at trees files) (suc job) =
    is ∙ ap (λ (k : ℕ). old ++ compile_in_place (slice_get trees k) (length old) (items_at old needs) ∷ []) f
    ∙ ap (λ (k : ℕ). old ++ compile_in_place (slice_get trees (slice_index_or files job 0)) k (items_at old needs) ∷ [])
    count
    ∙ ap (λ (ps : List ℕ). old ++ compile_at trees files job (items_at old ps) ∷ []) n
    ∙ ap (λ (xs : List Compiled). xs ++ compile_at trees files job (items_at xs (prerequisites_of graph job)) ∷ []) so
    in
    rw add-one made
