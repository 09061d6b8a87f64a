-- Results by a table of places.
use Rattle.std.proofs.Common.{◌≡◌, ℕ, ◌+◌, List, [], ◌∷◌, ◌++◌, Option, refl, ap, ◌∙◌}
use Rattle.std.specs.Prelude.{slice_get}
use Rattle.std.specs.Option.{option_and_then}
use Rattle.std.specs.Borrow.{Bor}
use Rattle.m2_tree.specs.declared.decl.Module.{Module}
use Rattle.m2_graph.specs.Jobs.{ArePlaces, place_of}
use Rattle.m2_emit.specs.declared.emitted.ModuleBytes.{ModuleBytes}
use Rattle.build_jobs.specs.declared.outcome.Compiled.{Compiled}
use Rattle.build_jobs.specs.Jobs.{all_compiled}
use Rattle.build_jobs.specs.Borrowed.{borrow_trees, modules_borrowed}
use Rattle.build_results.specs.Reported.{Reported}
use Rattle.build_results.specs.Texts.{modules}
use Rattle.build_results.specs.Results.{result_of, module_in, modules_at, refusal_in, refused_from, refused_by, result_at, start_modules}

pub same_modules : (trees : List (Bor (List ℕ) × Bor Module)) → modules_borrowed trees ≡ modules (borrow_trees trees)
same_modules [] = refl
same_modules (t ∷ ts) = ap (λ (ms : List Module). t.1.now ∷ ms) (same_modules ts)

module _ (f g : ℕ → Option Compiled) (same : (k : ℕ) → f k ≡ g k) where
  same_refused : (n : ℕ) (fs : List (List ℕ × Module)) → refused_from f n fs ≡ refused_from g n fs
  same_refused n [] = refl
  same_refused n (x ∷ xs) = ap (λ (o : Option Compiled). refusal_in x.0 o ++ refused_from f (n + 1) xs) (same n)
      ∙ ap (λ (ts : List Reported). refusal_in x.0 (g n) ++ ts) (same_refused (n + 1) xs)

  same_started : (starts : List ℕ) → modules_at f starts ≡ modules_at g starts
  same_started [] = refl
  same_started (s ∷ ss) = ap (λ (o : Option Compiled). module_in o ++ modules_at f ss) (same s)
      ∙ ap (λ (ms : List ModuleBytes). module_in (g s) ++ ms) (same_started ss)

module _ (results : List Compiled) (numbers : List ℕ) (places : List (Option ℕ)) (are : ArePlaces numbers places) where
  same_results : (k : ℕ) → option_and_then (slice_get results) (place_of places k) ≡ result_of numbers results k
  same_results k = ap (option_and_then (slice_get results)) (are k)

  pub placed_refused : (n : ℕ) (fs : List (List ℕ × Module))
      → refused_from (λ k. option_and_then (slice_get results) (place_of places k)) n fs
      ≡ refused_from (result_of numbers results) n fs
  placed_refused = same_refused (λ k. option_and_then (slice_get results) (place_of places k))
      (result_of numbers results) same_results

  pub placed_started : (starts : List ℕ) →
      modules_at (λ k. option_and_then (slice_get results) (place_of places k)) starts
      ≡ modules_at (result_of numbers results) starts
  placed_started = same_started (λ k. option_and_then (slice_get results) (place_of places k))
      (result_of numbers results) same_results

module _ (trees : List (Bor (List ℕ) × Bor Module)) (numbers : List ℕ) (jobs : List (List ℕ))
    (places places_now : List (Option ℕ)) (results : List Compiled) (are : ArePlaces numbers places)
    (same : places_now ≡ places) (all : results ≡ all_compiled (modules_borrowed trees) numbers jobs) where
  all_are : results ≡ all_compiled (modules (borrow_trees trees)) numbers jobs
  all_are = all ∙ ap (λ (ms : List Module). all_compiled ms numbers jobs) (same_modules trees)

  pub refusals_are : (ts : List Reported)
      → ts ≡ refused_from (λ k. option_and_then (slice_get results) (place_of places_now k)) 0 (borrow_trees trees)
      → ts ≡ refused_by (borrow_trees trees) numbers jobs
  refusals_are ts e =
      e ∙ ap (λ (ps : List (Option ℕ)). refused_from (λ k. option_and_then (slice_get results) (place_of ps k)) 0
      (borrow_trees trees)) same
      ∙ placed_refused results numbers places are 0 (borrow_trees trees)
      ∙ ap (λ (rs : List Compiled). refused_from (result_of numbers rs) 0 (borrow_trees trees)) all_are

  pub result_is : (o : Option Compiled) (k : ℕ) → o ≡ option_and_then (slice_get results) (place_of places_now k)
      → o ≡ result_at (borrow_trees trees) numbers jobs k
  result_is o k e =
      e ∙ ap (λ (ps : List (Option ℕ)). option_and_then (slice_get results) (place_of ps k)) same
      ∙ same_results results numbers places are k
      ∙ ap (λ (rs : List Compiled). result_of numbers rs k) all_are

  pub started_are : (ms : List ModuleBytes) (order starts : List ℕ)
      → ms ≡ modules_at (λ k. option_and_then (slice_get results) (place_of places_now k)) order → order ≡ starts
      → ms ≡ start_modules (borrow_trees trees) numbers jobs starts
  started_are ms order starts e o =
      e ∙ ap (λ (ps : List (Option ℕ)). modules_at (λ k. option_and_then (slice_get results) (place_of ps k)) order)
      same
      ∙ placed_started results numbers places are order
      ∙ ap (λ (rs : List Compiled). modules_at (result_of numbers rs) order) all_are
      ∙ ap (λ (ss : List ℕ). start_modules (borrow_trees trees) numbers jobs ss) o
