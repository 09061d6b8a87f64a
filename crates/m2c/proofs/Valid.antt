-- The modules of a program are valid.
use Rattle.std.proofs.Common.{◌≡◌, ℕ, List, [], ◌∷◌, Result, Ok, map, subst}
use Rattle.std.specs.Prelude.{All}
use Rattle.std.proofs.lemmas.List.Elements.{All-nil, All-cons}
use Rattle.wasm_tree.specs.Validity.{IsValid}
use Rattle.m2_tree.specs.declared.decl.Module.{Module}
use Rattle.m2_graph.specs.Files.{number_files}
use Rattle.m2_graph.specs.Graph.{IsGraph}
use Rattle.typed_tree.specs.declared.typed_module.TypedModule.{TypedModule}
use Rattle.def_meaning.specs.Environment.{Modules}
use Rattle.def_scheme.specs.Modules.{typed_module}
use Rattle.law_well_formed.specs.Formed.{Holds, fine, broken}
use Rattle.law_programs.proofs.ValidPrograms.{programs_valid}
use Rattle.m2c.specs.Modules.{IsTyped, AreTyped}
use Rattle.build_results.specs.Texts.{modules}

abbrev Valid : TypedModule → Type 0
Valid t = IsValid (typed_module t)

held : {A T : Type 0} (P : A → Type 0) (r : Result A T) (x : A) → Holds P r → r ≡ Ok x → P x
held P _ x (fine y p) e = let same : y ≡ x = cc in subst P same p
held P _ x (broken y) e = absurd cc

module _ (fs : List (List ℕ × Module)) (numbers : List ℕ) (jobs : List (List ℕ)) (starts : List ℕ)
    (graph : IsGraph (number_files 0 fs) numbers jobs starts) where
  one_valid : (s : ℕ) (t : TypedModule) → IsTyped (modules fs) numbers jobs s t → Valid t
  one_valid s t typed = held Valid _ t (programs_valid fs numbers jobs starts graph typed.tree typed.job) typed.typed

  pub all_valid : (ss : List ℕ) (p : Modules) → AreTyped (modules fs) numbers jobs ss p
      → All IsValid (map typed_module p)
  all_valid [] [] typed = All-nil IsValid
  all_valid [] (t ∷ ts) typed = absurd typed
  all_valid (s ∷ ss) [] typed = absurd typed
  all_valid (s ∷ ss) (t ∷ ts) typed = All-cons IsValid (typed_module t) (map typed_module ts) (one_valid s t typed.0)
      (all_valid ss ts typed.1)
