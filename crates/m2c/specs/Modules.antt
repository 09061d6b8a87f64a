-- The program that the results of the jobs are.
use Rattle.std.specs.Prelude.{◌≡◌, ℕ, List, [], ◌∷◌, Some, Ok, slice_get}
use Rattle.m2_tree.specs.declared.decl.Module.{Module}
use Rattle.m2_graph.specs.Jobs.{number_of}
use Rattle.typed_tree.specs.declared.typed_module.TypedModule.{TypedModule}
use Rattle.def_meaning.specs.Environment.{Modules}
use Rattle.build_jobs.specs.Compiling.{tables_of, typed_body}
use Rattle.build_jobs.specs.Jobs.{needed_of}

-- the module of a file breaks no rule, and this is its body
pub record IsTyped (trees : List Module) (files : List ℕ) (jobs : List (List ℕ)) (file : ℕ)
    (t : TypedModule) : Type 0 where
  pub tree : Module
  pub is_tree : slice_get trees file ≡ Some tree
  pub job : ℕ
  pub is_job : number_of files file ≡ Some job
  pub typed : typed_body tree job (tables_of (needed_of trees files jobs job)) ≡ Ok t

-- the same of all that start
abbrev pub AreTyped : List Module → (files : List ℕ) → (jobs : List (List ℕ)) → (starts : List ℕ)
    → Modules → Type 0
AreTyped trees files jobs [] [] = Unit {0}
AreTyped trees files jobs (s ∷ ss) (t ∷ ts) =
    IsTyped trees files jobs s t × AreTyped trees files jobs ss ts
AreTyped trees files jobs [] (t ∷ ts) = ⊥
AreTyped trees files jobs (s ∷ ss) [] = ⊥
