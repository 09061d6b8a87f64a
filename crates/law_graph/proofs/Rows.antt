-- The jobs are determined.
use Rattle.std.proofs.Common.{◌≡◌, ℕ, List, [], ◌∷◌, ◌++◌, map, refl, sym, ap, ap₂, ◌∙◌}
use Rattle.std.specs.List.{AllZip}
use Rattle.m2_tree.specs.declared.decl.Module.{Module}
use Rattle.m2_graph.specs.Imports.{is_definition}
use Rattle.m2_graph.specs.Order.{body_numbers, IsJobOrder, IsJob}
use Rattle.law_graph.proofs.Numbered.{one_numbering}

-- The order of the jobs is determined.
pub one_job_order : (links : List (List ℕ)) (modules : List Module) (a b : List ℕ) → IsJobOrder links modules a
    → IsJobOrder links modules b → a ≡ b
one_job_order links modules a b x y = x.2
    ∙ ap (λ (ds : List ℕ). ds ++ body_numbers 0 modules)
    (one_numbering links (map is_definition modules) x.0 y.0 x.1 y.1) ∙ sym y.2

-- Two lists of jobs for the same modules are the same.
pub one_rows : (modules : List Module) (order nodes : List ℕ) (js ks : List (List ℕ))
    → AllZip (IsJob modules order) nodes js → AllZip (IsJob modules order) nodes ks → js ≡ ks
one_rows modules order [] [] [] x y = refl
one_rows modules order [] [] (k ∷ ks) x y = absurd y
one_rows modules order [] (j ∷ js) ks x y = absurd x
one_rows modules order (n ∷ nodes) [] ks x y = absurd x
one_rows modules order (n ∷ nodes) (j ∷ js) [] x y = absurd y
one_rows modules order (n ∷ nodes) (j ∷ js) (k ∷ ks) x y =
    ap₂ (λ (row : List ℕ) (rows : List (List ℕ)). row ∷ rows) (x.0 ∙ sym y.0)
    (one_rows modules order nodes js ks x.1 y.1)
