-- Trees that are borrowed. No public contract speaks of it.
use Rattle.std.specs.Prelude.{ℕ, List, map}
use Rattle.std.specs.Borrow.{Bor}
use Rattle.m2_tree.specs.declared.decl.Module.{Module}

abbrev pub borrow_trees : List (Bor (List ℕ) × Bor Module) → List (List ℕ × Module)
borrow_trees trees = map (λ f. (f.0.now, f.1.now)) trees

abbrev pub modules_borrowed : List (Bor (List ℕ) × Bor Module) → List Module
modules_borrowed trees = map (λ f. f.1.now) trees
