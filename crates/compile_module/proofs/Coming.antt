-- What comes of a module, from what was found on the way.
use Rattle.std.proofs.Common.{◌≡◌, ℕ, List, [], ◌∷◌, ◌++◌, length, map, inr, refl, ap, ◌∙◌, arith}
use Rattle.std.specs.Borrow.{Bor}
use Rattle.m2_tree.specs.declared.refusal.Refusal.{Refusal}
use Rattle.m2_tree.specs.declared.decl.Module.{Module}
use Rattle.build_jobs.specs.declared.file.SourceFile.{SourceFile}
use Rattle.build_jobs.specs.Borrowed.{borrow_trees, modules_borrowed}
use Rattle.build_results.proofs.Placed.{same_modules}
use Rattle.compile_module.specs.declared.made.Made.{Made}
use Rattle.compile_module.specs.declared.made.Made.TheVariants as made
use Rattle.compile_module.specs.Stands.{stands_for, stand_file, with_stands}
use Rattle.compile_module.specs.Alone.{ComesOf, ComesOfTrees}

pub no_items : (rs : List Refusal) → length rs ≡ 0 → rs ≡ []
no_items [] e = refl
no_items (r ∷ rs) e = absurd (omega (arith, e))

pub comes_of : (files : List SourceFile) (m : Made) → ComesOfTrees files m → ComesOf files m
comes_of files (made.Refused refusals) h = inr h
comes_of files made.Defined h = h
comes_of files (made.Built m is_program imports interfaces) h = h

-- all modules, by what the code finds of them
pub all_are : (trees : List (Bor (List ℕ) × Bor Module)) (all : List (List ℕ × Module)) (stands now : List Module)
    → now ≡ stands → stands ≡ stands_for (modules_borrowed trees)
    → all ≡ borrow_trees trees ++ map (λ m. (stand_file, m)) now → all ≡ with_stands (borrow_trees trees)
all_are trees all stands now same are is =
    is ∙ ap (λ (ms : List Module). borrow_trees trees ++ map (λ m. (stand_file, m)) ms) (same ∙ are)
    ∙ ap (λ (ms : List Module). borrow_trees trees ++ map (λ m. (stand_file, m)) (stands_for ms)) (same_modules trees)
