-- The trees of a build fit, and the bodies of its program are those of its graph.
use Rattle.std.proofs.Common.{◌≡◌, ℕ, Bool, true, List, [], ◌∷◌, refl, sym, subst}
use Rattle.std.specs.List.{list_all}
use Rattle.std.specs.Arc.{arc_value}
use Rattle.m2_tree.specs.declared.decl.Module.{Module}
use Rattle.def_meaning.specs.Environment.{Modules}
use Rattle.law_well_formed.specs.FormedKnown.{fits_module}
use Rattle.law_well_formed.proofs.Folds.{and_both}
use Rattle.law_well_formed.proofs.Spelled.{module_fits}
use Rattle.law_well_formed.proofs.Tokens.{tokens_fit}
use Rattle.law_programs.specs.FormedTrees.{fits_contents}
use Rattle.law_programs.proofs.Rules.{text_whole}
use Rattle.law_programs.specs.FormedCoherent.{AreBodiesIn}
use Rattle.build_jobs.specs.declared.file.SourceFile.{SourceFile}
use Rattle.build_jobs.specs.declared.reading.Read.{Read}
use Rattle.build_jobs.specs.declared.reading.Read.TheVariants as read
use Rattle.build_jobs.specs.Reading.{HasTree, AreRead}
use Rattle.m2c.specs.Modules.{AreTyped}
use Rattle.build_results.specs.Texts.{modules, trees_of, AreTrees}

one_fits : (text : List ℕ) (m : Module) → HasTree text m → fits_module m ≡ true
one_fits text m h = module_fits h.tokens m (tokens_fit text h.tokens h.divides.divides) h.is_tree.0

all_fit : (files : List SourceFile) (reads : List Read) → AreRead files reads
    → list_all fits_module (modules (trees_of files reads)) ≡ true
all_fit [] reads h = refl
all_fit (f ∷ fs) [] h = refl
all_fit (f ∷ fs) (read.Refused pos number ∷ rs) h = all_fit fs rs h.1
all_fit (f ∷ fs) (read.Parsed tree ∷ rs) h =
    and_both (fits_module (arc_value tree)) (list_all fits_module (modules (trees_of fs rs)))
    (one_fits _ (arc_value tree) h.0) (all_fit fs rs h.1)

one_whole : (text : List ℕ) (m : Module) → HasTree text m → fits_contents m.contents ≡ true
one_whole text m h = text_whole text h.tokens m h.divides.divides h.is_tree.0

abbrev is_whole : Module → Bool
is_whole m = fits_contents m.contents

all_whole : (files : List SourceFile) (reads : List Read) → AreRead files reads
    → list_all is_whole (modules (trees_of files reads)) ≡ true
all_whole [] reads h = refl
all_whole (f ∷ fs) [] h = refl
all_whole (f ∷ fs) (read.Refused pos number ∷ rs) h = all_whole fs rs h.1
all_whole (f ∷ fs) (read.Parsed tree ∷ rs) h =
    and_both (is_whole (arc_value tree)) (list_all is_whole (modules (trees_of fs rs)))
    (one_whole _ (arc_value tree) h.0) (all_whole fs rs h.1)

pub trees_fit : (files : List SourceFile) (fs : List (List ℕ × Module)) → AreTrees files fs
    → list_all fits_module (modules fs) ≡ true
trees_fit files fs are = subst (λ (xs : List (List ℕ × Module)). list_all fits_module (modules xs) ≡ true) (sym are.all)
    (all_fit files are.reads are.are_read)

-- with the statements in them
pub trees_whole : (files : List SourceFile) (fs : List (List ℕ × Module)) → AreTrees files fs
    → list_all (λ m. fits_contents m.contents) (modules fs) ≡ true
trees_whole files fs are = subst (λ (xs : List (List ℕ × Module)). list_all is_whole (modules xs) ≡ true) (sym are.all)
    (all_whole files are.reads are.are_read)

module _ (fs : List (List ℕ × Module)) (numbers : List ℕ) (jobs : List (List ℕ)) where
  pub bodies_in : (starts : List ℕ) (p : Modules) → AreTyped (modules fs) numbers jobs starts p
      → AreBodiesIn (modules fs) numbers jobs starts p
  bodies_in [] [] h = tt
  bodies_in [] (t ∷ ts) h = absurd h
  bodies_in (s ∷ ss) [] h = absurd h
  bodies_in (s ∷ ss) (t ∷ ts) h = (
    record
        { tree = h.0.tree; is_tree = h.0.is_tree; job = h.0.job; is_job = h.0.is_job; typed = h.0.typed },
    bodies_in ss ts
        h.1,
  )
