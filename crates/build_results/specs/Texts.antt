-- What is read of the texts of files.
use Rattle.std.specs.Prelude.{◌≡◌, ◌≢◌, ℕ, List, [], ◌∷◌, ◌++◌, map}
use Rattle.std.specs.String.{string_bytes}
use Rattle.std.specs.Arc.{arc_value}
use Rattle.m2_tree.specs.declared.decl.Module.{Module}
use Rattle.build_jobs.specs.declared.file.SourceFile.{SourceFile}
use Rattle.build_jobs.specs.declared.reading.Read.{Read}
use Rattle.build_jobs.specs.declared.reading.Read.TheVariants as read
use Rattle.build_jobs.specs.Reading.{AreRead}
use Rattle.m2_tree.specs.declared.refusal.Refusal.{Refusal}
use Rattle.build_results.specs.Reported.{Reported, reported_at, AreReported}

-- the rule that a text breaks
abbrev pub refused_in : (file : List ℕ) → Read → List Reported
refused_in file (read.Refused pos number) = reported_at file pos.line pos.col number ∷ []
refused_in file (read.Parsed tree) = []

-- what each element of one list and that in the same place of another give
abbrev pub each_two : {A B C : Type 0} → (A → B → List C) → List A → List B → List C
each_two f [] ys = []
each_two f (x ∷ xs) [] = []
each_two f (x ∷ xs) (y ∷ ys) = f x y ++ each_two f xs ys

abbrev pub refused_of : List SourceFile → List Read → List Reported
refused_of files reads = each_two (λ f r. refused_in (string_bytes f.name) r) files reads

-- the tree of a text, with the file's name
abbrev pub tree_in : (file : List ℕ) → Read → List (List ℕ × Module)
tree_in file (read.Refused pos number) = []
tree_in file (read.Parsed tree) = (file, arc_value tree) ∷ []

abbrev pub trees_of : List SourceFile → List Read → List (List ℕ × Module)
trees_of files reads = each_two (λ f r. tree_in (string_bytes f.name) r) files reads

-- each text has a tree, and these are the trees
pub record AreTrees (files : List SourceFile) (trees : List (List ℕ × Module)) : Type 0 where
  pub reads : List Read
  pub are_read : AreRead files reads
  pub fine : refused_of files reads ≡ []
  pub all : trees ≡ trees_of files reads

-- texts break rules of tokens or of the grammar, and are reported
pub record AreUnread (files : List SourceFile) (refusals : List Refusal) : Type 0 where
  pub reads : List Read
  pub are_read : AreRead files reads
  pub some : refused_of files reads ≢ []
  pub reported : AreReported (refused_of files reads) refusals

abbrev pub modules : List (List ℕ × Module) → List Module
modules trees = map (λ f. f.1) trees
