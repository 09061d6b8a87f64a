-- The files of a program, and their order.
use Rattle.std.specs.Prelude.{ℕ, ◌+◌, Bool, List, [], ◌∷◌, map, slice_index_or}
use Rattle.std.specs.List.Sorted.{IsPermutation, IsSortedBy, IsStableBy}
use Rattle.std.specs.Borrow.{Bor}
use Rattle.std.specs.Ordering.{nat_cmp, is_lt}
use Rattle.std.specs.Cmp.Lexicographic.{slice_cmp}
use Rattle.m2_tree.specs.declared.decl.Module.{Module}

-- a file: its name, its module, and how many files were given before it
pub record File : Type 0 where
  pub name : List ℕ
  pub tree : Module
  pub given : ℕ

-- files of these names and modules, the first of which is the n-th that was given
abbrev pub number_files : (n : ℕ) → List (List ℕ × Module) → List File
number_files n [] = []
number_files n (f ∷ fs) = record { name = f.0; tree = f.1; given = n } ∷ number_files (n + 1) fs

-- the files that a caller borrows, with their names
abbrev pub files_of : List (Bor (List ℕ) × Bor Module) → List File
files_of borrowed = number_files 0 (map (λ f. (f.0.now, f.1.now)) borrowed)

-- the first file's name is less, byte by byte
abbrev pub is_before : File → File → Bool
is_before f g = is_lt (slice_cmp nat_cmp f.name g.name)

-- The same files, by their names, and as they were given if these are equal.
pub record AreInOrder (files ordered : List File) : Type 0 where
  pub same : IsPermutation files ordered
  pub sorted : IsSortedBy is_before ordered
  pub stable : IsStableBy is_before files ordered

-- their modules
abbrev pub trees : List File → List Module
trees files = map (λ f. f.tree) files

-- how many files were given before the file with this number
abbrev pub given_of : List File → ℕ → ℕ
given_of files number = slice_index_or (map (λ f. f.given) files) number 0
