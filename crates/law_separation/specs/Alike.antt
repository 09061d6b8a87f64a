-- Programs that share a module and the definitions that it needs, and what comes of it in both.
use Rattle.std.specs.Prelude.{◌≡◌, ℕ, true, List, map, Option, Some, slice_get}
use Rattle.std.specs.List.{AllZip}
use Rattle.m2_tree.specs.declared.decl.Module.{Module}
use Rattle.m2_graph.specs.Imports.{imports_of, is_definition}
use Rattle.m2_graph.specs.Files.{number_files}
use Rattle.m2_graph.specs.Graph.{IsGraph}
use Rattle.build_jobs.specs.declared.outcome.Compiled.{Compiled}
use Rattle.build_results.specs.Texts.{modules}
use Rattle.build_results.specs.Results.{result_at}

-- ---- programs whose modules have the same numbers

-- the name of a file, and the tree of its text
abbrev pub Tree : Type 0
Tree = List ℕ × Module

abbrev pub imported_names : Module → List (List ℕ)
imported_names m = map (λ i. i.name) (imports_of m)

-- Both are definitions, of one name and with the same imports, or both are bodies.
pub record HaveSameHead (m n : Module) : Type 0 where
  pub kind : is_definition n ≡ is_definition m
  pub head : is_definition m ≡ true
      → (n.name.name ≡ m.name.name) × (imported_names n ≡ imported_names m)

pub record AreAlike (f g : Tree) : Type 0 where
  pub of_name : f.0 ≡ g.0
  pub of_module : HaveSameHead f.1 g.1

-- the same files by their names, with definitions of the same modules and with the same imports
abbrev pub HaveSameHeads : List Tree → List Tree → Type 0
HaveSameHeads trees others = AllZip AreAlike trees others

-- ---- what a module needs

-- the names of definitions: its own, those that it imports, and those that these import
pub data Needs (trees : List Tree) (m : Module) : List ℕ → Type 0 where
  own : Needs trees m m.name.name
  imported : (i : ℕ) {name : List ℕ} → slice_get (imported_names m) i ≡ Some name
      → Needs trees m name
  further : (k i : ℕ) (d : Module) {name : List ℕ} → slice_get (modules trees) k ≡ Some d
      → is_definition d ≡ true → Needs trees m d.name.name
      → slice_get (imported_names d) i ≡ Some name → Needs trees m name

-- Both have this module in this place, and the definitions that it needs in theirs.
pub record ShareModule (trees others : List Tree) (file : ℕ) (m : Module) : Type 0 where
  pub here : slice_get (modules trees) file ≡ Some m
  pub there : slice_get (modules others) file ≡ Some m
  pub definitions : (k : ℕ) (d : Module) → slice_get (modules trees) k ≡ Some d
      → is_definition d ≡ true → Needs trees m d.name.name → slice_get (modules others) k ≡ Some d

-- ---- what comes of it

-- the jobs of a program in which nothing of imports is refused, and the file of each
pub record Jobs (trees : List Tree) : Type 0 where
  pub files : List ℕ
  pub needs : List (List ℕ)
  pub starts : List ℕ
  pub is_graph : IsGraph (number_files 0 trees) files needs starts

-- what comes of the module of a file: its refusal, its bytes, or what a definition exports
abbrev pub comes_of : (trees : List Tree) → Jobs trees → (file : ℕ) → Option Compiled
comes_of trees jobs file = result_at trees jobs.files jobs.needs file

-- What comes of a module depends on its own text and on the definitions that it needs. Of the other
-- files nothing matters but which definitions they are and what these import, since by that modules
-- are numbered: two programs in which the same modules have the same numbers give a module that
-- they share the same refusal or the same bytes.
abbrev pub OtherFilesDoNotMatter : Type 0
OtherFilesDoNotMatter =
    (trees others : List Tree) → HaveSameHeads trees others
    → (jobs : Jobs trees) (other_jobs : Jobs others)
    → (file : ℕ) (m : Module) → ShareModule trees others file m
    → comes_of trees jobs file ≡ comes_of others other_jobs file
