-- Which modules are found for a program, and where.
use Rattle.std.specs.Prelude.{◌≡◌, ◌<◌, ◌++◌, ◌||◌, ℕ, Bool, List, [], ◌∷◌, Option, Some, None, map, if◌then◌else◌, All}
use Rattle.std.specs.Global.{Vec}
use Rattle.std.specs.List.{list_any, fold}
use Rattle.m2_tree.specs.Names.{same_name, is_console}
use Rattle.find_modules.specs.Imports.{Imports}
use Rattle.find_modules.specs.declared.folders.Part.{Part}
use Rattle.find_modules.specs.declared.folders.Part.TheVariants.{Definition, Implementation}
use Rattle.find_modules.specs.declared.found.Sources.{Sources}
use Rattle.find_modules.specs.declared.found.FoundModule.{FoundModule}

-- what a folder may give as a part of a module: a text, or nothing
abbrev pub Folders : Type 1
Folders = ℕ → List ℕ → Part → Option (List ℕ) → Type 0

abbrev pub bytes_of : Option (Vec ℕ) → Option (List ℕ)
bytes_of None = None
bytes_of (Some text) = Some text.items

-- ---- where a module is

-- none of the folders below this number has the definition
abbrev pub LackIt : Folders → (below : ℕ) → (name : List ℕ) → Type 0
LackIt gives below name = (k : ℕ) → k < below → gives k name Definition None

-- the first of this many folders that has the definition, and the definition
abbrev pub IsAt : Folders → (count : ℕ) → (name : List ℕ) → Option (ℕ × Vec ℕ) → Type 0
IsAt gives count name None = LackIt gives count name
IsAt gives count name (Some at) =
    (at.0 < count) × LackIt gives at.0 name × gives at.0 name Definition (Some at.1.items)

-- the definition in the first folder that has one, and the implementation in that folder
abbrev pub AreSources : Folders → (count : ℕ) → (name : List ℕ) → Option Sources → Type 0
AreSources gives count name None = LackIt gives count name
AreSources gives count name (Some s) =
    (s.folder < count) × LackIt gives s.folder name
    × gives s.folder name Definition (Some s.definition.items)
    × gives s.folder name Implementation (bytes_of s.implementation)

abbrev pub AreFound : Folders → (count : ℕ) → List FoundModule → Type 0
AreFound gives count modules = All (λ m. AreSources gives count m.name m.sources) modules

-- ---- which modules

-- The most modules whose imports are followed: as many as a program may have files, so one with
-- more is refused.
abbrev pub max_modules : ℕ
max_modules = 1024

abbrev pub name_of : FoundModule → List ℕ
name_of m = m.name

abbrev pub is_among : (name : List ℕ) → List (List ℕ) → Bool
is_among name names = list_any (same_name name) names

-- a name, beside a number
abbrev pub first_of : List ℕ × ℕ → List ℕ
first_of e = e.0

-- the names of the modules that were looked for, in their order
abbrev pub Knows : List (List ℕ × ℕ) → List FoundModule → Type 0
Knows known modules = map first_of known ≡ map name_of modules

-- a name behind others, unless it is the name of the built in module, or is among them
abbrev pub with_name : List (List ℕ) → List ℕ → List (List ℕ)
with_name names name = if is_console name || is_among name names then names else names ++ name ∷ []

-- each name once, in the order in which they come first
abbrev pub each_once : List (List ℕ) → List (List ℕ)
each_once names = fold with_name [] names

-- the modules that the implementation imports, if there is one
abbrev pub BodyImports : Option (Vec ℕ) → List (List ℕ) → Type 0
BodyImports None names = names ≡ []
BodyImports (Some text) names = Imports text.items names

-- the modules that the definition imports, and then the modules that the implementation imports
pub record TextsImport (s : Sources) (names : List (List ℕ)) : Type 0 where
  pub defined : List (List ℕ)
  pub implemented : List (List ℕ)
  pub definition : Imports s.definition.items defined
  pub implementation : BodyImports s.implementation implemented
  pub both : names ≡ defined ++ implemented

-- the modules that a module imports, and none if it has no texts
abbrev pub SourcesImport : Option Sources → List (List ℕ) → Type 0
SourcesImport None names = names ≡ []
SourcesImport (Some s) names = TextsImport s names

-- the modules that these modules import, in their order
pub data ModulesImport : List FoundModule → List (List ℕ) → Type 0 where
  NoModule : ModulesImport [] []
  Further : (m : FoundModule) (ms : List FoundModule) (names more : List (List ℕ))
      → SourcesImport m.sources names
      → ModulesImport ms more
      → ModulesImport (m ∷ ms) (names ++ more)

-- The modules of a program are those that its text imports and those that they import themselves,
-- each once; and each is where it is found first.
pub record AreOf (gives : Folders) (count : ℕ) (program : List ℕ) (modules : List FoundModule)
    : Type 0 where
  pub own : List (List ℕ)
  pub others : List (List ℕ)
  pub program_imports : Imports program own
  pub modules_import : ModulesImport modules others
  pub once : map name_of modules ≡ each_once (own ++ others)
  pub found : AreFound gives count modules

-- modules behind others: those of these names that are new, each where it is found first
pub record AreAdded (gives : Folders) (count : ℕ) (names : List (List ℕ))
    (old new : List FoundModule) : Type 0 where
  pub more : List FoundModule
  pub behind : new ≡ old ++ more
  pub new_names : map name_of new ≡ fold with_name (map name_of old) names
  pub found : AreFound gives count more
