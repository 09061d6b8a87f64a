-- The parts of a program, and what they link to.
use Rattle.std.specs.Prelude.{◌≡◌, ◌||◌, ℕ, Bool, true, false, cond, List, [], ◌∷◌, map, Some, slice_get}
use Rattle.std.specs.List.{All, Contains}
use Rattle.std.specs.String.{string_bytes}
use Rattle.m2_tree.specs.Names.{same_name, is_console}
use Rattle.m2_tree.specs.declared.decl.Module.{Module}
use Rattle.m2_graph.specs.Imports.{is_definition, is_program}
use Rattle.m2_graph.specs.Files.{number_files}
use Rattle.m2_graph.specs.Graph.{IsGraph}
use Rattle.law_graph.specs.Started.{AreApart, all_imported}
use Rattle.def_scheme.specs.Modules.{link_of}
use Rattle.def_scheme.specs.Modules.{Part as Sizes}
use Rattle.emit_buffer.specs.Cut.{cut_module}
use Rattle.m2_emit.specs.declared.emitted.ModuleBytes.{ModuleBytes}
use Rattle.m2_emit.specs.Emitted.{code_bytes, link_part, parts}
use Rattle.build_jobs.specs.declared.outcome.Compiled.TheVariants.{Built}
use Rattle.build_results.specs.Texts.{modules}
use Rattle.build_results.specs.Results.{start_modules}
use Rattle.law_separation.specs.Alike.{Tree, Jobs, comes_of}
use Rattle.link_parts.specs.declared.part.Part.{Part}
use Rattle.link_parts.specs.Stands.{stands_for, trees_of}
use Rattle.link_parts.specs.Linked.{sizes_of, started, IsLinked}

-- ---- parts

-- the names that have no mark, each at its first place
abbrev pub unless : (marked : List ℕ → Bool) → List (List ℕ) → List (List ℕ)
unless marked [] = []
unless marked (x ∷ xs) =
    cond (marked x) (unless marked xs) (x ∷ unless (λ n. marked n || same_name x n) xs)

-- the names, each once, without Console
abbrev pub each_once : List (List ℕ) → List (List ℕ)
each_once names = unless is_console names

-- The part is that of a body of the program. It has the names that the body's definition and then
-- the body imports, each once, and what link needs of the module that was built of the body.
pub record IsPart (trees : List Tree) (jobs : Jobs trees) (p : Part) : Type 0 where
  pub file : ℕ
  pub body : Module
  pub there : slice_get (modules trees) file ≡ Some body
  pub kind : is_definition body ≡ false
  pub name : string_bytes p.name ≡ body.name.name
  pub program : p.is_program ≡ is_program body
  pub imports : map string_bytes p.imports.items
      ≡ each_once (map (λ i. i.name) (all_imported (modules trees) body))
  pub built : ModuleBytes
  pub is_built : comes_of trees jobs file ≡ Some (Built built)
  pub sizes : link_part built ≡ sizes_of (p, body)

-- Each is a part of the program, in whichever order they are given.
abbrev pub AreParts : (trees : List Tree) → Jobs trees → List Part → Type 0
AreParts trees jobs ps = All (IsPart trees jobs) ps

-- The parts have names of their own, one of them is a program, and whatever one imports is there.
pub record AreWhole (ps : List Part) : Type 0 where
  pub apart : AreApart (map (λ p. string_bytes p.name) ps)
  pub program : Part
  pub program_there : Contains ps program
  pub is_program : program.is_program ≡ true
  pub closed : (p : Part) (n : List ℕ) → Contains ps p
      → Contains (map string_bytes p.imports.items) n
      → Contains (map (λ q. string_bytes q.name) ps) n

-- ---- what they link to

-- what link needs of the modules that start, in their order, where the whole program is built
abbrev pub built_parts : (trees : List Tree) → Jobs trees → List Sizes
built_parts trees jobs = parts (start_modules trees jobs.files jobs.needs jobs.starts)

-- Empty modules with the names and imports of the parts start in the order of the program.
abbrev pub PartsStartInOrder : Type 0
PartsStartInOrder =
    (trees : List Tree) (jobs : Jobs trees) (ps : List Part) → AreParts trees jobs ps
    → (numbers : List ℕ) (needs : List (List ℕ)) (starts : List ℕ)
    → IsGraph (number_files 0 (trees_of (stands_for ps))) numbers needs starts
    → started ps starts ≡ built_parts trees jobs

-- The parts of a program, in whichever order they are given, link to the bytes of link that the
-- build of the program gives.
abbrev pub LinkingIsBuilding : Type 0
LinkingIsBuilding =
    (trees : List Tree) (jobs : Jobs trees) (ps : List Part) → AreParts trees jobs ps
    → (pages : ℕ) (bytes : List ℕ) → IsLinked ps pages bytes
    → bytes ≡ code_bytes (cut_module (link_of (built_parts trees jobs) pages))

-- Nothing is refused of what the parts of a program import, if whatever they import is there.
abbrev pub PartsAreAccepted : Type 0
PartsAreAccepted =
    (trees : List Tree) (jobs : Jobs trees) (ps : List Part) → AreParts trees jobs ps → AreWhole ps
    → Jobs (trees_of (stands_for ps))
