-- Programs that share a module and the definitions that it needs, wherever these stand, and what
-- comes of the module in both.
use Rattle.std.specs.Prelude.{◌≡◌, ℕ, true, false, List, map, Some, slice_get}
use Rattle.std.specs.Option.{option_map}
use Rattle.m2_tree.specs.declared.decl.Module.{Module}
use Rattle.m2_graph.specs.Imports.{is_definition}
use Rattle.m2_emit.specs.declared.emitted.ModuleBytes.{ModuleBytes}
use Rattle.check_definition.specs.Predeclared.{console}
use Rattle.build_jobs.specs.declared.outcome.Compiled.{Compiled}
use Rattle.build_jobs.specs.declared.outcome.Compiled.TheVariants.{Defined, Built, Refused, Blocked}
use Rattle.build_jobs.specs.Compiling.{compilation_of}
use Rattle.build_results.specs.Texts.{modules}
use Rattle.build_results.specs.Results.{result_at}
use Rattle.law_separation.specs.Alike.{Tree, Needs, Jobs, comes_of}
use Rattle.def_exchange.specs.Moved.{Exchange, moved_table}
use Rattle.compile_module.specs.Alone.{HaveJobs, IsMade}

-- ---- what becomes of a module where modules have other numbers

abbrev pub moved_compiled : Exchange → Compiled → Compiled
moved_compiled x (Defined t) = Defined (moved_table x t)
moved_compiled x (Built b) = Built b
moved_compiled x (Refused f) = Refused f
moved_compiled x Blocked = Blocked

-- the number of Console, which is there in each program, stays
abbrev pub LeavesConsole : Exchange → Type 0
LeavesConsole x = x.there console.number ≡ console.number

-- What becomes of a module, from what became of those that it needs, moves with the numbers of
-- modules.
abbrev pub MovesWithNumbers : Type 0
MovesWithNumbers =
    (x : Exchange) → LeavesConsole x → (m : Module) (number : ℕ) (needed : List Compiled)
    → compilation_of m (x.there number) (map (moved_compiled x) needed)
    ≡ moved_compiled x (compilation_of m number needed)

-- ---- programs that have what a module needs

-- The other program has the definitions that the module needs in this one, in whichever places.
abbrev pub ShareWhatIsNeeded : (trees others : List Tree) → Module → Type 0
ShareWhatIsNeeded trees others root =
    (k : ℕ) (d : Module) → slice_get (modules trees) k ≡ Some d → is_definition d ≡ true
    → Needs trees root d.name.name → (j : ℕ) × (slice_get (modules others) j ≡ Some d)

-- The module stands in these places, and the other program has what it needs.
pub record AreShared (trees others : List Tree) (place other_place : ℕ) (root : Module)
    : Type 0 where
  pub here : slice_get (modules trees) place ≡ Some root
  pub there : slice_get (modules others) other_place ≡ Some root
  pub definitions : ShareWhatIsNeeded trees others root

-- ---- the laws

-- What comes of a module in one program comes of it in each other that has the definitions which it
-- needs, but for the numbers of modules.
abbrev pub WhatComesMoves : Type 0
WhatComesMoves =
    MovesWithNumbers → (trees others : List Tree) (jobs : Jobs trees) (other_jobs : Jobs others)
    → (place other_place : ℕ) (root : Module) → AreShared trees others place other_place root
    → (x : Exchange)
    × (comes_of others other_jobs other_place
    ≡ option_map (moved_compiled x) (comes_of trees jobs place))

-- The same refusal or the same bytes come of a body.
abbrev pub BodiesStay : Type 0
BodiesStay =
    MovesWithNumbers → (trees others : List Tree) (jobs : Jobs trees) (other_jobs : Jobs others)
    → (place other_place : ℕ) (root : Module) → is_definition root ≡ false
    → AreShared trees others place other_place root
    → comes_of others other_jobs other_place ≡ comes_of trees jobs place

-- So it is where some modules are compiled without others, for which empty modules stand: what
-- comes of a body among them comes of it in each program that has it and the definitions which it
-- needs among them.
abbrev pub WhatComesAloneComes : Type 0
WhatComesAloneComes =
    MovesWithNumbers → (alone others : List Tree) (numbers : List ℕ) (needs : List (List ℕ))
    → HaveJobs alone numbers needs → (other_jobs : Jobs others) (place other_place : ℕ)
    (root : Module) → is_definition root ≡ false → AreShared alone others place other_place root
    → comes_of others other_jobs other_place ≡ result_at alone numbers needs place

-- The bytes that are made of the first of some modules come of it in each such program.
abbrev pub WhatIsMadeAloneComes : Type 0
WhatIsMadeAloneComes =
    MovesWithNumbers → (alone others : List Tree) (b : ModuleBytes) → IsMade alone (Some (Built b))
    → (other_jobs : Jobs others) (other_place : ℕ) (root : Module)
    → AreShared alone others 0 other_place root
    → comes_of others other_jobs other_place ≡ Some (Built b)
