-- The theorem of separate compilation.
use Rattle.std.specs.Prelude.{◌≡◌, ℕ, false, List, Some}
use Rattle.m2_tree.specs.declared.decl.Module.{Module}
use Rattle.m2_graph.specs.Imports.{is_definition}
use Rattle.m2_emit.specs.declared.emitted.ModuleBytes.{ModuleBytes}
use Rattle.build_jobs.specs.declared.outcome.Compiled.TheVariants.{Built}
use Rattle.build_results.specs.Results.{result_at}
use Rattle.compile_module.specs.Alone.{HaveJobs, IsMade}
use Rattle.law_separation.specs.Alike.{Tree, Jobs, comes_of}
use Rattle.law_exchange_jobs.specs.Sharing.{AreShared}

-- The same refusal or the same bytes come of a body in all programs that have the body and the
-- definitions which it needs, in whichever places, and whatever else they have.
abbrev pub BodiesAreSeparate : Type 0
BodiesAreSeparate =
    (trees others : List Tree) (jobs : Jobs trees) (other_jobs : Jobs others)
    (place other_place : ℕ) (root : Module) → is_definition root ≡ false
    → AreShared trees others place other_place root
    → comes_of others other_jobs other_place ≡ comes_of trees jobs place

-- So it is where modules are compiled without others, for which empty modules stand: what comes of
-- a body among them comes of it in each such program, be it refused or built.
abbrev pub WhatComesAloneIsSo : Type 0
WhatComesAloneIsSo =
    (alone others : List Tree) (numbers : List ℕ) (needs : List (List ℕ))
    → HaveJobs alone numbers needs → (other_jobs : Jobs others) (place other_place : ℕ)
    (root : Module) → is_definition root ≡ false → AreShared alone others place other_place root
    → comes_of others other_jobs other_place ≡ result_at alone numbers needs place

-- The bytes that are made of a module alone come of it in each such program.
abbrev pub AloneIsTogether : Type 0
AloneIsTogether =
    (alone others : List Tree) (b : ModuleBytes) → IsMade alone (Some (Built b))
    → (other_jobs : Jobs others) (other_place : ℕ) (root : Module)
    → AreShared alone others 0 other_place root
    → comes_of others other_jobs other_place ≡ Some (Built b)
