-- What is known of the modules of a program, and of the trees of their bodies.
use Rattle.std.specs.Prelude.{◌≡◌, ℕ, ◌<◌, ◌^◌, true, false, [], ◌∷◌, All, Some, None, slice_get}
use Rattle.typed_tree.specs.declared.typed_module.Routine.{Routine}
use Rattle.typed_tree.specs.declared.typed_module.Which.{Which}
use Rattle.typed_tree.specs.declared.typed_module.TypedModule.{TypedModule}
use Rattle.layout_storage.specs.Sizes.{size}
use Rattle.layout_storage.specs.Frames.{frame}
use Rattle.layout_storage.specs.Texts.{characters, routines_texts}
use Rattle.def_scheme.specs.Functions.{routine_of}
use Rattle.law_modules.specs.WellFormed.{IsWellFormed}
use Rattle.law_modules.specs.Linked.{Program, text}
use Rattle.law_simulation.specs.Frames.{kinds_of}
use Rattle.law_simulation.specs.Passing.{result_of}
use Rattle.law_simulation.specs.RunsPrograms.{ground}
use Rattle.law_simulation.specs.StmtsTyped.{AreStmts}
use Rattle.law_simulation.specs.Linked.{environment_of, text_of, context}
use Rattle.law_modules.specs.Ranges.{AreRanged}
use Rattle.law_modules.specs.There.{are_types, are_whole}
use Rattle.law_simulation.specs.Knows.{IsCoherent}

-- it stands in a procedure
pub record IsInside (m : TypedModule) (r : Routine) : Type 0 where
  pub which : Which
  pub routine : Routine
  pub around : r.around ≡ Some which
  pub there : routine_of m which ≡ Some routine

-- a frame has less than two gigabytes
abbrev pub HasRoom : TypedModule → Routine → Type 0
HasRoom m r = size (frame m.types r) < 2 ^ 31

pub record IsModule (p : Program) (place : ℕ) (m : TypedModule) : Type 0 where
  pub coherent : IsCoherent p place m
  pub well : IsWellFormed m
  pub ranged : AreRanged m.types
  pub room : All (HasRoom m) m.procedures
  pub room_locals : All (HasRoom m) m.locals
  pub outermost : All (λ r. r.around ≡ None) m.procedures
  pub inside : All (IsInside m) m.locals
  pub texts : All (λ b. b < 256) (text m)
  pub whole : are_whole m.types ≡ true

abbrev pub AreModules : Program → Type 0
AreModules p = (place : ℕ) (m : TypedModule) → slice_get p place ≡ Some m → IsModule p place m

-- The bodies of its procedures and its own are typed, with their texts where they stand among all.
-- The types of its variables and of its procedures' variables are there.
pub record IsTypedModule (p : Program) (pages place : ℕ) (m : TypedModule) : Type 0 where
  pub procedures : (w : Which) (r : Routine)
      → routine_of m w ≡ Some r
      → (to : ℕ)
      × AreStmts
      (context p (ground p pages).base (ground p pages).texts place m
      (kinds_of m.types r ∷ environment_of m r))
      (result_of m.types r.heading) [] false (text_of m w) to r.body
  pub body : (to : ℕ)
      × AreStmts (context p (ground p pages).base (ground p pages).texts place m []) None [] false
      (characters (routines_texts m)) to m.body
  pub kept : (w : Which) (r : Routine) → routine_of m w ≡ Some r
      → are_types m.types r.variables ≡ true
  pub variables : are_types m.types m.variables ≡ true

abbrev pub AreTypedModules : Program → (pages : ℕ) → Type 0
AreTypedModules p pages =
    (place : ℕ) (m : TypedModule) → slice_get p place ≡ Some m → IsTypedModule p pages place m
