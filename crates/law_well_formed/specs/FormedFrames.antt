-- Where procedures stand, and when their frames have room.
use Rattle.std.specs.Prelude.{◌≡◌, ℕ, suc, ◌<◌, ◌^◌, All, List, Option, Some, None}
use Rattle.m2_tree.specs.declared.decl.Module.{Module}
use Rattle.typed_tree.specs.declared.table.Table.{Table}
use Rattle.typed_tree.specs.declared.typed_module.Routine.{Routine}
use Rattle.typed_tree.specs.declared.typed_module.Which.{Which}
use Rattle.typed_tree.specs.declared.typed_module.TypedModule.{TypedModule}
use Rattle.check_scope.specs.Elaborated.{Gathers}
use Rattle.layout_storage.specs.Sizes.{size}
use Rattle.layout_storage.specs.Frames.{frame}
use Rattle.layout_storage.specs.Layouts.{too_large}
use Rattle.def_scheme.specs.Functions.{routine_of}
use Rattle.check_body.specs.Checks.{body_module}
use Rattle.law_well_formed.specs.Formed.{Holds}
use Rattle.law_well_formed.specs.FormedModules.{AreFor}

-- ---- frames

-- a frame has less than two gigabytes
abbrev pub HasRoom : TypedModule → Routine → Type 0
HasRoom m r = size (frame m.types r) < 2 ^ 31

pub record HaveRoom (m : TypedModule) : Type 0 where
  pub procedures : All (HasRoom m) m.procedures
  pub locals : All (HasRoom m) m.locals

-- the build refuses what has none
abbrev pub FramesHaveRoom : Type 0
FramesHaveRoom = (m : TypedModule) → too_large m ≡ None → HaveRoom m

-- ---- procedures

-- it stands in a procedure that is there, one level below it
pub record IsNested (m : TypedModule) (r : Routine) : Type 0 where
  pub which : Which
  pub routine : Routine
  pub around : r.around ≡ Some which
  pub there : routine_of m which ≡ Some routine
  pub level : r.level ≡ suc routine.level

-- the module's own procedures stand in none, and the others in procedures
pub record AreNested (m : TypedModule) : Type 0 where
  pub outermost : All (λ r. r.around ≡ None) m.procedures
  pub inside : All (IsNested m) m.locals

abbrev pub ModulesAreNested : Gathers → Type 0
ModulesAreNested g = (number : ℕ) (m : Module) (own : Option Table) (tables : List Table)
    → AreFor number own tables m.contents → Holds AreNested (body_module g number m own tables)
