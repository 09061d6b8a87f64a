-- When what the bodies of a module ask for is there: their texts, and the types of their calls
-- through the table. Then a module is typed whose bodies are typed wherever that is there.
use Rattle.std.specs.Prelude.{◌≡◌, ◌⊎◌, ℕ, ◌<◌, Bool, true, List, [], Option, Some, All}
use Rattle.std.specs.List.{list_any}
use Rattle.m2_tree.specs.declared.decl.Module.{Module}
use Rattle.typed_tree.specs.declared.statement.TypedStmt.{TypedStmt}
use Rattle.typed_tree.specs.declared.table.Table.{Table}
use Rattle.typed_tree.specs.declared.typed_module.Routine.{Routine}
use Rattle.typed_tree.specs.declared.typed_module.Which.{Which}
use Rattle.typed_tree.specs.declared.typed_module.TypedModule.{TypedModule}
use Rattle.check_scope.specs.Elaborated.{Gathers}
use Rattle.layout_storage.specs.Texts.{characters, routines_texts, is_which}
use Rattle.def_scheme.specs.Functions.{routine_of}
use Rattle.check_body.specs.Checks.{body_module}
use Rattle.law_modules.specs.Linked.{Program, text}
use Rattle.law_simulation.specs.Frames.{Kinds}
use Rattle.law_simulation.specs.RunsPrograms.{ground}
use Rattle.law_simulation.specs.Linked.{text_of}
use Rattle.law_simulation.specs.Modules.{IsTypedModule}
use Rattle.law_well_formed.specs.Formed.{Holds}
use Rattle.law_programs.specs.Wanted.{Has}
use Rattle.law_programs.specs.Asked.{wanted_by}
use Rattle.law_programs.specs.TypingBodies.{Stage, stands, AreBodiesTyped}

-- ---- the order of bodies

-- Each procedure stands in the order in which bodies end, or its body is empty.
abbrev pub AreOrdered : TypedModule → Type 0
AreOrdered m =
    (w : Which) (r : Routine) → routine_of m w ≡ Some r
    → (list_any (is_which w) m.order ≡ true) ⊎ (r.body ≡ [])

-- So it is in all modules that the checker makes.
abbrev pub BodiesAreOrdered : Gathers → Type 0
BodiesAreOrdered g =
    (number : ℕ) (m : Module) (own : Option Table) (tables : List Table)
    → Holds AreOrdered (body_module g number m own tables)

-- ---- what bodies ask for

-- What a body asks for is there, in all frames: its texts from this character on, and the types of
-- its calls through the table.
abbrev pub IsProvided : Stage → (from : ℕ) → List TypedStmt → Type 0
IsProvided z from body = (kinds : List Kinds) → Has (stands z kinds) from (wanted_by z.home body)

-- what all bodies of a module ask for is there, with their texts where they stand among all
pub record AreProvided (z : Stage) : Type 0 where
  pub procedures : (w : Which) (r : Routine) → routine_of z.home w ≡ Some r
      → IsProvided z (text_of z.home w) r.body
  pub body : IsProvided z (characters (routines_texts z.home)) z.home.body

-- It is there in each module.
abbrev pub BodiesAreProvided : Type 0
BodiesAreProvided =
    (z : Stage) → AreOrdered z.home → AreProvided z

-- ---- modules

-- the module at its place in a linked program
abbrev pub stage_at : (p : Program) → (pages place : ℕ) → (m : TypedModule) → (opens : ℕ → Bool)
    → Stage
stage_at p pages place m opens = record {
  p = p;
  base = (ground p pages).base;
  texts = (ground p pages).texts;
  place = place;
  home = m;
  opens = opens;
}

-- So a module is typed, and its texts are bytes, if its bodies are typed wherever what they ask for
-- is there.
abbrev pub BodiesMakeModules : Type 0
BodiesMakeModules =
    (p : Program) (pages place : ℕ) (m : TypedModule) (opens : ℕ → Bool)
    → AreBodiesTyped (stage_at p pages place m opens) m.body
    → AreOrdered m
    → IsTypedModule p pages place m × All (λ b. b < 256) (text m)
