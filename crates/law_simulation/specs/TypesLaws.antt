-- What is proved of types whose ranges are ranges of the language.
use Rattle.std.specs.Prelude.{◌≡◌, true, Some, None}
use Rattle.typed_tree.specs.declared.shape.Made.{Made}
use Rattle.typed_tree.specs.declared.types.TypeNo.{TypeNo}
use Rattle.typed_tree.specs.declared.shape.Scalar.{Scalar as Range}
use Rattle.typed_tree.specs.declared.known_types.Types.{Types}
use Rattle.typed_tree.specs.declared.typed_module.Routine.{Routine}
use Rattle.typed_tree.specs.declared.typed_module.TypedModule.{TypedModule}
use Rattle.typed_tree.specs.Known.{made_at, scalar_at, is_result}
use Rattle.layout_storage.specs.Types.{Natural, Callable, Cell, Heading, IsPlain, IsFit}
use Rattle.layout_storage.specs.Shapes.{scalar_kind, shape_tree, known_trees, tree}
use Rattle.layout_storage.specs.Frames.{frame, module_row}
use Rattle.law_memory.specs.Relation.{heading_at}
use Rattle.law_simulation.specs.Scene.{AreSmall, IsCell}
use Rattle.law_simulation.specs.Passing.{forms_of}
use Rattle.law_simulation.specs.Stage.{AreForms}
use Rattle.law_modules.specs.Ranges.{AreRanged}

-- variables have no hidden room, and their cells are scalars of the language
abbrev pub TreesArePlain : Type 0
TreesArePlain = (types : Types) → AreRanged types → (t : TypeNo) → IsPlain (tree types t)

abbrev pub RangesAreSmall : Type 0
RangesAreSmall = (types : Types) → AreRanged types → AreSmall types

-- a variable of a scalar type has one cell, which holds the numbers of the type
abbrev pub ScalarsAreCells : Type 0
ScalarsAreCells =
    (types : Types) → AreRanged types → (t : TypeNo) (r : Range) → scalar_at types t ≡ Some r
    → IsCell types t (scalar_kind t r)

-- one of a set type has a cell for all numbers of 32 bits
abbrev pub SetsAreCells : Type 0
SetsAreCells =
    (types : Types) (t : TypeNo) → scalar_at types t ≡ None → is_result types t ≡ true
    → heading_at types t ≡ None → IsCell types t (Natural 4294967295)

-- the tree of each type that is made is by its shape, from the trees of all types that are known
abbrev pub AreByShape : Types → Type 0
AreByShape types =
    (t : TypeNo) (m : Made) → made_at types t ≡ Some m
    → tree types t ≡ shape_tree types (known_trees types) t m.shape

-- one of a procedure type has a cell for procedures with the heading of the type
abbrev pub ProceduresAreCells : Type 0
ProceduresAreCells =
    (types : Types) → AreByShape types → (t : TypeNo) (h : Heading) → heading_at types t ≡ Some h
    → tree types t ≡ Cell (Callable h)

abbrev pub FormalsArePlain : Type 0
FormalsArePlain =
    (types : Types) → AreRanged types → (heading : TypeNo) → AreForms (forms_of types heading)

abbrev pub FramesFit : Type 0
FramesFit = (types : Types) → AreRanged types → (r : Routine) → IsFit (frame types r)

abbrev pub ModulesFit : Type 0
ModulesFit = (m : TypedModule) → AreRanged m.types → IsFit (module_row m)
