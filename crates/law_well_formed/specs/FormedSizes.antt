-- The types that a module knows have few bytes, so none of their sizes and offsets is cut.
use Rattle.std.specs.Prelude.{◌≡◌, ℕ, true, List, Option}
use Rattle.m2_tree.specs.declared.decl.Module.{Module}
use Rattle.typed_tree.specs.declared.shape.Made.{Made}
use Rattle.typed_tree.specs.declared.table.Table.{Table}
use Rattle.typed_tree.specs.declared.known_types.Types.{Types}
use Rattle.check_scope.specs.Elaborated.{Gathers}
use Rattle.check_body.specs.Elaborating.{Elaborates}
use Rattle.check_body.specs.Checked.{body_module}
use Rattle.layout_storage.specs.Fitting.{types_fit}
use Rattle.law_modules.specs.Ranges.{AreRanged}
use Rattle.law_well_formed.specs.Formed.{Holds}
use Rattle.law_well_formed.specs.Ordered.{AreOrdered}
use Rattle.law_well_formed.specs.FormedKnown.{fits_module, TablesFormed, OwnFormed}

-- Types fit that stand in order and have ranges of the language: they have at most 131072 cells.
abbrev pub TypesFit : Type 0
TypesFit = (types : Types) → AreOrdered types → AreRanged types → types_fit types ≡ true

-- So do all types that the module of a body knows.
abbrev pub BodiesHaveSizes : Gathers → Type 0
BodiesHaveSizes g =
    (elaborates : Elaborates g.Reported) (types_of : ℕ → List Made) (number : ℕ) (m : Module)
    (own : Option Table) (tables : List Table)
    → fits_module m ≡ true
    → OwnFormed types_of number own
    → TablesFormed types_of number tables
    → Holds (λ t. types_fit t.types ≡ true) (body_module g elaborates number m own tables)
