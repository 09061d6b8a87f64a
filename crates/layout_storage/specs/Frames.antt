-- What an activation of a procedure keeps, and what a module keeps.
use Rattle.std.specs.Prelude.{List, [], ◌∷◌, ◌++◌, map, Option, Some, None, if◌then◌else◌}
use Rattle.typed_tree.specs.declared.types.TypeNo.{TypeNo}
use Rattle.typed_tree.specs.declared.shape.Formal.{Formal}
use Rattle.typed_tree.specs.declared.shape.Shape.{Shape}
use Rattle.typed_tree.specs.declared.shape.Shape.TheVariants as shape
use Rattle.typed_tree.specs.declared.shape.Made.{Made}
use Rattle.typed_tree.specs.declared.known_types.Types.{Types}
use Rattle.typed_tree.specs.declared.typed_module.Routine.{Routine}
use Rattle.typed_tree.specs.declared.typed_module.TypedModule.{TypedModule}
use Rattle.typed_tree.specs.Known.{made_at}
use Rattle.layout_storage.specs.Types.{Ty, Hidden, row, frame_of}
use Rattle.layout_storage.specs.Shapes.{tree}

-- ---- headings

abbrev pub formals_in : Shape → List Formal
formals_in (shape.Procedure p) = p.formals
formals_in (shape.Scalar s) = []
formals_in shape.Set = []
formals_in (shape.Array i e) = []
formals_in (shape.Record fs) = []
formals_in (shape.Open e) = []

abbrev pub formals_made : Option Made → List Formal
formals_made None = []
formals_made (Some m) = formals_in m.shape

-- the formals of a procedure type
abbrev pub formals_of : Types → TypeNo → List Formal
formals_of types heading = formals_made (made_at types heading)

-- ---- frames

-- an open array is kept as its address and HIGH, a VAR formal as an address, and other formals as
-- their values
abbrev pub formal_tree : Types → Formal → Ty
formal_tree types f =
    if f.is_open
    then row (Hidden 4 ∷ Hidden 4 ∷ [])
    else (if f.is_var then Hidden 4 else tree types f.of)

abbrev pub variable_trees : Types → Routine → List Ty
variable_trees types r =
    map (formal_tree types) (formals_of types r.heading) ++ map (tree types) r.variables

-- the reserved bytes, the formals, and the variables
abbrev pub frame : Types → Routine → Ty
frame types r = frame_of (variable_trees types r)

-- ---- modules

abbrev pub module_row : TypedModule → Ty
module_row m = row (map (tree m.types) m.variables)
