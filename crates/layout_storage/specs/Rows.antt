-- What the code keeps of frames, and of the variables of modules.
use Rattle.std.specs.Prelude.{List, map}
use Rattle.std.specs.List.{fold}
use Rattle.typed_tree.specs.declared.types.TypeNo.{TypeNo}
use Rattle.typed_tree.specs.declared.shape.Formal.{Formal}
use Rattle.typed_tree.specs.declared.known_types.Types.{Types}
use Rattle.typed_tree.specs.declared.typed_module.Routine.{Routine}
use Rattle.layout_storage.specs.declared.row.Row.{Row}
use Rattle.layout_storage.specs.Capped.{cap_size}
use Rattle.layout_storage.specs.Sizes.{size}
use Rattle.layout_storage.specs.Shapes.{tree}
use Rattle.layout_storage.specs.Frames.{formals_of, formal_tree, variable_trees}
use Rattle.layout_storage.specs.Extents.{row_of, begin_row, with_part}

-- the variables of a module
abbrev pub variables_row : Types → List TypeNo → Row
variables_row types ts = row_of 0 (map size (map (tree types) ts))

-- the formals and the variables of a procedure, behind the reserved bytes
abbrev pub frame_row : Types → Routine → Row
frame_row types r = row_of 16 (map size (variable_trees types r))

abbrev pub with_formal : Types → Row → Formal → Row
with_formal types r f = with_part r (cap_size (size (formal_tree types f)))

abbrev pub with_variable : Types → Row → TypeNo → Row
with_variable types r t = with_part r (cap_size (size (tree types t)))

-- part by part
abbrev pub row_of_frame : Types → Routine → Row
row_of_frame types r =
    fold (with_variable types)
    (fold (with_formal types) (begin_row 16) (formals_of types r.heading)) r.variables
