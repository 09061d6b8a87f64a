-- The types of functions that parts of a module need.
use Rattle.std.specs.Prelude.{[], ◌∷◌, List, if◌then◌else◌}
use Rattle.typed_tree.specs.declared.computed.Argument.{Argument, fold-Argument}
use Rattle.typed_tree.specs.declared.computed.Component.{Component, fold-Component}
use Rattle.typed_tree.specs.declared.computed.Link.{Link, fold-Link}
use Rattle.typed_tree.specs.declared.meaning.Procedure.{Procedure}
use Rattle.typed_tree.specs.declared.statement.TypedStmt.{TypedStmt}
use Rattle.typed_tree.specs.declared.statement.TypedArm.{TypedArm, fold-TypedArm}
use Rattle.typed_tree.specs.declared.typed_module.Routine.{Routine}
use Rattle.typed_tree.specs.declared.typed_module.TypedModule.{TypedModule}
use Rattle.def_scheme.specs.Exprs.{is_own}
use Rattle.def_scheme.specs.Signatures.{Signatures, of_heading, argument_layer, call_layer, component_layer, link_layer, expr_layer, place_layer, step_layer, arm_layer, of_step, of_routine, signatures_needed}
use Rattle.emit_tables.specs.declared.marks.Mark.{Mark}
use Rattle.emit_tables.specs.Marked.{with_all, none}

-- a call of a procedure of another module goes through the table
abbrev pub of_procedure : TypedModule → Procedure → Signatures
of_procedure m f = if is_own m f.home then [] else of_heading m.types f.heading ∷ []

module _ (m : TypedModule) where
  unfoldable pub of_argument : Argument → Signatures
  of_argument =
      fold-Argument Signatures Signatures Signatures Signatures Signatures Signatures
      (argument_layer m) (call_layer m) (component_layer m) (link_layer m) (expr_layer m)
      (place_layer m)

  unfoldable pub of_component : Component → Signatures
  of_component =
      fold-Component Signatures Signatures Signatures Signatures Signatures Signatures
      (argument_layer m) (call_layer m) (component_layer m) (link_layer m) (expr_layer m)
      (place_layer m)

  unfoldable pub of_link : Link → Signatures
  of_link =
      fold-Link Signatures Signatures Signatures Signatures Signatures Signatures (argument_layer m)
      (call_layer m) (component_layer m) (link_layer m) (expr_layer m) (place_layer m)

  unfoldable pub of_arm : TypedArm → Signatures
  of_arm = fold-TypedArm Signatures Signatures (step_layer m) (arm_layer m)

  -- one more of a list
  abbrev pub with_argument : List Mark → Argument → List Mark
  with_argument xs x = with_all (of_argument x) xs

  abbrev pub with_component : List Mark → Component → List Mark
  with_component xs x = with_all (of_component x) xs

  abbrev pub with_link : List Mark → Link → List Mark
  with_link xs x = with_all (of_link x) xs

  abbrev pub with_step : List Mark → TypedStmt → List Mark
  with_step xs x = with_all (of_step m x) xs

  abbrev pub with_arm : List Mark → TypedArm → List Mark
  with_arm xs x = with_all (of_arm x) xs

  abbrev pub with_routine : List Mark → Routine → List Mark
  with_routine xs r = with_all (of_routine m r) xs

-- what is marked for a module; the type of bodies stands before all others
abbrev pub marks_of : TypedModule → List Mark
marks_of m = with_all (signatures_needed m) (none ∷ [])
