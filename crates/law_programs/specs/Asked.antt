-- What statements ask for where they stand: their texts, and the types of their calls through the
-- table.
use Rattle.std.specs.Prelude.{List}
use Rattle.std.specs.List.{flat_map}
use Rattle.typed_tree.specs.declared.statement.TypedStmt.{TypedStmt}
use Rattle.typed_tree.specs.declared.statement.TypedArm.{TypedArm, fold-TypedArm}
use Rattle.typed_tree.specs.declared.typed_module.TypedModule.{TypedModule}
use Rattle.layout_storage.specs.Texts.{texts_in, texts_armed, body_texts}
use Rattle.def_scheme.specs.Signatures.{Signatures, step_layer, arm_layer, of_step}
use Rattle.law_programs.specs.Wanted.{Wanted}

-- ---- what is asked for

module _ (m : TypedModule) where
  -- the types of the calls of an arm through the table
  unfoldable pub of_arm : TypedArm → Signatures
  of_arm = fold-TypedArm Signatures Signatures (step_layer m) (arm_layer m)

  abbrev pub wanted_in : TypedStmt → Wanted
  wanted_in s = record { texts = texts_in s; signatures = of_step m s }

  abbrev pub wanted_armed : TypedArm → Wanted
  wanted_armed a = record { texts = texts_armed a; signatures = of_arm a }

  -- by all statements of a body
  abbrev pub wanted_by : List TypedStmt → Wanted
  wanted_by ss = record { texts = body_texts ss; signatures = flat_map (of_step m) ss }
