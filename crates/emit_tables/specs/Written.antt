-- The characters of the strings that parts of a body keep.
use Rattle.std.specs.Prelude.{ℕ, List}
use Rattle.typed_tree.specs.declared.computed.Argument.{Argument}
use Rattle.typed_tree.specs.declared.computed.Component.{Component}
use Rattle.typed_tree.specs.declared.computed.Link.{Link}
use Rattle.typed_tree.specs.declared.statement.TypedStmt.{TypedStmt}
use Rattle.typed_tree.specs.declared.statement.TypedArm.{TypedArm}
use Rattle.typed_tree.specs.declared.typed_module.Which.{Which}
use Rattle.typed_tree.specs.declared.typed_module.TypedModule.{TypedModule}
use Rattle.layout_storage.specs.Texts.{texts_passed, texts_behind, texts_linked, texts_in, texts_armed, which_texts}
use Rattle.def_scheme.specs.Modules.{all_characters}

abbrev pub argument_written : Argument → List ℕ
argument_written x = all_characters (texts_passed x)

abbrev pub component_written : Component → List ℕ
component_written x = all_characters (texts_behind x)

abbrev pub link_written : Link → List ℕ
link_written x = all_characters (texts_linked x)

abbrev pub stmt_written : TypedStmt → List ℕ
stmt_written x = all_characters (texts_in x)

abbrev pub arm_written : TypedArm → List ℕ
arm_written x = all_characters (texts_armed x)

abbrev pub which_written : TypedModule → Which → List ℕ
which_written m w = all_characters (which_texts m w)
