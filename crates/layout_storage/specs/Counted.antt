-- How many characters texts have, counted in 32 bits.
use Rattle.std.specs.Prelude.{ℕ, ◌+◌}
use Rattle.typed_tree.specs.declared.computed.Argument.{Argument}
use Rattle.typed_tree.specs.declared.computed.Component.{Component}
use Rattle.typed_tree.specs.declared.computed.Link.{Link}
use Rattle.typed_tree.specs.declared.statement.TypedStmt.{TypedStmt}
use Rattle.typed_tree.specs.declared.statement.TypedArm.{TypedArm}
use Rattle.typed_tree.specs.declared.typed_module.Which.{Which}
use Rattle.typed_tree.specs.declared.typed_module.TypedModule.{TypedModule}
use Rattle.layout_storage.specs.Capped.{cap_size}
use Rattle.layout_storage.specs.Texts.{Texts, characters, texts_passed, texts_behind, texts_linked, texts_in, texts_armed, which_texts}

abbrev pub character_count : Texts → ℕ
character_count ts = cap_size (characters ts)

abbrev pub with_argument : ℕ → Argument → ℕ
with_argument n x = cap_size (n + character_count (texts_passed x))

abbrev pub with_component : ℕ → Component → ℕ
with_component n x = cap_size (n + character_count (texts_behind x))

abbrev pub with_link : ℕ → Link → ℕ
with_link n x = cap_size (n + character_count (texts_linked x))

abbrev pub with_stmt : ℕ → TypedStmt → ℕ
with_stmt n x = cap_size (n + character_count (texts_in x))

abbrev pub with_arm : ℕ → TypedArm → ℕ
with_arm n x = cap_size (n + character_count (texts_armed x))

abbrev pub with_which : TypedModule → ℕ → Which → ℕ
with_which m n w = cap_size (n + character_count (which_texts m w))
