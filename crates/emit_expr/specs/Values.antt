-- Code in the making with the code of expressions and designators.
use Rattle.std.specs.Prelude.{◌+◌, Bool}
use Rattle.typed_tree.specs.declared.computed.Argument.{Argument, fold-Argument}
use Rattle.typed_tree.specs.declared.computed.Call.{Call}
use Rattle.typed_tree.specs.declared.computed.Component.{Component, fold-Component}
use Rattle.typed_tree.specs.declared.computed.Link.{Link, fold-Link}
use Rattle.typed_tree.specs.declared.computed.Place.{Place}
use Rattle.typed_tree.specs.declared.computed.TypedExpr.{TypedExpr}
use Rattle.typed_tree.specs.declared.types.TypeNo.{TypeNo}
use Rattle.def_scheme.specs.Coded.{Coded, Setting}
use Rattle.def_scheme.specs.Exprs.{Numbered, Part, Linked, argument_layer, call_layer, component_layer, link_layer, expr_layer, place_layer, expr_part, place_code, call_code}
use Rattle.def_scheme.specs.Modules.{numbering_of}
use Rattle.def_scheme.specs.Steps.{take_code}
use Rattle.emit_buffer.specs.Drafts.{Drafted, emitted}

-- ---- the code of the parts that the scheme gives no name

unfoldable pub argument_code : Numbered → Argument → Coded
argument_code n =
    fold-Argument Coded Coded Coded Linked Part Coded argument_layer (call_layer n) component_layer
    link_layer expr_layer place_layer

unfoldable pub component_code : Numbered → Component → Coded
component_code n =
    fold-Component Coded Coded Coded Linked Part Coded argument_layer (call_layer n) component_layer
    link_layer expr_layer place_layer

unfoldable pub link_part : Numbered → Link → Linked
link_part n =
    fold-Link Coded Coded Coded Linked Part Coded argument_layer (call_layer n) component_layer
    link_layer expr_layer place_layer

-- ---- what is appended

-- the setting inside one more block
abbrev pub inside_one : Setting → Setting
inside_one s = record s { exit = s.exit + 1 }

unfoldable pub with_value : Setting → TypedExpr → Drafted → Drafted
with_value s e d = emitted (expr_part (numbering_of s.home) e).code s d

unfoldable pub with_place : Setting → Place → Drafted → Drafted
with_place s x d = emitted (place_code (numbering_of s.home) x) s d

unfoldable pub with_call : Setting → Call → Drafted → Drafted
with_call s x d = emitted (call_code (numbering_of s.home) x) s d

-- a value as one of a type
unfoldable pub with_taken : Setting → TypeNo → TypedExpr → Drafted → Drafted
with_taken s t e d = emitted (take_code (numbering_of s.home) t e) s d

unfoldable pub with_argument : Setting → Drafted → Argument → Drafted
with_argument s d x = emitted (argument_code (numbering_of s.home) x) s d

unfoldable pub with_component : Setting → Drafted → Component → Drafted
with_component s d x = emitted (component_code (numbering_of s.home) x) s d

unfoldable pub with_link : Setting → Drafted → Link → Drafted
with_link s d x = emitted (link_part (numbering_of s.home) x).code s d

-- ---- the type of a value, and whether it is a constant

unfoldable pub value_type : Setting → TypedExpr → TypeNo
value_type s e = (expr_part (numbering_of s.home) e).of

unfoldable pub value_constant : Setting → TypedExpr → Bool
value_constant s e = (expr_part (numbering_of s.home) e).constant

unfoldable pub linked_type : Setting → Link → TypeNo
linked_type s x = (link_part (numbering_of s.home) x).of

-- the last operator gives the type
abbrev pub linked_by : Setting → TypeNo → Link → TypeNo
linked_by s t x = linked_type s x
