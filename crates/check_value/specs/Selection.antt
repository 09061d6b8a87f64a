-- Components of variables.
use Rattle.std.specs.Prelude.{ℕ, List, Option, Some, None, Result, Ok, slice_get}
use Rattle.std.specs.Option.{option_map}
use Rattle.m2_rule.specs.declared.rule.Rule.TheVariants as rule
use Rattle.m2_tree.specs.declared.pos.Pos.{Pos}
use Rattle.m2_tree.specs.declared.name.Ident.{Ident}
use Rattle.typed_tree.specs.declared.types.TypeNo.{TypeNo}
use Rattle.typed_tree.specs.declared.computed.Slot.{Slot}
use Rattle.typed_tree.specs.declared.computed.Place.{Place}
use Rattle.typed_tree.specs.declared.computed.Component.TheVariants as part
use Rattle.typed_tree.specs.declared.computed.Root.TheVariants as root
use Rattle.typed_tree.specs.declared.computed.TypedExpr.{TypedExpr}
use Rattle.typed_tree.specs.declared.known_types.Types.{Types}
use Rattle.typed_tree.specs.Types.{cardinal}
use Rattle.typed_tree.specs.Chains.{behind, root_place}
use Rattle.typed_tree.specs.Names.{place_of}
use Rattle.check_scope.specs.Elaborated.{Gathers, report, both, ◌▷◌}
use Rattle.check_scope.specs.Scopes.{fields_at}
use Rattle.check_value.specs.declared.computed.Computed.{Computed}
use Rattle.check_value.specs.declared.computed.Designated.{Designated}
use Rattle.check_value.specs.declared.computed.Designated.TheVariants as designated
use Rattle.check_value.specs.declared.select.Subscripted.{Subscripted}
use Rattle.check_value.specs.declared.select.Subscripted.TheVariants as indexes
use Rattle.check_value.specs.Classes.{array_at}
use Rattle.check_value.specs.Suits.{value_suited}

-- ---- fields

abbrev pub typed_field : List (List ℕ × TypeNo) → Option ℕ → Option (ℕ × TypeNo)
typed_field fs None = None
typed_field fs (Some n) = option_map (λ e. (n, e.1)) (slice_get fs n)

-- the number and the type of a field
abbrev pub numbered_field : List ℕ → List (List ℕ × TypeNo) → Option (ℕ × TypeNo)
numbered_field name fs = typed_field fs (place_of name fs)

abbrev pub field_named : (g : Gathers) → Pos → Option (ℕ × TypeNo) → Result (ℕ × TypeNo) g.Reported
field_named g at None = report g at rule.Undeclared
field_named g at (Some f) = Ok f

abbrev pub record_field : (g : Gathers) → Pos → Ident → Option (List (List ℕ × TypeNo))
    → Result (ℕ × TypeNo) g.Reported
record_field g at name None = report g at rule.WrongType
record_field g at name (Some fs) = field_named g name.pos (numbered_field name.name fs)

abbrev pub component : (g : Gathers) → Types → Pos → Ident → TypeNo → Place
    → Result Designated g.Reported
component g types at name t d =
    record_field g at name (fields_at types t) ▷ λ f.
    Ok (designated.Variable f.1 (behind d (part.Field t f.0)))

-- only variables have components
abbrev pub field : (g : Gathers) → Types → Pos → Ident → Designated → Result Designated g.Reported
field g types at name (designated.Variable t d) = component g types at name t d
field g types at name (designated.Value x) = report g at rule.WrongType
field g types at name (designated.Open t slot) = report g at rule.WrongType
field g types at name (designated.Type t) = report g at rule.WrongType
field g types at name (designated.Procedure p) = report g at rule.WrongType
field g types at name (designated.Nested p) = report g at rule.WrongType
field g types at name (designated.Standard f) = report g at rule.WrongType
field g types at name (designated.Module k) = report g at rule.WrongType

-- ---- elements

abbrev pub array_indexed : (g : Gathers) → Pos → TypeNo → Place → Option (TypeNo × TypeNo)
    → Result Subscripted g.Reported
array_indexed g at t d None = report g at rule.WrongType
array_indexed g at t d (Some a) = Ok (indexes.Array t a.0 a.1 d)

abbrev pub indices : (g : Gathers) → Types → Pos → Designated → Result Subscripted g.Reported
indices g types at (designated.Variable t d) = array_indexed g at t d (array_at types t)
indices g types at (designated.Open t slot) = Ok (indexes.Open t slot)
indices g types at (designated.Value x) = report g at rule.WrongType
indices g types at (designated.Type t) = report g at rule.WrongType
indices g types at (designated.Procedure p) = report g at rule.WrongType
indices g types at (designated.Nested p) = report g at rule.WrongType
indices g types at (designated.Standard f) = report g at rule.WrongType
indices g types at (designated.Module k) = report g at rule.WrongType

-- the type of the index: open arrays have subscripts from 0
abbrev pub index_type : Subscripted → TypeNo
index_type (indexes.Array t i e d) = i
index_type (indexes.Open t slot) = cardinal

abbrev pub element_of_array : TypedExpr → Subscripted → Designated
element_of_array x (indexes.Array t i e d) = designated.Variable e (behind d (part.Element t x))
element_of_array x (indexes.Open t slot) =
    designated.Variable t (behind (root_place (root.Open slot)) (part.OpenElement slot t x))

abbrev pub with_index : (g : Gathers) → Types → Pos → Subscripted → Computed
    → Result Designated g.Reported
with_index g types at a x =
    value_suited g rule.NotAssignable types (index_type a) at x ▷ λ e. Ok (element_of_array e a)

-- the element of an array with this index
abbrev pub element_at_index : (g : Gathers) → Types → Result Subscripted g.Reported → Pos
    → Result Computed g.Reported → Result Designated g.Reported
element_at_index g types a at x = both g a x ▷ λ p. with_index g types at p.0 p.1
