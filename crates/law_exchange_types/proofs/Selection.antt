-- Selection of check_value, with other numbers of modules.
use Rattle.check_scope.specs.Elaborated.{Gathers}
use Rattle.check_value.specs.Selection.{field_named, record_field, array_indexed, with_index, typed_field, indices, element_at_index, field, element_of_array, numbered_field, index_type, component}
use Rattle.check_value.specs.declared.computed.Computed.{Computed}
use Rattle.check_value.specs.declared.computed.Designated.{Designated}
use Rattle.check_value.specs.declared.select.Subscripted.{Subscripted}
use Rattle.def_exchange.specs.Moved.{moved_type, moved_types, Exchange}
use Rattle.law_exchange_types.proofs.Basics.{option_map_twice, place_moves as place_of_moves, then_map, map_then, both_moves}
use Rattle.law_exchange_types.proofs.Classes.{array_at_moves}
use Rattle.law_exchange_types.proofs.InScope.{fields_at_moves}
use Rattle.law_exchange_types.proofs.Suits.{value_suited_moves}
use Rattle.law_exchange_types.proofs.Trees.{behind_moves, component_Field, component_Element, root_place_moves, component_OpenElement}
use Rattle.law_exchange_types.specs.Pieces.{map_ok, moved_entries, moved_pair, same}
use Rattle.law_exchange_types.specs.Trees.{moved_expr, moved_place}
use Rattle.law_exchange_types.specs.Values.{moved_computed, moved_designated, moved_subscripted}
use Rattle.m2_tree.specs.declared.name.Ident.{Ident}
use Rattle.m2_tree.specs.declared.pos.Pos.{Pos}
use Rattle.std.proofs.Common.{◌≡◌, refl, List, None, Option, Result, Some, option_map, ℕ}
use Rattle.std.proofs.lemmas.Option.{slice_get-map}
use Rattle.typed_tree.specs.Chains.{root_place}
use Rattle.typed_tree.specs.declared.computed.Place.{Place}
use Rattle.typed_tree.specs.declared.computed.TypedExpr.{TypedExpr}
use Rattle.typed_tree.specs.declared.known_types.Types.{Types}
use Rattle.typed_tree.specs.declared.types.TypeNo.{TypeNo}
use Rattle.m2_rule.specs.declared.rule.Rule.TheVariants as rule
use Rattle.typed_tree.specs.declared.computed.Component.TheVariants as part
use Rattle.typed_tree.specs.declared.computed.Root.TheVariants as root
use Rattle.check_value.specs.declared.computed.Designated.TheVariants as designated
use Rattle.check_value.specs.declared.select.Subscripted.TheVariants as indexes

pub typed_field_moves : (z : Exchange) (fs : List (List ℕ × TypeNo)) (a1 : Option ℕ)
    → typed_field (moved_entries (moved_type z) fs) a1 ≡ option_map (moved_pair same (moved_type z)) (typed_field fs a1)
typed_field_moves z fs None = refl
typed_field_moves z fs (Some n) = simp (slice_get-map, option_map_twice)

pub numbered_field_moves : (z : Exchange) (name : List ℕ) (fs : List (List ℕ × TypeNo))
    → numbered_field name (moved_entries (moved_type z) fs)
    ≡ option_map (moved_pair same (moved_type z)) (numbered_field name fs)
numbered_field_moves z name fs = simp (typed_field_moves, place_of_moves)

pub field_named_moves : (z : Exchange) (g : Gathers) (at : Pos) (a1 : Option (ℕ × TypeNo))
    → field_named g at (option_map (moved_pair same (moved_type z)) a1)
    ≡ map_ok (moved_pair same (moved_type z)) (field_named g at a1)
field_named_moves z g at None = refl
field_named_moves z g at (Some f) = refl

pub record_field_moves : (z : Exchange) (g : Gathers) (at : Pos) (name : Ident) (a2 : Option (List (List ℕ × TypeNo)))
    → record_field g at name (option_map (moved_entries (moved_type z)) a2)
    ≡ map_ok (moved_pair same (moved_type z)) (record_field g at name a2)
record_field_moves z g at name None = refl
record_field_moves z g at name (Some fs) = simp (field_named_moves, numbered_field_moves)

pub component_moves : (z : Exchange) (g : Gathers) (types : Types) (at : Pos) (name : Ident) (t : TypeNo) (d : Place)
    → component g (moved_types z types) at name (moved_type z t) (moved_place z d)
    ≡ map_ok (moved_designated z) (component g types at name t d)
component_moves z g types at name t d = simp
    (record_field_moves, fields_at_moves, behind_moves, component_Field, then_map, map_then)

pub field_moves : (z : Exchange) (g : Gathers) (types : Types) (at : Pos) (name : Ident) (a3 : Designated)
    → field g (moved_types z types) at name (moved_designated z a3)
    ≡ map_ok (moved_designated z) (field g types at name a3)
field_moves z g types at name (designated.Variable t d) = component_moves z g types at name t d
field_moves z g types at name (designated.Value x) = refl
field_moves z g types at name (designated.Open t slot) = refl
field_moves z g types at name (designated.Type t) = refl
field_moves z g types at name (designated.Procedure p) = refl
field_moves z g types at name (designated.Nested p) = refl
field_moves z g types at name (designated.Standard f) = refl
field_moves z g types at name (designated.Module k) = refl

pub array_indexed_moves : (z : Exchange) (g : Gathers) (at : Pos) (t : TypeNo) (d : Place)
    (a3 : Option (TypeNo × TypeNo))
    → array_indexed g at (moved_type z t) (moved_place z d) (option_map (moved_pair (moved_type z) (moved_type z)) a3)
    ≡ map_ok (moved_subscripted z) (array_indexed g at t d a3)
array_indexed_moves z g at t d None = refl
array_indexed_moves z g at t d (Some a) = refl

pub indices_moves : (z : Exchange) (g : Gathers) (types : Types) (at : Pos) (a2 : Designated)
    → indices g (moved_types z types) at (moved_designated z a2) ≡ map_ok (moved_subscripted z) (indices g types at a2)
indices_moves z g types at (designated.Variable t d) = simp (array_indexed_moves, array_at_moves)
indices_moves z g types at (designated.Open t slot) = refl
indices_moves z g types at (designated.Value x) = refl
indices_moves z g types at (designated.Type t) = refl
indices_moves z g types at (designated.Procedure p) = refl
indices_moves z g types at (designated.Nested p) = refl
indices_moves z g types at (designated.Standard f) = refl
indices_moves z g types at (designated.Module k) = refl

pub index_type_moves : (z : Exchange) (a0 : Subscripted)
    → index_type (moved_subscripted z a0) ≡ moved_type z (index_type a0)
index_type_moves z (indexes.Array t i e d) = refl
index_type_moves z (indexes.Open t slot) = refl

pub element_of_array_moves : (z : Exchange) (x : TypedExpr) (a1 : Subscripted)
    → element_of_array (moved_expr z x) (moved_subscripted z a1) ≡ moved_designated z (element_of_array x a1)
element_of_array_moves z x (indexes.Array t i e d) = simp (behind_moves z d (part.Element t x), component_Element)
element_of_array_moves z x (indexes.Open t slot) =
    simp (
      behind_moves z (root_place (root.Open slot)) (part.OpenElement slot t x),
      root_place_moves z (root.Open slot),
      component_OpenElement,
    )

pub with_index_moves : (z : Exchange) (g : Gathers) (types : Types) (at : Pos) (a : Subscripted) (x : Computed)
    → with_index g (moved_types z types) at (moved_subscripted z a) (moved_computed z x)
    ≡ map_ok (moved_designated z) (with_index g types at a x)
with_index_moves z g types at a x = simp (
  value_suited_moves z g rule.NotAssignable types (index_type a) at x,
  index_type_moves,
  element_of_array_moves,
  then_map,
  map_then,
)

pub element_at_index_moves : (z : Exchange) (g : Gathers) (types : Types) (a : Result Subscripted g.Reported) (at : Pos)
    (x : Result Computed g.Reported)
    → element_at_index g (moved_types z types) (map_ok (moved_subscripted z) a) at (map_ok (moved_computed z) x)
    ≡ map_ok (moved_designated z) (element_at_index g types a at x)
element_at_index_moves z g types a at x = simp (with_index_moves, then_map, map_then, both_moves)
