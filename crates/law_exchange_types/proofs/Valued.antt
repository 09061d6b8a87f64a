-- Values of check_value, with other numbers of modules.
use Rattle.check_scope.specs.Elaborated.{Gathers}
use Rattle.check_value.specs.Values.{opened_by, slot_of, loaded_as, variable_value, function_result, value_at_place, nested_by, local_by, given_as, designated_by}
use Rattle.check_value.specs.declared.class.Class.{Class}
use Rattle.check_value.specs.declared.computed.Designated.{Designated}
use Rattle.def_exchange.specs.Moved.{moved_field, moved_local, moved_meaning, moved_nested, moved_type, moved_types, Exchange}
use Rattle.law_exchange_types.proofs.Classes.{class_at_moves}
use Rattle.law_exchange_types.proofs.Trees.{root_place_moves, behind_moves, component_Field, expr_Load}
use Rattle.law_exchange_types.specs.Pieces.{map_ok}
use Rattle.law_exchange_types.specs.Trees.{moved_expr, moved_inner, moved_place}
use Rattle.law_exchange_types.specs.Values.{moved_class, moved_computed, moved_designated}
use Rattle.m2_tree.specs.declared.pos.Pos.{Pos}
use Rattle.std.proofs.Common.{◌≡◌, refl, ℕ}
use Rattle.typed_tree.specs.Chains.{root_place}
use Rattle.typed_tree.specs.declared.computed.Place.{Place}
use Rattle.typed_tree.specs.declared.computed.TypedExpr.{TypedExpr}
use Rattle.typed_tree.specs.declared.known_types.Types.{Types}
use Rattle.typed_tree.specs.declared.meaning.LocalKind.{LocalKind}
use Rattle.typed_tree.specs.declared.meaning.LocalVariable.{LocalVariable}
use Rattle.typed_tree.specs.declared.meaning.Meaning.{Meaning}
use Rattle.typed_tree.specs.declared.meaning.NestedProcedure.{NestedProcedure}
use Rattle.typed_tree.specs.declared.meaning.OpenedField.{OpenedField}
use Rattle.typed_tree.specs.declared.types.TypeNo.{TypeNo}
use Rattle.typed_tree.specs.declared.computed.Component.TheVariants as part
use Rattle.typed_tree.specs.declared.computed.Root.TheVariants as root
use Rattle.typed_tree.specs.declared.meaning.LocalKind.TheVariants as kind
use Rattle.typed_tree.specs.declared.meaning.Meaning.TheVariants as meaning
use Rattle.check_value.specs.declared.class.Class.TheVariants as class
use Rattle.check_value.specs.declared.computed.Designated.TheVariants as designated

pub slot_of_moves : (z : Exchange) (level : ℕ) (v : LocalVariable)
    → slot_of level (moved_local z v) ≡ slot_of level v
slot_of_moves z level v = refl

pub local_by_moves : (z : Exchange) (level : ℕ) (v : LocalVariable) (a1 : LocalKind)
    → local_by level (moved_local z v) a1 ≡ moved_designated z (local_by level v a1)
local_by_moves z level v kind.Variable = simp (root_place_moves z (root.Local (slot_of level v)), slot_of_moves)
local_by_moves z level v kind.Value = simp (root_place_moves z (root.Local (slot_of level v)), slot_of_moves)
local_by_moves z level v kind.Alias = simp (root_place_moves z (root.Alias (slot_of level v)), slot_of_moves)
local_by_moves z level v kind.Open = simp (slot_of_moves)

pub opened_by_moves : (z : Exchange) (f : OpenedField)
    → opened_by (moved_field z f) ≡ moved_designated z (opened_by f)
opened_by_moves z f = simp (
  behind_moves z (root_place (root.With f.with)) (part.Field f.whole f.number),
  root_place_moves z (root.With f.with),
  component_Field,
)

pub nested_by_moves : (z : Exchange) (level : ℕ) (p : NestedProcedure)
    → nested_by level (moved_nested z p) ≡ moved_inner z (nested_by level p)
nested_by_moves z level p = refl

pub designated_by_moves : (z : Exchange) (g : Gathers) (level : ℕ) (at : Pos) (a1 : Meaning)
    → designated_by g level at (moved_meaning z a1) ≡ map_ok (moved_designated z) (designated_by g level at a1)
designated_by_moves z g level at (meaning.Constant v) = refl
designated_by_moves z g level at (meaning.Type t n) = refl
designated_by_moves z g level at (meaning.Variable v) = simp (root_place_moves z (root.Global v))
designated_by_moves z g level at (meaning.Local v) = simp (local_by_moves)
designated_by_moves z g level at (meaning.Field f) = simp (opened_by_moves)
designated_by_moves z g level at (meaning.Procedure p) = refl
designated_by_moves z g level at (meaning.LocalProcedure p) = simp (nested_by_moves)
designated_by_moves z g level at meaning.Ahead = refl
designated_by_moves z g level at (meaning.Standard f) = refl
designated_by_moves z g level at (meaning.Module k) = refl

pub given_as_moves : (z : Exchange) (t : TypeNo) (e : TypedExpr) (a2 : Class)
    → given_as (moved_type z t) (moved_expr z e) (moved_class z a2) ≡ moved_computed z (given_as t e a2)
given_as_moves z t e (class.Scalar s) = refl
given_as_moves z t e class.Set = refl
given_as_moves z t e class.Procedure = refl
given_as_moves z t e class.Whole = refl

pub function_result_moves : (z : Exchange) (types : Types) (t : TypeNo) (e : TypedExpr)
    → function_result (moved_types z types) (moved_type z t) (moved_expr z e)
    ≡ moved_computed z (function_result types t e)
function_result_moves z types t e = simp (given_as_moves, class_at_moves)

pub loaded_as_moves : (z : Exchange) (t : TypeNo) (d : Place) (a2 : Class)
    → loaded_as (moved_type z t) (moved_place z d) (moved_class z a2) ≡ moved_computed z (loaded_as t d a2)
loaded_as_moves z t d (class.Scalar s) = simp (expr_Load)
loaded_as_moves z t d class.Set = simp (expr_Load)
loaded_as_moves z t d class.Procedure = simp (expr_Load)
loaded_as_moves z t d class.Whole = refl

pub variable_value_moves : (z : Exchange) (types : Types) (t : TypeNo) (d : Place)
    → variable_value (moved_types z types) (moved_type z t) (moved_place z d)
    ≡ moved_computed z (variable_value types t d)
variable_value_moves z types t d = simp (loaded_as_moves, class_at_moves)

pub value_at_place_moves : (z : Exchange) (g : Gathers) (types : Types) (at : Pos) (a2 : Designated)
    → value_at_place g (moved_types z types) at (moved_designated z a2)
    ≡ map_ok (moved_computed z) (value_at_place g types at a2)
value_at_place_moves z g types at (designated.Value x) = refl
value_at_place_moves z g types at (designated.Variable t d) = simp (variable_value_moves)
value_at_place_moves z g types at (designated.Open t slot) = refl
value_at_place_moves z g types at (designated.Type t) = refl
value_at_place_moves z g types at (designated.Procedure p) = refl
value_at_place_moves z g types at (designated.Nested p) = refl
value_at_place_moves z g types at (designated.Standard f) = refl
value_at_place_moves z g types at (designated.Module k) = refl
