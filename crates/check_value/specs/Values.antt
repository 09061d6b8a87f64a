-- What names stand for in bodies, and what is taken as a value.
use Rattle.std.specs.Prelude.{ℕ, ◌-◌, Result, Ok}
use Rattle.m2_rule.specs.declared.rule.Rule.TheVariants as rule
use Rattle.m2_tree.specs.declared.pos.Pos.{Pos}
use Rattle.typed_tree.specs.declared.types.TypeNo.{TypeNo}
use Rattle.typed_tree.specs.declared.computed.Slot.{Slot}
use Rattle.typed_tree.specs.declared.computed.LocalProcedure.{LocalProcedure}
use Rattle.typed_tree.specs.declared.computed.Place.{Place}
use Rattle.typed_tree.specs.declared.computed.Component.TheVariants as part
use Rattle.typed_tree.specs.declared.computed.Root.TheVariants as root
use Rattle.typed_tree.specs.declared.computed.TypedExpr.{TypedExpr}
use Rattle.typed_tree.specs.declared.computed.TypedExpr.TheVariants as expr
use Rattle.typed_tree.specs.declared.meaning.LocalKind.{LocalKind}
use Rattle.typed_tree.specs.declared.meaning.LocalKind.TheVariants as kind
use Rattle.typed_tree.specs.declared.meaning.LocalVariable.{LocalVariable}
use Rattle.typed_tree.specs.declared.meaning.NestedProcedure.{NestedProcedure}
use Rattle.typed_tree.specs.declared.meaning.OpenedField.{OpenedField}
use Rattle.typed_tree.specs.declared.meaning.Meaning.{Meaning}
use Rattle.typed_tree.specs.declared.meaning.Meaning.TheVariants as meaning
use Rattle.typed_tree.specs.declared.known_types.Types.{Types}
use Rattle.typed_tree.specs.Chains.{behind, root_place}
use Rattle.check_scope.specs.Elaborated.{Gathers, report}
use Rattle.check_value.specs.declared.class.Class.{Class}
use Rattle.check_value.specs.declared.class.Class.TheVariants as class
use Rattle.check_value.specs.declared.computed.Computed.{Computed}
use Rattle.check_value.specs.declared.computed.Computed.TheVariants as value
use Rattle.check_value.specs.declared.computed.Designated.{Designated}
use Rattle.check_value.specs.declared.computed.Designated.TheVariants as designated
use Rattle.check_value.specs.Classes.{class_at}

-- ---- names, this many procedures deep

abbrev pub slot_of : (level : ℕ) → LocalVariable → Slot
slot_of level v = record { up = level - v.level; number = v.number }

abbrev pub local_by : (level : ℕ) → LocalVariable → LocalKind → Designated
local_by level v kind.Variable =
    designated.Variable v.of (root_place (root.Local (slot_of level v)))
local_by level v kind.Value = designated.Variable v.of (root_place (root.Local (slot_of level v)))
local_by level v kind.Alias = designated.Variable v.of (root_place (root.Alias (slot_of level v)))
local_by level v kind.Open = designated.Open v.of (slot_of level v)

-- a field of the record of a WITH
abbrev pub opened_by : OpenedField → Designated
opened_by f =
    designated.Variable f.of (behind (root_place (root.With f.with)) (part.Field f.whole f.number))

abbrev pub nested_by : (level : ℕ) → NestedProcedure → LocalProcedure
nested_by level p = record { up = level - p.level; number = p.number; heading = p.heading }

abbrev pub designated_by : (g : Gathers) → (level : ℕ) → Pos → Meaning
    → Result Designated g.Reported
designated_by g level at (meaning.Constant v) = Ok (designated.Value (value.Constant v))
designated_by g level at (meaning.Type t n) = Ok (designated.Type t)
designated_by g level at (meaning.Variable v) =
    Ok (designated.Variable v.of (root_place (root.Global v)))
designated_by g level at (meaning.Local v) = Ok (local_by level v v.kind)
designated_by g level at (meaning.Field f) = Ok (opened_by f)
designated_by g level at (meaning.Procedure p) = Ok (designated.Procedure p)
designated_by g level at (meaning.LocalProcedure p) = Ok (designated.Nested (nested_by level p))
designated_by g level at meaning.Ahead = report g at rule.Ahead
designated_by g level at (meaning.Standard f) = Ok (designated.Standard f)
designated_by g level at (meaning.Module k) = Ok (designated.Module k)

-- ---- values

abbrev pub given_as : TypeNo → TypedExpr → Class → Computed
given_as t e (class.Scalar s) = value.Scalar t s.base e
given_as t e class.Set = value.Set e
given_as t e class.Procedure = value.Routine t e
given_as t e class.Whole = value.Untaken

-- what a function of this result type gives
abbrev pub function_result : Types → TypeNo → TypedExpr → Computed
function_result types t e = given_as t e (class_at types t)

abbrev pub loaded_as : TypeNo → Place → Class → Computed
loaded_as t d (class.Scalar s) = value.Scalar t s.base (expr.Load t d)
loaded_as t d class.Set = value.Set (expr.Load t d)
loaded_as t d class.Procedure = value.Routine t (expr.Load t d)
loaded_as t d class.Whole = value.Whole t d

-- what a variable of this type holds
abbrev pub variable_value : Types → TypeNo → Place → Computed
variable_value types t d = loaded_as t d (class_at types t)

-- types and modules are no values, and neither are standard procedures and procedures of procedures
abbrev pub value_at_place : (g : Gathers) → Types → Pos → Designated → Result Computed g.Reported
value_at_place g types at (designated.Value x) = Ok x
value_at_place g types at (designated.Variable t d) = Ok (variable_value types t d)
value_at_place g types at (designated.Open t slot) = Ok value.Untaken
value_at_place g types at (designated.Type t) = report g at rule.WrongType
value_at_place g types at (designated.Procedure p) = Ok (value.Procedure p)
value_at_place g types at (designated.Nested p) = report g at rule.NoProcedureValue
value_at_place g types at (designated.Standard f) = report g at rule.NoProcedureValue
value_at_place g types at (designated.Module k) = report g at rule.WrongType
