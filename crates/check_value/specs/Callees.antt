-- What is called, and what it asks for.
use Rattle.std.specs.Prelude.{ℕ, not, ◌==◌, List, length, Option, Some, None, Result, Ok}
use Rattle.m2_rule.specs.declared.rule.Rule.TheVariants as rule
use Rattle.m2_tree.specs.declared.pos.Pos.{Pos}
use Rattle.typed_tree.specs.declared.types.TypeNo.{TypeNo}
use Rattle.typed_tree.specs.declared.computed.Argument.{Argument}
use Rattle.typed_tree.specs.declared.computed.Call.{Call}
use Rattle.typed_tree.specs.declared.computed.Call.TheVariants as call
use Rattle.typed_tree.specs.declared.computed.Place.{Place}
use Rattle.typed_tree.specs.declared.shape.Signature.{Signature}
use Rattle.typed_tree.specs.declared.known_types.Types.{Types}
use Rattle.check_scope.specs.Elaborated.{Gathers, report, reported_where, ◌▷◌}
use Rattle.check_value.specs.declared.class.Class.{Class}
use Rattle.check_value.specs.declared.class.Class.TheVariants as class
use Rattle.check_value.specs.declared.computed.Designated.{Designated}
use Rattle.check_value.specs.declared.computed.Designated.TheVariants as designated
use Rattle.check_value.specs.Classes.{class_at}
use Rattle.check_value.specs.declared.callee.Callee.{Callee}
use Rattle.check_value.specs.declared.callee.Callee.TheVariants as callee
use Rattle.check_value.specs.declared.callee.Called.{Called}
use Rattle.check_value.specs.declared.callee.Called.TheVariants as called

abbrev pub callee_in_variable : (g : Gathers) → Pos → TypeNo → Place → Class
    → Result Called g.Reported
callee_in_variable g at t d class.Procedure = Ok (called.Routine t (callee.Variable t d))
callee_in_variable g at t d (class.Scalar s) = report g at rule.WrongType
callee_in_variable g at t d class.Set = report g at rule.WrongType
callee_in_variable g at t d class.Whole = report g at rule.WrongType

-- a procedure, or a variable of a procedure type
abbrev pub callee_of : (g : Gathers) → Types → Pos → Designated → Result Called g.Reported
callee_of g types at (designated.Procedure p) = Ok (called.Routine p.heading (callee.Module p))
callee_of g types at (designated.Nested p) = Ok (called.Routine p.heading (callee.Nested p))
callee_of g types at (designated.Variable t d) = callee_in_variable g at t d (class_at types t)
callee_of g types at (designated.Standard f) = Ok (called.Standard f)
callee_of g types at (designated.Value x) = report g at rule.WrongType
callee_of g types at (designated.Open t slot) = report g at rule.WrongType
callee_of g types at (designated.Type t) = report g at rule.WrongType
callee_of g types at (designated.Module k) = report g at rule.WrongType

abbrev pub count_check : (g : Gathers) → Pos → (asked there : ℕ) → Result (Unit {0}) g.Reported
count_check g at asked there = reported_where g (not (asked == there)) at rule.ArgumentCount (Ok tt)

abbrev pub function_with : (g : Gathers) → Pos → (asked there : ℕ) → Option TypeNo
    → Result TypeNo g.Reported
function_with g at asked there None = report g at rule.WrongType
function_with g at asked there (Some t) = count_check g at asked there ▷ λ fine. Ok t

-- the type that a function gives, if it is called with this many arguments
abbrev pub function_of : (g : Gathers) → Pos → Option Signature → (arguments : ℕ)
    → Result TypeNo g.Reported
function_of g at None n = report g at rule.WrongType
function_of g at (Some h) n = function_with g at (length h.formals) n h.result

abbrev pub proper_with : (g : Gathers) → Pos → (asked there : ℕ) → Option TypeNo
    → Result (Unit {0}) g.Reported
proper_with g at asked there None = count_check g at asked there
proper_with g at asked there (Some t) = report g at rule.WrongType

-- a procedure that is called as a statement with this many arguments
abbrev pub proper_of : (g : Gathers) → Pos → Option Signature → (arguments : ℕ)
    → Result (Unit {0}) g.Reported
proper_of g at None n = report g at rule.WrongType
proper_of g at (Some h) n = proper_with g at (length h.formals) n h.result

abbrev pub call_by : List Argument → Callee → Call
call_by args (callee.Module p) = call.Module p args
call_by args (callee.Nested p) = call.Nested p args
call_by args (callee.Variable t d) = call.Variable t d args
