-- Callees of check_value, with other numbers of modules.
use Rattle.check_scope.specs.Elaborated.{Gathers}
use Rattle.check_value.specs.Callees.{function_of, callee_in_variable, call_by, proper_of, function_with, proper_with, callee_of}
use Rattle.check_value.specs.declared.callee.Callee.{Callee}
use Rattle.check_value.specs.declared.class.Class.{Class}
use Rattle.check_value.specs.declared.computed.Designated.{Designated}
use Rattle.def_exchange.specs.Moved.{moved_signature, moved_type, moved_types, Exchange}
use Rattle.law_exchange_types.proofs.Basics.{map_then}
use Rattle.law_exchange_types.proofs.Classes.{class_at_moves}
use Rattle.law_exchange_types.proofs.Trees.{call_Module, call_Nested, call_Variable}
use Rattle.law_exchange_types.specs.Pieces.{map_ok}
use Rattle.law_exchange_types.specs.Trees.{moved_argument, moved_call, moved_place}
use Rattle.law_exchange_types.specs.Values.{moved_called, moved_callee, moved_class, moved_designated}
use Rattle.m2_tree.specs.declared.pos.Pos.{Pos}
use Rattle.std.proofs.Common.{◌≡◌, refl, List, None, Option, Some, map, option_map, ℕ}
use Rattle.std.proofs.lemmas.List.{length-map}
use Rattle.typed_tree.specs.declared.computed.Argument.{Argument}
use Rattle.typed_tree.specs.declared.computed.Place.{Place}
use Rattle.typed_tree.specs.declared.known_types.Types.{Types}
use Rattle.typed_tree.specs.declared.shape.Signature.{Signature}
use Rattle.typed_tree.specs.declared.types.TypeNo.{TypeNo}
use Rattle.check_value.specs.declared.class.Class.TheVariants as class
use Rattle.check_value.specs.declared.computed.Designated.TheVariants as designated
use Rattle.check_value.specs.declared.callee.Callee.TheVariants as callee

pub callee_in_variable_moves : (z : Exchange) (g : Gathers) (at : Pos) (t : TypeNo) (d : Place) (a3 : Class)
    → callee_in_variable g at (moved_type z t) (moved_place z d) (moved_class z a3)
    ≡ map_ok (moved_called z) (callee_in_variable g at t d a3)
callee_in_variable_moves z g at t d class.Procedure = refl
callee_in_variable_moves z g at t d (class.Scalar s) = refl
callee_in_variable_moves z g at t d class.Set = refl
callee_in_variable_moves z g at t d class.Whole = refl

pub callee_of_moves : (z : Exchange) (g : Gathers) (types : Types) (at : Pos) (a2 : Designated)
    → callee_of g (moved_types z types) at (moved_designated z a2) ≡ map_ok (moved_called z) (callee_of g types at a2)
callee_of_moves z g types at (designated.Procedure p) = refl
callee_of_moves z g types at (designated.Nested p) = refl
callee_of_moves z g types at (designated.Variable t d) = simp (callee_in_variable_moves, class_at_moves)
callee_of_moves z g types at (designated.Standard f) = refl
callee_of_moves z g types at (designated.Value x) = refl
callee_of_moves z g types at (designated.Open t slot) = refl
callee_of_moves z g types at (designated.Type t) = refl
callee_of_moves z g types at (designated.Module k) = refl

pub function_with_moves : (z : Exchange) (g : Gathers) (at : Pos) (asked : ℕ) (there : ℕ) (a1 : Option TypeNo)
    → function_with g at asked there (option_map (moved_type z) a1)
    ≡ map_ok (moved_type z) (function_with g at asked there a1)
function_with_moves z g at asked there None = refl
function_with_moves z g at asked there (Some t) = simp (map_then)

pub function_of_moves : (z : Exchange) (g : Gathers) (at : Pos) (a1 : Option Signature) (arguments : ℕ)
    → function_of g at (option_map (moved_signature z) a1) arguments
    ≡ map_ok (moved_type z) (function_of g at a1 arguments)
function_of_moves z g at None n = refl
function_of_moves z g at (Some h) n = simp (function_with_moves, length-map)

pub proper_with_moves : (z : Exchange) (g : Gathers) (at : Pos) (asked : ℕ) (there : ℕ) (a1 : Option TypeNo)
    → proper_with g at asked there (option_map (moved_type z) a1) ≡ proper_with g at asked there a1
proper_with_moves z g at asked there None = refl
proper_with_moves z g at asked there (Some t) = refl

pub proper_of_moves : (z : Exchange) (g : Gathers) (at : Pos) (a1 : Option Signature) (arguments : ℕ)
    → proper_of g at (option_map (moved_signature z) a1) arguments ≡ proper_of g at a1 arguments
proper_of_moves z g at None n = refl
proper_of_moves z g at (Some h) n = simp (proper_with_moves, length-map)

pub call_by_moves : (z : Exchange) (args : List Argument) (a1 : Callee)
    → call_by (map (moved_argument z) args) (moved_callee z a1) ≡ moved_call z (call_by args a1)
call_by_moves z args (callee.Module p) = simp (call_Module)
call_by_moves z args (callee.Nested p) = simp (call_Nested)
call_by_moves z args (callee.Variable t d) = simp (call_Variable)
