-- Actuals of check_value, with other numbers of modules.
use Rattle.check_scope.specs.Elaborated.{Gathers}
use Rattle.check_value.specs.Actuals.{text_argument, passed_as, whole_passed, value_passed, text_passed, variable_passed, simple_passed, with_argument, actual, next_formal, open_passed, elements_suit_in, elements_suit, open_value, starts_at_zero}
use Rattle.check_value.specs.declared.class.Class.{Class}
use Rattle.check_value.specs.declared.computed.Computed.{Computed}
use Rattle.check_value.specs.declared.computed.Designated.{Designated}
use Rattle.def_exchange.specs.Moved.{moved_formal, moved_scalar, moved_type, moved_types, moved_value, Exchange}
use Rattle.law_exchange_types.proofs.Basics.{same_moves as are_same_moves, where_moves, then_map, map_then, cond_ok, both_moves}
use Rattle.law_exchange_types.proofs.Classes.{array_at_moves, class_at_moves}
use Rattle.law_exchange_types.proofs.Known.{scalar_at_moves}
use Rattle.law_exchange_types.proofs.Suits.{value_suited_moves}
use Rattle.law_exchange_types.proofs.Trees.{argument_Place, argument_Array, argument_Open, argument_Text, argument_Value}
use Rattle.law_exchange_types.proofs.Valued.{value_at_place_moves}
use Rattle.law_exchange_types.specs.Pieces.{map_ok, moved_pair}
use Rattle.law_exchange_types.specs.Trees.{moved_argument}
use Rattle.law_exchange_types.specs.Values.{moved_class, moved_computed, moved_designated}
use Rattle.m2_tree.specs.declared.pos.Pos.{Pos}
use Rattle.std.proofs.Common.{◌≡◌, refl, List, None, Option, Result, Some, map, option_map, ◌∷◌, []}
use Rattle.std.proofs.lemmas.List.{map-append}
use Rattle.typed_tree.specs.Types.{char}
use Rattle.typed_tree.specs.declared.computed.Argument.{Argument}
use Rattle.typed_tree.specs.declared.known_types.Types.{Types}
use Rattle.typed_tree.specs.declared.meaning.Value.{Value}
use Rattle.typed_tree.specs.declared.shape.Formal.{Formal}
use Rattle.typed_tree.specs.declared.shape.Scalar.{Scalar as Range}
use Rattle.typed_tree.specs.declared.types.TypeNo.{TypeNo}
use Rattle.typed_tree.specs.declared.meaning.Value.TheVariants as constant
use Rattle.check_value.specs.declared.class.Class.TheVariants as class
use Rattle.check_value.specs.declared.computed.Computed.TheVariants as value
use Rattle.check_value.specs.declared.computed.Designated.TheVariants as designated

pub starts_at_zero_moves : (z : Exchange) (a0 : Option Range)
    → starts_at_zero (option_map (moved_scalar z) a0) ≡ starts_at_zero a0
starts_at_zero_moves z None = refl
starts_at_zero_moves z (Some s) = refl

pub elements_suit_in_moves : (z : Exchange) (types : Types) (t : TypeNo) (a2 : Option (TypeNo × TypeNo))
    → elements_suit_in (moved_types z types) (moved_type z t) (option_map (moved_pair (moved_type z) (moved_type z)) a2)
    ≡ elements_suit_in types t a2
elements_suit_in_moves z types t None = refl
elements_suit_in_moves z types t (Some a) = simp (are_same_moves, starts_at_zero_moves, scalar_at_moves)

pub elements_suit_moves : (z : Exchange) (types : Types) (t : TypeNo) (array : TypeNo)
    → elements_suit (moved_types z types) (moved_type z t) (moved_type z array) ≡ elements_suit types t array
elements_suit_moves z types t u = simp (elements_suit_in_moves, array_at_moves)

pub variable_passed_moves : (z : Exchange) (g : Gathers) (t : TypeNo) (at : Pos) (a2 : Designated)
    → variable_passed g (moved_type z t) at (moved_designated z a2)
    ≡ map_ok (moved_argument z) (variable_passed g t at a2)
variable_passed_moves z g t at (designated.Variable u d) = simp (are_same_moves, argument_Place, where_moves)
variable_passed_moves z g t at (designated.Value x) = refl
variable_passed_moves z g t at (designated.Open u slot) = refl
variable_passed_moves z g t at (designated.Type u) = refl
variable_passed_moves z g t at (designated.Procedure p) = refl
variable_passed_moves z g t at (designated.Nested p) = refl
variable_passed_moves z g t at (designated.Standard f) = refl
variable_passed_moves z g t at (designated.Module k) = refl

pub open_passed_moves : (z : Exchange) (g : Gathers) (types : Types) (t : TypeNo) (at : Pos) (a3 : Designated)
    → open_passed g (moved_types z types) (moved_type z t) at (moved_designated z a3)
    ≡ map_ok (moved_argument z) (open_passed g types t at a3)
open_passed_moves z g types t at (designated.Variable u d) = simp (elements_suit_moves, argument_Array, where_moves)
open_passed_moves z g types t at (designated.Open u slot) = simp (are_same_moves, argument_Open, where_moves)
open_passed_moves z g types t at (designated.Value x) = refl
open_passed_moves z g types t at (designated.Type u) = refl
open_passed_moves z g types t at (designated.Procedure p) = refl
open_passed_moves z g types t at (designated.Nested p) = refl
open_passed_moves z g types t at (designated.Standard f) = refl
open_passed_moves z g types t at (designated.Module k) = refl

pub text_argument_moves : (z : Exchange) (g : Gathers) (t : TypeNo) (at : Pos) (a2 : Value)
    → text_argument g (moved_type z t) at (moved_value z a2) ≡ map_ok (moved_argument z) (text_argument g t at a2)
text_argument_moves z g t at (constant.Text text) = simp (are_same_moves z t char, argument_Text, where_moves)
text_argument_moves z g t at (constant.Number n) = refl
text_argument_moves z g t at (constant.Scalar s) = refl
text_argument_moves z g t at (constant.Set bits) = refl

pub text_passed_moves : (z : Exchange) (g : Gathers) (t : TypeNo) (at : Pos) (a2 : Computed)
    → text_passed g (moved_type z t) at (moved_computed z a2) ≡ map_ok (moved_argument z) (text_passed g t at a2)
text_passed_moves z g t at (value.Constant v) = text_argument_moves z g t at v
text_passed_moves z g t at (value.Scalar u b e) = refl
text_passed_moves z g t at (value.Set e) = refl
text_passed_moves z g t at (value.Routine u e) = refl
text_passed_moves z g t at (value.Procedure p) = refl
text_passed_moves z g t at (value.Whole u d) = refl
text_passed_moves z g t at value.Untaken = refl

pub open_value_moves : (z : Exchange) (g : Gathers) (types : Types) (t : TypeNo) (at : Pos) (a3 : Designated)
    → open_value g (moved_types z types) (moved_type z t) at (moved_designated z a3)
    ≡ map_ok (moved_argument z) (open_value g types t at a3)
open_value_moves z g types t at (designated.Variable u d) = simp (elements_suit_moves, argument_Array, where_moves)
open_value_moves z g types t at (designated.Open u slot) = simp (are_same_moves, argument_Open, where_moves)
open_value_moves z g types t at (designated.Value x) = text_passed_moves z g t at x
open_value_moves z g types t at (designated.Type u) = refl
open_value_moves z g types t at (designated.Procedure p) = refl
open_value_moves z g types t at (designated.Nested p) = refl
open_value_moves z g types t at (designated.Standard f) = refl
open_value_moves z g types t at (designated.Module k) = refl

pub whole_passed_moves : (z : Exchange) (g : Gathers) (t : TypeNo) (at : Pos) (a2 : Designated)
    → whole_passed g (moved_type z t) at (moved_designated z a2) ≡ map_ok (moved_argument z) (whole_passed g t at a2)
whole_passed_moves z g t at (designated.Variable u d) = simp (are_same_moves, argument_Place, where_moves)
whole_passed_moves z g t at (designated.Value x) = refl
whole_passed_moves z g t at (designated.Open u slot) = refl
whole_passed_moves z g t at (designated.Type u) = refl
whole_passed_moves z g t at (designated.Procedure p) = refl
whole_passed_moves z g t at (designated.Nested p) = refl
whole_passed_moves z g t at (designated.Standard f) = refl
whole_passed_moves z g t at (designated.Module k) = refl

pub simple_passed_moves : (z : Exchange) (g : Gathers) (types : Types) (t : TypeNo) (at : Pos) (d : Designated)
    → simple_passed g (moved_types z types) (moved_type z t) at (moved_designated z d)
    ≡ map_ok (moved_argument z) (simple_passed g types t at d)
simple_passed_moves z g types t at d = simp
    (value_at_place_moves, value_suited_moves, argument_Value, then_map, map_then)

pub passed_as_moves : (z : Exchange) (g : Gathers) (types : Types) (t : TypeNo) (at : Pos) (d : Designated) (a4 : Class)
    → passed_as g (moved_types z types) (moved_type z t) at (moved_designated z d) (moved_class z a4)
    ≡ map_ok (moved_argument z) (passed_as g types t at d a4)
passed_as_moves z g types t at d (class.Scalar s) = simple_passed_moves z g types t at d
passed_as_moves z g types t at d class.Set = simple_passed_moves z g types t at d
passed_as_moves z g types t at d class.Procedure = simple_passed_moves z g types t at d
passed_as_moves z g types t at d class.Whole = whole_passed_moves z g t at d

pub value_passed_moves : (z : Exchange) (g : Gathers) (types : Types) (t : TypeNo) (at : Pos) (d : Designated)
    → value_passed g (moved_types z types) (moved_type z t) at (moved_designated z d)
    ≡ map_ok (moved_argument z) (value_passed g types t at d)
value_passed_moves z g types t at d = simp (passed_as_moves, class_at_moves)

pub actual_moves : (z : Exchange) (g : Gathers) (types : Types) (f : Formal) (at : Pos) (d : Designated)
    → actual g (moved_types z types) (moved_formal z f) at (moved_designated z d)
    ≡ map_ok (moved_argument z) (actual g types f at d)
actual_moves z g types f at d = simp (
  open_passed_moves,
  variable_passed_moves,
  open_value_moves,
  value_passed_moves,
  cond_ok,
)

pub next_formal_moves : (z : Exchange) (a0 : List Formal)
    → next_formal (map (moved_formal z) a0)
    ≡ moved_pair (option_map (moved_formal z)) (map (moved_formal z)) (next_formal a0)
next_formal_moves z [] = refl
next_formal_moves z (f ∷ fs) = refl

pub with_argument_moves : (z : Exchange) (g : Gathers) (so : Result (List Argument) g.Reported)
    (x : Result Argument g.Reported)
    → with_argument g (map_ok (map (moved_argument z)) so) (map_ok (moved_argument z) x)
    ≡ map_ok (map (moved_argument z)) (with_argument g so x)
with_argument_moves z g so x = simp (then_map, map_then, both_moves, map-append)
