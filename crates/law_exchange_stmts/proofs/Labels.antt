-- One label of a CASE, with other numbers of modules.
use Rattle.check_const.specs.declared.operand.Operand.{Operand}
use Rattle.check_const.specs.declared.operand.Ordinal.{Ordinal}
use Rattle.check_scope.specs.Elaborated.{Gathers, both, beside, ◌▷◌}
use Rattle.check_scope.specs.declared.meaningless.Meaningless.{Meaningless}
use Rattle.check_scope.specs.declared.meaningless.Meaningless.TheVariants.{Broken, Headless}
use Rattle.check_stmt_parts.specs.Labels.{bound_in, suits_selector, single, without_number, Bound, suits_base, suits_if, variable_bound, base_of, bound_by, bound_suits, module_of, bounds_ordered, label_range, value_bound, Bounds, bounds_of, constant_bound, ordered_both, no_constant, suits_without, label_by}
use Rattle.check_value.specs.declared.class.Class.{Class}
use Rattle.check_value.specs.declared.computed.Computed.{Computed}
use Rattle.check_value.specs.declared.computed.Designated.{Designated}
use Rattle.def_exchange.specs.Moved.{moved_home, moved_type, moved_types, Exchange}
use Rattle.law_exchange_types.proofs.Basics.{same_moves as are_same_moves, then_map, map_then, both_moves, both_left, if_in}
use Rattle.law_exchange_types.proofs.Bounds.{is_of_base_moves, fits_base_moves, ordered_if_moves}
use Rattle.law_exchange_types.proofs.Classes.{class_at_moves}
use Rattle.law_exchange_types.proofs.Common.{common_moves}
use Rattle.law_exchange_types.proofs.Numeric.{is_numeric_moves}
use Rattle.law_exchange_types.proofs.Operands.{operand_of_moves}
use Rattle.law_exchange_types.specs.Constants.{moved_operand, moved_ordinal}
use Rattle.law_exchange_types.specs.Pieces.{map_ok, moved_pair}
use Rattle.law_exchange_types.specs.Values.{moved_class, moved_computed, moved_designated}
use Rattle.m2_tree.specs.declared.pos.Pos.{Pos}
use Rattle.std.proofs.Common.{◌≡◌, refl, Bool, Err, None, Ok, Option, Result, Some, ap₂, false, option_map, true, ◌∙◌}
use Rattle.typed_tree.specs.declared.known_types.Types.{Types}
use Rattle.typed_tree.specs.declared.types.Home.{Home}
use Rattle.typed_tree.specs.declared.types.Home.TheVariants.{Predeclared, Module}
use Rattle.typed_tree.specs.declared.types.TypeNo.{TypeNo}
use Rattle.check_const.specs.declared.operand.Operand.TheVariants as operand
use Rattle.check_value.specs.declared.class.Class.TheVariants as class
use Rattle.check_value.specs.declared.computed.Computed.TheVariants as value
use Rattle.check_value.specs.declared.computed.Designated.TheVariants as designated

pub suits_selector_moves : (z : Exchange) (a0 : Option TypeNo) (b : TypeNo)
    → suits_selector (option_map (moved_type z) a0) (moved_type z b) ≡ suits_selector a0 b
suits_selector_moves z None b = refl
suits_selector_moves z (Some base) b = are_same_moves z b base

pub suits_without_moves : (z : Exchange) (a0 : Option TypeNo)
    → suits_without (option_map (moved_type z) a0) ≡ suits_without a0
suits_without_moves z None = refl
suits_without_moves z (Some base) = refl

pub no_constant_moves : (z : Exchange) (g : Gathers) (alike : Bool) (label at : Pos)
    → map_ok (option_map (moved_ordinal z)) (no_constant g alike label at) ≡ no_constant g alike label at
no_constant_moves z g true label at = refl
no_constant_moves z g false label at = refl

pub without_number_moves : (z : Exchange) (g : Gathers) (a0 : Option TypeNo) (at : Pos)
    → without_number g (option_map (moved_type z) a0) at
    ≡ map_ok (option_map (moved_ordinal z)) (without_number g a0 at)
without_number_moves z g None at = refl
without_number_moves z g (Some base) at = refl

pub constant_bound_moves : (z : Exchange) (g : Gathers) (base : Option TypeNo) (at : Pos) (a2 : Option Operand)
    → constant_bound g (option_map (moved_type z) base) at (option_map (moved_operand z) a2)
    ≡ map_ok (option_map (moved_ordinal z)) (constant_bound g base at a2)
constant_bound_moves z g base at None = without_number_moves z g base at
constant_bound_moves z g base at (Some (operand.Set bits)) = without_number_moves z g base at
constant_bound_moves z g base at (Some (operand.Scalar a)) = refl

pub value_bound_moves : (z : Exchange) (g : Gathers) (base : Option TypeNo) (label : Pos) (at : Pos) (a1 : Computed)
    → value_bound g (option_map (moved_type z) base) label at (moved_computed z a1)
    ≡ map_ok (option_map (moved_ordinal z)) (value_bound g base label at a1)
value_bound_moves z g base label at (value.Constant v) = simp (constant_bound_moves, operand_of_moves)
value_bound_moves z g base label at (value.Scalar t b e) = simp (no_constant_moves, suits_selector_moves)
value_bound_moves z g base label at (value.Set e) = simp (no_constant_moves, suits_without_moves)
value_bound_moves z g base label at (value.Routine t e) = simp (no_constant_moves, suits_without_moves)
value_bound_moves z g base label at (value.Procedure p) = simp (no_constant_moves, suits_without_moves)
value_bound_moves z g base label at (value.Whole t d) = simp (no_constant_moves, suits_without_moves)
value_bound_moves z g base label at value.Untaken = simp (no_constant_moves, suits_without_moves)

pub variable_bound_moves : (z : Exchange) (g : Gathers) (base : Option TypeNo) (label : Pos) (at : Pos) (a1 : Class)
    → variable_bound g (option_map (moved_type z) base) label at (moved_class z a1)
    ≡ map_ok (option_map (moved_ordinal z)) (variable_bound g base label at a1)
variable_bound_moves z g base label at (class.Scalar s) = simp (no_constant_moves, suits_selector_moves)
variable_bound_moves z g base label at class.Set = simp (no_constant_moves, suits_without_moves)
variable_bound_moves z g base label at class.Procedure = simp (no_constant_moves, suits_without_moves)
variable_bound_moves z g base label at class.Whole = simp (no_constant_moves, suits_without_moves)

pub bound_by_moves : (z : Exchange) (g : Gathers) (types : Types) (base : Option TypeNo) (label : Pos) (at : Pos)
    (a2 : Designated)
    → bound_by g (moved_types z types) (option_map (moved_type z) base) label at (moved_designated z a2)
    ≡ map_ok (option_map (moved_ordinal z)) (bound_by g types base label at a2)
bound_by_moves z g types base label at (designated.Value x) = value_bound_moves z g base label at x
bound_by_moves z g types base label at (designated.Variable t d) = simp (variable_bound_moves, class_at_moves)
bound_by_moves z g types base label at (designated.Open t slot) = simp (no_constant_moves, suits_without_moves)
bound_by_moves z g types base label at (designated.Type t) = no_constant_moves z g false label at
bound_by_moves z g types base label at (designated.Procedure p) = simp (no_constant_moves, suits_without_moves)
bound_by_moves z g types base label at (designated.Nested p) = refl
bound_by_moves z g types base label at (designated.Standard f) = refl
bound_by_moves z g types base label at (designated.Module k) = no_constant_moves z g false label at

pub bound_in_moves : (z : Exchange) (g : Gathers) (types : Types) (base : Option TypeNo) (label : Pos) (at : Pos)
    (a2 : Result Designated (Meaningless g.Reported))
    → bound_in g (moved_types z types) (option_map (moved_type z) base) label at (map_ok (moved_designated z) a2)
    ≡ map_ok (option_map (moved_ordinal z)) (bound_in g types base label at a2)
bound_in_moves z g types base label at (Ok d) = bound_by_moves z g types base label at d
bound_in_moves z g types base label at (Err (Broken e)) = refl
bound_in_moves z g types base label at (Err (Headless true e)) = refl
bound_in_moves z g types base label at (Err (Headless false e)) = simp (no_constant_moves, suits_without_moves)

pub suits_base_moves : (z : Exchange) (g : Gathers) (a0 : Option TypeNo) (at : Pos) (a : Ordinal)
    → suits_base g (option_map (moved_type z) a0) at (moved_ordinal z a) ≡ suits_base g a0 at a
suits_base_moves z g None at a = refl
suits_base_moves z g (Some base) at a = simp (is_of_base_moves, fits_base_moves)

pub suits_if_moves : (z : Exchange) (g : Gathers) (base : Option TypeNo) (at : Pos) (a2 : Option Ordinal)
    → suits_if g (option_map (moved_type z) base) at (option_map (moved_ordinal z) a2) ≡ suits_if g base at a2
suits_if_moves z g base at None = refl
suits_if_moves z g base at (Some a) = suits_base_moves z g base at a

pub bound_suits_moves : (z : Exchange) (g : Gathers) (base : Option TypeNo) (at : Pos) (a : Bound g.Reported)
    → bound_suits g (option_map (moved_type z) base) at (map_ok (option_map (moved_ordinal z)) a)
    ≡ bound_suits g base at a
bound_suits_moves z g base at a = simp (suits_if_moves, then_map)

pub bounds_of_moves : (z : Exchange) (a0 : Option Ordinal) (b : Option Ordinal)
    → bounds_of (option_map (moved_ordinal z) a0) (option_map (moved_ordinal z) b)
    ≡ option_map (moved_pair (moved_ordinal z) (moved_ordinal z)) (bounds_of a0 b)
bounds_of_moves z (Some a) (Some b) = refl
bounds_of_moves z (Some a) None = refl
bounds_of_moves z None b = refl

pub single_moves : (z : Exchange) (g : Gathers) (base : Option TypeNo) (at : Pos) (a : Bound g.Reported)
    → single g (option_map (moved_type z) base) at (map_ok (option_map (moved_ordinal z)) a)
    ≡ map_ok (option_map (moved_pair (moved_ordinal z) (moved_ordinal z))) (single g base at a)
single_moves z g base at a =
    simp (bound_suits_moves, bounds_of_moves, then_map, map_then, both_left)

pub ordered_both_moves : (z : Exchange) (g : Gathers) (at : Pos) (a1 : Option Ordinal) (b : Option Ordinal)
    → ordered_both g at (option_map (moved_ordinal z) a1) (option_map (moved_ordinal z) b) ≡ ordered_both g at a1 b
ordered_both_moves z g at (Some a) (Some b) = simp (ordered_if_moves, common_moves)
ordered_both_moves z g at (Some a) None = refl
ordered_both_moves z g at None b = refl

pub bounds_ordered_moves : (z : Exchange) (g : Gathers) (at : Pos) (a : Bound g.Reported) (b : Bound g.Reported)
    → bounds_ordered g at (map_ok (option_map (moved_ordinal z)) a) (map_ok (option_map (moved_ordinal z)) b)
    ≡ bounds_ordered g at a b
bounds_ordered_moves z g at a b = simp (ordered_both_moves, then_map, both_moves)

abbrev ranged : (g : Gathers) → Result (Option Ordinal × Option Ordinal) g.Reported → Result (Unit {0}) g.Reported
    → Result Bounds g.Reported
ranged g q u = both g q u ▷ λ p. Ok (bounds_of p.0.0 p.0.1)

ranged_moves : (z : Exchange) (g : Gathers) (q : Result (Option Ordinal × Option Ordinal) g.Reported)
    (u : Result (Unit {0}) g.Reported)
    → ranged g (map_ok (moved_pair (option_map (moved_ordinal z)) (option_map (moved_ordinal z))) q) u
    ≡ map_ok (option_map (moved_pair (moved_ordinal z) (moved_ordinal z))) (ranged g q u)
ranged_moves z g q u = simp (both_left, bounds_of_moves, then_map, map_then)

pub label_range_moves : (z : Exchange) (g : Gathers) (base : Option TypeNo) (at : Pos) (a : Bound g.Reported)
    (at' : Pos) (b : Bound g.Reported)
    → label_range g (option_map (moved_type z) base) at (map_ok (option_map (moved_ordinal z)) a) at'
    (map_ok (option_map (moved_ordinal z)) b)
    ≡ map_ok (option_map (moved_pair (moved_ordinal z) (moved_ordinal z))) (label_range g base at a at' b)
label_range_moves z g base at a at' b =
    ap₂ (ranged g) (both_moves g (option_map (moved_ordinal z)) (option_map (moved_ordinal z)) a b)
    (ap₂ (beside g) (ap₂ (beside g) (bound_suits_moves z g base at a) (bound_suits_moves z g base at' b))
    (bounds_ordered_moves z g at a b))
    ∙ ranged_moves z g (both g a b)
    (beside g (beside g (bound_suits g base at a) (bound_suits g base at' b)) (bounds_ordered g at a b))

pub base_of_moves : (z : Exchange) (a0 : Option TypeNo)
    → base_of (option_map (moved_type z) a0) ≡ moved_type z (base_of a0)
base_of_moves z None = refl
base_of_moves z (Some t) = simp (is_numeric_moves, if_in (moved_type z))

pub module_of_moves : (z : Exchange) (h : Home) → module_of (moved_home z h) ≡ option_map z.there (module_of h)
module_of_moves z Predeclared = refl
module_of_moves z (Module m) = refl

pub label_by_moves : (z : Exchange) (b : Ordinal × Ordinal)
    → label_by (moved_pair (moved_ordinal z) (moved_ordinal z) b) ≡ label_by b
label_by_moves z b = refl
