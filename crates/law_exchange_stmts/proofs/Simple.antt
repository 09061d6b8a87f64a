-- Statements without others inside, with other numbers of modules.
use Rattle.check_scope.specs.Elaborated.{Gathers}
use Rattle.check_scope.specs.declared.scope.Scope.{Scope}
use Rattle.check_stmt_parts.specs.Simple.{record_led_to, given_back, known_of, element_in, selector_amount, type_led_to, record_by, element_of, opened_if, selector_of, into_record, exit_statement, out_of_record, in_loop}
use Rattle.check_stmt_parts.specs.declared.around.Around.{Around}
use Rattle.check_value.specs.declared.computed.Computed.{Computed}
use Rattle.check_value.specs.declared.computed.Designated.{Designated}
use Rattle.check_value.specs.declared.side.Amount.{Amount}
use Rattle.check_value.specs.declared.side.Amount.TheVariants.{Known, Run}
use Rattle.check_value.specs.declared.side.Side.{Side}
use Rattle.def_exchange.specs.Moved.{moved_type, moved_types, Exchange}
use Rattle.law_exchange_exprs.proofs.Effects.{type_of_number_moves}
use Rattle.law_exchange_exprs.proofs.Steps.{stmt_Exit, stmt_Give}
use Rattle.law_exchange_exprs.specs.Steps.{moved_stmt}
use Rattle.law_exchange_stmts.proofs.Pieces.{is_some_moves}
use Rattle.law_exchange_stmts.specs.MovedStatements.{moved_around}
use Rattle.law_exchange_types.proofs.Basics.{where_moves, then_map, map_then, both_moves, cond_some}
use Rattle.law_exchange_types.proofs.Classes.{array_at_moves}
use Rattle.law_exchange_types.proofs.InScope.{fields_at_moves}
use Rattle.law_exchange_types.proofs.Suits.{value_suited_moves}
use Rattle.law_exchange_types.proofs.Trees.{expr_Constant, root_place_moves}
use Rattle.law_exchange_types.specs.Pieces.{map_ok, moved_pair}
use Rattle.law_exchange_types.specs.Scopes.{moved_opened, moved_scope}
use Rattle.law_exchange_types.specs.Trees.{moved_expr, moved_place}
use Rattle.law_exchange_types.specs.Values.{moved_amount, moved_computed, moved_designated, moved_side}
use Rattle.m2_tree.specs.declared.pos.Pos.{Pos}
use Rattle.std.proofs.Common.{◌≡◌, refl, Err, List, None, Ok, Option, Result, Some, ap, option_map}
use Rattle.std.proofs.lemmas.List.{length-map, map-append}
use Rattle.typed_tree.specs.declared.computed.Place.{Place}
use Rattle.typed_tree.specs.declared.known_types.Types.{Types}
use Rattle.typed_tree.specs.declared.types.TypeNo.{TypeNo}
use Rattle.typed_tree.specs.declared.computed.Root.TheVariants as root
use Rattle.check_value.specs.declared.computed.Designated.TheVariants as designated
use Rattle.check_value.specs.declared.side.Side.TheVariants as side
use Rattle.law_exchange_stmts.proofs.Pieces.{front_moves}
use Rattle.check_scope.specs.declared.scope.OpenedRecord.{OpenedRecord}

pub in_loop_moves : (z : Exchange) {T : Type 0} (w : Around T) → in_loop (moved_around z w) ≡ moved_around z (in_loop w)
in_loop_moves z w = refl

pub exit_statement_moves : (z : Exchange) (g : Gathers) (at : Pos) (w : Around g.Reported)
    → exit_statement g at (moved_around z w) ≡ map_ok (moved_stmt z) (exit_statement g at w)
exit_statement_moves z g at w = simp (stmt_Exit, where_moves)

pub given_back_moves : (z : Exchange) (g : Gathers) (types : Types) (t : Result TypeNo g.Reported) (at : Pos)
    (x : Result Computed g.Reported)
    → given_back g (moved_types z types) (map_ok (moved_type z) t) at (map_ok (moved_computed z) x)
    ≡ map_ok (moved_stmt z) (given_back g types t at x)
given_back_moves z g types t at x =
    simp (value_suited_moves, stmt_Give, then_map, map_then, both_moves)

pub selector_amount_moves : (z : Exchange) (a0 : Amount)
    → selector_amount (moved_amount z a0) ≡ moved_pair (moved_type z) (moved_expr z) (selector_amount a0)
selector_amount_moves z (Known a) = simp (type_of_number_moves, expr_Constant)
selector_amount_moves z (Run b e) = refl

pub selector_of_moves : (z : Exchange) (g : Gathers) (at : Pos) (a1 : Option Side)
    → selector_of g at (option_map (moved_side z) a1)
    ≡ map_ok (moved_pair (moved_type z) (moved_expr z)) (selector_of g at a1)
selector_of_moves z g at None = refl
selector_of_moves z g at (Some (side.Scalar a)) = simp (selector_amount_moves)
selector_of_moves z g at (Some (side.Set e)) = refl
selector_of_moves z g at (Some (side.Routine t e)) = refl
selector_of_moves z g at (Some (side.Procedure p)) = refl

pub record_by_moves : (z : Exchange) (g : Gathers) (types : Types) (at : Pos) (a2 : Designated)
    → record_by g (moved_types z types) at (moved_designated z a2)
    ≡ map_ok (moved_pair (moved_type z) (moved_place z)) (record_by g types at a2)
record_by_moves z g types at (designated.Variable t d) = simp (fields_at_moves, where_moves, is_some_moves)
record_by_moves z g types at (designated.Value x) = refl
record_by_moves z g types at (designated.Open t slot) = refl
record_by_moves z g types at (designated.Type t) = refl
record_by_moves z g types at (designated.Procedure p) = refl
record_by_moves z g types at (designated.Nested p) = refl
record_by_moves z g types at (designated.Standard f) = refl
record_by_moves z g types at (designated.Module k) = refl

pub known_of_moves : (z : Exchange) {T : Type 0} (a0 : Result Designated T)
    → known_of (map_ok (moved_designated z) a0) ≡ option_map (moved_designated z) (known_of a0)
known_of_moves z (Ok d) = refl
known_of_moves z (Err e) = refl

pub element_in_moves : (z : Exchange) (d : Place) (a1 : Option (TypeNo × TypeNo))
    → element_in (moved_place z d) (option_map (moved_pair (moved_type z) (moved_type z)) a1)
    ≡ option_map (moved_designated z) (element_in d a1)
element_in_moves z d None = refl
element_in_moves z d (Some a) = refl

pub element_of_moves : (z : Exchange) (types : Types) (a1 : Designated)
    → element_of (moved_types z types) (moved_designated z a1) ≡ option_map (moved_designated z) (element_of types a1)
element_of_moves z types (designated.Variable t d) = simp (element_in_moves, array_at_moves)
element_of_moves z types (designated.Open t slot) = simp (root_place_moves z (root.Open slot))
element_of_moves z types (designated.Value x) = refl
element_of_moves z types (designated.Type t) = refl
element_of_moves z types (designated.Procedure p) = refl
element_of_moves z types (designated.Nested p) = refl
element_of_moves z types (designated.Standard f) = refl
element_of_moves z types (designated.Module k) = refl

pub type_led_to_moves : (z : Exchange) (types : Types) (a1 : Designated)
    → type_led_to (moved_types z types) (moved_designated z a1) ≡ option_map (moved_type z) (type_led_to types a1)
type_led_to_moves z types (designated.Variable t d) = simp (fields_at_moves, cond_some, is_some_moves)
type_led_to_moves z types (designated.Value x) = refl
type_led_to_moves z types (designated.Open t slot) = refl
type_led_to_moves z types (designated.Type t) = refl
type_led_to_moves z types (designated.Procedure p) = refl
type_led_to_moves z types (designated.Nested p) = refl
type_led_to_moves z types (designated.Standard f) = refl
type_led_to_moves z types (designated.Module k) = refl

pub record_led_to_moves : (z : Exchange) (types : Types) (a1 : Option Designated)
    → record_led_to (moved_types z types) (option_map (moved_designated z) a1)
    ≡ option_map (moved_type z) (record_led_to types a1)
record_led_to_moves z types None = refl
record_led_to_moves z types (Some d) = type_led_to_moves z types d

pub into_record_moves : (z : Exchange) {T : Type 0} (s : Scope T) (t : TypeNo)
    → into_record (moved_scope z s) (moved_type z t) ≡ moved_scope z (into_record s t)
into_record_moves z s t = simp (length-map, map-append)

pub opened_if_moves : (z : Exchange) {T : Type 0} (s : Scope T) (a1 : Option TypeNo)
    → opened_if (moved_scope z s) (option_map (moved_type z) a1) ≡ moved_scope z (opened_if s a1)
opened_if_moves z s None = refl
opened_if_moves z s (Some t) = into_record_moves z s t

pub out_of_record_moves : (z : Exchange) {T : Type 0} (s : Scope T)
    → out_of_record (moved_scope z s) ≡ moved_scope z (out_of_record s)
out_of_record_moves z s =
    ap (λ (ws : List OpenedRecord). record (moved_scope z s) { withs = ws }) (front_moves (moved_opened z) s.withs)
