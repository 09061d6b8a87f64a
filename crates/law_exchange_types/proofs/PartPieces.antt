-- Parts of check_const, with other numbers of modules.
use Rattle.check_const.specs.Operate.{constant_operation}
use Rattle.check_const.specs.Parts.{named_type, signed_first, set_of, first_name, name_in_module, field_of, relation_value, element_of, set_type, single_of, value_at}
use Rattle.check_const.specs.declared.denoted.Denoted.{Denoted}
use Rattle.check_scope.specs.Elaborated.{Gathers}
use Rattle.check_scope.specs.declared.scope.Scope.{Scope}
use Rattle.def_exchange.specs.Moved.{moved_type, moved_value, Exchange}
use Rattle.law_exchange_types.proofs.Basics.{then_map, map_then, sort_moves as of_sort_moves}
use Rattle.law_exchange_types.proofs.Calls.{type_in_moves}
use Rattle.law_exchange_types.proofs.Denote.{is_bitset_moves, of_value_moves, denoted_of_moves, exported_meaning_moves, denoted_by_moves, component_moves}
use Rattle.law_exchange_types.proofs.InScope.{looked_up_moves}
use Rattle.law_exchange_types.proofs.Operate.{with_sign_moves, constant_operation_moves}
use Rattle.law_exchange_types.proofs.Sets.{single_moves, set_element_moves}
use Rattle.law_exchange_types.specs.Constants.{moved_denoted, moved_ordinal}
use Rattle.law_exchange_types.specs.Pieces.{map_ok, moved_pair, same}
use Rattle.law_exchange_types.specs.Scopes.{moved_scope}
use Rattle.m2_tree.specs.declared.expr.Operator.{Operator}
use Rattle.m2_tree.specs.declared.expr.RelOp.{RelOp}
use Rattle.m2_tree.specs.declared.expr.Sign.{Sign}
use Rattle.m2_tree.specs.declared.name.Ident.{Ident}
use Rattle.m2_tree.specs.declared.pos.Pos.{Pos}
use Rattle.std.proofs.Common.{◌≡◌, refl, None, Option, Result, Some, option_map, ℕ}
use Rattle.typed_tree.specs.declared.meaning.Value.{Value}
use Rattle.check_const.specs.declared.operator.BinaryOp.TheVariants as op
use Rattle.check_const.specs.declared.denoted.Denoted.TheVariants as denoted

pub named_type_moves : (z : Exchange) {T : Type 0} (d : Result Denoted T)
    → named_type (map_ok (moved_denoted z) d) ≡ map_ok (option_map (moved_type z)) (named_type d)
named_type_moves z d = simp (type_in_moves, then_map, map_then)

pub value_at_moves : (z : Exchange) {T : Type 0} (at : Pos) (v : Result Value T)
    → value_at at (map_ok (moved_value z) v) ≡ map_ok (moved_pair same (moved_value z)) (value_at at v)
value_at_moves z at v = simp (then_map, map_then)

pub single_of_moves : (z : Exchange) (g : Gathers) (at : Pos) (v : Result Value g.Reported)
    → single_of g at (map_ok (moved_value z) v) ≡ single_of g at v
single_of_moves z g at v = simp (single_moves, then_map)

pub element_of_moves : (z : Exchange) (g : Gathers) (at : Pos) (v : Result Value g.Reported)
    → element_of g at (map_ok (moved_value z) v) ≡ map_ok (moved_ordinal z) (element_of g at v)
element_of_moves z g at v = simp (set_element_moves, then_map, map_then)

pub signed_first_moves : (z : Exchange) (g : Gathers) (a0 : Option (Operator Sign)) (v : Result Value g.Reported)
    → signed_first g a0 (map_ok (moved_value z) v) ≡ map_ok (moved_value z) (signed_first g a0 v)
signed_first_moves z g None v = refl
signed_first_moves z g (Some o) v = with_sign_moves z g o.op o.pos v

pub set_type_moves : (z : Exchange) (g : Gathers) (s : Scope g.Reported) (a1 : Option Ident)
    → set_type g (moved_scope z s) a1 ≡ set_type g s a1
set_type_moves z g s None = refl
set_type_moves z g s (Some name) = simp (of_sort_moves, looked_up_moves, is_bitset_moves, then_map)

pub set_of_moves : (z : Exchange) (g : Gathers) (t : Result (Unit {0}) g.Reported) (bits : Result ℕ g.Reported)
    → map_ok (moved_denoted z) (set_of g t bits) ≡ set_of g t bits
set_of_moves z g t bits = simp (map_then)

pub relation_value_moves : (z : Exchange) (g : Gathers) (o : Operator RelOp) (at : Pos) (a : Result Value g.Reported)
    (at' : Pos) (b : Result Value g.Reported)
    → relation_value g o at (map_ok (moved_value z) a) at' (map_ok (moved_value z) b)
    ≡ map_ok (moved_denoted z) (relation_value g o at a at' b)
relation_value_moves z g o at a at' b = simp (
  of_value_moves z (constant_operation g (op.Relation o.op) o.pos at a at' b),
  constant_operation_moves z g
      (op.Relation o.op) o.pos at a at' b,
)

pub first_name_moves : (z : Exchange) (g : Gathers) (s : Scope g.Reported) (name : Ident)
    → first_name g (moved_scope z s) name ≡ map_ok (moved_denoted z) (first_name g s name)
first_name_moves z g s name = simp (denoted_of_moves, looked_up_moves)

pub name_in_module_moves : (z : Exchange) (g : Gathers) (s : Scope g.Reported) (k : ℕ) (name : Ident)
    → name_in_module g (moved_scope z s) k name ≡ map_ok (moved_denoted z) (name_in_module g s k name)
name_in_module_moves z g s k name = simp (exported_meaning_moves, denoted_by_moves, then_map, map_then)

pub field_of_moves : (z : Exchange) (g : Gathers) (s : Scope g.Reported) (at : Pos) (name : Ident) (a3 : Denoted)
    → field_of g (moved_scope z s) at name (moved_denoted z a3) ≡ map_ok (moved_denoted z) (field_of g s at name a3)
field_of_moves z g s at name (denoted.Module k) = name_in_module_moves z g s k name
field_of_moves z g s at name denoted.Variable = component_moves z g at denoted.Variable
field_of_moves z g s at name (denoted.Value v) = component_moves z g at (denoted.Value v)
field_of_moves z g s at name (denoted.Type t) = component_moves z g at (denoted.Type t)
field_of_moves z g s at name denoted.Procedure = component_moves z g at denoted.Procedure
field_of_moves z g s at name (denoted.Standard f) = component_moves z g at (denoted.Standard f)
