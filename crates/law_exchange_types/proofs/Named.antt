-- Named of check_type_expr, with other numbers of modules.
use Rattle.check_scope.specs.Elaborated.{Gathers}
use Rattle.check_scope.specs.declared.scope.Scope.{Scope}
use Rattle.check_type_expr.specs.Named.{named_type, in_module, of_module, type_meant}
use Rattle.def_exchange.specs.Moved.{moved_meaning, moved_type, Exchange}
use Rattle.law_exchange_types.proofs.Basics.{then_map, map_then, sort_moves as of_sort_moves}
use Rattle.law_exchange_types.proofs.Denote.{exported_meaning_moves}
use Rattle.law_exchange_types.proofs.InScope.{looked_up_moves}
use Rattle.law_exchange_types.specs.Pieces.{map_ok}
use Rattle.law_exchange_types.specs.Scopes.{moved_scope}
use Rattle.m2_tree.specs.declared.expr.Qualified.{Qualified}
use Rattle.m2_tree.specs.declared.name.Ident.{Ident}
use Rattle.m2_tree.specs.declared.pos.Pos.{Pos}
use Rattle.std.proofs.Common.{◌≡◌, refl, None, Option, Some}
use Rattle.typed_tree.specs.declared.meaning.Meaning.{Meaning}
use Rattle.typed_tree.specs.declared.meaning.Meaning.TheVariants as meaning

pub type_meant_moves : (z : Exchange) (g : Gathers) (at : Pos) (a1 : Meaning)
    → type_meant g at (moved_meaning z a1) ≡ map_ok (moved_type z) (type_meant g at a1)
type_meant_moves z g at (meaning.Type t n) = refl
type_meant_moves z g at (meaning.Constant v) = refl
type_meant_moves z g at (meaning.Variable v) = refl
type_meant_moves z g at (meaning.Local v) = refl
type_meant_moves z g at (meaning.Field f) = refl
type_meant_moves z g at (meaning.Procedure p) = refl
type_meant_moves z g at (meaning.LocalProcedure p) = refl
type_meant_moves z g at meaning.Ahead = refl
type_meant_moves z g at (meaning.Standard f) = refl
type_meant_moves z g at (meaning.Module k) = refl

pub in_module_moves : (z : Exchange) (g : Gathers) (s : Scope g.Reported) (at : Pos) (name : Ident) (a3 : Meaning)
    → in_module g (moved_scope z s) at name (moved_meaning z a3) ≡ map_ok (moved_type z) (in_module g s at name a3)
in_module_moves z g s at name (meaning.Module k) = simp (exported_meaning_moves, type_meant_moves, then_map, map_then)
in_module_moves z g s at name (meaning.Type t n) = refl
in_module_moves z g s at name (meaning.Constant v) = refl
in_module_moves z g s at name (meaning.Variable v) = refl
in_module_moves z g s at name (meaning.Local v) = refl
in_module_moves z g s at name (meaning.Field f) = refl
in_module_moves z g s at name (meaning.Procedure p) = refl
in_module_moves z g s at name (meaning.LocalProcedure p) = refl
in_module_moves z g s at name meaning.Ahead = refl
in_module_moves z g s at name (meaning.Standard f) = refl

pub of_module_moves : (z : Exchange) (g : Gathers) (s : Scope g.Reported) (a1 : Option Ident) (name : Ident)
    → of_module g (moved_scope z s) a1 name ≡ map_ok (moved_type z) (of_module g s a1 name)
of_module_moves z g s None name = simp (of_sort_moves, looked_up_moves, type_meant_moves, then_map, map_then)
of_module_moves z g s (Some home) name = simp (of_sort_moves, looked_up_moves, in_module_moves, then_map, map_then)

pub named_type_moves : (z : Exchange) (g : Gathers) (s : Scope g.Reported) (q : Qualified)
    → named_type g (moved_scope z s) q ≡ map_ok (moved_type z) (named_type g s q)
named_type_moves z g s q = of_module_moves z g s q.module q.name
