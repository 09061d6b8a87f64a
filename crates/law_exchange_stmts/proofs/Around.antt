-- Statements around others, with other numbers of modules.
use Rattle.check_scope.specs.Elaborated.{Gathers}
use Rattle.check_stmt_parts.specs.Lists.{if_statement, arm_of, within, case_statement, loop_statement, reported_in, repeated_while, base_in, chosen_else, repeated_until, standing, with_next}
use Rattle.def_exchange.specs.Moved.{moved_type, Exchange}
use Rattle.law_exchange_exprs.proofs.Steps.{stmt_If, stmt_Case, arm_is, stmt_While, stmt_Repeat, stmt_Loop, stmt_With}
use Rattle.law_exchange_exprs.specs.Steps.{moved_arm, moved_stmt}
use Rattle.law_exchange_types.proofs.Basics.{then_map, map_then, both_moves, both_right}
use Rattle.law_exchange_types.specs.Pieces.{map_ok, moved_pair}
use Rattle.law_exchange_types.specs.Trees.{moved_expr, moved_place}
use Rattle.std.proofs.Common.{◌≡◌, refl, Err, List, Ok, Option, Result, ap, map, option_map, sym, ◌∷◌, []}
use Rattle.typed_tree.specs.declared.computed.Place.{Place}
use Rattle.typed_tree.specs.declared.computed.TypedExpr.{TypedExpr}
use Rattle.typed_tree.specs.declared.statement.Label.{Label}
use Rattle.typed_tree.specs.declared.statement.TypedArm.{TypedArm}
use Rattle.typed_tree.specs.declared.statement.TypedStmt.{TypedStmt}
use Rattle.typed_tree.specs.declared.types.TypeNo.{TypeNo}
use Rattle.std.proofs.lemmas.List.{map-append}

pub with_next_moves : (g : Gathers) {A B : Type 0} (f : A → B) (so : Result (List A) g.Reported)
    (a : Result A g.Reported) → with_next g (map_ok (map f) so) (map_ok f a) ≡ map_ok (map f) (with_next g so a)
with_next_moves g f (Ok xs) (Ok a) = ap Ok (sym (map-append f xs (a ∷ [])))
with_next_moves g f (Ok xs) (Err e) = refl
with_next_moves g f (Err e) (Ok a) = refl
with_next_moves g f (Err e) (Err d) = refl

pub standing_moves : (z : Exchange) {T : Type 0} (body : Result (List TypedStmt) T)
    → standing (map_ok (map (moved_stmt z)) body) ≡ map_ok (option_map (map (moved_stmt z))) (standing body)
standing_moves z body = simp (then_map, map_then)

pub if_statement_moves : (z : Exchange) (g : Gathers) (c : Result TypedExpr g.Reported)
    (body : Result (List TypedStmt) g.Reported) (rest : Result (Option (List TypedStmt)) g.Reported)
    → if_statement g (map_ok (moved_expr z) c) (map_ok (map (moved_stmt z)) body)
    (map_ok (option_map (map (moved_stmt z))) rest) ≡ map_ok (moved_stmt z) (if_statement g c body rest)
if_statement_moves z g c body rest = simp (stmt_If, then_map, map_then, both_moves)

pub chosen_else_moves : (z : Exchange) {T : Type 0} (s : Result TypedStmt T)
    → chosen_else (map_ok (moved_stmt z) s) ≡ map_ok (option_map (map (moved_stmt z))) (chosen_else s)
chosen_else_moves z s = simp (then_map, map_then)

pub base_in_moves : (z : Exchange) {T : Type 0} (a0 : Result (TypeNo × TypedExpr) T)
    → base_in (map_ok (moved_pair (moved_type z) (moved_expr z)) a0) ≡ option_map (moved_type z) (base_in a0)
base_in_moves z (Ok x) = refl
base_in_moves z (Err e) = refl

pub case_statement_moves : (z : Exchange) (g : Gathers) (selector : Result (TypeNo × TypedExpr) g.Reported)
    (arms : Result (List TypedArm) g.Reported) (otherwise : Result (Option (List TypedStmt)) g.Reported)
    → case_statement g (map_ok (moved_pair (moved_type z) (moved_expr z)) selector) (map_ok (map (moved_arm z)) arms)
    (map_ok (option_map (map (moved_stmt z))) otherwise)
    ≡ map_ok (moved_stmt z) (case_statement g selector arms otherwise)
case_statement_moves z g selector arms otherwise =
    simp (stmt_Case, then_map, map_then, both_moves)

pub arm_of_moves : (z : Exchange) (g : Gathers) (labels : Result (List Label) g.Reported)
    (body : Result (List TypedStmt) g.Reported)
    → arm_of g labels (map_ok (map (moved_stmt z)) body) ≡ map_ok (moved_arm z) (arm_of g labels body)
arm_of_moves z g labels body = simp (then_map, map_then, both_right, arm_is)

pub repeated_while_moves : (z : Exchange) (g : Gathers) (c : Result TypedExpr g.Reported)
    (body : Result (List TypedStmt) g.Reported)
    → repeated_while g (map_ok (moved_expr z) c) (map_ok (map (moved_stmt z)) body)
    ≡ map_ok (moved_stmt z) (repeated_while g c body)
repeated_while_moves z g c body = simp (stmt_While, then_map, map_then, both_moves)

pub repeated_until_moves : (z : Exchange) (g : Gathers) (body : Result (List TypedStmt) g.Reported)
    (c : Result TypedExpr g.Reported)
    → repeated_until g (map_ok (map (moved_stmt z)) body) (map_ok (moved_expr z) c)
    ≡ map_ok (moved_stmt z) (repeated_until g body c)
repeated_until_moves z g body c = simp (stmt_Repeat, then_map, map_then, both_moves)

pub loop_statement_moves : (z : Exchange) {T : Type 0} (body : Result (List TypedStmt) T)
    → loop_statement (map_ok (map (moved_stmt z)) body) ≡ map_ok (moved_stmt z) (loop_statement body)
loop_statement_moves z body = simp (stmt_Loop, then_map, map_then)

pub within_moves : (z : Exchange) {T : Type 0} (place : Place) (body : Result (List TypedStmt) T)
    → within (moved_place z place) (map_ok (map (moved_stmt z)) body) ≡ map_ok (moved_stmt z) (within place body)
within_moves z place body = simp (stmt_With, then_map, map_then)

pub reported_in_moves : (z : Exchange) {T : Type 0} (body : Result (List TypedStmt) T)
    → reported_in (map_ok (map (moved_stmt z)) body) ≡ reported_in body
reported_in_moves z body = simp (then_map)
