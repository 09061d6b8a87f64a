-- Calls as statements, with other numbers of modules.
use Rattle.check_expr.specs.Effects.{routine_done, call_done, change_target_in, callee_statement, put_by, change_statement, set_in, member_by, call_statement, function_done, standard_done, halt_statement}
use Rattle.check_expr.specs.Meanings.{Meant, value_of, breaches_in_all, actuals, formals_of}
use Rattle.check_scope.specs.Elaborated.{Gathers, ahead, of_heading, ◌▷◌}
use Rattle.check_scope.specs.declared.meaningless.Meaningless.{Meaningless}
use Rattle.check_scope.specs.declared.scope.Scope.{Scope}
use Rattle.check_value.specs.Callees.{callee_of, proper_of, call_by}
use Rattle.check_value.specs.Classes.{signature_at}
use Rattle.check_value.specs.Effects.{change_target, amount, change_by, set_variable, set_element, membership_of, put}
use Rattle.check_value.specs.declared.callee.Called.{Called}
use Rattle.check_value.specs.declared.callee.Callee.{Callee}
use Rattle.check_value.specs.declared.computed.Designated.{Designated}
use Rattle.def_exchange.specs.Moved.{moved_signature, moved_type, moved_types, Exchange}
use Rattle.law_exchange_exprs.proofs.Calls.{valued_moves, sorted_moves, breaches_move, reported_moves, count_moves, given_moves}
use Rattle.law_exchange_exprs.proofs.Effects.{change_target_moves, amount_moves, change_by_moves, set_variable_moves, set_element_moves, membership_of_moves, put_moves}
use Rattle.law_exchange_exprs.proofs.Steps.{stmt_Call, stmt_Halt}
use Rattle.law_exchange_exprs.specs.Moving.{MeantMoves, MeantsMove}
use Rattle.law_exchange_exprs.specs.Steps.{moved_stmt}
use Rattle.law_exchange_types.proofs.Basics.{then_moves, refusal_moves, ahead_moves, heading_moves}
use Rattle.law_exchange_types.proofs.Callees.{call_by_moves, callee_of_moves, proper_of_moves}
use Rattle.law_exchange_types.proofs.Classes.{signature_at_moves}
use Rattle.law_exchange_types.proofs.Trees.{expr_Constant}
use Rattle.law_exchange_types.specs.Pieces.{map_ok, moved_pair}
use Rattle.law_exchange_types.specs.Scopes.{moved_scope}
use Rattle.law_exchange_types.specs.Trees.{moved_argument, moved_expr, moved_place}
use Rattle.law_exchange_types.specs.Values.{moved_called, moved_callee, moved_designated}
use Rattle.m2_tree.specs.declared.pos.Pos.{Pos}
use Rattle.std.proofs.Common.{◌≡◌, Err, List, Ok, Option, Result, ap, ap₂, length, map, option_map, pos, refl, sym, ◌∷◌, ◌∙◌, []}
use Rattle.typed_tree.specs.Types.{cardinal}
use Rattle.typed_tree.specs.declared.computed.Argument.{Argument}
use Rattle.typed_tree.specs.declared.computed.Call.{Call}
use Rattle.typed_tree.specs.declared.computed.TypedExpr.{TypedExpr}
use Rattle.typed_tree.specs.declared.meaning.Standard.{Standard}
use Rattle.typed_tree.specs.declared.meaning.Standard.TheVariants.{Abs, Cap, Chr, High, Max, Min, Odd, Ord, Val, Inc, Dec, Incl, Excl, Halt, Put}
use Rattle.typed_tree.specs.declared.shape.Signature.{Signature}
use Rattle.typed_tree.specs.declared.statement.Change.{Change}
use Rattle.typed_tree.specs.declared.statement.Change.TheVariants.{Increase, Decrease}
use Rattle.typed_tree.specs.declared.statement.Membership.{Membership}
use Rattle.typed_tree.specs.declared.statement.Membership.TheVariants.{Include, Exclude}
use Rattle.typed_tree.specs.declared.statement.TypedStmt.{TypedStmt}
use Rattle.typed_tree.specs.declared.types.TypeNo.{TypeNo}
use Rattle.m2_rule.specs.declared.rule.Rule.TheVariants as rule
use Rattle.typed_tree.specs.declared.computed.TypedExpr.TheVariants as expr
use Rattle.typed_tree.specs.declared.statement.TypedStmt.TheVariants as step
use Rattle.check_value.specs.declared.callee.Called.TheVariants as called

module _ (z : Exchange) (g : Gathers) where
  ahead_keeps : {A C D : Type 0} (h : C → D) (r : Result A g.Reported) (rest : Result (Unit {0}) g.Reported)
      (k : A → Result C g.Reported) (l : A → Result D g.Reported) → ((a : A) → l a ≡ map_ok h (k a))
      → ahead g r rest l ≡ map_ok h (ahead g r rest k)
  ahead_keeps h (Ok a) rest k l e = e a
  ahead_keeps h (Err d) rest k l e = sym (refusal_moves g h d rest)

  call_done_moves : (c : Callee) (args : Result (List Argument) g.Reported)
      → call_done (moved_callee z c) (map_ok (map (moved_argument z)) args) ≡ map_ok (moved_stmt z) (call_done c args)
  call_done_moves c (Ok xs) =
      ap (λ (k : Call). Ok (step.Call k)) (call_by_moves z xs c)
      ∙ ap (λ (k : TypedStmt). Ok k) (sym (stmt_Call z (call_by xs c)))
  call_done_moves c (Err e) = refl

  pub routine_done_moves : (s : Scope g.Reported) (at : Pos) (t : TypeNo) (c : Callee) (ms : List (Meant g.Reported))
      → MeantsMove z ms
      → routine_done g (moved_scope z s) at (moved_type z t) (moved_callee z c) ms
      ≡ map_ok (moved_stmt z) (routine_done g s at t c ms)
  routine_done_moves s at t c ms h =
      ap (λ (sig : Option Signature). ahead g (proper_of g at sig (length ms)) (breaches_in_all g (moved_scope z s) ms)
      (λ fine. call_done (moved_callee z c) (actuals g (moved_scope z s) (formals_of sig) ms)))
      (signature_at_moves z s.types t)
      ∙ (ap₂ (λ (a b : Result (Unit {0}) g.Reported). ahead g a b (λ fine. call_done (moved_callee z c)
      (actuals g (moved_scope z s) (formals_of (option_map (moved_signature z) (signature_at s.types t))) ms)))
      (proper_of_moves z g at (signature_at s.types t) (length ms)) (breaches_move z g s ms h)
      ∙ ahead_keeps (moved_stmt z) (proper_of g at (signature_at s.types t) (length ms)) (breaches_in_all g s ms)
      (λ fine. call_done c (actuals g s (formals_of (signature_at s.types t)) ms))
      (λ fine. call_done (moved_callee z c)
      (actuals g (moved_scope z s) (formals_of (option_map (moved_signature z) (signature_at s.types t))) ms))
      (λ fine. ap (call_done (moved_callee z c)) (given_moves z g s (signature_at s.types t) ms h)
      ∙ call_done_moves c (actuals g s (formals_of (signature_at s.types t)) ms)))

  -- ---- INC and DEC

  pub change_target_in_moves : (s : Scope g.Reported) (m : Meant g.Reported) → MeantMoves z m
      → change_target_in g (moved_scope z s) m
      ≡ map_ok (moved_pair (moved_type z) (moved_place z)) (change_target_in g s m)
  change_target_in_moves s m h =
      sorted_moves z g (moved_pair (moved_type z) (moved_place z)) rule.NoVariable s m
      (change_target g s.types m.fixed.at) (change_target g (moved_types z s.types) m.fixed.at) h
      (change_target_moves z g s.types m.fixed.at)

  pub change_statement_moves : (s : Scope g.Reported) (at : Pos) (o : Change) (ms : List (Meant g.Reported))
      → MeantsMove z ms
      → change_statement g (moved_scope z s) at o ms ≡ map_ok (moved_stmt z) (change_statement g s at o ms)
  change_statement_moves s at o [] h = count_moves z g (moved_stmt z) s at [] h
  change_statement_moves s at o (m ∷ []) h =
      ap₂ (change_by g o) (change_target_in_moves s m h.0)
      (ap (λ (e : TypedExpr). Ok e) (sym (expr_Constant z cardinal (pos 1))))
      ∙ change_by_moves z g o (change_target_in g s m) (Ok (expr.Constant cardinal (pos 1)))
  change_statement_moves s at o (m ∷ n ∷ []) h =
      ap₂ (change_by g o) (change_target_in_moves s m h.0)
      (valued_moves z g (moved_expr z) s n (amount g n.fixed.at) (amount g n.fixed.at) h.1.0
      (amount_moves z g n.fixed.at))
      ∙ change_by_moves z g o (change_target_in g s m) (value_of g s n ▷ amount g n.fixed.at)
  change_statement_moves s at o (m ∷ n ∷ k ∷ ms) h = count_moves z g (moved_stmt z) s at (m ∷ n ∷ k ∷ ms) h

  -- ---- INCL and EXCL

  pub set_in_moves : (s : Scope g.Reported) (m : Meant g.Reported) → MeantMoves z m
      → set_in g (moved_scope z s) m ≡ map_ok (moved_place z) (set_in g s m)
  set_in_moves s m h =
      sorted_moves z g (moved_place z) rule.NoVariable s m (set_variable g s.types m.fixed.at)
      (set_variable g (moved_types z s.types) m.fixed.at) h (set_variable_moves z g s.types m.fixed.at)

  pub member_by_moves : (s : Scope g.Reported) (at : Pos) (o : Membership) (ms : List (Meant g.Reported))
      → MeantsMove z ms → member_by g (moved_scope z s) at o ms ≡ map_ok (moved_stmt z) (member_by g s at o ms)
  member_by_moves s at o [] h = count_moves z g (moved_stmt z) s at [] h
  member_by_moves s at o (m ∷ []) h = count_moves z g (moved_stmt z) s at (m ∷ []) h
  member_by_moves s at o (m ∷ n ∷ []) h =
      ap₂ (membership_of g o) (set_in_moves s m h.0)
      (valued_moves z g (moved_expr z) s n (set_element g n.fixed.at) (set_element g n.fixed.at) h.1.0
      (set_element_moves z g n.fixed.at))
      ∙ membership_of_moves z g o (set_in g s m) (value_of g s n ▷ set_element g n.fixed.at)
  member_by_moves s at o (m ∷ n ∷ k ∷ ms) h = count_moves z g (moved_stmt z) s at (m ∷ n ∷ k ∷ ms) h

  -- ---- the other standard procedures, and functions

  pub halt_statement_moves : (s : Scope g.Reported) (at : Pos) (ms : List (Meant g.Reported)) → MeantsMove z ms
      → halt_statement g (moved_scope z s) at ms ≡ map_ok (moved_stmt z) (halt_statement g s at ms)
  halt_statement_moves s at [] h = ap (λ (k : TypedStmt). Ok k) (sym (stmt_Halt z))
  halt_statement_moves s at (m ∷ ms) h = count_moves z g (moved_stmt z) s at (m ∷ ms) h

  pub put_by_moves : (s : Scope g.Reported) (at : Pos) (ms : List (Meant g.Reported)) → MeantsMove z ms
      → put_by g (moved_scope z s) at ms ≡ map_ok (moved_stmt z) (put_by g s at ms)
  put_by_moves s at [] h = count_moves z g (moved_stmt z) s at [] h
  put_by_moves s at (m ∷ []) h =
      valued_moves z g (moved_stmt z) s m (put g s.types m.fixed.at) (put g (moved_types z s.types) m.fixed.at) h.0
      (put_moves z g s.types m.fixed.at)
  put_by_moves s at (m ∷ n ∷ ms) h = count_moves z g (moved_stmt z) s at (m ∷ n ∷ ms) h

  pub function_done_moves : (s : Scope g.Reported) (at : Pos) (ms : List (Meant g.Reported)) → MeantsMove z ms
      → function_done g (moved_scope z s) at ms ≡ map_ok (moved_stmt z) (function_done g s at ms)
  function_done_moves s at ms h = reported_moves z g (moved_stmt z) rule.WrongType s at ms h

  pub standard_done_moves : (s : Scope g.Reported) (at : Pos) (ms : List (Meant g.Reported)) (f : Standard)
      → MeantsMove z ms
      → standard_done g (moved_scope z s) at ms f ≡ map_ok (moved_stmt z) (standard_done g s at ms f)
  standard_done_moves s at ms Abs h = function_done_moves s at ms h
  standard_done_moves s at ms Cap h = function_done_moves s at ms h
  standard_done_moves s at ms Chr h = function_done_moves s at ms h
  standard_done_moves s at ms High h = function_done_moves s at ms h
  standard_done_moves s at ms Max h = function_done_moves s at ms h
  standard_done_moves s at ms Min h = function_done_moves s at ms h
  standard_done_moves s at ms Odd h = function_done_moves s at ms h
  standard_done_moves s at ms Ord h = function_done_moves s at ms h
  standard_done_moves s at ms Val h = function_done_moves s at ms h
  standard_done_moves s at ms Inc h = change_statement_moves s at Increase ms h
  standard_done_moves s at ms Dec h = change_statement_moves s at Decrease ms h
  standard_done_moves s at ms Incl h = member_by_moves s at Include ms h
  standard_done_moves s at ms Excl h = member_by_moves s at Exclude ms h
  standard_done_moves s at ms Halt h = halt_statement_moves s at ms h
  standard_done_moves s at ms Put h = put_by_moves s at ms h

  -- ---- calls

  pub callee_statement_moves : (s : Scope g.Reported) (at : Pos) (ms : List (Meant g.Reported)) (c : Called)
      → MeantsMove z ms
      → callee_statement g (moved_scope z s) at ms (moved_called z c)
      ≡ map_ok (moved_stmt z) (callee_statement g s at ms c)
  callee_statement_moves s at ms (called.Routine t c) h = routine_done_moves s at t c ms h
  callee_statement_moves s at ms (called.Standard f) h = standard_done_moves s at ms f h

  pub call_statement_moves : (s : Scope g.Reported) (m : Meant g.Reported) (ms : List (Meant g.Reported))
      → MeantMoves z m → MeantsMove z ms
      → call_statement g (moved_scope z s) m ms ≡ map_ok (moved_stmt z) (call_statement g s m ms)
  call_statement_moves s m ms h k =
      ap₂ (λ (a : Result Called g.Reported) (b : Result (Unit {0}) g.Reported). ahead g a b
      (callee_statement g (moved_scope z s) m.fixed.at ms))
      (ap (λ (u : Result Designated (Meaningless g.Reported)). of_heading u ▷ callee_of g (moved_types z s.types)
      m.fixed.at) (h.means s)
      ∙ (ap (λ (u : Result Designated g.Reported). u ▷ callee_of g (moved_types z s.types) m.fixed.at)
      (heading_moves (moved_designated z) (m.means s))
      ∙ then_moves (moved_designated z) (moved_called z) (of_heading (m.means s)) (callee_of g s.types m.fixed.at)
      (callee_of g (moved_types z s.types) m.fixed.at) (callee_of_moves z g s.types m.fixed.at)))
      (breaches_move z g s ms k)
      ∙ ahead_moves g (moved_called z) (moved_stmt z) (of_heading (m.means s) ▷ callee_of g s.types m.fixed.at)
      (breaches_in_all g s ms) (callee_statement g s m.fixed.at ms) (callee_statement g (moved_scope z s) m.fixed.at ms)
      (λ c. callee_statement_moves s m.fixed.at ms c k)
