-- Calls as statements.
use Rattle.std.specs.Prelude.{ℤ, pos, List, [], ◌∷◌, length, Result, Ok}
use Rattle.m2_rule.specs.declared.rule.Rule.TheVariants as rule
use Rattle.m2_tree.specs.declared.pos.Pos.{Pos}
use Rattle.typed_tree.specs.declared.types.TypeNo.{TypeNo}
use Rattle.typed_tree.specs.declared.computed.TypedExpr.{TypedExpr}
use Rattle.typed_tree.specs.declared.computed.TypedExpr.TheVariants as expr
use Rattle.typed_tree.specs.declared.computed.Argument.{Argument}
use Rattle.typed_tree.specs.declared.computed.Place.{Place}
use Rattle.typed_tree.specs.declared.meaning.Standard.{Standard}
use Rattle.typed_tree.specs.declared.meaning.Standard.TheVariants.{Abs, Cap, Chr, High, Max, Min, Odd, Ord, Val, Inc, Dec, Incl, Excl, Halt, Put}
use Rattle.typed_tree.specs.declared.statement.Change.{Change}
use Rattle.typed_tree.specs.declared.statement.Change.TheVariants.{Increase, Decrease}
use Rattle.typed_tree.specs.declared.statement.Membership.{Membership}
use Rattle.typed_tree.specs.declared.statement.Membership.TheVariants.{Include, Exclude}
use Rattle.typed_tree.specs.declared.statement.TypedStmt.{TypedStmt}
use Rattle.typed_tree.specs.declared.statement.TypedStmt.TheVariants as step
use Rattle.typed_tree.specs.Types.{cardinal}
use Rattle.check_scope.specs.Elaborated.{Gathers, reported_beside, ahead, of_sort, of_heading, ◌▷◌}
use Rattle.check_scope.specs.declared.scope.Scope.{Scope}
use Rattle.check_value.specs.Classes.{signature_at}
use Rattle.check_value.specs.declared.callee.Callee.{Callee}
use Rattle.check_value.specs.declared.callee.Called.{Called}
use Rattle.check_value.specs.declared.callee.Called.TheVariants as called
use Rattle.check_value.specs.Callees.{callee_of, proper_of, call_by}
use Rattle.check_value.specs.Effects.{change_target, amount, change_by, set_variable, set_element, membership_of, put}
use Rattle.check_expr.specs.Meanings.{Meant, value_of, breaches_in_all, wrong_count, actuals, formals_of}

abbrev pub call_done : {T : Type 0} → Callee → Result (List Argument) T → Result TypedStmt T
call_done c args = args ▷ λ xs. Ok (step.Call (call_by xs c))

module _ (g : Gathers) where
  abbrev pub routine_done : Scope g.Reported → Pos → TypeNo → Callee → List (Meant g.Reported)
      → Result TypedStmt g.Reported
  routine_done s at h c args =
      ahead g (proper_of g at (signature_at s.types h) (length args)) (breaches_in_all g s args)
      (λ fine. call_done c (actuals g s (formals_of (signature_at s.types h)) args))

  -- the variable of INC or DEC
  abbrev pub change_target_in : Scope g.Reported → Meant g.Reported
      → Result (TypeNo × Place) g.Reported
  change_target_in s v =
      of_sort g v.fixed.at rule.NoVariable (v.means s) ▷ change_target g s.types v.fixed.at

  -- by 1, if nothing is written
  abbrev pub change_statement : Scope g.Reported → Pos → Change → List (Meant g.Reported)
      → Result TypedStmt g.Reported
  change_statement s at o [] = wrong_count g s at []
  change_statement s at o (v ∷ []) =
      change_by g o (change_target_in s v) (Ok (expr.Constant cardinal (pos 1)))
  change_statement s at o (v ∷ n ∷ []) =
      change_by g o (change_target_in s v) (value_of g s n ▷ amount g n.fixed.at)
  change_statement s at o (v ∷ n ∷ x ∷ xs) = wrong_count g s at (v ∷ n ∷ x ∷ xs)

  -- the set of INCL or EXCL
  abbrev pub set_in : Scope g.Reported → Meant g.Reported → Result Place g.Reported
  set_in s v = of_sort g v.fixed.at rule.NoVariable (v.means s) ▷ set_variable g s.types v.fixed.at

  abbrev pub member_by : Scope g.Reported → Pos → Membership → List (Meant g.Reported)
      → Result TypedStmt g.Reported
  member_by s at o [] = wrong_count g s at []
  member_by s at o (v ∷ []) = wrong_count g s at (v ∷ [])
  member_by s at o (v ∷ n ∷ []) =
      membership_of g o (set_in s v) (value_of g s n ▷ set_element g n.fixed.at)
  member_by s at o (v ∷ n ∷ x ∷ xs) = wrong_count g s at (v ∷ n ∷ x ∷ xs)

  abbrev pub halt_statement : Scope g.Reported → Pos → List (Meant g.Reported)
      → Result TypedStmt g.Reported
  halt_statement s at [] = Ok step.Halt
  halt_statement s at (x ∷ xs) = wrong_count g s at (x ∷ xs)

  abbrev pub put_by : Scope g.Reported → Pos → List (Meant g.Reported) → Result TypedStmt g.Reported
  put_by s at [] = wrong_count g s at []
  put_by s at (x ∷ []) = value_of g s x ▷ put g s.types x.fixed.at
  put_by s at (x ∷ y ∷ xs) = wrong_count g s at (x ∷ y ∷ xs)

  -- functions are no statements
  abbrev pub function_done : Scope g.Reported → Pos → List (Meant g.Reported)
      → Result TypedStmt g.Reported
  function_done s at args = reported_beside g at rule.WrongType (breaches_in_all g s args)

  abbrev pub standard_done : Scope g.Reported → Pos → List (Meant g.Reported) → Standard
      → Result TypedStmt g.Reported
  standard_done s at args Abs = function_done s at args
  standard_done s at args Cap = function_done s at args
  standard_done s at args Chr = function_done s at args
  standard_done s at args High = function_done s at args
  standard_done s at args Max = function_done s at args
  standard_done s at args Min = function_done s at args
  standard_done s at args Odd = function_done s at args
  standard_done s at args Ord = function_done s at args
  standard_done s at args Val = function_done s at args
  standard_done s at args Inc = change_statement s at Increase args
  standard_done s at args Dec = change_statement s at Decrease args
  standard_done s at args Incl = member_by s at Include args
  standard_done s at args Excl = member_by s at Exclude args
  standard_done s at args Halt = halt_statement s at args
  standard_done s at args Put = put_by s at args

  abbrev pub callee_statement : Scope g.Reported → Pos → List (Meant g.Reported) → Called
      → Result TypedStmt g.Reported
  callee_statement s at args (called.Routine h c) = routine_done s at h c args
  callee_statement s at args (called.Standard f) = standard_done s at args f

  -- a call of a designator as a statement
  abbrev pub call_statement : Scope g.Reported → Meant g.Reported → List (Meant g.Reported)
      → Result TypedStmt g.Reported
  call_statement s d args =
      ahead g (of_heading (d.means s) ▷ callee_of g s.types d.fixed.at) (breaches_in_all g s args)
      (callee_statement s d.fixed.at args)
