-- How many addresses each variant of a statement needs, from those of its parts.
use Rattle.std.proofs.Common.{◌≡◌, ℕ, ℤ, ◌+◌, List, map, Some, None, ap, ◌∙◌, add-zero, arith, suc}
use Rattle.typed_tree.specs.declared.types.TypeNo.{TypeNo}
use Rattle.typed_tree.specs.declared.computed.Place.{Place}
use Rattle.typed_tree.specs.declared.computed.TypedExpr.{TypedExpr}
use Rattle.typed_tree.specs.declared.computed.Call.{Call}
use Rattle.typed_tree.specs.declared.statement.Change.{Change}
use Rattle.typed_tree.specs.declared.statement.Membership.{Membership}
use Rattle.typed_tree.specs.declared.statement.TypedStmt.{TypedStmt, TypedStmt-F, out-TypedStmt, map-TypedStmt, fold_out-TypedStmt}
use Rattle.typed_tree.specs.declared.statement.TypedStmt.TheOpen as sl
use Rattle.typed_tree.specs.declared.statement.TypedStmt.TheVariants as sv
use Rattle.typed_tree.specs.declared.statement.TypedArm.{TypedArm, fold_out-TypedArm}
use Rattle.def_scheme.specs.Addresses.{total, step_layer, arm_layer, addresses_of, addresses_armed, addresses_in}

abbrev opened : TypedStmt-F TypedStmt TypedArm → TypedStmt-F ℕ ℕ
opened x = map-TypedStmt TypedStmt TypedArm ℕ ℕ addresses_of addresses_armed x

at : (e : TypedStmt) (x : TypedStmt-F TypedStmt TypedArm) → out-TypedStmt e ≡ x → addresses_of e ≡ step_layer (opened x)
unfolding addresses_of addresses_armed
at e x h = fold_out-TypedStmt ℕ ℕ step_layer arm_layer e
    ∙ ap (λ (y : TypedStmt-F TypedStmt TypedArm). step_layer (opened y)) h

pub arm_is : (x : TypedArm) → addresses_armed x ≡ addresses_in x.body
unfolding addresses_of addresses_armed
arm_is x = fold_out-TypedArm ℕ ℕ step_layer arm_layer x

one_more : (n : ℕ) → suc n ≡ 1 + n
one_more n = omega arith

abbrev arms_in : List TypedArm → ℕ
arms_in xs = total (map addresses_armed xs)

pub stmt_Assign : (d : Place) (t : TypeNo) (e : TypedExpr) → addresses_of (sv.Assign d t e) ≡ 0
stmt_Assign d t e = at (sv.Assign d t e) (sl.Assign d t e) (sv.outs-Assign d t e)

pub stmt_Copy : (a b : Place) (t : TypeNo) → addresses_of (sv.Copy a b t) ≡ 0
stmt_Copy a b t = at (sv.Copy a b t) (sl.Copy a b t) (sv.outs-Copy a b t)

pub stmt_CopyText : (d : Place) (t : TypeNo) (text : List ℕ) → addresses_of (sv.CopyText d t text) ≡ 1
stmt_CopyText d t text = at (sv.CopyText d t text) (sl.CopyText d t text) (sv.outs-CopyText d t text)

pub stmt_Call : (c : Call) → addresses_of (sv.Call c) ≡ 0
stmt_Call c = at (sv.Call c) (sl.Call c) (sv.outs-Call c)

pub stmt_Put : (e : TypedExpr) → addresses_of (sv.Put e) ≡ 0
stmt_Put e = at (sv.Put e) (sl.Put e) (sv.outs-Put e)

pub stmt_Change : (o : Change) (d : Place) (t : TypeNo) (e : TypedExpr) → addresses_of (sv.Change o d t e) ≡ 1
stmt_Change o d t e = at (sv.Change o d t e) (sl.Change o d t e) (sv.outs-Change o d t e)

pub stmt_Membership : (o : Membership) (d : Place) (e : TypedExpr) → addresses_of (sv.Membership o d e) ≡ 1
stmt_Membership o d e = at (sv.Membership o d e) (sl.Membership o d e) (sv.outs-Membership o d e)

pub stmt_Halt : addresses_of sv.Halt ≡ 0
stmt_Halt = at sv.Halt sl.Halt sv.outs-Halt

pub stmt_If_None : (e : TypedExpr) (xs : List TypedStmt) → addresses_of (sv.If e xs None) ≡ addresses_in xs
stmt_If_None e xs = at (sv.If e xs None) (sl.If e xs None) (sv.outs-If e xs None) ∙ add-zero (addresses_in xs)

pub stmt_If_Some : (e : TypedExpr) (xs ys : List TypedStmt)
    → addresses_of (sv.If e xs (Some ys)) ≡ addresses_in xs + addresses_in ys
stmt_If_Some e xs ys = at (sv.If e xs (Some ys)) (sl.If e xs (Some ys)) (sv.outs-If e xs (Some ys))

pub stmt_Case_None : (e : TypedExpr) (xs : List TypedArm) → addresses_of (sv.Case e xs None) ≡ arms_in xs
stmt_Case_None e xs = at (sv.Case e xs None) (sl.Case e xs None) (sv.outs-Case e xs None) ∙ add-zero (arms_in xs)

pub stmt_Case_Some : (e : TypedExpr) (xs : List TypedArm) (ys : List TypedStmt)
    → addresses_of (sv.Case e xs (Some ys)) ≡ arms_in xs + addresses_in ys
stmt_Case_Some e xs ys = at (sv.Case e xs (Some ys)) (sl.Case e xs (Some ys)) (sv.outs-Case e xs (Some ys))

pub stmt_While : (e : TypedExpr) (xs : List TypedStmt) → addresses_of (sv.While e xs) ≡ addresses_in xs
stmt_While e xs = at (sv.While e xs) (sl.While e xs) (sv.outs-While e xs)

pub stmt_Repeat : (xs : List TypedStmt) (e : TypedExpr) → addresses_of (sv.Repeat xs e) ≡ addresses_in xs
stmt_Repeat xs e = at (sv.Repeat xs e) (sl.Repeat xs e) (sv.outs-Repeat xs e)

pub stmt_Loop : (xs : List TypedStmt) → addresses_of (sv.Loop xs) ≡ addresses_in xs
stmt_Loop xs = at (sv.Loop xs) (sl.Loop xs) (sv.outs-Loop xs)

pub stmt_Exit : addresses_of sv.Exit ≡ 0
stmt_Exit = at sv.Exit sl.Exit sv.outs-Exit

pub stmt_Return : addresses_of sv.Return ≡ 0
stmt_Return = at sv.Return sl.Return sv.outs-Return

pub stmt_Give : (t : TypeNo) (e : TypedExpr) → addresses_of (sv.Give t e) ≡ 0
stmt_Give t e = at (sv.Give t e) (sl.Give t e) (sv.outs-Give t e)

pub stmt_For : (d : Place) (t : TypeNo) (a b : TypedExpr) (n : ℤ) (xs : List TypedStmt)
    → addresses_of (sv.For d t a b n xs) ≡ addresses_in xs
stmt_For d t a b n xs = at (sv.For d t a b n xs) (sl.For d t a b n xs) (sv.outs-For d t a b n xs)

pub stmt_With : (d : Place) (xs : List TypedStmt) → addresses_of (sv.With d xs) ≡ 1 + addresses_in xs
stmt_With d xs = at (sv.With d xs) (sl.With d xs) (sv.outs-With d xs) ∙ one_more (addresses_in xs)

-- all of these
pub ruleset variants = (
  stmt_Assign,
  stmt_Copy,
  stmt_CopyText,
  stmt_Call,
  stmt_Put,
  stmt_Change,
  stmt_Membership,
  stmt_Halt,
  stmt_If_None,
  stmt_If_Some,
  stmt_Case_None,
  stmt_Case_Some,
  stmt_While,
  stmt_Repeat,
  stmt_Loop,
  stmt_Exit,
  stmt_Return,
  stmt_Give,
  stmt_For,
  stmt_With,
  arm_is,
)
