-- What each variant of a statement means, from what its parts mean.
use Rattle.std.proofs.Common.{◌≡◌, List, [], ◌∷◌, Option, Some, None, Result, Ok, Err, refl, ap, ◌∙◌}
use Rattle.std.specs.Prelude.{map}
use Rattle.std.specs.List.{fold}
use Rattle.m2_tree.specs.declared.pos.Pos.{Pos}
use Rattle.m2_tree.specs.declared.name.Ident.{Ident}
use Rattle.m2_tree.specs.declared.expr.Expr.{Expr}
use Rattle.m2_tree.specs.declared.expr.Designator.{Designator}
use Rattle.m2_tree.specs.declared.stmt.Rest.{Rest, Rest-F, out-Rest, map-Rest, fold_out-Rest}
use Rattle.m2_tree.specs.declared.stmt.Rest.TheOpen as layer
use Rattle.m2_tree.specs.declared.stmt.Rest.TheVariants.{Elsif, Else, outs-Elsif, outs-Else}
use Rattle.m2_tree.specs.declared.stmt.Stmt.{Stmt, Stmt-F, out-Stmt, map-Stmt, fold_out-Stmt}
use Rattle.m2_tree.specs.declared.stmt.Stmt.TheVariants.{Assign, Call, If, Case, While, Repeat, Loop, Exit, Return, For, With, outs-Assign, outs-Call, outs-If, outs-Case, outs-While, outs-Repeat, outs-Loop, outs-Exit, outs-Return, outs-For, outs-With}
use Rattle.m2_tree.specs.declared.stmt.Arm.{Arm, Arm-F, out-Arm, map-Arm, fold_out-Arm}
use Rattle.typed_tree.specs.declared.types.TypeNo.{TypeNo}
use Rattle.typed_tree.specs.declared.computed.Place.{Place}
use Rattle.typed_tree.specs.declared.computed.TypedExpr.{TypedExpr}
use Rattle.typed_tree.specs.declared.statement.TypedStmt.{TypedStmt}
use Rattle.typed_tree.specs.declared.statement.TypedArm.{TypedArm}
use Rattle.m2_rule.specs.declared.breach.Breach.{Breach}
use Rattle.check_scope.specs.declared.scope.Scope.{Scope}
use Rattle.check_scope.specs.Elaborated.{least, refusal_beside, ahead}
use Rattle.check_expr.specs.Meanings.{meanings_of, head}
use Rattle.check_expr.specs.Effects.{call_statement}
use Rattle.check_stmt_parts.specs.declared.around.Around.{Around}
use Rattle.check_stmt_parts.specs.Lists.{standing, if_statement, chosen_else, base_in, case_statement, arm_of, repeated_while, repeated_until, loop_statement, within, reported_in}
use Rattle.check_stmt_parts.specs.Simple.{meant_if, in_loop, exit_statement, return_statement, condition, assignment, case_selector, record_of, opened_type, into_record, opened_if}
use Rattle.check_stmt_parts.specs.Ranges.{Range}
use Rattle.check_stmt_parts.specs.Labels.{labels_in}
use Rattle.check_stmt_parts.specs.Control.{course_of, repeated_for}
use Rattle.check_stmt.specs.Statements.{Elaborates, ElaboratesRest, ElaboratesArm, Arms, args_meant, with_stmt, with_arm, stmt_layer, rest_layer, arm_layer, stmt, rest, arm, statements, arms}

abbrev R : Type 0
R = ElaboratesRest Breach

abbrev S : Type 0
S = Elaborates Breach

abbrev A : Type 0
A = ElaboratesArm Breach

abbrev Steps : Type 0
Steps = Result (List TypedStmt) Breach

-- ---- a layer, each part of which has its meaning

abbrev open_stmt : Stmt-F Rest Stmt Arm → Stmt-F R S A
open_stmt x = map-Stmt Rest Stmt Arm R S A (rest least) (stmt least) (arm least) x

abbrev open_rest : Rest-F Rest Stmt Arm → Rest-F R S A
open_rest x = map-Rest Rest Stmt Arm R S A (rest least) (stmt least) (arm least) x

abbrev open_arm : Arm-F Rest Stmt Arm → Arm-F R S A
open_arm x = map-Arm Rest Stmt Arm R S A (rest least) (stmt least) (arm least) x

at : (e : Stmt) (x : Stmt-F Rest Stmt Arm) → out-Stmt e ≡ x → stmt least e ≡ stmt_layer least (open_stmt x)
unfolding stmt rest arm
at e x h = fold_out-Stmt R S A (rest_layer least) (stmt_layer least) (arm_layer least) e
    ∙ ap (λ (y : Stmt-F Rest Stmt Arm). stmt_layer least (open_stmt y)) h

at_rest : (e : Rest) (x : Rest-F Rest Stmt Arm) → out-Rest e ≡ x → rest least e ≡ rest_layer least (open_rest x)
unfolding stmt rest arm
at_rest e x h = fold_out-Rest R S A (rest_layer least) (stmt_layer least) (arm_layer least) e
    ∙ ap (λ (y : Rest-F Rest Stmt Arm). rest_layer least (open_rest y)) h

at_arm : (e : Arm) → arm least e ≡ arm_layer least (open_arm (out-Arm e))
unfolding stmt rest arm
at_arm e = fold_out-Arm R S A (rest_layer least) (stmt_layer least) (arm_layer least) e

-- ---- what each means, for the code

fold_mapped : {A X Y : Type 0} (f : A → Y → A) (h : X → Y) (a : A) (xs : List X)
    → fold f a (map h xs) ≡ fold (λ v x. f v (h x)) a xs
fold_mapped f h a [] = refl
fold_mapped f h a (x ∷ xs) = fold_mapped f h (f a (h x)) xs

module _ (s : Scope Breach) (w : Around Breach) where
  body_is : (xs : List Stmt) → fold (with_stmt least s w) (Ok []) (map (stmt least) xs) ≡ statements least s w xs
  body_is xs = fold_mapped (with_stmt least s w) (stmt least) (Ok []) xs

  pub is_Assign : (d : Designator) (e : Expr)
      → stmt least (Assign d e) s w ≡ assignment least s (head least d) (meanings_of least e)
  is_Assign d e = ap (λ (f : S). f s w) (at (Assign d e) (layer.Assign d e) (outs-Assign d e))

  pub is_Call : (d : Designator) (args : Option (List Expr))
      → stmt least (Call d args) s w ≡ call_statement least s (head least d) (args_meant least args)
  is_Call d args = ap (λ (f : S). f s w) (at (Call d args) (layer.Call d args) (outs-Call d args))

  pub is_If : (c : Expr) (body : List Stmt) (r : Rest)
      → stmt least (If c body r) s w ≡ if_statement least (condition least s (meanings_of least c))
      (statements least s w body) (rest least r s w)
  is_If c body r = ap (λ (f : S). f s w) (at (If c body r) (layer.If c body r) (outs-If c body r))
      ∙ ap (λ (x : Steps). if_statement least (condition least s (meanings_of least c)) x (rest least r s w))
      (body_is body)

  pub is_While : (c : Expr) (body : List Stmt)
      → stmt least (While c body) s w ≡ repeated_while least (condition least s (meanings_of least c))
      (statements least s w body)
  is_While c body = ap (λ (f : S). f s w) (at (While c body) (layer.While c body) (outs-While c body))
      ∙ ap (λ (x : Steps). repeated_while least (condition least s (meanings_of least c)) x) (body_is body)

  pub is_Repeat : (body : List Stmt) (c : Expr)
      → stmt least (Repeat body c) s w ≡ repeated_until least (statements least s w body)
      (condition least s (meanings_of least c))
  is_Repeat body c = ap (λ (f : S). f s w) (at (Repeat body c) (layer.Repeat body c) (outs-Repeat body c))
      ∙ ap (λ (x : Steps). repeated_until least x (condition least s (meanings_of least c))) (body_is body)

  pub is_Exit : (p : Pos) → stmt least (Exit p) s w ≡ exit_statement least p w
  is_Exit p = ap (λ (f : S). f s w) (at (Exit p) (layer.Exit p) (outs-Exit p))

  pub is_Return : (p : Pos) (e : Option Expr)
      → stmt least (Return p e) s w ≡ return_statement least s p w.gives (meant_if least e)
  is_Return p e = ap (λ (f : S). f s w) (at (Return p e) (layer.Return p e) (outs-Return p e))

  pub is_For : (name : Ident) (start limit : Expr) (by : Option Expr) (body : List Stmt) →
      stmt least (For name start limit by body) s w
      ≡ repeated_for least (course_of least s name (meanings_of least start) (meanings_of least limit)
      (meant_if least by)) (statements least s w body)
  is_For name start limit by body = ap (λ (f : S). f s w)
      (at (For name start limit by body) (layer.For name start limit by body) (outs-For name start limit by body))
      ∙ ap (λ (x : Steps). repeated_for least
      (course_of least s name (meanings_of least start) (meanings_of least limit) (meant_if least by)) x)
      (body_is body)

  arms_are : (base : Option TypeNo) (xs : List Arm)
      → (fold (with_arm least s w base) ([], Ok []) (map (arm least) xs)).1 ≡ arms least s w base xs
  arms_are base xs = ap (λ (st : Arms Breach). st.1) (fold_mapped (with_arm least s w base) (arm least) ([], Ok []) xs)

  pub is_Elsif : (c : Expr) (body : List Stmt) (r : Rest) →
      rest least (Elsif c body r) s w ≡ chosen_else
      (if_statement least (condition least s (meanings_of least c)) (statements least s w body) (rest least r s w))
  is_Elsif c body r = ap (λ (f : R). f s w) (at_rest (Elsif c body r) (layer.Elsif c body r) (outs-Elsif c body r))
      ∙ ap (λ (x : Steps). chosen_else (if_statement least (condition least s (meanings_of least c)) x
      (rest least r s w))) (body_is body)

  pub is_Else : rest least (Else None) s w ≡ Ok None
  is_Else = ap (λ (f : R). f s w) (at_rest (Else None) (layer.Else None) (outs-Else None))

  pub is_ElseSome : (body : List Stmt) → rest least (Else (Some body)) s w ≡ standing (statements least s w body)
  is_ElseSome body = ap (λ (f : R). f s w) (at_rest (Else (Some body)) (layer.Else (Some body)) (outs-Else (Some body)))
      ∙ ap (λ (x : Steps). standing x) (body_is body)

-- ---- what the parts decide

with_same : (e : Result (TypeNo × Place) Breach) (a b : Steps) (f h : TypeNo → Steps) → a ≡ b
    → ((t : TypeNo) → f t ≡ h t) → ahead least e (reported_in a) (λ r. within r.1 (f r.0))
    ≡ ahead least e (reported_in b) (λ r. within r.1 (h r.0))
with_same (Ok x) a b f h p q = ap (λ (y : Steps). within x.1 y) (q x.0)
with_same (Err e) a b f h p q = ap (λ (y : Steps). refusal_beside least {A = TypedStmt} e (reported_in y)) p

module _ (s : Scope Breach) (w : Around Breach) where
  pub is_Loop : (body : List Stmt) → stmt least (Loop body) s w ≡ loop_statement (statements least s (in_loop w) body)
  is_Loop body = ap (λ (f : S). f s w) (at (Loop body) (layer.Loop body) (outs-Loop body))
      ∙ ap (λ (x : Steps). loop_statement x) (body_is s (in_loop w) body)

  abbrev chosen_type : Expr → Result (TypeNo × TypedExpr) Breach
  chosen_type e = case_selector least s (meanings_of least e)

  pub is_Case : (e : Expr) (xs : List Arm)
      → stmt least (Case e xs None) s w ≡ case_statement least (case_selector least s (meanings_of least e))
      (arms least s w (base_in (case_selector least s (meanings_of least e))) xs) (Ok None)
  is_Case e xs = ap (λ (f : S). f s w) (at (Case e xs None) (layer.Case e xs None) (outs-Case e xs None))
      ∙ ap (λ (y : Result (List TypedArm) Breach). case_statement least (chosen_type e) y (Ok None))
      (arms_are s w (base_in (chosen_type e)) xs)

  pub is_CaseElse : (e : Expr) (xs : List Arm) (body : List Stmt) →
      stmt least (Case e xs (Some body)) s w
      ≡ case_statement least (case_selector least s (meanings_of least e))
      (arms least s w (base_in (case_selector least s (meanings_of least e))) xs)
      (standing (statements least s w body))
  is_CaseElse e xs body = ap (λ (f : S). f s w)
      (at (Case e xs (Some body)) (layer.Case e xs (Some body)) (outs-Case e xs (Some body)))
      ∙ ap (λ (y : Result (List TypedArm) Breach). case_statement least (chosen_type e) y
      (standing (fold (with_stmt least s w) (Ok []) (map (stmt least) body))))
      (arms_are s w (base_in (chosen_type e)) xs)
      ∙ ap (λ (x : Steps). case_statement least (chosen_type e) (arms least s w (base_in (chosen_type e)) xs)
      (standing x)) (body_is s w body)

  pub is_With : (d : Designator) (body : List Stmt) → stmt least (With d body) s w
      ≡ ahead least (record_of least s (head least d))
      (reported_in (statements least (opened_if s (opened_type least s d)) w body))
      (λ r. within r.1 (statements least (into_record s r.0) w body))
  is_With d body = ap (λ (f : S). f s w) (at (With d body) (layer.With d body) (outs-With d body))
      ∙ with_same (record_of least s (head least d)) _ _ _ (λ t. statements least (into_record s t) w body)
      (body_is (opened_if s (opened_type least s d)) w body) (λ t. body_is (into_record s t) w body)

  pub arm_is : (a : Arm) (base : Option TypeNo) (ranges : List Range) →
      arm least a s w base ranges ≡ (
        (labels_in least s base ranges (out-Arm a).labels).0,
        arm_of least
            (labels_in least s base ranges (out-Arm a).labels).1 (statements least s w (out-Arm a).body),
      )
  arm_is a base ranges = ap (λ (f : A). f s w base ranges) (at_arm a)
      ∙ ap (λ (x : Steps). (
        (labels_in least s base ranges (out-Arm a).labels).0,
        arm_of least
            (labels_in least s base ranges (out-Arm a).labels).1 x,
      )) (body_is s w (out-Arm a).body)

pub ruleset variants = (
  is_Assign,
  is_Call,
  is_If,
  is_Case,
  is_CaseElse,
  is_While,
  is_Repeat,
  is_Loop,
  is_Exit,
  is_Return,
  is_For,
  is_With,
  is_Elsif,
  is_Else,
  is_ElseSome,
)
