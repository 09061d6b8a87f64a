-- Statements of bodies, by induction.
use Rattle.std.proofs.Common.{◌≡◌, ℕ, Bool, true, ◌&&◌, List, [], ◌∷◌, ◌++◌, length, Option, Some, None, Result, Ok, Err, sym, ap, subst, ◌∙◌}
use Rattle.std.specs.Prelude.{map}
use Rattle.std.specs.List.{fold, list_all}
use Rattle.m2_tree.specs.declared.expr.Expr.{Expr}
use Rattle.m2_tree.specs.declared.stmt.Rest.{Rest, Rest-F, out-Rest, roll-Rest, out-roll-Rest, map-Rest, fold_out-Rest}
use Rattle.m2_tree.specs.declared.stmt.Rest.TheOpen as layer
use Rattle.m2_tree.specs.declared.stmt.Stmt.{Stmt, Stmt-F, out-Stmt, roll-Stmt, out-roll-Stmt, map-Stmt, fold_out-Stmt, ind-Stmt}
use Rattle.m2_tree.specs.declared.stmt.Arm.{Arm, Arm-F, out-Arm, roll-Arm, out-roll-Arm, map-Arm, fold_out-Arm}
use Rattle.typed_tree.specs.declared.computed.Place.{Place}
use Rattle.typed_tree.specs.declared.computed.TypedExpr.{TypedExpr}
use Rattle.typed_tree.specs.declared.known_types.Types.{Types}
use Rattle.typed_tree.specs.declared.statement.Label.{Label}
use Rattle.typed_tree.specs.declared.statement.TypedArm.{TypedArm}
use Rattle.typed_tree.specs.declared.statement.TypedStmt.{TypedStmt}
use Rattle.typed_tree.specs.declared.statement.TypedStmt.TheVariants as step
use Rattle.typed_tree.specs.declared.types.TypeNo.{TypeNo}
use Rattle.check_scope.specs.Elaborated.{Gathers, both}
use Rattle.check_scope.specs.declared.scope.Scope.{Scope}
use Rattle.check_expr.specs.Meanings.{meanings_of, head, value_of}
use Rattle.layout_storage.specs.Types.{Ty}
use Rattle.layout_storage.specs.Shapes.{tree}
use Rattle.law_simulation.specs.Scene.{AreLabels}
use Rattle.law_simulation.specs.Passing.{Result as Gives}
use Rattle.law_simulation.specs.TreesTyped.{Context}
use Rattle.law_well_formed.specs.Formed.{Holds, fine, broken}
use Rattle.law_well_formed.proofs.Basics.{then_holds, holds_weaker, both_holds, ahead_holds, any_holds}
use Rattle.law_well_formed.specs.FormedRanges.{itself, ScopeRanged}
use Rattle.law_well_formed.proofs.RangesTypes.{both_left, both_right}
use Rattle.law_programs.specs.Typing.{fits_whole, fits_head, PlaceTyped, ValueTyped, IsTyped, ExpressionsAreTyped, DesignatorsAreTyped}
use Rattle.law_programs.proofs.Operators.{SomeTyped}
use Rattle.law_programs.proofs.Meanings.{AllM, value_typed}
use Rattle.check_stmt_parts.specs.declared.around.Around.{Around}
use Rattle.check_stmt_parts.specs.Ranges.{Range}
use Rattle.check_stmt_parts.specs.Lists.{with_next, if_statement, chosen_else, base_in, case_statement, arm_of, repeated_while, repeated_until, loop_statement, within}
use Rattle.check_stmt_parts.specs.Simple.{condition, meant_if, in_loop, into_record}
use Rattle.check_stmt.specs.Statements.{Elaborates, ElaboratesRest, ElaboratesArm, Arms, args_meant, with_stmt, all_of, all_if, with_arm, arms_of, stmt_layer, rest_layer, arm_layer, stmt, rest, arm, with_written, statements}
use Rattle.law_programs.specs.TypingStmts.{fits_if, all_fit, fits_step, fits_label, fits_stmt_layer, fits_rest_layer, fits_arm_layer, fits_rest, fits_stmt, fits_arm, StmtTyped, StmtsTyped, AreReturned, StatementsAreTyped}
use Rattle.law_programs.proofs.StmtsConstructs.{TestTyped, EachTyped, each_more, all_typed, ArmTyped, ArmsTyped, arms_more, if_typed, if_else_typed, case_typed, case_else_typed, while_typed, repeat_typed, loop_typed, with_typed}
use Rattle.law_programs.proofs.Within.{within_typed, within_count, within_ranged}
use Rattle.law_programs.proofs.StmtsSteps.{record_typed, condition_typed, selected_typed, exited_typed, ValueIf, returned_typed, course_typed, repeated_for_typed}
use Rattle.law_programs.proofs.Labels.{labels_typed}
use Rattle.law_programs.proofs.Effects.{assignment_typed, done_typed}

-- what is known of a scope within WITHs of records of these types
pub record InScope (g : Gathers) (x : Context) (opens : ℕ → Bool) (ws : List Ty) (s : Scope g.Reported) : Type 0 where
  pub typed : IsTyped g x ws opens s
  pub ranged : ScopeRanged s
  pub count : length ws ≡ length s.withs

module _ (g : Gathers) (exprs : ExpressionsAreTyped g) (heads : DesignatorsAreTyped g) (x : Context) (opens : ℕ → Bool)
    (result : Gives) where
  abbrev types : Types
  types = x.home.types

  abbrev In : List Ty → Scope g.Reported → Type 0
  In ws s = InScope g x opens ws s

  abbrev Stmt_ : List Ty → Around g.Reported → Result TypedStmt g.Reported → Type 0
  Stmt_ ws a r = Holds (StmtTyped x result ws a.in_loop) r

  abbrev Stmts_ : List Ty → Around g.Reported → Result (List TypedStmt) g.Reported → Type 0
  Stmts_ ws a r = Holds (EachTyped x result ws a.in_loop) r

  abbrev OthersTyped : List Ty → Bool → Option (List TypedStmt) → Type 0
  OthersTyped ws l None = Unit {0}
  OthersTyped ws l (Some ss) = EachTyped x result ws l ss

  abbrev Others_ : List Ty → Around g.Reported → Result (Option (List TypedStmt)) g.Reported → Type 0
  Others_ ws a r = Holds (OthersTyped ws a.in_loop) r

  abbrev Arms_ : List Ty → Around g.Reported → Result (List TypedArm) g.Reported → Type 0
  Arms_ ws a r = Holds (ArmsTyped x result ws a.in_loop) r

  abbrev Arm_ : List Ty → Around g.Reported → Result TypedArm g.Reported → Type 0
  Arm_ ws a r = Holds (ArmTyped x result ws a.in_loop) r

  abbrev Returned : Around g.Reported → Type 0
  Returned a = AreReturned types a.gives result

  abbrev TypedElaborates : Elaborates g.Reported → Type 0
  TypedElaborates f = (ws : List Ty) (s : Scope g.Reported) → In ws s → (a : Around g.Reported) → Returned a
      → Stmt_ ws a (f s a)

  abbrev TypedRest : ElaboratesRest g.Reported → Type 0
  TypedRest f = (ws : List Ty) (s : Scope g.Reported) → In ws s → (a : Around g.Reported) → Returned a
      → Others_ ws a (f s a)

  abbrev TypedArms : ElaboratesArm g.Reported → Type 0
  TypedArms f = (ws : List Ty) (s : Scope g.Reported) → In ws s → (a : Around g.Reported) → Returned a
      → (base : TypeNo) (ranges : List Range) → Arm_ ws a (f s a (Some base) ranges).1

  abbrev AllJ : List (Elaborates g.Reported) → Type 0
  AllJ [] = Unit {0}
  AllJ (y ∷ ys) = TypedElaborates y × AllJ ys

  abbrev AllA : List (ElaboratesArm g.Reported) → Type 0
  AllA [] = Unit {0}
  AllA (y ∷ ys) = TypedArms y × AllA ys

  module _ (ws : List Ty) (s : Scope g.Reported) (h : In ws s) (a : Around g.Reported) (e : Returned a) where
    next_stmt : {so : Result (List TypedStmt) g.Reported} {r : Result TypedStmt g.Reported} → Stmts_ ws a so
        → Stmt_ ws a r → Stmts_ ws a (with_next g so r)
    next_stmt p q = then_holds (both_holds g p q)
        (λ v k. fine (v.0 ++ v.1 ∷ []) (each_more x result ws a.in_loop v.0 v.1 k.0 k.1))

    next_arm : {so : Result (List TypedArm) g.Reported} {r : Result TypedArm g.Reported} → Arms_ ws a so → Arm_ ws a r
        → Arms_ ws a (with_next g so r)
    next_arm p q = then_holds (both_holds g p q)
        (λ v k. fine (v.0 ++ v.1 ∷ []) (arms_more x result ws a.in_loop v.0 v.1 k.0 k.1))

    from_stmts : (ys : List (Elaborates g.Reported)) (so : Result (List TypedStmt) g.Reported) → Stmts_ ws a so
        → AllJ ys → Stmts_ ws a (fold (with_stmt g s a) so ys)
    from_stmts [] so p all = p
    from_stmts (y ∷ ys) so p all = from_stmts ys (with_stmt g s a so y) (next_stmt p (all.0 ws s h a e)) all.1

    all_stmts : (ys : List (Elaborates g.Reported)) → AllJ ys → Stmts_ ws a (all_of g s a ys)
    all_stmts ys all = from_stmts ys (Ok []) (fine [] tt) all

    standing_typed : (ys : List (Elaborates g.Reported)) → AllJ ys → Others_ ws a (all_if g s a (Some ys))
    standing_typed ys all = then_holds (all_stmts ys all) (λ v k. fine (Some v) k)

    from_arms : (base : TypeNo) (ys : List (ElaboratesArm g.Reported)) (st : Arms g.Reported) → Arms_ ws a st.1
        → AllA ys → Arms_ ws a (fold (with_arm g s a (Some base)) st ys).1
    from_arms base [] st p all = p
    from_arms base (y ∷ ys) st p all = from_arms base ys (with_arm g s a (Some base) st y)
        (next_arm p (all.0 ws s h a e base st.0)) all.1

    all_arms : (base : TypeNo) (ys : List (ElaboratesArm g.Reported)) → AllA ys
        → Arms_ ws a (arms_of g s a (Some base) ys)
    all_arms base ys all = from_arms base ys ([], Ok []) (fine [] tt) all

    -- ---- statements around others

    abbrev Test_ : Result TypedExpr g.Reported → Type 0
    Test_ r = Holds (λ y. TestTyped x ws y) r

    chosen_as : (c : TypedExpr) (body : List TypedStmt) (o : Option (List TypedStmt)) → TestTyped x ws c
        → EachTyped x result ws a.in_loop body → OthersTyped ws a.in_loop o
        → StmtTyped x result ws a.in_loop (step.If c body o)
    chosen_as c body None p q r = if_typed x result ws a.in_loop c body p q
    chosen_as c body (Some others) p q r = if_else_typed x result ws a.in_loop c body others p q r

    chosen_typed : {c : Result TypedExpr g.Reported} {body : Result (List TypedStmt) g.Reported}
        {follow : Result (Option (List TypedStmt)) g.Reported} → Test_ c → Stmts_ ws a body → Others_ ws a follow
        → Stmt_ ws a (if_statement g c body follow)
    chosen_typed p q r = then_holds (both_holds g p (both_holds g q r))
        (λ v k. fine (step.If v.0 v.1.0 v.1.1) (chosen_as v.0 v.1.0 v.1.1 k.0 k.1.0 k.1.1))

    chosen_else_typed : {r : Result TypedStmt g.Reported} → Stmt_ ws a r → Others_ ws a (chosen_else r)
    chosen_else_typed p = then_holds p (λ v k. fine (Some (v ∷ [])) (k, tt))

    cased_as : (c : TypedExpr) (arms : List TypedArm) (o : Option (List TypedStmt)) → SomeTyped x ws h.typed.all c
        → ArmsTyped x result ws a.in_loop arms → OthersTyped ws a.in_loop o
        → StmtTyped x result ws a.in_loop (step.Case c arms o)
    cased_as c arms None p q r = case_typed x result ws a.in_loop p.of c arms p.typed q
    cased_as c arms (Some others) p q r = case_else_typed x result ws a.in_loop p.of c arms others p.typed q r

    abbrev SelectorTyped : TypeNo × TypedExpr → Type 0
    SelectorTyped r = SomeTyped x ws h.typed.all r.1

    the_selector : (z : TypeNo × TypedExpr) → SelectorTyped z → Holds {T = g.Reported} SelectorTyped (Ok z)
    the_selector z k = fine z k

    no_selector : (d : g.Reported) → Holds {A = TypeNo × TypedExpr} (λ z. ⊥) (Err d)
    no_selector d = broken d

    -- arms without a selector are looked at, but there is no statement
    cased_typed : {c : Result (TypeNo × TypedExpr) g.Reported} (arms : List (ElaboratesArm g.Reported))
        {otherwise : Result (Option (List TypedStmt)) g.Reported} → Holds SelectorTyped c → AllA arms
        → Others_ ws a otherwise → Stmt_ ws a (case_statement g c (arms_of g s a (base_in c) arms) otherwise)
    cased_typed arms (fine z j) all r = then_holds
        (both_holds g (the_selector z j) (both_holds g (all_arms z.0 arms all) r))
        (λ v k. fine (step.Case v.0.1 v.1.0 v.1.1) (cased_as v.0.1 v.1.0 v.1.1 k.0 k.1.0 k.1.1))
    cased_typed arms {otherwise = otherwise} (broken d) all r =
        then_holds (both_holds g (no_selector d) (any_holds (both g (arms_of g s a None arms) otherwise)))
        (λ v k. absurd k.0)

    while_all : {c : Result TypedExpr g.Reported} {body : Result (List TypedStmt) g.Reported} → Test_ c
        → Stmts_ ws a body → Stmt_ ws a (repeated_while g c body)
    while_all p q = then_holds (both_holds g p q)
        (λ v k. fine (step.While v.0 v.1) (while_typed x result ws a.in_loop v.0 v.1 k.0 k.1))

    until_all : {c : Result TypedExpr g.Reported} {body : Result (List TypedStmt) g.Reported} → Stmts_ ws a body
        → Test_ c → Stmt_ ws a (repeated_until g body c)
    until_all q p = then_holds (both_holds g q p)
        (λ v k. fine (step.Repeat v.0 v.1) (repeat_typed x result ws a.in_loop v.0 v.1 k.0 k.1))

    looped_typed : {body : Result (List TypedStmt) g.Reported} → Stmts_ ws (in_loop a) body
        → Stmt_ ws a (loop_statement body)
    looped_typed p = then_holds p (λ v k. fine (step.Loop v) (loop_typed x result ws a.in_loop v k))

    within_all : (t : Ty) (d : Place) {body : Result (List TypedStmt) g.Reported} → PlaceTyped x ws d t
        → Stmts_ (ws ++ t ∷ []) a body → Stmt_ ws a (within d body)
    within_all t d q p = then_holds p (λ v k. fine (step.With d v) (with_typed x result ws a.in_loop t d v q k))

    -- ---- parts

    args_all : (ys : List Expr) → list_all fits_whole ys ≡ true → AllM g x ws opens s h.typed (map (meanings_of g) ys)
    args_all [] f = tt
    args_all (y ∷ ys) f = (
      exprs x ws opens s h.typed y (both_left (fits_whole y) (list_all fits_whole ys) f),
      args_all
          ys (both_right (fits_whole y) (list_all fits_whole ys) f),
    )

    args_typed : (o : Option (List Expr)) → all_fit o ≡ true → AllM g x ws opens s h.typed (args_meant g o)
    args_typed None f = tt
    args_typed (Some ys) f = args_all ys f

    value_if : (o : Option Expr) → fits_if o ≡ true → ValueIf g x ws opens s h.typed result (meant_if g o)
    value_if None f = tt
    value_if (Some y) f = value_typed g x ws opens s h.typed (meanings_of g y) (exprs x ws opens s h.typed y f)

    test_typed : (y : Expr) → fits_whole y ≡ true → Test_ (condition g s (meanings_of g y))
    test_typed y f = condition_typed g x ws opens s h.typed (meanings_of g y).fixed.at
        (value_typed g x ws opens s h.typed (meanings_of g y) (exprs x ws opens s h.typed y f))

  inner_scope : (ws : List Ty) (s : Scope g.Reported) (t : TypeNo) → In ws s
      → In (ws ++ tree types t ∷ []) (into_record s t)
  inner_scope ws s t h = record {
    typed = within_typed g x ws opens s h.typed h.count t;
    ranged = within_ranged s t h.ranged;
    count = within_count g x ws opens s h.typed h.count t;
  }

  -- ---- a layer, each part of which has its meaning

  abbrev PR : Rest → Type 0
  PR y = fits_rest y ≡ true → TypedRest (rest g y)

  abbrev PS : Stmt → Type 0
  PS y = fits_stmt y ≡ true → TypedElaborates (stmt g y)

  abbrev PA : Arm → Type 0
  PA y = fits_arm y ≡ true → TypedArms (arm g y)

  abbrev SR : Type 0
  SR = (y : Rest) × PR y

  abbrev SS : Type 0
  SS = (y : Stmt) × PS y

  abbrev SA : Type 0
  SA = (y : Arm) × PA y

  abbrev opened_stmt : Stmt-F Rest Stmt Arm
      → Stmt-F (ElaboratesRest g.Reported) (Elaborates g.Reported) (ElaboratesArm g.Reported)
  opened_stmt y = map-Stmt Rest Stmt Arm (ElaboratesRest g.Reported) (Elaborates g.Reported) (ElaboratesArm g.Reported)
      (rest g) (stmt g) (arm g) y

  abbrev opened_rest : Rest-F Rest Stmt Arm
      → Rest-F (ElaboratesRest g.Reported) (Elaborates g.Reported) (ElaboratesArm g.Reported)
  opened_rest y = map-Rest Rest Stmt Arm (ElaboratesRest g.Reported) (Elaborates g.Reported) (ElaboratesArm g.Reported)
      (rest g) (stmt g) (arm g) y

  abbrev opened_arm : Arm-F Rest Stmt Arm
      → Arm-F (ElaboratesRest g.Reported) (Elaborates g.Reported) (ElaboratesArm g.Reported)
  opened_arm y = map-Arm Rest Stmt Arm (ElaboratesRest g.Reported) (Elaborates g.Reported) (ElaboratesArm g.Reported)
      (rest g) (stmt g) (arm g) y

  at_stmt : (e : Stmt) (y : Stmt-F Rest Stmt Arm) → out-Stmt e ≡ y → stmt g e ≡ stmt_layer g (opened_stmt y)
  unfolding stmt rest arm
  at_stmt e y h = fold_out-Stmt (ElaboratesRest g.Reported) (Elaborates g.Reported) (ElaboratesArm g.Reported)
      (rest_layer g) (stmt_layer g) (arm_layer g) e ∙ ap (λ (z : Stmt-F Rest Stmt Arm). stmt_layer g (opened_stmt z)) h

  at_rest : (e : Rest) (y : Rest-F Rest Stmt Arm) → out-Rest e ≡ y → rest g e ≡ rest_layer g (opened_rest y)
  unfolding stmt rest arm
  at_rest e y h = fold_out-Rest (ElaboratesRest g.Reported) (Elaborates g.Reported) (ElaboratesArm g.Reported)
      (rest_layer g) (stmt_layer g) (arm_layer g) e ∙ ap (λ (z : Rest-F Rest Stmt Arm). rest_layer g (opened_rest z)) h

  at_arm : (e : Arm) (y : Arm-F Rest Stmt Arm) → out-Arm e ≡ y → arm g e ≡ arm_layer g (opened_arm y)
  unfolding stmt rest arm
  at_arm e y h = fold_out-Arm (ElaboratesRest g.Reported) (Elaborates g.Reported) (ElaboratesArm g.Reported)
      (rest_layer g) (stmt_layer g) (arm_layer g) e ∙ ap (λ (z : Arm-F Rest Stmt Arm). arm_layer g (opened_arm z)) h

  -- ---- the same of what fits

  abbrev fit_stmt : Stmt-F Rest Stmt Arm → Stmt-F Bool Bool Bool
  fit_stmt y = map-Stmt Rest Stmt Arm Bool Bool Bool fits_rest fits_stmt fits_arm y

  abbrev fit_rest : Rest-F Rest Stmt Arm → Rest-F Bool Bool Bool
  fit_rest y = map-Rest Rest Stmt Arm Bool Bool Bool fits_rest fits_stmt fits_arm y

  abbrev fit_arm : Arm-F Rest Stmt Arm → Arm-F Bool Bool Bool
  fit_arm y = map-Arm Rest Stmt Arm Bool Bool Bool fits_rest fits_stmt fits_arm y

  fit_stmt_at : (e : Stmt) (y : Stmt-F Rest Stmt Arm) → out-Stmt e ≡ y → fits_stmt e ≡ fits_stmt_layer (fit_stmt y)
  unfolding fits_stmt fits_rest fits_arm
  fit_stmt_at e y h = fold_out-Stmt Bool Bool Bool fits_rest_layer fits_stmt_layer fits_arm_layer e
      ∙ ap (λ (z : Stmt-F Rest Stmt Arm). fits_stmt_layer (fit_stmt z)) h

  fit_rest_at : (e : Rest) (y : Rest-F Rest Stmt Arm) → out-Rest e ≡ y → fits_rest e ≡ fits_rest_layer (fit_rest y)
  unfolding fits_stmt fits_rest fits_arm
  fit_rest_at e y h = fold_out-Rest Bool Bool Bool fits_rest_layer fits_stmt_layer fits_arm_layer e
      ∙ ap (λ (z : Rest-F Rest Stmt Arm). fits_rest_layer (fit_rest z)) h

  fit_arm_at : (e : Arm) (y : Arm-F Rest Stmt Arm) → out-Arm e ≡ y → fits_arm e ≡ fits_arm_layer (fit_arm y)
  unfolding fits_stmt fits_rest fits_arm
  fit_arm_at e y h = fold_out-Arm Bool Bool Bool fits_rest_layer fits_stmt_layer fits_arm_layer e
      ∙ ap (λ (z : Arm-F Rest Stmt Arm). fits_arm_layer (fit_arm z)) h

  -- ---- a layer of parts for which it is known

  abbrev bare_stmt : Stmt-F SR SS SA → Stmt-F Rest Stmt Arm
  bare_stmt y = map-Stmt SR SS SA Rest Stmt Arm (λ e. e.0) (λ e. e.0) (λ e. e.0) y

  abbrev bare_rest : Rest-F SR SS SA → Rest-F Rest Stmt Arm
  bare_rest y = map-Rest SR SS SA Rest Stmt Arm (λ e. e.0) (λ e. e.0) (λ e. e.0) y

  abbrev bare_arm : Arm-F SR SS SA → Arm-F Rest Stmt Arm
  bare_arm y = map-Arm SR SS SA Rest Stmt Arm (λ e. e.0) (λ e. e.0) (λ e. e.0) y

  abbrev elaborates_of : List SS → List (Elaborates g.Reported)
  elaborates_of ys = map (stmt g) (map (λ (e : SS). e.0) ys)

  abbrev fits_of : List SS → List Bool
  fits_of ys = map fits_stmt (map (λ (e : SS). e.0) ys)

  abbrev arms_elaborated : List SA → List (ElaboratesArm g.Reported)
  arms_elaborated ys = map (arm g) (map (λ (e : SA). e.0) ys)

  abbrev arms_fit : List SA → List Bool
  arms_fit ys = map fits_arm (map (λ (e : SA). e.0) ys)

  elaborated : (ys : List SS) → list_all itself (fits_of ys) ≡ true → AllJ (elaborates_of ys)
  elaborated [] f = tt
  elaborated (y ∷ ys) f = (
    y.1 (both_left (fits_stmt y.0) (list_all itself (fits_of ys)) f),
    elaborated ys
        (both_right (fits_stmt y.0) (list_all itself (fits_of ys)) f),
  )

  armed_all : (ys : List SA) → list_all itself (arms_fit ys) ≡ true → AllA (arms_elaborated ys)
  armed_all [] f = tt
  armed_all (y ∷ ys) f = (
    y.1 (both_left (fits_arm y.0) (list_all itself (arms_fit ys)) f),
    armed_all ys
        (both_right (fits_arm y.0) (list_all itself (arms_fit ys)) f),
  )

  body_typed : (ys : List SS) → list_all itself (fits_of ys) ≡ true → (ws : List Ty) (s : Scope g.Reported) → In ws s
      → (a : Around g.Reported) → Returned a → Stmts_ ws a (all_of g s a (elaborates_of ys))
  body_typed ys f ws s h a e = all_stmts ws s h a e (elaborates_of ys) (elaborated ys f)

  abbrev FitsLayer : Stmt-F SR SS SA → Type 0
  FitsLayer y = fits_stmt_layer (fit_stmt (bare_stmt y)) ≡ true

  value_typed_of : (ws : List Ty) (s : Scope g.Reported) (h : In ws s) (y : Expr) → fits_whole y ≡ true
      → Holds (ValueTyped x ws) (value_of g s (meanings_of g y))
  value_typed_of ws s h y f = value_typed g x ws opens s h.typed (meanings_of g y) (exprs x ws opens s h.typed y f)

  stmt_layer_typed : (y : Stmt-F SR SS SA) → FitsLayer y → TypedElaborates (stmt_layer g (opened_stmt (bare_stmt y)))
  stmt_layer_typed (layer.Assign d e) f = λ ws s h a r.
      assignment_typed g x ws opens s h.typed result a.in_loop (head g d) (meanings_of g e).fixed.at (meanings_of g e)
      (heads x ws opens s h.typed d (both_left (fits_head d) (fits_whole e) f))
      (exprs x ws opens s h.typed e (both_right (fits_head d) (fits_whole e) f))
  stmt_layer_typed (layer.Call d args) f = λ ws s h a r.
      done_typed g x ws opens s h.typed result a.in_loop (head g d) (args_meant g args)
      (heads x ws opens s h.typed d (both_left (fits_head d) (all_fit args) f))
      (args_typed ws s h a r args (both_right (fits_head d) (all_fit args) f))
  stmt_layer_typed (layer.If c body follow) f = λ ws s h a r.
      let k = both_right (fits_whole c) (list_all itself (fits_of body) && fits_rest follow.0) f in
      chosen_typed ws s h a r (test_typed ws s h a r c
      (both_left (fits_whole c) (list_all itself (fits_of body) && fits_rest follow.0) f))
      (body_typed body (both_left (list_all itself (fits_of body)) (fits_rest follow.0) k) ws s h a r)
      (follow.1 (both_right (list_all itself (fits_of body)) (fits_rest follow.0) k) ws s h a r)
  stmt_layer_typed (layer.Case e arms None) f = λ ws s h a r.
      let k = both_right (fits_whole e) (list_all itself (arms_fit arms) && true) f in
      cased_typed ws s h a r (arms_elaborated arms)
      (selected_typed g x ws opens s h.typed (meanings_of g e)
      (value_typed_of ws s h e (both_left (fits_whole e) (list_all itself (arms_fit arms) && true) f)))
      (armed_all arms (both_left (list_all itself (arms_fit arms)) true k)) (fine None tt)
  stmt_layer_typed (layer.Case e arms (Some body)) f = λ ws s h a r.
      let k = both_right (fits_whole e) (list_all itself (arms_fit arms) && list_all itself (fits_of body)) f in
      cased_typed ws s h a r (arms_elaborated arms)
      (selected_typed g x ws opens s h.typed (meanings_of g e)
      (value_typed_of ws s h e (both_left (fits_whole e)
      (list_all itself (arms_fit arms) && list_all itself (fits_of body)) f)))
      (armed_all arms (both_left (list_all itself (arms_fit arms)) (list_all itself (fits_of body)) k))
      (standing_typed ws s h a r (elaborates_of body)
      (elaborated body (both_right (list_all itself (arms_fit arms)) (list_all itself (fits_of body)) k)))
  stmt_layer_typed (layer.While c body) f = λ ws s h a r.
      while_all ws s h a r (test_typed ws s h a r c (both_left (fits_whole c) (list_all itself (fits_of body)) f))
      (body_typed body (both_right (fits_whole c) (list_all itself (fits_of body)) f) ws s h a r)
  stmt_layer_typed (layer.Repeat body c) f = λ ws s h a r.
      until_all ws s h a r (body_typed body (both_left (list_all itself (fits_of body)) (fits_whole c) f) ws s h a r)
      (test_typed ws s h a r c (both_right (list_all itself (fits_of body)) (fits_whole c) f))
  stmt_layer_typed (layer.Loop body) f = λ ws s h a r. looped_typed ws s h a r (body_typed body f ws s h (in_loop a) r)
  stmt_layer_typed (layer.Exit at) f = λ ws s h a r. exited_typed g x ws opens s h.typed result at a
  stmt_layer_typed (layer.Return at e) f =
      λ ws s h a r. returned_typed g x ws opens s h.typed result at a.in_loop a.gives (meant_if g e) r
      (value_if ws s h a r e f)
  stmt_layer_typed (layer.For name start limit by body) f = λ ws s h a r.
      let k = both_right (fits_whole start) (fits_whole limit && (fits_step by && list_all itself (fits_of body))) f in
      let j = both_right (fits_whole limit) (fits_step by && list_all itself (fits_of body)) k in
      repeated_for_typed g x ws opens s h.typed h.ranged result a.in_loop
      (course_typed g x ws opens s h.typed h.ranged name (meanings_of g start) (meanings_of g limit) by
      (both_left (fits_step by) (list_all itself (fits_of body)) j)
      (value_typed_of ws s h start (both_left (fits_whole start)
      (fits_whole limit && (fits_step by && list_all itself (fits_of body))) f))
      (value_typed_of ws s h limit (both_left (fits_whole limit) (fits_step by && list_all itself (fits_of body))
      k)))
      (body_typed body (both_right (fits_step by) (list_all itself (fits_of body)) j) ws s h a r)
  stmt_layer_typed (layer.With d body) f = λ ws s h a r.
      ahead_holds g _ (record_typed g x ws opens s h.typed (head g d)
      (heads x ws opens s h.typed d (both_left (fits_head d) (list_all itself (fits_of body)) f))) (λ z j.
      within_all ws s h a r (tree types z.0) z.1 j
      (body_typed body (both_right (fits_head d) (list_all itself (fits_of body)) f) (ws ++ tree types z.0 ∷ [])
      (into_record s z.0) (inner_scope ws s z.0 h) a r))

  rest_layer_typed : (y : Rest-F SR SS SA) → fits_rest_layer (fit_rest (bare_rest y)) ≡ true
      → TypedRest (rest_layer g (opened_rest (bare_rest y)))
  rest_layer_typed (layer.Elsif c body follow) f = λ ws s h a r.
      let k = both_right (fits_whole c) (list_all itself (fits_of body) && fits_rest follow.0) f in
      chosen_else_typed ws s h a r
      (chosen_typed ws s h a r (test_typed ws s h a r c
      (both_left (fits_whole c) (list_all itself (fits_of body) && fits_rest follow.0) f))
      (body_typed body (both_left (list_all itself (fits_of body)) (fits_rest follow.0) k) ws s h a r)
      (follow.1 (both_right (list_all itself (fits_of body)) (fits_rest follow.0) k) ws s h a r))
  rest_layer_typed (layer.Else None) f = λ ws s h a r. fine None tt
  rest_layer_typed (layer.Else (Some body)) f =
      λ ws s h a r. standing_typed ws s h a r (elaborates_of body) (elaborated body f)

  armed_typed : (ws : List Ty) (a : Around g.Reported) {labels : Result (List Label) g.Reported}
      {body : Result (List TypedStmt) g.Reported} → Holds AreLabels labels → Stmts_ ws a body
      → Arm_ ws a (arm_of g labels body)
  armed_typed ws a p q = then_holds (both_holds g p q)
      (λ v k. fine (record { labels = v.0; body = v.1 }) (record { labels = k.0; body = k.1 }))

  arm_layer_typed : (y : Arm-F SR SS SA) → fits_arm_layer (fit_arm (bare_arm y)) ≡ true
      → TypedArms (arm_layer g (opened_arm (bare_arm y)))
  arm_layer_typed y f = λ ws s h a r base ranges.
      armed_typed ws a (labels_typed g x ws opens s h.typed exprs base ranges y.labels
      (both_left (list_all fits_label y.labels) (list_all itself (fits_of y.body)) f))
      (body_typed y.body (both_right (list_all fits_label y.labels) (list_all itself (fits_of y.body)) f) ws s h a r)

  -- ---- the induction

  step_rest : (y : Rest-F Rest Stmt Arm) (z : Rest-F SR SS SA) → bare_rest z ≡ y → PR (roll-Rest y)
  step_rest y z q =
      let is : out-Rest (roll-Rest y) ≡ bare_rest z = out-roll-Rest y ∙ sym q in λ e.
      subst TypedRest (sym (at_rest (roll-Rest y) (bare_rest z) is))
      (rest_layer_typed z (sym (fit_rest_at (roll-Rest y) (bare_rest z) is) ∙ e))

  step_stmt : (y : Stmt-F Rest Stmt Arm) (z : Stmt-F SR SS SA) → bare_stmt z ≡ y → PS (roll-Stmt y)
  step_stmt y z q =
      let is : out-Stmt (roll-Stmt y) ≡ bare_stmt z = out-roll-Stmt y ∙ sym q in λ e.
      subst TypedElaborates (sym (at_stmt (roll-Stmt y) (bare_stmt z) is))
      (stmt_layer_typed z (sym (fit_stmt_at (roll-Stmt y) (bare_stmt z) is) ∙ e))

  step_arm : (y : Arm-F Rest Stmt Arm) (z : Arm-F SR SS SA) → bare_arm z ≡ y → PA (roll-Arm y)
  step_arm y z q =
      let is : out-Arm (roll-Arm y) ≡ bare_arm z = out-roll-Arm y ∙ sym q in λ e.
      subst TypedArms (sym (at_arm (roll-Arm y) (bare_arm z) is))
      (arm_layer_typed z (sym (fit_arm_at (roll-Arm y) (bare_arm z) is) ∙ e))

  pub stmt_typed : (y : Stmt) → PS y
  stmt_typed = ind-Stmt PR PS PA step_rest step_stmt step_arm

  module _ (ws : List Ty) (s : Scope g.Reported) (h : In ws s) (a : Around g.Reported) (r : Returned a) where
    from_written : (ys : List Stmt) (so : Result (List TypedStmt) g.Reported) → list_all fits_stmt ys ≡ true
        → Stmts_ ws a so → Stmts_ ws a (fold (with_written g s a) so ys)
    from_written [] so f p = p
    from_written (y ∷ ys) so f p =
        from_written ys (with_written g s a so y) (both_right (fits_stmt y) (list_all fits_stmt ys) f)
        (next_stmt ws s h a r p (stmt_typed y (both_left (fits_stmt y) (list_all fits_stmt ys) f) ws s h a r))

    pub written_typed : (ys : List Stmt) → list_all fits_stmt ys ≡ true
        → Holds (StmtsTyped x result ws a.in_loop) (statements g s a ys)
    written_typed ys f = then_weaker (from_written ys (Ok []) f (fine [] tt)) where
      then_weaker : {so : Result (List TypedStmt) g.Reported} → Stmts_ ws a so
          → Holds (StmtsTyped x result ws a.in_loop) so
      then_weaker p = holds_weaker (λ ss k. all_typed x result ws a.in_loop ss k) p

pub statements_typed : (g : Gathers) → ExpressionsAreTyped g → DesignatorsAreTyped g → StatementsAreTyped g
statements_typed g exprs heads x ws opens s h ranged count a result r ys f =
    written_typed g exprs heads x opens result ws s (record { typed = h; ranged = ranged; count = count }) a r ys f
