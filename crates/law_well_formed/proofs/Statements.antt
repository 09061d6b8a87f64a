-- Statements of bodies, by induction.
use Rattle.std.proofs.Common.{◌≡◌, ℕ, suc, Bool, List, [], ◌∷◌, ◌++◌, length, Option, Some, None, Result, Ok, refl, sym, ap, subst, ◌∙◌, arith}
use Rattle.std.specs.Prelude.{map}
use Rattle.std.specs.List.{fold}
use Rattle.std.proofs.lemmas.List.{length-append}
use Rattle.m2_tree.specs.declared.expr.Expr.{Expr}
use Rattle.m2_tree.specs.declared.stmt.Rest.{Rest, Rest-F, out-Rest, roll-Rest, out-roll-Rest, map-Rest, fold_out-Rest}
use Rattle.m2_tree.specs.declared.stmt.Rest.TheOpen as layer
use Rattle.m2_tree.specs.declared.stmt.Stmt.{Stmt, Stmt-F, out-Stmt, roll-Stmt, out-roll-Stmt, map-Stmt, fold_out-Stmt, ind-Stmt}
use Rattle.m2_tree.specs.declared.stmt.Arm.{Arm, Arm-F, out-Arm, roll-Arm, out-roll-Arm, map-Arm, fold_out-Arm}
use Rattle.typed_tree.specs.declared.computed.Place.{Place}
use Rattle.typed_tree.specs.declared.computed.TypedExpr.{TypedExpr}
use Rattle.typed_tree.specs.declared.statement.Label.{Label}
use Rattle.typed_tree.specs.declared.statement.TypedArm.{TypedArm}
use Rattle.typed_tree.specs.declared.statement.TypedStmt.{TypedStmt}
use Rattle.typed_tree.specs.declared.statement.TypedStmt.TheVariants as step
use Rattle.typed_tree.specs.declared.typed_module.TypedModule.{TypedModule}
use Rattle.typed_tree.specs.declared.types.TypeNo.{TypeNo}
use Rattle.check_scope.specs.Elaborated.{Gathers}
use Rattle.check_scope.specs.declared.scope.Scope.{Scope}
use Rattle.check_expr.specs.Meanings.{meanings_of, head}
use Rattle.def_scheme.specs.Exprs.{is_there}
use Rattle.law_modules.specs.WellFormed.{IsExpr, IsPlace, IsStmt, If, Case, While, Repeat, Loop, With, AreStmts, no_stmts, more_stmts, AreOthers, no_others, others, AreArms, no_arms, more_arms}
use Rattle.check_stmt_parts.specs.declared.around.Around.{Around}
use Rattle.check_stmt_parts.specs.Lists.{with_next, if_statement, chosen_else, base_in, case_statement, arm_of, repeated_while, repeated_until, loop_statement, within}
use Rattle.check_stmt_parts.specs.Ranges.{Range}
use Rattle.check_stmt_parts.specs.Labels.{labels_in}
use Rattle.check_stmt_parts.specs.Simple.{meant_if, in_loop, case_selector, into_record}
use Rattle.check_stmt.specs.Statements.{Elaborates, ElaboratesRest, ElaboratesArm, Arms, args_meant, with_stmt, all_of, all_if, with_arm, arms_of, stmt_layer, rest_layer, arm_layer, stmt, rest, arm, with_written, statements}
use Rattle.law_well_formed.specs.Formed.{Holds, fine, IsFormed}
use Rattle.law_well_formed.proofs.Basics.{then_holds, both_holds, ahead_holds, any_holds}
use Rattle.law_well_formed.proofs.Meanings.{AllM, meant_formed, head_formed}
use Rattle.law_well_formed.proofs.Effects.{assignment_formed, done_formed}
use Rattle.law_well_formed.proofs.StmtsSteps.{KnownIf, within_formed, record_formed, condition_formed, exited_formed, returned_formed, selected_formed, course_formed, for_formed}

-- ---- lists

stmts_more : (m : TypedModule) (gives : Bool) (w : ℕ) (l : Bool) (xs : List TypedStmt) (x : TypedStmt)
    → AreStmts m gives w l xs → IsStmt m gives w l x → AreStmts m gives w l (xs ++ x ∷ [])
stmts_more m gives w l _ x (no_stmts _ _) k = more_stmts w l x [] k (no_stmts w l)
stmts_more m gives w l _ x (more_stmts _ _ y ys p ps) k =
    more_stmts w l y (ys ++ x ∷ []) p (stmts_more m gives w l ys x ps k)

arms_more : (m : TypedModule) (gives : Bool) (w : ℕ) (l : Bool) (xs : List TypedArm) (x : TypedArm)
    → AreArms m gives w l xs → AreStmts m gives w l x.body → AreArms m gives w l (xs ++ x ∷ [])
arms_more m gives w l _ x (no_arms _ _) k = more_arms w l x [] k (no_arms w l)
arms_more m gives w l _ x (more_arms _ _ y ys p ps) k =
    more_arms w l y (ys ++ x ∷ []) p (arms_more m gives w l ys x ps k)

module _ (g : Gathers) (m : TypedModule) (opens : ℕ → Bool) where
  abbrev InScope : Scope g.Reported → Type 0
  InScope s = IsFormed g m opens (length s.withs) s

  abbrev Stmt_ : Scope g.Reported → Around g.Reported → Result TypedStmt g.Reported → Type 0
  Stmt_ s a r = Holds (IsStmt m (is_there a.gives) (length s.withs) a.in_loop) r

  abbrev Stmts_ : Scope g.Reported → Around g.Reported → Result (List TypedStmt) g.Reported → Type 0
  Stmts_ s a r = Holds (AreStmts m (is_there a.gives) (length s.withs) a.in_loop) r

  abbrev Others_ : Scope g.Reported → Around g.Reported → Result (Option (List TypedStmt)) g.Reported → Type 0
  Others_ s a r = Holds (AreOthers m (is_there a.gives) (length s.withs) a.in_loop) r

  abbrev Arms_ : Scope g.Reported → Around g.Reported → Result (List TypedArm) g.Reported → Type 0
  Arms_ s a r = Holds (AreArms m (is_there a.gives) (length s.withs) a.in_loop) r

  abbrev Arm_ : Scope g.Reported → Around g.Reported → Result TypedArm g.Reported → Type 0
  Arm_ s a r = Holds (λ x. AreStmts m (is_there a.gives) (length s.withs) a.in_loop x.body) r

  abbrev FormedElaborates : Elaborates g.Reported → Type 0
  FormedElaborates f = (s : Scope g.Reported) → InScope s → (a : Around g.Reported) → Stmt_ s a (f s a)

  abbrev FormedRest : ElaboratesRest g.Reported → Type 0
  FormedRest f = (s : Scope g.Reported) → InScope s → (a : Around g.Reported) → Others_ s a (f s a)

  abbrev FormedArm : ElaboratesArm g.Reported → Type 0
  FormedArm f = (s : Scope g.Reported) → InScope s
      → (a : Around g.Reported) (base : Option TypeNo) (ranges : List Range) → Arm_ s a (f s a base ranges).1

  abbrev AllJ : List (Elaborates g.Reported) → Type 0
  AllJ [] = Unit {0}
  AllJ (x ∷ xs) = FormedElaborates x × AllJ xs

  abbrev AllA : List (ElaboratesArm g.Reported) → Type 0
  AllA [] = Unit {0}
  AllA (x ∷ xs) = FormedArm x × AllA xs

  module _ (s : Scope g.Reported) (h : InScope s) (a : Around g.Reported) where
    next_stmt : {so : Result (List TypedStmt) g.Reported} {x : Result TypedStmt g.Reported} → Stmts_ s a so
        → Stmt_ s a x → Stmts_ s a (with_next g so x)
    next_stmt p q = then_holds (both_holds g p q)
        (λ v k. fine (v.0 ++ v.1 ∷ []) (stmts_more m (is_there a.gives) (length s.withs) a.in_loop v.0 v.1 k.0 k.1))

    next_arm : {so : Result (List TypedArm) g.Reported} {x : Result TypedArm g.Reported} → Arms_ s a so → Arm_ s a x
        → Arms_ s a (with_next g so x)
    next_arm p q = then_holds (both_holds g p q)
        (λ v k. fine (v.0 ++ v.1 ∷ []) (arms_more m (is_there a.gives) (length s.withs) a.in_loop v.0 v.1 k.0 k.1))

    from_stmts : (xs : List (Elaborates g.Reported)) (so : Result (List TypedStmt) g.Reported) → Stmts_ s a so → AllJ xs
        → Stmts_ s a (fold (with_stmt g s a) so xs)
    from_stmts [] so p all = p
    from_stmts (x ∷ xs) so p all = from_stmts xs (with_stmt g s a so x) (next_stmt p (all.0 s h a)) all.1

    all_formed : (xs : List (Elaborates g.Reported)) → AllJ xs → Stmts_ s a (all_of g s a xs)
    all_formed xs all = from_stmts xs (Ok []) (fine [] (no_stmts (length s.withs) a.in_loop)) all

    standing_formed : (xs : List (Elaborates g.Reported)) → AllJ xs → Others_ s a (all_if g s a (Some xs))
    standing_formed xs all = then_holds (all_formed xs all)
        (λ v k. fine (Some v) (others (length s.withs) a.in_loop v k))

    from_arms : (base : Option TypeNo) (xs : List (ElaboratesArm g.Reported)) (st : Arms g.Reported) → Arms_ s a st.1
        → AllA xs → Arms_ s a (fold (with_arm g s a base) st xs).1
    from_arms base [] st p all = p
    from_arms base (x ∷ xs) st p all = from_arms base xs (with_arm g s a base st x) (next_arm p (all.0 s h a base st.0))
        all.1

    all_arms : (base : Option TypeNo) (xs : List (ElaboratesArm g.Reported)) → AllA xs
        → Arms_ s a (arms_of g s a base xs)
    all_arms base xs all = from_arms base xs ([], Ok []) (fine [] (no_arms (length s.withs) a.in_loop)) all

    -- ---- statements around others

    abbrev Expr_ : Result TypedExpr g.Reported → Type 0
    Expr_ r = Holds (IsExpr m (length s.withs)) r

    chosen_formed : {c : Result TypedExpr g.Reported} {body : Result (List TypedStmt) g.Reported}
        {follow : Result (Option (List TypedStmt)) g.Reported} → Expr_ c → Stmts_ s a body → Others_ s a follow
        → Stmt_ s a (if_statement g c body follow)
    chosen_formed p q r = then_holds (both_holds g p (both_holds g q r))
        (λ v k. fine (step.If v.0 v.1.0 v.1.1) (If (length s.withs) a.in_loop v.0 v.1.0 v.1.1 k.0 k.1.0 k.1.1))

    chosen_else_formed : {x : Result TypedStmt g.Reported} → Stmt_ s a x → Others_ s a (chosen_else x)
    chosen_else_formed p = then_holds p (λ v k. fine (Some (v ∷ []))
        (others (length s.withs) a.in_loop (v ∷ [])
        (more_stmts (length s.withs) a.in_loop v [] k (no_stmts (length s.withs) a.in_loop))))

    abbrev Selector_ : Result (TypeNo × TypedExpr) g.Reported → Type 0
    Selector_ r = Holds (λ (x : TypeNo × TypedExpr). IsExpr m (length s.withs) x.1) r

    cased_formed : {e : Result (TypeNo × TypedExpr) g.Reported} {xs : Result (List TypedArm) g.Reported}
        {otherwise : Result (Option (List TypedStmt)) g.Reported} → Selector_ e → Arms_ s a xs → Others_ s a otherwise
        → Stmt_ s a (case_statement g e xs otherwise)
    cased_formed p q r = then_holds (both_holds g p (both_holds g q r))
        (λ v k. fine (step.Case v.0.1 v.1.0 v.1.1) (Case (length s.withs) a.in_loop v.0.1 v.1.0 v.1.1 k.0 k.1.0 k.1.1))

    while_formed : {c : Result TypedExpr g.Reported} {body : Result (List TypedStmt) g.Reported} → Expr_ c
        → Stmts_ s a body → Stmt_ s a (repeated_while g c body)
    while_formed p q = then_holds (both_holds g p q)
        (λ v k. fine (step.While v.0 v.1) (While (length s.withs) a.in_loop v.0 v.1 k.0 k.1))

    until_formed : {c : Result TypedExpr g.Reported} {body : Result (List TypedStmt) g.Reported} → Stmts_ s a body
        → Expr_ c → Stmt_ s a (repeated_until g body c)
    until_formed q p = then_holds (both_holds g q p)
        (λ v k. fine (step.Repeat v.0 v.1) (Repeat (length s.withs) a.in_loop v.0 v.1 k.0 k.1))

    looped_formed : {body : Result (List TypedStmt) g.Reported} → Stmts_ s (in_loop a) body
        → Stmt_ s a (loop_statement body)
    looped_formed p = then_holds p (λ v k. fine (step.Loop v) (Loop (length s.withs) a.in_loop v k))

    with_formed : (t : TypeNo) (d : Place) {body : Result (List TypedStmt) g.Reported} → IsPlace m (length s.withs) d
        → Holds (AreStmts m (is_there a.gives) (suc (length s.withs)) a.in_loop) body → Stmt_ s a (within d body)
    with_formed t d q p = then_holds p (λ v k. fine (step.With d v) (With (length s.withs) a.in_loop d v q k))

    -- ---- parts

    all_meant : (xs : List Expr) → AllM g m opens (length s.withs) s h (map (meanings_of g) xs)
    all_meant [] = tt
    all_meant (x ∷ xs) = (meant_formed g m opens (length s.withs) s h x, all_meant xs)

    args_formed : (o : Option (List Expr)) → AllM g m opens (length s.withs) s h (args_meant g o)
    args_formed None = tt
    args_formed (Some xs) = all_meant xs

    known_if : (o : Option Expr) → KnownIf g m opens (length s.withs) s h (meant_if g o)
    known_if None = tt
    known_if (Some e) = meant_formed g m opens (length s.withs) s h e

  opened_count : (s : Scope g.Reported) (t : TypeNo) → length (into_record s t).withs ≡ suc (length s.withs)
  opened_count s t = length-append s.withs _ ∙ omega arith

  -- ---- a layer, each part of which has its meaning

  abbrev PR : Rest → Type 0
  PR x = FormedRest (rest g x)

  abbrev PS : Stmt → Type 0
  PS x = FormedElaborates (stmt g x)

  abbrev PA : Arm → Type 0
  PA x = FormedArm (arm g x)

  abbrev SR : Type 0
  SR = (x : Rest) × PR x

  abbrev SS : Type 0
  SS = (x : Stmt) × PS x

  abbrev SA : Type 0
  SA = (x : Arm) × PA x

  abbrev opened_stmt : Stmt-F Rest Stmt Arm
      → Stmt-F (ElaboratesRest g.Reported) (Elaborates g.Reported) (ElaboratesArm g.Reported)
  opened_stmt x = map-Stmt Rest Stmt Arm (ElaboratesRest g.Reported) (Elaborates g.Reported) (ElaboratesArm g.Reported)
      (rest g) (stmt g) (arm g) x

  abbrev opened_rest : Rest-F Rest Stmt Arm
      → Rest-F (ElaboratesRest g.Reported) (Elaborates g.Reported) (ElaboratesArm g.Reported)
  opened_rest x = map-Rest Rest Stmt Arm (ElaboratesRest g.Reported) (Elaborates g.Reported) (ElaboratesArm g.Reported)
      (rest g) (stmt g) (arm g) x

  abbrev opened_arm : Arm-F Rest Stmt Arm
      → Arm-F (ElaboratesRest g.Reported) (Elaborates g.Reported) (ElaboratesArm g.Reported)
  opened_arm x = map-Arm Rest Stmt Arm (ElaboratesRest g.Reported) (Elaborates g.Reported) (ElaboratesArm g.Reported)
      (rest g) (stmt g) (arm g) x

  at_stmt : (e : Stmt) (x : Stmt-F Rest Stmt Arm) → out-Stmt e ≡ x → stmt g e ≡ stmt_layer g (opened_stmt x)
  unfolding stmt rest arm
  at_stmt e x h = fold_out-Stmt (ElaboratesRest g.Reported) (Elaborates g.Reported) (ElaboratesArm g.Reported)
      (rest_layer g) (stmt_layer g) (arm_layer g) e ∙ ap (λ (y : Stmt-F Rest Stmt Arm). stmt_layer g (opened_stmt y)) h

  at_rest : (e : Rest) (x : Rest-F Rest Stmt Arm) → out-Rest e ≡ x → rest g e ≡ rest_layer g (opened_rest x)
  unfolding stmt rest arm
  at_rest e x h = fold_out-Rest (ElaboratesRest g.Reported) (Elaborates g.Reported) (ElaboratesArm g.Reported)
      (rest_layer g) (stmt_layer g) (arm_layer g) e ∙ ap (λ (y : Rest-F Rest Stmt Arm). rest_layer g (opened_rest y)) h

  at_arm : (e : Arm) (x : Arm-F Rest Stmt Arm) → out-Arm e ≡ x → arm g e ≡ arm_layer g (opened_arm x)
  unfolding stmt rest arm
  at_arm e x h = fold_out-Arm (ElaboratesRest g.Reported) (Elaborates g.Reported) (ElaboratesArm g.Reported)
      (rest_layer g) (stmt_layer g) (arm_layer g) e ∙ ap (λ (y : Arm-F Rest Stmt Arm). arm_layer g (opened_arm y)) h

  -- ---- a layer of parts for which it is known

  abbrev bare_stmt : Stmt-F SR SS SA → Stmt-F Rest Stmt Arm
  bare_stmt x = map-Stmt SR SS SA Rest Stmt Arm (λ e. e.0) (λ e. e.0) (λ e. e.0) x

  abbrev bare_rest : Rest-F SR SS SA → Rest-F Rest Stmt Arm
  bare_rest x = map-Rest SR SS SA Rest Stmt Arm (λ e. e.0) (λ e. e.0) (λ e. e.0) x

  abbrev bare_arm : Arm-F SR SS SA → Arm-F Rest Stmt Arm
  bare_arm x = map-Arm SR SS SA Rest Stmt Arm (λ e. e.0) (λ e. e.0) (λ e. e.0) x

  elaborated : (xs : List SS) → AllJ (map (stmt g) (map (λ (e : SS). e.0) xs))
  elaborated [] = tt
  elaborated (x ∷ xs) = (x.1, elaborated xs)

  armed_all : (xs : List SA) → AllA (map (arm g) (map (λ (e : SA). e.0) xs))
  armed_all [] = tt
  armed_all (x ∷ xs) = (x.1, armed_all xs)

  abbrev elaborates_of : List SS → List (Elaborates g.Reported)
  elaborates_of xs = map (stmt g) (map (λ (e : SS). e.0) xs)

  body_formed : (s : Scope g.Reported) (h : InScope s) (a : Around g.Reported) (xs : List SS)
      → Stmts_ s a (all_of g s a (elaborates_of xs))
  body_formed s h a xs = all_formed s h a (elaborates_of xs) (elaborated xs)

  else_formed : (s : Scope g.Reported) (h : InScope s) (a : Around g.Reported) (xs : List SS)
      → Others_ s a (all_if g s a (Some (elaborates_of xs)))
  else_formed s h a xs = standing_formed s h a (elaborates_of xs) (elaborated xs)

  no_else : (s : Scope g.Reported) (a : Around g.Reported) → Others_ s a (all_if g s a None)
  no_else s a = fine None (no_others (length s.withs) a.in_loop)

  inner_formed : (s : Scope g.Reported) (h : InScope s) (a : Around g.Reported) (t : TypeNo) (xs : List SS)
      → Holds (AreStmts m (is_there a.gives) (suc (length s.withs)) a.in_loop)
      (all_of g (into_record s t) a (elaborates_of xs))
  inner_formed s h a t xs =
      subst (λ (w : ℕ). Holds (AreStmts m (is_there a.gives) w a.in_loop)
      (all_of g (into_record s t) a (elaborates_of xs))) (opened_count s t)
      (body_formed (into_record s t) (subst (λ (w : ℕ). IsFormed g m opens w (into_record s t)) (sym (opened_count s t))
      (within_formed g m opens (length s.withs) s h t refl)) a xs)

  stmt_formed_layer : (y : Stmt-F SR SS SA) → FormedElaborates (stmt_layer g (opened_stmt (bare_stmt y)))
  stmt_formed_layer (layer.Assign d e) = λ s h a. assignment_formed g m opens (length s.withs) s h (is_there a.gives)
      a.in_loop (head g d) (meanings_of g e).fixed.at (meanings_of g e) (head_formed g m opens (length s.withs) s h d)
      (meant_formed g m opens (length s.withs) s h e)
  stmt_formed_layer (layer.Call d args) =
      λ s h a. done_formed g m opens (length s.withs) s h (is_there a.gives) a.in_loop (head g d) (args_meant g args)
      (head_formed g m opens (length s.withs) s h d) (args_formed s h a args)
  stmt_formed_layer (layer.If c body follow) =
      λ s h a. chosen_formed s h a (condition_formed g m opens (length s.withs) s h (meanings_of g c)
      (meant_formed g m opens (length s.withs) s h c)) (body_formed s h a body) (follow.1 s h a)
  stmt_formed_layer (layer.Case e arms None) =
      λ s h a. cased_formed s h a (selected_formed g m opens (length s.withs) s h (meanings_of g e)
      (meant_formed g m opens (length s.withs) s h e))
      (all_arms s h a (base_in (case_selector g s (meanings_of g e))) (map (arm g) (map (λ (e : SA). e.0) arms))
      (armed_all arms)) (no_else s a)
  stmt_formed_layer (layer.Case e arms (Some body)) =
      λ s h a. cased_formed s h a (selected_formed g m opens (length s.withs) s h (meanings_of g e)
      (meant_formed g m opens (length s.withs) s h e))
      (all_arms s h a (base_in (case_selector g s (meanings_of g e))) (map (arm g) (map (λ (e : SA). e.0) arms))
      (armed_all arms)) (else_formed s h a body)
  stmt_formed_layer (layer.While c body) =
      λ s h a. while_formed s h a (condition_formed g m opens (length s.withs) s h (meanings_of g c)
      (meant_formed g m opens (length s.withs) s h c)) (body_formed s h a body)
  stmt_formed_layer (layer.Repeat body c) =
      λ s h a. until_formed s h a (body_formed s h a body)
      (condition_formed g m opens (length s.withs) s h (meanings_of g c)
      (meant_formed g m opens (length s.withs) s h c))
  stmt_formed_layer (layer.Loop body) = λ s h a. looped_formed s h a (body_formed s h (in_loop a) body)
  stmt_formed_layer (layer.Exit at) = λ s h a. exited_formed g m opens (length s.withs) s h at a
  stmt_formed_layer (layer.Return at e) =
      λ s h a. returned_formed g m opens (length s.withs) s h at a.in_loop a.gives (meant_if g e) (known_if s h a e)
  stmt_formed_layer (layer.For name start limit by body) =
      λ s h a. for_formed g m opens (length s.withs) s h (is_there a.gives) a.in_loop
      (course_formed g m opens (length s.withs) s h name (meanings_of g start) (meanings_of g limit) (meant_if g by)
      (meant_formed g m opens (length s.withs) s h start) (meant_formed g m opens (length s.withs) s h limit))
      (body_formed s h a body)
  stmt_formed_layer (layer.With d body) =
      λ s h a. ahead_holds g _ (record_formed g m opens (length s.withs) s h (head g d)
      (head_formed g m opens (length s.withs) s h d)) (λ r k. with_formed s h a r.0 r.1 k (inner_formed s h a r.0 body))

  rest_formed_layer : (y : Rest-F SR SS SA) → FormedRest (rest_layer g (opened_rest (bare_rest y)))
  rest_formed_layer (layer.Elsif c body follow) =
      λ s h a. chosen_else_formed s h a (chosen_formed s h a
      (condition_formed g m opens (length s.withs) s h (meanings_of g c)
      (meant_formed g m opens (length s.withs) s h c)) (body_formed s h a body) (follow.1 s h a))
  rest_formed_layer (layer.Else None) = λ s h a. no_else s a
  rest_formed_layer (layer.Else (Some body)) = λ s h a. else_formed s h a body

  armed_formed : (s : Scope g.Reported) (a : Around g.Reported) (labels : Result (List Label) g.Reported)
      {body : Result (List TypedStmt) g.Reported} → Stmts_ s a body → Arm_ s a (arm_of g labels body)
  armed_formed s a labels p = then_holds (both_holds g (any_holds labels) p)
      (λ v k. fine (record { labels = v.0; body = v.1 }) k.1)

  arm_formed_layer : (y : Arm-F SR SS SA) → FormedArm (arm_layer g (opened_arm (bare_arm y)))
  arm_formed_layer y = λ s h a base ranges. armed_formed s a (labels_in g s base ranges y.labels).1
      (body_formed s h a y.body)

  -- ---- the induction

  step_rest : (x : Rest-F Rest Stmt Arm) (y : Rest-F SR SS SA) → bare_rest y ≡ x → PR (roll-Rest x)
  step_rest x y q = subst FormedRest (sym (at_rest (roll-Rest x) (bare_rest y) (out-roll-Rest x ∙ sym q)))
      (rest_formed_layer y)

  step_stmt : (x : Stmt-F Rest Stmt Arm) (y : Stmt-F SR SS SA) → bare_stmt y ≡ x → PS (roll-Stmt x)
  step_stmt x y q = subst FormedElaborates (sym (at_stmt (roll-Stmt x) (bare_stmt y) (out-roll-Stmt x ∙ sym q)))
      (stmt_formed_layer y)

  step_arm : (x : Arm-F Rest Stmt Arm) (y : Arm-F SR SS SA) → bare_arm y ≡ x → PA (roll-Arm x)
  step_arm x y q = subst FormedArm (sym (at_arm (roll-Arm x) (bare_arm y) (out-roll-Arm x ∙ sym q)))
      (arm_formed_layer y)

  pub stmt_formed : (x : Stmt) → PS x
  stmt_formed = ind-Stmt PR PS PA step_rest step_stmt step_arm

  from_written : (s : Scope g.Reported) (h : InScope s) (a : Around g.Reported) (xs : List Stmt)
      (so : Result (List TypedStmt) g.Reported) → Stmts_ s a so → Stmts_ s a (fold (with_written g s a) so xs)
  from_written s h a [] so p = p
  from_written s h a (x ∷ xs) so p = from_written s h a xs (with_written g s a so x)
      (next_stmt s h a p (stmt_formed x s h a))

  pub statements_formed : (s : Scope g.Reported) → InScope s → (a : Around g.Reported) (xs : List Stmt)
      → Stmts_ s a (statements g s a xs)
  statements_formed s h a xs = from_written s h a xs (Ok []) (fine [] (no_stmts (length s.withs) a.in_loop))
