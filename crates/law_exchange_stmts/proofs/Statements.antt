-- Statements mean the same with other numbers of modules.
use Rattle.std.proofs.Common.{◌≡◌, List, [], ◌∷◌, fold, map, Option, Some, None, option_map, refl, sym, ap, ap₂, subst, ◌∙◌}
use Rattle.std.specs.Prelude.{Result, Ok}
use Rattle.m2_tree.specs.declared.expr.Expr.{Expr}
use Rattle.m2_tree.specs.declared.expr.Designator.{Designator}
use Rattle.m2_tree.specs.declared.stmt.Arm.{Arm, Arm-F, out-Arm, roll-Arm, out-roll-Arm, map-Arm, fold_out-Arm, ind-Arm}
use Rattle.m2_tree.specs.declared.stmt.Rest.{Rest, Rest-F, out-Rest, roll-Rest, out-roll-Rest, map-Rest, fold_out-Rest, ind-Rest}
use Rattle.m2_tree.specs.declared.stmt.Rest.TheOpen as layer
use Rattle.m2_tree.specs.declared.stmt.Stmt.{Stmt, Stmt-F, out-Stmt, roll-Stmt, out-roll-Stmt, map-Stmt, fold_out-Stmt, ind-Stmt}
use Rattle.typed_tree.specs.declared.types.TypeNo.{TypeNo}
use Rattle.typed_tree.specs.declared.computed.Place.{Place}
use Rattle.typed_tree.specs.declared.computed.TypedExpr.{TypedExpr}
use Rattle.typed_tree.specs.declared.statement.Label.{Label}
use Rattle.typed_tree.specs.declared.statement.TypedArm.{TypedArm}
use Rattle.typed_tree.specs.declared.statement.TypedStmt.{TypedStmt}
use Rattle.check_scope.specs.Elaborated.{Gathers, ahead}
use Rattle.check_scope.specs.declared.scope.Scope.{Scope}
use Rattle.check_expr.specs.Meanings.{meanings_of, head}
use Rattle.check_stmt_parts.specs.declared.around.Around.{Around}
use Rattle.check_stmt_parts.specs.Control.{course_of, repeated_for}
use Rattle.check_stmt_parts.specs.Labels.{labels_in}
use Rattle.check_stmt_parts.specs.Lists.{with_next, standing, if_statement, chosen_else, base_in, case_statement, arm_of, repeated_while, repeated_until, loop_statement, within, reported_in}
use Rattle.check_stmt_parts.specs.Ranges.{Range}
use Rattle.check_stmt_parts.specs.Simple.{meant_if, in_loop, condition, case_selector, or_none, record_of, opened_type, opened_if, into_record}
use Rattle.check_stmt.specs.Statements.{Elaborates, ElaboratesRest, ElaboratesArm, Arms, args_meant, with_stmt, all_of, all_if, with_arm, arms_of, case_of, with_of, stmt_layer, rest_layer, arm_layer, rest, stmt, arm, with_written, statements, with_written_arm, arms}
use Rattle.def_exchange.specs.Moved.{Exchange, moved_type}
use Rattle.law_exchange_types.specs.Pieces.{map_ok, moved_pair}
use Rattle.law_exchange_types.specs.Scopes.{moved_scope}
use Rattle.law_exchange_types.specs.Trees.{moved_expr, moved_place}
use Rattle.law_exchange_types.proofs.Basics.{ahead_moves}
use Rattle.law_exchange_exprs.proofs.Given.{expressions_given, designators_given, arguments_given, calls_given}
use Rattle.law_exchange_exprs.specs.Steps.{moved_stmt, moved_arm}
use Rattle.law_exchange_stmts.specs.MovedStatements.{moved_around}
use Rattle.law_exchange_stmts.proofs.Around.{with_next_moves, standing_moves, if_statement_moves, chosen_else_moves, base_in_moves, case_statement_moves, arm_of_moves, repeated_while_moves, repeated_until_moves, loop_statement_moves, within_moves, reported_in_moves}
use Rattle.law_exchange_stmts.proofs.Control.{repeated_for_moves}
use Rattle.law_exchange_stmts.proofs.Entering.{Alike, none_alike}
use Rattle.law_exchange_stmts.proofs.Labelled.{LabelsAlike, meant_if_moves, labels_in_alike}
use Rattle.law_exchange_stmts.proofs.Meant.{record_of_moves, condition_moves, case_selector_moves, assignment_moves, return_statement_moves, course_of_moves, opened_type_moves}
use Rattle.law_exchange_stmts.proofs.Simple.{exit_statement_moves, into_record_moves, opened_if_moves}

module _ (z : Exchange) (g : Gathers) where
  abbrev moved_stmts : List TypedStmt → List TypedStmt
  moved_stmts xs = map (moved_stmt z) xs

  abbrev moved_else : Option (List TypedStmt) → Option (List TypedStmt)
  moved_else xs = option_map (map (moved_stmt z)) xs

  abbrev moved_arms : List TypedArm → List TypedArm
  moved_arms xs = map (moved_arm z) xs

  abbrev moved_selector : Result (TypeNo × TypedExpr) g.Reported → Result (TypeNo × TypedExpr) g.Reported
  moved_selector r = map_ok (moved_pair (moved_type z) (moved_expr z)) r

  -- ---- what moves

  abbrev ElaboratesMoves : Elaborates g.Reported → Type 0
  ElaboratesMoves f =
      (s : Scope g.Reported) (w : Around g.Reported)
      → f (moved_scope z s) (moved_around z w) ≡ map_ok (moved_stmt z) (f s w)

  abbrev FollowMoves : ElaboratesRest g.Reported → Type 0
  FollowMoves f =
      (s : Scope g.Reported) (w : Around g.Reported)
      → f (moved_scope z s) (moved_around z w) ≡ map_ok moved_else (f s w)

  -- the values of the labels so far meet the same
  abbrev ArmAlike : List Range × Result TypedArm g.Reported → List Range × Result TypedArm g.Reported → Type 0
  ArmAlike t u = Alike z t.0 u.0 × (u.1 ≡ map_ok (moved_arm z) t.1)

  abbrev ArmMoves : ElaboratesArm g.Reported → Type 0
  ArmMoves f =
      (s : Scope g.Reported) (w : Around g.Reported) (base : Option TypeNo) (rs us : List Range) → Alike z rs us
      → ArmAlike (f s w base rs) (f (moved_scope z s) (moved_around z w) (option_map (moved_type z) base) us)

  abbrev AllMove : List (Elaborates g.Reported) → Type 0
  AllMove [] = Unit {0}
  AllMove (x ∷ xs) = ElaboratesMoves x × AllMove xs

  abbrev ElseMoves : Option (List (Elaborates g.Reported)) → Type 0
  ElseMoves None = Unit {0}
  ElseMoves (Some xs) = AllMove xs

  abbrev AllArmsMove : List (ElaboratesArm g.Reported) → Type 0
  AllArmsMove [] = Unit {0}
  AllArmsMove (a ∷ xs) = ArmMoves a × AllArmsMove xs

  -- ---- one after another

  abbrev Written : Type 0
  Written = Result (List TypedStmt) g.Reported

  next_moves : (so su : Written) (x y : Result TypedStmt g.Reported) → su ≡ map_ok moved_stmts so
      → y ≡ map_ok (moved_stmt z) x → with_next g su y ≡ map_ok moved_stmts (with_next g so x)
  next_moves so su x y e f = ap₂ (λ a b. with_next g a b) e f ∙ with_next_moves g (moved_stmt z) so x

  module _ (s : Scope g.Reported) (w : Around g.Reported) where
    from_here : (xs : List (Elaborates g.Reported)) → AllMove xs → (so su : Written) → su ≡ map_ok moved_stmts so
        → fold (with_stmt g (moved_scope z s) (moved_around z w)) su xs
        ≡ map_ok moved_stmts (fold (with_stmt g s w) so xs)
    from_here [] h so su e = e
    from_here (x ∷ xs) h so su e =
        from_here xs h.1 (with_stmt g s w so x) (with_stmt g (moved_scope z s) (moved_around z w) su x)
        (next_moves so su (x s w) (x (moved_scope z s) (moved_around z w)) e (h.0 s w))

    all_of_moves : (xs : List (Elaborates g.Reported)) → AllMove xs
        → all_of g (moved_scope z s) (moved_around z w) xs ≡ map_ok moved_stmts (all_of g s w xs)
    all_of_moves xs h = from_here xs h (Ok []) (Ok []) refl

    all_if_moves : (xs : Option (List (Elaborates g.Reported))) → ElseMoves xs
        → all_if g (moved_scope z s) (moved_around z w) xs ≡ map_ok moved_else (all_if g s w xs)
    all_if_moves None h = refl
    all_if_moves (Some xs) h = ap standing (all_of_moves xs h) ∙ standing_moves z (all_of g s w xs)

    abbrev ArmsAlike : Arms g.Reported → Arms g.Reported → Type 0
    ArmsAlike t u = Alike z t.0 u.0 × (u.1 ≡ map_ok moved_arms t.1)

    next_arm : (so su : Result (List TypedArm) g.Reported) (x y : Result TypedArm g.Reported)
        → su ≡ map_ok moved_arms so → y ≡ map_ok (moved_arm z) x
        → with_next g su y ≡ map_ok moved_arms (with_next g so x)
    next_arm so su x y e f = ap₂ (λ a b. with_next g a b) e f ∙ with_next_moves g (moved_arm z) so x

    from_arm : (base : Option TypeNo) (xs : List (ElaboratesArm g.Reported)) → AllArmsMove xs
        → (st su : Arms g.Reported) → ArmsAlike st su
        → ArmsAlike (fold (with_arm g s w base) st xs)
        (fold (with_arm g (moved_scope z s) (moved_around z w) (option_map (moved_type z) base)) su xs)
    from_arm base [] h st su e = e
    from_arm base (a ∷ xs) h st su e =
        let one = h.0 s w base st.0 su.0 e.0 in
        from_arm base xs h.1 (with_arm g s w base st a)
        (with_arm g (moved_scope z s) (moved_around z w) (option_map (moved_type z) base) su a) (
          one.0,
          next_arm st.1 su.1 (a s w base st.0).1
              (a (moved_scope z s) (moved_around z w) (option_map (moved_type z) base) su.0).1 e.1 one.1,
        )

    arms_of_moves : (base : Option TypeNo) (xs : List (ElaboratesArm g.Reported)) → AllArmsMove xs
        → arms_of g (moved_scope z s) (moved_around z w) (option_map (moved_type z) base) xs
        ≡ map_ok moved_arms (arms_of g s w base xs)
    arms_of_moves base xs h = (from_arm base xs h ([], Ok []) ([], Ok []) (none_alike z, refl)).1

    -- ---- statements around others

    case_of_moves : (selector : Result (TypeNo × TypedExpr) g.Reported) (xs : List (ElaboratesArm g.Reported))
        (otherwise : Option (List (Elaborates g.Reported))) → AllArmsMove xs → ElseMoves otherwise
        → case_of g (moved_scope z s) (moved_around z w) (moved_selector selector) xs otherwise
        ≡ map_ok (moved_stmt z) (case_of g s w selector xs otherwise)
    case_of_moves selector xs otherwise h k =
        ap₂ (case_statement g (moved_selector selector))
        (ap (λ (b : Option TypeNo). arms_of g (moved_scope z s) (moved_around z w) b xs) (base_in_moves z selector)
        ∙ arms_of_moves (base_in selector) xs h)
        (all_if_moves otherwise k)
        ∙ case_statement_moves z g selector (arms_of g s w (base_in selector) xs) (all_if g s w otherwise)

  module _ (s : Scope g.Reported) (w : Around g.Reported) where
    abbrev looked_into : Scope g.Reported → Around g.Reported → Option TypeNo → List (Elaborates g.Reported)
        → Result (Unit {0}) g.Reported
    looked_into t v opened body = reported_in (all_of g (opened_if t opened) v body)

    abbrev opened_with : Scope g.Reported → Around g.Reported → List (Elaborates g.Reported) → TypeNo × Place
        → Result TypedStmt g.Reported
    opened_with t v body r = within r.1 (all_of g (into_record t r.0) v body)

    looked_moves : (d : Designator) (body : List (Elaborates g.Reported)) → AllMove body
        → looked_into (moved_scope z s) (moved_around z w) (opened_type g (moved_scope z s) d) body
        ≡ looked_into s w (opened_type g s d) body
    looked_moves d body h =
        ap (λ (t : Option TypeNo). looked_into (moved_scope z s) (moved_around z w) t body)
        (opened_type_moves z g s d)
        ∙ (ap (λ (t : Scope g.Reported). reported_in (all_of g t (moved_around z w) body))
        (opened_if_moves z s (opened_type g s d))
        ∙ (ap reported_in (all_of_moves (opened_if s (opened_type g s d)) w body h)
        ∙ reported_in_moves z (all_of g (opened_if s (opened_type g s d)) w body)))

    opened_moves : (body : List (Elaborates g.Reported)) → AllMove body → (r : TypeNo × Place)
        → opened_with (moved_scope z s) (moved_around z w) body (moved_pair (moved_type z) (moved_place z) r)
        ≡ map_ok (moved_stmt z) (opened_with s w body r)
    opened_moves body h r =
        ap (λ (t : Scope g.Reported). within (moved_place z r.1) (all_of g t (moved_around z w) body))
        (into_record_moves z s r.0)
        ∙ (ap (within (moved_place z r.1)) (all_of_moves (into_record s r.0) w body h)
        ∙ within_moves z r.1 (all_of g (into_record s r.0) w body))

    with_of_moves : (d : Designator) (body : List (Elaborates g.Reported)) → AllMove body
        → with_of g (moved_scope z s) (moved_around z w) d body ≡ map_ok (moved_stmt z) (with_of g s w d body)
    with_of_moves d body h =
        ap₂ (λ (r : Result (TypeNo × Place) g.Reported) (u : Result (Unit {0}) g.Reported).
        ahead g r u (opened_with (moved_scope z s) (moved_around z w) body))
        (record_of_moves z g s (head g d) (designators_given g z d)) (looked_moves d body h)
        ∙ ahead_moves g (moved_pair (moved_type z) (moved_place z)) (moved_stmt z) (record_of g s (head g d))
        (looked_into s w (opened_type g s d) body) (opened_with s w body)
        (opened_with (moved_scope z s) (moved_around z w) body) (opened_moves body h)

  -- ---- a layer, each part of which has its meaning

  abbrev PR : Rest → Type 0
  PR x = FollowMoves (rest g x)

  abbrev PS : Stmt → Type 0
  PS x = ElaboratesMoves (stmt g x)

  abbrev PA : Arm → Type 0
  PA x = ArmMoves (arm g x)

  abbrev SR : Type 0
  SR = (x : Rest) × PR x

  abbrev SS : Type 0
  SS = (x : Stmt) × PS x

  abbrev SA : Type 0
  SA = (x : Arm) × PA x

  abbrev opened_stmt : Stmt-F Rest Stmt Arm
      → Stmt-F (ElaboratesRest g.Reported) (Elaborates g.Reported) (ElaboratesArm g.Reported)
  opened_stmt x = map-Stmt Rest Stmt Arm (ElaboratesRest g.Reported) (Elaborates g.Reported) (ElaboratesArm g.Reported)
      (rest g) (stmt g) (arm g) x

  abbrev opened_rest : Rest-F Rest Stmt Arm
      → Rest-F (ElaboratesRest g.Reported) (Elaborates g.Reported) (ElaboratesArm g.Reported)
  opened_rest x = map-Rest Rest Stmt Arm (ElaboratesRest g.Reported) (Elaborates g.Reported) (ElaboratesArm g.Reported)
      (rest g) (stmt g) (arm g) x

  abbrev opened_arm : Arm-F Rest Stmt Arm
      → Arm-F (ElaboratesRest g.Reported) (Elaborates g.Reported) (ElaboratesArm g.Reported)
  opened_arm x = map-Arm Rest Stmt Arm (ElaboratesRest g.Reported) (Elaborates g.Reported) (ElaboratesArm g.Reported)
      (rest g) (stmt g) (arm g) x

  at_stmt : (e : Stmt) (x : Stmt-F Rest Stmt Arm) → out-Stmt e ≡ x → stmt g e ≡ stmt_layer g (opened_stmt x)
  unfolding stmt rest arm
  at_stmt e x h = fold_out-Stmt (ElaboratesRest g.Reported) (Elaborates g.Reported) (ElaboratesArm g.Reported)
      (rest_layer g) (stmt_layer g) (arm_layer g) e ∙ ap (λ (y : Stmt-F Rest Stmt Arm). stmt_layer g (opened_stmt y)) h

  at_rest : (e : Rest) (x : Rest-F Rest Stmt Arm) → out-Rest e ≡ x → rest g e ≡ rest_layer g (opened_rest x)
  unfolding stmt rest arm
  at_rest e x h = fold_out-Rest (ElaboratesRest g.Reported) (Elaborates g.Reported) (ElaboratesArm g.Reported)
      (rest_layer g) (stmt_layer g) (arm_layer g) e ∙ ap (λ (y : Rest-F Rest Stmt Arm). rest_layer g (opened_rest y)) h

  at_arm : (e : Arm) (x : Arm-F Rest Stmt Arm) → out-Arm e ≡ x → arm g e ≡ arm_layer g (opened_arm x)
  unfolding stmt rest arm
  at_arm e x h = fold_out-Arm (ElaboratesRest g.Reported) (Elaborates g.Reported) (ElaboratesArm g.Reported)
      (rest_layer g) (stmt_layer g) (arm_layer g) e ∙ ap (λ (y : Arm-F Rest Stmt Arm). arm_layer g (opened_arm y)) h

  -- ---- a layer of parts for which it is known

  abbrev bare_stmt : Stmt-F SR SS SA → Stmt-F Rest Stmt Arm
  bare_stmt x = map-Stmt SR SS SA Rest Stmt Arm (λ e. e.0) (λ e. e.0) (λ e. e.0) x

  abbrev bare_rest : Rest-F SR SS SA → Rest-F Rest Stmt Arm
  bare_rest x = map-Rest SR SS SA Rest Stmt Arm (λ e. e.0) (λ e. e.0) (λ e. e.0) x

  abbrev bare_arm : Arm-F SR SS SA → Arm-F Rest Stmt Arm
  bare_arm x = map-Arm SR SS SA Rest Stmt Arm (λ e. e.0) (λ e. e.0) (λ e. e.0) x

  abbrev elaborates_of : List SS → List (Elaborates g.Reported)
  elaborates_of xs = map (stmt g) (map (λ (e : SS). e.0) xs)

  abbrev arms_in : List SA → List (ElaboratesArm g.Reported)
  arms_in xs = map (arm g) (map (λ (e : SA). e.0) xs)

  all_move : (xs : List SS) → AllMove (elaborates_of xs)
  all_move [] = tt
  all_move (x ∷ xs) = (x.1, all_move xs)

  all_arms_move : (xs : List SA) → AllArmsMove (arms_in xs)
  all_arms_move [] = tt
  all_arms_move (x ∷ xs) = (x.1, all_arms_move xs)

  body_moves : (s : Scope g.Reported) (w : Around g.Reported) (xs : List SS)
      → all_of g (moved_scope z s) (moved_around z w) (elaborates_of xs)
      ≡ map_ok moved_stmts (all_of g s w (elaborates_of xs))
  body_moves s w xs = all_of_moves s w (elaborates_of xs) (all_move xs)

  condition_is : (s : Scope g.Reported) (c : Expr)
      → condition g (moved_scope z s) (meanings_of g c) ≡ map_ok (moved_expr z) (condition g s (meanings_of g c))
  condition_is s c = condition_moves z g s (meanings_of g c) (expressions_given g z c)

  if_moves : (s : Scope g.Reported) (w : Around g.Reported) (c : Expr) (body : List SS) (follow : SR)
      → if_statement g (condition g (moved_scope z s) (meanings_of g c))
      (all_of g (moved_scope z s) (moved_around z w) (elaborates_of body))
      (rest g follow.0 (moved_scope z s) (moved_around z w))
      ≡ map_ok (moved_stmt z)
      (if_statement g (condition g s (meanings_of g c)) (all_of g s w (elaborates_of body)) (rest g follow.0 s w))
  if_moves s w c body follow =
      ap (λ (v : Result TypedExpr g.Reported). if_statement g v
      (all_of g (moved_scope z s) (moved_around z w) (elaborates_of body))
      (rest g follow.0 (moved_scope z s) (moved_around z w))) (condition_is s c)
      ∙ (ap₂ (if_statement g (map_ok (moved_expr z) (condition g s (meanings_of g c)))) (body_moves s w body)
      (follow.1 s w)
      ∙ if_statement_moves z g (condition g s (meanings_of g c)) (all_of g s w (elaborates_of body))
      (rest g follow.0 s w))

  cased_moves : (s : Scope g.Reported) (w : Around g.Reported) (e : Expr) (xs : List SA)
      (otherwise : Option (List (Elaborates g.Reported))) → ElseMoves otherwise
      → case_of g (moved_scope z s) (moved_around z w) (case_selector g (moved_scope z s) (meanings_of g e))
      (arms_in xs) otherwise
      ≡ map_ok (moved_stmt z) (case_of g s w (case_selector g s (meanings_of g e)) (arms_in xs) otherwise)
  cased_moves s w e xs otherwise h =
      ap (λ (v : Result (TypeNo × TypedExpr) g.Reported).
      case_of g (moved_scope z s) (moved_around z w) v (arms_in xs) otherwise)
      (case_selector_moves z g s (meanings_of g e) (expressions_given g z e))
      ∙ case_of_moves s w (case_selector g s (meanings_of g e)) (arms_in xs) otherwise (all_arms_move xs) h

  stmt_moves_layer : (y : Stmt-F SR SS SA) → ElaboratesMoves (stmt_layer g (opened_stmt (bare_stmt y)))
  stmt_moves_layer (layer.Assign d e) = λ s w.
      assignment_moves z g s (head g d) (meanings_of g e) (designators_given g z d) (expressions_given g z e)
  stmt_moves_layer (layer.Call d args) = λ s w.
      calls_given g z s (head g d) (args_meant g args) (designators_given g z d) (arguments_given g z (or_none args))
  stmt_moves_layer (layer.If c body follow) = λ s w. if_moves s w c body follow
  stmt_moves_layer (layer.Case e xs None) = λ s w. cased_moves s w e xs None tt
  stmt_moves_layer (layer.Case e xs (Some body)) = λ s w.
      cased_moves s w e xs (Some (elaborates_of body)) (all_move body)
  stmt_moves_layer (layer.While c body) = λ s w.
      ap₂ (repeated_while g) (condition_is s c) (body_moves s w body)
      ∙ repeated_while_moves z g (condition g s (meanings_of g c)) (all_of g s w (elaborates_of body))
  stmt_moves_layer (layer.Repeat body c) = λ s w.
      ap₂ (repeated_until g) (body_moves s w body) (condition_is s c)
      ∙ repeated_until_moves z g (all_of g s w (elaborates_of body)) (condition g s (meanings_of g c))
  stmt_moves_layer (layer.Loop body) = λ s w.
      ap loop_statement (body_moves s (in_loop w) body)
      ∙ loop_statement_moves z (all_of g s (in_loop w) (elaborates_of body))
  stmt_moves_layer (layer.Exit at) = λ s w. exit_statement_moves z g at w
  stmt_moves_layer (layer.Return at e) = λ s w.
      return_statement_moves z g s at w.gives (meant_if g e) (meant_if_moves z g e)
  stmt_moves_layer (layer.For name start limit by body) = λ s w.
      ap₂ (repeated_for g)
      (course_of_moves z g s name (meanings_of g start) (meanings_of g limit) (meant_if g by)
      (expressions_given g z start) (expressions_given g z limit) (meant_if_moves z g by))
      (body_moves s w body)
      ∙ repeated_for_moves z g (course_of g s name (meanings_of g start) (meanings_of g limit) (meant_if g by))
      (all_of g s w (elaborates_of body))
  stmt_moves_layer (layer.With d body) = λ s w. with_of_moves s w d (elaborates_of body) (all_move body)

  rest_moves_layer : (y : Rest-F SR SS SA) → FollowMoves (rest_layer g (opened_rest (bare_rest y)))
  rest_moves_layer (layer.Elsif c body follow) = λ s w.
      ap chosen_else (if_moves s w c body follow)
      ∙ chosen_else_moves z (if_statement g (condition g s (meanings_of g c)) (all_of g s w (elaborates_of body))
      (rest g follow.0 s w))
  rest_moves_layer (layer.Else None) = λ s w. refl
  rest_moves_layer (layer.Else (Some body)) = λ s w. all_if_moves s w (Some (elaborates_of body)) (all_move body)

  arm_moves_layer : (y : Arm-F SR SS SA) → ArmMoves (arm_layer g (opened_arm (bare_arm y)))
  arm_moves_layer y = λ s w base rs us a.
      let labels = labels_in g s base rs y.labels in
      let there = labels_in g (moved_scope z s) (option_map (moved_type z) base) us y.labels in
      let e : LabelsAlike z labels there = labels_in_alike z g s base rs us y.labels a in (
        e.0,
        ap₂ (λ (l : Result (List Label) g.Reported) (b : Written). arm_of g l b) e.1 (body_moves s w y.body)
            ∙ arm_of_moves z g labels.1 (all_of g s w (elaborates_of y.body)),
      )

  -- ---- the induction

  step_rest : (x : Rest-F Rest Stmt Arm) (y : Rest-F SR SS SA) → bare_rest y ≡ x → PR (roll-Rest x)
  step_rest x y q = subst FollowMoves (sym (at_rest (roll-Rest x) (bare_rest y) (out-roll-Rest x ∙ sym q)))
      (rest_moves_layer y)

  step_stmt : (x : Stmt-F Rest Stmt Arm) (y : Stmt-F SR SS SA) → bare_stmt y ≡ x → PS (roll-Stmt x)
  step_stmt x y q = subst ElaboratesMoves (sym (at_stmt (roll-Stmt x) (bare_stmt y) (out-roll-Stmt x ∙ sym q)))
      (stmt_moves_layer y)

  step_arm : (x : Arm-F Rest Stmt Arm) (y : Arm-F SR SS SA) → bare_arm y ≡ x → PA (roll-Arm x)
  step_arm x y q = subst ArmMoves (sym (at_arm (roll-Arm x) (bare_arm y) (out-roll-Arm x ∙ sym q)))
      (arm_moves_layer y)

  pub stmt_moves : (x : Stmt) → PS x
  stmt_moves = ind-Stmt PR PS PA step_rest step_stmt step_arm

  pub rest_moves : (x : Rest) → PR x
  rest_moves = ind-Rest PR PS PA step_rest step_stmt step_arm

  pub arm_moves : (x : Arm) → PA x
  arm_moves = ind-Arm PR PS PA step_rest step_stmt step_arm

  -- ---- statements and arms, one after another

  from_written : (s : Scope g.Reported) (w : Around g.Reported) (xs : List Stmt) (so su : Written)
      → su ≡ map_ok moved_stmts so
      → fold (with_written g (moved_scope z s) (moved_around z w)) su xs
      ≡ map_ok moved_stmts (fold (with_written g s w) so xs)
  from_written s w [] so su e = e
  from_written s w (x ∷ xs) so su e =
      from_written s w xs (with_written g s w so x) (with_written g (moved_scope z s) (moved_around z w) su x)
      (next_moves so su (stmt g x s w) (stmt g x (moved_scope z s) (moved_around z w)) e (stmt_moves x s w))

  pub statements_move : (s : Scope g.Reported) (w : Around g.Reported) (xs : List Stmt)
      → statements g (moved_scope z s) (moved_around z w) xs ≡ map_ok moved_stmts (statements g s w xs)
  statements_move s w xs = from_written s w xs (Ok []) (Ok []) refl

  from_written_arm : (s : Scope g.Reported) (w : Around g.Reported) (base : Option TypeNo) (xs : List Arm)
      (st su : Arms g.Reported) → ArmsAlike s w st su
      → ArmsAlike s w (fold (with_written_arm g s w base) st xs)
      (fold (with_written_arm g (moved_scope z s) (moved_around z w) (option_map (moved_type z) base)) su xs)
  from_written_arm s w base [] st su e = e
  from_written_arm s w base (x ∷ xs) st su e =
      let one = arm_moves x s w base st.0 su.0 e.0 in
      from_written_arm s w base xs (with_written_arm g s w base st x)
      (with_written_arm g (moved_scope z s) (moved_around z w) (option_map (moved_type z) base) su x) (
        one.0,
        next_arm s w st.1 su.1 (arm g x s w base st.0).1
            (arm g x (moved_scope z s) (moved_around z w) (option_map (moved_type z) base) su.0).1 e.1 one.1,
      )

  pub arms_move : (s : Scope g.Reported) (w : Around g.Reported) (base : Option TypeNo) (xs : List Arm)
      → arms g (moved_scope z s) (moved_around z w) (option_map (moved_type z) base) xs
      ≡ map_ok moved_arms (arms g s w base xs)
  arms_move s w base xs = (from_written_arm s w base xs ([], Ok []) ([], Ok []) (none_alike z, refl)).1
