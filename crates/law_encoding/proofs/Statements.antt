-- What statements mean weighs no more than they allow, by induction.
use Rattle.std.proofs.Common.{map, ◌≡◌, ℕ, ◌+◌, ◌≤◌, List, [], ◌∷◌, ◌++◌, length, Option, Some, None, Result, Ok, Err}
use Rattle.std.proofs.Common.{sym, ap, subst, ◌∙◌, length-append, arith}
use Rattle.std.specs.Prelude.{map}
use Rattle.std.specs.List.{fold}
use Rattle.std.proofs.lemmas.List.{length-append}
use Rattle.m2_tree.specs.declared.expr.Expr.{Expr}
use Rattle.m2_tree.specs.declared.stmt.Rest.{Rest, Rest-F, out-Rest, roll-Rest, out-roll-Rest, map-Rest, fold_out-Rest}
use Rattle.m2_tree.specs.declared.stmt.Rest.TheOpen as layer
use Rattle.m2_tree.specs.declared.stmt.Stmt.{Stmt, Stmt-F, out-Stmt, roll-Stmt, out-roll-Stmt, map-Stmt, fold_out-Stmt}
use Rattle.m2_tree.specs.declared.stmt.Stmt.{ind-Stmt}
use Rattle.m2_tree.specs.declared.stmt.Arm.{Arm, Arm-F, out-Arm, roll-Arm, out-roll-Arm, map-Arm, fold_out-Arm}
use Rattle.typed_tree.specs.declared.computed.Place.{Place}
use Rattle.typed_tree.specs.declared.computed.TypedExpr.{TypedExpr}
use Rattle.typed_tree.specs.declared.statement.Label.{Label}
use Rattle.typed_tree.specs.declared.statement.TypedArm.{TypedArm}
use Rattle.typed_tree.specs.declared.statement.TypedStmt.{TypedStmt}
use Rattle.typed_tree.specs.declared.statement.TypedStmt.TheVariants as step
use Rattle.typed_tree.specs.declared.types.TypeNo.{TypeNo}
use Rattle.check_scope.specs.Elaborated.{Gathers}
use Rattle.check_scope.specs.declared.scope.Scope.{Scope}
use Rattle.check_expr.specs.Meanings.{meanings_of, head}
use Rattle.check_stmt_parts.specs.declared.around.Around.{Around}
use Rattle.check_stmt_parts.specs.Lists.{with_next, if_statement, chosen_else, base_in, case_statement, arm_of}
use Rattle.check_stmt_parts.specs.Lists.{repeated_while, repeated_until, loop_statement, within}
use Rattle.check_stmt_parts.specs.Simple.{meant_if, in_loop, case_selector, into_record}
use Rattle.check_stmt.specs.Statements.{Elaborates, ElaboratesRest, ElaboratesArm, Arms, args_meant, with_stmt, all_of}
use Rattle.check_stmt.specs.Statements.{all_if, with_arm, arms_of, stmt_layer, rest_layer, arm_layer, stmt, rest, arm}
use Rattle.check_stmt.specs.Statements.{with_written, statements}
use Rattle.check_expr.specs.Effects.{call_statement}
use Rattle.check_stmt_parts.specs.Ranges.{Range}
use Rattle.check_stmt_parts.specs.Labels.{Bounds, Labels, with_label, with_item, item_label}
use Rattle.check_stmt_parts.specs.Lists.{with_next}
use Rattle.m2_tree.specs.declared.pos.Pos.{Pos}
use Rattle.m2_tree.specs.declared.expr.Item.{Item, out-Item}
use Rattle.m2_tree.specs.declared.expr.Designator.{Designator}
use Rattle.law_encoding.specs.Sizes.{sum_of, size_item}
use Rattle.law_encoding.specs.Counted.{AtMost, fine}
use Rattle.law_encoding.proofs.Sums.{le_of, le_by}
use Rattle.law_encoding.proofs.Variants.{size_label}
use Rattle.law_encoding.proofs.Ways.{Way, by_size, ◌⊕⟨◌⟩◌, node, in_if, in_case, labels, total_of, weight_typed}
use Rattle.law_encoding.proofs.Ways.{weight_place, weight_step, weight_arm, weight_body, weight_body_if}
use Rattle.law_encoding.proofs.Ways.{all_of as weights_of, in_loop as looped}
use Rattle.law_encoding.proofs.WaySums.{none_of, one_alone, all_pushed, no_more, sum_again, none_left, all_again}
use Rattle.law_encoding.proofs.WaySums.{from_none, if_sum, case_sum, while_sum, repeat_sum, loop_sum, assign_sum}
use Rattle.law_encoding.proofs.WaySums.{labels_less, both_most}
use Rattle.law_encoding.proofs.WayTrees.{IsNear, bound_expr, bound_designator, bound_if, bound_stmt, bound_rest}
use Rattle.law_encoding.proofs.WayTrees.{bound_arm, bound_stmts, stmt_form, rest_form, arm_form, stmt_opened}
use Rattle.law_encoding.proofs.WayTrees.{rest_opened, arm_opened, of_return, of_assign, of_plain_call, of_call_with}
use Rattle.law_encoding.proofs.WayTrees.{of_if, of_case, of_case_else, of_while, of_repeat, of_loop, of_exit, of_for}
use Rattle.law_encoding.proofs.WayTrees.{of_with, of_elsif, of_else, of_arm}
use Rattle.law_encoding.proofs.Results.{then_most, at_more, at_mapped, any_most, ahead_most}
use Rattle.law_encoding.proofs.Meanings.{AllM, meant_most, head_most}
use Rattle.law_encoding.proofs.Effects.{assignment_most, done_most}
use Rattle.law_encoding.proofs.Steps.{weight_selected, KnownIf, record_most, condition_most, exited_most, returned_most}
use Rattle.law_encoding.proofs.Steps.{selected_most, course_most, for_most}
use Rattle.law_encoding.proofs.Weighed.{step_is, arm_sum}

module _ (w : Way) where
  infixl 65 ◌⊕◌
  abbrev ◌⊕◌ : ℕ → ℕ → ℕ
  m ⊕ n = m ⊕⟨ w ⟩ n

  module _ (g : Gathers) where
    abbrev Elaborates_ : ℕ → Elaborates g.Reported → Type 0
    Elaborates_ n f =
        (s : Scope g.Reported) (a : Around g.Reported) → IsNear w s.level → AtMost (weight_step w) n (f s a)

    abbrev Rest_ : ℕ → ElaboratesRest g.Reported → Type 0
    Rest_ n f = (s : Scope g.Reported) (a : Around g.Reported) → IsNear w s.level → AtMost (weight_body_if w) n (f s a)

    abbrev Arm_ : ℕ → ElaboratesArm g.Reported → Type 0
    Arm_ n f = (s : Scope g.Reported) (a : Around g.Reported) (base : Option TypeNo) (ranges : List Range)
        → IsNear w s.level → AtMost (weight_arm w) n (f s a base ranges).1

    abbrev AllJ : List ℕ → List (Elaborates g.Reported) → Type 0
    AllJ [] [] = Unit {0}
    AllJ (n ∷ ns) (x ∷ xs) = Elaborates_ n x × AllJ ns xs
    AllJ [] (x ∷ xs) = ⊥
    AllJ (n ∷ ns) [] = ⊥

    abbrev AllA : List ℕ → List (ElaboratesArm g.Reported) → Type 0
    AllA [] [] = Unit {0}
    AllA (n ∷ ns) (x ∷ xs) = Arm_ n x × AllA ns xs
    AllA [] (x ∷ xs) = ⊥
    AllA (n ∷ ns) [] = ⊥

    -- ---- lists

    next_most : {A : Type 0} (f : A → ℕ) (k n : ℕ) {so : Result (List A) g.Reported} {x : Result A g.Reported}
        → AtMost (weights_of w f) k so → AtMost f n x → AtMost (weights_of w f) (k ⊕ n) (with_next g so x)
    next_most f k n p q =
        then_most (both_most g w p q) (λ v l. fine (v.0 ++ v.1 ∷ []) (le_by _ _ (k ⊕ n) (all_pushed w f v.0 v.1) l))

    module _ (s : Scope g.Reported) (a : Around g.Reported) (near : IsNear w s.level) where
      from_stmts : (k : ℕ) (ns : List ℕ) (xs : List (Elaborates g.Reported)) (so : Result (List TypedStmt) g.Reported)
          → AtMost (weight_body w) k so → AllJ ns xs
          → AtMost (weight_body w) (k ⊕ total_of w ns) (fold (with_stmt g s a) so xs)
      from_stmts k [] [] so p all = at_more (none_left w k) p
      from_stmts k [] (x ∷ xs) so p all = absurd all
      from_stmts k (n ∷ ns) [] so p all = absurd all
      from_stmts k (n ∷ ns) (x ∷ xs) so p all = at_more (all_again w k n ns)
          (from_stmts (k ⊕ n) ns xs (with_stmt g s a so x) (next_most (weight_step w) k n p (all.0 s a near)) all.1)

      all_most : (ns : List ℕ) (xs : List (Elaborates g.Reported)) → AllJ ns xs
          → AtMost (weight_body w) (total_of w ns) (all_of g s a xs)
      all_most ns xs all =
          at_more (from_none w (total_of w ns)) (from_stmts 0 ns xs (Ok []) (fine [] (le_of _ 0 (none_of w _))) all)

      standing_most : (ns : List ℕ) (xs : List (Elaborates g.Reported)) → AllJ ns xs
          → AtMost (weight_body_if w) (total_of w ns) (all_if g s a (Some xs))
      standing_most ns xs all = then_most (all_most ns xs all) (λ v l. fine (Some v) l)

      from_arms : (k : ℕ) (base : Option TypeNo) (ns : List ℕ) (xs : List (ElaboratesArm g.Reported))
          (st : Arms g.Reported) → AtMost (weights_of w (weight_arm w)) k st.1 → AllA ns xs
          → AtMost (weights_of w (weight_arm w)) (k ⊕ total_of w ns) (fold (with_arm g s a base) st xs).1
      from_arms k base [] [] st p all = at_more (none_left w k) p
      from_arms k base [] (x ∷ xs) st p all = absurd all
      from_arms k base (n ∷ ns) [] st p all = absurd all
      from_arms k base (n ∷ ns) (x ∷ xs) st p all = at_more (all_again w k n ns)
          (from_arms (k ⊕ n) base ns xs (with_arm g s a base st x)
          (next_most (weight_arm w) k n p (all.0 s a base st.0 near)) all.1)

      all_arms : (base : Option TypeNo) (ns : List ℕ) (xs : List (ElaboratesArm g.Reported)) → AllA ns xs
          → AtMost (weights_of w (weight_arm w)) (total_of w ns) (arms_of g s a base xs)
      all_arms base ns xs all = at_more (from_none w (total_of w ns))
          (from_arms 0 base ns xs ([], Ok []) (fine [] (le_of _ 0 (none_of w _))) all)

    -- ---- labels

    one_longer : (a n k : ℕ) → a ≡ n + 1 → n + 0 ≤ k + 0 → a ≤ k + 1
    one_longer a n k e l = omega (arith, e, l)

    next_label : (k : ℕ) {so : Result (List Label) g.Reported} (x : Result Label g.Reported)
        → AtMost (λ (xs : List Label). length xs) k so
        → AtMost (λ (xs : List Label). length xs) (k + 1) (with_next g so x)
    next_label k x p = then_most (both_most g by_size p (any_most x))
        (λ v l. fine (v.0 ++ v.1 ∷ []) (one_longer _ _ k (length-append v.0 (v.1 ∷ [])) l))

    label_most : (k : ℕ) (at : Pos) (st : Labels g.Reported) (r : Result Bounds g.Reported)
        → AtMost (λ (xs : List Label). length xs) k st.1
        → AtMost (λ (xs : List Label). length xs) (k + 1) (with_label g at st r).1
    label_most k at st (Ok None) p = at_more (omega arith) p
    label_most k at st (Ok (Some b)) p = next_label k _ p
    label_most k at st (Err e) p = next_label k (Err e) p

    one_label : (k n b : ℕ) → k + 1 + b ≤ k + (1 + n + b)
    one_label k n b = omega arith

    labels_most : (k : ℕ) (s : Scope g.Reported) (base : Option TypeNo) (items : List Item) (st : Labels g.Reported)
        → AtMost (λ (xs : List Label). length xs) k st.1
        → AtMost (λ (xs : List Label). length xs) (k + sum_of size_label items) (fold (with_item g s base) st items).1
    labels_most k s base [] st p = at_more (omega arith) p
    labels_most k s base (i ∷ items) st p =
        at_more (one_label k (size_item i) (sum_of size_label items))
        (labels_most (k + 1) s base items (with_item g s base st i)
        (label_most k (meanings_of g (out-Item i).low).fixed.at st (item_label g s base i) p))

    -- ---- statements around others

    chosen_most : (n m k : ℕ) {c : Result TypedExpr g.Reported} {body : Result (List TypedStmt) g.Reported}
        {follow : Result (Option (List TypedStmt)) g.Reported} → AtMost (weight_typed w) n c
        → AtMost (weight_body w) m body → AtMost (weight_body_if w) k follow
        → AtMost (weight_step w) (in_if w (n ⊕ m ⊕ k)) (if_statement g c body follow)
    chosen_most n m k p q r = then_most (both_most g w p (both_most g w q r))
        (λ v l. fine (step.If v.0 v.1.0 v.1.1) (if_sum w _ _ _ _ n m k (step_is w _ (step.outs-If v.0 v.1.0 v.1.1)) l))

    chosen_else_most : (n : ℕ) {x : Result TypedStmt g.Reported} → AtMost (weight_step w) n x
        → AtMost (weight_body_if w) n (chosen_else x)
    chosen_else_most n p = then_most p (λ v l. fine (Some (v ∷ [])) (le_by _ _ n (one_alone w (weight_step w) v) l))

    cased_most : (n m k : ℕ) (s : Scope g.Reported) {e : Result (TypeNo × TypedExpr) g.Reported}
        {xs : Result (List TypedArm) g.Reported} {otherwise : Result (Option (List TypedStmt)) g.Reported}
        → AtMost (weight_selected w g s) n e → AtMost (weights_of w (weight_arm w)) m xs
        → AtMost (weight_body_if w) k otherwise
        → AtMost (weight_step w) (in_case w (n ⊕ m ⊕ k)) (case_statement g e xs otherwise)
    cased_most n m k s p q r = then_most (both_most g w p (both_most g w q r))
        (λ v l. fine (step.Case v.0.1 v.1.0 v.1.1) (case_sum w _ _ _ _ n m k
        (step_is w _ (step.outs-Case v.0.1 v.1.0 v.1.1)) l))

    while_most : (n m : ℕ) {c : Result TypedExpr g.Reported} {body : Result (List TypedStmt) g.Reported}
        → AtMost (weight_typed w) n c → AtMost (weight_body w) m body
        → AtMost (weight_step w) (looped w (n ⊕ m)) (repeated_while g c body)
    while_most n m p q = then_most (both_most g w p q) (λ v l. fine (step.While v.0 v.1)
        (while_sum w _ _ _ n m (step_is w _ (step.outs-While v.0 v.1)) l))

    until_most : (n m : ℕ) {c : Result TypedExpr g.Reported} {body : Result (List TypedStmt) g.Reported}
        → AtMost (weight_body w) m body → AtMost (weight_typed w) n c
        → AtMost (weight_step w) (in_if w (m ⊕ n)) (repeated_until g body c)
    until_most n m q p = then_most (both_most g w q p) (λ v l. fine (step.Repeat v.0 v.1)
        (repeat_sum w _ _ _ m n (step_is w _ (step.outs-Repeat v.0 v.1)) l))

    looped_most : (n : ℕ) {body : Result (List TypedStmt) g.Reported} → AtMost (weight_body w) n body
        → AtMost (weight_step w) (looped w n) (loop_statement body)
    looped_most n p = then_most p (λ v l. fine (step.Loop v) (loop_sum w _ _ n (step_is w _ (step.outs-Loop v)) l))

    with_most : (n m : ℕ) (d : Place) {body : Result (List TypedStmt) g.Reported} → node w ⊕ weight_place w d ≤ n
        → AtMost (weight_body w) m body → AtMost (weight_step w) (n ⊕ m) (within d body)
    with_most n m d k p =
        then_most p (λ v l. fine (step.With d v) (assign_sum w _ _ _ n m (step_is w _ (step.outs-With d v)) k l))

    -- ---- parts

    all_meant : (s : Scope g.Reported) (near : IsNear w s.level) (xs : List Expr)
        → AllM w g s (map (bound_expr w) xs) (map (meanings_of g) xs)
    all_meant s near [] = tt
    all_meant s near (x ∷ xs) = (meant_most w g s near x, all_meant s near xs)

    known_if : (s : Scope g.Reported) (near : IsNear w s.level) (o : Option Expr)
        → KnownIf w g s (bound_if w o) (meant_if g o)
    known_if s near None = tt
    known_if s near (Some e) = meant_most w g s near e

    -- ---- a layer, each part of which has its meaning

    abbrev PR : Rest → Type 0
    PR x = Rest_ (bound_rest w x) (rest g x)

    abbrev PS : Stmt → Type 0
    PS x = Elaborates_ (bound_stmt w x) (stmt g x)

    abbrev PA : Arm → Type 0
    PA x = Arm_ (bound_arm w x) (arm g x)

    abbrev SR : Type 0
    SR = (x : Rest) × PR x

    abbrev SS : Type 0
    SS = (x : Stmt) × PS x

    abbrev SA : Type 0
    SA = (x : Arm) × PA x

    abbrev opened_stmt : Stmt-F Rest Stmt Arm → Stmt-F (ElaboratesRest g.Reported) (Elaborates g.Reported)
        (ElaboratesArm g.Reported)
    opened_stmt x = map-Stmt Rest Stmt Arm (ElaboratesRest g.Reported) (Elaborates g.Reported)
        (ElaboratesArm g.Reported) (rest g) (stmt g) (arm g) x

    abbrev opened_rest : Rest-F Rest Stmt Arm → Rest-F (ElaboratesRest g.Reported) (Elaborates g.Reported)
        (ElaboratesArm g.Reported)
    opened_rest x = map-Rest Rest Stmt Arm (ElaboratesRest g.Reported) (Elaborates g.Reported)
        (ElaboratesArm g.Reported) (rest g) (stmt g) (arm g) x

    abbrev opened_arm : Arm-F Rest Stmt Arm
        → Arm-F (ElaboratesRest g.Reported) (Elaborates g.Reported) (ElaboratesArm g.Reported)
    opened_arm x = map-Arm Rest Stmt Arm (ElaboratesRest g.Reported) (Elaborates g.Reported) (ElaboratesArm g.Reported)
        (rest g) (stmt g) (arm g) x

    at_stmt : (e : Stmt) (x : Stmt-F Rest Stmt Arm) → out-Stmt e ≡ x → stmt g e ≡ stmt_layer g (opened_stmt x)
    unfolding stmt rest arm
    at_stmt e x h = fold_out-Stmt (ElaboratesRest g.Reported) (Elaborates g.Reported) (ElaboratesArm g.Reported)
        (rest_layer g) (stmt_layer g) (arm_layer g) e ∙ ap (λ (y : Stmt-F Rest Stmt Arm). stmt_layer g (opened_stmt y))
        h

    at_rest : (e : Rest) (x : Rest-F Rest Stmt Arm) → out-Rest e ≡ x → rest g e ≡ rest_layer g (opened_rest x)
    unfolding stmt rest arm
    at_rest e x h = fold_out-Rest (ElaboratesRest g.Reported) (Elaborates g.Reported) (ElaboratesArm g.Reported)
        (rest_layer g) (stmt_layer g) (arm_layer g) e ∙ ap (λ (y : Rest-F Rest Stmt Arm). rest_layer g (opened_rest y))
        h

    at_arm : (e : Arm) (x : Arm-F Rest Stmt Arm) → out-Arm e ≡ x → arm g e ≡ arm_layer g (opened_arm x)
    unfolding stmt rest arm
    at_arm e x h = fold_out-Arm (ElaboratesRest g.Reported) (Elaborates g.Reported) (ElaboratesArm g.Reported)
        (rest_layer g) (stmt_layer g) (arm_layer g) e ∙ ap (λ (y : Arm-F Rest Stmt Arm). arm_layer g (opened_arm y)) h

    -- ---- a layer of parts for which it is known

    abbrev bare_stmt : Stmt-F SR SS SA → Stmt-F Rest Stmt Arm
    bare_stmt x = map-Stmt SR SS SA Rest Stmt Arm (λ e. e.0) (λ e. e.0) (λ e. e.0) x

    abbrev bare_rest : Rest-F SR SS SA → Rest-F Rest Stmt Arm
    bare_rest x = map-Rest SR SS SA Rest Stmt Arm (λ e. e.0) (λ e. e.0) (λ e. e.0) x

    abbrev bare_arm : Arm-F SR SS SA → Arm-F Rest Stmt Arm
    bare_arm x = map-Arm SR SS SA Rest Stmt Arm (λ e. e.0) (λ e. e.0) (λ e. e.0) x

    elaborated : (xs : List SS)
        → AllJ (map (bound_stmt w) (map (λ (e : SS). e.0) xs)) (map (stmt g) (map (λ (e : SS). e.0) xs))
    elaborated [] = tt
    elaborated (x ∷ xs) = (x.1, elaborated xs)

    armed_all : (xs : List SA)
        → AllA (map (bound_arm w) (map (λ (e : SA). e.0) xs)) (map (arm g) (map (λ (e : SA). e.0) xs))
    armed_all [] = tt
    armed_all (x ∷ xs) = (x.1, armed_all xs)

    abbrev elaborates_of : List SS → List (Elaborates g.Reported)
    elaborates_of xs = map (stmt g) (map (λ (e : SS). e.0) xs)

    abbrev count_of : List SS → ℕ
    count_of xs = bound_stmts w (map (λ (e : SS). e.0) xs)

    body_most : (s : Scope g.Reported) (a : Around g.Reported) (near : IsNear w s.level) (xs : List SS)
        → AtMost (weight_body w) (count_of xs) (all_of g s a (elaborates_of xs))
    body_most s a near xs =
        all_most s a near (map (bound_stmt w) (map (λ (e : SS). e.0) xs)) (elaborates_of xs) (elaborated xs)

    else_most : (s : Scope g.Reported) (a : Around g.Reported) (near : IsNear w s.level) (xs : List SS)
        → AtMost (weight_body_if w) (count_of xs) (all_if g s a (Some (elaborates_of xs)))
    else_most s a near xs =
        standing_most s a near (map (bound_stmt w) (map (λ (e : SS). e.0) xs)) (elaborates_of xs) (elaborated xs)

    no_else : (s : Scope g.Reported) (a : Around g.Reported) → AtMost (weight_body_if w) 0 (all_if g s a None)
    no_else s a = fine None (omega arith)

    call_most : (s : Scope g.Reported) (near : IsNear w s.level) (d : Designator) (args : Option (List Expr))
        → AtMost (weight_step w) (stmt_form w (layer.Call d args)) (call_statement g s (head g d) (args_meant g args))
    call_most s near d None = at_more (of_plain_call w d) (done_most w g s (node w ⊕ bound_designator w d) [] (head g d)
        [] (head_most w g s near d) tt)
    call_most s near d (Some es) =
        at_more (of_call_with w d es) (done_most w g s (node w ⊕ bound_designator w d) (map (bound_expr w) es)
        (head g d) (map (meanings_of g) es) (head_most w g s near d) (all_meant s near es))

    stmt_most_layer : (y : Stmt-F SR SS SA)
        → Elaborates_ (stmt_form w (bare_stmt y)) (stmt_layer g (opened_stmt (bare_stmt y)))
    stmt_most_layer (layer.Assign d e) = λ s a near.
        at_more (of_assign w d e) (assignment_most w g s (node w ⊕ bound_designator w d) (bound_expr w e) (head g d)
        (meanings_of g e).fixed.at (meanings_of g e) (head_most w g s near d) (meant_most w g s near e))
    stmt_most_layer (layer.Call d args) = λ s a near. call_most s near d args
    stmt_most_layer (layer.If c body follow) = λ s a near.
        at_more (of_if w c (map (λ (e : SS). e.0) body) follow.0)
        (chosen_most (bound_expr w c) (count_of body) (bound_rest w follow.0)
        (condition_most w g s (bound_expr w c) (meanings_of g c) (meant_most w g s near c)) (body_most s a near body)
        (follow.1 s a near))
    stmt_most_layer (layer.Case e arms None) = λ s a near.
        at_more (of_case w e (map (λ (e : SA). e.0) arms))
        (cased_most (bound_expr w e) (total_of w (map (bound_arm w) (map (λ (e : SA). e.0) arms))) 0 s
        (selected_most w g s (bound_expr w e) (meanings_of g e) (meant_most w g s near e))
        (all_arms s a near (base_in (case_selector g s (meanings_of g e))) _ (map (arm g) (map (λ (e : SA). e.0) arms))
        (armed_all arms)) (no_else s a))
    stmt_most_layer (layer.Case e arms (Some body)) = λ s a near.
        at_more (of_case_else w e (map (λ (e : SA). e.0) arms) (map (λ (e : SS). e.0) body))
        (cased_most (bound_expr w e) (total_of w (map (bound_arm w) (map (λ (e : SA). e.0) arms))) (count_of body) s
        (selected_most w g s (bound_expr w e) (meanings_of g e) (meant_most w g s near e))
        (all_arms s a near (base_in (case_selector g s (meanings_of g e))) _ (map (arm g) (map (λ (e : SA). e.0) arms))
        (armed_all arms)) (else_most s a near body))
    stmt_most_layer (layer.While c body) = λ s a near.
        at_more (of_while w c (map (λ (e : SS). e.0) body)) (while_most (bound_expr w c) (count_of body)
        (condition_most w g s (bound_expr w c) (meanings_of g c) (meant_most w g s near c))
        (body_most s a near body))
    stmt_most_layer (layer.Repeat body c) = λ s a near.
        at_more (of_repeat w (map (λ (e : SS). e.0) body) c) (until_most (bound_expr w c) (count_of body)
        (body_most s a near body) (condition_most w g s (bound_expr w c) (meanings_of g c)
        (meant_most w g s near c)))
    stmt_most_layer (layer.Loop body) = λ s a near. at_more (of_loop w (map (λ (e : SS). e.0) body))
        (looped_most (count_of body) (body_most s (in_loop a) near body))
    stmt_most_layer (layer.Exit at) = λ s a near. at_more (of_exit w at) (exited_most w g s at a)
    stmt_most_layer (layer.Return at e) = λ s a near. at_more (of_return w at e)
        (returned_most w g s (bound_if w e) at a.gives (meant_if g e) (known_if s near e))
    stmt_most_layer (layer.For name start limit by body) = λ s a near.
        at_more (of_for w name start limit by (map (λ (e : SS). e.0) body))
        (for_most w g s (bound_expr w start) (bound_expr w limit) (count_of body)
        (course_most w g s (bound_expr w start) (bound_expr w limit) name (meanings_of g start) (meanings_of g limit)
        (meant_if g by) near (meant_most w g s near start) (meant_most w g s near limit)) (body_most s a near body))
    stmt_most_layer (layer.With d body) = λ s a near.
        at_more (of_with w d (map (λ (e : SS). e.0) body))
        (ahead_most g _ (record_most w g s (node w ⊕ bound_designator w d) (head g d) (head_most w g s near d))
        (λ r k. with_most (node w ⊕ bound_designator w d) (count_of body) r.1 k
        (body_most (into_record s r.0) a near body)))

    rest_most_layer : (y : Rest-F SR SS SA)
        → Rest_ (rest_form w (bare_rest y)) (rest_layer g (opened_rest (bare_rest y)))
    rest_most_layer (layer.Elsif c body follow) = λ s a near.
        at_more (of_elsif w c (map (λ (e : SS). e.0) body) follow.0) (chosen_else_most _
        (chosen_most (bound_expr w c) (count_of body) (bound_rest w follow.0)
        (condition_most w g s (bound_expr w c) (meanings_of g c) (meant_most w g s near c)) (body_most s a near body)
        (follow.1 s a near)))
    rest_most_layer (layer.Else None) = λ s a near. at_more (omega arith) (no_else s a)
    rest_most_layer (layer.Else (Some body)) =
        λ s a near. at_more (of_else w (map (λ (e : SS). e.0) body)) (else_most s a near body)

    armed_most : (n m : ℕ) {ls : Result (List Label) g.Reported} {body : Result (List TypedStmt) g.Reported}
        → AtMost (λ (xs : List Label). length xs) n ls → AtMost (weight_body w) m body
        → AtMost (weight_arm w) (labels w n ⊕ m) (arm_of g ls body)
    armed_most n m p q =
        then_most (both_most g w (at_mapped {h = λ (xs : List Label). labels w (length xs)}
        (λ xs l. labels_less w (length xs) n l) p) q)
        (λ v l. fine (record { labels = v.0; body = v.1 }) (le_by _ _ (labels w n ⊕ m)
        (arm_sum w (record { labels = v.0; body = v.1 })) l))

    arm_most_layer : (y : Arm-F SR SS SA) → Arm_ (arm_form w (bare_arm y)) (arm_layer g (opened_arm (bare_arm y)))
    arm_most_layer y = λ s a base ranges near.
        at_more (of_arm w (bare_arm y))
        (armed_most (0 + sum_of size_label y.labels) (count_of y.body) (labels_most 0 s base y.labels (ranges, Ok [])
        (fine [] (omega arith))) (body_most s a near y.body))

    -- ---- the induction

    step_rest : (x : Rest-F Rest Stmt Arm) (y : Rest-F SR SS SA) → bare_rest y ≡ x → PR (roll-Rest x)
    step_rest x y q =
        let e = out-roll-Rest x ∙ sym q in
        subst (λ (n : ℕ). Rest_ n (rest g (roll-Rest x))) (sym (rest_opened w (roll-Rest x) (bare_rest y) e))
        (subst (Rest_ (rest_form w (bare_rest y))) (sym (at_rest (roll-Rest x) (bare_rest y) e))
        (rest_most_layer y))

    step_stmt : (x : Stmt-F Rest Stmt Arm) (y : Stmt-F SR SS SA) → bare_stmt y ≡ x → PS (roll-Stmt x)
    step_stmt x y q =
        let e = out-roll-Stmt x ∙ sym q in
        subst (λ (n : ℕ). Elaborates_ n (stmt g (roll-Stmt x))) (sym (stmt_opened w (roll-Stmt x) (bare_stmt y) e))
        (subst (Elaborates_ (stmt_form w (bare_stmt y))) (sym (at_stmt (roll-Stmt x) (bare_stmt y) e))
        (stmt_most_layer y))

    step_arm : (x : Arm-F Rest Stmt Arm) (y : Arm-F SR SS SA) → bare_arm y ≡ x → PA (roll-Arm x)
    step_arm x y q =
        let e = out-roll-Arm x ∙ sym q in
        subst (λ (n : ℕ). Arm_ n (arm g (roll-Arm x))) (sym (arm_opened w (roll-Arm x) (bare_arm y) e))
        (subst (Arm_ (arm_form w (bare_arm y))) (sym (at_arm (roll-Arm x) (bare_arm y) e)) (arm_most_layer y))

    pub stmt_most : (x : Stmt) → PS x
    stmt_most = ind-Stmt PR PS PA step_rest step_stmt step_arm

    from_written : (s : Scope g.Reported) (a : Around g.Reported) (near : IsNear w s.level) (k : ℕ) (xs : List Stmt)
        (so : Result (List TypedStmt) g.Reported) → AtMost (weight_body w) k so
        → AtMost (weight_body w) (k ⊕ weights_of w (bound_stmt w) xs) (fold (with_written g s a) so xs)
    from_written s a near k [] so p = at_more (no_more w (bound_stmt w) k) p
    from_written s a near k (x ∷ xs) so p =
        at_more (sum_again w (bound_stmt w) k x xs)
        (from_written s a near (k ⊕ bound_stmt w x) xs (with_written g s a so x)
        (next_most (weight_step w) k (bound_stmt w x) p (stmt_most x s a near)))

    pub statements_most : (s : Scope g.Reported) (a : Around g.Reported) (near : IsNear w s.level) (xs : List Stmt)
        → AtMost (weight_body w) (weights_of w (bound_stmt w) xs) (statements g s a xs)
    statements_most s a near xs =
        at_more (from_none w (weights_of w (bound_stmt w) xs))
        (from_written s a near 0 xs (Ok []) (fine [] (le_of _ 0 (none_of w (weight_step w)))))
