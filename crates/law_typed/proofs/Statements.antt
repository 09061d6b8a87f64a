-- The induction over statements: what is answered is the one typed tree that the rules give.
use Rattle.std.proofs.Common.{◌≡◌, ℕ, not, List, [], ◌∷◌, ◌++◌, ◌+◌, Option, Some, None, Result, Ok, Err, refl, sym, ap, subst, ◌∙◌, append-nil, append_assoc, length-append}
use Rattle.std.proofs.lemmas.Bool.{not-false}
use Rattle.std.specs.Prelude.{map, true}
use Rattle.std.specs.List.{fold}
use Rattle.std.specs.Option.{is_some}
use Rattle.m2_rule.specs.declared.rule.Rule.TheVariants as rule
use Rattle.m2_tree.specs.declared.pos.Pos.{Pos}
use Rattle.m2_tree.specs.declared.name.Ident.{Ident}
use Rattle.m2_tree.specs.declared.expr.Expr.{Expr}
use Rattle.m2_tree.specs.declared.expr.Designator.{Designator}
use Rattle.m2_tree.specs.declared.expr.Item.{Item}
use Rattle.m2_tree.specs.declared.stmt.Stmt.{Stmt, Stmt-F, out-Stmt}
use Rattle.m2_tree.specs.declared.stmt.Rest.{Rest, Rest-F, out-Rest}
use Rattle.m2_tree.specs.declared.stmt.Rest.TheOpen as layer
use Rattle.m2_tree.specs.declared.stmt.Arm.{Arm, out-Arm}
use Rattle.typed_tree.specs.declared.types.TypeNo.{TypeNo}
use Rattle.typed_tree.specs.declared.computed.Place.{Place}
use Rattle.typed_tree.specs.declared.computed.TypedExpr.{TypedExpr}
use Rattle.typed_tree.specs.declared.shape.Shape.{Shape}
use Rattle.typed_tree.specs.declared.shape.Shape.TheVariants as shape
use Rattle.typed_tree.specs.declared.statement.Label.{Label}
use Rattle.typed_tree.specs.declared.statement.TypedArm.{TypedArm}
use Rattle.typed_tree.specs.declared.statement.TypedStmt.{TypedStmt}
use Rattle.typed_tree.specs.declared.statement.TypedStmt.TheVariants as step
use Rattle.typed_tree.specs.Types.{boolean}
use Rattle.check_scope.specs.declared.scope.Scope.{Scope}
use Rattle.check_scope.specs.Elaborated.{Gathers, reported_where, reported_beside, ◌▷◌}
use Rattle.check_value.specs.declared.computed.Computed.{Computed}
use Rattle.check_value.specs.declared.computed.Designated.{Designated}
use Rattle.check_value.specs.declared.computed.Designated.TheVariants as designated
use Rattle.check_expr.specs.Meanings.{meanings_of, head, value_of}
use Rattle.check_stmt_parts.specs.declared.around.Around.{Around}
use Rattle.check_stmt_parts.specs.declared.control.Course.{Course}
use Rattle.check_stmt_parts.specs.Ranges.{Range}
use Rattle.check_stmt_parts.specs.Lists.{with_next, base_in, case_statement}
use Rattle.check_stmt_parts.specs.Simple.{meant_if, in_loop, given_back, return_statement, condition, record_by, record_of, into_record}
use Rattle.check_stmt.specs.Statements.{Elaborates, ElaboratesRest, ElaboratesArm, with_stmt, all_of, with_arm, arms_of, stmt_layer, rest_layer, stmt, rest, arm}
use Rattle.def_typing.specs.Parts.{Among, here, later}
use Rattle.def_typing.specs.Shapes.{shape_at, IsMade}
use Rattle.def_typing.specs.Things.{Standing}
use Rattle.def_typing.specs.Returns.{Giving, AResult, Nothing}
use Rattle.def_typing.specs.Statements.{arguments}
use Rattle.law_typing.specs.Judging.{Judges}
use Rattle.law_typing.specs.Exact.{KnowsResult, knows_nothing, knows_type, knows_broken}
use Rattle.law_typing.proofs.Combining.{Lawful}
use Rattle.law_typing.proofs.Shaping.{fields_is, fields_of, one_made}
use Rattle.law_typing.proofs.Inside.{spot_inside}
use Rattle.law_typing.proofs.Obeying.{opened_stmt, opened_rest, stmt_is, rest_is}
use Rattle.law_typing.proofs.Choosing.{arm_is}
use Rattle.law_typing.proofs.Trees.{statement_tree, IsStmtTree, tree_assignment, tree_action, tree_if, tree_case, tree_while, tree_repeat, tree_loop, tree_exit, tree_return, tree_for, tree_with, AreStmtTrees, no_statement, one_statement, IsRestTree, tree_elsif, tree_end, IsElseTree, tree_no_else, tree_else, AreArmTrees, no_arm_tree, one_arm_tree}
use Rattle.def_typed.specs.Named.{Variable}
use Rattle.def_typed.specs.Expressions.{Names, Gives}
use Rattle.def_typed.specs.Statements as rules
use Rattle.def_typed.specs.Statements.{Site, in_with, MeansStatement, MeansForm, AllMean, RestMeans, ArmsMean, AreLabels, Measures, Limits, Steps, Controls}
use Rattle.law_typed.specs.Typed.{IsOne, IsNamed, KnowsSite}
use Rattle.law_typed.proofs.Meant.{IfMeant, meant, not_meant, if_as, if_then, if_both, if_right, if_where, if_sorted, if_equal, if_ahead}
use Rattle.law_typed.proofs.Expressions.{designator_named}
use Rattle.law_typed.proofs.Assigning.{yielded, yielded_at, assigned}
use Rattle.law_typed.proofs.Measuring.{IsMeasured, selector_measured}
use Rattle.law_typed.proofs.Acting.{acted}
use Rattle.law_typed.proofs.Looping.{IsCourse, course_so}
use Rattle.law_typed.proofs.Labels.{labels_so}
use Rattle.law_typed.proofs.Inside.{grasps_inside}

module _ (g : Gathers) (j : Judges g) (lawful : Lawful g j) (exports : ℕ → Ident → Standing) where
  abbrev Known : Site → Scope g.Reported → Around g.Reported → Type 0
  Known = KnowsSite g j exports

  module _ (w : Site) (s : Scope g.Reported) (a : Around g.Reported) where
    abbrev R : Stmt-F Rest Stmt Arm → TypedStmt → Type 0
    R = MeansForm s.types exports w

    abbrev All : List Stmt → List TypedStmt → Type 0
    All = AllMean s.types exports w

    abbrev RM : Rest-F Rest Stmt Arm → Option (List TypedStmt) → Type 0
    RM = RestMeans s.types exports w

    abbrev Y : TypeNo → Expr → TypedExpr → Type 0
    Y = Gives s.types w.spot.names exports w.senses

    abbrev StmtSo : Stmt → Type 0
    StmtSo x = IfMeant (IsOne (MeansStatement s.types exports w x)) (stmt g x s a)

    abbrev LayerSo : Stmt-F Rest Stmt Arm → Type 0
    LayerSo y = IfMeant (IsOne (R y)) (stmt_layer g (opened_stmt g y) s a)

    abbrev ListSo : List Stmt → Type 0
    ListSo xs = IfMeant (IsOne (All xs)) (all_of g s a (map (stmt g) xs))

    abbrev RestSo : Rest → Type 0
    RestSo x = IfMeant (IsOne (RM (out-Rest x))) (rest g x s a)

    abbrev RestLayerSo : Rest-F Rest Stmt Arm → Type 0
    RestLayerSo y = IfMeant (IsOne (RM y)) (rest_layer g (opened_rest g y) s a)

    read : {x : Stmt} {z : TypedStmt} → MeansStatement s.types exports w x z → R (out-Stmt x) z
    read (rules.as_written r) = r

    by_layer : {x : Stmt} (y : Stmt-F Rest Stmt Arm) → out-Stmt x ≡ y → LayerSo y → StmtSo x
    by_layer {x = x} y h c = subst (λ (q : Elaborates g.Reported). IfMeant (IsOne (MeansStatement s.types exports w x))
        (q s a)) (sym (stmt_is g x y h)) (if_as (λ z o. one o) c)
      where
        one : {z : TypedStmt} → IsOne (R y) z → IsOne (MeansStatement s.types exports w x) z
        one {z = z} o = record {
          holds = rules.as_written (subst (λ (y : Stmt-F Rest Stmt Arm). R y z) (sym h) o.holds);
          alone = λ v m. o.alone v (subst (λ (y : Stmt-F Rest Stmt Arm). R y v) h (read m));
        }

    by_rest : (x : Rest) (y : Rest-F Rest Stmt Arm) → out-Rest x ≡ y → RestLayerSo y → RestSo x
    by_rest x y h c = subst (λ (q : ElaboratesRest g.Reported). IfMeant (IsOne (RM (out-Rest x))) (q s a))
        (sym (rest_is g x y h)) (subst (λ (z : Rest-F Rest Stmt Arm). IfMeant (IsOne (RM z))
        (rest_layer g (opened_rest g y) s a)) (sym h) c)

    -- ---- lists

    broken_list : {Q : List TypedStmt → Type 0} (xs : List Stmt) (r : g.Reported)
        → IfMeant Q (fold (with_stmt g s a) (Err r) (map (stmt g) xs))
    broken_list [] r = not_meant r
    broken_list (x ∷ xs) r = by_stmt (stmt g x s a) (λ q. broken_list xs q)
      where
        by_stmt : {Q : List TypedStmt → Type 0} (z : Result TypedStmt g.Reported)
            → ((q : g.Reported) → IfMeant Q (fold (with_stmt g s a) (Err q) (map (stmt g) xs)))
            → IfMeant Q (fold (with_stmt g s a) (with_next g (Err r) z) (map (stmt g) xs))
        by_stmt (Ok z) h = h r
        by_stmt (Err q) h = h (g.join r q)

    abbrev Listed : List TypedStmt → List Stmt → List TypedStmt → Type 0
    Listed so xs zs = (ys : List TypedStmt) × (zs ≡ so ++ ys) × IsOne (All xs) ys

    list_from : (xs : List Stmt) (so : List TypedStmt) → ((x : Stmt) → Among x xs → StmtSo x)
        → IfMeant (Listed so xs) (fold (with_stmt g s a) (Ok so) (map (stmt g) xs))
    list_from [] so h = meant so (
      [],
      sym (append-nil so),
      record { holds = rules.no_statement; alone = λ ys r. alone ys r },
    )
      where
        alone : (ys : List TypedStmt) → All [] ys → ys ≡ []
        alone _ rules.no_statement = refl
    list_from (x ∷ xs) so h = by_stmt (λ to. list_from xs to (λ y m. h y (later m))) (h x here)
      where
        joined : {z : TypedStmt} {zs : List TypedStmt} → IsOne (MeansStatement s.types exports w x) z
            → Listed (so ++ z ∷ []) xs zs → Listed so (x ∷ xs) zs
        joined {z = z} o r = (
          z ∷ r.0,
          r.1 ∙ append_assoc so (z ∷ []) r.0,
          record { holds = rules.one_statement o.holds r.2.holds; alone = λ ys a. alone ys a },
        )
          where
            alone : (ys : List TypedStmt) → All (x ∷ xs) ys → ys ≡ z ∷ r.0
            alone _ (rules.one_statement {x = y} {xs = ys} p q) = cc (o.alone y p, r.2.alone ys q)

        by_stmt : {z : Result TypedStmt g.Reported}
            → ((to : List TypedStmt) → IfMeant (Listed to xs) (fold (with_stmt g s a) (Ok to) (map (stmt g) xs)))
            → IfMeant (IsOne (MeansStatement s.types exports w x)) z
            → IfMeant (Listed so (x ∷ xs)) (fold (with_stmt g s a) (with_next g (Ok so) z) (map (stmt g) xs))
        by_stmt r (meant z o) = if_as (λ zs q. joined o q) (r (so ++ z ∷ []))
        by_stmt r (not_meant k) = broken_list xs k

    pub list_so : (xs : List Stmt) → ((x : Stmt) → Among x xs → StmtSo x) → ListSo xs
    list_so xs h = if_as (λ zs r. subst (IsOne (All xs)) (sym r.1) r.2) (list_from xs [] h)

    -- ---- what an IF, a WHILE and a REPEAT are made of

    if_one : {c : Expr} {body : List Stmt} {r : Rest} {x : TypedExpr} {xs : List TypedStmt}
        {o : Option (List TypedStmt)} → IsOne (Y boolean c) x → IsOne (All body) xs → IsOne (RM (out-Rest r)) o
        → IsOne (R (layer.If c body r)) (step.If x xs o)
    if_one {c = c} {body = body} {r = r} {x = x} {xs = xs} {o = o} p q u =
        record { holds = rules.choice p.holds q.holds u.holds; alone = λ z m. alone m }
      where
        alone : {z : TypedStmt} → R (layer.If c body r) z → z ≡ step.If x xs o
        alone (rules.choice {x = y} {xs = ys} {otherwise = e} k l m) = cc (p.alone y k, q.alone ys l, u.alone e m)

    elsif_one : {c : Expr} {body : List Stmt} {r : Rest} {x : TypedExpr} {xs : List TypedStmt}
        {o : Option (List TypedStmt)} → IsOne (Y boolean c) x → IsOne (All body) xs → IsOne (RM (out-Rest r)) o
        → IsOne (RM (layer.Elsif c body r)) (Some (step.If x xs o ∷ []))
    elsif_one {c = c} {body = body} {r = r} {x = x} {xs = xs} {o = o} p q u =
        record { holds = rules.elsif p.holds q.holds u.holds; alone = λ z m. alone m }
      where
        alone : {z : Option (List TypedStmt)} → RM (layer.Elsif c body r) z → z ≡ Some (step.If x xs o ∷ [])
        alone (rules.elsif {x = y} {xs = ys} {otherwise = e} k l m) = cc (p.alone y k, q.alone ys l, u.alone e m)

    no_else_one : IsOne (RM (layer.Else None)) None
    no_else_one = record { holds = rules.no_else; alone = λ z m. alone m }
      where
        alone : {z : Option (List TypedStmt)} → RM (layer.Else None) z → z ≡ None
        alone rules.no_else = refl

    else_one : {body : List Stmt} {xs : List TypedStmt} → IsOne (All body) xs
        → IsOne (RM (layer.Else (Some body))) (Some xs)
    else_one {body = body} {xs = xs} p = record { holds = rules.an_else p.holds; alone = λ z m. alone m }
      where
        alone : {z : Option (List TypedStmt)} → RM (layer.Else (Some body)) z → z ≡ Some xs
        alone (rules.an_else {xs = ys} k) = cc (p.alone ys k)

    while_one : {c : Expr} {body : List Stmt} {x : TypedExpr} {xs : List TypedStmt} → IsOne (Y boolean c) x
        → IsOne (All body) xs → IsOne (R (layer.While c body)) (step.While x xs)
    while_one {c = c} {body = body} {x = x} {xs = xs} p q =
        record { holds = rules.while_loop p.holds q.holds; alone = λ z m. alone m }
      where
        alone : {z : TypedStmt} → R (layer.While c body) z → z ≡ step.While x xs
        alone (rules.while_loop {x = y} {xs = ys} k l) = cc (p.alone y k, q.alone ys l)

    repeat_one : {c : Expr} {body : List Stmt} {x : TypedExpr} {xs : List TypedStmt} → IsOne (All body) xs
        → IsOne (Y boolean c) x → IsOne (R (layer.Repeat body c)) (step.Repeat xs x)
    repeat_one {c = c} {body = body} {x = x} {xs = xs} q p =
        record { holds = rules.repeat_loop q.holds p.holds; alone = λ z m. alone m }
      where
        alone : {z : TypedStmt} → R (layer.Repeat body c) z → z ≡ step.Repeat xs x
        alone (rules.repeat_loop {xs = ys} {x = y} l k) = cc (p.alone y k, q.alone ys l)

    assign_one : {d : Designator} {e : Expr} {x : TypedStmt} → IsOne (rules.Assigns s.types exports w d e) x
        → IsOne (R (layer.Assign d e)) x
    assign_one {d = d} {e = e} {x = x} o = record { holds = rules.assignment o.holds; alone = λ z m. alone m }
      where
        alone : {z : TypedStmt} → R (layer.Assign d e) z → z ≡ x
        alone {z = z} (rules.assignment m) = o.alone z m

    call_one : {d : Designator} {args : Option (List Expr)} {x : TypedStmt}
        → IsOne (rules.Acts s.types exports w d (arguments args)) x → IsOne (R (layer.Call d args)) x
    call_one {d = d} {args = args} {x = x} o = record { holds = rules.call o.holds; alone = λ z m. alone m }
      where
        alone : {z : TypedStmt} → R (layer.Call d args) z → z ≡ x
        alone {z = z} (rules.call m) = o.alone z m

    exit_one : {at : Pos} → w.spot.in_loop ≡ true → IsOne (R (layer.Exit at)) step.Exit
    exit_one {at = at} h = record { holds = rules.exit h; alone = λ z m. alone m }
      where
        alone : {z : TypedStmt} → R (layer.Exit at) z → z ≡ step.Exit
        alone (rules.exit e) = refl

    -- ---- what a CASE is made of

    abbrev AM : TypeNo → List Arm → List TypedArm → Type 0
    AM = ArmsMean s.types exports w

    case_one : {e : Expr} {arms : List Arm} {last : Option (List Stmt)} {q : TypeNo × TypedExpr} {xs : List TypedArm}
        {o : Option (List TypedStmt)} (k : Known w s a)
        → IsMeasured g j lawful exports w s k.of_spot.of_names k.of_senses e q → IsOne (AM q.0 arms) xs
        → IsOne (RM (layer.Else last)) o → IsOne (R (layer.Case e arms last)) (step.Case q.1 xs o)
    case_one {e = e} {arms = arms} {last = last} {q = q} {xs = xs} {o = o} k i p u =
        record { holds = rules.selection i.holds p.holds u.holds; alone = λ z m. alone m }
      where
        alone : {z : TypedStmt} → R (layer.Case e arms last) z → z ≡ step.Case q.1 xs o
        alone (rules.selection {base = t} {x = y} {xs = ys} {otherwise = v} l m n) = let z = i.alone t y l in
            let h = p.alone ys (subst (λ (t : TypeNo). AM t arms ys) z.0 m) in cc (z.1, h, u.alone v n)

    abbrev Ls : TypeNo → List Item → List Label → Type 0
    Ls = AreLabels s.types exports w

    abbrev ArmIs : TypeNo → Arm → TypedArm → Type 0
    ArmIs base x y = IsOne (Ls base (out-Arm x).labels) y.labels × IsOne (All (out-Arm x).body) y.body

    arm_so : (k : Known w s a) (base : TypeNo) (x : Arm) (rs : List Range) → ListSo (out-Arm x).body
        → IfMeant (ArmIs base x) (arm g x s a (Some base) rs).1
    arm_so k base x rs h = subst (λ (q : ElaboratesArm g.Reported). IfMeant (ArmIs base x) (q s a (Some base) rs).1)
        (sym (arm_is g x))
        (if_then (if_both g (labels_so g j lawful exports w s k.of_spot.of_names base (out-Arm x).labels rs) h)
        (λ p q. meant _ q))

    broken_arms : {Q : List TypedArm → Type 0} (base : Option TypeNo) (xs : List Arm) (rs : List Range) (r : g.Reported)
        → IfMeant Q (fold (with_arm g s a base) (rs, Err r) (map (arm g) xs)).1
    broken_arms base [] rs r = not_meant r
    broken_arms base (x ∷ xs) rs r = by_arm _ (arm g x s a base rs).1 (λ qs q. broken_arms base xs qs q)
      where
        by_arm : {Q : List TypedArm → Type 0} (qs : List Range) (z : Result TypedArm g.Reported)
            → ((qs : List Range) (q : g.Reported)
            → IfMeant Q (fold (with_arm g s a base) (qs, Err q) (map (arm g) xs)).1)
            → IfMeant Q (fold (with_arm g s a base) (qs, with_next g (Err r) z) (map (arm g) xs)).1
        by_arm qs (Ok z) h = h qs r
        by_arm qs (Err q) h = h qs (g.join r q)

    abbrev Armed : TypeNo → List TypedArm → List Arm → List TypedArm → Type 0
    Armed base so xs zs = (ys : List TypedArm) × (zs ≡ so ++ ys) × IsOne (AM base xs) ys

    same_arm : (y : TypedArm) (ls : List Label) (xs : List TypedStmt) → ls ≡ y.labels → xs ≡ y.body
        → ◌≡◌ {A = TypedArm} (record { labels = ls; body = xs }) y
    same_arm y ls xs p q = ap (λ (z : List Label). let k : TypedArm = record { labels = z; body = xs } in k) p
        ∙ ap (λ (z : List TypedStmt). let k : TypedArm = record { labels = y.labels; body = z } in k) q

    arms_from : (k : Known w s a) (base : TypeNo) (xs : List Arm) (rs : List Range) (so : List TypedArm)
        → ((x : Arm) → Among x xs → ListSo (out-Arm x).body)
        → IfMeant (Armed base so xs) (fold (with_arm g s a (Some base)) (rs, Ok so) (map (arm g) xs)).1
    arms_from k base [] rs so h = meant so
        ([], sym (append-nil so), record { holds = rules.no_arm; alone = λ ys r. alone ys r })
      where
        alone : (ys : List TypedArm) → AM base [] ys → ys ≡ []
        alone _ rules.no_arm = refl
    arms_from k base (x ∷ xs) rs so h = by_arm _ (λ qs to. arms_from k base xs qs to (λ y m. h y (later m)))
        (arm_so k base x rs (h x here))
      where
        joined : {z : TypedArm} {zs : List TypedArm} → ArmIs base x z → Armed base (so ++ z ∷ []) xs zs
            → Armed base so (x ∷ xs) zs
        joined {z = z} o r = (
          z ∷ r.0,
          r.1 ∙ append_assoc so (z ∷ []) r.0,
          record { holds = rules.one_arm o.0.holds o.1.holds r.2.holds; alone = λ ys a. alone ys a },
        )
          where
            alone : (ys : List TypedArm) → AM base (x ∷ xs) ys → ys ≡ z ∷ r.0
            alone _ (rules.one_arm {ls = ls} {xs = zs} {ys = ys} p q m) = let h =
                same_arm z ls zs (o.0.alone ls p) (o.1.alone zs q) in cc (h, r.2.alone ys m)

        by_arm : (qs : List Range) {z : Result TypedArm g.Reported}
            → ((qs : List Range) (to : List TypedArm)
            → IfMeant (Armed base to xs) (fold (with_arm g s a (Some base)) (qs, Ok to) (map (arm g) xs)).1)
            → IfMeant (ArmIs base x) z → IfMeant (Armed base so (x ∷ xs))
            (fold (with_arm g s a (Some base)) (qs, with_next g (Ok so) z) (map (arm g) xs)).1
        by_arm qs r (meant z o) = if_as (λ zs q. joined o q) (r qs (so ++ z ∷ []))
        by_arm qs r (not_meant q) = broken_arms (Some base) xs qs q

    arms_so : (k : Known w s a) (base : TypeNo) (xs : List Arm) → ((x : Arm) → Among x xs → ListSo (out-Arm x).body)
        → IfMeant (IsOne (AM base xs)) (arms_of g s a (Some base) (map (arm g) xs))
    arms_so k base xs h = if_as (λ zs r. subst (IsOne (AM base xs)) (sym r.1) r.2) (arms_from k base xs [] [] h)

    -- ---- RETURN

    abbrev returned : Giving → Option Expr → TypedStmt → Type 0
    returned r None z = (r ≡ Nothing) × (z ≡ step.Return)
    returned r (Some e) z = (t : TypeNo) × (x : TypedExpr) × (r ≡ AResult t) × Y t e x × (z ≡ step.Give t x)

    return_out : {at : Pos} {e : Option Expr} {z : TypedStmt} → R (layer.Return at e) z → returned w.spot.gives e z
    return_out (rules.return h) = (h, refl)
    return_out (rules.give {t = t} {x = x} h y) = (t, x, h, y, refl)

    give_one : {at : Pos} {e : Expr} {t : TypeNo} {x : TypedExpr} → w.spot.gives ≡ AResult t → IsOne (Y t e) x
        → IsOne (R (layer.Return at (Some e))) (step.Give t x)
    give_one {at = at} {e = e} {t = t} {x = x} h o =
        record { holds = rules.give h o.holds; alone = λ z m. alone (return_out m) }
      where
        alone : {z : TypedStmt} → returned w.spot.gives (Some e) z → z ≡ step.Give t x
        alone (u, y, q, m, d) = let i : AResult u ≡ AResult t = sym q ∙ h in let n : u ≡ t = cc i in
            let l = o.alone y (subst (λ (t : TypeNo). Y t e y) n m) in cc (d, n, l)

    given_so : (k : Known w s a) (at : Pos) (e : Expr) {r : Giving} {o : Option (Result TypeNo g.Reported)}
        → w.spot.gives ≡ r → KnowsResult g j r o
        → IfMeant (IsOne (R (layer.Return at (Some e)))) (return_statement g s at o (Some (meanings_of g e)))
    given_so k at e q knows_nothing = refused (value_of g s (meanings_of g e) ▷ λ v. Ok tt)
      where
        refused : (r : Result (Unit {0}) g.Reported)
            → IfMeant (IsOne (R (layer.Return at (Some e)))) (reported_beside g {A = TypedStmt} at rule.WrongReturn r)
        refused (Ok u) = not_meant _
        refused (Err z) = not_meant _
    given_so k at e q (knows_type t) = if_right g _ t (if_equal (value_of g s (meanings_of g e)))
        (λ v h. if_then (yielded_at g j lawful exports w s k.of_spot.of_names k.of_senses rule.NotAssignable t _ e v h)
        (λ x o. meant _ (give_one q o)))
    given_so k at e q (knows_broken r) = refused (value_of g s (meanings_of g e))
      where
        refused : (v : Result Computed g.Reported)
            → IfMeant (IsOne (R (layer.Return at (Some e)))) (given_back g s.types (Err r) (meanings_of g e).fixed.at v)
        refused (Ok v) = not_meant _
        refused (Err z) = not_meant _

    bare_return_so : (at : Pos) {r : Giving} {o : Option (Result TypeNo g.Reported)} → w.spot.gives ≡ r
        → KnowsResult g j r o → IfMeant (IsOne (R (layer.Return at None))) (return_statement g s at o None)
    bare_return_so at q knows_nothing = meant _ (record { holds = rules.return q; alone = λ z m. (return_out m).1 })
    bare_return_so at q (knows_type t) = not_meant _
    bare_return_so at q (knows_broken r) = not_meant _

    return_so : (k : Known w s a) (at : Pos) (e : Option Expr)
        → IfMeant (IsOne (R (layer.Return at e))) (return_statement g s at a.gives (meant_if g e))
    return_so k at None = bare_return_so at refl k.of_spot.of_result
    return_so k at (Some e) = given_so k at e refl k.of_spot.of_result

    -- ---- FOR

    for_one : (k : Known w s a) (name : Ident) (start limit : Expr) (by : Option Expr) {body : List Stmt} {c : Course}
        {xs : List TypedStmt} → IsCourse g j lawful exports w s k.of_spot.of_names k.of_senses k.of_spot.of_own name
        start limit by c → IsOne (All body) xs
        → IsOne (R (layer.For name start limit by body)) (step.For c.control.place c.control.of c.start c.limit c.by xs)
    for_one k name start limit by {body = body} {c = c} {xs = xs} i o = record {
      holds = rules.for_loop i.control.control i.control.place i.starts.holds
          (subst (λ (b : TypeNo). Limits s.types exports w b limit c.limit) i.control.base i.limits.holds) i.steps.holds
          o.holds;
      alone = λ z m. alone m;
    }
      where
        alone : {z : TypedStmt} → R (layer.For name start limit by body) z
            → z ≡ step.For c.control.place c.control.of c.start c.limit c.by xs
        alone (rules.for_loop {t = t} {r = r} {place = p} {x = x} {y = y} {n = n} {xs = ys} m q u l d b) =
            let z = i.control.one t r m in
            let h1 = i.control.one_place t p q in
            let h2 = i.starts.alone x (subst (λ (t : TypeNo). Y t start x) z.0 u) in
            let h3 = i.limits.alone y (subst (λ (b : TypeNo). Limits s.types exports w b limit y) z.1 l) in
            let h4 = i.steps.alone n d in
            cc (z.0, h1, h2, h3, h4, o.alone ys b)

  -- ---- LOOP and WITH

  loop_one : {w : Site} (s : Scope g.Reported) {body : List Stmt} {xs : List TypedStmt}
      → IsOne (AllMean s.types exports (rules.in_loop w) body) xs
      → IsOne (MeansForm s.types exports w (layer.Loop body)) (step.Loop xs)
  loop_one {w = w} s {body = body} {xs = xs} o = record { holds = rules.bare_loop o.holds; alone = λ z m. alone m }
    where
      alone : {z : TypedStmt} → MeansForm s.types exports w (layer.Loop body) z → z ≡ step.Loop xs
      alone (rules.bare_loop {xs = ys} m) = cc (o.alone ys m)

  looping : {w : Site} {s : Scope g.Reported} {a : Around g.Reported} → Known w s a
      → Known (rules.in_loop w) s (in_loop a)
  looping k = record {
    of_spot = record {
      of_names = k.of_spot.of_names;
      of_own = k.of_spot.of_own;
      of_result =
          k.of_spot.of_result;
      of_loop = refl;
    };
    of_senses = k.of_senses;
    of_withs = k.of_withs;
  }

  inside : {w : Site} {s : Scope g.Reported} {a : Around g.Reported} (t : TypeNo) (fields : List (List ℕ × TypeNo))
      → IsMade s.types t (shape.Record fields) → Known w s a → Known (in_with t fields w) (into_record s t) a
  inside {w = w} {s = s} t fields m k = record {
    of_spot = spot_inside g j s t fields m k.of_spot;
    of_senses = grasps_inside g w.senses s t fields m k.of_senses w.withs k.of_withs;
    of_withs = ap (λ (n : ℕ). n + 1) k.of_withs ∙ sym (length-append s.withs _);
  }

  module _ (w : Site) (s : Scope g.Reported) (a : Around g.Reported) (k : Known w s a) (d : Designator)
      (body : List Stmt) where
    abbrev IsRecord : TypeNo × Place → Type 0
    IsRecord q = IsNamed (Names s.types w.spot.names exports w.senses d) (designated.Variable q.0 q.1)
        × (fields : List (List ℕ × TypeNo)) × IsMade s.types q.0 (shape.Record fields)

    record_at : (at : Pos) (x : Designated) → IsNamed (Names s.types w.spot.names exports w.senses d) x
        → IfMeant IsRecord (record_by g s.types at x)
    record_at at (designated.Variable t p) n =
        subst (λ (o : Option (List (List ℕ × TypeNo))). IfMeant IsRecord
        (reported_where g (not (is_some o)) at rule.WrongType (Ok (t, p)))) (sym (fields_is s.types t))
        (by_shape (shape_at s.types t) refl)
      where
        by_shape : (z : Option Shape) → shape_at s.types t ≡ z
            → IfMeant IsRecord (reported_where g (not (is_some (fields_of z))) at rule.WrongType (Ok (t, p)))
        by_shape None q = not_meant _
        by_shape (Some (shape.Record fs)) q = meant _ (n, fs, q)
        by_shape (Some (shape.Array i u)) q = not_meant _
        by_shape (Some (shape.Open u)) q = not_meant _
        by_shape (Some (shape.Scalar r)) q = not_meant _
        by_shape (Some shape.Set) q = not_meant _
        by_shape (Some (shape.Procedure h)) q = not_meant _
    record_at at (designated.Value v) n = not_meant _
    record_at at (designated.Open t u) n = not_meant _
    record_at at (designated.Type t) n = not_meant _
    record_at at (designated.Procedure p) n = not_meant _
    record_at at (designated.Nested p) n = not_meant _
    record_at at (designated.Standard f) n = not_meant _
    record_at at (designated.Module m) n = not_meant _

    record_so : IfMeant IsRecord (record_of g s (head g d))
    record_so = if_then (if_sorted g _ rule.WrongType
        (designator_named g j lawful w.spot.names exports w.senses s k.of_spot.of_names k.of_senses d))
        (λ x n. record_at _ x n)

    abbrev Inner : TypeNo → List (List ℕ × TypeNo) → List TypedStmt → Type 0
    Inner t fields = AllMean s.types exports (in_with t fields w) body

    with_one : {t : TypeNo} {p : Place} {fields : List (List ℕ × TypeNo)} {xs : List TypedStmt}
        → IsNamed (Names s.types w.spot.names exports w.senses d) (designated.Variable t p)
        → IsMade s.types t (shape.Record fields) → IsOne (Inner t fields) xs
        → IsOne (MeansForm s.types exports w (layer.With d body)) (step.With p xs)
    with_one {t = t} {p = p} {fields = fields} {xs = xs} n m o =
        record { holds = rules.with_record (n.holds (Variable t p) refl) m o.holds; alone = λ z h. alone h }
      where
        same_fields : {fs : List (List ℕ × TypeNo)} → shape.Record fs ≡ shape.Record fields → fs ≡ fields
        same_fields e = cc e

        alone : {z : TypedStmt} → MeansForm s.types exports w (layer.With d body) z → z ≡ step.With p xs
        alone (rules.with_record {t = u} {place = q} {fields = fs} {xs = ys} v i b) =
            let z = n.alone (Variable u q) v in
            let h1 : u ≡ t = cc z in
            let h2 : q ≡ p = cc z in
            let h3 = same_fields (one_made s.types t (subst (λ (u : TypeNo). IsMade s.types u (shape.Record fs)) h1 i)
            m) in
            let h4 = o.alone ys (subst (λ (fs : List (List ℕ × TypeNo)). Inner t fs ys) h3
            (subst (λ (u : TypeNo). Inner u fs ys) h1 b)) in
            cc (h2, h4)

    with_so : ((v : Site) (q : Scope g.Reported) → Known v q a → ListSo v q a body) → LayerSo w s a (layer.With d body)
    with_so h = if_ahead g _ record_so (λ r i. if_then
        (h (in_with r.0 i.1 w) (into_record s r.0) (inside r.0 i.1 i.2 k)) (λ xs o. meant _ (with_one i.0 i.2 o)))

  -- ---- all statements

  refused_case : {Q : TypedStmt → Type 0} (r : g.Reported) (x : Result (List TypedArm) g.Reported)
      (y : Result (Option (List TypedStmt)) g.Reported) → IfMeant Q (case_statement g (Err r) x y)
  refused_case r (Ok x) (Ok y) = not_meant _
  refused_case r (Ok x) (Err q) = not_meant _
  refused_case r (Err q) (Ok y) = not_meant _
  refused_case r (Err q) (Err z) = not_meant _

  case_so : (w : Site) (s : Scope g.Reported) (a : Around g.Reported) (k : Known w s a) (e : Expr) (arms : List Arm)
      (last : Option (List Stmt)) {y : Result (Option (List TypedStmt)) g.Reported}
      {r : Result (TypeNo × TypedExpr) g.Reported}
      → IfMeant (IsMeasured g j lawful exports w s k.of_spot.of_names k.of_senses e) r
      → ((x : Arm) → Among x arms → ListSo w s a (out-Arm x).body)
      → IfMeant (IsOne (RestMeans s.types exports w (layer.Else last))) y
      → IfMeant (IsOne (MeansForm s.types exports w (layer.Case e arms last)))
      (case_statement g r (arms_of g s a (base_in r) (map (arm g) arms)) y)
  case_so w s a k e arms last (meant q i) h o =
      if_then (if_both g {P = λ v. v ≡ q} (meant q refl) (if_both g (arms_so w s a k q.0 arms h) o))
      (λ p u. meant _ (subst (λ (v : TypeNo × TypedExpr). IsOne (MeansForm s.types exports w (layer.Case e arms last))
      (step.Case v.1 p.1.0 p.1.1)) (sym u.0) (case_one w s a k i u.1.0 u.1.1)))
  case_so w s a k e arms last (not_meant r) h o = refused_case r _ _

  call_so : (w : Site) (s : Scope g.Reported) (a : Around g.Reported) (k : Known w s a) (d : Designator)
      (args : Option (List Expr)) → LayerSo w s a (layer.Call d args)
  call_so w s a k d None = if_as (λ x o. call_one w s a o)
      (acted g j lawful exports w s k.of_spot.of_names k.of_senses d [])
  call_so w s a k d (Some args) = if_as (λ x o. call_one w s a o)
      (acted g j lawful exports w s k.of_spot.of_names k.of_senses d args)

  condition_so : (w : Site) (s : Scope g.Reported) (a : Around g.Reported) (k : Known w s a) (c : Expr)
      → IfMeant (IsOne (Gives s.types w.spot.names exports w.senses boolean c)) (condition g s (meanings_of g c))
  condition_so w s a k c = yielded g j lawful exports w s k.of_spot.of_names k.of_senses rule.WrongType boolean _ c

  mutual
    stmt_so : {x : Stmt} → IsStmtTree x → (w : Site) (s : Scope g.Reported) (a : Around g.Reported) → Known w s a
        → StmtSo w s a x
    stmt_so (tree_assignment {d = d} {e = e} h) w s a k =
        by_layer w s a (layer.Assign d e) h (if_as (λ x o. assign_one w s a o)
        (assigned g j lawful exports w s k.of_spot.of_names k.of_senses d e))
    stmt_so (tree_action {d = d} {args = args} h) w s a k =
        by_layer w s a (layer.Call d args) h (call_so w s a k d args)
    stmt_so (tree_if {c = c} {body = body} {rest = r} h b q) w s a k = by_layer w s a (layer.If c body r) h
        (if_then (if_both g (condition_so w s a k c)
        (if_both g (list_so w s a body (each_so b w s a k)) (rest_so q w s a k)))
        (λ p o. meant _ (if_one w s a o.0 o.1.0 o.1.1)))
    stmt_so (tree_case {e = e} {arms = arms} {otherwise = None} h b q) w s a k =
        by_layer w s a (layer.Case e arms None) h
        (case_so w s a k e arms None (selector_measured g j lawful exports w s k.of_spot.of_names k.of_senses e)
        (arm_bodies b w s a k) (else_so q w s a k))
    stmt_so (tree_case {e = e} {arms = arms} {otherwise = Some body} h b q) w s a k =
        by_layer w s a (layer.Case e arms (Some body)) h
        (case_so w s a k e arms (Some body) (selector_measured g j lawful exports w s k.of_spot.of_names k.of_senses e)
        (arm_bodies b w s a k) (else_so q w s a k))
    stmt_so (tree_while {c = c} {body = body} h b) w s a k = by_layer w s a (layer.While c body) h
        (if_then (if_both g (condition_so w s a k c) (list_so w s a body (each_so b w s a k)))
        (λ p o. meant _ (while_one w s a o.0 o.1)))
    stmt_so (tree_repeat {body = body} {c = c} h b) w s a k = by_layer w s a (layer.Repeat body c) h
        (if_then (if_both g (list_so w s a body (each_so b w s a k)) (condition_so w s a k c))
        (λ p o. meant _ (repeat_one w s a o.0 o.1)))
    stmt_so (tree_loop {body = body} h b) w s a k = by_layer w s a (layer.Loop body) h
        (if_then (list_so (rules.in_loop w) s (in_loop a) body (each_so b (rules.in_loop w) s (in_loop a) (looping k)))
        (λ xs o. meant _ (loop_one s o)))
    stmt_so (tree_exit {at = at} h) w s a k =
        by_layer w s a (layer.Exit at) h (if_where g (not a.in_loop) at rule.LonelyExit
        (λ q. meant _ (exit_one w s a (k.of_spot.of_loop ∙ not-false a.in_loop q))))
    stmt_so (tree_return {at = at} {e = e} h) w s a k = by_layer w s a (layer.Return at e) h (return_so w s a k at e)
    stmt_so (tree_for {name = name} {start = start} {limit = limit} {by = by} {body = body} h b) w s a k =
        by_layer w s a (layer.For name start limit by body) h
        (if_then (if_both g (course_so g j lawful exports w s k.of_spot.of_names k.of_senses k.of_spot.of_own name start
        limit by) (list_so w s a body (each_so b w s a k)))
        (λ p o. meant _ (for_one w s a k name start limit by o.0 o.1)))
    stmt_so (tree_with {d = d} {body = body} h b) w s a k =
        by_layer w s a (layer.With d body) h (with_so w s a k d body (λ v q z. list_so v q a body (each_so b v q a z)))

    each_so : {xs : List Stmt} → AreStmtTrees xs → (w : Site) (s : Scope g.Reported) (a : Around g.Reported)
        → Known w s a → (x : Stmt) → Among x xs → StmtSo w s a x
    each_so no_statement w s a k x m = elim m [ ]
    each_so (one_statement i is) w s a k _ here = stmt_so i w s a k
    each_so (one_statement i is) w s a k x (later m) = each_so is w s a k x m

    rest_so : {x : Rest} → IsRestTree x → (w : Site) (s : Scope g.Reported) (a : Around g.Reported) → Known w s a
        → RestSo w s a x
    rest_so {x = x} (tree_elsif {c = c} {body = body} {rest = r} h b q) w s a k =
        by_rest w s a x (layer.Elsif c body r) h
        (if_then {P = λ (z : TypedStmt). IsOne (RestMeans s.types exports w (layer.Elsif c body r)) (Some (z ∷ []))}
        (if_then (if_both g (condition_so w s a k c)
        (if_both g (list_so w s a body (each_so b w s a k)) (rest_so q w s a k)))
        (λ p o. meant _ (elsif_one w s a o.0 o.1.0 o.1.1))) (λ z o. meant _ o))
    rest_so {x = x} (tree_end {otherwise = None} h i) w s a k = by_rest w s a x (layer.Else None) h (else_so i w s a k)
    rest_so {x = x} (tree_end {otherwise = Some body} h i) w s a k =
        by_rest w s a x (layer.Else (Some body)) h (else_so i w s a k)

    else_so : {o : Option (List Stmt)} → IsElseTree o → (w : Site) (s : Scope g.Reported) (a : Around g.Reported)
        → Known w s a → RestLayerSo w s a (layer.Else o)
    else_so tree_no_else w s a k = meant _ (no_else_one w s a)
    else_so (tree_else {body = body} b) w s a k =
        if_then (list_so w s a body (each_so b w s a k)) (λ xs o. meant _ (else_one w s a o))

    arm_bodies : {xs : List Arm} → AreArmTrees xs → (w : Site) (s : Scope g.Reported) (a : Around g.Reported)
        → Known w s a → (x : Arm) → Among x xs → ListSo w s a (out-Arm x).body
    arm_bodies no_arm_tree w s a k x m = elim m [ ]
    arm_bodies (one_arm_tree b bs) w s a k x here = list_so w s a (out-Arm x).body (each_so b w s a k)
    arm_bodies (one_arm_tree b bs) w s a k x (later m) = arm_bodies bs w s a k x m

  pub statement_so : (w : Site) (s : Scope g.Reported) (a : Around g.Reported) → Known w s a → (x : Stmt)
      → StmtSo w s a x
  statement_so w s a k x = stmt_so (statement_tree x) w s a k
