-- A CASE is answered exactly if its statements are.
use Rattle.std.proofs.Common.{◌≡◌, ℕ, List, [], ◌∷◌, ◌++◌, Option, Some, None, Result, Ok, Err, ◌⊎◌, inl, inr, refl, sym, ap, subst, ◌∙◌}
use Rattle.std.specs.Prelude.{map}
use Rattle.std.specs.List.{fold}
use Rattle.m2_rule.specs.declared.breach.Breach.{Breach}
use Rattle.m2_tree.specs.declared.name.Ident.{Ident}
use Rattle.m2_tree.specs.declared.expr.Expr.{Expr}
use Rattle.m2_tree.specs.declared.expr.Item.{Item}
use Rattle.m2_tree.specs.declared.stmt.Stmt.{Stmt}
use Rattle.m2_tree.specs.declared.stmt.Rest.{Rest}
use Rattle.m2_tree.specs.declared.stmt.Rest.TheOpen as layer
use Rattle.m2_tree.specs.declared.stmt.Arm.{Arm, Arm-F, out-Arm, map-Arm, fold_out-Arm}
use Rattle.typed_tree.specs.declared.types.TypeNo.{TypeNo}
use Rattle.typed_tree.specs.declared.computed.TypedExpr.{TypedExpr}
use Rattle.typed_tree.specs.declared.statement.Label.{Label}
use Rattle.typed_tree.specs.declared.statement.TypedStmt.{TypedStmt}
use Rattle.typed_tree.specs.declared.statement.TypedStmt.TheVariants as typed
use Rattle.typed_tree.specs.declared.statement.TypedArm.{TypedArm}
use Rattle.check_scope.specs.declared.scope.Scope.{Scope}
use Rattle.check_scope.specs.Elaborated.{Gathers}
use Rattle.check_stmt_parts.specs.declared.around.Around.{Around}
use Rattle.check_stmt_parts.specs.Ranges.{Range}
use Rattle.check_stmt_parts.specs.Lists.{base_in, case_statement}
use Rattle.check_stmt.specs.Statements.{Elaborates, ElaboratesRest, ElaboratesArm, with_arm, arms_of, all_of, stmt_layer, rest_layer, arm_layer, stmt, rest, arm}
use Rattle.def_typing.specs.Things.{Standing}
use Rattle.def_typing.specs.Parts.{Among, here, later}
use Rattle.def_typing.specs.Cases.{IsSelector, BrokenSelector, SelectsBy, AreLabels, BrokenLabels}
use Rattle.def_typing.specs.Cases as cases
use Rattle.def_typing.specs.Statements as rules
use Rattle.def_typing.specs.Statements.{labels_of, Spot, AllObey, RestIsRight, IsRight, Broken, RestBreaks, Breaks}
use Rattle.law_typing.specs.Judging.{Judges, Accounts, Answers, means, refuses}
use Rattle.law_typing.specs.Exact.{Knows, Repeats, RepeatsResult}
use Rattle.law_typing.proofs.Combining.{Lawful, Checks, passes, stops, more_checks, checks_as, both_checks, map_checks}
use Rattle.law_typing.proofs.Twice.{behind, Keeps, keeps_none, labels_check, labels_join, labels_split, broken_join, broken_split}

module _ (g : Gathers) where
  abbrev pub opened_arm : Arm-F Rest Stmt Arm
      → Arm-F (ElaboratesRest g.Reported) (Elaborates g.Reported) (ElaboratesArm g.Reported)
  opened_arm x = map-Arm Rest Stmt Arm (ElaboratesRest g.Reported) (Elaborates g.Reported) (ElaboratesArm g.Reported)
      (rest g) (stmt g) (arm g) x

  pub arm_is : (x : Arm) → arm g x ≡ arm_layer g (opened_arm (out-Arm x))
  unfolding stmt rest arm
  arm_is x = fold_out-Arm (ElaboratesRest g.Reported) (Elaborates g.Reported) (ElaboratesArm g.Reported) (rest_layer g)
      (stmt_layer g) (arm_layer g) x

module _ (g : Gathers) (j : Judges g) (lawful : Lawful g j) (exports : ℕ → Ident → Standing) (w : Spot)
    (s : Scope g.Reported) (a : Around g.Reported) (knows : Knows g j w.names exports s) where
  abbrev U : Breach → Type 0
  U = RepeatsResult g j w.names s a.gives

  abbrev BodyObeys : Arm → Type 0
  BodyObeys x = AllObey s.types exports w (out-Arm x).body

  abbrev BodyBroken : Arm → Breach → Type 0
  BodyBroken x f = (y : Stmt) × Among y (out-Arm x).body × Broken s.types exports w y f

  -- the statements of an arm are answered exactly
  abbrev pub BodySo : Arm → Type 0
  BodySo x = Checks g j lawful U {A = List TypedStmt} (BodyObeys x) (BodyBroken x)
      (all_of g s a (map (stmt g) (out-Arm x).body))

  abbrev BodiesObey : List Arm → Type 0
  BodiesObey xs = (x : Arm) → Among x xs → BodyObeys x

  abbrev AnyBroken : List Arm → Breach → Type 0
  AnyBroken xs f = (x : Arm) × Among x xs × BodyBroken x f

  bodies_more : {x : Arm} {xs : List Arm} → BodyObeys x → BodiesObey xs → BodiesObey (x ∷ xs)
  bodies_more b c _ here = b
  bodies_more b c y (later m) = c y m

  any_parts : {x : Arm} {xs : List Arm} {f : Breach} → AnyBroken (x ∷ xs) f → BodyBroken x f ⊎ AnyBroken xs f
  any_parts (y, here, b) = inl b
  any_parts (y, later m, b) = inr (y, m, b)

  any_more : {x : Arm} {xs : List Arm} {f : Breach} → BodyBroken x f ⊎ AnyBroken xs f → AnyBroken (x ∷ xs) f
  any_more {x = x} (inl b) = (x, here, b)
  any_more (inr (y, m, b)) = (y, later m, b)

  module _ (base : Option TypeNo) where
    abbrev AL : List Item → List Item → Type 0
    AL front is = AreLabels s.types w.names exports base front is

    abbrev BLs : List Item → List Item → Breach → Type 0
    BLs front is = BrokenLabels s.types w.names exports base front is

    abbrev K : List Item → List Range → Type 0
    K front rs = Keeps g j lawful w.names exports s knows base front rs

    abbrev ArmSo : List Item → Arm → List Range × Result TypedArm g.Reported → Type 0
    ArmSo front x q = K (behind (out-Arm x).labels front) q.0
        × Checks g j lawful U {A = TypedArm} (AL front (out-Arm x).labels × BodyObeys x)
        (λ f. BLs front (out-Arm x).labels f ⊎ BodyBroken x f) q.1

    arm_checks : (x : Arm) → BodySo x → (front : List Item) (rs : List Range) → K front rs
        → ArmSo front x (arm g x s a base rs)
    arm_checks x b front rs k = subst (λ (q : ElaboratesArm g.Reported). ArmSo front x (q s a base rs))
        (sym (arm_is g x))
        (let q = labels_check g j lawful w.names exports s knows base (out-Arm x).labels front k in (
          q.0,
          map_checks g j lawful U (λ (p : List Label × List TypedStmt). let t : TypedArm =
              record { labels = p.0; body = p.1 } in t)
              (both_checks g j lawful U (more_checks g j lawful (λ f o. inl o) q.1) b),
        ))

    abbrev Arms : List Item → List Arm → Type 0
    Arms front xs = AL front (labels_of xs) × BodiesObey xs

    abbrev Wrong : List Item → List Arm → Breach → Type 0
    Wrong front xs f = BLs front (labels_of xs) f ⊎ AnyBroken xs f

    arms_from : (xs : List Arm) → ((x : Arm) → Among x xs → BodySo x) → (front : List Item) (rs : List Range)
        → K front rs
        → {P : Type 0} {B : Breach → Type 0} {so : Result (List TypedArm) g.Reported}
        → Checks g j lawful U {A = List TypedArm} P B so
        → Checks g j lawful U {A = List TypedArm} (P × Arms front xs) (λ f. B f ⊎ Wrong front xs f)
        (fold (with_arm g s a base) (rs, so) (map (arm g) xs)).1
    arms_from [] h front rs k c = checks_as g j lawful U (λ z. (z, (cases.no_label, λ x m. elim m [ ]))) (λ z. z.0)
        (λ f b. inl b) (λ f z. elim z [ inl b ↦ b | inr y ↦ elim y [ inl b ↦ elim b [ ] | inr b ↦ elim b.1 [ ] ] ]) c
    arms_from (x ∷ xs) h front rs k {P = P} {B = B} c =
        let r = arm_checks x (h x here) front rs k in
        checks_as g j lawful U (λ z. (
          z.0.0,
          (
            labels_join g j lawful w.names exports s knows base (out-Arm x).labels
                z.0.1.0 z.1.0,
            bodies_more z.0.1.1 z.1.1,
          ),
        ))
        (λ z. let y = labels_split g j lawful w.names exports s knows base (out-Arm x).labels z.1.0 in
        ((z.0, (y.0, z.1.1 x here)), (y.1, λ v m. z.1.1 v (later m))))
        (λ f z. into f z) (λ f z. out f z)
        (arms_from xs (λ v m. h v (later m)) (behind (out-Arm x).labels front) _ r.0
        {P = P × (AL front (out-Arm x).labels × BodyObeys x)}
        {B = λ f. B f ⊎ (BLs front (out-Arm x).labels f ⊎ BodyBroken x f)}
        (map_checks g j lawful U (λ (p : List TypedArm × TypedArm). p.0 ++ p.1 ∷ []) (both_checks g j lawful U c r.1)))
      where
        into : (f : Breach) → (B f ⊎ (BLs front (out-Arm x).labels f ⊎ BodyBroken x f))
            ⊎ Wrong (behind (out-Arm x).labels front) xs f → B f ⊎ Wrong front (x ∷ xs) f
        into f (inl (inl b)) = inl b
        into f (inl (inr (inl b))) = inr (inl
            (broken_join g j lawful w.names exports s knows base (out-Arm x).labels f (inl b)))
        into f (inl (inr (inr b))) = inr (inr (any_more (inl b)))
        into f (inr (inl b)) = inr (inl (broken_join g j lawful w.names exports s knows base (out-Arm x).labels f
            (inr b)))
        into f (inr (inr b)) = inr (inr (any_more (inr b)))

        out : (f : Breach) → B f ⊎ Wrong front (x ∷ xs) f → (B f ⊎ (BLs front (out-Arm x).labels f ⊎ BodyBroken x f))
            ⊎ Wrong (behind (out-Arm x).labels front) xs f
        out f (inl b) = inl (inl b)
        out f (inr (inl b)) = elim (broken_split g j lawful w.names exports s knows base (out-Arm x).labels f b)
            [ inl y ↦ inl (inr (inl y)) | inr y ↦ inr (inl y) ]
        out f (inr (inr b)) = elim (any_parts b) [ inl y ↦ inl (inr (inr y)) | inr y ↦ inr (inr y) ]

    pub arms_check : (xs : List Arm) → ((x : Arm) → Among x xs → BodySo x)
        → Checks g j lawful U {A = List TypedArm} (Arms [] xs) (Wrong [] xs) (arms_of g s a base (map (arm g) xs))
    arms_check xs h = checks_as g j lawful U (λ z. z.1) (λ z. (tt, z)) (λ f z. elim z [ inl b ↦ absurd b | inr b ↦ b ])
        (λ f b. inr b) (arms_from xs h [] [] (keeps_none g j lawful w.names exports s knows base) {P = Unit {0}}
        {B = λ f. ⊥} (passes [] tt (λ f b. b)))

  -- ---- all of a CASE

  module _ (e : Expr) (xs : List Arm) (otherwise : Option (List Stmt)) where
    abbrev Selector : TypeNo → Type 0
    Selector base = IsSelector s.types w.names exports e base

    abbrev Selects : Option TypeNo → Type 0
    Selects base = SelectsBy s.types w.names exports e base

    abbrev NoSelector : Breach → Type 0
    NoSelector = BrokenSelector s.types w.names exports e

    abbrev Else : Type 0
    Else = RestIsRight s.types exports w (layer.Else otherwise)

    abbrev ElseBreaks : Breach → Type 0
    ElseBreaks = RestBreaks s.types exports w (layer.Else otherwise)

    abbrev Obeyed : Type 0
    Obeyed = IsRight s.types exports w (layer.Case e xs otherwise)

    abbrev Fails : Breach → Type 0
    Fails = Breaks s.types exports w (layer.Case e xs otherwise)

    abbrev CaseSo : Result TypedStmt g.Reported → Type 0
    CaseSo r = Checks g j lawful U {A = TypedStmt} Obeyed Fails r

    case_parts : Obeyed → (base : TypeNo) × Selector base × (Arms (Some base) [] xs × Else)
    case_parts (rules.selection {base = base} m l b o) = (base, m, ((l, b), o))

    abbrev Behind : Option TypeNo → Breach → Type 0
    Behind base f = Wrong base [] xs f ⊎ ElseBreaks f

    behind_case : {base : Option TypeNo} → Selects base → (f : Breach) → Behind base f → Fails f
    behind_case m f (inl (inl b)) = rules.in_labels m b
    behind_case m f (inl (inr (x, n, (y, q, b)))) = rules.in_arm n q b
    behind_case m f (inr b) = rules.behind_arms b

    case_behind : {base : Option TypeNo} → ((other : Option TypeNo) → Selects other → other ≡ base) → (f : Breach)
        → Fails f → NoSelector f ⊎ Behind base f
    case_behind u f (rules.in_selector b) = inl b
    case_behind u f (rules.in_labels {base = other} m b) =
        inr (inl (inl (subst (λ (base : Option TypeNo). BLs base [] (labels_of xs) f) (u other m) b)))
    case_behind u f (rules.in_arm {a = x} {x = y} n q b) = inr (inl (inr (x, n, (y, q, b))))
    case_behind u f (rules.behind_arms b) = inr (inr b)

    one_base : {base : TypeNo} → Selector base → ((t : TypeNo) → Selector t → t ≡ base) → (other : Option TypeNo)
        → Selects other → other ≡ Some base
    one_base {base = base} m u None n = absurd (n base m)
    one_base m u (Some t) n = ap Some (u t n)

    no_base : ((t : TypeNo) → Selector t → ⊥) → (other : Option TypeNo) → Selects other → other ≡ None
    no_base n None m = refl
    no_base n (Some t) m = absurd (n t m)

    abbrev Made : Type 0
    Made = (TypeNo × TypedExpr) × (List TypedArm × Option (List TypedStmt))

    selected : (v : TypeNo × TypedExpr) → Checks g j lawful U {A = TypeNo × TypedExpr} (Unit {0}) (λ f. ⊥) (Ok v)
    selected v = passes v tt (λ f b. b)

    unselected : {r : g.Reported} → Accounts g j (Repeats g j w.names s) NoSelector r
        → Checks g j lawful U {A = TypeNo × TypedExpr} ⊥ NoSelector (Err r)
    unselected {r = r} c = stops r (record
        { only = λ f m. elim (c.only f m) [ inl b ↦ inl b | inr q ↦ inr (inl q) ]; each = c.each }) (λ z. z)

    pub case_checks : {r : Result (TypeNo × TypedExpr) g.Reported} {o : Result (Option (List TypedStmt)) g.Reported}
        → Answers g j (Repeats g j w.names s) (λ (v : TypeNo × TypedExpr) (t : TypeNo). v.0 ≡ t) Selector NoSelector r
        → ((x : Arm) → Among x xs → BodySo x) → Checks g j lawful U {A = Option (List TypedStmt)} Else ElseBreaks o
        → CaseSo (case_statement g r (arms_of g s a (base_in r) (map (arm g) xs)) o)
    case_checks (means v t i m u n) h o = checks_as g j lawful U
        (λ z. rules.selection (subst Selector (sym i) m) z.1.0.0 z.1.0.1 z.1.1)
        (λ z. let q = case_parts z in (
          tt,
          (
            subst (λ (base : TypeNo). Arms (Some base) [] xs) (u q.0 q.1 ∙ sym i) q.2.0,
            q.2.1,
          ),
        ))
        (λ f z. elim z [ inl b ↦ absurd b | inr b ↦ behind_case {base = Some v.0} (subst Selector (sym i) m) f b ])
        (λ f b. elim (case_behind (one_base (subst Selector (sym i) m) (λ x q. u x q ∙ sym i)) f b)
        [ inl c ↦ absurd (n f c) | inr c ↦ inr c ])
        (map_checks g j lawful U (λ (p : Made). typed.Case p.0.1 p.1.0 p.1.1)
        (both_checks g j lawful U (selected v) (both_checks g j lawful U (arms_check (Some v.0) xs h) o)))
    case_checks (refuses r c n) h o = checks_as g j lawful U
        (λ z. absurd z.0)
        (λ z. let q = case_parts z in absurd (n q.0 q.1))
        (λ f z. elim z [ inl b ↦ rules.in_selector b | inr b ↦ behind_case {base = None} n f b ])
        (λ f b. case_behind (no_base n) f b)
        (map_checks g j lawful U (λ (p : Made). typed.Case p.0.1 p.1.0 p.1.1)
        (both_checks g j lawful U (unselected c) (both_checks g j lawful U (arms_check None xs h) o)))
