-- Calls as statements answer exactly.
use Rattle.std.proofs.Common.{◌≡◌, ℕ, suc, Bool, true, false, not, List, [], length, Option, Some, None, Result, Ok, ◌⊎◌, inl, inr, refl, sym, ap, subst, ◌∙◌, arith}
use Rattle.std.specs.Prelude.{map, ◌==◌}
use Rattle.std.proofs.lemmas.List.{length-map}
use Rattle.std.proofs.lemmas.Bool.Decides.{nat_tests}
use Rattle.m2_rule.specs.declared.breach.Breach.{Breach}
use Rattle.m2_rule.specs.declared.rule.Rule.TheVariants as rule
use Rattle.m2_tree.specs.declared.pos.Pos.{Pos}
use Rattle.m2_tree.specs.declared.name.Ident.{Ident}
use Rattle.m2_tree.specs.declared.expr.Expr.{Expr}
use Rattle.m2_tree.specs.declared.expr.Expr.TheOpen as layer
use Rattle.m2_tree.specs.declared.expr.Designator.{Designator, out-Designator}
use Rattle.typed_tree.specs.declared.types.TypeNo.{TypeNo}
use Rattle.typed_tree.specs.declared.statement.TypedStmt.{TypedStmt}
use Rattle.typed_tree.specs.declared.statement.TypedStmt.TheVariants as statement
use Rattle.typed_tree.specs.declared.shape.Formal.{Formal}
use Rattle.typed_tree.specs.declared.shape.Shape.TheVariants as shape
use Rattle.typed_tree.specs.declared.shape.Signature.{Signature}
use Rattle.check_scope.specs.declared.scope.Scope.{Scope}
use Rattle.check_scope.specs.Elaborated.{Gathers, reported_where, reported_beside, of_heading, ahead, ◌▷◌}
use Rattle.check_value.specs.Classes.{signature_at}
use Rattle.check_value.specs.declared.callee.Callee.{Callee}
use Rattle.check_value.specs.declared.callee.Called.{Called}
use Rattle.check_value.specs.Callees.{callee_of, proper_with, proper_of, call_by}
use Rattle.check_expr.specs.Meanings.{meanings_of, head, breaches_in_all, actuals, formals_of}
use Rattle.check_expr.specs.Effects.{call_done, callee_statement, call_statement}
use Rattle.def_typing.specs.Shapes.{IsMade}
use Rattle.def_typing.specs.Operators.{◌!◌}
use Rattle.def_typing.specs.Things.{Thing, Standing}
use Rattle.def_typing.specs.Parts.{Among}
use Rattle.def_typing.specs.Expressions.{Beside, Denotes, ArePassed, no_more, one_more}
use Rattle.def_typing.specs.Assignments.{at_designator, in_designator, BrokenDesignator}
use Rattle.def_typing.specs.Actions as rules
use Rattle.def_typing.specs.Actions.{IsProper, proper, standard, Acts, acts, counts, changes, halts, puts, Misacts, IsAction, is_action, BrokenAction, in_procedure, in_argument, at_action}
use Rattle.law_typing.specs.Judging.{Judges, Answers}
use Rattle.law_typing.specs.Exact.{Knows}
use Rattle.law_typing.proofs.Combining.{Lawful, exact, passes, map_checks, ahead_answers, heading_answers}
use Rattle.law_typing.proofs.Elements.{checks_answer}
use Rattle.law_typing.proofs.Shaping.{signature_there, SignatureIs, has_signature, no_signature, one_signature}
use Rattle.law_typing.proofs.Finding.{Elsewhere, IsFound, AnyBroken, InLayer, look_tells}
use Rattle.law_typing.proofs.Places.{head_at}
use Rattle.law_typing.proofs.Routines.{Heads, heading_of, made_of, not_headless, no_standard, Wrong, all_pass, IsCallee, callee_routine, callee_standard, MayCall, may_standard, NoCall, callee_answers, may_or_not, no_call_of, headed_may, none_is_some}
use Rattle.law_typing.proofs.Changing.{ActsSo, refused_action, standard_acts}
use Rattle.law_typing.proofs.Expressing.{expression_found, designator_found}

module _ (g : Gathers) (j : Judges g) (lawful : Lawful g j) (names : Ident → Standing) (exports : ℕ → Ident → Standing)
    (s : Scope g.Reported) where
  abbrev E : Breach → Type 0
  E = Elsewhere g j lawful names exports s

  abbrev Found : Expr → Type 0
  Found = IsFound g j lawful names exports s

  abbrev Any : List Expr → Breach → Type 0
  Any = AnyBroken g j lawful names exports s

  abbrev A : Thing → List Expr → Type 0
  A = Acts s.types names exports

  abbrev M : Pos → Thing → List Expr → Breach → Type 0
  M = Misacts s.types names exports

  abbrev W : List Formal → List Expr → Breach → Type 0
  W = Wrong g j lawful names exports s

  abbrev So : Pos → Thing → List Expr → Result TypedStmt g.Reported → Type 0
  So = ActsSo g j lawful names exports s

  proper_count : {x : Thing} {h : TypeNo} {n : ℕ} {p : Signature} → Heads s.types x h
      → IsMade s.types h (shape.Procedure p) → IsProper s.types x n → (n ≡ length p.formals) × (p.result ≡ None)
  proper_count {h = h} w m (proper {s = q} d e) = let same = one_signature s.types h (made_of s.types w d) m in
      (ap (λ (p : Signature). length p.formals) same, ap (λ (p : Signature). p.result) (sym same) ∙ e)
  proper_count w m (standard c) = absurd (no_standard s.types w)

  unproper : {x : Thing} {h : TypeNo} {n : ℕ} → Heads s.types x h
      → ((p : Signature) → IsMade s.types h (shape.Procedure p) → ⊥) → IsProper s.types x n → ⊥
  unproper w n (proper {s = q} d e) = n q (made_of s.types w d)
  unproper w n (standard c) = no_standard s.types w

  acts_proper : {x : Thing} {h : TypeNo} {xs : List Expr} → Heads s.types x h → A x xs → (n : ℕ) × IsProper s.types x n
  acts_proper w (acts d e a) = (_, proper d e)
  acts_proper w (counts i m c) = absurd (no_standard s.types w)
  acts_proper w (changes m c h a) = absurd (no_standard s.types w)
  acts_proper w halts = absurd (no_standard s.types w)
  acts_proper w (puts h a) = absurd (no_standard s.types w)

  none_only : {x : Thing} {h : TypeNo} {xs : List Expr} (at : Pos) (f : Breach) → Heads s.types x h
      → ((n : ℕ) → IsProper s.types x n → ⊥) → M at x xs f → f ≡ at ! rule.WrongType
  none_only at _ w n (rules.no_procedure q z) = refl
  none_only at _ w n (rules.wrong_count i z) = absurd (n _ i)
  none_only at f w n (rules.mispassed d e c b z y) = absurd (n _ (proper d e))
  none_only at _ w n (rules.no_variable t z y) = absurd (no_standard s.types w)
  none_only at f w n (rules.no_value t z y) = absurd (no_standard s.types w)
  none_only at f w n (rules.misamounts t z y) = absurd (no_standard s.types w)
  none_only at f w n (rules.no_character z y) = absurd (no_standard s.types w)

  no_action : {x : Thing} {h : TypeNo} {xs : List Expr} (at : Pos) → Heads s.types x h
      → ((n : ℕ) → IsProper s.types x n → ⊥) → ((y : Expr) → Among y xs → Found y)
      → So at x xs (reported_beside g at rule.WrongType (breaches_in_all g s (map (meanings_of g) xs)))
  no_action at w n h = refused_action g j lawful names exports s at rule.WrongType
      (λ a. let q = acts_proper w a in n q.0 q.1) (rules.no_procedure (not_headless s.types w) n)
      (λ f m. none_only at f w n m) h

  count_wrong : {x : Thing} {h : TypeNo} {p : Signature} {xs : List Expr} (at : Pos) (f : Breach) → Heads s.types x h
      → IsMade s.types h (shape.Procedure p) → p.result ≡ None → (length p.formals ≡ length xs → ⊥) → M at x xs f
      → f ≡ at ! rule.ArgumentCount
  count_wrong {p = p} at _ w m r n (rules.no_procedure q z) =
      absurd (z (length p.formals) (proper (heading_of s.types w m) r))
  count_wrong at _ w m r n (rules.wrong_count i z) = refl
  count_wrong {h = h} {xs = xs} at f w m r n (rules.mispassed d e c b z y) =
      absurd (n (subst (λ (p : Signature). length p.formals ≡ length xs)
      (one_signature s.types h (made_of s.types w d) m) c))
  count_wrong at _ w m r n (rules.no_variable t z y) = absurd (no_standard s.types w)
  count_wrong at f w m r n (rules.no_value t z y) = absurd (no_standard s.types w)
  count_wrong at f w m r n (rules.misamounts t z y) = absurd (no_standard s.types w)
  count_wrong at f w m r n (rules.no_character z y) = absurd (no_standard s.types w)

  count_right : {x : Thing} {h : TypeNo} {p : Signature} {xs : List Expr} (at : Pos) (f : Breach) → Heads s.types x h
      → IsMade s.types h (shape.Procedure p) → p.result ≡ None → length p.formals ≡ length xs → M at x xs f
      → W p.formals xs f
  count_right {p = p} at _ w m r e (rules.no_procedure q z) =
      absurd (z (length p.formals) (proper (heading_of s.types w m) r))
  count_right {x = x} at _ w m r e (rules.wrong_count i z) =
      absurd (z (subst (IsProper s.types x) e (proper (heading_of s.types w m) r)))
  count_right {h = h} {xs = xs} at f w m r e (rules.mispassed {y = y} {formal = formal} {e = a} d v c b z u) = (
    formal,
    a,
    y,
    subst (λ (p : Signature). Beside formal a p.formals xs)
        (one_signature s.types h (made_of s.types w d) m) b,
    z,
    u,
  )
  count_right at _ w m r e (rules.no_variable t z y) = absurd (no_standard s.types w)
  count_right at f w m r e (rules.no_value t z y) = absurd (no_standard s.types w)
  count_right at f w m r e (rules.misamounts t z y) = absurd (no_standard s.types w)
  count_right at f w m r e (rules.no_character z y) = absurd (no_standard s.types w)

  wrong_right : {x : Thing} {h : TypeNo} {p : Signature} {xs : List Expr} (at : Pos) (f : Breach) → Heads s.types x h
      → IsMade s.types h (shape.Procedure p) → p.result ≡ None → length p.formals ≡ length xs → W p.formals xs f
      → M at x xs f
  wrong_right at f w m r e (formal, a, y, b, z, u) = rules.mispassed (heading_of s.types w m) r e b z u

  passed_by : {x : Thing} {h : TypeNo} {p : Signature} {xs : List Expr} → Heads s.types x h
      → IsMade s.types h (shape.Procedure p) → A x xs → ArePassed s.types names exports p.formals xs
  passed_by {h = h} {xs = xs} w m (acts d e a) =
      subst (λ (p : Signature). ArePassed s.types names exports p.formals xs)
      (one_signature s.types h (made_of s.types w d) m) a
  passed_by w m (counts i z c) = absurd (no_standard s.types w)
  passed_by w m (changes z c q a) = absurd (no_standard s.types w)
  passed_by w m halts = absurd (no_standard s.types w)
  passed_by w m (puts z a) = absurd (no_standard s.types w)

  passed_length : {fs : List Formal} {xs : List Expr} → ArePassed s.types names exports fs xs → length fs ≡ length xs
  passed_length no_more = refl
  passed_length (one_more m p r) = ap suc (passed_length r)

  counted_by : {x : Thing} {h : TypeNo} {p : Signature} (at : Pos) (xs : List Expr) (c : Callee) (b : Bool)
      → (length p.formals == length (map (meanings_of g) xs)) ≡ b → Heads s.types x h
      → IsMade s.types h (shape.Procedure p) → p.result ≡ None
      → ((y : Expr) → Among y xs → Found y)
      → So at x xs (ahead g (reported_where g (not b) at rule.ArgumentCount (Ok tt))
      (breaches_in_all g s (map (meanings_of g) xs))
      (λ (u : Unit {0}). call_done c (actuals g s p.formals (map (meanings_of g) xs))))
  counted_by {x = x} {p = p} at xs c false e w m r h =
      refused_action g j lawful names exports s at rule.ArgumentCount (λ a. not_equal (passed_length (passed_by w m a)))
      (rules.wrong_count (proper (heading_of s.types w m) r) (λ i. not_equal (sym (proper_count w m i).0)))
      (λ f z. count_wrong at f w m r not_equal z) h
    where
      differ : (a b : ℕ) → (a == b) ≡ false → a ≡ b → ⊥
      differ a b e q = absurd (grind (arith, nat_tests))

      not_equal : length p.formals ≡ length xs → ⊥
      not_equal q = differ (length p.formals) (length (map (meanings_of g) xs)) e
          (q ∙ sym (length-map xs (meanings_of g)))
  counted_by {x = x} {p = p} at xs c true e w m r h =
      exact g j lawful E {M = λ u. Unit {0} × ArePassed s.types names exports p.formals xs}
      {B = λ f. ⊥ ⊎ (Any xs f ⊎ W p.formals xs f)}
      (λ u z. acts (heading_of s.types w m) r z.1) (λ u z. (tt, passed_by w m z))
      (λ f z. elim z [
        | inl b ↦ absurd b
        | inr v ↦ elim v
            [ inl a ↦ inr a | inr q ↦ inl (wrong_right at f w m r equal q) ]
      ])
      (λ f z. elim z [ inl q ↦ inr (inr (count_right at f w m r equal q)) | inr a ↦ inr (inl a) ])
      (checks_answer g j lawful E (map_checks g j lawful E (λ v. statement.Call (call_by v c))
      (all_pass g j lawful names exports s p.formals xs {P = Unit {0}} {B = λ f. ⊥} (Ok []) equal h
      (passes [] tt (λ f b. b)))))
    where
      same : (a b : ℕ) → (a == b) ≡ true → a ≡ b
      same a b e = grind (arith, nat_tests)

      equal : length p.formals ≡ length xs
      equal = same (length p.formals) (length (map (meanings_of g) xs)) e ∙ length-map xs (meanings_of g)

  result_by : {x : Thing} {h : TypeNo} {p : Signature} (at : Pos) (xs : List Expr) (c : Callee) (r : Option TypeNo)
      → p.result ≡ r → Heads s.types x h → IsMade s.types h (shape.Procedure p)
      → ((y : Expr) → Among y xs → Found y)
      → So at x xs (ahead g (proper_with g at (length p.formals) (length (map (meanings_of g) xs)) r)
      (breaches_in_all g s (map (meanings_of g) xs))
      (λ (u : Unit {0}). call_done c (actuals g s p.formals (map (meanings_of g) xs))))
  result_by at xs c None e w m h = counted_by at xs c _ refl w m e h
  result_by at xs c (Some t) e w m h = no_action at w
      (λ n q. none_is_some g j lawful names exports s (proper_count w m q).1 e) h

  routine_by : {x : Thing} {h : TypeNo} (at : Pos) (xs : List Expr) (c : Callee) (o : Option Signature)
      → SignatureIs s.types h o → Heads s.types x h → ((y : Expr) → Among y xs → Found y)
      → So at x xs (ahead g (proper_of g at o (length (map (meanings_of g) xs)))
      (breaches_in_all g s (map (meanings_of g) xs))
      (λ (u : Unit {0}). call_done c (actuals g s (formals_of o) (map (meanings_of g) xs))))
  routine_by at xs c _ (no_signature n) w h = no_action at w (λ k q. unproper w n q) h
  routine_by at xs c _ (has_signature p m) w h = result_by at xs c p.result refl w m h

  -- ---- all of them

  abbrev May : Thing → Type 0
  May = MayCall g j lawful names exports s

  acts_may : {x : Thing} {xs : List Expr} → A x xs → May x
  acts_may (acts d e a) = headed_may g j lawful names exports s d
  acts_may (counts {p = p} i m c) = may_standard p
  acts_may (changes {p = p} m c h a) = may_standard p
  acts_may halts = may_standard _
  acts_may (puts h a) = may_standard _

  proper_may : {x : Thing} {n : ℕ} → IsProper s.types x n → May x
  proper_may (proper d e) = headed_may g j lawful names exports s d
  proper_may (standard {p = p} c) = may_standard p

  inactive : {x : Thing} {xs : List Expr} (at : Pos) (f : Breach) → (May x → ⊥) → M at x xs f
      → NoCall g j lawful names exports s at x f
  inactive at _ n (rules.no_procedure q z) = (n, (q, refl))
  inactive at _ n (rules.wrong_count i z) = absurd (n (proper_may i))
  inactive at f n (rules.mispassed d e c b z y) = absurd (n (headed_may g j lawful names exports s d))
  inactive at _ n (rules.no_variable {p = p} t z y) = absurd (n (may_standard p))
  inactive at f n (rules.no_value {p = p} t z y) = absurd (n (may_standard p))
  inactive at f n (rules.misamounts {p = p} t z y) = absurd (n (may_standard p))
  inactive at f n (rules.no_character z y) = absurd (n (may_standard _))

  act : (at : Pos) (xs : List Expr) (c : Called) (x : Thing) → IsCallee g j lawful names exports s c x
      → ((y : Expr) → Among y xs → Found y) → So at x xs (callee_statement g s at (map (meanings_of g) xs) c)
  act at xs _ x (callee_routine {h = h} c w) q =
      routine_by at xs c (signature_at s.types h) (signature_there s.types h) w q
  act at xs _ _ (callee_standard p) q = standard_acts g j lawful names exports s p at xs q

  -- ---- calls of designators

  module _ (knows : Knows g j names exports s) where
    abbrev D : Designator → Thing → Type 0
    D = Denotes s.types names exports

    abbrev BD : Designator → Breach → Type 0
    BD d = InLayer g j lawful names exports s (layer.Use d None)

    abbrev IsCalled : Designator → Thing → Type 0
    IsCalled d y = (x : Thing) × D d x × (May x × (y ≡ x))

    abbrev Fails : Designator → List Expr → Breach → Type 0
    Fails d xs f = ((BD d f ⊎ ((x : Thing) × D d x × NoCall g j lawful names exports s (out-Designator d).name.pos x f))
        ⊎ ((y : Thing) × IsCalled d y × M (out-Designator d).name.pos y xs f)) ⊎ Any xs f

    pub action_answers : (d : Designator) (xs : List Expr)
        → Answers g j E {A = TypedStmt} {K = Unit {0}} (λ v u. Unit {0}) (λ u. IsAction s.types names exports d xs)
        (BrokenAction s.types names exports d xs) (call_statement g s (head g d) (map (meanings_of g) xs))
    action_answers d xs = subst (λ (t : Pos). Answers g j E {A = TypedStmt} {K = Unit {0}} (λ v u. Unit {0})
        (λ u. IsAction s.types names exports d xs) (BrokenAction s.types names exports d xs)
        (ahead g (of_heading ((head g d).means s) ▷ callee_of g s.types t)
        (breaches_in_all g s (map (meanings_of g) xs)) (callee_statement g s t (map (meanings_of g) xs))))
        (sym (head_at g d))
        (exact g j lawful E {M = λ u. (y : Thing) × IsCalled d y × A y xs} {B = Fails d xs}
        (λ u z. is_action (subst (D d) (sym z.1.2.1) z.1.1) z.2) (λ u z. parted z) (λ f z. into f z)
        (λ f z. out f z)
        (ahead_answers g j lawful E {N = λ y u. A y xs} {D = λ y f. M (out-Designator d).name.pos y xs f}
        (heading_answers g j lawful E {N = λ x y. May x × (y ≡ x)}
        {D = λ x f. NoCall g j lawful names exports s (out-Designator d).name.pos x f}
        (designator_found g j lawful names exports s knows d)
        (callee_answers g j lawful names exports s (out-Designator d).name.pos)
        (λ b y m. no_call_of g j lawful names exports s (λ h w. elim w [ ]) (λ p q. absurd cc) m.0)
        (λ b f z. z.1.0 b refl))
        (look_tells g j lawful names exports s xs (λ x m. expression_found g j lawful names exports s knows x))
        (λ c y e m. act (out-Designator d).name.pos xs c y e
        (λ x m. expression_found g j lawful names exports s knows x))))
      where
        parted : IsAction s.types names exports d xs → (y : Thing) × IsCalled d y × A y xs
        parted (is_action {x = x} m z) = (x, (x, m, (acts_may z, refl)), z)

        into : (f : Breach) → Fails d xs f → BrokenAction s.types names exports d xs f
        into f (inl (inl (inl (inl z)))) = in_procedure (at_designator z)
        into f (inl (inl (inl (inr (x, m, b))))) = in_procedure (in_designator m b)
        into f (inl (inl (inr (x, m, (c, (q, e)))))) =
            at_action m (subst (M (out-Designator d).name.pos x xs) (sym e)
            (rules.no_procedure q (λ k z. c (proper_may z))))
        into f (inl (inr (y, (x, m, (c, e)), z))) = at_action (subst (D d) (sym e) m) z
        into f (inr (x, m, b)) = in_argument m b

        left : {f : Breach} → BrokenDesignator s.types names exports d f → BD d f
        left (at_designator z) = inl z
        left (in_designator {x = x} m b) = inr (x, m, b)

        by : (f : Breach) (x : Thing) → D d x → M (out-Designator d).name.pos x xs f → May x ⊎ (May x → ⊥)
            → Fails d xs f
        by f x m z (inl c) = inl (inr (x, (x, m, (c, refl)), z))
        by f x m z (inr c) = inl (inl (inr (x, m, inactive (out-Designator d).name.pos f c z)))

        out : (f : Breach) → BrokenAction s.types names exports d xs f → Fails d xs f
        out f (in_procedure b) = inl (inl (inl (left b)))
        out f (in_argument {e = x} m b) = inr (x, m, b)
        out f (at_action {x = x} m z) = by f x m z (may_or_not g j lawful names exports s x)
