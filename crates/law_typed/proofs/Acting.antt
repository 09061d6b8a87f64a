-- Calls as statements, as they stand in a typed tree.
use Rattle.std.proofs.Common.{◌≡◌, ℕ, pos, Bool, true, false, not, List, [], ◌∷◌, map, Option, Some, None, Result, Ok, Err, refl, sym, ap, subst, ◌∙◌}
use Rattle.std.specs.Prelude.{length, ◌==◌}
use Rattle.m2_rule.specs.declared.rule.Rule.TheVariants as rule
use Rattle.m2_tree.specs.declared.pos.Pos.{Pos}
use Rattle.m2_tree.specs.declared.name.Ident.{Ident}
use Rattle.m2_tree.specs.declared.expr.Expr.{Expr}
use Rattle.m2_tree.specs.declared.expr.Designator.{Designator}
use Rattle.typed_tree.specs.declared.types.TypeNo.{TypeNo}
use Rattle.typed_tree.specs.declared.computed.Argument.{Argument}
use Rattle.typed_tree.specs.declared.computed.Call.{Call}
use Rattle.typed_tree.specs.declared.computed.Place.{Place}
use Rattle.typed_tree.specs.declared.computed.TypedExpr.{TypedExpr}
use Rattle.typed_tree.specs.declared.computed.TypedExpr.TheVariants as expr
use Rattle.typed_tree.specs.declared.meaning.Standard.{Standard}
use Rattle.typed_tree.specs.declared.meaning.Standard.TheVariants.{Abs, Cap, Chr, High, Max, Min, Odd, Ord, Val, Inc, Dec, Incl, Excl, Halt, Put}
use Rattle.typed_tree.specs.declared.shape.Formal.{Formal}
use Rattle.typed_tree.specs.declared.shape.Shape.TheVariants as shape
use Rattle.typed_tree.specs.declared.shape.Signature.{Signature}
use Rattle.typed_tree.specs.declared.statement.Change.{Change}
use Rattle.typed_tree.specs.declared.statement.Membership.{Membership}
use Rattle.typed_tree.specs.declared.statement.TypedStmt.{TypedStmt}
use Rattle.typed_tree.specs.declared.statement.TypedStmt.TheVariants as step
use Rattle.typed_tree.specs.Types.{cardinal, char}
use Rattle.check_scope.specs.declared.meaningless.Meaningless.{Meaningless}
use Rattle.check_scope.specs.declared.meaningless.Meaningless.TheVariants as meaningless
use Rattle.check_scope.specs.declared.scope.Scope.{Scope}
use Rattle.check_scope.specs.Elaborated.{Gathers, reported_where, of_heading, ahead, reported_beside, ◌▷◌}
use Rattle.check_value.specs.declared.class.Class.{Class}
use Rattle.check_value.specs.declared.class.Class.TheVariants as class
use Rattle.check_value.specs.declared.computed.Computed.{Computed}
use Rattle.check_value.specs.Suits.{value_suited}
use Rattle.check_value.specs.declared.computed.Designated.{Designated}
use Rattle.check_value.specs.declared.computed.Designated.TheVariants as designated
use Rattle.check_value.specs.Classes.{class_at}
use Rattle.check_value.specs.declared.callee.Callee.{Callee}
use Rattle.check_value.specs.declared.callee.Callee.TheVariants as callee
use Rattle.check_value.specs.Callees.{callee_of, callee_in_variable, proper_of, proper_with, call_by}
use Rattle.check_value.specs.Effects.{change_target, change_target_as, change_by, set_variable, set_as, put}
use Rattle.check_expr.specs.Meanings.{meanings_of, head, value_of, actuals, formals_of, breaches_in_all}
use Rattle.check_expr.specs.Effects.{call_done, routine_done, change_target_in, change_statement, set_in, member_by, halt_statement, put_by, standard_done, callee_statement, call_statement}
use Rattle.def_typing.specs.Shapes.{IsMade}
use Rattle.def_typing.specs.Operators.{Whole}
use Rattle.def_typing.specs.Things.{Thing, AStandard, Standing, content}
use Rattle.def_typing.specs.Expressions.{Denotes}
use Rattle.law_typing.specs.Judging.{Judges}
use Rattle.law_typing.specs.Exact.{Knows}
use Rattle.law_typing.proofs.Combining.{Lawful}
use Rattle.law_typing.proofs.Shaping.{one_signature, SignatureIs, has_signature, no_signature, signature_there}
use Rattle.def_typed.specs.Named.{Named, Variable}
use Rattle.def_typed.specs.Expressions.{Designates, Calls, ArePassed, Gives}
use Rattle.def_typed.specs.Statements as rules
use Rattle.def_typed.specs.Statements.{Site, Measures, Changes, Sets, Acts}
use Rattle.law_typed.specs.Typed.{IsOne, IsNamed, Grasps}
use Rattle.law_typed.proofs.Meant.{IfMeant, meant, not_meant, if_then, if_both, if_sorted}
use Rattle.law_typed.proofs.Contents.{not_whole}
use Rattle.law_typed.proofs.Arguments.{actuals_so}
use Rattle.law_typed.proofs.Calls.{IsHead, head_is, IsCallee, module_callee, nested_callee, variable_callee, IsStandard, standard_is, length_is, map_length}
use Rattle.law_typed.proofs.Expressions.{expression_typed, designator_named}
use Rattle.law_typed.proofs.Assigning.{value_so, yielded}
use Rattle.law_typed.proofs.Measuring.{IsMeasured, amount_measured, element_measured}

-- ---- standard procedures

one_change : {f h : Standard} {o p : Change} → Changes f o → Changes h p → h ≡ f → p ≡ o
one_change rules.increases rules.increases e = refl
one_change rules.increases rules.decreases e = absurd cc
one_change rules.decreases rules.increases e = absurd cc
one_change rules.decreases rules.decreases e = refl

one_setting : {f h : Standard} {o p : Membership} → Sets f o → Sets h p → h ≡ f → p ≡ o
one_setting rules.includes rules.includes e = refl
one_setting rules.includes rules.excludes e = absurd cc
one_setting rules.excludes rules.includes e = absurd cc
one_setting rules.excludes rules.excludes e = refl

no_put : {f : Standard} {o : Change} → Changes f o → Put ≡ f → ⊥
no_put rules.increases e = absurd cc
no_put rules.decreases e = absurd cc

no_change : {f h : Standard} {o : Change} {p : Membership} → Changes f o → Sets h p → h ≡ f → ⊥
no_change rules.increases rules.includes e = absurd cc
no_change rules.increases rules.excludes e = absurd cc
no_change rules.decreases rules.includes e = absurd cc
no_change rules.decreases rules.excludes e = absurd cc

module _ (g : Gathers) (j : Judges g) (lawful : Lawful g j) (exports : ℕ → Ident → Standing) (w : Site)
    (s : Scope g.Reported) (knows : Knows g j w.spot.names exports s) (grasps : Grasps g w.senses s) where
  abbrev D : Expr → Named → Type 0
  D = Designates s.types w.spot.names exports w.senses

  abbrev K : Designator → List Expr → Signature → Call → Type 0
  K = Calls s.types w.spot.names exports w.senses

  abbrev A : List Formal → List Expr → List Argument → Type 0
  A = ArePassed s.types w.spot.names exports w.senses

  abbrev Dn : Designator → Thing → Type 0
  Dn = Denotes s.types w.spot.names exports

  abbrev Ac : Designator → List Expr → TypedStmt → Type 0
  Ac = Acts s.types exports w

  abbrev Head : Designator → Designated → Type 0
  Head = IsHead g j lawful w.spot.names exports w.senses s knows grasps

  abbrev Callable : Designator → TypeNo → Callee → Type 0
  Callable = IsCallee g j lawful w.spot.names exports w.senses s knows grasps

  abbrev St : Designator → Standard → Type 0
  St = IsStandard g j lawful w.spot.names exports w.senses s knows grasps

  abbrev So : Designator → List Expr → Result TypedStmt g.Reported → Type 0
  So d args r = IfMeant (IsOne (Ac d args)) r

  -- ---- procedures

  refused : {A B : Type 0} {Q : B → Type 0} (r : g.Reported) (rest : Result (Unit {0}) g.Reported)
      (f : A → Result B g.Reported) → IfMeant Q (ahead g (Err r) rest f)
  refused r (Ok u) f = not_meant r
  refused r (Err q) f = not_meant (g.join r q)

  beside_refused : {A : Type 0} {Q : A → Type 0} (at : Pos) (broken : _) (r : Result (Unit {0}) g.Reported)
      → IfMeant Q (reported_beside g {A = A} at broken r)
  beside_refused at broken (Ok u) = not_meant _
  beside_refused at broken (Err q) = not_meant _

  -- what an action is
  data ActedAs (d : Designator) (args : List Expr) : TypedStmt → Type 0 where
    as_procedure : (q : Signature) (k : Call) → K d args q k → q.result ≡ None → ActedAs d args (step.Call k)
    as_standard : {y : TypedStmt} (f : Standard) → Dn d (AStandard f) → ActedAs d args y

  acted_as : {d : Designator} {args : List Expr} {y : TypedStmt} → Ac d args y → ActedAs d args y
  acted_as (rules.calls {s = q} {c = k} a b) = as_procedure q k a b
  acted_as (rules.changes_by_one {p = f} a b c l) = as_standard f a
  acted_as (rules.changes {p = f} a b c l m) = as_standard f a
  acted_as (rules.sets {p = f} a b c m) = as_standard f a
  acted_as (rules.halts a) = as_standard Halt a
  acted_as (rules.puts a y) = as_standard Put a

  procedure_call : {d : Designator} {h : TypeNo} {c : Callee} (args : List Expr) (p : Signature) (xs : List Argument)
      → Callable d h c → IsMade s.types h (shape.Procedure p) → p.result ≡ None → IsOne (A p.formals args) xs
      → IsOne (Ac d args) (step.Call (call_by xs c))
  procedure_call {d = d} {h = h} {c = c} args p xs i m r o =
      record { holds = rules.calls (i.calls args p xs m o.holds) r; alone = λ y q. one (acted_as q) }
    where
      one : {y : TypedStmt} → ActedAs d args y → y ≡ step.Call (call_by xs c)
      one (as_procedure q k a b) =
          let w = i.only args q k a in
          let e : q ≡ p = one_signature s.types h w.2 m in
          let z : w.0 ≡ xs = o.alone w.0 (subst (λ (v : Signature). A v.formals args w.0) e w.3) in
          cc (w.1, z)
      one (as_standard f a) = absurd (i.no_standard f a)

  routine_act : {d : Designator} (h : TypeNo) (c : Callee) (args : List Expr) (at : Pos) → Callable d h c
      → So d args (routine_done g s at h c (map (meanings_of g) args))
  routine_act {d = d} h c args at i = by_signature (signature_there s.types h)
    where
      rest : Result (Unit {0}) g.Reported
      rest = breaches_in_all g s (map (meanings_of g) args)

      given_by : (p : Signature) → IsMade s.types h (shape.Procedure p) → p.result ≡ None
          → length p.formals ≡ length args → So d args (call_done c (actuals g s p.formals (map (meanings_of g) args)))
      given_by p m r q = if_then (actuals_so g j lawful w.spot.names exports w.senses s knows grasps p.formals args q
          (λ e n. expression_typed g j lawful w.spot.names exports w.senses s knows grasps e))
          (λ xs o. meant _ (procedure_call args p xs i m r o))

      by_signature : {o : Option Signature} → SignatureIs s.types h o
          → So d args (ahead g (proper_of g at o (length (map (meanings_of g) args))) rest
          (λ (u : Unit {0}). call_done c (actuals g s (formals_of o) (map (meanings_of g) args))))
      by_signature (no_signature n) = refused _ rest
          (λ (u : Unit {0}). call_done c (actuals g s [] (map (meanings_of g) args)))
      by_signature (has_signature p m) = by_result p.result refl
        where
          by_result : (r : Option TypeNo) → p.result ≡ r
              → So d args (ahead g (proper_with g at (length p.formals) (length (map (meanings_of g) args)) r) rest
              (λ (u : Unit {0}). call_done c (actuals g s p.formals (map (meanings_of g) args))))
          by_result (Some t) e = refused _ rest
              (λ (u : Unit {0}). call_done c (actuals g s p.formals (map (meanings_of g) args)))
          by_result None e = by_count (length p.formals == length (map (meanings_of g) args)) refl
            where
              by_count : (b : Bool) → (length p.formals == length (map (meanings_of g) args)) ≡ b
                  → So d args (ahead g (reported_where g (not b) at rule.ArgumentCount (Ok tt)) rest
                  (λ (u : Unit {0}). call_done c (actuals g s p.formals (map (meanings_of g) args))))
              by_count true q = given_by p m e (length_is g j lawful w.spot.names exports w.senses s knows grasps
                  (length p.formals) (length (map (meanings_of g) args)) (ap not q)
                  ∙ map_length g j lawful w.spot.names exports w.senses s knows grasps args)
              by_count false q = refused _ rest (λ (u : Unit {0}). call_done c
                  (actuals g s p.formals (map (meanings_of g) args)))

  -- ---- INC and DEC

  named_as : (e : Expr) → IfMeant (IsNamed (D e)) ((meanings_of g e).means s)
  named_as e = (expression_typed g j lawful w.spot.names exports w.senses s knows grasps e).named

  abbrev IsTarget : Expr → TypeNo × Place → Type 0
  IsTarget e q = IsNamed (D e) (designated.Variable q.0 q.1)

  -- a target that is no array and no record
  abbrev IsChanged : Expr → TypeNo × Place → Type 0
  IsChanged e q = IsTarget e q × (content s.types q.0 ≡ Whole q.0 → ⊥)

  change_so : {e : Expr} (at : Pos) (x : Designated) → IsNamed (D e) x
      → IfMeant (IsChanged e) (change_target g s.types at x)
  change_so {e = e} at (designated.Variable t p) n = by (class_at s.types t) refl
    where
      by : (c : Class) → class_at s.types t ≡ c → IfMeant (IsChanged e) (change_target_as g at t p c)
      by (class.Scalar r) h = meant _ (n, not_whole s.types t h (λ e. absurd cc))
      by class.Set h = not_meant _
      by class.Procedure h = not_meant _
      by class.Whole h = not_meant _
  change_so at (designated.Value v) n = not_meant _
  change_so at (designated.Open t u) n = not_meant _
  change_so at (designated.Type t) n = not_meant _
  change_so at (designated.Procedure p) n = not_meant _
  change_so at (designated.Nested p) n = not_meant _
  change_so at (designated.Standard f) n = not_meant _
  change_so at (designated.Module k) n = not_meant _

  change_there : (e : Expr) → IfMeant (IsChanged e) (change_target_in g s (meanings_of g e))
  change_there e = if_then (if_sorted g _ rule.NoVariable (named_as e)) (λ x n. change_so _ x n)

  by_one_alone : {d : Designator} {v : Expr} {f : Standard} {o : Change} {t : TypeNo} {p : Place} {y : TypedStmt}
      → Changes f o → St d f → IsTarget v (t, p) → Ac d (v ∷ []) y
      → y ≡ step.Change o p t (expr.Constant cardinal (pos 1))
  by_one_alone c i n (rules.calls a b) = absurd (i.no_procedure _ _ _ a)
  by_one_alone c i n (rules.changes_by_one {p = h} {t = u} {place = q} a k m f) =
      cc (one_change c k (i.only h a), n.alone (Variable u q) m)
  by_one_alone c i n (rules.puts a x) = absurd (no_put c (i.only Put a))

  by_alone : {d : Designator} {v e : Expr} {f : Standard} {o : Change} {t u : TypeNo} {p : Place} {x : TypedExpr}
      {y : TypedStmt} → Changes f o → St d f → IsTarget v (t, p)
      → IsMeasured g j lawful exports w s knows grasps e (u, x) → Ac d (v ∷ e ∷ []) y → y ≡ step.Change o p t x
  by_alone c i n m (rules.calls a b) = absurd (i.no_procedure _ _ _ a)
  by_alone c i n m (rules.changes {p = h} {t = z} {u = b} {place = q} {x = x} a k l f r) =
      cc (one_change c k (i.only h a), n.alone (Variable z q) l, (m.alone b x r).1)
  by_alone c i n m (rules.sets {p = h} a k l r) = absurd (no_change c k (i.only h a))

  change_act : {d : Designator} {f : Standard} {o : Change} (at : Pos) (args : List Expr) → Changes f o → St d f
      → So d args (change_statement g s at o (map (meanings_of g) args))
  change_act at [] c i = beside_refused at rule.ArgumentCount (breaches_in_all g s [])
  change_act {d = d} {o = o} at (v ∷ []) c i = by (change_there v)
    where
      by : {r : Result (TypeNo × Place) g.Reported} → IfMeant (IsChanged v) r
          → So d (v ∷ []) (change_by g o r (Ok (expr.Constant cardinal (pos 1))))
      by (meant q n) = meant _ (record {
        holds =
            rules.changes_by_one i.denotes c (n.0.holds (Variable q.0 q.1) refl) n.1;
        alone =
            λ y a. by_one_alone c i n.0 a;
      })
      by (not_meant r) = not_meant r
  change_act at (v ∷ e ∷ []) c i = if_then
      (if_both g (change_there v) (if_then (value_so g j lawful exports w s knows grasps e)
      (λ x k. amount_measured g j lawful exports w s knows grasps _ x k)))
      (λ p q. meant _ (record {
        holds = rules.changes i.denotes c (q.0.0.holds (Variable p.0.0 p.0.1) refl) q.0.1
            q.1.1.holds;
        alone = λ y a. by_alone c i q.0.0 q.1.1 a;
      }))
  change_act at (v ∷ e ∷ x ∷ xs) c i = beside_refused at rule.ArgumentCount
      (breaches_in_all g s (map (meanings_of g) (v ∷ e ∷ x ∷ xs)))

  -- ---- INCL and EXCL

  abbrev IsSetPlace : Expr → Place → Type 0
  IsSetPlace e p = (t : TypeNo) × IsNamed (D e) (designated.Variable t p)

  set_so : {e : Expr} (at : Pos) (x : Designated) → IsNamed (D e) x
      → IfMeant (IsSetPlace e) (set_variable g s.types at x)
  set_so {e = e} at (designated.Variable t p) n = by (class_at s.types t)
    where
      by : (c : Class) → IfMeant (IsSetPlace e) (set_as g at p c)
      by class.Set = meant _ (t, n)
      by (class.Scalar r) = not_meant _
      by class.Procedure = not_meant _
      by class.Whole = not_meant _
  set_so at (designated.Value v) n = not_meant _
  set_so at (designated.Open t u) n = not_meant _
  set_so at (designated.Type t) n = not_meant _
  set_so at (designated.Procedure p) n = not_meant _
  set_so at (designated.Nested p) n = not_meant _
  set_so at (designated.Standard f) n = not_meant _
  set_so at (designated.Module k) n = not_meant _

  set_there : (e : Expr) → IfMeant (IsSetPlace e) (set_in g s (meanings_of g e))
  set_there e = if_then (if_sorted g _ rule.NoVariable (named_as e)) (λ x n. set_so _ x n)

  set_alone : {d : Designator} {v e : Expr} {f : Standard} {o : Membership} {t u : TypeNo} {p : Place} {x : TypedExpr}
      {y : TypedStmt} → Sets f o → St d f → IsTarget v (t, p) → IsMeasured g j lawful exports w s knows grasps e (u, x)
      → Ac d (v ∷ e ∷ []) y → y ≡ step.Membership o p x
  set_alone c i n m (rules.calls a b) = absurd (i.no_procedure _ _ _ a)
  set_alone c i n m (rules.changes {p = h} a k l f r) = absurd (no_change k c (sym (i.only h a)))
  set_alone c i n m (rules.sets {p = h} {t = z} {u = b} {place = q} {x = x} a k l r) =
      cc (one_setting c k (i.only h a), n.alone (Variable z q) l, (m.alone b x r).1)

  set_act : {d : Designator} {f : Standard} {o : Membership} (at : Pos) (args : List Expr) → Sets f o → St d f
      → So d args (member_by g s at o (map (meanings_of g) args))
  set_act at [] c i = beside_refused at rule.ArgumentCount (breaches_in_all g s [])
  set_act at (v ∷ []) c i = beside_refused at rule.ArgumentCount (breaches_in_all g s (map (meanings_of g) (v ∷ [])))
  set_act at (v ∷ e ∷ []) c i = if_then (if_both g (set_there v)
      (if_then (value_so g j lawful exports w s knows grasps e)
      (λ x k. element_measured g j lawful exports w s knows grasps _ x k)))
      (λ p q. meant _ (record {
        holds = rules.sets i.denotes c (q.0.1.holds (Variable q.0.0 p.0) refl) q.1.1.holds;
        alone = λ y a. set_alone c i q.0.1 q.1.1 a;
      }))
  set_act at (v ∷ e ∷ x ∷ xs) c i = beside_refused at rule.ArgumentCount
      (breaches_in_all g s (map (meanings_of g) (v ∷ e ∷ x ∷ xs)))

  -- ---- HALT and Put

  halt_act : {d : Designator} (at : Pos) (args : List Expr) → St d Halt
      → So d args (halt_statement g s at (map (meanings_of g) args))
  halt_act {d = d} at [] i = meant _ (record { holds = rules.halts i.denotes; alone = λ y a. alone a })
    where
      alone : {y : TypedStmt} → Ac d [] y → y ≡ step.Halt
      alone (rules.calls a b) = absurd (i.no_procedure _ _ _ a)
      alone (rules.halts a) = refl
  halt_act at (x ∷ xs) i = beside_refused at rule.ArgumentCount (breaches_in_all g s (map (meanings_of g) (x ∷ xs)))

  put_act : {d : Designator} (at : Pos) (args : List Expr) → St d Put
      → So d args (put_by g s at (map (meanings_of g) args))
  put_act at [] i = beside_refused at rule.ArgumentCount (breaches_in_all g s [])
  put_act {d = d} at (e ∷ []) i = by (yielded g j lawful exports w s knows grasps rule.WrongArgument char
      (meanings_of g e).fixed.at e)
    where
      one : {x : TypedExpr} → IsOne (Gives s.types w.spot.names exports w.senses char e) x
          → IsOne (Ac d (e ∷ [])) (step.Put x)
      one {x = x} o = record { holds = rules.puts i.denotes o.holds; alone = λ y a. alone a }
        where
          alone : {y : TypedStmt} → Ac d (e ∷ []) y → y ≡ step.Put x
          alone (rules.calls a b) = absurd (i.no_procedure _ _ _ a)
          alone (rules.changes_by_one {p = h} a k m f) = absurd (no_put k (sym (i.only h a)))
          alone (rules.puts {x = z} a m) = cc (o.alone z m)

      by_value : (r : Result Computed g.Reported)
          → IfMeant (IsOne (Gives s.types w.spot.names exports w.senses char e))
          (r ▷ value_suited g rule.WrongArgument s.types char (meanings_of g e).fixed.at)
          → So d (e ∷ []) (r ▷ put g s.types (meanings_of g e).fixed.at)
      by_value (Ok v) h = if_then h (λ x o. meant _ (one o))
      by_value (Err q) h = not_meant q

      by : IfMeant (IsOne (Gives s.types w.spot.names exports w.senses char e))
          (value_of g s (meanings_of g e) ▷ value_suited g rule.WrongArgument s.types char (meanings_of g e).fixed.at)
          → So d (e ∷ []) (put_by g s at (map (meanings_of g) (e ∷ [])))
      by h = by_value (value_of g s (meanings_of g e)) h
  put_act at (x ∷ y ∷ xs) i = beside_refused at rule.ArgumentCount
      (breaches_in_all g s (map (meanings_of g) (x ∷ y ∷ xs)))

  -- ---- all calls

  standard_act : {d : Designator} (f : Standard) (at : Pos) (args : List Expr) → St d f
      → So d args (standard_done g s at (map (meanings_of g) args) f)
  standard_act Inc at args i = change_act at args rules.increases i
  standard_act Dec at args i = change_act at args rules.decreases i
  standard_act Incl at args i = set_act at args rules.includes i
  standard_act Excl at args i = set_act at args rules.excludes i
  standard_act Halt at args i = halt_act at args i
  standard_act Put at args i = put_act at args i
  standard_act Abs at args i = beside_refused at rule.WrongType (breaches_in_all g s (map (meanings_of g) args))
  standard_act Cap at args i = beside_refused at rule.WrongType (breaches_in_all g s (map (meanings_of g) args))
  standard_act Chr at args i = beside_refused at rule.WrongType (breaches_in_all g s (map (meanings_of g) args))
  standard_act High at args i = beside_refused at rule.WrongType (breaches_in_all g s (map (meanings_of g) args))
  standard_act Max at args i = beside_refused at rule.WrongType (breaches_in_all g s (map (meanings_of g) args))
  standard_act Min at args i = beside_refused at rule.WrongType (breaches_in_all g s (map (meanings_of g) args))
  standard_act Odd at args i = beside_refused at rule.WrongType (breaches_in_all g s (map (meanings_of g) args))
  standard_act Ord at args i = beside_refused at rule.WrongType (breaches_in_all g s (map (meanings_of g) args))
  standard_act Val at args i = beside_refused at rule.WrongType (breaches_in_all g s (map (meanings_of g) args))

  by_head : {d : Designator} (x : Designated) (at : Pos) (args : List Expr) → Head d x
      → So d args (ahead g (callee_of g s.types at x) (breaches_in_all g s (map (meanings_of g) args))
      (callee_statement g s at (map (meanings_of g) args)))
  by_head (designated.Procedure p) at args i =
      routine_act p.heading (callee.Module p) args at
      (module_callee g j lawful w.spot.names exports w.senses s knows grasps p i)
  by_head (designated.Nested p) at args i =
      routine_act p.heading (callee.Nested p) args at
      (nested_callee g j lawful w.spot.names exports w.senses s knows grasps p i)
  by_head {d = d} (designated.Variable t p) at args i = by_class (class_at s.types t)
    where
      by_class : (c : Class) → So d args (ahead g (callee_in_variable g at t p c)
          (breaches_in_all g s (map (meanings_of g) args)) (callee_statement g s at (map (meanings_of g) args)))
      by_class class.Procedure = routine_act t (callee.Variable t p) args at
          (variable_callee g j lawful w.spot.names exports w.senses s knows grasps t p i)
      by_class (class.Scalar r) = refused _ (breaches_in_all g s (map (meanings_of g) args))
          (callee_statement g s at (map (meanings_of g) args))
      by_class class.Set = refused _ (breaches_in_all g s (map (meanings_of g) args))
          (callee_statement g s at (map (meanings_of g) args))
      by_class class.Whole = refused _ (breaches_in_all g s (map (meanings_of g) args))
          (callee_statement g s at (map (meanings_of g) args))
  by_head (designated.Standard f) at args i =
      standard_act f at args (standard_is g j lawful w.spot.names exports w.senses s knows grasps f i)
  by_head (designated.Value v) at args i =
      refused _ (breaches_in_all g s (map (meanings_of g) args)) (callee_statement g s at (map (meanings_of g) args))
  by_head (designated.Open t u) at args i =
      refused _ (breaches_in_all g s (map (meanings_of g) args)) (callee_statement g s at (map (meanings_of g) args))
  by_head (designated.Type t) at args i =
      refused _ (breaches_in_all g s (map (meanings_of g) args)) (callee_statement g s at (map (meanings_of g) args))
  by_head (designated.Module k) at args i =
      refused _ (breaches_in_all g s (map (meanings_of g) args)) (callee_statement g s at (map (meanings_of g) args))

  pub acted : (d : Designator) (args : List Expr) → So d args (call_statement g s (head g d) (map (meanings_of g) args))
  acted d args = by (head_is g j lawful w.spot.names exports w.senses s knows grasps d
      (designator_named g j lawful w.spot.names exports w.senses s knows grasps d))
    where
      by : {m : Result Designated (Meaningless g.Reported)} → IfMeant (Head d) m
          → So d args (ahead g (of_heading m ▷ callee_of g s.types (head g d).fixed.at)
          (breaches_in_all g s (map (meanings_of g) args))
          (callee_statement g s (head g d).fixed.at (map (meanings_of g) args)))
      by (meant x i) = by_head x _ args i
      by (not_meant (meaningless.Broken r)) =
          refused r (breaches_in_all g s (map (meanings_of g) args))
          (callee_statement g s (head g d).fixed.at (map (meanings_of g) args))
      by (not_meant (meaningless.Headless b r)) =
          refused r (breaches_in_all g s (map (meanings_of g) args))
          (callee_statement g s (head g d).fixed.at (map (meanings_of g) args))
