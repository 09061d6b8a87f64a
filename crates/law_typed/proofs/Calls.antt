-- Calls in expressions, as they stand in a typed tree.
use Rattle.std.proofs.Common.{◌≡◌, ℕ, Bool, true, false, not, List, [], ◌∷◌, map, Option, Some, None, Result, Ok, Err, refl, sym, ap, subst, ◌∙◌, arith}
use Rattle.std.specs.Prelude.{length, ◌==◌}
use Rattle.std.proofs.lemmas.Bool.Decides.{nat_tests}
use Rattle.m2_rule.specs.declared.rule.Rule.TheVariants as rule
use Rattle.m2_tree.specs.declared.pos.Pos.{Pos}
use Rattle.m2_tree.specs.declared.name.Ident.{Ident}
use Rattle.m2_tree.specs.declared.expr.Expr.{Expr, Expr-F, out-Expr}
use Rattle.m2_tree.specs.declared.expr.Expr.TheOpen as layer
use Rattle.m2_tree.specs.declared.expr.Selector.{Selector}
use Rattle.m2_tree.specs.declared.expr.Designator.{Designator}
use Rattle.m2_tree.specs.declared.expr.Item.{Item}
use Rattle.typed_tree.specs.declared.types.TypeNo.{TypeNo}
use Rattle.typed_tree.specs.declared.computed.Argument.{Argument}
use Rattle.typed_tree.specs.declared.computed.Call.{Call}
use Rattle.typed_tree.specs.declared.computed.Call.TheVariants as call
use Rattle.typed_tree.specs.declared.computed.LocalProcedure.{LocalProcedure}
use Rattle.typed_tree.specs.declared.computed.Place.{Place}
use Rattle.typed_tree.specs.declared.meaning.Procedure.{Procedure as ModuleProcedure}
use Rattle.typed_tree.specs.declared.computed.TypedExpr.{TypedExpr}
use Rattle.typed_tree.specs.declared.computed.TypedExpr.TheVariants as expr
use Rattle.typed_tree.specs.declared.computed.Slot.{Slot}
use Rattle.typed_tree.specs.declared.meaning.Standard.{Standard}
use Rattle.typed_tree.specs.declared.meaning.Standard.TheVariants.{Abs, Cap, Chr, High, Max, Min, Odd, Ord, Val, Inc, Dec, Incl, Excl, Halt, Put}
use Rattle.typed_tree.specs.declared.shape.Formal.{Formal}
use Rattle.typed_tree.specs.declared.shape.Shape.TheVariants as shape
use Rattle.typed_tree.specs.declared.shape.Scalar.{Scalar as Range}
use Rattle.typed_tree.specs.declared.shape.Signature.{Signature}
use Rattle.typed_tree.specs.Known.{scalar_at}
use Rattle.typed_tree.specs.Types.{is_numeric}
use Rattle.check_scope.specs.declared.meaningless.Meaningless.{Meaningless}
use Rattle.check_scope.specs.declared.meaningless.Meaningless.TheVariants as meaningless
use Rattle.check_scope.specs.declared.scope.Scope.{Scope}
use Rattle.check_scope.specs.Elaborated.{Gathers, reported_where, ahead, reported_beside, ◌▷◌}
use Rattle.check_value.specs.declared.class.Class.{Class}
use Rattle.check_value.specs.declared.class.Class.TheVariants as class
use Rattle.check_value.specs.declared.computed.Computed.{Computed}
use Rattle.check_value.specs.declared.computed.Computed.TheVariants as computed
use Rattle.check_value.specs.declared.computed.Designated.{Designated}
use Rattle.check_value.specs.declared.computed.Designated.TheVariants as designated
use Rattle.check_value.specs.Classes.{class_at}
use Rattle.check_value.specs.Values.{given_as}
use Rattle.check_value.specs.declared.callee.Callee.{Callee}
use Rattle.check_value.specs.declared.callee.Callee.TheVariants as callee
use Rattle.check_value.specs.declared.callee.Called.TheVariants as called
use Rattle.check_value.specs.Callees.{callee_of, callee_in_variable, function_of, function_with, call_by}
use Rattle.check_const.specs.Standards.{conversion_of}
use Rattle.check_const.specs.Calls.{scalar_type, unary_of}
use Rattle.check_value.specs.declared.standard.Unary.{Unary}
use Rattle.check_value.specs.declared.standard.Unary.TheVariants as unary
use Rattle.check_value.specs.Functions.{unary_at, unary_built, unary_takes, bound_at, type_named, converted_value, high_of}
use Rattle.check_expr.specs.Meanings.{meanings_of, head, value_of, actuals, formals_of, call_given, callee_value, breaches_in_all, wrong_count, unary, bound, conversion, high, scalar_named, call_in_expression}
use Rattle.def_typing.specs.Parts.{Among, here, later}
use Rattle.def_typing.specs.Shapes.{IsMade}
use Rattle.def_typing.specs.Amounts.{Value}
use Rattle.def_typing.specs.Operators.{◌!◌, Kind, Scalar}
use Rattle.def_typing.specs.Things.{Thing, AType, AStandard, Standing}
use Rattle.def_typing.specs.Functions as functions
use Rattle.def_typing.specs.Functions.{IsOfOne}
use Rattle.def_typing.specs.Expressions.{Stands, Has, Denotes}
use Rattle.law_typing.specs.Judging.{Judges}
use Rattle.law_typing.specs.Exact.{Knows, IsKind, kind_scalar, IsThing, thing_variable, thing_type, thing_procedure, thing_nested, thing_standard}
use Rattle.law_typing.proofs.Combining.{Lawful}
use Rattle.law_typing.proofs.Shaping.{one_signature, SignatureIs, has_signature, no_signature, signature_there}
use Rattle.law_typing.proofs.Expressing.{designator_found}
use Rattle.def_typed.specs.Named.{Named, Variable, OpenArray, Procedure, Nested, Senses}
use Rattle.def_typed.specs.Coded as coded
use Rattle.def_typed.specs.Coded.{Applied}
use Rattle.def_typed.specs.Expressions as rules
use Rattle.def_typed.specs.Expressions.{Names, Computes, HasCode, Calls, ArePassed}
use Rattle.law_typed.specs.Typed.{IsOne, IsNamed, code_of, Grasps}
use Rattle.law_typed.proofs.Meant.{IfMeant, meant, not_meant, if_as, if_also, if_then, if_both, if_where, if_reported, if_sorted, if_sorted_value}
use Rattle.law_typed.proofs.Operators.{Coded, coded_as, constant_coded}
use Rattle.law_typed.proofs.Values.{IsCoded, IsValue, value_is, coded_by}
use Rattle.law_typed.proofs.Arguments.{IsTyped, IsThere, there, IsFoundAs, of_finds, actuals_so}

module _ (g : Gathers) (j : Judges g) (lawful : Lawful g j) (names : Ident → Standing) (exports : ℕ → Ident → Standing)
    (senses : Senses) (s : Scope g.Reported) (knows : Knows g j names exports s) (grasps : Grasps g senses s) where
  abbrev Typed : Expr → Type 0
  Typed = IsTyped g j lawful names exports senses s knows grasps

  abbrev N : Designator → Named → Type 0
  N = Names s.types names exports senses

  abbrev K : Designator → List Expr → Signature → Call → Type 0
  K = Calls s.types names exports senses

  abbrev A : List Formal → List Expr → List Argument → Type 0
  A = ArePassed s.types names exports senses

  abbrev Dn : Designator → Thing → Type 0
  Dn = Denotes s.types names exports

  abbrev C : Expr-F Expr Selector Designator Item → TypedExpr → Type 0
  C = Computes s.types names exports senses

  -- what is known of a designator
  pub record IsHead (d : Designator) (x : Designated) : Type 0 where
    pub named : IsNamed (N d) x
    pub found : IsFoundAs g j lawful names exports senses s knows grasps (Dn d) x

  pub head_is : (d : Designator) → IfMeant (IsNamed (N d)) ((head g d).means s)
      → IfMeant (IsHead d) ((head g d).means s)
  head_is d h = if_as (λ x p. record { named = p.0; found = p.1 })
      (if_also h (of_finds g j lawful names exports senses s knows grasps
      (designator_found g j lawful names exports s knows d)))

  -- a procedure with this heading that is called
  pub record IsCallee (d : Designator) (h : TypeNo) (c : Callee) : Type 0 where
    pub calls : (args : List Expr) (p : Signature) (xs : List Argument) → IsMade s.types h (shape.Procedure p)
        → A p.formals args xs → K d args p (call_by xs c)
    pub only : (args : List Expr) (p : Signature) (k : Call) → K d args p k → (xs : List Argument) × (k ≡ call_by xs c)
        × IsMade s.types h (shape.Procedure p) × A p.formals args xs
    pub no_standard : (f : Standard) → Dn d (AStandard f) → ⊥

  no_standard_by : {d : Designator} {x : Designated} {f : Standard} → IsHead d x
      → ((y : Thing) → IsThing x y → y ≡ AStandard f → ⊥) → Dn d (AStandard f) → ⊥
  no_standard_by i n m = n i.found.thing i.found.is (sym (i.found.one (AStandard _) m))

  pub module_callee : {d : Designator} (p : ModuleProcedure) → IsHead d (designated.Procedure p)
      → IsCallee d p.heading (callee.Module p)
  module_callee {d = d} p i = record {
    calls = λ args q xs m a. rules.of_module (i.named.holds (Procedure p) refl) m a;
    only = λ args q k r. only r;
    no_standard = λ f m. no_standard_by i none m;
  }
    where
      none : {f : Standard} (y : Thing) → IsThing (designated.Procedure p) y → y ≡ AStandard f → ⊥
      none _ (thing_procedure q) e = absurd cc

      only : {args : List Expr} {q : Signature} {k : Call} → K d args q k → (xs : List Argument)
          × (k ≡ call.Module p xs) × IsMade s.types p.heading (shape.Procedure q) × A q.formals args xs
      only {q = q} (rules.of_module {p = z} {xs = xs} n m a) = let e : z ≡ p = cc (i.named.alone (Procedure z) n) in (
        xs,
        ap (λ (w : ModuleProcedure). call.Module w xs) e,
        subst
            (λ (w : ModuleProcedure). IsMade s.types w.heading (shape.Procedure q)) e m,
        a,
      )
      only (rules.of_nested {p = z} n m a) = absurd cc (i.named.alone (Nested z) n)
      only (rules.of_variable {t = t} {place = z} n m a) = absurd cc (i.named.alone (Variable t z) n)

  pub nested_callee : {d : Designator} (p : LocalProcedure) → IsHead d (designated.Nested p)
      → IsCallee d p.heading (callee.Nested p)
  nested_callee {d = d} p i = record {
    calls = λ args q xs m a. rules.of_nested (i.named.holds (Nested p) refl) m a;
    only = λ args q k r. only r;
    no_standard = λ f m. no_standard_by i none m;
  }
    where
      none : {f : Standard} (y : Thing) → IsThing (designated.Nested p) y → y ≡ AStandard f → ⊥
      none _ (thing_nested q) e = absurd cc

      only : {args : List Expr} {q : Signature} {k : Call} → K d args q k → (xs : List Argument)
          × (k ≡ call.Nested p xs) × IsMade s.types p.heading (shape.Procedure q) × A q.formals args xs
      only (rules.of_module {p = z} n m a) = absurd cc (i.named.alone (Procedure z) n)
      only {q = q} (rules.of_nested {p = z} {xs = xs} n m a) = let e : z ≡ p = cc (i.named.alone (Nested z) n) in (
        xs,
        ap (λ (w : LocalProcedure). call.Nested w xs) e,
        subst
            (λ (w : LocalProcedure). IsMade s.types w.heading (shape.Procedure q)) e m,
        a,
      )
      only (rules.of_variable {t = t} {place = z} n m a) = absurd cc (i.named.alone (Variable t z) n)

  pub variable_callee : {d : Designator} (t : TypeNo) (p : Place) → IsHead d (designated.Variable t p)
      → IsCallee d t (callee.Variable t p)
  variable_callee {d = d} t p i = record {
    calls =
        λ args q xs m a. rules.of_variable (i.named.holds (Variable t p) refl) m a;
    only = λ args q k r. only r;
    no_standard = λ f m. no_standard_by i none m;
  }
    where
      none : {f : Standard} (y : Thing) → IsThing (designated.Variable t p) y → y ≡ AStandard f → ⊥
      none _ (thing_variable u q) e = absurd cc

      only : {args : List Expr} {q : Signature} {k : Call} → K d args q k → (xs : List Argument)
          × (k ≡ call.Variable t p xs) × IsMade s.types t (shape.Procedure q) × A q.formals args xs
      only (rules.of_module {p = z} n m a) = absurd cc (i.named.alone (Procedure z) n)
      only (rules.of_nested {p = z} n m a) = absurd cc (i.named.alone (Nested z) n)
      only {q = q} (rules.of_variable {t = u} {place = z} {xs = xs} n m a) = let e : u ≡ t =
          cc (i.named.alone (Variable u z) n) in
          (xs, cc (i.named.alone (Variable u z) n), subst (λ (w : TypeNo). IsMade s.types w (shape.Procedure q)) e m, a)

  -- ---- functions

  ahead_refused : {A B : Type 0} {Q : B → Type 0} (r : g.Reported) (rest : Result (Unit {0}) g.Reported)
      (f : A → Result B g.Reported) → IfMeant Q (ahead g (Err r) rest f)
  ahead_refused r (Ok u) f = not_meant r
  ahead_refused r (Err q) f = not_meant (g.join r q)

  pub length_is : (a b : ℕ) → not (a == b) ≡ false → a ≡ b
  length_is a b e = same a b (not_not (a == b) e)
    where
      not_not : (c : Bool) → not c ≡ false → c ≡ true
      not_not true q = refl
      not_not false q = absurd cc

      same : (a b : ℕ) → (a == b) ≡ true → a ≡ b
      same a b q = grind (arith, nat_tests)

  result_code : (u : Class) (t : TypeNo) (e z : TypedExpr) → code_of (given_as t e u) ≡ Some z → e ≡ z
  result_code (class.Scalar r) t e z q = cc q
  result_code class.Set t e z q = cc q
  result_code class.Procedure t e z q = cc q
  result_code class.Whole t e z q = absurd cc

  pub map_length : (args : List Expr) → length (map (meanings_of g) args) ≡ length args
  map_length [] = refl
  map_length (e ∷ es) = grind (arith, map_length es)

  abbrev U : Designator → List Expr → Expr-F Expr Selector Designator Item
  U d args = layer.Use d (Some args)

  -- how a call is computed
  data CalledAs (d : Designator) (args : List Expr) : TypedExpr → Type 0 where
    as_function : (q : Signature) (u : TypeNo) (k : Call) → K d args q k → q.result ≡ Some u
        → CalledAs d args (expr.Call u k)
    as_standard : {y : TypedExpr} (f : Standard) → Dn d (AStandard f) → CalledAs d args y

  called_as : {d : Designator} (args : List Expr) (y : TypedExpr) → C (U d args) y → CalledAs d args y
  called_as args _ (rules.a_function {s = q} {t = u} {c = k} a b) = as_function q u k a b
  called_as _ _ (rules.of_one {f = f} a b e y) = as_standard f a
  called_as _ _ (rules.converted a b e y) = as_standard Val a
  called_as _ _ (rules.greatest_index a b) = as_standard High a

  -- a call of a function with this heading
  function_call : {d : Designator} {h : TypeNo} {c : Callee} (args : List Expr) (p : Signature) (t : TypeNo)
      (xs : List Argument) → IsCallee d h c → IsMade s.types h (shape.Procedure p) → p.result ≡ Some t
      → IsOne (A p.formals args) xs → IsOne (C (U d args)) (expr.Call t (call_by xs c))
  function_call {d = d} {h = h} {c = c} args p t xs i m r o =
      record { holds = rules.a_function (i.calls args p xs m o.holds) r; alone = λ y q. alone y q }
    where
      one : (y : TypedExpr) → CalledAs d args y → y ≡ expr.Call t (call_by xs c)
      one _ (as_function q u k a b) =
          let w = i.only args q k a in
          let e : q ≡ p = one_signature s.types h w.2 m in
          let z : w.0 ≡ xs = o.alone w.0 (subst (λ (v : Signature). A v.formals args w.0) e w.3) in
          let v : Some u ≡ Some t = sym b ∙ (ap (λ (v : Signature). v.result) e ∙ r) in
          cc (w.1, z, v)
      one _ (as_standard f a) = absurd (i.no_standard f a)

      alone : (y : TypedExpr) → C (U d args) y → y ≡ expr.Call t (call_by xs c)
      alone y q = one y (called_as args y q)

  routine_call : {d : Designator} (h : TypeNo) (c : Callee) (args : List Expr) (at : Pos) → IsCallee d h c
      → ((e : Expr) → Among e args → Typed e)
      → IfMeant (Coded (C (U d args))) (callee_value g s at (map (meanings_of g) args) (called.Routine h c))
  routine_call {d = d} h c args at i w = by_signature (signature_there s.types h)
    where
      rest : Result (Unit {0}) g.Reported
      rest = breaches_in_all g s (map (meanings_of g) args)

      given_by : (p : Signature) (t : TypeNo) → IsMade s.types h (shape.Procedure p) → p.result ≡ Some t
          → length p.formals ≡ length args → IfMeant (Coded (C (U d args)))
          (call_given g s.types t c (actuals g s p.formals (map (meanings_of g) args)))
      given_by p t m r q = if_then (actuals_so g j lawful names exports senses s knows grasps p.formals args q w)
          (λ xs o. meant _ (λ z e. subst (IsOne (C (U d args)))
          (result_code (class_at s.types t) t (expr.Call t (call_by xs c)) z e) (function_call args p t xs i m r o)))

      by_signature : {o : Option Signature} → SignatureIs s.types h o
          → IfMeant (Coded (C (U d args))) (ahead g (function_of g at o (length (map (meanings_of g) args)))
          (breaches_in_all g s (map (meanings_of g) args))
          (λ t. call_given g s.types t c (actuals g s (formals_of o) (map (meanings_of g) args))))
      by_signature (no_signature n) = ahead_refused (g.one (at ! rule.WrongType)) rest
          (λ (t : TypeNo). call_given g s.types t c (actuals g s (formals_of None) (map (meanings_of g) args)))
      by_signature (has_signature p m) = by_result p.result refl
        where
          by_result : (r : Option TypeNo) → p.result ≡ r
              → IfMeant (Coded (C (U d args))) (ahead g
              (function_with g at (length p.formals) (length (map (meanings_of g) args)) r)
              (breaches_in_all g s (map (meanings_of g) args))
              (λ t. call_given g s.types t c (actuals g s p.formals (map (meanings_of g) args))))
          by_result None e = ahead_refused (g.one (at ! rule.WrongType)) rest
              (λ (t : TypeNo). call_given g s.types t c (actuals g s p.formals (map (meanings_of g) args)))
          by_result (Some t) e = by_count (length p.formals == length (map (meanings_of g) args)) refl
            where
              by_count : (b : Bool) → (length p.formals == length (map (meanings_of g) args)) ≡ b
                  → IfMeant (Coded (C (U d args))) (ahead g
                  (reported_where g (not b) at rule.ArgumentCount (Ok tt) ▷ λ (u : Unit {0}). Ok t)
                  (breaches_in_all g s (map (meanings_of g) args))
                  (λ t. call_given g s.types t c (actuals g s p.formals (map (meanings_of g) args))))
              by_count true q = given_by p t m e (length_is (length p.formals) (length (map (meanings_of g) args))
                  (ap not q) ∙ map_length args)
              by_count false q = ahead_refused (g.one (at ! rule.ArgumentCount)) rest
                  (λ (t : TypeNo). call_given g s.types t c (actuals g s p.formals (map (meanings_of g) args)))

  -- ---- standard functions

  -- what a designator of a standard procedure is, and is not
  pub record IsStandard (d : Designator) (f : Standard) : Type 0 where
    pub denotes : Dn d (AStandard f)
    pub only : (h : Standard) → Dn d (AStandard h) → h ≡ f
    pub no_procedure : (args : List Expr) (p : Signature) (k : Call) → K d args p k → ⊥

  pub standard_is : {d : Designator} (f : Standard) → IsHead d (designated.Standard f) → IsStandard d f
  standard_is {d = d} f i = record {
    denotes = denotes i.found.thing i.found.is i.found.stands;
    only =
        λ h m. only i.found.thing i.found.is (i.found.one (AStandard h) m);
    no_procedure = λ args p k r. none r;
  }
    where
      denotes : (x : Thing) → IsThing (designated.Standard f) x → Dn d x → Dn d (AStandard f)
      denotes _ (thing_standard h) m = m

      only : {h : Standard} (x : Thing) → IsThing (designated.Standard f) x → AStandard h ≡ x → h ≡ f
      only _ (thing_standard k) e = cc e

      none : {args : List Expr} {p : Signature} {k : Call} → K d args p k → ⊥
      none (rules.of_module {p = z} n m a) = absurd cc (i.named.alone (Procedure z) n)
      none (rules.of_nested {p = z} n m a) = absurd cc (i.named.alone (Nested z) n)
      none (rules.of_variable {t = t} {place = z} n m a) = absurd cc (i.named.alone (Variable t z) n)

  refused_count : {Q : Computed → Type 0} (at : Pos) (args : List Expr)
      → IfMeant Q (wrong_count g s at (map (meanings_of g) args))
  refused_count at args = by_rest (breaches_in_all g s (map (meanings_of g) args))
    where
      by_rest : {Q : Computed → Type 0} (r : Result (Unit {0}) g.Reported)
          → IfMeant Q (reported_beside g at rule.ArgumentCount r)
      by_rest (Ok u) = not_meant _
      by_rest (Err q) = not_meant _

  no_function : {Q : Computed → Type 0} (at : Pos) (args : List Expr)
      → IfMeant Q (reported_beside g at rule.WrongType (breaches_in_all g s (map (meanings_of g) args)))
  no_function at args = by_rest (breaches_in_all g s (map (meanings_of g) args))
    where
      by_rest : {Q : Computed → Type 0} (r : Result (Unit {0}) g.Reported)
          → IfMeant Q (reported_beside g at rule.WrongType r)
      by_rest (Ok u) = not_meant _
      by_rest (Err q) = not_meant _

  -- ---- of one value

  abbrev V : Expr → Computed → Type 0
  V = IsValue g j lawful names exports senses s knows

  value_so : (e : Expr) → Typed e → IfMeant (V e) (value_of g s (meanings_of g e))
  value_so e h = value_is g j lawful names exports senses s knows e h.coded

  -- the code of an operand of a base type
  operand_code : {e : Expr} {t b : TypeNo} {x : TypedExpr} → V e (computed.Scalar t b x)
      → Has s.types names exports e (Scalar (Value b)) × IsOne (C (out-Expr e)) x
      × ((u : TypeNo) → Has s.types names exports e (Scalar (Value u)) → u ≡ b)
  operand_code {e = e} {t = t} {b = b} {x = x} i = by_kind i.is i.has i.one i.code i.alone
    where
      by_kind : {k : Kind} → IsKind (computed.Scalar t b x) k → Has s.types names exports e k
          → ((l : Kind) → Has s.types names exports e l → l ≡ k) → HasCode s.types names exports senses e k (Some x)
          → ((c : Option TypedExpr) → HasCode s.types names exports senses e k c → c ≡ Some x)
          → Has s.types names exports e (Scalar (Value b)) × IsOne (C (out-Expr e)) x
          × ((u : TypeNo) → Has s.types names exports e (Scalar (Value u)) → u ≡ b)
      by_kind (kind_scalar u w y) h one code alone = (
        h,
        record { holds = code_in code; alone = λ z r. let q = alone (Some z) (rules.a_code (λ n. n) r) in cc q },
        λ u m. let q = one (Scalar (Value u)) m in cc q,
      )
        where
          code_in : HasCode s.types names exports senses e (Scalar (Value b)) (Some x) → C (out-Expr e) x
          code_in (rules.a_code n c) = c

  applied_one : {f : Standard} {t : TypeNo} {x y z : TypedExpr} → Applied t x f y → Applied t x f z → z ≡ y
  applied_one coded.absolute coded.absolute = refl
  applied_one coded.capital coded.capital = refl
  applied_one coded.character coded.character = refl
  applied_one coded.is_odd coded.is_odd = refl
  applied_one coded.ordinal coded.ordinal = refl

  not_high : {f : Standard} → IsOfOne f → High ≡ f → ⊥
  not_high one e = elim (subst IsOfOne (sym e) one) [ ]

  unary_alone : {d : Designator} {f : Standard} {e : Expr} {b : TypeNo} {x y : TypedExpr} → IsOfOne f → IsStandard d f
      → ((u : TypeNo) → Has s.types names exports e (Scalar (Value u)) → u ≡ b) → IsOne (C (out-Expr e)) x
      → Applied b x f y → (z : TypedExpr) → C (U d (e ∷ [])) z → z ≡ y
  unary_alone one i t o a z (rules.a_function q r) = absurd (i.no_procedure _ _ _ q)
  unary_alone {f = f} {b = b} {x = x} one i t o a z (rules.of_one {f = h} {t = u} {x = w} n hs c q) =
      applied_one a (subst (λ (v : TypeNo). Applied v x f z) (t u hs)
      (subst (λ (v : TypedExpr). Applied u v f z) (o.alone w c)
      (subst (λ (v : Standard). Applied u w v z) (i.only h n) q)))
  unary_alone one i t o a z (rules.greatest_index n q) = absurd (not_high one (i.only High n))

  unary_call : {d : Designator} {f : Standard} {e : Expr} {t b : TypeNo} {x y : TypedExpr} → IsOfOne f → IsStandard d f
      → V e (computed.Scalar t b x) → Applied b x f y → IsOne (C (U d (e ∷ []))) y
  unary_call one i v a = let o = operand_code v in
      record { holds = rules.of_one i.denotes o.0 o.1.holds a; alone = unary_alone one i o.2 o.1 a }

  -- which of them it is
  data OfOne : Standard → Unary → Type 0 where
    of_abs : OfOne Abs unary.Abs
    of_cap : OfOne Cap unary.Cap
    of_chr : OfOne Chr unary.Chr
    of_odd : OfOne Odd unary.Odd
    of_ord : OfOne Ord unary.Ord

  takes_one : {f : Standard} {u : Unary} → OfOne f u → IsOfOne f
  takes_one of_abs = functions.of_abs
  takes_one of_cap = functions.of_cap
  takes_one of_chr = functions.of_chr
  takes_one of_odd = functions.of_odd
  takes_one of_ord = functions.of_ord

  built : {f : Standard} {u : Unary} {b : TypeNo} {x : TypedExpr} {P : TypedExpr → Type 0} → OfOne f u
      → ((y : TypedExpr) → Applied b x f y → IsOne P y) → Coded P (unary_built u b x)
  built {P = P} of_abs h z e = subst (IsOne P) (cc e) (h _ coded.absolute)
  built {P = P} of_cap h z e = subst (IsOne P) (cc e) (h _ coded.capital)
  built {P = P} of_chr h z e = subst (IsOne P) (cc e) (h _ coded.character)
  built {P = P} of_odd h z e = subst (IsOne P) (cc e) (h _ coded.is_odd)
  built {P = P} of_ord h z e = subst (IsOne P) (cc e) (h _ coded.ordinal)

  unary_so : {d : Designator} {f : Standard} {u : Unary} (e : Expr) (at : Pos) → OfOne f u → IsStandard d f
      → (v : Computed) → V e v → IfMeant (Coded (C (U d (e ∷ [])))) (unary_at g f u at v)
  unary_so {f = f} e at one i (computed.Constant w) v = constant_coded (unary_of g f at w)
  unary_so {u = u} e at one i (computed.Scalar t b x) v =
      if_where g (not (unary_takes u b)) at rule.WrongArgument
      (λ q. meant _ (built one (λ y a. unary_call (takes_one one) i v a)))
  unary_so e at one i (computed.Set x) v = if_reported g at rule.WrongArgument
  unary_so e at one i (computed.Routine t x) v = if_reported g at rule.WrongArgument
  unary_so e at one i (computed.Procedure p) v = if_reported g at rule.WrongArgument
  unary_so e at one i (computed.Whole t p) v = if_reported g at rule.WrongArgument
  unary_so e at one i computed.Untaken v = if_reported g at rule.WrongArgument

  one_call : {d : Designator} {f : Standard} {u : Unary} (at : Pos) (args : List Expr) → OfOne f u → IsStandard d f
      → ((e : Expr) → Among e args → Typed e)
      → IfMeant (Coded (C (U d args))) (unary g s at f u (map (meanings_of g) args))
  one_call at [] one i w = refused_count at []
  one_call at (e ∷ []) one i w = if_then (value_so e (w e here)) (λ v h. unary_so e _ one i v h)
  one_call at (e ∷ x ∷ xs) one i w = refused_count at (e ∷ x ∷ xs)

  -- ---- MAX and MIN

  bound_call : {P : TypedExpr → Type 0} (f : Standard) (at : Pos) (args : List Expr)
      → IfMeant (Coded P) (bound g s at f (map (meanings_of g) args))
  bound_call f at [] = refused_count at []
  bound_call f at (t ∷ []) = by_type (scalar_named g s (meanings_of g t))
    where
      by_type : {P : TypedExpr → Type 0} (r : Result (TypeNo × Range) g.Reported) → IfMeant (Coded P) (bound_at f r)
      by_type (Ok p) = meant _ (λ z e. absurd cc)
      by_type (Err q) = not_meant q
  bound_call f at (t ∷ x ∷ xs) = refused_count at (t ∷ x ∷ xs)

  -- ---- VAL

  -- what an argument stands for
  there_so : (e : Expr) → Typed e → IfMeant (IsThere g j lawful names exports senses s knows grasps e)
      ((meanings_of g e).means s)
  there_so e h = there g j lawful names exports senses s knows grasps e h

  -- a type that is named
  pub record IsType (e : Expr) (p : TypeNo × Range) : Type 0 where
    pub stands : Stands s.types names exports e (AType p.0)
    pub only : (u : TypeNo) → Stands s.types names exports e (AType u) → u ≡ p.0

  type_named_so : {e : Expr} (at : Pos) (x : Designated) → IsThere g j lawful names exports senses s knows grasps e x
      → IfMeant (IsType e) (type_named g s.types at x)
  type_named_so {e = e} at (designated.Type t) i = by_scalar (scalar_at s.types t)
    where
      stands : (x : Thing) → IsThing (designated.Type t) x → Stands s.types names exports e x
          → Stands s.types names exports e (AType t)
      stands _ (thing_type u) m = m

      only : {u : TypeNo} (x : Thing) → IsThing (designated.Type t) x → AType u ≡ x → u ≡ t
      only _ (thing_type w) q = cc q

      by_scalar : (r : Option Range) → IfMeant (IsType e) (scalar_type g at t r)
      by_scalar None = not_meant _
      by_scalar (Some r) = meant _ (record {
        stands = stands i.thing i.is i.stands;
        only =
            λ u m. only i.thing i.is (i.one (AType u) m);
      })
  type_named_so at (designated.Value v) i = if_reported g at rule.NoType
  type_named_so at (designated.Variable t p) i = if_reported g at rule.NoType
  type_named_so at (designated.Open t u) i = if_reported g at rule.NoType
  type_named_so at (designated.Procedure p) i = if_reported g at rule.NoType
  type_named_so at (designated.Nested p) i = if_reported g at rule.NoType
  type_named_so at (designated.Standard f) i = if_reported g at rule.NoType
  type_named_so at (designated.Module k) i = if_reported g at rule.NoType

  scalar_named_so : (e : Expr) → Typed e → IfMeant (IsType e) (scalar_named g s (meanings_of g e))
  scalar_named_so e h = if_then (if_sorted g _ rule.NoType (there_so e h)) (λ x i. type_named_so _ x i)

  converted_alone : {d : Designator} {to e : Expr} {p : TypeNo × Range} {x : TypedExpr} → IsStandard d Val → IsType to p
      → IsOne (C (out-Expr e)) x → (z : TypedExpr) → C (U d (to ∷ e ∷ [])) z → z ≡ expr.Val p.0 x
  converted_alone i t o z (rules.a_function q r) = absurd (i.no_procedure _ _ _ q)
  converted_alone i t o _ (rules.converted {u = u} {x = w} n m hs c) = cc (t.only u m, o.alone w c)

  converted_so : {d : Designator} (to e : Expr) (p : TypeNo × Range) (at : Pos) (v : Computed) → IsStandard d Val
      → IsType to p → V e v → IfMeant (Coded (C (U d (to ∷ e ∷ [])))) (converted_value g p.0 p.1 at v)
  converted_so to e p at (computed.Constant w) i t v = constant_coded (conversion_of g p.0 p.1 at w)
  converted_so to e p at (computed.Scalar u b x) i t v = let o = operand_code v in
      if_where g (not (is_numeric b)) at rule.WrongArgument
      (λ q. coded_as _ (expr.Val p.0 x) refl (rules.converted i.denotes t.stands o.0 o.1.holds)
      (converted_alone i t o.1))
  converted_so to e p at (computed.Set x) i t v = if_reported g at rule.WrongArgument
  converted_so to e p at (computed.Routine u x) i t v = if_reported g at rule.WrongArgument
  converted_so to e p at (computed.Procedure q) i t v = if_reported g at rule.WrongArgument
  converted_so to e p at (computed.Whole u q) i t v = if_reported g at rule.WrongArgument
  converted_so to e p at computed.Untaken i t v = if_reported g at rule.WrongArgument

  conversion_call : {d : Designator} (at : Pos) (args : List Expr) → IsStandard d Val
      → ((e : Expr) → Among e args → Typed e)
      → IfMeant (Coded (C (U d args))) (conversion g s at (map (meanings_of g) args))
  conversion_call at [] i w = refused_count at []
  conversion_call at (t ∷ []) i w = refused_count at (t ∷ [])
  conversion_call at (t ∷ e ∷ []) i w = if_then
      (if_both g (scalar_named_so t (w t here)) (value_so e (w e (later here))))
      (λ p q. converted_so t e p.0 _ p.1 i q.0 q.1)
  conversion_call at (t ∷ e ∷ x ∷ xs) i w = refused_count at (t ∷ e ∷ x ∷ xs)

  -- ---- HIGH

  high_alone : {d : Designator} {e : Expr} {t : TypeNo} {u : Slot} → IsStandard d High
      → IsThere g j lawful names exports senses s knows grasps e (designated.Open t u) → (z : TypedExpr)
      → C (U d (e ∷ [])) z → z ≡ expr.High u
  high_alone i h z (rules.a_function q r) = absurd (i.no_procedure _ _ _ q)
  high_alone i h z (rules.of_one {f = f} n hs c q) = absurd (not_applied q (i.only f n))
    where
      not_applied : {f : Standard} {t : TypeNo} {x y : TypedExpr} → Applied t x f y → f ≡ High → ⊥
      not_applied coded.absolute e = absurd cc
      not_applied coded.capital e = absurd cc
      not_applied coded.character e = absurd cc
      not_applied coded.is_odd e = absurd cc
      not_applied coded.ordinal e = absurd cc
  high_alone i h _ (rules.greatest_index {t = w} {s = k} n m) = cc (h.named.alone (OpenArray w k) m)

  high_so : {d : Designator} {e : Expr} (at : Pos) (x : Designated) → IsStandard d High
      → IsThere g j lawful names exports senses s knows grasps e x → IfMeant (Coded (C (U d (e ∷ [])))) (high_of g at x)
  high_so at (designated.Open t u) i h = coded_as _ (expr.High u) refl
      (rules.greatest_index i.denotes (h.named.holds (OpenArray t u) refl)) (high_alone i h)
  high_so at (designated.Value v) i h = if_reported g at rule.WrongArgument
  high_so at (designated.Variable t p) i h = if_reported g at rule.WrongArgument
  high_so at (designated.Type t) i h = if_reported g at rule.WrongType
  high_so at (designated.Procedure p) i h = if_reported g at rule.WrongArgument
  high_so at (designated.Nested p) i h = if_reported g at rule.NoProcedureValue
  high_so at (designated.Standard f) i h = if_reported g at rule.NoProcedureValue
  high_so at (designated.Module k) i h = if_reported g at rule.WrongType

  high_call : {d : Designator} (at : Pos) (args : List Expr) → IsStandard d High → ((e : Expr) → Among e args → Typed e)
      → IfMeant (Coded (C (U d args))) (high g s at (map (meanings_of g) args))
  high_call at [] i w = refused_count at []
  high_call at (e ∷ []) i w = if_then (if_sorted_value g _ rule.WrongArgument (there_so e (w e here)))
      (λ x h. high_so _ x i h)
  high_call at (e ∷ x ∷ xs) i w = refused_count at (e ∷ x ∷ xs)

  -- ---- all calls

  standard_call : {d : Designator} (f : Standard) (at : Pos) (args : List Expr) → IsStandard d f
      → ((e : Expr) → Among e args → Typed e)
      → IfMeant (Coded (C (U d args))) (callee_value g s at (map (meanings_of g) args) (called.Standard f))
  standard_call Abs at args i w = one_call at args of_abs i w
  standard_call Cap at args i w = one_call at args of_cap i w
  standard_call Chr at args i w = one_call at args of_chr i w
  standard_call Odd at args i w = one_call at args of_odd i w
  standard_call Ord at args i w = one_call at args of_ord i w
  standard_call High at args i w = high_call at args i w
  standard_call Val at args i w = conversion_call at args i w
  standard_call Max at args i w = bound_call Max at args
  standard_call Min at args i w = bound_call Min at args
  standard_call Inc at args i w = no_function at args
  standard_call Dec at args i w = no_function at args
  standard_call Incl at args i w = no_function at args
  standard_call Excl at args i w = no_function at args
  standard_call Halt at args i w = no_function at args
  standard_call Put at args i w = no_function at args

  call_by_head : {d : Designator} (x : Designated) (at : Pos) (args : List Expr) → IsHead d x
      → ((e : Expr) → Among e args → Typed e)
      → IfMeant (Coded (C (U d args))) (ahead g (callee_of g s.types at x)
      (breaches_in_all g s (map (meanings_of g) args)) (callee_value g s at (map (meanings_of g) args)))
  call_by_head (designated.Procedure p) at args i w =
      routine_call p.heading (callee.Module p) args at (module_callee p i) w
  call_by_head (designated.Nested p) at args i w =
      routine_call p.heading (callee.Nested p) args at (nested_callee p i) w
  call_by_head {d = d} (designated.Variable t p) at args i w = by_class (class_at s.types t)
    where
      by_class : (c : Class) → IfMeant (Coded (C (U d args)))
          (ahead g (callee_in_variable g at t p c) (breaches_in_all g s (map (meanings_of g) args))
          (callee_value g s at (map (meanings_of g) args)))
      by_class class.Procedure = routine_call t (callee.Variable t p) args at (variable_callee t p i) w
      by_class (class.Scalar r) = ahead_refused (g.one (at ! rule.WrongType))
          (breaches_in_all g s (map (meanings_of g) args)) (callee_value g s at (map (meanings_of g) args))
      by_class class.Set = ahead_refused (g.one (at ! rule.WrongType)) (breaches_in_all g s (map (meanings_of g) args))
          (callee_value g s at (map (meanings_of g) args))
      by_class class.Whole = ahead_refused (g.one (at ! rule.WrongType))
          (breaches_in_all g s (map (meanings_of g) args)) (callee_value g s at (map (meanings_of g) args))
  call_by_head (designated.Standard f) at args i w = standard_call f at args (standard_is f i) w
  call_by_head (designated.Value v) at args i w =
      ahead_refused (g.one (at ! rule.WrongType)) (breaches_in_all g s (map (meanings_of g) args))
      (callee_value g s at (map (meanings_of g) args))
  call_by_head (designated.Open t u) at args i w =
      ahead_refused (g.one (at ! rule.WrongType)) (breaches_in_all g s (map (meanings_of g) args))
      (callee_value g s at (map (meanings_of g) args))
  call_by_head (designated.Type t) at args i w =
      ahead_refused (g.one (at ! rule.WrongType)) (breaches_in_all g s (map (meanings_of g) args))
      (callee_value g s at (map (meanings_of g) args))
  call_by_head (designated.Module k) at args i w =
      ahead_refused (g.one (at ! rule.WrongType)) (breaches_in_all g s (map (meanings_of g) args))
      (callee_value g s at (map (meanings_of g) args))

  pub call_coded : (e : Expr) (d : Designator) (args : List Expr) → out-Expr e ≡ U d args
      → IfMeant (IsNamed (N d)) ((head g d).means s) → ((x : Expr) → Among x args → Typed x)
      → IsCoded g j lawful names exports senses s knows e
  call_coded e d args h n w = coded_by g j lawful names exports senses s knows e (U d args)
      (call_in_expression g s (head g d).fixed.at ((head g d).means s) (map (meanings_of g) args)) h refl
      (by_head (head_is d n))
    where
      by_head : {m : Result Designated (Meaningless g.Reported)} → IfMeant (IsHead d) m
          → IfMeant (Coded (C (U d args))) (call_in_expression g s (head g d).fixed.at m (map (meanings_of g) args))
      by_head (meant x i) = call_by_head x (head g d).fixed.at args i w
      by_head (not_meant (meaningless.Broken r)) =
          ahead_refused r (breaches_in_all g s (map (meanings_of g) args))
          (callee_value g s (head g d).fixed.at (map (meanings_of g) args))
      by_head (not_meant (meaningless.Headless b r)) =
          ahead_refused r (breaches_in_all g s (map (meanings_of g) args))
          (callee_value g s (head g d).fixed.at (map (meanings_of g) args))
