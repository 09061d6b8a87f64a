-- The induction over expressions: what is answered is the one typed tree that the rules give.
use Rattle.std.proofs.Common.{false, true, ◌≡◌, ℕ, List, Some, None, Result, Ok, Err, refl, sym, ap, subst, ◌∙◌}
use Rattle.m2_tree.specs.declared.pos.Pos.{Pos}
use Rattle.m2_tree.specs.declared.name.Ident.{Ident}
use Rattle.m2_tree.specs.declared.expr.Expr.{Expr, Expr-F, out-Expr}
use Rattle.m2_tree.specs.declared.expr.Expr.TheOpen as layer
use Rattle.m2_tree.specs.declared.expr.Selector.{Selector, out-Selector}
use Rattle.m2_tree.specs.declared.expr.Designator.{Designator, out-Designator}
use Rattle.m2_tree.specs.declared.expr.Item.{Item}
use Rattle.typed_tree.specs.declared.computed.TypedExpr.{TypedExpr}
use Rattle.typed_tree.specs.declared.computed.TypedExpr.TheVariants as expr
use Rattle.typed_tree.specs.declared.meaning.Value.{Value as ConstantValue}
use Rattle.check_scope.specs.declared.meaningless.Meaningless.{Meaningless}
use Rattle.check_scope.specs.declared.meaningless.Meaningless.TheVariants as meaningless
use Rattle.check_scope.specs.declared.scope.Scope.{Scope}
use Rattle.check_scope.specs.Elaborated.{Gathers, plain, ◌▷◌}
use Rattle.check_value.specs.declared.class.Class.{Class}
use Rattle.check_value.specs.declared.class.Class.TheVariants as class
use Rattle.check_value.specs.declared.computed.Computed.{Computed}
use Rattle.check_value.specs.declared.computed.Computed.TheVariants as computed
use Rattle.check_value.specs.declared.computed.Designated.{Designated}
use Rattle.check_value.specs.declared.computed.Designated.TheVariants as designated
use Rattle.check_value.specs.Classes.{class_at}
use Rattle.check_value.specs.Values.{loaded_as, value_at_place}
use Rattle.check_expr.specs.Meanings.{Meant, meanings_of, head, value_of, value_standing, of_computed, expr_layer, as_constant}
use Rattle.check_const.specs.Parts.{Part, constant}
use Rattle.def_typing.specs.Parts.{Operand, Among, here, later}
use Rattle.def_typing.specs.Things.{Standing}
use Rattle.law_typing.specs.Judging.{Judges}
use Rattle.law_typing.specs.Exact.{Knows}
use Rattle.law_typing.proofs.Combining.{Lawful}
use Rattle.law_typing.proofs.Places.{meant_is, opened}
use Rattle.law_typing.proofs.Trees.{IsTree, tree_number, tree_character, tree_string, tree_set, tree_name, tree_call, tree_not, tree_brackets, tree_term, tree_sum, tree_relation, AreTrees, no_expression, one_expression, AreOperandTrees, no_operand, one_operand, AreSelectorTrees, no_selector, a_field, an_index, tree}
use Rattle.def_typed.specs.Named.{Named, Variable, Procedure, Senses}
use Rattle.def_typed.specs.Expressions as rules
use Rattle.def_typed.specs.Expressions.{Names, Designates, Computes}
use Rattle.law_typed.specs.Typed.{IsNamed, named_of, Grasps}
use Rattle.law_typed.proofs.Meant.{IfMeant, meant, not_meant, if_as, if_also}
use Rattle.law_typed.proofs.Contents.{not_whole}
use Rattle.law_typed.proofs.Operators.{Coded, coded_as}
use Rattle.law_typed.proofs.Values.{IsCoded, coded_by, relation_coded, term_coded, sum_coded, signed_sum_coded, not_coded, brackets_coded}
use Rattle.law_typed.proofs.Designators.{is_constant, AreIndexed, IsCodeless, names_so, head_codeless}
use Rattle.law_typed.proofs.Arguments.{IsTyped}
use Rattle.law_typed.proofs.Calls.{call_coded}

module _ (g : Gathers) (j : Judges g) (lawful : Lawful g j) (names : Ident → Standing) (exports : ℕ → Ident → Standing)
    (senses : Senses) (s : Scope g.Reported) (knows : Knows g j names exports s) (grasps : Grasps g senses s) where
  abbrev Typed : Expr → Type 0
  Typed = IsTyped g j lawful names exports senses s knows grasps

  abbrev V : Expr → Type 0
  V = IsCoded g j lawful names exports senses s knows

  abbrev N : Designator → Named → Type 0
  N = Names s.types names exports senses

  abbrev D : Expr → Named → Type 0
  D = Designates s.types names exports senses

  abbrev C : Expr-F Expr Selector Designator Item → TypedExpr → Type 0
  C = Computes s.types names exports senses

  means_is : (e : Expr) (y : Expr-F Expr Selector Designator Item) → out-Expr e ≡ y
      → (meanings_of g e).means s ≡ (expr_layer g (opened g y)).means s
  means_is e y h = ap (λ (m : Meant g.Reported). m.means s) (meant_is g e y h)

  -- what is no designator names nothing
  not_named : {e : Expr} (y : Expr-F Expr Selector Designator Item) → out-Expr e ≡ y
      → ((d : Designator) → y ≡ layer.Use d None → ⊥) → (v : Computed) → IsNamed (D e) (designated.Value v)
  not_named {e = e} y h n v = record { holds = λ m q. absurd cc; alone = λ m r. alone r }
    where
      alone : {m : Named} → D e m → None ≡ Some m
      alone (rules.designates {d = d} q r) = absurd (n d (sym h ∙ q))

  value_named : (e : Expr) (y : Expr-F Expr Selector Designator Item) (r : Result Computed g.Reported) → out-Expr e ≡ y
      → ((d : Designator) → y ≡ layer.Use d None → ⊥) → (expr_layer g (opened g y)).means s ≡ of_computed r
      → IfMeant (IsNamed (D e)) ((meanings_of g e).means s)
  value_named e y r h n q = subst (IfMeant (IsNamed (D e))) (sym (means_is e y h ∙ q)) (by_value r)
    where
      by_value : (r : Result Computed g.Reported) → IfMeant (IsNamed (D e)) (of_computed r)
      by_value (Ok v) = meant _ (not_named y h n v)
      by_value (Err k) = not_meant _

  -- ---- what stands for itself

  constant_typed : (e : Expr) (y : Expr-F Expr Selector Designator Item) (r : Result ConstantValue g.Reported)
      → out-Expr e ≡ y → ((d : Designator) → y ≡ layer.Use d None → ⊥)
      → (expr_layer g (opened g y)).means s ≡ of_computed (r ▷ λ v. Ok (computed.Constant v)) → Typed e
  constant_typed e y r h n q = record {
    coded =
        coded_by g j lawful names exports senses s knows e y (r ▷ λ v. Ok (computed.Constant v)) h q (by_constant r);
    named = value_named e y (r ▷ λ v. Ok (computed.Constant v)) h n q;
  }
    where
      by_constant : (r : Result ConstantValue g.Reported) → IfMeant (Coded (C y)) (r ▷ λ v. Ok (computed.Constant v))
      by_constant (Ok v) = meant _ (λ z w. absurd cc)
      by_constant (Err k) = not_meant k

  as_constant_is : (x : Part g.Reported) → as_constant g s x
      ≡ of_computed (constant g s x ▷ λ v. Ok (computed.Constant v))
  as_constant_is x = by_value (constant g s x)
    where
      by_value : (r : Result ConstantValue g.Reported)
          → plain (r ▷ λ v. Ok (designated.Value (computed.Constant v)))
          ≡ of_computed (r ▷ λ v. Ok (computed.Constant v))
      by_value (Ok v) = refl
      by_value (Err k) = refl

  literal_typed : (e : Expr) (y : Expr-F Expr Selector Designator Item) → out-Expr e ≡ y
      → ((d : Designator) → y ≡ layer.Use d None → ⊥)
      → (expr_layer g (opened g y)).means s ≡ as_constant g s (expr_layer g (opened g y)).fixed → Typed e
  literal_typed e y h n q = constant_typed e y (constant g s (expr_layer g (opened g y)).fixed) h n
      (q ∙ as_constant_is (expr_layer g (opened g y)).fixed)

  -- ---- names

  name_value : {d : Designator} (at : Pos) (x : Designated) → IsNamed (N d) x
      → IsCodeless g j lawful names exports senses s knows grasps x
      → IfMeant (Coded (C (layer.Use d None))) (value_at_place g s.types at x)
  name_value {d = d} at (designated.Variable t p) n c = by_class (class_at s.types t) refl
    where
      alone : (y : TypedExpr) → C (layer.Use d None) y → y ≡ expr.Load t p
      alone _ (rules.loaded {t = u} {place = q} r f) = cc (n.alone (Variable u q) r)
      alone _ (rules.a_procedure {p = q} r) = absurd cc (n.alone (Procedure q) r)

      load : {c : Class} → class_at s.types t ≡ c → (c ≡ class.Whole → ⊥) → C (layer.Use d None) (expr.Load t p)
      load h f = rules.loaded (n.holds (Variable t p) refl) (not_whole s.types t h f)

      by_class : (c : Class) → class_at s.types t ≡ c
          → IfMeant {R = g.Reported} (Coded (C (layer.Use d None))) (Ok (loaded_as t p c))
      by_class (class.Scalar r) h = coded_as _ _ refl (load h (λ e. absurd cc)) alone
      by_class class.Set h = coded_as _ _ refl (load h (λ e. absurd cc)) alone
      by_class class.Procedure h = coded_as _ _ refl (load h (λ e. absurd cc)) alone
      by_class class.Whole h = meant _ (λ z q. absurd cc)
  name_value {d = d} at (designated.Procedure p) n c =
      coded_as _ (expr.Procedure p) refl (rules.a_procedure (n.holds (Procedure p) refl)) alone
    where
      alone : (y : TypedExpr) → C (layer.Use d None) y → y ≡ expr.Procedure p
      alone _ (rules.loaded {t = u} {place = q} r f) = absurd cc (n.alone (Variable u q) r)
      alone _ (rules.a_procedure {p = q} r) = cc (n.alone (Procedure q) r)
  name_value at (designated.Value _) n (is_constant v) = meant _ (λ z q. absurd cc)
  name_value at (designated.Open t u) n c = meant _ (λ z q. absurd cc)
  name_value at (designated.Type t) n c = not_meant _
  name_value at (designated.Nested p) n c = not_meant _
  name_value at (designated.Standard f) n c = not_meant _
  name_value at (designated.Module k) n c = not_meant _

  name_typed : (e : Expr) (d : Designator) → out-Expr e ≡ layer.Use d None
      → AreIndexed g j lawful names exports senses s knows grasps (out-Designator d).selectors → Typed e
  name_typed e d h i = record {
    coded = coded;
    named =
        subst (IfMeant (IsNamed (D e))) (sym (means_is e (layer.Use d None) h))
        (if_as (λ x n. named x n) (names_so g j lawful names exports senses s knows grasps d i));
  }
    where
      named : (x : Designated) → IsNamed (N d) x → IsNamed (D e) x
      named x n = record { holds = λ m q. rules.designates h (n.holds m q); alone = λ m r. alone r }
        where
          alone : {m : Named} → D e m → named_of x ≡ Some m
          alone {m = m} (rules.designates {d = d'} q r) = let w : layer.Use d' None ≡ layer.Use d None = sym q ∙ h in
              n.alone m (subst (λ (z : Designator). N z m) (cc w) r)

      by_head : {m : Result Designated (Meaningless g.Reported)} (at : Pos)
          → IfMeant (λ x. IsNamed (N d) x × IsCodeless g j lawful names exports senses s knows grasps x) m
          → IfMeant (Coded (C (layer.Use d None))) (value_standing g s.types at m)
      by_head at (meant x p) = name_value at x p.0 p.1
      by_head at (not_meant (meaningless.Broken r)) = not_meant r
      by_head at (not_meant (meaningless.Headless true r)) = not_meant _
      by_head at (not_meant (meaningless.Headless false r)) = not_meant r

      coded : V e
      coded = subst (λ (y : Expr-F Expr Selector Designator Item). IfMeant (Coded (C y))
          (value_of g s (meanings_of g e))) (sym h)
          (subst (λ (m : Result Designated (Meaningless g.Reported)). IfMeant (Coded (C (layer.Use d None)))
          (value_standing g s.types (meanings_of g e).fixed.at m)) (sym (means_is e (layer.Use d None) h))
          (by_head _ (if_also (names_so g j lawful names exports senses s knows grasps d i)
          (head_codeless g j lawful names exports senses s knows grasps d))))

  -- ---- all expressions

  made : (e : Expr) (y : Expr-F Expr Selector Designator Item) (r : Result Computed g.Reported) → out-Expr e ≡ y
      → ((d : Designator) → y ≡ layer.Use d None → ⊥) → (expr_layer g (opened g y)).means s ≡ of_computed r → V e
      → Typed e
  made e y r h n q v = record { coded = v; named = value_named e y r h n q }

  mutual
    typed : {e : Expr} → IsTree e → Typed e
    typed {e = e} (tree_number {at = at} {n = n} h) = literal_typed e (layer.Number at n) h (λ d q. absurd cc) refl
    typed {e = e} (tree_character {at = at} {c = c} h) = literal_typed e (layer.Char at c) h (λ d q. absurd cc) refl
    typed {e = e} (tree_string {at = at} {text = text} h) =
        literal_typed e (layer.Text at text) h (λ d q. absurd cc) refl
    typed {e = e} (tree_set {name = name} {at = at} {items = items} h i) =
        literal_typed e (layer.Set name at items) h (λ d q. absurd cc) refl
    typed {e = e} (tree_name {d = d} h i) = name_typed e d h (λ y m at x q. (typed_index i y at x m q).coded)
    typed {e = e} (tree_call {d = d} {args = args} h i a) =
        made e (layer.Use d (Some args)) _ h (λ k q. absurd cc) refl
        (call_coded g j lawful names exports senses s knows grasps e d args h
        (names_so g j lawful names exports senses s knows grasps d (λ y m at x q. (typed_index i y at x m q).coded))
        (λ x m. typed_all a x m))
    typed {e = e} (tree_not {at = at} {x = x} h i) =
        made e (layer.Not at x) _ h (λ d q. absurd cc) refl
        (not_coded g j lawful names exports senses s knows e at x h (typed i).coded)
    typed {e = e} (tree_brackets {at = at} {x = x} h i) =
        made e (layer.Bracketed at x) _ h (λ d q. absurd cc) refl
        (brackets_coded g j lawful names exports senses s knows e at x h (typed i).coded)
    typed {e = e} (tree_term {x = x} {rest = rest} h i o) =
        made e (layer.Term x rest) _ h (λ d q. absurd cc) refl
        (term_coded g j lawful names exports senses s knows e x rest h (typed i).coded
        (λ y m. (typed_operands o y m).coded))
    typed {e = e} (tree_sum {sign = None} {x = x} {rest = rest} h i o) =
        made e (layer.Sum None x rest) _ h (λ d q. absurd cc) refl
        (sum_coded g j lawful names exports senses s knows e x rest h (typed i).coded
        (λ y m. (typed_operands o y m).coded))
    typed {e = e} (tree_sum {sign = Some sign} {x = x} {rest = rest} h i o) =
        made e (layer.Sum (Some sign) x rest) _ h (λ d q. absurd cc) refl
        (signed_sum_coded g j lawful names exports senses s knows e sign x rest h (typed i).coded
        (λ y m. (typed_operands o y m).coded))
    typed {e = e} (tree_relation {a = a} {b = b} {o = o} h i k) =
        made e (layer.Relation a o b) _ h (λ d q. absurd cc) refl
        (relation_coded g j lawful names exports senses s knows e a o b h (typed i).coded (typed k).coded)

    typed_all : {xs : List Expr} → AreTrees xs → (x : Expr) → Among x xs → Typed x
    typed_all no_expression x m = elim m [ ]
    typed_all (one_expression i r) _ here = typed i
    typed_all (one_expression i r) x (later m) = typed_all r x m

    typed_operands : {xs : List Operand} → AreOperandTrees xs → (x : Operand) → Among x xs → Typed x.of
    typed_operands no_operand x m = elim m [ ]
    typed_operands (one_operand i r) _ here = typed i
    typed_operands (one_operand i r) x (later m) = typed_operands r x m

    typed_index : {ss : List Selector} → AreSelectorTrees ss → (y : Selector) (at : Pos) (e : Expr) → Among y ss
        → out-Selector y ≡ layer.Index at e → Typed e
    typed_index no_selector y at e m q = elim m [ ]
    typed_index (a_field h r) y at e here q = let clash = sym h ∙ q in absurd cc
    typed_index (a_field h r) y at e (later m) q = typed_index r y at e m q
    typed_index (an_index {x = x} h i r) y at e here q = let w = sym h ∙ q in subst Typed (cc w) (typed i)
    typed_index (an_index h i r) y at e (later m) q = typed_index r y at e m q

  pub expression_typed : (e : Expr) → Typed e
  expression_typed e = typed (tree e)

  pub designator_named : (d : Designator) → IfMeant (IsNamed (N d)) ((head g d).means s)
  designator_named d = names_so g j lawful names exports senses s knows grasps d
      (λ y m at x q. (expression_typed x).coded)
