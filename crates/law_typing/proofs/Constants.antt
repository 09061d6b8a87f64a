-- Constant expressions are answered exactly, layer by layer.
use Rattle.std.proofs.Common.{◌≡◌, ℕ, ℤ, pos, Bool, true, not, cond, List, [], ◌∷◌, Option, Some, None, Result, Ok, Err, ◌⊎◌, inl, inr, refl, sym, ap, subst, ◌∙◌}
use Rattle.std.specs.Prelude.{map, int_lt, bit_or}
use Rattle.std.specs.List.{fold}
use Rattle.m2_rule.specs.declared.rule.Rule.TheVariants as rule
use Rattle.m2_tree.specs.declared.pos.Pos.{Pos}
use Rattle.m2_tree.specs.declared.name.Ident.{Ident}
use Rattle.m2_tree.specs.declared.expr.MulOp.{MulOp}
use Rattle.m2_tree.specs.declared.expr.AddOp.{AddOp}
use Rattle.m2_tree.specs.declared.expr.RelOp.{RelOp}
use Rattle.m2_tree.specs.declared.expr.Sign.{Sign}
use Rattle.m2_tree.specs.declared.expr.Operator.{Operator}
use Rattle.m2_tree.specs.declared.expr.Expr.{Expr, Expr-F, out-Expr}
use Rattle.m2_tree.specs.declared.expr.Expr.TheOpen as layer
use Rattle.m2_tree.specs.declared.expr.Selector.{Selector}
use Rattle.m2_tree.specs.declared.expr.Designator.{Designator}
use Rattle.m2_tree.specs.declared.expr.Item.{Item, Item-F, out-Item, map-Item, fold_out-Item}
use Rattle.typed_tree.specs.declared.types.TypeNo.{TypeNo}
use Rattle.typed_tree.specs.declared.meaning.LocalKind.TheVariants as local
use Rattle.typed_tree.specs.declared.meaning.LocalKind.{LocalKind}
use Rattle.typed_tree.specs.declared.meaning.Meaning.{Meaning}
use Rattle.typed_tree.specs.declared.meaning.Meaning.TheVariants as meaning
use Rattle.typed_tree.specs.declared.meaning.Value.{Value as ConstantValue}
use Rattle.typed_tree.specs.declared.meaning.Value.TheVariants as value
use Rattle.typed_tree.specs.Types.{are_same, bitset, char}
use Rattle.m2_rule.specs.declared.breach.Breach.{Breach}
use Rattle.check_scope.specs.declared.meaningless.Meaningless.{Meaningless}
use Rattle.check_scope.specs.declared.scope.Scope.{Scope}
use Rattle.check_scope.specs.Elaborated.{Gathers, report, of_sort, ◌▷◌}
use Rattle.check_scope.specs.Scopes.{looked_up}
use Rattle.check_const.specs.declared.operator.BinaryOp.TheVariants as op
use Rattle.check_const.specs.Operands.{number_value}
use Rattle.check_const.specs.Operate as operate
use Rattle.check_const.specs.Sets.{is_element, span_of, with_span}
use Rattle.check_const.specs.declared.denoted.Denoted.{Denoted}
use Rattle.check_const.specs.declared.denoted.Denoted.TheVariants as denoted
use Rattle.check_const.specs.Denote.{as_constant, of_value, is_bitset}
use Rattle.check_const.specs.Parts as constants
use Rattle.check_const.specs.Parts.{Adds as ItemAdds}
use Rattle.check_expr.specs.Meanings.{Meant, Picks, meanings_of, picks, head, item, expr_layer, selector_layer, designator_layer, item_layer}
use Rattle.def_typing.specs.Amounts.{Constant, GoTogether, Within}
use Rattle.def_typing.specs.Operators.{◌!◌, Kind, Scalar, Set, Text, operand, Makes, Misused, Misapplied, MaySign, SignMakes, Negates}
use Rattle.def_typing.specs.Things.{Thing, AValue, AVariable, AnOpenArray, AType, AProcedure, ANested, AStandard, AModule, Headless, Standing, Known, Ahead, Undeclared, NotExported, Unknown, Misnamed, undeclared}
use Rattle.def_typing.specs.Parts as parts
use Rattle.def_typing.specs.Parts.{first, Operand, factors, addends, Among, here, later}
use Rattle.def_typing.specs.Constants as rules
use Rattle.def_typing.specs.Constants.{Fixed, AConstant, AScope, NoConstant, FixedMisnamed, IsBound, low_bound, high_bound, IsFixedPart, Fixes, as_fixed, FixedReads, FixedChain, fixed_done, fixed_then, AddUp, no_item, one_item, Adds, HasNumber, has_number, FixedChainFails, fixed_at_once, fixed_further, ItemFails, Misset, FixedFails, no_constant, IsTypePart}
use Rattle.def_typing.specs.Expressions.{FixedBroken, fixed_fails, fixed_inside, in_type, BrokenTypeArgument}
use Rattle.law_typing.specs.Judging.{Judges, Answers, means}
use Rattle.law_typing.specs.Exact.{IsConst, is_const, kind_of, of_local, standing, Sees, sees, sees_nothing, sees_headless, sees_unknown, Knows, of_declaration}
use Rattle.law_typing.proofs.Combining.{Lawful, Decided, holds, fails_it, fine, exact, both_answer, then_answer, Checks, passes, stops, stopped}
use Rattle.law_typing.proofs.Deciding.{same_decided, some_same}
use Rattle.law_typing.proofs.Places.{opened, meant_is, at_is}
use Rattle.law_typing.proofs.Fixing.{IsFixed, fixed_value, fixed_of, as_constant_answers, const_operated, const_signed, const_negated, E, DesignatesFixed, DesignatorFails, designator_fixes}
use Rattle.law_typing.proofs.Elements.{IsOrdinal, IsSame, is_same, NumberOf, NoNumber, number_answers, one_meaning, checks_answer, one_answers, range_answers}

module _ (g : Gathers) (j : Judges g) (lawful : Lawful g j) (names : Ident → Standing) (exports : ℕ → Ident → Standing)
    (s : Scope g.Reported) (knows : Knows g j names exports s) where
  abbrev O : Breach → Type 0
  O = E g j lawful names exports s knows

  abbrev F : Expr → Fixed → Type 0
  F = Fixes s.types names exports

  abbrev B : Expr → Breach → Type 0
  B = FixedBroken s.types names exports

  abbrev R : Expr-F Expr Selector Designator Item → Fixed → Type 0
  R = FixedReads s.types names exports

  abbrev Fails : Expr-F Expr Selector Designator Item → Breach → Type 0
  Fails = FixedFails s.types names exports

  abbrev Part : Expr → Expr-F Expr Selector Designator Item → Type 0
  Part = IsFixedPart names exports

  abbrev TypePart : Expr → Expr-F Expr Selector Designator Item → Type 0
  TypePart = IsTypePart names exports

  -- what is broken in an argument that names a type
  abbrev pub TypeBroken : Expr → Breach → Type 0
  TypeBroken = BrokenTypeArgument s.types names exports

  abbrev pub FixedFound : Expr → Type 0
  FixedFound e = Answers g j O IsFixed (F e) (B e) ((meanings_of g e).fixed.denotes s)

  -- what is broken in an expression that has to be constant
  abbrev pub ConstBroken : Expr → Breach → Type 0
  ConstBroken e f = B e f ⊎ ((x : Fixed) × F e x
      × (((k : Kind) → x ≡ AConstant k → ⊥) × (f ≡ first e ! rule.NoConstant)))

  abbrev pub ConstValued : Expr → Type 0
  ConstValued e = Answers g j O IsConst (λ k. F e (AConstant k)) (ConstBroken e)
      (constants.constant g s (meanings_of g e).fixed)

  pub const_valued : {e : Expr} → FixedFound e → ConstValued e
  const_valued {e = e} h = exact g j lawful O {M = λ k. (x : Fixed) × F e x × (x ≡ AConstant k)} {B = ConstBroken e}
      (λ k m. subst (F e) m.2 m.1) (λ k m. (AConstant k, m, refl)) (λ f b. b) (λ f b. b)
      (subst (λ (at : Pos). Answers g j O IsConst (λ k. (x : Fixed) × F e x × (x ≡ AConstant k)) (ConstBroken e)
      ((meanings_of g e).fixed.denotes s ▷ as_constant g at)) (sym (at_is g e))
      (then_answer g j lawful O {N = λ x k. x ≡ AConstant k}
      {D = λ x f. ((k : Kind) → x ≡ AConstant k → ⊥) × (f ≡ first e ! rule.NoConstant)} h
      (as_constant_answers g j lawful O (first e))))

  -- ---- layers

  abbrev pub FixedIn : Expr-F Expr Selector Designator Item → Breach → Type 0
  FixedIn y f = Fails y f ⊎ ((x : Expr) × Part x y × B x f)

  -- with what is broken in names of types
  abbrev pub FixedAll : Expr-F Expr Selector Designator Item → Breach → Type 0
  FixedAll y f = FixedIn y f ⊎ ((t : Expr) × TypePart t y × TypeBroken t f)

  broken_by : {e : Expr} {f : Breach} (y : Expr-F Expr Selector Designator Item) → out-Expr e ≡ y → B e f → FixedAll y f
  broken_by {f = f} y h (fixed_fails x) =
      inl (inl (subst (λ (y : Expr-F Expr Selector Designator Item). Fails y f) h x))
  broken_by {f = f} y h (fixed_inside {x = x} p b) = inl (inr (x, subst (Part x) h p, b))
  broken_by {f = f} y h (in_type {t = t} p b) = inr (t, subst (TypePart t) h p, b)

  by_broken : {e : Expr} {f : Breach} (y : Expr-F Expr Selector Designator Item) → out-Expr e ≡ y → FixedAll y f → B e f
  by_broken {f = f} y h (inl (inl x)) = fixed_fails
      (subst (λ (y : Expr-F Expr Selector Designator Item). Fails y f) (sym h) x)
  by_broken y h (inl (inr (x, p, b))) = fixed_inside (subst (Part x) (sym h) p) b
  by_broken y h (inr (t, p, b)) = in_type (subst (TypePart t) (sym h) p) b

  fixes_by : {e : Expr} {x : Fixed} (y : Expr-F Expr Selector Designator Item) → out-Expr e ≡ y → F e x → R y x
  fixes_by {x = x} y h (as_fixed r) = subst (λ (y : Expr-F Expr Selector Designator Item). R y x) h r

  any_layer : {e : Expr} (y : Expr-F Expr Selector Designator Item) (r : Result Denoted g.Reported) → out-Expr e ≡ y
      → (expr_layer g (opened g y)).fixed.denotes s ≡ r → Answers g j O IsFixed (R y) (FixedAll y) r → FixedFound e
  any_layer {e = e} y r h q a = subst (Answers g j O IsFixed (F e) (B e))
      (sym (ap (λ (m : Meant g.Reported). m.fixed.denotes s) (meant_is g e y h) ∙ q))
      (exact g j lawful O {N = F e} {C = B e}
      (λ x r. as_fixed (subst (λ (y : Expr-F Expr Selector Designator Item). R y x) (sym h) r))
      (λ x m. fixes_by y h m) (λ f b. by_broken y h b) (λ f b. broken_by y h b) a)

  -- a layer that is the value of a call
  pub called_layer : {e : Expr} {M : Kind → Type 0} {Q : Breach → Type 0} (y : Expr-F Expr Selector Designator Item)
      (r : Result ConstantValue g.Reported) → out-Expr e ≡ y → (expr_layer g (opened g y)).fixed.denotes s ≡ of_value r
      → ((k : Kind) → M k → R y (AConstant k)) → ((x : Fixed) → R y x → (k : Kind) × M k × (x ≡ AConstant k))
      → ((f : Breach) → Q f → FixedAll y f) → ((f : Breach) → FixedAll y f → Q f) → Answers g j O IsConst M Q r
      → FixedFound e
  called_layer y r h q mr rm bi ib a = any_layer y (of_value r) h q
      (exact g j lawful O {N = R y} {C = FixedAll y} (λ x m. subst (R y) (sym m.2) (mr m.0 m.1)) rm bi ib
      (fixed_of g j lawful O a))

  -- a layer that is no call
  abbrev NoTypes : Expr-F Expr Selector Designator Item → Type 0
  NoTypes y = (t : Expr) → TypePart t y → ⊥

  fixed_layer : {e : Expr} (y : Expr-F Expr Selector Designator Item) (r : Result Denoted g.Reported) → out-Expr e ≡ y
      → (expr_layer g (opened g y)).fixed.denotes s ≡ r → NoTypes y → Answers g j O IsFixed (R y) (FixedIn y) r
      → FixedFound e
  fixed_layer y r h q n a = any_layer y r h q
      (exact g j lawful O {N = R y} {C = FixedAll y} (λ x m. m) (λ x m. m) (λ f b. inl b)
      (λ f b. elim b [ inl c ↦ c | inr c ↦ absurd (n c.0 c.1) ]) a)

  const_layer : {e : Expr} {M : Kind → Type 0} {Q : Breach → Type 0} (y : Expr-F Expr Selector Designator Item)
      (r : Result ConstantValue g.Reported) → out-Expr e ≡ y → (expr_layer g (opened g y)).fixed.denotes s ≡ of_value r
      → NoTypes y
      → ((k : Kind) → M k → R y (AConstant k)) → ((x : Fixed) → R y x → (k : Kind) × M k × (x ≡ AConstant k))
      → ((f : Breach) → Q f → FixedIn y f) → ((f : Breach) → FixedIn y f → Q f) → Answers g j O IsConst M Q r
      → FixedFound e
  const_layer y r h q n mr rm bi ib a = fixed_layer y (of_value r) h q n
      (exact g j lawful O {N = R y} {C = FixedIn y} (λ x m. subst (R y) (sym m.2) (mr m.0 m.1)) rm bi ib
      (fixed_of g j lawful O a))

  pub part_broken : {x : Expr} {y : Expr-F Expr Selector Designator Item} {f : Breach} → Part x y → ConstBroken x f
      → FixedIn y f
  part_broken {x = x} i (inl b) = inr (x, i, b)
  part_broken {y = y} i (inr (z, m, (n, e))) = inl (subst (Fails y) (sym e) (no_constant i m n))

  literal_fixed : {e : Expr} (y : Expr-F Expr Selector Designator Item) (v : ConstantValue) → out-Expr e ≡ y
      → (expr_layer g (opened g y)).fixed.denotes s ≡ Ok (denoted.Value v) → NoTypes y → R y (AConstant (kind_of v))
      → ((x : Fixed) → R y x → x ≡ AConstant (kind_of v)) → ((f : Breach) → FixedIn y f → ⊥) → FixedFound e
  literal_fixed y v h q t r one none = fixed_layer y (Ok (denoted.Value v)) h q t
      (means (denoted.Value v) (AConstant (kind_of v)) (fixed_value (is_const v)) r one none)

  pub number_fixed : {e : Expr} (at : Pos) (n : ℕ) → out-Expr e ≡ layer.Number at n → FixedFound e
  number_fixed at n h = literal_fixed (layer.Number at n) (value.Number (pos n)) h refl (λ t p. elim p [ ])
      rules.fixed_literal one none
    where
      one : (x : Fixed) → R (layer.Number at n) x → x ≡ AConstant (Scalar (Constant None (pos n)))
      one _ rules.fixed_literal = refl

      none : (f : Breach) → FixedIn (layer.Number at n) f → ⊥
      none _ (inl (no_constant (rules.an_inner i) m z)) = elim i [ ]
      none f (inr (x, rules.an_inner i, b)) = elim i [ ]

  pub character_fixed : {e : Expr} (at : Pos) (c : ℕ) → out-Expr e ≡ layer.Char at c → FixedFound e
  character_fixed at c h = literal_fixed (layer.Char at c) (number_value (Some char) (pos c)) h refl (λ t p. elim p [ ])
      rules.fixed_character one none
    where
      one : (x : Fixed) → R (layer.Char at c) x → x ≡ AConstant (Scalar (Constant (Some char) (pos c)))
      one _ rules.fixed_character = refl

      none : (f : Breach) → FixedIn (layer.Char at c) f → ⊥
      none _ (inl (no_constant (rules.an_inner i) m z)) = elim i [ ]
      none f (inr (x, rules.an_inner i, b)) = elim i [ ]

  pub string_fixed : {e : Expr} (at : Pos) (text : List ℕ) → out-Expr e ≡ layer.Text at text → FixedFound e
  string_fixed at text h = literal_fixed (layer.Text at text) (value.Text text) h refl (λ t p. elim p [ ])
      rules.fixed_string one none
    where
      one : (x : Fixed) → R (layer.Text at text) x → x ≡ AConstant (Text text)
      one _ rules.fixed_string = refl

      none : (f : Breach) → FixedIn (layer.Text at text) f → ⊥
      none _ (inl (no_constant (rules.an_inner i) m z)) = elim i [ ]
      none f (inr (x, rules.an_inner i, b)) = elim i [ ]

  pub name_fixed : {e : Expr} (d : Designator) → out-Expr e ≡ layer.Use d None → FixedFound e
  name_fixed d h = fixed_layer (layer.Use d None) ((head g d).fixed.denotes s) h refl (λ t p. elim p [ ])
      (exact g j lawful O {N = R (layer.Use d None)} {C = FixedIn (layer.Use d None)}
      (λ y m. rules.fixed_name (rules.fixed_named m.1 m.2)) (λ y r. parted r) into out
      (designator_fixes g j lawful names exports s knows d))
    where
      parted : {y : Fixed} → R (layer.Use d None) y → DesignatesFixed g j lawful names exports s knows d y
      parted (rules.fixed_name (rules.fixed_named {x = x} m r)) = (x, m, r)

      into : (f : Breach) → DesignatorFails g j lawful names exports s knows d f → FixedIn (layer.Use d None) f
      into f (inl m) = inl (rules.fixed_at_name m)
      into f (inr (x, m, z)) = inl (rules.fixed_at_selector m z)

      out : (f : Breach) → FixedIn (layer.Use d None) f → DesignatorFails g j lawful names exports s knows d f
      out f (inl (rules.fixed_at_name m)) = inl m
      out f (inl (rules.fixed_at_selector {x = x} m z)) = inr (x, m, z)
      out _ (inl (no_constant (rules.an_inner i) m z)) = elim i [ ]
      out f (inr (x, rules.an_inner i, b)) = elim i [ ]

  pub not_fixed : {e : Expr} (at : Pos) (x : Expr) → out-Expr e ≡ layer.Not at x → FixedFound x → FixedFound e
  not_fixed at x h q = const_layer (layer.Not at x)
      (operate.negation g at (constants.constant g s (meanings_of g x).fixed)) h refl (λ t p. elim p [ ])
      (λ k m. rules.fixed_negated m.1 m.2) reads into out
      (then_answer g j lawful O {N = Negates} {D = λ a f. ((k : Kind) → Negates a k → ⊥) × (f ≡ at ! rule.WrongType)}
      (const_valued q) (λ v k i. const_negated g j lawful O at i))
    where
      reads : (y : Fixed) → R (layer.Not at x) y → (k : Kind) × ((a : Kind) × F x (AConstant a) × Negates a k)
          × (y ≡ AConstant k)
      reads _ (rules.fixed_negated {a = a} {k = k} m n) = (k, (a, m, n), refl)

      into : (f : Breach) → ConstBroken x f ⊎
          ((a : Kind) × F x (AConstant a) × (((k : Kind) → Negates a k → ⊥) × (f ≡ at ! rule.WrongType)))
          → FixedIn (layer.Not at x) f
      into f (inl b) = part_broken (rules.an_inner parts.in_not) b
      into f (inr (a, m, (n, e))) = inl (subst (Fails (layer.Not at x)) (sym e) (rules.fixed_not_boolean m n))

      out : (f : Breach) → FixedIn (layer.Not at x) f → ConstBroken x f
          ⊎ ((a : Kind) × F x (AConstant a) × (((k : Kind) → Negates a k → ⊥) × (f ≡ at ! rule.WrongType)))
      out _ (inl (no_constant (rules.an_inner parts.in_not) m z)) = inl (inr (_, m, (z, refl)))
      out _ (inl (rules.fixed_not_boolean {a = a} m n)) = inr (a, m, (n, refl))
      out f (inr (y, (rules.an_inner parts.in_not), b)) = inl (inl b)

  pub brackets_fixed : {e : Expr} (at : Pos) (x : Expr) → out-Expr e ≡ layer.Bracketed at x → FixedFound x
      → FixedFound e
  brackets_fixed at x h q = const_layer (layer.Bracketed at x) (constants.constant g s (meanings_of g x).fixed) h refl
      (λ t p. elim p [ ]) (λ k m. rules.fixed_brackets m) reads
      (λ f b. part_broken (rules.an_inner parts.in_brackets) b) out (const_valued q)
    where
      reads : (y : Fixed) → R (layer.Bracketed at x) y → (k : Kind) × F x (AConstant k) × (y ≡ AConstant k)
      reads _ (rules.fixed_brackets {k = k} m) = (k, m, refl)

      out : (f : Breach) → FixedIn (layer.Bracketed at x) f → ConstBroken x f
      out _ (inl (no_constant (rules.an_inner parts.in_brackets) m z)) = inr (_, m, (z, refl))
      out f (inr (y, (rules.an_inner parts.in_brackets), b)) = inl b

  pub relation_fixed : {e : Expr} (a : Expr) (o : Operator RelOp) (b : Expr) → out-Expr e ≡ layer.Relation a o b
      → FixedFound a → FixedFound b → FixedFound e
  relation_fixed a o b h p q = const_layer (layer.Relation a o b)
      (operate.constant_operation g (op.Relation o.op) o.pos (meanings_of g a).fixed.at
      (constants.constant g s (meanings_of g a).fixed) (meanings_of g b).fixed.at
      (constants.constant g s (meanings_of g b).fixed)) h refl (λ t p. elim p [ ])
      (λ l m. rules.fixed_relation m.1.0 m.1.1 m.2) reads into out
      (subst (λ (t : Pos). Answers g j O IsConst Related Breaks
      (operate.constant_operation g (op.Relation o.op) o.pos t (constants.constant g s (meanings_of g a).fixed)
      (meanings_of g b).fixed.at (constants.constant g s (meanings_of g b).fixed))) (sym (at_is g a))
      (subst (λ (t : Pos). Answers g j O IsConst Related Breaks
      (operate.constant_operation g (op.Relation o.op) o.pos (first a)
      (constants.constant g s (meanings_of g a).fixed) t (constants.constant g s (meanings_of g b).fixed)))
      (sym (at_is g b))
      (then_answer g j lawful O {N = λ c l. Makes s.types (op.Relation o.op) (operand c.0) (operand c.1) l}
      {D = λ c f. Misused s.types (op.Relation o.op) o.pos (first a) (first b) (operand c.0) (operand c.1) f}
      (both_answer g j lawful O (const_valued p) (const_valued q))
      (λ v c w. const_operated g j lawful O s.types (op.Relation o.op) o.pos (first a) (first b) w.0 w.1))))
    where
      Related : Kind → Type 0
      Related l = (c : Kind × Kind) × (F a (AConstant c.0) × F b (AConstant c.1))
          × Makes s.types (op.Relation o.op) (operand c.0) (operand c.1) l

      Breaks : Breach → Type 0
      Breaks f = (ConstBroken a f ⊎ ConstBroken b f)
          ⊎ ((c : Kind × Kind) × (F a (AConstant c.0) × F b (AConstant c.1))
          × Misused s.types (op.Relation o.op) o.pos (first a) (first b) (operand c.0) (operand c.1) f)

      reads : (y : Fixed) → R (layer.Relation a o b) y → (l : Kind) × Related l × (y ≡ AConstant l)
      reads _ (rules.fixed_relation {x = x} {y = y} {k = l} m n r) = (l, ((x, y), (m, n), r), refl)

      into : (f : Breach) → Breaks f → FixedIn (layer.Relation a o b) f
      into f (inl (inl z)) = part_broken (rules.an_inner parts.left_side) z
      into f (inl (inr z)) = part_broken (rules.an_inner parts.right_side) z
      into f (inr (c, (m, n), u)) = inl (rules.fixed_at_relation m n u)

      out : (f : Breach) → FixedIn (layer.Relation a o b) f → Breaks f
      out _ (inl (no_constant (rules.an_inner parts.left_side) m z)) = inl (inl (inr (_, m, (z, refl))))
      out _ (inl (no_constant (rules.an_inner parts.right_side) m z)) = inl (inr (inr (_, m, (z, refl))))
      out f (inl (rules.fixed_at_relation {x = x} {y = y} m n u)) = inr ((x, y), (m, n), u)
      out f (inr (x, (rules.an_inner parts.left_side), z)) = inl (inl (inl z))
      out f (inr (x, (rules.an_inner parts.right_side), z)) = inl (inr (inl z))

  -- ---- operators one after another

  abbrev step : Pos → Result ConstantValue g.Reported → Operand → Result ConstantValue g.Reported
  step left v x = operate.constant_operation g x.op x.spot left v (meanings_of g x.of).fixed.at
      (constants.constant g s (meanings_of g x.of).fixed)

  fold_factors : (left : Pos) (rest : List (Operator MulOp × Expr)) (v : Result ConstantValue g.Reported)
      → fold (constants.factor g s left) v (map (λ (x : Operator MulOp × Meant g.Reported). (x.0, x.1.fixed))
      (map (λ (x : Operator MulOp × Expr). (x.0, meanings_of g x.1)) rest)) ≡ fold (step left) v (factors rest)
  fold_factors left [] v = refl
  fold_factors left (x ∷ xs) v = fold_factors left xs _

  fold_addends : (left : Pos) (rest : List (Operator AddOp × Expr)) (v : Result ConstantValue g.Reported)
      → fold (constants.term g s left) v (map (λ (x : Operator AddOp × Meant g.Reported). (x.0, x.1.fixed))
      (map (λ (x : Operator AddOp × Expr). (x.0, meanings_of g x.1)) rest)) ≡ fold (step left) v (addends rest)
  fold_addends left [] v = refl
  fold_addends left (x ∷ xs) v = fold_addends left xs _

  abbrev Chained : Kind → List Operand → Kind → Type 0
  Chained = FixedChain s.types names exports

  abbrev ChainBreaks : Pos → Kind → List Operand → Breach → Type 0
  ChainBreaks = FixedChainFails s.types names exports

  abbrev InChain : (Kind → Type 0) → (Breach → Type 0) → Pos → List Operand → Breach → Type 0
  InChain P Q left xs f = Q f ⊎ (((x : Operand) × Among x xs × ConstBroken x.of f)
      ⊎ ((a : Kind) × P a × ChainBreaks left a xs f))

  abbrev Stepped : (Kind → Type 0) → Operand → Kind → Type 0
  Stepped P x c = (k : Kind × Kind) × (P k.0 × F x.of (AConstant k.1))
      × Makes s.types x.op (operand k.0) (operand k.1) c

  abbrev StepFails : (Kind → Type 0) → (Breach → Type 0) → Pos → Operand → Breach → Type 0
  StepFails P Q left x f = (Q f ⊎ ConstBroken x.of f)
      ⊎ ((k : Kind × Kind) × (P k.0 × F x.of (AConstant k.1))
      × Misused s.types x.op x.spot left (first x.of) (operand k.0) (operand k.1) f)

  step_answers : {P : Kind → Type 0} {Q : Breach → Type 0} {v : Result ConstantValue g.Reported} (left : Pos)
      (x : Operand) → FixedFound x.of → Answers g j O IsConst P Q v
      → Answers g j O IsConst (Stepped P x) (StepFails P Q left x) (step left v x)
  step_answers {P = P} {Q = Q} {v = v} left x h a =
      subst (λ (at : Pos). Answers g j O IsConst (Stepped P x) (StepFails P Q left x)
      (operate.constant_operation g x.op x.spot left v at (constants.constant g s (meanings_of g x.of).fixed)))
      (sym (at_is g x.of))
      (then_answer g j lawful O {N = λ k c. Makes s.types x.op (operand k.0) (operand k.1) c}
      {D = λ k f. Misused s.types x.op x.spot left (first x.of) (operand k.0) (operand k.1) f}
      (both_answer g j lawful O a (const_valued h))
      (λ p k i. const_operated g j lawful O s.types x.op x.spot left (first x.of) i.0 i.1))

  module _ (P : Kind → Type 0) (Q : Breach → Type 0) where
    chain_of : (x : Operand) (xs : List Operand) (k : Kind) → (c : Kind) × Stepped P x c × Chained c xs k → (a : Kind)
        × P a × Chained a (x ∷ xs) k
    chain_of x xs k (c, (ab, (m, h), makes), r) = (ab.0, m, fixed_then h makes r)

    of_chain : {x : Operand} {xs : List Operand} {a k : Kind} → P a → Chained a (x ∷ xs) k → (c : Kind) × Stepped P x c
        × Chained c xs k
    of_chain {a = a} m (fixed_then {b = b} {c = c} h makes r) = (c, ((a, b), (m, h), makes), r)

    fails_of : (left : Pos) (x : Operand) (xs : List Operand) (f : Breach)
        → InChain (Stepped P x) (StepFails P Q left x) left xs f → InChain P Q left (x ∷ xs) f
    fails_of left x xs f (inl (inl (inl b))) = inl b
    fails_of left x xs f (inl (inl (inr b))) = inr (inl (x, here, b))
    fails_of left x xs f (inl (inr (k, (m, h), u))) = inr (inr (k.0, m, fixed_at_once h u))
    fails_of left x xs f (inr (inl (y, a, b))) = inr (inl (y, later a, b))
    fails_of left x xs f (inr (inr (c, (k, (m, h), makes), r))) = inr (inr (k.0, m, fixed_further h makes r))

    among_of : {left : Pos} {x y : Operand} {xs : List Operand} {f : Breach} → Among y (x ∷ xs) → ConstBroken y.of f
        → InChain (Stepped P x) (StepFails P Q left x) left xs f
    among_of here b = inl (inl (inr b))
    among_of {y = y} (later a) b = inr (inl (y, a, b))

    chain_fails_of : {left : Pos} {x : Operand} {xs : List Operand} {a : Kind} {f : Breach} → P a
        → ChainBreaks left a (x ∷ xs) f → InChain (Stepped P x) (StepFails P Q left x) left xs f
    chain_fails_of {a = a} m (fixed_at_once {b = b} h u) = inl (inr ((a, b), (m, h), u))
    chain_fails_of {a = a} m (fixed_further {b = b} {c = c} h makes r) = inr (inr (c, ((a, b), (m, h), makes), r))

    of_fails : (left : Pos) (x : Operand) (xs : List Operand) (f : Breach) → InChain P Q left (x ∷ xs) f
        → InChain (Stepped P x) (StepFails P Q left x) left xs f
    of_fails left x xs f (inl b) = inl (inl (inl b))
    of_fails left x xs f (inr (inl (y, a, b))) = among_of a b
    of_fails left x xs f (inr (inr (a, m, r))) = chain_fails_of m r

    end_of : {a k : Kind} → P a → Chained a [] k → P k
    end_of m fixed_done = m

  chain_answers : (xs : List Operand) {P : Kind → Type 0} {Q : Breach → Type 0} {v : Result ConstantValue g.Reported}
      (left : Pos) → ((x : Operand) → Among x xs → FixedFound x.of) → Answers g j O IsConst P Q v
      → Answers g j O IsConst (λ k. (a : Kind) × P a × Chained a xs k) (InChain P Q left xs) (fold (step left) v xs)
  chain_answers [] {P = P} {Q = Q} left h a =
      exact g j lawful O {N = λ k. (a : Kind) × P a × Chained a [] k} {C = InChain P Q left []}
      (λ k m. (k, m, fixed_done)) (λ k m. end_of P Q m.1 m.2) (λ f b. inl b)
      (λ f b. elim b [ inl c ↦ c | inr c ↦ elim c [ inl d ↦ elim d.1 [ ] | inr d ↦ elim d.2 [ ] ] ]) a
  chain_answers (x ∷ xs) {P = P} {Q = Q} left h a =
      exact g j lawful O {N = λ k. (a : Kind) × P a × Chained a (x ∷ xs) k} {C = InChain P Q left (x ∷ xs)}
      (chain_of P Q x xs) (λ k m. of_chain P Q m.1 m.2) (fails_of P Q left x xs) (of_fails P Q left x xs)
      (chain_answers xs {P = Stepped P x} {Q = StepFails P Q left x} left (λ y m. h y (later m))
      (step_answers left x (h x here) a))

  pub term_fixed : {e : Expr} (x : Expr) (rest : List (Operator MulOp × Expr)) → out-Expr e ≡ layer.Term x rest
      → FixedFound x → ((y : Operand) → Among y (factors rest) → FixedFound y.of) → FixedFound e
  term_fixed x rest h q p = const_layer (layer.Term x rest)
      (fold (step (first x)) (constants.constant g s (meanings_of g x).fixed) (factors rest)) h
      (ap (λ (r : Result ConstantValue g.Reported). of_value r)
      (fold_factors (meanings_of g x).fixed.at rest (constants.constant g s (meanings_of g x).fixed)
      ∙ ap (λ (t : Pos). fold (step t) (constants.constant g s (meanings_of g x).fixed) (factors rest))
      (at_is g x)))
      (λ t p. elim p [ ]) (λ k m. rules.fixed_term m.1 m.2) reads into out
      (chain_answers (factors rest) (first x) p (const_valued q))
    where
      reads : (y : Fixed) → R (layer.Term x rest) y → (k : Kind)
          × ((a : Kind) × F x (AConstant a) × Chained a (factors rest) k) × (y ≡ AConstant k)
      reads _ (rules.fixed_term {a = a} {k = k} m c) = (k, (a, m, c), refl)

      into : (f : Breach) → InChain (λ k. F x (AConstant k)) (ConstBroken x) (first x) (factors rest) f
          → FixedIn (layer.Term x rest) f
      into f (inl b) = part_broken (rules.an_inner parts.first_factor) b
      into f (inr (inl (y, m, b))) = part_broken (rules.an_inner (parts.other_factor m)) b
      into f (inr (inr (a, m, c))) = inl (rules.fixed_in_term m c)

      out : (f : Breach) → FixedIn (layer.Term x rest) f
          → InChain (λ k. F x (AConstant k)) (ConstBroken x) (first x) (factors rest) f
      out _ (inl (no_constant (rules.an_inner parts.first_factor) m z)) = inl (inr (_, m, (z, refl)))
      out _ (inl (no_constant (rules.an_inner (parts.other_factor {x = y} a)) m z)) =
          inr (inl (y, a, inr (_, m, (z, refl))))
      out f (inl (rules.fixed_in_term {a = a} m c)) = inr (inr (a, m, c))
      out f (inr (y, (rules.an_inner parts.first_factor), b)) = inl (inl b)
      out f (inr (_, rules.an_inner (parts.other_factor {x = y} a), b)) = inr (inl (y, a, inl b))

  pub sum_fixed : {e : Expr} (x : Expr) (rest : List (Operator AddOp × Expr)) → out-Expr e ≡ layer.Sum None x rest
      → FixedFound x → ((y : Operand) → Among y (addends rest) → FixedFound y.of) → FixedFound e
  sum_fixed x rest h q p = const_layer (layer.Sum None x rest)
      (fold (step (first x)) (constants.constant g s (meanings_of g x).fixed) (addends rest)) h
      (ap (λ (r : Result ConstantValue g.Reported). of_value r)
      (fold_addends (meanings_of g x).fixed.at rest (constants.constant g s (meanings_of g x).fixed)
      ∙ ap (λ (t : Pos). fold (step t) (constants.constant g s (meanings_of g x).fixed) (addends rest))
      (at_is g x)))
      (λ t p. elim p [ ]) (λ k m. rules.fixed_sum m.1 m.2) reads into out
      (chain_answers (addends rest) (first x) p (const_valued q))
    where
      reads : (y : Fixed) → R (layer.Sum None x rest) y → (k : Kind)
          × ((a : Kind) × F x (AConstant a) × Chained a (addends rest) k) × (y ≡ AConstant k)
      reads _ (rules.fixed_sum {a = a} {k = k} m c) = (k, (a, m, c), refl)

      into : (f : Breach) → InChain (λ k. F x (AConstant k)) (ConstBroken x) (first x) (addends rest) f
          → FixedIn (layer.Sum None x rest) f
      into f (inl b) = part_broken (rules.an_inner parts.first_addend) b
      into f (inr (inl (y, m, b))) = part_broken (rules.an_inner (parts.other_addend m)) b
      into f (inr (inr (a, m, c))) = inl (rules.fixed_in_sum m c)

      out : (f : Breach) → FixedIn (layer.Sum None x rest) f
          → InChain (λ k. F x (AConstant k)) (ConstBroken x) (first x) (addends rest) f
      out _ (inl (no_constant (rules.an_inner parts.first_addend) m z)) = inl (inr (_, m, (z, refl)))
      out _ (inl (no_constant (rules.an_inner (parts.other_addend {x = y} a)) m z)) =
          inr (inl (y, a, inr (_, m, (z, refl))))
      out f (inl (rules.fixed_in_sum {a = a} m c)) = inr (inr (a, m, c))
      out f (inr (y, (rules.an_inner parts.first_addend), b)) = inl (inl b)
      out f (inr (_, rules.an_inner (parts.other_addend {x = y} a), b)) = inr (inl (y, a, inl b))

  abbrev HasSigned : Operator Sign → Expr → Kind → Type 0
  HasSigned sign x b = (a : Kind) × F x (AConstant a) × SignMakes sign.op (operand a) b

  abbrev SignFails : Operator Sign → Expr → Breach → Type 0
  SignFails sign x f = ConstBroken x f ⊎ ((a : Kind) × F x (AConstant a)
      × Misapplied (MaySign sign.op (operand a)) (SignMakes sign.op (operand a)) sign.pos rule.WrongType f)

  pub signed_fixed : {e : Expr} (sign : Operator Sign) (x : Expr) (rest : List (Operator AddOp × Expr))
      → out-Expr e ≡ layer.Sum (Some sign) x rest → FixedFound x
      → ((y : Operand) → Among y (addends rest) → FixedFound y.of) → FixedFound e
  signed_fixed sign x rest h q p = const_layer (layer.Sum (Some sign) x rest)
      (fold (step sign.pos) (operate.with_sign g sign.op sign.pos (constants.constant g s (meanings_of g x).fixed))
      (addends rest)) h
      (ap (λ (r : Result ConstantValue g.Reported). of_value r)
      (fold_addends sign.pos rest (operate.with_sign g sign.op sign.pos
      (constants.constant g s (meanings_of g x).fixed))))
      (λ t p. elim p [ ]) (λ k m. rules.fixed_signed_sum m.1.1 m.1.2 m.2) reads into out
      (chain_answers (addends rest) sign.pos p
      (then_answer g j lawful O {N = λ a b. SignMakes sign.op (operand a) b}
      {D = λ a f. Misapplied (MaySign sign.op (operand a)) (SignMakes sign.op (operand a)) sign.pos rule.WrongType
      f}
      (const_valued q) (λ v c w. const_signed g j lawful O sign.op sign.pos w)))
    where
      reads : (y : Fixed) → R (layer.Sum (Some sign) x rest) y → (k : Kind)
          × ((b : Kind) × HasSigned sign x b × Chained b (addends rest) k) × (y ≡ AConstant k)
      reads _ (rules.fixed_signed_sum {a = a} {b = b} {k = k} m t c) = (k, (b, (a, m, t), c), refl)

      into : (f : Breach) → InChain (HasSigned sign x) (SignFails sign x) sign.pos (addends rest) f
          → FixedIn (layer.Sum (Some sign) x rest) f
      into f (inl (inl b)) = part_broken (rules.an_inner parts.first_addend) b
      into f (inl (inr (a, m, z))) = inl (rules.fixed_at_sign m z)
      into f (inr (inl (y, m, b))) = part_broken (rules.an_inner (parts.other_addend m)) b
      into f (inr (inr (b, (a, m, t), c))) = inl (rules.fixed_in_signed_sum m t c)

      out : (f : Breach) → FixedIn (layer.Sum (Some sign) x rest) f
          → InChain (HasSigned sign x) (SignFails sign x) sign.pos (addends rest) f
      out _ (inl (no_constant (rules.an_inner parts.first_addend) m z)) = inl (inl (inr (_, m, (z, refl))))
      out _ (inl (no_constant (rules.an_inner (parts.other_addend {x = y} a)) m z)) =
          inr (inl (y, a, inr (_, m, (z, refl))))
      out f (inl (rules.fixed_at_sign {a = a} m z)) = inl (inr (a, m, z))
      out f (inl (rules.fixed_in_signed_sum {a = a} {b = b} m t c)) = inr (inr (b, (a, m, t), c))
      out f (inr (y, (rules.an_inner parts.first_addend), b)) = inl (inl (inl b))
      out f (inr (_, rules.an_inner (parts.other_addend {x = y} a), b)) = inr (inl (y, a, inl b))

  -- ---- elements

  abbrev L : Type 0
  L = Item-F Expr Selector Designator Item

  abbrev Number : Expr → Option TypeNo × ℤ → Type 0
  Number x p = (k : Kind) × F x (AConstant k) × NumberOf k p

  abbrev NumberFails : Expr → Breach → Type 0
  NumberFails x f = ConstBroken x f ⊎ ((k : Kind) × F x (AConstant k) × NoNumber g j lawful O (first x) k f)

  number_at : {x : Expr} → FixedFound x →
      Answers g j O IsOrdinal (Number x) (NumberFails x)
      (constants.element_of g (meanings_of g x).fixed.at (constants.constant g s (meanings_of g x).fixed))
  number_at {x = x} h = subst (λ (at : Pos). Answers g j O IsOrdinal (Number x) (NumberFails x)
      (constants.element_of g at (constants.constant g s (meanings_of g x).fixed))) (sym (at_is g x))
      (then_answer g j lawful O {N = NumberOf} {D = NoNumber g j lawful O (first x)} (const_valued h)
      (number_answers g j lawful O (first x)))

  has_it : {x : Expr} (p : Option TypeNo × ℤ) → Number x p → HasNumber s.types names exports x p.0 p.1
  has_it p (k, m, (e, n)) = has_number m e n

  it_has : {x : Expr} {sort : Option TypeNo} {n : ℤ} → HasNumber s.types names exports x sort n → Number x (sort, n)
  it_has (has_number {k = k} m e n) = (k, m, (e, n))

  abbrev pub ItemBreaks : L → Breach → Type 0
  ItemBreaks l f = ItemFails s.types names exports l f ⊎ ((x : Expr) × IsBound x l × ConstBroken x f)

  -- what is refused of a bound alone
  bound_fails : {l : L} {x : Expr} (f : Breach) → FixedFound x → IsBound x l → NumberFails x f → ItemBreaks l f
  bound_fails {x = x} f h b (inl c) = inr (x, b, c)
  bound_fails {l = l} {x = x} f h b (inr (k, m, (n, e))) =
      inl (subst (ItemFails s.types names exports l) (sym e) (rules.no_number b m (λ sort z y. none sort z (it_has y))))
    where
      none : (sort : Option TypeNo) (z : ℤ) → Number x (sort, z) → ⊥
      none sort z (c, q, t) = n (sort, z) (subst (λ (k : Kind). NumberOf k (sort, z))
          (one_meaning g j lawful O (const_valued h) c k q m) t)

  single_is : (at : Pos) (v : Result ConstantValue g.Reported)
      → constants.single_of g at v ≡ (constants.element_of g at v ▷ λ a. is_element g at a ▷ λ fine. Ok
      (with_span 0 a.number a.number))
  single_is at (Ok v) = refl
  single_is at (Err e) = refl

  not_both : {A : Type 0} {x : A} {o : Option A} → o ≡ None → o ≡ Some x → ⊥
  not_both e q = let z = sym e ∙ q in absurd cc

  same_some : {x y : Expr} {o : Option Expr} → o ≡ Some x → o ≡ Some y → x ≡ y
  same_some {x = x} {y = y} e q = some_same x y (sym e ∙ q)

  abbrev opened_item : L → Item-F (Meant g.Reported) (Picks g.Reported) (Meant g.Reported) (ItemAdds g.Reported)
  opened_item l = map-Item Expr Selector Designator Item (Meant g.Reported) (Picks g.Reported) (Meant g.Reported)
      (ItemAdds g.Reported) (meanings_of g) (picks g) (head g) (item g) l

  pub single_answers : (l : L) → FixedFound l.low → l.high ≡ None
      → Answers g j O IsSame (Adds s.types names exports l) (ItemBreaks l)
      (constants.single_of g (meanings_of g l.low).fixed.at (constants.constant g s (meanings_of g l.low).fixed))
  single_answers l h e = subst (Answers g j O IsSame (Adds s.types names exports l) (ItemBreaks l))
      (sym (single_is (meanings_of g l.low).fixed.at (constants.constant g s (meanings_of g l.low).fixed)))
      (subst (λ (at : Pos). Answers g j O IsSame (Adds s.types names exports l) (ItemBreaks l)
      (constants.element_of g (meanings_of g l.low).fixed.at (constants.constant g s (meanings_of g l.low).fixed) ▷
      λ a. is_element g at a ▷ λ fine. Ok (with_span 0 a.number a.number))) (sym (at_is g l.low))
      (exact g j lawful O into out fails_in fails_out
      (one_answers g j lawful O (first l.low) (first l.low) (number_at h) (number_at h))))
    where
      into : (bits : ℕ) → (p : Option TypeNo × ℤ) × Number l.low p
          × (Within (pos 0) p.1 (pos 31) × (bits ≡ with_span 0 p.1 p.1)) → Adds s.types names exports l bits
      into bits (p, m, (w, q)) = subst (Adds s.types names exports l) (sym q) (rules.single e (has_it p m) w)

      out : (bits : ℕ) → Adds s.types names exports l bits → (p : Option TypeNo × ℤ) × Number l.low p
          × (Within (pos 0) p.1 (pos 31) × (bits ≡ with_span 0 p.1 p.1))
      out _ (rules.single {sort = sort} {n = n} q m w) = ((sort, n), it_has m, (w, refl))
      out _ (rules.range q m n w v t u) = absurd (not_both e q)

      fails_in : (f : Breach) → NumberFails l.low f
          ⊎ ((p : Option TypeNo × ℤ) × Number l.low p
          × ((Within (pos 0) p.1 (pos 31) → ⊥) × (f ≡ first l.low ! rule.OutOfRange))) → ItemBreaks l f
      fails_in f (inl b) = bound_fails f h (low_bound refl) b
      fails_in f (inr (p, m, (n, q))) = inl (subst (ItemFails s.types names exports l) (sym q)
          (rules.no_element (low_bound refl) (has_it p m) n))

      low_only : {x : Expr} → IsBound x l → l.low ≡ x
      low_only (low_bound q) = q
      low_only (high_bound q) = absurd (not_both e q)

      fails_by : (x : Expr) (f : Breach) → l.low ≡ x → NumberFails x f
          ⊎ ((p : Option TypeNo × ℤ) × Number x p
          × ((Within (pos 0) p.1 (pos 31) → ⊥) × (f ≡ first x ! rule.OutOfRange))) → NumberFails l.low f
          ⊎ ((p : Option TypeNo × ℤ) × Number l.low p
          × ((Within (pos 0) p.1 (pos 31) → ⊥) × (f ≡ first l.low ! rule.OutOfRange)))
      fails_by x f q b = subst (λ (x : Expr). NumberFails x f
          ⊎ ((p : Option TypeNo × ℤ) × Number x p
          × ((Within (pos 0) p.1 (pos 31) → ⊥) × (f ≡ first x ! rule.OutOfRange)))) (sym q) b

      fails_out : (f : Breach) → ItemBreaks l f → NumberFails l.low f
          ⊎ ((p : Option TypeNo × ℤ) × Number l.low p
          × ((Within (pos 0) p.1 (pos 31) → ⊥) × (f ≡ first l.low ! rule.OutOfRange)))
      fails_out f (inr (x, b, c)) = fails_by x f (low_only b) (inl (inl c))
      fails_out _ (inl (rules.no_number {e = x} {k = k} b m n)) =
          fails_by x _ (low_only b) (inl (inr (k, m, ((λ p t. n p.0 p.1 (has_number m t.0 t.1)), refl))))
      fails_out _ (inl (rules.no_element {e = x} {sort = sort} {n = n} b m w)) =
          fails_by x _ (low_only b) (inr ((sort, n), it_has m, (w, refl)))
      fails_out _ (inl (rules.unlike q m n z)) = absurd (not_both e q)
      fails_out _ (inl (rules.empty q m n t z)) = absurd (not_both e q)

  abbrev Numbers : L → Expr → (Option TypeNo × ℤ) × (Option TypeNo × ℤ) → Type 0
  Numbers l high q = Number l.low q.0 × Number high q.1

  abbrev RangeSo : L → Expr → ℕ → Type 0
  RangeSo l high bits = (q : (Option TypeNo × ℤ) × (Option TypeNo × ℤ)) × Numbers l high q
      × ((Within (pos 0) q.0.1 (pos 31) × Within (pos 0) q.1.1 (pos 31))
      × ((((u : Option TypeNo) × GoTogether q.0.0 q.1.0 u) × (int_lt q.1.1 q.0.1 ≡ true → ⊥))
      × (bits ≡ with_span 0 q.0.1 q.1.1)))

  abbrev OutOfSet : Expr → Breach → Type 0
  OutOfSet x f = (p : Option TypeNo × ℤ) × Number x p
      × ((Within (pos 0) p.1 (pos 31) → ⊥) × (f ≡ first x ! rule.OutOfRange))

  abbrev Disordered : L → Expr → Breach → Type 0
  Disordered l high f = (q : (Option TypeNo × ℤ) × (Option TypeNo × ℤ)) × Numbers l high q
      × ((((u : Option TypeNo) → GoTogether q.0.0 q.1.0 u → ⊥) × (f ≡ first high ! rule.WrongType))
      ⊎ (((u : Option TypeNo) × GoTogether q.0.0 q.1.0 u)
      × ((int_lt q.1.1 q.0.1 ≡ true) × (f ≡ first l.low ! rule.EmptyRange))))

  abbrev RangeBreaks : L → Expr → Breach → Type 0
  RangeBreaks l high f = (NumberFails l.low f ⊎ NumberFails high f)
      ⊎ ((OutOfSet l.low f ⊎ OutOfSet high f) ⊎ Disordered l high f)

  abbrev spanned_at : L → Expr → Pos → Pos → Result ℕ g.Reported
  spanned_at l high at at' = span_of g at
      (constants.element_of g (meanings_of g l.low).fixed.at (constants.constant g s (meanings_of g l.low).fixed)) at'
      (constants.element_of g (meanings_of g high).fixed.at (constants.constant g s (meanings_of g high).fixed))

  pub range_item_answers : (l : L) (high : Expr) → FixedFound l.low → FixedFound high → l.high ≡ Some high
      → Answers g j O IsSame (Adds s.types names exports l) (ItemBreaks l)
      (spanned_at l high (meanings_of g l.low).fixed.at (meanings_of g high).fixed.at)
  range_item_answers l high h q e = subst
      (λ (at : Pos). Answers g j O IsSame (Adds s.types names exports l) (ItemBreaks l)
      (spanned_at l high at (meanings_of g high).fixed.at)) (sym (at_is g l.low))
      (subst (λ (at : Pos). Answers g j O IsSame (Adds s.types names exports l) (ItemBreaks l)
      (spanned_at l high (first l.low) at)) (sym (at_is g high))
      (exact g j lawful O into (λ bits a. out a) fails_in (λ f b. fails_out b)
      (range_answers g j lawful O (first l.low) (first high) (number_at h) (number_at q))))
    where
      into : (bits : ℕ) → RangeSo l high bits → Adds s.types names exports l bits
      into bits (p, (m, n), ((w, v), ((t, o), c))) =
          subst (Adds s.types names exports l) (sym c) (rules.range e (has_it p.0 m) (has_it p.1 n) w v t.1 o)

      out_of : {x : Expr} {sort sort' u : Option TypeNo} {n m : ℤ} → x ≡ high
          → HasNumber s.types names exports l.low sort n → HasNumber s.types names exports x sort' m
          → Within (pos 0) n (pos 31) → Within (pos 0) m (pos 31) → GoTogether sort sort' u → (int_lt m n ≡ true → ⊥)
          → RangeSo l high (with_span 0 n m)
      out_of {sort = sort} {sort' = sort'} {u = u} {n = n} {m = m} c a b w v t o = (
        ((sort, n), (sort', m)),
        (it_has a, subst (λ (x : Expr). Number x (sort', m)) c (it_has b)),
        ((w, v), (((u, t), o), refl)),
      )

      out : {bits : ℕ} → Adds s.types names exports l bits → RangeSo l high bits
      out (rules.single c m w) = absurd (not_both c e)
      out (rules.range c m n w v t o) = out_of (same_some c e) m n w v t o

      out_of_set : {x : Expr} (f : Breach) → IsBound x l → OutOfSet x f → ItemBreaks l f
      out_of_set f b (p, m, (n, c)) = inl (subst (ItemFails s.types names exports l) (sym c)
          (rules.no_element b (has_it p m) n))

      fails_in : (f : Breach) → RangeBreaks l high f → ItemBreaks l f
      fails_in f (inl (inl b)) = bound_fails f h (low_bound refl) b
      fails_in f (inl (inr b)) = bound_fails f q (high_bound e) b
      fails_in f (inr (inl (inl b))) = out_of_set f (low_bound refl) b
      fails_in f (inr (inl (inr b))) = out_of_set f (high_bound e) b
      fails_in f (inr (inr (p, (m, n), inl (t, c)))) =
          inl (subst (ItemFails s.types names exports l) (sym c) (rules.unlike e (has_it p.0 m) (has_it p.1 n) t))
      fails_in f (inr (inr (p, (m, n), inr (t, (o, c))))) =
          inl (subst (ItemFails s.types names exports l) (sym c) (rules.empty e (has_it p.0 m) (has_it p.1 n) t.1 o))

      -- which of both bounds it is
      number_of_bound : {x : Expr} (f : Breach) → IsBound x l → NumberFails x f → RangeBreaks l high f
      number_of_bound f (low_bound c) b = inl (inl (subst (λ (x : Expr). NumberFails x f) (sym c) b))
      number_of_bound f (high_bound c) b = inl (inr (subst (λ (x : Expr). NumberFails x f) (same_some c e) b))

      set_of_bound : {x : Expr} (f : Breach) → IsBound x l → OutOfSet x f → RangeBreaks l high f
      set_of_bound f (low_bound c) b = inr (inl (inl (subst (λ (x : Expr). OutOfSet x f) (sym c) b)))
      set_of_bound f (high_bound c) b = inr (inl (inr (subst (λ (x : Expr). OutOfSet x f) (same_some c e) b)))

      unlike_by : {x : Expr} {sort sort' : Option TypeNo} {n m : ℤ} → x ≡ high
          → HasNumber s.types names exports l.low sort n → HasNumber s.types names exports x sort' m
          → ((u : Option TypeNo) → GoTogether sort sort' u → ⊥) → RangeBreaks l high (first x ! rule.WrongType)
      unlike_by {x = x} {sort = sort} {sort' = sort'} {n = n} {m = m} c a b t =
          inr (inr (
            ((sort, n), (sort', m)),
            (it_has a, subst (λ (x : Expr). Number x (sort', m)) c (it_has b)),
            inl
                (t, ap (λ (x : Expr). first x ! rule.WrongType) c),
          ))

      empty_by : {x : Expr} {sort sort' u : Option TypeNo} {n m : ℤ} → x ≡ high
          → HasNumber s.types names exports l.low sort n → HasNumber s.types names exports x sort' m
          → GoTogether sort sort' u → int_lt m n ≡ true → RangeBreaks l high (first l.low ! rule.EmptyRange)
      empty_by {sort = sort} {sort' = sort'} {u = u} {n = n} {m = m} c a b t o =
          inr (inr (
            ((sort, n), (sort', m)),
            (it_has a, subst (λ (x : Expr). Number x (sort', m)) c (it_has b)),
            inr
                ((u, t), (o, refl)),
          ))

      fails_out : {f : Breach} → ItemBreaks l f → RangeBreaks l high f
      fails_out {f = f} (inr (x, b, c)) = number_of_bound f b (inl c)
      fails_out (inl (rules.no_number {k = k} b m n)) =
          number_of_bound _ b (inr (k, m, ((λ p t. n p.0 p.1 (has_number m t.0 t.1)), refl)))
      fails_out (inl (rules.no_element {sort = sort} {n = n} b m w)) = set_of_bound _ b ((sort, n), it_has m, (w, refl))
      fails_out (inl (rules.unlike c m n t)) = unlike_by (same_some c e) m n t
      fails_out (inl (rules.empty c m n t o)) = empty_by (same_some c e) m n t o

  -- ---- the elements of a set

  item_is : (i : Item) → item g i ≡ item_layer g (opened_item (out-Item i))
  unfolding meanings_of picks head item
  item_is i = fold_out-Item (Meant g.Reported) (Picks g.Reported) (Meant g.Reported) (ItemAdds g.Reported)
      (expr_layer g) (selector_layer g) (designator_layer g) (item_layer g) i

  pub item_at : (i : Item) (o : Option Expr) → (out-Item i).high ≡ o
      → item g i s ≡ item_layer g (opened_item (record { low = (out-Item i).low; high = o })) s
  item_at i o h = ap (λ (m : ItemAdds g.Reported). m s) (item_is i)
      ∙ ap (λ (o : Option Expr). item_layer g (opened_item (record { low = (out-Item i).low; high = o })) s) h

  abbrev pub ItemSo : Item → Type 0
  ItemSo i = Answers g j O IsSame (Adds s.types names exports (out-Item i)) (ItemBreaks (out-Item i)) (item g i s)

  abbrev SetBreaks : List Item → Breach → Type 0
  SetBreaks is f = (i : Item) × Among i is × ItemBreaks (out-Item i) f

  abbrev SetSo : (ℕ → Type 0) → (Breach → Type 0) → List Item → Result ℕ g.Reported → Type 0
  SetSo P Q is r = Answers g j O IsSame (λ b. (a : ℕ) × P a × AddUp s.types names exports a is b)
      (λ f. Q f ⊎ SetBreaks is f) r

  bits_of : {v b : ℕ} → IsSame v b → v ≡ b
  bits_of (is_same n) = refl

  joined_answers : {P M : ℕ → Type 0} {Q C : Breach → Type 0} {r q : Result ℕ g.Reported} → Answers g j O IsSame P Q r
      → Answers g j O IsSame M C q
      → Answers g j O IsSame (λ b. (p : ℕ × ℕ) × (P p.0 × M p.1) × (b ≡ bit_or p.0 p.1))
      (λ f. (Q f ⊎ C f) ⊎ ((p : ℕ × ℕ) × (P p.0 × M p.1) × ⊥)) (constants.joined_bits g r q)
  joined_answers a b = then_answer g j lawful O {N = λ p b. b ≡ bit_or p.0 p.1} {D = λ p f. ⊥}
      (both_answer g j lawful O a b) (λ v p i. subst
      (λ (n : ℕ). Answers g j O IsSame (λ b. b ≡ n) (λ f. ⊥) (Ok (bit_or v.0 v.1)))
      (ap (λ (n : ℕ). bit_or n v.1) (bits_of i.0) ∙ ap (λ (n : ℕ). bit_or p.0 n) (bits_of i.1))
      (fine g j lawful O (bit_or v.0 v.1) (bit_or v.0 v.1) (is_same (bit_or v.0 v.1))))

  items_answer : (is : List Item) {P : ℕ → Type 0} {Q : Breach → Type 0} {r : Result ℕ g.Reported}
      → ((i : Item) → Among i is → ItemSo i) → Answers g j O IsSame P Q r
      → SetSo P Q is (fold (constants.with_item g s) r (map (λ (e : ItemAdds g.Reported). e) (map (item g) is)))
  items_answer [] {P = P} {Q = Q} h a = exact g j lawful O (λ b m. (b, m, no_item)) (λ b m. parted m.1 m.2)
      (λ f b. inl b) (λ f b. elim b [ inl c ↦ c | inr c ↦ elim c.1 [ ] ]) a
    where
      parted : {x b : ℕ} → P x → AddUp s.types names exports x [] b → P b
      parted m no_item = m
  items_answer (i ∷ is) {P = P} {Q = Q} h a =
      exact g j lawful O {N = λ b. (a : ℕ) × P a × AddUp s.types names exports a (i ∷ is) b}
      {C = λ f. Q f ⊎ SetBreaks (i ∷ is) f} (λ b m. into b m) (λ b m. parted m.1 m.2) (λ f z. fails_in f z)
      (λ f z. fails_out f z)
      (items_answer is {P = λ b. (p : ℕ × ℕ) × (P p.0 × Adds s.types names exports (out-Item i) p.1)
      × (b ≡ bit_or p.0 p.1)} {Q = λ f. (Q f ⊎ ItemBreaks (out-Item i) f)
      ⊎ ((p : ℕ × ℕ) × (P p.0 × Adds s.types names exports (out-Item i) p.1) × ⊥)} (λ y m. h y (later m))
      (joined_answers a (h i here)))
    where
      into : (b : ℕ) → (a : ℕ) × ((p : ℕ × ℕ) × (P p.0 × Adds s.types names exports (out-Item i) p.1)
          × (a ≡ bit_or p.0 p.1)) × AddUp s.types names exports a is b → (a : ℕ) × P a
          × AddUp s.types names exports a (i ∷ is) b
      into b (c, (p, (m, n), e), r) = (p.0, m, one_item n (subst (λ (c : ℕ). AddUp s.types names exports c is b) e r))

      parted : {x b : ℕ} → P x → AddUp s.types names exports x (i ∷ is) b → (a : ℕ)
          × ((p : ℕ × ℕ) × (P p.0 × Adds s.types names exports (out-Item i) p.1) × (a ≡ bit_or p.0 p.1))
          × AddUp s.types names exports a is b
      parted {x = x} m (one_item {b = c} n r) = (bit_or x c, ((x, c), (m, n), refl), r)

      fails_in : (f : Breach) → ((Q f ⊎ ItemBreaks (out-Item i) f)
          ⊎ ((p : ℕ × ℕ) × (P p.0 × Adds s.types names exports (out-Item i) p.1) × ⊥)) ⊎ SetBreaks is f → Q f
          ⊎ SetBreaks (i ∷ is) f
      fails_in f (inl (inl (inl b))) = inl b
      fails_in f (inl (inl (inr b))) = inr (i, here, b)
      fails_in f (inl (inr z)) = absurd z.2
      fails_in f (inr (y, m, b)) = inr (y, later m, b)

      among_of : {y : Item} (f : Breach) → Among y (i ∷ is) → ItemBreaks (out-Item y) f
          → ((Q f ⊎ ItemBreaks (out-Item i) f)
          ⊎ ((p : ℕ × ℕ) × (P p.0 × Adds s.types names exports (out-Item i) p.1) × ⊥)) ⊎ SetBreaks is f
      among_of f here b = inl (inl (inr b))
      among_of {y = y} f (later m) b = inr (y, m, b)

      fails_out : (f : Breach) → Q f ⊎ SetBreaks (i ∷ is) f
          → ((Q f ⊎ ItemBreaks (out-Item i) f)
          ⊎ ((p : ℕ × ℕ) × (P p.0 × Adds s.types names exports (out-Item i) p.1) × ⊥)) ⊎ SetBreaks is f
      fails_out f (inl b) = inl (inl (inl b))
      fails_out f (inr (y, m, b)) = among_of f m b

  -- ---- the name of a set's type

  abbrev SetType : Pos → Standing → Result (Unit {0}) g.Reported → Type 0
  SetType at st r = Checks g j lawful O {A = Unit {0}} (st ≡ Known (AType bitset)) (Misset at st) r

  no_set : {at : Pos} (x : Thing) → (x ≡ AType bitset → ⊥) → SetType at (Known x) (report g at rule.NoType)
  no_set {at = at} x n = stopped g j lawful O at rule.NoType (λ e. n (known_same e)) (rules.other_sort n) (λ f m. one m)
    where
      known_same : {x y : Thing} → Known x ≡ Known y → x ≡ y
      known_same {x = x} e = ap (λ z. elim z
          [ Known y ↦ y | Ahead ↦ x | Undeclared ↦ x | NotExported ↦ x | Unknown ↦ x ]) e

      one : {f : Breach} → Misset at (Known x) f → f ≡ at ! rule.NoType
      one (rules.no_name m) = elim m.misnamed [ ]
      one (rules.other_sort n) = refl

  set_local : {at : Pos} (t : TypeNo) (k : LocalKind) → SetType at (of_local t k) (report g at rule.NoType)
  set_local t local.Variable = no_set (AVariable t) (λ e. absurd cc)
  set_local t local.Value = no_set (AVariable t) (λ e. absurd cc)
  set_local t local.Alias = no_set (AVariable t) (λ e. absurd cc)
  set_local t local.Open = no_set (AnOpenArray t) (λ e. absurd cc)

  type_same : {t u : TypeNo} → AType t ≡ AType u → t ≡ u
  type_same {t = t} e = ap (λ z. elim z [
    | AType y ↦ y
    | AValue k ↦ t
    | AVariable y ↦ t
    | AnOpenArray y ↦ t
    | AProcedure
        y ↦ t
    | ANested y ↦ t
    | AStandard f ↦ t
    | AModule k ↦ t
    | Headless b ↦ t
  ]) e

  set_type_by : {at : Pos} (t : TypeNo) (b : Bool) → Decided (t ≡ bitset) b
      → SetType at (Known (AType t)) (cond (not b) (report g at rule.NoType) (Ok tt))
  set_type_by {at = at} t _ (holds e) = passes tt (ap (λ (t : TypeNo). Known (AType t)) e) (λ f m. none m)
    where
      none : {f : Breach} → Misset at (Known (AType t)) f → ⊥
      none (rules.no_name m) = elim m.misnamed [ ]
      none (rules.other_sort n) = n (ap AType e)
  set_type_by t _ (fails_it n) = no_set (AType t) (λ e. n (type_same e))

  bitset_checks : {at : Pos} (m : Meaning) → SetType at (standing m) (is_bitset g at m)
  bitset_checks (meaning.Type t n) = set_type_by t (are_same t bitset) (same_decided t bitset)
  bitset_checks (meaning.Constant v) = no_set (AValue (kind_of v)) (λ e. absurd cc)
  bitset_checks (meaning.Variable v) = no_set (AVariable v.of) (λ e. absurd cc)
  bitset_checks (meaning.Local v) = set_local v.of v.kind
  bitset_checks (meaning.Field f) = no_set (AVariable f.of) (λ e. absurd cc)
  bitset_checks (meaning.Procedure p) = no_set (AProcedure p.heading) (λ e. absurd cc)
  bitset_checks (meaning.LocalProcedure p) = no_set (ANested p.heading) (λ e. absurd cc)
  bitset_checks {at = at} meaning.Ahead =
      stopped g j lawful O at rule.NoType (λ e. absurd cc) rules.a_procedure (λ f m. one m)
    where
      one : {f : Breach} → Misset at Ahead f → f ≡ at ! rule.NoType
      one (rules.no_name m) = absurd (m.not_ahead refl)
      one rules.a_procedure = refl
  bitset_checks (meaning.Standard f) = no_set (AStandard f) (λ e. absurd cc)
  bitset_checks (meaning.Module k) = no_set (AModule k) (λ e. absurd cc)

  seen_set : (name : Ident) (st : Standing) (r : Result Meaning (Meaningless g.Reported)) → names name ≡ st
      → looked_up g s name ≡ r → Sees g j name.pos st r
      → SetType name.pos st (of_sort g name.pos rule.NoType r ▷ is_bitset g name.pos)
  seen_set name _ _ e q (sees m) = bitset_checks m
  seen_set name _ _ e q sees_nothing = stopped g j lawful O name.pos rule.Undeclared (λ z. absurd cc)
      (rules.no_name (record { not_ahead = λ z. absurd cc; misnamed = undeclared })) (λ f m. one m)
    where
      misnamed_one : {f : Breach} → Misnamed name.pos Undeclared f → f ≡ name.pos ! rule.Undeclared
      misnamed_one undeclared = refl

      one : {f : Breach} → Misset name.pos Undeclared f → f ≡ name.pos ! rule.Undeclared
      one (rules.no_name m) = misnamed_one m.misnamed
  seen_set name _ _ e q (sees_headless b r) = no_set (Headless b) (λ z. absurd cc)
  seen_set name _ _ e q (sees_unknown r) =
      stops r (record { only = λ f m. inr (of_declaration e q m); each = λ f m. none m }) (λ z. absurd cc)
    where
      none : {f : Breach} → Misset name.pos Unknown f → j.Covers r f
      none (rules.no_name m) = elim m.misnamed [ ]

  -- ---- sets

  abbrev SetOf : List Item → Type 0 → Fixed → Type 0
  SetOf items P x = (b : ℕ) × (P × AddUp s.types names exports 0 items b) × (x ≡ AConstant (Set (Some b)))

  set_answers : {P : Type 0} {Q : Breach → Type 0} (t : Result (Unit {0}) g.Reported) (items : List Item)
      → Checks g j lawful O P Q t → ((i : Item) → Among i items → ItemSo i)
      → Answers g j O IsFixed (SetOf items P) (λ f. Q f ⊎ SetBreaks items f)
      (constants.set_of g t (fold (constants.with_item g s) (Ok 0)
      (map (λ (e : ItemAdds g.Reported). e) (map (item g) items))))
  set_answers {P = P} {Q = Q} t items c h =
      exact g j lawful O {M = λ x. (k : Unit {0} × ℕ)
      × (P × ((a : ℕ) × (a ≡ 0) × AddUp s.types names exports a items k.1)) × (x ≡ AConstant (Set (Some k.1)))}
      {B = λ f. (Q f ⊎ (⊥ ⊎ SetBreaks items f))
      ⊎ ((k : Unit {0} × ℕ) × (P × ((a : ℕ) × (a ≡ 0) × AddUp s.types names exports a items k.1)) × ⊥)}
      (λ x m. (m.0.1, (m.1.0, subst (λ (a : ℕ). AddUp s.types names exports a items m.0.1) m.1.1.1 m.1.1.2), m.2))
      (λ x m. ((tt, m.0), (m.1.0, (0, refl, m.1.1)), m.2))
      (λ f z. elim z [
        | inl y ↦ elim y [ inl q ↦ inl q | inr w ↦ elim w [ inl b ↦ absurd b | inr b ↦ inr b ] ]
        | inr y ↦
            absurd y.2
      ]) (λ f z. elim z [ inl q ↦ inl (inl q) | inr b ↦ inl (inr (inr b)) ])
      (then_answer g j lawful O {N = λ k x. x ≡ AConstant (Set (Some k.1))} {D = λ k f. ⊥}
      (both_answer g j lawful O (checks_answer g j lawful O c)
      (items_answer items {P = λ a. a ≡ 0} {Q = λ f. ⊥} h (fine g j lawful O 0 0 (is_same 0))))
      (λ v k i. means (denoted.Value (value.Set v.1)) (AConstant (Set (Some k.1)))
      (fixed_value (subst (λ (n : ℕ). IsConst (value.Set v.1) (Set (Some n))) (bits_of i.1)
      (is_const (value.Set v.1)))) refl (λ x e. e) (λ f b. b)))

  item_broken : {name : Option Ident} {at : Pos} {items : List Item} (f : Breach) → SetBreaks items f
      → FixedIn (layer.Set name at items) f
  item_broken f (i, a, inl z) = inl (rules.at_item a z)
  item_broken f (i, a, inr (x, b, c)) = part_broken (rules.in_element a b) c

  -- what the elaboration makes of braces
  abbrev pub SetAnswers : Option Ident → Pos → List Item → Type 0
  SetAnswers name at items = Answers g j O IsFixed (R (layer.Set name at items)) (FixedIn (layer.Set name at items))
      ((expr_layer g (opened g (layer.Set name at items))).fixed.denotes s)

  plain_set : (at : Pos) (items : List Item) → ((i : Item) → Among i items → ItemSo i) → SetAnswers None at items
  plain_set at items h = exact g j lawful O {N = R (layer.Set None at items)} {C = FixedIn (layer.Set None at items)}
      (λ x m. subst (R (layer.Set None at items)) (sym m.2) (rules.fixed_set m.1.1)) (λ x r. parted r)
      (λ f z. elim z [ inl q ↦ absurd q | inr b ↦ item_broken f b ]) out
      (set_answers {P = Unit {0}} {Q = λ f. ⊥} (Ok tt) items (passes tt tt (λ f b. b)) h)
    where
      parted : {x : Fixed} → R (layer.Set None at items) x → SetOf items (Unit {0}) x
      parted (rules.fixed_set {bits = b} a) = (b, (tt, a), refl)

      out : (f : Breach) → FixedIn (layer.Set None at items) f → ⊥ ⊎ SetBreaks items f
      out _ (inl (no_constant (rules.in_element {i = i} a b) m z)) = inr (i, a, inr (_, b, inr (_, m, (z, refl))))
      out f (inl (rules.at_item {i = i} a z)) = inr (i, a, inl z)
      out f (inr (x, rules.in_element {i = i} a b, c)) = inr (i, a, inr (x, b, inl c))
      out _ (inl (no_constant (rules.an_inner i) m z)) = elim i [ ]
      out f (inr (x, rules.an_inner i, c)) = elim i [ ]

  named_set : (name : Ident) (at : Pos) (items : List Item) → ((i : Item) → Among i items → ItemSo i)
      → SetAnswers (Some name) at items
  named_set name at items h = exact g j lawful O {N = R (layer.Set (Some name) at items)}
      {C = FixedIn (layer.Set (Some name) at items)}
      (λ x m. subst (R (layer.Set (Some name) at items)) (sym m.2) (rules.fixed_named_set m.1.0 m.1.1))
      (λ x r. parted r)
      (λ f z. elim z [ inl q ↦ inl (rules.at_set_type q) | inr b ↦ item_broken f b ]) out
      (set_answers {P = names name ≡ Known (AType bitset)} {Q = Misset name.pos (names name)}
      (constants.set_type g s (Some name)) items
      (seen_set name (names name) (looked_up g s name) refl refl (knows.of_names name)) h)
    where
      parted : {x : Fixed} → R (layer.Set (Some name) at items) x → SetOf items (names name ≡ Known (AType bitset)) x
      parted (rules.fixed_named_set {bits = b} e a) = (b, (e, a), refl)

      out : (f : Breach) → FixedIn (layer.Set (Some name) at items) f → Misset name.pos (names name) f
          ⊎ SetBreaks items f
      out _ (inl (no_constant (rules.in_element {i = i} a b) m z)) = inr (i, a, inr (_, b, inr (_, m, (z, refl))))
      out f (inl (rules.at_set_type m)) = inl m
      out f (inl (rules.at_item {i = i} a z)) = inr (i, a, inl z)
      out f (inr (x, rules.in_element {i = i} a b, c)) = inr (i, a, inr (x, b, inl c))
      out _ (inl (no_constant (rules.an_inner i) m z)) = elim i [ ]
      out f (inr (x, rules.an_inner i, c)) = elim i [ ]

  pub set_by : (name : Option Ident) (at : Pos) (items : List Item) → ((i : Item) → Among i items → ItemSo i)
      → SetAnswers name at items
  set_by None at items h = plain_set at items h
  set_by (Some name) at items h = named_set name at items h

  pub set_fixed : {e : Expr} (name : Option Ident) (at : Pos) (items : List Item) → out-Expr e ≡ layer.Set name at items
      → ((i : Item) → Among i items → ItemSo i) → FixedFound e
  set_fixed name at items h i = fixed_layer (layer.Set name at items)
      ((expr_layer g (opened g (layer.Set name at items))).fixed.denotes s) h refl (λ t p. elim p [ ])
      (set_by name at items i)

  -- ---- each element

  pub single_so : (i : Item) → FixedFound (out-Item i).low → (out-Item i).high ≡ None → ItemSo i
  single_so i h n = subst (Answers g j O IsSame (Adds s.types names exports (out-Item i)) (ItemBreaks (out-Item i)))
      (sym (item_at i None n)) (single_answers (out-Item i) h n)

  pub range_so : (i : Item) (high : Expr) → FixedFound (out-Item i).low → FixedFound high
      → (out-Item i).high ≡ Some high → ItemSo i
  range_so i high h q e = subst (Answers g j O IsSame (Adds s.types names exports (out-Item i))
      (ItemBreaks (out-Item i))) (sym (item_at i (Some high) e)) (range_item_answers (out-Item i) high h q e)
