-- The elaboration of an expression answers exactly what the rules say.
use Rattle.std.proofs.Common.{◌≡◌, ℕ, pos, List, [], ◌∷◌, Option, Some, None, Result, Ok, ◌⊎◌, inl, inr, refl, sym, ap, subst, ◌∙◌}
use Rattle.std.specs.Prelude.{map}
use Rattle.std.specs.List.{fold}
use Rattle.m2_rule.specs.declared.rule.Rule.TheVariants as rule
use Rattle.m2_tree.specs.declared.pos.Pos.{Pos}
use Rattle.m2_tree.specs.declared.name.Ident.{Ident}
use Rattle.m2_tree.specs.declared.expr.MulOp.{MulOp}
use Rattle.m2_tree.specs.declared.expr.AddOp.{AddOp}
use Rattle.m2_tree.specs.declared.expr.RelOp.{RelOp}
use Rattle.m2_tree.specs.declared.expr.Sign.{Sign}
use Rattle.m2_tree.specs.declared.expr.Operator.{Operator}
use Rattle.m2_tree.specs.declared.expr.Expr.{Expr, Expr-F, out-Expr}
use Rattle.m2_tree.specs.declared.expr.Expr.TheOpen as layer
use Rattle.m2_tree.specs.declared.expr.Selector.{Selector, Selector-F, out-Selector}
use Rattle.m2_tree.specs.declared.expr.Designator.{Designator, out-Designator}
use Rattle.m2_tree.specs.declared.expr.Item.{Item}
use Rattle.typed_tree.specs.declared.types.TypeNo.{TypeNo}
use Rattle.typed_tree.specs.declared.meaning.Value.TheVariants as value
use Rattle.typed_tree.specs.Types.{char}
use Rattle.m2_rule.specs.declared.breach.Breach.{Breach}
use Rattle.check_scope.specs.declared.meaningless.Meaningless.{Meaningless}
use Rattle.check_scope.specs.declared.scope.Scope.{Scope}
use Rattle.check_scope.specs.Elaborated.{Gathers}
use Rattle.check_const.specs.declared.operator.BinaryOp.TheVariants as op
use Rattle.check_value.specs.declared.computed.Computed.{Computed}
use Rattle.check_value.specs.declared.computed.Computed.TheVariants as computed
use Rattle.check_value.specs.declared.computed.Designated.{Designated}
use Rattle.check_value.specs.declared.computed.Designated.TheVariants as designated
use Rattle.check_value.specs.Operations.{operation_between}
use Rattle.check_value.specs.Signs.{negation, with_sign}
use Rattle.check_expr.specs.Meanings.{Meant, Picks, meanings_of, picks, head, value_of, of_computed, factor, term as addend, index_at, call_in_expression, expr_layer}
use Rattle.def_typing.specs.Amounts.{Constant}
use Rattle.def_typing.specs.Operators.{◌!◌, Kind, Scalar, Text, operand, Makes, Misused, Misapplied, MaySign, SignMakes, Negates}
use Rattle.def_typing.specs.Things.{Thing, AValue, Standing, Known, Misnamed, Picks as PicksName, Indexes}
use Rattle.def_typing.specs.Expressions as rules
use Rattle.def_typing.specs.Parts as parts
use Rattle.def_typing.specs.Parts.{first, Operand, factors, addends, Among, here, later}
use Rattle.def_typing.specs.Expressions.{IsOperand, IsPart, an_operand, an_argument, Reads, Denotes, Selected, Selects, Chain, done, then, Calls, Misselected, SelectionFails, Miscalled, ChainFails, at_once, further, Fails}
use Rattle.law_typing.specs.Judging.{Judges, Answers, means}
use Rattle.law_typing.specs.Exact.{IsConst, is_const, IsKind, kind_constant, thing_value, Knows, IsExact}
use Rattle.law_typing.proofs.Combining.{Lawful, exact, both_answer, then_answer, Finds, finds, finds_as, plain_finds}
use Rattle.law_typing.proofs.Joining.{operated_answers}
use Rattle.law_typing.proofs.Singles.{signed_answers, negated_answers}
use Rattle.law_typing.proofs.Selecting.{named_finds, FieldFails, field_finds, NoElements, ElementOf, IndexFails, index_finds}
use Rattle.law_typing.proofs.Places.{opened, picks_is, head_is, head_at, at_is}
use Rattle.law_typing.proofs.Trees.{tree, selector_trees, IsTree, tree_number, tree_character, tree_string, tree_set, tree_name, tree_call, tree_not, tree_brackets, tree_term, tree_sum, tree_relation, AreTrees, no_expression, one_expression, AreOperandTrees, no_operand, one_operand, AreSelectorTrees, no_selector, a_field, an_index, AreItemTrees, no_item, one_item, one_range}
use Rattle.law_typing.proofs.Finding.{Elsewhere, StandsFor, HasKind, IsBroken, IsBrokenValue, IsFound, IsValued, InLayer, by_layer, value_layer, valued, operand_broken, AnyBroken}
use Rattle.law_typing.proofs.Routines.{calls_answer}
use Rattle.typed_tree.specs.declared.meaning.Value.{Value as ConstantValue}
use Rattle.def_typing.specs.Constants as fixed
use Rattle.def_typing.specs.Constants.{Fixed, AConstant, Fixes, FixedReads}
use Rattle.check_const.specs.Parts.{constant}
use Rattle.law_typing.proofs.Fixing.{as_constant_answers}
use Rattle.law_typing.proofs.Constants.{FixedFound, FixedIn, ConstBroken, const_valued, ItemSo, set_by, set_fixed, number_fixed, character_fixed, string_fixed, name_fixed, not_fixed, brackets_fixed, relation_fixed, term_fixed, sum_fixed, signed_fixed, single_so, range_so}
use Rattle.law_typing.proofs.Applying.{call_fixed}

module _ (g : Gathers) (j : Judges g) (lawful : Lawful g j) (names : Ident → Standing) (exports : ℕ → Ident → Standing)
    (s : Scope g.Reported) (knows : Knows g j names exports s) where
  abbrev E : Breach → Type 0
  E = Elsewhere g j lawful names exports s

  abbrev S : Expr → Thing → Type 0
  S = StandsFor g j lawful names exports s

  abbrev H : Expr → Kind → Type 0
  H = HasKind g j lawful names exports s

  abbrev B : Expr → Breach → Type 0
  B = IsBroken g j lawful names exports s

  abbrev V : Expr → Breach → Type 0
  V = IsBrokenValue g j lawful names exports s

  abbrev Found : Expr → Type 0
  Found = IsFound g j lawful names exports s

  abbrev Valued : Expr → Type 0
  Valued = IsValued g j lawful names exports s

  -- the same of what has to be constant
  abbrev Constant' : Expr → Type 0
  Constant' = FixedFound g j lawful names exports s knows

  abbrev R : Expr-F Expr Selector Designator Item → Thing → Type 0
  R = Reads s.types names exports

  abbrev In : Expr-F Expr Selector Designator Item → Breach → Type 0
  In = InLayer g j lawful names exports s

  -- ---- what stands for itself

  literal_found : {e : Expr} (y : Expr-F Expr Selector Designator Item) (v : Computed) (k : Kind) → out-Expr e ≡ y
      → (expr_layer g (opened g y)).means s ≡ Ok (designated.Value v) → IsKind v k → R y (AValue k)
      → ((x : Thing) → R y x → x ≡ AValue k) → ((f : Breach) → In y f → ⊥) → Found e
  literal_found y v k h q i r one none = by_layer g j lawful names exports s y (Ok (designated.Value v)) h q
      (finds (designated.Value v) (AValue k) (thing_value i) r one none)

  number_found : {e : Expr} (at : Pos) (n : ℕ) → out-Expr e ≡ layer.Number at n → Found e
  number_found at n h = literal_found (layer.Number at n) (computed.Constant (value.Number (pos n)))
      (Scalar (Constant None (pos n))) h refl (kind_constant (value.Number (pos n))) rules.literal one none
    where
      one : (x : Thing) → R (layer.Number at n) x → x ≡ AValue (Scalar (Constant None (pos n)))
      one _ rules.literal = refl

      none : (f : Breach) → In (layer.Number at n) f → ⊥
      none f (inl (rules.no_operand (rules.an_inner i) m z)) = elim i [ ]
      none f (inr (x, an_operand (rules.an_inner i), b)) = elim i [ ]

  character_found : {e : Expr} (at : Pos) (c : ℕ) → out-Expr e ≡ layer.Char at c → Found e
  character_found at c h = literal_found (layer.Char at c)
      (computed.Constant (value.Scalar (record { of = char; base = char; number = pos c })))
      (Scalar (Constant (Some char) (pos c))) h refl
      (kind_constant (value.Scalar (record { of = char; base = char; number = pos c }))) rules.character one none
    where
      one : (x : Thing) → R (layer.Char at c) x → x ≡ AValue (Scalar (Constant (Some char) (pos c)))
      one _ rules.character = refl

      none : (f : Breach) → In (layer.Char at c) f → ⊥
      none f (inl (rules.no_operand (rules.an_inner i) m z)) = elim i [ ]
      none f (inr (x, an_operand (rules.an_inner i), b)) = elim i [ ]

  string_found : {e : Expr} (at : Pos) (text : List ℕ) → out-Expr e ≡ layer.Text at text → Found e
  string_found at text h = literal_found (layer.Text at text) (computed.Constant (value.Text text)) (Text text) h refl
      (kind_constant (value.Text text)) rules.string one none
    where
      one : (x : Thing) → R (layer.Text at text) x → x ≡ AValue (Text text)
      one _ rules.string = refl

      none : (f : Breach) → In (layer.Text at text) f → ⊥
      none f (inl (rules.no_operand (rules.an_inner i) m z)) = elim i [ ]
      none f (inr (x, an_operand (rules.an_inner i), b)) = elim i [ ]

  -- ---- sets

  abbrev RC : Option Ident → Pos → List Item → Fixed → Type 0
  RC name at items = FixedReads s.types names exports (layer.Set name at items)

  abbrev NoConst : Option Ident → Pos → List Item → Pos → Breach → Type 0
  NoConst name at items spot f = (x : Fixed) × RC name at items x
      × (((k : Kind) → x ≡ AConstant k → ⊥) × (f ≡ spot ! rule.NoConstant))

  abbrev FC : Option Ident → Pos → List Item → Breach → Type 0
  FC name at items f = FixedIn g j lawful names exports s knows (layer.Set name at items) f

  set_constant : {name : Option Ident} {at : Pos} {items : List Item} {x : Fixed} → RC name at items x → (k : Kind)
      × (x ≡ AConstant k)
  set_constant (fixed.fixed_set a) = (_, refl)
  set_constant (fixed.fixed_named_set e a) = (_, refl)

  set_found : {e : Expr} (name : Option Ident) (at : Pos) (items : List Item) → out-Expr e ≡ layer.Set name at items
      → ((i : Item) → Among i items → ItemSo g j lawful names exports s knows i) → Found e
  set_found name at items h i = by_layer g j lawful names exports s (layer.Set name at items)
      ((expr_layer g (opened g (layer.Set name at items))).means s) h refl
      (finds_as g j lawful E (λ y m. made m) (λ y r. reads r) into out
      (plain_finds g j lawful E (then_answer g j lawful E {N = λ k y. y ≡ AValue k} {D = λ k f. ⊥}
      (then_answer g j lawful E {N = λ x k. x ≡ AConstant k}
      {D = λ x f. ((k : Kind) → x ≡ AConstant k → ⊥) × (f ≡ spot ! rule.NoConstant)}
      (set_by g j lawful names exports s knows name at items i) (as_constant_answers g j lawful E spot))
      (λ v k w. means (designated.Value (computed.Constant v)) (AValue k) (thing_value (kind_is w)) refl (λ y e. e)
      (λ f b. b)))))
    where
      spot : Pos
      spot = (expr_layer g (opened g (layer.Set name at items))).fixed.at

      kind_is : {v : ConstantValue} {k : Kind} → IsConst v k → IsKind (computed.Constant v) k
      kind_is (is_const v) = kind_constant v

      made : {y : Thing} → (k : Kind) × ((x : Fixed) × RC name at items x × (x ≡ AConstant k)) × (y ≡ AValue k)
          → R (layer.Set name at items) y
      made (k, (x, r, e), q) = subst (R (layer.Set name at items)) (sym q)
          (rules.constant_set (subst (RC name at items) e r))

      reads : {y : Thing} → R (layer.Set name at items) y → (k : Kind)
          × ((x : Fixed) × RC name at items x × (x ≡ AConstant k)) × (y ≡ AValue k)
      reads (rules.constant_set {k = k} r) = (k, (AConstant k, r, refl), refl)

      into : (f : Breach) → (FC name at items f ⊎ NoConst name at items spot f)
          ⊎ ((k : Kind) × ((x : Fixed) × RC name at items x × (x ≡ AConstant k)) × ⊥) → In (layer.Set name at items) f
      into f (inl (inl (inl z))) = inl (rules.at_set z)
      into f (inl (inl (inr (x, m, b)))) = inl (rules.in_set m b)
      into f (inl (inr (x, r, (n, e)))) = let c = set_constant r in absurd (n c.0 c.1)
      into f (inr z) = absurd z.2

      out : (f : Breach) → In (layer.Set name at items) f → (FC name at items f ⊎ NoConst name at items spot f)
          ⊎ ((k : Kind) × ((x : Fixed) × RC name at items x × (x ≡ AConstant k)) × ⊥)
      out f (inl (rules.at_set z)) = inl (inl (inl z))
      out f (inl (rules.in_set {e = x} m b)) = inl (inl (inr (x, m, b)))
      out f (inl (rules.no_operand (rules.an_inner i) m z)) = elim i [ ]
      out f (inr (x, an_operand (rules.an_inner i), b)) = elim i [ ]

  -- ---- NOT and brackets

  not_found : {e : Expr} (at : Pos) (x : Expr) → out-Expr e ≡ layer.Not at x → Found x → Found e
  not_found at x h q = value_layer g j lawful names exports s (layer.Not at x)
      (negation g at (value_of g s (meanings_of g x))) h refl
      (λ k m. rules.negated m.1 m.2) reads into out
      (then_answer g j lawful E {N = Negates} {D = λ a f. ((k : Kind) → Negates a k → ⊥) × (f ≡ at ! rule.WrongType)}
      (valued g j lawful names exports s q) (λ v k i. negated_answers g j lawful E at i))
    where
      reads : (y : Thing) → R (layer.Not at x) y → (k : Kind) × ((a : Kind) × H x a × Negates a k) × (y ≡ AValue k)
      reads _ (rules.negated {a = a} {k = k} m n) = (k, (a, m, n), refl)

      into : (f : Breach) → V x f ⊎ ((a : Kind) × H x a × (((k : Kind) → Negates a k → ⊥) × (f ≡ at ! rule.WrongType)))
          → In (layer.Not at x) f
      into f (inl b) = operand_broken g j lawful names exports s (rules.an_inner parts.in_not) b
      into f (inr (a, m, (n, e))) = inl (subst (Fails s.types names exports (layer.Not at x)) (sym e)
          (rules.not_boolean m n))

      out : (f : Breach) → In (layer.Not at x) f → V x f
          ⊎ ((a : Kind) × H x a × (((k : Kind) → Negates a k → ⊥) × (f ≡ at ! rule.WrongType)))
      out f (inl (rules.no_operand (rules.an_inner parts.in_not) m z)) = inl (rules.mistaken m z)
      out _ (inl (rules.not_boolean {a = a} m n)) = inr (a, m, (n, refl))
      out f (inr (y, an_operand (rules.an_inner parts.in_not), b)) = inl (rules.broken b)

  brackets_found : {e : Expr} (at : Pos) (x : Expr) → out-Expr e ≡ layer.Bracketed at x → Found x → Found e
  brackets_found at x h q = value_layer g j lawful names exports s (layer.Bracketed at x)
      (value_of g s (meanings_of g x)) h refl (λ k m. rules.bracketed m) reads
      (λ f b. operand_broken g j lawful names exports s (rules.an_inner parts.in_brackets) b) out
      (valued g j lawful names exports s q)
    where
      reads : (y : Thing) → R (layer.Bracketed at x) y → (k : Kind) × H x k × (y ≡ AValue k)
      reads _ (rules.bracketed {k = k} m) = (k, m, refl)

      out : (f : Breach) → In (layer.Bracketed at x) f → V x f
      out f (inl (rules.no_operand (rules.an_inner parts.in_brackets) m z)) = rules.mistaken m z
      out f (inr (y, an_operand (rules.an_inner parts.in_brackets), b)) = rules.broken b

  -- ---- relations

  relation_found : {e : Expr} (a : Expr) (o : Operator RelOp) (b : Expr) → out-Expr e ≡ layer.Relation a o b → Found a
      → Found b → Found e
  relation_found a o b h p q = value_layer g j lawful names exports s (layer.Relation a o b)
      (operation_between g s.types (op.Relation o.op) o.pos (meanings_of g a).fixed.at (value_of g s (meanings_of g a))
      (meanings_of g b).fixed.at (value_of g s (meanings_of g b))) h refl
      (λ l m. rules.relation m.1.0 m.1.1 m.2) reads into out
      (subst (λ (t : Pos). Answers g j E IsKind Related Fails'
      (operation_between g s.types (op.Relation o.op) o.pos t (value_of g s (meanings_of g a))
      (meanings_of g b).fixed.at (value_of g s (meanings_of g b)))) (sym (at_is g a))
      (subst (λ (t : Pos). Answers g j E IsKind Related Fails'
      (operation_between g s.types (op.Relation o.op) o.pos (first a) (value_of g s (meanings_of g a)) t
      (value_of g s (meanings_of g b)))) (sym (at_is g b))
      (then_answer g j lawful E {N = λ c l. Makes s.types (op.Relation o.op) (operand c.0) (operand c.1) l}
      {D = λ c f. Misused s.types (op.Relation o.op) o.pos (first a) (first b) (operand c.0) (operand c.1) f}
      (both_answer g j lawful E (valued g j lawful names exports s p) (valued g j lawful names exports s q))
      (λ v c w. operated_answers g j lawful E s.types (op.Relation o.op) o.pos (first a) (first b) w.0 w.1))))
    where
      Related : Kind → Type 0
      Related l = (c : Kind × Kind) × (H a c.0 × H b c.1)
          × Makes s.types (op.Relation o.op) (operand c.0) (operand c.1) l

      Fails' : Breach → Type 0
      Fails' f = (V a f ⊎ V b f) ⊎ ((c : Kind × Kind) × (H a c.0 × H b c.1)
          × Misused s.types (op.Relation o.op) o.pos (first a) (first b) (operand c.0) (operand c.1) f)

      reads : (y : Thing) → R (layer.Relation a o b) y → (l : Kind) × Related l × (y ≡ AValue l)
      reads _ (rules.relation {x = x} {y = y} {k = l} m n r) = (l, ((x, y), (m, n), r), refl)

      into : (f : Breach) → Fails' f → In (layer.Relation a o b) f
      into f (inl (inl z)) = operand_broken g j lawful names exports s (rules.an_inner parts.left_side) z
      into f (inl (inr z)) = operand_broken g j lawful names exports s (rules.an_inner parts.right_side) z
      into f (inr (c, (m, n), u)) = inl (rules.at_relation m n u)

      out : (f : Breach) → In (layer.Relation a o b) f → Fails' f
      out f (inl (rules.no_operand (rules.an_inner parts.left_side) m z)) = inl (inl (rules.mistaken m z))
      out f (inl (rules.no_operand (rules.an_inner parts.right_side) m z)) = inl (inr (rules.mistaken m z))
      out f (inl (rules.at_relation {x = x} {y = y} m n u)) = inr ((x, y), (m, n), u)
      out f (inr (x, an_operand (rules.an_inner parts.left_side), z)) = inl (inl (rules.broken z))
      out f (inr (x, an_operand (rules.an_inner parts.right_side), z)) = inl (inr (rules.broken z))

  -- ---- operators one after another

  abbrev pub step : Pos → Result Computed g.Reported → Operand → Result Computed g.Reported
  step left v x = operation_between g s.types x.op x.spot left v (meanings_of g x.of).fixed.at
      (value_of g s (meanings_of g x.of))

  pub fold_factors : (left : Pos) (rest : List (Operator MulOp × Expr)) (v : Result Computed g.Reported)
      → fold (factor g s left) v (map (λ (x : Operator MulOp × Expr). (x.0, meanings_of g x.1)) rest)
      ≡ fold (step left) v (factors rest)
  fold_factors left [] v = refl
  fold_factors left (x ∷ xs) v = fold_factors left xs _

  pub fold_addends : (left : Pos) (rest : List (Operator AddOp × Expr)) (v : Result Computed g.Reported)
      → fold (addend g s left) v (map (λ (x : Operator AddOp × Expr). (x.0, meanings_of g x.1)) rest)
      ≡ fold (step left) v (addends rest)
  fold_addends left [] v = refl
  fold_addends left (x ∷ xs) v = fold_addends left xs _

  abbrev Chained : Kind → List Operand → Kind → Type 0
  Chained = Chain s.types names exports

  abbrev ChainBreaks : Pos → Kind → List Operand → Breach → Type 0
  ChainBreaks = ChainFails s.types names exports

  abbrev InChain : (Kind → Type 0) → (Breach → Type 0) → Pos → List Operand → Breach → Type 0
  InChain P Q left xs f = Q f ⊎ (((x : Operand) × Among x xs × V x.of f) ⊎ ((a : Kind) × P a × ChainBreaks left a xs f))

  abbrev Stepped : (Kind → Type 0) → Operand → Kind → Type 0
  Stepped P x c = (k : Kind × Kind) × (P k.0 × H x.of k.1) × Makes s.types x.op (operand k.0) (operand k.1) c

  abbrev StepFails : (Kind → Type 0) → (Breach → Type 0) → Pos → Operand → Breach → Type 0
  StepFails P Q left x f = (Q f ⊎ V x.of f)
      ⊎ ((k : Kind × Kind) × (P k.0 × H x.of k.1)
      × Misused s.types x.op x.spot left (first x.of) (operand k.0) (operand k.1) f)

  step_answers : {P : Kind → Type 0} {Q : Breach → Type 0} {v : Result Computed g.Reported} (left : Pos) (x : Operand)
      → Found x.of → Answers g j E IsKind P Q v
      → Answers g j E IsKind (Stepped P x) (StepFails P Q left x) (step left v x)
  step_answers {P = P} {Q = Q} {v = v} left x h a =
      subst (λ (at : Pos). Answers g j E IsKind (Stepped P x) (StepFails P Q left x)
      (operation_between g s.types x.op x.spot left v at (value_of g s (meanings_of g x.of)))) (sym (at_is g x.of))
      (then_answer g j lawful E {N = λ k c. Makes s.types x.op (operand k.0) (operand k.1) c}
      {D = λ k f. Misused s.types x.op x.spot left (first x.of) (operand k.0) (operand k.1) f}
      (both_answer g j lawful E a (valued g j lawful names exports s h))
      (λ p k i. operated_answers g j lawful E s.types x.op x.spot left (first x.of) i.0 i.1))

  module _ (P : Kind → Type 0) (Q : Breach → Type 0) where
    chain_of : (x : Operand) (xs : List Operand) (k : Kind) → (c : Kind) × Stepped P x c × Chained c xs k → (a : Kind)
        × P a × Chained a (x ∷ xs) k
    chain_of x xs k (c, (ab, (m, h), makes), r) = (ab.0, m, then h makes r)

    of_chain : {x : Operand} {xs : List Operand} {a k : Kind} → P a → Chained a (x ∷ xs) k → (c : Kind) × Stepped P x c
        × Chained c xs k
    of_chain {a = a} m (then {b = b} {c = c} h makes r) = (c, ((a, b), (m, h), makes), r)

    fails_of : (left : Pos) (x : Operand) (xs : List Operand) (f : Breach)
        → InChain (Stepped P x) (StepFails P Q left x) left xs f → InChain P Q left (x ∷ xs) f
    fails_of left x xs f (inl (inl (inl b))) = inl b
    fails_of left x xs f (inl (inl (inr b))) = inr (inl (x, here, b))
    fails_of left x xs f (inl (inr (k, (m, h), u))) = inr (inr (k.0, m, at_once h u))
    fails_of left x xs f (inr (inl (y, a, b))) = inr (inl (y, later a, b))
    fails_of left x xs f (inr (inr (c, (k, (m, h), makes), r))) = inr (inr (k.0, m, further h makes r))

    among_of : {left : Pos} {x y : Operand} {xs : List Operand} {f : Breach} → Among y (x ∷ xs) → V y.of f
        → InChain (Stepped P x) (StepFails P Q left x) left xs f
    among_of here b = inl (inl (inr b))
    among_of {y = y} (later a) b = inr (inl (y, a, b))

    chain_fails_of : {left : Pos} {x : Operand} {xs : List Operand} {a : Kind} {f : Breach} → P a
        → ChainBreaks left a (x ∷ xs) f → InChain (Stepped P x) (StepFails P Q left x) left xs f
    chain_fails_of {a = a} m (at_once {b = b} h u) = inl (inr ((a, b), (m, h), u))
    chain_fails_of {a = a} m (further {b = b} {c = c} h makes r) = inr (inr (c, ((a, b), (m, h), makes), r))

    of_fails : (left : Pos) (x : Operand) (xs : List Operand) (f : Breach) → InChain P Q left (x ∷ xs) f
        → InChain (Stepped P x) (StepFails P Q left x) left xs f
    of_fails left x xs f (inl b) = inl (inl (inl b))
    of_fails left x xs f (inr (inl (y, a, b))) = among_of a b
    of_fails left x xs f (inr (inr (a, m, r))) = chain_fails_of m r

    end_of : {a k : Kind} → P a → Chained a [] k → P k
    end_of m done = m

  chain_answers : (xs : List Operand) {P : Kind → Type 0} {Q : Breach → Type 0} {v : Result Computed g.Reported}
      (left : Pos) → ((x : Operand) → Among x xs → Found x.of) → Answers g j E IsKind P Q v
      → Answers g j E IsKind (λ k. (a : Kind) × P a × Chained a xs k) (InChain P Q left xs) (fold (step left) v xs)
  chain_answers [] {P = P} {Q = Q} left h a =
      exact g j lawful E {N = λ k. (a : Kind) × P a × Chained a [] k} {C = InChain P Q left []} (λ k m. (k, m, done))
      (λ k m. end_of P Q m.1 m.2) (λ f b. inl b)
      (λ f b. elim b [ inl c ↦ c | inr c ↦ elim c [ inl d ↦ elim d.1 [ ] | inr d ↦ elim d.2 [ ] ] ]) a
  chain_answers (x ∷ xs) {P = P} {Q = Q} left h a =
      exact g j lawful E {N = λ k. (a : Kind) × P a × Chained a (x ∷ xs) k} {C = InChain P Q left (x ∷ xs)}
      (chain_of P Q x xs) (λ k m. of_chain P Q m.1 m.2) (fails_of P Q left x xs) (of_fails P Q left x xs)
      (chain_answers xs {P = Stepped P x} {Q = StepFails P Q left x} left (λ y m. h y (later m))
      (step_answers left x (h x here) a))

  term_found : {e : Expr} (x : Expr) (rest : List (Operator MulOp × Expr)) → out-Expr e ≡ layer.Term x rest → Found x
      → ((y : Operand) → Among y (factors rest) → Found y.of) → Found e
  term_found x rest h q p = value_layer g j lawful names exports s (layer.Term x rest)
      (fold (step (first x)) (value_of g s (meanings_of g x)) (factors rest)) h
      (ap (λ (r : Result Computed g.Reported). of_computed r)
      (fold_factors (meanings_of g x).fixed.at rest (value_of g s (meanings_of g x))
      ∙ ap (λ (t : Pos). fold (step t) (value_of g s (meanings_of g x)) (factors rest)) (at_is g x)))
      (λ k m. rules.term m.1 m.2) reads into out
      (chain_answers (factors rest) (first x) p (valued g j lawful names exports s q))
    where
      reads : (y : Thing) → R (layer.Term x rest) y → (k : Kind) × ((a : Kind) × H x a × Chained a (factors rest) k)
          × (y ≡ AValue k)
      reads _ (rules.term {a = a} {k = k} m c) = (k, (a, m, c), refl)

      into : (f : Breach) → InChain (H x) (V x) (first x) (factors rest) f → In (layer.Term x rest) f
      into f (inl b) = operand_broken g j lawful names exports s (rules.an_inner parts.first_factor) b
      into f (inr (inl (y, m, b))) = operand_broken g j lawful names exports s (rules.an_inner (parts.other_factor m)) b
      into f (inr (inr (a, m, c))) = inl (rules.in_term m c)

      out : (f : Breach) → In (layer.Term x rest) f → InChain (H x) (V x) (first x) (factors rest) f
      out f (inl (rules.no_operand (rules.an_inner parts.first_factor) m z)) = inl (rules.mistaken m z)
      out f (inl (rules.no_operand (rules.an_inner (parts.other_factor {x = y} a)) m z)) =
          inr (inl (y, a, rules.mistaken m z))
      out f (inl (rules.in_term {a = a} m c)) = inr (inr (a, m, c))
      out f (inr (y, an_operand (rules.an_inner parts.first_factor), b)) = inl (rules.broken b)
      out f (inr (_, an_operand (rules.an_inner (parts.other_factor {x = y} a)), b)) = inr (inl (y, a, rules.broken b))

  sum_found : {e : Expr} (x : Expr) (rest : List (Operator AddOp × Expr)) → out-Expr e ≡ layer.Sum None x rest → Found x
      → ((y : Operand) → Among y (addends rest) → Found y.of) → Found e
  sum_found x rest h q p = value_layer g j lawful names exports s (layer.Sum None x rest)
      (fold (step (first x)) (value_of g s (meanings_of g x)) (addends rest)) h
      (ap (λ (r : Result Computed g.Reported). of_computed r)
      (fold_addends (meanings_of g x).fixed.at rest (value_of g s (meanings_of g x))
      ∙ ap (λ (t : Pos). fold (step t) (value_of g s (meanings_of g x)) (addends rest)) (at_is g x)))
      (λ k m. rules.sum m.1 m.2) reads into out
      (chain_answers (addends rest) (first x) p (valued g j lawful names exports s q))
    where
      reads : (y : Thing) → R (layer.Sum None x rest) y → (k : Kind) × ((a : Kind) × H x a × Chained a (addends rest) k)
          × (y ≡ AValue k)
      reads _ (rules.sum {a = a} {k = k} m c) = (k, (a, m, c), refl)

      into : (f : Breach) → InChain (H x) (V x) (first x) (addends rest) f → In (layer.Sum None x rest) f
      into f (inl b) = operand_broken g j lawful names exports s (rules.an_inner parts.first_addend) b
      into f (inr (inl (y, m, b))) = operand_broken g j lawful names exports s (rules.an_inner (parts.other_addend m)) b
      into f (inr (inr (a, m, c))) = inl (rules.in_sum m c)

      out : (f : Breach) → In (layer.Sum None x rest) f → InChain (H x) (V x) (first x) (addends rest) f
      out f (inl (rules.no_operand (rules.an_inner parts.first_addend) m z)) = inl (rules.mistaken m z)
      out f (inl (rules.no_operand (rules.an_inner (parts.other_addend {x = y} a)) m z)) =
          inr (inl (y, a, rules.mistaken m z))
      out f (inl (rules.in_sum {a = a} m c)) = inr (inr (a, m, c))
      out f (inr (y, an_operand (rules.an_inner parts.first_addend), b)) = inl (rules.broken b)
      out f (inr (_, an_operand (rules.an_inner (parts.other_addend {x = y} a)), b)) = inr (inl (y, a, rules.broken b))

  abbrev HasSigned : Operator Sign → Expr → Kind → Type 0
  HasSigned sign x b = (a : Kind) × H x a × SignMakes sign.op (operand a) b

  abbrev SignFails : Operator Sign → Expr → Breach → Type 0
  SignFails sign x f = V x f ⊎ ((a : Kind) × H x a
      × Misapplied (MaySign sign.op (operand a)) (SignMakes sign.op (operand a)) sign.pos rule.WrongType f)

  signed_found : {e : Expr} (sign : Operator Sign) (x : Expr) (rest : List (Operator AddOp × Expr))
      → out-Expr e ≡ layer.Sum (Some sign) x rest → Found x → ((y : Operand) → Among y (addends rest) → Found y.of)
      → Found e
  signed_found sign x rest h q p = value_layer g j lawful names exports s (layer.Sum (Some sign) x rest)
      (fold (step sign.pos) (with_sign g sign.op sign.pos (value_of g s (meanings_of g x))) (addends rest)) h
      (ap (λ (r : Result Computed g.Reported). of_computed r)
      (fold_addends sign.pos rest (with_sign g sign.op sign.pos (value_of g s (meanings_of g x)))))
      (λ k m. rules.signed_sum m.1.1 m.1.2 m.2) reads into out
      (chain_answers (addends rest) sign.pos p
      (then_answer g j lawful E {N = λ a b. SignMakes sign.op (operand a) b}
      {D = λ a f. Misapplied (MaySign sign.op (operand a)) (SignMakes sign.op (operand a)) sign.pos rule.WrongType
      f}
      (valued g j lawful names exports s q) (λ v c w. signed_answers g j lawful E sign.op sign.pos w)))
    where
      reads : (y : Thing) → R (layer.Sum (Some sign) x rest) y → (k : Kind)
          × ((b : Kind) × HasSigned sign x b × Chained b (addends rest) k) × (y ≡ AValue k)
      reads _ (rules.signed_sum {a = a} {b = b} {k = k} m t c) = (k, (b, (a, m, t), c), refl)

      into : (f : Breach) → InChain (HasSigned sign x) (SignFails sign x) sign.pos (addends rest) f
          → In (layer.Sum (Some sign) x rest) f
      into f (inl (inl b)) = operand_broken g j lawful names exports s (rules.an_inner parts.first_addend) b
      into f (inl (inr (a, m, z))) = inl (rules.at_sign m z)
      into f (inr (inl (y, m, b))) = operand_broken g j lawful names exports s (rules.an_inner (parts.other_addend m)) b
      into f (inr (inr (b, (a, m, t), c))) = inl (rules.in_signed_sum m t c)

      out : (f : Breach) → In (layer.Sum (Some sign) x rest) f
          → InChain (HasSigned sign x) (SignFails sign x) sign.pos (addends rest) f
      out f (inl (rules.no_operand (rules.an_inner parts.first_addend) m z)) = inl (inl (rules.mistaken m z))
      out f (inl (rules.no_operand (rules.an_inner (parts.other_addend {x = y} a)) m z)) =
          inr (inl (y, a, rules.mistaken m z))
      out f (inl (rules.at_sign {a = a} m z)) = inl (inr (a, m, z))
      out f (inl (rules.in_signed_sum {a = a} {b = b} m t c)) = inr (inr (b, (a, m, t), c))
      out f (inr (y, an_operand (rules.an_inner parts.first_addend), b)) = inl (inl (rules.broken b))
      out f (inr (_, an_operand (rules.an_inner (parts.other_addend {x = y} a)), b)) = inr (inl (y, a, rules.broken b))

  -- ---- designators

  abbrev Selecting : Thing → List Selector → Thing → Type 0
  Selecting = Selected s.types names exports

  abbrev Selecting1 : Thing → Selector → Thing → Type 0
  Selecting1 x y z = Selects s.types names exports x (out-Selector y) z

  abbrev SelectingFails : Thing → List Selector → Breach → Type 0
  SelectingFails = SelectionFails s.types names exports

  -- the indexes among selectors
  abbrev IndexIn : List Selector → Expr → Type 0
  IndexIn ss e = (y : Selector) × (at : Pos) × Among y ss × (out-Selector y ≡ layer.Index at e)

  abbrev InSelectors : (Thing → Type 0) → (Breach → Type 0) → List Selector → Breach → Type 0
  InSelectors P Q ss f = Q f ⊎ (((e : Expr) × IndexIn ss e × V e f) ⊎ ((x : Thing) × P x × SelectingFails x ss f))

  -- what one selector makes of what is found
  abbrev SelectedOf : (Thing → Type 0) → Selector → Thing → Type 0
  SelectedOf P y z = (x : Thing) × P x × Selecting1 x y z

  abbrev OneFails : (Thing → Type 0) → (Breach → Type 0) → Selector → Breach → Type 0
  OneFails P Q y f = Q f ⊎ (((e : Expr) × (at : Pos) × (out-Selector y ≡ layer.Index at e) × V e f)
      ⊎ ((x : Thing) × P x × Misselected s.types names exports x (out-Selector y) f))

  select_by : {x z : Thing} (y : Selector) (l : Selector-F Expr Selector Designator Item) → out-Selector y ≡ l
      → Selects s.types names exports x l z → Selecting1 x y z
  select_by {x = x} {z = z} y l h q = subst
      (λ (l : Selector-F Expr Selector Designator Item). Selects s.types names exports x l z) (sym h) q

  by_select : {x z : Thing} (y : Selector) (l : Selector-F Expr Selector Designator Item) → out-Selector y ≡ l
      → Selecting1 x y z → Selects s.types names exports x l z
  by_select {x = x} {z = z} y l h q = subst
      (λ (l : Selector-F Expr Selector Designator Item). Selects s.types names exports x l z) h q

  misselect_by : {x : Thing} {f : Breach} (y : Selector) (l : Selector-F Expr Selector Designator Item)
      → out-Selector y ≡ l → Misselected s.types names exports x l f
      → Misselected s.types names exports x (out-Selector y) f
  misselect_by {x = x} {f = f} y l h q = subst
      (λ (l : Selector-F Expr Selector Designator Item). Misselected s.types names exports x l f) (sym h) q

  by_misselect : {x : Thing} {f : Breach} (y : Selector) (l : Selector-F Expr Selector Designator Item)
      → out-Selector y ≡ l → Misselected s.types names exports x (out-Selector y) f
      → Misselected s.types names exports x l f
  by_misselect {x = x} {f = f} y l h q = subst
      (λ (l : Selector-F Expr Selector Designator Item). Misselected s.types names exports x l f) h q

  field_one : {P : Thing → Type 0} {Q : Breach → Type 0} {d : Result Designated (Meaningless g.Reported)} (y : Selector)
      (at : Pos) (name : Ident) → out-Selector y ≡ layer.Field at name → Finds g j lawful E P Q d
      → Finds g j lawful E (SelectedOf P y) (OneFails P Q y) ((picks g y).picks s d)
  field_one {P = P} {Q = Q} {d = d} y at name h a =
      subst (Finds g j lawful E (SelectedOf P y) (OneFails P Q y))
      (sym (ap (λ (m : Picks g.Reported). m.picks s d) (picks_is g y (layer.Field at name) h)))
      (finds_as g j lawful E (λ z m. (m.0, m.1, select_by y (layer.Field at name) h (rules.field m.2)))
      (λ z m. (m.0, m.1, picked (by_select y (layer.Field at name) h m.2))) into out
      (field_finds g j lawful names exports s knows at name a))
    where
      picked : {x z : Thing} → Selects s.types names exports x (layer.Field at name) z
          → PicksName s.types exports name x (Known z)
      picked (rules.field p) = p

      refused : {x : Thing} (f : Breach) → FieldFails g j lawful names exports s knows at name x f
          → Misselected s.types names exports x (layer.Field at name) f
      refused {x = x} f (inl (n, e)) = subst (Misselected s.types names exports x (layer.Field at name)) (sym e)
          (rules.no_components n)
      refused f (inr (st, p, m)) = rules.at_field p m

      parted : {x : Thing} (f : Breach) → Misselected s.types names exports x (layer.Field at name) f
          → FieldFails g j lawful names exports s knows at name x f
      parted _ (rules.no_components n) = inl (n, refl)
      parted f (rules.at_field {s = st} p m) = inr (st, p, m)

      into : (f : Breach) → Q f ⊎ ((x : Thing) × P x × FieldFails g j lawful names exports s knows at name x f)
          → OneFails P Q y f
      into f (inl b) = inl b
      into f (inr (x, m, z)) = inr (inr (x, m, misselect_by y (layer.Field at name) h (refused f z)))

      out : (f : Breach) → OneFails P Q y f → Q f
          ⊎ ((x : Thing) × P x × FieldFails g j lawful names exports s knows at name x f)
      out f (inl b) = inl b
      out f (inr (inl (e, at', q, b))) = let clash = sym h ∙ q in absurd cc
      out f (inr (inr (x, m, z))) = inr (x, m, parted f (by_misselect y (layer.Field at name) h z))

  abbrev element_in : Expr → Selector-F Expr Selector Designator Item → Expr
  element_in e (layer.Index at x) = x
  element_in e other = e

  same_index : {at at' : Pos} {x e : Expr} (y : Selector) → out-Selector y ≡ layer.Index at x
      → out-Selector y ≡ layer.Index at' e → x ≡ e
  same_index {x = x} y h q = ap (element_in x) (sym h ∙ q)

  abbrev IndexOf : (Thing → Type 0) → Expr → (TypeNo × TypeNo) × Kind → Type 0
  IndexOf P e p = ((w : Thing) × P w × Indexes s.types w p.0.0 p.0.1) × H e p.1

  index_one : {P : Thing → Type 0} {Q : Breach → Type 0} {d : Result Designated (Meaningless g.Reported)} (y : Selector)
      (at : Pos) (e : Expr) → out-Selector y ≡ layer.Index at e → Found e → Finds g j lawful E P Q d
      → Finds g j lawful E (SelectedOf P y) (OneFails P Q y) ((picks g y).picks s d)
  index_one {P = P} {Q = Q} {d = d} y at e h q a =
      subst (Finds g j lawful E (SelectedOf P y) (OneFails P Q y))
      (sym (ap (λ (m : Picks g.Reported). m.picks s d) (picks_is g y (layer.Index at e) h)))
      (finds_as g j lawful E made by_made into out
      (subst (λ (t : Pos). Finds g j lawful E Made Fails' (index_at g s.types at d t (value_of g s (meanings_of g e))))
      (sym (at_is g e)) (index_finds g j lawful names exports s knows at (first e) a
      (valued g j lawful names exports s q))))
    where
      Made : Thing → Type 0
      Made z = (p : (TypeNo × TypeNo) × Kind) × IndexOf P e p × ElementOf g j lawful names exports s knows at p z

      Fails' : Breach → Type 0
      Fails' f = ((Q f ⊎ ((w : Thing) × P w × NoElements g j lawful names exports s knows at w f)) ⊎ V e f)
          ⊎ ((p : (TypeNo × TypeNo) × Kind) × IndexOf P e p
          × IndexFails g j lawful names exports s knows at (first e) p f)

      made : (z : Thing) → Made z → SelectedOf P y z
      made z (p, ((w, m, x), k), (b, c)) = (
        w,
        m,
        select_by y (layer.Index at e) h
            (subst (Selects s.types names exports w (layer.Index at e)) (sym c) (rules.element x k b)),
      )

      parts : {w z : Thing} → P w → Selects s.types names exports w (layer.Index at e) z → Made z
      parts {w = w} m (rules.element {i = i} {t = t} {k = k} x c b) = (((i, t), k), ((w, m, x), c), (b, refl))

      by_made : (z : Thing) → SelectedOf P y z → Made z
      by_made z (w, m, x) = parts m (by_select y (layer.Index at e) h x)

      into : (f : Breach) → Fails' f → OneFails P Q y f
      into f (inl (inl (inl b))) = inl b
      into f (inl (inl (inr (w, m, (n, c))))) =
          inr (inr (
            w,
            m,
            misselect_by y (layer.Index at e) h
                (subst (Misselected s.types names exports w (layer.Index at e)) (sym c) (rules.no_elements n)),
          ))
      into f (inl (inr b)) = inr (inl (e, at, h, b))
      into f (inr (p, ((w, m, x), k), z)) = inr (inr (w, m, misselect_by y (layer.Index at e) h (rules.at_index x k z)))

      refused : {w : Thing} (f : Breach) → P w → Misselected s.types names exports w (layer.Index at e) f → Fails' f
      refused {w = w} _ m (rules.no_elements n) = inl (inl (inr (w, m, (n, refl))))
      refused {w = w} f m (rules.at_index {i = i} {t = t} {k = k} x c z) = inr (((i, t), k), ((w, m, x), c), z)

      out : (f : Breach) → OneFails P Q y f → Fails' f
      out f (inl b) = inl (inl (inl b))
      out f (inr (inl (x, at', c, b))) = inl (inr (subst (λ (x : Expr). V x f) (same_index y c h) b))
      out f (inr (inr (w, m, z))) = refused f m (by_misselect y (layer.Index at e) h z)

  -- selectors one after another
  abbrev SelectsAll : (Thing → Type 0) → (Breach → Type 0) → List Selector → Result Designated (Meaningless g.Reported)
      → Type 0
  SelectsAll P Q ss d = Finds g j lawful E (λ z. (x : Thing) × P x × Selecting x ss z) (InSelectors P Q ss) d

  selected_more : {P : Thing → Type 0} {Q : Breach → Type 0} {d : Result Designated (Meaningless g.Reported)}
      (y : Selector) (ss : List Selector) → SelectsAll (SelectedOf P y) (OneFails P Q y) ss d
      → SelectsAll P Q (y ∷ ss) d
  selected_more {P = P} {Q = Q} y ss a = finds_as g j lawful E (λ z m. (m.1.0, m.1.1, rules.component m.1.2 m.2))
      (λ z m. parted m.1 m.2) into out a
    where
      parted : {x z : Thing} → P x → Selecting x (y ∷ ss) z → (w : Thing) × SelectedOf P y w × Selecting w ss z
      parted {x = x} m (rules.component {y = w} q r) = (w, (x, m, q), r)

      into : (f : Breach) → InSelectors (SelectedOf P y) (OneFails P Q y) ss f → InSelectors P Q (y ∷ ss) f
      into f (inl (inl b)) = inl b
      into f (inl (inr (inl (e, at, q, b)))) = inr (inl (e, (y, at, here, q), b))
      into f (inl (inr (inr (x, m, z)))) = inr (inr (x, m, rules.at_next z))
      into f (inr (inl (e, (w, at, a, q), b))) = inr (inl (e, (w, at, later a, q), b))
      into f (inr (inr (w, (x, m, q), z))) = inr (inr (x, m, rules.behind q z))

      among : {e : Expr} {w : Selector} {at : Pos} {f : Breach} → Among w (y ∷ ss) → out-Selector w ≡ layer.Index at e
          → V e f → InSelectors (SelectedOf P y) (OneFails P Q y) ss f
      among {e = e} {at = at} here q b = inl (inr (inl (e, at, q, b)))
      among {e = e} {w = w} {at = at} (later a) q b = inr (inl (e, (w, at, a, q), b))

      failing : {x : Thing} {f : Breach} → P x → SelectingFails x (y ∷ ss) f
          → InSelectors (SelectedOf P y) (OneFails P Q y) ss f
      failing {x = x} m (rules.at_next z) = inl (inr (inr (x, m, z)))
      failing {x = x} m (rules.behind {y = w} q z) = inr (inr (w, (x, m, q), z))

      out : (f : Breach) → InSelectors P Q (y ∷ ss) f → InSelectors (SelectedOf P y) (OneFails P Q y) ss f
      out f (inl b) = inl (inl b)
      out f (inr (inl (e, (w, at, a, q), b))) = among a q b
      out f (inr (inr (x, m, z))) = failing m z

  selected_none : {P : Thing → Type 0} {Q : Breach → Type 0} {d : Result Designated (Meaningless g.Reported)}
      → Finds g j lawful E P Q d → SelectsAll P Q [] d
  selected_none {P = P} {Q = Q} a = finds_as g j lawful E (λ z m. (z, m, rules.whole)) (λ z m. parted m.1 m.2)
      (λ f b. inl b) (λ f b. out f b) a
    where
      parted : {x z : Thing} → P x → Selecting x [] z → P z
      parted m rules.whole = m

      out : (f : Breach) → InSelectors P Q [] f → Q f
      out f (inl b) = b
      out f (inr (inl (e, (w, at, a, q), b))) = elim a [ ]
      out f (inr (inr (x, m, z))) = elim z [ ]

  selectors_found : {ss : List Selector} {P : Thing → Type 0} {Q : Breach → Type 0}
      {d : Result Designated (Meaningless g.Reported)} → AreSelectorTrees ss → ((e : Expr) → IndexIn ss e → Found e)
      → Finds g j lawful E P Q d → SelectsAll P Q ss (fold (λ x p. p.picks s x) d (map (picks g) ss))
  selectors_found no_selector h a = selected_none a
  selectors_found {P = P} {Q = Q} (a_field {s = y} {ss = ss} {at = at} {name = name} q r) h a =
      selected_more y ss (selectors_found {ss = ss} {P = SelectedOf P y} {Q = OneFails P Q y} r
      (λ e x. h e (x.0, x.1, later x.2, x.3)) (field_one y at name q a))
  selectors_found {P = P} {Q = Q} (an_index {s = y} {ss = ss} {at = at} {x = e} q i r) h a =
      selected_more y ss (selectors_found {ss = ss} {P = SelectedOf P y} {Q = OneFails P Q y} r
      (λ e x. h e (x.0, x.1, later x.2, x.3)) (index_one y at e q (h e (y, at, here, q)) a))

  abbrev DesignatorFails : Designator → Breach → Type 0
  DesignatorFails d f = InSelectors (λ x. names (out-Designator d).name ≡ Known x)
      (Misnamed (out-Designator d).name.pos (names (out-Designator d).name)) (out-Designator d).selectors f

  denoted_finds : (d : Designator) → AreSelectorTrees (out-Designator d).selectors
      → ((e : Expr) → IndexIn (out-Designator d).selectors e → Found e)
      → Finds g j lawful E (Denotes s.types names exports d) (DesignatorFails d) ((head g d).means s)
  denoted_finds d i h = subst (Finds g j lawful E (Denotes s.types names exports d) (DesignatorFails d))
      (sym (ap (λ (m : Meant g.Reported). m.means s) (head_is g d)))
      (finds_as g j lawful E (λ x m. rules.named m.1 m.2) (λ x m. parted m) (λ f b. b) (λ f b. b)
      (selectors_found i h (named_finds g j lawful names exports s knows (out-Designator d).name)))
    where
      parted : {y : Thing} → Denotes s.types names exports d y → (x : Thing) × (names (out-Designator d).name ≡ Known x)
          × Selecting x (out-Designator d).selectors y
      parted (rules.named {x = x} m r) = (x, m, r)

  designator_in : {d : Designator} {args : Option (List Expr)} (f : Breach) → DesignatorFails d f
      → In (layer.Use d args) f
  designator_in f (inl m) = inl (rules.at_name m)
  designator_in f (inr (inl (e, (y, at, a, q), b))) = operand_broken g j lawful names exports s (rules.as_index a q) b
  designator_in f (inr (inr (x, m, z))) = inl (rules.at_selector m z)

  designator_out : {d : Designator} (f : Breach) → In (layer.Use d None) f → DesignatorFails d f
  designator_out f (inl (rules.no_operand (rules.as_index {s = y} {at = at} {e = e} a q) m z)) =
      inr (inl (e, (y, at, a, q), rules.mistaken m z))
  designator_out f (inl (rules.no_operand (rules.an_inner i) m z)) = elim i [ ]
  designator_out f (inr (x, an_operand (rules.an_inner i), b)) = elim i [ ]
  designator_out f (inl (rules.at_name m)) = inl m
  designator_out f (inl (rules.at_selector {x = x} m z)) = inr (inr (x, m, z))
  designator_out f (inr (x, an_operand (rules.as_index {s = y} {at = at} {e = e} a q), b)) =
      inr (inl (e, (y, at, a, q), rules.broken b))

  name_found : {e : Expr} (d : Designator) → out-Expr e ≡ layer.Use d None
      → AreSelectorTrees (out-Designator d).selectors → ((e : Expr) → IndexIn (out-Designator d).selectors e → Found e)
      → Found e
  name_found d h i q = by_layer g j lawful names exports s (layer.Use d None) ((head g d).means s) h refl
      (finds_as g j lawful E (λ x m. rules.designated m) (λ x m. parted m) (λ f b. designator_in f b)
      (λ f b. designator_out f b) (denoted_finds d i q))
    where
      parted : {x : Thing} → R (layer.Use d None) x → Denotes s.types names exports d x
      parted (rules.designated m) = m

  abbrev CallOf : Designator → List Expr → Kind → Type 0
  CallOf d args k = (x : Thing) × Denotes s.types names exports d x × Calls s.types names exports x args k

  abbrev CallBreaks : Designator → List Expr → Breach → Type 0
  CallBreaks d args f = (DesignatorFails d f
      ⊎ ((x : Thing) × Denotes s.types names exports d x
      × Miscalled s.types names exports (out-Designator d).name.pos x args f))
      ⊎ AnyBroken g j lawful names exports s args f

  call_found : {e : Expr} (d : Designator) (args : List Expr) → out-Expr e ≡ layer.Use d (Some args)
      → AreSelectorTrees (out-Designator d).selectors → ((e : Expr) → IndexIn (out-Designator d).selectors e → Found e)
      → ((x : Expr) → Among x args → Found x) → Found e
  call_found d args h i q a = value_layer g j lawful names exports s (layer.Use d (Some args))
      (call_in_expression g s (head g d).fixed.at ((head g d).means s) (map (meanings_of g) args)) h refl
      (λ k m. rules.called m.1 m.2) reads into out
      (subst (λ (t : Pos). Answers g j E IsKind (CallOf d args) (CallBreaks d args)
      (call_in_expression g s t ((head g d).means s) (map (meanings_of g) args))) (sym (head_at g d))
      (calls_answer g j lawful names exports s (out-Designator d).name.pos args (denoted_finds d i q) a))
    where
      reads : (y : Thing) → R (layer.Use d (Some args)) y → (k : Kind) × CallOf d args k × (y ≡ AValue k)
      reads _ (rules.called {x = x} {k = k} m c) = (k, (x, m, c), refl)

      into : (f : Breach) → CallBreaks d args f → In (layer.Use d (Some args)) f
      into f (inl (inl b)) = designator_in f b
      into f (inl (inr (x, m, z))) = inl (rules.at_call m z)
      into f (inr (x, m, b)) = inr (x, an_argument m, b)

      out : (f : Breach) → In (layer.Use d (Some args)) f → CallBreaks d args f
      out f (inl (rules.no_operand (rules.as_index {s = y} {at = at} {e = e} a q) m z)) =
          inl (inl (inr (inl (e, (y, at, a, q), rules.mistaken m z))))
      out f (inl (rules.no_operand (rules.an_inner i) m z)) = elim i [ ]
      out f (inr (x, an_operand (rules.an_inner i), b)) = elim i [ ]
      out f (inl (rules.at_name m)) = inl (inl (inl m))
      out f (inl (rules.at_selector {x = x} m z)) = inl (inl (inr (inr (x, m, z))))
      out f (inl (rules.at_call {x = x} m z)) = inl (inr (x, m, z))
      out f (inr (x, an_operand (rules.as_index {s = y} {at = at} {e = e} a q), b)) =
          inl (inl (inr (inl (e, (y, at, a, q), rules.broken b))))
      out f (inr (x, an_argument m, b)) = inr (x, m, b)

  -- ---- all expressions

  not_both : {at at' : Pos} {name : Ident} {e : Expr} (y : Selector) → out-Selector y ≡ layer.Field at name
      → out-Selector y ≡ layer.Index at' e → ⊥
  not_both y h q = let clash = sym h ∙ q in absurd cc

  mutual
    found : {e : Expr} → IsTree e → Found e
    found (tree_number {at = at} {n = n} h) = number_found at n h
    found (tree_character {at = at} {c = c} h) = character_found at c h
    found (tree_string {at = at} {text = text} h) = string_found at text h
    found (tree_set {name = name} {at = at} {items = items} h i) = set_found name at items h (λ x m. fixed_item i x m)
    found (tree_name {d = d} h i) = name_found d h i (λ e x. found_index i e x.0 x.1 x.2 x.3)
    found (tree_call {d = d} {args = args} h i a) =
        call_found d args h i (λ e x. found_index i e x.0 x.1 x.2 x.3) (λ x m. found_all a x m)
    found (tree_not {at = at} {x = x} h i) = not_found at x h (found i)
    found (tree_brackets {at = at} {x = x} h i) = brackets_found at x h (found i)
    found (tree_term {x = x} {rest = rest} h i o) = term_found x rest h (found i) (λ y m. found_operands o y m)
    found (tree_sum {sign = None} {x = x} {rest = rest} h i o) =
        sum_found x rest h (found i) (λ y m. found_operands o y m)
    found (tree_sum {sign = Some sign} {x = x} {rest = rest} h i o) =
        signed_found sign x rest h (found i) (λ y m. found_operands o y m)
    found (tree_relation {a = a} {b = b} {o = o} h i k) = relation_found a o b h (found i) (found k)

    found_all : {xs : List Expr} → AreTrees xs → (x : Expr) → Among x xs → Found x
    found_all no_expression x m = elim m [ ]
    found_all (one_expression i r) _ here = found i
    found_all (one_expression i r) x (later m) = found_all r x m

    found_operands : {xs : List Operand} → AreOperandTrees xs → (x : Operand) → Among x xs → Found x.of
    found_operands no_operand x m = elim m [ ]
    found_operands (one_operand i r) _ here = found i
    found_operands (one_operand i r) x (later m) = found_operands r x m

    found_index : {ss : List Selector} → AreSelectorTrees ss → (e : Expr) (y : Selector) (at : Pos) → Among y ss
        → out-Selector y ≡ layer.Index at e → Found e
    found_index no_selector e y at m q = elim m [ ]
    found_index (a_field h r) e y at here q = absurd (not_both y h q)
    found_index (a_field h r) e y at (later m) q = found_index r e y at m q
    found_index (an_index h i r) e y at here q = subst Found (same_index y h q) (found i)
    found_index (an_index h i r) e y at (later m) q = found_index r e y at m q

    -- the same expressions, if they have to be constant
    fixed_found : {e : Expr} → IsTree e → Constant' e
    fixed_found (tree_number {at = at} {n = n} h) = number_fixed g j lawful names exports s knows at n h
    fixed_found (tree_character {at = at} {c = c} h) = character_fixed g j lawful names exports s knows at c h
    fixed_found (tree_string {at = at} {text = text} h) = string_fixed g j lawful names exports s knows at text h
    fixed_found (tree_set {name = name} {at = at} {items = items} h i) =
        set_fixed g j lawful names exports s knows name at items h (λ x m. fixed_item i x m)
    fixed_found (tree_name {d = d} h i) = name_fixed g j lawful names exports s knows d h
    fixed_found (tree_call {d = d} {args = args} h i a) =
        call_fixed g j lawful names exports s knows d args h (λ x m. fixed_all a x m) (λ x m. found_all a x m)
    fixed_found (tree_not {at = at} {x = x} h i) = not_fixed g j lawful names exports s knows at x h (fixed_found i)
    fixed_found (tree_brackets {at = at} {x = x} h i) =
        brackets_fixed g j lawful names exports s knows at x h (fixed_found i)
    fixed_found (tree_term {x = x} {rest = rest} h i o) =
        term_fixed g j lawful names exports s knows x rest h (fixed_found i) (λ y m. fixed_operands o y m)
    fixed_found (tree_sum {sign = None} {x = x} {rest = rest} h i o) =
        sum_fixed g j lawful names exports s knows x rest h (fixed_found i) (λ y m. fixed_operands o y m)
    fixed_found (tree_sum {sign = Some sign} {x = x} {rest = rest} h i o) =
        signed_fixed g j lawful names exports s knows sign x rest h (fixed_found i) (λ y m. fixed_operands o y m)
    fixed_found (tree_relation {a = a} {b = b} {o = o} h i k) =
        relation_fixed g j lawful names exports s knows a o b h (fixed_found i) (fixed_found k)

    fixed_all : {xs : List Expr} → AreTrees xs → (x : Expr) → Among x xs → Constant' x
    fixed_all no_expression x m = elim m [ ]
    fixed_all (one_expression i r) _ here = fixed_found i
    fixed_all (one_expression i r) x (later m) = fixed_all r x m

    fixed_operands : {xs : List Operand} → AreOperandTrees xs → (x : Operand) → Among x xs → Constant' x.of
    fixed_operands no_operand x m = elim m [ ]
    fixed_operands (one_operand i r) _ here = fixed_found i
    fixed_operands (one_operand i r) x (later m) = fixed_operands r x m

    fixed_item : {is : List Item} → AreItemTrees is → (i : Item) → Among i is
        → ItemSo g j lawful names exports s knows i
    fixed_item no_item i m = elim m [ ]
    fixed_item (one_item l n r) i here = single_so g j lawful names exports s knows i (fixed_found l) n
    fixed_item (one_item l n r) i (later m) = fixed_item r i m
    fixed_item (one_range {high = high} l e k r) i here =
        range_so g j lawful names exports s knows i high (fixed_found l) (fixed_found k) e
    fixed_item (one_range l e k r) i (later m) = fixed_item r i m

  pub expression_found : (e : Expr) → Found e
  expression_found e = found (tree e)

  pub exactly_fixed : (e : Expr) → Answers g j E IsConst (λ k. Fixes s.types names exports e (AConstant k))
      (rules.BrokenAsConstant s.types names exports e) (constant g s (meanings_of g e).fixed)
  exactly_fixed e = exact g j lawful E (λ k m. m) (λ k m. m) into out
      (const_valued g j lawful names exports s knows (fixed_found (tree e)))
    where
      into : (f : Breach) → ConstBroken g j lawful names exports s knows e f
          → rules.BrokenAsConstant s.types names exports e f
      into f (inl b) = rules.broken_constant b
      into f (inr (x, m, (n, q))) = subst (rules.BrokenAsConstant s.types names exports e) (sym q)
          (rules.not_constant m n)

      out : (f : Breach) → rules.BrokenAsConstant s.types names exports e f
          → ConstBroken g j lawful names exports s knows e f
      out f (rules.broken_constant b) = inl b
      out _ (rules.not_constant {x = x} m n) = inr (x, m, (n, refl))

  pub exactly : (e : Expr) → IsExact g j names exports s e
  exactly e = valued g j lawful names exports s (expression_found e)

  -- a designator, with what is broken in it
  pub designator_found : (d : Designator)
      → Finds g j lawful E (Denotes s.types names exports d) (In (layer.Use d None)) ((head g d).means s)
  designator_found d = finds_as g j lawful E (λ x m. m) (λ x m. m) (λ f b. designator_in f b)
      (λ f b. designator_out f b) (denoted_finds d (selector_trees d) (λ e x. expression_found e))
