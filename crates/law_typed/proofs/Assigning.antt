-- Assignments, as they stand in a typed tree.
use Rattle.std.proofs.Common.{◌≡◌, ℕ, length, Bool, true, false, not, List, [], ◌∷◌, Option, Some, None, Result, Ok, refl, sym, ap, subst, ◌∙◌}
use Rattle.m2_rule.specs.declared.rule.Rule.{Rule}
use Rattle.m2_rule.specs.declared.rule.Rule.TheVariants as rule
use Rattle.m2_tree.specs.declared.pos.Pos.{Pos}
use Rattle.m2_tree.specs.declared.name.Ident.{Ident}
use Rattle.m2_tree.specs.declared.expr.Expr.{Expr, Expr-F, out-Expr}
use Rattle.m2_tree.specs.declared.expr.Expr.TheOpen as layer
use Rattle.m2_tree.specs.declared.expr.Selector.{Selector}
use Rattle.m2_tree.specs.declared.expr.Designator.{Designator}
use Rattle.m2_tree.specs.declared.expr.Item.{Item}
use Rattle.typed_tree.specs.declared.types.TypeNo.{TypeNo}
use Rattle.typed_tree.specs.declared.computed.Place.{Place}
use Rattle.typed_tree.specs.declared.computed.TypedExpr.{TypedExpr}
use Rattle.typed_tree.specs.declared.meaning.Value.TheVariants as value
use Rattle.typed_tree.specs.declared.meaning.Standard.{Standard}
use Rattle.typed_tree.specs.declared.shape.Scalar.{Scalar as Range}
use Rattle.typed_tree.specs.declared.shape.Shape.{Shape}
use Rattle.typed_tree.specs.declared.shape.Shape.TheVariants as shape
use Rattle.typed_tree.specs.declared.statement.TypedStmt.{TypedStmt}
use Rattle.typed_tree.specs.declared.statement.TypedStmt.TheVariants as step
use Rattle.typed_tree.specs.declared.known_types.Types.{Types}
use Rattle.typed_tree.specs.Types.{are_same}
use Rattle.check_scope.specs.declared.meaningless.Meaningless.{Meaningless}
use Rattle.check_scope.specs.declared.meaningless.Meaningless.TheVariants as meaningless
use Rattle.check_scope.specs.declared.scope.Scope.{Scope}
use Rattle.check_scope.specs.Elaborated.{Gathers, reported_where, ◌▷◌}
use Rattle.check_value.specs.declared.class.Class.{Class}
use Rattle.check_value.specs.declared.computed.Computed.{Computed}
use Rattle.check_value.specs.declared.computed.Computed.TheVariants as computed
use Rattle.check_value.specs.declared.computed.Designated.{Designated}
use Rattle.check_value.specs.declared.computed.Designated.TheVariants as designated
use Rattle.check_value.specs.declared.places.Accepted.{Accepted}
use Rattle.check_value.specs.declared.places.Accepted.TheVariants as accepted
use Rattle.check_value.specs.Suits.{value_suited, text_fits, whole_suited, of_expr, suited_in, value_for_place}
use Rattle.check_value.specs.declared.effect.Target.{Target}
use Rattle.check_value.specs.declared.effect.Target.TheVariants as target
use Rattle.check_value.specs.Effects.{target_of, store_statement, assignment_to}
use Rattle.check_stmt_parts.specs.Simple.{assignment}
use Rattle.check_value.specs.Values.{loaded_as, value_at_place}
use Rattle.check_expr.specs.Meanings.{Meant, meanings_of, head, value_of, value_standing, of_computed, expr_layer}
use Rattle.def_typing.specs.Parts.{Operand, factors, addends}
use Rattle.def_typing.specs.Shapes.{shape_at}
use Rattle.def_typing.specs.Operators as operators
use Rattle.def_typing.specs.Operators.{Kind, Scalar, Set, Text, Whole, operand, Makes, SignMakes, Negates}
use Rattle.def_typing.specs.Things.{Thing, Standing, Taken, content, content_of}
use Rattle.def_typing.specs.Constants as fixing
use Rattle.def_typing.specs.Constants.{AConstant, FixedReads}
use Rattle.def_typing.specs.Functions.{result_of, Applies, applied, Converts, converted_constant, converted_value}
use Rattle.def_typing.specs.Expressions as typing
use Rattle.def_typing.specs.Expressions.{Has, Stands, Reads, Chain, taken}
use Rattle.law_typing.specs.Judging.{Judges}
use Rattle.law_typing.specs.Exact.{Knows, IsKind, kind_constant, kind_whole}
use Rattle.law_typing.proofs.Combining.{Lawful}
use Rattle.law_typing.proofs.Shaping.{class_is, class_of}
use Rattle.law_typing.proofs.Places.{meant_is, opened}
use Rattle.law_typing.proofs.Trees.{IsTree, tree_number, tree_character, tree_string, tree_set, tree_name, tree_call, tree_not, tree_brackets, tree_term, tree_sum, tree_relation, tree}
use Rattle.def_typed.specs.Named.{Named, Variable}
use Rattle.def_typed.specs.Expressions.{Names, Gives}
use Rattle.def_typed.specs.Statements as rules
use Rattle.def_typed.specs.Statements.{Site, LiesAt, IsVariable}
use Rattle.law_typed.specs.Typed.{IsOne, IsNamed, named_of, Grasps}
use Rattle.law_typed.proofs.Meant.{IfMeant, meant, not_meant, if_as, if_also, if_then, if_both, if_reported, if_sorted, if_equal}
use Rattle.law_typed.proofs.Values.{IsValue, value_is}
use Rattle.law_typed.proofs.Arguments.{same_by}
use Rattle.law_typed.proofs.Designators.{is_constant, given, IsCodeless, head_codeless}
use Rattle.law_typed.proofs.Expressions.{expression_typed, designator_named}

-- ---- which expressions may stand for an array or a record

abbrev Bare : Expr-F Expr Selector Designator Item → Type 0
Bare (layer.Use d None) = Unit {0}
Bare (layer.Bracketed at e) = Unit {0}
Bare (layer.Term e []) = Unit {0}
Bare (layer.Sum None e []) = Unit {0}
Bare other = ⊥

result_simple : (t u : TypeNo) (z : Option Shape) → Whole u ≡ result_of t z → ⊥
result_simple t u None e = absurd cc
result_simple t u (Some (shape.Record fs)) e = absurd cc
result_simple t u (Some (shape.Scalar r)) e = absurd cc
result_simple t u (Some shape.Set) e = absurd cc
result_simple t u (Some (shape.Array i v)) e = absurd cc
result_simple t u (Some (shape.Procedure h)) e = absurd cc
result_simple t u (Some (shape.Open v)) e = absurd cc

module _ (types : Types) (names : Ident → Standing) (exports : ℕ → Ident → Standing) where
  not_made : {o : _} {a b k : Kind} {t : TypeNo} → Makes types o a b k → Whole t ≡ k → ⊥
  not_made (operators.scalar m) e = absurd cc
  not_made (operators.constant_set m) e = absurd cc
  not_made (operators.constant_relation m) e = absurd cc
  not_made (operators.constant_member m n i) e = absurd cc
  not_made (operators.set m n) e = absurd cc
  not_made (operators.relation m n) e = absurd cc
  not_made (operators.member m n i c) e = absurd cc
  not_made (operators.routines m n) e = absurd cc

  -- what operators make is no array
  not_chained : {a k : Kind} {xs : List Operand} {t : TypeNo} → ((u : TypeNo) → Whole u ≡ a → ⊥)
      → Chain types names exports a xs k → Whole t ≡ k → ⊥
  not_chained n typing.done e = n _ e
  not_chained n (typing.then h m c) e = not_chained (λ u q. not_made m q) c e

  not_negated : {a k : Kind} {t : TypeNo} → Negates a k → Whole t ≡ k → ⊥
  not_negated operators.not_constant e = absurd cc
  not_negated operators.not_value e = absurd cc

  not_signed : {o : _} {a k : Kind} {t : TypeNo} → SignMakes o a k → Whole t ≡ k → ⊥
  not_signed (operators.signed m i) e = absurd cc

  not_applied : {f : Standard} {a k : Kind} {t : TypeNo} → Applies f a k → Whole t ≡ k → ⊥
  not_applied (applied m c) e = absurd cc

  not_converted : {r : Range} {a k : Kind} {t : TypeNo} → Converts r a k → Whole t ≡ k → ⊥
  not_converted (converted_constant m i) e = absurd cc
  not_converted (converted_value m) e = absurd cc

  not_called : {x : Thing} {args : List Expr} {k : Kind} {t : TypeNo} → typing.Calls types names exports x args k
      → Whole t ≡ k → ⊥
  not_called (typing.of_function {t = u} h r a) e = result_simple u _ (shape_at types u) e
  not_called (typing.of_one h m) e = not_applied m e
  not_called (typing.of_type h n b) e = absurd cc
  not_called (typing.converted h n q m) e = not_converted m e
  not_called (typing.greatest_index h) e = absurd cc

  not_fixed : {name : Option Ident} {at : Pos} {items : List Item} {k : Kind} {t : TypeNo}
      → FixedReads types names exports (layer.Set name at items) (AConstant k) → Whole t ≡ k → ⊥
  not_fixed (fixing.fixed_set a) e = absurd cc
  not_fixed (fixing.fixed_named_set h a) e = absurd cc

  term_bare : (e : Expr) {a k : Kind} {t : TypeNo} (rest : _) → Chain types names exports a (factors rest) k
      → Whole t ≡ k → Bare (layer.Term e rest)
  term_bare e [] c q = tt
  term_bare e (x ∷ xs) (typing.then h m c) q = absurd (not_chained (λ u w. not_made m w) c q)

  sum_bare : (e : Expr) {a k : Kind} {t : TypeNo} (rest : _) → Chain types names exports a (addends rest) k
      → Whole t ≡ k → Bare (layer.Sum None e rest)
  sum_bare e [] c q = tt
  sum_bare e (x ∷ xs) (typing.then h m c) q = absurd (not_chained (λ u w. not_made m w) c q)

  whole_bare : {y : Expr-F Expr Selector Designator Item} {x : Thing} (t : TypeNo) → Reads types names exports y x
      → Taken types x (Whole t) → Bare y
  whole_bare t typing.literal e = absurd cc
  whole_bare t typing.character e = absurd cc
  whole_bare t typing.string e = absurd cc
  whole_bare t (typing.constant_set r) e = absurd (not_fixed r e)
  whole_bare t (typing.designated m) e = tt
  whole_bare t (typing.called m c) e = absurd (not_called c e)
  whole_bare t (typing.bracketed h) e = tt
  whole_bare t (typing.negated h n) e = absurd (not_negated n e)
  whole_bare t (typing.term {e = x} {rest = rest} h c) e = term_bare x rest c e
  whole_bare t (typing.sum {e = x} {rest = rest} h c) e = sum_bare x rest c e
  whole_bare t (typing.signed_sum h m c) e = absurd (not_chained (λ u w. not_signed m w) c e)
  whole_bare t (typing.relation h i m) e = absurd (not_made m e)

  has_bare : {e : Expr} {t : TypeNo} → Has types names exports e (Whole t) → Bare (out-Expr e)
  has_bare {t = t} (taken (typing.as_written r) k) = whole_bare t r k

content_whole : (t u : TypeNo) (z : Option Shape) → content_of t z ≡ Whole u → t ≡ u
content_whole t u None e = cc e
content_whole t u (Some (shape.Record fs)) e = cc e
content_whole t u (Some (shape.Scalar r)) e = absurd cc
content_whole t u (Some shape.Set) e = absurd cc
content_whole t u (Some (shape.Array i v)) e = cc e
content_whole t u (Some (shape.Procedure h)) e = absurd cc
content_whole t u (Some (shape.Open v)) e = cc e

module _ (g : Gathers) (j : Judges g) (lawful : Lawful g j) (exports : ℕ → Ident → Standing) (w : Site)
    (s : Scope g.Reported) (knows : Knows g j w.spot.names exports s) (grasps : Grasps g w.senses s) where
  abbrev V : Expr → Computed → Type 0
  V = IsValue g j lawful w.spot.names exports w.senses s knows

  pub value_so : (e : Expr) → IfMeant (V e) (value_of g s (meanings_of g e))
  value_so e = value_is g j lawful w.spot.names exports w.senses s knows e
      (expression_typed g j lawful w.spot.names exports w.senses s knows grasps e).coded

  abbrev Codeless : Designated → Type 0
  Codeless = IsCodeless g j lawful w.spot.names exports w.senses s knows grasps

  abbrev Nd : Designator → Named → Type 0
  Nd = Names s.types w.spot.names exports w.senses

  -- ---- where arrays and records are

  -- what is answered is an array or a record that is there
  pub record IsLaid (y : Expr-F Expr Selector Designator Item) (v : Computed) : Type 0 where
    pub lies : (t : TypeNo) (p : Place) → v ≡ computed.Whole t p → LiesAt s.types exports w y t p
    pub alone : (t : TypeNo) (p : Place) → LiesAt s.types exports w y t p → content s.types t ≡ Whole t
        → v ≡ computed.Whole t p

  laid_standing : {P : Computed → Type 0} {r : Result Computed g.Reported} (at : Pos) → IfMeant P r
      → IfMeant P (value_standing g s.types at (of_computed r))
  laid_standing at (meant v p) = meant v p
  laid_standing at (not_meant r) = not_meant r

  abbrev LaidSo : Expr → Type 0
  LaidSo e = IfMeant (IsLaid (out-Expr e)) (value_of g s (meanings_of g e))

  laid_at : (e : Expr) (y : Expr-F Expr Selector Designator Item) → out-Expr e ≡ y
      → IfMeant (IsLaid y) (value_standing g s.types (meanings_of g e).fixed.at ((expr_layer g (opened g y)).means s))
      → LaidSo e
  laid_at e y h m = subst (λ (y : Expr-F Expr Selector Designator Item). IfMeant (IsLaid y)
      (value_of g s (meanings_of g e))) (sym h)
      (subst (λ (d : Result Designated (Meaningless g.Reported)). IfMeant (IsLaid y)
      (value_standing g s.types (meanings_of g e).fixed.at d))
      (sym (ap (λ (m : Meant g.Reported). m.means s) (meant_is g e y h))) m)

  lies_bare : {y : Expr-F Expr Selector Designator Item} {t : TypeNo} {p : Place} → LiesAt s.types exports w y t p
      → Bare y
  lies_bare (rules.variable m) = tt
  lies_bare (rules.bracketed m) = tt
  lies_bare (rules.factor m) = tt
  lies_bare (rules.term m) = tt

  -- what is no designator, no term and no sum of one part is no array
  not_laid : (e : Expr) (y : Expr-F Expr Selector Designator Item) → out-Expr e ≡ y → (Bare y → ⊥) → LaidSo e
  not_laid e y h n = if_as (λ v i. record {
    lies = λ t p q. absurd (is_whole i q);
    alone =
        λ t p m c. absurd (n (subst Bare h (lies_bare m)));
  }) (value_so e)
    where
      kind_is_whole : {t : TypeNo} {p : Place} {k : Kind} → IsKind (computed.Whole t p) k → k ≡ Whole t
      kind_is_whole (kind_whole t p) = refl

      is_whole : {v : Computed} {t : TypeNo} {p : Place} → V e v → v ≡ computed.Whole t p → ⊥
      is_whole {v = v} {t = t} {p = p} i q =
          n (subst Bare h (has_bare s.types w.spot.names exports
          (subst (Has s.types w.spot.names exports e) (kind_is_whole (subst (λ (v : Computed). IsKind v i.kind) q i.is))
          i.has)))

  not_array : {d : Designator} {x : Designated} (v : Computed) → IsNamed (Nd d) x
      → ((u : TypeNo) (p : Place) → named_of x ≡ Some (Variable u p) → ⊥)
      → ((u : TypeNo) (p : Place) → v ≡ computed.Whole u p → ⊥) → IsLaid (layer.Use d None) v
  not_array {d = d} v n a f = record { lies = λ u p e. absurd (f u p e); alone = λ u p m e. other m }
    where
      other : {u : TypeNo} {p : Place} → LiesAt s.types exports w (layer.Use d None) u p → v ≡ computed.Whole u p
      other {u = u} {p = p} (rules.variable m) = absurd (a u p (n.alone (Variable u p) m))

  name_at : {d : Designator} (at : Pos) (x : Designated) → IsNamed (Nd d) x → Codeless x
      → IfMeant (IsLaid (layer.Use d None)) (value_at_place g s.types at x)
  name_at {d = d} at (designated.Variable t p) n c =
      subst (λ (c : Class). IfMeant {R = g.Reported} (IsLaid (layer.Use d None)) (Ok (loaded_as t p c)))
      (sym (class_is s.types t)) (by_shape (shape_at s.types t) refl)
    where
      same : {u : TypeNo} {q : Place} → LiesAt s.types exports w (layer.Use d None) u q
          → ◌≡◌ {A = Option Named} (Some (Variable t p)) (Some (Variable u q))
      same {u = u} {q = q} (rules.variable m) = n.alone (Variable u q) m

      simple : (v : Computed) → ((u : TypeNo) (q : Place) → v ≡ computed.Whole u q → ⊥)
          → (content s.types t ≡ Whole t → ⊥) → IsLaid (layer.Use d None) v
      simple v f c = record {
        lies = λ u q e. absurd (f u q e);
        alone = λ u q m e. let z : t ≡ u = let y = same m in
            cc y in absurd (c (subst (λ (u : TypeNo). content s.types u ≡ Whole u) (sym z) e));
      }

      whole : IsLaid (layer.Use d None) (computed.Whole t p)
      whole = record {
        lies = λ u q e. rules.variable (n.holds (Variable u q) (cc e));
        alone = λ u q m e. let y =
            same m in cc y;
      }

      by_shape : (z : Option Shape) → shape_at s.types t ≡ z
          → IfMeant {R = g.Reported} (IsLaid (layer.Use d None)) (Ok (loaded_as t p (class_of z)))
      by_shape None q = meant _ whole
      by_shape (Some (shape.Record fs)) q = meant _ whole
      by_shape (Some (shape.Array k u)) q = meant _ whole
      by_shape (Some (shape.Open u)) q = meant _ whole
      by_shape (Some (shape.Scalar r)) q = meant _
          (simple _ (λ u z e. absurd cc) (λ c. let e = sym (ap (content_of t) q) ∙ c in absurd cc))
      by_shape (Some shape.Set) q = meant _ (simple _ (λ u z e. absurd cc)
          (λ c. let e = sym (ap (content_of t) q) ∙ c in absurd cc))
      by_shape (Some (shape.Procedure h)) q =
          meant _ (simple _ (λ u z e. absurd cc) (λ c. let e = sym (ap (content_of t) q) ∙ c in absurd cc))
  name_at at (designated.Value _) n (is_constant v) = meant _ (not_array _ n (λ u p e. absurd cc) (λ u p e. absurd cc))
  name_at at (designated.Open t u) n c = meant _ (not_array _ n (λ v p e. absurd cc) (λ v p e. absurd cc))
  name_at at (designated.Procedure p) n c = meant _ (not_array _ n (λ v q e. absurd cc) (λ v q e. absurd cc))
  name_at at (designated.Type t) n c = if_reported g at rule.WrongType
  name_at at (designated.Nested p) n c = if_reported g at rule.NoProcedureValue
  name_at at (designated.Standard f) n c = if_reported g at rule.NoProcedureValue
  name_at at (designated.Module k) n c = if_reported g at rule.WrongType

  name_laid : (e : Expr) (d : Designator) → out-Expr e ≡ layer.Use d None → LaidSo e
  name_laid e d h = laid_at e (layer.Use d None) h
      (by_head (if_also (designator_named g j lawful w.spot.names exports w.senses s knows grasps d)
      (head_codeless g j lawful w.spot.names exports w.senses s knows grasps d)))
    where
      by_head : {m : Result Designated (Meaningless g.Reported)} → IfMeant (λ x. IsNamed (Nd d) x × Codeless x) m
          → IfMeant (IsLaid (layer.Use d None)) (value_standing g s.types (meanings_of g e).fixed.at m)
      by_head (meant x p) = name_at _ x p.0 p.1
      by_head (not_meant (meaningless.Broken r)) = not_meant r
      by_head (not_meant (meaningless.Headless true r)) = not_meant _
      by_head (not_meant (meaningless.Headless false r)) = not_meant r

  -- where a part of one is, it is
  laid_part : {x y : Expr-F Expr Selector Designator Item} {v : Computed}
      → ((t : TypeNo) (p : Place) → LiesAt s.types exports w x t p → LiesAt s.types exports w y t p)
      → ((t : TypeNo) (p : Place) → LiesAt s.types exports w y t p → LiesAt s.types exports w x t p) → IsLaid x v
      → IsLaid y v
  laid_part f h i = record { lies = λ t p q. f t p (i.lies t p q); alone = λ t p m c. i.alone t p (h t p m) c }

  laid : {e : Expr} → IsTree e → LaidSo e
  laid {e = e} (tree_number {at = at} {n = n} h) = not_laid e (layer.Number at n) h (λ b. b)
  laid {e = e} (tree_character {at = at} {c = c} h) = not_laid e (layer.Char at c) h (λ b. b)
  laid {e = e} (tree_string {at = at} {text = text} h) = not_laid e (layer.Text at text) h (λ b. b)
  laid {e = e} (tree_set {name = name} {at = at} {items = items} h i) = not_laid e (layer.Set name at items) h (λ b. b)
  laid {e = e} (tree_name {d = d} h i) = name_laid e d h
  laid {e = e} (tree_call {d = d} {args = args} h i a) = not_laid e (layer.Use d (Some args)) h (λ b. b)
  laid {e = e} (tree_not {at = at} {x = x} h i) = not_laid e (layer.Not at x) h (λ b. b)
  laid {e = e} (tree_brackets {at = at} {x = x} h i) =
      laid_at e (layer.Bracketed at x) h (laid_standing _
      (if_as (λ v m. laid_part (λ t p l. rules.bracketed l) (λ t p l. out l) m) (laid i)))
    where
      out : {t : TypeNo} {p : Place} → LiesAt s.types exports w (layer.Bracketed at x) t p
          → LiesAt s.types exports w (out-Expr x) t p
      out (rules.bracketed l) = l
  laid {e = e} (tree_term {x = x} {rest = []} h i o) =
      laid_at e (layer.Term x []) h (laid_standing _
      (if_as (λ v m. laid_part (λ t p l. rules.factor l) (λ t p l. out l) m) (laid i)))
    where
      out : {t : TypeNo} {p : Place} → LiesAt s.types exports w (layer.Term x []) t p
          → LiesAt s.types exports w (out-Expr x) t p
      out (rules.factor l) = l
  laid {e = e} (tree_term {x = x} {rest = y ∷ ys} h i o) = not_laid e (layer.Term x (y ∷ ys)) h (λ b. b)
  laid {e = e} (tree_sum {sign = None} {x = x} {rest = []} h i o) =
      laid_at e (layer.Sum None x []) h (laid_standing _
      (if_as (λ v m. laid_part (λ t p l. rules.term l) (λ t p l. out l) m) (laid i)))
    where
      out : {t : TypeNo} {p : Place} → LiesAt s.types exports w (layer.Sum None x []) t p
          → LiesAt s.types exports w (out-Expr x) t p
      out (rules.term l) = l
  laid {e = e} (tree_sum {sign = None} {x = x} {rest = y ∷ ys} h i o) =
      not_laid e (layer.Sum None x (y ∷ ys)) h (λ b. b)
  laid {e = e} (tree_sum {sign = Some sign} {x = x} {rest = rest} h i o) =
      not_laid e (layer.Sum (Some sign) x rest) h (λ b. b)
  laid {e = e} (tree_relation {a = a} {b = b} {o = o} h i k) = not_laid e (layer.Relation a o b) h (λ b. b)

  -- ---- assignments

  -- what is known of a value
  pub record IsGiven (e : Expr) (v : Computed) : Type 0 where
    pub equal : value_of g s (meanings_of g e) ≡ Ok v
    pub value : V e v
    pub laid : IsLaid (out-Expr e) v

  given_is : (e : Expr) → IfMeant (IsGiven e) (value_of g s (meanings_of g e))
  given_is e = if_as (λ v p. record { equal = p.0; value = p.1.0; laid = p.1.1 })
      (if_also (if_equal (value_of g s (meanings_of g e))) (if_also (value_so e) (laid (tree e))))

  abbrev G : TypeNo → Expr → TypedExpr → Type 0
  G = Gives s.types w.spot.names exports w.senses

  pub yielded : (broken : Rule) (t : TypeNo) (at : Pos) (e : Expr)
      → IfMeant (IsOne (G t e)) (value_of g s (meanings_of g e) ▷ value_suited g broken s.types t at)
  yielded broken t at e = given g j lawful w.spot.names exports w.senses s knows grasps broken t at e
      (expression_typed g j lawful w.spot.names exports w.senses s knows grasps e).coded

  pub yielded_at : (broken : Rule) (t : TypeNo) (at : Pos) (e : Expr) (v : Computed)
      → value_of g s (meanings_of g e) ≡ Ok v → IfMeant (IsOne (G t e)) (value_suited g broken s.types t at v)
  yielded_at broken t at e v q = subst (λ (r : Result Computed g.Reported). IfMeant (IsOne (G t e))
      (r ▷ value_suited g broken s.types t at)) q (yielded broken t at e)

  abbrev As : Designator → Expr → TypedStmt → Type 0
  As = rules.Assigns s.types exports w

  -- what is stored in a variable
  data Stores (t : TypeNo) (p : Place) (e : Expr) : TypedStmt → Type 0 where
    stores_value : {x : TypedExpr} → (content s.types t ≡ Whole t → ⊥) → G t e x → Stores t p e (step.Assign p t x)
    stores_copy : {q : Place} → content s.types t ≡ Whole t → LiesAt s.types exports w (out-Expr e) t q
        → Stores t p e (step.Copy p q t)
    stores_text : {text : List ℕ} → content s.types t ≡ Whole t → Has s.types w.spot.names exports e (Text text)
        → Stores t p e (step.CopyText p t text)

  stored_as : {e : Expr} {t u : TypeNo} {p q : Place} {y : TypedStmt} → Some (Variable t p) ≡ Some (Variable u q)
      → Stores u q e y → Stores t p e y
  stored_as {e = e} {t = t} {u = u} {p = p} {q = q} {y = y} h z = let a : u ≡ t = cc h in let b : q ≡ p = cc h in
      subst (λ (t : TypeNo). Stores t p e y) a (subst (λ (q : Place). Stores u q e y) b z)

  stored : {d : Designator} {e : Expr} {t : TypeNo} {p : Place} {y : TypedStmt}
      → IsNamed (Nd d) (designated.Variable t p) → As d e y → Stores t p e y
  stored n (rules.value {t = u} {place = q} m c g) = stored_as (n.alone (Variable u q) m) (stores_value c g)
  stored n (rules.copy {t = u} {to = q} m c l) = stored_as (n.alone (Variable u q) m) (stores_copy c l)
  stored n (rules.text {t = u} {to = q} m c h) = stored_as (n.alone (Variable u q) m) (stores_text c h)

  kind_text : {text : List ℕ} {k : Kind} → IsKind (computed.Constant (value.Text text)) k → k ≡ Text text
  kind_text (kind_constant v) = refl

  kind_of_whole : {t : TypeNo} {p : Place} {k : Kind} → IsKind (computed.Whole t p) k → k ≡ Whole t
  kind_of_whole (kind_whole t p) = refl

  abbrev Storing : TypeNo → Place → Expr → Result Accepted g.Reported → Type 0
  Storing t p e r = IfMeant (IsOne (Stores t p e)) (r ▷ λ a. Ok (store_statement t p a))

  storing_value : (t : TypeNo) (p : Place) {e : Expr} (at : Pos) (v : Computed) → IsGiven e v
      → (content s.types t ≡ Whole t → ⊥) → Storing t p e (of_expr (value_suited g rule.NotAssignable s.types t at v))
  storing_value t p {e = e} at v i n = by (yielded_at rule.NotAssignable t at e v i.equal)
    where
      one : {x : TypedExpr} → IsOne (G t e) x → IsOne (Stores t p e) (step.Assign p t x)
      one {x = x} o = record { holds = stores_value n o.holds; alone = λ y z. alone z }
        where
          alone : {y : TypedStmt} → Stores t p e y → y ≡ step.Assign p t x
          alone (stores_value {x = z} c g) = cc (o.alone z g)
          alone (stores_copy c l) = absurd (n c)
          alone (stores_text c h) = absurd (n c)

      by : {r : Result TypedExpr g.Reported} → IfMeant (IsOne (G t e)) r → Storing t p e (of_expr r)
      by (meant x o) = meant _ (one o)
      by (not_meant r) = not_meant r

  storing_whole : (t : TypeNo) (p : Place) {e : Expr} (at : Pos) (v : Computed) → IsGiven e v
      → content s.types t ≡ Whole t → Storing t p e (whole_suited g rule.NotAssignable s.types t at v)
  storing_whole t p {e = e} at (computed.Constant (value.Text text)) i c = by (text_fits s.types t (length text))
    where
      alone : {y : TypedStmt} → Stores t p e y → y ≡ step.CopyText p t text
      alone (stores_value n g) = absurd (n c)
      alone (stores_copy {q = q} k l) = absurd cc (i.laid.alone t q l k)
      alone (stores_text {text = z} k h) = let a = i.value.one (Text z) h in cc (a, kind_text i.value.is)

      one : IsOne (Stores t p e) (step.CopyText p t text)
      one = record {
        holds = stores_text c (subst (Has s.types w.spot.names exports e) (kind_text i.value.is)
            i.value.has);
        alone = λ y z. alone z;
      }

      by : (b : Bool) → Storing t p e (reported_where g (not b) at rule.NotAssignable (Ok (accepted.Text text)))
      by true = meant _ one
      by false = not_meant _
  storing_whole t p {e = e} at (computed.Whole u q) i c = by (are_same u t) (λ z. same_by {t = u} {u = t} z)
    where
      alone : u ≡ t → {y : TypedStmt} → Stores t p e y → y ≡ step.Copy p q t
      alone h (stores_value n g) = absurd (n c)
      alone h (stores_copy {q = z} k l) = cc (i.laid.alone t z l k)
      alone h (stores_text {text = z} k m) = let a = i.value.one (Text z) m in absurd cc (a, kind_of_whole i.value.is)

      one : u ≡ t → IsOne (Stores t p e) (step.Copy p q t)
      one h = record { holds = stores_copy c (i.laid.lies t q (cc h)); alone = λ y z. alone h z }

      by : (b : Bool) → (not b ≡ false → u ≡ t)
          → Storing t p e (reported_where g (not b) at rule.NotAssignable (Ok (accepted.Whole q)))
      by true h = meant _ (one (h refl))
      by false h = not_meant _
  storing_whole t p at (computed.Constant (value.Number n)) i c = not_meant _
  storing_whole t p at (computed.Constant (value.Scalar n)) i c = not_meant _
  storing_whole t p at (computed.Constant (value.Set n)) i c = not_meant _
  storing_whole t p at (computed.Scalar u b x) i c = not_meant _
  storing_whole t p at (computed.Set x) i c = not_meant _
  storing_whole t p at (computed.Routine u x) i c = not_meant _
  storing_whole t p at (computed.Procedure x) i c = not_meant _
  storing_whole t p at computed.Untaken i c = not_meant _

  storing : (t : TypeNo) (p : Place) {e : Expr} (at : Pos) (v : Computed) → IsGiven e v
      → Storing t p e (value_for_place g rule.NotAssignable s.types t at v)
  storing t p {e = e} at v i = subst (λ (c : Class). Storing t p e (suited_in g rule.NotAssignable s.types t at v c))
      (sym (class_is s.types t)) (by_shape (shape_at s.types t) refl)
    where
      by_shape : (z : Option Shape) → shape_at s.types t ≡ z
          → Storing t p e (suited_in g rule.NotAssignable s.types t at v (class_of z))
      by_shape None q = storing_whole t p at v i (ap (content_of t) q)
      by_shape (Some (shape.Record fs)) q = storing_whole t p at v i (ap (content_of t) q)
      by_shape (Some (shape.Array k u)) q = storing_whole t p at v i (ap (content_of t) q)
      by_shape (Some (shape.Open u)) q = storing_whole t p at v i (ap (content_of t) q)
      by_shape (Some (shape.Scalar r)) q = storing_value t p at v i
          (λ c. let e = sym (ap (content_of t) q) ∙ c in absurd cc)
      by_shape (Some shape.Set) q = storing_value t p at v i (λ c. let e = sym (ap (content_of t) q) ∙ c in absurd cc)
      by_shape (Some (shape.Procedure h)) q =
          storing_value t p at v i (λ c. let e = sym (ap (content_of t) q) ∙ c in absurd cc)

  -- the left side
  abbrev Targets : Designator → Target → Type 0
  Targets d (target.Variable t p) = IsNamed (Nd d) (designated.Variable t p)
  Targets d target.Open = Unit {0}

  targeted : {d : Designator} (at : Pos) (x : Designated) → IsNamed (Nd d) x → IfMeant (Targets d) (target_of g at x)
  targeted at (designated.Variable t p) n = meant _ n
  targeted at (designated.Open t u) n = meant _ tt
  targeted at (designated.Value v) n = not_meant _
  targeted at (designated.Type t) n = not_meant _
  targeted at (designated.Procedure p) n = not_meant _
  targeted at (designated.Nested p) n = not_meant _
  targeted at (designated.Standard f) n = not_meant _
  targeted at (designated.Module k) n = not_meant _

  assigned_to : {d : Designator} {e : Expr} (x : Target) (at : Pos) (v : Computed) → Targets d x → IsGiven e v
      → IfMeant (IsOne (As d e)) (assignment_to g s.types x at v)
  assigned_to target.Open at v n i = not_meant _
  assigned_to {d = d} {e = e} (target.Variable t p) at v n i =
      if_as (λ y o. record { holds = into o.holds; alone = λ z a. o.alone z (stored n a) }) (storing t p at v i)
    where
      m : Nd d (Variable t p)
      m = n.holds (Variable t p) refl

      into : {y : TypedStmt} → Stores t p e y → As d e y
      into (stores_value c g) = rules.value m c g
      into (stores_copy c l) = rules.copy m c l
      into (stores_text c h) = rules.text m c h

  pub assigned : (d : Designator) (e : Expr) → IfMeant (IsOne (As d e)) (assignment g s (head g d) (meanings_of g e))
  assigned d e = if_then (if_both g (if_then
      (if_sorted g _ rule.WrongType (designator_named g j lawful w.spot.names exports w.senses s knows grasps d))
      (λ x n. targeted _ x n)) (given_is e)) (λ p q. assigned_to p.0 _ p.1 q.0 q.1)
