-- Operators, components and what places take weigh no more than what they are made of.
use Rattle.std.proofs.Common.{◌≡◌, ℕ, ◌≤◌, pos, Bool, [], ◌∷◌, ◌++◌, Option, Some, None, Result, refl, arith}
use Rattle.std.specs.Prelude.{not, ◌&&◌}
use Rattle.m2_rule.specs.declared.rule.Rule.{Rule}
use Rattle.m2_rule.specs.declared.rule.Rule.TheVariants as rule
use Rattle.m2_tree.specs.declared.pos.Pos.{Pos}
use Rattle.m2_tree.specs.declared.name.Ident.{Ident}
use Rattle.m2_tree.specs.declared.expr.Sign.{Sign}
use Rattle.m2_tree.specs.declared.expr.Sign.TheVariants as sign
use Rattle.typed_tree.specs.declared.computed.Argument.{Argument}
use Rattle.typed_tree.specs.declared.computed.Call.{Call}
use Rattle.typed_tree.specs.declared.computed.Comparison.{Comparison}
use Rattle.typed_tree.specs.declared.computed.Component.{Component}
use Rattle.typed_tree.specs.declared.computed.Component.TheVariants as part
use Rattle.typed_tree.specs.declared.computed.Link.{Link}
use Rattle.typed_tree.specs.declared.computed.Link.TheVariants as link
use Rattle.typed_tree.specs.declared.computed.Place.{Place}
use Rattle.typed_tree.specs.declared.computed.Root.{Root}
use Rattle.typed_tree.specs.declared.computed.Root.TheVariants as root
use Rattle.typed_tree.specs.declared.computed.TypedExpr.{TypedExpr, TypedExpr-F}
use Rattle.typed_tree.specs.declared.computed.TypedExpr.TheVariants as expr
use Rattle.typed_tree.specs.declared.known_types.Types.{Types}
use Rattle.typed_tree.specs.declared.meaning.Procedure.{Procedure}
use Rattle.typed_tree.specs.declared.meaning.Value.{Value}
use Rattle.typed_tree.specs.declared.shape.Scalar.{Scalar as Range}
use Rattle.typed_tree.specs.declared.types.TypeNo.{TypeNo}
use Rattle.typed_tree.specs.Chains.{linked_to, link_operand, root_place, behind}
use Rattle.typed_tree.specs.Types.{are_same, is_integer, is_numeric, boolean, bitset}
use Rattle.check_scope.specs.Elaborated.{Gathers, ◌▷◌}
use Rattle.check_scope.specs.Scopes.{fields_at}
use Rattle.check_const.specs.Common.{common}
use Rattle.check_const.specs.Operands.{operand_of, is_number}
use Rattle.check_const.specs.declared.operand.Operand.{Operand}
use Rattle.check_const.specs.declared.operand.Operand.TheVariants as operand
use Rattle.check_const.specs.declared.operator.BinaryOp.{BinaryOp}
use Rattle.check_value.specs.Classes.{class_at, array_at}
use Rattle.check_value.specs.Sides.{known_of, constant_side, side_of, sort_of, or_cardinal, run_of}
use Rattle.check_value.specs.Signs.{signed_scalar, signed_value, with_sign, negated_value, negation}
use Rattle.check_value.specs.Operations.{of_value, truth_of, step_of, set_step_of, equality_of, is_in, step_result}
use Rattle.check_value.specs.Operations.{fitting_both, step_or_refusal, on_amounts, element_fits, member, set_built}
use Rattle.check_value.specs.Operations.{on_sets, on_procedures, with_scalar, set_in, with_set, partner_of}
use Rattle.check_value.specs.Operations.{routine_of, with_partner, between, by_known, operation_between}
use Rattle.check_value.specs.Selection.{record_field, field, array_indexed, indices, index_type, element_of_array}
use Rattle.check_value.specs.Selection.{element_at_index}
use Rattle.check_value.specs.Suits.{scalar_suited, set_suited, procedure_suited, value_in, value_suited}
use Rattle.check_value.specs.declared.class.Class.{Class}
use Rattle.check_value.specs.declared.class.Class.TheVariants as class
use Rattle.check_value.specs.declared.computed.Computed.{Computed}
use Rattle.check_value.specs.declared.computed.Computed.TheVariants as value
use Rattle.check_value.specs.declared.computed.Designated.{Designated}
use Rattle.check_value.specs.declared.computed.Designated.TheVariants as designated
use Rattle.check_value.specs.declared.operate.SetStep.{SetStep}
use Rattle.check_value.specs.declared.operate.SetStep.TheVariants as set_step
use Rattle.check_value.specs.declared.operate.Step.{Step}
use Rattle.check_value.specs.declared.operate.Step.TheVariants as step
use Rattle.check_value.specs.declared.select.Subscripted.{Subscripted}
use Rattle.check_value.specs.declared.select.Subscripted.TheVariants as indexes
use Rattle.check_value.specs.declared.side.Amount.{Amount}
use Rattle.check_value.specs.declared.side.Amount.TheVariants.{Known, Run}
use Rattle.check_value.specs.declared.side.Side.{Side}
use Rattle.check_value.specs.declared.side.Side.TheVariants as side
use Rattle.typed_tree.specs.declared.computed.TypedExpr.{out-TypedExpr}
use Rattle.typed_tree.specs.declared.computed.Argument.TheOpen as layer
use Rattle.law_encoding.specs.Counted.{AtMost, fine}
use Rattle.law_encoding.proofs.Sums.{le_trans, le_of}
use Rattle.law_encoding.proofs.Ways.{Way, ◌⊕⟨◌⟩◌, node, up, operand, all_of, weight_root, weight_typed, weight_place}
use Rattle.law_encoding.proofs.Ways.{weight_component, weight_link, weight_value, weight_meant}
use Rattle.law_encoding.proofs.WaySums.{none_of, one_alone, all_pushed, more, one_at_least, one_link, longer}
use Rattle.law_encoding.proofs.WaySums.{behind_step, rooted_step, one_component, element_sum, open_sum, operand_less}
use Rattle.law_encoding.proofs.WaySums.{join, pair, operands_less, first_less, second_less, known_less, both_most}
use Rattle.law_encoding.proofs.Results.{then_most, at_mapped, reported_most, where_most, any_most}
use Rattle.law_encoding.proofs.Weighed.{component_is, expr_is, link_is, place_sum}

module _ (w : Way) where
  infixl 65 ◌⊕◌
  abbrev ◌⊕◌ : ℕ → ℕ → ℕ
  m ⊕ n = m ⊕⟨ w ⟩ n

  -- ---- chains and components

  -- a chain by its parts
  chain_of_one : (e : TypedExpr) (l : Link) → weight_typed w (expr.Chain e (l ∷ [])) ≤ node w ⊕ weight_typed w
      e ⊕ weight_link w l
  chain_of_one e l = one_link w _ _ _ _ (expr_is w _ (expr.outs-Chain e (l ∷ []))) (one_alone w (weight_link w) l)

  linked_by : (x : TypedExpr-F Argument Call Component Link TypedExpr Place) (e : TypedExpr) (l : Link)
      → out-TypedExpr e ≡ x → weight_typed w (linked_to x e l) ≤ node w ⊕ weight_typed w e ⊕ weight_link w l
  linked_by (layer.Chain a links) e l h =
      longer w _ _ (weight_typed w a) _ (weight_link w l) (all_of w (weight_link w) links)
      (expr_is w _ (expr.outs-Chain a (links ++ l ∷ []))) (all_pushed w (weight_link w) links l) (expr_is w _ h)
  linked_by (layer.Constant t n) e l h = chain_of_one e l
  linked_by (layer.Load t d) e l h = chain_of_one e l
  linked_by (layer.Procedure f) e l h = chain_of_one e l
  linked_by (layer.Plus t x) e l h = chain_of_one e l
  linked_by (layer.Negate x) e l h = chain_of_one e l
  linked_by (layer.Compare o a b) e l h = chain_of_one e l
  linked_by (layer.Not x) e l h = chain_of_one e l
  linked_by (layer.Include o a b) e l h = chain_of_one e l
  linked_by (layer.In a b) e l h = chain_of_one e l
  linked_by (layer.Abs t x) e l h = chain_of_one e l
  linked_by (layer.Cap x) e l h = chain_of_one e l
  linked_by (layer.Chr x) e l h = chain_of_one e l
  linked_by (layer.Odd x) e l h = chain_of_one e l
  linked_by (layer.Ord x) e l h = chain_of_one e l
  linked_by (layer.Val t x) e l h = chain_of_one e l
  linked_by (layer.High slot) e l h = chain_of_one e l
  linked_by (layer.Call t c) e l h = chain_of_one e l

  pub linked_most : (e : TypedExpr) (l : Link) → weight_typed w (link_operand e l) ≤ node w ⊕ weight_typed w
      e ⊕ weight_link w l
  linked_most e l = linked_by (out-TypedExpr e) e l refl

  pub behind_weight : (d : Place) (c : Component) → weight_place w (behind d c) ≡ weight_place w d ⊕ weight_component w
      c
  behind_weight d c = behind_step w (weight_root w d.root) _ _ _ _ (all_of w (weight_component w) d.components)
      (place_sum w (behind d c)) (all_pushed w (weight_component w) d.components c) (place_sum w d)

  pub rooted_weight : (r : Root) → weight_place w (root_place r) ≡ node w ⊕ weight_root w r
  rooted_weight r = rooted_step w _ (weight_root w r) _ (place_sum w (root_place r)) (none_of w (weight_component w))

  -- ---- sides

  abbrev pub weight_amount : Amount → ℕ
  weight_amount (Known a) = node w
  weight_amount (Run b e) = weight_typed w e

  abbrev pub weight_side : Option Side → ℕ
  weight_side None = 0
  weight_side (Some (side.Scalar a)) = weight_amount a
  weight_side (Some (side.Set e)) = weight_typed w e
  weight_side (Some (side.Routine t e)) = weight_typed w e
  weight_side (Some (side.Procedure f)) = node w

  constant_most : (o : Option Operand) → weight_side (constant_side o) ≤ node w
  constant_most None = omega arith
  constant_most (Some (operand.Scalar a)) = omega arith
  constant_most (Some (operand.Set bits)) = le_of _ (node w) (expr_is w _ (expr.outs-Constant bitset (pos bits)))

  pub side_most : (x : Computed) → weight_side (side_of x) ≤ weight_value w x
  side_most (value.Constant v) = constant_most (operand_of v)
  side_most (value.Scalar t b e) = omega arith
  side_most (value.Set e) = omega arith
  side_most (value.Routine t e) = omega arith
  side_most (value.Procedure f) = omega arith
  side_most (value.Whole t d) = omega arith
  side_most value.Untaken = omega arith

  run_most : (t : TypeNo) (a : Amount) → weight_typed w (run_of t a) ≤ weight_amount a
  run_most t (Known a) = le_of _ (node w) (expr_is w _ (expr.outs-Constant t a.number))
  run_most t (Run b e) = omega arith

  module _ (g : Gathers) where
    abbrev Value_ : ℕ → Result Computed g.Reported → Type 0
    Value_ n r = AtMost (weight_value w) n r

    pub of_value_most : (n : ℕ) (r : Result Value g.Reported) → node w ≤ n → Value_ n (of_value r)
    of_value_most n r l = then_most (any_most r) (λ x h. fine (value.Constant x) l)

    -- ---- signs

    signed_scalar_most : (n : ℕ) (o : Sign) (at : Pos) (b : TypeNo) (e : TypedExpr) → weight_typed w e ≤ n
        → Value_ (node w ⊕ n) (signed_scalar g o at b e)
    signed_scalar_most n sign.Plus at b e p = where_most g (not (is_numeric b)) at rule.WrongType
        (fine (value.Scalar b b (expr.Plus b e)) (more w _ _ n (expr_is w _ (expr.outs-Plus b e)) p))
    signed_scalar_most n sign.Minus at b e p = where_most g (not (is_integer b)) at rule.WrongType
        (fine (value.Scalar b b (expr.Negate e)) (more w _ _ n (expr_is w _ (expr.outs-Negate e)) p))

    signed_value_most : (n : ℕ) (o : Sign) (at : Pos) (x : Computed) → weight_value w x ≤ n
        → Value_ (node w ⊕ n) (signed_value g o at x)
    signed_value_most n o at (value.Constant v) p = of_value_most (node w ⊕ n) _ (one_at_least w n)
    signed_value_most n o at (value.Scalar t b e) p = signed_scalar_most n o at b e p
    signed_value_most n o at (value.Set e) p = reported_most g at rule.WrongType
    signed_value_most n o at (value.Routine t e) p = reported_most g at rule.WrongType
    signed_value_most n o at (value.Procedure f) p = reported_most g at rule.WrongType
    signed_value_most n o at (value.Whole t d) p = reported_most g at rule.WrongType
    signed_value_most n o at value.Untaken p = reported_most g at rule.WrongType

    pub signed_most : (n : ℕ) (o : Sign) (at : Pos) {x : Result Computed g.Reported} → Value_ n x
        → Value_ (node w ⊕ n) (with_sign g o at x)
    signed_most n o at h = then_most h (λ x p. signed_value_most n o at x p)

    negated_value_most : (n : ℕ) (at : Pos) (x : Computed) → weight_value w x ≤ n
        → Value_ (node w ⊕ n) (negated_value g at x)
    negated_value_most n at (value.Constant v) p = of_value_most (node w ⊕ n) _ (one_at_least w n)
    negated_value_most n at (value.Scalar t b e) p = where_most g (not (are_same b boolean)) at rule.WrongType
        (fine (truth_of (expr.Not e)) (more w _ _ n (expr_is w _ (expr.outs-Not e)) p))
    negated_value_most n at (value.Set e) p = reported_most g at rule.WrongType
    negated_value_most n at (value.Routine t e) p = reported_most g at rule.WrongType
    negated_value_most n at (value.Procedure f) p = reported_most g at rule.WrongType
    negated_value_most n at (value.Whole t d) p = reported_most g at rule.WrongType
    negated_value_most n at value.Untaken p = reported_most g at rule.WrongType

    pub negated_most : (n : ℕ) (at : Pos) {x : Result Computed g.Reported} → Value_ n x
        → Value_ (node w ⊕ n) (negation g at x)
    negated_most n at h = then_most h (λ x p. negated_value_most n at x p)

    -- ---- operators

    built_most : (n : ℕ) (t : TypeNo) (x y : TypedExpr) (o : Step) → weight_typed w x ⊕ operand w (weight_typed w y) ≤ n
        → weight_value w (step_result t x y o) ≤ node w ⊕ n
    built_most n t x y (step.Arithmetic o) p =
        join w _ _ _ _ n (linked_most x (link.Arithmetic o t y)) (link_is w _ (link.outs-Arithmetic o t y)) p
    built_most n t x y step.And p = join w _ _ _ _ n (linked_most x (link.And y)) (link_is w _ (link.outs-And y)) p
    built_most n t x y step.Or p = join w _ _ _ _ n (linked_most x (link.Or y)) (link_is w _ (link.outs-Or y)) p
    built_most n t x y (step.Compare c) p = pair w _ _ _ n (expr_is w _ (expr.outs-Compare c x y)) p

    stepped_most : (n : ℕ) (at : Pos) (sort : Option TypeNo) (a b : Amount) (o : Option Step)
        → weight_amount a ⊕ operand w (weight_amount b) ≤ n → Value_ (node w ⊕ n) (step_or_refusal g at sort a b o)
    stepped_most n at sort a b None p = reported_most g at rule.WrongType
    stepped_most n at sort a b (Some o) p =
        fine (step_result (or_cardinal sort) (run_of (or_cardinal sort) a) (run_of (or_cardinal sort) b) o)
        (built_most n (or_cardinal sort) (run_of (or_cardinal sort) a) (run_of (or_cardinal sort) b) o
        (operands_less w _ _ _ _ n (run_most (or_cardinal sort) a) (run_most (or_cardinal sort) b) p))

    amounts_most : (n : ℕ) (op : BinaryOp) (spot at : Pos) (a : Amount) (at' : Pos) (b : Amount)
        (o : Option (Option TypeNo)) → weight_amount a ⊕ operand w (weight_amount b) ≤ n
        → Value_ (node w ⊕ n) (on_amounts g op spot at a at' b o)
    amounts_most n op spot at a at' b None p = reported_most g spot rule.WrongType
    amounts_most n op spot at a at' b (Some sort) p = then_most (any_most (fitting_both g op spot sort at a at' b))
        (λ f h. stepped_most n spot sort a b (step_of op) p)

    member_most : (n : ℕ) (op : BinaryOp) (spot at : Pos) (a : Amount) (s : TypedExpr)
        → weight_amount a ⊕ operand w (weight_typed w s) ≤ n → Value_ (node w ⊕ n) (member g op spot at a s)
    member_most n op spot at a s p =
        where_most g (not (is_in op && is_number (sort_of a))) spot rule.WrongType
        (then_most (any_most (element_fits g at a))
        (λ f h. fine (truth_of (expr.In (run_of (or_cardinal (sort_of a)) a) s))
        (pair w _ _ _ n (expr_is w _ (expr.outs-In (run_of (or_cardinal (sort_of a)) a) s))
        (first_less w _ _ _ n (run_most (or_cardinal (sort_of a)) a) p))))

    set_built_most : (n : ℕ) (x y : TypedExpr) (o : SetStep) → weight_typed w x ⊕ operand w (weight_typed w y) ≤ n
        → weight_value w (set_built x y o) ≤ node w ⊕ n
    set_built_most n x y (set_step.Combine o) p =
        join w _ _ _ _ n (linked_most x (link.Combine o y)) (link_is w _ (link.outs-Combine o y)) p
    set_built_most n x y (set_step.Compare c) p = pair w _ _ _ n (expr_is w _ (expr.outs-Compare c x y)) p
    set_built_most n x y (set_step.Include i) p = pair w _ _ _ n (expr_is w _ (expr.outs-Include i x y)) p

    sets_most : (n : ℕ) (at : Pos) (x y : TypedExpr) (o : Option SetStep)
        → weight_typed w x ⊕ operand w (weight_typed w y) ≤ n → Value_ (node w ⊕ n) (on_sets g at x y o)
    sets_most n at x y None p = reported_most g at rule.WrongType
    sets_most n at x y (Some o) p = fine (set_built x y o) (set_built_most n x y o p)

    scalar_most : (n : ℕ) (op : BinaryOp) (spot at : Pos) (a : Amount) (at' : Pos) (y : Option Side)
        → weight_amount a ⊕ operand w (weight_side y) ≤ n → Value_ (node w ⊕ n) (with_scalar g op spot at a at' y)
    scalar_most n op spot at a at' None p = reported_most g spot rule.WrongType
    scalar_most n op spot at a at' (Some (side.Scalar b)) p =
        amounts_most n op spot at a at' b (common (sort_of a) (sort_of b)) p
    scalar_most n op spot at a at' (Some (side.Set s)) p = member_most n op spot at a s p
    scalar_most n op spot at a at' (Some (side.Routine t e)) p = reported_most g spot rule.WrongType
    scalar_most n op spot at a at' (Some (side.Procedure f)) p = reported_most g spot rule.WrongType

    with_set_most : (n : ℕ) (op : BinaryOp) (spot : Pos) (x : TypedExpr) (y : Option Side)
        → weight_typed w x ⊕ operand w (weight_side y) ≤ n → Value_ (node w ⊕ n) (with_set g op spot x (set_in y))
    with_set_most n op spot x None p = reported_most g spot rule.WrongType
    with_set_most n op spot x (Some (side.Scalar b)) p = reported_most g spot rule.WrongType
    with_set_most n op spot x (Some (side.Set s)) p = sets_most n spot x s (set_step_of op) p
    with_set_most n op spot x (Some (side.Routine t e)) p = reported_most g spot rule.WrongType
    with_set_most n op spot x (Some (side.Procedure f)) p = reported_most g spot rule.WrongType

    procedures_most : (n : ℕ) (at : Pos) (fit : Bool) (x y : TypedExpr) (o : Option Comparison)
        → weight_typed w x ⊕ operand w (weight_typed w y) ≤ n → Value_ (node w ⊕ n) (on_procedures g at fit x y o)
    procedures_most n at fit x y None p = reported_most g at rule.WrongType
    procedures_most n at fit x y (Some c) p = where_most g (not fit) at rule.WrongType
        (fine (truth_of (expr.Compare c x y)) (pair w _ _ _ n (expr_is w _ (expr.outs-Compare c x y)) p))

    abbrev weight_partner : Option (Bool × TypedExpr) → ℕ
    weight_partner None = 0
    weight_partner (Some p) = weight_typed w p.1

    partner_most : (types : Types) (t : TypeNo) (y : Option Side)
        → weight_partner (partner_of types t y) ≤ weight_side y
    partner_most types t None = omega arith
    partner_most types t (Some (side.Scalar b)) = omega arith
    partner_most types t (Some (side.Set s)) = omega arith
    partner_most types t (Some (side.Routine u e)) = omega arith
    partner_most types t (Some (side.Procedure f)) = le_of _ (node w) (expr_is w _ (expr.outs-Procedure f))

    routine_most : (types : Types) (f : Procedure) (y : Option Side)
        → weight_partner (routine_of types f y) ≤ weight_side y
    routine_most types f None = omega arith
    routine_most types f (Some (side.Scalar b)) = omega arith
    routine_most types f (Some (side.Set s)) = omega arith
    routine_most types f (Some (side.Routine u e)) = omega arith
    routine_most types f (Some (side.Procedure h)) = omega arith

    with_partner_most : (n : ℕ) (at : Pos) (x : TypedExpr) (c : Option Comparison) (o : Option (Bool × TypedExpr))
        → weight_typed w x ⊕ operand w (weight_partner o) ≤ n → Value_ (node w ⊕ n) (with_partner g at x c o)
    with_partner_most n at x c None p = reported_most g at rule.WrongType
    with_partner_most n at x c (Some o) p = procedures_most n at o.0 x o.1 c p

    between_most : (n : ℕ) (types : Types) (op : BinaryOp) (spot at : Pos) (x : Option Side) (at' : Pos)
        (y : Option Side) → weight_side x ⊕ operand w (weight_side y) ≤ n
        → Value_ (node w ⊕ n) (between g types op spot at x at' y)
    between_most n types op spot at None at' y p = reported_most g spot rule.WrongType
    between_most n types op spot at (Some (side.Scalar a)) at' y p = scalar_most n op spot at a at' y p
    between_most n types op spot at (Some (side.Set e)) at' y p = with_set_most n op spot e y p
    between_most n types op spot at (Some (side.Routine t e)) at' y p = with_partner_most n spot e (equality_of op)
        (partner_of types t y) (second_less w _ _ _ n (partner_most types t y) p)
    between_most n types op spot at (Some (side.Procedure f)) at' y p =
        with_partner_most n spot (expr.Procedure f) (equality_of op) (routine_of types f y)
        (known_less w _ _ _ n (expr_is w _ (expr.outs-Procedure f)) (routine_most types f y) p)

    known_most : (n : ℕ) (types : Types) (op : BinaryOp) (spot at : Pos) (x : Computed) (at' : Pos) (y : Computed)
        (a b : Option Operand) → weight_value w x ⊕ operand w (weight_value w y) ≤ n
        → Value_ (node w ⊕ n) (by_known g types op spot at x at' y a b)
    known_most n types op spot at x at' y None b p = between_most n types op spot at (side_of x) at' (side_of y)
        (operands_less w _ _ _ _ n (side_most x) (side_most y) p)
    known_most n types op spot at x at' y (Some a) None p = between_most n types op spot at (side_of x) at' (side_of y)
        (operands_less w _ _ _ _ n (side_most x) (side_most y) p)
    known_most n types op spot at x at' y (Some a) (Some b) p = of_value_most (node w ⊕ n) _ (one_at_least w n)

    pub combined_most : (n k : ℕ) (types : Types) (op : BinaryOp) (spot at : Pos) {x : Result Computed g.Reported}
        (at' : Pos) {y : Result Computed g.Reported} → Value_ n x → Value_ k y
        → Value_ (node w ⊕ (n ⊕ operand w k)) (operation_between g types op spot at x at' y)
    combined_most n k types op spot at at' p q =
        then_most (both_most g w p (at_mapped (λ x l. operand_less w (weight_value w x) k l) q))
        (λ v h. known_most (n ⊕ operand w k) types op spot at v.0 at' v.1 (known_of v.0) (known_of v.1) h)

    -- ---- what places take

    abbrev Expr_ : ℕ → Result TypedExpr g.Reported → Type 0
    Expr_ n r = AtMost (weight_typed w) n r

    scalar_suited_most : (n : ℕ) (broken : Rule) (t : TypeNo) (s : Range) (at : Pos) (x : Option Side)
        → weight_side x ≤ n → Expr_ n (scalar_suited g broken t s at x)
    scalar_suited_most n broken t s at None p = reported_most g at broken
    scalar_suited_most n broken t s at (Some (side.Scalar (Known a))) p =
        where_most g _ at broken (where_most g _ at rule.OutOfRange
        (fine (expr.Constant t a.number) (le_trans _ (node w) n
        (le_of _ (node w) (expr_is w _ (expr.outs-Constant t a.number))) p)))
    scalar_suited_most n broken t s at (Some (side.Scalar (Run b e))) p = where_most g _ at broken (fine e p)
    scalar_suited_most n broken t s at (Some (side.Set e)) p = reported_most g at broken
    scalar_suited_most n broken t s at (Some (side.Routine u e)) p = reported_most g at broken
    scalar_suited_most n broken t s at (Some (side.Procedure f)) p = reported_most g at broken

    set_suited_most : (n : ℕ) (broken : Rule) (at : Pos) (x : Option Side) → weight_side x ≤ n
        → Expr_ n (set_suited g broken at x)
    set_suited_most n broken at None p = reported_most g at broken
    set_suited_most n broken at (Some (side.Scalar a)) p = reported_most g at broken
    set_suited_most n broken at (Some (side.Set e)) p = fine e p
    set_suited_most n broken at (Some (side.Routine u e)) p = reported_most g at broken
    set_suited_most n broken at (Some (side.Procedure f)) p = reported_most g at broken

    procedure_suited_most : (n : ℕ) (broken : Rule) (types : Types) (t : TypeNo) (at : Pos) (x : Option Side)
        → weight_side x ≤ n → Expr_ n (procedure_suited g broken types t at x)
    procedure_suited_most n broken types t at None p = reported_most g at broken
    procedure_suited_most n broken types t at (Some (side.Scalar a)) p = reported_most g at broken
    procedure_suited_most n broken types t at (Some (side.Set e)) p = reported_most g at broken
    procedure_suited_most n broken types t at (Some (side.Routine u e)) p = where_most g _ at broken (fine e p)
    procedure_suited_most n broken types t at (Some (side.Procedure f)) p =
        where_most g _ at broken (fine (expr.Procedure f) (le_trans _ (node w) n
        (le_of _ (node w) (expr_is w _ (expr.outs-Procedure f)))
        p))

    value_in_most : (n : ℕ) (broken : Rule) (types : Types) (t : TypeNo) (at : Pos) (x : Option Side) (c : Class)
        → weight_side x ≤ n → Expr_ n (value_in g broken types t at x c)
    value_in_most n broken types t at x (class.Scalar s) p = scalar_suited_most n broken t s at x p
    value_in_most n broken types t at x class.Set p = set_suited_most n broken at x p
    value_in_most n broken types t at x class.Procedure p = procedure_suited_most n broken types t at x p
    value_in_most n broken types t at x class.Whole p = reported_most g at broken

    pub suited_most : (n : ℕ) (broken : Rule) (types : Types) (t : TypeNo) (at : Pos) (x : Computed)
        → weight_value w x ≤ n → Expr_ n (value_suited g broken types t at x)
    suited_most n broken types t at x p =
        value_in_most n broken types t at (side_of x) (class_at types t) (le_trans _ _ n (side_most x) p)

    -- ---- components

    abbrev Designated_ : ℕ → Result Designated g.Reported → Type 0
    Designated_ n r = AtMost (weight_meant w) n r

    pub field_most : (n : ℕ) (types : Types) (at : Pos) (name : Ident) (d : Designated) → weight_meant w d ≤ n
        → Designated_ (node w ⊕ n) (field g types at name d)
    field_most n types at name (designated.Variable t d) p =
        then_most (any_most (record_field g at name (fields_at types t)))
        (λ f h. fine (designated.Variable f.1 (behind d (part.Field t f.0)))
        (one_component w _ _ _ n (behind_weight d (part.Field t f.0)) (component_is w _ (part.outs-Field t f.0)) p))
    field_most n types at name (designated.Value x) p = reported_most g at rule.WrongType
    field_most n types at name (designated.Open t slot) p = reported_most g at rule.WrongType
    field_most n types at name (designated.Type t) p = reported_most g at rule.WrongType
    field_most n types at name (designated.Procedure f) p = reported_most g at rule.WrongType
    field_most n types at name (designated.Nested f) p = reported_most g at rule.WrongType
    field_most n types at name (designated.Standard f) p = reported_most g at rule.WrongType
    field_most n types at name (designated.Module k) p = reported_most g at rule.WrongType

    abbrev weight_subscripted : Subscripted → ℕ
    weight_subscripted (indexes.Array t i e d) = node w ⊕ weight_place w d
    weight_subscripted (indexes.Open t slot) = node w ⊕ (node w ⊕ up w slot.up)

    array_most : (n : ℕ) (at : Pos) (t : TypeNo) (d : Place) (o : Option (TypeNo × TypeNo))
        → node w ⊕ weight_place w d ≤ n → AtMost weight_subscripted n (array_indexed g at t d o)
    array_most n at t d None p = reported_most g at rule.WrongType
    array_most n at t d (Some a) p = fine (indexes.Array t a.0 a.1 d) p

    indices_most : (n : ℕ) (types : Types) (at : Pos) (d : Designated) → weight_meant w d ≤ n
        → AtMost weight_subscripted n (indices g types at d)
    indices_most n types at (designated.Variable t d) p = array_most n at t d (array_at types t) p
    indices_most n types at (designated.Open t slot) p = fine (indexes.Open t slot) p
    indices_most n types at (designated.Value x) p = reported_most g at rule.WrongType
    indices_most n types at (designated.Type t) p = reported_most g at rule.WrongType
    indices_most n types at (designated.Procedure f) p = reported_most g at rule.WrongType
    indices_most n types at (designated.Nested f) p = reported_most g at rule.WrongType
    indices_most n types at (designated.Standard f) p = reported_most g at rule.WrongType
    indices_most n types at (designated.Module k) p = reported_most g at rule.WrongType

    picked_most : (n k : ℕ) (x : TypedExpr) (a : Subscripted) → weight_typed w x ≤ k → weight_subscripted a ⊕ k ≤ n
        → weight_meant w (element_of_array x a) ≤ node w ⊕ n
    picked_most n k x (indexes.Array t i e d) p q =
        element_sum w _ _ _ _ _ n k (behind_weight d (part.Element t x)) (component_is w _ (part.outs-Element t x)) refl
        q
        p
    picked_most n k x (indexes.Open t slot) p q =
        open_sum w slot.up _ _ _ _ n k (behind_weight (root_place (root.Open slot)) (part.OpenElement slot t x))
        (component_is w _ (part.outs-OpenElement slot t x)) (rooted_weight (root.Open slot)) q p

    pub indexed_most : (n k : ℕ) (types : Types) (at : Pos) {d : Result Designated g.Reported} (at' : Pos)
        {x : Result Computed g.Reported} → Designated_ n d → Value_ k x
        → Designated_ (node w ⊕ (n ⊕ k)) (element_at_index g types (d ▷ indices g types at) at' x)
    indexed_most n k types at at' p q =
        then_most (both_most g w (then_most p (λ d h. indices_most n types at d h)) q)
        (λ v h. then_most (suited_most (weight_value w v.1) rule.NotAssignable types (index_type v.0) at' v.1
        (omega arith)) (λ e l. fine (element_of_array e v.0) (picked_most (n ⊕ k) (weight_value w v.1) e v.0 l h)))
