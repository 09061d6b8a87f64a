-- Operators, components and what places take.
use Rattle.std.proofs.Common.{ℕ, pos, Bool, List, [], ◌∷◌, ◌++◌, Option, Some, None, Result, sym, subst}
use Rattle.std.specs.Prelude.{not, ◌&&◌}
use Rattle.m2_rule.specs.declared.rule.Rule.{Rule}
use Rattle.m2_rule.specs.declared.rule.Rule.TheVariants as rule
use Rattle.m2_tree.specs.declared.pos.Pos.{Pos}
use Rattle.m2_tree.specs.declared.name.Ident.{Ident}
use Rattle.m2_tree.specs.declared.expr.Sign.{Sign}
use Rattle.m2_tree.specs.declared.expr.Sign.TheVariants as sign
use Rattle.typed_tree.specs.declared.computed.Argument.{Argument}
use Rattle.typed_tree.specs.declared.computed.Call.{Call}
use Rattle.typed_tree.specs.declared.computed.Comparison.{Comparison}
use Rattle.typed_tree.specs.declared.computed.Component.{Component}
use Rattle.typed_tree.specs.declared.computed.Component.TheVariants as part
use Rattle.typed_tree.specs.declared.computed.Link.{Link}
use Rattle.typed_tree.specs.declared.computed.Link.TheVariants as link
use Rattle.typed_tree.specs.declared.computed.Place.{Place}
use Rattle.typed_tree.specs.declared.computed.Root.{Root}
use Rattle.typed_tree.specs.declared.computed.Root.TheVariants as root
use Rattle.typed_tree.specs.declared.computed.TypedExpr.{TypedExpr, TypedExpr-F}
use Rattle.typed_tree.specs.declared.computed.TypedExpr.TheVariants as expr
use Rattle.typed_tree.specs.declared.known_types.Types.{Types}
use Rattle.typed_tree.specs.declared.meaning.Procedure.{Procedure}
use Rattle.typed_tree.specs.declared.meaning.Value.{Value}
use Rattle.typed_tree.specs.declared.shape.Scalar.{Scalar as Range}
use Rattle.typed_tree.specs.declared.typed_module.TypedModule.{TypedModule}
use Rattle.typed_tree.specs.declared.types.TypeNo.{TypeNo}
use Rattle.typed_tree.specs.Chains.{linked_to, link_operand, root_place, behind}
use Rattle.typed_tree.specs.Types.{are_same, is_integer, is_numeric, boolean, bitset}
use Rattle.check_scope.specs.Elaborated.{Gathers, ◌▷◌}
use Rattle.check_scope.specs.Scopes.{fields_at}
use Rattle.check_const.specs.Common.{common}
use Rattle.check_const.specs.Operands.{operand_of, is_number}
use Rattle.check_const.specs.declared.operand.Operand.{Operand}
use Rattle.check_const.specs.declared.operand.Operand.TheVariants as operand
use Rattle.check_const.specs.declared.operator.BinaryOp.{BinaryOp}
use Rattle.check_value.specs.Classes.{class_at, array_at}
use Rattle.check_value.specs.Sides.{known_of, constant_side, side_of, sort_of, or_cardinal, run_of}
use Rattle.check_value.specs.Signs.{signed_scalar, signed_value, with_sign, negated_value, negation}
use Rattle.check_value.specs.Operations.{of_value, truth_of, step_of, set_step_of, equality_of, is_in, step_result, fitting_both, step_or_refusal, on_amounts, element_fits, member, set_built, on_sets, on_procedures, with_scalar, set_in, with_set, partner_of, routine_of, with_partner, between, by_known, operation_between}
use Rattle.check_value.specs.Selection.{record_field, field, array_indexed, indices, index_type, element_of_array, element_at_index}
use Rattle.check_value.specs.Suits.{scalar_suited, set_suited, procedure_suited, value_in, value_suited}
use Rattle.check_value.specs.declared.class.Class.{Class}
use Rattle.check_value.specs.declared.class.Class.TheVariants as class
use Rattle.check_value.specs.declared.computed.Computed.{Computed}
use Rattle.check_value.specs.declared.computed.Computed.TheVariants as value
use Rattle.check_value.specs.declared.computed.Designated.{Designated}
use Rattle.check_value.specs.declared.computed.Designated.TheVariants as designated
use Rattle.check_value.specs.declared.operate.SetStep.{SetStep}
use Rattle.check_value.specs.declared.operate.SetStep.TheVariants as set_step
use Rattle.check_value.specs.declared.operate.Step.{Step}
use Rattle.check_value.specs.declared.operate.Step.TheVariants as step
use Rattle.check_value.specs.declared.select.Subscripted.{Subscripted}
use Rattle.check_value.specs.declared.select.Subscripted.TheVariants as indexes
use Rattle.check_value.specs.declared.side.Amount.{Amount}
use Rattle.check_value.specs.declared.side.Amount.TheVariants.{Known, Run}
use Rattle.check_value.specs.declared.side.Side.{Side}
use Rattle.check_value.specs.declared.side.Side.TheVariants as side
use Rattle.law_modules.specs.WellFormed.{IsProcedure, IsRoot, IsExpr, Constant, Load, ProcedureValue, Plus, Negate, Chain, Compare, Not, Include, In, Abs, Cap, Chr, Odd, Ord, Val, High, FunctionCall, AreLinks, no_links, more_links, IsLink, Operated, And, Or, Combine, IsPlace, Designator, AreComponents, no_components, more_components, IsComponent, FieldOf, Element, OpenElement}
use Rattle.law_well_formed.specs.Formed.{Holds, fine, FormedValue, FormedDesignated}
use Rattle.law_well_formed.proofs.Basics.{then_holds, reported_holds, where_holds, both_holds, any_holds}

module _ (m : TypedModule) (w : ℕ) where
  -- ---- chains and components

  links_more : (ls : List Link) (l : Link) → AreLinks m w ls → IsLink m w l → AreLinks m w (ls ++ l ∷ [])
  links_more _ l no_links k = more_links l [] k no_links
  links_more _ l (more_links x xs p ps) k = more_links x (xs ++ l ∷ []) p (links_more xs l ps k)

  linked_formed : (e : TypedExpr) (l : Link) → IsExpr m w e → IsLink m w l → IsExpr m w (link_operand e l)
  linked_formed _ l (Constant t n) k = subst
      (λ (y : TypedExpr-F Argument Call Component Link TypedExpr Place). IsExpr m w (linked_to y (expr.Constant t n) l))
      (sym (expr.outs-Constant t n)) (Chain (expr.Constant t n) (l ∷ []) (Constant t n) (more_links l [] k no_links))
  linked_formed _ l (Load t d p q) k = subst
      (λ (y : TypedExpr-F Argument Call Component Link TypedExpr Place). IsExpr m w (linked_to y (expr.Load t d) l))
      (sym (expr.outs-Load t d)) (Chain (expr.Load t d) (l ∷ []) (Load t d p q) (more_links l [] k no_links))
  linked_formed _ l (ProcedureValue f p) k =
      subst (λ (y : TypedExpr-F Argument Call Component Link TypedExpr Place). IsExpr m w
      (linked_to y (expr.Procedure f) l)) (sym (expr.outs-Procedure f))
      (Chain (expr.Procedure f) (l ∷ []) (ProcedureValue f p) (more_links l [] k no_links))
  linked_formed _ l (Plus t e p) k = subst
      (λ (y : TypedExpr-F Argument Call Component Link TypedExpr Place). IsExpr m w (linked_to y (expr.Plus t e) l))
      (sym (expr.outs-Plus t e)) (Chain (expr.Plus t e) (l ∷ []) (Plus t e p) (more_links l [] k no_links))
  linked_formed _ l (Negate e p) k = subst
      (λ (y : TypedExpr-F Argument Call Component Link TypedExpr Place). IsExpr m w (linked_to y (expr.Negate e) l))
      (sym (expr.outs-Negate e)) (Chain (expr.Negate e) (l ∷ []) (Negate e p) (more_links l [] k no_links))
  linked_formed _ l (Chain e ls p q) k = subst
      (λ (y : TypedExpr-F Argument Call Component Link TypedExpr Place). IsExpr m w (linked_to y (expr.Chain e ls) l))
      (sym (expr.outs-Chain e ls)) (Chain e (ls ++ l ∷ []) p (links_more ls l q k))
  linked_formed _ l (Compare o a b p q) k =
      subst (λ (y : TypedExpr-F Argument Call Component Link TypedExpr Place). IsExpr m w
      (linked_to y (expr.Compare o a b) l)) (sym (expr.outs-Compare o a b))
      (Chain (expr.Compare o a b) (l ∷ []) (Compare o a b p q) (more_links l [] k no_links))
  linked_formed _ l (Not e p) k = subst (λ (y : TypedExpr-F Argument Call Component Link TypedExpr Place). IsExpr m w
      (linked_to y (expr.Not e) l)) (sym (expr.outs-Not e))
      (Chain (expr.Not e) (l ∷ []) (Not e p) (more_links l [] k no_links))
  linked_formed _ l (Include o a b p q) k =
      subst (λ (y : TypedExpr-F Argument Call Component Link TypedExpr Place). IsExpr m w
      (linked_to y (expr.Include o a b) l)) (sym (expr.outs-Include o a b))
      (Chain (expr.Include o a b) (l ∷ []) (Include o a b p q) (more_links l [] k no_links))
  linked_formed _ l (In a b p q) k = subst
      (λ (y : TypedExpr-F Argument Call Component Link TypedExpr Place). IsExpr m w (linked_to y (expr.In a b) l))
      (sym (expr.outs-In a b)) (Chain (expr.In a b) (l ∷ []) (In a b p q) (more_links l [] k no_links))
  linked_formed _ l (Abs t e p) k = subst
      (λ (y : TypedExpr-F Argument Call Component Link TypedExpr Place). IsExpr m w (linked_to y (expr.Abs t e) l))
      (sym (expr.outs-Abs t e)) (Chain (expr.Abs t e) (l ∷ []) (Abs t e p) (more_links l [] k no_links))
  linked_formed _ l (Cap e p) k = subst (λ (y : TypedExpr-F Argument Call Component Link TypedExpr Place). IsExpr m w
      (linked_to y (expr.Cap e) l)) (sym (expr.outs-Cap e))
      (Chain (expr.Cap e) (l ∷ []) (Cap e p) (more_links l [] k no_links))
  linked_formed _ l (Chr e p) k = subst (λ (y : TypedExpr-F Argument Call Component Link TypedExpr Place). IsExpr m w
      (linked_to y (expr.Chr e) l)) (sym (expr.outs-Chr e))
      (Chain (expr.Chr e) (l ∷ []) (Chr e p) (more_links l [] k no_links))
  linked_formed _ l (Odd e p) k = subst (λ (y : TypedExpr-F Argument Call Component Link TypedExpr Place). IsExpr m w
      (linked_to y (expr.Odd e) l)) (sym (expr.outs-Odd e))
      (Chain (expr.Odd e) (l ∷ []) (Odd e p) (more_links l [] k no_links))
  linked_formed _ l (Ord e p) k = subst (λ (y : TypedExpr-F Argument Call Component Link TypedExpr Place). IsExpr m w
      (linked_to y (expr.Ord e) l)) (sym (expr.outs-Ord e))
      (Chain (expr.Ord e) (l ∷ []) (Ord e p) (more_links l [] k no_links))
  linked_formed _ l (Val t e p) k = subst
      (λ (y : TypedExpr-F Argument Call Component Link TypedExpr Place). IsExpr m w (linked_to y (expr.Val t e) l))
      (sym (expr.outs-Val t e)) (Chain (expr.Val t e) (l ∷ []) (Val t e p) (more_links l [] k no_links))
  linked_formed _ l (High x) k = subst (λ (y : TypedExpr-F Argument Call Component Link TypedExpr Place). IsExpr m w
      (linked_to y (expr.High x) l)) (sym (expr.outs-High x))
      (Chain (expr.High x) (l ∷ []) (High x) (more_links l [] k no_links))
  linked_formed _ l (FunctionCall t c p) k =
      subst (λ (y : TypedExpr-F Argument Call Component Link TypedExpr Place). IsExpr m w
      (linked_to y (expr.Call t c) l)) (sym (expr.outs-Call t c))
      (Chain (expr.Call t c) (l ∷ []) (FunctionCall t c p) (more_links l [] k no_links))

  components_more : (cs : List Component) (c : Component) → AreComponents m w cs → IsComponent m w c
      → AreComponents m w (cs ++ c ∷ [])
  components_more _ c no_components k = more_components c [] k no_components
  components_more _ c (more_components x xs p ps) k = more_components x (xs ++ c ∷ []) p (components_more xs c ps k)

  pub behind_formed : (d : Place) (c : Component) → IsPlace m w d → IsComponent m w c → IsPlace m w (behind d c)
  behind_formed _ c (Designator d r cs) k = Designator (behind d c) r (components_more d.components c cs k)

  pub rooted_formed : (r : Root) → IsRoot m w r → IsPlace m w (root_place r)
  rooted_formed r k = Designator (root_place r) k no_components

  -- ---- sides

  abbrev pub FormedAmount : Amount → Type 0
  FormedAmount (Known a) = Unit {0}
  FormedAmount (Run b e) = IsExpr m w e

  abbrev pub FormedSide : Option Side → Type 0
  FormedSide None = Unit {0}
  FormedSide (Some (side.Scalar a)) = FormedAmount a
  FormedSide (Some (side.Set e)) = IsExpr m w e
  FormedSide (Some (side.Routine t e)) = IsExpr m w e
  FormedSide (Some (side.Procedure p)) = IsProcedure m p

  constant_formed : (o : Option Operand) → FormedSide (constant_side o)
  constant_formed None = tt
  constant_formed (Some (operand.Scalar a)) = tt
  constant_formed (Some (operand.Set bits)) = Constant bitset (pos bits)

  pub side_formed : (x : Computed) → FormedValue m w x → FormedSide (side_of x)
  side_formed (value.Constant v) p = constant_formed (operand_of v)
  side_formed (value.Scalar t b e) p = p
  side_formed (value.Set e) p = p
  side_formed (value.Routine t e) p = p
  side_formed (value.Procedure f) p = p
  side_formed (value.Whole t d) p = tt
  side_formed value.Untaken p = tt

  run_formed : (t : TypeNo) (a : Amount) → FormedAmount a → IsExpr m w (run_of t a)
  run_formed t (Known a) p = Constant t a.number
  run_formed t (Run b e) p = p

  module _ (g : Gathers) where
    abbrev Value_ : Result Computed g.Reported → Type 0
    Value_ r = Holds (FormedValue m w) r

    pub of_value_formed : (r : Result Value g.Reported) → Value_ (of_value r)
    of_value_formed r = then_holds (any_holds r) (λ x h. fine (value.Constant x) tt)

    -- ---- signs

    signed_scalar_formed : (o : Sign) (at : Pos) (b : TypeNo) (e : TypedExpr) → IsExpr m w e
        → Value_ (signed_scalar g o at b e)
    signed_scalar_formed sign.Plus at b e p =
        where_holds g (not (is_numeric b)) at rule.WrongType (fine (value.Scalar b b (expr.Plus b e)) (Plus b e p))
    signed_scalar_formed sign.Minus at b e p =
        where_holds g (not (is_integer b)) at rule.WrongType (fine (value.Scalar b b (expr.Negate e)) (Negate e p))

    signed_value_formed : (o : Sign) (at : Pos) (x : Computed) → FormedValue m w x → Value_ (signed_value g o at x)
    signed_value_formed o at (value.Constant v) p = of_value_formed _
    signed_value_formed o at (value.Scalar t b e) p = signed_scalar_formed o at b e p
    signed_value_formed o at (value.Set e) p = reported_holds g at rule.WrongType
    signed_value_formed o at (value.Routine t e) p = reported_holds g at rule.WrongType
    signed_value_formed o at (value.Procedure f) p = reported_holds g at rule.WrongType
    signed_value_formed o at (value.Whole t d) p = reported_holds g at rule.WrongType
    signed_value_formed o at value.Untaken p = reported_holds g at rule.WrongType

    pub signed_formed : (o : Sign) (at : Pos) {x : Result Computed g.Reported} → Value_ x → Value_ (with_sign g o at x)
    signed_formed o at h = then_holds h (λ x p. signed_value_formed o at x p)

    negated_value_formed : (at : Pos) (x : Computed) → FormedValue m w x → Value_ (negated_value g at x)
    negated_value_formed at (value.Constant v) p = of_value_formed _
    negated_value_formed at (value.Scalar t b e) p =
        where_holds g (not (are_same b boolean)) at rule.WrongType (fine (truth_of (expr.Not e)) (Not e p))
    negated_value_formed at (value.Set e) p = reported_holds g at rule.WrongType
    negated_value_formed at (value.Routine t e) p = reported_holds g at rule.WrongType
    negated_value_formed at (value.Procedure f) p = reported_holds g at rule.WrongType
    negated_value_formed at (value.Whole t d) p = reported_holds g at rule.WrongType
    negated_value_formed at value.Untaken p = reported_holds g at rule.WrongType

    pub negated_formed : (at : Pos) {x : Result Computed g.Reported} → Value_ x → Value_ (negation g at x)
    negated_formed at h = then_holds h (λ x p. negated_value_formed at x p)

    -- ---- operators

    built_formed : (t : TypeNo) (x y : TypedExpr) (o : Step) → IsExpr m w x → IsExpr m w y
        → FormedValue m w (step_result t x y o)
    built_formed t x y (step.Arithmetic o) p q = linked_formed x (link.Arithmetic o t y) p (Operated o t y q)
    built_formed t x y step.And p q = linked_formed x (link.And y) p (And y q)
    built_formed t x y step.Or p q = linked_formed x (link.Or y) p (Or y q)
    built_formed t x y (step.Compare c) p q = Compare c x y p q

    stepped_formed : (at : Pos) (sort : Option TypeNo) (a b : Amount) (o : Option Step) → FormedAmount a
        → FormedAmount b → Value_ (step_or_refusal g at sort a b o)
    stepped_formed at sort a b None p q = reported_holds g at rule.WrongType
    stepped_formed at sort a b (Some o) p q =
        fine (step_result (or_cardinal sort) (run_of (or_cardinal sort) a) (run_of (or_cardinal sort) b) o)
        (built_formed (or_cardinal sort) (run_of (or_cardinal sort) a) (run_of (or_cardinal sort) b) o
        (run_formed (or_cardinal sort) a p) (run_formed (or_cardinal sort) b q))

    amounts_formed : (op : BinaryOp) (spot at : Pos) (a : Amount) (at' : Pos) (b : Amount) (o : Option (Option TypeNo))
        → FormedAmount a → FormedAmount b → Value_ (on_amounts g op spot at a at' b o)
    amounts_formed op spot at a at' b None p q = reported_holds g spot rule.WrongType
    amounts_formed op spot at a at' b (Some sort) p q =
        then_holds (any_holds (fitting_both g op spot sort at a at' b))
        (λ f h. stepped_formed spot sort a b (step_of op) p q)

    member_formed : (op : BinaryOp) (spot at : Pos) (a : Amount) (s : TypedExpr) → FormedAmount a → IsExpr m w s
        → Value_ (member g op spot at a s)
    member_formed op spot at a s p q =
        where_holds g (not (is_in op && is_number (sort_of a))) spot rule.WrongType
        (then_holds (any_holds (element_fits g at a))
        (λ f h. fine (truth_of (expr.In (run_of (or_cardinal (sort_of a)) a) s))
        (In (run_of (or_cardinal (sort_of a)) a) s (run_formed (or_cardinal (sort_of a)) a p) q)))

    set_built_formed : (x y : TypedExpr) (o : SetStep) → IsExpr m w x → IsExpr m w y → FormedValue m w (set_built x y o)
    set_built_formed x y (set_step.Combine o) p q = linked_formed x (link.Combine o y) p (Combine o y q)
    set_built_formed x y (set_step.Compare c) p q = Compare c x y p q
    set_built_formed x y (set_step.Include i) p q = Include i x y p q

    sets_formed : (at : Pos) (x y : TypedExpr) (o : Option SetStep) → IsExpr m w x → IsExpr m w y
        → Value_ (on_sets g at x y o)
    sets_formed at x y None p q = reported_holds g at rule.WrongType
    sets_formed at x y (Some o) p q = fine (set_built x y o) (set_built_formed x y o p q)

    scalar_formed : (op : BinaryOp) (spot at : Pos) (a : Amount) (at' : Pos) (y : Option Side) → FormedAmount a
        → FormedSide y → Value_ (with_scalar g op spot at a at' y)
    scalar_formed op spot at a at' None p q = reported_holds g spot rule.WrongType
    scalar_formed op spot at a at' (Some (side.Scalar b)) p q =
        amounts_formed op spot at a at' b (common (sort_of a) (sort_of b)) p q
    scalar_formed op spot at a at' (Some (side.Set s)) p q = member_formed op spot at a s p q
    scalar_formed op spot at a at' (Some (side.Routine t e)) p q = reported_holds g spot rule.WrongType
    scalar_formed op spot at a at' (Some (side.Procedure f)) p q = reported_holds g spot rule.WrongType

    with_set_formed : (op : BinaryOp) (spot : Pos) (x : TypedExpr) (y : Option Side) → IsExpr m w x → FormedSide y
        → Value_ (with_set g op spot x (set_in y))
    with_set_formed op spot x None p q = reported_holds g spot rule.WrongType
    with_set_formed op spot x (Some (side.Scalar b)) p q = reported_holds g spot rule.WrongType
    with_set_formed op spot x (Some (side.Set s)) p q = sets_formed spot x s (set_step_of op) p q
    with_set_formed op spot x (Some (side.Routine t e)) p q = reported_holds g spot rule.WrongType
    with_set_formed op spot x (Some (side.Procedure f)) p q = reported_holds g spot rule.WrongType

    procedures_formed : (at : Pos) (fit : Bool) (x y : TypedExpr) (o : Option Comparison) → IsExpr m w x → IsExpr m w y
        → Value_ (on_procedures g at fit x y o)
    procedures_formed at fit x y None p q = reported_holds g at rule.WrongType
    procedures_formed at fit x y (Some c) p q =
        where_holds g (not fit) at rule.WrongType (fine (truth_of (expr.Compare c x y)) (Compare c x y p q))

    abbrev FormedPartner : Option (Bool × TypedExpr) → Type 0
    FormedPartner None = Unit {0}
    FormedPartner (Some p) = IsExpr m w p.1

    partner_formed : (types : Types) (t : TypeNo) (y : Option Side) → FormedSide y
        → FormedPartner (partner_of types t y)
    partner_formed types t None q = tt
    partner_formed types t (Some (side.Scalar b)) q = tt
    partner_formed types t (Some (side.Set s)) q = tt
    partner_formed types t (Some (side.Routine u e)) q = q
    partner_formed types t (Some (side.Procedure f)) q = ProcedureValue f q

    routine_formed : (types : Types) (f : Procedure) (y : Option Side) → FormedSide y
        → FormedPartner (routine_of types f y)
    routine_formed types f None q = tt
    routine_formed types f (Some (side.Scalar b)) q = tt
    routine_formed types f (Some (side.Set s)) q = tt
    routine_formed types f (Some (side.Routine u e)) q = q
    routine_formed types f (Some (side.Procedure h)) q = tt

    with_partner_formed : (at : Pos) (x : TypedExpr) (c : Option Comparison) (o : Option (Bool × TypedExpr))
        → IsExpr m w x → FormedPartner o → Value_ (with_partner g at x c o)
    with_partner_formed at x c None p q = reported_holds g at rule.WrongType
    with_partner_formed at x c (Some o) p q = procedures_formed at o.0 x o.1 c p q

    between_formed : (types : Types) (op : BinaryOp) (spot at : Pos) (x : Option Side) (at' : Pos) (y : Option Side)
        → FormedSide x → FormedSide y → Value_ (between g types op spot at x at' y)
    between_formed types op spot at None at' y p q = reported_holds g spot rule.WrongType
    between_formed types op spot at (Some (side.Scalar a)) at' y p q = scalar_formed op spot at a at' y p q
    between_formed types op spot at (Some (side.Set e)) at' y p q = with_set_formed op spot e y p q
    between_formed types op spot at (Some (side.Routine t e)) at' y p q =
        with_partner_formed spot e (equality_of op) (partner_of types t y) p (partner_formed types t y q)
    between_formed types op spot at (Some (side.Procedure f)) at' y p q =
        with_partner_formed spot (expr.Procedure f) (equality_of op) (routine_of types f y) (ProcedureValue f p)
        (routine_formed types f y q)

    known_formed : (types : Types) (op : BinaryOp) (spot at : Pos) (x : Computed) (at' : Pos) (y : Computed)
        (a b : Option Operand) → FormedValue m w x → FormedValue m w y
        → Value_ (by_known g types op spot at x at' y a b)
    known_formed types op spot at x at' y None b p q =
        between_formed types op spot at (side_of x) at' (side_of y) (side_formed x p) (side_formed y q)
    known_formed types op spot at x at' y (Some a) None p q =
        between_formed types op spot at (side_of x) at' (side_of y) (side_formed x p) (side_formed y q)
    known_formed types op spot at x at' y (Some a) (Some b) p q = of_value_formed _

    pub combined_formed : (types : Types) (op : BinaryOp) (spot at : Pos) {x : Result Computed g.Reported} (at' : Pos)
        {y : Result Computed g.Reported} → Value_ x → Value_ y → Value_ (operation_between g types op spot at x at' y)
    combined_formed types op spot at at' p q =
        then_holds (both_holds g p q) (λ v h. known_formed types op spot at v.0 at' v.1 (known_of v.0) (known_of v.1)
        h.0 h.1)

    -- ---- what places take

    abbrev Expr_ : Result TypedExpr g.Reported → Type 0
    Expr_ r = Holds (IsExpr m w) r

    scalar_suited_formed : (broken : Rule) (t : TypeNo) (s : Range) (at : Pos) (x : Option Side) → FormedSide x
        → Expr_ (scalar_suited g broken t s at x)
    scalar_suited_formed broken t s at None p = reported_holds g at broken
    scalar_suited_formed broken t s at (Some (side.Scalar (Known a))) p =
        where_holds g _ at broken (where_holds g _ at rule.OutOfRange
        (fine (expr.Constant t a.number) (Constant t a.number)))
    scalar_suited_formed broken t s at (Some (side.Scalar (Run b e))) p = where_holds g _ at broken (fine e p)
    scalar_suited_formed broken t s at (Some (side.Set e)) p = reported_holds g at broken
    scalar_suited_formed broken t s at (Some (side.Routine u e)) p = reported_holds g at broken
    scalar_suited_formed broken t s at (Some (side.Procedure f)) p = reported_holds g at broken

    set_suited_formed : (broken : Rule) (at : Pos) (x : Option Side) → FormedSide x → Expr_ (set_suited g broken at x)
    set_suited_formed broken at None p = reported_holds g at broken
    set_suited_formed broken at (Some (side.Scalar a)) p = reported_holds g at broken
    set_suited_formed broken at (Some (side.Set e)) p = fine e p
    set_suited_formed broken at (Some (side.Routine u e)) p = reported_holds g at broken
    set_suited_formed broken at (Some (side.Procedure f)) p = reported_holds g at broken

    procedure_suited_formed : (broken : Rule) (types : Types) (t : TypeNo) (at : Pos) (x : Option Side) → FormedSide x
        → Expr_ (procedure_suited g broken types t at x)
    procedure_suited_formed broken types t at None p = reported_holds g at broken
    procedure_suited_formed broken types t at (Some (side.Scalar a)) p = reported_holds g at broken
    procedure_suited_formed broken types t at (Some (side.Set e)) p = reported_holds g at broken
    procedure_suited_formed broken types t at (Some (side.Routine u e)) p = where_holds g _ at broken (fine e p)
    procedure_suited_formed broken types t at (Some (side.Procedure f)) p =
        where_holds g _ at broken (fine (expr.Procedure f) (ProcedureValue f p))

    value_in_formed : (broken : Rule) (types : Types) (t : TypeNo) (at : Pos) (x : Option Side) (c : Class)
        → FormedSide x → Expr_ (value_in g broken types t at x c)
    value_in_formed broken types t at x (class.Scalar s) p = scalar_suited_formed broken t s at x p
    value_in_formed broken types t at x class.Set p = set_suited_formed broken at x p
    value_in_formed broken types t at x class.Procedure p = procedure_suited_formed broken types t at x p
    value_in_formed broken types t at x class.Whole p = reported_holds g at broken

    pub suited_formed : (broken : Rule) (types : Types) (t : TypeNo) (at : Pos) (x : Computed) → FormedValue m w x
        → Expr_ (value_suited g broken types t at x)
    suited_formed broken types t at x p = value_in_formed broken types t at (side_of x) (class_at types t)
        (side_formed x p)

    -- ---- components

    module _ (opens : ℕ → Bool) where
      abbrev Designated_ : Result Designated g.Reported → Type 0
      Designated_ r = Holds (FormedDesignated m opens w) r

      pub field_formed : (types : Types) (at : Pos) (name : Ident) (d : Designated) → FormedDesignated m opens w d
          → Designated_ (field g types at name d)
      field_formed types at name (designated.Variable t d) p =
          then_holds (any_holds (record_field g at name (fields_at types t)))
          (λ f h. fine (designated.Variable f.1 (behind d (part.Field t f.0)))
          (behind_formed d (part.Field t f.0) p (FieldOf t f.0)))
      field_formed types at name (designated.Value x) p = reported_holds g at rule.WrongType
      field_formed types at name (designated.Open t slot) p = reported_holds g at rule.WrongType
      field_formed types at name (designated.Type t) p = reported_holds g at rule.WrongType
      field_formed types at name (designated.Procedure f) p = reported_holds g at rule.WrongType
      field_formed types at name (designated.Nested f) p = reported_holds g at rule.WrongType
      field_formed types at name (designated.Standard f) p = reported_holds g at rule.WrongType
      field_formed types at name (designated.Module k) p = reported_holds g at rule.WrongType

      abbrev FormedSubscripted : Subscripted → Type 0
      FormedSubscripted (indexes.Array t i e d) = IsPlace m w d
      FormedSubscripted (indexes.Open t slot) = Unit {0}

      array_formed : (at : Pos) (t : TypeNo) (d : Place) (o : Option (TypeNo × TypeNo)) → IsPlace m w d
          → Holds FormedSubscripted (array_indexed g at t d o)
      array_formed at t d None p = reported_holds g at rule.WrongType
      array_formed at t d (Some a) p = fine (indexes.Array t a.0 a.1 d) p

      indices_formed : (types : Types) (at : Pos) (d : Designated) → FormedDesignated m opens w d
          → Holds FormedSubscripted (indices g types at d)
      indices_formed types at (designated.Variable t d) p = array_formed at t d (array_at types t) p
      indices_formed types at (designated.Open t slot) p = fine (indexes.Open t slot) tt
      indices_formed types at (designated.Value x) p = reported_holds g at rule.WrongType
      indices_formed types at (designated.Type t) p = reported_holds g at rule.WrongType
      indices_formed types at (designated.Procedure f) p = reported_holds g at rule.WrongType
      indices_formed types at (designated.Nested f) p = reported_holds g at rule.WrongType
      indices_formed types at (designated.Standard f) p = reported_holds g at rule.WrongType
      indices_formed types at (designated.Module k) p = reported_holds g at rule.WrongType

      picked_formed : (x : TypedExpr) (a : Subscripted) → IsExpr m w x → FormedSubscripted a
          → FormedDesignated m opens w (element_of_array x a)
      picked_formed x (indexes.Array t i e d) p q = behind_formed d (part.Element t x) q (Element t x p)
      picked_formed x (indexes.Open t slot) p q =
          behind_formed (root_place (root.Open slot)) (part.OpenElement slot t x) (rooted_formed (root.Open slot) tt)
          (OpenElement slot t x p)

      pub indexed_formed : (types : Types) (at : Pos) {d : Result Designated g.Reported} (at' : Pos)
          {x : Result Computed g.Reported} → Designated_ d → Value_ x
          → Designated_ (element_at_index g types (d ▷ indices g types at) at' x)
      indexed_formed types at at' p q =
          then_holds (both_holds g (then_holds p (λ d h. indices_formed types at d h)) q)
          (λ v h. then_holds (suited_formed rule.NotAssignable types (index_type v.0) at' v.1 h.1)
          (λ e k. fine (element_of_array e v.0) (picked_formed e v.0 k h.0)))
