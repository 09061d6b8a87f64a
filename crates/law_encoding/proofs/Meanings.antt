-- What expressions and designators mean weighs no more than they allow: a lemma for each construct, and then the
-- induction.
use Rattle.std.proofs.Common.{map, ◌≡◌, ℕ, ◌≤◌, Bool, true, false, List, [], ◌∷◌, ◌++◌, length, Option, Some, None}
use Rattle.std.proofs.Common.{Result, Ok, sym, ap, subst, ◌∙◌, arith}
use Rattle.std.specs.Prelude.{cond}
use Rattle.std.specs.List.{fold}
use Rattle.m2_rule.specs.declared.rule.Rule.TheVariants as rule
use Rattle.m2_tree.specs.declared.pos.Pos.{Pos}
use Rattle.m2_tree.specs.declared.name.Ident.{Ident}
use Rattle.m2_tree.specs.declared.expr.MulOp.{MulOp}
use Rattle.m2_tree.specs.declared.expr.AddOp.{AddOp}
use Rattle.m2_tree.specs.declared.expr.RelOp.{RelOp}
use Rattle.m2_tree.specs.declared.expr.Sign.{Sign}
use Rattle.m2_tree.specs.declared.expr.Operator.{Operator}
use Rattle.m2_tree.specs.declared.expr.Expr.{Expr, Expr-F, out-Expr, roll-Expr, out-roll-Expr, map-Expr, fold_out-Expr}
use Rattle.m2_tree.specs.declared.expr.Expr.{ind-Expr}
use Rattle.m2_tree.specs.declared.expr.Expr.TheOpen as layer
use Rattle.m2_tree.specs.declared.expr.Selector.{Selector, Selector-F, out-Selector, roll-Selector, out-roll-Selector}
use Rattle.m2_tree.specs.declared.expr.Selector.{map-Selector, fold_out-Selector}
use Rattle.m2_tree.specs.declared.expr.Designator.{Designator, Designator-F, out-Designator, roll-Designator}
use Rattle.m2_tree.specs.declared.expr.Designator.{out-roll-Designator, map-Designator, fold_out-Designator}
use Rattle.m2_tree.specs.declared.expr.Designator.{ind-Designator}
use Rattle.m2_tree.specs.declared.expr.Item.{Item}
use Rattle.typed_tree.specs.declared.computed.Argument.{Argument}
use Rattle.typed_tree.specs.declared.computed.Component.TheVariants as part
use Rattle.typed_tree.specs.declared.computed.Root.TheVariants as root
use Rattle.typed_tree.specs.declared.computed.TypedExpr.TheVariants as expr
use Rattle.typed_tree.specs.declared.meaning.LocalKind.{LocalKind}
use Rattle.typed_tree.specs.declared.meaning.LocalKind.TheVariants as kind
use Rattle.typed_tree.specs.declared.meaning.LocalVariable.{LocalVariable}
use Rattle.typed_tree.specs.declared.meaning.Meaning.{Meaning}
use Rattle.typed_tree.specs.declared.meaning.Meaning.TheVariants as meaning
use Rattle.typed_tree.specs.declared.meaning.Standard.{Standard}
use Rattle.typed_tree.specs.declared.shape.Formal.{Formal}
use Rattle.typed_tree.specs.declared.types.TypeNo.{TypeNo}
use Rattle.typed_tree.specs.Chains.{root_place}
use Rattle.check_scope.specs.declared.meaningless.Meaningless.{Meaningless}
use Rattle.check_scope.specs.Elaborated.{Gathers, of_sort, of_value}
use Rattle.check_scope.specs.declared.scope.Scope.{Scope}
use Rattle.check_const.specs.Parts.{Part, Adds, sign_place}
use Rattle.check_const.specs.Operators.{mul_op, add_op}
use Rattle.check_const.specs.declared.operator.BinaryOp.TheVariants as op
use Rattle.check_value.specs.Classes.{signature_at}
use Rattle.check_value.specs.Values.{slot_of, local_by, designated_by, function_result}
use Rattle.check_value.specs.declared.computed.Computed.{Computed}
use Rattle.check_value.specs.declared.computed.Computed.TheVariants as value
use Rattle.check_value.specs.declared.computed.Designated.{Designated}
use Rattle.check_value.specs.declared.computed.Designated.TheVariants as designated
use Rattle.check_value.specs.Actuals.{next_formal, with_argument}
use Rattle.check_value.specs.Callees.{function_of, call_by}
use Rattle.check_value.specs.Functions.{form_of}
use Rattle.check_value.specs.declared.callee.Callee.{Callee}
use Rattle.check_value.specs.declared.callee.Called.{Called}
use Rattle.check_value.specs.declared.callee.Called.TheVariants as called
use Rattle.check_value.specs.declared.standard.Form.{Form}
use Rattle.check_value.specs.declared.standard.Form.TheVariants as form
use Rattle.check_value.specs.declared.standard.Unary.{Unary}
use Rattle.check_expr.specs.Meanings.{Meant, Picks, of_computed, signed_first, first_name, field_of, formals_of}
use Rattle.check_expr.specs.Meanings.{argument_by, call_given, as_constant, value_of, breaches_in_all, with_actual}
use Rattle.check_expr.specs.Meanings.{actuals, routine_called, unary, bound, conversion, high, by_form, callee_value}
use Rattle.check_expr.specs.Meanings.{call_in_expression, factor, term, relation, expr_layer, selector_layer}
use Rattle.check_expr.specs.Meanings.{designator_layer, item_layer, meanings_of, picks, head, item}
use Rattle.law_encoding.specs.Counted.{AtMost, fine}
use Rattle.law_encoding.proofs.Sums.{le_of, le_by}
use Rattle.law_encoding.proofs.Ways.{Way, ◌⊕⟨◌⟩◌, node, operand, second, all_of, total_of, arguments, operands}
use Rattle.law_encoding.proofs.Ways.{weight_passed, weight_value, weight_meant}
use Rattle.law_encoding.proofs.WaySums.{none_of, all_pushed, no_more, sum_again, none_left, all_again, only_one}
use Rattle.law_encoding.proofs.WaySums.{second_one, argument_in, one_more, two_more, call_sum, both_most}
use Rattle.law_encoding.proofs.WayTrees.{base, IsNear, constant_name, procedure_name, global_name, field_name}
use Rattle.law_encoding.proofs.WayTrees.{local_name, open_name, nested_name, base_again, base_still, bound_expr}
use Rattle.law_encoding.proofs.WayTrees.{bound_selector, bound_designator, expr_form, selector_form, designator_form}
use Rattle.law_encoding.proofs.WayTrees.{expr_opened, selector_opened, designator_opened, of_number, of_char, of_text}
use Rattle.law_encoding.proofs.WayTrees.{of_set, of_not, of_brackets, of_name, of_call, of_term, of_sum, of_relation}
use Rattle.law_encoding.proofs.WayTrees.{of_field, of_index, of_selectors}
use Rattle.law_encoding.proofs.Results.{then_most, at_more, reported_most, reported_beside_most, ahead_most, sort_most}
use Rattle.law_encoding.proofs.Results.{of_heading_most, of_value_most, sort_of_value_most, plain_most, any_most}
use Rattle.law_encoding.proofs.Operators.{behind_weight, rooted_weight, signed_most, negated_most, combined_most}
use Rattle.law_encoding.proofs.Operators.{field_most, indexed_most}
use Rattle.law_encoding.proofs.Calls.{weight_callee, weight_called, call_most, given_most, taken_most, actual_most}
use Rattle.law_encoding.proofs.Calls.{callee_most, unary_most, bound_most, conversion_most, high_most}
use Rattle.law_encoding.proofs.Weighed.{component_is, expr_is}

module _ (w : Way) where
  infixl 65 ◌⊕◌
  abbrev ◌⊕◌ : ℕ → ℕ → ℕ
  m ⊕ n = m ⊕⟨ w ⟩ n

  module _ (g : Gathers) (s : Scope g.Reported) where
    abbrev pub Value_ : ℕ → Result Computed g.Reported → Type 0
    Value_ n r = AtMost (weight_value w) n r

    abbrev pub Designated_ : {T : Type 0} → ℕ → Result Designated T → Type 0
    Designated_ n r = AtMost (weight_meant w) n r

    abbrev pub FM : ℕ → Meant g.Reported → Type 0
    FM n x = Designated_ n (x.means s)

    abbrev FP : ℕ → Picks g.Reported → Type 0
    FP n p = (k : ℕ) (d : Result Designated (Meaningless g.Reported)) → base w ≤ k → Designated_ k d
        → Designated_ (k ⊕ n) (p.picks s d)

    -- each counts at most its number
    abbrev pub AllM : List ℕ → List (Meant g.Reported) → Type 0
    AllM [] [] = Unit {0}
    AllM (n ∷ ns) (x ∷ xs) = FM n x × AllM ns xs
    AllM [] (x ∷ xs) = ⊥
    AllM (n ∷ ns) [] = ⊥

    abbrev AllT : {O : Type 0} → List (Operator O × ℕ) → List (Operator O × Meant g.Reported) → Type 0
    AllT [] [] = Unit {0}
    AllT (n ∷ ns) (x ∷ xs) = FM n.1 x.1 × AllT ns xs
    AllT [] (x ∷ xs) = ⊥
    AllT (n ∷ ns) [] = ⊥

    abbrev AllP : List ℕ → List (Picks g.Reported) → Type 0
    AllP [] [] = Unit {0}
    AllP (n ∷ ns) (x ∷ xs) = FP n x × AllP ns xs
    AllP [] (x ∷ xs) = ⊥
    AllP (n ∷ ns) [] = ⊥

    pub value_most : (n : ℕ) (x : Meant g.Reported) → FM n x → Value_ n (value_of g s x)
    value_most n x p = then_most (of_value_most g x.fixed.at p) (λ d k. taken_most w g s.types n x.fixed.at d k)

    constant_meant : (n : ℕ) (x : Part g.Reported) → node w ≤ n → Designated_ n (as_constant g s x)
    constant_meant n x l = plain_most (then_most (any_most _) (λ v k. fine (designated.Value (value.Constant v)) l))

    computed_most : (n : ℕ) {r : Result Computed g.Reported} → Value_ n r → Designated_ n (of_computed r)
    computed_most n p = plain_most (then_most p (λ v k. fine (designated.Value v) k))

    -- ---- calls

    passed_by : (n : ℕ) (is_var : Bool) (at : Pos) {d : Result Designated (Meaningless g.Reported)} → Designated_ n d
        → Designated_ n (cond is_var (of_sort g at rule.NoVariable d) (of_value g at d))
    passed_by n true at p = sort_most g at rule.NoVariable p
    passed_by n false at p = of_value_most g at p

    argument_most : (n : ℕ) (o : Option Formal) (at : Pos) {d : Result Designated (Meaningless g.Reported)}
        → Designated_ n d → AtMost (weight_passed w) (node w ⊕ n) (argument_by g s.types o at d)
    argument_most n None at p = reported_most g at rule.ArgumentCount
    argument_most n (Some f) at p = then_most (passed_by n f.is_var at p) (λ d k. actual_most w g s.types n f at d k)

    -- so many arguments
    abbrev pub weight_list : List Argument → ℕ
    weight_list xs = all_of w (weight_passed w) xs

    with_argument_most : (n k : ℕ) {r : Result (List Argument) g.Reported} {a : Result Argument g.Reported}
        → AtMost weight_list k r → AtMost (weight_passed w) n a → AtMost weight_list (k ⊕ n) (with_argument g r a)
    with_argument_most n k p q = then_most (both_most g w p q)
        (λ v l. fine (v.0 ++ v.1 ∷ []) (le_by _ _ (k ⊕ n) (all_pushed w (weight_passed w) v.0 v.1) l))

    pub args_most : (ns : List ℕ) (args : List (Meant g.Reported)) (fs : List Formal) (k : ℕ)
        (r : Result (List Argument) g.Reported) → AtMost weight_list k r → AllM ns args
        → AtMost weight_list (k ⊕ arguments w ns) (fold (with_actual g s) (fs, r) args).1
    args_most [] [] fs k r p all = at_more (no_more w (λ n. node w ⊕ n) k) p
    args_most [] (x ∷ args) fs k r p all = absurd all
    args_most (n ∷ ns) [] fs k r p all = absurd all
    args_most (n ∷ ns) (x ∷ args) fs k r p all =
        at_more (sum_again w (λ n. node w ⊕ n) k n ns)
        (args_most ns args (next_formal fs).1 (k ⊕ (node w ⊕ n)) _
        (with_argument_most (node w ⊕ n) k p (argument_most n (next_formal fs).0 x.fixed.at all.0)) all.1)

    pub actuals_most : (ns : List ℕ) (args : List (Meant g.Reported)) (fs : List Formal) → AllM ns args
        → AtMost weight_list (0 ⊕ arguments w ns) (actuals g s fs args)
    actuals_most ns args fs all = args_most ns args fs 0 (Ok []) (fine [] (le_of _ 0 (none_of w (weight_passed w)))) all

    call_given_most : (k n : ℕ) (t : TypeNo) (c : Callee) {args : Result (List Argument) g.Reported}
        → weight_callee w c ≤ k → AtMost weight_list (0 ⊕ n) args
        → Value_ (node w ⊕ (k ⊕ n)) (call_given g s.types t c args)
    call_given_most k n t c l p =
        then_most p (λ xs q. fine (function_result s.types t (expr.Call t (call_by xs c)))
        (given_most w g s.types (node w ⊕ (k ⊕ n)) t (expr.Call t (call_by xs c))
        (call_sum w _ _ _ _ k n (expr_is w _ (expr.outs-Call t (call_by xs c))) (call_most w c xs) l q)))

    routine_most : (k : ℕ) (ns : List ℕ) (at : Pos) (t : TypeNo) (c : Callee) (args : List (Meant g.Reported))
        → weight_callee w c ≤ k → AllM ns args → Value_ (node w ⊕ (k ⊕ arguments w ns)) (routine_called g s at t c args)
    routine_most k ns at t c args l all =
        ahead_most g (breaches_in_all g s args) (any_most (function_of g at (signature_at s.types t) (length args)))
        (λ r h. call_given_most k (arguments w ns) r c l (actuals_most ns args (formals_of (signature_at s.types t))
        all))

    -- ---- standard functions

    unary_all : (k : ℕ) (ns : List ℕ) (at : Pos) (f : Standard) (u : Unary) (args : List (Meant g.Reported))
        → AllM ns args → Value_ (node w ⊕ (k ⊕ arguments w ns)) (unary g s at f u args)
    unary_all k ns at f u [] all = reported_beside_most g at rule.ArgumentCount (breaches_in_all g s [])
    unary_all k [] at f u (x ∷ []) all = absurd all
    unary_all k (n ∷ []) at f u (x ∷ []) all = at_more (only_one w k n [])
        (then_most (value_most n x all.0) (λ v p. unary_most w g s.types n f u x.fixed.at v p))
    unary_all k (n ∷ m ∷ ns) at f u (x ∷ []) all = absurd all.1
    unary_all k ns at f u (x ∷ y ∷ xs) all = reported_beside_most g at rule.ArgumentCount _

    bound_all : (k n : ℕ) (at : Pos) (f : Standard) (args : List (Meant g.Reported))
        → Value_ (node w ⊕ (k ⊕ n)) (bound g s at f args)
    bound_all k n at f [] = reported_beside_most g at rule.ArgumentCount (breaches_in_all g s [])
    bound_all k n at f (x ∷ []) = bound_most w g s.types (k ⊕ n) f _
    bound_all k n at f (x ∷ y ∷ xs) = reported_beside_most g at rule.ArgumentCount _

    conversion_all : (k : ℕ) (ns : List ℕ) (at : Pos) (args : List (Meant g.Reported)) → AllM ns args
        → Value_ (node w ⊕ (k ⊕ arguments w ns)) (conversion g s at args)
    conversion_all k ns at [] all = reported_beside_most g at rule.ArgumentCount (breaches_in_all g s [])
    conversion_all k ns at (t ∷ []) all = reported_beside_most g at rule.ArgumentCount _
    conversion_all k [] at (t ∷ x ∷ []) all = absurd all
    conversion_all k (m ∷ []) at (t ∷ x ∷ []) all = absurd all.1
    conversion_all k (m ∷ n ∷ ns) at (t ∷ x ∷ []) all =
        at_more (second_one w k m n ns) (conversion_most w g s.types n _ x.fixed.at (value_most n x all.1.0))
    conversion_all k ns at (t ∷ x ∷ y ∷ xs) all = reported_beside_most g at rule.ArgumentCount _

    high_all : (k : ℕ) (ns : List ℕ) (at : Pos) (args : List (Meant g.Reported)) → AllM ns args
        → Value_ (node w ⊕ (k ⊕ arguments w ns)) (high g s at args)
    high_all k ns at [] all = reported_beside_most g at rule.ArgumentCount (breaches_in_all g s [])
    high_all k [] at (x ∷ []) all = absurd all
    high_all k (n ∷ ns) at (x ∷ []) all = then_most (sort_of_value_most g x.fixed.at rule.WrongArgument all.0)
        (λ d p. high_most w g s.types (k ⊕ arguments w (n ∷ ns)) x.fixed.at d (argument_in w (weight_meant w d) k n ns
        p))
    high_all k ns at (x ∷ y ∷ xs) all = reported_beside_most g at rule.ArgumentCount _

    form_most : (k : ℕ) (ns : List ℕ) (at : Pos) (f : Standard) (args : List (Meant g.Reported)) (o : Form)
        → AllM ns args → Value_ (node w ⊕ (k ⊕ arguments w ns)) (by_form g s at f args o)
    form_most k ns at f args (form.Unary u) all = unary_all k ns at f u args all
    form_most k ns at f args form.Bound all = bound_all k (arguments w ns) at f args
    form_most k ns at f args form.Conversion all = conversion_all k ns at args all
    form_most k ns at f args form.High all = high_all k ns at args all
    form_most k ns at f args form.Proper all = reported_beside_most g at rule.WrongType _

    called_as_most : (k : ℕ) (ns : List ℕ) (at : Pos) (args : List (Meant g.Reported)) (x : Called)
        → weight_called w x ≤ k → AllM ns args → Value_ (node w ⊕ (k ⊕ arguments w ns)) (callee_value g s at args x)
    called_as_most k ns at args (called.Routine t c) p all = routine_most k ns at t c args p all
    called_as_most k ns at args (called.Standard f) p all = form_most k ns at f args (form_of f) all

    called_most : (k : ℕ) (ns : List ℕ) (at : Pos) {d : Result Designated (Meaningless g.Reported)}
        (args : List (Meant g.Reported)) → Designated_ k d → AllM ns args
        → Value_ (node w ⊕ (k ⊕ arguments w ns)) (call_in_expression g s at d args)
    called_most k ns at args p all = ahead_most g (breaches_in_all g s args)
        (then_most (of_heading_most p) (λ d q. callee_most w g s.types k at d q))
        (λ x q. called_as_most k ns at args x q all)

    -- ---- operators

    factors_most : (k : ℕ) (ns : List (Operator MulOp × ℕ)) (at : Pos) (rest : List (Operator MulOp × Meant g.Reported))
        (v : Result Computed g.Reported) → Value_ k v → AllT ns rest
        → Value_ (k ⊕ operands w ns) (fold (factor g s at) v rest)
    factors_most k [] at [] v p all = at_more (no_more w (λ (p : Operator MulOp × ℕ). second w p.1) k) p
    factors_most k [] at (x ∷ xs) v p all = absurd all
    factors_most k (n ∷ ns) at [] v p all = absurd all
    factors_most k (n ∷ ns) at (x ∷ xs) v p all =
        at_more (sum_again w (λ (p : Operator MulOp × ℕ). second w p.1) k n ns)
        (factors_most (k ⊕ second w n.1) ns at xs (factor g s at v x)
        (at_more (two_more w k n.1) (combined_most w g k n.1 s.types (mul_op x.0.op) x.0.pos at x.1.fixed.at p
        (value_most n.1 x.1 all.0))) all.1)

    terms_most : (k : ℕ) (ns : List (Operator AddOp × ℕ)) (at : Pos) (rest : List (Operator AddOp × Meant g.Reported))
        (v : Result Computed g.Reported) → Value_ k v → AllT ns rest
        → Value_ (k ⊕ operands w ns) (fold (term g s at) v rest)
    terms_most k [] at [] v p all = at_more (no_more w (λ (p : Operator AddOp × ℕ). second w p.1) k) p
    terms_most k [] at (x ∷ xs) v p all = absurd all
    terms_most k (n ∷ ns) at [] v p all = absurd all
    terms_most k (n ∷ ns) at (x ∷ xs) v p all =
        at_more (sum_again w (λ (p : Operator AddOp × ℕ). second w p.1) k n ns)
        (terms_most (k ⊕ second w n.1) ns at xs (term g s at v x)
        (at_more (two_more w k n.1) (combined_most w g k n.1 s.types (add_op x.0.op) x.0.pos at x.1.fixed.at p
        (value_most n.1 x.1 all.0))) all.1)

    first_most : (n : ℕ) (o : Option (Operator Sign)) {x : Result Computed g.Reported} → Value_ n x
        → Value_ (node w ⊕ n) (signed_first g o x)
    first_most n None p = at_more (one_more w n) p
    first_most n (Some o) p = signed_most w g n o.op o.pos p

    relation_most : (n k : ℕ) (a : Meant g.Reported) (o : Operator RelOp) (b : Meant g.Reported) → FM n a → FM k b
        → Value_ (node w ⊕ (n ⊕ operand w k)) (relation g s a o b)
    relation_most n k a o b p q = combined_most w g n k s.types (op.Relation o.op) o.pos a.fixed.at b.fixed.at
        (value_most n a p) (value_most k b q)

    picks_most : (k : ℕ) (ns : List ℕ) (ps : List (Picks g.Reported)) (d : Result Designated (Meaningless g.Reported))
        → base w ≤ k → Designated_ k d → AllP ns ps → Designated_ (k ⊕ total_of w ns) (fold (λ x p. p.picks s x) d ps)
    picks_most k [] [] d l p all = at_more (none_left w k) p
    picks_most k [] (x ∷ ps) d l p all = absurd all
    picks_most k (n ∷ ns) [] d l p all = absurd all
    picks_most k (n ∷ ns) (x ∷ ps) d l p all =
        at_more (all_again w k n ns) (picks_most (k ⊕ n) ns ps (x.picks s d) (base_still w k n l) (all.0 k d l p) all.1)

  module _ (g : Gathers) (s : Scope g.Reported) (near : IsNear w s.level) where
    -- ---- names

    local_most : (v : LocalVariable) (k : LocalKind) → weight_meant w (local_by s.level v k) ≤ base w
    local_most v kind.Variable = local_name w s.level v.level _ near (rooted_weight w (root.Local (slot_of s.level v)))
    local_most v kind.Value = local_name w s.level v.level _ near (rooted_weight w (root.Local (slot_of s.level v)))
    local_most v kind.Alias = local_name w s.level v.level _ near (rooted_weight w (root.Alias (slot_of s.level v)))
    local_most v kind.Open = open_name w s.level v.level near

    pub by_meaning : (at : Pos) (x : Meaning) → Designated_ g s (base w) (designated_by g s.level at x)
    by_meaning at (meaning.Constant v) = fine (designated.Value (value.Constant v)) (constant_name w)
    by_meaning at (meaning.Type t n) = fine (designated.Type t) (omega arith)
    by_meaning at (meaning.Variable v) =
        fine (designated.Variable v.of (root_place (root.Global v))) (global_name w _ (rooted_weight w (root.Global v)))
    by_meaning at (meaning.Local v) = fine (local_by s.level v v.kind) (local_most v v.kind)
    by_meaning at (meaning.Field f) =
        fine _ (field_name w _ _ _ (behind_weight w (root_place (root.With f.with)) (part.Field f.whole f.number))
        (rooted_weight w (root.With f.with)) (component_is w _ (part.outs-Field f.whole f.number)))
    by_meaning at (meaning.Procedure f) = fine (designated.Procedure f) (procedure_name w)
    by_meaning at (meaning.LocalProcedure f) = fine _ (nested_name w s.level f.level near)
    by_meaning at meaning.Ahead = reported_most g at rule.Ahead
    by_meaning at (meaning.Standard f) = fine (designated.Standard f) (omega arith)
    by_meaning at (meaning.Module k) = fine (designated.Module k) (omega arith)

    named_most : (name : Ident) → Designated_ g s (base w) (first_name g s name)
    named_most name = then_most (any_most _) (λ x p. plain_most (by_meaning name.pos x))

    field_of_most : (n : ℕ) (at : Pos) (name : Ident) (d : Designated) → base w ≤ n → weight_meant w d ≤ n
        → Designated_ g s (node w ⊕ n) (field_of g s at name d)
    field_of_most n at name (designated.Module k) l p =
        at_more (base_again w n l) (then_most (any_most _) (λ x q. by_meaning name.pos x))
    field_of_most n at name (designated.Value x) l p = field_most w g n s.types at name (designated.Value x) p
    field_of_most n at name (designated.Variable t d) l p = field_most w g n s.types at name (designated.Variable t d) p
    field_of_most n at name (designated.Open t slot) l p = field_most w g n s.types at name (designated.Open t slot) p
    field_of_most n at name (designated.Type t) l p = field_most w g n s.types at name (designated.Type t) p
    field_of_most n at name (designated.Procedure f) l p = field_most w g n s.types at name (designated.Procedure f) p
    field_of_most n at name (designated.Nested f) l p = field_most w g n s.types at name (designated.Nested f) p
    field_of_most n at name (designated.Standard f) l p = field_most w g n s.types at name (designated.Standard f) p

    -- ---- a layer, each part of which has its meaning

    abbrev PE : Expr → Type 0
    PE e = FM g s (bound_expr w e) (meanings_of g e)

    abbrev PS : Selector → Type 0
    PS e = FP g s (bound_selector w e) (picks g e)

    abbrev PD : Designator → Type 0
    PD e = FM g s (node w ⊕ bound_designator w e) (head g e)

    abbrev PI : Item → Type 0
    PI e = Unit {0}

    abbrev SE : Type 0
    SE = (e : Expr) × PE e

    abbrev SS : Type 0
    SS = (e : Selector) × PS e

    abbrev SD : Type 0
    SD = (e : Designator) × PD e

    abbrev SI : Type 0
    SI = (e : Item) × PI e

    abbrev opened : Expr-F Expr Selector Designator Item
        → Expr-F (Meant g.Reported) (Picks g.Reported) (Meant g.Reported) (Adds g.Reported)
    opened x = map-Expr Expr Selector Designator Item (Meant g.Reported) (Picks g.Reported) (Meant g.Reported)
        (Adds g.Reported) (meanings_of g) (picks g) (head g) (item g) x

    abbrev opened_selector : Selector-F Expr Selector Designator Item
        → Selector-F (Meant g.Reported) (Picks g.Reported) (Meant g.Reported) (Adds g.Reported)
    opened_selector x = map-Selector Expr Selector Designator Item (Meant g.Reported) (Picks g.Reported)
        (Meant g.Reported) (Adds g.Reported) (meanings_of g) (picks g) (head g) (item g) x

    abbrev opened_designator : Designator-F Expr Selector Designator Item
        → Designator-F (Meant g.Reported) (Picks g.Reported) (Meant g.Reported) (Adds g.Reported)
    opened_designator x = map-Designator Expr Selector Designator Item (Meant g.Reported) (Picks g.Reported)
        (Meant g.Reported) (Adds g.Reported) (meanings_of g) (picks g) (head g) (item g) x

    at_expr : (e : Expr) (x : Expr-F Expr Selector Designator Item) → out-Expr e ≡ x
        → meanings_of g e ≡ expr_layer g (opened x)
    unfolding meanings_of picks head item
    at_expr e x q = fold_out-Expr (Meant g.Reported) (Picks g.Reported) (Meant g.Reported) (Adds g.Reported)
        (expr_layer g) (selector_layer g) (designator_layer g) (item_layer g) e
        ∙ ap (λ (y : Expr-F Expr Selector Designator Item). expr_layer g (opened y)) q

    at_selector : (e : Selector) (x : Selector-F Expr Selector Designator Item) → out-Selector e ≡ x
        → picks g e ≡ selector_layer g (opened_selector x)
    unfolding meanings_of picks head item
    at_selector e x q = fold_out-Selector (Meant g.Reported) (Picks g.Reported) (Meant g.Reported) (Adds g.Reported)
        (expr_layer g) (selector_layer g) (designator_layer g) (item_layer g) e
        ∙ ap (λ (y : Selector-F Expr Selector Designator Item). selector_layer g (opened_selector y)) q

    at_designator : (e : Designator) (x : Designator-F Expr Selector Designator Item) → out-Designator e ≡ x
        → head g e ≡ designator_layer g (opened_designator x)
    unfolding meanings_of picks head item
    at_designator e x q = fold_out-Designator (Meant g.Reported) (Picks g.Reported) (Meant g.Reported) (Adds g.Reported)
        (expr_layer g) (selector_layer g) (designator_layer g) (item_layer g) e
        ∙ ap (λ (y : Designator-F Expr Selector Designator Item). designator_layer g (opened_designator y)) q

    abbrev bare : Expr-F SE SS SD SI → Expr-F Expr Selector Designator Item
    bare x = map-Expr SE SS SD SI Expr Selector Designator Item (λ e. e.0) (λ e. e.0) (λ e. e.0) (λ e. e.0) x

    abbrev bare_selector : Selector-F SE SS SD SI → Selector-F Expr Selector Designator Item
    bare_selector x =
        map-Selector SE SS SD SI Expr Selector Designator Item (λ e. e.0) (λ e. e.0) (λ e. e.0) (λ e. e.0) x

    abbrev bare_designator : Designator-F SE SS SD SI → Designator-F Expr Selector Designator Item
    bare_designator x =
        map-Designator SE SS SD SI Expr Selector Designator Item (λ e. e.0) (λ e. e.0) (λ e. e.0) (λ e. e.0) x

    all_terms : {O : Type 0} (xs : List (Operator O × SE))
        → AllT g s (map (λ (x : Operator O × Expr). (x.0, bound_expr w x.1))
        (map (λ (a : Operator O × SE). (a.0, a.1.0)) xs)) (map (λ (x : Operator O × Expr). (x.0, meanings_of g x.1))
        (map (λ (a : Operator O × SE). (a.0, a.1.0)) xs))
    all_terms [] = tt
    all_terms (x ∷ xs) = (x.1.1, all_terms xs)

    all_args : (xs : List SE)
        → AllM g s (map (bound_expr w) (map (λ (e : SE). e.0) xs)) (map (meanings_of g) (map (λ (e : SE). e.0) xs))
    all_args [] = tt
    all_args (x ∷ xs) = (x.1, all_args xs)

    all_picks : (xs : List SS) → AllP g s (map (bound_selector w) (map (λ (e : SS). e.0) xs))
        (map (picks g) (map (λ (e : SS). e.0) xs))
    all_picks [] = tt
    all_picks (x ∷ xs) = (x.1, all_picks xs)

    abbrev counted : Expr-F SE SS SD SI → ℕ
    counted y = expr_form w (bare y)

    expr_most : (y : Expr-F SE SS SD SI) → FM g s (counted y) (expr_layer g (opened (bare y)))
    expr_most (layer.Number p n) =
        constant_meant g s _ (expr_layer g (opened (bare (layer.Number p n)))).fixed (of_number w p n)
    expr_most (layer.Char p n) =
        constant_meant g s _ (expr_layer g (opened (bare (layer.Char p n)))).fixed (of_char w p n)
    expr_most (layer.Text p t) =
        constant_meant g s _ (expr_layer g (opened (bare (layer.Text p t)))).fixed (of_text w p t)
    expr_most (layer.Set q p items) =
        constant_meant g s _ (expr_layer g (opened (bare (layer.Set q p items)))).fixed (of_set w q p _)
    expr_most (layer.Not p e) = computed_most g s _ (at_more (of_not w p e.0)
        (negated_most w g (bound_expr w e.0) p (value_most g s _ (meanings_of g e.0) e.1)))
    expr_most (layer.Bracketed p e) =
        computed_most g s _ (at_more (of_brackets w p e.0) (value_most g s _ (meanings_of g e.0) e.1))
    expr_most (layer.Use d None) = at_more (of_name w d.0) d.1
    expr_most (layer.Use d (Some es)) =
        computed_most g s _ (at_more (of_call w d.0 (map (λ (e : SE). e.0) es))
        (called_most g s (node w ⊕ bound_designator w d.0) (map (bound_expr w) (map (λ (e : SE). e.0) es))
        (head g d.0).fixed.at (map (meanings_of g) (map (λ (e : SE). e.0) es)) d.1 (all_args es)))
    expr_most (layer.Term e xs) =
        computed_most g s _ (at_more (of_term w e.0 (map (λ (a : Operator MulOp × SE). (a.0, a.1.0)) xs))
        (factors_most g s (bound_expr w e.0) _ (meanings_of g e.0).fixed.at
        (map (λ (x : Operator MulOp × Expr). (x.0, meanings_of g x.1)) (map (λ (a : Operator MulOp × SE). (a.0, a.1.0))
        xs)) (value_of g s (meanings_of g e.0)) (value_most g s _ (meanings_of g e.0) e.1) (all_terms xs)))
    expr_most (layer.Sum o e xs) =
        computed_most g s _ (at_more (of_sum w o e.0 (map (λ (a : Operator AddOp × SE). (a.0, a.1.0)) xs))
        (terms_most g s (node w ⊕ bound_expr w e.0) _ (sign_place o (meanings_of g e.0).fixed.at)
        (map (λ (x : Operator AddOp × Expr). (x.0, meanings_of g x.1)) (map (λ (a : Operator AddOp × SE). (a.0, a.1.0))
        xs)) (signed_first g o (value_of g s (meanings_of g e.0)))
        (first_most g s (bound_expr w e.0) o (value_most g s _ (meanings_of g e.0) e.1)) (all_terms xs)))
    expr_most (layer.Relation e o f) = computed_most g s _ (at_more (of_relation w e.0 o f.0)
        (relation_most g s (bound_expr w e.0) (bound_expr w f.0) (meanings_of g e.0) o (meanings_of g f.0) e.1 f.1))

    selector_most : (y : Selector-F SE SS SD SI)
        → FP g s (selector_form w (bare_selector y)) (selector_layer g (opened_selector (bare_selector y)))
    selector_most (layer.Field p name) = λ k d l q. at_more (of_field w k p name)
        (plain_most (then_most (sort_most g p rule.WrongType q) (λ x h. field_of_most k p name x l h)))
    selector_most (layer.Index p e) = λ k d l q. at_more (of_index w k p e.0)
        (plain_most (indexed_most w g k (bound_expr w e.0) s.types p (meanings_of g e.0).fixed.at
        (sort_most g p rule.WrongType q) (value_most g s _ (meanings_of g e.0) e.1)))

    designator_most : (y : Designator-F SE SS SD SI)
        → FM g s (node w ⊕ designator_form w (bare_designator y))
        (designator_layer g (opened_designator (bare_designator y)))
    designator_most y =
        at_more (of_selectors w (bare_designator y))
        (picks_most g s (base w) _ (map (picks g) (map (λ (e : SS). e.0) y.selectors))
        (first_name g s y.name) (omega arith) (named_most y.name) (all_picks y.selectors))

    -- ---- the induction

    step_expr : (x : Expr-F Expr Selector Designator Item) (y : Expr-F SE SS SD SI) → bare y ≡ x → PE (roll-Expr x)
    step_expr x y q =
        let e = out-roll-Expr x ∙ sym q in
        subst (λ (n : ℕ). FM g s n (meanings_of g (roll-Expr x))) (sym (expr_opened w (roll-Expr x) (bare y) e))
        (subst (FM g s (counted y)) (sym (at_expr (roll-Expr x) (bare y) e)) (expr_most y))

    step_selector : (x : Selector-F Expr Selector Designator Item) (y : Selector-F SE SS SD SI) → bare_selector y ≡ x
        → PS (roll-Selector x)
    step_selector x y q =
        let e = out-roll-Selector x ∙ sym q in
        subst (λ (n : ℕ). FP g s n (picks g (roll-Selector x)))
        (sym (selector_opened w (roll-Selector x) (bare_selector y) e))
        (subst (FP g s (selector_form w (bare_selector y))) (sym (at_selector (roll-Selector x) (bare_selector y) e))
        (selector_most y))

    step_designator : (x : Designator-F Expr Selector Designator Item) (y : Designator-F SE SS SD SI)
        → bare_designator y ≡ x → PD (roll-Designator x)
    step_designator x y q =
        let e = out-roll-Designator x ∙ sym q in
        subst (λ (n : ℕ). FM g s (node w ⊕ n) (head g (roll-Designator x)))
        (sym (designator_opened w (roll-Designator x) (bare_designator y) e))
        (subst (FM g s (node w ⊕ designator_form w (bare_designator y)))
        (sym (at_designator (roll-Designator x) (bare_designator y) e)) (designator_most y))

    pub meant_most : (e : Expr) → PE e
    meant_most = ind-Expr PE PS PD PI step_expr step_selector step_designator (λ x y q. tt)

    pub head_most : (d : Designator) → PD d
    head_most = ind-Designator PE PS PD PI step_expr step_selector step_designator (λ x y q. tt)
