-- Expressions and designators: a lemma for each construct, and then the induction.
use Rattle.std.proofs.Common.{◌≡◌, ℕ, ◌==◌, Bool, true, false, List, [], ◌∷◌, ◌++◌, length, map, Option, Some, None, Result, Ok, refl, sym, ap, subst, ◌∙◌, append_assoc, arith}
use Rattle.std.specs.Prelude.{not, cond}
use Rattle.std.specs.List.{fold}
use Rattle.std.proofs.lemmas.Bool.{eqb-true}
use Rattle.std.proofs.lemmas.List.{append-nil}
use Rattle.m2_rule.specs.declared.rule.Rule.TheVariants as rule
use Rattle.m2_tree.specs.declared.pos.Pos.{Pos}
use Rattle.m2_tree.specs.declared.name.Ident.{Ident}
use Rattle.m2_tree.specs.declared.expr.MulOp.{MulOp}
use Rattle.m2_tree.specs.declared.expr.AddOp.{AddOp}
use Rattle.m2_tree.specs.declared.expr.RelOp.{RelOp}
use Rattle.m2_tree.specs.declared.expr.Sign.{Sign}
use Rattle.m2_tree.specs.declared.expr.Operator.{Operator}
use Rattle.m2_tree.specs.declared.expr.Expr.{Expr, Expr-F, out-Expr, roll-Expr, out-roll-Expr, map-Expr, fold_out-Expr, ind-Expr}
use Rattle.m2_tree.specs.declared.expr.Expr.TheOpen as layer
use Rattle.m2_tree.specs.declared.expr.Selector.{Selector, Selector-F, out-Selector, roll-Selector, out-roll-Selector, map-Selector, fold_out-Selector}
use Rattle.m2_tree.specs.declared.expr.Designator.{Designator, Designator-F, out-Designator, roll-Designator, out-roll-Designator, map-Designator, fold_out-Designator, ind-Designator}
use Rattle.m2_tree.specs.declared.expr.Item.{Item}
use Rattle.typed_tree.specs.declared.computed.Argument.{Argument}
use Rattle.typed_tree.specs.declared.computed.Component.TheVariants as part
use Rattle.typed_tree.specs.declared.computed.Root.TheVariants as root
use Rattle.typed_tree.specs.declared.computed.TypedExpr.TheVariants as expr
use Rattle.typed_tree.specs.declared.meaning.LocalKind.{LocalKind}
use Rattle.typed_tree.specs.declared.meaning.LocalKind.TheVariants as kind
use Rattle.typed_tree.specs.declared.meaning.LocalVariable.{LocalVariable}
use Rattle.typed_tree.specs.declared.meaning.Meaning.{Meaning}
use Rattle.typed_tree.specs.declared.meaning.Meaning.TheVariants as meaning
use Rattle.typed_tree.specs.declared.meaning.Standard.{Standard}
use Rattle.typed_tree.specs.declared.shape.Formal.{Formal}
use Rattle.typed_tree.specs.declared.shape.Signature.{Signature}
use Rattle.typed_tree.specs.declared.typed_module.TypedModule.{TypedModule}
use Rattle.typed_tree.specs.declared.types.TypeNo.{TypeNo}
use Rattle.typed_tree.specs.Chains.{root_place}
use Rattle.check_scope.specs.declared.meaningless.Meaningless.{Meaningless}
use Rattle.check_scope.specs.Elaborated.{Gathers, reported_where, ahead, of_sort, of_heading, of_value, ◌▷◌}
use Rattle.check_scope.specs.declared.scope.Scope.{Scope}
use Rattle.check_const.specs.Parts.{Part, Adds, sign_place}
use Rattle.check_const.specs.Operators.{mul_op, add_op}
use Rattle.check_const.specs.declared.operator.BinaryOp.TheVariants as op
use Rattle.check_value.specs.Classes.{signature_at}
use Rattle.check_value.specs.Values.{slot_of, local_by, designated_by, function_result}
use Rattle.check_value.specs.declared.computed.Computed.{Computed}
use Rattle.check_value.specs.declared.computed.Computed.TheVariants as value
use Rattle.check_value.specs.declared.computed.Designated.{Designated}
use Rattle.check_value.specs.declared.computed.Designated.TheVariants as designated
use Rattle.check_value.specs.Actuals.{with_argument}
use Rattle.check_value.specs.Callees.{function_with, function_of, call_by}
use Rattle.check_value.specs.Functions.{form_of}
use Rattle.check_value.specs.declared.callee.Callee.{Callee}
use Rattle.check_value.specs.declared.callee.Called.{Called}
use Rattle.check_value.specs.declared.callee.Called.TheVariants as called
use Rattle.check_value.specs.declared.standard.Form.{Form}
use Rattle.check_value.specs.declared.standard.Form.TheVariants as form
use Rattle.check_value.specs.declared.standard.Unary.{Unary}
use Rattle.check_expr.specs.Meanings.{Meant, Picks, of_computed, signed_first, first_name, field_of, formals_of, passed_for, argument_by, call_given, as_constant, value_of, breaches_in_all, with_actual, actuals, routine_called, unary, bound, conversion, high, by_form, callee_value, call_in_expression, factor, term, relation, expr_layer, selector_layer, designator_layer, item_layer, meanings_of, picks, head, item}
use Rattle.def_scheme.specs.Exprs.{is_there}
use Rattle.law_modules.specs.WellFormed.{FunctionCall, AreArguments, no_arguments, FieldOf}
use Rattle.law_well_formed.specs.Formed.{Holds, fine, FormedMeaning, FormedValue, FormedDesignated, IsFormed}
use Rattle.law_well_formed.proofs.Basics.{then_holds, reported_holds, both_holds, refused_holds, reported_beside_holds, ahead_holds, sort_holds, of_heading_holds, of_value_holds, sort_of_value_holds, plain_holds, any_holds, heading_kept}
use Rattle.law_well_formed.proofs.Operators.{behind_formed, rooted_formed, signed_formed, negated_formed, combined_formed, field_formed, indexed_formed}
use Rattle.law_well_formed.proofs.Calls.{given_formed, taken_formed, actual_formed, arguments_more, FormedCallee, FormedCalled, callee_formed, call_formed, unary_formed, bound_formed, conversion_formed, high_formed}

module _ (g : Gathers) (m : TypedModule) (opens : ℕ → Bool) (w : ℕ) (s : Scope g.Reported) (h : IsFormed g m opens w s)
  where
    abbrev pub Value_ : Result Computed g.Reported → Type 0
    Value_ r = Holds (FormedValue m w) r

    abbrev pub Designated_ : {T : Type 0} → Result Designated T → Type 0
    Designated_ r = Holds (FormedDesignated m opens w) r

    abbrev pub FM : Meant g.Reported → Type 0
    FM x = Designated_ (x.means s)

    abbrev FP : Picks g.Reported → Type 0
    FP p = (d : Result Designated (Meaningless g.Reported)) → Designated_ d → Designated_ (p.picks s d)

    abbrev pub AllM : List (Meant g.Reported) → Type 0
    AllM [] = Unit {0}
    AllM (x ∷ xs) = FM x × AllM xs

    abbrev AllT : {O : Type 0} → List (Operator O × Meant g.Reported) → Type 0
    AllT [] = Unit {0}
    AllT (x ∷ xs) = FM x.1 × AllT xs

    abbrev AllP : List (Picks g.Reported) → Type 0
    AllP [] = Unit {0}
    AllP (x ∷ xs) = FP x × AllP xs

    pub value_formed : (x : Meant g.Reported) → FM x → Value_ (value_of g s x)
    value_formed x p = then_holds (of_value_holds g x.fixed.at p)
        (λ d k. taken_formed g m w opens s.types h.types x.fixed.at d k)

    constant_meant : (x : Part g.Reported) → Designated_ (as_constant g s x)
    constant_meant x = plain_holds (then_holds (any_holds _) (λ v k. fine (designated.Value (value.Constant v)) tt))

    computed_formed : {r : Result Computed g.Reported} → Value_ r → Designated_ (of_computed r)
    computed_formed p = plain_holds (then_holds p (λ v k. fine (designated.Value v) k))

    -- ---- names

    local_formed : (level : ℕ) (v : LocalVariable) (k : LocalKind) → FormedDesignated m opens w (local_by level v k)
    local_formed level v kind.Variable = rooted_formed m w (root.Local (slot_of level v)) tt
    local_formed level v kind.Value = rooted_formed m w (root.Local (slot_of level v)) tt
    local_formed level v kind.Alias = rooted_formed m w (root.Alias (slot_of level v)) tt
    local_formed level v kind.Open = tt

    pub by_meaning : (level : ℕ) (at : Pos) (x : Meaning) → FormedMeaning m opens w x
        → Designated_ (designated_by g level at x)
    by_meaning level at (meaning.Constant v) p = fine (designated.Value (value.Constant v)) tt
    by_meaning level at (meaning.Type t n) p = fine (designated.Type t) tt
    by_meaning level at (meaning.Variable v) p =
        fine (designated.Variable v.of (root_place (root.Global v))) (rooted_formed m w (root.Global v) p)
    by_meaning level at (meaning.Local v) p = fine (local_by level v v.kind) (local_formed level v v.kind)
    by_meaning level at (meaning.Field f) p =
        fine _ (behind_formed m w (root_place (root.With f.with)) (part.Field f.whole f.number)
        (rooted_formed m w (root.With f.with) p) (FieldOf f.whole f.number))
    by_meaning level at (meaning.Procedure f) p = fine (designated.Procedure f) p
    by_meaning level at (meaning.LocalProcedure f) p = fine _ p
    by_meaning level at meaning.Ahead p = reported_holds g at rule.Ahead
    by_meaning level at (meaning.Standard f) p = fine (designated.Standard f) tt
    by_meaning level at (meaning.Module k) p = fine (designated.Module k) p

    named_formed : (name : Ident) → Designated_ (first_name g s name)
    named_formed name = then_holds (h.names name) (λ x p. plain_holds (by_meaning s.level name.pos x p))

    field_of_formed : (at : Pos) (name : Ident) (d : Designated) → FormedDesignated m opens w d
        → Designated_ (field_of g s at name d)
    field_of_formed at name (designated.Module k) p =
        then_holds (h.members k name p) (λ x q. by_meaning s.level name.pos x q)
    field_of_formed at name (designated.Value x) p = field_formed m w g opens s.types at name (designated.Value x) p
    field_of_formed at name (designated.Variable t d) p =
        field_formed m w g opens s.types at name (designated.Variable t d) p
    field_of_formed at name (designated.Open t slot) p =
        field_formed m w g opens s.types at name (designated.Open t slot) p
    field_of_formed at name (designated.Type t) p = field_formed m w g opens s.types at name (designated.Type t) p
    field_of_formed at name (designated.Procedure f) p =
        field_formed m w g opens s.types at name (designated.Procedure f) p
    field_of_formed at name (designated.Nested f) p = field_formed m w g opens s.types at name (designated.Nested f) p
    field_of_formed at name (designated.Standard f) p =
        field_formed m w g opens s.types at name (designated.Standard f) p

    -- ---- calls

    passed_by : (is_var : Bool) (at : Pos) {d : Result Designated (Meaningless g.Reported)} → Designated_ d
        → Designated_ (cond is_var (of_sort g at rule.NoVariable d) (of_value g at d))
    passed_by true at p = sort_holds g at rule.NoVariable p
    passed_by false at p = of_value_holds g at p

    passed_formed : (f : Formal) (at : Pos) {d : Result Designated (Meaningless g.Reported)} → Designated_ d
        → Designated_ (passed_for g f at d)
    passed_formed f at p = passed_by f.is_var at p

    pub args_formed : (args : List (Meant g.Reported)) (fs taken : List Formal) (r : Result (List Argument) g.Reported)
        → length fs ≡ length args → Holds (λ xs. AreArguments m w xs taken) r → AllM args
        → Holds (λ xs. AreArguments m w xs (taken ++ fs)) (fold (with_actual g s) (fs, r) args).1
    args_formed [] [] taken r e p all = subst (λ (fs : List Formal). Holds (λ xs. AreArguments m w xs fs) r)
        (sym (append-nil taken)) p
    args_formed [] (f ∷ fs) taken r e p all = absurd (omega (arith, e))
    args_formed (x ∷ args) [] taken r e p all = absurd (omega (arith, e))
    args_formed (x ∷ args) (f ∷ fs) taken r e p all =
        let one : Holds (λ xs. AreArguments m w xs (taken ++ f ∷ []))
        (with_argument g r (argument_by g s.types (Some f) x.fixed.at (x.means s))) =
        then_holds (both_holds g p (then_holds (passed_formed f x.fixed.at all.0)
        (λ d k. actual_formed g m w opens s.types h.types f x.fixed.at d k)))
        (λ v k. fine (v.0 ++ v.1 ∷ []) (arguments_more g m w opens s.types h.types v.0 taken v.1 f k.0 k.1))
        in
        subst (λ (es : List Formal). Holds (λ xs. AreArguments m w xs es)
        (fold (with_actual g s) (f ∷ fs, r) (x ∷ args)).1) (append_assoc taken (f ∷ []) fs)
        (args_formed args fs (taken ++ f ∷ []) _ (omega (arith, e)) one all.1)

    pub actuals_formed : (args : List (Meant g.Reported)) (fs : List Formal) → length fs ≡ length args → AllM args
        → Holds (λ xs. AreArguments m w xs fs) (actuals g s fs args)
    actuals_formed args fs e all = args_formed args fs [] (Ok []) e (fine [] no_arguments) all

    module _ (at : Pos) (t : TypeNo) (c : Callee) (args : List (Meant g.Reported))
        (there : FormedCallee g m w opens s.types h.types t c) (all : AllM args) where
      given_call : (k : Signature) (r : TypeNo) → signature_at s.types t ≡ Some k → k.result ≡ Some r
          → length k.formals ≡ length args → Value_ (call_given g s.types r c (actuals g s k.formals args))
      given_call k r e q count =
          let heading = heading_kept s.types m.types h.types t k e in
          then_holds (actuals_formed args k.formals count all) (λ xs p.
          fine (function_result s.types r (expr.Call r (call_by xs c)))
          (given_formed g m w opens s.types h.types r (expr.Call r (call_by xs c))
          (FunctionCall r (call_by xs c) (call_formed g m w opens s.types h.types c t xs true there
          (heading.result ∙ ap (λ (o : Option TypeNo). is_there o) q)
          (subst (λ (fs : List Formal). AreArguments m w xs fs) (sym heading.formals) p)))))

      by_count : (k : Signature) (r : TypeNo) (q : Bool) → (length k.formals == length args) ≡ q
          → signature_at s.types t ≡ Some k → k.result ≡ Some r
          → Value_ (ahead g (reported_where g {A = Unit {0}} (not q) at rule.ArgumentCount (Ok (tt {0})) ▷ λ fine. Ok r)
          (breaches_in_all g s args) (λ r. call_given g s.types r c (actuals g s k.formals args)))
      by_count k r true count e q = given_call k r e q (eqb-true (length k.formals) (length args) count)
      by_count k r false count e q = refused_holds g _ (breaches_in_all g s args)

      by_result : (k : Signature) (o : Option TypeNo) → k.result ≡ o → signature_at s.types t ≡ Some k
          → Value_ (ahead g (function_with g at (length k.formals) (length args) o) (breaches_in_all g s args)
          (λ r. call_given g s.types r c (actuals g s k.formals args)))
      by_result k None q e = refused_holds g _ (breaches_in_all g s args)
      by_result k (Some r) q e = by_count k r (length k.formals == length args) refl e q

      by_signature : (o : Option Signature) → signature_at s.types t ≡ o
          → Value_ (ahead g (function_of g at o (length args)) (breaches_in_all g s args)
          (λ r. call_given g s.types r c (actuals g s (formals_of o) args)))
      by_signature None e = refused_holds g _ (breaches_in_all g s args)
      by_signature (Some k) e = by_result k k.result refl e

      routine_formed : Value_ (routine_called g s at t c args)
      routine_formed = by_signature (signature_at s.types t) refl

    -- ---- standard functions

    unary_all : (at : Pos) (f : Standard) (u : Unary) (args : List (Meant g.Reported)) → AllM args
        → Value_ (unary g s at f u args)
    unary_all at f u [] all = reported_beside_holds g at rule.ArgumentCount (breaches_in_all g s [])
    unary_all at f u (x ∷ []) all = then_holds (value_formed x all.0)
        (λ v p. unary_formed g m w opens s.types h.types f u x.fixed.at v p)
    unary_all at f u (x ∷ y ∷ xs) all = reported_beside_holds g at rule.ArgumentCount _

    bound_all : (at : Pos) (f : Standard) (args : List (Meant g.Reported)) → Value_ (bound g s at f args)
    bound_all at f [] = reported_beside_holds g at rule.ArgumentCount (breaches_in_all g s [])
    bound_all at f (x ∷ []) = bound_formed g m w opens s.types h.types f _
    bound_all at f (x ∷ y ∷ xs) = reported_beside_holds g at rule.ArgumentCount _

    conversion_all : (at : Pos) (args : List (Meant g.Reported)) → AllM args → Value_ (conversion g s at args)
    conversion_all at [] all = reported_beside_holds g at rule.ArgumentCount (breaches_in_all g s [])
    conversion_all at (t ∷ []) all = reported_beside_holds g at rule.ArgumentCount _
    conversion_all at (t ∷ x ∷ []) all = conversion_formed g m w opens s.types h.types _ x.fixed.at
        (value_formed x all.1.0)
    conversion_all at (t ∷ x ∷ y ∷ xs) all = reported_beside_holds g at rule.ArgumentCount _

    high_all : (at : Pos) (args : List (Meant g.Reported)) → AllM args → Value_ (high g s at args)
    high_all at [] all = reported_beside_holds g at rule.ArgumentCount (breaches_in_all g s [])
    high_all at (x ∷ []) all = then_holds (sort_of_value_holds g x.fixed.at rule.WrongArgument all.0)
        (λ d p. high_formed g m w opens s.types h.types x.fixed.at d)
    high_all at (x ∷ y ∷ xs) all = reported_beside_holds g at rule.ArgumentCount _

    form_formed : (at : Pos) (f : Standard) (args : List (Meant g.Reported)) (o : Form) → AllM args
        → Value_ (by_form g s at f args o)
    form_formed at f args (form.Unary u) all = unary_all at f u args all
    form_formed at f args form.Bound all = bound_all at f args
    form_formed at f args form.Conversion all = conversion_all at args all
    form_formed at f args form.High all = high_all at args all
    form_formed at f args form.Proper all = reported_beside_holds g at rule.WrongType _

    called_as_formed : (at : Pos) (args : List (Meant g.Reported)) (x : Called)
        → FormedCalled g m w opens s.types h.types x → AllM args → Value_ (callee_value g s at args x)
    called_as_formed at args (called.Routine t c) p all = routine_formed at t c args p all
    called_as_formed at args (called.Standard f) p all = form_formed at f args (form_of f) all

    called_formed : (at : Pos) {d : Result Designated (Meaningless g.Reported)} (args : List (Meant g.Reported))
        → Designated_ d → AllM args → Value_ (call_in_expression g s at d args)
    called_formed at args p all = ahead_holds g (breaches_in_all g s args)
        (then_holds (of_heading_holds p) (λ d k. callee_formed g m w opens s.types h.types at d k))
        (λ x k. called_as_formed at args x k all)

    -- ---- operators

    factors_formed : (at : Pos) (rest : List (Operator MulOp × Meant g.Reported)) (v : Result Computed g.Reported)
        → Value_ v → AllT rest → Value_ (fold (factor g s at) v rest)
    factors_formed at [] v p all = p
    factors_formed at (x ∷ xs) v p all = factors_formed at xs (factor g s at v x)
        (combined_formed m w g s.types (mul_op x.0.op) x.0.pos at x.1.fixed.at p (value_formed x.1 all.0)) all.1

    terms_formed : (at : Pos) (rest : List (Operator AddOp × Meant g.Reported)) (v : Result Computed g.Reported)
        → Value_ v → AllT rest → Value_ (fold (term g s at) v rest)
    terms_formed at [] v p all = p
    terms_formed at (x ∷ xs) v p all = terms_formed at xs (term g s at v x)
        (combined_formed m w g s.types (add_op x.0.op) x.0.pos at x.1.fixed.at p (value_formed x.1 all.0)) all.1

    first_formed : (o : Option (Operator Sign)) {x : Result Computed g.Reported} → Value_ x
        → Value_ (signed_first g o x)
    first_formed None p = p
    first_formed (Some o) p = signed_formed m w g o.op o.pos p

    relation_formed : (a : Meant g.Reported) (o : Operator RelOp) (b : Meant g.Reported) → FM a → FM b
        → Value_ (relation g s a o b)
    relation_formed a o b p q = combined_formed m w g s.types (op.Relation o.op) o.pos a.fixed.at b.fixed.at
        (value_formed a p) (value_formed b q)

    picks_formed : (ps : List (Picks g.Reported)) (d : Result Designated (Meaningless g.Reported)) → Designated_ d
        → AllP ps → Designated_ (fold (λ x p. p.picks s x) d ps)
    picks_formed [] d p all = p
    picks_formed (x ∷ ps) d p all = picks_formed ps (x.picks s d) (all.0 d p) all.1

    -- ---- a layer, each part of which has its meaning

    abbrev PE : Expr → Type 0
    PE e = FM (meanings_of g e)

    abbrev PS : Selector → Type 0
    PS e = FP (picks g e)

    abbrev PD : Designator → Type 0
    PD e = FM (head g e)

    abbrev PI : Item → Type 0
    PI e = Unit {0}

    abbrev SE : Type 0
    SE = (e : Expr) × PE e

    abbrev SS : Type 0
    SS = (e : Selector) × PS e

    abbrev SD : Type 0
    SD = (e : Designator) × PD e

    abbrev SI : Type 0
    SI = (e : Item) × PI e

    abbrev opened : Expr-F Expr Selector Designator Item
        → Expr-F (Meant g.Reported) (Picks g.Reported) (Meant g.Reported) (Adds g.Reported)
    opened x = map-Expr Expr Selector Designator Item (Meant g.Reported) (Picks g.Reported) (Meant g.Reported)
        (Adds g.Reported) (meanings_of g) (picks g) (head g) (item g) x

    abbrev opened_selector : Selector-F Expr Selector Designator Item
        → Selector-F (Meant g.Reported) (Picks g.Reported) (Meant g.Reported) (Adds g.Reported)
    opened_selector x = map-Selector Expr Selector Designator Item (Meant g.Reported) (Picks g.Reported)
        (Meant g.Reported) (Adds g.Reported) (meanings_of g) (picks g) (head g) (item g) x

    abbrev opened_designator : Designator-F Expr Selector Designator Item
        → Designator-F (Meant g.Reported) (Picks g.Reported) (Meant g.Reported) (Adds g.Reported)
    opened_designator x = map-Designator Expr Selector Designator Item (Meant g.Reported) (Picks g.Reported)
        (Meant g.Reported) (Adds g.Reported) (meanings_of g) (picks g) (head g) (item g) x

    at_expr : (e : Expr) (x : Expr-F Expr Selector Designator Item) → out-Expr e ≡ x
        → meanings_of g e ≡ expr_layer g (opened x)
    unfolding meanings_of picks head item
    at_expr e x q = fold_out-Expr (Meant g.Reported) (Picks g.Reported) (Meant g.Reported) (Adds g.Reported)
        (expr_layer g) (selector_layer g) (designator_layer g) (item_layer g) e
        ∙ ap (λ (y : Expr-F Expr Selector Designator Item). expr_layer g (opened y)) q

    at_selector : (e : Selector) (x : Selector-F Expr Selector Designator Item) → out-Selector e ≡ x
        → picks g e ≡ selector_layer g (opened_selector x)
    unfolding meanings_of picks head item
    at_selector e x q = fold_out-Selector (Meant g.Reported) (Picks g.Reported) (Meant g.Reported) (Adds g.Reported)
        (expr_layer g) (selector_layer g) (designator_layer g) (item_layer g) e
        ∙ ap (λ (y : Selector-F Expr Selector Designator Item). selector_layer g (opened_selector y)) q

    at_designator : (e : Designator) (x : Designator-F Expr Selector Designator Item) → out-Designator e ≡ x
        → head g e ≡ designator_layer g (opened_designator x)
    unfolding meanings_of picks head item
    at_designator e x q = fold_out-Designator (Meant g.Reported) (Picks g.Reported) (Meant g.Reported) (Adds g.Reported)
        (expr_layer g) (selector_layer g) (designator_layer g) (item_layer g) e
        ∙ ap (λ (y : Designator-F Expr Selector Designator Item). designator_layer g (opened_designator y)) q

    abbrev bare : Expr-F SE SS SD SI → Expr-F Expr Selector Designator Item
    bare x = map-Expr SE SS SD SI Expr Selector Designator Item (λ e. e.0) (λ e. e.0) (λ e. e.0) (λ e. e.0) x

    abbrev bare_selector : Selector-F SE SS SD SI → Selector-F Expr Selector Designator Item
    bare_selector x = map-Selector SE SS SD SI Expr Selector Designator Item (λ e. e.0) (λ e. e.0) (λ e. e.0) (λ e. e.0)
        x

    abbrev bare_designator : Designator-F SE SS SD SI → Designator-F Expr Selector Designator Item
    bare_designator x = map-Designator SE SS SD SI Expr Selector Designator Item (λ e. e.0) (λ e. e.0) (λ e. e.0)
        (λ e. e.0) x

    all_terms : {O : Type 0} (xs : List (Operator O × SE))
        → AllT (map (λ (x : Operator O × Expr). (x.0, meanings_of g x.1))
        (map (λ (a : Operator O × SE). (a.0, a.1.0)) xs))
    all_terms [] = tt
    all_terms (x ∷ xs) = (x.1.1, all_terms xs)

    all_args : (xs : List SE) → AllM (map (meanings_of g) (map (λ (e : SE). e.0) xs))
    all_args [] = tt
    all_args (x ∷ xs) = (x.1, all_args xs)

    all_picks : (xs : List SS) → AllP (map (picks g) (map (λ (e : SS). e.0) xs))
    all_picks [] = tt
    all_picks (x ∷ xs) = (x.1, all_picks xs)

    expr_formed : (y : Expr-F SE SS SD SI) → FM (expr_layer g (opened (bare y)))
    expr_formed (layer.Number p n) = constant_meant (expr_layer g (opened (bare (layer.Number p n)))).fixed
    expr_formed (layer.Char p n) = constant_meant (expr_layer g (opened (bare (layer.Char p n)))).fixed
    expr_formed (layer.Text p t) = constant_meant (expr_layer g (opened (bare (layer.Text p t)))).fixed
    expr_formed (layer.Set q p items) = constant_meant (expr_layer g (opened (bare (layer.Set q p items)))).fixed
    expr_formed (layer.Not p e) = computed_formed (negated_formed m w g p (value_formed (meanings_of g e.0) e.1))
    expr_formed (layer.Bracketed p e) = computed_formed (value_formed (meanings_of g e.0) e.1)
    expr_formed (layer.Use d None) = d.1
    expr_formed (layer.Use d (Some es)) = computed_formed
        (called_formed (head g d.0).fixed.at (map (meanings_of g) (map (λ (e : SE). e.0) es)) d.1 (all_args es))
    expr_formed (layer.Term e xs) = computed_formed
        (factors_formed (meanings_of g e.0).fixed.at
        (map (λ (x : Operator MulOp × Expr). (x.0, meanings_of g x.1))
        (map (λ (a : Operator MulOp × SE). (a.0, a.1.0)) xs)) (value_of g s (meanings_of g e.0))
        (value_formed (meanings_of g e.0) e.1) (all_terms xs))
    expr_formed (layer.Sum o e xs) = computed_formed
        (terms_formed (sign_place o (meanings_of g e.0).fixed.at)
        (map (λ (x : Operator AddOp × Expr). (x.0, meanings_of g x.1))
        (map (λ (a : Operator AddOp × SE). (a.0, a.1.0)) xs)) (signed_first g o (value_of g s (meanings_of g e.0)))
        (first_formed o (value_formed (meanings_of g e.0) e.1)) (all_terms xs))
    expr_formed (layer.Relation e o f) = computed_formed
        (relation_formed (meanings_of g e.0) o (meanings_of g f.0) e.1 f.1)

    selector_formed : (y : Selector-F SE SS SD SI) → FP (selector_layer g (opened_selector (bare_selector y)))
    selector_formed (layer.Field p name) = λ d q. plain_holds
        (then_holds (sort_holds g p rule.WrongType q) (λ x k. field_of_formed p name x k))
    selector_formed (layer.Index p e) = λ d q. plain_holds
        (indexed_formed m w g opens s.types p (meanings_of g e.0).fixed.at (sort_holds g p rule.WrongType q)
        (value_formed (meanings_of g e.0) e.1))

    designator_formed : (y : Designator-F SE SS SD SI) → FM (designator_layer g (opened_designator (bare_designator y)))
    designator_formed y = picks_formed (map (picks g) (map (λ (e : SS). e.0) y.selectors))
        (first_name g s y.name) (named_formed y.name) (all_picks y.selectors)

    -- ---- the induction

    step_expr : (x : Expr-F Expr Selector Designator Item) (y : Expr-F SE SS SD SI) → bare y ≡ x → PE (roll-Expr x)
    step_expr x y q = subst FM (sym (at_expr (roll-Expr x) (bare y) (out-roll-Expr x ∙ sym q))) (expr_formed y)

    step_selector : (x : Selector-F Expr Selector Designator Item) (y : Selector-F SE SS SD SI) → bare_selector y ≡ x
        → PS (roll-Selector x)
    step_selector x y q = subst FP (sym (at_selector (roll-Selector x) (bare_selector y) (out-roll-Selector x ∙ sym q)))
        (selector_formed y)

    step_designator : (x : Designator-F Expr Selector Designator Item) (y : Designator-F SE SS SD SI)
        → bare_designator y ≡ x → PD (roll-Designator x)
    step_designator x y q = subst FM (sym (at_designator (roll-Designator x) (bare_designator y)
        (out-roll-Designator x ∙ sym q))) (designator_formed y)

    pub meant_formed : (e : Expr) → PE e
    meant_formed = ind-Expr PE PS PD PI step_expr step_selector step_designator (λ x y q. tt)

    pub head_formed : (d : Designator) → PD d
    head_formed = ind-Designator PE PS PD PI step_expr step_selector step_designator (λ x y q. tt)
