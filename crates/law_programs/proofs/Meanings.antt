-- Expressions and designators: a lemma for each construct, and then the induction.
use Rattle.std.proofs.Common.{◌≡◌, ℕ, ◌==◌, pos, Bool, true, false, List, [], ◌∷◌, ◌++◌, length, map, Option, Some, None, Result, Ok, refl, sym, ap, subst, ◌∙◌, append_assoc, arith}
use Rattle.std.proofs.lemmas.Int.{ints}
use Rattle.std.specs.Prelude.{not, cond, ◌&&◌}
use Rattle.std.specs.List.{fold, list_all}
use Rattle.std.specs.Option.{option_map}
use Rattle.std.proofs.lemmas.Bool.{eqb-true}
use Rattle.std.proofs.lemmas.List.{append-nil}
use Rattle.m2_rule.specs.declared.rule.Rule.TheVariants as rule
use Rattle.m2_tree.specs.declared.pos.Pos.{Pos}
use Rattle.m2_tree.specs.declared.name.Ident.{Ident}
use Rattle.m2_tree.specs.declared.expr.MulOp.{MulOp}
use Rattle.m2_tree.specs.declared.expr.AddOp.{AddOp}
use Rattle.m2_tree.specs.declared.expr.RelOp.{RelOp}
use Rattle.m2_tree.specs.declared.expr.Sign.{Sign}
use Rattle.m2_tree.specs.declared.expr.Operator.{Operator}
use Rattle.m2_tree.specs.declared.expr.Expr.{Expr, Expr-F, out-Expr, roll-Expr, out-roll-Expr, map-Expr, fold_out-Expr, ind-Expr}
use Rattle.m2_tree.specs.declared.expr.Expr.TheOpen as layer
use Rattle.m2_tree.specs.declared.expr.Selector.{Selector, Selector-F, out-Selector, roll-Selector, out-roll-Selector, map-Selector, fold_out-Selector}
use Rattle.m2_tree.specs.declared.expr.Designator.{Designator, Designator-F, out-Designator, roll-Designator, out-roll-Designator, map-Designator, fold_out-Designator, ind-Designator}
use Rattle.m2_tree.specs.declared.expr.Item.{Item, Item-F, out-Item, roll-Item, out-roll-Item, map-Item, fold-Item, fold_out-Item}
use Rattle.typed_tree.specs.declared.computed.Argument.{Argument}
use Rattle.typed_tree.specs.declared.computed.Component.TheVariants as part
use Rattle.typed_tree.specs.declared.computed.Root.TheVariants as root
use Rattle.typed_tree.specs.declared.computed.TypedExpr.TheVariants as expr
use Rattle.typed_tree.specs.declared.known_types.Types.{Types}
use Rattle.typed_tree.specs.declared.meaning.LocalKind.{LocalKind}
use Rattle.typed_tree.specs.declared.meaning.LocalKind.TheVariants as kind
use Rattle.typed_tree.specs.declared.meaning.LocalVariable.{LocalVariable}
use Rattle.typed_tree.specs.declared.meaning.Meaning.{Meaning}
use Rattle.typed_tree.specs.declared.meaning.Meaning.TheVariants as meaning
use Rattle.typed_tree.specs.declared.meaning.Standard.{Standard}
use Rattle.typed_tree.specs.declared.meaning.Value.TheVariants as constant_value
use Rattle.typed_tree.specs.declared.shape.Formal.{Formal}
use Rattle.typed_tree.specs.declared.shape.Signature.{Signature}
use Rattle.typed_tree.specs.declared.types.TypeNo.{TypeNo}
use Rattle.typed_tree.specs.Chains.{root_place}
use Rattle.typed_tree.specs.Types.{char}
use Rattle.check_scope.specs.declared.meaningless.Meaningless.{Meaningless}
use Rattle.check_scope.specs.Elaborated.{Gathers, reported_where, ahead, of_sort, of_heading, of_value, ◌▷◌}
use Rattle.check_scope.specs.declared.scope.Scope.{Scope}
use Rattle.check_const.specs.Denote.{as_constant as constant_of}
use Rattle.check_const.specs.Parts.{Part, Pick, Adds, sign_place, set_type}
use Rattle.check_const.specs.declared.denoted.Denoted.{Denoted}
use Rattle.check_const.specs.declared.denoted.Denoted.TheVariants as denoted
use Rattle.check_const.specs.Operands.{letter, number_value}
use Rattle.check_const.specs.Operators.{mul_op, add_op}
use Rattle.check_const.specs.declared.operator.BinaryOp.TheVariants as op
use Rattle.check_value.specs.Classes.{signature_at}
use Rattle.check_value.specs.Selection.{field}
use Rattle.check_value.specs.Values.{slot_of, local_by, designated_by, function_result}
use Rattle.check_value.specs.declared.computed.Computed.{Computed}
use Rattle.check_value.specs.declared.computed.Computed.TheVariants as value
use Rattle.check_value.specs.declared.computed.Designated.{Designated}
use Rattle.check_value.specs.declared.computed.Designated.TheVariants as designated
use Rattle.check_value.specs.Actuals.{with_argument}
use Rattle.check_value.specs.Callees.{function_with, function_of, call_by}
use Rattle.check_value.specs.Functions.{form_of as standard_form, type_named}
use Rattle.check_value.specs.declared.callee.Callee.{Callee}
use Rattle.check_value.specs.declared.callee.Called.{Called}
use Rattle.check_value.specs.declared.callee.Called.TheVariants as called
use Rattle.check_value.specs.declared.standard.Form.{Form}
use Rattle.check_value.specs.declared.standard.Form.TheVariants as form
use Rattle.check_value.specs.declared.standard.Unary.{Unary}
use Rattle.check_expr.specs.Meanings.{Meant, Picks, of_computed, signed_first, first_name, field_of, formals_of, passed_for, argument_by, call_given, as_constant, value_of, breaches_in_all, with_actual, actuals, routine_called, unary, bound, conversion, high, by_form, callee_value, call_in_expression, factor, term, relation, expr_layer, selector_layer, designator_layer, item_layer, meanings_of, picks, head, item}
use Rattle.layout_storage.specs.Shapes.{tree}
use Rattle.layout_storage.specs.Types.{Ty}
use Rattle.law_simulation.specs.Frames.{kind_at}
use Rattle.law_simulation.specs.Passing.{Forms, form_of}
use Rattle.law_simulation.specs.TreesTyped.{Context, GlobalRoot, LocalRoot, AliasRoot, WithRoot}
use Rattle.law_well_formed.specs.Formed.{Holds, fine}
use Rattle.law_well_formed.proofs.Basics.{then_holds, reported_holds, both_holds, refused_holds, reported_beside_holds, ahead_holds, sort_holds, of_heading_holds, of_value_holds, sort_of_value_holds, plain_holds, any_holds, heading_kept}
use Rattle.law_well_formed.specs.FormedRanges.{itself, fits_layer}
use Rattle.law_well_formed.proofs.RangesTypes.{both_left, both_right}
use Rattle.law_well_formed.proofs.Subranges.{from_le}
use Rattle.law_well_formed.proofs.Values.{char_ranged}
use Rattle.law_programs.specs.Typing.{fits_selector, fits_designator, fits_item, fits_whole, fits_picked, fits_head, IsConstant, FormalsKnown, kind_of, CallTyped, ValueTyped, DesignatedTyped, MeaningTyped, IsTyped}
use Rattle.law_programs.proofs.Known.{signature_known, result_is, heading_by_signature}
use Rattle.law_programs.proofs.Words.{B_, added_small, AllSmall, items_small}
use Rattle.law_programs.proofs.Constructs as made
use Rattle.law_programs.proofs.Operators.{signed_typed, negated_typed, combined_typed, field_typed, indexed_typed}
use Rattle.law_programs.proofs.Calls.{given_typed, taken_typed, actual_typed, CalleeTyped, CalledTyped, callee_typed, call_typed, unary_typed, TypeIs, type_is, bound_typed, conversion_typed, high_typed}

module _ (g : Gathers) (x : Context) (ws : List Ty) (opens : ℕ → Bool) (s : Scope g.Reported)
    (h : IsTyped g x ws opens s) where
  abbrev types : Types
  types = x.home.types

  abbrev pub Value_ : Result Computed g.Reported → Type 0
  Value_ r = Holds (ValueTyped x ws) r

  abbrev pub Designated_ : {T : Type 0} → Result Designated T → Type 0
  Designated_ r = Holds (DesignatedTyped x ws opens) r

  abbrev pub FM : Meant g.Reported → Type 0
  FM y = Designated_ (y.means s)

  abbrev FP : Picks g.Reported → Type 0
  FP p = (d : Result Designated (Meaningless g.Reported)) → Designated_ d → Designated_ (p.picks s d)

  abbrev pub AllM : List (Meant g.Reported) → Type 0
  AllM [] = Unit {0}
  AllM (y ∷ ys) = FM y × AllM ys

  abbrev AllT : {O : Type 0} → List (Operator O × Meant g.Reported) → Type 0
  AllT [] = Unit {0}
  AllT (y ∷ ys) = FM y.1 × AllT ys

  abbrev AllP : List (Picks g.Reported) → Type 0
  AllP [] = Unit {0}
  AllP (y ∷ ys) = FP y × AllP ys

  pub value_typed : (y : Meant g.Reported) → FM y → Value_ (value_of g s y)
  value_typed y p = then_holds (of_value_holds g y.fixed.at p)
      (λ d k. taken_typed x ws h.all g opens s.types h.types y.fixed.at d k)

  computed_typed : {r : Result Computed g.Reported} → Value_ r → Designated_ (of_computed r)
  computed_typed p = plain_holds (then_holds p (λ v k. fine (designated.Value v) k))

  -- ---- constants

  abbrev DenotedTyped : Denoted → Type 0
  DenotedTyped (denoted.Value v) = IsConstant types v
  DenotedTyped (denoted.Type t) = Unit {0}
  DenotedTyped denoted.Variable = Unit {0}
  DenotedTyped denoted.Procedure = Unit {0}
  DenotedTyped (denoted.Standard f) = Unit {0}
  DenotedTyped (denoted.Module k) = Unit {0}

  constant_of_typed : (at : Pos) (d : Denoted) → DenotedTyped d → Holds (IsConstant types) (constant_of g at d)
  constant_of_typed at (denoted.Value v) p = fine v p
  constant_of_typed at (denoted.Type t) p = reported_holds g at rule.NoConstant
  constant_of_typed at denoted.Variable p = reported_holds g at rule.NoConstant
  constant_of_typed at denoted.Procedure p = reported_holds g at rule.NoConstant
  constant_of_typed at (denoted.Standard f) p = reported_holds g at rule.NoConstant
  constant_of_typed at (denoted.Module k) p = reported_holds g at rule.NoConstant

  constant_meant : (y : Part g.Reported) → Holds DenotedTyped (y.denotes s) → Designated_ (as_constant g s y)
  constant_meant y p = plain_holds (then_holds (then_holds p (λ d k. constant_of_typed y.at d k))
      (λ v k. fine (designated.Value (value.Constant v)) k))

  -- ---- names

  local_typed : (v : LocalVariable) (k : LocalKind) → kind_at x.kinds (slot_of s.level v) ≡ Some (kind_of types v.of k)
      → DesignatedTyped x ws opens (local_by s.level v k)
  local_typed v kind.Variable p = made.rooted_typed x ws (root.Local (slot_of s.level v)) (tree types v.of)
      (LocalRoot (slot_of s.level v) (tree types v.of) p)
  local_typed v kind.Value p = made.rooted_typed x ws (root.Local (slot_of s.level v)) (tree types v.of)
      (LocalRoot (slot_of s.level v) (tree types v.of) p)
  local_typed v kind.Alias p = made.rooted_typed x ws (root.Alias (slot_of s.level v)) (tree types v.of)
      (AliasRoot (slot_of s.level v) (tree types v.of) p)
  local_typed v kind.Open p = p

  pub by_meaning : (at : Pos) (y : Meaning) → MeaningTyped x ws opens s.level y
      → Designated_ (designated_by g s.level at y)
  by_meaning at (meaning.Constant v) p = fine (designated.Value (value.Constant v)) p
  by_meaning at (meaning.Type t n) p = fine (designated.Type t) tt
  by_meaning at (meaning.Variable v) p = fine (designated.Variable v.of (root_place (root.Global v)))
      (made.rooted_typed x ws (root.Global v) (tree types v.of) (GlobalRoot v (tree types v.of) p))
  by_meaning at (meaning.Local v) p = fine (local_by s.level v v.kind) (local_typed v v.kind p)
  by_meaning at (meaning.Field f) p =
      fine _ (made.behind_typed x ws (root_place (root.With f.with)) (part.Field f.whole f.number) (tree types f.whole)
      (tree types f.of) (made.rooted_typed x ws (root.With f.with) (tree types f.whole)
      (WithRoot f.with (tree types f.whole) p.0)) (made.field_typed x ws f.whole f.number (tree types f.of) p.1))
  by_meaning at (meaning.Procedure f) p = fine (designated.Procedure f) p
  by_meaning at (meaning.LocalProcedure f) p = fine _ p
  by_meaning at meaning.Ahead p = reported_holds g at rule.Ahead
  by_meaning at (meaning.Standard f) p = fine (designated.Standard f) tt
  by_meaning at (meaning.Module k) p = fine (designated.Module k) p

  named_typed : (name : Ident) → Designated_ (first_name g s name)
  named_typed name = then_holds (h.names name) (λ y p. plain_holds (by_meaning name.pos y p))

  component_typed : (at : Pos) (name : Ident) (d : Designated) → DesignatedTyped x ws opens d
      → Designated_ (field g s.types at name d)
  component_typed at name d p = field_typed x ws h.all g s.types h.types opens at name d p

  field_of_typed : (at : Pos) (name : Ident) (d : Designated) → DesignatedTyped x ws opens d
      → Designated_ (field_of g s at name d)
  field_of_typed at name (designated.Module k) p = then_holds (h.members k name p) (λ y q. by_meaning name.pos y q)
  field_of_typed at name (designated.Value v) p = component_typed at name (designated.Value v) p
  field_of_typed at name (designated.Variable t d) p = component_typed at name (designated.Variable t d) p
  field_of_typed at name (designated.Open t slot) p = component_typed at name (designated.Open t slot) p
  field_of_typed at name (designated.Type t) p = component_typed at name (designated.Type t) p
  field_of_typed at name (designated.Procedure f) p = component_typed at name (designated.Procedure f) p
  field_of_typed at name (designated.Nested f) p = component_typed at name (designated.Nested f) p
  field_of_typed at name (designated.Standard f) p = component_typed at name (designated.Standard f) p

  -- ---- calls

  abbrev pub Arguments_ : Forms → Result (List Argument) g.Reported → Type 0
  Arguments_ fs r = Holds (λ gs. made.ArgumentsTyped x ws gs fs) r

  passed_by : (is_var : Bool) (at : Pos) {d : Result Designated (Meaningless g.Reported)} → Designated_ d
      → Designated_ (cond is_var (of_sort g at rule.NoVariable d) (of_value g at d))
  passed_by true at p = sort_holds g at rule.NoVariable p
  passed_by false at p = of_value_holds g at p

  passed_typed : (f : Formal) (at : Pos) {d : Result Designated (Meaningless g.Reported)} → Designated_ d
      → Designated_ (passed_for g f at d)
  passed_typed f at p = passed_by f.is_var at p

  args_typed : (args : List (Meant g.Reported)) (fs : List Formal) (taken : Forms)
      (r : Result (List Argument) g.Reported) → length fs ≡ length args → FormalsKnown s.types fs → Arguments_ taken r
      → AllM args
      → Arguments_ (taken ++ map (form_of types) fs) (fold (with_actual g s) (fs, r) args).1
  args_typed [] [] taken r e f p all = subst (λ (fs : Forms). Arguments_ fs r) (sym (append-nil taken)) p
  args_typed [] (y ∷ fs) taken r e f p all = absurd (omega (arith, e))
  args_typed (y ∷ args) [] taken r e f p all = absurd (omega (arith, e))
  args_typed (y ∷ args) (z ∷ fs) taken r e f p all =
      let one : Arguments_ (taken ++ form_of types z ∷ [])
      (with_argument g r (argument_by g s.types (Some z) y.fixed.at (y.means s))) =
      then_holds (both_holds g p (then_holds (passed_typed z y.fixed.at all.0)
      (λ d k. actual_typed x ws h.all g opens s.types h.types h.room z y.fixed.at d f.0 k)))
      (λ v k. fine (v.0 ++ v.1 ∷ []) (made.arguments_typed x ws v.0 v.1 taken (form_of types z) k.0 k.1))
      in
      subst (λ (es : Forms). Arguments_ es (fold (with_actual g s) (z ∷ fs, r) (y ∷ args)).1)
      (append_assoc taken (form_of types z ∷ []) (map (form_of types) fs))
      (args_typed args fs (taken ++ form_of types z ∷ []) _ (omega (arith, e)) f.1 one all.1)

  pub actuals_typed : (args : List (Meant g.Reported)) (fs : List Formal) → length fs ≡ length args
      → FormalsKnown s.types fs → AllM args → Arguments_ (map (form_of types) fs) (actuals g s fs args)
  actuals_typed args fs e f all = args_typed args fs [] (Ok []) e f (fine [] (made.no_arguments_typed x ws)) all

  module _ (at : Pos) (t : TypeNo) (c : Callee) (args : List (Meant g.Reported))
      (there : CalleeTyped x ws h.all g opens s.types h.types t c) (all : AllM args) where
    -- a call with these arguments has the result of the heading
    pub call_made : (k : Signature) → signature_at s.types t ≡ Some k → (gs : List Argument)
        → made.ArgumentsTyped x ws gs (map (form_of types) k.formals)
        → CallTyped x ws (call_by gs c) (option_map (tree types) k.result)
    call_made k e gs p =
        let heading = heading_kept s.types types h.types t k e in
        subst (CallTyped x ws (call_by gs c)) (result_is types t k (signature_known s.types types h.types t k e))
        (call_typed x ws h.all g opens s.types h.types c t gs there _
        (heading_by_signature types t k (signature_known s.types types h.types t k e))
        (subst (λ (fs : List Formal). made.ArgumentsTyped x ws gs (map (form_of types) fs)) (sym heading.formals)
        p))

    given_call : (k : Signature) (r : TypeNo) → signature_at s.types t ≡ Some k → k.result ≡ Some r
        → length k.formals ≡ length args → Value_ (call_given g s.types r c (actuals g s k.formals args))
    given_call k r e q count =
        then_holds (actuals_typed args k.formals count (h.formals t k e) all) (λ gs p.
        fine (function_result s.types r (expr.Call r (call_by gs c)))
        (given_typed x ws h.all g opens s.types h.types r (call_by gs c)
        (subst (CallTyped x ws (call_by gs c)) (ap (option_map (tree types)) q) (call_made k e gs p))))

    by_count : (k : Signature) (r : TypeNo) (q : Bool) → (length k.formals == length args) ≡ q
        → signature_at s.types t ≡ Some k → k.result ≡ Some r
        → Value_ (ahead g (reported_where g {A = Unit {0}} (not q) at rule.ArgumentCount (Ok (tt {0})) ▷ λ fine. Ok r)
        (breaches_in_all g s args) (λ r. call_given g s.types r c (actuals g s k.formals args)))
    by_count k r true count e q = given_call k r e q (eqb-true (length k.formals) (length args) count)
    by_count k r false count e q = refused_holds g _ (breaches_in_all g s args)

    by_result : (k : Signature) (o : Option TypeNo) → k.result ≡ o → signature_at s.types t ≡ Some k
        → Value_ (ahead g (function_with g at (length k.formals) (length args) o) (breaches_in_all g s args)
        (λ r. call_given g s.types r c (actuals g s k.formals args)))
    by_result k None q e = refused_holds g _ (breaches_in_all g s args)
    by_result k (Some r) q e = by_count k r (length k.formals == length args) refl e q

    by_signature : (o : Option Signature) → signature_at s.types t ≡ o
        → Value_ (ahead g (function_of g at o (length args)) (breaches_in_all g s args)
        (λ r. call_given g s.types r c (actuals g s (formals_of o) args)))
    by_signature None e = refused_holds g _ (breaches_in_all g s args)
    by_signature (Some k) e = by_result k k.result refl e

    routine_typed : Value_ (routine_called g s at t c args)
    routine_typed = by_signature (signature_at s.types t) refl

  -- ---- standard functions

  unary_all : (at : Pos) (f : Standard) (u : Unary) (args : List (Meant g.Reported)) → AllM args
      → Value_ (unary g s at f u args)
  unary_all at f u [] all = reported_beside_holds g at rule.ArgumentCount (breaches_in_all g s [])
  unary_all at f u (y ∷ []) all = then_holds (value_typed y all.0)
      (λ v p. unary_typed x ws h.all g opens s.types h.types f u y.fixed.at v p)
  unary_all at f u (y ∷ z ∷ ys) all = reported_beside_holds g at rule.ArgumentCount _

  named_type : (at : Pos) (d : Result Designated g.Reported)
      → Holds (TypeIs x ws h.all g opens s.types h.types) (d ▷ type_named g s.types at)
  named_type at d = then_holds (any_holds d) (λ y k. type_is x ws h.all g opens s.types h.types at y)

  bound_all : (at : Pos) (f : Standard) (args : List (Meant g.Reported)) → Value_ (bound g s at f args)
  bound_all at f [] = reported_beside_holds g at rule.ArgumentCount (breaches_in_all g s [])
  bound_all at f (y ∷ []) = bound_typed x ws h.all g opens s.types h.types f
      (named_type y.fixed.at (of_sort g y.fixed.at rule.NoType (y.means s)))
  bound_all at f (y ∷ z ∷ ys) = reported_beside_holds g at rule.ArgumentCount _

  conversion_all : (at : Pos) (args : List (Meant g.Reported)) → AllM args → Value_ (conversion g s at args)
  conversion_all at [] all = reported_beside_holds g at rule.ArgumentCount (breaches_in_all g s [])
  conversion_all at (t ∷ []) all = reported_beside_holds g at rule.ArgumentCount _
  conversion_all at (t ∷ y ∷ []) all = conversion_typed x ws h.all g opens s.types h.types y.fixed.at
      (named_type t.fixed.at (of_sort g t.fixed.at rule.NoType (t.means s))) (value_typed y all.1.0)
  conversion_all at (t ∷ y ∷ z ∷ ys) all = reported_beside_holds g at rule.ArgumentCount _

  high_all : (at : Pos) (args : List (Meant g.Reported)) → AllM args → Value_ (high g s at args)
  high_all at [] all = reported_beside_holds g at rule.ArgumentCount (breaches_in_all g s [])
  high_all at (y ∷ []) all = then_holds (sort_of_value_holds g y.fixed.at rule.WrongArgument all.0)
      (λ d p. high_typed x ws h.all g opens s.types h.types y.fixed.at d p)
  high_all at (y ∷ z ∷ ys) all = reported_beside_holds g at rule.ArgumentCount _

  form_typed : (at : Pos) (f : Standard) (args : List (Meant g.Reported)) (o : Form) → AllM args
      → Value_ (by_form g s at f args o)
  form_typed at f args (form.Unary u) all = unary_all at f u args all
  form_typed at f args form.Bound all = bound_all at f args
  form_typed at f args form.Conversion all = conversion_all at args all
  form_typed at f args form.High all = high_all at args all
  form_typed at f args form.Proper all = reported_beside_holds g at rule.WrongType _

  called_as_typed : (at : Pos) (args : List (Meant g.Reported)) (y : Called)
      → CalledTyped x ws h.all g opens s.types h.types y → AllM args → Value_ (callee_value g s at args y)
  called_as_typed at args (called.Routine t c) p all = routine_typed at t c args p all
  called_as_typed at args (called.Standard f) p all = form_typed at f args (standard_form f) all

  called_typed : (at : Pos) {d : Result Designated (Meaningless g.Reported)} (args : List (Meant g.Reported))
      → Designated_ d → AllM args → Value_ (call_in_expression g s at d args)
  called_typed at args p all = ahead_holds g (breaches_in_all g s args)
      (then_holds (of_heading_holds p) (λ d k. callee_typed x ws h.all g opens s.types h.types at d k))
      (λ y k. called_as_typed at args y k all)

  -- ---- operators

  factors_typed : (at : Pos) (rest : List (Operator MulOp × Meant g.Reported)) (v : Result Computed g.Reported)
      → Value_ v → AllT rest → Value_ (fold (factor g s at) v rest)
  factors_typed at [] v p all = p
  factors_typed at (y ∷ ys) v p all = factors_typed at ys (factor g s at v y)
      (combined_typed x ws h.all g s.types h.types (mul_op y.0.op) y.0.pos at y.1.fixed.at p (value_typed y.1 all.0))
      all.1

  terms_typed : (at : Pos) (rest : List (Operator AddOp × Meant g.Reported)) (v : Result Computed g.Reported) → Value_ v
      → AllT rest → Value_ (fold (term g s at) v rest)
  terms_typed at [] v p all = p
  terms_typed at (y ∷ ys) v p all = terms_typed at ys (term g s at v y)
      (combined_typed x ws h.all g s.types h.types (add_op y.0.op) y.0.pos at y.1.fixed.at p (value_typed y.1 all.0))
      all.1

  first_typed : (o : Option (Operator Sign)) {v : Result Computed g.Reported} → Value_ v → Value_ (signed_first g o v)
  first_typed None p = p
  first_typed (Some o) p = signed_typed x ws h.all g o.op o.pos p

  relation_typed : (a : Meant g.Reported) (o : Operator RelOp) (b : Meant g.Reported) → FM a → FM b
      → Value_ (relation g s a o b)
  relation_typed a o b p q = combined_typed x ws h.all g s.types h.types (op.Relation o.op) o.pos a.fixed.at b.fixed.at
      (value_typed a p) (value_typed b q)

  picks_typed : (ps : List (Picks g.Reported)) (d : Result Designated (Meaningless g.Reported)) → Designated_ d
      → AllP ps → Designated_ (fold (λ y p. p.picks s y) d ps)
  picks_typed [] d p all = p
  picks_typed (y ∷ ps) d p all = picks_typed ps (y.picks s d) (all.0 d p) all.1

  -- ---- a layer, each part of which has its meaning

  abbrev PE : Expr → Type 0
  PE e = fits_whole e ≡ true → FM (meanings_of g e)

  abbrev PS : Selector → Type 0
  PS e = fits_picked e ≡ true → FP (picks g e)

  abbrev PD : Designator → Type 0
  PD e = fits_head e ≡ true → FM (head g e)

  abbrev PI : Item → Type 0
  PI e = B_ g (item g e s)

  abbrev SE : Type 0
  SE = (e : Expr) × PE e

  abbrev SS : Type 0
  SS = (e : Selector) × PS e

  abbrev SD : Type 0
  SD = (e : Designator) × PD e

  abbrev SI : Type 0
  SI = (e : Item) × PI e

  abbrev opened : Expr-F Expr Selector Designator Item
      → Expr-F (Meant g.Reported) (Picks g.Reported) (Meant g.Reported) (Adds g.Reported)
  opened x = map-Expr Expr Selector Designator Item (Meant g.Reported) (Picks g.Reported) (Meant g.Reported)
      (Adds g.Reported) (meanings_of g) (picks g) (head g) (item g) x

  abbrev opened_selector : Selector-F Expr Selector Designator Item
      → Selector-F (Meant g.Reported) (Picks g.Reported) (Meant g.Reported) (Adds g.Reported)
  opened_selector x = map-Selector Expr Selector Designator Item (Meant g.Reported) (Picks g.Reported)
      (Meant g.Reported) (Adds g.Reported) (meanings_of g) (picks g) (head g) (item g) x

  abbrev opened_designator : Designator-F Expr Selector Designator Item
      → Designator-F (Meant g.Reported) (Picks g.Reported) (Meant g.Reported) (Adds g.Reported)
  opened_designator x = map-Designator Expr Selector Designator Item (Meant g.Reported) (Picks g.Reported)
      (Meant g.Reported) (Adds g.Reported) (meanings_of g) (picks g) (head g) (item g) x

  abbrev opened_item : Item-F Expr Selector Designator Item
      → Item-F (Meant g.Reported) (Picks g.Reported) (Meant g.Reported) (Adds g.Reported)
  opened_item x = map-Item Expr Selector Designator Item (Meant g.Reported) (Picks g.Reported) (Meant g.Reported)
      (Adds g.Reported) (meanings_of g) (picks g) (head g) (item g) x

  at_expr : (e : Expr) (x : Expr-F Expr Selector Designator Item) → out-Expr e ≡ x
      → meanings_of g e ≡ expr_layer g (opened x)
  unfolding meanings_of picks head item
  at_expr e x q = fold_out-Expr (Meant g.Reported) (Picks g.Reported) (Meant g.Reported) (Adds g.Reported)
      (expr_layer g) (selector_layer g) (designator_layer g) (item_layer g) e
      ∙ ap (λ (y : Expr-F Expr Selector Designator Item). expr_layer g (opened y)) q

  at_selector : (e : Selector) (x : Selector-F Expr Selector Designator Item) → out-Selector e ≡ x
      → picks g e ≡ selector_layer g (opened_selector x)
  unfolding meanings_of picks head item
  at_selector e x q = fold_out-Selector (Meant g.Reported) (Picks g.Reported) (Meant g.Reported) (Adds g.Reported)
      (expr_layer g) (selector_layer g) (designator_layer g) (item_layer g) e
      ∙ ap (λ (y : Selector-F Expr Selector Designator Item). selector_layer g (opened_selector y)) q

  at_designator : (e : Designator) (x : Designator-F Expr Selector Designator Item) → out-Designator e ≡ x
      → head g e ≡ designator_layer g (opened_designator x)
  unfolding meanings_of picks head item
  at_designator e x q = fold_out-Designator (Meant g.Reported) (Picks g.Reported) (Meant g.Reported) (Adds g.Reported)
      (expr_layer g) (selector_layer g) (designator_layer g) (item_layer g) e
      ∙ ap (λ (y : Designator-F Expr Selector Designator Item). designator_layer g (opened_designator y)) q

  at_item : (e : Item) (x : Item-F Expr Selector Designator Item) → out-Item e ≡ x
      → item g e ≡ item_layer g (opened_item x)
  unfolding meanings_of picks head item
  at_item e x q = fold_out-Item (Meant g.Reported) (Picks g.Reported) (Meant g.Reported) (Adds g.Reported)
      (expr_layer g) (selector_layer g) (designator_layer g) (item_layer g) e
      ∙ ap (λ (y : Item-F Expr Selector Designator Item). item_layer g (opened_item y)) q

  -- what fits

  abbrev fits_i : Item → Bool
  fits_i e = fold-Item Bool Bool Bool Bool fits_layer fits_selector fits_designator fits_item e

  abbrev fitting : Expr-F Expr Selector Designator Item → Expr-F Bool Bool Bool Bool
  fitting x = map-Expr Expr Selector Designator Item Bool Bool Bool Bool fits_whole fits_picked fits_head fits_i x

  abbrev fitting_selector : Selector-F Expr Selector Designator Item → Selector-F Bool Bool Bool Bool
  fitting_selector x = map-Selector Expr Selector Designator Item Bool Bool Bool Bool fits_whole fits_picked fits_head
      fits_i x

  abbrev fitting_designator : Designator-F Expr Selector Designator Item → Designator-F Bool Bool Bool Bool
  fitting_designator x = map-Designator Expr Selector Designator Item Bool Bool Bool Bool fits_whole fits_picked
      fits_head fits_i x

  fits_at : (e : Expr) (x : Expr-F Expr Selector Designator Item) → out-Expr e ≡ x
      → fits_whole e ≡ fits_layer (fitting x)
  unfolding fits_whole fits_picked fits_head
  fits_at e x q = fold_out-Expr Bool Bool Bool Bool fits_layer fits_selector fits_designator fits_item e
      ∙ ap (λ (y : Expr-F Expr Selector Designator Item). fits_layer (fitting y)) q

  picked_at : (e : Selector) (x : Selector-F Expr Selector Designator Item) → out-Selector e ≡ x
      → fits_picked e ≡ fits_selector (fitting_selector x)
  unfolding fits_whole fits_picked fits_head
  picked_at e x q = fold_out-Selector Bool Bool Bool Bool fits_layer fits_selector fits_designator fits_item e
      ∙ ap (λ (y : Selector-F Expr Selector Designator Item). fits_selector (fitting_selector y)) q

  head_at : (e : Designator) (x : Designator-F Expr Selector Designator Item) → out-Designator e ≡ x
      → fits_head e ≡ fits_designator (fitting_designator x)
  unfolding fits_whole fits_picked fits_head
  head_at e x q = fold_out-Designator Bool Bool Bool Bool fits_layer fits_selector fits_designator fits_item e
      ∙ ap (λ (y : Designator-F Expr Selector Designator Item). fits_designator (fitting_designator y)) q

  abbrev bare : Expr-F SE SS SD SI → Expr-F Expr Selector Designator Item
  bare x = map-Expr SE SS SD SI Expr Selector Designator Item (λ e. e.0) (λ e. e.0) (λ e. e.0) (λ e. e.0) x

  abbrev bare_selector : Selector-F SE SS SD SI → Selector-F Expr Selector Designator Item
  bare_selector x = map-Selector SE SS SD SI Expr Selector Designator Item (λ e. e.0) (λ e. e.0) (λ e. e.0) (λ e. e.0) x

  abbrev bare_designator : Designator-F SE SS SD SI → Designator-F Expr Selector Designator Item
  bare_designator x = map-Designator SE SS SD SI Expr Selector Designator Item (λ e. e.0) (λ e. e.0) (λ e. e.0)
      (λ e. e.0) x

  abbrev bare_item : Item-F SE SS SD SI → Item-F Expr Selector Designator Item
  bare_item x = map-Item SE SS SD SI Expr Selector Designator Item (λ e. e.0) (λ e. e.0) (λ e. e.0) (λ e. e.0) x

  -- ---- rows of parts

  abbrev bared : List SE → List Expr
  bared ys = map (λ (e : SE). e.0) ys

  all_terms : {O : Type 0} (ys : List (Operator O × SE))
      → list_all (λ (b : Operator O × Bool). b.1)
      (map (λ (y : Operator O × Expr). (y.0, fits_whole y.1)) (map (λ (a : Operator O × SE). (a.0, a.1.0)) ys)) ≡ true
      → AllT (map (λ (y : Operator O × Expr). (y.0, meanings_of g y.1))
      (map (λ (a : Operator O × SE). (a.0, a.1.0)) ys))
  all_terms [] e = tt
  all_terms (y ∷ ys) e = (y.1.1 (both_left (fits_whole y.1.0) _ e), all_terms ys (both_right (fits_whole y.1.0) _ e))

  all_args : (ys : List SE) → list_all itself (map fits_whole (bared ys)) ≡ true → AllM (map (meanings_of g) (bared ys))
  all_args [] e = tt
  all_args (y ∷ ys) e = (
    y.1 (both_left (fits_whole y.0) (list_all itself (map fits_whole (bared ys))) e),
    all_args ys
        (both_right (fits_whole y.0) (list_all itself (map fits_whole (bared ys))) e),
  )

  all_picks : (ys : List SS) → list_all itself (map fits_picked (map (λ (e : SS). e.0) ys)) ≡ true
      → AllP (map (picks g) (map (λ (e : SS). e.0) ys))
  all_picks [] e = tt
  all_picks (y ∷ ys) e = (
    y.1 (both_left (fits_picked y.0)
        (list_all itself (map fits_picked (map (λ (e : SS). e.0) ys))) e),
    all_picks ys
        (both_right (fits_picked y.0) (list_all itself (map fits_picked (map (λ (e : SS). e.0) ys))) e),
  )

  all_items : (ys : List SI) → AllSmall g s (map (λ (i : Adds g.Reported). i) (map (item g) (map (λ (e : SI). e.0) ys)))
  all_items [] = tt
  all_items (y ∷ ys) = (y.1, all_items ys)

  first_of : (y : SE) (rest : Bool) → (fits_whole y.0 && rest) ≡ true → Value_ (value_of g s (meanings_of g y.0))
  first_of y rest e = value_typed (meanings_of g y.0) (y.1 (both_left (fits_whole y.0) rest e))

  expr_typed : (y : Expr-F SE SS SD SI) → fits_layer (fitting (bare y)) ≡ true → FM (expr_layer g (opened (bare y)))
  expr_typed (layer.Number p n) e = constant_meant (expr_layer g (opened (bare (layer.Number p n)))).fixed
      (fine (denoted.Value (constant_value.Number (pos n)))
      ((omega (arith, ints), from_le (pos n) (pos 4294967295) e), tt))
  expr_typed (layer.Char p c) e = constant_meant (expr_layer g (opened (bare (layer.Char p c)))).fixed
      (fine (denoted.Value (number_value (Some char) (pos c)))
      (char_ranged g types (pos c) (omega (arith, ints)) (from_le (pos c) (pos 255) e), tt))
  expr_typed (layer.Text p t) e = constant_meant (expr_layer g (opened (bare (layer.Text p t)))).fixed
      (fine (denoted.Value (constant_value.Text t)) (e, tt))
  expr_typed (layer.Set q p items) e =
      constant_meant (expr_layer g (opened (bare (layer.Set q p items)))).fixed
      (then_holds (both_holds g (any_holds (set_type g s q))
      (items_small g s (map (λ (i : Adds g.Reported). i) (map (item g) (map (λ (e : SI). e.0) items))) (Ok 0)
      (fine 0 (omega arith)) (all_items items)))
      (λ (b : Unit {0} × ℕ) k. fine (denoted.Value (constant_value.Set b.1)) (tt, k.1)))
  expr_typed (layer.Not p y) e = computed_typed (negated_typed x ws h.all g p (value_typed (meanings_of g y.0) (y.1 e)))
  expr_typed (layer.Bracketed p y) e = computed_typed (value_typed (meanings_of g y.0) (y.1 e))
  expr_typed (layer.Use d None) e = d.1 (both_left (fits_head d.0) true e)
  expr_typed (layer.Use d (Some es)) e =
      computed_typed (called_typed (head g d.0).fixed.at (map (meanings_of g) (bared es))
      (d.1 (both_left (fits_head d.0) (list_all itself (map fits_whole (bared es))) e))
      (all_args es (both_right (fits_head d.0) (list_all itself (map fits_whole (bared es))) e)))
  expr_typed (layer.Term y ys) e =
      computed_typed (factors_typed (meanings_of g y.0).fixed.at
      (map (λ (z : Operator MulOp × Expr). (z.0, meanings_of g z.1))
      (map (λ (a : Operator MulOp × SE). (a.0, a.1.0)) ys)) (value_of g s (meanings_of g y.0)) (first_of y _ e)
      (all_terms ys (both_right (fits_whole y.0) _ e)))
  expr_typed (layer.Sum o y ys) e =
      computed_typed (terms_typed (sign_place o (meanings_of g y.0).fixed.at)
      (map (λ (z : Operator AddOp × Expr). (z.0, meanings_of g z.1))
      (map (λ (a : Operator AddOp × SE). (a.0, a.1.0)) ys)) (signed_first g o (value_of g s (meanings_of g y.0)))
      (first_typed o (first_of y _ e)) (all_terms ys (both_right (fits_whole y.0) _ e)))
  expr_typed (layer.Relation a o b) e = computed_typed
      (relation_typed (meanings_of g a.0) o (meanings_of g b.0) (a.1 (both_left (fits_whole a.0) (fits_whole b.0) e))
      (b.1 (both_right (fits_whole a.0) (fits_whole b.0) e)))

  selector_typed : (y : Selector-F SE SS SD SI) → fits_selector (fitting_selector (bare_selector y)) ≡ true
      → FP (selector_layer g (opened_selector (bare_selector y)))
  selector_typed (layer.Field p name) e =
      λ d q. plain_holds (then_holds (sort_holds g p rule.WrongType q) (λ z k. field_of_typed p name z k))
  selector_typed (layer.Index p y) e = λ d q. plain_holds
      (indexed_typed x ws h.all g s.types h.types opens p (meanings_of g y.0).fixed.at (sort_holds g p rule.WrongType q)
      (value_typed (meanings_of g y.0) (y.1 e)))

  designator_typed : (y : Designator-F SE SS SD SI) → fits_designator (fitting_designator (bare_designator y)) ≡ true
      → FM (designator_layer g (opened_designator (bare_designator y)))
  designator_typed y e = picks_typed (map (picks g) (map (λ (e : SS). e.0) y.selectors))
      (first_name g s y.name) (named_typed y.name) (all_picks y.selectors e)

  -- ---- the induction

  step_expr : (y : Expr-F Expr Selector Designator Item) (z : Expr-F SE SS SD SI) → bare z ≡ y → PE (roll-Expr y)
  step_expr y z q =
      let is : out-Expr (roll-Expr y) ≡ bare z = out-roll-Expr y ∙ sym q in λ e.
      subst FM (sym (at_expr (roll-Expr y) (bare z) is)) (expr_typed z (sym (fits_at (roll-Expr y) (bare z) is) ∙ e))

  step_selector : (y : Selector-F Expr Selector Designator Item) (z : Selector-F SE SS SD SI) → bare_selector z ≡ y
      → PS (roll-Selector y)
  step_selector y z q =
      let is : out-Selector (roll-Selector y) ≡ bare_selector z = out-roll-Selector y ∙ sym q in λ e.
      subst FP (sym (at_selector (roll-Selector y) (bare_selector z) is))
      (selector_typed z (sym (picked_at (roll-Selector y) (bare_selector z) is) ∙ e))

  step_designator : (y : Designator-F Expr Selector Designator Item) (z : Designator-F SE SS SD SI)
      → bare_designator z ≡ y → PD (roll-Designator y)
  step_designator y z q =
      let is : out-Designator (roll-Designator y) ≡ bare_designator z = out-roll-Designator y ∙ sym q in λ e.
      subst FM (sym (at_designator (roll-Designator y) (bare_designator z) is))
      (designator_typed z (sym (head_at (roll-Designator y) (bare_designator z) is) ∙ e))

  abbrev fixed_item : Item-F SE SS SD SI →
      Item-F (Part g.Reported) (Pick g.Reported) (Part g.Reported) (Adds g.Reported)
  fixed_item z = map-Item (Meant g.Reported) (Picks g.Reported) (Meant g.Reported) (Adds g.Reported) (Part g.Reported)
      (Pick g.Reported) (Part g.Reported) (Adds g.Reported) (λ e. e.fixed) (λ e. e.fixed) (λ e. e.fixed) (λ e. e)
      (opened_item (bare_item z))

  step_item : (y : Item-F Expr Selector Designator Item) (z : Item-F SE SS SD SI) → bare_item z ≡ y → PI (roll-Item y)
  step_item y z q = subst (λ (i : Adds g.Reported). B_ g (i s))
      (sym (at_item (roll-Item y) (bare_item z) (out-roll-Item y ∙ sym q)))
      (added_small g s (fixed_item z).low (fixed_item z).high)

  pub meant_typed : (e : Expr) → PE e
  meant_typed = ind-Expr PE PS PD PI step_expr step_selector step_designator step_item

  pub head_typed : (d : Designator) → PD d
  head_typed = ind-Designator PE PS PD PI step_expr step_selector step_designator step_item
