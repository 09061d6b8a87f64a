-- Expressions, with other numbers of modules.
use Rattle.check_const.specs.Operators.{mul_op, add_op}
use Rattle.check_const.specs.Parts.{named_type, Part, constant, sign_place}
use Rattle.check_expr.specs.Meanings.{first_name, high, Meant, routine_called, as_constant, designation, actuals, of_computed, used_with, relation_value, factor, scalar_named, wrong_count, unary, with_look, bound, value_of, argument_by, term, callee_value, names_by, breaches_in_all, formals_of, value_standing, signed_first, by_form, designator_layer, index_at, denotation, relation, with_actual, type_of, conversion, call_in_expression, call_given, Picks}
use Rattle.check_scope.specs.Elaborated.{Gathers, reported_beside, beside, ahead, of_sort, of_heading, of_sort_of_value, plain, ◌▷◌}
use Rattle.check_scope.specs.declared.meaningless.Meaningless.{Meaningless}
use Rattle.check_scope.specs.declared.scope.Scope.{Scope}
use Rattle.check_value.specs.Actuals.{next_formal, with_argument}
use Rattle.check_value.specs.Callees.{callee_of, function_of}
use Rattle.check_value.specs.Classes.{signature_at}
use Rattle.check_value.specs.Functions.{form_of, unary_at, type_named, bound_at, conversion_at, high_of}
use Rattle.check_value.specs.Operations.{operation_between}
use Rattle.check_value.specs.Signs.{negation}
use Rattle.check_value.specs.declared.callee.Called.{Called}
use Rattle.check_value.specs.declared.callee.Callee.{Callee}
use Rattle.check_value.specs.declared.computed.Computed.{Computed}
use Rattle.check_value.specs.declared.computed.Designated.{Designated}
use Rattle.check_value.specs.declared.standard.Form.{Form}
use Rattle.check_value.specs.declared.standard.Unary.{Unary}
use Rattle.def_exchange.specs.Moved.{moved_formal, moved_scalar, moved_signature, moved_type, moved_types, moved_value, Exchange}
use Rattle.law_exchange_types.proofs.Actuals.{with_argument_moves}
use Rattle.law_exchange_types.proofs.Basics.{then_moves, plain_moves, sort_moves, heading_moves, sort_of_value_moves, refusal_moves, ahead_moves}
use Rattle.law_exchange_types.proofs.Callees.{callee_of_moves, function_of_moves}
use Rattle.law_exchange_types.proofs.Classes.{signature_at_moves}
use Rattle.law_exchange_types.proofs.Fixed.{PartMoves, PickMoves, PicksMove, constant_moves, selection_moves}
use Rattle.law_exchange_types.proofs.Functions.{bound_at_moves, conversion_at_moves, high_of_moves, type_named_moves, unary_at_moves}
use Rattle.law_exchange_types.proofs.MeaningPieces.{signed_first_moves, relation_value_moves, first_name_moves as meant_first_moves, type_of_moves, of_computed_moves, value_standing_moves, argument_by_moves, call_given_moves, index_at_moves}
use Rattle.law_exchange_types.proofs.Operations.{operation_between_moves}
use Rattle.law_exchange_types.proofs.PartPieces.{named_type_moves}
use Rattle.law_exchange_types.proofs.Signs.{negation_moves}
use Rattle.law_exchange_types.specs.Constants.{moved_denoted}
use Rattle.law_exchange_types.specs.Pieces.{map_ok, moved_pair}
use Rattle.law_exchange_types.specs.Scopes.{moved_scope}
use Rattle.law_exchange_types.specs.Trees.{moved_argument}
use Rattle.law_exchange_types.specs.Values.{moved_called, moved_callee, moved_computed, moved_designated}
use Rattle.m2_rule.specs.Breaches.{breach}
use Rattle.m2_tree.specs.declared.expr.AddOp.{AddOp}
use Rattle.m2_tree.specs.declared.expr.MulOp.{MulOp}
use Rattle.m2_tree.specs.declared.expr.Operator.{Operator}
use Rattle.m2_tree.specs.declared.expr.RelOp.{RelOp}
use Rattle.m2_tree.specs.declared.expr.Sign.{Sign}
use Rattle.m2_tree.specs.declared.name.Ident.{Ident}
use Rattle.m2_tree.specs.declared.pos.Pos.{Pos}
use Rattle.std.proofs.Common.{◌≡◌, Err, List, MatchOption, None, Ok, Option, Result, Some, ap, ap₂, fold, length, map, option_map, refl, sym, ◌∷◌, ◌∙◌, []}
use Rattle.typed_tree.specs.declared.computed.Argument.{Argument}
use Rattle.typed_tree.specs.declared.meaning.Standard.{Standard}
use Rattle.typed_tree.specs.declared.meaning.Value.{Value}
use Rattle.typed_tree.specs.declared.shape.Formal.{Formal}
use Rattle.typed_tree.specs.declared.shape.Scalar.{Scalar as Range}
use Rattle.typed_tree.specs.declared.shape.Signature.{Signature}
use Rattle.typed_tree.specs.declared.types.TypeNo.{TypeNo}
use Rattle.m2_rule.specs.declared.rule.Rule.TheVariants as rule
use Rattle.check_value.specs.declared.computed.Computed.TheVariants as value
use Rattle.check_value.specs.declared.computed.Designated.TheVariants as designated
use Rattle.check_value.specs.declared.callee.Called.TheVariants as called
use Rattle.check_value.specs.declared.standard.Form.TheVariants as form

module _ (z : Exchange) (g : Gathers) where
  pub record MeantMoves (m : Meant g.Reported) : Type 0 where
    pub fixed : PartMoves z g m.fixed
    pub means : (s : Scope g.Reported) → m.means (moved_scope z s) ≡ map_ok (moved_designated z) (m.means s)

  pub record PickedMoves (p : Picks g.Reported) : Type 0 where
    pub fixed : PickMoves z g p.fixed
    pub picks : (s : Scope g.Reported) (d : Result Designated (Meaningless g.Reported))
        → p.picks (moved_scope z s) (map_ok (moved_designated z) d) ≡ map_ok (moved_designated z) (p.picks s d)

  abbrev pub AllMove : List (Meant g.Reported) → Type 0
  AllMove [] = Unit {0}
  AllMove (m ∷ ms) = MeantMoves m × AllMove ms

  abbrev pub AllPicked : List (Picks g.Reported) → Type 0
  AllPicked [] = Unit {0}
  AllPicked (m ∷ ms) = PickedMoves m × AllPicked ms

  abbrev pub OperandsMove : {O : Type 0} → List (Operator O × Meant g.Reported) → Type 0
  OperandsMove [] = Unit {0}
  OperandsMove (m ∷ ms) = MeantMoves m.1 × OperandsMove ms

  as_constant_moves : (s : Scope g.Reported) (p : Part g.Reported) → PartMoves z g p
      → as_constant g (moved_scope z s) p ≡ map_ok (moved_designated z) (as_constant g s p)
  as_constant_moves s p h =
      ap (λ (v : Result Value g.Reported). plain (v ▷ λ v. Ok (designated.Value (value.Constant v))))
      (constant_moves z g s p h)
      ∙ (ap plain (then_moves (moved_value z) (moved_designated z) (constant g s p)
      (λ v. Ok (designated.Value (value.Constant v))) (λ v. Ok (designated.Value (value.Constant v))) (λ v. refl))
      ∙ sym (plain_moves (moved_designated z) (constant g s p ▷ λ v. Ok (designated.Value (value.Constant v)))))

  value_of_moves : (s : Scope g.Reported) (m : Meant g.Reported) → MeantMoves m
      → value_of g (moved_scope z s) m ≡ map_ok (moved_computed z) (value_of g s m)
  value_of_moves s m h =
      ap (value_standing g (moved_types z s.types) m.fixed.at) (h.means s)
      ∙ value_standing_moves z g s.types m.fixed.at (m.means s)

  -- ---- calls

  abbrev looked : {A : Type 0} → Result A g.Reported → Result (Unit {0}) g.Reported
  looked r = r ▷ λ d. Ok tt

  seen_moves : {A B : Type 0} (f : A → B) (r : Result A g.Reported) → looked (map_ok f r) ≡ looked r
  seen_moves f (Ok a) = refl
  seen_moves f (Err e) = refl

  looks_move : (s : Scope g.Reported) (ms : List (Meant g.Reported)) (so : Result (Unit {0}) g.Reported) → AllMove ms
      → fold (with_look g (moved_scope z s)) so ms ≡ fold (with_look g s) so ms
  looks_move s [] so h = refl
  looks_move s (m ∷ ms) so h =
      ap (λ (u : Result (Unit {0}) g.Reported). fold (with_look g (moved_scope z s)) (beside g so u) ms)
      (ap (λ (u : Result Designated (Meaningless g.Reported)). of_heading u ▷ λ d. Ok tt) (h.0.means s)
      ∙ (ap (λ (u : Result Designated g.Reported). u ▷ λ d. Ok tt) (heading_moves (moved_designated z) (m.means s))
      ∙ seen_moves (moved_designated z) (of_heading (m.means s))))
      ∙ looks_move s ms (with_look g s so m) h.1

  breaches_move : (s : Scope g.Reported) (ms : List (Meant g.Reported)) → AllMove ms
      → breaches_in_all g (moved_scope z s) ms ≡ breaches_in_all g s ms
  breaches_move s ms h = looks_move s ms (Ok tt) h

  count_moves : {A B : Type 0} (f : A → B) (s : Scope g.Reported) (at : Pos) (ms : List (Meant g.Reported)) → AllMove ms
      → wrong_count g {A = B} (moved_scope z s) at ms ≡ map_ok f (wrong_count g {A = A} s at ms)
  count_moves {A} {B} f s at ms h =
      ap (reported_beside g {A = B} at rule.ArgumentCount) (breaches_move s ms h)
      ∙ sym (refusal_moves g f (g.one (breach at rule.ArgumentCount)) (breaches_in_all g s ms))

  argument_moves : (s : Scope g.Reported) (f : Option Formal) (m : Meant g.Reported) → MeantMoves m
      → argument_by g (moved_types z s.types) (option_map (moved_formal z) f) m.fixed.at (m.means (moved_scope z s))
      ≡ map_ok (moved_argument z) (argument_by g s.types f m.fixed.at (m.means s))
  argument_moves s f m h =
      ap (argument_by g (moved_types z s.types) (option_map (moved_formal z) f) m.fixed.at) (h.means s)
      ∙ argument_by_moves z g s.types f m.fixed.at (m.means s)

  abbrev moved_actuals : List Formal × Result (List Argument) g.Reported
      → List Formal × Result (List Argument) g.Reported
  moved_actuals st = (map (moved_formal z) st.0, map_ok (map (moved_argument z)) st.1)

  next_moves : (fs : List Formal) → next_formal (map (moved_formal z) fs)
      ≡ (option_map (moved_formal z) (next_formal fs).0, map (moved_formal z) (next_formal fs).1)
  next_moves [] = refl
  next_moves (f ∷ fs) = refl

  actual_moves : (s : Scope g.Reported) (st : List Formal × Result (List Argument) g.Reported) (m : Meant g.Reported)
      → MeantMoves m → with_actual g (moved_scope z s) (moved_actuals st) m ≡ moved_actuals (with_actual g s st m)
  actual_moves s st m h =
      ap (λ (n : Option Formal × List Formal). (
        n.1,
        with_argument g (map_ok (map (moved_argument z)) st.1)
            (argument_by g (moved_types z s.types) n.0 m.fixed.at (m.means (moved_scope z s))),
      )) (next_moves st.0)
      ∙ ap (λ (u : Result (List Argument) g.Reported). (map (moved_formal z) (next_formal st.0).1, u))
      (ap (with_argument g (map_ok (map (moved_argument z)) st.1)) (argument_moves s (next_formal st.0).0 m h)
      ∙ with_argument_moves z g st.1 (argument_by g s.types (next_formal st.0).0 m.fixed.at (m.means s)))

  actuals_move : (s : Scope g.Reported) (ms : List (Meant g.Reported))
      (st : List Formal × Result (List Argument) g.Reported)
      → AllMove ms → fold (with_actual g (moved_scope z s)) (moved_actuals st) ms
      ≡ moved_actuals (fold (with_actual g s) st ms)
  actuals_move s [] st h = refl
  actuals_move s (m ∷ ms) st h =
      ap (λ (u : List Formal × Result (List Argument) g.Reported). fold (with_actual g (moved_scope z s)) u ms)
      (actual_moves s st m h.0) ∙ actuals_move s ms (with_actual g s st m) h.1

  given_moves : (s : Scope g.Reported) (h : Option Signature) (ms : List (Meant g.Reported)) → AllMove ms
      → actuals g (moved_scope z s) (formals_of (option_map (moved_signature z) h)) ms
      ≡ map_ok (map (moved_argument z)) (actuals g s (formals_of h) ms)
  given_moves s None ms h = ap (λ (u : List Formal × Result (List Argument) g.Reported). u.1)
      (actuals_move s ms ([], Ok []) h)
  given_moves s (Some f) ms h = ap (λ (u : List Formal × Result (List Argument) g.Reported). u.1)
      (actuals_move s ms (f.formals, Ok []) h)

  routine_moves : (s : Scope g.Reported) (at : Pos) (t : TypeNo) (c : Callee) (ms : List (Meant g.Reported))
      → AllMove ms
      → routine_called g (moved_scope z s) at (moved_type z t) (moved_callee z c) ms
      ≡ map_ok (moved_computed z) (routine_called g s at t c ms)
  routine_moves s at t c ms h =
      ap (λ (sig : Option Signature). ahead g (function_of g at sig (length ms))
      (breaches_in_all g (moved_scope z s) ms)
      (λ u. call_given g (moved_types z s.types) u (moved_callee z c)
      (actuals g (moved_scope z s) (formals_of sig) ms)))
      (signature_at_moves z s.types t)
      ∙ (ap₂ (λ (a : Result TypeNo g.Reported) (b : Result (Unit {0}) g.Reported). ahead g a b
      (λ u. call_given g (moved_types z s.types) u (moved_callee z c) (actuals g (moved_scope z s)
      (formals_of (option_map (moved_signature z) (signature_at s.types t))) ms)))
      (function_of_moves z g at (signature_at s.types t) (length ms)) (breaches_move s ms h)
      ∙ ahead_moves g (moved_type z) (moved_computed z) (function_of g at (signature_at s.types t) (length ms))
      (breaches_in_all g s ms)
      (λ u. call_given g s.types u c (actuals g s (formals_of (signature_at s.types t)) ms))
      (λ u. call_given g (moved_types z s.types) u (moved_callee z c) (actuals g (moved_scope z s)
      (formals_of (option_map (moved_signature z) (signature_at s.types t))) ms))
      (λ u. ap (call_given g (moved_types z s.types) (moved_type z u) (moved_callee z c))
      (given_moves s (signature_at s.types t) ms h)
      ∙ call_given_moves z g s.types u c (actuals g s (formals_of (signature_at s.types t)) ms)))

  by_unary_moves : (s : Scope g.Reported) (at : Pos) (f : Standard) (u : Unary) (ms : List (Meant g.Reported))
      → AllMove ms
      → unary g (moved_scope z s) at f u ms ≡ map_ok (moved_computed z) (unary g s at f u ms)
  by_unary_moves s at f u [] h = count_moves (moved_computed z) s at [] h
  by_unary_moves s at f u (m ∷ []) h =
      ap (λ (v : Result Computed g.Reported). v ▷ unary_at g f u m.fixed.at) (value_of_moves s m h.0)
      ∙ then_moves (moved_computed z) (moved_computed z) (value_of g s m) (unary_at g f u m.fixed.at)
      (unary_at g f u m.fixed.at) (unary_at_moves z g f u m.fixed.at)
  by_unary_moves s at f u (m ∷ n ∷ ms) h = count_moves (moved_computed z) s at (m ∷ n ∷ ms) h

  scalar_named_moves : (s : Scope g.Reported) (m : Meant g.Reported) → MeantMoves m
      → scalar_named g (moved_scope z s) m ≡ map_ok (moved_pair (moved_type z) (moved_scalar z)) (scalar_named g s m)
  scalar_named_moves s m h =
      ap (λ (d : Result Designated (Meaningless g.Reported)). of_sort g m.fixed.at rule.NoType d
      ▷ type_named g (moved_types z s.types) m.fixed.at) (h.means s)
      ∙ (ap (λ (d : Result Designated g.Reported). d ▷ type_named g (moved_types z s.types) m.fixed.at)
      (sort_moves g (moved_designated z) m.fixed.at rule.NoType (m.means s))
      ∙ then_moves (moved_designated z) (moved_pair (moved_type z) (moved_scalar z))
      (of_sort g m.fixed.at rule.NoType (m.means s)) (type_named g s.types m.fixed.at)
      (type_named g (moved_types z s.types) m.fixed.at) (type_named_moves z g s.types m.fixed.at))

  by_bound_moves : (s : Scope g.Reported) (at : Pos) (f : Standard) (ms : List (Meant g.Reported)) → AllMove ms
      → bound g (moved_scope z s) at f ms ≡ map_ok (moved_computed z) (bound g s at f ms)
  by_bound_moves s at f [] h = count_moves (moved_computed z) s at [] h
  by_bound_moves s at f (m ∷ []) h = ap (bound_at f) (scalar_named_moves s m h.0)
      ∙ bound_at_moves z f (scalar_named g s m)
  by_bound_moves s at f (m ∷ n ∷ ms) h = count_moves (moved_computed z) s at (m ∷ n ∷ ms) h

  by_conversion_moves : (s : Scope g.Reported) (at : Pos) (ms : List (Meant g.Reported)) → AllMove ms
      → conversion g (moved_scope z s) at ms ≡ map_ok (moved_computed z) (conversion g s at ms)
  by_conversion_moves s at [] h = count_moves (moved_computed z) s at [] h
  by_conversion_moves s at (m ∷ []) h = count_moves (moved_computed z) s at (m ∷ []) h
  by_conversion_moves s at (m ∷ n ∷ []) h =
      ap₂ (λ (a : Result (TypeNo × Range) g.Reported) (b : Result Computed g.Reported). conversion_at g a n.fixed.at b)
      (scalar_named_moves s m h.0) (value_of_moves s n h.1.0)
      ∙ conversion_at_moves z g (scalar_named g s m) n.fixed.at (value_of g s n)
  by_conversion_moves s at (m ∷ n ∷ o ∷ ms) h = count_moves (moved_computed z) s at (m ∷ n ∷ o ∷ ms) h

  by_high_moves : (s : Scope g.Reported) (at : Pos) (ms : List (Meant g.Reported)) → AllMove ms
      → high g (moved_scope z s) at ms ≡ map_ok (moved_computed z) (high g s at ms)
  by_high_moves s at [] h = count_moves (moved_computed z) s at [] h
  by_high_moves s at (m ∷ []) h =
      ap (λ (d : Result Designated (Meaningless g.Reported)). of_sort_of_value g m.fixed.at rule.WrongArgument d
      ▷ high_of g m.fixed.at) (h.0.means s)
      ∙ (ap (λ (d : Result Designated g.Reported). d ▷ high_of g m.fixed.at)
      (sort_of_value_moves g (moved_designated z) m.fixed.at rule.WrongArgument (m.means s))
      ∙ then_moves (moved_designated z) (moved_computed z)
      (of_sort_of_value g m.fixed.at rule.WrongArgument (m.means s))
      (high_of g m.fixed.at) (high_of g m.fixed.at) (high_of_moves z g m.fixed.at))
  by_high_moves s at (m ∷ n ∷ ms) h = count_moves (moved_computed z) s at (m ∷ n ∷ ms) h

  form_moves : (s : Scope g.Reported) (at : Pos) (f : Standard) (ms : List (Meant g.Reported)) (o : Form) → AllMove ms
      → by_form g (moved_scope z s) at f ms o ≡ map_ok (moved_computed z) (by_form g s at f ms o)
  form_moves s at f ms (form.Unary u) h = by_unary_moves s at f u ms h
  form_moves s at f ms form.Bound h = by_bound_moves s at f ms h
  form_moves s at f ms form.Conversion h = by_conversion_moves s at ms h
  form_moves s at f ms form.High h = by_high_moves s at ms h
  form_moves s at f ms form.Proper h =
      ap (reported_beside g {A = Computed} at rule.WrongType) (breaches_move s ms h)
      ∙ sym (refusal_moves g (moved_computed z) (g.one (breach at rule.WrongType)) (breaches_in_all g s ms))

  callee_value_moves : (s : Scope g.Reported) (at : Pos) (ms : List (Meant g.Reported)) (c : Called) → AllMove ms
      → callee_value g (moved_scope z s) at ms (moved_called z c) ≡ map_ok (moved_computed z) (callee_value g s at ms c)
  callee_value_moves s at ms (called.Routine t c) h = routine_moves s at t c ms h
  callee_value_moves s at ms (called.Standard f) h = form_moves s at f ms (form_of f) h

  call_in_moves : (s : Scope g.Reported) (at : Pos) (d : Result Designated (Meaningless g.Reported))
      (ms : List (Meant g.Reported)) → AllMove ms
      → call_in_expression g (moved_scope z s) at (map_ok (moved_designated z) d) ms
      ≡ map_ok (moved_computed z) (call_in_expression g s at d ms)
  call_in_moves s at d ms h =
      ap₂ (λ (a : Result Called g.Reported) (b : Result (Unit {0}) g.Reported). ahead g a b
      (callee_value g (moved_scope z s) at ms))
      (ap (λ (u : Result Designated g.Reported). u ▷ callee_of g (moved_types z s.types) at)
      (heading_moves (moved_designated z) d)
      ∙ then_moves (moved_designated z) (moved_called z) (of_heading d) (callee_of g s.types at)
      (callee_of g (moved_types z s.types) at) (callee_of_moves z g s.types at))
      (breaches_move s ms h)
      ∙ ahead_moves g (moved_called z) (moved_computed z) (of_heading d ▷ callee_of g s.types at)
      (breaches_in_all g s ms)
      (callee_value g s at ms) (callee_value g (moved_scope z s) at ms) (λ c. callee_value_moves s at ms c h)

  pub meant_used_moves : (s : Scope g.Reported) (d : Meant g.Reported) (ms : Option (List (Meant g.Reported)))
      → MeantMoves d → MatchOption ms (Unit {0}) AllMove
      → used_with g (moved_scope z s) d ms ≡ map_ok (moved_designated z) (used_with g s d ms)
  meant_used_moves s d None h k = h.means s
  meant_used_moves s d (Some ms) h k =
      ap of_computed (ap (λ (u : Result Designated (Meaningless g.Reported)). call_in_expression g (moved_scope z s)
      d.fixed.at u ms)
      (h.means s) ∙ call_in_moves s d.fixed.at (d.means s) ms k)
      ∙ of_computed_moves z (call_in_expression g s d.fixed.at (d.means s) ms)

  -- ---- operators

  factors_run : (s : Scope g.Reported) (at : Pos) (ms : List (Operator MulOp × Meant g.Reported))
      (v : Result Computed g.Reported) → OperandsMove ms
      → fold (factor g (moved_scope z s) at) (map_ok (moved_computed z) v) ms
      ≡ map_ok (moved_computed z) (fold (factor g s at) v ms)
  factors_run s at [] v h = refl
  factors_run s at (m ∷ ms) v h =
      ap (λ (u : Result Computed g.Reported). fold (factor g (moved_scope z s) at) u ms)
      (ap (operation_between g (moved_types z s.types) (mul_op m.0.op) m.0.pos at (map_ok (moved_computed z) v)
      m.1.fixed.at)
      (value_of_moves s m.1 h.0)
      ∙ operation_between_moves z g s.types (mul_op m.0.op) m.0.pos at v m.1.fixed.at (value_of g s m.1))
      ∙ factors_run s at ms (factor g s at v m) h.1

  terms_run : (s : Scope g.Reported) (at : Pos) (ms : List (Operator AddOp × Meant g.Reported))
      (v : Result Computed g.Reported) → OperandsMove ms
      → fold (term g (moved_scope z s) at) (map_ok (moved_computed z) v) ms
      ≡ map_ok (moved_computed z) (fold (term g s at) v ms)
  terms_run s at [] v h = refl
  terms_run s at (m ∷ ms) v h =
      ap (λ (u : Result Computed g.Reported). fold (term g (moved_scope z s) at) u ms)
      (ap (operation_between g (moved_types z s.types) (add_op m.0.op) m.0.pos at (map_ok (moved_computed z) v)
      m.1.fixed.at)
      (value_of_moves s m.1 h.0)
      ∙ operation_between_moves z g s.types (add_op m.0.op) m.0.pos at v m.1.fixed.at (value_of g s m.1))
      ∙ terms_run s at ms (term g s at v m) h.1

  pub not_means : (s : Scope g.Reported) (at : Pos) (m : Meant g.Reported) → MeantMoves m
      → of_computed (negation g at (value_of g (moved_scope z s) m))
      ≡ map_ok (moved_designated z) (of_computed (negation g at (value_of g s m)))
  not_means s at m h =
      ap of_computed (ap (negation g at) (value_of_moves s m h) ∙ negation_moves z g at (value_of g s m))
      ∙ of_computed_moves z (negation g at (value_of g s m))

  pub bracketed_means : (s : Scope g.Reported) (m : Meant g.Reported) → MeantMoves m
      → of_computed (value_of g (moved_scope z s) m) ≡ map_ok (moved_designated z) (of_computed (value_of g s m))
  bracketed_means s m h = ap of_computed (value_of_moves s m h) ∙ of_computed_moves z (value_of g s m)

  pub term_means : (s : Scope g.Reported) (m : Meant g.Reported) (ms : List (Operator MulOp × Meant g.Reported))
      → MeantMoves m → OperandsMove ms
      → of_computed (fold (factor g (moved_scope z s) m.fixed.at) (value_of g (moved_scope z s) m) ms)
      ≡ map_ok (moved_designated z) (of_computed (fold (factor g s m.fixed.at) (value_of g s m) ms))
  term_means s m ms h k =
      ap of_computed (ap (λ (u : Result Computed g.Reported). fold (factor g (moved_scope z s) m.fixed.at) u ms)
      (value_of_moves s m h) ∙ factors_run s m.fixed.at ms (value_of g s m) k)
      ∙ of_computed_moves z (fold (factor g s m.fixed.at) (value_of g s m) ms)

  pub sum_means : (s : Scope g.Reported) (o : Option (Operator Sign)) (m : Meant g.Reported)
      (ms : List (Operator AddOp × Meant g.Reported)) → MeantMoves m → OperandsMove ms
      → of_computed (fold (term g (moved_scope z s) (sign_place o m.fixed.at))
      (signed_first g o (value_of g (moved_scope z s) m)) ms)
      ≡ map_ok (moved_designated z) (of_computed
      (fold (term g s (sign_place o m.fixed.at)) (signed_first g o (value_of g s m)) ms))
  sum_means s o m ms h k =
      ap of_computed (ap (λ (u : Result Computed g.Reported). fold (term g (moved_scope z s) (sign_place o m.fixed.at))
      u ms)
      (ap (signed_first g o) (value_of_moves s m h) ∙ signed_first_moves z g o (value_of g s m))
      ∙ terms_run s (sign_place o m.fixed.at) ms (signed_first g o (value_of g s m)) k)
      ∙ of_computed_moves z (fold (term g s (sign_place o m.fixed.at)) (signed_first g o (value_of g s m)) ms)

  pub relation_means : (s : Scope g.Reported) (m : Meant g.Reported) (o : Operator RelOp) (n : Meant g.Reported)
      → MeantMoves m → MeantMoves n
      → of_computed (relation g (moved_scope z s) m o n)
      ≡ map_ok (moved_designated z) (of_computed (relation g s m o n))
  relation_means s m o n h k =
      ap of_computed (ap₂ (λ (a b : Result Computed g.Reported). relation_value g (moved_types z s.types) o m.fixed.at a
      n.fixed.at b)
      (value_of_moves s m h) (value_of_moves s n k)
      ∙ relation_value_moves z g s.types o m.fixed.at (value_of g s m) n.fixed.at (value_of g s n))
      ∙ of_computed_moves z (relation g s m o n)

  pub constant_means : (s : Scope g.Reported) (p : Part g.Reported) → PartMoves z g p
      → as_constant g (moved_scope z s) p ≡ map_ok (moved_designated z) (as_constant g s p)
  constant_means = as_constant_moves

  -- ---- designators

  pub index_picks : (s : Scope g.Reported) (at : Pos) (m : Meant g.Reported)
      (d : Result Designated (Meaningless g.Reported))
      → MeantMoves m
      → index_at g (moved_types z s.types) at (map_ok (moved_designated z) d) m.fixed.at
      (value_of g (moved_scope z s) m)
      ≡ map_ok (moved_designated z) (index_at g s.types at d m.fixed.at (value_of g s m))
  index_picks s at m d h =
      ap (index_at g (moved_types z s.types) at (map_ok (moved_designated z) d) m.fixed.at) (value_of_moves s m h)
      ∙ index_at_moves z g s.types at d m.fixed.at (value_of g s m)

  picking_moves : (s : Scope g.Reported) (ps : List (Picks g.Reported)) (d : Result Designated (Meaningless g.Reported))
      → AllPicked ps → fold (λ x p. p.picks (moved_scope z s) x) (map_ok (moved_designated z) d) ps
      ≡ map_ok (moved_designated z) (fold (λ x p. p.picks s x) d ps)
  picking_moves s [] d h = refl
  picking_moves s (p ∷ ps) d h =
      ap (λ (u : Result Designated (Meaningless g.Reported)). fold (λ x p. p.picks (moved_scope z s) x) u ps)
      (h.0.picks s d)
      ∙ picking_moves s ps (p.picks s d) h.1

  pub designation_moves : (s : Scope g.Reported) (name : Ident) (ps : List (Picks g.Reported)) → AllPicked ps
      → designation g (moved_scope z s) name ps ≡ map_ok (moved_designated z) (designation g s name ps)
  designation_moves s name ps h =
      ap (λ (u : Result Designated (Meaningless g.Reported)). fold (λ x p. p.picks (moved_scope z s) x) u ps)
      (meant_first_moves z g s name) ∙ picking_moves s ps (first_name g s name) h

  pub fixed_picks : (ps : List (Picks g.Reported)) → AllPicked ps → PicksMove z g (map (λ p. p.fixed) ps)
  fixed_picks [] h = tt
  fixed_picks (p ∷ ps) h = (h.0.fixed, fixed_picks ps h.1)

  pub denotation_moves : (s : Scope g.Reported) (name : Ident) (ps : List (Picks g.Reported)) → AllPicked ps
      → denotation g (moved_scope z s) name ps ≡ map_ok (moved_denoted z) (denotation g s name ps)
  denotation_moves s name ps h = selection_moves z g s name (map (λ p. p.fixed) ps) (fixed_picks ps h)

  named_by : {A B X : Type 0} (xs : List X) (f : A → B) (a b : A) (c d : B) → c ≡ f a → d ≡ f b
      → names_by xs c d ≡ f (names_by xs a b)
  named_by [] f a b c d p q = p
  named_by (x ∷ xs) f a b c d p q = q

  pub designator_moves : (name : Ident) (ps : List (Picks g.Reported)) → AllPicked ps
      → MeantMoves (designator_layer g (record { name = name; selectors = ps }))
  designator_moves name ps h = record {
    fixed = record {
      denotes = λ s. denotation_moves s name ps h;
      names = λ s. named_by ps (map_ok (option_map (moved_type z))) (named_type (denotation g s name ps))
          (type_of g name.pos (designation g s name ps)) (named_type (denotation g (moved_scope z s) name ps))
          (type_of g name.pos (designation g (moved_scope z s) name ps))
          (ap named_type (denotation_moves s name ps h) ∙ named_type_moves z (denotation g s name ps))
          (ap (type_of g name.pos) (designation_moves s name ps h)
          ∙ type_of_moves z g name.pos (designation g s name ps));
    };
    means = λ s. designation_moves s name ps h;
  }
