-- Assignments, and calls as statements.
use Rattle.std.proofs.Common.{◌≡◌, ℕ, ◌+◌, ◌-◌, ℤ, pos, ◌==◌, Bool, true, false, cond, List, [], ◌∷◌, length, Option, Some, None, Result, Ok, refl, sym, ap, subst, ◌∙◌, arith}
use Rattle.std.specs.Prelude.{◌≤◌, ◌-ℤ◌, not, nat_lt, unsigned_abs}
use Rattle.std.specs.List.{list_all}
use Rattle.std.specs.Option.{option_map}
use Rattle.std.proofs.lemmas.Bool.{eqb-true}
use Rattle.std.proofs.lemmas.Int.{ints}
use Rattle.m2_rule.specs.declared.rule.Rule.{Rule}
use Rattle.m2_rule.specs.declared.rule.Rule.TheVariants as rule
use Rattle.m2_tree.specs.declared.pos.Pos.{Pos}
use Rattle.typed_tree.specs.declared.computed.Place.{Place}
use Rattle.typed_tree.specs.declared.computed.TypedExpr.{TypedExpr}
use Rattle.typed_tree.specs.declared.computed.TypedExpr.TheVariants as expr
use Rattle.typed_tree.specs.declared.known_types.Types.{Types}
use Rattle.typed_tree.specs.declared.meaning.Standard.{Standard}
use Rattle.typed_tree.specs.declared.meaning.Standard.TheVariants.{Abs, Cap, Chr, High, Max, Min, Odd, Ord, Val, Inc, Dec, Incl, Excl, Halt, Put}
use Rattle.typed_tree.specs.declared.meaning.Value.{Value}
use Rattle.typed_tree.specs.declared.meaning.Value.TheVariants as constant
use Rattle.typed_tree.specs.declared.shape.Scalar.{Scalar as Range}
use Rattle.typed_tree.specs.declared.shape.Signature.{Signature}
use Rattle.typed_tree.specs.declared.statement.Change.{Change}
use Rattle.typed_tree.specs.declared.statement.Change.TheVariants.{Increase, Decrease}
use Rattle.typed_tree.specs.declared.statement.Membership.{Membership}
use Rattle.typed_tree.specs.declared.statement.Membership.TheVariants.{Include, Exclude}
use Rattle.typed_tree.specs.declared.statement.TypedStmt.{TypedStmt}
use Rattle.typed_tree.specs.declared.statement.TypedStmt.TheVariants as step
use Rattle.typed_tree.specs.declared.types.TypeNo.{TypeNo}
use Rattle.typed_tree.specs.Known.{scalar_at}
use Rattle.typed_tree.specs.Types.{are_same, is_numeric, cardinal, char, bitset}
use Rattle.check_scope.specs.Elaborated.{Gathers, reported_where, ahead}
use Rattle.check_scope.specs.declared.scope.Scope.{Scope}
use Rattle.check_const.specs.declared.operand.Operand.{Operand}
use Rattle.check_const.specs.declared.operand.Operand.TheVariants as operand
use Rattle.check_const.specs.declared.operand.Ordinal.{Ordinal}
use Rattle.check_const.specs.Numbers.{is_between}
use Rattle.check_const.specs.Operands.{operand_of, is_number}
use Rattle.check_const.specs.Standards.{scalar_part, if_number}
use Rattle.check_value.specs.Classes.{class_at, array_at, signature_at}
use Rattle.check_value.specs.Suits.{text_within, text_fits_in, text_fits, text_suited, whole_suited, of_expr, value_suited, suited_in}
use Rattle.check_value.specs.declared.class.Class.{Class}
use Rattle.check_value.specs.declared.class.Class.TheVariants as class
use Rattle.check_value.specs.declared.computed.Computed.{Computed}
use Rattle.check_value.specs.declared.computed.Computed.TheVariants as value
use Rattle.check_value.specs.declared.computed.Designated.{Designated}
use Rattle.check_value.specs.declared.computed.Designated.TheVariants as designated
use Rattle.check_value.specs.declared.places.Accepted.{Accepted}
use Rattle.check_value.specs.declared.places.Accepted.TheVariants as accepted
use Rattle.check_value.specs.Callees.{proper_with, proper_of, call_by}
use Rattle.check_value.specs.Effects.{target_of, target_at, store_statement, assignment_to, assignment_of, change_target_as, change_target, type_of_number, known_amount, amount, change_by, set_as, set_variable, element_known, set_element, membership_of}
use Rattle.check_value.specs.declared.callee.Callee.{Callee}
use Rattle.check_value.specs.declared.callee.Called.{Called}
use Rattle.check_value.specs.declared.callee.Called.TheVariants as called
use Rattle.check_value.specs.declared.effect.Target.{Target}
use Rattle.check_value.specs.declared.effect.Target.TheVariants as target
use Rattle.check_expr.specs.Meanings.{Meant, formals_of, value_of, breaches_in_all, actuals}
use Rattle.check_expr.specs.Effects.{call_done, routine_done, change_target_in, change_statement, set_in, member_by, halt_statement, put_by, standard_done, callee_statement, call_statement}
use Rattle.layout_storage.specs.Types.{Ty, Natural, Callable, Cell, Array}
use Rattle.layout_storage.specs.Shapes.{tree, elements_of}
use Rattle.def_scheme.specs.Cells.{base_of}
use Rattle.law_simulation.specs.Scene.{IsCell}
use Rattle.law_simulation.specs.Passing.{Result as Gives}
use Rattle.law_well_formed.specs.FormedRanges.{fits_character}
use Rattle.law_simulation.specs.TreesTyped.{Context}
use Rattle.law_simulation.proofs.Plain.{tree_plain}
use Rattle.law_simulation.proofs.Cells.{set_tree_is, set_is}
use Rattle.law_well_formed.specs.Formed.{Holds, fine}
use Rattle.law_well_formed.proofs.Basics.{then_holds, reported_holds, both_holds, refused_holds, reported_beside_holds, ahead_holds, sort_holds, of_heading_holds}
use Rattle.law_well_formed.proofs.RangesTypes.{same_types, both_left, both_right}
use Rattle.law_well_formed.proofs.Subranges.{SortRanged, OperandRanged, operand_ranged}
use Rattle.law_programs.specs.Typing.{IsConstant, HasBase, PlaceTyped, CallTyped, GivenTyped, ValueTyped, DesignatedTyped, IsTyped}
use Rattle.law_programs.proofs.Known.{ClassIs, class_is, scalar_known, array_known, ranged_cell, routine_tree, has_base, base_is, has_range, IsArray, array_is}
use Rattle.law_programs.proofs.Constructs as made
use Rattle.law_programs.proofs.Operators.{where_not, SomeTyped, suited_typed, IsSuited, SuitsCell, SuitsProcedure, place_suited_typed}
use Rattle.law_programs.proofs.Calls.{CalleeTyped, CalledTyped, callee_typed}
use Rattle.law_programs.proofs.Meanings.{FM, AllM, value_typed, actuals_typed, call_made}
use Rattle.law_programs.specs.TypingStmts.{StmtTyped}
use Rattle.law_programs.proofs.StmtsConstructs.{assign_typed, assign_procedure_typed, copy_typed, copy_text_typed, call_typed, put_typed, change_typed, member_typed, halt_typed}
use Rattle.law_programs.proofs.StmtsSteps.{untyped_value}

-- a text has no more characters than the array has elements
text_length : (low high : ℤ) (n : ℕ) → not (nat_lt (unsigned_abs (high -ℤ low)) (n - 1)) ≡ true
    → n ≤ unsigned_abs (high -ℤ low) + 1
text_length low high n e = by (unsigned_abs (high -ℤ low)) e where
  by : (k : ℕ) → not (nat_lt k (n - 1)) ≡ true → n ≤ k + 1
  by k f = grind (arith, f)

module _ (g : Gathers) (x : Context) (ws : List Ty) (opens : ℕ → Bool) (s : Scope g.Reported)
    (h : IsTyped g x ws opens s) (result : Gives) (looped : Bool) where
  abbrev types : Types
  types = x.home.types

  abbrev Stmt_ : Result TypedStmt g.Reported → Type 0
  Stmt_ r = Holds (StmtTyped x result ws looped) r

  abbrev Value_ : Result Computed g.Reported → Type 0
  Value_ r = Holds (ValueTyped x ws) r

  abbrev Designated_ : Result Designated g.Reported → Type 0
  Designated_ r = Holds (DesignatedTyped x ws opens) r

  abbrev Some_ : TypedExpr → Type 0
  Some_ e = SomeTyped x ws h.all e

  abbrev class_of : (t : TypeNo) → ClassIs types t (class_at s.types t)
  class_of t = class_is s.types types h.types t

  -- ---- assignments

  abbrev TargetTyped : Target → Type 0
  TargetTyped (target.Variable t d) = PlaceTyped x ws d (tree types t)
  TargetTyped target.Open = Unit {0}

  target_of_typed : (at : Pos) (d : Designated) → DesignatedTyped x ws opens d → Holds TargetTyped (target_of g at d)
  target_of_typed at (designated.Variable t d) p = fine (target.Variable t d) p
  target_of_typed at (designated.Open t slot) p = fine target.Open tt
  target_of_typed at (designated.Value v) p = reported_holds g at rule.WrongType
  target_of_typed at (designated.Type t) p = reported_holds g at rule.WrongType
  target_of_typed at (designated.Procedure f) p = reported_holds g at rule.WrongType
  target_of_typed at (designated.Nested f) p = reported_holds g at rule.WrongType
  target_of_typed at (designated.Standard f) p = reported_holds g at rule.WrongType
  target_of_typed at (designated.Module k) p = reported_holds g at rule.WrongType

  -- an array of characters with room for a text
  record HasPlace (t : TypeNo) (text : List ℕ) : Type 0 where
    count : ℕ
    is : tree types t ≡ Array count (Cell (Natural 255))
    room : length text ≤ count
    bytes : list_all fits_character text ≡ true

  abbrev AcceptedTyped : TypeNo → Accepted → Type 0
  AcceptedTyped t (accepted.Value e) = IsSuited x ws h.all t e
  AcceptedTyped t (accepted.Whole d) = PlaceTyped x ws d (tree types t)
  AcceptedTyped t (accepted.Text text) = HasPlace t text

  within_by : (n : ℕ) (o : Option Range) (r : Range) → ((q : Range) → o ≡ Some q → q ≡ r) → text_within n o ≡ true
      → n ≤ elements_of (Some r)
  within_by n None r same e = absurd cc
  within_by n (Some q) r same e = subst (λ (k : Range). n ≤ elements_of (Some k)) (same q refl)
      (text_length q.low q.high n e)

  one_range : (a b : Range) → Some a ≡ Some b → a ≡ b
  one_range a b e = cc

  place_by : (t : TypeNo) (text : List ℕ) → list_all fits_character text ≡ true → (o : Option (TypeNo × TypeNo))
      → array_at s.types t ≡ o → text_fits_in s.types (length text) o ≡ true → HasPlace t text
  place_by t text bytes None e k = absurd cc
  place_by t text bytes (Some a) e k =
      let of_char : a.1 ≡ char = same_types a.1 char
      (both_left (are_same a.1 char) (text_within (length text) (scalar_at s.types a.0)) k) in
      let i : IsArray types h.all t a.0 a.1 = array_is types h.all t a (array_known s.types types h.types t a e) in
      record {
        count = elements_of (Some i.range);
        is = i.elements ∙ ap (λ (u : TypeNo). Array (elements_of (Some i.range)) (tree types u)) of_char;
        room = within_by (length text) (scalar_at s.types a.0) i.range
            (λ q z. one_range q i.range (sym (scalar_known s.types types h.types a.0 q z) ∙ i.at))
            (both_right (are_same a.1 char) (text_within (length text) (scalar_at s.types a.0)) k);
        bytes = bytes;
      }

  text_accepted : (broken : Rule) (t : TypeNo) (at : Pos) (v : Value) → IsConstant types v
      → Holds (AcceptedTyped t) (text_suited g broken s.types t at v)
  text_accepted number t at (constant.Number n) p = reported_holds g at number
  text_accepted number t at (constant.Scalar n) p = reported_holds g at number
  text_accepted number t at (constant.Set bits) p = reported_holds g at number
  text_accepted number t at (constant.Text text) p =
      where_not g (text_fits s.types t (length text)) at number
      (λ k. fine (accepted.Text text) (place_by t text p.0 (array_at s.types t) refl k))

  whole_accepted : (broken : Rule) (t : TypeNo) (at : Pos) (v : Computed) → ValueTyped x ws v
      → Holds (AcceptedTyped t) (whole_suited g broken s.types t at v)
  whole_accepted number t at (value.Constant v) p = text_accepted number t at v p
  whole_accepted number t at (value.Whole u d) p =
      where_not g (are_same u t) at number (λ k. fine (accepted.Whole d)
      (subst (λ (z : TypeNo). PlaceTyped x ws d (tree types z)) (same_types u t k) p))
  whole_accepted number t at (value.Scalar u b e) p = reported_holds g at number
  whole_accepted number t at (value.Set e) p = reported_holds g at number
  whole_accepted number t at (value.Routine u e) p = reported_holds g at number
  whole_accepted number t at (value.Procedure f) p = reported_holds g at number
  whole_accepted number t at value.Untaken p = reported_holds g at number

  given : (broken : Rule) (t : TypeNo) (at : Pos) (v : Computed) → ValueTyped x ws v
      → Holds (λ e. GivenTyped x ws e t) (value_suited g broken s.types t at v)
  given broken t at v p = suited_typed x ws h.all g s.types h.types broken t at v p

  value_accepted : (broken : Rule) (t : TypeNo) (at : Pos) (v : Computed) → ValueTyped x ws v
      → Holds (AcceptedTyped t) (of_expr (value_suited g broken s.types t at v))
  value_accepted broken t at v p = then_holds (place_suited_typed x ws h.all g s.types h.types broken t at v p)
      (λ e q. fine (accepted.Value e) q)

  accepted_in : (broken : Rule) (t : TypeNo) (at : Pos) (v : Computed) (c : Class) → ClassIs types t c
      → ValueTyped x ws v → Holds (AcceptedTyped t) (suited_in g broken s.types t at v c)
  accepted_in number t at v (class.Scalar r) k p = value_accepted number t at v p
  accepted_in number t at v class.Set k p = value_accepted number t at v p
  accepted_in number t at v class.Procedure k p = value_accepted number t at v p
  accepted_in number t at v class.Whole k p = whole_accepted number t at v p

  stored_typed : (t : TypeNo) (d : Place) (a : Accepted) → PlaceTyped x ws d (tree types t) → AcceptedTyped t a
      → StmtTyped x result ws looped (store_statement t d a)
  stored_typed t d (accepted.Value e) p (SuitsCell c q) =
      assign_typed x result ws looped d t c.cell e c.is (subst (λ (u : Ty). PlaceTyped x ws d u) c.is.is p) q
  stored_typed t d (accepted.Value e) p (SuitsProcedure i q) =
      let tr : tree types t ≡ Cell (Callable i.heading) = routine_tree types h.all t i in
      assign_procedure_typed x result ws looped d t i.heading e tr i.none
      (subst (λ (u : Ty). PlaceTyped x ws d u) tr p) q
  stored_typed t d (accepted.Whole from) p q =
      copy_typed x result ws looped d from t (tree_plain types h.all.ranged t) p q
  stored_typed t d (accepted.Text text) p q = copy_text_typed x result ws looped d t q.count text q.is q.room q.bytes p

  assigned_to_typed : (a : Target) (at : Pos) (v : Computed) → TargetTyped a → ValueTyped x ws v
      → Stmt_ (assignment_to g s.types a at v)
  assigned_to_typed target.Open at v p q = reported_holds g at rule.NotAssignable
  assigned_to_typed (target.Variable t d) at v p q =
      then_holds (accepted_in rule.NotAssignable t at v (class_at s.types t) (class_of t) q)
      (λ a k. fine (store_statement t d a) (stored_typed t d a p k))

  pub assignment_typed : (d : Meant g.Reported) (at : Pos) (y : Meant g.Reported) → FM g x ws opens s h d
      → FM g x ws opens s h y → Stmt_ (assignment_of g s.types (target_at g d.fixed.at (d.means s)) at (value_of g s y))
  assignment_typed d at y p q =
      then_holds (both_holds g (then_holds (sort_holds g d.fixed.at rule.WrongType p)
      (λ e k. target_of_typed d.fixed.at e k)) (value_typed g x ws opens s h y q))
      (λ v k. assigned_to_typed v.0 at v.1 k.0 k.1)

  -- ---- INC and DEC

  -- a scalar variable, which computes in its base
  record VariableTyped (v : TypeNo × Place) : Type 0 where
    range : Range
    at : scalar_at types v.0 ≡ Some range
    place : PlaceTyped x ws v.1 (tree types v.0)

  changed_as_typed : (at : Pos) (t : TypeNo) (d : Place) (c : Class) → ClassIs types t c
      → PlaceTyped x ws d (tree types t) → Holds VariableTyped (change_target_as g at t d c)
  changed_as_typed at t d (class.Scalar r) k p = fine (t, d) (record { range = r; at = k; place = p })
  changed_as_typed at t d class.Set k p = reported_holds g at rule.NoVariable
  changed_as_typed at t d class.Procedure k p = reported_holds g at rule.NoVariable
  changed_as_typed at t d class.Whole k p = reported_holds g at rule.NoVariable

  changed_typed : (at : Pos) (d : Designated) → DesignatedTyped x ws opens d
      → Holds VariableTyped (change_target g s.types at d)
  changed_typed at (designated.Variable t d) p = changed_as_typed at t d (class_at s.types t) (class_of t) p
  changed_typed at (designated.Value v) p = reported_holds g at rule.NoVariable
  changed_typed at (designated.Open t slot) p = reported_holds g at rule.NoVariable
  changed_typed at (designated.Type t) p = reported_holds g at rule.NoVariable
  changed_typed at (designated.Procedure f) p = reported_holds g at rule.NoVariable
  changed_typed at (designated.Nested f) p = reported_holds g at rule.NoVariable
  changed_typed at (designated.Standard f) p = reported_holds g at rule.NoVariable
  changed_typed at (designated.Module k) p = reported_holds g at rule.NoVariable

  untyped_typed : (a : Ordinal) → SortRanged types a.sort a.number
      → Some_ (expr.Constant (type_of_number a.number a.sort) a.number)
  untyped_typed a p = record {
    of = type_of_number a.number a.sort;
    typed =
        made.constant_typed x ws (type_of_number a.number a.sort) a.number (untyped_value types a.sort a.number p);
  }

  known_if : (at : Pos) (a : Ordinal) (b : Bool) → SortRanged types a.sort a.number
      → Holds Some_ (known_amount g at (cond b (Some a) None))
  known_if at a true p = fine (expr.Constant (type_of_number a.number a.sort) a.number) (untyped_typed a p)
  known_if at a false p = reported_holds g at rule.WrongArgument

  known_typed : (at : Pos) (o : Option Operand) → OperandRanged types o
      → Holds Some_ (known_amount g at (if_number (scalar_part o)))
  known_typed at None p = reported_holds g at rule.WrongArgument
  known_typed at (Some (operand.Set bits)) p = reported_holds g at rule.WrongArgument
  known_typed at (Some (operand.Scalar a)) p = known_if at a (is_number a.sort) p

  amount_typed : (at : Pos) (v : Computed) → ValueTyped x ws v → Holds Some_ (amount g at v)
  amount_typed at (value.Constant v) p = known_typed at (operand_of v) (operand_ranged types v p.0)
  amount_typed at (value.Scalar t b e) p =
      where_not g (is_numeric b) at rule.WrongArgument (λ k. fine e (record { of = t; typed = p.typed }))
  amount_typed at (value.Set e) p = reported_holds g at rule.WrongArgument
  amount_typed at (value.Routine t e) p = reported_holds g at rule.WrongArgument
  amount_typed at (value.Procedure f) p = reported_holds g at rule.WrongArgument
  amount_typed at (value.Whole t d) p = reported_holds g at rule.WrongArgument
  amount_typed at value.Untaken p = reported_holds g at rule.WrongArgument

  changed_of : (o : Change) (v : TypeNo × Place) (e : TypedExpr) → VariableTyped v → Some_ e
      → StmtTyped x result ws looped (step.Change o v.1 v.0 e)
  changed_of o v e k p =
      let c = ranged_cell types h.all v.0 k.range k.at in
      let b : HasBase types v.0 k.range.base = has_base types h.all v.0 k.range k.at in
      let based : scalar_at types (base_of types v.0) ≡ Some b.based.low.range =
      ap (λ (t : TypeNo). scalar_at types t) (base_is types v.0 k.range.base b ∙ sym b.own) ∙ b.based.low.at in
      change_typed x result ws looped o v.1 v.0 p.of c.cell e c.is (λ z. has_range types v.0 k.range.base b z)
      (λ z. let w : None ≡ Some b.based.low.range = sym z ∙ based in cc w)
      (subst (λ (u : Ty). PlaceTyped x ws v.1 u) c.is.is k.place) p.typed

  change_by_typed : (o : Change) {v : Result (TypeNo × Place) g.Reported} {e : Result TypedExpr g.Reported}
      → Holds VariableTyped v → Holds Some_ e → Stmt_ (change_by g o v e)
  change_by_typed o p q = then_holds (both_holds g p q)
      (λ v k. fine (step.Change o v.0.1 v.0.0 v.1) (changed_of o v.0 v.1 k.0 k.1))

  abbrev Known_ : Meant g.Reported → Type 0
  Known_ y = FM g x ws opens s h y

  abbrev AllKnown : List (Meant g.Reported) → Type 0
  AllKnown ys = AllM g x ws opens s h ys

  value_of_typed : (y : Meant g.Reported) → Known_ y → Value_ (value_of g s y)
  value_of_typed y p = value_typed g x ws opens s h y p

  one_typed : Some_ (expr.Constant cardinal (pos 1))
  one_typed = record {
    of = cardinal;
    typed =
        made.constant_typed x ws cardinal (pos 1) (omega (arith, ints), omega (arith, ints));
  }

  changed_in_typed : (v : Meant g.Reported) → Known_ v → Holds VariableTyped (change_target_in g s v)
  changed_in_typed v p = then_holds (sort_holds g v.fixed.at rule.NoVariable p) (λ d k. changed_typed v.fixed.at d k)

  changed_by_typed : (at : Pos) (o : Change) (args : List (Meant g.Reported)) → AllKnown args
      → Stmt_ (change_statement g s at o args)
  changed_by_typed at o [] all = reported_beside_holds g at rule.ArgumentCount (breaches_in_all g s [])
  changed_by_typed at o (v ∷ []) all = change_by_typed o (changed_in_typed v all.0)
      (fine (expr.Constant cardinal (pos 1)) one_typed)
  changed_by_typed at o (v ∷ n ∷ []) all =
      change_by_typed o (changed_in_typed v all.0)
      (then_holds (value_of_typed n all.1.0) (λ y k. amount_typed n.fixed.at y k))
  changed_by_typed at o (v ∷ n ∷ y ∷ ys) all = reported_beside_holds g at rule.ArgumentCount _

  -- ---- INCL and EXCL

  abbrev SetTyped : Place → Type 0
  SetTyped d = PlaceTyped x ws d (Cell (Natural 4294967295))

  set_as_typed : (at : Pos) (t : TypeNo) (d : Place) (c : Class) → ClassIs types t c → PlaceTyped x ws d (tree types t)
      → Holds SetTyped (set_as g at d c)
  set_as_typed at t d class.Set k p = fine d
      (subst (λ (u : Ty). PlaceTyped x ws d u) (set_tree_is types t k.none k.result k.headless) p)
  set_as_typed at t d (class.Scalar r) k p = reported_holds g at rule.NoVariable
  set_as_typed at t d class.Procedure k p = reported_holds g at rule.NoVariable
  set_as_typed at t d class.Whole k p = reported_holds g at rule.NoVariable

  set_typed : (at : Pos) (d : Designated) → DesignatedTyped x ws opens d → Holds SetTyped (set_variable g s.types at d)
  set_typed at (designated.Variable t d) p = set_as_typed at t d (class_at s.types t) (class_of t) p
  set_typed at (designated.Value v) p = reported_holds g at rule.NoVariable
  set_typed at (designated.Open t slot) p = reported_holds g at rule.NoVariable
  set_typed at (designated.Type t) p = reported_holds g at rule.NoVariable
  set_typed at (designated.Procedure f) p = reported_holds g at rule.NoVariable
  set_typed at (designated.Nested f) p = reported_holds g at rule.NoVariable
  set_typed at (designated.Standard f) p = reported_holds g at rule.NoVariable
  set_typed at (designated.Module k) p = reported_holds g at rule.NoVariable

  element_if : (at : Pos) (a : Ordinal) (b : Bool) → SortRanged types a.sort a.number
      → Holds Some_ (element_known g at (cond b (Some a) None))
  element_if at a true p = where_not g (is_between (pos 0) a.number (pos 31)) at rule.OutOfRange
      (λ k. fine (expr.Constant (type_of_number a.number a.sort) a.number) (untyped_typed a p))
  element_if at a false p = reported_holds g at rule.WrongArgument

  element_part : (at : Pos) (o : Option Operand) → OperandRanged types o
      → Holds Some_ (element_known g at (if_number (scalar_part o)))
  element_part at None p = reported_holds g at rule.WrongArgument
  element_part at (Some (operand.Set bits)) p = reported_holds g at rule.WrongArgument
  element_part at (Some (operand.Scalar a)) p = element_if at a (is_number a.sort) p

  element_typed : (at : Pos) (v : Computed) → ValueTyped x ws v → Holds Some_ (set_element g at v)
  element_typed at (value.Constant v) p = element_part at (operand_of v) (operand_ranged types v p.0)
  element_typed at (value.Scalar t b e) p =
      where_not g (is_numeric b) at rule.WrongArgument (λ k. fine e (record { of = t; typed = p.typed }))
  element_typed at (value.Set e) p = reported_holds g at rule.WrongArgument
  element_typed at (value.Routine t e) p = reported_holds g at rule.WrongArgument
  element_typed at (value.Procedure f) p = reported_holds g at rule.WrongArgument
  element_typed at (value.Whole t d) p = reported_holds g at rule.WrongArgument
  element_typed at value.Untaken p = reported_holds g at rule.WrongArgument

  bitset_cell : IsCell types bitset (Natural 4294967295)
  bitset_cell = set_is types bitset refl refl refl

  membership_typed : (o : Membership) {d : Result Place g.Reported} {e : Result TypedExpr g.Reported} → Holds SetTyped d
      → Holds Some_ e → Stmt_ (membership_of g o d e)
  membership_typed o p q = then_holds (both_holds g p q)
      (λ v k. fine (step.Membership o v.0 v.1)
      (member_typed x result ws looped o v.0 k.1.of (Natural 4294967295) v.1 bitset_cell k.0 k.1.typed))

  set_in_typed : (v : Meant g.Reported) → Known_ v → Holds SetTyped (set_in g s v)
  set_in_typed v p = then_holds (sort_holds g v.fixed.at rule.NoVariable p) (λ d k. set_typed v.fixed.at d k)

  member_by_typed : (at : Pos) (o : Membership) (args : List (Meant g.Reported)) → AllKnown args
      → Stmt_ (member_by g s at o args)
  member_by_typed at o [] all = reported_beside_holds g at rule.ArgumentCount (breaches_in_all g s [])
  member_by_typed at o (v ∷ []) all = reported_beside_holds g at rule.ArgumentCount _
  member_by_typed at o (v ∷ n ∷ []) all =
      membership_typed o (set_in_typed v all.0)
      (then_holds (value_of_typed n all.1.0) (λ y k. element_typed n.fixed.at y k))
  member_by_typed at o (v ∷ n ∷ y ∷ ys) all = reported_beside_holds g at rule.ArgumentCount _

  -- ---- HALT and Put

  halted_typed : (at : Pos) (args : List (Meant g.Reported)) → Stmt_ (halt_statement g s at args)
  halted_typed at [] = fine step.Halt (halt_typed x result ws looped)
  halted_typed at (y ∷ ys) = reported_beside_holds g at rule.ArgumentCount _

  put_by_typed : (at : Pos) (args : List (Meant g.Reported)) → AllKnown args → Stmt_ (put_by g s at args)
  put_by_typed at [] all = reported_beside_holds g at rule.ArgumentCount (breaches_in_all g s [])
  put_by_typed at (y ∷ []) all = then_holds (value_of_typed y all.0)
      (λ v k. then_holds (given rule.WrongArgument char y.fixed.at v k)
      (λ e q. fine (step.Put e) (put_typed x result ws looped e q)))
  put_by_typed at (y ∷ z ∷ zs) all = reported_beside_holds g at rule.ArgumentCount _

  standard_typed : (at : Pos) (args : List (Meant g.Reported)) (f : Standard) → AllKnown args
      → Stmt_ (standard_done g s at args f)
  standard_typed at args Abs all = reported_beside_holds g at rule.WrongType _
  standard_typed at args Cap all = reported_beside_holds g at rule.WrongType _
  standard_typed at args Chr all = reported_beside_holds g at rule.WrongType _
  standard_typed at args High all = reported_beside_holds g at rule.WrongType _
  standard_typed at args Max all = reported_beside_holds g at rule.WrongType _
  standard_typed at args Min all = reported_beside_holds g at rule.WrongType _
  standard_typed at args Odd all = reported_beside_holds g at rule.WrongType _
  standard_typed at args Ord all = reported_beside_holds g at rule.WrongType _
  standard_typed at args Val all = reported_beside_holds g at rule.WrongType _
  standard_typed at args Inc all = changed_by_typed at Increase args all
  standard_typed at args Dec all = changed_by_typed at Decrease args all
  standard_typed at args Incl all = member_by_typed at Include args all
  standard_typed at args Excl all = member_by_typed at Exclude args all
  standard_typed at args Halt all = halted_typed at args
  standard_typed at args Put all = put_by_typed at args all

  -- ---- calls

  module _ (at : Pos) (t : TypeNo) (c : Callee) (args : List (Meant g.Reported))
      (there : CalleeTyped x ws h.all g opens s.types h.types t c) (all : AllKnown args) where
    proper_call : (k : Signature) → signature_at s.types t ≡ Some k → k.result ≡ None → length k.formals ≡ length args
        → Stmt_ (call_done c (actuals g s k.formals args))
    proper_call k e q count =
        then_holds (actuals_typed g x ws opens s h args k.formals count (h.formals t k e) all) (λ gs p.
        fine (step.Call (call_by gs c))
        (call_typed x result ws looped (call_by gs c)
        (subst (λ (r : Gives). CallTyped x ws (call_by gs c) r)
        (ap (λ (o : Option TypeNo). option_map (tree types) o) q)
        (call_made g x ws opens s h at t c args there all k e gs p))))

    by_count : (k : Signature) (q : Bool) → (length k.formals == length args) ≡ q → signature_at s.types t ≡ Some k
        → k.result ≡ None
        → Stmt_ (ahead g (reported_where g {A = Unit {0}} (not q) at rule.ArgumentCount (Ok (tt {0})))
        (breaches_in_all g s args) (λ fine. call_done c (actuals g s k.formals args)))
    by_count k true count e q = proper_call k e q (eqb-true (length k.formals) (length args) count)
    by_count k false count e q = refused_holds g _ (breaches_in_all g s args)

    by_result : (k : Signature) (o : Option TypeNo) → k.result ≡ o → signature_at s.types t ≡ Some k
        → Stmt_ (ahead g (proper_with g at (length k.formals) (length args) o) (breaches_in_all g s args)
        (λ fine. call_done c (actuals g s k.formals args)))
    by_result k None q e = by_count k (length k.formals == length args) refl e q
    by_result k (Some r) q e = refused_holds g _ (breaches_in_all g s args)

    by_signature : (o : Option Signature) → signature_at s.types t ≡ o
        → Stmt_ (ahead g (proper_of g at o (length args)) (breaches_in_all g s args)
        (λ fine. call_done c (actuals g s (formals_of o) args)))
    by_signature None e = refused_holds g _ (breaches_in_all g s args)
    by_signature (Some k) e = by_result k k.result refl e

    routine_typed : Stmt_ (routine_done g s at t c args)
    routine_typed = by_signature (signature_at s.types t) refl

  done_as_typed : (at : Pos) (args : List (Meant g.Reported)) (y : Called)
      → CalledTyped x ws h.all g opens s.types h.types y → AllKnown args → Stmt_ (callee_statement g s at args y)
  done_as_typed at args (called.Routine t c) p all = routine_typed at t c args p all
  done_as_typed at args (called.Standard f) p all = standard_typed at args f all

  pub done_typed : (d : Meant g.Reported) (args : List (Meant g.Reported)) → Known_ d → AllKnown args
      → Stmt_ (call_statement g s d args)
  done_typed d args p all = ahead_holds g (breaches_in_all g s args)
      (then_holds (of_heading_holds p) (λ e k. callee_typed x ws h.all g opens s.types h.types d.fixed.at e k))
      (λ y k. done_as_typed d.fixed.at args y k all)
