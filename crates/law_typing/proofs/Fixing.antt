-- Names, operators and signs in constant expressions are answered exactly.
use Rattle.std.proofs.Common.{◌≡◌, ℕ, List, [], ◌∷◌, Option, Result, Ok, Err, ◌⊎◌, inl, inr, refl, sym, ap, subst, ◌∙◌}
use Rattle.std.specs.Prelude.{map, slice_get}
use Rattle.std.specs.List.{fold}
use Rattle.m2_rule.specs.declared.rule.Rule.TheVariants as rule
use Rattle.m2_tree.specs.declared.pos.Pos.{Pos}
use Rattle.m2_tree.specs.declared.name.Ident.{Ident}
use Rattle.m2_tree.specs.declared.expr.Sign.{Sign}
use Rattle.m2_tree.specs.declared.expr.Expr.{Expr}
use Rattle.m2_tree.specs.declared.expr.Expr.TheOpen as layer
use Rattle.m2_tree.specs.declared.expr.Selector.{Selector, Selector-F, out-Selector}
use Rattle.m2_tree.specs.declared.expr.Designator.{Designator, out-Designator}
use Rattle.m2_tree.specs.declared.expr.Item.{Item}
use Rattle.typed_tree.specs.declared.types.TypeNo.{TypeNo}
use Rattle.typed_tree.specs.declared.meaning.LocalKind.TheVariants as local
use Rattle.typed_tree.specs.declared.meaning.LocalKind.{LocalKind}
use Rattle.typed_tree.specs.declared.meaning.Meaning.{Meaning}
use Rattle.typed_tree.specs.declared.meaning.Meaning.TheVariants as meaning
use Rattle.typed_tree.specs.declared.meaning.Standard.{Standard}
use Rattle.typed_tree.specs.declared.meaning.Value.{Value as ConstantValue}
use Rattle.typed_tree.specs.declared.known_types.Types.{Types}
use Rattle.m2_rule.specs.declared.breach.Breach.{Breach}
use Rattle.check_scope.specs.declared.meaningless.Meaningless.{Meaningless}
use Rattle.check_scope.specs.declared.scope.Scope.{Scope}
use Rattle.check_scope.specs.Elaborated.{Gathers, ◌▷◌}
use Rattle.check_scope.specs.Scopes.{looked_up}
use Rattle.check_const.specs.declared.operand.Operand.{Operand as Side}
use Rattle.check_const.specs.declared.operator.BinaryOp.{BinaryOp}
use Rattle.check_const.specs.Operands.{operand_of}
use Rattle.check_const.specs.Operate as operate
use Rattle.check_const.specs.declared.denoted.Denoted.{Denoted}
use Rattle.check_const.specs.declared.denoted.Denoted.TheVariants as denoted
use Rattle.check_const.specs.Denote.{denoted_by, denoted_of, as_constant, of_value, component, export_of, exported_by}
use Rattle.check_const.specs.Parts as constants
use Rattle.check_value.specs.Operations.{of_value as computed_of}
use Rattle.check_expr.specs.Meanings.{Meant, Picks, picks, head, selector_layer}
use Rattle.def_typing.specs.Operators.{◌!◌, Kind, operand, Makes, Misused, Misapplied, MaySign, SignMakes, Negates}
use Rattle.def_typing.specs.Things.{Thing, Standing, Known, Undeclared, NotExported, Misnamed, undeclared, not_exported}
use Rattle.def_typing.specs.Constants as rules
use Rattle.def_typing.specs.Constants.{Fixed, AConstant, AScope, ANamedType, AFunction, NoConstant, fixed_thing, FixedAs, FixedMisnamed, IsUnfixed, unfixed_type, unfixed_function, unfixed_other, FixedPicks, FixedMispicks, FixedSelected, FixedSelectionFails}
use Rattle.law_typing.specs.Judging.{Judges, Answers, means, refuses}
use Rattle.law_typing.specs.Exact.{IsConst, is_const, kind_of, IsKind, kind_constant, of_local, standing, Sees, sees, sees_nothing, sees_headless, sees_unknown, Exports, has_exported, has_nothing, Knows, Repeats, of_declaration}
use Rattle.law_typing.proofs.Combining.{Lawful, declined, exact, then_answer}
use Rattle.law_typing.proofs.Joining.{Joins, no_joining, nothing_left, nothing_text, scalar_nothing, set_nothing, set_scalar, scalars_join, constant_member_joins, constant_sets_join}
use Rattle.law_typing.proofs.Operating.{value_answers, constants_by}
use Rattle.law_typing.proofs.Deciding.{common_is}
use Rattle.law_typing.proofs.Singles.{IsConstantOperand, constant_scalar, constant_set, constant_text, constant_is, signed_answers, negated_answers}
use Rattle.law_typing.proofs.Places.{opened_selector, picks_is, head_is}

-- ---- constants

pub data IsFixed : Denoted → Fixed → Type 0 where
  fixed_value : {v : ConstantValue} {k : Kind} → IsConst v k → IsFixed (denoted.Value v) (AConstant k)
  fixed_type : (t : TypeNo) → IsFixed (denoted.Type t) (ANamedType t)
  fixed_variable : IsFixed denoted.Variable NoConstant
  fixed_procedure : IsFixed denoted.Procedure NoConstant
  fixed_standard : (p : Standard) → IsFixed (denoted.Standard p) (AFunction p)
  fixed_module : (k : ℕ) → IsFixed (denoted.Module k) (AScope k)

abbrev constant_in : Kind → Fixed → Kind
constant_in k (AConstant l) = l
constant_in k other = k

pub constant_one : {k l : Kind} → AConstant k ≡ AConstant l → k ≡ l
constant_one {k = k} e = ap (constant_in k) e

module _ (g : Gathers) (j : Judges g) (lawful : Lawful g j) (O : Breach → Type 0) where
  -- what is answered of constants, from what is answered of values
  pub const_of : {M : Kind → Type 0} {B : Breach → Type 0} (r : Result ConstantValue g.Reported)
      → Answers g j O IsKind M B (computed_of r) → Answers g j O IsConst M B r
  const_of (Ok v) (means _ _ (kind_constant _) m u n) = means v (kind_of v) (is_const v) m u n
  const_of (Err e) (refuses _ a n) = refuses e a n

  -- what stands for itself
  pub fixed_of : {M : Kind → Type 0} {B : Breach → Type 0} {r : Result ConstantValue g.Reported}
      → Answers g j O IsConst M B r → Answers g j O IsFixed (λ x. (k : Kind) × M k × (x ≡ AConstant k)) B (of_value r)
  fixed_of (means v k i m u n) = means (denoted.Value v) (AConstant k) (fixed_value i) (k, m, refl)
      (λ x t. t.2 ∙ ap AConstant (u t.0 t.1)) n
  fixed_of (refuses r a n) = refuses r a (λ x t. n t.0 t.1)

  -- what has to be constant
  pub as_constant_answers : (at : Pos) (a : Denoted) (x : Fixed) → IsFixed a x
      → Answers g j O IsConst (λ k. x ≡ AConstant k)
      (λ f. ((k : Kind) → x ≡ AConstant k → ⊥) × (f ≡ at ! rule.NoConstant)) (as_constant g at a)
  as_constant_answers at _ _ (fixed_value {v = v} {k = k} i) =
      means v k i refl (λ l e. sym (constant_one e)) (λ f z. z.0 k refl)
  as_constant_answers at _ _ (fixed_type t) =
      declined g j lawful O at rule.NoConstant (λ k e. absurd cc) ((λ k e. absurd cc), refl) (λ f z. z.1)
  as_constant_answers at _ _ fixed_variable =
      declined g j lawful O at rule.NoConstant (λ k e. absurd cc) ((λ k e. absurd cc), refl) (λ f z. z.1)
  as_constant_answers at _ _ fixed_procedure =
      declined g j lawful O at rule.NoConstant (λ k e. absurd cc) ((λ k e. absurd cc), refl) (λ f z. z.1)
  as_constant_answers at _ _ (fixed_standard p) =
      declined g j lawful O at rule.NoConstant (λ k e. absurd cc) ((λ k e. absurd cc), refl) (λ f z. z.1)
  as_constant_answers at _ _ (fixed_module k) =
      declined g j lawful O at rule.NoConstant (λ k e. absurd cc) ((λ k e. absurd cc), refl) (λ f z. z.1)

  -- operators, signs and NOT on constants
  const_joins : (types : Types) (o : BinaryOp) (spot left right : Pos) {p q : Option Side} {a b : Kind}
      → IsConstantOperand p a → IsConstantOperand q b
      → Joins g j lawful O types o spot left right a b (computed_of (operate.binary g o spot left p right q))
  const_joins types o spot left right (constant_scalar a) (constant_scalar b) =
      scalars_join g j lawful O types o spot left right
      (value_answers g j lawful O (constants_by g j lawful O o spot left right a b _ (common_is a.sort b.sort)))
  const_joins types o spot left right (constant_scalar a) (constant_set b) =
      constant_member_joins g j lawful O types o spot left right a b
  const_joins types o spot left right (constant_scalar a) (constant_text t) =
      no_joining g j lawful O types o spot left right (scalar_nothing types o nothing_text)
  const_joins types o spot left right (constant_set a) (constant_scalar b) =
      no_joining g j lawful O types o spot left right (set_scalar types o)
  const_joins types o spot left right (constant_set a) (constant_set b) =
      constant_sets_join g j lawful O types o spot left right a b
  const_joins types o spot left right (constant_set a) (constant_text t) =
      no_joining g j lawful O types o spot left right (set_nothing types o nothing_text)
  const_joins types o spot left right (constant_text t) y =
      no_joining g j lawful O types o spot left right (nothing_left types o nothing_text)

  pub const_operated : (types : Types) (o : BinaryOp) (spot left right : Pos) {v w : ConstantValue} {a b : Kind}
      → IsConst v a → IsConst w b
      → Answers g j O IsConst (Makes types o (operand a) (operand b))
      (Misused types o spot left right (operand a) (operand b))
      (operate.binary g o spot left (operand_of v) right (operand_of w))
  const_operated types o spot left right (is_const v) (is_const w) =
      const_of (operate.binary g o spot left (operand_of v) right (operand_of w))
      (const_joins types o spot left right (constant_is v) (constant_is w))

  pub const_signed : (o : Sign) (spot : Pos) {v : ConstantValue} {a : Kind} → IsConst v a
      → Answers g j O IsConst (SignMakes o (operand a))
      (Misapplied (MaySign o (operand a)) (SignMakes o (operand a)) spot rule.WrongType)
      (operate.signed_value g o spot (operand_of v))
  const_signed o spot (is_const v) = const_of (operate.signed_value g o spot (operand_of v))
      (signed_answers g j lawful O o spot (kind_constant v))

  pub const_negated : (at : Pos) {v : ConstantValue} {a : Kind} → IsConst v a
      → Answers g j O IsConst (Negates a) (λ f. ((l : Kind) → Negates a l → ⊥) × (f ≡ at ! rule.WrongType))
      (operate.negated_value g at (operand_of v))
  const_negated at (is_const v) = const_of (operate.negated_value g at (operand_of v))
      (negated_answers g j lawful O at (kind_constant v))

-- ---- names

module _ (g : Gathers) (j : Judges g) (lawful : Lawful g j) (names : Ident → Standing) (exports : ℕ → Ident → Standing)
    (s : Scope g.Reported) (knows : Knows g j names exports s) where
  abbrev pub E : Breach → Type 0
  E = Repeats g j names s

  abbrev NamedSo : Pos → Standing → Result Denoted g.Reported → Type 0
  NamedSo at st r = Answers g j E IsFixed (FixedAs st) (FixedMisnamed at st) r

  no_fault : {at : Pos} {x : Thing} (f : Breach) → FixedMisnamed at (Known x) f → ⊥
  no_fault f m = elim m.misnamed [ ]

  fixes_name : {x : Thing} {d : Denoted} {at : Pos} → IsFixed d (fixed_thing x) → NamedSo at (Known x) (Ok d)
  fixes_name {x = x} {d = d} i = means d (fixed_thing x) i refl (λ y e. e) no_fault

  fixes_local : {at : Pos} (t : TypeNo) (k : LocalKind) → NamedSo at (of_local t k) (Ok denoted.Variable)
  fixes_local t local.Variable = fixes_name fixed_variable
  fixes_local t local.Value = fixes_name fixed_variable
  fixes_local t local.Alias = fixes_name fixed_variable
  fixes_local t local.Open = fixes_name fixed_variable

  fixes_meaning : {at : Pos} (m : Meaning) → NamedSo at (standing m) (Ok (denoted_by m))
  fixes_meaning (meaning.Constant v) = fixes_name (fixed_value (is_const v))
  fixes_meaning (meaning.Type t n) = fixes_name (fixed_type t)
  fixes_meaning (meaning.Variable v) = fixes_name fixed_variable
  fixes_meaning (meaning.Local v) = fixes_local v.of v.kind
  fixes_meaning (meaning.Field f) = fixes_name fixed_variable
  fixes_meaning (meaning.Procedure p) = fixes_name fixed_procedure
  fixes_meaning (meaning.LocalProcedure p) = fixes_name fixed_procedure
  fixes_meaning meaning.Ahead = means denoted.Procedure NoConstant fixed_procedure refl (λ y e. e)
      (λ f m. m.not_ahead refl)
  fixes_meaning (meaning.Standard f) = fixes_name (fixed_standard f)
  fixes_meaning (meaning.Module k) = fixes_name (fixed_module k)

  only_undeclared : {at : Pos} (f : Breach) → FixedMisnamed at Undeclared f → f ≡ at ! rule.Undeclared
  only_undeclared f m = by m.misnamed
    where
      by : {at : Pos} {f : Breach} → Misnamed at Undeclared f → f ≡ at ! rule.Undeclared
      by undeclared = refl

  only_not_exported : {at : Pos} (f : Breach) → FixedMisnamed at NotExported f → f ≡ at ! rule.NotExported
  only_not_exported f m = by m.misnamed
    where
      by : {at : Pos} {f : Breach} → Misnamed at NotExported f → f ≡ at ! rule.NotExported
      by not_exported = refl

  seen_fixes : (name : Ident) (st : Standing) (r : Result Meaning (Meaningless g.Reported)) → names name ≡ st
      → looked_up g s name ≡ r → Sees g j name.pos st r → NamedSo name.pos st (denoted_of r)
  seen_fixes name _ _ e q (sees m) = fixes_meaning m
  seen_fixes name _ _ e q sees_nothing = declined g j lawful E name.pos rule.Undeclared (λ x z. z)
      (record { not_ahead = λ z. absurd cc; misnamed = undeclared }) only_undeclared
  seen_fixes name _ _ e q (sees_headless b r) = fixes_name fixed_procedure
  seen_fixes name _ _ e q (sees_unknown r) =
      refuses r (record { only = λ f m. inr (of_declaration e q m); each = λ f m. elim m.misnamed [ ] }) (λ x z. z)

  pub name_fixes : (name : Ident) → NamedSo name.pos (names name) (denoted_of (looked_up g s name))
  name_fixes name = seen_fixes name (names name) (looked_up g s name) refl refl (knows.of_names name)

  export_fixes : (at : Pos) (st : Standing) (m : Option Meaning) → Exports g j st m
      → NamedSo at st (export_of g at m ▷ λ m. Ok (denoted_by m))
  export_fixes at _ _ (has_exported m) = fixes_meaning m
  export_fixes at _ _ has_nothing = declined g j lawful E at rule.NotExported (λ x z. z)
      (record { not_ahead = λ z. absurd cc; misnamed = not_exported }) only_not_exported

  -- ---- components

  abbrev PicksSo : Fixed → Selector-F Expr Selector Designator Item → Result Denoted g.Reported → Type 0
  PicksSo x l r = Answers g j E IsFixed (FixedPicks exports x l) (FixedMispicks exports x l) r

  no_more : {x : Fixed} (l : Selector-F Expr Selector Designator Item) → FixedPicks exports x l NoConstant
      → ((y : Fixed) → FixedPicks exports x l y → y ≡ NoConstant) → ((f : Breach) → FixedMispicks exports x l f → ⊥)
      → PicksSo x l (Ok denoted.Variable)
  no_more l p one none = means denoted.Variable NoConstant fixed_variable p one none

  no_field : {at : Pos} {name : Ident} {x y : Fixed} → IsUnfixed x → FixedPicks exports x (layer.Field at name) y
      → y ≡ NoConstant
  no_field u (rules.of_module p) = elim u [ ]
  no_field u (rules.of_field v) = refl

  unpicked : {at : Pos} {name : Ident} {x : Fixed} {f : Breach} → IsUnfixed x
      → FixedMispicks exports x (layer.Field at name) f → ⊥
  unpicked u (rules.in_module m) = elim u [ ]
  unpicked u rules.constant_field = elim u [ ]

  field_of_none : {x : Fixed} (at : Pos) (name : Ident) → IsUnfixed x
      → PicksSo x (layer.Field at name) (Ok denoted.Variable)
  field_of_none at name u = no_more (layer.Field at name) (rules.of_field u) (λ y p. no_field u p) (λ f m. unpicked u m)

  field_fixes : (at : Pos) (name : Ident) (a : Denoted) (x : Fixed) → IsFixed a x
      → PicksSo x (layer.Field at name) (constants.field_of g s at name a)
  field_fixes at name _ _ (fixed_value {k = k} i) =
      declined g j lawful E at rule.WrongType (λ y p. no_pick p) rules.constant_field (λ f m. one m)
    where
      no_pick : {y : Fixed} → FixedPicks exports (AConstant k) (layer.Field at name) y → ⊥
      no_pick (rules.of_field u) = elim u [ ]

      one : {f : Breach} → FixedMispicks exports (AConstant k) (layer.Field at name) f → f ≡ at ! rule.WrongType
      one rules.constant_field = refl
  field_fixes at name _ _ (fixed_module k) =
      exact g j lawful E {M = FixedAs (exports k name)} {B = FixedMisnamed name.pos (exports k name)}
      (λ y p. rules.of_module p) (λ y p. picked p) (λ f m. rules.in_module m) (λ f m. misnamed m)
      (export_fixes name.pos (exports k name) (exported_by name.name (slice_get s.tables k)) (knows.of_modules k name))
    where
      picked : {y : Fixed} → FixedPicks exports (AScope k) (layer.Field at name) y → FixedAs (exports k name) y
      picked (rules.of_module p) = p
      picked (rules.of_field u) = elim u [ ]

      misnamed : {f : Breach} → FixedMispicks exports (AScope k) (layer.Field at name) f
          → FixedMisnamed name.pos (exports k name) f
      misnamed (rules.in_module m) = m
  field_fixes at name _ _ (fixed_type t) = field_of_none at name unfixed_type
  field_fixes at name _ _ fixed_variable = field_of_none at name unfixed_other
  field_fixes at name _ _ fixed_procedure = field_of_none at name unfixed_other
  field_fixes at name _ _ (fixed_standard t) = field_of_none at name unfixed_function

  no_element : {at : Pos} {e : Expr} {x y : Fixed} → IsUnfixed x → FixedPicks exports x (layer.Index at e) y
      → y ≡ NoConstant
  no_element u (rules.of_element v) = refl
  no_element u rules.element_of_module = refl

  unindexed : {at : Pos} {e : Expr} {x : Fixed} {f : Breach} → IsUnfixed x
      → FixedMispicks exports x (layer.Index at e) f → ⊥
  unindexed u rules.constant_element = elim u [ ]

  element_of_none : {x : Fixed} (at : Pos) (e : Expr) → IsUnfixed x → PicksSo x (layer.Index at e) (Ok denoted.Variable)
  element_of_none at e u = no_more (layer.Index at e) (rules.of_element u) (λ y p. no_element u p)
      (λ f m. unindexed u m)

  element_fixes : (at : Pos) (e : Expr) (a : Denoted) (x : Fixed) → IsFixed a x
      → PicksSo x (layer.Index at e) (component g at a)
  element_fixes at e _ _ (fixed_value {k = k} i) =
      declined g j lawful E at rule.WrongType (λ y p. no_pick p) rules.constant_element (λ f m. one m)
    where
      no_pick : {y : Fixed} → FixedPicks exports (AConstant k) (layer.Index at e) y → ⊥
      no_pick (rules.of_element u) = elim u [ ]

      one : {f : Breach} → FixedMispicks exports (AConstant k) (layer.Index at e) f → f ≡ at ! rule.WrongType
      one rules.constant_element = refl
  element_fixes at e _ _ (fixed_module k) =
      no_more (layer.Index at e) rules.element_of_module (λ y p. whole p) (λ f m. elim m [ ])
    where
      whole : {y : Fixed} → FixedPicks exports (AScope k) (layer.Index at e) y → y ≡ NoConstant
      whole (rules.of_element u) = refl
      whole rules.element_of_module = refl
  element_fixes at e _ _ (fixed_type t) = element_of_none at e unfixed_type
  element_fixes at e _ _ fixed_variable = element_of_none at e unfixed_other
  element_fixes at e _ _ fixed_procedure = element_of_none at e unfixed_other
  element_fixes at e _ _ (fixed_standard p) = element_of_none at e unfixed_function

  step_fixes : (l : Selector-F Expr Selector Designator Item) (a : Denoted) (x : Fixed) → IsFixed a x
      → PicksSo x l ((selector_layer g (opened_selector g l)).fixed s (Ok a))
  step_fixes (layer.Field at name) a x i = field_fixes at name a x i
  step_fixes (layer.Index at e) a x i = element_fixes at e a x i

  -- one selector of what is answered
  abbrev PickedOf : (Fixed → Type 0) → Selector → Fixed → Type 0
  PickedOf P y z = (x : Fixed) × P x × FixedPicks exports x (out-Selector y) z

  abbrev MispickedOf : (Fixed → Type 0) → (Breach → Type 0) → Selector → Breach → Type 0
  MispickedOf P Q y f = Q f ⊎ ((x : Fixed) × P x × FixedMispicks exports x (out-Selector y) f)

  passes_on : (l : Selector-F Expr Selector Designator Item) (d : Result Denoted g.Reported)
      → (d ▷ λ a. (selector_layer g (opened_selector g l)).fixed s (Ok a))
      ≡ (selector_layer g (opened_selector g l)).fixed s d
  passes_on (layer.Field at name) (Ok a) = refl
  passes_on (layer.Field at name) (Err e) = refl
  passes_on (layer.Index at x) (Ok a) = refl
  passes_on (layer.Index at x) (Err e) = refl

  one_pick : {P : Fixed → Type 0} {Q : Breach → Type 0} {d : Result Denoted g.Reported} (y : Selector)
      → Answers g j E IsFixed P Q d → Answers g j E IsFixed (PickedOf P y) (MispickedOf P Q y) ((picks g y).fixed s d)
  one_pick {P = P} {Q = Q} {d = d} y a = subst (Answers g j E IsFixed (PickedOf P y) (MispickedOf P Q y))
      (passes_on (out-Selector y) d ∙ sym (ap (λ (m : Picks g.Reported). m.fixed s d)
      (picks_is g y (out-Selector y) refl)))
      (then_answer g j lawful E {N = λ x z. FixedPicks exports x (out-Selector y) z}
      {D = λ x f. FixedMispicks exports x (out-Selector y) f} a (step_fixes (out-Selector y)))

  abbrev SelectsSo : (Fixed → Type 0) → (Breach → Type 0) → List Selector → Result Denoted g.Reported → Type 0
  SelectsSo P Q ss d = Answers g j E IsFixed (λ z. (x : Fixed) × P x × FixedSelected exports x ss z)
      (λ f. Q f ⊎ ((x : Fixed) × P x × FixedSelectionFails exports x ss f)) d

  more_selected : {P : Fixed → Type 0} {Q : Breach → Type 0} {d : Result Denoted g.Reported} (y : Selector)
      (ss : List Selector) → SelectsSo (PickedOf P y) (MispickedOf P Q y) ss d → SelectsSo P Q (y ∷ ss) d
  more_selected {P = P} {Q = Q} y ss a = exact g j lawful E (λ z m. (m.1.0, m.1.1, rules.component m.1.2 m.2))
      (λ z m. parted m.1 m.2) into out a
    where
      parted : {x z : Fixed} → P x → FixedSelected exports x (y ∷ ss) z → (w : Fixed) × PickedOf P y w
          × FixedSelected exports w ss z
      parted {x = x} m (rules.component {y = w} q r) = (w, (x, m, q), r)

      into : (f : Breach) → MispickedOf P Q y f ⊎ ((w : Fixed) × PickedOf P y w × FixedSelectionFails exports w ss f)
          → Q f ⊎ ((x : Fixed) × P x × FixedSelectionFails exports x (y ∷ ss) f)
      into f (inl (inl b)) = inl b
      into f (inl (inr (x, m, z))) = inr (x, m, rules.at_next z)
      into f (inr (w, (x, m, q), z)) = inr (x, m, rules.behind q z)

      failing : {x : Fixed} {f : Breach} → P x → FixedSelectionFails exports x (y ∷ ss) f → MispickedOf P Q y f
          ⊎ ((w : Fixed) × PickedOf P y w × FixedSelectionFails exports w ss f)
      failing {x = x} m (rules.at_next z) = inl (inr (x, m, z))
      failing {x = x} m (rules.behind {y = w} q z) = inr (w, (x, m, q), z)

      out : (f : Breach) → Q f ⊎ ((x : Fixed) × P x × FixedSelectionFails exports x (y ∷ ss) f) → MispickedOf P Q y f
          ⊎ ((w : Fixed) × PickedOf P y w × FixedSelectionFails exports w ss f)
      out f (inl b) = inl (inl b)
      out f (inr (x, m, z)) = failing m z

  all_selected : (ss : List Selector) {P : Fixed → Type 0} {Q : Breach → Type 0} {d : Result Denoted g.Reported}
      → Answers g j E IsFixed P Q d → SelectsSo P Q ss
      (fold (λ x p. p s x) d (map (λ (p : Picks g.Reported). p.fixed) (map (picks g) ss)))
  all_selected [] {P = P} {Q = Q} a = exact g j lawful E (λ z m. (z, m, rules.whole)) (λ z m. parted m.1 m.2)
      (λ f b. inl b) (λ f b. out f b) a
    where
      parted : {x z : Fixed} → P x → FixedSelected exports x [] z → P z
      parted m rules.whole = m

      out : (f : Breach) → Q f ⊎ ((x : Fixed) × P x × FixedSelectionFails exports x [] f) → Q f
      out f (inl b) = b
      out f (inr (x, m, z)) = elim z [ ]
  all_selected (y ∷ ss) {P = P} {Q = Q} a =
      more_selected y ss (all_selected ss {P = PickedOf P y} {Q = MispickedOf P Q y} (one_pick y a))

  -- a name with its components
  abbrev pub DesignatesFixed : Designator → Fixed → Type 0
  DesignatesFixed d y = (x : Fixed) × FixedAs (names (out-Designator d).name) x
      × FixedSelected exports x (out-Designator d).selectors y

  abbrev pub DesignatorFails : Designator → Breach → Type 0
  DesignatorFails d f = FixedMisnamed (out-Designator d).name.pos (names (out-Designator d).name) f
      ⊎ ((x : Fixed) × FixedAs (names (out-Designator d).name) x
      × FixedSelectionFails exports x (out-Designator d).selectors f)

  pub designator_fixes : (d : Designator)
      → Answers g j E IsFixed (DesignatesFixed d) (DesignatorFails d) ((head g d).fixed.denotes s)
  designator_fixes d = subst (Answers g j E IsFixed (DesignatesFixed d) (DesignatorFails d))
      (sym (ap (λ (m : Meant g.Reported). m.fixed.denotes s) (head_is g d)))
      (all_selected (out-Designator d).selectors (name_fixes (out-Designator d).name))
