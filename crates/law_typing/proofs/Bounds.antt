-- A bound of a label of a CASE is answered exactly.
use Rattle.std.proofs.Common.{true, ◌≡◌, ℕ, ℤ, Bool, false, Option, Some, None, Result, Ok, ◌⊎◌, inl, inr, refl, sym, ap, subst, ◌∙◌}
use Rattle.std.specs.Option.{option_map}
use Rattle.m2_rule.specs.declared.breach.Breach.{Breach}
use Rattle.m2_rule.specs.declared.rule.Rule.TheVariants as rule
use Rattle.m2_tree.specs.declared.pos.Pos.{Pos}
use Rattle.m2_tree.specs.declared.name.Ident.{Ident}
use Rattle.m2_tree.specs.declared.expr.Expr.{Expr}
use Rattle.typed_tree.specs.declared.types.TypeNo.{TypeNo}
use Rattle.typed_tree.specs.declared.meaning.Value.{Value as ConstantValue}
use Rattle.typed_tree.specs.declared.meaning.Value.TheVariants as value
use Rattle.typed_tree.specs.declared.shape.Shape.{Shape}
use Rattle.typed_tree.specs.declared.shape.Shape.TheVariants as shape
use Rattle.typed_tree.specs.declared.known_types.Types.{Types}
use Rattle.check_scope.specs.declared.meaningless.Meaningless.{Meaningless}
use Rattle.check_scope.specs.declared.scope.Scope.{Scope}
use Rattle.check_scope.specs.Elaborated.{Gathers, report}
use Rattle.check_const.specs.declared.operand.Operand.{Operand}
use Rattle.check_const.specs.declared.operand.Ordinal.{Ordinal}
use Rattle.check_value.specs.declared.class.Class.{Class}
use Rattle.check_value.specs.declared.computed.Computed.{Computed}
use Rattle.check_value.specs.declared.computed.Designated.{Designated}
use Rattle.check_expr.specs.Meanings.{meanings_of}
use Rattle.check_stmt_parts.specs.Labels.{suits_selector, suits_without, no_constant, without_number, constant_bound, value_bound, variable_bound, bound_by, bound_in, bound_of}
use Rattle.def_typing.specs.Shapes.{shape_at}
use Rattle.def_typing.specs.Amounts.{Constant, Value}
use Rattle.def_typing.specs.Operators.{◌!◌, Kind, Scalar, operand}
use Rattle.def_typing.specs.Things.{Thing, AValue, AVariable, Headless, Standing, content_of, content, Mistaken}
use Rattle.def_typing.specs.Parts.{first}
use Rattle.def_typing.specs.Expressions.{Stands, Broken}
use Rattle.def_typing.specs.Cases as rules
use Rattle.def_typing.specs.Cases.{IsConstantThing, IsNoValue, IsNoConstant, run_time_kind, SuitsSelector, Number, IsBound, is_bound, no_number, Misbounds, IsLabelBound, is_label_bound, BrokenLabelBound, in_bound, at_bound}
use Rattle.law_typing.specs.Judging.{Judges, Answers, means, refuses}
use Rattle.law_typing.specs.Exact.{kind_of, IsKind, kind_constant, kind_scalar, kind_set, kind_routine, kind_procedure, kind_whole, kind_untaken, IsThing, thing_value, thing_variable, thing_open, thing_type, thing_procedure, thing_nested, thing_standard, thing_module, Knows, Repeats}
use Rattle.law_typing.proofs.Combining.{Lawful, Decided, holds, fails_it, decided_as, accounts_as, declined, exact, Checks, passes, stops, stopped, where_checks, both_checks, map_checks, Finds, finds, finds_headless, finds_nothing}
use Rattle.law_typing.proofs.Deciding.{same_decided}
use Rattle.law_typing.proofs.Singles.{IsConstantOperand, constant_scalar, constant_set, constant_text, constant_is}
use Rattle.law_typing.proofs.Shaping.{class_of, class_is}
use Rattle.law_typing.proofs.Places.{at_is}
use Rattle.law_typing.proofs.Expressing.{expression_found}

-- the number of a bound, if it has one
pub data IsNumbered : Option Ordinal → Option Number → Type 0 where
  is_numbered : (a : Ordinal) → IsNumbered (Some a) (Some (a.sort, a.number))
  has_none : IsNumbered None None

abbrev sorted_in : Number → Kind → Number
sorted_in p (Scalar (Constant sort n)) = (sort, n)
sorted_in p other = p

abbrev type_in : TypeNo → Kind → TypeNo
type_in t (Scalar (Value u)) = u
type_in t other = t

scalar_suits : (base : Option TypeNo) (k : Kind) (b : TypeNo) → k ≡ Scalar (Value b)
    → Decided (SuitsSelector base k) (suits_selector base b)
scalar_suits None k b e = holds tt
scalar_suits (Some t) k b e = decided_as (λ q. e ∙ ap (λ (u : TypeNo). Scalar (Value u)) q)
    (λ q. ap (type_in b) (sym e ∙ q)) (same_decided b t)

none_suits : (base : Option TypeNo) (k : Kind) → ((t : TypeNo) → k ≡ Scalar (Value t) → ⊥)
    → Decided (SuitsSelector base k) (suits_without base)
none_suits None k n = holds tt
none_suits (Some t) k n = fails_it (λ q. n t q)

constant_thing : (v : ConstantValue) → IsConstantThing (AValue (kind_of v))
constant_thing (value.Number n) = tt
constant_thing (value.Scalar s) = tt
constant_thing (value.Set bits) = tt
constant_thing (value.Text text) = tt

module _ (g : Gathers) (j : Judges g) (lawful : Lawful g j) (O : Breach → Type 0) (types : Types) (base : Option TypeNo)
    (label at : Pos) where
  abbrev Mis : Thing → Breach → Type 0
  Mis x f = Misbounds types base label at x f

  abbrev BoundSo : Thing → Result (Option Ordinal) g.Reported → Type 0
  BoundSo x r = Answers g j O IsNumbered (IsBound base x) (Mis x) r

  -- constants
  one_number : {k : Kind} {p : Option Number} (a : Number) → operand k ≡ Scalar (Constant a.0 a.1)
      → IsBound base (AValue k) p → p ≡ Some a
  one_number a e (is_bound q) = ap (λ (k : Kind). Some (sorted_in a k)) (sym q ∙ e)
  one_number a e (no_number z c n) = absurd (n a.0 a.1 e)

  well_bound : {k : Kind} (a : Ordinal) → IsConstantThing (AValue k) → operand k ≡ Scalar (Constant a.sort a.number)
      → BoundSo (AValue k) (Ok (Some a))
  well_bound {k = k} a c e = means (Some a) (Some (a.sort, a.number)) (is_numbered a) (is_bound e)
      (λ p m. one_number (a.sort, a.number) e m) (λ f z. none z)
    where
      none : {f : Breach} → Mis (AValue k) f → ⊥
      none (rules.no_bound d n) = n (Some (a.sort, a.number)) (is_bound e)
      none (rules.no_value m) = m
      none (rules.no_constant i) = i.not_constant c
      none (rules.other_type i n) = i.not_constant c

  abbrev NoScalar : Kind → Type 0
  NoScalar k = (sort : Option TypeNo) (n : ℤ) → operand k ≡ Scalar (Constant sort n) → ⊥

  -- a constant without a number
  without : {k : Kind} (b : Option TypeNo) → base ≡ b → IsConstantThing (AValue k) → NoScalar k
      → BoundSo (AValue k) (without_number g b at)
  without {k = k} None e c n = means None None has_none (no_number e c n) (λ p m. only m) (λ f z. none z)
    where
      only : {p : Option Number} → IsBound base (AValue k) p → p ≡ None
      only (is_bound {sort = sort} {n = m} q) = absurd (n sort m q)
      only (no_number z d m) = refl

      none : {f : Breach} → Mis (AValue k) f → ⊥
      none (rules.no_bound d m) = m None (no_number e c n)
      none (rules.no_value m) = m
      none (rules.no_constant i) = i.not_constant c
      none (rules.other_type i m) = i.not_constant c
  without {k = k} (Some t) e c n = declined g j lawful O at rule.WrongType (λ p m. unbound m)
      (rules.no_bound c (λ p m. unbound m)) (λ f z. one z)
    where
      unbound : {p : Option Number} → IsBound base (AValue k) p → ⊥
      unbound (is_bound {sort = sort} {n = m} q) = n sort m q
      unbound (no_number z d m) = let clash : None ≡ Some t = sym z ∙ e in absurd cc

      one : {f : Breach} → Mis (AValue k) f → f ≡ at ! rule.WrongType
      one (rules.no_bound d m) = refl
      one (rules.no_value m) = absurd m
      one (rules.no_constant i) = absurd (i.not_constant c)
      one (rules.other_type i m) = refl

  constant_bounds : {k : Kind} {o : Option Operand} {c : Kind} → IsConstantThing (AValue k) → operand k ≡ c
      → IsConstantOperand o c → BoundSo (AValue k) (constant_bound g base at o)
  constant_bounds d e (constant_scalar a) = well_bound a d e
  constant_bounds d e (constant_set bits) = without base refl d (λ s n m. let z = sym e ∙ m in absurd cc)
  constant_bounds d e (constant_text text) = without base refl d (λ s n m. let z = sym e ∙ m in absurd cc)

  -- what is no constant
  refused : {P : Type 0} {B : Breach → Type 0} {x : Thing} {r : Result (Option Ordinal) g.Reported} → (P → ⊥)
      → ((p : Option Number) → IsBound base x p → ⊥) → ((f : Breach) → B f → Mis x f) → ((f : Breach) → Mis x f → B f)
      → Checks g j lawful O {A = Option Ordinal} P B r → BoundSo x r
  refused q n to from (passes a p m) = absurd (q p)
  refused q n to from (stops r c m) = refuses r (accounts_as g j lawful O to from c) n

  abbrev Told : Type 0 → Breach → Type 0
  Told P f = ((P → ⊥) × (f ≡ at ! rule.WrongType)) ⊎ (f ≡ label ! rule.WrongLabel)

  -- told at its own place, unless the type is right, and at the label
  told_twice : {x : Thing} {P : Type 0} {b : Bool} → Decided P b → IsNoConstant x
      → ((p : Option Number) → IsBound base x p → ⊥) → ((P → ⊥) → Mis x (at ! rule.WrongType))
      → ((f : Breach) → Mis x f → Told P f) → BoundSo x (no_constant g b label at)
  told_twice {x = x} {P = P} {b = b} d i n to from =
      refused {P = P × ⊥} {B = Told P} (λ p. p.1) n (λ f z. into f z) from
      (map_checks g j lawful O (λ (p : Unit {0} × Option Ordinal). p.1)
      (both_checks g j lawful O (where_checks g j lawful O tt b at rule.WrongType d)
      (stopped g j lawful O {P = ⊥} {B = λ f. f ≡ label ! rule.WrongLabel} label rule.WrongLabel (λ p. p) refl
      (λ f e. e))))
    where
      into : (f : Breach) → Told P f → Mis x f
      into f (inl (m, e)) = subst (Mis x) (sym e) (to m)
      into f (inr e) = subst (Mis x) (sym e) (rules.no_constant i)

  -- what has a type at run time
  varies : {x : Thing} (b : Bool) → IsNoConstant x → ((f : Breach) → Mistaken at x f → ⊥)
      → ((p : Option Number) → IsBound base x p → ⊥) → Decided (SuitsSelector base (run_time_kind types x)) b
      → BoundSo x (no_constant g b label at)
  varies {x = x} b i u n d = told_twice d i n (λ m. rules.other_type i m) (λ f z. out f z)
    where
      out : (f : Breach) → Mis x f → Told (SuitsSelector base (run_time_kind types x)) f
      out _ (rules.no_bound c m) = absurd (i.not_constant c)
      out f (rules.no_value m) = absurd (u f m)
      out _ (rules.no_constant q) = inr refl
      out _ (rules.other_type q m) = inl (m, refl)

  -- types and modules
  no_type_bound : {x : Thing} → IsNoConstant x → ((p : Option Number) → IsBound base x p → ⊥)
      → Mistaken at x (at ! rule.WrongType) → ((f : Breach) → Mistaken at x f → f ≡ at ! rule.WrongType)
      → BoundSo x (no_constant g false label at)
  no_type_bound {x = x} i n v one = told_twice {P = ⊥} (fails_it (λ p. p)) i n (λ m. rules.no_value v) (λ f z. out f z)
    where
      out : (f : Breach) → Mis x f → Told ⊥ f
      out _ (rules.no_bound c m) = absurd (i.not_constant c)
      out f (rules.no_value m) = inl ((λ p. p), one f m)
      out _ (rules.no_constant q) = inr refl
      out _ (rules.other_type q m) = inl ((λ p. p), refl)

  value_varies : {k : Kind} (b : Bool) → IsNoConstant (AValue k)
      → ((p : Option TypeNo × ℤ) → operand k ≡ Scalar (Constant p.0 p.1) → ⊥) → Decided (SuitsSelector base k) b
      → BoundSo (AValue k) (no_constant g b label at)
  value_varies {k = k} b i n d = varies b i (λ f m. m) (λ p m. unbound m) d
    where
      unbound : {p : Option Number} → IsBound base (AValue k) p → ⊥
      unbound (is_bound {sort = sort} {n = m} q) = n (sort, m) q
      unbound (no_number e c m) = i.not_constant c

  value_bounds : {v : Computed} {k : Kind} → IsKind v k → BoundSo (AValue k) (value_bound g base label at v)
  value_bounds (kind_constant v) = constant_bounds (constant_thing v) refl (constant_is v)
  value_bounds (kind_scalar t b e) = value_varies (suits_selector base b)
      (record { not_constant = λ z. z; not_refused = λ z. z }) (λ p q. absurd cc)
      (scalar_suits base (Scalar (Value b)) b refl)
  value_bounds (kind_set e) = value_varies (suits_without base) (record { not_constant = λ z. z; not_refused = λ z. z })
      (λ p q. absurd cc) (none_suits base _ (λ t q. absurd cc))
  value_bounds (kind_routine t e) = value_varies (suits_without base)
      (record { not_constant = λ z. z; not_refused = λ z. z }) (λ p q. absurd cc) (none_suits base _ (λ t q. absurd cc))
  value_bounds (kind_procedure p) = value_varies (suits_without base)
      (record { not_constant = λ z. z; not_refused = λ z. z }) (λ p q. absurd cc) (none_suits base _ (λ t q. absurd cc))
  value_bounds (kind_whole t d) = value_varies (suits_without base)
      (record { not_constant = λ z. z; not_refused = λ z. z }) (λ p q. absurd cc) (none_suits base _ (λ t q. absurd cc))
  value_bounds kind_untaken = value_varies (suits_without base) (record { not_constant = λ z. z; not_refused = λ z. z })
      (λ p q. absurd cc) (none_suits base _ (λ t q. absurd cc))

  variable_varies : (t : TypeNo) (b : Bool) → Decided (SuitsSelector base (content types t)) b
      → BoundSo (AVariable t) (no_constant g b label at)
  variable_varies t b d = varies b (record { not_constant = λ z. z; not_refused = λ z. z }) (λ f m. m)
      (λ p m. elim m [ ]) d

  not_held : (t : TypeNo) (z : Option Shape) → shape_at types t ≡ z
      → ((u : TypeNo) → content_of t z ≡ Scalar (Value u) → ⊥)
      → Decided (SuitsSelector base (content types t)) (suits_without base)
  not_held t z e n = none_suits base (content types t) (λ u q. n u (sym (ap (content_of t) e) ∙ q))

  variable_by : (t : TypeNo) (z : Option Shape) → shape_at types t ≡ z
      → BoundSo (AVariable t) (variable_bound g base label at (class_of z))
  variable_by t None e = variable_varies t (suits_without base) (not_held t None e (λ u q. absurd cc))
  variable_by t (Some (shape.Scalar r)) e =
      variable_varies t (suits_selector base r.base) (scalar_suits base (content types t) r.base (ap (content_of t) e))
  variable_by t (Some shape.Set) e = variable_varies t (suits_without base) (not_held t _ e (λ u q. absurd cc))
  variable_by t (Some (shape.Array i u)) e = variable_varies t (suits_without base) (not_held t _ e (λ u q. absurd cc))
  variable_by t (Some (shape.Record fs)) e = variable_varies t (suits_without base) (not_held t _ e (λ u q. absurd cc))
  variable_by t (Some (shape.Procedure p)) e =
      variable_varies t (suits_without base) (not_held t _ e (λ u q. absurd cc))
  variable_by t (Some (shape.Open u)) e = variable_varies t (suits_without base) (not_held t _ e (λ u q. absurd cc))

  no_value_bound : {x : Thing} → IsNoValue x → (IsConstantThing x → ⊥) → ((p : Option Number) → IsBound base x p → ⊥)
      → Mistaken at x (at ! rule.NoProcedureValue) → ((f : Breach) → Mistaken at x f → f ≡ at ! rule.NoProcedureValue)
      → BoundSo x (report g at rule.NoProcedureValue)
  no_value_bound {x = x} v c n m only = declined g j lawful O at rule.NoProcedureValue n (rules.no_value m)
      (λ f z. one f z)
    where
      one : (f : Breach) → Mis x f → f ≡ at ! rule.NoProcedureValue
      one _ (rules.no_bound d m) = absurd (c d)
      one f (rules.no_value w) = only f w
      one _ (rules.no_constant i) = absurd (i.not_refused v)
      one _ (rules.other_type i m) = absurd (i.not_refused v)

  other_varies : {x : Thing} → IsNoConstant x → ((f : Breach) → Mistaken at x f → ⊥)
      → ((p : Option Number) → IsBound base x p → ⊥) → ((t : TypeNo) → run_time_kind types x ≡ Scalar (Value t) → ⊥)
      → BoundSo x (no_constant g (suits_without base) label at)
  other_varies {x = x} i u n q = varies (suits_without base) i u n (none_suits base (run_time_kind types x) q)

  bounds : (a : Designated) (x : Thing) → IsThing a x → BoundSo x (bound_by g types base label at a)
  bounds _ _ (thing_value i) = value_bounds i
  bounds _ _ (thing_variable t d) = subst (λ (c : Class). BoundSo (AVariable t) (variable_bound g base label at c))
      (sym (class_is types t)) (variable_by t (shape_at types t) refl)
  bounds _ _ (thing_nested p) = no_value_bound tt (λ z. z) (λ p m. elim m [ ]) refl (λ f m. m)
  bounds _ _ (thing_standard p) = no_value_bound tt (λ z. z) (λ p m. elim m [ ]) refl (λ f m. m)
  bounds _ _ (thing_open t d) = other_varies (record { not_constant = λ z. z; not_refused = λ z. z }) (λ f m. m)
      (λ p m. elim m [ ]) (λ t q. absurd cc)
  bounds _ _ (thing_type t) = no_type_bound (record { not_constant = λ z. z; not_refused = λ z. z }) (λ p m. elim m [ ])
      refl (λ f m. m)
  bounds _ _ (thing_procedure p) = other_varies (record { not_constant = λ z. z; not_refused = λ z. z }) (λ f m. m)
      (λ p m. elim m [ ]) (λ t q. absurd cc)
  bounds _ _ (thing_module k) = no_type_bound (record { not_constant = λ z. z; not_refused = λ z. z })
      (λ p m. elim m [ ]) refl (λ f m. m)

  -- what is found
  abbrev Meant : (Thing → Type 0) → Option Number → Type 0
  Meant S p = (x : Thing) × S x × IsBound base x p

  abbrev Fails : (Thing → Type 0) → (Breach → Type 0) → Breach → Type 0
  Fails S B f = B f ⊎ ((x : Thing) × S x × Mis x f)

  at_thing : {S : Thing → Type 0} {B : Breach → Type 0} {r : Result (Option Ordinal) g.Reported} (x : Thing) → S x
      → ((y : Thing) → S y → y ≡ x) → ((f : Breach) → B f → ⊥) → BoundSo x r
      → Answers g j O IsNumbered (Meant S) (Fails S B) r
  at_thing x m u n h = exact g j lawful O (λ p z. (x, m, z))
      (λ p z. subst (λ (x : Thing). IsBound base x p) (u z.0 z.1) z.2) (λ f z. inr (x, m, z))
      (λ f z. elim z [ inl b ↦ absurd (n f b) | inr q ↦ subst (λ (x : Thing). Mis x f) (u q.0 q.1) q.2 ]) h

  pub bound_found : {S : Thing → Type 0} {B : Breach → Type 0} {d : Result Designated (Meaningless g.Reported)}
      → Finds g j lawful O S B d → Answers g j O IsNumbered (Meant S) (Fails S B) (bound_in g types base label at d)
  bound_found (finds a x i m u n) = at_thing x m u n (bounds a x i)
  bound_found (finds_headless true r o m u n) =
      at_thing (Headless true) m u n (no_value_bound tt (λ z. z) (λ p q. elim q [ ]) refl (λ f z. z))
  bound_found (finds_headless false r o m u n) =
      at_thing (Headless false) m u n (other_varies (record { not_constant = λ z. z; not_refused = λ z. z }) (λ f z. z)
      (λ p q. elim q [ ]) (λ t q. absurd cc))
  bound_found (finds_nothing r c n) = refuses r
      (accounts_as g j lawful O (λ f b. inl b) (λ f z. elim z [ inl b ↦ b | inr q ↦ absurd (n q.0 q.1) ]) c)
      (λ p z. n z.0 z.1)

-- the number that is stated of a bound
abbrev stated : Option Ordinal → Option Number
stated a = option_map (λ (x : Ordinal). (x.sort, x.number)) a

stated_by : {a : Option Ordinal} {p : Option Number} → IsNumbered a p → stated a ≡ p
stated_by (is_numbered a) = refl
stated_by has_none = refl

renamed : {g : Gathers} {j : Judges g} {O B : Breach → Type 0} {M : Option Number → Type 0}
    {r : Result (Option Ordinal) g.Reported} → Answers g j O IsNumbered M B r
    → Answers g j O (λ a p. stated a ≡ p) M B r
renamed (means a k i m u n) = means a k (stated_by i) m u n
renamed (refuses r c n) = refuses r c n

module _ (g : Gathers) (j : Judges g) (lawful : Lawful g j) (names : Ident → Standing) (exports : ℕ → Ident → Standing)
    (s : Scope g.Reported) (knows : Knows g j names exports s) where
  pub ordinal_answers : (base : Option TypeNo) (label : Pos) (e : Expr)
      → Answers g j (Repeats g j names s) IsNumbered (IsLabelBound s.types names exports base e)
      (BrokenLabelBound s.types names exports base label e) (bound_of g s base label (meanings_of g e))
  ordinal_answers base label e = subst (λ (at : Pos). Answers g j (Repeats g j names s) IsNumbered
      (IsLabelBound s.types names exports base e) (BrokenLabelBound s.types names exports base label e)
      (bound_in g s.types base label at ((meanings_of g e).means s))) (sym (at_is g e))
      (exact g j lawful (Repeats g j names s) (λ p z. is_label_bound z.1 z.2) (λ p z. parts z)
      (λ f z. elim z [ inl b ↦ in_bound b | inr q ↦ at_bound q.1 q.2 ]) out
      (bound_found g j lawful (Repeats g j names s) s.types base label (first e)
      (expression_found g j lawful names exports s knows e)))
    where
      parts : {p : Option Number} → IsLabelBound s.types names exports base e p → (x : Thing)
          × Stands s.types names exports e x × IsBound base x p
      parts (is_label_bound {x = x} m b) = (x, m, b)

      out : (f : Breach) → BrokenLabelBound s.types names exports base label e f → Broken s.types names exports e f
          ⊎ ((x : Thing) × Stands s.types names exports e x × Misbounds s.types base label (first e) x f)
      out f (in_bound b) = inl b
      out f (at_bound {x = x} m b) = inr (x, m, b)

  pub bound_answers : (base : Option TypeNo) (label : Pos) (e : Expr)
      → Answers g j (Repeats g j names s) (λ a p. stated a ≡ p) (IsLabelBound s.types names exports base e)
      (BrokenLabelBound s.types names exports base label e) (bound_of g s base label (meanings_of g e))
  bound_answers base label e = renamed (ordinal_answers base label e)
