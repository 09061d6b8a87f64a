-- Calls in constant expressions answer exactly.
use Rattle.std.proofs.Common.{◌≡◌, ℕ, ℤ, List, [], ◌∷◌, length, Option, Some, None, Result, Ok, Err, ◌⊎◌, inl, inr, refl, sym, ap, subst, ◌∙◌, arith}
use Rattle.std.specs.Prelude.{map}
use Rattle.m2_rule.specs.declared.rule.Rule.TheVariants as rule
use Rattle.m2_tree.specs.declared.pos.Pos.{Pos}
use Rattle.m2_tree.specs.declared.name.Ident.{Ident}
use Rattle.m2_tree.specs.declared.expr.Expr.{Expr, Expr-F, out-Expr}
use Rattle.m2_tree.specs.declared.expr.Expr.TheOpen as layer
use Rattle.m2_tree.specs.declared.expr.Selector.{Selector, Selector-F, out-Selector}
use Rattle.m2_tree.specs.declared.expr.Designator.{Designator, out-Designator}
use Rattle.m2_tree.specs.declared.expr.Item.{Item}
use Rattle.typed_tree.specs.declared.types.TypeNo.{TypeNo}
use Rattle.typed_tree.specs.declared.meaning.Value.{Value as ConstantValue}
use Rattle.typed_tree.specs.declared.meaning.Standard.{Standard}
use Rattle.typed_tree.specs.declared.meaning.Standard.TheVariants.{Abs, Cap, Chr, High, Max, Min, Odd, Ord, Val, Inc, Dec, Incl, Excl, Halt, Put}
use Rattle.typed_tree.specs.declared.shape.Scalar.{Scalar as Range}
use Rattle.m2_rule.specs.declared.breach.Breach.{Breach}
use Rattle.check_scope.specs.declared.scope.Scope.{Scope}
use Rattle.check_scope.specs.Elaborated.{Gathers, report, of_sort, ◌▷◌}
use Rattle.check_const.specs.declared.denoted.Denoted.{Denoted}
use Rattle.check_const.specs.declared.denoted.Denoted.TheVariants as denoted
use Rattle.check_const.specs.Calls.{type_in, named_scalar, type_argument, unary, unary_of, bound, bound_by, scalar_type, conversion_call}
use Rattle.check_const.specs.Standards.{conversion_of}
use Rattle.check_const.specs.Parts.{Part, constant, value_at, named_type, one, type_only, conversion, standard_call_value, call_value}
use Rattle.check_value.specs.declared.computed.Designated.{Designated}
use Rattle.check_value.specs.declared.computed.Designated.TheVariants as designated
use Rattle.check_value.specs.declared.standard.Unary.{Unary}
use Rattle.check_value.specs.Functions.{type_named}
use Rattle.check_expr.specs.Meanings.{Meant, Picks, meanings_of, picks, head, type_of, names_by, scalar_named, expr_layer}
use Rattle.check_expr.specs.Meanings as meanings
use Rattle.def_typing.specs.Shapes.{shape_at}
use Rattle.def_typing.specs.Operators.{◌!◌, Kind, operand, Misapplied}
use Rattle.def_typing.specs.Things.{Thing, AValue, AVariable, AnOpenArray, AType, AProcedure, ANested, AStandard, AModule, Headless, Standing, Known, Ahead, Undeclared, NotExported, Unknown, Picks as PicksName}
use Rattle.def_typing.specs.Things as things
use Rattle.def_typing.specs.Functions as functions
use Rattle.def_typing.specs.Functions.{TakesOne, MayApply, Applies, NamesScalar, names_scalar, BoundOf, MayConvert, Converts, arity, fixed_arity, IsOfOne, TakesValue, TakesType}
use Rattle.def_typing.specs.Parts.{first, Among, here, later}
use Rattle.def_typing.specs.Constants as rules
use Rattle.def_typing.specs.Constants.{Fixed, AConstant, AScope, ANamedType, AFunction, NoConstant, fixed_thing, FixedAs, IsUnfixed, FixedPicks, FixedSelected, FixedDenotes, IsFixedFunctionOf, fixed_standard, FixedScalar, fixed_scalar, Fixes, as_fixed, FixedReads, FixedCalls, FixedMiscalled, FixedFails, no_constant}
use Rattle.def_typing.specs.Expressions as bodies
use Rattle.def_typing.specs.Expressions.{HasComponents, has_components, Stands, as_written, Reads, Denotes, Selected, Selects, BrokenTypeArgument, in_fixed, no_scalar, in_components, no_scalar_component}
use Rattle.law_typing.specs.Judging.{Judges, Answers}
use Rattle.law_typing.specs.Exact.{IsConst, is_const, kind_constant, Knows}
use Rattle.law_typing.proofs.Combining.{Lawful, declined, exact, both_answer, then_answer}
use Rattle.law_typing.proofs.Deciding.{some_same}
use Rattle.law_typing.proofs.Shaping.{scalar_is}
use Rattle.law_typing.proofs.Singles.{UnaryIs, is_abs, is_cap, is_chr, is_odd, is_ord, one_answers, converted_answers}
use Rattle.law_typing.proofs.Places.{opened, meant_is, head_is, head_at, at_is}
use Rattle.law_typing.proofs.Finding.{IsFound}
use Rattle.law_typing.proofs.Calling.{applies_one, unary_one, not_bound, bound_not_one, IsOfRange, scalar_by, NamesIt, NameFails, scalar_answers, IsBound, bound_max, bound_min, BoundedBy, bounded_by}
use Rattle.law_typing.proofs.Fixing.{IsFixed, fixed_value, fixed_type, fixed_variable, fixed_procedure, fixed_standard as fixed_procedure_of, fixed_module, const_of, E, DesignatesFixed, DesignatorFails, designator_fixes}
use Rattle.law_typing.proofs.Constants.{FixedFound, ConstBroken, const_valued, TypeBroken, FixedAll, called_layer, part_broken}

-- ---- how many arguments there are

fixed_one : {p : Standard} → IsOfOne p → fixed_arity p ≡ Some 1
fixed_one functions.of_abs = refl
fixed_one functions.of_cap = refl
fixed_one functions.of_chr = refl
fixed_one functions.of_odd = refl
fixed_one functions.of_ord = refl

fixed_bound : {p : Standard} → IsBound p → fixed_arity p ≡ Some 1
fixed_bound bound_max = refl
fixed_bound bound_min = refl

of_bound : {p : Standard} {r : Range} {n : ℤ} → BoundOf r p n → IsBound p
of_bound functions.greatest = bound_max
of_bound functions.smallest = bound_min

value_count : {p : Standard} {xs : List Expr} {x : Expr} → TakesValue p xs x → fixed_arity p ≡ Some (length xs)
value_count (functions.of_one i) = fixed_one i
value_count functions.to_convert = refl

type_count : {p : Standard} {xs : List Expr} {x : Expr} → TakesType p xs x → fixed_arity p ≡ Some (length xs)
type_count functions.of_max = refl
type_count functions.of_min = refl
type_count functions.of_conversion = refl

function_count : {p : Standard} {n : ℕ} → IsFixedFunctionOf (AFunction p) n → fixed_arity p ≡ Some n
function_count (fixed_standard e) = e

no_type_of_one : {p : Standard} {u : Unary} {xs : List Expr} {t : Expr} → UnaryIs p u → TakesType p xs t → ⊥
no_type_of_one w functions.of_max = elim w [ ]
no_type_of_one w functions.of_min = elim w [ ]
no_type_of_one w functions.of_conversion = elim w [ ]

no_value_of_bound : {p : Standard} {x e : Expr} → IsBound p → TakesValue p (x ∷ []) e → ⊥
no_value_of_bound w (functions.of_one i) = bound_not_one w i

-- ---- names of types, in constants and in bodies

data IsVariable : Thing → Type 0 where
  a_variable : (t : TypeNo) → IsVariable (AVariable t)

abbrev known_in : Thing → Standing → Thing
known_in x (Known y) = y
known_in x other = x

known_field : (o : Option TypeNo) {z : Thing} → things.field_standing o ≡ Known z → IsVariable z
known_field None e = absurd cc
known_field (Some t) {z = z} e = subst IsVariable (ap (known_in z) e) (a_variable t)

abbrev type_number : TypeNo → Fixed → TypeNo
type_number t (ANamedType u) = u
type_number t other = t

abbrev scope_number : ℕ → Fixed → ℕ
scope_number k (AScope l) = l
scope_number k other = k

type_thing : {u : TypeNo} (x : Thing) → ANamedType u ≡ fixed_thing x → x ≡ AType u
type_thing {u = u} (AType t) e = ap AType (sym (ap (type_number u) e))
type_thing (AValue k) e = absurd cc
type_thing (AVariable t) e = absurd cc
type_thing (AnOpenArray t) e = absurd cc
type_thing (AProcedure h) e = absurd cc
type_thing (ANested h) e = absurd cc
type_thing (AStandard f) e = absurd cc
type_thing (AModule k) e = absurd cc
type_thing (Headless b) e = absurd cc

scope_thing : {k : ℕ} (x : Thing) → AScope k ≡ fixed_thing x → x ≡ AModule k
scope_thing {k = k} (AModule l) e = ap AModule (sym (ap (scope_number k) e))
scope_thing (AType t) e = absurd cc
scope_thing (AValue k) e = absurd cc
scope_thing (AVariable t) e = absurd cc
scope_thing (AnOpenArray t) e = absurd cc
scope_thing (AProcedure h) e = absurd cc
scope_thing (ANested h) e = absurd cc
scope_thing (AStandard f) e = absurd cc
scope_thing (Headless b) e = absurd cc

type_standing : {u : TypeNo} (st : Standing) → FixedAs st (ANamedType u) → st ≡ Known (AType u)
type_standing (Known x) e = ap Known (type_thing x e)
type_standing Ahead e = absurd cc
type_standing Undeclared e = absurd e
type_standing NotExported e = absurd e
type_standing Unknown e = absurd e

scope_standing : {k : ℕ} (st : Standing) → FixedAs st (AScope k) → st ≡ Known (AModule k)
scope_standing (Known x) e = ap Known (scope_thing x e)
scope_standing Ahead e = absurd cc
scope_standing Undeclared e = absurd e
scope_standing NotExported e = absurd e
scope_standing Unknown e = absurd e

abbrev name_in : Expr-F Expr Selector Designator Item → Option Designator
name_in (layer.Use d None) = Some d
name_in other = None

not_named : {t : Expr} (y : Expr-F Expr Selector Designator Item) → out-Expr t ≡ y → name_in y ≡ None → HasComponents t
    → ⊥
not_named y h n (has_components {d = d} q e) = let clash : None ≡ Some d = sym n ∙ ap name_in (sym h ∙ q) in absurd cc

not_composed : {t : Expr} (d : Designator) → out-Expr t ≡ layer.Use d None → (out-Designator d).selectors ≡ []
    → HasComponents t → ⊥
not_composed d h n (has_components {d = d'} {s = y} {ss = ss} q e) = let same : d ≡ d' =
    some_same d d' (ap name_in (sym h ∙ q)) in
    let clash : [] ≡ y ∷ ss = sym n ∙ ap (λ (d : Designator). (out-Designator d).selectors) same ∙ e in absurd cc

module _ (g : Gathers) (j : Judges g) (lawful : Lawful g j) (names : Ident → Standing) (exports : ℕ → Ident → Standing)
    (s : Scope g.Reported) (knows : Knows g j names exports s) where
  abbrev O : Breach → Type 0
  O = E g j lawful names exports s knows

  abbrev F : Expr → Fixed → Type 0
  F = Fixes s.types names exports

  abbrev B : Expr → Breach → Type 0
  B = bodies.FixedBroken s.types names exports

  abbrev Found : Expr → Type 0
  Found = IsFound g j lawful names exports s

  abbrev IsFixedOf : Expr → Type 0
  IsFixedOf = FixedFound g j lawful names exports s knows

  abbrev T : Expr → Breach → Type 0
  T = TypeBroken g j lawful names exports s knows

  abbrev V : Expr → Breach → Type 0
  V = ConstBroken g j lawful names exports s knows

  abbrev Sel : Thing → List Selector → Thing → Type 0
  Sel = Selected s.types names exports

  abbrev FixedSel : Fixed → List Selector → Fixed → Type 0
  FixedSel = FixedSelected exports

  abbrev SF : Type 0
  SF = Selector-F Expr Selector Designator Item

  -- what is picked of a variable is a variable
  field_variable : {name : Ident} {x z : Thing} {st : Standing} → IsVariable x → PicksName s.types exports name x st
      → st ≡ Known z → IsVariable z
  field_variable v things.of_module e = elim v [ ]
  field_variable v (things.of_record {fields = fields} m) e = known_field _ e

  picked_variable : {x z : Thing} (l : SF) → IsVariable x → Selects s.types names exports x l z → IsVariable z
  picked_variable _ v (bodies.field p) = field_variable v p refl
  picked_variable _ v (bodies.element i h a) = a_variable _

  variable_only : (ss : List Selector) {x : Thing} {u : TypeNo} → IsVariable x → Sel x ss (AType u) → ⊥
  variable_only [] v bodies.whole = elim v [ ]
  variable_only (y ∷ ss) v (bodies.component p r) = variable_only ss (picked_variable (out-Selector y) v p) r

  -- so a type is a component of modules alone
  abbrev FixedComponent : Thing → SF → List Selector → TypeNo → Type 0
  FixedComponent x l ss u = (w : Fixed) × FixedPicks exports (fixed_thing x) l w × FixedSel w ss (ANamedType u)

  picked_type : {at : Pos} {name : Ident} {x z : Thing} {st : Standing} {u : TypeNo} (ss : List Selector)
      → FixedSel (fixed_thing z) ss (ANamedType u) → PicksName s.types exports name x st → st ≡ Known z
      → Sel z ss (AType u) → FixedComponent x (layer.Field at name) ss u
  picked_type {z = z} ss q things.of_module e r =
      (fixed_thing z, rules.of_module (subst (λ (st : Standing). FixedAs st (fixed_thing z)) (sym e) refl), q)
  picked_type ss q (things.of_record m) e r = absurd (variable_only ss (known_field _ e) r)

  component_type : {x z : Thing} {u : TypeNo} (l : SF) (ss : List Selector) → FixedSel (fixed_thing z) ss (ANamedType u)
      → Selects s.types names exports x l z → Sel z ss (AType u) → FixedComponent x l ss u
  component_type _ ss q (bodies.field p) r = picked_type ss q p refl r
  component_type _ ss q (bodies.element i h a) r = absurd (variable_only ss (a_variable _) r)

  fixed_selected : (ss : List Selector) {x : Thing} {u : TypeNo} → Sel x ss (AType u)
      → FixedSel (fixed_thing x) ss (ANamedType u)
  fixed_selected [] bodies.whole = rules.whole
  fixed_selected (y ∷ ss) (bodies.component p r) = let c =
      component_type (out-Selector y) ss (fixed_selected ss r) p r in rules.component c.1 c.2

  -- and the other way round
  none_picks : {z : Fixed} (l : SF) → FixedPicks exports NoConstant l z → z ≡ NoConstant
  none_picks _ (rules.of_field u) = refl
  none_picks _ (rules.of_element u) = refl

  none_only : (ss : List Selector) {u : TypeNo} → FixedSel NoConstant ss (ANamedType u) → ⊥
  none_only [] r = elim r [ ]
  none_only (y ∷ ss) {u = u} (rules.component p r) =
      none_only ss (subst (λ (z : Fixed). FixedSel z ss (ANamedType u)) (none_picks (out-Selector y) p) r)

  abbrev InScope : Fixed → SF → Fixed → Type 0
  InScope x l z = (k : ℕ) × (at : Pos) × (name : Ident) × ((x ≡ AScope k) × (l ≡ layer.Field at name))
      × FixedAs (exports k name) z

  in_scope : {x z : Fixed} {u : TypeNo} (l : SF) (ss : List Selector) → FixedPicks exports x l z
      → FixedSel z ss (ANamedType u) → InScope x l z
  in_scope _ ss (rules.of_module {k = k} {at = at} {name = name} p) r = (k, at, name, (refl, refl), p)
  in_scope _ ss (rules.of_field u) r = absurd (none_only ss r)
  in_scope _ ss (rules.of_element u) r = absurd (none_only ss r)
  in_scope _ ss rules.element_of_module r = absurd (none_only ss r)

  member_selects : {k : ℕ} {at : Pos} {name : Ident} {x : Thing} {l : SF} → l ≡ layer.Field at name
      → exports k name ≡ Known x → Selects s.types names exports (AModule k) l x
  member_selects {k = k} {name = name} {x = x} h e =
      subst (λ (l : SF). Selects s.types names exports (AModule k) l x) (sym h)
      (bodies.field (subst (PicksName s.types exports name (AModule k)) e things.of_module))

  type_selected : (ss : List Selector) {st : Standing} {y : Fixed} {u : TypeNo} → FixedAs st y
      → FixedSel y ss (ANamedType u) → (x : Thing) × (st ≡ Known x) × Sel x ss (AType u)
  type_selected [] {st = st} {u = u} a rules.whole = (AType u, type_standing st a, bodies.whole)
  type_selected (y ∷ ss) {st = st} a (rules.component p r) = let c = in_scope (out-Selector y) ss p r in
      let m = type_selected ss {st = exports c.0 c.2} c.4 r in
      (AModule c.0, scope_standing st (subst (FixedAs st) c.3.0 a), bodies.component (member_selects c.3.1 m.1) m.2)

  -- ---- arguments that name a type

  stands_named : {t : Expr} {u : TypeNo} → HasComponents t → Stands s.types names exports t (AType u)
      → F t (ANamedType u)
  stands_named {t = t} {u = u} (has_components {d = d} h q) (as_written r) =
      as_fixed (subst (λ (y : Expr-F Expr Selector Designator Item). FixedReads s.types names exports y (ANamedType u))
      (sym h) (rules.fixed_name (of_body (subst
      (λ (y : Expr-F Expr Selector Designator Item). Reads s.types names exports y (AType u)) h r))))
    where
      of_body : Reads s.types names exports (layer.Use d None) (AType u) → FixedDenotes names exports d (ANamedType u)
      of_body (bodies.designated (bodies.named {x = x} e m)) =
          rules.fixed_named (subst (λ (st : Standing). FixedAs st (fixed_thing x)) (sym e) refl)
          (fixed_selected (out-Designator d).selectors m)

  named_stands : {t : Expr} {u : TypeNo} → HasComponents t → F t (ANamedType u)
      → Stands s.types names exports t (AType u)
  named_stands {t = t} {u = u} (has_components {d = d} h q) (as_fixed r) =
      as_written (subst (λ (y : Expr-F Expr Selector Designator Item). Reads s.types names exports y (AType u)) (sym h)
      (bodies.designated (to_body (subst (λ (y : Expr-F Expr Selector Designator Item). FixedReads s.types names exports
      y (ANamedType u)) h r))))
    where
      to_body : FixedReads s.types names exports (layer.Use d None) (ANamedType u)
          → Denotes s.types names exports d (AType u)
      to_body (rules.fixed_name (rules.fixed_named a m)) = let c =
          type_selected (out-Designator d).selectors {st = names (out-Designator d).name} a m in bodies.named c.1 c.2

  -- what the elaboration takes for the name of a type
  data NamesSo (t : Expr) : Type 0 where
    bare : (HasComponents t → ⊥) → (meanings_of g t).fixed.names s ≡ named_type ((meanings_of g t).fixed.denotes s)
        → NamesSo t
    composed : HasComponents t → (meanings_of g t).fixed.names s
        ≡ type_of g (meanings_of g t).fixed.at ((meanings_of g t).means s) → NamesSo t

  bare_layer : {t : Expr} (y : Expr-F Expr Selector Designator Item) → out-Expr t ≡ y → name_in y ≡ None
      → (expr_layer g (opened g y)).fixed.names s ≡ named_type ((expr_layer g (opened g y)).fixed.denotes s) → NamesSo t
  bare_layer {t = t} y h n e = bare (not_named y h n)
      (subst (λ (m : Meant g.Reported). m.fixed.names s ≡ named_type (m.fixed.denotes s)) (sym (meant_is g t y h)) e)

  abbrev NamesBy : List Selector → Meant g.Reported → Type 0
  NamesBy ss m = m.fixed.names s ≡ names_by (map (picks g) ss) (named_type (m.fixed.denotes s))
      (type_of g m.fixed.at (m.means s))

  head_names : (d : Designator) → NamesBy (out-Designator d).selectors (head g d)
  head_names d = subst (NamesBy (out-Designator d).selectors) (sym (head_is g d)) refl

  name_so : {t : Expr} (d : Designator) (ss : List Selector) → out-Expr t ≡ layer.Use d None
      → (out-Designator d).selectors ≡ ss → NamesSo t
  name_so {t = t} d [] h q = bare (not_composed d h q)
      (subst (λ (m : Meant g.Reported). m.fixed.names s ≡ named_type (m.fixed.denotes s))
      (sym (meant_is g t (layer.Use d None) h))
      (subst (λ (ss : List Selector). NamesBy ss (head g d)) q (head_names d)))
  name_so {t = t} d (y ∷ ss) h q = composed (has_components h q)
      (subst (λ (m : Meant g.Reported). m.fixed.names s ≡ type_of g m.fixed.at (m.means s))
      (sym (meant_is g t (layer.Use d None) h))
      (subst (λ (ss : List Selector). NamesBy ss (head g d)) q (head_names d)))

  names_layer : {t : Expr} (y : Expr-F Expr Selector Designator Item) → out-Expr t ≡ y → NamesSo t
  names_layer (layer.Number at n) h = bare_layer (layer.Number at n) h refl refl
  names_layer (layer.Char at c) h = bare_layer (layer.Char at c) h refl refl
  names_layer (layer.Text at x) h = bare_layer (layer.Text at x) h refl refl
  names_layer (layer.Set name at items) h = bare_layer (layer.Set name at items) h refl refl
  names_layer (layer.Not at e) h = bare_layer (layer.Not at e) h refl refl
  names_layer (layer.Bracketed at e) h = bare_layer (layer.Bracketed at e) h refl refl
  names_layer (layer.Use d None) h = name_so d (out-Designator d).selectors h refl
  names_layer (layer.Use d (Some args)) h = bare_layer (layer.Use d (Some args)) h refl refl
  names_layer (layer.Term e rest) h = bare_layer (layer.Term e rest) h refl refl
  names_layer (layer.Sum sign e rest) h = bare_layer (layer.Sum sign e rest) h refl refl
  names_layer (layer.Relation a o b) h = bare_layer (layer.Relation a o b) h refl refl

  abbrev RangeIs : TypeNo × Range → Range → Type 0
  RangeIs = IsOfRange g j lawful names exports s

  abbrev NamesRange : Expr → Range → Type 0
  NamesRange t r = (x : Fixed) × F t x × FixedScalar s.types x r

  abbrev TypeSo : Expr → Result (TypeNo × Range) g.Reported → Type 0
  TypeSo t r = Answers g j O RangeIs (NamesRange t) (T t) r

  abbrev NoRange : Pos → Fixed → Breach → Type 0
  NoRange at x f = ((r : Range) → FixedScalar s.types x r → ⊥) × (f ≡ at ! rule.NoType)

  abbrev FixedRange : Pos → Fixed → Result (TypeNo × Range) g.Reported → Type 0
  FixedRange at x r = Answers g j O RangeIs (FixedScalar s.types x) (NoRange at x) r

  no_range : {x : Fixed} (at : Pos) → ((r : Range) → FixedScalar s.types x r → ⊥)
      → FixedRange at x (report g at rule.NoType)
  no_range at n = declined g j lawful O at rule.NoType n (n, refl) (λ f z. z.1)

  fixed_as : {t : TypeNo} {r : Range} → NamesScalar s.types (AType t) r → FixedScalar s.types (ANamedType t) r
  fixed_as (names_scalar m) = fixed_scalar m

  as_fixed_scalar : {t : TypeNo} {r : Range} → FixedScalar s.types (ANamedType t) r → NamesScalar s.types (AType t) r
  as_fixed_scalar (fixed_scalar m) = names_scalar m

  range_answers : (at : Pos) (a : Denoted) (x : Fixed) → IsFixed a x
      → FixedRange at x (named_scalar g s.types at (type_in a))
  range_answers at _ _ (fixed_type t) = subst
      (λ (r : Option Range). FixedRange at (ANamedType t) (scalar_type g at t r)) (sym (scalar_is s.types t))
      (exact g j lawful O {N = FixedScalar s.types (ANamedType t)} {C = NoRange at (ANamedType t)} (λ r m. fixed_as m)
      (λ r m. as_fixed_scalar m) (λ f z. (λ r m. z.0 r (as_fixed_scalar m), z.1))
      (λ f z. (λ r m. z.0 r (fixed_as m), z.1))
      (scalar_by g j lawful names exports s at t (shape_at s.types t) refl))
  range_answers at _ _ (fixed_value i) = no_range at (λ r m. elim m [ ])
  range_answers at _ _ fixed_variable = no_range at (λ r m. elim m [ ])
  range_answers at _ _ fixed_procedure = no_range at (λ r m. elim m [ ])
  range_answers at _ _ (fixed_procedure_of p) = no_range at (λ r m. elim m [ ])
  range_answers at _ _ (fixed_module k) = no_range at (λ r m. elim m [ ])

  passed_on : (at : Pos) (d : Result Denoted g.Reported)
      → (d ▷ λ x. named_scalar g s.types at (type_in x)) ≡ type_argument g s.types at (named_type d)
  passed_on at (Ok a) = refl
  passed_on at (Err e) = refl

  bare_type : {t : Expr} → (HasComponents t → ⊥) → IsFixedOf t
      → TypeSo t (type_argument g s.types (meanings_of g t).fixed.at (named_type ((meanings_of g t).fixed.denotes s)))
  bare_type {t = t} n h = subst (λ (at : Pos). TypeSo t
      (type_argument g s.types at (named_type ((meanings_of g t).fixed.denotes s)))) (sym (at_is g t))
      (subst (TypeSo t) (passed_on (first t) ((meanings_of g t).fixed.denotes s))
      (exact g j lawful O {N = NamesRange t} {C = T t} (λ r m. m) (λ r m. m) into (λ f b. out b)
      (then_answer g j lawful O {N = λ x r. FixedScalar s.types x r} {D = λ x f. NoRange (first t) x f} h
      (range_answers (first t)))))
    where
      into : (f : Breach) → B t f ⊎ ((x : Fixed) × F t x × NoRange (first t) x f) → T t f
      into f (inl b) = in_fixed n b
      into f (inr (x, m, (z, e))) = subst (T t) (sym e) (no_scalar n m z)

      out : {f : Breach} → T t f → B t f ⊎ ((x : Fixed) × F t x × NoRange (first t) x f)
      out (in_fixed c b) = inl b
      out (no_scalar {x = x} c m z) = inr (x, m, (z, refl))
      out (in_components c b) = absurd (n c)
      out (no_scalar_component c m z) = absurd (n c)

  named_by : (at : Pos) (a : Designated) → type_named g s.types at a ≡ named_scalar g s.types at (meanings.type_in a)
  named_by at (designated.Type t) = refl
  named_by at (designated.Value x) = refl
  named_by at (designated.Variable t d) = refl
  named_by at (designated.Open t d) = refl
  named_by at (designated.Procedure p) = refl
  named_by at (designated.Nested p) = refl
  named_by at (designated.Standard f) = refl
  named_by at (designated.Module k) = refl

  sorted : (at : Pos) (d : Result Designated g.Reported)
      → (d ▷ type_named g s.types at) ≡ type_argument g s.types at (d ▷ λ x. Ok (meanings.type_in x))
  sorted at (Ok a) = named_by at a
  sorted at (Err e) = refl

  composed_type : {t : Expr} → HasComponents t → Found t
      → TypeSo t (type_argument g s.types (meanings_of g t).fixed.at
      (type_of g (meanings_of g t).fixed.at ((meanings_of g t).means s)))
  composed_type {t = t} c h = subst (TypeSo t)
      (sorted (meanings_of g t).fixed.at (of_sort g (meanings_of g t).fixed.at rule.NoType ((meanings_of g t).means s)))
      (exact g j lawful O {N = NamesRange t} {C = T t} (λ r m. made m) (λ r m. named m) into (λ f b. out b)
      (scalar_answers g j lawful names exports s h))
    where
      made : {r : Range} → NamesIt g j lawful names exports s t r → NamesRange t r
      made (_, m, names_scalar {t = u} n) = (ANamedType u, stands_named c m, fixed_scalar n)

      named : {r : Range} → NamesRange t r → NamesIt g j lawful names exports s t r
      named (_, m, fixed_scalar {t = u} n) = (AType u, named_stands c m, names_scalar n)

      into : (f : Breach) → NameFails g j lawful names exports s t f → T t f
      into f (inl b) = in_components c b
      into f (inr (y, m, (z, e))) = subst (T t) (sym e) (no_scalar_component c m z)

      out : {f : Breach} → T t f → NameFails g j lawful names exports s t f
      out (in_fixed n b) = absurd (n c)
      out (no_scalar n m z) = absurd (n c)
      out (in_components n b) = inl b
      out (no_scalar_component {x = x} n m z) = inr (x, m, (z, refl))

  type_by : {t : Expr} → NamesSo t → IsFixedOf t → Found t
      → TypeSo t (type_argument g s.types (meanings_of g t).fixed.at ((meanings_of g t).fixed.names s))
  type_by {t = t} (bare n e) h q = subst (λ (x : Result (Option TypeNo) g.Reported). TypeSo t
      (type_argument g s.types (meanings_of g t).fixed.at x)) (sym e) (bare_type n h)
  type_by {t = t} (composed c e) h q = subst
      (λ (x : Result (Option TypeNo) g.Reported). TypeSo t (type_argument g s.types (meanings_of g t).fixed.at x))
      (sym e) (composed_type c q)

  type_answers : {t : Expr} → IsFixedOf t → Found t
      → TypeSo t (type_argument g s.types (meanings_of g t).fixed.at ((meanings_of g t).fixed.names s))
  type_answers {t = t} h q = type_by (names_layer (out-Expr t) refl) h q

  -- ---- what a call answers, with what is broken in its arguments

  abbrev C : Standard → List Expr → Kind → Type 0
  C = FixedCalls s.types names exports

  abbrev M : Pos → Fixed → List Expr → Breach → Type 0
  M = FixedMiscalled s.types names exports

  abbrev InArguments : Standard → List Expr → Breach → Type 0
  InArguments p xs f = ((x : Expr) × TakesValue p xs x × V x f) ⊎ ((t : Expr) × TakesType p xs t × T t f)

  abbrev CallFails : Pos → Standard → List Expr → Breach → Type 0
  CallFails at p xs f = M at (AFunction p) xs f ⊎ InArguments p xs f

  abbrev CallsSo : Pos → Standard → List Expr → Result ConstantValue g.Reported → Type 0
  CallsSo at p xs r = Answers g j O IsConst (C p xs) (CallFails at p xs) r

  -- ---- the count of arguments

  calls_count : {p : Standard} {xs : List Expr} {k : Kind} → C p xs k → fixed_arity p ≡ Some (length xs)
  calls_count (rules.fixed_of_one m a) = fixed_one (applies_one a)
  calls_count (rules.fixed_of_type m n b) = fixed_bound (of_bound b)
  calls_count (rules.fixed_converted m n h c) = refl

  count_only : {p : Standard} {xs : List Expr} {n : ℕ} (at : Pos) (f : Breach) → fixed_arity p ≡ Some n
      → (n ≡ length xs → ⊥) → CallFails at p xs f → f ≡ at ! rule.ArgumentCount
  count_only {n = n} at _ e q (inl (rules.fixed_no_function m)) = absurd (m n (fixed_standard e))
  count_only at _ e q (inl (rules.fixed_wrong_count i m)) = refl
  count_only at f e q (inl (rules.fixed_misapplied i m z)) = absurd (q (some_same _ _ (sym e ∙ fixed_one i)))
  count_only at f e q (inl (rules.fixed_misconverted m n h z)) = absurd (q (some_same _ _ (sym e)))
  count_only at f e q (inr (inl (x, t, b))) = absurd (q (some_same _ _ (sym e ∙ value_count t)))
  count_only at f e q (inr (inr (x, t, b))) = absurd (q (some_same _ _ (sym e ∙ type_count t)))

  miscounted : {p : Standard} {xs : List Expr} {n : ℕ} (at : Pos) → fixed_arity p ≡ Some n → (n ≡ length xs → ⊥)
      → CallsSo at p xs (report g at rule.ArgumentCount)
  miscounted at e q = declined g j lawful O at rule.ArgumentCount (λ k c. q (some_same _ _ (sym e ∙ calls_count c)))
      (inl (rules.fixed_wrong_count (fixed_standard e) q)) (λ f m. count_only at f e q m)

  uncalled_only : {p : Standard} {xs : List Expr} (at : Pos) (f : Breach) → fixed_arity p ≡ None → CallFails at p xs f
      → f ≡ at ! rule.NoConstant
  uncalled_only at _ e (inl (rules.fixed_no_function m)) = refl
  uncalled_only at _ e (inl (rules.fixed_wrong_count i m)) = let z = sym e ∙ function_count i in absurd cc
  uncalled_only at f e (inl (rules.fixed_misapplied i m z)) = let z = sym e ∙ fixed_one i in absurd cc
  uncalled_only at f e (inl (rules.fixed_misconverted m n h z)) = absurd cc
  uncalled_only at f e (inr (inl (x, t, b))) = let z = sym e ∙ value_count t in absurd cc
  uncalled_only at f e (inr (inr (x, t, b))) = let z = sym e ∙ type_count t in absurd cc

  uncalled : {p : Standard} {xs : List Expr} (at : Pos) → fixed_arity p ≡ None
      → CallsSo at p xs (report g at rule.NoConstant)
  uncalled at e = declined g j lawful O at rule.NoConstant (λ k c. let z = sym e ∙ calls_count c in absurd cc)
      (inl (rules.fixed_no_function (λ n i. let z = sym e ∙ function_count i in absurd cc)))
      (λ f m. uncalled_only at f e m)

  -- ---- functions of one value

  const_unary : {p : Standard} {u : Unary} (at : Pos) {v : ConstantValue} {a : Kind} → UnaryIs p u → IsConst v a
      → Answers g j O IsConst (Applies p (operand a))
      (Misapplied (MayApply p (operand a)) (Applies p (operand a)) at rule.WrongArgument) (unary_of g p at v)
  const_unary {p = p} at w (is_const v) =
      const_of g j lawful O (unary_of g p at v) (one_answers g j lawful O at w (kind_constant v))

  placed : (p : Standard) (at : Pos) (v : Result ConstantValue g.Reported)
      → (v ▷ unary_of g p at) ≡ unary g p (value_at at v)
  placed p at (Ok v) = refl
  placed p at (Err e) = refl

  abbrev OneOf : Standard → Expr → Kind → Type 0
  OneOf p x l = (k : Kind) × F x (AConstant k) × Applies p (operand k) l

  abbrev OneFails : Standard → Expr → Breach → Type 0
  OneFails p x f = V x f ⊎ ((k : Kind) × F x (AConstant k)
      × Misapplied (MayApply p (operand k)) (Applies p (operand k)) (first x) rule.WrongArgument f)

  one_calls : {p : Standard} {u : Unary} {x : Expr} {l : Kind} → UnaryIs p u → C p (x ∷ []) l → OneOf p x l
  one_calls w (rules.fixed_of_one {a = a} m q) = (a, m, q)
  one_calls w (rules.fixed_of_type m n b) = absurd (not_bound w b)

  one_fails : {p : Standard} {u : Unary} {x : Expr} (at : Pos) (f : Breach) → UnaryIs p u → CallFails at p (x ∷ []) f
      → OneFails p x f
  one_fails at _ w (inl (rules.fixed_no_function m)) = absurd (m 1 (fixed_standard (fixed_one (unary_one w))))
  one_fails at _ w (inl (rules.fixed_wrong_count i m)) =
      absurd (m (some_same _ _ (sym (function_count i) ∙ fixed_one (unary_one w))))
  one_fails at f w (inl (rules.fixed_misapplied {k = k} i m z)) = inr (k, m, z)
  one_fails at f w (inr (inl (_, functions.of_one i, b))) = inl b
  one_fails at f w (inr (inr (t, k, b))) = absurd (no_type_of_one w k)

  fails_one : {p : Standard} {u : Unary} {x : Expr} (at : Pos) (f : Breach) → UnaryIs p u → OneFails p x f
      → CallFails at p (x ∷ []) f
  fails_one {x = x} at f w (inl b) = inr (inl (x, functions.of_one (unary_one w), b))
  fails_one at f w (inr (k, m, z)) = inl (rules.fixed_misapplied (unary_one w) m z)

  one_called : {p : Standard} {u : Unary} {x : Expr} (at : Pos) → UnaryIs p u → IsFixedOf x
      → CallsSo at p (x ∷ []) (unary g p (value_at (meanings_of g x).fixed.at (constant g s (meanings_of g x).fixed)))
  one_called {p = p} {x = x} at w h = subst
      (λ (q : Pos). CallsSo at p (x ∷ []) (unary g p (value_at q (constant g s (meanings_of g x).fixed))))
      (sym (at_is g x))
      (subst (CallsSo at p (x ∷ [])) (placed p (first x) (constant g s (meanings_of g x).fixed))
      (exact g j lawful O {M = OneOf p x} {B = OneFails p x} (λ l m. rules.fixed_of_one m.1 m.2) (λ l m. one_calls w m)
      (λ f b. fails_one at f w b) (λ f b. one_fails at f w b)
      (then_answer g j lawful O {N = λ k l. Applies p (operand k) l}
      {D = λ k f. Misapplied (MayApply p (operand k)) (Applies p (operand k)) (first x) rule.WrongArgument f}
      (const_valued g j lawful names exports s knows h) (λ v k q. const_unary (first x) w q))))

  -- ---- MAX and MIN

  bound_is : (p : Standard) (v : Result (TypeNo × Range) g.Reported) → (v ▷ λ q. Ok (bound_by p q.0 q.1)) ≡ bound p v
  bound_is p (Ok v) = refl
  bound_is p (Err e) = refl

  abbrev BoundIs : Standard → Range → Kind → Type 0
  BoundIs = BoundedBy g j lawful names exports s

  abbrev BoundOfType : Standard → Expr → Kind → Type 0
  BoundOfType p t l = (r : Range) × NamesRange t r × BoundIs p r l

  bound_calls : {p : Standard} {t : Expr} {l : Kind} → IsBound p → C p (t ∷ []) l → BoundOfType p t l
  bound_calls w (rules.fixed_of_one m a) = absurd (bound_not_one w (applies_one a))
  bound_calls w (rules.fixed_of_type {x = x} {r = r} {n = n} m z b) = (r, (x, m, z), (n, b, refl))

  calls_bound : {p : Standard} {t : Expr} (l : Kind) → BoundOfType p t l → C p (t ∷ []) l
  calls_bound {p = p} {t = t} l (r, (x, m, z), (n, b, e)) = subst (C p (t ∷ [])) (sym e) (rules.fixed_of_type m z b)

  type_of_bound : {p : Standard} {t : Expr} → IsBound p → TakesType p (t ∷ []) t
  type_of_bound bound_max = functions.of_max
  type_of_bound bound_min = functions.of_min

  bound_fails : {p : Standard} {t : Expr} (at : Pos) (f : Breach) → IsBound p → CallFails at p (t ∷ []) f → T t f
  bound_fails at _ w (inl (rules.fixed_no_function m)) = absurd (m 1 (fixed_standard (fixed_bound w)))
  bound_fails at _ w (inl (rules.fixed_wrong_count i m)) =
      absurd (m (some_same _ _ (sym (function_count i) ∙ fixed_bound w)))
  bound_fails at f w (inl (rules.fixed_misapplied i m z)) = absurd (bound_not_one w i)
  bound_fails at f w (inr (inl (x, v, b))) = absurd (no_value_of_bound w v)
  bound_fails at f w (inr (inr (_, functions.of_max, b))) = b
  bound_fails at f w (inr (inr (_, functions.of_min, b))) = b

  bound_called : {p : Standard} {t : Expr} (at : Pos) → IsBound p → IsFixedOf t → Found t
      → CallsSo at p (t ∷ []) (bound p (type_argument g s.types (meanings_of g t).fixed.at
      ((meanings_of g t).fixed.names s)))
  bound_called {p = p} {t = t} at w h q =
      subst (CallsSo at p (t ∷ [])) (bound_is p
      (type_argument g s.types (meanings_of g t).fixed.at ((meanings_of g t).fixed.names s)))
      (exact g j lawful O {M = BoundOfType p t} {B = λ f. T t f ⊎ ((r : Range) × NamesRange t r × ⊥)} calls_bound
      (λ l m. bound_calls w m)
      (λ f b. elim b [ inl c ↦ inr (inr (t, type_of_bound w, c)) | inr c ↦ absurd c.2 ])
      (λ f b. inl (bound_fails at f w b))
      (then_answer g j lawful O {N = BoundIs p} {D = λ r f. ⊥} (type_answers h q)
      (λ v r e. const_of g j lawful O (Ok (bound_by p v.0 v.1)) (bounded_by g j lawful names exports s v r w e))))

  -- ---- VAL

  const_converted : (at : Pos) (t : TypeNo) (r : Range) {v : ConstantValue} {a : Kind} → IsConst v a
      → Answers g j O IsConst (Converts r (operand a))
      (Misapplied (MayConvert (operand a)) (Converts r (operand a)) at rule.WrongArgument) (conversion_of g t r at v)
  const_converted at t r (is_const v) = const_of g j lawful O (conversion_of g t r at v)
      (converted_answers g j lawful O at t r (kind_constant v))

  abbrev ConvertFails : Expr → Range × Kind → Breach → Type 0
  ConvertFails x p f = Misapplied (MayConvert (operand p.1)) (Converts p.0 (operand p.1)) (first x) rule.WrongArgument f

  abbrev ValOf : Expr → Expr → Kind → Type 0
  ValOf t x l = (p : Range × Kind) × (NamesRange t p.0 × F x (AConstant p.1)) × Converts p.0 (operand p.1) l

  abbrev ValFails : Expr → Expr → Breach → Type 0
  ValFails t x f = (T t f ⊎ V x f) ⊎ ((p : Range × Kind) × (NamesRange t p.0 × F x (AConstant p.1))
      × ConvertFails x p f)

  val_calls : {t x : Expr} {l : Kind} → C Val (t ∷ x ∷ []) l → ValOf t x l
  val_calls (rules.fixed_converted {x = y} {r = r} {a = a} m n h c) = ((r, a), ((y, m, n), h), c)

  calls_val : {t x : Expr} (l : Kind) → ValOf t x l → C Val (t ∷ x ∷ []) l
  calls_val l (p, ((y, m, n), h), c) = rules.fixed_converted m n h c

  val_fails : {t x : Expr} (at : Pos) (f : Breach) → CallFails at Val (t ∷ x ∷ []) f → ValFails t x f
  val_fails at _ (inl (rules.fixed_no_function m)) = absurd (m 2 (fixed_standard refl))
  val_fails at _ (inl (rules.fixed_wrong_count i m)) = absurd (m (some_same _ _ (sym (function_count i))))
  val_fails at f (inl (rules.fixed_misconverted {x = y} {r = r} {k = k} m n h z)) = inr ((r, k), ((y, m, n), h), z)
  val_fails at f (inr (inl (_, functions.to_convert, b))) = inl (inr b)
  val_fails at f (inr (inr (_, functions.of_conversion, b))) = inl (inl b)

  fails_val : {t x : Expr} (at : Pos) (f : Breach) → ValFails t x f → CallFails at Val (t ∷ x ∷ []) f
  fails_val {t = t} at f (inl (inl b)) = inr (inr (t, functions.of_conversion, b))
  fails_val {x = x} at f (inl (inr b)) = inr (inl (x, functions.to_convert, b))
  fails_val at f (inr (p, ((y, m, n), h), z)) = inl (rules.fixed_misconverted m n h z)

  val_called : {t x : Expr} (at : Pos) → IsFixedOf t → Found t → IsFixedOf x
      → CallsSo at Val (t ∷ x ∷ []) (conversion_call g
      (type_argument g s.types (meanings_of g t).fixed.at ((meanings_of g t).fixed.names s)) (meanings_of g x).fixed.at
      (constant g s (meanings_of g x).fixed))
  val_called {t = t} {x = x} at h q p = subst
      (λ (o : Pos). CallsSo at Val (t ∷ x ∷ [])
      (conversion_call g (type_argument g s.types (meanings_of g t).fixed.at ((meanings_of g t).fixed.names s)) o
      (constant g s (meanings_of g x).fixed))) (sym (at_is g x))
      (exact g j lawful O {M = ValOf t x} {B = ValFails t x} calls_val (λ l m. val_calls m) (fails_val at)
      (val_fails at)
      (then_answer g j lawful O {N = λ p l. Converts p.0 (operand p.1) l} {D = ConvertFails x}
      (both_answer g j lawful O (type_answers h q) (const_valued g j lawful names exports s knows p))
      (λ v p w. subst (λ (r : Range). Answers g j O IsConst (Converts r (operand p.1)) (ConvertFails x (r, p.1))
      (conversion_of g v.0.0 v.0.1 (first x) v.1)) w.0 (const_converted (first x) v.0.0 v.0.1 w.1))))

  -- ---- all standard procedures, by the number of arguments

  abbrev parts : List Expr → List (Part g.Reported)
  parts xs = map (λ (m : Meant g.Reported). m.fixed) (map (meanings_of g) xs)

  abbrev AllFixed : List Expr → Type 0
  AllFixed xs = (y : Expr) → Among y xs → IsFixedOf y

  abbrev AllFound : List Expr → Type 0
  AllFound xs = (y : Expr) → Among y xs → Found y

  unary_calls : {p : Standard} {u : Unary} (at : Pos) (xs : List Expr) → UnaryIs p u → AllFixed xs
      → CallsSo at p xs (unary g p (one g s at (parts xs)))
  unary_calls at [] w h = miscounted at (fixed_one (unary_one w)) (λ e. absurd cc)
  unary_calls at (x ∷ []) w h = one_called at w (h x here)
  unary_calls at (x ∷ y ∷ xs) w h = miscounted at (fixed_one (unary_one w)) (λ e. omega (arith, e))

  bounds_call : {p : Standard} (at : Pos) (xs : List Expr) → IsBound p → AllFixed xs → AllFound xs
      → CallsSo at p xs (bound p (type_only g s at (parts xs)))
  bounds_call at [] w h q = miscounted at (fixed_bound w) (λ e. absurd cc)
  bounds_call at (x ∷ []) w h q = bound_called at w (h x here) (q x here)
  bounds_call at (x ∷ y ∷ xs) w h q = miscounted at (fixed_bound w) (λ e. omega (arith, e))

  conversions_call : (at : Pos) (xs : List Expr) → AllFixed xs → AllFound xs
      → CallsSo at Val xs (conversion g s at (parts xs))
  conversions_call at [] h q = miscounted {p = Val} at refl (λ e. absurd cc)
  conversions_call at (t ∷ []) h q = miscounted {p = Val} at refl (λ e. omega (arith, e))
  conversions_call at (t ∷ x ∷ []) h q = val_called at (h t here) (q t here) (h x (later here))
  conversions_call at (t ∷ x ∷ y ∷ xs) h q = miscounted {p = Val} at refl (λ e. omega (arith, e))

  standard_calls : (p : Standard) (at : Pos) (xs : List Expr) → AllFixed xs → AllFound xs
      → CallsSo at p xs (standard_call_value g s at (denoted.Standard p) (parts xs))
  standard_calls Abs at xs h q = unary_calls at xs is_abs h
  standard_calls Cap at xs h q = unary_calls at xs is_cap h
  standard_calls Chr at xs h q = unary_calls at xs is_chr h
  standard_calls High at xs h q = uncalled at refl
  standard_calls Max at xs h q = bounds_call at xs bound_max h q
  standard_calls Min at xs h q = bounds_call at xs bound_min h q
  standard_calls Odd at xs h q = unary_calls at xs is_odd h
  standard_calls Ord at xs h q = unary_calls at xs is_ord h
  standard_calls Val at xs h q = conversions_call at xs h q
  standard_calls Inc at xs h q = uncalled at refl
  standard_calls Dec at xs h q = uncalled at refl
  standard_calls Incl at xs h q = uncalled at refl
  standard_calls Excl at xs h q = uncalled at refl
  standard_calls Halt at xs h q = uncalled at refl
  standard_calls Put at xs h q = uncalled at refl

  -- ---- whatever is called

  abbrev Gives : List Expr → Fixed → Kind → Type 0
  Gives xs (AFunction p) k = C p xs k
  Gives xs other k = ⊥

  abbrev CalledFails : Pos → List Expr → Fixed → Breach → Type 0
  CalledFails at xs (AFunction p) f = CallFails at p xs f
  CalledFails at xs other f = f ≡ at ! rule.NoConstant

  abbrev CalledSo : Pos → List Expr → Fixed → Result ConstantValue g.Reported → Type 0
  CalledSo at xs x r = Answers g j O IsConst (Gives xs x) (CalledFails at xs x) r

  called_so : (at : Pos) (xs : List Expr) → AllFixed xs → AllFound xs → (a : Denoted) (x : Fixed) → IsFixed a x
      → CalledSo at xs x (standard_call_value g s at a (parts xs))
  called_so at xs h q _ _ (fixed_procedure_of p) = standard_calls p at xs h q
  called_so at xs h q _ _ (fixed_type t) = declined g j lawful O at rule.NoConstant (λ k c. c) refl (λ f e. e)
  called_so at xs h q _ _ (fixed_value v) = declined g j lawful O at rule.NoConstant (λ k c. c) refl (λ f e. e)
  called_so at xs h q _ _ fixed_variable = declined g j lawful O at rule.NoConstant (λ k c. c) refl (λ f e. e)
  called_so at xs h q _ _ fixed_procedure = declined g j lawful O at rule.NoConstant (λ k c. c) refl (λ f e. e)
  called_so at xs h q _ _ (fixed_module k) = declined g j lawful O at rule.NoConstant (λ k c. c) refl (λ f e. e)

  abbrev R : Designator → List Expr → Fixed → Type 0
  R d xs x = FixedReads s.types names exports (layer.Use d (Some xs)) x

  abbrev D : Designator → Fixed → Type 0
  D = DesignatesFixed g j lawful names exports s knows

  abbrev DF : Designator → Breach → Type 0
  DF = DesignatorFails g j lawful names exports s knows

  abbrev CallOf : Designator → List Expr → Kind → Type 0
  CallOf d xs k = (x : Fixed) × D d x × Gives xs x k

  abbrev CallBreaks : Designator → List Expr → Breach → Type 0
  CallBreaks d xs f = DF d f ⊎ ((x : Fixed) × D d x × CalledFails (out-Designator d).name.pos xs x f)

  denotes_by : {d : Designator} {x : Fixed} → D d x → FixedDenotes names exports d x
  denotes_by (x, a, m) = rules.fixed_named a m

  by_denotes : {d : Designator} {x : Fixed} → FixedDenotes names exports d x → D d x
  by_denotes (rules.fixed_named {x = x} a m) = (x, a, m)

  reads_by : {d : Designator} {xs : List Expr} (k : Kind) (x : Fixed) → D d x → Gives xs x k → R d xs (AConstant k)
  reads_by k (AFunction p) m c = rules.fixed_called (denotes_by m) c
  reads_by k (AConstant l) m c = absurd c
  reads_by k (AScope n) m c = absurd c
  reads_by k (ANamedType t) m c = absurd c
  reads_by k NoConstant m c = absurd c

  by_reads : {d : Designator} {xs : List Expr} (x : Fixed) → R d xs x → (k : Kind) × CallOf d xs k × (x ≡ AConstant k)
  by_reads _ (rules.fixed_called {f = p} {k = k} m c) = (k, (AFunction p, by_denotes m, c), refl)

  -- what is no standard function takes no number of arguments
  abbrev IsNone : Fixed → Type 0
  IsNone (AFunction p) = ⊥
  IsNone other = Unit {0}

  no_count : {x : Fixed} {n : ℕ} → IsNone x → IsFixedFunctionOf x n → ⊥
  no_count z (fixed_standard e) = z

  none_called : {d : Designator} {xs : List Expr} {x : Fixed} (f : Breach) → IsNone x → D d x
      → f ≡ (out-Designator d).name.pos ! rule.NoConstant
      → FixedAll g j lawful names exports s knows (layer.Use d (Some xs)) f
  none_called {d = d} {xs = xs} f z m e =
      inl (inl (subst (FixedFails s.types names exports (layer.Use d (Some xs))) (sym e)
      (rules.fixed_at_call (denotes_by m) (rules.fixed_no_function (λ n i. no_count z i)))))

  breaks_by : {d : Designator} {xs : List Expr} (f : Breach) (x : Fixed) → D d x
      → CalledFails (out-Designator d).name.pos xs x f
      → FixedAll g j lawful names exports s knows (layer.Use d (Some xs)) f
  breaks_by f (AFunction p) m (inl z) = inl (inl (rules.fixed_at_call (denotes_by m) z))
  breaks_by f (AFunction p) m (inr (inl (x, t, b))) =
      inl (part_broken g j lawful names exports s knows (rules.an_argument (denotes_by m) t) b)
  breaks_by f (AFunction p) m (inr (inr (x, t, b))) = inr (x, rules.a_type (denotes_by m) t, b)
  breaks_by f (AConstant l) m e = none_called f tt m e
  breaks_by f (AScope n) m e = none_called f tt m e
  breaks_by f (ANamedType t) m e = none_called f tt m e
  breaks_by f NoConstant m e = none_called f tt m e

  only_none : {at : Pos} {xs : List Expr} {x : Fixed} {f : Breach} → IsNone x → M at x xs f → f ≡ at ! rule.NoConstant
  only_none z (rules.fixed_no_function m) = refl
  only_none z (rules.fixed_wrong_count i m) = absurd (no_count z i)
  only_none z (rules.fixed_misapplied i m q) = absurd z
  only_none z (rules.fixed_misconverted m n h q) = absurd z

  miscalled : {at : Pos} {xs : List Expr} {f : Breach} (x : Fixed) → M at x xs f → CalledFails at xs x f
  miscalled (AFunction p) z = inl z
  miscalled (AConstant l) z = only_none tt z
  miscalled (AScope n) z = only_none tt z
  miscalled (ANamedType t) z = only_none tt z
  miscalled NoConstant z = only_none tt z

  by_breaks : {d : Designator} {xs : List Expr} (f : Breach)
      → FixedAll g j lawful names exports s knows (layer.Use d (Some xs)) f → CallBreaks d xs f
  by_breaks f (inl (inl (rules.fixed_at_name m))) = inl (inl m)
  by_breaks f (inl (inl (rules.fixed_at_selector {x = x} m z))) = inl (inr (x, m, z))
  by_breaks f (inl (inl (rules.fixed_at_call {x = x} m z))) = inr (x, by_denotes m, miscalled x z)
  by_breaks _ (inl (inl (no_constant {e = x} (rules.an_argument {f = p} m t) y z))) =
      inr (AFunction p, by_denotes m, inr (inl (x, t, inr (_, y, (z, refl)))))
  by_breaks _ (inl (inl (no_constant (rules.an_inner i) y z))) = elim i [ ]
  by_breaks f (inl (inr (x, rules.an_argument {f = p} m t, b))) =
      inr (AFunction p, by_denotes m, inr (inl (x, t, inl b)))
  by_breaks f (inl (inr (x, rules.an_inner i, b))) = elim i [ ]
  by_breaks f (inr (t, rules.a_type {f = p} m k, b)) = inr (AFunction p, by_denotes m, inr (inr (t, k, b)))

  breaks_in : {d : Designator} {xs : List Expr} (f : Breach) → CallBreaks d xs f
      → FixedAll g j lawful names exports s knows (layer.Use d (Some xs)) f
  breaks_in f (inl (inl m)) = inl (inl (rules.fixed_at_name m))
  breaks_in f (inl (inr (x, m, z))) = inl (inl (rules.fixed_at_selector m z))
  breaks_in f (inr (x, m, z)) = breaks_by f x m z

  pub call_fixed : {e : Expr} (d : Designator) (xs : List Expr) → out-Expr e ≡ layer.Use d (Some xs) → AllFixed xs
      → AllFound xs → IsFixedOf e
  call_fixed d xs h k q = called_layer g j lawful names exports s knows (layer.Use d (Some xs))
      (call_value g s (head g d).fixed.at ((head g d).fixed.denotes s) (parts xs)) h refl
      (λ k m. reads_by k m.0 m.1 m.2) by_reads breaks_in by_breaks
      (subst (λ (at : Pos). Answers g j O IsConst (CallOf d xs) (CallBreaks d xs)
      (call_value g s at ((head g d).fixed.denotes s) (parts xs))) (sym (head_at g d))
      (then_answer g j lawful O {N = Gives xs} {D = CalledFails (out-Designator d).name.pos xs}
      (designator_fixes g j lawful names exports s knows d) (called_so (out-Designator d).name.pos xs k q)))
