-- What suits a place, what is taken as a value, and what formals take: all answered exactly.
use Rattle.std.proofs.Common.{◌≡◌, ℕ, ℤ, Bool, not, Option, Some, None, Result, Ok, ◌⊎◌, inl, inr, refl, sym, ap, subst, ◌∙◌}
use Rattle.std.specs.Prelude.{◌||◌}
use Rattle.m2_rule.specs.declared.rule.Rule.{Rule}
use Rattle.m2_rule.specs.declared.rule.Rule.TheVariants as rule
use Rattle.m2_tree.specs.declared.pos.Pos.{Pos}
use Rattle.typed_tree.specs.declared.types.TypeNo.{TypeNo}
use Rattle.typed_tree.specs.declared.computed.Place.{Place}
use Rattle.typed_tree.specs.declared.computed.TypedExpr.{TypedExpr}
use Rattle.typed_tree.specs.declared.shape.Scalar.{Scalar as Range}
use Rattle.typed_tree.specs.declared.shape.Shape.{Shape}
use Rattle.typed_tree.specs.declared.shape.Shape.TheVariants as shape
use Rattle.typed_tree.specs.declared.shape.Signature.{Signature}
use Rattle.typed_tree.specs.declared.known_types.Types.{Types}
use Rattle.typed_tree.specs.Types.{are_same}
use Rattle.m2_rule.specs.declared.breach.Breach.{Breach}
use Rattle.check_scope.specs.declared.meaningless.Meaningless.{Meaningless}
use Rattle.check_scope.specs.Elaborated.{Gathers, report, reported_where}
use Rattle.check_const.specs.Numbers.{is_between}
use Rattle.check_value.specs.declared.class.Class.{Class}
use Rattle.check_value.specs.declared.computed.Computed.{Computed}
use Rattle.check_value.specs.declared.computed.Computed.TheVariants as computed
use Rattle.check_value.specs.declared.computed.Designated.{Designated}
use Rattle.check_value.specs.declared.side.Amount.TheVariants.{Known, Run}
use Rattle.check_value.specs.declared.side.Side.{Side}
use Rattle.check_value.specs.Classes.{class_at}
use Rattle.check_value.specs.Agreement.{headings_agree}
use Rattle.check_value.specs.Sides.{side_of}
use Rattle.check_value.specs.Suits.{bases_suit, sort_suits, value_in, value_suited}
use Rattle.check_value.specs.Values.{given_as, function_result as elaborated_given, loaded_as, value_at_place}
use Rattle.check_expr.specs.Meanings.{value_standing}
use Rattle.def_typing.specs.Shapes.{shape_at, IsMade, Agree, agree}
use Rattle.def_typing.specs.Amounts.{Amount, Constant, sort_of, IsWhole, Within}
use Rattle.def_typing.specs.Operators.{◌!◌, Kind, Scalar, Set, Routine, Procedure, Untaken, operand}
use Rattle.def_typing.specs.Things.{Thing, AValue, AVariable, AnOpenArray, AType, AProcedure, ANested, AStandard, AModule, Headless, content_of, content, Taken, Mistaken, SuitsBase, same_base, both_whole, a_number, Compatible, OutOfType, out_of_type, IsAssignable, Misassigned, incompatible, out_of_range}
use Rattle.def_typing.specs.Things as things
use Rattle.def_typing.specs.Functions.{result_of, result_kind}
use Rattle.law_typing.specs.Judging.{Judges, Answers, means}
use Rattle.law_typing.specs.Exact.{IsKind, kind_scalar, kind_set, kind_routine, kind_procedure, kind_whole, kind_untaken, IsThing, thing_value, thing_variable, thing_open, thing_type, thing_procedure, thing_nested, thing_standard, thing_module}
use Rattle.law_typing.proofs.Combining.{Lawful, Decided, holds, fails_it, decided_as, declined, Checks, passes, stopped, Finds, value_answers as found_value}
use Rattle.law_typing.proofs.Deciding.{same_decided, whole_decided, within_decided, both_decided}
use Rattle.law_typing.proofs.Joining.{IsSide, side_scalar, side_set, side_routine, side_procedure, side_text, side_whole, side_untaken, side_is}
use Rattle.law_typing.proofs.Shaping.{class_of, class_is, one_made, agree_decided}

pub either_decided : {P Q : Type 0} {b c : Bool} → Decided P b → Decided Q c → Decided (P ⊎ Q) (b || c)
either_decided (holds p) d = holds (inl p)
either_decided (fails_it n) (holds q) = holds (inr q)
either_decided (fails_it n) (fails_it m) = fails_it (λ x. elim x [ inl p ↦ n p | inr q ↦ m q ])

-- ---- bases

base_of : {t u : TypeNo} → SuitsBase t (Some u) → (t ≡ u) ⊎ (IsWhole t × IsWhole u)
base_of same_base = inl refl
base_of (both_whole p q) = inr (p, q)

of_base : {t u : TypeNo} → (t ≡ u) ⊎ (IsWhole t × IsWhole u) → SuitsBase t (Some u)
of_base {t = t} (inl e) = subst (λ (u : TypeNo). SuitsBase t (Some u)) e same_base
of_base (inr (p, q)) = both_whole p q

pub whole_base : {t : TypeNo} → SuitsBase t None → IsWhole t
whole_base (a_number w) = w

pub bases_decided : (t u : TypeNo) → Decided (SuitsBase t (Some u)) (bases_suit t u)
bases_decided t u = decided_as of_base base_of
    (either_decided (same_decided t u) (both_decided (whole_decided t) (whole_decided u)))

pub base_decided : (t : TypeNo) (sort : Option TypeNo) → Decided (SuitsBase t sort) (sort_suits t sort)
base_decided t None = decided_as a_number whole_base (whole_decided t)
base_decided t (Some u) = bases_decided t u

-- ---- values and places

pub some_made : (types : Types) (t : TypeNo) {s : Shape} → shape_at types t ≡ None → IsMade types t s → ⊥
some_made types t e m = let x = sym e ∙ m in absurd cc

-- what goes to a type that is made so
pub data Goes (types : Types) (t : TypeNo) : Shape → Kind → Type 0 where
  goes_scalar : {r : Range} {a : Amount} → SuitsBase r.base (sort_of a) → Goes types t (shape.Scalar r) (Scalar a)
  goes_set : {m : Option ℕ} → Goes types t shape.Set (Set m)
  goes_routine : {h : Signature} → Goes types t (shape.Procedure h) (Routine t)
  goes_procedure : {s : Signature} {h : TypeNo} → Agree types t h → Goes types t (shape.Procedure s) (Procedure h)

abbrev range_in : Range → Shape → Range
range_in r (shape.Scalar q) = q
range_in r other = r

module _ (types : Types) (t : TypeNo) where
  pub goes_made : {c : Kind} {s : Shape} → Compatible types t c → IsMade types t s → Goes types t s c
  goes_made {c = c} (things.scalar m b) e =
      subst (λ (s : Shape). Goes types t s c) (one_made types t m e) (goes_scalar b)
  goes_made {c = c} (things.set m) e = subst (λ (s : Shape). Goes types t s c) (one_made types t m e) goes_set
  goes_made {c = c} (things.routine m) e = subst (λ (s : Shape). Goes types t s c) (one_made types t m e) goes_routine
  goes_made {c = c} (things.procedure (agree m n)) e =
      subst (λ (s : Shape). Goes types t s c) (one_made types t m e) (goes_procedure (agree m n))

  pub unmade_none : {c : Kind} → shape_at types t ≡ None → Compatible types t c → ⊥
  unmade_none e (things.scalar m b) = some_made types t e m
  unmade_none e (things.set m) = some_made types t e m
  unmade_none e (things.routine m) = some_made types t e m
  unmade_none e (things.procedure (agree m n)) = some_made types t e m

  in_type_by : {r : Range} {sort : Option TypeNo} {n : ℤ} → IsMade types t (shape.Scalar r)
      → OutOfType types t (Scalar (Constant sort n)) → Within r.low n r.high → ⊥
  in_type_by {r = r} {n = n} m (out_of_type {r = q} e o) w =
      o (subst (λ (x : Range). Within x.low n x.high) (ap (range_in r) (one_made types t m e)) w)

  -- ---- the answers

  module _ (g : Gathers) (j : Judges g) (lawful : Lawful g j) (O : Breach → Type 0) (broken : Rule) (at : Pos) where
    abbrev pub Suited : Kind → Result TypedExpr g.Reported → Type 0
    Suited c r = Checks g j lawful O (IsAssignable types t c) (Misassigned types t at broken c) r

    suits_not : {c : Kind} → (Compatible types t c → ⊥) → Suited c (report g at broken)
    suits_not {c = c} n = stopped g j lawful O at broken (λ a. n a.compatible) (incompatible n) (λ f m. one m)
      where
        one : {f : Breach} → Misassigned types t at broken c f → f ≡ at ! broken
        one (incompatible m) = refl
        one (out_of_range m o) = absurd (n m)

    suits_well : {c : Kind} (e : TypedExpr) → Compatible types t c → (OutOfType types t c → ⊥) → Suited c (Ok e)
    suits_well {c = c} e m n = passes e (record { compatible = m; in_type = n }) (λ f x. none x)
      where
        none : {f : Breach} → Misassigned types t at broken c f → ⊥
        none (incompatible i) = i m
        none (out_of_range i o) = n o

    suits_beyond : {c : Kind} → Compatible types t c → OutOfType types t c → Suited c (report g at rule.OutOfRange)
    suits_beyond {c = c} m o = stopped g j lawful O at rule.OutOfRange (λ a. a.in_type o) (out_of_range m o)
        (λ f x. one x)
      where
        one : {f : Breach} → Misassigned types t at broken c f → f ≡ at ! rule.OutOfRange
        one (incompatible i) = absurd (i m)
        one (out_of_range i q) = refl

    where_suited : {P : Type 0} {c : Kind} {r : Result TypedExpr g.Reported} (b : Bool) → Decided P b
        → (Compatible types t c → P) → (P → Suited c r) → Suited c (reported_where g (not b) at broken r)
    where_suited _ (holds p) f h = h p
    where_suited _ (fails_it n) f h = suits_not (λ m. n (f m))

    where_in_type : {r : Range} {sort : Option TypeNo} {n : ℤ} (e : TypedExpr) (b : Bool)
        → IsMade types t (shape.Scalar r) → Compatible types t (Scalar (Constant sort n))
        → Decided (Within r.low n r.high) b
        → Suited (Scalar (Constant sort n)) (reported_where g (not b) at rule.OutOfRange (Ok e))
    where_in_type e _ m c (holds w) = suits_well e c (λ o. in_type_by m o w)
    where_in_type e _ m c (fails_it n) = suits_beyond c (out_of_type m n)

    scalar_goes : {r : Range} {a : Amount} → IsMade types t (shape.Scalar r) → Compatible types t (Scalar a)
        → SuitsBase r.base (sort_of a)
    scalar_goes {r = r} {a = a} m c = based (goes_made c m)
      where
        based : Goes types t (shape.Scalar r) (Scalar a) → SuitsBase r.base (sort_of a)
        based (goes_scalar b) = b

    routine_goes : {h : Signature} {u : TypeNo} → IsMade types t (shape.Procedure h) → Compatible types t (Routine u)
        → u ≡ t
    routine_goes {h = h} {u = u} m c = same (goes_made c m)
      where
        same : {v : TypeNo} → Goes types t (shape.Procedure h) (Routine v) → v ≡ t
        same goes_routine = refl

    procedure_goes : {h : Signature} {u : TypeNo} → IsMade types t (shape.Procedure h)
        → Compatible types t (Procedure u) → Agree types t u
    procedure_goes {h = h} m c = agreeing (goes_made c m)
      where
        agreeing : {v : TypeNo} → Goes types t (shape.Procedure h) (Procedure v) → Agree types t v
        agreeing (goes_procedure a) = a

    suited_by : {p : Option Side} {c : Kind} (s : Option Shape) → shape_at types t ≡ s → IsSide p c
        → Suited c (value_in g broken types t at p (class_of s))
    suited_by None e x = suits_not (λ m. unmade_none e m)
    suited_by (Some (shape.Array i u)) e x = suits_not (λ m. elim (goes_made m e) [ ])
    suited_by (Some (shape.Record fs)) e x = suits_not (λ m. elim (goes_made m e) [ ])
    suited_by (Some (shape.Open u)) e x = suits_not (λ m. elim (goes_made m e) [ ])
    suited_by (Some (shape.Scalar r)) e (side_scalar (Known a)) =
        where_suited (sort_suits r.base a.sort) (base_decided r.base a.sort) (scalar_goes e)
        (λ b. where_in_type _ (is_between r.low a.number r.high) e (things.scalar e b)
        (within_decided r.low a.number r.high))
    suited_by (Some (shape.Scalar r)) e (side_scalar (Run b d)) =
        where_suited (bases_suit r.base b) (bases_decided r.base b) (scalar_goes e)
        (λ w. suits_well d (things.scalar e w) (λ o. elim o [ ]))
    suited_by (Some (shape.Scalar r)) e (side_set m d) = suits_not (λ m. elim (goes_made m e) [ ])
    suited_by (Some (shape.Scalar r)) e (side_routine u d) = suits_not (λ m. elim (goes_made m e) [ ])
    suited_by (Some (shape.Scalar r)) e (side_procedure q) = suits_not (λ m. elim (goes_made m e) [ ])
    suited_by (Some (shape.Scalar r)) e (side_text text) = suits_not (λ m. elim (goes_made m e) [ ])
    suited_by (Some (shape.Scalar r)) e (side_whole u) = suits_not (λ m. elim (goes_made m e) [ ])
    suited_by (Some (shape.Scalar r)) e side_untaken = suits_not (λ m. elim (goes_made m e) [ ])
    suited_by (Some shape.Set) e (side_set m d) = suits_well d (things.set e) (λ o. elim o [ ])
    suited_by (Some shape.Set) e (side_scalar q) = suits_not (λ m. elim (goes_made m e) [ ])
    suited_by (Some shape.Set) e (side_routine u d) = suits_not (λ m. elim (goes_made m e) [ ])
    suited_by (Some shape.Set) e (side_procedure q) = suits_not (λ m. elim (goes_made m e) [ ])
    suited_by (Some shape.Set) e (side_text text) = suits_not (λ m. elim (goes_made m e) [ ])
    suited_by (Some shape.Set) e (side_whole u) = suits_not (λ m. elim (goes_made m e) [ ])
    suited_by (Some shape.Set) e side_untaken = suits_not (λ m. elim (goes_made m e) [ ])
    suited_by (Some (shape.Procedure h)) e (side_routine u d) =
        where_suited (are_same u t) (same_decided u t) (routine_goes e)
        (λ q. suits_well d (subst (λ (u : TypeNo). Compatible types t (Routine u)) (sym q) (things.routine e))
        (λ o. elim o [ ]))
    suited_by (Some (shape.Procedure h)) e (side_procedure q) =
        where_suited (headings_agree types t q.heading) (agree_decided types t q.heading) (procedure_goes e)
        (λ a. suits_well _ (things.procedure a) (λ o. elim o [ ]))
    suited_by (Some (shape.Procedure h)) e (side_scalar q) = suits_not (λ m. elim (goes_made m e) [ ])
    suited_by (Some (shape.Procedure h)) e (side_set m d) = suits_not (λ m. elim (goes_made m e) [ ])
    suited_by (Some (shape.Procedure h)) e (side_text text) = suits_not (λ m. elim (goes_made m e) [ ])
    suited_by (Some (shape.Procedure h)) e (side_whole u) = suits_not (λ m. elim (goes_made m e) [ ])
    suited_by (Some (shape.Procedure h)) e side_untaken = suits_not (λ m. elim (goes_made m e) [ ])

    -- a value at a place of this type
    pub value_suits : {x : Computed} {c : Kind} → IsKind x c → Suited (operand c) (value_suited g broken types t at x)
    value_suits {x = x} {c = c} i = subst (λ (s : Class). Suited (operand c)
        (value_in g broken types t at (side_of x) s)) (sym (class_is types t))
        (suited_by (shape_at types t) refl (side_is i))

-- ---- what is taken as a value

loaded_by : (t : TypeNo) (d : Place) (s : Option Shape) → IsKind (loaded_as t d (class_of s)) (content_of t s)
loaded_by t d None = kind_whole t d
loaded_by t d (Some (shape.Scalar r)) = kind_scalar t r.base _
loaded_by t d (Some shape.Set) = kind_set _
loaded_by t d (Some (shape.Array i e)) = kind_whole t d
loaded_by t d (Some (shape.Record fs)) = kind_whole t d
loaded_by t d (Some (shape.Procedure h)) = kind_routine t _
loaded_by t d (Some (shape.Open e)) = kind_whole t d

pub loaded_is : (types : Types) (t : TypeNo) (d : Place) → IsKind (loaded_as t d (class_at types t)) (content types t)
loaded_is types t d = subst (λ (s : Class). IsKind (loaded_as t d s) (content types t)) (sym (class_is types t))
    (loaded_by t d (shape_at types t))

given_by : (t : TypeNo) (e : TypedExpr) (s : Option Shape) → IsKind (given_as t e (class_of s)) (result_of t s)
given_by t e None = kind_untaken
given_by t e (Some (shape.Scalar r)) = kind_scalar t r.base e
given_by t e (Some shape.Set) = kind_set e
given_by t e (Some (shape.Array i u)) = kind_untaken
given_by t e (Some (shape.Record fs)) = kind_untaken
given_by t e (Some (shape.Procedure h)) = kind_routine t e
given_by t e (Some (shape.Open u)) = kind_untaken

pub given_is : (types : Types) (t : TypeNo) (e : TypedExpr) → IsKind (elaborated_given types t e) (result_kind types t)
given_is types t e = subst (λ (s : Class). IsKind (given_as t e s) (result_kind types t)) (sym (class_is types t))
    (given_by t e (shape_at types t))

module _ (g : Gathers) (j : Judges g) (lawful : Lawful g j) (O : Breach → Type 0) (types : Types) (at : Pos) where
  pub taken_answers : (a : Designated) (x : Thing) → IsThing a x
      → Answers g j O IsKind (Taken types x) (Mistaken at x) (value_at_place g types at a)
  taken_answers _ _ (thing_value {v = v} {k = k} i) = means v k i refl (λ l e. e) (λ f m. m)
  taken_answers _ _ (thing_variable t d) =
      means (loaded_as t d (class_at types t)) (content types t) (loaded_is types t d) refl (λ l e. e) (λ f m. m)
  taken_answers _ _ (thing_open t s) = means computed.Untaken Untaken kind_untaken refl (λ l e. e) (λ f m. m)
  taken_answers _ _ (thing_type t) = declined g j lawful O at rule.WrongType (λ k m. m) refl (λ f m. m)
  taken_answers _ _ (thing_procedure p) =
      means (computed.Procedure p) (Procedure p.heading) (kind_procedure p) refl (λ l e. e) (λ f m. m)
  taken_answers _ _ (thing_nested p) = declined g j lawful O at rule.NoProcedureValue (λ k m. m) refl (λ f m. m)
  taken_answers _ _ (thing_standard p) = declined g j lawful O at rule.NoProcedureValue (λ k m. m) refl (λ f m. m)
  taken_answers _ _ (thing_module k) = declined g j lawful O at rule.WrongType (λ k m. m) refl (λ f m. m)

  pub value_answers : {S : Thing → Type 0} {B : Breach → Type 0} {d : Result Designated (Meaningless g.Reported)}
      → Finds g j lawful O S B d
      → Answers g j O IsKind (λ k. (x : Thing) × S x × Taken types x k)
      (λ f. B f ⊎ ((x : Thing) × S x × Mistaken at x f)) (value_standing g types at d)
  value_answers h = found_value g j lawful O at h taken_answers (λ k m. m) (λ f m. m)
      (declined g j lawful O at rule.NoProcedureValue (λ k m. m) refl (λ f m. m))
