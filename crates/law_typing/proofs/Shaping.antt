-- What the elaboration sees of types, from how they are made.
use Rattle.std.proofs.Common.{◌≡◌, ℕ, Bool, true, false, List, [], ◌∷◌, Option, Some, None, refl, sym, ap, subst, ◌∙◌}
use Rattle.std.specs.Prelude.{◌&&◌}
use Rattle.std.specs.Option.{option_map}
use Rattle.typed_tree.specs.declared.types.Home.{Home}
use Rattle.typed_tree.specs.declared.types.Home.TheVariants.{Predeclared, Module}
use Rattle.typed_tree.specs.declared.types.TypeNo.{TypeNo}
use Rattle.typed_tree.specs.declared.shape.Formal.{Formal}
use Rattle.typed_tree.specs.declared.shape.Made.{Made}
use Rattle.typed_tree.specs.declared.shape.Scalar.{Scalar as Range}
use Rattle.typed_tree.specs.declared.shape.Shape.{Shape}
use Rattle.typed_tree.specs.declared.shape.Shape.TheVariants as shape
use Rattle.typed_tree.specs.declared.shape.Signature.{Signature}
use Rattle.typed_tree.specs.declared.known_types.Types.{Types}
use Rattle.typed_tree.specs.Known.{made_in, made_from, predeclared_scalar, scalar_at, scalar_from, scalar_made, scalar_shape}
use Rattle.check_scope.specs.Scopes.{fields_at, fields_made, fields_shape}
use Rattle.check_value.specs.declared.class.Class.{Class}
use Rattle.check_value.specs.declared.class.Class.TheVariants as class
use Rattle.check_value.specs.Classes.{class_at, class_from, class_range, class_made, class_shape, signature_at, signature_made, signature_shape, array_at, array_made, array_shape}
use Rattle.check_value.specs.Agreement.{is_alike, formal_agrees, formals_agree, result_agrees, signatures_agree, headings_agree}
use Rattle.def_typing.specs.Shapes.{shape_at, shape_from, predeclared_shape, IsMade, Agree, agree}
use Rattle.law_typing.proofs.Combining.{Decided, holds, fails_it, decided_as}
use Rattle.law_typing.proofs.Deciding.{same_decided, both_decided, some_same}

-- ---- from shapes

abbrev pub class_of : Option Shape → Class
class_of None = class.Whole
class_of (Some s) = class_shape s

abbrev pub signature_of : Option Shape → Option Signature
signature_of None = None
signature_of (Some s) = signature_shape s

abbrev pub array_of : Option Shape → Option (TypeNo × TypeNo)
array_of None = None
array_of (Some s) = array_shape s

abbrev pub fields_of : Option Shape → Option (List (List ℕ × TypeNo))
fields_of None = None
fields_of (Some s) = fields_shape s

abbrev pub scalar_of : Option Shape → Option Range
scalar_of None = None
scalar_of (Some s) = scalar_shape s

class_predeclared : (r : Option Range) → class_range r ≡ class_of (Some (predeclared_shape r))
class_predeclared None = refl
class_predeclared (Some r) = refl

none_predeclared : {A : Type 0} (h : Shape → Option A) → ((r : Range) → h (shape.Scalar r) ≡ None) → h shape.Set ≡ None
    → (r : Option Range) → None ≡ h (predeclared_shape r)
none_predeclared h a b None = sym b
none_predeclared h a b (Some r) = sym (a r)

scalar_predeclared : (r : Option Range) → r ≡ scalar_of (Some (predeclared_shape r))
scalar_predeclared None = refl
scalar_predeclared (Some r) = refl

abbrev shape_made : Option Made → Option Shape
shape_made m = option_map (λ (m : Made). m.shape) m

class_module : (m : Option Made) → class_made m ≡ class_of (shape_made m)
class_module None = refl
class_module (Some m) = refl

signature_module : (m : Option Made) → signature_made m ≡ signature_of (shape_made m)
signature_module None = refl
signature_module (Some m) = refl

array_module : (m : Option Made) → array_made m ≡ array_of (shape_made m)
array_module None = refl
array_module (Some m) = refl

fields_module : (m : Option Made) → fields_made m ≡ fields_of (shape_made m)
fields_module None = refl
fields_module (Some m) = refl

scalar_module : (m : Option Made) → scalar_made m ≡ scalar_of (shape_made m)
scalar_module None = refl
scalar_module (Some m) = refl

module _ (types : Types) where
  class_in : (home : Home) (n : ℕ) → class_from types (record { home = home; number = n }) home
      ≡ class_of (shape_from types n home)
  class_in Predeclared n = class_predeclared (predeclared_scalar n)
  class_in (Module home) n = class_module (made_in types home n)

  signature_in : (home : Home) (n : ℕ) → signature_made (made_from types home n)
      ≡ signature_of (shape_from types n home)
  signature_in Predeclared n = none_predeclared signature_shape (λ r. refl) refl (predeclared_scalar n)
  signature_in (Module home) n = signature_module (made_in types home n)

  array_in : (home : Home) (n : ℕ) → array_made (made_from types home n) ≡ array_of (shape_from types n home)
  array_in Predeclared n = none_predeclared array_shape (λ r. refl) refl (predeclared_scalar n)
  array_in (Module home) n = array_module (made_in types home n)

  fields_in : (home : Home) (n : ℕ) → fields_made (made_from types home n) ≡ fields_of (shape_from types n home)
  fields_in Predeclared n = none_predeclared fields_shape (λ r. refl) refl (predeclared_scalar n)
  fields_in (Module home) n = fields_module (made_in types home n)

  scalar_in : (home : Home) (n : ℕ) → scalar_from types home n ≡ scalar_of (shape_from types n home)
  scalar_in Predeclared n = scalar_predeclared (predeclared_scalar n)
  scalar_in (Module home) n = scalar_module (made_in types home n)

  pub class_is : (t : TypeNo) → class_at types t ≡ class_of (shape_at types t)
  class_is t = class_in t.home t.number

  pub signature_is : (t : TypeNo) → signature_at types t ≡ signature_of (shape_at types t)
  signature_is t = signature_in t.home t.number

  pub array_is : (t : TypeNo) → array_at types t ≡ array_of (shape_at types t)
  array_is t = array_in t.home t.number

  pub fields_is : (t : TypeNo) → fields_at types t ≡ fields_of (shape_at types t)
  fields_is t = fields_in t.home t.number

  pub scalar_is : (t : TypeNo) → scalar_at types t ≡ scalar_of (shape_at types t)
  scalar_is t = scalar_in t.home t.number

-- ---- what is made in one way alone

pub one_made : (types : Types) (t : TypeNo) {a b : Shape} → IsMade types t a → IsMade types t b → a ≡ b
one_made types t {a = a} {b = b} p q = some_same a b (sym p ∙ q)

-- ---- headings

pub data SignatureIs (types : Types) (t : TypeNo) : Option Signature → Type 0 where
  has_signature : (s : Signature) → IsMade types t (shape.Procedure s) → SignatureIs types t (Some s)
  no_signature : ((s : Signature) → IsMade types t (shape.Procedure s) → ⊥) → SignatureIs types t None

signature_by : (types : Types) (t : TypeNo) (s : Option Shape) → shape_at types t ≡ s
    → SignatureIs types t (signature_of s)
signature_by types t None e = no_signature (λ s m. let x = sym e ∙ m in absurd cc)
signature_by types t (Some (shape.Procedure p)) e = has_signature p e
signature_by types t (Some (shape.Scalar r)) e = no_signature (λ s m. let x = some_same _ _ (sym e ∙ m) in absurd cc)
signature_by types t (Some shape.Set) e = no_signature (λ s m. let x = some_same _ _ (sym e ∙ m) in absurd cc)
signature_by types t (Some (shape.Array i u)) e = no_signature (λ s m. let x = some_same _ _ (sym e ∙ m) in absurd cc)
signature_by types t (Some (shape.Record fs)) e = no_signature (λ s m. let x = some_same _ _ (sym e ∙ m) in absurd cc)
signature_by types t (Some (shape.Open u)) e = no_signature (λ s m. let x = some_same _ _ (sym e ∙ m) in absurd cc)

pub signature_there : (types : Types) (t : TypeNo) → SignatureIs types t (signature_at types t)
signature_there types t = subst (SignatureIs types t) (sym (signature_is types t))
    (signature_by types t (shape_at types t) refl)

-- ---- headings that agree

alike_decided : (a b : Bool) → Decided (a ≡ b) (is_alike a b)
alike_decided true true = holds refl
alike_decided true false = fails_it (λ e. absurd cc)
alike_decided false true = fails_it (λ e. absurd cc)
alike_decided false false = holds refl

formal_same : {a b c d : Bool} {t u : TypeNo} → a ≡ b → c ≡ d → t ≡ u
    → ◌≡◌ {A = Formal} (record { is_var = a; is_open = c; of = t }) (record { is_var = b; is_open = d; of = u })
formal_same {a = a} {b = b} {c = c} {d = d} {t = t} {u = u} p q r =
    ap (λ (x : Bool). let f : Formal = record { is_var = x; is_open = c; of = t } in f) p
    ∙ ap (λ (x : Bool). let f : Formal = record { is_var = b; is_open = x; of = t } in f) q
    ∙ ap (λ (x : TypeNo). let f : Formal = record { is_var = b; is_open = d; of = x } in f) r

formal_decided : (f h : Formal) → Decided (f ≡ h) (formal_agrees f h)
formal_decided f h = decided_as (λ p. formal_same p.0.0 p.0.1 p.1)
    (λ e. ((ap (λ (f : Formal). f.is_var) e, ap (λ (f : Formal). f.is_open) e), ap (λ (f : Formal). f.of) e))
    (both_decided (both_decided (alike_decided f.is_var h.is_var) (alike_decided f.is_open h.is_open))
    (same_decided f.of h.of))

cons_same : {x y : Formal} {xs ys : List Formal} → x ≡ y → xs ≡ ys → (x ∷ xs) ≡ (y ∷ ys)
cons_same {x = x} {y = y} {xs = xs} {ys = ys} p q = ap (λ (z : Formal). z ∷ xs) p ∙ ap (λ (zs : List Formal). y ∷ zs) q

abbrev first_formal : Formal → List Formal → Formal
first_formal f [] = f
first_formal f (x ∷ xs) = x

abbrev rest_formals : List Formal → List Formal
rest_formals [] = []
rest_formals (x ∷ xs) = xs

formals_decided : (fs hs : List Formal) → Decided (fs ≡ hs) (formals_agree fs hs)
formals_decided [] [] = holds refl
formals_decided [] (h ∷ hs) = fails_it (λ e. absurd cc)
formals_decided (f ∷ fs) [] = fails_it (λ e. absurd cc)
formals_decided (f ∷ fs) (h ∷ hs) = decided_as (λ p. cons_same p.0 p.1)
    (λ e. (ap (first_formal f) e, ap rest_formals e)) (both_decided (formal_decided f h) (formals_decided fs hs))

result_decided : (t u : Option TypeNo) → Decided (t ≡ u) (result_agrees t u)
result_decided None None = holds refl
result_decided None (Some u) = fails_it (λ e. absurd cc)
result_decided (Some t) None = fails_it (λ e. absurd cc)
result_decided (Some t) (Some u) = decided_as (λ e. ap Some e) (some_same t u) (same_decided t u)

signature_same : {fs hs : List Formal} {t u : Option TypeNo} → fs ≡ hs → t ≡ u
    → ◌≡◌ {A = Signature} (record { formals = fs; result = t }) (record { formals = hs; result = u })
signature_same {fs = fs} {hs = hs} {t = t} {u = u} p q =
    ap (λ (x : List Formal). let s : Signature = record { formals = x; result = t } in s) p
    ∙ ap (λ (x : Option TypeNo). let s : Signature = record { formals = hs; result = x } in s) q

pub signatures_decided : (s h : Signature)
    → Decided (s ≡ h) (formals_agree s.formals h.formals && result_agrees s.result h.result)
signatures_decided s h = decided_as (λ p. signature_same p.0 p.1)
    (λ e. (ap (λ (s : Signature). s.formals) e, ap (λ (s : Signature). s.result) e))
    (both_decided (formals_decided s.formals h.formals) (result_decided s.result h.result))

abbrev signature_in_shape : Signature → Shape → Signature
signature_in_shape s (shape.Procedure p) = p
signature_in_shape s (shape.Scalar r) = s
signature_in_shape s shape.Set = s
signature_in_shape s (shape.Array i e) = s
signature_in_shape s (shape.Record fs) = s
signature_in_shape s (shape.Open e) = s

pub one_signature : (types : Types) (t : TypeNo) {a b : Signature} → IsMade types t (shape.Procedure a)
    → IsMade types t (shape.Procedure b) → a ≡ b
one_signature types t {a = a} p q = ap (signature_in_shape a) (one_made types t p q)

agrees_left : {types : Types} {t u : TypeNo} → Agree types t u → (s : Signature) × IsMade types t (shape.Procedure s)
agrees_left (agree {s = s} p q) = (s, p)

agrees_right : {types : Types} {t u : TypeNo} → Agree types t u → (s : Signature) × IsMade types u (shape.Procedure s)
agrees_right (agree {s = s} p q) = (s, q)

agreed : (types : Types) (t u : TypeNo) {a b : Signature} → IsMade types t (shape.Procedure a)
    → IsMade types u (shape.Procedure b) → Agree types t u → a ≡ b
agreed types t u p q (agree x y) = one_signature types t p x ∙ one_signature types u y q

agree_by : (types : Types) (t u : TypeNo) {a b : Option Signature} → SignatureIs types t a → SignatureIs types u b
    → Decided (Agree types t u) (signatures_agree a b)
agree_by types t u (no_signature n) y = fails_it (λ x. let s = agrees_left x in n s.0 s.1)
agree_by types t u (has_signature s p) (no_signature n) = fails_it (λ x. let s = agrees_right x in n s.0 s.1)
agree_by types t u (has_signature s p) (has_signature h q) =
    decided_as (λ e. agree p (subst (λ (s : Signature). IsMade types u (shape.Procedure s)) (sym e) q))
    (λ x. agreed types t u p q x) (signatures_decided s h)

pub agree_decided : (types : Types) (t u : TypeNo) → Decided (Agree types t u) (headings_agree types t u)
agree_decided types t u = agree_by types t u (signature_there types t) (signature_there types u)
