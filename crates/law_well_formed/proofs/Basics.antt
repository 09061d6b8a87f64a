-- Results that are as a fact says, and types that are kept.
use Rattle.std.proofs.Common.{◌≡◌, ℕ, Bool, true, false, Option, Some, None, Result, Ok, Err, refl, ap, ◌∙◌}
use Rattle.m2_rule.specs.Breaches.{breach}
use Rattle.m2_rule.specs.declared.rule.Rule.{Rule}
use Rattle.m2_rule.specs.declared.rule.Rule.TheVariants as rule
use Rattle.m2_tree.specs.declared.pos.Pos.{Pos}
use Rattle.typed_tree.specs.declared.known_types.Types.{Types}
use Rattle.typed_tree.specs.declared.shape.Made.{Made}
use Rattle.typed_tree.specs.declared.shape.Shape.{Shape}
use Rattle.typed_tree.specs.declared.shape.Shape.TheVariants as shape
use Rattle.typed_tree.specs.declared.shape.Signature.{Signature}
use Rattle.typed_tree.specs.declared.types.Home.{Home}
use Rattle.typed_tree.specs.declared.types.Home.TheVariants.{Predeclared, Module}
use Rattle.typed_tree.specs.declared.types.TypeNo.{TypeNo}
use Rattle.typed_tree.specs.Known.{made_at, is_result_shape, is_result_made, is_result_from, is_result}
use Rattle.typed_tree.specs.declared.meaning.Meaning.{Meaning}
use Rattle.check_scope.specs.declared.meaningless.Meaningless.{Meaningless}
use Rattle.check_scope.specs.declared.meaningless.Meaningless.TheVariants.{Broken, Headless}
use Rattle.check_scope.specs.Elaborated.{Gathers, report, reported_where, both, refusal_beside, reported_beside, ahead, of_sort, of_heading, of_value, of_sort_of_value, plain, ◌▷◌}
use Rattle.check_scope.specs.Scopes.{heading_means}
use Rattle.check_value.specs.declared.class.Class.{Class}
use Rattle.check_value.specs.declared.class.Class.TheVariants as class
use Rattle.check_value.specs.Classes.{class_shape, class_made, class_from, class_at, signature_shape, signature_made, signature_at}
use Rattle.layout_storage.specs.Frames.{formals_in, formals_made, formals_of}
use Rattle.def_scheme.specs.Exprs.{is_there, result_in, result_made, has_result}
use Rattle.law_well_formed.specs.Formed.{Holds, fine, broken}

module _ {A B T : Type 0} where
  pub then_holds : {P : A → Type 0} {Q : B → Type 0} {r : Result A T} {f : A → Result B T} → Holds P r
      → ((x : A) → P x → Holds Q (f x)) → Holds Q (r ▷ f)
  then_holds (fine x p) k = k x p
  then_holds (broken e) k = broken e

pub holds_weaker : {A T : Type 0} {P Q : A → Type 0} {r : Result A T} → ((x : A) → P x → Q x) → Holds P r → Holds Q r
holds_weaker k (fine x p) = fine x (k x p)
holds_weaker k (broken e) = broken e

module _ {P T : Type 0} where
  later_of : (x : Unit {0}) {before : Result (Unit {0}) T} → before ≡ Ok tt → Holds (λ x. P) before
      → Holds {T = T} (λ x. P) (Ok x)
  later_of x q (fine y p) = fine x p
  later_of x q (broken e) = absurd cc

  -- what holds if nothing was reported before holds if nothing is reported in the end
  pub holds_later : (before end : Result (Unit {0}) T) → (end ≡ Ok tt → before ≡ Ok tt) → Holds (λ x. P) before
      → Holds (λ x. P) end
  holds_later before (Ok x) k h = later_of x (k refl) h
  holds_later before (Err e) k h = broken e

module _ (g : Gathers) where
  pub reported_holds : {A : Type 0} {P : A → Type 0} (at : Pos) (n : Rule) → Holds P (report g {A = A} at n)
  reported_holds at n = broken _

  pub where_holds : {A : Type 0} {P : A → Type 0} (q : Bool) (at : Pos) (n : Rule) {r : Result A g.Reported} → Holds P r
      → Holds P (reported_where g q at n r)
  where_holds true at n h = broken _
  where_holds false at n h = h

  -- if nothing is reported, the test has failed
  pub unless_holds : {A : Type 0} {P : A → Type 0} (q : Bool) (at : Pos) (n : Rule) {r : Result A g.Reported}
      → (q ≡ false → Holds P r) → Holds P (reported_where g q at n r)
  unless_holds true at n k = broken _
  unless_holds false at n k = k refl

  pub both_holds : {A B : Type 0} {P : A → Type 0} {Q : B → Type 0} {a : Result A g.Reported} {b : Result B g.Reported}
      → Holds P a → Holds Q b → Holds (λ (x : A × B). P x.0 × Q x.1) (both g a b)
  both_holds (fine x p) (fine y q) = fine (x, y) (p, q)
  both_holds (fine x p) (broken e) = broken e
  both_holds (broken e) (fine y q) = broken e
  both_holds (broken e) (broken f) = broken (g.join e f)

  -- ---- what stands behind a part is looked at

  pub refused_holds : {A : Type 0} {P : A → Type 0} (e : g.Reported) (rest : Result (Unit {0}) g.Reported)
      → Holds P (refusal_beside g {A = A} e rest)
  refused_holds e (Ok x) = broken e
  refused_holds e (Err f) = broken (g.join e f)

  pub reported_beside_holds : {A : Type 0} {P : A → Type 0} (at : Pos) (n : Rule) (rest : Result (Unit {0}) g.Reported)
      → Holds P (reported_beside g {A = A} at n rest)
  reported_beside_holds at n rest = refused_holds (g.one (breach at n)) rest

  pub ahead_holds : {A B : Type 0} {P : A → Type 0} {Q : B → Type 0} {r : Result A g.Reported}
      (rest : Result (Unit {0}) g.Reported) {f : A → Result B g.Reported} → Holds P r → ((x : A) → P x → Holds Q (f x))
      → Holds Q (ahead g r rest f)
  ahead_holds rest (fine x p) k = k x p
  ahead_holds rest (broken e) k = refused_holds e rest

  -- ---- names of procedures in whose headings rules are broken

  pub sort_holds : {A : Type 0} {P : A → Type 0} (at : Pos) (n : Rule) {r : Result A (Meaningless g.Reported)}
      → Holds P r → Holds P (of_sort g at n r)
  sort_holds at n (fine x p) = fine x p
  sort_holds at n (broken (Broken e)) = broken e
  sort_holds at n (broken (Headless nested e)) = reported_holds at n

  pub of_value_holds : {A : Type 0} {P : A → Type 0} (at : Pos) {r : Result A (Meaningless g.Reported)} → Holds P r
      → Holds P (of_value g at r)
  of_value_holds at (fine x p) = fine x p
  of_value_holds at (broken (Broken e)) = broken e
  of_value_holds at (broken (Headless true e)) = reported_holds at rule.NoProcedureValue
  of_value_holds at (broken (Headless false e)) = broken e

  pub sort_of_value_holds : {A : Type 0} {P : A → Type 0} (at : Pos) (n : Rule) {r : Result A (Meaningless g.Reported)}
      → Holds P r → Holds P (of_sort_of_value g at n r)
  sort_of_value_holds at n (fine x p) = fine x p
  sort_of_value_holds at n (broken (Broken e)) = broken e
  sort_of_value_holds at n (broken (Headless true e)) = reported_holds at rule.NoProcedureValue
  sort_of_value_holds at n (broken (Headless false e)) = reported_holds at n

module _ {T : Type 0} where
  pub of_heading_holds : {A : Type 0} {P : A → Type 0} {r : Result A (Meaningless T)} → Holds P r
      → Holds P (of_heading r)
  of_heading_holds (fine x p) = fine x p
  of_heading_holds (broken (Broken e)) = broken e
  of_heading_holds (broken (Headless nested e)) = broken e

  pub plain_holds : {A : Type 0} {P : A → Type 0} {r : Result A T} → Holds P r → Holds P (plain r)
  plain_holds (fine x p) = fine x p
  plain_holds (broken e) = broken (Broken e)

  pub plain_ok : {A : Type 0} (r : Result A T) (x : A) → ◌≡◌ {A = Result A (Meaningless T)} (plain r) (Ok x) → r ≡ Ok x
  plain_ok {A = A} (Ok y) x e = let z : y ≡ x = cc in ap (λ (v : A). Ok v) z
  plain_ok (Err y) x e = absurd cc

  pub heading_means_holds : (nested : Bool) {P : Meaning → Type 0} {r : Result Meaning T} → Holds P r
      → Holds P (heading_means nested r)
  heading_means_holds nested (fine x p) = fine x p
  heading_means_holds nested (broken e) = broken (Headless nested e)

-- nothing is said of it
pub any_holds : {A T : Type 0} (r : Result A T) → Holds (λ x. Unit {0}) r
any_holds (Ok x) = fine x tt
any_holds (Err e) = broken e

-- ---- types

-- an array or a record
abbrev pub is_whole : Class → Bool
is_whole (class.Scalar s) = false
is_whole class.Set = false
is_whole class.Procedure = false
is_whole class.Whole = true

abbrev pub Grows : Types → Types → Type 0
Grows known all = (t : TypeNo) (x : Made) → made_at known t ≡ Some x → made_at all t ≡ Some x

scalar_shape : (s : Shape) → is_whole (class_shape s) ≡ false → is_result_shape s ≡ true
scalar_shape (shape.Scalar r) h = refl
scalar_shape shape.Set h = refl
scalar_shape (shape.Array i e) h = absurd cc
scalar_shape (shape.Record fs) h = absurd cc
scalar_shape (shape.Procedure p) h = refl
scalar_shape (shape.Open e) h = absurd cc

module _ (known all : Types) (grows : Grows known all) where
  made_scalar : (t : TypeNo) (o : Option Made) → made_at known t ≡ o → is_whole (class_made o) ≡ false
      → is_result_made (made_at all t) ≡ true
  made_scalar t None e h = absurd cc
  made_scalar t (Some x) e h = ap is_result_made (grows t x e) ∙ scalar_shape x.shape h

  scalar_from : (home : Home) (n : ℕ) → is_whole (class_from known (record { home = home; number = n }) home) ≡ false
      → is_result_from all home n ≡ true
  scalar_from Predeclared n h = refl
  scalar_from (Module k) n h = made_scalar (record { home = Module k; number = n })
      (made_at known (record { home = Module k; number = n })) refl h

  pub scalar_kept : (t : TypeNo) → is_whole (class_at known t) ≡ false → is_result all t ≡ true
  scalar_kept t h = scalar_from t.home t.number h

  -- ---- procedure types

  pub record HasHeading (t : TypeNo) (h : Signature) : Type 0 where
    pub formals : formals_of all t ≡ h.formals
    pub result : has_result all t ≡ is_there h.result

  shape_heading : (t : TypeNo) (x : Made) (s : Shape) (h : Signature) → made_at all t ≡ Some x → x.shape ≡ s
      → signature_shape s ≡ Some h → HasHeading t h
  shape_heading t x (shape.Procedure p) h e q r =
      let same : p ≡ h = cc in record {
        formals = ap formals_made e ∙ ap formals_in q ∙ ap (λ (i : Signature). i.formals) same;
        result = ap result_made e ∙ ap result_in q ∙ ap (λ (i : Signature). is_there i.result) same;
      }
  shape_heading t x (shape.Scalar p) h e q r = absurd cc
  shape_heading t x shape.Set h e q r = absurd cc
  shape_heading t x (shape.Array i j) h e q r = absurd cc
  shape_heading t x (shape.Record fs) h e q r = absurd cc
  shape_heading t x (shape.Open j) h e q r = absurd cc

  made_heading : (t : TypeNo) (o : Option Made) (h : Signature) → made_at known t ≡ o → signature_made o ≡ Some h
      → HasHeading t h
  made_heading t None h e r = absurd cc
  made_heading t (Some x) h e r = shape_heading t x x.shape h (grows t x e) refl r

  pub heading_kept : (t : TypeNo) (h : Signature) → signature_at known t ≡ Some h → HasHeading t h
  heading_kept t h r = made_heading t (made_at known t) h refl r
