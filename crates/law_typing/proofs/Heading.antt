-- Headings of procedures are answered exactly.
use Rattle.std.proofs.Common.{◌≡◌, ℕ, Bool, List, [], ◌∷◌, ◌++◌, Option, Some, None, Result, Ok, ◌⊎◌, inl, inr, refl, sym, ap, subst, ◌∙◌}
use Rattle.std.specs.List.{fold}
use Rattle.std.specs.Option.{option_map}
use Rattle.m2_rule.specs.declared.breach.Breach.{Breach}
use Rattle.m2_rule.specs.declared.rule.Rule.TheVariants as rule
use Rattle.m2_tree.specs.declared.pos.Pos.{Pos}
use Rattle.m2_tree.specs.declared.name.Ident.{Ident}
use Rattle.m2_tree.specs.declared.expr.Qualified.{Qualified}
use Rattle.std.specs.Prelude.{map}
use Rattle.m2_tree.specs.declared.decl.Parameter.{Parameter}
use Rattle.m2_tree.specs.declared.decl.Section.{Section}
use Rattle.m2_tree.specs.declared.decl.Heading.{Heading}
use Rattle.typed_tree.specs.declared.types.Home.{Home}
use Rattle.typed_tree.specs.declared.types.Home.TheVariants.{Predeclared, Module}
use Rattle.typed_tree.specs.declared.types.TypeNo.{TypeNo}
use Rattle.typed_tree.specs.declared.shape.Formal.{Formal}
use Rattle.typed_tree.specs.declared.shape.Made.{Made}
use Rattle.typed_tree.specs.declared.shape.Scalar.{Scalar}
use Rattle.typed_tree.specs.declared.shape.Shape.{Shape}
use Rattle.typed_tree.specs.declared.shape.Shape.TheVariants as shape
use Rattle.typed_tree.specs.declared.shape.Signature.{Signature}
use Rattle.typed_tree.specs.declared.known_types.Types.{Types}
use Rattle.typed_tree.specs.Known.{made_in, predeclared_scalar, is_result, is_result_shape, is_result_made}
use Rattle.check_scope.specs.declared.scope.Scope.{Scope}
use Rattle.check_scope.specs.Elaborated.{Gathers}
use Rattle.check_type_expr.specs.Named.{first_place, first_of}
use Rattle.check_type_expr.specs.Headings.{formal_of, result_in, result_of, formal_for_each, with_section, heading_of, with_parameter, procedure_type, procedure_made}
use Rattle.def_typing.specs.Shapes.{predeclared_shape, shape_at, IsMade}
use Rattle.def_typing.specs.Operators.{◌!◌}
use Rattle.def_typing.specs.Things.{Standing}
use Rattle.def_typing.specs.Parts.{Among, here, later}
use Rattle.def_typing.specs.TypeNames.{NamesType, BrokenTypeName}
use Rattle.def_typing.specs.Headings as rules
use Rattle.def_typing.specs.Headings.{AreParameters, begins_at, IsSimple, IsResult, formals_of, AreFormals, GivesBack, IsHeading, BrokenResult, BrokenHeading}
use Rattle.law_typing.specs.Judging.{Judges, Answers, means}
use Rattle.law_typing.specs.Exact.{Knows, Repeats}
use Rattle.law_typing.proofs.Combining.{Lawful, Decided, holds, fails_it, decided_as, exact, fine, both_answer, then_answer, where_answers}
use Rattle.law_typing.proofs.Shaping.{one_made}
use Rattle.law_typing.proofs.TypeNaming.{type_name_answers}

-- ---- what a function gives

simple_decided : (s : Shape) → Decided (IsSimple s) (is_result_shape s)
simple_decided (shape.Scalar r) = holds tt
simple_decided shape.Set = holds tt
simple_decided (shape.Array i e) = fails_it (λ z. z)
simple_decided (shape.Record fs) = fails_it (λ z. z)
simple_decided (shape.Procedure p) = holds tt
simple_decided (shape.Open e) = fails_it (λ z. z)

simple_of : (types : Types) (t : TypeNo) {s : Shape} → IsMade types t s → IsResult types t → IsSimple s
simple_of types t m (rules.is_result n i) = subst IsSimple (one_made types t n m) i

not_made : (types : Types) (t : TypeNo) → shape_at types t ≡ None → IsResult types t → ⊥
not_made types t e (rules.is_result m i) = let z = sym e ∙ m in absurd cc

made_result : (types : Types) (t : TypeNo) (m : Option Made) (s : Option Shape) → shape_at types t ≡ s
    → s ≡ option_map (λ m. m.shape) m → Decided (IsResult types t) (is_result_made m)
made_result types t None s e q = fails_it (not_made types t (e ∙ q))
made_result types t (Some m) s e q = decided_as (λ i. rules.is_result (e ∙ q) i) (simple_of types t (e ∙ q))
    (simple_decided m.shape)

module _ (types : Types) where
  predeclared_result : (t : TypeNo) (o : Option Scalar) → shape_at types t ≡ Some (predeclared_shape o)
      → IsResult types t
  predeclared_result t None e = rules.is_result e tt
  predeclared_result t (Some r) e = rules.is_result e tt

  result_by : (t : TypeNo) (home : Home) → t.home ≡ home → Decided (IsResult types t) (is_result types t)
  result_by t Predeclared e = subst (λ (h : Home). Decided (IsResult types t) (result_from h)) (sym e)
      (holds (predeclared_result t (predeclared_scalar t.number) (ap (λ (h : Home). shape_with h) e)))
    where
      result_from : Home → Bool
      result_from h = is_result types (record { home = h; number = t.number })

      shape_with : Home → Option Shape
      shape_with h = shape_at types (record { home = h; number = t.number })
  result_by t (Module n) e = subst (λ (h : Home). Decided (IsResult types t) (result_from h)) (sym e)
      (made_result types t (made_in types n t.number) (shape_at types t) refl (ap (λ (h : Home). shape_with h) e))
    where
      result_from : Home → Bool
      result_from h = is_result types (record { home = h; number = t.number })

      shape_with : Home → Option Shape
      shape_with h = shape_at types (record { home = h; number = t.number })

  pub result_decided : (t : TypeNo) → Decided (IsResult types t) (is_result types t)
  result_decided t = result_by t t.home refl

-- ---- lists

pub nil_right : {A : Type 0} (xs : List A) → xs ++ [] ≡ xs
nil_right [] = refl
nil_right (x ∷ xs) = ap (λ (ys : List _). x ∷ ys) (nil_right xs)

pub append_assoc : {A : Type 0} (xs ys zs : List A) → (xs ++ ys) ++ zs ≡ xs ++ (ys ++ zs)
append_assoc [] ys zs = refl
append_assoc (x ∷ xs) ys zs = ap (λ (ws : List _). x ∷ ws) (append_assoc xs ys zs)

pub place_same : (m : Option Ident) (name : Ident) → first_place m name ≡ begins_at m name
place_same None name = refl
place_same (Some home) name = refl

module _ (g : Gathers) (j : Judges g) (lawful : Lawful g j) (names : Ident → Standing) (exports : ℕ → Ident → Standing)
    (s : Scope g.Reported) (knows : Knows g j names exports s) where
  abbrev R : Breach → Type 0
  R = Repeats g j names s

  abbrev N : Qualified → TypeNo → Type 0
  N = NamesType names exports

  abbrev BN : Qualified → Breach → Type 0
  BN = BrokenTypeName names exports

  -- ---- formals

  abbrev FormalIs : Section → Formal → Type 0
  FormalIs x f = (t : TypeNo) × N x.of.of t × (f ≡ record { is_var = x.is_var; is_open = x.of.is_open; of = t })

  formal_answers : (x : Section) → Answers g j R (λ (a f : Formal). a ≡ f) (FormalIs x) (BN x.of.of)
      (formal_of g s x.is_var x.of)
  formal_answers x = exact g j lawful R {B = λ f. BN x.of.of f ⊎ ((t : TypeNo) × N x.of.of t × ⊥)} (λ f m. m) (λ f m. m)
      (λ f z. elim z [ inl b ↦ b | inr q ↦ absurd q.2 ]) (λ f b. inl b)
      (then_answer g j lawful R {N = λ t f. f ≡ record { is_var = x.is_var; is_open = x.of.is_open; of = t }}
      {D = λ t f. ⊥} (type_name_answers g j lawful names exports s knows x.of.of) (λ t u e. made t u e))
    where
      made : (t u : TypeNo) → t ≡ u → Answers g j R (λ (a f : Formal). a ≡ f)
          (λ f. f ≡ record { is_var = x.is_var; is_open = x.of.is_open; of = u }) (λ f. ⊥)
          (Ok (record { is_var = x.is_var; is_open = x.of.is_open; of = t }))
      made t u e = subst (λ (v : TypeNo). Answers g j R (λ (a f : Formal). a ≡ f)
          (λ f. f ≡ record { is_var = x.is_var; is_open = x.of.is_open; of = v }) (λ f. ⊥)
          (Ok (record { is_var = x.is_var; is_open = x.of.is_open; of = t }))) e (fine g j lawful R _ _ refl)

  abbrev AnyBroken : List Section → Breach → Type 0
  AnyBroken xs f = (x : Section) × Among x xs × BN x.of.of f

  abbrev Joined : (List Formal → Type 0) → List Section → List Formal → Type 0
  Joined M xs fs = (a : List Formal) × M a × ((b : List Formal) × AreFormals s.types names exports xs b × (fs ≡ a ++ b))

  abbrev One : (List Formal → Type 0) → Section → List Formal → Type 0
  One M x fs = (a : List Formal) × M a × ((t : TypeNo) × N x.of.of t × (fs ≡ a ++ formals_of x t))

  abbrev IsList : List Formal → List Formal → Type 0
  IsList a b = a ≡ b

  one_section : (x : Section) {M : List Formal → Type 0} {B : Breach → Type 0} {so : Result (List Formal) g.Reported}
      → Answers g j R IsList M B so
      → Answers g j R IsList (One M x) (λ f. B f ⊎ BN x.of.of f) (with_section g s so x)
  one_section x {M = M} {B = B} h = exact g j lawful R
      {M = λ fs. (k : List Formal × Formal) × (M k.0 × FormalIs x k.1) × (fs ≡ k.0 ++ formal_for_each k.1 x.names)}
      {B = λ f. (B f ⊎ BN x.of.of f) ⊎ ((k : List Formal × Formal) × (M k.0 × FormalIs x k.1) × ⊥)}
      (λ fs z. into z) (λ fs z. (
        (z.0, record { is_var = x.is_var; is_open = x.of.is_open; of = z.2.0 }),
        (z.1, (z.2.0, z.2.1, refl)),
        z.2.2,
      ))
      (λ f z. elim z [ inl y ↦ y | inr q ↦ absurd q.2 ]) (λ f z. inl z)
      (then_answer g j lawful R {N = λ k fs. fs ≡ k.0 ++ formal_for_each k.1 x.names} {D = λ k f. ⊥}
      (both_answer g j lawful R h (formal_answers x)) (λ p k i. made p k i))
    where
      into : {fs : List Formal} → (k : List Formal × Formal) × (M k.0 × FormalIs x k.1)
          × (fs ≡ k.0 ++ formal_for_each k.1 x.names) → One M x fs
      into (k, (m, (t, n, e)), q) = (k.0, m, (t, n, q ∙ ap (λ (f : Formal). k.0 ++ formal_for_each f x.names) e))

      made : (p k : List Formal × Formal) → (p.0 ≡ k.0) × (p.1 ≡ k.1)
          → Answers g j R IsList (λ fs. fs ≡ k.0 ++ formal_for_each k.1 x.names) (λ f. ⊥)
          (Ok (p.0 ++ formal_for_each p.1 x.names))
      made p k i = means (p.0 ++ formal_for_each p.1 x.names) (k.0 ++ formal_for_each k.1 x.names)
          (ap (λ (a : List Formal). a ++ formal_for_each p.1 x.names) i.0
          ∙ ap (λ (f : Formal). k.0 ++ formal_for_each f x.names) i.1) refl (λ l e. e) (λ f z. z)

  formals_from : (xs : List Section) {M : List Formal → Type 0} {B : Breach → Type 0}
      {so : Result (List Formal) g.Reported} → Answers g j R IsList M B so
      → Answers g j R IsList (Joined M xs) (λ f. B f ⊎ AnyBroken xs f) (fold (with_section g s) so xs)
  formals_from [] {M = M} h = exact g j lawful R (λ fs m. (fs, m, ([], rules.no_formal, sym (nil_right fs))))
      (λ fs z. ended z) (λ f b. inl b) (λ f z. elim z [ inl b ↦ b | inr q ↦ elim q.1 [ ] ]) h
    where
      none : {b : List Formal} → AreFormals s.types names exports [] b → b ≡ []
      none rules.no_formal = refl

      ended : {fs : List Formal} → Joined M [] fs → M fs
      ended (a, m, (b, n, e)) = subst M (sym (e ∙ ap (λ (b : List Formal). a ++ b) (none n) ∙ nil_right a)) m
  formals_from (x ∷ xs) {M = M} {B = B} h = exact g j lawful R (λ fs z. into z) (λ fs z. out z)
      (λ f z. elim z [
        | inl y ↦ elim y [ inl b ↦ inl b | inr c ↦ inr (x, here, c) ]
        | inr q ↦ inr (q.0, later q.1, q.2)
      ])
      (λ f z. elim z [ inl b ↦ inl (inl b) | inr q ↦ any q ]) (formals_from xs (one_section x h))
    where
      any : {f : Breach} → AnyBroken (x ∷ xs) f → (B f ⊎ BN x.of.of f) ⊎ AnyBroken xs f
      any (y, here, b) = inl (inr b)
      any (y, later m, b) = inr (y, m, b)

      into : {fs : List Formal} → Joined (One M x) xs fs → Joined M (x ∷ xs) fs
      into (c, (a, m, (t, n, e)), (b, k, q)) = (
        a,
        m,
        (
          formals_of x t ++ b,
          rules.section n k,
          q ∙ ap (λ (c : List Formal). c ++ b) e
              ∙ append_assoc a (formals_of x t) b,
        ),
      )

      parts : {c : List Formal} → AreFormals s.types names exports (x ∷ xs) c → (t : TypeNo) × N x.of.of t
          × ((b : List Formal) × AreFormals s.types names exports xs b × (c ≡ formals_of x t ++ b))
      parts (rules.section {t = t} {fs = fs} n k) = (t, n, (fs, k, refl))

      out : {fs : List Formal} → Joined M (x ∷ xs) fs → Joined (One M x) xs fs
      out (a, m, (c, k, e)) = let q = parts k in (
        a ++ formals_of x q.0,
        (a, m, (q.0, q.1, refl)),
        (q.2.0, q.2.1, e ∙ ap (λ (c : List Formal). a ++ c) q.2.2 ∙ sym (append_assoc a (formals_of x q.0) q.2.0)),
      )

  formals_answer : (xs : List Section) → Answers g j R IsList (AreFormals s.types names exports xs) (AnyBroken xs)
      (fold (with_section g s) (Ok []) xs)
  formals_answer xs = exact g j lawful R (λ fs z. subst (AreFormals s.types names exports xs)
      (sym (z.2.2 ∙ ap (λ (a : List Formal). a ++ z.2.0) z.1)) z.2.1) (λ fs m. ([], refl, (fs, m, refl)))
      (λ f z. elim z [ inl b ↦ absurd b | inr q ↦ q ]) (λ f q. inr q) (formals_from xs (fine g j lawful R [] [] refl))

  -- ---- the result

  abbrev ResultSo : Option Qualified → Result (Option TypeNo) g.Reported → Type 0
  ResultSo q r = Answers g j R (λ (a b : Option TypeNo). a ≡ b) (GivesBack s.types names exports q)
      (BrokenResult s.types names exports q) r

  no_result : ResultSo None (Ok None)
  no_result = means None None refl rules.nothing (λ l m. one m) (λ f b. elim b [ ])
    where
      one : {l : Option TypeNo} → GivesBack s.types names exports None l → l ≡ None
      one rules.nothing = refl

  result_parts : {q : Qualified} {l : Option TypeNo} → GivesBack s.types names exports (Some q) l → (t : TypeNo) × N q t
      × (IsResult s.types t × (l ≡ Some t))
  result_parts (rules.a_result {t = t} n i) = (t, n, (i, refl))

  result_fails : {q : Qualified} {f : Breach} → BrokenResult s.types names exports (Some q) f → BN q f
      ⊎ ((t : TypeNo) × N q t × (((IsResult s.types t → ⊥) × (f ≡ first_of q ! rule.NoType))
      ⊎ (IsResult s.types t × ⊥)))
  result_fails (rules.in_result b) = inl b
  result_fails {q = q} (rules.no_result {t = t} n i) =
      inr (t, n, inl (i, ap (λ (at : Pos). at ! rule.NoType) (sym (place_same q.module q.name))))

  fails_result : {q : Qualified} {f : Breach} → BN q f
      ⊎ ((t : TypeNo) × N q t × (((IsResult s.types t → ⊥) × (f ≡ first_of q ! rule.NoType))
      ⊎ (IsResult s.types t × ⊥))) → BrokenResult s.types names exports (Some q) f
  fails_result (inl b) = rules.in_result b
  fails_result {q = q} (inr (t, n, inl (i, e))) =
      subst (BrokenResult s.types names exports (Some q))
      (sym (e ∙ ap (λ (at : Pos). at ! rule.NoType) (place_same q.module q.name))) (rules.no_result n i)
  fails_result (inr (t, n, inr z)) = absurd z.1

  result_answers : (q : Option Qualified) → ResultSo q (result_of g s q)
  result_answers None = no_result
  result_answers (Some q) = exact g j lawful R
      (λ l z. subst (GivesBack s.types names exports (Some q)) (sym z.2.1) (rules.a_result z.1 z.2.0))
      (λ l m. result_parts m) (λ f z. fails_result z) (λ f b. result_fails b)
      (then_answer g j lawful R {N = λ t l. IsResult s.types t × (l ≡ Some t)}
      {D = λ t f. ((IsResult s.types t → ⊥) × (f ≡ first_of q ! rule.NoType)) ⊎ (IsResult s.types t × ⊥)}
      (type_name_answers g j lawful names exports s knows q) (λ t u e. given t u e))
    where
      given : (t u : TypeNo) → t ≡ u → Answers g j R (λ (a b : Option TypeNo). a ≡ b)
          (λ l. IsResult s.types u × (l ≡ Some u))
          (λ f. ((IsResult s.types u → ⊥) × (f ≡ first_of q ! rule.NoType)) ⊎ (IsResult s.types u × ⊥))
          (result_in g s.types (first_of q) t)
      given t u e = subst (λ (u : TypeNo). Answers g j R (λ (a b : Option TypeNo). a ≡ b)
          (λ l. IsResult s.types u × (l ≡ Some u))
          (λ f. ((IsResult s.types u → ⊥) × (f ≡ first_of q ! rule.NoType)) ⊎ (IsResult s.types u × ⊥))
          (result_in g s.types (first_of q) t)) e
          (where_answers g j lawful R {P = IsResult s.types t} {M = λ l. l ≡ Some t} {B = λ f. ⊥} (is_result s.types t)
          (first_of q) rule.NoType (result_decided s.types t) (λ i. fine g j lawful R (Some t) (Some t) refl))

  -- ---- both

  abbrev IsSigned : Made → Signature → Type 0
  IsSigned m x = m ≡ rules.procedure_made x

  same_signature : {fs hs : List Formal} {r q : Option TypeNo} → fs ≡ hs → r ≡ q
      → ◌≡◌ {A = Signature} (record { formals = fs; result = r }) (record { formals = hs; result = q })
  same_signature {fs = fs} {hs = hs} {r = r} {q = q} e k =
      ap (λ (x : List Formal). let z : Signature = record { formals = x; result = r } in z) e
      ∙ ap (λ (x : Option TypeNo). let z : Signature = record { formals = hs; result = x } in z) k

  pub heading_answers : (h : Heading) → Answers g j R IsSigned (IsHeading s.types names exports h)
      (BrokenHeading s.types names exports h) (heading_of g s h)
  heading_answers h = exact g j lawful R {M = λ x. (k : List Formal × Option TypeNo)
      × (AreFormals s.types names exports h.formals k.0 × GivesBack s.types names exports h.result k.1)
      × (x ≡ record { formals = k.0; result = k.1 })}
      {B = λ f. (AnyBroken h.formals f ⊎ BrokenResult s.types names exports h.result f)
      ⊎ ((k : List Formal × Option TypeNo) ×
      (AreFormals s.types names exports h.formals k.0 × GivesBack s.types names exports h.result k.1) × ⊥)}
      (λ x z. into z) (λ x m. ((x.formals, x.result), (m.formals, m.result), refl)) (λ f z. fails z) (λ f b. broken b)
      (then_answer g j lawful R {N = λ k x. x ≡ record { formals = k.0; result = k.1 }} {D = λ k f. ⊥}
      (both_answer g j lawful R (formals_answer h.formals) (result_answers h.result)) (λ p k i. made p k i))
    where
      into : {x : Signature} → (k : List Formal × Option TypeNo)
          × (AreFormals s.types names exports h.formals k.0 × GivesBack s.types names exports h.result k.1)
          × (x ≡ record { formals = k.0; result = k.1 }) → IsHeading s.types names exports h x
      into (k, (m, n), e) = subst (IsHeading s.types names exports h) (sym e) (record { formals = m; result = n })

      fails : {f : Breach} → (AnyBroken h.formals f ⊎ BrokenResult s.types names exports h.result f)
          ⊎ ((k : List Formal × Option TypeNo)
          × (AreFormals s.types names exports h.formals k.0 × GivesBack s.types names exports h.result k.1) × ⊥)
          → BrokenHeading s.types names exports h f
      fails (inl (inl (x, m, b))) = rules.in_formal m b
      fails (inl (inr b)) = rules.at_result b
      fails (inr z) = absurd z.2

      broken : {f : Breach} → BrokenHeading s.types names exports h f
          → (AnyBroken h.formals f ⊎ BrokenResult s.types names exports h.result f)
          ⊎ ((k : List Formal × Option TypeNo)
          × (AreFormals s.types names exports h.formals k.0 × GivesBack s.types names exports h.result k.1) × ⊥)
      broken (rules.in_formal {x = x} m b) = inl (inl (x, m, b))
      broken (rules.at_result b) = inl (inr b)

      made : (p k : List Formal × Option TypeNo) → (p.0 ≡ k.0) × (p.1 ≡ k.1)
          → Answers g j R IsSigned (λ x. x ≡ record { formals = k.0; result = k.1 }) (λ f. ⊥)
          (Ok (rules.procedure_made (record { formals = p.0; result = p.1 })))
      made p k i = means (rules.procedure_made (record { formals = p.0; result = p.1 }))
          (record { formals = k.0; result = k.1 })
          (ap (λ (x : Signature). rules.procedure_made x) (same_signature i.0 i.1)) refl (λ l e. e) (λ f z. z)

  -- ---- procedure types

  -- a parameter as a section of one name
  abbrev as_section : Parameter → Section
  as_section p = record {
    is_var = p.is_var;
    names = record { name = []; pos = record { line = 1; col = 1 } } ∷ [];
    of =
        p.of;
  }

  abbrev as_heading : List Parameter → Option Qualified → Heading
  as_heading ps q = record {
    name = record { name = []; pos = record { line = 1; col = 1 } };
    formals =
        map as_section ps;
    result = q;
  }

  same_formals : (ps : List Parameter) (so : Result (List Formal) g.Reported)
      → fold (with_parameter g s) so ps ≡ fold (with_section g s) so (map as_section ps)
  same_formals [] so = refl
  same_formals (p ∷ ps) so = same_formals ps (with_parameter g s so p)

  formals_in : {ps : List Parameter} {fs : List Formal} → AreParameters s.types names exports ps fs
      → AreFormals s.types names exports (map as_section ps) fs
  formals_in rules.no_parameter = rules.no_formal
  formals_in (rules.parameter n k) = rules.section n (formals_in k)

  formals_out : (ps : List Parameter) {fs : List Formal} → AreFormals s.types names exports (map as_section ps) fs
      → AreParameters s.types names exports ps fs
  formals_out [] rules.no_formal = rules.no_parameter
  formals_out (p ∷ ps) (rules.section n k) = rules.parameter n (formals_out ps k)

  section_of : {p : Parameter} {ps : List Parameter} → Among p ps → Among (as_section p) (map as_section ps)
  section_of here = here
  section_of (later m) = later (section_of m)

  parameter_of : (ps : List Parameter) {x : Section} → Among x (map as_section ps) → (p : Parameter) × Among p ps
      × (x.of.of ≡ p.of.of)
  parameter_of [] m = elim m [ ]
  parameter_of (p ∷ ps) here = (p, here, refl)
  parameter_of (p ∷ ps) (later m) = let q = parameter_of ps m in (q.0, later q.1, q.2)

  abbrev pub TypeIs : List Parameter → Option Qualified → Signature → Type 0
  TypeIs ps q x = AreParameters s.types names exports ps x.formals × GivesBack s.types names exports q x.result

  abbrev pub TypeFails : List Parameter → Option Qualified → Breach → Type 0
  TypeFails ps q f = ((p : Parameter) × Among p ps × BN p.of.of f) ⊎ BrokenResult s.types names exports q f

  pub procedure_type_answers : (ps : List Parameter) (q : Option Qualified)
      → Answers g j R IsSigned (TypeIs ps q) (TypeFails ps q) (procedure_type g s ps q)
  procedure_type_answers ps q = subst (λ (fs : Result (List Formal) g.Reported). Answers g j R IsSigned (TypeIs ps q)
      (TypeFails ps q) (procedure_made g fs (result_of g s q))) (sym (same_formals ps (Ok [])))
      (exact g j lawful R (λ x i. (formals_out ps i.formals, i.result))
      (λ x m. record { formals = formals_in m.0; result = m.1 }) (λ f b. to b) (λ f z. from z)
      (heading_answers (as_heading ps q)))
    where
      to : {f : Breach} → BrokenHeading s.types names exports (as_heading ps q) f → TypeFails ps q f
      to {f = f} (rules.in_formal m b) = let z = parameter_of ps m in
          inl (z.0, z.1, subst (λ (q : Qualified). BN q f) z.2 b)
      to (rules.at_result b) = inr b

      from : {f : Breach} → TypeFails ps q f → BrokenHeading s.types names exports (as_heading ps q) f
      from (inl (p, m, b)) = rules.in_formal (section_of m) b
      from (inr b) = rules.at_result b
