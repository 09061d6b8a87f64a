-- Names of types are answered exactly.
use Rattle.std.proofs.Common.{◌≡◌, ℕ, Option, Some, None, Result, Ok, Err, ◌⊎◌, inl, inr, refl, sym, ap, subst, ◌∙◌}
use Rattle.std.specs.Prelude.{slice_get}
use Rattle.m2_rule.specs.declared.rule.Rule.TheVariants as rule
use Rattle.m2_rule.specs.declared.breach.Breach.{Breach}
use Rattle.m2_tree.specs.declared.pos.Pos.{Pos}
use Rattle.m2_tree.specs.declared.name.Ident.{Ident}
use Rattle.m2_tree.specs.declared.expr.Qualified.{Qualified}
use Rattle.typed_tree.specs.declared.types.TypeNo.{TypeNo}
use Rattle.typed_tree.specs.declared.meaning.LocalKind.{LocalKind}
use Rattle.typed_tree.specs.declared.meaning.LocalKind.TheVariants as local
use Rattle.typed_tree.specs.declared.meaning.Meaning.{Meaning}
use Rattle.typed_tree.specs.declared.meaning.Meaning.TheVariants as meaning
use Rattle.check_scope.specs.declared.meaningless.Meaningless.{Meaningless}
use Rattle.check_scope.specs.declared.meaningless.Meaningless.TheVariants as meaningless
use Rattle.check_scope.specs.declared.scope.Scope.{Scope}
use Rattle.check_scope.specs.Elaborated.{Gathers, report, of_sort, ◌▷◌}
use Rattle.check_scope.specs.Scopes.{looked_up}
use Rattle.check_const.specs.Denote.{exported_by, export_of, exported_meaning}
use Rattle.check_type_expr.specs.Named.{type_meant, in_module, of_module, named_type}
use Rattle.def_typing.specs.Operators.{◌!◌}
use Rattle.def_typing.specs.Things.{Thing, AValue, AVariable, AnOpenArray, AType, AProcedure, ANested, AStandard, AModule, Headless, Standing, Known, Ahead, Undeclared, NotExported, Unknown, Misnamed, undeclared, not_exported}
use Rattle.def_typing.specs.Constants.{Misses, no_name, other_sort, a_procedure}
use Rattle.def_typing.specs.TypeNames as rules
use Rattle.def_typing.specs.TypeNames.{IsType, IsModule, NamesType, alone, BrokenTypeName}
use Rattle.law_typing.specs.Judging.{Judges, Answers, means, refuses}
use Rattle.law_typing.specs.Exact.{of_local, standing, Sees, sees, sees_nothing, sees_headless, sees_unknown, Exports, has_exported, has_nothing, Knows, Repeats, of_declaration}
use Rattle.law_typing.proofs.Combining.{Lawful, declined, exact}
use Rattle.law_typing.proofs.Selecting.{known_one}

abbrev type_in : TypeNo → Thing → TypeNo
type_in t (AType u) = u
type_in t other = t

one_type : {t u : TypeNo} → Known (AType t) ≡ Known (AType u) → u ≡ t
one_type {t = t} e = sym (ap (type_in t) (known_one e))

abbrev module_in : ℕ → Thing → ℕ
module_in k (AModule n) = n
module_in k other = k

one_module : {k n : ℕ} → Known (AModule k) ≡ Known (AModule n) → n ≡ k
one_module {k = k} e = sym (ap (module_in k) (known_one e))

undeclared_one : {at : Pos} {f : Breach} → Misnamed at Undeclared f → f ≡ at ! rule.Undeclared
undeclared_one undeclared = refl

unexported_one : {at : Pos} {f : Breach} → Misnamed at NotExported f → f ≡ at ! rule.NotExported
unexported_one not_exported = refl

module _ (g : Gathers) (j : Judges g) (lawful : Lawful g j) (O : Breach → Type 0) where
  -- ---- what is looked for, and what a name stands for

  module _ (spot at : Pos) where
    abbrev TypeSo : Standing → Result TypeNo g.Reported → Type 0
    TypeSo st r = Answers g j O (λ (t u : TypeNo). t ≡ u) (λ t. st ≡ Known (AType t)) (Misses IsType spot at st) r

    other_type : (x : Thing) → (IsType x → ⊥) → TypeSo (Known x) (report g spot rule.NoType)
    other_type x n = declined g j lawful O spot rule.NoType (λ t e. n (t, known_one e)) (other_sort n) (λ f m. one m)
      where
        one : {f : Breach} → Misses IsType spot at (Known x) f → f ≡ spot ! rule.NoType
        one (no_name m) = elim m.misnamed [ ]
        one (other_sort z) = refl

    is_type : (t : TypeNo) → TypeSo (Known (AType t)) (Ok t)
    is_type t = means t t refl refl (λ u e. one_type e) (λ f m. none m)
      where
        none : {f : Breach} → Misses IsType spot at (Known (AType t)) f → ⊥
        none (no_name m) = elim m.misnamed [ ]
        none (other_sort z) = z (t, refl)

    ahead_type : TypeSo Ahead (report g spot rule.NoType)
    ahead_type = declined g j lawful O spot rule.NoType (λ t e. absurd cc) a_procedure (λ f m. one m)
      where
        one : {f : Breach} → Misses IsType spot at Ahead f → f ≡ spot ! rule.NoType
        one (no_name m) = absurd (m.not_ahead refl)
        one a_procedure = refl

    local_type : (t : TypeNo) (k : LocalKind) → TypeSo (of_local t k) (report g spot rule.NoType)
    local_type t local.Variable = other_type (AVariable t) (λ q. let e = q.1 in absurd cc)
    local_type t local.Value = other_type (AVariable t) (λ q. let e = q.1 in absurd cc)
    local_type t local.Alias = other_type (AVariable t) (λ q. let e = q.1 in absurd cc)
    local_type t local.Open = other_type (AnOpenArray t) (λ q. let e = q.1 in absurd cc)

    type_by : (m : Meaning) → TypeSo (standing m) (type_meant g spot m)
    type_by (meaning.Constant v) = other_type (AValue _) (λ q. let e = q.1 in absurd cc)
    type_by (meaning.Type t n) = is_type t
    type_by (meaning.Variable v) = other_type (AVariable v.of) (λ q. let e = q.1 in absurd cc)
    type_by (meaning.Local v) = local_type v.of v.kind
    type_by (meaning.Field f) = other_type (AVariable f.of) (λ q. let e = q.1 in absurd cc)
    type_by (meaning.Procedure p) = other_type (AProcedure p.heading) (λ q. let e = q.1 in absurd cc)
    type_by (meaning.LocalProcedure p) = other_type (ANested p.heading) (λ q. let e = q.1 in absurd cc)
    type_by meaning.Ahead = ahead_type
    type_by (meaning.Standard p) = other_type (AStandard p) (λ q. let e = q.1 in absurd cc)
    type_by (meaning.Module k) = other_type (AModule k) (λ q. let e = q.1 in absurd cc)

    type_exported : (st : Standing) (m : Option Meaning) → Exports g j st m
        → TypeSo st (export_of g at m ▷ type_meant g spot)
    type_exported _ _ (has_exported m) = type_by m
    type_exported _ _ has_nothing = declined g j lawful O at rule.NotExported (λ t e. absurd cc)
        (no_name (record { not_ahead = λ e. absurd cc; misnamed = not_exported })) (λ f m. one m)
      where
        one : {f : Breach} → Misses IsType spot at NotExported f → f ≡ at ! rule.NotExported
        one (no_name m) = unexported_one m.misnamed

module _ (g : Gathers) (j : Judges g) (lawful : Lawful g j) (names : Ident → Standing) (exports : ℕ → Ident → Standing)
    (s : Scope g.Reported) (knows : Knows g j names exports s) where
  abbrev R : Breach → Type 0
  R = Repeats g j names s

  -- what is not known to be anything
  misses_undeclared : {Fits : Thing → Type 0} {at : Pos} {f : Breach} → Misses Fits at at Undeclared f
      → f ≡ at ! rule.Undeclared
  misses_undeclared (no_name m) = undeclared_one m.misnamed

  misses_unknown : {Fits : Thing → Type 0} {at : Pos} {f : Breach} → Misses Fits at at Unknown f → ⊥
  misses_unknown (no_name m) = elim m.misnamed [ ]

  undeclared_name : {A K : Type 0} {Is : A → K → Type 0} {M : K → Type 0} {Fits : Thing → Type 0} (at : Pos)
      → ((k : K) → M k → ⊥) → Answers g j R Is M (Misses Fits at at Undeclared) (report g at rule.Undeclared)
  undeclared_name at n = declined g j lawful R at rule.Undeclared n
      (no_name (record { not_ahead = λ e. absurd cc; misnamed = undeclared })) (λ f m. misses_undeclared m)

  unknown_name : {A K : Type 0} {Is : A → K → Type 0} {M : K → Type 0} {Fits : Thing → Type 0} (name : Ident)
      (r : g.Reported) → names name ≡ Unknown → looked_up g s name ≡ Err (meaningless.Broken r) → ((k : K) → M k → ⊥)
      → Answers g j R {A = A} Is M (Misses Fits name.pos name.pos Unknown) (Err r)
  unknown_name name r e q n = refuses r (record
      { only = λ f m. inr (of_declaration e q m); each = λ f m. absurd (misses_unknown m) }) n

  type_seen : (name : Ident) (st : Standing) (r : Result Meaning (Meaningless g.Reported)) → names name ≡ st
      → looked_up g s name ≡ r → Sees g j name.pos st r
      → TypeSo g j lawful R name.pos name.pos st (of_sort g name.pos rule.NoType r ▷ type_meant g name.pos)
  type_seen name _ _ e q (sees m) = type_by g j lawful R name.pos name.pos m
  type_seen name _ _ e q sees_nothing = undeclared_name name.pos (λ t z. absurd cc)
  type_seen name _ _ e q (sees_headless b r) =
      other_type g j lawful R name.pos name.pos (Headless b) (λ z. let w = z.1 in absurd cc)
  type_seen name _ _ e q (sees_unknown r) = unknown_name name r e q (λ t z. absurd cc)

  -- ---- M.T

  module _ (home name : Ident) where
    abbrev MemberIs : Standing → TypeNo → Type 0
    MemberIs st t = (k : ℕ) × (st ≡ Known (AModule k)) × (exports k name ≡ Known (AType t))

    abbrev MemberFails : Standing → Breach → Type 0
    MemberFails st f = Misses IsModule home.pos home.pos st f
        ⊎ ((k : ℕ) × (st ≡ Known (AModule k)) × Misses IsType home.pos name.pos (exports k name) f)

    abbrev MemberSo : Standing → Result TypeNo g.Reported → Type 0
    MemberSo st r = Answers g j R (λ (t u : TypeNo). t ≡ u) (MemberIs st) (MemberFails st) r

    other_module : (x : Thing) → (IsModule x → ⊥) → MemberSo (Known x) (report g home.pos rule.NoType)
    other_module x n = declined g j lawful R home.pos rule.NoType (λ t z. n (z.0, known_one z.1)) (inl (other_sort n))
        (λ f z. one z)
      where
        one : {f : Breach} → MemberFails (Known x) f → f ≡ home.pos ! rule.NoType
        one (inl (no_name m)) = elim m.misnamed [ ]
        one (inl (other_sort z)) = refl
        one (inr z) = absurd (n (z.0, known_one z.1))

    ahead_module : MemberSo Ahead (report g home.pos rule.NoType)
    ahead_module = declined g j lawful R home.pos rule.NoType (λ t z. let e = z.1 in absurd cc) (inl a_procedure)
        (λ f z. one z)
      where
        one : {f : Breach} → MemberFails Ahead f → f ≡ home.pos ! rule.NoType
        one (inl (no_name m)) = absurd (m.not_ahead refl)
        one (inl a_procedure) = refl
        one (inr z) = let e = z.1 in absurd cc

    local_module : (t : TypeNo) (k : LocalKind) → MemberSo (of_local t k) (report g home.pos rule.NoType)
    local_module t local.Variable = other_module (AVariable t) (λ q. let e = q.1 in absurd cc)
    local_module t local.Value = other_module (AVariable t) (λ q. let e = q.1 in absurd cc)
    local_module t local.Alias = other_module (AVariable t) (λ q. let e = q.1 in absurd cc)
    local_module t local.Open = other_module (AnOpenArray t) (λ q. let e = q.1 in absurd cc)

    in_that : (k : ℕ) → MemberSo (Known (AModule k)) (exported_meaning g s.tables k name ▷ type_meant g home.pos)
    in_that k = exact g j lawful R {M = λ t. exports k name ≡ Known (AType t)}
        {B = Misses IsType home.pos name.pos (exports k name)} (λ t e. (k, refl, e))
        (λ t z. subst (λ (n : ℕ). exports n name ≡ Known (AType t)) (one_module z.1) z.2) (λ f m. inr (k, refl, m))
        (λ f z. out z)
        (type_exported g j lawful R home.pos name.pos (exports k name) (exported_by name.name (slice_get s.tables k))
        (knows.of_modules k name))
      where
        out : {f : Breach} → MemberFails (Known (AModule k)) f → Misses IsType home.pos name.pos (exports k name) f
        out (inl (no_name m)) = elim m.misnamed [ ]
        out (inl (other_sort z)) = absurd (z (k, refl))
        out {f = f} (inr z) = subst (λ (n : ℕ). Misses IsType home.pos name.pos (exports n name) f) (one_module z.1) z.2

    member_by : (m : Meaning) → MemberSo (standing m) (in_module g s home.pos name m)
    member_by (meaning.Constant v) = other_module (AValue _) (λ q. let e = q.1 in absurd cc)
    member_by (meaning.Type t n) = other_module (AType t) (λ q. let e = q.1 in absurd cc)
    member_by (meaning.Variable v) = other_module (AVariable v.of) (λ q. let e = q.1 in absurd cc)
    member_by (meaning.Local v) = local_module v.of v.kind
    member_by (meaning.Field f) = other_module (AVariable f.of) (λ q. let e = q.1 in absurd cc)
    member_by (meaning.Procedure p) = other_module (AProcedure p.heading) (λ q. let e = q.1 in absurd cc)
    member_by (meaning.LocalProcedure p) = other_module (ANested p.heading) (λ q. let e = q.1 in absurd cc)
    member_by meaning.Ahead = ahead_module
    member_by (meaning.Standard p) = other_module (AStandard p) (λ q. let e = q.1 in absurd cc)
    member_by (meaning.Module k) = in_that k

    no_member : {st : Standing} {r : Result TypeNo g.Reported} → ((k : ℕ) → st ≡ Known (AModule k) → ⊥)
        → Answers g j R (λ (t u : TypeNo). t ≡ u) (λ t. ⊥) (Misses IsModule home.pos home.pos st) r → MemberSo st r
    no_member n h = exact g j lawful R (λ t z. absurd z) (λ t z. n z.0 z.1) (λ f m. inl m)
        (λ f z. elim z [ inl m ↦ m | inr q ↦ absurd (n q.0 q.1) ]) h

    member_seen : (st : Standing) (r : Result Meaning (Meaningless g.Reported)) → names home ≡ st
        → looked_up g s home ≡ r → Sees g j home.pos st r
        → MemberSo st (of_sort g home.pos rule.NoType r ▷ in_module g s home.pos name)
    member_seen _ _ e q (sees m) = member_by m
    member_seen _ _ e q sees_nothing = no_member (λ k z. absurd cc) (undeclared_name home.pos (λ t z. z))
    member_seen _ _ e q (sees_headless b r) = other_module (Headless b) (λ z. let w = z.1 in absurd cc)
    member_seen _ _ e q (sees_unknown r) = no_member (λ k z. absurd cc) (unknown_name home r e q (λ t z. z))

  -- ---- T or M.T

  abbrev NameSo : Qualified → Result TypeNo g.Reported → Type 0
  NameSo q r = Answers g j R (λ (t u : TypeNo). t ≡ u) (NamesType names exports q) (BrokenTypeName names exports q) r

  alone_type : (q : Qualified) → q.module ≡ None → {t : TypeNo} → NamesType names exports q t
      → names q.name ≡ Known (AType t)
  alone_type q h (alone e m) = m
  alone_type q h (rules.of_module e m n) = let z = sym h ∙ e in absurd cc

  alone_broken : (q : Qualified) → q.module ≡ None → {f : Breach} → BrokenTypeName names exports q f
      → Misses IsType q.name.pos q.name.pos (names q.name) f
  alone_broken q h (rules.at_name e m) = m
  alone_broken q h (rules.at_module e m) = let z = sym h ∙ e in absurd cc
  alone_broken q h (rules.in_module e m n) = let z = sym h ∙ e in absurd cc

  abbrev home_in : Ident → Option Ident → Ident
  home_in x (Some y) = y
  home_in x None = x

  same_home : {home x : Ident} {m : Option Ident} → m ≡ Some home → m ≡ Some x → x ≡ home
  same_home {home = home} h e = ap (home_in home) (sym e ∙ h)

  member_type : (q : Qualified) (home : Ident) → q.module ≡ Some home → {t : TypeNo} → NamesType names exports q t
      → MemberIs home q.name (names home) t
  member_type q home h (alone e m) = let z = sym h ∙ e in absurd cc
  member_type q home h (rules.of_module {k = k} e m n) =
      (k, subst (λ (x : Ident). names x ≡ Known (AModule k)) (same_home h e) m, n)

  member_broken : (q : Qualified) (home : Ident) → q.module ≡ Some home → {f : Breach}
      → BrokenTypeName names exports q f → MemberFails home q.name (names home) f
  member_broken q home h (rules.at_name e m) = let z = sym h ∙ e in absurd cc
  member_broken q home h {f = f} (rules.at_module e m) =
      inl (subst (λ (x : Ident). Misses IsModule x.pos x.pos (names x) f) (same_home h e) m)
  member_broken q home h {f = f} (rules.in_module {k = k} e m n) =
      inr (
        k,
        subst (λ (x : Ident). names x ≡ Known (AModule k)) (same_home h e) m,
        subst
            (λ (x : Ident). Misses IsType x.pos q.name.pos (exports k q.name) f) (same_home h e) n,
      )

  name_by : (q : Qualified) (m : Option Ident) → q.module ≡ m → NameSo q (of_module g s m q.name)
  name_by q None h = exact g j lawful R (λ t e. alone h e) (λ t m. alone_type q h m) (λ f m. rules.at_name h m)
      (λ f b. alone_broken q h b) (type_seen q.name (names q.name) (looked_up g s q.name) refl refl
      (knows.of_names q.name))
  name_by q (Some home) h = exact g j lawful R (λ t z. rules.of_module h z.1 z.2) (λ t m. member_type q home h m)
      (λ f z. elim z [ inl m ↦ rules.at_module h m | inr w ↦ rules.in_module h w.1 w.2 ])
      (λ f b. member_broken q home h b) (member_seen home q.name (names home) (looked_up g s home) refl refl
      (knows.of_names home))

  pub type_name_answers : (q : Qualified) → NameSo q (named_type g s q)
  type_name_answers q = name_by q q.module refl
