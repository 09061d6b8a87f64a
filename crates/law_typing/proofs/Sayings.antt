-- Declarations say exactly what their parts give.
use Rattle.std.proofs.Common.{◌≡◌, ℕ, Bool, List, ◌∷◌, Option, Result, Ok, Err, inl, inr, refl, sym, ap, subst, ◌∙◌}
use Rattle.m2_rule.specs.declared.breach.Breach.{Breach}
use Rattle.m2_tree.specs.declared.pos.Pos.{Pos}
use Rattle.m2_tree.specs.declared.name.Ident.{Ident}
use Rattle.m2_tree.specs.declared.decl.Constant.{Constant}
use Rattle.m2_tree.specs.declared.decl.TypeDecl.{TypeDecl}
use Rattle.m2_tree.specs.declared.decl.Variables.{Variables}
use Rattle.m2_tree.specs.declared.decl.TypeExpr.{TypeExpr}
use Rattle.typed_tree.specs.declared.types.TypeNo.{TypeNo}
use Rattle.typed_tree.specs.declared.known_types.Types.{Types}
use Rattle.typed_tree.specs.declared.meaning.Value.{Value}
use Rattle.typed_tree.specs.declared.meaning.Meaning.{Meaning}
use Rattle.check_scope.specs.declared.scope.Scope.{Scope}
use Rattle.check_scope.specs.Elaborated.{Gathers, plain, ◌▷◌}
use Rattle.check_const.specs.Parts.{constant}
use Rattle.check_expr.specs.Meanings.{part}
use Rattle.def_typing.specs.Operators.{Kind}
use Rattle.def_typing.specs.Things.{AValue, AVariable, AType, Headless, Standing, Known, Unknown}
use Rattle.m2_tree.specs.declared.decl.Heading.{Heading}
use Rattle.typed_tree.specs.declared.shape.Made.{Made}
use Rattle.typed_tree.specs.declared.shape.Signature.{Signature}
use Rattle.check_scope.specs.declared.meaningless.Meaningless.{Meaningless}
use Rattle.check_scope.specs.declared.meaningless.Meaningless.TheVariants as meaningless
use Rattle.check_scope.specs.declared.known.Known.TheVariants as known
use Rattle.check_scope.specs.declared.known.Origin.TheVariants.{Here}
use Rattle.check_scope.specs.Scopes.{heading_means}
use Rattle.check_type_expr.specs.Headings.{heading_of}
use Rattle.check_block.specs.Headings.{standing_of, standing_elaborated}
use Rattle.check_block.specs.declared.heading.Standing.TheVariants as place
use Rattle.def_typing.specs.Headings.{procedure_made, IsHeading, BrokenHeading}
use Rattle.law_typing.proofs.Heading.{heading_answers}
use Rattle.def_typing.specs.Constants.{AConstant, Fixes}
use Rattle.def_typing.specs.Expressions.{BrokenAsConstant}
use Rattle.def_typing.specs.Declarations as rules
use Rattle.def_typing.specs.Declarations.{Declaration, OfConstant, OfType, OfVariables, OfProcedure, Declared, types_behind, setting, procedure, is_variables, without, Means, Says, Misdeclares}
use Rattle.def_typing.specs.TypeExprs.{next_type, Added, nothing_added, type_added, Setting, IsTypeOf, BrokenType}
use Rattle.law_typing.specs.Judging.{Judges, Answers, means, refuses}
use Rattle.law_typing.specs.Exact.{IsConst, is_const, kind_of, standing, is_own_variable, Sees, sees, sees_unknown, sees_headless, Knows, Repeats}
use Rattle.law_typing.proofs.Combining.{Lawful, Tells, silent, tells}
use Rattle.law_typing.proofs.Expressing.{exactly_fixed}
use Rattle.law_typing.proofs.Enumerating.{MadeType}
use Rattle.law_typing.proofs.Declaring.{All, Elsewhere, Saying}

module _ (g : Gathers) (j : Judges g) (lawful : Lawful g j) (O : Breach → Type 0) where
  -- ---- results that are shared

  none_of : {B : Breach → Type 0} {r : Result (Unit {0}) g.Reported} → Tells g j lawful O B r → r ≡ Ok tt → (f : Breach)
      → B f → ⊥
  none_of (silent n) e = n
  none_of (tells r a) e = absurd cc

  same_error : {a b : g.Reported} → ◌≡◌ {A = Result (Unit {0}) g.Reported} (Err a) (Err b) → a ≡ b
  same_error e = cc

  covered_of : {B : Breach → Type 0} {r : Result (Unit {0}) g.Reported} (q : g.Reported) → Tells g j lawful O B r
      → r ≡ Err q → (f : Breach) → B f → j.Covers q f
  covered_of q (silent n) e = absurd cc
  covered_of q (tells r a) e = λ f b. subst (λ (x : g.Reported). j.Covers x f) (same_error e) (a.each f b)

  tells_all_by : {I : Type 0} {B : I → Breach → Type 0} (r : Result (Unit {0}) g.Reported) (i : I)
      → ((i : I) → Tells g j lawful O (B i) r) → (q : Result (Unit {0}) g.Reported) → Tells g j lawful O (B i) q → r ≡ q
      → Tells g j lawful O (λ f. (i : I) × B i f) q
  tells_all_by r i h _ (silent n) e = silent (λ f x. none_of (h x.0) e f x.1)
  tells_all_by r i h _ (tells q a) e = tells q
      (record {
        only = λ f m. elim (a.only f m) [ inl b ↦ inl (i, b) | inr o ↦ inr o ];
        each =
            λ f x. covered_of q (h x.0) e f x.1;
      })

  -- One result that tells of each way to read a part tells of all of them.
  pub tells_all : {I : Type 0} {B : I → Breach → Type 0} (r : Result (Unit {0}) g.Reported) → I
      → ((i : I) → Tells g j lawful O (B i) r) → Tells g j lawful O (λ f. (i : I) × B i f) r
  tells_all r i h = tells_all_by r i h r (h i) refl

  tells_of : {A K : Type 0} {Is : A → K → Type 0} {M : K → Type 0} {B : Breach → Type 0} {r : Result A g.Reported}
      → Answers g j O Is M B r → Tells g j lawful O B (r ▷ λ a. Ok tt)
  tells_of (means a k i m u n) = silent n
  tells_of (refuses r a n) = tells r a

  pub more_answers : {A K : Type 0} {Is : A → K → Type 0} {M : K → Type 0} {B Q : Breach → Type 0}
      {r : Result A g.Reported} → ((f : Breach) → Q f → O f) → Answers g j Q Is M B r → Answers g j O Is M B r
  more_answers h (means a k i m u n) = means a k i m u n
  more_answers h (refuses r c n) = refuses r
      (record { only = λ f m. elim (c.only f m) [ inl b ↦ inl b | inr o ↦ inr (h f o) ]; each = c.each }) n

-- ---- what a declaration says

abbrev pub Saids : Type 0
Saids = Added × Standing

abbrev pub said_constant : Value → Saids
said_constant v = (nothing_added, Known (AValue (kind_of v)))

abbrev pub said_type : Added → TypeNo → Saids
said_type a t = (a, Known (AType t))

abbrev pub said_variables : Added → TypeNo → Saids
said_variables a t = (a, Known (AVariable t))

abbrev pub said_procedure : Bool → Types → Made → Saids
said_procedure nested types m = (type_added m, Known (procedure nested (next_type types)))

module _ (g : Gathers) (j : Judges g) (lawful : Lawful g j) (exports : ℕ → Ident → Standing)
    (outside : Ident → Standing) (start : Scope g.Reported) (taken : List ℕ → Bool) (awaited : List ℕ → Option TypeNo)
    (nested : Bool) (block : List Declaration) where
  abbrev Stand : List Declared → (Ident → Standing) → Type 0
  Stand = All g j exports outside start taken awaited nested block

  abbrev O : List Declared → Breach → Type 0
  O = Elsewhere g j exports outside start taken awaited nested block

  abbrev pub Set : List Declared → Declaration → (Ident → Standing) → Setting
  Set = setting start.types exports outside taken awaited nested block

  abbrev SaysHere : List Declared → (Ident → Standing) → Declaration → Saids → Type 0
  SaysHere front names d k = Says exports (Set front d names) nested d k.0 k.1

  abbrev Mis : List Declared → (Ident → Standing) → Declaration → Breach → Type 0
  Mis front names d = Misdeclares exports (Set front d names) d

  -- A result stands for what a declaration says, whatever its names stand for.
  abbrev pub Exactly : {A : Type 0} → (A → Saids) → List Declared → Declaration → Result A g.Reported → Type 0
  Exactly said front d r = (names : Ident → Standing) → Stand front names
      → Answers g j (O front) (λ a k. k ≡ said a) (SaysHere front names d) (Mis front names d) r

  module _ {A : Type 0} (said : A → Saids) (front : List Declared) (d : Declared) where
    abbrev MeansHere : Standing → Type 0
    MeansHere = Means start.types exports outside taken awaited nested block front d

    stands_by : {names : Ident → Standing} {r : Result A g.Reported} → ((a : A) → r ≡ Ok a → d.adds ≡ (said a).0)
        → Stand front names → Answers g j (O front) (λ a k. k ≡ said a) (SaysHere front names d.what)
        (Mis front names d.what) r → (s : Standing) × MeansHere s
    stands_by {names = names} h all (means a k i m u n) = (
      k.1,
      rules.says all (subst (λ (b : Added). SaysHere front names d.what (b, k.1))
          (ap (λ (x : Saids). x.0) i ∙ sym (h a refl)) m),
    )
    stands_by h all (refuses r c n) = (without nested d.what, rules.says_nothing all (λ ms s m. n (ms, s) m))

    module _ (made : A → Meaning) (is_made : (a : A) → (said a).1 ≡ standing (made a)) where
      abbrev meant : Result A g.Reported → Result Meaning g.Reported
      meant r = r ▷ λ a. Ok (made a)

      seen_says : {names : Ident → Standing} {r : Result A g.Reported} {s : Standing} (at : Pos)
          → Answers g j (O front) (λ a k. k ≡ said a) (SaysHere front names d.what) (Mis front names d.what) r
          → SaysHere front names d.what (d.adds, s) → (q : A) × (r ≡ Ok q) × (s ≡ standing (made q))
      seen_says {s = s} at (means a k i w u n) m = (a, refl, ap (λ (x : Saids). x.1) (u (d.adds, s) m ∙ i) ∙ is_made a)
      seen_says {s = s} at (refuses r c n) m = absurd (n (d.adds, s) m)

      seen_nothing : {names : Ident → Standing} {r : Result A g.Reported}
          → Answers g j (O front) (λ a k. k ≡ said a) (SaysHere front names d.what) (Mis front names d.what) r
          → ((ms : Added) (s : Standing) → SaysHere front names d.what (ms, s) → ⊥) → (q : g.Reported) × (r ≡ Err q)
      seen_nothing (means a k i w u c) n = absurd (n k.0 k.1 w)
      seen_nothing (refuses r c w) n = (r, refl)

      -- with a meaning, or without one
      seen_by : (into : Result Meaning g.Reported → Result Meaning (Meaningless g.Reported)) {r : Result A g.Reported}
          → Exactly said front d.what r → (at : Pos) → ((m : Meaning) → into (Ok m) ≡ Ok m)
          → ((q : g.Reported) → Sees g j at (without nested d.what) (into (Err q))) → {s : Standing} → MeansHere s
          → Sees g j at s (into (meant r))
      seen_by into h at ok err (rules.says {names = names} {s = s} all m) = let q = seen_says at (h names all) m in
          subst (λ (r : Result A g.Reported). Sees g j at s (into (meant r))) (sym q.1)
          (subst (λ (s : Standing). Sees g j at s (into (Ok (made q.0)))) (sym q.2)
          (subst (λ (x : Result Meaning (Meaningless g.Reported)). Sees g j at (standing (made q.0)) x)
          (sym (ok (made q.0))) (sees (made q.0))))
      seen_by into h at ok err (rules.says_nothing {names = names} all n) = let q = seen_nothing (h names all) n in
          subst (λ (r : Result A g.Reported). Sees g j at (without nested d.what) (into (meant r))) (sym q.1) (err q.0)

      repeats_by : {names : Ident → Standing} {r : Result A g.Reported} → Stand front names
          → Answers g j (O front) (λ a k. k ≡ said a) (SaysHere front names d.what) (Mis front names d.what) r
          → (q : g.Reported) → meant r ≡ Err q → (f : Breach) → j.Among q f → O (d ∷ front) f
      repeats_by all (means a k i m u n) q e f z = absurd cc
      repeats_by {names = names} all (refuses r c n) q e f z = let same : r ≡ q = cc in
          elim (c.only f (subst (λ (x : g.Reported). j.Among x f) (sym same) z))
          [ inl b ↦ inr (rules.inside all b) | inr o ↦ elim o [ inl y ↦ inl y | inr y ↦ inr (rules.in_front y) ] ]

      plain_heading : {b : Bool} {q : g.Reported} (m : Result Meaning g.Reported)
          → plain m ≡ Err (meaningless.Headless b q) → ⊥
      plain_heading (Ok m) e = absurd cc
      plain_heading (Err r) e = absurd cc

      plain_broken : {q : g.Reported} (m : Result Meaning g.Reported) → plain m ≡ Err (meaningless.Broken q) → m ≡ Err q
      plain_broken (Ok m) e = absurd cc
      plain_broken (Err r) e = cc

      heading_broken : {q : g.Reported} (m : Result Meaning g.Reported)
          → heading_means nested m ≡ Err (meaningless.Broken q) → ⊥
      heading_broken (Ok m) e = absurd cc
      heading_broken (Err r) e = absurd cc

      heading_heading : {b : Bool} {q : g.Reported} (m : Result Meaning g.Reported)
          → heading_means nested m ≡ Err (meaningless.Headless b q) → m ≡ Err q
      heading_heading (Ok m) e = absurd cc
      heading_heading (Err r) e = cc

      plain_own : ((a : A) → is_own_variable start (made a) ≡ is_variables d.what)
          → (r : Result A g.Reported) {m : Meaning} → plain (meant r) ≡ Ok m
          → is_own_variable start m ≡ is_variables d.what
      plain_own h (Ok a) {m = m} e = let same : made a ≡ m = cc in
          subst (λ (m : Meaning). is_own_variable start m ≡ is_variables d.what) same (h a)
      plain_own h (Err q) e = absurd cc

      heading_own : ((a : A) → is_own_variable start (made a) ≡ is_variables d.what)
          → (r : Result A g.Reported) {m : Meaning} → heading_means nested (meant r) ≡ Ok m
          → is_own_variable start m ≡ is_variables d.what
      heading_own h (Ok a) {m = m} e = let same : made a ≡ m = cc in
          subst (λ (m : Meaning). is_own_variable start m ≡ is_variables d.what) same (h a)
      heading_own h (Err q) e = absurd cc

      settled_by : ((a : A) → standing_of (made a) ≡ place.Taken) → (r : Result A g.Reported)
          → standing_elaborated (meant r) ≡ place.Taken
      settled_by h (Ok a) = h a
      settled_by h (Err e) = refl

      pub saying : {r : Result A g.Reported} → Exactly said front d.what r → ((a : A) → r ≡ Ok a → d.adds ≡ (said a).0)
          → without nested d.what ≡ Unknown → ((a : A) → standing_of (made a) ≡ place.Taken)
          → ((a : A) → is_own_variable start (made a) ≡ is_variables d.what) → {names : Ident → Standing}
          → Stand front names
          → Saying g j exports outside start taken awaited nested block front d (known.Declared Here (meant r))
      saying {r = r} h e u t w {names = names} all = record {
        stands = stands_by e all (h names all);
        seen = λ s m at. seen_by (λ m. plain m) h at (λ m. refl)
            (λ q. subst (λ (s : Standing). Sees g j at s (Err (meaningless.Broken q))) (sym u) (sees_unknown q)) m;
        heading = λ at b q z f m. absurd (plain_heading (meant r) z);
        broken = λ at q z f m. repeats_by all (h names all) q (plain_broken (meant r) z) f m;
        own = λ at m z. plain_own w r z;
        not_free = refl;
        not_begun = refl;
        settled = settled_by t r;
      }

      pub saying_heading : {r : Result A g.Reported} → Exactly said front d.what r
          → ((a : A) → r ≡ Ok a → d.adds ≡ (said a).0) → without nested d.what ≡ Known (Headless nested)
          → ((a : A) → is_own_variable start (made a) ≡ is_variables d.what) → {names : Ident → Standing}
          → Stand front names
          → Saying g j exports outside start taken awaited nested block front d
          (known.Headed (heading_means nested (meant r)))
      saying_heading {r = r} h e u w {names = names} all = record {
        stands = stands_by e all (h names all);
        seen = λ s m at. seen_by (λ m. heading_means nested m) h at (λ m. refl)
            (λ q. subst (λ (s : Standing). Sees g j at s (Err (meaningless.Headless nested q))) (sym u)
            (sees_headless nested q)) m;
        heading = λ at b q z f m. repeats_by all (h names all) q (heading_heading (meant r) z) f m;
        broken = λ at q z f m. absurd (heading_broken (meant r) z);
        own = λ at m z. heading_own w r z;
        not_free = refl;
        not_begun = refl;
        settled = refl;
      }

    abbrev pub AnyMis : Breach → Type 0
    AnyMis f = (i : (names : Ident → Standing) × Stand front names) × Mis front i.0 d.what f

    pub says_tells : {r : Result A g.Reported} → Exactly said front d.what r → {names : Ident → Standing}
        → Stand front names → Tells g j lawful (O front) AnyMis (r ▷ λ a. Ok tt)
    says_tells {r = r} h {names = names} all =
        tells_all g j lawful (O front) {I = (names : Ident → Standing) × Stand front names}
        {B = λ i. Mis front i.0 d.what} (r ▷ λ a. Ok tt) (names, all) (λ i. tells_of g j lawful (O front) (h i.0 i.1))

-- ---- each declaration

module _ (g : Gathers) (j : Judges g) (lawful : Lawful g j) (nested : Bool) (types : Types) (names : Ident → Standing)
    (there : List ℕ → Bool) (exports : ℕ → Ident → Standing) (s : Scope g.Reported) (knows : Knows g j names exports s)
    (same : s.types ≡ types) where
  abbrev w : Setting
  w = record { types = types; names = names; there = there }

  abbrev R : Breach → Type 0
  R = Repeats g j names s

  abbrev SaysIt : Declaration → Saids → Type 0
  SaysIt d k = Says exports w nested d k.0 k.1

  abbrev MisIt : Declaration → Breach → Type 0
  MisIt d = Misdeclares exports w d

  abbrev So : {A : Type 0} → (A → Saids) → Declaration → Result A g.Reported → Type 0
  So said d r = Answers g j R (λ a k. k ≡ said a) (SaysIt d) (MisIt d) r

  -- a declaration says what one part of it gives
  by_part : {A K : Type 0} {Is : A → K → Type 0} {M : K → Type 0} {B : Breach → Type 0} {r : Result A g.Reported}
      (said : A → Saids) (d : Declaration) → ((a : A) (k : K) → Is a k → M k → SaysIt d (said a))
      → ((l : Saids) → SaysIt d l → (k : K) × M k × ((a : A) → Is a k → l ≡ said a)) → ((f : Breach) → B f → MisIt d f)
      → ((f : Breach) → MisIt d f → B f)
      → Answers g j R Is M B r → So said d r
  by_part {Is = Is} said d says parts to from (means a k i m u n) =
      means a (said a) refl (says a k i m) (λ l z. let q = parts l z in q.2 a (subst (Is a) (sym (u q.0 q.1)) i))
      (λ f b. n f (from f b))
  by_part said d says parts to from (refuses r c n) =
      refuses r (record {
        only = λ f m. elim (c.only f m) [ inl b ↦ inl (to f b) | inr o ↦ inr o ];
        each =
            λ f b. c.each f (from f b);
      }) (λ l z. let q = parts l z in n q.0 q.1)

  constant_fails : {c : Constant} (f : Breach) → MisIt (OfConstant c) f → BrokenAsConstant types names exports c.value f
  constant_fails f (rules.in_constant b) = b

  const_says : {c : Constant} (v : Value) (k : Kind) → IsConst v k → Fixes types names exports c.value (AConstant k)
      → SaysIt (OfConstant c) (said_constant v)
  const_says _ _ (is_const v) m = rules.constant m

  const_parts : {c : Constant} {ms : Added} {st : Standing} → Says exports w nested (OfConstant c) ms st → (k : Kind)
      × Fixes types names exports c.value (AConstant k)
      × ((v : Value) → IsConst v k → ◌≡◌ {A = Saids} (ms, st) (said_constant v))
  const_parts (rules.constant {k = k} m) = (k, m, λ v i. by v k i)
    where
      by : (v : Value) (k : Kind) → IsConst v k → ◌≡◌ {A = Saids} (nothing_added, Known (AValue k)) (said_constant v)
      by _ _ (is_const v) = refl

  pub constant_says : (c : Constant) → So said_constant (OfConstant c) (constant g s (part g c.value))
  constant_says c = by_part {Is = IsConst} said_constant (OfConstant c) const_says (λ l z. const_parts z)
      (λ f b. rules.in_constant b) constant_fails
      (subst (λ (types : Types). Answers g j R IsConst (λ k. Fixes types names exports c.value (AConstant k))
      (BrokenAsConstant types names exports c.value) (constant g s (part g c.value))) same
      (exactly_fixed g j lawful names exports s knows c.value))

  -- ---- types

  -- what a type is, and which types it makes
  abbrev pub TypeSo : TypeExpr → Added → Result TypeNo g.Reported → Type 0
  TypeSo e ms r = Answers g j R (λ a k. k ≡ (ms, a)) (λ (k : MadeType). IsTypeOf exports w e k.0 k.1)
      (BrokenType exports w e) r

  abbrev IsMadeType : Added → TypeNo → MadeType → Type 0
  IsMadeType ms a k = k ≡ (ms, a)

  of_type_parts : {d : TypeDecl} {ms : Added} {st : Standing} → Says exports w nested (OfType d) ms st → (k : MadeType)
      × IsTypeOf exports w d.of k.0 k.1 × (◌≡◌ {A = Saids} (ms, st) (k.0, Known (AType k.1)))
  of_type_parts (rules.a_type {a = ms} {t = t} m) = ((ms, t), m, refl)

  of_type_fails : {d : TypeDecl} (f : Breach) → MisIt (OfType d) f → BrokenType exports w d.of f
  of_type_fails f (rules.in_type b) = b

  pub of_type_says : (d : TypeDecl) (ms : Added) {r : Result TypeNo g.Reported} → TypeSo d.of ms r
      → So (said_type ms) (OfType d) r
  of_type_says d ms h = by_part {Is = IsMadeType ms} (said_type ms) (OfType d)
      (λ a k i m. rules.a_type (subst (λ (k : MadeType). IsTypeOf exports w d.of k.0 k.1) i m))
      (λ l z. let q = of_type_parts z in (
        q.0,
        q.1,
        λ a i. q.2
            ∙ ap (λ (k : MadeType). let y : Saids = (k.0, Known (AType k.1)) in y) i,
      )) (λ f b. rules.in_type b)
      of_type_fails h

  variable_parts : {v : Variables} {ms : Added} {st : Standing} → Says exports w nested (OfVariables v) ms st
      → (k : MadeType) × IsTypeOf exports w v.of k.0 k.1 × (◌≡◌ {A = Saids} (ms, st) (k.0, Known (AVariable k.1)))
  variable_parts (rules.variables {a = ms} {t = t} m) = ((ms, t), m, refl)

  variable_fails : {v : Variables} (f : Breach) → MisIt (OfVariables v) f → BrokenType exports w v.of f
  variable_fails f (rules.in_variables b) = b

  pub variables_say : (v : Variables) (ms : Added) {r : Result TypeNo g.Reported} → TypeSo v.of ms r
      → So (said_variables ms) (OfVariables v) r
  variables_say v ms h = by_part {Is = IsMadeType ms} (said_variables ms) (OfVariables v)
      (λ a k i m. rules.variables (subst (λ (k : MadeType). IsTypeOf exports w v.of k.0 k.1) i m))
      (λ l z. let q = variable_parts z in (
        q.0,
        q.1,
        λ a i. q.2
            ∙ ap (λ (k : MadeType). let y : Saids = (k.0, Known (AVariable k.1)) in y) i,
      )) (λ f b. rules.in_variables b)
      variable_fails h

  -- ---- procedures

  heading_parts : {h : Heading} {ms : Added} {st : Standing} → Says exports w nested (OfProcedure h) ms st
      → (x : Signature) × IsHeading types names exports h x
      × ((m : Made) → m ≡ procedure_made x → ◌≡◌ {A = Saids} (ms, st) (said_procedure nested types m))
  heading_parts (rules.a_procedure {s = x} i) = (x, i, λ m e. ap (λ (m : Made). said_procedure nested types m) (sym e))

  heading_fails : {h : Heading} (f : Breach) → MisIt (OfProcedure h) f → BrokenHeading types names exports h f
  heading_fails f (rules.in_heading b) = b

  pub procedure_says : (h : Heading) → So (said_procedure nested types) (OfProcedure h) (heading_of g s h)
  procedure_says h = by_part {Is = λ (m : Made) (x : Signature). m ≡ procedure_made x} (said_procedure nested types)
      (OfProcedure h) (λ m x e i. subst (λ (m : Made). SaysIt (OfProcedure h) (said_procedure nested types m)) (sym e)
      (rules.a_procedure i)) (λ l z. heading_parts z) (λ f b. rules.in_heading b) heading_fails
      (subst (λ (types : Types). Answers g j R (λ (m : Made) (x : Signature). m ≡ procedure_made x)
      (IsHeading types names exports h) (BrokenHeading types names exports h) (heading_of g s h)) same
      (heading_answers g j lawful names exports s knows h))
