-- Constant expressions of declarations, read again behind the headings: exactly the broken rules are reported. That one
-- name more keeps what stands in front is proved here; that all is known there (`ReadsAgain`) is proved in law_rules.
use Rattle.std.proofs.Common.{◌≡◌, ℕ, suc, ◌+◌, ◌<◌, ◌≤◌, Bool, true, false, cond, List, [], ◌∷◌, ◌++◌, length, Option, Some, None, Result, Ok, Err, ◌⊎◌, inl, inr, refl, sym, ap, subst, ◌∙◌, arith}
use Rattle.std.specs.Prelude.{map, ◌==◌}
use Rattle.std.specs.List.{fold}
use Rattle.std.proofs.lemmas.Bool.Decides.{nat_tests}
use lib.Pointwise.{bytes_decides}
use Rattle.m2_rule.specs.declared.breach.Breach.{Breach}
use Rattle.m2_tree.specs.Names.{same_name}
use Rattle.m2_tree.specs.declared.pos.Pos.{Pos}
use Rattle.m2_tree.specs.declared.name.Ident.{Ident}
use Rattle.m2_tree.specs.declared.expr.Expr.{Expr}
use Rattle.m2_tree.specs.declared.expr.Qualified.{Qualified}
use Rattle.m2_tree.specs.declared.decl.Parameter.{Parameter}
use Rattle.m2_tree.specs.declared.decl.Constant.{Constant}
use Rattle.m2_tree.specs.declared.decl.TypeDecl.{TypeDecl}
use Rattle.m2_tree.specs.declared.decl.Variables.{Variables}
use Rattle.m2_tree.specs.declared.decl.Simple.{Simple}
use Rattle.m2_tree.specs.declared.decl.Simple.TheVariants as simple
use Rattle.m2_tree.specs.declared.decl.Field.{Field, out-Field, fold_out-Field}
use Rattle.m2_tree.specs.declared.decl.TypeExpr.{TypeExpr, TypeExpr-F, out-TypeExpr, map-TypeExpr, fold_out-TypeExpr}
use Rattle.m2_tree.specs.declared.decl.TypeExpr.TheOpen as layer
use Rattle.m2_tree.specs.declared.decl.Block.{Block}
use Rattle.m2_tree.specs.declared.decl.Decl.{Decl, Decl-F, out-Decl}
use Rattle.m2_tree.specs.declared.decl.Decl.TheOpen as decl
use Rattle.typed_tree.specs.declared.meaning.Value.{Value}
use Rattle.typed_tree.specs.Names.{find_name, place_of}
use Rattle.check_scope.specs.declared.scope.Scope.{Scope}
use Rattle.check_scope.specs.Elaborated.{Gathers}
use Rattle.check_scope.specs.Inwards.{inwards}
use Rattle.check_const.specs.Parts.{constant}
use Rattle.check_expr.specs.Meanings.{part}
use Rattle.check_definition.specs.Declare.{nothing_reported}
use Rattle.check_definition.specs.Again as code
use Rattle.check_definition.specs.Again.{Passing, Passes, one_more_if, passed, all_passed, again_value, again_simple, again_type, again_field, again_constant, again_declared, again_variables}
use Rattle.check_block.specs.Declarations.{again_layer, again_decl}
use Rattle.def_typing.specs.Things.{Standing}
use Rattle.def_typing.specs.Parts.{here, later, Named}
use Rattle.def_typing.specs.Constants.{AConstant, Fixes}
use Rattle.def_typing.specs.Expressions.{BrokenAsConstant}
use Rattle.def_typing.specs.TypeExprs.{constants_listed, all_listed, constants_in, constants_in_field}
use Rattle.def_typing.specs.Declarations.{Declaration, OfConstant, OfType, OfVariables, OfProcedure, names_of, constants_of, declared_by, declarations_of, AnyDeclares}
use Rattle.def_typing.specs.Again as rules
use Rattle.def_typing.specs.Again.{IsBoundOf, is_low, is_high, IsBoundIn, IsBoundAmong, StandsIn, BrokenAgain}
use Rattle.law_typing.specs.Judging.{Judges, Answers, means, refuses}
use Rattle.law_typing.specs.Exact.{IsConst, Repeats}
use Rattle.law_typing.specs.Again.{all_names, IsBefore, StandInTurn, stood_before, stands_next, StandInFront, AllSeen, KnowsInside, ReadsAgain}
use Rattle.law_typing.proofs.Trees.{type_tree, IsTypeTree, tree_simple, tree_array, tree_record, tree_procedure, AreFieldTrees, no_field_tree, one_field_tree}
use Rattle.law_typing.proofs.Combining.{Lawful, Tells, silent, tells, tells_as, beside_tells}
use Rattle.law_typing.proofs.Entering.{named_left, named_right, named_split}
use Rattle.law_typing.proofs.Naming.{index, index_less, place_found, place_none}
use Rattle.law_typing.proofs.Heading.{nil_right, append_assoc}
use Rattle.law_typing.proofs.Expressing.{exactly_fixed}
use Rattle.law_typing.proofs.TypeReading.{constants_at}
use Rattle.law_typing.proofs.Recording.{field_constants}

-- ---- places of names

one_by : (a b x : List ℕ) (p q : Bool) (n m l : ℕ) → (p ≡ true → a ≡ x) → (q ≡ true → b ≡ x)
    → cond p 0 (suc n) ≡ cond q 0 (suc m) → cond p 0 (suc n) < suc l → (n ≡ m → n < l → a ≡ b) → a ≡ b
one_by a b x true true n m l h k e i more = h refl ∙ sym (k refl)
one_by a b x true false n m l h k e i more = absurd (omega (arith, e))
one_by a b x false true n m l h k e i more = absurd (omega (arith, e))
one_by a b x false false n m l h k e i more =
    let e' : n ≡ m = omega (arith, e) in
    let i' : n < l = omega (arith, i) in
    more e' i'

some_same : {n m : ℕ} → Some n ≡ Some m → n ≡ m
some_same e = cc

module _ {V : Type 0} where
  index_one : (a b : List ℕ) (es : List (List ℕ × V)) → index a es ≡ index b es → index a es < length es → a ≡ b
  index_one a b [] e i = absurd (omega (arith, i))
  index_one a b (x ∷ es) e i = one_by a b x.0 (same_name a x.0) (same_name b x.0) (index a es) (index b es) (length es)
      (λ h. (bytes_decides a x.0).0 h) (λ h. (bytes_decides b x.0).0 h) e i (index_one a b es)

  placed_by : (name : List ℕ) (es : List (List ℕ × V)) (n : ℕ) (o : Option V) → find_name name es ≡ o
      → place_of name es ≡ Some n → (index name es ≡ n) × (index name es < length es)
  placed_by name es n None e q = let z = sym (place_none name es e) ∙ q in absurd cc
  placed_by name es n (Some k) e q = (some_same (sym (place_found name es k e) ∙ q), index_less name es k e)

  -- At a place stands one name.
  place_one : (a b : List ℕ) (es : List (List ℕ × V)) (n : ℕ) → place_of a es ≡ Some n → place_of b es ≡ Some n → a ≡ b
  place_one a b es n p q =
      let x = placed_by a es n (find_name a es) refl p in
      let y = placed_by b es n (find_name b es) refl q in
      index_one a b es (x.0 ∙ sym y.0) x.1

apart : (p n : ℕ) → p < n → (p == n) ≡ false
apart p n h = grind (arith, nat_tests)

at_itself : (n : ℕ) → (n == n) ≡ true
at_itself n = grind (arith, nat_tests)

not_more : (p n : ℕ) → p < n → one_more_if (Some p) n ≡ n
not_more p n h = ap (λ (b : Bool). cond b (n + 1) n) (apart p n h)

one_more : (n : ℕ) → one_more_if (Some n) n ≡ n + 1
one_more n = ap (λ (b : Bool). cond b (n + 1) n) (at_itself n)

-- one place or two
data SamePlace (p n : ℕ) : Type 0 where
  same : p ≡ n → SamePlace p n
  other : (p ≡ n → ⊥) → SamePlace p n

not_same : (p n : ℕ) → (p == n) ≡ false → p ≡ n → ⊥
not_same p n e h = grind (arith, nat_tests)

same_of : (p n : ℕ) (b : Bool) → (p == n) ≡ b → SamePlace p n
same_of p n true e = same (grind (arith, nat_tests))
same_of p n false e = other (λ h. not_same p n e h)

same_by : (p n : ℕ) → SamePlace p n
same_by p n = same_of p n (p == n) refl

less_or_same : (p n : ℕ) → p < n + 1 → (p ≡ n → ⊥) → p < n
less_or_same p n h c = grind (arith, nat_tests)

named_one : {x : Ident} {n : List ℕ} → Named (x ∷ []) n → x.name ≡ n
named_one (y, here, e) = e
named_one (y, later m, e) = elim m [ ]

-- ---- what stands in front, one name further

module _ {V : Type 0} (own : List (List ℕ × V)) (start : ℕ) (taken : List ℕ → Bool) (block : List Declaration) where
  abbrev Fronts : List Ident → ℕ → Type 0
  Fronts = StandInFront own start taken block

  stood : {front : List Ident} {n : ℕ} (x : Ident) → Fronts front n → IsBefore own n x.name → Fronts (front ++ x ∷ []) n
  stood {front = front} {n = n} x a b = record {
    not_less = a.not_less;
    are_these = λ name t d. (
      λ h. elim (named_split front h) [
        | inl i ↦ (a.are_these name t d).0 i
        | inr i ↦ subst (λ (y : List ℕ). IsBefore own n y) (named_one i) b
      ],
      λ h. named_left (x ∷ []) ((a.are_these name t d).1 h),
    );
  }

  before_more : {n : ℕ} (name : List ℕ) → IsBefore own n name → IsBefore own (n + 1) name
  before_more {n = n} name (p, e, h) = (p, e, further p h)
    where
      further : (p : ℕ) → p < n → p < n + 1
      further p h = omega (arith, h)

  next_before : {n : ℕ} (name : List ℕ) → place_of name own ≡ Some n → IsBefore own (n + 1) name
  next_before {n = n} name e = (n, e, more n)
    where
      more : (n : ℕ) → n < n + 1
      more n = omega arith

  stands : {front : List Ident} {n : ℕ} (x : Ident) → Fronts front n → place_of x.name own ≡ Some n
      → Fronts (front ++ x ∷ []) (n + 1)
  stands {front = front} {n = n} x a q = record {
    not_less = less_more start n a.not_less;
    are_these = λ name t d. (
      λ h. elim (named_split front h) [
        | inl i ↦ before_more name ((a.are_these name t d).0 i)
        | inr i ↦ subst (λ (y : List ℕ). IsBefore own (n + 1) y) (named_one i) (next_before x.name q)
      ],
      λ h. back name t d h (same_by h.0 n),
    );
  }
    where
      less_more : (k n : ℕ) → k ≤ n → k ≤ n + 1
      less_more k n h = omega (arith, h)

      back : (name : List ℕ) → taken name ≡ false → AnyDeclares block name → (h : IsBefore own (n + 1) name)
          → SamePlace h.0 n → Named (front ++ x ∷ []) name
      back name t d (p, e, i) (same k) = named_right front (
        x,
        here,
        place_one x.name name own n q (subst (λ (p : ℕ). place_of name own ≡ Some p) k e),
      )
      back name t d (p, e, i) (other c) =
          named_left (x ∷ []) ((a.are_these name t d).1 (p, e, less_or_same p n i c))

-- ---- declarations, read again

pub fold_again : {A X : Type 0} (f : A → X → A) (a : A) (xs ys : List X) → fold f (fold f a xs) ys ≡ fold f a (xs ++ ys)
fold_again f a [] ys = refl
fold_again f a (x ∷ xs) ys = fold_again f (f a x) xs ys

fold_mapped : {A X Y : Type 0} (f : A → Y → A) (h : X → Y) (a : A) (xs : List X)
    → fold (λ a x. f a (h x)) a xs ≡ fold f a (map h xs)
fold_mapped f h a [] = refl
fold_mapped f h a (x ∷ xs) = fold_mapped f h (f a (h x)) xs

module _ (g : Gathers) (s : Scope g.Reported) where
  abbrev pub declaration_again : Passing g.Reported → Declaration → Passing g.Reported
  declaration_again p (OfConstant c) = again_constant g s p c
  declaration_again p (OfType d) = again_declared g s p d
  declaration_again p (OfVariables v) = again_variables g s p v
  declaration_again p (OfProcedure h) = (p.0, passed s p.1 h.name)

  pub constants_again : (p : Passing g.Reported) (cs : List Constant)
      → fold (again_constant g s) p cs ≡ fold declaration_again p (map OfConstant cs)
  constants_again p cs = fold_mapped declaration_again OfConstant p cs

  pub types_again : (p : Passing g.Reported) (ds : List TypeDecl)
      → fold (again_declared g s) p ds ≡ fold declaration_again p (map OfType ds)
  types_again p ds = fold_mapped declaration_again OfType p ds

  pub variables_again : (p : Passing g.Reported) (vs : List Variables)
      → fold (again_variables g s) p vs ≡ fold declaration_again p (map OfVariables vs)
  variables_again p vs = fold_mapped declaration_again OfVariables p vs

  layer_again : (x : Decl-F Decl Block) (p : Passing g.Reported)
      → again_layer g s p x ≡ fold declaration_again p (declared_by x)
  layer_again (decl.Constants cs) p = constants_again p cs
  layer_again (decl.Types ts) p = types_again p ts
  layer_again (decl.Variables vs) p = variables_again p vs
  layer_again (decl.Procedure h b) p = refl

  pub decls_again : (ds : List Decl) (p : Passing g.Reported)
      → fold (again_decl g s) p ds ≡ fold declaration_again p (declarations_of ds)
  decls_again [] p = refl
  decls_again (d ∷ ds) p = ap (λ (q : Passing g.Reported). fold (again_decl g s) q ds) (layer_again (out-Decl d) p)
      ∙ decls_again ds (fold declaration_again p (declared_by (out-Decl d)))
      ∙ fold_again declaration_again p (declared_by (out-Decl d)) (declarations_of ds)

-- ---- reading again

module _ (g : Gathers) (j : Judges g) (lawful : Lawful g j) (exports : ℕ → Ident → Standing)
    (names : Ident → Standing) (s : Scope g.Reported) (taken : List ℕ → Bool) (block : List Declaration) (start : ℕ)
    (inside : (front : List Ident) (n : ℕ) → StandInFront s.own start taken block front n
    → KnowsInside g j exports names s taken block front n) (O : Breach → Type 0)
    (repeats : (f : Breach) → Repeats g j names s f → O f) where
  abbrev Front : List Ident → ℕ → Type 0
  Front = StandInFront s.own start taken block

  abbrev Turn : ℕ → List Ident → Type 0
  Turn = StandInTurn s.own

  abbrev Seen : List Ident → (Ident → Standing) → Type 0
  Seen = AllSeen g j exports names s taken block

  abbrev Reading : Type 0
  Reading = Passing g.Reported

  -- ---- one expression

  -- what is broken in it, where these names stand in front
  data Once (front : List Ident) (e : Expr) (f : Breach) : Type 0 where
    once : (sight : Ident → Standing) → Seen front sight → BrokenAsConstant s.types sight exports e f → Once front e f

  module _ (front : List Ident) (n : ℕ) (e : Expr) where
    abbrev Fixed : (Ident → Standing) → Result Value g.Reported → Type 0
    Fixed sight r = Answers g j (Repeats g j sight (inwards s n)) IsConst
        (λ k. Fixes s.types sight exports e (AConstant k)) (BrokenAsConstant s.types sight exports e) r

    none_broken : {sight : Ident → Standing} {v : Value} → Fixed sight (Ok v) → (f : Breach)
        → BrokenAsConstant s.types sight exports e f → ⊥
    none_broken (means a k i m u n) f b = n f b

    covered : {sight : Ident → Standing} {r : g.Reported} → Fixed sight (Err r) → (f : Breach)
        → BrokenAsConstant s.types sight exports e f → j.Covers r f
    covered (refuses r a n) f b = a.each f b

    told_by : (k : KnowsInside g j exports names s taken block front n) {r : Result Value g.Reported}
        → Fixed k.there.0 r → ((sight : Ident → Standing) → Seen front sight → Fixed sight r)
        → Tells g j lawful O (Once front e) (nothing_reported r)
    told_by k (means a c i m u n) all = silent (λ f b. none f b)
      where
        none : (f : Breach) → Once front e f → ⊥
        none f (once sight h b) = none_broken (all sight h) f b
    told_by k (refuses r a n) all = tells r (record {
      only = λ f m. elim (a.only f m) [
        | inl b ↦ inl (once k.there.0 k.there.1 b)
        | inr o ↦ inr (repeats f (k.repeated k.there.0 k.there.1 f o))
      ];
      each = λ f b. looked_at f b;
    })
      where
        looked_at : (f : Breach) → Once front e f → j.Covers r f
        looked_at f (once sight h b) = covered (all sight h) f b

    fixed_in : KnowsInside g j exports names s taken block front n → (sight : Ident → Standing) → Seen front sight
        → Fixed sight (constant g (inwards s n) (part g e))
    fixed_in k sight h = exactly_fixed g j lawful sight exports (inwards s n) (k.known sight h) e

    expression_tells : Front front n
        → Tells g j lawful O (Once front e) (nothing_reported (constant g (inwards s n) (part g e)))
    expression_tells a =
        let k = inside front n a in
        told_by k (fixed_in k k.there.0 k.there.1) (fixed_in k)

  -- ---- where reading stands

  -- what stands in front, what comes next, and what is reported
  abbrev At : List Ident → List Ident → (Breach → Type 0) → Reading → Type 0
  At front rest B p = Front front p.1 × Turn p.1 rest × Tells g j lawful O B p.0

  at_as : {front rest : List Ident} {B C : Breach → Type 0} {p : Reading} → ((f : Breach) → B f → C f)
      → ((f : Breach) → C f → B f) → At front rest B p → At front rest C p
  at_as bc cb z = (z.0, z.1, tells_as g j lawful O bc cb z.2)

  none_more : {front rest : List Ident} {B C : Breach → Type 0} {p : Reading} → ((f : Breach) → C f → ⊥)
      → At front rest B p → At front rest (λ f. B f ⊎ C f) p
  none_more n z = at_as (λ f b. inl b) (λ f x. elim x [ inl b ↦ b | inr c ↦ absurd (n f c) ]) z

  value_again : {front rest : List Ident} {B : Breach → Type 0} {p : Reading} (e : Expr) → At front rest B p
      → At front rest (λ f. B f ⊎ Once front e f) (again_value g s e p)
  value_again {front = front} {p = p} e z =
      (z.0, z.1, beside_tells g j lawful O z.2 (expression_tells front p.1 e z.0))

  name_steps : {front rest : List Ident} {n : ℕ} {x : Ident} → Front front n → Turn n (x ∷ rest)
      → Front (front ++ x ∷ []) (passed s n x) × Turn (passed s n x) rest
  name_steps {front = front} {rest = rest} {n = n} {x = x} a (stood_before b t) =
      subst (λ (m : ℕ). Front (front ++ x ∷ []) m × Turn m rest)
      (sym (ap (λ (o : Option ℕ). one_more_if o n) b.1 ∙ not_more b.0 n b.2))
      (stood s.own start taken block x a b, t)
  name_steps {front = front} {rest = rest} {n = n} {x = x} a (stands_next q t) =
      subst (λ (m : ℕ). Front (front ++ x ∷ []) m × Turn m rest)
      (sym (ap (λ (o : Option ℕ). one_more_if o n) q ∙ one_more n))
      (stands s.own start taken block x a q, t)

  name_again : {front rest : List Ident} {B : Breach → Type 0} {p : Reading} (x : Ident) → At front (x ∷ rest) B p
      → At (front ++ x ∷ []) rest B (p.0, passed s p.1 x)
  name_again x z = let y = name_steps z.0 z.1 in (y.0, y.1, z.2)

  names_again : (xs : List Ident) {front rest : List Ident} {B : Breach → Type 0} {p : Reading}
      → At front (xs ++ rest) B p → At (front ++ xs) rest B (p.0, all_passed s p.1 xs)
  names_again [] {front = front} {rest = rest} {B = B} {p = p} z =
      subst (λ (xs : List Ident). At xs rest B p) (sym (nil_right front)) z
  names_again (x ∷ xs) {front = front} {rest = rest} {B = B} {p = p} z =
      subst (λ (ys : List Ident). At ys rest B (p.0, all_passed s (passed s p.1 x) xs))
      (append_assoc front (x ∷ []) xs) (names_again xs (name_again x z))

  -- the same with other words for names
  comes : {front xs ys : List Ident} (rest : List Ident) {B : Breach → Type 0} {p : Reading} → xs ≡ ys
      → At front (xs ++ rest) B p → At front (ys ++ rest) B p
  comes {front = front} rest {B = B} {p = p} e z =
      subst (λ (xs : List Ident). At front (xs ++ rest) B p) e z

  goes : (front : List Ident) {xs ys rest : List Ident} {B : Breach → Type 0} {p q : Reading} → xs ≡ ys → p ≡ q
      → At (front ++ xs) rest B p → At (front ++ ys) rest B q
  goes front {xs = xs} {rest = rest} {B = B} {q = q} e h z =
      subst (λ (xs : List Ident). At (front ++ xs) rest B q) e (subst (λ (p : Reading). At (front ++ xs) rest B p) h z)

  enters : (xs ys rest : List Ident) {front : List Ident} {B : Breach → Type 0} {p : Reading}
      → At front ((xs ++ ys) ++ rest) B p → At front (xs ++ (ys ++ rest)) B p
  enters xs ys rest {front = front} {B = B} {p = p} z =
      subst (λ (zs : List Ident). At front zs B p) (append_assoc xs ys rest) z

  leaves : (front xs ys : List Ident) {rest : List Ident} {B : Breach → Type 0} {p : Reading}
      → At ((front ++ xs) ++ ys) rest B p → At (front ++ (xs ++ ys)) rest B p
  leaves front xs ys {rest = rest} {B = B} {p = p} z =
      subst (λ (zs : List Ident). At zs rest B p) (append_assoc front xs ys) z

  -- ---- types

  -- what is broken in expressions that stand somewhere
  data In (Spot : Expr → List Ident → Type 0) (f : Breach) : Type 0 where
    spot : {e : Expr} {before : List Ident} → Spot e before → Once before e f → In Spot f

  abbrev OfSimple : List Ident → Simple → Expr → List Ident → Type 0
  OfSimple front x e before = IsBoundOf e x × (before ≡ front)

  at_front : {front before : List Ident} {e : Expr} {f : Breach} → before ≡ front → Once before e f → Once front e f
  at_front {e = e} {f = f} h o = subst (λ (xs : List Ident). Once xs e f) h o

  simple_again : (x : Simple) {front rest : List Ident} {B : Breach → Type 0} {p : Reading}
      → At front (constants_listed x ++ rest) B p
      → At (front ++ constants_listed x) rest (λ f. B f ⊎ In (OfSimple front x) f) (again_simple g x s p)
  simple_again (simple.Named q) {front = front} z = none_more (λ f b. none b) (names_again [] z)
    where
      none : {f : Breach} → In (OfSimple front (simple.Named q)) f → ⊥
      none (spot (i, e) o) = elim i [ ]
  simple_again (simple.Enumeration at xs) {front = front} z = none_more (λ f b. none b) (names_again xs z)
    where
      none : {f : Breach} → In (OfSimple front (simple.Enumeration at xs)) f → ⊥
      none (spot (i, e) o) = elim i [ ]
  simple_again (simple.Subrange of at low high) {front = front} {B = B} z =
      at_as (λ f x. to f x) (λ f x. from f x) (names_again [] (value_again high (value_again low z)))
    where
      S : Breach → Type 0
      S f = In (OfSimple front (simple.Subrange of at low high)) f

      to : (f : Breach) → (B f ⊎ Once front low f) ⊎ Once front high f → B f ⊎ S f
      to f (inl (inl b)) = inl b
      to f (inl (inr o)) = inr (spot (is_low, refl) o)
      to f (inr o) = inr (spot (is_high, refl) o)

      bound : {e : Expr} {before : List Ident} (f : Breach) → IsBoundOf e (simple.Subrange of at low high)
          → before ≡ front → Once before e f → (B f ⊎ Once front low f) ⊎ Once front high f
      bound f is_low h o = inl (inr (at_front h o))
      bound f is_high h o = inr (at_front h o)

      from : (f : Breach) → B f ⊎ S f → (B f ⊎ Once front low f) ⊎ Once front high f
      from f (inl b) = inl (inl b)
      from f (inr (spot (i, e) o)) = bound f i e o

  abbrev opened : TypeExpr-F TypeExpr Field → TypeExpr-F (Passes g) (Passes g)
  opened x = map-TypeExpr TypeExpr Field (Passes g) (Passes g) (again_type g) (again_field g) x

  again_at : (e : TypeExpr) (x : TypeExpr-F TypeExpr Field) → out-TypeExpr e ≡ x
      → again_type g e ≡ code.type_layer g (opened x)
  unfolding again_type again_field
  again_at e x h = fold_out-TypeExpr (Passes g) (Passes g) (code.type_layer g) (code.field_layer g) e
      ∙ ap (λ (y : TypeExpr-F TypeExpr Field). code.type_layer g (opened y)) h

  field_at : (f : Field) → again_field g f ≡ again_type g (out-Field f).of
  unfolding again_type again_field
  field_at f = fold_out-Field (Passes g) (Passes g) (code.type_layer g) (code.field_layer g) f

  abbrev InType : List Ident → TypeExpr → Expr → List Ident → Type 0
  InType front t e before = IsBoundIn e front t before

  abbrev InFields : List Ident → List Field → Expr → List Ident → Type 0
  InFields front fs e before = IsBoundAmong e front fs before

  -- a type of one form
  module _ (t : TypeExpr) (front : List Ident) where
    simple_out : {x : Simple} {e : Expr} {before : List Ident} → out-TypeExpr t ≡ layer.Simple x
        → IsBoundIn e front t before → OfSimple front x e before
    simple_out {x = x} {e = e} h (rules.of_simple {x = y} q i) =
        let same : y ≡ x = cc in
        (subst (λ (x : Simple). IsBoundOf e x) same i, refl)
    simple_out h (rules.of_index q i) = absurd cc
    simple_out h (rules.of_elements q i) = absurd cc
    simple_out h (rules.of_fields q i) = absurd cc

    simple_in : {x : Simple} {e : Expr} {before : List Ident} → out-TypeExpr t ≡ layer.Simple x
        → IsBoundOf e x → before ≡ front → IsBoundIn e front t before
    simple_in {e = e} h i q = subst (λ (b : List Ident). IsBoundIn e front t b) (sym q) (rules.of_simple h i)

    array_out : {at : Pos} {index : Simple} {of : TypeExpr} {e : Expr} {before : List Ident}
        → out-TypeExpr t ≡ layer.Array at index of → IsBoundIn e front t before
        → OfSimple front index e before ⊎ IsBoundIn e (front ++ constants_listed index) of before
    array_out h (rules.of_simple q i) = absurd cc
    array_out {index = x} {e = e} h (rules.of_index {index = y} q i) =
        let same : y ≡ x = cc in
        inl (subst (λ (x : Simple). IsBoundOf e x) same i, refl)
    array_out {index = x} {of = of} {e = e} {before = before} h (rules.of_elements {of = u} {index = y} q i) =
        let same : y ≡ x = cc in
        let same_of : u ≡ of = cc in
        inr (subst (λ (of : TypeExpr). IsBoundIn e (front ++ constants_listed x) of before) same_of
        (subst (λ (x : Simple). IsBoundIn e (front ++ constants_listed x) u before) same i))
    array_out h (rules.of_fields q i) = absurd cc

    record_out : {at : Pos} {fs : List Field} {e : Expr} {before : List Ident} → out-TypeExpr t ≡ layer.Record at fs
        → IsBoundIn e front t before → IsBoundAmong e front fs before
    record_out h (rules.of_simple q i) = absurd cc
    record_out h (rules.of_index q i) = absurd cc
    record_out h (rules.of_elements q i) = absurd cc
    record_out {fs = fs} {e = e} {before = before} h (rules.of_fields {fields = hs} q i) =
        let same : hs ≡ fs = cc in
        subst (λ (fs : List Field). IsBoundAmong e front fs before) same i

    procedure_out : {at : Pos} {xs : List Parameter} {q : Option Qualified} {e : Expr} {before : List Ident}
        → out-TypeExpr t ≡ layer.Procedure at xs q → IsBoundIn e front t before → ⊥
    procedure_out h (rules.of_simple q i) = absurd cc
    procedure_out h (rules.of_index q i) = absurd cc
    procedure_out h (rules.of_elements q i) = absurd cc
    procedure_out h (rules.of_fields q i) = absurd cc

  -- what stands somewhere, in two places
  in_both : (B : Breach → Type 0) {S T U : Expr → List Ident → Type 0}
      → ((e : Expr) (b : List Ident) → S e b → U e b) → ((e : Expr) (b : List Ident) → T e b → U e b) → (f : Breach)
      → (B f ⊎ In S f) ⊎ In T f → B f ⊎ In U f
  in_both B h k f (inl (inl b)) = inl b
  in_both B h k f (inl (inr (spot i o))) = inr (spot (h _ _ i) o)
  in_both B h k f (inr (spot i o)) = inr (spot (k _ _ i) o)

  out_both : (B : Breach → Type 0) {S T U : Expr → List Ident → Type 0}
      → ((e : Expr) (b : List Ident) → U e b → S e b ⊎ T e b) → (f : Breach) → B f ⊎ In U f
      → (B f ⊎ In S f) ⊎ In T f
  out_both B h f (inl b) = inl (inl b)
  out_both B {S = S} {T = T} h f (inr (spot {e = e} {before = b} i o)) = by (h e b i)
    where
      by : S e b ⊎ T e b → (B f ⊎ In S f) ⊎ In T f
      by (inl x) = inl (inr (spot x o))
      by (inr x) = inr (spot x o)

  in_one : (B : Breach → Type 0) {S U : Expr → List Ident → Type 0} → ((e : Expr) (b : List Ident) → S e b → U e b)
      → (f : Breach) → B f ⊎ In S f → B f ⊎ In U f
  in_one B h f (inl b) = inl b
  in_one B h f (inr (spot i o)) = inr (spot (h _ _ i) o)

  no_spot : {S : Expr → List Ident → Type 0} → ((e : Expr) (b : List Ident) → S e b → ⊥) → (f : Breach) → In S f → ⊥
  no_spot h f (spot i o) = h _ _ i

  no_fields : {front before : List Ident} {e : Expr} → IsBoundAmong e front [] before → ⊥
  no_fields i = elim i [ ]

  fields_out : {f : Field} {fs : List Field} {front before : List Ident} {e : Expr}
      → IsBoundAmong e front (f ∷ fs) before
      → IsBoundIn e front (out-Field f).of before
      ⊎ IsBoundAmong e (front ++ constants_in (out-Field f).of) fs before
  fields_out (rules.of_first i) = inl i
  fields_out (rules.of_later i) = inr i

  enters_field : (f : Field) (fs : List Field) (rest : List Ident) {front : List Ident} {B : Breach → Type 0}
      {p : Reading}
      → At front (all_listed (map constants_in_field (f ∷ fs)) ++ rest) B p
      → At front (constants_in (out-Field f).of ++ (all_listed (map constants_in_field fs) ++ rest)) B p
  enters_field f fs rest {front = front} {B = B} {p = p} z =
      subst (λ (xs : List Ident). At front (xs ++ (all_listed (map constants_in_field fs) ++ rest)) B p)
      (field_constants f) (enters (constants_in_field f) (all_listed (map constants_in_field fs)) rest z)

  leaves_field : (f : Field) (fs : List Field) (front : List Ident) {rest : List Ident} {B : Breach → Type 0}
      {p : Reading}
      → At ((front ++ constants_in (out-Field f).of) ++ all_listed (map constants_in_field fs)) rest B p
      → At (front ++ all_listed (map constants_in_field (f ∷ fs))) rest B p
  leaves_field f fs front {rest = rest} {B = B} {p = p} z =
      leaves front (constants_in_field f) (all_listed (map constants_in_field fs))
      (subst (λ (xs : List Ident). At ((front ++ xs) ++ all_listed (map constants_in_field fs)) rest B p)
      (sym (field_constants f)) z)

  mutual
    tree_again : (t : TypeExpr) → IsTypeTree t → {front rest : List Ident} {B : Breach → Type 0} {p : Reading}
        → At front (constants_in t ++ rest) B p
        → At (front ++ constants_in t) rest (λ f. B f ⊎ In (InType front t) f) (again_type g t s p)
    tree_again t (tree_simple {x = x} h) {front = front} {rest = rest} {B = B} {p = p} z =
        let c = constants_at t (layer.Simple x) h in
        goes front (sym c) (sym (ap (λ (m : Passes g). m s p) (again_at t (layer.Simple x) h)))
        (at_as (in_one B (λ e b i. simple_in t front h i.0 i.1)) (in_one B (λ e b i. simple_out t front h i))
        (simple_again x (comes rest c z)))
    tree_again t (tree_procedure {at = at} {xs = xs} {q = q} h) {front = front} {rest = rest} {B = B} {p = p} z =
        let c = constants_at t (layer.Procedure at xs q) h in
        goes front (sym c) (sym (ap (λ (m : Passes g). m s p) (again_at t (layer.Procedure at xs q) h)))
        (none_more (no_spot (λ e b i. procedure_out t front h i)) (names_again [] (comes rest c z)))
    tree_again t (tree_array {of = of} {at = at} {index = x} h k) {front = front} {rest = rest} {B = B} {p = p} z =
        let c = constants_at t (layer.Array at x of) h in
        goes front (sym c) (sym (ap (λ (m : Passes g). m s p) (again_at t (layer.Array at x of) h)))
        (at_as
        (in_both B (λ e b i. subst (λ (b : List Ident). IsBoundIn e front t b) (sym i.1) (rules.of_index h i.0))
        (λ e b i. rules.of_elements h i))
        (out_both B (λ e b i. array_out t front h i))
        (leaves front (constants_listed x) (constants_in of)
        (tree_again of k (simple_again x (enters (constants_listed x) (constants_in of) rest (comes rest c z))))))
    tree_again t (tree_record {at = at} {fields = fs} h k) {front = front} {rest = rest} {B = B} {p = p} z =
        let c = constants_at t (layer.Record at fs) h in
        goes front (sym c) (sym (ap (λ (m : Passes g). m s p) (again_at t (layer.Record at fs) h)))
        (at_as (in_one B (λ e b i. rules.of_fields h i)) (in_one B (λ e b i. record_out t front h i))
        (fields_again fs k (comes rest c z)))

    fields_again : (fs : List Field) → AreFieldTrees fs → {front rest : List Ident} {B : Breach → Type 0} {p : Reading}
        → At front (all_listed (map constants_in_field fs) ++ rest) B p
        → At (front ++ all_listed (map constants_in_field fs)) rest (λ f. B f ⊎ In (InFields front fs) f)
        (fold (code.then_passes g s) p (map (again_field g) fs))
    fields_again [] no_field_tree z = none_more (no_spot (λ e b i. no_fields i)) (names_again [] z)
    fields_again (f ∷ fs) (one_field_tree i k) {front = front} {rest = rest} {B = B} {p = p} z =
        at_as (in_both B (λ e b i. rules.of_first i) (λ e b i. rules.of_later i)) (out_both B (λ e b i. fields_out i))
        (leaves_field f fs front
        (fields_again fs k (subst
        (λ (q : Reading). At (front ++ constants_in (out-Field f).of)
        (all_listed (map constants_in_field fs) ++ rest) (λ h. B h ⊎ In (InType front (out-Field f).of) h) q)
        (sym (ap (λ (m : Passes g). m s p) (field_at f)))
        (tree_again (out-Field f).of i (enters_field f fs rest z)))))

  type_again : (t : TypeExpr) {front rest : List Ident} {B : Breach → Type 0} {p : Reading}
      → At front (constants_in t ++ rest) B p
      → At (front ++ constants_in t) rest (λ f. B f ⊎ In (InType front t) f) (again_type g t s p)
  type_again t z = tree_again t (type_tree t) z

  -- ---- declarations

  abbrev StandIn : List Ident → Declaration → Expr → List Ident → Type 0
  StandIn front d e before = StandsIn e front d before

  one_again : (d : Declaration) {front rest : List Ident} {B : Breach → Type 0} {p : Reading}
      → At front ((names_of d ++ constants_of d) ++ rest) B p
      → At (front ++ (names_of d ++ constants_of d)) rest (λ f. B f ⊎ In (StandIn front d) f)
      (declaration_again g s p d)
  one_again (OfConstant c) {front = front} {B = B} z =
      at_as (λ f x. to f x) (λ f x. from f x) (name_again c.name (value_again c.value z))
    where
      to : (f : Breach) → B f ⊎ Once front c.value f → B f ⊎ In (StandIn front (OfConstant c)) f
      to f (inl b) = inl b
      to f (inr o) = inr (spot (rules.as_value refl) o)

      value_out : {e : Expr} {before : List Ident} {f : Breach} → StandsIn e front (OfConstant c) before
          → Once before e f → Once front c.value f
      value_out {f = f} (rules.as_value h) o = subst (λ (e : Expr). Once front e f) (sym h) o

      from : (f : Breach) → B f ⊎ In (StandIn front (OfConstant c)) f → B f ⊎ Once front c.value f
      from f (inl b) = inl b
      from f (inr (spot i o)) = inr (value_out i o)
  one_again (OfType d) {front = front} {B = B} z =
      at_as (in_one B (λ e b i. rules.in_type i)) (in_one B (λ e b i. type_out i))
      (leaves front (d.name ∷ []) (constants_in d.of) (type_again d.of (name_again d.name z)))
    where
      type_out : {e : Expr} {before : List Ident} → StandsIn e front (OfType d) before
          → IsBoundIn e (front ++ d.name ∷ []) d.of before
      type_out (rules.in_type i) = i
  one_again (OfVariables v) {front = front} {rest = rest} {B = B} z =
      at_as (in_one B (λ e b i. rules.in_variables i)) (in_one B (λ e b i. variables_out i))
      (leaves front v.names (constants_in v.of)
      (type_again v.of (names_again v.names (enters v.names (constants_in v.of) rest z))))
    where
      variables_out : {e : Expr} {before : List Ident} → StandsIn e front (OfVariables v) before
          → IsBoundIn e (front ++ v.names) v.of before
      variables_out (rules.in_variables i) = i
  one_again (OfProcedure h) {front = front} z =
      none_more (no_spot (λ e b i. none i)) (name_again h.name z)
    where
      none : {e : Expr} {before : List Ident} → StandsIn e front (OfProcedure h) before → ⊥
      none i = elim i [ ]

  abbrev pub Broken : List Ident → List Declaration → Breach → Type 0
  Broken = BrokenAgain s.types exports taken block names

  all_again : (ds : List Declaration) {front rest : List Ident} {B : Breach → Type 0} {p : Reading}
      → At front (all_names ds ++ rest) B p
      → At (front ++ all_names ds) rest (λ f. B f ⊎ Broken front ds f) (fold (declaration_again g s) p ds)
  all_again [] {front = front} z = none_more (λ f b. none b) (names_again [] z)
    where
      none : {f : Breach} → Broken front [] f → ⊥
      none b = elim b [ ]
  all_again (d ∷ ds) {front = front} {rest = rest} {B = B} z =
      at_as (λ f x. to f x) (λ f x. from f x)
      (leaves front (names_of d ++ constants_of d) (all_names ds)
      (all_again ds (one_again d (enters (names_of d ++ constants_of d) (all_names ds) rest z))))
    where
      Behind : Breach → Type 0
      Behind f = Broken (front ++ (names_of d ++ constants_of d)) ds f

      broken : {e : Expr} {before : List Ident} {f : Breach} → StandsIn e front d before → Once before e f
          → Broken front (d ∷ ds) f
      broken i (once sight h b) = rules.again sight i h b

      to : (f : Breach) → (B f ⊎ In (StandIn front d) f) ⊎ Behind f → B f ⊎ Broken front (d ∷ ds) f
      to f (inl (inl b)) = inl b
      to f (inl (inr (spot i o))) = inr (broken i o)
      to f (inr b) = inr (rules.further b)

      parted : {f : Breach} → Broken front (d ∷ ds) f → (B f ⊎ In (StandIn front d) f) ⊎ Behind f
      parted (rules.again sight i h b) = inl (inr (spot i (once sight h b)))
      parted (rules.further b) = inr b

      from : (f : Breach) → B f ⊎ Broken front (d ∷ ds) f → (B f ⊎ In (StandIn front d) f) ⊎ Behind f
      from f (inl b) = inl (inl b)
      from f (inr b) = parted b

  -- ---- all of a block

  first_front : ((name : List ℕ) → taken name ≡ false → AnyDeclares block name → IsBefore s.own start name → ⊥)
      → Front [] start
  first_front n = record {
    not_less = same_less start;
    are_these = λ name t d. ((λ h. absurd (none h)), (λ h. absurd (n name t d h)));
  }
    where
      same_less : (n : ℕ) → n ≤ n
      same_less n = omega arith

      none : {name : List ℕ} → Named [] name → ⊥
      none h = elim h.1 [ ]

  -- What is reported behind reading again are the rules that were broken before, and those that it breaks.
  pub reread : ReadsAgain g j exports names s taken block start → {B : Breach → Type 0}
      {r : Result (Unit {0}) g.Reported} → Tells g j lawful O B r
      → Tells g j lawful O (λ f. B f ⊎ BrokenAgain s.types exports taken block names [] block f)
      (fold (declaration_again g s) (r, start) block).0
  reread k {B = B} {r = r} t = (all_again block {front = []} {rest = []} {B = B} {p = (r, start)}
      (first_front k.none_before, turn, t)).2
    where
      turn : Turn start (all_names block ++ [])
      turn = subst (λ (xs : List Ident). Turn start xs) (sym (nil_right (all_names block))) k.in_turn

-- the same, where what a use repeats may be broken in what is reported before
module _ (g : Gathers) (j : Judges g) (lawful : Lawful g j) (exports : ℕ → Ident → Standing)
    (names : Ident → Standing) (s : Scope g.Reported) (taken : List ℕ → Bool) (block : List Declaration) (start : ℕ)
    (k : ReadsAgain g j exports names s taken block start) {O B : Breach → Type 0}
    (repeats : (f : Breach) → Repeats g j names s f → O f ⊎ B f) where
  more_elsewhere : {r : Result (Unit {0}) g.Reported} → Tells g j lawful O B r → Tells g j lawful (λ f. O f ⊎ B f) B r
  more_elsewhere (silent n) = silent n
  more_elsewhere (tells r a) = tells r (record {
    only = λ f m. elim (a.only f m) [ inl b ↦ inl b | inr o ↦ inr (inl o) ];
    each = a.each;
  })

  less_elsewhere : {C : Breach → Type 0} {r : Result (Unit {0}) g.Reported}
      → Tells g j lawful (λ f. O f ⊎ B f) (λ f. B f ⊎ C f) r → Tells g j lawful O (λ f. B f ⊎ C f) r
  less_elsewhere (silent n) = silent n
  less_elsewhere (tells r a) = tells r (record {
    only = λ f m. elim (a.only f m) [
      | inl b ↦ inl b
      | inr o ↦ elim o [ inl q ↦ inr q | inr b ↦ inl (inl b) ]
    ];
    each = a.each;
  })

  pub reread_here : {r : Result (Unit {0}) g.Reported} → Tells g j lawful O B r
      → Tells g j lawful O (λ f. B f ⊎ BrokenAgain s.types exports taken block names [] block f)
      (fold (declaration_again g s) (r, start) block).0
  reread_here t = less_elsewhere
      (reread g j lawful exports names s taken block start k.inside (λ f. O f ⊎ B f) repeats k (more_elsewhere t))
