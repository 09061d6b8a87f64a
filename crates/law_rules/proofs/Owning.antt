-- Which variables count as own ones in a procedure.
use Rattle.std.proofs.Common.{◌≡◌, ℕ, ◌<◌, Bool, true, false, cond, List, [], ◌∷◌, ◌++◌, length, Option, Some, None, Result, Ok, Err, ◌⊎◌, inl, inr, refl, sym, ap, subst, ◌∙◌, arith}
use Rattle.std.specs.Prelude.{◌==◌, ◌&&◌, ◌||◌, not}
use Rattle.std.proofs.lemmas.Bool.Decides.{nat_tests}
use Rattle.m2_tree.specs.declared.pos.Pos.{Pos}
use Rattle.m2_tree.specs.declared.name.Ident.{Ident}
use Rattle.typed_tree.specs.declared.meaning.LocalVariable.{LocalVariable}
use Rattle.typed_tree.specs.declared.meaning.Variable.{Variable}
use Rattle.typed_tree.specs.declared.meaning.Meaning.{Meaning}
use Rattle.typed_tree.specs.declared.meaning.Meaning.TheVariants as meaning
use Rattle.typed_tree.specs.Names.{find_name}
use Rattle.check_scope.specs.declared.known.Known.{Known}
use Rattle.check_scope.specs.declared.known.Known.TheVariants.{Later, Ahead, Begun, Headed, Declared}
use Rattle.check_scope.specs.declared.meaningless.Meaningless.{Meaningless}
use Rattle.check_scope.specs.declared.scope.Block.{Block as Around}
use Rattle.check_scope.specs.declared.scope.Scope.{Scope}
use Rattle.check_scope.specs.Elaborated.{Gathers}
use Rattle.check_scope.specs.Scopes.{looked_up, known_outside, or_around, means_seen, means_as}
use Rattle.check_stmt_parts.specs.Control.{is_own}
use Rattle.def_typing.specs.Parts.{here, later, Named}
use Rattle.def_typing.specs.Declarations.{Declaration, names_of, constants_of, AnyDeclares}
use Rattle.def_typing.specs.Bodies.{is_declared}
use Rattle.law_typing.specs.Judging.{Judges}
use Rattle.law_typing.specs.Exact.{is_own_variable, KnowsOwn, is_nested, IsAsBefore, as_before, has_heading}
use Rattle.law_typing.proofs.Combining.{Decided, holds, fails_it, decided_as}
use Rattle.law_typing.proofs.Meeting.{either_decided}
use Rattle.law_typing.proofs.Entering.{among_decided}
use Rattle.law_typing.proofs.Declaring.{clash}
use Rattle.law_rules.proofs.BodiesKeeping.{IsProc, FitsMeaning, Fits, Keeps}
use Rattle.law_rules.proofs.Seeing.{looked_around, around_some}

pub declared_decided : (ds : List Declaration) (n : List ℕ) → Decided (AnyDeclares ds n) (is_declared n ds)
declared_decided [] n = fails_it (λ z. elim z.1 [ ])
declared_decided (d ∷ ds) n = decided_as (λ z. more z) (λ z. parts z)
    (either_decided (among_decided (names_of d ++ constants_of d) n) (declared_decided ds n))
  where
    more : Named (names_of d ++ constants_of d) n ⊎ AnyDeclares ds n → AnyDeclares (d ∷ ds) n
    more (inl h) = (d, here, h)
    more (inr (c, m, h)) = (c, later m, h)

    parts : AnyDeclares (d ∷ ds) n → Named (names_of d ++ constants_of d) n ⊎ AnyDeclares ds n
    parts (c, here, h) = inl h
    parts (c, later m, h) = inr (c, m, h)

not_level : (b : Bool) → not b ≡ true → b ≡ true → ⊥
not_level true e f = absurd cc
not_level false e f = absurd cc

never_both : (b : Bool) → (b && false) ≡ false
never_both true = refl
never_both false = refl

module _ (g : Gathers) where
  same_ok : {m n : Meaning} → ◌≡◌ {A = Result Meaning (Meaningless g.Reported)} (Ok m) (Ok n) → m ≡ n
  same_ok e = cc

  -- what is known of a name whose entry means this
  meaning_fits : (l : ℕ) (at : Pos) (k : Known g.Reported) (m : Meaning) → Fits l k → means_seen g at k true ≡ Ok m
      → IsProc m ⊎ FitsMeaning l m
  meaning_fits l at Later m f e = absurd cc
  meaning_fits l at Ahead m f e = inr (subst (λ (m : Meaning). FitsMeaning l m) (same_ok e) tt)
  meaning_fits l at Begun m f e = absurd cc
  meaning_fits l at (Headed (Ok n)) m f e = inl (subst IsProc (same_ok e) f)
  meaning_fits l at (Headed (Err r)) m f e = absurd cc
  meaning_fits l at (Declared o (Ok n)) m f e = inr (subst (λ (m : Meaning). FitsMeaning l m) (same_ok e) f)
  meaning_fits l at (Declared o (Err r)) m f e = absurd cc

  local_fits : (l : ℕ) (v : LocalVariable) → IsProc (meaning.Local v) ⊎ FitsMeaning l (meaning.Local v) → (v.level ≡ l)
      × ((l == 0) ≡ false)
  local_fits l v (inl p) = absurd p
  local_fits l v (inr f) = f

  variable_fits : (l : ℕ) (v : Variable) → IsProc (meaning.Variable v) ⊎ FitsMeaning l (meaning.Variable v)
      → (l == 0) ≡ true
  variable_fits l v (inl p) = absurd p
  variable_fits l v (inr f) = f

module _ (g : Gathers) (j : Judges g) (start w : Scope g.Reported) (taken : List ℕ → Bool) (block : List Declaration)
    (outer own : Ident → Bool)
    (keeps : Keeps start w) (no_withs : start.withs ≡ [])
    (none_first : (n : List ℕ) → taken n ≡ false → find_name n start.own ≡ None)
    (others : (n : List ℕ) → (taken n ≡ false → AnyDeclares block n → ⊥)
    → IsAsBefore (find_name n start.own) (find_name n w.own))
    (level : start.level < length start.outer)
    (locals : (name : Ident) (v : LocalVariable) → looked_up g start name ≡ Ok (meaning.Local v)
    → (is_nested start ≡ true) × (v.level < length start.outer)
    × ((is_own v.kind && (v.level == start.level)) ≡ false))
    (owns_first : KnowsOwn g j outer start) (owns : KnowsOwn g j own w) where
  no_withs_now : w.withs ≡ []
  no_withs_now = keeps.withs ∙ no_withs

  abbrev looked : Option (Known g.Reported) → Ident → Result Meaning (Meaningless g.Reported)
  looked k name = means_as g name.pos (or_around k (known_outside name.name start.outer))

  looked_first : (name : Ident) → looked_up g start name ≡ looked (find_name name.name start.own) name
  looked_first name = looked_around g start 0 no_withs name

  looked_now : (name : Ident) → looked_up g w name ≡ looked (find_name name.name w.own) name
  looked_now name = looked_around g w 0 no_withs_now name
      ∙ ap (λ (bs : List (Around g.Reported)). means_as g name.pos
      (or_around (find_name name.name w.own) (known_outside name.name bs))) keeps.outer

  found_none : {A : Type 0} {v : A} {o : Option A} → o ≡ None → o ≡ Some v → ⊥
  found_none e f = let z = sym e ∙ f in absurd cc

  -- nothing there, and nothing before
  none_before : (n : List ℕ) → find_name n w.own ≡ None → find_name n start.own ≡ None
  none_before n e = by (find_name n start.own) refl
    where
      by : (o : Option (Known g.Reported)) → find_name n start.own ≡ o → o ≡ None
      by None q = refl
      by (Some k) q = let z = keeps.grows.kept n k q in absurd (found_none e z.1)

  -- a local variable is one of a procedure around
  pub local_around : (name : Ident) (v : LocalVariable) → looked_up g w name ≡ Ok (meaning.Local v)
      → (is_nested start ≡ true) × (v.level < length start.outer)
  local_around name v e = by (find_name name.name w.own) refl
    where
      nested : (start.level == 0) ≡ false → is_nested start ≡ true
      nested q = ap (λ (b : Bool). not b) q

      below : v.level ≡ start.level → v.level < length start.outer
      below q = let l = level in omega (arith, q, l)

      first : looked_up g start name ≡ Ok (meaning.Local v) → (is_nested start ≡ true) × (v.level < length start.outer)
      first q = let z = locals name v q in (z.0, z.1)

      by : (o : Option (Known g.Reported)) → find_name name.name w.own ≡ o → (is_nested start ≡ true)
          × (v.level < length start.outer)
      by None q = first (looked_first name ∙ ap (λ (k : Option (Known g.Reported)). looked k name)
          (none_before name.name q) ∙ ap (λ (k : Option (Known g.Reported)). looked k name) (sym q)
          ∙ sym (looked_now name) ∙ e)
      by (Some k) q = entry (keeps.entries name.name k q)
        where
          entry : (find_name name.name start.own ≡ Some k) ⊎ Fits start.level k → (is_nested start ≡ true)
              × (v.level < length start.outer)
          entry (inl f) = first (looked_first name ∙ ap (λ (k : Option (Known g.Reported)). looked k name) (f ∙ sym q)
              ∙ sym (looked_now name) ∙ e)
          entry (inr f) = let z = local_fits g start.level v
              (meaning_fits g start.level name.pos k (meaning.Local v) f
              (sym (around_some g w 0 no_withs_now name k q) ∙ e)) in (nested z.1, below z.0)

  -- a name of the block of a procedure is no variable of the module
  no_variable : (name : Ident) (v : Variable) → looked_up g w name ≡ Ok (meaning.Variable v) → is_nested start ≡ true
      → taken name.name ≡ false → (k : Known g.Reported) → find_name name.name w.own ≡ Some k → ⊥
  no_variable name v e n t k q = by (keeps.entries name.name k q)
    where
      by : (find_name name.name start.own ≡ Some k) ⊎ Fits start.level k → ⊥
      by (inl f) = found_none (none_first name.name t) f
      by (inr f) = not_level (start.level == 0) n
          (variable_fits g start.level v (meaning_fits g start.level name.pos k (meaning.Variable v) f
          (sym (around_some g w 0 no_withs_now name k q) ∙ e)))

  before_same : (name : Ident) {o p : Option (Known g.Reported)} → IsAsBefore o p → looked p name ≡ looked o name
  before_same name as_before = refl
  before_same name (has_heading p) = refl

  outside_same : (name : Ident) → (taken name.name ≡ false → AnyDeclares block name.name → ⊥)
      → looked_up g w name ≡ looked_up g start name
  outside_same name c = looked_now name ∙ before_same name (others name.name c) ∙ sym (looked_first name)

  -- ---- in a procedure

  module _ (s : Scope g.Reported) (home : s.types.home ≡ w.types.home) (inner : s.level ≡ length start.outer)
      (declared : (n : List ℕ) → taken n ≡ false → AnyDeclares block n → find_name n w.own ≡ None → ⊥) where
    no_local : (v : LocalVariable) → v.level < length start.outer → is_own_variable s (meaning.Local v) ≡ false
    no_local v l = ap (λ (b : Bool). is_own v.kind && b) (other_level l inner) ∙ never_both (is_own v.kind)
      where
        other_level : {a b c : ℕ} → a < b → c ≡ b → (a == c) ≡ false
        other_level l e = grind (arith, nat_tests)

    abbrev Mine : Ident → Bool
    Mine name = cond (is_nested start) ((taken name.name || not (is_declared name.name block)) && outer name) (own name)

    module _ (name : Ident) where
      -- a name that counts as it did before
      as_first : (m : Meaning) → looked_up g w name ≡ Ok m → looked_up g w name ≡ looked_up g start name
          → outer name ≡ is_own_variable s m
      as_first m e q = owns_first name m (sym q ∙ e) ∙ by m (sym q ∙ e)
        where
          by : (m : Meaning) → looked_up g start name ≡ Ok m → is_own_variable start m ≡ is_own_variable s m
          by (meaning.Constant v) e = refl
          by (meaning.Type t n) e = refl
          by (meaning.Variable v) e = ap (λ (n : ℕ). v.home == n) (sym keeps.home ∙ sym home)
          by (meaning.Local v) e = let z = locals name v e in z.2 ∙ sym (no_local v z.1)
          by (meaning.Field f) e = refl
          by (meaning.Procedure p) e = refl
          by (meaning.LocalProcedure p) e = refl
          by meaning.Ahead e = refl
          by (meaning.Standard f) e = refl
          by (meaning.Module k) e = refl

      of_module : (m : Meaning) → looked_up g w name ≡ Ok m → is_nested start ≡ false → own name ≡ is_own_variable s m
      of_module m e n = owns name m e ∙ by m e
        where
          by : (m : Meaning) → looked_up g w name ≡ Ok m → is_own_variable w m ≡ is_own_variable s m
          by (meaning.Constant v) e = refl
          by (meaning.Type t n) e = refl
          by (meaning.Variable v) e = ap (λ (n : ℕ). v.home == n) (sym home)
          by (meaning.Local v) e = absurd (clash (local_around name v e).0 n)
          by (meaning.Field f) e = refl
          by (meaning.Procedure p) e = refl
          by (meaning.LocalProcedure p) e = refl
          by meaning.Ahead e = refl
          by (meaning.Standard f) e = refl
          by (meaning.Module k) e = refl

      -- a name that a procedure's block declares
      of_block : (m : Meaning) → looked_up g w name ≡ Ok m → is_nested start ≡ true → taken name.name ≡ false
          → AnyDeclares block name.name → false ≡ is_own_variable s m
      of_block (meaning.Constant v) e n t a = refl
      of_block (meaning.Type u k) e n t a = refl
      of_block (meaning.Variable v) e n t a = by (find_name name.name w.own) refl
        where
          by : (o : Option (Known g.Reported)) → find_name name.name w.own ≡ o
              → false ≡ is_own_variable s (meaning.Variable v)
          by None q = absurd (declared name.name t a q)
          by (Some k) q = absurd (no_variable name v e n t k q)
      of_block (meaning.Local v) e n t a = sym (no_local v (local_around name v e).1)
      of_block (meaning.Field f) e n t a = refl
      of_block (meaning.Procedure p) e n t a = refl
      of_block (meaning.LocalProcedure p) e n t a = refl
      of_block meaning.Ahead e n t a = refl
      of_block (meaning.Standard f) e n t a = refl
      of_block (meaning.Module k) e n t a = refl

      mine_by : (m : Meaning) → looked_up g w name ≡ Ok m → (n t b : Bool) → is_nested start ≡ n → taken name.name ≡ t
          → Decided (AnyDeclares block name.name) b
          → cond n ((t || not b) && outer name) (own name) ≡ is_own_variable s m
      mine_by m e true true b q u d = as_first m e (outside_same name (λ t a. clash u t))
      mine_by m e true false true q u (holds a) = of_block m e q u a
      mine_by m e true false false q u (fails_it c) = as_first m e (outside_same name (λ t a. c a))
      mine_by m e false t b q u d = of_module m e q

      pub mine_counts : (m : Meaning) → looked_up g w name ≡ Ok m → Mine name ≡ is_own_variable s m
      mine_counts m e = mine_by m e (is_nested start) (taken name.name) (is_declared name.name block) refl refl
          (declared_decided block name.name)
