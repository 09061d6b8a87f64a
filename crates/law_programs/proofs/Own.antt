-- The own names of a procedure's block mean what is there, at the end of its declarations.
use Rattle.std.proofs.Common.{◌≡◌, ℕ, zero, suc, ◌≤◌, ◌==◌, Bool, true, false, cond, ◌&&◌, ◌⊎◌, inl, inr, List, [], ◌∷◌, ◌++◌, length, Option, Some, None, Result, refl, sym, ap, subst, ◌∙◌, arith}
use Rattle.std.specs.Prelude.{◌-◌, map, drop, slice_get, if◌then◌else◌}
use Rattle.std.proofs.lemmas.Bool.{eqb-true, eq-eqb}
use Rattle.std.proofs.lemmas.Option.{same_Some}
use Rattle.typed_tree.specs.declared.known_types.Types.{Types}
use Rattle.typed_tree.specs.declared.meaning.LocalKind.TheVariants as local
use Rattle.typed_tree.specs.declared.meaning.LocalVariable.{LocalVariable}
use Rattle.typed_tree.specs.declared.meaning.NestedProcedure.{NestedProcedure}
use Rattle.typed_tree.specs.declared.meaning.Meaning.{Meaning}
use Rattle.typed_tree.specs.declared.meaning.Meaning.TheVariants as meaning
use Rattle.typed_tree.specs.declared.shape.Formal.{Formal}
use Rattle.typed_tree.specs.declared.typed_module.Routine.{Routine}
use Rattle.typed_tree.specs.declared.typed_module.TypedModule.{TypedModule}
use Rattle.typed_tree.specs.declared.typed_module.Which.{Which}
use Rattle.typed_tree.specs.declared.typed_module.Which.TheVariants as which
use Rattle.typed_tree.specs.declared.types.TypeNo.{TypeNo}
use Rattle.check_scope.specs.declared.known.Known.{Known}
use Rattle.check_scope.specs.declared.known.Known.TheVariants.{Later, Ahead, Begun, Headed, Declared}
use Rattle.check_scope.specs.declared.known.Origin.TheVariants as origin
use Rattle.layout_storage.specs.Shapes.{tree}
use Rattle.check_value.specs.Values.{slot_of, nested_by}
use Rattle.check_block.specs.Inner as inner
use Rattle.law_memory.specs.Relation.{heading_at}
use Rattle.law_simulation.specs.Frames.{Kind, Kept, Alias, Open, Kinds, formal_kind, kind_at}
use Rattle.law_simulation.specs.Passing.{forms_of, result_of}
use Rattle.law_simulation.specs.TreesTyped.{Context, IsInner, kinds_around}
use Rattle.law_modules.specs.WellFormed.{IsRoutine}
use Rattle.law_well_formed.specs.Formed.{Holds, FormedMeaning}
use Rattle.law_well_formed.proofs.Basics.{holds_weaker}
use Rattle.law_well_formed.specs.FormedScopes.{AreFormedNames}
use Rattle.law_well_formed.specs.FormedNumbers.{Lists, IsFormal, IsBehind, LocalNumbered, MeaningNumbered, NamesNumbered}
use Rattle.law_well_formed.specs.FormedRanges.{MeaningRanged, NamesRanged}
use Rattle.law_programs.specs.Typing.{kind_of}
use Rattle.law_programs.proofs.Words.{holds_both}
use Rattle.law_programs.specs.Carried.{MeaningWord, NamesWords}
use Rattle.law_programs.specs.TypingBodies.{Stage, stands_in, MeaningThere, KnownThere, NamesThere, MeaningLocal, NamesLocal, HasFrame}

-- ---- what stands in a frame

module _ (types : Types) where
  kind_by : (b c : Bool) (t : TypeNo) → kind_of types t (cond b local.Open (cond c local.Alias local.Value))
      ≡ (if b then Open (tree types t) else (if c then Alias (tree types t) else Kept (tree types t)))
  kind_by true c t = refl
  kind_by false true t = refl
  kind_by false false t = refl

  kind_same : (f : Formal) → kind_of types f.of (inner.formal_kind f) ≡ formal_kind types f
  kind_same f = kind_by f.is_open f.is_var f.of

  abbrev kept : TypeNo → Kind
  kept t = Kept (tree types t)

  formal_at : (fs : List Formal) (rest : Kinds) (n : ℕ) (f : Formal) → slice_get fs n ≡ Some f
      → slice_get (map (formal_kind types) fs ++ rest) n ≡ Some (formal_kind types f)
  formal_at [] rest n f e = absurd cc
  formal_at (x ∷ fs) rest zero f e = ap (λ (y : Formal). Some (formal_kind types y)) (same_Some x f e)
  formal_at (x ∷ fs) rest (suc n) f e = formal_at fs rest n f e

  kept_at : (vs : List TypeNo) (n : ℕ) (t : TypeNo) → slice_get vs n ≡ Some t
      → slice_get (map kept vs) n ≡ Some (kept t)
  kept_at [] n t e = absurd cc
  kept_at (x ∷ vs) zero t e = ap (λ (y : TypeNo). Some (kept y)) (same_Some x t e)
  kept_at (x ∷ vs) (suc n) t e = kept_at vs n t e

  variable_at : (fs : List Formal) (vs : List TypeNo) (n : ℕ) (t : TypeNo) → length fs ≤ n → slice_get vs n ≡ Some t
      → slice_get (map (formal_kind types) fs ++ map kept (drop (length fs) vs)) n ≡ Some (kept t)
  variable_at [] vs n t h e = kept_at vs n t e
  variable_at (x ∷ fs) [] n t h e = absurd cc
  variable_at (x ∷ fs) (v ∷ vs) zero t h e = absurd (omega (arith, h))
  variable_at (x ∷ fs) (v ∷ vs) (suc n) t h e = variable_at fs vs n t (omega (arith, h)) e

-- ---- procedures of a block

-- the procedure with this number and heading stands in the procedure whose block it is, one level deeper
abbrev pub NestedStands : TypedModule → (level : ℕ) → Option Which → (n : ℕ) → TypeNo → Type 0
NestedStands m level around n t = (r : Routine)
    × ((slice_get m.locals n ≡ Some r) × ((r.heading ≡ t) × ((r.around ≡ around) × (r.level ≡ suc level))))

-- ---- own names

module _ (z : Stage) (level home : ℕ) (around : Option Which) (fs : List Formal) (vs procedures : List TypeNo)
    (frame : HasFrame z level around fs vs) (there : slice_get z.p z.place ≡ Some z.home) where
  abbrev x : Context
  x = stands_in z level around

  abbrev lists : Lists
  lists = record { level = level; home = home; variables = vs; procedures = procedures }

  none_up : (l : ℕ) → l ≡ level → level - l ≡ 0
  none_up l e = omega (arith, e)

  abbrev types : Types
  types = z.home.types

  placed_at : (v : LocalVariable) → slice_get vs v.number ≡ Some v.of → IsFormal fs v ⊎ IsBehind fs v
      → slice_get (map (formal_kind types) fs ++ map (kept types) (drop (length fs) vs)) v.number
      ≡ Some (kind_of types v.of v.kind)
  placed_at v e (inl k) =
      formal_at types fs _ v.number k.formal k.there
      ∙ ap (λ (y : Kind). Some y) (sym (kind_same types k.formal))
      ∙ ap (λ t. Some (kind_of types t (inner.formal_kind k.formal))) (sym k.of)
      ∙ ap (λ y. Some (kind_of types v.of y)) (sym k.same_kind)
  placed_at v e (inr k) = variable_at types fs vs v.number v.of k.behind e
      ∙ ap (λ y. Some (kind_of types v.of y)) (sym k.same_kind)

  local_there : (v : LocalVariable) → LocalNumbered fs lists v
      → kind_at x.kinds (slot_of level v) ≡ Some (kind_of types v.of v.kind)
  local_there v h =
      subst (λ (u : ℕ). kind_at x.kinds (record { up = u; number = v.number }) ≡ Some (kind_of types v.of v.kind))
      (sym (none_up v.level h.level))
      (ap (λ (kss : List Kinds). kind_at kss (record { up = 0; number = v.number })) frame.kinds
      ∙ placed_at v h.there h.placed)

  inner_at : (n : ℕ) (t : TypeNo) → NestedStands z.home level around n t
      → IsInner x (record { up = 0; number = n; heading = t })
  inner_at n t s = record {
    less = let e : length x.kinds ≡ suc (length frame.rest) = ap (λ (kss : List Kinds). length kss) frame.kinds in
        omega (arith, e);
    there = there;
    routine = s.0;
    is = s.1.0;
    kinds = ap (λ (l : ℕ). kinds_around z.home l s.0.around) s.1.1.1.1
        ∙ ap (λ (w : Option Which). kinds_around z.home (suc level) w) s.1.1.1.0;
    forms = ap (λ (h : TypeNo). forms_of types h) s.1.1.0;
    result = ap (λ (h : TypeNo). result_of types h) s.1.1.0;
    heading = ap (λ (h : TypeNo). heading_at types h) s.1.1.0;
  }

  inner_there : (p : NestedProcedure) → p.level ≡ level → NestedStands z.home level around p.number p.heading
      → IsInner x (nested_by level p)
  inner_there p e s = subst (λ (u : ℕ). IsInner x (record { up = u; number = p.number; heading = p.heading }))
      (sym (none_up p.level e)) (inner_at p.number p.heading s)

  -- what the module has under the number of a procedure in the block
  abbrev pub MeaningNested : Meaning → Type 0
  MeaningNested (meaning.Constant v) = Unit {0}
  MeaningNested (meaning.Type t n) = Unit {0}
  MeaningNested (meaning.Variable v) = Unit {0}
  MeaningNested (meaning.Local v) = Unit {0}
  MeaningNested (meaning.Field f) = Unit {0}
  MeaningNested (meaning.Procedure p) = Unit {0}
  MeaningNested (meaning.LocalProcedure p) = NestedStands z.home level around p.number p.heading
  MeaningNested meaning.Ahead = Unit {0}
  MeaningNested (meaning.Standard f) = Unit {0}
  MeaningNested (meaning.Module k) = Unit {0}

  -- all that is known of a name of the block
  abbrev All_ : Meaning → Type 0
  All_ m = (MeaningNumbered fs lists m × MeaningRanged types m) × ((MeaningWord m × MeaningLocal m) × MeaningNested m)

  meaning_there : (m : Meaning) → All_ m → MeaningThere x z.opens level m
  meaning_there (meaning.Constant v) h = ((h.0.1, h.1.0.0), tt)
  meaning_there (meaning.Type t n) h = (tt, tt)
  meaning_there (meaning.Variable v) h = absurd h.1.0.1
  meaning_there (meaning.Local v) h = (local_there v h.0.0, let e = h.0.0.level in omega (arith, e))
  meaning_there (meaning.Field f) h = absurd h.1.0.1
  meaning_there (meaning.Procedure p) h = absurd h.1.0.1
  meaning_there (meaning.LocalProcedure p) h = (inner_there p h.0.0 h.1.1, let e = h.0.0 in omega (arith, e))
  meaning_there meaning.Ahead h = (tt, tt)
  meaning_there (meaning.Standard f) h = absurd h.1.0.1
  meaning_there (meaning.Module k) h = absurd h.1.0.1

  -- ---- procedures of the block, from those of two modules

  module _ (other : TypedModule) (nested : (n : ℕ) (t : TypeNo) → IsRoutine z.home.locals n t
      → IsRoutine other.locals n t → NestedStands z.home level around n t) where
    abbrev Two_ : Meaning → Type 0
    Two_ m = FormedMeaning z.home z.opens 0 m × FormedMeaning other z.opens 0 m

    nested_of : (m : Meaning) → Two_ m → MeaningNested m
    nested_of (meaning.Constant v) h = tt
    nested_of (meaning.Type t n) h = tt
    nested_of (meaning.Variable v) h = tt
    nested_of (meaning.Local v) h = tt
    nested_of (meaning.Field f) h = tt
    nested_of (meaning.Procedure p) h = tt
    nested_of (meaning.LocalProcedure p) h = nested p.number p.heading h.0 h.1
    nested_of meaning.Ahead h = tt
    nested_of (meaning.Standard f) h = tt
    nested_of (meaning.Module k) h = tt

    result_there : {T : Type 0} (r : Result Meaning T) → Holds (MeaningNumbered fs lists) r
        → Holds (MeaningRanged types) r → Holds MeaningWord r → Holds MeaningLocal r
        → Holds (FormedMeaning z.home z.opens 0) r → Holds (FormedMeaning other z.opens 0) r
        → Holds (MeaningThere x z.opens level) r
    result_there r a b c d e f =
        holds_weaker meaning_there
        (holds_both r (holds_both r a b) (holds_both r (holds_both r c d) (holds_weaker nested_of (holds_both r e f))))

    known_there : {T : Type 0} (k : Known T) (name : List ℕ) → NamesNumbered fs lists ((name, k) ∷ [])
        → NamesRanged types ((name, k) ∷ []) → NamesWords ((name, k) ∷ []) → NamesLocal ((name, k) ∷ [])
        → AreFormedNames z.home z.opens ((name, k) ∷ [])
        → AreFormedNames other z.opens ((name, k) ∷ []) → KnownThere x z.opens level k
    known_there Later name a b c d e f = tt
    known_there Ahead name a b c d e f = tt
    known_there Begun name a b c d e f = tt
    known_there (Headed r) name a b c d e f =
        result_there r a.0 b.0 c.0 d.0 (holds_weaker (λ m q. q.0) e.0) (holds_weaker (λ m q. q.0) f.0)
    known_there (Declared origin.Here r) name a b c d e f =
        result_there r a.0 b.0 c.0 d.0 (holds_weaker (λ m q. q.0) e.0) (holds_weaker (λ m q. q.0) f.0)
    known_there (Declared (origin.Module k) r) name a b c d e f = result_there r a.0 b.0 c.0 d.0 e.0 f.0
    known_there (Declared (origin.Export k) r) name a b c d e f = result_there r a.0 b.0 c.0 d.0 e.0 f.0

    pub names_there : {T : Type 0} (es : List (List ℕ × Known T)) → NamesNumbered fs lists es → NamesRanged types es
        → NamesWords es → NamesLocal es → AreFormedNames z.home z.opens es → AreFormedNames other z.opens es
        → NamesThere x z.opens level es
    names_there [] a b c d e f = tt
    names_there (k ∷ es) a b c d e f = (
      known_there k.1 k.0 (a.0, tt) (b.0, tt) (c.0, tt) (d.0, tt) (e.0, tt) (f.0, tt),
      names_there es a.1 b.1 c.1 d.1 e.1 f.1,
    )

-- ---- a module whose procedures have other headings, but for those of a block

abbrev pub same_which : Option Which → Option Which → Bool
same_which None None = true
same_which None (Some w) = false
same_which (Some w) None = false
same_which (Some (which.Module n)) (Some (which.Module k)) = n == k
same_which (Some (which.Module n)) (Some (which.Local k)) = false
same_which (Some (which.Local n)) (Some (which.Module k)) = false
same_which (Some (which.Local n)) (Some (which.Local k)) = n == k

which_is : (a b : Option Which) → same_which a b ≡ true → a ≡ b
which_is None None e = refl
which_is None (Some w) e = absurd cc
which_is (Some w) None e = absurd cc
which_is (Some (which.Module n)) (Some (which.Module k)) e = ap (λ (i : ℕ). Some (which.Module i)) (eqb-true n k e)
which_is (Some (which.Module n)) (Some (which.Local k)) e = absurd cc
which_is (Some (which.Local n)) (Some (which.Module k)) e = absurd cc
which_is (Some (which.Local n)) (Some (which.Local k)) e = ap (λ (i : ℕ). Some (which.Local i)) (eqb-true n k e)

equal_self : (n : ℕ) → (n == n) ≡ true
equal_self n = eq-eqb n n refl

which_self : (a : Option Which) → same_which a a ≡ true
which_self None = refl
which_self (Some (which.Module n)) = equal_self n
which_self (Some (which.Local n)) = equal_self n

both_left : (a b : Bool) → (a && b) ≡ true → a ≡ true
both_left true b e = refl
both_left false b e = absurd cc

both_right : (a b : Bool) → (a && b) ≡ true → b ≡ true
both_right true b e = e
both_right false b e = absurd cc

both_true : (a b : Bool) → a ≡ true → b ≡ true → (a && b) ≡ true
both_true true b e f = f
both_true false b e f = absurd cc

get_map : {A B : Type 0} (f : A → B) (xs : List A) (n : ℕ) (x : A) → slice_get xs n ≡ Some x
    → slice_get (map f xs) n ≡ Some (f x)
get_map f [] n x e = absurd cc
get_map f (y ∷ xs) zero x e = ap (λ u. Some (f u)) (same_Some y x e)
get_map f (y ∷ xs) (suc n) x e = get_map f xs n x e

module _ (m : TypedModule) (level : ℕ) (around : Option Which) where
  abbrev pub in_block : Routine → Bool
  in_block r = same_which r.around around && (r.level == suc level)

  abbrev pub renamed : Bool → Routine → Routine
  renamed b r = cond b r (record r { heading = record { home = r.heading.home; number = suc r.heading.number } })

  abbrev pub tagged : Routine → Routine
  tagged r = renamed (in_block r) r

  abbrev pub tagged_module : TypedModule
  tagged_module = record m { locals = map tagged m.locals }

  no_type : (t : TypeNo) → record { home = t.home; number = suc t.number } ≡ t → ⊥
  no_type t e = let k : suc t.number ≡ t.number = ap (λ (u : TypeNo). u.number) e in omega (arith, k)

  nested_by_tag : (n : ℕ) (t : TypeNo) (r : Routine) (b : Bool) → in_block r ≡ b → slice_get m.locals n ≡ Some r
      → r.heading ≡ t → (renamed b r).heading ≡ t → NestedStands m level around n t
  nested_by_tag n t r true q e h k = (
    r,
    (
      e,
      (
        h,
        (
          which_is r.around around (both_left (same_which r.around around) (r.level == suc level) q),
          eqb-true
              r.level (suc level) (both_right (same_which r.around around) (r.level == suc level) q),
        ),
      ),
    ),
  )
  nested_by_tag n t r false q e h k = absurd (no_type r.heading (k ∙ sym h))

  pub tagged_nested : (n : ℕ) (t : TypeNo) → IsRoutine m.locals n t → IsRoutine tagged_module.locals n t
      → NestedStands m level around n t
  tagged_nested n t a b =
      nested_by_tag n t a.0 (in_block a.0) refl a.1 a.2
      (ap (λ (r : Routine). r.heading) (same_Some (tagged a.0) b.0 (sym (get_map tagged m.locals n a.0 a.1) ∙ b.1))
      ∙ b.2)

  tag_none : (r : Routine) (b : Bool) → b ≡ true → renamed b r ≡ r
  tag_none r true e = refl
  tag_none r false e = absurd cc

  block_true : (r : Routine) → r.around ≡ around → r.level ≡ suc level → in_block r ≡ true
  block_true r a l =
      both_true (same_which r.around around) (r.level == suc level)
      (ap (λ (w : Option Which). same_which w around) a ∙ which_self around)
      (ap (λ (k : ℕ). k == suc level) l ∙ equal_self (suc level))

  pub nested_tagged : (n : ℕ) (t : TypeNo) → NestedStands m level around n t → IsRoutine tagged_module.locals n t
  nested_tagged n t s = (
    s.0,
    get_map tagged m.locals n s.0 s.1.0
        ∙ ap (λ (r : Routine). Some r) (tag_none s.0 (in_block s.0) (block_true s.0 s.1.1.1.0 s.1.1.1.1)),
    s.1.1.0,
  )

  pub nested_routine : (n : ℕ) (t : TypeNo) → NestedStands m level around n t → IsRoutine m.locals n t
  nested_routine n t s = (s.0, s.1.0, s.1.1.0)
