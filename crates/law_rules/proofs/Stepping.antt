-- Behind one declaration of a definition, the next is read as the first of a block.
use Rattle.std.proofs.Common.{◌≡◌, ℕ, Bool, true, false, cond, List, [], ◌∷◌, ◌++◌, Option, Some, None, Result, Ok, Err, ◌⊎◌, inl, inr, refl, sym, ap, subst, ◌∙◌}
use Rattle.std.specs.Prelude.{◌||◌, slice_get}
use Rattle.m2_rule.specs.declared.breach.Breach.{Breach}
use Rattle.m2_tree.specs.declared.pos.Pos.{Pos}
use Rattle.m2_tree.specs.declared.name.Ident.{Ident}
use Rattle.typed_tree.specs.declared.meaning.Meaning.{Meaning}
use Rattle.typed_tree.specs.declared.types.TypeNo.{TypeNo}
use Rattle.typed_tree.specs.declared.table.Table.{Table}
use Rattle.typed_tree.specs.Names.{find_name}
use Rattle.check_scope.specs.declared.known.Known.{Known}
use Rattle.check_scope.specs.declared.meaningless.Meaningless.{Meaningless}
use Rattle.check_scope.specs.declared.meaningless.Meaningless.TheVariants as meaningless
use Rattle.check_scope.specs.declared.scope.Block.{Block}
use Rattle.check_scope.specs.declared.scope.OpenedRecord.{OpenedRecord}
use Rattle.check_scope.specs.declared.scope.Scope.{Scope}
use Rattle.check_scope.specs.Elaborated.{Gathers}
use Rattle.check_scope.specs.Scopes.{looked_up, known_outside, or_around, means_seen, means_as, means_or, open_field, is_free}
use Rattle.check_const.specs.Denote.{exported_by}
use Rattle.def_typing.specs.Things as things
use Rattle.def_typing.specs.Things.{Headless, Standing, Unknown}
use Rattle.def_typing.specs.Parts.{here, later, Named}
use Rattle.def_typing.specs.TypeExprs.{Member, member_stands, with_types}
use Rattle.def_typing.specs.Declarations as blocks
use Rattle.def_typing.specs.Declarations.{Declaration, names_of, constants_of, Declares, AnyDeclares, IsFirst, later_on, Declared as Resolved, is_among, There}
use Rattle.def_typing.specs.Definitions.{Context, Placed, Means, Behind, its_own, its_constant, as_before, Follows, Breaks}
use Rattle.law_typing.specs.Judging.{Judges}
use Rattle.law_typing.specs.Exact.{standing, Sees, sees, Exports, Knows, Repeats, of_heading, of_declaration, TakenAs, is_taken, awaits, is_a_heading, not_taken, AreOnce}
use Rattle.law_typing.proofs.Combining.{Decided, holds, fails_it}
use Rattle.law_typing.proofs.Entering.{named_left, among_decided}
use Rattle.law_typing.proofs.Enumerating.{member_known}
use Rattle.law_typing.proofs.Declaring.{clash, any_first, one_first, mark_of, KnownAs, outer, headed, ahead, reading, behind, a_member, KnowsBlock}
use Rattle.law_rules.proofs.Bare.{unmark, unmarked, bare, found_bare, once_bare}
use Rattle.law_rules.proofs.Entries.{IsDeclared, by_declaration, by_heading}

-- what is known where a declaration stands
abbrev pub context : {T : Type 0} → Scope T → (Ident → Standing) → (List ℕ → Bool) → Context
context start names taken = record { types = start.types; names = names; taken = taken }

module _ (g : Gathers) (j : Judges g) (exports : ℕ → Ident → Standing) where
  -- what is known of a scope where these declarations are left, and these rules are broken in front
  pub record Standpoint (start : Scope g.Reported) (names : Ident → Standing) (taken : List ℕ → Bool)
      (rest : List Declaration) (B : Breach → Type 0) (s : Scope g.Reported) : Type 0 where
    pub awaited : List ℕ → Option TypeNo
    pub takes : (n : List ℕ) → TakenAs g j (taken n) (awaited n) (find_name n start.own)
    pub knows : Knows g j names exports start
    pub no_withs : start.withs ≡ []
    pub once : AreOnce start.own
    pub block : KnowsBlock g j exports names start taken awaited false rest [] rest
        (There start.types exports names taken awaited false rest []) s
    -- what uses of names repeat is broken in front
    pub repeats : (f : Breach) → Repeats g j names start f → B f

  -- what names stand for does not depend on the headings that are awaited
  module _ (start : Scope g.Reported) (names : Ident → Standing) (taken : List ℕ → Bool) (p : Placed) where
    -- what the scope knows of its own name
    pub record Owns (B : Breach → Type 0) (k : Known g.Reported) : Type 0 where
      pub stands : (s : Standing) × Means exports p s
      pub seen : (s : Standing) → Means exports p s → (at : Pos) → Sees g j at s (means_seen g at k true)
      pub heading : (at : Pos) (b : Bool) (r : g.Reported) → means_seen g at k true ≡ Err (meaningless.Headless b r)
          → (f : Breach) → j.Among r f → B f
      pub broken : (at : Pos) (r : g.Reported) → means_seen g at k true ≡ Err (meaningless.Broken r) → (f : Breach)
          → j.Among r f → B f
      pub taking : (u : Option TypeNo) × TakenAs g j true u (Some k)

    -- what the scope knows of a name behind it
    pub data Now (B : Breach → Type 0) (n : List ℕ) : Option (Known g.Reported) → Type 0 where
      kept : {k : Option (Known g.Reported)} → (taken n ≡ false → AnyDeclares (p.what ∷ p.left) n → ⊥)
          → k ≡ find_name n start.own → Now B n k
      marked : (d : Declaration) → taken n ≡ false → IsFirst n d p.left → (Declares p.what n → ⊥)
          → Now B n (Some (mark_of d))
      owned : {k : Known g.Reported} → taken n ≡ false → Named (names_of p.what) n → Owns B k → Now B n (Some k)
      a_constant : {e : Member} → taken n ≡ false → (Named (names_of p.what) n → ⊥) → Declares p.what n
          → find_name n p.adds.brings ≡ Some e → Now B n (Some (member_known e))

  free_mark : (d : Declaration) → is_free (Some (mark_of {T = g.Reported} d)) ≡ true
  free_mark (blocks.OfConstant c) = refl
  free_mark (blocks.OfType d) = refl
  free_mark (blocks.OfVariables v) = refl
  free_mark (blocks.OfProcedure h) = refl

  -- what is taken is not free
  settled_taken : {u : Option TypeNo} {k : Known g.Reported} → TakenAs g j true u (Some k) → is_free (Some k) ≡ false
  settled_taken (is_taken e) = refl
  settled_taken (awaits p) = refl
  settled_taken is_a_heading = refl

  bare_taken : {b : Bool} {u : Option TypeNo} {k : Option (Known g.Reported)} → TakenAs g j b u k → unmark k ≡ k
  bare_taken (is_taken e) = refl
  bare_taken (awaits p) = refl
  bare_taken is_a_heading = refl
  bare_taken not_taken = refl

  nothing_taken : {u : Option TypeNo} {b : Bool} {k : Option (Known g.Reported)} → TakenAs g j b u k → b ≡ false
      → k ≡ None
  nothing_taken (is_taken w) e = absurd (clash refl e)
  nothing_taken (awaits p) e = absurd (clash refl e)
  nothing_taken is_a_heading e = absurd (clash refl e)
  nothing_taken not_taken e = refl

  -- ---- behind it

  module _ (start : Scope g.Reported) (names : Ident → Standing) (taken : List ℕ → Bool) (d : Resolved)
      (ds : List Declaration) {B : Breach → Type 0} {s : Scope g.Reported}
      (v : Standpoint start names taken (d.what ∷ ds) B s) where
    abbrev pub place : Placed
    place = record { at = context start names taken; what = d.what; adds = d.adds; left = ds }

    abbrev pub More : Breach → Type 0
    More f = B f ⊎ Breaks exports place f

    abbrev pub NowKnown : List ℕ → Option (Known g.Reported) → Type 0
    NowKnown n k = Now start names taken place More n k

    abbrev pub taken_now : List ℕ → Bool
    taken_now n = is_among n (names_of d.what ++ constants_of d.what) || taken n

    abbrev pub named_by : (x : Ident) {k : Option (Known g.Reported)} → NowKnown x.name k → (s : Standing)
        × Behind exports place x s
    named_by x (kept c e) = (names x, as_before (λ t h. c t (d.what, here, h)))
    named_by x (marked c t i h) = (names x, as_before (λ u w. h w))
    named_by x (owned t o w) = (w.stands.0, its_own t o w.stands.1)
    named_by x (a_constant {e = e} t o h q) = (member_stands e, its_constant t o h q)

    -- ---- what names mean

    seen_one : {at : Pos} {t : Standing} {m : Meaning} → Sees g j at t (Ok m) → t ≡ standing m
    seen_one (sees m) = refl

    abbrev somewhere : Pos
    somewhere = record { line = 1; col = 1 }

    declared_stands : {m : Meaning} {k : Known g.Reported} {t : Standing} → IsDeclared m (Some k)
        → Sees g j somewhere t (means_seen g somewhere k true) → t ≡ standing m
    declared_stands by_declaration w = seen_one w
    declared_stands by_heading w = seen_one w

    -- its own name means what it says
    pub owned_means : (n : List ℕ) {k : Option (Known g.Reported)} → NowKnown n k → taken n ≡ false
        → Named (names_of d.what) n → (m : Meaning) → IsDeclared m k → Means exports place (standing m)
    owned_means n (kept c e) t o m q = absurd (c t (d.what, here, named_left (constants_of d.what) o))
    owned_means n (marked c u i h) t o m q = absurd (h (named_left (constants_of d.what) o))
    owned_means n (owned {k = k} u w z) t o m q =
        subst (λ (t : Standing). Means exports place t)
        (declared_stands q (z.seen z.stands.0 z.stands.1 somewhere)) z.stands.1
    owned_means n (a_constant u w h z) t o m q = absurd (w o)

    -- a constant of an enumeration is known as one
    pub constant_is : (n : List ℕ) {k : Option (Known g.Reported)} → NowKnown n k → taken n ≡ false
        → (Named (names_of d.what) n → ⊥) → Declares d.what n → (e : Member) × (find_name n d.adds.brings ≡ Some e)
        × (k ≡ Some (member_known e))
    constant_is n (kept c e) t o h = absurd (c t (d.what, here, h))
    constant_is n (marked c u i w) t o h = absurd (w h)
    constant_is n (owned u w z) t o h = absurd (o w)
    constant_is n (a_constant {e = e} u w y z) t o h = (e, z, refl)

    -- All other names, and those that are taken, are known as before.
    pub other_kept : (n : List ℕ) {k l : Option (Known g.Reported)}
        → KnownAs g j exports names start taken v.awaited false (d.what ∷ ds) []
        (There start.types exports names taken v.awaited false (d.what ∷ ds) []) n k → NowKnown n l
        → (Declares d.what n → ⊥) ⊎ (taken n ≡ true) → l ≡ k
    other_kept n (outer c q e) (kept z y) w = y ∙ sym e
    other_kept n (outer c q e) (marked z t i h) w = let a = any_first i in absurd (c t (a.0, later a.1, a.2))
    other_kept n (outer c q e) (owned t o z) w =
        absurd (elim w [ inl h ↦ h (named_left (constants_of d.what) o) | inr y ↦ clash y t ])
    other_kept n (outer c q e) (a_constant t o h z) w = absurd (elim w [ inl y ↦ y h | inr y ↦ clash y t ])
    other_kept n (headed p y q e) z w = elim q.1 [ ]
    other_kept n (ahead c t i q b) (kept z y) w = absurd (z t (any_first i))
    other_kept n (ahead c t i q b) (marked z u y h) w =
        one_first (λ (x : Declaration). ◌≡◌ {A = Option (Known g.Reported)} (Some (mark_of z)) (Some (mark_of x))) i
        (later_on h y) refl
    other_kept n (ahead c t i q b) (owned u o z) w =
        absurd (elim w [ inl h ↦ h (named_left (constants_of d.what) o) | inr y ↦ clash y t ])
    other_kept n (ahead c t i q b) (a_constant u o h z) w = absurd (elim w [ inl y ↦ y h | inr y ↦ clash y t ])
    other_kept n (reading c t i q b e) z w = elim b [ inl y ↦ absurd (clash y t) | inr y ↦ elim y.1 [ ] ]
    other_kept n (behind k t i o z) y w = elim i [ ]
    other_kept n (a_member t i o a e) y w = elim i [ ]

    -- ---- what is taken

    kept_taken : {n : List ℕ} {b : Bool} → Decided (Declares d.what n) b → (t : Bool) → taken n ≡ t
        → (taken n ≡ false → AnyDeclares (d.what ∷ ds) n → ⊥) → (b || t) ≡ t
    kept_taken (holds h) true e c = refl
    kept_taken (holds h) false e c = absurd (c e (d.what, here, h))
    kept_taken (fails_it h) t e c = refl

    apart_taken : {n : List ℕ} {b : Bool} → Decided (Declares d.what n) b → (Declares d.what n → ⊥) → taken n ≡ false
        → (b || taken n) ≡ false
    apart_taken (holds h) c t = absurd (c h)
    apart_taken (fails_it h) c t = t

    own_taken : {n : List ℕ} {b : Bool} → Decided (Declares d.what n) b → Declares d.what n → (b || taken n) ≡ true
    own_taken (holds h) w = refl
    own_taken (fails_it h) w = absurd (h w)

    decides : (n : List ℕ) → Decided (Declares d.what n) (is_among n (names_of d.what ++ constants_of d.what))
    decides n = among_decided (names_of d.what ++ constants_of d.what) n

    abbrev pub awaited_by : (n : List ℕ) {k : Option (Known g.Reported)} → NowKnown n k → Option TypeNo
    awaited_by n (kept c e) = v.awaited n
    awaited_by n (marked c t i h) = None
    awaited_by n (owned t o w) = w.taking.0
    awaited_by n (a_constant t o h q) = None

    takes_by : (n : List ℕ) {k : Option (Known g.Reported)} (w : NowKnown n k)
        → TakenAs g j (taken_now n) (awaited_by n w) (unmark k)
    takes_by n (kept {k = k} c e) = subst (λ (b : Bool). TakenAs g j b (v.awaited n) (unmark k))
        (sym (kept_taken (decides n) (taken n) refl c))
        (subst (λ (o : Option (Known g.Reported)). TakenAs g j (taken n) (v.awaited n) o)
        (sym (ap (λ (o : Option (Known g.Reported)). unmark o) e ∙ bare_taken (v.takes n))) (v.takes n))
    takes_by n (marked c t i h) = subst (λ (b : Bool). TakenAs g j b None (unmark (Some (mark_of c))))
        (sym (apart_taken (decides n) h t)) (subst
        (λ (b : Bool). TakenAs g j false None (cond b None (Some (mark_of c)))) (sym (free_mark c)) not_taken)
    takes_by n (owned {k = k} t o w) = subst (λ (b : Bool). TakenAs g j b w.taking.0 (unmark (Some k)))
        (sym (own_taken (decides n) (named_left (constants_of d.what) o)))
        (subst (λ (o : Option (Known g.Reported)). TakenAs g j true w.taking.0 o) (sym (bare_taken w.taking.1))
        w.taking.1)
    takes_by n (a_constant {e = e} t o h q) =
        subst (λ (b : Bool). TakenAs g j b None (Some (member_known e))) (sym (own_taken (decides n) h)) (is_taken refl)

    -- ---- what is known

    module _ (t : Scope g.Reported) (withs : t.withs ≡ []) (around : t.outer ≡ start.outer)
        (types : t.types ≡ with_types start.types d.adds.makes) (tables : t.tables ≡ start.tables)
        (once : AreOnce t.own) (now : (n : List ℕ) → NowKnown n (find_name n t.own)) where
      abbrev looked : Option (Known g.Reported) → Ident → Result Meaning (Meaningless g.Reported)
      looked k x = means_as g x.pos (or_around k (known_outside x.name start.outer))

      looked_first : (x : Ident) → looked_up g start x ≡ looked (find_name x.name start.own) x
      looked_first x = ap (λ (ws : List OpenedRecord). means_or (open_field start.types x.name ws)
          (looked (find_name x.name start.own) x)) v.no_withs

      looked_bare : (x : Ident) → looked_up g (bare t) x ≡ looked (unmark (find_name x.name t.own)) x
      looked_bare x =
          ap (λ (ws : List OpenedRecord). means_or (open_field t.types x.name ws)
          (means_as g x.pos (or_around (find_name x.name (unmarked t.own)) (known_outside x.name t.outer)))) withs
          ∙ ap (λ (outer : List (Block g.Reported)). means_as g x.pos
          (or_around (find_name x.name (unmarked t.own)) (known_outside x.name outer))) around
          ∙ ap (λ (k : Option (Known g.Reported)). looked k x) (found_bare once x.name)

      seen_before : (x : Ident) {k : Option (Known g.Reported)} → k ≡ find_name x.name start.own
          → Sees g j x.pos (names x) (looked k x)
      seen_before x e = subst (λ (r : Result Meaning (Meaningless g.Reported)). Sees g j x.pos (names x) r)
          (looked_first x ∙ ap (λ (k : Option (Known g.Reported)). looked k x) (sym e)) (v.knows.of_names x)

      -- a name that is declared later is known as before
      bare_kept : (n : List ℕ) {k : Option (Known g.Reported)} → k ≡ find_name n start.own
          → unmark k ≡ find_name n start.own
      bare_kept n e = ap (λ (o : Option (Known g.Reported)). unmark o) e ∙ bare_taken (v.takes n)

      bare_marked : (n : List ℕ) (c : Declaration) → taken n ≡ false → unmark (Some (mark_of c)) ≡ find_name n start.own
      bare_marked n c q = ap (λ (b : Bool). cond b None (Some (mark_of c))) (free_mark c)
          ∙ sym (nothing_taken (v.takes n) q)

      seen_by : (x : Ident) {k : Option (Known g.Reported)} (w : NowKnown x.name k)
          → Sees g j x.pos (named_by x w).0 (looked (unmark k) x)
      seen_by x (kept c e) = seen_before x (bare_kept x.name e)
      seen_by x (marked c q i h) = seen_before x (bare_marked x.name c q)
      seen_by x (owned {k = k} q o w) = subst
          (λ (o : Option (Known g.Reported)). Sees g j x.pos w.stands.0 (looked o x)) (sym (bare_taken w.taking.1))
          (w.seen w.stands.0 w.stands.1 x.pos)
      seen_by x (a_constant q o h w) = sees _

      abbrev pub names_now : Ident → Standing
      names_now x = (named_by x (now x.name)).0

      abbrev pub awaited_now : List ℕ → Option TypeNo
      awaited_now n = awaited_by n (now n)

      knows_now : Knows g j names_now exports (bare t)
      knows_now = record {
        of_names = λ x. subst (λ (r : Result Meaning (Meaningless g.Reported)). Sees g j x.pos (names_now x) r)
            (sym (looked_bare x)) (seen_by x (now x.name));
        of_modules = λ k x. subst (λ (ts : List Table). Exports g j (exports k x) (exported_by x.name (slice_get ts k)))
            (sym tables) (v.knows.of_modules k x);
      }

      takes_now : (n : List ℕ) → TakenAs g j (taken_now n) (awaited_now n) (find_name n (unmarked t.own))
      takes_now n = subst (λ (k : Option (Known g.Reported)). TakenAs g j (taken_now n) (awaited_now n) k)
          (sym (found_bare once n)) (takes_by n (now n))

      -- ---- what is repeated

      repeats_heading : (x : Ident) {k : Option (Known g.Reported)} {b : Bool} {r : g.Reported} {f : Breach}
          (w : NowKnown x.name k) → (named_by x w).0 ≡ things.Known (Headless b)
          → looked (unmark k) x ≡ Err (meaningless.Headless b r) → j.Among r f → More f
      repeats_heading x {f = f} (kept c e) q l m =
          inl (v.repeats f (of_heading q (looked_first x
          ∙ ap (λ (k : Option (Known g.Reported)). looked k x) (sym (bare_kept x.name e)) ∙ l) m))
      repeats_heading x {f = f} (marked c u i h) q l m =
          inl (v.repeats f (of_heading q (looked_first x
          ∙ ap (λ (k : Option (Known g.Reported)). looked k x) (sym (bare_marked x.name c u)) ∙ l) m))
      repeats_heading x {b = b} {r = r} {f = f} (owned {k = k} u o w) q l m =
          w.heading x.pos b r (ap (λ (o : Option (Known g.Reported)). looked o x) (sym (bare_taken w.taking.1)) ∙ l) f m
      repeats_heading x (a_constant u o h w) q l m = absurd cc

      repeats_broken : (x : Ident) {k : Option (Known g.Reported)} {r : g.Reported} {f : Breach} (w : NowKnown x.name k)
          → (named_by x w).0 ≡ Unknown → looked (unmark k) x ≡ Err (meaningless.Broken r) → j.Among r f → More f
      repeats_broken x {f = f} (kept c e) q l m =
          inl (v.repeats f (of_declaration q (looked_first x
          ∙ ap (λ (k : Option (Known g.Reported)). looked k x) (sym (bare_kept x.name e)) ∙ l) m))
      repeats_broken x {f = f} (marked c u i h) q l m =
          inl (v.repeats f (of_declaration q (looked_first x
          ∙ ap (λ (k : Option (Known g.Reported)). looked k x) (sym (bare_marked x.name c u)) ∙ l) m))
      repeats_broken x {r = r} {f = f} (owned {k = k} u o w) q l m =
          w.broken x.pos r (ap (λ (o : Option (Known g.Reported)). looked o x) (sym (bare_taken w.taking.1)) ∙ l) f m
      repeats_broken x (a_constant u o h w) q l m = absurd cc

      repeats_now : (f : Breach) → Repeats g j names_now (bare t) f → More f
      repeats_now f (of_heading {name = x} e q m) = repeats_heading x (now x.name) e (sym (looked_bare x) ∙ q) m
      repeats_now f (of_declaration {name = x} e q m) = repeats_broken x (now x.name) e (sym (looked_bare x) ∙ q) m

      -- ---- where the next declaration stands

      abbrev There_now : List ℕ → Type 0
      There_now = There t.types exports names_now taken_now awaited_now false ds []

      nothing_there : (n : List ℕ) → taken_now n ≡ false → There_now n → ⊥
      nothing_there n q (inl u) = clash u q
      nothing_there n q (inr a) = elim a.1 [ ]

      still_taken : (n : List ℕ) → taken_now n ≡ false → taken n ≡ false
      still_taken n q = by (is_among n (names_of d.what ++ constants_of d.what)) q
        where
          by : (b : Bool) → (b || taken n) ≡ false → taken n ≡ false
          by true e = absurd (clash refl e)
          by false e = e

      own_now : (n : List ℕ) {k : Option (Known g.Reported)} → NowKnown n k → unmark k ≡ find_name n (unmarked t.own)
          → KnownAs g j exports names_now (bare t) taken_now awaited_now false ds [] There_now n k
      own_now n (kept c e) q = outer (λ u a. c (still_taken n u) (a.0, later a.1, a.2)) (λ u z h. elim h.1 [ ])
          (e ∙ sym (bare_kept n e) ∙ q)
      own_now n (marked c u i h) q = ahead c (apart_taken (decides n) h u) i (λ a. elim a.1 [ ])
          (nothing_there n (apart_taken (decides n) h u))
      own_now n (owned u o w) q = outer (λ z a. clash (own_taken (decides n) (named_left (constants_of d.what) o)) z)
          (λ u z h. elim h.1 [ ]) (sym (bare_taken w.taking.1) ∙ q)
      own_now n (a_constant u o h w) q = outer (λ z a. clash (own_taken (decides n) h) z) (λ u z h. elim h.1 [ ]) q

      pub stands_next : Standpoint (bare t) names_now taken_now ds More t
      stands_next = record {
        awaited = awaited_now;
        takes = takes_now;
        knows = knows_now;
        no_withs = withs;
        once = once_bare once;
        block = record {
          same = record { withs = withs; outer = refl; types = refl; tables = refl; level = refl };
          within = λ n a. elim a.1 [ ];
          in_block = λ n a. a;
          left = λ n c i h. i;
          includes = λ n h. h;
          own = λ n. own_now n (now n) (sym (found_bare once n));
          once = λ o. once;
        };
        repeats = repeats_now;
      }

      pub follows_next : Follows exports place (context (bare t) names_now taken_now)
      follows_next = record { types = types; names = λ x. (named_by x (now x.name)).1; taken = λ n. refl }
