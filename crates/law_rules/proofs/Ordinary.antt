-- A declaration of a definition, but a procedure, is read as the first of a block.
use Rattle.std.proofs.Common.{◌≡◌, ℕ, Bool, true, false, List, [], ◌∷◌, cond, Option, Some, None, Result, Ok, ◌⊎◌, inl, inr, refl, sym, Err, ap, ◌∙◌}
use Rattle.std.specs.Prelude.{◌||◌}
use Rattle.std.specs.List.{fold}
use Rattle.m2_rule.specs.declared.breach.Breach.{Breach}
use Rattle.m2_tree.specs.declared.name.Ident.{Ident}
use Rattle.m2_tree.specs.declared.decl.Constant.{Constant}
use Rattle.m2_tree.specs.declared.decl.TypeDecl.{TypeDecl}
use Rattle.m2_tree.specs.declared.decl.Variables.{Variables}
use Rattle.typed_tree.specs.declared.types.TypeNo.{TypeNo}
use Rattle.typed_tree.specs.declared.known_types.Types.{Types}
use Rattle.typed_tree.specs.declared.table.Table.{Table}
use Rattle.typed_tree.specs.Names.{find_name}
use Rattle.check_scope.specs.declared.known.Known.{Known}
use Rattle.check_scope.specs.declared.known.Known.TheVariants as known
use Rattle.check_scope.specs.declared.scope.Scope.{Scope}
use Rattle.check_scope.specs.Elaborated.{Gathers, report, beside}
use Rattle.m2_rule.specs.declared.rule.Rule.TheVariants as rule
use Rattle.check_scope.specs.Scopes.{State, is_free, is_begun, with_known, begin_name}
use Rattle.check_type_expr.specs.Made.{nothing_of, type_of}
use Rattle.check_definition.specs.Declare.{with_constant, with_type, begun_name, with_variables}
use Rattle.check_block.specs.Headings.{standing_known}
use Rattle.check_block.specs.declared.heading.Standing.TheVariants as place
use Rattle.def_typing.specs.Things.{Standing, Undeclared}
use Rattle.def_typing.specs.Parts.{here, later}
use Rattle.def_typing.specs.TypeExprs.{Added, nothing_added, Setting, IsTypeOf, Adds}
use Rattle.def_typing.specs.Declarations as blocks
use Rattle.def_typing.specs.Declarations.{Declaration, OfConstant, OfType, OfVariables, names_of, constants_of, is_among, IsFirst, at_first, later_on, nearest, farther, Declared as Resolved, in_front_of, without, Brings, There}
use Rattle.def_typing.specs.Definitions.{Placed, IsAdded, is_added, Means, says, says_nothing, Follows, Breaks, inside, twice, formal_twice}
use Rattle.law_typing.specs.Judging.{Judges, Answers, means, refuses}
use Rattle.law_typing.specs.Exact.{Repeats, TakenAs, is_taken, is_a_heading}
use Rattle.law_typing.proofs.Combining.{Lawful, Decided, holds, fails_it, Tells, silent, tells}
use Rattle.law_typing.proofs.Entering.{among_decided}
use Rattle.law_typing.proofs.Beginning.{Adding, added}
use Rattle.law_typing.proofs.Recording.{NoTwice}
use Rattle.law_typing.proofs.Sayings.{Saids, said_constant, said_type, said_variables, Exactly}
use Rattle.law_typing.proofs.Declaring.{clash, no_heads, KnownAs, outer, headed, ahead, reading, behind, a_member, Saying, KnowsBlock, Elsewhere, standings, all_stand}
use Rattle.law_typing.proofs.Recording.{type_read}
use Rattle.law_rules.proofs.Twices.{twice_as, either_first, either_second}
use Rattle.law_rules.proofs.Constants.{type_new}
use Rattle.law_rules.proofs.Taking.{right_fine, Takes, constant_takes, type_takes, variables_take}
use Rattle.law_rules.proofs.Listing.{OneListing}
use Rattle.law_rules.proofs.Exporting.{listing_one}
use Rattle.law_rules.proofs.Bare.{bare}
use Rattle.law_rules.proofs.Sections as sections
use Rattle.law_rules.proofs.Stepping.{context, Standpoint, Owns, Now, kept, marked, owned, a_constant, place as placed, More, names_now, taken_now, stands_next, follows_next}

-- at the first declaration of a block it does not matter which headings are awaited
pub stand_as : {types : Types} {exports : ℕ → Ident → Standing} {outside : Ident → Standing} {taken : List ℕ → Bool}
    {a b : List ℕ → Option TypeNo} {nested : Bool} {block : List Declaration} {x : Ident} {s : Standing}
    → blocks.StandsFor types exports outside taken a nested block [] x s
    → blocks.StandsFor types exports outside taken b nested block [] x s
stand_as (blocks.declared t i o m) = elim i [ ]
stand_as (blocks.enumerated t i o a m) = elim i [ ]
stand_as (blocks.not_yet t i n) = blocks.not_yet t i n
stand_as (blocks.from_outside c) = blocks.from_outside c

brings_so : {exports : ℕ → Ident → Standing} {w : Setting} {P Q : List ℕ → Type 0} {x : Declaration} {a : Added}
    → in_front_of x ≡ Undeclared → Brings exports w P x a → Brings exports w Q x a
brings_so u blocks.constant_brings = blocks.constant_brings
brings_so u (blocks.type_brings a) = blocks.type_brings a
brings_so u (blocks.variables_bring a) = blocks.variables_bring a
brings_so u (blocks.procedure_brings n i) = absurd cc
brings_so u (blocks.name_there t) = absurd cc
brings_so u (blocks.no_heading n) = absurd cc

one_answer : {A R : Type 0} {a b : A} → ◌≡◌ {A = Result A R} (Ok a) (Ok b) → a ≡ b
one_answer e = cc

no_answer : {A R : Type 0} {a : A} {r : R} → ◌≡◌ {A = Result A R} (Ok a) (Err r) → ⊥
no_answer e = absurd cc

constant_brings_nothing : {exports : ℕ → Ident → Standing} {w : Setting} {Q : List ℕ → Type 0} {c : Constant}
    {a : Added} → Brings exports w Q (OfConstant c) a → a ≡ nothing_added
constant_brings_nothing blocks.constant_brings = refl

type_adds : {exports : ℕ → Ident → Standing} {w : Setting} {Q : List ℕ → Type 0} {d : TypeDecl} {a : Added}
    → Brings exports w Q (OfType d) a → Adds exports w d.of a
type_adds (blocks.type_brings b) = b

variables_add : {exports : ℕ → Ident → Standing} {w : Setting} {Q : List ℕ → Type 0} {v : Variables} {a : Added}
    → Brings exports w Q (OfVariables v) a → Adds exports w v.of a
variables_add (blocks.variables_bring b) = b

module _ (g : Gathers) (j : Judges g) (lawful : Lawful g j) (exports : ℕ → Ident → Standing) where
  -- behind one declaration
  pub record Stepped (p : Placed) (ts : List Table) (B : Breach → Type 0) (old st : State (Unit {0}) g.Reported) : Type
      0 where
    pub start : Scope g.Reported
    pub names : Ident → Standing
    pub taken : List ℕ → Bool
    pub tables : start.tables ≡ ts
    pub added : IsAdded exports p
    pub follows : Follows exports p (context start names taken)
    pub stands : Standpoint g j exports start names taken p.left (λ f. B f ⊎ Breaks exports p f) st.0
    pub told : Tells g j lawful (λ f. ⊥) (λ f. B f ⊎ Breaks exports p f) st.1
    pub listing : OneListing g exports p old st
    -- It adds nothing else, and its names stand for nothing else.
    pub only : (a : Added) → IsAdded exports (record { at = p.at; what = p.what; adds = a; left = p.left }) → a ≡ p.adds
    pub one : (t u : Standing) → Means exports p t → Means exports p u → t ≡ u

  -- What a declaration says is what its elaboration gives.
  module _ {O : Breach → Type 0} {A : Type 0} (said : A → Saids) where
    says_so : {M : Saids → Type 0} {C : Breach → Type 0} {q : Result A g.Reported} (k : Saids)
        → Answers g j O (λ a k. k ≡ said a) M C q → M k → (a : A) × (q ≡ Ok a) × (k ≡ said a)
    says_so k (means a l i m u n) z = (a, refl, u k z ∙ i)
    says_so k (refuses r c n) z = absurd (n k z)

    pub says_one : {M N : Saids → Type 0} {C D : Breach → Type 0} {q : Result A g.Reported} (k l : Saids)
        → Answers g j O (λ a k. k ≡ said a) M C q → M k → Answers g j O (λ a k. k ≡ said a) N D q → N l → k.1 ≡ l.1
    says_one k l a m b n = let x = says_so k a m in let y = says_so l b n in
        ap (λ (z : Saids). z.1) (x.2 ∙ ap said (one_answer (sym x.1 ∙ y.1)) ∙ sym y.2)

    pub says_never : {M N : Saids → Type 0} {C D : Breach → Type 0} {q : Result A g.Reported} (k : Saids)
        → Answers g j O (λ a k. k ≡ said a) M C q → M k → Answers g j O (λ a k. k ≡ said a) N D q
        → ((l : Saids) → N l → ⊥) → ⊥
    says_never k a m (means b l i n u c) h = h l n
    says_never k a m (refuses r c h) n = no_answer (sym (says_so k a m).1)

  -- If nothing is reported, no rule is broken.
  pub silent_of : {O B : Breach → Type 0} {r : Result (Unit {0}) g.Reported} → Tells g j lawful O B r → r ≡ Ok tt
      → (f : Breach) → B f → ⊥
  silent_of (silent n) e = n
  silent_of (tells r a) e = absurd cc

  module _ (start : Scope g.Reported) (names : Ident → Standing) (taken : List ℕ → Bool) (d : Resolved)
      (ds : List Declaration) {B : Breach → Type 0} {s : Scope g.Reported}
      (v : Standpoint g j exports start names taken (d.what ∷ ds) B s) (undeclared : in_front_of d.what ≡ Undeclared) where
    abbrev P : Placed
    P = placed g j exports start names taken d ds v

    abbrev M : Breach → Type 0
    M = More g j exports start names taken d ds v

    abbrev block : List Declaration
    block = d.what ∷ ds

    abbrev Means_there : Standing → Type 0
    Means_there = blocks.Means start.types exports names taken v.awaited false block [] d

    abbrev Broken_there : Breach → Type 0
    Broken_there = blocks.BrokenIn start.types exports names taken v.awaited false block (d ∷ [])

    abbrev Th : List ℕ → Type 0
    Th = There start.types exports names taken v.awaited false block (d ∷ [])

    added_so : blocks.IsAdded start.types exports names taken v.awaited false block [] d → IsAdded exports P
    added_so (blocks.is_added all b) = is_added (λ x. stand_as (all x)) (brings_so undeclared b)

    means_so : {t : Standing} → Means_there t → Means exports P t
    means_so (blocks.says all m) = says (λ x. stand_as (all x)) m
    means_so (blocks.says_nothing all n) = says_nothing (λ x. stand_as (all x)) n

    so_means : {t : Standing} → Means exports P t → Means_there t
    so_means (says all m) = blocks.says (λ x. stand_as (all x)) m
    so_means (says_nothing all n) = blocks.says_nothing (λ x. stand_as (all x)) n

    unwaited : {x : Declaration} → in_front_of x ≡ Undeclared → (t : TypeNo)
        → blocks.IsAwaited start.types exports names taken v.awaited false block [] t x → ⊥
    unwaited u t (blocks.is_awaited w h) = absurd cc

    breaks_so : {f : Breach} → Broken_there f → Breaks exports P f
    breaks_so (blocks.inside all m) = inside (λ x. stand_as (all x)) m
    breaks_so {f = f} (blocks.twice n t) =
        twice (twice_as (λ n h. elim h [ inl q ↦ q | inr a ↦ elim a.1 [ ] ]) (blocks.names_of d.what) f t)
    breaks_so (blocks.other_heading {t = t} a all m) = absurd (unwaited undeclared t a)
    breaks_so (blocks.formal_twice t) = formal_twice t
    breaks_so (blocks.in_front b) = elim b [ ]

    so_breaks : {f : Breach} → Breaks exports P f → Broken_there f
    so_breaks (inside all m) = blocks.inside (λ x. stand_as (all x)) m
    so_breaks {f = f} (twice t) = blocks.twice (unwaited undeclared)
        (twice_as (λ n q. inl q) (blocks.names_of d.what) f t)
    so_breaks (formal_twice t) = blocks.formal_twice t

    repeated_so : {f : Breach} → Elsewhere g j exports names start taken v.awaited false block (d ∷ []) f → M f
    repeated_so {f = f} (inl o) = inl (v.repeats f o)
    repeated_so (inr b) = inr (breaks_so b)

    -- ---- what is known behind it

    settled_as : (k : Known g.Reported) → is_free (Some k) ≡ false → is_begun (Some k) ≡ false
        → standing_known k ≡ place.Taken → TakenAs g j true None (Some k)
    settled_as known.Later f b e = absurd cc
    settled_as known.Ahead f b e = absurd cc
    settled_as known.Begun f b e = absurd cc
    settled_as (known.Headed m) f b e = is_a_heading
    settled_as (known.Declared o m) f b e = is_taken e

    owns_so : {k : Known g.Reported} → Saying g j exports names start taken v.awaited false block [] d k
        → Owns g j exports start names taken P M k
    owns_so {k = k} w = record {
      stands = (w.stands.0, means_so w.stands.1);
      seen = λ t m at. w.seen t (so_means m) at;
      heading = λ at b r e f m. repeated_so (w.heading at b r e f m);
      broken = λ at r e f m. repeated_so (w.broken at r e f m);
      taking = (None, settled_as k w.not_free w.not_begun w.settled);
    }

    now_so : {n : List ℕ} {k : Option (Known g.Reported)}
        → KnownAs g j exports names start taken v.awaited false block (d ∷ []) Th n k
        → Now g j exports start names taken P M n k
    now_so (outer c w e) = kept c e
    now_so {n = n} (headed p y w e) = absurd (unheads w)
      where
        unheads : blocks.IsHeaded (d ∷ []) n → ⊥
        unheads (_, here, h) = no_heads d.what undeclared n h
        unheads (x, later m, h) = elim m [ ]
    now_so {n = n} (ahead c t i h b) = marked c t (behind_it i) (λ w. h (d.what, here, w))
      where
        behind_it : {c : Declaration} → IsFirst n c block → IsFirst n c ds
        behind_it (at_first w) = absurd (h (d.what, here, w))
        behind_it (later_on w k) = k
    now_so (reading c t i h b e) = elim b [ inl q ↦ absurd (clash q t) | inr a ↦ absurd (h a) ]
    now_so (behind k t (nearest h c) o w) = owned t o (owns_so w)
    now_so (behind k t (farther i) o w) = elim i [ ]
    now_so (a_member t (nearest h c) o a e) = a_constant t o h e
    now_so (a_member t (farther i) o a e) = elim i [ ]

    abbrev Told_there : Result (Unit {0}) g.Reported → Type 0
    Told_there r = Tells g j lawful (Repeats g j names start) (λ f. B f ⊎ Broken_there f) r

    told_so : {r : Result (Unit {0}) g.Reported} → Told_there r → Tells g j lawful (λ f. ⊥) M r
    told_so (silent n) = silent (λ f m. n f (elim m [ inl b ↦ inl b | inr w ↦ inr (so_breaks w) ]))
    told_so (tells r a) = tells r (record {
      only =
          λ f m. inl (elim (a.only f m) [
            | inl z ↦ elim z [ inl b ↦ inl b | inr w ↦ inr (breaks_so w) ]
            | inr q ↦ inl
                (v.repeats f q)
          ]);
      each = λ f m. a.each f (elim m [ inl b ↦ inl b | inr w ↦ inr (so_breaks w) ]);
    })

    -- ---- it means one thing, and adds one thing

    abbrev StandsAll : (Ident → Standing) → Type 0
    StandsAll ns = blocks.AllStand start.types exports names taken v.awaited false block [] ns

    abbrev setting_at : (Ident → Standing) → Setting
    setting_at ns = blocks.setting start.types exports names taken v.awaited false block [] d.what ns

    means_one : {A : Type 0} (said : A → Saids) {result : Result A g.Reported}
        → Exactly g j lawful exports names start taken v.awaited false block said [] d.what result → {t u : Standing}
        → Means exports P t → Means exports P u → t ≡ u
    means_one said h (says {names = ns} {s = t} all m) (says {names = ms} {s = u} other n) =
        says_one said (d.adds, t) (d.adds, u) (h ns (λ x. stand_as (all x))) m (h ms (λ x. stand_as (other x))) n
    means_one said h (says {names = ns} {s = t} all m) (says_nothing {names = ms} other n) =
        absurd (says_never said (d.adds, t) (h ns (λ x. stand_as (all x))) m (h ms (λ x. stand_as (other x)))
        (λ k z. n k.0 k.1 z))
    means_one said h (says_nothing {names = ns} all n) (says {names = ms} {s = u} other m) =
        absurd (says_never said (d.adds, u) (h ms (λ x. stand_as (other x))) m (h ns (λ x. stand_as (all x)))
        (λ k z. n k.0 k.1 z))
    means_one said h (says_nothing all n) (says_nothing other m) = refl

    adds_one : ((ns : Ident → Standing) → StandsAll ns → (a : Added) → Brings exports (setting_at ns) (λ n. ⊥) d.what a
        → a ≡ d.adds) → (a : Added) → IsAdded exports (record { at = P.at; what = d.what; adds = a; left = ds })
        → a ≡ d.adds
    adds_one h a (is_added {names = ns} all b) = h ns (λ x. stand_as (all x)) a b

    pub stepped : {t : Scope g.Reported} {r : Result (Unit {0}) g.Reported}
        → KnowsBlock g j exports names start taken v.awaited false block (d ∷ []) ds Th t → Told_there r
        → blocks.IsAdded start.types exports names taken v.awaited false block [] d
        → (q : Result (Unit {0}) g.Reported) → (r ≡ Ok tt → (q ≡ Ok tt) × Takes g s d.what t)
        → (r ≡ Ok tt → NoTwice (Adding (names_of d.what) (λ n. taken n ≡ true)) (constants_of d.what))
        → {A : Type 0} (said : A → Saids) {result : Result A g.Reported}
        → Exactly g j lawful exports names start taken v.awaited false block said [] d.what result
        → ((ns : Ident → Standing) → StandsAll ns → (a : Added) → Brings exports (setting_at ns) (λ n. ⊥) d.what a
        → a ≡ d.adds) → Stepped P start.tables B (s, q) (t, r)
    stepped {t = t} {r = r} k w a q fine new said exact only = record {
      start = bare t;
      names = names_now g j exports start names taken d ds v t k.same.withs k.same.outer k.same.types k.same.tables
          (k.once v.once) (λ n. now_so (k.own n));
      taken = taken_now g j exports start names taken d ds v;
      tables = k.same.tables;
      added = added_so a;
      follows = follows_next g j exports start names taken d ds v t k.same.withs k.same.outer k.same.types k.same.tables
          (k.once v.once) (λ n. now_so (k.own n));
      stands = stands_next g j exports start names taken d ds v t k.same.withs k.same.outer k.same.types k.same.tables
          (k.once v.once) (λ n. now_so (k.own n));
      told = told_so w;
      listing = listing_one g j exports start names taken d ds v t (λ n. now_so (k.own n)) q r fine
          (λ e f h. silent_of (told_so w) e f (inr (twice h))) new;
      only = adds_one only;
      one = λ t u m n. means_one said exact m n;
    }

  -- ---- each of them

  begin_withs : (t : Scope g.Reported) (x : Ident) → t.withs ≡ [] → (begin_name g t x).0.withs ≡ []
  begin_withs t x e = by (is_free (find_name x.name t.own))
    where
      by : (b : Bool) → (cond {A = State (Unit {0}) g.Reported} b (with_known x.name known.Begun t, Ok tt)
          (t, report g x.pos rule.DeclaredTwice)).0.withs ≡ []
      by true = e
      by false = e

  begun_withs : (xs : List Ident) (t : Scope g.Reported) (q : Result (Unit {0}) g.Reported) → t.withs ≡ []
      → (fold (begun_name g) (t, q) xs).0.withs ≡ []
  begun_withs [] t q e = e
  begun_withs (x ∷ xs) t q e = begun_withs xs (begin_name g t x).0 _ (begin_withs t x e)

  abbrev pub One : (start : Scope g.Reported) (names : Ident → Standing) (taken : List ℕ → Bool) → Declaration
      → List Declaration → (Breach → Type 0) → (old st : State (Unit {0}) g.Reported) → Type 0
  One start names taken x ds B old st = (a : Added)
      × Stepped (record { at = context start names taken; what = x; adds = a; left = ds }) start.tables B old st

  module _ (start : Scope g.Reported) (names : Ident → Standing) (taken : List ℕ → Bool) (ds : List Declaration)
      (B : Breach → Type 0) (s : Scope g.Reported) (r : Result (Unit {0}) g.Reported)
      (told : Tells g j lawful (λ f. ⊥) B r) where
    abbrev Stands : Declaration → Type 0
    Stands x = Standpoint g j exports start names taken (x ∷ ds) B s

    told_there : (x : Declaration) (v : Stands x)
        → Tells g j lawful (Repeats g j names start)
        (λ f. B f ⊎ blocks.BrokenIn start.types exports names taken v.awaited false (x ∷ ds) [] f) r
    told_there x v = by told
      where
        by : {r : Result (Unit {0}) g.Reported} → Tells g j lawful (λ f. ⊥) B r
            → Tells g j lawful (Repeats g j names start)
            (λ f. B f ⊎ blocks.BrokenIn start.types exports names taken v.awaited false (x ∷ ds) [] f) r
        by (silent n) = silent (λ f z. elim z [ inl b ↦ n f b | inr b ↦ elim b [ ] ])
        by (tells r a) = tells r (record {
          only = λ f m. elim (a.only f m) [ inl b ↦ inl (inl b) | inr z ↦ absurd z ];
          each = λ f z. elim z [ inl b ↦ a.each f b | inr b ↦ elim b [ ] ];
        })

    pub constant_stepped : (c : Constant) → Stands (OfConstant c)
        → One start names taken (OfConstant c) ds B (s, r) (with_constant g (s, r) c)
    constant_stepped c v =
        let q = sections.declare_constant g j lawful exports names start taken v.awaited false (OfConstant c ∷ ds)
        v.takes v.knows v.no_withs B [] c ds v.block (told_there (OfConstant c) v) in (
          nothing_added,
          stepped start names taken (record { what = OfConstant c; adds = nothing_added }) ds v refl
              q.1.0 q.1.1 q.1.2 r (constant_takes g (s, r) c) (λ e f h. absurd h) said_constant q.0
              (λ ns all a b. constant_brings_nothing b),
        )

    -- the constants in a type that is right are new
    module _ (x : Declaration) (v : Stands x) where
      abbrev names_there : Ident → Standing
      names_there = standings g j exports names start taken v.awaited false (x ∷ ds) v.knows v.no_withs v.block

      abbrev stand_there : blocks.AllStand start.types exports names taken v.awaited false (x ∷ ds) [] names_there
      stand_there = all_stand g j exports names start taken v.awaited false (x ∷ ds) v.knows v.no_withs v.block

      abbrev setting_there : Setting
      setting_there = blocks.setting start.types exports names taken v.awaited false (x ∷ ds) [] x names_there

      there_names : (n : List ℕ) → Adding (names_of x) (λ n. taken n ≡ true) n → setting_there.there n ≡ true
      there_names n h = elim (added (names_of x) (λ n. taken n ≡ true) n h) [
        | inl y ↦ either_first (is_among n (names_of x)) (taken n || false) (named_is (among_decided (names_of x) n) y)
        | inr y ↦ either_second (is_among n (names_of x)) (taken n || false) (either_first (taken n) false y)
      ]
        where
          named_is : {P : Type 0} {b : Bool} → Decided P b → P → b ≡ true
          named_is (holds p) q = refl
          named_is (fails_it c) q = absurd (c q)

      new_constants : NoTwice (λ n. setting_there.there n ≡ true) (constants_of x)
          → NoTwice (Adding (names_of x) (λ n. taken n ≡ true)) (constants_of x)
      new_constants c f h = c f (twice_as there_names (constants_of x) f h)

    typed_right : {O : Breach → Type 0} {Is : TypeNo → Saids → Type 0} {M : Saids → Type 0} {C : Breach → Type 0}
        {q : Result TypeNo g.Reported} → Answers g j O Is M C q → nothing_of q ≡ Ok tt → (k : Saids) × M k
    typed_right (means a k i m u n) e = (k, m)
    typed_right (refuses w c n) e = absurd cc

    type_is : {w : Setting} {d : TypeDecl} {a : Added} {t : Standing} → blocks.Says exports w false (OfType d) a t
        → (u : TypeNo) × IsTypeOf exports w d.of a u
    type_is (blocks.a_type {t = u} m) = (u, m)

    variables_are : {w : Setting} {y : Variables} {a : Added} {t : Standing}
        → blocks.Says exports w false (OfVariables y) a t → (u : TypeNo) × IsTypeOf exports w y.of a u
    variables_are (blocks.variables {t = u} m) = (u, m)

    pub type_stepped : (d : TypeDecl) → Stands (OfType d)
        → One start names taken (OfType d) ds B (s, r) (with_type g (s, r) d)
    type_stepped d v =
        let q = sections.declare_type g j lawful exports names start taken v.awaited false (OfType d ∷ ds) v.takes
        v.knows v.no_withs B [] d ds v.block (told_there (OfType d) v) in
        let b = (begin_name g s d.name).0 in
        let w = begin_withs s d.name v.block.same.withs in
        let t = type_read g j lawful exports d.of b w in (
          q.0,
          stepped start names taken (record { what = OfType d; adds = q.0 }) ds v refl q.2.0 q.2.1 q.2.2
              r (type_takes g (s, r) d t.adds.makes t.own t.is t.enters)
              (λ e. let k = typed_right (q.1 (names_there (OfType d) v) (stand_there (OfType d) v))
              (right_fine g (begin_name g s d.name).1 (nothing_of (type_of g d.of b).1)
              (right_fine g r (beside g (begin_name g s d.name).1 (nothing_of (type_of g d.of b).1)) e)) in
              new_constants (OfType d) v (type_new exports (type_is k.1).1)) (said_type q.0) q.1
              (λ ns all a b. q.3 ns all a (type_adds b)),
        )

    pub variables_stepped : (w : Variables) → Stands (OfVariables w)
        → One start names taken (OfVariables w) ds B (s, r) (with_variables g (s, r) w)
    variables_stepped w v =
        let q = sections.declare_variables g j lawful exports names start taken v.awaited false (OfVariables w ∷ ds)
        v.takes v.knows v.no_withs B [] w ds v.block (told_there (OfVariables w) v) in
        let c = fold (begun_name g) (s, r) w.names in
        let e = begun_withs w.names s r v.block.same.withs in
        let t = type_read g j lawful exports w.of c.0 e in
        let told_now = told_so start names taken (record { what = OfVariables w; adds = q.0 }) ds v refl q.2.1 in (
          q.0,
          stepped start names taken (record { what = OfVariables w; adds = q.0 }) ds v refl q.2.0 q.2.1 q.2.2 r
              (λ z. variables_take g (s, r) w (λ n. taken n ≡ true) (λ f h. silent_of told_now z f (inr (twice h)))
              t.adds.makes t.own t.is t.enters z)
              (λ z. let k = typed_right (q.1 (names_there (OfVariables w) v) (stand_there (OfVariables w) v))
              (right_fine g c.1 (nothing_of (type_of g w.of c.0).1) z) in
              new_constants (OfVariables w) v (type_new exports (variables_are k.1).1)) (said_variables q.0) q.1
              (λ ns all a b. q.3 ns all a (variables_add b)),
        )
