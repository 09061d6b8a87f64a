-- The declarations of a definition are read one after another.
use Rattle.std.proofs.Common.{◌≡◌, ℕ, Bool, List, [], ◌∷◌, ◌++◌, Result, ◌⊎◌, inl, inr, refl, ap, ◌∙◌}
use Rattle.std.specs.Prelude.{map}
use Rattle.std.specs.List.{fold}
use Rattle.m2_rule.specs.declared.breach.Breach.{Breach}
use Rattle.m2_tree.specs.declared.name.Ident.{Ident}
use Rattle.m2_tree.specs.declared.decl.Def.{Def}
use Rattle.m2_tree.specs.declared.decl.Def.TheVariants as def
use Rattle.typed_tree.specs.declared.known_types.Types.{Types}
use Rattle.check_scope.specs.declared.scope.Scope.{Scope}
use Rattle.check_scope.specs.Elaborated.{Gathers}
use Rattle.check_scope.specs.Scopes.{State}
use Rattle.check_definition.specs.Declare.{with_constant, with_type, with_variables, with_def}
use Rattle.def_typing.specs.Things.{Standing}
use Rattle.def_typing.specs.Parts.{Among, here, later}
use Rattle.def_typing.specs.Declarations.{Declaration, OfConstant, OfType, OfVariables, OfProcedure}
use Rattle.def_typing.specs.Definitions.{Context, Placed, Breaks, AllFollow, nothing_follows, one_follows, BrokenIn}
use Rattle.law_typing.specs.Judging.{Judges}
use Rattle.law_typing.proofs.Combining.{Lawful, Tells, tells_as}
use Rattle.law_rules.specs.Defining.{declared_in, all_declared}
use Rattle.law_rules.proofs.Among.{among_left, among_right, among_split}
use Rattle.law_rules.proofs.Listing.{Listing, listing_nothing, listing_more, listing_both}
use Rattle.law_rules.proofs.Stepping.{context, Standpoint}
use Rattle.law_rules.proofs.Ordinary.{One, constant_stepped, type_stepped, variables_stepped}
use Rattle.law_rules.proofs.Procedures.{procedure_stepped}
use Rattle.law_rules.proofs.Only.{nothing_only, step_only}

module _ (g : Gathers) (j : Judges g) (lawful : Lawful g j) (exports : ℕ → Ident → Standing) where
  abbrev S : Type 0
  S = Scope g.Reported

  abbrev R : Type 0
  R = Result (Unit {0}) g.Reported

  -- behind these declarations, in front of the rest
  pub record Ran (start : S) (names : Ident → Standing) (taken : List ℕ → Bool) (xs rest : List Declaration)
      (B : Breach → Type 0) (old st : State (Unit {0}) g.Reported) : Type 0 where
    pub whole : List Placed
    pub next : S
    pub next_names : Ident → Standing
    pub next_taken : List ℕ → Bool
    pub tables : next.tables ≡ start.tables
    pub follow : (ps : List Placed) (last : Context)
        → AllFollow exports (context next next_names next_taken) rest ps last
        → AllFollow exports (context start names taken) (xs ++ rest) (whole ++ ps) last
    pub stands : Standpoint g j exports next next_names next_taken rest (λ f. B f ⊎ BrokenIn exports whole f) st.0
    pub told : Tells g j lawful (λ f. ⊥) (λ f. B f ⊎ BrokenIn exports whole f) st.1
    pub listing : Listing g exports taken next_taken xs whole old st
    -- There is no other reading.
    pub only : (others : List Placed) (end : Context)
        → AllFollow exports (context start names taken) (xs ++ rest) others end → (tail : List Placed)
        × (others ≡ whole ++ tail) × AllFollow exports (context next next_names next_taken) rest tail end

  -- behind all of them
  pub record RanAll (start : S) (names : Ident → Standing) (taken : List ℕ → Bool) (xs : List Declaration)
      (B : Breach → Type 0) (old st : State (Unit {0}) g.Reported) : Type 0 where
    pub whole : List Placed
    pub next : S
    pub next_names : Ident → Standing
    pub next_taken : List ℕ → Bool
    pub tables : next.tables ≡ start.tables
    pub follow : AllFollow exports (context start names taken) xs whole (context next next_names next_taken)
    pub stands : Standpoint g j exports next next_names next_taken [] (λ f. B f ⊎ BrokenIn exports whole f) st.0
    pub told : Tells g j lawful (λ f. ⊥) (λ f. B f ⊎ BrokenIn exports whole f) st.1
    pub listing : Listing g exports taken next_taken xs whole old st
    pub only : (others : List Placed) (end : Context) → AllFollow exports (context start names taken) xs others end
        → (others ≡ whole) × (end ≡ context next next_names next_taken)

  stands_as : {start : S} {names : Ident → Standing} {taken : List ℕ → Bool} {rest : List Declaration}
      {B C : Breach → Type 0} {s : S} → ((f : Breach) → B f → C f) → Standpoint g j exports start names taken rest B s
      → Standpoint g j exports start names taken rest C s
  stands_as h v = record {
    awaited = v.awaited;
    takes = v.takes;
    knows = v.knows;
    no_withs = v.no_withs;
    once = v.once;
    block = v.block;
    repeats = λ f q. h f (v.repeats f q);
  }

  -- ---- what is broken

  in_first : {p : Placed} {ps : List Placed} (B : Breach → Type 0) (f : Breach) → (B f ⊎ Breaks exports p f)
      ⊎ BrokenIn exports ps f → B f ⊎ BrokenIn exports (p ∷ ps) f
  in_first B f (inl (inl b)) = inl b
  in_first {p = p} B f (inl (inr k)) = inr (p, here, k)
  in_first B f (inr (q, m, k)) = inr (q, later m, k)

  first_in : {p : Placed} {ps : List Placed} (B : Breach → Type 0) (f : Breach) → B f ⊎ BrokenIn exports (p ∷ ps) f
      → (B f ⊎ Breaks exports p f) ⊎ BrokenIn exports ps f
  first_in B f (inl b) = inl (inl b)
  first_in B f (inr (_, here, k)) = inl (inr k)
  first_in B f (inr (q, later m, k)) = inr (q, m, k)

  in_both : (ps qs : List Placed) (B : Breach → Type 0) (f : Breach) → (B f ⊎ BrokenIn exports ps f)
      ⊎ BrokenIn exports qs f → B f ⊎ BrokenIn exports (ps ++ qs) f
  in_both ps qs B f (inl (inl b)) = inl b
  in_both ps qs B f (inl (inr k)) = inr (k.0, among_left qs k.1, k.2)
  in_both ps qs B f (inr k) = inr (k.0, among_right ps k.1, k.2)

  both_in : (ps qs : List Placed) (B : Breach → Type 0) (f : Breach) → B f ⊎ BrokenIn exports (ps ++ qs) f
      → (B f ⊎ BrokenIn exports ps f) ⊎ BrokenIn exports qs f
  both_in ps qs B f (inl b) = inl (inl b)
  both_in ps qs B f (inr k) = elim (among_split ps k.1) [ inl m ↦ inl (inr (k.0, m, k.2)) | inr m ↦ inr (k.0, m, k.2) ]

  none_in : (B : Breach → Type 0) (f : Breach) → B f ⊎ BrokenIn exports [] f → B f
  none_in B f (inl b) = b
  none_in B f (inr k) = elim k.1 [ ]

  -- ---- one after another

  module _ {start : S} {names : Ident → Standing} {taken : List ℕ → Bool} {B : Breach → Type 0} where
    ran_nothing : (rest : List Declaration) (st : State (Unit {0}) g.Reported)
        → Standpoint g j exports start names taken rest B st.0 → Tells g j lawful (λ f. ⊥) B st.1
        → Ran start names taken [] rest B st st
    ran_nothing rest st v t = record {
      whole = [];
      next = start;
      next_names = names;
      next_taken = taken;
      tables = refl;
      follow = λ ps last k. k;
      stands = stands_as (λ f b. inl b) v;
      told = tells_as g j lawful (λ f. ⊥) (λ f b. inl b) (none_in B) t;
      listing = listing_nothing g exports taken st;
      only = λ others end k. (others, refl, k);
    }

    ran_more : (x : Declaration) (xs rest : List Declaration) {old st up : State (Unit {0}) g.Reported}
        (q : One g j lawful exports start names taken x (xs ++ rest) B old st)
        → Ran q.1.start q.1.names q.1.taken xs rest
        (λ f. B f ⊎ Breaks exports (record { at = context start names taken; what = x; adds = q.0; left = xs ++ rest })
        f) st up → Ran start names taken (x ∷ xs) rest B old up
    ran_more x xs rest {old = old} {st = st} {up = up} q z = record {
      whole = record { at = context start names taken; what = x; adds = q.0; left = xs ++ rest } ∷ z.whole;
      next = z.next;
      next_names = z.next_names;
      next_taken = z.next_taken;
      tables = z.tables ∙ q.1.tables;
      follow = λ ps last k. one_follows q.1.added q.1.follows (z.follow ps last k);
      stands = stands_as (in_first B) z.stands;
      told = tells_as g j lawful (λ f. ⊥) (in_first B) (first_in B) z.told;
      listing = listing_more g exports (record
          { at = context start names taken; what = x; adds = q.0; left = xs ++ rest }) q.1.taken z.next_taken
          q.1.follows.taken xs z.whole old st up q.1.listing z.listing;
      only = λ others end k. let f = step_only g j lawful exports (context start names taken) x q.0 (xs ++ rest)
          start.tables B q.1 others end k in let w = z.only f.0 end f.2 in (
            w.0,
            f.1 ∙ ap (λ (ps : List Placed). let p : Placed =
                record { at = context start names taken; what = x; adds = q.0; left = xs ++ rest } in p ∷ ps) w.1,
            w.2,
          );
    }

    ran_all : (xs ys : List Declaration) {old st up : State (Unit {0}) g.Reported}
        (q : Ran start names taken xs ys B old st)
        → RanAll q.next q.next_names q.next_taken ys (λ f. B f ⊎ BrokenIn exports q.whole f) st up
        → RanAll start names taken (xs ++ ys) B old up
    ran_all xs ys {old = old} {st = st} {up = up} q z = record {
      whole = q.whole ++ z.whole;
      next = z.next;
      next_names = z.next_names;
      next_taken = z.next_taken;
      tables = z.tables ∙ q.tables;
      follow = q.follow z.whole (context z.next z.next_names z.next_taken) z.follow;
      stands = stands_as (in_both q.whole z.whole B) z.stands;
      told = tells_as g j lawful (λ f. ⊥) (in_both q.whole z.whole B) (both_in q.whole z.whole B) z.told;
      listing = listing_both g exports taken q.next_taken z.next_taken xs ys q.whole z.whole old st up q.listing
          z.listing;
      only = λ others end k. let f = q.only others end k in let w = z.only f.0 end f.2 in
          (f.1 ∙ ap (λ (ps : List Placed). q.whole ++ ps) w.0, w.1);
    }

    all_nothing : (st : State (Unit {0}) g.Reported) → Standpoint g j exports start names taken [] B st.0
        → Tells g j lawful (λ f. ⊥) B st.1 → RanAll start names taken [] B st st
    all_nothing st v t = record {
      whole = [];
      next = start;
      next_names = names;
      next_taken = taken;
      tables = refl;
      follow = nothing_follows;
      stands = stands_as (λ f b. inl b) v;
      told = tells_as g j lawful (λ f. ⊥) (λ f b. inl b) (none_in B) t;
      listing = listing_nothing g exports taken st;
      only = λ others end k. nothing_only exports k;
    }

  -- a section
  module _ {X : Type 0} (f : State (Unit {0}) g.Reported → X → State (Unit {0}) g.Reported) (of : X → Declaration) where
    abbrev Steps : List X → Type 1
    Steps xs =
        (x : X) → Among x xs → (start : S) (names : Ident → Standing) (taken : List ℕ → Bool) (ds : List Declaration)
        (B : Breach → Type 0) (s : S) (r : R) → Tells g j lawful (λ f. ⊥) B r
        → Standpoint g j exports start names taken (of x ∷ ds) B s
        → One g j lawful exports start names taken (of x) ds B (s, r) (f (s, r) x)

    section_ran : (xs : List X) → Steps xs
        → (start : S) (names : Ident → Standing) (taken : List ℕ → Bool) (rest : List Declaration) (B : Breach → Type 0)
        (s : S) (r : R) → Standpoint g j exports start names taken (map of xs ++ rest) B s
        → Tells g j lawful (λ f. ⊥) B r
        → Ran start names taken (map of xs) rest B (s, r) (fold f (s, r) xs)
    section_ran [] h start names taken rest B s r v t = ran_nothing rest (s, r) v t
    section_ran (x ∷ xs) h start names taken rest B s r v t = let q =
        h x here start names taken (map of xs ++ rest) B s r t v in
        ran_more (of x) (map of xs) rest q (section_ran xs (λ y m. h y (later m)) q.1.start q.1.names q.1.taken rest _
        (f (s, r) x).0 (f (s, r) x).1 q.1.stands q.1.told)

  -- ---- all of a definition

  def_ran : (d : Def) (start : S) (names : Ident → Standing) (taken : List ℕ → Bool) (rest : List Declaration)
      (B : Breach → Type 0) (s : S) (r : R) → Standpoint g j exports start names taken (declared_in d ++ rest) B s
      → Tells g j lawful (λ f. ⊥) B r
      → Ran start names taken (declared_in d) rest B (s, r) (with_def g (s, r) d)
  def_ran (def.Constants cs) start names taken rest B s r v t =
      section_ran (with_constant g) OfConstant cs
      (λ c m start names taken ds B s r t v. constant_stepped g j lawful exports start names taken ds B s r t c v)
      start names taken rest B s r v t
  def_ran (def.Types ts) start names taken rest B s r v t =
      section_ran (with_type g) OfType ts (λ d m start names taken ds B s r t v. type_stepped g j lawful exports start
      names taken ds B s r t d v) start names taken rest B s r v t
  def_ran (def.Variables vs) start names taken rest B s r v t =
      section_ran (with_variables g) OfVariables vs
      (λ w m start names taken ds B s r t v. variables_stepped g j lawful exports start names taken ds B s r t w v)
      start names taken rest B s r v t
  def_ran (def.Procedure h) start names taken rest B s r v t = let q =
      procedure_stepped g j lawful exports start names taken h rest v t in
      ran_more (OfProcedure h) [] rest q (ran_nothing rest (with_def g (s, r) (def.Procedure h)) q.1.stands q.1.told)

  pub defs_ran : (ds : List Def) (start : S) (names : Ident → Standing) (taken : List ℕ → Bool) (B : Breach → Type 0)
      (s : S) (r : R) → Standpoint g j exports start names taken (all_declared ds) B s → Tells g j lawful (λ f. ⊥) B r
      → RanAll start names taken (all_declared ds) B (s, r) (fold (with_def g) (s, r) ds)
  defs_ran [] start names taken B s r v t = all_nothing (s, r) v t
  defs_ran (d ∷ ds) start names taken B s r v t = let q = def_ran d start names taken (all_declared ds) B s r v t in
      ran_all (declared_in d) (all_declared ds) q
      (defs_ran ds q.next q.next_names q.next_taken _ (with_def g (s, r) d).0 (with_def g (s, r) d).1 q.stands
      q.told)

-- Types are those of one module.
pub home_kept : {exports : ℕ → Ident → Standing} {c last : Context} {ds : List Declaration} {ps : List Placed}
    → AllFollow exports c ds ps last → last.types.home ≡ c.types.home
home_kept nothing_follows = refl
home_kept (one_follows a f k) = home_kept k ∙ ap (λ (t : Types). t.home) f.types
