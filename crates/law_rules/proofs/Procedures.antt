-- A procedure of a definition is answered exactly.
use Rattle.std.proofs.Common.{◌≡◌, ℕ, Bool, true, false, cond, List, [], ◌∷◌, length, Option, None, Result, Ok, Err, ◌⊎◌, inl, inr, refl, sym, ap, subst, ◌∙◌}
use Rattle.std.specs.Prelude.{not}
use Rattle.m2_rule.specs.declared.breach.Breach.{Breach}
use Rattle.m2_rule.specs.declared.rule.Rule.TheVariants as rule
use Rattle.m2_tree.specs.declared.pos.Pos.{Pos}
use Rattle.m2_tree.specs.declared.name.Ident.{Ident}
use Rattle.m2_tree.specs.declared.decl.Heading.{Heading}
use Rattle.typed_tree.specs.declared.known_types.Types.{Types}
use Rattle.typed_tree.specs.declared.shape.Made.{Made}
use Rattle.typed_tree.specs.declared.meaning.Meaning.{Meaning}
use Rattle.typed_tree.specs.declared.meaning.Meaning.TheVariants as meaning
use Rattle.typed_tree.specs.declared.meaning.Procedure.{Procedure}
use Rattle.typed_tree.specs.Names.{find_name}
use Rattle.check_scope.specs.declared.known.Known.{Known}
use Rattle.check_scope.specs.declared.known.Known.TheVariants as known
use Rattle.check_scope.specs.declared.meaningless.Meaningless.{Meaningless}
use Rattle.check_scope.specs.declared.meaningless.Meaningless.TheVariants as meaningless
use Rattle.check_scope.specs.declared.scope.Scope.{Scope}
use Rattle.check_scope.specs.Elaborated.{Gathers, report, beside, ◌▷◌}
use Rattle.check_scope.specs.Scopes.{State, is_free, with_known}
use Rattle.check_type_expr.specs.Headings.{heading_of, names_of as formals_of}
use Rattle.check_type_expr.specs.Made.{with_shape, with_made, nothing_of}
use Rattle.check_definition.specs.Declare.{with_procedure_type, declared_procedure, with_procedure}
use Rattle.def_typing.specs.Operators.{◌!◌}
use Rattle.typed_tree.specs.declared.shape.Signature.{Signature}
use Rattle.def_typing.specs.Headings.{procedure_made, IsHeading}
use Rattle.def_typing.specs.Things as things
use Rattle.def_typing.specs.Things.{AProcedure, Headless, Standing}
use Rattle.def_typing.specs.Parts.{here, later}
use Rattle.def_typing.specs.TypeExprs.{Twice, with_types, next_type, Added, nothing_added, type_added, Setting}
use Rattle.def_typing.specs.Declarations as blocks
use Rattle.def_typing.specs.Declarations.{Declaration, OfProcedure, names_in, Declares, IsFirst, at_first, later_on, Declared as Resolved, Says, Brings, Misdeclares, There}
use Rattle.def_typing.specs.Definitions.{Placed, AllStand, IsAdded, is_added, Means, says, says_nothing, Breaks, inside, twice, formal_twice}
use Rattle.law_typing.specs.Judging.{Judges, Answers, means, refuses}
use Rattle.law_typing.specs.Exact.{standing, Sees, sees, sees_headless, Repeats, is_a_heading, AreOnce}
use Rattle.law_typing.proofs.Combining.{Lawful, Decided, holds, fails_it, decided_as, Tells, silent, tells, tells_as, beside_tells, accounts_one, accounts_as}
use Rattle.law_typing.proofs.Entering.{entered_all, once_more}
use Rattle.law_typing.proofs.TypeReading.{no_types}
use Rattle.law_typing.proofs.Declaring.{clash, KnownAs, outer, headed, ahead, reading, behind, a_member, knowing, repeating, standings, all_stand}
use Rattle.law_typing.proofs.Beginning.{free_decided}
use Rattle.law_typing.proofs.Sayings.{Saids, said_procedure, tells_all, more_answers, procedure_says}
use Rattle.law_rules.proofs.Bare.{bare}
use Rattle.law_rules.proofs.Formals.{formals_told}
use Rattle.law_rules.proofs.Stepping.{context, Standpoint, Owns, Now, kept, marked, owned, names_now, taken_now, stands_next, follows_next}
use Rattle.law_rules.proofs.Taking.{Takes, procedure_takes}
use Rattle.law_rules.proofs.Exporting.{listing_one}
use Rattle.law_rules.proofs.Ordinary.{stand_as, Stepped, says_one, says_never, silent_of, One}

module _ (g : Gathers) (j : Judges g) (lawful : Lawful g j) (exports : ℕ → Ident → Standing) (start : Scope g.Reported)
    (names : Ident → Standing) (taken : List ℕ → Bool) (h : Heading) (ds : List Declaration) {B : Breach → Type 0}
    {s : Scope g.Reported} (v : Standpoint g j exports start names taken (OfProcedure h ∷ ds) B s) where
  abbrev E : Declaration
  E = OfProcedure h

  abbrev P : Added → Placed
  P a = record { at = context start names taken; what = E; adds = a; left = ds }

  abbrev M : Added → Breach → Type 0
  M a f = B f ⊎ Breaks exports (P a) f

  abbrev StandsAll : (Ident → Standing) → Type 0
  StandsAll ns = blocks.AllStand start.types exports names taken v.awaited false (E ∷ ds) [] ns

  abbrev names_there : Ident → Standing
  names_there = standings g j exports names start taken v.awaited false (E ∷ ds) v.knows v.no_withs v.block

  all_there : (a : Added) → AllStand exports (P a) names_there
  all_there a x = stand_as (all_stand g j exports names start taken v.awaited false (E ∷ ds) v.knows v.no_withs v.block
      x)

  abbrev said : Made → Saids
  said m = said_procedure false start.types m

  abbrev setting_at : (Ident → Standing) → Setting
  setting_at ns = blocks.setting start.types exports names taken v.awaited false (E ∷ ds) [] E ns

  abbrev SaysAt : (Ident → Standing) → Saids → Type 0
  SaysAt ns k = Says exports (setting_at ns) false E k.0 k.1

  -- the heading is answered exactly, beside what is broken in front
  abbrev So : (Ident → Standing) → Result Made g.Reported → Type 0
  So ns made = Answers g j B (λ (m : Made) (k : Saids). k ≡ said m) (SaysAt ns) (Misdeclares exports (setting_at ns) E)
      made

  abbrev AllSo : Result Made g.Reported → Type 0
  AllSo made = (a : Added) (ns : Ident → Standing) → AllStand exports (P a) ns → So ns made

  repeats_there : {ns : Ident → Standing} → StandsAll ns → (f : Breach) → Repeats g j ns s f → B f
  repeats_there all f q = elim (repeating g j exports names start taken v.awaited false (E ∷ ds) v.knows v.no_withs
      v.block all f q) [ inl o ↦ v.repeats f o | inr b ↦ elim b [ ] ]

  exact : AllSo (heading_of g s h)
  exact a ns all = let w : StandsAll ns = (λ x. stand_as (all x)) in
      more_answers g j lawful B (repeats_there w)
      (procedure_says g j lawful false start.types ns (setting_at ns).there exports s
      (knowing g j exports names start taken v.awaited false (E ∷ ds) v.knows v.no_withs v.block w)
      v.block.same.types h)

  -- ---- what is known of its name

  abbrev here_made : Procedure
  here_made = record { home = s.types.home; number = length s.procedures; heading = next_type s.types }

  abbrev its_standing : Standing
  its_standing = things.Known (AProcedure (next_type start.types))

  same_standing : its_standing ≡ standing (meaning.Procedure here_made)
  same_standing = ap (λ (t : Types). things.Known (AProcedure (next_type t))) (sym v.block.same.types)

  module _ (m : Made) where
    it_says : {ns : Ident → Standing} → So ns (Ok m) → SaysAt ns (type_added m, its_standing)
    it_says {ns = ns} (means _ k i z u n) = subst (SaysAt ns) i z

    only_says : {ns : Ident → Standing} {t : Standing} → So ns (Ok m) → SaysAt ns (type_added m, t) → t ≡ its_standing
    only_says {t = t} (means _ k i z u n) w = ap (λ (x : Saids). x.1) (u (type_added m, t) w ∙ i)

    never_silent : {ns : Ident → Standing} → So ns (Ok m) → ((a : Added) (t : Standing) → SaysAt ns (a, t) → ⊥) → ⊥
    never_silent (means _ k i z u n) w = w k.0 k.1 z

    it_is_seen : AllSo (Ok m) → {t : Standing} → Means exports (P (type_added m)) t → (at : Pos)
        → Sees g j at t (Ok (meaning.Procedure here_made))
    it_is_seen x (says {names = ns} all w) at =
        subst (λ (t : Standing). Sees g j at t (Ok (meaning.Procedure here_made)))
        (sym (only_says (x (type_added m) ns all) w ∙ same_standing)) (sees (meaning.Procedure here_made))
    it_is_seen x (says_nothing {names = ns} all w) at = absurd (never_silent (x (type_added m) ns all) w)

    its_own_known : AllSo (Ok m) → Owns g j exports start names taken (P (type_added m)) (M (type_added m))
        (known.Headed (Ok (meaning.Procedure here_made)))
    its_own_known x = record {
      stands = (
        its_standing,
        says (all_there (type_added m))
            (it_says (x (type_added m) names_there (all_there (type_added m)))),
      );
      seen = λ t w at. it_is_seen x w at;
      heading = λ at b r e f w. absurd cc;
      broken = λ at r e f w. absurd cc;
      taking = (None, is_a_heading);
    }

    brings_it : {w : Setting} {a : Added} {t : Standing} → Says exports w false E a t → Brings exports w (λ n. ⊥) E a
    brings_it (blocks.a_procedure i) = blocks.procedure_brings (λ z. z) i

    it_is_added : AllSo (Ok m) → IsAdded exports (P (type_added m))
    it_is_added x = is_added (all_there (type_added m))
        (brings_it (it_says (x (type_added m) names_there (all_there (type_added m)))))

  module _ (e : g.Reported) where
    it_says_nothing : {ns : Ident → Standing} → So ns (Err e) → (a : Added) (t : Standing) → SaysAt ns (a, t) → ⊥
    it_says_nothing (refuses _ c n) a t w = n (a, t) w

    it_is_headless : AllSo (Err e) → {t : Standing} → Means exports (P nothing_added) t → (at : Pos)
        → Sees g j at t (Err (meaningless.Headless false e))
    it_is_headless x {t = t} (says {names = ns} all w) at =
        absurd (it_says_nothing (x nothing_added ns all) nothing_added t w)
    it_is_headless x (says_nothing all w) at = sees_headless false e

    its_refusals : {ns : Ident → Standing} → So ns (Err e) → AllStand exports (P nothing_added) ns → (f : Breach)
        → j.Among e f → M nothing_added f
    its_refusals (refuses _ c n) all f w = elim (c.only f w) [ inl b ↦ inr (inside all b) | inr b ↦ inl b ]

    one_headless : {b : Bool} {r : g.Reported} → ◌≡◌ {A = Result Meaning (Meaningless g.Reported)}
        (Err (meaningless.Headless false e)) (Err (meaningless.Headless b r)) → e ≡ r
    one_headless q = cc

    its_headless : AllSo (Err e) → Owns g j exports start names taken (P nothing_added) (M nothing_added)
        (known.Headed (Err (meaningless.Headless false e)))
    its_headless x = record {
      stands = (
        things.Known (Headless false),
        says_nothing (all_there nothing_added)
            (it_says_nothing (x nothing_added names_there (all_there nothing_added))),
      );
      seen = λ t w at. it_is_headless x w at;
      heading = λ at b r q f w. its_refusals (x nothing_added names_there (all_there nothing_added))
          (all_there nothing_added) f (subst (λ (r : g.Reported). j.Among r f) (sym (one_headless q)) w);
      broken = λ at r q f w. absurd cc;
      taking = (None, is_a_heading);
    }

    nothing_is_added : AllSo (Err e) → IsAdded exports (P nothing_added)
    nothing_is_added x = is_added (all_there nothing_added)
        (blocks.no_heading (λ y i. it_says_nothing (x nothing_added names_there (all_there nothing_added))
        (type_added (procedure_made y)) its_standing (blocks.a_procedure i)))

  -- ---- it means one thing, and adds one thing

  its_meaning : (made : Result Made g.Reported) → AllSo made → {a : Added} {t u : Standing} → Means exports (P a) t
      → Means exports (P a) u → t ≡ u
  its_meaning made x {a = a} (says {names = ns} {s = t} all m) (says {names = ms} {s = u} other n) =
      says_one g j lawful exports said (a, t) (a, u) (x a ns all) m (x a ms other) n
  its_meaning made x {a = a} (says {names = ns} {s = t} all m) (says_nothing {names = ms} other n) =
      absurd (says_never g j lawful exports said (a, t) (x a ns all) m (x a ms other) (λ k z. n k.0 k.1 z))
  its_meaning made x {a = a} (says_nothing {names = ns} all n) (says {names = ms} {s = u} other m) =
      absurd (says_never g j lawful exports said (a, u) (x a ms other) m (x a ns all) (λ k z. n k.0 k.1 z))
  its_meaning made x (says_nothing all n) (says_nothing other m) = refl

  made_so : {ns : Ident → Standing} {m : Made} {b : Added} → So ns (Ok m) → Brings exports (setting_at ns) (λ n. ⊥) E b
      → b ≡ type_added m
  made_so (means _ k i z u n) (blocks.procedure_brings {s = y} c h) =
      ap (λ (x : Saids). x.0) (u (type_added (procedure_made y), its_standing) (blocks.a_procedure h) ∙ i)
  made_so w (blocks.name_there t) = absurd t
  made_so {m = m} w (blocks.no_heading c) = absurd (heading_there (it_says m w) c)
    where
      heading_there : {w : Setting} {a : Added} {t : Standing} → Says exports w false E a t
          → ((y : Signature) → IsHeading w.types w.names exports h y → ⊥) → ⊥
      heading_there (blocks.a_procedure {s = y} i) c = c y i

  nothing_so : {ns : Ident → Standing} {e : g.Reported} {b : Added} → So ns (Err e)
      → Brings exports (setting_at ns) (λ n. ⊥) E b → b ≡ nothing_added
  nothing_so {e = e} w (blocks.procedure_brings {s = y} c h) =
      absurd (it_says_nothing e w (type_added (procedure_made y)) its_standing (blocks.a_procedure h))
  nothing_so w (blocks.name_there t) = refl
  nothing_so w (blocks.no_heading c) = refl

  it_adds : (m : Made) → AllSo (Ok m) → (b : Added) → IsAdded exports (P b) → b ≡ type_added m
  it_adds m x b (is_added {names = ns} all w) = made_so (x b ns all) w

  it_adds_nothing : (e : g.Reported) → AllSo (Err e) → (b : Added) → IsAdded exports (P b) → b ≡ nothing_added
  it_adds_nothing e x b (is_added {names = ns} all w) = nothing_so (x b ns all) w

  -- ---- what is known of other names

  its_name : {n : List ℕ} → Declares E n → h.name.name ≡ n
  its_name (_, here, e) = e
  its_name (x, later m, e) = elim m [ ]

  behind_it : {n : List ℕ} {c : Declaration} → (Declares E n → ⊥) → IsFirst n c (E ∷ ds) → IsFirst n c ds
  behind_it w (at_first q) = absurd (w q)
  behind_it w (later_on q i) = i

  other_name : (a : Added) (n : List ℕ) → (h.name.name ≡ n → taken n ≡ true) → {k : Option (Known g.Reported)}
      → KnownAs g j exports names start taken v.awaited false (E ∷ ds) []
      (There start.types exports names taken v.awaited false (E ∷ ds) []) n k
      → Now g j exports start names taken (P a) (M a) n k
  other_name a n w (outer c q e) = kept c e
  other_name a n w (headed p y q e) = elim q.1 [ ]
  other_name a n w (ahead c t i q b) = let never : Declares E n → ⊥ = (λ z. clash (w (its_name z)) t) in
      marked c t (behind_it never i) never
  other_name a n w (reading c t i q b e) = elim b [ inl z ↦ absurd (clash z t) | inr z ↦ elim z.1 [ ] ]
  other_name a n w (behind k t i o z) = elim i [ ]
  other_name a n w (a_member t i o z e) = elim i [ ]

  -- ---- what is reported

  told_of : {ns : Ident → Standing} {made : Result Made g.Reported} → So ns made
      → Tells g j lawful B (Misdeclares exports (setting_at ns) E) (made ▷ λ m. Ok tt)
  told_of (means m k i z u n) = silent n
  told_of (refuses r c n) = tells r c

  abbrev AnyMis : Added → Breach → Type 0
  AnyMis a f = (i : (ns : Ident → Standing) × AllStand exports (P a) ns) × Misdeclares exports (setting_at i.0) E f

  heading_told : (a : Added) {made : Result Made g.Reported} → AllSo made
      → Tells g j lawful B (AnyMis a) (made ▷ λ m. Ok tt)
  heading_told a {made = made} x = tells_all g j lawful B {I = (ns : Ident → Standing) × AllStand exports (P a) ns}
      {B = λ i. Misdeclares exports (setting_at i.0) E} (made ▷ λ m. Ok tt) (names_there, all_there a)
      (λ i. told_of (x a i.0 i.1))

  abbrev IsTwice : Breach → Type 0
  IsTwice f = (taken h.name.name ≡ true) × (f ≡ h.name.pos ! rule.DeclaredTwice)

  abbrev AllParts : Added → Breach → Type 0
  AllParts a f = B f ⊎ ((⊥ ⊎ Twice (λ n. ⊥) (names_in h.formals) f) ⊎ (AnyMis a f ⊎ IsTwice f))

  parts_more : (a : Added) (f : Breach) → AllParts a f → M a f
  parts_more a f (inl b) = inl b
  parts_more a f (inr (inl (inl z))) = absurd z
  parts_more a f (inr (inl (inr t))) = inr (formal_twice t)
  parts_more a f (inr (inr (inl (i, m)))) = inr (inside i.1 m)
  parts_more a f (inr (inr (inr t))) = inr (twice (inl t))

  more_parts : (a : Added) (f : Breach) → M a f → AllParts a f
  more_parts a f (inl b) = inl b
  more_parts a f (inr (inside {names = ns} all m)) = inr (inr (inl ((ns, all), m)))
  more_parts a f (inr (twice (inl t))) = inr (inr (inr t))
  more_parts a f (inr (twice (inr t))) = absurd t
  more_parts a f (inr (formal_twice t)) = inr (inl (inr t))

  closed : {C : Breach → Type 0} {q : Result (Unit {0}) g.Reported} → ((f : Breach) → B f → C f)
      → Tells g j lawful B C q → Tells g j lawful (λ f. ⊥) C q
  closed w (silent n) = silent n
  closed w (tells r a) = tells r (record {
    only = λ f m. elim (a.only f m) [ inl c ↦ inl c | inr b ↦ inl (w f b) ];
    each = a.each;
  })

  widened : {C : Breach → Type 0} {q : Result (Unit {0}) g.Reported} → Tells g j lawful (λ f. ⊥) C q
      → Tells g j lawful B C q
  widened (silent n) = silent n
  widened (tells r a) = tells r (record {
    only = λ f m. elim (a.only f m) [ inl c ↦ inl c | inr b ↦ absurd b ];
    each =
        a.each;
  })

  all_told : (a : Added) {made : Result Made g.Reported} {r q : Result (Unit {0}) g.Reported} → AllSo made
      → Tells g j lawful (λ f. ⊥) B r → Tells g j lawful B IsTwice q
      → Tells g j lawful (λ f. ⊥) (M a) (beside g r (beside g (formals_of g h) (beside g (made ▷ λ m. Ok tt) q)))
  all_told a x t w = tells_as g j lawful (λ f. ⊥) (parts_more a) (more_parts a)
      (closed (λ f b. inl b) (beside_tells g j lawful B (widened t)
      (beside_tells g j lawful B (formals_told g j lawful B h) (beside_tells g j lawful B (heading_told a x) w))))

  -- ---- all of it

  module _ {r : Result (Unit {0}) g.Reported} (told : Tells g j lawful (λ f. ⊥) B r) (a : Added)
      (t : Scope g.Reported) (m : Result Meaning (Meaningless g.Reported)) (own : t.own ≡ s.own) (withs : t.withs ≡ [])
      (around : t.outer ≡ start.outer) (types : t.types ≡ with_types start.types a.makes)
      (tables : t.tables ≡ start.tables) (add : IsAdded exports (P a))
      (owns : Owns g j exports start names taken (P a) (M a) (known.Headed m))
      (only : (b : Added) → IsAdded exports (P b) → b ≡ a)
      (one : (t u : Standing) → Means exports (P a) t → Means exports (P a) u → t ≡ u) where
    abbrev d : Resolved
    d = record { what = E; adds = a }

    once : AreOnce t.own
    once = subst (λ (o : List (List ℕ × Known g.Reported)). AreOnce o) (sym own) (v.block.once v.once)

    other_now : (n : List ℕ) → (h.name.name ≡ n → taken n ≡ true)
        → Now g j exports start names taken (P a) (M a) n (find_name n t.own)
    other_now n w = subst (λ (o : List (List ℕ × Known g.Reported)). Now g j exports start names taken (P a) (M a) n
        (find_name n o)) (sym own) (other_name a n w (v.block.own n))

    abbrev new : Scope g.Reported
    new = with_known h.name.name (known.Headed m) t

    new_now : taken h.name.name ≡ false → (n : List ℕ)
        → Now g j exports start names taken (P a) (M a) n (find_name n new.own)
    new_now f = entered_all (λ n o. Now g j exports start names taken (P a) (M a) n o) h.name.name
        (known.Headed m) t.own (owned f (h.name, here, refl) owns) (λ n c. other_now n (λ e. absurd (c e)))

    new_once : AreOnce new.own
    new_once = once_more h.name.name (known.Headed m) once

    not_taken : (taken h.name.name ≡ true → ⊥) → (b : Bool) → taken h.name.name ≡ b → taken h.name.name ≡ false
    not_taken c true e = absurd (c e)
    not_taken c false e = e

    abbrev Ends : State (Unit {0}) g.Reported → Type 0
    Ends st = (q : Result (Unit {0}) g.Reported) → (Tells g j lawful B IsTwice st.1 → Tells g j lawful (λ f. ⊥) (M a) q)
        → (q ≡ Ok tt → (r ≡ Ok tt) × Takes g s E st.0)
        → Stepped g j lawful exports (P a) start.tables B (s, r) (st.0, q)

    ends : (b : Bool) → Decided (taken h.name.name ≡ true) (not b)
        → Ends (cond b (new, Ok tt) (t, report g h.name.pos rule.DeclaredTwice))
    ends true (fails_it c) q w fine = let f = not_taken c (taken h.name.name) refl in record {
      start = bare new;
      names = names_now g j exports start names taken d ds v new withs around types tables new_once (new_now f);
      taken = taken_now g j exports start names taken d ds v;
      tables = tables;
      added = add;
      follows = follows_next g j exports start names taken d ds v new withs around types tables new_once (new_now f);
      stands = stands_next g j exports start names taken d ds v new withs around types tables new_once (new_now f);
      told = w (silent (λ f z. c z.0));
      listing = listing_one g j exports start names taken d ds v new (new_now f) r q fine
          (λ e f h. silent_of g j lawful exports (w (silent (λ f z. c z.0))) e f (inr (twice h))) (λ e f h. absurd h);
      only = only;
      one = one;
    }
    ends false (holds y) q w fine = let now : (n : List ℕ)
        → Now g j exports start names taken (P a) (M a) n (find_name n t.own) =
        (λ n. other_now n (λ e. subst (λ (n : List ℕ). taken n ≡ true) e y)) in
        let twice_told : Tells g j lawful B IsTwice (report g h.name.pos rule.DeclaredTwice) =
        tells (g.one (h.name.pos ! rule.DeclaredTwice))
        (accounts_as g j lawful B (λ f e. (y, e)) (λ f z. z.1)
        (accounts_one g j lawful B (h.name.pos ! rule.DeclaredTwice))) in record {
          start = bare t;
          names = names_now g j exports start names taken d ds v t withs around types tables once now;
          taken = taken_now g j exports start names taken d ds v;
          tables = tables;
          added = add;
          follows = follows_next g j exports start names taken d ds v t withs around types tables once now;
          stands = stands_next g j exports start names taken d ds v t withs around types tables once now;
          told = w twice_told;
          listing = listing_one g j exports start names taken d ds v t now r q fine
              (λ e f h. silent_of g j lawful exports (w twice_told) e f (inr (twice h))) (λ e f h. absurd h);
          only = only;
          one = one;
        }

  name_decided : Decided (taken h.name.name ≡ true) (not (is_free (find_name h.name.name s.own)))
  name_decided = decided_as (λ z. elim z [ inl e ↦ e | inr a ↦ elim a.1 [ ] ]) (λ e. inl e)
      (free_decided g j lawful exports names start taken v.awaited false (E ∷ ds) v.takes []
      (There start.types exports names taken v.awaited false (E ∷ ds) []) v.block.includes h.name.name
      (E, here, (h.name, here, refl)) (v.block.own h.name.name))

  by_made : {r : Result (Unit {0}) g.Reported} → Tells g j lawful (λ f. ⊥) B r
      → (made : Result Made g.Reported) → AllSo made → let t = with_made s made in
      let d = declared_procedure g t.0 h.name t.1 in
      (beside g r (beside g (formals_of g h) (beside g (nothing_of t.1) d.1)) ≡ Ok tt → (r ≡ Ok tt) × Takes g s E d.0)
      → One g j lawful exports start names taken E ds B (s, r)
      (d.0, beside g r (beside g (formals_of g h) (beside g (nothing_of t.1) d.1)))
  by_made t (Ok m) x fine = (
    type_added m,
    ends t (type_added m) (with_procedure_type (with_shape s m) (Ok (next_type s.types)))
        (Ok (meaning.Procedure here_made)) refl v.block.same.withs v.block.same.outer
        (ap (λ (types : Types). with_types types (m ∷ [])) v.block.same.types) v.block.same.tables (it_is_added m x)
        (its_own_known m x) (λ b w. it_adds m x b w) (λ t u p q. its_meaning (Ok m) x p q)
        (is_free (find_name h.name.name s.own)) name_decided _ (λ w. all_told (type_added m) x t w) fine,
  )
  by_made t (Err e) x fine = (
    nothing_added,
    ends t nothing_added s (Err (meaningless.Headless false e)) refl v.block.same.withs v.block.same.outer
        (v.block.same.types ∙ sym (no_types start.types)) v.block.same.tables (nothing_is_added e x) (its_headless e x)
        (λ b w. it_adds_nothing e x b w) (λ t u p q. its_meaning (Err e) x p q)
        (is_free (find_name h.name.name s.own)) name_decided _ (λ w. all_told nothing_added x t w) fine,
  )

  pub procedure_stepped : {r : Result (Unit {0}) g.Reported} → Tells g j lawful (λ f. ⊥) B r
      → One g j lawful exports start names taken (OfProcedure h) ds B (s, r) (with_procedure g (s, r) h)
  procedure_stepped {r = r} t = by_made t (heading_of g s h) exact (procedure_takes g (s, r) h)
