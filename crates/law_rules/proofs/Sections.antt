-- The declarations of a definition are read one after another, as those of a block are.
use Rattle.std.proofs.Common.{◌≡◌, ℕ, Bool, true, List, [], ◌∷◌, length, Result, Ok, Err, ◌⊎◌, inl, inr, refl, sym, ap, subst, ◌∙◌, arith, Option}
use Rattle.std.specs.List.{fold}
use Rattle.std.proofs.lemmas.Bool.Decides.{nat_tests}
use Rattle.m2_rule.specs.declared.breach.Breach.{Breach}
use Rattle.m2_tree.specs.declared.name.Ident.{Ident}
use Rattle.m2_tree.specs.declared.decl.Constant.{Constant}
use Rattle.m2_tree.specs.declared.decl.TypeDecl.{TypeDecl}
use Rattle.m2_tree.specs.declared.decl.Variables.{Variables}
use Rattle.m2_tree.specs.declared.decl.TypeExpr.{TypeExpr}
use Rattle.typed_tree.specs.declared.types.TypeNo.{TypeNo}
use Rattle.typed_tree.specs.declared.meaning.Meaning.{Meaning}
use Rattle.typed_tree.specs.declared.meaning.Meaning.TheVariants as meaning
use Rattle.typed_tree.specs.Names.{find_name}
use Rattle.check_scope.specs.declared.scope.Scope.{Scope}
use Rattle.check_scope.specs.Elaborated.{Gathers, beside, ◌▷◌}
use Rattle.check_scope.specs.Scopes.{State, begin_name, finish_name}
use Rattle.check_const.specs.Parts.{constant}
use Rattle.check_expr.specs.Meanings.{part}
use Rattle.check_type_expr.specs.Made.{nothing_of, type_of}
use Rattle.check_definition.specs.Declare.{with_constant, brings_with, type_meaning, with_type, begun_name, with_variable_type, finished_variable, with_variables}
use Rattle.m2_rule.specs.declared.rule.Rule.TheVariants as rule
use Rattle.typed_tree.specs.declared.known_types.Types.{Types}
use Rattle.check_scope.specs.declared.known.Known.{Known}
use Rattle.check_scope.specs.declared.known.Origin.TheVariants.{Here}
use Rattle.check_scope.specs.declared.known.Known.TheVariants as known
use Rattle.std.specs.Option.{is_some}
use Rattle.def_typing.specs.Operators.{◌!◌}
use Rattle.def_typing.specs.Things.{Standing, Undeclared, Unknown}
use Rattle.def_typing.specs.Parts.{Among, here, later, Named}
use Rattle.def_typing.specs.Declarations as rules
use Rattle.def_typing.specs.Declarations.{Declaration, OfConstant, OfType, OfVariables, names_of, constants_of, formals_in, Declares, Declared as Resolved, types_behind, is_variables, in_front_of, without, Brings, Misdeclares, BrokenIn}
use Rattle.law_typing.specs.Judging.{Judges, Answers}
use Rattle.law_typing.specs.Exact.{standing, is_own_variable, TakenAs, Knows, Repeats}
use Rattle.law_typing.proofs.Combining.{Lawful, Decided, fails_it, Tells, silent, tells, tells_as, beside_tells}
use Rattle.law_typing.proofs.Entering.{named_left}
use Rattle.law_typing.proofs.Declaring.{All, Added as Added_there, Elsewhere, Saying, KnowsBlock, knowing, repeating, standings, all_stand, home_same}
use Rattle.law_typing.proofs.Beginning.{Adding, adding_name, added, Theres, free_now, begin_one, begin_all, KnowsMid, mid_begins, mid_as, finish_one, finish_end}
use Rattle.law_typing.proofs.Sayings.{Set, Saids, said_constant, said_type, said_variables, Exactly, saying, says_tells, more_answers, constant_says, of_type_says, variables_say}
use Rattle.def_typing.specs.TypeExprs.{Twice, constants_in, with_types, Added, nothing_added, Setting, IsTypeOf, Adds, BrokenType}
use Rattle.law_typing.proofs.Enumerating.{enters_nothing, MadeType, scope_with, Enters, Frees}
use Rattle.law_typing.proofs.TypeReading.{no_made, Read as Read_type}
use Rattle.law_typing.proofs.Recording.{type_read}
use Rattle.check_block.specs.declared.heading.Standing.TheVariants as place
use Rattle.check_block.specs.Headings.{standing_of}

module _ (g : Gathers) (j : Judges g) (lawful : Lawful g j) (exports : ℕ → Ident → Standing)
    (outside : Ident → Standing) (start : Scope g.Reported) (taken : List ℕ → Bool) (awaited : List ℕ → Option TypeNo)
    (nested : Bool) (block : List Declaration)
    (takes : (n : List ℕ) → TakenAs g j (taken n) (awaited n) (find_name n start.own))
    (knows : Knows g j outside exports start) (no_withs : start.withs ≡ []) (Before : Breach → Type 0) where
  abbrev pub KB : List Resolved → List Declaration → (List ℕ → Type 0) → Scope g.Reported → Type 0
  KB = KnowsBlock g j exports outside start taken awaited nested block

  abbrev pub Th : List Resolved → List ℕ → Type 0
  Th = Theres g j lawful exports outside start taken awaited nested block takes

  abbrev Stand : List Resolved → (Ident → Standing) → Type 0
  Stand = All g j exports outside start taken awaited nested block

  abbrev Rep : Breach → Type 0
  Rep f = Repeats g j outside start f

  abbrev Within : List Resolved → Breach → Type 0
  Within = BrokenIn start.types exports outside taken awaited nested block

  -- what is broken before them, or in them
  abbrev BI : List Resolved → Breach → Type 0
  BI front f = Before f ⊎ Within front f

  abbrev O : List Resolved → Breach → Type 0
  O = Elsewhere g j exports outside start taken awaited nested block

  abbrev T : List Resolved → Types
  T front = types_behind start.types front

  abbrev SetAt : List Resolved → Declaration → (Ident → Standing) → Setting
  SetAt = Set g j lawful exports outside start taken awaited nested block

  abbrev pub Add : List Resolved → Resolved → Type 0
  Add = Added_there g j exports outside start taken awaited nested block

  abbrev pub Told : List Resolved → Result (Unit {0}) g.Reported → Type 0
  Told front r = Tells g j lawful Rep (BI front) r

  abbrev Mis : List Resolved → Declaration → Breach → Type 0
  Mis front d f = (i : (names : Ident → Standing) × Stand front names) × Misdeclares exports (SetAt front d i.0) d f

  -- behind one declaration more
  abbrev pub Stepped : List Resolved → Resolved → List Declaration → State (Unit {0}) g.Reported → Type 0
  Stepped front d ds st = KB (d ∷ front) ds (Th (d ∷ front)) st.0 × Told (d ∷ front) st.1 × Add front d

  -- ---- what is reported

  more_tells : {Q U B : Breach → Type 0} {r : Result (Unit {0}) g.Reported} → ((f : Breach) → Q f → U f)
      → Tells g j lawful Q B r → Tells g j lawful U B r
  more_tells h (silent n) = silent n
  more_tells h (tells r a) = tells r (record
      { only = λ f m. elim (a.only f m) [ inl b ↦ inl b | inr q ↦ inr (h f q) ]; each = a.each })

  closed : {front : List Resolved} {C : Breach → Type 0} {r : Result (Unit {0}) g.Reported}
      → ((f : Breach) → BI front f → C f) → Tells g j lawful (O front) C r → Tells g j lawful Rep C r
  closed h (silent n) = silent n
  closed h (tells r a) = tells r (record {
    only =
        λ f m. elim (a.only f m) [ inl c ↦ inl c | inr o ↦ elim o [ inl q ↦ inr q | inr b ↦ inl (h f (inr b)) ] ];
    each =
        a.each;
  })

  told_here : {front : List Resolved} {r : Result (Unit {0}) g.Reported} → Told front r
      → Tells g j lawful (O front) (BI front) r
  told_here t = more_tells (λ f q. inl q) t

  abbrev Parts : List Resolved → Resolved → Breach → Type 0
  Parts front d f = BI front f ⊎ (Twice (Th front) (names_of d.what) f
      ⊎ (Twice (λ n. ⊥) (formals_in d.what) f ⊎ Mis front d.what f))

  -- A heading alone may be awaited.
  no_waiting : {front : List Resolved} (d : Declaration) → in_front_of d ≡ Undeclared → (t : TypeNo)
      → rules.IsAwaited start.types exports outside taken awaited nested block front t d → ⊥
  no_waiting _ e t (rules.is_awaited v h) = absurd cc

  parts_broken : {front : List Resolved} {d : Resolved} → in_front_of d.what ≡ Undeclared → (f : Breach)
      → Parts front d f → BI (d ∷ front) f
  parts_broken u f (inl (inl b)) = inl b
  parts_broken u f (inl (inr b)) = inr (rules.in_front b)
  parts_broken {d = d} u f (inr (inl t)) = inr (rules.twice (no_waiting d.what u) t)
  parts_broken u f (inr (inr (inl t))) = inr (rules.formal_twice t)
  parts_broken u f (inr (inr (inr (i, m)))) = inr (rules.inside i.1 m)

  broken_parts : {front : List Resolved} {d : Resolved} → in_front_of d.what ≡ Undeclared → (f : Breach)
      → BI (d ∷ front) f → Parts front d f
  broken_parts u f (inl b) = inl (inl b)
  broken_parts u f (inr (rules.in_front b)) = inl (inr b)
  broken_parts u f (inr (rules.twice n t)) = inr (inl t)
  broken_parts {d = d} u f (inr (rules.other_heading {t = t} a all m)) = absurd (no_waiting d.what u t a)
  broken_parts u f (inr (rules.formal_twice t)) = inr (inr (inl t))
  broken_parts u f (inr (rules.inside {names = names} all m)) = inr (inr (inr ((names, all), m)))

  -- from its parts, in whatever order
  told_parts : {front : List Resolved} (d : Resolved) → in_front_of d.what ≡ Undeclared
      → {C : Breach → Type 0} {r : Result (Unit {0}) g.Reported} → ((f : Breach) → C f → Parts front d f)
      → ((f : Breach) → Parts front d f → C f) → Tells g j lawful (O front) C r → Told (d ∷ front) r
  told_parts d u to from t = tells_as g j lawful Rep (λ f c. parts_broken u f (to f c))
      (λ f b. from f (broken_parts u f b)) (closed (λ f b. from f (inl b)) t)

  -- ---- a declaration but a procedure

  module _ (front : List Resolved) (d : Resolved) (ds : List Declaration) (undeclared : in_front_of d.what ≡ Undeclared)
      (unknown : without nested d.what ≡ Unknown) (no_formals : formals_in d.what ≡ []) where
    abbrev Begun : List ℕ → Type 0
    Begun = Adding (names_of d.what) (Th front)

    named : (x : Ident) → Among x (names_of d.what) → Declares d.what x.name
    named x m = named_left (constants_of d.what) (x, m, refl)

    formals_silent : (f : Breach) → Twice (λ n. ⊥) (formals_in d.what) f → ⊥
    formals_silent f t = subst (λ (xs : List Ident). Twice (λ n. ⊥) xs f) no_formals t

    -- the scope while its parts are read
    module _ {s : Scope g.Reported} (k : KB front (d.what ∷ ds) Begun s) where
      abbrev Read : {names : Ident → Standing} → Stand front names → Knows g j names exports s
      Read all = knowing g j exports outside start taken awaited nested block knows no_withs k all

      abbrev names_here : Ident → Standing
      names_here = standings g j exports outside start taken awaited nested block knows no_withs k

      stand_here : Stand front names_here
      stand_here = all_stand g j exports outside start taken awaited nested block knows no_withs k

      abbrev Repeat : {names : Ident → Standing} → Stand front names → (f : Breach) → Repeats g j names s f → O front f
      Repeat all = repeating g j exports outside start taken awaited nested block knows no_withs k all

      abbrev Mid : (List ℕ → Type 0) → Scope g.Reported → Type 0
      Mid done t = KnowsMid g j lawful exports outside start taken awaited nested block takes front d ds Begun done t

      abbrev Exact : {A : Type 0} → (A → Saids) → Result A g.Reported → Type 0
      Exact said r = Exactly g j lawful exports outside start taken awaited nested block said front d.what r

      -- the names that are there are not free
      frees_here : Frees s (SetAt front d.what names_here).there
      frees_here n = free_now g j lawful exports outside start taken awaited nested block takes front (names_of d.what)
          n (k.within n) (λ h. k.in_block n (d.what, here, named_left (constants_of d.what) h)) (k.own n)

      begun_mid : {t : Scope g.Reported} (own : List (List ℕ × Known g.Reported)) → t ≡ scope_with s d.adds.makes own
          → Enters d.adds.brings s.own own → ((n : List ℕ)
          → Decided (Named (constants_of d.what) n) (is_some (find_name n d.adds.brings)))
          → Brings exports (SetAt front d.what names_here) (Th front) d.what d.adds → Mid (λ n. ⊥) t
      begun_mid own e enters constants b = subst (λ (t : Scope g.Reported). Mid (λ n. ⊥) t) (sym e)
          (mid_begins g j lawful exports outside start taken awaited nested block takes front d ds Begun k.includes
          (λ n h. adding_name (names_of d.what) (Th front) n h.0 h.1 h.2)
          (λ n h. added (names_of d.what) (Th front) n h) (λ n h. k.in_block n (d.what, here, h))
          (rules.is_added stand_here b) constants undeclared k
          (record {
            withs = k.same.withs;
            outer = k.same.outer;
            types =
                ap (λ (t : Types). with_types t d.adds.makes) k.same.types;
            tables = k.same.tables;
            level =
                k.same.level;
          }) enters)

      one_finished : (x : Ident) → Among x (names_of d.what) → {m : Result Meaning g.Reported}
          → Saying g j exports outside start taken awaited nested block front d (known.Declared Here m)
          → (done : List ℕ → Type 0) {t : Scope g.Reported} → Mid done t
          → Mid (λ n. (x.name ≡ n) ⊎ done n) (finish_name t x m)
      one_finished x a {m = m} say done q = finish_one g j lawful exports outside start taken awaited nested block takes
          front d ds Begun k.includes x (x, a, refl) (k.in_block x.name (d.what, here, named x a))
          (adding_name (names_of d.what) (Th front) x.name x a refl) m say done q

      ended : {t : Scope g.Reported} → Mid (Named (names_of d.what)) t → KB (d ∷ front) ds (Th (d ∷ front)) t
      ended q = finish_end g j lawful exports outside start taken awaited nested block takes front d ds Begun k.within
          k.in_block k.left (λ n h. adding_name (names_of d.what) (Th front) n h.0 h.1 h.2)
          (λ n h. added (names_of d.what) (Th front) n h) q

      telling : {A : Type 0} (said : A → Saids) {r : Result A g.Reported} → Exact said r
          → Tells g j lawful (O front) (Mis front d.what) (r ▷ λ a. Ok tt)
      telling said h = says_tells g j lawful exports outside start taken awaited nested block said front d h stand_here

      says_it : {A : Type 0} (said : A → Saids) (made : A → Meaning) → ((a : A) → (said a).1 ≡ standing (made a))
          → ((a : A) → d.adds ≡ (said a).0) → ((a : A) → standing_of (made a) ≡ place.Taken)
          → ((a : A) → is_own_variable start (made a) ≡ is_variables d.what) → {r : Result A g.Reported} → Exact said r
          → Saying g j exports outside start taken awaited nested block front d
          (known.Declared Here (r ▷ λ a. Ok (made a)))
      says_it said made i e t w h = saying g j lawful exports outside start taken awaited nested block said front d made
          i h (λ a q. e a) unknown t w stand_here

    -- what is reported, if one name is begun
    told_one : {x : Ident} {r b v : Result (Unit {0}) g.Reported} → names_of d.what ≡ x ∷ [] → Told front r
        → Tells g j lawful (O front) (λ f. Th front x.name × (f ≡ x.pos ! rule.DeclaredTwice)) b
        → Tells g j lawful (O front) (Mis front d.what) v → Told (d ∷ front) (beside g r (beside g b v))
    told_one {x = x} e a b c = told_parts d undeclared (λ f z. to f z) (λ f z. from f z)
        (beside_tells g j lawful (O front) (told_here a) (beside_tells g j lawful (O front) b c))
      where
        to : (f : Breach) → BI front f ⊎ ((Th front x.name × (f ≡ x.pos ! rule.DeclaredTwice)) ⊎ Mis front d.what f)
            → Parts front d f
        to f (inl z) = inl z
        to f (inr (inl t)) = inr (inl (subst (λ (xs : List Ident). Twice (Th front) xs f) (sym e) (inl t)))
        to f (inr (inr m)) = inr (inr (inr m))

        from : (f : Breach) → Parts front d f → BI front f
            ⊎ ((Th front x.name × (f ≡ x.pos ! rule.DeclaredTwice)) ⊎ Mis front d.what f)
        from f (inl z) = inl z
        from f (inr (inl t)) = inr (inl (elim (subst (λ (xs : List Ident). Twice (Th front) xs f) e t)
            [ inl y ↦ y | inr y ↦ absurd y ]))
        from f (inr (inr (inl t))) = absurd (formals_silent f t)
        from f (inr (inr (inr m))) = inr (inr m)

    -- the same of a list of names
    told_list : {b v : Result (Unit {0}) g.Reported}
        → Tells g j lawful (O front) (λ f. BI front f ⊎ Twice (Th front) (names_of d.what) f) b
        → Tells g j lawful (O front) (Mis front d.what) v → Told (d ∷ front) (beside g b v)
    told_list b c = told_parts d undeclared
        (λ f z. elim z [ inl y ↦ elim y [ inl w ↦ inl w | inr t ↦ inr (inl t) ] | inr m ↦ inr (inr (inr m)) ])
        (λ f z. from f z) (beside_tells g j lawful (O front) b c)
      where
        from : (f : Breach) → Parts front d f → (BI front f ⊎ Twice (Th front) (names_of d.what) f) ⊎ Mis front d.what f
        from f (inl z) = inl (inl z)
        from f (inr (inl t)) = inl (inr t)
        from f (inr (inr (inl t))) = absurd (formals_silent f t)
        from f (inr (inr (inr m))) = inr m

  -- the name of a declaration of one name
  only_name : {x : Ident} {n : List ℕ} → (x.name ≡ n) ⊎ ⊥ → (y : Ident) × Among y (x ∷ []) × (y.name ≡ n)
  only_name {x = x} (inl e) = (x, here, e)
  only_name (inr z) = absurd z

  name_only : {x : Ident} {n : List ℕ} → (y : Ident) × Among y (x ∷ []) × (y.name ≡ n) → (x.name ≡ n) ⊎ ⊥
  name_only (y, here, e) = inl e
  name_only (y, later m, e) = elim m [ ]

  abbrev plain_one : Declaration → Resolved
  plain_one d = record { what = d; adds = nothing_added }

  -- ---- constants

  module _ (front : List Resolved) (c : Constant) (ds : List Declaration) where
    constant_exact : {s : Scope g.Reported} (k : KB front (OfConstant c ∷ ds) (Adding (c.name ∷ []) (Th front)) s)
        → Exactly g j lawful exports outside start taken awaited nested block said_constant front (OfConstant c)
        (constant g s (part g c.value))
    constant_exact {s = s} k names all = more_answers g j lawful (O front)
        (Repeat front (plain_one (OfConstant c)) ds refl refl refl k all)
        (constant_says g j lawful nested (T front) names (SetAt front (OfConstant c) names).there exports s
        (Read front (plain_one (OfConstant c)) ds refl refl refl k all) k.same.types c)

    pub declare_constant : {s : Scope g.Reported} {r : Result (Unit {0}) g.Reported}
        → KB front (OfConstant c ∷ ds) (Th front) s → Told front r
        → Exactly g j lawful exports outside start taken awaited nested block said_constant front (OfConstant c)
        (constant g (begin_name g s c.name).0 (part g c.value))
        × Stepped front (plain_one (OfConstant c)) ds (with_constant g (s, r) c)
    declare_constant k t = let b = begin_one g j lawful exports outside start taken awaited nested block takes (O front)
        front (OfConstant c) ds refl (Th front) c.name (c.name, here, refl) k in
        let h = constant_exact b.0 in (
          h,
          (
            ended front (plain_one (OfConstant c)) ds refl refl refl b.0
                (mid_as g j lawful exports outside start taken awaited nested block takes front
                (plain_one (OfConstant c)) ds (Adding (c.name ∷ []) (Th front)) (λ n z. only_name z)
                (λ n z. name_only z)
                (one_finished front (plain_one (OfConstant c)) ds refl refl refl b.0 c.name here
                (says_it front (plain_one (OfConstant c)) ds refl refl refl b.0 said_constant
                (λ v. meaning.Constant v) (λ v. refl) (λ v. refl) (λ v. refl) (λ v. refl) h) (λ n. ⊥)
                (begun_mid front (plain_one (OfConstant c)) ds refl refl refl b.0 (begin_name g _ c.name).0.own
                (no_made (begin_name g _ c.name).0) (enters_nothing (begin_name g _ c.name).0.own)
                (λ n. fails_it (λ z. elim z.1 [ ])) rules.constant_brings))),
            told_one front (plain_one (OfConstant c)) ds refl refl refl refl t b.1
                (telling front (plain_one (OfConstant c)) ds refl refl refl b.0 said_constant h),
            rules.is_added (stand_here front (plain_one (OfConstant c)) ds refl refl refl b.0) rules.constant_brings,
          ),
        )

  -- ---- types

  abbrev pub typed_one : Declaration → Added → Resolved
  typed_one d a = record { what = d; adds = a }

  abbrev ReadType : Scope g.Reported → TypeExpr → State TypeNo g.Reported → Type 0
  ReadType s e q = Read_type g j lawful exports s e q

  -- where types are known to be others
  abbrev at_types : Types → (Ident → Standing) → (List ℕ → Bool) → Setting
  at_types types names there = record { types = types; names = names; there = there }

  module _ (front : List Resolved) (d : TypeDecl) (ds : List Declaration) {s : Scope g.Reported}
      (k : KB front (OfType d ∷ ds) (Adding (d.name ∷ []) (Th front)) s) (q : State TypeNo g.Reported)
      (read : ReadType s d.of q) where
    abbrev one : Resolved
    one = typed_one (OfType d) read.adds

    abbrev names_in_type : Ident → Standing
    names_in_type = names_here front one ds refl refl refl k

    type_brings : Brings exports (SetAt front (OfType d) names_in_type) (Th front) (OfType d) read.adds
    type_brings = rules.type_brings (subst
        (λ (types : Types). Adds exports (at_types types names_in_type (SetAt front (OfType d) names_in_type).there)
        d.of read.adds) k.same.types
        (read.added names_in_type (SetAt front (OfType d) names_in_type).there
        (Read front one ds refl refl refl k (stand_here front one ds refl refl refl k))
        (frees_here front one ds refl refl refl k)))

    type_exact : Exactly g j lawful exports outside start taken awaited nested block (said_type read.adds) front
        (OfType d) q.1
    type_exact names all = more_answers g j lawful (O front) (Repeat front one ds refl refl refl k all)
        (of_type_says g j lawful nested (T front) names (SetAt front (OfType d) names).there exports s
        (Read front one ds refl refl refl k all) k.same.types d read.adds
        (subst (λ (types : Types). Answers g j (Repeats g j names s) (λ a k. k ≡ (read.adds, a))
        (λ (k : MadeType). IsTypeOf exports (at_types types names (SetAt front (OfType d) names).there) d.of k.0
        k.1) (BrokenType exports (at_types types names (SetAt front (OfType d) names).there) d.of) q.1) k.same.types
        (read.exact names (SetAt front (OfType d) names).there (Read front one ds refl refl refl k all)
        (frees_here front one ds refl refl refl k))))

    type_only : (names : Ident → Standing) → Stand front names → (a : Added)
        → Adds exports (SetAt front (OfType d) names) d.of a → a ≡ read.adds
    type_only names all a w = read.only names (SetAt front (OfType d) names).there
        (Read front one ds refl refl refl k all) (frees_here front one ds refl refl refl k) a
        (subst (λ (types : Types). Adds exports (at_types types names (SetAt front (OfType d) names).there) d.of a)
        (sym k.same.types) w)

    type_ended : {r b : Result (Unit {0}) g.Reported} → Told front r
        → Tells g j lawful (O front) (λ f. Th front d.name.name × (f ≡ d.name.pos ! rule.DeclaredTwice)) b
        → Stepped front one ds (
          finish_name q.0 d.name (type_meaning q.1 (brings_with d.of)),
          beside g r
              (beside g b (nothing_of q.1)),
        )
    type_ended t w = let h = type_exact in (
      ended front one ds refl refl refl k (mid_as g j lawful exports outside start taken awaited nested block takes
          front one ds (Adding (d.name ∷ []) (Th front)) (λ n z. only_name z) (λ n z. name_only z)
          (one_finished front one ds refl refl refl k d.name here
          (says_it front one ds refl refl refl k (said_type read.adds) (λ t. meaning.Type t (brings_with d.of))
          (λ t. refl) (λ t. refl) (λ t. refl) (λ t. refl) h) (λ n. ⊥)
          (begun_mid front one ds refl refl refl k read.own read.is read.enters read.constants type_brings))),
      told_one front one ds refl refl refl refl t w (telling front one ds refl refl refl k (said_type read.adds) h),
      rules.is_added (stand_here front one ds refl refl refl k) type_brings,
    )

  -- what it adds, and nothing else, whether its type is right, and what is known behind it
  abbrev pub One : List Resolved → Declaration → TypeExpr → (Added → TypeNo → Saids) → Result TypeNo g.Reported
      → List Declaration → State (Unit {0}) g.Reported → Type 0
  One front x e said r ds st = (a : Added)
      × Exactly g j lawful exports outside start taken awaited nested block (said a) front x r
      × Stepped front (typed_one x a) ds st ×
      ((names : Ident → Standing) → Stand front names → (b : Added) → Adds exports (SetAt front x names) e b → b ≡ a)

  pub declare_type : (front : List Resolved) (d : TypeDecl) (ds : List Declaration)
      → {s : Scope g.Reported} {r : Result (Unit {0}) g.Reported} → KB front (OfType d ∷ ds) (Th front) s → Told front r
      → One front (OfType d) d.of (λ a t. said_type a t) (type_of g d.of (begin_name g s d.name).0).1 ds
      (with_type g (s, r) d)
  declare_type front d ds {s = s} k t = let b =
      begin_one g j lawful exports outside start taken awaited nested block takes (O front) front (OfType d) ds refl
      (Th front) d.name (d.name, here, refl) k in
      let read = type_read g j lawful exports d.of (begin_name g s d.name).0 b.0.same.withs in (
        read.adds,
        type_exact front d ds b.0 (type_of g d.of (begin_name g s d.name).0) read,
        type_ended front d ds b.0
            (type_of g d.of (begin_name g s d.name).0) read t b.1,
        type_only front d ds b.0
            (type_of g d.of (begin_name g s d.name).0) read,
      )

  -- ---- variables

  module _ (front : List Resolved) (v : Variables) (ds : List Declaration) {s : Scope g.Reported}
      (k : KB front (OfVariables v ∷ ds) (Adding v.names (Th front)) s) (q : State TypeNo g.Reported)
      (read : ReadType s v.of q) where
    abbrev many : Resolved
    many = typed_one (OfVariables v) read.adds

    abbrev names_in_list : Ident → Standing
    names_in_list = names_here front many ds refl refl refl k

    variables_bring : Brings exports (SetAt front (OfVariables v) names_in_list) (Th front) (OfVariables v) read.adds
    variables_bring = rules.variables_bring
        (subst (λ (types : Types). Adds exports
        (at_types types names_in_list (SetAt front (OfVariables v) names_in_list).there) v.of read.adds) k.same.types
        (read.added names_in_list (SetAt front (OfVariables v) names_in_list).there
        (Read front many ds refl refl refl k (stand_here front many ds refl refl refl k))
        (frees_here front many ds refl refl refl k)))

    variables_exact : Exactly g j lawful exports outside start taken awaited nested block (said_variables read.adds)
        front (OfVariables v) q.1
    variables_exact names all = more_answers g j lawful (O front) (Repeat front many ds refl refl refl k all)
        (variables_say g j lawful nested (T front) names (SetAt front (OfVariables v) names).there exports s
        (Read front many ds refl refl refl k all) k.same.types v read.adds
        (subst (λ (types : Types). Answers g j (Repeats g j names s) (λ a k. k ≡ (read.adds, a))
        (λ (k : MadeType). IsTypeOf exports (at_types types names (SetAt front (OfVariables v) names).there) v.of
        k.0 k.1) (BrokenType exports (at_types types names (SetAt front (OfVariables v) names).there) v.of) q.1)
        k.same.types (read.exact names (SetAt front (OfVariables v) names).there
        (Read front many ds refl refl refl k all) (frees_here front many ds refl refl refl k))))

    variables_only : (names : Ident → Standing) → Stand front names → (a : Added)
        → Adds exports (SetAt front (OfVariables v) names) v.of a → a ≡ read.adds
    variables_only names all a w = read.only names (SetAt front (OfVariables v) names).there
        (Read front many ds refl refl refl k all) (frees_here front many ds refl refl refl k) a
        (subst (λ (types : Types). Adds exports (at_types types names (SetAt front (OfVariables v) names).there) v.of a)
        (sym k.same.types) w)

    abbrev MidOf : (List ℕ → Type 0) → Scope g.Reported → Type 0
    MidOf done t = Mid front many ds refl refl refl k done t

    typed_mid : {done : List ℕ → Type 0} {t : Scope g.Reported} (r : Result TypeNo g.Reported) → MidOf done t
        → MidOf done (with_variable_type t r)
    typed_mid (Ok u) m = record {
      same = record {
        withs = m.same.withs;
        outer = m.same.outer;
        types = m.same.types;
        tables = m.same.tables;
        level = m.same.level;
      };
      own = m.own;
      once = m.once;
    }
    typed_mid (Err e) m = m

    -- its variables count as own
    abbrev OwnMade : (Scope g.Reported → TypeNo → Meaning) → Type 0
    OwnMade made = (t : Scope g.Reported) → t.types ≡ T (many ∷ front) → t.level ≡ start.level → (a : TypeNo)
        → is_own_variable start (made t a) ≡ true

    -- one variable after another
    finish_each : (made : Scope g.Reported → TypeNo → Meaning)
        → ((t : Scope g.Reported) (a : TypeNo) → (said_variables read.adds a).1 ≡ standing (made t a))
        → ((t : Scope g.Reported) (a : TypeNo) → standing_of (made t a) ≡ place.Taken) → OwnMade made
        → (xs : List Ident) → ((x : Ident) → Among x xs → Among x v.names)
        → (done : List ℕ → Type 0) {t : Scope g.Reported} → MidOf done t
        → MidOf (Adding xs done) (fold (λ t x. finish_name (with_variable_type t q.1) x (q.1 ▷ λ a. Ok (made t a))) t
        xs)
    finish_each made i z w [] a done m = m
    finish_each made i z w (x ∷ xs) a done {t = t} m =
        finish_each made i z w xs (λ y n. a y (later n)) (λ n. (x.name ≡ n) ⊎ done n)
        (one_finished front many ds refl refl refl k x (a x here)
        (says_it front many ds refl refl refl k (said_variables read.adds) (made t) (i t) (λ u. refl) (z t)
        (w t m.same.types m.same.level) variables_exact) done (typed_mid q.1 m))

    names_done : (n : List ℕ) → Adding v.names (λ n. ⊥) n → Named v.names n
    names_done n h = elim (added v.names (λ n. ⊥) n h) [ inl w ↦ w | inr z ↦ absurd z ]

    variables_ended : (made : Scope g.Reported → TypeNo → Meaning)
        → ((t : Scope g.Reported) (a : TypeNo) → (said_variables read.adds a).1 ≡ standing (made t a))
        → ((t : Scope g.Reported) (a : TypeNo) → standing_of (made t a) ≡ place.Taken) → OwnMade made
        → KB (many ∷ front) ds (Th (many ∷ front))
        (fold (λ t x. finish_name (with_variable_type t q.1) x (q.1 ▷ λ a. Ok (made t a))) q.0 v.names)
    variables_ended made i z w = ended front many ds refl refl refl k
        (mid_as g j lawful exports outside start taken awaited nested block takes front many ds
        (Adding v.names (Th front)) names_done (λ n h. adding_name v.names (λ n. ⊥) n h.0 h.1 h.2)
        (finish_each made i z w v.names (λ x m. m) (λ n. ⊥)
        (begun_mid front many ds refl refl refl k read.own read.is read.enters read.constants variables_bring)))

    variables_told : {b : Result (Unit {0}) g.Reported}
        → Tells g j lawful (O front) (λ f. BI front f ⊎ Twice (Th front) v.names f) b
        → Told (many ∷ front) (beside g b (nothing_of q.1))
    variables_told t = told_list front many ds refl refl refl t
        (telling front many ds refl refl refl k (said_variables read.adds) variables_exact)

    abbrev variable_made : Scope g.Reported → TypeNo → Meaning
    variable_made t a = meaning.Variable (record { home = t.types.home; number = length t.variables; of = a })

    own_made : (t : Scope g.Reported) → t.types ≡ T (many ∷ front) → t.level ≡ start.level → (a : TypeNo)
        → is_own_variable start (variable_made t a) ≡ true
    own_made t e l a = let z : t.types.home ≡ start.types.home = ap (λ (x : Types). x.home) e
        ∙ home_same g j exports outside start taken awaited nested block knows no_withs front in
        grind (arith, nat_tests, z)

    module_ended : {b : Result (Unit {0}) g.Reported}
        → Tells g j lawful (O front) (λ f. BI front f ⊎ Twice (Th front) v.names f) b
        → Stepped front many ds (fold (finished_variable q.1) q.0 v.names, beside g b (nothing_of q.1))
    module_ended t = (
      variables_ended variable_made (λ t a. refl) (λ t a. refl) own_made,
      variables_told t,
      rules.is_added (stand_here front many ds refl refl refl k) variables_bring,
    )

  begun_list : (front : List Resolved) (v : Variables) (ds : List Declaration) {s : Scope g.Reported}
      {r : Result (Unit {0}) g.Reported} → KB front (OfVariables v ∷ ds) (Th front) s → Told front r
      → KB front (OfVariables v ∷ ds) (Adding v.names (Th front)) (fold (begun_name g) (s, r) v.names).0
      × Tells g j lawful (O front) (λ f. BI front f ⊎ Twice (Th front) v.names f)
      (fold (begun_name g) (s, r) v.names).1
  begun_list front v ds k t = begin_all g j lawful exports outside start taken awaited nested block takes (O front)
      front (OfVariables v) ds refl v.names (Th front) (λ x m. named_left (constants_in v.of) (x, m, refl)) k
      (told_here t)

  pub declare_variables : (front : List Resolved) (v : Variables) (ds : List Declaration)
      → {s : Scope g.Reported} {r : Result (Unit {0}) g.Reported} → KB front (OfVariables v ∷ ds) (Th front) s
      → Told front r → One front (OfVariables v) v.of (λ a t. said_variables a t)
      (type_of g v.of (fold (begun_name g) (s, r) v.names).0).1 ds (with_variables g (s, r) v)
  declare_variables front v ds {s = s} {r = r} k t = let b = begun_list front v ds k t in
      let u = (fold (begun_name g) (s, r) v.names).0 in
      let read = type_read g j lawful exports v.of u b.0.same.withs in (
        read.adds,
        variables_exact front v ds b.0 (type_of g v.of u) read,
        module_ended front v ds b.0 (type_of g v.of u)
            read b.1,
        variables_only front v ds b.0 (type_of g v.of u) read,
      )
