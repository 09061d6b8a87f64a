-- The declarations of a block are answered exactly.
use Rattle.std.proofs.Common.{◌≡◌, ℕ, Bool, true, false, cond, List, [], ◌∷◌, ◌++◌, length, Option, Some, Result, Ok, Err, ◌⊎◌, inl, inr, refl, sym, ap, subst, ◌∙◌, arith}
use Rattle.std.specs.Prelude.{map, not, ◌==◌}
use Rattle.std.specs.List.{fold}
use Rattle.std.proofs.lemmas.Bool.Decides.{nat_tests}
use Rattle.m2_rule.specs.declared.breach.Breach.{Breach}
use Rattle.m2_tree.specs.declared.pos.Pos.{Pos}
use Rattle.m2_tree.specs.declared.name.Ident.{Ident}
use Rattle.m2_tree.specs.declared.decl.Constant.{Constant}
use Rattle.m2_tree.specs.declared.decl.TypeDecl.{TypeDecl}
use Rattle.m2_tree.specs.declared.decl.Variables.{Variables}
use Rattle.m2_tree.specs.declared.decl.TypeExpr.{TypeExpr}
use Rattle.typed_tree.specs.declared.types.TypeNo.{TypeNo}
use Rattle.typed_tree.specs.declared.meaning.LocalKind.TheVariants as kind
use Rattle.typed_tree.specs.declared.meaning.Meaning.{Meaning}
use Rattle.typed_tree.specs.declared.meaning.Meaning.TheVariants as meaning
use Rattle.typed_tree.specs.Names.{find_name}
use Rattle.check_scope.specs.declared.scope.Scope.{Scope}
use Rattle.check_scope.specs.Elaborated.{Gathers, reported_where, beside, ◌▷◌}
use Rattle.check_scope.specs.declared.meaningless.Meaningless.{Meaningless}
use Rattle.check_scope.specs.declared.meaningless.Meaningless.TheVariants as meaningless
use Rattle.check_scope.specs.Scopes.{State, heading_means, begin_name, finish_name}
use Rattle.check_const.specs.Parts.{constant}
use Rattle.check_expr.specs.Meanings.{part}
use Rattle.check_type_expr.specs.Made.{nothing_of, type_of}
use Rattle.check_definition.specs.Declare.{with_constant, brings_with, type_meaning, with_type, begun_name, with_variable_type, finished_variable, with_variables}
use Rattle.m2_tree.specs.declared.decl.Decl.{Decl, Decl-F, out-Decl}
use Rattle.m2_tree.specs.declared.decl.Decl.TheOpen as decl
use Rattle.m2_tree.specs.declared.decl.Block.{Block}
use Rattle.check_block.specs.Declarations.{finished_local, with_locals, with_variables_of, decl_layer, with_decl, Declared, declared_block, is_awaited}
use Rattle.check_block.specs.Naming.{marked_decl, all_marked}
use Rattle.check_definition.specs.Again.{Passing}
use Rattle.m2_rule.specs.declared.rule.Rule.TheVariants as rule
use Rattle.m2_tree.specs.declared.decl.Section.{Section}
use Rattle.m2_tree.specs.declared.decl.Heading.{Heading}
use Rattle.typed_tree.specs.declared.shape.Made.{Made}
use Rattle.typed_tree.specs.declared.shape.Shape.TheVariants as shape
use Rattle.typed_tree.specs.declared.shape.Signature.{Signature}
use Rattle.typed_tree.specs.declared.meaning.Procedure.{Procedure}
use Rattle.typed_tree.specs.declared.known_types.Types.{Types}
use Rattle.typed_tree.specs.Names.{enter_name}
use Rattle.typed_tree.specs.Types.{integer}
use Rattle.check_scope.specs.declared.known.Known.{Known}
use Rattle.check_scope.specs.declared.known.Origin.TheVariants.{Here}
use Rattle.check_scope.specs.declared.known.Known.TheVariants as known
use Rattle.check_scope.specs.Scopes.{with_known}
use Rattle.check_scope.specs.Elaborated.{report}
use Rattle.check_definition.specs.Declare.{with_procedure_type}
use Rattle.check_type_expr.specs.declared.field.Fields.{Fields}
use Rattle.std.specs.Option.{is_some}
use Rattle.check_type_expr.specs.Cells.{plus}
use Rattle.check_type_expr.specs.Fields.{no_fields, with_name}
use Rattle.check_type_expr.specs.Headings.{heading_of, with_names, names_of as formals_told}
use Rattle.check_type_expr.specs.Made.{with_shape}
use Rattle.check_block.specs.declared.heading.Standing.{Standing as Place}
use Rattle.check_block.specs.declared.heading.Standing.TheVariants as place
use Rattle.check_block.specs.Headings.{standing_of, name_standing, new_procedure, with_new, reported_of_other, headed_as, with_heading}
use Rattle.def_typing.specs.Operators.{◌!◌}
use Rattle.def_typing.specs.Shapes.{IsMade}
use Rattle.def_typing.specs.Headings.{procedure_made, IsHeading, BrokenHeading}
use Rattle.def_typing.specs.Agreements as agreements
use Rattle.def_typing.specs.Agreements.{Agrees}
use Rattle.def_typing.specs.Things as things
use Rattle.def_typing.specs.Things.{Standing, Undeclared, Unknown}
use Rattle.def_typing.specs.Parts.{Among, here, later, Named}
use Rattle.def_typing.specs.Declarations as rules
use Rattle.def_typing.specs.Declarations.{Declaration, OfConstant, OfType, OfVariables, OfProcedure, declared_by, declarations_of, names_of, constants_of, names_in, formals_in, Declares, AnyDeclares, Declared as Resolved, in_order, IsThere, IsHeaded, types_behind, procedure, is_variables, in_front_of, without, Says, Brings, Misdeclares, Differs, IsAwaited, AllAdded, Lacks, BrokenIn}
use Rattle.def_typing.specs.Again.{BrokenAgain}
use Rattle.law_typing.specs.Judging.{Judges, Answers, means, refuses, Reports, reports_nothing, reports_broken}
use Rattle.law_typing.specs.Again.{ReadsAgain}
use Rattle.law_typing.specs.Exact.{standing, is_own_variable, TakenAs, is_taken, awaits, is_a_heading, not_taken, Knows, Repeats, is_nested, IsAsBefore, as_before, has_heading, IsBlockExact, AreOnce}
use Rattle.law_typing.proofs.Combining.{Lawful, Decided, holds, fails_it, Tells, silent, tells, tells_as, beside_tells, accounts_as, accounts_one}
use Rattle.law_typing.proofs.Heading.{nil_right, append_assoc, heading_answers}
use Rattle.law_typing.proofs.Agreeing.{agreement_decided}
use Rattle.law_typing.proofs.Entering.{named_left, entered_all, once_more}
use Rattle.law_typing.proofs.Lacking.{Awaits, AnyAwaits, lacks_decided}
use Rattle.law_typing.proofs.Declaring.{any_first, any_named, clash, All, Added as Added_there, Elsewhere, Saying, KnownAs, outer, headed, ahead, reading, behind, a_member, Same, KnowsBlock, knowing, repeating, standings, all_stand, home_same, owning, some_own}
use Rattle.law_typing.proofs.Beginning.{Adding, adding_name, added, mark_place, unawaited, Theres, free_now, widen, begin_one, begin_all, place_is, PlaceIs, place_free, place_taken, place_awaited, MidAs, is_done, is_other, is_headed, KnowsMid, mid_begins, mid_as, finish_one, finish_end}
use Rattle.law_typing.proofs.Sayings.{Set, Saids, said_constant, said_type, said_variables, said_procedure, Exactly, saying, saying_heading, tells_all, says_tells, more_answers, constant_says, of_type_says, variables_say, procedure_says}
use Rattle.def_typing.specs.TypeExprs.{Twice, constants_in, with_types, next_type, Added, nothing_added, type_added, Setting, IsTypeOf, Adds, BrokenType}
use Rattle.law_typing.proofs.Enumerating.{MadeType, scope_with, Enters, Frees, enters_nothing}
use Rattle.law_typing.proofs.TypeReading.{no_types, no_made, Read as Read_type}
use Rattle.law_typing.proofs.Recording.{type_read}
use Rattle.law_typing.proofs.Marking.{block_begins}
use Rattle.law_typing.proofs.Rereading.{decls_again, reread_here}

module _ (g : Gathers) (j : Judges g) (lawful : Lawful g j) (exports : ℕ → Ident → Standing)
    (outside : Ident → Standing) (start : Scope g.Reported) (taken : List ℕ → Bool) (awaited : List ℕ → Option TypeNo)
    (nested : Bool) (block : List Declaration)
    (takes : (n : List ℕ) → TakenAs g j (taken n) (awaited n) (find_name n start.own))
    (knows : Knows g j outside exports start) (no_withs : start.withs ≡ []) where
  abbrev KB : List Resolved → List Declaration → (List ℕ → Type 0) → Scope g.Reported → Type 0
  KB = KnowsBlock g j exports outside start taken awaited nested block

  abbrev Th : List Resolved → List ℕ → Type 0
  Th = Theres g j lawful exports outside start taken awaited nested block takes

  abbrev Stand : List Resolved → (Ident → Standing) → Type 0
  Stand = All g j exports outside start taken awaited nested block

  abbrev Rep : Breach → Type 0
  Rep f = Repeats g j outside start f

  abbrev BI : List Resolved → Breach → Type 0
  BI = BrokenIn start.types exports outside taken awaited nested block

  abbrev O : List Resolved → Breach → Type 0
  O = Elsewhere g j exports outside start taken awaited nested block

  abbrev T : List Resolved → Types
  T front = types_behind start.types front

  abbrev SetAt : List Resolved → Declaration → (Ident → Standing) → Setting
  SetAt = Set g j lawful exports outside start taken awaited nested block

  abbrev Add : List Resolved → Resolved → Type 0
  Add = Added_there g j exports outside start taken awaited nested block

  abbrev Told : List Resolved → Result (Unit {0}) g.Reported → Type 0
  Told front r = Tells g j lawful Rep (BI front) r

  abbrev Mis : List Resolved → Declaration → Breach → Type 0
  Mis front d f = (i : (names : Ident → Standing) × Stand front names) × Misdeclares exports (SetAt front d i.0) d f

  abbrev Waits : List Resolved → TypeNo → Declaration → Type 0
  Waits = IsAwaited start.types exports outside taken awaited nested block

  abbrev NotAwaited : List Resolved → Declaration → Type 0
  NotAwaited front d = (t : TypeNo) → Waits front t d → ⊥

  abbrev Other : List Resolved → Declaration → Breach → Type 0
  Other front d f = (t : TypeNo) × Waits front t d
      × ((i : (names : Ident → Standing) × Stand front names) × Differs exports (SetAt front d i.0) t d f)

  -- behind one declaration more
  abbrev Stepped : List Resolved → Resolved → List Declaration → State (Unit {0}) g.Reported → Type 0
  Stepped front d ds st = KB (d ∷ front) ds (Th (d ∷ front)) st.0 × Told (d ∷ front) st.1 × Add front d

  -- ---- what is reported

  more_tells : {Q U B : Breach → Type 0} {r : Result (Unit {0}) g.Reported} → ((f : Breach) → Q f → U f)
      → Tells g j lawful Q B r → Tells g j lawful U B r
  more_tells h (silent n) = silent n
  more_tells h (tells r a) = tells r (record
      { only = λ f m. elim (a.only f m) [ inl b ↦ inl b | inr q ↦ inr (h f q) ]; each = a.each })

  closed : {front : List Resolved} {C : Breach → Type 0} {r : Result (Unit {0}) g.Reported}
      → ((f : Breach) → BI front f → C f) → Tells g j lawful (O front) C r → Tells g j lawful Rep C r
  closed h (silent n) = silent n
  closed h (tells r a) = tells r (record {
    only =
        λ f m. elim (a.only f m) [ inl c ↦ inl c | inr o ↦ elim o [ inl q ↦ inr q | inr b ↦ inl (h f b) ] ];
    each =
        a.each;
  })

  told_here : {front : List Resolved} {r : Result (Unit {0}) g.Reported} → Told front r
      → Tells g j lawful (O front) (BI front) r
  told_here t = more_tells (λ f q. inl q) t

  abbrev Parts : List Resolved → Resolved → Breach → Type 0
  Parts front d f = BI front f ⊎ ((NotAwaited front d.what × Twice (Th front) (names_of d.what) f)
      ⊎ (Twice (λ n. ⊥) (formals_in d.what) f ⊎ (Mis front d.what f ⊎ Other front d.what f)))

  parts_broken : {front : List Resolved} {d : Resolved} (f : Breach) → Parts front d f → BI (d ∷ front) f
  parts_broken f (inl b) = rules.in_front b
  parts_broken f (inr (inl t)) = rules.twice t.0 t.1
  parts_broken f (inr (inr (inl t))) = rules.formal_twice t
  parts_broken f (inr (inr (inr (inl (i, m))))) = rules.inside i.1 m
  parts_broken f (inr (inr (inr (inr (t, a, (i, m)))))) = rules.other_heading a i.1 m

  broken_parts : {front : List Resolved} {d : Resolved} (f : Breach) → BI (d ∷ front) f → Parts front d f
  broken_parts f (rules.in_front b) = inl b
  broken_parts f (rules.twice n t) = inr (inl (n, t))
  broken_parts f (rules.formal_twice t) = inr (inr (inl t))
  broken_parts f (rules.inside {names = names} all m) = inr (inr (inr (inl ((names, all), m))))
  broken_parts f (rules.other_heading {names = names} {t = t} a all m) = inr (inr (inr (inr (t, a, ((names, all), m)))))

  -- from its parts, in whatever order
  told_parts : {front : List Resolved} (d : Resolved) {C : Breach → Type 0} {r : Result (Unit {0}) g.Reported}
      → ((f : Breach) → C f → Parts front d f) → ((f : Breach) → Parts front d f → C f) → Tells g j lawful (O front) C r
      → Told (d ∷ front) r
  told_parts d to from t = tells_as g j lawful Rep (λ f c. parts_broken f (to f c)) (λ f b. from f (broken_parts f b))
      (closed (λ f b. from f (inl b)) t)

  -- ---- a declaration but a procedure

  no_waiting : {front : List Resolved} (d : Declaration) → in_front_of d ≡ Undeclared → NotAwaited front d
  no_waiting _ e t (rules.is_awaited v h) = absurd cc

  module _ (front : List Resolved) (d : Resolved) (ds : List Declaration) (undeclared : in_front_of d.what ≡ Undeclared)
      (unknown : without nested d.what ≡ Unknown) (no_formals : formals_in d.what ≡ []) where
    abbrev Begun : List ℕ → Type 0
    Begun = Adding (names_of d.what) (Th front)

    named : (x : Ident) → Among x (names_of d.what) → Declares d.what x.name
    named x m = named_left (constants_of d.what) (x, m, refl)

    not_awaited : NotAwaited front d.what
    not_awaited = no_waiting d.what undeclared

    formals_silent : (f : Breach) → Twice (λ n. ⊥) (formals_in d.what) f → ⊥
    formals_silent f t = subst (λ (xs : List Ident). Twice (λ n. ⊥) xs f) no_formals t

    -- the scope while its parts are read
    module _ {s : Scope g.Reported} (k : KB front (d.what ∷ ds) Begun s) where
      abbrev Read : {names : Ident → Standing} → Stand front names → Knows g j names exports s
      Read all = knowing g j exports outside start taken awaited nested block knows no_withs k all

      abbrev names_here : Ident → Standing
      names_here = standings g j exports outside start taken awaited nested block knows no_withs k

      stand_here : Stand front names_here
      stand_here = all_stand g j exports outside start taken awaited nested block knows no_withs k

      abbrev Repeat : {names : Ident → Standing} → Stand front names → (f : Breach) → Repeats g j names s f → O front f
      Repeat all = repeating g j exports outside start taken awaited nested block knows no_withs k all

      abbrev Mid : (List ℕ → Type 0) → Scope g.Reported → Type 0
      Mid done t = KnowsMid g j lawful exports outside start taken awaited nested block takes front d ds Begun done t

      abbrev Exact : {A : Type 0} → (A → Saids) → Result A g.Reported → Type 0
      Exact said r = Exactly g j lawful exports outside start taken awaited nested block said front d.what r

      -- the names that are there are not free
      frees_here : Frees s (SetAt front d.what names_here).there
      frees_here n = free_now g j lawful exports outside start taken awaited nested block takes front (names_of d.what)
          n (k.within n) (λ h. k.in_block n (d.what, here, named_left (constants_of d.what) h)) (k.own n)

      begun_mid : {t : Scope g.Reported} (own : List (List ℕ × Known g.Reported)) → t ≡ scope_with s d.adds.makes own
          → Enters d.adds.brings s.own own → ((n : List ℕ)
          → Decided (Named (constants_of d.what) n) (is_some (find_name n d.adds.brings)))
          → Brings exports (SetAt front d.what names_here) (Th front) d.what d.adds → Mid (λ n. ⊥) t
      begun_mid own e enters constants b = subst (λ (t : Scope g.Reported). Mid (λ n. ⊥) t) (sym e)
          (mid_begins g j lawful exports outside start taken awaited nested block takes front d ds Begun k.includes
          (λ n h. adding_name (names_of d.what) (Th front) n h.0 h.1 h.2)
          (λ n h. added (names_of d.what) (Th front) n h) (λ n h. k.in_block n (d.what, here, h))
          (rules.is_added stand_here b) constants undeclared k
          (record {
            withs = k.same.withs;
            outer = k.same.outer;
            types =
                ap (λ (t : Types). with_types t d.adds.makes) k.same.types;
            tables = k.same.tables;
            level =
                k.same.level;
          }) enters)

      one_finished : (x : Ident) → Among x (names_of d.what) → {m : Result Meaning g.Reported}
          → Saying g j exports outside start taken awaited nested block front d (known.Declared Here m)
          → (done : List ℕ → Type 0) {t : Scope g.Reported} → Mid done t
          → Mid (λ n. (x.name ≡ n) ⊎ done n) (finish_name t x m)
      one_finished x a {m = m} say done q = finish_one g j lawful exports outside start taken awaited nested block takes
          front d ds Begun k.includes x (x, a, refl) (k.in_block x.name (d.what, here, named x a))
          (adding_name (names_of d.what) (Th front) x.name x a refl) m say done q

      ended : {t : Scope g.Reported} → Mid (Named (names_of d.what)) t → KB (d ∷ front) ds (Th (d ∷ front)) t
      ended q = finish_end g j lawful exports outside start taken awaited nested block takes front d ds Begun k.within
          k.in_block k.left (λ n h. adding_name (names_of d.what) (Th front) n h.0 h.1 h.2)
          (λ n h. added (names_of d.what) (Th front) n h) q

      telling : {A : Type 0} (said : A → Saids) {r : Result A g.Reported} → Exact said r
          → Tells g j lawful (O front) (Mis front d.what) (r ▷ λ a. Ok tt)
      telling said h = says_tells g j lawful exports outside start taken awaited nested block said front d h stand_here

      says_it : {A : Type 0} (said : A → Saids) (made : A → Meaning) → ((a : A) → (said a).1 ≡ standing (made a))
          → ((a : A) → d.adds ≡ (said a).0) → ((a : A) → standing_of (made a) ≡ place.Taken)
          → ((a : A) → is_own_variable start (made a) ≡ is_variables d.what) → {r : Result A g.Reported} → Exact said r
          → Saying g j exports outside start taken awaited nested block front d
          (known.Declared Here (r ▷ λ a. Ok (made a)))
      says_it said made i e t w h = saying g j lawful exports outside start taken awaited nested block said front d made
          i h (λ a q. e a) unknown t w stand_here

    -- what is reported, if one name is begun
    told_one : {x : Ident} {r b v : Result (Unit {0}) g.Reported} → names_of d.what ≡ x ∷ [] → Told front r
        → Tells g j lawful (O front) (λ f. Th front x.name × (f ≡ x.pos ! rule.DeclaredTwice)) b
        → Tells g j lawful (O front) (Mis front d.what) v → Told (d ∷ front) (beside g r (beside g b v))
    told_one {x = x} e a b c = told_parts d (λ f z. to f z) (λ f z. from f z)
        (beside_tells g j lawful (O front) (told_here a) (beside_tells g j lawful (O front) b c))
      where
        to : (f : Breach) → BI front f ⊎ ((Th front x.name × (f ≡ x.pos ! rule.DeclaredTwice)) ⊎ Mis front d.what f)
            → Parts front d f
        to f (inl z) = inl z
        to f (inr (inl t)) = inr (inl (not_awaited, subst (λ (xs : List Ident). Twice (Th front) xs f) (sym e) (inl t)))
        to f (inr (inr m)) = inr (inr (inr (inl m)))

        from : (f : Breach) → Parts front d f → BI front f
            ⊎ ((Th front x.name × (f ≡ x.pos ! rule.DeclaredTwice)) ⊎ Mis front d.what f)
        from f (inl z) = inl z
        from f (inr (inl t)) = inr (inl (elim (subst (λ (xs : List Ident). Twice (Th front) xs f) e t.1)
            [ inl y ↦ y | inr y ↦ absurd y ]))
        from f (inr (inr (inl t))) = absurd (formals_silent f t)
        from f (inr (inr (inr (inl m)))) = inr (inr m)
        from f (inr (inr (inr (inr o)))) = absurd (not_awaited o.0 o.1)

    -- the same of a list of names
    told_list : {b v : Result (Unit {0}) g.Reported}
        → Tells g j lawful (O front) (λ f. BI front f ⊎ Twice (Th front) (names_of d.what) f) b
        → Tells g j lawful (O front) (Mis front d.what) v → Told (d ∷ front) (beside g b v)
    told_list b c = told_parts d (λ f z. elim z
        [ inl y ↦ elim y [ inl w ↦ inl w | inr t ↦ inr (inl (not_awaited, t)) ] | inr m ↦ inr (inr (inr (inl m))) ])
        (λ f z. from f z) (beside_tells g j lawful (O front) b c)
      where
        from : (f : Breach) → Parts front d f → (BI front f ⊎ Twice (Th front) (names_of d.what) f) ⊎ Mis front d.what f
        from f (inl z) = inl (inl z)
        from f (inr (inl t)) = inl (inr t.1)
        from f (inr (inr (inl t))) = absurd (formals_silent f t)
        from f (inr (inr (inr (inl m)))) = inr m
        from f (inr (inr (inr (inr o)))) = absurd (not_awaited o.0 o.1)

  -- the name of a declaration of one name
  only_name : {x : Ident} {n : List ℕ} → (x.name ≡ n) ⊎ ⊥ → (y : Ident) × Among y (x ∷ []) × (y.name ≡ n)
  only_name {x = x} (inl e) = (x, here, e)
  only_name (inr z) = absurd z

  name_only : {x : Ident} {n : List ℕ} → (y : Ident) × Among y (x ∷ []) × (y.name ≡ n) → (x.name ≡ n) ⊎ ⊥
  name_only (y, here, e) = inl e
  name_only (y, later m, e) = elim m [ ]

  abbrev plain_one : Declaration → Resolved
  plain_one d = record { what = d; adds = nothing_added }

  -- ---- constants

  module _ (front : List Resolved) (c : Constant) (ds : List Declaration) where
    constant_exact : {s : Scope g.Reported} (k : KB front (OfConstant c ∷ ds) (Adding (c.name ∷ []) (Th front)) s)
        → Exactly g j lawful exports outside start taken awaited nested block said_constant front (OfConstant c)
        (constant g s (part g c.value))
    constant_exact {s = s} k names all = more_answers g j lawful (O front)
        (Repeat front (plain_one (OfConstant c)) ds refl refl refl k all)
        (constant_says g j lawful nested (T front) names (SetAt front (OfConstant c) names).there exports s
        (Read front (plain_one (OfConstant c)) ds refl refl refl k all) k.same.types c)

    declare_constant : {s : Scope g.Reported} {r : Result (Unit {0}) g.Reported}
        → KB front (OfConstant c ∷ ds) (Th front) s → Told front r
        → Stepped front (plain_one (OfConstant c)) ds (with_constant g (s, r) c)
    declare_constant k t = let b = begin_one g j lawful exports outside start taken awaited nested block takes (O front)
        front (OfConstant c) ds refl (Th front) c.name (c.name, here, refl) k in
        let h = constant_exact b.0 in (
          ended front (plain_one (OfConstant c)) ds refl refl refl b.0
              (mid_as g j lawful exports outside start taken awaited nested block takes front (plain_one (OfConstant c))
              ds (Adding (c.name ∷ []) (Th front)) (λ n z. only_name z) (λ n z. name_only z)
              (one_finished front (plain_one (OfConstant c)) ds refl refl refl b.0 c.name here
              (says_it front (plain_one (OfConstant c)) ds refl refl refl b.0 said_constant
              (λ v. meaning.Constant v) (λ v. refl) (λ v. refl) (λ v. refl) (λ v. refl) h) (λ n. ⊥)
              (begun_mid front (plain_one (OfConstant c)) ds refl refl refl b.0 (begin_name g _ c.name).0.own
              (no_made (begin_name g _ c.name).0) (enters_nothing (begin_name g _ c.name).0.own)
              (λ n. fails_it (λ z. elim z.1 [ ])) rules.constant_brings))),
          told_one front (plain_one (OfConstant c)) ds refl refl refl refl t b.1
              (telling front (plain_one (OfConstant c)) ds refl refl refl b.0 said_constant h),
          rules.is_added (stand_here front (plain_one (OfConstant c)) ds refl refl refl b.0) rules.constant_brings,
        )

  -- ---- types

  abbrev typed_one : Declaration → Added → Resolved
  typed_one d a = record { what = d; adds = a }

  abbrev ReadType : Scope g.Reported → TypeExpr → State TypeNo g.Reported → Type 0
  ReadType s e q = Read_type g j lawful exports s e q

  -- where types are known to be others
  abbrev at_types : Types → (Ident → Standing) → (List ℕ → Bool) → Setting
  at_types types names there = record { types = types; names = names; there = there }

  module _ (front : List Resolved) (d : TypeDecl) (ds : List Declaration) {s : Scope g.Reported}
      (k : KB front (OfType d ∷ ds) (Adding (d.name ∷ []) (Th front)) s) (q : State TypeNo g.Reported)
      (read : ReadType s d.of q) where
    abbrev one : Resolved
    one = typed_one (OfType d) read.adds

    abbrev names_in_type : Ident → Standing
    names_in_type = names_here front one ds refl refl refl k

    type_brings : Brings exports (SetAt front (OfType d) names_in_type) (Th front) (OfType d) read.adds
    type_brings = rules.type_brings (subst
        (λ (types : Types). Adds exports (at_types types names_in_type (SetAt front (OfType d) names_in_type).there)
        d.of read.adds) k.same.types
        (read.added names_in_type (SetAt front (OfType d) names_in_type).there
        (Read front one ds refl refl refl k (stand_here front one ds refl refl refl k))
        (frees_here front one ds refl refl refl k)))

    type_exact : Exactly g j lawful exports outside start taken awaited nested block (said_type read.adds) front
        (OfType d) q.1
    type_exact names all = more_answers g j lawful (O front) (Repeat front one ds refl refl refl k all)
        (of_type_says g j lawful nested (T front) names (SetAt front (OfType d) names).there exports s
        (Read front one ds refl refl refl k all) k.same.types d read.adds
        (subst (λ (types : Types). Answers g j (Repeats g j names s) (λ a k. k ≡ (read.adds, a))
        (λ (k : MadeType). IsTypeOf exports (at_types types names (SetAt front (OfType d) names).there) d.of k.0
        k.1) (BrokenType exports (at_types types names (SetAt front (OfType d) names).there) d.of) q.1) k.same.types
        (read.exact names (SetAt front (OfType d) names).there (Read front one ds refl refl refl k all)
        (frees_here front one ds refl refl refl k))))

    type_ended : {r b : Result (Unit {0}) g.Reported} → Told front r
        → Tells g j lawful (O front) (λ f. Th front d.name.name × (f ≡ d.name.pos ! rule.DeclaredTwice)) b
        → Stepped front one ds (
          finish_name q.0 d.name (type_meaning q.1 (brings_with d.of)),
          beside g r
              (beside g b (nothing_of q.1)),
        )
    type_ended t w = let h = type_exact in (
      ended front one ds refl refl refl k (mid_as g j lawful exports outside start taken awaited nested block takes
          front one ds (Adding (d.name ∷ []) (Th front)) (λ n z. only_name z) (λ n z. name_only z)
          (one_finished front one ds refl refl refl k d.name here
          (says_it front one ds refl refl refl k (said_type read.adds) (λ t. meaning.Type t (brings_with d.of))
          (λ t. refl) (λ t. refl) (λ t. refl) (λ t. refl) h) (λ n. ⊥)
          (begun_mid front one ds refl refl refl k read.own read.is read.enters read.constants type_brings))),
      told_one front one ds refl refl refl refl t w (telling front one ds refl refl refl k (said_type read.adds) h),
      rules.is_added (stand_here front one ds refl refl refl k) type_brings,
    )

  abbrev One : List Resolved → Declaration → List Declaration → State (Unit {0}) g.Reported → Type 0
  One front x ds st = (d : Resolved) × (d.what ≡ x) × Stepped front d ds st

  declare_type : (front : List Resolved) (d : TypeDecl) (ds : List Declaration)
      → {s : Scope g.Reported} {r : Result (Unit {0}) g.Reported} → KB front (OfType d ∷ ds) (Th front) s → Told front r
      → One front (OfType d) ds (with_type g (s, r) d)
  declare_type front d ds {s = s} k t = let b =
      begin_one g j lawful exports outside start taken awaited nested block takes (O front) front (OfType d) ds refl
      (Th front) d.name (d.name, here, refl) k in
      let read = type_read g j lawful exports d.of (begin_name g s d.name).0 b.0.same.withs in (
        typed_one (OfType d) read.adds,
        refl,
        type_ended front d ds b.0 (type_of g d.of (begin_name g s d.name).0) read t
            b.1,
      )

  -- ---- variables

  module _ (front : List Resolved) (v : Variables) (ds : List Declaration) {s : Scope g.Reported}
      (k : KB front (OfVariables v ∷ ds) (Adding v.names (Th front)) s) (q : State TypeNo g.Reported)
      (read : ReadType s v.of q) where
    abbrev many : Resolved
    many = typed_one (OfVariables v) read.adds

    abbrev names_in_list : Ident → Standing
    names_in_list = names_here front many ds refl refl refl k

    variables_bring : Brings exports (SetAt front (OfVariables v) names_in_list) (Th front) (OfVariables v) read.adds
    variables_bring = rules.variables_bring
        (subst (λ (types : Types). Adds exports
        (at_types types names_in_list (SetAt front (OfVariables v) names_in_list).there) v.of read.adds) k.same.types
        (read.added names_in_list (SetAt front (OfVariables v) names_in_list).there
        (Read front many ds refl refl refl k (stand_here front many ds refl refl refl k))
        (frees_here front many ds refl refl refl k)))

    variables_exact : Exactly g j lawful exports outside start taken awaited nested block (said_variables read.adds)
        front (OfVariables v) q.1
    variables_exact names all = more_answers g j lawful (O front) (Repeat front many ds refl refl refl k all)
        (variables_say g j lawful nested (T front) names (SetAt front (OfVariables v) names).there exports s
        (Read front many ds refl refl refl k all) k.same.types v read.adds
        (subst (λ (types : Types). Answers g j (Repeats g j names s) (λ a k. k ≡ (read.adds, a))
        (λ (k : MadeType). IsTypeOf exports (at_types types names (SetAt front (OfVariables v) names).there) v.of
        k.0 k.1) (BrokenType exports (at_types types names (SetAt front (OfVariables v) names).there) v.of) q.1)
        k.same.types (read.exact names (SetAt front (OfVariables v) names).there
        (Read front many ds refl refl refl k all) (frees_here front many ds refl refl refl k))))

    abbrev MidOf : (List ℕ → Type 0) → Scope g.Reported → Type 0
    MidOf done t = Mid front many ds refl refl refl k done t

    typed_mid : {done : List ℕ → Type 0} {t : Scope g.Reported} (r : Result TypeNo g.Reported) → MidOf done t
        → MidOf done (with_variable_type t r)
    typed_mid (Ok u) m = record {
      same = record {
        withs = m.same.withs;
        outer = m.same.outer;
        types = m.same.types;
        tables = m.same.tables;
        level = m.same.level;
      };
      own = m.own;
      once = m.once;
    }
    typed_mid (Err e) m = m

    -- its variables count as own
    abbrev OwnMade : (Scope g.Reported → TypeNo → Meaning) → Type 0
    OwnMade made = (t : Scope g.Reported) → t.types ≡ T (many ∷ front) → t.level ≡ start.level → (a : TypeNo)
        → is_own_variable start (made t a) ≡ true

    -- one variable after another
    finish_each : (made : Scope g.Reported → TypeNo → Meaning)
        → ((t : Scope g.Reported) (a : TypeNo) → (said_variables read.adds a).1 ≡ standing (made t a))
        → ((t : Scope g.Reported) (a : TypeNo) → standing_of (made t a) ≡ place.Taken) → OwnMade made
        → (xs : List Ident) → ((x : Ident) → Among x xs → Among x v.names)
        → (done : List ℕ → Type 0) {t : Scope g.Reported} → MidOf done t
        → MidOf (Adding xs done) (fold (λ t x. finish_name (with_variable_type t q.1) x (q.1 ▷ λ a. Ok (made t a))) t
        xs)
    finish_each made i z w [] a done m = m
    finish_each made i z w (x ∷ xs) a done {t = t} m =
        finish_each made i z w xs (λ y n. a y (later n)) (λ n. (x.name ≡ n) ⊎ done n)
        (one_finished front many ds refl refl refl k x (a x here)
        (says_it front many ds refl refl refl k (said_variables read.adds) (made t) (i t) (λ u. refl) (z t)
        (w t m.same.types m.same.level) variables_exact) done (typed_mid q.1 m))

    names_done : (n : List ℕ) → Adding v.names (λ n. ⊥) n → Named v.names n
    names_done n h = elim (added v.names (λ n. ⊥) n h) [ inl w ↦ w | inr z ↦ absurd z ]

    variables_ended : (made : Scope g.Reported → TypeNo → Meaning)
        → ((t : Scope g.Reported) (a : TypeNo) → (said_variables read.adds a).1 ≡ standing (made t a))
        → ((t : Scope g.Reported) (a : TypeNo) → standing_of (made t a) ≡ place.Taken) → OwnMade made
        → KB (many ∷ front) ds (Th (many ∷ front))
        (fold (λ t x. finish_name (with_variable_type t q.1) x (q.1 ▷ λ a. Ok (made t a))) q.0 v.names)
    variables_ended made i z w = ended front many ds refl refl refl k
        (mid_as g j lawful exports outside start taken awaited nested block takes front many ds
        (Adding v.names (Th front)) names_done (λ n h. adding_name v.names (λ n. ⊥) n h.0 h.1 h.2)
        (finish_each made i z w v.names (λ x m. m) (λ n. ⊥)
        (begun_mid front many ds refl refl refl k read.own read.is read.enters read.constants variables_bring)))

    variables_told : {b : Result (Unit {0}) g.Reported}
        → Tells g j lawful (O front) (λ f. BI front f ⊎ Twice (Th front) v.names f) b
        → Told (many ∷ front) (beside g b (nothing_of q.1))
    variables_told t = told_list front many ds refl refl refl t
        (telling front many ds refl refl refl k (said_variables read.adds) variables_exact)

    abbrev variable_made : Scope g.Reported → TypeNo → Meaning
    variable_made t a = meaning.Variable (record { home = t.types.home; number = length t.variables; of = a })

    abbrev local_made : Scope g.Reported → TypeNo → Meaning
    local_made t a = meaning.Local (record
        { level = t.level; number = length t.variables; kind = kind.Variable; of = a })

    own_made : (t : Scope g.Reported) → t.types ≡ T (many ∷ front) → t.level ≡ start.level → (a : TypeNo)
        → is_own_variable start (variable_made t a) ≡ true
    own_made t e l a = let z : t.types.home ≡ start.types.home = ap (λ (x : Types). x.home) e
        ∙ home_same g j exports outside start taken awaited nested block knows no_withs front in
        grind (arith, nat_tests, z)

    own_local : (t : Scope g.Reported) → t.types ≡ T (many ∷ front) → t.level ≡ start.level → (a : TypeNo)
        → is_own_variable start (local_made t a) ≡ true
    own_local t e l a = let z : t.level ≡ start.level = l in grind (arith, nat_tests, z)

    module_ended : {b : Result (Unit {0}) g.Reported}
        → Tells g j lawful (O front) (λ f. BI front f ⊎ Twice (Th front) v.names f) b
        → Stepped front many ds (fold (finished_variable q.1) q.0 v.names, beside g b (nothing_of q.1))
    module_ended t = (
      variables_ended variable_made (λ t a. refl) (λ t a. refl) own_made,
      variables_told t,
      rules.is_added (stand_here front many ds refl refl refl k) variables_bring,
    )

    local_ended : {b : Result (Unit {0}) g.Reported}
        → Tells g j lawful (O front) (λ f. BI front f ⊎ Twice (Th front) v.names f) b
        → Stepped front many ds (fold (finished_local q.1) q.0 v.names, beside g b (nothing_of q.1))
    local_ended t = (
      variables_ended local_made (λ t a. refl) (λ t a. refl) own_local,
      variables_told t,
      rules.is_added
          (stand_here front many ds refl refl refl k) variables_bring,
    )

  begun_list : (front : List Resolved) (v : Variables) (ds : List Declaration) {s : Scope g.Reported}
      {r : Result (Unit {0}) g.Reported} → KB front (OfVariables v ∷ ds) (Th front) s → Told front r
      → KB front (OfVariables v ∷ ds) (Adding v.names (Th front)) (fold (begun_name g) (s, r) v.names).0
      × Tells g j lawful (O front) (λ f. BI front f ⊎ Twice (Th front) v.names f)
      (fold (begun_name g) (s, r) v.names).1
  begun_list front v ds k t = begin_all g j lawful exports outside start taken awaited nested block takes (O front)
      front (OfVariables v) ds refl v.names (Th front) (λ x m. named_left (constants_in v.of) (x, m, refl)) k
      (told_here t)

  declare_variables : (front : List Resolved) (v : Variables) (ds : List Declaration)
      → {s : Scope g.Reported} {r : Result (Unit {0}) g.Reported} → KB front (OfVariables v ∷ ds) (Th front) s
      → Told front r → One front (OfVariables v) ds (with_variables g (s, r) v)
  declare_variables front v ds {s = s} {r = r} k t = let b = begun_list front v ds k t in
      let u = (fold (begun_name g) (s, r) v.names).0 in
      let read = type_read g j lawful exports v.of u b.0.same.withs in
      (typed_one (OfVariables v) read.adds, refl, module_ended front v ds b.0 (type_of g v.of u) read b.1)

  declare_locals : (front : List Resolved) (v : Variables) (ds : List Declaration)
      → {s : Scope g.Reported} {r : Result (Unit {0}) g.Reported} → KB front (OfVariables v ∷ ds) (Th front) s
      → Told front r → One front (OfVariables v) ds (with_locals g (s, r) v)
  declare_locals front v ds {s = s} {r = r} k t = let b = begun_list front v ds k t in
      let u = (fold (begun_name g) (s, r) v.names).0 in
      let read = type_read g j lawful exports v.of u b.0.same.withs in
      (typed_one (OfVariables v) read.adds, refl, local_ended front v ds b.0 (type_of g v.of u) read b.1)

  -- ---- names of formals

  abbrev HasField : Fields → List ℕ → Type 0
  HasField fs n = is_some (find_name n fs.names) ≡ true

  module _ (Q : Breach → Type 0) where
    -- names that are there
    record Lists (There : List ℕ → Type 0) (fs : Fields) : Type 0 where
      into : (n : List ℕ) → There n → HasField fs n
      from : (n : List ℕ) → HasField fs n → There n

    field_more : {There : List ℕ → Type 0} {fs : Fields} (x : Ident) (cells : ℕ) → Lists There fs
        → Lists (λ n. (x.name ≡ n) ⊎ There n) (record { names = enter_name x.name integer fs.names; cells = cells })
    field_more {There = There} {fs = fs} x cells l = record { into = λ n. (all n).0; from = λ n. (all n).1 }
      where
        all : (n : List ℕ) → ((x.name ≡ n) ⊎ There n
            → is_some (find_name n (enter_name x.name integer fs.names)) ≡ true)
            × (is_some (find_name n (enter_name x.name integer fs.names)) ≡ true → (x.name ≡ n) ⊎ There n)
        all = entered_all (λ n o. ((x.name ≡ n) ⊎ There n → is_some o ≡ true)
            × (is_some o ≡ true → (x.name ≡ n) ⊎ There n)) x.name integer fs.names ((λ z. refl), (λ e. inl refl))
            (λ n c. ((λ z. elim z [ inl e ↦ absurd (c e) | inr t ↦ l.into n t ]), (λ e. inr (l.from n e))))

    field_same : {There : List ℕ → Type 0} {fs : Fields} (x : Ident) → HasField fs x.name → Lists There fs
        → Lists (λ n. (x.name ≡ n) ⊎ There n) fs
    field_same {fs = fs} x h l = record {
      into = λ n z. elim z [ inl e ↦ subst (HasField fs) e h | inr t ↦ l.into n t ];
      from = λ n e. inr (l.from n e);
    }

    abbrev Tell : (Breach → Type 0) → Result (Unit {0}) g.Reported → Type 0
    Tell B r = Tells g j lawful Q B r

    abbrev NamedField : (List ℕ → Type 0) → Ident → Fields × Result (Unit {0}) g.Reported → Type 0
    NamedField There x q = Lists (λ n. (x.name ≡ n) ⊎ There n) q.0
        × Tell (λ f. There x.name × (f ≡ x.pos ! rule.DeclaredTwice)) q.1

    field_by : {There : List ℕ → Type 0} (fs : Fields) (x : Ident) (b : Bool) → is_some (find_name x.name fs.names) ≡ b
        → Lists There fs → NamedField There x
        (cond b (fs, report g x.pos rule.DeclaredTwice)
        (record { names = enter_name x.name integer fs.names; cells = plus fs.cells 0 }, Ok tt))
    field_by fs x true e l = (
      field_same x e l,
      tells (g.one (x.pos ! rule.DeclaredTwice))
          (accounts_as g j lawful Q (λ f q. (l.from x.name e, q)) (λ f z. z.1)
          (accounts_one g j lawful Q (x.pos ! rule.DeclaredTwice))),
    )
    field_by fs x false e l = (field_more x (plus fs.cells 0) l, silent (λ f z. clash (l.into x.name z.0) e))

    names_tell : (xs : List Ident) {There : List ℕ → Type 0} {fs : Fields} {r : Result (Unit {0}) g.Reported}
        {B : Breach → Type 0} → Lists There fs → Tell B r
        → Lists (Adding xs There) (fold (with_name g integer 0) (fs, r) xs).0
        × Tell (λ f. B f ⊎ Twice There xs f) (fold (with_name g integer 0) (fs, r) xs).1
    names_tell [] l t = (l, tells_as g j lawful Q (λ f b. inl b) (λ f z. elim z [ inl b ↦ b | inr b ↦ absurd b ]) t)
    names_tell (x ∷ xs) {fs = fs} l t = let q = field_by fs x (is_some (find_name x.name fs.names)) refl l in
        let z = names_tell xs q.0 (beside_tells g j lawful Q t q.1) in (
          z.0,
          tells_as g j lawful Q (λ f z. elim z
              [ inl y ↦ elim y [ inl b ↦ inl b | inr w ↦ inr (inl w) ] | inr b ↦ inr (inr b) ])
              (λ f z. elim z [ inl b ↦ inl (inl b) | inr y ↦ elim y [ inl w ↦ inl (inr w) | inr b ↦ inr b ] ]) z.1,
        )

    twice_join : (There : List ℕ → Type 0) (xs ys : List Ident) (f : Breach) → Twice There xs f
        ⊎ Twice (Adding xs There) ys f → Twice There (xs ++ ys) f
    twice_join There [] ys f (inl z) = absurd z
    twice_join There [] ys f (inr t) = t
    twice_join There (x ∷ xs) ys f (inl (inl h)) = inl h
    twice_join There (x ∷ xs) ys f (inl (inr t)) = inr (twice_join (λ n. (x.name ≡ n) ⊎ There n) xs ys f (inl t))
    twice_join There (x ∷ xs) ys f (inr t) = inr (twice_join (λ n. (x.name ≡ n) ⊎ There n) xs ys f (inr t))

    twice_split : (There : List ℕ → Type 0) (xs ys : List Ident) (f : Breach) → Twice There (xs ++ ys) f
        → Twice There xs f ⊎ Twice (Adding xs There) ys f
    twice_split There [] ys f t = inr t
    twice_split There (x ∷ xs) ys f (inl h) = inl (inl h)
    twice_split There (x ∷ xs) ys f (inr t) =
        elim (twice_split (λ n. (x.name ≡ n) ⊎ There n) xs ys f t) [ inl y ↦ inl (inr y) | inr y ↦ inr y ]

    sections_tell : (xs : List Section) {There : List ℕ → Type 0} {fs : Fields} {r : Result (Unit {0}) g.Reported}
        {B : Breach → Type 0} → Lists There fs → Tell B r
        → Tell (λ f. B f ⊎ Twice There (names_in xs) f) (fold (with_names g) (fs, r) xs).1
    sections_tell [] l t = tells_as g j lawful Q (λ f b. inl b) (λ f z. elim z [ inl b ↦ b | inr b ↦ absurd b ]) t
    sections_tell (x ∷ xs) {There = There} l t = let q = names_tell x.names l t in
        tells_as g j lawful Q (λ f z. elim z [
          | inl y ↦ elim y
              [ inl b ↦ inl b | inr w ↦ inr (twice_join There x.names (names_in xs) f (inl w)) ]
          | inr w ↦ inr
              (twice_join There x.names (names_in xs) f (inr w))
        ])
        (λ f z. elim z [
          | inl b ↦ inl (inl b)
          | inr y ↦ elim (twice_split There x.names (names_in xs) f y)
              [ inl w ↦ inl (inr w) | inr w ↦ inr w ]
        ])
        (sections_tell xs q.0 q.1)

    no_fields_listed : Lists (λ n. ⊥) no_fields
    no_fields_listed = record { into = λ n z. absurd z; from = λ n e. absurd cc }

    formals_tell : (h : Heading) → Tell (λ f. Twice (λ n. ⊥) (names_in h.formals) f) (formals_told g h)
    formals_tell h = tells_as g j lawful Q (λ f z. elim z [ inl b ↦ absurd b | inr t ↦ t ]) (λ f t. inr t)
        (sections_tell h.formals {B = λ f. ⊥} no_fields_listed (silent (λ f z. z)))

  -- ---- procedures

  one_type : {t u : TypeNo} → ◌≡◌ {A = Option TypeNo} (Some t) (Some u) → t ≡ u
  one_type e = cc

  module _ (level : nested ≡ not (start.level == 0)) (front : List Resolved) (h : Heading) (ds : List Declaration)
      {s : Scope g.Reported} (k : KB front (OfProcedure h ∷ ds) (Th front) s) where
    abbrev said : Made → Saids
    said = said_procedure nested (T front)

    abbrev ExactHeading : Result Made g.Reported → Type 0
    ExactHeading r = Exactly g j lawful exports outside start taken awaited nested block said front (OfProcedure h) r

    abbrev names_now : Ident → Standing
    names_now = standings g j exports outside start taken awaited nested block knows no_withs k

    stand_now : Stand front names_now
    stand_now = all_stand g j exports outside start taken awaited nested block knows no_withs k

    procedure_exact : ExactHeading (heading_of g s h)
    procedure_exact names all = more_answers g j lawful (O front)
        (repeating g j exports outside start taken awaited nested block knows no_withs k all)
        (procedure_says g j lawful nested (T front) names (SetAt front (OfProcedure h) names).there exports s
        (knowing g j exports outside start taken awaited nested block knows no_withs k all) k.same.types h)

    abbrev heading_adds : List Made → Added
    heading_adds ms = record { makes = ms; brings = [] }

    abbrev heading_with : List Made → Resolved
    heading_with ms = record { what = OfProcedure h; adds = heading_adds ms }

    theres_apart : {n : List ℕ} → taken n ≡ false → (IsThere front n → ⊥) → Th front n → ⊥
    theres_apart t c (inl u) = clash u t
    theres_apart t c (inr a) = c a

    declared_name : {n : List ℕ} → Declares (OfProcedure h) n → h.name.name ≡ n
    declared_name m = elim (name_only m) [ inl e ↦ e | inr z ↦ absurd z ]

    -- if its name is awaited, a heading of it was there
    abbrev HeadedHere : List ℕ → Type 0
    HeadedHere n = (t : TypeNo) → awaited n ≡ Some t → (IsHeaded front n → ⊥) → ⊥

    -- a name that is taken
    taken_ends : Th front h.name.name → HeadedHere h.name.name
        → KB (heading_with [] ∷ front) ds (Th (heading_with [] ∷ front)) s
    taken_ends th w = finish_end g j lawful exports outside start taken awaited nested block takes front
        (heading_with []) ds (Th front) k.within k.in_block k.left (λ n m. subst (Th front) (declared_name m) th)
        (λ n t. inr t)
        (record {
          same = record {
            withs = k.same.withs;
            outer = k.same.outer;
            types = k.same.types ∙ sym (no_types (T front));
            tables = k.same.tables;
            level = k.same.level;
          };
          own = λ n. is_other (λ t c m. theres_apart t c (subst (Th front) (declared_name m) th))
              (λ t c o m. elim m.1 [ ]) (λ t v q. subst HeadedHere q w t v) (k.own n);
          once = k.once;
        })

    -- a new name
    new_ends : (ms : List Made) (m : Known g.Reported)
        → Saying g j exports outside start taken awaited nested block front (heading_with ms) m
        → (Th front h.name.name → ⊥) → {t : Scope g.Reported}
        → Same g j exports outside start taken awaited nested block (T (heading_with ms ∷ front)) t → t.own ≡ s.own
        → KB (heading_with ms ∷ front) ds (Th (heading_with ms ∷ front)) (with_known h.name.name m t)
    new_ends ms m say new {t = t} same e =
        finish_end g j lawful exports outside start taken awaited nested block takes front (heading_with ms) ds
        (λ n. (h.name.name ≡ n) ⊎ Th front n) k.within k.in_block k.left (λ n z. inl (declared_name z))
        (λ n z. elim z [ inl q ↦ inl (h.name, here, q) | inr w ↦ inr w ])
        (record {
          same = record {
            withs = same.withs;
            outer = same.outer;
            types = same.types;
            tables = same.tables;
            level =
                same.level;
          };
          own = entered_all (λ n o. MidAs g j lawful exports outside start taken awaited nested block takes front
              (heading_with ms) ds (λ n. (h.name.name ≡ n) ⊎ Th front n) (Declares (OfProcedure h)) n o) h.name.name m
              t.own
              (is_done m (no_taken (taken h.name.name) refl) (λ a. new (inr a)) (h.name, here, refl)
              (h.name, here, refl) say)
              (λ n c. is_other (λ u w z. c (declared_name z)) (λ t w o z. elim z.1 [ ]) (λ t v q. absurd (c q))
              (subst (λ (own : List (List ℕ × Known g.Reported)). KnownAs g j exports outside start taken awaited
              nested block front (λ n. (h.name.name ≡ n) ⊎ Th front n) n (find_name n own)) (sym e)
              (widen g j lawful exports outside start taken awaited nested block takes h.name (λ q. absurd (c q))
              (k.own n))));
          once = λ o. once_more h.name.name m (subst (λ (own : List (List ℕ × Known g.Reported)). AreOnce own) (sym e)
              (k.once o));
        })
      where
        no_taken : (b : Bool) → taken h.name.name ≡ b → taken h.name.name ≡ false
        no_taken true q = absurd (new (inl q))
        no_taken false q = q

    -- a name that is awaited
    awaited_ends : (p : Procedure) → taken h.name.name ≡ true
        → Some (known.Declared Here (Ok (meaning.Procedure p))) ≡ find_name h.name.name start.own
        → KB (heading_with [] ∷ front) ds (Th (heading_with [] ∷ front))
        (with_known h.name.name (known.Headed (Ok (meaning.Procedure p))) s)
    awaited_ends p y e = finish_end g j lawful exports outside start taken awaited nested block takes front
        (heading_with []) ds (Th front) k.within k.in_block k.left (λ n m. subst (Th front) (declared_name m) (inl y))
        (λ n t. inr t)
        (record {
          same = record {
            withs = k.same.withs;
            outer = k.same.outer;
            types = k.same.types ∙ sym (no_types (T front));
            tables = k.same.tables;
            level = k.same.level;
          };
          own = entered_all (λ n o. MidAs g j lawful exports outside start taken awaited nested block takes front
              (heading_with []) ds (Th front) (Named (h.name ∷ [])) n o) h.name.name
              (known.Headed (Ok (meaning.Procedure p))) s.own
              (is_headed p y (heading_with [], here, refl) e)
              (λ n c. is_other (λ u w z. c (declared_name z)) (λ t w o z. elim z.1 [ ]) (λ t v q. absurd (c q))
              (k.own n));
          once = λ o. once_more h.name.name (known.Headed (Ok (meaning.Procedure p))) (k.once o);
        })

    -- what its heading means
    says_heading : (ms : List Made) (made : Made → Meaning) → ((m : Made) → (said m).1 ≡ standing (made m))
        → ((m : Made) → is_own_variable start (made m) ≡ false) → {r : Result Made g.Reported} → ExactHeading r
        → ((m : Made) → r ≡ Ok m → ms ≡ m ∷ [])
        → Saying g j exports outside start taken awaited nested block front (heading_with ms)
        (known.Headed (heading_means nested (r ▷ λ m. Ok (made m))))
    says_heading ms made i w x e = saying_heading g j lawful exports outside start taken awaited nested block said front
        (heading_with ms) made i x (λ m z. ap (λ (ms : List Made). heading_adds ms) (e m z)) refl (λ m. w m) stand_now

    types_next : next_type (T front) ≡ next_type s.types
    types_next = ap (λ (t : Types). next_type t) (sym k.same.types)

    abbrev module_made : (home number : ℕ) → Made → Meaning
    module_made home n m = meaning.Procedure (record { home = home; number = n; heading = next_type s.types })

    abbrev nested_made : (number : ℕ) → Made → Meaning
    nested_made n m = meaning.LocalProcedure (record { level = s.level; number = n; heading = next_type s.types })

    module_is : nested ≡ false → (home n : ℕ) (m : Made) → (said m).1 ≡ standing (module_made home n m)
    module_is e home n m = ap (λ (b : Bool). things.Known (procedure b (next_type (T front)))) e
        ∙ ap (λ (t : TypeNo). things.Known (things.AProcedure t)) types_next

    nested_is : nested ≡ true → (n : ℕ) (m : Made) → (said m).1 ≡ standing (nested_made n m)
    nested_is e n m = ap (λ (b : Bool). things.Known (procedure b (next_type (T front)))) e
        ∙ ap (λ (t : TypeNo). things.Known (things.ANested t)) types_next

    same_made : (m : Made) → Same g j exports outside start taken awaited nested block
        (T (heading_with (m ∷ []) ∷ front)) (with_shape s m)
    same_made m = record {
      withs = k.same.withs;
      outer = k.same.outer;
      types =
          ap (λ (t : Types). with_types t (m ∷ [])) k.same.types;
      tables = k.same.tables;
      level = k.same.level;
    }

    same_none : Same g j exports outside start taken awaited nested block (T (heading_with [] ∷ front)) s
    same_none = record {
      withs = k.same.withs;
      outer = k.same.outer;
      types = k.same.types ∙ sym (no_types (T front));
      tables = k.same.tables;
      level = k.same.level;
    }

    abbrev Ended : List Made → Scope g.Reported → Type 0
    Ended ms t = KB (heading_with ms ∷ front) ds (Th (heading_with ms ∷ front)) t

    one_only : {m n : Made} → ◌≡◌ {A = Result Made g.Reported} (Ok m) (Ok n) → m ∷ [] ≡ n ∷ []
    one_only e = cc

    made_ends : (n : ℕ) (m : Made) → ExactHeading (Ok m) → (Th front h.name.name → ⊥) → (b : Bool) → (s.level == 0) ≡ b
        → nested ≡ not b → Ended (m ∷ []) (new_procedure (with_shape s m) h.name.name n (Ok (next_type s.types)))
    made_ends n m x new true e q = subst (λ (b : Bool). Ended (m ∷ [])
        (cond b (with_known h.name.name (known.Headed
        (Ok (meaning.Procedure (record {
          home = s.types.home;
          number = length s.procedures;
          heading =
              next_type s.types;
        })))) (with_procedure_type (with_shape s m) (Ok (next_type s.types))))
        (with_known h.name.name (known.Headed (Ok (nested_made n m))) (with_shape s m)))) (sym e)
        (new_ends (m ∷ []) (known.Headed (Ok (module_made s.types.home (length s.procedures) m)))
        (says_heading (m ∷ []) (module_made s.types.home (length s.procedures))
        (module_is q s.types.home (length s.procedures)) (λ m. refl) x (λ w z. one_only z)) new
        (record {
          withs = (same_made m).withs;
          outer = (same_made m).outer;
          types = (same_made m).types;
          tables =
              (same_made m).tables;
          level = (same_made m).level;
        }) refl)
    made_ends n m x new false e q = subst (λ (b : Bool). Ended (m ∷ [])
        (cond b (with_known h.name.name (known.Headed
        (Ok (meaning.Procedure (record {
          home = s.types.home;
          number = length s.procedures;
          heading =
              next_type s.types;
        })))) (with_procedure_type (with_shape s m) (Ok (next_type s.types))))
        (with_known h.name.name (known.Headed (Ok (nested_made n m))) (with_shape s m)))) (sym e)
        (new_ends (m ∷ []) (known.Headed (Ok (nested_made n m)))
        (says_heading (m ∷ []) (nested_made n) (nested_is q n) (λ m. refl) x (λ w z. one_only z)) new (same_made m)
        refl)

    abbrev Headed_says : List Made → Result Meaning (Meaningless g.Reported) → Type 0
    Headed_says ms r = Saying g j exports outside start taken awaited nested block front (heading_with ms)
        (known.Headed r)

    none_ends : (n : ℕ) (r : g.Reported) → ExactHeading (Err r) → (Th front h.name.name → ⊥) → (b : Bool)
        → (s.level == 0) ≡ b → nested ≡ not b → Ended [] (new_procedure s h.name.name n (Err r))
    none_ends n r x new true e q = subst (λ (b : Bool). Ended []
        (cond b (with_known h.name.name (known.Headed (Err (meaningless.Headless false r))) s)
        (with_known h.name.name (known.Headed (Err (meaningless.Headless true r))) s))) (sym e)
        (new_ends [] (known.Headed (Err (meaningless.Headless false r)))
        (subst (λ (b : Bool). Headed_says [] (Err (meaningless.Headless b r))) q
        (says_heading [] (module_made 0 0) (module_is q 0 0) (λ m. refl) x (λ m z. absurd cc))) new same_none refl)
    none_ends n r x new false e q = subst (λ (b : Bool). Ended []
        (cond b (with_known h.name.name (known.Headed (Err (meaningless.Headless false r))) s)
        (with_known h.name.name (known.Headed (Err (meaningless.Headless true r))) s))) (sym e)
        (new_ends [] (known.Headed (Err (meaningless.Headless true r)))
        (subst (λ (b : Bool). Headed_says [] (Err (meaningless.Headless b r))) q
        (says_heading [] (nested_made n) (nested_is q n) (λ m. refl) x (λ m z. absurd cc))) new same_none refl)

    level_same : nested ≡ not (s.level == 0)
    level_same = level ∙ ap (λ (l : ℕ). not (l == 0)) (sym k.same.level)

    -- what is reported
    telling_heading : {r : Result Made g.Reported} → ExactHeading r
        → Tells g j lawful (O front) (Mis front (OfProcedure h)) (r ▷ λ m. Ok tt)
    telling_heading x = says_tells g j lawful exports outside start taken awaited nested block said front
        (heading_with []) x stand_now

    new_waits : (Th front h.name.name → ⊥) → NotAwaited front (OfProcedure h)
    new_waits new t (rules.is_awaited v c) = by (taken h.name.name) refl
      where
        by : (b : Bool) → taken h.name.name ≡ b → ⊥
        by true q = new (inl q)
        by false q = unawaited g j lawful exports outside start taken awaited nested block takes h.name.name q t v

    taken_waits : HeadedHere h.name.name → NotAwaited front (OfProcedure h)
    taken_waits w t (rules.is_awaited v c) = w t v c

    told_new : (ms : List Made) {r b v : Result (Unit {0}) g.Reported} → (Th front h.name.name → ⊥) → Told front r
        → Tells g j lawful (O front) (λ f. Twice (λ n. ⊥) (names_in h.formals) f) b
        → Tells g j lawful (O front) (Mis front (OfProcedure h)) v
        → Told (heading_with ms ∷ front) (beside g r (beside g b v))
    told_new ms new a b c = told_parts (heading_with ms)
        (λ f z. elim z [ inl y ↦ inl y | inr y ↦ inr (inr (elim y [ inl w ↦ inl w | inr m ↦ inr (inl m) ])) ])
        (λ f z. back f z) (beside_tells g j lawful (O front) (told_here a) (beside_tells g j lawful (O front) b c))
      where
        back : (f : Breach) → Parts front (heading_with ms) f → BI front f
            ⊎ (Twice (λ n. ⊥) (names_in h.formals) f ⊎ Mis front (OfProcedure h) f)
        back f (inl z) = inl z
        back f (inr (inl (c, inl t))) = absurd (new t.0)
        back f (inr (inl (c, inr t))) = absurd t
        back f (inr (inr (inl t))) = inr (inl t)
        back f (inr (inr (inr (inl m)))) = inr (inr m)
        back f (inr (inr (inr (inr o)))) = absurd (new_waits new o.0 o.1)

    told_taken : {r b v : Result (Unit {0}) g.Reported} → Th front h.name.name → NotAwaited front (OfProcedure h)
        → Told front r → Tells g j lawful (O front) (λ f. Twice (λ n. ⊥) (names_in h.formals) f) b
        → Tells g j lawful (O front) (Mis front (OfProcedure h)) v
        → Told (heading_with [] ∷ front) (beside g r (beside g b (beside g v (report g h.name.pos rule.DeclaredTwice))))
    told_taken th n a b c = told_parts (heading_with []) (λ f z. to f z) (λ f z. back f z)
        (beside_tells g j lawful (O front) (told_here a)
        (beside_tells g j lawful (O front) b (beside_tells g j lawful (O front) c
        (tells (g.one (h.name.pos ! rule.DeclaredTwice))
        (accounts_one g j lawful (O front) (h.name.pos ! rule.DeclaredTwice))))))
      where
        to : (f : Breach) → BI front f ⊎ (Twice (λ n. ⊥) (names_in h.formals) f
            ⊎ (Mis front (OfProcedure h) f ⊎ (f ≡ h.name.pos ! rule.DeclaredTwice))) → Parts front (heading_with []) f
        to f (inl z) = inl z
        to f (inr (inl t)) = inr (inr (inl t))
        to f (inr (inr (inl m))) = inr (inr (inr (inl m)))
        to f (inr (inr (inr e))) = inr (inl (n, inl (th, e)))

        back : (f : Breach) → Parts front (heading_with []) f → BI front f
            ⊎ (Twice (λ n. ⊥) (names_in h.formals) f
            ⊎ (Mis front (OfProcedure h) f ⊎ (f ≡ h.name.pos ! rule.DeclaredTwice)))
        back f (inl z) = inl z
        back f (inr (inl (c, inl t))) = inr (inr (inr t.1))
        back f (inr (inl (c, inr t))) = absurd t
        back f (inr (inr (inl t))) = inr (inl t)
        back f (inr (inr (inr (inl m)))) = inr (inr (inl m))
        back f (inr (inr (inr (inr o)))) = absurd (n o.0 o.1)

    -- ---- a heading that is awaited

    abbrev Headings : (Ident → Standing) → Result Made g.Reported → Type 0
    Headings names r = Answers g j (O front) (λ (m : Made) (x : Signature). m ≡ procedure_made x)
        (IsHeading (T front) names exports h) (BrokenHeading (T front) names exports h) r

    heading_exact : (names : Ident → Standing) → Stand front names → Headings names (heading_of g s h)
    heading_exact names all = more_answers g j lawful (O front)
        (repeating g j exports outside start taken awaited nested block knows no_withs k all)
        (subst (λ (types : Types). Answers g j (Repeats g j names s)
        (λ (m : Made) (x : Signature). m ≡ procedure_made x) (IsHeading types names exports h)
        (BrokenHeading types names exports h) (heading_of g s h)) k.same.types
        (heading_answers g j lawful names exports s
        (knowing g j exports outside start taken awaited nested block knows no_withs k all) h))

    module _ (p : Procedure) where
      abbrev Here_fails : (Ident → Standing) → Breach → Type 0
      Here_fails names f = Misdeclares exports (SetAt front (OfProcedure h) names) (OfProcedure h) f
          ⊎ Differs exports (SetAt front (OfProcedure h) names) p.heading (OfProcedure h) f

      abbrev Told_of : Result Made g.Reported → Result (Unit {0}) g.Reported
      Told_of r = r ▷ reported_of_other g (T front) h.name.pos p

      in_heading_of : {names : Ident → Standing} {f : Breach}
          → Misdeclares exports (SetAt front (OfProcedure h) names) (OfProcedure h) f
          → BrokenHeading (T front) names exports h f
      in_heading_of (rules.in_heading b) = b

      module _ {names : Ident → Standing} {x : Signature} (i : IsHeading (T front) names exports h x)
          (u : (y : Signature) → IsHeading (T front) names exports h y → y ≡ x)
          (n : (f : Breach) → BrokenHeading (T front) names exports h f → ⊥) where
        agrees_so : Agrees (T front) names exports p.heading h → IsMade (T front) p.heading (shape.Procedure x)
        agrees_so (agreements.agrees {s = y} a m) =
            subst (λ (y : Signature). IsMade (T front) p.heading (shape.Procedure y)) (u y a) m

        agreeing_silent : IsMade (T front) p.heading (shape.Procedure x) → (f : Breach) → Here_fails names f → ⊥
        agreeing_silent m f (inl b) = n f (in_heading_of b)
        agreeing_silent m f (inr (rules.differs (agreements.other_heading a c))) = c (agreements.agrees i m)

        differing : (f : Breach) → Here_fails names f → f ≡ h.name.pos ! rule.OtherHeading
        differing f (inl b) = absurd (n f (in_heading_of b))
        differing _ (inr (rules.differs (agreements.other_heading a c))) = refl

        differs_so : (IsMade (T front) p.heading (shape.Procedure x) → ⊥) → (f : Breach)
            → f ≡ h.name.pos ! rule.OtherHeading → Here_fails names f
        differs_so c f e = inr (subst (Differs exports (SetAt front (OfProcedure h) names) p.heading (OfProcedure h))
            (sym e) (rules.differs (agreements.other_heading i (λ a. c (agrees_so a)))))

        agreement_told : {b : Bool} → Decided (IsMade (T front) p.heading (shape.Procedure x)) b
            → Tells g j lawful (O front) (Here_fails names)
            (reported_where g (not b) h.name.pos rule.OtherHeading (Ok tt))
        agreement_told (holds m) = silent (agreeing_silent m)
        agreement_told (fails_it c) = tells (g.one (h.name.pos ! rule.OtherHeading))
            (accounts_as g j lawful (O front) (differs_so c) differing
            (accounts_one g j lawful (O front) (h.name.pos ! rule.OtherHeading)))

      awaited_tells : {names : Ident → Standing} {r : Result Made g.Reported} → Headings names r
          → Tells g j lawful (O front) (Here_fails names) (Told_of r)
      awaited_tells {names = names} (means m x e i u n) =
          subst (λ (m : Made). Tells g j lawful (O front) (Here_fails names) (Told_of (Ok m))) (sym e)
          (agreement_told i u n (agreement_decided (T front) p.heading x))
      awaited_tells {names = names} (refuses r c n) =
          tells r (accounts_as g j lawful (O front) (λ f b. inl (rules.in_heading b)) only c)
        where
          only : (f : Breach) → Here_fails names f → BrokenHeading (T front) names exports h f
          only f (inl b) = in_heading_of b
          only f (inr (rules.differs (agreements.other_heading {s = y} a c))) = absurd (n y a)

      all_tell : {r : Result Made g.Reported} → ((names : Ident → Standing) → Stand front names → Headings names r)
          → Waits front p.heading (OfProcedure h)
          → Tells g j lawful (O front) (λ f. Mis front (OfProcedure h) f ⊎ Other front (OfProcedure h) f) (Told_of r)
      all_tell {r = r} a w = tells_as g j lawful (O front) (λ f z. to f z) (λ f z. from f z)
          (tells_all g j lawful (O front) {I = (names : Ident → Standing) × Stand front names} {B = λ i. Here_fails i.0}
          (Told_of r) (names_now, stand_now) (λ i. awaited_tells (a i.0 i.1)))
        where
          to : (f : Breach) → (i : (names : Ident → Standing) × Stand front names) × Here_fails i.0 f
              → Mis front (OfProcedure h) f ⊎ Other front (OfProcedure h) f
          to f (i, inl m) = inl (i, m)
          to f (i, inr d) = inr (p.heading, w, (i, d))

          same_type : {t : TypeNo} → Waits front t (OfProcedure h) → Waits front p.heading (OfProcedure h)
              → t ≡ p.heading
          same_type (rules.is_awaited v c) (rules.is_awaited q d) = one_type (sym v ∙ q)

          from : (f : Breach) → Mis front (OfProcedure h) f ⊎ Other front (OfProcedure h) f
              → (i : (names : Ident → Standing) × Stand front names) × Here_fails i.0 f
          from f (inl (i, m)) = (i, inl m)
          from f (inr (t, v, (i, d))) = (
            i,
            inr
                (subst (λ (t : TypeNo). Differs exports (SetAt front (OfProcedure h) i.0) t (OfProcedure h) f)
                (same_type v w) d),
          )

      told_awaited : {r b : Result (Unit {0}) g.Reported} {made : Result Made g.Reported}
          → Waits front p.heading (OfProcedure h) → Told front r
          → Tells g j lawful (O front) (λ f. Twice (λ n. ⊥) (names_in h.formals) f) b
          → ((names : Ident → Standing) → Stand front names → Headings names made)
          → Told (heading_with [] ∷ front) (beside g r (beside g b (made ▷ reported_of_other g s.types h.name.pos p)))
      told_awaited {r = r} {b = b} {made = made} w a c x =
          subst (λ (types : Types). Told (heading_with [] ∷ front)
          (beside g r (beside g b (made ▷ reported_of_other g types h.name.pos p)))) (sym k.same.types)
          (told_parts (heading_with []) (λ f z. elim z [ inl y ↦ inl y | inr y ↦ inr (inr y) ]) (λ f z. back f z)
          (beside_tells g j lawful (O front) (told_here a) (beside_tells g j lawful (O front) c (all_tell x w))))
        where
          back : (f : Breach) → Parts front (heading_with []) f → BI front f
              ⊎ (Twice (λ n. ⊥) (names_in h.formals) f ⊎ (Mis front (OfProcedure h) f ⊎ Other front (OfProcedure h) f))
          back f (inl z) = inl z
          back f (inr (inl z)) = absurd (z.0 p.heading w)
          back f (inr (inr y)) = inr y

    -- all of it
    abbrev DoneHeading : State (Unit {0}) g.Reported → Result (Unit {0}) g.Reported → Type 0
    DoneHeading st r = (ms : List Made) × KB (heading_with ms ∷ front) ds (Th (heading_with ms ∷ front)) st.0
        × Told (heading_with ms ∷ front) (beside g r (beside g (formals_told g h) st.1)) × Add front (heading_with ms)

    -- the type that it makes
    abbrev BringsHere : Added → Type 0
    BringsHere a = Brings exports (SetAt front (OfProcedure h) names_now) (Th front) (OfProcedure h) a

    heading_brings : {a : Added} {s : Standing} → (Th front h.name.name → ⊥)
        → Says exports (SetAt front (OfProcedure h) names_now) nested (OfProcedure h) a s → BringsHere a
    heading_brings new (rules.a_procedure i) = rules.procedure_brings new i

    made_brings : (m : Made) → (Th front h.name.name → ⊥)
        → Answers g j (O front) (λ a k. k ≡ said a)
        (λ k. Says exports (SetAt front (OfProcedure h) names_now) nested (OfProcedure h) k.0 k.1)
        (Misdeclares exports (SetAt front (OfProcedure h) names_now) (OfProcedure h)) (Ok m)
        → BringsHere (heading_adds (m ∷ []))
    made_brings m new (means _ k i z u n) = subst BringsHere (ap (λ (x : Saids). x.0) i) (heading_brings new z)

    none_brings : (r : g.Reported) → Answers g j (O front) (λ a k. k ≡ said a)
        (λ k. Says exports (SetAt front (OfProcedure h) names_now) nested (OfProcedure h) k.0 k.1)
        (Misdeclares exports (SetAt front (OfProcedure h) names_now) (OfProcedure h)) (Err r) → BringsHere nothing_added
    none_brings r (refuses _ c n) = rules.no_heading
        (λ x i. n (type_added (procedure_made x), things.Known (procedure nested (next_type (T front))))
        (rules.a_procedure i))

    new_by : (n : ℕ) (made : Result Made g.Reported) → ExactHeading made → (Th front h.name.name → ⊥)
        → {r : Result (Unit {0}) g.Reported} → Told front r → DoneHeading (with_new s h.name.name n made) r
    new_by n (Ok m) x new t = (
      m ∷ [],
      made_ends n m x new (s.level == 0) refl level_same,
      told_new (m ∷ []) new t
          (formals_tell (O front) h) (telling_heading x),
      rules.is_added stand_now
          (made_brings m new (x names_now stand_now)),
    )
    new_by n (Err e) x new t = (
      [],
      none_ends n e x new (s.level == 0) refl level_same,
      told_new [] new t
          (formals_tell (O front) h) (telling_heading x),
      rules.is_added stand_now
          (none_brings e (x names_now stand_now)),
    )

    headed_by : (n : ℕ) (made : Result Made g.Reported) → ExactHeading made
        → ((names : Ident → Standing) → Stand front names → Headings names made) → {pl : Place}
        → PlaceIs g j lawful exports outside start taken awaited nested block takes front (Th front) k.includes
        h.name.name (k.in_block h.name.name (OfProcedure h, here, (h.name, here, refl))) pl
        → {r : Result (Unit {0}) g.Reported} → Told front r → DoneHeading (headed_as g s h n made pl) r
    headed_by n made x y (place_free new) t = new_by n made x new t
    headed_by n made x y (place_taken th w) t = (
      [],
      taken_ends th w,
      told_taken th (taken_waits w) t (formals_tell (O front) h) (telling_heading x),
      rules.is_added stand_now (rules.name_there th),
    )
    headed_by n made x y (place_awaited p q v c e) t = (
      [],
      awaited_ends p q e,
      told_awaited p (rules.is_awaited v c) t (formals_tell (O front) h) y,
      rules.is_added
          stand_now (rules.name_there (inl q)),
    )

    declare_procedure : (n : ℕ) {r : Result (Unit {0}) g.Reported} → Told front r → (ms : List Made)
        × Stepped front (heading_with ms) ds ((with_heading g s n h).0, beside g r (with_heading g s n h).1)
    declare_procedure n t = let q = headed_by n (heading_of g s h) procedure_exact heading_exact
        (place_is g j lawful exports outside start taken awaited nested block takes front (Th front) k.includes
        h.name.name (k.in_block h.name.name (OfProcedure h, here, (h.name, here, refl))) (λ d i t c. theres_apart t c)
        (k.own h.name.name)) t in (q.0, (q.1, q.2, q.3))

  -- ---- one declaration after another

  abbrev AddAll : List Resolved → Type 0
  AddAll = AllAdded start.types exports outside taken awaited nested block

  abbrev Ran : List Resolved → List Declaration → List Declaration → State (Unit {0}) g.Reported → Type 0
  Ran front xs rest st = (fs : List Resolved) × (in_order fs ≡ in_order front ++ xs)
      × (KB fs rest (Th fs) st.0 × Told fs st.1 × (AddAll front → AddAll fs))

  ran_nothing : {front : List Resolved} {rest : List Declaration} {s : Scope g.Reported}
      {r : Result (Unit {0}) g.Reported} → KB front rest (Th front) s → Told front r → Ran front [] rest (s, r)
  ran_nothing {front = front} k t = (front, sym (nil_right (in_order front)), (k, t, λ a. a))

  in_order_more : (front fs : List Resolved) (d : Resolved) (xs : List Declaration) {x : Declaration} → d.what ≡ x
      → in_order fs ≡ in_order (d ∷ front) ++ xs → in_order fs ≡ in_order front ++ x ∷ xs
  in_order_more front fs d xs e q = q ∙ append_assoc (in_order front) (d.what ∷ []) xs
      ∙ ap (λ (x : Declaration). in_order front ++ x ∷ xs) e

  -- a section
  module _ {X : Type 0} (f : State (Unit {0}) g.Reported → X → State (Unit {0}) g.Reported) (of : X → Declaration) where
    abbrev Steps : List X → Type 0
    Steps xs = (x : X) → Among x xs → (front : List Resolved) (ds : List Declaration) (s : Scope g.Reported)
        (r : Result (Unit {0}) g.Reported) → KB front (of x ∷ ds) (Th front) s → Told front r
        → One front (of x) ds (f (s, r) x)

    section_ran : (xs : List X) → Steps xs
        → (front : List Resolved) (rest : List Declaration) {s : Scope g.Reported} {r : Result (Unit {0}) g.Reported}
        → KB front (map of xs ++ rest) (Th front) s → Told front r → Ran front (map of xs) rest (fold f (s, r) xs)
    section_ran [] h front rest k t = ran_nothing k t
    section_ran (x ∷ xs) h front rest {s = s} {r = r} k t = let q = h x here front (map of xs ++ rest) s r k t in
        let z = section_ran xs (λ y m. h y (later m)) (q.0 ∷ front) rest q.2.0 q.2.1 in
        (z.0, in_order_more front z.0 q.0 (map of xs) q.1 z.1, (z.2.0, z.2.1, λ a. z.2.2 (rules.each_added q.2.2 a)))

  -- ---- all of a block

  module _ (level : nested ≡ not (start.level == 0)) (ends : List ℕ) where
    variables_ran : (vs : List Variables) (front : List Resolved) (rest : List Declaration) {s : Scope g.Reported}
        {r : Result (Unit {0}) g.Reported} → KB front (map OfVariables vs ++ rest) (Th front) s → Told front r
        → Ran front (map OfVariables vs) rest (with_variables_of g (s, r) vs)
    variables_ran vs front rest {s = s} {r = r} k t = by (s.level == 0)
      where
        by : (b : Bool) → Ran front (map OfVariables vs) rest
            (cond b (fold (with_variables g) (s, r) vs) (fold (with_locals g) (s, r) vs))
        by true = section_ran (with_variables g) OfVariables vs
            (λ v m front ds s r k t. declare_variables front v ds k t) front rest k t
        by false = section_ran (with_locals g) OfVariables vs (λ v m front ds s r k t. declare_locals front v ds k t)
            front rest k t

    procedure_ran : (h : Heading) (n : ℕ) (front : List Resolved) (rest : List Declaration) {s : Scope g.Reported}
        {r : Result (Unit {0}) g.Reported} → KB front (OfProcedure h ∷ rest) (Th front) s → Told front r
        → Ran front (OfProcedure h ∷ []) rest ((with_heading g s n h).0, beside g r (with_heading g s n h).1)
    procedure_ran h n front rest k t = let q = declare_procedure level front h rest k n t in (
      record { what = OfProcedure h; adds = record { makes = q.0; brings = [] } }
          ∷ front,
      refl,
      (q.1.0, q.1.1, λ a. rules.each_added q.1.2 a),
    )

    layer_ran : (y : Decl-F Decl Block) (front : List Resolved) (rest : List Declaration) (n : ℕ) {s : Scope g.Reported}
        {r : Result (Unit {0}) g.Reported} → KB front (declared_by y ++ rest) (Th front) s → Told front r
        → Ran front (declared_by y) rest ((decl_layer g ends (s, r, n) y).0, (decl_layer g ends (s, r, n) y).1)
    layer_ran (decl.Constants cs) front rest n k t =
        section_ran (with_constant g) OfConstant cs
        (λ c m front ds s r k t. (plain_one (OfConstant c), refl, declare_constant front c ds k t)) front rest k t
    layer_ran (decl.Types ts) front rest n k t =
        section_ran (with_type g) OfType ts (λ d m front ds s r k t. declare_type front d ds k t) front rest k t
    layer_ran (decl.Variables vs) front rest n k t = variables_ran vs front rest k t
    layer_ran (decl.Procedure h b) front rest n k t = procedure_ran h n front rest k t

    all_ran : (ds : List Decl) (front : List Resolved) (n : ℕ) {s : Scope g.Reported} {r : Result (Unit {0}) g.Reported}
        → KB front (declarations_of ds) (Th front) s → Told front r
        → Ran front (declarations_of ds) [] (
          (fold (with_decl g ends) (s, r, n) ds).0,
          (fold (with_decl g ends) (s, r, n) ds).1,
        )
    all_ran [] front n k t = ran_nothing k t
    all_ran (d ∷ ds) front n k t = let q = layer_ran (out-Decl d) front (declarations_of ds) n k t in
        let z = all_ran ds q.0 _ q.2.0 q.2.1 in (
          z.0,
          z.1 ∙ ap (λ (xs : List Declaration). xs ++ declarations_of ds) q.1
              ∙ append_assoc (in_order front) (declared_by (out-Decl d)) (declarations_of ds),
          (z.2.0, z.2.1, λ a. z.2.2 (q.2.2 a)),
        )

module _ (g : Gathers) (j : Judges g) (lawful : Lawful g j) (exports : ℕ → Ident → Standing)
    (outside : Ident → Standing) (start : Scope g.Reported) (taken : List ℕ → Bool) (awaited : List ℕ → Option TypeNo)
    (knows : Knows g j outside exports start) (no_withs : start.withs ≡ [])
    (takes : (n : List ℕ) → TakenAs g j (taken n) (awaited n) (find_name n start.own)) (ends : List ℕ) (first : ℕ)
    (ds : List Decl) where
  abbrev block : List Declaration
  block = declarations_of ds

  abbrev declared : Declared g.Reported
  declared = declared_block g ends (start, Ok tt) first ds

  -- what is reported before expressions are read again
  abbrev told_first : Result (Unit {0}) g.Reported
  told_first = (fold (with_decl g ends) ((all_marked marked_decl start ds).0, Ok tt, first) ds).1

  all_of_it : Ran g j lawful exports outside start taken awaited (is_nested start) block takes knows no_withs [] block
      [] (declared.0, told_first)
  all_of_it = all_ran g j lawful exports outside start taken awaited (is_nested start) block takes knows no_withs refl
      ends ds [] first (block_begins g j exports outside start taken awaited (is_nested start) block takes ds no_withs
      refl) (silent (λ f z. elim z [ ]))

  reports : {B : Breach → Type 0} {r : Result (Unit {0}) g.Reported} → Tells g j lawful (Repeats g j outside start) B r
      → Reports g j (Repeats g j outside start) B r
  reports (silent n) = reports_nothing n
  reports (tells r a) = reports_broken r a

  -- ---- expressions that are read again

  told_again : (names : Ident → Standing)
      → All g j exports outside start taken awaited (is_nested start) block all_of_it.0 names
      → ReadsAgain g j exports names declared.0 taken block (length start.own)
      → Tells g j lawful (Repeats g j outside start) (λ f. BrokenIn start.types exports outside taken awaited
      (is_nested start) block all_of_it.0 f
      ⊎ BrokenAgain (types_behind start.types all_of_it.0) exports taken block names [] block f) declared.1
  told_again names all again = subst
      (λ (types : Types). Tells g j lawful (Repeats g j outside start) (λ f. BrokenIn start.types exports outside taken
      awaited (is_nested start) block all_of_it.0 f ⊎ BrokenAgain types exports taken block names [] block f)
      declared.1)
      all_of_it.2.0.same.types
      (subst
      (λ (p : Passing g.Reported). Tells g j lawful (Repeats g j outside start) (λ f. BrokenIn start.types exports
      outside taken awaited (is_nested start) block all_of_it.0 f
      ⊎ BrokenAgain declared.0.types exports taken block names [] block f) p.0)
      (sym (decls_again g declared.0 ds (told_first, length start.own)))
      (reread_here g j lawful exports names declared.0 taken block (length start.own) again
      (λ f r. repeating g j exports outside start taken awaited (is_nested start) block knows no_withs
      all_of_it.2.0 all f r)
      all_of_it.2.1))

  -- ---- numbers of procedures

  awaits_heading : {p : Procedure} {b : Bool} {u : Option TypeNo} {o : Option (Known g.Reported)} → TakenAs g j b u o
      → o ≡ Some (known.Declared Here (Ok (meaning.Procedure p))) → (b ≡ true) × (u ≡ Some p.heading)
  awaits_heading (is_taken s) e = let z = sym s ∙ ap (λ (k : Option (Known g.Reported)). name_standing k) e in absurd cc
  awaits_heading (awaits q) e = let z = ap (λ (k : Option (Known g.Reported)). name_standing k) e in
      (refl, heading_same z)
    where
      heading_same : {q p : Procedure} → place.Awaited q ≡ place.Awaited p
          → ◌≡◌ {A = Option TypeNo} (Some q.heading) (Some p.heading)
      heading_same {q = q} {p = p} z = let same : q ≡ p = cc in ap (λ (p : Procedure). Some p.heading) same
  awaits_heading is_a_heading e = absurd cc
  awaits_heading not_taken e = absurd cc

  number_known : (n : List ℕ) (p : Procedure)
      → find_name n start.own ≡ Some (known.Declared Here (Ok (meaning.Procedure p)))
      → {fs : List Resolved} {Th : List ℕ → Type 0} {o : Option (Known g.Reported)} → IsHeaded fs n
      → KnownAs g j exports outside start taken awaited (is_nested start) block fs Th n o
      → o ≡ Some (known.Headed (Ok (meaning.Procedure p)))
  number_known n p e i (outer c w q) = absurd (w p.heading (awaits_heading (takes n) e).1 i)
  number_known n p e i (headed z y w q) = let same = ap (λ (k : Option (Known g.Reported)). name_standing k) (q ∙ e) in
      number_same same
    where
      number_same : place.Awaited z ≡ place.Awaited p
          → ◌≡◌ {A = Option (Known g.Reported)} (Some (known.Headed (Ok (meaning.Procedure z))))
          (Some (known.Headed (Ok (meaning.Procedure p))))
      number_same s = let same : z ≡ p = cc in
          ap (λ (p : Procedure). Some (known.Headed (Ok (meaning.Procedure p)))) same
  number_known n p e i (ahead d t f c b) = absurd (clash (awaits_heading (takes n) e).0 t)
  number_known n p e i (reading d t f c b q) = absurd (clash (awaits_heading (takes n) e).0 t)
  number_known n p e i (behind k t f o s) = absurd (clash (awaits_heading (takes n) e).0 t)
  number_known n p e i (a_member t f o a q) = absurd (clash (awaits_heading (takes n) e).0 t)

  -- ---- procedures that lack a heading

  taken_awaits : {b : Bool} {u : Option TypeNo} {o : Option (Known g.Reported)} → TakenAs g j b u o → Awaits o
      → (t : TypeNo) × (u ≡ Some t)
  taken_awaits (is_taken s) w = let z : false ≡ true = sym (ap (λ (p : Place). is_awaited p) s) ∙ w in absurd cc
  taken_awaits (awaits p) w = (p.heading, refl)
  taken_awaits is_a_heading w = absurd cc
  taken_awaits not_taken w = absurd cc

  awaits_taken : {b : Bool} {u : Option TypeNo} {t : TypeNo} {o : Option (Known g.Reported)} → TakenAs g j b u o
      → u ≡ Some t → Awaits o
  awaits_taken (is_taken s) e = absurd cc
  awaits_taken (awaits p) e = refl
  awaits_taken is_a_heading e = absurd cc
  awaits_taken not_taken e = absurd cc

  module _ (fs : List Resolved) (Th : List ℕ → Type 0) (n : List ℕ) where
    abbrev KA : Option (Known g.Reported) → Type 0
    KA = KnownAs g j exports outside start taken awaited (is_nested start) block fs Th n

    settles : {p : Place} → p ≡ place.Taken → is_awaited p ≡ true → ⊥
    settles s w = let z : false ≡ true = sym (ap (λ (p : Place). is_awaited p) s) ∙ w in absurd cc

    frees : {p : Place} → p ≡ place.Free → is_awaited p ≡ true → ⊥
    frees s w = let z : false ≡ true = sym (ap (λ (p : Place). is_awaited p) s) ∙ w in absurd cc

    waits_still : {o : Option (Known g.Reported)} → KA o → Awaits o → (t : TypeNo) × (awaited n ≡ Some t)
        × (IsHeaded fs n → ⊥)
    waits_still (outer c w e) z = let q = taken_awaits (takes n)
        (subst (λ (o : Option (Known g.Reported)). Awaits o) e z) in (q.0, q.1, w q.0 q.1)
    waits_still (headed p y w e) z = absurd cc
    waits_still (ahead d t f c b) z = absurd (frees (mark_place g.Reported d) z)
    waits_still (reading d t f c b q) z = absurd cc
    waits_still (behind k t f o s) z = absurd (settles s.settled z)
    waits_still (a_member t f o a q) z = absurd cc

    still_waits : {o : Option (Known g.Reported)} → KA o → {t : TypeNo} → awaited n ≡ Some t → (IsHeaded fs n → ⊥)
        → Awaits o
    still_waits (outer c w e) v h = subst (λ (o : Option (Known g.Reported)). Awaits o) (sym e)
        (awaits_taken (takes n) v)
    still_waits (headed p y w e) v h = absurd (h w)
    still_waits (ahead d t f c b) {t = u} v h =
        absurd (unawaited g j lawful exports outside start taken awaited (is_nested start) block takes n t u v)
    still_waits (reading d t f c b q) {t = u} v h =
        absurd (unawaited g j lawful exports outside start taken awaited (is_nested start) block takes n t u v)
    still_waits (behind k t f o s) {t = u} v h =
        absurd (unawaited g j lawful exports outside start taken awaited (is_nested start) block takes n t u v)
    still_waits (a_member t f o a q) {t = u} v h =
        absurd (unawaited g j lawful exports outside start taken awaited (is_nested start) block takes n t u v)

  abbrev Lacked : Pos → List Resolved → Breach → Type 0
  Lacked at fs = Lacks start.types exports outside taken awaited (is_nested start) block at fs

  module _ (at : Pos) {fs : List Resolved} {s : Scope g.Reported}
      (k : KnowsBlock g j exports outside start taken awaited (is_nested start) block fs []
      (Theres g j lawful exports outside start taken awaited (is_nested start) block takes fs) s) where
    lack_by : {b : Bool} → Decided (AnyAwaits s.own) b
        → Reports g j (λ f. ⊥) (Lacked at fs) (reported_where g b at rule.MissingProcedure (Ok tt))
    lack_by (holds a) = let q = waits_still fs _ a.0 (k.own a.0) a.1 in
        reports_broken (g.one (at ! rule.MissingProcedure))
        (accounts_as g j lawful (λ f. ⊥) (λ f e. subst (Lacked at fs) (sym e) (rules.missing q.1 q.2))
        (λ f l. one l) (accounts_one g j lawful (λ f. ⊥) (at ! rule.MissingProcedure)))
      where
        one : {f : Breach} → Lacked at fs f → f ≡ at ! rule.MissingProcedure
        one (rules.missing v h) = refl
    lack_by (fails_it c) = reports_nothing (λ f l. none l)
      where
        none : {f : Breach} → Lacked at fs f → ⊥
        none (rules.missing {n = n} v h) = c (n, still_waits fs _ n (k.own n) v h)

  -- what is known of a name that these declarations do not declare stays
  other_stays : (n : List ℕ) → (taken n ≡ false → AnyDeclares block n → ⊥)
      → {fs : List Resolved} {Th : List ℕ → Type 0} {o : Option (Known g.Reported)}
      → KnownAs g j exports outside start taken awaited (is_nested start) block fs Th n o
      → (IsThere fs n → AnyDeclares block n) → IsAsBefore (find_name n start.own) o
  other_stays n u (outer c w e) i = subst (λ (o : Option (Known g.Reported)). IsAsBefore (find_name n start.own) o)
      (sym e) as_before
  other_stays n u (headed p y w e) i = subst
      (λ (o : Option (Known g.Reported)). IsAsBefore o (Some (known.Headed (Ok (meaning.Procedure p))))) e
      (has_heading p)
  other_stays n u (ahead d t f c b) i = absurd (u t (any_first f))
  other_stays n u (reading d t f c b q) i = absurd (u t (any_first f))
  other_stays n u (behind k t f o s) i = absurd (u t (i (any_named f)))
  other_stays n u (a_member t f o a q) i = absurd (u t (i (any_named f)))

  pub block_answers : IsBlockExact g j exports outside start taken awaited ends first ds
  block_answers = record {
    whole = all_of_it.0;
    in_text = all_of_it.1;
    reported_first = reports all_of_it.2.1;
    reported = λ names all again. reports (told_again names all again);
    types = all_of_it.2.0.same.types;
    numbers = λ n p e i. number_known n p e i (all_of_it.2.0.own n);
    lack = λ o at. lack_by at all_of_it.2.0 (lacks_decided (all_of_it.2.0.once o));
    added = all_of_it.2.2 rules.nothing_declared;
    stand = (
      standings g j exports outside start taken awaited (is_nested start) block knows no_withs all_of_it.2.0,
      all_stand g j exports outside start taken awaited (is_nested start) block knows no_withs all_of_it.2.0,
    );
    owned = λ outers own owns all. owning g j exports outside start taken awaited (is_nested start) block knows no_withs
        all_of_it.2.0 outers owns own all;
    own = λ outers owns. some_own g j exports outside start taken awaited (is_nested start) block knows no_withs
        all_of_it.2.0 outers owns;
    spot = λ outers own names owns all mine gives a r. record {
      of_names = knowing g j exports outside start taken awaited (is_nested start) block knows no_withs all_of_it.2.0
          all;
      of_own = owning g j exports outside start taken awaited (is_nested start) block knows no_withs all_of_it.2.0
          outers owns own mine;
      of_result = r;
      of_loop = refl;
    };
    others = λ n u. other_stays n u (all_of_it.2.0.own n) (λ i. all_of_it.2.0.within n i);
    repeated = λ names all f r. repeating g j exports outside start taken awaited (is_nested start) block knows no_withs
        all_of_it.2.0 all f r;
    known = λ names all. knowing g j exports outside start taken awaited (is_nested start) block knows no_withs
        all_of_it.2.0 all;
  }
