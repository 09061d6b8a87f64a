-- What is known of the formals of a procedure, inside it, and of what it gives back.
use Rattle.std.proofs.Common.{◌≡◌, ℕ, Bool, true, false, cond, List, [], ◌∷◌, length, Option, Some, None, Result, Ok, Err, ◌⊎◌, inl, inr, refl, sym, ap, subst, ◌∙◌}
use Rattle.std.specs.Prelude.{◌||◌}
use Rattle.std.specs.List.{fold}
use Rattle.std.specs.Option.{is_some}
use Rattle.m2_rule.specs.declared.breach.Breach.{Breach}
use Rattle.m2_rule.specs.declared.rule.Rule.TheVariants as rule
use Rattle.m2_tree.specs.Names.{same_name}
use Rattle.m2_tree.specs.declared.pos.Pos.{Pos}
use Rattle.m2_tree.specs.declared.name.Ident.{Ident}
use Rattle.m2_tree.specs.declared.expr.Qualified.{Qualified}
use Rattle.m2_tree.specs.declared.decl.Section.{Section}
use Rattle.m2_tree.specs.declared.decl.Heading.{Heading}
use Rattle.typed_tree.specs.declared.meaning.Meaning.{Meaning}
use Rattle.typed_tree.specs.declared.meaning.Meaning.TheVariants as meaning
use Rattle.typed_tree.specs.declared.shape.Formal.{Formal}
use Rattle.typed_tree.specs.declared.types.TypeNo.{TypeNo}
use Rattle.typed_tree.specs.Known.{is_result}
use Rattle.typed_tree.specs.Names.{find_name, enter_name}
use Rattle.check_scope.specs.declared.known.Known.{Known}
use Rattle.check_scope.specs.declared.known.Known.TheVariants.{Declared}
use Rattle.check_scope.specs.declared.known.Origin.TheVariants.{Here}
use Rattle.check_scope.specs.declared.meaningless.Meaningless.{Meaningless}
use Rattle.check_scope.specs.declared.meaningless.Meaningless.TheVariants as meaningless
use Rattle.check_scope.specs.declared.scope.OpenedRecord.{OpenedRecord}
use Rattle.check_scope.specs.declared.scope.Scope.{Scope}
use Rattle.check_scope.specs.Elaborated.{Gathers, ◌▷◌}
use Rattle.check_scope.specs.Scopes.{or_around, known_outside, means_as, means_or, open_field, looked_up}
use Rattle.check_type_expr.specs.Named.{first_of, named_type}
use Rattle.check_type_expr.specs.Headings.{formal_of, result_in, result_of}
use Rattle.check_block.specs.Inner.{formal_kind, formal_meaning, Formals, with_formal, with_section, formals_in, with_formals}
use Rattle.check_body.specs.Inside.{returns_of}
use Rattle.def_typing.specs.Operators.{◌!◌}
use Rattle.def_typing.specs.Things as things
use Rattle.def_typing.specs.Things.{Headless, Standing, Unknown}
use Rattle.def_typing.specs.Parts.{Among, here, later}
use Rattle.def_typing.specs.TypeNames.{NamesType, BrokenTypeName}
use Rattle.def_typing.specs.Headings as headings
use Rattle.def_typing.specs.Headings.{IsResult, GivesBack, BrokenResult}
use Rattle.def_typing.specs.Returns.{Giving, Nothing, AResult, AnyResult}
use Rattle.def_typing.specs.Declarations.{is_among}
use Rattle.def_typing.specs.Bodies as bodies
use Rattle.def_typing.specs.Bodies.{formal_named, is_formal, formal, InsideAs, BodyGives}
use Rattle.law_typing.specs.Judging.{Judges, Answers, means, refuses}
use Rattle.law_typing.specs.Exact.{of_local, Sees, sees, sees_unknown, Knows, Repeats, of_heading, of_declaration, TakenAs, is_taken, not_taken, KnowsResult, knows_nothing, knows_type, knows_broken, InResult, in_result}
use Rattle.law_typing.proofs.Combining.{Lawful, Decided, holds, fails_it, then_answer, where_answers, fine, exact}
use Rattle.law_typing.proofs.Entering.{name_decided, entered_all}
use Rattle.law_typing.proofs.Heading.{result_decided, place_same}
use Rattle.law_typing.proofs.TypeNaming.{type_name_answers}

-- ---- formals in their list

module _ (T : Type 0) (level : ℕ) where
  abbrev Found : Type 0
  Found = Option (Known T)

  abbrev enters : ℕ → Result Formal T → Known T
  enters k f = Declared Here (formal_meaning level k f)

  -- what a name has before formals of one type and behind them, if the name is one of them or not
  data Adds (f : Result Formal T) : Found → Bool → Found → Type 0 where
    stays : {v : Known T} {b : Bool} → Adds f (Some v) b (Some v)
    misses : Adds f None false None
    hits : (k : ℕ) → Adds f None true (Some (enters k f))

  unchanged : {f : Result Formal T} (o : Found) → Adds f o false o
  unchanged (Some v) = stays
  unchanged None = misses

  adds_then : {f : Result Formal T} {b c : Bool} {o r q : Found} → Adds f o b r → Adds f r c q → Adds f o (b || c) q
  adds_then stays stays = stays
  adds_then misses misses = misses
  adds_then misses (hits k) = hits k
  adds_then (hits k) stays = hits k

  kept : {f : Result Formal T} {v : Known T} {b : Bool} {o : Found} → o ≡ Some v → Adds f o b o
  kept {f = f} {b = b} e = subst (λ (o : Found). Adds f o b o) (sym e) stays

  entered : {f : Result Formal T} (k : ℕ) {o : Found} → o ≡ None → Adds f o true (Some (enters k f))
  entered {f = f} k e = subst (λ (o : Found). Adds f o true (Some (enters k f))) (sym e) (hits k)

  module _ (f : Result Formal T) (n : List ℕ) where
    one_by : (name : List ℕ) (k : ℕ) (ns : List (List ℕ × Known T)) {b : Bool} → Decided (name ≡ n) b → (o : Found)
        → find_name name ns ≡ o
        → Adds f (find_name n ns) b (find_name n (cond (is_some o) ns (enter_name name (enters k f) ns)))
    one_by name k ns (holds e) (Some v) q = kept (ap (λ (m : List ℕ). find_name m ns) (sym e) ∙ q)
    one_by name k ns (fails_it c) (Some v) q = unchanged (find_name n ns)
    one_by name k ns {b = b} d None q = entered_all
        (λ (m : List ℕ) (r : Found). (b : Bool) → Decided (name ≡ m) b → Adds f (find_name m ns) b r) name (enters k f)
        ns
        (λ b d. self d) (λ m c b d. other c d) n b d
      where
        self : {b : Bool} → Decided (name ≡ name) b → Adds f (find_name name ns) b (Some (enters k f))
        self (holds e) = entered k q
        self (fails_it c) = absurd (c refl)

        other : {m : List ℕ} → (name ≡ m → ⊥) → {b : Bool} → Decided (name ≡ m) b
            → Adds f (find_name m ns) b (find_name m ns)
        other c (holds e) = absurd (c e)
        other {m = m} c (fails_it d) = unchanged (find_name m ns)

    one_added : (fs : Formals T) (name : Ident)
        → Adds f (find_name n fs.0) (same_name name.name n) (find_name n (with_formal level f fs name).0)
    one_added fs name = one_by name.name (length fs.1) fs.0 (name_decided name.name n) (find_name name.name fs.0) refl

    all_added : (xs : List Ident) (fs : Formals T)
        → Adds f (find_name n fs.0) (is_among n xs) (find_name n (fold (with_formal level f) fs xs).0)
    all_added [] fs = unchanged (find_name n fs.0)
    all_added (x ∷ xs) fs = adds_then (one_added fs x) (all_added xs (with_formal level f fs x))

module _ (g : Gathers) (s : Scope g.Reported) where
  abbrev meant_by : Section → Result Formal g.Reported
  meant_by x = formal_of g s x.is_var x.of

  -- what the list has of a name, by the first section that has it
  pub data FormalIs : Option Section → Option (Known g.Reported) → Type 0 where
    is_none : FormalIs None None
    is_one : (x : Section) (k : ℕ) → FormalIs (Some x)
        (Some (Declared Here (formal_meaning s.level k (formal_of g s x.is_var x.of))))

  data Listed : Option (Known g.Reported) → Option Section → Option (Known g.Reported) → Type 0 where
    there_before : {v : Known g.Reported} {o : Option Section} → Listed (Some v) o (Some v)
    is_listed : {o : Option Section} {r : Option (Known g.Reported)} → FormalIs o r → Listed None o r

  listed_then : (x : Section) (b : Bool) {o r q : Option (Known g.Reported)} {xs : Option Section}
      → Adds g.Reported s.level (meant_by x) o b r → Listed r xs q → Listed o (cond b (Some x) xs) q
  listed_then x b stays there_before = there_before
  listed_then x _ misses l = l
  listed_then x _ (hits k) there_before = is_listed (is_one x k)

  all_listed : (n : List ℕ) (xs : List Section) (fs : Formals g.Reported)
      → Listed (find_name n fs.0) (formal_named n xs) (find_name n (fold (with_section g s) fs xs).0)
  all_listed n [] fs = none (find_name n fs.0)
    where
      none : (o : Option (Known g.Reported)) → Listed o None o
      none (Some v) = there_before
      none None = is_listed is_none
  all_listed n (x ∷ xs) fs = listed_then x (is_among n x.names) (all_added g.Reported s.level (meant_by x) n x.names fs)
      (all_listed n xs (with_section g s fs x))

  listed_none : {o : Option Section} {r : Option (Known g.Reported)} → Listed None o r → FormalIs o r
  listed_none (is_listed i) = i

  pub formal_is : (n : List ℕ) (xs : List Section) → FormalIs (formal_named n xs) (find_name n (formals_in g s xs).0)
  formal_is n xs = listed_none (all_listed n xs ([], []))

pub section_among : (n : List ℕ) (xs : List Section) (x : Section) → formal_named n xs ≡ Some x → Among x xs
section_among n [] x e = absurd cc
section_among n (y ∷ xs) x e = by (is_among n y.names) e (section_among n xs x)
  where
    same : {y x : Section} → ◌≡◌ {A = Option Section} (Some y) (Some x) → y ≡ x
    same e = cc

    by : (b : Bool) → cond b (Some y) (formal_named n xs) ≡ Some x → (formal_named n xs ≡ Some x → Among x xs)
        → Among x (y ∷ xs)
    by true q rest = subst (λ (z : Section). Among z (y ∷ xs)) (same q) here
    by false q rest = later (rest q)

-- ---- inside

module _ (g : Gathers) (j : Judges g) (lawful : Lawful g j) (exports : ℕ → Ident → Standing) (sight : Ident → Standing)
    (s : Scope g.Reported) (no_withs : s.withs ≡ []) (empty : s.own ≡ []) (knows : Knows g j sight exports s)
    (h : Heading) where
  abbrev pub Inside : Scope g.Reported
  Inside = with_formals s (formals_in g s h.formals)

  abbrev R : Breach → Type 0
  R = Repeats g j sight s

  abbrev pub found : Ident → Option (Known g.Reported)
  found name = find_name name.name (formals_in g s h.formals).0

  looked_inside : (name : Ident) → looked_up g Inside name
      ≡ means_as g name.pos (or_around (found name) (known_outside name.name s.outer))
  looked_inside name = ap (λ (ws : List OpenedRecord). means_or (open_field s.types name.name ws)
      (means_as g name.pos (or_around (found name) (known_outside name.name s.outer)))) no_withs

  looked_before : (name : Ident) → looked_up g s name ≡ means_as g name.pos (known_outside name.name s.outer)
  looked_before name = ap (λ (ws : List OpenedRecord). means_or (open_field s.types name.name ws)
      (means_as g name.pos (or_around (find_name name.name s.own) (known_outside name.name s.outer)))) no_withs
      ∙ ap (λ (own : List (List ℕ × Known g.Reported)). means_as g name.pos
      (or_around (find_name name.name own) (known_outside name.name s.outer))) empty

  none_inside : (name : Ident) → found name ≡ None → looked_up g Inside name ≡ looked_up g s name
  none_inside name e = looked_inside name
      ∙ ap (λ (k : Option (Known g.Reported)). means_as g name.pos (or_around k (known_outside name.name s.outer))) e
      ∙ sym (looked_before name)

  -- ---- one name

  -- what is known of a name, inside
  pub data NameIs (name : Ident) : Type 0 where
    of_around : formal_named name.name h.formals ≡ None → looked_up g Inside name ≡ looked_up g s name
        → TakenAs g j false None (found name) → NameIs name
    of_formal : (x : Section) (t : TypeNo) (k : ℕ) → formal_named name.name h.formals ≡ Some x
        → NamesType sight exports x.of.of t → ((u : TypeNo) → NamesType sight exports x.of.of u → u ≡ t)
        → looked_up g Inside name ≡ Ok (meaning.Local
        (record {
          level = s.level;
          number = k;
          kind =
              formal_kind (record { is_var = x.is_var; is_open = x.of.is_open; of = t });
          of = t;
        }))
        → TakenAs g j true None (found name) → NameIs name
    of_broken : (x : Section) (r : g.Reported) → formal_named name.name h.formals ≡ Some x
        → ((t : TypeNo) → NamesType sight exports x.of.of t → ⊥)
        → ((f : Breach) → j.Among r f → BrokenTypeName sight exports x.of.of f ⊎ R f)
        → looked_up g Inside name ≡ Err (meaningless.Broken r) → TakenAs g j true None (found name) → NameIs name

  module _ (name : Ident) where
    formal_by : (x : Section) (k : ℕ) → formal_named name.name h.formals ≡ Some x → (r : Result TypeNo g.Reported)
        → Answers g j R (λ (t u : TypeNo). t ≡ u) (NamesType sight exports x.of.of)
        (BrokenTypeName sight exports x.of.of) r
        → found name ≡ Some (Declared Here (formal_meaning s.level k
        (r ▷ λ t. Ok (record { is_var = x.is_var; is_open = x.of.is_open; of = t })))) → NameIs name
    formal_by x k e _ (means a t i n u z) q =
        of_formal x a k e (subst (λ (v : TypeNo). NamesType sight exports x.of.of v) (sym i) n) (λ v m. u v m ∙ sym i)
        (looked_inside name ∙ ap (λ (k : Option (Known g.Reported)). means_as g name.pos
        (or_around k (known_outside name.name s.outer))) q)
        (subst (λ (k : Option (Known g.Reported)). TakenAs g j true None k) (sym q) (is_taken refl))
    formal_by x k e _ (refuses r acc n) q =
        of_broken x r e n acc.only
        (looked_inside name ∙ ap (λ (k : Option (Known g.Reported)). means_as g name.pos
        (or_around k (known_outside name.name s.outer))) q)
        (subst (λ (k : Option (Known g.Reported)). TakenAs g j true None k) (sym q) (is_taken refl))

    name_by : {o : Option Section} {r : Option (Known g.Reported)} → FormalIs g s o r
        → formal_named name.name h.formals ≡ o → found name ≡ r → NameIs name
    name_by is_none e q = of_around e (none_inside name q)
        (subst (λ (k : Option (Known g.Reported)). TakenAs g j false None k) (sym q) not_taken)
    name_by (is_one x k) e q = formal_by x k e (named_type g s x.of.of)
        (type_name_answers g j lawful sight exports s knows x.of.of) q

    pub name_is : NameIs name
    name_is = name_by (formal_is g s name.name h.formals) refl refl

    abbrev S : Standing → Type 0
    S = InsideAs exports sight h name

    inside_by : NameIs name → (s : Standing) × S s
    inside_by (of_around e l t) = (sight name, bodies.no_formal e)
    inside_by (of_formal x t k e n u l z) = (things.Known (formal x.of.is_open t), bodies.a_formal e n)
    inside_by (of_broken x r e n a l t) = (Unknown, bodies.no_type e n)

    abbrev Has : Standing → Type 0
    Has st = Sees g j name.pos st (looked_up g Inside name)

    none_one : {x : Section} {o : Option Section} → o ≡ None → o ≡ Some x → ⊥
    none_one e q = let z = sym e ∙ q in absurd cc

    one_same : {x y : Section} {o : Option Section} → o ≡ Some x → o ≡ Some y → y ≡ x
    one_same {x = x} e q = let z = sym q ∙ e in cc

    open_local : (v o : Bool) (t : TypeNo)
        → of_local t (formal_kind (record { is_var = v; is_open = o; of = t })) ≡ things.Known (formal o t)
    open_local v true t = refl
    open_local true false t = refl
    open_local false false t = refl

    has_formal : (x : Section) (t : TypeNo) (k : ℕ)
        → looked_up g Inside name ≡ Ok (meaning.Local
        (record {
          level = s.level;
          number = k;
          kind =
              formal_kind (record { is_var = x.is_var; is_open = x.of.is_open; of = t });
          of = t;
        }))
        → Has (things.Known (formal x.of.is_open t))
    has_formal x t k l = subst (λ (r : Result Meaning (Meaningless g.Reported)). Sees g j name.pos
        (things.Known (formal x.of.is_open t)) r) (sym l)
        (subst (λ (st : Standing). Sees g j name.pos st
        (Ok (meaning.Local (record {
          level = s.level;
          number = k;
          kind =
              formal_kind (record { is_var = x.is_var; is_open = x.of.is_open; of = t });
          of = t;
        }))))
        (open_local x.is_var x.of.is_open t)
        (sees (meaning.Local (record {
          level = s.level;
          number = k;
          kind =
              formal_kind (record { is_var = x.is_var; is_open = x.of.is_open; of = t });
          of = t;
        }))))

    has_by : NameIs name → {st : Standing} → S st → Has st
    has_by (of_around e l z) (bodies.a_formal q n) = absurd (none_one e q)
    has_by (of_around e l z) (bodies.no_type q n) = absurd (none_one e q)
    has_by (of_around e l z) (bodies.no_formal q) =
        subst (λ (r : Result Meaning (Meaningless g.Reported)). Sees g j name.pos (sight name) r) (sym l)
        (knows.of_names name)
    has_by (of_formal x t k e n u l z) (bodies.a_formal {x = y} {t = v} q m) = let same = one_same e q in
        subst (λ (y : Section). Has (things.Known (formal y.of.is_open v))) (sym same)
        (subst (λ (v : TypeNo). Has (things.Known (formal x.of.is_open v)))
        (sym (u v (subst (λ (y : Section). NamesType sight exports y.of.of v) same m))) (has_formal x t k l))
    has_by (of_formal x t k e n u l z) (bodies.no_type q m) =
        absurd (m t (subst (λ (y : Section). NamesType sight exports y.of.of t) (sym (one_same e q)) n))
    has_by (of_formal x t k e n u l z) (bodies.no_formal q) = absurd (none_one q e)
    has_by (of_broken x r e n a l z) (bodies.a_formal {t = v} q m) =
        absurd (n v (subst (λ (y : Section). NamesType sight exports y.of.of v) (one_same e q) m))
    has_by (of_broken x r e n a l z) (bodies.no_type q m) =
        subst (λ (r : Result Meaning (Meaningless g.Reported)). Sees g j name.pos Unknown r) (sym l) (sees_unknown r)
    has_by (of_broken x r e n a l z) (bodies.no_formal q) = absurd (none_one q e)

    -- what the use of a name repeats
    abbrev pub OfHeading : Breach → Type 0
    OfHeading f = R f ⊎ ((x : Section) × Among x h.formals × BrokenTypeName sight exports x.of.of f)

    broken_same : {r q : g.Reported} → ◌≡◌ {A = Result Meaning (Meaningless g.Reported)} (Err (meaningless.Broken r))
        (Err (meaningless.Broken q)) → q ≡ r
    broken_same e = cc

    heading_by : NameIs name → {st : Standing} → S st → {b : Bool} → st ≡ things.Known (Headless b) → {q : g.Reported}
        → looked_up g Inside name ≡ Err (meaningless.Headless b q) → {f : Breach} → j.Among q f → OfHeading f
    heading_by (of_around e l z) (bodies.a_formal q n) w y m = absurd (none_one e q)
    heading_by (of_around e l z) (bodies.no_type q n) w y m = absurd (none_one e q)
    heading_by (of_around e l z) (bodies.no_formal q) w y m = inl (of_heading w (sym l ∙ y) m)
    heading_by (of_formal x t k e n u l z) i w y m = let c = sym l ∙ y in absurd cc
    heading_by (of_broken x r e n a l z) i w y m = let c = sym l ∙ y in absurd cc

    broken_by : NameIs name → {st : Standing} → S st → st ≡ Unknown → {q : g.Reported}
        → looked_up g Inside name ≡ Err (meaningless.Broken q) → {f : Breach} → j.Among q f → OfHeading f
    broken_by (of_around e l z) (bodies.a_formal q n) w y m = absurd (none_one e q)
    broken_by (of_around e l z) (bodies.no_type q n) w y m = absurd (none_one e q)
    broken_by (of_around e l z) (bodies.no_formal q) w y m = inl (of_declaration w (sym l ∙ y) m)
    broken_by (of_formal x t k e n u l z) i w y m = let c = sym l ∙ y in absurd cc
    broken_by (of_broken x r e n a l z) i w y {f = f} m =
        elim (a f (subst (λ (q : g.Reported). j.Among q f) (broken_same (sym l ∙ y)) m))
        [ inl b ↦ inr (x, section_among name.name h.formals x e, b) | inr o ↦ inl o ]

  -- ---- all names

  pub inside_there : (inside : Ident → Standing) × ((name : Ident) → InsideAs exports sight h name (inside name))
  inside_there = ((λ name. (inside_by name (name_is name)).0), (λ name. (inside_by name (name_is name)).1))

  module _ (inside : Ident → Standing) (all : (name : Ident) → InsideAs exports sight h name (inside name)) where
    pub inside_knows : Knows g j inside exports Inside
    inside_knows = record {
      of_names = λ name. has_by name (name_is name) (all name);
      of_modules =
          λ k name. knows.of_modules k name;
    }

    pub inside_repeats : (f : Breach) → Repeats g j inside Inside f → R f
        ⊎ ((x : Section) × Among x h.formals × BrokenTypeName sight exports x.of.of f)
    inside_repeats f (of_heading {name = name} e q m) = heading_by name (name_is name) (all name) e q m
    inside_repeats f (of_declaration {name = name} e q m) = broken_by name (name_is name) (all name) e q m

  taken_by : (n : List ℕ) {o : Option Section} {r : Option (Known g.Reported)} → FormalIs g s o r
      → TakenAs g j (is_some o) None r
  taken_by n is_none = not_taken
  taken_by n (is_one x k) = by (formal_of g s x.is_var x.of)
    where
      by : (f : Result Formal g.Reported) → TakenAs g j true None (Some (Declared Here (formal_meaning s.level k f)))
      by (Ok f) = is_taken refl
      by (Err e) = is_taken refl

  pub inside_takes : (n : List ℕ) → TakenAs g j (is_formal n h) None (find_name n Inside.own)
  inside_takes n = taken_by n (formal_is g s n h.formals)

  -- ---- what it gives back

  abbrev N : Qualified → TypeNo → Type 0
  N = NamesType sight exports

  abbrev BN : Qualified → Breach → Type 0
  BN = BrokenTypeName sight exports

  abbrev ResultSo : Option Qualified → Result (Option TypeNo) g.Reported → Type 0
  ResultSo q r = Answers g j R (λ (a b : Option TypeNo). a ≡ b) (GivesBack s.types sight exports q)
      (BrokenResult s.types sight exports q) r

  no_result : ResultSo None (Ok None)
  no_result = means None None refl headings.nothing (λ l m. one m) (λ f b. elim b [ ])
    where
      one : {l : Option TypeNo} → GivesBack s.types sight exports None l → l ≡ None
      one headings.nothing = refl

  result_parts : {q : Qualified} {l : Option TypeNo} → GivesBack s.types sight exports (Some q) l → (t : TypeNo) × N q t
      × (IsResult s.types t × (l ≡ Some t))
  result_parts (headings.a_result {t = t} n i) = (t, n, (i, refl))

  result_fails : {q : Qualified} {f : Breach} → BrokenResult s.types sight exports (Some q) f → BN q f
      ⊎ ((t : TypeNo) × N q t × (((IsResult s.types t → ⊥) × (f ≡ first_of q ! rule.NoType))
      ⊎ (IsResult s.types t × ⊥)))
  result_fails (headings.in_result b) = inl b
  result_fails {q = q} (headings.no_result {t = t} n i) =
      inr (t, n, inl (i, ap (λ (at : Pos). at ! rule.NoType) (sym (place_same q.module q.name))))

  fails_result : {q : Qualified} {f : Breach} → BN q f
      ⊎ ((t : TypeNo) × N q t × (((IsResult s.types t → ⊥) × (f ≡ first_of q ! rule.NoType))
      ⊎ (IsResult s.types t × ⊥))) → BrokenResult s.types sight exports (Some q) f
  fails_result (inl b) = headings.in_result b
  fails_result {q = q} (inr (t, n, inl (i, e))) =
      subst (BrokenResult s.types sight exports (Some q))
      (sym (e ∙ ap (λ (at : Pos). at ! rule.NoType) (place_same q.module q.name))) (headings.no_result n i)
  fails_result (inr (t, n, inr z)) = absurd z.1

  result_answers : (q : Option Qualified) → ResultSo q (result_of g s q)
  result_answers None = no_result
  result_answers (Some q) = exact g j lawful R
      (λ l z. subst (GivesBack s.types sight exports (Some q)) (sym z.2.1) (headings.a_result z.1 z.2.0))
      (λ l m. result_parts m) (λ f z. fails_result z) (λ f b. result_fails b)
      (then_answer g j lawful R {N = λ t l. IsResult s.types t × (l ≡ Some t)}
      {D = λ t f. ((IsResult s.types t → ⊥) × (f ≡ first_of q ! rule.NoType)) ⊎ (IsResult s.types t × ⊥)}
      (type_name_answers g j lawful sight exports s knows q) (λ t u e. given t u e))
    where
      given : (t u : TypeNo) → t ≡ u → Answers g j R (λ (a b : Option TypeNo). a ≡ b)
          (λ l. IsResult s.types u × (l ≡ Some u))
          (λ f. ((IsResult s.types u → ⊥) × (f ≡ first_of q ! rule.NoType)) ⊎ (IsResult s.types u × ⊥))
          (result_in g s.types (first_of q) t)
      given t u e = subst (λ (u : TypeNo). Answers g j R (λ (a b : Option TypeNo). a ≡ b)
          (λ l. IsResult s.types u × (l ≡ Some u))
          (λ f. ((IsResult s.types u → ⊥) × (f ≡ first_of q ! rule.NoType)) ⊎ (IsResult s.types u × ⊥))
          (result_in g s.types (first_of q) t)) e
          (where_answers g j lawful R {P = IsResult s.types t} {M = λ l. l ≡ Some t} {B = λ f. ⊥} (is_result s.types t)
          (first_of q) rule.NoType (result_decided s.types t) (λ i. fine g j lawful R (Some t) (Some t) refl))

  abbrev Gives : Giving → Type 0
  Gives = BodyGives exports sight h s.types

  gives_known : (a : Option TypeNo) → GivesBack s.types sight exports h.result a → (w : Giving) × Gives w
  gives_known None m = (Nothing, bodies.gives_nothing m)
  gives_known (Some t) m = (AResult t, bodies.gives_result m)

  gives_by : {r : Result (Option TypeNo) g.Reported} → ResultSo h.result r → (w : Giving) × Gives w
  gives_by (means a k i m u n) = gives_known k m
  gives_by (refuses r a n) = (AnyResult, bodies.gives_any n)

  pub gives_there : (w : Giving) × Gives w
  gives_there = gives_by (result_answers h.result)

  known_result : (w : Giving) (a : Option TypeNo) → Gives w → GivesBack s.types sight exports h.result a
      → ((l : Option TypeNo) → GivesBack s.types sight exports h.result l → l ≡ a)
      → KnowsResult g j w (returns_of {T = g.Reported} (Ok a))
  known_result _ a (bodies.gives_nothing m) k u =
      subst (λ (a : Option TypeNo). KnowsResult g j Nothing (returns_of {T = g.Reported} (Ok a))) (u None m)
      knows_nothing
  known_result _ a (bodies.gives_result {t = t} m) k u =
      subst (λ (a : Option TypeNo). KnowsResult g j (AResult t) (returns_of {T = g.Reported} (Ok a))) (u (Some t) m)
      (knows_type t)
  known_result _ a (bodies.gives_any n) k u = absurd (n a k)

  broken_result : (w : Giving) (r : g.Reported) → Gives w
      → ((k : Option TypeNo) → GivesBack s.types sight exports h.result k → ⊥) → KnowsResult g j w (Some (Err r))
  broken_result _ r (bodies.gives_nothing m) n = absurd (n None m)
  broken_result _ r (bodies.gives_result {t = t} m) n = absurd (n (Some t) m)
  broken_result _ r (bodies.gives_any c) n = knows_broken r

  result_known : (w : Giving) → Gives w → {r : Result (Option TypeNo) g.Reported} → ResultSo h.result r
      → KnowsResult g j w (returns_of r)
  result_known w b (means a k i m u n) = known_result w a b (subst (GivesBack s.types sight exports h.result) (sym i) m)
      (λ l z. u l z ∙ sym i)
  result_known w b (refuses r a n) = broken_result w r b n

  pub gives_knows : (w : Giving) → Gives w → KnowsResult g j w (returns_of (result_of g s h.result))
  gives_knows w b = result_known w b (result_answers h.result)

  result_repeats : {r : Result (Option TypeNo) g.Reported} → ResultSo h.result r → (f : Breach)
      → InResult g j f (returns_of r) → BrokenResult s.types sight exports h.result f ⊎ R f
  result_repeats (means None k i m u n) f z = elim z [ ]
  result_repeats (means (Some t) k i m u n) f z = elim z [ ]
  result_repeats (refuses r a n) f (in_result m) = a.only f m

  pub gives_repeats : (f : Breach) → InResult g j f (returns_of (result_of g s h.result))
      → BrokenResult s.types sight exports h.result f ⊎ R f
  gives_repeats f z = result_repeats (result_answers h.result) f z
