-- Names of declarations are begun, and finished behind them.
use Rattle.std.proofs.Common.{◌≡◌, ℕ, Bool, true, false, cond, List, [], ◌∷◌, Option, Some, None, Result, Ok, ◌⊎◌, inl, inr, refl, sym, ap, subst, ◌∙◌}
use Rattle.std.specs.Prelude.{not, ◌++◌, ◌||◌}
use Rattle.std.specs.Option.{is_some}
use Rattle.std.specs.List.{fold}
use Rattle.m2_rule.specs.declared.breach.Breach.{Breach}
use Rattle.m2_rule.specs.declared.rule.Rule.TheVariants as rule
use Rattle.m2_tree.specs.declared.name.Ident.{Ident}
use Rattle.typed_tree.specs.declared.known_types.Types.{Types}
use Rattle.typed_tree.specs.Names.{find_name}
use Rattle.check_scope.specs.declared.known.Known.{Known}
use Rattle.check_scope.specs.declared.known.Known.TheVariants as known
use Rattle.check_scope.specs.declared.known.Origin.TheVariants.{Here}
use Rattle.check_scope.specs.declared.scope.Scope.{Scope}
use Rattle.check_scope.specs.Elaborated.{Gathers, report}
use Rattle.check_scope.specs.Scopes.{State, is_free, is_begun, with_known, begin_name, finish_name}
use Rattle.typed_tree.specs.declared.meaning.Meaning.{Meaning}
use Rattle.typed_tree.specs.declared.meaning.Meaning.TheVariants as meaning
use Rattle.typed_tree.specs.declared.meaning.Procedure.{Procedure}
use Rattle.typed_tree.specs.declared.types.TypeNo.{TypeNo}
use Rattle.check_definition.specs.Declare.{begun_name}
use Rattle.check_block.specs.Headings.{name_standing}
use Rattle.check_block.specs.declared.heading.Standing.{Standing as Place}
use Rattle.check_block.specs.declared.heading.Standing.TheVariants as place
use Rattle.def_typing.specs.Operators.{◌!◌}
use Rattle.def_typing.specs.Things.{Standing, Undeclared}
use Rattle.def_typing.specs.Parts.{Among, here, later, Named}
use Rattle.def_typing.specs.TypeExprs.{Twice, Member}
use Rattle.def_typing.specs.Declarations.{Declaration, OfConstant, OfType, OfVariables, OfProcedure, names_of, constants_of, Declares, AnyDeclares, Heads, IsFirst, at_first, later_on, Declared, is_among, is_there, IsThere, IsHeaded, nearest, farther, types_behind, in_front_of, There}
use Rattle.law_typing.specs.Judging.{Judges}
use Rattle.law_typing.specs.Exact.{TakenAs, is_taken, awaits, is_a_heading, not_taken, AreOnce}
use Rattle.law_typing.proofs.Combining.{Lawful, Decided, holds, fails_it, decided_as, Tells, silent, tells, tells_as, beside_tells, accounts_one, accounts_as}
use Rattle.law_typing.proofs.Entering.{named_left, named_right, named_split, among_decided, entered_all, once_more}
pub use Rattle.law_typing.proofs.Declaring.{clash}
use Rattle.law_typing.proofs.Declaring.{any_named, no_heads, mark_of, Added, Saying, KnownAs, outer, headed, ahead, reading, behind, a_member, Same, KnowsBlock}
use Rattle.law_typing.proofs.Deciding.{decided_itself}
use Rattle.law_typing.proofs.Meeting.{either_decided}
use Rattle.law_typing.proofs.Enumerating.{member_known, entered, Enters}

-- these names are there too
abbrev pub Adding : List Ident → (List ℕ → Type 0) → List ℕ → Type 0
Adding [] Th n = Th n
Adding (x ∷ xs) Th n = Adding xs (λ m. (x.name ≡ m) ⊎ Th m) n

adding_more : (xs : List Ident) (Th : List ℕ → Type 0) (n : List ℕ) → Th n → Adding xs Th n
adding_more [] Th n h = h
adding_more (x ∷ xs) Th n h = adding_more xs (λ m. (x.name ≡ m) ⊎ Th m) n (inr h)

pub adding_name : (xs : List Ident) (Th : List ℕ → Type 0) (n : List ℕ) (x : Ident) → Among x xs → x.name ≡ n
    → Adding xs Th n
adding_name [] Th n x m e = elim m [ ]
adding_name (x ∷ xs) Th n _ here e = adding_more xs (λ m. (x.name ≡ m) ⊎ Th m) n (inl e)
adding_name (y ∷ xs) Th n x (later a) e = adding_name xs (λ m. (y.name ≡ m) ⊎ Th m) n x a e

pub added : (xs : List Ident) (Th : List ℕ → Type 0) (n : List ℕ) → Adding xs Th n → Named xs n ⊎ Th n
added [] Th n h = inr h
added (x ∷ xs) Th n h = elim (added xs (λ m. (x.name ≡ m) ⊎ Th m) n h) [
  | inl q ↦ inl (q.0, later q.1, q.2)
  | inr q ↦ elim q [ inl e ↦ inl (x, here, e) | inr t ↦ inr t ]
]

mark_free : (T : Type 0) (d : Declaration) → is_free (Some (mark_of {T = T} d)) ≡ true
mark_free T (OfConstant c) = refl
mark_free T (OfType d) = refl
mark_free T (OfVariables v) = refl
mark_free T (OfProcedure h) = refl

pub mark_place : (T : Type 0) (d : Declaration) → name_standing (Some (mark_of {T = T} d)) ≡ place.Free
mark_place T (OfConstant c) = refl
mark_place T (OfType d) = refl
mark_place T (OfVariables v) = refl
mark_place T (OfProcedure h) = refl

module _ (g : Gathers) (j : Judges g) (lawful : Lawful g j) (exports : ℕ → Ident → Standing)
    (outside : Ident → Standing) (start : Scope g.Reported) (taken : List ℕ → Bool) (awaited : List ℕ → Option TypeNo)
    (nested : Bool) (block : List Declaration)
    (takes : (n : List ℕ) → TakenAs g j (taken n) (awaited n) (find_name n start.own)) where
  abbrev KA : List Declared → (List ℕ → Type 0) → List ℕ → Option (Known g.Reported) → Type 0
  KA = KnownAs g j exports outside start taken awaited nested block

  abbrev KB : List Declared → List Declaration → (List ℕ → Type 0) → Scope g.Reported → Type 0
  KB = KnowsBlock g j exports outside start taken awaited nested block

  abbrev Add : List Declared → Declared → Type 0
  Add = Added g j exports outside start taken awaited nested block

  abbrev Says : List Declared → Declared → Known g.Reported → Type 0
  Says = Saying g j exports outside start taken awaited nested block

  abbrev SameScope : Types → Scope g.Reported → Type 0
  SameScope = Same g j exports outside start taken awaited nested block

  abbrev pub Theres : List Declared → List ℕ → Type 0
  Theres = There start.types exports outside taken awaited nested block

  -- A name that is not taken awaits no heading.
  pub unawaited : (n : List ℕ) → taken n ≡ false → (t : TypeNo) → awaited n ≡ Some t → ⊥
  unawaited n q t e = by (subst (λ (b : Bool). TakenAs g j b (awaited n) (find_name n start.own)) q (takes n)) e
    where
      by : {o : Option (Known g.Reported)} {u : Option TypeNo} → TakenAs g j false u o → u ≡ Some t → ⊥
      by not_taken e = absurd cc

  -- ---- names that are begun

  module _ (front : List Declared) (Th : List ℕ → Type 0) (includes : (n : List ℕ) → Theres front n → Th n) (n : List ℕ)
      (a : AnyDeclares block n) where
    abbrev Settled : Option (Known g.Reported) → Type 0
    Settled k = (is_free k ≡ false) × (is_begun k ≡ false)

    taken_by : {k o : Option (Known g.Reported)} {w : Option TypeNo} (t : Bool) → taken n ≡ t
        → (taken n ≡ false → AnyDeclares block n → ⊥) → TakenAs g j t w o → k ≡ o → Th n × Settled k
    taken_by true q c (is_taken s) e = (includes n (inl q), subst Settled (sym e) (refl, refl))
    taken_by true q c (awaits p) e = (includes n (inl q), subst Settled (sym e) (refl, refl))
    taken_by true q c is_a_heading e = (includes n (inl q), subst Settled (sym e) (refl, refl))
    taken_by false q c t e = absurd (c q a)

    outer_taken : {k : Option (Known g.Reported)} → (taken n ≡ false → AnyDeclares block n → ⊥)
        → k ≡ find_name n start.own → Th n × Settled k
    outer_taken c e = taken_by (taken n) refl c (takes n) e

    pub free_decided : {k : Option (Known g.Reported)} → KA front Th n k → Decided (Th n) (not (is_free k))
    free_decided (outer c w e) = let q = outer_taken c e in
        subst (λ (b : Bool). Decided (Th n) (not b)) (sym q.1.0) (holds q.0)
    free_decided (headed p y w e) = holds (includes n (inl y))
    free_decided (ahead d t i c h) = subst (λ (b : Bool). Decided (Th n) (not b)) (sym (mark_free g.Reported d))
        (fails_it h)
    free_decided (reading d t i c h e) = holds h
    free_decided (behind k t i o s) = subst (λ (b : Bool). Decided (Th n) (not b)) (sym s.not_free)
        (holds (includes n (inr (any_named i))))
    free_decided (a_member t i o w e) = holds (includes n (inr (any_named i)))

    pub first_time : {k : Option (Known g.Reported)} → KA front Th n k → (Th n → ⊥) → (taken n ≡ false)
        × (IsThere front n → ⊥) × ((d : Declaration) × IsFirst n d block)
    first_time (outer c w e) h = absurd (h (outer_taken c e).0)
    first_time (headed p y w e) h = absurd (h (includes n (inl y)))
    first_time (ahead d t i c b) h = (t, c, (d, i))
    first_time (reading d t i c b e) h = absurd (h b)
    first_time (behind k t i o s) h = absurd (h (includes n (inr (any_named i))))
    first_time (a_member t i o w e) h = absurd (h (includes n (inr (any_named i))))

    -- whether a heading may stand here, if nothing is begun
    pub data PlaceIs : Place → Type 0 where
      place_free : (Th n → ⊥) → PlaceIs place.Free
      place_taken : Th n → ((t : TypeNo) → awaited n ≡ Some t → (IsHeaded front n → ⊥) → ⊥) → PlaceIs place.Taken
      place_awaited : (p : Procedure) → taken n ≡ true → awaited n ≡ Some p.heading → (IsHeaded front n → ⊥)
          → Some (known.Declared Here (Ok (meaning.Procedure p))) ≡ find_name n start.own → PlaceIs (place.Awaited p)

    place_outer : {k o : Option (Known g.Reported)} {u : Option TypeNo} (t : Bool) → taken n ≡ t
        → (taken n ≡ false → AnyDeclares block n → ⊥) → ((t : TypeNo) → awaited n ≡ Some t → IsHeaded front n → ⊥)
        → awaited n ≡ u → o ≡ find_name n start.own → TakenAs g j t u o → k ≡ o → PlaceIs (name_standing k)
    place_outer true q c w v f (is_taken s) e =
        subst PlaceIs (sym (ap (λ (k : Option (Known g.Reported)). name_standing k) e ∙ s))
        (place_taken (includes n (inl q)) (λ t z h. let y = sym v ∙ z in absurd cc))
    place_outer true q c w v f (awaits p) e =
        subst PlaceIs (sym (ap (λ (k : Option (Known g.Reported)). name_standing k) e))
        (place_awaited p q v (λ h. w p.heading v h) f)
    place_outer true q c w v f is_a_heading e =
        subst PlaceIs (sym (ap (λ (k : Option (Known g.Reported)). name_standing k) e))
        (place_taken (includes n (inl q)) (λ t z h. let y = sym v ∙ z in absurd cc))
    place_outer false q c w v f t e = absurd (c q a)

    pub place_is : ((d : Declaration) → IsFirst n d block → taken n ≡ false → (IsThere front n → ⊥) → Th n → ⊥)
        → {k : Option (Known g.Reported)} → KA front Th n k → PlaceIs (name_standing k)
    place_is never (outer c w e) = place_outer (taken n) refl c w refl refl (takes n) e
    place_is never (headed p y w e) = place_taken (includes n (inl y)) (λ t z h. h w)
    place_is never (ahead d t i c h) = subst PlaceIs (sym (mark_place g.Reported d)) (place_free h)
    place_is never (reading d t i c h e) = absurd (never d i t c h)
    place_is never (behind k t i o s) = subst PlaceIs (sym s.settled)
        (place_taken (includes n (inr (any_named i))) (λ u z h. unawaited n t u z))
    place_is never (a_member t i o w e) = place_taken (includes n (inr (any_named i))) (λ u z h. unawaited n t u z)

  -- one name more is there
  pub widen : {front : List Declared} {Th : List ℕ → Type 0} (x : Ident) {n : List ℕ} {k : Option (Known g.Reported)}
      → (x.name ≡ n → Th n) → KA front Th n k → KA front (λ n. (x.name ≡ n) ⊎ Th n) n k
  widen x h (outer c w e) = outer c w e
  widen x h (headed p y w e) = headed p y w e
  widen x h (ahead d t i c b) = ahead d t i c (λ z. elim z [ inl e ↦ b (h e) | inr y ↦ b y ])
  widen x h (reading d t i c b e) = reading d t i c (inr b) e
  widen x h (behind k t i o s) = behind k t i o s
  widen x h (a_member t i o w e) = a_member t i o w e

  module _ (O : Breach → Type 0) (front : List Declared) (d : Declaration) (ds : List Declaration)
      (undeclared : in_front_of d ≡ Undeclared) (Th : List ℕ → Type 0) (x : Ident) (named : Declares d x.name) where
    abbrev Next : List ℕ → Type 0
    Next n = (x.name ≡ n) ⊎ Th n

    abbrev Begins : State (Unit {0}) g.Reported → Type 0
    Begins b = KB front (d ∷ ds) Next b.0 × Tells g j lawful O (λ f. Th x.name × (f ≡ x.pos ! rule.DeclaredTwice)) b.1

    first_here : {c : Declaration} → IsFirst x.name c (d ∷ ds) → in_front_of c ≡ Undeclared
    first_here (at_first h) = undeclared
    first_here (later_on n i) = absurd (n named)

    any_here : {s : Scope g.Reported} → KB front (d ∷ ds) Th s → AnyDeclares block x.name
    any_here k = k.in_block x.name (d, here, named)

    begins : {s : Scope g.Reported} → KB front (d ∷ ds) Th s → (b : Bool) → Decided (Th x.name) (not b)
        → Begins (cond b (with_known x.name known.Begun s, Ok tt) (s, report g x.pos rule.DeclaredTwice))
    begins {s = s} k true (fails_it h) = let q = first_time front Th k.includes x.name (any_here k) (k.own x.name) h in (
      record {
        same = record {
          withs = k.same.withs;
          outer = k.same.outer;
          types = k.same.types;
          tables = k.same.tables;
          level = k.same.level;
        };
        within = k.within;
        in_block = k.in_block;
        left = k.left;
        includes = λ n t. inr (k.includes n t);
        own = entered_all (λ n o. KA front Next n o) x.name known.Begun s.own
            (reading q.2.0 q.0 q.2.1 q.1 (inl refl) (first_here (k.left x.name q.2.0 q.2.1 q.1)))
            (λ n c. widen x (λ e. absurd (c e)) (k.own n));
        once = λ o. once_more x.name known.Begun (k.once o);
      },
      silent (λ f z. h z.0),
    )
    begins {s = s} k false (holds h) = (
      record {
        same = k.same;
        within = k.within;
        in_block = k.in_block;
        left = k.left;
        includes =
            λ n t. inr (k.includes n t);
        own = λ n. widen x (λ e. subst Th e h) (k.own n);
        once = k.once;
      },
      tells (g.one (x.pos ! rule.DeclaredTwice))
          (accounts_as g j lawful O (λ f e. (h, e)) (λ f z. z.1)
          (accounts_one g j lawful O (x.pos ! rule.DeclaredTwice))),
    )

    pub begin_one : {s : Scope g.Reported} → KB front (d ∷ ds) Th s → Begins (begin_name g s x)
    begin_one {s = s} k = begins k (is_free (find_name x.name s.own))
        (free_decided front Th k.includes x.name (any_here k) (k.own x.name))

  pub begin_all : (O : Breach → Type 0) (front : List Declared) (d : Declaration) (ds : List Declaration)
      → in_front_of d ≡ Undeclared → (xs : List Ident) (Th : List ℕ → Type 0)
      → ((x : Ident) → Among x xs → Declares d x.name)
      → {s : Scope g.Reported} {r : Result (Unit {0}) g.Reported} {B : Breach → Type 0} → KB front (d ∷ ds) Th s
      → Tells g j lawful O B r
      → KB front (d ∷ ds) (Adding xs Th) (fold (begun_name g) (s, r) xs).0
      × Tells g j lawful O (λ f. B f ⊎ Twice Th xs f) (fold (begun_name g) (s, r) xs).1
  begin_all O front d ds u [] Th a k t = (
    k,
    tells_as g j lawful O (λ f b. inl b)
        (λ f z. elim z [ inl b ↦ b | inr b ↦ absurd b ]) t,
  )
  begin_all O front d ds u (x ∷ xs) Th a {s = s} {B = B} k t = let q = begin_one O front d ds u Th x (a x here) k in
      let r = begin_all O front d ds u xs (λ n. (x.name ≡ n) ⊎ Th n) (λ y m. a y (later m)) q.0
      (beside_tells g j lawful O t q.1) in (
        r.0,
        tells_as g j lawful O (λ f z. elim z
            [ inl y ↦ elim y [ inl b ↦ inl b | inr w ↦ inr (inl w) ] | inr b ↦ inr (inr b) ])
            (λ f z. elim z [ inl b ↦ inl (inl b) | inr y ↦ elim y [ inl w ↦ inl (inr w) | inr b ↦ inr b ] ]) r.1,
      )

  -- ---- names that are there

  decided_true : {P : Type 0} {b : Bool} → Decided P b → P → b ≡ true
  decided_true (holds p) q = refl
  decided_true (fails_it n) q = absurd (n q)

  decided_false : {P : Type 0} {b : Bool} → Decided P b → (P → ⊥) → b ≡ false
  decided_false (holds p) n = absurd (n p)
  decided_false (fails_it m) n = refl

  there_decided : (front : List Declared) (n : List ℕ) → Decided (IsThere front n) (is_there front n)
  there_decided [] n = fails_it (λ a. elim a.1 [ ])
  there_decided (d ∷ front) n = decided_as (λ z. more z) (λ z. parts z)
      (either_decided (among_decided (names_of d.what ++ constants_of d.what) n) (there_decided front n))
    where
      more : Declares d.what n ⊎ IsThere front n → IsThere (d ∷ front) n
      more (inl h) = (d.what, here, h)
      more (inr (c, m, h)) = (c, later m, h)

      parts : IsThere (d ∷ front) n → Declares d.what n ⊎ IsThere front n
      parts (c, here, h) = inl h
      parts (c, later m, h) = inr (c, m, h)

  module _ (front : List Declared) (xs : List Ident) (n : List ℕ) (within : IsThere front n → AnyDeclares block n)
      (in_block : Named xs n → AnyDeclares block n) where
    abbrev There_now : Type 0
    There_now = Named xs n ⊎ ((taken n ≡ true) ⊎ IsThere front n)

    abbrev there_now : Bool
    there_now = is_among n xs || (taken n || is_there front n)

    now_decided : Decided There_now there_now
    now_decided = either_decided (among_decided xs n)
        (either_decided (decided_itself (taken n)) (there_decided front n))

    free_outer : {k o : Option (Known g.Reported)} {w : Option TypeNo} (t : Bool) → taken n ≡ t
        → (taken n ≡ false → AnyDeclares block n → ⊥) → TakenAs g j t w o → k ≡ o → there_now ≡ not (is_free k)
    free_outer true q c (awaits p) e = decided_true now_decided (inr (inl q))
        ∙ sym (ap (λ (k : Option (Known g.Reported)). not (is_free k)) e)
    free_outer true q c (is_taken s) e = decided_true now_decided (inr (inl q))
        ∙ sym (ap (λ (k : Option (Known g.Reported)). not (is_free k)) e)
    free_outer true q c is_a_heading e = decided_true now_decided (inr (inl q))
        ∙ sym (ap (λ (k : Option (Known g.Reported)). not (is_free k)) e)
    free_outer false q c not_taken e = decided_false now_decided (λ z. none z)
        ∙ sym (ap (λ (k : Option (Known g.Reported)). not (is_free k)) e)
      where
        none : There_now → ⊥
        none (inl h) = c q (in_block h)
        none (inr (inl u)) = clash u q
        none (inr (inr a)) = c q (within a)

    pub free_now : {k : Option (Known g.Reported)} → KA front (Adding xs (Theres front)) n k
        → there_now ≡ not (is_free k)
    free_now (outer c w e) = free_outer (taken n) refl c (takes n) e
    free_now (headed p y w e) = decided_true now_decided (inr (inl y))
    free_now (ahead d t i c h) = decided_false now_decided (λ z. none z)
        ∙ sym (ap (λ (b : Bool). not b) (mark_free g.Reported d))
      where
        none : There_now → ⊥
        none (inl (x, m, e)) = h (adding_name xs (Theres front) n x m e)
        none (inr (inl u)) = clash u t
        none (inr (inr a)) = c a
    free_now (reading d t i c h e) = decided_true now_decided
        (elim (added xs (Theres front) n h) [ inl z ↦ inl z | inr z ↦ inr z ])
    free_now (behind k t i o s) = decided_true now_decided (inr (inr (any_named i)))
        ∙ sym (ap (λ (b : Bool). not b) s.not_free)
    free_now (a_member t i o w e) = decided_true now_decided (inr (inr (any_named i)))

  -- ---- names that are finished

  module _ (front : List Declared) (d : Declared) (ds : List Declaration) (Th : List ℕ → Type 0) where
    abbrev Own : List ℕ → Type 0
    Own n = Named (names_of d.what) n

    -- If it is a heading of an awaited name, one was there.
    abbrev HeadedBefore : List ℕ → Type 0
    HeadedBefore n = (t : TypeNo) → awaited n ≡ Some t → Heads d.what n → (IsHeaded front n → ⊥) → ⊥

    -- if these of its own names are finished
    pub data MidAs (done : List ℕ → Type 0) (n : List ℕ) : Option (Known g.Reported) → Type 0 where
      is_done : (k : Known g.Reported) → taken n ≡ false → (IsThere front n → ⊥) → done n → Own n → Says front d k
          → MidAs done n (Some k)
      is_member : {e : Member} → taken n ≡ false → (IsThere front n → ⊥) → Declares d.what n → (Own n → ⊥) → Add front d
          → find_name n d.adds.brings ≡ Some e → MidAs done n (Some (member_known e))
      is_other : {k : Option (Known g.Reported)} → (taken n ≡ false → (IsThere front n → ⊥) → done n → ⊥)
          → (taken n ≡ false → (IsThere front n → ⊥) → (Own n → ⊥) → Named (constants_of d.what) n → ⊥) → HeadedBefore n
          → KA front Th n k → MidAs done n k
      is_headed : (p : Procedure) → taken n ≡ true → IsHeaded (d ∷ front) n
          → Some (known.Declared Here (Ok (meaning.Procedure p))) ≡ find_name n start.own
          → MidAs done n (Some (known.Headed (Ok (meaning.Procedure p))))

    pub record KnowsMid (done : List ℕ → Type 0) (s : Scope g.Reported) : Type 0 where
      pub same : SameScope (types_behind start.types (d ∷ front)) s
      pub own : (n : List ℕ) → MidAs done n (find_name n s.own)
      pub once : AreOnce start.own → AreOnce s.own

    -- ---- behind its type

    module _ (includes : (n : List ℕ) → Theres front n → Th n) (reads : (n : List ℕ) → Own n → Th n)
        (only : (n : List ℕ) → Th n → Own n ⊎ Theres front n)
        (in_block : (n : List ℕ) → Declares d.what n → AnyDeclares block n) (add : Add front d)
        (constants : (n : List ℕ) → Decided (Named (constants_of d.what) n) (is_some (find_name n d.adds.brings)))
        (undeclared : in_front_of d.what ≡ Undeclared) where
      before : {n : List ℕ} → HeadedBefore n
      before {n = n} t e h c = no_heads d.what undeclared n h

      apart : {n : List ℕ} → taken n ≡ false → (IsThere front n → ⊥) → (Own n → ⊥) → Th n → ⊥
      apart {n = n} t c o h = elim (only n h) [ inl w ↦ o w | inr y ↦ elim y [ inl u ↦ clash u t | inr a ↦ c a ] ]

      -- a name that is there stays what it is
      kept : {n : List ℕ} (e : Member) {k : Option (Known g.Reported)} → is_free k ≡ false
          → (taken n ≡ false → (IsThere front n → ⊥) → (Own n → ⊥) → Named (constants_of d.what) n → ⊥)
          → KA front Th n k → MidAs (λ n. ⊥) n (entered (Some e) k)
      kept {n = n} e {k = k} q p ka = subst (λ (o : Option (Known g.Reported)). MidAs (λ n. ⊥) n o)
          (sym (ap (λ (b : Bool). cond b (Some (member_known e)) k) q)) (is_other (λ t c z. z) p before ka)

      is_constant : {n : List ℕ} {b : Bool} → Decided (Named (constants_of d.what) n) b → b ≡ true → Declares d.what n
      is_constant (holds m) e = named_right (names_of d.what) m
      is_constant (fails_it c) e = absurd cc

      no_constant : {n : List ℕ} {b : Bool} → Decided (Named (constants_of d.what) n) b → b ≡ false
          → Named (constants_of d.what) n → ⊥
      no_constant (holds m) e = absurd cc
      no_constant (fails_it c) e = c

      mid_by : (n : List ℕ) (o : Option Member) → find_name n d.adds.brings ≡ o → {k : Option (Known g.Reported)}
          → KA front Th n k → MidAs (λ n. ⊥) n (entered o k)
      mid_by n None e ka = is_other (λ t c z. z)
          (λ t c o m. no_constant (constants n) (ap (λ (o : Option Member). is_some o) e) m) before ka
      mid_by n (Some x) e (outer c w q) = let a =
          in_block n (is_constant (constants n) (ap (λ (o : Option Member). is_some o) e)) in
          kept x (outer_taken front Th includes n a c q).1.0 (λ t v o m. c t a) (outer c w q)
      mid_by n (Some x) e (headed p y w q) = kept x refl (λ t c o m. clash y t) (headed p y w q)
      mid_by n (Some x) e (ahead b t i c h) =
          subst (λ (f : Bool). MidAs (λ n. ⊥) n (cond f (Some (member_known x)) (Some (mark_of b))))
          (sym (mark_free g.Reported b))
          (is_member t c (is_constant (constants n) (ap (λ (o : Option Member). is_some o) e)) (λ o. h (reads n o)) add
          e)
      mid_by n (Some x) e (reading b t i c h q) =
          is_other (λ t c z. z) (λ t c o m. apart t c o h) before (reading b t i c h q)
      mid_by n (Some x) e (behind k t i w s) = kept x s.not_free (λ t c o m. c (any_named i)) (behind k t i w s)
      mid_by n (Some x) e (a_member t i w a q) =
          is_other (λ t c z. z) (λ t c o m. c (any_named i)) before (a_member t i w a q)

      pub mid_begins : {s t : Scope g.Reported} {rest : List Declaration} → KB front rest Th s
          → SameScope (types_behind start.types (d ∷ front)) t → Enters d.adds.brings s.own t.own → KnowsMid (λ n. ⊥) t
      mid_begins {s = s} k same e = record {
        same = same;
        own =
            λ n. subst (λ (o : Option (Known g.Reported)). MidAs (λ n. ⊥) n o) (sym (e.found n))
            (mid_by n (find_name n d.adds.brings) refl (k.own n));
        once = λ o. e.once (k.once o);
      }

    mid_one : {P Q : List ℕ → Type 0} {n : List ℕ} {k : Option (Known g.Reported)} → (P n → Q n) → (Q n → P n)
        → MidAs P n k → MidAs Q n k
    mid_one pq qp (is_done k t c w o s) = is_done k t c (pq w) o s
    mid_one pq qp (is_member t c w o a e) = is_member t c w o a e
    mid_one pq qp (is_other o p z k) = is_other (λ t c w. o t c (qp w)) p z k
    mid_one pq qp (is_headed p y w e) = is_headed p y w e

    pub mid_as : {P Q : List ℕ → Type 0} {s : Scope g.Reported} → ((n : List ℕ) → P n → Q n)
        → ((n : List ℕ) → Q n → P n) → KnowsMid P s → KnowsMid Q s
    mid_as pq qp k = record { same = k.same; own = λ n. mid_one (pq n) (qp n) (k.own n); once = k.once }

    module _ (includes : (n : List ℕ) → Theres front n → Th n) (x : Ident) (mine : Own x.name)
        (a : AnyDeclares block x.name) (th : Th x.name) (m : Result Meaning g.Reported)
        (say : Says front d (known.Declared Here m)) (done : List ℕ → Type 0) where
      abbrev Done : List ℕ → Type 0
      Done n = (x.name ≡ n) ⊎ done n

      mid_more : {n : List ℕ} {k : Option (Known g.Reported)}
          → (x.name ≡ n → taken n ≡ false → (IsThere front n → ⊥) → done n) → MidAs done n k → MidAs Done n k
      mid_more h (is_done k t c w o s) = is_done k t c (inr w) o s
      mid_more h (is_member t c w o b e) = is_member t c w o b e
      mid_more h (is_other o p x k) = is_other (λ t c z. elim z [ inl e ↦ o t c (h e t c) | inr w ↦ o t c w ]) p x k
      mid_more h (is_headed p y w e) = is_headed p y w e

      abbrev Ends : Scope g.Reported → Type 0
      Ends s = KnowsMid Done s

      unchanged : {s : Scope g.Reported} → KnowsMid done s
          → (taken x.name ≡ false → (IsThere front x.name → ⊥) → done x.name) → (b : Bool) → b ≡ false
          → Ends (cond b (with_known x.name (known.Declared Here m) s) s)
      unchanged k h true e = absurd cc
      unchanged k h false e = record {
        same = k.same;
        own =
            λ n. mid_more (λ q. subst (λ (n : List ℕ). taken n ≡ false → (IsThere front n → ⊥) → done n) q h) (k.own n);
        once = k.once;
      }

      changed : {s : Scope g.Reported} → KnowsMid done s → taken x.name ≡ false → (IsThere front x.name → ⊥)
          → (b : Bool) → b ≡ true → Ends (cond b (with_known x.name (known.Declared Here m) s) s)
      changed k t c false e = absurd cc
      changed {s = s} k t c true e = record {
        same = record {
          withs = k.same.withs;
          outer = k.same.outer;
          types = k.same.types;
          tables = k.same.tables;
          level = k.same.level;
        };
        own = entered_all (λ n o. MidAs Done n o) x.name (known.Declared Here m) s.own
            (is_done (known.Declared Here m) t c (inl refl) mine say) (λ n z. mid_more (λ e. absurd (z e)) (k.own n));
        once = λ o. once_more x.name (known.Declared Here m) (k.once o);
      }

      ends : {s : Scope g.Reported} {k : Option (Known g.Reported)} → KnowsMid done s → find_name x.name s.own ≡ k
          → MidAs done x.name k → Ends (finish_name s x m)
      ends k e (is_done w t c z o q) = unchanged k (λ u v. z) _
          (ap (λ (o : Option (Known g.Reported)). is_begun o) e ∙ q.not_begun)
      ends k e (is_member t c w o b q) = absurd (o mine)
      ends k e (is_headed p y w q) = unchanged k (λ t c. absurd (clash y t)) _
          (ap (λ (o : Option (Known g.Reported)). is_begun o) e)
      ends k e (is_other o p z (headed v y w q)) =
          unchanged k (λ t c. absurd (clash y t)) _ (ap (λ (o : Option (Known g.Reported)). is_begun o) e)
      ends k e (is_other o p z (outer c w q)) =
          unchanged k (λ t u. absurd (c t a)) _
          (ap (λ (o : Option (Known g.Reported)). is_begun o) e ∙ (outer_taken front Th includes x.name a c q).1.1)
      ends k e (is_other o p z (ahead d t i c h)) = absurd (h th)
      ends k e (is_other o p z (reading d t i c h q)) =
          changed k t c _ (ap (λ (o : Option (Known g.Reported)). is_begun o) e)
      ends k e (is_other o p z (behind w t i v q)) =
          unchanged k (λ t c. absurd (c (any_named i))) _
          (ap (λ (o : Option (Known g.Reported)). is_begun o) e ∙ q.not_begun)
      ends k e (is_other o p z (a_member t i v b q)) =
          unchanged k (λ t c. absurd (c (any_named i))) _ (ap (λ (o : Option (Known g.Reported)). is_begun o) e)

      pub finish_one : {s : Scope g.Reported} → KnowsMid done s → Ends (finish_name s x m)
      finish_one {s = s} k = ends k refl (k.own x.name)

    -- behind the declaration
    module _ (within : (n : List ℕ) → IsThere front n → AnyDeclares block n)
        (in_block : (n : List ℕ) → AnyDeclares (d.what ∷ ds) n → AnyDeclares block n)
        (left : (n : List ℕ) (c : Declaration) → IsFirst n c block → (IsThere front n → ⊥) → IsFirst n c (d.what ∷ ds))
        (reads : (n : List ℕ) → Own n → Th n) (only : (n : List ℕ) → Th n → Own n ⊎ Theres front n) where
      there_parts : (n : List ℕ) → IsThere (d ∷ front) n → Declares d.what n ⊎ IsThere front n
      there_parts n (c, here, h) = inl h
      there_parts n (c, later m, h) = inr (c, m, h)

      there_more : (n : List ℕ) → Theres (d ∷ front) n → Declares d.what n ⊎ Theres front n
      there_more n (inl t) = inr (inl t)
      there_more n (inr h) = elim (there_parts n h) [ inl w ↦ inl w | inr y ↦ inr (inr y) ]

      neither : {n : List ℕ} → taken n ≡ false → (IsThere front n → ⊥) → Theres front n → ⊥
      neither t c (inl q) = clash q t
      neither t c (inr q) = c q

      undeclared : {n : List ℕ} → ((Own n → ⊥) → Named (constants_of d.what) n → ⊥) → (Th n → ⊥) → Declares d.what n → ⊥
      undeclared {n = n} p h w = elim (named_split (names_of d.what) w)
          [ inl o ↦ h (reads n o) | inr m ↦ p (λ o. h (reads n o)) m ]

      behind_it : {n : List ℕ} {k : Option (Known g.Reported)} → MidAs Own n k → KA (d ∷ front) (Theres (d ∷ front)) n k
      behind_it (is_done k t c w o s) = behind k t (nearest (named_left (constants_of d.what) o) c) o s
      behind_it (is_member t c w o a e) = a_member t (nearest w c) o a e
      behind_it (is_headed p y w e) = headed p y w e
      behind_it (is_other o p z (headed v y w e)) = headed v y (w.0, later w.1, w.2) e
      behind_it {n = n} (is_other o p z (outer c w e)) = outer c (λ t v h. unheaded t v h) e
        where
          unheaded : (t : TypeNo) → awaited n ≡ Some t → IsHeaded (d ∷ front) n → ⊥
          unheaded t v (_, here, h) = z t v h (λ q. w t v q)
          unheaded t v (x, later m, h) = w t v (x, m, h)
      behind_it {n = n} (is_other o p z (ahead b t i c h)) =
          ahead b t i (λ z. elim (there_parts n z) [ inl w ↦ undeclared (p t c) h w | inr y ↦ c y ])
          (λ z. elim (there_more n z) [ inl w ↦ undeclared (p t c) h w | inr y ↦ neither t c y ])
      behind_it {n = n} (is_other o p z (reading b t i c h e)) =
          absurd (elim (only n h) [ inl w ↦ o t c w | inr y ↦ neither t c y ])
      behind_it (is_other o p z (behind k t i v s)) = behind k t (farther i) v s
      behind_it (is_other o p z (a_member t i v a e)) = a_member t (farther i) v a e

      left_more : {n : List ℕ} {c : Declaration} → (Declares d.what n → ⊥) → IsFirst n c (d.what ∷ ds) → IsFirst n c ds
      left_more h (at_first w) = absurd (h w)
      left_more h (later_on n i) = i

      pub finish_end : {s : Scope g.Reported} → KnowsMid Own s → KB (d ∷ front) ds (Theres (d ∷ front)) s
      finish_end k = record {
        same = k.same;
        within = λ n a. elim (there_parts n a) [ inl w ↦ in_block n (d.what, here, w) | inr y ↦ within n y ];
        in_block = λ n a. in_block n (a.0, later a.1, a.2);
        left = λ n c i h. left_more (λ w. h (d.what, here, w)) (left n c i (λ y. h (y.0, later y.1, y.2)));
        includes = λ n t. t;
        own = λ n. behind_it (k.own n);
        once = k.once;
      }
