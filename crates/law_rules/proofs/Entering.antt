-- What is known where the block of a procedure begins.
use Rattle.std.proofs.Common.{◌≡◌, ℕ, ◌+◌, ◌<◌, Bool, true, false, cond, List, [], ◌∷◌, ◌++◌, length, Option, None, Result, Ok, ◌⊎◌, inl, inr, refl, sym, ap, subst, ◌∙◌, arith}
use Rattle.std.specs.Prelude.{◌==◌, ◌&&◌, ◌||◌, not}
use Rattle.std.specs.Option.{is_some}
use Rattle.std.proofs.lemmas.Bool.Decides.{nat_tests}
use Rattle.m2_rule.specs.declared.breach.Breach.{Breach}
use Rattle.m2_tree.specs.declared.name.Ident.{Ident}
use Rattle.m2_tree.specs.declared.decl.Section.{Section}
use Rattle.m2_tree.specs.declared.decl.Heading.{Heading}
use Rattle.typed_tree.specs.declared.meaning.LocalVariable.{LocalVariable}
use Rattle.typed_tree.specs.declared.meaning.Meaning.{Meaning}
use Rattle.typed_tree.specs.declared.meaning.Meaning.TheVariants as meaning
use Rattle.typed_tree.specs.declared.shape.Formal.{Formal}
use Rattle.typed_tree.specs.declared.types.TypeNo.{TypeNo}
use Rattle.typed_tree.specs.Names.{find_name}
use Rattle.check_scope.specs.declared.meaningless.Meaningless.{Meaningless}
use Rattle.check_scope.specs.declared.scope.Block.{Block as Around}
use Rattle.check_scope.specs.declared.scope.Scope.{Scope}
use Rattle.check_scope.specs.Elaborated.{Gathers}
use Rattle.check_scope.specs.Scopes.{State, looked_up}
use Rattle.check_block.specs.Inner.{formal_kind, entered_procedure}
use Rattle.check_body.specs.Inside.{returns_of}
use Rattle.check_stmt_parts.specs.Control.{is_own}
use Rattle.def_typing.specs.Things.{Standing, Ahead}
use Rattle.def_typing.specs.Parts.{Among}
use Rattle.def_typing.specs.TypeNames.{BrokenTypeName}
use Rattle.def_typing.specs.Headings.{BrokenResult}
use Rattle.def_typing.specs.Returns.{Giving}
use Rattle.def_typing.specs.Declarations.{Declaration, OfProcedure, AnyDeclares, Declared as Resolved, in_order, types_behind}
use Rattle.def_typing.specs.Bodies.{is_formal, SeenAs, InsideAs, BodyGives, is_declared, Place, in_procedure, module_variables}
use Rattle.law_typing.specs.Judging.{Judges}
use Rattle.law_typing.specs.Exact.{is_own_variable, Knows, KnowsOwn, Repeats, RepeatsResult, is_nested, IsAsBefore}
use Rattle.law_typing.proofs.Combining.{Lawful}
use Rattle.law_rules.specs.Blocks.{KnowsPlace}
use Rattle.law_rules.proofs.BodiesKeeping.{Keeps}
use Rattle.law_rules.proofs.Reading.{All, AddedAll, Breaks, never_ahead, HeadingAt, heading_at}
use Rattle.law_rules.proofs.Seeing.{PlaceIs, In, seen_there, seen_knows, seen_repeats, known_around}
use Rattle.law_rules.proofs.BodiesFormals.{NameIs, of_around, of_formal, of_broken, name_is, inside_there, inside_knows, inside_repeats, inside_takes, gives_there, gives_knows, gives_repeats}
use Rattle.law_rules.proofs.Extending.{Extends, extends_then}
use Rattle.law_rules.proofs.Refusing.{formal_refused, result_refused}
use Rattle.law_rules.proofs.Owning.{local_around, mine_counts}

length_more : {A : Type 0} (xs : List A) (x : A) → length (xs ++ x ∷ []) ≡ length xs + 1
length_more [] x = refl
length_more (y ∷ xs) x = let e = length_more xs x in omega (arith, e)

module _ (g : Gathers) (j : Judges g) (lawful : Lawful g j) (exports : ℕ → Ident → Standing) (p : Place)
    (start : Scope g.Reported) (block : List Declaration) (whole : List Resolved) (order : in_order whole ≡ block)
    (added : AddedAll start.types exports p.names p.taken p.awaited (is_nested start) block whole)
    (names : Ident → Standing) (all : All start.types exports p.names p.taken p.awaited (is_nested start) block whole
    names) (own : Ident → Bool)
    (v : Scope g.Reported) (keeps : Keeps start v) (no_withs : start.withs ≡ [])
    (knows : (ns : Ident → Standing) → All start.types exports p.names p.taken p.awaited (is_nested start) block whole
    ns → Knows g j ns exports v)
    (owns_first : KnowsOwn g j p.own start) (owns : KnowsOwn g j own v)
    (none_first : (n : List ℕ) → p.taken n ≡ false → find_name n start.own ≡ None)
    (others : (n : List ℕ) → (p.taken n ≡ false → AnyDeclares block n → ⊥)
    → IsAsBefore (find_name n start.own) (find_name n v.own))
    (declared : (n : List ℕ) → p.taken n ≡ false → AnyDeclares block n → find_name n v.own ≡ None → ⊥)
    (level : start.level < length start.outer)
    (locals : (name : Ident) (x : LocalVariable) → looked_up g start name ≡ Ok (meaning.Local x)
    → (is_nested start ≡ true) × (x.level < length start.outer)
    × ((is_own x.kind && (x.level == start.level)) ≡ false))
    (front : List Declaration) (h : Heading) (rest : List Declaration) (text : block ≡ front ++ OfProcedure h ∷ rest)
    (seen : ℕ) (places : (n : List ℕ) → PlaceIs g j p.taken block (AnyDeclares front) start.level v seen n (find_name n v.own))
    (extends : Extends (types_behind start.types whole) v.types)
    (nested : p.nested ≡ is_nested start) where
  pub no_withs_now : v.withs ≡ []
  no_withs_now = keeps.withs ∙ no_withs

  pub knows_names : Knows g j names exports v
  knows_names = knows names all

  pub ahead : (name : Ident) → p.taken name.name ≡ false → AnyDeclares block name.name → names name ≡ Ahead → ⊥
  ahead name t a e = never_ahead start.types exports p.names p.taken p.awaited (is_nested start) block whole order name
      t a (all name) e

  -- ---- around it

  abbrev pub around : Scope g.Reported
  around = In g j p.taken block (AnyDeclares front) start.level v seen exports names knows_names no_withs_now places ahead

  pub sights : (sight : Ident → Standing) × ((name : Ident) → SeenAs p.taken block front names name (sight name))
  sights = seen_there g j p.taken block (AnyDeclares front) start.level v seen exports names knows_names no_withs_now places ahead

  abbrev pub sight : Ident → Standing
  sight = sights.0

  pub sees : (name : Ident) → SeenAs p.taken block front names name (sight name)
  sees = sights.1

  pub sight_knows : Knows g j sight exports around
  sight_knows = seen_knows g j p.taken block (AnyDeclares front) start.level v seen exports names knows_names no_withs_now places
      ahead sight sees

  sight_repeats : (f : Breach) → Repeats g j sight around f → Repeats g j names v f
  sight_repeats = seen_repeats g j p.taken block (AnyDeclares front) start.level v seen exports names knows_names no_withs_now places
      ahead sight sees

  -- ---- inside

  pub insides : (inside : Ident → Standing) × ((name : Ident) → InsideAs exports sight h name (inside name))
  insides = inside_there g j lawful exports sight around no_withs_now refl sight_knows h

  abbrev pub inside : Ident → Standing
  inside = insides.0

  pub stands_inside : (name : Ident) → InsideAs exports sight h name (inside name)
  stands_inside = insides.1

  pub given : (w : Giving) × BodyGives exports sight h v.types w
  given = gives_there g j lawful exports sight around no_withs_now refl sight_knows h

  abbrev pub gives : Giving
  gives = given.0

  pub body_gives : BodyGives exports sight h v.types gives
  body_gives = given.1

  abbrev pub entered : State (Option TypeNo) g.Reported
  entered = entered_procedure g v seen h

  abbrev pub place : Place
  place = in_procedure h inside (module_variables p block own) gives

  -- ---- variables

  inner_level : length v.outer ≡ length start.outer
  inner_level = ap (λ (bs : List (Around g.Reported)). length bs) keeps.outer

  mine_is : (name : Ident) (m : Meaning) → looked_up g v name ≡ Ok m
      → module_variables p block own name ≡ is_own_variable entered.0 m
  mine_is name m e = ap (λ (b : Bool). cond b ((p.taken name.name || not (is_declared name.name block)) && p.own name)
      (own name)) nested
      ∙ mine_counts g j start v p.taken block p.own own keeps no_withs none_first others level locals owns_first owns
      entered.0 refl inner_level declared name m e

  kind_own : (f : Formal) → is_own (formal_kind f) ≡ false
  kind_own f = by f.is_open f.is_var
    where
      by : (o r : Bool) → is_own (formal_kind (record { is_var = r; is_open = o; of = f.of })) ≡ false
      by true r = refl
      by false true = refl
      by false false = refl

  same_ok : {m n : Meaning} → ◌≡◌ {A = Result Meaning (Meaningless g.Reported)} (Ok m) (Ok n) → m ≡ n
  same_ok e = cc

  abbrev Name : Ident → Type 0
  Name = NameIs g j lawful exports sight around no_withs_now refl sight_knows h

  pub around_known : (name : Ident) (m : Meaning) → looked_up g around name ≡ Ok m → looked_up g v name ≡ Ok m
  around_known = known_around g j p.taken block (AnyDeclares front) start.level v seen exports names knows_names no_withs_now places
      ahead sight sees

  formal_own : (f : Formal) (l n : ℕ) {m : Meaning}
      → meaning.Local (record { level = l; number = n; kind = formal_kind f; of = f.of }) ≡ m
      → false ≡ is_own_variable entered.0 m
  formal_own f l n e = subst (λ (m : Meaning). false ≡ is_own_variable entered.0 m) e
      (sym (ap (λ (b : Bool). b && (l == entered.0.level)) (kind_own f)))

  own_by : (name : Ident) → Name name → (m : Meaning) → looked_up g entered.0 name ≡ Ok m
      → (not (is_formal name.name h) && module_variables p block own name) ≡ is_own_variable entered.0 m
  own_by name (of_around e l t) m q = ap (λ (o : Option Section). not (is_some o) && module_variables p block own name)
      e ∙ mine_is name m (around_known name m (sym l ∙ q))
  own_by name (of_formal x t k e n u l z) m q =
      ap (λ (o : Option Section). not (is_some o) && module_variables p block own name) e
      ∙ formal_own (record { is_var = x.is_var; is_open = x.of.is_open; of = t }) around.level k (same_ok (sym l ∙ q))
  own_by name (of_broken x r e n a l z) m q = let c = sym l ∙ q in absurd cc

  owns_inside : KnowsOwn g j place.own entered.0
  owns_inside name m q = own_by name (name_is g j lawful exports sight around no_withs_now refl sight_knows h name) m q

  abbrev Local : LocalVariable → Type 0
  Local x = (is_nested entered.0 ≡ true) × (x.level < length entered.0.outer)
      × ((is_own x.kind && (x.level == entered.0.level)) ≡ false)

  is_inner : is_nested entered.0 ≡ true
  is_inner = ap (λ (b : Bool). not b) (some_level level inner_level)
    where
      some_level : {a b c : ℕ} → a < b → c ≡ b → (c == 0) ≡ false
      some_level l e = grind (arith, nat_tests)

  outer_length : length entered.0.outer ≡ length start.outer + 1
  outer_length = length_more v.outer (record { names = v.own; seen = seen }) ∙ ap (λ (n : ℕ). n + 1) inner_level

  local_outer : (x : LocalVariable) → x.level < length start.outer → Local x
  local_outer x l = (
    is_inner,
    lower l outer_length,
    ap (λ (b : Bool). is_own x.kind && b) (other_level l inner_level)
        ∙ never (is_own x.kind),
  )
    where
      lower : {a b c : ℕ} → a < b → c ≡ b + 1 → a < c
      lower l e = omega (arith, l, e)

      other_level : {a b c : ℕ} → a < b → c ≡ b → (a == c) ≡ false
      other_level l e = grind (arith, nat_tests)

      never : (b : Bool) → (b && false) ≡ false
      never true = refl
      never false = refl

  same_local : {x y : LocalVariable} → meaning.Local x ≡ meaning.Local y → x ≡ y
  same_local e = cc

  local_formal : (f : Formal) (n : ℕ) → Local
      (record { level = around.level; number = n; kind = formal_kind f; of = f.of })
  local_formal f n = (
    is_inner,
    lower outer_length inner_level,
    ap
        (λ (b : Bool). b && (around.level == entered.0.level)) (kind_own f),
  )
    where
      lower : {a b c : ℕ} → c ≡ b + 1 → a ≡ b → a < c
      lower e q = omega (arith, e, q)

  local_by : (name : Ident) → Name name → (x : LocalVariable) → looked_up g entered.0 name ≡ Ok (meaning.Local x)
      → Local x
  local_by name (of_around e l t) x q = local_outer x
      (local_around g j start v p.taken block p.own own keeps no_withs none_first others level locals owns_first owns
      name x (around_known name (meaning.Local x) (sym l ∙ q))).1
  local_by name (of_formal y t k e n u l z) x q =
      subst Local (same_local (same_ok (sym l ∙ q)))
      (local_formal (record { is_var = y.is_var; is_open = y.of.is_open; of = t }) k)
  local_by name (of_broken y r e n a l z) x q = let c = sym l ∙ q in absurd cc

  -- ---- all of it

  pub place_known : KnowsPlace g j exports place entered.0 (returns_of entered.1)
  place_known = record {
    names = inside_knows g j lawful exports sight around no_withs_now refl sight_knows h inside stands_inside;
    no_withs = no_withs_now;
    own = owns_inside;
    takes = inside_takes g j lawful exports sight around no_withs_now refl sight_knows h;
    gives = gives_knows g j lawful exports sight around no_withs_now refl sight_knows h gives body_gives;
    nested = sym is_inner;
    level = let a = outer_length in let b = inner_level in omega (arith, a, b);
    locals = λ name x q. local_by name (name_is g j lawful exports sight around no_withs_now refl sight_knows h name) x
        q;
  }

  headed : HeadingAt start.types exports p.names p.taken p.awaited (is_nested start) block whole front h
  headed = heading_at start.types exports p.names p.taken p.awaited (is_nested start) block whole added front h rest
      (order ∙ text)

  abbrev Else : Breach → Type 0
  Else f = Repeats g j names v f ⊎ Breaks start.types exports p.names p.taken p.awaited (is_nested start) block whole f

  pub of_formals : (f : Breach) → Repeats g j sight around f
      ⊎ ((x : Section) × Among x h.formals × BrokenTypeName sight exports x.of.of f) → Else f
  of_formals f (inl o) = inl (sight_repeats f o)
  of_formals f (inr z) = inr (formal_refused g j exports p.names start p.taken p.awaited block whole order v knows front
      names all sight sees h headed z.0 z.1 f z.2)

  of_result : (f : Breach) → BrokenResult around.types sight exports h.result f ⊎ Repeats g j sight around f → Else f
  of_result f (inl b) = inr (result_refused g j exports p.names start p.taken p.awaited block whole order v knows front
      names all sight sees h headed v.types (extends_then (types_behind start.types headed.before)
      (types_behind start.types whole) v.types headed.made extends) f b)
  of_result f (inr o) = inl (sight_repeats f o)

  -- What the body repeats is broken in the block, or repeated there.
  pub place_repeats : (f : Breach) → RepeatsResult g j inside entered.0 (returns_of entered.1) f → Else f
  place_repeats f (inl o) = of_formals f (inside_repeats g j lawful exports sight around no_withs_now refl sight_knows h
      inside stands_inside f o)
  place_repeats f (inr o) = of_result f (gives_repeats g j lawful exports sight around no_withs_now refl sight_knows h f
      o)
