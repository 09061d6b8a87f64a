-- A name of a type that is found where a declaration is met is found again where the procedure's block begins.
use Rattle.std.proofs.Common.{◌≡◌, ℕ, ◌<◌, Bool, true, false, List, [], ◌∷◌, ◌++◌, Option, Some, None, Result, Ok, Err, refl, sym, ap, subst, ◌∙◌}
use Rattle.std.specs.Prelude.{slice_get, nat_lt}
use Rattle.std.specs.List.{fold}
use Rattle.std.specs.Option.{option_map}
use Rattle.std.proofs.lemmas.Bool.{lt-ltb}
use Rattle.m2_rule.specs.declared.rule.Rule.TheVariants as rule
use Rattle.m2_tree.specs.declared.pos.Pos.{Pos}
use Rattle.m2_tree.specs.declared.name.Ident.{Ident}
use Rattle.m2_tree.specs.declared.expr.Qualified.{Qualified}
use Rattle.m2_tree.specs.declared.decl.Decl.{Decl}
use Rattle.typed_tree.specs.declared.meaning.Meaning.{Meaning}
use Rattle.typed_tree.specs.declared.meaning.Meaning.TheVariants as meaning
use Rattle.typed_tree.specs.declared.table.Table.{Table}
use Rattle.typed_tree.specs.declared.types.TypeNo.{TypeNo}
use Rattle.typed_tree.specs.Names.{find_name}
use Rattle.check_scope.specs.declared.meaningless.Meaningless.{Meaningless}
use Rattle.check_scope.specs.declared.meaningless.Meaningless.TheVariants.{Broken, Headless}
use Rattle.check_scope.specs.Elaborated.{Gathers, of_sort, ◌▷◌}
use Rattle.check_scope.specs.Scopes.{is_free, Sight, or_outside, seen_at, in_block, nearer, known_outside, or_around, sight_of, means_seen, means_as, open_field, means_or, looked_up}
use Rattle.check_scope.specs.declared.known.Known.{Known}
use Rattle.check_scope.specs.declared.known.Known.TheVariants.{Later, Ahead, Begun, Headed, Declared}
use Rattle.check_scope.specs.declared.known.Origin.{Origin}
use Rattle.check_scope.specs.declared.known.Origin.TheVariants.{Here, Module, Export}
use Rattle.check_scope.specs.declared.scope.Block.{Block}
use Rattle.check_scope.specs.declared.scope.OpenedRecord.{OpenedRecord}
use Rattle.check_scope.specs.declared.scope.Scope.{Scope}
use Rattle.check_const.specs.Denote.{exported_meaning}
use Rattle.check_type_expr.specs.Named.{type_meant, in_module, of_module, named_type}
use Rattle.check_block.specs.Declarations.{Course, with_decl}
use Rattle.check_scope.specs.Inwards.{inwards}
use Rattle.check_block.specs.Naming.{marked_decl}
use Rattle.law_well_formed.specs.FormedHeadings.{marked_by, declared_by, all, course_begin, scope_before, end, names_before, IsBehind, NamesStay}
use Rattle.law_well_formed.proofs.Basics.{plain_ok}
use Rattle.law_well_formed.proofs.HeadingsLists.{index, index_less, place_found, place_none, Stands, stands_at}
use Rattle.law_well_formed.proofs.HeadingsSteps.{is_settled, free_unsettled, Keeps, Marked, marked_refl, marked_then, MarksAll, Changes, changes_refl, changes_then, changes_first, changes_second}
use Rattle.law_well_formed.proofs.HeadingsDeclarations.{decl_marked, decl_changes}

-- ---- the declarations of a block, one after another

marked_append : {T : Type 0} (s : Scope T) (xs ys : List Decl) → marked_by s (xs ++ ys) ≡ marked_by (marked_by s xs) ys
marked_append s [] ys = refl
marked_append s (x ∷ xs) ys = marked_append (marked_decl s x) xs ys

module _ (g : Gathers) (ends : List ℕ) where
  pub declared_append : (c : Course g.Reported) (xs ys : List Decl)
      → declared_by g ends c (xs ++ ys) ≡ declared_by g ends (declared_by g ends c xs) ys
  declared_append c [] ys = refl
  declared_append c (x ∷ xs) ys = declared_append (with_decl g ends c x) xs ys

  pub block_marked : (ds : List Decl) → MarksAll {T = g.Reported} (λ z. marked_by z ds)
  block_marked [] s = marked_refl s
  block_marked (d ∷ ds) s = marked_then (decl_marked g d s) (block_marked ds (marked_decl s d))

  pub block_changes : (ds : List Decl) (c : Course g.Reported)
      → Changes (λ z. marked_by z ds) c.0 (declared_by g ends c ds).0
  block_changes [] c = changes_refl _ c.0
  block_changes (d ∷ ds) c =
      changes_then (changes_first (λ z. marked_decl z d) (λ z. marked_by z ds) (block_marked ds)
      (decl_changes g ends c d))
      (changes_second (λ z. marked_decl z d) (λ z. marked_by z ds) (block_changes ds (with_decl g ends c d)))

-- ---- what is known of a name

unfree : {T : Type 0} (k : Known T) → is_settled k ≡ true → is_free (Some k) ≡ true → ⊥
unfree k s f = absurd (let z : true ≡ false = sym s ∙ free_unsettled (Some k) f in cc)

outside_last : {T : Type 0} (name : List ℕ) (bs : List (Block T)) (b : Block T) (far : Sight T)
    → fold (nearer name) far (bs ++ b ∷ []) ≡ nearer name (fold (nearer name) far bs) b
outside_last name [] b far = refl
outside_last name (x ∷ bs) b far = outside_last name bs b (nearer name far x)

stands_seen : {T : Type 0} (n : ℕ) (k : Known T) (es : List (List ℕ × Known T)) (i : ℕ) → Stands es i k → i < n
    → option_map {U = Known T × Bool} (λ e. (e.1, nat_lt i n)) (slice_get es i) ≡ Some (k, true)
stands_seen {T} n k es i h l =
    let sight : Bool → Sight T = λ b. Some (k, b) in
    ap (λ (o : Option (List ℕ × Known T)). option_map {U = Known T × Bool} (λ e. (e.1, nat_lt i n)) o) h.1
    ∙ ap sight (lt-ltb i n l)

module _ (g : Gathers) (ends : List ℕ) (a : Scope g.Reported) (first : ℕ) (before : List Decl) (d : Decl)
    (rest : List Decl) where
  abbrev u : Scope g.Reported
  u = marked_by a before

  abbrev m : Scope g.Reported
  m = marked_by a (all g ends a first before d rest)

  abbrev here : Scope g.Reported
  here = scope_before g ends a first before d rest

  abbrev last : Scope g.Reported
  last = end g ends a first before d rest

  abbrev before_it : ℕ
  before_it = names_before g ends a first before d rest

  later_marks : Marked u m
  later_marks = subst (λ (s : Scope g.Reported). Marked u s) (sym (marked_append a before (d ∷ rest)))
      (block_marked g ends (d ∷ rest) u)

  to_here : Changes (λ z. marked_by z before) m here
  to_here = block_changes g ends before (course_begin g ends a first before d rest)

  pub to_last : Keeps here last
  to_last =
      let c : Course g.Reported = declared_by g ends (course_begin g ends a first before d rest) before in
      subst (λ (e : Course g.Reported). Keeps here e.0)
      (sym (declared_append g ends (course_begin g ends a first before d rest) before (d ∷ rest)))
      ((block_changes g ends (d ∷ rest) c).keeps)

  whole : Changes (λ z. marked_by z (all g ends a first before d rest)) m last
  whole = block_changes g ends (all g ends a first before d rest) (course_begin g ends a first before d rest)

  -- a settled name was marked before the declaration
  marked_before : (name : List ℕ) (k : Known g.Reported) → is_settled k ≡ true → find_name name here.own ≡ Some k
      → (o : Option (Known g.Reported)) → find_name name u.own ≡ o → (k' : Known g.Reported)
      × (find_name name u.own ≡ Some k')
  marked_before name k s e (Some k') h = (k', h)
  marked_before name k s e None h =
      let same : find_name name here.own ≡ find_name name m.own = to_here.others a name h in
      let f : is_free (Some k) ≡ true = ap is_free (sym e ∙ same) ∙ later_marks.free name h in
      absurd (unfree k s f)

  settled_block : (name : List ℕ) (k : Known g.Reported) → is_settled k ≡ true → find_name name here.own ≡ Some k
      → in_block name (record { names = last.own; seen = before_it }) ≡ Some (k, true)
  settled_block name k s e =
      let first_found = marked_before name k s e (find_name name u.own) refl in
      let in_marks = later_marks.keeps.there name first_found.0 first_found.1 in
      let at_end : find_name name last.own ≡ Some k = to_last.settled name k s e in
      let place : index name last.own ≡ index name u.own = to_last.places name k e
      ∙ (to_here.keeps.places name in_marks.0 in_marks.1
      ∙ later_marks.keeps.places name first_found.0 first_found.1) in
      let less : index name last.own < before_it =
      subst (λ (n : ℕ). n < before_it) (sym place) (index_less name u.own first_found.0 first_found.1) in
      ap (λ (o : Option ℕ). seen_at before_it last.own o) (place_found name last.own k at_end)
      ∙ stands_seen before_it k last.own (index name last.own) (stands_at name last.own k at_end) less

  -- a name that is not there is none of the block's
  none_marked : (name : List ℕ) → find_name name here.own ≡ None → (o : Option (Known g.Reported))
      → find_name name m.own ≡ o → find_name name m.own ≡ None
  none_marked name e None h = h
  none_marked name e (Some k) h = let t = to_here.keeps.there name k h in
      absurd (let z : Some t.0 ≡ None = sym t.1 ∙ e in cc)

  absent_block : (name : List ℕ) → find_name name here.own ≡ None
      → in_block name (record { names = last.own; seen = before_it }) ≡ None
  absent_block name e =
      let n : find_name name m.own ≡ None = none_marked name e (find_name name m.own) refl in
      let at_end : find_name name last.own ≡ None = whole.others a name n ∙ n in
      ap (λ (o : Option ℕ). seen_at before_it last.own o) (place_none name last.own at_end)

  module _ (w : Scope g.Reported) (behind : IsBehind last w) (no_withs : a.withs ≡ []) where
    abbrev inner : Scope g.Reported
    inner = inwards w before_it

    block_is : (name : List ℕ) → in_block name (record { names = w.own; seen = before_it })
        ≡ in_block name (record { names = last.own; seen = before_it })
    block_is name = ap (λ (es : List (List ℕ × Known g.Reported)). in_block name
        (record { names = es; seen = before_it })) behind.own

    around_is : (name : List ℕ) → known_outside name w.outer ≡ known_outside name here.outer
    around_is name = ap (λ (bs : List (Block g.Reported)). known_outside name bs) (behind.outer ∙ to_last.outer)

    inner_known : (name : List ℕ) → sight_of name inner
        ≡ or_outside (in_block name (record { names = last.own; seen = before_it })) (known_outside name here.outer)
    inner_known name =
        outside_last name w.outer (record { names = w.own; seen = before_it }) None
        ∙ ap (λ (o : Sight g.Reported). or_outside o (known_outside name w.outer)) (block_is name)
        ∙ ap (λ (far : Sight g.Reported). or_outside (in_block name (record { names = last.own; seen = before_it }))
        far) (around_is name)

    -- what is known there of a name that is settled, or not the block's
    known_settled : (name : List ℕ) (k : Known g.Reported) → is_settled k ≡ true → find_name name here.own ≡ Some k
        → sight_of name inner ≡ Some (k, true)
    known_settled name k s e = inner_known name
        ∙ ap (λ (o : Sight g.Reported). or_outside o (known_outside name here.outer)) (settled_block name k s e)

    known_absent : (name : List ℕ) → find_name name here.own ≡ None
        → sight_of name inner ≡ known_outside name here.outer
    known_absent name e = inner_known name
        ∙ ap (λ (o : Sight g.Reported). or_outside o (known_outside name here.outer)) (absent_block name e)

    -- ---- what names mean

    -- a type or a module
    abbrev is_named : Meaning → Bool
    is_named (meaning.Type t n) = true
    is_named (meaning.Module k) = true
    is_named (meaning.Constant v) = false
    is_named (meaning.Variable v) = false
    is_named (meaning.Local v) = false
    is_named (meaning.Field f) = false
    is_named (meaning.Procedure p) = false
    is_named (meaning.LocalProcedure p) = false
    is_named meaning.Ahead = false
    is_named (meaning.Standard f) = false

    awaiting : (o : Origin) (r : Result Meaning g.Reported) (x : Meaning) → is_settled (Declared o r) ≡ false → r ≡ Ok x
        → is_named x ≡ true → ⊥
    awaiting Here (Ok (meaning.Procedure p)) x s e n =
        absurd (let z : meaning.Procedure p ≡ x = cc in
        let y : is_named (meaning.Procedure p) ≡ true = ap is_named z ∙ n in cc)
    awaiting Here (Ok (meaning.Type t n)) x s e q = absurd cc
    awaiting Here (Ok (meaning.Constant v)) x s e q = absurd cc
    awaiting Here (Ok (meaning.Variable v)) x s e q = absurd cc
    awaiting Here (Ok (meaning.Local v)) x s e q = absurd cc
    awaiting Here (Ok (meaning.Field f)) x s e q = absurd cc
    awaiting Here (Ok (meaning.LocalProcedure p)) x s e q = absurd cc
    awaiting Here (Ok meaning.Ahead) x s e q = absurd cc
    awaiting Here (Ok (meaning.Standard f)) x s e q = absurd cc
    awaiting Here (Ok (meaning.Module k)) x s e q = absurd cc
    awaiting Here (Err y) x s e q = absurd cc
    awaiting (Module k) r x s e q = absurd cc
    awaiting (Export k) r x s e q = absurd cc

    unsettled : (at : Pos) (k : Known g.Reported) (x : Meaning) → is_settled k ≡ false → means_seen g at k true ≡ Ok x
        → is_named x ≡ true → ⊥
    unsettled at Later x s e n = absurd cc
    unsettled at Ahead x s e n = absurd (let z : meaning.Ahead ≡ x = cc in
        let y : is_named meaning.Ahead ≡ true = ap is_named z ∙ n in cc)
    unsettled at Begun x s e n = absurd cc
    unsettled at (Headed r) x s e n = absurd cc
    unsettled at (Declared o r) x s e n = awaiting o r x s (plain_ok r x e) n

    pub here_withs : here.withs ≡ []
    here_withs = to_here.keeps.withs ∙ ((block_marked g ends (all g ends a first before d rest) a).keeps.withs
        ∙ no_withs)

    plain : (s : Scope g.Reported) (name : Ident) → s.withs ≡ []
        → looked_up g s name ≡ means_as g name.pos (sight_of name.name s)
    plain s name e = ap (λ (ws : List OpenedRecord). means_or (open_field s.types name.name ws)
        (means_as g name.pos (sight_of name.name s))) e

    by_settled : (name : Ident) (k : Known g.Reported) (x : Meaning) (b : Bool) → is_settled k ≡ b
        → find_name name.name here.own ≡ Some k → means_seen g name.pos k true ≡ Ok x → is_named x ≡ true
        → means_as g name.pos (sight_of name.name inner) ≡ Ok x
    by_settled name k x true s e f n = ap (means_as g name.pos) (known_settled name.name k s e) ∙ f
    by_settled name k x false s e f n = absurd (unsettled name.pos k x s f n)

    by_found : (name : Ident) (x : Meaning) (o : Option (Known g.Reported)) → find_name name.name here.own ≡ o
        → means_as g name.pos (sight_of name.name here) ≡ Ok x → is_named x ≡ true
        → means_as g name.pos (sight_of name.name inner) ≡ Ok x
    by_found name x None e f n =
        ap (means_as g name.pos) (known_absent name.name e)
        ∙ (sym (ap (λ (o : Option (Known g.Reported)). means_as g name.pos
        (or_around o (known_outside name.name here.outer))) e) ∙ f)
    by_found name x (Some k) e f n =
        by_settled name k x (is_settled k) refl e
        (sym (ap (λ (o : Option (Known g.Reported)). means_as g name.pos
        (or_around o (known_outside name.name here.outer))) e) ∙ f) n

    pub name_stays : (name : Ident) (x : Meaning) → looked_up g here name ≡ Ok x → is_named x ≡ true
        → looked_up g inner name ≡ Ok x
    name_stays name x e n = plain inner name behind.withs
        ∙ by_found name x (find_name name.name here.own) refl (sym (plain here name here_withs) ∙ e) n

    -- ---- types

    type_by : (name : Ident) (t : TypeNo) (r : Result Meaning (Meaningless g.Reported)) → looked_up g here name ≡ r
        → (of_sort g name.pos rule.NoType r ▷ type_meant g name.pos) ≡ Ok t
        → (of_sort g name.pos rule.NoType (looked_up g inner name) ▷ type_meant g name.pos) ≡ Ok t
    type_by name t (Err (Broken e)) l f = absurd cc
    type_by name t (Err (Headless nested e)) l f = absurd cc
    type_by name t (Ok (meaning.Type y n)) l f =
        ap (λ (r : Result Meaning (Meaningless g.Reported)). of_sort g name.pos rule.NoType r ▷ type_meant g name.pos)
        (name_stays name (meaning.Type y n) l refl) ∙ f
    type_by name t (Ok (meaning.Constant v)) l f = absurd cc
    type_by name t (Ok (meaning.Variable v)) l f = absurd cc
    type_by name t (Ok (meaning.Local v)) l f = absurd cc
    type_by name t (Ok (meaning.Field v)) l f = absurd cc
    type_by name t (Ok (meaning.Procedure p)) l f = absurd cc
    type_by name t (Ok (meaning.LocalProcedure p)) l f = absurd cc
    type_by name t (Ok meaning.Ahead) l f = absurd cc
    type_by name t (Ok (meaning.Standard v)) l f = absurd cc
    type_by name t (Ok (meaning.Module k)) l f = absurd cc

    same_tables : inner.tables ≡ here.tables
    same_tables = behind.tables ∙ to_last.tables

    module_by : (home name : Ident) (t : TypeNo) (r : Result Meaning (Meaningless g.Reported))
        → looked_up g here home ≡ r → (of_sort g home.pos rule.NoType r ▷ in_module g here home.pos name) ≡ Ok t
        → (of_sort g home.pos rule.NoType (looked_up g inner home) ▷ in_module g inner home.pos name) ≡ Ok t
    module_by home name t (Err (Broken e)) l f = absurd cc
    module_by home name t (Err (Headless nested e)) l f = absurd cc
    module_by home name t (Ok (meaning.Module k)) l f =
        ap (λ (r : Result Meaning (Meaningless g.Reported)). of_sort g home.pos rule.NoType r ▷ in_module g inner
        home.pos name) (name_stays home (meaning.Module k) l refl)
        ∙ (ap (λ (ts : List Table). exported_meaning g ts k name ▷ type_meant g home.pos) same_tables ∙ f)
    module_by home name t (Ok (meaning.Type y n)) l f = absurd cc
    module_by home name t (Ok (meaning.Constant v)) l f = absurd cc
    module_by home name t (Ok (meaning.Variable v)) l f = absurd cc
    module_by home name t (Ok (meaning.Local v)) l f = absurd cc
    module_by home name t (Ok (meaning.Field v)) l f = absurd cc
    module_by home name t (Ok (meaning.Procedure p)) l f = absurd cc
    module_by home name t (Ok (meaning.LocalProcedure p)) l f = absurd cc
    module_by home name t (Ok meaning.Ahead) l f = absurd cc
    module_by home name t (Ok (meaning.Standard v)) l f = absurd cc

    named_by : (o : Option Ident) (name : Ident) (t : TypeNo) → of_module g here o name ≡ Ok t
        → of_module g inner o name ≡ Ok t
    named_by None name t e = type_by name t (looked_up g here name) refl e
    named_by (Some home) name t e = module_by home name t (looked_up g here home) refl e

    pub named_stays : (q : Qualified) (t : TypeNo) → named_type g here q ≡ Ok t → named_type g inner q ≡ Ok t
    named_stays q t e = named_by q.module q.name t e

pub names_stay : (g : Gathers) → NamesStay g
names_stay g ends a first before d rest no_withs w behind q t e =
    named_stays g ends a first before d rest w behind no_withs q t e
