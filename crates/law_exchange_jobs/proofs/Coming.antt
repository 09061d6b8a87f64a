-- What comes of a module in two programs that share what it needs.
use Rattle.std.proofs.Common.{◌≡◌, ℕ, zero, suc, Bool, true, false, cond, List, [], ◌∷◌, ◌++◌, ◌==◌, map, refl, sym, ap, subst, ◌∙◌, inl, inr, arith, Option, Some, None}
use Rattle.std.specs.Prelude.{slice_get, slice_index_or, Result, Ok, Err}
use Rattle.std.specs.List.{flat_map, list_all}
use Rattle.std.specs.Option.{option_map, option_and_then}
use Rattle.std.proofs.lemmas.Bool.{false≢true, eqb-true}
use Rattle.std.proofs.lemmas.List.{map-append}
use Rattle.std.proofs.lemmas.Option.{none-some, get_or_from_slice_get}
use Rattle.m2_rule.specs.declared.breach.Breach.{Breach}
use Rattle.m2_tree.specs.declared.pos.Pos.{Pos}
use Rattle.m2_tree.specs.declared.decl.Contents.{Contents}
use Rattle.m2_tree.specs.declared.decl.Contents.TheVariants as contents
use Rattle.m2_tree.specs.declared.decl.Module.{Module}
use Rattle.typed_tree.specs.declared.table.Table.{Table}
use Rattle.typed_tree.specs.declared.typed_module.TypedModule.{TypedModule}
use Rattle.layout_storage.specs.Layouts.{too_large}
use Rattle.m2_graph.specs.Imports.{is_definition, is_definition_part, is_program}
use Rattle.m2_graph.specs.Jobs.{number_of}
use Rattle.law_graph.proofs.Given.{given_trees}
use Rattle.law_graph.proofs.Lists.{Among, none_among, among_cases, among_append_cases}
use Rattle.law_graph.proofs.Passing.{found_at}
use Rattle.build_jobs.specs.declared.outcome.Compiled.{Compiled}
use Rattle.build_jobs.specs.declared.outcome.Compiled.TheVariants.{Blocked}
use Rattle.build_jobs.specs.Compiling.{is_sound, tables_of, typed_body, of_fit, of_checked, of_contents, compilation_of}
use Rattle.build_jobs.specs.Jobs.{all_compiled, needed_of}
use Rattle.build_results.specs.Results.{result_of, result_at}
use Rattle.law_separation.specs.Alike.{Tree, Needs, own, imported, further, Jobs, comes_of}
use Rattle.law_separation.proofs.Needing.{DirectlyNeeds}
use Rattle.def_exchange.specs.Moved.{Exchange}
use Rattle.empty_modules.specs.Empty.{import_of, empty_body, empty_program}
use Rattle.compile_module.specs.Alone.{HaveJobs}
use Rattle.compile_module.specs.Stands.{lacks_body, body_for, program_for, stands_for, stand_file, with_stands}
use Rattle.law_exchange_jobs.specs.Sharing.{moved_compiled, LeavesConsole, ShareWhatIsNeeded, AreShared, WhatComesMoves, BodiesStay, WhatComesAloneComes, WhatIsMadeAloneComes}
use Rattle.law_exchange_jobs.proofs.Jobbing.{IsJobOf, job_of_place, job_named, result_is}
use Rattle.law_exchange_jobs.proofs.Twins.{AreTwins, exchange, leaves_console, takes_root, takes_named}
use Rattle.law_exchange_jobs.proofs.Moving.{Stays, all_moved}

-- ---- bodies

module _ (x : Exchange) where
  fit_stays : (t : TypedModule) (o : Option Pos) → moved_compiled x (of_fit t o) ≡ of_fit t o
  fit_stays t None = refl
  fit_stays t (Some at) = refl

  checked_stays : (r : Result TypedModule Breach) → moved_compiled x (of_checked r) ≡ of_checked r
  checked_stays (Ok t) = fit_stays t (too_large t)
  checked_stays (Err f) = refl

  contents_stay : (m : Module) (n : ℕ) (tables : List Table) (c : Contents) → is_definition_part c ≡ false
      → moved_compiled x (of_contents m n tables c) ≡ of_contents m n tables c
  contents_stay m n tables (contents.Definition ds) e = absurd (false≢true (sym e))
  contents_stay m n tables (contents.Implementation b) e = checked_stays (typed_body m n tables)
  contents_stay m n tables (contents.Program b) e = checked_stays (typed_body m n tables)

  body_stays : (m : Module) (n : ℕ) (needed : List Compiled) → is_definition m ≡ false
      → moved_compiled x (compilation_of m n needed) ≡ compilation_of m n needed
  unfolding compilation_of
  body_stays m n needed e = by (list_all is_sound needed)
    where
      by : (b : Bool) → moved_compiled x (cond b (of_contents m n (tables_of needed) m.contents) Blocked)
          ≡ cond b (of_contents m n (tables_of needed) m.contents) Blocked
      by true = contents_stay m n (tables_of needed) m.contents e
      by false = refl

-- ---- two programs

-- what becomes of the module in this place
abbrev pub became : (jobs : List (List ℕ)) (files : List ℕ) (texts : List Module) (place : ℕ) → Option Compiled
became jobs files texts place = result_of files (all_compiled texts files jobs) place

-- Two programs that share what a module needs, and texts that have it and all definitions of the one.
module _ (given others : List Tree) (jobs : Jobs given) (other_jobs : Jobs others) (place other_place : ℕ)
    (root : Module) (both : AreShared given others place other_place root) (texts : List Module)
    (text : slice_get texts place ≡ Some root)
    (have : (k : ℕ) (d : Module) → slice_get (given_trees given) k ≡ Some d → is_definition d ≡ true
    → slice_get texts k ≡ Some d) where
  abbrev pub Found : Type 0
  Found = (j : ℕ) × (number_of jobs.files place ≡ Some j) × IsJobOf given jobs j root

  abbrev pub FoundThere : Type 0
  FoundThere = (j : ℕ) × (number_of other_jobs.files other_place ≡ Some j) × IsJobOf others other_jobs j root

  pub here : Found
  here = job_of_place given jobs place root both.here

  pub there : FoundThere
  there = job_of_place others other_jobs other_place root both.there

  pub twins : AreTwins given others jobs other_jobs (here.0, there.0)
  twins = record { m = root; n = root; here = here.2; there = there.2; kind = refl; name = refl }

  abbrev pub x : Exchange
  x = exchange given others jobs other_jobs (here.0, there.0) twins

  pub stays_console : LeavesConsole x
  stays_console = leaves_console given others jobs other_jobs (here.0, there.0) twins

  goes : x.there here.0 ≡ there.0
  goes = takes_root given others jobs other_jobs (here.0, there.0) twins

  takes : (name : List ℕ) (j i : ℕ) → job_named given jobs name ≡ Some j → job_named others other_jobs name ≡ Some i
      → x.there j ≡ i
  takes = takes_named given others jobs other_jobs (here.0, there.0) twins

  needs_name : (name : List ℕ) → DirectlyNeeds root name → Needs given root name
  needs_name name (inl itself) = subst (λ (n : List ℕ). Needs given root n) itself.1 own
  needs_name name (inr a) = imported a.0 a.1

  at_place : slice_index_or jobs.files here.0 0 ≡ place
  at_place =
      let f = found_at (λ one. one == place) jobs.files here.0 here.1 in
      get_or_from_slice_get jobs.files here.0 f.0 0 f.1 ∙ eqb-true f.0 place f.2

  root_text : slice_get texts (slice_index_or jobs.files here.0 0) ≡ Some root
  root_text = ap (slice_get texts) at_place ∙ text

  root_stays : Stays given others jobs other_jobs x takes root both.definitions texts have here.0 root
  root_stays = record {
    here = here.2;
    there = subst (λ (i : ℕ). IsJobOf others other_jobs i root) (sym goes) there.2;
    text = root_text;
    wanted = needs_name;
  }

  abbrev these : List Compiled
  these = all_compiled texts jobs.files jobs.needs

  -- what becomes of the module here
  becomes : became jobs.needs jobs.files texts place
      ≡ Some (compilation_of root here.0 (needed_of texts jobs.files jobs.needs here.0))
  becomes = ap (λ (o : Option ℕ). option_and_then (slice_get these) o) here.1
      ∙ result_is given jobs texts here.0 root here.2 root_text

  -- What comes of the module there is what becomes of it here but for the numbers, if this is so of each job from
  -- what it needs.
  module _ (Holds : Module → ℕ → List Compiled → Type 0)
      (moves : (m : Module) (number : ℕ) (needed : List Compiled) → Holds m number needed
      → compilation_of m (x.there number) (map (moved_compiled x) needed)
      ≡ moved_compiled x (compilation_of m number needed))
      (holds : (j : ℕ) (m : Module) → slice_get texts (slice_index_or jobs.files j 0) ≡ Some m
      → Holds m j (needed_of texts jobs.files jobs.needs j)) where
    pub comes_where : comes_of others other_jobs other_place
        ≡ option_map (moved_compiled x) (became jobs.needs jobs.files texts place)
    comes_where =
        ap (λ (o : Option ℕ). option_and_then
        (slice_get (all_compiled (given_trees others) other_jobs.files other_jobs.needs)) o) there.1
        ∙ ap (slice_get (all_compiled (given_trees others) other_jobs.files other_jobs.needs)) (sym goes)
        ∙ all_moved given others jobs other_jobs x takes root both.definitions texts have Holds moves
        (λ j m s. holds j m s.text) (suc here.0) here.0 root (omega arith) root_stays
        ∙ sym (ap (λ (o : Option ℕ). option_map (moved_compiled x) (option_and_then (slice_get these) o)) here.1)

    pub stays_where : is_definition root ≡ false → comes_of others other_jobs other_place
        ≡ became jobs.needs jobs.files texts place
    stays_where body =
        comes_where
        ∙ ap (λ (o : Option Compiled). option_map (moved_compiled x) o) becomes
        ∙ ap Some (body_stays x root here.0 (needed_of texts jobs.files jobs.needs here.0) body)
        ∙ sym becomes

-- ---- the laws of two programs

pub what_comes : WhatComesMoves
what_comes moves trees others jobs other_jobs place other_place root both =
    let texts : List Module = given_trees trees in
    let y = x trees others jobs other_jobs place other_place root both texts both.here (λ k d e is. e) in
    let console = stays_console trees others jobs other_jobs place other_place root both texts both.here
    (λ k d e is. e) in (
      y,
      comes_where trees others jobs other_jobs place other_place root both texts both.here (λ k d e is. e)
          (λ m n needed. Unit {0}) (λ m n needed t. moves y console m n needed) (λ j m s. tt),
    )

pub bodies : BodiesStay
bodies moves trees others jobs other_jobs place other_place root body both =
    let texts : List Module = given_trees trees in
    let y = x trees others jobs other_jobs place other_place root both texts both.here (λ k d e is. e) in
    let console = stays_console trees others jobs other_jobs place other_place root both texts both.here
    (λ k d e is. e) in
    stays_where trees others jobs other_jobs place other_place root both texts both.here (λ k d e is. e)
    (λ m n needed. Unit {0}) (λ m n needed t. moves y console m n needed) (λ j m s. tt) body

-- ---- a module alone

-- no stand-in is a definition
among_each : {X Y : Type 0} (f : X → List Y) (xs : List X) (y : Y) → Among (flat_map f xs) y → (z : X) × Among (f z) y
among_each f [] y a = absurd (none_among y a)
among_each f (z ∷ xs) y a = elim (among_append_cases (f z) (flat_map f xs) y a)
    [ inl l ↦ (z, l) | inr r ↦ among_each f xs y r ]

one_of : {X : Type 0} (y x : X) → Among (y ∷ []) x → y ≡ x
one_of y x a = elim (among_cases y [] x a) [ inl s ↦ s | inr none ↦ absurd (none_among x none) ]

no_definition : (ms : List Module) (d : Module) → Among (stands_for ms) d → is_definition d ≡ false
no_definition [] d a = absurd (none_among d a)
no_definition (m ∷ ms) d a = elim (among_append_cases (flat_map (body_for m) (m ∷ ms)) (program_for m) d a) [
  | inl l ↦ (let r = among_each (body_for m) (m ∷ ms) d l in body (lacks_body m r.0) r.0 r.1)
  | inr r ↦ program (is_program m) r
]
  where
    body : (b : Bool) (z : Module) → Among (cond b (empty_body z.name.name [] ∷ []) []) d → is_definition d ≡ false
    body true z a = ap is_definition (sym (one_of (empty_body z.name.name []) d a))
    body false z a = absurd (none_among d a)

    program : (b : Bool) → Among (cond b [] (empty_program [] (import_of m.name.name ∷ []) ∷ [])) d
        → is_definition d ≡ false
    program true a = absurd (none_among d a)
    program false a = ap is_definition (sym (one_of (empty_program [] (import_of m.name.name ∷ [])) d a))

named_files : (ms : List Module) → given_trees (map (λ (m : Module). (stand_file, m)) ms) ≡ ms
named_files [] = refl
named_files (m ∷ ms) = ap (λ (xs : List Module). m ∷ xs) (named_files ms)

in_front : {X : Type 0} (xs ys : List X) (k : ℕ) (x : X) → slice_get (xs ++ ys) k ≡ Some x → (Among ys x → ⊥)
    → slice_get xs k ≡ Some x
in_front [] ys k x e none = absurd (none (k, e))
in_front (y ∷ xs) ys zero x e none = e
in_front (y ∷ xs) ys (suc k) x e none = in_front xs ys k x e none

kept_in_front : {X : Type 0} (xs ys : List X) (k : ℕ) (x : X) → slice_get xs k ≡ Some x
    → slice_get (xs ++ ys) k ≡ Some x
kept_in_front [] ys k x e = absurd (none-some x e)
kept_in_front (y ∷ xs) ys zero x e = e
kept_in_front (y ∷ xs) ys (suc k) x e = kept_in_front xs ys k x e

module _ (alone : List Tree) where
  abbrev own_trees : List Module
  own_trees = given_trees alone

  trees_with : given_trees (with_stands alone) ≡ own_trees ++ stands_for own_trees
  trees_with = map-append (λ (f : Tree). f.1) alone (map (λ (m : Module). (stand_file, m)) (stands_for own_trees))
      ∙ ap (λ (ms : List Module). own_trees ++ ms) (named_files (stands_for own_trees))

  there_too : (k : ℕ) (m : Module) → slice_get own_trees k ≡ Some m
      → slice_get (given_trees (with_stands alone)) k ≡ Some m
  there_too k m e = ap (λ (ms : List Module). slice_get ms k) trees_with
      ∙ kept_in_front own_trees (stands_for own_trees) k m e

  pub own_definition : (k : ℕ) (d : Module) → slice_get (given_trees (with_stands alone)) k ≡ Some d
      → is_definition d ≡ true → slice_get own_trees k ≡ Some d
  own_definition k d e is = in_front own_trees (stands_for own_trees) k d
      (ap (λ (ms : List Module). slice_get ms k) (sym trees_with) ∙ e)
      (λ a. false≢true (sym (no_definition own_trees d a) ∙ is))

  needs_alone : (root : Module) (name : List ℕ) → Needs (with_stands alone) root name → Needs alone root name
  needs_alone root _ own = own
  needs_alone root name (imported i e) = imported i e
  needs_alone root name (further k i d e is n f) =
      further k i d (own_definition k d e is) is (needs_alone root d.name.name n) f

-- some modules with what stands for others, and a program that has one of them and what it needs
module _ (alone others : List Tree) (numbers : List ℕ) (needs : List (List ℕ)) (jobs : HaveJobs alone numbers needs)
    (other_jobs : Jobs others) (place other_place : ℕ) (root : Module)
    (both : AreShared alone others place other_place root) where
  abbrev pub jobs_alone : Jobs (with_stands alone)
  jobs_alone = record { files = numbers; needs = needs; starts = jobs.starts; is_graph = jobs.is_graph }

  shares : ShareWhatIsNeeded (with_stands alone) others root
  shares k d e is n = both.definitions k d (own_definition alone k d e is) is (needs_alone alone root d.name.name n)

  pub shared_alone : AreShared (with_stands alone) others place other_place root
  shared_alone = record { here = there_too alone place root both.here; there = both.there; definitions = shares }

  abbrev pub x_alone : Exchange
  x_alone = x (with_stands alone) others jobs_alone other_jobs place other_place root shared_alone (given_trees alone)
      both.here (own_definition alone)

  pub alone_console : LeavesConsole x_alone
  alone_console = stays_console (with_stands alone) others jobs_alone other_jobs place other_place root shared_alone
      (given_trees alone) both.here (own_definition alone)

  module _ (Holds : Module → ℕ → List Compiled → Type 0)
      (moves : (m : Module) (number : ℕ) (needed : List Compiled) → Holds m number needed
      → compilation_of m (x_alone.there number) (map (moved_compiled x_alone) needed)
      ≡ moved_compiled x_alone (compilation_of m number needed))
      (holds : (j : ℕ) (m : Module) → slice_get (given_trees alone) (slice_index_or numbers j 0) ≡ Some m
      → Holds m j (needed_of (given_trees alone) numbers needs j)) where
    pub alone_where : comes_of others other_jobs other_place
        ≡ option_map (moved_compiled x_alone) (result_at alone numbers needs place)
    alone_where = comes_where (with_stands alone) others jobs_alone other_jobs place other_place root shared_alone
        (given_trees alone) both.here (own_definition alone) Holds moves holds

    pub alone_stays_where : is_definition root ≡ false
        → comes_of others other_jobs other_place ≡ result_at alone numbers needs place
    alone_stays_where = stays_where (with_stands alone) others jobs_alone other_jobs place other_place root shared_alone
        (given_trees alone) both.here (own_definition alone) Holds moves holds

pub alone_comes : WhatComesAloneComes
alone_comes moves alone others numbers needs jobs other_jobs place other_place root body both =
    let y = x_alone alone others numbers needs jobs other_jobs place other_place root both in
    let console = alone_console alone others numbers needs jobs other_jobs place other_place root both in
    alone_stays_where alone others numbers needs jobs other_jobs place other_place root both (λ m n needed. Unit {0})
    (λ m n needed t. moves y console m n needed) (λ j m s. tt) body

pub made_alone : WhatIsMadeAloneComes
made_alone moves alone others b made other_jobs other_place root both =
    let y = x_alone alone others made.numbers made.needs made.have other_jobs 0 other_place root both in
    let console = alone_console alone others made.numbers made.needs made.have other_jobs 0 other_place root both in
    alone_where alone others made.numbers made.needs made.have other_jobs 0 other_place root both
    (λ m n needed. Unit {0}) (λ m n needed t. moves y console m n needed) (λ j m s. tt)
    ∙ sym (ap (λ (o : Option Compiled). option_map (moved_compiled y) o) made.is)
