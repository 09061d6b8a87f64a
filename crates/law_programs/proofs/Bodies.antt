-- The bodies that the jobs of a graph make.
use Rattle.std.proofs.Common.{◌≡◌, ℕ, ◌==◌, Bool, true, false, cond, List, [], ◌∷◌, ◌++◌, Option, Some, None, Ok, refl, ap, ◌∙◌}
use Rattle.std.specs.Prelude.{slice_get, slice_index_or}
use Rattle.std.specs.List.{AllByRecursion, fold, list_all}
use Rattle.std.specs.Option.{is_some}
use Rattle.m2_tree.specs.declared.decl.Block.{Block}
use Rattle.m2_tree.specs.declared.decl.Contents.{Contents}
use Rattle.m2_tree.specs.declared.decl.Contents.TheVariants as contents
use Rattle.m2_tree.specs.declared.decl.Module.{Module}
use Rattle.m2_graph.specs.Files.{number_files}
use Rattle.m2_graph.specs.Graph.{IsGraph}
use Rattle.m2_tree.specs.Names.{same_name}
use Rattle.typed_tree.specs.declared.meaning.Meaning.{Meaning}
use Rattle.typed_tree.specs.declared.meaning.Meaning.TheVariants as meaning
use Rattle.typed_tree.specs.declared.shape.Made.{Made}
use Rattle.typed_tree.specs.declared.table.ModuleTypes.{ModuleTypes}
use Rattle.typed_tree.specs.declared.table.Table.{Table}
use Rattle.typed_tree.specs.declared.known_types.Types.{Types}
use Rattle.typed_tree.specs.declared.typed_module.TypedModule.{TypedModule}
use Rattle.typed_tree.specs.declared.types.TypeNo.{TypeNo}
use Rattle.typed_tree.specs.Known.{in_list, made_in}
use Rattle.typed_tree.specs.Names.{enter_name}
use Rattle.check_scope.specs.Elaborated.{least}
use Rattle.check_scope.specs.declared.known.Known.{Known}
use Rattle.check_scope.specs.declared.known.Known.TheVariants.{Declared}
use Rattle.check_scope.specs.declared.known.Origin.TheVariants.{Here}
use Rattle.check_scope.specs.declared.scope.Scope.{Scope}
use Rattle.check_definition.specs.Predeclared.{console, first_scope}
use Rattle.check_body.specs.Own.{with_own_name, exported_variables, implementation_scope}
use Rattle.check_body.specs.Checked.{of_implementation, of_contents}
use Rattle.check_body.specs.Checks.{elaborate_body}
use Rattle.build_jobs.specs.Own.{own_table, tables_behind}
use Rattle.build_jobs.specs.Compiling.{tables_of, typed_body}
use Rattle.build_jobs.specs.Jobs.{needed_of}
use Rattle.law_well_formed.specs.Formed.{fine}
use Rattle.law_well_formed.proofs.ScopesDeclarations.{same_home}
use Rattle.law_well_formed.proofs.Checks.{holds_at}
use Rattle.law_well_formed.specs.FormedModules.{AreTables, AreForOwn, AreFor}
use Rattle.law_well_formed.specs.FormedRanges.{first_types}
use Rattle.law_well_formed.proofs.Trees.{at, get_more}
use Rattle.law_well_formed.specs.FormedOrder.{StartedFrom}
use Rattle.law_well_formed.specs.FormedKnown.{fits_contents, fits_module, HasReached, TableFormed, TablesFormed}
use Rattle.law_well_formed.proofs.Gathered.{each_more}
use Rattle.law_well_formed.proofs.KnownBegins.{ScopeFormed, console_formed, first_formed, first_has, begun_types, tables_have, own_has, implementation_formed}
use Rattle.law_programs.specs.FormedPrograms.{trees_of}
use Rattle.law_programs.proofs.ValidPrograms.{tables_for}
use Rattle.law_programs.specs.FormedReach.{types_of}
use Rattle.law_programs.proofs.Reach.{tree_fits}
use Rattle.law_programs.specs.Carried.{MeaningPlaced, KnownPlaced, NamesPlaced, TypesIndexed, BodyBegins, implementation_types}
use Rattle.law_programs.proofs.Bounding.{first_words}
use Rattle.law_programs.proofs.Exporting.{implementation_slots, implementation_words}
use Rattle.law_programs.proofs.Reaching.{first_indexed}
use Rattle.law_programs.proofs.Walking.{checked_indexed, implementation_indexed}
use Rattle.law_programs.specs.TypingTables.{IsPlaced, ArePlacedBy, program, implementation, BodyStands}
use Rattle.law_programs.proofs.Exported.{distinct_by}
use Rattle.law_programs.proofs.Reached.{IsOther, other_of, console_other, all_are_elsewhere, all_words, all_indexed}
use Rattle.law_programs.proofs.Tables.{Needed, tables_before}
use Rattle.law_programs.proofs.Walked.{Ready, body_stands}

-- ---- further types keep what is reached

get_some : {X : Type 0} (xs ys : List X) (n : ℕ) (x : X) → slice_get xs n ≡ Some x → slice_get (xs ++ ys) n ≡ Some x
get_some xs ys n x e = get_more xs ys n (ap is_some e) ∙ e

abbrev made_with : (k n home : ℕ) → List Made → List (ℕ × List Made) → Option Made
made_with k n home own others = cond (k == home) (slice_get own n) (in_list n (at k others))

made_kept : (a b : Types) → StartedFrom a b → (k n : ℕ) (x : Made) → made_in a k n ≡ Some x → made_in b k n ≡ Some x
made_kept a b p k n x e = same ∙ by (k == a.home) e where
  same : made_in b k n ≡ made_with k n a.home (a.own ++ p.more) a.others
  same =
      ap (λ (h : ℕ). made_with k n h b.own b.others) p.home
      ∙ ap (λ (ms : List Made). made_with k n a.home ms b.others) p.own
      ∙ ap (λ (es : List (ℕ × List Made)). made_with k n a.home (a.own ++ p.more) es) p.others

  by : (c : Bool) → cond c (slice_get a.own n) (in_list n (at k a.others)) ≡ Some x
      → cond c (slice_get (a.own ++ p.more) n) (in_list n (at k a.others)) ≡ Some x
  by true g = get_some a.own p.more n x g
  by false g = g

reached_kept : (a b : Types) → StartedFrom a b → (ms : List ModuleTypes) → HasReached a ms → HasReached b ms
reached_kept a b p [] h = tt
reached_kept a b p (m ∷ ms) h = (λ n x g. made_kept a b p m.number n x (h.0 n x g), reached_kept a b p ms h.1)

all_kept : (a b : Types) → StartedFrom a b → (ts : List Table) → AllByRecursion (λ t. HasReached a t.reached) ts
    → AllByRecursion (λ t. HasReached b t.reached) ts
all_kept a b p [] h = tt
all_kept a b p (t ∷ ts) h = (reached_kept a b p t.reached h.0, all_kept a b p ts h.1)

-- ---- an implementation begins with the variables of its definition

meaning_placed : (home : ℕ) (vs : List TypeNo) (m : Meaning) → IsPlaced vs m → MeaningPlaced home vs m
meaning_placed home vs (meaning.Variable v) p = λ e. p
meaning_placed home vs (meaning.Procedure q) p = tt
meaning_placed home vs (meaning.Constant v) p = tt
meaning_placed home vs (meaning.Type t n) p = tt
meaning_placed home vs (meaning.Local v) p = tt
meaning_placed home vs (meaning.Field f) p = tt
meaning_placed home vs (meaning.LocalProcedure q) p = tt
meaning_placed home vs meaning.Ahead p = tt
meaning_placed home vs (meaning.Standard f) p = tt
meaning_placed home vs (meaning.Module k) p = tt

module _ (home : ℕ) (vs : List TypeNo) {T : Type 0} where
  placed_by : (b : Bool) (k : Known T) (e : List ℕ × Known T) (es more : List (List ℕ × Known T))
      → KnownPlaced home vs k → NamesPlaced home vs (e ∷ es) → NamesPlaced home vs more
      → NamesPlaced home vs (cond b ((e.0, k) ∷ es) (e ∷ more))
  placed_by true k e es more p h q = (p, h.1)
  placed_by false k e es more p h q = (h.0, q)

  placed_more : (name : List ℕ) (k : Known T) (es : List (List ℕ × Known T)) → KnownPlaced home vs k
      → NamesPlaced home vs es → NamesPlaced home vs (enter_name name k es)
  placed_more name k [] p h = (p, tt)
  placed_more name k (e ∷ es) p h = placed_by (same_name name e.0) k e es (enter_name name k es) p h
      (placed_more name k es p h.1)

  own_placed : (es : List (List ℕ × Meaning)) (ns : List (List ℕ × Known T)) → ArePlacedBy vs es
      → NamesPlaced home vs ns → NamesPlaced home vs (fold with_own_name ns es)
  own_placed [] ns p h = h
  own_placed (e ∷ es) ns p h = own_placed es (with_own_name ns e) p.1
      (placed_more e.0 (Declared Here (Ok e.1)) ns (fine e.1 (meaning_placed home vs e.1 p.0)) h)

-- ---- a body, from the tables that its job needs

module _ (trees : List Module) (files : List ℕ) (jobs : List (List ℕ)) (fit : list_all fits_module trees ≡ true)
    (job : ℕ) where
  abbrev made_of : ℕ → List Made
  made_of = types_of trees files jobs

  abbrev AreNeeded : List Table → Type 0
  AreNeeded ts = AllByRecursion (Needed trees files jobs fit job) ts

  needed_formed : (ts : List Table) → AreNeeded ts → TablesFormed made_of job ts
  needed_formed [] h = tt
  needed_formed (t ∷ ts) h = (h.0.formed, needed_formed ts h.1)

  needed_others : (here : ℕ) (ts : List Table) → AreNeeded ts → AreTables here ts → AllByRecursion (IsOther here) ts
  needed_others here [] h a = tt
  needed_others here (t ∷ ts) h a = (
    other_of here t h.0.own
        (λ e. let q : (t.number == here) ≡ true = same_home t.number here e in let r = a.0.other in absurd cc),
    needed_others here ts h.1 a.1,
  )

  OwnNeeded : Option Table → Type 0
  OwnNeeded None = Unit {0}
  OwnNeeded (Some o) = Needed trees files jobs fit job o

  own_needed : (m : Module) (ts : List Table) → AreNeeded ts → OwnNeeded (own_table m ts)
  unfolding OwnNeeded
  own_needed m [] h = tt
  own_needed m (t ∷ ts) h = by (same_name t.name m.name.name) where
    by : (b : Bool) → OwnNeeded (cond b (Some t) None)
    by true = h.0
    by false = tt

  behind_needed : (o : Option Table) (ts : List Table) → AreNeeded ts → AreNeeded (tables_behind o ts)
  behind_needed None ts h = h
  behind_needed (Some o) [] h = tt
  behind_needed (Some o) (t ∷ ts) h = h.1

  -- what is known of all tables of imports, and of Console
  module _ (us : List Table) (needed : AreNeeded us) where
    abbrev all : List Table
    all = us ++ console ∷ []

    all_formed : TablesFormed made_of job all
    all_formed = each_more (TableFormed made_of job) us console (needed_formed us needed) (console_formed made_of job)

    all_others : (here : ℕ) → AreTables here us → AllByRecursion (IsOther here) all
    all_others here a = each_more (IsOther here) us console (needed_others here us needed a) (console_other here)

    -- ---- a program

    first_ready : AreTables job us → Ready (first_types job all) [] (first_scope job all)
    first_ready a = record {
      formed = first_formed made_of job all all_formed;
      starts = record {
        level = refl;
        outer = refl;
        withs = refl;
        own = refl;
        procedures = refl;
        exports = tt;
        numbers =
            tt;
        once = tt;
        apart = λ x y p q e f n. absurd cc;
      };
      elsewhere = all_are_elsewhere job all (all_others job a);
      words = first_words job all (all_words job all (all_others job a));
      placed = tt;
      slots = tt;
    }

    first_begins : AreTables job us → TypesIndexed (first_types job all)
    first_begins a = first_indexed job all
        (all_indexed job (first_types job all) all (all_others job a) (first_has made_of job all all_formed))

    -- ---- an implementation

    module _ (o : Table) (own : Needed trees files jobs fit job o) (a : AreTables o.number us) where
      abbrev base : Types
      base = begun_types made_of job o all own.formed own.made all_formed

      abbrev begun : Scope least.Reported
      begun = implementation_scope o all

      begun_formed : ScopeFormed base begun
      begun_formed = implementation_formed made_of job o all own.formed own.made all_formed

      begun_ready : Ready base o.exported begun
      begun_ready = record {
        formed = begun_formed;
        starts = record {
          level = refl;
          outer = refl;
          withs = refl;
          own = refl;
          procedures = refl;
          exports = own.own.exports.own;
          numbers = own.own.exports.procedures;
          once = distinct_by o.exported own.own.exports.once;
          apart = own.own.exports.apart;
        };
        elsewhere = all_are_elsewhere o.number all (all_others o.number a);
        words = implementation_words o all own.own.exports.words (all_words o.number all (all_others o.number a));
        placed = own_placed o.number (exported_variables o.exported) o.exported [] own.own.exports.variables tt;
        slots = implementation_slots least.Reported o all own.own.exports.free;
      }

      begun_begins : TypesIndexed (implementation_types o all)
      begun_begins =
          let started : StartedFrom base begun.types = begun_formed.ordered.started in
          implementation_indexed o all (own.own.indexed begun.types
          (reached_kept base begun.types started o.reached
          (own_has made_of job o all own.formed own.made all_formed)))
          (all_indexed o.number begun.types all (all_others o.number a)
          (all_kept base begun.types started all (tables_have made_of job o all own.formed own.made all_formed)))

-- ---- the bodies of a graph

module _ (fs : List (List ℕ × Module)) (files : List ℕ) (jobs : List (List ℕ)) (starts : List ℕ)
    (graph : IsGraph (number_files 0 fs) files jobs starts) (fit : list_all fits_module (trees_of fs) ≡ true)
    (m : Module) (job : ℕ) where
  abbrev trees : List Module
  trees = trees_of fs

  abbrev ts : List Table
  ts = tables_of (needed_of trees files jobs job)

  abbrev us : List Table
  us = tables_behind (own_table m ts) ts

  they_are_needed : AllByRecursion (Needed trees files jobs fit job) ts
  they_are_needed = tables_before trees files jobs fit job

  imports_needed : AllByRecursion (Needed trees files jobs fit job) us
  imports_needed = behind_needed trees files jobs fit job (own_table m ts) ts they_are_needed

  begins_own : (o : Option Table) → OwnNeeded trees files jobs fit job o → (b : Block) → AreForOwn o us
      → BodyBegins job o (us ++ console ∷ []) (contents.Implementation b)
  unfolding OwnNeeded
  begins_own None h b f = tt
  begins_own (Some o) h b f = (
    begun_begins trees files jobs fit job us imports_needed o h f.1,
    all_are_elsewhere
        o.number (us ++ console ∷ []) (all_others trees files jobs fit job us imports_needed o.number f.1),
  )

  begins_with : (c : Contents) → AreFor job (own_table m ts) us c
      → BodyBegins job (own_table m ts) (us ++ console ∷ []) c
  begins_with (contents.Definition ds) f = tt
  begins_with (contents.Implementation b) f =
      begins_own (own_table m ts) (own_needed trees files jobs fit job m ts they_are_needed) b f
  begins_with (contents.Program b) f = by (own_table m ts) where
    by : (o : Option Table) → BodyBegins job o (us ++ console ∷ []) (contents.Program b)
    by None = (
      first_begins trees files jobs fit job us imports_needed f,
      all_are_elsewhere job (us ++ console ∷ [])
          (all_others trees files jobs fit job us imports_needed job f),
    )
    by (Some o) = (
      first_begins trees files jobs fit job us imports_needed f,
      all_are_elsewhere job (us ++ console ∷ [])
          (all_others trees files jobs fit job us imports_needed job f),
    )

  module _ (t : TypedModule) (indexed : TypesIndexed t.types) where
    own_stands : (o : Option Table) → own_table m ts ≡ o → OwnNeeded trees files jobs fit job o → (b : Block)
        → m.contents ≡ contents.Implementation b → fits_contents (contents.Implementation b) ≡ true → AreForOwn o us
        → of_implementation least (elaborate_body least) m o (us ++ console ∷ []) b ≡ Ok t → BodyStands m job ts t
    unfolding OwnNeeded
    own_stands None q h b c e f r = absurd cc
    own_stands (Some o) q h b c e f r =
        body_stands (implementation_scope o (us ++ console ∷ [])) m b
        (base trees files jobs fit job us imports_needed o h f.1) o.exported
        (begun_ready trees files jobs fit job us imports_needed o h f.1) e job ts (Some o) t
        (implementation o b q c) r indexed

    contents_stand : (c : Contents) → m.contents ≡ c → fits_contents c ≡ true → AreFor job (own_table m ts) us c
        → of_contents least (elaborate_body least) job m (own_table m ts) (us ++ console ∷ []) c ≡ Ok t
        → BodyStands m job ts t
    contents_stand (contents.Definition ds) q e f r = absurd cc
    contents_stand (contents.Implementation b) q e f r =
        own_stands (own_table m ts) refl (own_needed trees files jobs fit job m ts they_are_needed) b q e f r
    contents_stand (contents.Program b) q e f r =
        body_stands (first_scope job (us ++ console ∷ [])) m b (first_types job (us ++ console ∷ [])) []
        (first_ready trees files jobs fit job us imports_needed f) e job ts None t (program b q) r indexed

  pub bodies_stand : (t : TypedModule) → slice_get trees (slice_index_or files job 0) ≡ Some m
      → typed_body m job ts ≡ Ok t → BodyStands m job ts t
  bodies_stand t there r =
      let e : fits_module m ≡ true = tree_fits trees fit (slice_index_or files job 0) m there in
      let f : AreFor job (own_table m ts) us m.contents = tables_for fs files jobs starts graph m job in
      let i : TypesIndexed t.types = holds_at (typed_body m job ts)
      (checked_indexed least (elaborate_body least) job m (own_table m ts) us (begins_with m.contents f)) t r in
      contents_stand t i m.contents refl e f r
