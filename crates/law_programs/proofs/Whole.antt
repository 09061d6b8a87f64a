-- What the modules of a graph are by the tables that they are checked with, and where the modules of these tables
-- stand.
use Rattle.std.proofs.Common.{◌≡◌, ◌⊎◌, inl, inr, ℕ, zero, suc, ◌<◌, true, List, [], ◌∷◌, ◌++◌, length, Option, Some, None, Ok, refl, sym, ap, subst, ◌∙◌, arith}
use Rattle.std.specs.Prelude.{slice_get, slice_index_or, codes, All}
use Rattle.std.specs.List.{AllByRecursion, fold, list_all}
use Rattle.std.proofs.lemmas.Option.{same_Some}
use Rattle.m2_rule.specs.declared.rule.Rule.TheVariants as rule
use Rattle.m2_tree.specs.Names.{is_console}
use Rattle.m2_tree.specs.declared.decl.Def.{Def}
use Rattle.m2_tree.specs.declared.decl.Contents.{Contents}
use Rattle.m2_tree.specs.declared.decl.Contents.TheVariants as contents
use Rattle.m2_tree.specs.declared.decl.Module.{Module}
use Rattle.m2_graph.specs.Files.{number_files}
use Rattle.m2_graph.specs.Graph.{IsGraph, CompileEach}
use Rattle.m2_graph.specs.Imports.{is_program, is_program_part}
use Rattle.typed_tree.specs.declared.shape.Made.{Made}
use Rattle.typed_tree.specs.declared.table.Table.{Table}
use Rattle.typed_tree.specs.declared.types.TypeNo.{TypeNo}
use Rattle.typed_tree.specs.declared.typed_module.Imported.{Imported}
use Rattle.typed_tree.specs.declared.typed_module.TypedModule.{TypedModule}
use Rattle.check_scope.specs.Elaborated.{Gathers, least}
use Rattle.check_scope.specs.Scopes.{State}
use Rattle.check_scope.specs.declared.scope.Scope.{Scope}
use Rattle.check_definition.specs.Predeclared.{console, first_scope}
use Rattle.check_definition.specs.Importing.{numbered_modules, with_import}
use Rattle.check_definition.specs.Marking.{marked_def}
use Rattle.check_definition.specs.Declare.{with_def}
use Rattle.check_definition.specs.Export.{imported_modules}
use Rattle.check_definition.specs.Compiled as types
use Rattle.check_body.specs.Imports.{all_imports}
use Rattle.check_body.specs.Own.{exported_headings}
use Rattle.check_body.specs.Checks.{elaborate_body}
use Rattle.def_meaning.specs.Environment.{module_place}
use Rattle.law_modules.specs.WellFormed.{IsRoutine}
use Rattle.law_modules.specs.Linked.{Program}
use Rattle.law_simulation.specs.Knows.{IsCoherent}
use Rattle.law_well_formed.specs.Formed.{Holds, fine}
use Rattle.law_well_formed.proofs.Basics.{then_holds, any_holds, reported_holds}
use Rattle.law_well_formed.proofs.ImportsLists.{same_refl}
use Rattle.law_well_formed.proofs.NamedTables.{fold_keeps, def_marks, def_keeps, import_keeps}
use Rattle.law_well_formed.specs.Ordered.{AreOrdered}
use Rattle.law_well_formed.proofs.Induction.{elaborated_formed}
use Rattle.law_well_formed.specs.FormedFrames.{AreNested}
use Rattle.law_well_formed.proofs.FramesModules.{modules_nested}
use Rattle.law_well_formed.specs.FormedModules.{AreFor}
use Rattle.law_well_formed.specs.FormedKnown.{fits_module, HasReached}
use Rattle.law_well_formed.proofs.Gathered.{each_more}
use Rattle.build_jobs.specs.declared.outcome.Compiled.{Compiled}
use Rattle.build_jobs.specs.declared.outcome.Compiled.TheVariants.{Defined}
use Rattle.build_jobs.specs.Own.{tables_behind}
use Rattle.build_jobs.specs.Compiling.{tables_of}
use Rattle.build_jobs.specs.Jobs.{needed_of}
use Rattle.law_programs.proofs.ValidPrograms.{tables_for as for_body}
use Rattle.law_programs.specs.FormedReach.{result_of, types_of}
use Rattle.law_programs.proofs.Reach.{tree_fits, IsNeeded, own_formed, behind_formed, known_below, tables_needed}
use Rattle.law_programs.specs.FormedCoherent.{trees_of, IsBodyOf, IsWhole, AreBodiesIn}
use Rattle.law_programs.proofs.CoherentBodies.{IsKnownBy, IsKnown, module_known}
use Rattle.law_programs.proofs.Imports.{AreListed, AreMade, OwnListed, IsImportOf, AreImports, table_imports, typed_are}
use Rattle.law_programs.proofs.GraphsPrograms.{holds_ok, IsDefined, defined_by, own_is, coherent}
use Rattle.law_programs.proofs.Graphs.{graphs_whole}
use Rattle.law_programs.specs.TypingNames.{own_of, tables_for}
use Rattle.law_programs.proofs.Begun.{BegunAt, module_begun}
use Rattle.law_programs.proofs.Imported.{IsWithin, typed_within}

-- ---- lists

pub got : {X : Type 0} (F : X → Type 0) (xs : List X) → AllByRecursion F xs → (k : ℕ) (x : X) → slice_get xs k ≡ Some x
    → F x
got F [] h k x e = absurd cc
got F (y ∷ xs) h zero x e = let same : y ≡ x = cc in subst F same h.0
got F (y ∷ xs) h (suc k) x e = got F xs h.1 k x e

-- ---- the table of a definition

module _ (g : Gathers) (m : Module) where
  tables_stay : (modules : List (List ℕ × ℕ)) (s : Scope g.Reported) (defs : List Def)
      → (types.declared_in g m modules s defs).0.tables ≡ s.tables
  tables_stay modules s defs =
      let i = fold (with_import g modules) (s, Ok tt) m.imports in
      ap (λ (k : List Table × ℕ). k.0)
      (fold_keeps (λ (st : State (Unit {0}) g.Reported). st.0) (with_def g) (def_keeps g) defs
      (fold marked_def i.0 defs, i.1)
      ∙ (fold_keeps (λ (s : Scope g.Reported). s) marked_def (def_marks g.Reported) defs i.0
      ∙ import_keeps g modules m.imports (s, Ok tt)))

  module _ (IsMade : Table → Type 0) (home : ℕ) where
    definition_listed : (tables : List Table) → AreMade IsMade tables → (defs : List Def)
        → Holds (λ t. AreListed IsMade t.imports) (types.of_definition g home m tables defs)
    definition_listed tables made defs =
        let modules : List (List ℕ × ℕ) = (numbered_modules tables).0 in
        let st : State (Unit {0}) g.Reported = types.declared_in g m modules (first_scope home tables) defs in
        then_holds (any_holds st.1) (λ x k. fine _
        (subst (λ (ts : List Table). AreListed IsMade (imported_modules modules ts m.imports))
        (sym (tables_stay modules (first_scope home tables) defs)) (table_imports IsMade tables made m.imports)))

    contents_listed : (tables : List Table) → AreMade IsMade tables → (c : Contents)
        → Holds (λ t. AreListed IsMade t.imports) (types.of_contents g home m tables c)
    contents_listed tables made (contents.Definition defs) = definition_listed tables made defs
    contents_listed tables made (contents.Implementation b) = reported_holds g m.name.pos rule.LonelyModule
    contents_listed tables made (contents.Program b) = reported_holds g m.name.pos rule.LonelyModule

module _ (fs : List (List ℕ × Module)) (files : List ℕ) (jobs : List (List ℕ)) (starts : List ℕ)
    (graph : IsGraph (number_files 0 fs) files jobs starts) (each : CompileEach (number_files 0 fs) files)
    (fit : list_all fits_module (trees_of fs) ≡ true) where
  abbrev trees : List Module
  trees = trees_of fs

  abbrev one : ℕ → Compiled
  one = result_of trees files jobs

  abbrev pub its_types : ℕ → List Made
  its_types = types_of trees files jobs

  abbrev needed : ℕ → List Table
  needed job = tables_of (needed_of trees files jobs job)

  abbrev pub IsMade : Table → Type 0
  IsMade t = (t.number < length files) × (one t.number ≡ Defined t)

  abbrev Needed : ℕ → Table → Type 0
  Needed n = IsNeeded trees files jobs fit n (known_below trees files jobs fit n)

  -- ---- tables that jobs need

  is_made : (n : ℕ) → n < length files → (t : Table) → Needed n t → IsMade t
  is_made n l t h = ((let k : t.number < n = h.before in omega (arith, l, k)), h.made)

  made_of : (n : ℕ) → n < length files → (ts : List Table) → AllByRecursion (Needed n) ts → AreMade IsMade ts
  made_of n l [] h = tt
  made_of n l (t ∷ ts) h = (inr (is_made n l t h.0), made_of n l ts h.1)

  with_console : (ts : List Table) → AreMade IsMade ts → AreMade IsMade (ts ++ console ∷ [])
  unfolding console
  with_console ts h = each_more (λ (t : Table). (is_console t.name ≡ true) ⊎ IsMade t) ts console h
      (inl (same_refl (codes "Console")))

  behind : (n : ℕ) (o : Option Table) (ts : List Table) → AllByRecursion (Needed n) ts
      → AllByRecursion (Needed n) (tables_behind o ts)
  behind n None ts h = h
  behind n (Some t) [] h = tt
  behind n (Some t) (u ∷ ts) h = h.1

  imports_listed : (job : ℕ) (t : Table) → job < length files → one job ≡ Defined t → AreListed IsMade t.imports
  imports_listed job t l e =
      let d : IsDefined trees files jobs fit job t = defined_by trees files jobs fit job t e in
      holds_ok (contents_listed least d.tree IsMade job (needed job ++ console ∷ [])
      (with_console (needed job) (made_of job l (needed job) (tables_needed trees files jobs fit job)))
      d.tree.contents) t d.compiled_to

  -- ---- a body

  -- an implementation, with the table of its definition
  pub record IsOwn (t : TypedModule) : Type 0 where
    pub table : Table
    pub made : IsMade table
    pub named : table.name ≡ t.name
    pub home : t.types.home ≡ table.number
    pub has : HasReached t.types table.reached
    pub heads : (n : ℕ) (h : TypeNo) → slice_get (exported_headings table.exported) n ≡ Some h
        → IsRoutine t.procedures n h

  -- what is known of the module of a body, by the tables of its imports
  pub record IsPart (t : TypedModule) (tree : Module) (job : ℕ) (ts : List Table) : Type 0 where
    pub name : t.name ≡ tree.name.name
    pub ordered : AreOrdered t.types
    pub made : AreMade IsMade ts
    pub has : AllByRecursion (λ u. HasReached t.types u.reached) ts
    pub imports : AreImports IsMade t.types t.imports
    pub within : AllByRecursion (IsWithin ts) t.imports
    pub outermost : All (λ r. r.around ≡ None) t.procedures
    pub kind : ((is_program tree ≡ true) × (t.types.home ≡ job)) ⊎ IsOwn t

  module _ (t : TypedModule) (b : IsBodyOf trees files jobs t) where
    abbrev own : Option Table
    own = own_of trees files jobs b

    abbrev imported : List Table
    imported = tables_behind own (needed b.job)

    abbrev ts : List Table
    ts = tables_for trees files jobs b

    pub for_it : AreFor b.job own imported b.tree.contents
    for_it = for_body fs files jobs starts graph b.tree b.job

    pub begun : BegunAt least (elaborate_body least) (elaborated_formed least) b.job b.tree own ts t b.tree.contents
    begun = holds_ok (module_begun least (elaborate_body least) (elaborated_formed least) b.job b.tree imported own
        for_it) t b.typed

    known : IsKnown b.tree own b.job ts t b.tree.contents
    known =
        holds_ok (module_known least (elaborate_body least) its_types b.job b.tree own imported
        (tree_fits trees fit (slice_index_or files b.job 0) b.tree b.is_tree)
        (own_formed trees files jobs fit b.job (known_below trees files jobs fit b.job) b.tree (needed b.job)
        (tables_needed trees files jobs fit b.job))
        (behind_formed trees files jobs fit b.job (known_below trees files jobs fit b.job) own (needed b.job)
        (tables_needed trees files jobs fit b.job))) t b.typed

    nested : AreNested t
    nested = holds_ok (modules_nested least b.job b.tree own imported for_it) t b.typed

    all_made : AreMade IsMade ts
    all_made = with_console imported (made_of b.job b.is_job imported
        (behind b.job own (needed b.job) (tables_needed trees files jobs fit b.job)))

    part_from : (o : Option Table) (home : ℕ) → OwnListed IsMade o → IsKnownBy b.tree o home ts t
        → ((is_program b.tree ≡ true) × (t.types.home ≡ b.job)) ⊎ IsOwn t → IsPart t b.tree b.job ts
    part_from o home l k kind = record {
      name = k.name;
      ordered = k.ordered;
      made = all_made;
      has = k.has;
      imports = subst (λ (is : List Imported). AreImports IsMade t.types is) (sym k.imports)
          (typed_are IsMade ts all_made t.types k.has o l b.tree.imports);
      within = subst (λ (is : List Imported). AllByRecursion (IsWithin ts) is) (sym k.imports)
          (typed_within ts (all_imports (numbered_modules ts).0 ts o b.tree.imports));
      outermost = nested.outermost;
      kind = kind;
    }

    part_by : (c : Contents) → b.tree.contents ≡ c → IsKnown b.tree own b.job ts t c
        → BegunAt least (elaborate_body least) (elaborated_formed least) b.job b.tree own ts t c
        → IsPart t b.tree b.job ts
    part_by (contents.Definition defs) is k h = absurd k
    part_by (contents.Program body) is k h = part_from None b.job tt k (inl (ap is_program_part is, k.home_is))
    part_by (contents.Implementation body) is k h =
        let o = own_is trees files jobs fit b.job b.tree (needed b.job) (tables_needed trees files jobs fit b.job) k.0
        k.1 in
        let made : IsMade k.0 = is_made b.job b.is_job k.0 o.0 in
        let same : h.0 ≡ k.0 = same_Some h.0 k.0 (sym h.1 ∙ k.1) in
        part_from (Some k.0) k.0.number (imports_listed k.0.number k.0 made.0 made.1) k.2
        (inr (record {
          table = k.0;
          made = made;
          named = o.1 ∙ sym k.2.name;
          home = k.2.home_is;
          has = k.2.own_in.0;
          heads = subst (λ (u : Table). (n : ℕ) (z : TypeNo) → slice_get (exported_headings u.exported) n ≡ Some z
              → IsRoutine t.procedures n z) same h.2.heads;
        }))

    pub part_of : IsPart t b.tree b.job ts
    part_of = part_by b.tree.contents refl known begun

  -- ---- numbers of tables

  pub one_table : (t u : Table) → IsMade t → IsMade u → t.number ≡ u.number → t ≡ u
  one_table t u p q e = let same : Defined t ≡ Defined u = sym p.1 ∙ (ap one e ∙ q.1) in cc

  -- ---- the modules of a program

  module _ (p : Program) (bodies : AreBodiesIn trees files jobs starts p) where
    whole : IsWhole trees files jobs p
    whole = graphs_whole fs files jobs starts graph each fit p bodies

    pub coherent_at : (place : ℕ) (m : TypedModule) → slice_get p place ≡ Some m → IsCoherent p place m
    coherent_at place m e = coherent trees files jobs fit p whole place m e

    -- the module of a table stands there: it knows what the table reaches, and has the procedures that it exports
    pub record HasHome (u : Table) : Type 0 where
      pub home : TypedModule
      pub there : slice_get p (module_place p u.number) ≡ Some home
      pub ordered : AreOrdered home.types
      pub has : HasReached home.types u.reached
      pub outermost : All (λ r. r.around ≡ None) home.procedures
      pub heads : (n : ℕ) (h : TypeNo) → slice_get (exported_headings u.exported) n ≡ Some h
          → IsRoutine home.procedures n h

    module _ (place : ℕ) (m : TypedModule) (there : slice_get p place ≡ Some m) where
      home_by : (i : Imported) (k : IsImportOf IsMade m.types i) (q : ℕ) (home : TypedModule)
          → slice_get p q ≡ Some home → home.name ≡ i.name → (tree : Module) (job : ℕ) (us : List Table)
          → slice_get trees (slice_index_or files job 0) ≡ Some tree
          → (a : IsPart home tree job us) → ((is_program tree ≡ true) × (home.types.home ≡ job)) ⊎ IsOwn home
          → HasHome k.table
      home_by i k q home at named tree job us is_tree a (inl x) =
          absurd (whole.programs tree job k.table is_tree x.0 k.table.number k.made.0 k.made.1
          (k.name_is ∙ (sym named ∙ a.name)))
      home_by i k q home at named tree job us is_tree a (inr x) =
          let number : x.table.number ≡ k.table.number =
          whole.definitions x.table.number k.table.number x.table k.table x.made.0 k.made.0 x.made.1 k.made.1
          (x.named ∙ (named ∙ sym k.name_is)) in
          let same : x.table ≡ k.table = one_table x.table k.table x.made k.made number in
          let its_home : home.types.home ≡ k.table.number = x.home ∙ number in
          let found : module_place p k.table.number ≡ q = ap (λ (n : ℕ). module_place p n) (sym its_home)
          ∙ (coherent_at q home at).own in
          record {
            home = home;
            there = ap (λ (n : ℕ). slice_get p n) found ∙ at;
            ordered = a.ordered;
            has = subst (λ (t : Table). HasReached home.types t.reached) same x.has;
            outermost = a.outermost;
            heads = subst (λ (t : Table). (n : ℕ) (h : TypeNo) → slice_get (exported_headings t.exported) n ≡ Some h
                → IsRoutine home.procedures n h) same x.heads;
          }

      pub home_of : (n : ℕ) (i : Imported) → slice_get m.imports n ≡ Some i → (k : IsImportOf IsMade m.types i)
          → HasHome k.table
      home_of n i e k =
          let c = whole.closed place n m i there e in
          let b : IsBodyOf trees files jobs c.1 = got (IsBodyOf trees files jobs) p whole.bodies c.0 c.1 c.2 in
          let a = part_of c.1 b in
          home_by i k c.0 c.1 c.2 c.3 b.tree b.job (tables_for trees files jobs b) b.is_tree a a.kind
