-- The modules of a program link: each imports modules of the program alone.
use Rattle.std.proofs.Common.{◌≡◌, ◌⊎◌, inl, inr, ℕ, Bool, true, false, cond, ◌||◌, List, [], ◌∷◌, ◌++◌, map, Option, Some, None, Result, Ok, Err, refl, sym, ap, subst, ◌∙◌}
use Rattle.std.specs.Prelude.{All, slice_get, slice_index_or, IfOk, codes}
use Rattle.std.specs.List.{list_any, list_all}
use Rattle.std.specs.Cmp.Lexicographic.{bytes_decides}
use Rattle.std.proofs.lemmas.Bool.{false≢true}
use Rattle.std.proofs.lemmas.List.Elements.{All-nil, All-cons, All-head, All-tail}
use Rattle.m2_tree.specs.declared.pos.Pos.{Pos}
use Rattle.m2_tree.specs.declared.name.Ident.{Ident}
use Rattle.m2_tree.specs.declared.decl.Contents.{Contents}
use Rattle.m2_tree.specs.declared.decl.Contents.TheVariants as contents
use Rattle.m2_tree.specs.declared.decl.Module.{Module}
use Rattle.pool_board.specs.Graph.{prerequisites_of}
use Rattle.pool_board.specs.Results.{results_below, items_at, with_item}
use Rattle.m2_graph.specs.Files.{number_files}
use Rattle.m2_graph.specs.Graph.{IsGraph}
use Rattle.m2_graph.specs.Imports.{imports_of, is_definition, is_definition_part, definition_of}
use Rattle.m2_tree.specs.Names.{is_console, same_name}
use Rattle.law_graph.specs.Started.{at_places, is_named, definition_imported, all_imported}
use Rattle.law_graph.proofs.Defined.{one_definition}
use Rattle.typed_tree.specs.declared.table.Table.{Table}
use Rattle.typed_tree.specs.declared.typed_module.Imported.{Imported}
use Rattle.typed_tree.specs.declared.typed_module.TypedModule.{TypedModule}
use Rattle.m2_rule.specs.declared.breach.Breach.{Breach}
use Rattle.check_scope.specs.Elaborated.{least}
use Rattle.layout_storage.specs.Layouts.{too_large}
use Rattle.check_definition.specs.Compiled as types
use Rattle.check_body.specs.Checks.{elaborate_body}
use Rattle.def_meaning.specs.Environment.{Modules}
use Rattle.law_well_formed.specs.FormedImports.{is_imported, is_imported_by, IsImport, NamesImports, StandsOnImports}
use Rattle.law_well_formed.proofs.NamedImports.{tables_named, modules_stand}
use Rattle.law_modules.specs.Linked.{imported_names}
use Rattle.build_jobs.specs.declared.outcome.Compiled.{Compiled}
use Rattle.build_jobs.specs.declared.outcome.Compiled.TheVariants.{Defined, Built, Refused, Blocked}
use Rattle.build_jobs.specs.Own.{own_table, tables_behind}
use Rattle.build_jobs.specs.Compiling.{is_sound, table_in, tables_of, of_definition, of_fit, of_checked, of_contents, typed_body, compilation_of}
use Rattle.build_jobs.specs.Jobs.{compile_in_place, compile_at}
use Rattle.build_jobs.specs.Jobs.{needed_of}
use Rattle.law_encoding.specs.DeclaredProcedures.{ExportsOnce}
use Rattle.law_encoding.proofs.DistinctExports.{tables_once}
use Rattle.m2c.specs.Modules.{IsTyped, AreTyped}
use Rattle.build_results.specs.Texts.{modules}
use Rattle.m2c.proofs.Unrefused.{is_below}

-- ---- lists

-- one that passes, with what is known of all
pick_any : {A : Type 0} (P : A → Type 0) (f : A → Bool) (xs : List A) → All P xs → list_any f xs ≡ true → (x : A)
    × (P x × (f x ≡ true))
pick_any P f [] all e = absurd (false≢true e)
pick_any {A} P f (x ∷ xs) all e = by (f x) refl (λ later. pick_any P f xs (All-tail P x xs all) later) e
  where
    by : (b : Bool) → f x ≡ b → (list_any f xs ≡ true → (y : A) × (P y × (f y ≡ true))) → b || list_any f xs ≡ true
        → (y : A) × (P y × (f y ≡ true))
    by true is later e = (x, (All-head P x xs all, is))
    by false is later e = later e

all_left : {A : Type 0} (P : A → Type 0) (xs ys : List A) → All P (xs ++ ys) → All P xs
all_left P [] ys h = All-nil P
all_left P (x ∷ xs) ys h = All-cons P x xs (All-head P x (xs ++ ys) h) (all_left P xs ys (All-tail P x (xs ++ ys) h))

all_right : {A : Type 0} (P : A → Type 0) (xs ys : List A) → All P (xs ++ ys) → All P ys
all_right P [] ys h = h
all_right P (x ∷ xs) ys h = all_right P xs ys (All-tail P x (xs ++ ys) h)

either : (p q : Bool) → p || q ≡ true → (p ≡ true) ⊎ (q ≡ true)
either true q e = inl refl
either false q e = inr e

-- ---- tables that a module needs

module _ (fs : List (List ℕ × Module)) (numbers : List ℕ) (jobs : List (List ℕ)) (starts : List ℕ)
    (graph : IsGraph (number_files 0 fs) numbers jobs starts) where
  abbrev trees : List Module
  trees = modules fs

  pub record IsTableOf (t : Table) : Type 0 where
    pub tree : Module
    pub place : ℕ
    pub there : slice_get trees place ≡ Some tree
    pub definition : is_definition tree ≡ true
    pub home : ℕ
    pub known : NamesImports tree home t
    pub once : ExportsOnce (Some t)

  defined_result : (m : Module) (job : ℕ) (tables : List Table) (t : Table) (r : Result Table Breach)
      → types.definition_table least job m tables ≡ r → of_definition r ≡ Defined t → NamesImports m job t
  defined_result m job tables t (Ok x) e is =
      subst (NamesImports m job) (same_table is)
      (subst (λ (r : Result Table Breach). IfOk r (NamesImports m job)) e (tables_named least job m tables))
    where
      same_table : Defined x ≡ Defined t → x ≡ t
      same_table e = cc e
  defined_result m job tables t (Err f) e is = absurd (cc is)

  defined_once : (m : Module) (job : ℕ) (tables : List Table) (t : Table) (r : Result Table Breach)
      → types.definition_table least job m tables ≡ r → of_definition r ≡ Defined t → ExportsOnce (Some t)
  defined_once m job tables t (Ok x) e is = let same : x ≡ t = cc in
      subst (λ (y : Table). ExportsOnce (Some y)) same
      (subst (λ (r : Result Table Breach). IfOk r (λ y. ExportsOnce (Some y))) e (tables_once least job m tables))
  defined_once m job tables t (Err f) e is = absurd (cc is)

  no_fit : (t : Table) (b : TypedModule) (o : Option Pos) → of_fit b o ≡ Defined t → ⊥
  no_fit t b None e = absurd (cc e)
  no_fit t b (Some at) e = absurd (cc e)

  no_body : (t : Table) (r : Result TypedModule Breach) → of_checked r ≡ Defined t → ⊥
  no_body t (Ok b) e = no_fit t b (too_large b) e
  no_body t (Err f) e = absurd (cc e)

  from_contents : (m : Module) (place job : ℕ) (tables : List Table) (t : Table) → slice_get trees place ≡ Some m
      → (c : Contents) → m.contents ≡ c → of_contents m job tables c ≡ Defined t → IsTableOf t
  from_contents m place job tables t there (contents.Definition ds) is e = record {
    tree = m;
    place = place;
    there = there;
    definition = ap is_definition_part is;
    home = job;
    known = defined_result m job tables t (types.definition_table least job m tables) refl e;
    once = defined_once m job tables t (types.definition_table least job m tables) refl e;
  }
  from_contents m place job tables t there (contents.Implementation b) is e =
      absurd (no_body t (typed_body m job tables) e)
  from_contents m place job tables t there (contents.Program b) is e = absurd (no_body t (typed_body m job tables) e)

  from_compiled : (m : Module) (place job : ℕ) (outs : List Compiled) (t : Table) → slice_get trees place ≡ Some m
      → compilation_of m job outs ≡ Defined t → IsTableOf t
  unfolding compilation_of
  from_compiled m place job outs t there e = by (list_all is_sound outs) e
    where
      by : (b : Bool) → cond b (of_contents m job (tables_of outs) m.contents) Blocked ≡ Defined t → IsTableOf t
      by true e = from_contents m place job (tables_of outs) t there m.contents refl e
      by false e = absurd (cc e)

  from_tree : (place job : ℕ) (outs : List Compiled) (t : Table) (o : Option Module) → slice_get trees place ≡ o
      → compile_in_place o job outs ≡ Defined t → IsTableOf t
  from_tree place job outs t None there e = absurd (cc e)
  from_tree place job outs t (Some m) there e = from_compiled m place job outs t there e

  job_table : (job : ℕ) (outs : List Compiled) (t : Table) → compile_at trees numbers job outs ≡ Defined t → IsTableOf t
  job_table job outs t e = from_tree (slice_index_or numbers job 0) job outs t
      (slice_get trees (slice_index_or numbers job 0)) refl e

  picked_tables : (xs : List Compiled) (ps : List ℕ)
      → ((p : ℕ) (x : Compiled) → slice_get xs p ≡ Some x → (t : Table) → x ≡ Defined t → IsTableOf t)
      → All IsTableOf (tables_of (items_at xs ps))
  picked_tables xs [] h = All-nil IsTableOf
  picked_tables xs (p ∷ ps) h = by (slice_get xs p) refl (picked_tables xs ps h)
    where
      with_one : (x : Compiled) → ((t : Table) → x ≡ Defined t → IsTableOf t)
          → All IsTableOf (tables_of (items_at xs ps)) → All IsTableOf (table_in x ++ tables_of (items_at xs ps))
      with_one (Defined t) g rest = All-cons IsTableOf t (tables_of (items_at xs ps)) (g t refl) rest
      with_one (Built b) g rest = rest
      with_one (Refused f) g rest = rest
      with_one Blocked g rest = rest

      by : (o : Option Compiled) → slice_get xs p ≡ o → All IsTableOf (tables_of (items_at xs ps))
          → All IsTableOf (tables_of (with_item o (items_at xs ps)))
      by None e rest = rest
      by (Some x) e rest = with_one x (h p x e) rest

  pub needed_tables : (job : ℕ) → All IsTableOf (tables_of (needed_of trees numbers jobs job))
  needed_tables job =
      picked_tables (results_below jobs (compile_at trees numbers) job) (prerequisites_of jobs job)
      (λ p x e t is. job_table p (needed_of trees numbers jobs p) t (is_below fs numbers jobs job p x e ∙ is))

  pub own_known : (m : Module) (tables : List Table) (o : Table) → All IsTableOf tables → own_table m tables ≡ Some o
      → IsTableOf o × (o.name ≡ m.name.name)
  own_known m [] o all e = absurd (cc e)
  own_known m (t ∷ ts) o all e = by (same_name t.name m.name.name) refl e
    where
      same_some : Some t ≡ Some o → t ≡ o
      same_some e = cc e

      by : (b : Bool) → same_name t.name m.name.name ≡ b → cond b (Some t) None ≡ Some o → IsTableOf o
          × (o.name ≡ m.name.name)
      by true is e = subst (λ (x : Table). IsTableOf x × (x.name ≡ m.name.name)) (same_some e)
          (All-head IsTableOf t ts all, (bytes_decides t.name m.name.name).0 is)
      by false is e = absurd (cc e)

  -- ---- what a module that starts imports

  module _ (whole : List Module) where
    abbrev IsClosed : Ident → Type 0
    IsClosed x = (is_console x.name ≡ true) ⊎ (is_named whole x.name ≡ true)

    among : (name : List ℕ) → same_name name (codes "Console") ≡ false → (xs : List Ident) → All IsClosed xs
        → list_any (λ i. same_name i.name name) xs ≡ true → is_named whole name ≡ true
    among name instance xs all e =
        let x = pick_any IsClosed (λ (i : Ident). same_name i.name name) xs all e in
        let same : x.0.name ≡ name = (bytes_decides x.0.name name).0 x.1.1 in
        elim (x.1.0) [
          | inl console ↦ absurd (false≢true (sym instance
              ∙ ap (λ (n : List ℕ). same_name n (codes "Console")) (sym same) ∙ console))
          | inr named ↦ subst (λ (n : List ℕ). is_named whole n ≡ true) same named
        ]

    module _ (m : Module) (closed : All IsClosed (all_imported trees m)) where
      abbrev definitions : List Ident
      definitions = definition_imported trees (definition_of trees m.name.name)

      by_own : (o : Option Table) → ((t : Table) → o ≡ Some t → IsTableOf t × (t.name ≡ m.name.name)) → (name : List ℕ)
          → same_name name (codes "Console") ≡ false → is_imported_by o name ≡ true → is_named whole name ≡ true
      by_own None known name instance e = absurd (false≢true e)
      by_own (Some t) known name instance e =
          let k = known t refl in
          let d : Module = k.0.tree in
          let i = pick_any (λ (e : List ℕ × ℕ). is_imported d e.0 ≡ true) (λ (e : List ℕ × ℕ). same_name e.0 name)
          t.imports k.0.known.imports e in
          let imports : is_imported d name ≡ true =
          subst (λ (n : List ℕ). is_imported d n ≡ true) ((bytes_decides i.0.0 name).0 i.1.1) i.1.0 in
          let one : definition_imported trees (definition_of trees d.name.name) ≡ imports_of d =
          one_definition fs numbers jobs starts graph d (k.0.place, k.0.there) k.0.definition in
          let named : d.name.name ≡ m.name.name = sym k.0.known.name ∙ k.1 in
          let same : imports_of d ≡ definitions = sym one
          ∙ ap (λ (n : List ℕ). definition_imported trees (definition_of trees n)) named in
          among name instance (imports_of d) (subst (All IsClosed) (sym same)
          (all_left IsClosed definitions (imports_of m) closed)) imports

      one_import : (own : Option Table) → ((t : Table) → own ≡ Some t → IsTableOf t × (t.name ≡ m.name.name))
          → (i : Imported) → IsImport m own i → is_named whole i.name ≡ true
      one_import own known i is = elim (either (is_imported_by own i.name) (is_imported m i.name) is.known) [
        | inl e ↦ by_own own known i.name is.instance e
        | inr e ↦ among i.name is.instance (imports_of m) (all_right IsClosed definitions (imports_of m) closed) e
      ]

      all_imports : (own : Option Table) → ((t : Table) → own ≡ Some t → IsTableOf t × (t.name ≡ m.name.name))
          → (is : List Imported) → All (IsImport m own) is → All (λ n. is_named whole n ≡ true) (map (λ i. i.name) is)
      all_imports own known [] all = All-nil (λ n. is_named whole n ≡ true)
      all_imports own known (i ∷ is) all =
          All-cons (λ n. is_named whole n ≡ true) i.name (map (λ i. i.name) is)
          (one_import own known i (All-head (IsImport m own) i is all))
          (all_imports own known is (All-tail (IsImport m own) i is all))

    module_imports : (s : ℕ) (t : TypedModule) → (typed : IsTyped trees numbers jobs s t)
        → All IsClosed (all_imported trees typed.tree) → All (λ n. is_named whole n ≡ true) (imported_names t)
    module_imports s t typed closed =
        let m : Module = typed.tree in
        let tables : List Table = tables_of (needed_of trees numbers jobs typed.job) in
        let own : Option Table = own_table m tables in
        let stands : StandsOnImports m own t =
        subst (λ (r : Result TypedModule Breach). IfOk r (StandsOnImports m own)) typed.typed
        (modules_stand least (elaborate_body least) typed.job m own (tables_behind own tables))
        in
        all_imports m closed own (λ o e. own_known m tables o (needed_tables typed.job) e) t.imports stands.imports

    abbrev Closed : Module → Type 0
    Closed m = All IsClosed (all_imported trees m)

    pub all_modules : (ss : List ℕ) (p : Modules) → AreTyped trees numbers jobs ss p → All Closed (at_places trees ss)
        → All (λ m. All (λ n. is_named whole n ≡ true) (imported_names m)) p
    all_modules [] [] typed closed = All-nil (λ m. All (λ n. is_named whole n ≡ true) (imported_names m))
    all_modules [] (t ∷ ts) typed closed = absurd typed
    all_modules (s ∷ ss) [] typed closed = absurd typed
    all_modules (s ∷ ss) (t ∷ ts) typed closed =
        let here : at_places trees (s ∷ ss) ≡ typed.0.tree ∷ at_places trees ss = rw (typed.0.is_tree) refl in
        let all = subst (All Closed) here closed in
        All-cons (λ m. All (λ n. is_named whole n ≡ true) (imported_names m)) t ts
        (module_imports s t typed.0 (All-head Closed typed.0.tree (at_places trees ss) all))
        (all_modules ss ts typed.1 (All-tail Closed typed.0.tree (at_places trees ss) all))
