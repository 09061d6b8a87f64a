-- The modules of a program that jobs make know one another's variables.
use Rattle.std.proofs.Common.{◌≡◌, ◌⊎◌, inl, inr, ℕ, zero, suc, ◌+◌, ◌<◌, ◌==◌, Bool, true, false, not, cond, List, [], ◌∷◌, ◌++◌, length, Option, Some, None, Result, Ok, Err, refl, sym, ap, subst, ◌∙◌, arith}
use Rattle.std.specs.Prelude.{slice_get, slice_index_or, map, codes, nat_lt, IfOk}
use Rattle.std.specs.List.{AllByRecursion, fold, list_all, position_or_len, prefix_len}
use Rattle.std.specs.Option.{unwrap_or}
use Rattle.std.proofs.lemmas.Option.{slice_get_within}
use Rattle.std.proofs.lemmas.Bool.{eqb-true, lt-ltb}
use Rattle.m2_rule.specs.declared.rule.Rule.TheVariants as rule
use Rattle.m2_tree.specs.declared.pos.Pos.{Pos}
use Rattle.m2_tree.specs.declared.decl.Def.{Def}
use Rattle.m2_tree.specs.declared.decl.Contents.{Contents}
use Rattle.m2_tree.specs.declared.decl.Contents.TheVariants as contents
use Rattle.m2_tree.specs.declared.decl.Module.{Module}
use Rattle.m2_tree.specs.Names.{same_name, is_console}
use Rattle.m2_graph.specs.Imports.{is_definition, is_definition_part, is_program, is_program_part}
use Rattle.typed_tree.specs.declared.shape.Made.{Made}
use Rattle.typed_tree.specs.declared.table.Table.{Table}
use Rattle.typed_tree.specs.declared.types.TypeNo.{TypeNo}
use Rattle.typed_tree.specs.declared.typed_module.Imported.{Imported}
use Rattle.typed_tree.specs.declared.typed_module.TypedModule.{TypedModule}
use Rattle.m2_rule.specs.declared.breach.Breach.{Breach}
use Rattle.check_scope.specs.Elaborated.{Gathers, least}
use Rattle.check_scope.specs.Scopes.{State}
use Rattle.check_scope.specs.declared.scope.Scope.{Scope}
use Rattle.layout_storage.specs.Types.{Ty}
use Rattle.layout_storage.specs.Shapes.{tree}
use Rattle.layout_storage.specs.Layouts.{too_large}
use Rattle.check_definition.specs.Predeclared.{console, first_scope}
use Rattle.check_definition.specs.Importing.{numbered_modules, with_import}
use Rattle.check_definition.specs.Marking.{marked_def}
use Rattle.check_definition.specs.Declare.{with_def}
use Rattle.check_definition.specs.Export.{imported_modules}
use Rattle.check_definition.specs.Compiled as types
use Rattle.check_body.specs.Own.{exported_variables}
use Rattle.check_body.specs.Checks.{elaborate_body}
use Rattle.def_meaning.specs.Environment.{module_place}
use Rattle.law_modules.specs.Linked.{Program}
use Rattle.law_simulation.specs.Knows.{Knows, IsCoherent}
use Rattle.law_well_formed.specs.Formed.{Holds, fine, broken}
use Rattle.law_well_formed.proofs.Basics.{then_holds, any_holds, reported_holds}
use Rattle.law_well_formed.specs.FormedImports.{NamesImports}
use Rattle.law_well_formed.proofs.ImportsLists.{same_refl, same_is, all_each}
use Rattle.law_well_formed.proofs.NamedImports.{tables_named}
use Rattle.law_well_formed.proofs.NamedTables.{fold_keeps, def_marks, def_keeps, import_keeps}
use Rattle.law_well_formed.specs.Ordered.{AreOrdered}
use Rattle.law_well_formed.proofs.Trees.{itself}
use Rattle.law_well_formed.specs.FormedKnown.{fits_module, HasReached, TableFormed}
use Rattle.law_well_formed.proofs.Gathered.{each_more}
use Rattle.build_jobs.specs.declared.outcome.Compiled.{Compiled}
use Rattle.build_jobs.specs.declared.outcome.Compiled.TheVariants.{Defined, Blocked}
use Rattle.build_jobs.specs.Own.{own_table, tables_behind}
use Rattle.build_jobs.specs.Compiling.{is_sound, tables_of, of_definition, of_fit, of_checked, of_contents, typed_body, compilation_of}
use Rattle.build_jobs.specs.Jobs.{compile_in_place}
use Rattle.build_jobs.specs.Jobs.{needed_of}
use Rattle.law_programs.specs.FormedReach.{result_of, types_of}
use Rattle.law_programs.proofs.Reach.{tree_fits, IsNeeded, own_formed, behind_formed, known_below, tables_needed, tables_same}
use Rattle.law_programs.specs.FormedCoherent.{IsBodyOf, IsWhole}
use Rattle.law_programs.proofs.TreesAgree.{variables_agree}
use Rattle.law_programs.proofs.CoherentBodies.{BeginWith, IsKnownBy, IsKnown, module_known}
use Rattle.law_programs.proofs.Imports.{AreListed, AreMade, OwnListed, IsImportOf, AreImports, table_imports, typed_are}

-- ---- results and lists

pub holds_ok : {A T : Type 0} {P : A → Type 0} {r : Result A T} → Holds P r → (x : A) → r ≡ Ok x → P x
holds_ok {P = P} (fine y p) x e = let same : y ≡ x = cc in subst P same p
holds_ok (broken f) x e = absurd cc

pub if_ok : {A T : Type 0} (P : A → Type 0) (r : Result A T) (x : A) → IfOk r P → r ≡ Ok x → P x
if_ok P (Ok y) x p e = let same : y ≡ x = cc in subst P same p
if_ok P (Err f) x p e = absurd cc

got : {X : Type 0} (F : X → Type 0) (xs : List X) → AllByRecursion F xs → (k : ℕ) (x : X) → slice_get xs k ≡ Some x
    → F x
got F [] h k x e = absurd cc
got F (y ∷ xs) h zero x e = let same : y ≡ x = cc in subst F same h.0
got F (y ∷ xs) h (suc k) x e = got F xs h.1 k x e

each_by : {X : Type 0} (F : X → Type 0) (xs : List X) → ((k : ℕ) (x : X) → slice_get xs k ≡ Some x → F x)
    → AllByRecursion F xs
each_by F [] f = tt
each_by F (x ∷ xs) f = (f 0 x refl, each_by F xs (λ k y e. f (suc k) y e))

map_more : {X Y : Type 0} (f : X → Y) (xs ys : List X) → map f (xs ++ ys) ≡ map f xs ++ map f ys
map_more f [] ys = refl
map_more f (x ∷ xs) ys = ap (λ (zs : List _). f x ∷ zs) (map_more f xs ys)

-- where one element alone passes, it is the first
first_alone : {X : Type 0} (test : X → Bool) (xs : List X) (n : ℕ) (x : X) → slice_get xs n ≡ Some x → test x ≡ true
    → ((j : ℕ) (y : X) → slice_get xs j ≡ Some y → test y ≡ true → j ≡ n) → position_or_len test xs ≡ n
first_alone test [] n x e p one = absurd cc
first_alone test (y ∷ xs) zero x e p one =
    let same : y ≡ x = cc in ap (λ (b : Bool). cond (not b) (1 + prefix_len (λ z. not (test z)) xs) 0)
    (ap test same ∙ p)
first_alone test (y ∷ xs) (suc n) x e p one =
    by (test y) refl (first_alone test xs n x e p
    (λ j z g q. let k : suc j ≡ suc n = one (suc j) z g q in omega (arith, k))) where
      by : (b : Bool) → test y ≡ b → prefix_len (λ z. not (test z)) xs ≡ n
          → cond (not b) (1 + prefix_len (λ z. not (test z)) xs) 0 ≡ suc n
      by true q k = let clash : 0 ≡ suc n = one 0 y refl q in absurd (omega (arith, clash))
      by false q k = omega (arith, k)

less_true : (m n : ℕ) → m < n → nat_lt m n ≡ true
less_true m n l = lt-ltb m n l

place_alone : (p : Program) (n : ℕ) (m : TypedModule) → slice_get p n ≡ Some m
    → ((j : ℕ) (y : TypedModule) → slice_get p j ≡ Some y → y.types.home ≡ m.types.home → j ≡ n)
    → module_place p m.types.home ≡ n
place_alone p n m e one =
    let at : position_or_len (λ (x : TypedModule). x.types.home == m.types.home) p ≡ n
    = first_alone (λ (x : TypedModule). x.types.home == m.types.home) p n m e (itself m.types.home)
    (λ j y g q. one j y g (eqb-true y.types.home m.types.home q)) in
    let within : n < length p = slice_get_within p n m e in
    ap (λ (k : ℕ). unwrap_or (cond (nat_lt k (length p)) (Some k) None) 0) at
    ∙ ap (λ (b : Bool). unwrap_or (cond b (Some n) None) 0) (less_true n (length p) within)

-- ---- the table of a definition

module _ (g : Gathers) (m : Module) where
  tables_stay : (modules : List (List ℕ × ℕ)) (s : Scope g.Reported) (defs : List Def)
      → (types.declared_in g m modules s defs).0.tables ≡ s.tables
  tables_stay modules s defs =
      let i = fold (with_import g modules) (s, Ok tt) m.imports in
      ap (λ (k : List Table × ℕ). k.0)
      (fold_keeps (λ (st : State (Unit {0}) g.Reported). st.0) (with_def g) (def_keeps g) defs
      (fold marked_def i.0 defs, i.1)
      ∙ (fold_keeps (λ (s : Scope g.Reported). s) marked_def (def_marks g.Reported) defs i.0
      ∙ import_keeps g modules m.imports (s, Ok tt)))

  module _ (IsMade : Table → Type 0) (home : ℕ) where
    definition_listed : (tables : List Table) → AreMade IsMade tables → (defs : List Def)
        → Holds (λ t. AreListed IsMade t.imports) (types.of_definition g home m tables defs)
    definition_listed tables made defs =
        let modules : List (List ℕ × ℕ) = (numbered_modules tables).0 in
        let st : State (Unit {0}) g.Reported = types.declared_in g m modules (first_scope home tables) defs in
        then_holds (any_holds st.1) (λ x k. fine _
        (subst (λ (ts : List Table). AreListed IsMade (imported_modules modules ts m.imports))
        (sym (tables_stay modules (first_scope home tables) defs)) (table_imports IsMade tables made m.imports)))

    contents_listed : (tables : List Table) → AreMade IsMade tables → (c : Contents)
        → Holds (λ t. AreListed IsMade t.imports) (types.of_contents g home m tables c)
    contents_listed tables made (contents.Definition defs) = definition_listed tables made defs
    contents_listed tables made (contents.Implementation b) = reported_holds g m.name.pos rule.LonelyModule
    contents_listed tables made (contents.Program b) = reported_holds g m.name.pos rule.LonelyModule

module _ (trees : List Module) (files : List ℕ) (jobs : List (List ℕ)) (fit : list_all fits_module trees ≡ true) where
  abbrev one : ℕ → Compiled
  one = result_of trees files jobs

  abbrev its_types : ℕ → List Made
  its_types = types_of trees files jobs

  abbrev needed : ℕ → List Table
  needed job = tables_of (needed_of trees files jobs job)

  abbrev IsMade : Table → Type 0
  IsMade t = (t.number < length files) × (one t.number ≡ Defined t)

  abbrev Needed : ℕ → Table → Type 0
  Needed n = IsNeeded trees files jobs fit n (known_below trees files jobs fit n)

  -- ---- the definition of a table

  pub record IsDefined (job : ℕ) (t : Table) : Type 0 where
    pub tree : Module
    pub is_tree : slice_get trees (slice_index_or files job 0) ≡ Some tree
    pub definition : is_definition tree ≡ true
    pub part : is_program tree ≡ false
    pub compiled_to : types.definition_table least job tree (needed job) ≡ Ok t

  no_fit : (t : Table) (b : TypedModule) (o : Option Pos) → of_fit b o ≡ Defined t → ⊥
  no_fit t b None e = absurd cc
  no_fit t b (Some at) e = absurd cc

  no_body : (t : Table) (r : Result TypedModule Breach) → of_checked r ≡ Defined t → ⊥
  no_body t (Ok b) e = no_fit t b (too_large b) e
  no_body t (Err f) e = absurd cc

  definition_ok : (t : Table) (r : Result Table Breach) → of_definition r ≡ Defined t → r ≡ Ok t
  definition_ok t (Ok x) e = let same : x ≡ t = cc in ap Ok same
  definition_ok t (Err f) e = absurd cc

  module _ (job : ℕ) (t : Table) where
    from_contents : (m : Module) → slice_get trees (slice_index_or files job 0) ≡ Some m → (c : Contents)
        → m.contents ≡ c → of_contents m job (needed job) c ≡ Defined t → IsDefined job t
    from_contents m there (contents.Definition ds) is e =
        record {
          tree = m;
          is_tree = there;
          definition = ap is_definition_part is;
          part = ap is_program_part is;
          compiled_to = definition_ok t (types.definition_table least job m (needed job)) e;
        }
    from_contents m there (contents.Implementation b) is e = absurd (no_body t (typed_body m job (needed job)) e)
    from_contents m there (contents.Program b) is e = absurd (no_body t (typed_body m job (needed job)) e)

    from_compiled : (m : Module) → slice_get trees (slice_index_or files job 0) ≡ Some m
        → compilation_of m job (needed_of trees files jobs job) ≡ Defined t → IsDefined job t
    unfolding compilation_of
    from_compiled m there e = by (list_all is_sound (needed_of trees files jobs job)) e where
      by : (b : Bool) → cond b (of_contents m job (needed job) m.contents) Blocked ≡ Defined t → IsDefined job t
      by true e = from_contents m there m.contents refl e
      by false e = absurd cc

    from_tree : (o : Option Module) → slice_get trees (slice_index_or files job 0) ≡ o
        → compile_in_place o job (needed_of trees files jobs job) ≡ Defined t → IsDefined job t
    from_tree None there e = absurd cc
    from_tree (Some m) there e = from_compiled m there e

    pub defined_by : one job ≡ Defined t → IsDefined job t
    defined_by e = from_tree (slice_get trees (slice_index_or files job 0)) refl e

  -- ---- tables that jobs need

  is_made : (n : ℕ) → n < length files → (t : Table) → Needed n t → IsMade t
  is_made n l t h = ((let k : t.number < n = h.before in omega (arith, l, k)), h.made)

  made_of : (n : ℕ) → n < length files → (ts : List Table) → AllByRecursion (Needed n) ts → AreMade IsMade ts
  made_of n l [] h = tt
  made_of n l (t ∷ ts) h = (inr (is_made n l t h.0), made_of n l ts h.1)

  with_console : (ts : List Table) → AreMade IsMade ts → AreMade IsMade (ts ++ console ∷ [])
  unfolding console
  with_console ts h = each_more (λ (t : Table). (is_console t.name ≡ true) ⊎ IsMade t) ts console h
      (inl (same_refl (codes "Console")))

  behind : (n : ℕ) (o : Option Table) (ts : List Table) → AllByRecursion (Needed n) ts
      → AllByRecursion (Needed n) (tables_behind o ts)
  behind n None ts h = h
  behind n (Some t) [] h = tt
  behind n (Some t) (u ∷ ts) h = h.1

  pub own_is : (n : ℕ) (m : Module) (ts : List Table) → AllByRecursion (Needed n) ts → (o : Table)
      → own_table m ts ≡ Some o → Needed n o × (o.name ≡ m.name.name)
  own_is n m [] h o e = absurd cc
  own_is n m (t ∷ ts) h o e = by (same_name t.name m.name.name) refl e where
    by : (b : Bool) → same_name t.name m.name.name ≡ b → cond b (Some t) None ≡ Some o → Needed n o
        × (o.name ≡ m.name.name)
    by true q g = let same : t ≡ o = cc in
        subst (λ (x : Table). Needed n x × (x.name ≡ m.name.name)) same (h.0, same_is t.name m.name.name q)
    by false q g = absurd cc

  -- what a definition imports are tables that jobs make
  imports_listed : (job : ℕ) (t : Table) → job < length files → one job ≡ Defined t → AreListed IsMade t.imports
  imports_listed job t l e =
      let d : IsDefined job t = defined_by job t e in
      holds_ok (contents_listed least d.tree IsMade job (needed job ++ console ∷ [])
      (with_console (needed job) (made_of job l (needed job) (tables_needed trees files jobs fit job)))
      d.tree.contents) t d.compiled_to

  pub table_named : (job : ℕ) (t : Table) (d : IsDefined job t) → NamesImports d.tree job t
  table_named job t d = if_ok (NamesImports d.tree job) (types.definition_table least job d.tree (needed job)) t
      (tables_named least job d.tree (needed job)) d.compiled_to

  -- ---- the bodies of a program

  -- an implementation, with the table of its definition
  record IsOwn (t : TypedModule) : Type 0 where
    table : Table
    made : IsMade table
    named : table.name ≡ t.name
    home : t.types.home ≡ table.number
    has : HasReached t.types table.reached
    variables : BeginWith (exported_variables table.exported) t.variables

  record IsPart (t : TypedModule) : Type 0 where
    tree : Module
    job : ℕ
    is_tree : slice_get trees (slice_index_or files job 0) ≡ Some tree
    name : t.name ≡ tree.name.name
    ordered : AreOrdered t.types
    imports : AreImports IsMade t.types t.imports
    kind : ((is_program tree ≡ true) × (t.types.home ≡ job)) ⊎ IsOwn t

  known_imports : (m : Module) (n : ℕ) (own : Option Table) (home : ℕ) (ts : List Table) (t : TypedModule)
      → AreMade IsMade ts → OwnListed IsMade own → IsKnownBy m own home ts t → AreImports IsMade t.types t.imports
  known_imports m n own home ts t made o k =
      subst (λ (is : List Imported). AreImports IsMade t.types is) (sym k.imports)
      (typed_are IsMade ts made t.types k.has own o m.imports)

  part_by : (m : Module) (n : ℕ) → n < length files → (t : TypedModule)
      → slice_get trees (slice_index_or files n 0) ≡ Some m → (c : Contents) → m.contents ≡ c
      → IsKnown m (own_table m (needed n)) n (tables_behind (own_table m (needed n)) (needed n) ++ console ∷ []) t c
      → IsPart t
  part_by m n l t there (contents.Definition ds) is k = absurd k
  part_by m n l t there (contents.Program b) is k =
      let all = tables_needed trees files jobs fit n in
      let ts : List Table = tables_behind (own_table m (needed n)) (needed n) in
      record {
        tree = m;
        job = n;
        is_tree = there;
        name = k.name;
        ordered = k.ordered;
        imports = known_imports m n None n (ts ++ console ∷ []) t
            (with_console ts (made_of n l ts (behind n (own_table m (needed n)) (needed n) all))) tt k;
        kind = inl (ap is_program_part is, k.home_is);
      }
  part_by m n l t there (contents.Implementation b) is k =
      let all = tables_needed trees files jobs fit n in
      let ts : List Table = tables_behind (own_table m (needed n)) (needed n) in
      let o = own_is n m (needed n) all k.0 k.1 in
      let made : IsMade k.0 = is_made n l k.0 o.0 in
      record {
        tree = m;
        job = n;
        is_tree = there;
        name = k.2.name;
        ordered = k.2.ordered;
        imports = known_imports m n (Some k.0) k.0.number (ts ++ console ∷ []) t
            (with_console ts (made_of n l ts (behind n (own_table m (needed n)) (needed n) all)))
            (imports_listed k.0.number k.0 made.0 made.1) k.2;
        kind = inr (record {
          table = k.0;
          made = made;
          named = o.1 ∙ sym k.2.name;
          home = k.2.home_is;
          has =
              k.2.own_in.0;
          variables = k.2.own_in.1;
        });
      }

  part_of : (t : TypedModule) → IsBodyOf trees files jobs t → IsPart t
  part_of t b =
      let all = tables_needed trees files jobs fit b.job in
      let own : Option Table = own_table b.tree (needed b.job) in
      part_by b.tree b.job b.is_job t b.is_tree b.tree.contents refl
      (holds_ok (module_known least (elaborate_body least) its_types b.job b.tree own (tables_behind own (needed b.job))
      (tree_fits trees fit (slice_index_or files b.job 0) b.tree b.is_tree)
      (own_formed trees files jobs fit b.job (known_below trees files jobs fit b.job) b.tree (needed b.job) all)
      (behind_formed trees files jobs fit b.job (known_below trees files jobs fit b.job) own (needed b.job) all)) t
      b.typed)

  -- ---- numbers and names

  one_table : (t u : Table) → IsMade t → IsMade u → t.number ≡ u.number → t ≡ u
  one_table t u p q e = let same : Defined t ≡ Defined u = sym p.1 ∙ (ap one e ∙ q.1) in cc

  one_tree : (place : ℕ) (m n : Module) → slice_get trees place ≡ Some m → slice_get trees place ≡ Some n → m ≡ n
  one_tree place m n p q = let same : Some m ≡ Some n = sym p ∙ q in cc

  -- the job of a program module makes no table
  no_table : (m : Module) (job : ℕ) (t : Table) → slice_get trees (slice_index_or files job 0) ≡ Some m
      → is_program m ≡ true → one job ≡ Defined t → ⊥
  no_table m job t there is e =
      let d : IsDefined job t = defined_by job t e in
      let same : d.tree ≡ m = one_tree (slice_index_or files job 0) d.tree m d.is_tree there in
      let clash : true ≡ false = sym is ∙ (ap is_program (sym same) ∙ d.part) in absurd cc

  -- modules with one number have one name
  names_by : (s t : TypedModule) (a : IsPart s) (b : IsPart t) → s.types.home ≡ t.types.home
      → ((is_program a.tree ≡ true) × (s.types.home ≡ a.job)) ⊎ IsOwn s
      → ((is_program b.tree ≡ true) × (t.types.home ≡ b.job)) ⊎ IsOwn t → s.name ≡ t.name
  names_by s t a b e (inl x) (inl y) =
      let job : a.job ≡ b.job = sym x.1 ∙ (e ∙ y.1) in
      let same : a.tree ≡ b.tree = one_tree (slice_index_or files b.job 0) a.tree b.tree
      (ap (λ (j : ℕ). slice_get trees (slice_index_or files j 0)) (sym job) ∙ a.is_tree) b.is_tree in
      a.name ∙ (ap (λ (m : Module). m.name.name) same ∙ sym b.name)
  names_by s t a b e (inl x) (inr y) = absurd
      (no_table a.tree a.job y.table a.is_tree x.0 (ap one (sym x.1 ∙ (e ∙ y.home)) ∙ y.made.1))
  names_by s t a b e (inr x) (inl y) = absurd
      (no_table b.tree b.job x.table b.is_tree y.0 (ap one (sym y.1 ∙ (sym e ∙ x.home)) ∙ x.made.1))
  names_by s t a b e (inr x) (inr y) =
      let same : x.table ≡ y.table = one_table x.table y.table x.made y.made (sym x.home ∙ (e ∙ y.home)) in
      sym x.named ∙ (ap (λ (u : Table). u.name) same ∙ y.named)

  -- ---- the program

  module _ (p : Program) (w : IsWhole trees files jobs p) where
    part_at : (place : ℕ) (m : TypedModule) → slice_get p place ≡ Some m → IsPart m
    part_at place m e = part_of m (got (IsBodyOf trees files jobs) p w.bodies place m e)

    own_place : (place : ℕ) (m : TypedModule) → slice_get p place ≡ Some m → module_place p m.types.home ≡ place
    own_place place m e =
        place_alone p place m e (λ j y g q. w.apart j place y m g e
        (let a : IsPart y = part_at j y g in let b : IsPart m = part_at place m e in
        names_by y m a b q a.kind b.kind))

    -- ---- one import

    module _ (place : ℕ) (m : TypedModule) (there : slice_get p place ≡ Some m) where
      part : IsPart m
      part = part_at place m there

      same_variables : (i : Imported) (k : IsImportOf IsMade m.types i) (home : TypedModule) → AreOrdered home.types
          → HasReached home.types k.table.reached → BeginWith (exported_variables k.table.exported) home.variables
          → ((i.variables ≡ []) ⊎ ((i.variables ≡ exported_variables k.table.exported)
          × HasReached m.types k.table.reached)) → (more : List Ty)
          × (map (tree home.types) home.variables ≡ map (tree m.types) i.variables ++ more)
      same_variables i k home o h v (inl none) = (
        map (tree home.types) home.variables,
        ap
            (λ (ts : List TypeNo). map (tree m.types) ts ++ map (tree home.types) home.variables) (sym none),
      )
      same_variables i k home o h v (inr some) =
          let f : TableFormed its_types (suc k.table.number) k.table =
          (tables_same trees files jobs fit k.table.number k.table k.made.1).1 in
          let agree : map (tree home.types) (exported_variables k.table.exported)
          ≡ map (tree m.types) (exported_variables k.table.exported) =
          variables_agree its_types (suc k.table.number) k.table f home.types m.types o part.ordered h some.1 in (
            map (tree home.types) v.0,
            ap (λ (ts : List TypeNo). map (tree home.types) ts) v.1
                ∙ (map_more (tree home.types) (exported_variables k.table.exported) v.0
                ∙ (ap (λ (xs : List Ty). xs ++ map (tree home.types) v.0) agree
                ∙ ap (λ (ts : List TypeNo). map (tree m.types) ts ++ map (tree home.types) v.0) (sym some.0))),
          )

      known_by : (i : Imported) → IsImportOf IsMade m.types i → (q : ℕ) (home : TypedModule) → slice_get p q ≡ Some home
          → home.name ≡ i.name → (a : IsPart home) → ((is_program a.tree ≡ true) × (home.types.home ≡ a.job))
          ⊎ IsOwn home → Knows p m i
      known_by i k q home at named a (inl x) =
          absurd (w.programs a.tree a.job k.table a.is_tree x.0 k.table.number k.made.0 k.made.1
          (k.name_is ∙ (sym named ∙ a.name)))
      known_by i k q home at named a (inr x) =
          let number : x.table.number ≡ k.table.number =
          w.definitions x.table.number k.table.number x.table k.table x.made.0 k.made.0 x.made.1 k.made.1
          (x.named ∙ (named ∙ sym k.name_is)) in
          let same : x.table ≡ k.table = one_table x.table k.table x.made k.made number in
          let its_home : home.types.home ≡ i.number = x.home ∙ (number ∙ k.number_is) in
          let found : module_place p i.number ≡ q = ap (λ (n : ℕ). module_place p n) (sym its_home)
          ∙ own_place q home at in
          let v = same_variables i k home a.ordered (subst (λ (t : Table). HasReached home.types t.reached) same x.has)
          (subst (λ (t : Table). BeginWith (exported_variables t.exported) home.variables) same x.variables)
          k.variables in
          record {
            home = home;
            there = ap (λ (n : ℕ). slice_get p n) found ∙ at;
            number = its_home;
            name = sym named;
            more = v.0;
            variables = v.1;
          }

      knows : (n : ℕ) (i : Imported) → slice_get m.imports n ≡ Some i → Knows p m i
      knows n i e =
          let c = w.closed place n m i there e in
          let a : IsPart c.1 = part_at c.0 c.1 c.2 in
          known_by i (got (IsImportOf IsMade m.types) m.imports part.imports n i e) c.0 c.1 c.2 c.3 a a.kind

      pub coherent : IsCoherent p place m
      coherent = record {
        there = there;
        own = own_place place m there;
        imports =
            all_each (Knows p m) m.imports (each_by (Knows p m) m.imports knows);
      }
