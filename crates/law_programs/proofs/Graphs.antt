-- The bodies that start by a graph are a whole program.
use Rattle.std.proofs.Common.{◌≡◌, ◌⊎◌, inl, inr, ℕ, zero, suc, ◌+◌, ◌<◌, ◌==◌, Bool, true, false, not, ◌||◌, ◌≢◌, List, [], ◌∷◌, ◌++◌, length, map, Option, Some, None, refl, sym, ap, subst, ◌∙◌, arith}
use Rattle.std.specs.Prelude.{All, slice_get, slice_index_or, codes}
use Rattle.std.specs.List.{AllByRecursion, list_any, list_all, cons_option}
use Rattle.std.specs.Option.{option_map}
use Rattle.std.specs.Str.{bytes_eq}
use Rattle.std.specs.Cmp.Lexicographic.{bytes_decides}
use Rattle.std.proofs.lemmas.Bool.{false≢true, eqb-true}
use Rattle.std.proofs.lemmas.List.Elements.{All-nil, All-cons, All-head, All-tail}
use Rattle.std.proofs.lemmas.Option.{none-some, same_Some, slice_get-map, slice_get_within, get_or_from_slice_get}
use Rattle.m2_tree.specs.declared.name.Ident.{Ident}
use Rattle.m2_tree.specs.declared.decl.Contents.{Contents}
use Rattle.m2_tree.specs.declared.decl.Contents.TheVariants as contents
use Rattle.m2_tree.specs.declared.decl.Module.{Module}
use Rattle.m2_graph.specs.Files.{File, number_files, trees}
use Rattle.m2_graph.specs.Graph.{IsGraph, CompileEach}
use Rattle.m2_tree.specs.Names.{same_name, is_console}
use Rattle.m2_graph.specs.Imports.{imports_of, is_definition, is_definition_part, is_program, is_program_part, is_implementation, implements, definition_of}
use Rattle.m2_graph.specs.Jobs.{number_of}
use Rattle.law_graph.specs.Started.{at_places, names_of, is_named, AreApart, definition_imported, all_imported, AreStarted}
use Rattle.law_graph.proofs.Lists.{some_at, among-permutation}
use Rattle.law_graph.proofs.Passing.{found_at}
use Rattle.law_graph.proofs.Fine.{AreFine, are_fine}
use Rattle.law_graph.proofs.Given.{given_trees}
use Rattle.law_graph.proofs.Started.{are_started}
use Rattle.law_graph.proofs.Defined.{one_definition}
use Rattle.typed_tree.specs.declared.table.Table.{Table}
use Rattle.typed_tree.specs.declared.typed_module.Imported.{Imported}
use Rattle.typed_tree.specs.declared.typed_module.TypedModule.{TypedModule}
use Rattle.check_scope.specs.Elaborated.{least}
use Rattle.check_body.specs.Checks.{elaborate_body}
use Rattle.law_modules.specs.Linked.{Program}
use Rattle.law_simulation.specs.Knows.{IsCoherent}
use Rattle.law_modules.specs.Ranges.{AreRanged}
use Rattle.law_well_formed.specs.Ordered.{AreOrdered}
use Rattle.law_well_formed.specs.FormedImports.{is_imported, is_imported_by, IsImport, StandsOnImports}
use Rattle.law_well_formed.proofs.NamedImports.{modules_stand}
use Rattle.law_well_formed.proofs.RangesTypes.{both_left, both_right}
use Rattle.law_well_formed.specs.FormedKnown.{fits_module}
use Rattle.build_jobs.specs.declared.outcome.Compiled.TheVariants.{Defined}
use Rattle.build_jobs.specs.Own.{own_table, tables_behind}
use Rattle.build_jobs.specs.Compiling.{tables_of, typed_body}
use Rattle.build_jobs.specs.Jobs.{needed_of}
use Rattle.law_programs.specs.FormedReach.{result_of}
use Rattle.law_programs.proofs.Reach.{tree_fits, tables_needed, bodies_know}
use Rattle.law_programs.specs.FormedCoherent.{IsBodyOf, IsWhole, IsBodyIn, AreBodiesIn}
use Rattle.law_programs.proofs.EachOnce.{job_of}
use Rattle.law_programs.proofs.GraphsPrograms.{holds_ok, if_ok, IsDefined, defined_by, table_named, own_is, coherent}

-- ---- lists

all_got : {X : Type 0} (P : X → Type 0) (xs : List X) → All P xs → (k : ℕ) (x : X) → slice_get xs k ≡ Some x → P x
all_got P [] h k x e = absurd (none-some x e)
all_got P (y ∷ xs) h zero x e = subst P (same_Some y x e) (All-head P y xs h)
all_got P (y ∷ xs) h (suc k) x e = all_got P xs (All-tail P y xs h) k x e

all_left : {A : Type 0} (P : A → Type 0) (xs ys : List A) → All P (xs ++ ys) → All P xs
all_left P [] ys h = All-nil P
all_left P (x ∷ xs) ys h = All-cons P x xs (All-head P x (xs ++ ys) h) (all_left P xs ys (All-tail P x (xs ++ ys) h))

all_right : {A : Type 0} (P : A → Type 0) (xs ys : List A) → All P (xs ++ ys) → All P ys
all_right P [] ys h = h
all_right P (x ∷ xs) ys h = all_right P xs ys (All-tail P x (xs ++ ys) h)

-- one that passes, with what is known of all
pick_any : {A : Type 0} (P : A → Type 0) (f : A → Bool) (xs : List A) → All P xs → list_any f xs ≡ true → (x : A)
    × (P x × (f x ≡ true))
pick_any P f [] all e = absurd (false≢true e)
pick_any {A} P f (x ∷ xs) all e = by (f x) refl (λ later. pick_any P f xs (All-tail P x xs all) later) e
  where
    by : (b : Bool) → f x ≡ b → (list_any f xs ≡ true → (y : A) × (P y × (f y ≡ true))) → b || list_any f xs ≡ true
        → (y : A) × (P y × (f y ≡ true))
    by true is later e = (x, (All-head P x xs all, is))
    by false is later e = later e

either : (p q : Bool) → p || q ≡ true → (p ≡ true) ⊎ (q ≡ true)
either true q e = inl refl
either false q e = inr e

-- ---- modules by name

-- a module of this name
record IsNamed (p : Program) (name : List ℕ) : Type 0 where
  place : ℕ
  home : TypedModule
  there : slice_get p place ≡ Some home
  is : home.name ≡ name

named_in : (p : Program) (name : List ℕ)
    → list_any (λ other. bytes_eq other name) (map (λ (m : TypedModule). m.name) p) ≡ true → IsNamed p name
named_in [] name e = absurd (false≢true e)
named_in (m ∷ p) name e = by (bytes_eq m.name name) refl (named_in p name) e where
  by : (b : Bool) → bytes_eq m.name name ≡ b
      → (list_any (λ other. bytes_eq other name) (map (λ (m : TypedModule). m.name) p) ≡ true → IsNamed p name)
      → b || list_any (λ other. bytes_eq other name) (map (λ (m : TypedModule). m.name) p) ≡ true → IsNamed (m ∷ p) name
  by true is on e = record { place = 0; home = m; there = refl; is = (bytes_decides m.name name).0 is }
  by false is on e = let k : IsNamed p name = on e in
      record { place = suc k.place; home = k.home; there = k.there; is = k.is }

-- names that stand apart have one place
other_name : (x : List ℕ) (p : Program) → All (λ y. x ≢ y) (map (λ (m : TypedModule). m.name) p)
    → (j : ℕ) (n : TypedModule) → slice_get p j ≡ Some n → x ≡ n.name → ⊥
other_name x [] h j n e q = absurd (none-some n e)
other_name x (m ∷ p) h zero n e q = All-head (λ y. x ≢ y) m.name (map (λ (m : TypedModule). m.name) p) h
    (q ∙ ap (λ (t : TypedModule). t.name) (sym (same_Some m n e)))
other_name x (m ∷ p) h (suc j) n e q = other_name x p
    (All-tail (λ y. x ≢ y) m.name (map (λ (m : TypedModule). m.name) p) h) j n e q

one_place : (p : Program) → AreApart (map (λ (m : TypedModule). m.name) p) → (i j : ℕ) (m n : TypedModule)
    → slice_get p i ≡ Some m → slice_get p j ≡ Some n → m.name ≡ n.name → i ≡ j
one_place [] h i j m n e f q = absurd (none-some m e)
one_place (x ∷ p) h zero zero m n e f q = refl
one_place (x ∷ p) h zero (suc j) m n e f q =
    absurd (other_name x.name p h.0 j n f (ap (λ (t : TypedModule). t.name) (same_Some x m e) ∙ q))
one_place (x ∷ p) h (suc i) zero m n e f q =
    absurd (other_name x.name p h.0 i m e (ap (λ (t : TypedModule). t.name) (same_Some x n f) ∙ sym q))
one_place (x ∷ p) h (suc i) (suc j) m n e f q = ap suc (one_place p h.1 i j m n e f q)

-- ---- parts

no_definition : (c : Contents) → is_program_part c ≡ true → is_definition_part c ≡ false
no_definition (contents.Definition ds) e = absurd (false≢true e)
no_definition (contents.Implementation b) e = refl
no_definition (contents.Program b) e = refl

neither : (a b : Bool) → not (a || b) ≡ true → (a ≡ false) × (b ≡ false)
neither true b e = absurd (false≢true e)
neither false true e = absurd (false≢true e)
neither false false e = (refl, refl)

-- ---- files as they were given

numbered_get : (n : ℕ) (fs : List (List ℕ × Module)) (k : ℕ) (m : Module) → slice_get (given_trees fs) k ≡ Some m
    → (f : File) × (slice_get (number_files n fs) k ≡ Some f) × (f.given ≡ n + k) × (f.tree ≡ m)
numbered_get n [] k m e = absurd (none-some m e)
numbered_get n (p ∷ fs) zero m e = (record { name = p.0; tree = p.1; given = n }, refl, omega arith, same_Some p.1 m e)
numbered_get n (p ∷ fs) (suc k) m e = let r = numbered_get (n + 1) fs k m e in let g : r.0.given ≡ (n + 1) + k = r.2 in
    (r.0, r.1, omega (arith, g), r.3)

module _ (fs : List (List ℕ × Module)) (files : List ℕ) (jobs : List (List ℕ)) (starts : List ℕ)
    (graph : IsGraph (number_files 0 fs) files jobs starts) (each : CompileEach (number_files 0 fs) files)
    (fit : list_all fits_module (given_trees fs) ≡ true) where
  abbrev ms : List Module
  ms = given_trees fs

  abbrev ordered : List File
  ordered = graph.0

  fine : AreFine (trees ordered)
  fine = are_fine ordered graph.2.fine

  -- where a file stands in order
  record Stands (k : ℕ) (m : Module) : Type 0 where
    place : ℕ
    file : File
    there : slice_get ordered place ≡ Some file
    given : file.given ≡ k
    tree : file.tree ≡ m

  stands : (k : ℕ) (m : Module) → slice_get ms k ≡ Some m → Stands k m
  stands k m e =
      let r = numbered_get 0 fs k m e in
      let a = among-permutation (number_files 0 fs) ordered r.0 graph.1.same (k, r.1) in
      let g : r.0.given ≡ 0 + k = r.2 in
      record { place = a.0; file = r.0; there = a.1; given = omega (arith, g); tree = r.3 }

  tree_there : (k : ℕ) (m : Module) (a : Stands k m) → slice_get (trees ordered) a.place ≡ Some m
  tree_there k m a = slice_get-map (λ (f : File). f.tree) ordered a.place
      ∙ (ap (λ (o : Option File). option_map (λ (f : File). f.tree) o) a.there ∙ ap Some a.tree)

  same_file : (k l : ℕ) (m n : Module) → slice_get ms k ≡ Some m → slice_get ms l ≡ Some n
      → is_definition m ≡ is_definition n → m.name.name ≡ n.name.name → k ≡ l
  same_file k l m n e f d s =
      let a : Stands k m = stands k m e in
      let b : Stands l n = stands l n f in
      let place : a.place ≡ b.place = fine.apart a.place b.place m n (tree_there k m a) (tree_there l n b) d s in
      let same : a.file ≡ b.file = same_Some a.file b.file
      (sym a.there ∙ (ap (λ (i : ℕ). slice_get ordered i) place ∙ b.there)) in
      sym a.given ∙ (ap (λ (x : File). x.given) same ∙ b.given)

  one_job : (j k : ℕ) → j < length files → k < length files → slice_index_or files j 0 ≡ slice_index_or files k 0
      → j ≡ k
  one_job j k l h e =
      let x = some_at files j l in
      let y = some_at files k h in
      let a : slice_index_or files j 0 ≡ x.0 = get_or_from_slice_get files j x.0 0 x.1 in
      let b : slice_index_or files k 0 ≡ y.0 = get_or_from_slice_get files k y.0 0 y.1 in
      let same : x.0 ≡ y.0 = sym a ∙ (e ∙ b) in
      same_Some j k (sym (job_of fs files each j x.0 x.1)
      ∙ (ap (λ (i : ℕ). number_of files i) same ∙ job_of fs files each k y.0 y.1))

  -- ---- definitions

  definitions_one : (j k : ℕ) (t u : Table) → j < length files → k < length files
      → result_of ms files jobs j ≡ Defined t → result_of ms files jobs k ≡ Defined u → t.name ≡ u.name → j ≡ k
  definitions_one j k t u l h e f q =
      let a : IsDefined ms files jobs fit j t = defined_by ms files jobs fit j t e in
      let b : IsDefined ms files jobs fit k u = defined_by ms files jobs fit k u f in
      one_job j k l h (same_file (slice_index_or files j 0) (slice_index_or files k 0) a.tree b.tree a.is_tree b.is_tree
      (a.definition ∙ sym b.definition)
      (sym (table_named ms files jobs fit j t a).name ∙ (q ∙ (table_named ms files jobs fit k u b).name)))

  programs_none : (m : Module) (job : ℕ) (t : Table) → slice_get ms (slice_index_or files job 0) ≡ Some m
      → is_program m ≡ true → (k : ℕ) → k < length files → result_of ms files jobs k ≡ Defined t → t.name ≡ m.name.name
      → ⊥
  programs_none m job t there is k l e q =
      let d : IsDefined ms files jobs fit k t = defined_by ms files jobs fit k t e in
      let at : Stands (slice_index_or files k 0) d.tree = stands (slice_index_or files k 0) d.tree d.is_tree in
      let w = fine.whole d.tree (at.place, tree_there (slice_index_or files k 0) d.tree at) d.definition in
      let x = found_at (implements d.tree.name.name) (trees ordered) w.0 w.1 in
      let part : is_implementation x.0 ≡ true =
      both_left (is_implementation x.0) (same_name d.tree.name.name x.0.name.name) x.2 in
      let named : same_name d.tree.name.name x.0.name.name ≡ true =
      both_right (is_implementation x.0) (same_name d.tree.name.name x.0.name.name) x.2 in
      let none = neither (is_definition x.0) (is_program x.0) part in
      let a : Stands (slice_index_or files job 0) m = stands (slice_index_or files job 0) m there in
      let place : a.place ≡ w.0 = fine.apart a.place w.0 m x.0 (tree_there (slice_index_or files job 0) m a) x.1
      (no_definition m.contents is ∙ sym none.0)
      (sym q ∙ ((table_named ms files jobs fit k t d).name ∙ (bytes_decides d.tree.name.name x.0.name.name).0 named)) in
      let same : m ≡ x.0 = same_Some m x.0 (sym (tree_there (slice_index_or files job 0) m a)
      ∙ (ap (λ (i : ℕ). slice_get (trees ordered) i) place ∙ x.1)) in
      false≢true (sym none.1 ∙ (ap is_program (sym same) ∙ is))

  -- ---- bodies

  body_of : (file : ℕ) (t : TypedModule) → IsBodyIn ms files jobs file t → IsBodyOf ms files jobs t
  body_of file t b =
      let x = found_at (λ (one : ℕ). one == file) files b.job b.is_job in
      let same : x.0 ≡ file = eqb-true x.0 file x.2 in
      let place : slice_index_or files b.job 0 ≡ file = get_or_from_slice_get files b.job x.0 0 x.1 ∙ same in
      record {
        tree = b.tree;
        job = b.job;
        is_job = slice_get_within files b.job x.0 x.1;
        is_tree =
            ap (λ (i : ℕ). slice_get ms i) place ∙ b.is_tree;
        typed = b.typed;
      }

  module_stands : (t : TypedModule) (b : IsBodyOf ms files jobs t)
      → StandsOnImports b.tree (own_table b.tree (tables_of (needed_of ms files jobs b.job))) t
  module_stands t b =
      if_ok (StandsOnImports b.tree (own_table b.tree (tables_of (needed_of ms files jobs b.job))))
      (typed_body b.tree b.job (tables_of (needed_of ms files jobs b.job))) t
      (modules_stand least (elaborate_body least) b.job b.tree
      (own_table b.tree (tables_of (needed_of ms files jobs b.job)))
      (tables_behind (own_table b.tree (tables_of (needed_of ms files jobs b.job)))
      (tables_of (needed_of ms files jobs b.job)))) b.typed

  here : (s : ℕ) (ss : List ℕ) (m : Module) → slice_get ms s ≡ Some m → at_places ms (s ∷ ss) ≡ m ∷ at_places ms ss
  here s ss m e = ap (λ (o : Option Module). cons_option o (at_places ms ss)) e

  names_are : (ss : List ℕ) (p : Program) → AreBodiesIn ms files jobs ss p
      → map (λ (m : TypedModule). m.name) p ≡ names_of (at_places ms ss)
  unfolding body_of
  names_are [] [] b = refl
  names_are [] (t ∷ p) b = absurd b
  names_are (s ∷ ss) [] b = absurd b
  names_are (s ∷ ss) (t ∷ p) b =
      ap (λ (n : List ℕ). n ∷ map (λ (m : TypedModule). m.name) p) (module_stands t (body_of s t b.0)).name
      ∙ (ap (λ (ns : List (List ℕ)). b.0.tree.name.name ∷ ns) (names_are ss p b.1)
      ∙ sym (ap names_of (here s ss b.0.tree b.0.is_tree)))

  bodies_are : (ss : List ℕ) (p : Program) → AreBodiesIn ms files jobs ss p → AllByRecursion (IsBodyOf ms files jobs) p
  bodies_are [] [] b = tt
  bodies_are [] (t ∷ p) b = absurd b
  bodies_are (s ∷ ss) [] b = absurd b
  bodies_are (s ∷ ss) (t ∷ p) b = (body_of s t b.0, bodies_are ss p b.1)

  -- ---- what modules import

  module _ (whole : List Module) where
    abbrev IsClosed : Ident → Type 0
    IsClosed x = (is_console x.name ≡ true) ⊎ (is_named whole x.name ≡ true)

    among : (name : List ℕ) → same_name name (codes "Console") ≡ false → (xs : List Ident) → All IsClosed xs
        → list_any (λ i. same_name i.name name) xs ≡ true → is_named whole name ≡ true
    among name instance xs all e =
        let x = pick_any IsClosed (λ (i : Ident). same_name i.name name) xs all e in
        let same : x.0.name ≡ name = (bytes_decides x.0.name name).0 x.1.1 in
        elim (x.1.0) [
          | inl console ↦ absurd (false≢true (sym instance
              ∙ ap (λ (n : List ℕ). same_name n (codes "Console")) (sym same) ∙ console))
          | inr named ↦ subst (λ (n : List ℕ). is_named whole n ≡ true) same named
        ]

    record ClosedBody (t : TypedModule) : Type 0 where
      body : IsBodyOf ms files jobs t
      closed : All IsClosed (all_imported ms body.tree)

    abbrev Closed : Module → Type 0
    Closed m = All IsClosed (all_imported ms m)

    bodies_closed : (ss : List ℕ) (p : Program) → AreBodiesIn ms files jobs ss p → All Closed (at_places ms ss)
        → AllByRecursion ClosedBody p
    unfolding body_of
    bodies_closed [] [] b h = tt
    bodies_closed [] (t ∷ p) b h = absurd b
    bodies_closed (s ∷ ss) [] b h = absurd b
    bodies_closed (s ∷ ss) (t ∷ p) b h =
        let all : All Closed (b.0.tree ∷ at_places ms ss) =
        subst (λ (xs : List Module). All Closed xs) (here s ss b.0.tree b.0.is_tree) h in (
          record { body = body_of s t b.0; closed = All-head Closed b.0.tree (at_places ms ss) all },
          bodies_closed ss p
              b.1 (All-tail Closed b.0.tree (at_places ms ss) all),
        )

    module _ (t : TypedModule) (c : ClosedBody t) where
      abbrev m : Module
      m = c.body.tree

      abbrev tables : List Table
      tables = tables_of (needed_of ms files jobs c.body.job)

      abbrev definitions : List Ident
      definitions = definition_imported ms (definition_of ms c.body.tree.name.name)

      by_own : (o : Option Table) → own_table m tables ≡ o → (name : List ℕ) → same_name name (codes "Console") ≡ false
          → is_imported_by o name ≡ true → is_named whole name ≡ true
      by_own None q name instance e = absurd (false≢true e)
      by_own (Some o) q name instance e =
          let k = own_is ms files jobs fit c.body.job m tables (tables_needed ms files jobs fit c.body.job) o q in
          let d : IsDefined ms files jobs fit o.number o = defined_by ms files jobs fit o.number o k.0.made in
          let known = table_named ms files jobs fit o.number o d in
          let i = pick_any (λ (e : List ℕ × ℕ). is_imported d.tree e.0 ≡ true) (λ (e : List ℕ × ℕ). same_name e.0 name)
          o.imports known.imports e in
          let imports : is_imported d.tree name ≡ true =
          subst (λ (n : List ℕ). is_imported d.tree n ≡ true) ((bytes_decides i.0.0 name).0 i.1.1) i.1.0 in
          let one : definition_imported ms (definition_of ms d.tree.name.name) ≡ imports_of d.tree =
          one_definition fs files jobs starts graph d.tree (slice_index_or files o.number 0, d.is_tree) d.definition
          in
          let named : d.tree.name.name ≡ m.name.name = sym known.name ∙ k.1 in
          let same : imports_of d.tree ≡ definitions = sym one
          ∙ ap (λ (n : List ℕ). definition_imported ms (definition_of ms n)) named in
          among name instance (imports_of d.tree)
          (subst (λ (xs : List Ident). All IsClosed xs) (sym same)
          (all_left IsClosed definitions (imports_of m) c.closed)) imports

      one_import : (i : Imported) → IsImport m (own_table m tables) i → is_named whole i.name ≡ true
      one_import i is = elim (either (is_imported_by (own_table m tables) i.name) (is_imported m i.name) is.known) [
        | inl e ↦ by_own (own_table m tables) refl i.name is.instance e
        | inr e ↦ among i.name is.instance (imports_of m) (all_right IsClosed definitions (imports_of m) c.closed) e
      ]

      import_named : (k : ℕ) (i : Imported) → slice_get t.imports k ≡ Some i → is_named whole i.name ≡ true
      import_named k i e = one_import i (all_got (IsImport m (own_table m tables)) t.imports
          (module_stands t c.body).imports k i e)

  body_got : {X : Type 0} (F : X → Type 0) (xs : List X) → AllByRecursion F xs → (k : ℕ) (x : X)
      → slice_get xs k ≡ Some x → F x
  body_got F [] h k x e = absurd (none-some x e)
  body_got F (y ∷ xs) h zero x e = subst F (same_Some y x e) h.0
  body_got F (y ∷ xs) h (suc k) x e = body_got F xs h.1 k x e

  pub graphs_whole : (p : Program) → AreBodiesIn ms files jobs starts p → IsWhole ms files jobs p
  graphs_whole p b =
      let started : AreStarted ms starts = are_started fs files jobs starts graph in
      let closed = bodies_closed (at_places ms starts) starts p b started.closed in
      record {
        bodies = bodies_are starts p b;
        apart = one_place p (subst (λ (ns : List (List ℕ)). AreApart ns) (sym (names_are starts p b)) started.distinct);
        closed = λ place k m i at e.
            let n : IsNamed p i.name = named_in p i.name
            (subst (λ (ns : List (List ℕ)). list_any (λ other. bytes_eq other i.name) ns ≡ true)
            (sym (names_are starts p b))
            (import_named (at_places ms starts) m (body_got (ClosedBody (at_places ms starts)) p closed place m at) k i
            e)) in
            (n.place, n.home, n.there, n.is);
        definitions = definitions_one;
        programs = programs_none;
      }

  pub graphs_coherent : (p : Program) → AreBodiesIn ms files jobs starts p → (place : ℕ) (m : TypedModule)
      → slice_get p place ≡ Some m → IsCoherent p place m × (AreRanged m.types × AreOrdered m.types)
  graphs_coherent p b place m e =
      let body : IsBodyOf ms files jobs m = body_got (IsBodyOf ms files jobs) p (bodies_are starts p b) place m e in (
        coherent ms files jobs fit p (graphs_whole p b) place m e,
        holds_ok (bodies_know ms files jobs fit body.tree body.job
            (tree_fits ms fit (slice_index_or files body.job 0) body.tree body.is_tree)) m body.typed,
      )
