-- The jobs of a program of which nothing is refused: each module has one, and what it needs is found by names.
use Rattle.std.proofs.Common.{◌≡◌, ◌<◌, ◌≤◌, ℕ, suc, Bool, true, false, cond, ◌&&◌, ◌==◌, List, [], ◌∷◌, ◌++◌, length, map, refl, sym, ap, ap₂, subst, ◌∙◌, arith, Option, Some, None}
use Rattle.std.specs.Prelude.{slice_get, slice_index_or}
use Rattle.std.specs.List.{All, AllZip, filter_map, cons_option}
use Rattle.std.specs.List.Sorted.{IsPermutation}
use Rattle.std.specs.Option.{option_map, option_to_list, is_some}
use Rattle.std.specs.Cmp.Lexicographic.{bytes_decides}
use Rattle.std.proofs.lemmas.Bool.{false≢true, eqb-true}
use Rattle.std.proofs.lemmas.List.{length-map}
use Rattle.std.proofs.lemmas.List.Elements.{filter_map-append}
use Rattle.std.proofs.lemmas.List.Sorted.{length_permutation}
use Rattle.std.proofs.lemmas.Option.{none-some, same_Some, slice_get-map, slice_get_within, get_or_from_slice_get}
use Rattle.m2_tree.specs.Names.{same_name}
use Rattle.m2_tree.specs.declared.decl.Module.{Module}
use Rattle.graph_walk.specs.Links.{unless}
use Rattle.pool_board.specs.Graph.{prerequisites_of}
use Rattle.pool_board.specs.Results.{items_at, results_below}
use Rattle.m2_graph.specs.Files.{File, trees, given_of}
use Rattle.m2_graph.specs.Graph.{IsGraphOf}
use Rattle.m2_graph.specs.Imports.{imports_of, is_definition, defines, definition_of, needs_of, links}
use Rattle.m2_graph.specs.Jobs.{number_of, numbers_of, AreJobs}
use Rattle.m2_graph.specs.Order.{IsJob}
use Rattle.m2_graph.proofs.Importing.{links_are_nodes}
use Rattle.m2_graph.proofs.Smaller.{are_jobs, nodes_within}
use Rattle.m2_graph.proofs.Whole.{compiles_each}
use Rattle.law_graph.proofs.Fine.{AreFine, are_fine, tree_at}
use Rattle.law_graph.proofs.Given.{given_trees, tree_given, few_files}
use Rattle.law_graph.proofs.Lists.{Among, some_at, among_has, among-map, among-permutation, map_among, bound, filtered_twice}
use Rattle.law_graph.proofs.Passing.{found_at, none_that}
use Rattle.law_graph.proofs.Turned.{cycle_order}
use Rattle.check_definition.specs.Predeclared.{console}
use Rattle.build_jobs.specs.Compiling.{compilation_of}
use Rattle.build_jobs.specs.Jobs.{compile_in_place, compile_at, all_compiled, needed_of}
use Rattle.law_separation.specs.Alike.{Tree, imported_names, Jobs}
use Rattle.law_separation.proofs.Numbered.{row, row_at}
use Rattle.law_separation.proofs.Needing.{need, needed_at}
use Rattle.law_linking.proofs.Finding.{meant}
use Rattle.law_linking.proofs.Naming.{named_filter}
use Rattle.law_linking.proofs.Standing.{place_of}
use Rattle.law_exchange_jobs.proofs.Matching.{same_picked, picked_before, result_below, first_place, mapped_at, first_mapped}

-- ---- names that a module needs

-- the name of a body's own definition, and then those that it imports
abbrev pub names_needed : Module → List (List ℕ)
names_needed m = cond (is_definition m) [] (m.name.name ∷ []) ++ imported_names m

needs_named : (ms : List Module) (m : Module) → needs_of ms m ≡ filter_map (definition_of ms) (names_needed m)
needs_named ms m =
    ap₂ (λ (xs ys : List ℕ). xs ++ ys) (own (is_definition m) (definition_of ms m.name.name) refl)
    (named_filter (definition_of ms) (imports_of m))
    ∙ sym (filter_map-append (definition_of ms) (cond (is_definition m) [] (m.name.name ∷ [])) (imported_names m))
  where
    own : (b : Bool) (o : Option ℕ) → definition_of ms m.name.name ≡ o
        → cond b [] (option_to_list (definition_of ms m.name.name))
        ≡ filter_map (definition_of ms) (cond b [] (m.name.name ∷ []))
    own true o e = refl
    own false None e = ap (λ (p : Option ℕ). option_to_list p) e
        ∙ sym (ap (λ (p : Option ℕ). cons_option p []) e)
    own false (Some k) e = ap (λ (p : Option ℕ). option_to_list p) e
        ∙ sym (ap (λ (p : Option ℕ). cons_option p []) e)

as_long : {A B : Type 0} (R : A → B → Type 0) (xs : List A) (ys : List B) → AllZip R xs ys → length xs ≡ length ys
as_long R [] [] z = refl
as_long R [] (y ∷ ys) z = absurd z
as_long R (x ∷ xs) [] z = absurd z
as_long R (x ∷ xs) (y ∷ ys) z = ap suc (as_long R xs ys z.1)

defines_own : (m : Module) → is_definition m ≡ true → defines m.name.name m ≡ true
defines_own m is = ap (λ (b : Bool). b && same_name m.name.name m.name.name) is
    ∙ (bytes_decides m.name.name m.name.name).1 refl

module _ (given : List Tree) (jobs : Jobs given) where
  abbrev pub ordered : List File
  ordered = jobs.is_graph.0

  abbrev pub ms : List Module
  ms = trees ordered

  abbrev graph : IsGraphOf ordered jobs.files jobs.needs jobs.starts
  graph = jobs.is_graph.2

  abbrev pub order : List ℕ
  order = graph.is_jobs.order

  pub fine : AreFine ms
  fine = are_fine ordered graph.fine

  -- the job compiles this module
  pub record IsJobOf (j : ℕ) (m : Module) : Type 0 where
    pub node : ℕ
    pub number : number_of order node ≡ Some j
    pub there : slice_get ms node ≡ Some m

  pub at_number : (node j : ℕ) → number_of order node ≡ Some j → slice_get order j ≡ Some node
  at_number node j e = let f = found_at (λ one. one == node) order j e in f.1 ∙ ap Some (eqb-true f.0 node f.2)

  -- ---- one job for each module

  pub one_module : (j : ℕ) (m n : Module) → IsJobOf j m → IsJobOf j n → m ≡ n
  one_module j m n a b =
      let q : a.node ≡ b.node = same_Some a.node b.node
      (sym (at_number a.node j a.number) ∙ at_number b.node j b.number) in
      same_Some m n (sym a.there ∙ ap (slice_get ms) q ∙ b.there)

  pub one_job : (j i : ℕ) (m n : Module) → IsJobOf j m → IsJobOf i n → is_definition m ≡ is_definition n
      → m.name.name ≡ n.name.name → j ≡ i
  one_job j i m n a b kind name =
      let q : a.node ≡ b.node = fine.apart a.node b.node m n a.there b.there kind name in
      same_Some j i (sym a.number ∙ ap (number_of order) q ∙ b.number)

  -- the nodes of jobs are those of modules
  module_at : (node : ℕ) → Among order node → (m : Module) × (slice_get ms node ≡ Some m)
  module_at node a =
      let all : All (λ k. k < length ms) order =
      nodes_within ms graph.is_jobs.is_order.0 order graph.is_jobs.is_order.1 graph.is_jobs.is_order.2 in
      let l : node < length ms = subst (λ (k : ℕ). k < length ms) (get_or_from_slice_get order a.0 node 0 a.1)
      (all a.0 0 (slice_get_within order a.0 node a.1)) in
      some_at ms node l

  -- files of one number have one module
  module_of : (node place : ℕ) (m : Module) → Among order node → given_of ordered node ≡ place
      → slice_get (given_trees given) place ≡ Some m → slice_get ms node ≡ Some m
  module_of node place m a at e =
      let n = module_at node a in
      n.1 ∙ (sym (tree_given given ordered jobs.is_graph.1 node n.0 n.1) ∙ ap (slice_get (given_trees given)) at ∙ e)

  each : IsPermutation (map (λ (f : File). f.given) ordered) jobs.files
  each = compiles_each ordered jobs.files jobs.needs graph.fine (cycle_order (links ms) (links_are_nodes ms))
      graph.is_jobs

  pub numbered : (k : ℕ) (m : Module) → slice_get ms k ≡ Some m → (j : ℕ) × (number_of order k ≡ Some j)
  numbered k m e =
      let t = tree_at ordered k m e in
      let g : slice_get (map (λ (f : File). f.given) ordered) k ≡ Some t.0.given =
      slice_get-map (λ (f : File). f.given) ordered k
      ∙ ap (λ (o : Option File). option_map (λ (f : File). f.given) o) t.1 in
      let own : given_of ordered k ≡ t.0.given =
      get_or_from_slice_get (map (λ (f : File). f.given) ordered) k t.0.given 0 g in
      let a = among-permutation (map (λ (f : File). f.given) ordered) jobs.files t.0.given each (k, g) in
      let r = map_among (given_of ordered) order t.0.given
      (a.0, ap (λ (xs : List ℕ). slice_get xs a.0) (sym graph.is_jobs.compiled) ∙ a.1) in
      let same : slice_get ms r.0 ≡ Some m = module_of r.0 (given_of ordered k) m r.1 (r.2 ∙ sym own)
      (tree_given given ordered jobs.is_graph.1 k m e) in
      let q : r.0 ≡ k = fine.apart r.0 k m m same e refl refl in
      first_place order k (subst (λ (n : ℕ). Among order n) q r.1)

  -- there are fewer jobs than Console's number says
  pub not_console : (j : ℕ) (m : Module) → IsJobOf j m → j ≡ console.number → ⊥
  unfolding console
  not_console j m a e =
      let l : j < length order = slice_get_within order j a.node (at_number a.node j a.number) in
      let n : length (map (given_of ordered) order) ≡ length order = length-map order (given_of ordered) in
      let c : length jobs.files ≡ length (map (given_of ordered) order) =
      ap (λ (xs : List ℕ). length xs) graph.is_jobs.compiled in
      let p : length jobs.files ≡ length (map (λ (f : File). f.given) ordered) =
      length_permutation (map (λ (f : File). f.given) ordered) jobs.files each in
      let g : length (map (λ (f : File). f.given) ordered) ≡ length ordered =
      length-map ordered (λ (f : File). f.given) in
      let t : length ms ≡ length ordered = length-map ordered (λ (f : File). f.tree) in
      let f : length ms ≤ 1024 = few_files given ordered jobs.is_graph.1 graph.fine in
      omega (arith, l, n, c, p, g, t, f, e)

  -- ---- the file of a job

  pub file_of : (j : ℕ) (m : Module) (a : IsJobOf j m)
      → slice_index_or jobs.files j 0 ≡ given_of ordered a.node
  file_of j m a =
      ap (λ (fs : List ℕ). slice_index_or fs j 0) graph.is_jobs.compiled
      ∙ get_or_from_slice_get (map (given_of ordered) order) j (given_of ordered a.node) 0
      (slice_get-map (given_of ordered) order j
      ∙ ap (λ (o : Option ℕ). option_map (given_of ordered) o) (at_number a.node j a.number))

  pub tree_of : (j : ℕ) (m : Module) → IsJobOf j m
      → slice_get (given_trees given) (slice_index_or jobs.files j 0) ≡ Some m
  tree_of j m a = ap (slice_get (given_trees given)) (file_of j m a)
      ∙ tree_given given ordered jobs.is_graph.1 a.node m a.there

  -- the first job whose file has this place
  first_job : (place j : ℕ) (m : Module) → number_of (map (given_of ordered) order) place ≡ Some j
      → slice_get (given_trees given) place ≡ Some m → (number_of jobs.files place ≡ Some j) × IsJobOf j m
  first_job place j m first e =
      let f = found_at (λ one. one == place) (map (given_of ordered) order) j first in
      let n = mapped_at (given_of ordered) order j place (f.1 ∙ ap Some (eqb-true f.0 place f.2)) in (
        subst (λ (fs : List ℕ). number_of fs place ≡ Some j) (sym graph.is_jobs.compiled) first,
        record {
          node = n.0;
          number = first_mapped (given_of ordered) order place j n.0 first n.1 n.2;
          there = module_of n.0 place m (j, n.1) n.2 e;
        },
      )

  -- the job of a file
  pub job_of_place : (place : ℕ) (m : Module) → slice_get (given_trees given) place ≡ Some m → (j : ℕ)
      × (number_of jobs.files place ≡ Some j) × IsJobOf j m
  job_of_place place m e =
      let r = place_of given ordered jobs.is_graph.1 place m e in
      let i = numbered r.0 m r.1 in
      let a : Among (map (given_of ordered) order) place =
      subst (λ (k : ℕ). Among (map (given_of ordered) order) k) r.2
      (among-map (given_of ordered) order r.0 (i.0, at_number r.0 i.0 i.1)) in
      let j = first_place (map (given_of ordered) order) place a in
      let w = first_job place j.0 m j.1 e in
      (j.0, w.0, w.1)

  -- ---- definitions by their names

  abbrev pub job_named : List ℕ → Option ℕ
  job_named name = bound (definition_of ms name) (number_of order)

  -- the job of a definition that this name means
  pub record IsNamed (name : List ℕ) (j : ℕ) : Type 0 where
    pub m : Module
    pub is_job : IsJobOf j m
    pub kind : is_definition m ≡ true
    pub same : name ≡ m.name.name

  pub named_job : (name : List ℕ) (j : ℕ) → job_named name ≡ Some j → IsNamed name j
  named_job name j e = by (definition_of ms name) refl e
    where
      by : (o : Option ℕ) → definition_of ms name ≡ o → bound o (number_of order) ≡ Some j → IsNamed name j
      by None d e = absurd (none-some j e)
      by (Some k) d e = let w = meant ms name k d in
          record { m = w.m; is_job = record { node = k; number = e; there = w.at }; kind = w.kind; same = w.same }

  -- a definition is found by its name
  pub job_by_name : (k : ℕ) (m : Module) → slice_get ms k ≡ Some m → is_definition m ≡ true → (j : ℕ)
      × (job_named m.name.name ≡ Some j) × IsJobOf j m
  job_by_name k m e is = by (definition_of ms m.name.name) refl
    where
      by : (o : Option ℕ) → definition_of ms m.name.name ≡ o → (j : ℕ) × (job_named m.name.name ≡ Some j) × IsJobOf j m
      by None d = absurd (false≢true (sym (none_that (defines m.name.name) ms m
          (ap (λ (o : Option ℕ). is_some o) d) (k, e)) ∙ defines_own m is))
      by (Some i) d =
          let w = meant ms m.name.name i d in
          let q : i ≡ k = fine.apart i k w.m m w.at e (w.kind ∙ sym is) (sym w.same) in
          let j = numbered k m e in (
            j.0,
            ap (λ (o : Option ℕ). bound o (number_of order)) (d ∙ ap Some q) ∙ j.1,
            record { node = k; number = j.1; there = e },
          )

  -- without a job there is no definition
  pub none_named : (name : List ℕ) → job_named name ≡ None → definition_of ms name ≡ None
  none_named name e = by (definition_of ms name) refl e
    where
      by : (o : Option ℕ) → definition_of ms name ≡ o → bound o (number_of order) ≡ None → definition_of ms name ≡ None
      by None d e = d
      by (Some k) d e = let w = meant ms name k d in let j = numbered k w.m w.at in
          absurd (none-some j.0 (sym e ∙ j.1))

  -- ---- what a job needs

  pub row_is : (j : ℕ) (m : Module) → IsJobOf j m
      → prerequisites_of jobs.needs j ≡ unless (λ k. false) (filter_map job_named (names_needed m))
  row_is j m a =
      needed_at ms order order jobs.needs graph.is_jobs.needs j
      ∙ ap (need ms order) (at_number a.node j a.number)
      ∙ ap (λ (ts : List ℕ). unless (λ k. false) (numbers_of order ts))
      (row_at (needs_of ms) ms a.node ∙ ap (row (needs_of ms)) a.there ∙ needs_named ms m)
      ∙ ap (λ (ks : List ℕ). unless (λ k. false) ks)
      (filtered_twice (definition_of ms) (number_of order) (names_needed m))

  are_smaller : AreJobs jobs.needs
  are_smaller = are_jobs ms graph.is_jobs.is_order.0 order jobs.needs graph.is_jobs.is_order.1
      graph.is_jobs.is_order.2 graph.is_jobs.needs

  -- what a job needs comes before it
  pub smaller : (j p : ℕ) → Among (prerequisites_of jobs.needs j) p → p < j
  smaller j p a = (are_smaller j p).0 (among_has (prerequisites_of jobs.needs j) p a)

  -- ---- results

  -- what a job needs is there among all results
  pub needed_is : (texts : List Module) (j : ℕ) (m : Module) → IsJobOf j m
      → items_at (all_compiled texts jobs.files jobs.needs) (prerequisites_of jobs.needs j)
      ≡ needed_of texts jobs.files jobs.needs j
  needed_is texts j m a =
      let n : length order ≡ length jobs.needs = as_long (IsJob ms order) order jobs.needs graph.is_jobs.needs in
      let l : j < length order = slice_get_within order j a.node (at_number a.node j a.number) in
      same_picked (all_compiled texts jobs.files jobs.needs) (results_below jobs.needs (compile_at texts jobs.files) j)
      (prerequisites_of jobs.needs j)
      (λ p b. (let before : p < j = smaller j p b in
      picked_before jobs.needs (compile_at texts jobs.files) j (length jobs.needs) p before (omega (arith, n, l))))

  pub result_is : (texts : List Module) (j : ℕ) (m : Module) → IsJobOf j m
      → slice_get texts (slice_index_or jobs.files j 0) ≡ Some m
      → slice_get (all_compiled texts jobs.files jobs.needs) j
      ≡ Some (compilation_of m j (needed_of texts jobs.files jobs.needs j))
  result_is texts j m a file =
      let n : length order ≡ length jobs.needs = as_long (IsJob ms order) order jobs.needs graph.is_jobs.needs in
      let l : j < length order = slice_get_within order j a.node (at_number a.node j a.number) in
      result_below jobs.needs (compile_at texts jobs.files) j (length jobs.needs) (omega (arith, n, l))
      ∙ ap (λ (o : Option Module). Some (compile_in_place o j (needed_of texts jobs.files jobs.needs j))) file
