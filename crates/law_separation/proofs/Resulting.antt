-- What becomes of a module is the same, whatever the other files are.
use Rattle.std.proofs.Common.{◌≡◌, ℕ, zero, suc, ◌+◌, true, false, ◌==◌, List, [], ◌∷◌, length, map, refl, sym, ap, ap₂, subst, ◌∙◌, inl, inr, arith, Option, Some, None}
use Rattle.std.specs.Prelude.{slice_get, slice_index_or}
use Rattle.std.specs.List.{AllZip}
use Rattle.std.specs.Option.{option_map, option_and_then}
use Rattle.std.proofs.lemmas.Bool.{false≢true, eqb-true, cases_order}
use Rattle.std.proofs.lemmas.Option.{same_Some, slice_get-map, get_or_from_slice_get, slice_get_past}
use Rattle.m2_tree.specs.declared.decl.Module.{Module}
use Rattle.graph_walk.specs.Links.{unless}
use Rattle.pool_board.specs.Graph.{prerequisites_of}
use Rattle.pool_board.specs.Results.{with_item, items_at, results_below, results}
use Rattle.pool_board.proofs.Resulting.{get_last, get_before, results-length}
use Rattle.m2_graph.specs.Files.{File, AreInOrder, number_files, trees, given_of}
use Rattle.m2_graph.specs.Graph.{IsGraphOf}
use Rattle.m2_graph.specs.Imports.{is_definition, links}
use Rattle.m2_graph.specs.Jobs.{number_of, numbers_of}
use Rattle.m2_graph.specs.Order.{IsJob}
use Rattle.law_graph.proofs.Given.{given_trees, tree_given}
use Rattle.law_graph.proofs.Lists.{Among, none_among, later_among}
use Rattle.law_graph.proofs.Once.{one_order}
use Rattle.law_graph.proofs.Passing.{found_at}
use Rattle.law_graph.proofs.Rows.{one_job_order}
use Rattle.build_jobs.specs.declared.outcome.Compiled.{Compiled}
use Rattle.build_jobs.specs.Jobs.{compile_in_place, compile_at}
use Rattle.build_results.specs.Results.{result_at}
use Rattle.law_separation.specs.Alike.{Tree, imported_names, Needs, own, imported, further, ShareModule, OtherFilesDoNotMatter}
use Rattle.law_separation.proofs.Replaced.{put, AreGood, numbered, all_good, in_order}
use Rattle.law_separation.proofs.Numbered.{pair_at, none_at, given_same, needs_at, order_stays}
use Rattle.law_separation.proofs.Needing.{need, needed_at, DirectlyNeeds, IsNeeded, needed_defined}

same_picked : {X : Type 0} (xs ys : List X) (ps : List ℕ) → ((p : ℕ) → Among ps p → slice_get xs p ≡ slice_get ys p)
    → items_at xs ps ≡ items_at ys ps
same_picked xs ys [] h = refl
same_picked {X} xs ys (p ∷ ps) h = ap₂ (λ (o : Option X) (zs : List X). with_item o zs) (h p (0, refl))
    (same_picked xs ys ps (λ q a. h q (later_among p ps q a)))

as_long : {A B : Type 0} (R : A → B → Type 0) (xs : List A) (ys : List B) → AllZip R xs ys → length xs ≡ length ys
as_long R [] [] z = refl
as_long R [] (y ∷ ys) z = absurd z
as_long R (x ∷ xs) [] z = absurd z
as_long R (x ∷ xs) (y ∷ ys) z = ap suc (as_long R xs ys z.1)

-- the given files, the others, the given ones in order, and the order of the jobs with what they need in both
module _ (given others : List Tree) (ordered : List File) (a : AreInOrder (number_files 0 given) ordered)
    (b : AreInOrder (number_files 0 others) (put others ordered)) (good : AreGood others ordered) (order files : List ℕ)
    (compiled : files ≡ map (given_of ordered) order) (js ks : List (List ℕ))
    (x : AllZip (IsJob (trees ordered) order) order js)
    (y : AllZip (IsJob (trees (put others ordered)) order) order ks) (place : ℕ) (root : Module)
    (shares : ShareModule given others place root) where
  abbrev ms : List Module
  ms = trees ordered

  abbrev ns : List Module
  ns = trees (put others ordered)

  -- The file of a job has the same tree in both, and what the module needs is needed by the one that both have.
  record Stays (j : ℕ) : Type 0 where
    file : slice_get (given_trees given) (slice_index_or files j 0)
        ≡ slice_get (given_trees others) (slice_index_or files j 0)
    node : (n : ℕ) → slice_get order j ≡ Some n → slice_get ns n ≡ slice_get ms n
    wanted : (n : ℕ) (m : Module) → slice_get order j ≡ Some n → slice_get ms n ≡ Some m → (name : List ℕ)
        → DirectlyNeeds m name → Needs given root name

  file_of : (j n : ℕ) → slice_get order j ≡ Some n → slice_index_or files j 0 ≡ given_of ordered n
  file_of j n e =
      ap (λ (fs : List ℕ). slice_index_or fs j 0) compiled
      ∙ get_or_from_slice_get (map (given_of ordered) order) j (given_of ordered n) 0
      (slice_get-map (given_of ordered) order j ∙ ap (λ (o : Option ℕ). option_map (given_of ordered) o) e)

  given_as : (n : ℕ) → given_of (put others ordered) n ≡ given_of ordered n
  given_as n = ap (λ (gs : List ℕ). slice_index_or gs n 0) (given_same others ordered)

  -- the module at a node, if both files of its place have one
  module_stays : (n : ℕ) (m k : Module) → slice_get ms n ≡ Some m
      → slice_get (given_trees others) (given_of ordered n) ≡ Some k → slice_get ns n ≡ Some k
  module_stays n m k e d =
      let other = pair_at others ordered good n m e in
      other.1 ∙ (sym (tree_given others (put others ordered) b n other.0 other.1)
      ∙ ap (slice_get (given_trees others)) (given_as n) ∙ d)

  -- ---- jobs that are needed

  no_body : (m : Module) (name : List ℕ) → is_definition m ≡ true → DirectlyNeeds m name → Among (imported_names m) name
  no_body m name d (inl body) = absurd (false≢true (sym body.0 ∙ d))
  no_body m name d (inr a) = a

  definitions_stay : (j p n : ℕ) → Stays j → slice_get order j ≡ Some n → IsNeeded ms order n p → Stays p
  definitions_stay j p n s e d =
      let at = file_of p d.node d.at in
      let here = tree_given given ordered a d.node d.m d.there in
      let needs_it : Needs given root d.m.name.name = s.wanted n d.user e d.user_there d.m.name.name d.direct in
      let same = shares.definitions (given_of ordered d.node) d.m here d.definition needs_it in
      let kept = module_stays d.node d.m d.m d.there same in
      record {
        file = ap (slice_get (given_trees given)) at ∙ here ∙ sym (ap (slice_get (given_trees others)) at ∙ same);
        node = λ k i. subst (λ (q : ℕ). slice_get ns q ≡ slice_get ms q) (same_Some d.node k (sym d.at ∙ i))
            (kept ∙ sym d.there);
        wanted = λ k m i t name direct.
            (let q : k ≡ d.node = same_Some k d.node (sym i ∙ d.at) in
            let w : m ≡ d.m = same_Some m d.m (sym t ∙ ap (slice_get ms) q ∙ d.there) in
            let more = no_body d.m name d.definition (subst (λ (u : Module). DirectlyNeeds u name) w direct) in
            further (given_of ordered d.node) more.0 d.m here d.definition needs_it more.1);
      }

  prerequisites_stay : (j : ℕ) → Stays j → (o : Option ℕ) → slice_get order j ≡ o → (p : ℕ) → Among (need ms order o) p
      → Stays p
  prerequisites_stay j s None e p m = absurd (none_among p m)
  prerequisites_stay j s (Some n) e p m = definitions_stay j p n s e (needed_defined ms order n p m)

  -- ---- results

  rows_same : (j : ℕ) → Stays j → prerequisites_of js j ≡ prerequisites_of ks j
  rows_same j s = needed_at ms order order js x j ∙ by (slice_get order j) refl ∙ sym (needed_at ns order order ks y j)
    where
      by : (o : Option ℕ) → slice_get order j ≡ o → need ms order o ≡ need ns order o
      by None e = refl
      by (Some n) e = ap (λ (ts : List ℕ). unless (λ k. false) (numbers_of order ts))
          (sym (needs_at others ordered good n (s.node n e)))

  abbrev one_of : ℕ → List Compiled → Compiled
  one_of = compile_at (given_trees given) files

  abbrev other_of : ℕ → List Compiled → Compiled
  other_of = compile_at (given_trees others) files

  step_same : (n : ℕ) → ((j : ℕ) → Stays j
      → slice_get (results_below js one_of n) j ≡ slice_get (results_below ks other_of n) j) → Stays n
      → one_of n (items_at (results_below js one_of n) (prerequisites_of js n))
      ≡ other_of n (items_at (results_below ks other_of n) (prerequisites_of ks n))
  step_same n h s =
      let picked : items_at (results_below js one_of n) (prerequisites_of js n)
      ≡ items_at (results_below ks other_of n) (prerequisites_of ks n) =
      same_picked (results_below js one_of n) (results_below ks other_of n) (prerequisites_of js n)
      (λ p m. h p (prerequisites_stay n s (slice_get order n) refl p
      (subst (λ (ps : List ℕ). Among ps p) (needed_at ms order order js x n) m)))
      ∙ ap (items_at (results_below ks other_of n)) (rows_same n s) in
      ap₂ (λ (o : Option Module) (needed : List Compiled). compile_in_place o n needed) s.file picked

  below_same : (n j : ℕ) → Stays j → slice_get (results_below js one_of n) j ≡ slice_get (results_below ks other_of n) j
  below_same zero j s = refl
  below_same (suc n) j s =
      let m = results-length js one_of n in
      let l = results-length ks other_of n in
      let more = results-length js one_of (suc n) in
      let longer = results-length ks other_of (suc n) in
      let one = one_of n (items_at (results_below js one_of n) (prerequisites_of js n)) in
      let other = other_of n (items_at (results_below ks other_of n) (prerequisites_of ks n)) in
      elim (cases_order j n) [
        | inl e ↦ get_last (results_below js one_of n) one j (e ∙ sym m)
            ∙ ap Some (step_same n (below_same n) (subst Stays e s))
            ∙ sym (get_last (results_below ks other_of n) other j (e ∙ sym l))
        | inr apart ↦ elim apart [
          | inl less ↦ get_before (results_below js one_of n) (one ∷ []) j (omega (arith, m, less)) ∙ below_same n j s
              ∙ sym (get_before (results_below ks other_of n) (other ∷ []) j (omega (arith, l, less)))
          | inr past ↦ slice_get_past (results_below js one_of (suc n)) j (omega (arith, more, past))
              ∙ sym (slice_get_past (results_below ks other_of (suc n)) j (omega (arith, longer, past)))
        ]
      ]

  all_same : (j : ℕ) → Stays j → slice_get (results js one_of) j ≡ slice_get (results ks other_of) j
  all_same j s =
      below_same (length js) j s
      ∙ ap (λ (n : ℕ). slice_get (results_below ks other_of n) j)
      (sym (as_long (IsJob ms order) order js x) ∙ as_long (IsJob ns order) order ks y)

  -- ---- the job of the module that both have

  needs_name : (name : List ℕ) → DirectlyNeeds root name → Needs given root name
  needs_name name (inl itself) = subst (λ (n : List ℕ). Needs given root n) itself.1 own
  needs_name name (inr a) = imported a.0 a.1

  at_place : (n : ℕ) (m : Module) → given_of ordered n ≡ place → slice_get ms n ≡ Some m → m ≡ root
  at_place n m at e = same_Some m root (sym (tree_given given ordered a n m e) ∙ ap (slice_get (given_trees given)) at
      ∙ shares.here)

  node_stays : (n : ℕ) → given_of ordered n ≡ place → (o : Option Module) → slice_get ms n ≡ o
      → slice_get ns n ≡ slice_get ms n
  node_stays n at None e = none_at others ordered n e ∙ sym e
  node_stays n at (Some m) e =
      module_stays n m root e (ap (slice_get (given_trees others)) at ∙ shares.there)
      ∙ sym (e ∙ ap Some (at_place n m at e))

  place_stays : (j : ℕ) → number_of files place ≡ Some j → Stays j
  place_stays j e =
      let f = found_at (λ one. one == place) files j e in
      let at : slice_index_or files j 0 ≡ place = get_or_from_slice_get files j f.0 0 f.1 ∙ eqb-true f.0 place f.2 in
      record {
        file = ap (slice_get (given_trees given)) at ∙ shares.here
            ∙ sym (ap (slice_get (given_trees others)) at ∙ shares.there);
        node = λ n i. node_stays n (sym (file_of j n i) ∙ at) (slice_get ms n) refl;
        wanted = λ n m i t name direct. needs_name name
            (subst (λ (u : Module). DirectlyNeeds u name) (at_place n m (sym (file_of j n i) ∙ at) t) direct);
      }

  result_same : option_and_then (slice_get (results js one_of)) (number_of files place)
      ≡ option_and_then (slice_get (results ks other_of)) (number_of files place)
  result_same = by (number_of files place) refl
    where
      by : (o : Option ℕ) → number_of files place ≡ o
          → option_and_then (slice_get (results js one_of)) o ≡ option_and_then (slice_get (results ks other_of)) o
      by None e = refl
      by (Some j) e = all_same j (place_stays j e)

pub other_files_apart : OtherFilesDoNotMatter
other_files_apart given others alike jobs other_jobs place root shares =
    let a = jobs.is_graph in
    let b = other_jobs.is_graph in
    let files_put : put others (number_files 0 given) ≡ number_files 0 others =
    numbered others 0 given others (λ i. (let q : 0 + i ≡ i = omega arith in ap (slice_get others) q)) alike in
    let sorted : AreInOrder (number_files 0 others) (put others a.0) =
    subst (λ (fs : List File). AreInOrder fs (put others a.0)) files_put
    (in_order others (number_files 0 given) a.0 a.1) in
    let good : AreGood others a.0 = all_good others given a.0 alike a.1 in
    let ordered : b.0 ≡ put others a.0 = one_order (number_files 0 others) b.0 (put others a.0) b.1 sorted in
    let x = a.2.is_jobs in
    let y = (subst (λ (fs : List File). IsGraphOf fs other_jobs.files other_jobs.needs other_jobs.starts) ordered
    b.2).is_jobs in
    let orders : y.order ≡ x.order = one_job_order (links (trees (put others a.0))) (trees (put others a.0)) y.order
    x.order y.is_order (order_stays others a.0 good x.order x.is_order) in
    let needed : AllZip (IsJob (trees (put others a.0)) x.order) x.order other_jobs.needs =
    subst (λ (o : List ℕ). AllZip (IsJob (trees (put others a.0)) o) o other_jobs.needs) orders y.needs in
    let files : other_jobs.files ≡ jobs.files =
    y.compiled ∙ ap (λ (gs : List ℕ). map (λ (k : ℕ). slice_index_or gs k 0) y.order) (given_same others a.0)
    ∙ ap (map (given_of a.0)) orders ∙ sym x.compiled in
    result_same given others a.0 a.1 sorted good x.order jobs.files x.compiled jobs.needs other_jobs.needs x.needs
    needed place root shares
    ∙ ap (λ (fs : List ℕ). result_at others fs other_jobs.needs place) (sym files)
