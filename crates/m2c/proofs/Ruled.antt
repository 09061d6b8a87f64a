-- The rules decide what is answered of each module: the tables that it needs are those of definitions with smaller
-- numbers.
use Rattle.std.proofs.Common.{◌≡◌, ◌≤◌, ◌<◌, ◌+◌, ◌==◌, ℕ, Bool, true, false, cond, List, [], ◌∷◌, ◌++◌, Option, Some, None, Result, Ok, Err, refl, sym, ap, subst, ◌∙◌, arith}
use Rattle.std.specs.Prelude.{length, slice_get, slice_index_or}
use Rattle.std.specs.List.{list_all}
use Rattle.std.proofs.lemmas.Bool.{eq-eqb}
use Rattle.std.proofs.lemmas.Option.{slice_get_within}
use Rattle.m2_tree.specs.Names.{same_name}
use Rattle.m2_tree.specs.declared.pos.Pos.{Pos}
use Rattle.m2_tree.specs.declared.decl.Block.{Block}
use Rattle.m2_tree.specs.declared.decl.Contents.{Contents}
use Rattle.m2_tree.specs.declared.decl.Contents.TheVariants as contents
use Rattle.m2_tree.specs.declared.decl.Module.{Module}
use Rattle.m2_rule.specs.declared.breach.Breach.{Breach}
use Rattle.typed_tree.specs.declared.table.Table.{Table}
use Rattle.typed_tree.specs.declared.typed_module.TypedModule.{TypedModule}
use Rattle.pool_board.specs.Graph.{prerequisites_of}
use Rattle.pool_board.specs.Results.{results_below, items_at, with_item}
use Rattle.m2_graph.specs.Files.{number_files}
use Rattle.m2_graph.specs.Graph.{IsGraph}
use Rattle.m2_graph.proofs.Smaller.{are_jobs}
use Rattle.graph_walk.specs.Links.{times}
use Rattle.check_scope.specs.Elaborated.{least}
use Rattle.check_definition.specs.Compiled.{definition_table}
use Rattle.layout_storage.specs.Layouts.{too_large}
use Rattle.law_rules.specs.Ruled.{Among, here, later, IsTableOf, is_answered, of_definition as imported_from, AreImported}
use Rattle.law_rules.proofs.ModulesTables.{number_is}
use Rattle.law_rules.proofs.Ruled.{definitions_ruled, programs_ruled, implementations_ruled, lonely_ruled}
use Rattle.build_jobs.specs.declared.outcome.Compiled.{Compiled}
use Rattle.build_jobs.specs.declared.outcome.Compiled.TheVariants.{Defined, Built, Refused, Blocked}
use Rattle.build_jobs.specs.Own.{own_table, tables_behind}
use Rattle.build_jobs.specs.Compiling.{is_sound, table_in, tables_of, of_definition, of_fit, of_checked, of_contents, typed_body, compilation_of}
use Rattle.build_jobs.specs.Jobs.{compile_in_place, compile_at}
use Rattle.build_jobs.specs.Jobs.{needed_of}
use Rattle.build_results.specs.Texts.{modules}
use Rattle.m2c.specs.Ruled.{IsRuledBy, IsRuled, AreRuled}
use Rattle.m2c.proofs.Unrefused.{is_below, many}

-- ---- the table of a job is that of its definition

defined_table : (m : Module) (job : ℕ) (tables : List Table) (t : Table) (r : Result Table Breach)
    → definition_table least job m tables ≡ r → of_definition r ≡ Defined t → IsTableOf least job t
defined_table m job tables t (Ok x) e is = let same : x ≡ t = cc in
    subst (IsTableOf least job) same (is_answered m tables e)
defined_table m job tables t (Err f) e is = absurd (cc is)

no_fit : (t : Table) (b : TypedModule) (o : Option Pos) → of_fit b o ≡ Defined t → ⊥
no_fit t b None e = absurd (cc e)
no_fit t b (Some at) e = absurd (cc e)

no_body : (t : Table) (r : Result TypedModule Breach) → of_checked r ≡ Defined t → ⊥
no_body t (Ok b) e = no_fit t b (too_large b) e
no_body t (Err f) e = absurd (cc e)

contents_table : (m : Module) (job : ℕ) (tables : List Table) (t : Table) (c : Contents)
    → of_contents m job tables c ≡ Defined t → IsTableOf least job t
contents_table m job tables t (contents.Definition ds) e =
    defined_table m job tables t (definition_table least job m tables) refl e
contents_table m job tables t (contents.Implementation b) e = absurd (no_body t (typed_body m job tables) e)
contents_table m job tables t (contents.Program b) e = absurd (no_body t (typed_body m job tables) e)

compiled_table : (m : Module) (job : ℕ) (outs : List Compiled) (t : Table) → compilation_of m job outs ≡ Defined t
    → IsTableOf least job t
unfolding compilation_of
compiled_table m job outs t e = by (list_all is_sound outs) e
  where
    by : (b : Bool) → cond b (of_contents m job (tables_of outs) m.contents) Blocked ≡ Defined t → IsTableOf least job t
    by true e = contents_table m job (tables_of outs) t m.contents e
    by false e = absurd (cc e)

placed_table : (job : ℕ) (outs : List Compiled) (t : Table) (o : Option Module)
    → compile_in_place o job outs ≡ Defined t → IsTableOf least job t
placed_table job outs t None e = absurd (cc e)
placed_table job outs t (Some m) e = compiled_table m job outs t e

-- ---- the tables of the results at these places

module _ (xs : List Compiled) (found : (p : ℕ) (t : Table) → slice_get xs p ≡ Some (Defined t) → IsTableOf least p t)
  where
    -- a table, with the place of its result
    abbrev From : List ℕ → Table → Type 0
    From ps t = (p : ℕ) × Among p ps × IsTableOf least p t × (p < length xs)

    from_more : {p : ℕ} {ps : List ℕ} {t : Table} → From ps t → From (p ∷ ps) t
    from_more (q, m, w, l) = (q, later m, w, l)

    module _ (p : ℕ) (ps : List ℕ) (t : Table) (rest : Among t (tables_of (items_at xs ps)) → From ps t) where
      from_one : (x : Compiled) → slice_get xs p ≡ Some x → Among t (table_in x ++ tables_of (items_at xs ps))
          → From (p ∷ ps) t
      from_one (Defined u) e here = (p, here, found p u e, slice_get_within xs p (Defined u) e)
      from_one (Defined u) e (later m) = from_more (rest m)
      from_one (Built b) e m = from_more (rest m)
      from_one (Refused f) e m = from_more (rest m)
      from_one Blocked e m = from_more (rest m)

      from_place : (o : Option Compiled) → slice_get xs p ≡ o → Among t (tables_of (with_item o (items_at xs ps)))
          → From (p ∷ ps) t
      from_place None e m = from_more (rest m)
      from_place (Some x) e m = from_one x e m

    from_places : (ps : List ℕ) (t : Table) → Among t (tables_of (items_at xs ps)) → From ps t
    from_places [] t m = elim m [ ]
    from_places (p ∷ ps) t m = from_place p ps t (from_places ps t) (slice_get xs p) refl m

    -- Each place stands once.
    abbrev AreOnce : List ℕ → Type 0
    AreOnce ps = (p : ℕ) → times ps p ≤ 1

    once_more : (p : ℕ) (ps : List ℕ) → AreOnce (p ∷ ps) → AreOnce ps
    once_more p ps h q = let l = h q in omega (arith, l)

    abbrev counted : Bool → ℕ
    counted b = cond b 1 0

    counts_once : (p : ℕ) → counted (p == p) ≡ counted true
    counts_once p = ap counted (eq-eqb p p refl)

    among_times : (ps : List ℕ) (q : ℕ) → Among q ps → 1 ≤ times ps q
    among_times [] q m = elim m [ ]
    among_times (p ∷ ps) _ here = let one = counts_once p in omega (arith, one)
    among_times (p ∷ ps) q (later m) = let l = among_times ps q m in omega (arith, l)

    once_first : (p : ℕ) (ps : List ℕ) → AreOnce (p ∷ ps) → (q : ℕ) → Among q ps → q ≡ p → ⊥
    once_first p ps h q m e =
        let l = h p in
        let one = counts_once p in
        let k = among_times ps p (subst (λ (r : ℕ). Among r ps) e m) in
        absurd (omega (arith, l, one, k))

    -- the first table, and the others, which are those of other places
    abbrev Splits : List Table → Type 0
    Splits [] = Unit {0}
    Splits (t ∷ ts) = (p : ℕ) × IsTableOf least p t
        × ((u : Table) → Among u ts → (q : ℕ) × IsTableOf least q u × (q ≡ p → ⊥))

    module _ (p : ℕ) (ps : List ℕ) (h : AreOnce (p ∷ ps)) (rest : Splits (tables_of (items_at xs ps))) where
      split_one : (x : Compiled) → slice_get xs p ≡ Some x → Splits (table_in x ++ tables_of (items_at xs ps))
      split_one (Defined t) e = (
        p,
        found p t e,
        λ u m. let f = from_places ps u m in
            (f.0, f.2, once_first p ps h f.0 f.1),
      )
      split_one (Built b) e = rest
      split_one (Refused f) e = rest
      split_one Blocked e = rest

      split_place : (o : Option Compiled) → slice_get xs p ≡ o → Splits (tables_of (with_item o (items_at xs ps)))
      split_place None e = rest
      split_place (Some x) e = split_one x e

    splits : (ps : List ℕ) → AreOnce ps → Splits (tables_of (items_at xs ps))
    splits [] h = tt
    splits (p ∷ ps) h = split_place p ps h (splits ps (once_more p ps h)) (slice_get xs p) refl

-- ---- the modules of a graph

module _ (fs : List (List ℕ × Module)) (numbers : List ℕ) (jobs : List (List ℕ)) (starts : List ℕ)
    (graph : IsGraph (number_files 0 fs) numbers jobs starts) where
  abbrev below_it : ℕ → List Compiled
  below_it job = results_below jobs (compile_at (modules fs) numbers) job

  abbrev tables : ℕ → List Table
  tables job = tables_of (needed_of (modules fs) numbers jobs job)

  found_below : (job p : ℕ) (t : Table) → slice_get (below_it job) p ≡ Some (Defined t) → IsTableOf least p t
  found_below job p t e = placed_table p (needed_of (modules fs) numbers jobs p) t
      (slice_get (modules fs) (slice_index_or numbers p 0)) (is_below fs numbers jobs job p (Defined t) e)

  jobs_once : (job p : ℕ) → times (prerequisites_of jobs job) p ≤ 1
  jobs_once job p = let j = graph.2.is_jobs in
      (are_jobs _ j.is_order.0 j.order jobs j.is_order.1 j.is_order.2 j.needs job p).1

  -- the tables that a job needs are those of others
  needed_tables : (job : ℕ) → AreImported job (tables job)
  needed_tables job t m =
      let f = from_places (below_it job) (found_below job) (prerequisites_of jobs job) t m in
      imported_from f.0 f.2 (smaller f.0 (omega (arith, f.3, many fs numbers jobs job)))
    where
      smaller : (p : ℕ) → p < job → p ≡ job → ⊥
      smaller p l e = absurd (omega (arith, l, e))

  behind_own : (m : Module) (ts : List Table) (t : Table) → Among t (tables_behind (own_table m ts) ts) → Among t ts
  behind_own m [] t a = a
  behind_own m (u ∷ ts) t a = by (same_name u.name m.name.name) a
    where
      by : (b : Bool) → Among t (tables_behind (cond b (Some u) None) (u ∷ ts)) → Among t (u ∷ ts)
      by true a = later a
      by false a = a

  module _ (m : Module) (job : ℕ) (b : Block) (is : m.contents ≡ contents.Implementation b) where
    abbrev Ruled : List Table → Option Table → Type 0
    Ruled ts own = IsRuledBy own job m (tables_behind own ts) b

    -- the table of its own definition is the first, and the others are those of other numbers
    own_ruled : (ts : List Table) → Splits (below_it job) (found_below job) ts → Ruled ts (own_table m ts)
    own_ruled [] h = lonely_ruled job m [] b is
    own_ruled (t ∷ ts) h = by (same_name t.name m.name.name)
      where
        others : AreImported t.number ts
        others u a = let w = h.2 u a in imported_from w.0 w.1 (λ e. w.2 (e ∙ number_is h.0 t h.1))

        by : (c : Bool) → Ruled (t ∷ ts) (cond c (Some t) None)
        by true = implementations_ruled t m ts (subst (λ (n : ℕ). IsTableOf least n t) (sym (number_is h.0 t h.1)) h.1)
            others b is
        by false = lonely_ruled job m (t ∷ ts) b is

  contents_ruled : (m : Module) (job : ℕ) (c : Contents) → m.contents ≡ c → IsRuled m job (tables job) c
  contents_ruled m job (contents.Definition defs) is = definitions_ruled job m (tables job) defs is
  contents_ruled m job (contents.Program b) is =
      programs_ruled job m (tables_behind (own_table m (tables job)) (tables job))
      (λ t a. needed_tables job t (behind_own m (tables job) t a)) b is
  contents_ruled m job (contents.Implementation b) is =
      own_ruled m job b is (tables job) (splits (below_it job) (found_below job) (prerequisites_of jobs job)
      (jobs_once job))

  pub all_ruled : AreRuled (modules fs) numbers jobs
  all_ruled job m there = contents_ruled m job m.contents refl
