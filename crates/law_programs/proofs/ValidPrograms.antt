-- The tables that the jobs of a graph make, and the modules of bodies that are checked by them.
use Rattle.std.proofs.Common.{◌≡◌, ℕ, zero, suc, ◌<◌, ◌==◌, Bool, true, false, ◌||◌, cond, List, [], ◌∷◌, ◌++◌, length, Option, Some, None, Result, Ok, Err, refl, sym, ap, subst, ◌∙◌, arith, inl, inr}
use Rattle.std.specs.Prelude.{slice_get, slice_index_or, IfOk, codes}
use Rattle.std.specs.List.{list_all, AllByRecursion, AllZip}
use Rattle.std.proofs.lemmas.Bool.{cases_lt, eqb-true}
use Rattle.std.proofs.lemmas.Option.{same_Some, slice_get_within}
use Rattle.graph_walk.specs.Links.{has, unless}
use Rattle.wasm_tree.specs.Validity.{IsValid}
use Rattle.m2_tree.specs.declared.pos.Pos.{Pos}
use Rattle.m2_tree.specs.declared.decl.Contents.{Contents}
use Rattle.m2_tree.specs.declared.decl.Contents.TheVariants as contents
use Rattle.m2_tree.specs.declared.decl.Module.{Module}
use Rattle.pool_board.specs.Graph.{prerequisites_of}
use Rattle.pool_board.specs.Results.{results_below, items_at, with_item}
use Rattle.pool_board.proofs.Resulting.{results-length}
use Rattle.m2_graph.specs.Files.{number_files, trees}
use Rattle.m2_graph.specs.Graph.{IsGraph}
use Rattle.m2_graph.specs.Order.{IsJob}
use Rattle.m2_tree.specs.Names.{is_console, same_name}
use Rattle.m2_graph.specs.Refused.{is_built_in}
use Rattle.law_graph.proofs.Given.{given_among}
use Rattle.law_graph.proofs.Fine.{fine_file, tree_at}
use Rattle.typed_tree.specs.declared.table.Table.{Table}
use Rattle.typed_tree.specs.declared.typed_module.TypedModule.{TypedModule}
use Rattle.m2_rule.specs.declared.breach.Breach.{Breach}
use Rattle.check_scope.specs.Elaborated.{least}
use Rattle.layout_storage.specs.Layouts.{too_large}
use Rattle.check_definition.specs.Compiled as types
use Rattle.check_body.specs.Own.{exported_headings}
use Rattle.def_scheme.specs.Modules.{typed_module}
use Rattle.law_modules.specs.WellFormed.{IsWellFormed}
use Rattle.law_modules.proofs.Modules.{typed_module_valid}
use Rattle.law_well_formed.specs.Formed.{Holds}
use Rattle.law_well_formed.proofs.Basics.{holds_weaker}
use Rattle.law_well_formed.proofs.ScopesDeclarations.{same_home}
use Rattle.law_well_formed.specs.FormedImports.{NamesImports}
use Rattle.law_well_formed.proofs.NamedImports.{tables_named}
use Rattle.law_well_formed.proofs.ImportsLists.{or_left, or_right}
use Rattle.law_well_formed.specs.FormedTables.{AreExports, AreNumberedBy}
use Rattle.law_well_formed.proofs.Exports.{tables_export}
use Rattle.law_well_formed.proofs.TablesDefinitions.{tables_number}
use Rattle.law_well_formed.specs.FormedModules.{is_console_table, AreTables, AreForOwn, AreFor}
use Rattle.law_well_formed.proofs.WholeModules.{modules_formed}
use Rattle.build_jobs.specs.declared.outcome.Compiled.{Compiled}
use Rattle.build_jobs.specs.declared.outcome.Compiled.TheVariants.{Defined, Built, Refused, Blocked}
use Rattle.build_jobs.specs.Own.{own_table, tables_behind}
use Rattle.build_jobs.specs.Compiling.{is_sound, table_in, tables_of, of_definition, of_fit, of_checked, of_contents, typed_body, compilation_of}
use Rattle.build_jobs.specs.Jobs.{compile_in_place, compile_at}
use Rattle.build_jobs.specs.Jobs.{needed_of}
use Rattle.law_programs.specs.FormedPrograms.{trees_of}

-- ---- lists

or_none : (a b : Bool) → (a || b) ≡ false → (a ≡ false) × (b ≡ false)
or_none true b h = absurd cc
or_none false b h = (refl, h)

get_front : {X : Type 0} (xs ys : List X) (i : ℕ) → i < length xs → slice_get (xs ++ ys) i ≡ slice_get xs i
get_front [] ys i l = absurd (omega (arith, l))
get_front (x ∷ xs) ys zero l = refl
get_front (x ∷ xs) ys (suc i) l = get_front xs ys i (omega (arith, l))

get_last : {X : Type 0} (xs : List X) (x : X) (i : ℕ) → i ≡ length xs → slice_get (xs ++ x ∷ []) i ≡ Some x
get_last [] x zero e = refl
get_last [] x (suc i) e = absurd (omega (arith, e))
get_last (y ∷ ys) x zero e = absurd (omega (arith, e))
get_last (y ∷ ys) x (suc i) e = get_last ys x i (omega (arith, e))

-- each stands once
abbrev Once : List ℕ → Type 0
Once [] = Unit {0}
Once (p ∷ ps) = (has ps p ≡ false) × Once ps

not_same : (a b : ℕ) (m : ℕ → Bool) → m a ≡ false → m b ≡ true → (a == b) ≡ false
not_same a b m e f = by (a == b) refl where
  by : (c : Bool) → (a == b) ≡ c → c ≡ false
  by false q = refl
  by true q = absurd (let same : a ≡ b = eqb-true a b q in let k : m b ≡ false = ap m (sym same) ∙ e in cc)

or_false : (a b : Bool) → a ≡ false → b ≡ false → (a || b) ≡ false
or_false true b h k = absurd cc
or_false false b h k = k

lacks_by : (c : Bool) (y x : ℕ) (without with_it : List ℕ) → (c ≡ false → (y == x) ≡ false) → has without x ≡ false
    → has with_it x ≡ false → has (cond c without (y ∷ with_it)) x ≡ false
lacks_by true y x without with_it d h k = h
lacks_by false y x without with_it d h k = or_false (y == x) (has with_it x) (d refl) k

lacks : (xs : List ℕ) (m : ℕ → Bool) (x : ℕ) → m x ≡ true → has (unless m xs) x ≡ false
lacks [] m x h = refl
lacks (y ∷ ys) m x h =
    lacks_by (m y) y x (unless m ys) (unless (λ k. m k || (y == k)) ys) (λ e. not_same y x m e h) (lacks ys m x h)
    (lacks ys (λ k. m k || (y == k)) x (or_left (m x) (y == x) h))

once_by : (c : Bool) (y : ℕ) (without with_it : List ℕ) → Once without → has with_it y ≡ false → Once with_it
    → Once (cond c without (y ∷ with_it))
once_by true y without with_it h k d = h
once_by false y without with_it h k d = (k, d)

left_once : (xs : List ℕ) (m : ℕ → Bool) → Once (unless m xs)
left_once [] m = tt
left_once (y ∷ ys) m =
    once_by (m y) y (unless m ys) (unless (λ k. m k || (y == k)) ys) (left_once ys m)
    (lacks ys (λ k. m k || (y == k)) y (or_right (m y) (y == y) (same_home y y refl)))
    (left_once ys (λ k. m k || (y == k)))

rows_once : (modules : List Module) (order nodes : List ℕ) (js : List (List ℕ)) → AllZip (IsJob modules order) nodes js
    → (i : ℕ) → Once (slice_index_or js i [])
rows_once modules order [] [] x i = tt
rows_once modules order [] (j ∷ js) x i = absurd x
rows_once modules order (n ∷ nodes) [] x i = absurd x
rows_once modules order (n ∷ nodes) (j ∷ js) x zero =
    subst (λ (row : List ℕ). Once row) (sym x.0) (left_once _ (λ k. false))
rows_once modules order (n ∷ nodes) (j ∷ js) x (suc i) = rows_once modules order nodes js x.1 i

module _ (fs : List (List ℕ × Module)) (files : List ℕ) (jobs : List (List ℕ)) (starts : List ℕ)
    (graph : IsGraph (number_files 0 fs) files jobs starts) where
  -- ---- tables

  -- of a definition: what it exports is its own, and numbered in order
  record IsDefined (t : Table) : Type 0 where
    exports : AreExports t.number t.exported
    numbers : AreNumberedBy (exported_headings t.exported) t.exported
    named : is_console_table t ≡ false

  -- the table of the definition that a job compiles
  abbrev IsOf : ℕ → Table → Type 0
  IsOf job t = IsDefined t × (t.number ≡ job)

  not_console : (m : Module) (k : ℕ) → slice_get (trees_of fs) k ≡ Some m → is_console m.name.name ≡ false
  not_console m k e =
      let a = given_among fs graph.0 graph.1 m (k, e) in
      let f = tree_at graph.0 a.0 m a.1 in
      let fine = (fine_file graph.0 graph.2.fine a.0 f.0 f.1).first in
      let free : is_console f.0.tree.name.name ≡ false =
      (or_none (is_console f.0.tree.name.name) (same_name f.0.tree.name.name (codes "link"))
      (or_none _ (is_built_in f.0.tree.name.name) fine).1).0 in
      subst (λ (x : Module). is_console x.name.name ≡ false) f.2 free

  defined_of : (m : Module) (job : ℕ) (t : Table) → is_console m.name.name ≡ false → NamesImports m job t
      → AreExports job t.exported → AreNumberedBy (exported_headings t.exported) t.exported → IsOf job t
  defined_of m job t free n e k = (
    record {
      exports = subst (λ (h : ℕ). AreExports h t.exported) (sym n.number) e;
      numbers = k;
      named = ap (λ (name : List ℕ). same_name name (codes "Console")) n.name ∙ free;
    },
    n.number,
  )

  result_of : (m : Module) (job : ℕ) (t : Table) (r : Result Table Breach) → is_console m.name.name ≡ false
      → IfOk r (NamesImports m job) → IfOk r (λ t. AreExports job t.exported)
      → IfOk r (λ t. AreNumberedBy (exported_headings t.exported) t.exported)
      → of_definition r ≡ Defined t → IsOf job t
  result_of m job t (Ok x) free n e k is = let same : x ≡ t = cc in
      subst (λ (y : Table). IsOf job y) same (defined_of m job x free n e k)
  result_of m job t (Err f) free n e k is = absurd cc

  no_fit : (t : Table) (b : TypedModule) (o : Option Pos) → of_fit b o ≡ Defined t → ⊥
  no_fit t b None e = absurd cc
  no_fit t b (Some at) e = absurd cc

  no_body : (t : Table) (r : Result TypedModule Breach) → of_checked r ≡ Defined t → ⊥
  no_body t (Ok b) e = no_fit t b (too_large b) e
  no_body t (Err f) e = absurd cc

  from_contents : (m : Module) (job : ℕ) (tables : List Table) (t : Table) → is_console m.name.name ≡ false
      → (c : Contents) → of_contents m job tables c ≡ Defined t → IsOf job t
  from_contents m job tables t free (contents.Definition ds) e =
      result_of m job t (types.definition_table least job m tables) free (tables_named least job m tables)
      (tables_export least job m tables) (tables_number least job m tables) e
  from_contents m job tables t free (contents.Implementation b) e = absurd (no_body t (typed_body m job tables) e)
  from_contents m job tables t free (contents.Program b) e = absurd (no_body t (typed_body m job tables) e)

  from_compiled : (m : Module) (job : ℕ) (outs : List Compiled) (t : Table) → is_console m.name.name ≡ false
      → compilation_of m job outs ≡ Defined t → IsOf job t
  unfolding compilation_of
  from_compiled m job outs t free e = by (list_all is_sound outs) e where
    by : (b : Bool) → cond b (of_contents m job (tables_of outs) m.contents) Blocked ≡ Defined t → IsOf job t
    by true e = from_contents m job (tables_of outs) t free m.contents e
    by false e = absurd cc

  from_tree : (place job : ℕ) (outs : List Compiled) (t : Table) (o : Option Module) → slice_get (trees_of fs) place ≡ o
      → compile_in_place o job outs ≡ Defined t → IsOf job t
  from_tree place job outs t None there e = absurd cc
  from_tree place job outs t (Some m) there e = from_compiled m job outs t (not_console m place there) e

  -- ---- results of jobs

  abbrev below : ℕ → List Compiled
  below n = results_below jobs (compile_at (trees_of fs) files) n

  abbrev one : ℕ → Compiled
  one n = compile_at (trees_of fs) files n (items_at (below n) (prerequisites_of jobs n))

  many : (n : ℕ) → length (below n) ≡ n
  many n = results-length jobs (compile_at (trees_of fs) files) n

  at_below : (n j : ℕ) → j < n → slice_get (below n) j ≡ Some (one j)
  at_below zero j l = absurd (omega (arith, l))
  at_below (suc n) j l = elim (cases_lt j n) [
    | inl less ↦ get_front (below n) (one n ∷ []) j (omega (arith, less, many n)) ∙ at_below n j less
    | inr le ↦ let e : j ≡ n = omega (arith, l, le) in
        get_last (below n) (one n) j (e ∙ sym (many n)) ∙ ap (λ (k : ℕ). Some (one k)) (sym e)
  ]

  is_within : (n p : ℕ) (x : Compiled) → slice_get (below n) p ≡ Some x → p < n
  is_within n p x e = let w = slice_get_within (below n) p x e in omega (arith, w, many n)

  table_below : (n p : ℕ) (x : Compiled) → slice_get (below n) p ≡ Some x → (t : Table) → x ≡ Defined t → IsOf p t
  table_below n p x e t is =
      from_tree (slice_index_or files p 0) p (items_at (below p) (prerequisites_of jobs p)) t
      (slice_get (trees_of fs) (slice_index_or files p 0)) refl
      (same_Some (one p) x (sym (at_below n p (is_within n p x e)) ∙ e) ∙ is)

  -- ---- what a job needs

  -- a table of a job that stands among these, and before the job
  record Stands (job : ℕ) (ps : List ℕ) (t : Table) : Type 0 where
    defined : IsDefined t
    among : has ps t.number ≡ true
    before : t.number < job

  abbrev Apart : List Table → Type 0
  Apart [] = Unit {0}
  Apart (t ∷ ts) = AllByRecursion (λ u. (u.number == t.number) ≡ false) ts × Apart ts

  module _ (job : ℕ) where
    abbrev AllStand : List ℕ → List Table → Type 0
    AllStand ps ts = AllByRecursion (Stands job ps) ts

    later : (p : ℕ) (ps : List ℕ) (ts : List Table) → AllStand ps ts → AllStand (p ∷ ps) ts
    later p ps [] all = tt
    later p ps (t ∷ ts) all = (
      record {
        defined = all.0.defined;
        among =
            or_right (p == t.number) (has ps t.number) all.0.among;
        before = all.0.before;
      },
      later p ps ts all.1,
    )

    not_first : (p : ℕ) (ps : List ℕ) (t : Table) → t.number ≡ p → has ps p ≡ false → (ts : List Table) → AllStand ps ts
        → AllByRecursion (λ u. (u.number == t.number) ≡ false) ts
    not_first p ps t e h [] all = tt
    not_first p ps t e h (u ∷ ts) all = (by (u.number == t.number) refl, not_first p ps t e h ts all.1) where
      by : (c : Bool) → (u.number == t.number) ≡ c → c ≡ false
      by false q = refl
      by true q = absurd (let same : u.number ≡ p = eqb-true u.number t.number q ∙ e in
          let k : has ps p ≡ true = ap (λ (n : ℕ). has ps n) (sym same) ∙ all.0.among in cc)

    with_one : (p : ℕ) (ps : List ℕ) (ts : List Table) (x : Compiled) → p < job
        → ((t : Table) → x ≡ Defined t → IsOf p t) → has ps p ≡ false → AllStand ps ts × Apart ts
        → AllStand (p ∷ ps) (table_in x ++ ts) × Apart (table_in x ++ ts)
    with_one p ps ts (Defined t) l g h k =
        let d = g t refl in (
          (
            record {
              defined = d.0;
              among = or_left (p == t.number) (has ps t.number) (same_home p t.number (sym d.1));
              before = subst (λ (n : ℕ). n < job) (sym d.1) l;
            },
            later p ps ts k.0,
          ),
          (not_first p ps t d.1 h ts k.0, k.1),
        )
    with_one p ps ts (Built b) l g h k = (later p ps ts k.0, k.1)
    with_one p ps ts (Refused f) l g h k = (later p ps ts k.0, k.1)
    with_one p ps ts Blocked l g h k = (later p ps ts k.0, k.1)

    with_picked : (p : ℕ) (ps : List ℕ) (xs : List Compiled) (o : Option Compiled)
        → ((x : Compiled) → o ≡ Some x → (p < job) × ((t : Table) → x ≡ Defined t → IsOf p t)) → has ps p ≡ false
        → AllStand ps (tables_of (items_at xs ps)) × Apart (tables_of (items_at xs ps))
        → AllStand (p ∷ ps) (tables_of (with_item o (items_at xs ps)))
        × Apart (tables_of (with_item o (items_at xs ps)))
    with_picked p ps xs None g h k = (later p ps (tables_of (items_at xs ps)) k.0, k.1)
    with_picked p ps xs (Some x) g h k = let d = g x refl in with_one p ps (tables_of (items_at xs ps)) x d.0 d.1 h k

    picked_stand : (ps : List ℕ) → Once ps → AllStand ps (tables_of (items_at (below job) ps))
        × Apart (tables_of (items_at (below job) ps))
    picked_stand [] once = (tt, tt)
    picked_stand (p ∷ ps) once = with_picked p ps (below job) (slice_get (below job) p)
        (λ x e. (is_within job p x e, table_below job p x e)) once.0 (picked_stand ps once.1)

    -- ---- bodies

    below_other : (n : ℕ) → n < job → (n == job) ≡ false
    below_other n l = by (n == job) refl where
      by : (c : Bool) → (n == job) ≡ c → c ≡ false
      by false q = refl
      by true q = let same : n ≡ job = eqb-true n job q in absurd (omega (arith, l, same))

    tables_before : (ps : List ℕ) (ts : List Table) → AllStand ps ts → AreTables job ts
    tables_before ps [] all = tt
    tables_before ps (t ∷ ts) all = (
      record
          { exports = all.0.defined.exports; named = all.0.defined.named; other = below_other t.number all.0.before },
      tables_before ps ts all.1,
    )

    tables_apart : (home : ℕ) (ps : List ℕ) (ts : List Table) → AllStand ps ts
        → AllByRecursion (λ u. (u.number == home) ≡ false) ts → AreTables home ts
    tables_apart home ps [] all k = tt
    tables_apart home ps (t ∷ ts) all k = (
      record
          { exports = all.0.defined.exports; named = all.0.defined.named; other = k.0 },
      tables_apart home ps ts all.1
          k.1,
    )

    program_for : (ps : List ℕ) (m : Module) (ts : List Table) → AllStand ps ts
        → AreTables job (tables_behind (own_table m ts) ts)
    program_for ps m [] all = tt
    program_for ps m (t ∷ ts) all = by (same_name t.name m.name.name) where
      by : (b : Bool) → AreTables job (tables_behind (cond b (Some t) None) (t ∷ ts))
      by true = tables_before ps ts all.1
      by false = tables_before ps (t ∷ ts) all

    own_for : (ps : List ℕ) (m : Module) (ts : List Table) → AllStand ps ts → Apart ts
        → AreForOwn (own_table m ts) (tables_behind (own_table m ts) ts)
    own_for ps m [] all k = tt
    own_for ps m (t ∷ ts) all k = by (same_name t.name m.name.name) where
      by : (b : Bool) → AreForOwn (cond b (Some t) None) (tables_behind (cond b (Some t) None) (t ∷ ts))
      by true = (
        record { exports = all.0.defined.exports; numbers = all.0.defined.numbers },
        tables_apart t.number ps
            ts all.1 k.0,
      )
      by false = tt

    body_for : (ps : List ℕ) (m : Module) (ts : List Table) → AllStand ps ts → Apart ts → (c : Contents)
        → AreFor job (own_table m ts) (tables_behind (own_table m ts) ts) c
    body_for ps m ts all k (contents.Definition defs) = tt
    body_for ps m ts all k (contents.Implementation b) = own_for ps m ts all k
    body_for ps m ts all k (contents.Program b) = program_for ps m ts all

  -- the tables by which a job checks the body of a module
  pub tables_for : (m : Module) (job : ℕ)
      → AreFor job (own_table m (tables_of (needed_of (trees_of fs) files jobs job)))
      (tables_behind (own_table m (tables_of (needed_of (trees_of fs) files jobs job)))
      (tables_of (needed_of (trees_of fs) files jobs job))) m.contents
  tables_for m job =
      let row : Once (prerequisites_of jobs job) =
      rows_once (trees graph.0) graph.2.is_jobs.order graph.2.is_jobs.order jobs graph.2.is_jobs.needs job in
      let k = picked_stand job (prerequisites_of jobs job) row in
      body_for job (prerequisites_of jobs job) m (tables_of (needed_of (trees_of fs) files jobs job)) k.0 k.1 m.contents

  pub programs_formed : (m : Module) (job : ℕ)
      → Holds IsWellFormed (typed_body m job (tables_of (needed_of (trees_of fs) files jobs job)))
  programs_formed m job =
      let ts : List Table = tables_of (needed_of (trees_of fs) files jobs job) in
      modules_formed least job m (own_table m ts) (tables_behind (own_table m ts) ts) (tables_for m job)

  pub programs_valid : (m : Module) (job : ℕ)
      → Holds (λ t. IsValid (typed_module t)) (typed_body m job (tables_of (needed_of (trees_of fs) files jobs job)))
  programs_valid m job = holds_weaker (λ t w. typed_module_valid t w) (programs_formed m job)
