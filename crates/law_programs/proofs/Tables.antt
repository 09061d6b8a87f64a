-- The tables that jobs make.
use Rattle.std.proofs.Common.{◌≡◌, ℕ, zero, suc, ◌<◌, Bool, true, false, cond, List, [], ◌∷◌, ◌++◌, Option, Some, None, Result, Ok, Err, refl, sym, subst, arith, inl, inr}
use Rattle.std.specs.Prelude.{slice_get, slice_index_or, IfOk}
use Rattle.std.specs.List.{AllByRecursion, list_all}
use Rattle.std.proofs.lemmas.Bool.{cases_lt}
use Rattle.m2_tree.specs.declared.pos.Pos.{Pos}
use Rattle.m2_tree.specs.declared.decl.Contents.{Contents}
use Rattle.m2_tree.specs.declared.decl.Contents.TheVariants as contents
use Rattle.m2_tree.specs.declared.decl.Def.{Def}
use Rattle.m2_tree.specs.declared.decl.Module.{Module}
use Rattle.typed_tree.specs.declared.shape.Made.{Made}
use Rattle.typed_tree.specs.declared.table.Table.{Table}
use Rattle.typed_tree.specs.declared.typed_module.TypedModule.{TypedModule}
use Rattle.typed_tree.specs.declared.types.TypeNo.{TypeNo}
use Rattle.m2_rule.specs.declared.breach.Breach.{Breach}
use Rattle.check_scope.specs.declared.scope.Scope.{Scope}
use Rattle.check_scope.specs.Elaborated.{Gathers, least}
use Rattle.layout_storage.specs.Layouts.{too_large}
use Rattle.check_definition.specs.Compiled.{table_of, table_or, declared_in}
use Rattle.check_definition.specs.Compiled as types
use Rattle.check_definition.specs.Export.{exports, reached_of}
use Rattle.check_definition.specs.Importing.{numbered_modules}
use Rattle.check_definition.specs.Predeclared.{console, first_scope}
use Rattle.check_body.specs.Own.{exported_headings, types_made_in}
use Rattle.law_well_formed.specs.FormedRanges.{first_types}
use Rattle.law_well_formed.specs.FormedTables.{AreExports, AreNumberedBy}
use Rattle.law_well_formed.proofs.Exports.{tables_export}
use Rattle.law_well_formed.proofs.TablesDefinitions.{tables_number}
use Rattle.law_well_formed.specs.FormedKnown.{fits_module, TableFormed, TablesFormed}
use Rattle.law_well_formed.proofs.Gathered.{each_more}
use Rattle.law_well_formed.proofs.KnownBegins.{console_formed, first_has}
use Rattle.build_jobs.specs.declared.outcome.Compiled.{Compiled}
use Rattle.build_jobs.specs.declared.outcome.Compiled.TheVariants.{Defined, Blocked}
use Rattle.build_jobs.specs.Compiling.{is_sound, tables_of, of_definition, of_fit, of_checked, of_contents, typed_body, compilation_of}
use Rattle.build_jobs.specs.Jobs.{compile_in_place}
use Rattle.build_jobs.specs.Jobs.{needed_of}
use Rattle.law_programs.specs.FormedReach.{result_of, types_of}
use Rattle.law_programs.proofs.Reach.{IsNeeded, known_below, tables_needed}
use Rattle.law_programs.specs.Carried.{Carries}
use Rattle.law_programs.proofs.Bounding.{first_words, exports_words}
use Rattle.law_programs.proofs.Declaring.{definition_carries}
use Rattle.law_programs.proofs.Exporting.{exports_free}
use Rattle.law_programs.proofs.Reaching.{first_indexed, reached_indexed, reached_stay}
use Rattle.law_programs.specs.TypingTables.{ArePlacedBy, TableStands}
use Rattle.law_programs.proofs.Definitions.{definition_counts}
use Rattle.law_programs.proofs.Exported.{exports_once, variables_are, exports_placed, exports_apart}
use Rattle.law_programs.proofs.Reached.{all_stay, IsOther, other_of, console_other, all_are_elsewhere, all_words, all_indexed}

-- ---- a definition

table_is : (g : Gathers) (m : Module) (modules : List (List ℕ × ℕ)) (s : Scope g.Reported)
    (r : Result (Unit {0}) g.Reported) (t : Table) → table_or m modules s r ≡ Ok t → (r ≡ Ok tt)
    × (table_of m modules s ≡ t)
table_is g m modules s (Ok x) t e = (refl, cc)
table_is g m modules s (Err f) t e = absurd cc

module _ (made_of : ℕ → List Made) (n : ℕ) (m : Module) (ts : List Table) (formed : TablesFormed made_of n ts)
    (others : AllByRecursion (IsOther n) ts) where
  definition_stands : (ds : List Def) → (declared_in least m (numbered_modules ts).0 (first_scope n ts) ds).1 ≡ Ok tt
      → let s = (declared_in least m (numbered_modules ts).0 (first_scope n ts) ds).0 in
      AreExports n (exports s.own) → AreNumberedBy (exported_headings (exports s.own)) (exports s.own)
      → TableStands n (table_of m (numbered_modules ts).0 s)
  definition_stands ds ok own numbered =
      let modules : List (List ℕ × ℕ) = (numbered_modules ts).0 in
      let first : Scope least.Reported = first_scope n ts in
      let s : Scope least.Reported = (declared_in least m modules first ds).0 in
      let k : Carries first s = definition_carries least m modules first ds (all_are_elsewhere n ts others) in
      let c = definition_counts least m n modules ts ds ok in
      let exported : AreExports s.types.home (exports s.own) =
      subst (λ (h : ℕ). AreExports h (exports s.own)) (sym k.home) own in
      record {
        number = k.home;
        exports = record {
          own = exported;
          once = exports_once s.own;
          variables = subst (λ (vs : List TypeNo). ArePlacedBy vs (exports s.own)) (sym (variables_are s c.0 c.1))
              (exports_placed s.types.home s.variables s.own (k.placed tt) exported);
          procedures = numbered;
          apart = exports_apart s c.0 c.1;
          words = exports_words s (k.words (first_words n ts (all_words n ts others)));
          free = exports_free s k.level (k.slots None refl tt);
        };
        indexed = λ types has. reached_stay s.types types (all_stay s.types types has) (reached_of s.types)
            (reached_indexed s.types (k.indexed (first_indexed n ts
            (all_indexed n (first_types n ts) ts others (first_has made_of n ts formed)))));
      }

module _ (made_of : ℕ → List Made) (n : ℕ) (m : Module) (ts : List Table) (formed : TablesFormed made_of n ts)
    (others : AllByRecursion (IsOther n) ts) where
  abbrev all_tables : List Table
  all_tables = ts ++ console ∷ []

  all_formed : TablesFormed made_of n all_tables
  all_formed = each_more (TableFormed made_of n) ts console formed (console_formed made_of n)

  all_others : AllByRecursion (IsOther n) all_tables
  all_others = each_more (IsOther n) ts console others (console_other n)

  contents_stand : (t : Table) (c : Contents) → types.of_contents least n m all_tables c ≡ Ok t
      → AreExports n t.exported → AreNumberedBy (exported_headings t.exported) t.exported → TableStands n t
  contents_stand t (contents.Definition ds) e own numbered =
      let st = declared_in least m (numbered_modules all_tables).0 (first_scope n all_tables) ds in
      let k = table_is least m (numbered_modules all_tables).0 st.0 st.1 t e in
      subst (λ (t : Table). TableStands n t) k.1
      (definition_stands made_of n m all_tables all_formed all_others ds k.0
      (subst (λ (t : Table). AreExports n t.exported) (sym k.1) own)
      (subst (λ (t : Table). AreNumberedBy (exported_headings t.exported) t.exported) (sym k.1) numbered))
  contents_stand t (contents.Implementation b) e own numbered = absurd cc
  contents_stand t (contents.Program b) e own numbered = absurd cc

  result_stands : (t : Table) (r : Result Table Breach) → r ≡ types.definition_table least n m ts
      → IfOk r (λ t. AreExports n t.exported) → IfOk r (λ t. AreNumberedBy (exported_headings t.exported) t.exported)
      → of_definition r ≡ Defined t → TableStands n t
  result_stands t (Ok u) q own numbered e = let same : u ≡ t = cc in
      subst (λ (t : Table). TableStands n t) same (contents_stand u m.contents (sym q) own numbered)
  result_stands t (Err f) q own numbered e = absurd cc

-- ---- all jobs

module _ (trees : List Module) (files : List ℕ) (jobs : List (List ℕ)) (fit : list_all fits_module trees ≡ true) where
  abbrev made_of : ℕ → List Made
  made_of = types_of trees files jobs

  abbrev one : ℕ → Compiled
  one = result_of trees files jobs

  abbrev Fact : ℕ → Type 0
  Fact p = (t : Table) → one p ≡ Defined t → TableStands p t

  -- a table that a job needs
  pub record Needed (n : ℕ) (t : Table) : Type 0 where
    pub formed : TableFormed made_of n t
    pub own : TableStands t.number t
    pub made : types_made_in t.number t.reached ≡ made_of t.number
    pub before : t.number < n

  module _ (n : ℕ) (known : (p : ℕ) → p < n → Fact p) where
    all_needed : (ts : List Table) → AllByRecursion
        (IsNeeded trees files jobs fit n (known_below trees files jobs fit n)) ts → AllByRecursion (Needed n) ts
    all_needed [] h = tt
    all_needed (t ∷ ts) h = (
      record {
        formed = h.0.formed;
        own = known t.number h.0.before t h.0.made;
        made = h.0.own;
        before = h.0.before;
      },
      all_needed ts h.1,
    )

    abbrev needed : List Table
    needed = tables_of (needed_of trees files jobs n)

    they_are_needed : AllByRecursion (Needed n) needed
    they_are_needed = all_needed needed (tables_needed trees files jobs fit n)

    all_are_formed : (ts : List Table) → AllByRecursion (Needed n) ts → TablesFormed made_of n ts
    all_are_formed [] h = tt
    all_are_formed (t ∷ ts) h = (h.0.formed, all_are_formed ts h.1)

    all_are_others : (ts : List Table) → AllByRecursion (Needed n) ts → AllByRecursion (IsOther n) ts
    all_are_others [] h = tt
    all_are_others (t ∷ ts) h = (
      other_of n t h.0.own (λ e. let l : t.number < n = h.0.before in omega (arith, l, e)),
      all_are_others ts h.1,
    )

    no_fit : (t : Table) (b : TypedModule) (o : Option Pos) → of_fit b o ≡ Defined t → ⊥
    no_fit t b None e = absurd cc
    no_fit t b (Some at) e = absurd cc

    no_body : (t : Table) (r : Result TypedModule Breach) → of_checked r ≡ Defined t → ⊥
    no_body t (Ok b) e = no_fit t b (too_large b) e
    no_body t (Err f) e = absurd cc

    from_contents : (m : Module) (t : Table) (c : Contents) → of_contents m n needed c ≡ Defined t → TableStands n t
    from_contents m t (contents.Definition ds) e =
        result_stands made_of n m needed (all_are_formed needed they_are_needed) (all_are_others needed they_are_needed)
        t (types.definition_table least n m needed) refl (tables_export least n m needed)
        (tables_number least n m needed) e
    from_contents m t (contents.Implementation b) e = absurd (no_body t (typed_body m n needed) e)
    from_contents m t (contents.Program b) e = absurd (no_body t (typed_body m n needed) e)

    from_compiled : (m : Module) (t : Table) → compilation_of m n (needed_of trees files jobs n) ≡ Defined t
        → TableStands n t
    unfolding compilation_of
    from_compiled m t e = by (list_all is_sound (needed_of trees files jobs n)) e where
      by : (b : Bool) → cond b (of_contents m n needed m.contents) Blocked ≡ Defined t → TableStands n t
      by true e = from_contents m t m.contents e
      by false e = absurd cc

    from_tree : (t : Table) (o : Option Module) → compile_in_place o n (needed_of trees files jobs n) ≡ Defined t
        → TableStands n t
    from_tree t None e = absurd cc
    from_tree t (Some m) e = from_compiled m t e

    fact_next : Fact n
    fact_next t e = from_tree t (slice_get trees (slice_index_or files n 0)) e

  facts_below : (n p : ℕ) → p < n → Fact p
  facts_below zero p l = absurd (omega (arith, l))
  facts_below (suc n) p l = elim (cases_lt p n) [
    | inl less ↦ facts_below n p less
    | inr le ↦ let e : p ≡ n = omega (arith, l, le) in subst (λ (k : ℕ). Fact k) (sym e) (fact_next n (facts_below n))
  ]

  -- the tables that a job needs
  pub tables_before : (n : ℕ) → AllByRecursion (Needed n) (tables_of (needed_of trees files jobs n))
  tables_before n = they_are_needed n (facts_below n)

  pub tables_stand : (job : ℕ) (t : Table) → one job ≡ Defined t → TableStands job t
  tables_stand job = facts_below (suc job) job (omega arith)
