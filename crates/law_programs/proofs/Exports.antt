-- What the table of an open module exports is there, for the module that is checked with it.
use Rattle.std.proofs.Common.{◌≡◌, ◌⊎◌, inl, inr, ℕ, zero, suc, ◌==◌, Bool, true, false, cond, List, [], ◌∷◌, ◌++◌, Option, Some, None, refl, sym, ap, subst, ◌∙◌}
use Rattle.std.specs.Prelude.{slice_get, map, codes}
use Rattle.std.specs.List.{AllByRecursion, list_any, list_all}
use Rattle.m2_tree.specs.declared.decl.Module.{Module}
use Rattle.m2_graph.specs.Files.{number_files}
use Rattle.m2_graph.specs.Graph.{IsGraph, CompileEach}
use Rattle.typed_tree.specs.declared.meaning.Meaning.{Meaning}
use Rattle.typed_tree.specs.declared.meaning.Meaning.TheVariants as meaning
use Rattle.typed_tree.specs.declared.meaning.Procedure.{Procedure}
use Rattle.typed_tree.specs.declared.meaning.Variable.{Variable}
use Rattle.typed_tree.specs.declared.table.Table.{Table}
use Rattle.typed_tree.specs.declared.types.TypeNo.{TypeNo}
use Rattle.typed_tree.specs.declared.known_types.Types.{Types}
use Rattle.typed_tree.specs.declared.typed_module.Imported.{Imported}
use Rattle.typed_tree.specs.declared.typed_module.Routine.{Routine}
use Rattle.typed_tree.specs.declared.typed_module.TypedModule.{TypedModule}
use Rattle.typed_tree.specs.declared.typed_module.Which.{Which}
use Rattle.m2_tree.specs.Names.{same_name}
use Rattle.check_scope.specs.Elaborated.{least}
use Rattle.layout_storage.specs.Types.{Ty, Hidden, row, component}
use Rattle.layout_storage.specs.Frames.{module_row}
use Rattle.layout_storage.specs.Shapes.{tree}
use Rattle.layout_storage.specs.Texts.{characters, module_texts}
use Rattle.check_definition.specs.Compiled as types
use Rattle.check_body.specs.Own.{exported_variables, exported_headings}
use Rattle.def_meaning.specs.Environment.{module_place}
use Rattle.def_scheme.specs.Exprs.{is_own, import_place, imported_row, variables_row}
use Rattle.law_modules.specs.Linked.{Program}
use Rattle.law_memory.specs.Relation.{heading_at}
use Rattle.law_simulation.specs.Passing.{forms_of, result_of}
use Rattle.law_simulation.specs.RunsPrograms.{module_type}
use Rattle.law_simulation.specs.TreesTyped.{Context, IsKnown, IsVariable, IsNamed, kinds_around}
use Rattle.law_simulation.specs.Knows.{Knows, IsCoherent}
use Rattle.law_simulation.proofs.Globals.{each_at, Import, import_of}
use Rattle.law_modules.proofs.Numbers.{mapped_at}
use Rattle.law_well_formed.proofs.ImportsLists.{or_right}
use Rattle.law_well_formed.specs.FormedOrder.{MeaningOrdered, ExportsOrdered}
use Rattle.law_well_formed.specs.FormedRanges.{MeaningRanged, ExportsRanged}
use Rattle.law_well_formed.specs.FormedTables.{IsExport, AreExports, IsNumbered, AreNumberedBy}
use Rattle.law_well_formed.proofs.TablesDefinitions.{tables_number}
use Rattle.law_well_formed.specs.FormedModules.{IsTable}
use Rattle.law_well_formed.specs.FormedKnown.{fits_module, HasReached, TableFormed}
use Rattle.build_jobs.specs.Compiling.{tables_of}
use Rattle.build_jobs.specs.Jobs.{needed_of}
use Rattle.law_programs.proofs.Reach.{tables_same}
use Rattle.law_programs.specs.FormedCoherent.{trees_of, IsBodyOf, AreBodiesIn}
use Rattle.law_programs.proofs.Imports.{IsImportOf}
use Rattle.law_programs.proofs.GraphsPrograms.{if_ok, IsDefined, defined_by}
use Rattle.law_programs.specs.Carried.{MeaningWord, ExportsWords}
use Rattle.law_programs.specs.Names.{MeaningElse}
use Rattle.law_programs.specs.TypingBodies.{MeaningThere}
use Rattle.law_programs.specs.TypingTables.{IsPlaced, ArePlacedBy, ExportsStand}
use Rattle.law_programs.proofs.Tables.{tables_stand}
use Rattle.law_programs.specs.TypingNames.{tables_for, placed_at}
use Rattle.law_programs.proofs.HeadingsAgree.{only, only_has, same_heading}
use Rattle.law_programs.proofs.Imported.{IsAs, IsWithin, made_of_table}
use Rattle.law_programs.proofs.Whole.{got, its_types, IsMade, IsPart, part_of, one_table, coherent_at, HasHome, home_of}

-- ---- components

component_there : (ts : List Ty) (n : ℕ) (t : Ty) (p : List ℕ) → slice_get ts n ≡ Some t
    → component (row ts) (n ∷ p) ≡ component t p
unfolding component
component_there [] n t p e = absurd cc
component_there (u ∷ ts) zero t p e = let same : u ≡ t = cc in ap (λ (v : Ty). component v p) same
component_there (u ∷ ts) (suc n) t p e = component_there ts n t p e

component_row : (ts : List Ty) (n : ℕ) (t : Ty) → slice_get ts n ≡ Some t → component (row ts) (n ∷ []) ≡ Some t
unfolding component
component_row ts n t e = component_there ts n t [] e

get_more : {X : Type 0} (xs ys : List X) (n : ℕ) (x : X) → slice_get xs n ≡ Some x → slice_get (xs ++ ys) n ≡ Some x
get_more [] ys n x e = absurd cc
get_more (z ∷ xs) ys zero x e = e
get_more (z ∷ xs) ys (suc n) x e = get_more xs ys n x e

-- what stands in no procedure has no frames around it
pub none_around : (m : TypedModule) (level : ℕ) (w : Option Which) → w ≡ None → kinds_around m level w ≡ []
none_around m level w e = ap (λ (o : Option Which). kinds_around m level o) e ∙ by level where
  by : (k : ℕ) → kinds_around m k None ≡ []
  by zero = refl
  by (suc k) = by k

module _ (fs : List (List ℕ × Module)) (files : List ℕ) (jobs : List (List ℕ)) (starts : List ℕ)
    (graph : IsGraph (number_files 0 fs) files jobs starts) (each : CompileEach (number_files 0 fs) files)
    (fit : list_all fits_module (trees_of fs) ≡ true)
    (p : Program) (bodies : AreBodiesIn (trees_of fs) files jobs starts p) (pages place : ℕ) (m : TypedModule)
    (there : slice_get p place ≡ Some m) (b : IsBodyOf (trees_of fs) files jobs m) where
  abbrev trees : List Module
  trees = trees_of fs

  abbrev Made : Table → Type 0
  Made u = IsMade fs files jobs starts graph each fit u

  abbrev ts : List Table
  ts = tables_for trees files jobs b

  abbrev x : Context
  x = placed_at p pages place m

  part : IsPart fs files jobs starts graph each fit m b.tree b.job ts
  part = part_of fs files jobs starts graph each fit m b

  at_place : IsCoherent p place m
  at_place = coherent_at fs files jobs starts graph each fit p bodies place m there

  -- ---- one table that is open

  module _ (u : Table) (k : ℕ) (its_place : slice_get ts k ≡ Some u) (table : IsTable m.types.home u)
      (imported : list_any (λ (i : Imported). i.number == u.number) m.imports ≡ true) where
    not_own : is_own m u.number ≡ false
    not_own = table.other

    known : IsKnown m u.number
    known = or_right (is_own m u.number) (list_any (λ (i : Imported). i.number == u.number) m.imports) imported

    import : Import m u.number
    import = import_of m u.number not_own known

    made_at_place : (j : ℕ) (w : Table) → slice_get ts j ≡ Some w → same_name w.name (codes "Console") ≡ false → Made w
    made_at_place j w e n = elim (got (λ (w : Table). (same_name w.name (codes "Console") ≡ true) ⊎ Made w) ts part.made
        j w e) [
          | inl c ↦ absurd (let clash : true ≡ false = sym c ∙ n in cc)
          | inr h ↦ h
        ]

    made : Made u
    made = made_at_place k u its_place table.named

    of_import : IsImportOf Made m.types import.import
    of_import = got (IsImportOf Made m.types) m.imports part.imports (import_place m u.number) import.import
        import.there

    its_table : of_import.table ≡ u
    its_table = one_table fs files jobs starts graph each fit of_import.table u of_import.made made
        (of_import.number_is ∙ import.number)

    home : HasHome fs files jobs starts graph each fit p bodies u
    home = subst (λ (w : Table). HasHome fs files jobs starts graph each fit p bodies w) its_table
        (home_of fs files jobs starts graph each fit p bodies place m there (import_place m u.number) import.import
        import.there of_import)

    import_as : IsAs ts import.import
    import_as = made_of_table ts import.import
        (got (IsWithin ts) m.imports part.within (import_place m u.number) import.import import.there) k u its_place
        (sym of_import.name_is ∙ ap (λ (w : Table). w.name) its_table)

    variables_are : import.import.variables ≡ exported_variables u.exported
    variables_are =
        let number : import_as.table.number ≡ u.number = ap (λ (i : Imported). i.number) (sym import_as.is)
        ∙ import.number in
        let same : import_as.table ≡ u = one_table fs files jobs starts graph each fit import_as.table u
        (made_at_place import_as.place import_as.table import_as.there import_as.named) made number in
        ap (λ (i : Imported). i.variables) import_as.is ∙ ap (λ (w : Table). exported_variables w.exported) same

    has : HasReached m.types u.reached
    has = got (λ (w : Table). HasReached m.types w.reached) ts part.has k u its_place

    formed : TableFormed (its_types fs files jobs starts graph each fit) (suc u.number) u
    formed = (tables_same trees files jobs fit u.number u made.1).1

    knows : Knows p m import.import
    knows = each_at (Knows p m) m.imports (import_place m u.number) import.import import.there at_place.imports

    -- ---- variables

    variable_at : (v : Variable) → v.home ≡ u.number → slice_get (exported_variables u.exported) v.number ≡ Some v.of
        → IsVariable x v (tree m.types v.of)
    variable_at v e h =
        let number : slice_get import.import.variables v.number ≡ Some v.of =
        ap (λ (us : List TypeNo). slice_get us v.number) variables_are ∙ h in
        let mine : slice_get (map (tree m.types) import.import.variables) v.number ≡ Some (tree m.types v.of) =
        mapped_at (tree m.types) import.import.variables v.number v.of number in
        let its : slice_get (map (tree knows.home.types) knows.home.variables) v.number ≡ Some (tree m.types v.of)
        = ap (λ (us : List Ty). slice_get us v.number) knows.variables
        ∙ get_more (map (tree m.types) import.import.variables) knows.more v.number (tree m.types v.of) mine in
        let base : slice_get (map module_type p) (module_place p v.home) ≡ Some (module_type knows.home)
        = mapped_at module_type p (module_place p v.home) knows.home
        (ap (λ (n : ℕ). slice_get p (module_place p n)) (e ∙ sym import.number) ∙ knows.there) in
        record {
          known = subst (λ (n : ℕ). IsKnown m n) (sym e) known;
          type =
              ap (λ (n : ℕ). component (variables_row m n) (v.number ∷ [])) e
              ∙ (ap (λ (c : Bool). component (cond c (module_row m)
              (imported_row m.types (slice_get m.imports (import_place m u.number)))) (v.number ∷ [])) not_own
              ∙ (ap (λ (o : Option Imported). component (imported_row m.types o) (v.number ∷ [])) import.there
              ∙ component_row (map (tree m.types) import.import.variables) v.number (tree m.types v.of) mine));
          there =
              component_there (map module_type p) (module_place p v.home) (module_type knows.home) (v.number ∷ []) base
              ∙ component_row (map (tree knows.home.types) knows.home.variables
              ++ Hidden (characters (module_texts knows.home)) ∷ []) v.number (tree m.types v.of)
              (get_more (map (tree knows.home.types) knows.home.variables)
              (Hidden (characters (module_texts knows.home)) ∷ []) v.number (tree m.types v.of) its);
        }

    -- ---- procedures

    abbrev alone : Types
    alone = only (its_types fs files jobs starts graph each fit) (suc u.number) u formed

    procedure_at : (f : Procedure) → f.home ≡ u.number
        → slice_get (exported_headings u.exported) f.number ≡ Some f.heading
        → MeaningOrdered alone (meaning.Procedure f) → IsNamed x f
    procedure_at f e h k =
        let r = home.heads f.number f.heading h in
        let its = same_heading (its_types fs files jobs starts graph each fit) (suc u.number) u formed home.home.types
        home.ordered home.has f.heading k in
        let mine = same_heading (its_types fs files jobs starts graph each fit) (suc u.number) u formed m.types
        part.ordered has f.heading k in
        record {
          known = subst (λ (n : ℕ). IsKnown m n) (sym e) known;
          home = home.home;
          there = ap (λ (n : ℕ). slice_get p (module_place p n)) e ∙ home.there;
          routine = r.0;
          is = r.1;
          outermost = none_around home.home r.0.level r.0.around
              (each_at (λ (z : Routine). z.around ≡ None) home.home.procedures f.number r.0 r.1 home.outermost);
          forms = ap (λ (t : TypeNo). forms_of home.home.types t) r.2 ∙ (its.0 ∙ sym mine.0);
          result = ap (λ (t : TypeNo). result_of home.home.types t) r.2 ∙ (its.1 ∙ sym mine.1);
          heading = ap (λ (t : TypeNo). heading_at home.home.types t) r.2 ∙ (its.2 ∙ sym mine.2);
        }

    -- ---- all that it exports

    module _ (opens : ℕ → Bool) where
      -- it is there, also where it is imported
      abbrev ExportStands : Meaning → Type 0
      ExportStands v = MeaningThere x opens 0 v × MeaningElse x opens 0 [] v

      export_stands : (v : Meaning) → IsExport u.number v → IsNumbered (exported_headings u.exported) v
          → IsPlaced (exported_variables u.exported) v → MeaningOrdered alone v → MeaningRanged m.types v
          → MeaningWord v → ExportStands v
      export_stands (meaning.Constant v) e n s o r w = (((r, w), tt), tt)
      export_stands (meaning.Type t i) e n s o r w = ((tt, tt), tt)
      export_stands (meaning.Variable v) e n s o r w = let k : IsVariable x v (tree m.types v.of) = variable_at v e s in
          ((k, tt), λ z. k)
      export_stands (meaning.Local v) e n s o r w = absurd e
      export_stands (meaning.Field f) e n s o r w = absurd e
      export_stands (meaning.Procedure f) e n s o r w = let k : IsNamed x f = procedure_at f e n o in ((k, tt), k)
      export_stands (meaning.LocalProcedure f) e n s o r w = absurd e
      export_stands meaning.Ahead e n s o r w = absurd e
      export_stands (meaning.Standard f) e n s o r w = ((tt, tt), tt)
      export_stands (meaning.Module j) e n s o r w = absurd e

      exports_stand : (es : List (List ℕ × Meaning)) → AreExports u.number es
          → AreNumberedBy (exported_headings u.exported) es → ArePlacedBy (exported_variables u.exported) es
          → ExportsOrdered alone es → ExportsRanged m.types es → ExportsWords es
          → AllByRecursion (λ e. ExportStands e.1) es
      exports_stand [] e n s o r w = tt
      exports_stand (v ∷ es) e n s o r w = (
        export_stands v.1 e.0 n.0 s.0 o.0 r.0 w.0,
        exports_stand es e.1 n.1 s.1 o.1
            r.1 w.1,
      )

      pub table_stands : AllByRecursion (λ e. ExportStands e.1) u.exported
      table_stands =
          let d : IsDefined trees files jobs fit u.number u = defined_by trees files jobs fit u.number u made.1 in
          let stand : ExportsStand u.number u.exported =
          (tables_stand trees files jobs fit u.number u made.1).exports in
          exports_stand u.exported table.exports
          (if_ok (λ (t : Table). AreNumberedBy (exported_headings t.exported) t.exported)
          (types.definition_table least u.number d.tree (tables_of (needed_of trees files jobs u.number))) u
          (tables_number least u.number d.tree (tables_of (needed_of trees files jobs u.number))) d.compiled_to)
          stand.variables (formed.exports alone
          (only_has (its_types fs files jobs starts graph each fit) (suc u.number) u formed)).0
          (formed.exports m.types has).1 stand.words
