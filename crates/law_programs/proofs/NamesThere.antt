-- The names of the modules of a graph, put together.
use Rattle.std.proofs.Common.{◌≡◌, ◌⊎◌, inl, inr, ℕ, zero, suc, ◌<◌, ◌==◌, Bool, true, false, ◌||◌, cond, List, [], ◌∷◌, ◌++◌, Option, Some, None, Result, refl, sym, ap, subst, ◌∙◌, arith}
use Rattle.std.specs.Prelude.{slice_get, codes}
use Rattle.std.specs.List.{AllByRecursion, list_any, list_all}
use Rattle.std.proofs.lemmas.Option.{same_Some}
use Rattle.m2_rule.specs.declared.rule.Rule.TheVariants as rule
use Rattle.m2_tree.specs.declared.pos.Pos.{Pos}
use Rattle.m2_tree.specs.declared.name.Ident.{Ident}
use Rattle.m2_tree.specs.declared.decl.Decl.{Decl}
use Rattle.m2_tree.specs.declared.decl.Block.{Block, out-Block}
use Rattle.m2_tree.specs.declared.decl.Contents.{Contents}
use Rattle.m2_tree.specs.declared.decl.Contents.TheVariants as contents
use Rattle.m2_tree.specs.declared.decl.Module.{Module as Tree}
use Rattle.m2_graph.specs.Files.{number_files}
use Rattle.m2_graph.specs.Graph.{IsGraph, CompileEach}
use Rattle.typed_tree.specs.declared.meaning.Meaning.{Meaning}
use Rattle.typed_tree.specs.declared.meaning.Meaning.TheVariants as meaning
use Rattle.typed_tree.specs.declared.meaning.Procedure.{Procedure}
use Rattle.typed_tree.specs.declared.table.Table.{Table}
use Rattle.typed_tree.specs.declared.types.TypeNo.{TypeNo}
use Rattle.typed_tree.specs.declared.typed_module.Imported.{Imported}
use Rattle.typed_tree.specs.declared.typed_module.Routine.{Routine}
use Rattle.typed_tree.specs.declared.typed_module.TypedModule.{TypedModule}
use Rattle.m2_tree.specs.Names.{same_name}
use Rattle.typed_tree.specs.Names.{find_name}
use Rattle.m2_rule.specs.declared.breach.Breach.{Breach}
use Rattle.check_scope.specs.declared.known.Known.{Known}
use Rattle.check_scope.specs.declared.known.Known.TheVariants.{Later, Ahead, Begun, Headed, Declared}
use Rattle.check_scope.specs.declared.known.Origin.{Origin}
use Rattle.check_scope.specs.declared.known.Origin.TheVariants.{Here, Module, Export}
use Rattle.check_scope.specs.declared.scope.Block.{Block as Around}
use Rattle.check_scope.specs.declared.scope.Scope.{Scope}
use Rattle.check_scope.specs.Elaborated.{least}
use Rattle.check_const.specs.Denote.{exported_by, export_of, exported_meaning}
use Rattle.layout_storage.specs.Types.{Hidden}
use Rattle.layout_storage.specs.Texts.{characters, module_texts}
use Rattle.check_definition.specs.Predeclared.{console, first_scope}
use Rattle.check_definition.specs.Importing.{numbered_modules, exports_of}
use Rattle.check_block.specs.Nesting.{procedure_ends}
use Rattle.check_body.specs.Own.{implementation_scope}
use Rattle.check_body.specs.Checks.{elaborate_body}
use Rattle.def_meaning.specs.Environment.{module_place}
use Rattle.law_modules.specs.WellFormed.{IsProcedure}
use Rattle.law_modules.specs.Linked.{Program}
use Rattle.law_memory.specs.Relation.{heading_at}
use Rattle.law_simulation.specs.Passing.{forms_of, result_of}
use Rattle.law_simulation.specs.RunsPrograms.{module_type}
use Rattle.law_simulation.specs.TreesTyped.{Context, IsNamed}
use Rattle.law_simulation.specs.Knows.{IsCoherent}
use Rattle.law_simulation.proofs.Globals.{each_at}
use Rattle.law_modules.proofs.Numbers.{mapped_at}
use Rattle.law_well_formed.specs.Formed.{Holds, fine, broken}
use Rattle.law_well_formed.proofs.Basics.{reported_holds}
use Rattle.law_well_formed.specs.FormedScopes.{FormedOwn, FormedFrom, FormedKnown, AreFormedNames}
use Rattle.law_well_formed.proofs.ScopesDeclarations.{same_home}
use Rattle.law_well_formed.proofs.ScopesImports.{OpensAll}
use Rattle.law_well_formed.proofs.Induction.{elaborated_formed}
use Rattle.law_well_formed.specs.FormedModules.{IsTable, AreTables, AreForOwn, AreFor}
use Rattle.law_well_formed.proofs.Opens.{open_in}
use Rattle.law_well_formed.specs.FormedKnown.{fits_module}
use Rattle.build_jobs.specs.Own.{tables_behind}
use Rattle.law_programs.specs.FormedCoherent.{trees_of, IsBodyOf, AreBodiesIn}
use Rattle.law_programs.specs.Names.{HasInstance, MeaningElse, KnownElse, NamesElse}
use Rattle.law_programs.specs.TypingBodies.{MeaningThere, BlocksThere}
use Rattle.law_programs.specs.TypingNames.{is_open_table, is_open, declared_of, NamesStand, needed_tables, own_of, tables_for, BodyNamed, placed_at}
use Rattle.law_programs.proofs.Preserved.{IsOuter, BroughtFrom, KnownBrought, NamesBrought}
use Rattle.law_programs.proofs.Brought.{own_brought, IsBrought, module_brought}
use Rattle.law_programs.proofs.Begun.{HasBegun, BegunAt}
use Rattle.law_programs.proofs.Around.{around_there}
use Rattle.law_programs.proofs.Whole.{got, IsPart, for_it, begun, part_of, coherent_at}
use Rattle.law_programs.proofs.Exports.{none_around, table_stands}

-- ---- tables, and that of Console behind them

behind_or_console : {X : Type 0} (xs : List X) (x : X) (k : ℕ) (u : X) → slice_get (xs ++ x ∷ []) k ≡ Some u
    → (slice_get xs k ≡ Some u) ⊎ (u ≡ x)
behind_or_console [] x zero u e = inr (sym (same_Some x u e))
behind_or_console [] x (suc k) u e = absurd cc
behind_or_console (y ∷ xs) x zero u e = inl e
behind_or_console (y ∷ xs) x (suc k) u e = behind_or_console xs x k u e

imported_if : (a b : Bool) → a ≡ false → (a || b) ≡ true → b ≡ true
imported_if true b e h = absurd cc
imported_if false b e h = h

module _ (fs : List (List ℕ × Tree)) (files : List ℕ) (jobs : List (List ℕ)) (starts : List ℕ)
    (graph : IsGraph (number_files 0 fs) files jobs starts) (each : CompileEach (number_files 0 fs) files)
    (fit : list_all fits_module (trees_of fs) ≡ true)
    (p : Program) (bodies : AreBodiesIn (trees_of fs) files jobs starts p) (pages place : ℕ) (m : TypedModule)
    (there : slice_get p place ≡ Some m) (b : IsBodyOf (trees_of fs) files jobs m) where
  abbrev trees : List Tree
  trees = trees_of fs

  abbrev own : Option Table
  own = own_of trees files jobs b

  abbrev imported : List Table
  imported = tables_behind own (needed_tables trees files jobs b)

  abbrev ts : List Table
  ts = tables_for trees files jobs b

  abbrev x : Context
  x = placed_at p pages place m

  abbrev opens : ℕ → Bool
  opens = is_open ts m.imports

  part : IsPart fs files jobs starts graph each fit m b.tree b.job ts
  part = part_of fs files jobs starts graph each fit m b

  at_place : IsCoherent p place m
  at_place = coherent_at fs files jobs starts graph each fit p bodies place m there

  here : slice_get p (module_place p m.types.home) ≡ Some m
  here = ap (λ (k : ℕ). slice_get p k) at_place.own ∙ there

  instance : HasInstance x
  instance = record {
    behind = Hidden (characters (module_texts m)) ∷ [];
    there =
        mapped_at module_type p (module_place p m.types.home) m here;
  }

  -- ---- its own names

  own_named : (f : Procedure) → IsProcedure m f → f.home ≡ m.types.home → IsNamed x f
  own_named f q e =
      let r = q.own (same_home f.home m.types.home e) in
      record {
        known = q.known;
        home = m;
        there = ap (λ (n : ℕ). slice_get p (module_place p n)) e ∙ here;
        routine = r.0;
        is = r.1;
        outermost = none_around m r.0.level r.0.around
            (each_at (λ (z : Routine). z.around ≡ None) m.procedures f.number r.0 r.1 part.outermost);
        forms = ap (λ (t : TypeNo). forms_of m.types t) r.2;
        result = ap (λ (t : TypeNo). result_of m.types t) r.2;
        heading = ap (λ (t : TypeNo). heading_at m.types t) r.2;
      }

  own_else : (v : Meaning) → FormedOwn m opens v → IsOuter v → MeaningElse x opens 0 [] v
  own_else (meaning.Constant v) h o = tt
  own_else (meaning.Type t n) h o = tt
  own_else (meaning.Variable v) h o = λ other. absurd (other h.1)
  own_else (meaning.Local v) h o = tt
  own_else (meaning.Field f) h o = absurd (let l : f.with < 0 = h.0 in omega (arith, l))
  own_else (meaning.Procedure f) h o = own_named f h.0 h.1
  own_else (meaning.LocalProcedure f) h o = absurd o
  own_else meaning.Ahead h o = tt
  own_else (meaning.Standard f) h o = tt
  own_else (meaning.Module k) h o = absurd h.1

  result_else : {E : Type 0} {r : Result Meaning E} → Holds (FormedOwn m opens) r → Holds IsOuter r
      → Holds (MeaningElse x opens 0 []) r
  result_else (fine v h) (fine w o) = fine v (own_else v h o)
  result_else (broken e) o = broken e

  from_else : {E : Type 0} (o : Origin) (r : Result Meaning E) → FormedFrom m opens o r
      → BroughtFrom (MeaningElse x opens 0 []) o r → Holds (MeaningElse x opens 0 []) r
  from_else Here r h q = result_else h q
  from_else (Module k) r h q = q
  from_else (Export k) r h q = q

  known_else : {E : Type 0} (k : Known E) → FormedKnown m opens k → KnownBrought (MeaningElse x opens 0 []) k
      → KnownElse x opens 0 [] k
  known_else Later h q = tt
  known_else Ahead h q = tt
  known_else Begun h q = tt
  known_else (Headed r) h q = result_else h q
  known_else (Declared o r) h q = from_else o r h q

  names_else : {E : Type 0} (es : List (List ℕ × Known E)) → AreFormedNames m opens es
      → NamesBrought (MeaningElse x opens 0 []) es → NamesElse x opens 0 [] es
  names_else [] h q = tt
  names_else (e ∷ es) h q = (known_else e.1 h.0 q.0, names_else es h.1 q.1)

  -- ---- what open modules export

  abbrev Stands : Meaning → Type 0
  Stands v = MeaningThere x opens 0 v × MeaningElse x opens 0 [] v

  abbrev AllStand : List (List ℕ × Meaning) → Type 0
  AllStand es = AllByRecursion (λ e. Stands e.1) es

  console_stands : AllStand console.exported
  unfolding console
  console_stands = (((tt, tt), tt), tt)

  all_else : (es : List (List ℕ × Meaning)) → AllStand es → AllByRecursion (λ e. MeaningElse x opens 0 [] e.1) es
  all_else [] h = tt
  all_else (e ∷ es) h = (h.0.1, all_else es h.1)

  -- the tables of its imports are those of other modules
  tables_by : (c : Contents) → AreFor b.job own imported c
      → BegunAt least (elaborate_body least) (elaborated_formed least) b.job b.tree own ts m c
      → AreTables m.types.home imported
  tables_by (contents.Definition defs) k h = absurd h
  tables_by (contents.Program block) k h = subst (λ (n : ℕ). AreTables n imported) h.home k
  tables_by (contents.Implementation block) k h =
      let for_own : AreForOwn (Some h.0) imported = subst (λ (o : Option Table). AreForOwn o imported) h.1 k in
      subst (λ (n : ℕ). AreTables n imported) h.2.home for_own.1

  tables : AreTables m.types.home imported
  tables = tables_by b.tree.contents (for_it fs files jobs starts graph each fit m b)
      (begun fs files jobs starts graph each fit m b)

  table_at : (n : ℕ) (u : Table) → slice_get ts n ≡ Some u → is_open_table m.imports (Some u) ≡ true
      → AllStand u.exported
  table_at n u e h = elim (behind_or_console imported console n u e) [
    | inl k ↦ (let t : IsTable m.types.home u = got (IsTable m.types.home) imported tables n u k in
        table_stands fs files jobs starts graph each fit p bodies pages place m there b u n e t
        (imported_if (same_name u.name (codes "Console"))
        (list_any (λ (i : Imported). i.number == u.number) m.imports) t.named h) opens)
    | inr c ↦ subst (λ (w : Table). AllStand w.exported) (sym c) console_stands
  ]

  exports_by : (n : ℕ) (o : Option Table) → slice_get ts n ≡ o → is_open_table m.imports o ≡ true
      → AllStand (exports_of o)
  exports_by n None e h = tt
  exports_by n (Some u) e h = table_at n u e h

  exports_at : (n : ℕ) → opens n ≡ true → AllStand (exports_of (slice_get ts n))
  exports_at n h = exports_by n (slice_get ts n) refl h

  found_by : (at : Pos) (c : Bool) (v : Meaning) (o : Option Meaning) → MeaningThere x opens 0 v
      → Holds (MeaningThere x opens 0) (export_of least at o)
      → Holds (MeaningThere x opens 0) (export_of least at (cond c (Some v) o))
  found_by at true v o h k = fine v h
  found_by at false v o h k = k

  found_there : (at : Pos) (name : List ℕ) (es : List (List ℕ × Meaning)) → AllStand es
      → Holds (MeaningThere x opens 0) (export_of least at (find_name name es))
  found_there at name [] k = reported_holds least at rule.NotExported
  found_there at name (e ∷ es) k = found_by at (same_name name e.0) e.1 (find_name name es) k.0.0
      (found_there at name es k.1)

  member_by : (name : Ident) (o : Option Table) → AllStand (exports_of o)
      → Holds (MeaningThere x opens 0) (export_of least name.pos (exported_by name.name o))
  member_by name None k = reported_holds least name.pos rule.NotExported
  member_by name (Some u) k = found_there name.pos name.name u.exported k

  member_there : (k : ℕ) (name : Ident) → opens k ≡ true
      → Holds (MeaningThere x opens 0) (exported_meaning least ts k name)
  member_there k name h = member_by name (slice_get ts k) (exports_at k h)

  -- ---- the names of the module

  abbrev Brought : Scope Breach → Type 0
  Brought s = IsBrought (MeaningElse x opens 0 []) least opens ts (λ n h. h)
      (λ n h. all_else (exports_of (slice_get ts n)) (exports_at n h)) s

  names_stand : (s : Scope Breach) (body : Block) (es : List (List ℕ × Meaning)) → s.tables ≡ ts → Brought s
      → HasBegun least s b.tree body es m → NamesStand x opens s b.tree body
  names_stand s body es e q h =
      let ds : List Decl = (out-Block body).decls in
      let modules : List (List ℕ × ℕ) = (numbered_modules s.tables).0 in
      let opened : OpensAll m opens least modules b.tree.imports =
      subst (λ (us : List Table). OpensAll m (open_in us m.imports) least modules b.tree.imports) e h.opened in
      let formed : AreFormedNames m opens (declared_of s b.tree body).own =
      subst (λ (us : List Table). AreFormedNames m (open_in us m.imports) (declared_of s b.tree body).own) e h.names
      in
      let all : Brought (declared_of s b.tree body)
      = module_brought (MeaningElse x opens 0 []) least opens ts (λ n h. h)
      (λ n h. all_else (exports_of (slice_get ts n)) (exports_at n h)) m modules (procedure_ends ds) s b.tree ds
      opened q in
      record {
        others = names_else (declared_of s b.tree body).own formed all.names;
        outer = subst (λ (bs : List (Around Breach)). BlocksThere x opens 0 bs) (sym h.outer)
            (around_there x opens Breach);
        members = λ k name g. subst (λ (us : List Table). Holds (MeaningThere x opens 0)
            (exported_meaning least us k name)) (sym all.tables_are) (member_there k name g);
      }

  all_there : (es : List (List ℕ × Meaning)) → AllStand es → AllByRecursion (λ e. MeaningThere x opens 0 e.1) es
  all_there [] h = tt
  all_there (e ∷ es) h = (h.0.0, all_there es h.1)

  exports_there : (k : ℕ) (u : Table) → slice_get ts k ≡ Some u → opens k ≡ true
      → AllByRecursion (λ e. MeaningThere x opens 0 e.1) u.exported
  exports_there k u e h = all_there u.exported
      (table_at k u e (ap (λ (o : Option Table). is_open_table m.imports o) (sym e) ∙ h))

  program_named : (block : Block) → b.tree.contents ≡ contents.Program block
      → NamesStand x opens (first_scope b.job ts) b.tree block
  program_named block e =
      let h : HasBegun least (first_scope b.job ts) b.tree block [] m
      = subst (λ (c : Contents). BegunAt least (elaborate_body least) (elaborated_formed least) b.job b.tree own ts m c)
      e (begun fs files jobs starts graph each fit m b) in
      names_stand (first_scope b.job ts) block [] refl (record { tables_are = refl; outermost = refl; names = tt }) h

  implementation_named : (o : Table) (block : Block) → own ≡ Some o → b.tree.contents ≡ contents.Implementation block
      → NamesStand x opens (implementation_scope o ts) b.tree block
  implementation_named o block q e =
      let found = subst (λ (c : Contents). BegunAt least (elaborate_body least) (elaborated_formed least) b.job b.tree
      own ts m c) e (begun fs files jobs starts graph each fit m b) in
      let h : HasBegun least (implementation_scope o ts) b.tree block o.exported m
      = subst (λ (u : Table). HasBegun least (implementation_scope u ts) b.tree block u.exported m)
      (same_Some found.0 o (sym found.1 ∙ q)) found.2 in
      let k : AreForOwn (Some o) imported
      = subst (λ (w : Option Table). AreForOwn w imported) q
      (subst (λ (c : Contents). AreFor b.job own imported c) e (for_it fs files jobs starts graph each fit m b)) in
      names_stand (implementation_scope o ts) block o.exported refl
      (record {
        tables_are = refl;
        outermost = refl;
        names =
            own_brought (MeaningElse x opens 0 []) Breach o.number o.exported k.0.exports;
      }) h

  pub body_named : BodyNamed trees files jobs b x
  body_named = record {
    own = instance;
    exports = exports_there;
    program = program_named;
    implementation =
        implementation_named;
  }
