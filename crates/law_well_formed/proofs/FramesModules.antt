-- Whole modules.
use Rattle.std.proofs.Common.{◌≡◌, ℕ, zero, suc, ◌==◌, Bool, List, [], ◌∷◌, ◌++◌, length, Option, Some, None, Result, Ok, Err, refl, sym, ap, subst, ◌∙◌, arith}
use Rattle.std.specs.Prelude.{map, slice_get, All}
use Rattle.std.specs.List.{fold, AllByRecursion}
use Rattle.std.proofs.lemmas.Option.{same_Some}
use Rattle.m2_rule.specs.declared.rule.Rule.TheVariants as rule
use Rattle.m2_tree.specs.declared.stmt.Stmt.{Stmt}
use Rattle.m2_tree.specs.declared.decl.Decl.{Decl}
use Rattle.m2_tree.specs.declared.decl.Block.{Block, out-Block}
use Rattle.m2_tree.specs.declared.decl.Contents.{Contents}
use Rattle.m2_tree.specs.declared.decl.Contents.TheVariants as contents
use Rattle.m2_tree.specs.declared.decl.Module.{Module}
use Rattle.typed_tree.specs.declared.meaning.Meaning.{Meaning}
use Rattle.typed_tree.specs.declared.statement.TypedStmt.{TypedStmt}
use Rattle.typed_tree.specs.declared.table.Table.{Table}
use Rattle.typed_tree.specs.declared.typed_module.Routine.{Routine}
use Rattle.typed_tree.specs.declared.typed_module.TypedModule.{TypedModule}
use Rattle.typed_tree.specs.declared.typed_module.Which.TheVariants as which
use Rattle.typed_tree.specs.declared.types.TypeNo.{TypeNo}
use Rattle.typed_tree.specs.Names.{find_name}
use Rattle.check_scope.specs.Elaborated.{Gathers, both, beside, ◌▷◌}
use Rattle.check_scope.specs.Scopes.{State}
use Rattle.check_scope.specs.declared.known.Known.{Known}
use Rattle.check_scope.specs.declared.scope.Block.{Block as Around}
use Rattle.check_scope.specs.declared.scope.Scope.{Scope}
use Rattle.check_definition.specs.Predeclared.{predeclared_block, console, first_scope}
use Rattle.check_definition.specs.Importing.{numbered_modules, with_import}
use Rattle.check_definition.specs.Again.{Passing}
use Rattle.check_block.specs.Nesting.{procedure_ends}
use Rattle.check_block.specs.Naming.{with_marks}
use Rattle.check_block.specs.Declarations.{Course, Declared, reported_of_lack}
use Rattle.check_block.specs.Headings.{name_standing}
use Rattle.check_body.specs.Imports.{all_imports, typed_imports}
use Rattle.check_body.specs.Own.{exported_headings, implementation_scope}
use Rattle.check_body.specs.Routines.{empty_routine, no_bodies, typed_module}
use Rattle.check_body.specs.declared.procedure.Walk.{Walk}
use Rattle.check_body.specs.Elaborating.{Elaborates, statements_of}
use Rattle.check_body.specs.Bodies.{Checked, Steps, steps, marked_by, declared_by, again_by, with_statements, bodies_checked}
use Rattle.check_body.specs.Checked.{module_or, walk_body, of_body, of_implementation, of_contents}
use Rattle.check_body.specs.Checks.{elaborate_body, body_module}
use Rattle.law_well_formed.specs.Formed.{Holds, fine, broken}
use Rattle.law_well_formed.proofs.Basics.{reported_holds}
use Rattle.law_well_formed.specs.FormedScopes.{Leads}
use Rattle.law_well_formed.proofs.ScopesGrowth.{leads_then}
use Rattle.law_well_formed.proofs.ScopesDeclarations.{beside_left}
use Rattle.law_well_formed.proofs.ScopesImports.{imports_lead, OpenTables, OpensAll}
use Rattle.law_well_formed.proofs.ImportsLists.{all_each}
use Rattle.law_well_formed.proofs.NamedTables.{import_keeps}
use Rattle.law_well_formed.specs.FormedBodies.{FormsStatements, Keeps}
use Rattle.law_well_formed.proofs.Parts.{AreSteps, nothing_at, no_home, nothing_open, all_marks, all_again, all_lead}
use Rattle.law_well_formed.proofs.BodiesBlocks.{from, all_keep, checked_reported}
use Rattle.law_well_formed.proofs.Induction.{elaborated_formed}
use Rattle.law_well_formed.specs.FormedModules.{AreForOwn, AreFor}
use Rattle.law_well_formed.proofs.Heads.{AwaitsOwn, awaits_kept, ModuleHeadsIn, heads_in}
use Rattle.law_well_formed.proofs.ModulesProcedures.{Headings, AreOutermost, NumbersIn, Stands, Goes, all_go}
use Rattle.law_well_formed.proofs.Opens.{open_in, opens_all}
use Rattle.law_well_formed.proofs.ModulesSteps.{declared_is, bodies_are}
use Rattle.law_well_formed.proofs.ModulesBegins.{own_await, open_tables}
use Rattle.law_well_formed.proofs.WholeModules.{Starts}
use Rattle.law_well_formed.specs.FormedFrames.{IsNested, AreNested}
use Rattle.law_well_formed.proofs.FramesProcedures.{NestsIn, in_module, in_local, AreApart, Nested, all_nested, total, are_steps, they_nest, numbers_in}

-- ---- lists

each_place : {X : Type 0} (P : X → Type 0) (xs : List X) → ((n : ℕ) (x : X) → slice_get xs n ≡ Some x → P x)
    → AllByRecursion P xs
each_place P [] k = tt
each_place P (x ∷ xs) k = (k 0 x refl, each_place P xs (λ n y e. k (suc n) y e))

all_places : {X : Type 0} (P : X → Type 0) (xs : List X) → ((n : ℕ) (x : X) → slice_get xs n ≡ Some x → P x) → All P xs
all_places P xs k = all_each P xs (each_place P xs k)

-- ---- procedures whose bodies are not checked yet

unfilled_outermost : (hs : List TypeNo) → AreOutermost (map empty_routine hs)
unfilled_outermost [] n r e = absurd cc
unfilled_outermost (h ∷ hs) zero r e = ap (λ (x : Routine). x.level) (sym (same_Some (empty_routine h) r e))
unfilled_outermost (h ∷ hs) (suc n) r e = unfilled_outermost hs n r e

unfilled_apart : (hs : List TypeNo) → AreApart None (map empty_routine hs)
unfilled_apart [] n r e = absurd cc
unfilled_apart (h ∷ hs) zero r e = ap (λ (x : Routine). x.around) (sym (same_Some (empty_routine h) r e))
unfilled_apart (h ∷ hs) (suc n) r e = unfilled_apart hs n r e

unfilled_headings : (hs : List TypeNo) → Headings hs (map empty_routine hs)
unfilled_headings [] n t e = absurd cc
unfilled_headings (h ∷ hs) zero t e = (empty_routine h, refl, same_Some h t e)
unfilled_headings (h ∷ hs) (suc n) t e = unfilled_headings hs n t e

module _ (g : Gathers) (elaborates : Elaborates g.Reported) (forms : FormsStatements g elaborates)
    (s : Scope g.Reported) (m : Module) (decls : List Decl) (body : Option (List Stmt)) (ends : List ℕ)
    (counted : ends ≡ procedure_ends decls) where
  abbrev modules : List (List ℕ × ℕ)
  modules = (numbered_modules s.tables).0

  abbrev imported : State (Unit {0}) g.Reported
  imported = fold (with_import g modules) (s, Ok tt) m.imports

  abbrev xs : List (Steps g.Reported)
  xs = map (steps g elaborates ends) decls

  abbrev ps : AreSteps g elaborates ends xs (total g elaborates forms ends decls)
  ps = are_steps g elaborates forms ends decls

  abbrev marks : Scope g.Reported × List ℕ
  marks = fold (with_marks marked_by) (imported.0, []) xs

  abbrev course : Course g.Reported
  course = fold declared_by (marks.0, imported.1, 0) xs

  abbrev passing : Passing g.Reported
  passing = fold (again_by course.0) (course.1, length imported.0.own) xs

  abbrev start : Walk g.Reported
  start = record {
    scope = course.0;
    so_far = beside g passing.0 (reported_of_lack g m.name.pos course.0);
    bodies =
        no_bodies course.0.procedures;
  }

  abbrev end : Walk g.Reported
  end = from g elaborates ends None marks.1 (start, 0) xs

  abbrev other : TypedModule
  other = nothing_at marks.0.types.home

  course_leads : Leads other nothing_open marks.0 course.0
  course_leads = all_lead g elaborates ends other nothing_open ps (marks.0, imported.1, 0) (no_home marks.0.types.home)

  marks_lead : (t : TypedModule) (opens : ℕ → Bool) → Leads t opens imported.0 marks.0
  marks_lead t opens = all_marks g elaborates ends t opens ps (imported.0, [])

  end_keeps : Keeps start.scope end.scope
  end_keeps = all_keep g elaborates ends None marks.1 ps (start, 0)

  imported_keeps : ◌≡◌ {A = List Table × ℕ} (imported.0.tables, imported.0.types.home) (s.tables, s.types.home)
  imported_keeps = import_keeps g modules m.imports (s, Ok tt)

  start_tables : start.scope.tables ≡ s.tables
  start_tables = course_leads.tables ∙ (marks_lead other nothing_open).tables
      ∙ ap (λ (p : List Table × ℕ). p.0) imported_keeps

  start_home : start.scope.types.home ≡ s.types.home
  start_home = course_leads.home ∙ (marks_lead other nothing_open).home
      ∙ ap (λ (p : List Table × ℕ). p.1) imported_keeps

  end_home : s.types.home ≡ end.scope.types.home
  end_home = sym (end_keeps.home ∙ start_home)

  module _ (own : Option Table) (ys : List TypedStmt) (tables : List Table) (es : List (List ℕ × Meaning))
      (starts : Starts s tables es) (ok : end.so_far ≡ Ok tt) where
    abbrev made : TypedModule
    made = typed_module end.scope modules own m end.bodies ys

    abbrev opens : ℕ → Bool
    opens = open_in s.tables made.imports

    tables_open : OpenTables made opens g s.tables
    tables_open = open_tables made g s.types.home end_home tables s.tables starts.tables_are starts.others

    imports_open : OpensAll made opens g modules m.imports
    imports_open =
        subst (λ (us : List Table). OpensAll made
        (open_in s.tables (typed_imports modules us (all_imports modules us own m.imports))) g modules m.imports)
        (sym (end_keeps.tables ∙ start_tables))
        (opens_all modules s.tables made g own m.imports)

    imports_leads : Leads made opens s imported.0
    imports_leads = imports_lead made opens g modules m.imports (s, Ok tt) tables_open imports_open

    marked_leads : Leads made opens s marks.0
    marked_leads = leads_then made opens imports_leads (marks_lead made opens)

    begun_awaits : AwaitsOwn s
    begun_awaits name p e =
        let k = own_await g.Reported s.types.home (exported_headings es) es starts.exports starts.numbers name p
        (ap (λ (ns : List (List ℕ × Known g.Reported)). name_standing (find_name name ns)) (sym starts.own) ∙ e) in
        (k.0, ap (λ (hs : List TypeNo). slice_get hs p.number) starts.procedures ∙ k.1)

    course_ok : course.1 ≡ Ok tt
    course_ok = all_again g elaborates ends ps course.0 (course.1, length imported.0.own)
        (beside_left g passing.0 (reported_of_lack g m.name.pos course.0)
        (checked_reported g elaborates ends None marks.1 ps (start, 0) ok))

    heads : ModuleHeadsIn g elaborates ends course.0.own course.0.types course.0.procedures ps
    heads = heads_in g elaborates ends course.0.own course.0.types course.0.procedures ps (marks.0, imported.1, 0)
        course.0 refl refl refl refl
        (ap (λ (n : ℕ). n == 0) marked_leads.level ∙ starts.level)
        (awaits_kept g made opens s marks.0 marked_leads begun_awaits) course_ok

    start_outer : start.scope.outer ≡ predeclared_block ∷ []
    start_outer = course_leads.outer ∙ marked_leads.outer ∙ starts.outer

    stands : Stands g elaborates ends None course.0.own course.0.types course.0.procedures start 0
    stands = record {
      names = refl;
      outermost = ap (λ (n : ℕ). n == 0) (course_leads.level ∙ marked_leads.level) ∙ starts.level;
      single = ap (λ (bs : List (Around g.Reported)). length bs) start_outer;
      count = refl;
      grown = λ t y e. e;
    }

    numbers : NumbersIn g elaborates ends None 0 ps
    numbers = numbers_in g elaborates forms ends None decls counted

    goes : Goes g elaborates ends None course.0.own course.0.types course.0.procedures start end
    goes = all_go g elaborates ends None course.0.own course.0.types course.0.procedures marks.1 ps (start, 0) 0 stands
        heads numbers ok

    nested : Nested g elaborates ends None course.0.own course.0.types course.0.procedures start end
    nested = all_nested g elaborates ends None course.0.own course.0.types course.0.procedures marks.1 ps
        (they_nest g elaborates forms ends decls) (start, 0) 0 stands heads numbers ok

    headings : Headings course.0.procedures end.bodies.procedures
    headings = goes.headings (unfilled_headings course.0.procedures)

    levels : AreOutermost end.bodies.procedures
    levels = goes.outermost (unfilled_outermost course.0.procedures)

    inside_by : (r : Routine) → NestsIn course.0.procedures end.bodies.locals r → IsNested made r
    inside_by r (in_module k t e p q) =
        let there = headings k t e in
        record {
          which = which.Module k;
          routine = there.0;
          around = p;
          there = there.1;
          level = q
              ∙ ap suc (sym (levels k there.0 there.1));
        }
    inside_by r (in_local k x e p q) = record { which = which.Local k; routine = x; around = p; there = e; level = q }

    pub procedures_nested : AreNested made
    procedures_nested = record {
      outermost = all_places (λ (r : Routine). r.around ≡ None) end.bodies.procedures
          (nested.apart (unfilled_apart course.0.procedures));
      inside = all_places (IsNested made) end.bodies.locals (λ n r e. inside_by r (nested.nests n r (omega arith) e));
    }

module _ (g : Gathers) where
  both_nested : (a : Result (Unit {0}) g.Reported) (r : Result (List TypedStmt) g.Reported)
      (f : List TypedStmt → TypedModule) → ((ys : List TypedStmt) → a ≡ Ok tt → AreNested (f ys))
      → Holds AreNested (both g a r ▷ λ p. Ok (f p.1))
  both_nested (Ok u) (Ok ys) f k = fine (f ys) (k ys refl)
  both_nested (Ok u) (Err e) f k = broken e
  both_nested (Err e) (Ok ys) f k = broken e
  both_nested (Err e) (Err x) f k = broken (g.join e x)

  module _ (elaborates : Elaborates g.Reported) (forms : FormsStatements g elaborates) (s : Scope g.Reported)
      (own : Option Table) (m : Module) (b : Block) where
    abbrev ds : List Decl
    ds = (out-Block b).decls

    abbrev body : Option (List Stmt)
    body = (out-Block b).body

    abbrev behind : Declared g.Reported → Checked g.Reported
    behind d =
        with_statements elaborates None body
        (bodies_checked g elaborates (procedure_ends ds) None d.2
        (record {
          scope = d.0;
          so_far = beside g d.1 (reported_of_lack g m.name.pos d.0);
          bodies =
              no_bodies d.0.procedures;
        }) ds)

    abbrev last : Walk g.Reported
    last = end g elaborates forms s m ds body (procedure_ends ds) refl

    walk_is : ◌≡◌ {A = Checked g.Reported}
        (walk_body g elaborates (numbered_modules s.tables).0 (procedure_ends ds) s m b)
        (last, statements_of elaborates last.scope None body)
    walk_is =
        ap behind (declared_is g elaborates forms (procedure_ends ds)
        (imported g elaborates forms s m ds body (procedure_ends ds) refl) 0 ds)
        ∙ ap (λ (w : Walk g.Reported). with_statements elaborates None body w)
        (bodies_are g elaborates forms (procedure_ends ds) None
        (marks g elaborates forms s m ds body (procedure_ends ds) refl).1
        (start g elaborates forms s m ds body (procedure_ends ds) refl) ds)

    of_body_nested : (tables : List Table) (es : List (List ℕ × Meaning)) → Starts s tables es
        → Holds AreNested (of_body g elaborates s own m b)
    of_body_nested tables es starts =
        subst (λ (c : Checked g.Reported). Holds AreNested (module_or g (numbered_modules s.tables).0 own m c))
        (sym walk_is)
        (both_nested last.so_far (statements_of elaborates last.scope None body)
        (λ ys. typed_module last.scope (numbered_modules s.tables).0 own m last.bodies ys)
        (λ ys ok. procedures_nested g elaborates forms s m ds body (procedure_ends ds) refl own ys tables es starts ok))

  module _ (elaborates : Elaborates g.Reported) (forms : FormsStatements g elaborates) (number : ℕ) (m : Module)
      (tables : List Table) where
    implementation_nested : (own : Option Table) (b : Block) → AreForOwn own tables
        → Holds AreNested (of_implementation g elaborates m own (tables ++ console ∷ []) b)
    implementation_nested None b k = reported_holds g m.name.pos rule.LonelyModule
    implementation_nested (Some t) b k =
        of_body_nested elaborates forms (implementation_scope t (tables ++ console ∷ [])) (Some t) m b tables t.exported
        (record {
          tables_are = refl;
          outer = refl;
          level = refl;
          withs = refl;
          own = refl;
          procedures = refl;
          exports =
              k.0.exports;
          numbers = k.0.numbers;
          others = k.1;
        })

    contents_nested : (own : Option Table) (c : Contents) → AreFor number own tables c
        → Holds AreNested (of_contents g elaborates number m own (tables ++ console ∷ []) c)
    contents_nested own (contents.Definition defs) k = reported_holds g m.name.pos rule.LonelyModule
    contents_nested own (contents.Implementation b) k = implementation_nested own b k
    contents_nested own (contents.Program b) k =
        of_body_nested elaborates forms (first_scope number (tables ++ console ∷ [])) None m b tables []
        (record {
          tables_are = refl;
          outer = refl;
          level = refl;
          withs = refl;
          own = refl;
          procedures = refl;
          exports =
              tt;
          numbers = tt;
          others = k;
        })

pub modules_nested : (g : Gathers) (number : ℕ) (m : Module) (own : Option Table) (tables : List Table)
    → AreFor number own tables m.contents → Holds AreNested (body_module g number m own tables)
modules_nested g number m own tables k =
    contents_nested g (elaborate_body g) (elaborated_formed g) number m tables own m.contents k
