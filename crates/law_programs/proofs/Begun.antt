-- The names of a module's block mean what is there, and the module has the procedures that its definition exports.
use Rattle.std.proofs.Common.{◌≡◌, ℕ, zero, suc, ◌==◌, Bool, List, [], ◌∷◌, ◌++◌, length, Option, Some, None, Result, Ok, Err, refl, sym, ap, subst, ◌∙◌}
use Rattle.std.specs.Prelude.{map, slice_get}
use Rattle.std.specs.List.{fold}
use Rattle.std.proofs.lemmas.Option.{same_Some}
use Rattle.m2_rule.specs.declared.rule.Rule.TheVariants as rule
use Rattle.m2_tree.specs.declared.stmt.Stmt.{Stmt}
use Rattle.m2_tree.specs.declared.decl.Decl.{Decl}
use Rattle.m2_tree.specs.declared.decl.Block.{Block, out-Block}
use Rattle.m2_tree.specs.declared.decl.Contents.{Contents}
use Rattle.m2_tree.specs.declared.decl.Contents.TheVariants as contents
use Rattle.m2_tree.specs.declared.decl.Module.{Module}
use Rattle.typed_tree.specs.declared.meaning.Meaning.{Meaning}
use Rattle.typed_tree.specs.declared.statement.TypedStmt.{TypedStmt}
use Rattle.typed_tree.specs.declared.table.Table.{Table}
use Rattle.typed_tree.specs.declared.typed_module.TypedModule.{TypedModule}
use Rattle.typed_tree.specs.declared.types.TypeNo.{TypeNo}
use Rattle.typed_tree.specs.Names.{find_name}
use Rattle.check_scope.specs.Elaborated.{Gathers, both, beside, ◌▷◌}
use Rattle.check_scope.specs.Scopes.{State}
use Rattle.check_scope.specs.declared.known.Known.{Known}
use Rattle.check_scope.specs.declared.scope.Block.{Block as Around}
use Rattle.check_scope.specs.declared.scope.Scope.{Scope}
use Rattle.check_definition.specs.Predeclared.{predeclared_block, console, first_scope}
use Rattle.check_definition.specs.Importing.{numbered_modules, with_import}
use Rattle.check_block.specs.Nesting.{procedure_ends}
use Rattle.check_block.specs.Naming.{with_marks}
use Rattle.check_block.specs.Declarations.{Course, Declared, declared_module, reported_of_lack}
use Rattle.check_block.specs.Headings.{name_standing}
use Rattle.check_body.specs.Imports.{all_imports, typed_imports}
use Rattle.check_body.specs.Own.{exported_headings, implementation_scope}
use Rattle.check_body.specs.Routines.{empty_routine, no_bodies, typed_module}
use Rattle.check_body.specs.declared.procedure.Walk.{Walk}
use Rattle.check_body.specs.Elaborating.{Elaborates, statements_of}
use Rattle.check_body.specs.Bodies.{Checked, Steps, steps, marked_by, declared_by, again_by, with_statements, bodies_checked}
use Rattle.check_body.specs.Checked.{module_or, walk_body, of_body, of_implementation, of_contents, body_module}
use Rattle.law_modules.specs.WellFormed.{IsRoutine}
use Rattle.law_well_formed.specs.Formed.{Holds, fine, broken}
use Rattle.law_well_formed.proofs.Basics.{reported_holds}
use Rattle.law_well_formed.specs.FormedScopes.{AreFormedNames, Leads}
use Rattle.law_well_formed.proofs.ScopesGrowth.{leads_then}
use Rattle.law_well_formed.proofs.ScopesDeclarations.{beside_left}
use Rattle.law_well_formed.proofs.ScopesImports.{OpenTables, OpensAll, imports_lead}
use Rattle.law_well_formed.proofs.NamedTables.{import_keeps}
use Rattle.law_well_formed.specs.FormedBodies.{FormsStatements, Keeps}
use Rattle.law_well_formed.proofs.Parts.{AreSteps, nothing_at, no_home, nothing_open, all_marks, all_again, all_lead}
use Rattle.law_well_formed.proofs.BodiesBlocks.{from, all_keep, checked_reported}
use Rattle.law_well_formed.specs.FormedModules.{AreForOwn, AreFor}
use Rattle.law_well_formed.proofs.Heads.{AwaitsOwn, awaits_kept, ModuleHeadsIn, heads_in, heads_formed}
use Rattle.law_well_formed.proofs.ModulesProcedures.{Headings, NumbersIn, Stands, Goes, all_go}
use Rattle.law_well_formed.proofs.Opens.{open_in, opens_all}
use Rattle.law_well_formed.proofs.ModulesSteps.{declared_is, bodies_are, total, are_steps, numbers_in}
use Rattle.law_well_formed.proofs.ModulesBegins.{own_await, own_formed, open_tables}
use Rattle.law_well_formed.proofs.WholeModules.{Starts}

unfilled_headings : (hs : List TypeNo) → Headings hs (map empty_routine hs)
unfilled_headings [] n t e = absurd cc
unfilled_headings (h ∷ hs) zero t e = (empty_routine h, refl, same_Some h t e)
unfilled_headings (h ∷ hs) (suc n) t e = unfilled_headings hs n t e

-- what is known of a module that begins in this scope, and whose definition exports this
pub record HasBegun (g : Gathers) (s : Scope g.Reported) (m : Module) (b : Block) (es : List (List ℕ × Meaning))
    (made : TypedModule) : Type 0 where
  pub home : s.types.home ≡ made.types.home
  pub opened : OpensAll made (open_in s.tables made.imports) g (numbered_modules s.tables).0 m.imports
  pub names : AreFormedNames made (open_in s.tables made.imports)
      (declared_module g (numbered_modules s.tables).0 (procedure_ends (out-Block b).decls) s m
      (out-Block b).decls).0.own
  pub outer : (declared_module g (numbered_modules s.tables).0 (procedure_ends (out-Block b).decls) s m
      (out-Block b).decls).0.outer ≡ predeclared_block ∷ []
  pub heads : (n : ℕ) (t : TypeNo) → slice_get (exported_headings es) n ≡ Some t → IsRoutine made.procedures n t

module _ (g : Gathers) (elaborates : Elaborates g.Reported) (forms : FormsStatements g elaborates)
    (s : Scope g.Reported) (m : Module) (b : Block) where
  abbrev decls : List Decl
  decls = (out-Block b).decls

  abbrev ends : List ℕ
  ends = procedure_ends decls

  abbrev modules : List (List ℕ × ℕ)
  modules = (numbered_modules s.tables).0

  abbrev imported : State (Unit {0}) g.Reported
  imported = fold (with_import g modules) (s, Ok tt) m.imports

  abbrev xs : List (Steps g.Reported)
  xs = map (steps g elaborates ends) decls

  abbrev ps : AreSteps g elaborates ends xs (total g elaborates forms ends decls)
  ps = are_steps g elaborates forms ends decls

  abbrev marks : Scope g.Reported × List ℕ
  marks = fold (with_marks marked_by) (imported.0, []) xs

  abbrev course : Course g.Reported
  course = fold declared_by (marks.0, imported.1, 0) xs

  abbrev again : Result (Unit {0}) g.Reported
  again = (fold (again_by course.0) (course.1, length imported.0.own) xs).0

  abbrev start : Walk g.Reported
  start = record {
    scope = course.0;
    so_far = beside g again (reported_of_lack g m.name.pos course.0);
    bodies =
        no_bodies course.0.procedures;
  }

  abbrev end : Walk g.Reported
  end = from g elaborates ends None marks.1 (start, 0) xs

  abbrev other : TypedModule
  other = nothing_at marks.0.types.home

  course_leads : Leads other nothing_open marks.0 course.0
  course_leads = all_lead g elaborates ends other nothing_open ps (marks.0, imported.1, 0) (no_home marks.0.types.home)

  marks_lead : (t : TypedModule) (opens : ℕ → Bool) → Leads t opens imported.0 marks.0
  marks_lead t opens = all_marks g elaborates ends t opens ps (imported.0, [])

  end_keeps : Keeps start.scope end.scope
  end_keeps = all_keep g elaborates ends None marks.1 ps (start, 0)

  imported_keeps : ◌≡◌ {A = List Table × ℕ} (imported.0.tables, imported.0.types.home) (s.tables, s.types.home)
  imported_keeps = import_keeps g modules m.imports (s, Ok tt)

  start_tables : start.scope.tables ≡ s.tables
  start_tables = course_leads.tables ∙ (marks_lead other nothing_open).tables
      ∙ ap (λ (p : List Table × ℕ). p.0) imported_keeps

  start_home : start.scope.types.home ≡ s.types.home
  start_home = course_leads.home ∙ (marks_lead other nothing_open).home
      ∙ ap (λ (p : List Table × ℕ). p.1) imported_keeps

  end_home : s.types.home ≡ end.scope.types.home
  end_home = sym (end_keeps.home ∙ start_home)

  module _ (own : Option Table) (ys : List TypedStmt) (tables : List Table) (es : List (List ℕ × Meaning))
      (starts : Starts s tables es) (ok : end.so_far ≡ Ok tt) where
    abbrev made : TypedModule
    made = typed_module end.scope modules own m end.bodies ys

    abbrev opens : ℕ → Bool
    opens = open_in s.tables made.imports

    tables_open : OpenTables made opens g s.tables
    tables_open = open_tables made g s.types.home end_home tables s.tables starts.tables_are starts.others

    imports_open : OpensAll made opens g modules m.imports
    imports_open =
        subst (λ (us : List Table). OpensAll made
        (open_in s.tables (typed_imports modules us (all_imports modules us own m.imports))) g modules m.imports)
        (sym (end_keeps.tables ∙ start_tables))
        (opens_all modules s.tables made g own m.imports)

    imports_leads : Leads made opens s imported.0
    imports_leads = imports_lead made opens g modules m.imports (s, Ok tt) tables_open imports_open

    marked_leads : Leads made opens s marks.0
    marked_leads = leads_then made opens imports_leads (marks_lead made opens)

    begun_awaits : AwaitsOwn s
    begun_awaits name p e =
        let k = own_await g.Reported s.types.home (exported_headings es) es starts.exports starts.numbers name p
        (ap (λ (ns : List (List ℕ × Known g.Reported)). name_standing (find_name name ns)) (sym starts.own) ∙ e) in
        (k.0, ap (λ (hs : List TypeNo). slice_get hs p.number) starts.procedures ∙ k.1)

    course_ok : course.1 ≡ Ok tt
    course_ok = all_again g elaborates ends ps course.0 (course.1, length imported.0.own)
        (beside_left g again (reported_of_lack g m.name.pos course.0)
        (checked_reported g elaborates ends None marks.1 ps (start, 0) ok))

    heads : ModuleHeadsIn g elaborates ends course.0.own course.0.types course.0.procedures ps
    heads = heads_in g elaborates ends course.0.own course.0.types course.0.procedures ps (marks.0, imported.1, 0)
        course.0 refl refl refl refl
        (ap (λ (n : ℕ). n == 0) marked_leads.level ∙ starts.level)
        (awaits_kept g made opens s marks.0 marked_leads begun_awaits) course_ok

    start_outer : start.scope.outer ≡ predeclared_block ∷ []
    start_outer = course_leads.outer ∙ marked_leads.outer ∙ starts.outer

    stands : Stands g elaborates ends None course.0.own course.0.types course.0.procedures start 0
    stands = record {
      names = refl;
      outermost = ap (λ (n : ℕ). n == 0) (course_leads.level ∙ marked_leads.level) ∙ starts.level;
      single = ap (λ (bs : List (Around g.Reported)). length bs) start_outer;
      count = refl;
      grown = λ t y e. e;
    }

    numbers : NumbersIn g elaborates ends None 0 ps
    numbers = numbers_in g elaborates forms ends None decls refl

    goes : Goes g elaborates ends None course.0.own course.0.types course.0.procedures start end
    goes = all_go g elaborates ends None course.0.own course.0.types course.0.procedures marks.1 ps (start, 0) 0 stands
        heads numbers ok

    headings : Headings course.0.procedures end.bodies.procedures
    headings = goes.headings (unfilled_headings course.0.procedures)

    own_there : (n : ℕ) (t : TypeNo) → slice_get (exported_headings es) n ≡ Some t → IsRoutine end.bodies.procedures n t
    own_there n t e = headings n t (course_leads.procedures n t
        (marked_leads.procedures n t (ap (λ (hs : List TypeNo). slice_get hs n) starts.procedures ∙ e)))

    begun_formed : AreFormedNames made opens s.own
    begun_formed =
        subst (λ (ns : List (List ℕ × Known g.Reported)). AreFormedNames made opens ns) (sym starts.own)
        (own_formed made opens s.types.home (exported_headings es) end_home own_there g.Reported es starts.exports
        starts.numbers)

    headed_leads : Leads made opens marks.0 course.0
    headed_leads =
        heads_formed g elaborates ends course.0.own course.0.types course.0.procedures made opens (sym end_keeps.home)
        headings ps (marks.0, imported.1, 0) course.0 refl refl heads

    names_formed : AreFormedNames made opens course.0.own
    names_formed = headed_leads.formed (marked_leads.home ∙ end_home) (marked_leads.formed end_home begun_formed)

    pub has_begun : HasBegun g s m b es made
    has_begun =
        let same = sym (declared_is g elaborates forms ends imported 0 decls) in
        record {
          home = end_home;
          opened = imports_open;
          names = subst (λ (d : Declared g.Reported). AreFormedNames made opens d.0.own) same names_formed;
          outer = subst (λ (d : Declared g.Reported). d.0.outer ≡ predeclared_block ∷ []) same start_outer;
          heads = own_there;
        }

module _ (g : Gathers) where
  both_begun : {P : TypedModule → Type 0} (a : Result (Unit {0}) g.Reported) (r : Result (List TypedStmt) g.Reported)
      (f : List TypedStmt → TypedModule) → ((ys : List TypedStmt) → a ≡ Ok tt → P (f ys))
      → Holds P (both g a r ▷ λ p. Ok (f p.1))
  both_begun (Ok u) (Ok ys) f k = fine (f ys) (k ys refl)
  both_begun (Ok u) (Err e) f k = broken e
  both_begun (Err e) (Ok ys) f k = broken e
  both_begun (Err e) (Err x) f k = broken (g.join e x)

  module _ (elaborates : Elaborates g.Reported) (forms : FormsStatements g elaborates) where
    module _ (s : Scope g.Reported) (own : Option Table) (m : Module) (b : Block) where
      abbrev ds : List Decl
      ds = (out-Block b).decls

      abbrev body : Option (List Stmt)
      body = (out-Block b).body

      abbrev behind : Declared g.Reported → Checked g.Reported
      behind d =
          with_statements elaborates None body
          (bodies_checked g elaborates (procedure_ends ds) None d.2
          (record {
            scope = d.0;
            so_far = beside g d.1 (reported_of_lack g m.name.pos d.0);
            bodies =
                no_bodies d.0.procedures;
          }) ds)

      abbrev last : Walk g.Reported
      last = end g elaborates forms s m b

      walk_is : ◌≡◌ {A = Checked g.Reported}
          (walk_body g elaborates (numbered_modules s.tables).0 (procedure_ends ds) s m b)
          (last, statements_of elaborates last.scope None body)
      walk_is =
          ap behind (declared_is g elaborates forms (procedure_ends ds) (imported g elaborates forms s m b) 0 ds)
          ∙ ap (λ (w : Walk g.Reported). with_statements elaborates None body w)
          (bodies_are g elaborates forms (procedure_ends ds) None (marks g elaborates forms s m b).1
          (start g elaborates forms s m b) ds)

      body_begun : (tables : List Table) (es : List (List ℕ × Meaning)) → Starts s tables es
          → Holds (HasBegun g s m b es) (of_body g elaborates s own m b)
      body_begun tables es starts =
          subst (λ (c : Checked g.Reported). Holds (HasBegun g s m b es)
          (module_or g (numbered_modules s.tables).0 own m c)) (sym walk_is)
          (both_begun last.so_far (statements_of elaborates last.scope None body)
          (λ ys. typed_module last.scope (numbered_modules s.tables).0 own m last.bodies ys)
          (λ ys ok. has_begun g elaborates forms s m b own ys tables es starts ok))

    -- where the body of a module begins
    abbrev pub BegunAt : (number : ℕ) → Module → Option Table → List Table → TypedModule → Contents → Type 0
    BegunAt number m own tables t (contents.Definition defs) = ⊥
    BegunAt number m own tables t (contents.Implementation b) = (o : Table) × (own ≡ Some o)
        × HasBegun g (implementation_scope o tables) m b o.exported t
    BegunAt number m own tables t (contents.Program b) = HasBegun g (first_scope number tables) m b [] t

    module _ (number : ℕ) (m : Module) (tables : List Table) where
      own_begun : (own : Option Table) (b : Block) → AreForOwn own tables
          → Holds (λ t. (o : Table) × (own ≡ Some o)
          × HasBegun g (implementation_scope o (tables ++ console ∷ [])) m b o.exported t)
          (of_implementation g elaborates m own (tables ++ console ∷ []) b)
      own_begun None b k = reported_holds g m.name.pos rule.LonelyModule
      own_begun (Some o) b k =
          weaker (body_begun (implementation_scope o (tables ++ console ∷ [])) (Some o) m b tables o.exported
          (record {
            tables_are = refl;
            outer = refl;
            level = refl;
            withs = refl;
            own = refl;
            procedures = refl;
            exports = k.0.exports;
            numbers = k.0.numbers;
            others = k.1;
          })) (λ t h. (o, refl, h))
        where
          weaker : {A T : Type 0} {P Q : A → Type 0} {r : Result A T} → Holds P r → ((x : A) → P x → Q x) → Holds Q r
          weaker (fine x p) f = fine x (f x p)
          weaker (broken e) f = broken e

      contents_begun : (own : Option Table) (c : Contents) → AreFor number own tables c
          → Holds (λ t. BegunAt number m own (tables ++ console ∷ []) t c)
          (of_contents g elaborates number m own (tables ++ console ∷ []) c)
      contents_begun own (contents.Definition defs) k = reported_holds g m.name.pos rule.LonelyModule
      contents_begun own (contents.Implementation b) k = own_begun own b k
      contents_begun own (contents.Program b) k =
          body_begun (first_scope number (tables ++ console ∷ [])) None m b tables []
          (record {
            tables_are = refl;
            outer = refl;
            level = refl;
            withs = refl;
            own = refl;
            procedures = refl;
            exports = tt;
            numbers = tt;
            others = k;
          })

      pub module_begun : (own : Option Table) → AreFor number own tables m.contents
          → Holds (λ t. BegunAt number m own (tables ++ console ∷ []) t m.contents)
          (body_module g elaborates number m own tables)
      module_begun own k = contents_begun own m.contents k
