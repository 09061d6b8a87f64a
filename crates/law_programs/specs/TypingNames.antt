-- The names of a module of a graph mean what is there: its own procedures, and what other modules
-- export.
use Rattle.std.specs.Prelude.{◌≡◌, ℕ, ◌==◌, Bool, true, ◌||◌, List, [], ◌∷◌, ◌++◌, Option, Some, None, codes, slice_get}
use Rattle.std.specs.List.{AllByRecursion, list_any, list_all}
use Rattle.m2_tree.specs.declared.name.Ident.{Ident}
use Rattle.m2_tree.specs.declared.decl.Block.{Block, out-Block}
use Rattle.m2_tree.specs.declared.decl.Contents.TheVariants as contents
use Rattle.m2_tree.specs.declared.decl.Module.{Module}
use Rattle.m2_graph.specs.Files.{number_files}
use Rattle.m2_graph.specs.Graph.{IsGraph, CompileEach}
use Rattle.typed_tree.specs.declared.table.Table.{Table}
use Rattle.typed_tree.specs.declared.typed_module.Imported.{Imported}
use Rattle.typed_tree.specs.declared.typed_module.TypedModule.{TypedModule}
use Rattle.m2_tree.specs.Names.{same_name}
use Rattle.m2_rule.specs.declared.breach.Breach.{Breach}
use Rattle.check_scope.specs.declared.scope.Scope.{Scope}
use Rattle.check_scope.specs.Elaborated.{least}
use Rattle.check_const.specs.Denote.{exported_meaning}
use Rattle.check_definition.specs.Predeclared.{console, first_scope}
use Rattle.check_definition.specs.Importing.{numbered_modules}
use Rattle.check_block.specs.Nesting.{procedure_ends}
use Rattle.check_block.specs.Declarations.{declared_module}
use Rattle.check_body.specs.Own.{implementation_scope}
use Rattle.law_modules.specs.Linked.{Program}
use Rattle.law_simulation.specs.RunsPrograms.{ground}
use Rattle.law_simulation.specs.TreesTyped.{Context}
use Rattle.law_simulation.specs.Linked.{context}
use Rattle.law_well_formed.specs.Formed.{Holds}
use Rattle.law_well_formed.specs.FormedKnown.{fits_module}
use Rattle.build_jobs.specs.Own.{own_table, tables_behind}
use Rattle.build_jobs.specs.Compiling.{tables_of}
use Rattle.build_jobs.specs.Jobs.{needed_of}
use Rattle.law_programs.specs.FormedCoherent.{trees_of, IsBodyOf, AreBodiesIn}
use Rattle.law_programs.specs.Names.{HasInstance, NamesElse}
use Rattle.law_programs.specs.TypingBodies.{MeaningThere, BlocksThere}

-- ---- open modules: Console, and those that are imported

abbrev pub is_open_table : List Imported → Option Table → Bool
is_open_table is None = true
is_open_table is (Some t) =
    same_name t.name (codes "Console") || list_any (λ i. i.number == t.number) is

abbrev pub is_open : List Table → List Imported → ℕ → Bool
is_open tables is k = is_open_table is (slice_get tables k)

-- ---- modules

-- behind the declarations of a module that begins in this scope
abbrev pub declared_of : Scope Breach → Module → Block → Scope Breach
declared_of s m b =
    let ds = (out-Block b).decls in
    (declared_module least (numbered_modules s.tables).0 (procedure_ends ds) s m ds).0

module _ (x : Context) (opens : ℕ → Bool) where
  -- the names of a module, of what stands around it, and of its open modules
  pub record NamesStand (s : Scope Breach) (m : Module) (b : Block) : Type 0 where
    pub others : NamesElse x opens 0 [] (declared_of s m b).own
    pub outer : BlocksThere x opens 0 (declared_of s m b).outer
    pub members : (k : ℕ) (name : Ident) → opens k ≡ true
        → Holds (MeaningThere x opens 0) (exported_meaning least (declared_of s m b).tables k name)

-- ---- bodies

module _ (trees : List Module) (files : List ℕ) (jobs : List (List ℕ)) {t : TypedModule}
    (b : IsBodyOf trees files jobs t) where
  abbrev pub needed_tables : List Table
  needed_tables = tables_of (needed_of trees files jobs b.job)

  abbrev pub own_of : Option Table
  own_of = own_table b.tree needed_tables

  -- the tables of its imports, and the table of Console
  abbrev pub tables_for : List Table
  tables_for = tables_behind own_of needed_tables ++ console ∷ []

  -- the modules that are open to it
  abbrev pub opens_for : ℕ → Bool
  opens_for = is_open tables_for t.imports

  -- The instance of its module has its variables. What open modules export is there, and so are its
  -- names: where a program begins, and where the implementation of a definition does.
  pub record BodyNamed (x : Context) : Type 0 where
    pub own : HasInstance x
    pub exports : (k : ℕ) (u : Table) → slice_get tables_for k ≡ Some u → opens_for k ≡ true
        → AllByRecursion (λ e. MeaningThere x opens_for 0 e.1) u.exported
    pub program : (block : Block) → b.tree.contents ≡ contents.Program block
        → NamesStand x opens_for (first_scope b.job tables_for) b.tree block
    pub implementation : (o : Table) (block : Block)
        → own_of ≡ Some o
        → b.tree.contents ≡ contents.Implementation block
        → NamesStand x opens_for (implementation_scope o tables_for) b.tree block

-- ---- the law

-- where a module stands in a program
abbrev pub placed_at : Program → (pages place : ℕ) → TypedModule → Context
placed_at p pages place m = context p (ground p pages).base (ground p pages).texts place m []

abbrev pub NamesAreThere : Type 0
NamesAreThere =
    (fs : List (List ℕ × Module)) (files : List ℕ) (jobs : List (List ℕ)) (starts : List ℕ)
    → IsGraph (number_files 0 fs) files jobs starts
    → CompileEach (number_files 0 fs) files
    → list_all fits_module (trees_of fs) ≡ true
    → (p : Program)
    → AreBodiesIn (trees_of fs) files jobs starts p
    → (pages place : ℕ) (m : TypedModule)
    → slice_get p place ≡ Some m
    → (b : IsBodyOf (trees_of fs) files jobs m)
    → BodyNamed (trees_of fs) files jobs b (placed_at p pages place m)
