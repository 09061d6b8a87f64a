-- What the modules of a build begin with: the tables that jobs make, and where their bodies begin.
use Rattle.std.specs.Prelude.{◌≡◌, ℕ, true, List, ◌∷◌, [], ◌++◌, Some, None, Ok, slice_get, slice_index_or}
use Rattle.std.specs.List.{AllByRecursion, fold, list_all}
use Rattle.m2_tree.specs.declared.decl.Block.{Block, out-Block}
use Rattle.m2_tree.specs.declared.decl.Contents.TheVariants as contents
use Rattle.m2_tree.specs.declared.decl.Decl.{Decl}
use Rattle.m2_tree.specs.declared.decl.Module.{Module}
use Rattle.m2_graph.specs.Files.{number_files}
use Rattle.m2_graph.specs.Graph.{IsGraph}
use Rattle.typed_tree.specs.declared.known_types.Types.{Types}
use Rattle.typed_tree.specs.declared.shape.Made.{Made}
use Rattle.typed_tree.specs.declared.meaning.Meaning.{Meaning}
use Rattle.typed_tree.specs.declared.meaning.Meaning.TheVariants as meaning
use Rattle.typed_tree.specs.declared.meaning.Procedure.{Procedure}
use Rattle.typed_tree.specs.declared.table.Table.{Table}
use Rattle.typed_tree.specs.declared.typed_module.TypedModule.{TypedModule}
use Rattle.typed_tree.specs.declared.types.TypeNo.{TypeNo}
use Rattle.typed_tree.specs.Known.{made_at}
use Rattle.typed_tree.specs.Names.{find_name}
use Rattle.check_scope.specs.Elaborated.{least}
use Rattle.check_scope.specs.declared.scope.Scope.{Scope}
use Rattle.check_definition.specs.Importing.{numbered_modules, with_import}
use Rattle.check_definition.specs.Predeclared.{console, predeclared_block, first_scope}
use Rattle.check_block.specs.Nesting.{procedure_ends}
use Rattle.check_block.specs.Declarations.{Declared, declared_module}
use Rattle.check_body.specs.Own.{exported_variables, exported_headings, implementation_scope}
use Rattle.check_body.specs.Bodies.{Checked}
use Rattle.check_body.specs.Checked.{walk_body}
use Rattle.check_body.specs.Checks.{elaborate_body}
use Rattle.build_jobs.specs.declared.outcome.Compiled.TheVariants.{Defined}
use Rattle.build_jobs.specs.Own.{own_table, tables_behind}
use Rattle.build_jobs.specs.Compiling.{tables_of, typed_body}
use Rattle.build_jobs.specs.Jobs.{needed_of}
use Rattle.law_well_formed.specs.FormedTables.{AreExports, AreNumberedBy}
use Rattle.law_well_formed.specs.FormedOrder.{StandOnce}
use Rattle.law_well_formed.specs.FormedKnown.{fits_module, HasReached}
use Rattle.law_programs.specs.FormedPrograms.{trees_of}
use Rattle.law_programs.specs.FormedReach.{result_of}
use Rattle.law_programs.specs.Typing.{TypesTyped}
use Rattle.law_programs.specs.Carried.{ReachedIndexed, TablesElsewhere, ScopePlaced, ScopeSlots, ExportsWords, ExportsFree}
use Rattle.law_programs.specs.TypingBodies.{ScopeKnown, ModuleBegins}

-- ---- what a definition exports

-- a variable that is exported has its place among those that are exported
abbrev pub IsPlaced : List TypeNo → Meaning → Type 0
IsPlaced vs (meaning.Variable v) = slice_get vs v.number ≡ Some v.of
IsPlaced vs (meaning.Constant v) = Unit {0}
IsPlaced vs (meaning.Type t n) = Unit {0}
IsPlaced vs (meaning.Local v) = Unit {0}
IsPlaced vs (meaning.Field f) = Unit {0}
IsPlaced vs (meaning.Procedure p) = Unit {0}
IsPlaced vs (meaning.LocalProcedure p) = Unit {0}
IsPlaced vs meaning.Ahead = Unit {0}
IsPlaced vs (meaning.Standard f) = Unit {0}
IsPlaced vs (meaning.Module k) = Unit {0}

abbrev pub ArePlacedBy : List TypeNo → List (List ℕ × Meaning) → Type 0
ArePlacedBy vs es = AllByRecursion (λ e. IsPlaced vs e.1) es

-- no two procedures that are exported have one number
abbrev pub ProceduresApart : List (List ℕ × Meaning) → Type 0
ProceduresApart es =
    (a b : List ℕ) (p q : Procedure) → find_name a es ≡ Some (meaning.Procedure p)
    → find_name b es ≡ Some (meaning.Procedure q) → p.number ≡ q.number → a ≡ b

-- What a definition exports is its own, each name once. Variables and procedures are numbered by
-- their places, constants are words, and no variable is one of a procedure.
pub record ExportsStand (home : ℕ) (es : List (List ℕ × Meaning)) : Type 0 where
  pub own : AreExports home es
  pub once : StandOnce es
  pub variables : ArePlacedBy (exported_variables es) es
  pub procedures : AreNumberedBy (exported_headings es) es
  pub apart : ProceduresApart es
  pub words : ExportsWords es
  pub free : ExportsFree es

-- The table of a definition has the number of its job. Arrays among the types that it reaches have
-- indices of scalar types.
pub record TableStands (job : ℕ) (t : Table) : Type 0 where
  pub number : t.number ≡ job
  pub exports : ExportsStand t.number t.exported
  pub indexed : (types : Types) → HasReached types t.reached → ReachedIndexed types t.reached

-- ---- where a body begins

-- the tables of the modules that a body imports
abbrev pub tables_by : Module → List Table → List Table
tables_by m ts = tables_behind (own_table m ts) ts ++ console ∷ []

-- the body of a program or of an implementation begins in this scope, with this block
pub data BeginsIn (m : Module) (job : ℕ) (ts : List Table)
    : Scope least.Reported → Block → Type 0 where
  program : (b : Block) → m.contents ≡ contents.Program b
      → BeginsIn m job ts (first_scope job (tables_by m ts)) b
  implementation :
      (own : Table) (b : Block) → own_table m ts ≡ Some own → m.contents ≡ contents.Implementation b
      → BeginsIn m job ts (implementation_scope own (tables_by m ts)) b

abbrev pub modules_in : Scope least.Reported → List (List ℕ × ℕ)
modules_in s = (numbered_modules s.tables).0

abbrev pub decls_in : Block → List Decl
decls_in b = (out-Block b).decls

-- the scope behind the imports,
abbrev pub imported_in : Scope least.Reported → Module → Scope least.Reported
imported_in s m = (fold (with_import least (modules_in s)) (s, Ok tt) m.imports).0

-- what the declarations of the block come to,
abbrev pub declared_in : Scope least.Reported → Module → Block → Declared least.Reported
declared_in s m b =
    declared_module least (modules_in s) (procedure_ends (decls_in b)) s m (decls_in b)

-- and the bodies
abbrev pub walked_in : Scope least.Reported → Module → Block → Checked least.Reported
walked_in s m b =
    walk_body least (elaborate_body least) (modules_in s) (procedure_ends (decls_in b)) s m b

-- A body begins in this scope, with this block, and comes to this module. No rule is broken. The
-- types of the block's end are the types of the module. The block's names stand under their
-- numbers, and the module's types are as the language has them.
pub record BodyStands (m : Module) (job : ℕ) (ts : List Table) (t : TypedModule) : Type 0 where
  pub scope : Scope least.Reported
  pub block : Block
  pub base : Types
  pub begun : BeginsIn m job ts scope block
  pub begins : ModuleBegins (imported_in scope m)
  pub reported : (walked_in scope m block).0.so_far ≡ Ok tt
  pub body : (walked_in scope m block).1 ≡ Ok t.body
  pub types : t.types ≡ (walked_in scope m block).0.scope.types
  pub variables : t.variables ≡ (declared_in scope m block).0.variables
  pub procedures : t.procedures ≡ (walked_in scope m block).0.bodies.procedures
  pub locals : t.locals ≡ (walked_in scope m block).0.bodies.locals
  pub order : t.order ≡ (walked_in scope m block).0.bodies.order
  pub home : t.types.home ≡ scope.types.home
  pub same_home : (declared_in scope m block).0.types.home ≡ scope.types.home
  pub grows : (u : TypeNo) (x : Made) → made_at (declared_in scope m block).0.types u ≡ Some x
      → made_at t.types u ≡ Some x
  pub level : (declared_in scope m block).0.level ≡ 0
  pub tables : (declared_in scope m block).0.tables ≡ scope.tables
  pub outer : (declared_in scope m block).0.outer ≡ predeclared_block ∷ []
  pub known : ScopeKnown base (declared_in scope m block).0
  pub placed : ScopePlaced (declared_in scope m block).0
  pub slots : ScopeSlots None (declared_in scope m block).0
  pub elsewhere : TablesElsewhere scope.types.home scope.tables
  pub typed : TypesTyped t.types

-- ---- the laws

-- The tables that jobs make stand so.
abbrev pub TablesStand : Type 0
TablesStand =
    (trees : List Module) (files : List ℕ) (jobs : List (List ℕ))
    → list_all fits_module trees ≡ true
    → (job : ℕ) (t : Table)
    → result_of trees files jobs job ≡ Defined t
    → TableStands job t

-- So do the bodies that the jobs of a graph make.
abbrev pub BodiesStand : Type 0
BodiesStand =
    (fs : List (List ℕ × Module)) (files : List ℕ) (jobs : List (List ℕ)) (starts : List ℕ)
    → IsGraph (number_files 0 fs) files jobs starts
    → list_all fits_module (trees_of fs) ≡ true
    → (m : Module) (job : ℕ) (t : TypedModule)
    → slice_get (trees_of fs) (slice_index_or files job 0) ≡ Some m
    → let ts = tables_of (needed_of (trees_of fs) files jobs job) in
    typed_body m job ts ≡ Ok t → BodyStands m job ts t
