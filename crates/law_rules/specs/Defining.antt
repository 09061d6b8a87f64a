-- What is answered of a definition.
use Rattle.std.specs.Prelude.{◌≡◌, ◌⊎◌, ℕ, Bool, true, false, List, [], ◌∷◌, ◌++◌, map, reverse, Some, Result, Ok, Err}
use Rattle.m2_rule.specs.declared.breach.Breach.{Breach}
use Rattle.m2_tree.specs.declared.name.Ident.{Ident}
use Rattle.m2_tree.specs.declared.decl.Def.{Def}
use Rattle.m2_tree.specs.declared.decl.Def.TheVariants as def
use Rattle.m2_tree.specs.declared.decl.Contents.TheVariants as contents
use Rattle.m2_tree.specs.declared.decl.Module.{Module}
use Rattle.typed_tree.specs.declared.meaning.Meaning.{Meaning}
use Rattle.typed_tree.specs.declared.known_types.Types.{Types}
use Rattle.typed_tree.specs.declared.table.ModuleTypes.{ModuleTypes}
use Rattle.typed_tree.specs.declared.table.Table.{Table}
use Rattle.typed_tree.specs.Names.{find_name}
use Rattle.check_scope.specs.Elaborated.{Gathers}
use Rattle.check_definition.specs.Predeclared.{console, others_of, first_scope}
use Rattle.check_definition.specs.Compiled.{definition_table}
use Rattle.def_typing.specs.Things.{Headless, Standing, Known, Unknown}
use Rattle.def_typing.specs.Declarations.{Declaration, OfConstant, OfType, OfVariables, OfProcedure}
use Rattle.def_typing.specs.Again.{BrokenAgain}
use Rattle.def_typing.specs.Definitions as definitions
use Rattle.def_typing.specs.Definitions.{Context, Placed, AllFollow}
use Rattle.def_typing.specs.Imports as imports
use Rattle.def_typing.specs.Imports.{Imported, all_imported, Origin, Brings}
use Rattle.law_typing.specs.Judging.{Judges, Accounts}
use Rattle.law_typing.specs.Known.{standing, Knows}
use Rattle.law_rules.specs.Standing.{StandsFor}
use Rattle.law_rules.specs.Exports.{AreExported, AreModules, all_reached, AreMet, own_met}

-- ---- declarations of a definition

abbrev pub declared_in : Def → List Declaration
declared_in (def.Constants cs) = map OfConstant cs
declared_in (def.Types ts) = map OfType ts
declared_in (def.Variables vs) = map OfVariables vs
declared_in (def.Procedure h) = OfProcedure h ∷ []

abbrev pub all_declared : List Def → List Declaration
all_declared [] = []
all_declared (d ∷ ds) = declared_in d ++ all_declared ds

-- ---- where they begin

-- A definition has no names of another one.
abbrev pub none : List ℕ → Bool
none = λ n. false

-- Names that are imported are taken.
pub data IsTaken (tables : List Table) (front : List Imported) (n : List ℕ) : Bool → Type 0 where
  by_import : (o : Origin) (m : Meaning) → Brings tables none front n o m
      → IsTaken tables front n true
  by_none : ((o : Origin) (m : Meaning) → Brings tables none front n o m → ⊥)
      → IsTaken tables front n false

-- No rule is broken where these names are declared.
abbrev pub AreSound : (Ident → Standing) → Type 0
AreSound names =
    (name : Ident)
    → (names name ≡ Unknown → ⊥) × ((nested : Bool) → names name ≡ Known (Headless nested) → ⊥)

-- the types that are known there: those of the tables
abbrev pub met_types : ℕ → List Table → Types
met_types home tables = record { home = home; own = []; others = others_of tables }

-- ---- what is answered

-- what its table has
pub record IsTable (home : ℕ) (m : Module) (tables : List Table) (exports : ℕ → Ident → Standing)
    (whole : List Placed) (last : Context) (t : Table) : Type 0 where
  pub of_number : t.number ≡ home
  pub of_name : t.name ≡ m.name.name
  -- It lists the modules that it imports.
  pub of_imports : AreModules tables (all_imported m.imports) t.imports
  -- the types that are met through it: those of the tables, and behind them those that its
  -- declarations make
  pub of_types : (met : List ModuleTypes) × AreMet (reverse (all_reached tables)) met
      × (t.reached ≡ met ++ own_met home last.types.own)
  -- Each name that is declared is exported, with what it means, and no other is.
  pub of_exports : AreExported exports 0 0 whole t.exported
  -- Its meaning is what the name stands for behind all declarations.
  pub of_meanings : (x : Ident) (n : Meaning) → find_name x.name t.exported ≡ Some n
      → last.names x ≡ standing n

-- A table is answered exactly if no rule is broken, and else broken rules are reported.
pub data IsAnswered (g : Gathers) (j : Judges g) (Is : Table → Type 0) (Breaks : Breach → Type 0)
    : Result Table g.Reported → Type 0 where
  is_table : (t : Table) → Is t → ((f : Breach) → Breaks f → ⊥) → IsAnswered g j Is Breaks (Ok t)
  is_refused : (r : g.Reported) → Accounts g j (λ f. ⊥) Breaks r → (f : Breach) → Breaks f
      → IsAnswered g j Is Breaks (Err r)

-- what is known where its declarations begin
abbrev pub first_context : ℕ → List Table → (Ident → Standing) → (List ℕ → Bool) → Context
first_context home tables names taken =
    record { types = met_types home tables; names = names; taken = taken }

-- what is known of a definition that imports from these tables
pub record IsDefinitionExact (g : Gathers) (j : Judges g) (home : ℕ) (m : Module)
    (imported tables : List Table) (exports : ℕ → Ident → Standing) (names : Ident → Standing)
    (taken : List ℕ → Bool) (defs : List Def) : Type 0 where
  -- the declarations, each with what is known where it stands, and with what it adds
  pub whole : List Placed
  -- what is known behind them
  pub last : Context
  -- Each adds the types and constants that the rules say, and its names stand for what they say.
  pub follow :
      AllFollow exports (first_context home tables names taken) (all_declared defs) whole last
  -- There is no other reading of the declarations.
  pub only : (others : List Placed) (end : Context)
      → AllFollow exports (first_context home tables names taken) (all_declared defs) others end
      → (others ≡ whole) × (end ≡ last)
  -- Exactly the rules that are broken in imports, in declarations, and in their constant
  -- expressions where they are read again, are reported.
  pub answered : IsAnswered g j (IsTable home m tables exports whole last)
      (λ f.
      imports.BrokenIn tables none (all_imported m.imports) f
      ⊎ (definitions.BrokenIn exports whole f
      ⊎ BrokenAgain last.types exports taken (all_declared defs) last.names [] (all_declared defs)
      f))
      (definition_table g home m imported)

-- Definitions are answered exactly, whatever they import.
abbrev pub DefinitionsAreExact : (g : Gathers) → Judges g → Type 0
DefinitionsAreExact g j =
    (home : ℕ) (m : Module) (imported tables : List Table) → tables ≡ imported ++ console ∷ []
    → (exports : ℕ → Ident → Standing) (outside names : Ident → Standing)
    → Knows g j outside exports (first_scope home tables) → AreSound outside
    → ((name : Ident) → StandsFor tables none (all_imported m.imports) outside name (names name))
    → (taken : List ℕ → Bool)
    → ((n : List ℕ) → IsTaken tables (all_imported m.imports) n (taken n))
    → (defs : List Def) → m.contents ≡ contents.Definition defs
    → IsDefinitionExact g j home m imported tables exports names taken defs

-- For each definition there is what names stand for before its declarations, and no rule is broken
-- where the names outside are declared. So the law above speaks of each.
abbrev pub DefinitionsAreKnown : (g : Gathers) → Judges g → Type 0
DefinitionsAreKnown g j =
    (home : ℕ) (m : Module) (tables : List Table)
    → (exports : ℕ → Ident → Standing) × (outside : Ident → Standing)
    × (names : Ident → Standing) × (taken : List ℕ → Bool)
    × Knows g j outside exports (first_scope home tables) × AreSound outside
    × ((name : Ident) → StandsFor tables none (all_imported m.imports) outside name (names name))
    × ((n : List ℕ) → IsTaken tables (all_imported m.imports) n (taken n))
