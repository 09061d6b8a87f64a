-- What a scope knows behind imports, and what is proved of it.
use Rattle.std.specs.Prelude.{◌≡◌, ◌⊎◌, ℕ, Bool, true, false, List, [], Option, Some, Result, Ok}
use Rattle.std.specs.List.{fold}
use Rattle.std.specs.Option.{is_some}
use Rattle.m2_tree.specs.declared.name.Ident.{Ident}
use Rattle.m2_tree.specs.declared.decl.Import.{Import}
use Rattle.m2_tree.specs.declared.decl.Decl.{Decl}
use Rattle.m2_tree.specs.declared.decl.Def.{Def}
use Rattle.typed_tree.specs.declared.meaning.Meaning.{Meaning}
use Rattle.typed_tree.specs.declared.types.TypeNo.{TypeNo}
use Rattle.typed_tree.specs.declared.table.Table.{Table}
use Rattle.typed_tree.specs.Names.{find_name, enter_name}
use Rattle.check_scope.specs.declared.known.Origin.{Origin}
use Rattle.check_scope.specs.declared.known.Origin.TheVariants.{Here, Module, Export}
use Rattle.check_scope.specs.declared.known.Known.{Known}
use Rattle.check_scope.specs.declared.known.Known.TheVariants.{Declared}
use Rattle.check_scope.specs.declared.scope.Scope.{Scope}
use Rattle.check_scope.specs.Scopes.{State, is_free}
use Rattle.check_scope.specs.Elaborated.{Gathers}
use Rattle.check_definition.specs.Predeclared.{first_scope}
use Rattle.check_definition.specs.Marking.{marked_def}
use Rattle.check_definition.specs.Importing.{numbered_modules, with_import}
use Rattle.check_block.specs.Declarations.{declared_block}
use Rattle.def_typing.specs.Again.{BrokenAgain}
use Rattle.def_typing.specs.Declarations as blocks
use Rattle.def_typing.specs.Declarations.{Declared as Resolved, declarations_of, in_order}
use Rattle.def_typing.specs.Things.{Standing}
use Rattle.def_typing.specs.Parts.{Among}
use Rattle.def_typing.specs.Imports as rules
use Rattle.def_typing.specs.Imports.{Imported, all_imported, Itself, Exported, Brings, BrokenIn}
pub use Rattle.law_rules.specs.Standing.{StandsFor, imported, from_outside}
use Rattle.law_typing.specs.Judging.{Judges, Reports}
use Rattle.law_typing.specs.Exact.{is_own_variable, Knows, KnowsOwn, Repeats, TakenAs, is_nested, IsBlockExact}

abbrev pub origin : rules.Origin → Origin
origin (Itself k) = Module k
origin (Exported k) = Export k

-- whether the module's own definition declares a name, by what is known of it before the imports
pub data OwnAs {T : Type 0} : Bool → Option (Known T) → Type 0 where
  is_own : {m : Result Meaning T} → OwnAs true (Some (Declared Here m))
  -- Nothing is known of it, or it is declared behind the imports.
  not_own : {k : Option (Known T)} → is_free k ≡ true → OwnAs false k

-- whether it is a variable that counts as the module's own: no imported one does
pub data IsOwn (tables : List Table) (own : List ℕ → Bool) (front : List Imported)
    (outer : Ident → Bool) (name : Ident) : Bool → Type 0 where
  is_imported : (o : rules.Origin) (m : Meaning) → Brings tables own front name.name o m
      → IsOwn tables own front outer name false
  of_outside : ((o : rules.Origin) (m : Meaning) → Brings tables own front name.name o m → ⊥)
      → IsOwn tables own front outer name (outer name)

-- No table exports a variable of the module itself.
abbrev pub AreForeign : {T : Type 0} → Scope T → Type 0
AreForeign s =
    (t : Table) → Among t s.tables → (e : rules.Entry) → Among e t.exported
    → is_own_variable s e.1 ≡ false

-- what is elaborated
abbrev pub imported_all : (g : Gathers) → Scope g.Reported → List Import
    → State (Unit {0}) g.Reported
imported_all g s imports = fold (with_import g (numbered_modules s.tables).0) (s, Ok tt) imports

-- what is known behind imports
pub record AreImportsExact (g : Gathers) (j : Judges g) (own : List ℕ → Bool)
    (s : Scope g.Reported) (imports : List Import) : Type 0 where
  -- Exactly the broken rules are reported.
  pub reported : Reports g j (λ f. ⊥) (BrokenIn s.tables own (all_imported imports))
      (imported_all g s imports).1
  -- The scope knows what is imported, and of all other names what it knew before.
  pub brought : (n : List ℕ) (u : rules.Origin) (m : Meaning)
      → Brings s.tables own (all_imported imports) n u m
      → find_name n (imported_all g s imports).0.own ≡ Some (Declared (origin u) (Ok m))
  pub other : (n : List ℕ)
      → ((u : rules.Origin) (m : Meaning) → Brings s.tables own (all_imported imports) n u m → ⊥)
      → find_name n (imported_all g s imports).0.own ≡ find_name n s.own
  -- A name is imported or not.
  pub decided : (n : List ℕ)
      → ((u : rules.Origin) × (m : Meaning) × Brings s.tables own (all_imported imports) n u m)
      ⊎ ((u : rules.Origin) (m : Meaning) → Brings s.tables own (all_imported imports) n u m → ⊥)
  -- Nothing but names is new in the scope.
  pub rest : (imported_all g s imports).0
      ≡ record s { own = (imported_all g s imports).0.own }
  -- Each name stands for something behind imports, and whatever names stand for, the scope knows
  -- it.
  pub stand : (outside : Ident → Standing) → (names : Ident → Standing)
      × ((name : Ident)
      → StandsFor s.tables own (all_imported imports) outside name (names name))
  pub known : (exports : ℕ → Ident → Standing) (outside names : Ident → Standing)
      → Knows g j outside exports s → s.withs ≡ []
      → ((name : Ident)
      → StandsFor s.tables own (all_imported imports) outside name (names name))
      → Knows g j names exports (imported_all g s imports).0
  -- It is known which variables count as own ones.
  pub counts : (outer : Ident → Bool) → (mine : Ident → Bool)
      × ((name : Ident)
      → IsOwn s.tables own (all_imported imports) outer name (mine name))
  pub counted : AreForeign s → (outer mine : Ident → Bool) → s.withs ≡ [] → KnowsOwn g j outer s
      → ((name : Ident)
      → IsOwn s.tables own (all_imported imports) outer name (mine name))
      → KnowsOwn g j mine (imported_all g s imports).0
  -- It is known which names are taken for the declarations that follow, and which procedures await
  -- their headings.
  pub takes : (before : List ℕ → Bool) (waits : List ℕ → Option TypeNo)
      → ((n : List ℕ) → TakenAs g j (before n) (waits n) (find_name n s.own))
      → (taken : List ℕ → Bool) × (awaited : List ℕ → Option TypeNo)
      × ((n : List ℕ)
      → TakenAs g j (taken n) (awaited n) (find_name n (imported_all g s imports).0.own))
  -- So the block behind imports is elaborated exactly.
  pub block : (exports : ℕ → Ident → Standing) (outside names : Ident → Standing)
      → Knows g j outside exports s → s.withs ≡ []
      → ((name : Ident)
      → StandsFor s.tables own (all_imported imports) outside name (names name))
      → (taken : List ℕ → Bool) (awaited : List ℕ → Option TypeNo)
      → ((n : List ℕ)
      → TakenAs g j (taken n) (awaited n) (find_name n (imported_all g s imports).0.own))
      → (ends : List ℕ) (first : ℕ) (ds : List Decl)
      → IsBlockExact g j exports names (imported_all g s imports).0 taken awaited ends first ds

-- Imports are elaborated exactly, if the module's own definition alone has declared names before.
abbrev pub ImportsAreExact : (g : Gathers) → Judges g → Type 0
ImportsAreExact g j =
    (own : List ℕ → Bool) (s : Scope g.Reported)
    → ((n : List ℕ) → OwnAs (own n) (find_name n s.own))
    → (imports : List Import) → AreImportsExact g j own s imports

-- The same where a program module begins.
abbrev pub FirstImportsAreExact : (g : Gathers) → Judges g → Type 0
FirstImportsAreExact g j =
    (home : ℕ) (tables : List Table) (imports : List Import)
    → AreImportsExact g j (λ n. false) (first_scope home tables) imports

-- The same in a definition, where the names that it declares are marked behind its imports: nothing
-- but names is new there.
abbrev pub DefinitionImportsAreExact : (g : Gathers) → Judges g → Type 0
DefinitionImportsAreExact g j =
    (home : ℕ) (tables : List Table) (defs : List Def) (imports : List Import)
    → AreImportsExact g j (λ n. false) (first_scope home tables) imports
    × (fold marked_def (imported_all g (first_scope home tables) imports).0 defs
    ≡ record (imported_all g (first_scope home tables) imports).0 {
      own = (fold marked_def (imported_all g (first_scope home tables) imports).0 defs).own;
    })

-- a name of the module's own definition
abbrev pub with_declared : {T : Type 0} → List (List ℕ × Known T) → rules.Entry
    → List (List ℕ × Known T)
with_declared names e = enter_name e.0 (Declared Here (Ok e.1)) names

-- The same in an implementation, where its own definition has declared what it exports.
abbrev pub ImplementationImportsAreExact : (g : Gathers) → Judges g → Type 0
ImplementationImportsAreExact g j =
    (exported : List rules.Entry) (s : Scope g.Reported)
    → s.own ≡ fold with_declared [] exported
    → (imports : List Import) → AreImportsExact g j (λ n. is_some (find_name n exported)) s imports

-- What is reported of imports and of the block behind them are exactly the broken rules of both.
abbrev pub FollowingBlocksAreExact : (g : Gathers) → Judges g → Type 0
FollowingBlocksAreExact g j =
    (own : List ℕ → Bool) (s : Scope g.Reported)
    → ((n : List ℕ) → OwnAs (own n) (find_name n s.own))
    → (imports : List Import) (exports : ℕ → Ident → Standing) (outside names : Ident → Standing)
    → Knows g j outside exports s → s.withs ≡ []
    → ((name : Ident) → StandsFor s.tables own (all_imported imports) outside name (names name))
    → (taken : List ℕ → Bool) (awaited : List ℕ → Option TypeNo)
    → ((n : List ℕ)
    → TakenAs g j (taken n) (awaited n) (find_name n (imported_all g s imports).0.own))
    → (ends : List ℕ) (first : ℕ) (ds : List Decl)
    → (whole : List Resolved) × (in_order whole ≡ declarations_of ds)
    × ((behind : Ident → Standing)
    → blocks.AllStand (imported_all g s imports).0.types exports names taken awaited
    (is_nested (imported_all g s imports).0) (declarations_of ds) whole behind
    → Reports g j (Repeats g j names (imported_all g s imports).0)
    (λ f. BrokenIn s.tables own (all_imported imports) f
    ⊎ (blocks.BrokenIn (imported_all g s imports).0.types exports names taken awaited
    (is_nested (imported_all g s imports).0) (declarations_of ds) whole f
    ⊎ BrokenAgain (blocks.types_behind (imported_all g s imports).0.types whole) exports taken
    (declarations_of ds) behind [] (declarations_of ds) f))
    (declared_block g ends (imported_all g s imports) first ds).1)
    × ((declared_block g ends (imported_all g s imports) first ds).0
    ≡ (declared_block g ends ((imported_all g s imports).0, Ok tt) first ds).0)
