-- What is answered of programs and implementations.
use Rattle.std.specs.Prelude.{◌≡◌, ◌⊎◌, ℕ, ◌==◌, Bool, true, false, List, [], ◌∷◌, ◌++◌, Option, Some, None, Result, Ok, Err}
use Rattle.std.specs.Option.{is_some}
use Rattle.m2_rule.specs.declared.breach.Breach.{Breach}
use Rattle.m2_rule.specs.declared.rule.Rule.TheVariants as rule
use Rattle.m2_tree.specs.declared.name.Ident.{Ident}
use Rattle.m2_tree.specs.declared.decl.Block.{Block}
use Rattle.m2_tree.specs.declared.decl.Def.{Def}
use Rattle.m2_tree.specs.declared.decl.Contents.{Contents}
use Rattle.m2_tree.specs.declared.decl.Contents.TheVariants as contents
use Rattle.m2_tree.specs.declared.decl.Module.{Module}
use Rattle.typed_tree.specs.declared.meaning.Meaning.{Meaning}
use Rattle.typed_tree.specs.declared.meaning.Meaning.TheVariants as meaning
use Rattle.typed_tree.specs.declared.table.Table.{Table}
use Rattle.typed_tree.specs.declared.types.TypeNo.{TypeNo}
use Rattle.typed_tree.specs.declared.typed_module.TypedModule.{TypedModule}
use Rattle.typed_tree.specs.declared.known_types.Types.{Types}
use Rattle.typed_tree.specs.Names.{find_name}
use Rattle.check_scope.specs.Elaborated.{Gathers}
use Rattle.check_definition.specs.Predeclared.{console, first_scope}
use Rattle.check_body.specs.Checks.{body_module}
use Rattle.check_body.specs.Own.{with_own_types, implementation_scope}
use Rattle.def_typing.specs.Operators.{◌!◌}
use Rattle.def_typing.specs.Things.{Standing}
use Rattle.def_typing.specs.Parts.{Among}
use Rattle.def_typing.specs.Returns.{Nothing}
use Rattle.def_typing.specs.Imports as imports
use Rattle.def_typing.specs.Imports.{all_imported}
use Rattle.def_typing.specs.Bodies.{Place, Reads, BrokenBlock, LacksHeading}
use Rattle.law_typing.specs.Judging.{Judges, Accounts}
use Rattle.law_typing.specs.Known.{Knows, AreOnce}
use Rattle.law_rules.specs.Standing.{StandsFor}
use Rattle.law_rules.specs.Defining.{none, IsTaken, AreSound, met_types}

-- what is said of the typed module here: its name, and the types that are known behind its bodies
pub record IsTyped (m : Module) (end : Types) (t : TypedModule) : Type 0 where
  pub of_name : t.name ≡ m.name.name
  pub of_types : t.types ≡ end

-- A module is answered exactly if no rule is broken, and else broken rules are reported.
pub data IsAnswered (g : Gathers) (j : Judges g) (Is : TypedModule → Type 0)
    (Breaks : Breach → Type 0) : Result TypedModule g.Reported → Type 0 where
  is_module : (t : TypedModule) → Is t → ((f : Breach) → Breaks f → ⊥)
      → IsAnswered g j Is Breaks (Ok t)
  is_refused : (r : g.Reported) → Accounts g j (λ f. ⊥) Breaks r → (f : Breach) → Breaks f
      → IsAnswered g j Is Breaks (Err r)

-- No table exports a variable of the module itself, or a local variable.
abbrev pub IsForeign : ℕ → Meaning → Type 0
IsForeign home (meaning.Variable v) = (v.home == home) ≡ false
IsForeign home (meaning.Local v) = ⊥
IsForeign home other = Unit {0}

abbrev pub ExportForeign : ℕ → List Table → Type 0
ExportForeign home tables =
    (t : Table) → Among t tables → (e : imports.Entry) → Among e t.exported → IsForeign home e.1

-- where the block of a program begins: no variable is its own yet, and no heading is awaited
abbrev pub program_place : (Ident → Standing) → (List ℕ → Bool) → Place
program_place names taken = record {
  names = names;
  own = λ name. false;
  taken = taken;
  awaited = λ n. None;
  nested = false;
  gives = Nothing;
}

-- what is known of a program that imports from these tables
pub record IsProgramExact (g : Gathers) (j : Judges g) (home : ℕ) (m : Module)
    (imported tables : List Table) (exports : ℕ → Ident → Standing) (names : Ident → Standing)
    (taken : List ℕ → Bool) (b : Block) : Type 0 where
  -- how the rules read its block, and the types that are known behind it
  pub end : Types
  pub read : Reads exports (program_place names taken) (met_types home tables) b end
  -- Exactly the rules that are broken in its imports and in its block are reported.
  pub answered : IsAnswered g j (IsTyped m end)
      (λ f. imports.BrokenIn tables none (all_imported m.imports) f ⊎ BrokenBlock exports read f)
      (body_module g home m None imported)

-- Programs are answered exactly, whatever they import. No rule is broken where the names outside
-- are declared.
abbrev pub ProgramsAreExact : (g : Gathers) → Judges g → Type 0
ProgramsAreExact g j =
    (home : ℕ) (m : Module) (imported tables : List Table)
    → tables ≡ imported ++ console ∷ []
    → ExportForeign home tables
    → (exports : ℕ → Ident → Standing) (outside names : Ident → Standing)
    → Knows g j outside exports (first_scope home tables)
    → AreSound outside
    → ((name : Ident) → StandsFor tables none (all_imported m.imports) outside name (names name))
    → (taken : List ℕ → Bool)
    → ((n : List ℕ) → IsTaken tables (all_imported m.imports) n (taken n))
    → (b : Block)
    → m.contents ≡ contents.Program b
    → IsProgramExact g j home m imported tables exports names taken b

-- ---- implementations

-- A name is taken if its own definition declares it, or if it is imported.
pub data IsTakenBy (tables : List Table) (own : List ℕ → Bool) (front : List imports.Imported)
    (n : List ℕ) : Bool → Type 0 where
  by_definition : own n ≡ true → IsTakenBy tables own front n true
  by_import : (o : imports.Origin) (m : Meaning) → imports.Brings tables own front n o m
      → IsTakenBy tables own front n true
  by_none : own n ≡ false
      → ((o : imports.Origin) (m : Meaning) → imports.Brings tables own front n o m → ⊥)
      → IsTakenBy tables own front n false

-- the type of a procedure of the definition, which awaits its heading
abbrev pub awaited_type : Option Meaning → Option TypeNo
awaited_type (Some (meaning.Procedure p)) = Some p.heading
awaited_type other = None

-- a variable of the definition is the module's
abbrev pub is_variable_of : ℕ → Option Meaning → Bool
is_variable_of home (Some (meaning.Variable v)) = v.home == home
is_variable_of home other = false

abbrev pub declares : Table → List ℕ → Bool
declares own n = is_some (find_name n own.exported)

-- where the block of an implementation begins, by the table of its definition
abbrev pub implementation_place : Table → (Ident → Standing) → (List ℕ → Bool) → Place
implementation_place own names taken = record {
  names = names;
  own = λ name. is_variable_of own.number (find_name name.name own.exported);
  taken = taken;
  awaited = λ n. awaited_type (find_name n own.exported);
  nested = false;
  gives = Nothing;
}

-- The definition exports each name once, and no local variable.
abbrev pub IsNoLocal : Meaning → Type 0
IsNoLocal (meaning.Local v) = ⊥
IsNoLocal other = Unit {0}

pub record IsDefined (own : Table) : Type 0 where
  pub once : AreOnce own.exported
  pub no_locals : (e : imports.Entry) → Among e own.exported → IsNoLocal e.1

-- what is known of an implementation, by the table of its definition
pub record IsImplementationExact (g : Gathers) (j : Judges g) (own : Table) (m : Module)
    (imported tables : List Table) (exports : ℕ → Ident → Standing) (names : Ident → Standing)
    (taken : List ℕ → Bool) (b : Block) : Type 0 where
  -- how the rules read its block; the types of its definition come first
  pub end : Types
  pub read : Reads exports (implementation_place own names taken)
      (with_own_types (met_types own.number tables) own) b end
  -- Exactly the rules that are broken in its imports, in its block, and by procedures of the
  -- definition without a heading are reported.
  pub answered : (home : ℕ) → IsAnswered g j (IsTyped m end)
      (λ f. imports.BrokenIn tables (declares own) (all_imported m.imports) f
      ⊎ (BrokenBlock exports read f ⊎ LacksHeading exports read m.name.pos f))
      (body_module g home m (Some own) imported)

-- Implementations are answered exactly, whatever they import.
abbrev pub ImplementationsAreExact : (g : Gathers) → Judges g → Type 0
ImplementationsAreExact g j =
    (own : Table) (m : Module) (imported tables : List Table) → tables ≡ imported ++ console ∷ []
    → IsDefined own → ExportForeign own.number tables
    → (exports : ℕ → Ident → Standing) (outside names : Ident → Standing)
    → Knows g j outside exports (implementation_scope own tables) → AreSound outside
    → ((name : Ident)
    → StandsFor tables (declares own) (all_imported m.imports) outside name (names name))
    → (taken : List ℕ → Bool)
    → ((n : List ℕ) → IsTakenBy tables (declares own) (all_imported m.imports) n (taken n))
    → (b : Block) → m.contents ≡ contents.Implementation b
    → IsImplementationExact g j own m imported tables exports names taken b

-- For each implementation there is what names stand for before its block, so the law above speaks
-- of each.
abbrev pub ImplementationsAreKnown : (g : Gathers) → Judges g → Type 0
ImplementationsAreKnown g j =
    (own : Table) (m : Module) (tables : List Table) → IsDefined own
    → (exports : ℕ → Ident → Standing) × (outside : Ident → Standing)
    × (names : Ident → Standing) × (taken : List ℕ → Bool)
    × Knows g j outside exports (implementation_scope own tables) × AreSound outside
    × ((name : Ident)
    → StandsFor tables (declares own) (all_imported m.imports) outside name (names name))
    × ((n : List ℕ) → IsTakenBy tables (declares own) (all_imported m.imports) n (taken n))

-- An implementation has a definition, and a definition has no body.
pub data HasNoDefinition : Contents → Type 0 where
  an_implementation : {b : Block} → HasNoDefinition (contents.Implementation b)
  a_definition : {defs : List Def} → HasNoDefinition (contents.Definition defs)

abbrev pub LonelyAreRefused : (g : Gathers) → Judges g → Type 0
LonelyAreRefused g j =
    (home : ℕ) (m : Module) (imported : List Table) → HasNoDefinition m.contents
    → IsAnswered g j (λ t. ⊥) (λ f. f ≡ m.name.pos ! rule.LonelyModule)
    (body_module g home m None imported)
