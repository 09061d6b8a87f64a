-- That the rules of the language decide what is answered of a module.
use Rattle.std.specs.Prelude.{◌≡◌, ◌⊎◌, ℕ, Bool, false, List, [], ◌∷◌, ◌++◌, None, Some, Result, Ok, Err}
use Rattle.std.specs.Option.{is_some}
use Rattle.m2_rule.specs.Breaches.{is_less}
use Rattle.m2_rule.specs.declared.breach.Breach.{Breach}
use Rattle.m2_rule.specs.declared.rule.Rule.TheVariants as rule
use Rattle.m2_tree.specs.declared.name.Ident.{Ident}
use Rattle.m2_tree.specs.declared.decl.Block.{Block}
use Rattle.m2_tree.specs.declared.decl.Def.{Def}
use Rattle.m2_tree.specs.declared.decl.Contents.TheVariants as contents
use Rattle.m2_tree.specs.declared.decl.Module.{Module}
use Rattle.typed_tree.specs.declared.known_types.Types.{Types}
use Rattle.typed_tree.specs.declared.table.Table.{Table}
use Rattle.typed_tree.specs.declared.typed_module.TypedModule.{TypedModule}
use Rattle.typed_tree.specs.Names.{find_name}
use Rattle.check_scope.specs.Elaborated.{least}
use Rattle.check_definition.specs.Predeclared.{console}
use Rattle.check_definition.specs.Compiled.{definition_table}
use Rattle.check_body.specs.Checks.{body_module}
use Rattle.check_body.specs.Own.{with_own_types}
use Rattle.def_typing.specs.Operators.{◌!◌}
use Rattle.def_typing.specs.Things.{Standing}
pub use Rattle.def_typing.specs.Parts.{Among, here, later}
use Rattle.def_typing.specs.Returns.{Nothing}
use Rattle.def_typing.specs.Imports as imports
use Rattle.def_typing.specs.Imports.{Entry, all_imported}
use Rattle.def_typing.specs.Again.{BrokenAgain}
use Rattle.def_typing.specs.Definitions as definitions
use Rattle.def_typing.specs.Definitions.{Context, Placed, AllFollow}
use Rattle.def_typing.specs.Bodies.{Place, Reads, BrokenBlock, LacksHeading}
use Rattle.def_typed.specs.Modules.{MeansModule}
use Rattle.law_typed.specs.One.{IsOne}
use Rattle.law_rules.specs.Standing.{StandsFor}
use Rattle.law_rules.specs.Outside.{stands_own, stands_exported}
use Rattle.law_rules.specs.Defining.{all_declared, first_context, met_types, IsTable}
pub use Rattle.law_rules.specs.Tables.{IsTableOf, is_answered, CanBeImported, of_definition}
use Rattle.law_rules.specs.Bodies.{awaited_type, is_variable_of, IsTakenBy}

-- the tables that a module is checked with: the table of Console is always there
abbrev pub with_console : List Table → List Table
with_console imported = imported ++ console ∷ []

-- The tables are those of definitions of other modules.
abbrev pub AreImported : (home : ℕ) → List Table → Type 0
AreImported home imported = (t : Table) → Among t imported → CanBeImported least home t

-- ---- what is answered

-- A module has its table, or its typed tree, exactly if no rule is broken in it. Else the least of
-- the broken ones is reported, by place and then by number. What is reported only if nothing else
-- is comes last.
pub data IsAnswered {A : Type 0} (Is : A → Type 0) (Breaks : Breach → Type 0)
    : Result A Breach → Type 0 where
  is_whole : (x : A) → Is x → ((f : Breach) → Breaks f → ⊥) → IsAnswered Is Breaks (Ok x)
  is_refused : (r : Breach) → Breaks r → ((f : Breach) → Breaks f → is_less f r ≡ false)
      → IsAnswered Is Breaks (Err r)

-- where the block of a body begins: an implementation has the variables that its definition
-- exports, and awaits the headings of the procedures
abbrev pub body_place : (home : ℕ) → List Entry → (Ident → Standing) → (List ℕ → Bool) → Place
body_place home exported names taken = record {
  names = names;
  own = λ name. is_variable_of home (find_name name.name exported);
  taken = taken;
  awaited = λ n. awaited_type (find_name n exported);
  nested = false;
  gives = Nothing;
}

abbrev pub is_exported : List Entry → List ℕ → Bool
is_exported exported n = is_some (find_name n exported)

-- a module, and the tables of the modules that it can import from
module _ (m : Module) (tables : List Table) where
  abbrev exports : ℕ → Ident → Standing
  exports = stands_exported tables

  -- What names stand for behind the imports of a body, whose definition exports these names, and
  -- which names are taken there. Definitions and programs have no definition.
  pub record BehindImports (exported : List Entry) : Type 0 where
    pub names : Ident → Standing
    pub taken : List ℕ → Bool
    pub stand : (name : Ident)
        → StandsFor tables (is_exported exported) (all_imported m.imports) (stands_own exported)
        name (names name)
    pub takes : (n : List ℕ)
        → IsTakenBy tables (is_exported exported) (all_imported m.imports) n (taken n)

  -- What the rules say of a definition, and of what is answered.
  pub record RulesDefinition (home : ℕ) (defs : List Def) (answer : Result Table Breach)
      : Type 0 where
    pub begin : BehindImports []
    -- the declarations, each with what is known where it stands, and with what it adds
    pub whole : List Placed
    -- what is known behind them
    pub last : Context
    -- Each adds the types and constants that the rules say, and its names stand for what they say.
    pub follow :
        AllFollow exports (first_context home tables begin.names begin.taken) (all_declared defs)
        whole last
    -- There is no other reading of the declarations.
    pub only : (others : List Placed) (end : Context)
        → AllFollow exports (first_context home tables begin.names begin.taken) (all_declared defs)
        others end
        → (others ≡ whole) × (end ≡ last)
    pub answered : IsAnswered (IsTable home m tables exports whole last)
        (λ f.
        imports.BrokenIn tables (is_exported []) (all_imported m.imports) f
        ⊎ (definitions.BrokenIn exports whole f
        ⊎ BrokenAgain last.types exports begin.taken (all_declared defs) last.names []
        (all_declared defs) f))
        answer

  -- The same of a body, by what its definition exports, by the modules that the definition imports,
  -- and by the types that are known before its block.
  pub record RulesBody (home : ℕ) (exported : List Entry) (first_imports : List (List ℕ × ℕ))
      (types : Types) (b : Block) (answer : Result TypedModule Breach) : Type 0 where
    pub begin : BehindImports exported
    -- how the rules read its block, and the types that are known behind it
    pub end : Types
    pub read : Reads exports (body_place home exported begin.names begin.taken) types b end
    -- Its typed tree is the one that the rules give. Rules are broken in its imports, in its block,
    -- and by procedures of the definition without a heading.
    pub answered :
        IsAnswered (IsOne (MeansModule home tables exported first_imports m exports read))
        (λ f.
        imports.BrokenIn tables (is_exported exported) (all_imported m.imports) f
        ⊎ (BrokenBlock exports read f ⊎ LacksHeading exports read m.name.pos f))
        answer

abbrev pub IsDefinitionRuled : (home : ℕ) → Module → List Table → List Def → Type 0
IsDefinitionRuled home m imported defs =
    RulesDefinition m (with_console imported) home defs (definition_table least home m imported)

-- A program has no definition.
abbrev pub IsProgramRuled : (home : ℕ) → Module → List Table → Block → Type 0
IsProgramRuled home m imported b =
    RulesBody m (with_console imported) home [] [] (met_types home (with_console imported)) b
    (body_module least home m None imported)

-- The types of an implementation's definition come first.
abbrev pub IsImplementationRuled : (own : Table) → Module → List Table → Block → Type 0
IsImplementationRuled own m imported b =
    (home : ℕ)
    → RulesBody m (with_console imported) own.number own.exported own.imports
    (with_own_types (met_types own.number (with_console imported)) own) b
    (body_module least home m (Some own) imported)

-- An implementation without a definition is refused.
abbrev pub IsLonely : (home : ℕ) → Module → List Table → Type 0
IsLonely home m imported =
    body_module least home m None imported ≡ Err (m.name.pos ! rule.LonelyModule)

-- ---- the laws

abbrev pub DefinitionsAreRuled : Type 0
DefinitionsAreRuled =
    (home : ℕ) (m : Module) (imported : List Table) (defs : List Def)
    → m.contents ≡ contents.Definition defs → IsDefinitionRuled home m imported defs

abbrev pub ProgramsAreRuled : Type 0
ProgramsAreRuled =
    (home : ℕ) (m : Module) (imported : List Table) → AreImported home imported → (b : Block)
    → m.contents ≡ contents.Program b → IsProgramRuled home m imported b

abbrev pub ImplementationsAreRuled : Type 0
ImplementationsAreRuled =
    (own : Table) (m : Module) (imported : List Table) → IsTableOf least own.number own
    → AreImported own.number imported → (b : Block) → m.contents ≡ contents.Implementation b
    → IsImplementationRuled own m imported b

abbrev pub LonelyAreRefused : Type 0
LonelyAreRefused =
    (home : ℕ) (m : Module) (imported : List Table) (b : Block)
    → m.contents ≡ contents.Implementation b → IsLonely home m imported
