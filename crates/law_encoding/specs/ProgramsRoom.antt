-- The modules of a typed program have encodings, if its types and its storage have room.
use Rattle.std.specs.Prelude.{◌≡◌, ◌≤◌, ℕ, true, List, length, All, Option, Ok}
use Rattle.std.specs.List.{list_all}
use Rattle.m2_tree.specs.declared.token.Token.{Token}
use Rattle.m2_tree.specs.declared.decl.Module.{Module}
use Rattle.scan_tokens.specs.Division.{HasTokens, max_text}
use Rattle.typed_tree.specs.declared.table.Table.{Table}
use Rattle.typed_tree.specs.declared.typed_module.TypedModule.{TypedModule}
use Rattle.def_grammar.specs.Refusal.{IsTree, max_nesting}
use Rattle.check_scope.specs.Elaborated.{Gathers}
use Rattle.check_body.specs.Checks.{body_module}
use Rattle.def_scheme.specs.Modules.{max_pages}
use Rattle.layout_storage.specs.Fitting.{types_fit}
use Rattle.layout_storage.specs.Layouts.{AllFits}
use Rattle.wasm_binary.specs.Binary.{module_fits}
use Rattle.law_modules.specs.Linked.{Program, all, IsLinkable}
use Rattle.law_simulation.specs.Knows.{IsCoherent}
use Rattle.law_simulation.specs.Modules.{AreModules, AreTypedModules}
use Rattle.law_encoding.specs.DeclaredProcedures.{ExportsOnce}
use Rattle.law_encoding.specs.Fits.{CountsFew}
use Rattle.law_encoding.specs.ImportsRoom.{NamesAreShort}
use Rattle.law_encoding.specs.LinkRoom.{LinkIsSmall}
use Rattle.law_encoding.specs.Nested.{max_levels, most_levels}
use Rattle.law_encoding.specs.Outward.{outward_bodies}
use Rattle.law_encoding.specs.SmallParts.{IsSmallModule}

-- The types, variables, texts and frames of a module have room.
pub record HasStorage (m : TypedModule) : Type 0 where
  pub types : types_fit m.types ≡ true
  pub storage : AllFits m

-- They have room, and the module counts few.
pub record IsStored (m : TypedModule) : Type 0 where
  pub parts : HasStorage m
  pub counts : CountsFew m

-- Each module of a program of stored modules is small, if it knows the others as they are.
abbrev pub StoredAreSmall : Type 0
StoredAreSmall = (p : Program) (place : ℕ) (m : TypedModule) → IsCoherent p place m
    → All IsStored p → IsSmallModule p m

-- It is stored, it has few names and short ones, its functions nest at most 4096 levels, and its
-- bodies go at most 200 procedures outwards.
pub record IsShortModule (m : TypedModule) : Type 0 where
  pub stored : IsStored m
  pub names : NamesAreShort m
  pub levels : most_levels m ≤ max_levels
  pub outward : outward_bodies m ≤ max_nesting

-- The module link and the modules of the bodies have encodings.
abbrev pub ProgramsFit : Type 0
ProgramsFit = (p : Program) (pages : ℕ) → AreModules p → AreTypedModules p pages
    → All IsShortModule p → LinkIsSmall p pages → list_all module_fits (all p pages) ≡ true

-- ---- what is accepted

-- The checker makes the module of a text that is not too long and is scanned and parsed. If the
-- module has a definition of its own, the definition exports each name once.
pub record IsAccepted (g : Gathers) (t : TypedModule) : Type 0 where
  pub text : List ℕ
  pub tokens : List Token
  pub short : length text ≤ max_text
  pub scanned : HasTokens text tokens
  pub tree : Module
  pub parsed : IsTree tokens tree
  pub number : ℕ
  pub own : Option Table
  pub own_once : ExportsOnce own
  pub tables : List Table
  pub accepted : body_module g number tree own tables ≡ Ok t

-- a program has no more modules than there may be files
abbrev pub most_modules : ℕ
most_modules = 1024

-- A program has at most 1024 pages, in which its variables and texts have room, and at most 1024
-- modules.
pub record IsSmallProgram (p : Program) (pages : ℕ) : Type 0 where
  pub linkable : IsLinkable p pages
  pub memory : pages ≤ max_pages
  pub modules : length p ≤ most_modules

-- If the modules are accepted, their functions nest few levels, their bodies go few procedures
-- outwards, and their names are short.
abbrev pub AcceptedProgramsFit : Gathers → Type 0
AcceptedProgramsFit g = (p : Program) (pages : ℕ) → AreModules p → AreTypedModules p pages
    → All (IsAccepted g) p → All HasStorage p → IsSmallProgram p pages
    → list_all module_fits (all p pages) ≡ true
