-- The module of a body that is parsed and accepted has an encoding, if it is small.
use Rattle.std.specs.Prelude.{◌≡◌, ◌≤◌, ℕ, nat_lt, true, List, length, Option}
use Rattle.std.specs.List.{list_all}
use Rattle.m2_tree.specs.declared.token.Token.{Token}
use Rattle.m2_tree.specs.declared.decl.Module.{Module}
use Rattle.typed_tree.specs.declared.table.Table.{Table}
use Rattle.typed_tree.specs.declared.typed_module.TypedModule.{TypedModule}
use Rattle.def_grammar.specs.Refusal.{IsTree, max_nesting}
use Rattle.check_scope.specs.Elaborated.{Gathers}
use Rattle.check_body.specs.Checks.{body_module}
use Rattle.layout_storage.specs.Texts.{module_texts}
use Rattle.def_scheme.specs.Modules.{functions, all_characters, typed_module}
use Rattle.wasm_binary.specs.Binary.{module_fits}
use Rattle.law_modules.specs.Linked.{Program}
use Rattle.law_simulation.specs.Modules.{IsModule, IsTypedModule}
use Rattle.law_well_formed.specs.Formed.{Holds}
use Rattle.law_well_formed.specs.FormedModules.{AreFor}
use Rattle.law_encoding.specs.Fits.{few_entries, CountsFew}
use Rattle.law_encoding.specs.ValidNumbers.{code_constants_fit}
use Rattle.law_encoding.specs.ImportsRoom.{NamesAreShort}
use Rattle.law_encoding.specs.Nested.{max_levels, most_levels}
use Rattle.law_encoding.specs.Outward.{outward_bodies}
use Rattle.law_encoding.specs.SmallParts.{IsSmallModule}

-- The module counts few, it has few names and short ones, the constants in its code fit, and its
-- texts are bytes, and few.
pub record IsSmallBody (m : TypedModule) : Type 0 where
  pub counts : CountsFew m
  pub names : NamesAreShort m
  pub constants : list_all (λ f. code_constants_fit f.body.code) (functions m) ≡ true
  pub texts : list_all (λ b. nat_lt b 256) (all_characters (module_texts m)) ≡ true
  pub texts_size : length (all_characters (module_texts m)) ≤ few_entries

-- The rest holds of each module that is parsed and accepted, if the tables are well formed.
abbrev pub AcceptedFit : Gathers → Type 0
AcceptedFit g = (ts : List Token) (m : Module) → IsTree ts m
    → (number : ℕ) (own : Option Table) (tables : List Table) → AreFor number own tables m.contents
    → Holds (λ t. IsSmallBody t → module_fits (typed_module t) ≡ true)
    (body_module g number m own tables)

-- ---- typed programs

-- The module of a body of a typed program has an encoding, if it is small, counts few, and has few
-- names and short ones; if its functions nest at most 4096 levels, and its bodies go at most 200
-- procedures outwards.
abbrev pub TypedModulesFit : Type 0
TypedModulesFit = (p : Program) (pages place : ℕ) (m : TypedModule) → IsModule p place m
    → IsTypedModule p pages place m → IsSmallModule p m → CountsFew m → NamesAreShort m
    → most_levels m ≤ max_levels → outward_bodies m ≤ max_nesting
    → module_fits (typed_module m) ≡ true
