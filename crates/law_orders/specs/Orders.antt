-- The modules of a program in any order, link first: bodies import from link and the host alone.
use Rattle.std.specs.Prelude.{◌≡◌, ℕ, List, [], ◌∷◌, map, Ok}
use Rattle.wasm_tree.specs.declared.module.WModule.{WModule}
use Rattle.wasm_tree.specs.declared.store.Store.{Store}
use Rattle.wasm_tree.specs.Machine.{Config, Going}
use Rattle.wasm_tree.specs.Linking.{link}
use Rattle.def_meaning.specs.Outcome.{Outcome}
use Rattle.def_scheme.specs.Modules.{typed_module, typed_link}
use Rattle.law_modules.specs.Linked.{Program, all, linked_store, begin, IsLinkable}
use Rattle.law_simulation.specs.Behaves.{Behaves}
use Rattle.law_orders.specs.Order.{IsOrder}
use Rattle.law_orders.specs.Renumbered.{AreAlike, SameConfig}

-- the module link, and the modules of the bodies in this order
abbrev pub all_in : (p : Program) → (pages : ℕ) → (q : Program) → List WModule
all_in p pages q = typed_link p pages ∷ map typed_module q

-- They link in this order too, and what they lead to differs from what they lead to in start order
-- in the numbers of instances alone.
pub record LinksAlike (p : Program) (pages : ℕ) (q : Program) : Type 0 where
  pub config : Config
  pub links : link (all_in p pages q) ≡ Ok config
  pub number : ℕ → ℕ
  pub new : Store
  pub alike : AreAlike number (all p pages) (all_in p pages q) (linked_store p pages) new
  pub same : SameConfig number (linked_store p pages) new
      (Going (linked_store p pages) (begin p) [])
      config

abbrev pub OrdersLinkAlike : Type 0
OrdersLinkAlike =
    (p : Program) (pages : ℕ) → IsLinkable p pages → (q : Program) → IsOrder p q
    → LinksAlike p pages q

-- So what they do in start order, they do in each.
abbrev pub OrdersBehave : Type 0
OrdersBehave =
    (p : Program) (pages : ℕ) → IsLinkable p pages → (program : ℕ → Outcome) (c : Config)
    → link (all p pages) ≡ Ok c
    → Behaves (all p pages) c program
    → (q : Program)
    → IsOrder p q
    → (d : Config) × (link (all_in p pages q) ≡ Ok d) × Behaves (all_in p pages q) d program
