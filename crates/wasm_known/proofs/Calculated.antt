-- An instruction that makes a number of others.
use Rattle.std.proofs.Common.{◌≡◌, List, [], ◌∷◌, ◌++◌, Some, ap}
use Rattle.wasm_tree.specs.declared.instr.Instr.{Instr}
use Rattle.wasm_tree.specs.declared.instr.Instr.TheVariants as instr
use Rattle.wasm_tree.specs.declared.instr.Numeric.{Numeric}
use Rattle.wasm_tree.specs.declared.module.WModule.{WModule}
use Rattle.wasm_tree.specs.declared.store.Value.{Value}
use Rattle.wasm_tree.specs.declared.store.Store.{Store}
use Rattle.wasm_tree.specs.Machine.{Activation, Going, or_trap, push_value, calculation}
use Rattle.wasm_known.specs.Known.{Leads, with}
use Rattle.wasm_known.proofs.Computed.{one}

module _ (modules : List WModule) (st : Store) (callers : List Activation) where
  pub number_leads : (now : Activation) (o : Numeric) (rest : List Instr) (stack s : List Value) (v : Value)
      → calculation o stack ≡ Some (s, v)
      → Leads modules 1 (Going st (with now (instr.Numeric o ∷ rest) stack) callers)
      (Going st (with now rest (s ++ v ∷ [])) callers)
  number_leads now o rest stack s v e = one modules _ _
      (ap (λ q. or_trap q (λ p. push_value st (with now rest p.0) callers p.1)) e)
