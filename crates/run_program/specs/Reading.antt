-- What it is to read modules back from their bytes.
use Rattle.std.specs.Prelude.{◌≡◌, ◌⊎◌, ℕ, List, String}
use Rattle.std.specs.Global.{Global, Vec}
use Rattle.wasm_tree.specs.declared.fault.WFault.{WFault}
use Rattle.wasm_tree.specs.declared.fault.WFault.TheVariants.{NoMemory}
use Rattle.wasm_tree.specs.declared.module.WModule.{WModule}
use Rattle.wasm_tree.specs.Validity.{IsValid}
use Rattle.wasm_binary.specs.Binary.{Encodes}

-- the bytes encode this module, and it is valid
pub record IsModule (bytes : List ℕ) (m : WModule) : Type 0 where
  pub encoded : Encodes bytes m
  pub valid : IsValid m

-- the bytes of a module that stands beside its name
abbrev pub bytes_of : String Global × Vec ℕ → List ℕ
bytes_of m = m.1.items

-- memory was refused, or else there is this reason
abbrev pub Lacks : WFault → Type 0 → Type 0
Lacks fault reason = (fault ≡ NoMemory) ⊎ reason
