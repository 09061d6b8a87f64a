-- What is handed out.
use Rattle.std.specs.Prelude.{ℕ, List}
use Rattle.wasm_tree.specs.declared.module.WModule.{WModule}
use Rattle.wasm_tree.specs.Validity.{IsValid}
use Rattle.wasm_binary.specs.Binary.{Encodes}

-- the bytes encode this module, and it is valid
pub record IsModule (bytes : List ℕ) (tree : WModule) : Type 0 where
  pub encodes : Encodes bytes tree
  pub valid : IsValid tree
