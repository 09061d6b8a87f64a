-- What the engine keeps: the modules are valid, and where the run is is well typed under them.
use Rattle.std.specs.Prelude.{List, All}
use Rattle.wasm_tree.specs.declared.module.WModule.{WModule}
use Rattle.wasm_tree.specs.Machine.{Config}
use Rattle.wasm_tree.specs.Validity.{IsValid}
use Rattle.wasm_sound.specs.Sound.{IsSound}

pub record IsWell (modules : List WModule) (c : Config) : Type 0 where
  pub valid : All IsValid modules
  pub sound : IsSound modules c
