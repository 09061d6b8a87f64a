-- What there may be one of.
use Rattle.std.specs.Prelude.{◌≤◌, length, map}
use Rattle.wasm_tree.specs.declared.module.WModule.{WModule}
use Rattle.wasm_tree.specs.Validity.{Context, AreDistinct}

-- at most one table and one memory, and no two exports of one name
pub record AreSingle (c : Context) (m : WModule) : Type 0 where
  pub one_table : length c.tables ≤ 1
  pub one_memory : length c.memories ≤ 1
  pub names : AreDistinct (map (λ e. e.name) m.exports)
