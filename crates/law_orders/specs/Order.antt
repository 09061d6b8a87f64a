-- The same modules in another order.
use Rattle.std.specs.Prelude.{[], ◌∷◌, ◌++◌}
use Rattle.typed_tree.specs.declared.typed_module.TypedModule.{TypedModule}
use Rattle.def_meaning.specs.Environment.{Modules}

-- the second list has the modules of the first one, each once, in any order
pub data IsOrder : Modules → Modules → Type 0 where
  NoModules : IsOrder [] []
  OneModule : (before rest q : Modules) (b : TypedModule) → IsOrder (before ++ rest) q
      → IsOrder (before ++ b ∷ rest) (b ∷ q)
