-- How many levels of blocks code nests.
use Rattle.std.specs.Prelude.{ℕ, ◌+◌, List}
use Rattle.wasm_tree.specs.declared.instr.Instr.{Instr, Instr-F, fold-Instr}
use Rattle.wasm_tree.specs.declared.instr.Instr.TheOpen as layer
use Rattle.wasm_tree.specs.declared.module.Function.{Function}
use Rattle.law_encoding.specs.Nesting.{◌⊔◌, deepest_of, deepest, deepest_if}

abbrev pub instr_layer : Instr-F ℕ → ℕ
instr_layer (layer.Block t code) = 1 + deepest code
instr_layer (layer.Loop t code) = 1 + deepest code
instr_layer (layer.If t code others) = 1 + (deepest code ⊔ deepest_if others)
instr_layer _ = 0

unfoldable pub levels_in : Instr → ℕ
levels_in = fold-Instr ℕ instr_layer

unfoldable pub levels : List Instr → ℕ
levels code = deepest_of levels_in code

abbrev pub function_levels : Function → ℕ
function_levels f = levels f.body.code
