-- Whether the numbers of code fit their widths.
use Rattle.std.specs.Prelude.{Bool, true, ◌&&◌, List, Option, Some, None}
use Rattle.std.specs.List.{list_all}
use Rattle.wasm_tree.specs.declared.instr.Instr.{Instr, Instr-F, fold-Instr}
use Rattle.wasm_tree.specs.declared.instr.Instr.TheOpen as layer
use Rattle.wasm_code.specs.Number.{unsigned, signed32, signed64}
use Rattle.wasm_code.specs.Parts.{vector}

abbrev pub all_fit : List Bool → Bool
all_fit code = list_all (λ fits. fits) code

abbrev pub all_fit_if : Option (List Bool) → Bool
all_fit_if None = true
all_fit_if (Some code) = all_fit code

-- indexes, labels and constants of 32 bits are below 2 ^ 32, those of 64 bits below 2 ^ 64
abbrev pub numbers_layer : Instr-F Bool → Bool
numbers_layer (layer.Block t code) = all_fit code
numbers_layer (layer.Loop t code) = all_fit code
numbers_layer (layer.If t code others) = all_fit code && all_fit_if others
numbers_layer (layer.Br l) = unsigned.fits l
numbers_layer (layer.BrIf l) = unsigned.fits l
numbers_layer (layer.BrTable ls l) = (vector unsigned).fits ls && unsigned.fits l
numbers_layer (layer.Call f) = unsigned.fits f
numbers_layer (layer.CallIndirect t) = unsigned.fits t
numbers_layer (layer.LocalGet x) = unsigned.fits x
numbers_layer (layer.LocalSet x) = unsigned.fits x
numbers_layer (layer.LocalTee x) = unsigned.fits x
numbers_layer (layer.GlobalGet x) = unsigned.fits x
numbers_layer (layer.I32Const n) = signed32.fits n
numbers_layer (layer.I64Const n) = signed64.fits n
numbers_layer _ = true

unfoldable pub numbers_fit : Instr → Bool
numbers_fit = fold-Instr Bool numbers_layer

unfoldable pub code_numbers_fit : List Instr → Bool
code_numbers_fit code = list_all numbers_fit code
