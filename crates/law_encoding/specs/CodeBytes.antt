-- How many bytes the encoding of code takes at most, if each number in it fits its width.
use Rattle.std.specs.Prelude.{ℕ, ◌+◌, ◌*◌, List, length}
use Rattle.wasm_tree.specs.declared.instr.Instr.{Instr, Instr-F, fold-Instr}
use Rattle.wasm_tree.specs.declared.instr.Instr.TheOpen as layer
use Rattle.wasm_tree.specs.declared.module.Function.{Function}
use Rattle.law_encoding.specs.Sizes.{sum_of, total, all_if_there}

-- an index has at most five bytes, and so has a constant of 32 bits; one of 64 bits has at most ten
abbrev pub instr_layer : Instr-F ℕ → ℕ
instr_layer layer.Unreachable = 1
instr_layer (layer.Block t code) = 3 + total code
instr_layer (layer.Loop t code) = 3 + total code
instr_layer (layer.If t code others) = 4 + (total code + all_if_there others)
instr_layer (layer.Br l) = 6
instr_layer (layer.BrIf l) = 6
instr_layer (layer.BrTable ls l) = 11 + 5 * length ls
instr_layer layer.Return = 1
instr_layer (layer.Call f) = 6
instr_layer (layer.CallIndirect t) = 7
instr_layer layer.Drop = 1
instr_layer (layer.LocalGet x) = 6
instr_layer (layer.LocalSet x) = 6
instr_layer (layer.LocalTee x) = 6
instr_layer (layer.GlobalGet x) = 6
instr_layer (layer.Load l) = 3
instr_layer (layer.Store w) = 3
instr_layer (layer.I32Const n) = 6
instr_layer (layer.I64Const n) = 11
instr_layer (layer.Numeric o) = 1

unfoldable pub bytes_in : Instr → ℕ
bytes_in = fold-Instr ℕ instr_layer

unfoldable pub bytes : List Instr → ℕ
bytes code = sum_of bytes_in code

-- beside its code, a body has its size, its groups of locals with their number, and its end
abbrev pub function_bytes : Function → ℕ
function_bytes f = 11 + (6 * length f.body.locals + bytes f.body.code)
