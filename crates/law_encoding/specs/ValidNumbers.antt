-- In valid code only constants can be too large: an index is below the number of what there is.
use Rattle.std.specs.Prelude.{◌≡◌, ◌≤◌, ◌+◌, Bool, true, ◌&&◌, List, length}
use Rattle.std.specs.List.{list_all}
use Rattle.wasm_tree.specs.declared.kinds.ValueType.{ValueType}
use Rattle.wasm_tree.specs.declared.instr.Instr.{Instr, Instr-F, fold-Instr}
use Rattle.wasm_tree.specs.declared.instr.Instr.TheOpen as layer
use Rattle.wasm_tree.specs.Validity.{Context, Leads}
use Rattle.wasm_code.specs.Number.{signed32, signed64}
use Rattle.law_encoding.specs.CodeBytes.{bytes}
use Rattle.law_encoding.specs.CodeNumbers.{all_fit, all_fit_if, code_numbers_fit}
use Rattle.law_encoding.specs.Fits.{max_bytes}

-- ---- the constants of code alone

abbrev pub constants_layer : Instr-F Bool → Bool
constants_layer (layer.Block t code) = all_fit code
constants_layer (layer.Loop t code) = all_fit code
constants_layer (layer.If t code others) = all_fit code && all_fit_if others
constants_layer (layer.I32Const n) = signed32.fits n
constants_layer (layer.I64Const n) = signed64.fits n
constants_layer _ = true

unfoldable pub constants_fit : Instr → Bool
constants_fit = fold-Instr Bool constants_layer

unfoldable pub code_constants_fit : List Instr → Bool
code_constants_fit code = list_all constants_fit code

-- ---- what code may name

-- at most 2 ^ 32 of each sort
pub record AreFew (c : Context) : Type 0 where
  pub types : length c.types ≤ max_bytes
  pub functions : length c.functions ≤ max_bytes
  pub globals : length c.globals ≤ max_bytes
  pub locals : length c.locals ≤ max_bytes

-- The numbers of valid code fit, if its constants do, if there is not too much that it may name,
-- and if it takes not too many bytes.
abbrev pub ValidNumbersFit : Type 0
ValidNumbersFit = (c : Context) (code : List Instr) (before after : List ValueType)
    → Leads c code before after → AreFew c → length c.labels + bytes code ≤ max_bytes
    → code_constants_fit code ≡ true → code_numbers_fit code ≡ true
