-- Code inside a block, if this many levels of nesting are left for the block.
use Rattle.std.specs.Prelude.{ℕ, zero, suc, Bool, false, List}
use Rattle.wasm_tree.specs.declared.instr.Instr.{Instr}
use Rattle.wasm_code.specs.Instructions.{code_within}

abbrev pub fits_inside : (levels : ℕ) → List Instr → Bool
fits_inside zero is = false
fits_inside (suc levels) is = (code_within levels).fits is
