-- What the prologue of a procedure keeps, in a setting.
use Rattle.std.specs.Prelude.{ℕ, suc, List, [], ◌∷◌, ◌++◌, slice_get}
use Rattle.wasm_tree.specs.declared.instr.Instr.{Instr}
use Rattle.wasm_tree.specs.declared.instr.Instr.TheVariants.{Call, LocalGet, LocalSet, LocalTee, Numeric}
use Rattle.wasm_tree.specs.declared.instr.Numeric.TheVariants as numeric
use Rattle.layout_storage.specs.Types.{Ty}
use Rattle.def_scheme.specs.Coded.{Setting, raise_address, wrap_word, copy}
use Rattle.def_scheme.specs.Cells.{store_scalar, word}
use Rattle.def_scheme.specs.Exprs.{frame_at}
use Rattle.def_scheme.specs.Functions.{limit_check, bytes_code}

-- the procedure's own frame
abbrev pub own : Setting → Ty
own s = frame_at (slice_get s.frames 0)

-- a word at an offset in the frame
abbrev pub word_at : (at : ℕ) → List Instr → List Instr
word_at at value = LocalGet 0 ∷ (raise_address at ++ (value ++ store_scalar word))

-- the stack's top is kept, and raised by the bytes of a copy
abbrev pub copy_begun : (top p x element : ℕ) → List Instr
copy_begun top p x element =
    LocalGet top ∷ LocalSet p ∷ LocalGet top ∷ (bytes_code (suc x) element
    ++ (Numeric numeric.I32Add ∷ LocalTee top ∷ limit_check))

abbrev pub copy_made : (p x element : ℕ) → List Instr
copy_made p x element =
    LocalGet p ∷ LocalGet x ∷ wrap_word ∷ (bytes_code (suc x) element ++ (Call copy ∷ []))
