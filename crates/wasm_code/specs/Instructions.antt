-- The binary format of instructions (Core 1.0, section 5.4), in this project's profile: each number
-- in its shortest encoding.
use Rattle.std.specs.Prelude.{ℕ, zero, suc, Bool, true, false, ◌&&◌, ◌||◌, List, [], ◌∷◌, ◌++◌, length, Option, Some, None, Result, Ok, Err, ◌==◌, if◌then◌else◌}
use Rattle.std.specs.List.{concat, flat_map, list_all}
use Rattle.wasm_tree.specs.declared.fault.WFault.{WFault}
use Rattle.wasm_tree.specs.declared.fault.WFault.TheVariants.{Malformed, OutsideProfile}
use Rattle.wasm_tree.specs.declared.kinds.ValueType.{ValueType}
use Rattle.wasm_tree.specs.declared.kinds.ValueType.TheVariants.{I32, I64}
use Rattle.wasm_tree.specs.declared.instr.Load as load
use Rattle.wasm_tree.specs.declared.instr.StoreWidth.{StoreWidth}
use Rattle.wasm_tree.specs.declared.instr.Numeric as numeric
use Rattle.wasm_tree.specs.declared.instr.Instr.{Instr, Instr-F, fold-Instr}
use Rattle.wasm_tree.specs.declared.instr.Instr.TheOpen as layer
use Rattle.wasm_tree.specs.declared.instr.Instr.TheVariants.{Unreachable, Block, Loop, If, Br, BrIf, BrTable, Return, Call, CallIndirect, Drop, LocalGet, LocalSet, LocalTee, GlobalGet, Load, Store, I32Const, I64Const, Numeric}
use Rattle.wasm_tree.specs.Format.{Format, Reading, ◌>>=◌, byte_at, skip}
use Rattle.wasm_code.specs.Bytes as byte
use Rattle.wasm_code.specs.declared.code.Ending.{Ending}
use Rattle.wasm_code.specs.declared.code.Ending.TheVariants.{End, Else}
use Rattle.wasm_code.specs.Number.{unsigned, signed32, signed64}
use Rattle.wasm_code.specs.Opcode.{numeric_opcode, load_opcode, store_opcode, numeric_of, load_of, store_of}
use Rattle.wasm_code.specs.Parts.{vector}

-- ---- types of values (5.3.1)

abbrev pub value_type_encoding : ValueType → List ℕ
value_type_encoding I32 = byte.i32 ∷ []
value_type_encoding I64 = byte.i64 ∷ []

abbrev pub value_type_of : ℕ → List ℕ → Reading ValueType
value_type_of b bytes =
    if b == byte.i32
    then Ok (I32, bytes)
    else (if b == byte.i64 then Ok (I64, bytes) else Err OutsideProfile)

unfoldable pub value_type : Format ValueType
value_type = record {
  encoding = value_type_encoding;
  reading = λ bytes. byte_at bytes >>= λ b. value_type_of b.0 b.1;
  fits = λ t. true;
}

-- ---- instructions (5.4)

abbrev pub block_type_encoding : Option ValueType → List ℕ
block_type_encoding None = byte.no_result ∷ []
block_type_encoding (Some t) = value_type_encoding t

abbrev pub block_type_of : ℕ → List ℕ → Reading (Option ValueType)
block_type_of b bytes =
    if b == byte.no_result
    then Ok (None, bytes)
    else (value_type_of b bytes >>= λ t. Ok (Some t.0, t.1))

unfoldable pub block_type : Format (Option ValueType)
block_type = record {
  encoding = block_type_encoding;
  reading = λ bytes. byte_at bytes >>= λ b. block_type_of b.0 b.1;
  fits = λ t. true;
}

-- the side of an if behind its else
abbrev pub else_encoding : Option (List (List ℕ)) → List ℕ
else_encoding None = []
else_encoding (Some is) = byte.else ∷ concat is

-- an instruction, if each one inside it is given by its encoding
abbrev pub encoding_step : Instr-F (List ℕ) → List ℕ
encoding_step layer.Unreachable = byte.unreachable ∷ []
encoding_step (layer.Block t is) = byte.block ∷ block_type.encoding t ++ concat is ++ byte.end ∷ []
encoding_step (layer.Loop t is) = byte.loop ∷ block_type.encoding t ++ concat is ++ byte.end ∷ []
encoding_step (layer.If t is others) =
    byte.if ∷ block_type.encoding t ++ concat is ++ (else_encoding others ++ byte.end ∷ [])
encoding_step (layer.Br l) = byte.br ∷ unsigned.encoding l
encoding_step (layer.BrIf l) = byte.br_if ∷ unsigned.encoding l
encoding_step (layer.BrTable ls l) =
    byte.br_table ∷ (vector unsigned).encoding ls ++ unsigned.encoding l
encoding_step layer.Return = byte.return ∷ []
encoding_step (layer.Call f) = byte.call ∷ unsigned.encoding f
encoding_step (layer.CallIndirect t) = byte.call_indirect ∷ unsigned.encoding t ++ 0x00 ∷ []
encoding_step layer.Drop = byte.drop ∷ []
encoding_step (layer.LocalGet x) = byte.local_get ∷ unsigned.encoding x
encoding_step (layer.LocalSet x) = byte.local_set ∷ unsigned.encoding x
encoding_step (layer.LocalTee x) = byte.local_tee ∷ unsigned.encoding x
encoding_step (layer.GlobalGet x) = byte.global_get ∷ unsigned.encoding x
encoding_step (layer.Load l) = load_opcode l ∷ 0x00 ∷ 0x00 ∷ []
encoding_step (layer.Store w) = store_opcode w ∷ 0x00 ∷ 0x00 ∷ []
encoding_step (layer.I32Const n) = byte.i32_const ∷ signed32.encoding n
encoding_step (layer.I64Const n) = byte.i64_const ∷ signed64.encoding n
encoding_step (layer.Numeric n) = numeric_opcode n ∷ []

unfoldable pub instr_encoding : Instr → List ℕ
instr_encoding = fold-Instr (List ℕ) encoding_step

-- numbers fit their widths, and blocks nest at most so deep
abbrev pub fits_step : Instr-F (ℕ → Bool) → (levels : ℕ) → Bool
fits_step (layer.Block t is) zero = false
fits_step (layer.Block t is) (suc levels) = list_all (λ fits. fits levels) is
fits_step (layer.Loop t is) zero = false
fits_step (layer.Loop t is) (suc levels) = list_all (λ fits. fits levels) is
fits_step (layer.If t is others) zero = false
fits_step (layer.If t is None) (suc levels) = list_all (λ fits. fits levels) is
fits_step (layer.If t is (Some others)) (suc levels) =
    list_all (λ fits. fits levels) is && list_all (λ fits. fits levels) others
fits_step (layer.Br l) levels = unsigned.fits l
fits_step (layer.BrIf l) levels = unsigned.fits l
fits_step (layer.BrTable ls l) levels = (vector unsigned).fits ls && unsigned.fits l
fits_step (layer.Call f) levels = unsigned.fits f
fits_step (layer.CallIndirect t) levels = unsigned.fits t
fits_step (layer.LocalGet x) levels = unsigned.fits x
fits_step (layer.LocalSet x) levels = unsigned.fits x
fits_step (layer.LocalTee x) levels = unsigned.fits x
fits_step (layer.GlobalGet x) levels = unsigned.fits x
fits_step (layer.I32Const n) levels = signed32.fits n
fits_step (layer.I64Const n) levels = signed64.fits n
fits_step _ levels = true

unfoldable pub instr_fits : Instr → (levels : ℕ) → Bool
instr_fits = fold-Instr (ℕ → Bool) fits_step

-- the bytes behind the hint and the offset of a load or a store, which are 0
abbrev pub no_offset : List ℕ → Result (List ℕ) WFault
no_offset bytes = skip 0x00 bytes >>= λ s. skip 0x00 s.1 >>= λ t. Ok t.1

-- a load, a store or a numeric instruction, behind its opcode, if the opcode is one of the first,
-- the second or the third kind
abbrev pub memory_reading : Option load.Load → Option StoreWidth → Option numeric.Numeric → List ℕ
    → Reading Instr
memory_reading (Some l) width number bytes = no_offset bytes >>= λ rest. Ok (Load l, rest)
memory_reading None (Some w) number bytes = no_offset bytes >>= λ rest. Ok (Store w, rest)
memory_reading None None (Some n) bytes = Ok (Numeric n, bytes)
memory_reading None None None bytes = Err OutsideProfile

-- The instruction that an opcode begins: of memory, or a numeric one (5.4.4, 5.4.5).
unfoldable pub memory_of : ℕ → List ℕ → Reading Instr
memory_of b bytes = memory_reading (load_of b) (store_of b) (numeric_of b) bytes

-- the same of those that drop an operand, name a variable or push a constant, too (5.4.2, 5.4.3)
unfoldable pub variable_of : ℕ → List ℕ → Reading Instr
variable_of b bytes =
    if b == byte.drop then Ok (Drop, bytes)
    else (if b == byte.local_get then (unsigned.reading bytes >>= λ x. Ok (LocalGet x.0, x.1))
    else (if b == byte.local_set then (unsigned.reading bytes >>= λ x. Ok (LocalSet x.0, x.1))
    else (if b == byte.local_tee then (unsigned.reading bytes >>= λ x. Ok (LocalTee x.0, x.1))
    else (if b == byte.global_get then (unsigned.reading bytes >>= λ x. Ok (GlobalGet x.0, x.1))
    else (if b == byte.i32_const then (signed32.reading bytes >>= λ n. Ok (I32Const n.0, n.1))
    else (if b == byte.i64_const then (signed64.reading bytes >>= λ n. Ok (I64Const n.0, n.1))
    else memory_of b bytes))))))

-- the same of those that go elsewhere, too (5.4.1)
unfoldable pub plain_of : ℕ → List ℕ → Reading Instr
plain_of b bytes =
    if b == byte.unreachable then Ok (Unreachable, bytes)
    else (if b == byte.br then (unsigned.reading bytes >>= λ l. Ok (Br l.0, l.1))
    else (if b == byte.br_if then (unsigned.reading bytes >>= λ l. Ok (BrIf l.0, l.1))
    else (if b == byte.br_table
    then ((vector unsigned).reading bytes >>= λ ls.
    unsigned.reading ls.1 >>= λ l.
    Ok (BrTable ls.0 l.0, l.1))
    else (if b == byte.return then Ok (Return, bytes)
    else (if b == byte.call then (unsigned.reading bytes >>= λ f. Ok (Call f.0, f.1))
    else (if b == byte.call_indirect
    then (unsigned.reading bytes >>= λ t. skip 0x00 t.1 >>= λ s. Ok (CallIndirect t.0, s.1))
    else variable_of b bytes))))))

-- whether the opcode begins an instruction that holds others
abbrev pub opens : ℕ → Bool
opens b = (b == byte.block) || (b == byte.loop) || (b == byte.if)

-- the instruction with one sequence that an opcode of this kind begins
abbrev pub one_sided : ℕ → Option ValueType → List Instr → Instr
one_sided b t is =
    if b == byte.block then Block t is else (if b == byte.loop then Loop t is else If t is None)

-- what ends a sequence
abbrev pub ending_of : ℕ → Option Ending
ending_of b = if b == byte.end then Some End else (if b == byte.else then Some Else else None)

abbrev pub Sequence : Type 0
Sequence = List Instr × Ending

abbrev pub instr_of : (nested : ℕ → List ℕ → Reading Instr) → ℕ → List ℕ → Reading Instr
instr_of nested b bytes =
    if opens b then nested b bytes else plain_of b bytes

-- at most this many instructions and what ends them; `nested` reads an instruction that holds
-- others
unfoldable pub sequence : (nested : ℕ → List ℕ → Reading Instr) (most : ℕ) → List ℕ
    → Reading Sequence
sequence nested zero bytes = Err Malformed
sequence nested (suc most) [] = Err Malformed
sequence nested (suc most) (b ∷ bytes) = elim (ending_of b) [
  | Some e ↦ Ok (([], e), bytes)
  | None ↦ instr_of nested b bytes >>= λ i.
      sequence nested most i.1 >>= λ s.
      Ok ((i.0 ∷ s.0.0, s.0.1), s.1)
]

-- the same with an end behind them: no else may stand there
abbrev pub with_end : Reading Sequence → Reading (List Instr)
with_end read = read >>= λ s. elim s.0.1 [ End ↦ Ok (s.0.0, s.1) | Else ↦ Err OutsideProfile ]

-- the instruction, once its first sequence is read. Only an if goes on behind an else
abbrev pub closing : (inner : List ℕ → Reading Sequence) → ℕ → Option ValueType → List Instr
    → Ending → List ℕ → Reading Instr
closing inner b t is End bytes = Ok (one_sided b t is, bytes)
closing inner b t is Else bytes =
    if b == byte.if
    then (with_end (inner bytes) >>= λ others. Ok (If t is (Some others.0), others.1))
    else Err OutsideProfile

-- an instruction that holds others, behind its opcode, if this many levels of nesting are left
unfoldable pub nested_instruction : (levels : ℕ) → ℕ → List ℕ → Reading Instr
nested_instruction zero b bytes = Err OutsideProfile
nested_instruction (suc levels) b bytes =
    block_type.reading bytes >>= λ t. sequence (nested_instruction levels) (length t.1) t.1 >>= λ s.
    closing (λ rest. sequence (nested_instruction levels) (length rest) rest) b t.0 s.0.0 s.0.1 s.1

-- instructions and what ends them, if this many levels of nesting are left
abbrev pub code_in : (levels : ℕ) → List ℕ → Reading Sequence
code_in levels bytes = sequence (nested_instruction levels) (length bytes) bytes

abbrev pub code_within : (levels : ℕ) → Format (List Instr)
code_within levels = record {
  encoding = λ is. flat_map instr_encoding is ++ byte.end ∷ [];
  reading = λ bytes. with_end (code_in levels bytes);
  fits = λ is. list_all (λ i. instr_fits i levels) is;
}

-- how deep blocks nest in code
abbrev pub max_levels : ℕ
max_levels = 4096

unfoldable pub code : Format (List Instr)
code = code_within max_levels
