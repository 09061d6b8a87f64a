-- The encoding of each instruction.
use Rattle.std.proofs.Common.{◌≡◌, ℕ, List, [], ◌∷◌, ◌++◌, Option, Some, None, refl, ap, ◌∙◌}
use Rattle.std.specs.Prelude.{map}
use Rattle.std.specs.List.{concat, flat_map}
use Rattle.wasm_tree.specs.declared.kinds.ValueType.{ValueType}
use Rattle.wasm_tree.specs.declared.instr.Load as load
use Rattle.wasm_tree.specs.declared.instr.StoreWidth.{StoreWidth}
use Rattle.wasm_tree.specs.declared.instr.Numeric as numeric
use Rattle.wasm_tree.specs.declared.instr.Instr.{Instr, Instr-F, out-Instr, map-Instr, fold_out-Instr}
use Rattle.wasm_tree.specs.declared.instr.Instr.TheOpen as layer
use Rattle.wasm_tree.specs.declared.instr.Instr.TheVariants.{Unreachable, Block, Loop, If, Br, BrIf, BrTable, Return, Call, CallIndirect, Drop, LocalGet, LocalSet, LocalTee, GlobalGet, Load, Store, I32Const, I64Const, Numeric}
use Rattle.wasm_tree.specs.declared.instr.Instr.TheVariants.{outs-Unreachable, outs-Block, outs-Loop, outs-If, outs-Br, outs-BrIf, outs-BrTable, outs-Return, outs-Call, outs-CallIndirect, outs-Drop, outs-LocalGet, outs-LocalSet, outs-LocalTee, outs-GlobalGet, outs-Load, outs-Store, outs-I32Const, outs-I64Const, outs-Numeric}
use Rattle.wasm_code.specs.Number.{unsigned, signed32, signed64}
use Rattle.wasm_code.specs.Parts.{vector}
use Rattle.wasm_code.specs.Opcode.{load_opcode, store_opcode, numeric_opcode}
use Rattle.wasm_code.specs.Instructions.{block_type, encoding_step, instr_encoding}

at : (i : Instr) (x : Instr-F Instr) → out-Instr i ≡ x
    → instr_encoding i ≡ encoding_step (map-Instr Instr (List ℕ) instr_encoding x)
unfolding instr_encoding
at i x e = fold_out-Instr (List ℕ) encoding_step i
    ∙ ap (λ (y : Instr-F Instr). encoding_step (map-Instr Instr (List ℕ) instr_encoding y)) e

joined : (is : List Instr) → concat (map instr_encoding is) ≡ flat_map instr_encoding is
joined [] = refl
joined (i ∷ is) = ap (λ (r : List ℕ). instr_encoding i ++ r) (joined is)

pub encoded-Block : (t : Option ValueType) (is : List Instr)
    → instr_encoding (Block t is) ≡ 0x02 ∷ block_type.encoding t ++ flat_map instr_encoding is ++ 0x0B ∷ []
encoded-Block t is = at (Block t is) (layer.Block t is) (outs-Block t is)
    ∙ ap (λ (r : List ℕ). 0x02 ∷ block_type.encoding t ++ r ++ 0x0B ∷ []) (joined is)

pub encoded-Loop : (t : Option ValueType) (is : List Instr)
    → instr_encoding (Loop t is) ≡ 0x03 ∷ block_type.encoding t ++ flat_map instr_encoding is ++ 0x0B ∷ []
encoded-Loop t is = at (Loop t is) (layer.Loop t is) (outs-Loop t is)
    ∙ ap (λ (r : List ℕ). 0x03 ∷ block_type.encoding t ++ r ++ 0x0B ∷ []) (joined is)

pub encoded-If-None : (t : Option ValueType) (is : List Instr)
    → instr_encoding (If t is None) ≡ 0x04 ∷ block_type.encoding t ++ flat_map instr_encoding is ++ 0x0B ∷ []
encoded-If-None t is = at (If t is None) (layer.If t is None) (outs-If t is None)
    ∙ ap (λ (r : List ℕ). 0x04 ∷ block_type.encoding t ++ r ++ 0x0B ∷ []) (joined is)

pub encoded-If-Some : (t : Option ValueType) (is others : List Instr)
    → instr_encoding (If t is (Some others)) ≡ 0x04 ∷ block_type.encoding t ++ flat_map instr_encoding is
    ++ (0x05 ∷ flat_map instr_encoding others ++ 0x0B ∷ [])
encoded-If-Some t is others =
    at (If t is (Some others)) (layer.If t is (Some others)) (outs-If t is (Some others))
    ∙ ap (λ (r : List ℕ). 0x04 ∷ block_type.encoding t ++ r ++ (0x05 ∷ concat (map instr_encoding others) ++ 0x0B ∷ []))
    (joined is)
    ∙ ap (λ (r : List ℕ). 0x04 ∷ block_type.encoding t ++ flat_map instr_encoding is ++ (0x05 ∷ r ++ 0x0B ∷ []))
    (joined others)

pub encoded-Unreachable : instr_encoding Unreachable ≡ 0x00 ∷ []
encoded-Unreachable = at Unreachable layer.Unreachable outs-Unreachable

pub encoded-Br : (l : ℕ) → instr_encoding (Br l) ≡ 0x0C ∷ unsigned.encoding l
encoded-Br l = at (Br l) (layer.Br l) (outs-Br l)

pub encoded-BrIf : (l : ℕ) → instr_encoding (BrIf l) ≡ 0x0D ∷ unsigned.encoding l
encoded-BrIf l = at (BrIf l) (layer.BrIf l) (outs-BrIf l)

pub encoded-BrTable : (ls : List ℕ) (l : ℕ)
    → instr_encoding (BrTable ls l) ≡ 0x0E ∷ (vector unsigned).encoding ls ++ unsigned.encoding l
encoded-BrTable ls l = at (BrTable ls l) (layer.BrTable ls l) (outs-BrTable ls l)

pub encoded-Return : instr_encoding Return ≡ 0x0F ∷ []
encoded-Return = at Return layer.Return outs-Return

pub encoded-Call : (f : ℕ) → instr_encoding (Call f) ≡ 0x10 ∷ unsigned.encoding f
encoded-Call f = at (Call f) (layer.Call f) (outs-Call f)

pub encoded-CallIndirect : (t : ℕ) → instr_encoding (CallIndirect t) ≡ 0x11 ∷ unsigned.encoding t ++ 0x00 ∷ []
encoded-CallIndirect t = at (CallIndirect t) (layer.CallIndirect t) (outs-CallIndirect t)

pub encoded-Drop : instr_encoding Drop ≡ 0x1A ∷ []
encoded-Drop = at Drop layer.Drop outs-Drop

pub encoded-LocalGet : (x : ℕ) → instr_encoding (LocalGet x) ≡ 0x20 ∷ unsigned.encoding x
encoded-LocalGet x = at (LocalGet x) (layer.LocalGet x) (outs-LocalGet x)

pub encoded-LocalSet : (x : ℕ) → instr_encoding (LocalSet x) ≡ 0x21 ∷ unsigned.encoding x
encoded-LocalSet x = at (LocalSet x) (layer.LocalSet x) (outs-LocalSet x)

pub encoded-LocalTee : (x : ℕ) → instr_encoding (LocalTee x) ≡ 0x22 ∷ unsigned.encoding x
encoded-LocalTee x = at (LocalTee x) (layer.LocalTee x) (outs-LocalTee x)

pub encoded-GlobalGet : (x : ℕ) → instr_encoding (GlobalGet x) ≡ 0x23 ∷ unsigned.encoding x
encoded-GlobalGet x = at (GlobalGet x) (layer.GlobalGet x) (outs-GlobalGet x)

pub encoded-Load : (l : load.Load) → instr_encoding (Load l) ≡ load_opcode l ∷ 0x00 ∷ 0x00 ∷ []
encoded-Load l = at (Load l) (layer.Load l) (outs-Load l)

pub encoded-Store : (w : StoreWidth) → instr_encoding (Store w) ≡ store_opcode w ∷ 0x00 ∷ 0x00 ∷ []
encoded-Store w = at (Store w) (layer.Store w) (outs-Store w)

pub encoded-I32Const : (n : ℕ) → instr_encoding (I32Const n) ≡ 0x41 ∷ signed32.encoding n
encoded-I32Const n = at (I32Const n) (layer.I32Const n) (outs-I32Const n)

pub encoded-I64Const : (n : ℕ) → instr_encoding (I64Const n) ≡ 0x42 ∷ signed64.encoding n
encoded-I64Const n = at (I64Const n) (layer.I64Const n) (outs-I64Const n)

pub encoded-Numeric : (n : numeric.Numeric) → instr_encoding (Numeric n) ≡ numeric_opcode n ∷ []
encoded-Numeric n = at (Numeric n) (layer.Numeric n) (outs-Numeric n)
