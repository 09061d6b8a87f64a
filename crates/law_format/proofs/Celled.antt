-- The cells of each instruction.
use Rattle.std.proofs.Common.{◌≡◌, ℕ, List, [], ◌∷◌, ◌++◌, Option, Some, None, refl, ap, ◌∙◌}
use Rattle.std.specs.Prelude.{map}
use Rattle.std.specs.List.{flat_map}
use Rattle.wasm_tree.specs.declared.kinds.ValueType.{ValueType}
use Rattle.wasm_tree.specs.declared.instr.Load as load
use Rattle.wasm_tree.specs.declared.instr.StoreWidth.{StoreWidth}
use Rattle.wasm_tree.specs.declared.instr.Numeric as numeric
use Rattle.wasm_tree.specs.declared.instr.Instr.{Instr, Instr-F, out-Instr, map-Instr, fold_out-Instr}
use Rattle.wasm_tree.specs.declared.instr.Instr.TheOpen as layer
use Rattle.wasm_tree.specs.declared.instr.Instr.TheVariants.{Unreachable, Block, Loop, If, Br, BrIf, BrTable, Return, Call, CallIndirect, Drop, LocalGet, LocalSet, LocalTee, GlobalGet, Load, Store, I32Const, I64Const, Numeric}
use Rattle.wasm_tree.specs.declared.instr.Instr.TheVariants.{outs-Unreachable, outs-Block, outs-Loop, outs-If, outs-Br, outs-BrIf, outs-BrTable, outs-Return, outs-Call, outs-CallIndirect, outs-Drop, outs-LocalGet, outs-LocalSet, outs-LocalTee, outs-GlobalGet, outs-Load, outs-Store, outs-I32Const, outs-I64Const, outs-Numeric}
use Rattle.wasm_code.specs.Number.{unsigned, signed32, signed64}
use Rattle.wasm_code.specs.Parts.{vector}
use Rattle.wasm_code.specs.Opcode.{load_opcode, store_opcode, numeric_opcode}
use Rattle.law_format.specs.Places.{Opcode, Cell, block_type_cells, opcode, cells_step, instr_cells}

at : (i : Instr) (x : Instr-F Instr) → out-Instr i ≡ x
    → instr_cells i ≡ cells_step (map-Instr Instr (List Cell) instr_cells x)
unfolding instr_cells
at i x e = fold_out-Instr (List Cell) cells_step i
    ∙ ap (λ (y : Instr-F Instr). cells_step (map-Instr Instr (List Cell) instr_cells y)) e

joined : (is : List Instr) → flat_map (λ (c : List Cell). c) (map instr_cells is) ≡ flat_map instr_cells is
joined [] = refl
joined (i ∷ is) = ap (λ (r : List Cell). instr_cells i ++ r) (joined is)

pub celled-Block : (t : Option ValueType) (is : List Instr)
    → instr_cells (Block t is) ≡ (Opcode, 0x02) ∷ (block_type_cells t ++ (flat_map instr_cells is ++ opcode 0x0B []))
celled-Block t is = at (Block t is) (layer.Block t is) (outs-Block t is)
    ∙ ap (λ (r : List Cell). (Opcode, 0x02) ∷ (block_type_cells t ++ (r ++ opcode 0x0B []))) (joined is)

pub celled-Loop : (t : Option ValueType) (is : List Instr)
    → instr_cells (Loop t is) ≡ (Opcode, 0x03) ∷ (block_type_cells t ++ (flat_map instr_cells is ++ opcode 0x0B []))
celled-Loop t is = at (Loop t is) (layer.Loop t is) (outs-Loop t is)
    ∙ ap (λ (r : List Cell). (Opcode, 0x03) ∷ (block_type_cells t ++ (r ++ opcode 0x0B []))) (joined is)

pub celled-If-None : (t : Option ValueType) (is : List Instr)
    → instr_cells (If t is None) ≡ (Opcode, 0x04) ∷ (block_type_cells t ++ (flat_map instr_cells is ++ opcode 0x0B []))
celled-If-None t is = at (If t is None) (layer.If t is None) (outs-If t is None)
    ∙ ap (λ (r : List Cell). (Opcode, 0x04) ∷ (block_type_cells t ++ (r ++ opcode 0x0B []))) (joined is)

pub celled-If-Some : (t : Option ValueType) (is third : List Instr)
    → instr_cells (If t is (Some third)) ≡ (Opcode, 0x04)
    ∷ (block_type_cells t ++ (flat_map instr_cells is
    ++ ((Opcode, 0x05) ∷ (flat_map instr_cells third ++ opcode 0x0B []))))
celled-If-Some t is third =
    at (If t is (Some third)) (layer.If t is (Some third)) (outs-If t is (Some third))
    ∙ ap (λ (r : List Cell). (Opcode, 0x04)
    ∷ (block_type_cells t ++ (r ++ ((Opcode, 0x05)
    ∷ (flat_map (λ (c : List Cell). c) (map instr_cells third) ++ opcode 0x0B []))))) (joined is)
    ∙ ap (λ (r : List Cell). (Opcode, 0x04)
    ∷ (block_type_cells t ++ (flat_map instr_cells is ++ ((Opcode, 0x05) ∷ (r ++ opcode 0x0B []))))) (joined third)

pub celled-Unreachable : instr_cells Unreachable ≡ opcode 0x00 []
celled-Unreachable = at Unreachable layer.Unreachable outs-Unreachable

pub celled-Br : (l : ℕ) → instr_cells (Br l) ≡ opcode 0x0C (unsigned.encoding l)
celled-Br l = at (Br l) (layer.Br l) (outs-Br l)

pub celled-BrIf : (l : ℕ) → instr_cells (BrIf l) ≡ opcode 0x0D (unsigned.encoding l)
celled-BrIf l = at (BrIf l) (layer.BrIf l) (outs-BrIf l)

pub celled-BrTable : (ls : List ℕ) (l : ℕ)
    → instr_cells (BrTable ls l) ≡ opcode 0x0E ((vector unsigned).encoding ls ++ unsigned.encoding l)
celled-BrTable ls l = at (BrTable ls l) (layer.BrTable ls l) (outs-BrTable ls l)

pub celled-Return : instr_cells Return ≡ opcode 0x0F []
celled-Return = at Return layer.Return outs-Return

pub celled-Call : (f : ℕ) → instr_cells (Call f) ≡ opcode 0x10 (unsigned.encoding f)
celled-Call f = at (Call f) (layer.Call f) (outs-Call f)

pub celled-CallIndirect : (t : ℕ) → instr_cells (CallIndirect t) ≡ opcode 0x11 (unsigned.encoding t ++ 0x00 ∷ [])
celled-CallIndirect t = at (CallIndirect t) (layer.CallIndirect t) (outs-CallIndirect t)

pub celled-Drop : instr_cells Drop ≡ opcode 0x1A []
celled-Drop = at Drop layer.Drop outs-Drop

pub celled-LocalGet : (x : ℕ) → instr_cells (LocalGet x) ≡ opcode 0x20 (unsigned.encoding x)
celled-LocalGet x = at (LocalGet x) (layer.LocalGet x) (outs-LocalGet x)

pub celled-LocalSet : (x : ℕ) → instr_cells (LocalSet x) ≡ opcode 0x21 (unsigned.encoding x)
celled-LocalSet x = at (LocalSet x) (layer.LocalSet x) (outs-LocalSet x)

pub celled-LocalTee : (x : ℕ) → instr_cells (LocalTee x) ≡ opcode 0x22 (unsigned.encoding x)
celled-LocalTee x = at (LocalTee x) (layer.LocalTee x) (outs-LocalTee x)

pub celled-GlobalGet : (x : ℕ) → instr_cells (GlobalGet x) ≡ opcode 0x23 (unsigned.encoding x)
celled-GlobalGet x = at (GlobalGet x) (layer.GlobalGet x) (outs-GlobalGet x)

pub celled-Load : (l : load.Load) → instr_cells (Load l) ≡ opcode (load_opcode l) (0x00 ∷ 0x00 ∷ [])
celled-Load l = at (Load l) (layer.Load l) (outs-Load l)

pub celled-Store : (w : StoreWidth) → instr_cells (Store w) ≡ opcode (store_opcode w) (0x00 ∷ 0x00 ∷ [])
celled-Store w = at (Store w) (layer.Store w) (outs-Store w)

pub celled-I32Const : (n : ℕ) → instr_cells (I32Const n) ≡ opcode 0x41 (signed32.encoding n)
celled-I32Const n = at (I32Const n) (layer.I32Const n) (outs-I32Const n)

pub celled-I64Const : (n : ℕ) → instr_cells (I64Const n) ≡ opcode 0x42 (signed64.encoding n)
celled-I64Const n = at (I64Const n) (layer.I64Const n) (outs-I64Const n)

pub celled-Numeric : (n : numeric.Numeric) → instr_cells (Numeric n) ≡ opcode (numeric_opcode n) []
celled-Numeric n = at (Numeric n) (layer.Numeric n) (outs-Numeric n)
