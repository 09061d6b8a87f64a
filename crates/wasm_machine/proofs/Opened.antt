-- What an instruction opens to, by its name: the search is given these.
use Rattle.std.proofs.Common.{◌≡◌, ℕ, List, Option, Some, None}
use Rattle.wasm_tree.specs.declared.kinds.ValueType.{ValueType}
use Rattle.wasm_tree.specs.declared.instr.Load.{Load}
use Rattle.wasm_tree.specs.declared.instr.StoreWidth.{StoreWidth}
use Rattle.wasm_tree.specs.declared.instr.Numeric.{Numeric}
use Rattle.wasm_tree.specs.declared.instr.Instr.{Instr, out-Instr}
use Rattle.wasm_tree.specs.declared.instr.Instr.TheOpen as layer
use Rattle.wasm_tree.specs.declared.instr.Instr.TheVariants as instr
use Rattle.wasm_tree.specs.declared.instr.Instr.TheVariants.{outs-Unreachable, outs-Block, outs-Loop, outs-If, outs-Br, outs-BrIf, outs-Return, outs-Call, outs-CallIndirect, outs-GlobalGet, outs-Load, outs-Store, outs-I32Const, outs-I64Const, outs-Numeric}

pub out_unreachable : out-Instr instr.Unreachable ≡ layer.Unreachable
out_unreachable = outs-Unreachable

pub out_block : (t : Option ValueType) (is : List Instr) → out-Instr (instr.Block t is) ≡ layer.Block t is
out_block t is = outs-Block t is

pub out_loop : (t : Option ValueType) (is : List Instr) → out-Instr (instr.Loop t is) ≡ layer.Loop t is
out_loop t is = outs-Loop t is

pub out_if_one : (t : Option ValueType) → (is : List Instr) → out-Instr (instr.If t is None) ≡ layer.If t is None
out_if_one t is = outs-If t is None

pub out_if_two : (t : Option ValueType) → (is others : List Instr)
    → out-Instr (instr.If t is (Some others)) ≡ layer.If t is (Some others)
out_if_two t is others = outs-If t is (Some others)

pub out_br : (l : ℕ) → out-Instr (instr.Br l) ≡ layer.Br l
out_br l = outs-Br l

pub out_br_if : (l : ℕ) → out-Instr (instr.BrIf l) ≡ layer.BrIf l
out_br_if l = outs-BrIf l

pub out_return : out-Instr instr.Return ≡ layer.Return
out_return = outs-Return

pub out_call : (f : ℕ) → out-Instr (instr.Call f) ≡ layer.Call f
out_call f = outs-Call f

pub out_call_indirect : (t : ℕ) → out-Instr (instr.CallIndirect t) ≡ layer.CallIndirect t
out_call_indirect t = outs-CallIndirect t

pub out_global_get : (x : ℕ) → out-Instr (instr.GlobalGet x) ≡ layer.GlobalGet x
out_global_get x = outs-GlobalGet x

pub out_load : (kind : Load) → out-Instr (instr.Load kind) ≡ layer.Load kind
out_load kind = outs-Load kind

pub out_store : (width : StoreWidth) → out-Instr (instr.Store width) ≡ layer.Store width
out_store width = outs-Store width

pub out_i32_const : (n : ℕ) → out-Instr (instr.I32Const n) ≡ layer.I32Const n
out_i32_const n = outs-I32Const n

pub out_i64_const : (n : ℕ) → out-Instr (instr.I64Const n) ≡ layer.I64Const n
out_i64_const n = outs-I64Const n

pub out_numeric : (o : Numeric) → out-Instr (instr.Numeric o) ≡ layer.Numeric o
out_numeric o = outs-Numeric o
