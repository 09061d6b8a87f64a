-- The operations of the functions that each module of a compiled program has before its own, one
-- after another.
use Rattle.std.specs.Prelude.{List, [], ◌∷◌, None}
use Rattle.wasm_tree.specs.declared.code.Op.{Op}
use Rattle.wasm_tree.specs.declared.code.Op.TheVariants as op
use Rattle.wasm_tree.specs.declared.instr.Numeric.TheVariants as numeric
use Rattle.wasm_tree.specs.declared.instr.Relation.TheVariants.{LtS, GtS}
use Rattle.wasm_tree.specs.declared.instr.Operation.TheVariants as operation
use Rattle.wasm_tree.specs.declared.instr.Load.TheVariants as load
use Rattle.wasm_tree.specs.declared.instr.StoreWidth.TheVariants as width

abbrev pub check_ops : List Op
check_ops =
    op.Block None 13 ∷ op.Block None 9 ∷ op.LocalGet 0 ∷ op.LocalGet 1
    ∷ op.Numeric (numeric.I64Relation LtS) ∷ op.BrIf 0 ∷ op.LocalGet 0 ∷ op.LocalGet 2
    ∷ op.Numeric (numeric.I64Relation GtS) ∷ op.BrIf 0 ∷ op.Br 1 ∷ op.LocalGet 3 ∷ op.Call 1
    ∷ op.Unreachable ∷ op.LocalGet 0 ∷ []

abbrev pub fill_ops : List Op
fill_ops =
    op.Block None 16 ∷ op.Loop None 15 ∷ op.LocalGet 1 ∷ op.Numeric numeric.I32Eqz ∷ op.BrIf 1
    ∷ op.LocalGet 0 ∷ op.I64Const 0 ∷ op.Store width.One ∷ op.LocalGet 0 ∷ op.I32Const 1
    ∷ op.Numeric numeric.I32Add ∷ op.LocalSet 0 ∷ op.LocalGet 1 ∷ op.I32Const 4294967295
    ∷ op.Numeric numeric.I32Add ∷ op.LocalSet 1 ∷ op.Br 0 ∷ []

abbrev pub copy_ops : List Op
copy_ops =
    op.Block None 21 ∷ op.Loop None 20 ∷ op.LocalGet 2 ∷ op.Numeric numeric.I32Eqz ∷ op.BrIf 1
    ∷ op.LocalGet 0 ∷ op.LocalGet 1 ∷ op.Load load.I64From8U ∷ op.Store width.One ∷ op.LocalGet 0
    ∷ op.I32Const 1 ∷ op.Numeric numeric.I32Add ∷ op.LocalSet 0 ∷ op.LocalGet 1 ∷ op.I32Const 1
    ∷ op.Numeric numeric.I32Add ∷ op.LocalSet 1 ∷ op.LocalGet 2 ∷ op.I32Const 4294967295
    ∷ op.Numeric numeric.I32Add ∷ op.LocalSet 2 ∷ op.Br 0 ∷ []

abbrev pub div_ops : List Op
div_ops =
    op.LocalGet 1 ∷ op.I64Const 1 ∷ op.I64Const 4294967295 ∷ op.I64Const 4 ∷ op.Call 4
    ∷ op.LocalSet 1 ∷ op.LocalGet 0 ∷ op.LocalGet 1
    ∷ op.Numeric (numeric.I64Operation operation.DivS) ∷ op.LocalGet 0 ∷ op.LocalGet 1
    ∷ op.Numeric (numeric.I64Operation operation.RemS) ∷ op.I64Const 0
    ∷ op.Numeric (numeric.I64Relation LtS) ∷ op.Numeric numeric.I64ExtendI32U
    ∷ op.Numeric (numeric.I64Operation operation.Sub) ∷ []

abbrev pub mod_ops : List Op
mod_ops =
    op.LocalGet 1 ∷ op.I64Const 1 ∷ op.I64Const 4294967295 ∷ op.I64Const 4 ∷ op.Call 4
    ∷ op.LocalSet 1 ∷ op.LocalGet 0 ∷ op.LocalGet 1
    ∷ op.Numeric (numeric.I64Operation operation.RemS) ∷ op.LocalTee 2 ∷ op.LocalGet 2
    ∷ op.I64Const 0 ∷ op.Numeric (numeric.I64Relation LtS) ∷ op.Numeric numeric.I64ExtendI32U
    ∷ op.LocalGet 1 ∷ op.Numeric (numeric.I64Operation operation.Mul)
    ∷ op.Numeric (numeric.I64Operation operation.Add) ∷ []
