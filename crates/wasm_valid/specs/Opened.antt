-- What the instruction at the front of a list is, with its code from those behind it.
use Rattle.std.specs.Prelude.{List, map, take, drop, Some, None}
use Rattle.wasm_tree.specs.declared.code.Op.{Op}
use Rattle.wasm_tree.specs.declared.code.Op.TheVariants as op
use Rattle.wasm_tree.specs.declared.instr.Instr.{Instr}
use Rattle.wasm_tree.specs.declared.instr.Instr.TheOpen as layer
use Rattle.wasm_tree.specs.Code.{label_of, tree}

abbrev pub open_instruction : Op → (rest : List Op) → layer.Instr-F Instr
open_instruction op.Unreachable rest = layer.Unreachable
open_instruction (op.Block t n) rest = layer.Block t (tree (take n rest))
open_instruction (op.Loop t n) rest = layer.Loop t (tree (take n rest))
open_instruction (op.If t n) rest = layer.If t (tree (take n rest)) None
open_instruction (op.IfElse t n m) rest =
    layer.If t (tree (take n rest)) (Some (tree (take m (drop n rest))))
open_instruction (op.Br l) rest = layer.Br l
open_instruction (op.BrIf l) rest = layer.BrIf l
open_instruction (op.BrTable n l) rest = layer.BrTable (map label_of (take n rest)) l
open_instruction op.Return rest = layer.Return
open_instruction (op.Call f) rest = layer.Call f
open_instruction (op.CallIndirect t) rest = layer.CallIndirect t
open_instruction op.Drop rest = layer.Drop
open_instruction (op.LocalGet x) rest = layer.LocalGet x
open_instruction (op.LocalSet x) rest = layer.LocalSet x
open_instruction (op.LocalTee x) rest = layer.LocalTee x
open_instruction (op.GlobalGet x) rest = layer.GlobalGet x
open_instruction (op.Load l) rest = layer.Load l
open_instruction (op.Store w) rest = layer.Store w
open_instruction (op.I32Const n) rest = layer.I32Const n
open_instruction (op.I64Const n) rest = layer.I64Const n
open_instruction (op.Numeric n) rest = layer.Numeric n
