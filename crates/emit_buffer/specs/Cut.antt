-- Numbers that do not fit are cut, so that all code can be written. What fits is its own cut.
use Rattle.std.specs.Prelude.{ℕ, min, List, map, Option, Some, None}
use Rattle.wasm_tree.specs.declared.code.Op.{Op}
use Rattle.wasm_tree.specs.declared.code.Op.TheVariants as op
use Rattle.wasm_tree.specs.declared.instr.Instr.{Instr}
use Rattle.wasm_tree.specs.declared.kinds.Limits.{Limits}
use Rattle.wasm_tree.specs.declared.kinds.TableType.{TableType}
use Rattle.wasm_tree.specs.declared.module.Locals.{Locals}
use Rattle.wasm_tree.specs.declared.module.Function.{Function}
use Rattle.wasm_tree.specs.declared.module.Global.{Global}
use Rattle.wasm_tree.specs.declared.module.ExportKind.{ExportKind}
use Rattle.wasm_tree.specs.declared.module.ExportKind.TheVariants as exported
use Rattle.wasm_tree.specs.declared.module.Export.{Export}
use Rattle.wasm_tree.specs.declared.module.Element.{Element}
use Rattle.wasm_tree.specs.declared.module.WModule.{WModule}
use Rattle.wasm_tree.specs.Code.{tree, flat}

-- a number in 32 bits, and one in 64
abbrev pub cut : ℕ → ℕ
cut n = min n 4294967295

abbrev pub cut_long : ℕ → ℕ
cut_long n = min n 18446744073709551615

abbrev pub cut_op : Op → Op
cut_op op.Unreachable = op.Unreachable
cut_op (op.Block t n) = op.Block t (cut n)
cut_op (op.Loop t n) = op.Loop t (cut n)
cut_op (op.If t n) = op.If t (cut n)
cut_op (op.IfElse t n m) = op.IfElse t (cut n) (cut m)
cut_op (op.Br l) = op.Br (cut l)
cut_op (op.BrIf l) = op.BrIf (cut l)
cut_op (op.BrTable n l) = op.BrTable (cut n) (cut l)
cut_op op.Return = op.Return
cut_op (op.Call f) = op.Call (cut f)
cut_op (op.CallIndirect t) = op.CallIndirect (cut t)
cut_op op.Drop = op.Drop
cut_op (op.LocalGet x) = op.LocalGet (cut x)
cut_op (op.LocalSet x) = op.LocalSet (cut x)
cut_op (op.LocalTee x) = op.LocalTee (cut x)
cut_op (op.GlobalGet x) = op.GlobalGet (cut x)
cut_op (op.Load l) = op.Load l
cut_op (op.Store w) = op.Store w
cut_op (op.I32Const n) = op.I32Const (cut n)
cut_op (op.I64Const n) = op.I64Const (cut_long n)
cut_op (op.Numeric n) = op.Numeric n

-- code, by its list of operations
abbrev pub cut_code : List Instr → List Instr
cut_code code = tree (map cut_op (flat code))

abbrev pub cut_locals : Locals → Locals
cut_locals x = record { count = cut x.count; value_type = x.value_type }

abbrev pub cut_function : Function → Function
cut_function f = record {
  type_index = cut f.type_index;
  body = record { locals = map cut_locals f.body.locals; code = cut_code f.body.code };
}

abbrev pub cut_global : Global → Global
cut_global g = record { value_type = g.value_type; value = cut_code g.value }

abbrev pub cut_bound : Option ℕ → Option ℕ
cut_bound None = None
cut_bound (Some n) = Some (cut n)

abbrev pub cut_limits : Limits → Limits
cut_limits l = record { min = cut l.min; max = cut_bound l.max }

abbrev pub cut_table : TableType → TableType
cut_table t = record { limits = cut_limits t.limits }

abbrev pub cut_exported : ExportKind → ExportKind
cut_exported (exported.Function n) = exported.Function (cut n)
cut_exported (exported.Table n) = exported.Table (cut n)
cut_exported (exported.Memory n) = exported.Memory (cut n)
cut_exported (exported.Global n) = exported.Global (cut n)

abbrev pub cut_export : Export → Export
cut_export e = record { name = e.name; kind = cut_exported e.kind }

abbrev pub cut_element : Element → Element
cut_element e =
    record { table = e.table; offset = e.offset; functions = map cut e.functions }

-- all numbers of a module that grow with a program
abbrev pub cut_module : WModule → WModule
cut_module w = record {
  types = w.types;
  imports = w.imports;
  functions = map cut_function w.functions;
  tables = map cut_table w.tables;
  memories = w.memories;
  globals = map cut_global w.globals;
  exports = map cut_export w.exports;
  elements = map cut_element w.elements;
  «data» = w.«data»;
}
