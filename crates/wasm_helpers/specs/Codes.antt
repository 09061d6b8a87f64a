-- The code of the functions that are known.
use Rattle.std.specs.Prelude.{ℕ, List, [], ◌∷◌, None}
use Rattle.wasm_tree.specs.declared.kinds.ValueType.{ValueType}
use Rattle.wasm_tree.specs.declared.kinds.ValueType.TheVariants as types
use Rattle.wasm_tree.specs.declared.instr.Instr.{Instr}
use Rattle.wasm_tree.specs.declared.instr.Instr.TheVariants as instr
use Rattle.wasm_tree.specs.declared.instr.Numeric.TheVariants as numeric
use Rattle.wasm_tree.specs.declared.instr.Relation.TheVariants.{LtS, GtS}
use Rattle.wasm_tree.specs.declared.instr.Operation.TheVariants.{Add, Sub, Mul, DivS, RemS}
use Rattle.wasm_tree.specs.declared.instr.Load.TheVariants as load
use Rattle.wasm_tree.specs.declared.instr.StoreWidth.TheVariants as width
use Rattle.wasm_tree.specs.declared.module.Locals.{Locals}
use Rattle.wasm_tree.specs.Machine.{Typed}

-- raises a local by so much
abbrev pub raise : (x by : ℕ) → List Instr → List Instr
raise x by rest =
    instr.LocalGet x ∷ instr.I32Const by ∷ instr.Numeric numeric.I32Add ∷ instr.LocalSet x ∷ rest

abbrev pub copy_raises : List Instr
copy_raises = raise 0 1 (raise 1 1 (raise 2 4294967295 (instr.Br 0 ∷ [])))

abbrev pub copy_turn : List Instr
copy_turn =
    instr.LocalGet 2 ∷ instr.Numeric numeric.I32Eqz ∷ instr.BrIf 1 ∷ instr.LocalGet 0
    ∷ instr.LocalGet 1 ∷ instr.Load load.I64From8U ∷ instr.Store width.One ∷ copy_raises

abbrev pub copy_code : List Instr
copy_code = instr.Block None (instr.Loop None copy_turn ∷ []) ∷ []

abbrev pub fill_raises : List Instr
fill_raises = raise 0 1 (raise 1 4294967295 (instr.Br 0 ∷ []))

abbrev pub fill_turn : List Instr
fill_turn =
    instr.LocalGet 1 ∷ instr.Numeric numeric.I32Eqz ∷ instr.BrIf 1 ∷ instr.LocalGet 0
    ∷ instr.I64Const 0 ∷ instr.Store width.One ∷ fill_raises

abbrev pub fill_code : List Instr
fill_code = instr.Block None (instr.Loop None fill_turn ∷ []) ∷ []

-- a number, its bounds and a fault
abbrev pub check_tests : List Instr
check_tests =
    instr.LocalGet 0 ∷ instr.LocalGet 1 ∷ instr.Numeric (numeric.I64Relation LtS) ∷ instr.BrIf 0
    ∷ instr.LocalGet 0 ∷ instr.LocalGet 2 ∷ instr.Numeric (numeric.I64Relation GtS) ∷ instr.BrIf 0
    ∷ instr.Br 1 ∷ []

abbrev pub check_code : List Instr
check_code =
    instr.Block None
    (instr.Block None check_tests ∷ instr.LocalGet 3 ∷ instr.Call 1 ∷ instr.Unreachable ∷ [])
    ∷ instr.LocalGet 0 ∷ []

-- a function without locals of its own
abbrev pub helper : (params results : List ValueType) (index : ℕ) → List Instr → Typed
helper params results index code = record {
  type = record { params = params; results = results };
  function = record { type_index = index; body = record { locals = []; code = code } };
}

abbrev pub check_typed : (index : ℕ) → Typed
check_typed index =
    helper (types.I64 ∷ types.I64 ∷ types.I64 ∷ types.I64 ∷ []) (types.I64 ∷ []) index check_code

abbrev pub fill_typed : (index : ℕ) → Typed
fill_typed index = helper (types.I32 ∷ types.I32 ∷ []) [] index fill_code

abbrev pub copy_typed : (index : ℕ) → Typed
copy_typed index = helper (types.I32 ∷ types.I32 ∷ types.I32 ∷ []) [] index copy_code

-- what div and mod begin with: the divisor is from 1 to 2^32 - 1, or the run ends with 4
abbrev pub divisor_checked : List Instr → List Instr
divisor_checked rest =
    instr.LocalGet 1 ∷ instr.I64Const 1 ∷ instr.I64Const 4294967295 ∷ instr.I64Const 4
    ∷ instr.Call 4 ∷ instr.LocalSet 1 ∷ rest

abbrev pub div_rest : List Instr
div_rest =
    instr.LocalGet 0 ∷ instr.LocalGet 1 ∷ instr.Numeric (numeric.I64Operation DivS)
    ∷ instr.LocalGet 0 ∷ instr.LocalGet 1 ∷ instr.Numeric (numeric.I64Operation RemS)
    ∷ instr.I64Const 0 ∷ instr.Numeric (numeric.I64Relation LtS)
    ∷ instr.Numeric numeric.I64ExtendI32U ∷ instr.Numeric (numeric.I64Operation Sub) ∷ []

abbrev pub mod_rest : List Instr
mod_rest =
    instr.LocalGet 0 ∷ instr.LocalGet 1 ∷ instr.Numeric (numeric.I64Operation RemS)
    ∷ instr.LocalTee 2 ∷ instr.LocalGet 2 ∷ instr.I64Const 0
    ∷ instr.Numeric (numeric.I64Relation LtS) ∷ instr.Numeric numeric.I64ExtendI32U
    ∷ instr.LocalGet 1 ∷ instr.Numeric (numeric.I64Operation Mul)
    ∷ instr.Numeric (numeric.I64Operation Add) ∷ []

abbrev pub div_code : List Instr
div_code = divisor_checked div_rest

abbrev pub mod_code : List Instr
mod_code = divisor_checked mod_rest

abbrev pub div_typed : (index : ℕ) → Typed
div_typed index = helper (types.I64 ∷ types.I64 ∷ []) (types.I64 ∷ []) index div_code

abbrev pub one_wide : List Locals
one_wide = record { count = 1; value_type = types.I64 } ∷ []

-- mod has a local of its own
abbrev pub mod_typed : (index : ℕ) → Typed
mod_typed index = record {
  type = record { params = types.I64 ∷ types.I64 ∷ []; results = types.I64 ∷ [] };
  function = record {
    type_index = index;
    body = record {
      locals = record { count = 1; value_type = types.I64 } ∷ [];
      code = divisor_checked mod_rest;
    };
  };
}
