-- Operations that compare as the same are the same.
use Rattle.std.proofs.Common.{◌≡◌, ℕ, Bool, true, false, List, [], ◌∷◌, None, ◌&&◌, refl, ap, ap₂, ◌∙◌}
use Rattle.std.proofs.lemmas.Bool.{eqb-true}
use Rattle.std.specs.Cmp.Lexicographic.{pointwise}
use Rattle.wasm_tree.specs.declared.code.Op.{Op}
use Rattle.wasm_tree.specs.declared.code.Op.TheVariants as op
use Rattle.wasm_tree.specs.declared.instr.Numeric.TheVariants as numeric
use Rattle.wasm_tree.specs.declared.instr.Relation.TheVariants.{LtS, GtS}
use Rattle.wasm_tree.specs.declared.instr.Operation.TheVariants as operation
use Rattle.wasm_tree.specs.declared.instr.Load.TheVariants as load
use Rattle.wasm_tree.specs.declared.instr.StoreWidth.TheVariants as width
use Rattle.wasm_tree.specs.declared.kinds.ValueType.{ValueType}
use Rattle.wasm_tree.specs.declared.kinds.ValueType.TheVariants as types
use Rattle.wasm_tree.specs.declared.instr.Instr.{Instr}
use Rattle.wasm_tree.specs.declared.module.Locals.{Locals}
use Rattle.wasm_tree.specs.Machine.{Typed, are_same}
use Rattle.wasm_helpers.specs.Operations.{check_ops, copy_ops, div_ops, fill_ops, mod_ops}
use Rattle.wasm_tree.specs.contracts.code.OpPartialEq.TheImpl.{eq-value}

abbrev pub eqs : Op → Op → Bool
eqs a b = eq-value.it a b

pub no : false ≡ true → ⊥
no e = cc e

-- what compares as the same as this one is this one
abbrev pub Exact : Op → Type 0
Exact y = (a : Op) → eqs a y ≡ true → a ≡ y

is_get : (y : ℕ) → Exact (op.LocalGet y)
is_get y (op.LocalGet x) e = ap op.LocalGet (eqb-true x y e)
is_get y a e = absurd (no e)

is_br : (y : ℕ) → Exact (op.Br y)
is_br y (op.Br x) e = ap op.Br (eqb-true x y e)
is_br y a e = absurd (no e)

is_br_if : (y : ℕ) → Exact (op.BrIf y)
is_br_if y (op.BrIf x) e = ap op.BrIf (eqb-true x y e)
is_br_if y a e = absurd (no e)

is_call : (y : ℕ) → Exact (op.Call y)
is_call y (op.Call x) e = ap op.Call (eqb-true x y e)
is_call y a e = absurd (no e)

is_unreachable : Exact op.Unreachable
is_unreachable op.Unreachable e = refl
is_unreachable a e = absurd (no e)

is_less : Exact (op.Numeric (numeric.I64Relation LtS))
is_less (op.Numeric (numeric.I64Relation LtS)) e = refl
is_less a e = absurd (no e)

is_greater : Exact (op.Numeric (numeric.I64Relation GtS))
is_greater (op.Numeric (numeric.I64Relation GtS)) e = refl
is_greater a e = absurd (no e)

is_block : (y : ℕ) → Exact (op.Block None y)
is_block y (op.Block None x) e = ap (op.Block None) (eqb-true x y e)
is_block y a e = absurd (no e)

is_set : (y : ℕ) → Exact (op.LocalSet y)
is_set y (op.LocalSet x) e = ap op.LocalSet (eqb-true x y e)
is_set y a e = absurd (no e)

is_tee : (y : ℕ) → Exact (op.LocalTee y)
is_tee y (op.LocalTee x) e = ap op.LocalTee (eqb-true x y e)
is_tee y a e = absurd (no e)

is_narrow : (y : ℕ) → Exact (op.I32Const y)
is_narrow y (op.I32Const x) e = ap op.I32Const (eqb-true x y e)
is_narrow y a e = absurd (no e)

is_wide : (y : ℕ) → Exact (op.I64Const y)
is_wide y (op.I64Const x) e = ap op.I64Const (eqb-true x y e)
is_wide y a e = absurd (no e)

is_loop : (y : ℕ) → Exact (op.Loop None y)
is_loop y (op.Loop None x) e = ap (op.Loop None) (eqb-true x y e)
is_loop y a e = absurd (no e)

is_zero_test : Exact (op.Numeric numeric.I32Eqz)
is_zero_test (op.Numeric numeric.I32Eqz) e = refl
is_zero_test a e = absurd (no e)

is_sum_32 : Exact (op.Numeric numeric.I32Add)
is_sum_32 (op.Numeric numeric.I32Add) e = refl
is_sum_32 a e = absurd (no e)

is_extension : Exact (op.Numeric numeric.I64ExtendI32U)
is_extension (op.Numeric numeric.I64ExtendI32U) e = refl
is_extension a e = absurd (no e)

is_quotient : Exact (op.Numeric (numeric.I64Operation operation.DivS))
is_quotient (op.Numeric (numeric.I64Operation operation.DivS)) e = refl
is_quotient a e = absurd (no e)

is_remainder : Exact (op.Numeric (numeric.I64Operation operation.RemS))
is_remainder (op.Numeric (numeric.I64Operation operation.RemS)) e = refl
is_remainder a e = absurd (no e)

is_difference : Exact (op.Numeric (numeric.I64Operation operation.Sub))
is_difference (op.Numeric (numeric.I64Operation operation.Sub)) e = refl
is_difference a e = absurd (no e)

is_product : Exact (op.Numeric (numeric.I64Operation operation.Mul))
is_product (op.Numeric (numeric.I64Operation operation.Mul)) e = refl
is_product a e = absurd (no e)

is_sum : Exact (op.Numeric (numeric.I64Operation operation.Add))
is_sum (op.Numeric (numeric.I64Operation operation.Add)) e = refl
is_sum a e = absurd (no e)

is_byte_load : Exact (op.Load load.I64From8U)
is_byte_load (op.Load load.I64From8U) e = refl
is_byte_load a e = absurd (no e)

is_byte_store : Exact (op.Store width.One)
is_byte_store (op.Store width.One) e = refl
is_byte_store a e = absurd (no e)

-- each of a list
abbrev pub AllExact : List Op → Type 0
AllExact [] = Unit {0}
AllExact (y ∷ ys) = Exact y × AllExact ys

pub both : (b c : Bool) → (b && c) ≡ true → (b ≡ true) × (c ≡ true)
both true true e = (refl, refl)
both true false e = absurd (no e)
both false c e = absurd (no e)

pub lists : (xs ys : List Op) → AllExact ys → pointwise eqs xs ys ≡ true → xs ≡ ys
lists [] [] h e = refl
lists [] (y ∷ ys) h e = absurd (no e)
lists (x ∷ xs) [] h e = absurd (no e)
lists (x ∷ xs) (y ∷ ys) h e =
    let p = both (eqs x y) (pointwise eqs xs ys) e in
    ap₂ (λ (a : Op) (l : List Op). a ∷ l) (h.0 x p.0) (lists xs ys h.1 p.1)

pub check_exact : AllExact check_ops
check_exact = (
  is_block 13,
  (
    is_block 9,
    (
      is_get 0,
      (
        is_get 1,
        (
          is_less,
          (
            is_br_if 0,
            (
              is_get 0,
              (
                is_get 2,
                (is_greater, (is_br_if 0, (is_br 1, (is_get 3, (is_call 1, (is_unreachable, (is_get 0, tt))))))),
              ),
            ),
          ),
        ),
      ),
    ),
  ),
)

pub fill_exact : AllExact fill_ops
fill_exact = (
  is_block 16,
  (
    is_loop 15,
    (
      is_get 1,
      (
        is_zero_test,
        (
          is_br_if 1,
          (
            is_get 0,
            (
              is_wide 0,
              (
                is_byte_store,
                (
                  is_get 0,
                  (
                    is_narrow 1,
                    (
                      is_sum_32,
                      (
                        is_set 0,
                        (
                          is_get 1,
                          (is_narrow 4294967295, (is_sum_32, (is_set 1, (is_br 0, tt)))),
                        ),
                      ),
                    ),
                  ),
                ),
              ),
            ),
          ),
        ),
      ),
    ),
  ),
)

pub copy_exact : AllExact copy_ops
copy_exact = (
  is_block 21,
  (
    is_loop 20,
    (
      is_get 2,
      (
        is_zero_test,
        (
          is_br_if 1,
          (
            is_get 0,
            (
              is_get 1,
              (
                is_byte_load,
                (
                  is_byte_store,
                  (
                    is_get 0,
                    (
                      is_narrow 1,
                      (
                        is_sum_32,
                        (
                          is_set 0,
                          (
                            is_get 1,
                            (
                              is_narrow 1,
                              (
                                is_sum_32,
                                (
                                  is_set 1,
                                  (is_get 2, (is_narrow 4294967295, (is_sum_32, (is_set 2, (is_br 0, tt))))),
                                ),
                              ),
                            ),
                          ),
                        ),
                      ),
                    ),
                  ),
                ),
              ),
            ),
          ),
        ),
      ),
    ),
  ),
)

pub div_exact : AllExact div_ops
div_exact = (
  is_get 1,
  (
    is_wide 1,
    (
      is_wide 4294967295,
      (
        is_wide 4,
        (
          is_call 4,
          (
            is_set 1,
            (
              is_get 0,
              (
                is_get 1,
                (
                  is_quotient,
                  (
                    is_get 0,
                    (
                      is_get 1,
                      (is_remainder, (is_wide 0, (is_less, (is_extension, (is_difference, tt))))),
                    ),
                  ),
                ),
              ),
            ),
          ),
        ),
      ),
    ),
  ),
)

pub mod_exact : AllExact mod_ops
mod_exact = (
  is_get 1,
  (
    is_wide 1,
    (
      is_wide 4294967295,
      (
        is_wide 4,
        (
          is_call 4,
          (
            is_set 1,
            (
              is_get 0,
              (
                is_get 1,
                (
                  is_remainder,
                  (
                    is_tee 2,
                    (
                      is_get 2,
                      (is_wide 0, (is_less, (is_extension, (is_get 1, (is_product, (is_sum, tt)))))),
                    ),
                  ),
                ),
              ),
            ),
          ),
        ),
      ),
    ),
  ),
)

-- ---- the whole function

pub same_types : (ts us : List ValueType) → are_same ts us ≡ true → ts ≡ us
same_types [] [] e = refl
same_types [] (u ∷ us) e = absurd (no e)
same_types (t ∷ ts) [] e = absurd (no e)
same_types (types.I32 ∷ ts) (types.I32 ∷ us) e = ap (λ (l : List ValueType). types.I32 ∷ l) (same_types ts us e)
same_types (types.I64 ∷ ts) (types.I64 ∷ us) e = ap (λ (l : List ValueType). types.I64 ∷ l) (same_types ts us e)
same_types (types.I32 ∷ ts) (types.I64 ∷ us) e = absurd (no e)
same_types (types.I64 ∷ ts) (types.I32 ∷ us) e = absurd (no e)

abbrev made : ℕ → (params results : List ValueType) → List Locals → List Instr → Typed
made index params results locals code = record {
  type = record { params = params; results = results };
  function =
      record { type_index = index; body = record { locals = locals; code = code } };
}

abbrev pub wide : List ValueType
wide = types.I64 ∷ []

abbrev pub two_wide : List ValueType
two_wide = types.I64 ∷ types.I64 ∷ []

abbrev pub four_wide : List ValueType
four_wide = types.I64 ∷ types.I64 ∷ types.I64 ∷ types.I64 ∷ []

abbrev pub two_narrow : List ValueType
two_narrow = types.I32 ∷ types.I32 ∷ []

abbrev pub three_narrow : List ValueType
three_narrow = types.I32 ∷ types.I32 ∷ types.I32 ∷ []

-- the function with these types, locals and code
module _ (params results : List ValueType) (locals : List Locals) (code : List Instr) where
  pub function_is : (t : Typed) → (are_same t.type.params params && are_same t.type.results results) ≡ true
      → t.function.body.locals ≡ locals → t.function.body.code ≡ code
      → t ≡ made t.function.type_index params results locals code
  function_is t e f g =
      let b = both (are_same t.type.params params) (are_same t.type.results results) e in
      let i = t.function.type_index in
      ap₂ (λ (p r : List ValueType). made i p r t.function.body.locals t.function.body.code)
      (same_types t.type.params params b.0) (same_types t.type.results results b.1)
      ∙ ap₂ (λ (l : List Locals) (c : List Instr). made i params results l c) f g
