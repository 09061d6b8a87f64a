-- Calls of div and mod, with a divisor between its bounds.
use Rattle.std.proofs.Common.{◌≡◌, ℕ, List, [], ◌∷◌, ◌++◌, Option, Some, refl, ap}
use Rattle.std.specs.Option.{option_map}
use Rattle.wasm_tree.specs.declared.instr.Instr.{Instr}
use Rattle.wasm_tree.specs.declared.instr.Instr.TheVariants as instr
use Rattle.wasm_tree.specs.declared.instr.Numeric.TheVariants as numeric
use Rattle.wasm_tree.specs.declared.instr.Operation.TheVariants.{Add, Sub, Mul, DivS, RemS}
use Rattle.wasm_tree.specs.declared.instr.Relation.TheVariants.{LtS}
use Rattle.wasm_tree.specs.declared.module.WModule.{WModule}
use Rattle.wasm_tree.specs.declared.store.Value.{Value}
use Rattle.wasm_tree.specs.declared.store.Value.TheVariants.{I64}
use Rattle.wasm_tree.specs.declared.store.Store.{Store}
use Rattle.wasm_tree.specs.Numbers.{operation_result}
use Rattle.wasm_tree.specs.Machine.{Activation, Config, Going}
use Rattle.wasm_helpers.specs.Codes.{divisor_checked, div_rest, mod_rest, div_typed, mod_typed}
use Rattle.wasm_known.specs.Known.{Leads, with, Divides, quotient_down, remainder_up, DivReturns, ModReturns}
use Rattle.wasm_known.proofs.Computed.{computed, join}
use Rattle.wasm_known.proofs.Calls.{call_leads, return_leads}
use Rattle.wasm_known.proofs.Check.{check_returns}
use Rattle.wasm_known.proofs.Calculated.{number_leads}

-- a number that was made, above others
abbrev above : List Value → Option ℕ → Option (List Value × Value)
above s o = option_map (λ v. (s, v)) (option_map I64 o)

module _ (modules : List WModule) (st : Store) (callers : List Activation) (own x y : ℕ) where
  abbrev frame : List Value → List Instr → List Value → Activation
  frame locals code stack = record {
    instance = own;
    arity = 1;
    locals = locals;
    labels = [];
    rest = code;
    stack =
        stack;
  }

  abbrev here : List Value → List Instr → List Value → Config
  here locals code stack = Going st (frame locals code stack) callers

  -- the divisor is tested
  divisor : (own_locals : List Value) (rest : List Instr) → Divides modules st own y
      → Leads modules 18 (here (I64 x ∷ I64 y ∷ own_locals) (divisor_checked rest) [])
      (here (I64 x ∷ I64 y ∷ own_locals) (instr.LocalSet 1 ∷ rest) (I64 y ∷ []))
  divisor more rest d =
      join modules 4 14 _ (here (I64 x ∷ I64 y ∷ more) (instr.Call 4 ∷ instr.LocalSet 1 ∷ rest)
      (I64 y ∷ I64 1 ∷ I64 4294967295 ∷ I64 4 ∷ [])) _ (computed modules 4 _ _ refl)
      (check_returns modules st (frame (I64 x ∷ I64 y ∷ more) [] []) callers 4 own d.check d.type d.callee d.typed y 1
      4294967295 4 [] (instr.LocalSet 1 ∷ rest) d.at_least d.at_most)

  abbrev two : List Value
  two = I64 x ∷ I64 y ∷ []

  abbrev behind_rem : List Instr
  behind_rem = instr.I64Const 0 ∷ instr.Numeric (numeric.I64Relation LtS) ∷ instr.Numeric numeric.I64ExtendI32U
      ∷ instr.Numeric (numeric.I64Operation Sub) ∷ []

  abbrev behind_div : List Instr
  behind_div = instr.LocalGet 0 ∷ instr.LocalGet 1 ∷ instr.Numeric (numeric.I64Operation RemS) ∷ behind_rem

  pub div_leads : (q r : ℕ) → Divides modules st own y → operation_result DivS x y ≡ Some q
      → operation_result RemS x y ≡ Some r →
      Leads modules 29 (here two (divisor_checked div_rest) []) (here two [] (I64 (quotient_down q r) ∷ []))
  div_leads q r d e h =
      join modules 18 11 _ _ _ (divisor [] div_rest d)
      (join modules 3 8 _ (here two (instr.Numeric (numeric.I64Operation DivS) ∷ behind_div) two) _
      (computed modules 3 _ _ refl)
      (join modules 1 7 _ _ _ (number_leads modules st callers (frame two [] []) (numeric.I64Operation DivS) behind_div
      two [] (I64 q) (ap (above []) e))
      (join modules 2 5 _ (here two (instr.Numeric (numeric.I64Operation RemS) ∷ behind_rem)
      (I64 q ∷ I64 x ∷ I64 y ∷ [])) _ (computed modules 2 _ _ refl)
      (join modules 1 4 _ _ _ (number_leads modules st callers (frame two [] []) (numeric.I64Operation RemS) behind_rem
      (I64 q ∷ I64 x ∷ I64 y ∷ []) (I64 q ∷ []) (I64 r) (ap (above (I64 q ∷ [])) h))
      (computed modules 4 _ _ refl)))))

  -- mod keeps the remainder in a local
  abbrev three : (z : ℕ) → List Value
  three z = I64 x ∷ I64 y ∷ I64 z ∷ []

  abbrev behind_mod : List Instr
  behind_mod =
      instr.LocalTee 2 ∷ instr.LocalGet 2 ∷ instr.I64Const 0 ∷ instr.Numeric (numeric.I64Relation LtS)
      ∷ instr.Numeric numeric.I64ExtendI32U
      ∷ instr.LocalGet 1 ∷ instr.Numeric (numeric.I64Operation Mul) ∷ instr.Numeric (numeric.I64Operation Add) ∷ []

  pub mod_leads : (r : ℕ) → Divides modules st own y → operation_result RemS x y ≡ Some r
      → Leads modules 30 (here (three 0) (divisor_checked mod_rest) [])
      (here (three r) [] (I64 (remainder_up r y) ∷ []))
  mod_leads r d h =
      join modules 18 12 _ _ _ (divisor (I64 0 ∷ []) mod_rest d)
      (join modules 3 9 _ (here (three 0) (instr.Numeric (numeric.I64Operation RemS) ∷ behind_mod) two) _
      (computed modules 3 _ _ refl)
      (join modules 1 8 _ _ _ (number_leads modules st callers (frame (three 0) [] []) (numeric.I64Operation RemS)
      behind_mod two [] (I64 r) (ap (above []) h))
      (computed modules 8 _ _ refl)))

pub div_returns : DivReturns
div_returns modules st now callers g own f index at is x y q r below rest d e h =
    let waiting : Activation = with now rest below in
    join modules 1 30 _ _ _ (call_leads modules st callers now g own f (div_typed index) below (I64 x ∷ I64 y ∷ []) rest
    at is refl)
    (join modules 29 1 _ _ _ (div_leads modules st (callers ++ waiting ∷ []) own x y q r d e h)
    (return_leads modules st callers waiting own (I64 x ∷ I64 y ∷ []) (I64 (quotient_down q r) ∷ [])))

pub mod_returns : ModReturns
mod_returns modules st now callers g own f index at is x y r below rest d h =
    let waiting : Activation = with now rest below in
    join modules 1 31 _ _ _ (call_leads modules st callers now g own f (mod_typed index) below (I64 x ∷ I64 y ∷ []) rest
    at is refl)
    (join modules 30 1 _ _ _ (mod_leads modules st (callers ++ waiting ∷ []) own x y r d h)
    (return_leads modules st callers waiting own (I64 x ∷ I64 y ∷ I64 r ∷ []) (I64 (remainder_up r y) ∷ [])))
