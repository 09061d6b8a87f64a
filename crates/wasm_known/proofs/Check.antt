-- A call of check, with a number between its bounds.
use Rattle.std.proofs.Common.{◌≡◌, ℕ, List, [], ◌∷◌, ◌++◌, false, None, refl, sym, ap, subst, ◌∙◌, append_assoc}
use Rattle.std.specs.Int.{w64}
use Rattle.wasm_tree.specs.declared.instr.Instr.{Instr}
use Rattle.wasm_tree.specs.declared.instr.Instr.TheVariants as instr
use Rattle.wasm_tree.specs.declared.instr.Numeric.TheVariants as numeric
use Rattle.wasm_tree.specs.declared.instr.Relation.TheVariants.{GtS}
use Rattle.wasm_tree.specs.declared.module.WModule.{WModule}
use Rattle.wasm_tree.specs.declared.store.Value.{Value}
use Rattle.wasm_tree.specs.declared.store.Value.TheVariants.{I32, I64}
use Rattle.wasm_tree.specs.declared.store.Store.{Store}
use Rattle.wasm_tree.specs.Numbers.{truth, is_less}
use Rattle.wasm_tree.specs.Machine.{Label, Activation, Config, Going}
use Rattle.wasm_helpers.specs.Codes.{check_tests, check_code, check_typed}
use Rattle.wasm_known.specs.Known.{Leads, with, CheckReturns, BoundsReturn}
use Rattle.wasm_known.proofs.Computed.{computed, join}
use Rattle.wasm_known.proofs.Calls.{block_leads, call_leads, return_leads}

module _ (modules : List WModule) (st : Store) (callers : List Activation) (own v lo hi k : ℕ) where
  abbrev outer : Label
  outer = record { arity = 0; height = 0; again = instr.LocalGet 0 ∷ []; rest = instr.LocalGet 0 ∷ [] }

  abbrev faults : List Instr
  faults = instr.LocalGet 3 ∷ instr.Call 1 ∷ instr.Unreachable ∷ []

  abbrev both : List Label
  both = outer ∷ record { arity = 0; height = 0; again = faults; rest = faults } ∷ []

  abbrev frame : List Label → List Instr → List Value → Activation
  frame labels code stack = record {
    instance = own;
    arity = 1;
    locals = I64 v ∷ I64 lo ∷ I64 hi ∷ I64 k ∷ [];
    labels =
        labels;
    rest = code;
    stack = stack;
  }

  abbrev here : List Label → List Instr → List Value → Config
  here labels code stack = Going st (frame labels code stack) callers

  abbrev second : List Instr
  second = instr.LocalGet 0 ∷ instr.LocalGet 2 ∷ instr.Numeric (numeric.I64Relation GtS) ∷ instr.BrIf 0 ∷ instr.Br 1
      ∷ []

  begins : Leads modules 2 (here [] check_code []) (here both check_tests [])
  begins =
      join modules 1 1 _ (here (outer ∷ []) (instr.Block None check_tests ∷ faults) []) _
      (block_leads modules st callers (frame [] check_code []) None (instr.Block None check_tests ∷ faults)
      (instr.LocalGet 0 ∷ []) [])
      (block_leads modules st callers (frame (outer ∷ []) check_code []) None check_tests faults [])

  not_below : is_less w64 v lo ≡ false → Leads modules 4 (here both check_tests []) (here both second [])
  not_below e =
      join modules 3 1 _ (here both (instr.BrIf 0 ∷ second) (I32 (truth (is_less w64 v lo)) ∷ [])) _
      (computed modules 3 _ _ refl)
      (subst (λ b. Leads modules 1 (here both (instr.BrIf 0 ∷ second) (I32 (truth b) ∷ [])) (here both second []))
      (sym e) (computed modules 1 _ _ refl))

  not_above : is_less w64 hi v ≡ false → Leads modules 4 (here both second []) (here both (instr.Br 1 ∷ []) [])
  not_above e =
      join modules 3 1 _ (here both (instr.BrIf 0 ∷ instr.Br 1 ∷ []) (I32 (truth (is_less w64 hi v)) ∷ [])) _
      (computed modules 3 _ _ refl)
      (subst (λ b. Leads modules 1 (here both (instr.BrIf 0 ∷ instr.Br 1 ∷ []) (I32 (truth b) ∷ []))
      (here both (instr.Br 1 ∷ []) [])) (sym e) (computed modules 1 _ _ refl))

  pub check_leads : is_less w64 v lo ≡ false → is_less w64 hi v ≡ false
      → Leads modules 12 (here [] check_code []) (here [] [] (I64 v ∷ []))
  check_leads low high =
      join modules 2 10 _ _ _ begins
      (join modules 4 6 _ _ _ (not_below low) (join modules 4 2 _ _ _ (not_above high) (computed modules 2 _ _ refl)))

pub check_returns : CheckReturns
check_returns modules st now callers g own f index at is v lo hi k below rest low high =
    let waiting : Activation = with now rest below in
    join modules 1 13 _ _ _ (call_leads modules st callers now g own f (check_typed index) below
    (I64 v ∷ I64 lo ∷ I64 hi ∷ I64 k ∷ []) rest at is refl)
    (join modules 12 1 _ _ _ (check_leads modules st (callers ++ waiting ∷ []) own v lo hi k low high)
    (return_leads modules st callers waiting own (I64 v ∷ I64 lo ∷ I64 hi ∷ I64 k ∷ []) (I64 v ∷ [])))

-- the operands of check, put on top one by one
four_on_top : (below : List Value) (v lo hi k : ℕ)
    → below ++ I64 v ∷ [] ++ I64 lo ∷ [] ++ I64 hi ∷ [] ++ I64 k ∷ [] ≡ below ++ I64 v ∷ I64 lo ∷ I64 hi ∷ I64 k ∷ []
four_on_top below v lo hi k =
    ap (λ (l : List Value). l ++ I64 hi ∷ [] ++ I64 k ∷ []) (append_assoc below (I64 v ∷ []) (I64 lo ∷ []))
    ∙ ap (λ (l : List Value). l ++ I64 k ∷ []) (append_assoc below (I64 v ∷ I64 lo ∷ []) (I64 hi ∷ []))
    ∙ append_assoc below (I64 v ∷ I64 lo ∷ I64 hi ∷ []) (I64 k ∷ [])

pub bounds_return : BoundsReturn
bounds_return modules st now callers g own f index at is v lo hi k below rest low high =
    join modules 3 14 _ (Going st (with now (instr.Call g ∷ rest)
    (below ++ I64 v ∷ [] ++ I64 lo ∷ [] ++ I64 hi ∷ [] ++ I64 k ∷ [])) callers) _ (computed modules 3 _ _ refl)
    (subst (λ (l : List Value). Leads modules 14 (Going st (with now (instr.Call g ∷ rest) l) callers)
    (Going st (with now rest (below ++ I64 v ∷ [])) callers)) (sym (four_on_top below v lo hi k))
    (check_returns modules st now callers g own f index at is v lo hi k below rest low high))
