-- Sets: numbers of 32 bits.
use Rattle.std.proofs.Common.{◌≡◌, ℕ, zero, suc, ◌/◌, ◌%◌, ◌^◌, ◌<◌, ℤ, pos, ◌≤ℤ◌, Bool, true, false, List, [], ◌∷◌, ◌++◌, Some, None, if◌then◌else◌, refl, sym, ap, ap₂, subst, ◌∙◌, arith}
use Rattle.std.specs.Prelude.{◌==◌, bit_and, bit_or, bit_xor}
use Rattle.std.proofs.lemmas.Int.{ints}
use Rattle.std.proofs.lemmas.Nat.{and_le_l, and_comm, or_lt, xor_lt, and_mask}
use Rattle.wasm_tree.specs.declared.instr.Instr.{Instr}
use Rattle.wasm_tree.specs.declared.instr.Instr.TheVariants as instr
use Rattle.wasm_tree.specs.declared.instr.Numeric.TheVariants as numeric
use Rattle.wasm_tree.specs.declared.instr.Operation.{Operation}
use Rattle.wasm_tree.specs.declared.instr.Operation.TheVariants.{And, Or, Xor, ShrU}
use Rattle.wasm_tree.specs.declared.store.Value.{Value}
use Rattle.wasm_tree.specs.declared.store.Value.TheVariants.{I64}
use Rattle.wasm_tree.specs.Numbers.{truth, operation_result as made}
use Rattle.law_effect.specs.Effect.{State as Target, Effect}
use Rattle.law_effect.proofs.Steps.{i64_runs}
use Rattle.typed_tree.specs.declared.types.TypeNo.{TypeNo}
use Rattle.typed_tree.specs.declared.computed.SetOperator.{SetOperator}
use Rattle.typed_tree.specs.declared.computed.SetOperator.TheVariants as sets
use Rattle.typed_tree.specs.Types.{boolean, bitset}
use Rattle.def_meaning.specs.Answer.{State as Source, Answer, Ended, ◌▷◌, range_fault}
use Rattle.def_meaning.specs.Answer as answer
use Rattle.def_meaning.specs.Operators as of
use Rattle.def_meaning.specs.Operators.{is_between, bits, without, set_operation, has}
use Rattle.def_meaning.specs.Expressions.{Gives, within}
use Rattle.def_scheme.specs.Coded.{Coded, Counts, plain, ◌⨾◌, with_number, operation, check_code}
use Rattle.def_scheme.specs.Exprs.{complement, set_code, empty_code}
use Rattle.law_simulation.specs.Scene.{Scene, calls, runs, HasHelpers, IsValue, AreSmall, word, Stands, keeping, Into, GivesNumber, IsFree, HasLocals, inside, Agrees, AgreesBeside, GoesOn}
use Rattle.law_simulation.proofs.Parts.{Goes}
use Rattle.law_simulation.proofs.Operators.{wide, narrow, between_in, Makes, operation_runs}
use Rattle.law_simulation.proofs.Checks.{checked_gives}
use Rattle.law_simulation.proofs.Locals.{forgets, kept_runs, kept_grows, kept_gives}
use Rattle.law_simulation.proofs.Relations.{truth_gives, extended_runs, zero_runs}

-- ---- the word of a set is its bits

pub set_word : (v : ℤ) → pos 0 ≤ℤ v → v ≤ℤ pos 4294967295 → word v ≡ bits v
set_word v l h = omega (arith, ints)

pub set_small : (v : ℤ) → pos 0 ≤ℤ v → v ≤ℤ pos 4294967295 → bits v < 2 ^ 32
set_small v l h = omega (arith, ints)

pub bits_word : (n : ℕ) → n < 2 ^ 32 → word (pos n) ≡ n
bits_word n h = omega (arith, ints, h)

pub bits_in : (n : ℕ) → n < 2 ^ 32 → (pos 0 ≤ℤ pos n) × (pos n ≤ℤ pos 4294967295)
bits_in n h = (omega (arith, ints), omega (arith, ints, h))

pub and_small : (a b : ℕ) → a < 2 ^ 32 → bit_and a b < 2 ^ 32
and_small a b h = let l = and_le_l a b in omega (arith, h, l)

module _ (k : Scene) (has_helpers : HasHelpers k) (small : AreSmall k.setting.home.types) where
  abbrev Sets : (rest : List Instr) (stack : List Value) → ℤ → Source → Effect → Type 0
  Sets rest stack = GivesNumber k bitset (runs k rest) stack

  -- a set on top of the operands
  set_gives : (n : ℕ) → n < 2 ^ 32 → (s : Source) (st : Target) → Stands k s st
      → (rest : List Instr) (stack : List Value) (r : Effect) → r ≡ runs k rest st (stack ++ I64 n ∷ [])
      → Sets rest stack (pos n) s r
  set_gives n less s st h rest stack r e = record {
    st = st;
    stands = h;
    is = bits_in n less;
    run = e ∙ ap (λ (i : ℕ). runs k rest st (stack ++ I64 i ∷ [])) (sym (bits_word n less));
  }

  pub complement_runs : (i : ℕ) (rest : List Instr) (st : Target) (stack : List Value)
      → runs k (complement ++ rest) st (stack ++ I64 i ∷ []) ≡ runs k rest st (stack ++ I64 (bit_xor i 4294967295) ∷ [])
  complement_runs i rest st stack =
      i64_runs k.modules k.fixed k.turns (calls k) k.own (operation Xor ∷ rest) st 4294967295 (stack ++ I64 i ∷ [])
      ∙ operation_runs k has_helpers small Xor i 4294967295 (bit_xor i 4294967295) rest st stack refl

  abbrev two_sets : (st : Target) (stack : List Value) → List Instr → (i j : ℕ) → Effect
  two_sets st stack code i j = runs k code st ((stack ++ I64 i ∷ []) ++ I64 j ∷ [])

  -- words of sets are bits
  as_bits : (x y : ℤ) → IsValue k.setting.home.types bitset x → IsValue k.setting.home.types bitset y
      → (code : List Instr) (st : Target) (stack : List Value)
      → two_sets st stack code (word x) (word y) ≡ two_sets st stack code (bits x) (bits y)
  as_bits x y hx hy code st stack = ap₂ (two_sets st stack code) (set_word x hx.0 hx.1) (set_word y hy.0 hy.1)

  -- one operation
  one_set : (x y : ℤ) → IsValue k.setting.home.types bitset x → IsValue k.setting.home.types bitset y
      → (o : Operation) (n : ℕ) → made o (bits x) (bits y) ≡ Some n → n < 2 ^ 32
      → (s : Source) (st : Target) → Stands k s st → (rest : List Instr) (stack : List Value)
      → Sets rest stack (pos n) s (two_sets st stack (operation o ∷ rest) (word x) (word y))
  one_set x y hx hy o n e less s st h rest stack =
      set_gives n less s st h rest stack _ (as_bits x y hx hy (operation o ∷ rest) st stack
      ∙ operation_runs k has_helpers small o (bits x) (bits y) n rest st stack e)

  pub combine_makes : (o : SetOperator) →
      Makes k has_helpers small bitset bitset bitset (set_code o) (λ x y s. answer.Value (set_operation o x y) s)
  combine_makes sets.Union x hx y hy s st h rest stack =
      one_set x y hx hy Or (bit_or (bits x) (bits y)) refl
      (or_lt 32 (bits x) (bits y) (set_small x hx.0 hx.1) (set_small y hy.0 hy.1)) s st h rest stack
  combine_makes sets.Intersection x hx y hy s st h rest stack =
      one_set x y hx hy And (bit_and (bits x) (bits y)) refl (and_small (bits x) (bits y) (set_small x hx.0 hx.1)) s st
      h rest stack
  combine_makes sets.SymmetricDifference x hx y hy s st h rest stack =
      one_set x y hx hy Xor (bit_xor (bits x) (bits y)) refl
      (xor_lt 32 (bits x) (bits y) (set_small x hx.0 hx.1) (set_small y hy.0 hy.1)) s st h rest stack
  combine_makes sets.Difference x hx y hy s st h rest stack =
      set_gives (without (bits x) (bits y)) (and_small (bits x) (bit_xor (bits y) 4294967295) (set_small x hx.0 hx.1)) s
      st h rest stack _
      (as_bits x y hx hy (complement ++ (operation And ∷ rest)) st stack
      ∙ complement_runs (bits y) (operation And ∷ rest) st (stack ++ I64 (bits x) ∷ [])
      ∙ operation_runs k has_helpers small And (bits x) (bit_xor (bits y) 4294967295) (without (bits x) (bits y)) rest
      st stack refl)

  -- ---- inclusion: nothing is left

  empty_gives : (n : ℕ) (s : Source) (st : Target) → Stands k s st
      → (rest : List Instr) (stack : List Value) (r : Effect) → r ≡ runs k (empty_code ++ rest) st (stack ++ I64 n ∷ [])
      → GivesNumber k boolean (runs k rest) stack (of.truth (n == 0)) s r
  empty_gives n s st h rest stack r e =
      truth_gives k has_helpers small (n == 0) s st h rest stack r
      (e ∙ zero_runs k has_helpers small n (instr.Numeric numeric.I64ExtendI32U ∷ rest) st stack
      ∙ extended_runs k has_helpers small (truth (n == 0)) rest st stack)

  pub within_makes : Makes k has_helpers small bitset bitset boolean (complement ++ (operation And ∷ empty_code))
      (λ x y s. answer.Value (of.truth (without (bits x) (bits y) == 0)) s)
  within_makes x hx y hy s st h rest stack =
      empty_gives (without (bits x) (bits y)) s st h rest stack _
      (as_bits x y hx hy (complement ++ (operation And ∷ (empty_code ++ rest))) st stack
      ∙ complement_runs (bits y) (operation And ∷ (empty_code ++ rest)) st (stack ++ I64 (bits x) ∷ [])
      ∙ operation_runs k has_helpers small And (bits x) (bit_xor (bits y) 4294967295) (without (bits x) (bits y))
      (empty_code ++ rest) st stack refl)

  pub complement_goes : Goes k bitset bitset complement (λ v s. answer.Value (pos (bit_xor (bits v) 4294967295)) s)
  complement_goes v is s st h rest stack =
      set_gives (bit_xor (bits v) 4294967295) (xor_lt 32 (bits v) 4294967295 (set_small v is.0 is.1) (omega arith)) s st
      h rest stack _
      (ap (λ (i : ℕ). runs k (complement ++ rest) st (stack ++ I64 i ∷ [])) (set_word v is.0 is.1)
      ∙ complement_runs (bits v) rest st stack)

  pub around_makes : Makes k has_helpers small bitset bitset boolean (operation And ∷ empty_code)
      (λ x y s. answer.Value (of.truth (bit_and (bits y) (bits x) == 0)) s)
  around_makes x hx y hy s st h rest stack =
      empty_gives (bit_and (bits y) (bits x)) s st h rest stack _
      (as_bits x y hx hy (operation And ∷ (empty_code ++ rest)) st stack
      ∙ operation_runs k has_helpers small And (bits x) (bits y) (bit_and (bits y) (bits x)) (empty_code ++ rest) st
      stack (ap Some (and_comm (bits x) (bits y))))

  -- ---- IN: the element is kept, and then shifts the set

  bit_is : (n : ℕ) → bit_and n 1 ≡ truth (n % 2 == 1)
  bit_is n = and_mask n 1 ∙ bit (n % 2) (omega arith)
    where
      bit : (m : ℕ) → m < 2 → m ≡ truth (m == 1)
      bit zero l = refl
      bit (suc zero) l = refl
      bit (suc (suc m)) l = absurd (omega (arith, l))

  abbrev shifted : List Instr
  shifted = operation ShrU ∷ instr.I64Const 1 ∷ operation And ∷ []

  pub in_gives : (x y : ℤ) → pos 0 ≤ℤ x → x ≤ℤ pos 31 → IsValue k.setting.home.types bitset y
      → (s : Source) (st : Target) → Stands k s st → (rest : List Instr) (stack : List Value)
      → GivesNumber k boolean (runs k rest) stack (of.truth (has y x)) s
      (runs k (shifted ++ rest) st ((stack ++ I64 (word y) ∷ []) ++ I64 (word x) ∷ []))
  in_gives x y l u hy s st h rest stack =
      let e : word x ≡ bits x = omega (arith, ints) in
      let few : bits x % 64 ≡ bits x = omega (arith, ints) in
      let n : ℕ = bits y / 2 ^ bits x in
      truth_gives k has_helpers small (has y x) s st h rest stack _
      (ap₂ (two_sets st stack (shifted ++ rest)) (set_word y hy.0 hy.1) e
      ∙ operation_runs k has_helpers small ShrU (bits y) (bits x) n (instr.I64Const 1 ∷ operation And ∷ rest) st stack
      (ap (λ (m : ℕ). Some (bits y / 2 ^ m)) few)
      ∙ i64_runs k.modules k.fixed k.turns (calls k) k.own (operation And ∷ rest) st 1 (stack ++ I64 n ∷ [])
      ∙ operation_runs k has_helpers small And n 1 (truth (has y x)) rest st stack (ap Some (bit_is n)))

  module _ (y : Coded) (second : Gives ℤ) (hy : Agrees k bitset y second) (beside : AgreesBeside k bitset y second)
    where
      abbrev pub has_code : Coded
      has_code = plain (check_code (pos 0) (pos 31) 1) ⨾ with_number
          (λ n. plain (instr.LocalSet n ∷ []) ⨾ y ⨾ plain (instr.LocalGet n ∷ shifted))

      abbrev has_element : ℤ → Source → Answer ℤ
      has_element x s = second k.around s ▷ λ y s. answer.Value (of.truth (has y x)) s

      pub in_goes : (t : TypeNo) → GoesOn k t boolean has_code
          (λ x a s. within (pos 0) (pos 31) range_fault x s ▷ λ x s. second a s ▷ λ y s. answer.Value
          (of.truth (has y x))
          s)
      in_goes t = record {
        grows = λ e c. kept_grows k bitset boolean y (λ n. instr.LocalGet n ∷ shifted) second
            (λ y s. answer.Value (of.truth (has y (pos 0))) s) (pos 0) hy beside e c;
        gives = λ e c free full x is s st h rest stack. by e c free full x is s st h rest stack
            (is_between (pos 0) x (pos 31)) refl;
      }
        where
          after : (x : ℤ) → pos 0 ≤ℤ x → x ≤ℤ pos 31 → (n : ℕ) → k.kept n ≡ None → (y : ℤ)
              → IsValue k.setting.home.types bitset y → (s : Source) (st : Target)
              → Stands (keeping k n (I64 (word x))) s st → (rest : List Instr) (stack : List Value)
              → Into (GivesNumber k boolean (runs k rest) stack)
              (runs k ((instr.LocalGet n ∷ shifted) ++ rest) st (stack ++ I64 (word y) ∷ []))
              (answer.Value (of.truth (has y x)) s)
          after x l u n new y hy s st h rest stack =
              let p = in_gives x y l u hy s st (forgets k n (I64 (word x)) new s st h) rest stack in
              record {
                st = p.st;
                stands = p.stands;
                is = p.is;
                run =
                    kept_runs k n (I64 (word x)) (shifted ++ rest) s st (stack ++ I64 (word y) ∷ []) h ∙ p.run;
              }

          by : (e : ℕ) (c : Counts) → IsFree k c → HasLocals k (has_code (inside k e) c).1 → (x : ℤ)
              → IsValue k.setting.home.types t x → (s : Source) (st : Target) → Stands k s st
              → (rest : List Instr) (stack : List Value)
              → (b : Bool) → is_between (pos 0) x (pos 31) ≡ b
              → Into (GivesNumber k boolean (runs k rest) stack)
              (runs k ((has_code (inside k e) c).0 ++ rest) st (stack ++ I64 (word x) ∷ []))
              ((if b then answer.Value x s else Ended range_fault s.out) ▷ has_element)
          by e c free full x is s st h rest stack b same =
              let code : List Instr = (with_number
              (λ n. plain (instr.LocalSet n ∷ []) ⨾ y ⨾ plain (instr.LocalGet n ∷ shifted)) (inside k e) c).0 in
              let p = checked_gives k has_helpers t (pos 0) (pos 31) x 1
              (record { low = omega (arith, ints); high = omega (arith, ints) })
              (record { low = omega (arith, ints); high = omega (arith, ints) })
              (wide x (narrow k has_helpers small t x is)) (omega arith) (omega arith) (λ q. is) s st h (code ++ rest)
              stack in
              decided b same (subst (λ (b : Bool). Into (GivesNumber k t (runs k (code ++ rest)) stack)
              (runs k (check_code (pos 0) (pos 31) 1 ++ (code ++ rest)) st (stack ++ I64 (word x) ∷ []))
              (if b then answer.Value x s else Ended range_fault s.out)) same p)
            where
              decided : (b : Bool) → is_between (pos 0) x (pos 31) ≡ b
                  → Into (GivesNumber k t (runs k ((with_number
                  (λ n. plain (instr.LocalSet n ∷ []) ⨾ y ⨾ plain (instr.LocalGet n ∷ shifted)) (inside k e) c).0
                  ++ rest)) stack)
                  (runs k (check_code (pos 0) (pos 31) 1
                  ++ ((with_number (λ n. plain (instr.LocalSet n ∷ []) ⨾ y ⨾ plain (instr.LocalGet n ∷ shifted))
                  (inside k e) c).0 ++ rest)) st (stack ++ I64 (word x) ∷ []))
                  (if b then answer.Value x s else Ended range_fault s.out)
                  → Into (GivesNumber k boolean (runs k rest) stack)
                  (runs k ((has_code (inside k e) c).0 ++ rest) st (stack ++ I64 (word x) ∷ []))
                  ((if b then answer.Value x s else Ended range_fault s.out) ▷ has_element)
              decided true same p =
                  let q = between_in (pos 0) (pos 31) x same in
                  subst (λ (r : Effect). Into (GivesNumber k boolean (runs k rest) stack) r (has_element x s))
                  (sym p.run)
                  (kept_gives k bitset boolean y (λ n. instr.LocalGet n ∷ shifted) second
                  (λ y s. answer.Value (of.truth (has y x)) s) x hy beside (after x q.0 q.1) e c free full s p.st
                  p.stands rest stack)
              decided false same p = p
