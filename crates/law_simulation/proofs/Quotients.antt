-- DIV and MOD: the helpers divide as the definition of a run does.
use Rattle.std.proofs.Common.{◌≡◌, ℕ, zero, suc, ◌-◌, ◌*◌, ◌/◌, ◌≤◌, ◌<◌, ℤ, pos, negsuc, ◌+ℤ◌, ◌*ℤ◌, ◌≤ℤ◌, Bool, true, false, List, [], ◌∷◌, ◌++◌, if◌then◌else◌, Option, Some, None, div-le_self, sym, ap, ap₂, subst, ◌∙◌, refl, append_assoc, arith}
use Rattle.std.specs.Prelude.{int_lt}
use Rattle.std.specs.Int.{w64, cast_signed, cast_unsigned}
use Rattle.std.proofs.Math.Nat.{mul-le-mul}
use Rattle.std.proofs.lemmas.Int.{ints, of_z-to_z}
use Rattle.std.proofs.lemmas.Nat.{div-mul-add}
use Rattle.wasm_tree.specs.declared.instr.Instr.{Instr}
use Rattle.wasm_tree.specs.declared.instr.Instr.TheVariants as instr
use Rattle.wasm_tree.specs.declared.store.Value.{Value}
use Rattle.wasm_tree.specs.declared.store.Value.TheVariants.{I64}
use Rattle.wasm_tree.specs.Numbers.{is_less}
use Rattle.law_effect.specs.Effect.{State as Target, Effect, then_run}
use Rattle.law_effect.specs.Effect as effects
use Rattle.typed_tree.specs.declared.types.TypeNo.{TypeNo}
use Rattle.typed_tree.specs.declared.shape.Scalar.{Scalar as Range}
use Rattle.typed_tree.specs.declared.known_types.Types.{Types}
use Rattle.typed_tree.specs.Known.{scalar_at}
use Rattle.def_meaning.specs.Answer.{Ended, divisor_fault}
use Rattle.def_meaning.specs.Answer as answer
use Rattle.def_meaning.specs.Operators.{quotient, remainder}
use Rattle.def_meaning.specs.Expressions.{division_by}
use Rattle.wasm_tree.specs.declared.kinds.ValueType.TheVariants as kind
use Rattle.law_effect.proofs.Steps.{split_end_at}
use Rattle.def_scheme.specs.Helpers.{divisor_checked, div_rest, mod_typed, helper}
use Rattle.law_memory.specs.Called.{divided_down, modulo, Divides}
use Rattle.law_memory.proofs.Rounding.{divides_down}
use Rattle.law_memory.proofs.Divides.{div_called, mod_called}
use Rattle.law_simulation.specs.Scene.{Scene, runs, HasHelpers, IsIn, IsValue, AreSmall, AreAmong, word, Into, GivesNumber}
use Rattle.law_simulation.proofs.Served.{tested_on, served_runs}
use Rattle.law_simulation.proofs.Words.{IsWide, less_is}
use Rattle.law_simulation.proofs.Operators.{IsNarrow, wide, narrow, Makes}

-- ---- there is one quotient and one remainder

-- a number that is below each number is not one of them
less_once : (m b r : ℕ) → r < suc b → r < suc m * suc b
less_once m b r h = let l : suc b * 1 ≤ suc b * suc m =
    mul-le-mul {n₂ = suc b} {m₂ = suc m} (omega arith) (omega arith) in omega (arith, h, l)

one_quotient : (x q r : ℤ) (b : ℕ) → Divides x (pos (suc b)) q r → q ≡ quotient x (pos (suc b))
one_quotient (pos a) (pos m) (pos r) b d = let s = d.sum in let l = d.below in
    ap pos (sym (div-mul-add m (suc b) r (omega (arith, ints))) ∙ ap (λ (n : ℕ). n / suc b) (omega (arith, ints)))
one_quotient (pos a) (negsuc m) (pos r) b d = let s = d.sum in let l = d.below in
    let less = less_once m b r (omega (arith, ints)) in absurd (omega (arith, ints))
one_quotient (negsuc a) (pos m) (pos r) b d = let s = d.sum in absurd (omega (arith, ints))
one_quotient (negsuc a) (negsuc m) (pos r) b d =
    let s = d.sum in let l = d.below in
    ap negsuc (sym (div-mul-add m (suc b) (b - r) (omega (arith, ints)))
    ∙ ap (λ (n : ℕ). n / suc b) (omega (arith, ints)))
one_quotient x q (negsuc r) b d = let l = d.least in absurd (omega (arith, ints))

-- both are as the definition of a run has them
euclid : (x : ℤ) (b : ℕ) → Divides x (pos (suc b)) (quotient x (pos (suc b))) (remainder x (pos (suc b)))
euclid (pos a) b = record { sum = omega (arith, ints); least = omega (arith, ints); below = omega (arith, ints) }
euclid (negsuc a) b = record { sum = omega (arith, ints); least = omega (arith, ints); below = omega (arith, ints) }

one_remainder : (x q r : ℤ) (b : ℕ) → Divides x (pos (suc b)) q r → r ≡ remainder x (pos (suc b))
one_remainder x q r b d =
    let s = d.sum in let is = one_quotient x q r b d in let t = (euclid x b).sum in
    let u : x ≡ quotient x (pos (suc b)) *ℤ pos (suc b) +ℤ r = s ∙ ap (λ (q : ℤ). q *ℤ pos (suc b) +ℤ r) is in
    cancel (quotient x (pos (suc b)) *ℤ pos (suc b)) r (remainder x (pos (suc b))) (sym u ∙ t)
  where
    cancel : (p r s : ℤ) → p +ℤ r ≡ p +ℤ s → r ≡ s
    cancel p r s e = omega (arith, ints)

-- what lies between numbers of a type is one of it
between_two : (o : Option Range) (low v high : ℤ) → IsIn o low → IsIn o high → low ≤ℤ v → v ≤ℤ high → IsIn o v
between_two None low v high a b l h = let p = a.0 in let q = b.1 in
    (omega (arith, ints, p, l), omega (arith, ints, q, h))
between_two (Some r) low v high a b l h = let p = a.0 in let q = b.1 in
    (omega (arith, ints, p, l), omega (arith, ints, q, h))

quotient_in : (o : Option Range) (x : ℤ) (b : ℕ) → IsIn o x → IsIn o (pos 0) → IsIn o (quotient x (pos (suc b)))
quotient_in o (pos a) b is nought = let l = div-le_self a (suc b) in
    between_two o (pos 0) (pos (a / suc b)) (pos a) nought is (omega (arith, ints)) (omega (arith, ints))
quotient_in o (negsuc a) b is nought = let l = div-le_self a (suc b) in
    between_two o (negsuc a) (negsuc (a / suc b)) (pos 0) is nought (omega (arith, ints)) (omega (arith, ints))

remainder_in : (o : Option Range) (x : ℤ) (b : ℕ) → IsIn o (pos (suc b)) → IsIn o (pos 0)
    → IsIn o (remainder x (pos (suc b)))
remainder_in o x b is nought = let d = euclid x b in let l = d.least in let h = d.below in
    between_two o (pos 0) (remainder x (pos (suc b))) (pos (suc b)) nought is l (omega (arith, ints, h))

-- ---- tests of a divisor

at_least : (n : ℕ) → int_lt (pos (suc n)) (pos 1) ≡ false
at_least n = grind arith

at_most : (y : ℤ) → y ≤ℤ pos 4294967295 → int_lt (pos 4294967295) y ≡ false
at_most y l = grind (arith, l)

some : (n : ℕ) → int_lt (pos 0) (pos (suc n)) ≡ true
some n = grind arith

-- ---- the words of both

module _ (x : ℤ) (b : ℕ) (hx : IsNarrow x) (hy : IsNarrow (pos (suc b))) where
  divides : Divides x (pos (suc b)) (cast_signed w64 (divided_down (word x) (word (pos (suc b)))))
      (cast_signed w64 (modulo (word x) (word (pos (suc b)))))
  divides =
      let lx = hx.low in let ux = hx.high in let uy = hy.high in
      divides_down x (pos (suc b)) (omega (arith, ints, lx)) (omega (arith, ints, ux)) (omega (arith, ints)) uy

  quotient_word : divided_down (word x) (word (pos (suc b))) ≡ word (quotient x (pos (suc b)))
  quotient_word =
      let n : ℕ = divided_down (word x) (word (pos (suc b))) in
      sym (of_z-to_z w64 n (omega arith)) ∙ ap (cast_unsigned w64)
      (one_quotient x (cast_signed w64 n) (cast_signed w64 (modulo (word x) (word (pos (suc b))))) b divides)

  remainder_word : modulo (word x) (word (pos (suc b))) ≡ word (remainder x (pos (suc b)))
  remainder_word =
      let n : ℕ = modulo (word x) (word (pos (suc b))) in
      sym (of_z-to_z w64 n (omega arith)) ∙ ap (cast_unsigned w64)
      (one_remainder x (cast_signed w64 (divided_down (word x) (word (pos (suc b))))) (cast_signed w64 n) b divides)

module _ (k : Scene) (has : HasHelpers k) (small : AreSmall k.setting.home.types) where
  abbrev types : Types
  types = k.setting.home.types

  abbrev tested : (below above : Bool) → (out : List ℕ) → Effect → Effect
  tested below above out on = if below then effects.Ended 4 out else (if above then effects.Ended 4 out else on)

  abbrev Called : (f : ℕ) → (ℕ → ℕ → ℕ) → Type 0
  Called f made =
      (x y : ℕ) (st : Target) (rest : List Instr) (stack : List Value)
      → runs k (instr.Call f ∷ rest) st ((stack ++ I64 x ∷ []) ++ I64 y ∷ [])
      ≡ tested (is_less w64 y 1) (is_less w64 4294967295 y) st.out (runs k rest st (stack ++ I64 (made x y) ∷ []))

  div_here : Called 5 divided_down
  div_here x y st rest stack =
      ap (runs k (instr.Call 5 ∷ rest) st) (append_assoc stack (I64 x ∷ []) (I64 y ∷ []))
      ∙ served_runs k has 5 3 (helper (kind.I64 ∷ kind.I64 ∷ []) (kind.I64 ∷ []) has.quotient_index
      (divisor_checked div_rest)) st (stack ++ I64 x ∷ I64 y ∷ []) stack (I64 x ∷ I64 y ∷ []) rest (omega arith)
      (has.quotient st.bytes) has.quotient_there (split_end_at stack (I64 x ∷ I64 y ∷ []) 2 refl)
      ∙ ap (λ (e : Effect). then_run e (runs k rest))
      (div_called k.modules k.fixed k.extra k.turns has.levels k.turns k.own 5 k.own 3 has.quotient_index 2
      has.check_index st (has.quotient st.bytes) has.quotient_there (has.check st.bytes) has.check_there
      (has.stop st.bytes) x y stack [])
      ∙ tested_on (is_less w64 y 1) (is_less w64 4294967295 y) 4 st.out st (stack ++ I64 (divided_down x y) ∷ [])
      (runs k rest)

  mod_here : Called 6 modulo
  mod_here x y st rest stack =
      ap (runs k (instr.Call 6 ∷ rest) st) (append_assoc stack (I64 x ∷ []) (I64 y ∷ []))
      ∙ served_runs k has 6 4 (mod_typed has.remainder_index) st (stack ++ I64 x ∷ I64 y ∷ []) stack
      (I64 x ∷ I64 y ∷ []) rest (omega arith) (has.remainder st.bytes) has.remainder_there
      (split_end_at stack (I64 x ∷ I64 y ∷ []) 2 refl)
      ∙ ap (λ (e : Effect). then_run e (runs k rest))
      (mod_called k.modules k.fixed k.extra k.turns has.levels k.turns k.own 6 k.own 4 has.remainder_index 2
      has.check_index st (has.remainder st.bytes) has.remainder_there (has.check st.bytes) has.check_there
      (has.stop st.bytes) x y stack [])
      ∙ tested_on (is_less w64 y 1) (is_less w64 4294967295 y) 4 st.out st (stack ++ I64 (modulo x y) ∷ [])
      (runs k rest)

  -- the divisor is checked, and then there is a result
  divided_makes : (t u w : TypeNo) (f : ℕ) (made : ℕ → ℕ → ℕ) (of : ℤ → ℤ → ℤ) → Called f made
      → ((x : ℤ) (b : ℕ) → IsNarrow x → IsNarrow (pos (suc b))
      → made (word x) (word (pos (suc b))) ≡ word (of x (pos (suc b))))
      → ((x : ℤ) (b : ℕ) → IsValue types t x → IsValue types u (pos (suc b)) → IsValue types w (of x (pos (suc b))))
      → Makes k has small t u w (instr.Call f ∷ []) (λ x y s. division_by of x y s)
  divided_makes t u w f made of call is_word in_type x hx y hy s st h rest stack =
      subst (λ (r : Effect). Into (GivesNumber k w (runs k rest) stack) r (division_by of x y s)) (sym path) (by y hy)
    where
      on : ℤ → Effect
      on y = runs k rest st (stack ++ I64 (made (word x) (word y)) ∷ [])

      bound : (n : ℕ) → n ≤ 4294967295 → IsWide (pos n)
      bound n h = record { low = omega (arith, ints); high = omega (arith, ints) }

      wide_y : IsWide y
      wide_y = wide y (narrow k has small u y hy)

      path : runs k (instr.Call f ∷ rest) st ((stack ++ I64 (word x) ∷ []) ++ I64 (word y) ∷ [])
          ≡ tested (int_lt y (pos 1)) (int_lt (pos 4294967295) y) st.out (on y)
      path =
          call (word x) (word y) st rest stack
          ∙ ap₂ (λ (a b : Bool). tested a b st.out (on y)) (less_is y (pos 1) wide_y (bound 1 (omega arith)))
          (less_is (pos 4294967295) y (bound 4294967295 (omega arith)) wide_y)

      by : (y : ℤ) → IsValue types u y → Into (GivesNumber k w (runs k rest) stack)
          (tested (int_lt y (pos 1)) (int_lt (pos 4294967295) y) st.out (on y)) (division_by of x y s)
      by (negsuc n) hy = ap (effects.Ended 4) h.out
      by (pos zero) hy = ap (effects.Ended 4) h.out
      by (pos (suc n)) hy =
          let high = (narrow k has small u (pos (suc n)) hy).high in
          subst (λ (b : Bool). Into (GivesNumber k w (runs k rest) stack)
          (tested (int_lt (pos (suc n)) (pos 1)) (int_lt (pos 4294967295) (pos (suc n))) st.out (on (pos (suc n))))
          (if b then answer.Value (of x (pos (suc n))) s else Ended divisor_fault s.out)) (sym (some n))
          (record {
            st = st;
            stands = h;
            is = in_type x n hx hy;
            run =
                ap₂ (λ (a b : Bool). tested a b st.out (on (pos (suc n)))) (at_least n) (at_most (pos (suc n)) high)
                ∙ ap (λ (i : ℕ). runs k rest st (stack ++ I64 i ∷ []))
                (is_word x n (narrow k has small t x hx) (narrow k has small u (pos (suc n)) hy));
          })

  pub quotient_makes : (t u w : TypeNo) → AreAmong types t w → IsValue types w (pos 0)
      → Makes k has small t u w (instr.Call 5 ∷ []) (λ x y s. division_by quotient x y s)
  quotient_makes t u w among nought =
      divided_makes t u w 5 divided_down quotient div_here quotient_word
      (λ x b hx hy. quotient_in (scalar_at types w) x b (among x hx) nought)

  pub remainder_makes : (t u w : TypeNo) → AreAmong types u w → IsValue types w (pos 0)
      → Makes k has small t u w (instr.Call 6 ∷ []) (λ x y s. division_by remainder x y s)
  remainder_makes t u w among nought =
      divided_makes t u w 6 modulo remainder mod_here remainder_word
      (λ x b hx hy. remainder_in (scalar_at types w) x b (among (pos (suc b)) hy) nought)
