-- Products: those of INTEGERs have 63 bits, and those of CARDINALs 64, where the sign bit makes the check fail.
use Rattle.std.proofs.Common.{◌≡◌, ℕ, suc, ◌-◌, ◌*◌, ◌%◌, ◌^◌, ◌≤◌, ℤ, pos, negsuc, ◌*ℤ◌, ◌≤ℤ◌, ◌<ℤ◌, Bool, true, false, [], ◌∷◌, ◌++◌, if◌then◌else◌, Option, Some, None, refl, sym, ap, ap₂, subst, ◌∙◌, arith}
use Rattle.std.specs.Prelude.{int_le}
use Rattle.std.specs.Int.{w64, cast_signed, cast_unsigned, int_wrap}
use Rattle.std.proofs.Math.Nat.{mul-le-mul}
use Rattle.std.proofs.lemmas.Int.{ints, of_z-to_z, int_wrap_fits, wrapping_mul-bits}
use Rattle.wasm_tree.specs.declared.instr.Operation.TheVariants.{Mul}
use Rattle.wasm_tree.specs.declared.store.Value.TheVariants.{I64}
use Rattle.law_effect.specs.Effect.{State as Target, Effect}
use Rattle.law_effect.specs.Effect as does
use Rattle.typed_tree.specs.declared.types.TypeNo.{TypeNo}
use Rattle.typed_tree.specs.declared.shape.Scalar.{Scalar as Range}
use Rattle.typed_tree.specs.Known.{scalar_at}
use Rattle.def_meaning.specs.Answer.{Value, Ended, overflow}
use Rattle.def_meaning.specs.Expressions.{within_range}
use Rattle.def_scheme.specs.Coded.{operation}
use Rattle.def_scheme.specs.Cells.{in_range}
use Rattle.law_simulation.specs.Scene.{Scene, HasHelpers, AreSmall, runs, Into, GivesNumber, word}
use Rattle.law_simulation.proofs.Checks.{below_fails}
use Rattle.law_simulation.proofs.Words.{IsWide, fits_wide, word_small, signed, from_le, not_le, above_between}
use Rattle.law_simulation.proofs.Operators.{IsNarrow, wide, narrow, Makes, operation_runs, range_gives}

-- what a product is at most, and at least
pub record IsProduct (v : ℤ) : Type 0 where
  pub low : negsuc 9223372034707292159 ≤ℤ v
  pub high : v ≤ℤ pos 18446744065119617025

pub product_is : (x y : ℤ) → IsNarrow x → IsNarrow y → IsProduct (x *ℤ y)
product_is (pos a) (pos b) hx hy =
    let ha = hx.high in let hb = hy.high in
    let m : a * b ≤ 4294967295 * 4294967295 =
    mul-le-mul {n₂ = 4294967295} {m₂ = 4294967295} (omega (arith, ints)) (omega (arith, ints)) in
    record { low = omega (arith, ints); high = omega (arith, ints, m) }
product_is (pos a) (negsuc b) hx hy =
    let ha = hx.high in let hb = hy.low in
    let m : a * suc b ≤ 4294967295 * 2147483648 =
    mul-le-mul {n₂ = 4294967295} {m₂ = 2147483648} (omega (arith, ints)) (omega (arith, ints)) in
    record { low = omega (arith, ints, m); high = omega (arith, ints, m) }
product_is (negsuc a) (pos b) hx hy =
    let ha = hx.low in let hb = hy.high in
    let m : suc a * b ≤ 2147483648 * 4294967295 =
    mul-le-mul {n₂ = 2147483648} {m₂ = 4294967295} (omega (arith, ints)) (omega (arith, ints)) in
    record { low = omega (arith, ints, m); high = omega (arith, ints, m) }
product_is (negsuc a) (negsuc b) hx hy =
    let ha = hx.low in let hb = hy.low in let m : suc a * suc b ≤ 2147483648 * 2147483648 =
    mul-le-mul {n₂ = 2147483648} {m₂ = 2147483648} (omega (arith, ints)) (omega (arith, ints)) in
    record { low = omega (arith, ints, m); high = omega (arith, ints, m) }

-- the word of a product that has 63 bits
pub product_word : (x y : ℤ) → IsNarrow x → IsNarrow y → IsWide (x *ℤ y) → word x * word y % 2 ^ 64 ≡ word (x *ℤ y)
product_word x y hx hy h =
    let n = word x in let m = word y in
    let both : cast_signed w64 ((n * m) % 2 ^ 64) ≡ int_wrap w64 (cast_signed w64 n *ℤ cast_signed w64 m) =
    wrapping_mul-bits w64 n m (word_small x (wide x hx)) (word_small y (wide y hy)) in
    let is : cast_signed w64 ((n * m) % 2 ^ 64) ≡ x *ℤ y = both
    ∙ ap (int_wrap w64) (ap₂ (λ (a b : ℤ). a *ℤ b) (signed x (wide x hx)) (signed y (wide y hy)))
    ∙ int_wrap_fits w64 (x *ℤ y) (fits_wide (x *ℤ y) h) in
    sym (of_z-to_z w64 ((n * m) % 2 ^ 64) (omega arith)) ∙ ap (cast_unsigned w64) is

-- a greater one is negative as a word with a sign
pub great_word : (p : ℕ) → 2 ^ 63 ≤ p → p ≤ 18446744065119617025 → cast_signed w64 p <ℤ negsuc 2147483647
great_word p l h =
    let z : ℤ = negsuc (18446744073709551615 - p) in
    let w : IsWide z = record { low = omega (arith, ints, l, h); high = omega (arith, ints) } in
    let is : word z ≡ p = omega (arith, ints, l, h) in
    let below : z <ℤ negsuc 2147483647 = omega (arith, ints, l, h) in
    subst (λ (v : ℤ). v <ℤ negsuc 2147483647) (sym (ap (cast_signed w64) (sym is) ∙ signed z w)) below

pub great_product : (x y : ℤ) → IsNarrow x → IsNarrow y → pos 9223372036854775807 <ℤ (x *ℤ y)
    → cast_signed w64 (word x * word y % 2 ^ 64) <ℤ negsuc 2147483647
great_product (pos a) (pos b) hx hy h =
    let ha = hx.high in let hb = hy.high in
    let m : a * b ≤ 4294967295 * 4294967295 =
    mul-le-mul {n₂ = 4294967295} {m₂ = 4294967295} (omega (arith, ints)) (omega (arith, ints)) in
    let l : 2 ^ 63 ≤ a * b = omega (arith, ints, h) in
    let w : a * b % 2 ^ 64 ≡ a * b = omega (arith, m) in
    subst (λ (p : ℕ). cast_signed w64 p <ℤ negsuc 2147483647) (sym w) (great_word (a * b) l (omega (arith, m)))
great_product (pos a) (negsuc b) hx hy h = let p = product_is (pos a) (negsuc b) hx hy in
    absurd (omega (arith, ints, h))
great_product (negsuc a) (pos b) hx hy h = absurd (omega (arith, ints, h))
great_product (negsuc a) (negsuc b) hx hy h =
    let ha = hx.low in let hb = hy.low in let m : suc a * suc b ≤ 2147483648 * 2147483648 =
    mul-le-mul {n₂ = 2147483648} {m₂ = 2147483648} (omega (arith, ints)) (omega (arith, ints)) in
    absurd (omega (arith, ints, h, m))

module _ (k : Scene) (has : HasHelpers k) (small : AreSmall k.setting.home.types) where
  pub product_goes : (t u w : TypeNo) → (scalar_at k.setting.home.types w ≡ None → ⊥)
      → Makes k has small t u w (operation Mul ∷ in_range (scalar_at k.setting.home.types w) 2)
      (λ x y s. within_range (scalar_at k.setting.home.types w) overflow (x *ℤ y) s)
  product_goes t u w some x hx y hy s st h rest stack =
      let nx = narrow k has small t x hx in let ny = narrow k has small u y hy in
      by (scalar_at k.setting.home.types w) refl nx ny (int_le (x *ℤ y) (pos 9223372036854775807)) refl
    where
      n : ℕ
      n = word x * word y % 2 ^ 64

      by : (o : Option Range) → scalar_at k.setting.home.types w ≡ o → IsNarrow x → IsNarrow y → (b : Bool)
          → int_le (x *ℤ y) (pos 9223372036854775807) ≡ b
          → Into (GivesNumber k w (runs k rest) stack)
          (runs k (operation Mul ∷ (in_range o 2 ++ rest)) st ((stack ++ I64 (word x) ∷ []) ++ I64 (word y) ∷ []))
          (within_range o overflow (x *ℤ y) s)
      by None is nx ny b e = absurd (some is)
      by (Some r) is nx ny true e =
          let p = product_is x y nx ny in let l = p.low in
          let v : IsWide (x *ℤ y) = record {
            low = omega (arith, ints);
            high =
                from_le (x *ℤ y) (pos 9223372036854775807) e;
          } in
          subst (λ (a : Effect). Into (GivesNumber k w (runs k rest) stack) a
          (within_range (Some r) overflow (x *ℤ y) s))
          (sym (operation_runs k has small Mul (word x) (word y) (word (x *ℤ y)) (in_range (Some r) 2 ++ rest) st stack
          (ap Some (product_word x y nx ny v))))
          (range_gives k has small w (Some r) is 2 (omega arith) (omega arith) (x *ℤ y) v (λ e. absurd (cc e)) s st h
          rest stack)
      by (Some r) is nx ny false e =
          let sm = small w r is in let low = sm.low in let high = sm.high in let order = sm.some in
          let great = not_le (x *ℤ y) (pos 9223372036854775807) e in
          let below : cast_signed w64 n <ℤ r.low =
          (let g = great_product x y nx ny great in omega (arith, ints, g, low)) in
          let wide_low : IsWide r.low = record { low = omega (arith, ints); high = omega (arith, ints) } in
          let above : r.high <ℤ (x *ℤ y) = omega (arith, ints, great, high) in
          let left : runs k (operation Mul ∷ (in_range (Some r) 2 ++ rest)) st
          ((stack ++ I64 (word x) ∷ []) ++ I64 (word y) ∷ []) ≡ does.Ended 2 s.out =
          operation_runs k has small Mul (word x) (word y) n (in_range (Some r) 2 ++ rest) st stack refl
          ∙ below_fails k has r.low r.high n 2 wide_low below (omega arith) (omega arith) rest st stack
          ∙ ap (does.Ended 2) h.out
          in
          subst (λ (b : Bool). Into (GivesNumber k w (runs k rest) stack)
          (runs k (operation Mul ∷ (in_range (Some r) 2 ++ rest)) st
          ((stack ++ I64 (word x) ∷ []) ++ I64 (word y) ∷ [])) (if b then Value (x *ℤ y) s else Ended 2 s.out))
          (sym (above_between r.low (x *ℤ y) r.high above)) left
