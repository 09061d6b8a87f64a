-- Constants, signs, sums, products, relations, and what else is made of numbers.
use Rattle.std.proofs.Common.{◌≡◌, ℕ, ◌≤◌, ℤ, pos, negsuc, ◌+ℤ◌, ◌-ℤ◌, ◌≤ℤ◌, true, List, [], ◌∷◌, ◌++◌, Option, Some, None, refl, sym, ap, subst, ◌∙◌, append_assoc, arith}
use Rattle.std.specs.Prelude.{int_le, option_map}
use Rattle.std.proofs.lemmas.Int.{ints}
use Rattle.std.proofs.lemmas.Bool.{and_parts}
use Rattle.wasm_tree.specs.declared.instr.Instr.{Instr}
use Rattle.wasm_tree.specs.declared.instr.Numeric.TheVariants as numeric
use Rattle.wasm_tree.specs.declared.instr.Operation.{Operation}
use Rattle.wasm_tree.specs.declared.instr.Operation.TheVariants.{Add, Sub}
use Rattle.wasm_tree.specs.declared.store.Value.{Value}
use Rattle.wasm_tree.specs.declared.store.Value.TheVariants.{I64}
use Rattle.wasm_tree.specs.Numbers.{operation_result as made}
use Rattle.law_effect.specs.Effect.{State as Target, Effect}
use Rattle.law_effect.proofs.Steps.{i64_runs, number_runs, two_64}
use Rattle.typed_tree.specs.declared.types.TypeNo.{TypeNo}
use Rattle.typed_tree.specs.declared.shape.Scalar.{Scalar as Range}
use Rattle.typed_tree.specs.declared.known_types.Types.{Types}
use Rattle.typed_tree.specs.Known.{scalar_at}
use Rattle.def_meaning.specs.Answer.{State as Source, Answer, ◌▷◌, overflow}
use Rattle.def_meaning.specs.Answer as answer
use Rattle.def_meaning.specs.Operators.{is_between}
use Rattle.def_meaning.specs.Environment.{Environment}
use Rattle.def_meaning.specs.Expressions.{Gives, within_range}
use Rattle.def_scheme.specs.Coded.{Coded, Counts, plain, ◌⨾◌, number, operation}
use Rattle.def_scheme.specs.Cells.{in_range}
use Rattle.law_simulation.specs.Scene.{Scene, calls, runs, HasHelpers, IsIn, IsValue, IsSmall, AreSmall, word, Stands, Into, GivesNumber, Grows, HasLocals, inside, Agrees, GoesOn}
use Rattle.law_simulation.proofs.Parts.{into_then, plain_agrees, IsPlain}
use Rattle.law_simulation.proofs.Words.{IsWide, from_le, sum_word, difference_word}
use Rattle.law_simulation.proofs.Checks.{checked_gives}

-- numbers of 32 bits, with a sign or without one
pub record IsNarrow (v : ℤ) : Type 0 where
  pub low : negsuc 2147483647 ≤ℤ v
  pub high : v ≤ℤ pos 4294967295

pub wide : (v : ℤ) → IsNarrow v → IsWide v
wide v h = let l = h.low in let t = h.high in record { low = omega (arith, ints); high = omega (arith, ints) }

pub in_narrow : (o : Option Range) → ((r : Range) → o ≡ Some r → IsSmall r) → (v : ℤ) → IsIn o v → IsNarrow v
in_narrow None small v is = let l = is.0 in let h = is.1 in record { low = omega (arith, ints); high = h }
in_narrow (Some r) small v is =
    let s = small r refl in let a = s.low in let b = s.high in let l = is.0 in let h = is.1 in
    record { low = omega (arith, ints); high = omega (arith, ints) }

pub between_in : (low high v : ℤ) → is_between low v high ≡ true → (low ≤ℤ v) × (v ≤ℤ high)
between_in low high v e = let p = and_parts (int_le low v) (int_le v high) e in (from_le low v p.0, from_le v high p.1)

module _ (k : Scene) (has : HasHelpers k) (small : AreSmall k.setting.home.types) where
  abbrev types : Types
  types = k.setting.home.types

  pub narrow : (t : TypeNo) (v : ℤ) → IsValue types t v → IsNarrow v
  narrow t v is = in_narrow (scalar_at types t) (small t) v is

  abbrev Numbers : (u : TypeNo) (rest : List Instr) (stack : List Value) → ℤ → Source → Effect → Type 0
  Numbers u rest stack = GivesNumber k u (runs k rest) stack

  -- ---- constants

  pub constant_agrees : (t : TypeNo) (n : ℤ) → IsValue types t n
      → Agrees k t (plain (number n ∷ [])) (λ a s. answer.Value n s)
  constant_agrees t n is = plain_agrees k t (plain (number n ∷ [])) (number n ∷ []) (λ a s. answer.Value n s)
      (λ e c. refl) (λ s st h rest stack. record {
        st = st;
        stands = h;
        is = is;
        run = i64_runs k.modules k.fixed k.turns (calls k) k.own rest st (word n) stack;
      })

  -- ---- a value as one of a type

  pub range_gives : (t : TypeNo) (o : Option Range) → scalar_at types t ≡ o → (j : ℕ) → 1 ≤ j → j ≤ 255 → (v : ℤ)
      → IsWide v → (o ≡ None → IsIn None v)
      → (s : Source) (st : Target) → Stands k s st → (rest : List Instr) (stack : List Value)
      → Into (Numbers t rest stack) (runs k (in_range o j ++ rest) st (stack ++ I64 (word v) ∷ []))
      (within_range o j v s)
  range_gives t None is j least most v hv any s st h rest stack =
      record { st = st; stands = h; is = subst (λ (o : Option Range). IsIn o v) (sym is) (any refl); run = refl }
  range_gives t (Some r) is j least most v hv any s st h rest stack =
      let sm = small t r is in let a = sm.low in let b = sm.high in
      let c = sm.some in
      checked_gives k has t r.low r.high v j
      (record { low = omega (arith, ints); high = omega (arith, ints) })
      (record { low = omega (arith, ints); high = omega (arith, ints) }) hv least most
      (λ e. subst (λ (o : Option Range). IsIn o v) (sym is) (between_in r.low r.high v e)) s st h rest stack

  -- ---- a second operand, and what is made of both

  abbrev pub Makes : (t u w : TypeNo) → List Instr → (ℤ → ℤ → Source → Answer ℤ) → Type 0
  Makes t u w list f =
      (x : ℤ) → IsValue types t x → (y : ℤ) → IsValue types u y → (s : Source) (st : Target) → Stands k s st
      → (rest : List Instr) (stack : List Value)
      → Into (Numbers w rest stack) (runs k (list ++ rest) st ((stack ++ I64 (word x) ∷ []) ++ I64 (word y) ∷ []))
      (f x y s)

  pub second_goes : (t u w : TypeNo) (code after : Coded) (list : List Instr) (value : Gives ℤ)
      (f : ℤ → ℤ → Environment → Source → Answer ℤ) → Agrees k u code value → IsPlain k after list
      → Makes t u w list (λ x y s. f x y k.around s)
      → GoesOn k t w (code ⨾ after) (λ x a s. value a s ▷ λ y s. f x y a s)
  second_goes t u w code after list value f ha is go = record {
    grows = λ e c. subst (λ (p : List Instr × Counts). Grows c p.1) (sym (is e (code (inside k e) c).1)) (ha.grows e c);
    gives = λ e c free full x in_type s st h rest stack.
        let first = code (inside k e) c in
        subst (λ (p : List Instr × Counts). Into (Numbers w rest stack)
        (runs k ((first.0 ++ p.0) ++ rest) st (stack ++ I64 (word x) ∷ []))
        (value k.around s ▷ λ y s. f x y k.around s)) (sym (is e first.1))
        (subst (λ (code : List Instr). Into (Numbers w rest stack) (runs k code st (stack ++ I64 (word x) ∷ []))
        (value k.around s ▷ λ y s. f x y k.around s)) (sym (append_assoc first.0 list rest))
        (into_then (Numbers u (list ++ rest) (stack ++ I64 (word x) ∷ [])) (Numbers w rest stack)
        (runs k (first.0 ++ (list ++ rest)) st (stack ++ I64 (word x) ∷ [])) (value k.around s)
        (λ y s. f x y k.around s)
        (ha.gives e c free (subst (λ (p : List Instr × Counts). HasLocals k p.1) (is e first.1) full) s st h
        (list ++ rest) (stack ++ I64 (word x) ∷ []))
        (λ y s' p. subst (λ (r : Effect). Into (Numbers w rest stack) r (f x y k.around s')) (sym p.run)
        (go x in_type y p.is s' p.st p.stands rest stack))));
  }

  -- an operation of 64 bits
  pub operation_runs : (o : Operation) (i j n : ℕ) (rest : List Instr) (st : Target) (stack : List Value)
      → made o i j ≡ Some n
      → runs k (operation o ∷ rest) st ((stack ++ I64 i ∷ []) ++ I64 j ∷ []) ≡ runs k rest st (stack ++ I64 n ∷ [])
  operation_runs o i j n rest st stack e =
      number_runs k.modules k.fixed k.turns (calls k) k.own rest st (numeric.I64Operation o)
      ((stack ++ I64 i ∷ []) ++ I64 j ∷ []) stack (I64 n)
      (two_64 stack i j (λ a b. option_map I64 (made o a b))
      ∙ ap (λ q. option_map (λ (v : Value). (stack, v)) (option_map I64 q)) e)

  -- the result of an operation, in a base type
  pub based_goes : (t u w : TypeNo) (o : Operation) (f : ℤ → ℤ → ℤ)
      → ((x y : ℤ) → IsNarrow x → IsNarrow y → IsWide (f x y))
      → ((x y : ℤ) → IsNarrow x → IsNarrow y → made o (word x) (word y) ≡ Some (word (f x y)))
      → (scalar_at types w ≡ None → ⊥) → Makes t u w (operation o ∷ in_range (scalar_at types w) 2)
      (λ x y s. within_range (scalar_at types w) overflow (f x y) s)
  based_goes t u w o f is_wide is_word some x hx y hy s st h rest stack =
      let nx = narrow t x hx in let ny = narrow u y hy in
      subst (λ (r : Effect). Into (Numbers w rest stack) r (within_range (scalar_at types w) overflow (f x y) s))
      (sym (operation_runs o (word x) (word y) (word (f x y)) (in_range (scalar_at types w) 2 ++ rest) st stack
      (is_word x y nx ny)))
      (range_gives w (scalar_at types w) refl 2 (omega arith) (omega arith) (f x y) (is_wide x y nx ny)
      (λ e. absurd (some e)) s st h rest stack)

  sum_wide : (x y : ℤ) → IsNarrow x → IsNarrow y → IsWide (x +ℤ y)
  sum_wide x y hx hy = let a = hx.low in let b = hx.high in let c = hy.low in let d = hy.high in
      record { low = omega (arith, ints); high = omega (arith, ints) }

  difference_wide : (x y : ℤ) → IsNarrow x → IsNarrow y → IsWide (x -ℤ y)
  difference_wide x y hx hy = let a = hx.low in let b = hx.high in let c = hy.low in let d = hy.high in
      record { low = omega (arith, ints); high = omega (arith, ints) }

  pub sum_goes : (t u w : TypeNo) → (scalar_at types w ≡ None → ⊥)
      → Makes t u w (operation Add ∷ in_range (scalar_at types w) 2)
      (λ x y s. within_range (scalar_at types w) overflow (x +ℤ y) s)
  sum_goes t u w some = based_goes t u w Add (λ x y. x +ℤ y) sum_wide
      (λ x y hx hy. ap Some (sum_word x y (wide x hx) (wide y hy) (sum_wide x y hx hy))) some

  pub difference_goes : (t u w : TypeNo) → (scalar_at types w ≡ None → ⊥)
      → Makes t u w (operation Sub ∷ in_range (scalar_at types w) 2)
      (λ x y s. within_range (scalar_at types w) overflow (x -ℤ y) s)
  difference_goes t u w some = based_goes t u w Sub (λ x y. x -ℤ y) difference_wide
      (λ x y hx hy. ap Some (difference_word x y (wide x hx) (wide y hy) (difference_wide x y hx hy))) some
