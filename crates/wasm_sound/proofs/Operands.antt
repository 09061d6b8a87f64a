-- Operands on top, by their types.
use Rattle.std.proofs.Common.{◌≡◌, ℕ, ◌+◌, ◌-◌, ◌^◌, ◌%◌, List, [], ◌∷◌, ◌++◌, length, map, Option, Some, None, refl, sym, ap, subst, ◌∙◌, append_assoc, arith}
use Rattle.std.specs.Prelude.{slice_get, ◌==◌}
use Rattle.std.specs.Int.{w32, w64}
use Rattle.std.specs.Option.{option_and_then, option_map}
use Rattle.std.proofs.lemmas.List.{length_push}
use Rattle.wasm_tree.specs.declared.kinds.ValueType.{ValueType}
use Rattle.wasm_tree.specs.declared.kinds.ValueType.TheVariants as types
use Rattle.wasm_tree.specs.declared.instr.Numeric.{Numeric}
use Rattle.wasm_tree.specs.declared.instr.Numeric.TheVariants as numeric
use Rattle.wasm_tree.specs.declared.store.Value.{Value}
use Rattle.wasm_tree.specs.declared.store.Value.TheVariants.{I32, I64}
use Rattle.wasm_tree.specs.Numbers.{truth, compares, operation_result, extend_number}
use Rattle.wasm_tree.specs.Validity.{numeric_params, numeric_result}
use Rattle.wasm_tree.specs.Machine.{topmost, top_i32, top_i64, one_i32, one_i64, two_i32, two_i64, calculation}
use Rattle.wasm_tree.specs.Linking.{type_of}
use Rattle.wasm_sound.specs.Ready.{IsI32, IsI64, AreI32, AreI64, AreNumbers}
use Rattle.wasm_sound.proofs.Lists.{split_last-push}

-- ---- values by their types

pub is_one : (vs : List Value) (t : ValueType) → map type_of vs ≡ t ∷ [] → (v : Value) × (vs ≡ v ∷ []) × (type_of v ≡ t)
is_one [] t e = absurd (grind arith)
is_one (v ∷ []) t e = (v, refl, cc)
is_one (v ∷ w ∷ vs) t e = absurd (grind arith)

is_i32 : (v : Value) → type_of v ≡ types.I32 → (n : ℕ) × (v ≡ I32 n)
is_i32 (I32 n) e = (n, refl)
is_i32 (I64 n) e = absurd (grind arith)

is_i64 : (v : Value) → type_of v ≡ types.I64 → (n : ℕ) × (v ≡ I64 n)
is_i64 (I64 n) e = (n, refl)
is_i64 (I32 n) e = absurd (grind arith)

pub one_is_i32 : (vs : List Value) → map type_of vs ≡ types.I32 ∷ [] → (n : ℕ) × (vs ≡ I32 n ∷ [])
one_is_i32 vs e =
    let one = is_one vs types.I32 e in
    let n = is_i32 one.0 one.2 in
    (n.0, one.1 ∙ ap (λ (v : Value). v ∷ []) n.1)

pub one_is_i64 : (vs : List Value) → map type_of vs ≡ types.I64 ∷ [] → (n : ℕ) × (vs ≡ I64 n ∷ [])
one_is_i64 vs e =
    let one = is_one vs types.I64 e in
    let n = is_i64 one.0 one.2 in
    (n.0, one.1 ∙ ap (λ (v : Value). v ∷ []) n.1)

pub are_two : (vs : List Value) (t u : ValueType) → map type_of vs ≡ t ∷ u ∷ [] → (v w : Value) × (vs ≡ v ∷ w ∷ [])
    × (type_of v ≡ t) × (type_of w ≡ u)
are_two [] t u e = absurd (grind arith)
are_two (v ∷ vs) t u e =
    let rest : map type_of vs ≡ u ∷ [] = cc in
    let one = is_one vs u rest in
    (v, one.0, ap (λ (l : List Value). v ∷ l) one.1, cc, one.2)

pub are_i32 : (vs : List Value) → map type_of vs ≡ types.I32 ∷ types.I32 ∷ [] → (n m : ℕ) × (vs ≡ I32 n ∷ I32 m ∷ [])
are_i32 vs e =
    let two = are_two vs types.I32 types.I32 e in
    let n = is_i32 two.0 two.3 in
    let m = is_i32 two.1 two.4 in
    (n.0, m.0, two.2 ∙ ap (λ (v : Value). v ∷ two.1 ∷ []) n.1 ∙ ap (λ (v : Value). I32 n.0 ∷ v ∷ []) m.1)

pub are_i64 : (vs : List Value) → map type_of vs ≡ types.I64 ∷ types.I64 ∷ [] → (n m : ℕ) × (vs ≡ I64 n ∷ I64 m ∷ [])
are_i64 vs e =
    let two = are_two vs types.I64 types.I64 e in
    let n = is_i64 two.0 two.3 in
    let m = is_i64 two.1 two.4 in
    (n.0, m.0, two.2 ∙ ap (λ (v : Value). v ∷ two.1 ∷ []) n.1 ∙ ap (λ (v : Value). I64 n.0 ∷ v ∷ []) m.1)

pub are_i32_i64 : (vs : List Value) → map type_of vs ≡ types.I32 ∷ types.I64 ∷ [] → (n m : ℕ)
    × (vs ≡ I32 n ∷ I64 m ∷ [])
are_i32_i64 vs e =
    let two = are_two vs types.I32 types.I64 e in
    let n = is_i32 two.0 two.3 in
    let m = is_i64 two.1 two.4 in
    (n.0, m.0, two.2 ∙ ap (λ (v : Value). v ∷ two.1 ∷ []) n.1 ∙ ap (λ (v : Value). I32 n.0 ∷ v ∷ []) m.1)

-- ---- what is found on top

pub top_i32_at : (us : List Value) (n : ℕ) → top_i32 (us ++ I32 n ∷ []) ≡ Some (us, n)
top_i32_at us n = rw (split_last-push us (I32 n)) refl

pub top_i64_at : (us : List Value) (n : ℕ) → top_i64 (us ++ I64 n ∷ []) ≡ Some (us, n)
top_i64_at us n = rw (split_last-push us (I64 n)) refl

pub two : (us : List Value) (v w : Value) → us ++ v ∷ w ∷ [] ≡ us ++ v ∷ [] ++ w ∷ []
two us v w = sym (append_assoc us (v ∷ []) (w ∷ []))

get_last : (us : List Value) (v : Value) → slice_get (us ++ v ∷ []) (length us) ≡ Some v
get_last [] v = refl
get_last (u ∷ us) v = get_last us v

pub topmost_at : (us : List Value) (v : Value) → topmost (us ++ v ∷ []) ≡ Some v
topmost_at us v =
    let last : length (us ++ v ∷ []) - 1 ≡ length us = omega (arith, length_push us v) in
    ap (slice_get (us ++ v ∷ [])) last ∙ get_last us v

pub two_i32_at : (us : List Value) (n m : ℕ) (f : ℕ → ℕ → Value)
    → two_i32 (us ++ I32 n ∷ I32 m ∷ []) f ≡ Some (us, f n m)
two_i32_at us n m f =
    ap (λ (l : List Value). two_i32 l f) (two us (I32 n) (I32 m))
    ∙ ap (λ (o : Option (List Value × ℕ)). option_and_then
    (λ (q : List Value × ℕ). option_map (λ (p : List Value × ℕ). (p.0, f p.1 q.1)) (top_i32 q.0)) o)
    (top_i32_at (us ++ I32 n ∷ []) m)
    ∙ ap (λ (o : Option (List Value × ℕ)). option_map (λ (p : List Value × ℕ). (p.0, f p.1 m)) o) (top_i32_at us n)

pub two_i64_at : (us : List Value) (n m : ℕ) (f : ℕ → ℕ → Option Value)
    → two_i64 (us ++ I64 n ∷ I64 m ∷ []) f ≡ option_map (λ v. (us, v)) (f n m)
two_i64_at us n m f =
    ap (λ (l : List Value). two_i64 l f) (two us (I64 n) (I64 m))
    ∙ ap (λ (o : Option (List Value × ℕ)). option_and_then
    (λ (q : List Value × ℕ). option_and_then
    (λ (p : List Value × ℕ). option_map (λ (v : Value). (p.0, v)) (f p.1 q.1)) (top_i64 q.0)) o)
    (top_i64_at (us ++ I64 n ∷ []) m)
    ∙ ap (λ (o : Option (List Value × ℕ)). option_and_then
    (λ (p : List Value × ℕ). option_map (λ (v : Value). (p.0, v)) (f p.1 m)) o) (top_i64_at us n)

-- ---- numbers

-- what is made of operands has its type, where it is made at all
abbrev pub IsMade : Numeric → List Value → Option (List Value × Value) → Type 0
IsMade o us None = Unit {0}
IsMade o us (Some p) = (p.0 ≡ us) × (type_of p.1 ≡ numeric_result o)

made : (o : Numeric) (us : List Value) (q : Option (List Value × Value)) (v : Value) → q ≡ Some (us, v)
    → type_of v ≡ numeric_result o → IsMade o us q
made o us q v e t = subst (λ (x : Option (List Value × Value)). IsMade o us x) (sym e) (refl, t)

made_i64 : (o : Numeric) (us : List Value) (r : Option ℕ) → numeric_result o ≡ types.I64
    → IsMade o us (option_map (λ v. (us, v)) (option_map I64 r))
made_i64 o us None e = tt
made_i64 o us (Some n) e = (refl, sym e)

one_i32_typed : (o : Numeric) (us vs : List Value) (f : ℕ → Value) → map type_of vs ≡ types.I32 ∷ []
    → ((n : ℕ) → type_of (f n) ≡ numeric_result o) → IsI32 (us ++ vs) × IsMade o us (one_i32 (us ++ vs) f)
one_i32_typed o us vs f e t =
    let n = one_is_i32 vs e in
    subst (λ (l : List Value). IsI32 (us ++ l) × IsMade o us (one_i32 (us ++ l) f)) (sym n.1) (
      (us, n.0, refl),
      made o us (one_i32 (us ++ I32 n.0 ∷ []) f) (f n.0)
          (ap (λ (q : Option (List Value × ℕ)). option_map (λ (p : List Value × ℕ). (p.0, f p.1)) q)
          (top_i32_at us n.0))
          (t n.0),
    )

one_i64_typed : (o : Numeric) (us vs : List Value) (f : ℕ → Value) → map type_of vs ≡ types.I64 ∷ []
    → ((n : ℕ) → type_of (f n) ≡ numeric_result o) → IsI64 (us ++ vs) × IsMade o us (one_i64 (us ++ vs) f)
one_i64_typed o us vs f e t =
    let n = one_is_i64 vs e in
    subst (λ (l : List Value). IsI64 (us ++ l) × IsMade o us (one_i64 (us ++ l) f)) (sym n.1) (
      (us, n.0, refl),
      made o us (one_i64 (us ++ I64 n.0 ∷ []) f) (f n.0)
          (ap (λ (q : Option (List Value × ℕ)). option_map (λ (p : List Value × ℕ). (p.0, f p.1)) q)
          (top_i64_at us n.0))
          (t n.0),
    )

two_i32_typed : (o : Numeric) (us vs : List Value) (f : ℕ → ℕ → Value) → map type_of vs ≡ types.I32 ∷ types.I32 ∷ []
    → ((n m : ℕ) → type_of (f n m) ≡ numeric_result o) → AreI32 (us ++ vs) × IsMade o us (two_i32 (us ++ vs) f)
two_i32_typed o us vs f e t =
    let n = are_i32 vs e in
    subst (λ (l : List Value). AreI32 (us ++ l) × IsMade o us (two_i32 (us ++ l) f)) (sym n.2) (
      (us, n.0, n.1, refl),
      made o us (two_i32 (us ++ I32 n.0 ∷ I32 n.1 ∷ []) f) (f n.0 n.1) (two_i32_at us n.0 n.1 f)
          (t n.0 n.1),
    )

two_i64_typed : (o : Numeric) (us vs : List Value) (f : ℕ → ℕ → Option Value)
    → map type_of vs ≡ types.I64 ∷ types.I64 ∷ [] → ((n m : ℕ) → IsMade o us (option_map (λ v. (us, v)) (f n m)))
    → AreI64 (us ++ vs) × IsMade o us (two_i64 (us ++ vs) f)
two_i64_typed o us vs f e t =
    let n = are_i64 vs e in
    subst (λ (l : List Value). AreI64 (us ++ l) × IsMade o us (two_i64 (us ++ l) f)) (sym n.2)
    ((us, n.0, n.1, refl), subst (IsMade o us) (sym (two_i64_at us n.0 n.1 f)) (t n.0 n.1))

pub calculated_typed : (o : Numeric) (us vs : List Value) → map type_of vs ≡ numeric_params o → AreNumbers o (us ++ vs)
    × IsMade o us (calculation o (us ++ vs))
calculated_typed numeric.I32Eqz us vs e = one_i32_typed numeric.I32Eqz us vs (λ n. I32 (truth (n == 0))) e (λ n. refl)
calculated_typed (numeric.I32Relation r) us vs e =
    two_i32_typed (numeric.I32Relation r) us vs (λ n m. I32 (truth (compares w32 r n m))) e (λ n m. refl)
calculated_typed numeric.I64Eqz us vs e = one_i64_typed numeric.I64Eqz us vs (λ n. I32 (truth (n == 0))) e (λ n. refl)
calculated_typed (numeric.I64Relation r) us vs e =
    two_i64_typed (numeric.I64Relation r) us vs (λ n m. Some (I32 (truth (compares w64 r n m)))) e (λ n m. (refl, refl))
calculated_typed numeric.I32Add us vs e =
    two_i32_typed numeric.I32Add us vs (λ n m. I32 ((n + m) % 2 ^ 32)) e (λ n m. refl)
calculated_typed (numeric.I64Operation o) us vs e =
    two_i64_typed (numeric.I64Operation o) us vs (λ n m. option_map I64 (operation_result o n m)) e
    (λ n m. made_i64 (numeric.I64Operation o) us (operation_result o n m) refl)
calculated_typed numeric.I32WrapI64 us vs e =
    one_i64_typed numeric.I32WrapI64 us vs (λ n. I32 (n % 2 ^ 32)) e (λ n. refl)
calculated_typed numeric.I64ExtendI32S us vs e =
    one_i32_typed numeric.I64ExtendI32S us vs (λ n. I64 (extend_number n)) e (λ n. refl)
calculated_typed numeric.I64ExtendI32U us vs e = one_i32_typed numeric.I64ExtendI32U us vs (λ n. I64 n) e (λ n. refl)
