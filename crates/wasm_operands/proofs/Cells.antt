-- Values and their cells.
use Rattle.std.proofs.Common.{◌≡◌, ℕ, ◌+◌, ◌-◌, ◌%◌, ◌^◌, ◌<◌, ◌≤◌, List, [], ◌∷◌, ◌++◌, map, take, drop, replicate, length, Some, refl, sym, ap, ap₂, ◌∙◌, arith, zero, suc, get_or}
use Rattle.std.specs.Prelude.{slice_set, slice_index_or}
use Rattle.std.proofs.Math.Nat.{mod-eq_of_lt}
use Rattle.std.proofs.lemmas.List.{map_push, map-append, map-set, take-map, drop-map, get_or-map, get_or_push, same_from_push, length_push, length-map, take_more_set, take_all, length-set}
use Rattle.std.proofs.Math.Seq.{take-append_seam}
use Rattle.wasm_tree.specs.declared.kinds.ValueType.{ValueType}
use Rattle.wasm_tree.specs.declared.kinds.ValueType.TheVariants as types
use Rattle.wasm_tree.specs.declared.store.Value.{Value}
use Rattle.wasm_tree.specs.declared.store.Value.TheVariants.{I32, I64}
use Rattle.wasm_tree.specs.Machine.{top_i32, top_i64, zero_of}
use Rattle.wasm_sound.specs.Ready.{IsI32, IsI64}
use Rattle.wasm_sound.proofs.Uses.{i32_is, i64_is}
use Rattle.wasm_operands.specs.Bits.{bits_of, cut, value_at}
use Rattle.wasm_operands.proofs.Merely.{to_less, to_found}

-- as many values as cells
pub as_many : (vs : List Value) (cs : List ℕ) → map bits_of vs ≡ cs → length vs ≡ length cs
as_many vs cs e = sym (length-map vs bits_of) ∙ ap length e

-- ---- fewer of them

pub bits_take : (n : ℕ) (vs new : List Value) (cs left : List ℕ) → map bits_of vs ≡ cs → new ≡ take n vs
    → left ≡ take n cs → map bits_of new ≡ left
bits_take n vs new cs left e f g = ap (map bits_of) f ∙ (sym (take-map bits_of n vs) ∙ (ap (take n) e ∙ sym g))

pub fits_take : (n : ℕ) (vs new : List Value) → map cut vs ≡ vs → new ≡ take n vs → map cut new ≡ new
fits_take n vs new e f = ap (map cut) f ∙ (sym (take-map cut n vs) ∙ (ap (take n) e ∙ sym f))

-- the lowest ones and the topmost ones
pub bits_kept : (n m k : ℕ) (vs new : List Value) (cs left : List ℕ) → map bits_of vs ≡ cs → k ≡ length cs - m
    → new ≡ take n vs ++ drop (length vs - m) vs → left ≡ take n cs ++ drop k cs → map bits_of new ≡ left
bits_kept n m k vs new cs left e h f g =
    let same : length vs - m ≡ k = ap (λ (j : ℕ). j - m) (as_many vs cs e) ∙ sym h in
    ap (map bits_of) f ∙ (map-append bits_of (take n vs) (drop (length vs - m) vs)
    ∙ (ap₂ (λ (a b : List ℕ). a ++ b) (sym (take-map bits_of n vs) ∙ ap (take n) e)
    (sym (drop-map bits_of (length vs - m) vs) ∙ (ap (drop (length vs - m)) e ∙ ap (λ (j : ℕ). drop j cs) same))
    ∙ sym g))

pub fits_kept : (n k : ℕ) (vs new : List Value) → map cut vs ≡ vs → new ≡ take n vs ++ drop k vs → map cut new ≡ new
fits_kept n k vs new e f =
    ap (map cut) f ∙ (map-append cut (take n vs) (drop k vs)
    ∙ (ap₂ (λ (a b : List Value). a ++ b) (sym (take-map cut n vs) ∙ ap (take n) e)
    (sym (drop-map cut k vs) ∙ ap (drop k) e) ∙ sym f))

-- ---- more of them

pub bits_more : (vs more new : List Value) (cs others left : List ℕ) → map bits_of vs ≡ cs → map bits_of more ≡ others
    → new ≡ vs ++ more → left ≡ cs ++ others → map bits_of new ≡ left
bits_more vs more new cs others left e g f h = ap (map bits_of) f
    ∙ (map-append bits_of vs more ∙ (ap₂ (λ (a b : List ℕ). a ++ b) e g ∙ sym h))

pub fits_more : (vs more new : List Value) → map cut vs ≡ vs → map cut more ≡ more → new ≡ vs ++ more
    → map cut new ≡ new
fits_more vs more new e g f = ap (map cut) f
    ∙ (map-append cut vs more ∙ (ap₂ (λ (a b : List Value). a ++ b) e g ∙ sym f))

pub bits_drop : (k : ℕ) (vs : List Value) (cs : List ℕ) → map bits_of vs ≡ cs → map bits_of (drop k vs) ≡ drop k cs
bits_drop k vs cs e = sym (drop-map bits_of k vs) ∙ ap (drop k) e

pub fits_drop : (k : ℕ) (vs : List Value) → map cut vs ≡ vs → map cut (drop k vs) ≡ drop k vs
fits_drop k vs e = sym (drop-map cut k vs) ∙ ap (drop k) e

map_copies : {A B : Type 0} (f : A → B) (n : ℕ) (x : A) → map f (replicate n x) ≡ replicate n (f x)
map_copies f zero x = refl
map_copies {A} {B} f (suc n) x = ap (λ (l : List B). f x ∷ l) (map_copies f n x)

zero_bits : (t : ValueType) → bits_of (zero_of t) ≡ 0
zero_bits types.I32 = refl
zero_bits types.I64 = refl

zero_fits : (t : ValueType) → cut (zero_of t) ≡ zero_of t
zero_fits types.I32 = refl
zero_fits types.I64 = refl

pub bits_zeros : (n : ℕ) (t : ValueType) (v : Value) → v ≡ zero_of t → map bits_of (replicate n v) ≡ replicate n 0
bits_zeros n t v e = map_copies bits_of n v ∙ ap (replicate n) (ap bits_of e ∙ zero_bits t)

pub fits_zeros : (n : ℕ) (t : ValueType) (v : Value) → v ≡ zero_of t → map cut (replicate n v) ≡ replicate n v
fits_zeros n t v e = map_copies cut n v ∙ ap (replicate n) (ap cut e ∙ (zero_fits t ∙ sym e))

-- filled up from where they end
pub filled_up : (n m k : ℕ) (cs left : List ℕ) → n ≡ length cs → k ≡ length cs
    → left ≡ take (n + m) cs ++ replicate ((n + m) - k) 0 → left ≡ cs ++ replicate m 0
filled_up n m k cs left e g h =
    let past : length cs ≤ n + m = omega (arith, e) in
    let rest : (n + m) - k ≡ m = omega (arith, e, g) in
    h ∙ ap₂ (λ (a b : List ℕ). a ++ b) (take_all (n + m) cs past) (ap (λ (j : ℕ). replicate j 0) rest)

-- ---- one of them

pub bits_at : (vs : List Value) (cs : List ℕ) (k x : ℕ) → map bits_of vs ≡ cs → k < length vs
    → x ≡ slice_index_or cs k x → bits_of (value_at vs k) ≡ x
bits_at vs cs k x e less is = sym (get_or-map bits_of vs k (I32 0) x less)
    ∙ (ap (λ (l : List ℕ). get_or l k x) e ∙ sym is)

pub fits_at : (vs : List Value) (k : ℕ) → map cut vs ≡ vs → k < length vs → cut (value_at vs k) ≡ value_at vs k
fits_at vs k e less = sym (get_or-map cut vs k (I32 0) (I32 0) less) ∙ ap (λ (l : List Value). get_or l k (I32 0)) e

pub bits_set : (vs new : List Value) (cs : List ℕ) (j k x : ℕ) (v : Value) → map bits_of vs ≡ cs → j ≡ k
    → new ≡ slice_set vs j v → bits_of v ≡ x → map bits_of new ≡ slice_set cs k x
bits_set vs new cs j k x v e same f g =
    ap (map bits_of) f ∙ (map-set bits_of vs j v
    ∙ (ap (λ (l : List ℕ). slice_set l j (bits_of v)) e
    ∙ (ap (slice_set cs j) g ∙ ap (λ (i : ℕ). slice_set cs i x) same)))

pub fits_set : (vs new : List Value) (k : ℕ) (v : Value) → map cut vs ≡ vs → cut v ≡ v → new ≡ slice_set vs k v
    → map cut new ≡ new
fits_set vs new k v e g f = ap (map cut) f
    ∙ (map-set cut vs k v ∙ (ap (λ (l : List Value). slice_set l k (cut v)) e ∙ (ap (slice_set vs k) g ∙ sym f)))

pub small_i32 : (n : ℕ) → n < 2 ^ 32 → cut (I32 n) ≡ I32 n
small_i32 n h = ap (λ (m : ℕ). I32 m) (mod-eq_of_lt h)

pub small_i64 : (n : ℕ) → n < 2 ^ 64 → cut (I64 n) ≡ I64 n
small_i64 n h = ap (λ (m : ℕ). I64 m) (mod-eq_of_lt h)

-- the topmost one is replaced
pub set_top : (vs new : List Value) (v : Value) → 0 < length vs → new ≡ slice_set vs (length vs - 1) v
    → new ≡ take (length vs - 1) vs ++ v ∷ []
set_top vs new v some e =
    let less : length vs - 1 < length vs = omega arith in
    let whole : length (slice_set vs (length vs - 1) v) ≤ (length vs - 1) + 1 =
    omega (arith, length-set vs (length vs - 1) v) in
    e ∙ (sym (take_all ((length vs - 1) + 1) (slice_set vs (length vs - 1) v) whole)
    ∙ take_more_set vs (length vs - 1) v less)

-- ---- the topmost one

without_last : (below : List Value) (v : Value) → take (length (below ++ v ∷ []) - 1) (below ++ v ∷ []) ≡ below
without_last below v =
    let n : length (below ++ v ∷ []) - 1 ≡ length below = omega (arith, length_push below v) in
    ap (λ (k : ℕ). take k (below ++ v ∷ [])) n ∙ take-append_seam below (v ∷ [])

last_fits : (below : List Value) (v : Value) → map cut (below ++ v ∷ []) ≡ below ++ v ∷ [] → cut v ≡ v
last_fits below v e = (same_from_push (map cut below) below (cut v) v (sym (map_push cut below v) ∙ e)).1

last_bits : (below : List Value) (v : Value) (cs : List ℕ) (k x : ℕ) → map bits_of (below ++ v ∷ []) ≡ cs
    → k + 1 ≡ length cs → x ≡ slice_index_or cs k x → bits_of v ≡ x
last_bits below v cs k x e n is =
    let here : length (map bits_of below) ≡ k =
    omega (arith, n, as_many (below ++ v ∷ []) cs e, length_push below v, length-map below bits_of) in
    sym (get_or_push (map bits_of below) (bits_of v) x k here)
    ∙ (ap (λ (l : List ℕ). get_or l k x) (sym (map_push bits_of below v) ∙ e) ∙ sym is)

pub some_32 : (vs : List Value) → ∥ IsI32 vs ∥₁ → 0 < length vs
some_32 vs h = to_less 0 (length vs) (λ (p : IsI32 vs). omega (arith, ap length p.2, length_push p.0 (I32 p.1))) h

pub some_64 : (vs : List Value) → ∥ IsI64 vs ∥₁ → 0 < length vs
some_64 vs h = to_less 0 (length vs) (λ (p : IsI64 vs). omega (arith, ap length p.2, length_push p.0 (I64 p.1))) h

module _ (vs : List Value) (cs : List ℕ) (k x : ℕ) (bits : map bits_of vs ≡ cs) (n : k + 1 ≡ length cs)
    (is : x ≡ slice_index_or cs k x) where
  is_top_32 : IsI32 vs → top_i32 vs ≡ Some (take (length vs - 1) vs, x)
  is_top_32 h =
      let number : h.1 ≡ x = last_bits h.0 (I32 h.1) cs k x (sym (ap (map bits_of) h.2) ∙ bits) n is in
      let below : h.0 ≡ take (length vs - 1) vs = sym (without_last h.0 (I32 h.1))
      ∙ sym (ap (λ (l : List Value). take (length l - 1) l) h.2) in
      i32_is vs h.0 h.1 h.2 ∙ ap (λ (l : List Value). Some (l, h.1)) below
      ∙ ap (λ (m : ℕ). Some (take (length vs - 1) vs, m)) number

  is_top_64 : IsI64 vs → top_i64 vs ≡ Some (take (length vs - 1) vs, x)
  is_top_64 h =
      let number : h.1 ≡ x = last_bits h.0 (I64 h.1) cs k x (sym (ap (map bits_of) h.2) ∙ bits) n is in
      let below : h.0 ≡ take (length vs - 1) vs = sym (without_last h.0 (I64 h.1))
      ∙ sym (ap (λ (l : List Value). take (length l - 1) l) h.2) in
      i64_is vs h.0 h.1 h.2 ∙ ap (λ (l : List Value). Some (l, h.1)) below
      ∙ ap (λ (m : ℕ). Some (take (length vs - 1) vs, m)) number

  is_small : map cut vs ≡ vs → IsI32 vs → x < 2 ^ 32
  is_small fits h =
      let number : h.1 ≡ x = last_bits h.0 (I32 h.1) cs k x (sym (ap (map bits_of) h.2) ∙ bits) n is in
      let same : cut (I32 h.1) ≡ I32 h.1 = last_fits h.0 (I32 h.1) (sym (ap (map cut) h.2) ∙ (fits ∙ h.2)) in
      let small : h.1 % 2 ^ 32 ≡ h.1 = ap bits_of same in
      omega (arith, small, number)

  pub found_32 : ∥ IsI32 vs ∥₁ → top_i32 vs ≡ Some (take (length vs - 1) vs, x)
  found_32 h = to_found _ _ is_top_32 h

  pub found_64 : ∥ IsI64 vs ∥₁ → top_i64 vs ≡ Some (take (length vs - 1) vs, x)
  found_64 h = to_found _ _ is_top_64 h

  pub found_small : map cut vs ≡ vs → ∥ IsI32 vs ∥₁ → x < 2 ^ 32
  found_small fits h = to_less _ _ (is_small fits) h
