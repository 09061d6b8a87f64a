-- Each reduction keeps numbers within what their types hold.
use Rattle.std.proofs.Common.{◌≡◌, ℕ, ◌+◌, ◌-◌, ◌%◌, ◌^◌, ◌<◌, Bool, true, false, List, length, take, drop, Option, Some, None, refl, subst, arith}
use Rattle.std.specs.Prelude.{All, nat_le, ◌==◌, if◌then◌else◌}
use Rattle.std.specs.Int.{w32, w64}
use Rattle.std.specs.Option.{option_and_then, option_map}
use Rattle.std.proofs.lemmas.List.Elements.{All-take, All-drop, All-pop}
use Rattle.std.proofs.lemmas.Option.{none-some, same_Some}
use Rattle.wasm_tree.specs.declared.instr.Numeric.{Numeric}
use Rattle.wasm_tree.specs.declared.instr.Numeric.TheVariants as numeric
use Rattle.wasm_tree.specs.declared.store.Value.{Value}
use Rattle.wasm_tree.specs.declared.store.Value.TheVariants.{I32, I64}
use Rattle.wasm_tree.specs.Numbers.{truth, compares, operation_result, extend_number}
use Rattle.wasm_tree.specs.Machine.{Progress, or_trap, split_last, split_end, top_i32, top_i64, one_i32, one_i64, two_i32, two_i64, calculation}
use Rattle.wasm_sound.specs.Ranges.{ValueFits, ConfigFits}
use Rattle.wasm_sound.proofs.Lists.{push_from_last}
use Rattle.wasm_sound.proofs.Calls.{then_some}
use Rattle.wasm_sound.proofs.Segments.{map_some}
use Rattle.wasm_sound.proofs.Numbers.{truth_fits, extended_fits, MayFit, operated_fits}

-- ---- what is found fits

pub or_trap_fits : {A : Type 0} (o : Option A) (go : A → Progress) → ((x : A) → o ≡ Some x → ConfigFits (go x).0)
    → ConfigFits (or_trap o go).0
or_trap_fits None go h = tt
or_trap_fits (Some x) go h = h x refl

pub if_fits : (b : Bool) (p q : Progress) → ConfigFits p.0 → ConfigFits q.0 → ConfigFits (if b then p else q).0
if_fits true p q h g = h
if_fits false p q h g = g

pub last_fits : {A : Type 0} (P : A → Type 0) (xs : List A) (p : List A × A) → split_last xs ≡ Some p → All P xs
    → All P p.0 × P p.1
last_fits P xs p e h = All-pop P xs p.0 (Some p.1) (push_from_last xs p e) h

pub end_fits : {A : Type 0} (P : A → Type 0) (n : ℕ) (xs : List A) (p : List A × List A) → split_end n xs ≡ Some p
    → All P xs → All P p.0 × All P p.1
end_fits {A} P n xs p e h = go (nat_le n (length xs)) e
  where
    go : (b : Bool) → ◌≡◌ {A = Option (List A × List A)}
        (if b then Some (take (length xs - n) xs, drop (length xs - n) xs) else None) (Some p) → All P p.0 × All P p.1
    go true g = subst (λ (q : List A × List A). All P q.0 × All P q.1)
        (same_Some (take (length xs - n) xs, drop (length xs - n) xs) p g)
        (All-take P (length xs - n) xs h, All-drop P (length xs - n) xs h)
    go false g = absurd (none-some p g)

number_32 : (below : List Value) (v : Value) (p : List Value × ℕ)
    → elim v as (λ _. Option (List Value × ℕ)) [ I32 n ↦ Some (below, n) | I64 n ↦ None ] ≡ Some p → All ValueFits below
    → ValueFits v → All ValueFits p.0 × (p.1 < 2 ^ 32)
number_32 below (I32 n) p e h g = subst (λ (q : List Value × ℕ). All ValueFits q.0 × (q.1 < 2 ^ 32))
    (same_Some (below, n) p e) (h, g)
number_32 below (I64 n) p e h g = absurd (none-some p e)

number_64 : (below : List Value) (v : Value) (p : List Value × ℕ)
    → elim v as (λ _. Option (List Value × ℕ)) [ I32 n ↦ None | I64 n ↦ Some (below, n) ] ≡ Some p → All ValueFits below
    → ValueFits v → All ValueFits p.0 × (p.1 < 2 ^ 64)
number_64 below (I64 n) p e h g = subst (λ (q : List Value × ℕ). All ValueFits q.0 × (q.1 < 2 ^ 64))
    (same_Some (below, n) p e) (h, g)
number_64 below (I32 n) p e h g = absurd (none-some p e)

pub top_i32_fits : (stack : List Value) (p : List Value × ℕ) → top_i32 stack ≡ Some p → All ValueFits stack
    → All ValueFits p.0 × (p.1 < 2 ^ 32)
top_i32_fits stack p e h =
    let q = then_some (λ (q : List Value × Value). elim q.1 as (λ _. Option (List Value × ℕ))
    [ I32 n ↦ Some (q.0, n) | I64 n ↦ None ]) (split_last stack) p e in
    let f = last_fits ValueFits stack q.0 q.1 h in
    number_32 q.0.0 q.0.1 p q.2 f.0 f.1

pub top_i64_fits : (stack : List Value) (p : List Value × ℕ) → top_i64 stack ≡ Some p → All ValueFits stack
    → All ValueFits p.0 × (p.1 < 2 ^ 64)
top_i64_fits stack p e h =
    let q = then_some (λ (q : List Value × Value). elim q.1 as (λ _. Option (List Value × ℕ))
    [ I32 n ↦ None | I64 n ↦ Some (q.0, n) ]) (split_last stack) p e in
    let f = last_fits ValueFits stack q.0 q.1 h in
    number_64 q.0.0 q.0.1 p q.2 f.0 f.1

-- ---- numbers

below_32 : (n : ℕ) → n % 2 ^ 32 < 2 ^ 32
below_32 n = omega arith

more_room : (n : ℕ) → n < 2 ^ 32 → n < 2 ^ 64
more_room n h = omega arith

-- the operands below and the result
abbrev pub AreFit : List Value × Value → Type 0
AreFit p = All ValueFits p.0 × ValueFits p.1

one_i32_fits : (stack : List Value) (f : ℕ → Value) (p : List Value × Value) → ((n : ℕ) → n < 2 ^ 32 → ValueFits (f n))
    → one_i32 stack f ≡ Some p → All ValueFits stack → AreFit p
one_i32_fits stack f p g e h =
    let q = map_some (λ (q : List Value × ℕ). (q.0, f q.1)) (top_i32 stack) p e in
    let t = top_i32_fits stack q.0 q.1 h in
    subst AreFit q.2 (t.0, g q.0.1 t.1)

one_i64_fits : (stack : List Value) (f : ℕ → Value) (p : List Value × Value) → ((n : ℕ) → n < 2 ^ 64 → ValueFits (f n))
    → one_i64 stack f ≡ Some p → All ValueFits stack → AreFit p
one_i64_fits stack f p g e h =
    let q = map_some (λ (q : List Value × ℕ). (q.0, f q.1)) (top_i64 stack) p e in
    let t = top_i64_fits stack q.0 q.1 h in
    subst AreFit q.2 (t.0, g q.0.1 t.1)

two_i32_fits : (stack : List Value) (f : ℕ → ℕ → Value) (p : List Value × Value) → ((n m : ℕ) → ValueFits (f n m))
    → two_i32 stack f ≡ Some p → All ValueFits stack → AreFit p
two_i32_fits stack f p g e h =
    let m = then_some (λ (m : List Value × ℕ). option_map (λ (n : List Value × ℕ). (n.0, f n.1 m.1)) (top_i32 m.0))
    (top_i32 stack) p e in
    let n = map_some (λ (n : List Value × ℕ). (n.0, f n.1 m.0.1)) (top_i32 m.0.0) p m.2 in
    let below = top_i32_fits m.0.0 n.0 n.1 (top_i32_fits stack m.0 m.1 h).0 in
    subst AreFit n.2 (below.0, g n.0.1 m.0.1)

two_i64_fits : (stack : List Value) (f : ℕ → ℕ → Option Value) (p : List Value × Value)
    → ((n m : ℕ) (v : Value) → n < 2 ^ 64 → m < 2 ^ 64 → f n m ≡ Some v → ValueFits v) → two_i64 stack f ≡ Some p
    → All ValueFits stack → AreFit p
two_i64_fits stack f p g e h =
    let m = then_some (λ (m : List Value × ℕ). option_and_then
    (λ (n : List Value × ℕ). option_map (λ (v : Value). (n.0, v)) (f n.1 m.1)) (top_i64 m.0)) (top_i64 stack) p e in
    let n = then_some (λ (n : List Value × ℕ). option_map (λ (v : Value). (n.0, v)) (f n.1 m.0.1)) (top_i64 m.0.0) p m.2
    in
    let v = map_some (λ (v : Value). (n.0.0, v)) (f n.0.1 m.0.1) p n.2 in
    let second = top_i64_fits stack m.0 m.1 h in
    let first = top_i64_fits m.0.0 n.0 n.1 second.0 in
    subst AreFit v.2 (first.0, g n.0.1 m.0.1 v.0 first.1 second.1 v.1)

made_fits : (o : Option ℕ) (v : Value) → MayFit o → option_map I64 o ≡ Some v → ValueFits v
made_fits None v h e = absurd (none-some v e)
made_fits (Some n) v h e = subst ValueFits (same_Some (I64 n) v e) h

pub calculated_fits : (f : Numeric) (stack : List Value) (p : List Value × Value) → calculation f stack ≡ Some p
    → All ValueFits stack → AreFit p
calculated_fits numeric.I32Eqz stack p e h =
    one_i32_fits stack (λ n. I32 (truth (n == 0))) p (λ n l. truth_fits (n == 0)) e h
calculated_fits (numeric.I32Relation r) stack p e h =
    two_i32_fits stack (λ n m. I32 (truth (compares w32 r n m))) p (λ n m. truth_fits (compares w32 r n m)) e h
calculated_fits numeric.I64Eqz stack p e h =
    one_i64_fits stack (λ n. I32 (truth (n == 0))) p (λ n l. truth_fits (n == 0)) e h
calculated_fits (numeric.I64Relation r) stack p e h =
    two_i64_fits stack (λ n m. Some (I32 (truth (compares w64 r n m)))) p
    (λ n m v a b q. subst ValueFits (same_Some (I32 (truth (compares w64 r n m))) v q)
    (truth_fits (compares w64 r n m))) e h
calculated_fits numeric.I32Add stack p e h =
    two_i32_fits stack (λ n m. I32 ((n + m) % 2 ^ 32)) p (λ n m. below_32 (n + m)) e h
calculated_fits (numeric.I64Operation o) stack p e h =
    two_i64_fits stack (λ n m. option_map I64 (operation_result o n m)) p
    (λ n m v a b q. made_fits (operation_result o n m) v (operated_fits o n m a b) q) e h
calculated_fits numeric.I32WrapI64 stack p e h = one_i64_fits stack (λ n. I32 (n % 2 ^ 32)) p (λ n l. below_32 n) e h
calculated_fits numeric.I64ExtendI32S stack p e h =
    one_i32_fits stack (λ n. I64 (extend_number n)) p (λ n l. extended_fits n l) e h
calculated_fits numeric.I64ExtendI32U stack p e h = one_i32_fits stack (λ n. I64 n) p (λ n l. more_room n l) e h
