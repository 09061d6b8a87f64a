-- Reading the parts of a module one after the other, as a loop does.
use Rattle.std.proofs.Common.{◌≡◌, length, get_or, drop, add-one, ℕ, ◌-◌, ◌+◌, ◌^◌, ◌≤◌, ◌<◌, List, [], Ok, Err, refl, arith}
use Rattle.std.proofs.lemmas.List.{drop_all}
use Rattle.std.proofs.Math.Seq.{drop-cons}
use Rattle.wasm_tree.specs.declared.fault.WFault.{WFault}
use Rattle.wasm_tree.specs.declared.fault.WFault.TheVariants.{Malformed}
use Rattle.wasm_tree.specs.Format.{Fails}
use Rattle.wasm_code.proofs.Loop.{then_more, fails_first, one_less}
use Rattle.std.proofs.lemmas.Bool.{lt-ltb, le-ltb}
use Rattle.wasm_tree.specs.declared.kinds.ValueType.{ValueType}
use Rattle.wasm_code.specs.Number.{unsigned}
use Rattle.wasm_tree.specs.Format.{skip}
use Rattle.wasm_tree.specs.declared.module.Body.{Body}
use Rattle.wasm_code.specs.Instructions.{value_type}
use Rattle.wasm_binary.specs.Binary.{skip_all, body, bodies, locals_at}

module _ (count k before : ℕ) (bytes : List ℕ) where
  pub locals_more : (n : ℕ) (mid : List ℕ) (t : ValueType) (after : List ℕ) → k < count
      → unsigned.reading bytes ≡ Ok (n, mid) → before + n < 2 ^ 32 → value_type.reading mid ≡ Ok (t, after)
      → locals_at (count - k) before bytes ≡ then_more (record { count = n; value_type = t })
      (locals_at (count - (k + 1)) (before + n) after)
  unfolding locals_at
  locals_more n mid t after h e room f = rw (one_less k count h, e, lt-ltb (before + n) (2 ^ 32) room, f) refl

  pub locals_fail_first : (e : WFault) → k < count → Fails e (unsigned.reading bytes)
      → Fails e (locals_at (count - k) before bytes)
  unfolding locals_at
  locals_fail_first e h f = rw (one_less k count h) (fails_first e (unsigned.reading bytes) _ f)

  pub locals_too_many : (n : ℕ) (mid : List ℕ) → k < count → unsigned.reading bytes ≡ Ok (n, mid) → 2 ^ 32 ≤ before + n
      → locals_at (count - k) before bytes ≡ Err Malformed
  unfolding locals_at
  locals_too_many n mid h e full = rw (one_less k count h, e, le-ltb (before + n) (2 ^ 32) full) refl

  pub locals_fail_type : (e : WFault) (n : ℕ) (mid : List ℕ) → k < count → unsigned.reading bytes ≡ Ok (n, mid)
      → before + n < 2 ^ 32 → Fails e (value_type.reading mid) → Fails e (locals_at (count - k) before bytes)
  unfolding locals_at
  locals_fail_type e n mid h r room f = rw (one_less k count h, r, lt-ltb (before + n) (2 ^ 32) room)
      (fails_first e (value_type.reading mid) _ f)

  pub locals_none : count ≤ k → locals_at (count - k) before bytes ≡ Ok ([], bytes)
  unfolding locals_at
  locals_none h = let none : count - k ≡ 0 = omega arith in rw none refl

module _ (expected : List ℕ) (k : ℕ) (bytes : List ℕ) where
  pub skip_more : (after : List ℕ) → k < length expected → skip (get_or expected k 0) bytes ≡ Ok (tt, after)
      → skip_all (drop k expected) bytes ≡ skip_all (drop (k + 1) expected) after
  unfolding skip_all
  skip_more after h e = rw (add-one, drop-cons expected k 0 h, e) refl

  pub skip_fail : (e : WFault) → k < length expected → Fails e (skip (get_or expected k 0) bytes)
      → Fails e (skip_all (drop k expected) bytes)
  unfolding skip_all
  skip_fail e h f = rw (drop-cons expected k 0 h) (fails_first e (skip (get_or expected k 0) bytes) _ f)

  pub skip_none : length expected ≤ k → skip_all (drop k expected) bytes ≡ Ok bytes
  unfolding skip_all
  skip_none h = rw (drop_all k expected h) refl

module _ (types : List ℕ) (k : ℕ) (bytes : List ℕ) where
  pub bodies_more : (b : Body) (after : List ℕ) → k < length types → body.reading bytes ≡ Ok (b, after)
      → bodies (drop k types) bytes ≡ then_more (record { type_index = get_or types k 0; body = b })
      (bodies (drop (k + 1) types) after)
  unfolding bodies
  bodies_more b after h e = rw (add-one, drop-cons types k 0 h, e) refl

  pub bodies_fail : (e : WFault) → k < length types → Fails e (body.reading bytes)
      → Fails e (bodies (drop k types) bytes)
  unfolding bodies
  bodies_fail e h f = rw (drop-cons types k 0 h) (fails_first e (body.reading bytes) _ f)

  pub bodies_none : length types ≤ k → bodies (drop k types) bytes ≡ Ok ([], bytes)
  unfolding bodies
  bodies_none h = rw (drop_all k types h) refl
