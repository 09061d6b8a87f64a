-- How many bytes code takes, by its instructions.
use Rattle.std.proofs.Common.{map, ◌≡◌, ℕ, ◌+◌, ◌*◌, ◌≤◌, Bool, true, false, List, [], ◌∷◌, ◌++◌, length, Option, Some, None, refl, ap, ◌∙◌, arith}
use Rattle.std.specs.Prelude.{if◌then◌else◌}
use Rattle.wasm_tree.specs.declared.instr.Instr.{Instr, Instr-F, out-Instr, map-Instr, fold_out-Instr}
use Rattle.wasm_tree.specs.declared.instr.Instr.TheOpen as layer
use Rattle.wasm_tree.specs.declared.instr.Instr.TheVariants as instr
use Rattle.wasm_tree.specs.declared.instr.Load.{Load}
use Rattle.wasm_tree.specs.declared.instr.Numeric.{Numeric}
use Rattle.wasm_tree.specs.declared.instr.StoreWidth.{StoreWidth}
use Rattle.wasm_tree.specs.declared.kinds.ValueType.{ValueType}
use Rattle.law_encoding.specs.Sizes.{total}
use Rattle.law_encoding.specs.CodeBytes.{instr_layer, bytes_in, bytes}
use Rattle.law_encoding.proofs.Sums.{total_map, sum_append}

-- ---- instructions

pub at : (i : Instr) (x : Instr-F Instr) → out-Instr i ≡ x → bytes_in i ≡ instr_layer (map-Instr Instr ℕ bytes_in x)
unfolding bytes_in
at i x q = fold_out-Instr ℕ instr_layer i ∙ ap (λ (y : Instr-F Instr). instr_layer (map-Instr Instr ℕ bytes_in y)) q

pub stops : bytes_in instr.Unreachable ≡ 1
stops = at instr.Unreachable layer.Unreachable instr.outs-Unreachable

pub jumps : (l : ℕ) → bytes_in (instr.Br l) ≡ 6
jumps l = at (instr.Br l) (layer.Br l) (instr.outs-Br l)

pub jumps_if : (l : ℕ) → bytes_in (instr.BrIf l) ≡ 6
jumps_if l = at (instr.BrIf l) (layer.BrIf l) (instr.outs-BrIf l)

pub jumps_by : (ls : List ℕ) (l : ℕ) → bytes_in (instr.BrTable ls l) ≡ 11 + 5 * length ls
jumps_by ls l = at (instr.BrTable ls l) (layer.BrTable ls l) (instr.outs-BrTable ls l)

pub goes_back : bytes_in instr.Return ≡ 1
goes_back = at instr.Return layer.Return instr.outs-Return

pub calls : (f : ℕ) → bytes_in (instr.Call f) ≡ 6
calls f = at (instr.Call f) (layer.Call f) (instr.outs-Call f)

pub calls_by : (t : ℕ) → bytes_in (instr.CallIndirect t) ≡ 7
calls_by t = at (instr.CallIndirect t) (layer.CallIndirect t) (instr.outs-CallIndirect t)

pub drops : bytes_in instr.Drop ≡ 1
drops = at instr.Drop layer.Drop instr.outs-Drop

pub gets : (x : ℕ) → bytes_in (instr.LocalGet x) ≡ 6
gets x = at (instr.LocalGet x) (layer.LocalGet x) (instr.outs-LocalGet x)

pub sets : (x : ℕ) → bytes_in (instr.LocalSet x) ≡ 6
sets x = at (instr.LocalSet x) (layer.LocalSet x) (instr.outs-LocalSet x)

pub tees : (x : ℕ) → bytes_in (instr.LocalTee x) ≡ 6
tees x = at (instr.LocalTee x) (layer.LocalTee x) (instr.outs-LocalTee x)

pub globals : (x : ℕ) → bytes_in (instr.GlobalGet x) ≡ 6
globals x = at (instr.GlobalGet x) (layer.GlobalGet x) (instr.outs-GlobalGet x)

pub loads : (l : Load) → bytes_in (instr.Load l) ≡ 3
loads l = at (instr.Load l) (layer.Load l) (instr.outs-Load l)

pub stores : (w : StoreWidth) → bytes_in (instr.Store w) ≡ 3
stores w = at (instr.Store w) (layer.Store w) (instr.outs-Store w)

pub address : (n : ℕ) → bytes_in (instr.I32Const n) ≡ 6
address n = at (instr.I32Const n) (layer.I32Const n) (instr.outs-I32Const n)

pub amount : (n : ℕ) → bytes_in (instr.I64Const n) ≡ 11
amount n = at (instr.I64Const n) (layer.I64Const n) (instr.outs-I64Const n)

pub computes : (o : Numeric) → bytes_in (instr.Numeric o) ≡ 1
computes o = at (instr.Numeric o) (layer.Numeric o) (instr.outs-Numeric o)

-- ---- lists

pub bytes_cons : (i : Instr) (code : List Instr) → bytes (i ∷ code) ≡ bytes_in i + bytes code
unfolding bytes
bytes_cons i code = refl

pub bytes_append : (xs ys : List Instr) → bytes (xs ++ ys) ≡ bytes xs + bytes ys
unfolding bytes
bytes_append xs ys = sum_append bytes_in xs ys

pub bytes_none : bytes [] ≡ 0
unfolding bytes
bytes_none = refl

bytes_map : (code : List Instr) → total (map bytes_in code) ≡ bytes code
unfolding bytes
bytes_map code = total_map bytes_in code

-- ---- blocks

pub block_bytes : (t : Option ValueType) (code : List Instr) → bytes_in (instr.Block t code) ≡ 3 + bytes code
block_bytes t code = at (instr.Block t code) (layer.Block t code) (instr.outs-Block t code)
    ∙ ap (λ n. 3 + n) (bytes_map code)

pub loop_bytes : (t : Option ValueType) (code : List Instr) → bytes_in (instr.Loop t code) ≡ 3 + bytes code
loop_bytes t code = at (instr.Loop t code) (layer.Loop t code) (instr.outs-Loop t code)
    ∙ ap (λ n. 3 + n) (bytes_map code)

pub if_bytes : (t : Option ValueType) (code : List Instr) → bytes_in (instr.If t code None) ≡ 4 + (bytes code + 0)
if_bytes t code = at (instr.If t code None) (layer.If t code None) (instr.outs-If t code None)
    ∙ ap (λ n. 4 + (n + 0)) (bytes_map code)

pub else_bytes : (t : Option ValueType) (code others : List Instr)
    → bytes_in (instr.If t code (Some others)) ≡ 4 + (bytes code + bytes others)
else_bytes t code others =
    at (instr.If t code (Some others)) (layer.If t code (Some others)) (instr.outs-If t code (Some others))
    ∙ ap (λ n. 4 + (n + total (map bytes_in others))) (bytes_map code)
    ∙ ap (λ n. 4 + (bytes code + n)) (bytes_map others)

-- ---- code of at most so many bytes

pub record Short (n : ℕ) (code : List Instr) : Type 0 where
  pub at_most : bytes code ≤ n

none_takes : (a n : ℕ) → a ≡ 0 → a ≤ n
none_takes a n e = omega (arith, e)

pub short_end : Short 0 []
short_end = record { at_most = none_takes _ 0 bytes_none }

pub short_none : (n : ℕ) → Short n []
short_none n = record { at_most = none_takes _ n bytes_none }

joined : (m a b k n : ℕ) → m ≡ a + b → a ≤ k → b ≤ n → m ≤ k + n
joined m a b k n e h l = omega (arith, e, h, l)

same : (a n : ℕ) → a ≡ n → a ≤ n
same a n e = omega (arith, e)

infixr 60 ◌▹◌
pub ◌▹◌ : {i : Instr} {code : List Instr} {k n : ℕ} → bytes_in i ≡ k → Short n code → Short (k + n) (i ∷ code)
◌▹◌ {i} {code} {k} {n} h p = record {
  at_most =
      joined _ (bytes_in i) (bytes code) k n (bytes_cons i code) (same _ k h) p.at_most;
}

pub short_both : {xs ys : List Instr} {k n : ℕ} → Short k xs → Short n ys → Short (k + n) (xs ++ ys)
short_both {xs} {ys} {k} {n} p q = record {
  at_most =
      joined _ (bytes xs) (bytes ys) k n (bytes_append xs ys) p.at_most q.at_most;
}

most : (a n k : ℕ) → a ≤ n → n ≤ k → a ≤ k
most a n k h l = omega (arith, h, l)

pub short_more : {n k : ℕ} {code : List Instr} → n ≤ k → Short n code → Short k code
short_more {n} {k} {code} h p = record { at_most = most (bytes code) n k p.at_most h }

pub short_either : {n : ℕ} (b : Bool) {xs ys : List Instr} → Short n xs → Short n ys → Short n (if b then xs else ys)
short_either true p q = p
short_either false p q = q

pub short_unless : {n : ℕ} (b : Bool) {code : List Instr} → Short n code → Short n (if b then [] else code)
short_unless {n} b p = short_either b (short_none n) p

-- an if with two sides that have no block
in_sides : (m a b k n : ℕ) → m ≡ 4 + (a + b) → a ≤ k → b ≤ n → m ≤ 4 + (k + n)
in_sides m a b k n e h l = omega (arith, e, h, l)

pub short_if : {t : Option ValueType} {first second code : List Instr} {k l n : ℕ} → Short k first → Short l second
    → Short n code → Short (4 + (k + l) + n) (instr.If t first (Some second) ∷ code)
short_if {t} {first} {second} {code} {k} {l} {n} p q r = record {
  at_most = joined _ (bytes_in (instr.If t first (Some second))) (bytes code) (4 + (k + l)) n (bytes_cons _ code)
      (in_sides _ (bytes first) (bytes second) k l (else_bytes t first second) p.at_most q.at_most) r.at_most;
}
