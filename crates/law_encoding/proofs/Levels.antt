-- Code without blocks nests no level.
use Rattle.std.proofs.Common.{map, ◌≡◌, ℕ, ◌+◌, ◌≤◌, Bool, true, false, List, [], ◌∷◌, ◌++◌, Option, Some, None, refl, ap, ◌∙◌, arith}
use Rattle.std.specs.Prelude.{if◌then◌else◌}
use Rattle.wasm_tree.specs.declared.instr.Instr.{Instr, Instr-F, out-Instr, map-Instr, fold_out-Instr}
use Rattle.wasm_tree.specs.declared.instr.Instr.TheOpen as layer
use Rattle.wasm_tree.specs.declared.instr.Instr.TheVariants as instr
use Rattle.wasm_tree.specs.declared.instr.Load.{Load}
use Rattle.wasm_tree.specs.declared.instr.Numeric.{Numeric}
use Rattle.wasm_tree.specs.declared.instr.StoreWidth.{StoreWidth}
use Rattle.wasm_tree.specs.declared.kinds.ValueType.{ValueType}
use Rattle.law_encoding.specs.Nesting.{◌⊔◌, deepest}
use Rattle.law_encoding.specs.CodeNesting.{instr_layer, levels_in, levels}
use Rattle.law_encoding.proofs.Deepest.{deepest_map, deepest_append}

-- ---- instructions

at : (i : Instr) (x : Instr-F Instr) → out-Instr i ≡ x → levels_in i ≡ instr_layer (map-Instr Instr ℕ levels_in x)
unfolding levels_in
at i x q = fold_out-Instr ℕ instr_layer i ∙ ap (λ (y : Instr-F Instr). instr_layer (map-Instr Instr ℕ levels_in y)) q

pub stops : levels_in instr.Unreachable ≡ 0
stops = at instr.Unreachable layer.Unreachable instr.outs-Unreachable

pub jumps : (l : ℕ) → levels_in (instr.Br l) ≡ 0
jumps l = at (instr.Br l) (layer.Br l) (instr.outs-Br l)

pub jumps_if : (l : ℕ) → levels_in (instr.BrIf l) ≡ 0
jumps_if l = at (instr.BrIf l) (layer.BrIf l) (instr.outs-BrIf l)

pub jumps_by : (ls : List ℕ) (l : ℕ) → levels_in (instr.BrTable ls l) ≡ 0
jumps_by ls l = at (instr.BrTable ls l) (layer.BrTable ls l) (instr.outs-BrTable ls l)

pub goes_back : levels_in instr.Return ≡ 0
goes_back = at instr.Return layer.Return instr.outs-Return

pub calls : (f : ℕ) → levels_in (instr.Call f) ≡ 0
calls f = at (instr.Call f) (layer.Call f) (instr.outs-Call f)

pub calls_by : (t : ℕ) → levels_in (instr.CallIndirect t) ≡ 0
calls_by t = at (instr.CallIndirect t) (layer.CallIndirect t) (instr.outs-CallIndirect t)

pub gets : (x : ℕ) → levels_in (instr.LocalGet x) ≡ 0
gets x = at (instr.LocalGet x) (layer.LocalGet x) (instr.outs-LocalGet x)

pub sets : (x : ℕ) → levels_in (instr.LocalSet x) ≡ 0
sets x = at (instr.LocalSet x) (layer.LocalSet x) (instr.outs-LocalSet x)

pub tees : (x : ℕ) → levels_in (instr.LocalTee x) ≡ 0
tees x = at (instr.LocalTee x) (layer.LocalTee x) (instr.outs-LocalTee x)

pub globals : (x : ℕ) → levels_in (instr.GlobalGet x) ≡ 0
globals x = at (instr.GlobalGet x) (layer.GlobalGet x) (instr.outs-GlobalGet x)

pub loads : (l : Load) → levels_in (instr.Load l) ≡ 0
loads l = at (instr.Load l) (layer.Load l) (instr.outs-Load l)

pub stores : (w : StoreWidth) → levels_in (instr.Store w) ≡ 0
stores w = at (instr.Store w) (layer.Store w) (instr.outs-Store w)

pub address : (n : ℕ) → levels_in (instr.I32Const n) ≡ 0
address n = at (instr.I32Const n) (layer.I32Const n) (instr.outs-I32Const n)

pub amount : (n : ℕ) → levels_in (instr.I64Const n) ≡ 0
amount n = at (instr.I64Const n) (layer.I64Const n) (instr.outs-I64Const n)

pub computes : (o : Numeric) → levels_in (instr.Numeric o) ≡ 0
computes o = at (instr.Numeric o) (layer.Numeric o) (instr.outs-Numeric o)

-- ---- lists

pub levels_cons : (i : Instr) (code : List Instr) → levels (i ∷ code) ≡ levels_in i ⊔ levels code
unfolding levels
levels_cons i code = refl

pub levels_append : (xs ys : List Instr) → levels (xs ++ ys) ≡ levels xs ⊔ levels ys
unfolding levels
levels_append xs ys = deepest_append levels_in xs ys

pub levels_none : levels [] ≡ 0
unfolding levels
levels_none = refl

levels_map : (code : List Instr) → deepest (map levels_in code) ≡ levels code
unfolding levels
levels_map code = deepest_map levels_in code

-- ---- blocks

pub block_levels : (t : Option ValueType) (code : List Instr) → levels_in (instr.Block t code) ≡ 1 + levels code
block_levels t code = at (instr.Block t code) (layer.Block t code) (instr.outs-Block t code)
    ∙ ap (λ n. 1 + n) (levels_map code)

pub loop_levels : (t : Option ValueType) (code : List Instr) → levels_in (instr.Loop t code) ≡ 1 + levels code
loop_levels t code = at (instr.Loop t code) (layer.Loop t code) (instr.outs-Loop t code)
    ∙ ap (λ n. 1 + n) (levels_map code)

pub if_levels : (t : Option ValueType) (code : List Instr) → levels_in (instr.If t code None) ≡ 1 + (levels code ⊔ 0)
if_levels t code = at (instr.If t code None) (layer.If t code None) (instr.outs-If t code None)
    ∙ ap (λ n. 1 + (n ⊔ 0)) (levels_map code)

pub else_levels : (t : Option ValueType) (code others : List Instr)
    → levels_in (instr.If t code (Some others)) ≡ 1 + (levels code ⊔ levels others)
else_levels t code others =
    at (instr.If t code (Some others)) (layer.If t code (Some others)) (instr.outs-If t code (Some others))
    ∙ ap (λ n. 1 + (n ⊔ deepest (map levels_in others))) (levels_map code)
    ∙ ap (λ n. 1 + (levels code ⊔ n)) (levels_map others)

-- ---- code without blocks

pub record Flat (code : List Instr) : Type 0 where
  pub none : levels code ≡ 0

pub flat_end : Flat []
flat_end = record { none = levels_none }

no_level : (a b n : ℕ) → n ≡ a ⊔ b → a ≡ 0 → b ≡ 0 → n ≡ 0
no_level a b n e h k = omega (arith, e, h, k)

infixr 60 ◌▹◌
pub ◌▹◌ : {i : Instr} {code : List Instr} → levels_in i ≡ 0 → Flat code → Flat (i ∷ code)
◌▹◌ {i} {code} h p = record { none = no_level (levels_in i) (levels code) _ (levels_cons i code) h p.none }

pub flat_both : {xs ys : List Instr} → Flat xs → Flat ys → Flat (xs ++ ys)
flat_both {xs} {ys} p q = record { none = no_level (levels xs) (levels ys) _ (levels_append xs ys) p.none q.none }

pub flat_either : (b : Bool) {xs ys : List Instr} → Flat xs → Flat ys → Flat (if b then xs else ys)
flat_either true p q = p
flat_either false p q = q

-- ---- code with few levels

pub none_most : (a n : ℕ) → a ≡ 0 → a ≤ n
none_most a n e = omega (arith, e)

pub record Low (n : ℕ) (code : List Instr) : Type 0 where
  pub low : levels code ≤ n

join_low : (m a b n : ℕ) → m ≡ a ⊔ b → a ≤ n → b ≤ n → m ≤ n
join_low m a b n e h l = omega (arith, e, h, l)

pub low_flat : (n : ℕ) {code : List Instr} → Flat code → Low n code
low_flat n {code} p = record { low = none_most (levels code) n p.none }

pub low_both : {n : ℕ} {xs ys : List Instr} → Low n xs → Low n ys → Low n (xs ++ ys)
low_both {n} {xs} {ys} p q = record { low = join_low _ (levels xs) (levels ys) n (levels_append xs ys) p.low q.low }

pub low_next : {n : ℕ} {i : Instr} {code : List Instr} → levels_in i ≤ n → Low n code → Low n (i ∷ code)
low_next {n} {i} {code} h p = record { low = join_low _ (levels_in i) (levels code) n (levels_cons i code) h p.low }

pub low_one : {n : ℕ} {i : Instr} {code : List Instr} → levels_in i ≡ 0 → Low n code → Low n (i ∷ code)
low_one {n} {i} e p = low_next (none_most (levels_in i) n e) p
