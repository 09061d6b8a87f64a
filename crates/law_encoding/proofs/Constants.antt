-- Code whose constants fit, by its instructions.
use Rattle.std.proofs.Common.{map, ◌≡◌, ℕ, ◌^◌, ◌<◌, Bool, true, false, List, [], ◌∷◌, ◌++◌, Option, Some, None, refl, ◌∙◌, arith}
use Rattle.std.specs.Prelude.{if◌then◌else◌}
use Rattle.std.specs.List.{list_all}
use Rattle.std.specs.Int.{cast_unsigned, w64}
use Rattle.std.specs.Prelude.{ℤ, pos, negsuc, ◌≤ℤ◌}
use Rattle.std.proofs.lemmas.Bool.{and_parts, lt-ltb}
use Rattle.std.proofs.lemmas.Int.{ints}
use Rattle.wasm_tree.specs.declared.instr.Instr.{Instr}
use Rattle.wasm_tree.specs.declared.instr.Instr.TheOpen as layer
use Rattle.wasm_tree.specs.declared.instr.Instr.TheVariants as instr
use Rattle.wasm_tree.specs.declared.instr.Load.{Load}
use Rattle.wasm_tree.specs.declared.instr.Numeric.{Numeric}
use Rattle.wasm_tree.specs.declared.instr.StoreWidth.{StoreWidth}
use Rattle.wasm_tree.specs.declared.kinds.ValueType.{ValueType}
use Rattle.def_scheme.specs.Coded.{number}
use Rattle.law_encoding.specs.CodeNumbers.{all_fit}
use Rattle.law_encoding.specs.Fits.{max_bytes}
use Rattle.law_encoding.specs.ValidNumbers.{constants_fit, code_constants_fit}
use Rattle.law_encoding.proofs.CodeFits.{both_true}
use Rattle.law_encoding.proofs.ValidNumbers.{at_constants, mapped_all}

-- ---- instructions

pub stops : constants_fit instr.Unreachable ≡ true
stops = at_constants instr.Unreachable layer.Unreachable instr.outs-Unreachable

pub jumps : (l : ℕ) → constants_fit (instr.Br l) ≡ true
jumps l = at_constants (instr.Br l) (layer.Br l) (instr.outs-Br l)

pub jumps_if : (l : ℕ) → constants_fit (instr.BrIf l) ≡ true
jumps_if l = at_constants (instr.BrIf l) (layer.BrIf l) (instr.outs-BrIf l)

pub jumps_by : (ls : List ℕ) (l : ℕ) → constants_fit (instr.BrTable ls l) ≡ true
jumps_by ls l = at_constants (instr.BrTable ls l) (layer.BrTable ls l) (instr.outs-BrTable ls l)

pub goes_back : constants_fit instr.Return ≡ true
goes_back = at_constants instr.Return layer.Return instr.outs-Return

pub calls : (f : ℕ) → constants_fit (instr.Call f) ≡ true
calls f = at_constants (instr.Call f) (layer.Call f) (instr.outs-Call f)

pub calls_by : (t : ℕ) → constants_fit (instr.CallIndirect t) ≡ true
calls_by t = at_constants (instr.CallIndirect t) (layer.CallIndirect t) (instr.outs-CallIndirect t)

pub gets : (x : ℕ) → constants_fit (instr.LocalGet x) ≡ true
gets x = at_constants (instr.LocalGet x) (layer.LocalGet x) (instr.outs-LocalGet x)

pub sets : (x : ℕ) → constants_fit (instr.LocalSet x) ≡ true
sets x = at_constants (instr.LocalSet x) (layer.LocalSet x) (instr.outs-LocalSet x)

pub tees : (x : ℕ) → constants_fit (instr.LocalTee x) ≡ true
tees x = at_constants (instr.LocalTee x) (layer.LocalTee x) (instr.outs-LocalTee x)

pub globals : (x : ℕ) → constants_fit (instr.GlobalGet x) ≡ true
globals x = at_constants (instr.GlobalGet x) (layer.GlobalGet x) (instr.outs-GlobalGet x)

pub loads : (l : Load) → constants_fit (instr.Load l) ≡ true
loads l = at_constants (instr.Load l) (layer.Load l) (instr.outs-Load l)

pub stores : (w : StoreWidth) → constants_fit (instr.Store w) ≡ true
stores w = at_constants (instr.Store w) (layer.Store w) (instr.outs-Store w)

pub computes : (o : Numeric) → constants_fit (instr.Numeric o) ≡ true
computes o = at_constants (instr.Numeric o) (layer.Numeric o) (instr.outs-Numeric o)

pub address : (n : ℕ) → n < max_bytes → constants_fit (instr.I32Const n) ≡ true
address n h = at_constants (instr.I32Const n) (layer.I32Const n) (instr.outs-I32Const n) ∙ lt-ltb n (2 ^ 32) h

pub amount : (n : ℕ) → n < 2 ^ 64 → constants_fit (instr.I64Const n) ≡ true
amount n h = at_constants (instr.I64Const n) (layer.I64Const n) (instr.outs-I64Const n) ∙ lt-ltb n (2 ^ 64) h

-- at most the greatest number of 64 bits
abbrev pub IsLow : ℤ → Type 0
IsLow z = z ≤ℤ pos 18446744073709551615

low_bits : (z : ℤ) → IsLow z → cast_unsigned w64 z < 2 ^ 64
low_bits (pos n) h = omega (arith, ints, h)
low_bits (negsuc n) h = omega arith

-- the bits of a signed number
pub signed : (z : ℤ) → IsLow z → constants_fit (number z) ≡ true
signed z h = amount (cast_unsigned w64 z) (low_bits z h)

-- ---- code

pub record Const (code : List Instr) : Type 0 where
  pub fit : code_constants_fit code ≡ true

nothing_fits : code_constants_fit [] ≡ true
unfolding code_constants_fit
nothing_fits = refl

pub const_end : Const []
const_end = record { fit = nothing_fits }

next_fits : (i : Instr) (code : List Instr) → constants_fit i ≡ true → code_constants_fit code ≡ true
    → code_constants_fit (i ∷ code) ≡ true
unfolding code_constants_fit
next_fits i code h e = both_true _ _ h e

infixr 60 ◌▹◌
pub ◌▹◌ : {i : Instr} {code : List Instr} → constants_fit i ≡ true → Const code → Const (i ∷ code)
◌▹◌ {i} {code} h p = record { fit = next_fits i code h p.fit }

both_fit : (xs ys : List Instr) → code_constants_fit xs ≡ true → code_constants_fit ys ≡ true
    → code_constants_fit (xs ++ ys) ≡ true
unfolding code_constants_fit
both_fit [] ys e h = h
both_fit (x ∷ xs) ys e h = let both = and_parts (constants_fit x) (list_all constants_fit xs) e in
    both_true _ _ both.0 (both_fit xs ys both.1 h)

pub const_both : {xs ys : List Instr} → Const xs → Const ys → Const (xs ++ ys)
const_both {xs} {ys} p q = record { fit = both_fit xs ys p.fit q.fit }

pub const_either : (b : Bool) {xs ys : List Instr} → Const xs → Const ys → Const (if b then xs else ys)
const_either true p q = p
const_either false p q = q

-- ---- blocks

constants_mapped : (code : List Instr) → code_constants_fit code ≡ true → all_fit (map constants_fit code) ≡ true
unfolding code_constants_fit
constants_mapped code e = mapped_all constants_fit code ∙ e

pub blocks : (t : Option ValueType) {code : List Instr} → Const code → constants_fit (instr.Block t code) ≡ true
blocks t {code} p = at_constants (instr.Block t code) (layer.Block t code) (instr.outs-Block t code)
    ∙ constants_mapped code p.fit

pub loops : (t : Option ValueType) {code : List Instr} → Const code → constants_fit (instr.Loop t code) ≡ true
loops t {code} p = at_constants (instr.Loop t code) (layer.Loop t code) (instr.outs-Loop t code)
    ∙ constants_mapped code p.fit

pub tests : (t : Option ValueType) {code : List Instr} → Const code → constants_fit (instr.If t code None) ≡ true
tests t {code} p = at_constants (instr.If t code None) (layer.If t code None) (instr.outs-If t code None)
    ∙ both_true _ _ (constants_mapped code p.fit) refl

pub chooses : (t : Option ValueType) {code others : List Instr} → Const code → Const others
    → constants_fit (instr.If t code (Some others)) ≡ true
chooses t {code} {others} p q =
    at_constants (instr.If t code (Some others)) (layer.If t code (Some others)) (instr.outs-If t code (Some others))
    ∙ both_true _ _ (constants_mapped code p.fit) (constants_mapped others q.fit)
