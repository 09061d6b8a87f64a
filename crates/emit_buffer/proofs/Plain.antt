-- Operations with none inside.
use Rattle.std.proofs.Common.{◌≡◌, ℕ, suc, ◌+◌, ◌≤◌, ◌<◌, Bool, true, false, List, [], ◌∷◌, map, refl, sym, ap, ◌∙◌, arith}
use Rattle.std.specs.Prelude.{nat_le}
use Rattle.std.proofs.lemmas.Bool.{leb-true}
use Rattle.wasm_tree.specs.declared.code.Op.{Op}
use Rattle.wasm_tree.specs.declared.code.Op.TheVariants as op
use Rattle.wasm_tree.specs.declared.instr.Instr.{Instr, Instr-F, out-Instr, map-Instr, fold_out-Instr}
use Rattle.wasm_tree.specs.declared.instr.Instr.TheOpen as layer
use Rattle.wasm_tree.specs.declared.instr.Instr.TheVariants as instr
use Rattle.wasm_tree.specs.declared.instr.Instr.TheVariants.{outs-Unreachable, outs-Br, outs-BrIf, outs-Return, outs-Call, outs-CallIndirect, outs-Drop, outs-LocalGet, outs-LocalSet, outs-LocalTee, outs-GlobalGet, outs-Load, outs-Store, outs-I32Const, outs-I64Const, outs-Numeric}
use Rattle.wasm_tree.specs.Code.{flat_step, flat_one}
use Rattle.emit_buffer.specs.Cut.{cut, cut_long, cut_op}
use Rattle.emit_buffer.specs.Drafts.{Drafted, with_ops, one, fits, is_plain, instr_of}

at : (i : Instr) (x : Instr-F Instr) → out-Instr i ≡ x → flat_one i ≡ flat_step (map-Instr Instr (List Op) flat_one x)
unfolding flat_one
at i x e = fold_out-Instr (List Op) flat_step i
    ∙ ap (λ (y : Instr-F Instr). flat_step (map-Instr Instr (List Op) flat_one y)) e

abbrev pub single : Op → Bool
single (op.Block t n) = false
single (op.Loop t n) = false
single (op.If t n) = false
single (op.IfElse t n m) = false
single (op.BrTable n l) = false
single _ = true

pub single_flat : (o : Op) → single o ≡ true → flat_one (instr_of o) ≡ o ∷ []
single_flat op.Unreachable h = at instr.Unreachable layer.Unreachable outs-Unreachable
single_flat (op.Block t n) h = absurd cc
single_flat (op.Loop t n) h = absurd cc
single_flat (op.If t n) h = absurd cc
single_flat (op.IfElse t n m) h = absurd cc
single_flat (op.Br l) h = at (instr.Br l) (layer.Br l) (outs-Br l)
single_flat (op.BrIf l) h = at (instr.BrIf l) (layer.BrIf l) (outs-BrIf l)
single_flat (op.BrTable n l) h = absurd cc
single_flat op.Return h = at instr.Return layer.Return outs-Return
single_flat (op.Call f) h = at (instr.Call f) (layer.Call f) (outs-Call f)
single_flat (op.CallIndirect t) h = at (instr.CallIndirect t) (layer.CallIndirect t) (outs-CallIndirect t)
single_flat op.Drop h = at instr.Drop layer.Drop outs-Drop
single_flat (op.LocalGet x) h = at (instr.LocalGet x) (layer.LocalGet x) (outs-LocalGet x)
single_flat (op.LocalSet x) h = at (instr.LocalSet x) (layer.LocalSet x) (outs-LocalSet x)
single_flat (op.LocalTee x) h = at (instr.LocalTee x) (layer.LocalTee x) (outs-LocalTee x)
single_flat (op.GlobalGet x) h = at (instr.GlobalGet x) (layer.GlobalGet x) (outs-GlobalGet x)
single_flat (op.Load l) h = at (instr.Load l) (layer.Load l) (outs-Load l)
single_flat (op.Store w) h = at (instr.Store w) (layer.Store w) (outs-Store w)
single_flat (op.I32Const n) h = at (instr.I32Const n) (layer.I32Const n) (outs-I32Const n)
single_flat (op.I64Const n) h = at (instr.I64Const n) (layer.I64Const n) (outs-I64Const n)
single_flat (op.Numeric n) h = at (instr.Numeric n) (layer.Numeric n) (outs-Numeric n)

-- ---- a number that is cut when it is pushed

cut_is : (o : Op) (d : Drafted) → single o ≡ true → with_ops (cut_op o ∷ []) d ≡ one (instr_of o) d
unfolding one
cut_is o d h = ap (λ (ops : List Op). with_ops (map cut_op ops) d) (sym (single_flat o h))

pub get_is : (x : ℕ) (d : Drafted) → with_ops (op.LocalGet (cut x) ∷ []) d ≡ one (instr.LocalGet x) d
get_is x d = cut_is (op.LocalGet x) d refl

pub set_is : (x : ℕ) (d : Drafted) → with_ops (op.LocalSet (cut x) ∷ []) d ≡ one (instr.LocalSet x) d
set_is x d = cut_is (op.LocalSet x) d refl

pub tee_is : (x : ℕ) (d : Drafted) → with_ops (op.LocalTee (cut x) ∷ []) d ≡ one (instr.LocalTee x) d
tee_is x d = cut_is (op.LocalTee x) d refl

pub global_is : (x : ℕ) (d : Drafted) → with_ops (op.GlobalGet (cut x) ∷ []) d ≡ one (instr.GlobalGet x) d
global_is x d = cut_is (op.GlobalGet x) d refl

pub branch_is : (l : ℕ) (d : Drafted) → with_ops (op.Br (cut l) ∷ []) d ≡ one (instr.Br l) d
branch_is l d = cut_is (op.Br l) d refl

pub branch_if_is : (l : ℕ) (d : Drafted) → with_ops (op.BrIf (cut l) ∷ []) d ≡ one (instr.BrIf l) d
branch_if_is l d = cut_is (op.BrIf l) d refl

pub call_is : (f : ℕ) (d : Drafted) → with_ops (op.Call (cut f) ∷ []) d ≡ one (instr.Call f) d
call_is f d = cut_is (op.Call f) d refl

pub indirect_is : (t : ℕ) (d : Drafted) → with_ops (op.CallIndirect (cut t) ∷ []) d ≡ one (instr.CallIndirect t) d
indirect_is t d = cut_is (op.CallIndirect t) d refl

pub word_is : (n : ℕ) (d : Drafted) → with_ops (op.I32Const (cut n) ∷ []) d ≡ one (instr.I32Const n) d
word_is n d = cut_is (op.I32Const n) d refl

same_cut : (n : ℕ) → cut (cut n) ≡ cut n
same_cut n = omega arith

-- a number that was cut before
pub word_again : (n : ℕ) (d : Drafted) → one (instr.I32Const (cut n)) d ≡ one (instr.I32Const n) d
word_again n d = sym (word_is (cut n) d) ∙ ap (λ (k : ℕ). with_ops (op.I32Const k ∷ []) d) (same_cut n) ∙ word_is n d

-- ---- numbers that fit

whole : (n : ℕ) → fits n ≡ true → cut n ≡ n
whole n h = let l : n ≤ 4294967295 = leb-true n 4294967295 h in omega (arith, l)

whole_long : (n : ℕ) → nat_le n 18446744073709551615 ≡ true → cut_long n ≡ n
whole_long n h = let l : n ≤ 18446744073709551615 = leb-true n 18446744073709551615 h in omega (arith, l)

single_is : (o : Op) → is_plain o ≡ true → single o ≡ true
single_is op.Unreachable h = refl
single_is (op.Block t n) h = absurd cc
single_is (op.Loop t n) h = absurd cc
single_is (op.If t n) h = absurd cc
single_is (op.IfElse t n m) h = absurd cc
single_is (op.Br l) h = refl
single_is (op.BrIf l) h = refl
single_is (op.BrTable n l) h = absurd cc
single_is op.Return h = refl
single_is (op.Call f) h = refl
single_is (op.CallIndirect t) h = refl
single_is op.Drop h = refl
single_is (op.LocalGet x) h = refl
single_is (op.LocalSet x) h = refl
single_is (op.LocalTee x) h = refl
single_is (op.GlobalGet x) h = refl
single_is (op.Load l) h = refl
single_is (op.Store w) h = refl
single_is (op.I32Const n) h = refl
single_is (op.I64Const n) h = refl
single_is (op.Numeric n) h = refl

uncut : (o : Op) → is_plain o ≡ true → cut_op o ≡ o
uncut op.Unreachable h = refl
uncut (op.Block t n) h = absurd cc
uncut (op.Loop t n) h = absurd cc
uncut (op.If t n) h = absurd cc
uncut (op.IfElse t n m) h = absurd cc
uncut (op.Br l) h = ap (λ (n : ℕ). op.Br n) (whole l h)
uncut (op.BrIf l) h = ap (λ (n : ℕ). op.BrIf n) (whole l h)
uncut (op.BrTable n l) h = absurd cc
uncut op.Return h = refl
uncut (op.Call f) h = ap (λ (n : ℕ). op.Call n) (whole f h)
uncut (op.CallIndirect t) h = ap (λ (n : ℕ). op.CallIndirect n) (whole t h)
uncut op.Drop h = refl
uncut (op.LocalGet x) h = ap (λ (n : ℕ). op.LocalGet n) (whole x h)
uncut (op.LocalSet x) h = ap (λ (n : ℕ). op.LocalSet n) (whole x h)
uncut (op.LocalTee x) h = ap (λ (n : ℕ). op.LocalTee n) (whole x h)
uncut (op.GlobalGet x) h = ap (λ (n : ℕ). op.GlobalGet n) (whole x h)
uncut (op.Load l) h = refl
uncut (op.Store w) h = refl
uncut (op.I32Const n) h = ap (λ (k : ℕ). op.I32Const k) (whole n h)
uncut (op.I64Const n) h = ap (λ (k : ℕ). op.I64Const k) (whole_long n h)
uncut (op.Numeric n) h = refl

-- it is one instruction
pub one_is : (o : Op) (d : Drafted) → is_plain o ≡ true → with_ops (o ∷ []) d ≡ one (instr_of o) d
one_is o d h = ap (λ (p : Op). with_ops (p ∷ []) d) (sym (uncut o h)) ∙ cut_is o d (single_is o h)

pub long_is : (n : ℕ) (d : Drafted) → n < 18446744073709551616
    → with_ops (op.I64Const n ∷ []) d ≡ one (instr.I64Const n) d
long_is n d l =
    let e : cut_long n ≡ n = omega (arith, l) in
    ap (λ (k : ℕ). with_ops (op.I64Const k ∷ []) d) (sym e) ∙ cut_is (op.I64Const n) d refl

pub small_is : (n : ℕ) (d : Drafted) → n < 4294967296 → with_ops (op.I32Const n ∷ []) d ≡ one (instr.I32Const n) d
small_is n d l =
    let e : cut n ≡ n = omega (arith, l) in
    ap (λ (k : ℕ). with_ops (op.I32Const k ∷ []) d) (sym e) ∙ cut_is (op.I32Const n) d refl

pub next_long_is : (n : ℕ) (d : Drafted)
    → with_ops (op.I64Const (cut_long (n + 1)) ∷ []) d ≡ one (instr.I64Const (suc n)) d
next_long_is n d =
    let e : n + 1 ≡ suc n = omega arith in
    ap (λ (k : ℕ). with_ops (op.I64Const (cut_long k) ∷ []) d) e ∙ cut_is (op.I64Const (suc n)) d refl
