-- The list of operations of each instruction.
use Rattle.std.proofs.Common.{◌≡◌, ℕ, Bool, true, false, List, [], ◌∷◌, ◌++◌, Option, Some, None, ap, ◌∙◌}
use Rattle.std.specs.Prelude.{map, length, ◌==◌, if◌then◌else◌}
use Rattle.wasm_tree.specs.declared.kinds.ValueType.{ValueType}
use Rattle.wasm_tree.specs.declared.code.Op.{Op}
use Rattle.wasm_tree.specs.declared.code.Op.TheVariants as op
use Rattle.wasm_tree.specs.declared.instr.Instr.{Instr, Instr-F, out-Instr, map-Instr, fold_out-Instr}
use Rattle.wasm_tree.specs.declared.instr.Instr.TheOpen as layer
use Rattle.wasm_tree.specs.declared.instr.Instr.TheVariants as instr
use Rattle.wasm_tree.specs.declared.instr.Instr.TheVariants.{outs-Unreachable, outs-Block, outs-Loop, outs-If, outs-Br, outs-BrIf, outs-BrTable, outs-Return, outs-Call, outs-CallIndirect, outs-Drop, outs-LocalGet, outs-LocalSet, outs-LocalTee, outs-GlobalGet, outs-Load, outs-Store, outs-I32Const, outs-I64Const, outs-Numeric}
use Rattle.wasm_tree.specs.Code.{tree, head, join_ops, flat_step, flat_one, flat}
use Rattle.wasm_tree.proofs.Flat.{joined_is}
use Rattle.wasm_code.specs.Instructions.{one_sided}
use Rattle.wasm_code.specs.ScratchStack.{is_plain, one_sided_op}

at : (i : Instr) (x : Instr-F Instr) → out-Instr i ≡ x → flat_one i ≡ flat_step (map-Instr Instr (List Op) flat_one x)
unfolding flat_one
at i x e = fold_out-Instr (List Op) flat_step i
    ∙ ap (λ (y : Instr-F Instr). flat_step (map-Instr Instr (List Op) flat_one y)) e

-- an instruction with none inside is one operation
pub plain_flat : (o : Op) → is_plain o ≡ true → flat_one (head tree o []) ≡ o ∷ []
plain_flat op.Unreachable h = at instr.Unreachable layer.Unreachable outs-Unreachable
plain_flat (op.Block t n) h = absurd cc
plain_flat (op.Loop t n) h = absurd cc
plain_flat (op.If t n) h = absurd cc
plain_flat (op.IfElse t n m) h = absurd cc
plain_flat (op.Br l) h = at (instr.Br l) (layer.Br l) (outs-Br l)
plain_flat (op.BrIf l) h = at (instr.BrIf l) (layer.BrIf l) (outs-BrIf l)
plain_flat (op.BrTable n l) h = absurd cc
plain_flat op.Return h = at instr.Return layer.Return outs-Return
plain_flat (op.Call f) h = at (instr.Call f) (layer.Call f) (outs-Call f)
plain_flat (op.CallIndirect t) h = at (instr.CallIndirect t) (layer.CallIndirect t) (outs-CallIndirect t)
plain_flat op.Drop h = at instr.Drop layer.Drop outs-Drop
plain_flat (op.LocalGet x) h = at (instr.LocalGet x) (layer.LocalGet x) (outs-LocalGet x)
plain_flat (op.LocalSet x) h = at (instr.LocalSet x) (layer.LocalSet x) (outs-LocalSet x)
plain_flat (op.LocalTee x) h = at (instr.LocalTee x) (layer.LocalTee x) (outs-LocalTee x)
plain_flat (op.GlobalGet x) h = at (instr.GlobalGet x) (layer.GlobalGet x) (outs-GlobalGet x)
plain_flat (op.Load l) h = at (instr.Load l) (layer.Load l) (outs-Load l)
plain_flat (op.Store w) h = at (instr.Store w) (layer.Store w) (outs-Store w)
plain_flat (op.I32Const n) h = at (instr.I32Const n) (layer.I32Const n) (outs-I32Const n)
plain_flat (op.I64Const n) h = at (instr.I64Const n) (layer.I64Const n) (outs-I64Const n)
plain_flat (op.Numeric n) h = at (instr.Numeric n) (layer.Numeric n) (outs-Numeric n)

-- a table of labels
pub table_flat : (ls : List ℕ) (l : ℕ) → flat_one (instr.BrTable ls l) ≡ op.BrTable (length ls) l
    ∷ map (λ l. op.Br l) ls
table_flat ls l = at (instr.BrTable ls l) (layer.BrTable ls l) (outs-BrTable ls l)

-- those that hold others
block_flat : (t : Option ValueType) (is : List Instr)
    → flat_one (instr.Block t is) ≡ op.Block t (length (flat is)) ∷ flat is
block_flat t is = at (instr.Block t is) (layer.Block t is) (outs-Block t is)
    ∙ ap (λ r. op.Block t (length r) ∷ r) (joined_is is)

loop_flat : (t : Option ValueType) (is : List Instr)
    → flat_one (instr.Loop t is) ≡ op.Loop t (length (flat is)) ∷ flat is
loop_flat t is = at (instr.Loop t is) (layer.Loop t is) (outs-Loop t is)
    ∙ ap (λ r. op.Loop t (length r) ∷ r) (joined_is is)

if_flat : (t : Option ValueType) (is : List Instr)
    → flat_one (instr.If t is None) ≡ op.If t (length (flat is)) ∷ flat is
if_flat t is = at (instr.If t is None) (layer.If t is None) (outs-If t is None)
    ∙ ap (λ r. op.If t (length r) ∷ r) (joined_is is)

pub sides_flat : (t : Option ValueType) (is others : List Instr)
    → flat_one (instr.If t is (Some others)) ≡ op.IfElse t (length (flat is)) (length (flat others))
    ∷ (flat is ++ flat others)
sides_flat t is others =
    at (instr.If t is (Some others)) (layer.If t is (Some others)) (outs-If t is (Some others))
    ∙ ap (λ r. op.IfElse t (length r) (length (join_ops (map flat_one others))) ∷ (r ++ join_ops (map flat_one others)))
    (joined_is is)
    ∙ ap (λ r. op.IfElse t (length (flat is)) (length r) ∷ (flat is ++ r)) (joined_is others)

one_of : (b c : Bool) (t : Option ValueType) (is : List Instr)
    → flat_one (if b then instr.Block t is else (if c then instr.Loop t is else instr.If t is None))
    ≡ (if b then op.Block t (length (flat is)) else
    (if c then op.Loop t (length (flat is)) else op.If t (length (flat is)))) ∷ flat is
one_of true c t is = block_flat t is
one_of false true t is = loop_flat t is
one_of false false t is = if_flat t is

-- an instruction with one sequence
pub one_flat : (b : ℕ) (t : Option ValueType) (is : List Instr)
    → flat_one (one_sided b t is) ≡ one_sided_op b t (length (flat is)) ∷ flat is
one_flat b t is = one_of (b == 0x02) (b == 0x03) t is
