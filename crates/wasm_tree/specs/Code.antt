-- The trees that a list of instructions stands for, and the list of trees.
use Rattle.std.specs.Prelude.{ℕ, zero, suc, List, [], ◌∷◌, ◌++◌, map, length, take, drop, Option, Some, None}
use Rattle.std.specs.List.{flat_map}
use Rattle.wasm_tree.specs.declared.code.Op.{Op}
use Rattle.wasm_tree.specs.declared.code.Op.TheVariants as op
use Rattle.wasm_tree.specs.declared.instr.Instr.{Instr, Instr-F, fold-Instr}
use Rattle.wasm_tree.specs.declared.instr.Instr.TheOpen as layer
use Rattle.wasm_tree.specs.declared.instr.Instr.TheVariants as instr

-- ---- trees of a list

-- the label that a branch names
abbrev pub label_of : Op → ℕ
label_of (op.Br l) = l
label_of _ = 0

-- the instruction that this one at the front of a list is, with its code from those behind it
abbrev pub head : (trees : List Op → List Instr) → Op → (rest : List Op) → Instr
head trees op.Unreachable rest = instr.Unreachable
head trees (op.Block t n) rest = instr.Block t (trees (take n rest))
head trees (op.Loop t n) rest = instr.Loop t (trees (take n rest))
head trees (op.If t n) rest = instr.If t (trees (take n rest)) None
head trees (op.IfElse t n m) rest =
    instr.If t (trees (take n rest)) (Some (trees (take m (drop n rest))))
head trees (op.Br l) rest = instr.Br l
head trees (op.BrIf l) rest = instr.BrIf l
head trees (op.BrTable n l) rest = instr.BrTable (map label_of (take n rest)) l
head trees op.Return rest = instr.Return
head trees (op.Call f) rest = instr.Call f
head trees (op.CallIndirect t) rest = instr.CallIndirect t
head trees op.Drop rest = instr.Drop
head trees (op.LocalGet x) rest = instr.LocalGet x
head trees (op.LocalSet x) rest = instr.LocalSet x
head trees (op.LocalTee x) rest = instr.LocalTee x
head trees (op.GlobalGet x) rest = instr.GlobalGet x
head trees (op.Load l) rest = instr.Load l
head trees (op.Store w) rest = instr.Store w
head trees (op.I32Const n) rest = instr.I32Const n
head trees (op.I64Const n) rest = instr.I64Const n
head trees (op.Numeric n) rest = instr.Numeric n

-- what stands behind it and its code
abbrev pub behind : Op → List Op → List Op
behind (op.Block t n) rest = drop n rest
behind (op.Loop t n) rest = drop n rest
behind (op.If t n) rest = drop n rest
behind (op.IfElse t n m) rest = drop m (drop n rest)
behind (op.BrTable n l) rest = drop n rest
behind _ rest = rest

-- the trees of the list, of this many instructions at most
unfoldable pub tree_within : ℕ → List Op → List Instr
tree_within zero ops = []
tree_within (suc n) [] = []
tree_within (suc n) (o ∷ rest) = head (tree_within n) o rest ∷ tree_within n (behind o rest)

-- the trees of the list
unfoldable pub tree : List Op → List Instr
tree ops = tree_within (length ops) ops

-- ---- the list of trees

abbrev pub join_ops : List (List Op) → List Op
join_ops = flat_map (λ ops. ops)

abbrev pub flat_step : Instr-F (List Op) → List Op
flat_step layer.Unreachable = op.Unreachable ∷ []
flat_step (layer.Block t is) = op.Block t (length (join_ops is)) ∷ join_ops is
flat_step (layer.Loop t is) = op.Loop t (length (join_ops is)) ∷ join_ops is
flat_step (layer.If t is None) = op.If t (length (join_ops is)) ∷ join_ops is
flat_step (layer.If t is (Some others)) =
    op.IfElse t (length (join_ops is)) (length (join_ops others)) ∷ (join_ops is ++ join_ops others)
flat_step (layer.Br l) = op.Br l ∷ []
flat_step (layer.BrIf l) = op.BrIf l ∷ []
flat_step (layer.BrTable ls l) = op.BrTable (length ls) l ∷ map (λ l. op.Br l) ls
flat_step layer.Return = op.Return ∷ []
flat_step (layer.Call f) = op.Call f ∷ []
flat_step (layer.CallIndirect t) = op.CallIndirect t ∷ []
flat_step layer.Drop = op.Drop ∷ []
flat_step (layer.LocalGet x) = op.LocalGet x ∷ []
flat_step (layer.LocalSet x) = op.LocalSet x ∷ []
flat_step (layer.LocalTee x) = op.LocalTee x ∷ []
flat_step (layer.GlobalGet x) = op.GlobalGet x ∷ []
flat_step (layer.Load l) = op.Load l ∷ []
flat_step (layer.Store w) = op.Store w ∷ []
flat_step (layer.I32Const n) = op.I32Const n ∷ []
flat_step (layer.I64Const n) = op.I64Const n ∷ []
flat_step (layer.Numeric n) = op.Numeric n ∷ []

-- an instruction as a list, and its code
unfoldable pub flat_one : Instr → List Op
flat_one = fold-Instr (List Op) flat_step

abbrev pub flat : List Instr → List Op
flat = flat_map flat_one
