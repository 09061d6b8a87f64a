-- The value of a list of instructions.
use Rattle.std.proofs.Common.{◌≡◌, ◌≤◌, ◌<◌, List, [], ◌∷◌, None, length, get_or, refl, sym, ap, ◌∙◌, arith}
use Rattle.wasm_tree.specs.declared.code.Op.{Op}
use Rattle.wasm_tree.specs.declared.code.Op.TheVariants as op
use Rattle.wasm_tree.specs.declared.instr.Instr.{Instr}
use Rattle.wasm_tree.specs.Code.{tree, head, behind}
use Rattle.wasm_tree.specs.Linking.{Linked, constant, value_of}
use Rattle.wasm_tree.proofs.Flat.{tree_front, tree_none, behind_le}

empty : (ops : List Op) → length ops ≤ 0 → ops ≡ []
empty [] h = refl
empty (o ∷ ops) h = absurd (omega (arith, h))

-- one instruction
pub value_one : (l : Linked) (o : Op) → constant l (head tree o []) ≡ value_of l (tree (o ∷ []))
value_one l o =
    let none : behind o [] ≡ [] = empty (behind o []) (behind_le 0 o [] (omega arith)) in
    sym (ap (value_of l) (tree_front o [] ∙ ap (λ (ops : List Op). head tree o [] ∷ tree ops) none
    ∙ ap (λ (is : List Instr). head tree o [] ∷ is) tree_none))

pub value_nothing : (l : Linked) → None ≡ value_of l (tree [])
value_nothing l = sym (ap (value_of l) tree_none)

-- the first is not constant
other : (l : Linked) (i : Instr) (is : List Instr) → constant l i ≡ None → value_of l (i ∷ is) ≡ None
other l i [] h = h
other l i (j ∷ is) h = refl

-- two
both : (l : Linked) (i : Instr) (p : Op) (rest : List Op) → value_of l (i ∷ tree (p ∷ rest)) ≡ None
both l i p rest = ap (λ (is : List Instr). value_of l (i ∷ is)) (tree_front p rest)

several : (l : Linked) (o p : Op) (rest : List Op)
    → value_of l (head tree o (p ∷ rest) ∷ tree (behind o (p ∷ rest))) ≡ None
several l op.Unreachable p rest = other l (head tree op.Unreachable (p ∷ rest))
    (tree (behind op.Unreachable (p ∷ rest))) refl
several l (op.Block t n) p rest = other l (head tree (op.Block t n) (p ∷ rest))
    (tree (behind (op.Block t n) (p ∷ rest))) refl
several l (op.Loop t n) p rest = other l (head tree (op.Loop t n) (p ∷ rest)) (tree (behind (op.Loop t n) (p ∷ rest)))
    refl
several l (op.If t n) p rest = other l (head tree (op.If t n) (p ∷ rest)) (tree (behind (op.If t n) (p ∷ rest))) refl
several l (op.IfElse t n m) p rest = other l (head tree (op.IfElse t n m) (p ∷ rest))
    (tree (behind (op.IfElse t n m) (p ∷ rest))) refl
several l (op.Br k) p rest = other l (head tree (op.Br k) (p ∷ rest)) (tree (behind (op.Br k) (p ∷ rest))) refl
several l (op.BrIf k) p rest = other l (head tree (op.BrIf k) (p ∷ rest)) (tree (behind (op.BrIf k) (p ∷ rest))) refl
several l (op.BrTable n k) p rest = other l (head tree (op.BrTable n k) (p ∷ rest))
    (tree (behind (op.BrTable n k) (p ∷ rest))) refl
several l op.Return p rest = other l (head tree op.Return (p ∷ rest)) (tree (behind op.Return (p ∷ rest))) refl
several l (op.Call f) p rest = other l (head tree (op.Call f) (p ∷ rest)) (tree (behind (op.Call f) (p ∷ rest))) refl
several l (op.CallIndirect t) p rest = other l (head tree (op.CallIndirect t) (p ∷ rest))
    (tree (behind (op.CallIndirect t) (p ∷ rest))) refl
several l op.Drop p rest = other l (head tree op.Drop (p ∷ rest)) (tree (behind op.Drop (p ∷ rest))) refl
several l (op.LocalGet x) p rest = other l (head tree (op.LocalGet x) (p ∷ rest))
    (tree (behind (op.LocalGet x) (p ∷ rest))) refl
several l (op.LocalSet x) p rest = other l (head tree (op.LocalSet x) (p ∷ rest))
    (tree (behind (op.LocalSet x) (p ∷ rest))) refl
several l (op.LocalTee x) p rest = other l (head tree (op.LocalTee x) (p ∷ rest))
    (tree (behind (op.LocalTee x) (p ∷ rest))) refl
several l (op.GlobalGet x) p rest = both l (head tree (op.GlobalGet x) (p ∷ rest)) p rest
several l (op.Load k) p rest = other l (head tree (op.Load k) (p ∷ rest)) (tree (behind (op.Load k) (p ∷ rest))) refl
several l (op.Store w) p rest = other l (head tree (op.Store w) (p ∷ rest)) (tree (behind (op.Store w) (p ∷ rest))) refl
several l (op.I32Const n) p rest = both l (head tree (op.I32Const n) (p ∷ rest)) p rest
several l (op.I64Const n) p rest = both l (head tree (op.I64Const n) (p ∷ rest)) p rest
several l (op.Numeric n) p rest = other l (head tree (op.Numeric n) (p ∷ rest))
    (tree (behind (op.Numeric n) (p ∷ rest))) refl

-- more than one instruction in the list: none is the value, also where they are one tree
pub value_more : (l : Linked) (o p : Op) (rest : List Op) → None ≡ value_of l (tree (o ∷ p ∷ rest))
value_more l o p rest = sym (ap (value_of l) (tree_front o (p ∷ rest)) ∙ several l o p rest)

-- ---- by the length of the list

pub value_at_one : (l : Linked) (code : List Op) (d : Op) → 1 ≤ length code → length code < 2
    → constant l (head tree (get_or code 0 d) []) ≡ value_of l (tree code)
value_at_one l [] d h j = absurd (omega (arith, h))
value_at_one l (o ∷ []) d h j = value_one l o
value_at_one l (o ∷ p ∷ rest) d h j = absurd (omega (arith, j))

pub value_short : (l : Linked) (code : List Op) → length code < 1 → None ≡ value_of l (tree code)
value_short l [] h = value_nothing l
value_short l (o ∷ rest) h = absurd (omega (arith, h))

pub value_long : (l : Linked) (code : List Op) → 2 ≤ length code → None ≡ value_of l (tree code)
value_long l [] h = absurd (omega (arith, h))
value_long l (o ∷ []) h = absurd (omega (arith, h))
value_long l (o ∷ p ∷ rest) h = value_more l o p rest
