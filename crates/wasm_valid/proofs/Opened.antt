-- The instruction at the front of a list, opened.
use Rattle.std.proofs.Common.{◌≡◌, ◌↔◌, List, [], ◌∷◌, Some, None, true, refl, sym, ap, subst, ◌∙◌}
use Rattle.std.specs.Prelude.{All, map, take, drop}
use Rattle.std.proofs.lemmas.List.Elements.{All-nil, All-cons, All-head, All-tail}
use Rattle.wasm_tree.specs.declared.code.Op.{Op}
use Rattle.wasm_tree.specs.declared.code.Op.TheVariants as op
use Rattle.wasm_tree.specs.declared.instr.Instr.{Instr, out-Instr}
use Rattle.wasm_tree.specs.declared.instr.Instr.TheOpen as layer
use Rattle.wasm_tree.specs.declared.instr.Instr.TheVariants.{outs-Unreachable, outs-Block, outs-Loop, outs-If, outs-Br, outs-BrIf, outs-BrTable, outs-Return, outs-Call, outs-CallIndirect, outs-Drop, outs-LocalGet, outs-LocalSet, outs-LocalTee, outs-GlobalGet, outs-Load, outs-Store, outs-I32Const, outs-I64Const, outs-Numeric}
use Rattle.wasm_tree.specs.Code.{label_of, tree, head, behind}
use Rattle.wasm_tree.specs.Validity.{is_constant, IsConstant}
use Rattle.wasm_tree.proofs.Flat.{tree_front, tree_none}
use Rattle.wasm_valid.specs.Opened.{open_instruction}

pub opens : (o : Op) (rest : List Op) → out-Instr (head tree o rest) ≡ open_instruction o rest
opens op.Unreachable rest = outs-Unreachable
opens (op.Block t n) rest = outs-Block t (tree (take n rest))
opens (op.Loop t n) rest = outs-Loop t (tree (take n rest))
opens (op.If t n) rest = outs-If t (tree (take n rest)) None
opens (op.IfElse t n m) rest = outs-If t (tree (take n rest)) (Some (tree (take m (drop n rest))))
opens (op.Br l) rest = outs-Br l
opens (op.BrIf l) rest = outs-BrIf l
opens (op.BrTable n l) rest = outs-BrTable (map label_of (take n rest)) l
opens op.Return rest = outs-Return
opens (op.Call f) rest = outs-Call f
opens (op.CallIndirect t) rest = outs-CallIndirect t
opens op.Drop rest = outs-Drop
opens (op.LocalGet x) rest = outs-LocalGet x
opens (op.LocalSet x) rest = outs-LocalSet x
opens (op.LocalTee x) rest = outs-LocalTee x
opens (op.GlobalGet x) rest = outs-GlobalGet x
opens (op.Load l) rest = outs-Load l
opens (op.Store w) rest = outs-Store w
opens (op.I32Const n) rest = outs-I32Const n
opens (op.I64Const n) rest = outs-I64Const n
opens (op.Numeric n) rest = outs-Numeric n

-- whether it is constant, the code inside it does not matter
constant_alone : (o : Op) (rest : List Op) → is_constant (open_instruction o rest) ≡ is_constant (open_instruction o [])
constant_alone op.Unreachable rest = refl
constant_alone (op.Block t n) rest = refl
constant_alone (op.Loop t n) rest = refl
constant_alone (op.If t n) rest = refl
constant_alone (op.IfElse t n m) rest = refl
constant_alone (op.Br l) rest = refl
constant_alone (op.BrIf l) rest = refl
constant_alone (op.BrTable n l) rest = refl
constant_alone op.Return rest = refl
constant_alone (op.Call f) rest = refl
constant_alone (op.CallIndirect t) rest = refl
constant_alone op.Drop rest = refl
constant_alone (op.LocalGet x) rest = refl
constant_alone (op.LocalSet x) rest = refl
constant_alone (op.LocalTee x) rest = refl
constant_alone (op.GlobalGet x) rest = refl
constant_alone (op.Load l) rest = refl
constant_alone (op.Store w) rest = refl
constant_alone (op.I32Const n) rest = refl
constant_alone (op.I64Const n) rest = refl
constant_alone (op.Numeric n) rest = refl

-- one that is constant holds no others
constant_behind : (o : Op) (rest : List Op) → is_constant (open_instruction o []) ≡ true → behind o rest ≡ rest
constant_behind op.Unreachable rest h = refl
constant_behind (op.Block t n) rest h = cc
constant_behind (op.Loop t n) rest h = cc
constant_behind (op.If t n) rest h = cc
constant_behind (op.IfElse t n m) rest h = cc
constant_behind (op.Br l) rest h = refl
constant_behind (op.BrIf l) rest h = refl
constant_behind (op.BrTable n l) rest h = cc
constant_behind op.Return rest h = refl
constant_behind (op.Call f) rest h = refl
constant_behind (op.CallIndirect t) rest h = refl
constant_behind op.Drop rest h = refl
constant_behind (op.LocalGet x) rest h = refl
constant_behind (op.LocalSet x) rest h = refl
constant_behind (op.LocalTee x) rest h = refl
constant_behind (op.GlobalGet x) rest h = refl
constant_behind (op.Load l) rest h = refl
constant_behind (op.Store w) rest h = refl
constant_behind (op.I32Const n) rest h = refl
constant_behind (op.I64Const n) rest h = refl
constant_behind (op.Numeric n) rest h = refl

pub constant_head : (o : Op) (rest : List Op)
    → IsConstant (head tree o rest) ↔ (is_constant (open_instruction o []) ≡ true)
constant_head o rest =
    let e = ap (λ (x : layer.Instr-F Instr). is_constant x) (opens o rest) ∙ constant_alone o rest in
    (λ h. sym e ∙ h, λ h. e ∙ h)

-- the front of a list whose first is constant
constant_front : (o : Op) (rest : List Op) → is_constant (open_instruction o []) ≡ true
    → tree (o ∷ rest) ≡ head tree o rest ∷ tree rest
constant_front o rest h = tree_front o rest
    ∙ ap (λ (ops : List Op). head tree o rest ∷ tree ops) (constant_behind o rest h)

pub constant_trees : (ops : List Op) → All (λ o. is_constant (open_instruction o []) ≡ true) ops
    → All IsConstant (tree ops)
constant_trees [] h = subst (λ (is : List Instr). All IsConstant is) (sym tree_none) (All-nil IsConstant)
constant_trees (o ∷ rest) h =
    let first = All-head (λ o. is_constant (open_instruction o []) ≡ true) o rest h in
    subst (λ (is : List Instr). All IsConstant is) (sym (constant_front o rest first))
    (All-cons IsConstant (head tree o rest) (tree rest) ((constant_head o rest).1 first)
    (constant_trees rest (All-tail (λ o. is_constant (open_instruction o []) ≡ true) o rest h)))

pub constant_ops : (ops : List Op) → All IsConstant (tree ops)
    → All (λ o. is_constant (open_instruction o []) ≡ true) ops
constant_ops [] h = All-nil (λ o. is_constant (open_instruction o []) ≡ true)
constant_ops (o ∷ rest) h =
    let whole = subst (λ (is : List Instr). All IsConstant is) (tree_front o rest) h in
    let first = (constant_head o rest).0 (All-head IsConstant (head tree o rest) (tree (behind o rest)) whole) in
    let others = subst (λ (is : List Instr). All IsConstant is) (constant_front o rest first) h in
    All-cons (λ o. is_constant (open_instruction o []) ≡ true) o rest first
    (constant_ops rest (All-tail IsConstant (head tree o rest) (tree rest) others))
