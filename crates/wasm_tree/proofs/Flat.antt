-- The trees of a list, and that the list of trees has those trees.
use Rattle.std.proofs.Common.{◌≡◌, ℕ, zero, suc, ◌≤◌, List, [], ◌∷◌, ◌++◌, Option, Some, None, refl, sym, ap, ◌∙◌, subst, arith, rules}
use Rattle.std.specs.Prelude.{map, length, take, drop}
use Rattle.std.specs.List.{flat_map}
use Rattle.std.proofs.lemmas.List.{length-take, length-drop, take-append-le, drop-append-le}
use Rattle.std.proofs.Math.Seq.{take-length, drop-length}
use Rattle.wasm_tree.specs.declared.kinds.ValueType.{ValueType}
use Rattle.wasm_tree.specs.declared.code.Op.{Op}
use Rattle.wasm_tree.specs.declared.code.Op.TheVariants as op
use Rattle.wasm_tree.specs.declared.instr.Instr.{Instr, Instr-F, roll-Instr, map-Instr, fold-roll-Instr, ind-Instr}
use Rattle.wasm_tree.specs.declared.instr.Instr.TheOpen as layer
use Rattle.wasm_tree.specs.declared.instr.Instr.TheVariants as instr
use Rattle.wasm_tree.specs.declared.instr.Instr.TheVariants.{rolls-Unreachable, rolls-Block, rolls-Loop, rolls-If, rolls-Br, rolls-BrIf, rolls-BrTable, rolls-Return, rolls-Call, rolls-CallIndirect, rolls-Drop, rolls-LocalGet, rolls-LocalSet, rolls-LocalTee, rolls-GlobalGet, rolls-Load, rolls-Store, rolls-I32Const, rolls-I64Const, rolls-Numeric}
use Rattle.wasm_tree.specs.Code.{head, behind, tree_within, tree, label_of, join_ops, flat_step, flat_one, flat}

-- ---- the front of a list

-- two ways to make trees that agree on lists of at most so many
Agree : ℕ → (List Op → List Instr) → (List Op → List Instr) → Type 0
Agree n t u = (ops : List Op) → length ops ≤ n → t ops ≡ u ops

take_le : (n k : ℕ) (ops : List Op) → length ops ≤ k → length (take n ops) ≤ k
take_le n k ops h = omega (arith, length-take n ops, h)

drop_le : (n k : ℕ) (ops : List Op) → length ops ≤ k → length (drop n ops) ≤ k
drop_le n k ops h = omega (arith, length-drop n ops, h)

heads : (k : ℕ) (t u : List Op → List Instr) → Agree k t u → (o : Op) (rest : List Op) → length rest ≤ k
    → head t o rest ≡ head u o rest
unfolding Agree
heads k t u a op.Unreachable rest h = refl
heads k t u a (op.Block ty n) rest h = ap (λ is. instr.Block ty is) (a (take n rest) (take_le n k rest h))
heads k t u a (op.Loop ty n) rest h = ap (λ is. instr.Loop ty is) (a (take n rest) (take_le n k rest h))
heads k t u a (op.If ty n) rest h = ap (λ is. instr.If ty is None) (a (take n rest) (take_le n k rest h))
heads k t u a (op.IfElse ty n m) rest h =
    ap (λ is. instr.If ty is (Some (t (take m (drop n rest))))) (a (take n rest) (take_le n k rest h))
    ∙ ap (λ is. instr.If ty (u (take n rest)) (Some is))
    (a (take m (drop n rest)) (take_le m k (drop n rest) (drop_le n k rest h)))
heads k t u a (op.Br l) rest h = refl
heads k t u a (op.BrIf l) rest h = refl
heads k t u a (op.BrTable n l) rest h = refl
heads k t u a op.Return rest h = refl
heads k t u a (op.Call f) rest h = refl
heads k t u a (op.CallIndirect f) rest h = refl
heads k t u a op.Drop rest h = refl
heads k t u a (op.LocalGet x) rest h = refl
heads k t u a (op.LocalSet x) rest h = refl
heads k t u a (op.LocalTee x) rest h = refl
heads k t u a (op.GlobalGet x) rest h = refl
heads k t u a (op.Load l) rest h = refl
heads k t u a (op.Store w) rest h = refl
heads k t u a (op.I32Const n) rest h = refl
heads k t u a (op.I64Const n) rest h = refl
heads k t u a (op.Numeric n) rest h = refl

-- what stands behind is no longer
pub behind_le : (k : ℕ) (o : Op) (rest : List Op) → length rest ≤ k → length (behind o rest) ≤ k
behind_le k op.Unreachable rest h = h
behind_le k (op.Block ty n) rest h = drop_le n k rest h
behind_le k (op.Loop ty n) rest h = drop_le n k rest h
behind_le k (op.If ty n) rest h = drop_le n k rest h
behind_le k (op.IfElse ty n m) rest h = drop_le m k (drop n rest) (drop_le n k rest h)
behind_le k (op.Br l) rest h = h
behind_le k (op.BrIf l) rest h = h
behind_le k (op.BrTable n l) rest h = drop_le n k rest h
behind_le k op.Return rest h = h
behind_le k (op.Call f) rest h = h
behind_le k (op.CallIndirect f) rest h = h
behind_le k op.Drop rest h = h
behind_le k (op.LocalGet x) rest h = h
behind_le k (op.LocalSet x) rest h = h
behind_le k (op.LocalTee x) rest h = h
behind_le k (op.GlobalGet x) rest h = h
behind_le k (op.Load l) rest h = h
behind_le k (op.Store w) rest h = h
behind_le k (op.I32Const n) rest h = h
behind_le k (op.I64Const n) rest h = h
behind_le k (op.Numeric n) rest h = h

less : (a b : ℕ) → suc a ≤ suc b → a ≤ b
less a b h = omega (arith, h)

up_to : (a b c : ℕ) → a ≤ b → b ≤ c → a ≤ c
up_to a b c h j = omega (arith, h, j)

none_within : (n : ℕ) → suc n ≤ 0 → ⊥
none_within n h = omega (arith, h)

same : (f g : ℕ) (ops : List Op) → length ops ≤ f → length ops ≤ g → tree_within f ops ≡ tree_within g ops
unfolding tree_within Agree
same zero zero ops h j = refl
same zero (suc g) [] h j = refl
same zero (suc g) (o ∷ rest) h j = absurd (none_within (length rest) h)
same (suc f) zero [] h j = refl
same (suc f) zero (o ∷ rest) h j = absurd (none_within (length rest) j)
same (suc f) (suc g) [] h j = refl
same (suc f) (suc g) (o ∷ rest) h j =
    let k = length rest in
    let hk : k ≤ f = less k f h in
    let jk : k ≤ g = less k g j in
    let a : Agree k (tree_within f) (tree_within g) =
    λ ops l. same f g ops (up_to (length ops) k f l hk) (up_to (length ops) k g l jk) in
    ap (λ i. i ∷ tree_within f (behind o rest)) (heads k (tree_within f) (tree_within g) a o rest (omega arith))
    ∙ ap (λ is. head (tree_within g) o rest ∷ is)
    (same f g (behind o rest) (behind_le f o rest hk) (behind_le g o rest jk))

-- the first instruction of a list with its code, and those behind it
pub tree_front : (o : Op) (rest : List Op) → tree (o ∷ rest) ≡ head tree o rest ∷ tree (behind o rest)
unfolding tree tree_within Agree
tree_front o rest =
    let k = length rest in
    let a : Agree k (tree_within k) tree = λ ops l. same k (length ops) ops l (omega arith) in
    ap (λ i. i ∷ tree_within k (behind o rest)) (heads k (tree_within k) tree a o rest (omega arith))
    ∙ ap (λ is. head tree o rest ∷ is) (same k (length (behind o rest)) (behind o rest)
    (behind_le k o rest (omega arith)) (omega arith))

pub tree_none : tree [] ≡ []
unfolding tree tree_within
tree_none = refl

-- ---- the list of trees

pub take_front : (a b : List Op) → take (length a) (a ++ b) ≡ a
take_front a b = take-append-le (length a) a b (omega arith) ∙ take-length a

pub drop_front : (a b : List Op) → drop (length a) (a ++ b) ≡ b
drop_front [] b = refl
drop_front (x ∷ a) b = drop_front a b

assoc : (a b c : List Op) → (a ++ b) ++ c ≡ a ++ (b ++ c)
assoc [] b c = refl
assoc (x ∷ a) b c = ap (λ r. x ∷ r) (assoc a b c)

nothing_more : (a : List Op) → a ++ [] ≡ a
nothing_more [] = refl
nothing_more (x ∷ a) = ap (λ r. x ∷ r) (nothing_more a)

nothing_behind : (is : List Instr) → is ++ [] ≡ is
nothing_behind [] = refl
nothing_behind (i ∷ is) = ap (λ r. i ∷ r) (nothing_behind is)

pub tree_block : (t : Option ValueType) (inner more : List Op)
    → tree (op.Block t (length inner) ∷ (inner ++ more)) ≡ instr.Block t (tree inner) ∷ tree more
tree_block t inner more =
    tree_front (op.Block t (length inner)) (inner ++ more)
    ∙ ap (λ ops. instr.Block t (tree ops) ∷ tree (drop (length inner) (inner ++ more))) (take_front inner more)
    ∙ ap (λ ops. instr.Block t (tree inner) ∷ tree ops) (drop_front inner more)

pub tree_loop : (t : Option ValueType) (inner more : List Op)
    → tree (op.Loop t (length inner) ∷ (inner ++ more)) ≡ instr.Loop t (tree inner) ∷ tree more
tree_loop t inner more =
    tree_front (op.Loop t (length inner)) (inner ++ more)
    ∙ ap (λ ops. instr.Loop t (tree ops) ∷ tree (drop (length inner) (inner ++ more))) (take_front inner more)
    ∙ ap (λ ops. instr.Loop t (tree inner) ∷ tree ops) (drop_front inner more)

pub tree_if : (t : Option ValueType) (inner more : List Op)
    → tree (op.If t (length inner) ∷ (inner ++ more)) ≡ instr.If t (tree inner) None ∷ tree more
tree_if t inner more =
    tree_front (op.If t (length inner)) (inner ++ more)
    ∙ ap (λ ops. instr.If t (tree ops) None ∷ tree (drop (length inner) (inner ++ more))) (take_front inner more)
    ∙ ap (λ ops. instr.If t (tree inner) None ∷ tree ops) (drop_front inner more)

pub tree_if_else : (t : Option ValueType) (inner others more : List Op)
    → tree (op.IfElse t (length inner) (length others) ∷ (inner ++ (others ++ more)))
    ≡ instr.If t (tree inner) (Some (tree others)) ∷ tree more
tree_if_else t inner others more =
    let n = length inner in
    let m = length others in
    let whole = inner ++ (others ++ more) in
    tree_front (op.IfElse t n m) whole
    ∙ ap (λ ops. instr.If t (tree ops) (Some (tree (take m (drop n whole)))) ∷ tree (drop m (drop n whole)))
    (take_front inner (others ++ more))
    ∙ ap (λ ops. instr.If t (tree inner) (Some (tree (take m ops))) ∷ tree (drop m ops))
    (drop_front inner (others ++ more))
    ∙ ap (λ ops. instr.If t (tree inner) (Some (tree ops)) ∷ tree (drop m (others ++ more))) (take_front others more)
    ∙ ap (λ ops. instr.If t (tree inner) (Some (tree others)) ∷ tree ops) (drop_front others more)

branches : List ℕ → List Op
branches = map (λ l. op.Br l)

labels_taken : (ls : List ℕ) (more : List Op) → map label_of (take (length ls) (map (λ l. op.Br l) ls ++ more)) ≡ ls
labels_taken [] more = refl
labels_taken (l ∷ ls) more = ap (λ r. l ∷ r) (labels_taken ls more)

labels_dropped : (ls : List ℕ) (more : List Op) → drop (length ls) (map (λ l. op.Br l) ls ++ more) ≡ more
labels_dropped [] more = refl
labels_dropped (l ∷ ls) more = labels_dropped ls more

pub tree_table : (ls : List ℕ) (l : ℕ) (more : List Op)
    → tree (op.BrTable (length ls) l ∷ (map (λ l. op.Br l) ls ++ more)) ≡ instr.BrTable ls l ∷ tree more
tree_table ls l more =
    let whole = map (λ l. op.Br l) ls ++ more in
    tree_front (op.BrTable (length ls) l) whole
    ∙ ap (λ x. instr.BrTable x l ∷ tree (drop (length ls) whole)) (labels_taken ls more)
    ∙ ap (λ ops. instr.BrTable ls l ∷ tree ops) (labels_dropped ls more)

-- ---- the trees of the list of trees

-- the list of this instruction, with others behind it, has this tree first
abbrev P : Instr → Type 0
P i = (more : List Op) → tree (flat_one i ++ more) ≡ i ∷ tree more

abbrev S : Type 0
S = (i : Instr) × P i

abbrev bare : Instr-F S → Instr-F Instr
bare = map-Instr S Instr (λ e. e.0)

firsts : List S → List Instr
firsts ss = map (λ e. e.0) ss

pub joined_is : (is : List Instr) → join_ops (map flat_one is) ≡ flat is
joined_is [] = refl
joined_is (i ∷ is) = ap (λ (r : List Op). flat_one i ++ r) (joined_is is)

each : (ss : List S) (more : List Op) → tree (flat (map (λ e. e.0) ss) ++ more) ≡ map (λ e. e.0) ss ++ tree more
each [] more = refl
each (s ∷ ss) more =
    let others = flat (map (λ e. e.0) ss) in
    ap tree (assoc (flat_one s.0) others more) ∙ s.1 (others ++ more) ∙ ap (λ is. s.0 ∷ is) (each ss more)

whole : (ss : List S) → tree (flat (map (λ e. e.0) ss)) ≡ map (λ e. e.0) ss
whole ss =
    let is = map (λ e. e.0) ss in
    ap tree (sym (nothing_more (flat is))) ∙ each ss [] ∙ ap (λ r. is ++ r) tree_none ∙ nothing_behind is

-- what the layer says, as a list
listed : (x : Instr-F Instr) → flat_one (roll-Instr x) ≡ flat_step (map-Instr Instr (List Op) flat_one x)
unfolding flat_one
listed x = fold-roll-Instr (List Op) flat_step x

-- a layer, the list that it gives, and the tree of that
given : (x : Instr-F Instr) (i : Instr) (ops : List Op) → flat_step (map-Instr Instr (List Op) flat_one x) ≡ ops
    → roll-Instr x ≡ i
    → ((more : List Op) → tree (ops ++ more) ≡ i ∷ tree more) → P (roll-Instr x)
given x i ops e r t more =
    ap (λ l. tree (l ++ more)) (listed x ∙ e) ∙ t more ∙ ap (λ j. j ∷ tree more) (sym r)

front : (o : Op) (i : Instr) → ((rest : List Op) → head tree o rest ∷ tree (behind o rest) ≡ i ∷ tree rest)
    → (more : List Op) → tree (o ∷ more) ≡ i ∷ tree more
front o i h more = tree_front o more ∙ h more

stepped : (y : Instr-F S) → P (roll-Instr (bare y))
stepped layer.Unreachable = given layer.Unreachable instr.Unreachable (op.Unreachable ∷ []) refl rolls-Unreachable
    (front op.Unreachable instr.Unreachable (λ rest. refl))
stepped (layer.Block t ss) =
    let is = map (λ e. e.0) ss in
    given (layer.Block t is) (instr.Block t is) (op.Block t (length (flat is)) ∷ flat is)
    (ap (λ r. op.Block t (length r) ∷ r) (joined_is is)) (rolls-Block t is)
    (λ more. tree_block t (flat is) more ∙ ap (λ r. instr.Block t r ∷ tree more) (whole ss))
stepped (layer.Loop t ss) =
    let is = map (λ e. e.0) ss in
    given (layer.Loop t is) (instr.Loop t is) (op.Loop t (length (flat is)) ∷ flat is)
    (ap (λ r. op.Loop t (length r) ∷ r) (joined_is is)) (rolls-Loop t is)
    (λ more. tree_loop t (flat is) more ∙ ap (λ r. instr.Loop t r ∷ tree more) (whole ss))
stepped (layer.If t ss None) =
    let is = map (λ e. e.0) ss in
    given (layer.If t is None) (instr.If t is None) (op.If t (length (flat is)) ∷ flat is)
    (ap (λ r. op.If t (length r) ∷ r) (joined_is is)) (rolls-If t is None)
    (λ more. tree_if t (flat is) more ∙ ap (λ r. instr.If t r None ∷ tree more) (whole ss))
stepped (layer.If t ss (Some rs)) =
    let is = map (λ e. e.0) ss in
    let js = map (λ e. e.0) rs in
    given (layer.If t is (Some js)) (instr.If t is (Some js))
    (op.IfElse t (length (flat is)) (length (flat js)) ∷ (flat is ++ flat js))
    (ap (λ r. op.IfElse t (length r) (length (join_ops (map flat_one js))) ∷ (r ++ join_ops (map flat_one js)))
    (joined_is is) ∙ ap (λ r. op.IfElse t (length (flat is)) (length r) ∷ (flat is ++ r)) (joined_is js))
    (rolls-If t is (Some js))
    (λ more. ap (λ r. tree (op.IfElse t (length (flat is)) (length (flat js)) ∷ r)) (assoc (flat is) (flat js) more)
    ∙ tree_if_else t (flat is) (flat js) more
    ∙ ap (λ r. instr.If t r (Some (tree (flat js))) ∷ tree more) (whole ss)
    ∙ ap (λ r. instr.If t is (Some r) ∷ tree more) (whole rs))
stepped (layer.Br l) = given (layer.Br l) (instr.Br l) (op.Br l ∷ []) refl (rolls-Br l)
    (front (op.Br l) (instr.Br l) (λ rest. refl))
stepped (layer.BrIf l) = given (layer.BrIf l) (instr.BrIf l) (op.BrIf l ∷ []) refl (rolls-BrIf l)
    (front (op.BrIf l) (instr.BrIf l) (λ rest. refl))
stepped (layer.BrTable ls l) = given (layer.BrTable ls l) (instr.BrTable ls l)
    (op.BrTable (length ls) l ∷ map (λ l. op.Br l) ls) refl (rolls-BrTable ls l) (tree_table ls l)
stepped layer.Return = given layer.Return instr.Return (op.Return ∷ []) refl rolls-Return
    (front op.Return instr.Return (λ rest. refl))
stepped (layer.Call f) = given (layer.Call f) (instr.Call f) (op.Call f ∷ []) refl (rolls-Call f)
    (front (op.Call f) (instr.Call f) (λ rest. refl))
stepped (layer.CallIndirect f) = given (layer.CallIndirect f) (instr.CallIndirect f) (op.CallIndirect f ∷ []) refl
    (rolls-CallIndirect f) (front (op.CallIndirect f) (instr.CallIndirect f) (λ rest. refl))
stepped layer.Drop = given layer.Drop instr.Drop (op.Drop ∷ []) refl rolls-Drop
    (front op.Drop instr.Drop (λ rest. refl))
stepped (layer.LocalGet x) = given (layer.LocalGet x) (instr.LocalGet x) (op.LocalGet x ∷ []) refl (rolls-LocalGet x)
    (front (op.LocalGet x) (instr.LocalGet x) (λ rest. refl))
stepped (layer.LocalSet x) = given (layer.LocalSet x) (instr.LocalSet x) (op.LocalSet x ∷ []) refl (rolls-LocalSet x)
    (front (op.LocalSet x) (instr.LocalSet x) (λ rest. refl))
stepped (layer.LocalTee x) = given (layer.LocalTee x) (instr.LocalTee x) (op.LocalTee x ∷ []) refl (rolls-LocalTee x)
    (front (op.LocalTee x) (instr.LocalTee x) (λ rest. refl))
stepped (layer.GlobalGet x) = given (layer.GlobalGet x) (instr.GlobalGet x) (op.GlobalGet x ∷ []) refl
    (rolls-GlobalGet x) (front (op.GlobalGet x) (instr.GlobalGet x) (λ rest. refl))
stepped (layer.Load l) = given (layer.Load l) (instr.Load l) (op.Load l ∷ []) refl (rolls-Load l)
    (front (op.Load l) (instr.Load l) (λ rest. refl))
stepped (layer.Store w) = given (layer.Store w) (instr.Store w) (op.Store w ∷ []) refl (rolls-Store w)
    (front (op.Store w) (instr.Store w) (λ rest. refl))
stepped (layer.I32Const n) = given (layer.I32Const n) (instr.I32Const n) (op.I32Const n ∷ []) refl (rolls-I32Const n)
    (front (op.I32Const n) (instr.I32Const n) (λ rest. refl))
stepped (layer.I64Const n) = given (layer.I64Const n) (instr.I64Const n) (op.I64Const n ∷ []) refl (rolls-I64Const n)
    (front (op.I64Const n) (instr.I64Const n) (λ rest. refl))
stepped (layer.Numeric n) = given (layer.Numeric n) (instr.Numeric n) (op.Numeric n ∷ []) refl (rolls-Numeric n)
    (front (op.Numeric n) (instr.Numeric n) (λ rest. refl))

-- the list of an instruction, with others behind it
pub tree_one : (i : Instr) → P i
tree_one = ind-Instr P (λ x y e. subst (λ (w : Instr-F Instr). P (roll-Instr w)) e (stepped y))

-- the list of trees has those trees
pub tree_flat : (is : List Instr) → tree (flat is) ≡ is
tree_flat [] = tree_none
tree_flat (i ∷ is) = tree_one i (flat is) ∙ ap (λ r. i ∷ r) (tree_flat is)
