-- The text of each instruction, and of code that is put row by row.
use Rattle.std.proofs.Common.{◌≡◌, ℕ, suc, ◌≤◌, List, [], ◌∷◌, ◌++◌, Option, Some, None, length, codes, map, refl, sym, ap, subst, ◌∙◌, arith}
use Rattle.std.specs.List.{flat_map}
use Rattle.wasm_tree.specs.declared.kinds.ValueType.{ValueType}
use Rattle.wasm_tree.specs.declared.code.Op.{Op}
use Rattle.wasm_tree.specs.declared.code.Op.TheVariants as op
use Rattle.wasm_tree.specs.declared.instr.Load as load
use Rattle.wasm_tree.specs.declared.instr.StoreWidth.{StoreWidth}
use Rattle.wasm_tree.specs.declared.instr.Numeric as numeric
use Rattle.wasm_tree.specs.declared.instr.Instr.{Instr, Instr-F, out-Instr, map-Instr, fold_out-Instr}
use Rattle.wasm_tree.specs.declared.instr.Instr.TheOpen as layer
use Rattle.wasm_tree.specs.declared.instr.Instr.TheVariants.{Unreachable, Block, Loop, If, Br, BrIf, BrTable, Return, Call, CallIndirect, Drop, LocalGet, LocalSet, LocalTee, GlobalGet, Load, Store, I32Const, I64Const, Numeric}
use Rattle.wasm_tree.specs.declared.instr.Instr.TheVariants.{outs-Unreachable, outs-Block, outs-Loop, outs-If, outs-Br, outs-BrIf, outs-BrTable, outs-Return, outs-Call, outs-CallIndirect, outs-Drop, outs-LocalGet, outs-LocalSet, outs-LocalTee, outs-GlobalGet, outs-Load, outs-Store, outs-I32Const, outs-I64Const, outs-Numeric}
use Rattle.wasm_tree.specs.Code.{tree, head, behind, label_of}
use Rattle.wasm_tree.proofs.Flat.{tree_front, tree_none, behind_le}
use Rattle.show_code.specs.declared.page.Page.{Page}
use Rattle.show_code.specs.Pages.{Puts, deeper, row}
use Rattle.show_code.specs.Instructions.{callee_text, code_text, instr_text, label_text, load_word, numbered_row, numeric_text, opened_text, store_word, targets_text, text_step, texts_at}
use Rattle.show_code.proofs.Joined.{Leads, goes_on, is_done}

at : (level : ℕ) (i : Instr) (x : Instr-F Instr) → out-Instr i ≡ x
    → instr_text i level ≡ text_step (map-Instr Instr (ℕ → List ℕ) instr_text x) level
unfolding instr_text
at level i x e = ap (λ (f : ℕ → List ℕ). f level) (fold_out-Instr (ℕ → List ℕ) text_step i)
    ∙ ap (λ (y : Instr-F Instr). text_step (map-Instr Instr (ℕ → List ℕ) instr_text y) level) e

joined : (level : ℕ) (is : List Instr) → texts_at level (map instr_text is) ≡ code_text level is
joined level [] = refl
joined level (i ∷ is) = ap (λ (r : List ℕ). instr_text i level ++ r) (joined level is)

pub text-Block : (level : ℕ) (t : Option ValueType) (is : List Instr)
    → instr_text (Block t is) level ≡ opened_text level (codes "block") t (code_text (deeper level) is)
    ++ row level (codes "end")
text-Block level t is = at level (Block t is) (layer.Block t is) (outs-Block t is)
    ∙ ap (λ (r : List ℕ). opened_text level (codes "block") t r ++ row level (codes "end")) (joined (deeper level) is)

pub text-Loop : (level : ℕ) (t : Option ValueType) (is : List Instr)
    → instr_text (Loop t is) level ≡ opened_text level (codes "loop") t (code_text (deeper level) is)
    ++ row level (codes "end")
text-Loop level t is = at level (Loop t is) (layer.Loop t is) (outs-Loop t is)
    ∙ ap (λ (r : List ℕ). opened_text level (codes "loop") t r ++ row level (codes "end")) (joined (deeper level) is)

pub text-If-None : (level : ℕ) (t : Option ValueType) (is : List Instr)
    → instr_text (If t is None) level ≡ opened_text level (codes "if") t (code_text (deeper level) is)
    ++ row level (codes "end")
text-If-None level t is = at level (If t is None) (layer.If t is None) (outs-If t is None)
    ∙ ap (λ (r : List ℕ). opened_text level (codes "if") t r ++ row level (codes "end")) (joined (deeper level) is)

pub text-If-Some : (level : ℕ) (t : Option ValueType) (is others : List Instr)
    → instr_text (If t is (Some others)) level ≡ opened_text level (codes "if") t (code_text (deeper level) is)
    ++ (row level (codes "else") ++ (code_text (deeper level) others ++ row level (codes "end")))
text-If-Some level t is others =
    at level (If t is (Some others)) (layer.If t is (Some others)) (outs-If t is (Some others))
    ∙ ap (λ (r : List ℕ). opened_text level (codes "if") t r
    ++ (row level (codes "else") ++ (texts_at (deeper level) (map instr_text others) ++ row level (codes "end"))))
    (joined (deeper level) is)
    ∙ ap (λ (r : List ℕ). opened_text level (codes "if") t (code_text (deeper level) is)
    ++ (row level (codes "else") ++ (r ++ row level (codes "end")))) (joined (deeper level) others)

pub text-Unreachable : (level : ℕ) → instr_text Unreachable level ≡ row level (codes "unreachable")
text-Unreachable level = at level Unreachable layer.Unreachable outs-Unreachable

pub text-Return : (level : ℕ) → instr_text Return level ≡ row level (codes "return")
text-Return level = at level Return layer.Return outs-Return

pub text-Drop : (level : ℕ) → instr_text Drop level ≡ row level (codes "drop")
text-Drop level = at level Drop layer.Drop outs-Drop

pub text-Br : (level l : ℕ) → instr_text (Br l) level ≡ numbered_row level (codes "br ") l
text-Br level l = at level (Br l) (layer.Br l) (outs-Br l)

pub text-BrIf : (level l : ℕ) → instr_text (BrIf l) level ≡ numbered_row level (codes "br_if ") l
text-BrIf level l = at level (BrIf l) (layer.BrIf l) (outs-BrIf l)

pub text-Call : (level f : ℕ) → instr_text (Call f) level ≡ numbered_row level (codes "call ") f
text-Call level f = at level (Call f) (layer.Call f) (outs-Call f)

pub text-LocalGet : (level x : ℕ) → instr_text (LocalGet x) level ≡ numbered_row level (codes "local.get ") x
text-LocalGet level x = at level (LocalGet x) (layer.LocalGet x) (outs-LocalGet x)

pub text-LocalSet : (level x : ℕ) → instr_text (LocalSet x) level ≡ numbered_row level (codes "local.set ") x
text-LocalSet level x = at level (LocalSet x) (layer.LocalSet x) (outs-LocalSet x)

pub text-LocalTee : (level x : ℕ) → instr_text (LocalTee x) level ≡ numbered_row level (codes "local.tee ") x
text-LocalTee level x = at level (LocalTee x) (layer.LocalTee x) (outs-LocalTee x)

pub text-GlobalGet : (level x : ℕ) → instr_text (GlobalGet x) level ≡ numbered_row level (codes "global.get ") x
text-GlobalGet level x = at level (GlobalGet x) (layer.GlobalGet x) (outs-GlobalGet x)

pub text-I32Const : (level n : ℕ) → instr_text (I32Const n) level ≡ numbered_row level (codes "i32.const ") n
text-I32Const level n = at level (I32Const n) (layer.I32Const n) (outs-I32Const n)

pub text-I64Const : (level n : ℕ) → instr_text (I64Const n) level ≡ numbered_row level (codes "i64.const ") n
text-I64Const level n = at level (I64Const n) (layer.I64Const n) (outs-I64Const n)

pub text-BrTable : (level : ℕ) (ls : List ℕ) (l : ℕ) → instr_text (BrTable ls l) level ≡ row level (targets_text ls l)
text-BrTable level ls l = at level (BrTable ls l) (layer.BrTable ls l) (outs-BrTable ls l)

pub text-CallIndirect : (level t : ℕ) → instr_text (CallIndirect t) level ≡ row level (callee_text t)
text-CallIndirect level t = at level (CallIndirect t) (layer.CallIndirect t) (outs-CallIndirect t)

pub text-Load : (level : ℕ) (l : load.Load) → instr_text (Load l) level ≡ row level (load_word l)
text-Load level l = at level (Load l) (layer.Load l) (outs-Load l)

pub text-Store : (level : ℕ) (w : StoreWidth) → instr_text (Store w) level ≡ row level (store_word w)
text-Store level w = at level (Store w) (layer.Store w) (outs-Store w)

pub text-Numeric : (level : ℕ) (n : numeric.Numeric) → instr_text (Numeric n) level ≡ numeric_text level n
text-Numeric level n = at level (Numeric n) (layer.Numeric n) (outs-Numeric n)

pub put-GlobalGet : (old new : Page) (o : Op) (rest : List Op) (level n x : ℕ) → o ≡ op.GlobalGet x → n ≡ x
    → Puts old new (numbered_row level (codes "global.get ") n)
    → Puts old new (instr_text (head tree o rest) level)
put-GlobalGet old new o rest level n x e f h =
    subst (λ (i : Op). Puts old new (instr_text (head tree i rest) level)) (sym e)
    (subst (λ (t : List ℕ). Puts old new t)
    (ap (λ (k : ℕ). numbered_row level (codes "global.get ") k) f ∙ sym (text-GlobalGet level x)) h)

-- ---- a table of labels

pub each_label : (ls : List Op) → flat_map label_text (map label_of ls) ≡ flat_map (λ o. label_text (label_of o)) ls
each_label [] = refl
each_label (o ∷ ls) = ap (λ (r : List ℕ). label_text (label_of o) ++ r) (each_label ls)

-- ---- a sequence

abbrev coded : (level : ℕ) → List Op → List ℕ
coded level ops = code_text level (tree ops)

-- one more instruction was put, and what is left stands behind it
pub one_put : (level : ℕ) (old so_far new : Page) (all : List ℕ) (o : Op) (left rest behind_it : List Op)
    → Puts so_far new (instr_text (head tree o rest) level) → left ≡ o ∷ rest → behind_it ≡ behind o rest
    → Leads old so_far (coded level left) all → Leads old new (coded level behind_it) all
one_put level old so_far new all o left rest behind_it h f g leads =
    goes_on old so_far new (instr_text (head tree o rest) level) (coded level left) (coded level behind_it) all
    (ap (λ (is : List Instr). code_text level is) (ap tree f ∙ tree_front o rest)
    ∙ sym (ap (λ (ops : List Op). instr_text (head tree o rest) level ++ coded level ops) g)) h leads

-- nothing is left
pub all_put : (level : ℕ) (old so_far : Page) (all : List ℕ) (left : List Op) → left ≡ []
    → Leads old so_far (coded level left) all → Puts old so_far all
all_put level old so_far all left f leads =
    is_done old so_far (coded level left) all
    (ap (λ (is : List Instr). code_text level is) (ap tree f ∙ tree_none)) leads

pub no_longer : (n : ℕ) (o : Op) (left rest behind_it : List Op) → left ≡ o ∷ rest → behind_it ≡ behind o rest
    → length left ≤ n → length behind_it ≤ n
no_longer n o left rest behind_it f g h =
    let l : length left ≡ suc (length rest) = ap length f in
    rw g (behind_le n o rest (omega (arith, l, h)))
