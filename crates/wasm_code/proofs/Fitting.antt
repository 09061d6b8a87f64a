-- Which instructions fit.
use Rattle.std.proofs.Common.{◌≡◌, ℕ, zero, suc, length, nat_lt, ◌^◌, sym, Bool, true, false, ◌&&◌, List, [], ◌∷◌, Option, Some, None, refl, ap, ◌∙◌}
use Rattle.std.specs.Prelude.{map}
use Rattle.std.specs.List.{list_all}
use Rattle.wasm_tree.specs.declared.kinds.ValueType.{ValueType}
use Rattle.wasm_tree.specs.declared.instr.Load as load
use Rattle.wasm_tree.specs.declared.instr.StoreWidth.{StoreWidth}
use Rattle.wasm_tree.specs.declared.instr.Numeric as numeric
use Rattle.wasm_tree.specs.declared.instr.Instr.{Instr, Instr-F, out-Instr, map-Instr, fold_out-Instr}
use Rattle.wasm_tree.specs.declared.instr.Instr.TheOpen as layer
use Rattle.wasm_tree.specs.declared.instr.Instr.TheVariants.{Unreachable, Block, Loop, If, Br, BrIf, BrTable, Return, Call, CallIndirect, Drop, LocalGet, LocalSet, LocalTee, GlobalGet, Load, Store, I32Const, I64Const, Numeric}
use Rattle.wasm_tree.specs.declared.instr.Instr.TheVariants.{outs-Unreachable, outs-Block, outs-Loop, outs-If, outs-Br, outs-BrIf, outs-BrTable, outs-Return, outs-Call, outs-CallIndirect, outs-Drop, outs-LocalGet, outs-LocalSet, outs-LocalTee, outs-GlobalGet, outs-Load, outs-Store, outs-I32Const, outs-I64Const, outs-Numeric}
use Rattle.wasm_code.specs.Number.{unsigned, signed32, signed64}
use Rattle.wasm_code.specs.Parts.{vector}
use Rattle.wasm_code.specs.Instructions.{fits_step, instr_fits, code_within}
use Rattle.wasm_code.specs.Inside.{fits_inside}
use Rattle.wasm_tree.specs.declared.code.Op.{Op}
use Rattle.wasm_tree.specs.Code.{tree, head, behind, label_of}
use Rattle.wasm_tree.proofs.Flat.{tree_front, tree_none}

at : (i : Instr) (x : Instr-F Instr) (levels : ℕ) → out-Instr i ≡ x
    → instr_fits i levels ≡ fits_step (map-Instr Instr (ℕ → Bool) instr_fits x) levels
unfolding instr_fits
at i x levels e = ap (λ (f : ℕ → Bool). f levels) (fold_out-Instr (ℕ → Bool) fits_step i)
    ∙ ap (λ (y : Instr-F Instr). fits_step (map-Instr Instr (ℕ → Bool) instr_fits y) levels) e

-- each of them fits
abbrev pub all_fit : (levels : ℕ) → List Instr → Bool
all_fit levels is = list_all (λ i. instr_fits i levels) is

joined : (levels : ℕ) (is : List Instr) → list_all (λ (f : ℕ → Bool). f levels) (map instr_fits is) ≡ all_fit levels is
joined levels [] = refl
joined levels (i ∷ is) = ap (λ (r : Bool). instr_fits i levels && r) (joined levels is)

pub fits-Block : (t : Option ValueType) (is : List Instr) (levels : ℕ)
    → instr_fits (Block t is) (suc levels) ≡ all_fit levels is
fits-Block t is levels = at (Block t is) (layer.Block t is) (suc levels) (outs-Block t is) ∙ joined levels is

pub none-Block : (t : Option ValueType) (is : List Instr) → instr_fits (Block t is) 0 ≡ false
none-Block t is = at (Block t is) (layer.Block t is) 0 (outs-Block t is)

pub fits-Loop : (t : Option ValueType) (is : List Instr) (levels : ℕ)
    → instr_fits (Loop t is) (suc levels) ≡ all_fit levels is
fits-Loop t is levels = at (Loop t is) (layer.Loop t is) (suc levels) (outs-Loop t is) ∙ joined levels is

pub none-Loop : (t : Option ValueType) (is : List Instr) → instr_fits (Loop t is) 0 ≡ false
none-Loop t is = at (Loop t is) (layer.Loop t is) 0 (outs-Loop t is)

pub fits-If-None : (t : Option ValueType) (is : List Instr) (levels : ℕ)
    → instr_fits (If t is None) (suc levels) ≡ all_fit levels is
fits-If-None t is levels = at (If t is None) (layer.If t is None) (suc levels) (outs-If t is None) ∙ joined levels is

pub fits-If-Some : (t : Option ValueType) (is others : List Instr) (levels : ℕ)
    → instr_fits (If t is (Some others)) (suc levels) ≡ (all_fit levels is && all_fit levels others)
fits-If-Some t is others levels =
    at (If t is (Some others)) (layer.If t is (Some others)) (suc levels) (outs-If t is (Some others))
    ∙ ap (λ (r : Bool). r && list_all (λ (f : ℕ → Bool). f levels) (map instr_fits others)) (joined levels is)
    ∙ ap (λ (r : Bool). all_fit levels is && r) (joined levels others)

pub none-If : (t : Option ValueType) (is : List Instr) (o : Option (List Instr)) → instr_fits (If t is o) 0 ≡ false
none-If t is o = at (If t is o) (layer.If t is o) 0 (outs-If t is o)

pub fits-Unreachable : (levels : ℕ) → instr_fits Unreachable levels ≡ true
fits-Unreachable levels = at Unreachable layer.Unreachable levels outs-Unreachable

pub fits-Br : (l : ℕ) (levels : ℕ) → instr_fits (Br l) levels ≡ unsigned.fits l
fits-Br l levels = at (Br l) (layer.Br l) levels (outs-Br l)

pub fits-BrIf : (l : ℕ) (levels : ℕ) → instr_fits (BrIf l) levels ≡ unsigned.fits l
fits-BrIf l levels = at (BrIf l) (layer.BrIf l) levels (outs-BrIf l)

pub fits-BrTable : (ls : List ℕ) (l : ℕ) (levels : ℕ)
    → instr_fits (BrTable ls l) levels ≡ ((vector unsigned).fits ls && unsigned.fits l)
fits-BrTable ls l levels = at (BrTable ls l) (layer.BrTable ls l) levels (outs-BrTable ls l)

pub fits-Return : (levels : ℕ) → instr_fits Return levels ≡ true
fits-Return levels = at Return layer.Return levels outs-Return

pub fits-Call : (f : ℕ) (levels : ℕ) → instr_fits (Call f) levels ≡ unsigned.fits f
fits-Call f levels = at (Call f) (layer.Call f) levels (outs-Call f)

pub fits-CallIndirect : (t : ℕ) (levels : ℕ) → instr_fits (CallIndirect t) levels ≡ unsigned.fits t
fits-CallIndirect t levels = at (CallIndirect t) (layer.CallIndirect t) levels (outs-CallIndirect t)

pub fits-Drop : (levels : ℕ) → instr_fits Drop levels ≡ true
fits-Drop levels = at Drop layer.Drop levels outs-Drop

pub fits-LocalGet : (x : ℕ) (levels : ℕ) → instr_fits (LocalGet x) levels ≡ unsigned.fits x
fits-LocalGet x levels = at (LocalGet x) (layer.LocalGet x) levels (outs-LocalGet x)

pub fits-LocalSet : (x : ℕ) (levels : ℕ) → instr_fits (LocalSet x) levels ≡ unsigned.fits x
fits-LocalSet x levels = at (LocalSet x) (layer.LocalSet x) levels (outs-LocalSet x)

pub fits-LocalTee : (x : ℕ) (levels : ℕ) → instr_fits (LocalTee x) levels ≡ unsigned.fits x
fits-LocalTee x levels = at (LocalTee x) (layer.LocalTee x) levels (outs-LocalTee x)

pub fits-GlobalGet : (x : ℕ) (levels : ℕ) → instr_fits (GlobalGet x) levels ≡ unsigned.fits x
fits-GlobalGet x levels = at (GlobalGet x) (layer.GlobalGet x) levels (outs-GlobalGet x)

pub fits-Load : (l : load.Load) (levels : ℕ) → instr_fits (Load l) levels ≡ true
fits-Load l levels = at (Load l) (layer.Load l) levels (outs-Load l)

pub fits-Store : (w : StoreWidth) (levels : ℕ) → instr_fits (Store w) levels ≡ true
fits-Store w levels = at (Store w) (layer.Store w) levels (outs-Store w)

pub fits-I32Const : (n : ℕ) (levels : ℕ) → instr_fits (I32Const n) levels ≡ signed32.fits n
fits-I32Const n levels = at (I32Const n) (layer.I32Const n) levels (outs-I32Const n)

pub fits-I64Const : (n : ℕ) (levels : ℕ) → instr_fits (I64Const n) levels ≡ signed64.fits n
fits-I64Const n levels = at (I64Const n) (layer.I64Const n) levels (outs-I64Const n)

pub fits-Numeric : (n : numeric.Numeric) (levels : ℕ) → instr_fits (Numeric n) levels ≡ true
fits-Numeric n levels = at (Numeric n) (layer.Numeric n) levels (outs-Numeric n)

-- ---- code inside, and code in a row

pub inside-Block : (t : Option ValueType) (is : List Instr) (levels : ℕ)
    → instr_fits (Block t is) levels ≡ fits_inside levels is
inside-Block t is zero = none-Block t is
inside-Block t is (suc levels) = fits-Block t is levels

pub inside-Loop : (t : Option ValueType) (is : List Instr) (levels : ℕ)
    → instr_fits (Loop t is) levels ≡ fits_inside levels is
inside-Loop t is zero = none-Loop t is
inside-Loop t is (suc levels) = fits-Loop t is levels

pub inside-If-None : (t : Option ValueType) (is : List Instr) (levels : ℕ)
    → instr_fits (If t is None) levels ≡ fits_inside levels is
inside-If-None t is zero = none-If t is None
inside-If-None t is (suc levels) = fits-If-None t is levels

pub inside-If-Some : (t : Option ValueType) (is others : List Instr) (levels : ℕ)
    → instr_fits (If t is (Some others)) levels ≡ (fits_inside levels is && fits_inside levels others)
inside-If-Some t is others zero = none-If t is (Some others)
inside-If-Some t is others (suc levels) = fits-If-Some t is others levels

abbrev within : (levels : ℕ) → List Op → Bool
within levels ops = (code_within levels).fits (tree ops)

-- an instruction that fits is followed by what has to fit
pub one_fits : (levels : ℕ) (all : Bool) (o : Op) (left rest behind_it : List Op)
    → instr_fits (head tree o rest) levels ≡ true → left ≡ o ∷ rest → behind_it ≡ behind o rest
    → within levels left ≡ all → within levels behind_it ≡ all
one_fits levels all o left rest behind_it fits f g so_far =
    ap (within levels) g
    ∙ sym (ap (λ (b : Bool). b && within levels (behind o rest)) fits)
    ∙ sym (ap (λ (is : List Instr). (code_within levels).fits is) (ap tree f ∙ tree_front o rest))
    ∙ so_far

-- where one does not fit, all do not
pub one_fails : (levels : ℕ) (all : Bool) (o : Op) (left rest : List Op) → instr_fits (head tree o rest) levels ≡ false
    → left ≡ o ∷ rest
    → within levels left ≡ all → false ≡ all
one_fails levels all o left rest fails f so_far =
    sym (ap (λ (b : Bool). b && within levels (behind o rest)) fails)
    ∙ sym (ap (λ (is : List Instr). (code_within levels).fits is) (ap tree f ∙ tree_front o rest))
    ∙ so_far

pub none_left : (levels : ℕ) (all : Bool) (left : List Op) → left ≡ [] → within levels left ≡ all → true ≡ all
none_left levels all left f so_far = sym
    (ap (λ (is : List Instr). (code_within levels).fits is) (ap tree f ∙ tree_none)) ∙ so_far

-- ---- tables of labels

many_labels : (ls : List Op) → length (map label_of ls) ≡ length ls
many_labels [] = refl
many_labels (o ∷ ls) = ap suc (many_labels ls)

each_label : (ls : List Op) → list_all unsigned.fits (map label_of ls) ≡ list_all (λ l. unsigned.fits (label_of l)) ls
each_label [] = refl
each_label (o ∷ ls) = ap (λ (b : Bool). unsigned.fits (label_of o) && b) (each_label ls)

pub labels_fit : (ls : List Op) → (vector unsigned).fits (map label_of ls)
    ≡ (nat_lt (length ls) (2 ^ 32) && list_all (λ l. unsigned.fits (label_of l)) ls)
labels_fit ls =
    ap (λ (n : ℕ). nat_lt n (2 ^ 32) && list_all unsigned.fits (map label_of ls)) (many_labels ls)
    ∙ ap (λ (b : Bool). nat_lt (length ls) (2 ^ 32) && b) (each_label ls)
