-- Operations, as they are written.
use Rattle.std.proofs.Common.{◌≡◌, ℕ, suc, ◌≤◌, List, [], ◌∷◌, ◌++◌, length, map, take, refl, sym, ap, ◌∙◌, append_assoc, arith}
use Rattle.std.specs.List.{flat_map}
use Rattle.std.proofs.lemmas.List.{take_all, append-nil}
use Rattle.wasm_tree.specs.declared.code.Op.{Op}
use Rattle.wasm_tree.specs.declared.instr.Instr.{Instr}
use Rattle.wasm_tree.specs.Code.{tree, head, behind, label_of}
use Rattle.wasm_tree.proofs.Flat.{tree_front, tree_none, behind_le}
use Rattle.wasm_code.specs.Number.{unsigned}
use Rattle.wasm_code.specs.Parts.{vector}
use Rattle.wasm_code.specs.Instructions.{instr_encoding}
use Rattle.wasm_code.specs.ScratchStack.{label_encoding}

-- ---- a table of labels

many_labels : (ls : List Op) → length (map label_of ls) ≡ length ls
many_labels [] = refl
many_labels (o ∷ ls) = ap suc (many_labels ls)

each_label : (ls : List Op) → flat_map unsigned.encoding (map label_of ls) ≡ flat_map label_encoding ls
each_label [] = refl
each_label (o ∷ ls) = ap (λ (r : List ℕ). label_encoding o ++ r) (each_label ls)

pub labels_written : (out old : List ℕ) (ls : List Op) (k : ℕ) → length ls ≤ k
    → out ≡ old ++ (unsigned.encoding (length ls) ++ flat_map label_encoding (take k ls))
    → out ≡ old ++ (vector unsigned).encoding (map label_of ls)
labels_written out old ls k h e =
    e ∙ ap (λ (r : List Op). old ++ (unsigned.encoding (length ls) ++ flat_map label_encoding r)) (take_all k ls h)
    ∙ ap (λ (r : List ℕ). old ++ (unsigned.encoding (length ls) ++ r)) (sym (each_label ls))
    ∙ ap (λ (n : ℕ). old ++ (unsigned.encoding n ++ flat_map unsigned.encoding (map label_of ls)))
    (sym (many_labels ls))

-- ---- a sequence

abbrev encoded : List Op → List ℕ
encoded ops = flat_map instr_encoding (tree ops)

-- one more instruction was appended, and what is left stands behind it
pub one_written : (out new all : List ℕ) (o : Op) (left rest behind_it : List Op)
    → new ≡ out ++ instr_encoding (head tree o rest) → left ≡ o ∷ rest → behind_it ≡ behind o rest
    → out ++ encoded left ≡ all → new ++ encoded behind_it ≡ all
one_written out new all o left rest behind_it e f g so_far =
    ap (λ (w : List ℕ). w ++ encoded behind_it) e
    ∙ append_assoc out (instr_encoding (head tree o rest)) (encoded behind_it)
    ∙ ap (λ (ops : List Op). out ++ (instr_encoding (head tree o rest) ++ encoded ops)) g
    ∙ sym (ap (λ (is : List Instr). out ++ flat_map instr_encoding is) (ap tree f ∙ tree_front o rest))
    ∙ so_far

-- nothing is left
pub all_written : (out all : List ℕ) (left : List Op) → left ≡ [] → out ++ encoded left ≡ all → out ≡ all
all_written out all left f so_far =
    sym (append-nil out) ∙ sym (ap (λ (is : List Instr). out ++ flat_map instr_encoding is) (ap tree f ∙ tree_none))
    ∙ so_far

pub no_longer : (n : ℕ) (o : Op) (left rest behind_it : List Op) → left ≡ o ∷ rest → behind_it ≡ behind o rest
    → length left ≤ n → length behind_it ≤ n
no_longer n o left rest behind_it f g h =
    let l : length left ≡ suc (length rest) = ap length f in
    rw g (behind_le n o rest (omega (arith, l, h)))
