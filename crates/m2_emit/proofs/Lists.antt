-- Lists that are made one element after another, and their code.
use Rattle.std.proofs.Common.{◌≡◌, ℕ, suc, zero, ◌+◌, List, [], ◌∷◌, ◌++◌, map, refl, ap, ◌∙◌, sym, add-one, arith}
use Rattle.std.specs.List.{range_with_len}
use Rattle.std.proofs.lemmas.List.{map-append}
use Rattle.wasm_tree.specs.declared.code.Op.{Op}
use Rattle.wasm_tree.specs.declared.code.Op.TheVariants as op
use Rattle.wasm_tree.specs.declared.instr.Instr.{Instr}
use Rattle.wasm_tree.specs.declared.instr.Instr.TheVariants as instr
use Rattle.wasm_tree.specs.declared.kinds.ValueType.TheVariants.{I64}
use Rattle.wasm_tree.specs.Code.{tree, flat}
use Rattle.wasm_tree.proofs.Flat.{tree_front, tree_none}
use Rattle.emit_buffer.specs.Cut.{cut, cut_op, cut_code}
use Rattle.emit_buffer.proofs.Plain.{single_flat}
use Rattle.def_scheme.specs.Signatures.{so_many}
use Rattle.def_scheme.specs.Modules.{Part, calls_from, data_of}

-- an instruction that holds no others
alone : (o : Op) (i : Instr) → tree (o ∷ []) ≡ i ∷ tree [] → tree (o ∷ []) ≡ i ∷ []
alone o i e = e ∙ ap (λ is. i ∷ is) tree_none

pub one_number : (n : ℕ) → tree (op.I32Const n ∷ []) ≡ instr.I32Const n ∷ []
one_number n = alone (op.I32Const n) (instr.I32Const n) (tree_front (op.I32Const n) [])

pub one_global : (x : ℕ) → tree (op.GlobalGet x ∷ []) ≡ instr.GlobalGet x ∷ []
one_global x = alone (op.GlobalGet x) (instr.GlobalGet x) (tree_front (op.GlobalGet x) [])

-- the operations that call bodies
abbrev pub call_ops : (stack global : ℕ) → List Part → List Op
call_ops stack global [] = []
call_ops stack global (m ∷ ms) = op.I32Const stack ∷ op.GlobalGet global ∷ op.CallIndirect 1
    ∷ call_ops stack (global + 3) ms

calls_flat : (stack global : ℕ) (ms : List Part) → flat (calls_from stack global ms) ≡ call_ops stack global ms
calls_flat stack global [] = refl
calls_flat stack global (m ∷ ms) =
    ap (λ (ops : List Op). ops ++ flat (instr.GlobalGet global ∷ instr.CallIndirect 1
    ∷ calls_from stack (global + 3) ms)) (single_flat (op.I32Const stack) refl)
    ∙ ap (λ (ops : List Op). op.I32Const stack
    ∷ (ops ++ flat (instr.CallIndirect 1 ∷ calls_from stack (global + 3) ms)))
    (single_flat (op.GlobalGet global) refl)
    ∙ ap (λ (ops : List Op). op.I32Const stack ∷ op.GlobalGet global ∷ (ops ++ flat (calls_from stack (global + 3) ms)))
    (single_flat (op.CallIndirect 1) refl)
    ∙ ap (λ (ops : List Op). op.I32Const stack ∷ op.GlobalGet global ∷ op.CallIndirect 1 ∷ ops)
    (calls_flat stack (global + 3) ms)

pub calls : (stack global : ℕ) (ms : List Part)
    → tree (map cut_op (call_ops stack global ms)) ≡ cut_code (calls_from stack global ms)
calls stack global ms = ap (λ (ops : List Op). tree (map cut_op ops)) (sym (calls_flat stack global ms))

-- one more number of 64 bits
more : (n : ℕ) → so_many n ++ I64 ∷ [] ≡ so_many (suc n)
more zero = refl
more (suc n) = ap (λ ts. I64 ∷ ts) (more n)

pub one_more : (n : ℕ) → so_many n ++ I64 ∷ [] ≡ so_many (n + 1)
one_more n = more n ∙ ap so_many (sym (add-one n))

-- one more index
bare : (a n : ℕ) → range_with_len a n ++ (a + n) ∷ [] ≡ range_with_len a (suc n)
bare a zero = let e : a + 0 ≡ a = omega arith in ap (λ (k : ℕ). k ∷ []) e
bare a (suc n) =
    let e : a + suc n ≡ (a + 1) + n = omega arith in
    ap (λ (k : ℕ). a ∷ (range_with_len (a + 1) n ++ k ∷ [])) e ∙ ap (λ (ks : List ℕ). a ∷ ks) (bare (a + 1) n)

pub range_more : (a n : ℕ) → map cut (range_with_len a n) ++ cut (a + n) ∷ [] ≡ map cut (range_with_len a (n + 1))
range_more a n =
    sym (map-append cut (range_with_len a n) ((a + n) ∷ []))
    ∙ ap (map cut) (bare a n ∙ ap (λ (k : ℕ). range_with_len a k) (sym (add-one n)))

pub some_data : (bytes : List ℕ) → (bytes ≡ [] → ⊥)
    → data_of bytes ≡ record { memory = 0; offset = instr.GlobalGet 2 ∷ []; bytes = bytes } ∷ []
some_data [] h = absurd (h refl)
some_data (b ∷ bs) h = refl
