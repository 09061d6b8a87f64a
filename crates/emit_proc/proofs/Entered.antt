-- The prologue of a procedure.
use Rattle.std.proofs.Common.{◌≡◌, ℕ, zero, suc, ◌+◌, ◌*◌, Bool, true, false, List, [], ◌∷◌, ◌++◌, Some, None, refl, sym, ap, ◌∙◌, arith}
use Rattle.std.specs.Prelude.{Result, Ok, Err, OnOk, if◌then◌else◌}
use Rattle.typed_tree.specs.declared.known_types.Types.{Types}
use Rattle.typed_tree.specs.declared.shape.Formal.{Formal}
use Rattle.layout_storage.specs.Shapes.{tree}
use Rattle.wasm_tree.specs.declared.code.Op.{Op}
use Rattle.wasm_tree.specs.declared.code.Op.TheVariants as op
use Rattle.wasm_tree.specs.declared.instr.Instr.{Instr}
use Rattle.wasm_tree.specs.declared.instr.Instr.TheVariants as instr
use Rattle.wasm_tree.specs.declared.instr.Instr.TheVariants.{LocalGet, I32Const, Call}
use Rattle.layout_storage.specs.Types.{Ty, Cell, Hidden, Array, Nothing, Field}
use Rattle.layout_storage.specs.Sizes.{size, offset}
use Rattle.layout_storage.specs.Extents.{kind_of_tree}
use Rattle.layout_storage.specs.declared.kind.Kind.{Kind}
use Rattle.def_scheme.specs.Coded.{fault, raise_address, wrap_word, extend_word, copy}
use Rattle.def_scheme.specs.Cells.{store_tree}
use Rattle.def_scheme.specs.Functions.{value_kept, word_kept, open_copied, formal_kept}
use Rattle.emit_buffer.specs.Cut.{cut}
use Rattle.emit_buffer.specs.Drafts.{Drafted, cut_flat, with_ops, one, put, open_draft, place_of, closed_if}
use Rattle.emit_proc.specs.Kept.{copy_begun, copy_made}
use Rattle.emit_buffer.proofs.Emitted.{put_is}
use Rattle.emit_buffer.proofs.Closed.{set_one, if_cut}

-- an if with one side
held : (is : List Instr) (d : Drafted) → closed_if (place_of d) None (with_ops (cut_flat is) (open_draft d))
    ≡ one (instr.If None is None) d
unfolding closed_if open_draft one
held is d =
    ap (λ (ops : List Op). record { ops = ops; counts = d.counts })
    (set_one (λ n. op.If None (cut n)) d.ops (cut_flat is) op.Unreachable)
    ∙ ap (λ (ops : List Op). record { ops = d.ops ++ ops; counts = d.counts }) (sym (if_cut None is))

pub limit_is : (is : List Instr) (d : Drafted)
    → closed_if (place_of d) None (put is (open_draft d)) ≡ one (instr.If None is None) d
limit_is is d = ap (λ (e : Drafted). closed_if (place_of d) None e) (put_is is (open_draft d)) ∙ held is d

pub limit_fault : (d : Drafted) → closed_if (place_of d) None (put (fault 8) (open_draft d))
    ≡ one (instr.If None (fault 8) None) d
limit_fault d = limit_is (fault 8) d

-- the first cell of an open array stands where the formal does
nil : (t : Ty) → offset t [] ≡ 0
unfolding offset
nil (Cell c) = refl
nil (Hidden n) = refl
nil (Array n t) = refl
nil Nothing = refl
nil (Field t others) = refl

cell : (t : Ty) → offset t (0 ∷ []) ≡ 0
unfolding offset
cell (Cell c) = refl
cell (Hidden n) = refl
cell (Array n t) = let e : offset t [] ≡ 0 = nil t in omega (arith, e)
cell Nothing = refl
cell (Field t others) = nil t

pub first_cell : (t : Ty) (v : ℕ) → offset t (v ∷ 0 ∷ []) ≡ offset t (v ∷ [])
unfolding offset
first_cell (Cell c) v = refl
first_cell (Hidden n) v = refl
first_cell (Array n t) v = ap (λ (k : ℕ). v * size t + k) (cell t ∙ sym (nil t))
first_cell Nothing v = refl
first_cell (Field t others) zero = cell t ∙ sym (nil t)
first_cell (Field t others) (suc v) = ap (λ (k : ℕ). size t + k) (first_cell others v)

-- ---- value formals

abbrev kept_at : Ty → (v : ℕ) → List Instr → List Instr
kept_at f v value = LocalGet 0 ∷ (raise_address (offset f (suc v ∷ [])) ++ value)

pub scalar_value : (f t : Ty) (v x : ℕ) (k : Kind) → kind_of_tree t ≡ Some k
    → value_kept f v x t ≡ LocalGet 0 ∷ (raise_address (offset f (suc v ∷ [])) ++ (LocalGet x ∷ store_tree t))
scalar_value f (Cell c) v x k h = refl
scalar_value f (Hidden n) v x k h = absurd cc
scalar_value f (Array n t) v x k h = absurd cc
scalar_value f Nothing v x k h = absurd cc
scalar_value f (Field t others) v x k h = absurd cc

pub whole_value : (f t : Ty) (v x : ℕ) → kind_of_tree t ≡ None
    → value_kept f v x t ≡ LocalGet 0 ∷ (raise_address (offset f (suc v ∷ []))
    ++ (LocalGet x ∷ wrap_word ∷ I32Const (size t) ∷ Call copy ∷ []))
whole_value f (Cell c) v x h = absurd cc
whole_value f (Hidden n) v x h = refl
whole_value f (Array n t) v x h = refl
whole_value f Nothing v x h = refl
whole_value f (Field t others) v x h = refl

-- ---- open arrays

abbrev cells : Ty → (v p x : ℕ) → List Instr
cells f v p x = word_kept f v (0 ∷ []) (LocalGet p ∷ extend_word ∷ []) ++ word_kept f v (1 ∷ []) (LocalGet (suc x) ∷ [])

pub open_is : (top p : ℕ) (f : Ty) (v x element : ℕ) (d : Drafted)
    → put (open_copied top p f v x element) d
    ≡ put (word_kept f v (0 ∷ []) (LocalGet p ∷ extend_word ∷ []) ++ word_kept f v (1 ∷ []) (LocalGet (suc x) ∷ []))
    (put (copy_made p x element) (put (copy_begun top p x element) d))
open_is top p f v x element d = refl

chosen : (is_open var : Bool) (a b c : List Instr) → is_open ≡ true → var ≡ false
    → (if is_open then (if var then a else b) else c) ≡ b
chosen true true a b c h k = absurd cc
chosen true false a b c h k = refl
chosen false var a b c h k = absurd cc

-- a value formal ARRAY OF
pub open_formal : (types : Types) (top p : ℕ) (f : Ty) (v x : ℕ) (a : Formal) (element : ℕ) (d : Drafted)
    → a.is_open ≡ true → a.is_var ≡ false → element ≡ size (tree types a.of)
    → put (open_copied top p f v x element) d ≡ put (formal_kept types top p f v x a) d
open_formal types top p f v x a element d h k e =
    ap (λ (n : ℕ). put (open_copied top p f v x n) d) e
    ∙ ap (λ (code : List Instr). put code d)
    (sym (chosen a.is_open a.is_var (word_kept f v (0 ∷ []) (LocalGet x ∷ [])
    ++ word_kept f v (1 ∷ []) (LocalGet (suc x) ∷ [])) (open_copied top p f v x (size (tree types a.of)))
    (if a.is_var then word_kept f v [] (LocalGet x ∷ []) else value_kept f v x (tree types a.of)) h k))

pub on_ok : {T E : Type 0} {P Q : Type 0} (r : Result T E) → (P → Q) → OnOk r P → OnOk r Q
on_ok (Ok x) f h = f h
on_ok (Err e) f h = tt
