-- An instruction with two sides.
use Rattle.std.proofs.Common.{◌≡◌, ℕ, List, [], ◌∷◌, ◌++◌, Option, Some, sym, ap, ◌∙◌}
use Rattle.wasm_tree.specs.declared.kinds.ValueType.{ValueType}
use Rattle.wasm_tree.specs.declared.instr.Instr.{Instr}
use Rattle.wasm_tree.specs.declared.instr.Instr.TheVariants.{If, LocalGet}
use Rattle.wasm_tree.specs.declared.code.Op.{Op}
use Rattle.wasm_tree.specs.declared.code.Op.TheVariants as op
use Rattle.wasm_tree.specs.declared.kinds.ValueType.TheVariants.{I64}
use Rattle.emit_expr.specs.Operators.{negative, negative_or_same, lift_word, lifted_or_same}
use Rattle.emit_buffer.specs.Drafts.{Drafted, cut_flat, with_ops, one, put, open_draft, place_of, closed_if_else}
use Rattle.emit_buffer.proofs.Emitted.{put_is}
use Rattle.emit_buffer.proofs.Closed.{sides_cut, set_two}

flat_sides : (t : Option ValueType) (is os : List Instr) (d : Drafted)
    → one (If t is (Some os)) d ≡ closed_if_else (place_of d) (place_of (with_ops (cut_flat is) (open_draft d))) t
    (with_ops (cut_flat os) (with_ops (cut_flat is) (open_draft d)))
unfolding one open_draft closed_if_else
flat_sides t is os d =
    ap (λ (ops : List Op). record { ops = d.ops ++ ops; counts = d.counts }) (sides_cut t is os)
    ∙ ap (λ (ops : List Op). record { ops = ops; counts = d.counts })
    (sym (set_two t d.ops (cut_flat is) (cut_flat os) op.Unreachable))

pub or_same : (t : Option ValueType) (is os : List Instr) (d : Drafted)
    → one (If t is (Some os)) d ≡ closed_if_else (place_of d) (place_of (put is (open_draft d))) t
    (put os (put is (open_draft d)))
or_same t is os d =
    flat_sides t is os d
    ∙ ap (λ (e : Drafted). closed_if_else (place_of d) (place_of e) t (with_ops (cut_flat os) e))
    (sym (put_is is (open_draft d)))
    ∙ ap (λ (e : Drafted). closed_if_else (place_of d) (place_of (put is (open_draft d))) t e)
    (sym (put_is os (put is (open_draft d))))

-- the negative of a number, or the number itself
pub negative_is : (t : ℕ) (d : Drafted) → one (negative_or_same t) d
    ≡ closed_if_else (place_of d) (place_of (put (negative t) (open_draft d))) (Some I64)
    (one (LocalGet t) (put (negative t) (open_draft d)))
negative_is t d = or_same (Some I64) (negative t) (LocalGet t ∷ []) d

pub lifted_is : (t : ℕ) (d : Drafted) → one (lifted_or_same t) d
    ≡ closed_if_else (place_of d) (place_of (put (lift_word t) (open_draft d))) (Some I64)
    (one (LocalGet t) (put (lift_word t) (open_draft d)))
lifted_is t d = or_same (Some I64) (lift_word t) (LocalGet t ∷ []) d
