-- Code in the making, and what it needs so far.
use Rattle.std.specs.Prelude.{ℕ, suc, Bool, true, false, ◌+◌, ◌-◌, nat_le, List, [], ◌∷◌, ◌++◌, map, length, Option, slice_set}
use Rattle.wasm_tree.specs.declared.kinds.ValueType.{ValueType}
use Rattle.wasm_tree.specs.declared.code.Op.{Op}
use Rattle.wasm_tree.specs.declared.code.Op.TheVariants as op
use Rattle.wasm_tree.specs.declared.instr.Instr.{Instr}
use Rattle.wasm_tree.specs.Code.{tree, head, flat_one, flat}
use Rattle.def_scheme.specs.Coded.{Coded, Counts, Setting}
use Rattle.emit_buffer.specs.Cut.{cut, cut_op}

-- operations in one list, and how many locals and bytes of texts they need
pub record Drafted : Type 0 where
  pub ops : List Op
  pub counts : Counts

-- code as a list, with numbers cut
abbrev pub cut_one : Instr → List Op
cut_one i = map cut_op (flat_one i)

abbrev pub cut_flat : List Instr → List Op
cut_flat is = map cut_op (flat is)

-- with these operations behind
abbrev pub with_ops : List Op → Drafted → Drafted
with_ops ops d = record { ops = d.ops ++ ops; counts = d.counts }

-- with one more instruction, and what stands inside it
unfoldable pub one : Instr → Drafted → Drafted
one i d = with_ops (cut_one i) d

-- with more instructions
abbrev pub put : List Instr → Drafted → Drafted
put [] d = d
put (i ∷ is) d = put is (one i d)

-- with the code of something in a setting
unfoldable pub emitted : Coded → Setting → Drafted → Drafted
emitted x s d =
    record { ops = d.ops ++ cut_flat (x s d.counts).0; counts = (x s d.counts).1 }

-- ---- locals and texts

abbrev pub next_address : Drafted → Drafted
next_address d = record {
  ops = d.ops;
  counts = record {
    addresses = suc d.counts.addresses;
    numbers = d.counts.numbers;
    texts = d.counts.texts;
  };
}

abbrev pub next_number : Drafted → Drafted
next_number d = record {
  ops = d.ops;
  counts = record {
    addresses = d.counts.addresses;
    numbers = suc d.counts.numbers;
    texts = d.counts.texts;
  };
}

abbrev pub next_text : (bytes : ℕ) → Drafted → Drafted
next_text n d = record {
  ops = d.ops;
  counts = record {
    addresses = d.counts.addresses;
    numbers = d.counts.numbers;
    texts = d.counts.texts + n;
  };
}

-- ---- blocks: a place is kept for the operation, which is set when its end is known

abbrev pub place_of : Drafted → ℕ
place_of d = length d.ops

unfoldable pub open_draft : Drafted → Drafted
open_draft d = with_ops (op.Unreachable ∷ []) d

abbrev pub set_at : (at : ℕ) → Op → Drafted → Drafted
set_at at o d = record { ops = slice_set d.ops at o; counts = d.counts }

-- how many stand behind the place
abbrev pub inside : (at : ℕ) → Drafted → ℕ
inside at d = length d.ops - at - 1

-- all behind the place stands inside
unfoldable pub closed_block : (at : ℕ) → Option ValueType → Drafted → Drafted
closed_block at t d = set_at at (op.Block t (cut (inside at d))) d

unfoldable pub closed_loop : (at : ℕ) → Option ValueType → Drafted → Drafted
closed_loop at t d = set_at at (op.Loop t (cut (inside at d))) d

unfoldable pub closed_if : (at : ℕ) → Option ValueType → Drafted → Drafted
closed_if at t d = set_at at (op.If t (cut (inside at d))) d

-- the first side ends before the middle
unfoldable pub closed_if_else : (at middle : ℕ) → Option ValueType → Drafted → Drafted
closed_if_else at middle t d =
    set_at at (op.IfElse t (cut (middle - at - 1)) (cut (length d.ops - middle))) d

-- ---- operations with none inside

abbrev pub fits : ℕ → Bool
fits n = nat_le n 4294967295

-- none inside, and no number that is cut
abbrev pub is_plain : Op → Bool
is_plain (op.Block t n) = false
is_plain (op.Loop t n) = false
is_plain (op.If t n) = false
is_plain (op.IfElse t n m) = false
is_plain (op.Br l) = fits l
is_plain (op.BrIf l) = fits l
is_plain (op.BrTable n l) = false
is_plain (op.Call f) = fits f
is_plain (op.CallIndirect t) = fits t
is_plain (op.LocalGet x) = fits x
is_plain (op.LocalSet x) = fits x
is_plain (op.LocalTee x) = fits x
is_plain (op.GlobalGet x) = fits x
is_plain (op.I32Const n) = fits n
is_plain (op.I64Const n) = nat_le n 18446744073709551615
is_plain _ = true

-- the instruction that an operation of this kind is
abbrev pub instr_of : Op → Instr
instr_of o = head tree o []
