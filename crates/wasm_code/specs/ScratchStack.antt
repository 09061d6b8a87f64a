-- What is read onto a scratch of operations, which stand for instructions.
use Rattle.std.specs.Prelude.{ℕ, Bool, true, false, List, ◌++◌, Option, Ok, ◌==◌, if◌then◌else◌}
use Rattle.wasm_tree.specs.declared.kinds.ValueType.{ValueType}
use Rattle.wasm_tree.specs.declared.code.Op.{Op}
use Rattle.wasm_tree.specs.declared.code.Op.TheVariants as op
use Rattle.wasm_tree.specs.declared.instr.Instr.{Instr}
use Rattle.wasm_tree.specs.Code.{flat_one, flat, label_of}
use Rattle.wasm_tree.specs.Format.{Reading, ◌>>=◌}
use Rattle.wasm_code.specs.Bytes as byte
use Rattle.wasm_code.specs.declared.code.Ending.{Ending}
use Rattle.wasm_code.specs.Number.{unsigned}
use Rattle.wasm_code.specs.Instructions.{Sequence, closing, code_in}

-- an operation behind which none belongs to it
abbrev pub is_plain : Op → Bool
is_plain (op.Block t n) = false
is_plain (op.Loop t n) = false
is_plain (op.If t n) = false
is_plain (op.IfElse t n m) = false
is_plain (op.BrTable n l) = false
is_plain _ = true

-- the operation with one sequence, of this many, that an opcode of this kind begins
abbrev pub one_sided_op : ℕ → Option ValueType → (count : ℕ) → Op
one_sided_op b t n =
    if b == byte.block then op.Block t n else (if b == byte.loop then op.Loop t n else op.If t n)

-- a scratch, and on it an instruction that is read
abbrev pub onto : List Op → Reading Instr → Reading (List Op)
onto before read = read >>= λ i. Ok (before ++ flat_one i.0, i.1)

-- the same of a sequence
abbrev pub onto_sequence : List Op → Reading Sequence → Reading (List Op × Ending)
onto_sequence before read = read >>= λ s. Ok ((before ++ flat s.0.0, s.0.1), s.1)

-- the same of code
abbrev pub onto_code : List Op → Reading (List Instr) → Reading (List Op)
onto_code before read = read >>= λ is. Ok (before ++ flat is.0, is.1)

-- the encoding of the label that a branch names
abbrev pub label_encoding : Op → List ℕ
label_encoding o = unsigned.encoding (label_of o)

-- an instruction that holds others, behind its type, if this many levels of nesting are left for
-- these
abbrev pub sides_of : (levels : ℕ) → ℕ → Option ValueType → List ℕ → Reading Instr
sides_of levels b t bytes =
    code_in levels bytes >>= λ s. closing (code_in levels) b t s.0.0 s.0.1 s.1
