-- Code has no more operations than its encoding has bytes.
use Rattle.std.proofs.Common.{◌≡◌, ℕ, suc, ◌+◌, ◌≤◌, List, [], ◌∷◌, ◌++◌, length, map, Option, None, Some, Ok, refl, ap, subst, ◌∙◌, arith, length-append, inl, inr}
use Rattle.std.specs.Prelude.{nat_lt}
use Rattle.std.specs.List.{concat, flat_map}
use Rattle.std.proofs.lemmas.Bool.{cases_Bool}
use Rattle.std.proofs.lemmas.List.{length-map}
use Rattle.wasm_tree.specs.declared.code.Op.{Op}
use Rattle.wasm_tree.specs.declared.code.Op.TheVariants as op
use Rattle.wasm_tree.specs.declared.instr.Instr.{Instr, Instr-F, map-Instr, ind-Instr, roll-Instr, fold-roll-Instr}
use Rattle.wasm_tree.specs.declared.instr.Instr.TheOpen as layer
use Rattle.wasm_tree.specs.Code.{join_ops, flat_step, flat_one, flat}
use Rattle.wasm_code.specs.Number.{unsigned, signed32, signed64, groups}
use Rattle.wasm_code.specs.Instructions.{block_type, encoding_step, instr_encoding, nested_instruction, instr_of, code_in, code_within}
use Rattle.wasm_tree.specs.declared.kinds.ValueType.{ValueType}
use Rattle.wasm_tree.specs.Format.{byte_at}
use Rattle.wasm_code.proofs.Laws.{IsBytes, IsBytes-tail, read_is}
use Rattle.wasm_code.specs.declared.code.Ending.{Ending}
use Rattle.wasm_code.specs.ScratchStack.{onto, onto_sequence, onto_code}
use Rattle.wasm_code.proofs.LawsCode.{block_type_takes, instr_takes, code_in_taken, code_takes}
use Rattle.wasm_code.proofs.ScratchStacks.{sequence_onto, code_onto, instr_onto}
use Rattle.wasm_code.specs.Opcode.{numeric_opcode, load_opcode, store_opcode}

-- a number has at least one byte
some_byte : (n : ℕ) → 1 ≤ length (unsigned.encoding n)
unfolding groups
some_byte n = elim (cases_Bool (nat_lt n 128)) [
  | inl e ↦ rw e (omega arith)
  | inr e ↦ rw e (omega arith)
]

labels_counted : (ls : List ℕ) → length ls ≤ length (flat_map unsigned.encoding ls)
labels_counted [] = omega arith
labels_counted (l ∷ ls) = omega (
  arith,
  some_byte l,
  labels_counted ls,
  length-append (unsigned.encoding l)
      (flat_map unsigned.encoding ls),
)

abbrev P : Instr → Type 0
P i = length (flat_one i) ≤ length (instr_encoding i)

abbrev S : Type 0
S = (i : Instr) × P i

abbrev bare : Instr-F S → Instr-F Instr
bare = map-Instr S Instr (λ e. e.0)

each : (ss : List S) → length (join_ops (map flat_one (map (λ e. e.0) ss))) ≤ length
    (concat (map instr_encoding (map (λ e. e.0) ss)))
each [] = omega arith
each (s ∷ ss) =
    omega (
      arith,
      s.1,
      each ss,
      length-append (flat_one s.0) (join_ops (map flat_one (map (λ e. e.0) ss))),
      length-append (instr_encoding s.0) (concat (map instr_encoding (map (λ e. e.0) ss))),
    )

listed : (x : Instr-F Instr) → flat_one (roll-Instr x) ≡ flat_step (map-Instr Instr (List Op) flat_one x)
unfolding flat_one
listed x = fold-roll-Instr (List Op) flat_step x

encoded : (x : Instr-F Instr) → instr_encoding (roll-Instr x)
    ≡ encoding_step (map-Instr Instr (List ℕ) instr_encoding x)
unfolding instr_encoding
encoded x = fold-roll-Instr (List ℕ) encoding_step x

given : (x : Instr-F Instr) (ops : List Op) (bytes : List ℕ) → flat_step (map-Instr Instr (List Op) flat_one x) ≡ ops
    → encoding_step (map-Instr Instr (List ℕ) instr_encoding x) ≡ bytes → length ops ≤ length bytes → P (roll-Instr x)
given x ops bytes e f h =
    let counted : length (flat_one (roll-Instr x)) ≡ length ops = ap length (listed x ∙ e) in
    let wide : length (instr_encoding (roll-Instr x)) ≡ length bytes = ap length (encoded x ∙ f) in
    omega (arith, counted, wide, h)

-- an operation alone, and what begins with an opcode
alone : (x : Instr-F Instr) (o : Op) (b : ℕ) (bytes : List ℕ)
    → flat_step (map-Instr Instr (List Op) flat_one x) ≡ o ∷ []
    → encoding_step (map-Instr Instr (List ℕ) instr_encoding x) ≡ b ∷ bytes → P (roll-Instr x)
alone x o b bytes e f = given x (o ∷ []) (b ∷ bytes) e f (omega arith)

-- operations with one sequence
block_counted : (x : Instr-F Instr) (o : Op) (b : ℕ) (t end : List ℕ) (ss : List S)
    → flat_step (map-Instr Instr (List Op) flat_one x) ≡ o ∷ join_ops (map flat_one (map (λ e. e.0) ss))
    → encoding_step (map-Instr Instr (List ℕ) instr_encoding x) ≡ b ∷ t
    ++ concat (map instr_encoding (map (λ e. e.0) ss)) ++ end
    → P (roll-Instr x)
block_counted x o b t end ss e f =
    let inner : List Op = join_ops (map flat_one (map (λ e. e.0) ss)) in
    let bytes : List ℕ = concat (map instr_encoding (map (λ e. e.0) ss)) in
    given x (o ∷ inner) (b ∷ t ++ bytes ++ end) e f
    (omega (arith, each ss, length-append (t ++ bytes) end, length-append t bytes))

stepped : (y : Instr-F S) → P (roll-Instr (bare y))
stepped layer.Unreachable = alone layer.Unreachable op.Unreachable 0x00 [] refl refl
stepped (layer.Block t ss) = let is = map (λ e. e.0) ss in
    block_counted (layer.Block t is) (op.Block t (length (join_ops (map flat_one is)))) 0x02 (block_type.encoding t)
    (0x0B ∷ []) ss refl refl
stepped (layer.Loop t ss) = let is = map (λ e. e.0) ss in
    block_counted (layer.Loop t is) (op.Loop t (length (join_ops (map flat_one is)))) 0x03 (block_type.encoding t)
    (0x0B ∷ []) ss refl refl
stepped (layer.If t ss None) = let is = map (λ e. e.0) ss in
    block_counted (layer.If t is None) (op.If t (length (join_ops (map flat_one is)))) 0x04 (block_type.encoding t)
    (0x0B ∷ []) ss refl refl
stepped (layer.If t ss (Some rs)) =
    let is = map (λ e. e.0) ss in
    let js = map (λ e. e.0) rs in
    let inner : List Op = join_ops (map flat_one is) in
    let others : List Op = join_ops (map flat_one js) in
    let bytes : List ℕ = concat (map instr_encoding is) in
    let more : List ℕ = concat (map instr_encoding js) in
    given (layer.If t is (Some js)) (op.IfElse t (length inner) (length others) ∷ (inner ++ others))
    (0x04 ∷ block_type.encoding t ++ bytes ++ (0x05 ∷ more ++ 0x0B ∷ [])) refl refl
    (omega (
      arith,
      each ss,
      each rs,
      length-append inner others,
      length-append (block_type.encoding t ++ bytes)
          (0x05 ∷ more ++ 0x0B ∷ []),
      length-append (block_type.encoding t) bytes,
      length-append more (0x0B ∷ []),
    ))
stepped (layer.BrTable ls l) =
    given (layer.BrTable ls l) (op.BrTable (length ls) l ∷ map op.Br ls)
    (0x0E ∷ (unsigned.encoding (length ls) ++ flat_map unsigned.encoding ls) ++ unsigned.encoding l) refl refl
    (omega (
      arith,
      labels_counted ls,
      length-map ls op.Br,
      length-append
          (unsigned.encoding (length ls) ++ flat_map unsigned.encoding ls) (unsigned.encoding l),
      length-append
          (unsigned.encoding (length ls)) (flat_map unsigned.encoding ls),
    ))
stepped (layer.Br l) = alone (layer.Br l) (op.Br l) 0x0C (unsigned.encoding l) refl refl
stepped (layer.BrIf l) = alone (layer.BrIf l) (op.BrIf l) 0x0D (unsigned.encoding l) refl refl
stepped layer.Return = alone layer.Return op.Return 0x0F [] refl refl
stepped (layer.Call f) = alone (layer.Call f) (op.Call f) 0x10 (unsigned.encoding f) refl refl
stepped (layer.CallIndirect t) = alone (layer.CallIndirect t) (op.CallIndirect t) 0x11
    (unsigned.encoding t ++ 0x00 ∷ []) refl refl
stepped layer.Drop = alone layer.Drop op.Drop 0x1A [] refl refl
stepped (layer.LocalGet x) = alone (layer.LocalGet x) (op.LocalGet x) 0x20 (unsigned.encoding x) refl refl
stepped (layer.LocalSet x) = alone (layer.LocalSet x) (op.LocalSet x) 0x21 (unsigned.encoding x) refl refl
stepped (layer.LocalTee x) = alone (layer.LocalTee x) (op.LocalTee x) 0x22 (unsigned.encoding x) refl refl
stepped (layer.GlobalGet x) = alone (layer.GlobalGet x) (op.GlobalGet x) 0x23 (unsigned.encoding x) refl refl
stepped (layer.Load l) = alone (layer.Load l) (op.Load l) (load_opcode l) (0x00 ∷ 0x00 ∷ []) refl refl
stepped (layer.Store w) = alone (layer.Store w) (op.Store w) (store_opcode w) (0x00 ∷ 0x00 ∷ []) refl refl
stepped (layer.I32Const n) = alone (layer.I32Const n) (op.I32Const n) 0x41 (signed32.encoding n) refl refl
stepped (layer.I64Const n) = alone (layer.I64Const n) (op.I64Const n) 0x42 (signed64.encoding n) refl refl
stepped (layer.Numeric n) = alone (layer.Numeric n) (op.Numeric n) (numeric_opcode n) [] refl refl

counted_one : (i : Instr) → P i
counted_one = ind-Instr P (λ x y e. subst (λ (w : Instr-F Instr). P (roll-Instr w)) e (stepped y))

-- code has no more operations than its encoding has bytes
pub counted : (is : List Instr) → length (flat is) ≤ length (flat_map instr_encoding is)
counted [] = omega arith
counted (i ∷ is) = omega (
  arith,
  counted_one i,
  counted is,
  length-append (flat_one i) (flat is),
  length-append
      (instr_encoding i) (flat_map instr_encoding is),
)

-- ---- what was read has no more operations than bytes, and what is left is no longer

pub record IsCounted (old new : List Op) (bytes rest : List ℕ) : Type 0 where
  pub room : length new + length rest ≤ length old + length bytes
  pub grown : length old ≤ length new
  pub left : IsBytes rest

pub sequence_counted : (levels : ℕ) (old new : List Op) (e : Ending) (bytes rest : List ℕ) → IsBytes bytes
    → onto_sequence old (code_in levels bytes) ≡ Ok ((new, e), rest) → IsCounted old new bytes rest
sequence_counted levels old new e bytes rest fits h =
    let read = sequence_onto old new (code_in levels bytes) e rest h in
    let taken = code_in_taken levels bytes read.0 e rest fits read.1 in
    let grown : length new ≡ length old + length (flat read.0) = ap length read.2 ∙ length-append old (flat read.0) in
    let whole : length bytes ≡ length (flat_map instr_encoding read.0) + suc (length rest) = ap length taken.0.1
    ∙ length-append (flat_map instr_encoding read.0) (taken.0.0 ∷ rest) in
    record { room = omega (arith, grown, whole, counted read.0); grown = omega (arith, grown); left = taken.1 }

pub code_counted : (levels : ℕ) (old new : List Op) (bytes rest : List ℕ) → IsBytes bytes
    → onto_code old ((code_within levels).reading bytes) ≡ Ok (new, rest) → IsCounted old new bytes rest
code_counted levels old new bytes rest fits h =
    let read = code_onto old new ((code_within levels).reading bytes) rest h in
    let taken = code_takes levels bytes read.0 rest fits read.1 in
    let grown : length new ≡ length old + length (flat read.0) = ap length read.2 ∙ length-append old (flat read.0) in
    let whole : length bytes ≡ length ((code_within levels).encoding read.0) + length rest = ap length taken.parts
    ∙ length-append ((code_within levels).encoding read.0) rest in
    let code : length ((code_within levels).encoding read.0) ≡ length (flat_map instr_encoding read.0) + 1 =
    length-append (flat_map instr_encoding read.0) (0x0B ∷ []) in
    record {
      room = omega (arith, grown, whole, code, counted read.0);
      grown = omega (arith, grown);
      left =
          taken.rest_fits;
    }

-- what is left behind an instruction
pub record IsLeft (bytes rest : List ℕ) : Type 0 where
  pub shorter : length rest ≤ length bytes
  pub left : IsBytes rest

one_byte : (b c : ℕ) (bytes after : List ℕ) → byte_at bytes ≡ Ok (c, after) → bytes ≡ c ∷ after
one_byte b c [] after e = absurd cc
one_byte b c (d ∷ bytes) after e = let both = read_is d c bytes after e in
    ap (λ (x : ℕ). x ∷ bytes) both.0 ∙ ap (λ (r : List ℕ). c ∷ r) both.1

pub behind_byte : (b : ℕ) (bytes after : List ℕ) → IsBytes bytes → byte_at bytes ≡ Ok (b, after) → IsLeft bytes after
behind_byte b bytes after fits e =
    let is = one_byte b b bytes after e in
    record { shorter = omega (arith, ap length is); left = IsBytes-tail b after (subst IsBytes is fits) }

pub behind_instr : (levels : ℕ) (old new : List Op) (b : ℕ) (bytes after rest : List ℕ) → IsBytes bytes
    → byte_at bytes ≡ Ok (b, after) → onto old (instr_of (nested_instruction levels) b after) ≡ Ok (new, rest)
    → IsLeft bytes rest
behind_instr levels old new b bytes after rest fits e h =
    let read = instr_onto old new (instr_of (nested_instruction levels) b after) rest h in
    let is = one_byte b b bytes after e in
    let taken = instr_takes levels b after read.0 rest (behind_byte b bytes after fits e).left read.1 in
    record {
      shorter = omega (arith, ap length is, ap length taken.parts, length-append (instr_encoding read.0) rest);
      left = taken.rest_fits;
    }

pub behind_type : (t : Option ValueType) (bytes rest : List ℕ) → IsBytes bytes → block_type.reading bytes ≡ Ok (t, rest)
    → IsLeft bytes rest
behind_type t bytes rest fits e =
    let taken = block_type_takes bytes t rest fits e in
    record {
      shorter = omega (arith, ap length taken.parts, length-append (block_type.encoding t) rest);
      left =
          taken.rest_fits;
    }

pub one_longer : (old : List Op) (o : Op) {new : List Op} → new ≡ old ++ o ∷ [] → length new ≡ suc (length old)
one_longer old o e = let longer : length (old ++ o ∷ []) ≡ length old + 1 = length-append old (o ∷ []) in
    ap length e ∙ omega (arith, longer)
