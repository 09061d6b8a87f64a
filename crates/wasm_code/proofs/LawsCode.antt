-- The laws of code.
use Rattle.std.proofs.Common.{◌≡◌, ℕ, zero, suc, ◌<◌, ◌≤◌, Bool, true, false, cond, eqb, ◌⊎◌, List, [], ◌∷◌, ◌++◌, length, Option, Some, None, Result, Ok, Err, refl, sym, ap, subst, ◌∙◌, append_assoc, arith, inl, inr}
use Rattle.std.specs.List.{flat_map}
use Rattle.std.proofs.lemmas.Bool.{eqb-true, and_parts, and_from, cases_Bool}
use Rattle.std.proofs.lemmas.List.{length-append}
use Rattle.wasm_tree.specs.declared.fault.WFault.{WFault}
use Rattle.wasm_tree.specs.declared.fault.WFault.TheVariants.{OutsideProfile}
use Rattle.wasm_tree.specs.declared.kinds.ValueType.{ValueType}
use Rattle.wasm_tree.specs.declared.kinds.ValueType.TheVariants as value
use Rattle.wasm_tree.specs.declared.instr.Relation.TheVariants as rel
use Rattle.wasm_tree.specs.declared.instr.Operation.TheVariants as op
use Rattle.wasm_tree.specs.declared.instr.Numeric as numeric
use Rattle.wasm_tree.specs.declared.instr.Numeric.TheVariants.{I32Eqz, I32Relation, I64Eqz, I64Relation, I32Add, I64Operation, I32WrapI64, I64ExtendI32S, I64ExtendI32U}
use Rattle.wasm_tree.specs.declared.instr.Load as load
use Rattle.wasm_tree.specs.declared.instr.Load.TheVariants as loads
use Rattle.wasm_tree.specs.declared.instr.StoreWidth.{StoreWidth}
use Rattle.wasm_tree.specs.declared.instr.StoreWidth.TheVariants.{Eight, One, Two, Four}
use Rattle.wasm_tree.specs.declared.instr.Instr.{Instr, Instr-F, out-Instr, roll-Instr, roll-out-Instr}
use Rattle.wasm_tree.specs.declared.instr.Instr.TheOpen as layer
use Rattle.wasm_tree.specs.declared.instr.Instr.TheVariants.{Unreachable, Block, Loop, If, Br, BrIf, BrTable, Return, Call, CallIndirect, Drop, LocalGet, LocalSet, LocalTee, GlobalGet, Load, Store, I32Const, I64Const, Numeric}
use Rattle.wasm_tree.specs.declared.instr.Instr.TheVariants.{rolls-Block, rolls-Loop, rolls-If, rolls-Unreachable, rolls-Br, rolls-BrIf, rolls-BrTable, rolls-Return, rolls-Call, rolls-CallIndirect, rolls-Drop, rolls-LocalGet, rolls-LocalSet, rolls-LocalTee, rolls-GlobalGet, rolls-Load, rolls-Store, rolls-I32Const, rolls-I64Const, rolls-Numeric}
use Rattle.wasm_tree.specs.Format.{Format, Reading, ◌>>=◌, byte_at, skip}
use Rattle.wasm_code.specs.declared.code.Ending.{Ending}
use Rattle.wasm_code.specs.declared.code.Ending.TheVariants.{End, Else}
use Rattle.wasm_code.specs.Number.{unsigned, signed32, signed64}
use Rattle.wasm_code.specs.Parts.{◌◂◌, ◌·◌, vector}
use Rattle.wasm_code.specs.Opcode.{find_opcode, tests, calculations, loads as all_loads, widths, numeric_opcode, load_opcode, store_opcode, numeric_of, load_of, store_of}
use Rattle.wasm_code.specs.Instructions.{value_type, block_type, instr_encoding, instr_fits, no_offset, memory_reading, memory_of, variable_of, plain_of, opens, one_sided, ending_of, Sequence, instr_of, sequence, with_end, closing, nested_instruction, code_in, code_within, code}
use Rattle.wasm_code.proofs.Laws.{IsBytes, IsBytes-tail, IsBytes-after, bind_ok, guard_ok, ok_is, read_is, Taken, taken_at, Law}
use Rattle.wasm_code.proofs.LawsNumber.{unsigned_law, signed32_law, signed64_law}
use Rattle.wasm_code.proofs.LawsParts.{skip_ok, behind_law, then_law, vector_law}
use Rattle.wasm_code.proofs.LawsTagged.{if_tag, read_as, tagged, bind_behind, bind_pair, value_type_law}
use Rattle.wasm_code.proofs.Loop.{with_instrs}
use Rattle.wasm_code.proofs.Encoded.{encoded-Block, encoded-Loop, encoded-If-None, encoded-If-Some, encoded-Unreachable, encoded-Br, encoded-BrIf, encoded-BrTable, encoded-Return, encoded-Call, encoded-CallIndirect, encoded-Drop, encoded-LocalGet, encoded-LocalSet, encoded-LocalTee, encoded-GlobalGet, encoded-Load, encoded-Store, encoded-I32Const, encoded-I64Const, encoded-Numeric}
use Rattle.wasm_code.proofs.Fitting.{all_fit, none-Block, none-Loop, none-If, fits-Block, fits-Loop, fits-If-None, fits-If-Some, fits-Unreachable, fits-Br, fits-BrIf, fits-BrTable, fits-Return, fits-Call, fits-CallIndirect, fits-Drop, fits-LocalGet, fits-LocalSet, fits-LocalTee, fits-GlobalGet, fits-Load, fits-Store, fits-I32Const, fits-I64Const, fits-Numeric}

-- an instruction, where so many levels of nesting are left
abbrev pub instr : (levels : ℕ) → Format Instr
instr levels = record {
  encoding = instr_encoding;
  reading = λ bytes. byte_at bytes >>=
      λ b. instr_of (nested_instruction levels) b.0 b.1;
  fits = λ i. instr_fits i levels;
}

-- ---- block types

pub block_type_takes : (bytes : List ℕ) (x : Option ValueType) (rest : List ℕ) → IsBytes bytes
    → block_type.reading bytes ≡ Ok (x, rest) → Taken block_type bytes x rest
unfolding block_type value_type
block_type_takes [] x rest fits e = absurd cc
block_type_takes (b ∷ bytes) x rest fits e =
    elim (if_tag b 0x40 (Ok (None, bytes)) (value_type.reading (b ∷ bytes) >>= λ t. Ok (Some t.0, t.1)) (Ok (x, rest))
    e) [
      | inl t ↦
          taken_at block_type (b ∷ bytes) None x bytes rest (read_is None x bytes rest t.1)
          (record { parts = ap (λ (c : ℕ). c ∷ bytes) t.0; rest_fits = IsBytes-tail b bytes fits; fits = refl })
      | inr e1 ↦
          let a = bind_ok (value_type.reading (b ∷ bytes)) (λ t. Ok (Some t.0, t.1)) (x, rest) e1 in
          let t = value_type_law.takes (b ∷ bytes) a.0.0 a.0.1 fits a.1 in
          taken_at block_type (b ∷ bytes) (Some a.0.0) x a.0.1 rest (read_is (Some a.0.0) x a.0.1 rest a.2)
          (record { parts = t.parts; rest_fits = t.rest_fits; fits = refl })
    ]

block_type_again : (x : Option ValueType) (rest : List ℕ)
    → block_type.reading (block_type.encoding x ++ rest) ≡ Ok (x, rest)
unfolding block_type
block_type_again None rest = refl
block_type_again (Some value.I32) rest = refl
block_type_again (Some value.I64) rest = refl

-- ---- opcodes

some_is : {A : Type 0} (x y : A) → ◌≡◌ {A = Option A} (Some x) (Some y) → x ≡ y
some_is x y e = cc

found_ok : {A : Type 0} (opcode : A → ℕ) (b : ℕ) (xs : List A) (x : A) → find_opcode opcode b xs ≡ Some x → b ≡ opcode x
found_ok opcode b [] x e = absurd cc
found_ok {A} opcode b (y ∷ ys) x e =
    elim (cases_Bool (eqb b (opcode y))) [
      | inl same ↦ let f : ◌≡◌ {A = Option A} (Some y) (Some x) = rw same at e in
          eqb-true b (opcode y) same ∙ ap opcode (some_is y x f)
      | inr other ↦ found_ok opcode b ys x (rw other at e)
    ]

load_ok : (b : ℕ) (l : load.Load) → load_of b ≡ Some l → b ≡ load_opcode l
unfolding load_of
load_ok b l e = found_ok load_opcode b all_loads l e

store_ok : (b : ℕ) (w : StoreWidth) → store_of b ≡ Some w → b ≡ store_opcode w
unfolding store_of
store_ok b w e = found_ok store_opcode b widths w e

numeric_ok : (b : ℕ) (n : numeric.Numeric) → numeric_of b ≡ Some n → b ≡ numeric_opcode n
unfolding numeric_of
numeric_ok b n e = found_ok numeric_opcode b (tests ++ calculations) n e

-- ---- instructions without others inside

-- nothing, and the two bytes of zero
abbrev nothing : Format (Unit {0})
nothing = record { encoding = λ u. []; reading = λ bytes. Ok (tt, bytes); fits = λ u. true }

nothing_law : Law nothing
nothing_law = record {
  takes = λ bytes x rest fits e. taken_at nothing bytes tt x bytes rest (read_is tt x bytes rest e)
      (record { parts = refl; rest_fits = fits; fits = refl });
  again = λ x rest fits. refl;
}

abbrev zeros : Format (Unit {0})
zeros = record {
  encoding = λ u. 0x00 ∷ 0x00 ∷ [];
  reading = λ bytes. no_offset bytes >>= λ rest. Ok (tt, rest);
  fits =
      λ u. true;
}

no_offset_ok : (bytes rest : List ℕ) → no_offset bytes ≡ Ok rest → bytes ≡ 0x00 ∷ 0x00 ∷ rest
no_offset_ok bytes rest e =
    let a = bind_ok (skip 0x00 bytes) (λ s. skip 0x00 s.1 >>= λ t. Ok t.1) rest e in
    let b = bind_ok (skip 0x00 a.0.1) (λ t. Ok t.1) rest a.2 in
    skip_ok 0x00 bytes a.0 a.1 ∙ ap (λ (r : List ℕ). 0x00 ∷ r) (skip_ok 0x00 a.0.1 b.0 b.1)
    ∙ ap (λ (r : List ℕ). 0x00 ∷ 0x00 ∷ r) (ok_is b.0.1 rest b.2)

zeros_takes : (bytes : List ℕ) (x : Unit {0}) (rest : List ℕ) → IsBytes bytes → zeros.reading bytes ≡ Ok (x, rest)
    → Taken zeros bytes x rest
zeros_takes bytes x rest fits e =
    let a = bind_ok (no_offset bytes) (λ rest. Ok (tt, rest)) (x, rest) e in
    let s = no_offset_ok bytes a.0 a.1 in
    taken_at zeros bytes tt x a.0 rest (read_is tt x a.0 rest a.2)
    (record { parts = s; rest_fits = IsBytes-after bytes (0x00 ∷ 0x00 ∷ []) a.0 s fits; fits = refl })

zeros_law : Law zeros
zeros_law = record { takes = zeros_takes; again = λ x rest fits. refl }

read_as_zeros : (i : Instr) (r : Result (List ℕ) WFault)
    → read_as (λ (u : Unit {0}). i) (r >>= λ rest. Ok (tt, rest)) ≡ (r >>= λ rest. Ok (i, rest))
read_as_zeros i (Ok rest) = refl
read_as_zeros i (Err e) = refl

module _ (levels : ℕ) (b : ℕ) (bytes : List ℕ) (x : Instr) (rest : List ℕ) (fits : IsBytes bytes) where
  memory_step : (l : Option load.Load) (w : Option StoreWidth) (n : Option numeric.Numeric) → load_of b ≡ l
      → store_of b ≡ w → numeric_of b ≡ n → memory_reading l w n bytes ≡ Ok (x, rest)
      → Taken (instr levels) (b ∷ bytes) x rest
  memory_step (Some l) w n p q r e =
      tagged (instr levels) zeros (λ u. Load l) (load_opcode l) zeros_law (λ u. encoded-Load l)
      (λ u. fits-Load l levels) b bytes x rest fits (load_ok b l p) (read_as_zeros (Load l) (no_offset bytes) ∙ e)
  memory_step None (Some w) n p q r e =
      tagged (instr levels) zeros (λ u. Store w) (store_opcode w) zeros_law (λ u. encoded-Store w)
      (λ u. fits-Store w levels) b bytes x rest fits (store_ok b w q)
      (read_as_zeros (Store w) (no_offset bytes) ∙ e)
  memory_step None None (Some n) p q r e =
      tagged (instr levels) nothing (λ u. Numeric n) (numeric_opcode n) nothing_law (λ u. encoded-Numeric n)
      (λ u. fits-Numeric n levels) b bytes x rest fits (numeric_ok b n r) e
  memory_step None None None p q r e = absurd cc

  memory_takes : memory_of b bytes ≡ Ok (x, rest) → Taken (instr levels) (b ∷ bytes) x rest
  unfolding memory_of
  memory_takes e = memory_step (load_of b) (store_of b) (numeric_of b) refl refl refl e

  variable_takes : variable_of b bytes ≡ Ok (x, rest) → Taken (instr levels) (b ∷ bytes) x rest
  unfolding variable_of
  variable_takes e =
      elim (if_tag b 0x1A _ _ (Ok (x, rest)) e) [
        | inl t ↦ tagged (instr levels) nothing (λ u. Drop) 0x1A nothing_law (λ u. encoded-Drop) (λ u. fits-Drop levels)
            b bytes x rest fits t.0 t.1
        | inr e1 ↦
            elim (if_tag b 0x20 _ _ (Ok (x, rest)) e1) [
              | inl t ↦ tagged (instr levels) unsigned LocalGet 0x20 unsigned_law encoded-LocalGet
                  (λ n. fits-LocalGet n levels) b bytes x rest fits t.0 t.1
              | inr e2 ↦
                  elim (if_tag b 0x21 _ _ (Ok (x, rest)) e2) [
                    | inl t ↦ tagged (instr levels) unsigned LocalSet 0x21 unsigned_law encoded-LocalSet
                        (λ n. fits-LocalSet n levels) b bytes x rest fits t.0 t.1
                    | inr e3 ↦
                        elim (if_tag b 0x22 _ _ (Ok (x, rest)) e3) [
                          | inl t ↦ tagged (instr levels) unsigned LocalTee 0x22 unsigned_law encoded-LocalTee
                              (λ n. fits-LocalTee n levels) b bytes x rest fits t.0 t.1
                          | inr e4 ↦
                              elim (if_tag b 0x23 _ _ (Ok (x, rest)) e4) [
                                | inl t ↦ tagged (instr levels) unsigned GlobalGet 0x23 unsigned_law encoded-GlobalGet
                                    (λ n. fits-GlobalGet n levels) b bytes x rest fits t.0 t.1
                                | inr e5 ↦
                                    elim (if_tag b 0x41 _ _ (Ok (x, rest)) e5) [
                                      | inl t ↦ tagged (instr levels) signed32 I32Const 0x41 signed32_law
                                          encoded-I32Const (λ n. fits-I32Const n levels) b bytes x rest fits t.0 t.1
                                      | inr e6 ↦
                                          elim (if_tag b 0x42 _ _ (Ok (x, rest)) e6) [
                                            | inl t ↦ tagged (instr levels) signed64 I64Const 0x42 signed64_law
                                                encoded-I64Const (λ n. fits-I64Const n levels) b bytes x rest fits t.0
                                                t.1
                                            | inr e7 ↦
                                                memory_takes e7
                                          ]
                                    ]
                              ]
                        ]
                  ]
            ]
      ]

  abbrev table : List ℕ × ℕ → Instr
  table p = BrTable p.0 p.1

  plain_takes : plain_of b bytes ≡ Ok (x, rest) → Taken (instr levels) (b ∷ bytes) x rest
  unfolding plain_of
  plain_takes e =
      elim (if_tag b 0x00 _ _ (Ok (x, rest)) e) [
        | inl t ↦ tagged (instr levels) nothing (λ u. Unreachable) 0x00 nothing_law (λ u. encoded-Unreachable)
            (λ u. fits-Unreachable levels) b bytes x rest fits t.0 t.1
        | inr e1 ↦
            elim (if_tag b 0x0C _ _ (Ok (x, rest)) e1) [
              | inl t ↦ tagged (instr levels) unsigned Br 0x0C unsigned_law encoded-Br (λ n. fits-Br n levels) b bytes x
                  rest fits t.0 t.1
              | inr e2 ↦
                  elim (if_tag b 0x0D _ _ (Ok (x, rest)) e2) [
                    | inl t ↦ tagged (instr levels) unsigned BrIf 0x0D unsigned_law encoded-BrIf
                        (λ n. fits-BrIf n levels) b bytes x rest fits t.0 t.1
                    | inr e3 ↦
                        elim (if_tag b 0x0E _ _ (Ok (x, rest)) e3) [
                          | inl t ↦ tagged (instr levels) (vector unsigned · unsigned) table 0x0E
                              (then_law (vector unsigned) unsigned (vector_law unsigned unsigned_law) unsigned_law)
                              (λ p. encoded-BrTable p.0 p.1) (λ p. fits-BrTable p.0 p.1 levels) b bytes x rest fits t.0
                              (bind_pair (vector unsigned) unsigned table bytes (x, rest) t.1)
                          | inr e4 ↦
                              elim (if_tag b 0x0F _ _ (Ok (x, rest)) e4) [
                                | inl t ↦ tagged (instr levels) nothing (λ u. Return) 0x0F nothing_law
                                    (λ u. encoded-Return) (λ u. fits-Return levels) b bytes x rest fits t.0 t.1
                                | inr e5 ↦
                                    elim (if_tag b 0x10 _ _ (Ok (x, rest)) e5) [
                                      | inl t ↦ tagged (instr levels) unsigned Call 0x10 unsigned_law encoded-Call
                                          (λ n. fits-Call n levels) b bytes x rest fits t.0 t.1
                                      | inr e6 ↦
                                          elim (if_tag b 0x11 _ _ (Ok (x, rest)) e6) [
                                            | inl t ↦ tagged (instr levels) (unsigned ◂ 0x00) CallIndirect 0x11
                                                (behind_law 0x00 unsigned unsigned_law) encoded-CallIndirect
                                                (λ n. fits-CallIndirect n levels) b bytes x rest fits t.0
                                                (bind_behind unsigned CallIndirect 0x00 bytes (x, rest) t.1)
                                            | inr e7 ↦
                                                variable_takes e7
                                          ]
                                    ]
                              ]
                        ]
                  ]
            ]
      ]

-- ---- what was read is encoded so

abbrev ending_byte : Ending → ℕ
ending_byte End = 0x0B
ending_byte Else = 0x05

if_some : {A : Type 0} (b k : ℕ) (r s z : A) → cond (eqb b k) r s ≡ z → ((b ≡ k) × (r ≡ z)) ⊎ (s ≡ z)
if_some b k r s z e =
    elim (cases_Bool (eqb b k)) [
      | inl same ↦ inl (eqb-true b k same, rw same at e)
      | inr other ↦ inr (rw other at e)
    ]

ending_ok : (b : ℕ) (e : Ending) → ending_of b ≡ Some e → b ≡ ending_byte e
ending_ok b e h =
    elim (if_some b 0x0B (Some End) (cond (eqb b 0x05) (Some Else) None) (Some e) h) [
      | inl t ↦ t.0 ∙ ap ending_byte (some_is End e t.1)
      | inr h1 ↦
          elim (if_some b 0x05 (Some Else) None (Some e) h1) [
            | inl t ↦ t.0 ∙ ap ending_byte (some_is Else e t.1)
            | inr h2 ↦ absurd cc
          ]
    ]

record SequenceTaken (levels : ℕ) (bytes : List ℕ) (is : List Instr) (e : Ending) (rest : List ℕ) : Type 0 where
  parts : bytes ≡ flat_map instr_encoding is ++ (ending_byte e ∷ rest)
  rest_fits : IsBytes rest
  fits : all_fit levels is ≡ true

abbrev SequenceIs : (levels : ℕ) → List ℕ → Sequence × List ℕ → Type 0
SequenceIs levels bytes s = SequenceTaken levels bytes s.0.0 s.0.1 s.1

abbrev pub InstrTakes : (levels : ℕ) → Type 0
InstrTakes levels = (b : ℕ) (bytes : List ℕ) (x : Instr) (rest : List ℕ) → IsBytes bytes
    → instr_of (nested_instruction levels) b bytes ≡ Ok (x, rest) → Taken (instr levels) (b ∷ bytes) x rest

abbrev SequenceTakes : (levels : ℕ) → Type 0
SequenceTakes levels = (bytes : List ℕ) (s : Sequence × List ℕ) → IsBytes bytes → code_in levels bytes ≡ Ok s
    → SequenceIs levels bytes s

abbrev sequence_step : (levels most : ℕ) → Option Ending → ℕ → List ℕ → Reading Sequence
sequence_step levels most o b bytes = elim o [
  | Some e ↦ Ok (([], e), bytes)
  | None ↦ instr_of (nested_instruction levels) b bytes >>=
      λ i. sequence (nested_instruction levels) most i.1 >>= λ s. Ok ((i.0 ∷ s.0.0, s.0.1), s.1)
]

module _ (levels : ℕ) (takes : InstrTakes levels) where
  instr_then : (b : ℕ) (bytes : List ℕ) (i : Instr) (mid : List ℕ) (s : Sequence × List ℕ)
      → Taken (instr levels) (b ∷ bytes) i mid → SequenceIs levels mid s
      → SequenceIs levels (b ∷ bytes) ((i ∷ s.0.0, s.0.1), s.1)
  instr_then b bytes i mid s t u = record {
    parts = t.parts ∙ ap (λ (r : List ℕ). instr_encoding i ++ r) u.parts
        ∙ sym (append_assoc (instr_encoding i) (flat_map instr_encoding s.0.0) (ending_byte s.0.1 ∷ s.1));
    rest_fits = u.rest_fits;
    fits = and_from _ _ t.fits u.fits;
  }

  step_takes : (most : ℕ) → ((bytes : List ℕ) (s : Sequence × List ℕ) → IsBytes bytes
      → sequence (nested_instruction levels) most bytes ≡ Ok s → SequenceIs levels bytes s)
      → (o : Option Ending) (b : ℕ) (bytes : List ℕ) (s : Sequence × List ℕ) → IsBytes (b ∷ bytes) → ending_of b ≡ o
      → sequence_step levels most o b bytes ≡ Ok s → SequenceIs levels (b ∷ bytes) s
  step_takes most others (Some e) b bytes s fits h f =
      let is = ok_is (([], e), bytes) s f in
      subst (SequenceIs levels (b ∷ bytes)) is
      (record {
        parts = ap (λ (c : ℕ). c ∷ bytes) (ending_ok b e h);
        rest_fits = IsBytes-tail b bytes fits;
        fits =
            refl;
      })
  step_takes most others None b bytes s fits h f =
      let a = bind_ok (instr_of (nested_instruction levels) b bytes)
      (λ i. sequence (nested_instruction levels) most i.1 >>= λ s. Ok ((i.0 ∷ s.0.0, s.0.1), s.1)) s f in
      let c = bind_ok (sequence (nested_instruction levels) most a.0.1) (λ s. Ok ((a.0.0 ∷ s.0.0, s.0.1), s.1)) s a.2 in
      let t = takes b bytes a.0.0 a.0.1 (IsBytes-tail b bytes fits) a.1 in
      let u = others a.0.1 c.0 t.rest_fits c.1 in
      subst (SequenceIs levels (b ∷ bytes)) (ok_is ((a.0.0 ∷ c.0.0.0, c.0.0.1), c.0.1) s c.2)
      (instr_then b bytes a.0.0 a.0.1 c.0 t u)

  sequence_takes : (most : ℕ) (bytes : List ℕ) (s : Sequence × List ℕ) → IsBytes bytes
      → sequence (nested_instruction levels) most bytes ≡ Ok s → SequenceIs levels bytes s
  unfolding sequence
  sequence_takes zero bytes s fits e = absurd cc
  sequence_takes (suc most) [] s fits e = absurd cc
  sequence_takes (suc most) (b ∷ bytes) s fits e =
      step_takes most (sequence_takes most) (ending_of b) b bytes s fits refl e

  code_in_takes : SequenceTakes levels
  code_in_takes bytes s fits e = sequence_takes (length bytes) bytes s fits e

-- a sequence with an end
record CodeTaken (levels : ℕ) (bytes : List ℕ) (is : List Instr) (rest : List ℕ) : Type 0 where
  parts : bytes ≡ flat_map instr_encoding is ++ (0x0B ∷ rest)
  rest_fits : IsBytes rest
  fits : all_fit levels is ≡ true

abbrev to_end : List Instr → Ending → List ℕ → Reading (List Instr)
to_end is e rest = elim e [ End ↦ Ok (is, rest) | Else ↦ Err OutsideProfile ]

module _ (levels : ℕ) (takes : SequenceTakes levels) where
  end_takes : (bytes : List ℕ) (is : List Instr) (e : Ending) (mid : List ℕ) (x : List Instr) (rest : List ℕ)
      → SequenceTaken levels bytes is e mid → to_end is e mid ≡ Ok (x, rest) → CodeTaken levels bytes x rest
  end_takes bytes is End mid x rest t e =
      let r = read_is is x mid rest e in
      subst (λ y. CodeTaken levels bytes y rest) r.0
      (subst (λ m. CodeTaken levels bytes is m) r.1
      (record { parts = t.parts; rest_fits = t.rest_fits; fits = t.fits }))
  end_takes bytes is Else mid x rest t e = absurd cc

  ended_takes : (bytes : List ℕ) (x : List Instr) (rest : List ℕ) → IsBytes bytes
      → with_end (code_in levels bytes) ≡ Ok (x, rest) → CodeTaken levels bytes x rest
  ended_takes bytes x rest fits e =
      let a = bind_ok (code_in levels bytes) (λ s. to_end s.0.0 s.0.1 s.1) (x, rest) e in
      end_takes bytes a.0.0.0 a.0.0.1 a.0.1 x rest (takes bytes a.0 fits a.1) a.2

regroup_block : (type code rest : List ℕ) → ((type ++ code) ++ 0x0B ∷ []) ++ rest ≡ type ++ (code ++ (0x0B ∷ rest))
regroup_block type code rest = simp append_assoc

regroup_if : (type code others rest : List ℕ)
    → ((type ++ code) ++ (0x05 ∷ others ++ 0x0B ∷ [])) ++ rest ≡ type ++ (code ++ (0x05 ∷ (others ++ (0x0B ∷ rest))))
regroup_if type code others rest = simp append_assoc

abbrev is_block : ℕ → Option ValueType → List Instr → Type 0
is_block k t is = instr_encoding (one_sided k t is) ≡ k
    ∷ ((block_type.encoding t ++ flat_map instr_encoding is) ++ 0x0B ∷ [])

one_sided_encoded : (b : ℕ) (t : Option ValueType) (is : List Instr) → opens b ≡ true → is_block b t is
one_sided_encoded b t is e =
    elim (cases_Bool (eqb b 0x02)) [
      | inl two ↦ subst (λ (k : ℕ). is_block k t is) (sym (eqb-true b 0x02 two)) (encoded-Block t is)
      | inr not_two ↦
          elim (cases_Bool (eqb b 0x03)) [
            | inl three ↦ subst (λ (k : ℕ). is_block k t is) (sym (eqb-true b 0x03 three)) (encoded-Loop t is)
            | inr not_three ↦
                let four : eqb b 0x04 ≡ true = rw (not_two, not_three) at e in
                subst (λ (k : ℕ). is_block k t is) (sym (eqb-true b 0x04 four)) (encoded-If-None t is)
          ]
    ]

one_sided_fits : (b : ℕ) (t : Option ValueType) (is : List Instr) (levels : ℕ)
    → instr_fits (one_sided b t is) (suc levels) ≡ all_fit levels is
one_sided_fits b t is levels =
    elim (cases_Bool (eqb b 0x02)) [
      | inl two ↦ rw two (fits-Block t is levels)
      | inr not_two ↦
          elim (cases_Bool (eqb b 0x03)) [
            | inl three ↦ rw (not_two, three) (fits-Loop t is levels)
            | inr not_three ↦ rw (not_two, not_three) (fits-If-None t is levels)
          ]
    ]

module _ (levels : ℕ) (takes : SequenceTakes levels) where
  closing_takes : (b : ℕ) (bytes : List ℕ) (t : Option ValueType) (after : List ℕ) (is : List Instr) (e : Ending)
      (mid : List ℕ) (x : Instr) (rest : List ℕ) → opens b ≡ true → Taken block_type bytes t after
      → SequenceTaken levels after is e mid
      → closing (code_in levels) b t is e mid ≡ Ok (x, rest) → Taken (instr (suc levels)) (b ∷ bytes) x rest
  closing_takes b bytes t after is End mid x rest o u v e =
      let text : List ℕ = flat_map instr_encoding is in
      let inner : bytes ≡ ((block_type.encoding t ++ text) ++ 0x0B ∷ []) ++ mid = u.parts
      ∙ ap (λ (r : List ℕ). block_type.encoding t ++ r) v.parts
      ∙ sym (regroup_block (block_type.encoding t) text mid) in
      let parts : b ∷ bytes ≡ instr_encoding (one_sided b t is) ++ mid = ap (λ (r : List ℕ). b ∷ r) inner
      ∙ ap (λ (r : List ℕ). r ++ mid) (sym (one_sided_encoded b t is o)) in
      taken_at (instr (suc levels)) (b ∷ bytes) (one_sided b t is) x mid rest (read_is (one_sided b t is) x mid rest e)
      (record { parts = parts; rest_fits = v.rest_fits; fits = one_sided_fits b t is levels ∙ v.fits })
  closing_takes b bytes t after is Else mid x rest o u v e =
      let g = guard_ok (eqb b 0x04) OutsideProfile
      (with_end (code_in levels mid) >>= λ others. Ok (If t is (Some others.0), others.1)) (x, rest) e in
      let a = bind_ok (with_end (code_in levels mid)) (λ others. Ok (If t is (Some others.0), others.1)) (x, rest) g.1
      in
      let w = ended_takes levels takes mid a.0.0 a.0.1 v.rest_fits a.1 in
      let text : List ℕ = flat_map instr_encoding is in
      let others : List ℕ = flat_map instr_encoding a.0.0 in
      let inner : bytes ≡ ((block_type.encoding t ++ text) ++ (0x05 ∷ others ++ 0x0B ∷ [])) ++ a.0.1 =
      u.parts ∙ ap (λ (r : List ℕ). block_type.encoding t ++ r) v.parts
      ∙ ap (λ (r : List ℕ). block_type.encoding t ++ (text ++ (0x05 ∷ r))) w.parts
      ∙ sym (regroup_if (block_type.encoding t) text others a.0.1) in
      let tag : b ∷ bytes ≡ 0x04 ∷ bytes = ap (λ (c : ℕ). c ∷ bytes) (eqb-true b 0x04 g.0) in
      let parts : b ∷ bytes ≡ instr_encoding (If t is (Some a.0.0)) ++ a.0.1 = tag ∙ ap (λ (r : List ℕ). 0x04 ∷ r) inner
      ∙ ap (λ (r : List ℕ). r ++ a.0.1) (sym (encoded-If-Some t is a.0.0)) in
      taken_at (instr (suc levels)) (b ∷ bytes) (If t is (Some a.0.0)) x a.0.1 rest
      (read_is (If t is (Some a.0.0)) x a.0.1 rest a.2)
      (record {
        parts = parts;
        rest_fits = w.rest_fits;
        fits = fits-If-Some t is a.0.0 levels
            ∙ and_from _ _ v.fits w.fits;
      })

  opened_takes : (b : ℕ) (bytes : List ℕ) (x : Instr) (rest : List ℕ) → IsBytes bytes → opens b ≡ true
      → nested_instruction (suc levels) b bytes ≡ Ok (x, rest) → Taken (instr (suc levels)) (b ∷ bytes) x rest
  unfolding nested_instruction
  opened_takes b bytes x rest fits o e =
      let a = bind_ok (block_type.reading bytes)
      (λ t. code_in levels t.1 >>= λ s. closing (code_in levels) b t.0 s.0.0 s.0.1 s.1) (x, rest) e in
      let c = bind_ok (code_in levels a.0.1) (λ s. closing (code_in levels) b a.0.0 s.0.0 s.0.1 s.1) (x, rest) a.2 in
      let u = block_type_takes bytes a.0.0 a.0.1 fits a.1 in
      closing_takes b bytes a.0.0 a.0.1 c.0.0.0 c.0.0.1 c.0.1 x rest o u (takes a.0.1 c.0 u.rest_fits c.1) c.2

refused : (x : Instr) (rest : List ℕ) → ◌≡◌ {A = Reading Instr} (Err OutsideProfile) (Ok (x, rest)) → ⊥
refused x rest e = cc

none_opened : (b : ℕ) (bytes : List ℕ) → nested_instruction 0 b bytes ≡ Err OutsideProfile
unfolding nested_instruction
none_opened b bytes = refl

pub instr_takes : (levels : ℕ) → InstrTakes levels
instr_takes zero b bytes x rest fits e =
    elim (cases_Bool (opens b)) [
      | inl yes' ↦ let f : nested_instruction 0 b bytes ≡ Ok (x, rest) = rw yes' at e in
          absurd (refused x rest (sym (none_opened b bytes) ∙ f))
      | inr no' ↦ plain_takes 0 b bytes x rest fits (rw no' at e)
    ]
instr_takes (suc levels) b bytes x rest fits e =
    elim (cases_Bool (opens b)) [
      | inl yes' ↦ opened_takes levels (code_in_takes levels (instr_takes levels)) b bytes x rest fits yes'
          (rw yes' at e)
      | inr no' ↦ plain_takes (suc levels) b bytes x rest fits (rw no' at e)
    ]

-- a sequence is its instructions and one more byte
pub code_in_taken : (levels : ℕ) (bytes : List ℕ) (is : List Instr) (e : Ending) (rest : List ℕ) → IsBytes bytes
    → code_in levels bytes ≡ Ok ((is, e), rest)
    → ((b : ℕ) × (bytes ≡ flat_map instr_encoding is ++ (b ∷ rest))) × IsBytes rest
code_in_taken levels bytes is e rest fits h =
    let t = code_in_takes levels (instr_takes levels) bytes ((is, e), rest) fits h in
    ((ending_byte e, t.parts), t.rest_fits)

-- ---- what is encoded is read again

abbrev Again : (levels : ℕ) → Instr → Type 0
Again levels i = (rest : List ℕ) → instr_fits i levels ≡ true
    → (instr levels).reading (instr_encoding i ++ rest) ≡ Ok (i, rest)

begins : (levels : ℕ) (i : Instr) (k : ℕ) (text rest : List ℕ) → instr_encoding i ≡ k ∷ text
    → instr_of (nested_instruction levels) k (text ++ rest) ≡ Ok (i, rest)
    → (instr levels).reading (instr_encoding i ++ rest) ≡ Ok (i, rest)
begins levels i k text rest e again = ap (λ (s : List ℕ). (instr levels).reading (s ++ rest)) e ∙ again

numeric_again : (levels : ℕ) (n : numeric.Numeric) (rest : List ℕ)
    → instr_of (nested_instruction levels) (numeric_opcode n) rest ≡ Ok (Numeric n, rest)
unfolding plain_of variable_of memory_of load_of store_of numeric_of
numeric_again levels I32Eqz rest = refl
numeric_again levels (I32Relation rel.Eq) rest = refl
numeric_again levels (I32Relation rel.Ne) rest = refl
numeric_again levels (I32Relation rel.LtS) rest = refl
numeric_again levels (I32Relation rel.LtU) rest = refl
numeric_again levels (I32Relation rel.GtS) rest = refl
numeric_again levels (I32Relation rel.GtU) rest = refl
numeric_again levels (I32Relation rel.LeS) rest = refl
numeric_again levels (I32Relation rel.LeU) rest = refl
numeric_again levels (I32Relation rel.GeS) rest = refl
numeric_again levels (I32Relation rel.GeU) rest = refl
numeric_again levels I64Eqz rest = refl
numeric_again levels (I64Relation rel.Eq) rest = refl
numeric_again levels (I64Relation rel.Ne) rest = refl
numeric_again levels (I64Relation rel.LtS) rest = refl
numeric_again levels (I64Relation rel.LtU) rest = refl
numeric_again levels (I64Relation rel.GtS) rest = refl
numeric_again levels (I64Relation rel.GtU) rest = refl
numeric_again levels (I64Relation rel.LeS) rest = refl
numeric_again levels (I64Relation rel.LeU) rest = refl
numeric_again levels (I64Relation rel.GeS) rest = refl
numeric_again levels (I64Relation rel.GeU) rest = refl
numeric_again levels I32Add rest = refl
numeric_again levels (I64Operation op.Add) rest = refl
numeric_again levels (I64Operation op.Sub) rest = refl
numeric_again levels (I64Operation op.Mul) rest = refl
numeric_again levels (I64Operation op.DivS) rest = refl
numeric_again levels (I64Operation op.DivU) rest = refl
numeric_again levels (I64Operation op.RemS) rest = refl
numeric_again levels (I64Operation op.RemU) rest = refl
numeric_again levels (I64Operation op.And) rest = refl
numeric_again levels (I64Operation op.Or) rest = refl
numeric_again levels (I64Operation op.Xor) rest = refl
numeric_again levels (I64Operation op.Shl) rest = refl
numeric_again levels (I64Operation op.ShrU) rest = refl
numeric_again levels I32WrapI64 rest = refl
numeric_again levels I64ExtendI32S rest = refl
numeric_again levels I64ExtendI32U rest = refl

load_again : (levels : ℕ) (l : load.Load) (rest : List ℕ)
    → instr_of (nested_instruction levels) (load_opcode l) (0x00 ∷ 0x00 ∷ rest) ≡ Ok (Load l, rest)
unfolding plain_of variable_of memory_of load_of store_of numeric_of
load_again levels loads.I64 rest = refl
load_again levels loads.I64From8U rest = refl
load_again levels loads.I64From16U rest = refl
load_again levels loads.I64From32S rest = refl
load_again levels loads.I64From32U rest = refl

store_again : (levels : ℕ) (w : StoreWidth) (rest : List ℕ)
    → instr_of (nested_instruction levels) (store_opcode w) (0x00 ∷ 0x00 ∷ rest) ≡ Ok (Store w, rest)
unfolding plain_of variable_of memory_of load_of store_of numeric_of
store_again levels Eight rest = refl
store_again levels One rest = refl
store_again levels Two rest = refl
store_again levels Four rest = refl

again-Br : (levels n : ℕ) → Again levels (Br n)
unfolding plain_of variable_of
again-Br levels n rest fits = begins levels (Br n) 0x0C (unsigned.encoding n) rest (encoded-Br n)
    (rw (unsigned_law.again n rest (sym (fits-Br n levels) ∙ fits)) refl)

again-BrIf : (levels n : ℕ) → Again levels (BrIf n)
unfolding plain_of variable_of
again-BrIf levels n rest fits = begins levels (BrIf n) 0x0D (unsigned.encoding n) rest (encoded-BrIf n)
    (rw (unsigned_law.again n rest (sym (fits-BrIf n levels) ∙ fits)) refl)

again-Call : (levels n : ℕ) → Again levels (Call n)
unfolding plain_of variable_of
again-Call levels n rest fits = begins levels (Call n) 0x10 (unsigned.encoding n) rest (encoded-Call n)
    (rw (unsigned_law.again n rest (sym (fits-Call n levels) ∙ fits)) refl)

again-LocalGet : (levels n : ℕ) → Again levels (LocalGet n)
unfolding plain_of variable_of
again-LocalGet levels n rest fits = begins levels (LocalGet n) 0x20 (unsigned.encoding n) rest (encoded-LocalGet n)
    (rw (unsigned_law.again n rest (sym (fits-LocalGet n levels) ∙ fits)) refl)

again-LocalSet : (levels n : ℕ) → Again levels (LocalSet n)
unfolding plain_of variable_of
again-LocalSet levels n rest fits = begins levels (LocalSet n) 0x21 (unsigned.encoding n) rest (encoded-LocalSet n)
    (rw (unsigned_law.again n rest (sym (fits-LocalSet n levels) ∙ fits)) refl)

again-LocalTee : (levels n : ℕ) → Again levels (LocalTee n)
unfolding plain_of variable_of
again-LocalTee levels n rest fits = begins levels (LocalTee n) 0x22 (unsigned.encoding n) rest (encoded-LocalTee n)
    (rw (unsigned_law.again n rest (sym (fits-LocalTee n levels) ∙ fits)) refl)

again-GlobalGet : (levels n : ℕ) → Again levels (GlobalGet n)
unfolding plain_of variable_of
again-GlobalGet levels n rest fits = begins levels (GlobalGet n) 0x23 (unsigned.encoding n) rest (encoded-GlobalGet n)
    (rw (unsigned_law.again n rest (sym (fits-GlobalGet n levels) ∙ fits)) refl)

again-I32Const : (levels n : ℕ) → Again levels (I32Const n)
unfolding plain_of variable_of
again-I32Const levels n rest fits = begins levels (I32Const n) 0x41 (signed32.encoding n) rest (encoded-I32Const n)
    (rw (signed32_law.again n rest (sym (fits-I32Const n levels) ∙ fits)) refl)

again-I64Const : (levels n : ℕ) → Again levels (I64Const n)
unfolding plain_of variable_of
again-I64Const levels n rest fits = begins levels (I64Const n) 0x42 (signed64.encoding n) rest (encoded-I64Const n)
    (rw (signed64_law.again n rest (sym (fits-I64Const n levels) ∙ fits)) refl)

again-Unreachable : (levels : ℕ) → Again levels Unreachable
unfolding plain_of variable_of
again-Unreachable levels rest fits = begins levels Unreachable 0x00 [] rest encoded-Unreachable refl

again-Return : (levels : ℕ) → Again levels Return
unfolding plain_of variable_of
again-Return levels rest fits = begins levels Return 0x0F [] rest encoded-Return refl

again-Drop : (levels : ℕ) → Again levels Drop
unfolding plain_of variable_of
again-Drop levels rest fits = begins levels Drop 0x1A [] rest encoded-Drop refl

again-BrTable : (levels : ℕ) (ls : List ℕ) (l : ℕ) → Again levels (BrTable ls l)
unfolding plain_of
again-BrTable levels ls l rest fits =
    let f = and_parts ((vector unsigned).fits ls) (unsigned.fits l) (sym (fits-BrTable ls l levels) ∙ fits) in
    begins levels (BrTable ls l) 0x0E ((vector unsigned).encoding ls ++ unsigned.encoding l) rest (encoded-BrTable ls l)
    (rw (
      append_assoc ((vector unsigned).encoding ls) (unsigned.encoding l) rest,
      (vector_law unsigned unsigned_law).again ls (unsigned.encoding l ++ rest) f.0,
      unsigned_law.again l rest f.1,
    )
    refl)

again-CallIndirect : (levels t : ℕ) → Again levels (CallIndirect t)
unfolding plain_of
again-CallIndirect levels t rest fits =
    begins levels (CallIndirect t) 0x11 (unsigned.encoding t ++ 0x00 ∷ []) rest (encoded-CallIndirect t)
    (rw (
      append_assoc (unsigned.encoding t) (0x00 ∷ []) rest,
      unsigned_law.again t (0x00 ∷ rest)
          (sym (fits-CallIndirect t levels) ∙ fits),
    ) refl)

again-Load : (levels : ℕ) (l : load.Load) → Again levels (Load l)
again-Load levels l rest fits = begins levels (Load l) (load_opcode l) (0x00 ∷ 0x00 ∷ []) rest (encoded-Load l)
    (load_again levels l rest)

again-Store : (levels : ℕ) (w : StoreWidth) → Again levels (Store w)
again-Store levels w rest fits = begins levels (Store w) (store_opcode w) (0x00 ∷ 0x00 ∷ []) rest (encoded-Store w)
    (store_again levels w rest)

again-Numeric : (levels : ℕ) (n : numeric.Numeric) → Again levels (Numeric n)
again-Numeric levels n rest fits = begins levels (Numeric n) (numeric_opcode n) [] rest (encoded-Numeric n)
    (numeric_again levels n rest)

-- the same of those with others inside
record NestedAgain (levels : ℕ) : Type 0 where
  block : (t : Option ValueType) (is : List Instr) → Again levels (Block t is)
  loop : (t : Option ValueType) (is : List Instr) → Again levels (Loop t is)
  one : (t : Option ValueType) (is : List Instr) → Again levels (If t is None)
  two : (t : Option ValueType) (is others : List Instr) → Again levels (If t is (Some others))

module _ (levels : ℕ) (nested : NestedAgain levels) where
  rolled : (x : Instr-F Instr) (i : Instr) → roll-Instr x ≡ i → Again levels i → Again levels (roll-Instr x)
  rolled x i e again = subst (λ (j : Instr). Again levels j) (sym e) again

  layer_again : (x : Instr-F Instr) → Again levels (roll-Instr x)
  layer_again (layer.Block t is) = rolled (layer.Block t is) (Block t is) (rolls-Block t is) (nested.block t is)
  layer_again (layer.Loop t is) = rolled (layer.Loop t is) (Loop t is) (rolls-Loop t is) (nested.loop t is)
  layer_again (layer.If t is None) = rolled (layer.If t is None) (If t is None) (rolls-If t is None) (nested.one t is)
  layer_again (layer.If t is (Some others)) =
      rolled (layer.If t is (Some others)) (If t is (Some others)) (rolls-If t is (Some others))
      (nested.two t is others)
  layer_again layer.Unreachable = rolled layer.Unreachable Unreachable rolls-Unreachable (again-Unreachable levels)
  layer_again (layer.Br l) = rolled (layer.Br l) (Br l) (rolls-Br l) (again-Br levels l)
  layer_again (layer.BrIf l) = rolled (layer.BrIf l) (BrIf l) (rolls-BrIf l) (again-BrIf levels l)
  layer_again (layer.BrTable ls l) = rolled (layer.BrTable ls l) (BrTable ls l) (rolls-BrTable ls l)
      (again-BrTable levels ls l)
  layer_again layer.Return = rolled layer.Return Return rolls-Return (again-Return levels)
  layer_again (layer.Call f) = rolled (layer.Call f) (Call f) (rolls-Call f) (again-Call levels f)
  layer_again (layer.CallIndirect t) = rolled (layer.CallIndirect t) (CallIndirect t) (rolls-CallIndirect t)
      (again-CallIndirect levels t)
  layer_again layer.Drop = rolled layer.Drop Drop rolls-Drop (again-Drop levels)
  layer_again (layer.LocalGet x) = rolled (layer.LocalGet x) (LocalGet x) (rolls-LocalGet x) (again-LocalGet levels x)
  layer_again (layer.LocalSet x) = rolled (layer.LocalSet x) (LocalSet x) (rolls-LocalSet x) (again-LocalSet levels x)
  layer_again (layer.LocalTee x) = rolled (layer.LocalTee x) (LocalTee x) (rolls-LocalTee x) (again-LocalTee levels x)
  layer_again (layer.GlobalGet x) = rolled (layer.GlobalGet x) (GlobalGet x) (rolls-GlobalGet x)
      (again-GlobalGet levels x)
  layer_again (layer.Load l) = rolled (layer.Load l) (Load l) (rolls-Load l) (again-Load levels l)
  layer_again (layer.Store w) = rolled (layer.Store w) (Store w) (rolls-Store w) (again-Store levels w)
  layer_again (layer.I32Const n) = rolled (layer.I32Const n) (I32Const n) (rolls-I32Const n) (again-I32Const levels n)
  layer_again (layer.I64Const n) = rolled (layer.I64Const n) (I64Const n) (rolls-I64Const n) (again-I64Const levels n)
  layer_again (layer.Numeric n) = rolled (layer.Numeric n) (Numeric n) (rolls-Numeric n) (again-Numeric levels n)

  each_again : (i : Instr) → Again levels i
  each_again i = subst (λ (j : Instr). Again levels j) (roll-out-Instr i) (layer_again (out-Instr i))

ends_nothing : (levels : ℕ) (bytes : List ℕ) → instr_of (nested_instruction levels) 0x0B bytes ≡ Err OutsideProfile
unfolding plain_of variable_of memory_of load_of store_of numeric_of
ends_nothing levels bytes = refl

else_nothing : (levels : ℕ) (bytes : List ℕ) → instr_of (nested_instruction levels) 0x05 bytes ≡ Err OutsideProfile
unfolding plain_of variable_of memory_of load_of store_of numeric_of
else_nothing levels bytes = refl

no_ending : (levels b : ℕ) (bytes : List ℕ) (i : Instr) (rest : List ℕ)
    → instr_of (nested_instruction levels) b bytes ≡ Ok (i, rest) → ending_of b ≡ None
no_ending levels b bytes i rest e =
    elim (cases_Bool (eqb b 0x0B)) [
      | inl same ↦ absurd (refused i rest (sym (ends_nothing levels bytes)
          ∙ subst (λ (k : ℕ). instr_of (nested_instruction levels) k bytes ≡ Ok (i, rest)) (eqb-true b 0x0B same) e))
      | inr other ↦
          elim (cases_Bool (eqb b 0x05)) [
            | inl same ↦ absurd (refused i rest (sym (else_nothing levels bytes)
                ∙ subst (λ (k : ℕ). instr_of (nested_instruction levels) k bytes ≡ Ok (i, rest)) (eqb-true b 0x05 same)
                e))
            | inr another ↦ rw (other, another) refl
          ]
    ]

-- an instruction that is read again stands before what is still read
step_again : (levels most : ℕ) (bytes : List ℕ) (i : Instr) (rest : List ℕ)
    → (instr levels).reading bytes ≡ Ok (i, rest)
    → sequence (nested_instruction levels) (suc most) bytes
    ≡ with_instrs (i ∷ []) (sequence (nested_instruction levels) most rest)
unfolding sequence
step_again levels most [] i rest e = absurd cc
step_again levels most (b ∷ bytes) i rest e =
    let none = no_ending levels b bytes i rest e in
    rw (none, e, sequence) refl

ending_again : (levels most : ℕ) (e : Ending) (rest : List ℕ)
    → sequence (nested_instruction levels) (suc most) (ending_byte e ∷ rest) ≡ Ok (([], e), rest)
unfolding sequence
ending_again levels most End rest = refl
ending_again levels most Else rest = refl

module _ (levels : ℕ) (again : (i : Instr) → Again levels i) where
  sequence_again : (most : ℕ) (is : List Instr) (e : Ending) (rest : List ℕ) → length is < most
      → all_fit levels is ≡ true → sequence (nested_instruction levels) most
      (flat_map instr_encoding is ++ (ending_byte e ∷ rest)) ≡ Ok ((is, e), rest)
  sequence_again zero is e rest room fits = absurd (omega arith)
  sequence_again (suc most) [] e rest room fits = ending_again levels most e rest
  sequence_again (suc most) (i ∷ is) e rest room fits =
      let f = and_parts (instr_fits i levels) (all_fit levels is) fits in
      let text : List ℕ = flat_map instr_encoding is ++ (ending_byte e ∷ rest) in
      let one = step_again levels most (instr_encoding i ++ text) i text (again i text f.0) in
      ap (sequence (nested_instruction levels) (suc most))
      (append_assoc (instr_encoding i) (flat_map instr_encoding is) (ending_byte e ∷ rest)) ∙ one
      ∙ ap (with_instrs (i ∷ [])) (sequence_again most is e rest (omega arith) f.1)

  none_read : (i : Instr) → (instr levels).reading [] ≡ Ok (i, []) → ⊥
  none_read i e = cc

  nil_or_some : (text : List ℕ) → (text ≡ []) ⊎ (0 < length text)
  nil_or_some [] = inl refl
  nil_or_some (b ∷ text) = inr (omega arith)

  instr_some : (i : Instr) → instr_fits i levels ≡ true → 0 < length (instr_encoding i)
  instr_some i fits = elim (nil_or_some (instr_encoding i)) [
    | inl none ↦ absurd (none_read i (ap (λ (s : List ℕ). (instr levels).reading (s ++ [])) (sym none)
        ∙ again i [] fits))
    | inr some ↦ some
  ]

  code_longer : (is : List Instr) → all_fit levels is ≡ true → length is ≤ length (flat_map instr_encoding is)
  code_longer [] fits = omega arith
  code_longer (i ∷ is) fits =
      let f = and_parts (instr_fits i levels) (all_fit levels is) fits in
      omega (arith, length-append (instr_encoding i) (flat_map instr_encoding is), instr_some i f.0, code_longer is f.1)

  code_in_again : (is : List Instr) (e : Ending) (rest : List ℕ) → all_fit levels is ≡ true
      → code_in levels (flat_map instr_encoding is ++ (ending_byte e ∷ rest)) ≡ Ok ((is, e), rest)
  code_in_again is e rest fits =
      let room : length is < length (flat_map instr_encoding is ++ (ending_byte e ∷ rest)) =
      omega (arith, length-append (flat_map instr_encoding is) (ending_byte e ∷ rest), code_longer is fits) in
      sequence_again (length (flat_map instr_encoding is ++ (ending_byte e ∷ rest))) is e rest room fits

  block_again : (b : ℕ) (t : Option ValueType) (is : List Instr) (rest : List ℕ) → all_fit levels is ≡ true
      → nested_instruction (suc levels) b (((block_type.encoding t ++ flat_map instr_encoding is) ++ 0x0B ∷ []) ++ rest)
      ≡ Ok (one_sided b t is, rest)
  unfolding nested_instruction
  block_again b t is rest fits = rw (
    regroup_block (block_type.encoding t) (flat_map instr_encoding is) rest,
    block_type_again t (flat_map instr_encoding is ++ (0x0B ∷ rest)),
    code_in_again is End rest fits,
  ) refl

  if_again : (t : Option ValueType) (is others : List Instr) (rest : List ℕ) → all_fit levels is ≡ true
      → all_fit levels others ≡ true
      → nested_instruction (suc levels) 0x04
      (((block_type.encoding t ++ flat_map instr_encoding is)
      ++ (0x05 ∷ flat_map instr_encoding others ++ 0x0B ∷ [])) ++ rest) ≡ Ok (If t is (Some others), rest)
  unfolding nested_instruction
  if_again t is others rest fits more =
      let behind : List ℕ = flat_map instr_encoding others ++ (0x0B ∷ rest) in
      rw (
        regroup_if (block_type.encoding t) (flat_map instr_encoding is) (flat_map instr_encoding others) rest,
        block_type_again t (flat_map instr_encoding is ++ (0x05 ∷ behind)),
        code_in_again is Else behind fits,
        code_in_again others End rest more,
      )
      refl

  nested_again : NestedAgain (suc levels)
  nested_again = record {
    block = λ t is rest fits. begins (suc levels) (Block t is) 0x02
        ((block_type.encoding t ++ flat_map instr_encoding is) ++ 0x0B ∷ []) rest (encoded-Block t is)
        (block_again 0x02 t is rest (sym (fits-Block t is levels) ∙ fits));
    loop = λ t is rest fits. begins (suc levels) (Loop t is) 0x03
        ((block_type.encoding t ++ flat_map instr_encoding is) ++ 0x0B ∷ []) rest (encoded-Loop t is)
        (block_again 0x03 t is rest (sym (fits-Loop t is levels) ∙ fits));
    one = λ t is rest fits. begins (suc levels) (If t is None) 0x04
        ((block_type.encoding t ++ flat_map instr_encoding is) ++ 0x0B ∷ []) rest (encoded-If-None t is)
        (block_again 0x04 t is rest (sym (fits-If-None t is levels) ∙ fits));
    two = λ t is others rest fits.
        let f = and_parts (all_fit levels is) (all_fit levels others) (sym (fits-If-Some t is others levels) ∙ fits) in
        begins (suc levels) (If t is (Some others)) 0x04
        ((block_type.encoding t ++ flat_map instr_encoding is)
        ++ (0x05 ∷ flat_map instr_encoding others ++ 0x0B ∷ [])) rest (encoded-If-Some t is others)
        (if_again t is others rest f.0 f.1);
  }

false_true : {P : Type 0} → ◌≡◌ {A = Bool} false true → P
false_true e = absurd cc

none_nested : NestedAgain 0
none_nested = record {
  block = λ t is rest fits. false_true (sym (none-Block t is) ∙ fits);
  loop = λ t is rest fits. false_true (sym (none-Loop t is) ∙ fits);
  one = λ t is rest fits. false_true (sym (none-If t is None) ∙ fits);
  two = λ t is others rest fits. false_true (sym (none-If t is (Some others)) ∙ fits);
}

instr_again : (levels : ℕ) (i : Instr) → Again levels i
instr_again zero i = each_again 0 none_nested i
instr_again (suc levels) i = each_again (suc levels) (nested_again levels (instr_again levels)) i

-- ---- code

pub code_takes : (levels : ℕ) (bytes : List ℕ) (is : List Instr) (rest : List ℕ) → IsBytes bytes
    → (code_within levels).reading bytes ≡ Ok (is, rest) → Taken (code_within levels) bytes is rest
code_takes levels bytes is rest fits e =
    let t = ended_takes levels (code_in_takes levels (instr_takes levels)) bytes is rest fits e in
    record {
      parts = t.parts ∙ sym (append_assoc (flat_map instr_encoding is) (0x0B ∷ []) rest);
      rest_fits =
          t.rest_fits;
      fits = t.fits;
    }

code_again : (levels : ℕ) (is : List Instr) (rest : List ℕ) → all_fit levels is ≡ true
    → (code_within levels).reading ((flat_map instr_encoding is ++ 0x0B ∷ []) ++ rest) ≡ Ok (is, rest)
code_again levels is rest fits = rw (
  append_assoc (flat_map instr_encoding is) (0x0B ∷ []) rest,
  code_in_again levels
      (instr_again levels) is End rest fits,
) refl

within_law : (levels : ℕ) → Law (code_within levels)
within_law levels = record { takes = code_takes levels; again = code_again levels }

pub code_law : Law code
unfolding code
code_law = within_law 4096
