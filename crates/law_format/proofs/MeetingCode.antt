-- Two encodings of code: where they differ first, a byte differs, and in the same place.
use Rattle.std.proofs.Common.{◌≡◌, ◌⊎◌, ℕ, zero, suc, Bool, true, false, cond, eqb, List, [], ◌∷◌, ◌++◌, Option, Some, None, refl, sym, ap, subst, ◌∙◌, append_assoc, inl, inr}
use Rattle.std.specs.List.{flat_map}
use Rattle.std.proofs.lemmas.Bool.{and_parts}
use Rattle.wasm_tree.specs.declared.kinds.ValueType.{ValueType}
use Rattle.wasm_tree.specs.declared.kinds.ValueType.TheVariants.{I32, I64}
use Rattle.wasm_tree.specs.declared.instr.Relation.TheVariants as rel
use Rattle.wasm_tree.specs.declared.instr.Operation.TheVariants as op
use Rattle.wasm_tree.specs.declared.instr.Numeric as numeric
use Rattle.wasm_tree.specs.declared.instr.Numeric.TheVariants.{I32Eqz, I32Relation, I64Eqz, I64Relation, I32Add, I64Operation, I32WrapI64, I64ExtendI32S, I64ExtendI32U}
use Rattle.wasm_tree.specs.declared.instr.Load as load
use Rattle.wasm_tree.specs.declared.instr.Load.TheVariants as loads
use Rattle.wasm_tree.specs.declared.instr.StoreWidth.{StoreWidth}
use Rattle.wasm_tree.specs.declared.instr.StoreWidth.TheVariants as widths
use Rattle.wasm_tree.specs.declared.instr.Instr.{Instr, Instr-F, out-Instr, roll-Instr, roll-out-Instr}
use Rattle.wasm_tree.specs.declared.instr.Instr.TheOpen as layer
use Rattle.wasm_tree.specs.declared.instr.Instr.TheVariants.{Unreachable, Block, Loop, If, Br, BrIf, BrTable, Return, Call, CallIndirect, Drop, LocalGet, LocalSet, LocalTee, GlobalGet, Load, Store, I32Const, I64Const, Numeric}
use Rattle.wasm_tree.specs.declared.instr.Instr.TheVariants.{rolls-Block, rolls-Loop, rolls-If, rolls-Unreachable, rolls-Br, rolls-BrIf, rolls-BrTable, rolls-Return, rolls-Call, rolls-CallIndirect, rolls-Drop, rolls-LocalGet, rolls-LocalSet, rolls-LocalTee, rolls-GlobalGet, rolls-Load, rolls-Store, rolls-I32Const, rolls-I64Const, rolls-Numeric}
use Rattle.wasm_tree.specs.Format.{Format}
use Rattle.wasm_code.specs.Number.{unsigned, signed32, signed64}
use Rattle.wasm_code.specs.Opcode.{numeric_opcode, load_opcode, store_opcode}
use Rattle.wasm_code.specs.Parts.{◌◂◌, ◌·◌, vector}
use Rattle.wasm_code.specs.Instructions.{value_type, block_type, instr_fits, code}
use Rattle.wasm_code.proofs.Laws.{Law}
use Rattle.wasm_code.proofs.LawsNumber.{unsigned_law, signed32_law, signed64_law}
use Rattle.wasm_code.proofs.LawsParts.{behind_law, then_law, vector_law}
use Rattle.wasm_code.proofs.Fitting.{all_fit, fits-Block, none-Block, fits-Loop, none-Loop, fits-If-None, fits-If-Some, none-If, fits-Br, fits-BrIf, fits-BrTable, fits-Call, fits-CallIndirect, fits-LocalGet, fits-LocalSet, fits-LocalTee, fits-GlobalGet, fits-I32Const, fits-I64Const}
use Rattle.law_format.specs.Places.{Opcode, TypeOfValue, OtherByte, Cell, others, block_type_cells, opcode, instr_cells, code_cells}
use Rattle.law_format.proofs.Celled.{celled-Block, celled-Loop, celled-If-None, celled-If-Some, celled-Unreachable, celled-Br, celled-BrIf, celled-BrTable, celled-Return, celled-Call, celled-CallIndirect, celled-Drop, celled-LocalGet, celled-LocalSet, celled-LocalTee, celled-GlobalGet, celled-Load, celled-Store, celled-I32Const, celled-I64Const, celled-Numeric}
use Rattle.law_format.proofs.Meeting.{Bytes, same_number, two_encodings, Meet, meet_at, meet_then, Meets}

-- ---- what follows an opcode

data Shape : Type 0 where
  Bare : Shape
  Zeros : Shape
  OneNumber : Shape
  Signed32 : Shape
  Signed64 : Shape
  Table : Shape
  Indirect : Shape
  Opening : Shape
  Ending : Shape

shape_of : ℕ → Shape
shape_of b =
    cond (eqb b 0x02) Opening (cond (eqb b 0x03) Opening
    (cond (eqb b 0x04) Opening (cond (eqb b 0x05) Ending (cond (eqb b 0x0B) Ending
    (cond (eqb b 0x0C) OneNumber (cond (eqb b 0x0D) OneNumber
    (cond (eqb b 0x0E) Table (cond (eqb b 0x10) OneNumber (cond (eqb b 0x11) Indirect
    (cond (eqb b 0x20) OneNumber (cond (eqb b 0x21) OneNumber (cond (eqb b 0x22) OneNumber (cond (eqb b 0x23) OneNumber
    (cond (eqb b 0x29) Zeros (cond (eqb b 0x31) Zeros
    (cond (eqb b 0x33) Zeros (cond (eqb b 0x34) Zeros (cond (eqb b 0x35) Zeros
    (cond (eqb b 0x37) Zeros (cond (eqb b 0x3C) Zeros (cond (eqb b 0x3D) Zeros (cond (eqb b 0x3E) Zeros
    (cond (eqb b 0x41) Signed32 (cond (eqb b 0x42) Signed64 Bare))))))))))))))))))))))))

-- these bytes encode a value that fits
record Code {A : Type 0} (p : Format A) (bytes : List ℕ) : Type 0 where
  value : A
  fits : p.fits value ≡ true
  is : bytes ≡ p.encoding value

abbrev table : Format (List ℕ × ℕ)
table = vector unsigned · unsigned

abbrev Codes : Shape → List ℕ → Type 0
Codes Bare bytes = bytes ≡ []
Codes Zeros bytes = bytes ≡ 0x00 ∷ 0x00 ∷ []
Codes OneNumber bytes = Code unsigned bytes
Codes Signed32 bytes = Code signed32 bytes
Codes Signed64 bytes = Code signed64 bytes
Codes Table bytes = Code table bytes
Codes Indirect bytes = Code (unsigned ◂ 0x00) bytes
Codes Opening bytes = ⊥
Codes Ending bytes = ⊥

bytes_same : (xs : List ℕ) → Bytes xs xs
bytes_same [] = tt
bytes_same (x ∷ xs) = inr (refl, bytes_same xs)

bytes_are : (xs ys zs : List ℕ) → xs ≡ zs → ys ≡ zs → Bytes xs ys
bytes_are xs ys zs e f = subst (λ (t : List ℕ). Bytes xs t) (e ∙ sym f) (bytes_same xs)

codes_are : {A : Type 0} (p : Format A) → Law p → (xs ys : List ℕ) → Code p xs → Code p ys → Bytes xs ys
codes_are p law xs ys c d = subst (λ (t : List ℕ). Bytes t ys) (sym c.is)
    (subst (λ (t : List ℕ). Bytes (p.encoding c.value) t) (sym d.is)
    (two_encodings p law c.value d.value c.fits d.fits))

two_codes : (s : Shape) (xs ys : List ℕ) → Codes s xs → Codes s ys → Bytes xs ys
two_codes Bare xs ys c d = bytes_are xs ys [] c d
two_codes Zeros xs ys c d = bytes_are xs ys (0x00 ∷ 0x00 ∷ []) c d
two_codes OneNumber xs ys c d = codes_are unsigned unsigned_law xs ys c d
two_codes Signed32 xs ys c d = codes_are signed32 signed32_law xs ys c d
two_codes Signed64 xs ys c d = codes_are signed64 signed64_law xs ys c d
two_codes Table xs ys c d = codes_are table
    (then_law (vector unsigned) unsigned (vector_law unsigned unsigned_law) unsigned_law) xs ys c d
two_codes Indirect xs ys c d = codes_are (unsigned ◂ 0x00) (behind_law 0x00 unsigned unsigned_law) xs ys c d
two_codes Opening xs ys c d = absurd c
two_codes Ending xs ys c d = absurd c

-- ---- instructions with others inside

abbrev third_cells : Option (List Instr) → List Cell
third_cells None = opcode 0x0B []
third_cells (Some is) = (Opcode, 0x05) ∷ (flat_map instr_cells is ++ opcode 0x0B [])

abbrev third_fits : ℕ → Option (List Instr) → Bool
third_fits levels None = true
third_fits levels (Some is) = all_fit levels is

record Inside (levels : ℕ) (rest : List Cell) : Type 0 where
  type : Option ValueType
  first : List Instr
  third : Option (List Instr)
  is : rest ≡ block_type_cells type ++ (flat_map instr_cells first ++ third_cells third)
  fits : all_fit levels first ≡ true
  third_fits : third_fits levels third ≡ true

abbrev Nested : ℕ → List Cell → Type 0
Nested zero rest = ⊥
Nested (suc levels) rest = Inside levels rest

record Plainly (s : Shape) (rest : List Cell) : Type 0 where
  bytes : List ℕ
  is : rest ≡ others bytes
  codes : Codes s bytes

abbrev What : ℕ → Shape → List Cell → Type 0
What levels Bare rest = Plainly Bare rest
What levels Zeros rest = Plainly Zeros rest
What levels OneNumber rest = Plainly OneNumber rest
What levels Signed32 rest = Plainly Signed32 rest
What levels Signed64 rest = Plainly Signed64 rest
What levels Table rest = Plainly Table rest
What levels Indirect rest = Plainly Indirect rest
What levels Opening rest = Nested levels rest
What levels Ending rest = ⊥

record Seen (levels : ℕ) (i : Instr) : Type 0 where
  byte : ℕ
  rest : List Cell
  is : instr_cells i ≡ (Opcode, byte) ∷ rest
  what : What levels (shape_of byte) rest

plainly : (levels : ℕ) (s : Shape) (bytes : List ℕ) → Codes s bytes → What levels s (others bytes)
plainly levels Bare bytes c = record { bytes = bytes; is = refl; codes = c }
plainly levels Zeros bytes c = record { bytes = bytes; is = refl; codes = c }
plainly levels OneNumber bytes c = record { bytes = bytes; is = refl; codes = c }
plainly levels Signed32 bytes c = record { bytes = bytes; is = refl; codes = c }
plainly levels Signed64 bytes c = record { bytes = bytes; is = refl; codes = c }
plainly levels Table bytes c = record { bytes = bytes; is = refl; codes = c }
plainly levels Indirect bytes c = record { bytes = bytes; is = refl; codes = c }
plainly levels Opening bytes c = absurd c
plainly levels Ending bytes c = absurd c

plain_seen : (levels : ℕ) (i : Instr) (b : ℕ) (bytes : List ℕ) (s : Shape) → shape_of b ≡ s
    → instr_cells i ≡ opcode b bytes → Codes s bytes → Seen levels i
plain_seen levels i b bytes s e is c = record {
  byte = b;
  rest = others bytes;
  is = is;
  what =
      subst (λ (t : Shape). What levels t (others bytes)) (sym e) (plainly levels s bytes c);
}

nested_seen : (levels : ℕ) (i : Instr) (b : ℕ) (t : Option ValueType) (first : List Instr) (third : Option (List Instr))
    → shape_of b ≡ Opening
    → instr_cells i ≡ (Opcode, b) ∷ (block_type_cells t ++ (flat_map instr_cells first ++ third_cells third))
    → all_fit levels first ≡ true → third_fits levels third ≡ true → Seen (suc levels) i
nested_seen levels i b t first third e is h g = record {
  byte = b;
  rest = block_type_cells t ++ (flat_map instr_cells first ++ third_cells third);
  is = is;
  what = subst (λ (s : Shape). What (suc levels) s
      (block_type_cells t ++ (flat_map instr_cells first ++ third_cells third))) (sym e)
      (record { type = t; first = first; third = third; is = refl; fits = h; third_fits = g });
}

-- ---- the shape of each opcode

shape-00 : shape_of 0x00 ≡ Bare
unfolding shape_of
shape-00 = refl

shape-02 : shape_of 0x02 ≡ Opening
unfolding shape_of
shape-02 = refl

shape-03 : shape_of 0x03 ≡ Opening
unfolding shape_of
shape-03 = refl

shape-04 : shape_of 0x04 ≡ Opening
unfolding shape_of
shape-04 = refl

shape-05 : shape_of 0x05 ≡ Ending
unfolding shape_of
shape-05 = refl

shape-0B : shape_of 0x0B ≡ Ending
unfolding shape_of
shape-0B = refl

shape-0C : shape_of 0x0C ≡ OneNumber
unfolding shape_of
shape-0C = refl

shape-0D : shape_of 0x0D ≡ OneNumber
unfolding shape_of
shape-0D = refl

shape-0E : shape_of 0x0E ≡ Table
unfolding shape_of
shape-0E = refl

shape-0F : shape_of 0x0F ≡ Bare
unfolding shape_of
shape-0F = refl

shape-10 : shape_of 0x10 ≡ OneNumber
unfolding shape_of
shape-10 = refl

shape-11 : shape_of 0x11 ≡ Indirect
unfolding shape_of
shape-11 = refl

shape-1A : shape_of 0x1A ≡ Bare
unfolding shape_of
shape-1A = refl

shape-20 : shape_of 0x20 ≡ OneNumber
unfolding shape_of
shape-20 = refl

shape-21 : shape_of 0x21 ≡ OneNumber
unfolding shape_of
shape-21 = refl

shape-22 : shape_of 0x22 ≡ OneNumber
unfolding shape_of
shape-22 = refl

shape-23 : shape_of 0x23 ≡ OneNumber
unfolding shape_of
shape-23 = refl

shape-41 : shape_of 0x41 ≡ Signed32
unfolding shape_of
shape-41 = refl

shape-42 : shape_of 0x42 ≡ Signed64
unfolding shape_of
shape-42 = refl

shape-load : (l : load.Load) → shape_of (load_opcode l) ≡ Zeros
unfolding shape_of
shape-load loads.I64 = refl
shape-load loads.I64From8U = refl
shape-load loads.I64From16U = refl
shape-load loads.I64From32S = refl
shape-load loads.I64From32U = refl

shape-store : (w : StoreWidth) → shape_of (store_opcode w) ≡ Zeros
unfolding shape_of
shape-store widths.Eight = refl
shape-store widths.One = refl
shape-store widths.Two = refl
shape-store widths.Four = refl

shape-numeric : (n : numeric.Numeric) → shape_of (numeric_opcode n) ≡ Bare
unfolding shape_of
shape-numeric I32Eqz = refl
shape-numeric (I32Relation rel.Eq) = refl
shape-numeric (I32Relation rel.Ne) = refl
shape-numeric (I32Relation rel.LtS) = refl
shape-numeric (I32Relation rel.LtU) = refl
shape-numeric (I32Relation rel.GtS) = refl
shape-numeric (I32Relation rel.GtU) = refl
shape-numeric (I32Relation rel.LeS) = refl
shape-numeric (I32Relation rel.LeU) = refl
shape-numeric (I32Relation rel.GeS) = refl
shape-numeric (I32Relation rel.GeU) = refl
shape-numeric I64Eqz = refl
shape-numeric (I64Relation rel.Eq) = refl
shape-numeric (I64Relation rel.Ne) = refl
shape-numeric (I64Relation rel.LtS) = refl
shape-numeric (I64Relation rel.LtU) = refl
shape-numeric (I64Relation rel.GtS) = refl
shape-numeric (I64Relation rel.GtU) = refl
shape-numeric (I64Relation rel.LeS) = refl
shape-numeric (I64Relation rel.LeU) = refl
shape-numeric (I64Relation rel.GeS) = refl
shape-numeric (I64Relation rel.GeU) = refl
shape-numeric I32Add = refl
shape-numeric (I64Operation op.Add) = refl
shape-numeric (I64Operation op.Sub) = refl
shape-numeric (I64Operation op.Mul) = refl
shape-numeric (I64Operation op.DivS) = refl
shape-numeric (I64Operation op.DivU) = refl
shape-numeric (I64Operation op.RemS) = refl
shape-numeric (I64Operation op.RemU) = refl
shape-numeric (I64Operation op.And) = refl
shape-numeric (I64Operation op.Or) = refl
shape-numeric (I64Operation op.Xor) = refl
shape-numeric (I64Operation op.Shl) = refl
shape-numeric (I64Operation op.ShrU) = refl
shape-numeric I32WrapI64 = refl
shape-numeric I64ExtendI32S = refl
shape-numeric I64ExtendI32U = refl

-- ---- each instruction

false_true : {Q : Type 0} → ◌≡◌ {A = Bool} false true → Q
false_true e = absurd cc

abbrev Sees : ℕ → Instr → Type 0
Sees levels i = instr_fits i levels ≡ true → Seen levels i

number : (levels : ℕ) (i : Instr) (b n : ℕ) → shape_of b ≡ OneNumber → instr_cells i ≡ opcode b (unsigned.encoding n)
    → instr_fits i levels ≡ unsigned.fits n → Sees levels i
number levels i b n e is f h = plain_seen levels i b (unsigned.encoding n) OneNumber e is
    (record { value = n; fits = sym f ∙ h; is = refl })

block_seen : (levels : ℕ) (t : Option ValueType) (is : List Instr) → Sees levels (Block t is)
block_seen zero t is h = false_true (sym (none-Block t is) ∙ h)
block_seen (suc levels) t is h = nested_seen levels (Block t is) 0x02 t is None shape-02 (celled-Block t is)
    (sym (fits-Block t is levels) ∙ h) refl

loop_seen : (levels : ℕ) (t : Option ValueType) (is : List Instr) → Sees levels (Loop t is)
loop_seen zero t is h = false_true (sym (none-Loop t is) ∙ h)
loop_seen (suc levels) t is h = nested_seen levels (Loop t is) 0x03 t is None shape-03 (celled-Loop t is)
    (sym (fits-Loop t is levels) ∙ h) refl

if_seen : (levels : ℕ) (t : Option ValueType) (is : List Instr) (o : Option (List Instr)) → Sees levels (If t is o)
if_seen zero t is o h = false_true (sym (none-If t is o) ∙ h)
if_seen (suc levels) t is None h = nested_seen levels (If t is None) 0x04 t is None shape-04 (celled-If-None t is)
    (sym (fits-If-None t is levels) ∙ h) refl
if_seen (suc levels) t is (Some others') h =
    let f = and_parts (all_fit levels is) (all_fit levels others') (sym (fits-If-Some t is others' levels) ∙ h) in
    nested_seen levels (If t is (Some others')) 0x04 t is (Some others') shape-04 (celled-If-Some t is others') f.0 f.1

module _ (levels : ℕ) where
  rolled : (x : Instr-F Instr) (i : Instr) → roll-Instr x ≡ i → Sees levels i → Sees levels (roll-Instr x)
  rolled x i e s = subst (λ (j : Instr). Sees levels j) (sym e) s

  layer_seen : (x : Instr-F Instr) → Sees levels (roll-Instr x)
  layer_seen (layer.Block t is) = rolled (layer.Block t is) (Block t is) (rolls-Block t is) (block_seen levels t is)
  layer_seen (layer.Loop t is) = rolled (layer.Loop t is) (Loop t is) (rolls-Loop t is) (loop_seen levels t is)
  layer_seen (layer.If t is o) = rolled (layer.If t is o) (If t is o) (rolls-If t is o) (if_seen levels t is o)
  layer_seen layer.Unreachable = rolled layer.Unreachable Unreachable rolls-Unreachable
      (λ h. plain_seen levels Unreachable 0x00 [] Bare shape-00 celled-Unreachable refl)
  layer_seen (layer.Br l) = rolled (layer.Br l) (Br l) (rolls-Br l)
      (number levels (Br l) 0x0C l shape-0C (celled-Br l) (fits-Br l levels))
  layer_seen (layer.BrIf l) = rolled (layer.BrIf l) (BrIf l) (rolls-BrIf l)
      (number levels (BrIf l) 0x0D l shape-0D (celled-BrIf l) (fits-BrIf l levels))
  layer_seen (layer.BrTable ls l) =
      rolled (layer.BrTable ls l) (BrTable ls l) (rolls-BrTable ls l)
      (λ h. plain_seen levels (BrTable ls l) 0x0E ((vector unsigned).encoding ls ++ unsigned.encoding l) Table shape-0E
      (celled-BrTable ls l) (record { value = (ls, l); fits = sym (fits-BrTable ls l levels) ∙ h; is = refl }))
  layer_seen layer.Return = rolled layer.Return Return rolls-Return
      (λ h. plain_seen levels Return 0x0F [] Bare shape-0F celled-Return refl)
  layer_seen (layer.Call f) = rolled (layer.Call f) (Call f) (rolls-Call f)
      (number levels (Call f) 0x10 f shape-10 (celled-Call f) (fits-Call f levels))
  layer_seen (layer.CallIndirect t) =
      rolled (layer.CallIndirect t) (CallIndirect t) (rolls-CallIndirect t)
      (λ h. plain_seen levels (CallIndirect t) 0x11 (unsigned.encoding t ++ 0x00 ∷ []) Indirect shape-11
      (celled-CallIndirect t) (record { value = t; fits = sym (fits-CallIndirect t levels) ∙ h; is = refl }))
  layer_seen layer.Drop = rolled layer.Drop Drop rolls-Drop
      (λ h. plain_seen levels Drop 0x1A [] Bare shape-1A celled-Drop refl)
  layer_seen (layer.LocalGet x) = rolled (layer.LocalGet x) (LocalGet x) (rolls-LocalGet x)
      (number levels (LocalGet x) 0x20 x shape-20 (celled-LocalGet x) (fits-LocalGet x levels))
  layer_seen (layer.LocalSet x) = rolled (layer.LocalSet x) (LocalSet x) (rolls-LocalSet x)
      (number levels (LocalSet x) 0x21 x shape-21 (celled-LocalSet x) (fits-LocalSet x levels))
  layer_seen (layer.LocalTee x) = rolled (layer.LocalTee x) (LocalTee x) (rolls-LocalTee x)
      (number levels (LocalTee x) 0x22 x shape-22 (celled-LocalTee x) (fits-LocalTee x levels))
  layer_seen (layer.GlobalGet x) = rolled (layer.GlobalGet x) (GlobalGet x) (rolls-GlobalGet x)
      (number levels (GlobalGet x) 0x23 x shape-23 (celled-GlobalGet x) (fits-GlobalGet x levels))
  layer_seen (layer.Load l) = rolled (layer.Load l) (Load l) (rolls-Load l)
      (λ h. plain_seen levels (Load l) (load_opcode l) (0x00 ∷ 0x00 ∷ []) Zeros (shape-load l) (celled-Load l) refl)
  layer_seen (layer.Store w) = rolled (layer.Store w) (Store w) (rolls-Store w)
      (λ h. plain_seen levels (Store w) (store_opcode w) (0x00 ∷ 0x00 ∷ []) Zeros (shape-store w) (celled-Store w) refl)
  layer_seen (layer.I32Const n) =
      rolled (layer.I32Const n) (I32Const n) (rolls-I32Const n)
      (λ h. plain_seen levels (I32Const n) 0x41 (signed32.encoding n) Signed32 shape-41 (celled-I32Const n)
      (record { value = n; fits = sym (fits-I32Const n levels) ∙ h; is = refl }))
  layer_seen (layer.I64Const n) =
      rolled (layer.I64Const n) (I64Const n) (rolls-I64Const n)
      (λ h. plain_seen levels (I64Const n) 0x42 (signed64.encoding n) Signed64 shape-42 (celled-I64Const n)
      (record { value = n; fits = sym (fits-I64Const n levels) ∙ h; is = refl }))
  layer_seen (layer.Numeric n) = rolled (layer.Numeric n) (Numeric n) (rolls-Numeric n)
      (λ h. plain_seen levels (Numeric n) (numeric_opcode n) [] Bare (shape-numeric n) (celled-Numeric n) refl)

  seen : (i : Instr) → Sees levels i
  seen i = subst (λ (j : Instr). Sees levels j) (roll-out-Instr i) (layer_seen (out-Instr i))

-- ---- what stands behind a sequence

record Ends (cells : List Cell) : Type 0 where
  byte : ℕ
  rest : List Cell
  is : cells ≡ (Opcode, byte) ∷ rest
  shape : shape_of byte ≡ Ending

ends_here : Ends (opcode 0x0B [])
ends_here = record { byte = 0x0B; rest = []; is = refl; shape = shape-0B }

third_ends : (o : Option (List Instr)) → Ends (third_cells o)
third_ends None = ends_here
third_ends (Some is) = record {
  byte = 0x05;
  rest = flat_map instr_cells is ++ opcode 0x0B [];
  is = refl;
  shape =
      shape-05;
}

meet_as : (xs ys vs ws : List Cell) → vs ≡ xs → ws ≡ ys → Meet xs ys → Meet vs ws
meet_as xs ys vs ws e f m = subst (λ (t : List Cell). Meet t ws) (sym e)
    (subst (λ (t : List Cell). Meet xs t) (sym f) m)

other_byte : (levels : ℕ) (i : Instr) (s : Seen levels i) (x : List Cell) (e : Ends x) → s.byte ≡ e.byte → ⊥
other_byte levels i s x e same = none (subst (λ (t : Shape). What levels t s.rest) (ap shape_of same ∙ e.shape) s.what)
  where
    none : ⊥ → ⊥
    none h = h

module _ (levels : ℕ) (inner : (i j : Instr) → instr_fits i levels ≡ true → instr_fits j levels ≡ true
    → Meet (instr_cells i) (instr_cells j)) where
  sequences_meet : (xs ys : List Instr) (x y : List Cell) → Ends x → Ends y → all_fit levels xs ≡ true
      → all_fit levels ys ≡ true → Meet x y → Meet (flat_map instr_cells xs ++ x) (flat_map instr_cells ys ++ y)
  sequences_meet [] [] x y ex ey h g m = m
  sequences_meet [] (j ∷ ys) x y ex ey h g m =
      let s = seen levels j (and_parts (instr_fits j levels) (all_fit levels ys) g).0 in
      meet_as ((Opcode, ex.byte) ∷ ex.rest) ((Opcode, s.byte) ∷ ((s.rest ++ flat_map instr_cells ys) ++ y)) x
      ((instr_cells j ++ flat_map instr_cells ys) ++ y) ex.is
      (ap (λ (c : List Cell). (c ++ flat_map instr_cells ys) ++ y) s.is)
      (inl (refl, λ e. other_byte levels j s x ex (sym e)))
  sequences_meet (i ∷ xs) [] x y ex ey h g m =
      let s = seen levels i (and_parts (instr_fits i levels) (all_fit levels xs) h).0 in
      meet_as ((Opcode, s.byte) ∷ ((s.rest ++ flat_map instr_cells xs) ++ x)) ((Opcode, ey.byte) ∷ ey.rest)
      ((instr_cells i ++ flat_map instr_cells xs) ++ x) y
      (ap (λ (c : List Cell). (c ++ flat_map instr_cells xs) ++ x) s.is) ey.is
      (inl (refl, λ e. other_byte levels i s y ey e))
  sequences_meet (i ∷ xs) (j ∷ ys) x y ex ey h g m =
      let f = and_parts (instr_fits i levels) (all_fit levels xs) h in
      let k = and_parts (instr_fits j levels) (all_fit levels ys) g in
      meet_as (instr_cells i ++ (flat_map instr_cells xs ++ x)) (instr_cells j ++ (flat_map instr_cells ys ++ y))
      ((instr_cells i ++ flat_map instr_cells xs) ++ x) ((instr_cells j ++ flat_map instr_cells ys) ++ y)
      (append_assoc (instr_cells i) (flat_map instr_cells xs) x)
      (append_assoc (instr_cells j) (flat_map instr_cells ys) y)
      (meet_then (instr_cells i) (instr_cells j) (flat_map instr_cells xs ++ x) (flat_map instr_cells ys ++ y)
      (inner i j f.0 k.0) (sequences_meet xs ys x y ex ey f.1 k.1 m))

  ended_meet : (xs ys : List Instr) → all_fit levels xs ≡ true → all_fit levels ys ≡ true
      → Meet (flat_map instr_cells xs ++ opcode 0x0B []) (flat_map instr_cells ys ++ opcode 0x0B [])
  ended_meet xs ys h g = sequences_meet xs ys (opcode 0x0B []) (opcode 0x0B []) ends_here ends_here h g (inr (refl, tt))

  thirds_meet : (o p : Option (List Instr)) → third_fits levels o ≡ true → third_fits levels p ≡ true
      → Meet (third_cells o) (third_cells p)
  thirds_meet None None h g = inr (refl, tt)
  thirds_meet None (Some ys) h g = inl (refl, λ e. absurd cc)
  thirds_meet (Some xs) None h g = inl (refl, λ e. absurd cc)
  thirds_meet (Some xs) (Some ys) h g = inr (refl, ended_meet xs ys h g)

one_byte : (a b : ℕ) → Bytes (a ∷ []) (b ∷ [])
one_byte a b = elim (same_number a b) [
  | inl e ↦ inr (e, tt)
  | inr ne ↦ inl ne
]

block_types : (t u : Option ValueType) → Bytes (block_type.encoding t) (block_type.encoding u)
unfolding block_type value_type
block_types None None = one_byte 0x40 0x40
block_types None (Some I32) = one_byte 0x40 0x7F
block_types None (Some I64) = one_byte 0x40 0x7E
block_types (Some I32) None = one_byte 0x7F 0x40
block_types (Some I32) (Some I32) = one_byte 0x7F 0x7F
block_types (Some I32) (Some I64) = one_byte 0x7F 0x7E
block_types (Some I64) None = one_byte 0x7E 0x40
block_types (Some I64) (Some I32) = one_byte 0x7E 0x7F
block_types (Some I64) (Some I64) = one_byte 0x7E 0x7E

-- ---- two instructions

abbrev InstrsMeet : ℕ → Type 0
InstrsMeet levels = (i j : Instr) → instr_fits i levels ≡ true → instr_fits j levels ≡ true
    → Meet (instr_cells i) (instr_cells j)

plainly_meet : (s : Shape) (x y : List Cell) → Plainly s x → Plainly s y → Meet x y
plainly_meet s x y p q = meet_as (others p.bytes) (others q.bytes) x y p.is q.is
    (meet_at OtherByte p.bytes q.bytes (two_codes s p.bytes q.bytes p.codes q.codes))

inside_meet : (levels : ℕ) → InstrsMeet levels → (x y : List Cell) → Inside levels x → Inside levels y → Meet x y
inside_meet levels inner x y p q =
    meet_as (block_type_cells p.type ++ (flat_map instr_cells p.first ++ third_cells p.third))
    (block_type_cells q.type ++ (flat_map instr_cells q.first ++ third_cells q.third)) x y p.is q.is
    (meet_then (block_type_cells p.type) (block_type_cells q.type) (flat_map instr_cells p.first ++ third_cells p.third)
    (flat_map instr_cells q.first ++ third_cells q.third)
    (meet_at TypeOfValue (block_type.encoding p.type) (block_type.encoding q.type) (block_types p.type q.type))
    (sequences_meet levels inner p.first q.first (third_cells p.third) (third_cells q.third) (third_ends p.third)
    (third_ends q.third) p.fits q.fits (thirds_meet levels inner p.third q.third p.third_fits q.third_fits)))

abbrev NestedMeet : ℕ → Type 0
NestedMeet levels = (x y : List Cell) → Nested levels x → Nested levels y → Meet x y

what_meets : (levels : ℕ) → NestedMeet levels → (s : Shape) (x y : List Cell) → What levels s x → What levels s y
    → Meet x y
what_meets levels nested Bare x y p q = plainly_meet Bare x y p q
what_meets levels nested Zeros x y p q = plainly_meet Zeros x y p q
what_meets levels nested OneNumber x y p q = plainly_meet OneNumber x y p q
what_meets levels nested Signed32 x y p q = plainly_meet Signed32 x y p q
what_meets levels nested Signed64 x y p q = plainly_meet Signed64 x y p q
what_meets levels nested Table x y p q = plainly_meet Table x y p q
what_meets levels nested Indirect x y p q = plainly_meet Indirect x y p q
what_meets levels nested Opening x y p q = nested x y p q
what_meets levels nested Ending x y p q = absurd p

two_seen : (levels : ℕ) → NestedMeet levels → (i j : Instr) → Seen levels i → Seen levels j
    → Meet (instr_cells i) (instr_cells j)
two_seen levels nested i j s t = meet_as ((Opcode, s.byte) ∷ s.rest) ((Opcode, t.byte) ∷ t.rest) (instr_cells i)
    (instr_cells j) s.is t.is (by_byte (same_number s.byte t.byte))
  where
    by_byte : (s.byte ≡ t.byte) ⊎ (s.byte ≡ t.byte → ⊥) → Meet ((Opcode, s.byte) ∷ s.rest) ((Opcode, t.byte) ∷ t.rest)
    by_byte (inl e) = inr (
      ap (λ (b : ℕ). (Opcode, b)) e,
      what_meets levels nested (shape_of s.byte) s.rest t.rest
          s.what (subst (λ (b : ℕ). What levels (shape_of b) t.rest) (sym e) t.what),
    )
    by_byte (inr ne) = inl (refl, ne)

instrs_meet : (levels : ℕ) → InstrsMeet levels
instrs_meet zero i j h g = two_seen zero (λ x y p q. absurd p) i j (seen zero i h) (seen zero j g)
instrs_meet (suc levels) i j h g = two_seen (suc levels) (inside_meet levels (instrs_meet levels)) i j
    (seen (suc levels) i h) (seen (suc levels) j g)

pub code_meets : Meets code code_cells
unfolding code
code_meets xs ys h g = ended_meet 4096 (instrs_meet 4096) xs ys h g
