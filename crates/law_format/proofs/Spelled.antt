-- The cells of an encoding are its bytes, and these are below 256.
use Rattle.std.proofs.Common.{◌≡◌, ℕ, zero, suc, ◌+◌, ◌-◌, ◌/◌, ◌%◌, ◌^◌, ◌<◌, ◌≤◌, Bool, true, false, List, [], ◌∷◌, ◌++◌, length, map, Option, Some, None, refl, sym, ap, subst, ◌∙◌, append_assoc, arith, inl, inr}
use Rattle.std.specs.List.{concat, flat_map, list_all}
use Rattle.std.proofs.lemmas.Bool.{cases_lt, lt-ltb, le-ltb, ltb-true, le-leb, lt-leb, and_parts}
use Rattle.wasm_tree.specs.declared.kinds.ValueType.{ValueType}
use Rattle.wasm_tree.specs.declared.kinds.ValueType.TheVariants.{I32, I64}
use Rattle.wasm_tree.specs.declared.instr.Relation.{Relation}
use Rattle.wasm_tree.specs.declared.instr.Relation.TheVariants as rel
use Rattle.wasm_tree.specs.declared.instr.Operation.TheVariants as op
use Rattle.wasm_tree.specs.declared.instr.Numeric as numeric
use Rattle.wasm_tree.specs.declared.instr.Numeric.TheVariants.{I32Eqz, I32Relation, I64Eqz, I64Relation, I32Add, I64Operation, I32WrapI64, I64ExtendI32S, I64ExtendI32U}
use Rattle.wasm_tree.specs.declared.instr.Load as load
use Rattle.wasm_tree.specs.declared.instr.Load.TheVariants as loads
use Rattle.wasm_tree.specs.declared.instr.StoreWidth.{StoreWidth}
use Rattle.wasm_tree.specs.declared.instr.StoreWidth.TheVariants.{Eight, One, Two, Four}
use Rattle.wasm_tree.specs.declared.instr.Instr.{Instr, Instr-F, map-Instr, ind-Instr, roll-Instr, fold-roll-Instr}
use Rattle.wasm_tree.specs.declared.instr.Instr.TheOpen as layer
use Rattle.wasm_code.specs.Number.{groups, unsigned, shift_group, signed_groups, signed32, signed64}
use Rattle.wasm_code.specs.Opcode.{relation_number, numeric_opcode, load_opcode, store_opcode}
use Rattle.wasm_code.specs.Parts.{vector}
use Rattle.wasm_code.specs.Instructions.{value_type, block_type, encoding_step, instr_encoding, fits_step, instr_fits, code}
use Rattle.wasm_code.proofs.Laws.{IsBytes, IsBytes-tail}
use Rattle.law_format.specs.Places.{Opcode, TypeOfValue, OtherByte, Cell, bytes_of, block_type_cells, opcode, cells_step, instr_cells, code_cells}
use Rattle.law_format.proofs.Stops.{bytes-append, bytes-all}

-- ---- bytes

pub no_bytes : IsBytes []
no_bytes i = omega arith

pub more_bytes : (b : ℕ) (bytes : List ℕ) → b < 256 → IsBytes bytes → IsBytes (b ∷ bytes)
more_bytes b bytes lt h zero = lt
more_bytes b bytes lt h (suc i) = h i

pub both_bytes : (xs ys : List ℕ) → IsBytes xs → IsBytes ys → IsBytes (xs ++ ys)
both_bytes [] ys h g i = g i
both_bytes (x ∷ xs) ys h g zero = h 0
both_bytes (x ∷ xs) ys h g (suc i) = both_bytes xs ys (IsBytes-tail x xs h) g i

pub groups_bytes : (k n : ℕ) → IsBytes (groups k n)
unfolding groups
groups_bytes zero n = no_bytes
groups_bytes (suc k) n = elim (cases_lt n 128) [
  | inl lt ↦ rw (lt-ltb n 128 lt) (more_bytes n [] (omega arith) no_bytes)
  | inr ge ↦ rw (le-ltb n 128 ge) (more_bytes (128 + n % 128) (groups k (n / 128)) (omega arith)
      (groups_bytes k (n / 128)))
]

shift_less : (top n : ℕ) → n ≤ top → shift_group top n ≤ top
shift_less top n le = elim (cases_lt (top / 2) n) [
  | inr low ↦ rw (le-leb n (top / 2) low) (omega arith)
  | inl high ↦ rw (lt-leb n (top / 2) high) (omega arith)
]

signed_bytes : (k top n : ℕ) → 64 ≤ top → n ≤ top → IsBytes (signed_groups k top n)
unfolding signed_groups
signed_bytes zero top n room le = no_bytes
signed_bytes (suc k) top n room le = elim (cases_lt n 64) [
  | inl lt ↦ rw (lt-ltb n 64 lt) (more_bytes n [] (omega arith) no_bytes)
  | inr ge ↦
      elim (cases_lt (top - 64) n) [
        | inl gt ↦ rw (le-ltb n 64 ge, lt-ltb (top - 64) n gt) (more_bytes (n + 127 - top) [] (omega arith) no_bytes)
        | inr low ↦ rw (le-ltb n 64 ge, le-ltb (top - 64) n low)
            (more_bytes (128 + n % 128) (signed_groups k top (shift_group top n)) (omega arith)
            (signed_bytes k top (shift_group top n) room (shift_less top n le)))
      ]
]

pub unsigned_bytes : (n : ℕ) → IsBytes (unsigned.encoding n)
unsigned_bytes n = groups_bytes 10 n

signed32_bytes : (n : ℕ) → signed32.fits n ≡ true → IsBytes (signed32.encoding n)
signed32_bytes n fits = let lt : n < 2 ^ 32 = ltb-true n (2 ^ 32) fits in
    signed_bytes 5 (2 ^ 32 - 1) n (omega arith) (omega arith)

signed64_bytes : (n : ℕ) → signed64.fits n ≡ true → IsBytes (signed64.encoding n)
signed64_bytes n fits = let lt : n < 2 ^ 64 = ltb-true n (2 ^ 64) fits in
    signed_bytes 10 (2 ^ 64 - 1) n (omega arith) (omega arith)

pub value_type_bytes : (t : ValueType) → IsBytes (value_type.encoding t)
unfolding value_type
value_type_bytes I32 = more_bytes 0x7F [] (omega arith) no_bytes
value_type_bytes I64 = more_bytes 0x7E [] (omega arith) no_bytes

block_type_bytes : (t : Option ValueType) → IsBytes (block_type.encoding t)
unfolding block_type value_type
block_type_bytes None = more_bytes 0x40 [] (omega arith) no_bytes
block_type_bytes (Some I32) = more_bytes 0x7F [] (omega arith) no_bytes
block_type_bytes (Some I64) = more_bytes 0x7E [] (omega arith) no_bytes

pub each_bytes : {A : Type 0} (encoding : A → List ℕ) (fits : A → Bool)
    → ((x : A) → fits x ≡ true → IsBytes (encoding x)) → (xs : List A) → list_all fits xs ≡ true
    → IsBytes (flat_map encoding xs)
each_bytes encoding fits h [] e = no_bytes
each_bytes encoding fits h (x ∷ xs) e =
    let f = and_parts (fits x) (list_all fits xs) e in
    both_bytes (encoding x) (flat_map encoding xs) (h x f.0) (each_bytes encoding fits h xs f.1)

pub numbers_bytes : (xs : List ℕ) → IsBytes (flat_map unsigned.encoding xs)
numbers_bytes [] = no_bytes
numbers_bytes (x ∷ xs) = both_bytes (unsigned.encoding x) (flat_map unsigned.encoding xs) (unsigned_bytes x)
    (numbers_bytes xs)

relation_less : (r : Relation) → relation_number r < 10
relation_less rel.Eq = omega arith
relation_less rel.Ne = omega arith
relation_less rel.LtS = omega arith
relation_less rel.LtU = omega arith
relation_less rel.GtS = omega arith
relation_less rel.GtU = omega arith
relation_less rel.LeS = omega arith
relation_less rel.LeU = omega arith
relation_less rel.GeS = omega arith
relation_less rel.GeU = omega arith

numeric_less : (n : numeric.Numeric) → numeric_opcode n < 256
numeric_less I32Eqz = omega arith
numeric_less (I32Relation r) = omega (arith, relation_less r)
numeric_less I64Eqz = omega arith
numeric_less (I64Relation r) = omega (arith, relation_less r)
numeric_less I32Add = omega arith
numeric_less (I64Operation op.Add) = omega arith
numeric_less (I64Operation op.Sub) = omega arith
numeric_less (I64Operation op.Mul) = omega arith
numeric_less (I64Operation op.DivS) = omega arith
numeric_less (I64Operation op.DivU) = omega arith
numeric_less (I64Operation op.RemS) = omega arith
numeric_less (I64Operation op.RemU) = omega arith
numeric_less (I64Operation op.And) = omega arith
numeric_less (I64Operation op.Or) = omega arith
numeric_less (I64Operation op.Xor) = omega arith
numeric_less (I64Operation op.Shl) = omega arith
numeric_less (I64Operation op.ShrU) = omega arith
numeric_less I32WrapI64 = omega arith
numeric_less I64ExtendI32S = omega arith
numeric_less I64ExtendI32U = omega arith

load_less : (l : load.Load) → load_opcode l < 256
load_less loads.I64 = omega arith
load_less loads.I64From8U = omega arith
load_less loads.I64From16U = omega arith
load_less loads.I64From32S = omega arith
load_less loads.I64From32U = omega arith

store_less : (w : StoreWidth) → store_opcode w < 256
store_less Eight = omega arith
store_less One = omega arith
store_less Two = omega arith
store_less Four = omega arith

-- ---- instructions

record P (i : Instr) : Type 0 where
  spelled : bytes_of (instr_cells i) ≡ instr_encoding i
  are_bytes : (levels : ℕ) → instr_fits i levels ≡ true → IsBytes (instr_encoding i)

abbrev S : Type 0
S = (i : Instr) × P i

abbrev bare : Instr-F S → Instr-F Instr
bare = map-Instr S Instr (λ e. e.0)

abbrev code_of : List S → List Instr
code_of ss = map (λ e. e.0) ss

celled : (x : Instr-F Instr) → instr_cells (roll-Instr x) ≡ cells_step (map-Instr Instr (List Cell) instr_cells x)
unfolding instr_cells
celled x = fold-roll-Instr (List Cell) cells_step x

encoded : (x : Instr-F Instr) → instr_encoding (roll-Instr x)
    ≡ encoding_step (map-Instr Instr (List ℕ) instr_encoding x)
unfolding instr_encoding
encoded x = fold-roll-Instr (List ℕ) encoding_step x

fitted : (x : Instr-F Instr) (levels : ℕ)
    → instr_fits (roll-Instr x) levels ≡ fits_step (map-Instr Instr (ℕ → Bool) instr_fits x) levels
unfolding instr_fits
fitted x levels = ap (λ (f : ℕ → Bool). f levels) (fold-roll-Instr (ℕ → Bool) fits_step x)

abbrev cells_in : List S → List Cell
cells_in ss = flat_map (λ (c : List Cell). c) (map instr_cells (code_of ss))

abbrev bytes_in : List S → List ℕ
bytes_in ss = concat (map instr_encoding (code_of ss))

each_spelled : (ss : List S) → bytes_of (cells_in ss) ≡ bytes_in ss
each_spelled [] = refl
each_spelled (s ∷ ss) = bytes-append (instr_cells s.0) (cells_in ss)
    ∙ ap (λ (t : List ℕ). t ++ bytes_of (cells_in ss)) s.1.spelled
    ∙ ap (λ (t : List ℕ). instr_encoding s.0 ++ t) (each_spelled ss)

inside : (ss : List S) (levels : ℕ) → list_all (λ (f : ℕ → Bool). f levels) (map instr_fits (code_of ss)) ≡ true
    → IsBytes (bytes_in ss)
inside [] levels e = no_bytes
inside (s ∷ ss) levels e =
    let f = and_parts (instr_fits s.0 levels) (list_all (λ (f : ℕ → Bool). f levels) (map instr_fits (code_of ss))) e in
    both_bytes (instr_encoding s.0) (bytes_in ss) (s.1.are_bytes levels f.0) (inside ss levels f.1)

abbrev IsSpelled : Instr-F S → Type 0
IsSpelled y = bytes_of (cells_step (map-Instr Instr (List Cell) instr_cells (bare y)))
    ≡ encoding_step (map-Instr Instr (List ℕ) instr_encoding (bare y))

abbrev AreBytes : Instr-F S → Type 0
AreBytes y = (levels : ℕ) → fits_step (map-Instr Instr (ℕ → Bool) instr_fits (bare y)) levels ≡ true
    → IsBytes (encoding_step (map-Instr Instr (List ℕ) instr_encoding (bare y)))

tail_spelled : (b : ℕ) (bytes : List ℕ) → bytes_of (opcode b bytes) ≡ b ∷ bytes
tail_spelled b bytes = ap (λ (t : List ℕ). b ∷ t) (bytes-all OtherByte bytes)

block_spelled : (b : ℕ) (t : Option ValueType) (ss : List S) (cells : List Cell) (end : List ℕ) → bytes_of cells ≡ end
    → bytes_of ((Opcode, b) ∷ (block_type_cells t ++ (cells_in ss ++ cells))) ≡ b
    ∷ ((block_type.encoding t ++ bytes_in ss) ++ end)
block_spelled b t ss cells end e =
    ap (λ (r : List ℕ). b ∷ r) (
    bytes-append (block_type_cells t) (cells_in ss ++ cells)
    ∙ ap (λ (r : List ℕ). r ++ bytes_of (cells_in ss ++ cells)) (bytes-all TypeOfValue (block_type.encoding t))
    ∙ ap (λ (r : List ℕ). block_type.encoding t ++ r)
    (bytes-append (cells_in ss) cells ∙ ap (λ (r : List ℕ). r ++ bytes_of cells) (each_spelled ss)
    ∙ ap (λ (r : List ℕ). bytes_in ss ++ r) e)
    ∙ sym (append_assoc (block_type.encoding t) (bytes_in ss) end)
    )

spelled_step : (y : Instr-F S) → IsSpelled y
spelled_step (layer.Block t ss) = block_spelled 0x02 t ss (opcode 0x0B []) (0x0B ∷ []) refl
spelled_step (layer.Loop t ss) = block_spelled 0x03 t ss (opcode 0x0B []) (0x0B ∷ []) refl
spelled_step (layer.If t ss None) = block_spelled 0x04 t ss (opcode 0x0B []) (0x0B ∷ []) refl
spelled_step (layer.If t ss (Some rs)) =
    block_spelled 0x04 t ss ((Opcode, 0x05) ∷ (cells_in rs ++ opcode 0x0B [])) (0x05 ∷ (bytes_in rs ++ 0x0B ∷ []))
    (ap (λ (r : List ℕ). 0x05 ∷ r) (bytes-append (cells_in rs) (opcode 0x0B [])
    ∙ ap (λ (r : List ℕ). r ++ 0x0B ∷ []) (each_spelled rs)))
spelled_step layer.Unreachable = refl
spelled_step layer.Return = refl
spelled_step layer.Drop = refl
spelled_step (layer.Numeric n) = refl
spelled_step (layer.Load l) = refl
spelled_step (layer.Store w) = refl
spelled_step (layer.Br l) = tail_spelled 0x0C (unsigned.encoding l)
spelled_step (layer.BrIf l) = tail_spelled 0x0D (unsigned.encoding l)
spelled_step (layer.BrTable ls l) = tail_spelled 0x0E ((vector unsigned).encoding ls ++ unsigned.encoding l)
spelled_step (layer.Call f) = tail_spelled 0x10 (unsigned.encoding f)
spelled_step (layer.CallIndirect t) = tail_spelled 0x11 (unsigned.encoding t ++ 0x00 ∷ [])
spelled_step (layer.LocalGet x) = tail_spelled 0x20 (unsigned.encoding x)
spelled_step (layer.LocalSet x) = tail_spelled 0x21 (unsigned.encoding x)
spelled_step (layer.LocalTee x) = tail_spelled 0x22 (unsigned.encoding x)
spelled_step (layer.GlobalGet x) = tail_spelled 0x23 (unsigned.encoding x)
spelled_step (layer.I32Const n) = tail_spelled 0x41 (signed32.encoding n)
spelled_step (layer.I64Const n) = tail_spelled 0x42 (signed64.encoding n)

block_bytes : (b : ℕ) (t : Option ValueType) (bytes end : List ℕ) → b < 256 → IsBytes bytes → IsBytes end
    → IsBytes (b ∷ ((block_type.encoding t ++ bytes) ++ end))
block_bytes b t bytes end lt h g = more_bytes b ((block_type.encoding t ++ bytes) ++ end) lt
    (both_bytes (block_type.encoding t ++ bytes) end (both_bytes (block_type.encoding t) bytes (block_type_bytes t) h)
    g)

end_bytes : IsBytes (0x0B ∷ [])
end_bytes = more_bytes 0x0B [] (omega arith) no_bytes

zeros_bytes : IsBytes (0x00 ∷ 0x00 ∷ [])
zeros_bytes = more_bytes 0x00 (0x00 ∷ []) (omega arith) (more_bytes 0x00 [] (omega arith) no_bytes)

false_true : {Q : Type 0} → ◌≡◌ {A = Bool} false true → Q
false_true e = absurd cc

bytes_step : (y : Instr-F S) → AreBytes y
bytes_step (layer.Block t ss) zero e = false_true e
bytes_step (layer.Block t ss) (suc levels) e =
    block_bytes 0x02 t (bytes_in ss) (0x0B ∷ []) (omega arith) (inside ss levels e) end_bytes
bytes_step (layer.Loop t ss) zero e = false_true e
bytes_step (layer.Loop t ss) (suc levels) e =
    block_bytes 0x03 t (bytes_in ss) (0x0B ∷ []) (omega arith) (inside ss levels e) end_bytes
bytes_step (layer.If t ss None) zero e = false_true e
bytes_step (layer.If t ss (Some rs)) zero e = false_true e
bytes_step (layer.If t ss None) (suc levels) e =
    block_bytes 0x04 t (bytes_in ss) (0x0B ∷ []) (omega arith) (inside ss levels e) end_bytes
bytes_step (layer.If t ss (Some rs)) (suc levels) e =
    let f = and_parts (list_all (λ (f : ℕ → Bool). f levels) (map instr_fits (code_of ss)))
    (list_all (λ (f : ℕ → Bool). f levels) (map instr_fits (code_of rs))) e in
    block_bytes 0x04 t (bytes_in ss) (0x05 ∷ (bytes_in rs ++ 0x0B ∷ [])) (omega arith) (inside ss levels f.0)
    (more_bytes 0x05 (bytes_in rs ++ 0x0B ∷ []) (omega arith)
    (both_bytes (bytes_in rs) (0x0B ∷ []) (inside rs levels f.1) end_bytes))
bytes_step layer.Unreachable levels e = more_bytes 0x00 [] (omega arith) no_bytes
bytes_step layer.Return levels e = more_bytes 0x0F [] (omega arith) no_bytes
bytes_step layer.Drop levels e = more_bytes 0x1A [] (omega arith) no_bytes
bytes_step (layer.Numeric n) levels e = more_bytes (numeric_opcode n) [] (numeric_less n) no_bytes
bytes_step (layer.Load l) levels e = more_bytes (load_opcode l) (0x00 ∷ 0x00 ∷ []) (load_less l) zeros_bytes
bytes_step (layer.Store w) levels e = more_bytes (store_opcode w) (0x00 ∷ 0x00 ∷ []) (store_less w) zeros_bytes
bytes_step (layer.BrTable ls l) levels e =
    more_bytes 0x0E ((vector unsigned).encoding ls ++ unsigned.encoding l) (omega arith)
    (both_bytes ((vector unsigned).encoding ls) (unsigned.encoding l)
    (both_bytes (unsigned.encoding (length ls)) (flat_map unsigned.encoding ls) (unsigned_bytes (length ls))
    (numbers_bytes ls)) (unsigned_bytes l))
bytes_step (layer.CallIndirect t) levels e =
    more_bytes 0x11 (unsigned.encoding t ++ 0x00 ∷ []) (omega arith)
    (both_bytes (unsigned.encoding t) (0x00 ∷ []) (unsigned_bytes t) (more_bytes 0x00 [] (omega arith) no_bytes))
bytes_step (layer.I32Const n) levels e = more_bytes 0x41 (signed32.encoding n) (omega arith) (signed32_bytes n e)
bytes_step (layer.I64Const n) levels e = more_bytes 0x42 (signed64.encoding n) (omega arith) (signed64_bytes n e)
bytes_step (layer.Br x) levels e = more_bytes 0x0C (unsigned.encoding x) (omega arith) (unsigned_bytes x)
bytes_step (layer.BrIf x) levels e = more_bytes 0x0D (unsigned.encoding x) (omega arith) (unsigned_bytes x)
bytes_step (layer.Call x) levels e = more_bytes 0x10 (unsigned.encoding x) (omega arith) (unsigned_bytes x)
bytes_step (layer.LocalGet x) levels e = more_bytes 0x20 (unsigned.encoding x) (omega arith) (unsigned_bytes x)
bytes_step (layer.LocalSet x) levels e = more_bytes 0x21 (unsigned.encoding x) (omega arith) (unsigned_bytes x)
bytes_step (layer.LocalTee x) levels e = more_bytes 0x22 (unsigned.encoding x) (omega arith) (unsigned_bytes x)
bytes_step (layer.GlobalGet x) levels e = more_bytes 0x23 (unsigned.encoding x) (omega arith) (unsigned_bytes x)

step : (y : Instr-F S) → P (roll-Instr (bare y))
step y = record {
  spelled = ap bytes_of (celled (bare y)) ∙ spelled_step y ∙ sym (encoded (bare y));
  are_bytes = λ levels e. subst IsBytes (sym (encoded (bare y)))
      (bytes_step y levels (sym (fitted (bare y) levels) ∙ e));
}

spelled_one : (i : Instr) → P i
spelled_one = ind-Instr P (λ x y e. subst (λ (w : Instr-F Instr). P (roll-Instr w)) e (step y))

-- ---- code

instrs_spelled : (is : List Instr) → bytes_of (flat_map instr_cells is) ≡ flat_map instr_encoding is
instrs_spelled [] = refl
instrs_spelled (i ∷ is) =
    bytes-append (instr_cells i) (flat_map instr_cells is)
    ∙ ap (λ (t : List ℕ). t ++ bytes_of (flat_map instr_cells is)) (spelled_one i).spelled
    ∙ ap (λ (t : List ℕ). instr_encoding i ++ t) (instrs_spelled is)

pub code_spelled : (is : List Instr) → bytes_of (code_cells is) ≡ code.encoding is
unfolding code
code_spelled is = bytes-append (flat_map instr_cells is) (opcode 0x0B [])
    ∙ ap (λ (t : List ℕ). t ++ 0x0B ∷ []) (instrs_spelled is)

pub code_bytes : (is : List Instr) → code.fits is ≡ true → IsBytes (code.encoding is)
unfolding code
code_bytes is e = both_bytes (flat_map instr_encoding is) (0x0B ∷ [])
    (each_bytes instr_encoding (λ i. instr_fits i 4096) (λ i h. (spelled_one i).are_bytes 4096 h) is e) end_bytes
