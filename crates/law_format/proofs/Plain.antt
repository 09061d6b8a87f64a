-- Where readings of instructions stop that hold no others.
use Rattle.std.proofs.Common.{◌≡◌, ◌⊎◌, ℕ, Bool, true, false, cond, eqb, List, [], ◌∷◌, ◌++◌, Option, Some, None, Result, Ok, Err, refl, sym, ap, ◌∙◌, inl, inr}
use Rattle.std.proofs.lemmas.Bool.{eqb-true, cases_Bool}
use Rattle.wasm_tree.specs.declared.fault.WFault.{WFault}
use Rattle.wasm_tree.specs.declared.fault.WFault.TheVariants.{OutsideProfile}
use Rattle.wasm_tree.specs.declared.instr.Relation.TheVariants as rel
use Rattle.wasm_tree.specs.declared.instr.Operation.TheVariants as op
use Rattle.wasm_tree.specs.declared.instr.Numeric as numeric
use Rattle.wasm_tree.specs.declared.instr.Numeric.TheVariants.{I32Eqz, I32Relation, I64Eqz, I64Relation, I32Add, I64Operation, I32WrapI64, I64ExtendI32S, I64ExtendI32U}
use Rattle.wasm_tree.specs.declared.instr.Load as load
use Rattle.wasm_tree.specs.declared.instr.Load.TheVariants as loads
use Rattle.wasm_tree.specs.declared.instr.StoreWidth.{StoreWidth}
use Rattle.wasm_tree.specs.declared.instr.StoreWidth.TheVariants.{Eight, One, Two, Four}
use Rattle.wasm_tree.specs.declared.instr.Instr.{Instr}
use Rattle.wasm_tree.specs.declared.instr.Instr.TheVariants.{Unreachable, Br, BrIf, BrTable, Return, Call, CallIndirect, Drop, LocalGet, LocalSet, LocalTee, GlobalGet, Load, Store, I32Const, I64Const, Numeric}
use Rattle.wasm_tree.specs.Format.{Format, Reading, ◌>>=◌, byte_at, skip}
use Rattle.wasm_code.specs.declared.code.Ending.{Ending}
use Rattle.wasm_code.specs.declared.code.Ending.TheVariants.{End, Else}
use Rattle.wasm_code.specs.Number.{unsigned, signed32, signed64}
use Rattle.wasm_code.specs.Opcode.{find_opcode, tests, calculations, loads as all_loads, widths, numeric_opcode, load_opcode, store_opcode, numeric_of, load_of, store_of}
use Rattle.wasm_code.specs.Parts.{◌◂◌, ◌·◌, vector}
use Rattle.wasm_code.specs.Instructions.{instr_fits, memory_of, variable_of, plain_of, ending_of, instr_of, nested_instruction, no_offset}
use Rattle.wasm_code.proofs.LawsTagged.{read_as}
use Rattle.wasm_code.proofs.Fitting.{fits-Unreachable, fits-Br, fits-BrIf, fits-BrTable, fits-Return, fits-Call, fits-CallIndirect, fits-Drop, fits-LocalGet, fits-LocalSet, fits-LocalTee, fits-GlobalGet, fits-Load, fits-Store, fits-I32Const, fits-I64Const, fits-Numeric}
use Rattle.law_format.specs.Places.{Opcode, OtherByte, Cell, bytes_of, others, plain, vector_cells, opcode, instr_cells}
use Rattle.law_format.proofs.Stops.{all-append, Stopping}
use Rattle.law_format.proofs.Combined.{bind_same, seen, then_stops, behind_stops, only, only_stops}
use Rattle.law_format.proofs.Widths.{unsigned_stops, signed32_stops, signed64_stops}
use Rattle.law_format.proofs.Tagged.{tag_is, nothing, nothing_stops, Start, At, at_same, no_tag, tags, tag}
use Rattle.law_format.proofs.Entries.{vector_stops, plain_entries, two_plain, pair_as, behind_as}
use Rattle.law_format.proofs.Celled.{celled-Unreachable, celled-Br, celled-BrIf, celled-BrTable, celled-Return, celled-Call, celled-CallIndirect, celled-Drop, celled-LocalGet, celled-LocalSet, celled-LocalTee, celled-GlobalGet, celled-Load, celled-Store, celled-I32Const, celled-I64Const, celled-Numeric}

-- what stands in a sequence: an instruction, or what ends it
abbrev pub Item : Type 0
Item = Instr ⊎ Ending

abbrev pub ending_byte : Ending → ℕ
ending_byte End = 0x0B
ending_byte Else = 0x05

abbrev pub item_cells : Item → List Cell
item_cells (inl i) = instr_cells i
item_cells (inr e) = (Opcode, ending_byte e) ∷ []

-- whether a sequence may end so
abbrev pub ends : Bool → Ending → Bool
ends allow End = true
ends allow Else = allow

abbrev pub ended : Bool → Ending → List ℕ → Reading Item
ended allow e bs = cond (ends allow e) (Ok (inr e, bs)) (Err OutsideProfile)

abbrev pub with_instr : Reading Instr → Reading Item
with_instr r = r >>= λ i. Ok (inl i.0, i.1)

abbrev pub item_behind : Bool → ℕ → Option Ending → ℕ → List ℕ → Reading Item
item_behind allow levels (Some e) b bs = ended allow e bs
item_behind allow levels None b bs = with_instr (instr_of (nested_instruction levels) b bs)

abbrev pub item_fits : Bool → ℕ → Item → Bool
item_fits allow levels (inl i) = instr_fits i levels
item_fits allow levels (inr e) = ends allow e

abbrev pub item : (allow : Bool) (levels : ℕ) → Format Item
item allow levels = record {
  encoding = λ x. bytes_of (item_cells x);
  reading = λ bytes. byte_at bytes >>=
      λ b. item_behind allow levels (ending_of b.0) b.0 b.1;
  fits = item_fits allow levels;
}

item_as : {A : Type 0} (make : A → Instr) (r : Reading A) → with_instr (read_as make r) ≡ read_as (λ x. inl (make x)) r
item_as make (Ok x) = refl
item_as make (Err f) = refl

-- ---- opcodes

some_is : {A : Type 0} (x y : A) → ◌≡◌ {A = Option A} (Some x) (Some y) → x ≡ y
some_is x y e = cc

found : {A : Type 0} (opcode : A → ℕ) (b : ℕ) (xs : List A) (x : A) → find_opcode opcode b xs ≡ Some x → b ≡ opcode x
found opcode b [] x e = absurd cc
found {A} opcode b (y ∷ ys) x e = elim (cases_Bool (eqb b (opcode y))) [
  | inl same ↦
      let f : ◌≡◌ {A = Option A} (Some y) (Some x) = rw same at e in
      eqb-true b (opcode y) same ∙ ap opcode (some_is y x f)
  | inr other ↦ found opcode b ys x (rw other at e)
]

load_is : (b : ℕ) (l : load.Load) → load_of b ≡ Some l → b ≡ load_opcode l
unfolding load_of
load_is b l e = found load_opcode b all_loads l e

store_is : (b : ℕ) (w : StoreWidth) → store_of b ≡ Some w → b ≡ store_opcode w
unfolding store_of
store_is b w e = found store_opcode b widths w e

numeric_is : (b : ℕ) (n : numeric.Numeric) → numeric_of b ≡ Some n → b ≡ numeric_opcode n
unfolding numeric_of
numeric_is b n e = found numeric_opcode b (tests ++ calculations) n e

-- the hint and the offset
abbrev zeros : Format (Unit {0} × Unit {0})
zeros = only 0x00 · only 0x00

abbrev zeros_cells : Unit {0} × Unit {0} → List Cell
zeros_cells u = others (0x00 ∷ 0x00 ∷ [])

zeros_stops : Stopping zeros (λ u. (OtherByte, 0x00) ∷ [] ++ (OtherByte, 0x00) ∷ [])
zeros_stops = then_stops (only 0x00) (only 0x00) (λ u. (OtherByte, 0x00) ∷ []) (λ u. (OtherByte, 0x00) ∷ [])
    (only_stops 0x00) (only_stops 0x00)

abbrev zero_next : Unit {0} × List ℕ → Result (List ℕ) WFault
zero_next s = skip 0x00 s.1 >>= λ t. Ok t.1

abbrev zero_pair : Unit {0} × List ℕ → Reading (Unit {0} × Unit {0})
zero_pair s = skip 0x00 s.1 >>= λ t. Ok ((s.0, t.0), t.1)

abbrev with_rest : Instr → Result (List ℕ) WFault → Reading Item
with_rest i r = with_instr (r >>= λ rest. Ok (i, rest))

zeros_last : (i : Instr) (s : Unit {0}) (r : Reading (Unit {0}))
    → with_rest i (r >>= λ t. Ok t.1) ≡ read_as (λ (u : Unit {0} × Unit {0}). inl i) (r >>= λ t. Ok ((s, t.0), t.1))
zeros_last i s (Ok t) = refl
zeros_last i s (Err f) = refl

zeros_as : (i : Instr) (r : Reading (Unit {0}))
    → with_rest i (r >>= zero_next) ≡ read_as (λ (u : Unit {0} × Unit {0}). inl i) (r >>= zero_pair)
zeros_as i (Ok s) = zeros_last i s.0 (skip 0x00 s.1)
zeros_as i (Err f) = refl

pub plain_vector : Stopping (vector unsigned) (plain (vector unsigned))
plain_vector =
    seen (vector unsigned) (vector_cells (plain unsigned)) (vector_stops unsigned (plain unsigned) unsigned_stops)
    (vector unsigned) (plain (vector unsigned)) (λ x. x) (λ x h. sym (plain_entries x)) (λ x h. h)
    (λ bs. bind_same ((vector unsigned).reading bs))

behind_zero : Stopping (unsigned ◂ 0x00) (plain (unsigned ◂ 0x00))
behind_zero =
    seen (unsigned ◂ 0x00) (λ x. plain unsigned x ++ (OtherByte, 0x00) ∷ [])
    (behind_stops 0x00 unsigned (plain unsigned) unsigned_stops) (unsigned ◂ 0x00) (plain (unsigned ◂ 0x00))
    (λ x. x) (λ x h. all-append OtherByte (unsigned.encoding x) (0x00 ∷ [])) (λ x h. h)
    (λ bs. bind_same ((unsigned ◂ 0x00).reading bs))

module _ (allow : Bool) (levels : ℕ) where
  abbrev this : Format Item
  this = item allow levels

  load_reads : (l : load.Load) (bs : List ℕ) → this.reading (load_opcode l ∷ bs) ≡ with_rest (Load l) (no_offset bs)
  unfolding plain_of variable_of memory_of load_of store_of numeric_of
  load_reads loads.I64 bs = refl
  load_reads loads.I64From8U bs = refl
  load_reads loads.I64From16U bs = refl
  load_reads loads.I64From32S bs = refl
  load_reads loads.I64From32U bs = refl

  store_reads : (w : StoreWidth) (bs : List ℕ) → this.reading (store_opcode w ∷ bs) ≡ with_rest (Store w) (no_offset bs)
  unfolding plain_of variable_of memory_of load_of store_of numeric_of
  store_reads Eight bs = refl
  store_reads One bs = refl
  store_reads Two bs = refl
  store_reads Four bs = refl

  numeric_reads : (n : numeric.Numeric) (bs : List ℕ) → this.reading (numeric_opcode n ∷ bs) ≡ Ok (inl (Numeric n), bs)
  unfolding plain_of variable_of memory_of load_of store_of numeric_of
  numeric_reads (I32Relation rel.Eq) bs = refl
  numeric_reads (I64Relation rel.Eq) bs = refl
  numeric_reads (I32Relation rel.Ne) bs = refl
  numeric_reads (I64Relation rel.Ne) bs = refl
  numeric_reads (I32Relation rel.LtS) bs = refl
  numeric_reads (I64Relation rel.LtS) bs = refl
  numeric_reads (I32Relation rel.LtU) bs = refl
  numeric_reads (I64Relation rel.LtU) bs = refl
  numeric_reads (I32Relation rel.GtS) bs = refl
  numeric_reads (I64Relation rel.GtS) bs = refl
  numeric_reads (I32Relation rel.GtU) bs = refl
  numeric_reads (I64Relation rel.GtU) bs = refl
  numeric_reads (I32Relation rel.LeS) bs = refl
  numeric_reads (I64Relation rel.LeS) bs = refl
  numeric_reads (I32Relation rel.LeU) bs = refl
  numeric_reads (I64Relation rel.LeU) bs = refl
  numeric_reads (I32Relation rel.GeS) bs = refl
  numeric_reads (I64Relation rel.GeS) bs = refl
  numeric_reads (I32Relation rel.GeU) bs = refl
  numeric_reads (I64Relation rel.GeU) bs = refl
  numeric_reads (I64Operation op.Add) bs = refl
  numeric_reads (I64Operation op.Sub) bs = refl
  numeric_reads (I64Operation op.Mul) bs = refl
  numeric_reads (I64Operation op.DivS) bs = refl
  numeric_reads (I64Operation op.DivU) bs = refl
  numeric_reads (I64Operation op.RemS) bs = refl
  numeric_reads (I64Operation op.RemU) bs = refl
  numeric_reads (I64Operation op.And) bs = refl
  numeric_reads (I64Operation op.Or) bs = refl
  numeric_reads (I64Operation op.Xor) bs = refl
  numeric_reads (I64Operation op.Shl) bs = refl
  numeric_reads (I64Operation op.ShrU) bs = refl
  numeric_reads I32Eqz bs = refl
  numeric_reads I64Eqz bs = refl
  numeric_reads I32Add bs = refl
  numeric_reads I32WrapI64 bs = refl
  numeric_reads I64ExtendI32S bs = refl
  numeric_reads I64ExtendI32U bs = refl

  pub start : Start this item_cells Opcode
  start = record { value = inr End; fits = refl; byte = 0x0B; rest = []; begins = refl }

  abbrev Here : ℕ → Type 0
  Here b = At this item_cells b

  -- an opcode with nothing behind it
  alone : (k : ℕ) (i : Instr) → instr_cells i ≡ opcode k [] → instr_fits i levels ≡ true
      → ((bs : List ℕ) → this.reading (k ∷ bs) ≡ Ok (inl i, bs)) → Here k
  alone k i c f reads = tag nothing (λ u. []) nothing_stops this item_cells Opcode k (λ u. inl i) (λ u h. c) (λ u h. f)
      reads

  -- an opcode with a part behind it
  with_part : {A : Type 0} (p : Format A) → Stopping p (plain p) → (k : ℕ) (make : A → Instr)
      → ((x : A) → instr_cells (make x) ≡ opcode k (p.encoding x)) → ((x : A) → instr_fits (make x) levels ≡ p.fits x)
      → ((bs : List ℕ) → this.reading (k ∷ bs) ≡ with_instr (read_as make (p.reading bs))) → Here k
  with_part p sp k make c f reads = tag p (plain p) sp this item_cells Opcode k (λ x. inl (make x)) (λ x h. c x)
      (λ x h. f x ∙ h) (λ bs. reads bs ∙ item_as make (p.reading bs))

  load_at : (l : load.Load) → Here (load_opcode l)
  load_at l = tag zeros zeros_cells zeros_stops this item_cells Opcode (load_opcode l) (λ u. inl (Load l))
      (λ u h. celled-Load l) (λ u h. fits-Load l levels) (λ bs. load_reads l bs ∙ zeros_as (Load l) (skip 0x00 bs))

  store_at : (w : StoreWidth) → Here (store_opcode w)
  store_at w = tag zeros zeros_cells zeros_stops this item_cells Opcode (store_opcode w) (λ u. inl (Store w))
      (λ u h. celled-Store w) (λ u h. fits-Store w levels) (λ bs. store_reads w bs ∙ zeros_as (Store w) (skip 0x00 bs))

  numeric_at : (n : numeric.Numeric) → Here (numeric_opcode n)
  numeric_at n = alone (numeric_opcode n) (Numeric n) (celled-Numeric n) (fits-Numeric n levels) (numeric_reads n)

  -- a byte that is none of the opcodes below
  record Other (b : ℕ) : Type 0 where
    no_0B : eqb b 0x0B ≡ false
    no_05 : eqb b 0x05 ≡ false
    no_02 : eqb b 0x02 ≡ false
    no_03 : eqb b 0x03 ≡ false
    no_04 : eqb b 0x04 ≡ false
    no_00 : eqb b 0x00 ≡ false
    no_0C : eqb b 0x0C ≡ false
    no_0D : eqb b 0x0D ≡ false
    no_0E : eqb b 0x0E ≡ false
    no_0F : eqb b 0x0F ≡ false
    no_10 : eqb b 0x10 ≡ false
    no_11 : eqb b 0x11 ≡ false
    no_1A : eqb b 0x1A ≡ false
    no_20 : eqb b 0x20 ≡ false
    no_21 : eqb b 0x21 ≡ false
    no_22 : eqb b 0x22 ≡ false
    no_23 : eqb b 0x23 ≡ false
    no_41 : eqb b 0x41 ≡ false
    no_42 : eqb b 0x42 ≡ false

  other_reads : (b : ℕ) → Other b → (bs : List ℕ) → this.reading (b ∷ bs) ≡ with_instr (memory_of b bs)
  unfolding plain_of variable_of
  other_reads b o bs = rw (
    o.no_0B,
    o.no_05,
    o.no_02,
    o.no_03,
    o.no_04,
    o.no_00,
    o.no_0C,
    o.no_0D,
    o.no_0E,
    o.no_0F,
    o.no_10,
    o.no_11,
    o.no_1A,
    o.no_20,
    o.no_21,
    o.no_22,
    o.no_23,
    o.no_41,
    o.no_42,
  ) refl

  none_reads : (b : ℕ) (bs : List ℕ) → load_of b ≡ None → store_of b ≡ None → numeric_of b ≡ None
      → with_instr (memory_of b bs) ≡ Err OutsideProfile
  unfolding memory_of
  none_reads b bs l w n = rw (l, w, n) refl

  numbers_at : (b : ℕ) → Other b → load_of b ≡ None → store_of b ≡ None → (n : Option numeric.Numeric)
      → numeric_of b ≡ n → Here b
  numbers_at b o l w (Some n) e = at_same this item_cells b (numeric_opcode n) (numeric_is b n e) (numeric_at n)
  numbers_at b o l w None e = no_tag this item_cells Opcode start b (λ bs. other_reads b o bs ∙ none_reads b bs l w e)

  stores_at : (b : ℕ) → Other b → load_of b ≡ None → (w : Option StoreWidth) → store_of b ≡ w → Here b
  stores_at b o l (Some w) e = at_same this item_cells b (store_opcode w) (store_is b w e) (store_at w)
  stores_at b o l None e = numbers_at b o l e (numeric_of b) refl

  memory_at : (b : ℕ) → Other b → (l : Option load.Load) → load_of b ≡ l → Here b
  memory_at b o (Some l) e = at_same this item_cells b (load_opcode l) (load_is b l e) (load_at l)
  memory_at b o None e = stores_at b o e (store_of b) refl

  abbrev table : List ℕ × ℕ → Instr
  table p = BrTable p.0 p.1

  at_Unreachable : Here 0x00
  unfolding plain_of variable_of
  at_Unreachable = alone 0x00 Unreachable celled-Unreachable (fits-Unreachable levels) (λ bs. refl)

  at_Br : Here 0x0C
  unfolding plain_of variable_of
  at_Br = with_part unsigned unsigned_stops 0x0C Br celled-Br (λ x. fits-Br x levels) (λ bs. refl)

  at_BrIf : Here 0x0D
  unfolding plain_of variable_of
  at_BrIf = with_part unsigned unsigned_stops 0x0D BrIf celled-BrIf (λ x. fits-BrIf x levels) (λ bs. refl)

  at_BrTable : Here 0x0E
  unfolding plain_of variable_of
  at_BrTable = with_part (vector unsigned · unsigned) (two_plain (vector unsigned) unsigned plain_vector unsigned_stops)
      0x0E table (λ p. celled-BrTable p.0 p.1) (λ p. fits-BrTable p.0 p.1 levels)
      (λ bs. ap with_instr (pair_as unsigned table ((vector unsigned).reading bs)))

  at_Return : Here 0x0F
  unfolding plain_of variable_of
  at_Return = alone 0x0F Return celled-Return (fits-Return levels) (λ bs. refl)

  at_Call : Here 0x10
  unfolding plain_of variable_of
  at_Call = with_part unsigned unsigned_stops 0x10 Call celled-Call (λ x. fits-Call x levels) (λ bs. refl)

  at_CallIndirect : Here 0x11
  unfolding plain_of variable_of
  at_CallIndirect = with_part (unsigned ◂ 0x00) behind_zero 0x11 CallIndirect celled-CallIndirect
      (λ x. fits-CallIndirect x levels) (λ bs. ap with_instr (behind_as 0x00 CallIndirect (unsigned.reading bs)))

  at_Drop : Here 0x1A
  unfolding plain_of variable_of
  at_Drop = alone 0x1A Drop celled-Drop (fits-Drop levels) (λ bs. refl)

  at_LocalGet : Here 0x20
  unfolding plain_of variable_of
  at_LocalGet = with_part unsigned unsigned_stops 0x20 LocalGet celled-LocalGet (λ x. fits-LocalGet x levels)
      (λ bs. refl)

  at_LocalSet : Here 0x21
  unfolding plain_of variable_of
  at_LocalSet = with_part unsigned unsigned_stops 0x21 LocalSet celled-LocalSet (λ x. fits-LocalSet x levels)
      (λ bs. refl)

  at_LocalTee : Here 0x22
  unfolding plain_of variable_of
  at_LocalTee = with_part unsigned unsigned_stops 0x22 LocalTee celled-LocalTee (λ x. fits-LocalTee x levels)
      (λ bs. refl)

  at_GlobalGet : Here 0x23
  unfolding plain_of variable_of
  at_GlobalGet = with_part unsigned unsigned_stops 0x23 GlobalGet celled-GlobalGet (λ x. fits-GlobalGet x levels)
      (λ bs. refl)

  at_I32Const : Here 0x41
  unfolding plain_of variable_of
  at_I32Const = with_part signed32 signed32_stops 0x41 I32Const celled-I32Const (λ x. fits-I32Const x levels)
      (λ bs. refl)

  at_I64Const : Here 0x42
  unfolding plain_of variable_of
  at_I64Const = with_part signed64 signed64_stops 0x42 I64Const celled-I64Const (λ x. fits-I64Const x levels)
      (λ bs. refl)

  at_End : Here 0x0B
  at_End = tag nothing (λ u. []) nothing_stops this item_cells Opcode 0x0B (λ u. inr End) (λ u h. refl) (λ u h. refl)
      (λ bs. refl)

  -- where those are known that begin instructions with others inside, and what an else is
  module _ (at_else : Here 0x05) (at_block : Here 0x02) (at_loop : Here 0x03) (at_if : Here 0x04) where
    item_at : (b : ℕ) → Here b
    item_at b =
        elim (tag_is b 0x0B) [
          | inl e ↦ at_same this item_cells b 0x0B e at_End
          | inr n0B ↦
              elim (tag_is b 0x05) [
                | inl e ↦ at_same this item_cells b 0x05 e at_else
                | inr n05 ↦
                    elim (tag_is b 0x02) [
                      | inl e ↦ at_same this item_cells b 0x02 e at_block
                      | inr n02 ↦
                          elim (tag_is b 0x03) [
                            | inl e ↦ at_same this item_cells b 0x03 e at_loop
                            | inr n03 ↦
                                elim (tag_is b 0x04) [
                                  | inl e ↦ at_same this item_cells b 0x04 e at_if
                                  | inr n04 ↦
                                      elim (tag_is b 0x00) [
                                        | inl e ↦ at_same this item_cells b 0x00 e at_Unreachable
                                        | inr n00 ↦
                                            elim (tag_is b 0x0C) [
                                              | inl e ↦ at_same this item_cells b 0x0C e at_Br
                                              | inr n0C ↦
                                                  elim (tag_is b 0x0D) [
                                                    | inl e ↦ at_same this item_cells b 0x0D e at_BrIf
                                                    | inr n0D ↦
                                                        elim (tag_is b 0x0E) [
                                                          | inl e ↦ at_same this item_cells b 0x0E e at_BrTable
                                                          | inr n0E ↦
                                                              elim (tag_is b 0x0F) [
                                                                | inl e ↦ at_same this item_cells b 0x0F e at_Return
                                                                | inr n0F ↦
                                                                    elim (tag_is b 0x10) [
                                                                      | inl e ↦ at_same this item_cells b 0x10 e at_Call
                                                                      | inr n10 ↦
                                                                          elim (tag_is b 0x11) [
                                                                            | inl e ↦ at_same this item_cells b 0x11 e
                                                                                at_CallIndirect
                                                                            | inr n11 ↦
                                                                                elim (tag_is b 0x1A) [
                                                                                  | inl e ↦ at_same this item_cells b
                                                                                      0x1A e at_Drop
                                                                                  | inr n1A ↦
                                                                                      elim (tag_is b 0x20) [
                                                                                        | inl e ↦ at_same this
                                                                                            item_cells b 0x20 e
                                                                                            at_LocalGet
                                                                                        | inr n20 ↦
                                                                                            elim (tag_is b 0x21) [
                                                                                              | inl e ↦ at_same this
                                                                                                  item_cells b 0x21 e
                                                                                                  at_LocalSet
                                                                                              | inr n21 ↦
                                                                                                  elim (tag_is b 0x22) [
                                                                                                    | inl e ↦ at_same
                                                                                                        this item_cells
                                                                                                        b 0x22 e
                                                                                                        at_LocalTee
                                                                                                    | inr n22 ↦
                                                                                                        elim (tag_is b
                                                                                                        0x23) [
                                                                                                          | inl e ↦
                                                                                                              at_same
                                                                                                              this
                                                                                                              item_cells
                                                                                                              b 0x23 e
                                                                                                              at_GlobalGet
                                                                                                          | inr n23 ↦
                                                                                                              elim
                                                                                                              (tag_is b
                                                                                                              0x41) [
                                                                                                                | inl
                                                                                                                    e ↦
                                                                                                                    at_same this item_cells b 0x41 e at_I32Const
                                                                                                                | inr
                                                                                                                    n41 ↦
                                                                                                                    elim
                                                                                                                    (tag_is b 0x42) [
                                                                                                                      | inl e ↦ at_same this item_cells b 0x42 e at_I64Const
                                                                                                                      | inr n42 ↦
                                                                                                                          memory_at b (record { no_0B = n0B; no_05 = n05; no_02 = n02; no_03 = n03; no_04 = n04; no_00 = n00; no_0C = n0C; no_0D = n0D; no_0E = n0E; no_0F = n0F; no_10 = n10; no_11 = n11; no_1A = n1A; no_20 = n20; no_21 = n21; no_22 = n22; no_23 = n23; no_41 = n41; no_42 = n42 }) (load_of b) refl
                                                                                                                    ]
                                                                                                              ]
                                                                                                        ]
                                                                                                  ]
                                                                                            ]
                                                                                      ]
                                                                                ]
                                                                          ]
                                                                    ]
                                                              ]
                                                        ]
                                                  ]
                                            ]
                                      ]
                                ]
                          ]
                    ]
              ]
        ]

    pub items : Stopping this item_cells
    items = tags this item_cells Opcode start refl item_at
