-- Where readings of code stop, with blocks at every depth.
use Rattle.std.proofs.Common.{◌≡◌, ℕ, zero, suc, Bool, true, false, ◌&&◌, List, [], ◌∷◌, ◌++◌, Option, Some, None, Ok, Err, refl, sym, ap, ◌∙◌, append_assoc, append-nil, inl, inr}
use Rattle.std.specs.List.{flat_map}
use Rattle.std.proofs.lemmas.Bool.{and_parts, and_from}
use Rattle.wasm_tree.specs.declared.fault.WFault.TheVariants.{OutsideProfile}
use Rattle.wasm_tree.specs.declared.kinds.ValueType.{ValueType}
use Rattle.wasm_tree.specs.declared.instr.Instr.{Instr}
use Rattle.wasm_tree.specs.declared.instr.Instr.TheVariants.{Block, Loop, If}
use Rattle.wasm_tree.specs.Format.{Format, Reading, ◌>>=◌}
use Rattle.wasm_code.specs.declared.code.Ending.{Ending}
use Rattle.wasm_code.specs.declared.code.Ending.TheVariants.{End, Else}
use Rattle.wasm_code.specs.Parts.{◌·◌}
use Rattle.wasm_code.specs.Instructions.{block_type, instr_fits, Sequence, with_end, closing, nested_instruction, code_in, code_within, code}
use Rattle.wasm_code.proofs.Laws.{read_is}
use Rattle.wasm_code.proofs.LawsTagged.{read_as}
use Rattle.wasm_code.proofs.Fitting.{all_fit, fits-Block, fits-Loop, fits-If-None, fits-If-Some}
use Rattle.law_format.specs.Places.{Opcode, Cell, block_type_cells, opcode, instr_cells, code_cells}
use Rattle.law_format.proofs.Stops.{front_at, Takes, Stops, Stopping}
use Rattle.law_format.proofs.Combined.{ok_no_err, bound_takes, bound_stops, then_stops, seen}
use Rattle.law_format.proofs.Tagged.{nothing, nothing_stops, At, no_tag, tag}
use Rattle.law_format.proofs.Entries.{block_type_stops}
use Rattle.law_format.proofs.Celled.{celled-Block, celled-Loop, celled-If-None, celled-If-Some}
use Rattle.law_format.proofs.Plain.{Item, ending_byte, item_cells, ends, with_instr, item, start, items}
use Rattle.law_format.proofs.Sequences.{sequence_cells, closes, sequences, sequences_stop}

-- ---- what ends a sequence

only_end : (e : Ending) → ends false e ≡ true → e ≡ End
only_end End h = refl
only_end Else h = absurd cc

else_at : (allow : Bool) (levels : ℕ) → At (item allow levels) item_cells 0x05
else_at true levels = tag nothing (λ u. []) nothing_stops (item true levels) item_cells Opcode 0x05 (λ u. inr Else)
    (λ u h. refl) (λ u h. refl) (λ bs. refl)
else_at false levels = no_tag (item false levels) item_cells Opcode (start false levels) 0x05 (λ bs. refl)

-- ---- blocks, where no level of nesting is left

module _ (allow : Bool) where
  none_at : (k : ℕ) → ((bs : List ℕ) → (item allow 0).reading (k ∷ bs) ≡ Err OutsideProfile)
      → At (item allow 0) item_cells k
  none_at k h = no_tag (item allow 0) item_cells Opcode (start allow 0) k h

  no_block : (bs : List ℕ) → (item allow 0).reading (0x02 ∷ bs) ≡ Err OutsideProfile
  unfolding nested_instruction
  no_block bs = refl

  no_loop : (bs : List ℕ) → (item allow 0).reading (0x03 ∷ bs) ≡ Err OutsideProfile
  unfolding nested_instruction
  no_loop bs = refl

  no_if : (bs : List ℕ) → (item allow 0).reading (0x04 ∷ bs) ≡ Err OutsideProfile
  unfolding nested_instruction
  no_if bs = refl

-- ---- blocks and loops

abbrev One : Type 0
One = Option ValueType × Sequence

abbrev inner_next : ℕ → Option ValueType × List ℕ → Reading One
inner_next levels t = code_in levels t.1 >>= closes false >>= λ s. Ok ((t.0, s.0), s.1)

abbrev closing_next : ℕ → ℕ → Option ValueType × List ℕ → Reading Instr
closing_next levels k t = code_in levels t.1 >>= λ s. closing (code_in levels) k t.0 s.0.0 s.0.1 s.1

module _ (levels : ℕ) where
  block_last : (t : Option ValueType) (r : Reading Sequence)
      → with_instr (r >>= λ s. closing (code_in levels) 0x02 t s.0.0 s.0.1 s.1)
      ≡ read_as (λ (p : One). inl (Block p.0 p.1.0)) (r >>= closes false >>= λ s. Ok ((t, s.0), s.1))
  block_last t (Ok ((is, End), bs)) = refl
  block_last t (Ok ((is, Else), bs)) = refl
  block_last t (Err f) = refl

  block_reads : (r : Reading (Option ValueType))
      → with_instr (r >>= closing_next levels 0x02)
      ≡ read_as (λ (p : One). inl (Block p.0 p.1.0)) (r >>= inner_next levels)
  block_reads (Ok t) = block_last t.0 (code_in levels t.1)
  block_reads (Err f) = refl

  loop_last : (t : Option ValueType) (r : Reading Sequence)
      → with_instr (r >>= λ s. closing (code_in levels) 0x03 t s.0.0 s.0.1 s.1)
      ≡ read_as (λ (p : One). inl (Loop p.0 p.1.0)) (r >>= closes false >>= λ s. Ok ((t, s.0), s.1))
  loop_last t (Ok ((is, End), bs)) = refl
  loop_last t (Ok ((is, Else), bs)) = refl
  loop_last t (Err f) = refl

  loop_reads : (r : Reading (Option ValueType))
      → with_instr (r >>= closing_next levels 0x03)
      ≡ read_as (λ (p : One). inl (Loop p.0 p.1.0)) (r >>= inner_next levels)
  loop_reads (Ok t) = loop_last t.0 (code_in levels t.1)
  loop_reads (Err f) = refl

abbrev one_cells : One → List Cell
one_cells p = block_type_cells p.0 ++ sequence_cells p.1

ended_cells : (t : Option ValueType) (s : Sequence) → s.1 ≡ End
    → one_cells (t, s) ≡ block_type_cells t ++ (flat_map instr_cells s.0 ++ opcode 0x0B [])
ended_cells t s e = ap (λ (d : Ending). block_type_cells t
    ++ (flat_map instr_cells s.0 ++ (Opcode, ending_byte d) ∷ [])) e

module _ (allow : Bool) (levels : ℕ) (inner : Stopping (sequences false levels) sequence_cells) where
  one : Stopping (block_type · sequences false levels) one_cells
  one = then_stops block_type (sequences false levels) block_type_cells sequence_cells block_type_stops inner

  ended : (p : One) → (block_type · sequences false levels).fits p ≡ true → (all_fit levels p.1.0 ≡ true)
      × (p.1.1 ≡ End)
  ended p h =
      let f = and_parts (block_type.fits p.0) (all_fit levels p.1.0 && ends false p.1.1) h in
      let g = and_parts (all_fit levels p.1.0) (ends false p.1.1) f.1 in
      (g.0, only_end p.1.1 g.1)

  block_at : At (item allow (suc levels)) item_cells 0x02
  unfolding nested_instruction
  block_at =
      tag (block_type · sequences false levels) one_cells one (item allow (suc levels)) item_cells Opcode 0x02
      (λ p. inl (Block p.0 p.1.0))
      (λ p h. celled-Block p.0 p.1.0 ∙ ap (λ (t : List Cell). (Opcode, 0x02) ∷ t)
      (sym (ended_cells p.0 p.1 (ended p h).1))) (λ p h. fits-Block p.0 p.1.0 levels ∙ (ended p h).0)
      (λ bs. block_reads levels (block_type.reading bs))

  loop_at : At (item allow (suc levels)) item_cells 0x03
  unfolding nested_instruction
  loop_at =
      tag (block_type · sequences false levels) one_cells one (item allow (suc levels)) item_cells Opcode 0x03
      (λ p. inl (Loop p.0 p.1.0))
      (λ p h. celled-Loop p.0 p.1.0 ∙ ap (λ (t : List Cell). (Opcode, 0x03) ∷ t)
      (sym (ended_cells p.0 p.1 (ended p h).1))) (λ p h. fits-Loop p.0 p.1.0 levels ∙ (ended p h).0)
      (λ bs. loop_reads levels (block_type.reading bs))

-- ---- ifs

abbrev Sides : Type 0
Sides = Option ValueType × (List Instr × Option (List Instr))

abbrev third_cells : Option (List Instr) → List Cell
third_cells None = opcode 0x0B []
third_cells (Some is) = (Opcode, 0x05) ∷ (flat_map instr_cells is ++ opcode 0x0B [])

abbrev sides_cells : Sides → List Cell
sides_cells c = block_type_cells c.0 ++ (flat_map instr_cells c.1.0 ++ third_cells c.1.1)

abbrev no_third : Format Sequence
no_third = record { encoding = λ s. []; reading = λ bs. Ok (([], End), bs); fits = λ s. true }

abbrev third_of : ℕ → Ending → Format Sequence
third_of levels End = no_third
third_of levels Else = sequences false levels

abbrev third_of_cells : Ending → Sequence → List Cell
third_of_cells End s = []
third_of_cells Else s = sequence_cells s

abbrev third : Ending → Sequence → Option (List Instr)
third End s = None
third Else s = Some s.0

abbrev sides_made : One → Sequence → Sides
sides_made p s = (p.0, (p.1.0, third p.1.1 s))

abbrev first_next : ℕ → Option ValueType × List ℕ → Reading One
first_next levels t = code_in levels t.1 >>= closes true >>= λ s. Ok ((t.0, s.0), s.1)

abbrev sides_next : ℕ → One × List ℕ → Reading Sides
sides_next levels p = (third_of levels p.0.1.1).reading p.1 >>= λ y. Ok (sides_made p.0 y.0, y.1)

abbrev if_of : Sides → Item
if_of c = inl (If c.0 c.1.0 c.1.1)

abbrev sides : ℕ → Format Sides
sides levels = record {
  encoding = λ c. [];
  reading = λ bs. (block_type · sequences true levels).reading bs >>= sides_next levels;
  fits = λ c. instr_fits (If c.0 c.1.0 c.1.1) (suc levels);
}

module _ (levels : ℕ) where
  if_third : (t : Option ValueType) (is : List Instr) (r : Reading Sequence)
      → with_instr (with_end r >>= λ others. Ok (If t is (Some others.0), others.1))
      ≡ read_as if_of (r >>= closes false >>= λ y. Ok (sides_made (t, (is, Else)) y.0, y.1))
  if_third t is (Ok ((others, End), bs)) = refl
  if_third t is (Ok ((others, Else), bs)) = refl
  if_third t is (Err f) = refl

  if_last : (t : Option ValueType) (r : Reading Sequence)
      → with_instr (r >>= λ s. closing (code_in levels) 0x04 t s.0.0 s.0.1 s.1)
      ≡ read_as if_of (r >>= closes true >>= (λ s. Ok ((t, s.0), s.1)) >>= sides_next levels)
  if_last t (Ok ((is, End), bs)) = refl
  if_last t (Ok ((is, Else), bs)) = if_third t is (code_in levels bs)
  if_last t (Err f) = refl

  if_reads : (r : Reading (Option ValueType))
      → with_instr (r >>= closing_next levels 0x04) ≡ read_as if_of (r >>= first_next levels >>= sides_next levels)
  if_reads (Ok t) = if_last t.0 (code_in levels t.1)
  if_reads (Err f) = refl

module _ (allow : Bool) (levels : ℕ) (first : Stopping (sequences true levels) sequence_cells)
    (inner : Stopping (sequences false levels) sequence_cells) where
  abbrev before : Format One
  before = block_type · sequences true levels

  before_stops : Stopping before one_cells
  before_stops = then_stops block_type (sequences true levels) block_type_cells sequence_cells block_type_stops first

  third_takes : (e : Ending) → Takes (third_of levels e) (third_of_cells e)
  third_takes End bytes s rest fits e = front_at no_third (third_of_cells End) bytes ([], End) s bytes rest
      (read_is ([], End) s bytes rest e) (record
      { parts = refl; rest_fits = fits; fits = refl; again = λ follow h. refl })
  third_takes Else bytes s rest fits e = inner.takes bytes s rest fits e

  third_stops : (e : Ending) → Stops (third_of levels e) (third_of_cells e)
  third_stops End bytes fault fits e = absurd (ok_no_err (([], End), bytes) fault e)
  third_stops Else bytes fault fits e = inner.stops bytes fault fits e

  third_fits : (e : Ending) → (third_of levels e).fits ([], End) ≡ true
  third_fits End = refl
  third_fits Else = refl

  sides_are : (t : Option ValueType) (is : List Instr) (e : Ending) (s : Sequence) → (third_of levels e).fits s ≡ true
      → sides_cells (sides_made (t, (is, e)) s) ≡ one_cells (t, (is, e)) ++ third_of_cells e s
  sides_are t is End s h = sym (append-nil (one_cells (t, (is, End))))
  sides_are t is Else s h =
      let f = and_parts (all_fit levels s.0) (ends false s.1) h in
      let e = only_end s.1 f.1 in
      regroup (block_type_cells t) (flat_map instr_cells is) (flat_map instr_cells s.0)
      ∙ ap (λ (d : Ending). one_cells (t, (is, Else)) ++ (flat_map instr_cells s.0 ++ (Opcode, ending_byte d) ∷ []))
      (sym e)
    where
      regroup : (a b c : List Cell) → a ++ (b ++ ((Opcode, 0x05) ∷ (c ++ opcode 0x0B [])))
          ≡ (a ++ (b ++ (Opcode, 0x05) ∷ [])) ++ (c ++ opcode 0x0B [])
      regroup a b c = simp append_assoc

  sides_fit : (t : Option ValueType) (is : List Instr) (e : Ending) (s : Sequence) → all_fit levels is ≡ true
      → (third_of levels e).fits s ≡ true → (sides levels).fits (sides_made (t, (is, e)) s) ≡ true
  sides_fit t is End s h g = fits-If-None t is levels ∙ h
  sides_fit t is Else s h g = fits-If-Some t is s.0 levels
      ∙ and_from _ _ h (and_parts (all_fit levels s.0) (ends false s.1) g).0

  first_fit : (p : One) → before.fits p ≡ true → all_fit levels p.1.0 ≡ true
  first_fit p h = (and_parts (all_fit levels p.1.0) (ends true p.1.1)
      (and_parts (block_type.fits p.0) (all_fit levels p.1.0 && ends true p.1.1) h).1).0

  sides_stop : Stopping (sides levels) sides_cells
  sides_stop = record {
    takes =
        bound_takes before one_cells before_stops (λ p. third_of levels p.1.1) (λ p. third_of_cells p.1.1)
        (sides levels) sides_cells sides_made (λ p s h g. sides_are p.0 p.1.0 p.1.1 s g)
        (λ p s h g. sides_fit p.0 p.1.0 p.1.1 s (first_fit p h) g)
        (λ bs g. refl) (λ p h. third_takes p.1.1);
    stops =
        bound_stops before one_cells before_stops (λ p. third_of levels p.1.1) (λ p. third_of_cells p.1.1)
        (sides levels) sides_cells sides_made (λ p s h g. sides_are p.0 p.1.0 p.1.1 s g)
        (λ p s h g. sides_fit p.0 p.1.0 p.1.1 s (first_fit p h) g)
        (λ bs g. refl) (λ p. ([], End)) (λ p h. third_fits p.1.1) (λ p h. third_stops p.1.1);
    some = (None, ([], None));
    some_fits = fits-If-None None [] levels;
  }

  if_cells : (c : Sides) → instr_cells (If c.0 c.1.0 c.1.1) ≡ (Opcode, 0x04) ∷ sides_cells c
  if_cells (t, (is, None)) = celled-If-None t is
  if_cells (t, (is, Some others)) = celled-If-Some t is others

  if_at : At (item allow (suc levels)) item_cells 0x04
  unfolding nested_instruction
  if_at = tag (sides levels) sides_cells sides_stop (item allow (suc levels)) item_cells Opcode 0x04 if_of
      (λ c h. if_cells c) (λ c h. h) (λ bs. if_reads levels (block_type.reading bs))

-- ---- code at every depth

record Level (levels : ℕ) : Type 0 where
  inside : (allow : Bool) → Stopping (sequences allow levels) sequence_cells

level : (levels : ℕ) → Level levels
level zero = record {
  inside = λ allow. sequences_stop allow 0
      (items allow 0 (else_at allow 0) (none_at allow 0x02 (no_block allow)) (none_at allow 0x03 (no_loop allow))
      (none_at allow 0x04 (no_if allow)));
}
level (suc levels) =
    let l = level levels in
    record {
      inside = λ allow.
          sequences_stop allow (suc levels)
          (items allow (suc levels) (else_at allow (suc levels)) (block_at allow levels (l.inside false))
          (loop_at allow levels (l.inside false)) (if_at allow levels (l.inside true) (l.inside false)));
    }

code_reads : (r : Reading Sequence) → with_end r ≡ (r >>= closes false >>= λ s. Ok (s.0.0, s.1))
code_reads (Ok ((is, End), bs)) = refl
code_reads (Ok ((is, Else), bs)) = refl
code_reads (Err f) = refl

pub code_within_stops : (levels : ℕ) → Stopping (code_within levels) code_cells
code_within_stops levels =
    seen (sequences false levels) sequence_cells ((level levels).inside false) (code_within levels) code_cells
    (λ s. s.0)
    (λ s h. ap (λ (e : Ending). flat_map instr_cells s.0 ++ (Opcode, ending_byte e) ∷ [])
    (sym (only_end s.1 (and_parts (all_fit levels s.0) (ends false s.1) h).1)))
    (λ s h. (and_parts (all_fit levels s.0) (ends false s.1) h).0) (λ bs. code_reads (code_in levels bs))

pub code_stops : Stopping code code_cells
unfolding code
code_stops = code_within_stops 4096
