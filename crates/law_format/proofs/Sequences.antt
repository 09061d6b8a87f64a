-- Where readings of sequences of instructions stop.
use Rattle.std.proofs.Common.{◌≡◌, ℕ, zero, suc, ◌+◌, ◌<◌, ◌≤◌, Bool, true, false, cond, ◌&&◌, List, [], ◌∷◌, ◌++◌, length, Option, Some, None, Ok, Err, refl, sym, ap, subst, ◌∙◌, append_assoc, arith, inl, inr}
use Rattle.std.specs.List.{flat_map}
use Rattle.std.proofs.lemmas.Bool.{cases_Bool, and_parts, and_from}
use Rattle.std.proofs.lemmas.List.{length-append}
use Rattle.wasm_tree.specs.declared.fault.WFault.{WFault}
use Rattle.wasm_tree.specs.declared.fault.WFault.TheVariants.{Malformed, OutsideProfile}
use Rattle.wasm_tree.specs.declared.instr.Instr.{Instr, Instr-F, out-Instr, map-Instr, fold_out-Instr}
use Rattle.wasm_tree.specs.declared.instr.Instr.TheOpen as layer
use Rattle.wasm_tree.specs.Format.{Format, Reading, ◌>>=◌}
use Rattle.wasm_code.specs.declared.code.Ending.{Ending}
use Rattle.wasm_code.specs.declared.code.Ending.TheVariants.{End, Else}
use Rattle.wasm_code.specs.Instructions.{encoding_step, instr_encoding, ending_of, Sequence, instr_of, sequence, nested_instruction, code_in}
use Rattle.wasm_code.proofs.Laws.{IsBytes, IsBytes-tail, read_is}
use Rattle.wasm_code.proofs.LawsCode.{instr_takes}
use Rattle.wasm_code.proofs.Fitting.{all_fit}
use Rattle.law_format.specs.Places.{Opcode, Cell, bytes_of, cells_step, instr_cells}
use Rattle.law_format.proofs.Stops.{Stop, Front, front_at, Stopping}
use Rattle.law_format.proofs.Combined.{err_is, ok_no_err, bound_takes_at, bound_stops_at}
use Rattle.law_format.proofs.Plain.{Item, ending_byte, item_cells, ends, ended, with_instr, item_behind, item_fits, item}

-- ---- an instruction takes at least one byte

encoding_some : (x : Instr-F (List ℕ)) → 0 < length (encoding_step x)
encoding_some layer.Unreachable = omega arith
encoding_some (layer.Block t is) = omega arith
encoding_some (layer.Loop t is) = omega arith
encoding_some (layer.If t is o) = omega arith
encoding_some (layer.Br l) = omega arith
encoding_some (layer.BrIf l) = omega arith
encoding_some (layer.BrTable ls l) = omega arith
encoding_some layer.Return = omega arith
encoding_some (layer.Call f) = omega arith
encoding_some (layer.CallIndirect t) = omega arith
encoding_some layer.Drop = omega arith
encoding_some (layer.LocalGet x) = omega arith
encoding_some (layer.LocalSet x) = omega arith
encoding_some (layer.LocalTee x) = omega arith
encoding_some (layer.GlobalGet x) = omega arith
encoding_some (layer.Load l) = omega arith
encoding_some (layer.Store w) = omega arith
encoding_some (layer.I32Const n) = omega arith
encoding_some (layer.I64Const n) = omega arith
encoding_some (layer.Numeric n) = omega arith

instr_some : (i : Instr) → 0 < length (instr_encoding i)
unfolding instr_encoding
instr_some i = subst (λ (t : List ℕ). 0 < length t) (sym (fold_out-Instr (List ℕ) encoding_step i))
    (encoding_some (map-Instr Instr (List ℕ) instr_encoding (out-Instr i)))

record Shorter (bs rest : List ℕ) : Type 0 where
  less : length rest ≤ length bs
  fits : IsBytes rest

shorter : (levels b : ℕ) (bs : List ℕ) (i : Instr) (rest : List ℕ) → IsBytes (b ∷ bs)
    → instr_of (nested_instruction levels) b bs ≡ Ok (i, rest) → Shorter bs rest
shorter levels b bs i rest fits e =
    let t = instr_takes levels b bs i rest (IsBytes-tail b bs fits) e in
    let len : suc (length bs) ≡ length (instr_encoding i) + length rest = ap length t.parts
    ∙ length-append (instr_encoding i) rest in
    record { less = omega (arith, instr_some i); fits = t.rest_fits }

-- ---- more room changes nothing

abbrev put_instr : Instr → Sequence × List ℕ → Reading Sequence
put_instr i s = Ok ((i ∷ s.0.0, s.0.1), s.1)

abbrev nested : ℕ → ℕ → List ℕ → Reading Instr
nested levels = nested_instruction levels

abbrev step : (levels most : ℕ) → Option Ending → List ℕ → Reading Instr → Reading Sequence
step levels most (Some e) bs r = Ok (([], e), bs)
step levels most None bs r = r >>= λ i. sequence (nested_instruction levels) most i.1 >>= put_instr i.0

step_same : (levels k j : ℕ) (o : Option Ending) (bs : List ℕ) (r : Reading Instr)
    → ((i : Instr) (rest : List ℕ) → r ≡ Ok (i, rest)
    → sequence (nested_instruction levels) k rest ≡ sequence (nested_instruction levels) j rest)
    → step levels k o bs r ≡ step levels j o bs r
step_same levels k j (Some e) bs r h = refl
step_same levels k j None bs (Ok i) h = ap (λ (t : Reading Sequence). t >>= put_instr i.0) (h i.0 i.1 refl)
step_same levels k j None bs (Err f) h = refl

step_is : (levels most b : ℕ) (bs : List ℕ)
    → sequence (nested_instruction levels) (suc most) (b ∷ bs)
    ≡ step levels most (ending_of b) bs (instr_of (nested_instruction levels) b bs)
unfolding sequence
step_is levels most b bs = step_at (ending_of b)
  where
    step_at : (o : Option Ending) → elim o [
      | Some e ↦ Ok (([], e), bs)
      | None ↦ instr_of (nested_instruction levels) b bs >>= λ i. sequence (nested_instruction levels) most i.1 >>=
          λ s. Ok ((i.0 ∷ s.0.0, s.0.1), s.1)
    ] ≡ step levels most o bs (instr_of (nested_instruction levels) b bs)
    step_at (Some e) = refl
    step_at None = refl

none_left : (levels most : ℕ) → sequence (nested_instruction levels) most [] ≡ Err Malformed
unfolding sequence
none_left levels zero = refl
none_left levels (suc most) = refl

room : (levels k j : ℕ) (bs : List ℕ) → IsBytes bs → length bs ≤ k → length bs ≤ j
    → sequence (nested_instruction levels) k bs ≡ sequence (nested_instruction levels) j bs
room levels k j [] fits h g = none_left levels k ∙ sym (none_left levels j)
room levels zero j (b ∷ bs) fits h g = absurd (omega arith)
room levels (suc k) zero (b ∷ bs) fits h g = absurd (omega arith)
room levels (suc k) (suc j) (b ∷ bs) fits h g =
    step_is levels k b bs
    ∙ step_same levels k j (ending_of b) bs (instr_of (nested_instruction levels) b bs) (λ i rest e.
    let s = shorter levels b bs i rest fits e in
    room levels k j rest s.fits (omega (arith, s.less)) (omega (arith, s.less)))
    ∙ sym (step_is levels j b bs)

-- ---- sequences

abbrev pub sequence_cells : Sequence → List Cell
sequence_cells s = flat_map instr_cells s.0 ++ (Opcode, ending_byte s.1) ∷ []

abbrev pub closes : Bool → Sequence × List ℕ → Reading Sequence
closes allow s = cond (ends allow s.0.1) (Ok s) (Err OutsideProfile)

abbrev pub sequences : (allow : Bool) (levels : ℕ) → Format Sequence
sequences allow levels = record {
  encoding = λ s. bytes_of (sequence_cells s);
  reading = λ bs. code_in levels bs >>= closes allow;
  fits = λ s. all_fit levels s.0 && ends allow s.1;
}

-- the rest of a sequence, behind an item
abbrev behind : Bool → ℕ → Item → Format Sequence
behind allow levels (inl i) = sequences allow levels
behind allow levels (inr e) = record { encoding = λ s. []; reading = λ bs. Ok (([], e), bs); fits = λ s. true }

abbrev behind_cells : Item → Sequence → List Cell
behind_cells (inl i) s = sequence_cells s
behind_cells (inr e) s = []

abbrev put : Item → Sequence → Sequence
put (inl i) s = (i ∷ s.0, s.1)
put (inr e) s = ([], e)

abbrev next_item : Bool → ℕ → Item × List ℕ → Reading Sequence
next_item allow levels x = (behind allow levels x.0).reading x.1 >>= λ y. Ok (put x.0 y.0, y.1)

closed : (allow : Bool) (i : Instr) (r : Reading Sequence)
    → (r >>= put_instr i >>= closes allow) ≡ (r >>= closes allow >>= λ y. Ok (put (inl i) y.0, y.1))
closed allow i (Err f) = refl
closed allow i (Ok s) = elim (cases_Bool (ends allow s.0.1)) [
  | inl yes' ↦ rw yes' refl
  | inr no' ↦ rw no' refl
]

end_closed : (allow : Bool) (levels b : ℕ) (e : Ending) (bs : List ℕ)
    → (Ok (([], e), bs) >>= closes allow) ≡ (ended allow e bs >>= next_item allow levels)
end_closed true levels b End bs = refl
end_closed true levels b Else bs = refl
end_closed false levels b End bs = refl
end_closed false levels b Else bs = refl

step_reads : (allow : Bool) (levels b : ℕ) (bs : List ℕ) (o : Option Ending) (r : Reading Instr)
    → r ≡ instr_of (nested_instruction levels) b bs → IsBytes (b ∷ bs)
    → (step levels (length bs) o bs r >>= closes allow) ≡ (item_behind allow levels o b bs >>= next_item allow levels)
step_reads allow levels b bs (Some e) r is fits = end_closed allow levels b e bs
step_reads allow levels b bs None (Ok i) is fits =
    let s = shorter levels b bs i.0 i.1 fits (sym is) in
    ap (λ (t : Reading Sequence). t >>= put_instr i.0 >>= closes allow)
    (room levels (length bs) (length i.1) i.1 s.fits s.less (omega arith))
    ∙ closed allow i.0 (code_in levels i.1) ∙ ap (λ (t : Reading Instr). with_instr t >>= next_item allow levels) is
step_reads allow levels b bs None (Err f) is fits =
    ap (λ (t : Reading Instr). with_instr t >>= next_item allow levels) is

sequence_reads : (allow : Bool) (levels : ℕ) (bs : List ℕ) → IsBytes bs
    → (sequences allow levels).reading bs ≡ ((item allow levels).reading bs >>= next_item allow levels)
sequence_reads allow levels [] fits = ap (λ (t : Reading Sequence). t >>= closes allow) (none_left levels 0)
sequence_reads allow levels (b ∷ bs) fits =
    ap (λ (t : Reading Sequence). t >>= closes allow) (step_is levels (length bs) b bs)
    ∙ step_reads allow levels b bs (ending_of b) (instr_of (nested_instruction levels) b bs) refl fits

cells_some : (x : Instr-F (List Cell)) → 0 < length (bytes_of (cells_step x))
cells_some layer.Unreachable = omega arith
cells_some (layer.Block t is) = omega arith
cells_some (layer.Loop t is) = omega arith
cells_some (layer.If t is o) = omega arith
cells_some (layer.Br l) = omega arith
cells_some (layer.BrIf l) = omega arith
cells_some (layer.BrTable ls l) = omega arith
cells_some layer.Return = omega arith
cells_some (layer.Call f) = omega arith
cells_some (layer.CallIndirect t) = omega arith
cells_some layer.Drop = omega arith
cells_some (layer.LocalGet x) = omega arith
cells_some (layer.LocalSet x) = omega arith
cells_some (layer.LocalTee x) = omega arith
cells_some (layer.GlobalGet x) = omega arith
cells_some (layer.Load l) = omega arith
cells_some (layer.Store w) = omega arith
cells_some (layer.I32Const n) = omega arith
cells_some (layer.I64Const n) = omega arith
cells_some (layer.Numeric n) = omega arith

item_some : (x : Item) → 0 < length (bytes_of (item_cells x))
unfolding instr_cells
item_some (inl i) = subst (λ (t : List Cell). 0 < length (bytes_of t)) (sym (fold_out-Instr (List Cell) cells_step i))
    (cells_some (map-Instr Instr (List Cell) instr_cells (out-Instr i)))
item_some (inr e) = omega arith

module _ (allow : Bool) (levels : ℕ) (items : Stopping (item allow levels) item_cells) where
  abbrev all' : Format Sequence
  all' = sequences allow levels

  made : (x : Item) (s : Sequence) → sequence_cells (put x s) ≡ item_cells x ++ behind_cells x s
  made (inl i) s = append_assoc (instr_cells i) (flat_map instr_cells s.0) ((Opcode, ending_byte s.1) ∷ [])
  made (inr e) s = refl

  fit : (x : Item) (s : Sequence) → item_fits allow levels x ≡ true → (behind allow levels x).fits s ≡ true
      → all'.fits (put x s) ≡ true
  fit (inl i) s h g =
      let f = and_parts (all_fit levels s.0) (ends allow s.1) g in
      and_from _ _ (and_from _ _ h f.0) f.1
  fit (inr e) s h g = h

  fewer : (bytes : List ℕ) (x : Item) (mid : List ℕ) (n : ℕ) → length bytes ≤ suc n
      → Front (item allow levels) item_cells bytes x mid → length mid ≤ n
  fewer bytes x mid n le f =
      let len : length bytes ≡ length (bytes_of (item_cells x)) + length mid = ap length f.parts
      ∙ length-append (bytes_of (item_cells x)) mid in
      omega (arith, item_some x)

  no_bytes : {A : Type 0} (x : A × List ℕ) (bytes : List ℕ) → length bytes ≤ 0 → all'.reading bytes ≡ Err Malformed
  no_bytes x [] le = ap (λ (t : Reading Sequence). t >>= closes allow) (none_left levels 0)
  no_bytes x (b ∷ bytes) le = absurd (omega arith)

  behind_takes : (x : Item) (mid : List ℕ) → item_fits allow levels x ≡ true → IsBytes mid
      → ((s : Sequence) (rest : List ℕ) → all'.reading mid ≡ Ok (s, rest) → Front all' sequence_cells mid s rest)
      → (s : Sequence) (rest : List ℕ) → (behind allow levels x).reading mid ≡ Ok (s, rest)
      → Front (behind allow levels x) (behind_cells x) mid s rest
  behind_takes (inl i) mid h fits more s rest e = more s rest e
  behind_takes (inr d) mid h fits more s rest e =
      front_at (behind allow levels (inr d)) (behind_cells (inr d)) mid ([], d) s mid rest (pair_is e)
      (record { parts = refl; rest_fits = fits; fits = refl; again = λ follow g. refl })
    where
      pair_is : ◌≡◌ {A = Reading Sequence} (Ok (([], d), mid)) (Ok (s, rest)) → (([], d) ≡ s) × (mid ≡ rest)
      pair_is e = read_is ([], d) s mid rest e

  takes_up_to : (n : ℕ) (bytes : List ℕ) (s : Sequence) (rest : List ℕ) → length bytes ≤ n → IsBytes bytes
      → all'.reading bytes ≡ Ok (s, rest) → Front all' sequence_cells bytes s rest
  takes_up_to zero bytes s rest le fits e = absurd (ok_no_err (s, rest) Malformed (sym e ∙ no_bytes (s, rest) bytes le))
  takes_up_to (suc n) bytes s rest le fits e =
      bound_takes_at (item allow levels) item_cells items (behind allow levels) behind_cells all' sequence_cells put
      (λ x y h g. made x y) fit (sequence_reads allow levels) bytes s rest fits e
      (λ x mid h f. behind_takes x mid f.fits f.rest_fits
      (λ t r g. takes_up_to n mid t r (fewer bytes x mid n le f) f.rest_fits g))

  some_sequence : Sequence
  some_sequence = ([], End)

  some_fits : (x : Item) → (behind allow levels x).fits ([], End) ≡ true
  some_fits (inl i) = refl
  some_fits (inr e) = refl

  start : (fault : WFault) → fault ≡ Malformed → Stop all' sequence_cells [] fault
  start fault is = record {
    front = [];
    at = [];
    parts = refl;
    value = ([], End);
    fits = refl;
    next = (Opcode, 0x0B);
    rest = [];
    begins = refl;
    how = is;
  }

  behind_stops : (x : Item) (mid : List ℕ) (fault : WFault)
      → (all'.reading mid ≡ Err fault → Stop all' sequence_cells mid fault)
      → (behind allow levels x).reading mid ≡ Err fault → Stop (behind allow levels x) (behind_cells x) mid fault
  behind_stops (inl i) mid fault more e = more e
  behind_stops (inr d) mid fault more e = absurd (ok_no_err (([], d), mid) fault e)

  stops_up_to : (n : ℕ) (bytes : List ℕ) (fault : WFault) → length bytes ≤ n → IsBytes bytes
      → all'.reading bytes ≡ Err fault → Stop all' sequence_cells bytes fault
  stops_up_to zero [] fault le fits e = start fault
      (sym (err_is {A = Sequence × List ℕ} Malformed fault (sym (no_bytes (some_sequence, []) [] le) ∙ e)))
  stops_up_to zero (b ∷ bytes) fault le fits e = absurd (omega arith)
  stops_up_to (suc n) bytes fault le fits e =
      bound_stops_at (item allow levels) item_cells items (behind allow levels) behind_cells all' sequence_cells put
      (λ x y h g. made x y) fit (sequence_reads allow levels) (λ x. ([], End)) (λ x h. some_fits x) bytes fault fits
      (λ x mid h f. behind_stops x mid fault (stops_up_to n mid fault (fewer bytes x mid n le f) f.rest_fits)) e

  pub sequences_stop : Stopping (sequences allow levels) sequence_cells
  sequences_stop = record {
    takes = λ bytes s rest fits e. takes_up_to (length bytes) bytes s rest (omega arith) fits e;
    stops = λ bytes fault fits e. stops_up_to (length bytes) bytes fault (omega arith) fits e;
    some = ([], End);
    some_fits = refl;
  }
