-- Where readings of locals stop, of bodies, and of the entries with code inside.
use Rattle.std.proofs.Common.{◌≡◌, ℕ, zero, suc, ◌+◌, ◌-◌, ◌^◌, ◌<◌, true, cond, leb, ltb, eqb, ◌&&◌, List, [], ◌∷◌, ◌++◌, length, Ok, Err, refl, ap, ◌∙◌, append_assoc, arith, inl, inr}
use Rattle.std.specs.List.{flat_map}
use Rattle.std.proofs.lemmas.Bool.{cases_lt, lt-ltb, le-ltb, ltb-true, le-leb, eqb-true, eq-eqb, and_parts, and_from}
use Rattle.std.proofs.lemmas.List.Sums.{sum_by-cons}
use Rattle.wasm_tree.specs.declared.fault.WFault.TheVariants.{Malformed}
use Rattle.wasm_tree.specs.declared.kinds.ValueType.{ValueType}
use Rattle.wasm_tree.specs.declared.kinds.ValueType.TheVariants.{I32}
use Rattle.wasm_tree.specs.declared.module.Locals.{Locals}
use Rattle.wasm_tree.specs.Format.{Format, Reading, ◌>>=◌}
use Rattle.wasm_code.specs.Number.{unsigned}
use Rattle.wasm_code.specs.Parts.{◌◂◌, ◌·◌, vector, with_size, bytes_left}
use Rattle.wasm_code.specs.Instructions.{value_type, code}
use Rattle.wasm_binary.specs.Binary.{global, element_segment, data_segment, locals_at, locals_encoding, local_count, locals}
use Rattle.wasm_code.proofs.Laws.{read_is}
use Rattle.wasm_code.proofs.LawsTagged.{value_type_fits}
use Rattle.law_format.specs.Places.{OtherByte, Cell, plain, value_type_cells, code_cells, global_cells, element_cells, data_cells, group_cells, locals_cells}
use Rattle.law_format.specs.Layouts.{body_content}
use Rattle.law_format.proofs.Stops.{front_at, Stopping}
use Rattle.law_format.proofs.Combined.{ok_no_err, bind_same, bound_takes, bound_stops, then_stops, value_stops, behind_stops}
use Rattle.law_format.proofs.Numbers.{in_range, ranged}
use Rattle.law_format.proofs.Widths.{unsigned_stops, between, between_stops}
use Rattle.law_format.proofs.Names.{bytes_stops}
use Rattle.law_format.proofs.Entries.{value_type_stops}
use Rattle.law_format.proofs.Plain.{plain_vector}
use Rattle.law_format.proofs.Nested.{code_stops}

abbrev pub groups_of : (count before : ℕ) → Format (List Locals)
groups_of count before = record {
  encoding = flat_map locals_encoding;
  reading = locals_at count before;
  fits = λ ls. eqb (length ls) count && ltb (before + local_count ls) (2 ^ 32);
}

abbrev pair_of : ℕ → ValueType → Locals
pair_of n t = record { count = n; value_type = t }

abbrev group_put : ℕ → ValueType × List Locals → List Locals
group_put n y = pair_of n y.0 ∷ y.1

no_locals : ℕ → List Locals
no_locals zero = []
no_locals (suc n) = pair_of 0 I32 ∷ no_locals n

no_locals-length : (n : ℕ) → length (no_locals n) ≡ n
unfolding no_locals
no_locals-length zero = refl
no_locals-length (suc n) = ap suc (no_locals-length n)

no_locals-count : (n : ℕ) → local_count (no_locals n) ≡ 0
unfolding no_locals
no_locals-count zero = refl
no_locals-count (suc n) = sum_by-cons (λ l. l.count) (pair_of 0 I32) (no_locals n)
    ∙ ap (λ (k : ℕ). 0 + k) (no_locals-count n) ∙ omega arith

no_locals-fit : (count before : ℕ) → before < 2 ^ 32 → (groups_of count before).fits (no_locals count) ≡ true
no_locals-fit count before lt =
    and_from _ _ (eq-eqb (length (no_locals count)) count (no_locals-length count))
    (lt-ltb (before + local_count (no_locals count)) (2 ^ 32) (omega (arith, no_locals-count count)))

module _ (count before : ℕ) where
  abbrev first_group : ℕ × List ℕ → Reading (List Locals)
  first_group n =
      cond (ltb (before + n.0) (2 ^ 32)) (value_type.reading n.1 >>= λ t. locals_at count (before + n.0) t.1 >>=
      λ ls. Ok (pair_of n.0 t.0 ∷ ls.0, ls.1)) (Err Malformed)

  abbrev next_group : ℕ × List ℕ → Reading (List Locals)
  next_group n = (value_type · groups_of count (before + n.0)).reading n.1 >>= λ y. Ok (group_put n.0 y.0, y.1)

  abbrev Pair : Type 0
  Pair = ValueType × List Locals

  abbrev paired : ValueType → List Locals × List ℕ → Reading Pair
  paired t y = Ok ((t, y.0), y.1)

  abbrev put_group : ℕ → Pair × List ℕ → Reading (List Locals)
  put_group n y = Ok (group_put n y.0, y.1)

  abbrev rest_paired : ℕ → ValueType × List ℕ → Reading Pair
  rest_paired n t = locals_at count (before + n) t.1 >>= paired t.0

  group_last : (n : ℕ) (t : ValueType) (r : Reading (List Locals))
      → (r >>= λ ls. Ok (pair_of n t ∷ ls.0, ls.1)) ≡ (r >>= paired t >>= put_group n)
  group_last n t (Ok ls) = refl
  group_last n t (Err f) = refl

  group_middle : (n : ℕ) (r : Reading ValueType)
      → (r >>= λ t. locals_at count (before + n) t.1 >>= λ ls. Ok (pair_of n t.0 ∷ ls.0, ls.1))
      ≡ (r >>= rest_paired n >>= put_group n)
  group_middle n (Ok t) = group_last n t.0 (locals_at count (before + n) t.1)
  group_middle n (Err f) = refl

  group_reads : before < 2 ^ 32 → (r : Reading ℕ) → (r >>= first_group) ≡ (ranged 0 (2 ^ 32 - before) r >>= next_group)
  group_reads room (Err f) = refl
  group_reads room (Ok n) = elim (cases_lt (before + n.0) (2 ^ 32)) [
    | inl lt ↦ rw (
      lt-ltb (before + n.0) (2 ^ 32) lt,
      le-leb 0 n.0 (omega arith),
      lt-ltb n.0 (2 ^ 32 - before)
          (omega arith),
    ) (group_middle n.0 (value_type.reading n.1))
    | inr ge ↦ rw (
      le-ltb (before + n.0) (2 ^ 32) ge,
      le-leb 0 n.0 (omega arith),
      le-ltb n.0 (2 ^ 32 - before)
          (omega arith),
    ) refl
  ]

  group_made : (n : ℕ) (y : ValueType × List Locals)
      → flat_map group_cells (group_put n y) ≡ plain unsigned n ++ (value_type_cells y.0 ++ flat_map group_cells y.1)
  group_made n y = append_assoc (plain unsigned n) (value_type_cells y.0) (flat_map group_cells y.1)

  group_fit : (n : ℕ) (y : ValueType × List Locals) → (value_type · groups_of count (before + n)).fits y ≡ true
      → (groups_of (suc count) before).fits (group_put n y) ≡ true
  group_fit n y g =
      let f = and_parts (value_type.fits y.0) (eqb (length y.1) count && ltb (before + n + local_count y.1) (2 ^ 32)) g
      in
      let h = and_parts (eqb (length y.1) count) (ltb (before + n + local_count y.1) (2 ^ 32)) f.1 in
      let less : before + n + local_count y.1 < 2 ^ 32 = ltb-true (before + n + local_count y.1) (2 ^ 32) h.1 in
      and_from _ _ (eq-eqb (suc (length y.1)) (suc count) (ap suc (eqb-true (length y.1) count h.0)))
      (lt-ltb (before + local_count (group_put n y)) (2 ^ 32)
      (omega (arith, sum_by-cons (λ l. l.count) (pair_of n y.0) y.1)))

  in_room : (n : ℕ) → in_range 0 (2 ^ 32 - before) n ≡ true → before + n < 2 ^ 32
  in_room n h = let less : n < 2 ^ 32 - before =
      ltb-true n (2 ^ 32 - before) (and_parts (leb 0 n) (ltb n (2 ^ 32 - before)) h).1 in omega arith

abbrev all_groups : List Locals → List Cell
all_groups ls = flat_map group_cells ls

group_stops : (count before : ℕ) → before < 2 ^ 32 → Stopping (groups_of count before) (λ ls. flat_map group_cells ls)
unfolding locals_at
group_stops zero before room = record {
  takes = λ bytes ls rest fits e. front_at (groups_of 0 before) all_groups bytes [] ls bytes rest
      (read_is [] ls bytes rest e) (record {
        parts = refl;
        rest_fits = fits;
        fits = no_locals-fit';
        again =
            λ follow h. refl;
      });
  stops = λ bytes fault fits e. absurd (ok_no_err ([], bytes) fault e);
  some = [];
  some_fits = no_locals-fit';
}
  where
    no_locals-fit' : (groups_of 0 before).fits [] ≡ true
    no_locals-fit' = rw (lt-ltb (before + 0) (2 ^ 32) (omega arith)) refl
group_stops (suc count) before room =
    let numbers' = between_stops 0 (2 ^ 32 - before) (omega arith) (omega arith) in
    let inner = λ (n : ℕ) (h : in_range 0 (2 ^ 32 - before) n ≡ true). then_stops value_type
    (groups_of count (before + n)) value_type_cells all_groups value_type_stops
    (group_stops count (before + n) (in_room count before n h)) in
    record {
      takes =
          bound_takes (between 0 (2 ^ 32 - before)) (plain unsigned) numbers'
          (λ n. value_type · groups_of count (before + n)) (λ n y. value_type_cells y.0 ++ flat_map group_cells y.1)
          (groups_of (suc count) before) all_groups group_put
          (λ n y h g. group_made count before n y) (λ n y h g. group_fit count before n y g)
          (λ bs g. group_reads count before room (unsigned.reading bs)) (λ n h. (inner n h).takes);
      stops =
          bound_stops (between 0 (2 ^ 32 - before)) (plain unsigned) numbers'
          (λ n. value_type · groups_of count (before + n)) (λ n y. value_type_cells y.0 ++ flat_map group_cells y.1)
          (groups_of (suc count) before) all_groups group_put
          (λ n y h g. group_made count before n y) (λ n y h g. group_fit count before n y g)
          (λ bs g. group_reads count before room (unsigned.reading bs)) (λ n. (I32, no_locals count))
          (λ n h. and_from _ _ (value_type_fits I32) (no_locals-fit count (before + n) (in_room count before n h)))
          (λ n h. (inner n h).stops);
      some = no_locals (suc count);
      some_fits = no_locals-fit (suc count) before room;
    }

-- ---- locals

locals_next : (r : Reading ℕ) → (r >>= λ n. locals_at n.0 0 n.1)
    ≡ (r >>= λ x. (groups_of x.0 0).reading x.1 >>= λ y. Ok (y.0, y.1))
locals_next (Ok n) = bind_same (locals_at n.0 0 n.1)
locals_next (Err f) = refl

locals_fit : (n : ℕ) (ls : List Locals) → unsigned.fits n ≡ true → (groups_of n 0).fits ls ≡ true → (length ls ≡ n)
    × (ltb (length ls) (2 ^ 32) && ltb (local_count ls) (2 ^ 32) ≡ true)
locals_fit n ls h g =
    let f = and_parts (eqb (length ls) n) (ltb (0 + local_count ls) (2 ^ 32)) g in
    let less : 0 + local_count ls < 2 ^ 32 = ltb-true (0 + local_count ls) (2 ^ 32) f.1 in
    let len = eqb-true (length ls) n f.0 in
    (len, and_from _ _ (ap unsigned.fits len ∙ h) (lt-ltb (local_count ls) (2 ^ 32) (omega arith)))

pub locals_stops : Stopping locals locals_cells
unfolding locals
locals_stops = record {
  takes =
      bound_takes unsigned (plain unsigned) unsigned_stops (λ n. groups_of n 0) (λ n. all_groups) locals locals_cells
      (λ n ls. ls) (λ n ls h g. ap (λ (k : ℕ). plain unsigned k ++ all_groups ls) (locals_fit n ls h g).0)
      (λ n ls h g. (locals_fit n ls h g).1)
      (λ bs g. locals_next (unsigned.reading bs)) (λ n h. (group_stops n 0 (omega arith)).takes);
  stops =
      bound_stops unsigned (plain unsigned) unsigned_stops (λ n. groups_of n 0) (λ n. all_groups) locals locals_cells
      (λ n ls. ls) (λ n ls h g. ap (λ (k : ℕ). plain unsigned k ++ all_groups ls) (locals_fit n ls h g).0)
      (λ n ls h g. (locals_fit n ls h g).1)
      (λ bs g. locals_next (unsigned.reading bs)) no_locals (λ n h. no_locals-fit n 0 (omega arith))
      (λ n h. (group_stops n 0 (omega arith)).stops);
  some = [];
  some_fits = refl;
}

-- ---- bodies

pub body_stops : Stopping body_content (λ b. locals_cells b.locals ++ code_cells b.code)
body_stops =
    value_stops (λ p. record { locals = p.0; code = p.1 }) (λ b. (b.locals, b.code)) (locals · code) (λ x. refl)
    (λ x. locals_cells x.0 ++ code_cells x.1)
    (then_stops locals code locals_cells code_cells locals_stops code_stops)

-- ---- entries with code

pub global_stops : Stopping global global_cells
unfolding global
global_stops =
    value_stops (λ p. record { value_type = p.0; value = p.1 }) (λ g. (g.value_type, g.value))
    ((value_type ◂ 0x00) · code) (λ x. refl)
    (λ x. (value_type_cells x.0 ++ (OtherByte, 0x00) ∷ []) ++ code_cells x.1)
    (then_stops (value_type ◂ 0x00) code (λ t. value_type_cells t ++ (OtherByte, 0x00) ∷ []) code_cells
    (behind_stops 0x00 value_type value_type_cells value_type_stops) code_stops)

pub element_stops : Stopping element_segment element_cells
unfolding element_segment
element_stops =
    value_stops (λ p. record { table = p.0; offset = p.1.0; functions = p.1.1 })
    (λ e. (e.table, (e.offset, e.functions))) (unsigned · (code · vector unsigned)) (λ x. refl)
    (λ x. plain unsigned x.0 ++ (code_cells x.1.0 ++ plain (vector unsigned) x.1.1))
    (then_stops unsigned (code · vector unsigned) (plain unsigned) (λ x. code_cells x.0 ++ plain (vector unsigned) x.1)
    unsigned_stops (then_stops code (vector unsigned) code_cells (plain (vector unsigned)) code_stops plain_vector))

pub data_stops : Stopping data_segment data_cells
unfolding data_segment
data_stops =
    value_stops (λ p. record { memory = p.0; offset = p.1.0; bytes = p.1.1 }) (λ d. (d.memory, (d.offset, d.bytes)))
    (unsigned · (code · with_size bytes_left)) (λ x. refl)
    (λ x. plain unsigned x.0 ++ (code_cells x.1.0 ++ plain (with_size bytes_left) x.1.1))
    (then_stops unsigned (code · with_size bytes_left) (plain unsigned)
    (λ x. code_cells x.0 ++ plain (with_size bytes_left) x.1) unsigned_stops
    (then_stops code (with_size bytes_left) code_cells (plain (with_size bytes_left)) code_stops bytes_stops))
