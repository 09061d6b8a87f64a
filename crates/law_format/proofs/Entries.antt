-- Where readings of types stop, of vectors, and of what is imported and exported.
use Rattle.std.proofs.Common.{◌≡◌, ℕ, zero, suc, ◌+◌, ◌*◌, ◌-◌, ◌^◌, ◌<◌, ◌≤◌, Bool, true, eqb, leb, ltb, ◌&&◌, List, [], ◌∷◌, ◌++◌, length, Some, None, Ok, Err, refl, sym, ap, subst, ◌∙◌, arith, inl, inr}
use Rattle.std.specs.List.{flat_map, list_all}
use Rattle.std.proofs.lemmas.Bool.{eqb-true, cases_lt, lt-ltb, le-ltb, ltb-true, le-leb, leb-true, and_parts, and_from}
use Rattle.wasm_tree.specs.declared.fault.WFault.TheVariants.{Malformed}
use Rattle.wasm_tree.specs.declared.kinds.ValueType.TheVariants.{I32, I64}
use Rattle.wasm_tree.specs.declared.kinds.Limits.{Limits}
use Rattle.wasm_tree.specs.declared.module.ImportKind.TheVariants as imported
use Rattle.wasm_tree.specs.declared.module.ExportKind.TheVariants as exported
use Rattle.wasm_tree.specs.Format.{Format, Reading, ◌>>=◌, skip}
use Rattle.wasm_code.specs.Number.{groups_at, join_groups, unsigned}
use Rattle.wasm_code.specs.Parts.{◌▸◌, ◌◂◌, ◌·◌, many, vector, positive, entries, name}
use Rattle.wasm_code.specs.Instructions.{value_type, block_type}
use Rattle.wasm_binary.specs.Binary.{func_type, limits, table_type, memory_type, import_kind, import, export_kind, export}
use Rattle.wasm_code.proofs.Laws.{bind_ok, guard_ok, read_is}
use Rattle.wasm_code.proofs.LawsTagged.{read_as}
use Rattle.law_format.specs.Places.{TypeOfValue, OtherByte, Cell, others, plain, value_type_cells, block_type_cells, vector_cells, func_type_cells, import_kind_cells, import_cells}
use Rattle.law_format.proofs.Stops.{all-append, Stopping}
use Rattle.law_format.proofs.Combined.{bind_same, bound_takes, bound_stops, seen, then_stops, value_stops, before_stops, behind_stops, many_of, copies, copies_fit, many_takes, many_stop}
use Rattle.law_format.proofs.Numbers.{in_range, ranged}
use Rattle.law_format.proofs.Widths.{unsigned_stops, between, between_stops}
use Rattle.law_format.proofs.Names.{name_stops}
use Rattle.law_format.proofs.Tagged.{tag_is, nothing, nothing_stops, Start, At, at_same, no_tag, tags, tag}

-- ---- value types

value_start : Start value_type value_type_cells TypeOfValue
unfolding value_type
value_start = record { value = I32; fits = refl; byte = 0x7F; rest = []; begins = refl }

value_at : (b : ℕ) → At value_type value_type_cells b
unfolding value_type
value_at b = elim (tag_is b 0x7F) [
  | inl e ↦ at_same value_type value_type_cells b 0x7F e
      (tag nothing (λ u. []) nothing_stops value_type value_type_cells TypeOfValue 0x7F (λ u. I32) (λ u h. refl)
      (λ u h. refl) (λ bs. refl))
  | inr one ↦
      elim (tag_is b 0x7E) [
        | inl e ↦ at_same value_type value_type_cells b 0x7E e
            (tag nothing (λ u. []) nothing_stops value_type value_type_cells TypeOfValue 0x7E (λ u. I64) (λ u h. refl)
            (λ u h. refl) (λ bs. refl))
        | inr two ↦ no_tag value_type value_type_cells TypeOfValue value_start b (λ bs. rw (one, two) refl)
      ]
]

pub value_type_stops : Stopping value_type value_type_cells
unfolding value_type
value_type_stops = tags value_type value_type_cells TypeOfValue value_start refl value_at

block_start : Start block_type block_type_cells TypeOfValue
unfolding block_type
block_start = record { value = None; fits = refl; byte = 0x40; rest = []; begins = refl }

block_at : (b : ℕ) → At block_type block_type_cells b
unfolding block_type
block_at b = elim (tag_is b 0x40) [
  | inl e ↦ at_same block_type block_type_cells b 0x40 e
      (tag nothing (λ u. []) nothing_stops block_type block_type_cells TypeOfValue 0x40 (λ u. None) (λ u h. refl)
      (λ u h. refl) (λ bs. refl))
  | inr none ↦
      elim (tag_is b 0x7F) [
        | inl e ↦ at_same block_type block_type_cells b 0x7F e
            (tag nothing (λ u. []) nothing_stops block_type block_type_cells TypeOfValue 0x7F (λ u. Some I32)
            (λ u h. refl) (λ u h. refl) (λ bs. refl))
        | inr one ↦
            elim (tag_is b 0x7E) [
              | inl e ↦ at_same block_type block_type_cells b 0x7E e
                  (tag nothing (λ u. []) nothing_stops block_type block_type_cells TypeOfValue 0x7E (λ u. Some I64)
                  (λ u h. refl) (λ u h. refl) (λ bs. refl))
              | inr two ↦ no_tag block_type block_type_cells TypeOfValue block_start b (λ bs. rw (none, one, two) refl)
            ]
      ]
]

pub block_type_stops : Stopping block_type block_type_cells
unfolding block_type
block_type_stops = tags block_type block_type_cells TypeOfValue block_start refl block_at

-- ---- vectors

abbrev next_many : {A : Type 0} → Format A → ℕ × List ℕ → Reading (List A)
next_many p n = many p n.0 n.1

abbrev next_same : {A : Type 0} → Format A → ℕ × List ℕ → Reading (List A)
next_same p n = many p n.0 n.1 >>= λ y. Ok (y.0, y.1)

vector_reads : {A : Type 0} (p : Format A) (r : Reading ℕ) → (r >>= next_many p) ≡ (r >>= next_same p)
vector_reads p (Ok n) = bind_same (many p n.0 n.1)
vector_reads p (Err f) = refl

joined_below : (low h : ℕ) (bs : List ℕ) (n : ℕ) (rest : List ℕ) → join_groups low h bs ≡ Ok (n, rest) → n < 2 ^ 32
joined_below low zero bs n rest e = absurd cc
joined_below low (suc h) bs n rest e =
    let g = guard_ok (ltb (low + 128 * suc h) (2 ^ 32)) Malformed (Ok (low + 128 * suc h, bs)) (n, rest) e in
    let is = read_is (low + 128 * suc h) n bs rest g.1 in
    subst (λ (m : ℕ). m < 2 ^ 32) is.0 (ltb-true _ _ g.0)

groups_below : (most : ℕ) (bs : List ℕ) (n : ℕ) (rest : List ℕ) → groups_at most bs ≡ Ok (n, rest) → n < 2 ^ 32
unfolding groups_at
groups_below zero bs n rest e = absurd cc
groups_below (suc most) [] n rest e = absurd cc
groups_below (suc most) (b ∷ bs) n rest e = elim (cases_lt b 128) [
  | inl lt ↦
      let is = read_is b n bs rest (rw (lt-ltb b 128 lt) at e) in
      let small : n < 128 = subst (λ (m : ℕ). m < 128) is.0 lt in
      omega arith
  | inr large ↦
      let a = bind_ok (groups_at most bs) (λ high. join_groups (b - 128) high.0 high.1) (n, rest)
      (rw (le-ltb b 128 large) at e) in
      joined_below (b - 128) a.0.0 a.0.1 n rest a.2
]

abbrev next_entries : {A : Type 0} → Format A → ℕ × List ℕ → Reading (List A)
next_entries p n = positive n.0 n.1 >>= λ m. many p m.0 m.1

entries_at : {A : Type 0} (p : Format A) (n : ℕ) (bs : List ℕ) → n < 2 ^ 32
    → next_entries p (n, bs) ≡ (ranged 1 (2 ^ 32) (Ok (n, bs)) >>= next_same p)
entries_at p zero bs lt = refl
entries_at p (suc n) bs lt = rw (le-leb 1 (suc n) (omega arith), lt-ltb (suc n) (2 ^ 32) lt)
    (bind_same (many p (suc n) bs))

entries_reads : {A : Type 0} (p : Format A) (r : Reading ℕ) → ((n : ℕ) (rest : List ℕ) → r ≡ Ok (n, rest) → n < 2 ^ 32)
    → (r >>= next_entries p) ≡ (ranged 1 (2 ^ 32) r >>= next_same p)
entries_reads p (Ok n) h = entries_at p n.0 n.1 (h n.0 n.1 refl)
entries_reads p (Err f) h = refl

module _ {A : Type 0} (p : Format A) (cp : A → List Cell) (sp : Stopping p cp) where
  abbrev counted_cells : List A → List Cell
  counted_cells xs = vector_cells cp xs

  vector_made : (n : ℕ) (xs : List A) → (many_of p n).fits xs ≡ true
      → vector_cells cp xs ≡ plain unsigned n ++ flat_map cp xs
  vector_made n xs g = ap (λ (k : ℕ). plain unsigned k ++ flat_map cp xs)
      (eqb-true (length xs) n (and_parts (eqb (length xs) n) (list_all p.fits xs) g).0)

  vector_fit : (n : ℕ) (xs : List A) → unsigned.fits n ≡ true → (many_of p n).fits xs ≡ true → (vector p).fits xs ≡ true
  vector_fit n xs h g =
      let f = and_parts (eqb (length xs) n) (list_all p.fits xs) g in
      and_from _ _ (ap unsigned.fits (eqb-true (length xs) n f.0) ∙ h) f.1

  pub vector_stops : Stopping (vector p) (vector_cells cp)
  vector_stops = record {
    takes = bound_takes unsigned (plain unsigned) unsigned_stops (many_of p) (λ n. flat_map cp) (vector p) counted_cells
        (λ n xs. xs) (λ n xs h g. vector_made n xs g) vector_fit (λ bs g. vector_reads p (unsigned.reading bs))
        (λ n h. many_takes p cp sp n);
    stops =
        bound_stops unsigned (plain unsigned) unsigned_stops (many_of p) (λ n. flat_map cp) (vector p) counted_cells
        (λ n xs. xs) (λ n xs h g. vector_made n xs g) vector_fit (λ bs g. vector_reads p (unsigned.reading bs))
        (copies p cp sp) (λ n h. copies_fit p cp sp n) (λ n h. many_stop p cp sp n);
    some = [];
    some_fits = refl;
  }

  entries_fit : (n : ℕ) (xs : List A) → in_range 1 (2 ^ 32) n ≡ true → (many_of p n).fits xs ≡ true
      → (entries p).fits xs ≡ true
  entries_fit n xs h g =
      let f = and_parts (eqb (length xs) n) (list_all p.fits xs) g in
      let k = and_parts (leb 1 n) (ltb n (2 ^ 32)) h in
      let more : 1 ≤ n = leb-true 1 n k.0 in
      let len : length xs ≡ n = eqb-true (length xs) n f.0 in
      and_from _ _ (lt-ltb 0 (length xs) (omega arith)) (vector_fit n xs k.1 g)

  abbrev some_entries : Stopping (between 1 (2 ^ 32)) (plain unsigned)
  some_entries = between_stops 1 (2 ^ 32) (omega arith) (omega arith)

  pub entries_stops : Stopping (entries p) (vector_cells cp)
  entries_stops = record {
    takes =
        bound_takes (between 1 (2 ^ 32)) (plain unsigned) some_entries (many_of p) (λ n. flat_map cp) (entries p)
        counted_cells (λ n xs. xs) (λ n xs h g. vector_made n xs g) entries_fit
        (λ bs g. entries_reads p (unsigned.reading bs) (groups_below 5 bs)) (λ n h. many_takes p cp sp n);
    stops =
        bound_stops (between 1 (2 ^ 32)) (plain unsigned) some_entries (many_of p) (λ n. flat_map cp) (entries p)
        counted_cells (λ n xs. xs) (λ n xs h g. vector_made n xs g) entries_fit
        (λ bs g. entries_reads p (unsigned.reading bs) (groups_below 5 bs)) (copies p cp sp)
        (λ n h. copies_fit p cp sp n) (λ n h. many_stop p cp sp n);
    some = sp.some ∷ [];
    some_fits = and_from _ _ sp.some_fits refl;
  }

-- ---- types

pub func_type_stops : Stopping func_type func_type_cells
unfolding func_type
func_type_stops =
    let types = vector_stops value_type value_type_cells value_type_stops in
    value_stops (λ p. record { params = p.0; results = p.1 }) (λ t. (t.params, t.results))
    (0x60 ▸ vector value_type · vector value_type) (λ x. refl)
    (λ x. (OtherByte, 0x60) ∷ (vector_cells value_type_cells x.0 ++ vector_cells value_type_cells x.1))
    (before_stops 0x60 (vector value_type · vector value_type)
    (λ x. vector_cells value_type_cells x.0 ++ vector_cells value_type_cells x.1)
    (then_stops (vector value_type) (vector value_type) (vector_cells value_type_cells) (vector_cells value_type_cells)
    types types))

pub two_plain : {A B : Type 0} (p : Format A) (q : Format B) → Stopping p (plain p) → Stopping q (plain q)
    → Stopping (p · q) (plain (p · q))
two_plain p q sp sq =
    seen (p · q) (λ x. plain p x.0 ++ plain q x.1) (then_stops p q (plain p) (plain q) sp sq) (p · q) (plain (p · q))
    (λ x. x) (λ x h. all-append OtherByte (p.encoding x.0) (q.encoding x.1)) (λ x h. h)
    (λ bs. bind_same ((p · q).reading bs))

limits_start : Start limits (plain limits) OtherByte
unfolding limits
limits_start = record {
  value = record { min = 0; max = None };
  fits = refl;
  byte = 0x00;
  rest = plain unsigned 0;
  begins = refl;
}

pub plain_entries : (xs : List ℕ) → vector_cells (plain unsigned) xs ≡ plain (vector unsigned) xs
plain_entries xs = ap (λ (t : List Cell). plain unsigned (length xs) ++ t) (each xs)
    ∙ sym (all-append OtherByte (unsigned.encoding (length xs)) (flat_map unsigned.encoding xs))
  where
    each : (xs : List ℕ) → flat_map (plain unsigned) xs ≡ others (flat_map unsigned.encoding xs)
    each [] = refl
    each (x ∷ xs) = ap (λ (t : List Cell). plain unsigned x ++ t) (each xs)
        ∙ sym (all-append OtherByte (unsigned.encoding x) (flat_map unsigned.encoding xs))

-- ---- a byte and two parts behind it

pair_last : {A B C : Type 0} (make : A × B → C) (x : A) (r : Reading B)
    → (r >>= λ y. Ok (make (x, y.0), y.1)) ≡ read_as make (r >>= λ y. Ok ((x, y.0), y.1))
pair_last make x (Ok y) = refl
pair_last make x (Err f) = refl

module _ {A B C : Type 0} (q : Format B) (make : A × B → C) where
  abbrev made_next : A × List ℕ → Reading C
  made_next x = q.reading x.1 >>= λ y. Ok (make (x.0, y.0), y.1)

  abbrev pair_next : A × List ℕ → Reading (A × B)
  pair_next x = q.reading x.1 >>= λ y. Ok ((x.0, y.0), y.1)

  pub pair_as : (r : Reading A) → (r >>= made_next) ≡ read_as make (r >>= pair_next)
  pair_as (Ok x) = pair_last make x.0 (q.reading x.1)
  pair_as (Err f) = refl

behind_last : {A B : Type 0} (make : A → B) (x : A) (r : Reading (Unit {0}))
    → (r >>= λ s. Ok (make x, s.1)) ≡ read_as make (r >>= λ s. Ok (x, s.1))
behind_last make x (Ok y) = refl
behind_last make x (Err f) = refl

module _ {A B : Type 0} (byte : ℕ) (make : A → B) where
  abbrev made_behind : A × List ℕ → Reading B
  made_behind x = skip byte x.1 >>= λ s. Ok (make x.0, s.1)

  abbrev kept_behind : A × List ℕ → Reading A
  kept_behind x = skip byte x.1 >>= λ s. Ok (x.0, s.1)

  pub behind_as : (r : Reading A) → (r >>= made_behind) ≡ read_as make (r >>= kept_behind)
  behind_as (Ok x) = behind_last make x.0 (skip byte x.1)
  behind_as (Err f) = refl

-- ---- limits, tables and memories

abbrev from_least : ℕ → Limits
from_least n = record { min = n; max = None }

abbrev from_both : ℕ × ℕ → Limits
from_both p = record { min = p.0; max = Some p.1 }

and_same : (b : Bool) → b ≡ true → (b && true) ≡ true
and_same b e = rw e refl

limits_at : (b : ℕ) → At limits (plain limits) b
unfolding limits
limits_at zero = tag unsigned (plain unsigned) unsigned_stops limits (plain limits) OtherByte 0 from_least (λ n h. refl)
    (λ n h. and_same (unsigned.fits n) h) (λ bs. refl)
limits_at (suc zero) =
    tag (unsigned · unsigned) (plain (unsigned · unsigned)) (two_plain unsigned unsigned unsigned_stops unsigned_stops)
    limits (plain limits) OtherByte 1 from_both (λ p h. refl) (λ p h. h)
    (λ bs. pair_as unsigned from_both (unsigned.reading bs))
limits_at (suc (suc b)) = no_tag limits (plain limits) OtherByte limits_start (suc (suc b)) (λ bs. refl)

pub limits_stops : Stopping limits (plain limits)
unfolding limits
limits_stops = tags limits (plain limits) OtherByte limits_start refl limits_at

pub table_type_stops : Stopping table_type (plain table_type)
unfolding table_type
table_type_stops = value_stops (λ l. record { limits = l }) (λ t. t.limits) (0x70 ▸ limits) (λ x. refl)
    (plain (0x70 ▸ limits)) (before_stops 0x70 limits (plain limits) limits_stops)

pub memory_type_stops : Stopping memory_type (plain memory_type)
unfolding memory_type
memory_type_stops = value_stops (λ l. record { limits = l }) (λ t. t.limits) limits (λ x. refl) (plain limits)
    limits_stops

-- ---- imports and exports

import_start : Start import_kind import_kind_cells OtherByte
unfolding import_kind
import_start = record { value = imported.Function 0; fits = refl; byte = 0x00; rest = plain unsigned 0; begins = refl }

import_at : (b : ℕ) → At import_kind import_kind_cells b
unfolding import_kind
import_at b = elim (tag_is b 0x00) [
  | inl e ↦ at_same import_kind import_kind_cells b 0x00 e
      (tag unsigned (plain unsigned) unsigned_stops import_kind import_kind_cells OtherByte 0x00 imported.Function
      (λ n h. refl) (λ n h. h) (λ bs. refl))
  | inr zero' ↦
      elim (tag_is b 0x01) [
        | inl e ↦ at_same import_kind import_kind_cells b 0x01 e
            (tag table_type (plain table_type) table_type_stops import_kind import_kind_cells OtherByte 0x01
            imported.Table (λ n h. refl) (λ n h. h) (λ bs. refl))
        | inr one ↦
            elim (tag_is b 0x02) [
              | inl e ↦ at_same import_kind import_kind_cells b 0x02 e
                  (tag memory_type (plain memory_type) memory_type_stops import_kind import_kind_cells OtherByte 0x02
                  imported.Memory (λ n h. refl) (λ n h. h) (λ bs. refl))
              | inr two ↦
                  elim (tag_is b 0x03) [
                    | inl e ↦
                        at_same import_kind import_kind_cells b 0x03 e
                        (tag (value_type ◂ 0x00) (λ t. value_type_cells t ++ (OtherByte, 0x00) ∷ [])
                        (behind_stops 0x00 value_type value_type_cells value_type_stops) import_kind
                        import_kind_cells OtherByte 0x03 imported.Global (λ n h. refl) (λ n h. refl)
                        (λ bs. behind_as 0x00 imported.Global (value_type.reading bs)))
                    | inr three ↦ no_tag import_kind import_kind_cells OtherByte import_start b
                        (λ bs. rw (zero', one, two, three) refl)
                  ]
            ]
      ]
]

pub import_kind_stops : Stopping import_kind import_kind_cells
unfolding import_kind
import_kind_stops = tags import_kind import_kind_cells OtherByte import_start refl import_at

pub import_stops : Stopping import import_cells
unfolding import
import_stops =
    value_stops (λ p. record { module_name = p.0; name = p.1.0; kind = p.1.1 }) (λ i. (i.module_name, (i.name, i.kind)))
    (name · (name · import_kind)) (λ x. refl)
    (λ x. plain name x.0 ++ (plain name x.1.0 ++ import_kind_cells x.1.1))
    (then_stops name (name · import_kind) (plain name) (λ x. plain name x.0 ++ import_kind_cells x.1) name_stops
    (then_stops name import_kind (plain name) import_kind_cells name_stops import_kind_stops))

export_start : Start export_kind (plain export_kind) OtherByte
unfolding export_kind
export_start = record { value = exported.Function 0; fits = refl; byte = 0x00; rest = plain unsigned 0; begins = refl }

export_at : (b : ℕ) → At export_kind (plain export_kind) b
unfolding export_kind
export_at b = elim (tag_is b 0x00) [
  | inl e ↦ at_same export_kind (plain export_kind) b 0x00 e
      (tag unsigned (plain unsigned) unsigned_stops export_kind (plain export_kind) OtherByte 0x00 exported.Function
      (λ n h. refl) (λ n h. h) (λ bs. refl))
  | inr zero' ↦
      elim (tag_is b 0x01) [
        | inl e ↦ at_same export_kind (plain export_kind) b 0x01 e
            (tag unsigned (plain unsigned) unsigned_stops export_kind (plain export_kind) OtherByte 0x01 exported.Table
            (λ n h. refl) (λ n h. h) (λ bs. refl))
        | inr one ↦
            elim (tag_is b 0x02) [
              | inl e ↦ at_same export_kind (plain export_kind) b 0x02 e
                  (tag unsigned (plain unsigned) unsigned_stops export_kind (plain export_kind) OtherByte 0x02
                  exported.Memory (λ n h. refl) (λ n h. h) (λ bs. refl))
              | inr two ↦
                  elim (tag_is b 0x03) [
                    | inl e ↦ at_same export_kind (plain export_kind) b 0x03 e
                        (tag unsigned (plain unsigned) unsigned_stops export_kind (plain export_kind) OtherByte 0x03
                        exported.Global (λ n h. refl) (λ n h. h) (λ bs. refl))
                    | inr three ↦ no_tag export_kind (plain export_kind) OtherByte export_start b
                        (λ bs. rw (zero', one, two, three) refl)
                  ]
            ]
      ]
]

pub export_kind_stops : Stopping export_kind (plain export_kind)
unfolding export_kind
export_kind_stops = tags export_kind (plain export_kind) OtherByte export_start refl export_at

pub export_stops : Stopping export (plain export)
unfolding export
export_stops =
    value_stops (λ p. record { name = p.0; kind = p.1 }) (λ e. (e.name, e.kind)) (name · export_kind) (λ x. refl)
    (plain (name · export_kind)) (two_plain name export_kind name_stops export_kind_stops)
