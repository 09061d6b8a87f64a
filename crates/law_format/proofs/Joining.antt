-- The marks of two modules: where they differ first, a byte differs, in the same place, or one of them ends.
use Rattle.std.proofs.Common.{◌≡◌, ◌⊎◌, ℕ, ◌^◌, ◌<◌, Bool, true, ltb, List, [], ◌∷◌, ◌++◌, length, refl, sym, ap, ◌∙◌, arith, inl, inr}
use Rattle.std.specs.List.{flat_map, list_all}
use Rattle.std.proofs.lemmas.Bool.{and_parts}
use Rattle.wasm_tree.specs.declared.module.Body.{Body}
use Rattle.wasm_tree.specs.Format.{Format}
use Rattle.wasm_code.specs.Number.{unsigned}
use Rattle.wasm_code.specs.Parts.{vector, entries}
use Rattle.wasm_binary.specs.Binary.{header, func_type, table_type, memory_type, import, global, export, element_segment, data_segment}
use Rattle.wasm_code.proofs.LawsNumber.{unsigned_law}
use Rattle.wasm_binary.proofs.LawsKinds.{table_type_law, memory_type_law}
use Rattle.wasm_binary.proofs.LawsBinary.{export_law}
use Rattle.law_format.specs.Places.{SectionNumber, OtherByte, Cell, others, plain, vector_cells, func_type_cells, import_cells, global_cells, element_cells, data_cells}
use Rattle.law_format.specs.Layouts.{Part, Mark, Byte, Opens, Closes, Last, byte_marks, flat, part_marks, section_marks, entry_marks, body_cells, bodies_marks, Layout, layout_marks, part_fits, section_fits, body_content, body_fits, Fits}
use Rattle.law_format.proofs.Stops.{bytes-all}
use Rattle.law_format.proofs.Breaks.{flat-byte_marks}
use Rattle.law_format.proofs.Meeting.{same_unsigned, Differ, Meet, Meets, plain_meets, entries_meet}
use Rattle.law_format.proofs.MeetingEntries.{func_type_meets, import_meets, global_meets, element_meets, data_meets, body_meets}

-- two marks where two modules differ first
abbrev pub Turn : Mark → Mark → Type 0
Turn (Byte c) (Byte d) = Differ c d
Turn (Byte c) (Opens n) = ⊥
Turn (Byte c) Closes = ⊥
Turn (Byte c) Last = c.0 ≡ SectionNumber
Turn (Opens n) m = ⊥
Turn Closes m = ⊥
Turn Last (Byte d) = d.0 ≡ SectionNumber
Turn Last (Opens n) = ⊥
Turn Last Closes = ⊥
Turn Last Last = ⊥

abbrev pub Join : List Mark → List Mark → Type 0
Join [] [] = Unit {0}
Join [] (y ∷ ys) = ⊥
Join (x ∷ xs) [] = ⊥
Join (x ∷ xs) (y ∷ ys) = Turn x y ⊎ ((x ≡ y) × Join xs ys)

join_same : (xs : List Mark) → Join xs xs
join_same [] = tt
join_same (x ∷ xs) = inr (refl, join_same xs)

join_bytes : (xs ys : List Cell) → Meet xs ys → Join (byte_marks xs) (byte_marks ys)
join_bytes [] [] h = tt
join_bytes [] (y ∷ ys) h = absurd h
join_bytes (x ∷ xs) [] h = absurd h
join_bytes (x ∷ xs) (y ∷ ys) (inl d) = inl d
join_bytes (x ∷ xs) (y ∷ ys) (inr h) = inr (ap (λ (c : Cell). mark c) h.0, join_bytes xs ys h.1)
  where
    mark : Cell → Mark
    mark c = Byte c

abbrev put : Mark → List Mark → List Mark
put m t = m ∷ t

join_if : (xs ys r s : List Mark) → Join xs ys → (xs ≡ ys → Join r s) → Join (xs ++ r) (ys ++ s)
join_if [] [] r s h g = g refl
join_if [] (y ∷ ys) r s h g = absurd h
join_if (x ∷ xs) [] r s h g = absurd h
join_if (x ∷ xs) (y ∷ ys) r s (inl d) g = inl d
join_if (x ∷ xs) (y ∷ ys) r s (inr h) g =
    inr (h.0, join_if xs ys r s h.1 (λ e. g (ap (λ (c : Mark). put c xs) h.0 ∙ ap (put y) e)))

join_then : (xs ys r s : List Mark) → Join xs ys → Join r s → Join (xs ++ r) (ys ++ s)
join_then xs ys r s h g = join_if xs ys r s h (λ e. g)

-- ---- numbers and parts

same_size : (m n : ℕ) → unsigned.fits m ≡ true → unsigned.fits n ≡ true
    → byte_marks (plain unsigned m) ≡ byte_marks (plain unsigned n) → m ≡ n
same_size m n h g e = same_unsigned m n h g (sym (bytes m) ∙ ap flat e ∙ bytes n)
  where
    bytes : (k : ℕ) → flat (byte_marks (plain unsigned k)) ≡ unsigned.encoding k
    bytes k = flat-byte_marks (plain unsigned k) ∙ bytes-all OtherByte (unsigned.encoding k)

numbers_join : (m n : ℕ) → unsigned.fits m ≡ true → unsigned.fits n ≡ true
    → Join (byte_marks (plain unsigned m)) (byte_marks (plain unsigned n))
numbers_join m n h g = join_bytes (plain unsigned m) (plain unsigned n) (plain_meets unsigned unsigned_law m n h g)

parts_join : {A : Type 0} (marks : A → List Mark) (p q : Part A) → unsigned.fits p.size ≡ true
    → unsigned.fits q.size ≡ true → Join (marks p.content) (marks q.content)
    → Join (part_marks marks p) (part_marks marks q)
parts_join marks p q h g inner =
    join_if (byte_marks (plain unsigned p.size)) (byte_marks (plain unsigned q.size))
    (Opens p.size ∷ (marks p.content ++ Closes ∷ [])) (Opens q.size ∷ (marks q.content ++ Closes ∷ []))
    (numbers_join p.size q.size h g)
    (λ e. inr (
      ap (λ (n : ℕ). opens n) (same_size p.size q.size h g e),
      join_then (marks p.content) (marks q.content)
          (Closes ∷ []) (Closes ∷ []) inner (inr (refl, tt)),
    ))
  where
    opens : ℕ → Mark
    opens n = Opens n

-- ---- sections

-- what begins with a section of a higher number, or is the end
abbrev Later : ℕ → List Mark → Type 0
Later k [] = ⊥
Later k (Byte c ∷ marks) = (c.0 ≡ SectionNumber) × (k < c.1)
Later k (Opens size ∷ marks) = ⊥
Later k (Closes ∷ marks) = ⊥
Later k (Last ∷ marks) = Unit {0}

later_less : (j k : ℕ) (marks : List Mark) → j < k → Later k marks → Later j marks
later_less j k [] lt h = absurd h
later_less j k (Byte c ∷ marks) lt h = (h.0, omega (arith, h.1))
later_less j k (Opens size ∷ marks) lt h = absurd h
later_less j k (Closes ∷ marks) lt h = absurd h
later_less j k (Last ∷ marks) lt h = tt

section_later : {A : Type 0} (j k : ℕ) (marks : List A → List Mark) (size : ℕ) (xs : List A) (r : List Mark) → j < k
    → Later k r → Later j (section_marks k marks (record { size = size; content = xs }) ++ r)
section_later j k marks size [] r lt h = later_less j k r lt h
section_later j k marks size (x ∷ xs) r lt h = (refl, lt)

left_out : (k : ℕ) (r s : List Mark) → Later k r → Join r (Byte (SectionNumber, k) ∷ s)
left_out k [] s h = absurd h
left_out k (Byte c ∷ r) s h = inl (h.0, λ e. omega (arith, h.1, e))
left_out k (Opens size ∷ r) s h = absurd h
left_out k (Closes ∷ r) s h = absurd h
left_out k (Last ∷ r) s h = inl refl

left_out_too : (k : ℕ) (r s : List Mark) → Later k s → Join (Byte (SectionNumber, k) ∷ r) s
left_out_too k r [] h = absurd h
left_out_too k r (Byte c ∷ s) h = inl (sym h.0, λ e. omega (arith, h.1, e))
left_out_too k r (Opens size ∷ s) h = absurd h
left_out_too k r (Closes ∷ s) h = absurd h
left_out_too k r (Last ∷ s) h = inl refl

sections_join : {A : Type 0} (k : ℕ) (marks : List A → List Mark) (fit : List A → Bool) (m n : ℕ) (xs ys : List A)
    (r s : List Mark) → (fit xs ≡ true → fit ys ≡ true → Join (marks xs) (marks ys)) → part_fits fit m xs ≡ true
    → part_fits fit n ys ≡ true
    → Later k r → Later k s → Join r s → Join (section_marks k marks (record { size = m; content = xs }) ++ r)
    (section_marks k marks (record { size = n; content = ys }) ++ s)
sections_join k marks fit m n [] [] r s inner h g lr ls j = j
sections_join k marks fit m n [] (y ∷ ys) r s inner h g lr ls j =
    left_out k r (part_marks marks (record { size = n; content = y ∷ ys }) ++ s) lr
sections_join k marks fit m n (x ∷ xs) [] r s inner h g lr ls j =
    left_out_too k (part_marks marks (record { size = m; content = x ∷ xs }) ++ r) s ls
sections_join k marks fit m n (x ∷ xs) (y ∷ ys) r s inner h g lr ls j =
    let f = and_parts (unsigned.fits m) (fit (x ∷ xs)) h in
    let e = and_parts (unsigned.fits n) (fit (y ∷ ys)) g in
    inr (
      refl,
      join_then (part_marks marks (record { size = m; content = x ∷ xs }))
          (part_marks marks (record { size = n; content = y ∷ ys })) r s
          (parts_join marks (record { size = m; content = x ∷ xs }) (record { size = n; content = y ∷ ys }) f.0 e.0
          (inner f.1 e.1)) j,
    )

entries_join : {A : Type 0} (k : ℕ) (p : Format A) (cells : A → List Cell) → Meets p cells
    → (s t : Part (List A)) (x y : List Mark) → section_fits p s → section_fits p t → Later k x → Later k y → Join x y
    → Join (section_marks k (entry_marks cells) s ++ x) (section_marks k (entry_marks cells) t ++ y)
entries_join k p cells m s t x y h g lx ly j =
    sections_join k (entry_marks cells) (entries p).fits s.size t.size s.content t.content x y
    (λ f e. join_bytes (vector_cells cells s.content) (vector_cells cells t.content)
    (entries_meet p cells m s.content t.content f e)) h g lx ly j

-- ---- bodies

abbrev one_marks : Body → List Mark
one_marks b = byte_marks (body_cells b)

many_bodies : (xs ys : List (Part Body)) → list_all body_fits xs ≡ true → list_all body_fits ys ≡ true
    → length xs ≡ length ys → Join (flat_map (part_marks one_marks) xs) (flat_map (part_marks one_marks) ys)
many_bodies [] [] h g e = tt
many_bodies [] (y ∷ ys) h g e = absurd (omega (arith, e))
many_bodies (x ∷ xs) [] h g e = absurd (omega (arith, e))
many_bodies (x ∷ xs) (y ∷ ys) h g e =
    let f = and_parts (body_fits x) (list_all body_fits xs) h in
    let k = and_parts (body_fits y) (list_all body_fits ys) g in
    let fx = and_parts (unsigned.fits x.size) (body_content.fits x.content) f.0 in
    let fy = and_parts (unsigned.fits y.size) (body_content.fits y.content) k.0 in
    join_then (part_marks one_marks x) (part_marks one_marks y) (flat_map (part_marks one_marks) xs)
    (flat_map (part_marks one_marks) ys)
    (parts_join one_marks x y fx.0 fy.0 (join_bytes (body_cells x.content) (body_cells y.content)
    (body_meets x.content y.content fx.1 fy.1))) (many_bodies xs ys f.1 k.1 (omega (arith, e)))

bodies_join : (xs ys : List (Part Body)) → unsigned.fits (length xs) ≡ true → unsigned.fits (length ys) ≡ true
    → list_all body_fits xs ≡ true → list_all body_fits ys ≡ true → Join (bodies_marks xs) (bodies_marks ys)
bodies_join xs ys few few' h g =
    join_if (byte_marks (plain unsigned (length xs))) (byte_marks (plain unsigned (length ys)))
    (flat_map (part_marks one_marks) xs) (flat_map (part_marks one_marks) ys)
    (numbers_join (length xs) (length ys) few few')
    (λ e. many_bodies xs ys h g (same_size (length xs) (length ys) few few' e))

few : (size : ℕ) (xs : List ℕ) → part_fits (entries unsigned).fits size xs ≡ true → unsigned.fits (length xs) ≡ true
few size [] h = refl
few size (x ∷ xs) h =
    let f = and_parts (unsigned.fits size) ((entries unsigned).fits (x ∷ xs)) h in
    let g = and_parts (ltb 0 (length (x ∷ xs))) ((vector unsigned).fits (x ∷ xs)) f.1 in
    (and_parts (ltb (length (x ∷ xs)) (2 ^ 32)) (list_all unsigned.fits (x ∷ xs)) g.1).0

few_bodies : (l : Layout) → Fits l → unsigned.fits (length l.bodies.content) ≡ true
few_bodies l f = ap unsigned.fits f.as_many ∙ few l.functions.size l.functions.content f.functions

-- ---- modules

abbrev from11 : Layout → List Mark
from11 l = section_marks 11 (entry_marks data_cells) l.segments ++ Last ∷ []

abbrev from10 : Layout → List Mark
from10 l = section_marks 10 bodies_marks l.bodies ++ from11 l

abbrev from9 : Layout → List Mark
from9 l = section_marks 9 (entry_marks element_cells) l.elements ++ from10 l

abbrev from7 : Layout → List Mark
from7 l = section_marks 7 (entry_marks (plain export)) l.exports ++ from9 l

abbrev from6 : Layout → List Mark
from6 l = section_marks 6 (entry_marks global_cells) l.globals ++ from7 l

abbrev from5 : Layout → List Mark
from5 l = section_marks 5 (entry_marks (plain memory_type)) l.memories ++ from6 l

abbrev from4 : Layout → List Mark
from4 l = section_marks 4 (entry_marks (plain table_type)) l.tables ++ from5 l

abbrev from3 : Layout → List Mark
from3 l = section_marks 3 (entry_marks (plain unsigned)) l.functions ++ from4 l

abbrev from2 : Layout → List Mark
from2 l = section_marks 2 (entry_marks import_cells) l.imports ++ from3 l

abbrev from1 : Layout → List Mark
from1 l = section_marks 1 (entry_marks func_type_cells) l.types ++ from2 l

module _ (l : Layout) where
  later11 : Later 10 (from11 l)
  later11 = section_later 10 11 (entry_marks data_cells) l.segments.size l.segments.content (Last ∷ []) (omega arith) tt

  later10 : Later 9 (from10 l)
  later10 = section_later 9 10 bodies_marks l.bodies.size l.bodies.content (from11 l) (omega arith) later11

  later9 : Later 7 (from9 l)
  later9 = section_later 7 9 (entry_marks element_cells) l.elements.size l.elements.content (from10 l) (omega arith)
      later10

  later7 : Later 6 (from7 l)
  later7 = section_later 6 7 (entry_marks (plain export)) l.exports.size l.exports.content (from9 l) (omega arith)
      later9

  later6 : Later 5 (from6 l)
  later6 = section_later 5 6 (entry_marks global_cells) l.globals.size l.globals.content (from7 l) (omega arith) later7

  later5 : Later 4 (from5 l)
  later5 = section_later 4 5 (entry_marks (plain memory_type)) l.memories.size l.memories.content (from6 l)
      (omega arith) later6

  later4 : Later 3 (from4 l)
  later4 = section_later 3 4 (entry_marks (plain table_type)) l.tables.size l.tables.content (from5 l) (omega arith)
      later5

  later3 : Later 2 (from3 l)
  later3 = section_later 2 3 (entry_marks (plain unsigned)) l.functions.size l.functions.content (from4 l) (omega arith)
      later4

  later2 : Later 1 (from2 l)
  later2 = section_later 1 2 (entry_marks import_cells) l.imports.size l.imports.content (from3 l) (omega arith) later3

module _ (l r : Layout) (f : Fits l) (g : Fits r) where
  join11 : Join (from11 l) (from11 r)
  join11 = entries_join 11 data_segment data_cells data_meets l.segments r.segments (Last ∷ []) (Last ∷ []) f.segments
      g.segments tt tt (inr (refl, tt))

  join10 : Join (from10 l) (from10 r)
  join10 =
      sections_join 10 bodies_marks (list_all body_fits) l.bodies.size r.bodies.size l.bodies.content r.bodies.content
      (from11 l) (from11 r) (λ h k. bodies_join l.bodies.content r.bodies.content (few_bodies l f) (few_bodies r g)
      h k) f.bodies g.bodies
      (later11 l) (later11 r) join11

  join9 : Join (from9 l) (from9 r)
  join9 = entries_join 9 element_segment element_cells element_meets l.elements r.elements (from10 l) (from10 r)
      f.elements g.elements (later10 l) (later10 r) join10

  join7 : Join (from7 l) (from7 r)
  join7 = entries_join 7 export (plain export) (plain_meets export export_law) l.exports r.exports (from9 l) (from9 r)
      f.exports g.exports (later9 l) (later9 r) join9

  join6 : Join (from6 l) (from6 r)
  join6 = entries_join 6 global global_cells global_meets l.globals r.globals (from7 l) (from7 r) f.globals g.globals
      (later7 l) (later7 r) join7

  join5 : Join (from5 l) (from5 r)
  join5 = entries_join 5 memory_type (plain memory_type) (plain_meets memory_type memory_type_law) l.memories r.memories
      (from6 l) (from6 r) f.memories g.memories (later6 l) (later6 r) join6

  join4 : Join (from4 l) (from4 r)
  join4 = entries_join 4 table_type (plain table_type) (plain_meets table_type table_type_law) l.tables r.tables
      (from5 l) (from5 r) f.tables g.tables (later5 l) (later5 r) join5

  join3 : Join (from3 l) (from3 r)
  join3 = entries_join 3 unsigned (plain unsigned) (plain_meets unsigned unsigned_law) l.functions r.functions (from4 l)
      (from4 r) f.functions g.functions (later4 l) (later4 r) join4

  join2 : Join (from2 l) (from2 r)
  join2 = entries_join 2 import import_cells import_meets l.imports r.imports (from3 l) (from3 r) f.imports g.imports
      (later3 l) (later3 r) join3

  join1 : Join (from1 l) (from1 r)
  join1 = entries_join 1 func_type func_type_cells func_type_meets l.types r.types (from2 l) (from2 r) f.types g.types
      (later2 l) (later2 r) join2

  pub layouts_join : Join (layout_marks l) (layout_marks r)
  layouts_join = join_then (byte_marks (others header)) (byte_marks (others header)) (from1 l) (from1 r)
      (join_same (byte_marks (others header))) join1
