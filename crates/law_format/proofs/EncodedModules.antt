-- The marks of a module that is encoded: their bytes are the encoding, and each stated size is kept.
use Rattle.std.proofs.Common.{◌≡◌, ℕ, ◌^◌, true, ltb, List, [], ◌∷◌, ◌++◌, length, map, Option, Some, refl, sym, ap, ◌∙◌, append_assoc, append-nil, arith}
use Rattle.std.specs.List.{flat_map, list_all}
use Rattle.std.proofs.lemmas.Bool.{and_parts, and_from}
use Rattle.std.proofs.lemmas.List.{length-map}
use Rattle.wasm_tree.specs.declared.module.Body.{Body}
use Rattle.wasm_tree.specs.declared.module.Function.{Function}
use Rattle.wasm_tree.specs.declared.module.WModule.{WModule}
use Rattle.wasm_tree.specs.Format.{Format}
use Rattle.wasm_code.specs.Number.{unsigned}
use Rattle.wasm_code.specs.Parts.{entries, section}
use Rattle.wasm_binary.specs.Binary.{header, func_type, table_type, memory_type, import, global, export, element_segment, body, data_segment, body_encoding, bodies_encoding, code_encoding, types_of, first_sections, middle_sections, last_sections, module_encoding, module_fits}
use Rattle.law_format.specs.Places.{OtherByte, Cell, others, plain, vector_cells, func_type_cells, import_cells, global_cells, element_cells, data_cells}
use Rattle.law_format.specs.Layouts.{Part, Mark, Opens, Closes, Last, byte_marks, flat, room, part_marks, section_marks, entry_marks, body_cells, bodies_marks, Layout, layout_marks, Fits, part_fits, section_fits, body_content, body_fits}
use Rattle.law_format.proofs.Stops.{bytes-all}
use Rattle.law_format.proofs.Breaks.{flat-append, flat-byte_marks, then_room, room-append, room_free, room_under}
use Rattle.law_format.proofs.Spellings.{Spelling, entries_spelling, unsigned_spelling, func_type_spelling, import_spelling, table_type_spelling, memory_type_spelling, global_spelling, export_spelling, element_spelling, data_spelling, body_spelling}

abbrev Rooms : Type 0
Rooms = Option (List ℕ)

-- a part with the size that it takes
abbrev sized : {A : Type 0} → (A → List Mark) → A → Part A
sized marks x = record { size = length (flat (marks x)); content = x }

-- ---- sizes are kept

abbrev Keeps : List Mark → Type 0
Keeps marks = room [] marks ≡ Some []

keeps_then : (xs ys : List Mark) → Keeps xs → Keeps ys → Keeps (xs ++ ys)
keeps_then xs ys h g = room-append [] xs ys ∙ ap (λ (o : Rooms). then_room o ys) h ∙ g

part_kept : {A : Type 0} (marks : A → List Mark) (x : A) → Keeps (marks x) → Keeps (part_marks marks (sized marks x))
part_kept marks x h =
    let n : ℕ = length (flat (marks x)) in
    room-append [] (byte_marks (plain unsigned n)) (Opens n ∷ (marks x ++ Closes ∷ []))
    ∙ ap (λ (o : Rooms). then_room o (Opens n ∷ (marks x ++ Closes ∷ []))) (room_free (plain unsigned n))
    ∙ room-append (n ∷ []) (marks x) (Closes ∷ [])
    ∙ ap (λ (o : Rooms). then_room o (Closes ∷ [])) (room_under (marks x) [] [] n 0 h (omega arith))

section_kept : {A : Type 0} (k : ℕ) (marks : List A → List Mark) (xs : List A) → Keeps (marks xs)
    → Keeps (section_marks k marks (sized marks xs))
section_kept k marks [] h = refl
section_kept k marks (x ∷ xs) h = part_kept marks (x ∷ xs) h

entries_kept : {A : Type 0} (k : ℕ) (cells : A → List Cell) (xs : List A)
    → Keeps (section_marks k (entry_marks cells) (sized (entry_marks cells) xs))
entries_kept k cells xs = section_kept k (entry_marks cells) xs (room_free (vector_cells cells xs))

-- ---- the bytes are the encoding

part_flat : {A : Type 0} (marks : A → List Mark) (p : Part A)
    → flat (part_marks marks p) ≡ unsigned.encoding p.size ++ flat (marks p.content)
part_flat marks p =
    flat-append (byte_marks (plain unsigned p.size)) (Opens p.size ∷ (marks p.content ++ Closes ∷ []))
    ∙ ap (λ (t : List ℕ). t ++ flat (marks p.content ++ Closes ∷ []))
    (flat-byte_marks (plain unsigned p.size) ∙ bytes-all OtherByte (unsigned.encoding p.size))
    ∙ ap (λ (t : List ℕ). unsigned.encoding p.size ++ t)
    (flat-append (marks p.content) (Closes ∷ []) ∙ append-nil (flat (marks p.content)))

sized_flat : {A : Type 0} (marks : A → List Mark) (x : A) (text : List ℕ) → flat (marks x) ≡ text
    → flat (part_marks marks (sized marks x)) ≡ unsigned.encoding (length text) ++ text
sized_flat marks x text e = part_flat marks (sized marks x) ∙ ap (λ (t : List ℕ). unsigned.encoding (length t) ++ t) e

entry_flat : {A : Type 0} (p : Format A) (cells : A → List Cell) → Spelling p cells → (xs : List A)
    → flat (entry_marks cells xs) ≡ (entries p).encoding xs
entry_flat p cells s xs = flat-byte_marks (vector_cells cells xs) ∙ (entries_spelling p cells s).spelled xs

section_flat : {A : Type 0} (k : ℕ) (p : Format A) (cells : A → List Cell) → Spelling p cells → (xs : List A)
    → flat (section_marks k (entry_marks cells) (sized (entry_marks cells) xs)) ≡ (section k p).encoding xs
section_flat k p cells s [] = refl
section_flat k p cells s (x ∷ xs) = ap (λ (t : List ℕ). k ∷ t)
    (sized_flat (entry_marks cells) (x ∷ xs) ((entries p).encoding (x ∷ xs)) (entry_flat p cells s (x ∷ xs)))

-- ---- what fits

section_fit : {A : Type 0} (k : ℕ) (p : Format A) (cells : A → List Cell) → Spelling p cells → (xs : List A)
    → (section k p).fits xs ≡ true → section_fits p (sized (entry_marks cells) xs)
section_fit k p cells s [] h = refl
section_fit k p cells s (x ∷ xs) h =
    let f = and_parts ((entries p).fits (x ∷ xs)) (ltb (length ((entries p).encoding (x ∷ xs))) (2 ^ 32)) h in
    and_from _ _ (ap (λ (t : List ℕ). unsigned.fits (length t)) (entry_flat p cells s (x ∷ xs)) ∙ f.1) f.0

-- ---- bodies

abbrev one_marks : Body → List Mark
one_marks b = byte_marks (body_cells b)

abbrev body_part : Function → Part Body
body_part f = sized one_marks f.body

abbrev parts_of : List Function → List (Part Body)
parts_of fs = map body_part fs

one_flat : (b : Body) → flat (one_marks b) ≡ body_content.encoding b
one_flat b = flat-byte_marks (body_cells b) ∙ body_spelling.spelled b

body_flat : (f : Function) → flat (part_marks one_marks (body_part f)) ≡ body_encoding f
unfolding body
body_flat f = sized_flat one_marks f.body (body_content.encoding f.body) (one_flat f.body)

each_flat : (fs : List Function) → flat (flat_map (part_marks one_marks) (parts_of fs)) ≡ flat_map body_encoding fs
each_flat [] = refl
each_flat (f ∷ fs) =
    flat-append (part_marks one_marks (body_part f)) (flat_map (part_marks one_marks) (parts_of fs))
    ∙ ap (λ (t : List ℕ). t ++ flat (flat_map (part_marks one_marks) (parts_of fs))) (body_flat f)
    ∙ ap (λ (t : List ℕ). body_encoding f ++ t) (each_flat fs)

bodies_flat : (fs : List Function) → flat (bodies_marks (parts_of fs)) ≡ bodies_encoding fs
bodies_flat fs =
    flat-append (byte_marks (plain unsigned (length (parts_of fs)))) (flat_map (part_marks one_marks) (parts_of fs))
    ∙ ap (λ (t : List ℕ). t ++ flat (flat_map (part_marks one_marks) (parts_of fs)))
    (flat-byte_marks (plain unsigned (length (parts_of fs)))
    ∙ bytes-all OtherByte (unsigned.encoding (length (parts_of fs)))
    ∙ ap unsigned.encoding (length-map fs body_part))
    ∙ ap (λ (t : List ℕ). unsigned.encoding (length fs) ++ t) (each_flat fs)

code_flat : (fs : List Function) → flat (section_marks 10 bodies_marks (sized bodies_marks (parts_of fs)))
    ≡ code_encoding fs
code_flat [] = refl
code_flat (f ∷ fs) = ap (λ (t : List ℕ). 10 ∷ t)
    (sized_flat bodies_marks (parts_of (f ∷ fs)) (bodies_encoding (f ∷ fs)) (bodies_flat (f ∷ fs)))

each_kept : (fs : List Function) → Keeps (flat_map (part_marks one_marks) (parts_of fs))
each_kept [] = refl
each_kept (f ∷ fs) = keeps_then (part_marks one_marks (body_part f)) (flat_map (part_marks one_marks) (parts_of fs))
    (part_kept one_marks f.body (room_free (body_cells f.body))) (each_kept fs)

bodies_kept : (fs : List Function) → Keeps (bodies_marks (parts_of fs))
bodies_kept fs = keeps_then (byte_marks (plain unsigned (length (parts_of fs))))
    (flat_map (part_marks one_marks) (parts_of fs)) (room_free (plain unsigned (length (parts_of fs)))) (each_kept fs)

body_fit : (b : Body) → body.fits b ≡ true → body_fits (sized one_marks b) ≡ true
unfolding body
body_fit b h =
    let f = and_parts (body_content.fits b) (ltb (length (body_content.encoding b)) (2 ^ 32)) h in
    and_from _ _ (ap (λ (t : List ℕ). unsigned.fits (length t)) (one_flat b) ∙ f.1) f.0

each_fit : (fs : List Function) → list_all (λ (f : Function). body.fits f.body) fs ≡ true
    → list_all body_fits (parts_of fs) ≡ true
each_fit [] h = refl
each_fit (f ∷ fs) h =
    let g = and_parts (body.fits f.body) (list_all (λ (f : Function). body.fits f.body) fs) h in
    and_from _ _ (body_fit f.body g.0) (each_fit fs g.1)

code_fit : (fs : List Function) → list_all (λ (f : Function). body.fits f.body) fs ≡ true
    → ltb (length (bodies_encoding fs)) (2 ^ 32) ≡ true
    → part_fits (list_all body_fits) (length (flat (bodies_marks (parts_of fs)))) (parts_of fs) ≡ true
code_fit [] h g = refl
code_fit (f ∷ fs) h g = and_from _ _ (ap (λ (t : List ℕ). unsigned.fits (length t)) (bodies_flat (f ∷ fs)) ∙ g)
    (each_fit (f ∷ fs) h)

-- ---- the module

pub layout_of : WModule → Layout
layout_of m = record {
  types = sized (entry_marks func_type_cells) m.types;
  imports = sized (entry_marks import_cells) m.imports;
  functions = sized (entry_marks (plain unsigned)) (types_of m.functions);
  tables = sized (entry_marks (plain table_type)) m.tables;
  memories = sized (entry_marks (plain memory_type)) m.memories;
  globals = sized (entry_marks global_cells) m.globals;
  exports = sized (entry_marks (plain export)) m.exports;
  elements = sized (entry_marks element_cells) m.elements;
  bodies = sized bodies_marks (parts_of m.functions);
  segments = sized (entry_marks data_cells) m.«data»;
}

module _ (m : WModule) where
  abbrev s1 : List Mark
  s1 = section_marks 1 (entry_marks func_type_cells) (sized (entry_marks func_type_cells) m.types)

  abbrev s2 : List Mark
  s2 = section_marks 2 (entry_marks import_cells) (sized (entry_marks import_cells) m.imports)

  abbrev s3 : List Mark
  s3 = section_marks 3 (entry_marks (plain unsigned)) (sized (entry_marks (plain unsigned)) (types_of m.functions))

  abbrev s4 : List Mark
  s4 = section_marks 4 (entry_marks (plain table_type)) (sized (entry_marks (plain table_type)) m.tables)

  abbrev s5 : List Mark
  s5 = section_marks 5 (entry_marks (plain memory_type)) (sized (entry_marks (plain memory_type)) m.memories)

  abbrev s6 : List Mark
  s6 = section_marks 6 (entry_marks global_cells) (sized (entry_marks global_cells) m.globals)

  abbrev s7 : List Mark
  s7 = section_marks 7 (entry_marks (plain export)) (sized (entry_marks (plain export)) m.exports)

  abbrev s9 : List Mark
  s9 = section_marks 9 (entry_marks element_cells) (sized (entry_marks element_cells) m.elements)

  abbrev s10 : List Mark
  s10 = section_marks 10 bodies_marks (sized bodies_marks (parts_of m.functions))

  abbrev s11 : List Mark
  s11 = section_marks 11 (entry_marks data_cells) (sized (entry_marks data_cells) m.«data»)

  abbrev l9 : List Mark
  l9 = s9 ++ (s10 ++ (s11 ++ Last ∷ []))

  abbrev l4 : List Mark
  l4 = s4 ++ (s5 ++ (s6 ++ (s7 ++ l9)))

  abbrev l1 : List Mark
  l1 = s1 ++ (s2 ++ (s3 ++ l4))

  abbrev all_marks : List Mark
  all_marks = byte_marks (others header) ++ l1

  marks_are : layout_marks (layout_of m) ≡ all_marks
  unfolding layout_of
  marks_are = refl

  kept9 : Keeps l9
  kept9 =
      keeps_then s9 (s10 ++ (s11 ++ Last ∷ [])) (entries_kept 9 element_cells m.elements)
      (keeps_then s10 (s11 ++ Last ∷ []) (section_kept 10 bodies_marks (parts_of m.functions)
      (bodies_kept m.functions)) (keeps_then s11 (Last ∷ []) (entries_kept 11 data_cells m.«data») refl))

  kept4 : Keeps l4
  kept4 =
      keeps_then s4 (s5 ++ (s6 ++ (s7 ++ l9))) (entries_kept 4 (plain table_type) m.tables)
      (keeps_then s5 (s6 ++ (s7 ++ l9)) (entries_kept 5 (plain memory_type) m.memories)
      (keeps_then s6 (s7 ++ l9) (entries_kept 6 global_cells m.globals)
      (keeps_then s7 l9 (entries_kept 7 (plain export) m.exports) kept9)))

  kept1 : Keeps l1
  kept1 = keeps_then s1 (s2 ++ (s3 ++ l4)) (entries_kept 1 func_type_cells m.types)
      (keeps_then s2 (s3 ++ l4) (entries_kept 2 import_cells m.imports)
      (keeps_then s3 l4 (entries_kept 3 (plain unsigned) (types_of m.functions)) kept4))

  pub module_kept : room [] (layout_marks (layout_of m)) ≡ Some []
  module_kept = ap (room []) marks_are ∙ keeps_then (byte_marks (others header)) l1 (room_free (others header)) kept1

  flat_then : (xs ys : List Mark) (s t : List ℕ) → flat xs ≡ s → flat ys ≡ t → flat (xs ++ ys) ≡ s ++ t
  flat_then xs ys s t e f = flat-append xs ys ∙ ap (λ (a : List ℕ). a ++ flat ys) e ∙ ap (λ (b : List ℕ). s ++ b) f

  abbrev e9 : List ℕ
  e9 = (section 9 element_segment).encoding m.elements
      ++ (code_encoding m.functions ++ (section 11 data_segment).encoding m.«data»)

  abbrev e4 : List ℕ
  e4 = (section 4 table_type).encoding m.tables
      ++ ((section 5 memory_type).encoding m.memories
      ++ ((section 6 global).encoding m.globals ++ ((section 7 export).encoding m.exports ++ e9)))

  abbrev e1 : List ℕ
  e1 = (section 1 func_type).encoding m.types
      ++ ((section 2 import).encoding m.imports ++ ((section 3 unsigned).encoding (types_of m.functions) ++ e4))

  flat9 : flat l9 ≡ e9
  flat9 =
      flat_then s9 (s10 ++ (s11 ++ Last ∷ [])) _ _
      (section_flat 9 element_segment element_cells element_spelling m.elements)
      (flat_then s10 (s11 ++ Last ∷ []) _ _ (code_flat m.functions)
      (flat-append s11 (Last ∷ []) ∙ append-nil (flat s11)
      ∙ section_flat 11 data_segment data_cells data_spelling m.«data»))

  flat4 : flat l4 ≡ e4
  flat4 =
      flat_then s4 (s5 ++ (s6 ++ (s7 ++ l9))) _ _
      (section_flat 4 table_type (plain table_type) table_type_spelling m.tables)
      (flat_then s5 (s6 ++ (s7 ++ l9)) _ _ (section_flat 5 memory_type (plain memory_type) memory_type_spelling
      m.memories)
      (flat_then s6 (s7 ++ l9) _ _ (section_flat 6 global global_cells global_spelling m.globals)
      (flat_then s7 l9 _ _ (section_flat 7 export (plain export) export_spelling m.exports) flat9)))

  flat1 : flat l1 ≡ e1
  flat1 =
      flat_then s1 (s2 ++ (s3 ++ l4)) _ _ (section_flat 1 func_type func_type_cells func_type_spelling m.types)
      (flat_then s2 (s3 ++ l4) _ _ (section_flat 2 import import_cells import_spelling m.imports)
      (flat_then s3 l4 _ _ (section_flat 3 unsigned (plain unsigned) unsigned_spelling (types_of m.functions))
      flat4))

  encoding_is : module_encoding m ≡ header ++ e1
  unfolding module_encoding first_sections middle_sections last_sections
  encoding_is = regroup header ((section 1 func_type).encoding m.types) ((section 2 import).encoding m.imports)
      ((section 3 unsigned).encoding (types_of m.functions)) ((section 4 table_type).encoding m.tables)
      ((section 5 memory_type).encoding m.memories)
      ((section 6 global).encoding m.globals) ((section 7 export).encoding m.exports)
      ((section 9 element_segment).encoding m.elements) (code_encoding m.functions)
      ((section 11 data_segment).encoding m.«data»)
    where
      regroup : (h a b c d e f g i j k : List ℕ)
          → (h ++ a ++ b ++ c) ++ (d ++ e ++ f ++ g) ++ (i ++ j ++ k) ≡ h
          ++ (a ++ (b ++ (c ++ (d ++ (e ++ (f ++ (g ++ (i ++ (j ++ k)))))))))
      regroup h a b c d e f g i j k = simp append_assoc

  pub module_flat : flat (layout_marks (layout_of m)) ≡ module_encoding m
  module_flat =
      ap flat marks_are ∙ flat_then (byte_marks (others header)) l1 header e1
      (flat-byte_marks (others header) ∙ bytes-all OtherByte header) flat1 ∙ sym encoding_is

  pub layout_fits : module_fits m ≡ true → Fits (layout_of m)
  unfolding module_fits layout_of
  layout_fits h =
      let f10 = and_parts _ ((section 11 data_segment).fits m.«data») h in
      let f9 = and_parts _ (ltb (length (bodies_encoding m.functions)) (2 ^ 32)) f10.0 in
      let f8 = and_parts _ (list_all (λ (f : Function). body.fits f.body) m.functions) f9.0 in
      let f7 = and_parts _ ((section 9 element_segment).fits m.elements) f8.0 in
      let f6 = and_parts _ ((section 7 export).fits m.exports) f7.0 in
      let f5 = and_parts _ ((section 6 global).fits m.globals) f6.0 in
      let f4 = and_parts _ ((section 5 memory_type).fits m.memories) f5.0 in
      let f3 = and_parts _ ((section 4 table_type).fits m.tables) f4.0 in
      let f2 = and_parts _ ((section 3 unsigned).fits (types_of m.functions)) f3.0 in
      let f1 = and_parts ((section 1 func_type).fits m.types) ((section 2 import).fits m.imports) f2.0 in
      record {
        types = section_fit 1 func_type func_type_cells func_type_spelling m.types f1.0;
        imports = section_fit 2 import import_cells import_spelling m.imports f1.1;
        functions = section_fit 3 unsigned (plain unsigned) unsigned_spelling (types_of m.functions) f2.1;
        tables = section_fit 4 table_type (plain table_type) table_type_spelling m.tables f3.1;
        memories = section_fit 5 memory_type (plain memory_type) memory_type_spelling m.memories f4.1;
        globals = section_fit 6 global global_cells global_spelling m.globals f5.1;
        exports = section_fit 7 export (plain export) export_spelling m.exports f6.1;
        elements = section_fit 9 element_segment element_cells element_spelling m.elements f7.1;
        bodies = code_fit m.functions f8.1 f9.1;
        as_many = length-map m.functions body_part ∙ sym (length-map m.functions (λ (f : Function). f.type_index));
        segments = section_fit 11 data_segment data_cells data_spelling m.«data» f10.1;
      }
