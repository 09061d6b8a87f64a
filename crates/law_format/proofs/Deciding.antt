-- The first fault of bytes that encode no module.
use Rattle.std.proofs.Common.{◌≡◌, ℕ, zero, suc, ◌<◌, true, List, [], ◌∷◌, ◌++◌, length, Result, Ok, Err, refl, sym, ap, subst, ◌∙◌, append-nil, arith}
use Rattle.std.specs.List.{flat_map, list_all}
use Rattle.std.proofs.lemmas.Bool.{and_parts}
use Rattle.wasm_tree.specs.declared.fault.WFault.{WFault}
use Rattle.wasm_tree.specs.declared.module.Body.{Body}
use Rattle.wasm_tree.specs.Format.{Format}
use Rattle.wasm_code.specs.Number.{unsigned}
use Rattle.wasm_code.specs.Parts.{entries}
use Rattle.wasm_binary.specs.Binary.{header, func_type, table_type, memory_type, import, global, export, element_segment, data_segment}
use Rattle.wasm_code.proofs.Laws.{IsBytes}
use Rattle.law_format.specs.Places.{Cell, bytes_of, others, plain, vector_cells, func_type_cells, import_cells, global_cells, element_cells, data_cells}
use Rattle.law_format.specs.Layouts.{Part, Mark, Byte, Opens, Closes, Last, byte_marks, flat, within, part_marks, section_marks, entry_marks, body_cells, bodies_marks, Layout, layout_marks, Fits, part_fits, body_content, body_fits}
use Rattle.law_format.specs.FirstFault.{Begins, CannotStand, Decides, NoByte, WrongByte, ByteBehind, BytesLeft, FirstFaultDecides}
use Rattle.law_format.proofs.Combined.{ok_no_err}
use Rattle.law_format.proofs.Breaks.{flat-append, flat-byte_marks, Why}
use Rattle.law_format.proofs.Spelled.{no_bytes, more_bytes, both_bytes, unsigned_bytes}
use Rattle.law_format.proofs.Spellings.{fit_bytes, Spelling, cells_bytes, entries_spelling, unsigned_spelling, func_type_spelling, import_spelling, table_type_spelling, memory_type_spelling, global_spelling, export_spelling, element_spelling, data_spelling, body_spelling}
use Rattle.law_format.proofs.Endings.{layout_ended, last_is_end}
use Rattle.law_format.proofs.Modules.{Y1, m1, m2, m3, m4, m5, m6, m7, m9, m10, m11, ok1, ok2, ok3, ok4, ok5, ok6, ok7, ok9, ok10, ok11, free1, skipping, module_chain, module_break}

abbrev to_layout : Y1 → Layout
to_layout y = record {
  types = y.0;
  imports = y.1.0;
  functions = y.1.1.0;
  tables = y.1.1.1.0;
  memories = y.1.1.1.1.0;
  globals = y.1.1.1.1.1.0;
  exports = y.1.1.1.1.1.1.0;
  elements = y.1.1.1.1.1.1.1.0;
  bodies = y.1.1.1.1.1.1.1.1.0;
  segments = y.1.1.1.1.1.1.1.1.1.0;
}

abbrev of_layout : Layout → Y1
of_layout l = (
  l.types,
  (
    l.imports,
    (
      l.functions,
      (l.tables, (l.memories, (l.globals, (l.exports, (l.elements, (l.bodies, (l.segments, tt))))))),
    ),
  ),
)

abbrev all_marks : Y1 → List Mark
all_marks y = byte_marks (others header) ++ m1 y

same_marks : (y : Y1) → layout_marks (to_layout y) ≡ all_marks y
unfolding m1 m2 m3 m4 m5 m6 m7 m9 m10 m11
same_marks y = refl

marks_of : (l : Layout) → all_marks (of_layout l) ≡ layout_marks l
unfolding m1 m2 m3 m4 m5 m6 m7 m9 m10 m11
marks_of l = refl

fits_of : (y : Y1) → ok1 y → Fits (to_layout y)
unfolding ok1 ok2 ok3 ok4 ok5 ok6 ok7 ok9 ok10 ok11
fits_of y h = record {
  types = h.0;
  imports = h.1.0;
  functions = h.1.1.0;
  tables = h.1.1.1.0;
  memories = h.1.1.1.1.0;
  globals = h.1.1.1.1.1.0;
  exports = h.1.1.1.1.1.1.0;
  elements = h.1.1.1.1.1.1.1.0;
  bodies = h.1.1.1.1.1.1.1.1.0;
  as_many = h.1.1.1.1.1.1.1.1.1;
  segments = h.1.1.1.1.1.1.1.1.2.0;
}

ok_of : (l : Layout) → Fits l → ok1 (of_layout l)
unfolding ok1 ok2 ok3 ok4 ok5 ok6 ok7 ok9 ok10 ok11
ok_of l f = (
  f.types,
  (
    f.imports,
    (
      f.functions,
      (f.tables, (f.memories, (f.globals, (f.exports, (f.elements, (f.bodies, f.as_many, (f.segments, tt))))))),
    ),
  ),
)

-- ---- a module's marks are bytes

part_bytes : {A : Type 0} (marks : A → List Mark) (p : Part A) → IsBytes (flat (marks p.content))
    → IsBytes (flat (part_marks marks p))
part_bytes marks p h =
    let inner : IsBytes (flat (marks p.content ++ Closes ∷ [])) =
    subst IsBytes (sym (flat-append (marks p.content) (Closes ∷ [])))
    (both_bytes (flat (marks p.content)) [] h no_bytes) in
    let size : IsBytes (flat (byte_marks (plain unsigned p.size))) =
    subst IsBytes (sym (flat-byte_marks (plain unsigned p.size))) (cells_bytes_plain p.size) in
    subst IsBytes (sym (flat-append (byte_marks (plain unsigned p.size))
    (Opens p.size ∷ (marks p.content ++ Closes ∷ []))))
    (both_bytes (flat (byte_marks (plain unsigned p.size))) (flat (marks p.content ++ Closes ∷ [])) size inner)
  where
    cells_bytes_plain : (n : ℕ) → IsBytes (bytes_of (plain unsigned n))
    cells_bytes_plain n = subst IsBytes (sym (unsigned_spelling.spelled n)) (unsigned_bytes n)

section_bytes : {A : Type 0} (k : ℕ) (p : Format A) (cells : A → List Cell) → Spelling p cells → k < 256
    → (size : ℕ) (xs : List A) → part_fits (entries p).fits size xs ≡ true
    → IsBytes (flat (section_marks k (entry_marks cells) (record { size = size; content = xs })))
section_bytes k p cells s small size [] h = no_bytes
section_bytes k p cells s small size (x ∷ xs) h =
    let f = and_parts (unsigned.fits size) ((entries p).fits (x ∷ xs)) h in
    more_bytes k (flat (part_marks (entry_marks cells) (record { size = size; content = x ∷ xs }))) small
    (part_bytes (entry_marks cells) (record { size = size; content = x ∷ xs })
    (subst IsBytes (sym (flat-byte_marks (vector_cells cells (x ∷ xs))))
    (cells_bytes (entries p) (vector_cells cells) (entries_spelling p cells s) (x ∷ xs) f.1)))

bodies_bytes : (bs : List (Part Body)) → list_all body_fits bs ≡ true
    → IsBytes (flat (flat_map (part_marks (λ (b : Body). byte_marks (body_cells b))) bs))
bodies_bytes [] h = no_bytes
bodies_bytes (b ∷ bs) h =
    let f = and_parts (body_fits b) (list_all body_fits bs) h in
    let g = and_parts (unsigned.fits b.size) (body_content.fits b.content) f.0 in
    let one : IsBytes (flat (part_marks (λ (b : Body). byte_marks (body_cells b)) b)) =
    part_bytes (λ (b : Body). byte_marks (body_cells b)) b
    (subst IsBytes (sym (flat-byte_marks (body_cells b.content)))
    (cells_bytes body_content body_cells body_spelling b.content g.1)) in
    subst IsBytes (sym (flat-append (part_marks (λ (b : Body). byte_marks (body_cells b)) b)
    (flat_map (part_marks (λ (b : Body). byte_marks (body_cells b))) bs)))
    (both_bytes (flat (part_marks (λ (b : Body). byte_marks (body_cells b)) b))
    (flat (flat_map (part_marks (λ (b : Body). byte_marks (body_cells b))) bs)) one (bodies_bytes bs f.1))

code_bytes : (size : ℕ) (bs : List (Part Body)) → part_fits (list_all body_fits) size bs ≡ true
    → IsBytes (flat (section_marks 10 bodies_marks (record { size = size; content = bs })))
code_bytes size [] h = no_bytes
code_bytes size (b ∷ bs) h =
    let f = and_parts (unsigned.fits size) (list_all body_fits (b ∷ bs)) h in
    let count : List Mark = byte_marks (plain unsigned (length (b ∷ bs))) in
    let each : List Mark = flat_map (part_marks (λ (b : Body). byte_marks (body_cells b))) (b ∷ bs) in
    let counted : IsBytes (flat count) = subst IsBytes
    (sym (flat-byte_marks (plain unsigned (length (b ∷ bs))) ∙ unsigned_spelling.spelled (length (b ∷ bs))))
    (unsigned_bytes (length (b ∷ bs))) in
    more_bytes 10 (flat (part_marks bodies_marks (record { size = size; content = b ∷ bs }))) (omega arith)
    (part_bytes bodies_marks (record { size = size; content = b ∷ bs })
    (subst IsBytes (sym (flat-append count each))
    (both_bytes (flat count) (flat each) counted (bodies_bytes (b ∷ bs) f.1))))

both_flat : (xs ys : List Mark) → IsBytes (flat xs) → IsBytes (flat ys) → IsBytes (flat (xs ++ ys))
both_flat xs ys h g = subst IsBytes (sym (flat-append xs ys)) (both_bytes (flat xs) (flat ys) h g)

header_bytes : IsBytes (flat (byte_marks (others header)))
header_bytes = fit_bytes (flat (byte_marks (others header))) refl

layout_bytes : (l : Layout) → Fits l → IsBytes (flat (layout_marks l))
layout_bytes l f =
    let end : List Mark = Last ∷ [] in
    let s11 : List Mark = section_marks 11 (entry_marks data_cells) l.segments in
    let from11 : List Mark = s11 ++ end in
    let b11 : IsBytes (flat from11) = both_flat s11 end
    (section_bytes 11 data_segment data_cells data_spelling (omega arith) l.segments.size l.segments.content
    f.segments) no_bytes in
    let s10 : List Mark = section_marks 10 bodies_marks l.bodies in
    let from10 : List Mark = s10 ++ from11 in
    let b10 : IsBytes (flat from10) = both_flat s10 from11 (code_bytes l.bodies.size l.bodies.content f.bodies) b11 in
    let s9 : List Mark = section_marks 9 (entry_marks element_cells) l.elements in
    let from9 : List Mark = s9 ++ from10 in
    let b9 : IsBytes (flat from9) = both_flat s9 from10
    (section_bytes 9 element_segment element_cells element_spelling (omega arith) l.elements.size l.elements.content
    f.elements) b10 in
    let s7 : List Mark = section_marks 7 (entry_marks (plain export)) l.exports in
    let from7 : List Mark = s7 ++ from9 in
    let b7 : IsBytes (flat from7) = both_flat s7 from9
    (section_bytes 7 export (plain export) export_spelling (omega arith) l.exports.size l.exports.content f.exports)
    b9 in
    let s6 : List Mark = section_marks 6 (entry_marks global_cells) l.globals in
    let from6 : List Mark = s6 ++ from7 in
    let b6 : IsBytes (flat from6) = both_flat s6 from7
    (section_bytes 6 global global_cells global_spelling (omega arith) l.globals.size l.globals.content f.globals)
    b7 in
    let s5 : List Mark = section_marks 5 (entry_marks (plain memory_type)) l.memories in
    let from5 : List Mark = s5 ++ from6 in
    let b5 : IsBytes (flat from5) = both_flat s5 from6
    (section_bytes 5 memory_type (plain memory_type) memory_type_spelling (omega arith) l.memories.size
    l.memories.content f.memories) b6 in
    let s4 : List Mark = section_marks 4 (entry_marks (plain table_type)) l.tables in
    let from4 : List Mark = s4 ++ from5 in
    let b4 : IsBytes (flat from4) = both_flat s4 from5
    (section_bytes 4 table_type (plain table_type) table_type_spelling (omega arith) l.tables.size l.tables.content
    f.tables) b5 in
    let s3 : List Mark = section_marks 3 (entry_marks (plain unsigned)) l.functions in
    let from3 : List Mark = s3 ++ from4 in
    let b3 : IsBytes (flat from3) = both_flat s3 from4
    (section_bytes 3 unsigned (plain unsigned) unsigned_spelling (omega arith) l.functions.size l.functions.content
    f.functions) b4 in
    let s2 : List Mark = section_marks 2 (entry_marks import_cells) l.imports in
    let from2 : List Mark = s2 ++ from3 in
    let b2 : IsBytes (flat from2) = both_flat s2 from3
    (section_bytes 2 import import_cells import_spelling (omega arith) l.imports.size l.imports.content f.imports)
    b3 in
    let s1 : List Mark = section_marks 1 (entry_marks func_type_cells) l.types in
    let from1 : List Mark = s1 ++ from2 in
    let b1 : IsBytes (flat from1) = both_flat s1 from2
    (section_bytes 1 func_type func_type_cells func_type_spelling (omega arith) l.types.size l.types.content
    f.types) b2 in
    both_flat (byte_marks (others header)) from1 header_bytes b1

-- ---- the first fault

abbrev free : List ℕ → Result (Unit {0}) WFault
free bytes = skipping header free1 bytes

free_reads : (l : Layout) → Fits l → free (flat (layout_marks l)) ≡ Ok tt
free_reads l f = ap (λ (t : List Mark). free (flat t)) (sym (marks_of l)) ∙ module_chain.whole (of_layout l) (ok_of l f)

cannot_stand : (front : List Mark) (b : ℕ) (fault : WFault)
    → ((follow : List ℕ) → IsBytes (flat front ++ (b ∷ follow)) → free (flat front ++ (b ∷ follow)) ≡ Err fault)
    → CannotStand front b
cannot_stand front b fault h place g =
    let text : flat (layout_marks g.layout) ≡ flat front ++ (b ∷ flat g.rest) = ap flat g.marks
    ∙ flat-append front (Byte (place, b) ∷ g.rest) in
    let fits : IsBytes (flat front ++ (b ∷ flat g.rest)) = subst IsBytes text (layout_bytes g.layout g.fits) in
    ok_no_err tt fault (sym (free_reads g.layout g.fits) ∙ ap free text ∙ h (flat g.rest) fits)

-- a front that the free reading does not take is no module
no_end : (front : List Mark) (fault : WFault) → (IsBytes (flat front) → free (flat front) ≡ Err fault)
    → ¬ (Begins front Last)
no_end front fault h b =
    let e = layout_ended b.layout in
    let last = last_is_end e.front front b.rest e.inner (sym e.whole ∙ b.marks) in
    let text : flat (layout_marks b.layout) ≡ flat front = ap flat b.marks ∙ flat-append front (Last ∷ b.rest)
    ∙ ap (λ (t : List Mark). flat front ++ flat t) last.1 ∙ append-nil (flat front) in
    let fits : IsBytes (flat front) = subst IsBytes text (layout_bytes b.layout b.fits) in
    ok_no_err tt fault (sym (free_reads b.layout b.fits) ∙ ap free text ∙ h fits)

too_large : (front : List Mark) (rooms window : List ℕ) (fault : WFault)
    → Why free (flat front) Closes rooms window fault → Decides front Closes rooms window fault
too_large front [] window fault h = absurd h.0
too_large front (zero ∷ rooms) window fault h = absurd h.0
too_large front (suc n ∷ rooms) window fault h =
    subst (λ (f : WFault). Decides front Closes (suc n ∷ rooms) window f) (sym h.1) (BytesLeft n rooms window)

decided : (front : List Mark) (next : Mark) (rooms window : List ℕ) (fault : WFault)
    → Why free (flat front) next rooms window fault → Decides front next rooms window fault
decided front (Byte cell) rooms [] fault h =
    subst (λ (f : WFault). Decides front (Byte cell) rooms [] f) (sym h.0) (NoByte cell rooms (no_end front fault h.1))
decided front (Byte (place, c)) rooms (b ∷ more) fault h =
    subst (λ (f : WFault). Decides front (Byte (place, c)) rooms (b ∷ more) f) (sym h.0)
    (WrongByte place c b more rooms (cannot_stand front b fault h.1))
decided front (Opens size) rooms window fault h = absurd h
decided front Closes rooms window fault h = too_large front rooms window fault h
decided front Last rooms [] fault h = absurd h
decided front Last rooms (b ∷ more) fault h =
    subst (λ (f : WFault). Decides front Last rooms (b ∷ more) f) (sym h.0)
    (ByteBehind b more rooms (cannot_stand front b fault h.1))

pub first_fault_decides : FirstFaultDecides
first_fault_decides bytes fits fault e =
    let s = module_break bytes fault fits e in
    record {
      front = s.front;
      at = s.at;
      parts = s.parts;
      rooms = s.rooms;
      kept = s.kept;
      next = s.next;
      begins = record {
        layout = to_layout s.value;
        fits = fits_of s.value s.fits;
        rest = s.rest;
        marks =
            same_marks s.value ∙ s.begins;
      };
      decides = decided s.front s.next s.rooms (within s.rooms s.at) fault s.why;
    }
