-- Where the reading of modules stops: section by section, from the last one to the first.
use Rattle.std.proofs.Common.{◌≡◌, ◌⊎◌, ℕ, ◌^◌, ◌<◌, ◌≤◌, Bool, true, ltb, ◌&&◌, List, [], ◌∷◌, ◌++◌, length, Result, Ok, Err, refl, ap, ◌∙◌, arith, inl, inr}
use Rattle.std.specs.List.{list_all}
use Rattle.std.proofs.lemmas.Bool.{cases_lt, ltb-true, and_parts}
use Rattle.wasm_tree.specs.declared.fault.WFault.{WFault}
use Rattle.wasm_tree.specs.declared.kinds.FuncType.{FuncType}
use Rattle.wasm_tree.specs.declared.kinds.TableType.{TableType}
use Rattle.wasm_tree.specs.declared.kinds.MemoryType.{MemoryType}
use Rattle.wasm_tree.specs.declared.module.Import.{Import}
use Rattle.wasm_tree.specs.declared.module.Global.{Global}
use Rattle.wasm_tree.specs.declared.module.Export.{Export}
use Rattle.wasm_tree.specs.declared.module.Element.{Element}
use Rattle.wasm_tree.specs.declared.module.Body.{Body}
use Rattle.wasm_tree.specs.declared.module.Data.{Data}
use Rattle.wasm_tree.specs.declared.module.WModule.{WModule}
use Rattle.wasm_tree.specs.Format.{Reading, ◌>>=◌, skip}
use Rattle.wasm_code.specs.Number.{unsigned}
use Rattle.wasm_code.specs.Parts.{section}
use Rattle.wasm_binary.specs.Binary.{header, skip_all, func_type, table_type, memory_type, import, global, export, element_segment, data_segment, code_section, at_end, module_at}
use Rattle.wasm_code.proofs.Laws.{IsBytes}
use Rattle.wasm_code.proofs.LawsNumber.{unsigned_law}
use Rattle.wasm_code.proofs.LawsParts.{Past}
use Rattle.wasm_binary.proofs.LawsKinds.{func_type_law, table_type_law, memory_type_law}
use Rattle.wasm_binary.proofs.LawsBinary.{import_law, global_law, export_law, element_law, data_segment_law}
use Rattle.law_format.specs.Places.{others, plain, func_type_cells, import_cells, global_cells, element_cells, data_cells}
use Rattle.law_format.specs.Layouts.{Part, Mark, byte_marks, flat, section_marks, entry_marks, bodies_marks, part_fits, section_fits, body_fits}
use Rattle.law_format.proofs.Combined.{failed, err_is, ok_no_err}
use Rattle.law_format.proofs.Widths.{unsigned_stops}
use Rattle.law_format.proofs.Entries.{entries_stops, func_type_stops, table_type_stops, memory_type_stops, import_stops, export_stops}
use Rattle.law_format.proofs.LocalGroups.{global_stops, element_stops, data_stops}
use Rattle.law_format.proofs.Breaks.{Break}
use Rattle.law_format.proofs.Chains.{Ends, Chain, end_marks, always, end_chain, skip_chain, Good, real_section, free_section, section_chain, section_is_past}
use Rattle.law_format.proofs.Spellings.{entries_whole, unsigned_spelling, func_type_spelling, import_spelling, table_type_spelling, memory_type_spelling, global_spelling, export_spelling, element_spelling, data_spelling}
use Rattle.law_format.proofs.CodeSection.{code_free, code_chain, code_is_past}

-- ---- data

abbrev pub Y11 : Type 0
Y11 = Part (List Data) × Unit {0}

pub real11 : List ℕ → Ends
real11 = real_section 11 data_segment (λ xs. at_end)

free11 : List ℕ → Ends
free11 = free_section 11 data_segment (λ xs. at_end)

unfoldable pub m11 : Y11 → List Mark
m11 y = section_marks 11 (entry_marks data_cells) y.0 ++ end_marks y.1

unfoldable pub ok11 : Y11 → Type 0
ok11 y = section_fits data_segment y.0 × always y.1

chain11 : Chain real11 free11 m11 ok11
unfolding real11 free11 m11 ok11
chain11 = section_chain 11 data_segment data_cells (entries_stops data_segment data_cells data_stops)
    (entries_whole data_segment data_cells data_spelling data_segment_law) (λ xs. at_end) (λ xs. at_end) end_marks
    (λ xs. always) (λ xs g. end_chain) (λ xs. tt) (λ xs g. tt) (λ u h. tt)

past11 : (y : Y11) → ok11 y → Past 9 (flat (m11 y))
unfolding m11 ok11
past11 = section_is_past 11 data_segment data_cells (entries_stops data_segment data_cells data_stops)
    (entries_whole data_segment data_cells data_spelling data_segment_law) (λ xs. at_end) (λ xs. at_end) end_marks
    (λ xs. always) (λ xs g. end_chain) (λ xs. tt) (λ xs g. tt) (λ u h. tt) 9 (omega arith)

-- ---- code

abbrev pub Y10 : Type 0
Y10 = Part (List (Part Body)) × Y11

pub real10 : List ℕ → List ℕ → Ends
real10 types bytes = code_section types bytes >>= λ x. real11 x.1

free10 : List ℕ → List ℕ → Ends
free10 types = code_free real11 free11 m11 ok11 chain11 types

unfoldable pub m10 : Y10 → List Mark
m10 y = section_marks 10 bodies_marks y.0 ++ m11 y.1

unfoldable pub ok10 : List ℕ → Y10 → Type 0
ok10 types y = (part_fits (list_all body_fits) y.0.size y.0.content ≡ true) × (length y.0.content ≡ length types)
    × ok11 y.1

chain10 : (types : List ℕ) → length types < 2 ^ 32 → Chain (real10 types) (free10 types) m10 (ok10 types)
unfolding real10 free10 m10 ok10
chain10 types few = code_chain real11 free11 m11 ok11 chain11 types few

past10 : (types : List ℕ) (y : Y10) → ok10 types y → Past 9 (flat (m10 y))
unfolding m10 ok10
past10 types y h = code_is_past real11 free11 m11 ok11 chain11 types past11 y h

-- ---- elements

abbrev pub Y9 : Type 0
Y9 = Part (List Element) × Y10

pub real9 : List ℕ → List ℕ → Ends
real9 types = real_section 9 element_segment (λ xs. real10 types)

free9 : List ℕ → List ℕ → Ends
free9 types = free_section 9 element_segment (λ xs. free10 types)

unfoldable pub m9 : Y9 → List Mark
m9 y = section_marks 9 (entry_marks element_cells) y.0 ++ m10 y.1

unfoldable pub ok9 : List ℕ → Y9 → Type 0
ok9 types y = section_fits element_segment y.0 × ok10 types y.1

chain9 : (types : List ℕ) → length types < 2 ^ 32 → Chain (real9 types) (free9 types) m9 (ok9 types)
unfolding real9 free9 m9 ok9
chain9 types few = section_chain 9 element_segment element_cells
    (entries_stops element_segment element_cells element_stops)
    (entries_whole element_segment element_cells element_spelling element_law) (λ xs. real10 types) (λ xs. free10 types)
    m10 (λ xs. ok10 types) (λ xs g. chain10 types few) (λ xs. (chain10 types few).some)
    (λ xs g. (chain10 types few).some_fits) (λ y h. past10 types y h)

past9 : (types : List ℕ) → length types < 2 ^ 32 → (y : Y9) → ok9 types y → Past 7 (flat (m9 y))
unfolding m9 ok9
past9 types few = section_is_past 9 element_segment element_cells
    (entries_stops element_segment element_cells element_stops)
    (entries_whole element_segment element_cells element_spelling element_law) (λ xs. real10 types) (λ xs. free10 types)
    m10 (λ xs. ok10 types) (λ xs g. chain10 types few) (λ xs. (chain10 types few).some)
    (λ xs g. (chain10 types few).some_fits) (λ y h. past10 types y h) 7 (omega arith)

-- ---- exports

abbrev pub Y7 : Type 0
Y7 = Part (List Export) × Y9

pub real7 : List ℕ → List ℕ → Ends
real7 types = real_section 7 export (λ xs. real9 types)

free7 : List ℕ → List ℕ → Ends
free7 types = free_section 7 export (λ xs. free9 types)

unfoldable pub m7 : Y7 → List Mark
m7 y = section_marks 7 (entry_marks (plain export)) y.0 ++ m9 y.1

unfoldable pub ok7 : List ℕ → Y7 → Type 0
ok7 types y = section_fits export y.0 × ok9 types y.1

chain7 : (types : List ℕ) → length types < 2 ^ 32 → Chain (real7 types) (free7 types) m7 (ok7 types)
unfolding real7 free7 m7 ok7
chain7 types few = section_chain 7 export (plain export) (entries_stops export (plain export) export_stops)
    (entries_whole export (plain export) export_spelling export_law) (λ xs. real9 types) (λ xs. free9 types) m9
    (λ xs. ok9 types) (λ xs g. chain9 types few) (λ xs. (chain9 types few).some) (λ xs g. (chain9 types few).some_fits)
    (λ y h. past9 types few y h)

past7 : (types : List ℕ) → length types < 2 ^ 32 → (y : Y7) → ok7 types y → Past 6 (flat (m7 y))
unfolding m7 ok7
past7 types few = section_is_past 7 export (plain export) (entries_stops export (plain export) export_stops)
    (entries_whole export (plain export) export_spelling export_law) (λ xs. real9 types) (λ xs. free9 types) m9
    (λ xs. ok9 types) (λ xs g. chain9 types few) (λ xs. (chain9 types few).some) (λ xs g. (chain9 types few).some_fits)
    (λ y h. past9 types few y h) 6 (omega arith)

-- ---- globals

abbrev pub Y6 : Type 0
Y6 = Part (List Global) × Y7

pub real6 : List ℕ → List ℕ → Ends
real6 types = real_section 6 global (λ xs. real7 types)

free6 : List ℕ → List ℕ → Ends
free6 types = free_section 6 global (λ xs. free7 types)

unfoldable pub m6 : Y6 → List Mark
m6 y = section_marks 6 (entry_marks global_cells) y.0 ++ m7 y.1

unfoldable pub ok6 : List ℕ → Y6 → Type 0
ok6 types y = section_fits global y.0 × ok7 types y.1

chain6 : (types : List ℕ) → length types < 2 ^ 32 → Chain (real6 types) (free6 types) m6 (ok6 types)
unfolding real6 free6 m6 ok6
chain6 types few = section_chain 6 global global_cells (entries_stops global global_cells global_stops)
    (entries_whole global global_cells global_spelling global_law) (λ xs. real7 types) (λ xs. free7 types) m7
    (λ xs. ok7 types) (λ xs g. chain7 types few) (λ xs. (chain7 types few).some) (λ xs g. (chain7 types few).some_fits)
    (λ y h. past7 types few y h)

past6 : (types : List ℕ) → length types < 2 ^ 32 → (y : Y6) → ok6 types y → Past 5 (flat (m6 y))
unfolding m6 ok6
past6 types few = section_is_past 6 global global_cells (entries_stops global global_cells global_stops)
    (entries_whole global global_cells global_spelling global_law) (λ xs. real7 types) (λ xs. free7 types) m7
    (λ xs. ok7 types) (λ xs g. chain7 types few) (λ xs. (chain7 types few).some) (λ xs g. (chain7 types few).some_fits)
    (λ y h. past7 types few y h) 5 (omega arith)

-- ---- memories

abbrev pub Y5 : Type 0
Y5 = Part (List MemoryType) × Y6

pub real5 : List ℕ → List ℕ → Ends
real5 types = real_section 5 memory_type (λ xs. real6 types)

free5 : List ℕ → List ℕ → Ends
free5 types = free_section 5 memory_type (λ xs. free6 types)

unfoldable pub m5 : Y5 → List Mark
m5 y = section_marks 5 (entry_marks (plain memory_type)) y.0 ++ m6 y.1

unfoldable pub ok5 : List ℕ → Y5 → Type 0
ok5 types y = section_fits memory_type y.0 × ok6 types y.1

chain5 : (types : List ℕ) → length types < 2 ^ 32 → Chain (real5 types) (free5 types) m5 (ok5 types)
unfolding real5 free5 m5 ok5
chain5 types few = section_chain 5 memory_type (plain memory_type)
    (entries_stops memory_type (plain memory_type) memory_type_stops)
    (entries_whole memory_type (plain memory_type) memory_type_spelling memory_type_law) (λ xs. real6 types)
    (λ xs. free6 types) m6 (λ xs. ok6 types) (λ xs g. chain6 types few) (λ xs. (chain6 types few).some)
    (λ xs g. (chain6 types few).some_fits) (λ y h. past6 types few y h)

past5 : (types : List ℕ) → length types < 2 ^ 32 → (y : Y5) → ok5 types y → Past 4 (flat (m5 y))
unfolding m5 ok5
past5 types few = section_is_past 5 memory_type (plain memory_type)
    (entries_stops memory_type (plain memory_type) memory_type_stops)
    (entries_whole memory_type (plain memory_type) memory_type_spelling memory_type_law) (λ xs. real6 types)
    (λ xs. free6 types) m6 (λ xs. ok6 types) (λ xs g. chain6 types few) (λ xs. (chain6 types few).some)
    (λ xs g. (chain6 types few).some_fits) (λ y h. past6 types few y h) 4 (omega arith)

-- ---- tables

abbrev pub Y4 : Type 0
Y4 = Part (List TableType) × Y5

pub real4 : List ℕ → List ℕ → Ends
real4 types = real_section 4 table_type (λ xs. real5 types)

free4 : List ℕ → List ℕ → Ends
free4 types = free_section 4 table_type (λ xs. free5 types)

unfoldable pub m4 : Y4 → List Mark
m4 y = section_marks 4 (entry_marks (plain table_type)) y.0 ++ m5 y.1

unfoldable pub ok4 : List ℕ → Y4 → Type 0
ok4 types y = section_fits table_type y.0 × ok5 types y.1

chain4 : (types : List ℕ) → length types < 2 ^ 32 → Chain (real4 types) (free4 types) m4 (ok4 types)
unfolding real4 free4 m4 ok4
chain4 types few = section_chain 4 table_type (plain table_type)
    (entries_stops table_type (plain table_type) table_type_stops)
    (entries_whole table_type (plain table_type) table_type_spelling table_type_law) (λ xs. real5 types)
    (λ xs. free5 types) m5 (λ xs. ok5 types) (λ xs g. chain5 types few) (λ xs. (chain5 types few).some)
    (λ xs g. (chain5 types few).some_fits) (λ y h. past5 types few y h)

past4 : (types : List ℕ) → length types < 2 ^ 32 → (y : Y4) → ok4 types y → Past 3 (flat (m4 y))
unfolding m4 ok4
past4 types few = section_is_past 4 table_type (plain table_type)
    (entries_stops table_type (plain table_type) table_type_stops)
    (entries_whole table_type (plain table_type) table_type_spelling table_type_law) (λ xs. real5 types)
    (λ xs. free5 types) m5 (λ xs. ok5 types) (λ xs g. chain5 types few) (λ xs. (chain5 types few).some)
    (λ xs g. (chain5 types few).some_fits) (λ y h. past5 types few y h) 3 (omega arith)

-- ---- the types of functions

-- a number of entries that fit is below 2 ^ 32
few_uses : (xs : List ℕ) → Good unsigned xs → length xs < 2 ^ 32
few_uses [] g = omega arith
few_uses (x ∷ xs) g =
    let all' : Bool = ltb (length (x ∷ xs)) (2 ^ 32) && list_all unsigned.fits (x ∷ xs) in
    let f = and_parts (unsigned.fits 0) (ltb 0 (length (x ∷ xs)) && all') g in
    let h = and_parts (ltb 0 (length (x ∷ xs))) all' f.1 in
    ltb-true (length (x ∷ xs)) (2 ^ 32) (and_parts (ltb (length (x ∷ xs)) (2 ^ 32)) (list_all unsigned.fits (x ∷ xs))
    h.1).0

abbrev Few : List ℕ → Type 0
Few xs = (length xs < 2 ^ 32) ⊎ (2 ^ 32 ≤ length xs)

none_few : length {A = ℕ} [] < 2 ^ 32
none_few = omega arith

some_if : (xs : List ℕ) → Few xs → Y4
some_if xs (inl few) = (chain4 xs few).some
some_if xs (inr many') = (chain4 [] none_few).some

fits_if : (xs : List ℕ) (d : Few xs) → length xs < 2 ^ 32 → ok4 xs (some_if xs d)
unfolding some_if
fits_if xs (inl few) lt = (chain4 xs few).some_fits
fits_if xs (inr many') lt = absurd (omega arith)

some_uses : List ℕ → Y4
some_uses xs = some_if xs (cases_lt (length xs) (2 ^ 32))

uses_fit : (xs : List ℕ) → Good unsigned xs → ok4 xs (some_uses xs)
unfolding some_uses
uses_fit xs g = fits_if xs (cases_lt (length xs) (2 ^ 32)) (few_uses xs g)

past_uses : (y : Y4) → ok4 [] y → Past 3 (flat (m4 y))
past_uses y h = past4 [] none_few y h

abbrev pub Y3 : Type 0
Y3 = Part (List ℕ) × Y4

pub real3 : List ℕ → Ends
real3 = real_section 3 unsigned real4

free3 : List ℕ → Ends
free3 = free_section 3 unsigned free4

unfoldable pub m3 : Y3 → List Mark
m3 y = section_marks 3 (entry_marks (plain unsigned)) y.0 ++ m4 y.1

unfoldable pub ok3 : Y3 → Type 0
ok3 y = section_fits unsigned y.0 × ok4 y.0.content y.1

chain3 : Chain real3 free3 m3 ok3
unfolding real3 free3 m3 ok3
chain3 = section_chain 3 unsigned (plain unsigned) (entries_stops unsigned (plain unsigned) unsigned_stops)
    (entries_whole unsigned (plain unsigned) unsigned_spelling unsigned_law) real4 free4 m4 ok4
    (λ xs g. chain4 xs (few_uses xs g)) some_uses uses_fit past_uses

past3 : (y : Y3) → ok3 y → Past 2 (flat (m3 y))
unfolding m3 ok3
past3 = section_is_past 3 unsigned (plain unsigned) (entries_stops unsigned (plain unsigned) unsigned_stops)
    (entries_whole unsigned (plain unsigned) unsigned_spelling unsigned_law) real4 free4 m4 ok4
    (λ xs g. chain4 xs (few_uses xs g)) some_uses uses_fit past_uses 2 (omega arith)

-- ---- imports

abbrev pub Y2 : Type 0
Y2 = Part (List Import) × Y3

pub real2 : List ℕ → Ends
real2 = real_section 2 import (λ xs. real3)

free2 : List ℕ → Ends
free2 = free_section 2 import (λ xs. free3)

unfoldable pub m2 : Y2 → List Mark
m2 y = section_marks 2 (entry_marks import_cells) y.0 ++ m3 y.1

unfoldable pub ok2 : Y2 → Type 0
ok2 y = section_fits import y.0 × ok3 y.1

chain2 : Chain real2 free2 m2 ok2
unfolding real2 free2 m2 ok2
chain2 = section_chain 2 import import_cells (entries_stops import import_cells import_stops)
    (entries_whole import import_cells import_spelling import_law) (λ xs. real3) (λ xs. free3) m3 (λ xs. ok3)
    (λ xs g. chain3) (λ xs. chain3.some) (λ xs g. chain3.some_fits) (λ y h. past3 y h)

past2 : (y : Y2) → ok2 y → Past 1 (flat (m2 y))
unfolding m2 ok2
past2 = section_is_past 2 import import_cells (entries_stops import import_cells import_stops)
    (entries_whole import import_cells import_spelling import_law) (λ xs. real3) (λ xs. free3) m3 (λ xs. ok3)
    (λ xs g. chain3) (λ xs. chain3.some) (λ xs g. chain3.some_fits) (λ y h. past3 y h) 1 (omega arith)

-- ---- types

abbrev pub Y1 : Type 0
Y1 = Part (List FuncType) × Y2

pub real1 : List ℕ → Ends
real1 = real_section 1 func_type (λ xs. real2)

pub free1 : List ℕ → Ends
free1 = free_section 1 func_type (λ xs. free2)

unfoldable pub m1 : Y1 → List Mark
m1 y = section_marks 1 (entry_marks func_type_cells) y.0 ++ m2 y.1

unfoldable pub ok1 : Y1 → Type 0
ok1 y = section_fits func_type y.0 × ok2 y.1

chain1 : Chain real1 free1 m1 ok1
unfolding real1 free1 m1 ok1
chain1 = section_chain 1 func_type func_type_cells (entries_stops func_type func_type_cells func_type_stops)
    (entries_whole func_type func_type_cells func_type_spelling func_type_law) (λ xs. real2) (λ xs. free2) m2
    (λ xs. ok2) (λ xs g. chain2) (λ xs. chain2.some) (λ xs g. chain2.some_fits) (λ y h. past2 y h)

past1 : (y : Y1) → ok1 y → Past 0 (flat (m1 y))
unfolding m1 ok1
past1 = section_is_past 1 func_type func_type_cells (entries_stops func_type func_type_cells func_type_stops)
    (entries_whole func_type func_type_cells func_type_spelling func_type_law) (λ xs. real2) (λ xs. free2) m2
    (λ xs. ok2) (λ xs g. chain2) (λ xs. chain2.some) (λ xs g. chain2.some_fits) (λ y h. past2 y h) 0 (omega arith)

-- ---- the whole

header_real : List ℕ → Ends
header_real bytes = skip_all header bytes >>= real1

pub skipping : (hs : List ℕ) (next : List ℕ → Ends) → List ℕ → Ends
skipping [] next bytes = next bytes
skipping (h ∷ hs) next bytes = skip h bytes >>= λ s. skipping hs next s.1

skipping_is : (hs : List ℕ) (next : List ℕ → Ends) (bytes : List ℕ)
    → skipping hs next bytes ≡ (skip_all hs bytes >>= next)
unfolding skipping skip_all
skipping_is [] next bytes = refl
skipping_is (h ∷ hs) next bytes = inner (skip h bytes) (λ rest. skipping_is hs next rest)
  where
    inner : (r : Reading (Unit {0})) → ((rest : List ℕ) → skipping hs next rest ≡ (skip_all hs rest >>= next))
        → (r >>= λ s. skipping hs next s.1) ≡ (r >>= (λ s. skip_all hs s.1) >>= next)
    inner (Ok s) k = k s.1
    inner (Err f) k = refl

skipping_chain : (hs : List ℕ) → Chain (skipping hs real1) (skipping hs free1) (λ y. byte_marks (others hs) ++ m1 y) ok1
unfolding skipping
skipping_chain [] = chain1
skipping_chain (h ∷ hs) = skip_chain h (skipping hs real1) (skipping hs free1) (λ y. byte_marks (others hs) ++ m1 y) ok1
    (skipping_chain hs)

-- a module read by its sections, and what is left of it is its end
bind_fails : {A B : Type 0} (r : Result A WFault) (f : A → Result B WFault) (g : A → Ends) (fault : WFault)
    → (r >>= f) ≡ Err fault → ((x : A) → f x ≡ Err fault → g x ≡ Err fault) → (r >>= g) ≡ Err fault
bind_fails (Ok x) f g fault e k = k x e
bind_fails {A} {B} (Err d) f g fault e k = ap (λ (h : WFault). failed {A = Unit {0}} h) (err_is {A = B} d fault e)

end_fails : (r : Ends) (m : WModule × List ℕ) (fault : WFault) → (r >>= λ end. Ok m) ≡ Err fault → r ≡ Err fault
end_fails (Ok u) m fault e = absurd (ok_no_err m fault e)
end_fails (Err d) m fault e = ap (λ (h : WFault). failed {A = Unit {0}} h) (err_is {A = WModule × List ℕ} d fault e)

module_fails : (bytes : List ℕ) (fault : WFault) → module_at bytes ≡ Err fault → header_real bytes ≡ Err fault
unfolding module_at header_real real1 real2 real3 real4 real5 real6 real7 real9 real10 real11
module_fails bytes fault e =
    bind_fails (skip_all header bytes) _ _ fault e (λ start e0.
    bind_fails ((section 1 func_type).reading start) _ _ fault e0 (λ types e1.
    bind_fails ((section 2 import).reading types.1) _ _ fault e1 (λ imports e2.
    bind_fails ((section 3 unsigned).reading imports.1) _ _ fault e2 (λ uses e3.
    bind_fails ((section 4 table_type).reading uses.1) _ _ fault e3 (λ tables e4.
    bind_fails ((section 5 memory_type).reading tables.1) _ _ fault e4 (λ memories e5.
    bind_fails ((section 6 global).reading memories.1) _ _ fault e5 (λ globals e6.
    bind_fails ((section 7 export).reading globals.1) _ _ fault e6 (λ exports e7.
    bind_fails ((section 9 element_segment).reading exports.1) _ _ fault e7 (λ elements e9.
    bind_fails (code_section uses.0 elements.1) _ _ fault e9 (λ functions e10.
    bind_fails ((section 11 data_segment).reading functions.1) _ _ fault e10 (λ segments e11.
    end_fails (at_end segments.1) _ fault e11)))))))))))

pub module_chain : Chain (skipping header real1) (skipping header free1) (λ y. byte_marks (others header) ++ m1 y) ok1
module_chain = skipping_chain header

pub module_break : (bytes : List ℕ) (fault : WFault) → IsBytes bytes → module_at bytes ≡ Err fault
    → Break (λ y. byte_marks (others header) ++ m1 y) ok1 (skipping header free1) bytes fault
unfolding header_real
module_break bytes fault fits e = module_chain.breaks bytes fault fits
    (skipping_is header real1 bytes ∙ module_fails bytes fault e)
