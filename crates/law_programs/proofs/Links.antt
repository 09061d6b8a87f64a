-- The module link of a program, where it has an encoding.
use Rattle.std.proofs.Common.{◌≡◌, ℕ, ◌+◌, ◌<◌, ◌≤◌, Bool, true, false, ◌&&◌, List, [], ◌∷◌, None, Some, map, refl, arith}
use Rattle.std.specs.Prelude.{◌^◌, nat_lt, length}
use Rattle.std.specs.List.{list_all}
use Rattle.std.proofs.lemmas.Bool.{ltb-true}
use Rattle.wasm_tree.specs.declared.kinds.TableType.{TableType}
use Rattle.wasm_tree.specs.declared.module.WModule.{WModule}
use Rattle.wasm_tree.specs.Validity.{IsValid, AreDistinct}
use Rattle.wasm_code.specs.Parts.{section_fits, vector, entries}
use Rattle.wasm_code.specs.Number.{unsigned}
use Rattle.wasm_binary.specs.Binary.{func_type, import, limits, table_type, memory_type, global, export, element_segment, body, data_segment, types_of, bodies_encoding, module_fits}
use Rattle.typed_tree.specs.declared.typed_module.TypedModule.{TypedModule}
use Rattle.def_scheme.specs.Modules.{typed_link, part_of, all_slots}
use Rattle.law_modules.proofs.LinkModule.{typed_link_valid}

left : (a b : Bool) → (a && b) ≡ true → a ≡ true
left true b h = refl
left false b h = absurd cc

right : (a b : Bool) → (a && b) ≡ true → b ≡ true
right true b h = h
right false b h = absurd cc

fourth : (a b c d e f g h i j k : Bool) → (a && b && c && d && e && f && g && h && i && j && k) ≡ true → d ≡ true
fourth a b c d e f g h i j k z =
    right (a && b && c) d (left (a && b && c && d) e
    (left (a && b && c && d && e) f (left (a && b && c && d && e && f) g
    (left (a && b && c && d && e && f && g) h
    (left (a && b && c && d && e && f && g && h) i
    (left (a && b && c && d && e && f && g && h && i) j
    (left (a && b && c && d && e && f && g && h && i && j) k z)))))))

tables_fit : (m : WModule) → module_fits m ≡ true → section_fits table_type m.tables ≡ true
unfolding module_fits
tables_fit m h =
    fourth (section_fits func_type m.types) (section_fits import m.imports)
    (section_fits unsigned (types_of m.functions)) (section_fits table_type m.tables)
    (section_fits memory_type m.memories) (section_fits global m.globals)
    (section_fits export m.exports) (section_fits element_segment m.elements)
    (list_all (λ f. body.fits f.body) m.functions) (nat_lt (length (bodies_encoding m.functions)) (2 ^ 32))
    (section_fits data_segment m.data) h

table_few : (t : TableType) → section_fits table_type (t ∷ []) ≡ true → t.limits.min < 2 ^ 32
unfolding table_type limits
table_few t h =
    let each : (entries table_type).fits (t ∷ []) ≡ true =
    left ((entries table_type).fits (t ∷ [])) (nat_lt (length ((entries table_type).encoding (t ∷ []))) (2 ^ 32)) h
    in
    let all : (vector table_type).fits (t ∷ []) ≡ true = right (nat_lt 0 1) ((vector table_type).fits (t ∷ [])) each in
    let them : list_all table_type.fits (t ∷ []) ≡ true =
    right (nat_lt 1 (2 ^ 32)) (list_all table_type.fits (t ∷ [])) all in
    let it : table_type.fits t ≡ true = left (table_type.fits t) true them in
    ltb-true t.limits.min (2 ^ 32) (left (nat_lt t.limits.min (2 ^ 32))
    (elim t.limits.max [ None ↦ true | Some m ↦ nat_lt m (2 ^ 32) ]) it)

-- the slots of a link that has an encoding are numbers of 32 bits
pub slots_few : (ms : List TypedModule) (pages : ℕ) → module_fits (typed_link ms pages) ≡ true
    → 1 + all_slots (map part_of ms) < 2 ^ 32
slots_few ms pages fits = table_few (record
    { limits = record { min = 1 + all_slots (map part_of ms); max = Some (1 + all_slots (map part_of ms)) } })
    (tables_fit (typed_link ms pages) fits)

pub link_valid : (ms : List TypedModule) (pages : ℕ) → pages ≤ 65536 → module_fits (typed_link ms pages) ≡ true
    → AreDistinct (map (λ m. m.name) ms) → IsValid (typed_link ms pages)
link_valid ms pages most fits distinct =
    let few = slots_few ms pages fits in
    typed_link_valid ms pages most (omega (arith, few)) distinct
