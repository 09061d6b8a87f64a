-- Two entries of a section: where their encodings differ first, a byte differs, and in the same place.
use Rattle.std.proofs.Common.{◌≡◌, ◌+◌, ◌^◌, ◌<◌, true, ltb, List, [], ◌∷◌, ◌++◌, length, refl, arith, inl, inr}
use Rattle.std.specs.List.{list_all}
use Rattle.std.proofs.lemmas.Bool.{ltb-true, lt-ltb, and_parts, and_from}
use Rattle.std.proofs.lemmas.List.Sums.{sum_by-cons}
use Rattle.wasm_tree.specs.declared.module.ImportKind.TheVariants as imported
use Rattle.wasm_tree.specs.declared.module.Locals.{Locals}
use Rattle.wasm_tree.specs.Format.{Format}
use Rattle.wasm_code.specs.Number.{unsigned}
use Rattle.wasm_code.specs.Parts.{◌◂◌, ◌·◌, as_value, vector, with_size, bytes_left, name}
use Rattle.wasm_code.specs.Instructions.{value_type, code}
use Rattle.wasm_binary.specs.Binary.{func_type, import_kind, import, global, element_segment, local_count, locals, data_segment}
use Rattle.wasm_code.proofs.LawsNumber.{unsigned_law}
use Rattle.wasm_code.proofs.LawsParts.{vector_law, sized_law, bytes_left_law, name_law}
use Rattle.wasm_code.proofs.LawsTagged.{value_type_law, value_type_fits}
use Rattle.wasm_binary.proofs.LawsBinary.{import_kind_law}
use Rattle.law_format.specs.Places.{TypeOfValue, OtherByte, plain, value_type_cells, vector_cells, func_type_cells, import_kind_cells, import_cells, global_cells, element_cells, data_cells, group_cells, locals_cells, code_cells}
use Rattle.law_format.specs.Layouts.{body_cells, body_content}
use Rattle.law_format.proofs.Meeting.{meet_same, meet_then, Meets, place_meets, plain_meets, then_meets, seen_meets, counted_meet, vector_meets}
use Rattle.law_format.proofs.MeetingCode.{code_meets}

value_type_meets : Meets value_type value_type_cells
value_type_meets = place_meets TypeOfValue value_type value_type_law

pub func_type_meets : Meets func_type func_type_cells
unfolding func_type
func_type_meets x y h g =
    let types : Meets (vector value_type) (vector_cells value_type_cells) =
    vector_meets value_type value_type_cells value_type_meets in
    inr (
      refl,
      then_meets (vector value_type) (vector value_type) (vector_cells value_type_cells)
          (vector_cells value_type_cells) types types (x.params, x.results) (y.params, y.results) h g,
    )

import_kind_meets : Meets import_kind import_kind_cells
unfolding import_kind
import_kind_meets (imported.Function t) (imported.Function u) h g =
    plain_meets import_kind import_kind_law (imported.Function t) (imported.Function u) h g
import_kind_meets (imported.Function t) (imported.Table u) h g = inl (refl, λ e. absurd cc)
import_kind_meets (imported.Function t) (imported.Memory u) h g = inl (refl, λ e. absurd cc)
import_kind_meets (imported.Function t) (imported.Global u) h g = inl (refl, λ e. absurd cc)
import_kind_meets (imported.Table t) (imported.Function u) h g = inl (refl, λ e. absurd cc)
import_kind_meets (imported.Table t) (imported.Table u) h g =
    plain_meets import_kind import_kind_law (imported.Table t) (imported.Table u) h g
import_kind_meets (imported.Table t) (imported.Memory u) h g = inl (refl, λ e. absurd cc)
import_kind_meets (imported.Table t) (imported.Global u) h g = inl (refl, λ e. absurd cc)
import_kind_meets (imported.Memory t) (imported.Function u) h g = inl (refl, λ e. absurd cc)
import_kind_meets (imported.Memory t) (imported.Table u) h g = inl (refl, λ e. absurd cc)
import_kind_meets (imported.Memory t) (imported.Memory u) h g =
    plain_meets import_kind import_kind_law (imported.Memory t) (imported.Memory u) h g
import_kind_meets (imported.Memory t) (imported.Global u) h g = inl (refl, λ e. absurd cc)
import_kind_meets (imported.Global t) (imported.Function u) h g = inl (refl, λ e. absurd cc)
import_kind_meets (imported.Global t) (imported.Table u) h g = inl (refl, λ e. absurd cc)
import_kind_meets (imported.Global t) (imported.Memory u) h g = inl (refl, λ e. absurd cc)
import_kind_meets (imported.Global t) (imported.Global u) h g =
    inr (
      refl,
      meet_then (value_type_cells t) (value_type_cells u) ((OtherByte, 0x00) ∷ []) ((OtherByte, 0x00) ∷ [])
          (value_type_meets t u (value_type_fits t) (value_type_fits u)) (meet_same ((OtherByte, 0x00) ∷ [])),
    )

name_meets : Meets name (plain name)
name_meets = plain_meets name name_law

pub import_meets : Meets import import_cells
unfolding import
import_meets =
    seen_meets (λ p. record { module_name = p.0; name = p.1.0; kind = p.1.1 }) (λ i. (i.module_name, (i.name, i.kind)))
    (name · (name · import_kind)) (λ x. plain name x.0 ++ (plain name x.1.0 ++ import_kind_cells x.1.1))
    (then_meets name (name · import_kind) (plain name) (λ x. plain name x.0 ++ import_kind_cells x.1) name_meets
    (then_meets name import_kind (plain name) import_kind_cells name_meets import_kind_meets))

immutable_meets : Meets (value_type ◂ 0x00) (λ t. value_type_cells t ++ (OtherByte, 0x00) ∷ [])
immutable_meets t u h g = meet_then (value_type_cells t) (value_type_cells u) ((OtherByte, 0x00) ∷ [])
    ((OtherByte, 0x00) ∷ []) (value_type_meets t u h g) (meet_same ((OtherByte, 0x00) ∷ []))

pub global_meets : Meets global global_cells
unfolding global
global_meets =
    seen_meets (λ p. record { value_type = p.0; value = p.1 }) (λ g. (g.value_type, g.value))
    ((value_type ◂ 0x00) · code) (λ x. (value_type_cells x.0 ++ (OtherByte, 0x00) ∷ []) ++ code_cells x.1)
    (then_meets (value_type ◂ 0x00) code (λ t. value_type_cells t ++ (OtherByte, 0x00) ∷ []) code_cells immutable_meets
    code_meets)

pub element_meets : Meets element_segment element_cells
unfolding element_segment
element_meets =
    seen_meets (λ p. record { table = p.0; offset = p.1.0; functions = p.1.1 })
    (λ e. (e.table, (e.offset, e.functions))) (unsigned · (code · vector unsigned))
    (λ x. plain unsigned x.0 ++ (code_cells x.1.0 ++ plain (vector unsigned) x.1.1))
    (then_meets unsigned (code · vector unsigned) (plain unsigned) (λ x. code_cells x.0 ++ plain (vector unsigned) x.1)
    (plain_meets unsigned unsigned_law)
    (then_meets code (vector unsigned) code_cells (plain (vector unsigned)) code_meets
    (plain_meets (vector unsigned) (vector_law unsigned unsigned_law))))

pub data_meets : Meets data_segment data_cells
unfolding data_segment
data_meets =
    seen_meets (λ p. record { memory = p.0; offset = p.1.0; bytes = p.1.1 }) (λ d. (d.memory, (d.offset, d.bytes)))
    (unsigned · (code · with_size bytes_left))
    (λ x. plain unsigned x.0 ++ (code_cells x.1.0 ++ plain (with_size bytes_left) x.1.1))
    (then_meets unsigned (code · with_size bytes_left) (plain unsigned)
    (λ x. code_cells x.0 ++ plain (with_size bytes_left) x.1) (plain_meets unsigned unsigned_law)
    (then_meets code (with_size bytes_left) code_cells (plain (with_size bytes_left)) code_meets
    (plain_meets (with_size bytes_left) (sized_law bytes_left bytes_left_law))))

-- ---- bodies

abbrev group : Format Locals
group = as_value (λ p. record { count = p.0; value_type = p.1 }) (λ l. (l.count, l.value_type)) (unsigned · value_type)

group_meets : Meets group group_cells
group_meets =
    seen_meets (λ p. record { count = p.0; value_type = p.1 }) (λ l. (l.count, l.value_type)) (unsigned · value_type)
    (λ x. plain unsigned x.0 ++ value_type_cells x.1)
    (then_meets unsigned value_type (plain unsigned) value_type_cells (plain_meets unsigned unsigned_law)
    value_type_meets)

-- each count is below the total
groups_fit : (ls : List Locals) → local_count ls < 2 ^ 32 → list_all group.fits ls ≡ true
groups_fit [] lt = refl
groups_fit (l ∷ ls) lt =
    let sum : local_count (l ∷ ls) ≡ l.count + local_count ls = sum_by-cons (λ (m : Locals). m.count) l ls in
    let one : l.count < 2 ^ 32 = omega (arith, sum) in
    and_from _ _ (and_from _ _ (lt-ltb l.count (2 ^ 32) one) (value_type_fits l.value_type))
    (groups_fit ls (omega (arith, sum)))

locals_meet : Meets locals locals_cells
unfolding locals
locals_meet ls ms h g =
    let f = and_parts (ltb (length ls) (2 ^ 32)) (ltb (local_count ls) (2 ^ 32)) h in
    let k = and_parts (ltb (length ms) (2 ^ 32)) (ltb (local_count ms) (2 ^ 32)) g in
    counted_meet group group_cells group_meets ls ms f.0 k.0 (groups_fit ls (ltb-true (local_count ls) (2 ^ 32) f.1))
    (groups_fit ms (ltb-true (local_count ms) (2 ^ 32) k.1))

pub body_meets : Meets body_content body_cells
body_meets =
    seen_meets (λ p. record { locals = p.0; code = p.1 }) (λ b. (b.locals, b.code)) (locals · code)
    (λ x. locals_cells x.0 ++ code_cells x.1)
    (then_meets locals code locals_cells code_cells locals_meet code_meets)
