-- What fits is read again from its cells, and these are bytes.
use Rattle.std.proofs.Common.{◌≡◌, ℕ, ◌<◌, true, ltb, List, [], ◌∷◌, ◌++◌, length, Option, Some, None, refl, sym, ap, subst, ◌∙◌, arith}
use Rattle.std.specs.List.{flat_map, list_all}
use Rattle.std.specs.Str.{is_utf8}
use Rattle.std.proofs.lemmas.Bool.{ltb-true, and_parts}
use Rattle.wasm_tree.specs.declared.kinds.Limits.{Limits}
use Rattle.wasm_tree.specs.declared.kinds.TableType.{TableType}
use Rattle.wasm_tree.specs.declared.kinds.MemoryType.{MemoryType}
use Rattle.wasm_tree.specs.declared.module.ImportKind.{ImportKind}
use Rattle.wasm_tree.specs.declared.module.ImportKind.TheVariants as imported
use Rattle.wasm_tree.specs.declared.module.ExportKind.{ExportKind}
use Rattle.wasm_tree.specs.declared.module.ExportKind.TheVariants as exported
use Rattle.wasm_tree.specs.declared.module.Export.{Export}
use Rattle.wasm_tree.specs.declared.module.Locals.{Locals}
use Rattle.wasm_tree.specs.Format.{Format}
use Rattle.wasm_code.specs.Number.{unsigned}
use Rattle.wasm_code.specs.Parts.{◌▸◌, ◌◂◌, ◌·◌, as_value, vector, entries, with_size, bytes_left, name}
use Rattle.wasm_code.specs.Instructions.{value_type, code}
use Rattle.wasm_binary.specs.Binary.{func_type, limits, table_type, memory_type, import_kind, import, global, export_kind, export, element_segment, locals_encoding, locals, data_segment}
use Rattle.wasm_code.proofs.Laws.{IsBytes, Law}
use Rattle.wasm_code.proofs.LawsParts.{then_law, seen_law, entries_law}
use Rattle.wasm_code.proofs.LawsCode.{code_law}
use Rattle.wasm_binary.proofs.LawsBinary.{locals_law}
use Rattle.law_format.specs.Places.{TypeOfValue, OtherByte, Cell, bytes_of, others, plain, value_type_cells, vector_cells, func_type_cells, import_kind_cells, import_cells, global_cells, element_cells, data_cells, group_cells, locals_cells, code_cells}
use Rattle.law_format.specs.Layouts.{body_cells, body_content}
use Rattle.law_format.proofs.Stops.{bytes-append, bytes-all}
use Rattle.law_format.proofs.Contents.{Whole}
use Rattle.law_format.proofs.Spelled.{no_bytes, more_bytes, both_bytes, unsigned_bytes, value_type_bytes, each_bytes, numbers_bytes, code_spelled, code_bytes}

-- the cells of a format, and its encodings
pub record Spelling {A : Type 0} (p : Format A) (cells : A → List Cell) : Type 0 where
  pub spelled : (x : A) → bytes_of (cells x) ≡ p.encoding x
  pub are_bytes : (x : A) → p.fits x ≡ true → IsBytes (p.encoding x)

pub whole_of : {A : Type 0} (p : Format A) (cells : A → List Cell) → Law p → Spelling p cells → Whole p cells
whole_of p cells law s x fits follow = ap (λ (t : List ℕ). p.reading (t ++ follow)) (s.spelled x)
    ∙ law.again x follow fits

pub cells_bytes : {A : Type 0} (p : Format A) (cells : A → List Cell) → Spelling p cells → (x : A) → p.fits x ≡ true
    → IsBytes (bytes_of (cells x))
cells_bytes p cells s x fits = subst IsBytes (sym (s.spelled x)) (s.are_bytes x fits)

-- ---- formats that are put together

plain_spelling : {A : Type 0} (p : Format A) → ((x : A) → p.fits x ≡ true → IsBytes (p.encoding x))
    → Spelling p (plain p)
plain_spelling p h = record { spelled = λ x. bytes-all OtherByte (p.encoding x); are_bytes = h }

module _ {A B : Type 0} (p : Format A) (q : Format B) (cp : A → List Cell) (cq : B → List Cell) (sp : Spelling p cp)
    (sq : Spelling q cq) where
  then_spelling : Spelling (p · q) (λ x. cp x.0 ++ cq x.1)
  then_spelling = record {
    spelled = λ x. bytes-append (cp x.0) (cq x.1) ∙ ap (λ (t : List ℕ). t ++ bytes_of (cq x.1)) (sp.spelled x.0)
        ∙ ap (λ (t : List ℕ). p.encoding x.0 ++ t) (sq.spelled x.1);
    are_bytes = λ x h. let f = and_parts (p.fits x.0) (q.fits x.1) h in
        both_bytes (p.encoding x.0) (q.encoding x.1) (sp.are_bytes x.0 f.0) (sq.are_bytes x.1 f.1);
  }

module _ {A : Type 0} (byte : ℕ) (small : byte < 256) (p : Format A) (cp : A → List Cell) (sp : Spelling p cp) where
  before_spelling : Spelling (byte ▸ p) (λ x. (OtherByte, byte) ∷ cp x)
  before_spelling = record {
    spelled = λ x. ap (λ (t : List ℕ). byte ∷ t) (sp.spelled x);
    are_bytes =
        λ x h. more_bytes byte (p.encoding x) small (sp.are_bytes x h);
  }

  behind_spelling : Spelling (p ◂ byte) (λ x. cp x ++ (OtherByte, byte) ∷ [])
  behind_spelling = record {
    spelled = λ x. bytes-append (cp x) ((OtherByte, byte) ∷ []) ∙ ap (λ (t : List ℕ). t ++ byte ∷ []) (sp.spelled x);
    are_bytes = λ x h. both_bytes (p.encoding x) (byte ∷ []) (sp.are_bytes x h) (more_bytes byte [] small no_bytes);
  }

value_spelling : {A B : Type 0} (make : A → B) (part : B → A) (p : Format A) (cp : A → List Cell) → Spelling p cp
    → Spelling (as_value make part p) (λ y. cp (part y))
value_spelling make part p cp s = record {
  spelled = λ y. s.spelled (part y);
  are_bytes =
      λ y h. s.are_bytes (part y) h;
}

module _ {A : Type 0} (p : Format A) (cp : A → List Cell) (sp : Spelling p cp) where
  many_spelled : (xs : List A) → bytes_of (flat_map cp xs) ≡ flat_map p.encoding xs
  many_spelled [] = refl
  many_spelled (x ∷ xs) = bytes-append (cp x) (flat_map cp xs)
      ∙ ap (λ (t : List ℕ). t ++ bytes_of (flat_map cp xs)) (sp.spelled x)
      ∙ ap (λ (t : List ℕ). p.encoding x ++ t) (many_spelled xs)

  vector_spelled : (xs : List A) → bytes_of (vector_cells cp xs) ≡ (vector p).encoding xs
  vector_spelled xs =
      bytes-append (others (unsigned.encoding (length xs))) (flat_map cp xs)
      ∙ ap (λ (t : List ℕ). t ++ bytes_of (flat_map cp xs)) (bytes-all OtherByte (unsigned.encoding (length xs)))
      ∙ ap (λ (t : List ℕ). unsigned.encoding (length xs) ++ t) (many_spelled xs)

  vector_bytes : (xs : List A) → list_all p.fits xs ≡ true → IsBytes ((vector p).encoding xs)
  vector_bytes xs h = both_bytes (unsigned.encoding (length xs)) (flat_map p.encoding xs) (unsigned_bytes (length xs))
      (each_bytes p.encoding p.fits sp.are_bytes xs h)

  vector_spelling : Spelling (vector p) (vector_cells cp)
  vector_spelling = record {
    spelled = vector_spelled;
    are_bytes =
        λ xs h. vector_bytes xs (and_parts _ (list_all p.fits xs) h).1;
  }

  pub entries_spelling : Spelling (entries p) (vector_cells cp)
  entries_spelling = record {
    spelled = vector_spelled;
    are_bytes =
        λ xs h. vector_bytes xs (and_parts _ (list_all p.fits xs) (and_parts _ ((vector p).fits xs) h).1).1;
  }

  pub entries_whole : Law p → Whole (entries p) (vector_cells cp)
  entries_whole law = whole_of (entries p) (vector_cells cp) (entries_law p law) entries_spelling

-- ---- the formats

pub unsigned_spelling : Spelling unsigned (plain unsigned)
unsigned_spelling = plain_spelling unsigned (λ n h. unsigned_bytes n)

value_type_spelling : Spelling value_type value_type_cells
value_type_spelling = record {
  spelled = λ t. bytes-all TypeOfValue (value_type.encoding t);
  are_bytes =
      λ t h. value_type_bytes t;
}

pub func_type_spelling : Spelling func_type func_type_cells
unfolding func_type
func_type_spelling =
    let types = vector_spelling value_type value_type_cells value_type_spelling in
    value_spelling (λ p. record { params = p.0; results = p.1 }) (λ t. (t.params, t.results))
    (0x60 ▸ vector value_type · vector value_type)
    (λ x. (OtherByte, 0x60) ∷ (vector_cells value_type_cells x.0 ++ vector_cells value_type_cells x.1))
    (before_spelling 0x60 (omega arith) (vector value_type · vector value_type)
    (λ x. vector_cells value_type_cells x.0 ++ vector_cells value_type_cells x.1)
    (then_spelling (vector value_type) (vector value_type) (vector_cells value_type_cells)
    (vector_cells value_type_cells) types types))

limits_bytes : (l : Limits) → IsBytes (limits.encoding l)
unfolding limits
limits_bytes l = by_max l.max
  where
    by_max : (m : Option ℕ) → IsBytes (elim m
        [ None ↦ 0x00 ∷ unsigned.encoding l.min | Some n ↦ 0x01 ∷ unsigned.encoding l.min ++ unsigned.encoding n ])
    by_max None = more_bytes 0x00 (unsigned.encoding l.min) (omega arith) (unsigned_bytes l.min)
    by_max (Some n) = more_bytes 0x01 (unsigned.encoding l.min ++ unsigned.encoding n) (omega arith)
        (both_bytes (unsigned.encoding l.min) (unsigned.encoding n) (unsigned_bytes l.min) (unsigned_bytes n))

table_bytes : (t : TableType) → IsBytes (table_type.encoding t)
unfolding table_type
table_bytes t = more_bytes 0x70 (limits.encoding t.limits) (omega arith) (limits_bytes t.limits)

memory_bytes : (t : MemoryType) → IsBytes (memory_type.encoding t)
unfolding memory_type
memory_bytes t = limits_bytes t.limits

pub table_type_spelling : Spelling table_type (plain table_type)
table_type_spelling = plain_spelling table_type (λ t h. table_bytes t)

pub memory_type_spelling : Spelling memory_type (plain memory_type)
memory_type_spelling = plain_spelling memory_type (λ t h. memory_bytes t)

pub fit_bytes : (bytes : List ℕ) → list_all (λ b. ltb b 256) bytes ≡ true → IsBytes bytes
fit_bytes [] h = no_bytes
fit_bytes (b ∷ bytes) h =
    let f = and_parts (ltb b 256) (list_all (λ b. ltb b 256) bytes) h in
    more_bytes b bytes (ltb-true b 256 f.0) (fit_bytes bytes f.1)

text_bytes : (bytes : List ℕ) → (with_size bytes_left).fits bytes ≡ true
    → IsBytes ((with_size bytes_left).encoding bytes)
text_bytes bytes h = both_bytes (unsigned.encoding (length bytes)) bytes (unsigned_bytes (length bytes))
    (fit_bytes bytes (and_parts (list_all (λ b. ltb b 256) bytes) _ h).0)

name_bytes : (bytes : List ℕ) → name.fits bytes ≡ true → IsBytes (name.encoding bytes)
unfolding name
name_bytes bytes h = text_bytes bytes (and_parts ((with_size bytes_left).fits bytes) (is_utf8 bytes) h).0

name_spelling : Spelling name (plain name)
name_spelling = plain_spelling name name_bytes

import_kind_spelled : (k : ImportKind) → bytes_of (import_kind_cells k) ≡ import_kind.encoding k
unfolding import_kind
import_kind_spelled (imported.Function t) = bytes-all OtherByte (0x00 ∷ unsigned.encoding t)
import_kind_spelled (imported.Table t) = bytes-all OtherByte (0x01 ∷ table_type.encoding t)
import_kind_spelled (imported.Memory t) = bytes-all OtherByte (0x02 ∷ memory_type.encoding t)
import_kind_spelled (imported.Global t) =
    ap (λ (r : List ℕ). 0x03 ∷ r) (bytes-append (value_type_cells t) ((OtherByte, 0x00) ∷ [])
    ∙ ap (λ (r : List ℕ). r ++ 0x00 ∷ []) (bytes-all TypeOfValue (value_type.encoding t)))

import_kind_bytes : (k : ImportKind) → IsBytes (import_kind.encoding k)
unfolding import_kind
import_kind_bytes (imported.Function t) = more_bytes 0x00 (unsigned.encoding t) (omega arith) (unsigned_bytes t)
import_kind_bytes (imported.Table t) = more_bytes 0x01 (table_type.encoding t) (omega arith) (table_bytes t)
import_kind_bytes (imported.Memory t) = more_bytes 0x02 (memory_type.encoding t) (omega arith) (memory_bytes t)
import_kind_bytes (imported.Global t) = more_bytes 0x03 (value_type.encoding t ++ 0x00 ∷ []) (omega arith)
    (both_bytes (value_type.encoding t) (0x00 ∷ []) (value_type_bytes t) (more_bytes 0x00 [] (omega arith) no_bytes))

pub import_spelling : Spelling import import_cells
unfolding import
import_spelling =
    let kind : Spelling import_kind import_kind_cells =
    record { spelled = import_kind_spelled; are_bytes = λ k h. import_kind_bytes k } in
    value_spelling (λ p. record { module_name = p.0; name = p.1.0; kind = p.1.1 })
    (λ i. (i.module_name, (i.name, i.kind))) (name · (name · import_kind))
    (λ x. plain name x.0 ++ (plain name x.1.0 ++ import_kind_cells x.1.1))
    (then_spelling name (name · import_kind) (plain name) (λ x. plain name x.0 ++ import_kind_cells x.1) name_spelling
    (then_spelling name import_kind (plain name) import_kind_cells name_spelling kind))

export_kind_bytes : (k : ExportKind) → IsBytes (export_kind.encoding k)
unfolding export_kind
export_kind_bytes (exported.Function t) = more_bytes 0x00 (unsigned.encoding t) (omega arith) (unsigned_bytes t)
export_kind_bytes (exported.Table t) = more_bytes 0x01 (unsigned.encoding t) (omega arith) (unsigned_bytes t)
export_kind_bytes (exported.Memory t) = more_bytes 0x02 (unsigned.encoding t) (omega arith) (unsigned_bytes t)
export_kind_bytes (exported.Global t) = more_bytes 0x03 (unsigned.encoding t) (omega arith) (unsigned_bytes t)

export_bytes : (x : Export) → export.fits x ≡ true → IsBytes (export.encoding x)
unfolding export
export_bytes x h = both_bytes (name.encoding x.name) (export_kind.encoding x.kind)
    (name_bytes x.name (and_parts (name.fits x.name) (export_kind.fits x.kind) h).0) (export_kind_bytes x.kind)

pub export_spelling : Spelling export (plain export)
export_spelling = plain_spelling export export_bytes

code_spelling : Spelling code code_cells
code_spelling = record { spelled = code_spelled; are_bytes = code_bytes }

pub global_spelling : Spelling global global_cells
unfolding global
global_spelling =
    value_spelling (λ p. record { value_type = p.0; value = p.1 }) (λ g. (g.value_type, g.value))
    ((value_type ◂ 0x00) · code) (λ x. (value_type_cells x.0 ++ (OtherByte, 0x00) ∷ []) ++ code_cells x.1)
    (then_spelling (value_type ◂ 0x00) code (λ t. value_type_cells t ++ (OtherByte, 0x00) ∷ []) code_cells
    (behind_spelling 0x00 (omega arith) value_type value_type_cells value_type_spelling) code_spelling)

vector_unsigned : Spelling (vector unsigned) (plain (vector unsigned))
vector_unsigned = plain_spelling (vector unsigned)
    (λ xs h. both_bytes (unsigned.encoding (length xs)) (flat_map unsigned.encoding xs) (unsigned_bytes (length xs))
    (numbers_bytes xs))

pub element_spelling : Spelling element_segment element_cells
unfolding element_segment
element_spelling =
    value_spelling (λ p. record { table = p.0; offset = p.1.0; functions = p.1.1 })
    (λ e. (e.table, (e.offset, e.functions))) (unsigned · (code · vector unsigned))
    (λ x. plain unsigned x.0 ++ (code_cells x.1.0 ++ plain (vector unsigned) x.1.1))
    (then_spelling unsigned (code · vector unsigned) (plain unsigned)
    (λ x. code_cells x.0 ++ plain (vector unsigned) x.1) unsigned_spelling
    (then_spelling code (vector unsigned) code_cells (plain (vector unsigned)) code_spelling vector_unsigned))

pub data_spelling : Spelling data_segment data_cells
unfolding data_segment
data_spelling =
    value_spelling (λ p. record { memory = p.0; offset = p.1.0; bytes = p.1.1 }) (λ d. (d.memory, (d.offset, d.bytes)))
    (unsigned · (code · with_size bytes_left))
    (λ x. plain unsigned x.0 ++ (code_cells x.1.0 ++ plain (with_size bytes_left) x.1.1))
    (then_spelling unsigned (code · with_size bytes_left) (plain unsigned)
    (λ x. code_cells x.0 ++ plain (with_size bytes_left) x.1) unsigned_spelling
    (then_spelling code (with_size bytes_left) code_cells (plain (with_size bytes_left)) code_spelling
    (plain_spelling (with_size bytes_left) text_bytes)))

-- ---- bodies

group_spelled : (l : Locals) → bytes_of (group_cells l) ≡ locals_encoding l
group_spelled l =
    bytes-append (plain unsigned l.count) (value_type_cells l.value_type)
    ∙ ap (λ (t : List ℕ). t ++ bytes_of (value_type_cells l.value_type))
    (bytes-all OtherByte (unsigned.encoding l.count))
    ∙ ap (λ (t : List ℕ). unsigned.encoding l.count ++ t) (bytes-all TypeOfValue (value_type.encoding l.value_type))

groups_spelled : (ls : List Locals) → bytes_of (flat_map group_cells ls) ≡ flat_map locals_encoding ls
groups_spelled [] = refl
groups_spelled (l ∷ ls) = bytes-append (group_cells l) (flat_map group_cells ls)
    ∙ ap (λ (t : List ℕ). t ++ bytes_of (flat_map group_cells ls)) (group_spelled l)
    ∙ ap (λ (t : List ℕ). locals_encoding l ++ t) (groups_spelled ls)

groups_bytes : (ls : List Locals) → IsBytes (flat_map locals_encoding ls)
groups_bytes [] = no_bytes
groups_bytes (l ∷ ls) = both_bytes (locals_encoding l) (flat_map locals_encoding ls)
    (both_bytes (unsigned.encoding l.count) (value_type.encoding l.value_type) (unsigned_bytes l.count)
    (value_type_bytes l.value_type)) (groups_bytes ls)

locals_spelling : Spelling locals locals_cells
unfolding locals
locals_spelling = record {
  spelled = λ ls.
      bytes-append (others (unsigned.encoding (length ls))) (flat_map group_cells ls)
      ∙ ap (λ (t : List ℕ). t ++ bytes_of (flat_map group_cells ls))
      (bytes-all OtherByte (unsigned.encoding (length ls)))
      ∙ ap (λ (t : List ℕ). unsigned.encoding (length ls) ++ t) (groups_spelled ls);
  are_bytes = λ ls h. both_bytes (unsigned.encoding (length ls)) (flat_map locals_encoding ls)
      (unsigned_bytes (length ls)) (groups_bytes ls);
}

pub body_spelling : Spelling body_content body_cells
body_spelling =
    value_spelling (λ p. record { locals = p.0; code = p.1 }) (λ b. (b.locals, b.code)) (locals · code)
    (λ x. locals_cells x.0 ++ code_cells x.1)
    (then_spelling locals code locals_cells code_cells locals_spelling code_spelling)

pub body_whole : Whole body_content body_cells
body_whole = whole_of body_content body_cells
    (seen_law (λ p. record { locals = p.0; code = p.1 }) (λ b. (b.locals, b.code)) (locals · code)
    (then_law locals code locals_law code_law) (λ y. refl) (λ x. refl)) body_spelling
