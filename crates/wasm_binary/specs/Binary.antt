-- The binary format of modules (Core 1.0, section 5), in this project's profile: each number in its
-- shortest encoding.
use Rattle.std.specs.Prelude.{◌≡◌, ℕ, zero, suc, ◌+◌, ◌^◌, Bool, true, ◌&&◌, List, [], ◌∷◌, ◌++◌, length, take, map, sum_by, Some, None, Result, Ok, Err, nat_lt, ◌==◌, if◌then◌else◌}
use Rattle.std.specs.List.{flat_map, list_all}
use Rattle.wasm_tree.specs.declared.fault.WFault.{WFault}
use Rattle.wasm_tree.specs.declared.fault.WFault.TheVariants.{Malformed, OutsideProfile}
use Rattle.wasm_tree.specs.declared.kinds.FuncType.{FuncType}
use Rattle.wasm_tree.specs.declared.kinds.Limits.{Limits}
use Rattle.wasm_tree.specs.declared.kinds.TableType.{TableType}
use Rattle.wasm_tree.specs.declared.kinds.MemoryType.{MemoryType}
use Rattle.wasm_tree.specs.declared.module.ImportKind.{ImportKind}
use Rattle.wasm_tree.specs.declared.module.ImportKind.TheVariants as imported
use Rattle.wasm_tree.specs.declared.module.Import.{Import}
use Rattle.wasm_tree.specs.declared.module.Global.{Global}
use Rattle.wasm_tree.specs.declared.module.ExportKind.{ExportKind}
use Rattle.wasm_tree.specs.declared.module.ExportKind.TheVariants as exported
use Rattle.wasm_tree.specs.declared.module.Export.{Export}
use Rattle.wasm_tree.specs.declared.module.Element.{Element}
use Rattle.wasm_tree.specs.declared.module.Locals.{Locals}
use Rattle.wasm_tree.specs.declared.module.Body.{Body}
use Rattle.wasm_tree.specs.declared.module.Function.{Function}
use Rattle.wasm_tree.specs.declared.module.Data.{Data}
use Rattle.wasm_tree.specs.declared.module.WModule.{WModule}
use Rattle.wasm_tree.specs.Format.{Format, Reading, ◌>>=◌, byte_at, skip}
use Rattle.wasm_code.specs.Bytes as byte
use Rattle.wasm_code.specs.Number.{unsigned}
use Rattle.wasm_code.specs.Instructions.{value_type, code}
use Rattle.wasm_code.specs.Parts.{◌▸◌, ◌◂◌, ◌·◌, as_value, vector, close_part, with_size, bytes_left, section, name}

-- ---- types (5.3)

unfoldable pub func_type : Format FuncType
func_type =
    as_value (λ p. record { params = p.0; results = p.1 }) (λ t. (t.params, t.results))
    (byte.func_type ▸ vector value_type · vector value_type)

abbrev pub limits_encoding : Limits → List ℕ
limits_encoding l = elim l.max [
  | None ↦ 0x00 ∷ unsigned.encoding l.min
  | Some m ↦ 0x01 ∷ unsigned.encoding l.min ++ unsigned.encoding m
]

abbrev pub limits_of : ℕ → List ℕ → Reading Limits
limits_of zero bytes = unsigned.reading bytes >>= λ n. Ok (record { min = n.0; max = None }, n.1)
limits_of (suc zero) bytes =
    unsigned.reading bytes >>= λ n.
    unsigned.reading n.1 >>= λ m.
    Ok (record { min = n.0; max = Some m.0 }, m.1)
limits_of (suc (suc b)) bytes = Err Malformed

abbrev pub limits_fit : Limits → Bool
limits_fit l = unsigned.fits l.min && elim l.max [ None ↦ true | Some m ↦ unsigned.fits m ]

unfoldable pub limits : Format Limits
limits = record {
  encoding = limits_encoding;
  reading = λ bytes. byte_at bytes >>= λ b. limits_of b.0 b.1;
  fits = limits_fit;
}

unfoldable pub table_type : Format TableType
table_type = as_value (λ l. record { limits = l }) (λ t. t.limits) (byte.func_ref ▸ limits)

unfoldable pub memory_type : Format MemoryType
memory_type = as_value (λ l. record { limits = l }) (λ t. t.limits) limits

-- ---- the parts of a module (5.5)

abbrev pub import_kind_encoding : ImportKind → List ℕ
import_kind_encoding (imported.Function t) = byte.of_function ∷ unsigned.encoding t
import_kind_encoding (imported.Table t) = byte.of_table ∷ table_type.encoding t
import_kind_encoding (imported.Memory t) = byte.of_memory ∷ memory_type.encoding t
import_kind_encoding (imported.Global t) =
    byte.of_global ∷ value_type.encoding t ++ byte.immutable ∷ []

abbrev pub import_kind_of : ℕ → List ℕ → Reading ImportKind
import_kind_of b bytes =
    if b == byte.of_function then (unsigned.reading bytes >>= λ t. Ok (imported.Function t.0, t.1))
    else (if b == byte.of_table
    then (table_type.reading bytes >>= λ t. Ok (imported.Table t.0, t.1))
    else (if b == byte.of_memory
    then (memory_type.reading bytes >>= λ t. Ok (imported.Memory t.0, t.1))
    else (if b == byte.of_global
    then (value_type.reading bytes >>= λ t.
    skip byte.immutable t.1 >>= λ s.
    Ok (imported.Global t.0, s.1))
    else Err Malformed)))

abbrev pub import_kind_fits : ImportKind → Bool
import_kind_fits (imported.Function t) = unsigned.fits t
import_kind_fits (imported.Table t) = table_type.fits t
import_kind_fits (imported.Memory t) = memory_type.fits t
import_kind_fits (imported.Global t) = true

unfoldable pub import_kind : Format ImportKind
import_kind = record {
  encoding = import_kind_encoding;
  reading = λ bytes. byte_at bytes >>= λ b. import_kind_of b.0 b.1;
  fits = import_kind_fits;
}

unfoldable pub import : Format Import
import =
    as_value (λ p. record { module_name = p.0; name = p.1.0; kind = p.1.1 })
    (λ i. (i.module_name, (i.name, i.kind))) (name · (name · import_kind))

unfoldable pub global : Format Global
global =
    as_value (λ p. record { value_type = p.0; value = p.1 }) (λ g. (g.value_type, g.value))
    ((value_type ◂ byte.immutable) · code)

abbrev pub export_kind_encoding : ExportKind → List ℕ
export_kind_encoding (exported.Function i) = byte.of_function ∷ unsigned.encoding i
export_kind_encoding (exported.Table i) = byte.of_table ∷ unsigned.encoding i
export_kind_encoding (exported.Memory i) = byte.of_memory ∷ unsigned.encoding i
export_kind_encoding (exported.Global i) = byte.of_global ∷ unsigned.encoding i

abbrev pub export_kind_of : ℕ → List ℕ → Reading ExportKind
export_kind_of b bytes =
    if b == byte.of_function then (unsigned.reading bytes >>= λ i. Ok (exported.Function i.0, i.1))
    else (if b == byte.of_table then (unsigned.reading bytes >>= λ i. Ok (exported.Table i.0, i.1))
    else (if b == byte.of_memory
    then (unsigned.reading bytes >>= λ i. Ok (exported.Memory i.0, i.1))
    else (if b == byte.of_global
    then (unsigned.reading bytes >>= λ i. Ok (exported.Global i.0, i.1))
    else Err Malformed)))

abbrev pub export_kind_fits : ExportKind → Bool
export_kind_fits (exported.Function i) = unsigned.fits i
export_kind_fits (exported.Table i) = unsigned.fits i
export_kind_fits (exported.Memory i) = unsigned.fits i
export_kind_fits (exported.Global i) = unsigned.fits i

unfoldable pub export_kind : Format ExportKind
export_kind = record {
  encoding = export_kind_encoding;
  reading = λ bytes. byte_at bytes >>= λ b. export_kind_of b.0 b.1;
  fits = export_kind_fits;
}

unfoldable pub export : Format Export
export =
    as_value (λ p. record { name = p.0; kind = p.1 }) (λ e. (e.name, e.kind)) (name · export_kind)

unfoldable pub element_segment : Format Element
element_segment =
    as_value (λ p. record { table = p.0; offset = p.1.0; functions = p.1.1 })
    (λ e. (e.table, (e.offset, e.functions))) (unsigned · (code · vector unsigned))

-- groups of locals, if there are this many before them: fewer than 2 ^ 32 in all
unfoldable pub locals_at : (count before : ℕ) → List ℕ → Reading (List Locals)
locals_at zero before bytes = Ok ([], bytes)
locals_at (suc count) before bytes =
    unsigned.reading bytes >>= λ n.
    if nat_lt (before + n.0) (2 ^ 32)
    then (value_type.reading n.1 >>= λ t.
    locals_at count (before + n.0) t.1 >>= λ ls.
    Ok (record { count = n.0; value_type = t.0 } ∷ ls.0, ls.1))
    else Err Malformed

abbrev pub locals_encoding : Locals → List ℕ
locals_encoding l = unsigned.encoding l.count ++ value_type.encoding l.value_type

abbrev pub local_count : List Locals → ℕ
local_count ls = sum_by (λ l. l.count) ls

unfoldable pub locals : Format (List Locals)
locals = record {
  encoding = λ ls. unsigned.encoding (length ls) ++ flat_map locals_encoding ls;
  reading = λ bytes. unsigned.reading bytes >>= λ n. locals_at n.0 0 n.1;
  fits = λ ls. nat_lt (length ls) (2 ^ 32) && nat_lt (local_count ls) (2 ^ 32);
}

unfoldable pub body : Format Body
body =
    with_size
    (as_value (λ p. record { locals = p.0; code = p.1 }) (λ b. (b.locals, b.code)) (locals · code))

unfoldable pub data_segment : Format Data
data_segment =
    as_value (λ p. record { memory = p.0; offset = p.1.0; bytes = p.1.1 })
    (λ d. (d.memory, (d.offset, d.bytes))) (unsigned · (code · with_size bytes_left))

-- ---- a module (5.5.15)

-- the magic number and the version
abbrev pub header : List ℕ
header = 0x00 ∷ 0x61 ∷ 0x73 ∷ 0x6D ∷ 0x01 ∷ 0x00 ∷ 0x00 ∷ 0x00 ∷ []

unfoldable pub skip_all : List ℕ → List ℕ → Result (List ℕ) WFault
skip_all [] bytes = Ok bytes
skip_all (h ∷ hs) bytes = skip h bytes >>= λ s. skip_all hs s.1

-- this many bodies, of functions of these types
unfoldable pub bodies : (types : List ℕ) → List ℕ → Reading (List Function)
bodies [] bytes = Ok ([], bytes)
bodies (t ∷ ts) bytes =
    body.reading bytes >>= λ b.
    bodies ts b.1 >>= λ fs.
    Ok (record { type_index = t; body = b.0 } ∷ fs.0, fs.1)

-- the content of the code section: as many bodies as the function section has types
unfoldable pub code_entries : (types : List ℕ) → List ℕ → Reading (List Function)
code_entries types bytes =
    unsigned.reading bytes >>= λ n. if n.0 == length types then bodies types n.1 else Err Malformed

unfoldable pub code_content : (types : List ℕ) → List ℕ → Reading (List Function)
code_content types bytes =
    unsigned.reading bytes >>= λ n.
    code_entries types (take n.0 n.1) >>= λ fs.
    close_part n.0 n.1 fs.1 >>= λ rest.
    Ok (fs.0, rest)

-- the code section, which has to come if there is a function section, and may not if there is none
abbrev pub code_section : (types : List ℕ) → List ℕ → Reading (List Function)
code_section [] bytes = Ok ([], bytes)
code_section (t ∷ ts) [] = Err Malformed
code_section (t ∷ ts) (b ∷ bytes) =
    if b == byte.code_section then code_content (t ∷ ts) bytes else Err OutsideProfile

-- nothing may follow the last section
abbrev pub at_end : List ℕ → Result (Unit {0}) WFault
at_end [] = Ok tt
at_end (b ∷ bytes) = Err OutsideProfile

unfoldable pub module_at : List ℕ → Reading WModule
module_at bytes = do
  start ← skip_all header bytes
  types ← (section byte.type_section func_type).reading start
  imports ← (section byte.import_section import).reading types.1
  uses ← (section byte.function_section unsigned).reading imports.1
  tables ← (section byte.table_section table_type).reading uses.1
  memories ← (section byte.memory_section memory_type).reading tables.1
  globals ← (section byte.global_section global).reading memories.1
  exports ← (section byte.export_section export).reading globals.1
  elements ← (section byte.element_section element_segment).reading exports.1
  functions ← code_section uses.0 elements.1
  segments ← (section byte.data_section data_segment).reading functions.1
  end ← at_end segments.1
  Ok (
    record {
      types = types.0;
      imports = imports.0;
      functions = functions.0;
      tables = tables.0;
      memories = memories.0;
      globals = globals.0;
      exports = exports.0;
      elements = elements.0;
      «data» = segments.0;
    },
    [],
  )

-- the code section, beside which the function section stands
abbrev pub body_encoding : Function → List ℕ
body_encoding f = body.encoding f.body

abbrev pub bodies_encoding : List Function → List ℕ
bodies_encoding fs = unsigned.encoding (length fs) ++ flat_map body_encoding fs

abbrev pub code_encoding : List Function → List ℕ
code_encoding [] = []
code_encoding (f ∷ fs) =
    byte.code_section ∷ unsigned.encoding (length (bodies_encoding (f ∷ fs)))
    ++ bodies_encoding (f ∷ fs)

abbrev pub types_of : List Function → List ℕ
types_of fs = map (λ f. f.type_index) fs

unfoldable pub first_sections : WModule → List ℕ
first_sections m =
    header ++ (section byte.type_section func_type).encoding m.types
    ++ (section byte.import_section import).encoding m.imports
    ++ (section byte.function_section unsigned).encoding (types_of m.functions)

unfoldable pub middle_sections : WModule → List ℕ
middle_sections m =
    (section byte.table_section table_type).encoding m.tables
    ++ (section byte.memory_section memory_type).encoding m.memories
    ++ (section byte.global_section global).encoding m.globals
    ++ (section byte.export_section export).encoding m.exports

unfoldable pub last_sections : WModule → List ℕ
last_sections m =
    (section byte.element_section element_segment).encoding m.elements ++ code_encoding m.functions
    ++ (section byte.data_section data_segment).encoding m.data

unfoldable pub module_encoding : WModule → List ℕ
module_encoding m = first_sections m ++ middle_sections m ++ last_sections m

-- the module has an encoding: its numbers fit their widths, its names are UTF-8, and no vector or
-- part is too long
unfoldable pub module_fits : WModule → Bool
module_fits m =
    (section byte.type_section func_type).fits m.types
    && (section byte.import_section import).fits m.imports
    && (section byte.function_section unsigned).fits (types_of m.functions)
    && (section byte.table_section table_type).fits m.tables
    && (section byte.memory_section memory_type).fits m.memories
    && (section byte.global_section global).fits m.globals
    && (section byte.export_section export).fits m.exports
    && (section byte.element_section element_segment).fits m.elements
    && list_all (λ f. body.fits f.body) m.functions
    && nat_lt (length (bodies_encoding m.functions)) (2 ^ 32)
    && (section byte.data_section data_segment).fits m.data

abbrev pub binary : Format WModule
binary = record { encoding = module_encoding; reading = module_at; fits = module_fits }

-- the bytes encode the module
pub record Encodes (bytes : List ℕ) (m : WModule) : Type 0 where
  pub fits : module_fits m ≡ true
  pub encoding : bytes ≡ module_encoding m

-- these bytes encode the module, no others do, and they encode no other module
pub record IsOnlyEncoding (bytes : List ℕ) (m : WModule) : Type 0 where
  pub encodes : Encodes bytes m
  pub no_others : (others : List ℕ) → Encodes others m → others ≡ bytes
  pub no_other : (n : WModule) → Encodes bytes n → n ≡ m
