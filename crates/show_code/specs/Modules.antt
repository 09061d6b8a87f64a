-- Modules in the text format of WebAssembly.
use Rattle.std.specs.Prelude.{ℕ, zero, suc, ◌/◌, ◌%◌, ◌+◌, ◌&&◌, ◌==◌, not, Bool, nat_le, nat_lt, List, [], ◌∷◌, ◌++◌, Option, Some, None, if◌then◌else◌, codes, decimal, slice_get}
use Rattle.std.specs.Global.{Vec}
use Rattle.std.specs.List.{flat_map}
use Rattle.wasm_tree.specs.declared.kinds.ValueType.{ValueType}
use Rattle.wasm_tree.specs.declared.kinds.FuncType.{FuncType}
use Rattle.wasm_tree.specs.declared.kinds.Limits.{Limits}
use Rattle.wasm_tree.specs.declared.kinds.TableType.{TableType}
use Rattle.wasm_tree.specs.declared.kinds.MemoryType.{MemoryType}
use Rattle.wasm_tree.specs.declared.instr.Instr.{Instr}
use Rattle.wasm_tree.specs.declared.module.Import.{Import}
use Rattle.wasm_tree.specs.declared.module.ImportKind.{ImportKind}
use Rattle.wasm_tree.specs.declared.module.ImportKind.TheVariants as imported
use Rattle.wasm_tree.specs.declared.module.Global.{Global}
use Rattle.wasm_tree.specs.declared.module.Export.{Export}
use Rattle.wasm_tree.specs.declared.module.ExportKind.{ExportKind}
use Rattle.wasm_tree.specs.declared.module.ExportKind.TheVariants as exported
use Rattle.wasm_tree.specs.declared.module.Element.{Element}
use Rattle.wasm_tree.specs.declared.module.Locals.{Locals}
use Rattle.wasm_tree.specs.declared.module.Function.{Function}
use Rattle.wasm_tree.specs.declared.module.Data.{Data}
use Rattle.wasm_tree.specs.declared.module.WModule.{WModule}
use Rattle.show_code.specs.Pages.{row}
use Rattle.show_code.specs.Instructions.{code_text, label_text, value_type_word}

-- ---- strings

abbrev pub hex_digit : ℕ → ℕ
hex_digit n = if nat_lt n 10 then 48 + n else 87 + n

-- from the blank to ~, but for the quote and the backslash
abbrev pub is_plain : ℕ → Bool
is_plain b = nat_le 32 b && nat_le b 126 && not (b == 34) && not (b == 92)

-- a byte as it stands in a string
unfoldable pub byte_text : ℕ → List ℕ
byte_text b = if is_plain b then b ∷ [] else 92 ∷ hex_digit (b / 16) ∷ hex_digit (b % 16) ∷ []

abbrev pub string_text : List ℕ → List ℕ
string_text bytes = 32 ∷ 34 ∷ (flat_map byte_text bytes ++ 34 ∷ [])

-- ---- the parts of a module

abbrev pub types_text : (word : List ℕ) → List ValueType → List ℕ
types_text word types = flat_map (λ t. word ++ (value_type_word t ++ codes ")")) types

unfoldable pub signature_text : (params results : List ValueType) → List ℕ
signature_text params results =
    codes "  (type (func" ++ (types_text (codes " (param ") params
    ++ (types_text (codes " (result ") results ++ codes "))\n"))

abbrev pub type_text : FuncType → List ℕ
type_text t = signature_text t.params t.results

abbrev pub most_text : Option ℕ → List ℕ
most_text None = []
most_text (Some most) = codes " " ++ decimal most

abbrev pub limits_text : Limits → List ℕ
limits_text l = codes " " ++ (decimal l.min ++ most_text l.max)

unfoldable pub function_kind_text : (type_index : ℕ) → List ℕ
function_kind_text type_index = codes " (func (type " ++ (decimal type_index ++ codes "))")

unfoldable pub kind_text : ImportKind → List ℕ
kind_text (imported.Function t) = function_kind_text t
kind_text (imported.Table t) = codes " (table" ++ (limits_text t.limits ++ codes " funcref)")
kind_text (imported.Memory m) = codes " (memory" ++ (limits_text m.limits ++ codes ")")
kind_text (imported.Global t) = codes " (global " ++ (value_type_word t ++ codes ")")

unfoldable pub import_parts : (module_name name : List ℕ) → ImportKind → List ℕ
import_parts module_name name kind =
    codes "  (import" ++ (string_text module_name
    ++ (string_text name ++ (kind_text kind ++ codes ")\n")))

abbrev pub import_text : Import → List ℕ
import_text i = import_parts i.module_name i.name i.kind

abbrev pub table_text : TableType → List ℕ
table_text t = codes "  (table" ++ (limits_text t.limits ++ codes " funcref)\n")

abbrev pub memory_text : MemoryType → List ℕ
memory_text m = codes "  (memory" ++ (limits_text m.limits ++ codes ")\n")

unfoldable pub global_head : ValueType → List ℕ
global_head t = codes "  (global " ++ (value_type_word t ++ codes "\n")

unfoldable pub global_text : Global → List ℕ
global_text g = global_head g.value_type ++ (code_text 2 g.value ++ codes "  )\n")

abbrev pub thing_text : ExportKind → List ℕ
thing_text (exported.Function f) = codes " (func " ++ decimal f
thing_text (exported.Table t) = codes " (table " ++ decimal t
thing_text (exported.Memory m) = codes " (memory " ++ decimal m
thing_text (exported.Global g) = codes " (global " ++ decimal g

unfoldable pub export_text : Export → List ℕ
export_text e = codes "  (export" ++ (string_text e.name ++ (thing_text e.kind ++ codes "))\n"))

-- the begin of what stands in a table or a memory from an offset on
unfoldable pub offset_text : (word : List ℕ) → List Instr → List ℕ
offset_text word offset =
    codes "  (" ++ (word ++ (codes " (offset\n" ++ (code_text 2 offset ++ codes "    )")))

-- there is one table
unfoldable pub element_text : Element → List ℕ
element_text e =
    offset_text (codes "elem") e.offset ++ (codes " func"
    ++ (flat_map label_text e.functions ++ codes ")\n"))

-- there is one memory
unfoldable pub data_text : Data → List ℕ
data_text d = offset_text (codes "data") d.offset ++ (string_text d.bytes ++ codes ")\n")

-- ---- functions

-- these bytes this many times
abbrev pub repeat_bytes : ℕ → List ℕ → List ℕ
repeat_bytes zero bytes = []
repeat_bytes (suc count) bytes = repeat_bytes count bytes ++ bytes

-- what is said of the function of this number, or nothing
abbrev pub title_of : Option (Vec ℕ) → List ℕ
title_of None = []
title_of (Some title) = codes " ;; " ++ title.items

abbrev pub title_at : List (Vec ℕ) → (number : ℕ) → List ℕ
title_at titles number = title_of (slice_get titles number)

-- locals of one type; each stands by itself
abbrev pub locals_text : Locals → List ℕ
locals_text l =
    codes "    (local" ++ (repeat_bytes l.count (codes " " ++ value_type_word l.value_type)
    ++ codes ")\n")

-- the begin of a function: its type, and what is said of it
unfoldable pub heading_text : (title : List ℕ) → (type_index : ℕ) → List ℕ
heading_text title type_index =
    codes "  (func (type " ++ (decimal type_index ++ (codes ")" ++ (title ++ codes "\n")))

unfoldable pub function_text : (title : List ℕ) → Function → List ℕ
function_text title f =
    heading_text title f.type_index
    ++ (flat_map locals_text f.body.locals ++ (code_text 2 f.body.code ++ codes "  )\n"))

-- functions from this number on, each behind what is said of it
abbrev pub functions_text : List (Vec ℕ) → (number : ℕ) → List Function → List ℕ
functions_text titles number [] = []
functions_text titles number (f ∷ fs) =
    function_text (title_at titles number) f ++ functions_text titles (suc number) fs

-- ---- the whole

-- what stands before the globals
unfoldable pub front_text : WModule → List ℕ
front_text m =
    codes "(module\n" ++ (flat_map type_text m.types ++ (flat_map import_text m.imports
    ++ (flat_map table_text m.tables ++ flat_map memory_text m.memories)))

-- what stands from there on before the functions
unfoldable pub middle_text : WModule → List ℕ
middle_text m =
    flat_map global_text m.globals ++ (flat_map export_text m.exports
    ++ flat_map element_text m.elements)

-- what stands behind the functions
unfoldable pub back_text : WModule → List ℕ
back_text m = flat_map data_text m.«data» ++ codes ")\n"

-- a module, with what is said of its functions as comments
unfoldable pub module_text : List (Vec ℕ) → WModule → List ℕ
module_text titles m =
    front_text m ++ (middle_text m ++ (functions_text titles 0 m.functions ++ back_text m))
