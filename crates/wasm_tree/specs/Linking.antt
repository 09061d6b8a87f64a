-- Modules linked one after the other (Core 1.0, section 4.5.4): the first is link, which answers
-- imports from `link`; the host answers `put` and `stop` from `host`.
use Rattle.std.specs.Prelude.{ℕ, suc, ◌+◌, ◌*◌, ◌/◌, Bool, true, false, ◌&&◌, List, [], ◌∷◌, ◌++◌, length, take, drop, replicate, slice_get, slice_set, Option, Some, None, Result, Ok, Err, nat_le, if◌then◌else◌, codes}
use Rattle.std.specs.Option.{option_and_then, option_map}
use Rattle.std.specs.Str.{bytes_eq}
use Rattle.wasm_tree.specs.declared.fault.WFault.{WFault}
use Rattle.wasm_tree.specs.declared.fault.WFault.TheVariants.{Unlinked, SegmentOutside}
use Rattle.wasm_tree.specs.declared.kinds.ValueType.{ValueType}
use Rattle.wasm_tree.specs.declared.kinds.ValueType.TheVariants as types
use Rattle.wasm_tree.specs.declared.kinds.FuncType.{FuncType}
use Rattle.wasm_tree.specs.declared.kinds.Limits.{Limits}
use Rattle.wasm_tree.specs.declared.kinds.TableType.{TableType}
use Rattle.wasm_tree.specs.declared.kinds.MemoryType.{MemoryType}
use Rattle.wasm_tree.specs.declared.instr.Instr.{Instr}
use Rattle.wasm_tree.specs.declared.instr.Instr.TheVariants.{Call, CallIndirect, GlobalGet, I32Const, I64Const}
use Rattle.wasm_tree.specs.declared.module.ImportKind.{ImportKind}
use Rattle.wasm_tree.specs.declared.module.ImportKind.TheVariants as imported
use Rattle.wasm_tree.specs.declared.module.Import.{Import}
use Rattle.wasm_tree.specs.declared.module.Global.{Global}
use Rattle.wasm_tree.specs.declared.module.ExportKind.{ExportKind}
use Rattle.wasm_tree.specs.declared.module.ExportKind.TheVariants as exported
use Rattle.wasm_tree.specs.declared.module.Export.{Export}
use Rattle.wasm_tree.specs.declared.module.Element.{Element}
use Rattle.wasm_tree.specs.declared.module.Function.{Function}
use Rattle.wasm_tree.specs.declared.module.Data.{Data}
use Rattle.wasm_tree.specs.declared.module.WModule.{WModule}
use Rattle.wasm_tree.specs.declared.store.Value.{Value}
use Rattle.wasm_tree.specs.declared.store.Value.TheVariants.{I32, I64}
use Rattle.wasm_tree.specs.declared.store.Callee.{Callee}
use Rattle.wasm_tree.specs.declared.store.Callee.TheVariants.{Put, Stop, Own}
use Rattle.wasm_tree.specs.declared.store.Extern.{Extern}
use Rattle.wasm_tree.specs.declared.store.Extern.TheVariants as extern
use Rattle.wasm_tree.specs.declared.store.Table.{Table}
use Rattle.wasm_tree.specs.declared.store.Memory.{Memory}
use Rattle.wasm_tree.specs.declared.store.Instance.{Instance}
use Rattle.wasm_tree.specs.declared.store.Store.{Store}
use Rattle.wasm_tree.specs.Format.{◌>>=◌}
use Rattle.wasm_tree.specs.Validity.{context}
use Rattle.wasm_tree.specs.Machine.{Config, Going, callee_at, callee_type, own_function, is_same_value_type, is_same_type, agree, enter_function, paste_items, Typed}
use Rattle.wasm_tree.specs.Limits.{page_size}

-- ---- names

abbrev pub host_name : List ℕ
host_name = codes "host"

abbrev pub link_name : List ℕ
link_name = codes "link"

abbrev pub put_name : List ℕ
put_name = codes "put"

abbrev pub stop_name : List ℕ
stop_name = codes "stop"

abbrev pub run_name : List ℕ
run_name = codes "run"

-- what is exported under a name
abbrev pub export_named : List ℕ → List Export → Option ExportKind
export_named name [] = None
export_named name (e ∷ es) = if bytes_eq e.name name then Some e.kind else export_named name es

-- ---- one step for each, until one fails

unfoldable pub each : {X S : Type 0} → (X → S → Result S WFault) → List X → S → Result S WFault
each step [] s = Ok s
each step (x ∷ xs) s = step x s >>= each step xs

-- ---- imports (3.3.2, 4.5.4)

abbrev pub extern_of : Instance → ExportKind → Option Extern
extern_of i (exported.Function x) = option_map extern.Function (slice_get i.functions x)
extern_of i (exported.Table x) = option_map extern.Table (slice_get i.tables x)
extern_of i (exported.Memory x) = option_map extern.Memory (slice_get i.memories x)
extern_of i (exported.Global x) = option_map extern.Global (slice_get i.globals x)

abbrev pub host_answer : List ℕ → Option Extern
host_answer name =
    if bytes_eq name put_name
    then Some (extern.Function 0)
    else (if bytes_eq name stop_name then Some (extern.Function 1) else None)

-- link's export, once link has an instance
abbrev pub link_answer : List WModule → Store → List ℕ → Option Extern
link_answer modules st name =
    option_and_then
    (λ (i : Instance).
    option_and_then
    (λ (m : WModule). option_and_then (λ k. extern_of i k) (export_named name m.exports))
    (slice_get modules 0))
    (slice_get st.instances 0)

abbrev pub answer : List WModule → Store → Import → Option Extern
answer modules st i =
    if bytes_eq i.module_name host_name
    then host_answer i.name
    else (if bytes_eq i.module_name link_name then link_answer modules st i.name else None)

-- a size and a greatest size are within limits
abbrev pub has_limits : Limits → (size : ℕ) → Option ℕ → Bool
has_limits l size max =
    nat_le l.min size
    && elim l.max [ None ↦ true | Some m ↦ elim max [ None ↦ false | Some n ↦ nat_le n m ] ]

abbrev pub has_table : Limits → Option Table → Bool
has_table l None = false
has_table l (Some t) = has_limits l (length t.slots) t.max

abbrev pub has_memory : Limits → Option Memory → Bool
has_memory l None = false
has_memory l (Some m) = has_limits l (length m.bytes / page_size) m.max

abbrev pub type_of : Value → ValueType
type_of (I32 n) = types.I32
type_of (I64 n) = types.I64

abbrev pub has_type : ValueType → Option Value → Bool
has_type t None = false
has_type t (Some v) = is_same_value_type t (type_of v)

-- what was found is what the import asks for
abbrev pub suits : List WModule → Store → WModule → ImportKind → Extern → Bool
suits modules st m (imported.Function t) (extern.Function a) =
    agree (slice_get m.types t)
    (option_and_then (λ c. callee_type modules c) (slice_get st.functions a))
suits modules st m (imported.Table t) (extern.Table a) = has_table t.limits (slice_get st.tables a)
suits modules st m (imported.Memory t) (extern.Memory a) =
    has_memory t.limits (slice_get st.memories a)
suits modules st m (imported.Global t) (extern.Global a) = has_type t (slice_get st.globals a)
suits modules st m _ _ = false

abbrev pub with_extern : Extern → Instance → Instance
with_extern (extern.Function a) i = record i { functions = i.functions ++ a ∷ [] }
with_extern (extern.Table a) i = record i { tables = i.tables ++ a ∷ [] }
with_extern (extern.Memory a) i = record i { memories = i.memories ++ a ∷ [] }
with_extern (extern.Global a) i = record i { globals = i.globals ++ a ∷ [] }

abbrev pub import_answer : List WModule → Store → WModule → Import → Result Extern WFault
import_answer modules st m i = elim (answer modules st i) [
  | None ↦ Err Unlinked
  | Some x ↦ if suits modules st m i.kind x then Ok x else Err Unlinked
]

abbrev pub with_import : List WModule → Store → WModule → Import → Instance → Result Instance WFault
with_import modules st m x i = import_answer modules st m x >>= λ e. Ok (with_extern e i)

-- ---- what a module adds to the store

pub record Linked : Type 0 where
  pub store : Store
  pub instance : Instance

abbrev pub with_function : Callee → Linked → Linked
with_function c l = record {
  store = record l.store { functions = l.store.functions ++ c ∷ [] };
  instance =
      record l.instance { functions = l.instance.functions ++ length l.store.functions ∷ [] };
}

-- the functions of the module of this number, from the number first on
unfoldable pub with_functions : (m first : ℕ) → List Function → Linked → Linked
with_functions m first [] l = l
with_functions m first (f ∷ fs) l = with_functions m (suc first) fs (with_function (Own m first) l)

abbrev pub fresh_table : TableType → Table
fresh_table t = record { slots = replicate t.limits.min None; max = t.limits.max }

abbrev pub with_table : TableType → Linked → Result Linked WFault
with_table t l = Ok (record {
  store = record l.store { tables = l.store.tables ++ fresh_table t ∷ [] };
  instance = record l.instance { tables = l.instance.tables ++ length l.store.tables ∷ [] };
})

abbrev pub fresh_memory : MemoryType → Memory
fresh_memory t = record { bytes = replicate (page_size * t.limits.min) 0; max = t.limits.max }

abbrev pub with_memory : MemoryType → Linked → Result Linked WFault
with_memory t l = Ok (record {
  store = record l.store { memories = l.store.memories ++ fresh_memory t ∷ [] };
  instance = record l.instance { memories = l.instance.memories ++ length l.store.memories ∷ [] };
})

-- the value of a constant expression
abbrev pub constant : Linked → Instr → Option Value
constant l (I32Const n) = Some (I32 n)
constant l (I64Const n) = Some (I64 n)
constant l (GlobalGet g) =
    option_and_then (λ a. slice_get l.store.globals a) (slice_get l.instance.globals g)
constant l _ = None

abbrev pub value_of : Linked → List Instr → Option Value
value_of l [] = None
value_of l (i ∷ []) = constant l i
value_of l (i ∷ j ∷ is) = None

abbrev pub with_value : Option Value → Linked → Result Linked WFault
with_value None l = Err Unlinked
with_value (Some v) l = Ok (record {
  store = record l.store { globals = l.store.globals ++ v ∷ [] };
  instance = record l.instance { globals = l.instance.globals ++ length l.store.globals ∷ [] };
})

abbrev pub with_global : Global → Linked → Result Linked WFault
with_global g l = with_value (value_of l g.value) l

-- ---- segments

-- where a segment begins
abbrev pub offset_of : Option Value → Result ℕ WFault
offset_of None = Err SegmentOutside
offset_of (Some (I32 n)) = Ok n
offset_of (Some (I64 n)) = Err SegmentOutside

-- the addresses of functions
abbrev pub addresses : Instance → List ℕ → Option (List (Option ℕ))
addresses i [] = Some []
addresses i (f ∷ fs) =
    option_and_then (λ a. option_map (λ rest. Some a ∷ rest) (addresses i fs))
    (slice_get i.functions f)

abbrev pub with_slots : Linked → (table at : ℕ) → Option Table → Option (List (Option ℕ))
    → Result Linked WFault
with_slots l table at None slots = Err SegmentOutside
with_slots l table at (Some t) None = Err SegmentOutside
with_slots l table at (Some t) (Some slots) =
    if nat_le (at + length slots) (length t.slots)
    then Ok (record l {
      store = record l.store {
        tables = slice_set l.store.tables table (record t { slots = paste_items t.slots at slots });
      };
    })
    else Err SegmentOutside

-- the place that an index stands for
abbrev pub some_address : List ℕ → (index : ℕ) → Result ℕ WFault
some_address places index =
    elim (slice_get places index) [ None ↦ Err SegmentOutside | Some a ↦ Ok a ]

abbrev pub with_element : Element → Linked → Result Linked WFault
with_element e l =
    offset_of (value_of l e.offset) >>= λ at.
    some_address l.instance.tables e.table >>= λ table.
    with_slots l table at (slice_get l.store.tables table) (addresses l.instance e.functions)

abbrev pub with_bytes : Linked → (memory at : ℕ) → Option Memory → List ℕ → Result Linked WFault
with_bytes l memory at None bytes = Err SegmentOutside
with_bytes l memory at (Some m) bytes =
    if nat_le (at + length bytes) (length m.bytes)
    then Ok (record l {
      store = record l.store {
        memories =
            slice_set l.store.memories memory (record m { bytes = paste_items m.bytes at bytes });
      };
    })
    else Err SegmentOutside

abbrev pub with_segment : Data → Linked → Result Linked WFault
with_segment d l =
    offset_of (value_of l d.offset) >>= λ at.
    some_address l.instance.memories d.memory >>= λ memory.
    with_bytes l memory at (slice_get l.store.memories memory) d.bytes

-- ---- modules one after the other

abbrev pub no_instance : Instance
no_instance = record { functions = []; tables = []; memories = []; globals = [] }

-- the module of this number: its imports are answered before its segments are placed
unfoldable pub linked_one : List WModule → (m : ℕ) → WModule → Store → Result Store WFault
linked_one modules m tree st = do
  instance ← each (with_import modules st tree) tree.imports no_instance
  tables ← each with_table tree.tables
      (with_functions m 0 tree.functions (record { store = st; instance = instance }))
  memories ← each with_memory tree.memories tables
  globals ← each with_global tree.globals memories
  elements ← each with_element tree.elements globals
  placed ← each with_segment tree.data elements
  Ok (record placed.store { instances = placed.store.instances ++ placed.instance ∷ [] })

-- the modules from the number m on
unfoldable pub linked_from : List WModule → (m : ℕ) → List WModule → Store → Result Store WFault
linked_from modules m [] st = Ok st
linked_from modules m (tree ∷ trees) st =
    linked_one modules m tree st >>= linked_from modules (suc m) trees

-- the host's functions alone
abbrev pub host_store : Store
host_store =
    record { functions = Put ∷ Stop ∷ []; tables = []; memories = []; globals = []; instances = [] }

-- the function without parameters and results that the module exports as run
abbrev pub is_plain : Option FuncType → Bool
is_plain None = false
is_plain (Some t) = is_same_type t (record { params = []; results = [] })

abbrev pub run_index : WModule → Option ExportKind → Result ℕ WFault
run_index m (Some (exported.Function f)) =
    if is_plain (option_and_then (λ t. slice_get m.types t) (slice_get (context m).functions f))
    then Ok f
    else Err Unlinked
run_index m _ = Err Unlinked

abbrev pub run_of : List WModule → Result ℕ WFault
run_of [] = Err Unlinked
run_of (m ∷ ms) = run_index m (export_named run_name m.exports)

-- the run begins in that function
abbrev pub start_run : Store → Option Typed → (m : ℕ) → Result Config WFault
start_run st None m = Err Unlinked
start_run st (Some t) m = Ok (Going st (enter_function m t []) [])

abbrev pub start : List WModule → Store → Option Callee → Result Config WFault
start modules st (Some (Own m f)) = start_run st (own_function modules m f) m
start modules st _ = Err Unlinked

-- the modules are linked, and the first one's run is about to be executed
unfoldable pub link : List WModule → Result Config WFault
link modules = do
  f ← run_of modules
  st ← linked_from modules 0 modules host_store
  start modules st (callee_at st 0 f)
