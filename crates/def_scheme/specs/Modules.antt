-- The WebAssembly modules of a program: one for each body, and the module link, which owns the
-- memory and the table.
use Rattle.std.specs.Prelude.{ℕ, suc, ◌+◌, ◌*◌, List, [], ◌∷◌, ◌++◌, map, length, Option, Some, None, codes}
use Rattle.std.specs.List.{flat_map, range_with_len}
use Rattle.wasm_tree.specs.declared.kinds.ValueType.TheVariants.{I32, I64}
use Rattle.wasm_tree.specs.declared.kinds.FuncType.{FuncType}
use Rattle.wasm_tree.specs.declared.instr.Instr.{Instr}
use Rattle.wasm_tree.specs.declared.instr.Instr.TheVariants.{CallIndirect, GlobalGet, I32Const}
use Rattle.wasm_tree.specs.declared.module.Import.{Import}
use Rattle.wasm_tree.specs.declared.module.Function.{Function}
use Rattle.wasm_tree.specs.declared.module.Global.{Global}
use Rattle.wasm_tree.specs.declared.module.Export.{Export}
use Rattle.wasm_tree.specs.declared.module.ExportKind.TheVariants as exported
use Rattle.wasm_tree.specs.declared.module.Data.{Data}
use Rattle.wasm_tree.specs.declared.module.WModule.{WModule}
use Rattle.typed_tree.specs.declared.typed_module.TypedModule.{TypedModule}
use Rattle.typed_tree.specs.declared.typed_module.Which.TheVariants as which
use Rattle.layout_storage.specs.Sizes.{size, page_size}
use Rattle.layout_storage.specs.Frames.{module_row}
use Rattle.layout_storage.specs.Texts.{Texts, characters, module_texts}
use Rattle.def_scheme.specs.Scheme.{body_types, own_imports, imported_globals, host_imports, constant_global, exported_as, base_name, text_name, tab_name, type_from}
use Rattle.def_scheme.specs.Helpers.{copy_code, fill_code, check_code, divisor_checked, div_rest, mod_rest}
use Rattle.def_scheme.specs.Coded.{body_index}
use Rattle.def_scheme.specs.Exprs.{Numbered}
use Rattle.def_scheme.specs.Functions.{functions_from, module_function}
use Rattle.def_scheme.specs.Signatures.{Signatures, signatures_needed, in_order, number_of, type_of}

-- a program's memory has at most this many pages
abbrev pub max_pages : ℕ
max_pages = 1024

-- ---- the module of a body

abbrev pub helper : (type_index : ℕ) → List Instr → Function
helper t code = record { type_index = t; body = record { locals = []; code = code } }

abbrev pub mod_function : Function
mod_function = record {
  type_index = 4;
  body = record {
    locals = record { count = 1; value_type = I64 } ∷ [];
    code = divisor_checked mod_rest;
  };
}

abbrev pub helpers : List Function
helpers =
    helper 1 copy_code ∷ helper 2 fill_code ∷ helper 3 check_code
    ∷ helper 4 (divisor_checked div_rest) ∷ mod_function ∷ []

abbrev pub signatures : TypedModule → Signatures
signatures m = in_order (signatures_needed m)

abbrev pub numbering_of : TypedModule → Numbered
numbering_of m = number_of (signatures m)

abbrev pub functions : TypedModule → List Function
functions m =
    helpers ++ (module_function (numbering_of m) m
    ∷ (functions_from (numbering_of m) m which.Module 0 m.procedures
    ++ functions_from (numbering_of m) m which.Local 0 m.locals))

abbrev pub imports : TypedModule → List Import
imports m = own_imports m.name ++ (imported_globals (map (λ i. i.name) m.imports) ++ host_imports)

-- the body and the procedures of the module stand in the table
abbrev pub slots : TypedModule → ℕ
slots m = suc (length m.procedures)

abbrev pub all_characters : Texts → List ℕ
all_characters [] = []
all_characters (t ∷ ts) = t ++ all_characters ts

abbrev pub data_of : List ℕ → List Data
data_of [] = []
data_of (b ∷ bs) = record { memory = 0; offset = GlobalGet 2 ∷ []; bytes = b ∷ bs } ∷ []

abbrev pub typed_module : TypedModule → WModule
typed_module m = record {
  types = body_types ++ map type_of (signatures m);
  imports = imports m;
  functions = functions m;
  tables = [];
  memories = [];
  globals = [];
  exports = [];
  elements = record {
    table = 0;
    offset = GlobalGet 3 ∷ [];
    functions = range_with_len body_index (slots m);
  } ∷ [];
  «data» = data_of (all_characters (module_texts m));
}

-- ---- the module link

-- what link needs of a module: its name, the bytes of its variables and of its texts, and its slots
pub record Part : Type 0 where
  pub name : List ℕ
  pub variables : ℕ
  pub texts : ℕ
  pub slots : ℕ

abbrev pub part_of : TypedModule → Part
part_of m = record {
  name = m.name;
  variables = size (module_row m);
  texts = characters (module_texts m);
  slots = slots m;
}

-- the place of its variables, the place of its texts, and its first slot
abbrev pub globals_from : (place slot : ℕ) → List Part → List Global
globals_from place slot [] = []
globals_from place slot (m ∷ ms) =
    constant_global place ∷ constant_global (place + m.variables) ∷ constant_global slot
    ∷ globals_from (place + m.variables + m.texts) (slot + m.slots) ms

abbrev pub exports_from : (global : ℕ) → List Part → List Export
exports_from g [] = []
exports_from g (m ∷ ms) =
    exported_as (base_name m.name) (exported.Global g)
    ∷ exported_as (text_name m.name) (exported.Global (g + 1))
    ∷ exported_as (tab_name m.name) (exported.Global (g + 2)) ∷ exports_from (g + 3) ms

-- where the stack begins: behind the variables and texts of all modules
abbrev pub stack_begin : List Part → ℕ
stack_begin [] = 0
stack_begin (m ∷ ms) = m.variables + m.texts + stack_begin ms

abbrev pub all_slots : List Part → ℕ
all_slots [] = 0
all_slots (m ∷ ms) = m.slots + all_slots ms

abbrev pub calls_from : (stack global : ℕ) → List Part → List Instr
calls_from stack g [] = []
calls_from stack g (m ∷ ms) =
    I32Const stack ∷ GlobalGet g ∷ CallIndirect 1 ∷ calls_from stack (g + 3) ms

abbrev pub link_of : List Part → (pages : ℕ) → WModule
link_of ms pages = record {
  types = type_from [] [] ∷ type_from (I32 ∷ []) [] ∷ [];
  imports = [];
  functions = helper 0 (calls_from (stack_begin ms) 3 ms) ∷ [];
  tables =
      record { limits = record { min = 1 + all_slots ms; max = Some (1 + all_slots ms) } } ∷ [];
  memories = record { limits = record { min = pages; max = Some pages } } ∷ [];
  globals = constant_global (page_size * pages) ∷ globals_from 0 1 ms;
  exports = exported_as (codes "memory") (exported.Memory 0)
      ∷ exported_as (codes "table") (exported.Table 0)
      ∷ exported_as (codes "limit") (exported.Global 0) ∷ (exports_from 1 ms
      ++ exported_as (codes "run") (exported.Function 0) ∷ []);
  elements = [];
  «data» = [];
}

abbrev pub typed_link : List TypedModule → (pages : ℕ) → WModule
typed_link ms pages = link_of (map part_of ms) pages
