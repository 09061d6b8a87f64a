-- Pieces of modules: types, imports, exports, and the names that link exports.
use Rattle.std.specs.Prelude.{ℕ, List, [], ◌∷◌, ◌++◌, None, codes}
use Rattle.std.specs.List.{flat_map}
use Rattle.wasm_tree.specs.declared.kinds.ValueType.{ValueType}
use Rattle.wasm_tree.specs.declared.kinds.ValueType.TheVariants.{I32, I64}
use Rattle.wasm_tree.specs.declared.kinds.FuncType.{FuncType}
use Rattle.wasm_tree.specs.declared.kinds.Limits.{Limits}
use Rattle.wasm_tree.specs.declared.instr.Instr.TheVariants.{I32Const}
use Rattle.wasm_tree.specs.declared.module.Import.{Import}
use Rattle.wasm_tree.specs.declared.module.ImportKind.TheVariants as imported
use Rattle.wasm_tree.specs.declared.module.Global.{Global}
use Rattle.wasm_tree.specs.declared.module.Export.{Export}
use Rattle.wasm_tree.specs.declared.module.ExportKind.{ExportKind}

abbrev pub type_from : List ValueType → List ValueType → FuncType
type_from params results = record { params = params; results = results }

-- ---- the names that link exports for a module

abbrev pub base_name : List ℕ → List ℕ
base_name m = codes "base." ++ m

abbrev pub text_name : List ℕ → List ℕ
text_name m = codes "text." ++ m

abbrev pub tab_name : List ℕ → List ℕ
tab_name m = codes "tab." ++ m

abbrev pub from_link : List ℕ → Import
from_link name = record { module_name = codes "link"; name = name; kind = imported.Global I32 }

abbrev pub from_host : List ℕ → Import
from_host name = record { module_name = codes "host"; name = name; kind = imported.Function 0 }

abbrev pub at_least_one : Limits
at_least_one = record { min = 1; max = None }

-- ---- the module of a body

abbrev pub body_types : List FuncType
body_types =
    type_from (I64 ∷ []) [] ∷ type_from (I32 ∷ I32 ∷ I32 ∷ []) [] ∷ type_from (I32 ∷ I32 ∷ []) []
    ∷ type_from (I64 ∷ I64 ∷ I64 ∷ I64 ∷ []) (I64 ∷ []) ∷ type_from (I64 ∷ I64 ∷ []) (I64 ∷ [])
    ∷ type_from (I32 ∷ []) [] ∷ []

abbrev pub own_imports : List ℕ → List Import
own_imports m =
    record {
      module_name = codes "link";
      name = codes "memory";
      kind = imported.Memory (record { limits = at_least_one });
    }
    ∷ record {
      module_name = codes "link";
      name = codes "table";
      kind = imported.Table (record { limits = at_least_one });
    } ∷ from_link (codes "limit") ∷ from_link (base_name m) ∷ from_link (text_name m)
    ∷ from_link (tab_name m) ∷ []

abbrev pub imported_globals : List (List ℕ) → List Import
imported_globals names = flat_map (λ m. from_link (base_name m) ∷ from_link (tab_name m) ∷ []) names

abbrev pub host_imports : List Import
host_imports = from_host (codes "put") ∷ from_host (codes "stop") ∷ []

-- ---- the module link

abbrev pub constant_global : ℕ → Global
constant_global n = record { value_type = I32; value = I32Const n ∷ [] }

abbrev pub exported_as : List ℕ → ExportKind → Export
exported_as name kind = record { name = name; kind = kind }
