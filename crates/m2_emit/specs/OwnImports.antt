-- What a module imports for itself.
use Rattle.std.specs.Prelude.{ℕ, List, [], ◌∷◌, codes}
use Rattle.wasm_tree.specs.declared.module.Import.{Import}
use Rattle.wasm_tree.specs.declared.module.ImportKind.{ImportKind}
use Rattle.wasm_tree.specs.declared.module.ImportKind.TheVariants as imported
use Rattle.def_scheme.specs.Scheme.{at_least_one, base_name, from_link, tab_name, text_name}

-- what link exports under this name
abbrev pub linked_as : List ℕ → ImportKind → Import
linked_as name kind = record { module_name = codes "link"; name = name; kind = kind }

-- the memory and the table
abbrev pub stores : List Import
stores =
    linked_as (codes "memory") (imported.Memory (record { limits = at_least_one }))
    ∷ linked_as (codes "table") (imported.Table (record { limits = at_least_one })) ∷ []

-- the limit of the storage, and where its data, texts and slots begin
abbrev pub own_globals : List ℕ → List Import
own_globals m =
    from_link (codes "limit") ∷ from_link (base_name m) ∷ from_link (text_name m)
    ∷ from_link (tab_name m) ∷ []
