-- What is emitted for a module.
use Rattle.std.specs.Prelude.{ℕ, List, [], ◌∷◌, ◌++◌, map, codes, if◌then◌else◌}
use Rattle.wasm_tree.specs.declared.module.WModule.{WModule}
use Rattle.wasm_binary.specs.Binary.{module_encoding, module_fits}
use Rattle.typed_tree.specs.declared.typed_module.TypedModule.{TypedModule}
use Rattle.layout_storage.specs.Sizes.{size}
use Rattle.layout_storage.specs.Frames.{module_row}
use Rattle.layout_storage.specs.Texts.{characters, module_texts}
use Rattle.wasm_tree.specs.declared.module.Export.{Export}
use Rattle.wasm_tree.specs.declared.module.ExportKind.TheVariants as exported
use Rattle.def_scheme.specs.Scheme.{exported_as}
use Rattle.def_scheme.specs.Modules.{Part, slots, typed_module, exports_from}
use Rattle.emit_buffer.specs.Cut.{cut, cut_module}
use Rattle.emit_buffer.specs.Fitting.{sizes_fit}
use Rattle.m2_emit.specs.declared.emitted.ModuleBytes.{ModuleBytes}

-- the encoding, and nothing where there is none: a name or a part is too long, or blocks nest too
-- deep
unfoldable pub code_bytes : WModule → List ℕ
code_bytes w = if module_fits w then module_encoding w else []

-- of a body's module
unfoldable pub body_bytes : TypedModule → List ℕ
body_bytes m = if sizes_fit m.types then code_bytes (cut_module (typed_module m)) else []

-- its bytes, and what link needs of it
unfoldable pub emitted : TypedModule → ModuleBytes
emitted m = record {
  name = m.name;
  bytes = body_bytes m;
  variables = size (module_row m);
  texts = characters (module_texts m);
  slots = cut (slots m);
}

-- what link needs of a module
abbrev pub link_part : ModuleBytes → Part
link_part x = record { name = x.name; variables = x.variables; texts = x.texts; slots = x.slots }

abbrev pub parts : List ModuleBytes → List Part
parts xs = map link_part xs

-- what link exports
abbrev pub link_exports : List Part → List Export
link_exports ms =
    exported_as (codes "memory") (exported.Memory 0)
    ∷ exported_as (codes "table") (exported.Table 0)
    ∷ exported_as (codes "limit") (exported.Global 0) ∷ (exports_from 1 ms
    ++ exported_as (codes "run") (exported.Function 0) ∷ [])
