-- What is emitted for a module has no numbers of modules.
use Rattle.std.proofs.Common.{map, ◌≡◌, ℕ, suc, Bool, List, [], ◌∷◌, ◌++◌, refl, ap, ◌∙◌}
use Rattle.std.specs.Prelude.{if◌then◌else◌}
use Rattle.std.specs.List.{range_with_len}
use Rattle.wasm_tree.specs.declared.instr.Instr.TheVariants.{GlobalGet}
use Rattle.wasm_tree.specs.declared.module.Function.{Function}
use Rattle.wasm_tree.specs.declared.module.WModule.{WModule}
use Rattle.typed_tree.specs.declared.typed_module.TypedModule.{TypedModule}
use Rattle.layout_storage.specs.Types.{Ty}
use Rattle.layout_storage.specs.Sizes.{size}
use Rattle.layout_storage.specs.Frames.{module_row}
use Rattle.layout_storage.specs.Texts.{Texts, characters, module_texts}
use Rattle.emit_buffer.specs.Cut.{cut, cut_module}
use Rattle.def_scheme.specs.Coded.{body_index}
use Rattle.def_scheme.specs.Scheme.{body_types, own_imports, imported_globals, host_imports}
use Rattle.def_scheme.specs.Signatures.{Signatures, type_of}
use Rattle.def_scheme.specs.Modules.{signatures, functions, slots, all_characters, data_of, typed_module}
use Rattle.m2_emit.specs.declared.emitted.ModuleBytes.{ModuleBytes}
use Rattle.m2_emit.specs.Emitted.{code_bytes, body_bytes, emitted}
use Rattle.def_exchange.specs.Moved.{Exchange}
use Rattle.def_exchange.specs.MovedTrees.{moved_imported, moved_routine, moved_module}
use Rattle.law_exchange_code.proofs.Lists.{two_paths, map_kept, length_map}
use Rattle.law_exchange_code.proofs.Stored.{row_kept, sizes_kept}
use Rattle.law_exchange_code.proofs.Texted.{texts_kept}
use Rattle.law_exchange_code.proofs.Signing.{signatures_kept}
use Rattle.law_exchange_code.proofs.Functioned.{functions_kept}

abbrev built : (name : List ℕ) → Signatures → List (List ℕ) → List Function → (slots : ℕ) → Texts → WModule
built name ss names fs n ts = record {
  types = body_types ++ map type_of ss;
  imports = own_imports name ++ (imported_globals names ++ host_imports);
  functions = fs;
  tables = [];
  memories = [];
  globals = [];
  exports = [];
  elements = record {
    table = 0;
    offset = GlobalGet 3 ∷ [];
    functions = range_with_len body_index n;
  } ∷ [];
  «data» = data_of (all_characters ts);
}

abbrev laid : (name : List ℕ) → (bytes : List ℕ) → Ty → Texts → (slots : ℕ) → ModuleBytes
laid name bytes t ts n = record {
  name = name;
  bytes = bytes;
  variables = size t;
  texts = characters ts;
  slots = cut n;
}

module _ (x : Exchange) (m : TypedModule) where
  names_kept : map (λ i. i.name) (map (moved_imported x) m.imports) ≡ map (λ i. i.name) m.imports
  names_kept = map_kept (moved_imported x) (λ i. i.name) (λ i. i.name) (λ i. refl) m.imports

  slots_kept : slots (moved_module x m) ≡ slots m
  slots_kept = ap (λ (n : ℕ). suc n) (length_map (moved_routine x) m.procedures)

  module_kept : typed_module (moved_module x m) ≡ typed_module m
  module_kept =
      two_paths (λ ss fs. built m.name ss (map (λ i. i.name) (map (moved_imported x) m.imports)) fs
      (slots (moved_module x m)) (module_texts (moved_module x m)))
      (signatures_kept x m) (functions_kept x m)
      ∙ ap (λ names. built m.name (signatures m) names (functions m) (slots (moved_module x m))
      (module_texts (moved_module x m))) names_kept
      ∙ two_paths (built m.name (signatures m) (map (λ i. i.name) m.imports) (functions m)) slots_kept (texts_kept x m)

  bytes_kept : body_bytes (moved_module x m) ≡ body_bytes m
  unfolding body_bytes
  bytes_kept =
      two_paths (λ (b : Bool) (w : WModule). if b then code_bytes (cut_module w) else []) (sizes_kept x m.types)
      module_kept

  pub emitted_kept : emitted (moved_module x m) ≡ emitted m
  unfolding emitted
  emitted_kept =
      two_paths (λ (bytes : List ℕ) (t : Ty). laid m.name bytes t (module_texts (moved_module x m))
      (slots (moved_module x m))) bytes_kept (row_kept x m)
      ∙ two_paths (laid m.name (body_bytes m) (module_row m)) (texts_kept x m) slots_kept
