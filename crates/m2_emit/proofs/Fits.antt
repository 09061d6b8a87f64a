-- What is kept of a layout is not cut.
use Rattle.std.proofs.Common.{◌≡◌, ℕ, ◌+◌, ◌≤◌, Bool, true, false, List, [], map, sym, ap, ◌∙◌, arith}
use Rattle.std.specs.Prelude.{if◌then◌else◌}
use Rattle.wasm_tree.specs.declared.module.WModule.{WModule}
use Rattle.wasm_binary.specs.Binary.{module_encoding, module_fits}
use Rattle.typed_tree.specs.declared.typed_module.TypedModule.{TypedModule}
use Rattle.layout_storage.specs.declared.row.Row.{Row}
use Rattle.layout_storage.specs.declared.layout.Layout.{Layout}
use Rattle.layout_storage.specs.Capped.{cap_size}
use Rattle.layout_storage.specs.Types.{Ty, row}
use Rattle.layout_storage.specs.Sizes.{size}
use Rattle.layout_storage.specs.Shapes.{tree}
use Rattle.layout_storage.specs.Frames.{module_row}
use Rattle.layout_storage.specs.Texts.{characters, module_texts}
use Rattle.layout_storage.specs.Extents.{total}
use Rattle.layout_storage.specs.Layouts.{IsLayout, AllFits}
use Rattle.layout_storage.proofs.Rows.{fields_row, fields_sum, row_is}
use Rattle.def_scheme.specs.Modules.{slots, typed_module}
use Rattle.m2_emit.specs.declared.emitted.ModuleBytes.{ModuleBytes}
use Rattle.emit_buffer.specs.Cut.{cut, cut_module}
use Rattle.emit_buffer.specs.Fitting.{sizes_fit}
use Rattle.m2_emit.specs.Emitted.{body_bytes, code_bytes, emitted}

row_size : (ts : List Ty) → total (map size ts) ≡ size (row ts)
row_size ts = ap total (sym (fields_row ts)) ∙ fields_sum (row ts) (row_is ts)

whole : (n k : ℕ) → n + k ≤ 16777216 → cap_size (0 + n) ≡ n
whole n k h = omega arith

whole_behind : (n k : ℕ) → n + k ≤ 16777216 → cap_size k ≡ k
whole_behind n k h = omega arith

pub variables_are : (m : TypedModule) (x : Layout) → IsLayout m x → AllFits m → x.variables.size ≡ size (module_row m)
variables_are m x h f =
    ap (λ (r : Row). r.size) h.variables ∙ ap (λ (n : ℕ). cap_size (0 + n)) (row_size (map (tree m.types) m.variables))
    ∙ whole (size (module_row m)) (characters (module_texts m)) f.bytes

pub texts_are : (m : TypedModule) (x : Layout) → IsLayout m x → AllFits m → x.texts ≡ characters (module_texts m)
texts_are m x h f = h.texts ∙ whole_behind (size (module_row m)) (characters (module_texts m)) f.bytes

abbrev made : List ℕ → List ℕ → (variables texts slots : ℕ) → ModuleBytes
made name bytes v t s = record { name = name; bytes = bytes; variables = v; texts = t; slots = s }

pub emitted_is : (m : TypedModule) (x : Layout) (name bytes : List ℕ) (n : ℕ) → IsLayout m x → AllFits m → name ≡ m.name
    → bytes ≡ body_bytes m → n ≡ cut (slots m)
    → made name bytes x.variables.size x.texts n ≡ emitted m
unfolding emitted
emitted_is m x name bytes n h f e b s =
    ap (λ (k : List ℕ). made k bytes x.variables.size x.texts n) e
    ∙ ap (λ (k : List ℕ). made m.name k x.variables.size x.texts n) b
    ∙ ap (λ (k : ℕ). made m.name (body_bytes m) k x.texts n) (variables_are m x h f)
    ∙ ap (λ (k : ℕ). made m.name (body_bytes m) (size (module_row m)) k n) (texts_are m x h f)
    ∙ ap (λ (k : ℕ). made m.name (body_bytes m) (size (module_row m)) (characters (module_texts m)) k) s

-- ---- bytes

pub bytes_if : (w : WModule) (bytes : List ℕ) → bytes ≡ module_encoding w → module_fits w ≡ true → bytes ≡ code_bytes w
unfolding code_bytes
bytes_if w bytes e h = e ∙ sym (ap (λ (b : Bool). if b then module_encoding w else []) h)

pub none_if : (w : WModule) → module_fits w ≡ false → [] ≡ code_bytes w
unfolding code_bytes
none_if w h = sym (ap (λ (b : Bool). if b then module_encoding w else []) h)

pub body_same : (m : TypedModule) (w : WModule) → sizes_fit m.types ≡ true → w ≡ cut_module (typed_module m)
    → code_bytes w ≡ body_bytes m
unfolding body_bytes
body_same m w h e = ap code_bytes e ∙ sym
    (ap (λ (b : Bool). if b then code_bytes (cut_module (typed_module m)) else []) h)

pub none_of_body : (m : TypedModule) → sizes_fit m.types ≡ false → [] ≡ body_bytes m
unfolding body_bytes
none_of_body m h = sym (ap (λ (b : Bool). if b then code_bytes (cut_module (typed_module m)) else []) h)
