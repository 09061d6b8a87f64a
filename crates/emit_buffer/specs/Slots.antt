-- The addresses of components.
use Rattle.std.specs.Prelude.{ℕ, zero, suc, ◌-◌, List, [], ◌∷◌, length, slice_get, Option, Some, None, if◌then◌else◌}
use Rattle.wasm_tree.specs.declared.instr.Instr.{Instr}
use Rattle.wasm_tree.specs.declared.instr.Instr.TheVariants.{Call, I64Const}
use Rattle.typed_tree.specs.declared.computed.Root.{Root}
use Rattle.typed_tree.specs.declared.computed.Root.TheVariants as root
use Rattle.typed_tree.specs.declared.types.TypeNo.{TypeNo}
use Rattle.typed_tree.specs.declared.known_types.Types.{Types}
use Rattle.typed_tree.specs.declared.typed_module.Routine.{Routine}
use Rattle.layout_storage.specs.Sizes.{offset}
use Rattle.layout_storage.specs.Shapes.{tree}
use Rattle.layout_storage.specs.Frames.{formals_of}
use Rattle.layout_storage.specs.declared.row.Row.{Row}
use Rattle.typed_tree.specs.declared.shape.Formal.{Formal}
use Rattle.emit_buffer.specs.Homes.{start_or}
use Rattle.def_scheme.specs.Coded.{Setting, raise_address, check}
use Rattle.def_scheme.specs.Exprs.{frame_at, scale_index, global_code, slot_code, kept_address, open_address, with_code}
use Rattle.emit_buffer.specs.Frames.{frames_of}

abbrev pub behind_high : (bytes : ℕ) → List Instr
behind_high n = I64Const 3 ∷ Call check ∷ scale_index n

abbrev pub field_code : Types → TypeNo → ℕ → List Instr
field_code types t k = raise_address (offset (tree types t) (k ∷ []))

abbrev pub root_code : Setting → Root → List Instr
root_code s (root.Global v) = global_code s.home v
root_code s (root.Local slot) = slot_code s slot []
root_code s (root.Alias slot) = kept_address s slot []
root_code s (root.Open slot) = open_address s slot
root_code s (root.With k) = with_code (slice_get s.withs k)

-- the offset of a cell of a slot in the frame `up` procedures outwards
abbrev pub slot_at : Types → List Routine → (up number : ℕ) → List ℕ → ℕ
slot_at types rs up n path = offset (frame_at (slice_get (frames_of types rs) up)) (suc n ∷ path)

-- the same from what is kept of frames; the frame of the body of a module has no variables
abbrev pub slot_from : List Row → (up number : ℕ) → ℕ
slot_from [] zero n = 16
slot_from [] (suc up) n = 0
slot_from (r ∷ rs) up n = start_or (slice_get (r ∷ rs) up) n

-- ---- how far the second cell of a slot stands behind its first

abbrev pub behind_formal : Types → Formal → ℕ
behind_formal types f =
    if f.is_open then 4 else (if f.is_var then 0 else offset (tree types f.of) (1 ∷ []))

abbrev pub behind_variable : Types → Option TypeNo → ℕ
behind_variable types None = 0
behind_variable types (Some t) = offset (tree types t) (1 ∷ [])

abbrev pub behind_found : Types → Option Formal → Option TypeNo → ℕ
behind_found types None t = behind_variable types t
behind_found types (Some f) t = behind_formal types f

-- of a procedure with these formals and variables
abbrev pub behind_first : Types → List Formal → List TypeNo → ℕ → ℕ
behind_first types fs ts n =
    behind_found types (slice_get fs n) (slice_get ts (n - length fs))

abbrev pub second_of : Types → Routine → ℕ → ℕ
second_of types r n = behind_first types (formals_of types r.heading) r.variables n

abbrev pub second_in : Types → Option Routine → ℕ → ℕ
second_in types None n = 0
second_in types (Some r) n = second_of types r n

abbrev pub second_at : Types → List Routine → (up number : ℕ) → ℕ
second_at types rs up n = second_in types (slice_get rs up) n
