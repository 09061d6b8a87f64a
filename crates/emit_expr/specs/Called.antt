-- The parts of the code of calls and of arguments.
use Rattle.std.specs.Prelude.{ℕ, suc, ◌+◌, ◌-◌, pos, List, [], ◌∷◌, ◌++◌, length}
use Rattle.wasm_tree.specs.declared.instr.Instr.{Instr}
use Rattle.wasm_tree.specs.declared.instr.Instr.TheVariants.{Call, LocalGet, LocalSet, GlobalGet, I64Const}
use Rattle.wasm_tree.specs.declared.instr.Operation.TheVariants.{Add}
use Rattle.typed_tree.specs.declared.computed.LocalProcedure.{LocalProcedure}
use Rattle.typed_tree.specs.declared.computed.Slot.{Slot}
use Rattle.typed_tree.specs.declared.meaning.Procedure.{Procedure}
use Rattle.typed_tree.specs.declared.types.TypeNo.{TypeNo}
use Rattle.typed_tree.specs.declared.known_types.Types.{Types}
use Rattle.typed_tree.specs.declared.typed_module.TypedModule.{TypedModule}
use Rattle.layout_storage.specs.Texts.{argument_text}
use Rattle.def_meaning.specs.Answer.{empty_procedure}
use Rattle.def_scheme.specs.Coded.{Setting, number_local, raise_address, operation, wrap_word, extend_word, body_index, check_code}
use Rattle.def_scheme.specs.Exprs.{slots_global, slot_number, frame_code, open_address, high_code, high_index, text_code, indirect}
use Rattle.def_scheme.specs.Modules.{numbering_of}
use Rattle.emit_buffer.specs.Drafts.{Drafted, one, put, next_number, next_text}

abbrev pub slot_added : ℕ → List Instr
slot_added n = extend_word ∷ I64Const n ∷ operation Add ∷ []

abbrev pub own_call : Procedure → List Instr
own_call f = Call (suc body_index + f.number) ∷ []

abbrev pub other_call : TypedModule → Procedure → List Instr
other_call m f =
    GlobalGet (slots_global m f.home) ∷ (raise_address (slot_number f)
    ++ indirect (numbering_of m) m.types f.heading ∷ [])

abbrev pub link_passed : (up : ℕ) → List Instr
link_passed up = frame_code up ++ extend_word ∷ []

abbrev pub nested_called : TypedModule → LocalProcedure → List Instr
nested_called m f = Call (suc body_index + (length m.procedures + f.number)) ∷ []

-- the procedure that a variable holds is kept
abbrev pub kept_procedure : Setting → Drafted → Drafted
kept_procedure s d =
    let e = put (check_code (pos 1) (pos 4294967295) empty_procedure) d in
    one (LocalSet (number_local s e.counts.numbers)) (next_number e)

abbrev pub called_value : TypedModule → ℕ → TypeNo → List Instr
called_value m t heading = LocalGet t ∷ wrap_word ∷ indirect (numbering_of m) m.types heading ∷ []

abbrev pub array_behind : Types → TypeNo → List Instr
array_behind types t = extend_word ∷ I64Const (high_index types t) ∷ []

abbrev pub open_code : Setting → Slot → List Instr
open_code s slot = open_address s slot ++ (extend_word ∷ high_code s slot)

-- a string with its bytes
abbrev pub with_passed : List ℕ → Drafted → Drafted
with_passed text d =
    put
    (text_code d.counts.texts ++ (extend_word ∷ I64Const (length (argument_text text) - 1) ∷ []))
    (next_text (length (argument_text text)) d)
