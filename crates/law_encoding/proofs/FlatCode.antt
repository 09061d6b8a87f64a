-- The pieces of code that have no blocks.
use Rattle.std.proofs.Common.{◌≡◌, ℕ, zero, suc, ℤ, pos, Bool, List, [], ◌∷◌, Option, Some, None}
use Rattle.std.specs.Prelude.{if◌then◌else◌}
use Rattle.std.specs.List.{flat_map}
use Rattle.wasm_tree.specs.declared.instr.Instr.{Instr}
use Rattle.wasm_tree.specs.declared.instr.Instr.TheVariants.{LocalGet}
use Rattle.typed_tree.specs.declared.computed.Arithmetic.{Arithmetic}
use Rattle.typed_tree.specs.declared.computed.Arithmetic.TheVariants as op
use Rattle.typed_tree.specs.declared.computed.SetOperator.{SetOperator}
use Rattle.typed_tree.specs.declared.computed.SetOperator.TheVariants as set_op
use Rattle.typed_tree.specs.declared.computed.Slot.{Slot}
use Rattle.typed_tree.specs.declared.computed.LocalProcedure.{LocalProcedure}
use Rattle.typed_tree.specs.declared.known_types.Types.{Types}
use Rattle.typed_tree.specs.declared.meaning.Procedure.{Procedure}
use Rattle.typed_tree.specs.declared.meaning.Variable.{Variable}
use Rattle.typed_tree.specs.declared.shape.Scalar.{Scalar as Range}
use Rattle.typed_tree.specs.declared.statement.Change.{Change}
use Rattle.typed_tree.specs.declared.statement.Change.TheVariants as change
use Rattle.typed_tree.specs.declared.statement.Label.{Label}
use Rattle.typed_tree.specs.declared.statement.Membership.{Membership}
use Rattle.typed_tree.specs.declared.statement.Membership.TheVariants as member
use Rattle.typed_tree.specs.declared.typed_module.TypedModule.{TypedModule}
use Rattle.typed_tree.specs.declared.types.TypeNo.{TypeNo}
use Rattle.typed_tree.specs.Types.{are_same, integer, bitset}
use Rattle.typed_tree.specs.Known.{scalar_at}
use Rattle.layout_storage.specs.Types.{Ty, Scalar, Cell, Hidden, Array, Nothing, Field}
use Rattle.layout_storage.specs.Shapes.{tree}
use Rattle.def_scheme.specs.Coded.{Setting, raise_address, wrap_word, fault, check_code}
use Rattle.def_scheme.specs.Cells.{is_nought, lower, load_scalar, store_scalar, load_tree, store_tree, load_code, store_code, word, in_range, in_type, base_of, is_free, is_subrange, check_taken, check_changed}
use Rattle.def_scheme.specs.Exprs.{Numbered, is_own, outwards, frame_code, slot_code, kept_address, open_address, high_code, index_of, scale_index, from_lower, element_code, open_element_code, arithmetic_code, complement, set_code, empty_code, ord_check, procedure_code, global_code, with_code, text_code, indirect, module_call, link_code, nested_call}
use Rattle.def_scheme.specs.Steps.{Arm, label_code, tests_code, from_least, dispatch, change_operation, read_again, change_instructions, member_operation, with_member, text_copied}
use Rattle.law_encoding.specs.CodeNesting.{levels_in}
use Rattle.law_encoding.proofs.Levels.{stops, jumps, jumps_if, jumps_by, calls, calls_by, gets, globals, loads, stores, address, amount, computes, Flat, flat_end, ◌▹◌, flat_both, flat_either}

-- ---- pieces

pub flat_raised : (n : ℕ) → Flat (raise_address n)
flat_raised n = address n ▹ computes _ ▹ flat_end

pub flat_fault : (k : ℕ) → Flat (fault k)
flat_fault k = amount k ▹ calls _ ▹ stops ▹ flat_end

pub flat_checked : (low high : ℤ) (k : ℕ) → Flat (check_code low high k)
flat_checked low high k = amount _ ▹ amount _ ▹ amount k ▹ calls _ ▹ flat_end

-- ---- cells and checks

flat_unless : (b : Bool) {code : List Instr} → Flat code → Flat (if b then [] else code)
flat_unless b p = flat_either b flat_end p

pub flat_load : (c : Scalar) → Flat (load_scalar c)
flat_load c = loads _ ▹ flat_unless (is_nought (lower c)) (amount _ ▹ computes _ ▹ flat_end)

pub flat_store : (c : Scalar) → Flat (store_scalar c)
flat_store c = flat_both (flat_unless (is_nought (lower c)) (amount _ ▹ computes _ ▹ flat_end)) (stores _ ▹ flat_end)

flat_load_tree : (t : Ty) → Flat (load_tree t)
flat_load_tree (Cell c) = flat_load c
flat_load_tree (Hidden n) = flat_end
flat_load_tree (Array n t) = flat_end
flat_load_tree Nothing = flat_end
flat_load_tree (Field t others) = flat_end

flat_store_tree : (t : Ty) → Flat (store_tree t)
flat_store_tree (Cell c) = flat_store c
flat_store_tree (Hidden n) = flat_end
flat_store_tree (Array n t) = flat_end
flat_store_tree Nothing = flat_end
flat_store_tree (Field t others) = flat_end

pub flat_loaded : (types : Types) (t : TypeNo) → Flat (load_code types t)
flat_loaded types t = flat_load_tree (tree types t)

pub flat_stored : (types : Types) (t : TypeNo) → Flat (store_code types t)
flat_stored types t = flat_store_tree (tree types t)

pub flat_in_range : (o : Option Range) (k : ℕ) → Flat (in_range o k)
flat_in_range None k = flat_end
flat_in_range (Some s) k = flat_checked s.low s.high k

pub flat_in_type : (types : Types) (t : TypeNo) (k : ℕ) → Flat (in_type types t k)
flat_in_type types t k = flat_in_range (scalar_at types t) k

pub flat_taken : (types : Types) (t : TypeNo) (constant : Bool) (of : TypeNo) → Flat (check_taken types t constant of)
flat_taken types t constant of = flat_unless (is_free types t constant of) (flat_in_type types t 1)

pub flat_check_changed : (types : Types) (t : TypeNo) → Flat (check_changed types t)
flat_check_changed types t = flat_both (flat_in_type types (base_of types t) 2)
    (flat_either (is_subrange types t) (flat_in_type types t 1) flat_end)

-- ---- places

flat_outwards : (k : ℕ) → Flat (outwards k)
flat_outwards zero = flat_end
flat_outwards (suc k) = loads _ ▹ computes _ ▹ flat_outwards k

flat_frame : (up : ℕ) → Flat (frame_code up)
flat_frame up = gets 0 ▹ flat_outwards up

pub flat_slot : (s : Setting) (slot : Slot) (path : List ℕ) → Flat (slot_code s slot path)
flat_slot s slot path = flat_both (flat_frame slot.up) (flat_raised _)

pub flat_kept : (s : Setting) (slot : Slot) (path : List ℕ) → Flat (kept_address s slot path)
flat_kept s slot path = flat_both (flat_slot s slot path) (flat_both (flat_load word) (computes _ ▹ flat_end))

pub flat_open : (s : Setting) (slot : Slot) → Flat (open_address s slot)
flat_open s slot = flat_kept s slot (0 ∷ [])

pub flat_high : (s : Setting) (slot : Slot) → Flat (high_code s slot)
flat_high s slot = flat_both (flat_slot s slot (1 ∷ [])) (flat_load word)

flat_scaled : (bytes : ℕ) → Flat (scale_index bytes)
flat_scaled bytes = amount _ ▹ computes _ ▹ computes _ ▹ computes _ ▹ flat_end

flat_from_lower : (o : Option Range) → Flat (from_lower o)
flat_from_lower None = flat_end
flat_from_lower (Some s) = flat_unless (is_nought s.low) (amount _ ▹ computes _ ▹ flat_end)

pub flat_element : (types : Types) (t : TypeNo) → Flat (element_code types t)
flat_element types t = flat_both (flat_in_range (index_of types t) 3)
    (flat_both (flat_from_lower (index_of types t)) (flat_scaled _))

pub flat_open_element : (s : Setting) (slot : Slot) (t : TypeNo) → Flat (open_element_code s slot t)
flat_open_element s slot t = amount 0 ▹ flat_both (flat_high s slot) (amount 3 ▹ calls _ ▹ flat_scaled _)

pub flat_global : (m : TypedModule) (v : Variable) → Flat (global_code m v)
flat_global m v = globals _ ▹ flat_raised _

pub flat_with : (o : Option ℕ) → Flat (with_code o)
flat_with None = flat_end
flat_with (Some w) = gets w ▹ flat_end

-- ---- expressions and calls

pub flat_arithmetic : (types : Types) (o : Arithmetic) (t : TypeNo) → Flat (arithmetic_code types o t)
flat_arithmetic types op.Add t = computes _ ▹ flat_in_type types t 2
flat_arithmetic types op.Subtract t = computes _ ▹ flat_in_type types t 2
flat_arithmetic types op.Multiply t = computes _ ▹ flat_in_type types t 2
flat_arithmetic types op.Divide t = calls _ ▹ flat_end
flat_arithmetic types op.Remainder t = calls _ ▹ flat_end

pub flat_complement : Flat complement
flat_complement = amount _ ▹ computes _ ▹ flat_end

pub flat_set : (o : SetOperator) → Flat (set_code o)
flat_set set_op.Union = computes _ ▹ flat_end
flat_set set_op.Intersection = computes _ ▹ flat_end
flat_set set_op.SymmetricDifference = computes _ ▹ flat_end
flat_set set_op.Difference = flat_both flat_complement (computes _ ▹ flat_end)

pub flat_empty : Flat empty_code
flat_empty = computes _ ▹ computes _ ▹ flat_end

pub flat_ord : (types : Types) (t : TypeNo) → Flat (ord_check types t)
flat_ord types t = flat_either (are_same (base_of types t) integer) (flat_checked (pos 0) (pos 2147483647) 1) flat_end

pub flat_procedure : (m : TypedModule) (f : Procedure) → Flat (procedure_code m f)
flat_procedure m f = globals _ ▹ computes _ ▹ amount _ ▹ computes _ ▹ flat_end

pub flat_text : (at : ℕ) → Flat (text_code at)
flat_text at = globals _ ▹ flat_raised at

pub flat_link : (numbered : Numbered) (up : ℕ) → Flat (link_code numbered up)
flat_link numbered up = flat_both (flat_frame up) (computes _ ▹ flat_end)

pub flat_module_call : (numbered : Numbered) (m : TypedModule) (f : Procedure) → Flat (module_call numbered m f)
flat_module_call numbered m f = flat_either (is_own m f.home) (calls _ ▹ flat_end)
    (globals _ ▹ flat_both (flat_raised _) (calls_by _ ▹ flat_end))

pub flat_nested_call : (numbered : Numbered) (m : TypedModule) (f : LocalProcedure) → Flat (nested_call numbered m f)
flat_nested_call numbered m f = calls _ ▹ flat_end

pub flat_value_call : (numbered : Numbered) (types : Types) (t : ℕ) (heading : TypeNo)
    → Flat (LocalGet t ∷ wrap_word ∷ indirect numbered types heading ∷ [])
flat_value_call numbered types t heading = gets t ▹ computes _ ▹ calls_by _ ▹ flat_end

-- ---- statements

flat_label : (t : ℕ) (x : Label) → Flat (label_code t x)
flat_label t x = gets t ▹ amount _ ▹ computes _ ▹ amount _ ▹ computes _ ▹ jumps_if 0 ▹ flat_end

flat_labels : (t : ℕ) (labels : List Label) → Flat (flat_map (label_code t) labels)
flat_labels t [] = flat_end
flat_labels t (x ∷ labels) = flat_both (flat_label t x) (flat_labels t labels)

pub flat_tests : (t : ℕ) (labels : List Label) → Flat (tests_code t labels)
flat_tests t labels = flat_both (flat_labels t labels) (jumps 1 ▹ flat_end)

flat_from_least : (t : ℕ) (low : ℤ) → Flat (from_least t low)
flat_from_least t low = gets t ▹ amount _ ▹ computes _ ▹ flat_end

pub flat_dispatch : (t : ℕ) (arms : List Arm) (low : ℤ) (span : ℕ) → Flat (dispatch t arms low span)
flat_dispatch t arms low span = flat_both (flat_from_least t low)
    (amount _ ▹ computes _ ▹ jumps_if _ ▹ flat_both (flat_from_least t low) (computes _ ▹ jumps_by _ _ ▹ flat_end))

flat_read_again : (w : ℕ) (types : Types) (t : TypeNo) → Flat (read_again w types t)
flat_read_again w types t = gets w ▹ gets w ▹ flat_loaded types t

one_operation : (o : Change) → levels_in (change_operation o) ≡ 0
one_operation change.Increase = computes _
one_operation change.Decrease = computes _

pub flat_changed : (o : Change) (w n : ℕ) (types : Types) (t : TypeNo) → Flat (change_instructions o w n types t)
flat_changed o w n types t = flat_both (flat_read_again w types t)
    (gets n ▹ one_operation o ▹ flat_both (flat_check_changed types t) (flat_stored types t))

flat_member : (o : Membership) → Flat (member_operation o)
flat_member member.Include = computes _ ▹ flat_end
flat_member member.Exclude = flat_both flat_complement (computes _ ▹ flat_end)

pub flat_with_member : (o : Membership) (w n : ℕ) (types : Types) → Flat (with_member o w n types)
flat_with_member o w n types = flat_both (flat_read_again w types bitset)
    (amount 1 ▹ gets n ▹ computes _ ▹ flat_both (flat_member o) (flat_stored types bitset))

pub flat_copied : (at bytes rest w : ℕ) → Flat (text_copied at bytes rest w)
flat_copied at bytes rest w = flat_both (flat_text at)
    (address _ ▹ calls _ ▹ gets w ▹ flat_both (flat_raised bytes) (address _ ▹ calls _ ▹ flat_end))
