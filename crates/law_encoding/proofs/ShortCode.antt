-- How many bytes the pieces of code take that have no blocks.
use Rattle.std.proofs.Common.{◌≡◌, ℕ, zero, suc, ◌+◌, ◌*◌, ◌≤◌, ℤ, pos, Bool, List, [], ◌∷◌, Option, Some, None, length, arith}
use Rattle.std.specs.Prelude.{◌+ℤ◌}
use Rattle.std.specs.List.{flat_map}
use Rattle.std.proofs.lemmas.List.FromFn.{length-map-range_with_len}
use Rattle.wasm_tree.specs.declared.instr.Instr.TheVariants.{LocalGet}
use Rattle.typed_tree.specs.declared.computed.Arithmetic.{Arithmetic}
use Rattle.typed_tree.specs.declared.computed.Arithmetic.TheVariants as op
use Rattle.typed_tree.specs.declared.computed.SetOperator.{SetOperator}
use Rattle.typed_tree.specs.declared.computed.SetOperator.TheVariants as set_op
use Rattle.typed_tree.specs.declared.computed.Slot.{Slot}
use Rattle.typed_tree.specs.declared.computed.LocalProcedure.{LocalProcedure}
use Rattle.typed_tree.specs.declared.known_types.Types.{Types}
use Rattle.typed_tree.specs.declared.meaning.Procedure.{Procedure}
use Rattle.typed_tree.specs.declared.meaning.Variable.{Variable}
use Rattle.typed_tree.specs.declared.shape.Scalar.{Scalar as Range}
use Rattle.typed_tree.specs.declared.statement.Change.{Change}
use Rattle.typed_tree.specs.declared.statement.Change.TheVariants as change
use Rattle.typed_tree.specs.declared.statement.Label.{Label}
use Rattle.typed_tree.specs.declared.statement.Membership.{Membership}
use Rattle.typed_tree.specs.declared.statement.Membership.TheVariants as member
use Rattle.typed_tree.specs.declared.typed_module.TypedModule.{TypedModule}
use Rattle.typed_tree.specs.declared.types.TypeNo.{TypeNo}
use Rattle.typed_tree.specs.Types.{are_same, integer, bitset}
use Rattle.typed_tree.specs.Known.{scalar_at}
use Rattle.layout_storage.specs.Types.{Ty, Scalar, Cell, Hidden, Array, Nothing, Field}
use Rattle.layout_storage.specs.Shapes.{tree}
use Rattle.def_scheme.specs.Coded.{Setting, raise_address, wrap_word, fault, check_code}
use Rattle.def_scheme.specs.Cells.{is_nought, lower, load_scalar, store_scalar, load_tree, store_tree, load_code, store_code, word, in_range, in_type, base_of, is_free, is_subrange, check_taken, check_changed}
use Rattle.def_scheme.specs.Exprs.{Numbered, is_own, outwards, frame_code, slot_code, kept_address, open_address, high_code, index_of, scale_index, from_lower, element_code, open_element_code, arithmetic_code, complement, set_code, empty_code, ord_check, procedure_code, global_code, with_code, text_code, indirect, module_call, link_code, nested_call}
use Rattle.def_scheme.specs.Steps.{Arm, label_code, tests_code, from_least, dispatch, targets, target, change_operation, read_again, change_instructions, member_operation, with_member, text_copied}
use Rattle.def_grammar.specs.Refusal.{max_nesting}
use Rattle.law_encoding.specs.CodeBytes.{bytes_in, bytes}
use Rattle.law_encoding.proofs.CodeLengths.{stops, jumps, jumps_if, jumps_by, calls, calls_by, gets, globals, loads, stores, address, amount, computes, Short, short_end, short_none, ◌▹◌, short_both, short_more, short_either, short_unless}

-- ---- pieces

pub short_raised : (n : ℕ) → Short 7 (raise_address n)
short_raised n = address n ▹ computes _ ▹ short_end

pub short_fault : (k : ℕ) → Short 18 (fault k)
short_fault k = amount k ▹ calls _ ▹ stops ▹ short_end

pub short_checked : (low high : ℤ) (k : ℕ) → Short 39 (check_code low high k)
short_checked low high k = amount _ ▹ amount _ ▹ amount k ▹ calls _ ▹ short_end

-- ---- cells and checks

pub short_load : (c : Scalar) → Short 15 (load_scalar c)
short_load c = loads _ ▹ short_unless (is_nought (lower c)) (amount _ ▹ computes _ ▹ short_end)

pub short_store : (c : Scalar) → Short 15 (store_scalar c)
short_store c = short_both (short_unless (is_nought (lower c)) (amount _ ▹ computes _ ▹ short_end))
    (stores _ ▹ short_end)

short_load_tree : (t : Ty) → Short 15 (load_tree t)
short_load_tree (Cell c) = short_load c
short_load_tree (Hidden n) = short_none 15
short_load_tree (Array n t) = short_none 15
short_load_tree Nothing = short_none 15
short_load_tree (Field t others) = short_none 15

short_store_tree : (t : Ty) → Short 15 (store_tree t)
short_store_tree (Cell c) = short_store c
short_store_tree (Hidden n) = short_none 15
short_store_tree (Array n t) = short_none 15
short_store_tree Nothing = short_none 15
short_store_tree (Field t others) = short_none 15

pub short_loaded : (types : Types) (t : TypeNo) → Short 15 (load_code types t)
short_loaded types t = short_load_tree (tree types t)

pub short_stored : (types : Types) (t : TypeNo) → Short 15 (store_code types t)
short_stored types t = short_store_tree (tree types t)

pub short_in_range : (o : Option Range) (k : ℕ) → Short 39 (in_range o k)
short_in_range None k = short_none 39
short_in_range (Some s) k = short_checked s.low s.high k

pub short_in_type : (types : Types) (t : TypeNo) (k : ℕ) → Short 39 (in_type types t k)
short_in_type types t k = short_in_range (scalar_at types t) k

pub short_taken : (types : Types) (t : TypeNo) (constant : Bool) (of : TypeNo)
    → Short 39 (check_taken types t constant of)
short_taken types t constant of = short_unless (is_free types t constant of) (short_in_type types t 1)

pub short_check_changed : (types : Types) (t : TypeNo) → Short 78 (check_changed types t)
short_check_changed types t = short_both (short_in_type types (base_of types t) 2)
    (short_either (is_subrange types t) (short_in_type types t 1) (short_none 39))

-- ---- places

-- each step outwards takes four bytes
one_more : (k : ℕ) → 3 + (1 + 4 * k) ≤ 4 * suc k
one_more k = omega arith

short_outwards : (k : ℕ) → Short (4 * k) (outwards k)
short_outwards zero = short_none _
short_outwards (suc k) = short_more (one_more k) (loads _ ▹ computes _ ▹ short_outwards k)

-- of at most 200
abbrev pub IsNear : ℕ → Type 0
IsNear up = up ≤ max_nesting

most_outwards : (k : ℕ) → IsNear k → 4 * k ≤ 800
most_outwards k h = omega (arith, h)

short_frame : (up : ℕ) → IsNear up → Short 806 (frame_code up)
short_frame up h = gets 0 ▹ short_more (most_outwards up h) (short_outwards up)

pub short_slot : (s : Setting) (slot : Slot) (path : List ℕ) → IsNear slot.up → Short 813 (slot_code s slot path)
short_slot s slot path h = short_both (short_frame slot.up h) (short_raised _)

pub short_kept : (s : Setting) (slot : Slot) (path : List ℕ) → IsNear slot.up → Short 829 (kept_address s slot path)
short_kept s slot path h = short_both (short_slot s slot path h) (short_both (short_load word) (computes _ ▹ short_end))

pub short_open : (s : Setting) (slot : Slot) → IsNear slot.up → Short 829 (open_address s slot)
short_open s slot h = short_kept s slot (0 ∷ []) h

pub short_high : (s : Setting) (slot : Slot) → IsNear slot.up → Short 828 (high_code s slot)
short_high s slot h = short_both (short_slot s slot (1 ∷ []) h) (short_load word)

short_scaled : (bytes : ℕ) → Short 14 (scale_index bytes)
short_scaled bytes = amount _ ▹ computes _ ▹ computes _ ▹ computes _ ▹ short_end

short_from_lower : (o : Option Range) → Short 12 (from_lower o)
short_from_lower None = short_none 12
short_from_lower (Some s) = short_unless (is_nought s.low) (amount _ ▹ computes _ ▹ short_end)

pub short_element : (types : Types) (t : TypeNo) → Short 65 (element_code types t)
short_element types t = short_both (short_in_range (index_of types t) 3)
    (short_both (short_from_lower (index_of types t)) (short_scaled _))

pub short_open_element : (s : Setting) (slot : Slot) (t : TypeNo) → IsNear slot.up
    → Short 870 (open_element_code s slot t)
short_open_element s slot t h = amount 0 ▹ short_both (short_high s slot h) (amount 3 ▹ calls _ ▹ short_scaled _)

pub short_global : (m : TypedModule) (v : Variable) → Short 13 (global_code m v)
short_global m v = globals _ ▹ short_raised _

pub short_with : (o : Option ℕ) → Short 6 (with_code o)
short_with None = short_none 6
short_with (Some w) = gets w ▹ short_end

-- ---- expressions and calls

pub short_arithmetic : (types : Types) (o : Arithmetic) (t : TypeNo) → Short 40 (arithmetic_code types o t)
short_arithmetic types op.Add t = computes _ ▹ short_in_type types t 2
short_arithmetic types op.Subtract t = computes _ ▹ short_in_type types t 2
short_arithmetic types op.Multiply t = computes _ ▹ short_in_type types t 2
short_arithmetic types op.Divide t = calls _ ▹ short_none 34
short_arithmetic types op.Remainder t = calls _ ▹ short_none 34

pub short_complement : Short 12 complement
short_complement = amount _ ▹ computes _ ▹ short_end

pub short_set : (o : SetOperator) → Short 13 (set_code o)
short_set set_op.Union = computes _ ▹ short_none 12
short_set set_op.Intersection = computes _ ▹ short_none 12
short_set set_op.SymmetricDifference = computes _ ▹ short_none 12
short_set set_op.Difference = short_both short_complement (computes _ ▹ short_end)

pub short_empty : Short 2 empty_code
short_empty = computes _ ▹ computes _ ▹ short_end

pub short_ord : (types : Types) (t : TypeNo) → Short 39 (ord_check types t)
short_ord types t = short_either (are_same (base_of types t) integer) (short_checked (pos 0) (pos 2147483647) 1)
    (short_none 39)

pub short_procedure : (m : TypedModule) (f : Procedure) → Short 19 (procedure_code m f)
short_procedure m f = globals _ ▹ computes _ ▹ amount _ ▹ computes _ ▹ short_end

pub short_text : (at : ℕ) → Short 13 (text_code at)
short_text at = globals _ ▹ short_raised at

pub short_link : (numbered : Numbered) (up : ℕ) → IsNear up → Short 807 (link_code numbered up)
short_link numbered up h = short_both (short_frame up h) (computes _ ▹ short_end)

pub short_module_call : (numbered : Numbered) (m : TypedModule) (f : Procedure) → Short 20 (module_call numbered m f)
short_module_call numbered m f = short_either (is_own m f.home) (calls _ ▹ short_none 14)
    (globals _ ▹ short_both (short_raised _) (calls_by _ ▹ short_end))

pub short_nested_call : (numbered : Numbered) (m : TypedModule) (f : LocalProcedure)
    → Short 6 (nested_call numbered m f)
short_nested_call numbered m f = calls _ ▹ short_end

pub short_value_call : (numbered : Numbered) (types : Types) (t : ℕ) (heading : TypeNo)
    → Short 14 (LocalGet t ∷ wrap_word ∷ indirect numbered types heading ∷ [])
short_value_call numbered types t heading = gets t ▹ computes _ ▹ calls_by _ ▹ short_end

-- ---- statements

short_label : (t : ℕ) (x : Label) → Short 36 (label_code t x)
short_label t x = gets t ▹ amount _ ▹ computes _ ▹ amount _ ▹ computes _ ▹ jumps_if 0 ▹ short_end

one_label : (n : ℕ) → 36 + 36 * n ≤ 36 * suc n
one_label n = omega arith

short_labels : (t : ℕ) (labels : List Label) → Short (36 * length labels) (flat_map (label_code t) labels)
short_labels t [] = short_none _
short_labels t (x ∷ labels) = short_more (one_label (length labels))
    (short_both (short_label t x) (short_labels t labels))

pub short_tests : (t : ℕ) (labels : List Label) → Short (36 * length labels + 6) (tests_code t labels)
short_tests t labels = short_both (short_labels t labels) (jumps 1 ▹ short_end)

short_from_least : (t : ℕ) (low : ℤ) → Short 18 (from_least t low)
short_from_least t low = gets t ▹ amount _ ▹ computes _ ▹ short_end

-- the table has at most 1024 labels
all_targets : (arms : List Arm) (low : ℤ) (span : ℕ) → length (targets arms low span) ≡ span
all_targets arms low span = length-map-range_with_len (λ k. target arms (low +ℤ pos k)) 0 span

table_bytes : (n span : ℕ) → n ≡ span → span ≤ 1024 → 18 + (11 + (1 + (6 + (18 + (1 + (11 + 5 * n + 0)))))) ≤ 5186
table_bytes n span e h = omega (arith, e, h)

pub short_dispatch : (t : ℕ) (arms : List Arm) (low : ℤ) (span : ℕ) → span ≤ 1024
    → Short 5186 (dispatch t arms low span)
short_dispatch t arms low span h =
    short_more (table_bytes (length (targets arms low span)) span (all_targets arms low span) h)
    (short_both (short_from_least t low) (amount _ ▹ computes _ ▹ jumps_if _ ▹ short_both (short_from_least t low)
    (computes _ ▹ jumps_by _ _ ▹ short_end)))

short_read_again : (w : ℕ) (types : Types) (t : TypeNo) → Short 27 (read_again w types t)
short_read_again w types t = gets w ▹ gets w ▹ short_loaded types t

one_operation : (o : Change) → bytes_in (change_operation o) ≡ 1
one_operation change.Increase = computes _
one_operation change.Decrease = computes _

pub short_changed : (o : Change) (w n : ℕ) (types : Types) (t : TypeNo) → Short 127 (change_instructions o w n types t)
short_changed o w n types t = short_both (short_read_again w types t)
    (gets n ▹ one_operation o ▹ short_both (short_check_changed types t) (short_stored types t))

short_member : (o : Membership) → Short 13 (member_operation o)
short_member member.Include = computes _ ▹ short_none 12
short_member member.Exclude = short_both short_complement (computes _ ▹ short_end)

pub short_with_member : (o : Membership) (w n : ℕ) (types : Types) → Short 73 (with_member o w n types)
short_with_member o w n types = short_both (short_read_again w types bitset)
    (amount 1 ▹ gets n ▹ computes _ ▹ short_both (short_member o) (short_stored types bitset))

pub short_copied : (at bytes rest w : ℕ) → Short 50 (text_copied at bytes rest w)
short_copied at bytes rest w = short_both (short_text at)
    (address _ ▹ calls _ ▹ gets w ▹ short_both (short_raised bytes) (address _ ▹ calls _ ▹ short_end))
