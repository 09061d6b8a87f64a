-- The pieces of code whose constants fit.
use Rattle.std.proofs.Common.{◌≡◌, ℕ, zero, suc, ◌≤◌, ◌<◌, ◌^◌, Bool, true, List, [], ◌∷◌, Option, Some, None, refl, arith}
use Rattle.std.specs.Prelude.{if◌then◌else◌, ◌-◌, ℤ, pos, negsuc, ◌-ℤ◌, ◌≤ℤ◌}
use Rattle.std.specs.List.{flat_map}
use Rattle.std.proofs.lemmas.Int.{ints}
use Rattle.wasm_tree.specs.declared.instr.Instr.{Instr}
use Rattle.wasm_tree.specs.declared.instr.Instr.TheVariants.{LocalGet}
use Rattle.typed_tree.specs.declared.computed.Arithmetic.{Arithmetic}
use Rattle.typed_tree.specs.declared.computed.Arithmetic.TheVariants as op
use Rattle.typed_tree.specs.declared.computed.SetOperator.{SetOperator}
use Rattle.typed_tree.specs.declared.computed.SetOperator.TheVariants as set_op
use Rattle.typed_tree.specs.declared.computed.Slot.{Slot}
use Rattle.typed_tree.specs.declared.computed.LocalProcedure.{LocalProcedure}
use Rattle.typed_tree.specs.declared.known_types.Types.{Types}
use Rattle.typed_tree.specs.declared.meaning.Procedure.{Procedure}
use Rattle.typed_tree.specs.declared.meaning.Variable.{Variable}
use Rattle.typed_tree.specs.declared.shape.Made.{Made}
use Rattle.typed_tree.specs.declared.shape.Scalar.{Scalar as Range}
use Rattle.typed_tree.specs.declared.shape.Shape.{Shape}
use Rattle.typed_tree.specs.declared.shape.Shape.TheVariants as shape
use Rattle.typed_tree.specs.declared.statement.Change.{Change}
use Rattle.typed_tree.specs.declared.statement.Change.TheVariants as change
use Rattle.typed_tree.specs.declared.statement.Label.{Label}
use Rattle.typed_tree.specs.declared.statement.Membership.{Membership}
use Rattle.typed_tree.specs.declared.statement.Membership.TheVariants as member
use Rattle.typed_tree.specs.declared.typed_module.TypedModule.{TypedModule}
use Rattle.typed_tree.specs.declared.types.TypeNo.{TypeNo}
use Rattle.typed_tree.specs.Types.{are_same, integer, bitset}
use Rattle.typed_tree.specs.Known.{scalar_at, made_at}
use Rattle.layout_storage.specs.Types.{Ty, Scalar, Natural, Integer, Between, Callable, Cell, Hidden, Array, Nothing, Field, IsScalar}
use Rattle.layout_storage.specs.Shapes.{tree}
use Rattle.layout_storage.specs.Sizes.{size, offset}
use Rattle.def_meaning.specs.Answer.{index_fault, overflow, range_fault}
use Rattle.def_scheme.specs.Coded.{Setting, raise_address, wrap_word, fault, check_code}
use Rattle.def_scheme.specs.Cells.{is_nought, lower, load_scalar, store_scalar, load_tree, store_tree, load_code, store_code, word, in_range, in_type, base_of, is_free, is_subrange, check_taken, check_changed}
use Rattle.def_scheme.specs.Exprs.{Numbered, is_own, variables_row, outwards, frame_code, slot_path, slot_code, kept_address, open_address, high_code, index_shape, index_made, index_of, element_tree, scale_index, from_lower, element_code, open_element_code, arithmetic_code, complement, set_code, empty_code, ord_check, procedure_code, global_code, with_code, text_code, indirect, module_call, link_code, nested_call}
use Rattle.def_scheme.specs.Steps.{Arm, label_code, tests_code, from_least, dispatch, change_operation, read_again, change_instructions, member_operation, with_member, text_copied}
use Rattle.law_simulation.specs.Scene.{AreSmall, IsSmall, IsLabel, AreLabels}
use Rattle.law_encoding.specs.Fits.{max_bytes, few_entries}
use Rattle.law_encoding.specs.ValidNumbers.{constants_fit}
use Rattle.law_encoding.specs.SmallParts.{AreCells}
use Rattle.law_encoding.proofs.Constants.{stops, jumps, jumps_if, jumps_by, calls, calls_by, gets, globals, loads, stores, address, amount, IsLow, signed, computes, Const, const_end, ◌▹◌, const_both, const_either}

-- ---- what is known of types

small_number : (n : ℕ) → n < 16 → n < 2 ^ 64
small_number n h = omega (arith, h)

index_shaped : (types : Types) → AreSmall types → (s : Shape) (r : Range) → index_shape types s ≡ Some r → IsSmall r
index_shaped types small (shape.Array i e) r q = small i r q
index_shaped types small (shape.Scalar s) r q = absurd cc
index_shaped types small shape.Set r q = absurd cc
index_shaped types small (shape.Record fs) r q = absurd cc
index_shaped types small (shape.Procedure p) r q = absurd cc
index_shaped types small (shape.Open e) r q = absurd cc

index_made_small : (types : Types) → AreSmall types → (o : Option Made) (r : Range) → index_made types o ≡ Some r
    → IsSmall r
index_made_small types small None r q = absurd cc
index_made_small types small (Some m) r q = index_shaped types small m.shape r q

pub index_small : (types : Types) → AreSmall types → (t : TypeNo) (r : Range) → index_of types t ≡ Some r → IsSmall r
index_small types small t r q = index_made_small types small (made_at types t) r q

-- ---- pieces

pub const_raised : (n : ℕ) → n < max_bytes → Const (raise_address n)
const_raised n h = address n h ▹ computes _ ▹ const_end

pub const_fault : (k : ℕ) → k < 16 → Const (fault k)
const_fault k h = amount k (small_number k h) ▹ calls _ ▹ stops ▹ const_end

pub const_checked : (low high : ℤ) (k : ℕ) → IsLow low → IsLow high → k < 16 → Const (check_code low high k)
const_checked low high k l h j = signed low l ▹ signed high h ▹ amount k (small_number k j) ▹ calls _ ▹ const_end

-- ---- cells and checks

const_unless : (b : Bool) {code : List Instr} → Const code → Const (if b then [] else code)
const_unless b p = const_either b const_end p

pub const_load : (c : Scalar) → IsLow (lower c) → Const (load_scalar c)
const_load c h = loads _ ▹ const_unless (is_nought (lower c)) (signed (lower c) h ▹ computes _ ▹ const_end)

pub const_store : (c : Scalar) → IsLow (lower c) → Const (store_scalar c)
const_store c h = const_both (const_unless (is_nought (lower c)) (signed (lower c) h ▹ computes _ ▹ const_end))
    (stores _ ▹ const_end)

nought_low : IsLow (pos 0)
nought_low = omega (arith, ints)

low_between : (a b : ℤ) → a ≤ℤ b → b ≤ℤ pos 4294967295 → IsLow a
low_between a b h l = omega (arith, ints, h, l)

pub narrow_low : (a : ℤ) → a ≤ℤ pos 4294967295 → IsLow a
narrow_low a h = omega (arith, ints, h)

pub scalar_low : (c : Scalar) → IsScalar c → IsLow (lower c)
scalar_low (Natural g) p = nought_low
scalar_low Integer p = nought_low
scalar_low (Between l g) p = low_between l g p.some p.high
scalar_low (Callable h) p = nought_low

const_load_tree : (t : Ty) → ((c : Scalar) → t ≡ Cell c → IsScalar c) → Const (load_tree t)
const_load_tree (Cell c) h = const_load c (scalar_low c (h c refl))
const_load_tree (Hidden n) h = const_end
const_load_tree (Array n t) h = const_end
const_load_tree Nothing h = const_end
const_load_tree (Field t others) h = const_end

const_store_tree : (t : Ty) → ((c : Scalar) → t ≡ Cell c → IsScalar c) → Const (store_tree t)
const_store_tree (Cell c) h = const_store c (scalar_low c (h c refl))
const_store_tree (Hidden n) h = const_end
const_store_tree (Array n t) h = const_end
const_store_tree Nothing h = const_end
const_store_tree (Field t others) h = const_end

pub const_loaded : (types : Types) (t : TypeNo) → AreCells types → Const (load_code types t)
const_loaded types t cells = const_load_tree (tree types t) (cells t)

pub const_stored : (types : Types) (t : TypeNo) → AreCells types → Const (store_code types t)
const_stored types t cells = const_store_tree (tree types t) (cells t)

pub const_in_range : (o : Option Range) (k : ℕ) → ((r : Range) → o ≡ Some r → IsSmall r) → k < 16 → Const (in_range o k)
const_in_range None k h j = const_end
const_in_range (Some s) k h j = let p = h s refl in
    const_checked s.low s.high k (low_between s.low s.high p.some p.high) (narrow_low s.high p.high) j

pub const_in_type : (types : Types) (t : TypeNo) (k : ℕ) → AreSmall types → k < 16 → Const (in_type types t k)
const_in_type types t k small j = const_in_range (scalar_at types t) k (small t) j

pub const_taken : (types : Types) (t : TypeNo) (constant : Bool) (of : TypeNo) → AreSmall types
    → Const (check_taken types t constant of)
const_taken types t constant of small = const_unless (is_free types t constant of)
    (const_in_type types t range_fault small (omega arith))

pub const_check_changed : (types : Types) (t : TypeNo) → AreSmall types → Const (check_changed types t)
const_check_changed types t small =
    const_both (const_in_type types (base_of types t) overflow small (omega arith))
    (const_either (is_subrange types t) (const_in_type types t range_fault small (omega arith)) const_end)

-- addresses, HIGH and links
pub const_word : Const (store_scalar word)
const_word = const_store word nought_low

-- ---- places

const_outwards : (k : ℕ) → Const (outwards k)
const_outwards zero = const_end
const_outwards (suc k) = loads _ ▹ computes _ ▹ const_outwards k

const_frame : (up : ℕ) → Const (frame_code up)
const_frame up = gets 0 ▹ const_outwards up

pub const_slot : (s : Setting) (slot : Slot) (path : List ℕ) → slot_path s slot path < max_bytes
    → Const (slot_code s slot path)
const_slot s slot path h = const_both (const_frame slot.up) (const_raised _ h)

pub const_kept : (s : Setting) (slot : Slot) (path : List ℕ) → slot_path s slot path < max_bytes
    → Const (kept_address s slot path)
const_kept s slot path h = const_both (const_slot s slot path h)
    (const_both (const_load word nought_low) (computes _ ▹ const_end))

pub const_open : (s : Setting) (slot : Slot) → slot_path s slot (0 ∷ []) < max_bytes → Const (open_address s slot)
const_open s slot h = const_kept s slot (0 ∷ []) h

pub const_high : (s : Setting) (slot : Slot) → slot_path s slot (1 ∷ []) < max_bytes → Const (high_code s slot)
const_high s slot h = const_both (const_slot s slot (1 ∷ []) h) (const_load word nought_low)

few_amount : (n : ℕ) → n ≤ few_entries → n < 2 ^ 64
few_amount n h = omega (arith, h)

const_scaled : (bytes : ℕ) → bytes ≤ few_entries → Const (scale_index bytes)
const_scaled bytes h = amount _ (few_amount bytes h) ▹ computes _ ▹ computes _ ▹ computes _ ▹ const_end

const_from_lower : (o : Option Range) → ((r : Range) → o ≡ Some r → IsSmall r) → Const (from_lower o)
const_from_lower None h = const_end
const_from_lower (Some s) h = let p = h s refl in
    const_unless (is_nought s.low) (signed s.low (low_between s.low s.high p.some p.high) ▹ computes _ ▹ const_end)

pub const_element : (types : Types) (t : TypeNo) → AreSmall types → size (element_tree (tree types t)) ≤ few_entries
    → Const (element_code types t)
const_element types t small h =
    const_both (const_in_range (index_of types t) index_fault (index_small types small t) (omega arith))
    (const_both (const_from_lower (index_of types t) (index_small types small t)) (const_scaled _ h))

pub const_open_element : (s : Setting) (slot : Slot) (t : TypeNo) → slot_path s slot (1 ∷ []) < max_bytes
    → size (tree s.home.types t) ≤ few_entries → Const (open_element_code s slot t)
const_open_element s slot t h l = amount 0 (omega arith) ▹ const_both (const_high s slot h)
    (amount 3 (omega arith) ▹ calls _ ▹ const_scaled _ l)

pub const_global : (m : TypedModule) (v : Variable) → offset (variables_row m v.home) (v.number ∷ []) < max_bytes
    → Const (global_code m v)
const_global m v h = globals _ ▹ const_raised _ h

pub const_with : (o : Option ℕ) → Const (with_code o)
const_with None = const_end
const_with (Some w) = gets w ▹ const_end

-- ---- expressions and calls

pub const_arithmetic : (types : Types) (o : Arithmetic) (t : TypeNo) → AreSmall types
    → Const (arithmetic_code types o t)
const_arithmetic types op.Add t small = computes _ ▹ const_in_type types t overflow small (omega arith)
const_arithmetic types op.Subtract t small = computes _ ▹ const_in_type types t overflow small (omega arith)
const_arithmetic types op.Multiply t small = computes _ ▹ const_in_type types t overflow small (omega arith)
const_arithmetic types op.Divide t small = calls _ ▹ const_end
const_arithmetic types op.Remainder t small = calls _ ▹ const_end

pub const_complement : Const complement
const_complement = amount _ (omega arith) ▹ computes _ ▹ const_end

pub const_set : (o : SetOperator) → Const (set_code o)
const_set set_op.Union = computes _ ▹ const_end
const_set set_op.Intersection = computes _ ▹ const_end
const_set set_op.SymmetricDifference = computes _ ▹ const_end
const_set set_op.Difference = const_both const_complement (computes _ ▹ const_end)

pub const_empty : Const empty_code
const_empty = computes _ ▹ computes _ ▹ const_end

pub const_ord : (types : Types) (t : TypeNo) → Const (ord_check types t)
const_ord types t = const_either (are_same (base_of types t) integer)
    (const_checked (pos 0) (pos 2147483647) range_fault nought_low (omega (arith, ints)) (omega arith)) const_end

few_next : (n : ℕ) → n ≤ few_entries → suc n < 2 ^ 64
few_next n h = omega (arith, h)

few_slot : (n : ℕ) → n ≤ few_entries → suc n < max_bytes
few_slot n h = omega (arith, h)

pub const_procedure : (m : TypedModule) (f : Procedure) → f.number ≤ few_entries → Const (procedure_code m f)
const_procedure m f h = globals _ ▹ computes _ ▹ amount _ (few_next f.number h) ▹ computes _ ▹ const_end

pub const_text : (at : ℕ) → at < max_bytes → Const (text_code at)
const_text at h = globals _ ▹ const_raised at h

pub const_link : (numbered : Numbered) (up : ℕ) → Const (link_code numbered up)
const_link numbered up = const_both (const_frame up) (computes _ ▹ const_end)

pub const_module_call : (numbered : Numbered) (m : TypedModule) (f : Procedure) → f.number ≤ few_entries
    → Const (module_call numbered m f)
const_module_call numbered m f h = const_either (is_own m f.home) (calls _ ▹ const_end)
    (globals _ ▹ const_both (const_raised _ (few_slot f.number h)) (calls_by _ ▹ const_end))

pub const_nested_call : (numbered : Numbered) (m : TypedModule) (f : LocalProcedure) → Const (nested_call numbered m f)
const_nested_call numbered m f = calls _ ▹ const_end

pub const_value_call : (numbered : Numbered) (types : Types) (t : ℕ) (heading : TypeNo)
    → Const (LocalGet t ∷ wrap_word ∷ indirect numbered types heading ∷ [])
const_value_call numbered types t heading = gets t ▹ computes _ ▹ calls_by _ ▹ const_end

-- ---- statements

span_low : (a b : ℤ) → a ≤ℤ pos 4294967295 → negsuc 2147483647 ≤ℤ b → IsLow (a -ℤ b)
span_low a b h l = omega (arith, ints, h, l)

const_label : (t : ℕ) (x : Label) → IsLabel x → Const (label_code t x)
const_label t x p = gets t ▹ signed x.low (low_between x.low x.high p.order p.high) ▹ computes _ ▹ signed _
    (span_low x.high x.low p.high p.low) ▹ computes _ ▹ jumps_if 0 ▹ const_end

const_labels : (t : ℕ) (labels : List Label) → AreLabels labels → Const (flat_map (label_code t) labels)
const_labels t [] p = const_end
const_labels t (x ∷ labels) p = const_both (const_label t x p.0) (const_labels t labels p.1)

pub const_tests : (t : ℕ) (labels : List Label) → AreLabels labels → Const (tests_code t labels)
const_tests t labels p = const_both (const_labels t labels p) (jumps 1 ▹ const_end)

const_from_least : (t : ℕ) (low : ℤ) → IsLow low → Const (from_least t low)
const_from_least t low h = gets t ▹ signed low h ▹ computes _ ▹ const_end

few_values : (n : ℕ) → n ≤ 1024 → n - 1 < 2 ^ 64
few_values n h = omega (arith, h)

pub const_dispatch : (t : ℕ) (arms : List Arm) (low : ℤ) (span : ℕ) → IsLow low → span ≤ 1024
    → Const (dispatch t arms low span)
const_dispatch t arms low span h l =
    const_both (const_from_least t low h) (amount _ (few_values span l) ▹ computes _ ▹ jumps_if _ ▹ const_both
    (const_from_least t low h) (computes _ ▹ jumps_by _ _ ▹ const_end))

const_read_again : (w : ℕ) (types : Types) (t : TypeNo) → AreCells types → Const (read_again w types t)
const_read_again w types t cells = gets w ▹ gets w ▹ const_loaded types t cells

one_operation : (o : Change) → constants_fit (change_operation o) ≡ true
one_operation change.Increase = computes _
one_operation change.Decrease = computes _

pub const_changed : (o : Change) (w n : ℕ) (types : Types) (t : TypeNo) → AreCells types → AreSmall types
    → Const (change_instructions o w n types t)
const_changed o w n types t cells small =
    const_both (const_read_again w types t cells)
    (gets n ▹ one_operation o ▹ const_both (const_check_changed types t small) (const_stored types t cells))

const_member : (o : Membership) → Const (member_operation o)
const_member member.Include = computes _ ▹ const_end
const_member member.Exclude = const_both const_complement (computes _ ▹ const_end)

pub const_with_member : (o : Membership) (w n : ℕ) (types : Types) → AreCells types → Const (with_member o w n types)
const_with_member o w n types cells =
    const_both (const_read_again w types bitset cells)
    (amount 1 (omega arith) ▹ gets n ▹ computes _ ▹ const_both (const_member o) (const_stored types bitset cells))

pub const_copied : (at bytes rest w : ℕ) → at < max_bytes → bytes < max_bytes → rest < max_bytes
    → Const (text_copied at bytes rest w)
const_copied at bytes rest w h l k =
    const_both (const_text at h) (address bytes l ▹ calls _ ▹ gets w ▹ const_both (const_raised bytes l)
    (address rest k ▹ calls _ ▹ const_end))
