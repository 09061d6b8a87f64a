-- The code of expressions, designators, calls and arguments. The code of a designator leaves an
-- address of 32 bits. The code of an expression leaves a number of 64 bits.
use Rattle.std.specs.Prelude.{ℕ, zero, suc, ◌+◌, ◌-◌, ◌*◌, ◌==◌, nat_lt, ℤ, pos, Bool, true, false, not, ◌&&◌, ◌||◌, List, [], ◌∷◌, ◌++◌, map, length, Option, Some, None, slice_get, if◌then◌else◌}
use Rattle.std.specs.List.{fold, position, list_any, sum}
use Rattle.std.specs.Option.{unwrap_or}
use Rattle.wasm_tree.specs.declared.kinds.ValueType.TheVariants as type
use Rattle.wasm_tree.specs.declared.instr.Instr.{Instr}
use Rattle.wasm_tree.specs.declared.instr.Instr.TheVariants.{Unreachable, Block, Loop, If, Br, BrIf, Return, Call, CallIndirect, LocalGet, LocalSet, LocalTee, GlobalGet, Load, Store, I32Const, I64Const, Numeric}
use Rattle.wasm_tree.specs.declared.instr.Numeric.TheVariants as numeric
use Rattle.wasm_tree.specs.declared.instr.Load.TheVariants as load
use Rattle.wasm_tree.specs.declared.instr.Relation.{Relation}
use Rattle.wasm_tree.specs.declared.instr.Relation.TheVariants.{Eq, Ne, LtS, LtU, GtS, LeS, LeU, GeS}
use Rattle.wasm_tree.specs.declared.instr.Operation.TheVariants.{Add, Sub, Mul, And, Or, Xor, Shl, ShrU}
use Rattle.typed_tree.specs.declared.computed.Argument.{Argument, Argument-F, fold-Argument}
use Rattle.typed_tree.specs.declared.computed.Argument.TheOpen as layer
use Rattle.typed_tree.specs.declared.computed.Call.{Call as Calls, Call-F, fold-Call}
use Rattle.typed_tree.specs.declared.computed.Component.{Component-F}
use Rattle.typed_tree.specs.declared.computed.Link.{Link-F}
use Rattle.typed_tree.specs.declared.computed.Place.{Place, Place-F, fold-Place}
use Rattle.typed_tree.specs.declared.computed.Root.{Root}
use Rattle.typed_tree.specs.declared.computed.Root.TheVariants as root
use Rattle.typed_tree.specs.declared.computed.TypedExpr.{TypedExpr, TypedExpr-F, fold-TypedExpr}
use Rattle.typed_tree.specs.declared.computed.Slot.{Slot}
use Rattle.typed_tree.specs.declared.computed.LocalProcedure.{LocalProcedure}
use Rattle.typed_tree.specs.declared.computed.Arithmetic.{Arithmetic}
use Rattle.typed_tree.specs.declared.computed.Arithmetic.TheVariants as op
use Rattle.typed_tree.specs.declared.computed.Comparison.{Comparison}
use Rattle.typed_tree.specs.declared.computed.Comparison.TheVariants as compare
use Rattle.typed_tree.specs.declared.computed.SetOperator.{SetOperator}
use Rattle.typed_tree.specs.declared.computed.SetOperator.TheVariants as sets
use Rattle.typed_tree.specs.declared.computed.Inclusion.{Inclusion}
use Rattle.typed_tree.specs.declared.computed.Inclusion.TheVariants as inclusion
use Rattle.typed_tree.specs.declared.types.TypeNo.{TypeNo}
use Rattle.typed_tree.specs.declared.shape.Scalar.{Scalar as Range}
use Rattle.typed_tree.specs.declared.shape.Shape.{Shape}
use Rattle.typed_tree.specs.declared.shape.Shape.TheVariants as shape
use Rattle.typed_tree.specs.declared.shape.Made.{Made}
use Rattle.typed_tree.specs.declared.shape.Formal.{Formal}
use Rattle.typed_tree.specs.declared.meaning.Variable.{Variable}
use Rattle.typed_tree.specs.declared.meaning.Procedure.{Procedure}
use Rattle.typed_tree.specs.declared.known_types.Types.{Types}
use Rattle.typed_tree.specs.declared.typed_module.Imported.{Imported}
use Rattle.typed_tree.specs.declared.typed_module.TypedModule.{TypedModule}
use Rattle.typed_tree.specs.Types.{are_same, integer, cardinal, boolean, char, bitset}
use Rattle.typed_tree.specs.Known.{made_at, scalar_at}
use Rattle.layout_storage.specs.Types.{Ty, Nothing, Array, row}
use Rattle.layout_storage.specs.Sizes.{size, offset}
use Rattle.layout_storage.specs.Shapes.{tree, elements_of}
use Rattle.layout_storage.specs.Frames.{formals_of, module_row}
use Rattle.layout_storage.specs.Texts.{argument_text}
use Rattle.def_meaning.specs.Answer.{empty_procedure, index_fault, overflow, range_fault}
use Rattle.def_scheme.specs.Coded.{Coded, Setting, plain, ◌⨾◌, nothing, all_coded, within, with_address, with_number, with_text, with_setting, top_local, number, raise_address, relation, operation, wrap_word, extend_word, is_zero, put, copy, check, quotient, remainder, body_index, check_code}
use Rattle.def_scheme.specs.Cells.{load_code, load_scalar, word, in_range, in_type, base_of, check_taken, is_nought, unless_nought}

-- ---- other modules: the globals of the place of its variables and of its slots stand behind those
-- of the module itself

abbrev pub import_place : TypedModule → (home : ℕ) → ℕ
import_place m home = unwrap_or (position (λ i. i.number == home) m.imports) 0

abbrev pub is_own : TypedModule → (home : ℕ) → Bool
is_own m home = home == m.types.home

abbrev pub base_global : TypedModule → (home : ℕ) → ℕ
base_global m home = if is_own m home then 1 else 4 + 2 * import_place m home

abbrev pub slots_global : TypedModule → (home : ℕ) → ℕ
slots_global m home = if is_own m home then 3 else 5 + 2 * import_place m home

abbrev pub text_global : ℕ
text_global = 2

abbrev pub imported_row : Types → Option Imported → Ty
imported_row types None = Nothing
imported_row types (Some i) = row (map (tree types) i.variables)

-- the variables of a module, as far as this one knows them
abbrev pub variables_row : TypedModule → (home : ℕ) → Ty
variables_row m home =
    if is_own m home
    then module_row m
    else imported_row m.types (slice_get m.imports (import_place m home))

-- ---- types of functions: how many numbers, and whether there is a result

abbrev pub arguments_of : Formal → ℕ
arguments_of f = if f.is_open then 2 else 1

abbrev pub all_arguments : List Formal → ℕ
all_arguments [] = 0
all_arguments (f ∷ fs) = arguments_of f + all_arguments fs

-- ---- places

abbrev pub frame_at : Option Ty → Ty
frame_at None = Nothing
frame_at (Some t) = t

-- from a frame to the one around it
abbrev pub outwards : ℕ → List Instr
outwards zero = []
outwards (suc k) = Load load.I64 ∷ wrap_word ∷ outwards k

abbrev pub frame_code : (up : ℕ) → List Instr
frame_code up = LocalGet 0 ∷ outwards up

-- component 0 of a frame is the reserved bytes
abbrev pub slot_path : Setting → Slot → List ℕ → ℕ
slot_path s slot path = offset (frame_at (slice_get s.frames slot.up)) (suc slot.number ∷ path)

abbrev pub slot_code : Setting → Slot → List ℕ → List Instr
slot_code s slot path = frame_code slot.up ++ raise_address (slot_path s slot path)

-- what a VAR formal, or an open array in its first cell, stands for
abbrev pub kept_address : Setting → Slot → List ℕ → List Instr
kept_address s slot path = slot_code s slot path ++ (load_scalar word ++ wrap_word ∷ [])

abbrev pub open_address : Setting → Slot → List Instr
open_address s slot = kept_address s slot (0 ∷ [])

abbrev pub high_code : Setting → Slot → List Instr
high_code s slot = slot_code s slot (1 ∷ []) ++ load_scalar word

abbrev pub index_shape : Types → Shape → Option Range
index_shape types (shape.Array i e) = scalar_at types i
index_shape types (shape.Scalar s) = None
index_shape types shape.Set = None
index_shape types (shape.Record fs) = None
index_shape types (shape.Procedure p) = None
index_shape types (shape.Open e) = None

abbrev pub index_made : Types → Option Made → Option Range
index_made types None = None
index_made types (Some m) = index_shape types m.shape

abbrev pub index_of : Types → TypeNo → Option Range
index_of types t = index_made types (made_at types t)

abbrev pub element_tree : Ty → Ty
element_tree (Array n t) = t
element_tree t = Nothing

-- the address of an element, behind the address of the array and a checked index from 0
abbrev pub scale_index : (bytes : ℕ) → List Instr
scale_index bytes = I64Const bytes ∷ operation Mul ∷ wrap_word ∷ Numeric numeric.I32Add ∷ []

abbrev pub from_lower : Option Range → List Instr
from_lower None = []
from_lower (Some s) = unless_nought s.low (number s.low ∷ operation Sub ∷ [])

abbrev pub element_code : Types → TypeNo → List Instr
element_code types t =
    in_range (index_of types t) index_fault ++ (from_lower (index_of types t)
    ++ scale_index (size (element_tree (tree types t))))

abbrev pub open_element_code : Setting → Slot → TypeNo → List Instr
open_element_code s slot t =
    I64Const 0 ∷ (high_code s slot ++ (I64Const 3 ∷ Call check
    ∷ scale_index (size (tree s.home.types t))))

-- ---- expressions

-- the type of an expression, whether it is a constant, and its code
pub record Part : Type 0 where
  pub of : TypeNo
  pub constant : Bool
  pub code : Coded

abbrev pub part_of : TypeNo → Coded → Part
part_of t code = record { of = t; constant = false; code = code }

abbrev pub relation_of : Comparison → Relation
relation_of compare.Equal = Eq
relation_of compare.Unequal = Ne
relation_of compare.Less = LtS
relation_of compare.AtMost = LeS
relation_of compare.Greater = GtS
relation_of compare.AtLeast = GeS

abbrev pub arithmetic_code : Types → Arithmetic → TypeNo → List Instr
arithmetic_code types op.Add t = operation Add ∷ in_type types t overflow
arithmetic_code types op.Subtract t = operation Sub ∷ in_type types t overflow
arithmetic_code types op.Multiply t = operation Mul ∷ in_type types t overflow
arithmetic_code types op.Divide t = Call quotient ∷ []
arithmetic_code types op.Remainder t = Call remainder ∷ []

-- the elements that a set does not have
abbrev pub complement : List Instr
complement = I64Const 4294967295 ∷ operation Xor ∷ []

abbrev pub set_code : SetOperator → List Instr
set_code sets.Union = operation Or ∷ []
set_code sets.Intersection = operation And ∷ []
set_code sets.SymmetricDifference = operation Xor ∷ []
set_code sets.Difference = complement ++ operation And ∷ []

abbrev pub empty_code : List Instr
empty_code = is_zero ∷ extend_word ∷ []

abbrev pub include_code : Inclusion → Coded → Coded → Coded
include_code inclusion.Within x y = x ⨾ y ⨾ plain (complement ++ (operation And ∷ empty_code))
include_code inclusion.Around x y = x ⨾ plain complement ⨾ y ⨾ plain (operation And ∷ empty_code)

abbrev pub chosen_number : List Instr → List Instr → Instr
chosen_number first second = If (Some type.I64) first (Some second)

-- the second operand stands in one side of an if, behind the first
abbrev pub and_code : Coded → Coded
and_code y = plain (wrap_word ∷ []) ⨾ within 1 (λ code. chosen_number code (I64Const 0 ∷ []) ∷ []) y

abbrev pub or_code : Coded → Coded
or_code y = plain (wrap_word ∷ []) ⨾ within 1 (λ code. chosen_number (I64Const 1 ∷ []) code ∷ []) y

abbrev pub in_code : Coded → Coded → Coded
in_code x y =
    x ⨾ plain (check_code (pos 0) (pos 31) range_fault) ⨾ with_number (λ t.
    plain (LocalSet t ∷ []) ⨾ y
    ⨾ plain (LocalGet t ∷ operation ShrU ∷ I64Const 1 ∷ operation And ∷ []))

abbrev pub absolute_code : ℕ → List Instr
absolute_code t =
    LocalSet t ∷ LocalGet t ∷ I64Const 0 ∷ relation LtS
    ∷ chosen_number (I64Const 0 ∷ LocalGet t ∷ operation Sub ∷ []) (LocalGet t ∷ [])
    ∷ check_code (pos 0) (pos 2147483647) overflow

abbrev pub abs_code : TypeNo → Coded → Coded
abs_code t x = if are_same t integer then x ⨾ with_number (λ n. plain (absolute_code n)) else x

abbrev pub capital_code : ℕ → List Instr
capital_code t =
    LocalSet t ∷ LocalGet t ∷ I64Const 97 ∷ operation Sub ∷ I64Const 25 ∷ relation LeU
    ∷ chosen_number (LocalGet t ∷ I64Const 32 ∷ operation Sub ∷ []) (LocalGet t ∷ []) ∷ []

abbrev pub ord_check : Types → TypeNo → List Instr
ord_check types t =
    if are_same (base_of types t) integer
    then check_code (pos 0) (pos 2147483647) range_fault
    else []

-- the base type of a result is checked with the base type of its operands
abbrev pub behind : Coded → (Types → List Instr) → Coded
behind x code = x ⨾ with_setting (λ s. plain (code s.home.types))

abbrev pub two : Coded → Coded → List Instr → Coded
two x y code = x ⨾ y ⨾ plain code

-- the empty procedure's slot is 0, and the body's is the module's first
abbrev pub slot_number : Procedure → ℕ
slot_number f = suc f.number

abbrev pub procedure_code : TypedModule → Procedure → List Instr
procedure_code m f =
    GlobalGet (slots_global m f.home) ∷ extend_word ∷ I64Const (slot_number f) ∷ operation Add ∷ []

abbrev pub loaded_from : Coded → TypeNo → Coded
loaded_from d t = behind d (λ types. load_code types t)

-- an operator of a chain: the type of its result, and its code behind the code of what stands
-- before
pub record Linked : Type 0 where
  pub of : TypeNo
  pub code : Coded

abbrev pub link_of : TypeNo → Coded → Linked
link_of t code = record { of = t; code = code }

abbrev pub link_layer : Link-F Coded Coded Coded Linked Part Coded → Linked
link_layer (layer.Arithmetic o t b) = link_of t (behind b.code (λ types. arithmetic_code types o t))
link_layer (layer.And b) = link_of boolean (and_code b.code)
link_layer (layer.Or b) = link_of boolean (or_code b.code)
link_layer (layer.Combine o b) = link_of bitset (b.code ⨾ plain (set_code o))

-- the last operator of a chain gives its type
abbrev pub chain_type : TypeNo → List Linked → TypeNo
chain_type t [] = t
chain_type t (l ∷ ls) = chain_type l.of ls

abbrev pub chain_code : List Linked → Coded
chain_code [] = nothing
chain_code (l ∷ ls) = l.code ⨾ chain_code ls

abbrev pub expr_layer : TypedExpr-F Coded Coded Coded Linked Part Coded → Part
expr_layer (layer.Constant t n) = record { of = t; constant = true; code = plain (number n ∷ []) }
expr_layer (layer.Load t d) = part_of t (loaded_from d t)
expr_layer (layer.Procedure f) =
    part_of f.heading (with_setting (λ s. plain (procedure_code s.home f)))
expr_layer (layer.Plus t e) = part_of t e.code
expr_layer (layer.Negate e) =
    part_of integer (plain (I64Const 0 ∷ [])
    ⨾ behind e.code (λ types. operation Sub ∷ in_type types integer overflow))
expr_layer (layer.Chain e links) = part_of (chain_type e.of links) (e.code ⨾ chain_code links)
expr_layer (layer.Compare o a b) =
    part_of boolean (two a.code b.code (relation (relation_of o) ∷ extend_word ∷ []))
expr_layer (layer.Not e) = part_of boolean (e.code ⨾ plain empty_code)
expr_layer (layer.Include o a b) = part_of boolean (include_code o a.code b.code)
expr_layer (layer.In a b) = part_of boolean (in_code a.code b.code)
expr_layer (layer.Abs t e) = part_of t (abs_code t e.code)
expr_layer (layer.Cap e) = part_of char (e.code ⨾ with_number (λ t. plain (capital_code t)))
expr_layer (layer.Chr e) = part_of char (e.code ⨾ plain (check_code (pos 0) (pos 255) range_fault))
expr_layer (layer.Odd e) = part_of boolean (e.code ⨾ plain (I64Const 1 ∷ operation And ∷ []))
expr_layer (layer.Ord e) = part_of cardinal (behind e.code (λ types. ord_check types e.of))
expr_layer (layer.Val t e) = part_of t (behind e.code (λ types. in_type types t range_fault))
expr_layer (layer.High slot) = part_of cardinal (with_setting (λ s. plain (high_code s slot)))
expr_layer (layer.Call t c) = part_of t c

-- ---- designators

abbrev pub global_code : TypedModule → Variable → List Instr
global_code m v =
    GlobalGet (base_global m v.home)
    ∷ raise_address (offset (variables_row m v.home) (v.number ∷ []))

abbrev pub with_code : Option ℕ → List Instr
with_code None = []
with_code (Some w) = LocalGet w ∷ []

abbrev pub root_layer : Root → Coded
root_layer (root.Global v) = with_setting (λ s. plain (global_code s.home v))
root_layer (root.Local slot) = with_setting (λ s. plain (slot_code s slot []))
root_layer (root.Alias slot) = with_setting (λ s. plain (kept_address s slot []))
root_layer (root.Open slot) = with_setting (λ s. plain (open_address s slot))
root_layer (root.With k) = with_setting (λ s. plain (with_code (slice_get s.withs k)))

-- the code of a component stands behind the code of what it is a component of
abbrev pub component_layer : Component-F Coded Coded Coded Linked Part Coded → Coded
component_layer (layer.Field t k) =
    with_setting (λ s. plain (raise_address (offset (tree s.home.types t) (k ∷ []))))
component_layer (layer.Element t i) = behind i.code (λ types. element_code types t)
component_layer (layer.OpenElement slot t i) =
    i.code ⨾ with_setting (λ s. plain (open_element_code s slot t))

abbrev pub place_layer : Place-F Coded Coded Coded Linked Part Coded → Coded
place_layer d = root_layer d.root ⨾ all_coded d.components

-- ---- arguments

abbrev pub text_code : (offset : ℕ) → List Instr
text_code at = GlobalGet text_global ∷ raise_address at

abbrev pub high_index : Types → TypeNo → ℕ
high_index types t = elements_of (index_of types t) - 1

abbrev pub passed_text : List ℕ → Coded
passed_text text =
    with_text (length text) (λ at.
    plain (text_code at ++ (extend_word ∷ I64Const (length text - 1) ∷ [])))

abbrev pub argument_layer : Argument-F Coded Coded Coded Linked Part Coded → Coded
argument_layer (layer.Value t e) = behind e.code (λ types. check_taken types t e.constant e.of)
argument_layer (layer.Place d) = d ⨾ plain (extend_word ∷ [])
argument_layer (layer.Array t d) =
    behind d (λ types. extend_word ∷ I64Const (high_index types t) ∷ [])
argument_layer (layer.Open slot) =
    with_setting (λ s. plain (open_address s slot ++ (extend_word ∷ high_code s slot)))
argument_layer (layer.Text text) = passed_text (argument_text text)

-- ---- calls

-- the types of functions that are called through the table, or stand in the module: given where
-- they are numbered
abbrev pub Numbered : Type 0
Numbered = (arguments : ℕ) → (result : Bool) → ℕ

abbrev pub top_code : Coded
top_code = with_setting (λ s. plain (LocalGet (top_local s) ∷ []))

abbrev pub is_there : {A : Type 0} → Option A → Bool
is_there None = false
is_there (Some x) = true

abbrev pub result_in : Shape → Bool
result_in (shape.Procedure h) = is_there h.result
result_in (shape.Scalar s) = false
result_in shape.Set = false
result_in (shape.Array i e) = false
result_in (shape.Record fs) = false
result_in (shape.Open e) = false

abbrev pub result_made : Option Made → Bool
result_made None = false
result_made (Some m) = result_in m.shape

abbrev pub has_result : Types → TypeNo → Bool
has_result types heading = result_made (made_at types heading)

module _ (numbered : Numbered) where
  abbrev pub indirect : Types → TypeNo → Instr
  indirect types heading =
      CallIndirect (numbered (all_arguments (formals_of types heading)) (has_result types heading))

  abbrev pub module_call : TypedModule → Procedure → List Instr
  module_call m f =
      if is_own m f.home
      then Call (suc body_index + f.number) ∷ []
      else (GlobalGet (slots_global m f.home) ∷ (raise_address (slot_number f)
      ++ indirect m.types f.heading ∷ []))

  -- the link of the procedure around it
  abbrev pub link_code : (up : ℕ) → List Instr
  link_code up = frame_code up ++ extend_word ∷ []

  abbrev pub nested_call : TypedModule → LocalProcedure → List Instr
  nested_call m f = Call (suc body_index + (length m.procedures + f.number)) ∷ []

  abbrev pub value_call : ℕ → TypeNo → Coded
  value_call t heading =
      with_setting (λ s. plain (LocalGet t ∷ wrap_word ∷ indirect s.home.types heading ∷ []))

  abbrev pub call_layer : Call-F Coded Coded Coded Linked Part Coded → Coded
  call_layer (layer.Module f args) =
      top_code ⨾ all_coded args ⨾ with_setting (λ s. plain (module_call s.home f))
  call_layer (layer.Nested f args) =
      top_code ⨾ plain (link_code f.up) ⨾ all_coded args
      ⨾ with_setting (λ s. plain (nested_call s.home f))
  call_layer (layer.Variable t d args) =
      loaded_from d t ⨾ plain (check_code (pos 1) (pos 4294967295) empty_procedure)
      ⨾ with_number (λ n. plain (LocalSet n ∷ []) ⨾ top_code ⨾ all_coded args ⨾ value_call n t)

  unfoldable pub expr_part : TypedExpr → Part
  expr_part =
      fold-TypedExpr Coded Coded Coded Linked Part Coded argument_layer call_layer component_layer
      link_layer expr_layer place_layer

  unfoldable pub place_code : Place → Coded
  place_code =
      fold-Place Coded Coded Coded Linked Part Coded argument_layer call_layer component_layer
      link_layer expr_layer place_layer

  unfoldable pub call_code : Calls → Coded
  call_code =
      fold-Call Coded Coded Coded Linked Part Coded argument_layer call_layer component_layer
      link_layer expr_layer place_layer
