-- The code of statements.
use Rattle.std.specs.Prelude.{ℕ, zero, suc, ◌+◌, ◌-◌, ◌*◌, ℤ, pos, ◌+ℤ◌, ◌-ℤ◌, Bool, true, false, not, ◌&&◌, int_le, int_lt, nat_le, unsigned_abs, List, [], ◌∷◌, ◌++◌, map, length, Option, Some, None, slice_get, if◌then◌else◌}
use Rattle.std.specs.List.{fold, flat_map, list_any, range_with_len}
use Rattle.wasm_tree.specs.declared.instr.Instr.{Instr}
use Rattle.wasm_tree.specs.declared.instr.Instr.TheVariants.{Unreachable, Block, Loop, If, Br, BrIf, BrTable, Return, Call, LocalGet, LocalSet, LocalTee, GlobalGet, I32Const, I64Const, Numeric}
use Rattle.wasm_tree.specs.declared.instr.Numeric.TheVariants as numeric
use Rattle.wasm_tree.specs.declared.instr.Relation.{Relation}
use Rattle.wasm_tree.specs.declared.instr.Relation.TheVariants.{LtS, GtS, LeU, GtU}
use Rattle.wasm_tree.specs.declared.instr.Operation.TheVariants.{Add, Sub, And, Or, Xor, Shl}
use Rattle.typed_tree.specs.declared.computed.Place.{Place}
use Rattle.typed_tree.specs.declared.computed.TypedExpr.{TypedExpr}
use Rattle.typed_tree.specs.declared.statement.Change.{Change}
use Rattle.typed_tree.specs.declared.statement.Change.TheVariants as change
use Rattle.typed_tree.specs.declared.statement.Membership.{Membership}
use Rattle.typed_tree.specs.declared.statement.Membership.TheVariants as member
use Rattle.typed_tree.specs.declared.statement.Label.{Label}
use Rattle.typed_tree.specs.declared.statement.TypedStmt.{TypedStmt, TypedStmt-F, fold-TypedStmt}
use Rattle.typed_tree.specs.declared.statement.TypedStmt.TheOpen as step
use Rattle.typed_tree.specs.declared.statement.TypedArm.{TypedArm, TypedArm-F, fold-TypedArm}
use Rattle.typed_tree.specs.declared.types.TypeNo.{TypeNo}
use Rattle.typed_tree.specs.declared.known_types.Types.{Types}
use Rattle.typed_tree.specs.Types.{char, bitset}
use Rattle.layout_storage.specs.Sizes.{size}
use Rattle.layout_storage.specs.Shapes.{tree}
use Rattle.def_meaning.specs.Answer.{case_fault, halt_status, range_fault}
use Rattle.def_scheme.specs.Coded.{Coded, Setting, plain, ◌⨾◌, nothing, all_coded, within, with_address, with_number, with_text, with_setting, number, raise_address, relation, operation, wrap_word, is_zero, put, copy, fill, fault, check_code}
use Rattle.def_scheme.specs.Cells.{load_code, store_code, in_type, check_taken, check_changed}
use Rattle.def_scheme.specs.Exprs.{Numbered, Part, behind, complement, text_code, expr_part, place_code, call_code}

-- ---- loops and blocks

abbrev pub block : List Instr → List Instr
block code = Block None code ∷ []

abbrev pub loop : List Instr → List Instr
loop code = Loop None code ∷ []

abbrev pub block_loop : List Instr → List Instr
block_loop code = block (loop code)

-- code inside blocks in which EXIT leaves the one with this label
abbrev pub leaving : (exit : ℕ) → (List Instr → List Instr) → Coded → Coded
leaving exit wrap x s c = let inner = x (record s { exit = exit }) c in (wrap inner.0, inner.1)

-- the same with one more record under WITH
abbrev pub under : ℕ → Coded → Coded
under w x s c = x (record s { withs = s.withs ++ w ∷ [] }) c

-- both sides of an if, and one alone
abbrev pub if_else : Coded → Coded → Coded
if_else x y s c =
    let inner = record s { exit = suc s.exit } in
    let first = x inner c in
    let second = y inner first.1 in (If None first.0 (Some second.0) ∷ [], second.1)

abbrev pub if_only : Coded → Coded
if_only x = within 1 (λ code. If None code None ∷ []) x

abbrev pub if_code : Coded → Option (List Coded) → Coded
if_code x None = if_only x
if_code x (Some ys) = if_else x (all_coded ys)

-- ---- CASE

-- an arm: its labels, and its code
pub record Arm : Type 0 where
  pub labels : List Label
  pub code : Coded

abbrev pub else_code : Option (List Coded) → Coded
else_code None = plain (fault case_fault)
else_code (Some xs) = all_coded xs

-- one test after the other
abbrev pub label_code : (t : ℕ) → Label → List Instr
label_code t x =
    LocalGet t ∷ number x.low ∷ operation Sub ∷ number (x.high -ℤ x.low) ∷ relation LeU ∷ BrIf 0
    ∷ []

abbrev pub tests_code : (t : ℕ) → List Label → List Instr
tests_code t labels = flat_map (label_code t) labels ++ Br 1 ∷ []

abbrev pub arm_code : (t : ℕ) → Arm → Coded
arm_code t x =
    within 1 (λ code. block (block (tests_code t x.labels) ++ (code ++ Br 1 ∷ []))) x.code

abbrev pub chain_code : (t : ℕ) → List Arm → Coded → Coded
chain_code t arms otherwise = within 1 block (all_coded (map (arm_code t) arms) ⨾ otherwise)

-- a table of labels, if the arms are few and the values dense
abbrev pub lesser : ℤ → ℤ → ℤ
lesser x y = if int_le x y then x else y

abbrev pub greater : ℤ → ℤ → ℤ
greater x y = if int_le x y then y else x

abbrev pub all_labels : List Arm → List Label
all_labels arms = flat_map (λ x. x.labels) arms

abbrev pub least_of : List Label → ℤ
least_of [] = pos 0
least_of (x ∷ xs) = fold (λ so y. lesser so y.low) x.low xs

abbrev pub greatest_of : List Label → ℤ
greatest_of [] = pos 0
greatest_of (x ∷ xs) = fold (λ so y. greater so y.high) x.high xs

abbrev pub values_of : Label → ℕ
values_of x = suc (unsigned_abs (x.high -ℤ x.low))

abbrev pub all_values : List Label → ℕ
all_values [] = 0
all_values (x ∷ xs) = values_of x + all_values xs

abbrev pub span_of : List Label → ℕ
span_of labels = suc (unsigned_abs (greatest_of labels -ℤ least_of labels))

-- A table has at most this many arms and places, and at least this many values, and at most this
-- many places for a value.
abbrev pub max_arms : ℕ
max_arms = 16

abbrev pub max_span : ℕ
max_span = 1024

abbrev pub least_values : ℕ
least_values = 4

abbrev pub max_spread : ℕ
max_spread = 4

abbrev pub is_dense : (arms : ℕ) → List Label → Bool
is_dense arms labels =
    nat_le arms max_arms
    && (nat_le least_values (all_values labels)
    && (nat_le (span_of labels) max_span
    && nat_le (span_of labels) (max_spread * all_values labels)))

abbrev pub has_label : ℤ → Arm → Bool
has_label v x = list_any (λ y. int_le y.low v && int_le v y.high) x.labels

-- the number of the arm for a value, or how many arms there are
abbrev pub target : List Arm → ℤ → ℕ
target [] v = 0
target (x ∷ xs) v = if has_label v x then 0 else suc (target xs v)

abbrev pub targets : List Arm → (least : ℤ) → (span : ℕ) → List ℕ
targets arms low span = map (λ k. target arms (low +ℤ pos k)) (range_with_len 0 span)

abbrev pub from_least : (t : ℕ) → ℤ → List Instr
from_least t low = LocalGet t ∷ number low ∷ operation Sub ∷ []

abbrev pub dispatch : (t : ℕ) → List Arm → (least : ℤ) → (span : ℕ) → List Instr
dispatch t arms low span =
    from_least t low ++ (I64Const (span - 1) ∷ relation GtU ∷ BrIf (length arms) ∷ (from_least t low
    ++ (wrap_word ∷ BrTable (targets arms low span) (length arms) ∷ [])))

-- code in one more block, in which no EXIT stands
abbrev pub in_block : Coded → Coded
in_block x s c = let inner = x s c in (block inner.0, inner.1)

-- each arm stands behind the end of its block
abbrev pub jump_arms : List Arm → Coded → Coded
jump_arms [] inner = inner
jump_arms (x ∷ xs) inner =
    jump_arms xs (in_block inner ⨾ within (length xs + 2) (λ code. code) x.code
    ⨾ plain (Br (length xs + 1) ∷ []))

abbrev pub table_code : (t : ℕ) → List Arm → Coded → Coded
table_code t arms otherwise =
    in_block (in_block (jump_arms arms
    (plain (dispatch t arms (least_of (all_labels arms)) (span_of (all_labels arms)))))
    ⨾ within 1 (λ code. code) otherwise)

abbrev pub case_code : Coded → List Arm → Coded → Coded
case_code x arms otherwise =
    x ⨾ with_number (λ t.
    plain (LocalSet t ∷ [])
    ⨾ (if is_dense (length arms) (all_labels arms)
    then table_code t arms otherwise
    else chain_code t arms otherwise))

-- ---- FOR

abbrev pub passes : ℤ → Relation
passes by = if int_lt by (pos 0) then LtS else GtS

-- the variable's address stands below its start; then the limit is kept, and the turns follow
abbrev pub for_begin : Coded → TypeNo → Part → Part → (t : ℕ) → Coded
for_begin d t start limit n =
    plain (LocalSet n ∷ []) ⨾ with_setting (λ s. plain (store_code s.home.types t))

abbrev pub for_turn : Coded → TypeNo → (by : ℤ) → (n : ℕ) → Coded → Coded
for_turn d t by n body =
    body ⨾ behind d (λ types. load_code types t)
    ⨾ plain (number by ∷ operation Add ∷ LocalGet n ∷ relation (passes by) ∷ BrIf 1 ∷ []) ⨾ d
    ⨾ behind d (λ types. load_code types t) ⨾ with_setting (λ s.
    plain (number by ∷ operation Add ∷ (in_type s.home.types t range_fault
    ++ (store_code s.home.types t ++ Br 0 ∷ []))))

abbrev pub for_code : Coded → TypeNo → Part → Part → (by : ℤ) → Coded → Coded
for_code d t start limit by body =
    d ⨾ behind start.code (λ types. check_taken types t start.constant start.of) ⨾ limit.code
    ⨾ with_number (λ n.
    for_begin d t start limit n
    ⨾ within 1 block
    (behind d (λ types. load_code types t) ⨾ plain (LocalGet n ∷ relation (passes by) ∷ BrIf 0 ∷ [])
    ⨾ within 1 loop (for_turn d t by n body)))

-- ---- INC, DEC, INCL, EXCL

abbrev pub change_operation : Change → Instr
change_operation change.Increase = operation Add
change_operation change.Decrease = operation Sub

-- an address is kept, and what is added or put in
abbrev pub keep_address : Coded → (ℕ → Coded) → Coded
keep_address d f = d ⨾ with_address (λ w. plain (LocalSet w ∷ []) ⨾ f w)

abbrev pub read_again : (w : ℕ) → Types → TypeNo → List Instr
read_again w types t = LocalGet w ∷ LocalGet w ∷ load_code types t

abbrev pub change_instructions : Change → (w n : ℕ) → Types → TypeNo → List Instr
change_instructions o w n types t =
    read_again w types t ++ (LocalGet n ∷ change_operation o ∷ (check_changed types t
    ++ store_code types t))

abbrev pub change_code : Change → Coded → TypeNo → Coded → Coded
change_code o d t x =
    keep_address d (λ w.
    x ⨾ with_number (λ n.
    plain (LocalSet n ∷ []) ⨾ with_setting (λ s. plain (change_instructions o w n s.home.types t))))

abbrev pub member_operation : Membership → List Instr
member_operation member.Include = operation Or ∷ []
member_operation member.Exclude = complement ++ operation And ∷ []

abbrev pub with_member : Membership → (w n : ℕ) → Types → List Instr
with_member o w n types =
    read_again w types bitset ++ (I64Const 1 ∷ LocalGet n ∷ operation Shl ∷ (member_operation o
    ++ store_code types bitset))

abbrev pub member_code : Membership → Coded → Coded → Coded
member_code o d x =
    keep_address d (λ w.
    x ⨾ plain (check_code (pos 0) (pos 31) range_fault) ⨾ with_number (λ n.
    plain (LocalSet n ∷ []) ⨾ with_setting (λ s. plain (with_member o w n s.home.types))))

-- ---- strings

-- the characters are copied, and the rest of the array is filled with 0C
abbrev pub text_copied : (at bytes rest w : ℕ) → List Instr
text_copied at bytes rest w =
    text_code at ++ (I32Const bytes ∷ Call copy ∷ LocalGet w ∷ (raise_address bytes
    ++ (I32Const rest ∷ Call fill ∷ [])))

abbrev pub copy_text_code : Coded → TypeNo → List ℕ → Coded
copy_text_code d t text =
    d ⨾ with_address (λ w.
    plain (LocalTee w ∷ []) ⨾ with_text (length text) (λ at.
    with_setting (λ s.
    plain (text_copied at (length text) (size (tree s.home.types t) - length text) w))))

-- ---- statements

module _ (numbered : Numbered) where
  abbrev pub part : TypedExpr → Part
  part = expr_part numbered

  abbrev pub place : Place → Coded
  place = place_code numbered

  -- a value as one of a type
  abbrev pub take_code : TypeNo → TypedExpr → Coded
  take_code t e = behind (part e).code (λ types. check_taken types t (part e).constant (part e).of)

  abbrev pub step_layer : TypedStmt-F Coded Arm → Coded
  step_layer (step.Assign d t e) =
      place d ⨾ take_code t e ⨾ with_setting (λ s. plain (store_code s.home.types t))
  step_layer (step.Copy to from t) =
      place to ⨾ behind (place from) (λ types. I32Const (size (tree types t)) ∷ Call copy ∷ [])
  step_layer (step.CopyText d t text) = copy_text_code (place d) t text
  step_layer (step.Call c) = call_code numbered c
  step_layer (step.Put e) = take_code char e ⨾ plain (Call put ∷ [])
  step_layer (step.Change o d t e) = change_code o (place d) t (part e).code
  step_layer (step.Membership o d e) = member_code o (place d) (part e).code
  step_layer step.Halt = plain (fault halt_status)
  step_layer (step.If e body others) =
      (part e).code ⨾ plain (wrap_word ∷ []) ⨾ if_code (all_coded body) others
  step_layer (step.Case e arms others) = case_code (part e).code arms (else_code others)
  step_layer (step.While e body) =
      within 2 block_loop
      ((part e).code ⨾ plain (is_zero ∷ BrIf 1 ∷ []) ⨾ all_coded body ⨾ plain (Br 0 ∷ []))
  step_layer (step.Repeat body e) =
      within 1 loop (all_coded body ⨾ (part e).code ⨾ plain (is_zero ∷ BrIf 0 ∷ []))
  step_layer (step.Loop body) = leaving 1 block_loop (all_coded body ⨾ plain (Br 0 ∷ []))
  step_layer step.Exit = with_setting (λ s. plain (Br s.exit ∷ []))
  step_layer step.Return = plain (Return ∷ [])
  step_layer (step.Give t e) = take_code t e ⨾ plain (Return ∷ [])
  step_layer (step.For d t start limit by body) =
      for_code (place d) t (part start) (part limit) by (all_coded body)
  step_layer (step.With d body) =
      place d ⨾ with_address (λ w. plain (LocalSet w ∷ []) ⨾ under w (all_coded body))

  abbrev pub arm_layer : TypedArm-F Coded Arm → Arm
  arm_layer x = record { labels = x.labels; code = all_coded x.body }

  unfoldable pub step_code : TypedStmt → Coded
  step_code = fold-TypedStmt Coded Arm step_layer arm_layer

  abbrev pub body_code : List TypedStmt → Coded
  body_code body = all_coded (map step_code body)
