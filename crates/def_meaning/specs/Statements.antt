-- What statements do, if each loop makes at most n turns.
-- A fold over a tree has one clause for each construct, in which the parts already stand for what
-- they do, and a function on a list has one for the empty list and one for its first and the rest.
use Rattle.std.specs.Prelude.{ℕ, zero, suc, ℤ, pos, ◌+ℤ◌, ◌-ℤ◌, Bool, int_lt, bit_or, unsigned_abs, List, [], ◌∷◌, ◌++◌, Option, Some, None, slice_get, if◌then◌else◌}
use Rattle.std.specs.List.{list_any}
use Rattle.typed_tree.specs.declared.statement.Change.{Change}
use Rattle.typed_tree.specs.declared.statement.Change.TheVariants as change
use Rattle.typed_tree.specs.declared.statement.Membership.{Membership}
use Rattle.typed_tree.specs.declared.statement.Membership.TheVariants as member
use Rattle.typed_tree.specs.declared.statement.Label.{Label}
use Rattle.typed_tree.specs.declared.statement.TypedStmt.{TypedStmt, TypedStmt-F, fold-TypedStmt}
use Rattle.typed_tree.specs.declared.statement.TypedStmt.TheOpen as step
use Rattle.typed_tree.specs.declared.statement.TypedArm.{TypedArm-F}
use Rattle.typed_tree.specs.declared.types.TypeNo.{TypeNo}
use Rattle.typed_tree.specs.declared.shape.Scalar.{Scalar as Range}
use Rattle.typed_tree.specs.declared.known_types.Types.{Types}
use Rattle.typed_tree.specs.Types.{char}
use Rattle.typed_tree.specs.Known.{scalar_at}
use Rattle.def_meaning.specs.Store.{Location, assign_number, copy_whole, overlay}
use Rattle.def_meaning.specs.Answer.{State, Answer, ◌▷◌, range_fault, case_fault, halt_status, Ended, StillRunning, Value}
use Rattle.def_meaning.specs.Outcome.{Outcome, Normal, Exited, Returned, sequence}
use Rattle.def_meaning.specs.Operators.{is_between, is_true, bits, without, single}
use Rattle.def_meaning.specs.Environment.{Modules, Environment}
use Rattle.def_meaning.specs.Expressions.{Asks, within, as_type, in_base, value, locate, call_value}

abbrev pub Does : Type 0
Does = Environment → State → Outcome

-- one after the other
abbrev pub in_turn : List Does → Does
in_turn [] a st = Value Normal st
in_turn (d ∷ ds) a st = sequence (d a st) (in_turn ds a)

abbrev pub if_there : Option (List Does) → Does
if_there None a st = Value Normal st
if_there (Some ds) a st = in_turn ds a st

-- ---- storing

abbrev pub store_number : Location → ℤ → State → State
store_number l v st = record st { store = assign_number l v st.store }

-- the characters of a string, and 0C behind them
abbrev pub or_zero : Option ℕ → ℤ
or_zero None = pos 0
or_zero (Some c) = pos c

abbrev pub character : List ℕ → Location → ℤ
character text [] = pos 0
character text (k ∷ r) = or_zero (slice_get text k)

-- ---- loops

abbrev pub loop_left : Outcome → (State → Outcome) → Outcome
loop_left (Value Normal st) next = next st
loop_left (Value Exited st) next = Value Normal st
loop_left (Value (Returned v) st) next = Value (Returned v) st
loop_left (Ended k out) next = Ended k out
loop_left (StillRunning out) next = StillRunning out

-- LOOP: EXIT ends it
abbrev pub loop_outcome : ℕ → (State → Outcome) → State → Outcome
loop_outcome zero body st = StillRunning st.out
loop_outcome (suc n) body st = loop_left (body st) (loop_outcome n body)

-- WHILE: the condition is evaluated before each turn, and behind the last one
abbrev pub while_true : ℕ → (State → Answer ℤ) → (State → Outcome) → State → Outcome
while_true zero test body st =
    test st ▷ λ v st. if is_true v then StillRunning st.out else Value Normal st
while_true (suc n) test body st =
    test st ▷ λ v st.
    if is_true v then sequence (body st) (while_true n test body) else Value Normal st

-- REPEAT: and behind each turn
abbrev pub until_true : ℕ → (State → Outcome) → (State → Answer ℤ) → State → Outcome
until_true zero body test st = StillRunning st.out
until_true (suc n) body test st =
    sequence (body st) (λ st.
    test st ▷ λ v st. if is_true v then Value Normal st else until_true n body test st)

-- FOR: whether a number has passed the limit
abbrev pub has_passed : (by limit v : ℤ) → Bool
has_passed by limit v = if int_lt by (pos 0) then int_lt v limit else int_lt limit v

-- after a turn the variable steps on, if that does not pass the limit
abbrev pub for_turns : ℕ → (check : ℤ → State → Answer ℤ) → Location → (by limit : ℤ)
    → (State → Outcome) → State → Outcome
for_turns zero check l by limit body st = StillRunning st.out
for_turns (suc n) check l by limit body st =
    sequence (body st) (λ st.
    if has_passed by limit (st.store l +ℤ by)
    then Value Normal st
    else (check (st.store l +ℤ by) st ▷ λ v st.
    for_turns n check l by limit body (store_number l v st)))

abbrev pub for_all : ℕ → (check : ℤ → State → Answer ℤ) → Location → (by limit : ℤ)
    → (State → Outcome) → State → Outcome
for_all n check l by limit body st =
    if has_passed by limit (st.store l)
    then Value Normal st
    else for_turns n check l by limit body st

-- ---- CASE

abbrev pub is_labelled : ℤ → Label → Bool
is_labelled v x = is_between x.low v x.high

-- the first arm with a label for the value, or else what stands behind ELSE, without which there is
-- a fault
abbrev pub or_else : Option (List Does) → Does
or_else None a st = Ended case_fault st.out
or_else (Some ds) a st = in_turn ds a st

-- an arm: its labels, and what it does
pub record Arm : Type 0 where
  pub labels : List Label
  pub does : Does

abbrev pub choose_arm : ℤ → List Arm → Does → Does
choose_arm v [] otherwise = otherwise
choose_arm v (x ∷ xs) otherwise =
    if list_any (is_labelled v) x.labels then x.does else choose_arm v xs otherwise

-- ---- INC, DEC, INCL, EXCL

abbrev pub base_of : TypeNo → Option Range → TypeNo
base_of t None = t
base_of t (Some s) = s.base

abbrev pub change_by : Change → ℤ → ℤ → ℤ
change_by change.Increase x by = x +ℤ by
change_by change.Decrease x by = x -ℤ by

-- the result is one of the base type, and then one of the variable's
abbrev pub recheck_value : Types → TypeNo → ℤ → State → Answer ℤ
recheck_value types t v st =
    in_base types (base_of t (scalar_at types t)) v st ▷ (as_type types t)

abbrev pub with_element : Membership → ℤ → ℤ → ℤ
with_element member.Include s x = pos (bit_or (bits s) (single x))
with_element member.Exclude s x = pos (without (bits s) (single x))

-- ---- statements

module _ (p : Modules) (ask : Asks) (n : ℕ) where
  abbrev pub step_layer : TypedStmt-F Does Arm → Does
  step_layer (step.Assign d t e) a st =
      locate p ask d a st ▷ λ l st.
      value p ask e a st ▷ λ v st.
      as_type a.types t v st ▷ λ v st. Value Normal (store_number l v st)
  step_layer (step.Copy to from t) a st =
      locate p ask to a st ▷ λ l st.
      locate p ask from a st ▷ λ l' st.
      Value Normal (record st { store = copy_whole l l' st.store })
  step_layer (step.CopyText d t text) a st =
      locate p ask d a st ▷ λ l st.
      Value Normal (record st { store = overlay l (character text) st.store })
  step_layer (step.Call c) a st = call_value p ask c a st ▷ λ v st. Value Normal st
  step_layer (step.Put e) a st =
      value p ask e a st ▷ λ v st.
      as_type a.types char v st ▷ λ v st.
      Value Normal (record st { out = st.out ++ unsigned_abs v ∷ [] })
  step_layer (step.Change o d t e) a st =
      locate p ask d a st ▷ λ l st.
      value p ask e a st ▷ λ by st.
      recheck_value a.types t (change_by o (st.store l) by) st ▷ λ v st.
      Value Normal (store_number l v st)
  step_layer (step.Membership o d e) a st =
      locate p ask d a st ▷ λ l st.
      value p ask e a st ▷ λ x st.
      within (pos 0) (pos 31) range_fault x st ▷ λ x st.
      Value Normal (store_number l (with_element o (st.store l) x) st)
  step_layer step.Halt a st = Ended halt_status st.out
  step_layer (step.If e body others) a st =
      value p ask e a st ▷ λ v st.
      if is_true v then in_turn body a st else if_there others a st
  step_layer (step.Case e arms others) a st =
      value p ask e a st ▷ λ v st. choose_arm v arms (or_else others) a st
  step_layer (step.While e body) a st = while_true n (value p ask e a) (in_turn body a) st
  step_layer (step.Repeat body e) a st = until_true n (in_turn body a) (value p ask e a) st
  step_layer (step.Loop body) a st = loop_outcome n (in_turn body a) st
  step_layer step.Exit a st = Value Exited st
  step_layer step.Return a st = Value (Returned (pos 0)) st
  step_layer (step.Give t e) a st =
      value p ask e a st ▷ λ v st.
      as_type a.types t v st ▷ λ v st. Value (Returned v) st
  -- the start, the limit, and then the assignment
  step_layer (step.For d t start limit by body) a st =
      locate p ask d a st ▷ λ l st.
      value p ask start a st ▷ λ v st.
      as_type a.types t v st ▷ λ v st.
      value p ask limit a st ▷ λ last st.
      for_all n (as_type a.types t) l by last (in_turn body a) (store_number l v st)
  -- the record is found once
  step_layer (step.With d body) a st =
      locate p ask d a st ▷ λ l st.
      in_turn body (record a { withs = a.withs ++ l ∷ [] }) st

  abbrev pub arm_layer : TypedArm-F Does Arm → Arm
  arm_layer x = record { labels = x.labels; does = in_turn x.body }

  unfoldable pub does : TypedStmt → Does
  does = fold-TypedStmt Does Arm step_layer arm_layer
