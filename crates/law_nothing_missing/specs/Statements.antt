-- What statements do, if nothing that they ask for may be missing.
use Rattle.std.specs.Prelude.{ℕ, pos, Bool, false, ◌&&◌, unsigned_abs, [], ◌∷◌, ◌++◌, length, Option, Some, None, if◌then◌else◌}
use Rattle.typed_tree.specs.declared.computed.Place.{Place}
use Rattle.typed_tree.specs.declared.statement.TypedStmt.{TypedStmt, TypedStmt-F, fold-TypedStmt}
use Rattle.typed_tree.specs.declared.statement.TypedStmt.TheOpen as step
use Rattle.typed_tree.specs.declared.statement.TypedArm.{TypedArm-F}
use Rattle.typed_tree.specs.declared.types.TypeNo.{TypeNo}
use Rattle.typed_tree.specs.declared.known_types.Types.{Types}
use Rattle.typed_tree.specs.Types.{char}
use Rattle.typed_tree.specs.Known.{scalar_at}
use Rattle.def_meaning.specs.Store.{Location, copy_whole, overlay}
use Rattle.def_meaning.specs.Answer.{State, Answer, Value, ◌▷◌, range_fault, halt_status, Ended}
use Rattle.def_meaning.specs.Outcome.{Normal, Exited, Returned}
use Rattle.def_meaning.specs.Operators.{is_true}
use Rattle.def_meaning.specs.Environment.{Modules}
use Rattle.def_meaning.specs.Expressions.{Asks, Gives, within, as_type}
use Rattle.def_meaning.specs.Statements.{Does, Arm, in_turn, if_there, or_else, choose_arm, store_number, character, while_true, until_true, loop_outcome, for_all, base_of, change_by, recheck_value, with_element}
use Rattle.layout_storage.specs.Types.{Ty}
use Rattle.law_nothing_missing.specs.Worlds.{World, type_at, has_room, is_like}
use Rattle.law_nothing_missing.specs.Expressions.{is_ranged, lacks, if_provided, at_cell, as_type as taken_as, value, locate, call_value}

-- a type with a range, whose base has one
abbrev pub are_ranged : Types → TypeNo → Bool
are_ranged types t = is_ranged types t && is_ranged types (base_of t (scalar_at types t))

-- in the body of a function, or of what gives no value
module _ (lacking : ℕ) (p : Modules) (ask : Asks) (world : World) (n : ℕ) (function : Bool) where
  -- a variable that holds a number
  abbrev pub cell : Place → Gives Location
  cell d a st = locate lacking p ask world d a st ▷ (at_cell lacking p ask world)

  -- what is copied has the components of what it is copied to
  abbrev pub copied_from : Option Ty → Location → State → Answer Location
  copied_from None l st = lacks lacking st
  copied_from (Some t) l st = if_provided lacking (is_like (type_at world l) t) (Value l) st

  -- this many characters have room
  abbrev pub at_room : ℕ → Location → State → Answer Location
  at_room k l st = if_provided lacking (has_room (type_at world l) k) (Value l) st

  abbrev pub step_layer : TypedStmt-F Does Arm → Does
  step_layer (step.Assign d t e) a st =
      cell d a st ▷ λ l st.
      value lacking p ask world e a st ▷ λ v st.
      taken_as lacking p ask world a.types t v st ▷ λ v st. Value Normal (store_number l v st)
  step_layer (step.Copy to from t) a st =
      locate lacking p ask world to a st ▷ λ l st.
      (locate lacking p ask world from a st ▷ (copied_from (type_at world l))) ▷ λ l' st.
      Value Normal (record st { store = copy_whole l l' st.store })
  step_layer (step.CopyText d t text) a st =
      (locate lacking p ask world d a st ▷ (at_room (length text))) ▷ λ l st.
      Value Normal (record st { store = overlay l (character text) st.store })
  step_layer (step.Call c) a st =
      call_value lacking p ask world c false a st ▷ λ v st. Value Normal st
  step_layer (step.Put e) a st =
      value lacking p ask world e a st ▷ λ v st.
      as_type a.types char v st ▷ λ v st.
      Value Normal (record st { out = st.out ++ unsigned_abs v ∷ [] })
  step_layer (step.Change o d t e) a st =
      cell d a st ▷ λ l st.
      value lacking p ask world e a st ▷ λ by st.
      if_provided lacking (are_ranged a.types t)
      (recheck_value a.types t (change_by o (st.store l) by)) st
      ▷ λ v st.
      Value Normal (store_number l v st)
  step_layer (step.Membership o d e) a st =
      cell d a st ▷ λ l st.
      value lacking p ask world e a st ▷ λ x st.
      within (pos 0) (pos 31) range_fault x st ▷ λ x st.
      Value Normal (store_number l (with_element o (st.store l) x) st)
  step_layer step.Halt a st = Ended halt_status st.out
  step_layer (step.If e body others) a st =
      value lacking p ask world e a st ▷ λ v st.
      if is_true v then in_turn body a st else if_there others a st
  step_layer (step.Case e arms others) a st =
      value lacking p ask world e a st ▷ λ v st. choose_arm v arms (or_else others) a st
  step_layer (step.While e body) a st =
      while_true n (value lacking p ask world e a) (in_turn body a) st
  step_layer (step.Repeat body e) a st =
      until_true n (in_turn body a) (value lacking p ask world e a) st
  step_layer (step.Loop body) a st = loop_outcome n (in_turn body a) st
  step_layer step.Exit a st = Value Exited st
  -- a function returns with a value
  step_layer step.Return a st =
      if function then Ended lacking st.out else Value (Returned (pos 0)) st
  step_layer (step.Give t e) a st =
      if function
      then (value lacking p ask world e a st ▷ λ v st.
      taken_as lacking p ask world a.types t v st ▷ λ v st. Value (Returned v) st)
      else Ended lacking st.out
  step_layer (step.For d t start limit by body) a st =
      cell d a st ▷ λ l st.
      value lacking p ask world start a st ▷ λ v st.
      if_provided lacking (is_ranged a.types t) (as_type a.types t v) st ▷ λ v st.
      value lacking p ask world limit a st ▷ λ last st.
      for_all n (as_type a.types t) l by last (in_turn body a) (store_number l v st)
  step_layer (step.With d body) a st =
      locate lacking p ask world d a st ▷ λ l st.
      in_turn body (record a { withs = a.withs ++ l ∷ [] }) st

  abbrev pub arm_layer : TypedArm-F Does Arm → Arm
  arm_layer x = record { labels = x.labels; does = in_turn x.body }

  unfoldable pub does : TypedStmt → Does
  does = fold-TypedStmt Does Arm step_layer arm_layer
