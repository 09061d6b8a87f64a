-- What the pieces of the interpreter give, in the definition's words.
use Rattle.std.specs.Prelude.{◌≡◌, ℕ, zero, suc, length, ℤ, pos, ◌-◌, nat_lt, ◌+ℤ◌, Bool, true, false, slice_get, List, [], ◌∷◌, ◌++◌, map, Option, Some, None, if◌then◌else◌}
use Rattle.std.specs.List.{list_any}
use Rattle.std.specs.Option.{option_map}
use Rattle.typed_tree.specs.declared.types.TypeNo.{TypeNo}
use Rattle.typed_tree.specs.declared.known_types.Types.{Types}
use Rattle.typed_tree.specs.declared.computed.Argument.{Argument}
use Rattle.typed_tree.specs.declared.computed.Place.{Place}
use Rattle.typed_tree.specs.declared.computed.TypedExpr.{TypedExpr}
use Rattle.typed_tree.specs.declared.statement.TypedStmt.{TypedStmt}
use Rattle.typed_tree.specs.declared.statement.TypedArm.{TypedArm, out-TypedArm}
use Rattle.def_meaning.specs.Store.{Location, overlay}
use Rattle.def_meaning.specs.Answer.{State as Meant, Answer as Given, Value, Ended, ◌▷◌, range_fault, empty_procedure}
use Rattle.def_meaning.specs.Outcome.{Outcome as Course, Normal}
use Rattle.def_meaning.specs.Operators.{truth, has}
use Rattle.def_meaning.specs.Environment.{Modules, Entry, Body, Procedure, module_callee}
use Rattle.def_meaning.specs.Environment.{Callee as Asked, Passed as Sent}
use Rattle.def_meaning.specs.Expressions.{within, as_type}
use Rattle.def_meaning.specs.Statements.{in_turn, does, while_true, until_true, loop_outcome, for_turns, for_all, is_labelled, store_number, has_passed, character}
use Rattle.def_meaning.specs.Calls.{Entered as Begun}
use Rattle.plain_store.specs.declared.state.State.{State}
use Rattle.plain_store.specs.declared.state.Answer.{Answer}
use Rattle.plain_store.specs.declared.state.Answer.TheVariants as answer
use Rattle.plain_values.specs.declared.checks.Operands.{Operands}
use Rattle.plain_steps.specs.declared.simple.Target.{Target}
use Rattle.plain_steps.specs.declared.simple.Ends.{Ends}
use Rattle.plain_steps.specs.declared.simple.Turns.{Turns}
use Rattle.plain_steps.specs.declared.callees.Found.{Found}
use Rattle.plain_values.specs.declared.program.Around.{Around}
use Rattle.plain_values.specs.declared.program.Passed.{Passed}
use Rattle.plain_store.specs.Seen.{view_of, stop_meaning}
use Rattle.plain_values.specs.Surroundings.{modules_of, asks_of, surroundings, argument_sent, value_in, located_in, all_given_in, steps_in}

-- ---- arguments

abbrev pub answered_sent : Answer Passed → State → Given Sent
answered_sent (answer.Value v) st = Value (argument_sent v) (view_of st)
answered_sent (answer.Stopped s) st = stop_meaning s st

abbrev pub answered_all : Answer (List Passed) → State → Given (List Sent)
answered_all (answer.Value vs) st = Value (map argument_sent vs) (view_of st)
answered_all (answer.Stopped s) st = stop_meaning s st

-- ---- two parts, one after the other

unfoldable pub pair_in : Around → (first second : TypedExpr) → Meant → Given Operands
pair_in a e e' st =
    value_in a e st ▷ λ x st.
    value_in a e' st ▷ λ y st. Value (record { first = x; second = y }) st

unfoldable pub in_in : Around → (element set : TypedExpr) → Meant → Given ℤ
in_in a e e' st =
    value_in a e st ▷ λ x st.
    within (pos 0) (pos 31) range_fault x st ▷ λ x st.
    value_in a e' st ▷ λ s st. Value (truth (has s x)) st

unfoldable pub target_in : Around → Place → TypedExpr → Meant → Given Target
target_in a d e st =
    located_in a d st ▷ λ l st.
    value_in a e st ▷ λ v st. Value (record { l = l; v = v }) st

unfoldable pub ends_in : Around → (to from : Place) → Meant → Given Ends
ends_in a d d' st =
    located_in a d st ▷ λ l st.
    located_in a d' st ▷ λ l' st. Value (record { to = l; from = l' }) st

unfoldable pub asked_in : Around → Option Asked → List Argument → Meant → Given ℤ
asked_in a c xs st =
    all_given_in a xs st ▷ λ vs st.
    asks_of a c vs (surroundings a).next (surroundings a).free st

-- the empty procedure is a fault before the arguments
abbrev pub asked_if_in : Around → Option Asked → List Argument → Meant → Given ℤ
asked_if_in a None xs st = Ended empty_procedure st.out
asked_if_in a (Some c) xs st = asked_in a (Some c) xs st

-- ---- loops

unfoldable pub while_in : Around → TypedExpr → List TypedStmt → ℕ → Meant → Course
while_in a e body n st = while_true n (value_in a e) (steps_in a body) st

unfoldable pub repeat_in : Around → List TypedStmt → TypedExpr → ℕ → Meant → Course
repeat_in a body e n st = until_true n (steps_in a body) (value_in a e) st

unfoldable pub loop_in : Around → List TypedStmt → ℕ → Meant → Course
loop_in a body n st = loop_outcome n (steps_in a body) st

-- the control variable, its start, and the limit
unfoldable pub turns_in : Around → Place → TypeNo → (start limit : TypedExpr) → Meant → Given Turns
turns_in a d t start limit st =
    located_in a d st ▷ λ l st.
    value_in a start st ▷ λ v st.
    as_type (surroundings a).types t v st ▷ λ v st.
    value_in a limit st ▷ λ last st. Value (record { l = l; v = v; last = last }) st

unfoldable pub for_in : Around → TypeNo → (by : ℤ) → List TypedStmt → (l : Location) → (last : ℤ)
    → ℕ → Meant → Course
for_in a t by body l last n st =
    for_turns n (as_type (surroundings a).types t) l by last (steps_in a body) st

unfoldable pub for_begun : Around → TypeNo → (by : ℤ) → List TypedStmt → Turns → Meant → Course
for_begun a t by body x st =
    for_all a.program.now.bound (as_type (surroundings a).types t) x.l by x.last (steps_in a body)
    (store_number x.l x.v st)

-- ---- WITH

unfoldable pub under_in : Around → Location → List TypedStmt → Meant → Course
under_in a l body st =
    in_turn (map (does (modules_of a.program.now) (asks_of a) a.program.now.bound) body)
    (record (surroundings a) { withs = (surroundings a).withs ++ l ∷ [] }) st

-- ---- CASE

-- the first arm with a label for the value
abbrev pub first_arm : ℤ → List TypedArm → Option TypedArm
first_arm v [] = None
first_arm v (x ∷ xs) =
    if list_any (is_labelled v) (out-TypedArm x).labels then Some x else first_arm v xs

-- its statements, or else these
unfoldable pub arm_or_else : Around → Option TypedArm → (Meant → Course) → Meant → Course
arm_or_else a None other st = other st
arm_or_else a (Some x) other st = steps_in a (out-TypedArm x).body st

-- ---- procedures

-- the place and the number of a procedure among all entries
abbrev pub found_in : Option Entry → Option Found
found_in None = None
found_in (Some Body) = None
found_in (Some (Procedure place number)) = Some (record { place = place; number = number })

abbrev pub found_callee : Modules → Option Found → Option Asked
found_callee p None = None
found_callee p (Some x) = module_callee p x.place x.number

abbrev pub entries_at : (place : ℕ) → Modules → ℕ → Option Found
entries_at place [] k = None
entries_at place (m ∷ ms) zero = None
entries_at place (m ∷ ms) (suc j) =
    if nat_lt j (length m.procedures)
    then Some (record { place = place; number = j })
    else entries_at (suc place) ms (j - length m.procedures)

-- ---- pieces of statements

unfoldable pub text_put : List ℕ → Location → Meant → Course
text_put text l st = Value Normal (record st { store = overlay l (character text) st.store })

-- whether the turns of a FOR are over, after one of them
unfoldable pub turns_over : Types → TypeNo → Location → (by last : ℤ) → Meant → Given Bool
turns_over types t l by last st =
    if has_passed by last (st.store l +ℤ by)
    then Value true st
    else (as_type types t (st.store l +ℤ by) st ▷ λ v st. Value false (store_number l v st))
