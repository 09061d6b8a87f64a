-- What each statement does in its surroundings, from what its own parts do.
use Rattle.std.proofs.Common.{◌≡◌, ℕ, suc, ◌+◌, ◌-◌, ◌<◌, ◌≤◌, ℤ, pos, Bool, true, false, List, [], ◌∷◌, ◌++◌, map, Option, Some, None, refl, ap, sym, ◌∙◌, arith}
use Rattle.std.proofs.Math.Path.{fun_ext}
use Rattle.std.specs.Prelude.{◌+ℤ◌, if◌then◌else◌}
use Rattle.std.specs.List.{list_any}
use Rattle.typed_tree.specs.declared.types.TypeNo.{TypeNo}
use Rattle.typed_tree.specs.declared.known_types.Types.{Types}
use Rattle.typed_tree.specs.declared.computed.Call.{Call}
use Rattle.typed_tree.specs.declared.computed.Place.{Place}
use Rattle.typed_tree.specs.declared.computed.TypedExpr.{TypedExpr}
use Rattle.typed_tree.specs.declared.statement.Change.{Change}
use Rattle.typed_tree.specs.declared.statement.Membership.{Membership}
use Rattle.typed_tree.specs.declared.statement.TypedStmt.{TypedStmt, TypedStmt-F, out-TypedStmt, map-TypedStmt, fold_out-TypedStmt}
use Rattle.typed_tree.specs.declared.statement.TypedStmt.TheOpen as layer
use Rattle.typed_tree.specs.declared.statement.TypedStmt.TheVariants as sv
use Rattle.typed_tree.specs.declared.statement.TypedArm.{TypedArm, out-TypedArm, fold-TypedArm, fold_out-TypedArm}
use Rattle.typed_tree.specs.Types.{char}
use Rattle.def_meaning.specs.Store.{Location, copy_whole}
use Rattle.def_meaning.specs.Answer.{State as Meant, Answer as Given, Value, ◌▷◌, range_fault, case_fault, halt_status, Ended, StillRunning}
use Rattle.def_meaning.specs.Outcome.{Outcome as Course, Normal, Exited, Returned, sequence}
use Rattle.def_meaning.specs.Operators.{is_true}
use Rattle.def_meaning.specs.Environment.{Modules, Environment as Setting}
use Rattle.def_meaning.specs.Expressions.{Asks, within, as_type}
use Rattle.def_meaning.specs.Statements.{Does, Arm, in_turn, or_else, choose_arm, does, step_layer, arm_layer, store_number, loop_outcome, loop_left, while_true, until_true, has_passed, for_turns, for_all, is_labelled, change_by, recheck_value, with_element}
use Rattle.plain_store.specs.declared.state.State.{State}
use Rattle.plain_store.specs.declared.state.Stop.{Stop}
use Rattle.plain_store.specs.declared.state.Stop.TheVariants as stop
use Rattle.plain_values.specs.declared.program.Around.{Around}
use Rattle.plain_values.specs.declared.program.Program.{Program}
use Rattle.plain_steps.specs.declared.simple.Target.{Target}
use Rattle.plain_steps.specs.declared.simple.Ends.{Ends}
use Rattle.plain_steps.specs.declared.simple.Turns.{Turns}
use Rattle.plain_store.specs.Seen.{stop_meaning, stop_course as halts, with_store, with_byte}
use Rattle.plain_values.specs.Surroundings.{modules_of, asks_of, surroundings, value_in, located_in, called_in, does_in, steps_in, IsUnder}
use Rattle.plain_steps.specs.Parts.{target_in, ends_in, turns_in, while_in, repeat_in, loop_in, for_in, for_begun, arm_or_else, under_in, first_arm, text_put, turns_over}
use Rattle.plain_store.proofs.Threads.{gave, stays, with_gave, with_stays, went, left, came}
use Rattle.plain_store.proofs.Threads.{halts as halts_on}

armed : (p : Modules) (ask : Asks) (n : ℕ) → TypedArm → Arm
armed p ask n = fold-TypedArm Does Arm (step_layer p ask n) (arm_layer p ask n)

abbrev opened : (p : Modules) (ask : Asks) (n : ℕ) → TypedStmt-F TypedStmt TypedArm → TypedStmt-F Does Arm
opened p ask n x = map-TypedStmt TypedStmt TypedArm Does Arm (does p ask n) (armed p ask n) x

at_stmt : (p : Modules) (ask : Asks) (n : ℕ) (s : TypedStmt) (x : TypedStmt-F TypedStmt TypedArm) → out-TypedStmt s ≡ x
    → does p ask n s ≡ step_layer p ask n (opened p ask n x)
unfolding does armed
at_stmt p ask n s x h = fold_out-TypedStmt Does Arm (step_layer p ask n) (arm_layer p ask n) s
    ∙ ap (λ (y : TypedStmt-F TypedStmt TypedArm). step_layer p ask n (opened p ask n y)) h

armed_is : (p : Modules) (ask : Asks) (n : ℕ) (x : TypedArm)
    → armed p ask n x ≡ record {
      labels = (out-TypedArm x).labels;
      does =
          in_turn (map (does p ask n) (out-TypedArm x).body);
    }
unfolding does armed
armed_is p ask n x = fold_out-TypedArm Does Arm (step_layer p ask n) (arm_layer p ask n) x

-- ---- two parts, and what is made of both

abbrev target_of : Location → ℤ → Target
target_of l v = record { l = l; v = v }

abbrev ends_of : (to from : Location) → Ends
ends_of l l' = record { to = l; from = l' }

target_last : (s : Given ℤ) (l : Location) (k : Location → ℤ → Meant → Course)
    → (s ▷ (λ v st. k l v st)) ≡ ((s ▷ λ v st. Value (target_of l v) st) ▷ λ (x : Target) (st : Meant). k x.l x.v st)
target_last (Value v st) l k = refl
target_last (Ended n out) l k = refl
target_last (StillRunning out) l k = refl

target_both : (r : Given Location) (f : Meant → Given ℤ) (k : Location → ℤ → Meant → Course)
    → (r ▷ (λ l st. f st ▷ λ v st. k l v st))
    ≡ ((r ▷ λ l st. f st ▷ λ v st. Value (target_of l v) st) ▷ λ (x : Target) (st : Meant). k x.l x.v st)
target_both (Value l st) f k = target_last (f st) l k
target_both (Ended n out) f k = refl
target_both (StillRunning out) f k = refl

ends_last : (s : Given Location) (l : Location) (k : Location → Location → Meant → Course)
    → (s ▷ (λ l' st. k l l' st)) ≡ ((s ▷ λ l' st. Value (ends_of l l') st) ▷ λ (x : Ends) (st : Meant). k x.to x.from
    st)
ends_last (Value v st) l k = refl
ends_last (Ended n out) l k = refl
ends_last (StillRunning out) l k = refl

ends_both : (r : Given Location) (f : Meant → Given Location) (k : Location → Location → Meant → Course)
    → (r ▷ (λ l st. f st ▷ λ l' st. k l l' st))
    ≡ ((r ▷ λ l st. f st ▷ λ l' st. Value (ends_of l l') st) ▷ λ (x : Ends) (st : Meant). k x.to x.from st)
ends_both (Value l st) f k = ends_last (f st) l k
ends_both (Ended n out) f k = refl
ends_both (StillRunning out) f k = refl

abbrev made : Location → ℤ → ℤ → Turns
made l v last = record { l = l; v = v; last = last }

turns_1 : (s : Given ℤ) (l : Location) (v : ℤ) (k : Turns → Meant → Course)
    → (s ▷ (λ last st. k (made l v last) st)) ≡ ((s ▷ λ last st. Value (made l v last) st) ▷ k)
turns_1 (Value last st) l v k = refl
turns_1 (Ended n out) l v k = refl
turns_1 (StillRunning out) l v k = refl

turns_2 : (s : Given ℤ) (l : Location) (h : Meant → Given ℤ) (k : Turns → Meant → Course)
    → (s ▷ (λ v st. h st ▷ λ last st. k (made l v last) st))
    ≡ ((s ▷ λ v st. h st ▷ λ last st. Value (made l v last) st) ▷ k)
turns_2 (Value v st) l h k = turns_1 (h st) l v k
turns_2 (Ended n out) l h k = refl
turns_2 (StillRunning out) l h k = refl

turns_3 : (s : Given ℤ) (l : Location) (g : ℤ → Meant → Given ℤ) (h : Meant → Given ℤ) (k : Turns → Meant → Course)
    → (s ▷ (λ v st. g v st ▷ λ v st. h st ▷ λ last st. k (made l v last) st))
    ≡ ((s ▷ λ v st. g v st ▷ λ v st. h st ▷ λ last st. Value (made l v last) st) ▷ k)
turns_3 (Value v st) l g h k = turns_2 (g v st) l h k
turns_3 (Ended n out) l g h k = refl
turns_3 (StillRunning out) l g h k = refl

turns_4 : (r : Given Location) (f : Meant → Given ℤ) (g : ℤ → Meant → Given ℤ) (h : Meant → Given ℤ)
    (k : Turns → Meant → Course)
    → (r ▷ (λ l st. f st ▷ λ v st. g v st ▷ λ v st. h st ▷ λ last st. k (made l v last) st))
    ≡ ((r ▷ λ l st. f st ▷ λ v st. g v st ▷ λ v st. h st ▷ λ last st. Value (made l v last) st) ▷ k)
turns_4 (Value l st) f g h k = turns_3 (f st) l g h k
turns_4 (Ended n out) f g h k = refl
turns_4 (StillRunning out) f g h k = refl

-- ---- the arms of a CASE

picked : (a : Around) (b : Bool) (x : TypedArm) (o : Option TypedArm) (rest : Course) (other : Meant → Course)
    (st : Meant) → rest ≡ arm_or_else a o other st
    → (if b then steps_in a (out-TypedArm x).body st else rest) ≡ arm_or_else a (if b then Some x else o) other st
unfolding arm_or_else
picked a true x o rest other st h = refl
picked a false x o rest other st h = h

if_applied : {A B : Type 0} (b : Bool) (f g : A → B → Course) (x : A) (y : B)
    → (if b then f else g) x y ≡ (if b then f x y else g x y)
if_applied true f g x y = refl
if_applied false f g x y = refl

chosen_is : (a : Around) (v : ℤ) (xs : List TypedArm) (other : Does) (st : Meant)
    → choose_arm v (map (armed (modules_of a.program.now) (asks_of a) a.program.now.bound) xs) other (surroundings a) st
    ≡ arm_or_else a (first_arm v xs) (λ st. other (surroundings a) st) st
unfolding arm_or_else steps_in
chosen_is a v [] other st = refl
chosen_is a v (x ∷ xs) other st =
    let rest : Does = choose_arm v (map (armed (modules_of a.program.now) (asks_of a) a.program.now.bound) xs) other in
    ap (λ (y : Arm). (if list_any (is_labelled v) y.labels then y.does else rest) (surroundings a) st)
    (armed_is (modules_of a.program.now) (asks_of a) a.program.now.bound x)
    ∙ if_applied (list_any (is_labelled v) (out-TypedArm x).labels)
    (in_turn (map (does (modules_of a.program.now) (asks_of a) a.program.now.bound) (out-TypedArm x).body)) rest
    (surroundings a) st
    ∙ picked a (list_any (is_labelled v) (out-TypedArm x).labels) x (first_arm v xs) (rest (surroundings a) st)
    (λ st. other (surroundings a) st) st (chosen_is a v xs other st)

pub step_Assign : (a : Around) (d : Place) (t : TypeNo) (e : TypedExpr) (st : Meant)
    → does_in a (sv.Assign d t e) st ≡ (target_in a d e st ▷ λ x st. as_type (surroundings a).types t x.v st ▷ λ v st.
    Value Normal (store_number x.l v st))
unfolding does_in steps_in value_in located_in called_in target_in ends_in turns_in while_in repeat_in loop_in for_begun
    under_in text_put
step_Assign a d t e st = ap (λ (g : Does). g (surroundings a) st)
    (at_stmt (modules_of a.program.now) (asks_of a) a.program.now.bound (sv.Assign d t e) (layer.Assign d t e)
    (sv.outs-Assign d t e)) ∙ target_both (located_in a d st) (value_in a e)
    (λ l v st. as_type (surroundings a).types t v st ▷ λ v st. Value Normal (store_number l v st))

pub step_Copy : (a : Around) (d : Place) (d' : Place) (t : TypeNo) (st : Meant)
    → does_in a (sv.Copy d d' t) st ≡ (ends_in a d d' st ▷ λ x st. Value Normal
    (with_store (copy_whole x.to x.from st.store) st))
unfolding does_in steps_in value_in located_in called_in target_in ends_in turns_in while_in repeat_in loop_in for_begun
    under_in text_put
step_Copy a d d' t st = ap (λ (g : Does). g (surroundings a) st)
    (at_stmt (modules_of a.program.now) (asks_of a) a.program.now.bound (sv.Copy d d' t) (layer.Copy d d' t)
    (sv.outs-Copy d d' t)) ∙ ends_both (located_in a d st) (located_in a d')
    (λ l l' st. Value Normal (with_store (copy_whole l l' st.store) st))

pub step_CopyText : (a : Around) (d : Place) (t : TypeNo) (text : List ℕ) (st : Meant)
    → does_in a (sv.CopyText d t text) st ≡ (located_in a d st ▷ (text_put text))
unfolding does_in steps_in value_in located_in called_in target_in ends_in turns_in while_in repeat_in loop_in for_begun
    under_in text_put
step_CopyText a d t text st = ap (λ (g : Does). g (surroundings a) st)
    (at_stmt (modules_of a.program.now) (asks_of a) a.program.now.bound (sv.CopyText d t text) (layer.CopyText d t text)
    (sv.outs-CopyText d t text))

pub step_Call : (a : Around) (c : Call) (st : Meant)
    → does_in a (sv.Call c) st ≡ (called_in a c st ▷ λ v st. Value Normal st)
unfolding does_in steps_in value_in located_in called_in target_in ends_in turns_in while_in repeat_in loop_in for_begun
    under_in text_put
step_Call a c st = ap (λ (g : Does). g (surroundings a) st)
    (at_stmt (modules_of a.program.now) (asks_of a) a.program.now.bound (sv.Call c) (layer.Call c) (sv.outs-Call c))

pub step_Put : (a : Around) (e : TypedExpr) (st : Meant)
    → does_in a (sv.Put e) st ≡ (value_in a e st ▷ λ v st. as_type (surroundings a).types char v st ▷ λ v st. Value
    Normal (with_byte v st))
unfolding does_in steps_in value_in located_in called_in target_in ends_in turns_in while_in repeat_in loop_in for_begun
    under_in text_put
step_Put a e st = ap (λ (g : Does). g (surroundings a) st)
    (at_stmt (modules_of a.program.now) (asks_of a) a.program.now.bound (sv.Put e) (layer.Put e) (sv.outs-Put e))

pub step_Change : (a : Around) (o : Change) (d : Place) (t : TypeNo) (e : TypedExpr) (st : Meant)
    → does_in a (sv.Change o d t e) st ≡ (target_in a d e st ▷ λ x st. recheck_value (surroundings a).types t
    (change_by o (st.store x.l) x.v) st ▷ λ v st. Value Normal (store_number x.l v st))
unfolding does_in steps_in value_in located_in called_in target_in ends_in turns_in while_in repeat_in loop_in for_begun
    under_in text_put
step_Change a o d t e st = ap (λ (g : Does). g (surroundings a) st)
    (at_stmt (modules_of a.program.now) (asks_of a) a.program.now.bound (sv.Change o d t e) (layer.Change o d t e)
    (sv.outs-Change o d t e)) ∙ target_both (located_in a d st) (value_in a e)
    (λ l by st. recheck_value (surroundings a).types t (change_by o (st.store l) by) st ▷ λ v st. Value Normal
    (store_number l v st))

pub step_Membership : (a : Around) (o : Membership) (d : Place) (e : TypedExpr) (st : Meant)
    → does_in a (sv.Membership o d e) st ≡
    (target_in a d e st ▷ λ x st. within (pos 0) (pos 31) range_fault x.v st ▷ λ v st. Value Normal
    (store_number x.l (with_element o (st.store x.l) v) st))
unfolding does_in steps_in value_in located_in called_in target_in ends_in turns_in while_in repeat_in loop_in for_begun
    under_in text_put
step_Membership a o d e st = ap (λ (g : Does). g (surroundings a) st)
    (at_stmt (modules_of a.program.now) (asks_of a) a.program.now.bound (sv.Membership o d e) (layer.Membership o d e)
    (sv.outs-Membership o d e)) ∙ target_both (located_in a d st) (value_in a e)
    (λ l x st. within (pos 0) (pos 31) range_fault x st ▷ λ x st. Value Normal
    (store_number l (with_element o (st.store l) x) st))

pub step_Halt : (a : Around) (st : Meant) → does_in a sv.Halt st ≡ Ended halt_status st.out
unfolding does_in steps_in value_in located_in called_in target_in ends_in turns_in while_in repeat_in loop_in for_begun
    under_in text_put
step_Halt a st = ap (λ (g : Does). g (surroundings a) st)
    (at_stmt (modules_of a.program.now) (asks_of a) a.program.now.bound sv.Halt layer.Halt sv.outs-Halt)

pub step_If_None : (a : Around) (e : TypedExpr) (xs : List TypedStmt) (st : Meant)
    → does_in a (sv.If e xs None) st ≡ (value_in a e st ▷ λ v st. if is_true v then steps_in a xs st else Value Normal
    st)
unfolding does_in steps_in value_in located_in called_in target_in ends_in turns_in while_in repeat_in loop_in for_begun
    under_in text_put
step_If_None a e xs st = ap (λ (g : Does). g (surroundings a) st)
    (at_stmt (modules_of a.program.now) (asks_of a) a.program.now.bound (sv.If e xs None) (layer.If e xs None)
    (sv.outs-If e xs None))

pub step_If_Some : (a : Around) (e : TypedExpr) (xs : List TypedStmt) (ys : List TypedStmt) (st : Meant)
    → does_in a (sv.If e xs (Some ys)) st ≡
    (value_in a e st ▷ λ v st. if is_true v then steps_in a xs st else steps_in a ys st)
unfolding does_in steps_in value_in located_in called_in target_in ends_in turns_in while_in repeat_in loop_in for_begun
    under_in text_put
step_If_Some a e xs ys st = ap (λ (g : Does). g (surroundings a) st)
    (at_stmt (modules_of a.program.now) (asks_of a) a.program.now.bound (sv.If e xs (Some ys)) (layer.If e xs (Some ys))
    (sv.outs-If e xs (Some ys)))

pub step_Case_None : (a : Around) (e : TypedExpr) (arms : List TypedArm) (st : Meant)
    → does_in a (sv.Case e arms None) st ≡
    (value_in a e st ▷ λ v st. arm_or_else a (first_arm v arms) (λ st. Ended case_fault st.out) st)
unfolding does_in steps_in value_in located_in called_in target_in ends_in turns_in while_in repeat_in loop_in for_begun
    under_in text_put
step_Case_None a e arms st = ap (λ (g : Does). g (surroundings a) st)
    (at_stmt (modules_of a.program.now) (asks_of a) a.program.now.bound (sv.Case e arms None) (layer.Case e arms None)
    (sv.outs-Case e arms None)) ∙ ap (λ (k : ℤ → Meant → Course). (value_in a e st ▷ k))
    (fun_ext (λ v. fun_ext (λ st. chosen_is a v arms (or_else None) st)))

pub step_Case_Some : (a : Around) (e : TypedExpr) (arms : List TypedArm) (ys : List TypedStmt) (st : Meant)
    → does_in a (sv.Case e arms (Some ys)) st
    ≡ (value_in a e st ▷ λ v st. arm_or_else a (first_arm v arms) (λ st. steps_in a ys st) st)
unfolding does_in steps_in value_in located_in called_in target_in ends_in turns_in while_in repeat_in loop_in for_begun
    under_in text_put
step_Case_Some a e arms ys st = ap (λ (g : Does). g (surroundings a) st)
    (at_stmt (modules_of a.program.now) (asks_of a) a.program.now.bound (sv.Case e arms (Some ys))
    (layer.Case e arms (Some ys)) (sv.outs-Case e arms (Some ys)))
    ∙ ap (λ (k : ℤ → Meant → Course). (value_in a e st ▷ k))
    (fun_ext (λ v. fun_ext (λ st. chosen_is a v arms
    (or_else (Some (map (does (modules_of a.program.now) (asks_of a) a.program.now.bound) ys))) st)))

pub step_While : (a : Around) (e : TypedExpr) (xs : List TypedStmt) (st : Meant)
    → does_in a (sv.While e xs) st ≡ while_in a e xs a.program.now.bound st
unfolding does_in steps_in value_in located_in called_in target_in ends_in turns_in while_in repeat_in loop_in for_begun
    under_in text_put
step_While a e xs st = ap (λ (g : Does). g (surroundings a) st)
    (at_stmt (modules_of a.program.now) (asks_of a) a.program.now.bound (sv.While e xs) (layer.While e xs)
    (sv.outs-While e xs))

pub step_Repeat : (a : Around) (xs : List TypedStmt) (e : TypedExpr) (st : Meant)
    → does_in a (sv.Repeat xs e) st ≡ repeat_in a xs e a.program.now.bound st
unfolding does_in steps_in value_in located_in called_in target_in ends_in turns_in while_in repeat_in loop_in for_begun
    under_in text_put
step_Repeat a xs e st = ap (λ (g : Does). g (surroundings a) st)
    (at_stmt (modules_of a.program.now) (asks_of a) a.program.now.bound (sv.Repeat xs e) (layer.Repeat xs e)
    (sv.outs-Repeat xs e))

pub step_Loop : (a : Around) (xs : List TypedStmt) (st : Meant)
    → does_in a (sv.Loop xs) st ≡ loop_in a xs a.program.now.bound st
unfolding does_in steps_in value_in located_in called_in target_in ends_in turns_in while_in repeat_in loop_in for_begun
    under_in text_put
step_Loop a xs st = ap (λ (g : Does). g (surroundings a) st)
    (at_stmt (modules_of a.program.now) (asks_of a) a.program.now.bound (sv.Loop xs) (layer.Loop xs) (sv.outs-Loop xs))

pub step_Exit : (a : Around) (st : Meant) → does_in a sv.Exit st ≡ Value Exited st
unfolding does_in steps_in value_in located_in called_in target_in ends_in turns_in while_in repeat_in loop_in for_begun
    under_in text_put
step_Exit a st = ap (λ (g : Does). g (surroundings a) st)
    (at_stmt (modules_of a.program.now) (asks_of a) a.program.now.bound sv.Exit layer.Exit sv.outs-Exit)

pub step_Return : (a : Around) (st : Meant) → does_in a sv.Return st ≡ Value (Returned (pos 0)) st
unfolding does_in steps_in value_in located_in called_in target_in ends_in turns_in while_in repeat_in loop_in for_begun
    under_in text_put
step_Return a st = ap (λ (g : Does). g (surroundings a) st)
    (at_stmt (modules_of a.program.now) (asks_of a) a.program.now.bound sv.Return layer.Return sv.outs-Return)

pub step_Give : (a : Around) (t : TypeNo) (e : TypedExpr) (st : Meant)
    → does_in a (sv.Give t e) st ≡ (value_in a e st ▷ λ v st. as_type (surroundings a).types t v st ▷ λ v st. Value
    (Returned v) st)
unfolding does_in steps_in value_in located_in called_in target_in ends_in turns_in while_in repeat_in loop_in for_begun
    under_in text_put
step_Give a t e st = ap (λ (g : Does). g (surroundings a) st)
    (at_stmt (modules_of a.program.now) (asks_of a) a.program.now.bound (sv.Give t e) (layer.Give t e)
    (sv.outs-Give t e))

pub step_For : (a : Around) (d : Place) (t : TypeNo) (e : TypedExpr) (e' : TypedExpr) (by : ℤ) (xs : List TypedStmt)
    (st : Meant) → does_in a (sv.For d t e e' by xs) st ≡ (turns_in a d t e e' st ▷ (for_begun a t by xs))
unfolding does_in steps_in value_in located_in called_in target_in ends_in turns_in while_in repeat_in loop_in for_begun
    under_in text_put
step_For a d t e e' by xs st = ap (λ (g : Does). g (surroundings a) st)
    (at_stmt (modules_of a.program.now) (asks_of a) a.program.now.bound (sv.For d t e e' by xs)
    (layer.For d t e e' by xs) (sv.outs-For d t e e' by xs))
    ∙ turns_4 (located_in a d st) (value_in a e) (as_type (surroundings a).types t) (value_in a e')
    (for_begun a t by xs)

pub step_With : (a : Around) (d : Place) (xs : List TypedStmt) (st : Meant)
    → does_in a (sv.With d xs) st ≡ (located_in a d st ▷ λ l st. under_in a l xs st)
unfolding does_in steps_in value_in located_in called_in target_in ends_in turns_in while_in repeat_in loop_in for_begun
    under_in text_put
step_With a d xs st = ap (λ (g : Does). g (surroundings a) st)
    (at_stmt (modules_of a.program.now) (asks_of a) a.program.now.bound (sv.With d xs) (layer.With d xs)
    (sv.outs-With d xs))

pub cased_some : (a : Around) (o : Option TypedArm) (x : TypedArm) (other : Meant → Course) (st : Meant) → o ≡ Some x
    → arm_or_else a o other st ≡ steps_in a (out-TypedArm x).body st
unfolding arm_or_else
cased_some a o x other st h = ap (λ (y : Option TypedArm). arm_or_else a y other st) h

pub cased_none : (a : Around) (o : Option TypedArm) (other : Meant → Course) (st : Meant) → o ≡ None
    → arm_or_else a o other st ≡ other st
unfolding arm_or_else
cased_none a o other st h = ap (λ (y : Option TypedArm). arm_or_else a y other st) h

pub under_is : (a inner : Around) (l : Location) (xs : List TypedStmt) (st : Meant) → IsUnder a l inner
    → under_in a l xs st ≡ steps_in inner xs st
unfolding under_in steps_in
under_is a inner l xs st i = sym (
    ap (λ (s : Setting). in_turn (map (does (modules_of inner.program.now) (asks_of inner) inner.program.now.bound) xs)
    s st) i.setting
    ∙ ap (λ (k : Asks). in_turn (map (does (modules_of inner.program.now) k inner.program.now.bound) xs)
    (record (surroundings a) { withs = (surroundings a).withs ++ l ∷ [] }) st) i.asks
    ∙ ap (λ (p : Program). in_turn (map (does (modules_of p) (asks_of a) p.bound) xs)
    (record (surroundings a) { withs = (surroundings a).withs ++ l ∷ [] }) st) i.program)

pub for_over : (a : Around) (t : TypeNo) (by : ℤ) (b : Bool) (xs : List TypedStmt) (x : Turns) (st st' : Meant)
    → st' ≡ store_number x.l x.v st → b ≡ has_passed by x.last (st'.store x.l) → b ≡ true
    → for_begun a t by xs x st ≡ Value Normal st'
unfolding for_begun
for_over a t by b xs x st st' e f h =
    ap (λ (s : Meant). for_all a.program.now.bound (as_type (surroundings a).types t) x.l by x.last (steps_in a xs) s)
    (sym e)
    ∙ ap (λ (b : Bool). if b then Value Normal st' else for_turns a.program.now.bound (as_type (surroundings a).types t)
    x.l by x.last (steps_in a xs) st') (sym f ∙ h)

pub for_on : (a : Around) (t : TypeNo) (by : ℤ) (b : Bool) (xs : List TypedStmt) (x : Turns) (st st' : Meant)
    → st' ≡ store_number x.l x.v st → b ≡ has_passed by x.last (st'.store x.l) → b ≡ false
    → for_begun a t by xs x st ≡ for_in a t by xs x.l x.last a.program.now.bound st'
unfolding for_begun for_in
for_on a t by b xs x st st' e f h =
    ap (λ (s : Meant). for_all a.program.now.bound (as_type (surroundings a).types t) x.l by x.last (steps_in a xs) s)
    (sym e)
    ∙ ap (λ (b : Bool). if b then Value Normal st' else for_turns a.program.now.bound (as_type (surroundings a).types t)
    x.l by x.last (steps_in a xs) st') (sym f ∙ h)

pub ruleset variants = (
  step_Assign,
  step_Copy,
  step_CopyText,
  step_Call,
  step_Put,
  step_Change,
  step_Membership,
  step_Halt,
  step_If_None,
  step_If_Some,
  step_Case_None,
  step_Case_Some,
  step_While,
  step_Repeat,
  step_Loop,
  step_Exit,
  step_Return,
  step_Give,
  step_For,
  step_With,
  cased_some,
  cased_none,
  under_is,
  for_over,
  for_on,
  with_gave,
  with_stays,
)

-- ---- lists

pub steps_nil : (a : Around) (st : Meant) → steps_in a [] st ≡ Value Normal st
unfolding steps_in
steps_nil a st = refl

pub steps_cons : (a : Around) (s : TypedStmt) (ss : List TypedStmt) (st : Meant)
    → steps_in a (s ∷ ss) st ≡ sequence (does_in a s st) (steps_in a ss)
unfolding steps_in does_in
steps_cons a s ss st = refl

pub ruleset lists = (steps_nil, steps_cons, went, left, came, halts_on)

-- ---- loops, of which some turns are left

less : (n i : ℕ) → i < n → n - i ≡ suc (n - (i + 1))
less n i h = omega (arith, h)

none_left : (n i : ℕ) → n ≤ i → n - i ≡ 0
none_left n i h = omega (arith, h)

pub spent_stays : (a : Around) (e : TypedExpr) (xs : List TypedStmt) (n i : ℕ) (s : Stop) (st : Meant) (st' : State)
    → n ≤ i → value_in a e st ≡ stop_meaning s st' → while_in a e xs (n - i) st ≡ halts s st'
unfolding while_in
spent_stays a e xs n i s st st' h g = ap (λ (k : ℕ). while_in a e xs k st) (none_left n i h)
    ∙ with_stays (value_in a e st) s st' (λ v st. if is_true v then StillRunning st.out else Value Normal st) g

pub spent_ends : (a : Around) (e : TypedExpr) (xs : List TypedStmt) (n i : ℕ) (v : ℤ) (st st' : Meant) → n ≤ i
    → value_in a e st ≡ Value v st' → is_true v ≡ false → while_in a e xs (n - i) st ≡ Value Normal st'
unfolding while_in
spent_ends a e xs n i v st st' h g b = ap (λ (k : ℕ). while_in a e xs k st) (none_left n i h)
    ∙ ap (λ (r : Given ℤ). (r ▷ λ v st. if is_true v then StillRunning st.out else Value Normal st)) g
    ∙ ap (λ (b : Bool). if b then StillRunning st'.out else Value Normal st') b

pub spent_on : (a : Around) (e : TypedExpr) (xs : List TypedStmt) (n i : ℕ) (v : ℤ) (st st' : Meant) → n ≤ i
    → value_in a e st ≡ Value v st' → is_true v ≡ true → while_in a e xs (n - i) st ≡ StillRunning st'.out
unfolding while_in
spent_on a e xs n i v st st' h g b = ap (λ (k : ℕ). while_in a e xs k st) (none_left n i h)
    ∙ ap (λ (r : Given ℤ). (r ▷ λ v st. if is_true v then StillRunning st.out else Value Normal st)) g
    ∙ ap (λ (b : Bool). if b then StillRunning st'.out else Value Normal st') b

pub while_stays : (a : Around) (e : TypedExpr) (xs : List TypedStmt) (n i : ℕ) (s : Stop) (st : Meant) (st' : State)
    → i < n → value_in a e st ≡ stop_meaning s st' → while_in a e xs (n - i) st ≡ halts s st'
unfolding while_in
while_stays a e xs n i s st st' h g = ap (λ (k : ℕ). while_in a e xs k st) (less n i h)
    ∙ with_stays (value_in a e st) s st' (λ v st. if is_true v then sequence (steps_in a xs st)
    (while_true (n - (i + 1)) (value_in a e) (steps_in a xs)) else Value Normal st) g

pub while_ends : (a : Around) (e : TypedExpr) (xs : List TypedStmt) (n i : ℕ) (v : ℤ) (st st' : Meant) → i < n
    → value_in a e st ≡ Value v st' → is_true v ≡ false → while_in a e xs (n - i) st ≡ Value Normal st'
unfolding while_in
while_ends a e xs n i v st st' h g b = ap (λ (k : ℕ). while_in a e xs k st) (less n i h)
    ∙ ap (λ (r : Given ℤ). (r ▷ λ v st. if is_true v then sequence (steps_in a xs st)
    (while_true (n - (i + 1)) (value_in a e) (steps_in a xs)) else Value Normal st)) g
    ∙ ap (λ (b : Bool). if b then sequence (steps_in a xs st') (while_true (n - (i + 1)) (value_in a e) (steps_in a xs))
    else Value Normal st') b

pub while_left : (a : Around) (e : TypedExpr) (xs : List TypedStmt) (n i : ℕ) (v : ℤ) (st st' : Meant) (st2 : Meant)
    → i < n → value_in a e st ≡ Value v st' → is_true v ≡ true → steps_in a xs st' ≡ Value Exited st2
    → while_in a e xs (n - i) st ≡ Value Exited st2
unfolding while_in
while_left a e xs n i v st st' st2 h g b q = ap (λ (k : ℕ). while_in a e xs k st) (less n i h)
    ∙ ap (λ (r : Given ℤ). (r ▷ λ v st. if is_true v then sequence (steps_in a xs st)
    (while_true (n - (i + 1)) (value_in a e) (steps_in a xs)) else Value Normal st)) g
    ∙ ap (λ (b : Bool). if b then sequence (steps_in a xs st') (while_true (n - (i + 1)) (value_in a e) (steps_in a xs))
    else Value Normal st') b
    ∙ ap (λ (r : Course). sequence r (while_true (n - (i + 1)) (value_in a e) (steps_in a xs))) q

pub while_came : (a : Around) (e : TypedExpr) (xs : List TypedStmt) (n i : ℕ) (v : ℤ) (st st' : Meant) (w : ℤ)
    (st2 : Meant) → i < n → value_in a e st ≡ Value v st' → is_true v ≡ true
    → steps_in a xs st' ≡ Value (Returned w) st2 → while_in a e xs (n - i) st ≡ Value (Returned w) st2
unfolding while_in
while_came a e xs n i v st st' w st2 h g b q = ap (λ (k : ℕ). while_in a e xs k st) (less n i h)
    ∙ ap (λ (r : Given ℤ). (r ▷ λ v st. if is_true v then sequence (steps_in a xs st)
    (while_true (n - (i + 1)) (value_in a e) (steps_in a xs)) else Value Normal st)) g
    ∙ ap (λ (b : Bool). if b then sequence (steps_in a xs st') (while_true (n - (i + 1)) (value_in a e) (steps_in a xs))
    else Value Normal st') b
    ∙ ap (λ (r : Course). sequence r (while_true (n - (i + 1)) (value_in a e) (steps_in a xs))) q

pub while_halts : (a : Around) (e : TypedExpr) (xs : List TypedStmt) (n i : ℕ) (v : ℤ) (st st' : Meant) (s : Stop)
    (st2 : State) → i < n → value_in a e st ≡ Value v st' → is_true v ≡ true → steps_in a xs st' ≡ halts s st2
    → while_in a e xs (n - i) st ≡ halts s st2
unfolding while_in
while_halts a e xs n i v st st' s st2 h g b q = ap (λ (k : ℕ). while_in a e xs k st) (less n i h)
    ∙ ap (λ (r : Given ℤ). (r ▷ λ v st. if is_true v then sequence (steps_in a xs st)
    (while_true (n - (i + 1)) (value_in a e) (steps_in a xs)) else Value Normal st)) g
    ∙ ap (λ (b : Bool). if b then sequence (steps_in a xs st') (while_true (n - (i + 1)) (value_in a e) (steps_in a xs))
    else Value Normal st') b
    ∙ halts_on (steps_in a xs st') s st2 (while_true (n - (i + 1)) (value_in a e) (steps_in a xs)) q

pub while_goes : (a : Around) (e : TypedExpr) (xs : List TypedStmt) (n i : ℕ) (v : ℤ) (st st' st2 : Meant) → i < n
    → value_in a e st ≡ Value v st' → is_true v ≡ true → steps_in a xs st' ≡ Value Normal st2
    → while_in a e xs (n - i) st ≡ while_in a e xs (n - (i + 1)) st2
unfolding while_in
while_goes a e xs n i v st st' st2 h g b q = ap (λ (k : ℕ). while_in a e xs k st) (less n i h)
    ∙ ap (λ (r : Given ℤ). (r ▷ λ v st. if is_true v then sequence (steps_in a xs st)
    (while_true (n - (i + 1)) (value_in a e) (steps_in a xs)) else Value Normal st)) g
    ∙ ap (λ (b : Bool). if b then sequence (steps_in a xs st') (while_true (n - (i + 1)) (value_in a e) (steps_in a xs))
    else Value Normal st') b
    ∙ ap (λ (r : Course). sequence r (while_true (n - (i + 1)) (value_in a e) (steps_in a xs))) q

pub ruleset whiles = (
  spent_stays,
  spent_ends,
  spent_on,
  while_stays,
  while_ends,
  while_left,
  while_came,
  while_halts,
  while_goes,
)

pub repeat_over : (a : Around) (xs : List TypedStmt) (e : TypedExpr) (n i : ℕ) (st : Meant) → n ≤ i
    → repeat_in a xs e (n - i) st ≡ StillRunning st.out
unfolding repeat_in
repeat_over a xs e n i st h = ap (λ (k : ℕ). repeat_in a xs e k st) (none_left n i h)

pub repeat_left : (a : Around) (xs : List TypedStmt) (e : TypedExpr) (n i : ℕ) (st st' : Meant) → i < n
    → steps_in a xs st ≡ Value Exited st' → repeat_in a xs e (n - i) st ≡ Value Exited st'
unfolding repeat_in
repeat_left a xs e n i st st' h q = ap (λ (k : ℕ). repeat_in a xs e k st) (less n i h)
    ∙ ap (λ (r : Course). sequence r (λ st. value_in a e st ▷ λ v st. if is_true v then Value Normal st else until_true
    (n - (i + 1)) (steps_in a xs) (value_in a e) st)) q

pub repeat_came : (a : Around) (xs : List TypedStmt) (e : TypedExpr) (n i : ℕ) (w : ℤ) (st st' : Meant) → i < n
    → steps_in a xs st ≡ Value (Returned w) st' → repeat_in a xs e (n - i) st ≡ Value (Returned w) st'
unfolding repeat_in
repeat_came a xs e n i w st st' h q = ap (λ (k : ℕ). repeat_in a xs e k st) (less n i h)
    ∙ ap (λ (r : Course). sequence r (λ st. value_in a e st ▷ λ v st. if is_true v then Value Normal st else until_true
    (n - (i + 1)) (steps_in a xs) (value_in a e) st)) q

pub repeat_halts : (a : Around) (xs : List TypedStmt) (e : TypedExpr) (n i : ℕ) (s : Stop) (st : Meant) (st' : State)
    → i < n → steps_in a xs st ≡ halts s st' → repeat_in a xs e (n - i) st ≡ halts s st'
unfolding repeat_in
repeat_halts a xs e n i s st st' h q = ap (λ (k : ℕ). repeat_in a xs e k st) (less n i h)
    ∙ halts_on (steps_in a xs st) s st' (λ st. value_in a e st ▷ λ v st. if is_true v then Value Normal st else
    until_true (n - (i + 1)) (steps_in a xs) (value_in a e) st) q

pub repeat_stays : (a : Around) (xs : List TypedStmt) (e : TypedExpr) (n i : ℕ) (s : Stop) (st st' : Meant)
    (st2 : State) → i < n → steps_in a xs st ≡ Value Normal st' → value_in a e st' ≡ stop_meaning s st2
    → repeat_in a xs e (n - i) st ≡ halts s st2
unfolding repeat_in
repeat_stays a xs e n i s st st' st2 h q g = ap (λ (k : ℕ). repeat_in a xs e k st) (less n i h)
    ∙ ap (λ (r : Course). sequence r (λ st. value_in a e st ▷ λ v st. if is_true v then Value Normal st else until_true
    (n - (i + 1)) (steps_in a xs) (value_in a e) st)) q
    ∙ with_stays (value_in a e st') s st2 (λ v st. if is_true v then Value Normal st else until_true (n - (i + 1))
    (steps_in a xs) (value_in a e) st) g

pub repeat_ends : (a : Around) (xs : List TypedStmt) (e : TypedExpr) (n i : ℕ) (v : ℤ) (st st' st2 : Meant) → i < n
    → steps_in a xs st ≡ Value Normal st' → value_in a e st' ≡ Value v st2 → is_true v ≡ true
    → repeat_in a xs e (n - i) st ≡ Value Normal st2
unfolding repeat_in
repeat_ends a xs e n i v st st' st2 h q g b = ap (λ (k : ℕ). repeat_in a xs e k st) (less n i h)
    ∙ ap (λ (r : Course). sequence r (λ st. value_in a e st ▷ λ v st. if is_true v then Value Normal st else until_true
    (n - (i + 1)) (steps_in a xs) (value_in a e) st)) q
    ∙ ap (λ (r : Given ℤ). (r ▷ λ v st. if is_true v then Value Normal st else until_true (n - (i + 1)) (steps_in a xs)
    (value_in a e) st)) g
    ∙ ap (λ (b : Bool). if b then Value Normal st2 else until_true (n - (i + 1)) (steps_in a xs) (value_in a e) st2) b

pub repeat_goes : (a : Around) (xs : List TypedStmt) (e : TypedExpr) (n i : ℕ) (v : ℤ) (st st' st2 : Meant) → i < n
    → steps_in a xs st ≡ Value Normal st' → value_in a e st' ≡ Value v st2 → is_true v ≡ false
    → repeat_in a xs e (n - i) st ≡ repeat_in a xs e (n - (i + 1)) st2
unfolding repeat_in
repeat_goes a xs e n i v st st' st2 h q g b = ap (λ (k : ℕ). repeat_in a xs e k st) (less n i h)
    ∙ ap (λ (r : Course). sequence r (λ st. value_in a e st ▷ λ v st. if is_true v then Value Normal st else until_true
    (n - (i + 1)) (steps_in a xs) (value_in a e) st)) q
    ∙ ap (λ (r : Given ℤ). (r ▷ λ v st. if is_true v then Value Normal st else until_true (n - (i + 1)) (steps_in a xs)
    (value_in a e) st)) g
    ∙ ap (λ (b : Bool). if b then Value Normal st2 else until_true (n - (i + 1)) (steps_in a xs) (value_in a e) st2) b

pub ruleset repeats = (repeat_over, repeat_left, repeat_came, repeat_halts, repeat_stays, repeat_ends, repeat_goes)

pub loop_over : (a : Around) (xs : List TypedStmt) (n i : ℕ) (st : Meant) → n ≤ i
    → loop_in a xs (n - i) st ≡ StillRunning st.out
unfolding loop_in
loop_over a xs n i st h = ap (λ (k : ℕ). loop_in a xs k st) (none_left n i h)

pub loop_leaves : (a : Around) (xs : List TypedStmt) (n i : ℕ) (st st' : Meant) → i < n
    → steps_in a xs st ≡ Value Exited st' → loop_in a xs (n - i) st ≡ Value Normal st'
unfolding loop_in
loop_leaves a xs n i st st' h q = ap (λ (k : ℕ). loop_in a xs k st) (less n i h)
    ∙ ap (λ (r : Course). loop_left r (loop_outcome (n - (i + 1)) (steps_in a xs))) q

pub loop_came : (a : Around) (xs : List TypedStmt) (n i : ℕ) (w : ℤ) (st st' : Meant) → i < n
    → steps_in a xs st ≡ Value (Returned w) st' → loop_in a xs (n - i) st ≡ Value (Returned w) st'
unfolding loop_in
loop_came a xs n i w st st' h q = ap (λ (k : ℕ). loop_in a xs k st) (less n i h)
    ∙ ap (λ (r : Course). loop_left r (loop_outcome (n - (i + 1)) (steps_in a xs))) q

leaves_on : (r : Course) (s : Stop) (st : State) (next : Meant → Course) → r ≡ halts s st
    → loop_left r next ≡ halts s st
leaves_on r (stop.Ended k) st next h = ap (λ (x : Course). loop_left x next) h
leaves_on r stop.StillRunning st next h = ap (λ (x : Course). loop_left x next) h

pub loop_halts : (a : Around) (xs : List TypedStmt) (n i : ℕ) (s : Stop) (st : Meant) (st' : State) → i < n
    → steps_in a xs st ≡ halts s st' → loop_in a xs (n - i) st ≡ halts s st'
unfolding loop_in
loop_halts a xs n i s st st' h q = ap (λ (k : ℕ). loop_in a xs k st) (less n i h)
    ∙ leaves_on (steps_in a xs st) s st' (loop_outcome (n - (i + 1)) (steps_in a xs)) q

pub loop_goes : (a : Around) (xs : List TypedStmt) (n i : ℕ) (st st' : Meant) → i < n
    → steps_in a xs st ≡ Value Normal st' → loop_in a xs (n - i) st ≡ loop_in a xs (n - (i + 1)) st'
unfolding loop_in
loop_goes a xs n i st st' h q = ap (λ (k : ℕ). loop_in a xs k st) (less n i h)
    ∙ ap (λ (r : Course). loop_left r (loop_outcome (n - (i + 1)) (steps_in a xs))) q

pub ruleset loops = (loop_over, loop_leaves, loop_came, loop_halts, loop_goes)

pub for_over_turns : (a : Around) (t : TypeNo) (by : ℤ) (xs : List TypedStmt) (l : Location) (last : ℤ) (n i : ℕ)
    (st : Meant) → n ≤ i → for_in a t by xs l last (n - i) st ≡ StillRunning st.out
unfolding for_in
for_over_turns a t by xs l last n i st h = ap (λ (k : ℕ). for_in a t by xs l last k st) (none_left n i h)

pub for_left : (a : Around) (t : TypeNo) (by : ℤ) (xs : List TypedStmt) (l : Location) (last : ℤ) (n i : ℕ)
    (st st' : Meant) → i < n → steps_in a xs st ≡ Value Exited st'
    → for_in a t by xs l last (n - i) st ≡ Value Exited st'
unfolding for_in
for_left a t by xs l last n i st st' h q = ap (λ (k : ℕ). for_in a t by xs l last k st) (less n i h)
    ∙ ap (λ (r : Course). sequence r (λ st. if has_passed by last (st.store l +ℤ by) then Value Normal st else
    (as_type (surroundings a).types t (st.store l +ℤ by) st ▷ λ v st. for_turns (n - (i + 1))
    (as_type (surroundings a).types t) l by last (steps_in a xs) (store_number l v st)))) q

pub for_came : (a : Around) (t : TypeNo) (by : ℤ) (xs : List TypedStmt) (l : Location) (last : ℤ) (n i : ℕ) (w : ℤ)
    (st st' : Meant) → i < n → steps_in a xs st ≡ Value (Returned w) st'
    → for_in a t by xs l last (n - i) st ≡ Value (Returned w) st'
unfolding for_in
for_came a t by xs l last n i w st st' h q = ap (λ (k : ℕ). for_in a t by xs l last k st) (less n i h)
    ∙ ap (λ (r : Course). sequence r (λ st. if has_passed by last (st.store l +ℤ by) then Value Normal st else
    (as_type (surroundings a).types t (st.store l +ℤ by) st ▷ λ v st. for_turns (n - (i + 1))
    (as_type (surroundings a).types t) l by last (steps_in a xs) (store_number l v st)))) q

pub for_halts : (a : Around) (t : TypeNo) (by : ℤ) (xs : List TypedStmt) (l : Location) (last : ℤ) (n i : ℕ) (s : Stop)
    (st : Meant) (st' : State) → i < n → steps_in a xs st ≡ halts s st'
    → for_in a t by xs l last (n - i) st ≡ halts s st'
unfolding for_in
for_halts a t by xs l last n i s st st' h q = ap (λ (k : ℕ). for_in a t by xs l last k st) (less n i h)
    ∙ halts_on (steps_in a xs st) s st' (λ st. if has_passed by last (st.store l +ℤ by) then Value Normal st else
    (as_type (surroundings a).types t (st.store l +ℤ by) st ▷ λ v st. for_turns (n - (i + 1))
    (as_type (surroundings a).types t) l by last (steps_in a xs) (store_number l v st))) q

abbrev turn : Types → TypeNo → (by : ℤ) → (l : Location) → (last : ℤ) → (m : ℕ) → (Meant → Course) → Bool → Meant
    → Course
turn types t by l last m body true st = Value Normal st
turn types t by l last m body false st = for_turns m (as_type types t) l by last body st

turn_one : (types : Types) (t : TypeNo) (by : ℤ) (l : Location) (last : ℤ) (m : ℕ) (body : Meant → Course) (s : Given ℤ)
    → (s ▷ (λ v st. for_turns m (as_type types t) l by last body (store_number l v st)))
    ≡ ((s ▷ λ v st. Value false (store_number l v st)) ▷ (turn types t by l last m body))
turn_one types t by l last m body (Value v st) = refl
turn_one types t by l last m body (Ended n out) = refl
turn_one types t by l last m body (StillRunning out) = refl

turn_if : (b : Bool) (types : Types) (t : TypeNo) (by : ℤ) (l : Location) (last : ℤ) (m : ℕ) (body : Meant → Course)
    (s : Given ℤ) (st : Meant)
    → (if b then Value Normal st else (s ▷ λ v st. for_turns m (as_type types t) l by last body (store_number l v st)))
    ≡ ((if b then Value true st else (s ▷ λ v st. Value false (store_number l v st))) ▷
    (turn types t by l last m body))
turn_if true types t by l last m body s st = refl
turn_if false types t by l last m body s st = turn_one types t by l last m body s

turn_is : (types : Types) (t : TypeNo) (by : ℤ) (l : Location) (last : ℤ) (m : ℕ) (body : Meant → Course) (st : Meant)
    → (if has_passed by last (st.store l +ℤ by) then Value Normal st else
    (as_type types t (st.store l +ℤ by) st ▷ λ v st. for_turns m (as_type types t) l by last body
    (store_number l v st))) ≡ (turns_over types t l by last st ▷ (turn types t by l last m body))
unfolding turns_over
turn_is types t by l last m body st = turn_if (has_passed by last (st.store l +ℤ by)) types t by l last m body
    (as_type types t (st.store l +ℤ by) st) st

pub for_ends : (a : Around) (t : TypeNo) (by : ℤ) (xs : List TypedStmt) (l : Location) (last : ℤ) (n i : ℕ)
    (st st' st2 : Meant) → i < n → steps_in a xs st ≡ Value Normal st'
    → turns_over (surroundings a).types t l by last st' ≡ Value true st2
    → for_in a t by xs l last (n - i) st ≡ Value Normal st2
unfolding for_in
for_ends a t by xs l last n i st st' st2 h q g = ap (λ (k : ℕ). for_in a t by xs l last k st) (less n i h)
    ∙ ap (λ (r : Course). sequence r (λ st. if has_passed by last (st.store l +ℤ by) then Value Normal st else
    (as_type (surroundings a).types t (st.store l +ℤ by) st ▷ λ v st. for_turns (n - (i + 1))
    (as_type (surroundings a).types t) l by last (steps_in a xs) (store_number l v st)))) q
    ∙ turn_is (surroundings a).types t by l last (n - (i + 1)) (steps_in a xs) st'
    ∙ ap (λ (r : Given Bool). (r ▷ (turn (surroundings a).types t by l last (n - (i + 1)) (steps_in a xs)))) g

pub for_stays : (a : Around) (t : TypeNo) (by : ℤ) (xs : List TypedStmt) (l : Location) (last : ℤ) (n i : ℕ) (s : Stop)
    (st st' : Meant) (st2 : State) → i < n → steps_in a xs st ≡ Value Normal st'
    → turns_over (surroundings a).types t l by last st' ≡ stop_meaning s st2
    → for_in a t by xs l last (n - i) st ≡ halts s st2
unfolding for_in
for_stays a t by xs l last n i s st st' st2 h q g = ap (λ (k : ℕ). for_in a t by xs l last k st) (less n i h)
    ∙ ap (λ (r : Course). sequence r (λ st. if has_passed by last (st.store l +ℤ by) then Value Normal st else
    (as_type (surroundings a).types t (st.store l +ℤ by) st ▷ λ v st. for_turns (n - (i + 1))
    (as_type (surroundings a).types t) l by last (steps_in a xs) (store_number l v st)))) q
    ∙ turn_is (surroundings a).types t by l last (n - (i + 1)) (steps_in a xs) st'
    ∙ with_stays (turns_over (surroundings a).types t l by last st') s st2
    (turn (surroundings a).types t by l last (n - (i + 1)) (steps_in a xs)) g

pub for_goes : (a : Around) (t : TypeNo) (by : ℤ) (xs : List TypedStmt) (l : Location) (last : ℤ) (n i : ℕ)
    (st st' st2 : Meant) → i < n → steps_in a xs st ≡ Value Normal st'
    → turns_over (surroundings a).types t l by last st' ≡ Value false st2
    → for_in a t by xs l last (n - i) st ≡ for_in a t by xs l last (n - (i + 1)) st2
unfolding for_in
for_goes a t by xs l last n i st st' st2 h q g = ap (λ (k : ℕ). for_in a t by xs l last k st) (less n i h)
    ∙ ap (λ (r : Course). sequence r (λ st. if has_passed by last (st.store l +ℤ by) then Value Normal st else
    (as_type (surroundings a).types t (st.store l +ℤ by) st ▷ λ v st. for_turns (n - (i + 1))
    (as_type (surroundings a).types t) l by last (steps_in a xs) (store_number l v st)))) q
    ∙ turn_is (surroundings a).types t by l last (n - (i + 1)) (steps_in a xs) st'
    ∙ ap (λ (r : Given Bool). (r ▷ (turn (surroundings a).types t by l last (n - (i + 1)) (steps_in a xs)))) g

pub ruleset fors = (for_over_turns, for_left, for_came, for_halts, for_ends, for_stays, for_goes)
