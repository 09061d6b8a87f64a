-- What a call gives, from what is known of its parts.
use Rattle.std.proofs.Common.{◌≡◌, ℕ, suc, ℤ, List, map, Option, Some, None, Result, Ok, Err, IfOk, MatchOption, ap, sym, ◌∙◌, subst}
use Rattle.std.specs.Option.{option_map}
use Rattle.typed_tree.specs.declared.computed.Argument.{Argument}
use Rattle.typed_tree.specs.declared.statement.TypedStmt.{TypedStmt}
use Rattle.def_meaning.specs.Answer.{State as Meant, Answer as Given, Value, Ended, empty_procedure, storage_fault}
use Rattle.def_meaning.specs.Outcome.{Outcome as Course}
use Rattle.def_meaning.specs.Calls.{calling, runs, enter_call, is_function, result}
use Rattle.plain_store.specs.declared.state.State.{State}
use Rattle.plain_store.specs.declared.state.Answer.{Answer}
use Rattle.plain_store.specs.declared.state.Answer.TheVariants as answer
use Rattle.plain_store.specs.Seen.{view_of, answer_meaning}
use Rattle.plain_values.specs.declared.program.Program.{Program}
use Rattle.plain_values.specs.declared.program.Around.{Around}
use Rattle.plain_values.specs.declared.program.Callee.{Callee}
use Rattle.plain_values.specs.declared.program.Passed.{Passed}
use Rattle.plain_values.specs.Surroundings.{modules_of, callee_of, argument_sent, all_given_in, steps_in}
use Rattle.plain_steps.specs.declared.entering.Begun.{Begun}
use Rattle.plain_steps.specs.declared.entering.Request.{Request}
use Rattle.plain_steps.specs.Asked.{IsTooSmall, HasRoom}
use Rattle.plain_steps.specs.Entering.{begun_of, IsBodyOf}
use Rattle.plain_steps.specs.Parts.{answered_all, asked_in}
use Rattle.plain_steps.proofs.Bodies.{too_small, fits}
use Rattle.plain_run.proofs.Variants.{asked_none, asked_some}

given_is : (a : Around) (xs : List Argument) (j : Answer (List Passed)) (vs : List Passed) (st : Meant) (st' : State)
    → answered_all j st' ≡ all_given_in a xs st → j ≡ answer.Value vs
    → all_given_in a xs st ≡ Value (map argument_sent vs) (view_of st')
given_is a xs j vs st st' g e = sym g ∙ ap (λ (k : Answer (List Passed)). answered_all k st') e

pub none_asked : (a : Around) (o : Option Callee) (xs : List Argument) (j : Answer (List Passed)) (vs : List Passed)
    (d : ℕ) (st : Meant) (st' : State) → answered_all j st' ≡ all_given_in a xs st → j ≡ answer.Value vs
    → a.depth ≡ suc d → o ≡ None
    → Ended empty_procedure st'.out ≡ asked_in a (option_map callee_of o) xs st
none_asked a o xs j vs d st st' g e n q =
    sym (asked_none a o xs (map argument_sent vs) d st (view_of st') (given_is a xs j vs st st' g e) n q)

pub some_asked : {E : Type 0} (a : Around) (o : Option Callee) (c : Callee) (xs : List Argument)
    (j : Answer (List Passed)) (vs : List Passed) (d : ℕ) (st : Meant) (st' st2 : State) (r : Result (Answer ℤ) E)
    → answered_all j st' ≡ all_given_in a xs st → j ≡ answer.Value vs → a.depth ≡ suc d → o ≡ Some c
    → IfOk r (λ k. answer_meaning k st2 ≡ runs (modules_of a.program.now) a.program.now.bound
    (calling (modules_of a.program.now) a.program.now.bound d) (callee_of c) (map argument_sent vs) a.next a.left
    (view_of st'))
    → IfOk r (λ k. answer_meaning k st2 ≡ asked_in a (option_map callee_of o) xs st)
some_asked a o c xs j vs d st st' st2 (Err x) g e n q k = tt
some_asked a o c xs j vs d st st' st2 (Ok x) g e n q k = k
    ∙ sym (asked_some a o c xs (map argument_sent vs) d st (view_of st') (given_is a xs j vs st st' g e) n q)

pub no_room : (program : Program) (depth : ℕ) (q : Request) (o : Option ℕ) (st : Meant)
    → MatchOption o (IsTooSmall q) (HasRoom q) → o ≡ None
    → Ended storage_fault st.out ≡ runs (modules_of program) program.bound
    (calling (modules_of program) program.bound depth) (callee_of q.callee) (map argument_sent q.passed) q.next
    q.left st
no_room program depth q o st h e = sym (too_small program depth q st
    (subst (λ (x : Option ℕ). MatchOption x (IsTooSmall q) (HasRoom q)) e h))

pub ran : (program : Program) (depth rest : ℕ) (q : Request) (o : Option ℕ) (b : Begun) (a : Around)
    (ss : List TypedStmt) (st st1 : Meant) (x : Course) (r : Given ℤ) → MatchOption o (IsTooSmall q) (HasRoom q)
    → o ≡ Some rest → IsBodyOf program depth q.callee q.next b rest a
    → begun_of b st1 ≡ enter_call q.callee.home.body.now.types q.callee.routine.now q.next (map argument_sent q.passed)
    st.store → st1.out ≡ st.out → ss ≡ q.callee.routine.now.body → x ≡ steps_in a ss st1
    → r ≡ result (is_function q.callee.home.body.now.types q.callee.routine.now) x
    → r ≡ runs (modules_of program) program.bound (calling (modules_of program) program.bound depth)
    (callee_of q.callee) (map argument_sent q.passed) q.next q.left st
ran program depth rest q o b a ss st st1 x r h e i g out body k w =
    w ∙ ap (λ (y : Course). result (is_function q.callee.home.body.now.types q.callee.routine.now) y)
    (k ∙ ap (λ (ys : List TypedStmt). steps_in a ys st1) body)
    ∙ sym (fits program depth rest q b a st st1 (subst (λ (y : Option ℕ). MatchOption y (IsTooSmall q) (HasRoom q)) e h)
    i g out)
