use Rattle.std.proofs.Common.{ℕ, ap, ◌∙◌}
use Rattle.def_meaning.specs.Answer.{Ended}
use Rattle.plain_store.specs.Seen.{view_of, answer_meaning, outcome_course}
use Rattle.plain_run.proofs.Called.{none_asked, some_asked, no_room, ran}
use Rattle.plain_run.proofs.runs.+runs.Goals as goal

pub call_with-returns-in-None-callee : goal.call_with-returns-in-None-callee
call_with-returns-in-None-callee t c = ap (λ (n : ℕ). Ended n c.given_all.new.st.out) c.number.ensures
    ∙ none_asked c.args.around.now c.args.callee c.args.arguments.now c.in_ok-passed.field-0 c.in-Value.passed
    c.in-Some.depth (view_of c.args.st.now) c.given_all.new.st c.in_ok-passed.ensures c.in-Value.is c.in-Some.ensures
    c.in-None-callee.is

pub call_with-returns-in-Some-callee : goal.call_with-returns-in-Some-callee
call_with-returns-in-Some-callee t c = some_asked c.args.around.now c.args.callee c.in-Some-callee.callee
    c.args.arguments.now c.in_ok-passed.field-0 c.in-Value.passed c.in-Some.depth (view_of c.args.st.now)
    c.given_all.new.st c.body_run.new.st c.body_run.result c.in_ok-passed.ensures c.in-Value.is c.in-Some.ensures
    c.in-Some-callee.is c.body_run.ensures

pub body_run-returns-in-None : goal.body_run-returns-in-None
body_run-returns-in-None t c = ap (λ (n : ℕ). Ended n c.args.st.now.out) c.number.ensures
    ∙ no_room c.args.program.now c.args.depth c.args.request c.in_ok-rest_of.field-0 (view_of c.args.st.now)
    c.in_ok-rest_of.ensures c.in-None.is

pub body_run-returns-in_ok-o-in-Some : goal.body_run-returns-in_ok-o-in-Some
body_run-returns-in_ok-o-in-Some t c = ran c.args.program.now c.args.depth c.in-Some.rest c.args.request
    c.in_ok-rest_of.field-0 c.in_ok-begins-in-Some.begins c.in_ok-inner-in-Some.inner c.as_slice.result.now
    (view_of c.args.st.now) (view_of c.enter.new.st) (outcome_course c.in_ok-o-in-Some.o c.steps.new.st)
    (answer_meaning c.result.result c.steps.new.st) c.in_ok-rest_of.ensures c.in-Some.is c.in_ok-inner-in-Some.ensures
    c.in_ok-begins-in-Some.ensures.begun c.in_ok-begins-in-Some.ensures.out c.as_slice.ensures c.in_ok-o-in-Some.ensures
    c.result.ensures
