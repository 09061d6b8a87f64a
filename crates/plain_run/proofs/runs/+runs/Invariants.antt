use Rattle.std.proofs.Common.{◌≡◌, ◌-◌, drop}
use Rattle.plain_store.specs.Seen.{view_of}
use Rattle.plain_values.specs.Surroundings.{links_in, components_in, steps_in}
use Rattle.plain_steps.specs.Parts.{while_in, repeat_in, loop_in, for_in}
use Rattle.plain_run.proofs.runs.+runs.Given as goal

abbrev pub decreases-value : goal.decreases-value
decreases-value l = l.room

abbrev pub decreases-operands : goal.decreases-operands
decreases-operands l = l.room

abbrev pub decreases-in_value : goal.decreases-in_value
decreases-in_value l = l.room

abbrev pub decreases-links_value : goal.decreases-links_value
decreases-links_value l = l.room

abbrev pub decreases-link_value : goal.decreases-link_value
decreases-link_value l = l.room

abbrev pub decreases-location_of : goal.decreases-location_of
decreases-location_of l = l.room

abbrev pub decreases-reached_all : goal.decreases-reached_all
decreases-reached_all l = l.room

abbrev pub decreases-component_value : goal.decreases-component_value
decreases-component_value l = l.room

abbrev pub decreases-call_value : goal.decreases-call_value
decreases-call_value l = l.room

abbrev pub decreases-call_with : goal.decreases-call_with
decreases-call_with l = l.room

abbrev pub decreases-given_all : goal.decreases-given_all
decreases-given_all l = l.room

abbrev pub decreases-argument_value : goal.decreases-argument_value
decreases-argument_value l = l.room

abbrev pub decreases-body_run : goal.decreases-body_run
decreases-body_run l = l.room

abbrev pub decreases-steps : goal.decreases-steps
decreases-steps l = l.room

abbrev pub decreases-step : goal.decreases-step
decreases-step l = l.room

abbrev pub decreases-target : goal.decreases-target
decreases-target l = l.room

abbrev pub decreases-ends : goal.decreases-ends
decreases-ends l = l.room

abbrev pub decreases-while_turns : goal.decreases-while_turns
decreases-while_turns l = l.room

abbrev pub decreases-repeat_turns : goal.decreases-repeat_turns
decreases-repeat_turns l = l.room

abbrev pub decreases-loop_turns : goal.decreases-loop_turns
decreases-loop_turns l = l.room

abbrev pub decreases-turns : goal.decreases-turns
decreases-turns l = l.room

abbrev pub decreases-for_turns : goal.decreases-for_turns
decreases-for_turns l = l.room

abbrev pub invariant-links_value-loop-link : goal.invariant-links_value-loop-link
invariant-links_value-loop-link l = links_in l.around (drop l.link-index l.links) l.x (view_of l.st)
    ≡ links_in l.around l.links l.first (view_of l.initial.st)

abbrev pub invariant-reached_all-loop-component : goal.invariant-reached_all-loop-component
invariant-reached_all-loop-component l =
    components_in l.around (drop l.component-index l.components) l.l (view_of l.st)
    ≡ components_in l.around l.components l.fn.first (view_of l.initial.st)

abbrev pub invariant-steps-loop-stmt : goal.invariant-steps-loop-stmt
invariant-steps-loop-stmt l = steps_in l.around (drop l.stmt-index l.body) (view_of l.st)
    ≡ steps_in l.around l.body (view_of l.initial.st)

abbrev pub invariant-while_turns-loop : goal.invariant-while_turns-loop
invariant-while_turns-loop l = while_in l.around l.e l.body (l.around.program.now.bound - l.counter) (view_of l.st)
    ≡ while_in l.around l.e l.body l.around.program.now.bound (view_of l.initial.st)

abbrev pub invariant-repeat_turns-loop : goal.invariant-repeat_turns-loop
invariant-repeat_turns-loop l = repeat_in l.around l.body l.e (l.around.program.now.bound - l.counter) (view_of l.st)
    ≡ repeat_in l.around l.body l.e l.around.program.now.bound (view_of l.initial.st)

abbrev pub invariant-loop_turns-loop : goal.invariant-loop_turns-loop
invariant-loop_turns-loop l = loop_in l.around l.body (l.around.program.now.bound - l.counter) (view_of l.st)
    ≡ loop_in l.around l.body l.around.program.now.bound (view_of l.initial.st)

abbrev pub invariant-for_turns-loop : goal.invariant-for_turns-loop
invariant-for_turns-loop l = for_in l.around l.t l.by l.body l.of.l l.of.last (l.around.program.now.bound - l.counter)
    (view_of l.st) ≡ for_in l.around l.t l.by l.body l.of.l l.of.last l.around.program.now.bound (view_of l.initial.st)

abbrev pub decreases-function_value : goal.decreases-function_value
decreases-function_value l = l.room

abbrev pub decreases-if_run : goal.decreases-if_run
decreases-if_run l = l.room

abbrev pub decreases-case_run : goal.decreases-case_run
decreases-case_run l = l.room

abbrev pub decreases-with_run : goal.decreases-with_run
decreases-with_run l = l.room

abbrev pub decreases-for_run : goal.decreases-for_run
decreases-for_run l = l.room
