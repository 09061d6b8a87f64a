use Rattle.std.proofs.Common.{rules, ◌≡◌, sym, ◌∙◌, w64, to_z, of_z}
use Rattle.plain_store.specs.Seen.{view_of, answer_meaning}
use Rattle.plain_values.specs.Surroundings.{surroundings}
use Rattle.plain_steps.proofs.Steppings.{step_on}
use Rattle.plain_steps.proofs.simple.next_turn.Goals as goal

pub returns : goal.returns
returns c =
    let same : to_z w64 (of_z w64 c.in_ok-next.next) ≡ c.in_ok-next.next = search rules in
    step_on (surroundings c.args.around.now).types c.args.t c.args.of.now.l c.args.by.now c.args.of.now.last
    (to_z w64 (of_z w64 c.in_ok-next.next)) (view_of c.args.st.now)
    (answer_meaning c.in_ok-over.over c.keep_control.new.st) (same ∙ c.in_ok-next.ensures)
    (sym c.is_over.ensures ∙ c.if-is_over.false) c.in_ok-over.ensures
