use Rattle.graph_walk.proofs.Marking.{once_from_unmarked, unmarked_again}
use Rattle.graph_walk.proofs.flags.each_once.Goals as goal

pub returns-clause-once : goal.returns-clause-once
returns-clause-once c = once_from_unmarked c.args.numbers.now c.args.flags.now _ _ _ c.requires.unmarked
    c.new-once.ensures c.in_ok-mark_all.ensures

pub returns-clause-unmarked : goal.returns-clause-unmarked
returns-clause-unmarked c = unmarked_again c.args.numbers.now c.args.flags.now _ _ _ _ c.requires.unmarked
    c.in_ok-mark_all.ensures c.unmark_all.ensures
