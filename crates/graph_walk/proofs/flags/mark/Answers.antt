use Rattle.std.proofs.Common.{ℕ, true, List, [], ◌∷◌, set, sym, subst}
use Rattle.graph_walk.specs.Marks.{Marks}
use Rattle.graph_walk.proofs.Marking.{marks_one, marks_again}
use Rattle.graph_walk.proofs.flags.mark.Goals as goal

pub returns-then-is_marked : goal.returns-then-is_marked
returns-then-is_marked c = marks_again c.args.node c.args.flags.now c.args.todo.now (cc)

pub returns : goal.returns
returns c = subst (λ (t : List ℕ). Marks (c.args.node ∷ []) c.args.flags.now c.args.todo.now
    (set c.args.flags.now c.args.node true) t) (sym c.in_ok-push.ensures.ok)
    (marks_one c.args.node c.args.flags.now c.args.todo.now c.requires (cc))
