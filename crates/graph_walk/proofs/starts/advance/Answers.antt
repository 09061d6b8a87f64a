use Rattle.std.proofs.Common.{ℕ, List, [], ◌∷◌, ◌++◌, length, sym, ap, subst, arith}
use Rattle.graph_walk.specs.Frames.{Advances}
use Rattle.graph_walk.proofs.Walking.{advances_start, advances_to}
use Rattle.graph_walk.proofs.starts.advance.Goals as goal

pub returns-then-targets-next : goal.returns-then-targets-next
returns-then-targets-next c = subst (λ (xs : List ℕ). Advances c.args.imports.now c.args.entered.now
    (c.args.todo.now ++ c.args.frame ∷ []) c.args.order.now c.args.entered.now c.args.todo.now xs)
    (sym c.in_ok-push.ensures.ok)
    (advances_start c.args.imports.now c.args.frame c.args.entered.now c.args.todo.now c.args.order.now
    (omega (arith, ap length c.targets-targets.ensures)))

pub returns : goal.returns
returns c = advances_to c.args.imports.now c.args.frame c.args.entered.now _ c.args.todo.now _ _ c.args.order.now _
    c.targets-targets.ensures c.if-targets-next.false c.requires.nodes c.requires.within c.requires.same
    c.in_ok-push-2.ensures.ok c.in_ok-enter.ensures.marks c.in_ok-enter.ensures.frames
