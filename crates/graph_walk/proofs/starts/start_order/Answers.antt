use Rattle.std.proofs.Common.{List, [], ◌∷◌, ◌++◌, length, refl, ap, ◌∙◌}
use Rattle.graph_walk.specs.Frames.{entering}
use Rattle.graph_walk.specs.declared.starts.Frame.{Frame}
use Rattle.graph_walk.proofs.Walking.{going_begins, going_ends, top_within}
use Rattle.graph_walk.proofs.starts.start_order.Goals as goal

pub loop-frame-init : goal.loop-frame-init
loop-frame-init c = going_begins _ _ (length c.args.imports.now) _ _ _ c.in_ok-entered.ensures
    (c.in_ok-push.ensures.ok ∙ ap (λ (fs : List Frame). fs ++ entering c.args.from ∷ []) c.new-todo.ensures)
    c.new-order.ensures refl c.requires.within

pub advance-requires-clause-within : goal.advance-requires-clause-within
advance-requires-clause-within c = top_within _ _ _ _ _ _ _ c.in-Some.ensures c.loop-frame.invariant

pub returns : goal.returns
returns c = going_ends _ _ _ _ _ c.in_default.ensures.0 c.loop-frame.invariant
