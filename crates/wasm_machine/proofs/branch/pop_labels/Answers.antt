use Rattle.std.proofs.Common.{arith, ap, ◌∙◌}
use Rattle.wasm_tree.specs.Machine.{split_last}
use Rattle.wasm_machine.proofs.Last.{innermost_last, no_more, labels_left}
use Rattle.wasm_machine.proofs.branch.pop_labels.Goals as goal

pub returns : goal.returns
returns c =
    innermost_last c.truncate.new.self.items c.pop.new.self.items c.pop.result c.pop.ensures.items
    (no_more c.truncate.new.self.items c.pop.result _ _ _ (omega (arith, c.truncate.new.self.ok.0))
    c.pop.ensures.cases)
    ∙ ap split_last (labels_left c.args.labels.now.items c.truncate.new.self.items c.len.result c.args.label
    c.truncate.ensures.items (omega (arith, c.args.labels.now.ok.0, c.len.ensures)))
