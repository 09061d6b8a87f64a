use Rattle.std.proofs.Common.{sym, subst}
use Rattle.std.specs.Borrow.{Bor}
use Rattle.m2_tree.specs.declared.decl.Module.{Module}
use Rattle.graph_walk.proofs.Turning.{back_nodes}
use Rattle.m2_graph.specs.Imports.{imports_of}
use Rattle.m2_graph.specs.Program.{modules_of}
use Rattle.m2_graph.specs.Reported.{IsFirstBack}
use Rattle.m2_graph.proofs.LeadingBack.{cycle_none, cycle_reported, leading_so, within}
use Rattle.m2_graph.proofs.back.reported_cycle.Goals as goal

pub led_to-requires-clause-nodes : goal.led_to-requires-clause-nodes
led_to-requires-clause-nodes c = back_nodes c.args.pairs.now c.args.back.now c.requires.turned

pub back_in-requires-clause-leading : goal.back_in-requires-clause-leading
back_in-requires-clause-leading c = leading_so (modules_of c.args.program.now) c.args.pairs.now c.args.back.now
    c.args.node c.in_ok-leading.leading.items c.deref.result.now c.requires.links c.requires.turned
    (within c.args.program.now.modules.now c.args.node c.requires.within) c.in_ok-leading.ensures c.deref.ensures.value

pub returns-in-None : goal.returns-in-None
returns-in-None c = absurd (cycle_none c.args.program.now.modules.now c.args.pairs.now c.args.node
    c.index-program-node.result c.back_in.result c.requires.links c.requires.within c.index-program-node.is
    c.requires.on_cycle (subst (λ (b : Bor Module). IsFirstBack (modules_of c.args.program.now) c.args.node
    (imports_of b.now) c.back_in.result) (sym c.index-program-node.is) c.back_in.ensures) c.in-None.is)

pub returns : goal.returns
returns c = cycle_reported c.args.program.now.modules.now c.args.pairs.now c.args.node c.index-program-node.result
    c.back_in.result c.in-Some.pos c.requires.links c.requires.within c.index-program-node.is c.requires.on_cycle
    c.requires.first (subst (λ (b : Bor Module). IsFirstBack (modules_of c.args.program.now) c.args.node
    (imports_of b.now) c.back_in.result) (sym c.index-program-node.is) c.back_in.ensures) c.in-Some.is
