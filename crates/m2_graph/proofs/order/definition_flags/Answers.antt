use Rattle.std.proofs.Common.{arith}
use Rattle.std.specs.Borrow.{Bor}
use Rattle.m2_tree.specs.declared.decl.Module.{Module}
use Rattle.m2_graph.specs.Imports.{is_definition}
use Rattle.m2_graph.proofs.Importing.{mapped_whole}
use Rattle.m2_graph.proofs.order.definition_flags.Goals as goal

pub returns : goal.returns
returns c = mapped_whole is_definition (λ (m : Bor Module). m.now) c.args.modules.now c.loop-module.module-index
    c.loop-module.flags.items (omega arith) c.loop-module.invariant
