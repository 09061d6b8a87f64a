use Rattle.std.proofs.Common.{◌≡◌, sym, subst, arith}
use Rattle.std.specs.Borrow.{Bor}
use Rattle.m2_tree.specs.declared.decl.Module.{Module}
use Rattle.m2_graph.specs.Program.{modules_of}
use Rattle.m2_graph.specs.Imports.{walk_of, walks}
use Rattle.graph_walk.specs.Links.{AreNodes}
use Rattle.m2_graph.proofs.Importing.{mapped_whole, walks_are_nodes}
use Rattle.m2_graph.proofs.needs.walks.Goals as goal

pub returns : goal.returns
returns c =
    let modules = modules_of c.args.program.now in
    let is : c.loop-module.all.items ≡ walks modules =
    mapped_whole (walk_of modules) (λ (m : Bor Module). m.now) c.args.program.now.modules.now
    c.loop-module.module-index c.loop-module.all.items (omega arith) c.loop-module.invariant in
    record { value = is; nodes = subst AreNodes (sym is) (walks_are_nodes modules) }
