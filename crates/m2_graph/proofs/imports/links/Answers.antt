use Rattle.std.proofs.Common.{◌≡◌, length, sym, ap, subst, ◌∙◌, arith}
use Rattle.std.specs.Borrow.{Bor}
use Rattle.m2_tree.specs.declared.decl.Module.{Module}
use Rattle.m2_graph.specs.Program.{modules_of}
use Rattle.m2_graph.specs.Imports.{links_of, links}
use Rattle.graph_walk.specs.Links.{AreNodes}
use Rattle.m2_graph.proofs.Importing.{mapped_whole, links_are_nodes}
use Rattle.std.proofs.lemmas.List.{length-map}
use Rattle.m2_graph.proofs.imports.links.Goals as goal

pub returns : goal.returns
returns c =
    let modules = modules_of c.args.program.now in
    let is : c.loop-module.all.items ≡ links modules =
    mapped_whole (links_of modules) (λ (m : Bor Module). m.now) c.args.program.now.modules.now
    c.loop-module.module-index c.loop-module.all.items (omega arith) c.loop-module.invariant in
    record {
      value = is;
      nodes = subst AreNodes (sym is) (links_are_nodes modules);
      len = ap length is
          ∙ length-map modules (links_of modules);
    }
