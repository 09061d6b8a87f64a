use Rattle.list_imports.specs.Listed.{texts}
use Rattle.list_imports.proofs.Adding.{idents_more}
use Rattle.list_imports.proofs.add_each.Goals as goal

pub loop-ident-preserved : goal.loop-ident-preserved
loop-ident-preserved c =
    let l = c.loop-ident in
    idents_more (texts c.args.names.now.items) (texts l.names.items) (texts c.add_name.new.names.items)
    c.args.idents.now l.ident-index c.ident-item.result c.loop-ident-test.true c.ident-item.is l.invariant
    c.in_ok-add_name.ensures
