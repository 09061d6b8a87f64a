use Rattle.std.proofs.Common.{◌<◌, pos, get_or, length, arith}
use Rattle.std.proofs.Math.Seq.{drop-cons}
use Rattle.plain_store.specs.declared.held.Held.TheVariants.{Same}
use Rattle.plain_store.specs.Contents.{contents}
use Rattle.plain_store.proofs.Puts.{whole, ok_put}
use Rattle.plain_store.proofs.replaced.+replace_component.Goals as goal

pub returns-then-from-to : goal.returns-then-from-to
returns-then-from-to t c = whole c.args.to.now c.args.from (contents c.args.new) (contents c.args.held)
    c.if-from-to.true

pub returns : goal.returns
returns t c =
    let inside : c.args.from < length c.args.to.now = omega (arith, c.requires, c.if-from-to.false) in
    ok_put c.args.to.now c.args.from (get_or c.args.to.now c.args.from 0) c.args.held c.args.new
    c.take_out-tree.result.part c.in_ok-part.part (Same (pos 0)) c.in_ok-tree.tree c.take_out-tree.result.tree
    c.put_in.result
    (drop-cons c.args.to.now c.args.from 0 inside) c.in_ok-tree.ensures c.take_out-tree.ensures.part
    c.take_out-tree.ensures.tree c.in_ok-part.ensures c.put_in.ensures
