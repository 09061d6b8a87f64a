use Rattle.std.specs.Option.{option_copied}
use Rattle.check_body.proofs.Whole.{walk_is}
use Rattle.check_body.proofs.body.check_from.Goals as goal

pub returns : goal.returns
returns g c =
    walk_is (g.S.Statements.elaborated c.args.statements.now) c.module_or.result c.args.tree.now c.args.block.now
    c.args.modules.now c.args.scope (option_copied c.args.own) c.as_slice.result.now c.in_ok-ends.ends
    c.as_slice-ends.result.now (c.in_ok-walk.walk, c.in_ok-walk.body)
    c.as_slice.ensures c.in_ok-ends.ensures c.as_slice-ends.ensures c.in_ok-walk.ensures c.module_or.ensures
