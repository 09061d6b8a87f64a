use Rattle.std.specs.Option.{option_copied}
use Rattle.check_body.proofs.Whole.{body_is}
use Rattle.check_body.proofs.body.check_body.Goals as goal

pub returns : goal.returns
returns g c =
    body_is (g.S.Statements.elaborated c.args.statements.now) c.check_from.result c.args.tree.now c.args.block.now
    c.args.scope (option_copied c.args.own) c.as_slice.result.now c.in_ok-modules.modules _
    c.as_slice.ensures c.in_ok-modules.ensures c.check_from.ensures
