use Rattle.std.proofs.Common.{ap}
use Rattle.std.specs.Option.{option_copied}
use Rattle.check_body.proofs.Whole.{implementation_is}
use Rattle.check_body.proofs.body.check_implementation.Goals as goal

pub returns-in_ok-scope-in-Some : goal.returns-in_ok-scope-in-Some
returns-in_ok-scope-in-Some g c =
    implementation_is (g.S.Statements.elaborated c.args.statements.now) c.check_body.result c.args.tree.now
    c.args.block.now c.in_ok-scope-in-Some.scope (option_copied c.args.own) c.in-Some.table.now c.args.tables
    (ap option_copied c.in-Some.is) c.in_ok-scope-in-Some.ensures c.check_body.ensures
