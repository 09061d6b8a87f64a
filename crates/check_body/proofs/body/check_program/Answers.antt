use Rattle.check_body.proofs.Whole.{program_is}
use Rattle.check_body.proofs.body.check_program.Goals as goal

pub returns : goal.returns
returns g c = program_is (g.S.Statements.elaborated c.args.statements.now) c.check_body.result c.args.tree.now
    c.args.block.now c.in_ok-scope.scope _ c.in_ok-scope.ensures c.check_body.ensures
