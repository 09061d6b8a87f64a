use Rattle.std.specs.Option.{option_copied}
use Rattle.check_body.proofs.Whole.{module_is}
use Rattle.check_body.proofs.body.check_with.Goals as goal

pub returns-in-Program : goal.returns-in-Program
returns-in-Program g c =
    module_is (g.S.Statements.elaborated c.args.statements.now) c.check_program.result c.args.tree.now
    c.in-Program.block c.args.number (option_copied c.args.own) c.args.imports c.in_ok-tables.tables
    c.in-Program.is c.in_ok-tables.ensures c.check_program.ensures
