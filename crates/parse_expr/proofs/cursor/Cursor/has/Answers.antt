use Rattle.def_grammar.specs.declared.kind.Kind.TheVariants as the
use Rattle.def_grammar.proofs.Loops.{had_if}
use Rattle.parse_expr.proofs.cursor.Cursor.has.Goals as goal

pub returns : goal.returns
returns c = had_if (the.Symbol c.args.symbol) c.args.self.now c.eat.result c.eat.new.self c.eat.ensures
