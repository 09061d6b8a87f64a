use Rattle.def_grammar.specs.Trees.{sign_of}
use Rattle.def_grammar.specs.Tables.{signs}
use Rattle.def_grammar.proofs.Loops.{took_as}
use Rattle.parse_expr.proofs.cursor.Cursor.any_sign.Goals as goal

pub returns : goal.returns
returns c = took_as signs sign_of c.args.self.now c.sign.result c.sign.new.self c.sign.ensures
