use Rattle.std.proofs.Common.{Some}
use Rattle.m2_tree.specs.declared.token.Lexeme.TheVariants as lexeme
use Rattle.scan_tokens.proofs.Fronts.{pair_taken}
use Rattle.scan_tokens.proofs.cut.cut_pair.Goals as goal

pub returns-clause-taken : goal.returns-clause-taken
returns-clause-taken c = (
  Some (lexeme.Symbol c.args.symbol),
  pair_taken c.args.cut.now.rest.now c.split_at.result.1.now c.args.cut.now.pos
      c.right.result c.args.symbol c.requires.found c.split_at.ensures.back c.right.ensures.line c.right.ensures.col,
  c.in_ok-put.ensures,
)
