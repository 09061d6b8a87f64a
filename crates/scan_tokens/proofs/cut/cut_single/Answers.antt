use Rattle.std.proofs.Common.{Some, sym}
use Rattle.m2_tree.specs.declared.token.Lexeme.TheVariants as lexeme
use Rattle.scan_tokens.proofs.Fronts.{sign_taken, stray_stops}
use Rattle.scan_tokens.proofs.cut.cut_single.Goals as goal

pub returns-in-None-clause-refused : goal.returns-in-None-clause-refused
returns-in-None-clause-refused c = stray_stops c.args.cut.now.rest.now c.args.cut.now.pos c.scan_refusal.result
    c.requires.begins (sym c.in-None.ensures) c.scan_refusal.ensures

pub returns-in_ok-put-in-Some-clause-taken : goal.returns-in_ok-put-in-Some-clause-taken
returns-in_ok-put-in-Some-clause-taken c = (
  Some (lexeme.Symbol c.in-Some.symbol),
  sign_taken c.args.cut.now.rest.now c.split_at.result.1.now c.args.cut.now.pos c.right.result c.in-Some.symbol
      c.requires.begins c.requires.no_comment c.requires.no_pair (sym c.in-Some.ensures) c.split_at.ensures.back
      c.right.ensures.line c.right.ensures.col,
  c.in_ok-put-in-Some.ensures,
)
