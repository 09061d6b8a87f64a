use Rattle.std.proofs.Common.{Some, refl}
use Rattle.scan_tokens.specs.declared.class.Class.TheVariants.{Letter}
use Rattle.scan_tokens.proofs.Fronts.{run_front, name_stops, name_taken}
use Rattle.scan_tokens.proofs.cut.cut_name.Goals as goal

pub returns-then-len-gt-MAX_NAME-clause-refused : goal.returns-then-len-gt-MAX_NAME-clause-refused
returns-then-len-gt-MAX_NAME-clause-refused c =
    name_stops c.args.cut.now.rest.now c.run_len-len.result c.args.cut.now.pos c.scan_refusal.result c.requires.begins
    c.run_len-len.ensures.value c.if-len-gt-MAX_NAME.true c.scan_refusal.ensures

pub word_lexeme-requires-clause-letter : goal.word_lexeme-requires-clause-letter
word_lexeme-requires-clause-letter c =
    (run_front Letter c.args.cut.now.rest.now c.split_at.result.0.now c.split_at.result.1.now c.run_len-len.result refl
    c.requires.begins c.run_len-len.ensures.value c.split_at.ensures.front c.split_at.ensures.back).runs

pub returns-clause-taken : goal.returns-clause-taken
returns-clause-taken c =
    let front = run_front Letter c.args.cut.now.rest.now c.split_at.result.0.now c.split_at.result.1.now
    c.run_len-len.result refl c.requires.begins c.run_len-len.ensures.value c.split_at.ensures.front
    c.split_at.ensures.back in (
      Some c.in_ok-lexeme.lexeme,
      name_taken c.args.cut.now.rest.now c.split_at.result.0.now c.split_at.result.1.now
          c.run_len-len.result c.args.cut.now.pos c.right.result c.in_ok-lexeme.lexeme front c.in_ok-lexeme.ensures
          c.right.ensures.line c.right.ensures.col,
      c.in_ok-put.ensures,
    )
