use Rattle.scan_tokens.proofs.Fronts.{comment_taken}
use Rattle.scan_tokens.proofs.cut.cut_comment.Goals as goal

pub returns-in-Some-clause-taken : goal.returns-in-Some-clause-taken
returns-in-Some-clause-taken c =
    comment_taken c.args.cut.now.rest.now c.split_at.result.1.now c.in-Some.rest.now c.args.cut.now.pos c.right.result
    c.in-Some.after c.requires.begins c.split_at.ensures.back c.right.ensures.line c.right.ensures.col
    c.in-Some.ensures
