use Rattle.scan_tokens.proofs.Fronts.{space_taken}
use Rattle.scan_tokens.proofs.cut.cut_space.Goals as goal

pub returns : goal.returns
returns c = space_taken c.args.cut.now.rest.now c.split_at.result.1.now c.args.cut.now.pos c.behind.result
    c.requires.begins c.split_at.ensures.back c.behind.ensures
