use Rattle.run_program.proofs.Decoded.{validated}
use Rattle.run_program.proofs.reading.module_of.Goals as goal

pub returns : goal.returns
returns c = validated c.args.bytes.now c.in_ok-tree.tree c.in_ok-tree.ensures.decided c.validate.result
    c.validate.ensures
