use Rattle.run_program.proofs.Cut.{handed, links_or_memory}
use Rattle.run_program.proofs.program.Program.link.Goals as goal

pub hand_on-requires : goal.hand_on-requires
hand_on-requires c = links_or_memory c.args.self.now.modules.items c.deref.result.now c.deref.ensures.value
    c.args.self.now.links c.link.result c.link.ensures.gives

pub returns : goal.returns
returns c = handed c.args.self.now.modules.items c.deref.result.now c.deref.ensures.value c.link.result
    c.link.ensures.gives c.link.ensures.fresh c.hand_on.result c.hand_on.ensures
