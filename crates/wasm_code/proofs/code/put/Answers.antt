use Rattle.wasm_code.proofs.ScratchStacks.{put_plain}
use Rattle.wasm_code.proofs.code.put.Goals as goal

pub returns : goal.returns
returns c = put_plain c.args.scratch.now.items c.put_op.new.scratch.items c.args.op c.args.rest.now c.requires
    c.in_ok-put_op.ensures
