use Rattle.std.proofs.Common.{refl}
use Rattle.wasm_code.proofs.ScratchStacks.{put_table}
use Rattle.wasm_code.proofs.code.put_table.Goals as goal

pub returns : goal.returns
returns c =
    put_table c.args.scratch.now.items c.put_op.new.scratch.items c.put_branches.new.scratch.items c.args.labels.now _
    c.args.last c.args.rest.now
    refl c.in_ok-put_op.ensures c.in_ok-put_branches.ensures
