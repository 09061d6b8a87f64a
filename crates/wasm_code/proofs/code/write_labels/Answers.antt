use Rattle.wasm_code.proofs.Written.{labels_written}
use Rattle.wasm_code.proofs.code.write_labels.Goals as goal

pub returns : goal.returns
returns c = labels_written c.loop-label.out c.args.out.now c.args.labels.now c.loop-label.label-index
    c.loop-label-test.false c.loop-label.invariant
