use Rattle.std.proofs.lemmas.Result.{err_from_is_err_and}
use Rattle.wasm_tree.specs.Linking.{with_segment}
use Rattle.wasm_link.specs.Placed.{link_result}
use Rattle.wasm_link.proofs.Fold.{each_more, each_fail, each_none}
use Rattle.wasm_link.proofs.segments.with_segments.Goals as goal

pub returns-in_err-with_segment : goal.returns-in_err-with_segment
returns-in_err-with_segment c =
    let p = err_from_is_err_and c.from_residual.result c.from_residual.ensures.1 in
    rw (p.1, p.2) (each_fail with_segment c.args.segments.now c.loop-segment.segment-index
    (link_result c.loop-segment.store c.args.instance.now)
    c.in_err-with_segment.field-0.0 c.segment-item.result _ c.loop-segment-test.true c.segment-item.is
    c.in_err-with_segment.ensures c.loop-segment.invariant)

pub loop-segment-preserved : goal.loop-segment-preserved
loop-segment-preserved c =
    each_more with_segment c.args.segments.now c.loop-segment.segment-index
    (link_result c.loop-segment.store c.args.instance.now)
    c.segment-item.result _ _ c.loop-segment-test.true c.segment-item.is c.in_ok-with_segment.ensures
    c.loop-segment.invariant

pub returns : goal.returns
returns c = each_none with_segment c.args.segments.now c.loop-segment.segment-index
    (link_result c.loop-segment.store c.args.instance.now) _ c.loop-segment-test.false c.loop-segment.invariant
