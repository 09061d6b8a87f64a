use Rattle.std.proofs.Common.{◌≡◌, drop}
use Rattle.wasm_tree.specs.Linking.{each, with_segment}
use Rattle.wasm_link.specs.Placed.{link_result}
use Rattle.wasm_link.proofs.segments.with_segments.Given as goal

abbrev pub invariant-loop-segment : goal.invariant-loop-segment
invariant-loop-segment l = each with_segment (drop l.segment-index l.segments) (link_result l.store l.instance)
    ≡ each with_segment l.segments (link_result l.fn.store l.instance)
