use Rattle.std.proofs.Common.{◌≡◌, drop}
use Rattle.wasm_tree.specs.Linking.{each, with_element}
use Rattle.wasm_link.specs.Placed.{link_result}
use Rattle.wasm_link.proofs.segments.with_elements.Given as goal

abbrev pub invariant-loop-element : goal.invariant-loop-element
invariant-loop-element l = each with_element (drop l.element-index l.elements) (link_result l.store l.instance)
    ≡ each with_element l.elements (link_result l.fn.store l.instance)
