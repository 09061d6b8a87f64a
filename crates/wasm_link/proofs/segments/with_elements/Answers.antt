use Rattle.std.proofs.lemmas.Result.{err_from_is_err_and}
use Rattle.wasm_tree.specs.Linking.{with_element}
use Rattle.wasm_link.specs.Placed.{link_result}
use Rattle.wasm_link.proofs.Fold.{each_more, each_fail, each_none}
use Rattle.wasm_link.proofs.segments.with_elements.Goals as goal

pub returns-in_err-with_element : goal.returns-in_err-with_element
returns-in_err-with_element c =
    let p = err_from_is_err_and c.from_residual.result c.from_residual.ensures.1 in
    rw (p.1, p.2) (each_fail with_element c.args.elements.now c.loop-element.element-index
    (link_result c.loop-element.store c.args.instance.now)
    c.in_err-with_element.field-0.0 c.element-item.result _ c.loop-element-test.true c.element-item.is
    c.in_err-with_element.ensures c.loop-element.invariant)

pub loop-element-preserved : goal.loop-element-preserved
loop-element-preserved c =
    each_more with_element c.args.elements.now c.loop-element.element-index
    (link_result c.loop-element.store c.args.instance.now)
    c.element-item.result _ _ c.loop-element-test.true c.element-item.is c.in_ok-with_element.ensures
    c.loop-element.invariant

pub returns : goal.returns
returns c = each_none with_element c.args.elements.now c.loop-element.element-index
    (link_result c.loop-element.store c.args.instance.now) _ c.loop-element-test.false c.loop-element.invariant
