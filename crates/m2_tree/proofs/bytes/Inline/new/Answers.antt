use Rattle.std.proofs.Common.{◌≡◌, length, set, get_or, ap, ◌∙◌, arith}
use Rattle.std.proofs.lemmas.List.{length-set}
use Rattle.m2_tree.proofs.Filled.{one_more, whole}
use Rattle.m2_tree.proofs.bytes.Inline.new.Goals as goal

pub loop-i-preserved : goal.loop-i-preserved
loop-i-preserved c =
    let t = c.args.list.now in
    let i = c.loop-i.i in (
      length-set c.loop-i.bytes i (get_or t i 0) ∙ c.loop-i.invariant.0,
      ap (λ bytes. set bytes i (get_or t i 0)) c.loop-i.invariant.1 ∙ one_more t i c.loop-i-test.true c.requires,
    )

pub invariant_of-result : goal.invariant_of-result
invariant_of-result c =
    let done : c.loop-i.i ≡ length c.args.list.now = omega arith in
    (c.requires, c.loop-i.invariant.0, whole c.args.list.now c.loop-i.bytes c.loop-i.i done c.loop-i.invariant.1)
