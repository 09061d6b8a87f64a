use Rattle.std.proofs.Common.{◌∙◌}
use Rattle.link_parts.proofs.Seeing.{entered}
use Rattle.link_parts.proofs.fitting.enter_first.Goals as goal

pub returns : goal.returns
returns c =
    entered c.as_bytes.result.now _ (record { by = c.args.number; sum = c.in_ok-sum.sum }) _ c.args.known.now
    c.enter.new.self c.in_ok-enter.ensures c.as_bytes.ensures.value
    (c.in_ok-sum.ensures.ok ∙ c.as_str.ensures.value)
