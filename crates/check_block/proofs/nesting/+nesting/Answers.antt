use Rattle.check_block.proofs.Ends.{ends_set, ends_reach}
use Rattle.check_block.proofs.nesting.+nesting.Goals as goal

pub push_within-set-requires : goal.push_within-set-requires
push_within-set-requires t c = ends_reach c.args.ends.now c.push.new.self c.push_all.new.ends c.len-place.result
    c.as_slice.result.now c.len-place.ensures c.in_ok-push-in-Procedure.ensures.ok c.in_ok-push_all-in-Procedure.ensures

pub push_within-returns-in_ok-push_all-in-Procedure : goal.push_within-returns-in_ok-push_all-in-Procedure
push_within-returns-in_ok-push_all-in-Procedure t c =
    ends_set c.args.ends.now c.push.new.self c.push_all.new.ends c.set.new.self c.len-place.result c.len-end.result
    c.args.decl.now c.in-Procedure.field-0 c.in-Procedure.block c.get.result.now c.as_slice.result.now
    c.in-Procedure.is c.get.ensures c.as_slice.ensures
    c.len-place.ensures c.in_ok-push-in-Procedure.ensures.ok c.in_ok-push_all-in-Procedure.ensures c.len-end.ensures
    c.set.ensures
