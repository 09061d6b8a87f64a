use Rattle.check_body.proofs.Variants.{block_ends}
use Rattle.check_body.proofs.procedures.+procedures.Goals as goal

pub check_block-returns : goal.check_block-returns
check_block-returns g t c =
    block_ends (g.S.Statements.elaborated c.args.statements.now) c.args.ends.now c.args.around c.args.returns.now
    c.args.walk.now c.declare_in.new.walk c.check_procedures.new.walk c.check_statements.new.scope c.args.block.now
    c.as_slice-decls.result.now c.in_ok-seen.seen c.as_slice.result.now c.check_statements.result
    c.as_slice-decls.ensures c.in_ok-seen.ensures c.as_slice.ensures c.in_ok-check_procedures.ensures
    c.check_statements.ensures.stays c.check_statements.ensures.means
