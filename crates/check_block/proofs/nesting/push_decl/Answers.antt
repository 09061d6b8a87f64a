use Rattle.std.proofs.lemmas.Result.{on_ok_weaker}
use Rattle.check_block.proofs.Ends.{ends_decl}
use Rattle.check_block.proofs.nesting.push_decl.Goals as goal

pub returns-in-Procedure : goal.returns-in-Procedure
returns-in-Procedure c =
    on_ok_weaker c.push_all.result (ends_decl c.args.ends.now c.push_all.new.ends c.args.decl.now c.in-Procedure.field-0
    c.in-Procedure.block c.get.result.now c.as_slice.result.now c.in-Procedure.is c.get.ensures c.as_slice.ensures)
    c.push_all.ensures
