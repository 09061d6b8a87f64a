use Rattle.layout_storage.proofs.Framed.{ok_variables}
use Rattle.layout_storage.proofs.frame.variables_row.Goals as goal

pub returns : goal.returns
returns c = ok_variables c.args.types.now c.args.variables.now c.begin_row.result c.begin_row.ensures
    c.with_variables.result c.with_variables.ensures
