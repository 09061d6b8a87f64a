use Rattle.std.proofs.Common.{◌≡◌, map, subst}
use Rattle.std.specs.Prelude.{IfOk}
use Rattle.def_scheme.specs.Modules.{functions}
use Rattle.emit_buffer.specs.Cut.{cut_function}
use Rattle.m2_emit.proofs.module.functions.Goals as goal

pub returns : goal.returns
returns c = subst (λ m. IfOk c.functions_of.result (λ found. found ≡ map cut_function (functions m)))
    c.in_ok-home.ensures c.functions_of.ensures
