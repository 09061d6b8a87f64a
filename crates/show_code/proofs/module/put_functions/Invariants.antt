use Rattle.std.proofs.Common.{drop}
use Rattle.show_code.specs.Modules.{functions_text}
use Rattle.show_code.proofs.Joined.{Leads}
use Rattle.show_code.proofs.module.put_functions.Given as goal

abbrev pub invariant-loop-number : goal.invariant-loop-number
invariant-loop-number l =
    Leads l.fn.page l.page (functions_text l.titles l.number (drop l.number l.functions))
    (functions_text l.titles 0 l.functions)
