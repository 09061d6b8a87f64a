use Rattle.std.proofs.Common.{◌++◌, codes}
use Rattle.show_code.specs.Pages.{Puts}
use Rattle.show_code.specs.Modules.{repeat_bytes}
use Rattle.show_code.proofs.module.put_times.Given as goal

abbrev pub invariant-loop : goal.invariant-loop
invariant-loop l = Puts l.fn.page l.page (repeat_bytes l.counter (codes " " ++ l.word))
