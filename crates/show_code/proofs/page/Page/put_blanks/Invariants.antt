use Rattle.std.proofs.Common.{replicate}
use Rattle.show_code.specs.Pages.{Puts}
use Rattle.show_code.proofs.page.Page.put_blanks.Given as goal

abbrev pub invariant-loop : goal.invariant-loop
invariant-loop l = Puts l.fn.self l.self (replicate l.counter 32)
