use Rattle.std.proofs.Common.{take}
use Rattle.std.specs.List.{flat_map}
use Rattle.show_code.specs.Pages.{Puts}
use Rattle.show_code.specs.Modules.{locals_text}
use Rattle.show_code.proofs.module.put_all_locals.Given as goal

abbrev pub invariant-loop-locals : goal.invariant-loop-locals
invariant-loop-locals l = Puts l.fn.page l.page (flat_map locals_text (take l.locals-index l.groups))
