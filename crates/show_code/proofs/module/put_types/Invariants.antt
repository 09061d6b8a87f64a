use Rattle.std.proofs.Common.{take}
use Rattle.std.specs.List.{flat_map}
use Rattle.show_code.specs.Pages.{Puts}
use Rattle.show_code.specs.Modules.{type_text}
use Rattle.show_code.proofs.module.put_types.Given as goal

abbrev pub invariant-loop-of : goal.invariant-loop-of
invariant-loop-of l = Puts l.fn.page l.page (flat_map type_text (take l.of-index l.types))
