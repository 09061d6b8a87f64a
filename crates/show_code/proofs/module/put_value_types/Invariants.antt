use Rattle.std.proofs.Common.{take}
use Rattle.show_code.specs.Pages.{Puts}
use Rattle.show_code.specs.Modules.{types_text}
use Rattle.show_code.proofs.module.put_value_types.Given as goal

abbrev pub invariant-loop-value_type : goal.invariant-loop-value_type
invariant-loop-value_type l = Puts l.fn.page l.page (types_text l.word (take l.value_type-index l.types))
