use Rattle.std.proofs.Common.{take}
use Rattle.std.specs.List.{flat_map}
use Rattle.show_code.specs.Pages.{Puts}
use Rattle.show_code.specs.Modules.{element_text}
use Rattle.show_code.proofs.module.put_elements.Given as goal

abbrev pub invariant-loop-element : goal.invariant-loop-element
invariant-loop-element l = Puts l.fn.page l.page (flat_map element_text (take l.element-index l.elements))
