use Rattle.std.proofs.Common.{take}
use Rattle.std.specs.List.{flat_map}
use Rattle.wasm_tree.specs.Code.{label_of}
use Rattle.show_code.specs.Pages.{Puts}
use Rattle.show_code.specs.Instructions.{label_text}
use Rattle.show_code.proofs.instructions.put_labels.Given as goal

abbrev pub invariant-loop-label : goal.invariant-loop-label
invariant-loop-label l = Puts l.fn.page l.page (flat_map (λ o. label_text (label_of o)) (take l.label-index l.labels))
