use Rattle.std.proofs.Common.{take}
use Rattle.std.specs.List.{flat_map}
use Rattle.show_code.specs.Pages.{Puts}
use Rattle.show_code.specs.Modules.{memory_text}
use Rattle.show_code.proofs.module.put_memories.Given as goal

abbrev pub invariant-loop-memory : goal.invariant-loop-memory
invariant-loop-memory l = Puts l.fn.page l.page (flat_map memory_text (take l.memory-index l.memories))
