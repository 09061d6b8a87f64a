use Rattle.std.proofs.Common.{◌≡◌, map, take}
use Rattle.wasm_machine.specs.Going.{memory_from}
use Rattle.wasm_engine.proofs.engine.pages_of.Given as goal

abbrev pub invariant-loop-memory : goal.invariant-loop-memory
invariant-loop-memory l = map memory_from l.all.items ≡ take l.memory-index l.memories
