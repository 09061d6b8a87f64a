use Rattle.std.proofs.Common.{◌++◌, ◌-◌, take, drop, length}
use Rattle.wasm_operands.proofs.operands.Operands.keep.Given as goal

abbrev pub ghost-known_as : goal.ghost-known_as
ghost-known_as a = take a._place.now a._first.now.values
    ++ drop (length a._first.now.values - a._count.now) a._first.now.values
