use Rattle.std.proofs.Common.{◌≡◌, ◌++◌, take}
use Rattle.input_module.specs.Spelling.{spelled}
use Rattle.input_module.proofs.spelling.put_bytes.Given as goal

abbrev pub invariant-loop-byte : goal.invariant-loop-byte
invariant-loop-byte l = l.text.items ≡ l.fn.text.items ++ spelled (take l.byte-index l.bytes)
