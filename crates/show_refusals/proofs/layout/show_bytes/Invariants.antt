use Rattle.std.proofs.Common.{◌≡◌, take}
use Rattle.std.specs.String.{string_bytes}
use Rattle.show_refusals.specs.Layout.{show_source}
use Rattle.show_refusals.proofs.layout.show_bytes.Given as goal

abbrev pub invariant-loop-byte : goal.invariant-loop-byte
invariant-loop-byte l = string_bytes l.text ≡ show_source l.front (take l.byte-index l.bytes)
