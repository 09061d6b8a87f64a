use Rattle.std.proofs.Common.{◌≡◌, ◌<◌, ℕ, true, get_or}
use Rattle.scan_tokens.specs.Bytes.{is_printable}
use Rattle.scan_tokens.proofs.lengths.printable_len.Given as goal

abbrev pub invariant-loop-i : goal.invariant-loop-i
invariant-loop-i l = (k : ℕ) → k < l.i → is_printable (get_or l.text k 0) ≡ true
