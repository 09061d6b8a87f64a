use Rattle.std.proofs.Common.{take}
use Rattle.std.specs.List.{flat_map}
use Rattle.write_text.specs.Texts.{Puts}
use Rattle.write_text.proofs.text.Text.put_all.Given as goal

abbrev pub invariant-loop-part : goal.invariant-loop-part
invariant-loop-part l = Puts l.fn.self l.self (flat_map (λ p. p.now) (take l.part-index l.parts))
