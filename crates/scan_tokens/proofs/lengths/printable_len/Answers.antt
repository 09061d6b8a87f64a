use Rattle.std.proofs.Common.{◌<◌, ℕ, length, sym, ◌∙◌, arith}
use Rattle.std.proofs.lemmas.List.Sums.{prefix_len_is}
use Rattle.scan_tokens.specs.Bytes.{is_printable}
use Rattle.scan_tokens.proofs.lengths.printable_len.Goals as goal

pub returns-then-not-is_printable-clause-value : goal.returns-then-not-is_printable-clause-value
returns-then-not-is_printable-clause-value c =
    sym (prefix_len_is is_printable c.args.text.now c.loop-i.i 0 (omega arith) c.loop-i.invariant
    (λ _. sym c.is_printable.ensures ∙ c.if-not-is_printable.true))

pub returns-clause-value : goal.returns-clause-value
returns-clause-value c =
    let all = λ (k : ℕ) (h : k < length c.args.text.now). c.loop-i.invariant k (omega arith) in
    sym (prefix_len_is is_printable c.args.text.now (length c.args.text.now) 0 (omega arith) all
    (λ h. absurd (omega arith)))
