use Rattle.std.proofs.Common.{◌≡◌, ◌≤◌, ◌<◌, ℕ, length, ap, sym, subst, arith}
use Rattle.input_module.specs.Text.{text_of}
use Rattle.input_module.proofs.Lengths.{no_shorter, fits_always}
use Rattle.input_module.proofs.text.input_text.Goals as goal

pub returns-then-bytes-gt-MAX_TEXT-clause-too_long :
    goal.returns-then-bytes-gt-MAX_TEXT-clause-too_long
returns-then-bytes-gt-MAX_TEXT-clause-too_long c =
    let l = no_shorter c.args.bytes.now in
    λ e. omega (arith, l, c.if-bytes-gt-MAX_TEXT.true)

pub returns-then-len-gt-MAX_TEXT-clause-always : goal.returns-then-len-gt-MAX_TEXT-clause-always
returns-then-len-gt-MAX_TEXT-clause-always c =
    λ few e.
    let l = fits_always c.args.bytes.now few in
    let s = ap length c.in_ok-text.ensures in
    omega (arith, l, s, c.len.ensures, c.if-len-gt-MAX_TEXT.true)
