use Rattle.scan_tokens.proofs.Numerals.{refused_digits}
use Rattle.scan_tokens.proofs.number.number_of.Goals as goal

pub returns-in-Err-clause-err : goal.returns-in-Err-clause-err
returns-in-Err-clause-err c =
    let last = c.split-form.ensures.last in
    refused_digits _ c.args.run.now _ last.0 last.1 c.in-Err.broken last.2 last.3 c.split-form.ensures.digits
    c.in-Err.ensures.refused
