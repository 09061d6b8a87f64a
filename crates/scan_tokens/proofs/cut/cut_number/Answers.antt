use Rattle.std.proofs.Common.{Some, refl}
use Rattle.scan_tokens.specs.declared.class.Class.TheVariants.{Digit}
use Rattle.scan_tokens.proofs.Fronts.{run_front, number_stops, number_taken}
use Rattle.scan_tokens.proofs.cut.cut_number.Goals as goal

pub number_of-requires : goal.number_of-requires
number_of-requires c =
    (run_front Digit c.args.cut.now.rest.now c.split_at.result.0.now c.split_at.result.1.now c.run_len-len.result refl
    c.requires.begins c.run_len-len.ensures.value c.split_at.ensures.front c.split_at.ensures.back).runs

pub returns-in-Err-clause-refused : goal.returns-in-Err-clause-refused
returns-in-Err-clause-refused c =
    let front = run_front Digit c.args.cut.now.rest.now c.split_at.result.0.now c.split_at.result.1.now
    c.run_len-len.result refl c.requires.begins c.run_len-len.ensures.value c.split_at.ensures.front
    c.split_at.ensures.back in
    number_stops c.args.cut.now.rest.now c.split_at.result.0.now c.split_at.result.1.now c.run_len-len.result
    c.args.cut.now.pos c.in-Err.broken c.scan_refusal.result front c.in-Err.ensures.err c.scan_refusal.ensures

pub returns-in_ok-put-in-Ok-clause-taken : goal.returns-in_ok-put-in-Ok-clause-taken
returns-in_ok-put-in-Ok-clause-taken c =
    let front = run_front Digit c.args.cut.now.rest.now c.split_at.result.0.now c.split_at.result.1.now
    c.run_len-len.result refl c.requires.begins c.run_len-len.ensures.value c.split_at.ensures.front
    c.split_at.ensures.back in (
      Some c.in-Ok.token,
      number_taken c.args.cut.now.rest.now c.split_at.result.0.now c.split_at.result.1.now
          c.run_len-len.result c.args.cut.now.pos c.right.result c.in-Ok.token front c.in-Ok.ensures.ok
          c.right.ensures.line c.right.ensures.col,
      c.in_ok-put-in-Ok.ensures,
    )
