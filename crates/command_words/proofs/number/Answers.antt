use Rattle.std.proofs.Common.{rules, subst}
use Rattle.std.specs.Str.Parse.{ParsesUnsigned}
use Rattle.command_words.proofs.Refused.{refused}
use Rattle.command_words.proofs.number.Goals as goal

pub returns-in-Err-clause-exact : goal.returns-in-Err-clause-exact
returns-in-Err-clause-exact c =
    refused c.args.text.now c.args.most c.in-Err.field-0
    (subst (ParsesUnsigned 64 10 c.args.text.now) c.in-Err.is c.parse.ensures.value.0) c.ranges.most.fits
    (search rules)
