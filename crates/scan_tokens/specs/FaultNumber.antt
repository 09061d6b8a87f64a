-- The numbers by which the refusals of a text are reported.
use Rattle.std.specs.Prelude.{ℕ}
use Rattle.scan_tokens.specs.declared.refusal.TokenRule.{TokenRule}
use Rattle.scan_tokens.specs.declared.refusal.TokenRule.TheVariants.{TooLong, StrayByte, OpenComment, OpenString, BadNumber, LargeNumber, LongName}

abbrev pub number_of : TokenRule → ℕ
number_of TooLong = 1
number_of StrayByte = 2
number_of OpenComment = 3
number_of OpenString = 4
number_of BadNumber = 5
number_of LargeNumber = 6
number_of LongName = 7
