use Rattle.std.proofs.Common.{ℕ, ◌+◌, ◌≤◌, arith}
use Rattle.law_encoding.proofs.ShortSteps.{body_short}
use Rattle.law_encoding.proofs.FunctionBytes.{functions_short, sizes_fit}
use Rattle.law_encoding.proofs.code_size_laws.Goals as goal

no_more : (a n : ℕ) → a ≤ n + 0 → a ≤ n
no_more a n h = omega (arith, h)

pub returns-clause-statements : goal.returns-clause-statements
returns-clause-statements c = λ numbered xs h s d. no_more _ _ ((body_short numbered xs h).at_most s d)

pub returns-clause-functions : goal.returns-clause-functions
returns-clause-functions c = λ m h. functions_short m h

pub returns-clause-sizes : goal.returns-clause-sizes
returns-clause-sizes c = λ m h l. sizes_fit m h l
