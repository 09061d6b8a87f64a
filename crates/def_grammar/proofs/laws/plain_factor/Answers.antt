use Rattle.def_grammar.proofs.Factoring.{is_factor, is_plain}
use Rattle.def_grammar.proofs.laws.plain_factor.Goals as goal

pub returns-clause-plain : goal.returns-clause-plain
returns-clause-plain c x ts p = is_plain p

pub returns-clause-back : goal.returns-clause-back
returns-clause-back c x ts p = is_factor x ts p
