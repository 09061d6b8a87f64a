use Rattle.def_grammar.proofs.Exact.{refused_once}
use Rattle.def_grammar.proofs.laws.one_refusal.Goals as goal

pub returns : goal.returns
returns c ts r q = refused_once ts r q
