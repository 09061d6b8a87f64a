use Rattle.def_grammar.proofs.Exact.{at_most_one}
use Rattle.def_grammar.proofs.laws.one_tree.Goals as goal

pub returns : goal.returns
returns c ts m n = at_most_one ts m n
