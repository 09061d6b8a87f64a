use Rattle.def_grammar.proofs.Exact.{never_both}
use Rattle.def_grammar.proofs.laws.tree_or_refusal.Goals as goal

pub returns : goal.returns
returns c ts m r = never_both ts m r
