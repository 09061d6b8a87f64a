use Rattle.law_texts.proofs.Trees.{tokens_are_parsed}
use Rattle.law_texts.proofs.tree_laws.Goals as goal

pub returns : goal.returns
returns c = tokens_are_parsed
