use Rattle.law_compiling.proofs.Fitting.{written_links}
use Rattle.law_compiling.proofs.what_is_written_links.Goals as goal

pub returns : goal.returns
returns c = written_links
