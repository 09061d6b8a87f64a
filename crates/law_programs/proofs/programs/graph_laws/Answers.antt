use Rattle.law_programs.proofs.GraphModules.{are_modules}
use Rattle.law_programs.proofs.programs.graph_laws.Goals as goal

pub returns : goal.returns
returns c = λ fs files jobs starts graph each fit whole p b w pages room most. are_modules fs files jobs starts graph
    each fit whole p b w pages room most
