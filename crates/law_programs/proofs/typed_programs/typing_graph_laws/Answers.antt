use Rattle.law_programs.proofs.TypedModules.{are_typed}
use Rattle.law_programs.proofs.typed_programs.typing_graph_laws.Goals as goal

pub returns : goal.returns
returns c = λ fs files jobs starts graph each fit whole p b pages room most. are_typed fs files jobs starts graph each
    fit whole p b pages room most
