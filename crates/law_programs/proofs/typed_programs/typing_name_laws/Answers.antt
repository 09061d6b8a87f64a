use Rattle.law_programs.proofs.NamesThere.{body_named}
use Rattle.law_programs.proofs.typed_programs.typing_name_laws.Goals as goal

pub returns : goal.returns
returns c = λ fs files jobs starts graph each fit p bodies pages place m there b. body_named fs files jobs starts graph
    each fit p bodies pages place m there b
