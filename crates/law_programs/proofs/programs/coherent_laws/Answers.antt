use Rattle.law_programs.proofs.GraphsPrograms.{coherent}
use Rattle.law_programs.proofs.Graphs.{graphs_whole, graphs_coherent}
use Rattle.law_programs.proofs.programs.coherent_laws.Goals as goal

pub returns-clause-programs : goal.returns-clause-programs
returns-clause-programs c = λ trees files jobs fit p w place m there. coherent trees files jobs fit p w place m there

pub returns-clause-graphs : goal.returns-clause-graphs
returns-clause-graphs c = λ fs files jobs starts graph each fit p b. graphs_whole fs files jobs starts graph each fit p
    b

pub returns-clause-coherent : goal.returns-clause-coherent
returns-clause-coherent c = λ fs files jobs starts graph each fit p b place m e. graphs_coherent fs files jobs starts
    graph each fit p b place m e
