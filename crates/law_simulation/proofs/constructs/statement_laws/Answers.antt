use Rattle.law_simulation.proofs.Laws.{assigns, unlabelled, cases, fors, withs, changes, memberships, puts, halts, exits, returns, lone_ifs, rows, ifs, whiles, repeats, loops}
use Rattle.law_simulation.proofs.constructs.statement_laws.Goals as goal

pub returns-clause-assigns : goal.returns-clause-assigns
returns-clause-assigns c = assigns

pub returns-clause-rows : goal.returns-clause-rows
returns-clause-rows c = rows

pub returns-clause-ifs : goal.returns-clause-ifs
returns-clause-ifs c = ifs

pub returns-clause-whiles : goal.returns-clause-whiles
returns-clause-whiles c = whiles

pub returns-clause-repeats : goal.returns-clause-repeats
returns-clause-repeats c = repeats

pub returns-clause-loops : goal.returns-clause-loops
returns-clause-loops c = loops

pub returns-clause-puts : goal.returns-clause-puts
returns-clause-puts c = puts

pub returns-clause-halts : goal.returns-clause-halts
returns-clause-halts c = halts

pub returns-clause-exits : goal.returns-clause-exits
returns-clause-exits c = exits

pub returns-clause-lone_ifs : goal.returns-clause-lone_ifs
returns-clause-lone_ifs c = lone_ifs

pub returns-clause-gives_back : goal.returns-clause-gives_back
returns-clause-gives_back c = returns

pub returns-clause-changes : goal.returns-clause-changes
returns-clause-changes c = changes

pub returns-clause-memberships : goal.returns-clause-memberships
returns-clause-memberships c = memberships

pub returns-clause-withs : goal.returns-clause-withs
returns-clause-withs c = withs

pub returns-clause-fors : goal.returns-clause-fors
returns-clause-fors c = fors

pub returns-clause-cases : goal.returns-clause-cases
returns-clause-cases c = cases

pub returns-clause-unlabelled : goal.returns-clause-unlabelled
returns-clause-unlabelled c = unlabelled
