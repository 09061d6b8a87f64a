use Rattle.check_scope.specs.Elaborated.{least, every}
use Rattle.law_programs.specs.TypingWants.{stage_at}
use Rattle.law_programs.proofs.Orders.{bodies_ordered}
use Rattle.law_programs.proofs.Provided.{bodies_provided, module_typed}
use Rattle.law_programs.proofs.ModuleTexts.{module_bytes}
use Rattle.law_programs.proofs.typed_programs.typing_want_laws.Goals as goal

pub returns-clause-least : goal.returns-clause-least
returns-clause-least c = bodies_ordered least

pub returns-clause-every : goal.returns-clause-every
returns-clause-every c = bodies_ordered every

pub returns-clause-provided : goal.returns-clause-provided
returns-clause-provided c = λ z ordered. bodies_provided z ordered

pub returns-clause-modules : goal.returns-clause-modules
returns-clause-modules c = λ p pages place m opens typed ordered.
    let provided = bodies_provided (stage_at p pages place m opens) ordered in
    (module_typed p pages place m opens typed provided, module_bytes (stage_at p pages place m opens) typed provided)
