use Rattle.check_scope.specs.Elaborated.{least, every}
use Rattle.check_body.specs.Checks.{elaborate_body}
use Rattle.law_well_formed.proofs.Induction.{elaborated_formed}
use Rattle.law_programs.proofs.Induction.{elaborated_typed, blocks_typed}
use Rattle.law_programs.proofs.Locals.{locals_stay}
use Rattle.law_programs.proofs.Agreeing.{words_stay, headings_agree}
use Rattle.law_programs.proofs.Modules.{modules_typed}
use Rattle.law_programs.proofs.blocks.typing_body_laws.Goals as goal

pub returns-clause-least : goal.returns-clause-least
returns-clause-least c = λ base ends b fit. blocks_typed least (elaborate_body least) (elaborated_formed least)
    (elaborated_typed least) base (words_stay least) ends (locals_stay least) (headings_agree least) b fit

pub returns-clause-every : goal.returns-clause-every
returns-clause-every c = λ base ends b fit. blocks_typed every (elaborate_body every) (elaborated_formed every)
    (elaborated_typed every) base (words_stay every) ends (locals_stay every) (headings_agree every) b fit

pub returns-clause-least_modules : goal.returns-clause-least_modules
returns-clause-least_modules c = modules_typed least

pub returns-clause-every_modules : goal.returns-clause-every_modules
returns-clause-every_modules c = modules_typed every
