use Rattle.check_scope.specs.Elaborated.{least, every}
use Rattle.law_well_formed.proofs.RangesBlocks.{block_ranged, module_ranged, definition_ranged, left_ranged, entered_ranged}
use Rattle.law_well_formed.proofs.RangesTables.{first_ranged, exports_ranged, reached_ranged, others_of_ranged}
use Rattle.law_well_formed.proofs.ranges.block_range_laws.Goals as goal

pub returns-clause-least_definitions : goal.returns-clause-least_definitions
returns-clause-least_definitions c = λ m modules s h ds e. definition_ranged least m modules s ds e h

pub returns-clause-every_definitions : goal.returns-clause-every_definitions
returns-clause-every_definitions c = λ m modules s h ds e. definition_ranged every m modules s ds e h

pub returns-clause-least_blocks : goal.returns-clause-least_blocks
returns-clause-least_blocks c = λ ends st first p ds e. block_ranged least ends st first ds e p

pub returns-clause-every_blocks : goal.returns-clause-every_blocks
returns-clause-every_blocks c = λ ends st first p ds e. block_ranged every ends st first ds e p

pub returns-clause-least_modules : goal.returns-clause-least_modules
returns-clause-least_modules c = λ modules ends s m h ds e. module_ranged least modules ends s m ds e h

pub returns-clause-every_modules : goal.returns-clause-every_modules
returns-clause-every_modules c = λ modules ends s m h ds e. module_ranged every modules ends s m ds e h

pub returns-clause-least_entered : goal.returns-clause-least_entered
returns-clause-least_entered c = λ s seen x h. entered_ranged least s seen x h

pub returns-clause-every_entered : goal.returns-clause-every_entered
returns-clause-every_entered c = λ s seen x h. entered_ranged every s seen x h

pub returns-clause-least_left : goal.returns-clause-least_left
returns-clause-least_left c = λ o s h. left_ranged o s h

pub returns-clause-every_left : goal.returns-clause-every_left
returns-clause-every_left c = λ o s h. left_ranged o s h

pub returns-clause-least_first : goal.returns-clause-least_first
returns-clause-least_first c = λ home tables p q r. first_ranged home tables p q r

pub returns-clause-every_first : goal.returns-clause-every_first
returns-clause-every_first c = λ home tables p q r. first_ranged home tables p q r

pub returns-clause-least_exports : goal.returns-clause-least_exports
returns-clause-least_exports c = λ s h. exports_ranged s h

pub returns-clause-every_exports : goal.returns-clause-every_exports
returns-clause-every_exports c = λ s h. exports_ranged s h

pub returns-clause-reached : goal.returns-clause-reached
returns-clause-reached c = (reached_ranged, others_of_ranged)
