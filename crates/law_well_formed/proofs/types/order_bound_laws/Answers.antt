use Rattle.check_scope.specs.Elaborated.{least, every}
use Rattle.law_well_formed.proofs.OrderBlocks.{entered_ordered, left_ordered}
use Rattle.law_well_formed.proofs.OrderTables.{first_ordered, exports_ordered}
use Rattle.law_well_formed.proofs.types.order_bound_laws.Goals as goal

pub returns-clause-least_entered : goal.returns-clause-least_entered
returns-clause-least_entered c = λ base s seen x h. entered_ordered base least s seen x h

pub returns-clause-every_entered : goal.returns-clause-every_entered
returns-clause-every_entered c = λ base s seen x h. entered_ordered base every s seen x h

pub returns-clause-least_left : goal.returns-clause-least_left
returns-clause-least_left c = λ base o s h k. left_ordered base o s h k

pub returns-clause-every_left : goal.returns-clause-every_left
returns-clause-every_left c = λ base o s h k. left_ordered base o s h k

pub returns-clause-least_first : goal.returns-clause-least_first
returns-clause-least_first c = λ home tables p q r. first_ordered home tables p q r

pub returns-clause-every_first : goal.returns-clause-every_first
returns-clause-every_first c = λ home tables p q r. first_ordered home tables p q r

pub returns-clause-least_exports : goal.returns-clause-least_exports
returns-clause-least_exports c = λ base s h. exports_ordered base s h

pub returns-clause-every_exports : goal.returns-clause-every_exports
returns-clause-every_exports c = λ base s h. exports_ordered base s h
