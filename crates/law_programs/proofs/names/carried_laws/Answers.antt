use Rattle.std.proofs.Common.{refl}
use Rattle.check_scope.specs.Elaborated.{least, every}
use Rattle.law_programs.proofs.Bounding.{entered_words, left_words, first_words, exports_words}
use Rattle.law_programs.proofs.Carrying.{indexed_known}
use Rattle.law_programs.proofs.Declaring.{def_carries, decl_carries, block_carries, definition_carries, module_carries_on}
use Rattle.law_programs.proofs.Exporting.{exports_free, implementation_slots, implementation_words}
use Rattle.law_programs.proofs.Denoting.{constants_words}
use Rattle.law_programs.proofs.Reaching.{first_indexed, reached_indexed, reached_stay}
use Rattle.law_programs.proofs.Walking.{checked_indexed, implementation_indexed}
use Rattle.law_programs.proofs.names.carried_laws.Goals as goal

pub returns-clause-least_defs : goal.returns-clause-least_defs
returns-clause-least_defs c = def_carries least

pub returns-clause-every_defs : goal.returns-clause-every_defs
returns-clause-every_defs c = def_carries every

pub returns-clause-least_decls : goal.returns-clause-least_decls
returns-clause-least_decls c = decl_carries least

pub returns-clause-every_decls : goal.returns-clause-every_decls
returns-clause-every_decls c = decl_carries every

pub returns-clause-least_blocks : goal.returns-clause-least_blocks
returns-clause-least_blocks c = block_carries least

pub returns-clause-every_blocks : goal.returns-clause-every_blocks
returns-clause-every_blocks c = block_carries every

pub returns-clause-least_definitions : goal.returns-clause-least_definitions
returns-clause-least_definitions c = definition_carries least

pub returns-clause-every_definitions : goal.returns-clause-every_definitions
returns-clause-every_definitions c = definition_carries every

pub returns-clause-least_modules : goal.returns-clause-least_modules
returns-clause-least_modules c = module_carries_on least

pub returns-clause-every_modules : goal.returns-clause-every_modules
returns-clause-every_modules c = module_carries_on every

pub returns-clause-least_procedures : goal.returns-clause-least_procedures
returns-clause-least_procedures c = λ s.
    (λ seen h. (refl, λ p. entered_words least s seen h p), λ o. (refl, λ p. left_words o s p))

pub returns-clause-every_procedures : goal.returns-clause-every_procedures
returns-clause-every_procedures c = λ s.
    (λ seen h. (refl, λ p. entered_words every s seen h p), λ o. (refl, λ p. left_words o s p))

pub returns-clause-tables : goal.returns-clause-tables
returns-clause-tables c = (λ home tables p. first_indexed home tables p, λ types h. reached_indexed types h)

pub returns-clause-reached : goal.returns-clause-reached
returns-clause-reached c = reached_stay

pub returns-clause-indexed : goal.returns-clause-indexed
returns-clause-indexed c = indexed_known

pub returns-clause-least_words : goal.returns-clause-least_words
returns-clause-least_words c = (λ home tables p. first_words home tables p, λ s h. exports_words s h)

pub returns-clause-least_constants : goal.returns-clause-least_constants
returns-clause-least_constants c = λ s h e. constants_words least s h e

pub returns-clause-every_words : goal.returns-clause-every_words
returns-clause-every_words c = (λ home tables p. first_words home tables p, λ s h. exports_words s h)

pub returns-clause-every_constants : goal.returns-clause-every_constants
returns-clause-every_constants c = λ s h e. constants_words every s h e

pub returns-clause-least_bodies : goal.returns-clause-least_bodies
returns-clause-least_bodies c = λ elaborates number m own ts p. checked_indexed least elaborates number m own ts p

pub returns-clause-every_bodies : goal.returns-clause-every_bodies
returns-clause-every_bodies c = λ elaborates number m own ts p. checked_indexed every elaborates number m own ts p

pub returns-clause-implementations : goal.returns-clause-implementations
returns-clause-implementations c = implementation_indexed

pub returns-clause-least_own : goal.returns-clause-least_own
returns-clause-least_own c = λ own tables p q. implementation_words own tables p q

pub returns-clause-least_free : goal.returns-clause-least_free
returns-clause-least_free c = (
  λ s e h. exports_free s e h,
  λ home tables. (tt, tt),
  λ own tables p.
      implementation_slots least.Reported own tables p,
)

pub returns-clause-every_own : goal.returns-clause-every_own
returns-clause-every_own c = λ own tables p q. implementation_words own tables p q

pub returns-clause-every_free : goal.returns-clause-every_free
returns-clause-every_free c = (
  λ s e h. exports_free s e h,
  λ home tables. (tt, tt),
  λ own tables p.
      implementation_slots every.Reported own tables p,
)
