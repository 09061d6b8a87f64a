-- The laws, however broken rules are gathered.
use Rattle.check_scope.specs.Elaborated.{Gathers}
use Rattle.law_exchange_types.proofs.MeaningPieces.{first_name_moves, field_of_moves}
use Rattle.law_exchange_exprs.specs.Laws.{ExpressionsMove, DesignatorsMove, SelectorsMove, ItemsMove, ConstantPartsMove, ArgumentsMove, ConstantsMove, ValuesMove, FirstNamesMove, FieldsMove, CallsMove}
use Rattle.law_exchange_exprs.specs.InTurn.{LooksMove, ActualsMove, UsesMove, FactorsMove, TermsMove, RelationsMove}
use Rattle.law_exchange_exprs.proofs.Calls.{constant_of_moves, value_of_moves, breaches_move, actuals_of_moves}
use Rattle.law_exchange_exprs.proofs.Operated.{with_arguments, factor_moves, term_moves, relation_moves}
use Rattle.law_exchange_exprs.proofs.Done.{call_statement_moves}
use Rattle.law_exchange_exprs.proofs.Knot.{expression_moves, designator_is, selector_is, item_is, constant_part_moves, arguments_move}

pub expressions_given : (g : Gathers) → ExpressionsMove g
expressions_given g z e = expression_moves z g e

pub designators_given : (g : Gathers) → DesignatorsMove g
designators_given g z d = designator_is z g d

pub selectors_given : (g : Gathers) → SelectorsMove g
selectors_given g z x = selector_is z g x

pub items_given : (g : Gathers) → ItemsMove g
items_given g z i = item_is z g i

pub parts_given : (g : Gathers) → ConstantPartsMove g
parts_given g z e = constant_part_moves z g e

pub arguments_given : (g : Gathers) → ArgumentsMove g
arguments_given g z es = arguments_move z g es

pub constants_given : (g : Gathers) → ConstantsMove g
constants_given g z s p h = constant_of_moves z g s p h

pub values_given : (g : Gathers) → ValuesMove g
values_given g z s m h = value_of_moves z g s m h

pub first_names_given : (g : Gathers) → FirstNamesMove g
first_names_given g z s name = first_name_moves z g s name

pub fields_given : (g : Gathers) → FieldsMove g
fields_given g z s at name d = field_of_moves z g s at name d

pub calls_given : (g : Gathers) → CallsMove g
calls_given g z s d args h k = call_statement_moves z g s d args h k

-- ---- one part after the other

pub looks_given : (g : Gathers) → LooksMove g
looks_given g z s ms h = breaches_move z g s ms h

pub actuals_given : (g : Gathers) → ActualsMove g
actuals_given g z s fs ms h = actuals_of_moves z g s fs ms h

pub uses_given : (g : Gathers) → UsesMove g
uses_given g z s d ms h k = with_arguments z g s d ms h k

pub factors_given : (g : Gathers) → FactorsMove g
factors_given g z s at v x h = factor_moves z g s at v x h

pub terms_given : (g : Gathers) → TermsMove g
terms_given g z s at v x h = term_moves z g s at v x h

pub relations_given : (g : Gathers) → RelationsMove g
relations_given g z s a o b h k = relation_moves z g s a o b h k
