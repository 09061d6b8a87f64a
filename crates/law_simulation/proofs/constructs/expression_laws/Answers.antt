use Rattle.law_simulation.proofs.Laws.{constants, sums, differences, products, combinations, inclusions, members, quotients, remainders, conjunctions, disjunctions, chains, relations, negations, identities, opposites, absolutes, capitals, characters, parities, ordinals, conversions, loads}
use Rattle.law_simulation.proofs.constructs.expression_laws.Goals as goal

pub returns-clause-constants : goal.returns-clause-constants
returns-clause-constants c = constants

pub returns-clause-sums : goal.returns-clause-sums
returns-clause-sums c = sums

pub returns-clause-differences : goal.returns-clause-differences
returns-clause-differences c = differences

pub returns-clause-conjunctions : goal.returns-clause-conjunctions
returns-clause-conjunctions c = conjunctions

pub returns-clause-disjunctions : goal.returns-clause-disjunctions
returns-clause-disjunctions c = disjunctions

pub returns-clause-chains : goal.returns-clause-chains
returns-clause-chains c = chains

pub returns-clause-relations : goal.returns-clause-relations
returns-clause-relations c = relations

pub returns-clause-negations : goal.returns-clause-negations
returns-clause-negations c = negations

pub returns-clause-loads : goal.returns-clause-loads
returns-clause-loads c = loads

pub returns-clause-products : goal.returns-clause-products
returns-clause-products c = products

pub returns-clause-identities : goal.returns-clause-identities
returns-clause-identities c = identities

pub returns-clause-opposites : goal.returns-clause-opposites
returns-clause-opposites c = opposites

pub returns-clause-absolutes : goal.returns-clause-absolutes
returns-clause-absolutes c = absolutes

pub returns-clause-capitals : goal.returns-clause-capitals
returns-clause-capitals c = capitals

pub returns-clause-characters : goal.returns-clause-characters
returns-clause-characters c = characters

pub returns-clause-parities : goal.returns-clause-parities
returns-clause-parities c = parities

pub returns-clause-ordinals : goal.returns-clause-ordinals
returns-clause-ordinals c = ordinals

pub returns-clause-conversions : goal.returns-clause-conversions
returns-clause-conversions c = conversions

pub returns-clause-quotients : goal.returns-clause-quotients
returns-clause-quotients c = quotients

pub returns-clause-remainders : goal.returns-clause-remainders
returns-clause-remainders c = remainders

pub returns-clause-combinations : goal.returns-clause-combinations
returns-clause-combinations c = combinations

pub returns-clause-inclusions : goal.returns-clause-inclusions
returns-clause-inclusions c = inclusions

pub returns-clause-members : goal.returns-clause-members
returns-clause-members c = members
