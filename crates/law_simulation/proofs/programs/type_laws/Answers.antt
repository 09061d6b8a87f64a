use Rattle.law_simulation.proofs.Plain.{tree_plain}
use Rattle.law_simulation.proofs.Cells.{are_small, cell_is, set_is, procedure_tree_is}
use Rattle.law_simulation.proofs.Fits.{forms_plain, frame_fits, module_fits}
use Rattle.law_simulation.proofs.programs.type_laws.Goals as goal

pub returns-clause-plain : goal.returns-clause-plain
returns-clause-plain c = tree_plain

pub returns-clause-small : goal.returns-clause-small
returns-clause-small c = are_small

pub returns-clause-cells : goal.returns-clause-cells
returns-clause-cells c = cell_is

pub returns-clause-sets : goal.returns-clause-sets
returns-clause-sets c = set_is

pub returns-clause-procedures : goal.returns-clause-procedures
returns-clause-procedures c = procedure_tree_is

pub returns-clause-formals : goal.returns-clause-formals
returns-clause-formals c = forms_plain

pub returns-clause-frames : goal.returns-clause-frames
returns-clause-frames c = frame_fits

pub returns-clause-modules : goal.returns-clause-modules
returns-clause-modules c = module_fits
