use Rattle.std.proofs.Common.{arith}
use Rattle.check_scope.specs.Elaborated.{least, every}
use Rattle.check_body.specs.Checks.{elaborate_body}
use Rattle.def_grammar.specs.Refusal.{max_nesting}
use Rattle.law_well_formed.proofs.Induction.{elaborated_formed}
use Rattle.law_well_formed.proofs.WholeModules.{modules_formed}
use Rattle.law_encoding.proofs.Bounds.{statements_near, modules_shallow}
use Rattle.law_encoding.proofs.DeepTexts.{tree_below}
use Rattle.law_encoding.proofs.DeepFunctions.{accepted_low}
use Rattle.law_encoding.proofs.NestedProcedures.{tree_below as procedures_below}
use Rattle.law_encoding.proofs.ProcedureLevels.{bodies_near}
use Rattle.law_encoding.proofs.AcceptedRoom.{accepted_room, typed_room}
use Rattle.law_encoding.proofs.accepted_laws.Goals as goal

pub returns-clause-least : goal.returns-clause-least
returns-clause-least c = λ ts m d number own tables k.
    accepted_room _ (accepted_low _ (tree_below ts m d) (modules_shallow least number m own tables))
    (bodies_near max_nesting least (elaborate_body least) (elaborated_formed least)
    (λ s r xs. statements_near least s _ xs) number m own tables (omega arith) (procedures_below ts m d))
    (modules_formed least number m own tables k)

pub returns-clause-every : goal.returns-clause-every
returns-clause-every c = λ ts m d number own tables k.
    accepted_room _ (accepted_low _ (tree_below ts m d) (modules_shallow every number m own tables))
    (bodies_near max_nesting every (elaborate_body every) (elaborated_formed every)
    (λ s r xs. statements_near every s _ xs) number m own tables (omega arith) (procedures_below ts m d))
    (modules_formed every number m own tables k)

pub returns-clause-typed : goal.returns-clause-typed
returns-clause-typed c = λ p pages place m is typed small counts names levels near. typed_room p pages place m is typed
    small counts names levels near
