-- The modules of accepted programs have encodings.
use Rattle.std.proofs.Common.{arith}
use Rattle.check_scope.specs.Elaborated.{least, every}
use Rattle.check_body.specs.Checks.{elaborate_body}
use Rattle.def_grammar.specs.Refusal.{max_nesting}
use Rattle.law_well_formed.proofs.Induction.{elaborated_formed}
use Rattle.law_encoding.specs.ProgramsRoom.{AcceptedProgramsFit}
use Rattle.law_encoding.proofs.DeclaredProcedures.{procedures_declared}
use Rattle.law_encoding.proofs.ModuleCounts.{module_few}
use Rattle.law_encoding.proofs.Bounds.{statements_small, statements_near, modules_shallow}
use Rattle.law_encoding.proofs.DeepTexts.{tree_below}
use Rattle.law_encoding.proofs.DeepFunctions.{accepted_low}
use Rattle.law_encoding.proofs.NestedProcedures.{tree_below as procedures_below}
use Rattle.law_encoding.proofs.ProcedureLevels.{bodies_near}
use Rattle.law_encoding.proofs.ProgramsRoom.{accepted_programs}

pub least_fit : AcceptedProgramsFit least
least_fit = λ p pages are typed accepted storage small.
    accepted_programs least (λ number m own tables once. module_few least (elaborate_body least)
    (elaborated_formed least) (λ s r xs. statements_small least s _ xs) number m own tables once)
    (λ number m own tables once. procedures_declared least (elaborate_body least) (elaborated_formed least) number m own
    tables once)
    (λ ts m d number own tables. accepted_low _ (tree_below ts m d) (modules_shallow least number m own tables))
    (λ ts m d number own tables. bodies_near max_nesting least (elaborate_body least) (elaborated_formed least)
    (λ s r xs. statements_near least s _ xs) number m own tables (omega arith) (procedures_below ts m d))
    p accepted pages are typed storage small

pub every_fit : AcceptedProgramsFit every
every_fit = λ p pages are typed accepted storage small.
    accepted_programs every (λ number m own tables once. module_few every (elaborate_body every)
    (elaborated_formed every) (λ s r xs. statements_small every s _ xs) number m own tables once)
    (λ number m own tables once. procedures_declared every (elaborate_body every) (elaborated_formed every) number m own
    tables once)
    (λ ts m d number own tables. accepted_low _ (tree_below ts m d) (modules_shallow every number m own tables))
    (λ ts m d number own tables. bodies_near max_nesting every (elaborate_body every) (elaborated_formed every)
    (λ s r xs. statements_near every s _ xs) number m own tables (omega arith) (procedures_below ts m d))
    p accepted pages are typed storage small
