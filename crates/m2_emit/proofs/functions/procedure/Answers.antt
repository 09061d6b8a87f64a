use Rattle.std.proofs.Common.{◌∙◌}
use Rattle.std.proofs.lemmas.Option.{slice_get_within}
use Rattle.m2_emit.proofs.functions.procedure.Goals as goal

pub routine_function-requires-clause-texts : goal.routine_function-requires-clause-texts
routine_function-requires-clause-texts c =
    c.offset_of.ensures ∙ c.requires.texts.procedures c.args.number
    (slice_get_within c.args.home.now.procedures c.args.number c.args.routine.now c.requires.found)
