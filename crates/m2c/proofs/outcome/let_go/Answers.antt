use denote.Exit.{no}
use denote.Param.Send.{param_send, arg_send}
use Rattle.build_jobs.proofs.Crossing.{Read-send}
use Rattle.m2c.proofs.outcome.let_go.Goals as goal

pub for_each_mut-requires-send-T : goal.for_each_mut-requires-send-T
for_each_mut-requires-send-T g c κs within = param_send _ _ (arg_send _ no _ Read-send)
