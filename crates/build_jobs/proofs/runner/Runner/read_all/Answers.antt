use denote.Exit.{no}
use denote.Param.Send.{param_send, param_sync, arg_send, arg_sync}
use Rattle.build_jobs.proofs.Crossing.{Read-send, Read-sync}
use Rattle.std.proofs.Common.{List, ℕ, map, length, ◌∙◌, ap, ◌≡◌}
use Rattle.std.specs.Global.{Vec}
use Rattle.std.proofs.lemmas.Result.{IfOk-weaker}
use Rattle.build_jobs.specs.Reading.{AreRead}
use Rattle.build_jobs.proofs.Rounds.{pool_takes_free, all_read, read_count}
use Rattle.build_jobs.proofs.runner.Runner.read_all.Goals as goal

pub graph_of-requires : goal.graph_of-requires
graph_of-requires g c = pool_takes_free c.args.files.now (map (λ row. row.items) c.deref.result.now)
    (ap (λ (rows : List (Vec ℕ)). map (λ row. row.items) rows) c.deref.ensures.value ∙ c.in_ok-rows.ensures)

pub run-requires-send-W-Out : goal.run-requires-send-W-Out
run-requires-send-W-Out g c κs within = param_send _ _ (arg_send _ no _ Read-send)

pub run-requires-sync-W-Out : goal.run-requires-sync-W-Out
run-requires-sync-W-Out g c κs within = param_sync _ _ (arg_sync _ no _ Read-sync)

pub returns-clause-read : goal.returns-clause-read
returns-clause-read g c = IfOk-weaker c.run.result _ (λ reads. AreRead c.args.files.now reads.items)
    (λ reads h. all_read c.args.files.now reads.items h) c.run.ensures

pub returns-clause-count : goal.returns-clause-count
returns-clause-count g c = IfOk-weaker c.run.result _ (λ reads. length c.args.files.now ≡ length reads.items)
    (λ reads h. read_count c.args.files.now reads.items (all_read c.args.files.now reads.items h)) c.run.ensures
