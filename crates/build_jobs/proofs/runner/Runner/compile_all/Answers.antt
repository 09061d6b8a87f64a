use denote.Param.Send.{sendable}
use Rattle.build_jobs.proofs.CrossingModules.{crosses}
use Rattle.std.proofs.Common.{◌≡◌, List, ℕ, map, subst}
use Rattle.std.specs.Borrow.{Bor}
use Rattle.std.specs.Global.{Vec}
use Rattle.std.proofs.lemmas.Result.{IfOk-weaker}
use Rattle.m2_tree.specs.declared.decl.Module.{Module}
use Rattle.pool_board.specs.Results.{AreResults}
use Rattle.build_jobs.specs.Jobs.{all_compiled, Defines}
use Rattle.build_jobs.specs.Borrowed.{modules_borrowed}
use Rattle.build_jobs.proofs.Rounds.{each_compiled}
use Rattle.build_jobs.proofs.runner.Runner.compile_all.Goals as goal

pub run-requires-send-W : goal.run-requires-send-W
run-requires-send-W g c κs within = search (crosses, sendable) depth 20

pub run-requires-sync-W : goal.run-requires-sync-W
run-requires-sync-W g c κs within = search (crosses, sendable) depth 20

abbrev rows : List (Vec ℕ) → List (List ℕ)
rows js = map (λ job. job.items) js

pub returns : goal.returns
returns g c =
    let modules = c.modules_of.result in
    let graph = c.args.graph.now in
    let trees : List Module = modules_borrowed c.args.trees.now in
    IfOk-weaker c.run.result _ (λ all. all.items ≡ all_compiled trees graph.files.items (rows graph.jobs.items))
    (λ all h.
    each_compiled trees graph.files.items (rows graph.jobs.items) all.items c.in_ok-jobs.ensures.sound
    (subst (λ (ts : List (Bor (List ℕ) × Bor Module)). AreResults (rows graph.jobs.items)
    (Defines (modules_borrowed ts) graph.files.items) all.items) c.modules_of.ensures.trees
    (subst (λ (fs : List ℕ). AreResults (rows graph.jobs.items) (Defines (modules_borrowed modules.trees.now) fs)
    all.items) c.modules_of.ensures.files
    (subst (λ (js : List (Vec ℕ)). AreResults (rows js) (Defines (modules_borrowed modules.trees.now) modules.files.now)
    all.items) c.modules_of.ensures.jobs h)))) c.run.ensures
