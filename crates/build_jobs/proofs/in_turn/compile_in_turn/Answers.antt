use Rattle.std.proofs.Common.{◌≡◌, ℕ, List, length, map, refl, ap, ◌∙◌, arith}
use Rattle.std.specs.Global.{Vec}
use Rattle.build_jobs.specs.declared.outcome.Compiled.{Compiled}
use Rattle.build_jobs.specs.Borrowed.{modules_borrowed}
use Rattle.build_jobs.specs.Jobs.{compile_at}
use Rattle.build_jobs.proofs.InTurn.{below_length, row_at, next_job}
use Rattle.build_jobs.proofs.in_turn.compile_in_turn.Goals as goal

abbrev rows : List (Vec ℕ) → List (List ℕ)
rows js = map (λ job. job.items) js

pub add_compiled-requires : goal.add_compiled-requires
add_compiled-requires c =
    let so : length c.loop-job.results.items ≡ c.loop-job.job =
    ap (λ (xs : List Compiled). length xs) c.loop-job.invariant
    ∙ below_length (rows c.args.jobs.now) (compile_at (modules_borrowed c.args.trees.now) c.args.files.now)
    c.loop-job.job
    in
    omega (arith, so, c.loop-job-test.true, c.requires.few)

pub loop-job-preserved : goal.loop-job-preserved
loop-job-preserved c =
    next_job (rows c.args.jobs.now) (modules_borrowed c.args.trees.now) c.args.files.now c.loop-job.job
    c.loop-job.results.items c.add_compiled.new.results.items _ c.deref.result.now c.loop-job.invariant refl
    (c.deref.ensures.value ∙ row_at c.args.jobs.now c.loop-job.job c.index-jobs-job.result c.loop-job-test.true
    c.index-jobs-job.is) c.in_ok-add_compiled.ensures
