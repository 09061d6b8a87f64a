use Rattle.std.proofs.Common.{ℕ, List, length, map, sym, ap, ◌∙◌, arith}
use Rattle.std.specs.Global.{Vec}
use Rattle.std.proofs.lemmas.List.{length-map}
use Rattle.build_jobs.specs.Borrowed.{borrow_trees, modules_borrowed}
use Rattle.build_jobs.specs.Jobs.{all_compiled}
use Rattle.build_jobs.proofs.Rounds.{jobs_count, few_jobs}
use Rattle.compile_module.specs.Stands.{with_stands}
use Rattle.compile_module.proofs.passes.of_graph.Goals as goal

abbrev items_of : Vec ℕ → List ℕ
items_of v = v.items

pub compile_in_turn-requires-clause-each : goal.compile_in_turn-requires-clause-each
compile_in_turn-requires-clause-each c =
    let g = c.args.graph.now in
    ap (λ (xs : List ℕ). length xs) c.files.ensures
    ∙ jobs_count _ g.files.items (map items_of g.jobs.items) g.starts.items c.requires.graph
    ∙ length-map g.jobs.items items_of ∙ ap (λ (xs : List (Vec ℕ)). length xs) (sym c.jobs.ensures.jobs)

pub compile_in_turn-requires-clause-few : goal.compile_in_turn-requires-clause-few
compile_in_turn-requires-clause-few c =
    let g = c.args.graph.now in
    let few = few_jobs (with_stands (borrow_trees c.args.trees.now)) g.files.items (map items_of g.jobs.items)
    g.starts.items c.requires.graph c.requires.each in
    omega (arith, few, length-map g.jobs.items items_of, ap (λ (xs : List (Vec ℕ)). length xs) c.jobs.ensures.jobs)

pub of_results-requires-clause-results : goal.of_results-requires-clause-results
of_results-requires-clause-results c =
    let trees = modules_borrowed c.args.trees.now in
    c.deref.ensures.value ∙ c.in_ok-results.ensures
    ∙ ap (λ (fs : List ℕ). all_compiled trees fs (map items_of c.jobs.result.now)) c.files.ensures
    ∙ ap (λ (js : List (Vec ℕ)). all_compiled trees c.args.graph.now.files.items (map items_of js)) c.jobs.ensures.jobs
