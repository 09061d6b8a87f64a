use Rattle.std.proofs.Common.{List, ℕ, length, map, sym, ap, ◌∙◌, arith}
use Rattle.std.specs.Global.{Vec}
use Rattle.std.proofs.lemmas.List.{length-map}
use Rattle.build_jobs.specs.Borrowed.{borrow_trees}
use Rattle.build_jobs.proofs.Rounds.{jobs_count, few_jobs}
use Rattle.build_jobs.proofs.runner.modules_of.Goals as goal

abbrev items_of : Vec ℕ → List ℕ
items_of v = v.items

pub invariant_of-result : goal.invariant_of-result
invariant_of-result c =
    let g = c.args.graph.now in
    let count = jobs_count _ g.files.items (map items_of g.jobs.items) g.starts.items c.requires.graph in
    let few = few_jobs (borrow_trees c.args.trees.now) g.files.items (map items_of g.jobs.items) g.starts.items
    c.requires.graph c.requires.each in
    record {
      each = ap (λ (xs : List ℕ). length xs) c.files.ensures ∙ count ∙ length-map g.jobs.items items_of
          ∙ ap (λ (xs : List (Vec ℕ)). length xs) (sym c.jobs.ensures.jobs);
      few =
          omega (
            arith,
            few,
            length-map g.jobs.items items_of,
            ap (λ (xs : List (Vec ℕ)). length xs)
                c.jobs.ensures.jobs,
          );
    }
