use Rattle.std.proofs.Common.{◌≡◌, ◌<◌, ℕ, List, length, map, sym, ap, subst, ◌∙◌, arith}
use Rattle.std.specs.Prelude.{All}
use Rattle.std.specs.Borrow.{Bor}
use Rattle.std.proofs.lemmas.List.{length-map}
use Rattle.m2_tree.specs.declared.decl.Module.{Module}
use Rattle.build_jobs.specs.Borrowed.{borrow_trees}
use Rattle.build_results.proofs.EachOnce.{all_within}
use Rattle.m2c.proofs.outcome.places_in.Goals as goal

abbrev pair : Bor (List ℕ) × Bor Module → List ℕ × Module
pair t = (t.0.now, t.1.now)

pub places_of-requires : goal.places_of-requires
places_of-requires c =
    let all = all_within (borrow_trees c.args.trees.now) c.args.graph.now.files.items c.requires in
    let count : length (borrow_trees c.args.trees.now) ≡ length c.args.trees.now = length-map c.args.trees.now pair in
    subst (λ (ns : List ℕ). All (λ k. k < length c.args.trees.now) ns) (sym c.files.ensures)
    (subst (λ (n : ℕ). All (λ k. k < n) c.args.graph.now.files.items) count all)
