use Rattle.std.proofs.Common.{◌≡◌, ◌<◌, ℕ, true, List, [], length, map, vec_len, inr, sym, ap, subst, ◌∙◌, arith}
use Rattle.std.specs.Prelude.{All}
use Rattle.std.specs.Global.{Vec}
use Rattle.std.proofs.lemmas.Bool.{eq-eqb, eqb-true}
use Rattle.m2_tree.specs.declared.refusal.Refusal.{Refusal}
use Rattle.m2_graph.specs.Jobs.{ArePlaces}
use Rattle.build_jobs.specs.Borrowed.{borrow_trees}
use Rattle.build_results.specs.Reported.{report_of}
use Rattle.build_results.specs.Results.{refused_by}
use Rattle.build_results.proofs.EachOnce.{all_within}
use Rattle.build_results.proofs.Placed.{refusals_are, result_is}
use Rattle.build_results.proofs.Two.{none_reported}
use Rattle.compile_module.specs.Stands.{with_stands}
use Rattle.compile_module.proofs.Coming.{no_items}
use Rattle.compile_module.proofs.passes.of_results.Goals as goal

abbrev items_of : Vec ℕ → List ℕ
items_of v = v.items

pub places_of-requires : goal.places_of-requires
places_of-requires c =
    let all = all_within (with_stands (borrow_trees c.args.trees.now)) c.args.graph.now.files.items c.requires.each in
    subst (λ (ns : List ℕ). All (λ k. k < c.args.count) ns) (sym c.files.ensures)
    (subst (λ (n : ℕ). All (λ k. k < n) c.args.graph.now.files.items) c.requires.count all)

pub returns-then-not-is_empty : goal.returns-then-not-is_empty
returns-then-not-is_empty c =
    let g = c.args.graph.now in
    let rs = c.in_ok-refusals.refusals in
    let all : map report_of rs.items ≡ refused_by (borrow_trees c.args.trees.now) g.files.items
    (map items_of g.jobs.items) =
    refusals_are c.args.trees.now g.files.items (map items_of g.jobs.items) c.in_ok-places.places.items _
    c.args.results.now (subst (λ (fs : List ℕ). ArePlaces fs c.in_ok-places.places.items) c.files.ensures
    c.in_ok-places.ensures) c.deref.ensures.value c.requires.results _ c.in_ok-refusals.ensures
    in
    inr (record {
      numbers = g.files.items;
      needs = map items_of g.jobs.items;
      have = record { starts = g.starts.items; is_graph = c.requires.graph };
      some = λ e. let none : rs.items ≡ [] = none_reported rs.items (all ∙ e) in
          let zero : vec_len rs ≡ 0 = omega (arith, rs.ok.0, ap (λ (xs : List Refusal). length xs) none) in
          let empty : c.is_empty.result ≡ true = c.is_empty.ensures ∙ eq-eqb (vec_len rs) 0 zero in
          absurd (let other = c.if-not-is_empty.true in cc);
      reported = (rs.items, all, c.in_ok-in_order.ensures);
    })

pub of_first-requires : goal.of_first-requires
of_first-requires c =
    let g = c.args.graph.now in
    let rs = c.in_ok-refusals.refusals in
    let all : map report_of rs.items ≡ refused_by (borrow_trees c.args.trees.now) g.files.items
    (map items_of g.jobs.items) =
    refusals_are c.args.trees.now g.files.items (map items_of g.jobs.items) c.in_ok-places.places.items _
    c.args.results.now (subst (λ (fs : List ℕ). ArePlaces fs c.in_ok-places.places.items) c.files.ensures
    c.in_ok-places.ensures) c.deref.ensures.value c.requires.results _ c.in_ok-refusals.ensures
    in
    let empty : rs.items ≡ [] = no_items rs.items
    (let zero : vec_len rs ≡ 0 = eqb-true (vec_len rs) 0 (sym c.is_empty.ensures ∙ c.if-not-is_empty.false) in
    omega (arith, rs.ok.0, zero)) in
    record {
      numbers = g.files.items;
      needs = map items_of g.jobs.items;
      have = record { starts = g.starts.items; is_graph = c.requires.graph };
      none = sym all ∙ ap (map report_of) empty;
      is = result_is c.args.trees.now g.files.items (map items_of g.jobs.items) c.in_ok-places.places.items _
          c.args.results.now (subst (λ (fs : List ℕ). ArePlaces fs c.in_ok-places.places.items) c.files.ensures
          c.in_ok-places.ensures) c.deref-2.ensures.value c.requires.results _ 0 c.result_of.ensures;
    }
