use Rattle.std.proofs.Common.{◌≡◌, ℕ, true, List, [], ◌∷◌, length, map, vec_len, inl, inr, refl, sym, ap, ◌∙◌, arith}
use Rattle.std.specs.Global.{Vec}
use Rattle.std.proofs.lemmas.Bool.{eq-eqb, eqb-true}
use Rattle.m2_tree.specs.declared.refusal.Refusal.{Refusal}
use Rattle.std.specs.Borrow.{Bor}
use Rattle.m2_emit.specs.declared.emitted.ModuleBytes.{ModuleBytes}
use Rattle.build_jobs.specs.Borrowed.{borrow_trees}
use Rattle.build_results.specs.Reported.{report_of}
use Rattle.build_results.specs.Results.{refused_by}
use Rattle.m2c.proofs.Ruled.{all_ruled}
use Rattle.build_results.proofs.Two.{none_reported}
use Rattle.build_results.proofs.Placed.{refusals_are, started_are}
use Rattle.m2c.proofs.outcome.of_results.Goals as goal

abbrev items_of : Vec ℕ → List ℕ
items_of v = v.items

no_items : (rs : List Refusal) → length rs ≡ 0 → rs ≡ []
no_items [] e = refl
no_items (r ∷ rs) e = absurd (omega (arith, e))

pub returns-then-not-is_empty : goal.returns-then-not-is_empty
returns-then-not-is_empty c =
    let g = c.args.graph.now in
    let rs = c.in_ok-refusals.refusals in
    let all : map report_of rs.items ≡ refused_by (borrow_trees c.args.trees.now) g.files.items
    (map items_of g.jobs.items) =
    refusals_are c.args.trees.now g.files.items (map items_of g.jobs.items) c.in_ok-places.places.items _
    c.args.results.now c.in_ok-places.ensures c.deref.ensures.value c.requires.results _ c.in_ok-refusals.ensures
    in
    inr (inr (inl (record {
      trees = borrow_trees c.args.trees.now;
      numbers = g.files.items;
      all_jobs = map items_of g.jobs.items;
      starts = g.starts.items;
      graph = c.requires.graph;
      ruled = all_ruled (borrow_trees c.args.trees.now) g.files.items (map items_of g.jobs.items) g.starts.items
          c.requires.graph.is_graph;
      some = λ e. let none : rs.items ≡ [] = none_reported rs.items (all ∙ e) in
          let zero : vec_len rs ≡ 0 = omega (arith, rs.ok.0, ap (λ (xs : List Refusal). length xs) none) in
          let empty : c.is_empty.result ≡ true = c.is_empty.ensures ∙ eq-eqb (vec_len rs) 0 zero in
          absurd (let other = c.if-not-is_empty.true in cc);
      reported = (rs.items, all, c.in_ok-in_order.ensures);
    })))

pub program-requires-clause-none : goal.program-requires-clause-none
program-requires-clause-none c =
    let g = c.args.graph.now in
    let rs = c.in_ok-refusals.refusals in
    let all : map report_of rs.items ≡ refused_by (borrow_trees c.args.trees.now) g.files.items
    (map items_of g.jobs.items) =
    refusals_are c.args.trees.now g.files.items (map items_of g.jobs.items) c.in_ok-places.places.items _
    c.args.results.now c.in_ok-places.ensures c.deref.ensures.value c.requires.results _ c.in_ok-refusals.ensures
    in
    let empty : rs.items ≡ [] = no_items rs.items
    (let zero : vec_len rs ≡ 0 = eqb-true (vec_len rs) 0 (sym c.is_empty.ensures ∙ c.if-not-is_empty.false) in
    omega (arith, rs.ok.0, zero)) in
    sym all ∙ ap (map report_of) empty

pub program-requires-clause-modules : goal.program-requires-clause-modules
program-requires-clause-modules c =
    let g = c.args.graph.now in
    ap (λ (bs : List (Bor ModuleBytes)). map (λ m. m.now) bs) c.deref-3.ensures.value
    ∙ started_are c.args.trees.now g.files.items (map items_of g.jobs.items) c.in_ok-places.places.items _
    c.args.results.now c.in_ok-places.ensures c.deref-2.ensures.value c.requires.results _ _ g.starts.items
    c.in_ok-modules.ensures c.start_order.ensures
