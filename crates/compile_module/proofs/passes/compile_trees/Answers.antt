use Rattle.std.proofs.Common.{◌≡◌, ℕ, List, length, map, ap, subst, ◌∙◌, arith}
use Rattle.std.specs.Borrow.{Bor}
use Rattle.std.specs.Global.{Vec}
use Rattle.std.proofs.lemmas.List.{length-map}
use Rattle.m2_tree.specs.declared.decl.Module.{Module}
use Rattle.m2_graph.specs.Files.{number_files}
use Rattle.m2_graph.specs.Graph.{CompileEach, IsGraph, IsRefusal}
use Rattle.build_jobs.specs.Borrowed.{borrow_trees}
use Rattle.compile_module.specs.Stands.{with_stands}
use Rattle.compile_module.proofs.Coming.{all_are}
use Rattle.compile_module.proofs.passes.compile_trees.Goals as goal

abbrev items_of : Vec ℕ → List ℕ
items_of v = v.items

abbrev pair : Bor (List ℕ) × Bor Module → List ℕ × Module
pair t = (t.0.now, t.1.now)

pub of_graph-requires-clause-graph : goal.of_graph-requires-clause-graph
of_graph-requires-clause-graph c =
    let g = c.in-Ok.graph in
    let is : borrow_trees c.deref-2.result.now ≡ with_stands (borrow_trees c.args.trees.now) =
    ap borrow_trees c.deref-2.ensures.value
    ∙ all_are c.args.trees.now (borrow_trees c.in_ok-all.all.items) c.in_ok-stands.stands.items c.deref.result.now
    c.deref.ensures.value c.in_ok-stands.ensures c.in_ok-all.ensures
    in
    subst (λ (ts : List (List ℕ × Module)). IsGraph (number_files 0 ts) g.files.items (map items_of g.jobs.items)
    g.starts.items) is c.in-Ok.ensures.graph

pub of_graph-requires-clause-each : goal.of_graph-requires-clause-each
of_graph-requires-clause-each c =
    let is : borrow_trees c.deref-2.result.now ≡ with_stands (borrow_trees c.args.trees.now) =
    ap borrow_trees c.deref-2.ensures.value
    ∙ all_are c.args.trees.now (borrow_trees c.in_ok-all.all.items) c.in_ok-stands.stands.items c.deref.result.now
    c.deref.ensures.value c.in_ok-stands.ensures c.in_ok-all.ensures
    in
    subst (λ (ts : List (List ℕ × Module)). CompileEach (number_files 0 ts) c.in-Ok.graph.files.items) is
    c.in-Ok.ensures.each

pub of_graph-requires-clause-count : goal.of_graph-requires-clause-count
of_graph-requires-clause-count c =
    let is : borrow_trees c.in_ok-all.all.items ≡ with_stands (borrow_trees c.args.trees.now) =
    all_are c.args.trees.now (borrow_trees c.in_ok-all.all.items) c.in_ok-stands.stands.items c.deref.result.now
    c.deref.ensures.value c.in_ok-stands.ensures c.in_ok-all.ensures
    in
    omega (
      arith,
      c.len.ensures,
      c.in_ok-all.all.ok.0,
      ap (λ (ts : List (List ℕ × Module)). length ts) is,
      length-map
          c.in_ok-all.all.items pair,
    )

pub returns : goal.returns
returns c =
    let is : borrow_trees c.deref-2.result.now ≡ with_stands (borrow_trees c.args.trees.now) =
    ap borrow_trees c.deref-2.ensures.value
    ∙ all_are c.args.trees.now (borrow_trees c.in_ok-all.all.items) c.in_ok-stands.stands.items c.deref.result.now
    c.deref.ensures.value c.in_ok-stands.ensures c.in_ok-all.ensures
    in
    c.of_error.ensures (borrow_trees c.args.trees.now)
    (subst (λ (ts : List (List ℕ × Module)). IsRefusal (number_files 0 ts) c.in-Err.error) is
    c.in-Err.ensures.refused)
