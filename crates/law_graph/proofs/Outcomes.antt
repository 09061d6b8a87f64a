-- All files have a graph, or they are refused.
use Rattle.std.proofs.Common.{◌≡◌, ℕ, false, List, [], ◌∷◌, ◌++◌, map, refl, inl, inr, arith, Option, ◌⊎◌}
use Rattle.std.specs.List.{AllZip}
use Rattle.std.proofs.lemmas.List.{length-map}
use Rattle.m2_tree.specs.declared.decl.Module.{Module}
use Rattle.m2_tree.specs.declared.pos.Pos.{Pos}
use Rattle.graph_walk.specs.Links.{unless, targets}
use Rattle.m2_graph.specs.Files.{File, AreInOrder, trees, given_of}
use Rattle.m2_graph.specs.Imports.{is_definition, links_of, links, walks}
use Rattle.m2_graph.specs.Jobs.{numbers_of}
use Rattle.m2_graph.specs.Order.{needs, body_numbers, IsJobOrder, IsJob}
use Rattle.m2_graph.specs.Reported.{Reported, AreCycles, refused_of, IsReported}
use Rattle.m2_graph.specs.Graph.{bodies_of, IsJobs, IsStarts}
use Rattle.m2_graph.proofs.Importing.{links_are_nodes}
use Rattle.m2_graph.proofs.Whole.{compiles_each, compiles_given}
use Rattle.law_graph.specs.Outcomes.{HaveGraph, AreRefused, GraphOrRefusal}
use Rattle.law_graph.proofs.Fine.{program_of}
use Rattle.law_graph.proofs.Inserting.{order_files}
use Rattle.law_graph.proofs.Entering.{start_order}
use Rattle.law_graph.proofs.Returning.{cycles}
use Rattle.law_graph.proofs.Numbering.{number_all}
use Rattle.law_graph.proofs.Turned.{cycle_order}

-- ---- jobs

job_order : (modules : List Module) → (order : List ℕ) × IsJobOrder (links modules) modules order
job_order modules =
    let m = length-map modules is_definition in
    let n = length-map modules (links_of modules) in
    let o = number_all (links modules) (map is_definition modules) (omega (arith, m, n)) in
    (o.0 ++ body_numbers 0 modules, (o.0, o.1, refl))

-- what a module's job needs
abbrev job : List Module → List ℕ → ℕ → List ℕ
job modules order node = unless (λ k. false) (numbers_of order (targets (needs modules) node))

are_jobs : (modules : List Module) (order nodes : List ℕ)
    → AllZip (IsJob modules order) nodes (map (job modules order) nodes)
are_jobs modules order [] = tt
are_jobs modules order (n ∷ ns) = (refl, are_jobs modules order ns)

module _ (ordered : List File) where
  all_jobs : (files : List ℕ) × (jobs : List (List ℕ)) × IsJobs ordered files jobs
  all_jobs =
      let o = job_order (trees ordered) in (
        map (given_of ordered) o.0,
        map (job (trees ordered) o.0) o.0,
        record { order = o.0; is_order = o.1; compiled = refl; needs = are_jobs (trees ordered) o.0 o.0 },
      )

  all_starts : IsReported ordered [] → (starts : List ℕ) × IsStarts ordered starts
  all_starts fine =
      let p = program_of ordered fine in
      let w = start_order (walks (trees ordered)) p.0 in (
        map (given_of ordered) (bodies_of (trees ordered) w.0),
        record { program = p.0; is_program = p.1; walk = w.0; is_walk = w.1; started = refl },
      )

  graph : (given : List File) → AreInOrder given ordered → IsReported ordered [] → HaveGraph given
  graph given o fine =
      let j = all_jobs in
      let s = all_starts fine in
      record {
        numbers = j.0;
        jobs = j.1;
        starts = s.0;
        is_graph = (ordered, o, record { fine = fine; is_jobs = j.2; is_starts = s.1 });
        each = compiles_given given ordered ordered j.0 o refl
            (compiles_each ordered j.0 j.1 fine (cycle_order (links (trees ordered)) (links_are_nodes (trees ordered)))
            j.2);
      }

-- ---- the whole

pub graph_or_refused : GraphOrRefusal
graph_or_refused given =
    let o = order_files given in
    let c = cycles (trees o.0) in
    by o.0 o.1 c.0 c.1 (refused_of o.0 c.0) refl
  where
    by : (ordered : List File) → AreInOrder given ordered → (cycle : Option (ℕ × Pos)) → AreCycles (trees ordered) cycle
        → (all : List Reported) → all ≡ refused_of ordered cycle → HaveGraph given ⊎ AreRefused given
    by ordered o cycle are [] e = inl (graph ordered given o (cycle, are, e))
    by ordered o cycle are (r ∷ rs) e = inr
        (record {
          ordered = ordered;
          in_order = o;
          all = r ∷ rs;
          reported = (cycle, are, e);
          some =
              λ none. let n : r ∷ rs ≡ [] = none in absurd cc;
        })
