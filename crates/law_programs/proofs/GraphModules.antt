-- What is known of the modules of a graph, put together.
use Rattle.std.proofs.Common.{◌≡◌, ℕ, zero, suc, true, List, [], ◌∷◌, Some, Result, Ok, subst}
use Rattle.std.specs.Prelude.{◌+◌, ◌*◌, ◌≤◌, slice_get}
use Rattle.std.specs.List.{AllByRecursion, list_all}
use Rattle.m2_tree.specs.declared.decl.Module.{Module}
use Rattle.m2_graph.specs.Files.{number_files}
use Rattle.m2_graph.specs.Graph.{IsGraph, CompileEach}
use Rattle.typed_tree.specs.declared.table.Table.{Table}
use Rattle.typed_tree.specs.declared.typed_module.Routine.{Routine}
use Rattle.typed_tree.specs.declared.typed_module.TypedModule.{TypedModule}
use Rattle.check_scope.specs.Elaborated.{least}
use Rattle.law_modules.specs.Linked.{Program, bytes_in}
use Rattle.law_modules.specs.WellFormed.{IsWellFormed}
use Rattle.law_well_formed.specs.Formed.{Holds, fine, broken}
use Rattle.law_well_formed.specs.FormedKnown.{fits_module}
use Rattle.law_well_formed.specs.FormedFrames.{IsNested, AreNested}
use Rattle.law_well_formed.proofs.Rooms.{frames_have_room}
use Rattle.law_well_formed.proofs.FramesModules.{modules_nested}
use Rattle.law_well_formed.proofs.Whole.{types_whole}
use Rattle.build_jobs.specs.Own.{own_table, tables_behind}
use Rattle.build_jobs.specs.Compiling.{tables_of, typed_body}
use Rattle.build_jobs.specs.Jobs.{needed_of}
use Rattle.law_programs.proofs.ValidPrograms.{tables_for, programs_formed}
use Rattle.law_programs.specs.FormedCoherent.{trees_of, IsBodyIn, AreBodiesIn}
use Rattle.law_programs.proofs.Graphs.{graphs_coherent}
use Rattle.law_programs.proofs.TypedModules.{texts_bytes}
use Rattle.law_simulation.specs.Modules.{IsInside, AreModules}
use Rattle.law_programs.specs.FormedGraphs.{IsFit}
use Rattle.law_programs.specs.FormedTrees.{fits_contents}

held : {A T : Type 0} (P : A → Type 0) (r : Result A T) (x : A) → Holds P r → r ≡ Ok x → P x
held P _ x (fine y p) e = let same : y ≡ x = cc in subst P same p
held P _ x (broken y) e = absurd cc

inside_of : (m : TypedModule) (r : Routine) → IsNested m r → IsInside m r
inside_of m r n = record { which = n.which; routine = n.routine; around = n.around; there = n.there }

module _ (fs : List (List ℕ × Module)) (files : List ℕ) (jobs : List (List ℕ)) (starts : List ℕ)
    (graph : IsGraph (number_files 0 fs) files jobs starts) (each : CompileEach (number_files 0 fs) files)
    (fit : list_all fits_module (trees_of fs) ≡ true) where
  abbrev tables : ℕ → List Table
  tables job = tables_of (needed_of (trees_of fs) files jobs job)

  -- the module that stands there is well formed, its procedures stand as they have to, and it fits
  record IsThere (m : TypedModule) : Type 0 where
    well : IsWellFormed m
    nested : AreNested m
    fits : IsFit m

  one_there : (s : ℕ) (m : TypedModule) → IsBodyIn (trees_of fs) files jobs s m → IsFit m → IsThere m
  one_there s m b w =
      let ts : List Table = tables b.job in
      record {
        well = held IsWellFormed (typed_body b.tree b.job ts) m
            (programs_formed fs files jobs starts graph b.tree b.job) b.typed;
        nested = held AreNested (typed_body b.tree b.job ts) m
            (modules_nested least b.job b.tree (own_table b.tree ts) (tables_behind (own_table b.tree ts) ts)
            (tables_for fs files jobs starts graph b.tree b.job)) b.typed;
        fits = w;
      }

  all_there : (ss : List ℕ) (p : Program) → AreBodiesIn (trees_of fs) files jobs ss p → AllByRecursion IsFit p
      → (place : ℕ) (m : TypedModule) → slice_get p place ≡ Some m → IsThere m
  all_there [] [] b w place m e = absurd cc
  all_there [] (t ∷ ts) b w place m e = absurd b
  all_there (s ∷ ss) [] b w place m e = absurd b
  all_there (s ∷ ss) (t ∷ ts) b w zero m e = let same : t ≡ m = cc in subst IsThere same (one_there s t b.0 w.0)
  all_there (s ∷ ss) (t ∷ ts) b w (suc place) m e = all_there ss ts b.1 w.1 place m e

  module _ (whole : list_all (λ m. fits_contents m.contents) (trees_of fs) ≡ true) (p : Program)
      (b : AreBodiesIn (trees_of fs) files jobs starts p) (w : AllByRecursion IsFit p) (pages : ℕ)
      (room : bytes_in p + 4096 ≤ 65536 * pages) (most : pages ≤ 1024) where
    pub are_modules : AreModules p
    are_modules place m e =
        let there : IsThere m = all_there starts p b w place m e in
        let known = graphs_coherent fs files jobs starts graph each fit p b place m e in
        let frames = frames_have_room m there.fits.small in
        record {
          coherent = known.0;
          well = there.well;
          ranged = known.1.0;
          room = frames.procedures;
          room_locals = frames.locals;
          outermost = there.nested.outermost;
          inside = λ k d l. inside_of m _ (there.nested.inside k d l);
          texts = texts_bytes fs files jobs starts graph each fit whole p b pages room most place m e;
          whole = types_whole m.types known.1.1;
        }
