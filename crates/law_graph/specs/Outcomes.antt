-- All files have a graph, or they are refused.
use Rattle.std.specs.Prelude.{◌≢◌, ◌⊎◌, ℕ, List, []}
use Rattle.m2_graph.specs.Files.{File, AreInOrder}
use Rattle.m2_graph.specs.Reported.{Reported, IsReported}
use Rattle.m2_graph.specs.Graph.{IsGraph, CompileEach}

-- The files have a graph, and its jobs compile each of them once.
pub record HaveGraph (given : List File) : Type 0 where
  pub numbers : List ℕ
  pub jobs : List (List ℕ)
  pub starts : List ℕ
  pub is_graph : IsGraph given numbers jobs starts
  pub each : CompileEach given numbers

-- Something is reported of the files in order.
pub record AreRefused (given : List File) : Type 0 where
  pub ordered : List File
  pub in_order : AreInOrder given ordered
  pub all : List Reported
  pub reported : IsReported ordered all
  pub some : all ≢ []

-- All files have a graph, or they are refused.
abbrev pub GraphOrRefusal : Type 0
GraphOrRefusal = (given : List File) → HaveGraph given ⊎ AreRefused given
