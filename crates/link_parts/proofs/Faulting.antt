-- Why modules are not linked.
use Rattle.std.proofs.Common.{◌≡◌, ℕ, List, subst, inr}
use Rattle.m2_tree.specs.declared.decl.Module.{Module}
use Rattle.link_parts.specs.declared.part.Part.{Part}
use Rattle.link_parts.specs.declared.fault.LinkFault.{LinkFault}
use Rattle.link_parts.specs.declared.fault.LinkFault.TheVariants as fault
use Rattle.link_parts.specs.Stands.{stands_for, trees_of}
use Rattle.link_parts.specs.Linked.{IsOfGraph, IsFault}

-- the fault of a graph of these modules is one of theirs
pub graph_fault : (parts : List Part) (pages : ℕ) (stands : List (Part × Module)) (e : LinkFault)
    → stands ≡ stands_for parts → IsOfGraph (trees_of stands) e → IsFault parts pages e
graph_fault parts pages stands fault.NoMemory all h = tt
graph_fault parts pages stands fault.NoProgram all h = absurd h
graph_fault parts pages stands (fault.Program n) all h = absurd h
graph_fault parts pages stands (fault.Interfaces m n name) all h = absurd h
graph_fault parts pages stands (fault.Imports n) all h =
    inr (subst (λ (ss : List (Part × Module)). IsOfGraph (trees_of ss) (fault.Imports n)) all h)
graph_fault parts pages stands (fault.Pages n) all h = absurd h
