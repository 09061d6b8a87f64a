-- The module link of modules that were compiled alone.
use Rattle.std.specs.Prelude.{◌≡◌, ◌⊎◌, ◌<◌, ◌≤◌, ◌+◌, ◌*◌, ℕ, min, List, [], ◌∷◌, Option, Some, None, slice_get}
use Rattle.std.specs.List.{flat_map}
use Rattle.std.specs.Global.{Vec}
use Rattle.m2_tree.specs.declared.refusal.Refusal.{Refusal}
use Rattle.m2_tree.specs.declared.decl.Module.{Module}
use Rattle.m2_graph.specs.Files.{number_files}
use Rattle.m2_graph.specs.declared.error.GraphError.TheVariants as graph_error
use Rattle.m2_graph.specs.Graph.{IsGraph, IsRefusal}
use Rattle.layout_storage.specs.Sizes.{page_size}
use Rattle.def_meaning.specs.Runs.{least_stack}
use Rattle.def_scheme.specs.Modules.{link_of, stack_begin}
use Rattle.def_scheme.specs.Modules.{Part as Sizes}
use Rattle.emit_buffer.specs.Cut.{cut_module}
use Rattle.m2_emit.specs.Emitted.{code_bytes}
use Rattle.link_parts.specs.declared.part.Part.{Part}
use Rattle.link_parts.specs.declared.fault.LinkFault.{LinkFault}
use Rattle.link_parts.specs.declared.fault.LinkFault.TheVariants as fault
use Rattle.link_parts.specs.Fitting.{names_of, Fit, HasFault, IsOfNames}
use Rattle.link_parts.specs.Stands.{stands_for, trees_of}

-- what link needs of a module, for which a tree of its name stands
abbrev pub sizes_of : Part × Module → Sizes
sizes_of s = record {
  name = s.1.name.name;
  variables = s.0.sizes.variables;
  texts = s.0.sizes.texts;
  slots = s.0.sizes.slots;
}

abbrev pub sizes_in : Option (Part × Module) → List Sizes
sizes_in None = []
sizes_in (Some s) = sizes_of s ∷ []

-- the same of the modules whose bodies start, in order
abbrev pub started : List Part → (starts : List ℕ) → List Sizes
started parts starts = flat_map (λ n. sizes_in (slice_get (stands_for parts) n)) starts

-- the bytes of their variables and texts and of the least stack, as far as 64 bits have room
abbrev pub bytes_for : List Sizes → ℕ
bytes_for ms = min (stack_begin ms + least_stack) 18446744073709551615

-- The modules fit together, and start in the order in which those of a program with their names and
-- imports do. Their data fits into the memory, and these are the bytes of link for this order.
pub record IsLinked (parts : List Part) (pages : ℕ) (bytes : List ℕ) : Type 0 where
  pub fit : Fit parts
  pub numbers : List ℕ
  pub needs : List (List ℕ)
  pub starts : List ℕ
  pub is_graph : IsGraph (number_files 0 (trees_of (stands_for parts))) numbers needs starts
  pub fits : stack_begin (started parts starts) + least_stack ≤ page_size * pages
  pub link : bytes ≡ code_bytes (cut_module (link_of (started parts starts) pages))

-- ---- why modules are not linked

-- the number of the first
abbrev pub first_number : List Refusal → ℕ
first_number [] = 0
first_number (r ∷ rs) = r.number

-- Imports break rules, and this is the number of the first, or memory ran out.
abbrev pub IsOfGraph : List (List ℕ × Module) → LinkFault → Type 0
IsOfGraph trees fault.NoMemory = Unit {0}
IsOfGraph trees (fault.Imports n) =
    (all : Vec Refusal) × IsRefusal (number_files 0 trees) (graph_error.Refused all)
    × (n ≡ first_number all.items)
IsOfGraph trees other = ⊥

-- The modules fit together, but not into the memory.
pub record IsTooLarge (parts : List Part) (pages : ℕ) : Type 0 where
  pub numbers : List ℕ
  pub needs : List (List ℕ)
  pub starts : List ℕ
  pub is_graph : IsGraph (number_files 0 (trees_of (stands_for parts))) numbers needs starts
  pub too_large : page_size * pages < stack_begin (started parts starts) + least_stack

-- It is so, as the fault says.
abbrev pub IsFault : List Part → (pages : ℕ) → LinkFault → Type 0
IsFault parts pages (fault.Imports n) =
    IsOfNames (flat_map names_of parts) (fault.Imports n)
    ⊎ IsOfGraph (trees_of (stands_for parts)) (fault.Imports n)
IsFault parts pages (fault.Pages n) = IsTooLarge parts pages × (pages < n)
IsFault parts pages other = HasFault parts other
