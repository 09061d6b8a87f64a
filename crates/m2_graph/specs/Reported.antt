-- What is reported of files in order.
use Rattle.std.specs.Prelude.{◌≡◌, ◌<◌, ℕ, ◌==◌, List, [], ◌∷◌, ◌++◌, Option, Some, None, length, slice_get, ◌⊎◌, ◌↔◌, Bool, IsTrue}
use Rattle.std.specs.List.{All}
use Rattle.std.specs.String.{string_bytes}
use Rattle.m2_rule.specs.declared.rule.Rule.TheVariants as rule
use Rattle.m2_tree.specs.declared.pos.Pos.{Pos}
use Rattle.m2_tree.specs.declared.name.Ident.{Ident}
use Rattle.m2_tree.specs.declared.decl.Module.{Module}
use Rattle.m2_tree.specs.declared.refusal.Refusal.{Refusal}
use Rattle.m2_rule.specs.declared.breach.Breach.{Breach}
use Rattle.graph_walk.specs.Links.{Leads, flag}
use Rattle.m2_graph.specs.Imports.{imports_of, definition_of, links}
use Rattle.m2_graph.specs.Refused.{first_place, breach_where, breaches_of, least_of}
use Rattle.m2_rule.specs.Breaches.{breach}
use Rattle.m2_graph.specs.Files.{File, trees}

-- ---- cycles

-- the definition that this import names is the node, or a chain of pairs leads from it to the node
abbrev pub LeadsBack : List Module → ℕ → Ident → Type 0
LeadsBack modules node x =
    (to : ℕ) × (definition_of modules x.name ≡ Some to)
    × ((to ≡ node) ⊎ Leads (links modules) to node)

-- marked are the modules from which a chain of pairs leads to the node
abbrev pub AreLeading : List Module → ℕ → List Bool → Type 0
AreLeading modules node flags = (k : ℕ) → IsTrue (flag flags k) ↔ Leads (links modules) k node

-- This is the place of the first of these imports that leads back to the node.
pub record IsBack (modules : List Module) (node : ℕ) (imports : List Ident) (pos : Pos)
    : Type 0 where
  pub before : List Ident
  pub back : Ident
  pub after : List Ident
  pub written : imports ≡ before ++ back ∷ after
  pub leads_back : LeadsBack modules node back
  pub none_before : All (λ x. ¬ LeadsBack modules node x) before
  pub place : pos ≡ back.pos

-- the place of the first import that leads back to the node, if one does
abbrev pub IsFirstBack : List Module → ℕ → List Ident → Option Pos → Type 0
IsFirstBack modules node imports None = All (λ x. ¬ LeadsBack modules node x) imports
IsFirstBack modules node imports (Some pos) = IsBack modules node imports pos

-- Of the definitions on cycles this is the first in order, and at this place it has the first
-- import that leads back to it.
pub record IsReportedCycle (modules : List Module) (node : ℕ) (pos : Pos) : Type 0 where
  pub on_cycle : Leads (links modules) node node
  pub first : (other : ℕ) → other < node → ¬ Leads (links modules) other other
  pub tree : Module
  pub is_tree : slice_get modules node ≡ Some tree
  pub back : IsBack modules node (imports_of tree) pos

-- what is reported of cycles: nothing if there are none, else a definition, and the place of one of
-- its imports
abbrev pub AreCycles : List Module → Option (ℕ × Pos) → Type 0
AreCycles modules None = (node : ℕ) → ¬ Leads (links modules) node node
AreCycles modules (Some cycle) = IsReportedCycle modules cycle.0 cycle.1

abbrev pub cycle_breaches : Option (ℕ × Pos) → ℕ → List Breach
cycle_breaches None number = []
cycle_breaches (Some cycle) number = breach_where (cycle.0 == number) cycle.1 rule.Cycle

-- ---- refusals

-- a refusal without where it lies in memory
pub record Reported : Type 0 where
  pub file : List ℕ
  pub pos : Pos
  pub number : ℕ

abbrev pub report_of : Refusal → Reported
report_of r = record { file = string_bytes r.file; pos = r.pos; number = r.number }

abbrev pub reported_of : (file : List ℕ) → Breach → Reported
reported_of file breach = record { file = file; pos = breach.pos; number = breach.number }

abbrev pub reported_at : (file : List ℕ) → Option Breach → List Reported
reported_at file None = []
reported_at file (Some breach) = reported_of file breach ∷ []

-- for each of these files, which stand behind those modules, the least that is refused in it
abbrev pub refused_from : List Module → Option (ℕ × Pos) → (before : List Module) → List File
    → List Reported
refused_from modules cycle before [] = []
refused_from modules cycle before (f ∷ fs) =
    reported_at f.name
    (least_of (breaches_of modules before f.given f.tree ++ cycle_breaches cycle (length before)))
    ++ refused_from modules cycle (before ++ f.tree ∷ []) fs

-- files in order, of which the first is the least; without any file there is no program module
abbrev pub refused_of : List File → Option (ℕ × Pos) → List Reported
refused_of [] cycle = reported_of [] (breach first_place rule.ProgramCount) ∷ []
refused_of (f ∷ fs) cycle = refused_from (trees (f ∷ fs)) cycle [] (f ∷ fs)

-- this is reported of files in order
abbrev pub IsReported : List File → List Reported → Type 0
IsReported ordered all =
    (cycle : Option (ℕ × Pos)) × AreCycles (trees ordered) cycle × (all ≡ refused_of ordered cycle)
