-- Which modules fit together.
use Rattle.std.specs.Prelude.{◌≡◌, ◌≢◌, ◌<◌, ◌+◌, ◌==◌, ℕ, true, false, Some, slice_get}
use Rattle.std.specs.Prelude.{List, [], ◌∷◌, ◌++◌, length, map}
use Rattle.std.specs.List.{Contains}
use Rattle.std.specs.String.{string_bytes}
use Rattle.m2_tree.specs.Limits.{max_name}
use Rattle.link_parts.specs.declared.part.Part.{Part}
use Rattle.link_parts.specs.declared.part.Interface.{Interface}
use Rattle.link_parts.specs.declared.fault.LinkFault.{LinkFault}
use Rattle.link_parts.specs.declared.fault.LinkFault.TheVariants as fault

-- ---- definitions

-- a definition that a module was compiled with: the number of the module, and the name and the
-- checksum of the definition
pub record Use : Type 0 where
  pub by : ℕ
  pub name : List ℕ
  pub sum : List ℕ

abbrev pub use_of : ℕ → Interface → Use
use_of n i = record { by = n; name = string_bytes i.name; sum = string_bytes i.sum }

abbrev pub uses_of : ℕ → Part → List Use
uses_of n p = map (use_of n) p.interfaces.items

-- the same of modules that are numbered from n on
abbrev pub uses_from : ℕ → List Part → List Use
uses_from n [] = []
uses_from n (p ∷ ps) = uses_of n p ++ uses_from (n + 1) ps

-- Modules were compiled with one definition of each module.
abbrev pub Agree : List Use → Type 0
Agree us = (u v : Use) → Contains us u → Contains us v → u.name ≡ v.name → u.sum ≡ v.sum

-- Two modules were compiled with different definitions of the module of this name.
pub record Differ (us : List Use) (m n : ℕ) (name : List ℕ) : Type 0 where
  pub first : Use
  pub second : Use
  pub first_there : Contains us first
  pub second_there : Contains us second
  pub by_first : first.by ≡ m
  pub by_second : second.by ≡ n
  pub of_first : first.name ≡ name
  pub of_second : second.name ≡ name
  pub other_sums : first.sum ≢ second.sum

-- ---- modules

-- The first module is a program, and no other is.
pub record AreOneProgram (parts : List Part) : Type 0 where
  pub some : 0 < length parts
  pub first : (n : ℕ) (p : Part) → slice_get parts n ≡ Some p → p.is_program ≡ (n == 0)

abbrev pub Fit : List Part → Type 0
Fit parts = AreOneProgram parts × Agree (uses_from 0 parts)

-- It is so, as the fault says.
abbrev pub HasFault : List Part → LinkFault → Type 0
HasFault parts fault.NoMemory = Unit {0}
HasFault parts fault.NoProgram = (p : Part) → slice_get parts 0 ≡ Some p → p.is_program ≡ false
HasFault parts (fault.Program n) =
    (p : Part) × (slice_get parts n ≡ Some p) × (p.is_program ≡ true) × (0 < n)
HasFault parts (fault.Interfaces m n name) = Differ (uses_from 0 parts) m n (string_bytes name)
HasFault parts other = ⊥

-- the name of a module, and those of the modules that it imports
abbrev pub names_of : Part → List (List ℕ)
names_of p = string_bytes p.name ∷ map string_bytes p.imports.items

-- the number of the rule that names have at most 64 letters and digits
abbrev pub long_name : ℕ
long_name = 7

-- One of these names is too long, and this is the number of that rule, or memory ran out.
abbrev pub IsOfNames : List (List ℕ) → LinkFault → Type 0
IsOfNames names fault.NoMemory = Unit {0}
IsOfNames names (fault.Imports n) =
    (n ≡ long_name) × ((name : List ℕ) × Contains names name × (max_name < length name))
IsOfNames names other = ⊥
