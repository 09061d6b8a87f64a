-- What stands around a part of a program while it runs.
use Rattle.std.specs.Prelude.{ℕ, zero, suc, ◌+◌, ◌==◌, ℤ, pos, negsuc, List, [], ◌∷◌, ◌++◌, length, Option, Some, None, slice_get}
use Rattle.std.specs.List.{position}
use Rattle.std.specs.Option.{unwrap_or}
use Rattle.typed_tree.specs.declared.computed.Slot.{Slot}
use Rattle.typed_tree.specs.declared.known_types.Types.{Types}
use Rattle.typed_tree.specs.declared.typed_module.Routine.{Routine}
use Rattle.typed_tree.specs.declared.typed_module.TypedModule.{TypedModule}
use Rattle.def_meaning.specs.Store.{Location}

-- ---- programs

-- the modules that are reached, in start order
abbrev pub Modules : Type 0
Modules = List TypedModule

-- the place of the module with this number
abbrev pub module_place : Modules → ℕ → ℕ
module_place p home = unwrap_or (position (λ m. m.types.home == home) p) 0

-- ---- procedures as values: 0 is the empty procedure, and the bodies and procedures of all modules
-- are numbered from 1

pub data Entry : Type 0 where
  Body : Entry
  Procedure : (place number : ℕ) → Entry

abbrev pub numbered_from : (place number : ℕ) → List Routine → List Entry
numbered_from place number [] = []
numbered_from place number (r ∷ rs) = Procedure place number ∷ numbered_from place (suc number) rs

abbrev pub entries_from : (place : ℕ) → Modules → List Entry
entries_from place [] = []
entries_from place (m ∷ ms) =
    (Body ∷ numbered_from place 0 m.procedures) ++ entries_from (suc place) ms

abbrev pub entries : Modules → List Entry
entries p = entries_from 0 p

-- how many entries stand before a module's
abbrev pub entries_before : ℕ → Modules → ℕ
entries_before zero p = 0
entries_before (suc place) [] = 0
entries_before (suc place) (m ∷ ms) = suc (length m.procedures) + entries_before place ms

abbrev pub procedure_value : Modules → (home number : ℕ) → ℤ
procedure_value p home number = pos (suc (suc (entries_before (module_place p home) p + number)))

abbrev pub entry_of : Modules → ℤ → Option Entry
entry_of p (pos zero) = None
entry_of p (pos (suc k)) = slice_get (entries p) k
entry_of p (negsuc k) = None

-- ---- names of procedures

-- what a formal or a variable of a procedure stands for: a location, or the elements of an open
-- array with its HIGH
pub data Named : Type 0 where
  At : (l : Location) → Named
  Elements : (l : Location) (high : ℕ) → Named

-- the names of an activation, and of the activations around it
abbrev pub Frames : Type 0
Frames = List (List Named)

pub record Environment : Type 0 where
  pub place : ℕ  -- the module's, in start order
  pub types : Types
  pub frames : Frames  -- its own first, then outwards
  pub withs : List Location  -- the records of the WITHs, the outermost first
  pub next : ℕ  -- the number of the next instance
  pub free : ℕ  -- the bytes of storage that are free

abbrev pub or_empty : Option (List Named) → List Named
or_empty None = []
or_empty (Some ns) = ns

abbrev pub slot_named : Environment → Slot → Option Named
slot_named a slot = slice_get (or_empty (slice_get a.frames slot.up)) slot.number

abbrev pub location_of : Option Named → Location
location_of None = []
location_of (Some (At l)) = l
location_of (Some (Elements l high)) = l

abbrev pub high_of : Option Named → ℕ
high_of None = 0
high_of (Some (At l)) = 0
high_of (Some (Elements l high)) = high

abbrev pub or_root : Option Location → Location
or_root None = []
or_root (Some l) = l

-- ---- what is called

-- a procedure of the module at a place, and the activations around its own
pub record Callee : Type 0 where
  pub place : ℕ
  pub types : Types
  pub routine : Routine
  pub frames : Frames

abbrev pub callee_with : (place : ℕ) → Types → Frames → Option Routine → Option Callee
callee_with place types frames None = None
callee_with place types frames (Some r) =
    Some (record { place = place; types = types; routine = r; frames = frames })

-- a procedure of a module
abbrev pub procedure_in : (place : ℕ) → Option TypedModule → (number : ℕ) → Option Callee
procedure_in place None number = None
procedure_in place (Some m) number = callee_with place m.types [] (slice_get m.procedures number)

-- a procedure of a procedure
abbrev pub nested_in : (place : ℕ) → Option TypedModule → Frames → (number : ℕ) → Option Callee
nested_in place None frames number = None
nested_in place (Some m) frames number =
    callee_with place m.types frames (slice_get m.locals number)

abbrev pub module_callee : Modules → (place number : ℕ) → Option Callee
module_callee p place number = procedure_in place (slice_get p place) number

abbrev pub entry_callee : Modules → Option Entry → Option Callee
entry_callee p None = None
entry_callee p (Some Body) = None
entry_callee p (Some (Procedure place number)) = module_callee p place number

-- an argument that was evaluated
pub data Passed : Type 0 where
  Number : (v : ℤ) → Passed
  Variable : (l : Location) → Passed
  Array : (l : Location) (high : ℕ) → Passed
  Text : (text : List ℕ) → Passed
