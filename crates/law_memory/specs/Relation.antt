-- How a memory holds a store: the instances that live stand one after the other from address 0 on.
use Rattle.std.specs.Prelude.{◌≡◌, ℕ, suc, ◌+◌, ◌<◌, ◌≤◌, ℤ, pos, List, length, get_or, Option, Some, None, slice_get}
use Rattle.law_effect.specs.Bytes.{byte}
use Rattle.typed_tree.specs.declared.known_types.Types.{Types}
use Rattle.typed_tree.specs.declared.shape.Made.{Made}
use Rattle.typed_tree.specs.declared.shape.Shape.{Shape}
use Rattle.typed_tree.specs.declared.shape.Shape.TheVariants as shape
use Rattle.typed_tree.specs.declared.typed_module.Routine.{Routine}
use Rattle.typed_tree.specs.declared.typed_module.TypedModule.{TypedModule}
use Rattle.typed_tree.specs.declared.types.TypeNo.{TypeNo}
use Rattle.typed_tree.specs.Known.{made_at}
use Rattle.layout_storage.specs.Types.{Ty, Scalar, Natural, Integer, Between, Callable, Cell, Hidden, Heading, row, component, IsOf}
use Rattle.layout_storage.specs.Shapes.{heading_tree, known_trees}
use Rattle.def_meaning.specs.Environment.{Modules, entries_before}
use Rattle.def_meaning.specs.Store.{Location, Store}
use Rattle.layout_storage.specs.Sizes.{width, value_of, size, offset}
use Rattle.law_memory.specs.Cells.{number}

-- ---- procedures as values

-- the heading of a procedure type
abbrev pub heading_in : Types → Shape → Option Heading
heading_in types (shape.Procedure h) = Some (heading_tree (known_trees types) h.formals h.result)
heading_in types (shape.Scalar s) = None
heading_in types shape.Set = None
heading_in types (shape.Array i e) = None
heading_in types (shape.Record fs) = None
heading_in types (shape.Open e) = None

abbrev pub heading_made : Types → Option Made → Option Heading
heading_made types None = None
heading_made types (Some m) = heading_in types m.shape

abbrev pub heading_at : Types → TypeNo → Option Heading
heading_at types t = heading_made types (made_at types t)

-- the number of a procedure of a module as a value
abbrev pub value_number : Modules → (place number : ℕ) → ℕ
value_number p place number = suc (suc (entries_before place p + number))

-- a procedure with this heading has this number
pub record NamesProcedure (p : Modules) (h : Heading) (n : ℕ) : Type 0 where
  pub place : ℕ
  pub home : TypedModule
  pub there : slice_get p place ≡ Some home
  pub number : ℕ
  pub routine : Routine
  pub is : slice_get home.procedures number ≡ Some routine
  pub value : n ≡ value_number p place number
  pub heading : heading_at home.types routine.heading ≡ Some h

-- a value of a procedure type: no procedure, or one with its heading
pub data IsProcedureValue (p : Modules) (h : Heading) : ℤ → Type 0 where
  Empty : IsProcedureValue p h (pos 0)
  Full : (n : ℕ) → NamesProcedure p h n → IsProcedureValue p h (pos n)

-- ---- cells

-- what the number in a cell of this type stands for is there
abbrev pub Means : Modules → Scalar → ℤ → Type 0
Means p (Natural g) v = Unit {0}
Means p Integer v = Unit {0}
Means p (Between l g) v = Unit {0}
Means p (Callable h) v = IsProcedureValue p h v

-- it stands for itself
abbrev pub IsNumber : Scalar → Type 0
IsNumber (Natural g) = Unit {0}
IsNumber Integer = Unit {0}
IsNumber (Between l g) = Unit {0}
IsNumber (Callable h) = ⊥

-- what a cell of this type says, that it is a number of the type, and that what it stands for is
-- there
pub record Says (p : Modules) (c : Scalar) (a : ℕ) (v : ℤ) (mem : List ℕ) : Type 0 where
  pub value : value_of c (number (width c) a mem) ≡ v
  pub within : IsOf c v
  pub means : Means p c v

-- from address a on the memory has the values of a variable of this type
abbrev pub Shows : Modules → (t : Ty) (a : ℕ) → (Location → ℤ) → List ℕ → Type 0
Shows p t a f mem =
    (r : Location) (c : Scalar) → component t r ≡ Some (Cell c)
    → Says p c (a + offset t r) (f r) mem

-- and what stands in the hidden room
abbrev pub Hides : (t : Ty) (a : ℕ) → (Location → ℕ → ℕ) → List ℕ → Type 0
Hides t a x mem =
    (r : Location) (n k : ℕ) → component t r ≡ Some (Hidden n) → k < n
    → byte (a + offset t r + k) mem ≡ x r k

-- the memory holds the store of a program in which instances of these types live
pub record Holds (p : Modules) (world : List Ty) (x : Location → ℕ → ℕ) (s : Store) (mem : List ℕ)
    : Type 0 where
  pub bytes : (a : ℕ) → byte a mem < 256
  pub room : size (row world) ≤ length mem
  pub cells : Shows p (row world) 0 s mem
  pub hidden : Hides (row world) 0 x mem

-- these bytes stand there
abbrev pub Keeps : (x : Location → ℕ → ℕ) (l : Location) (ys : List ℕ) → Type 0
Keeps x l ys = (k : ℕ) → k < length ys → x l k ≡ get_or ys k 0
