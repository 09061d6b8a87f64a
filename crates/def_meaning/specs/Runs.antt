-- The run of a program: the bodies of its modules in start order, on fresh variables.
use Rattle.std.specs.Prelude.{ℕ, suc, ◌+◌, ◌-◌, ◌*◌, [], ◌∷◌, length, map}
use Rattle.typed_tree.specs.declared.typed_module.TypedModule.{TypedModule}
use Rattle.layout_storage.specs.Types.{row, frame_of}
use Rattle.layout_storage.specs.Sizes.{size, page_size}
use Rattle.layout_storage.specs.Frames.{module_row}
use Rattle.layout_storage.specs.Texts.{module_texts, characters}
use Rattle.def_meaning.specs.Store.{fresh}
use Rattle.def_meaning.specs.Answer.{State, Ended, StillRunning, Value}
use Rattle.def_meaning.specs.Outcome.{Outcome, Normal, Exited, Returned}
use Rattle.def_meaning.specs.Environment.{Modules, Environment}
use Rattle.def_meaning.specs.Calls.{body_does, calling}

-- ---- storage

-- the bytes of the variables and the texts of all modules
abbrev pub data_size : Modules → ℕ
data_size [] = 0
data_size (m ∷ ms) = size (module_row m) + characters (module_texts m) + data_size ms

-- the storage of calls: what the pages leave, of which each body takes a frame while it runs
abbrev pub storage : Modules → (pages : ℕ) → ℕ
storage p pages = pages * page_size - data_size p

-- the least bytes of it that a program has
abbrev pub least_stack : ℕ
least_stack = 4096

abbrev pub body_frame : ℕ
body_frame = size (frame_of [])

-- ---- runs

abbrev pub first_state : Modules → State
first_state p = record { store = fresh (row (map module_row p)); out = [] }

-- what stands around the body of a module. The instance behind the instances of the modules is the
-- body's frame.
abbrev pub body_environment : Modules → (place : ℕ) → TypedModule → (free : ℕ) → Environment
body_environment p place m free = record {
  place = place;
  types = m.types;
  frames = [];
  withs = [];
  next = suc (length p);
  free = free;
}

-- a body that comes to its end or returns is followed by the next
abbrev pub then_body : Outcome → (State → Outcome) → Outcome
then_body (Value Normal st) next = next st
then_body (Value Exited st) next = next st
then_body (Value (Returned v) st) next = next st
then_body (Ended k out) next = Ended k out
then_body (StillRunning out) next = StillRunning out

-- after the last body the end is 0
abbrev pub bodies : Modules → (n free place : ℕ) → Modules → State → Outcome
bodies p n free place [] st = Ended 0 st.out
bodies p n free place (m ∷ ms) st =
    then_body (body_does p n (calling p n n) m.body (body_environment p place m free) st)
    (bodies p n free (suc place) ms)

-- The run of a program with the bound n: each loop makes at most n turns, and calls nest at most n
-- deep.
unfoldable pub run : Modules → (pages n : ℕ) → Outcome
run p pages n = bodies p n (storage p pages - body_frame) 0 p (first_state p)
