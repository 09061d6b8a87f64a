-- The run of a program, if nothing that it asks for may be missing.
use Rattle.std.specs.Prelude.{ℕ, suc, ◌-◌, Bool, true, false, ◌&&◌, [], ◌∷◌, ◌++◌, map}
use Rattle.typed_tree.specs.declared.typed_module.TypedModule.{TypedModule}
use Rattle.layout_storage.specs.Types.{frame_of}
use Rattle.layout_storage.specs.Frames.{module_row}
use Rattle.def_meaning.specs.Answer.{State, Ended, Value}
use Rattle.def_meaning.specs.Outcome.{Outcome, Exited}
use Rattle.def_meaning.specs.Environment.{Modules}
use Rattle.def_meaning.specs.Runs as meaning
use Rattle.def_meaning.specs.Runs.{storage, body_frame, first_state, body_environment}
use Rattle.law_modules.specs.There.{are_types, are_whole}
use Rattle.law_nothing_missing.specs.Worlds.{World}
use Rattle.law_nothing_missing.specs.Expressions.{if_provided}
use Rattle.law_nothing_missing.specs.Calls.{body_does, calling}

-- the variables of all modules, and the frame of a body
abbrev pub first_world : Modules → World
first_world p = map module_row p ++ frame_of [] ∷ []

-- the types of a module's variables are there, and so are those that its types name
abbrev pub has_types : TypedModule → Bool
has_types m = are_whole m.types && are_types m.types m.variables

abbrev pub all_have_types : Modules → Bool
all_have_types [] = true
all_have_types (m ∷ ms) = has_types m && all_have_types ms

module _ (lacking : ℕ) where
  -- EXIT does not leave a body
  abbrev pub then_body : Outcome → (State → Outcome) → Outcome
  then_body (Value Exited st) next = Ended lacking st.out
  then_body other next = meaning.then_body other next

  abbrev pub bodies : Modules → (n left place : ℕ) → Modules → State → Outcome
  bodies p n left place [] st = Ended 0 st.out
  bodies p n left place (m ∷ ms) st =
      then_body
      (body_does lacking p n (calling lacking p n n (first_world p)) (first_world p) false m.body
      (body_environment p place m left) st)
      (bodies p n left (suc place) ms)

  -- the run of a program with the bound n, which ends with the number `lacking` if it lacks
  -- something: at its beginning, if a type is not there
  unfoldable pub strict_run : Modules → (pages n : ℕ) → Outcome
  strict_run p pages n =
      if_provided lacking (all_have_types p) (bodies p n (storage p pages - body_frame) 0 p)
      (first_state p)
