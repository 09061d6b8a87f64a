-- The bodies of a program: when their functions do what their statements do, and what the whole run
-- is then.
use Rattle.std.specs.Prelude.{◌≡◌, ℕ, suc, ◌-◌, Bool, false, List, [], ◌∷◌, length}
use Rattle.wasm_tree.specs.declared.module.WModule.{WModule}
use Rattle.wasm_tree.specs.declared.store.Value.{Value}
use Rattle.wasm_tree.specs.declared.store.Value.TheVariants.{I32}
use Rattle.wasm_tree.specs.Machine.{Typed, Going, enter_function}
use Rattle.law_effect.specs.Effect.{Fixed, store_of, Effect, FellThrough, StillRunning, Calling, back, nest_calls}
use Rattle.law_effect.specs.Effect as effects
use Rattle.typed_tree.specs.declared.typed_module.TypedModule.{TypedModule}
use Rattle.layout_storage.specs.Types.{Ty, row}
use Rattle.layout_storage.specs.Sizes.{size}
use Rattle.def_meaning.specs.Store.{Location}
use Rattle.def_meaning.specs.Answer.{State as Source, Ended}
use Rattle.def_meaning.specs.Outcome.{Outcome, Normal, Exited, Returned}
use Rattle.def_meaning.specs.Answer as answer
use Rattle.def_meaning.specs.Environment.{Modules}
use Rattle.def_meaning.specs.Runs.{storage, body_frame, body_environment, first_state, run}
use Rattle.law_memory.specs.Relation.{Holds}
use Rattle.law_memory.specs.Bodies.{BodyAt, AreThere, run_typed}
use Rattle.law_simulation.specs.Begun.{body_does, calling}
use Rattle.law_simulation.specs.Behaves.{Behaves}

-- ---- one body

-- The instances of the modules of a program are these, and their texts. The memory has this many
-- bytes.
pub record Ground : Type 0 where
  pub program : Modules
  pub base : List Ty
  pub texts : Location → ℕ → ℕ
  pub limit : ℕ

-- the memory holds the store of the modules
pub record IsHeld (g : Ground) (s : Source) (bytes : List ℕ) : Type 0 where
  pub holds : Holds g.program g.base g.texts s.store bytes
  pub long : length bytes ≡ g.limit

-- the function is back in its caller, which had these locals and operands
pub record IsBack (g : Ground) (locals below : List Value) (s : Source) (r : Effect) : Type 0 where
  pub bytes : List ℕ
  pub held : IsHeld g s bytes
  pub run : r ≡ FellThrough (record { locals = locals; bytes = bytes; out = s.out }) below

-- a body comes to its end, or returns, and all else ends alike
abbrev pub BodyEnds : Ground → (locals below : List Value) → Effect → Outcome → Type 0
BodyEnds g locals below r (answer.Value Normal s) = IsBack g locals below s r
BodyEnds g locals below r (answer.Value Exited s) = IsBack g locals below s r
BodyEnds g locals below r (answer.Value (Returned v) s) = IsBack g locals below s r
BodyEnds g locals below r (Ended k out) = r ≡ effects.Ended k out
BodyEnds g locals below r (answer.StillRunning out) = r ≡ StillRunning out

-- the function f of the module j does what the body does; its frame begins behind the instances of
-- the modules
abbrev pub BodyDoes : Ground → Calling → (does : Source → Outcome) → (j f : ℕ) → Typed → Type 0
BodyDoes g calls does j f t =
    (s : Source) (bytes : List ℕ)
    → IsHeld g s bytes
    → (locals below : List Value)
    → BodyEnds g locals below
    (back 0 locals below (calls j f t (I32 (size (row g.base)) ∷ []) bytes s.out)) (does s)

-- ---- all bodies

-- what a body does, if each loop makes at most n turns and calls nest at most n deep
abbrev pub statements_do : Modules → (pages n place : ℕ) → TypedModule → Source → Outcome
statements_do p pages n place m =
    body_does p n (calling p n n) m.body (body_environment p place m (storage p pages - body_frame))

-- the bodies from this place on
abbrev pub AllDo : Ground → Calling → (does : ℕ → TypedModule → Source → Outcome) → (place : ℕ)
    → Modules → List BodyAt → Type 0
AllDo g calls does place [] [] = Unit {0}
AllDo g calls does place [] (b ∷ bs) = ⊥
AllDo g calls does place (m ∷ ms) [] = ⊥
AllDo g calls does place (m ∷ ms) (b ∷ bs) =
    BodyDoes g calls (does place m) b.own b.function b.typed × AllDo g calls does (suc place) ms bs

-- The run of link begins with the first store in memory. Functions that serve the others do not
-- count.
abbrev pub BodiesBehave : Type 0
BodiesBehave =
    (p : Modules) (pages : ℕ) (g : Ground) (modules : List WModule) (fx : Fixed)
    (serves : (k f : ℕ) → Bool) (extra : (k f : ℕ) → ℕ) (m f index type : ℕ) (bs : List BodyAt)
    → serves m f ≡ false
    → AreThere modules fx m type bs
    → ((n : ℕ)
    → AllDo g (nest_calls modules fx serves extra n (suc n)) (statements_do p pages n) 0 p bs)
    → (bytes : List ℕ)
    → IsHeld g (first_state p) bytes
    → Behaves modules
    (Going (store_of fx bytes) (enter_function m (run_typed index (size (row g.base)) type bs) [])
    [])
    (run p pages)
