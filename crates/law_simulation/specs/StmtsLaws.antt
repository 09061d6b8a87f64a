-- What is proved of typed statements: their code does what they do, and EXIT does not leave a body.
use Rattle.std.specs.Prelude.{◌≡◌, ℕ, false, List, []}
use Rattle.typed_tree.specs.declared.statement.TypedStmt.{TypedStmt}
use Rattle.layout_storage.specs.Types.{Ty}
use Rattle.def_meaning.specs.Answer.{State, Value}
use Rattle.def_meaning.specs.Outcome.{Exited}
use Rattle.def_meaning.specs.Environment.{Environment}
use Rattle.def_meaning.specs.Calls.{is_there}
use Rattle.def_meaning.specs.Expressions.{Asks}
use Rattle.def_scheme.specs.Coded.{Coded}
use Rattle.def_scheme.specs.Steps.{body_code}
use Rattle.def_scheme.specs.Modules.{numbering_of}
use Rattle.law_simulation.specs.Begun.{body_does}
use Rattle.law_simulation.specs.Scene.{Scene, Executes}
use Rattle.law_simulation.specs.Passing.{Result}
use Rattle.law_simulation.specs.Placed.{Pins}
use Rattle.law_simulation.specs.TreesTyped.{Context}
use Rattle.law_simulation.specs.Fitting.{Fits}
use Rattle.law_simulation.specs.StmtsTyped.{AreStmts}

-- the scene is one of the context, for a body with this result in which loops make at most this
-- many turns
pub record Suits (x : Context) (ask : Asks) (result : Result) (n : ℕ) (ws : List Ty) (k : Scene)
    : Type 0 where
  pub fits : Fits x ask ws k
  pub turns : k.turns ≡ n
  pub typed : k.result ≡ result

-- in every scene that suits
abbrev pub Bodies : Type 0
Bodies =
    (x : Context) (ask : Asks) (result : Result) (n a b : ℕ) (body : List TypedStmt)
    → AreStmts x result [] false a b body
    → (placed : Coded)
    × Pins a b (body_code (numbering_of x.home) body) placed
    × ((k : Scene) → Suits x ask result n [] k
    → Executes k (is_there result) placed (body_does x.p n ask body))

abbrev pub Stays : Type 0
Stays =
    (x : Context) (ask : Asks) (result : Result) (n a b : ℕ) (body : List TypedStmt)
    → AreStmts x result [] false a b body
    → (around : Environment) (s t : State)
    → body_does x.p n ask body around s ≡ Value Exited t
    → ⊥
