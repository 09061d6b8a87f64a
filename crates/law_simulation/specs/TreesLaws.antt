-- What is proved of typed trees: their code, with its texts where the module has them, does what
-- the definition of a run says.
use Rattle.std.specs.Prelude.{ℕ, List}
use Rattle.typed_tree.specs.declared.computed.Call.{Call}
use Rattle.typed_tree.specs.declared.computed.Place.{Place}
use Rattle.typed_tree.specs.declared.computed.TypedExpr.{TypedExpr}
use Rattle.typed_tree.specs.declared.types.TypeNo.{TypeNo}
use Rattle.layout_storage.specs.Types.{Ty, Heading}
use Rattle.def_meaning.specs.Expressions.{Asks, value, locate, call_value}
use Rattle.def_scheme.specs.Coded.{Coded}
use Rattle.def_scheme.specs.Exprs.{expr_part, place_code, call_code}
use Rattle.def_scheme.specs.Modules.{numbering_of}
use Rattle.law_simulation.specs.Scene.{Scene, Agrees, Locates}
use Rattle.law_simulation.specs.Held.{AgreesHeld}
use Rattle.law_simulation.specs.Passing.{Result, Calls}
use Rattle.law_simulation.specs.Placed.{Pins}
use Rattle.law_simulation.specs.TreesTyped.{Context, IsExpr, IsProcedureExpr, IsPlace, IsCall}
use Rattle.law_simulation.specs.Fitting.{Fits}

-- in every scene of the context
abbrev pub Exprs : Type 0
Exprs =
    (x : Context) (ask : Asks) (ws : List Ty) (a b : ℕ) (e : TypedExpr) (t : TypeNo)
    → IsExpr x ws a b e t
    → (placed : Coded) × Pins a b (expr_part (numbering_of x.home) e).code placed
    × ((k : Scene) → Fits x ask ws k → Agrees k t placed (value x.p ask e))

-- one of a procedure type
abbrev pub ProcedureExprs : Type 0
ProcedureExprs =
    (x : Context) (ask : Asks) (ws : List Ty) (a b : ℕ) (e : TypedExpr) (h : Heading)
    → IsProcedureExpr x ws a b e h
    → (placed : Coded) × Pins a b (expr_part (numbering_of x.home) e).code placed
    × ((k : Scene) → Fits x ask ws k → AgreesHeld k h placed (value x.p ask e))

abbrev pub Places : Type 0
Places =
    (x : Context) (ask : Asks) (ws : List Ty) (a b : ℕ) (d : Place) (t : Ty)
    → IsPlace x ws a b d t
    → (placed : Coded) × Pins a b (place_code (numbering_of x.home) d) placed
    × ((k : Scene) → Fits x ask ws k → Locates k t placed (locate x.p ask d))

abbrev pub CallsOf : Type 0
CallsOf =
    (x : Context) (ask : Asks) (ws : List Ty) (a b : ℕ) (c : Call) (r : Result)
    → IsCall x ws a b c r
    → (placed : Coded) × Pins a b (call_code (numbering_of x.home) c) placed
    × ((k : Scene) → Fits x ask ws k → Calls k r placed (call_value x.p ask c))
