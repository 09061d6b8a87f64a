-- Expressions without calls: they change nothing, and print nothing.
use Rattle.std.specs.Prelude.{◌≡◌, ℕ, Bool, true, false, ◌||◌, List, [], ◌∷◌}
use Rattle.typed_tree.specs.declared.computed.Argument.{Argument-F}
use Rattle.typed_tree.specs.declared.computed.Argument.TheOpen as layer
use Rattle.typed_tree.specs.declared.computed.Call.{Call-F}
use Rattle.typed_tree.specs.declared.computed.Component.{Component-F}
use Rattle.typed_tree.specs.declared.computed.Link.{Link-F}
use Rattle.typed_tree.specs.declared.computed.Place.{Place, Place-F, fold-Place}
use Rattle.typed_tree.specs.declared.computed.TypedExpr.{TypedExpr, TypedExpr-F, fold-TypedExpr}
use Rattle.def_meaning.specs.Answer.{State, Answer, Value, Ended}
use Rattle.def_meaning.specs.Environment.{Modules, Environment}
use Rattle.def_meaning.specs.Expressions.{Asks, value, locate}

-- ---- whether there is a call in an expression

abbrev pub argument_calls : Argument-F Bool Bool Bool Bool Bool Bool → Bool
argument_calls (layer.Value t e) = e
argument_calls (layer.Place d) = d
argument_calls (layer.Array t d) = d
argument_calls (layer.Open slot) = false
argument_calls (layer.Text text) = false

abbrev pub call_calls : Call-F Bool Bool Bool Bool Bool Bool → Bool
call_calls c = true

abbrev pub component_calls : Component-F Bool Bool Bool Bool Bool Bool → Bool
component_calls (layer.Field t k) = false
component_calls (layer.Element t i) = i
component_calls (layer.OpenElement slot t i) = i

-- one of several
abbrev pub any_calls : List Bool → Bool
any_calls [] = false
any_calls (b ∷ bs) = b || any_calls bs

abbrev pub place_calls : Place-F Bool Bool Bool Bool Bool Bool → Bool
place_calls d = any_calls d.components

abbrev pub link_calls : Link-F Bool Bool Bool Bool Bool Bool → Bool
link_calls (layer.Arithmetic op t b) = b
link_calls (layer.And b) = b
link_calls (layer.Or b) = b
link_calls (layer.Combine op b) = b

abbrev pub expr_calls : TypedExpr-F Bool Bool Bool Bool Bool Bool → Bool
expr_calls (layer.Constant t n) = false
expr_calls (layer.Load t d) = d
expr_calls (layer.Procedure p) = false
expr_calls (layer.Plus t e) = e
expr_calls (layer.Negate e) = e
expr_calls (layer.Chain a links) = a || any_calls links
expr_calls (layer.Compare op a b) = a || b
expr_calls (layer.Not e) = e
expr_calls (layer.Include op a b) = a || b
expr_calls (layer.In a b) = a || b
expr_calls (layer.Abs t e) = e
expr_calls (layer.Cap e) = e
expr_calls (layer.Chr e) = e
expr_calls (layer.Odd e) = e
expr_calls (layer.Ord e) = e
expr_calls (layer.Val t e) = e
expr_calls (layer.High slot) = false
expr_calls (layer.Call t c) = c

unfoldable pub calls : TypedExpr → Bool
calls =
    fold-TypedExpr Bool Bool Bool Bool Bool Bool argument_calls call_calls component_calls
    link_calls expr_calls place_calls

unfoldable pub calls_at : Place → Bool
calls_at =
    fold-Place Bool Bool Bool Bool Bool Bool argument_calls call_calls component_calls link_calls
    expr_calls place_calls

-- ---- the laws

-- a value, or a fault, and all is as it was
pub data Leaves {A : Type 0} (st : State) : Answer A → Type 0 where
  gives : (v : A) → Leaves st (Value v st)
  ends : (k : ℕ) → Leaves st (Ended k st.out)

-- an expression without calls changes nothing and prints nothing
abbrev pub ChangesNothing : Type 0
ChangesNothing =
    (p : Modules) (ask : Asks) (e : TypedExpr) (a : Environment) (st : State) → calls e ≡ false
    → Leaves st (value p ask e a st)

-- nor does a designator without calls
abbrev pub FindsAlone : Type 0
FindsAlone =
    (p : Modules) (ask : Asks) (d : Place) (a : Environment) (st : State) → calls_at d ≡ false
    → Leaves st (locate p ask d a st)
