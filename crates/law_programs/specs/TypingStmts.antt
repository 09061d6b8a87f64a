-- What the checker makes of statements is typed, if names mean what is there.
use Rattle.std.specs.Prelude.{◌≡◌, ℕ, ◌+◌, Bool, true, ◌&&◌, List, length, Option, Some, None, Result, Ok, Err}
use Rattle.std.specs.List.{list_all}
use Rattle.m2_tree.specs.declared.expr.Expr.{Expr}
use Rattle.m2_tree.specs.declared.expr.Item.{Item, out-Item}
use Rattle.m2_tree.specs.declared.stmt.Rest.{Rest, Rest-F, fold-Rest}
use Rattle.m2_tree.specs.declared.stmt.Rest.TheOpen as layer
use Rattle.m2_tree.specs.declared.stmt.Stmt.{Stmt, Stmt-F, fold-Stmt}
use Rattle.m2_tree.specs.declared.stmt.Arm.{Arm, Arm-F, fold-Arm}
use Rattle.typed_tree.specs.declared.known_types.Types.{Types}
use Rattle.typed_tree.specs.declared.statement.TypedStmt.{TypedStmt}
use Rattle.typed_tree.specs.declared.types.TypeNo.{TypeNo}
use Rattle.check_scope.specs.Elaborated.{Gathers}
use Rattle.check_scope.specs.declared.scope.Scope.{Scope}
use Rattle.layout_storage.specs.Shapes.{tree}
use Rattle.layout_storage.specs.Types.{Ty}
use Rattle.layout_storage.specs.Texts.{characters, texts_in, body_texts}
use Rattle.law_simulation.specs.Passing.{Result as Gives}
use Rattle.law_simulation.specs.TreesTyped.{Context}
use Rattle.law_simulation.specs.StmtsTyped.{IsStmt, AreStmts}
use Rattle.law_well_formed.specs.Formed.{Holds}
use Rattle.law_well_formed.specs.FormedRanges.{itself, fits, ScopeRanged}
use Rattle.law_programs.specs.Wanted.{Has}
use Rattle.law_programs.specs.Typing.{fits_whole, fits_head, IsTyped}
use Rattle.check_stmt_parts.specs.declared.around.Around.{Around}
use Rattle.check_stmt.specs.Statements.{statements}
use Rattle.law_programs.specs.Asked.{wanted_in, wanted_by}

-- ---- trees: numbers and characters are as the scanner gives them

abbrev pub fits_if : Option Expr → Bool
fits_if None = true
fits_if (Some e) = fits_whole e

abbrev pub all_fit : Option (List Expr) → Bool
all_fit None = true
all_fit (Some es) = list_all fits_whole es

-- a step is a constant
abbrev pub fits_step : Option Expr → Bool
fits_step None = true
fits_step (Some e) = fits e

abbrev pub fits_label : Item → Bool
fits_label i = fits_whole (out-Item i).low && fits_if (out-Item i).high

abbrev pub others_fit : Option (List Bool) → Bool
others_fit None = true
others_fit (Some bs) = list_all itself bs

abbrev pub fits_stmt_layer : Stmt-F Bool Bool Bool → Bool
fits_stmt_layer (layer.Assign d e) = fits_head d && fits_whole e
fits_stmt_layer (layer.Call d args) = fits_head d && all_fit args
fits_stmt_layer (layer.If c body rest) = fits_whole c && (list_all itself body && rest)
fits_stmt_layer (layer.Case e arms otherwise) =
    fits_whole e && (list_all itself arms && others_fit otherwise)
fits_stmt_layer (layer.While c body) = fits_whole c && list_all itself body
fits_stmt_layer (layer.Repeat body c) = list_all itself body && fits_whole c
fits_stmt_layer (layer.Loop body) = list_all itself body
fits_stmt_layer (layer.Exit at) = true
fits_stmt_layer (layer.Return at e) = fits_if e
fits_stmt_layer (layer.For name start limit by body) =
    fits_whole start && (fits_whole limit && (fits_step by && list_all itself body))
fits_stmt_layer (layer.With d body) = fits_head d && list_all itself body

abbrev pub fits_rest_layer : Rest-F Bool Bool Bool → Bool
fits_rest_layer (layer.Elsif c body rest) = fits_whole c && (list_all itself body && rest)
fits_rest_layer (layer.Else body) = others_fit body

abbrev pub fits_arm_layer : Arm-F Bool Bool Bool → Bool
fits_arm_layer a = list_all fits_label a.labels && list_all itself a.body

unfoldable pub fits_rest : Rest → Bool
fits_rest = fold-Rest Bool Bool Bool fits_rest_layer fits_stmt_layer fits_arm_layer

unfoldable pub fits_stmt : Stmt → Bool
fits_stmt = fold-Stmt Bool Bool Bool fits_rest_layer fits_stmt_layer fits_arm_layer

unfoldable pub fits_arm : Arm → Bool
fits_arm = fold-Arm Bool Bool Bool fits_rest_layer fits_stmt_layer fits_arm_layer

-- ---- statements, wherever what they ask for is there

module _ (x : Context) (result : Gives) (ws : List Ty) (looped : Bool) where
  abbrev pub StmtTyped : TypedStmt → Type 0
  StmtTyped s =
      (a : ℕ) → Has x a (wanted_in x.home s)
      → IsStmt x result ws looped a (a + characters (texts_in s)) s

  abbrev pub StmtsTyped : List TypedStmt → Type 0
  StmtsTyped ss =
      (a : ℕ) → Has x a (wanted_by x.home ss)
      → AreStmts x result ws looped a (a + characters (body_texts ss)) ss

-- what RETURN gives in a body is the result of its procedure
abbrev pub AreReturned : {T : Type 0} → Types → Option (Result TypeNo T) → Gives → Type 0
AreReturned types None result = result ≡ None
AreReturned types (Some (Ok t)) result = result ≡ Some (tree types t)
AreReturned types (Some (Err e)) result = Unit {0}

-- Statements of a body are typed, within as many WITHs as the scope has open.
abbrev pub StatementsAreTyped : Gathers → Type 0
StatementsAreTyped g = (x : Context) (ws : List Ty) (opens : ℕ → Bool) (s : Scope g.Reported)
    → IsTyped g x ws opens s → ScopeRanged s → length ws ≡ length s.withs
    → (a : Around g.Reported) (result : Gives) → AreReturned x.home.types a.gives result
    → (xs : List Stmt) → list_all fits_stmt xs ≡ true
    → Holds (StmtsTyped x result ws a.in_loop) (statements g s a xs)
