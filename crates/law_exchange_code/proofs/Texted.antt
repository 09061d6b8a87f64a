-- The texts of a module have no numbers of modules.
use Rattle.std.proofs.Common.{map, ◌≡◌, List, [], ◌∷◌, ◌++◌, Option, Some, None, refl, sym, ap, ◌∙◌}
use Rattle.std.specs.Prelude.{slice_get}
use Rattle.std.specs.Option.{option_map}
use Rattle.std.proofs.lemmas.List.{map-id}
use Rattle.std.proofs.lemmas.Option.{slice_get-map}
use Rattle.typed_tree.specs.declared.computed.Argument.{Argument-F, map-Argument}
use Rattle.typed_tree.specs.declared.computed.Call.{Call, Call-F, map-Call}
use Rattle.typed_tree.specs.declared.computed.Component.{Component-F, map-Component}
use Rattle.typed_tree.specs.declared.computed.Link.{Link-F, map-Link}
use Rattle.typed_tree.specs.declared.computed.TypedExpr.{TypedExpr, TypedExpr-F, map-TypedExpr}
use Rattle.typed_tree.specs.declared.computed.Place.{Place, Place-F, map-Place}
use Rattle.typed_tree.specs.declared.computed.Argument.TheOpen as layer
use Rattle.typed_tree.specs.declared.statement.TypedArm.{TypedArm-F, map-TypedArm}
use Rattle.typed_tree.specs.declared.statement.TypedStmt.{TypedStmt, TypedStmt-F, map-TypedStmt}
use Rattle.typed_tree.specs.declared.statement.TypedStmt.TheOpen as step
use Rattle.typed_tree.specs.declared.typed_module.Routine.{Routine}
use Rattle.typed_tree.specs.declared.typed_module.Which.{Which}
use Rattle.typed_tree.specs.declared.typed_module.Which.TheVariants as which
use Rattle.typed_tree.specs.declared.typed_module.TypedModule.{TypedModule}
use Rattle.layout_storage.specs.Texts.{Texts, concatenation, argument_texts, call_texts, component_texts, place_texts, link_texts, expr_texts, texts_of, texts_at, texts_called, step_texts, arm_texts, texts_in, body_texts, routine_texts, which_texts, routines_texts, module_texts, is_which, texts_before}
use Rattle.std.specs.Prelude.{if◌then◌else◌}
use Rattle.def_exchange.specs.Moved.{Exchange}
use Rattle.def_exchange.specs.MovedTrees.{argument_moved, call_moved, component_moved, link_moved, expr_moved, place_moved, moved_expr, moved_place, moved_call, stmt_moved, arm_moved, moved_stmt, moved_routine, moved_module}
use Rattle.law_exchange_code.proofs.Lists.{two_paths, flat_kept, flat_same}
use Rattle.law_exchange_code.proofs.Fusion.{Layers, Passes, passed_expr, passed_place, passed_call}
use Rattle.law_exchange_code.proofs.StmtFusion.{StmtLayers, StmtPasses, passed_stmt}

abbrev layers : Layers Texts Texts Texts Texts Texts Texts
layers = record {
  argument = argument_texts;
  call = call_texts;
  component = component_texts;
  link = link_texts;
  expr = expr_texts;
  place = place_texts;
}

same_all : (xs : List Texts) → concatenation (map (λ z. z) xs) ≡ concatenation xs
same_all xs = ap concatenation (map-id xs)

module _ (x : Exchange) where
  of_argument : (y : Argument-F Texts Texts Texts Texts Texts Texts)
      → argument_texts (map-Argument Texts Texts Texts Texts Texts Texts Texts Texts Texts Texts Texts Texts (λ z. z)
      (λ z. z) (λ z. z) (λ z. z) (λ z. z) (λ z. z) y) ≡ argument_texts (argument_moved x y)
  of_argument (layer.Value t e) = refl
  of_argument (layer.Place d) = refl
  of_argument (layer.Array t d) = refl
  of_argument (layer.Open s) = refl
  of_argument (layer.Text text) = refl

  of_call : (y : Call-F Texts Texts Texts Texts Texts Texts)
      → call_texts (map-Call Texts Texts Texts Texts Texts Texts Texts Texts Texts Texts Texts Texts (λ z. z) (λ z. z)
      (λ z. z) (λ z. z) (λ z. z) (λ z. z) y) ≡ call_texts (call_moved x y)
  of_call (layer.Module p args) = same_all args
  of_call (layer.Nested p args) = same_all args
  of_call (layer.Variable t d args) = ap (λ z. d ++ z) (same_all args)

  of_component : (y : Component-F Texts Texts Texts Texts Texts Texts)
      → component_texts (map-Component Texts Texts Texts Texts Texts Texts Texts Texts Texts Texts Texts Texts (λ z. z)
      (λ z. z) (λ z. z) (λ z. z) (λ z. z) (λ z. z) y) ≡ component_texts (component_moved x y)
  of_component (layer.Field t k) = refl
  of_component (layer.Element t i) = refl
  of_component (layer.OpenElement s t i) = refl

  of_link : (y : Link-F Texts Texts Texts Texts Texts Texts)
      → link_texts (map-Link Texts Texts Texts Texts Texts Texts Texts Texts Texts Texts Texts Texts (λ z. z) (λ z. z)
      (λ z. z) (λ z. z) (λ z. z) (λ z. z) y) ≡ link_texts (link_moved x y)
  of_link (layer.Arithmetic o t b) = refl
  of_link (layer.And b) = refl
  of_link (layer.Or b) = refl
  of_link (layer.Combine o b) = refl

  of_expr : (y : TypedExpr-F Texts Texts Texts Texts Texts Texts)
      → expr_texts (map-TypedExpr Texts Texts Texts Texts Texts Texts Texts Texts Texts Texts Texts Texts (λ z. z)
      (λ z. z) (λ z. z) (λ z. z) (λ z. z) (λ z. z) y) ≡ expr_texts (expr_moved x y)
  of_expr (layer.Constant t n) = refl
  of_expr (layer.Load t d) = refl
  of_expr (layer.Procedure p) = refl
  of_expr (layer.Plus t e) = refl
  of_expr (layer.Negate e) = refl
  of_expr (layer.Chain e links) = ap (λ z. e ++ z) (same_all links)
  of_expr (layer.Compare o a b) = refl
  of_expr (layer.Not e) = refl
  of_expr (layer.Include o a b) = refl
  of_expr (layer.In a b) = refl
  of_expr (layer.Abs t e) = refl
  of_expr (layer.Cap e) = refl
  of_expr (layer.Chr e) = refl
  of_expr (layer.Odd e) = refl
  of_expr (layer.Ord e) = refl
  of_expr (layer.Val t e) = refl
  of_expr (layer.High s) = refl
  of_expr (layer.Call t c) = refl

  of_place : (y : Place-F Texts Texts Texts Texts Texts Texts)
      → place_texts (map-Place Texts Texts Texts Texts Texts Texts Texts Texts Texts Texts Texts Texts (λ z. z) (λ z. z)
      (λ z. z) (λ z. z) (λ z. z) (λ z. z) y) ≡ place_texts (place_moved x y)
  of_place d = same_all d.components

  abbrev pass : Passes x layers layers
  pass = record {
    ha = λ z. z;
    hc = λ z. z;
    hk = λ z. z;
    hl = λ z. z;
    he = λ z. z;
    hp = λ z. z;
    argument = of_argument;
    call = of_call;
    component = of_component;
    link = of_link;
    expr = of_expr;
    place = of_place;
  }

  pub texts_of_kept : (e : TypedExpr) → texts_of e ≡ texts_of (moved_expr x e)
  unfolding texts_of
  texts_of_kept e = passed_expr x layers layers pass e

  pub texts_at_kept : (d : Place) → texts_at d ≡ texts_at (moved_place x d)
  unfolding texts_at
  texts_at_kept d = passed_place x layers layers pass d

  pub texts_called_kept : (c : Call) → texts_called c ≡ texts_called (moved_call x c)
  unfolding texts_called
  texts_called_kept c = passed_call x layers layers pass c

  -- ---- statements

  abbrev steps : StmtLayers Texts Texts
  steps = record { stmt = step_texts; arm = arm_texts }

  of_step : (y : TypedStmt-F Texts Texts)
      → step_texts (map-TypedStmt Texts Texts Texts Texts (λ z. z) (λ z. z) y) ≡ step_texts (stmt_moved x y)
  of_step (step.Assign d t e) = two_paths (λ a b. a ++ b) (texts_at_kept d) (texts_of_kept e)
  of_step (step.Copy to from t) = two_paths (λ a b. a ++ b) (texts_at_kept to) (texts_at_kept from)
  of_step (step.CopyText d t text) = ap (λ a. a ++ text ∷ []) (texts_at_kept d)
  of_step (step.Call c) = texts_called_kept c
  of_step (step.Put e) = texts_of_kept e
  of_step (step.Change o d t e) = two_paths (λ a b. a ++ b) (texts_at_kept d) (texts_of_kept e)
  of_step (step.Membership o d e) = two_paths (λ a b. a ++ b) (texts_at_kept d) (texts_of_kept e)
  of_step step.Halt = refl
  of_step (step.If e body None) = two_paths (λ a b. a ++ b) (texts_of_kept e) (ap (λ a. a ++ []) (same_all body))
  of_step (step.If e body (Some ys)) = two_paths (λ a b. a ++ b) (texts_of_kept e)
      (two_paths (λ a b. a ++ b) (same_all body) (same_all ys))
  of_step (step.Case e arms None) = two_paths (λ a b. a ++ b) (texts_of_kept e) (ap (λ a. a ++ []) (same_all arms))
  of_step (step.Case e arms (Some ys)) = two_paths (λ a b. a ++ b) (texts_of_kept e)
      (two_paths (λ a b. a ++ b) (same_all arms) (same_all ys))
  of_step (step.While e body) = two_paths (λ a b. a ++ b) (texts_of_kept e) (same_all body)
  of_step (step.Repeat body e) = two_paths (λ a b. a ++ b) (same_all body) (texts_of_kept e)
  of_step (step.Loop body) = same_all body
  of_step step.Exit = refl
  of_step step.Return = refl
  of_step (step.Give t e) = texts_of_kept e
  of_step (step.For d t start limit by body) =
      two_paths (λ a b. a ++ b) (texts_at_kept d)
      (two_paths (λ a b. a ++ b) (texts_of_kept start)
      (two_paths (λ a b. a ++ b) (texts_of_kept limit) (same_all body)))
  of_step (step.With d body) = two_paths (λ a b. a ++ b) (texts_at_kept d) (same_all body)

  of_arm : (y : TypedArm-F Texts Texts) → arm_texts (map-TypedArm Texts Texts Texts Texts (λ z. z) (λ z. z) y)
      ≡ arm_texts (arm_moved x y)
  of_arm y = same_all y.body

  abbrev step_pass : StmtPasses x steps steps
  step_pass = record { hs = λ z. z; hr = λ z. z; stmt = of_step; arm = of_arm }

  pub texts_in_kept : (s : TypedStmt) → texts_in (moved_stmt x s) ≡ texts_in s
  unfolding texts_in
  texts_in_kept s = sym (passed_stmt x steps steps step_pass s)

  -- ---- modules

  pub body_kept : (body : List TypedStmt) → body_texts (map (moved_stmt x) body) ≡ body_texts body
  body_kept body = flat_kept (moved_stmt x) texts_in texts_in texts_in_kept body

  routine_kept : (o : Option Routine) → routine_texts (option_map (moved_routine x) o) ≡ routine_texts o
  routine_kept None = refl
  routine_kept (Some r) = body_kept r.body

  pub which_kept : (m : TypedModule) (w : Which) → which_texts (moved_module x m) w ≡ which_texts m w
  which_kept m (which.Module n) = ap routine_texts (slice_get-map (moved_routine x) m.procedures n)
      ∙ routine_kept (slice_get m.procedures n)
  which_kept m (which.Local n) = ap routine_texts (slice_get-map (moved_routine x) m.locals n)
      ∙ routine_kept (slice_get m.locals n)

  pub routines_kept : (m : TypedModule) → routines_texts (moved_module x m) ≡ routines_texts m
  routines_kept m = flat_same (which_texts (moved_module x m)) (which_texts m) (which_kept m) m.order

  pub texts_kept : (m : TypedModule) → module_texts (moved_module x m) ≡ module_texts m
  texts_kept m = two_paths (λ a b. a ++ b) (routines_kept m) (body_kept m.body)

  pub before_kept : (m : TypedModule) (w : Which) (vs : List Which)
      → texts_before (moved_module x m) w vs ≡ texts_before m w vs
  before_kept m w [] = refl
  before_kept m w (v ∷ vs) =
      two_paths (λ (a b : Texts). if is_which w v then [] else a ++ b) (which_kept m v) (before_kept m w vs)
