-- A tree under other numbers, form by form.
use Rattle.std.proofs.Common.{◌≡◌, List, map, Option, Some, None, sym, ap, ◌∙◌}
use Rattle.std.specs.Option.{option_map}
use Rattle.typed_tree.specs.declared.computed.Argument.TheVariants as argument
use Rattle.typed_tree.specs.declared.computed.Call.TheVariants as call
use Rattle.typed_tree.specs.declared.computed.Component.TheVariants as component
use Rattle.typed_tree.specs.declared.computed.Link.TheVariants as link
use Rattle.typed_tree.specs.declared.computed.Place.{Place}
use Rattle.typed_tree.specs.declared.computed.TypedExpr.{TypedExpr}
use Rattle.typed_tree.specs.declared.computed.TypedExpr.TheVariants as expr
use Rattle.typed_tree.specs.declared.statement.TypedArm.{TypedArm}
use Rattle.typed_tree.specs.declared.statement.TypedStmt.{TypedStmt}
use Rattle.typed_tree.specs.declared.statement.TypedStmt.TheVariants as stmt
use Rattle.def_exchange.specs.Moved.{Exchange, moved_type, moved_procedure}
use Rattle.def_exchange.specs.MovedTrees.{moved_root, moved_called, moved_argument, moved_call, moved_component, moved_link, moved_expr, moved_place, moved_stmt, moved_arm}
use Rattle.typed_tree.specs.declared.computed.Argument.TheOpen as layer
use Rattle.typed_tree.specs.declared.statement.TypedStmt.TheOpen as step
use Rattle.law_exchange_code.specs.ByParts.{ArgumentsByParts, CallsByParts, ComponentsByParts, LinksByParts, ExpressionsByParts, StatementsByParts, TreesByParts}
use Rattle.law_exchange_code.proofs.Rolled.{rolled_argument, rolled_call, rolled_component, rolled_link, rolled_expr, rolled_place, rolled_stmt, rolled_arm}

module _ (x : Exchange) where
  argument_by_parts : ArgumentsByParts x
  argument_by_parts = record {
    value = λ t e. ap (moved_argument x) (sym (argument.rolls-Value t e)) ∙ rolled_argument x (layer.Value t e)
        ∙ argument.rolls-Value (moved_type x t) (moved_expr x e);
    place = λ d. ap (moved_argument x) (sym (argument.rolls-Place d)) ∙ rolled_argument x (layer.Place d)
        ∙ argument.rolls-Place (moved_place x d);
    array = λ t d. ap (moved_argument x) (sym (argument.rolls-Array t d)) ∙ rolled_argument x (layer.Array t d)
        ∙ argument.rolls-Array (moved_type x t) (moved_place x d);
    «open» = λ s. ap (moved_argument x) (sym (argument.rolls-Open s)) ∙ rolled_argument x (layer.Open s)
        ∙ argument.rolls-Open s;
    text = λ text. ap (moved_argument x) (sym (argument.rolls-Text text)) ∙ rolled_argument x (layer.Text text)
        ∙ argument.rolls-Text text;
  }

  call_by_parts : CallsByParts x
  call_by_parts = record {
    «module» = λ p args. ap (moved_call x) (sym (call.rolls-Module p args)) ∙ rolled_call x (layer.Module p args)
        ∙ call.rolls-Module (moved_procedure x p) (map (moved_argument x) args);
    nested = λ l args. ap (moved_call x) (sym (call.rolls-Nested l args)) ∙ rolled_call x (layer.Nested l args)
        ∙ call.rolls-Nested (moved_called x l) (map (moved_argument x) args);
    variable = λ t d args. ap (moved_call x) (sym (call.rolls-Variable t d args))
        ∙ rolled_call x (layer.Variable t d args)
        ∙ call.rolls-Variable (moved_type x t) (moved_place x d) (map (moved_argument x) args);
  }

  component_by_parts : ComponentsByParts x
  component_by_parts = record {
    field = λ t k. ap (moved_component x) (sym (component.rolls-Field t k)) ∙ rolled_component x (layer.Field t k)
        ∙ component.rolls-Field (moved_type x t) k;
    element = λ t i. ap (moved_component x) (sym (component.rolls-Element t i)) ∙ rolled_component x (layer.Element t i)
        ∙ component.rolls-Element (moved_type x t) (moved_expr x i);
    open_element = λ s t i. ap (moved_component x) (sym (component.rolls-OpenElement s t i))
        ∙ rolled_component x (layer.OpenElement s t i)
        ∙ component.rolls-OpenElement s (moved_type x t) (moved_expr x i);
  }

  link_by_parts : LinksByParts x
  link_by_parts = record {
    arithmetic = λ o t b. ap (moved_link x) (sym (link.rolls-Arithmetic o t b)) ∙ rolled_link x (layer.Arithmetic o t b)
        ∙ link.rolls-Arithmetic o (moved_type x t) (moved_expr x b);
    and = λ b. ap (moved_link x) (sym (link.rolls-And b)) ∙ rolled_link x (layer.And b)
        ∙ link.rolls-And (moved_expr x b);
    or = λ b. ap (moved_link x) (sym (link.rolls-Or b)) ∙ rolled_link x (layer.Or b) ∙ link.rolls-Or (moved_expr x b);
    combine = λ q b. ap (moved_link x) (sym (link.rolls-Combine q b)) ∙ rolled_link x (layer.Combine q b)
        ∙ link.rolls-Combine q (moved_expr x b);
  }

  expr_by_parts : ExpressionsByParts x
  expr_by_parts = record {
    constant = λ t n. ap (moved_expr x) (sym (expr.rolls-Constant t n)) ∙ rolled_expr x (layer.Constant t n)
        ∙ expr.rolls-Constant (moved_type x t) n;
    load = λ t d. ap (moved_expr x) (sym (expr.rolls-Load t d)) ∙ rolled_expr x (layer.Load t d)
        ∙ expr.rolls-Load (moved_type x t) (moved_place x d);
    procedure = λ p. ap (moved_expr x) (sym (expr.rolls-Procedure p)) ∙ rolled_expr x (layer.Procedure p)
        ∙ expr.rolls-Procedure (moved_procedure x p);
    plus = λ t e. ap (moved_expr x) (sym (expr.rolls-Plus t e)) ∙ rolled_expr x (layer.Plus t e)
        ∙ expr.rolls-Plus (moved_type x t) (moved_expr x e);
    negate = λ e. ap (moved_expr x) (sym (expr.rolls-Negate e)) ∙ rolled_expr x (layer.Negate e)
        ∙ expr.rolls-Negate (moved_expr x e);
    chain = λ e links. ap (moved_expr x) (sym (expr.rolls-Chain e links)) ∙ rolled_expr x (layer.Chain e links)
        ∙ expr.rolls-Chain (moved_expr x e) (map (moved_link x) links);
    compare = λ cmp a b. ap (moved_expr x) (sym (expr.rolls-Compare cmp a b)) ∙ rolled_expr x (layer.Compare cmp a b)
        ∙ expr.rolls-Compare cmp (moved_expr x a) (moved_expr x b);
    not = λ e. ap (moved_expr x) (sym (expr.rolls-Not e)) ∙ rolled_expr x (layer.Not e)
        ∙ expr.rolls-Not (moved_expr x e);
    include = λ inc a b. ap (moved_expr x) (sym (expr.rolls-Include inc a b)) ∙ rolled_expr x (layer.Include inc a b)
        ∙ expr.rolls-Include inc (moved_expr x a) (moved_expr x b);
    «in» = λ a b. ap (moved_expr x) (sym (expr.rolls-In a b)) ∙ rolled_expr x (layer.In a b)
        ∙ expr.rolls-In (moved_expr x a) (moved_expr x b);
    abs = λ t e. ap (moved_expr x) (sym (expr.rolls-Abs t e)) ∙ rolled_expr x (layer.Abs t e)
        ∙ expr.rolls-Abs (moved_type x t) (moved_expr x e);
    cap = λ e. ap (moved_expr x) (sym (expr.rolls-Cap e)) ∙ rolled_expr x (layer.Cap e)
        ∙ expr.rolls-Cap (moved_expr x e);
    chr = λ e. ap (moved_expr x) (sym (expr.rolls-Chr e)) ∙ rolled_expr x (layer.Chr e)
        ∙ expr.rolls-Chr (moved_expr x e);
    odd = λ e. ap (moved_expr x) (sym (expr.rolls-Odd e)) ∙ rolled_expr x (layer.Odd e)
        ∙ expr.rolls-Odd (moved_expr x e);
    ord = λ e. ap (moved_expr x) (sym (expr.rolls-Ord e)) ∙ rolled_expr x (layer.Ord e)
        ∙ expr.rolls-Ord (moved_expr x e);
    val = λ t e. ap (moved_expr x) (sym (expr.rolls-Val t e)) ∙ rolled_expr x (layer.Val t e)
        ∙ expr.rolls-Val (moved_type x t) (moved_expr x e);
    high = λ s. ap (moved_expr x) (sym (expr.rolls-High s)) ∙ rolled_expr x (layer.High s) ∙ expr.rolls-High s;
    call = λ t c. ap (moved_expr x) (sym (expr.rolls-Call t c)) ∙ rolled_expr x (layer.Call t c)
        ∙ expr.rolls-Call (moved_type x t) (moved_call x c);
  }

  stmt_if : (e : TypedExpr) (body : List TypedStmt) (others : Option (List TypedStmt))
      → moved_stmt x (stmt.If e body others)
      ≡ stmt.If (moved_expr x e) (map (moved_stmt x) body) (option_map (map (moved_stmt x)) others)
  stmt_if e body None = ap (moved_stmt x) (sym (stmt.rolls-If e body None)) ∙ rolled_stmt x (step.If e body None)
      ∙ stmt.rolls-If (moved_expr x e) (map (moved_stmt x) body) None
  stmt_if e body (Some ys) = ap (moved_stmt x) (sym (stmt.rolls-If e body (Some ys)))
      ∙ rolled_stmt x (step.If e body (Some ys))
      ∙ stmt.rolls-If (moved_expr x e) (map (moved_stmt x) body) (Some (map (moved_stmt x) ys))

  stmt_case : (e : TypedExpr) (arms : List TypedArm) (others : Option (List TypedStmt))
      → moved_stmt x (stmt.Case e arms others)
      ≡ stmt.Case (moved_expr x e) (map (moved_arm x) arms) (option_map (map (moved_stmt x)) others)
  stmt_case e arms None = ap (moved_stmt x) (sym (stmt.rolls-Case e arms None)) ∙ rolled_stmt x (step.Case e arms None)
      ∙ stmt.rolls-Case (moved_expr x e) (map (moved_arm x) arms) None
  stmt_case e arms (Some ys) = ap (moved_stmt x) (sym (stmt.rolls-Case e arms (Some ys)))
      ∙ rolled_stmt x (step.Case e arms (Some ys))
      ∙ stmt.rolls-Case (moved_expr x e) (map (moved_arm x) arms) (Some (map (moved_stmt x) ys))

  stmt_by_parts : StatementsByParts x
  stmt_by_parts = record {
    assign = λ d t e. ap (moved_stmt x) (sym (stmt.rolls-Assign d t e)) ∙ rolled_stmt x (step.Assign d t e)
        ∙ stmt.rolls-Assign (moved_place x d) (moved_type x t) (moved_expr x e);
    copy = λ to from t. ap (moved_stmt x) (sym (stmt.rolls-Copy to from t)) ∙ rolled_stmt x (step.Copy to from t)
        ∙ stmt.rolls-Copy (moved_place x to) (moved_place x from) (moved_type x t);
    copy_text = λ d t text. ap (moved_stmt x) (sym (stmt.rolls-CopyText d t text))
        ∙ rolled_stmt x (step.CopyText d t text) ∙ stmt.rolls-CopyText (moved_place x d) (moved_type x t) text;
    call = λ c. ap (moved_stmt x) (sym (stmt.rolls-Call c)) ∙ rolled_stmt x (step.Call c)
        ∙ stmt.rolls-Call (moved_call x c);
    put = λ e. ap (moved_stmt x) (sym (stmt.rolls-Put e)) ∙ rolled_stmt x (step.Put e)
        ∙ stmt.rolls-Put (moved_expr x e);
    change = λ ch d t e. ap (moved_stmt x) (sym (stmt.rolls-Change ch d t e)) ∙ rolled_stmt x (step.Change ch d t e)
        ∙ stmt.rolls-Change ch (moved_place x d) (moved_type x t) (moved_expr x e);
    membership = λ mem d e. ap (moved_stmt x) (sym (stmt.rolls-Membership mem d e))
        ∙ rolled_stmt x (step.Membership mem d e) ∙ stmt.rolls-Membership mem (moved_place x d) (moved_expr x e);
    halt = ap (moved_stmt x) (sym stmt.rolls-Halt) ∙ rolled_stmt x step.Halt ∙ stmt.rolls-Halt;
    «if» = stmt_if;
    case = stmt_case;
    while = λ e body. ap (moved_stmt x) (sym (stmt.rolls-While e body)) ∙ rolled_stmt x (step.While e body)
        ∙ stmt.rolls-While (moved_expr x e) (map (moved_stmt x) body);
    repeat = λ body e. ap (moved_stmt x) (sym (stmt.rolls-Repeat body e)) ∙ rolled_stmt x (step.Repeat body e)
        ∙ stmt.rolls-Repeat (map (moved_stmt x) body) (moved_expr x e);
    loop = λ body. ap (moved_stmt x) (sym (stmt.rolls-Loop body)) ∙ rolled_stmt x (step.Loop body)
        ∙ stmt.rolls-Loop (map (moved_stmt x) body);
    exit = ap (moved_stmt x) (sym stmt.rolls-Exit) ∙ rolled_stmt x step.Exit ∙ stmt.rolls-Exit;
    return = ap (moved_stmt x) (sym stmt.rolls-Return) ∙ rolled_stmt x step.Return ∙ stmt.rolls-Return;
    give = λ t e. ap (moved_stmt x) (sym (stmt.rolls-Give t e)) ∙ rolled_stmt x (step.Give t e)
        ∙ stmt.rolls-Give (moved_type x t) (moved_expr x e);
    for = λ d t start limit by body. ap (moved_stmt x) (sym (stmt.rolls-For d t start limit by body))
        ∙ rolled_stmt x (step.For d t start limit by body)
        ∙ stmt.rolls-For (moved_place x d) (moved_type x t) (moved_expr x start) (moved_expr x limit) by
        (map (moved_stmt x) body);
    «with» = λ d body. ap (moved_stmt x) (sym (stmt.rolls-With d body)) ∙ rolled_stmt x (step.With d body)
        ∙ stmt.rolls-With (moved_place x d) (map (moved_stmt x) body);
  }

  placed : (d : Place) → moved_place x d ≡
      record { root = moved_root x d.root; components = map (moved_component x) d.components }
  placed d = rolled_place x (record { root = d.root; components = d.components })

  armed : (a : TypedArm) → moved_arm x a ≡ record { labels = a.labels; body = map (moved_stmt x) a.body }
  armed a = rolled_arm x (record { labels = a.labels; body = a.body })

pub moves_by_parts : (x : Exchange) → TreesByParts x
moves_by_parts x = record {
  arguments = argument_by_parts x;
  calls = call_by_parts x;
  components = component_by_parts x;
  links = link_by_parts x;
  expressions = expr_by_parts x;
  places = record {
    root = λ d. ap (λ (e : Place). e.root) (placed x d);
    components =
        λ d. ap (λ (e : Place). e.components) (placed x d);
  };
  statements = stmt_by_parts x;
  arms = record {
    labels = λ a. ap (λ (b : TypedArm). b.labels) (armed x a);
    body =
        λ a. ap (λ (b : TypedArm). b.body) (armed x a);
  };
}
