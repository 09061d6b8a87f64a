-- A tree under other numbers is a tree of the same form, whose types and parts have the other
-- numbers.
use Rattle.std.specs.Prelude.{◌≡◌, ℕ, ℤ, List, map, Option}
use Rattle.std.specs.Option.{option_map}
use Rattle.typed_tree.specs.declared.computed.Argument.{Argument}
use Rattle.typed_tree.specs.declared.computed.Argument.TheVariants as argument
use Rattle.typed_tree.specs.declared.computed.Arithmetic.{Arithmetic}
use Rattle.typed_tree.specs.declared.computed.Call.{Call}
use Rattle.typed_tree.specs.declared.computed.Call.TheVariants as call
use Rattle.typed_tree.specs.declared.computed.Comparison.{Comparison}
use Rattle.typed_tree.specs.declared.computed.Component.TheVariants as component
use Rattle.typed_tree.specs.declared.computed.Inclusion.{Inclusion}
use Rattle.typed_tree.specs.declared.computed.Link.{Link}
use Rattle.typed_tree.specs.declared.computed.Link.TheVariants as link
use Rattle.typed_tree.specs.declared.computed.LocalProcedure.{LocalProcedure}
use Rattle.typed_tree.specs.declared.computed.Place.{Place}
use Rattle.typed_tree.specs.declared.computed.SetOperator.{SetOperator}
use Rattle.typed_tree.specs.declared.computed.Slot.{Slot}
use Rattle.typed_tree.specs.declared.computed.TypedExpr.{TypedExpr}
use Rattle.typed_tree.specs.declared.computed.TypedExpr.TheVariants as expr
use Rattle.typed_tree.specs.declared.statement.Change.{Change}
use Rattle.typed_tree.specs.declared.statement.Membership.{Membership}
use Rattle.typed_tree.specs.declared.statement.TypedArm.{TypedArm}
use Rattle.typed_tree.specs.declared.statement.TypedStmt.{TypedStmt}
use Rattle.typed_tree.specs.declared.statement.TypedStmt.TheVariants as stmt
use Rattle.typed_tree.specs.declared.meaning.Procedure.{Procedure}
use Rattle.typed_tree.specs.declared.types.TypeNo.{TypeNo}
use Rattle.def_exchange.specs.Moved.{Exchange, moved_type, moved_procedure}
use Rattle.def_exchange.specs.MovedTrees.{moved_root, moved_called, moved_argument, moved_call, moved_component, moved_link, moved_expr, moved_place, moved_stmt, moved_arm}

pub record ArgumentsByParts (x : Exchange) : Type 0 where
  pub value : (t : TypeNo) (e : TypedExpr)
      → moved_argument x (argument.Value t e) ≡ argument.Value (moved_type x t) (moved_expr x e)
  pub place : (d : Place) → moved_argument x (argument.Place d) ≡ argument.Place (moved_place x d)
  pub array : (t : TypeNo) (d : Place)
      → moved_argument x (argument.Array t d) ≡ argument.Array (moved_type x t) (moved_place x d)
  pub «open» : (s : Slot) → moved_argument x (argument.Open s) ≡ argument.Open s
  pub text : (text : List ℕ) → moved_argument x (argument.Text text) ≡ argument.Text text

pub record CallsByParts (x : Exchange) : Type 0 where
  pub «module» : (p : Procedure) (args : List Argument)
      → moved_call x (call.Module p args)
      ≡ call.Module (moved_procedure x p) (map (moved_argument x) args)
  pub nested : (l : LocalProcedure) (args : List Argument)
      → moved_call x (call.Nested l args)
      ≡ call.Nested (moved_called x l) (map (moved_argument x) args)
  pub variable : (t : TypeNo) (d : Place) (args : List Argument)
      → moved_call x (call.Variable t d args)
      ≡ call.Variable (moved_type x t) (moved_place x d) (map (moved_argument x) args)

pub record ComponentsByParts (x : Exchange) : Type 0 where
  pub field : (t : TypeNo) (k : ℕ)
      → moved_component x (component.Field t k) ≡ component.Field (moved_type x t) k
  pub element : (t : TypeNo) (i : TypedExpr)
      → moved_component x (component.Element t i)
      ≡ component.Element (moved_type x t) (moved_expr x i)
  pub open_element : (s : Slot) (t : TypeNo) (i : TypedExpr)
      → moved_component x (component.OpenElement s t i)
      ≡ component.OpenElement s (moved_type x t) (moved_expr x i)

pub record LinksByParts (x : Exchange) : Type 0 where
  pub arithmetic : (o : Arithmetic) (t : TypeNo) (b : TypedExpr)
      → moved_link x (link.Arithmetic o t b) ≡ link.Arithmetic o (moved_type x t) (moved_expr x b)
  pub and : (b : TypedExpr) → moved_link x (link.And b) ≡ link.And (moved_expr x b)
  pub or : (b : TypedExpr) → moved_link x (link.Or b) ≡ link.Or (moved_expr x b)
  pub combine : (q : SetOperator) (b : TypedExpr)
      → moved_link x (link.Combine q b) ≡ link.Combine q (moved_expr x b)

pub record ExpressionsByParts (x : Exchange) : Type 0 where
  pub constant : (t : TypeNo) (n : ℤ)
      → moved_expr x (expr.Constant t n) ≡ expr.Constant (moved_type x t) n
  pub load : (t : TypeNo) (d : Place)
      → moved_expr x (expr.Load t d) ≡ expr.Load (moved_type x t) (moved_place x d)
  pub procedure : (p : Procedure)
      → moved_expr x (expr.Procedure p) ≡ expr.Procedure (moved_procedure x p)
  pub plus : (t : TypeNo) (e : TypedExpr)
      → moved_expr x (expr.Plus t e) ≡ expr.Plus (moved_type x t) (moved_expr x e)
  pub negate : (e : TypedExpr) → moved_expr x (expr.Negate e) ≡ expr.Negate (moved_expr x e)
  pub chain : (e : TypedExpr) (links : List Link)
      → moved_expr x (expr.Chain e links) ≡ expr.Chain (moved_expr x e) (map (moved_link x) links)
  pub compare : (cmp : Comparison) (a : TypedExpr) (b : TypedExpr)
      → moved_expr x (expr.Compare cmp a b) ≡ expr.Compare cmp (moved_expr x a) (moved_expr x b)
  pub not : (e : TypedExpr) → moved_expr x (expr.Not e) ≡ expr.Not (moved_expr x e)
  pub include : (inc : Inclusion) (a : TypedExpr) (b : TypedExpr)
      → moved_expr x (expr.Include inc a b) ≡ expr.Include inc (moved_expr x a) (moved_expr x b)
  pub «in» : (a : TypedExpr) (b : TypedExpr)
      → moved_expr x (expr.In a b) ≡ expr.In (moved_expr x a) (moved_expr x b)
  pub abs : (t : TypeNo) (e : TypedExpr)
      → moved_expr x (expr.Abs t e) ≡ expr.Abs (moved_type x t) (moved_expr x e)
  pub cap : (e : TypedExpr) → moved_expr x (expr.Cap e) ≡ expr.Cap (moved_expr x e)
  pub chr : (e : TypedExpr) → moved_expr x (expr.Chr e) ≡ expr.Chr (moved_expr x e)
  pub odd : (e : TypedExpr) → moved_expr x (expr.Odd e) ≡ expr.Odd (moved_expr x e)
  pub ord : (e : TypedExpr) → moved_expr x (expr.Ord e) ≡ expr.Ord (moved_expr x e)
  pub val : (t : TypeNo) (e : TypedExpr)
      → moved_expr x (expr.Val t e) ≡ expr.Val (moved_type x t) (moved_expr x e)
  pub high : (s : Slot) → moved_expr x (expr.High s) ≡ expr.High s
  pub call : (t : TypeNo) (c : Call)
      → moved_expr x (expr.Call t c) ≡ expr.Call (moved_type x t) (moved_call x c)

pub record StatementsByParts (x : Exchange) : Type 0 where
  pub assign : (d : Place) (t : TypeNo) (e : TypedExpr)
      → moved_stmt x (stmt.Assign d t e)
      ≡ stmt.Assign (moved_place x d) (moved_type x t) (moved_expr x e)
  pub copy : (to : Place) (from : Place) (t : TypeNo)
      → moved_stmt x (stmt.Copy to from t)
      ≡ stmt.Copy (moved_place x to) (moved_place x from) (moved_type x t)
  pub copy_text : (d : Place) (t : TypeNo) (text : List ℕ)
      → moved_stmt x (stmt.CopyText d t text)
      ≡ stmt.CopyText (moved_place x d) (moved_type x t) text
  pub call : (c : Call) → moved_stmt x (stmt.Call c) ≡ stmt.Call (moved_call x c)
  pub put : (e : TypedExpr) → moved_stmt x (stmt.Put e) ≡ stmt.Put (moved_expr x e)
  pub change : (ch : Change) (d : Place) (t : TypeNo) (e : TypedExpr)
      → moved_stmt x (stmt.Change ch d t e)
      ≡ stmt.Change ch (moved_place x d) (moved_type x t) (moved_expr x e)
  pub membership : (mem : Membership) (d : Place) (e : TypedExpr)
      → moved_stmt x (stmt.Membership mem d e)
      ≡ stmt.Membership mem (moved_place x d) (moved_expr x e)
  pub halt : moved_stmt x stmt.Halt ≡ stmt.Halt
  pub «if» : (e : TypedExpr) (body : List TypedStmt) (others : Option (List TypedStmt))
      → moved_stmt x (stmt.If e body others)
      ≡ stmt.If (moved_expr x e) (map (moved_stmt x) body) (option_map (map (moved_stmt x)) others)
  pub case : (e : TypedExpr) (arms : List TypedArm) (others : Option (List TypedStmt))
      → moved_stmt x (stmt.Case e arms others)
      ≡ stmt.Case (moved_expr x e) (map (moved_arm x) arms) (option_map (map (moved_stmt x)) others)
  pub while : (e : TypedExpr) (body : List TypedStmt)
      → moved_stmt x (stmt.While e body) ≡ stmt.While (moved_expr x e) (map (moved_stmt x) body)
  pub repeat : (body : List TypedStmt) (e : TypedExpr)
      → moved_stmt x (stmt.Repeat body e) ≡ stmt.Repeat (map (moved_stmt x) body) (moved_expr x e)
  pub loop : (body : List TypedStmt)
      → moved_stmt x (stmt.Loop body) ≡ stmt.Loop (map (moved_stmt x) body)
  pub exit : moved_stmt x stmt.Exit ≡ stmt.Exit
  pub return : moved_stmt x stmt.Return ≡ stmt.Return
  pub give : (t : TypeNo) (e : TypedExpr)
      → moved_stmt x (stmt.Give t e) ≡ stmt.Give (moved_type x t) (moved_expr x e)
  pub for : (d : Place) (t : TypeNo) (start : TypedExpr) (limit : TypedExpr) (by : ℤ)
      (body : List TypedStmt)
      → moved_stmt x (stmt.For d t start limit by body)
      ≡ stmt.For (moved_place x d) (moved_type x t) (moved_expr x start) (moved_expr x limit) by
      (map (moved_stmt x) body)
  pub «with» : (d : Place) (body : List TypedStmt)
      → moved_stmt x (stmt.With d body) ≡ stmt.With (moved_place x d) (map (moved_stmt x) body)

pub record PlacesByParts (x : Exchange) : Type 0 where
  pub root : (d : Place) → (moved_place x d).root ≡ moved_root x d.root
  pub components : (d : Place) → (moved_place x d).components ≡ map (moved_component x) d.components

pub record ArmsByParts (x : Exchange) : Type 0 where
  pub labels : (a : TypedArm) → (moved_arm x a).labels ≡ a.labels
  pub body : (a : TypedArm) → (moved_arm x a).body ≡ map (moved_stmt x) a.body

pub record TreesByParts (x : Exchange) : Type 0 where
  pub arguments : ArgumentsByParts x
  pub calls : CallsByParts x
  pub components : ComponentsByParts x
  pub links : LinksByParts x
  pub expressions : ExpressionsByParts x
  pub places : PlacesByParts x
  pub statements : StatementsByParts x
  pub arms : ArmsByParts x

-- of each exchange
abbrev pub MovesByParts : Type 0
MovesByParts = (x : Exchange) → TreesByParts x
