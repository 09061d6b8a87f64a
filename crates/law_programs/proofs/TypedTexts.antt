-- The texts of typed trees are bytes, where they stand among the characters of the module.
use Rattle.std.proofs.Common.{◌≡◌, ◌⊎◌, inl, inr, ℕ, zero, suc, ◌+◌, ◌<◌, ◌≤◌, Bool, List, [], ◌∷◌, length, get_or, Option, Some, None, sym, subst, arith}
use Rattle.std.specs.Prelude.{◌-◌}
use Rattle.typed_tree.specs.declared.computed.Argument.{Argument}
use Rattle.typed_tree.specs.declared.computed.Call.{Call}
use Rattle.typed_tree.specs.declared.computed.Component.{Component}
use Rattle.typed_tree.specs.declared.computed.Link.{Link}
use Rattle.typed_tree.specs.declared.computed.Place.{Place}
use Rattle.typed_tree.specs.declared.computed.TypedExpr.{TypedExpr}
use Rattle.typed_tree.specs.declared.statement.TypedArm.{TypedArm}
use Rattle.typed_tree.specs.declared.statement.TypedStmt.{TypedStmt}
use Rattle.typed_tree.specs.declared.types.TypeNo.{TypeNo}
use Rattle.layout_storage.specs.Texts.{argument_text}
use Rattle.layout_storage.specs.Types.{Ty, Cell, Callable, Heading}
use Rattle.layout_storage.specs.Shapes.{tree}
use Rattle.law_simulation.specs.Passing.{Form, Forms, Result, forms_of}
use Rattle.law_simulation.specs.TreesTyped.{Context, HasText}
use Rattle.law_simulation.specs.TreesTyped as typed
use Rattle.law_simulation.specs.StmtsTyped as stmts

-- a number is below another, or not
side : (j b : ℕ) → (j < b) ⊎ (b ≤ j)
side j zero = inr (omega arith)
side zero (suc b) = inl (omega arith)
side (suc j) (suc b) = elim (side j b) [
  | inl l ↦ inl (omega (arith, l))
  | inr l ↦ inr (omega (arith, l))
]

module _ (x : Context) where
  -- the characters from one offset to another are bytes
  abbrev pub AreSmall : (from to : ℕ) → Type 0
  AreSmall from to = (j : ℕ) → from ≤ j → j < to → get_or x.characters j 0 < 256

  nothing_there : (a : ℕ) → AreSmall a a
  nothing_there a j l m = omega (arith, l, m)

  both_small : (a b c : ℕ) → AreSmall a b → AreSmall b c → AreSmall a c
  both_small a b c first second j l m = elim (side j b) [
    | inl k ↦ first j l k
    | inr k ↦ second j k m
  ]

  text_small : (a : ℕ) (text : List ℕ) → HasText x a text → AreSmall a (a + length text)
  text_small a text t j l m =
      let k : ℕ = j - a in
      let at : a + k ≡ j = omega (arith, l) in
      subst (λ (n : ℕ). get_or x.characters n 0 < 256) at
      (subst (λ (c : ℕ). c < 256) (sym (t.same k (omega (arith, l, m)))) (t.small k))

  -- ---- expressions, designators, calls and arguments

  mutual
    pub expr_small : (ws : List Ty) (a b : ℕ) (e : TypedExpr) (t : TypeNo) → typed.IsExpr x ws a b e t → AreSmall a b
    expr_small ws _ _ _ _ (typed.Constant a t n is) = nothing_there a
    expr_small ws _ _ _ _ (typed.Load a b t c d cell h) = place_small ws a b d (Cell c) h
    expr_small ws _ _ _ _ (typed.ProcedureValue a b t h e is of none) = routine_small ws a b e h is
    expr_small ws _ _ _ _ (typed.Plus a b t u e h g) = expr_small ws a b e u h
    expr_small ws _ _ _ _ (typed.Negate a b u e h) = expr_small ws a b e u h
    expr_small ws _ _ _ _ (typed.Chain a b c u t e ls h hs) =
        both_small a b c (expr_small ws a b e u h) (links_small ws b c u ls t hs)
    expr_small ws _ _ _ _ (typed.Compare a b c u v o e f h g) =
        both_small a b c (expr_small ws a b e u h) (expr_small ws b c f v g)
    expr_small ws _ _ _ _ (typed.Not a b u e h g) = expr_small ws a b e u h
    expr_small ws _ _ _ _ (typed.Include a b c u v o e f h i g j) =
        both_small a b c (expr_small ws a b e u h) (expr_small ws b c f v g)
    expr_small ws _ _ _ _ (typed.In a b c u v e f h g j) =
        both_small a b c (expr_small ws a b e u h) (expr_small ws b c f v g)
    expr_small ws _ _ _ _ (typed.Abs a b t u e h i j ranged) = expr_small ws a b e u h
    expr_small ws _ _ _ _ (typed.Cap a b u e h i) = expr_small ws a b e u h
    expr_small ws _ _ _ _ (typed.Chr a b u e h) = expr_small ws a b e u h
    expr_small ws _ _ _ _ (typed.Odd a b u e h) = expr_small ws a b e u h
    expr_small ws _ _ _ _ (typed.Ord a b u e h i j) = expr_small ws a b e u h
    expr_small ws _ _ _ _ (typed.Val a b t u e h i) = expr_small ws a b e u h
    expr_small ws _ _ _ _ (typed.High a slot t there) = nothing_there a
    expr_small ws _ _ _ _ (typed.FunctionCall a b t r c h cell) = call_small ws a b c (Some (tree x.home.types t)) h

    pub routine_small : (ws : List Ty) (a b : ℕ) (e : TypedExpr) (h : Heading) → typed.IsProcedureExpr x ws a b e h
        → AreSmall a b
    routine_small ws _ _ _ _ (typed.LoadedProcedure a b t h d type g) = place_small ws a b d (Cell (Callable h)) g
    routine_small ws _ _ _ _ (typed.NamedProcedure a f h known is) = nothing_there a
    routine_small ws _ _ _ _ (typed.GivenProcedure a b t h c g) = call_small ws a b c (Some (Cell (Callable h))) g

    links_small : (ws : List Ty) (a b : ℕ) (t : TypeNo) (ls : List Link) (u : TypeNo) → typed.AreLinks x ws a b t ls u
        → AreSmall a b
    links_small ws _ _ _ _ _ (typed.no_links a t) = nothing_there a
    links_small ws _ _ _ _ _ (typed.more_links a b c t u v l ls h hs) =
        both_small a b c (link_small ws a b t l u h) (links_small ws b c u ls v hs)

    link_small : (ws : List Ty) (a b : ℕ) (t : TypeNo) (l : Link) (u : TypeNo) → typed.IsLink x ws a b t l u
        → AreSmall a b
    link_small ws _ _ _ _ _ (typed.Sum a b t u w e h i) = expr_small ws a b e u h
    link_small ws _ _ _ _ _ (typed.Difference a b t u w e h i) = expr_small ws a b e u h
    link_small ws _ _ _ _ _ (typed.Product a b t u w e h i) = expr_small ws a b e u h
    link_small ws _ _ _ _ _ (typed.Quotient a b t u w e h i j) = expr_small ws a b e u h
    link_small ws _ _ _ _ _ (typed.Remainder a b t u w e h i j) = expr_small ws a b e u h
    link_small ws _ _ _ _ _ (typed.And a b t u e h i j) = expr_small ws a b e u h
    link_small ws _ _ _ _ _ (typed.Or a b t u e h i j) = expr_small ws a b e u h
    link_small ws _ _ _ _ _ (typed.Combine a b t u o e h i j) = expr_small ws a b e u h

    pub place_small : (ws : List Ty) (a b : ℕ) (d : Place) (t : Ty) → typed.IsPlace x ws a b d t → AreSmall a b
    place_small ws _ _ _ _ (typed.Designator a b d t u r hs) = components_small ws a b t d.components u hs
    place_small ws _ _ _ _ (typed.OfOpen a b c d slot t u v w i cs r there ks h hs) =
        both_small a b c (expr_small ws a b i w h) (components_small ws b c (tree x.home.types t) cs v hs)

    components_small : (ws : List Ty) (a b : ℕ) (t : Ty) (ks : List Component) (u : Ty)
        → typed.AreComponents x ws a b t ks u → AreSmall a b
    components_small ws _ _ _ _ _ (typed.no_components a t) = nothing_there a
    components_small ws _ _ _ _ _ (typed.more_components a b c t u v k ks h hs) =
        both_small a b c (component_small ws a b t k u h) (components_small ws b c u ks v hs)

    component_small : (ws : List Ty) (a b : ℕ) (t : Ty) (k : Component) (u : Ty) → typed.IsComponent x ws a b t k u
        → AreSmall a b
    component_small ws _ _ _ _ _ (typed.FieldOf a t j u there) = nothing_there a
    component_small ws _ _ _ _ _ (typed.ElementOf a b t w r u i range array h) = expr_small ws a b i w h

    pub call_small : (ws : List Ty) (a b : ℕ) (c : Call) (r : Result) → typed.IsCall x ws a b c r → AreSmall a b
    call_small ws _ _ _ _ (typed.OfModule a b f args known hs) =
        arguments_small ws a b args (forms_of x.home.types f.heading) hs
    call_small ws _ _ _ _ (typed.OfProcedure a b f args less hs) =
        arguments_small ws a b args (forms_of x.home.types f.heading) hs
    call_small ws _ _ _ _ (typed.OfVariable a b c t h d args is type g signed hs) =
        both_small a b c (place_small ws a b d (Cell (Callable h)) g)
        (arguments_small ws b c args (forms_of x.home.types t) hs)

    arguments_small : (ws : List Ty) (a b : ℕ) (args : List Argument) (fs : Forms) → typed.AreArguments x ws a b args fs
        → AreSmall a b
    arguments_small ws _ _ _ _ (typed.no_arguments a) = nothing_there a
    arguments_small ws _ _ _ _ (typed.more_arguments a b c g gs f fs h hs) =
        both_small a b c (argument_small ws a b g f h) (arguments_small ws b c gs fs hs)

    argument_small : (ws : List Ty) (a b : ℕ) (g : Argument) (f : Form) → typed.IsArgument x ws a b g f → AreSmall a b
    argument_small ws _ _ _ _ (typed.Value a b t u c e h cell is) = expr_small ws a b e u h
    argument_small ws _ _ _ _ (typed.ProcedureActual a b t h e g none type) = routine_small ws a b e h g
    argument_small ws _ _ _ _ (typed.ActualName a b d t h) = place_small ws a b d t h
    argument_small ws _ _ _ _ (typed.ActualCopy a b d t h) = place_small ws a b d t h
    argument_small ws _ _ _ _ (typed.ActualArray a b t r u is_var d range narrow array h) =
        place_small ws a b d (tree x.home.types t) h
    argument_small ws _ _ _ _ (typed.ActualOpen a slot is_var u there) = nothing_there a
    argument_small ws _ _ _ _ (typed.ActualText a text has below) = text_small a (argument_text text) has

  -- ---- statements

  module _ (result : Result) where
    given_small : (ws : List Ty) (a b : ℕ) (e : TypedExpr) (t : TypeNo) → stmts.IsGiven x result ws a b e t
        → AreSmall a b
    given_small ws a b e t g = expr_small ws a b e g.of g.is

    test_small : (ws : List Ty) (a b : ℕ) (e : TypedExpr) → stmts.IsTest x result ws a b e → AreSmall a b
    test_small ws a b e g = expr_small ws a b e g.of g.is

    mutual
      stmt_small : (ws : List Ty) (l : Bool) (a b : ℕ) (s : TypedStmt) → stmts.IsStmt x result ws l a b s → AreSmall a b
      stmt_small _ _ _ _ _ (stmts.Assign ws l a b c d t r e cell h g) =
          both_small a b c (place_small ws a b d (Cell r) h) (given_small ws b c e t g)
      stmt_small _ _ _ _ _ (stmts.AssignProcedure ws l a b c d t h e type none p q) =
          both_small a b c (place_small ws a b d (Cell (Callable h)) p) (routine_small ws b c e h q)
      stmt_small _ _ _ _ _ (stmts.Copy ws l a b c d e t plain p q) =
          both_small a b c (place_small ws a b d (tree x.home.types t) p) (place_small ws b c e (tree x.home.types t) q)
      stmt_small _ _ _ _ _ (stmts.CopyText ws l a b n d t text array less has p) =
          both_small a b (b + length text) (place_small ws a b d (tree x.home.types t) p) (text_small b text has)
      stmt_small _ _ _ _ _ (stmts.ProcedureCall ws l a b c h) = call_small ws a b c None h
      stmt_small _ _ _ _ _ (stmts.Put ws l a b e g) = given_small ws a b e _ g
      stmt_small _ _ _ _ _ (stmts.Changed ws l a b c o d t u r e cell ranged based p h) =
          both_small a b c (place_small ws a b d (Cell r) p) (expr_small ws b c e u h)
      stmt_small _ _ _ _ _ (stmts.Member ws l a b c o d u r e cell p h) =
          both_small a b c (place_small ws a b d (Cell r) p) (expr_small ws b c e u h)
      stmt_small _ _ _ _ _ (stmts.Halt ws l a) = nothing_there a
      stmt_small _ _ _ _ _ (stmts.If ws l a b c e body h hs) =
          both_small a b c (test_small ws a b e h) (stmts_small ws l b c body hs)
      stmt_small _ _ _ _ _ (stmts.IfElse ws l a b c z e body others h hs ks) =
          both_small a c z (both_small a b c (test_small ws a b e h) (stmts_small ws l b c body hs))
          (stmts_small ws l c z others ks)
      stmt_small _ _ _ _ _ (stmts.Case ws l a b c u e arms h hs) =
          both_small a b c (expr_small ws a b e u h) (arms_small ws l b c arms hs)
      stmt_small _ _ _ _ _ (stmts.CaseElse ws l a b c z u e arms others h hs ks) =
          both_small a c z (both_small a b c (expr_small ws a b e u h) (arms_small ws l b c arms hs))
          (stmts_small ws l c z others ks)
      stmt_small _ _ _ _ _ (stmts.While ws l a b c e body h hs) =
          both_small a b c (test_small ws a b e h) (stmts_small ws l b c body hs)
      stmt_small _ _ _ _ _ (stmts.Repeat ws l a b c body e hs h) =
          both_small a b c (stmts_small ws l a b body hs) (test_small ws b c e h)
      stmt_small _ _ _ _ _ (stmts.Loop ws l a b body hs) = stmts_small ws _ a b body hs
      stmt_small _ _ _ _ _ (stmts.Exit ws a) = nothing_there a
      stmt_small _ _ _ _ _ (stmts.Return ws l a none) = nothing_there a
      stmt_small _ _ _ _ _ (stmts.Give ws l a b t r e is cell g) = given_small ws a b e t g
      stmt_small _ _ _ _ _ (stmts.GiveProcedure ws l a b t h e is none g type) = routine_small ws a b e h g
      stmt_small _ _ _ _ _ (stmts.For ws l a b c z d t u r start limit by body cell ranged control low high g h hs) =
          both_small a c z (both_small a b c (given_small ws a b start t g) (expr_small ws b c limit u h))
          (stmts_small ws l c z body hs)
      stmt_small _ _ _ _ _ (stmts.With ws l a b c t d body p hs) =
          both_small a b c (place_small ws a b d t p) (stmts_small _ l b c body hs)

      pub stmts_small : (ws : List Ty) (l : Bool) (a b : ℕ) (ss : List TypedStmt) → stmts.AreStmts x result ws l a b ss
          → AreSmall a b
      stmts_small _ _ _ _ _ (stmts.no_stmts ws l a) = nothing_there a
      stmts_small _ _ _ _ _ (stmts.more_stmts ws l a b c s ss h hs) =
          both_small a b c (stmt_small ws l a b s h) (stmts_small ws l b c ss hs)

      arms_small : (ws : List Ty) (l : Bool) (a b : ℕ) (ms : List TypedArm) → stmts.AreArms x result ws l a b ms
          → AreSmall a b
      arms_small _ _ _ _ _ (stmts.no_arms ws l a) = nothing_there a
      arms_small _ _ _ _ _ (stmts.more_arms ws l a b c m ms labels h hs) =
          both_small a b c (stmts_small ws l a b m.body h) (arms_small ws l b c ms hs)
