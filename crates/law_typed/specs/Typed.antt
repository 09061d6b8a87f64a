-- That what is answered is the one typed tree that the rules give.
use Rattle.std.specs.Prelude.{◌≡◌, ℕ, List, map, length, Option, Some, None, Ok, slice_get}
use Rattle.m2_rule.specs.declared.rule.Rule.{Rule}
use Rattle.m2_tree.specs.declared.pos.Pos.{Pos}
use Rattle.m2_tree.specs.declared.name.Ident.{Ident}
use Rattle.m2_tree.specs.declared.expr.Expr.{Expr, out-Expr}
use Rattle.m2_tree.specs.declared.expr.Designator.{Designator}
use Rattle.m2_tree.specs.declared.stmt.Stmt.{Stmt}
use Rattle.typed_tree.specs.declared.types.TypeNo.{TypeNo}
use Rattle.typed_tree.specs.declared.computed.Argument.{Argument}
use Rattle.typed_tree.specs.declared.computed.TypedExpr.{TypedExpr}
use Rattle.typed_tree.specs.declared.computed.TypedExpr.TheVariants as expr
use Rattle.typed_tree.specs.declared.meaning.Meaning.{Meaning}
use Rattle.typed_tree.specs.declared.shape.Formal.{Formal}
use Rattle.typed_tree.specs.declared.statement.TypedStmt.{TypedStmt}
pub use Rattle.law_typed.specs.One.{IsOne}
use Rattle.check_scope.specs.declared.scope.Scope.{Scope}
use Rattle.check_scope.specs.Elaborated.{Gathers, ◌▷◌}
use Rattle.check_scope.specs.Scopes.{looked_up}
use Rattle.check_const.specs.Denote.{exported_by}
use Rattle.check_value.specs.declared.computed.Computed.{Computed}
use Rattle.check_value.specs.declared.computed.Computed.TheVariants as computed
use Rattle.check_value.specs.declared.computed.Designated.{Designated}
use Rattle.check_value.specs.declared.computed.Designated.TheVariants as designated
use Rattle.check_value.specs.Suits.{value_suited}
use Rattle.check_expr.specs.Meanings.{meanings_of, head, value_of, actuals}
use Rattle.check_stmt_parts.specs.declared.around.Around.{Around}
use Rattle.check_stmt.specs.Statements.{stmt}
use Rattle.def_typing.specs.Things.{Standing}
use Rattle.law_typing.specs.Judging.{Judges}
use Rattle.law_typing.specs.Exact.{Knows, KnowsSpot}
use Rattle.def_typed.specs.Named.{Named, Variable, OpenArray, Procedure, Nested, Module, named, named_by, Senses}
use Rattle.def_typed.specs.Expressions.{Names, Designates, Computes, Gives, ArePassed}
use Rattle.def_typed.specs.Statements.{Site, MeansStatement}

-- ---- the code of what is elaborated

abbrev pub code_of : Computed → Option TypedExpr
code_of (computed.Constant v) = None
code_of (computed.Scalar t base e) = Some e
code_of (computed.Set e) = Some e
code_of (computed.Routine t e) = Some e
code_of (computed.Procedure p) = Some (expr.Procedure p)
code_of (computed.Whole t d) = None
code_of computed.Untaken = None

abbrev pub named_of : Designated → Option Named
named_of (designated.Value v) = None
named_of (designated.Variable t d) = Some (Variable t d)
named_of (designated.Open t slot) = Some (OpenArray t slot)
named_of (designated.Type t) = None
named_of (designated.Procedure p) = Some (Procedure p)
named_of (designated.Nested p) = Some (Nested p)
named_of (designated.Standard f) = None
named_of (designated.Module k) = Some (Module k)

-- It names this, and nothing else.
pub record IsNamed (P : Named → Type 0) (d : Designated) : Type 0 where
  pub holds : (n : Named) → named_of d ≡ Some n → P n
  pub alone : (n : Named) → P n → named_of d ≡ Some n

-- ---- what is known of names

-- what names mean in a scope, and what the tables export
pub record Grasps (g : Gathers) (senses : Senses) (s : Scope g.Reported) : Type 0 where
  pub of_level : senses.level ≡ s.level
  pub of_names : (name : Ident) (m : Meaning) → looked_up g s name ≡ Ok m
      → named s.level (senses.of_names name) ≡ named_by s.level m
  pub of_exports : (k : ℕ) (name : Ident) (m : Meaning)
      → exported_by name.name (slice_get s.tables k) ≡ Some m
      → named s.level (senses.of_exports k name) ≡ named_by s.level m

-- ---- laws

module _ (g : Gathers) (j : Judges g) where
  -- A designator that is answered names what the rules say.
  abbrev pub DesignatorsAreNamed : Type 0
  DesignatorsAreNamed =
      (names : Ident → Standing) (exports : ℕ → Ident → Standing) (senses : Senses)
      (s : Scope g.Reported)
      → Knows g j names exports s → Grasps g senses s → (d : Designator) (x : Designated)
      → (head g d).means s ≡ Ok x → IsNamed (Names s.types names exports senses d) x

  -- So does an expression that is a designator.
  abbrev pub ExpressionsAreNamed : Type 0
  ExpressionsAreNamed =
      (names : Ident → Standing) (exports : ℕ → Ident → Standing) (senses : Senses)
      (s : Scope g.Reported)
      → Knows g j names exports s → Grasps g senses s → (e : Expr) (x : Designated)
      → (meanings_of g e).means s ≡ Ok x → IsNamed (Designates s.types names exports senses e) x

  -- An expression that is answered with code is computed by it, and by nothing else.
  abbrev pub ExpressionsAreComputed : Type 0
  ExpressionsAreComputed =
      (names : Ident → Standing) (exports : ℕ → Ident → Standing) (senses : Senses)
      (s : Scope g.Reported)
      → Knows g j names exports s → Grasps g senses s → (e : Expr) (v : Computed) (x : TypedExpr)
      → value_of g s (meanings_of g e) ≡ Ok v → code_of v ≡ Some x
      → IsOne (Computes s.types names exports senses (out-Expr e)) x

  -- The same at a place that asks for a type.
  abbrev pub ValuesAreGiven : Type 0
  ValuesAreGiven =
      (names : Ident → Standing) (exports : ℕ → Ident → Standing) (senses : Senses)
      (s : Scope g.Reported)
      → Knows g j names exports s → Grasps g senses s
      → (broken : Rule) (t : TypeNo) (at : Pos) (e : Expr) (x : TypedExpr)
      → value_of g s (meanings_of g e) ▷ value_suited g broken s.types t at ≡ Ok x
      → IsOne (Gives s.types names exports senses t e) x

  -- The same of arguments for formals.
  abbrev pub ArgumentsArePassed : Type 0
  ArgumentsArePassed =
      (names : Ident → Standing) (exports : ℕ → Ident → Standing) (senses : Senses)
      (s : Scope g.Reported)
      → Knows g j names exports s → Grasps g senses s
      → (formals : List Formal) (args : List Expr) (xs : List Argument)
      → length formals ≡ length args → actuals g s formals (map (meanings_of g) args) ≡ Ok xs
      → IsOne (ArePassed s.types names exports senses formals args) xs

  -- what is known of the site at which a statement stands
  pub record KnowsSite (exports : ℕ → Ident → Standing) (w : Site) (s : Scope g.Reported)
      (a : Around g.Reported) : Type 0 where
    pub of_spot : KnowsSpot g j exports w.spot s a
    pub of_senses : Grasps g w.senses s
    pub of_withs : w.withs ≡ length s.withs

  -- A statement that is answered means what is answered, and nothing else.
  abbrev pub StatementsAreMeant : Type 0
  StatementsAreMeant =
      (exports : ℕ → Ident → Standing) (w : Site) (s : Scope g.Reported) (a : Around g.Reported)
      → KnowsSite exports w s a → (x : Stmt) (y : TypedStmt) → stmt g x s a ≡ Ok y
      → IsOne (MeansStatement s.types exports w x) y
