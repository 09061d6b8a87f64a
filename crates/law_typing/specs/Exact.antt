-- What is elaborated, and what it stands for.
use Rattle.std.specs.Prelude.{◌≡◌, ◌⊎◌, ◌&&◌, ◌==◌, Bool, true, false, not, ℕ, List, [], length, Option, Some, None, Result, Ok, Err, map}
use Rattle.std.specs.List.{fold}
use Rattle.std.specs.Option.{option_map}
use Rattle.m2_rule.specs.declared.rule.Rule.TheVariants as rule
use Rattle.m2_tree.specs.declared.pos.Pos.{Pos}
use Rattle.m2_tree.specs.declared.name.Ident.{Ident}
use Rattle.m2_tree.specs.declared.expr.Expr.{Expr}
use Rattle.m2_tree.specs.declared.expr.Designator.{Designator}
use Rattle.m2_tree.specs.declared.stmt.Stmt.{Stmt}
use Rattle.m2_tree.specs.declared.decl.Decl.{Decl}
use Rattle.typed_tree.specs.declared.types.TypeNo.{TypeNo}
use Rattle.typed_tree.specs.declared.computed.TypedExpr.{TypedExpr}
use Rattle.typed_tree.specs.declared.computed.LocalProcedure.{LocalProcedure}
use Rattle.typed_tree.specs.declared.computed.Place.{Place}
use Rattle.typed_tree.specs.declared.computed.Slot.{Slot}
use Rattle.typed_tree.specs.declared.meaning.Value.{Value as ConstantValue}
use Rattle.typed_tree.specs.declared.meaning.Meaning.{Meaning}
use Rattle.typed_tree.specs.declared.meaning.Meaning.TheVariants as meaning
use Rattle.typed_tree.specs.declared.meaning.Procedure.{Procedure as ModuleProcedure}
use Rattle.typed_tree.specs.declared.meaning.Standard.{Standard}
use Rattle.m2_rule.specs.declared.breach.Breach.{Breach}
use Rattle.check_scope.specs.declared.meaningless.Meaningless.{Meaningless}
use Rattle.check_scope.specs.declared.known.Known.{Known as KnownName}
use Rattle.check_scope.specs.declared.known.Known.TheVariants.{Declared, Headed}
use Rattle.check_scope.specs.declared.known.Origin.{Origin}
use Rattle.check_scope.specs.declared.known.Origin.TheVariants.{Here}
use Rattle.check_scope.specs.declared.scope.Scope.{Scope}
use Rattle.check_scope.specs.Elaborated.{Gathers, ◌▷◌}
use Rattle.check_scope.specs.Scopes.{looked_up}
use Rattle.check_value.specs.declared.computed.Computed.{Computed}
use Rattle.check_value.specs.declared.computed.Computed.TheVariants as computed
use Rattle.check_value.specs.declared.computed.Designated.{Designated}
use Rattle.check_value.specs.declared.computed.Designated.TheVariants as designated
use Rattle.check_const.specs.Parts.{constant}
use Rattle.check_value.specs.Suits.{value_suited}
use Rattle.check_value.specs.Effects.{target_at, assignment_of}
use Rattle.typed_tree.specs.declared.statement.TypedStmt.{TypedStmt}
use Rattle.typed_tree.specs.Types.{boolean}
use Rattle.def_typing.specs.Constants.{AConstant, Fixes}
use Rattle.check_expr.specs.Effects.{call_statement}
use Rattle.def_typing.specs.Actions.{IsAction, BrokenAction}
use Rattle.def_typing.specs.Assignments.{Assigns, BrokenAssignment, IsCondition, BrokenCondition}
use Rattle.check_stmt_parts.specs.declared.around.Around.{Around}
use Rattle.check_stmt_parts.specs.Simple.{meant_if, exit_statement, return_statement, case_selector}
use Rattle.def_typing.specs.Returns.{Giving, Nothing, AResult, AnyResult, Returns, BrokenReturn, IsExit, BrokenExit}
use Rattle.check_stmt_parts.specs.declared.control.Course.{Course}
use Rattle.check_stmt_parts.specs.Control.{is_own, course_of}
use Rattle.def_typing.specs.Cases.{IsSelector, BrokenSelector, Number, IsLabelBound, BrokenLabelBound}
use Rattle.check_stmt_parts.specs.Labels.{bound_of}
use Rattle.check_const.specs.declared.operand.Ordinal.{Ordinal}
use Rattle.def_typing.specs.Loops.{Runs, BrokenRun}
use Rattle.m2_tree.specs.declared.expr.Qualified.{Qualified}
use Rattle.check_type_expr.specs.Named.{named_type}
use Rattle.def_typing.specs.TypeNames.{NamesType, BrokenTypeName}
use Rattle.typed_tree.specs.declared.shape.Scalar.{Scalar as Range}
use Rattle.check_type_expr.specs.Made.{subrange}
use Rattle.def_typing.specs.Subranges.{IsSubrange, BrokenSubrange}
use Rattle.m2_tree.specs.declared.decl.Heading.{Heading}
use Rattle.typed_tree.specs.declared.shape.Made.{Made}
use Rattle.typed_tree.specs.declared.shape.Signature.{Signature}
use Rattle.check_type_expr.specs.Headings.{heading_of}
use Rattle.def_typing.specs.Headings.{procedure_made, IsHeading, BrokenHeading}
use Rattle.typed_tree.specs.Names.{find_name}
use Rattle.check_block.specs.Naming.{marked_decl, all_marked}
use Rattle.check_block.specs.Declarations.{with_decl, declared_block, reported_of_lack}
use Rattle.check_block.specs.Headings.{standing_from}
use Rattle.check_block.specs.declared.heading.Standing.TheVariants as heading
use Rattle.def_typing.specs.Declarations.{AnyDeclares, Declared as Resolved, declarations_of, in_order, IsHeaded, types_behind, AllStand, IsOwn, AllAdded, Lacks, BrokenIn}
use Rattle.def_typing.specs.Again.{BrokenAgain}
use Rattle.check_stmt.specs.Statements.{stmt}
use Rattle.def_typing.specs.Statements.{Spot, Obeys, Broken}
use Rattle.check_expr.specs.Meanings.{meanings_of, head, part, value_of}
use Rattle.def_typing.specs.Amounts.{Value}
use Rattle.def_typing.specs.Operators.{Kind, Scalar, Set, Routine, Procedure, Whole, Untaken}
use Rattle.def_typing.specs.Things.{Thing, AValue, AVariable, AnOpenArray, AType, AProcedure, ANested, AStandard, AModule, Standing}
use Rattle.def_typing.specs.Expressions.{Has, BrokenAsValue, BrokenAsConstant}
pub use Rattle.law_typing.specs.Known.{kind_of, of_local, standing, Sees, sees, sees_nothing, sees_headless, sees_unknown, Repeats, of_heading, of_declaration, Exports, has_exported, has_nothing, Knows, AreOnce, no_names, one_name}
use Rattle.law_typing.specs.Judging.{Judges, Answers, Reports}
use Rattle.law_typing.specs.Again.{ReadsAgain}

-- ---- what is elaborated

-- the code that is made of an expression has no part in what it has
pub data IsKind : Computed → Kind → Type 0 where
  kind_constant : (v : ConstantValue) → IsKind (computed.Constant v) (kind_of v)
  kind_scalar : (t base : TypeNo) (e : TypedExpr)
      → IsKind (computed.Scalar t base e) (Scalar (Value base))
  kind_set : (e : TypedExpr) → IsKind (computed.Set e) (Set None)
  kind_routine : (t : TypeNo) (e : TypedExpr) → IsKind (computed.Routine t e) (Routine t)
  kind_procedure : (p : ModuleProcedure) → IsKind (computed.Procedure p) (Procedure p.heading)
  kind_whole : (t : TypeNo) (d : Place) → IsKind (computed.Whole t d) (Whole t)
  kind_untaken : IsKind computed.Untaken Untaken

-- a constant
pub data IsConst : ConstantValue → Kind → Type 0 where
  is_const : (v : ConstantValue) → IsConst v (kind_of v)

pub data IsThing : Designated → Thing → Type 0 where
  thing_value : {v : Computed} {k : Kind} → IsKind v k → IsThing (designated.Value v) (AValue k)
  thing_variable : (t : TypeNo) (d : Place) → IsThing (designated.Variable t d) (AVariable t)
  thing_open : (t : TypeNo) (s : Slot) → IsThing (designated.Open t s) (AnOpenArray t)
  thing_type : (t : TypeNo) → IsThing (designated.Type t) (AType t)
  thing_procedure : (p : ModuleProcedure) → IsThing (designated.Procedure p) (AProcedure p.heading)
  thing_nested : (p : LocalProcedure) → IsThing (designated.Nested p) (ANested p.heading)
  thing_standard : (f : Standard) → IsThing (designated.Standard f) (AStandard f)
  thing_module : (k : ℕ) → IsThing (designated.Module k) (AModule k)

-- ---- what is known of names

-- the variables that the module declares, or the procedure itself
abbrev pub is_own_variable : {T : Type 0} → Scope T → Meaning → Bool
is_own_variable s (meaning.Variable v) = v.home == s.types.home
is_own_variable s (meaning.Local v) = is_own v.kind && (v.level == s.level)
is_own_variable s other = false

module _ (g : Gathers) (j : Judges g) where
  -- whether a name is taken before a block begins, and the type of the procedure of the definition
  -- that awaits its heading
  pub data TakenAs : Bool → Option TypeNo → Option (KnownName g.Reported) → Type 0 where
    is_taken : {o : Origin} {m : Result Meaning g.Reported} → standing_from o m ≡ heading.Taken
        → TakenAs true None (Some (Declared o m))
    awaits : (p : ModuleProcedure)
        → TakenAs true (Some p.heading) (Some (Declared Here (Ok (meaning.Procedure p))))
    -- a procedure in a definition, for the declarations behind it
    is_a_heading : {m : Result Meaning (Meaningless g.Reported)}
        → TakenAs true None (Some (Headed m))
    not_taken : TakenAs false None None

  -- what is known of the result of the body that a statement stands in
  pub data KnowsResult : Giving → Option (Result TypeNo g.Reported) → Type 0 where
    knows_nothing : KnowsResult Nothing None
    knows_type : (t : TypeNo) → KnowsResult (AResult t) (Some (Ok t))
    knows_broken : (r : g.Reported) → KnowsResult AnyResult (Some (Err r))

  -- what RETURN repeats of the heading
  pub data InResult (f : Breach) : Option (Result TypeNo g.Reported) → Type 0 where
    in_result : {r : g.Reported} → j.Among r f → InResult f (Some (Err r))

  abbrev pub RepeatsResult : (names : Ident → Standing) → Scope g.Reported
      → Option (Result TypeNo g.Reported) → Breach → Type 0
  RepeatsResult names s result f = Repeats g j names s f ⊎ InResult f result

  abbrev pub KnowsOwn : (Ident → Bool) → Scope g.Reported → Type 0
  KnowsOwn own s =
      (name : Ident) (m : Meaning) → looked_up g s name ≡ Ok m → own name ≡ is_own_variable s m

  -- An expression of a body that is taken as a value is answered exactly.
  abbrev pub IsExact : (names : Ident → Standing) → (exports : ℕ → Ident → Standing)
      → Scope g.Reported → Expr → Type 0
  IsExact names exports s e =
      Answers g j (Repeats g j names s) IsKind (Has s.types names exports e)
      (BrokenAsValue s.types names exports e) (value_of g s (meanings_of g e))

-- ---- declarations

-- in a procedure
abbrev pub is_nested : {T : Type 0} → Scope T → Bool
is_nested s = not (s.level == 0)

-- what is known of the spot at which a statement stands
pub record KnowsSpot (g : Gathers) (j : Judges g) (exports : ℕ → Ident → Standing) (w : Spot)
    (s : Scope g.Reported) (a : Around g.Reported) : Type 0 where
  pub of_names : Knows g j w.names exports s
  pub of_own : KnowsOwn g j w.own s
  pub of_result : KnowsResult g j w.gives a.gives
  pub of_loop : w.in_loop ≡ a.in_loop

abbrev pub AllOwn : {T : Type 0} → (outer : Ident → Bool) → Scope T → (ℕ → Ident → Standing)
    → (Ident → Standing) → (List ℕ → Bool) → (List ℕ → Option TypeNo) → List Decl → List Resolved
    → (Ident → Bool) → Type 0
AllOwn outer s exports outside taken awaited ds whole own =
    (name : Ident)
    → IsOwn s.types exports outside taken awaited (is_nested s) (declarations_of ds) outer whole
    name (own name)

-- what is known of a name that a block does not declare, before its declarations and behind them
pub data IsAsBefore {T : Type 0} : Option (KnownName T) → Option (KnownName T) → Type 0 where
  as_before : {k : Option (KnownName T)} → IsAsBefore k k
  -- A procedure of the definition has its heading.
  has_heading : (p : ModuleProcedure)
      → IsAsBefore (Some (Declared Here (Ok (meaning.Procedure p))))
      (Some (Headed (Ok (meaning.Procedure p))))

-- what is known behind the declarations of a block
pub record IsBlockExact (g : Gathers) (j : Judges g) (exports : ℕ → Ident → Standing)
    (outside : Ident → Standing) (s : Scope g.Reported) (taken : List ℕ → Bool)
    (awaited : List ℕ → Option TypeNo) (ends : List ℕ) (first : ℕ) (ds : List Decl) : Type 0 where
  -- the declarations, each with the types that it makes
  pub whole : List Resolved
  pub in_text : in_order whole ≡ declarations_of ds
  -- Exactly the broken rules are reported of the declarations,
  pub reported_first : Reports g j (Repeats g j outside s)
      (BrokenIn s.types exports outside taken awaited (is_nested s) (declarations_of ds) whole)
      (fold (with_decl g ends) ((all_marked marked_decl s ds).0, Ok tt, first) ds).1
  -- and of their constant expressions too, which are read again behind the headings.
  pub reported : (names : Ident → Standing)
      → AllStand s.types exports outside taken awaited (is_nested s) (declarations_of ds) whole
      names
      → ReadsAgain g j exports names (declared_block g ends (s, Ok tt) first ds).0 taken
      (declarations_of ds) (length s.own)
      → Reports g j (Repeats g j outside s)
      (λ f. BrokenIn s.types exports outside taken awaited (is_nested s) (declarations_of ds) whole
      f
      ⊎ BrokenAgain (types_behind s.types whole) exports taken (declarations_of ds) names []
      (declarations_of ds) f)
      (declared_block g ends (s, Ok tt) first ds).1
  pub types : (declared_block g ends (s, Ok tt) first ds).0.types ≡ types_behind s.types whole
  -- Each declaration adds the types and constants that the rules say.
  pub added : AllAdded s.types exports outside taken awaited (is_nested s) (declarations_of ds)
      whole
  -- The procedure of a heading that was awaited is the definition's, with its number.
  pub numbers : (n : List ℕ) (p : ModuleProcedure)
      → find_name n s.own ≡ Some (Declared Here (Ok (meaning.Procedure p))) → IsHeaded whole n
      → find_name n (declared_block g ends (s, Ok tt) first ds).0.own
      ≡ Some (Headed (Ok (meaning.Procedure p)))
  -- It is reported exactly if a procedure of the definition lacks a heading.
  pub lack : AreOnce s.own → (at : Pos)
      → Reports g j (λ f. ⊥)
      (Lacks s.types exports outside taken awaited (is_nested s) (declarations_of ds) at whole)
      (reported_of_lack g at (declared_block g ends (s, Ok tt) first ds).0)
  -- Each name stands for something behind them.
  pub stand : (names : Ident → Standing)
      × AllStand s.types exports outside taken awaited (is_nested s) (declarations_of ds) whole
      names
  -- Whatever names stand for, the scope knows it.
  pub known : (names : Ident → Standing)
      → AllStand s.types exports outside taken awaited (is_nested s) (declarations_of ds) whole
      names
      → Knows g j names exports (declared_block g ends (s, Ok tt) first ds).0
  -- What is known of a name that they do not declare stays.
  pub others : (n : List ℕ) → (taken n ≡ false → AnyDeclares (declarations_of ds) n → ⊥)
      → IsAsBefore (find_name n s.own)
      (find_name n (declared_block g ends (s, Ok tt) first ds).0.own)
  -- What the use of a name repeats behind them is broken in them, or repeated from outside.
  pub repeated : (names : Ident → Standing)
      → AllStand s.types exports outside taken awaited (is_nested s) (declarations_of ds) whole
      names
      → (f : Breach) → Repeats g j names (declared_block g ends (s, Ok tt) first ds).0 f
      → Repeats g j outside s f
      ⊎ BrokenIn s.types exports outside taken awaited (is_nested s) (declarations_of ds) whole f
  -- It is known which variables count as own ones.
  pub own : (outer : Ident → Bool) → KnowsOwn g j outer s
      → (own : Ident → Bool) × AllOwn outer s exports outside taken awaited ds whole own
  pub owned : (outer own : Ident → Bool) → KnowsOwn g j outer s
      → AllOwn outer s exports outside taken awaited ds whole own
      → KnowsOwn g j own (declared_block g ends (s, Ok tt) first ds).0
  -- So all is known of the spot at which a statement of the body stands.
  pub spot : (outer own : Ident → Bool) (names : Ident → Standing) → KnowsOwn g j outer s
      → AllStand s.types exports outside taken awaited (is_nested s) (declarations_of ds) whole
      names
      → AllOwn outer s exports outside taken awaited ds whole own → (gives : Giving)
      (a : Around g.Reported)
      → KnowsResult g j gives a.gives
      → KnowsSpot g j exports
      (record { names = names; own = own; gives = gives; in_loop = a.in_loop })
      (declared_block g ends (s, Ok tt) first ds).0 a

-- These expressions are answered exactly, whatever their names stand for.
abbrev pub ExpressionsAreExact : (g : Gathers) → Judges g → Type 0
ExpressionsAreExact g j =
    (names : Ident → Standing) (exports : ℕ → Ident → Standing) (s : Scope g.Reported)
    → Knows g j names exports s → (e : Expr) → IsExact g j names exports s e

-- Constant expressions are answered exactly.
abbrev pub ConstantsAreExact : (g : Gathers) → Judges g → Type 0
ConstantsAreExact g j =
    (names : Ident → Standing) (exports : ℕ → Ident → Standing) (s : Scope g.Reported)
    → Knows g j names exports s → (e : Expr)
    → Answers g j (Repeats g j names s) IsConst
    (λ k. Fixes s.types names exports e (AConstant k)) (BrokenAsConstant s.types names exports e)
    (constant g s (part g e))

-- Conditions are answered exactly: what is answered is a value of BOOLEAN.
abbrev pub ConditionsAreExact : (g : Gathers) → Judges g → Type 0
ConditionsAreExact g j =
    (names : Ident → Standing) (exports : ℕ → Ident → Standing) (s : Scope g.Reported)
    → Knows g j names exports s → (e : Expr)
    → Answers g j (Repeats g j names s) {A = TypedExpr} {K = Unit {0}} (λ v u. Unit {0})
    (λ u. IsCondition s.types names exports e) (BrokenCondition s.types names exports e)
    (value_of g s (meanings_of g e)
    ▷ value_suited g rule.WrongType s.types boolean (meanings_of g e).fixed.at)

-- Assignments are answered exactly.
abbrev pub AssignmentsAreExact : (g : Gathers) → Judges g → Type 0
AssignmentsAreExact g j =
    (names : Ident → Standing) (exports : ℕ → Ident → Standing) (s : Scope g.Reported)
    → Knows g j names exports s → (d : Designator) (e : Expr)
    → Answers g j (Repeats g j names s) {A = TypedStmt} {K = Unit {0}} (λ v u. Unit {0})
    (λ u. Assigns s.types names exports d e) (BrokenAssignment s.types names exports d e)
    (assignment_of g s.types (target_at g (head g d).fixed.at ((head g d).means s))
    (meanings_of g e).fixed.at (value_of g s (meanings_of g e)))

-- Calls as statements are answered exactly.
abbrev pub ActionsAreExact : (g : Gathers) → Judges g → Type 0
ActionsAreExact g j =
    (names : Ident → Standing) (exports : ℕ → Ident → Standing) (s : Scope g.Reported)
    → Knows g j names exports s → (d : Designator) (args : List Expr)
    → Answers g j (Repeats g j names s) {A = TypedStmt} {K = Unit {0}} (λ v u. Unit {0})
    (λ u. IsAction s.types names exports d args) (BrokenAction s.types names exports d args)
    (call_statement g s (head g d) (map (meanings_of g) args))

-- RETURN is answered exactly.
abbrev pub ReturnsAreExact : (g : Gathers) → Judges g → Type 0
ReturnsAreExact g j =
    (names : Ident → Standing) (exports : ℕ → Ident → Standing) (s : Scope g.Reported)
    → Knows g j names exports s
    → (at : Pos) (w : Giving) (result : Option (Result TypeNo g.Reported)) (e : Option Expr)
    → KnowsResult g j w result
    → Answers g j (RepeatsResult g j names s result) {A = TypedStmt} {K = Unit {0}}
    (λ v u. Unit {0}) (λ u. Returns s.types names exports w e)
    (BrokenReturn s.types names exports at w e) (return_statement g s at result (meant_if g e))

-- EXIT is answered exactly.
abbrev pub ExitsAreExact : (g : Gathers) → Judges g → Type 0
ExitsAreExact g j =
    (at : Pos) (w : Around g.Reported)
    → Answers g j (λ f. ⊥) {A = TypedStmt} {K = Unit {0}} (λ v u. Unit {0})
    (λ u. IsExit w.in_loop) (BrokenExit at w.in_loop) (exit_statement g at w)

-- What stands before the statements of a FOR is answered exactly.
abbrev pub RunsAreExact : (g : Gathers) → Judges g → Type 0
RunsAreExact g j =
    (names : Ident → Standing) (exports : ℕ → Ident → Standing) (own : Ident → Bool)
    (s : Scope g.Reported)
    → Knows g j names exports s → KnowsOwn g j own s
    → (name : Ident) (start limit : Expr) (step : Option Expr)
    → Answers g j (Repeats g j names s) {A = Course} {K = Unit {0}} (λ v u. Unit {0})
    (λ u. Runs s.types names exports own name start limit step)
    (BrokenRun s.types names exports own name start limit step)
    (course_of g s name (meanings_of g start) (meanings_of g limit) (meant_if g step))

-- The selector of a CASE is answered exactly, with its base type.
abbrev pub SelectorsAreExact : (g : Gathers) → Judges g → Type 0
SelectorsAreExact g j =
    (names : Ident → Standing) (exports : ℕ → Ident → Standing) (s : Scope g.Reported)
    → Knows g j names exports s → (e : Expr)
    → Answers g j (Repeats g j names s) (λ (v : TypeNo × TypedExpr) (t : TypeNo). v.0 ≡ t)
    (IsSelector s.types names exports e) (BrokenSelector s.types names exports e)
    (case_selector g s (meanings_of g e))

-- Each bound of a label is answered exactly, whether the base type of the selector is known or not.
-- It has a number, unless it is a set or a string and none is asked for.
abbrev pub BoundsAreExact : (g : Gathers) → Judges g → Type 0
BoundsAreExact g j =
    (names : Ident → Standing) (exports : ℕ → Ident → Standing) (s : Scope g.Reported)
    → Knows g j names exports s
    → (base : Option TypeNo) (label : Pos) (e : Expr)
    → Answers g j (Repeats g j names s)
    (λ (a : Option Ordinal) (p : Option Number).
    option_map (λ (x : Ordinal). (x.sort, x.number)) a ≡ p)
    (IsLabelBound s.types names exports base e)
    (BrokenLabelBound s.types names exports base label e)
    (bound_of g s base label (meanings_of g e))

-- Names of types are answered exactly.
abbrev pub TypeNamesAreExact : (g : Gathers) → Judges g → Type 0
TypeNamesAreExact g j =
    (names : Ident → Standing) (exports : ℕ → Ident → Standing) (s : Scope g.Reported)
    → Knows g j names exports s → (q : Qualified)
    → Answers g j (Repeats g j names s) (λ (t u : TypeNo). t ≡ u) (NamesType names exports q)
    (BrokenTypeName names exports q) (named_type g s q)

-- Headings of procedures are answered exactly, whatever the names of their formals.
abbrev pub HeadingsAreExact : (g : Gathers) → Judges g → Type 0
HeadingsAreExact g j =
    (names : Ident → Standing) (exports : ℕ → Ident → Standing) (s : Scope g.Reported)
    → Knows g j names exports s → (h : Heading)
    → Answers g j (Repeats g j names s) (λ (m : Made) (x : Signature). m ≡ procedure_made x)
    (IsHeading s.types names exports h) (BrokenHeading s.types names exports h) (heading_of g s h)

-- Subranges are answered exactly.
abbrev pub SubrangesAreExact : (g : Gathers) → Judges g → Type 0
SubrangesAreExact g j =
    (names : Ident → Standing) (exports : ℕ → Ident → Standing) (s : Scope g.Reported)
    → Knows g j names exports s → (low high : Expr)
    → (q : Option Qualified)
    → Answers g j (Repeats g j names s) (λ (a r : Range). a ≡ r)
    (IsSubrange s.types names exports low high q) (BrokenSubrange s.types names exports low high q)
    (subrange g s q (part g low) (part g high))

-- Statements are answered exactly.
abbrev pub StatementsAreExact : (g : Gathers) → Judges g → Type 0
StatementsAreExact g j =
    (exports : ℕ → Ident → Standing) (w : Spot) (s : Scope g.Reported) (a : Around g.Reported)
    → KnowsSpot g j exports w s a
    → (x : Stmt)
    → Answers g j (RepeatsResult g j w.names s a.gives) {A = TypedStmt} {K = Unit {0}}
    (λ v u. Unit {0}) (λ u. Obeys s.types exports w x) (Broken s.types exports w x) (stmt g x s a)

-- Declarations are answered exactly, and what is known behind them is what the rules say.
abbrev pub BlocksAreExact : (g : Gathers) → Judges g → Type 0
BlocksAreExact g j =
    (exports : ℕ → Ident → Standing) (outside : Ident → Standing) (s : Scope g.Reported)
    (taken : List ℕ → Bool) (awaited : List ℕ → Option TypeNo)
    → Knows g j outside exports s → s.withs ≡ []
    → ((n : List ℕ) → TakenAs g j (taken n) (awaited n) (find_name n s.own))
    → (ends : List ℕ) (first : ℕ) (ds : List Decl)
    → IsBlockExact g j exports outside s taken awaited ends first ds

-- For each scope there are standings that it knows, and variables that are own ones.
abbrev pub ScopesAreKnown : (g : Gathers) → Judges g → Type 0
ScopesAreKnown g j =
    (s : Scope g.Reported)
    → ((names : Ident → Standing) × (exports : ℕ → Ident → Standing) × Knows g j names exports s)
    × ((own : Ident → Bool) × KnowsOwn g j own s)
