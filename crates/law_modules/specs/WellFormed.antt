-- Well formed trees: what stands in a body whose every construct has code.
use Rattle.std.specs.Prelude.{◌≡◌, ℕ, suc, ◌<◌, ◌==◌, ℤ, Bool, true, false, ◌||◌, List, [], ◌∷◌, Option, Some, None, slice_get, All}
use Rattle.std.specs.List.{list_any}
use Rattle.typed_tree.specs.declared.computed.Argument.{Argument}
use Rattle.typed_tree.specs.declared.computed.Argument.TheVariants as argument
use Rattle.typed_tree.specs.declared.computed.Arithmetic.{Arithmetic}
use Rattle.typed_tree.specs.declared.computed.Call.{Call}
use Rattle.typed_tree.specs.declared.computed.Call.TheVariants as call
use Rattle.typed_tree.specs.declared.computed.Comparison.{Comparison}
use Rattle.typed_tree.specs.declared.computed.Component.{Component}
use Rattle.typed_tree.specs.declared.computed.Component.TheVariants as component
use Rattle.typed_tree.specs.declared.computed.Inclusion.{Inclusion}
use Rattle.typed_tree.specs.declared.computed.Link.{Link}
use Rattle.typed_tree.specs.declared.computed.Link.TheVariants as link
use Rattle.typed_tree.specs.declared.computed.LocalProcedure.{LocalProcedure}
use Rattle.typed_tree.specs.declared.computed.Place.{Place}
use Rattle.typed_tree.specs.declared.computed.Root.{Root}
use Rattle.typed_tree.specs.declared.computed.Root.TheVariants as root
use Rattle.typed_tree.specs.declared.computed.SetOperator.{SetOperator}
use Rattle.typed_tree.specs.declared.computed.Slot.{Slot}
use Rattle.typed_tree.specs.declared.computed.TypedExpr.{TypedExpr}
use Rattle.typed_tree.specs.declared.computed.TypedExpr.TheVariants as expr
use Rattle.typed_tree.specs.declared.known_types.Types.{Types}
use Rattle.typed_tree.specs.declared.meaning.Procedure.{Procedure}
use Rattle.typed_tree.specs.declared.shape.Formal.{Formal}
use Rattle.typed_tree.specs.declared.statement.Change.{Change}
use Rattle.typed_tree.specs.declared.statement.Membership.{Membership}
use Rattle.typed_tree.specs.declared.statement.TypedArm.{TypedArm}
use Rattle.typed_tree.specs.declared.statement.TypedStmt.{TypedStmt}
use Rattle.typed_tree.specs.declared.statement.TypedStmt.TheVariants as stmt
use Rattle.typed_tree.specs.declared.typed_module.Routine.{Routine}
use Rattle.typed_tree.specs.declared.typed_module.TypedModule.{TypedModule}
use Rattle.typed_tree.specs.declared.types.TypeNo.{TypeNo}
use Rattle.typed_tree.specs.Known.{is_result}
use Rattle.layout_storage.specs.Frames.{formals_of}
use Rattle.def_scheme.specs.Exprs.{is_own, has_result}

-- ---- what a body may name

-- no array and no record
abbrev pub IsScalar : Types → TypeNo → Type 0
IsScalar types t = is_result types t ≡ true

-- the module itself, and those that it imports
abbrev pub is_known : TypedModule → (home : ℕ) → Bool
is_known m home = is_own m home || list_any (λ i. i.number == home) m.imports

abbrev pub IsKnown : TypedModule → (home : ℕ) → Type 0
IsKnown m home = is_known m home ≡ true

-- the procedure of this number stands there, and has this heading
abbrev pub IsRoutine : List Routine → (number : ℕ) → (heading : TypeNo) → Type 0
IsRoutine rs n heading = (r : Routine) × (slice_get rs n ≡ Some r) × (r.heading ≡ heading)

pub record IsProcedure (m : TypedModule) (f : Procedure) : Type 0 where
  pub known : IsKnown m f.home
  pub own : is_own m f.home ≡ true → IsRoutine m.procedures f.number f.heading

-- ---- expressions, designators, calls and arguments, in a module, within this many records of WITH

-- a WITH around it, and a variable of a module that is known
abbrev pub IsRoot : TypedModule → (withs : ℕ) → Root → Type 0
IsRoot m withs (root.Global v) = IsKnown m v.home
IsRoot m withs (root.Local slot) = Unit {0}
IsRoot m withs (root.Alias slot) = Unit {0}
IsRoot m withs (root.Open slot) = Unit {0}
IsRoot m withs (root.With k) = k < withs

mutual
  pub data IsExpr (m : TypedModule) (withs : ℕ) : TypedExpr → Type 0 where
    Constant : (t : TypeNo) (n : ℤ) → IsExpr m withs (expr.Constant t n)
    Load : (t : TypeNo) (d : Place) → IsScalar m.types t → IsPlace m withs d
        → IsExpr m withs (expr.Load t d)
    ProcedureValue : (f : Procedure) → IsProcedure m f → IsExpr m withs (expr.Procedure f)
    Plus : (t : TypeNo) (e : TypedExpr) → IsExpr m withs e → IsExpr m withs (expr.Plus t e)
    Negate : (e : TypedExpr) → IsExpr m withs e → IsExpr m withs (expr.Negate e)
    Chain : (e : TypedExpr) (ls : List Link) → IsExpr m withs e → AreLinks m withs ls
        → IsExpr m withs (expr.Chain e ls)
    Compare : (o : Comparison) (a b : TypedExpr) → IsExpr m withs a → IsExpr m withs b
        → IsExpr m withs (expr.Compare o a b)
    Not : (e : TypedExpr) → IsExpr m withs e → IsExpr m withs (expr.Not e)
    Include : (o : Inclusion) (a b : TypedExpr) → IsExpr m withs a → IsExpr m withs b
        → IsExpr m withs (expr.Include o a b)
    In : (a b : TypedExpr) → IsExpr m withs a → IsExpr m withs b → IsExpr m withs (expr.In a b)
    Abs : (t : TypeNo) (e : TypedExpr) → IsExpr m withs e → IsExpr m withs (expr.Abs t e)
    Cap : (e : TypedExpr) → IsExpr m withs e → IsExpr m withs (expr.Cap e)
    Chr : (e : TypedExpr) → IsExpr m withs e → IsExpr m withs (expr.Chr e)
    Odd : (e : TypedExpr) → IsExpr m withs e → IsExpr m withs (expr.Odd e)
    Ord : (e : TypedExpr) → IsExpr m withs e → IsExpr m withs (expr.Ord e)
    Val : (t : TypeNo) (e : TypedExpr) → IsExpr m withs e → IsExpr m withs (expr.Val t e)
    High : (slot : Slot) → IsExpr m withs (expr.High slot)
    FunctionCall : (t : TypeNo) (c : Call) → IsCall m withs c true → IsExpr m withs (expr.Call t c)

  -- the second operands of a chain
  pub data AreLinks (m : TypedModule) (withs : ℕ) : List Link → Type 0 where
    no_links : AreLinks m withs []
    more_links : (l : Link) (ls : List Link) → IsLink m withs l → AreLinks m withs ls
        → AreLinks m withs (l ∷ ls)

  pub data IsLink (m : TypedModule) (withs : ℕ) : Link → Type 0 where
    Operated : (o : Arithmetic) (t : TypeNo) (e : TypedExpr) → IsExpr m withs e
        → IsLink m withs (link.Arithmetic o t e)
    And : (e : TypedExpr) → IsExpr m withs e → IsLink m withs (link.And e)
    Or : (e : TypedExpr) → IsExpr m withs e → IsLink m withs (link.Or e)
    Combine : (o : SetOperator) (e : TypedExpr) → IsExpr m withs e
        → IsLink m withs (link.Combine o e)

  pub data IsPlace (m : TypedModule) (withs : ℕ) : Place → Type 0 where
    Designator : (d : Place) → IsRoot m withs d.root → AreComponents m withs d.components
        → IsPlace m withs d

  pub data AreComponents (m : TypedModule) (withs : ℕ) : List Component → Type 0 where
    no_components : AreComponents m withs []
    more_components : (c : Component) (cs : List Component) → IsComponent m withs c
        → AreComponents m withs cs → AreComponents m withs (c ∷ cs)

  pub data IsComponent (m : TypedModule) (withs : ℕ) : Component → Type 0 where
    FieldOf : (t : TypeNo) (k : ℕ) → IsComponent m withs (component.Field t k)
    Element : (t : TypeNo) (i : TypedExpr) → IsExpr m withs i
        → IsComponent m withs (component.Element t i)
    OpenElement : (slot : Slot) (t : TypeNo) (i : TypedExpr) → IsExpr m withs i
        → IsComponent m withs (component.OpenElement slot t i)

  -- a call, with a result or without one
  pub data IsCall (m : TypedModule) (withs : ℕ) : Call → (result : Bool) → Type 0 where
    OfModule : (f : Procedure) (args : List Argument) (result : Bool) → IsProcedure m f
        → has_result m.types f.heading ≡ result
        → AreArguments m withs args (formals_of m.types f.heading)
        → IsCall m withs (call.Module f args) result
    OfProcedure : (f : LocalProcedure) (args : List Argument) (result : Bool)
        → IsRoutine m.locals f.number f.heading → has_result m.types f.heading ≡ result
        → AreArguments m withs args (formals_of m.types f.heading)
        → IsCall m withs (call.Nested f args) result
    OfVariable : (t : TypeNo) (d : Place) (args : List Argument) (result : Bool)
        → IsScalar m.types t → IsPlace m withs d → has_result m.types t ≡ result
        → AreArguments m withs args (formals_of m.types t)
        → IsCall m withs (call.Variable t d args) result

  -- for each formal an argument
  pub data AreArguments (m : TypedModule) (withs : ℕ) : List Argument → List Formal → Type 0 where
    no_arguments : AreArguments m withs [] []
    more_arguments : (x : Argument) (xs : List Argument) (f : Formal) (fs : List Formal)
        → IsArgument m withs x f.is_open → AreArguments m withs xs fs
        → AreArguments m withs (x ∷ xs) (f ∷ fs)

  -- an argument for a formal ARRAY OF, or for another one
  pub data IsArgument (m : TypedModule) (withs : ℕ) : Argument → (open_array : Bool) → Type 0 where
    Value : (t : TypeNo) (e : TypedExpr) → IsExpr m withs e
        → IsArgument m withs (argument.Value t e) false
    Actual : (d : Place) → IsPlace m withs d → IsArgument m withs (argument.Place d) false
    ActualArray : (t : TypeNo) (d : Place) → IsPlace m withs d
        → IsArgument m withs (argument.Array t d) true
    Open : (slot : Slot) → IsArgument m withs (argument.Open slot) true
    Text : (text : List ℕ) → IsArgument m withs (argument.Text text) true

-- ---- statements: of a function or not, within this many records of WITH, and within a LOOP or not

mutual
  pub data IsStmt (m : TypedModule) (gives : Bool) : (withs : ℕ) → (looped : Bool) → TypedStmt
      → Type 0 where
    Assign : (w : ℕ) (l : Bool) (d : Place) (t : TypeNo) (e : TypedExpr) → IsScalar m.types t
        → IsPlace m w d → IsExpr m w e → IsStmt m gives w l (stmt.Assign d t e)
    Copy : (w : ℕ) (l : Bool) (to from : Place) (t : TypeNo) → IsPlace m w to → IsPlace m w from
        → IsStmt m gives w l (stmt.Copy to from t)
    CopyText : (w : ℕ) (l : Bool) (d : Place) (t : TypeNo) (text : List ℕ) → IsPlace m w d
        → IsStmt m gives w l (stmt.CopyText d t text)
    ProcedureCall : (w : ℕ) (l : Bool) (c : Call) → IsCall m w c false
        → IsStmt m gives w l (stmt.Call c)
    Put : (w : ℕ) (l : Bool) (e : TypedExpr) → IsExpr m w e → IsStmt m gives w l (stmt.Put e)
    Changed : (w : ℕ) (l : Bool) (o : Change) (d : Place) (t : TypeNo) (e : TypedExpr)
        → IsScalar m.types t → IsPlace m w d → IsExpr m w e
        → IsStmt m gives w l (stmt.Change o d t e)
    Member : (w : ℕ) (l : Bool) (o : Membership) (d : Place) (e : TypedExpr) → IsPlace m w d
        → IsExpr m w e → IsStmt m gives w l (stmt.Membership o d e)
    Halt : (w : ℕ) (l : Bool) → IsStmt m gives w l stmt.Halt
    If : (w : ℕ) (l : Bool) (e : TypedExpr) (body : List TypedStmt)
        (others : Option (List TypedStmt))
        → IsExpr m w e
        → AreStmts m gives w l body
        → AreOthers m gives w l others
        → IsStmt m gives w l (stmt.If e body others)
    Case : (w : ℕ) (l : Bool) (e : TypedExpr) (arms : List TypedArm)
        (others : Option (List TypedStmt))
        → IsExpr m w e
        → AreArms m gives w l arms
        → AreOthers m gives w l others
        → IsStmt m gives w l (stmt.Case e arms others)
    While : (w : ℕ) (l : Bool) (e : TypedExpr) (body : List TypedStmt) → IsExpr m w e
        → AreStmts m gives w l body → IsStmt m gives w l (stmt.While e body)
    Repeat : (w : ℕ) (l : Bool) (body : List TypedStmt) (e : TypedExpr) → AreStmts m gives w l body
        → IsExpr m w e → IsStmt m gives w l (stmt.Repeat body e)
    Loop : (w : ℕ) (l : Bool) (body : List TypedStmt) → AreStmts m gives w true body
        → IsStmt m gives w l (stmt.Loop body)
    Exit : (w : ℕ) → IsStmt m gives w true stmt.Exit
    Return : (w : ℕ) (l : Bool) → gives ≡ false → IsStmt m gives w l stmt.Return
    Give : (w : ℕ) (l : Bool) (t : TypeNo) (e : TypedExpr) → gives ≡ true → IsExpr m w e
        → IsStmt m gives w l (stmt.Give t e)
    For : (w : ℕ) (l : Bool) (d : Place) (t : TypeNo) (start limit : TypedExpr) (by : ℤ)
        (body : List TypedStmt)
        → IsScalar m.types t
        → IsPlace m w d
        → IsExpr m w start
        → IsExpr m w limit
        → AreStmts m gives w l body
        → IsStmt m gives w l (stmt.For d t start limit by body)
    With : (w : ℕ) (l : Bool) (d : Place) (body : List TypedStmt) → IsPlace m w d
        → AreStmts m gives (suc w) l body → IsStmt m gives w l (stmt.With d body)

  pub data AreStmts (m : TypedModule) (gives : Bool) : (withs : ℕ) → (looped : Bool)
      → List TypedStmt → Type 0 where
    no_stmts : (w : ℕ) (l : Bool) → AreStmts m gives w l []
    more_stmts : (w : ℕ) (l : Bool) (x : TypedStmt) (xs : List TypedStmt) → IsStmt m gives w l x
        → AreStmts m gives w l xs → AreStmts m gives w l (x ∷ xs)

  -- what ELSE has, if it stands
  pub data AreOthers (m : TypedModule) (gives : Bool) : (withs : ℕ) → (looped : Bool)
      → Option (List TypedStmt) → Type 0 where
    no_others : (w : ℕ) (l : Bool) → AreOthers m gives w l None
    others : (w : ℕ) (l : Bool) (xs : List TypedStmt) → AreStmts m gives w l xs
        → AreOthers m gives w l (Some xs)

  pub data AreArms (m : TypedModule) (gives : Bool) : (withs : ℕ) → (looped : Bool) → List TypedArm
      → Type 0 where
    no_arms : (w : ℕ) (l : Bool) → AreArms m gives w l []
    more_arms : (w : ℕ) (l : Bool) (x : TypedArm) (xs : List TypedArm) → AreStmts m gives w l x.body
        → AreArms m gives w l xs → AreArms m gives w l (x ∷ xs)

-- ---- procedures and modules

-- a function ends by RETURN
pub record IsBody (m : TypedModule) (r : Routine) : Type 0 where
  pub body : AreStmts m (has_result m.types r.heading) 0 false r.body

-- procedures of the module stand at level 1, those in procedures at a deeper one
pub record IsWellFormed (m : TypedModule) : Type 0 where
  pub levels : All (λ r. r.level ≡ 1) m.procedures
  pub nested : All (λ r. 1 < r.level) m.locals
  pub procedures : All (IsBody m) m.procedures
  pub locals : All (IsBody m) m.locals
  pub body : AreStmts m false 0 false m.body
