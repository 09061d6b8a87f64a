-- Typed statements: their parts have the types that they ask for, and their texts are where the
-- module has them.
use Rattle.std.specs.Prelude.{◌≡◌, ℕ, ◌+◌, ◌≤◌, ◌≤ℤ◌, ℤ, pos, negsuc, Bool, true, List, [], ◌∷◌, ◌++◌, length, Some, None}
use Rattle.typed_tree.specs.declared.computed.Call.{Call}
use Rattle.typed_tree.specs.declared.computed.Place.{Place}
use Rattle.typed_tree.specs.declared.computed.Root.TheVariants as root
use Rattle.typed_tree.specs.declared.computed.Slot.{Slot}
use Rattle.typed_tree.specs.declared.computed.TypedExpr.{TypedExpr}
use Rattle.typed_tree.specs.declared.meaning.Variable.{Variable}
use Rattle.typed_tree.specs.declared.statement.Change.{Change}
use Rattle.typed_tree.specs.declared.statement.Membership.{Membership}
use Rattle.typed_tree.specs.declared.statement.TypedArm.{TypedArm}
use Rattle.typed_tree.specs.declared.statement.TypedStmt.{TypedStmt}
use Rattle.typed_tree.specs.declared.statement.TypedStmt.TheVariants as stmt
use Rattle.typed_tree.specs.declared.types.TypeNo.{TypeNo}
use Rattle.typed_tree.specs.declared.known_types.Types.{Types}
use Rattle.typed_tree.specs.Types.{boolean, char, bitset}
use Rattle.typed_tree.specs.Known.{scalar_at}
use Rattle.layout_storage.specs.Types.{Ty, Scalar, Natural, Callable, Cell, Array, Heading, IsPlain}
use Rattle.layout_storage.specs.Shapes.{tree}
use Rattle.def_scheme.specs.Cells.{base_of}
use Rattle.law_simulation.specs.Scene.{AreAmong, IsCell, AreLabels}
use Rattle.law_simulation.specs.Frames.{Kept, kind_at}
use Rattle.law_simulation.specs.Passing.{Result}
use Rattle.law_simulation.specs.TreesTyped.{Context, IsVariable, HasText, IsTaken, IsExpr, IsProcedureExpr, IsPlace, IsCall}

-- the control variable of a FOR: an entire variable of a module, or of the procedure itself or one
-- around it
pub data IsControl (x : Context) : Place → Ty → Type 0 where
  OfModule : (d : Place) (v : Variable) (t : Ty) → d.root ≡ root.Global v → d.components ≡ []
      → IsVariable x v t → IsControl x d t
  OfFrame : (d : Place) (slot : Slot) (t : Ty) → d.root ≡ root.Local slot → d.components ≡ []
      → kind_at x.kinds slot ≡ Some (Kept t) → IsControl x d t

-- in the body of what has this result, or none
module _ (x : Context) (result : Result) where
  abbrev types : Types
  types = x.home.types

  -- a type with a range
  abbrev IsRanged : TypeNo → Type 0
  IsRanged t = scalar_at types t ≡ None → ⊥

  -- a value that is taken as one of a type
  pub record IsGiven (ws : List Ty) (a b : ℕ) (e : TypedExpr) (t : TypeNo) : Type 0 where
    pub of : TypeNo
    pub is : IsExpr x ws a b e of
    pub taken : IsTaken x.home t e of

  -- a condition
  pub record IsTest (ws : List Ty) (a b : ℕ) (e : TypedExpr) : Type 0 where
    pub of : TypeNo
    pub is : IsExpr x ws a b e of
    pub among : AreAmong types of boolean

  mutual
    -- a statement within WITHs of records of these types, and within a LOOP or not, whose texts
    -- stand from one offset to another
    pub data IsStmt : (ws : List Ty) (looped : Bool) (from to : ℕ) → TypedStmt → Type 0 where
      Assign : (ws : List Ty) (l : Bool) (a b c : ℕ) (d : Place) (t : TypeNo) (r : Scalar)
          (e : TypedExpr)
          → IsCell types t r
          → IsPlace x ws a b d (Cell r)
          → IsGiven ws b c e t
          → IsStmt ws l a c (stmt.Assign d t e)
      AssignProcedure : (ws : List Ty) (l : Bool) (a b c : ℕ) (d : Place) (t : TypeNo) (h : Heading)
          (e : TypedExpr)
          → tree types t ≡ Cell (Callable h)
          → scalar_at types t ≡ None
          → IsPlace x ws a b d (Cell (Callable h))
          → IsProcedureExpr x ws b c e h
          → IsStmt ws l a c (stmt.Assign d t e)
      Copy : (ws : List Ty) (l : Bool) (a b c : ℕ) (d e : Place) (t : TypeNo)
          → IsPlain (tree types t)
          → IsPlace x ws a b d (tree types t)
          → IsPlace x ws b c e (tree types t)
          → IsStmt ws l a c (stmt.Copy d e t)
      CopyText : (ws : List Ty) (l : Bool) (a b n : ℕ) (d : Place) (t : TypeNo) (text : List ℕ)
          → tree types t ≡ Array n (Cell (Natural 255))
          → length text ≤ n
          → HasText x b text
          → IsPlace x ws a b d (tree types t)
          → IsStmt ws l a (b + length text) (stmt.CopyText d t text)
      ProcedureCall : (ws : List Ty) (l : Bool) (a b : ℕ) (c : Call) → IsCall x ws a b c None
          → IsStmt ws l a b (stmt.Call c)
      Put : (ws : List Ty) (l : Bool) (a b : ℕ) (e : TypedExpr) → IsGiven ws a b e char
          → IsStmt ws l a b (stmt.Put e)
      -- INC and DEC
      Changed : (ws : List Ty) (l : Bool) (a b c : ℕ) (o : Change) (d : Place) (t u : TypeNo)
          (r : Scalar) (e : TypedExpr)
          → IsCell types t r
          → IsRanged t
          → IsRanged (base_of types t)
          → IsPlace x ws a b d (Cell r)
          → IsExpr x ws b c e u
          → IsStmt ws l a c (stmt.Change o d t e)
      -- INCL and EXCL
      Member : (ws : List Ty) (l : Bool) (a b c : ℕ) (o : Membership) (d : Place) (u : TypeNo)
          (r : Scalar) (e : TypedExpr)
          → IsCell types bitset r
          → IsPlace x ws a b d (Cell r)
          → IsExpr x ws b c e u
          → IsStmt ws l a c (stmt.Membership o d e)
      Halt : (ws : List Ty) (l : Bool) (a : ℕ) → IsStmt ws l a a stmt.Halt
      If : (ws : List Ty) (l : Bool) (a b c : ℕ) (e : TypedExpr) (body : List TypedStmt)
          → IsTest ws a b e → AreStmts ws l b c body → IsStmt ws l a c (stmt.If e body None)
      IfElse : (ws : List Ty) (l : Bool) (a b c z : ℕ) (e : TypedExpr)
          (body others : List TypedStmt)
          → IsTest ws a b e
          → AreStmts ws l b c body
          → AreStmts ws l c z others
          → IsStmt ws l a z (stmt.If e body (Some others))
      Case :
          (ws : List Ty) (l : Bool) (a b c : ℕ) (u : TypeNo) (e : TypedExpr) (arms : List TypedArm)
          → IsExpr x ws a b e u → AreArms ws l b c arms → IsStmt ws l a c (stmt.Case e arms None)
      CaseElse : (ws : List Ty) (l : Bool) (a b c z : ℕ) (u : TypeNo) (e : TypedExpr)
          (arms : List TypedArm) (others : List TypedStmt)
          → IsExpr x ws a b e u
          → AreArms ws l b c arms
          → AreStmts ws l c z others
          → IsStmt ws l a z (stmt.Case e arms (Some others))
      While : (ws : List Ty) (l : Bool) (a b c : ℕ) (e : TypedExpr) (body : List TypedStmt)
          → IsTest ws a b e → AreStmts ws l b c body → IsStmt ws l a c (stmt.While e body)
      Repeat : (ws : List Ty) (l : Bool) (a b c : ℕ) (body : List TypedStmt) (e : TypedExpr)
          → AreStmts ws l a b body → IsTest ws b c e → IsStmt ws l a c (stmt.Repeat body e)
      Loop : (ws : List Ty) (l : Bool) (a b : ℕ) (body : List TypedStmt) → AreStmts ws true a b body
          → IsStmt ws l a b (stmt.Loop body)
      -- within a LOOP alone
      Exit : (ws : List Ty) (a : ℕ) → IsStmt ws true a a stmt.Exit
      Return : (ws : List Ty) (l : Bool) (a : ℕ) → result ≡ None → IsStmt ws l a a stmt.Return
      Give : (ws : List Ty) (l : Bool) (a b : ℕ) (t : TypeNo) (r : Scalar) (e : TypedExpr)
          → result ≡ Some (tree types t)
          → IsCell types t r
          → IsGiven ws a b e t
          → IsStmt ws l a b (stmt.Give t e)
      GiveProcedure : (ws : List Ty) (l : Bool) (a b : ℕ) (t : TypeNo) (h : Heading) (e : TypedExpr)
          → result ≡ Some (Cell (Callable h))
          → scalar_at types t ≡ None
          → IsProcedureExpr x ws a b e h
          → tree types t ≡ Cell (Callable h)
          → IsStmt ws l a b (stmt.Give t e)
      -- the step is a constant of 32 bits
      For : (ws : List Ty) (l : Bool) (a b c z : ℕ) (d : Place) (t u : TypeNo) (r : Scalar)
          (start limit : TypedExpr) (by : ℤ) (body : List TypedStmt)
          → IsCell types t r
          → IsRanged t
          → IsControl x d (Cell r)
          → negsuc 2147483647 ≤ℤ by
          → by ≤ℤ pos 4294967295
          → IsGiven ws a b start t
          → IsExpr x ws b c limit u
          → AreStmts ws l c z body
          → IsStmt ws l a z (stmt.For d t start limit by body)
      With : (ws : List Ty) (l : Bool) (a b c : ℕ) (t : Ty) (d : Place) (body : List TypedStmt)
          → IsPlace x ws a b d t
          → AreStmts (ws ++ t ∷ []) l b c body
          → IsStmt ws l a c (stmt.With d body)

    pub data AreStmts : (ws : List Ty) (looped : Bool) (from to : ℕ) → List TypedStmt → Type 0 where
      no_stmts : (ws : List Ty) (l : Bool) (a : ℕ) → AreStmts ws l a a []
      more_stmts : (ws : List Ty) (l : Bool) (a b c : ℕ) (s : TypedStmt) (ss : List TypedStmt)
          → IsStmt ws l a b s → AreStmts ws l b c ss → AreStmts ws l a c (s ∷ ss)

    -- the arms of a CASE
    pub data AreArms : (ws : List Ty) (looped : Bool) (from to : ℕ) → List TypedArm → Type 0 where
      no_arms : (ws : List Ty) (l : Bool) (a : ℕ) → AreArms ws l a a []
      more_arms : (ws : List Ty) (l : Bool) (a b c : ℕ) (m : TypedArm) (ms : List TypedArm)
          → AreLabels m.labels
          → AreStmts ws l a b m.body
          → AreArms ws l b c ms
          → AreArms ws l a c (m ∷ ms)
