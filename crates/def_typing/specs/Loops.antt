-- What stands before the statements of a FOR, and which rules are broken in it.
use Rattle.std.specs.Prelude.{◌≡◌, ℕ, ℤ, pos, Bool, true, Option, Some, None}
use Rattle.m2_rule.specs.declared.breach.Breach.{Breach}
use Rattle.m2_rule.specs.declared.rule.Rule.TheVariants as rule
use Rattle.m2_tree.specs.declared.pos.Pos.{Pos}
use Rattle.m2_tree.specs.declared.name.Ident.{Ident}
use Rattle.m2_tree.specs.declared.expr.Expr.{Expr}
use Rattle.typed_tree.specs.declared.types.TypeNo.{TypeNo}
use Rattle.typed_tree.specs.declared.shape.Scalar.{Scalar as Range}
use Rattle.typed_tree.specs.declared.shape.Shape.TheVariants as shape
use Rattle.typed_tree.specs.declared.known_types.Types.{Types}
use Rattle.def_typing.specs.Shapes.{IsMade}
use Rattle.def_typing.specs.Amounts.{Constant, sort_of, IsNumber, Suits}
use Rattle.def_typing.specs.Operators.{◌!◌, Kind, Scalar, operand}
use Rattle.def_typing.specs.Things.{Thing, AVariable, Standing, Known, Misnamed, SuitsBase, IsAssignable, Misassigned}
use Rattle.def_typing.specs.Parts.{first}
use Rattle.def_typing.specs.Constants.{AConstant, Fixes}
use Rattle.def_typing.specs.Expressions.{Has, BrokenAsValue, BrokenAsConstant}

-- ---- the limit and the step

-- The limit is assignment compatible with the base type of the control variable.
abbrev pub SuitsLimit : TypeNo → Kind → Type 0
SuitsLimit base (Scalar a) = SuitsBase base (sort_of a)
SuitsLimit base k = ⊥

-- A number is one of this type.
abbrev pub IsOfBase : TypeNo → Kind → Type 0
IsOfBase base (Scalar a) = Suits (Some base) a
IsOfBase base k = ⊥

pub record IsLimit (base : TypeNo) (k : Kind) : Type 0 where
  pub suits : SuitsLimit base k
  pub in_base : IsOfBase base k

-- A number that this type lacks is refused, and no other limit is checked further.
pub data Mislimits (base : TypeNo) (at : Pos) (k : Kind) : Breach → Type 0 where
  no_limit : (SuitsLimit base k → ⊥) → Mislimits base at k (at ! rule.NotAssignable)
  not_in_base : SuitsLimit base k → (IsOfBase base k → ⊥)
      → Mislimits base at k (at ! rule.OutOfRange)

-- a constant INTEGER, CARDINAL or number
pub data IsWholeConstant : Kind → ℤ → Type 0 where
  whole_constant : {sort : Option TypeNo} {n : ℤ} → IsNumber sort
      → IsWholeConstant (Scalar (Constant sort n)) n

-- The step is one of these constants, and not 0.
pub data IsStep (k : Kind) : Type 0 where
  is_step : {n : ℤ} → IsWholeConstant k n → (n ≡ pos 0 → ⊥) → IsStep k

pub data Missteps (at : Pos) (k : Kind) : Breach → Type 0 where
  no_step : ((n : ℤ) → IsWholeConstant k n → ⊥) → Missteps at k (at ! rule.WrongType)
  step_zero : IsWholeConstant k (pos 0) → Missteps at k (at ! rule.ZeroStep)

-- ---- all of it

-- The types that are known, what names stand for, what modules export, and which names are names of
-- variables that the module declares, or the procedure itself.
module _ (types : Types) (names : Ident → Standing) (exports : ℕ → Ident → Standing)
    (own : Ident → Bool) where
  -- The control variable is a scalar variable of the module or the procedure: not imported, no
  -- formal, no component, and not a variable of a procedure around.
  pub data IsControl (name : Ident) (t : TypeNo) (r : Range) : Type 0 where
    is_control : names name ≡ Known (AVariable t) → own name ≡ true
        → IsMade types t (shape.Scalar r) → IsControl name t r

  pub data BrokenControl (name : Ident) : Breach → Type 0 where
    no_name : {f : Breach} → Misnamed name.pos (names name) f → BrokenControl name f
    no_control :
        {x : Thing} → names name ≡ Known x → ((t : TypeNo) (r : Range) → IsControl name t r → ⊥)
        → BrokenControl name (name.pos ! rule.WrongControl)

  -- The step is 1 if it is left out.
  pub data HasStep : Option Expr → Type 0 where
    by_one : HasStep None
    by_constant : {e : Expr} {k : Kind} → Fixes types names exports e (AConstant k)
        → IsStep (operand k) → HasStep (Some e)

  -- FOR name := start TO limit BY step
  pub data Runs (name : Ident) (start limit : Expr) (step : Option Expr) : Type 0 where
    runs : {t : TypeNo} {r : Range} {k l : Kind} → IsControl name t r
        → Has types names exports start k → IsAssignable types t (operand k)
        → Has types names exports limit l → IsLimit r.base (operand l) → HasStep step
        → Runs name start limit step

  pub data BrokenRun (name : Ident) (start limit : Expr) : Option Expr → Breach → Type 0 where
    in_control : {step : Option Expr} {f : Breach} → BrokenControl name f
        → BrokenRun name start limit step f
    in_start : {step : Option Expr} {f : Breach} → BrokenAsValue types names exports start f
        → BrokenRun name start limit step f
    in_limit : {step : Option Expr} {f : Breach} → BrokenAsValue types names exports limit f
        → BrokenRun name start limit step f
    in_step : {e : Expr} {f : Breach} → BrokenAsConstant types names exports e f
        → BrokenRun name start limit (Some e) f
    wrong_start : {step : Option Expr} {t : TypeNo} {r : Range} {k : Kind} {f : Breach}
        → IsControl name t r → Has types names exports start k
        → Misassigned types t (first start) rule.NotAssignable (operand k) f
        → BrokenRun name start limit step f
    wrong_limit : {step : Option Expr} {t : TypeNo} {r : Range} {k : Kind} {f : Breach}
        → IsControl name t r → Has types names exports limit k
        → Mislimits r.base (first limit) (operand k) f → BrokenRun name start limit step f
    wrong_step : {e : Expr} {k : Kind} {f : Breach} → Fixes types names exports e (AConstant k)
        → Missteps (first e) (operand k) f → BrokenRun name start limit (Some e) f
