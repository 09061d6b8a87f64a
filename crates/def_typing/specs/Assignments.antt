-- What is assigned to what, and which rules are broken in assignments and conditions.
use Rattle.std.specs.Prelude.{◌≡◌, ℕ, ◌-◌, ◌-ℤ◌, false, nat_lt, unsigned_abs, List, length, None}
use Rattle.m2_rule.specs.declared.rule.Rule.TheVariants as rule
use Rattle.m2_tree.specs.declared.pos.Pos.{Pos}
use Rattle.m2_tree.specs.declared.name.Ident.{Ident}
use Rattle.m2_tree.specs.declared.expr.Expr.{Expr}
use Rattle.m2_tree.specs.declared.expr.Expr.TheOpen as layer
use Rattle.m2_tree.specs.declared.expr.Designator.{Designator, out-Designator}
use Rattle.typed_tree.specs.declared.types.TypeNo.{TypeNo}
use Rattle.typed_tree.specs.declared.shape.Scalar.{Scalar as Range}
use Rattle.typed_tree.specs.declared.shape.Shape.TheVariants as shape
use Rattle.typed_tree.specs.declared.known_types.Types.{Types}
use Rattle.typed_tree.specs.Types.{boolean, char}
use Rattle.m2_rule.specs.declared.breach.Breach.{Breach}
use Rattle.def_typing.specs.Shapes.{IsMade}
use Rattle.def_typing.specs.Operators.{◌!◌, Kind, Text, Whole, operand}
use Rattle.def_typing.specs.Things.{Thing, AVariable, AnOpenArray, Standing, content, IsAssignable, Misassigned}
use Rattle.def_typing.specs.Parts.{first}
use Rattle.def_typing.specs.Expressions.{IsPart, Has, Denotes, Fails, Broken, BrokenAsValue}

-- an array of CHAR with at least this many elements: high - low + 1 of them
pub data HasRoom (types : Types) (t : TypeNo) (n : ℕ) : Type 0 where
  has_room : {i : TypeNo} {r : Range} → IsMade types t (shape.Array i char)
      → IsMade types i (shape.Scalar r)
      → nat_lt (unsigned_abs (r.high -ℤ r.low)) (n - 1) ≡ false → HasRoom types t n

-- what a variable of this type takes
pub data MayTake (types : Types) (t : TypeNo) : Kind → Type 0 where
  -- what is assignment compatible
  simple : {k : Kind} → IsAssignable types t (operand k) → MayTake types t k
  -- an array or a record of the same type
  whole : content types t ≡ Whole t → MayTake types t (Whole t)
  -- a string that is no longer than the array
  text : {s : List ℕ} → HasRoom types t (length s) → MayTake types t (Text s)

-- the left side of an assignment is a variable, and nothing is assigned to an open array
pub data IsTarget : Thing → Type 0 where
  a_variable : {t : TypeNo} → IsTarget (AVariable t)
  an_open_array : {t : TypeNo} → IsTarget (AnOpenArray t)

-- the refusals of a value that is assigned
pub data Untaken (types : Types) (at : Pos) (k : Kind) : Thing → Breach → Type 0 where
  of_type : {t : TypeNo} {f : Breach} → (content types t ≡ Whole t → ⊥)
      → Misassigned types t at rule.NotAssignable (operand k) f
      → Untaken types at k (AVariable t) f
  of_whole : {t : TypeNo} → content types t ≡ Whole t → (MayTake types t k → ⊥)
      → Untaken types at k (AVariable t) (at ! rule.NotAssignable)
  of_open_array : {t : TypeNo} → Untaken types at k (AnOpenArray t) (at ! rule.NotAssignable)

module _ (types : Types) (names : Ident → Standing) (exports : ℕ → Ident → Standing) where
  -- what is broken in a designator
  pub data BrokenDesignator (d : Designator) (f : Breach) : Type 0 where
    at_designator : Fails types names exports (layer.Use d None) f → BrokenDesignator d f
    in_designator : {x : Expr} → IsPart x (layer.Use d None) → Broken types names exports x f
        → BrokenDesignator d f

  -- d := e
  pub data Assigns (d : Designator) (e : Expr) : Type 0 where
    assigns : {t : TypeNo} {k : Kind} → Denotes types names exports d (AVariable t)
        → Has types names exports e k → MayTake types t k → Assigns d e

  pub data BrokenAssignment (d : Designator) (e : Expr) : Breach → Type 0 where
    on_the_left : {f : Breach} → BrokenDesignator d f → BrokenAssignment d e f
    on_the_right : {f : Breach} → BrokenAsValue types names exports e f → BrokenAssignment d e f
    no_target : {x : Thing} → Denotes types names exports d x → (IsTarget x → ⊥)
        → BrokenAssignment d e ((out-Designator d).name.pos ! rule.WrongType)
    unassignable : {x : Thing} {k : Kind} {f : Breach} → Denotes types names exports d x
        → IsTarget x → Has types names exports e k → Untaken types (first e) k x f
        → BrokenAssignment d e f

  -- a condition is a BOOLEAN
  pub data IsCondition (e : Expr) : Type 0 where
    is_condition : {k : Kind} → Has types names exports e k → IsAssignable types boolean (operand k)
        → IsCondition e

  pub data BrokenCondition (e : Expr) (f : Breach) : Type 0 where
    in_condition : BrokenAsValue types names exports e f → BrokenCondition e f
    no_boolean : {k : Kind} → Has types names exports e k
        → Misassigned types boolean (first e) rule.WrongType (operand k) f → BrokenCondition e f
