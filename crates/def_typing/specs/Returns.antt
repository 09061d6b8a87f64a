-- RETURN and EXIT, and which rules are broken in them.
use Rattle.std.specs.Prelude.{ℕ, Bool, true, false, Option, Some, None}
use Rattle.m2_rule.specs.declared.breach.Breach.{Breach}
use Rattle.m2_rule.specs.declared.rule.Rule.TheVariants as rule
use Rattle.m2_tree.specs.declared.pos.Pos.{Pos}
use Rattle.m2_tree.specs.declared.name.Ident.{Ident}
use Rattle.m2_tree.specs.declared.expr.Expr.{Expr}
use Rattle.typed_tree.specs.declared.types.TypeNo.{TypeNo}
use Rattle.typed_tree.specs.declared.known_types.Types.{Types}
use Rattle.def_typing.specs.Operators.{◌!◌, Kind, operand}
use Rattle.def_typing.specs.Things.{Standing, IsAssignable, Misassigned}
use Rattle.def_typing.specs.Parts.{first}
use Rattle.def_typing.specs.Expressions.{Has, BrokenAsValue}

-- what a body gives back
pub data Giving : Type 0 where
  -- a proper procedure, or the body of a module
  Nothing : Giving
  -- a function, with the type of its result
  AResult : TypeNo → Giving
  -- a function in the type of whose result rules are broken
  AnyResult : Giving

pub data IsFunction : Giving → Type 0 where
  with_type : {t : TypeNo} → IsFunction (AResult t)
  without_type : IsFunction AnyResult

-- EXIT leaves the innermost LOOP around it, in the same body.
pub data IsExit : (in_loop : Bool) → Type 0 where
  is_exit : IsExit true

pub data BrokenExit (at : Pos) : (in_loop : Bool) → Breach → Type 0 where
  no_loop : BrokenExit at false (at ! rule.LonelyExit)

module _ (types : Types) (names : Ident → Standing) (exports : ℕ → Ident → Standing) where
  -- RETURN, or RETURN e
  pub data Returns : Giving → Option Expr → Type 0 where
    -- RETURN ends the procedure, in a module's body the body.
    ends : Returns Nothing None
    -- A function returns a value, which is assignment compatible with the type of its result.
    gives : {t : TypeNo} {e : Expr} {k : Kind} → Has types names exports e k
        → IsAssignable types t (operand k) → Returns (AResult t) (Some e)

  pub data BrokenReturn (at : Pos) : Giving → Option Expr → Breach → Type 0 where
    -- with a value in a proper procedure or a body, or without one in a function
    no_function : {e : Expr} → BrokenReturn at Nothing (Some e) (at ! rule.WrongReturn)
    no_value : {w : Giving} → IsFunction w → BrokenReturn at w None (at ! rule.WrongReturn)
    in_value : {w : Giving} {e : Expr} {f : Breach} → BrokenAsValue types names exports e f
        → BrokenReturn at w (Some e) f
    wrong_value : {t : TypeNo} {e : Expr} {k : Kind} {f : Breach} → Has types names exports e k
        → Misassigned types t (first e) rule.NotAssignable (operand k) f
        → BrokenReturn at (AResult t) (Some e) f
