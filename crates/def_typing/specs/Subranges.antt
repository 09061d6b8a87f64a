-- Subranges, and which rules are broken in them.
use Rattle.std.specs.Prelude.{◌≡◌, ℕ, ℤ, Option, Some, None}
use Rattle.m2_rule.specs.declared.breach.Breach.{Breach}
use Rattle.m2_rule.specs.declared.rule.Rule.TheVariants as rule
use Rattle.m2_tree.specs.declared.pos.Pos.{Pos}
use Rattle.m2_tree.specs.declared.name.Ident.{Ident}
use Rattle.m2_tree.specs.declared.expr.Expr.{Expr}
use Rattle.m2_tree.specs.declared.expr.Qualified.{Qualified}
use Rattle.typed_tree.specs.declared.types.TypeNo.{TypeNo}
use Rattle.typed_tree.specs.declared.shape.Scalar.{Scalar as Range}
use Rattle.typed_tree.specs.declared.shape.Shape.TheVariants as shape
use Rattle.typed_tree.specs.declared.known_types.Types.{Types}
use Rattle.def_typing.specs.Shapes.{IsMade}
use Rattle.def_typing.specs.Amounts.{Constant, GoTogether, Suits, Within}
use Rattle.def_typing.specs.Operators.{◌!◌, Kind, Scalar, operand}
use Rattle.def_typing.specs.Things.{Standing}
use Rattle.def_typing.specs.Parts.{first}
use Rattle.def_typing.specs.Constants.{AConstant, Fixes}
use Rattle.def_typing.specs.Expressions.{BrokenAsConstant}
use Rattle.def_typing.specs.Cases.{SelectsIn, IsOfBase, IsEmpty}
use Rattle.def_typing.specs.TypeNames.{NamesType, BrokenTypeName}
use Rattle.def_typing.specs.Headings.{begins_at}

-- a bound suits the type that the subrange is under
pub record IsUnder (r : Range) (sort : Option TypeNo) (n : ℤ) : Type 0 where
  pub of_base : IsOfBase (Some r.base) sort
  pub in_type : Within r.low n r.high

pub data Exceeds (at : Pos) (r : Range) (sort : Option TypeNo) (n : ℤ) : Breach → Type 0 where
  other_base : (IsOfBase (Some r.base) sort → ⊥) → Exceeds at r sort n (at ! rule.WrongType)
  not_in_type : IsOfBase (Some r.base) sort → (Within r.low n r.high → ⊥)
      → Exceeds at r sort n (at ! rule.OutOfRange)

module _ (types : Types) (names : Ident → Standing) (exports : ℕ → Ident → Standing) where
  -- a bound is a constant scalar
  pub data IsTypeBound (e : Expr) (sort : Option TypeNo) (n : ℤ) : Type 0 where
    is_type_bound : {k : Kind} → Fixes types names exports e (AConstant k)
        → operand k ≡ Scalar (Constant sort n) → IsTypeBound e sort n

  pub data BrokenTypeBound (e : Expr) : Breach → Type 0 where
    in_type_bound : {f : Breach} → BrokenAsConstant types names exports e f → BrokenTypeBound e f
    no_ordinal : {k : Kind} → Fixes types names exports e (AConstant k)
        → ((sort : Option TypeNo) (n : ℤ) → operand k ≡ Scalar (Constant sort n) → ⊥)
        → BrokenTypeBound e (first e ! rule.WrongType)

  -- the scalar type of a name
  pub data NamesRange (q : Qualified) (r : Range) : Type 0 where
    names_range : {t : TypeNo} → NamesType names exports q t → IsMade types t (shape.Scalar r)
        → NamesRange q r

  module _ (low high : Expr) where
    -- Without a name the base is the type of the bounds. Of numbers it is INTEGER if the first is
    -- negative, and else CARDINAL.
    pub data IsSubrange : Option Qualified → Range → Type 0 where
      of_bounds : {s t u : Option TypeNo} {n m : ℤ} {base : TypeNo} → IsTypeBound low s n
          → IsTypeBound high t m → GoTogether s t u → SelectsIn (Constant u n) base
          → (IsEmpty s t n m → ⊥) → Suits (Some base) (Constant s n)
          → Suits (Some base) (Constant t m)
          → IsSubrange None (record { base = base; low = n; high = m })
      of_type : {q : Qualified} {r : Range} {s t : Option TypeNo} {n m : ℤ} → NamesRange q r
          → IsTypeBound low s n → IsTypeBound high t m → IsUnder r s n → IsUnder r t m
          → (IsEmpty s t n m → ⊥)
          → IsSubrange (Some q) (record { base = r.base; low = n; high = m })

    pub data BrokenSubrange : Option Qualified → Breach → Type 0 where
      in_low : {q : Option Qualified} {f : Breach} → BrokenTypeBound low f → BrokenSubrange q f
      in_high : {q : Option Qualified} {f : Breach} → BrokenTypeBound high f → BrokenSubrange q f
      empty : {q : Option Qualified} {s t : Option TypeNo} {n m : ℤ} → IsTypeBound low s n
          → IsTypeBound high t m → IsEmpty s t n m → BrokenSubrange q (first low ! rule.EmptyRange)
      unlike : {s t : Option TypeNo} {n m : ℤ} → IsTypeBound low s n → IsTypeBound high t m
          → ((u : Option TypeNo) → GoTogether s t u → ⊥)
          → BrokenSubrange None (first high ! rule.WrongType)
      low_not_in_base : {s t u : Option TypeNo} {n m : ℤ} {base : TypeNo} → IsTypeBound low s n
          → IsTypeBound high t m → GoTogether s t u → SelectsIn (Constant u n) base
          → (Suits (Some base) (Constant s n) → ⊥)
          → BrokenSubrange None (first low ! rule.OutOfRange)
      high_not_in_base : {s t u : Option TypeNo} {n m : ℤ} {base : TypeNo} → IsTypeBound low s n
          → IsTypeBound high t m → GoTogether s t u → SelectsIn (Constant u n) base
          → (Suits (Some base) (Constant t m) → ⊥)
          → BrokenSubrange None (first high ! rule.OutOfRange)
      in_type_name : {q : Qualified} {f : Breach} → BrokenTypeName names exports q f
          → BrokenSubrange (Some q) f
      no_scalar_type : {q : Qualified} {t : TypeNo} → NamesType names exports q t
          → ((r : Range) → IsMade types t (shape.Scalar r) → ⊥)
          → BrokenSubrange (Some q) (begins_at q.module q.name ! rule.NoType)
      low_exceeds : {q : Qualified} {r : Range} {sort : Option TypeNo} {n : ℤ} {f : Breach}
          → NamesRange q r → IsTypeBound low sort n → Exceeds (first low) r sort n f
          → BrokenSubrange (Some q) f
      high_exceeds : {q : Qualified} {r : Range} {sort : Option TypeNo} {n : ℤ} {f : Breach}
          → NamesRange q r → IsTypeBound high sort n → Exceeds (first high) r sort n f
          → BrokenSubrange (Some q) f
