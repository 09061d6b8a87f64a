-- Parts of expressions, where they begin, and what is in lists.
use Rattle.std.specs.Prelude.{◌≡◌, ℕ, List, ◌∷◌, map, Option, Some, None}
use Rattle.m2_tree.specs.declared.pos.Pos.{Pos}
use Rattle.m2_tree.specs.declared.name.Ident.{Ident}
use Rattle.m2_tree.specs.declared.expr.MulOp.{MulOp}
use Rattle.m2_tree.specs.declared.expr.AddOp.{AddOp}
use Rattle.m2_tree.specs.declared.expr.RelOp.{RelOp}
use Rattle.m2_tree.specs.declared.expr.Sign.{Sign}
use Rattle.m2_tree.specs.declared.expr.Operator.{Operator}
use Rattle.m2_tree.specs.declared.expr.Selector.{Selector}
use Rattle.m2_tree.specs.declared.expr.Designator.{Designator}
use Rattle.m2_tree.specs.declared.expr.Item.{Item}
use Rattle.m2_tree.specs.declared.expr.Expr.{Expr, Expr-F, fold-Expr}
use Rattle.m2_tree.specs.declared.expr.Expr.TheOpen as layer
use Rattle.check_const.specs.declared.operator.BinaryOp.{BinaryOp}
use Rattle.check_const.specs.Operators.{mul_op, add_op}

-- ---- places

abbrev pub first_layer : Expr-F Pos (Unit {0}) Pos (Unit {0}) → Pos
first_layer (layer.Number at n) = at
first_layer (layer.Char at c) = at
first_layer (layer.Text at t) = at
first_layer (layer.Set None at items) = at
first_layer (layer.Set (Some name) at items) = name.pos
first_layer (layer.Not at e) = at
first_layer (layer.Bracketed at e) = at
first_layer (layer.Use d args) = d
first_layer (layer.Term e rest) = e
first_layer (layer.Sum None e rest) = e
first_layer (layer.Sum (Some sign) e rest) = sign.pos
first_layer (layer.Relation a o b) = a

-- the place of the first token
unfoldable pub first : Expr → Pos
first =
    fold-Expr Pos (Unit {0}) Pos (Unit {0}) first_layer (λ s. tt) (λ d. d.name.pos) (λ i. tt)

-- ---- operators with their second operands

pub record Operand : Type 0 where
  pub op : BinaryOp
  pub spot : Pos
  pub of : Expr

abbrev pub factors : List (Operator MulOp × Expr) → List Operand
factors xs = map (λ x. record { op = mul_op x.0.op; spot = x.0.pos; of = x.1 }) xs

abbrev pub addends : List (Operator AddOp × Expr) → List Operand
addends xs = map (λ x. record { op = add_op x.0.op; spot = x.0.pos; of = x.1 }) xs

pub data Among {A : Type 0} (x : A) : List A → Type 0 where
  here : {xs : List A} → Among x (x ∷ xs)
  later : {y : A} {xs : List A} → Among x xs → Among x (y ∷ xs)

-- These have a name.
abbrev pub Named : List Ident → List ℕ → Type 0
Named xs n = (x : Ident) × Among x xs × (x.name ≡ n)

-- ---- parts that are operands

pub data IsInner : Expr → Expr-F Expr Selector Designator Item → Type 0 where
  in_not : {at : Pos} {e : Expr} → IsInner e (layer.Not at e)
  in_brackets : {at : Pos} {e : Expr} → IsInner e (layer.Bracketed at e)
  first_factor : {e : Expr} {rest : List (Operator MulOp × Expr)} → IsInner e (layer.Term e rest)
  other_factor : {e : Expr} {rest : List (Operator MulOp × Expr)} {x : Operand}
      → Among x (factors rest) → IsInner x.of (layer.Term e rest)
  first_addend : {sign : Option (Operator Sign)} {e : Expr} {rest : List (Operator AddOp × Expr)}
      → IsInner e (layer.Sum sign e rest)
  other_addend : {sign : Option (Operator Sign)} {e : Expr} {rest : List (Operator AddOp × Expr)}
      {x : Operand} → Among x (addends rest) → IsInner x.of (layer.Sum sign e rest)
  left_side : {a b : Expr} {o : Operator RelOp} → IsInner a (layer.Relation a o b)
  right_side : {a b : Expr} {o : Operator RelOp} → IsInner b (layer.Relation a o b)
