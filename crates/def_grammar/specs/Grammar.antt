-- Grammars as data: what stands on the right of a production.
use Rattle.std.specs.Prelude.{List, Option, ◌⊎◌}
use Rattle.m2_tree.specs.declared.token.Symbol.{Symbol}
use Rattle.m2_tree.specs.declared.token.Token.{Token}
use Rattle.def_grammar.specs.declared.kind.Kind.{Kind}
use Rattle.def_grammar.specs.declared.kind.Kind.TheVariants as the
use Rattle.def_grammar.specs.Rule.{Rule, Ast}

-- what a part of a production leaves in the tree
pub data Ty : Type 0 where
  token : Ty
  ast : Rule → Ty
  both : Ty → Ty → Ty
  either : Ty → Ty → Ty
  maybe : Ty → Ty
  list : Ty → Ty

abbrev pub El : Ty → Type 0
El token = Token
El (ast r) = Ast r
El (both a b) = El a × El b
El (either a b) = El a ⊎ El b
El (maybe a) = Option (El a)
El (list a) = List (El a)

infixr 40 ◌·◌
infixr 20 ◌∣◌
pub data Gr : Ty → Type 0 where
  -- a token of this kind, or of one of those
  tok : Kind → List Kind → Gr token
  rule : (r : Rule) → Gr (ast r)
  ◌·◌ : {a b : Ty} → Gr a → Gr b → Gr (both a b)
  ◌∣◌ : {a b : Ty} → Gr a → Gr b → Gr (either a b)
  -- a token that leaves nothing in the tree, before a part or behind it
  lead : {a : Ty} → Kind → Gr a → Gr a
  trail : {a : Ty} → Gr a → Kind → Gr a
  -- [ ] and { }
  opt : {a : Ty} → Gr a → Gr (maybe a)
  many : {a : Ty} → Gr a → Gr (list a)
  -- a part that counts as one more level of nesting
  nest : {a : Ty} → Gr a → Gr a
  -- a name, a part, and the same name again
  named : {a : Ty} → Gr a → Gr (both token a)

-- a word or a symbol, before a part or behind it
infixr 40 ◌▸◌
abbrev pub ◌▸◌ : {a : Ty} → Symbol → Gr a → Gr a
s ▸ g = lead (the.Symbol s) g

infixl 42 ◌◂◌
abbrev pub ◌◂◌ : {a : Ty} → Gr a → Symbol → Gr a
g ◂ s = trail g (the.Symbol s)

pub record Production : Type 0 where
  pub shape : Ty
  pub form : Gr shape

abbrev pub is : {a : Ty} → Gr a → Production
is g = record { shape = _; form = g }
