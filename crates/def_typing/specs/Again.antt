-- Constant expressions of declarations, read again behind the headings of the block: a procedure
-- means the same in front of its heading as behind it.
use Rattle.std.specs.Prelude.{◌≡◌, ℕ, Bool, List, [], ◌∷◌, ◌++◌, Option}
use Rattle.m2_rule.specs.declared.breach.Breach.{Breach}
use Rattle.m2_tree.specs.declared.pos.Pos.{Pos}
use Rattle.m2_tree.specs.declared.name.Ident.{Ident}
use Rattle.m2_tree.specs.declared.expr.Expr.{Expr}
use Rattle.m2_tree.specs.declared.expr.Qualified.{Qualified}
use Rattle.m2_tree.specs.declared.decl.Constant.{Constant}
use Rattle.m2_tree.specs.declared.decl.TypeDecl.{TypeDecl}
use Rattle.m2_tree.specs.declared.decl.Variables.{Variables}
use Rattle.m2_tree.specs.declared.decl.Simple.{Simple}
use Rattle.m2_tree.specs.declared.decl.Simple.TheVariants as simple
use Rattle.m2_tree.specs.declared.decl.TypeExpr.{TypeExpr, out-TypeExpr}
use Rattle.m2_tree.specs.declared.decl.TypeExpr.TheOpen as layer
use Rattle.m2_tree.specs.declared.decl.Field.{Field, out-Field}
use Rattle.typed_tree.specs.declared.known_types.Types.{Types}
use Rattle.def_typing.specs.Things.{Standing}
use Rattle.def_typing.specs.Parts.{Named}
use Rattle.def_typing.specs.Expressions.{BrokenAsConstant}
use Rattle.def_typing.specs.TypeExprs.{constants_listed, constants_in}
use Rattle.def_typing.specs.Declarations.{Declaration, OfConstant, OfType, OfVariables, names_of, constants_of}
use Rattle.def_typing.specs.Seen.{Sees}

-- ---- where a constant expression stands

module _ (e : Expr) where
  -- It is a bound of a subrange.
  pub data IsBoundOf : Simple → Type 0 where
    is_low : {of : Option Qualified} {at : Pos} {high : Expr}
        → IsBoundOf (simple.Subrange of at e high)
    is_high : {of : Option Qualified} {at : Pos} {low : Expr}
        → IsBoundOf (simple.Subrange of at low e)

  mutual
    -- It is a bound in a type: from the names in front of the type to those in front of the bound.
    -- Constants of an enumeration are known from their list on.
    pub data IsBoundIn : List Ident → TypeExpr → List Ident → Type 0 where
      of_simple : {t : TypeExpr} {x : Simple} {front : List Ident} → out-TypeExpr t ≡ layer.Simple x
          → IsBoundOf x → IsBoundIn front t front
      of_index : {t of : TypeExpr} {at : Pos} {index : Simple} {front : List Ident}
          → out-TypeExpr t ≡ layer.Array at index of → IsBoundOf index → IsBoundIn front t front
      of_elements : {t of : TypeExpr} {at : Pos} {index : Simple} {front names : List Ident}
          → out-TypeExpr t ≡ layer.Array at index of
          → IsBoundIn (front ++ constants_listed index) of names → IsBoundIn front t names
      of_fields : {t : TypeExpr} {at : Pos} {fields : List Field} {front names : List Ident}
          → out-TypeExpr t ≡ layer.Record at fields → IsBoundAmong front fields names
          → IsBoundIn front t names

    pub data IsBoundAmong : List Ident → List Field → List Ident → Type 0 where
      of_first : {f : Field} {rest : List Field} {front names : List Ident}
          → IsBoundIn front (out-Field f).of names → IsBoundAmong front (f ∷ rest) names
      of_later : {f : Field} {rest : List Field} {front names : List Ident}
          → IsBoundAmong (front ++ constants_in (out-Field f).of) rest names
          → IsBoundAmong front (f ∷ rest) names

  -- It stands in a declaration: from the names in front of the declaration to those in front of it.
  pub data StandsIn (front : List Ident) : Declaration → List Ident → Type 0 where
    as_value : {c : Constant} → c.value ≡ e → StandsIn front (OfConstant c) front
    in_type : {d : TypeDecl} {names : List Ident} → IsBoundIn (front ++ d.name ∷ []) d.of names
        → StandsIn front (OfType d) names
    in_variables : {v : Variables} {names : List Ident} → IsBoundIn (front ++ v.names) v.of names
        → StandsIn front (OfVariables v) names

-- ---- what is broken in them

-- The types that are known behind the block, what modules export, which names are taken, the
-- declarations of the block, and what names stand for behind it.
module _ (types : Types) (exports : ℕ → Ident → Standing) (taken : List ℕ → Bool)
    (block : List Declaration) (names : Ident → Standing) where
  -- Each is read as in the body of a procedure that stands there, behind these names.
  pub data BrokenAgain : List Ident → List Declaration → Breach → Type 0 where
    again : {front : List Ident} {d : Declaration} {ds : List Declaration} {e : Expr}
        {before : List Ident} {f : Breach} (seen : Ident → Standing)
        → StandsIn e front d before
        → ((name : Ident) → Sees taken block (Named before) names name (seen name))
        → BrokenAsConstant types seen exports e f
        → BrokenAgain front (d ∷ ds) f
    further : {front : List Ident} {d : Declaration} {ds : List Declaration} {f : Breach}
        → BrokenAgain (front ++ (names_of d ++ constants_of d)) ds f → BrokenAgain front (d ∷ ds) f
