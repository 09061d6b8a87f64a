-- Constant expressions of declarations, read again behind the headings of the block, as in the body
-- of a procedure that stands there.
use Rattle.std.specs.Prelude.{ℕ, ◌+◌, ◌==◌, cond, List, Option, Some, None, Result, Ok}
use Rattle.std.specs.List.{fold}
use Rattle.m2_tree.specs.declared.name.Ident.{Ident}
use Rattle.m2_tree.specs.declared.expr.Expr.{Expr}
use Rattle.m2_tree.specs.declared.decl.Constant.{Constant}
use Rattle.m2_tree.specs.declared.decl.TypeDecl.{TypeDecl}
use Rattle.m2_tree.specs.declared.decl.Variables.{Variables}
use Rattle.m2_tree.specs.declared.decl.Def.{Def}
use Rattle.m2_tree.specs.declared.decl.Def.TheVariants as def
use Rattle.m2_tree.specs.declared.decl.Simple.{Simple}
use Rattle.m2_tree.specs.declared.decl.Simple.TheVariants as simple
use Rattle.m2_tree.specs.declared.decl.TypeExpr.{TypeExpr, TypeExpr-F, fold-TypeExpr}
use Rattle.m2_tree.specs.declared.decl.TypeExpr.TheOpen as layer
use Rattle.m2_tree.specs.declared.decl.Field.{Field, Field-F, fold-Field}
use Rattle.typed_tree.specs.Names.{place_of}
use Rattle.check_scope.specs.declared.scope.Scope.{Scope}
use Rattle.check_scope.specs.Inwards.{inwards}
use Rattle.check_scope.specs.Elaborated.{Gathers, beside}
use Rattle.check_const.specs.Parts.{constant}
use Rattle.check_expr.specs.Meanings.{part}
use Rattle.check_definition.specs.Declare.{nothing_reported}

-- what is reported so far, and how many names of the block stand in front
abbrev pub Passing : Type 0 → Type 0
Passing T = Result (Unit {0}) T × ℕ

-- ---- names

abbrev pub one_more_if : Option ℕ → ℕ → ℕ
one_more_if None n = n
one_more_if (Some place) n = cond (place == n) (n + 1) n

-- One more name stands in front, unless it did already.
abbrev pub passed : {T : Type 0} → Scope T → ℕ → Ident → ℕ
passed s n name = one_more_if (place_of name.name s.own) n

abbrev pub all_passed : {T : Type 0} → Scope T → ℕ → List Ident → ℕ
all_passed s n names = fold (passed s) n names

module _ (g : Gathers) where
  -- ---- constant expressions

  abbrev pub reported_at : Scope g.Reported → Expr → Result (Unit {0}) g.Reported
  reported_at s e = nothing_reported (constant g s (part g e))

  abbrev pub again_value : Scope g.Reported → Expr → Passing g.Reported → Passing g.Reported
  again_value s e st = (beside g st.0 (reported_at (inwards s st.1) e), st.1)

  -- ---- types

  abbrev pub Passes : Type 0
  Passes = Scope g.Reported → Passing g.Reported → Passing g.Reported

  abbrev pub again_simple : Simple → Passes
  again_simple (simple.Named q) s st = st
  again_simple (simple.Enumeration at names) s st = (st.0, all_passed s st.1 names)
  again_simple (simple.Subrange of at low high) s st = again_value s high (again_value s low st)

  abbrev pub then_passes : Scope g.Reported → Passing g.Reported → Passes → Passing g.Reported
  then_passes s st f = f s st

  abbrev pub type_layer : TypeExpr-F Passes Passes → Passes
  type_layer (layer.Simple t) s st = again_simple t s st
  type_layer (layer.Array at index of) s st = of s (again_simple index s st)
  type_layer (layer.Record at fields) s st = fold (then_passes s) st fields
  type_layer (layer.Procedure at formals of) s st = st

  abbrev pub field_layer : Field-F Passes Passes → Passes
  field_layer f = f.of

  -- the bounds in a type
  unfoldable pub again_type : TypeExpr → Passes
  again_type = fold-TypeExpr Passes Passes type_layer field_layer

  unfoldable pub again_field : Field → Passes
  again_field = fold-Field Passes Passes type_layer field_layer

  abbrev pub with_field : Scope g.Reported → Passing g.Reported → Field → Passing g.Reported
  with_field s st f = again_field f s st

  -- ---- declarations

  abbrev pub again_constant : Scope g.Reported → Passing g.Reported → Constant
      → Passing g.Reported
  again_constant s st c = let p = again_value s c.value st in (p.0, passed s p.1 c.name)

  abbrev pub again_declared : Scope g.Reported → Passing g.Reported → TypeDecl → Passing g.Reported
  again_declared s st d = again_type d.of s (st.0, passed s st.1 d.name)

  abbrev pub again_variables : Scope g.Reported → Passing g.Reported → Variables
      → Passing g.Reported
  again_variables s st v = again_type v.of s (st.0, all_passed s st.1 v.names)

  abbrev pub again_def : Scope g.Reported → Passing g.Reported → Def → Passing g.Reported
  again_def s st (def.Constants cs) = fold (again_constant s) st cs
  again_def s st (def.Types ts) = fold (again_declared s) st ts
  again_def s st (def.Variables vs) = fold (again_variables s) st vs
  again_def s st (def.Procedure h) = (st.0, passed s st.1 h.name)
