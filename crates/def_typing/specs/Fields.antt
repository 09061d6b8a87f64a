-- The record that a WITH opens, and what names stand for inside.
use Rattle.std.specs.Prelude.{◌≡◌, ℕ, Bool, false, List, [], ◌∷◌, Option, Some, None}
use Rattle.m2_tree.specs.declared.pos.Pos.{Pos}
use Rattle.m2_tree.specs.declared.name.Ident.{Ident}
use Rattle.m2_tree.specs.declared.expr.Expr.{Expr}
use Rattle.m2_tree.specs.declared.expr.Expr.TheOpen as layer
use Rattle.m2_tree.specs.declared.expr.Selector.{Selector, out-Selector}
use Rattle.m2_tree.specs.declared.expr.Designator.{Designator, out-Designator}
use Rattle.typed_tree.specs.declared.types.TypeNo.{TypeNo}
use Rattle.typed_tree.specs.declared.shape.Shape.TheVariants as shape
use Rattle.typed_tree.specs.declared.known_types.Types.{Types}
use Rattle.def_typing.specs.Shapes.{IsMade}
use Rattle.def_typing.specs.Things.{Thing, AVariable, Standing, Known, Picks, Indexes}

-- ---- inside

-- A field stands for itself, and comes before all other names.
abbrev pub field_or : Option TypeNo → Standing → Standing
field_or None st = st
field_or (Some t) st = Known (AVariable t)

-- It is no variable of the module or the procedure.
abbrev pub own_or : Option TypeNo → Bool → Bool
own_or None own = own
own_or (Some t) own = false

-- ---- where designators lead to

module _ (types : Types) (exports : ℕ → Ident → Standing) where
  -- by components, whatever the subscripts are
  pub data Leads : Thing → List Selector → Thing → Type 0 where
    nowhere_else : {x : Thing} → Leads x [] x
    by_field : {x y z : Thing} {s : Selector} {ss : List Selector} {at : Pos} {name : Ident}
        → out-Selector s ≡ layer.Field at name → Picks types exports name x (Known y)
        → Leads y ss z → Leads x (s ∷ ss) z
    by_index : {x z : Thing} {i t : TypeNo} {s : Selector} {ss : List Selector} {at : Pos}
        {e : Expr} → out-Selector s ≡ layer.Index at e → Indexes types x i t
        → Leads (AVariable t) ss z → Leads x (s ∷ ss) z

  -- a record, by its type and its fields
  pub data LeadsToRecord (names : Ident → Standing) (d : Designator) (t : TypeNo)
      (fields : List (List ℕ × TypeNo)) : Type 0 where
    leads : {x : Thing} → names (out-Designator d).name ≡ Known x
        → Leads x (out-Designator d).selectors (AVariable t)
        → IsMade types t (shape.Record fields) → LeadsToRecord names d t fields
