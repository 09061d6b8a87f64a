-- What type expressions mark and what they make: a fact of each layer is a fact of all trees.
use Rattle.std.proofs.Common.{◌≡◌, sym, ap, subst, ◌∙◌}
use Rattle.m2_tree.specs.declared.decl.TypeExpr.{TypeExpr, TypeExpr-F, out-TypeExpr, roll-TypeExpr, out-roll-TypeExpr, map-TypeExpr, fold_out-TypeExpr, ind-TypeExpr}
use Rattle.m2_tree.specs.declared.decl.Field.{Field, Field-F, out-Field, roll-Field, out-roll-Field, map-Field, fold_out-Field}
use Rattle.check_scope.specs.Elaborated.{Gathers}
use Rattle.check_type_expr.specs.Made.{Makes, MakesFields, type_of, field_list}
use Rattle.check_type_expr.specs.Made as made
use Rattle.check_definition.specs.Marking.{Marks, marked_in, marked_field}
use Rattle.check_definition.specs.Marking as marking

-- ---- a fact of each tree and what a function gives for it, shown of the layers

module _ {A B : Type 0} (f : TypeExpr → A) (h : Field → B) (P : TypeExpr → A → Type 0) (Q : Field → B → Type 0) where
  -- trees of which the facts are known
  abbrev pub Typed : Type 0
  Typed = (t : TypeExpr) × P t (f t)

  abbrev pub Fielded : Type 0
  Fielded = (d : Field) × Q d (h d)

  abbrev pub bare : TypeExpr-F Typed Fielded → TypeExpr-F TypeExpr Field
  bare y = map-TypeExpr Typed Fielded TypeExpr Field (λ t. t.0) (λ d. d.0) y

  abbrev pub bare_field : Field-F Typed Fielded → Field-F TypeExpr Field
  bare_field y = map-Field Typed Fielded TypeExpr Field (λ t. t.0) (λ d. d.0) y

  abbrev pub opened : TypeExpr-F TypeExpr Field → TypeExpr-F A B
  opened x = map-TypeExpr TypeExpr Field A B f h x

  abbrev pub opened_field : Field-F TypeExpr Field → Field-F A B
  opened_field x = map-Field TypeExpr Field A B f h x

  module _ (of : TypeExpr-F A B → A) (of_field : Field-F A B → B)
      (at : (t : TypeExpr) (x : TypeExpr-F TypeExpr Field) → out-TypeExpr t ≡ x → f t ≡ of (opened x))
      (at_field : (d : Field) (x : Field-F TypeExpr Field) → out-Field d ≡ x → h d ≡ of_field (opened_field x))
      (types : (y : TypeExpr-F Typed Fielded) → P (roll-TypeExpr (bare y)) (of (opened (bare y))))
      (fields : (y : Field-F Typed Fielded)
      → Q (roll-Field (bare_field y)) (of_field (opened_field (bare_field y)))) where
    abbrev PT : TypeExpr → Type 0
    PT t = P t (f t)

    abbrev PF : Field → Type 0
    PF d = Q d (h d)

    type_step : (x : TypeExpr-F TypeExpr Field) (y : TypeExpr-F Typed Fielded) → bare y ≡ x → PT (roll-TypeExpr x)
    type_step x y q =
        let t : TypeExpr = roll-TypeExpr (bare y) in
        subst (λ (z : TypeExpr-F TypeExpr Field). PT (roll-TypeExpr z)) q
        (subst (λ (a : A). P t a) (sym (at t (bare y) (out-roll-TypeExpr (bare y)))) (types y))

    field_step : (x : Field-F TypeExpr Field) (y : Field-F Typed Fielded) → bare_field y ≡ x → PF (roll-Field x)
    field_step x y q =
        let d : Field = roll-Field (bare_field y) in
        subst (λ (z : Field-F TypeExpr Field). PF (roll-Field z)) q
        (subst (λ (b : B). Q d b) (sym (at_field d (bare_field y) (out-roll-Field (bare_field y)))) (fields y))

    pub all_trees : (t : TypeExpr) → PT t
    all_trees = ind-TypeExpr PT PF type_step field_step

-- ---- marks

module _ {T : Type 0} where
  abbrev pub marks_opened : TypeExpr-F TypeExpr Field → TypeExpr-F (Marks T) (Marks T)
  marks_opened x = map-TypeExpr TypeExpr Field (Marks T) (Marks T) marked_in marked_field x

  abbrev pub marks_opened_field : Field-F TypeExpr Field → Field-F (Marks T) (Marks T)
  marks_opened_field x = map-Field TypeExpr Field (Marks T) (Marks T) marked_in marked_field x

  pub marks_at : (t : TypeExpr) (x : TypeExpr-F TypeExpr Field) → out-TypeExpr t ≡ x
      → marked_in {T = T} t ≡ marking.type_layer (marks_opened x)
  unfolding marked_in marked_field
  marks_at t x h =
      fold_out-TypeExpr (Marks T) (Marks T) marking.type_layer marking.field_layer t
      ∙ ap (λ (y : TypeExpr-F TypeExpr Field). marking.type_layer (marks_opened y)) h

  pub marks_at_field : (d : Field) (x : Field-F TypeExpr Field) → out-Field d ≡ x
      → marked_field {T = T} d ≡ marking.field_layer (marks_opened_field x)
  unfolding marked_in marked_field
  marks_at_field d x h =
      fold_out-Field (Marks T) (Marks T) marking.type_layer marking.field_layer d
      ∙ ap (λ (y : Field-F TypeExpr Field). marking.field_layer (marks_opened_field y)) h

-- ---- types that are made

module _ (g : Gathers) where
  abbrev pub types_opened : TypeExpr-F TypeExpr Field → TypeExpr-F (Makes g) (MakesFields g)
  types_opened x = map-TypeExpr TypeExpr Field (Makes g) (MakesFields g) (type_of g) (field_list g) x

  abbrev pub fields_opened : Field-F TypeExpr Field → Field-F (Makes g) (MakesFields g)
  fields_opened x = map-Field TypeExpr Field (Makes g) (MakesFields g) (type_of g) (field_list g) x

  pub types_at : (t : TypeExpr) (x : TypeExpr-F TypeExpr Field) → out-TypeExpr t ≡ x
      → type_of g t ≡ made.type_layer g (types_opened x)
  unfolding type_of field_list
  types_at t x h =
      fold_out-TypeExpr (Makes g) (MakesFields g) (made.type_layer g) (made.field_layer g) t
      ∙ ap (λ (y : TypeExpr-F TypeExpr Field). made.type_layer g (types_opened y)) h

  pub fields_at : (d : Field) (x : Field-F TypeExpr Field) → out-Field d ≡ x
      → field_list g d ≡ made.field_layer g (fields_opened x)
  unfolding type_of field_list
  fields_at d x h =
      fold_out-Field (Makes g) (MakesFields g) (made.type_layer g) (made.field_layer g) d
      ∙ ap (λ (y : Field-F TypeExpr Field). made.field_layer g (fields_opened y)) h
