-- Types that are written, with other numbers of modules.
use Rattle.check_const.specs.Parts.{Part, constant}
use Rattle.check_const.specs.declared.operand.Ordinal.{Ordinal}
use Rattle.check_expr.specs.Meanings.{part}
use Rattle.check_scope.specs.Elaborated.{Gathers, beside, ◌▷◌}
use Rattle.check_scope.specs.Scopes.{State}
use Rattle.check_scope.specs.declared.scope.Scope.{Scope}
use Rattle.check_type_expr.specs.Fields.{no_fields, with_name}
use Rattle.check_type_expr.specs.Headings.{procedure_type}
use Rattle.check_type_expr.specs.Made.{type_of, scalar_made, type_layer, simple_type, Makes, record_type, too_many, enumeration_constant, simple_place, then_fields, fields_named, nothing_of, with_made, enumeration_scalar, index_type, scalar_named, array_made, record_of, field_type, next_type, MakesFields, index_in, enumeration, field_list, array_type, enumerate_name, enumeration_of, field_layer, with_shape, subrange, bound_at}
use Rattle.check_type_expr.specs.Subranges.{bound_of, subrange_between, under}
use Rattle.check_type_expr.specs.declared.field.Fields.{Fields}
use Rattle.def_exchange.specs.Moved.{moved_scalar, moved_type, moved_types, Exchange}
use Rattle.law_exchange_types.proofs.Basics.{fold_moves}
use Rattle.law_exchange_types.proofs.Exprs.{part_moves}
use Rattle.law_exchange_types.proofs.Fields.{with_name_moves}
use Rattle.law_exchange_types.proofs.Fixed.{PartMoves, constant_moves}
use Rattle.law_exchange_types.proofs.Headings.{procedure_type_moves}
use Rattle.law_exchange_types.proofs.InScope.{declare_name_moves}
use Rattle.law_exchange_types.proofs.Known.{cells_at_moves}
use Rattle.law_exchange_types.proofs.MadePieces.{scalar_made_moves, next_type_moves, with_shape_moves, with_made_moves, scalar_named_moves, index_in_moves, array_made_moves, record_of_moves, field_type_moves, nothing_of_moves}
use Rattle.law_exchange_types.proofs.Named.{named_type_moves}
use Rattle.law_exchange_types.proofs.Subranges.{bound_of_moves, subrange_between_moves, under_moves}
use Rattle.law_exchange_types.specs.Constants.{moved_ordinal}
use Rattle.law_exchange_types.specs.Pieces.{map_ok, moved_pair, moved_triple, same}
use Rattle.law_exchange_types.specs.Scopes.{moved_scope, moved_state_of}
use Rattle.law_exchange_types.specs.Types.{moved_fields}
use Rattle.law_folds.proofs.TypeFolds.{all_trees, bare, bare_field, types_opened, fields_opened, types_at, fields_at}
use Rattle.m2_tree.specs.declared.decl.Field.{Field, Field-F}
use Rattle.m2_tree.specs.declared.decl.Simple.{Simple}
use Rattle.m2_tree.specs.declared.decl.TypeExpr.{TypeExpr, TypeExpr-F}
use Rattle.m2_tree.specs.declared.expr.Qualified.{Qualified}
use Rattle.m2_tree.specs.declared.name.Ident.{Ident}
use Rattle.m2_tree.specs.declared.pos.Pos.{Pos}
use Rattle.std.proofs.Common.{◌≡◌, Err, List, None, Ok, Option, Result, Some, ap, ap₂, fold, map, pos, refl, ℕ, ◌+◌, ◌∷◌, ◌∙◌, []}
use Rattle.typed_tree.specs.Known.{cells_at}
use Rattle.typed_tree.specs.declared.shape.Scalar.{Scalar}
use Rattle.typed_tree.specs.declared.types.TypeNo.{TypeNo}
use Rattle.check_type_expr.specs.Made as made
use Rattle.m2_tree.specs.declared.decl.Simple.TheVariants as simple
use Rattle.m2_tree.specs.declared.decl.TypeExpr.TheOpen as layer

module _ (z : Exchange) (g : Gathers) where
  abbrev Spread : Type 0
  Spread = Scope g.Reported × Fields × Result (Unit {0}) g.Reported

  abbrev moved_spread : Spread → Spread
  moved_spread st = (moved_scope z st.0, moved_fields z st.1, st.2)

  abbrev MakeMoves : Makes g → Type 0
  MakeMoves f = (s : Scope g.Reported) → f (moved_scope z s) ≡ moved_state_of z (moved_type z) (f s)

  abbrev SpreadMoves : MakesFields g → Type 0
  SpreadMoves f = (st : Spread) → f (moved_spread st) ≡ moved_spread (f st)

  -- ---- subranges

  bound_moves : (s : Scope g.Reported) (p : Part g.Reported) → PartMoves z g p
      → bound_at g (moved_scope z s) p ≡ map_ok (moved_ordinal z) (bound_at g s p)
  bound_moves s p h = ap (bound_of g p.at) (constant_moves z g s p h) ∙ bound_of_moves z g p.at (constant g s p)

  subrange_moves : (s : Scope g.Reported) (q : Option Qualified) (low high : Part g.Reported) → PartMoves z g low
      → PartMoves z g high
      → subrange g (moved_scope z s) q low high ≡ map_ok (moved_scalar z) (subrange g s q low high)
  subrange_moves s None low high h k =
      ap₂ (λ (a b : Result Ordinal g.Reported). subrange_between g low.at a high.at b) (bound_moves s low h)
      (bound_moves s high k) ∙ subrange_between_moves z g low.at (bound_at g s low) high.at (bound_at g s high)
  subrange_moves s (Some q) low high h k =
      ap₂ (λ (a b : Result Ordinal g.Reported). under g (scalar_named g (moved_scope z s) q) low.at a high.at b)
      (bound_moves s low h) (bound_moves s high k)
      ∙ (ap (λ (u : Result Scalar g.Reported).
      under g u low.at (map_ok (moved_ordinal z) (bound_at g s low)) high.at
      (map_ok (moved_ordinal z) (bound_at g s high)))
      (scalar_named_moves z g s q)
      ∙ under_moves z g (scalar_named g s q) low.at (bound_at g s low) high.at (bound_at g s high))

  -- ---- enumerations

  abbrev from_type : Scope g.Reported → List Ident → TypeNo → State TypeNo g.Reported
  from_type s names t =
      let l = enumeration_of g t (with_shape s (enumeration_scalar t names)) (too_many g names) names in
      (l.0, l.2 ▷ λ fine. Ok t)

  fine_moves : {A B R : Type 0} (f : A → B) (t : A) (r : Result (Unit {0}) R)
      → (r ▷ λ fine. Ok (f t)) ≡ map_ok f (r ▷ λ fine. Ok t)
  fine_moves f t (Ok u) = refl
  fine_moves f t (Err e) = refl

  enumeration_of_moves : (t : TypeNo) (s : Scope g.Reported) (before : Result (Unit {0}) g.Reported)
      (names : List Ident)
      → enumeration_of g (moved_type z t) (moved_scope z s) before names
      ≡ moved_triple (moved_scope z) same same (enumeration_of g t s before names)
  enumeration_of_moves t s before names =
      fold_moves (moved_triple (moved_scope z) same same) (enumerate_name g t) (enumerate_name g (moved_type z t))
      (λ l name. ap (λ (d : State (Unit {0}) g.Reported). (d.0, l.1 + 1, beside g l.2 d.1))
      (declare_name_moves z g l.0 name (Ok (enumeration_constant t (pos l.1))))) (s, 0, before) names

  from_moves : (s : Scope g.Reported) (names : List Ident) (t : TypeNo)
      → from_type (moved_scope z s) names (moved_type z t) ≡ moved_state_of z (moved_type z) (from_type s names t)
  from_moves s names t =
      ap (λ (l : Scope g.Reported × ℕ × Result (Unit {0}) g.Reported). (l.0, l.2 ▷ λ fine. Ok (moved_type z t)))
      (ap (λ (u : Scope g.Reported). enumeration_of g (moved_type z t) u (too_many g names) names)
      (with_shape_moves z s (enumeration_scalar t names))
      ∙ enumeration_of_moves t (with_shape s (enumeration_scalar t names)) (too_many g names) names)
      ∙ ap (λ (r : Result TypeNo g.Reported).
      (moved_scope z (enumeration_of g t (with_shape s (enumeration_scalar t names)) (too_many g names) names).0, r))
      (fine_moves (moved_type z) t
      (enumeration_of g t (with_shape s (enumeration_scalar t names)) (too_many g names) names).2)

  enumeration_moves : (s : Scope g.Reported) (names : List Ident)
      → enumeration g (moved_scope z s) names ≡ moved_state_of z (moved_type z) (enumeration g s names)
  enumeration_moves s names =
      ap (from_type (moved_scope z s) names) (next_type_moves z s) ∙ from_moves s names (next_type s)

  -- ---- simple types

  simple_moves : (s : Scope g.Reported) (t : Simple)
      → simple_type g (moved_scope z s) t ≡ moved_state_of z (moved_type z) (simple_type g s t)
  simple_moves s (simple.Named q) =
      ap (λ (r : Result TypeNo g.Reported). (moved_scope z s, r)) (named_type_moves z g s q)
  simple_moves s (simple.Enumeration at names) = enumeration_moves s names
  simple_moves s (simple.Subrange q at low high) =
      ap (λ (r : Result Scalar g.Reported). with_made (moved_scope z s) (scalar_made r))
      (subrange_moves s q (part g low) (part g high) (part_moves z g low) (part_moves z g high))
      ∙ (ap (with_made (moved_scope z s)) (scalar_made_moves z (subrange g s q (part g low) (part g high)))
      ∙ with_made_moves z s (scalar_made (subrange g s q (part g low) (part g high))))

  index_moves : (s : Scope g.Reported) (t : Simple)
      → index_type g (moved_scope z s) t ≡ moved_state_of z (moved_type z) (index_type g s t)
  index_moves s t =
      ap (λ (i : State TypeNo g.Reported). (i.0, index_in g i.0.types (simple_place t) i.1)) (simple_moves s t)
      ∙ ap (λ (r : Result TypeNo g.Reported). (moved_scope z (simple_type g s t).0, r))
      (index_in_moves z g (simple_type g s t).0.types (simple_place t) (simple_type g s t).1)

  -- ---- the layers

  array_type_moves : (at : Pos) (i : State TypeNo g.Reported) (m : Makes g) → MakeMoves m
      → array_type g at (moved_state_of z (moved_type z) i) m ≡ moved_state_of z (moved_type z) (array_type g at i m)
  array_type_moves at i m h =
      ap (λ (e : State TypeNo g.Reported). array_made g at e.0 (map_ok (moved_type z) i.1) e.1) (h i.0)
      ∙ array_made_moves z g at (m i.0).0 i.1 (m i.0).1

  record_type_moves : (at : Pos) (st : Spread)
      → record_type g at (moved_spread st) ≡ moved_state_of z (moved_type z) (record_type g at st)
  record_type_moves at st =
      ap (with_made (moved_scope z st.0)) (record_of_moves z g at st.1 st.2)
      ∙ with_made_moves z st.0 (record_of g at st.1 st.2)

  named_fields_move : (m : State TypeNo g.Reported) (names : List Ident) (fs : Fields)
      (before : Result (Unit {0}) g.Reported)
      → fields_named g (moved_state_of z (moved_type z) m) names (moved_fields z fs) before
      ≡ moved_spread (fields_named g m names fs before)
  named_fields_move m names fs before =
      ap₂ (λ (t : TypeNo) (r : Result (Unit {0}) g.Reported).
      let all = fold (with_name g t (cells_at (moved_types z m.0.types) t)) (moved_fields z fs, beside g before r) names
      in
      (moved_scope z m.0, all.0, all.1)) (field_type_moves z m.1) (nothing_of_moves z m.1)
      ∙ (ap (λ (n : ℕ). let all =
      fold (with_name g (moved_type z (field_type m.1)) n) (moved_fields z fs, beside g before (nothing_of m.1)) names
      in
      (moved_scope z m.0, all.0, all.1)) (cells_at_moves z m.0.types (field_type m.1))
      ∙ ap (λ (all : Fields × Result (Unit {0}) g.Reported). (moved_scope z m.0, all.0, all.1))
      (fold_moves (moved_pair (moved_fields z) same)
      (with_name g (field_type m.1) (cells_at m.0.types (field_type m.1)))
      (with_name g (moved_type z (field_type m.1)) (cells_at m.0.types (field_type m.1)))
      (with_name_moves z g (field_type m.1) (cells_at m.0.types (field_type m.1)))
      (fs, beside g before (nothing_of m.1)) names))

  abbrev Typed : Type 0
  Typed = (t : TypeExpr) × MakeMoves (type_of g t)

  abbrev Fielded : Type 0
  Fielded = (d : Field) × SpreadMoves (field_list g d)

  lists_move : (ds : List Fielded) (st : Spread)
      → fold (then_fields g) (moved_spread st) (map (field_list g) (map (λ (d : Fielded). d.0) ds))
      ≡ moved_spread (fold (then_fields g) st (map (field_list g) (map (λ (d : Fielded). d.0) ds)))
  lists_move [] st = refl
  lists_move (d ∷ ds) st =
      ap (λ (u : Spread). fold (then_fields g) u (map (field_list g) (map (λ (d : Fielded). d.0) ds))) (d.1 st)
      ∙ lists_move ds (field_list g d.0 st)

  abbrev bared : TypeExpr-F Typed Fielded → TypeExpr-F TypeExpr Field
  bared y = bare (type_of g) (field_list g) (λ t a. MakeMoves a) (λ d a. SpreadMoves a) y

  abbrev bared_field : Field-F Typed Fielded → Field-F TypeExpr Field
  bared_field y = bare_field (type_of g) (field_list g) (λ t a. MakeMoves a) (λ d a. SpreadMoves a) y

  layer_moves : (y : TypeExpr-F Typed Fielded) → MakeMoves (made.type_layer g (types_opened g (bared y)))
  layer_moves (layer.Simple t) s = simple_moves s t
  layer_moves (layer.Array at index m) s =
      ap (λ (i : State TypeNo g.Reported). array_type g at i (type_of g m.0)) (index_moves s index)
      ∙ array_type_moves at (index_type g s index) (type_of g m.0) m.1
  layer_moves (layer.Record at ds) s =
      ap (record_type g at) (lists_move ds (s, no_fields, Ok tt))
      ∙ record_type_moves at (fold (then_fields g) (s, no_fields, Ok tt)
      (map (field_list g) (map (λ (d : Fielded). d.0) ds)))
  layer_moves (layer.Procedure at formals q) s =
      ap (with_made (moved_scope z s)) (procedure_type_moves z g s formals q)
      ∙ with_made_moves z s (procedure_type g s formals q)

  list_moves : (y : Field-F Typed Fielded) → SpreadMoves (made.field_layer g (fields_opened g (bared_field y)))
  list_moves y st =
      ap (λ (m : State TypeNo g.Reported). fields_named g m y.names (moved_fields z st.1) st.2) (y.of.1 st.0)
      ∙ named_fields_move (type_of g y.of.0 st.0) y.names st.1 st.2

  pub type_moves : (t : TypeExpr) → MakeMoves (type_of g t)
  type_moves =
      all_trees (type_of g) (field_list g) (λ t a. MakeMoves a) (λ d a. SpreadMoves a) (made.type_layer g)
      (made.field_layer g) (types_at g) (fields_at g) layer_moves list_moves
