-- Constant expressions, with other numbers of modules.
use Rattle.check_const.specs.Calls.{sort_of, type_argument, unary, bound, conversion_call}
use Rattle.check_const.specs.Denote.{constant_by, of_value, component}
use Rattle.check_const.specs.Operate.{constant_operation, negation}
use Rattle.check_const.specs.Operators.{mul_op, add_op}
use Rattle.check_const.specs.Parts.{joined_bits, named_type, one, standing, signed_first, set_of, element_or_range, Part, Adds, call_value, set_place, first_name, constant, field_of, used_with, relation_value, factor, type_only, element_of, standard_call_value, set_type, single_of, conversion, selection, value_at, Pick, with_item, by_sort, sign_place, term}
use Rattle.check_const.specs.Sets.{span_of}
use Rattle.check_const.specs.declared.call.Sort.{Sort}
use Rattle.check_const.specs.declared.call.Sort.TheVariants.{Unary, Bound, Conversion, Never}
use Rattle.check_const.specs.declared.denoted.Denoted.{Denoted}
use Rattle.check_const.specs.declared.operand.Ordinal.{Ordinal}
use Rattle.check_scope.specs.Elaborated.{Gathers, ◌▷◌}
use Rattle.check_scope.specs.declared.scope.Scope.{Scope}
use Rattle.def_exchange.specs.Moved.{moved_scalar, moved_type, moved_types, moved_value, Exchange}
use Rattle.law_exchange_types.proofs.Calls.{type_argument_moves, unary_moves, bound_moves, conversion_call_moves}
use Rattle.law_exchange_types.proofs.Denote.{constant_by_moves, of_value_moves, component_moves}
use Rattle.law_exchange_types.proofs.Operate.{constant_operation_moves, negation_moves}
use Rattle.law_exchange_types.proofs.PartPieces.{value_at_moves, named_type_moves, single_of_moves, element_of_moves, set_of_moves, set_type_moves, signed_first_moves, relation_value_moves, field_of_moves, first_name_moves}
use Rattle.law_exchange_types.proofs.Sets.{span_of_moves}
use Rattle.law_exchange_types.specs.Constants.{moved_denoted}
use Rattle.law_exchange_types.specs.Pieces.{map_ok, moved_pair, same}
use Rattle.law_exchange_types.specs.Scopes.{moved_scope}
use Rattle.m2_tree.specs.declared.expr.AddOp.{AddOp}
use Rattle.m2_tree.specs.declared.expr.MulOp.{MulOp}
use Rattle.m2_tree.specs.declared.expr.Operator.{Operator}
use Rattle.m2_tree.specs.declared.expr.RelOp.{RelOp}
use Rattle.m2_tree.specs.declared.expr.Sign.{Sign}
use Rattle.m2_tree.specs.declared.name.Ident.{Ident}
use Rattle.m2_tree.specs.declared.pos.Pos.{Pos}
use Rattle.std.proofs.Common.{◌≡◌, Err, List, MatchOption, None, Ok, Option, Result, Some, ap, ap₂, fold, option_map, refl, sym, ℕ, ◌∷◌, ◌∙◌, []}
use Rattle.typed_tree.specs.declared.meaning.Standard.{Standard}
use Rattle.typed_tree.specs.declared.meaning.Value.{Value}
use Rattle.typed_tree.specs.declared.shape.Scalar.{Scalar}
use Rattle.typed_tree.specs.declared.types.TypeNo.{TypeNo}
use Rattle.check_const.specs.declared.denoted.Denoted.TheVariants as denoted

module _ (z : Exchange) (g : Gathers) where
  -- ---- what moves with the scope

  pub record PartMoves (p : Part g.Reported) : Type 0 where
    pub denotes : (s : Scope g.Reported) → p.denotes (moved_scope z s) ≡ map_ok (moved_denoted z) (p.denotes s)
    pub names : (s : Scope g.Reported)
        → p.names (moved_scope z s) ≡ map_ok (option_map (moved_type z)) (p.names s)

  abbrev pub PickMoves : Pick g.Reported → Type 0
  PickMoves p =
      (s : Scope g.Reported) (d : Result Denoted g.Reported)
      → p (moved_scope z s) (map_ok (moved_denoted z) d) ≡ map_ok (moved_denoted z) (p s d)

  abbrev pub AddMoves : Adds g.Reported → Type 0
  AddMoves a = (s : Scope g.Reported) → a (moved_scope z s) ≡ a s

  abbrev pub PartsMove : List (Part g.Reported) → Type 0
  PartsMove [] = Unit {0}
  PartsMove (p ∷ ps) = PartMoves p × PartsMove ps

  abbrev pub PicksMove : List (Pick g.Reported) → Type 0
  PicksMove [] = Unit {0}
  PicksMove (p ∷ ps) = PickMoves p × PicksMove ps

  abbrev pub AddsMove : List (Adds g.Reported) → Type 0
  AddsMove [] = Unit {0}
  AddsMove (p ∷ ps) = AddMoves p × AddsMove ps

  abbrev pub TermsMove : {O : Type 0} → List (Operator O × Part g.Reported) → Type 0
  TermsMove [] = Unit {0}
  TermsMove (p ∷ ps) = PartMoves p.1 × TermsMove ps

  pub standing_moves : (at : Pos) (m : Scope g.Reported → Result Denoted g.Reported)
      → ((s : Scope g.Reported) → m (moved_scope z s) ≡ map_ok (moved_denoted z) (m s)) → PartMoves (standing at m)
  standing_moves at m h = record { denotes = h; names = λ s. ap named_type (h s) ∙ named_type_moves z (m s) }

  pub constant_moves : (s : Scope g.Reported) (p : Part g.Reported) → PartMoves p
      → constant g (moved_scope z s) p ≡ map_ok (moved_value z) (constant g s p)
  constant_moves s p h = ap (constant_by g p.at) (h.denotes s) ∙ constant_by_moves z g p.at (p.denotes s)

  -- ---- calls

  one_moves : (s : Scope g.Reported) (at : Pos) (ps : List (Part g.Reported)) → PartsMove ps
      → one g (moved_scope z s) at ps ≡ map_ok (moved_pair same (moved_value z)) (one g s at ps)
  one_moves s at [] h = refl
  one_moves s at (p ∷ []) h =
      ap (value_at p.at) (constant_moves s p h.0) ∙ value_at_moves z p.at (constant g s p)
  one_moves s at (p ∷ q ∷ ps) h = refl

  named_moves : (s : Scope g.Reported) (p : Part g.Reported) → PartMoves p
      → type_argument g (moved_types z s.types) p.at (p.names (moved_scope z s))
      ≡ map_ok (moved_pair (moved_type z) (moved_scalar z)) (type_argument g s.types p.at (p.names s))
  named_moves s p h =
      ap (type_argument g (moved_types z s.types) p.at) (h.names s) ∙ type_argument_moves z g s.types p.at (p.names s)

  type_only_moves : (s : Scope g.Reported) (at : Pos) (ps : List (Part g.Reported)) → PartsMove ps
      → type_only g (moved_scope z s) at ps
      ≡ map_ok (moved_pair (moved_type z) (moved_scalar z)) (type_only g s at ps)
  type_only_moves s at [] h = refl
  type_only_moves s at (p ∷ []) h = named_moves s p h.0
  type_only_moves s at (p ∷ q ∷ ps) h = refl

  conversion_moves : (s : Scope g.Reported) (at : Pos) (ps : List (Part g.Reported)) → PartsMove ps
      → conversion g (moved_scope z s) at ps ≡ map_ok (moved_value z) (conversion g s at ps)
  conversion_moves s at [] h = refl
  conversion_moves s at (p ∷ []) h = refl
  conversion_moves s at (p ∷ q ∷ []) h =
      ap₂ (λ (t : Result (TypeNo × Scalar) g.Reported) (v : Result Value g.Reported). conversion_call g t q.at v)
      (named_moves s p h.0) (constant_moves s q h.1.0)
      ∙ conversion_call_moves z g (type_argument g s.types p.at (p.names s)) q.at (constant g s q)
  conversion_moves s at (p ∷ q ∷ r ∷ ps) h = refl

  by_sort_moves : (s : Scope g.Reported) (at : Pos) (f : Standard) (ps : List (Part g.Reported)) (o : Sort)
      → PartsMove ps → by_sort g (moved_scope z s) at f ps o ≡ map_ok (moved_value z) (by_sort g s at f ps o)
  by_sort_moves s at f ps Unary h = ap (unary g f) (one_moves s at ps h) ∙ unary_moves z g f (one g s at ps)
  by_sort_moves s at f ps Bound h = ap (bound f) (type_only_moves s at ps h) ∙ bound_moves z f (type_only g s at ps)
  by_sort_moves s at f ps Conversion h = conversion_moves s at ps h
  by_sort_moves s at f ps Never h = refl

  standard_call_moves : (s : Scope g.Reported) (at : Pos) (d : Denoted) (ps : List (Part g.Reported)) → PartsMove ps
      → standard_call_value g (moved_scope z s) at (moved_denoted z d) ps
      ≡ map_ok (moved_value z) (standard_call_value g s at d ps)
  standard_call_moves s at (denoted.Standard f) ps h = by_sort_moves s at f ps (sort_of f) h
  standard_call_moves s at (denoted.Value v) ps h = refl
  standard_call_moves s at (denoted.«Type» t) ps h = refl
  standard_call_moves s at denoted.Variable ps h = refl
  standard_call_moves s at denoted.Procedure ps h = refl
  standard_call_moves s at (denoted.Module k) ps h = refl

  call_moves : (s : Scope g.Reported) (at : Pos) (d : Result Denoted g.Reported) (ps : List (Part g.Reported))
      → PartsMove ps
      → call_value g (moved_scope z s) at (map_ok (moved_denoted z) d) ps
      ≡ map_ok (moved_value z) (call_value g s at d ps)
  call_moves s at (Ok d) ps h = standard_call_moves s at d ps h
  call_moves s at (Err e) ps h = refl

  pub used_moves : (d : Part g.Reported) (ps : Option (List (Part g.Reported))) → PartMoves d
      → MatchOption ps (Unit {0}) PartsMove → PartMoves (used_with g d ps)
  used_moves d None h k = h
  used_moves d (Some ps) h k =
      standing_moves d.at (λ s. of_value (call_value g s d.at (d.denotes s) ps)) (λ s.
      ap of_value (ap (λ (u : Result Denoted g.Reported). call_value g (moved_scope z s) d.at u ps) (h.denotes s)
      ∙ call_moves s d.at (d.denotes s) ps k) ∙ of_value_moves z (call_value g s d.at (d.denotes s) ps))

  -- ---- operators

  factors_move : (s : Scope g.Reported) (at : Pos) (ps : List (Operator MulOp × Part g.Reported))
      (v : Result Value g.Reported) → TermsMove ps
      → fold (factor g (moved_scope z s) at) (map_ok (moved_value z) v) ps
      ≡ map_ok (moved_value z) (fold (factor g s at) v ps)
  factors_move s at [] v h = refl
  factors_move s at (p ∷ ps) v h =
      ap (λ (u : Result Value g.Reported). fold (factor g (moved_scope z s) at) u ps)
      (ap (constant_operation g (mul_op p.0.op) p.0.pos at (map_ok (moved_value z) v) p.1.at)
      (constant_moves s p.1 h.0)
      ∙ constant_operation_moves z g (mul_op p.0.op) p.0.pos at v p.1.at (constant g s p.1))
      ∙ factors_move s at ps (factor g s at v p) h.1

  terms_move : (s : Scope g.Reported) (at : Pos) (ps : List (Operator AddOp × Part g.Reported))
      (v : Result Value g.Reported) → TermsMove ps
      → fold (term g (moved_scope z s) at) (map_ok (moved_value z) v) ps
      ≡ map_ok (moved_value z) (fold (term g s at) v ps)
  terms_move s at [] v h = refl
  terms_move s at (p ∷ ps) v h =
      ap (λ (u : Result Value g.Reported). fold (term g (moved_scope z s) at) u ps)
      (ap (constant_operation g (add_op p.0.op) p.0.pos at (map_ok (moved_value z) v) p.1.at)
      (constant_moves s p.1 h.0)
      ∙ constant_operation_moves z g (add_op p.0.op) p.0.pos at v p.1.at (constant g s p.1))
      ∙ terms_move s at ps (term g s at v p) h.1

  -- ---- elements

  pub item_moves : (low : Part g.Reported) (high : Option (Part g.Reported)) → PartMoves low
      → MatchOption high (Unit {0}) PartMoves → AddMoves (λ s. element_or_range g s low high)
  item_moves low None h k s =
      ap (single_of g low.at) (constant_moves s low h) ∙ single_of_moves z g low.at (constant g s low)
  item_moves low (Some high) h k s =
      ap₂ (λ (a b : Result Ordinal g.Reported). span_of g low.at a high.at b)
      (ap (element_of g low.at) (constant_moves s low h) ∙ element_of_moves z g low.at (constant g s low))
      (ap (element_of g high.at) (constant_moves s high k) ∙ element_of_moves z g high.at (constant g s high))
      ∙ span_of_moves z g low.at (element_of g low.at (constant g s low)) high.at
      (element_of g high.at (constant g s high))

  items_move : (s : Scope g.Reported) (is : List (Adds g.Reported)) (so : Result ℕ g.Reported) → AddsMove is
      → fold (with_item g (moved_scope z s)) so is ≡ fold (with_item g s) so is
  items_move s [] so h = refl
  items_move s (i ∷ is) so h =
      ap (λ (u : Result ℕ g.Reported). fold (with_item g (moved_scope z s)) (joined_bits g so u) is) (h.0 s)
      ∙ items_move s is (with_item g s so i) h.1

  -- ---- the layers

  pub set_moves : (name : Option Ident) (at : Pos) (is : List (Adds g.Reported)) → AddsMove is
      → PartMoves (standing (set_place name at) (λ s. set_of g (set_type g s name) (fold (with_item g s) (Ok 0) is)))
  set_moves name at is h =
      standing_moves (set_place name at) (λ s. set_of g (set_type g s name) (fold (with_item g s) (Ok 0) is)) (λ s.
      ap₂ (set_of g) (set_type_moves z g s name) (items_move s is (Ok 0) h)
      ∙ sym (set_of_moves z g (set_type g s name) (fold (with_item g s) (Ok 0) is)))

  pub not_moves : (at : Pos) (p : Part g.Reported) → PartMoves p
      → PartMoves (standing at (λ s. of_value (negation g at (constant g s p))))
  not_moves at p h =
      standing_moves at (λ s. of_value (negation g at (constant g s p))) (λ s.
      ap of_value (ap (negation g at) (constant_moves s p h) ∙ negation_moves z g at (constant g s p))
      ∙ of_value_moves z (negation g at (constant g s p)))

  pub bracketed_moves : (at : Pos) (p : Part g.Reported) → PartMoves p
      → PartMoves (standing at (λ s. of_value (constant g s p)))
  bracketed_moves at p h =
      standing_moves at (λ s. of_value (constant g s p)) (λ s.
      ap of_value (constant_moves s p h) ∙ of_value_moves z (constant g s p))

  pub term_moves : (p : Part g.Reported) (ps : List (Operator MulOp × Part g.Reported)) → PartMoves p → TermsMove ps
      → PartMoves (standing p.at (λ s. of_value (fold (factor g s p.at) (constant g s p) ps)))
  term_moves p ps h k =
      standing_moves p.at (λ s. of_value (fold (factor g s p.at) (constant g s p) ps)) (λ s.
      ap of_value (ap (λ (u : Result Value g.Reported). fold (factor g (moved_scope z s) p.at) u ps)
      (constant_moves s p h) ∙ factors_move s p.at ps (constant g s p) k)
      ∙ of_value_moves z (fold (factor g s p.at) (constant g s p) ps))

  pub sum_moves : (o : Option (Operator Sign)) (p : Part g.Reported) (ps : List (Operator AddOp × Part g.Reported))
      → PartMoves p → TermsMove ps
      → PartMoves (standing (sign_place o p.at)
      (λ s. of_value (fold (term g s (sign_place o p.at)) (signed_first g o (constant g s p)) ps)))
  sum_moves o p ps h k =
      standing_moves (sign_place o p.at)
      (λ s. of_value (fold (term g s (sign_place o p.at)) (signed_first g o (constant g s p)) ps)) (λ s.
      ap of_value (ap (λ (u : Result Value g.Reported). fold (term g (moved_scope z s) (sign_place o p.at)) u ps)
      (ap (signed_first g o) (constant_moves s p h) ∙ signed_first_moves z g o (constant g s p))
      ∙ terms_move s (sign_place o p.at) ps (signed_first g o (constant g s p)) k)
      ∙ of_value_moves z (fold (term g s (sign_place o p.at)) (signed_first g o (constant g s p)) ps))

  pub relation_moves : (p : Part g.Reported) (o : Operator RelOp) (q : Part g.Reported) → PartMoves p → PartMoves q
      → PartMoves (standing p.at (λ s. relation_value g o p.at (constant g s p) q.at (constant g s q)))
  relation_moves p o q h k =
      standing_moves p.at (λ s. relation_value g o p.at (constant g s p) q.at (constant g s q)) (λ s.
      ap₂ (λ (a b : Result Value g.Reported). relation_value g o p.at a q.at b) (constant_moves s p h)
      (constant_moves s q k) ∙ relation_value_moves z g o p.at (constant g s p) q.at (constant g s q))

  pub field_moves : (at : Pos) (name : Ident) → PickMoves (λ s d. d ▷ field_of g s at name)
  field_moves at name s (Ok d) = field_of_moves z g s at name d
  field_moves at name s (Err e) = refl

  pub index_moves : (at : Pos) → PickMoves (λ s d. d ▷ component g at)
  index_moves at s (Ok d) = component_moves z g at d
  index_moves at s (Err e) = refl

  picked_moves : (s : Scope g.Reported) (ps : List (Pick g.Reported)) (d : Result Denoted g.Reported) → PicksMove ps
      → fold (λ x p. p (moved_scope z s) x) (map_ok (moved_denoted z) d) ps
      ≡ map_ok (moved_denoted z) (fold (λ x p. p s x) d ps)
  picked_moves s [] d h = refl
  picked_moves s (p ∷ ps) d h =
      ap (λ (u : Result Denoted g.Reported). fold (λ x p. p (moved_scope z s) x) u ps) (h.0 s d)
      ∙ picked_moves s ps (p s d) h.1

  pub selection_moves : (s : Scope g.Reported) (name : Ident) (ps : List (Pick g.Reported)) → PicksMove ps
      → selection g (moved_scope z s) name ps ≡ map_ok (moved_denoted z) (selection g s name ps)
  selection_moves s name ps h =
      ap (λ (u : Result Denoted g.Reported). fold (λ x p. p (moved_scope z s) x) u ps) (first_name_moves z g s name)
      ∙ picked_moves s ps (first_name g s name) h
