-- Constant expressions mean numbers of their types: what names mean, a lemma for each construct, and then the
-- induction.
use Rattle.std.proofs.Common.{◌≡◌, ℕ, zero, suc, pos, Bool, true, false, cond, List, [], ◌∷◌, map, Option, Some, None, Result, refl, sym, ap, subst, ◌∙◌, arith}
use Rattle.std.proofs.lemmas.Int.{ints}
use Rattle.std.specs.Prelude.{◌&&◌, nat_lt, slice_get}
use Rattle.std.specs.List.{fold, list_all}
use Rattle.std.specs.Option.{option_map}
use Rattle.m2_rule.specs.declared.rule.Rule.TheVariants as rule
use Rattle.m2_tree.specs.declared.pos.Pos.{Pos}
use Rattle.m2_tree.specs.declared.name.Ident.{Ident}
use Rattle.m2_tree.specs.declared.expr.MulOp.{MulOp}
use Rattle.m2_tree.specs.declared.expr.AddOp.{AddOp}
use Rattle.m2_tree.specs.declared.expr.Sign.{Sign}
use Rattle.m2_tree.specs.declared.expr.Operator.{Operator}
use Rattle.m2_tree.specs.declared.expr.Expr.{Expr, Expr-F, out-Expr, roll-Expr, out-roll-Expr, map-Expr, fold_out-Expr, ind-Expr}
use Rattle.m2_tree.specs.declared.expr.Expr.TheOpen as layer
use Rattle.m2_tree.specs.declared.expr.Selector.{Selector, Selector-F, out-Selector, roll-Selector, out-roll-Selector, map-Selector, fold_out-Selector, fold-Selector}
use Rattle.m2_tree.specs.declared.expr.Designator.{Designator, Designator-F, out-Designator, roll-Designator, out-roll-Designator, map-Designator, fold_out-Designator, fold-Designator}
use Rattle.m2_tree.specs.declared.expr.Item.{Item, fold-Item}
use Rattle.typed_tree.specs.declared.types.TypeNo.{TypeNo}
use Rattle.typed_tree.specs.declared.shape.Scalar.{Scalar as Range}
use Rattle.typed_tree.specs.declared.meaning.Meaning.{Meaning}
use Rattle.typed_tree.specs.declared.meaning.Meaning.TheVariants as meaning
use Rattle.typed_tree.specs.declared.meaning.OpenedField.{OpenedField}
use Rattle.typed_tree.specs.declared.meaning.Standard.{Standard}
use Rattle.typed_tree.specs.declared.meaning.Value.{Value}
use Rattle.typed_tree.specs.declared.meaning.Value.TheVariants as value
use Rattle.typed_tree.specs.declared.table.Table.{Table}
use Rattle.typed_tree.specs.declared.known_types.Types.{Types}
use Rattle.typed_tree.specs.Types.{char}
use Rattle.typed_tree.specs.Known.{scalar_at}
use Rattle.m2_tree.specs.Names.{same_name}
use Rattle.typed_tree.specs.Names.{find_name, place_of}
use Rattle.check_scope.specs.declared.known.Known.{Known}
use Rattle.check_scope.specs.declared.known.Known.TheVariants.{Later, Ahead, Begun, Headed, Declared}
use Rattle.check_scope.specs.declared.scope.Block.{Block}
use Rattle.check_scope.specs.declared.scope.Scope.{Scope}
use Rattle.check_scope.specs.declared.meaningless.Meaningless.{Meaningless}
use Rattle.check_scope.specs.declared.meaningless.Meaningless.TheVariants.{Broken, Headless}
use Rattle.check_scope.specs.Elaborated.{Gathers, report, both}
use Rattle.check_scope.specs.Scopes.{or_outside, Sight, seen_at, in_block, nearer, known_outside, or_around, sight_of, means_seen, means_as, open_field, means_or, looked_up}
use Rattle.check_const.specs.Operators.{mul_op, add_op}
use Rattle.check_const.specs.declared.operator.BinaryOp.TheVariants as op
use Rattle.check_const.specs.Operands.{number_value}
use Rattle.check_const.specs.declared.denoted.Denoted.{Denoted}
use Rattle.check_const.specs.declared.denoted.Denoted.TheVariants as denoted
use Rattle.check_const.specs.declared.call.Sort.{Sort}
use Rattle.check_const.specs.declared.call.Sort.TheVariants.{Unary, Bound, Conversion, Never}
use Rattle.check_const.specs.Denote.{denoted_by, denoted_of, as_constant, of_value, component, exported_by, export_of, exported_meaning}
use Rattle.check_const.specs.Calls.{sort_of, scalar_type, named_scalar, type_argument}
use Rattle.check_const.specs.Parts.{Part, Pick, Adds, sign_place, signed_first, first_name, field_of, constant, one, type_only, conversion, by_sort, standard_call_value, call_value, factor, term}
use Rattle.check_expr.specs.Meanings.{Meant, Picks, expr_layer, selector_layer, designator_layer, item_layer, meanings_of, picks, head, item, part}
use Rattle.law_well_formed.specs.Formed.{Holds, fine, broken}
use Rattle.law_well_formed.proofs.Basics.{then_holds, reported_holds, plain_holds, any_holds}
use Rattle.law_well_formed.specs.FormedRanges.{itself, fits_layer, fits_selector, fits_designator, fits_item, fits, ValueRanged, MeaningRanged, KnownRanged, NamesRanged, BlocksRanged, ExportsRanged, TablesRanged, ScopeRanged}
use Rattle.law_well_formed.proofs.RangesTypes.{both_left, both_right}
use Rattle.law_well_formed.proofs.Subranges.{from_le}
use Rattle.law_well_formed.proofs.Values.{char_ranged, combined_ranged, signed_ranged, negated_ranged, unary_ranged, TypeIs, bound_ranged, converted_ranged}

-- ---- what is known of a name

module _ (types : Types) {T : Type 0} where
  abbrev RangedIf : Option (Known T) → Type 0
  RangedIf None = Unit {0}
  RangedIf (Some k) = KnownRanged types k

  abbrev RangedSight : Sight T → Type 0
  RangedSight None = Unit {0}
  RangedSight (Some k) = KnownRanged types k.0

  found_by : (b : Bool) (k : Known T) (o : Option (Known T)) → KnownRanged types k → RangedIf o
      → RangedIf (cond b (Some k) o)
  found_by true k o p q = p
  found_by false k o p q = q

  found_ranged : (name : List ℕ) (es : List (List ℕ × Known T)) → NamesRanged types es → RangedIf (find_name name es)
  found_ranged name [] all = tt
  found_ranged name (e ∷ es) all = found_by (same_name name e.0) e.1 (find_name name es) all.0
      (found_ranged name es all.1)

  at_place : (seen p : ℕ) (es : List (List ℕ × Known T)) (n : ℕ) → NamesRanged types es
      → RangedSight (option_map (λ e. (e.1, nat_lt p seen)) (slice_get es n))
  at_place seen p [] n all = tt
  at_place seen p (e ∷ es) zero all = all.0
  at_place seen p (e ∷ es) (suc n) all = at_place seen p es n all.1

  seen_ranged : (seen : ℕ) (es : List (List ℕ × Known T)) (o : Option ℕ) → NamesRanged types es
      → RangedSight (seen_at seen es o)
  seen_ranged seen es None all = tt
  seen_ranged seen es (Some p) all = at_place seen p es p all

  or_ranged : (a b : Sight T) → RangedSight a → RangedSight b → RangedSight (or_outside a b)
  or_ranged None b p q = q
  or_ranged (Some k) b p q = p

  outside_ranged : (name : List ℕ) (bs : List (Block T)) (far : Sight T) → RangedSight far → BlocksRanged types bs
      → RangedSight (fold (nearer name) far bs)
  outside_ranged name [] far p all = p
  outside_ranged name (b ∷ bs) far p all =
      outside_ranged name bs (nearer name far b)
      (or_ranged (in_block name b) far (seen_ranged b.seen b.names (place_of name b.names) all.0) p) all.1

  around_ranged : (o : Option (Known T)) (far : Sight T) → RangedIf o → RangedSight far → RangedSight (or_around o far)
  around_ranged None far p q = q
  around_ranged (Some k) far p q = p

module _ (g : Gathers) (types : Types) where
  abbrev Means_ : {T : Type 0} → Result Meaning T → Type 0
  Means_ r = Holds (MeaningRanged types) r

  declared_means : (at : Pos) (seen : Bool) (r : Result Meaning g.Reported) → Means_ r
      → Means_ (cond seen r (report g at rule.Undeclared))
  declared_means at true r p = p
  declared_means at false r p = reported_holds g at rule.Undeclared

  seen_means : (at : Pos) (k : Known g.Reported) (seen : Bool) → KnownRanged types k → Means_ (means_seen g at k seen)
  seen_means at Later seen p = plain_holds (reported_holds g at rule.Undeclared)
  seen_means at Ahead seen p = fine meaning.Ahead tt
  seen_means at Begun seen p = plain_holds (reported_holds g at rule.Undeclared)
  seen_means at (Headed r) seen p = p
  seen_means at (Declared o r) seen p = plain_holds (declared_means at seen r p)

  means_ranged : (at : Pos) (o : Sight g.Reported) → RangedSight types o → Means_ (means_as g at o)
  means_ranged at None p = plain_holds (reported_holds g at rule.Undeclared)
  means_ranged at (Some k) p = seen_means at k.0 k.1 p

  field_or : {T : Type 0} (o : Option OpenedField) (r : Result Meaning T) → Means_ r → Means_ (means_or o r)
  field_or (Some f) r p = fine (meaning.Field f) tt
  field_or None r p = p

  -- ---- what modules export

  abbrev ExportIf : Option Meaning → Type 0
  ExportIf None = Unit {0}
  ExportIf (Some m) = MeaningRanged types m

  export_by : (b : Bool) (m : Meaning) (o : Option Meaning) → MeaningRanged types m → ExportIf o
      → ExportIf (cond b (Some m) o)
  export_by true m o p q = p
  export_by false m o p q = q

  export_found : (name : List ℕ) (es : List (List ℕ × Meaning)) → ExportsRanged types es → ExportIf (find_name name es)
  export_found name [] all = tt
  export_found name (e ∷ es) all = export_by (same_name name e.0) e.1 (find_name name es) all.0
      (export_found name es all.1)

  export_at : (name : List ℕ) (ts : List Table) (k : ℕ) → TablesRanged types ts
      → ExportIf (exported_by name (slice_get ts k))
  export_at name [] k all = tt
  export_at name (t ∷ ts) zero all = export_found name t.exported all.0
  export_at name (t ∷ ts) (suc k) all = export_at name ts k all.1

  exported_means : (at : Pos) (o : Option Meaning) → ExportIf o → Means_ (export_of g at o)
  exported_means at None p = reported_holds g at rule.NotExported
  exported_means at (Some m) p = fine m p

module _ (g : Gathers) (s : Scope g.Reported) (h : ScopeRanged s) where
  name_means : (name : Ident) → Means_ g s.types (looked_up g s name)
  name_means name =
      field_or g s.types (open_field s.types name.name s.withs) (means_as g name.pos (sight_of name.name s))
      (means_ranged g s.types name.pos (sight_of name.name s)
      (around_ranged s.types (find_name name.name s.own) (known_outside name.name s.outer)
      (found_ranged s.types name.name s.own h.names) (outside_ranged s.types name.name s.outer None tt h.outer)))

  member_means : (k : ℕ) (name : Ident) → Means_ g s.types (exported_meaning g s.tables k name)
  member_means k name = exported_means g s.types name.pos (exported_by name.name (slice_get s.tables k))
      (export_at g s.types name.name s.tables k h.tables)

  -- ---- what designators and expressions stand for

  abbrev DenotedRanged : Denoted → Type 0
  DenotedRanged (denoted.Value v) = ValueRanged s.types v
  DenotedRanged (denoted.Type t) = Unit {0}
  DenotedRanged denoted.Variable = Unit {0}
  DenotedRanged denoted.Procedure = Unit {0}
  DenotedRanged (denoted.Standard f) = Unit {0}
  DenotedRanged (denoted.Module k) = Unit {0}

  abbrev D_ : Result Denoted g.Reported → Type 0
  D_ r = Holds DenotedRanged r

  abbrev V_ : Result Value g.Reported → Type 0
  V_ r = Holds (ValueRanged s.types) r

  abbrev FM : Part g.Reported → Type 0
  FM x = D_ (x.denotes s)

  abbrev FP : Pick g.Reported → Type 0
  FP p = (d : Result Denoted g.Reported) → D_ d → D_ (p s d)

  abbrev AllM : List (Part g.Reported) → Type 0
  AllM [] = Unit {0}
  AllM (x ∷ xs) = FM x × AllM xs

  abbrev AllP : List (Pick g.Reported) → Type 0
  AllP [] = Unit {0}
  AllP (x ∷ xs) = FP x × AllP xs

  by_meaning : (m : Meaning) → MeaningRanged s.types m → DenotedRanged (denoted_by m)
  by_meaning (meaning.Constant v) p = p
  by_meaning (meaning.Type t n) p = tt
  by_meaning (meaning.Variable v) p = tt
  by_meaning (meaning.Local v) p = tt
  by_meaning (meaning.Field f) p = tt
  by_meaning (meaning.Procedure q) p = tt
  by_meaning (meaning.LocalProcedure q) p = tt
  by_meaning meaning.Ahead p = tt
  by_meaning (meaning.Standard f) p = tt
  by_meaning (meaning.Module k) p = tt

  denoted_ranged : {r : Result Meaning (Meaningless g.Reported)} → Means_ g s.types r → D_ (denoted_of r)
  denoted_ranged (fine m p) = fine (denoted_by m) (by_meaning m p)
  denoted_ranged (broken (Broken e)) = broken e
  denoted_ranged (broken (Headless nested e)) = fine denoted.Procedure tt

  named_ranged : (name : Ident) → D_ (first_name g s name)
  named_ranged name = denoted_ranged (name_means name)

  component_ranged : (at : Pos) (d : Denoted) → D_ (component g at d)
  component_ranged at denoted.Variable = fine denoted.Variable tt
  component_ranged at (denoted.Value v) = reported_holds g at rule.WrongType
  component_ranged at (denoted.Type t) = fine denoted.Variable tt
  component_ranged at denoted.Procedure = fine denoted.Variable tt
  component_ranged at (denoted.Standard f) = fine denoted.Variable tt
  component_ranged at (denoted.Module k) = fine denoted.Variable tt

  field_ranged : (at : Pos) (name : Ident) (d : Denoted) → D_ (field_of g s at name d)
  field_ranged at name (denoted.Module k) =
      then_holds (member_means k name) (λ m p. fine (denoted_by m) (by_meaning m p))
  field_ranged at name denoted.Variable = component_ranged at denoted.Variable
  field_ranged at name (denoted.Value v) = component_ranged at (denoted.Value v)
  field_ranged at name (denoted.Type t) = component_ranged at (denoted.Type t)
  field_ranged at name denoted.Procedure = component_ranged at denoted.Procedure
  field_ranged at name (denoted.Standard f) = component_ranged at (denoted.Standard f)

  as_constant_ranged : (at : Pos) (d : Denoted) → DenotedRanged d → V_ (as_constant g at d)
  as_constant_ranged at (denoted.Value v) p = fine v p
  as_constant_ranged at (denoted.Type t) p = reported_holds g at rule.NoConstant
  as_constant_ranged at denoted.Variable p = reported_holds g at rule.NoConstant
  as_constant_ranged at denoted.Procedure p = reported_holds g at rule.NoConstant
  as_constant_ranged at (denoted.Standard f) p = reported_holds g at rule.NoConstant
  as_constant_ranged at (denoted.Module k) p = reported_holds g at rule.NoConstant

  pub constant_ranged : (x : Part g.Reported) → FM x → V_ (constant g s x)
  constant_ranged x p = then_holds p (λ d k. as_constant_ranged x.at d k)

  value_ranged : {r : Result Value g.Reported} → V_ r → D_ (of_value r)
  value_ranged p = then_holds p (λ v k. fine (denoted.Value v) k)

  -- ---- calls

  one_ranged : (at : Pos) (args : List (Part g.Reported)) → AllM args
      → Holds (λ (p : Pos × Value). ValueRanged s.types p.1) (one g s at args)
  one_ranged at [] all = reported_holds g at rule.ArgumentCount
  one_ranged at (x ∷ []) all = then_holds (constant_ranged x all.0) (λ v k. fine (x.at, v) k)
  one_ranged at (x ∷ y ∷ xs) all = reported_holds g at rule.ArgumentCount

  scalar_is : (at : Pos) (t : TypeNo) (o : Option Range) → scalar_at s.types t ≡ o
      → Holds (TypeIs g s h) (scalar_type g at t o)
  scalar_is at t None e = reported_holds g at rule.NoType
  scalar_is at t (Some r) e = fine (t, r) e

  type_is : (at : Pos) (o : Option TypeNo) → Holds (TypeIs g s h) (named_scalar g s.types at o)
  type_is at None = reported_holds g at rule.NoType
  type_is at (Some t) = scalar_is at t (scalar_at s.types t) refl

  argument_is : (at : Pos) (d : Result (Option TypeNo) g.Reported) → Holds (TypeIs g s h) (type_argument g s.types at d)
  argument_is at d = then_holds (any_holds d) (λ x k. type_is at x)

  only_is : (at : Pos) (args : List (Part g.Reported)) → Holds (TypeIs g s h) (type_only g s at args)
  only_is at [] = reported_holds g at rule.ArgumentCount
  only_is at (x ∷ []) = argument_is x.at (x.names s)
  only_is at (x ∷ y ∷ xs) = reported_holds g at rule.ArgumentCount

  conversion_ranged : (at : Pos) (args : List (Part g.Reported)) → V_ (conversion g s at args)
  conversion_ranged at [] = reported_holds g at rule.ArgumentCount
  conversion_ranged at (t ∷ []) = reported_holds g at rule.ArgumentCount
  conversion_ranged at (t ∷ x ∷ []) = converted_ranged g s h x.at (constant g s x) (argument_is t.at (t.names s))
  conversion_ranged at (t ∷ x ∷ y ∷ xs) = reported_holds g at rule.ArgumentCount

  sort_ranged : (at : Pos) (f : Standard) (args : List (Part g.Reported)) (o : Sort) → AllM args
      → V_ (by_sort g s at f args o)
  sort_ranged at f args Unary all = unary_ranged g s.types f (one_ranged at args all)
  sort_ranged at f args Bound all = bound_ranged g s h f (only_is at args)
  sort_ranged at f args Conversion all = conversion_ranged at args
  sort_ranged at f args Never all = reported_holds g at rule.NoConstant

  called_as_ranged : (at : Pos) (d : Denoted) (args : List (Part g.Reported)) → AllM args
      → V_ (standard_call_value g s at d args)
  called_as_ranged at (denoted.Standard f) args all = sort_ranged at f args (sort_of f) all
  called_as_ranged at (denoted.Value v) args all = reported_holds g at rule.NoConstant
  called_as_ranged at (denoted.Type t) args all = reported_holds g at rule.NoConstant
  called_as_ranged at denoted.Variable args all = reported_holds g at rule.NoConstant
  called_as_ranged at denoted.Procedure args all = reported_holds g at rule.NoConstant
  called_as_ranged at (denoted.Module k) args all = reported_holds g at rule.NoConstant

  called_ranged : (at : Pos) (d : Result Denoted g.Reported) (args : List (Part g.Reported)) → AllM args
      → V_ (call_value g s at d args)
  called_ranged at d args all = then_holds (any_holds d) (λ x k. called_as_ranged at x args all)

  -- ---- operators

  factors_ranged : (at : Pos) (rest : List (Operator MulOp × Part g.Reported)) (v : Result Value g.Reported) → V_ v
      → V_ (fold (factor g s at) v rest)
  factors_ranged at [] v p = p
  factors_ranged at (x ∷ xs) v p = factors_ranged at xs (factor g s at v x)
      (combined_ranged g s.types (mul_op x.0.op) x.0.pos at v x.1.at (constant g s x.1))

  terms_ranged : (at : Pos) (rest : List (Operator AddOp × Part g.Reported)) (v : Result Value g.Reported) → V_ v
      → V_ (fold (term g s at) v rest)
  terms_ranged at [] v p = p
  terms_ranged at (x ∷ xs) v p = terms_ranged at xs (term g s at v x)
      (combined_ranged g s.types (add_op x.0.op) x.0.pos at v x.1.at (constant g s x.1))

  first_ranged : (o : Option (Operator Sign)) {x : Result Value g.Reported} → V_ x → V_ (signed_first g o x)
  first_ranged None p = p
  first_ranged (Some o) p = signed_ranged g s.types o.op o.pos p

  picks_ranged : (ps : List (Pick g.Reported)) (d : Result Denoted g.Reported) → D_ d → AllP ps
      → D_ (fold (λ x p. p s x) d ps)
  picks_ranged [] d p all = p
  picks_ranged (x ∷ ps) d p all = picks_ranged ps (x s d) (all.0 d p) all.1

  -- ---- a layer, each part of which stands for such a value

  abbrev PE : Expr → Type 0
  PE e = fits e ≡ true → FM (part g e)

  abbrev PS : Selector → Type 0
  PS e = FP (picks g e).fixed

  abbrev PD : Designator → Type 0
  PD e = FM (head g e).fixed

  abbrev PI : Item → Type 0
  PI e = Unit {0}

  abbrev SE : Type 0
  SE = (e : Expr) × PE e

  abbrev SS : Type 0
  SS = (e : Selector) × PS e

  abbrev SD : Type 0
  SD = (e : Designator) × PD e

  abbrev SI : Type 0
  SI = (e : Item) × PI e

  abbrev parts : Expr-F Expr Selector Designator Item
      → Expr-F (Meant g.Reported) (Picks g.Reported) (Meant g.Reported) (Adds g.Reported)
  parts x = map-Expr Expr Selector Designator Item (Meant g.Reported) (Picks g.Reported) (Meant g.Reported)
      (Adds g.Reported) (meanings_of g) (picks g) (head g) (item g) x

  abbrev parts_selector : Selector-F Expr Selector Designator Item
      → Selector-F (Meant g.Reported) (Picks g.Reported) (Meant g.Reported) (Adds g.Reported)
  parts_selector x = map-Selector Expr Selector Designator Item (Meant g.Reported) (Picks g.Reported) (Meant g.Reported)
      (Adds g.Reported) (meanings_of g) (picks g) (head g) (item g) x

  abbrev parts_designator : Designator-F Expr Selector Designator Item
      → Designator-F (Meant g.Reported) (Picks g.Reported) (Meant g.Reported) (Adds g.Reported)
  parts_designator x = map-Designator Expr Selector Designator Item (Meant g.Reported) (Picks g.Reported)
      (Meant g.Reported) (Adds g.Reported) (meanings_of g) (picks g) (head g) (item g) x

  at_expr : (e : Expr) (x : Expr-F Expr Selector Designator Item) → out-Expr e ≡ x
      → meanings_of g e ≡ expr_layer g (parts x)
  unfolding meanings_of picks head item
  at_expr e x q = fold_out-Expr (Meant g.Reported) (Picks g.Reported) (Meant g.Reported) (Adds g.Reported)
      (expr_layer g) (selector_layer g) (designator_layer g) (item_layer g) e
      ∙ ap (λ (y : Expr-F Expr Selector Designator Item). expr_layer g (parts y)) q

  at_selector : (e : Selector) (x : Selector-F Expr Selector Designator Item) → out-Selector e ≡ x
      → picks g e ≡ selector_layer g (parts_selector x)
  unfolding meanings_of picks head item
  at_selector e x q = fold_out-Selector (Meant g.Reported) (Picks g.Reported) (Meant g.Reported) (Adds g.Reported)
      (expr_layer g) (selector_layer g) (designator_layer g) (item_layer g) e
      ∙ ap (λ (y : Selector-F Expr Selector Designator Item). selector_layer g (parts_selector y)) q

  at_designator : (e : Designator) (x : Designator-F Expr Selector Designator Item) → out-Designator e ≡ x
      → head g e ≡ designator_layer g (parts_designator x)
  unfolding meanings_of picks head item
  at_designator e x q = fold_out-Designator (Meant g.Reported) (Picks g.Reported) (Meant g.Reported) (Adds g.Reported)
      (expr_layer g) (selector_layer g) (designator_layer g) (item_layer g) e
      ∙ ap (λ (y : Designator-F Expr Selector Designator Item). designator_layer g (parts_designator y)) q

  abbrev fits_s : Selector → Bool
  fits_s e = fold-Selector Bool Bool Bool Bool fits_layer fits_selector fits_designator fits_item e

  abbrev fits_d : Designator → Bool
  fits_d e = fold-Designator Bool Bool Bool Bool fits_layer fits_selector fits_designator fits_item e

  abbrev fits_i : Item → Bool
  fits_i e = fold-Item Bool Bool Bool Bool fits_layer fits_selector fits_designator fits_item e

  abbrev elaborated : Expr-F Expr Selector Designator Item → Expr-F Bool Bool Bool Bool
  elaborated x = map-Expr Expr Selector Designator Item Bool Bool Bool Bool fits fits_s fits_d fits_i x

  fits_at : (e : Expr) (x : Expr-F Expr Selector Designator Item) → out-Expr e ≡ x → fits e ≡ fits_layer (elaborated x)
  unfolding fits
  fits_at e x q = fold_out-Expr Bool Bool Bool Bool fits_layer fits_selector fits_designator fits_item e
      ∙ ap (λ (y : Expr-F Expr Selector Designator Item). fits_layer (elaborated y)) q

  abbrev bare : Expr-F SE SS SD SI → Expr-F Expr Selector Designator Item
  bare x = map-Expr SE SS SD SI Expr Selector Designator Item (λ e. e.0) (λ e. e.0) (λ e. e.0) (λ e. e.0) x

  abbrev bare_selector : Selector-F SE SS SD SI → Selector-F Expr Selector Designator Item
  bare_selector x = map-Selector SE SS SD SI Expr Selector Designator Item (λ e. e.0) (λ e. e.0) (λ e. e.0) (λ e. e.0) x

  abbrev bare_designator : Designator-F SE SS SD SI → Designator-F Expr Selector Designator Item
  bare_designator x = map-Designator SE SS SD SI Expr Selector Designator Item (λ e. e.0) (λ e. e.0) (λ e. e.0)
      (λ e. e.0) x

  all_args : (xs : List SE) → list_all itself (map fits (map (λ (e : SE). e.0) xs)) ≡ true
      → AllM (map (λ (e : Meant g.Reported). e.fixed) (map (meanings_of g) (map (λ (e : SE). e.0) xs)))
  all_args [] e = tt
  all_args (x ∷ xs) e = (
    x.1 (both_left (fits x.0) (list_all itself (map fits (map (λ (e : SE). e.0) xs))) e),
    all_args
        xs (both_right (fits x.0) (list_all itself (map fits (map (λ (e : SE). e.0) xs))) e),
  )

  all_picks : (xs : List SS) → AllP (map (λ (e : Picks g.Reported). e.fixed) (map (picks g) (map (λ (e : SS). e.0) xs)))
  all_picks [] = tt
  all_picks (x ∷ xs) = (x.1, all_picks xs)

  first_of : (x : SE) (rest : Bool) → (fits x.0 && rest) ≡ true → V_ (constant g s (part g x.0))
  first_of x rest e = constant_ranged (part g x.0) (x.1 (both_left (fits x.0) rest e))

  expr_ranged : (y : Expr-F SE SS SD SI) → fits_layer (elaborated (bare y)) ≡ true
      → FM (expr_layer g (parts (bare y))).fixed
  expr_ranged (layer.Number p n) e = fine (denoted.Value (value.Number (pos n)))
      (omega (arith, ints), from_le (pos n) (pos 4294967295) e)
  expr_ranged (layer.Char p c) e = fine (denoted.Value (number_value (Some char) (pos c)))
      (char_ranged g s.types (pos c) (omega (arith, ints)) (from_le (pos c) (pos 255) e))
  expr_ranged (layer.Text p t) e = fine (denoted.Value (value.Text t)) e
  expr_ranged (layer.Set q p items) e = then_holds (any_holds (both g _ _))
      (λ x k. fine (denoted.Value (value.Set x.1)) tt)
  expr_ranged (layer.Not p x) e = value_ranged (negated_ranged g s.types p (constant g s (part g x.0)))
  expr_ranged (layer.Bracketed p x) e = value_ranged (constant_ranged (part g x.0) (x.1 e))
  expr_ranged (layer.Use d None) e = d.1
  expr_ranged (layer.Use d (Some es)) e =
      value_ranged (called_ranged (head g d.0).fixed.at ((head g d.0).fixed.denotes s)
      (map (λ (e : Meant g.Reported). e.fixed) (map (meanings_of g) (map (λ (e : SE). e.0) es)))
      (all_args es (both_right (fits_d d.0) (list_all itself (map fits (map (λ (e : SE). e.0) es))) e)))
  expr_ranged (layer.Term x xs) e =
      value_ranged (factors_ranged (part g x.0).at
      (map (λ (x : Operator MulOp × Meant g.Reported). (x.0, x.1.fixed))
      (map (λ (x : Operator MulOp × Expr). (x.0, meanings_of g x.1))
      (map (λ (a : Operator MulOp × SE). (a.0, a.1.0)) xs))) (constant g s (part g x.0)) (first_of x _ e))
  expr_ranged (layer.Sum o x xs) e =
      value_ranged (terms_ranged (sign_place o (part g x.0).at)
      (map (λ (x : Operator AddOp × Meant g.Reported). (x.0, x.1.fixed))
      (map (λ (x : Operator AddOp × Expr). (x.0, meanings_of g x.1))
      (map (λ (a : Operator AddOp × SE). (a.0, a.1.0)) xs))) (signed_first g o (constant g s (part g x.0)))
      (first_ranged o (first_of x _ e)))
  expr_ranged (layer.Relation a o b) e = value_ranged
      (combined_ranged g s.types (op.Relation o.op) o.pos (part g a.0).at (constant g s (part g a.0)) (part g b.0).at
      (constant g s (part g b.0)))

  selector_ranged : (y : Selector-F SE SS SD SI) → FP (selector_layer g (parts_selector (bare_selector y))).fixed
  selector_ranged (layer.Field p name) = λ d q. then_holds q (λ x k. field_ranged p name x)
  selector_ranged (layer.Index p e) = λ d q. then_holds q (λ x k. component_ranged p x)

  designator_ranged : (y : Designator-F SE SS SD SI)
      → FM (designator_layer g (parts_designator (bare_designator y))).fixed
  designator_ranged y = picks_ranged (map (λ (e : Picks g.Reported). e.fixed)
      (map (picks g) (map (λ (e : SS). e.0) y.selectors))) (first_name g s y.name) (named_ranged y.name)
      (all_picks y.selectors)

  -- ---- the induction

  step_expr : (x : Expr-F Expr Selector Designator Item) (y : Expr-F SE SS SD SI) → bare y ≡ x → PE (roll-Expr x)
  step_expr x y q =
      let is : out-Expr (roll-Expr x) ≡ bare y = out-roll-Expr x ∙ sym q in λ e.
      subst (λ (z : Meant g.Reported). FM z.fixed) (sym (at_expr (roll-Expr x) (bare y) is))
      (expr_ranged y (sym (fits_at (roll-Expr x) (bare y) is) ∙ e))

  step_selector : (x : Selector-F Expr Selector Designator Item) (y : Selector-F SE SS SD SI) → bare_selector y ≡ x
      → PS (roll-Selector x)
  step_selector x y q = subst (λ (z : Picks g.Reported). FP z.fixed)
      (sym (at_selector (roll-Selector x) (bare_selector y) (out-roll-Selector x ∙ sym q))) (selector_ranged y)

  step_designator : (x : Designator-F Expr Selector Designator Item) (y : Designator-F SE SS SD SI)
      → bare_designator y ≡ x → PD (roll-Designator x)
  step_designator x y q = subst (λ (z : Meant g.Reported). FM z.fixed)
      (sym (at_designator (roll-Designator x) (bare_designator y) (out-roll-Designator x ∙ sym q)))
      (designator_ranged y)

  part_ranged : (e : Expr) → PE e
  part_ranged = ind-Expr PE PS PD PI step_expr step_selector step_designator (λ x y q. tt)

pub constants_ranged : (g : Gathers) (s : Scope g.Reported) → ScopeRanged s → (e : Expr) → fits e ≡ true
    → Holds (ValueRanged s.types) (constant g s (part g e))
constants_ranged g s h e f = constant_ranged g s h (part g e) (part_ranged g s h e f)
