-- Constant expressions mean sets of 32 bits: what names mean, a lemma for each construct, and then the induction.
use Rattle.std.proofs.Common.{◌≡◌, ℕ, zero, suc, pos, Bool, true, false, cond, List, [], ◌∷◌, map, Option, Some, None, Result, Ok, sym, ap, subst, ◌∙◌, arith}
use Rattle.std.specs.Prelude.{nat_lt, slice_get}
use Rattle.std.specs.List.{fold}
use Rattle.std.specs.Option.{option_map}
use Rattle.m2_rule.specs.declared.rule.Rule.TheVariants as rule
use Rattle.m2_tree.specs.declared.pos.Pos.{Pos}
use Rattle.m2_tree.specs.declared.name.Ident.{Ident}
use Rattle.m2_tree.specs.declared.expr.MulOp.{MulOp}
use Rattle.m2_tree.specs.declared.expr.AddOp.{AddOp}
use Rattle.m2_tree.specs.declared.expr.Sign.{Sign}
use Rattle.m2_tree.specs.declared.expr.Operator.{Operator}
use Rattle.m2_tree.specs.declared.expr.Expr.{Expr, Expr-F, out-Expr, roll-Expr, out-roll-Expr, map-Expr, fold_out-Expr, ind-Expr}
use Rattle.m2_tree.specs.declared.expr.Expr.TheOpen as layer
use Rattle.m2_tree.specs.declared.expr.Selector.{Selector, Selector-F, out-Selector, roll-Selector, out-roll-Selector, map-Selector, fold_out-Selector}
use Rattle.m2_tree.specs.declared.expr.Designator.{Designator, Designator-F, out-Designator, roll-Designator, out-roll-Designator, map-Designator, fold_out-Designator}
use Rattle.m2_tree.specs.declared.expr.Item.{Item, Item-F, out-Item, roll-Item, out-roll-Item, map-Item, fold_out-Item}
use Rattle.typed_tree.specs.declared.types.TypeNo.{TypeNo}
use Rattle.typed_tree.specs.declared.shape.Scalar.{Scalar as Range}
use Rattle.typed_tree.specs.declared.meaning.Meaning.{Meaning}
use Rattle.typed_tree.specs.declared.meaning.Meaning.TheVariants as meaning
use Rattle.typed_tree.specs.declared.meaning.OpenedField.{OpenedField}
use Rattle.typed_tree.specs.declared.meaning.Standard.{Standard}
use Rattle.typed_tree.specs.declared.meaning.Value.{Value}
use Rattle.typed_tree.specs.declared.meaning.Value.TheVariants as value
use Rattle.typed_tree.specs.declared.table.Table.{Table}
use Rattle.typed_tree.specs.Types.{char}
use Rattle.m2_tree.specs.Names.{same_name}
use Rattle.typed_tree.specs.Names.{find_name, place_of}
use Rattle.check_scope.specs.declared.known.Known.{Known}
use Rattle.check_scope.specs.declared.known.Known.TheVariants.{Later, Ahead, Begun, Headed, Declared}
use Rattle.check_scope.specs.declared.scope.Block.{Block}
use Rattle.check_scope.specs.declared.scope.Scope.{Scope}
use Rattle.check_scope.specs.declared.meaningless.Meaningless.{Meaningless}
use Rattle.check_scope.specs.declared.meaningless.Meaningless.TheVariants.{Broken, Headless}
use Rattle.check_scope.specs.Elaborated.{Gathers, report, both}
use Rattle.check_scope.specs.Scopes.{or_outside, Sight, seen_at, in_block, nearer, known_outside, or_around, sight_of, means_seen, means_as, open_field, means_or, looked_up}
use Rattle.check_const.specs.declared.operand.Ordinal.{Ordinal}
use Rattle.check_const.specs.declared.operator.BinaryOp.{BinaryOp}
use Rattle.check_const.specs.declared.operator.BinaryOp.TheVariants as op
use Rattle.check_const.specs.Operands.{operand_of, number_value}
use Rattle.check_const.specs.Operate.{constant_operation}
use Rattle.check_const.specs.Operators.{mul_op, add_op}
use Rattle.check_const.specs.Standards.{whole_number, bound_of, converted_part}
use Rattle.check_const.specs.declared.denoted.Denoted.{Denoted}
use Rattle.check_const.specs.declared.denoted.Denoted.TheVariants as denoted
use Rattle.check_const.specs.declared.call.Sort.{Sort}
use Rattle.check_const.specs.declared.call.Sort.TheVariants.{Unary, Bound, Conversion, Never}
use Rattle.check_const.specs.Denote.{denoted_by, denoted_of, as_constant, of_value, component, exported_by, export_of, exported_meaning}
use Rattle.check_const.specs.Calls.{sort_of, bound_by, type_argument}
use Rattle.check_const.specs.Parts.{Part, Pick, Adds, sign_place, signed_first, first_name, field_of, constant, one, type_only, conversion, by_sort, standard_call_value, call_value, factor, term, set_type}
use Rattle.check_expr.specs.Meanings.{Meant, Picks, expr_layer, selector_layer, designator_layer, item_layer, meanings_of, picks, head, item, part}
use Rattle.law_well_formed.specs.Formed.{Holds, fine, broken}
use Rattle.law_well_formed.proofs.Basics.{then_holds, reported_holds, where_holds, both_holds, plain_holds, any_holds}
use Rattle.law_programs.specs.Typing.{IsWord}
use Rattle.law_programs.specs.Carried.{MeaningWord, KnownWord, NamesWords, BlocksWords, ExportsWords, TablesWords, ScopeWords}
use Rattle.law_programs.proofs.Words.{operand_word, binary_words, signed_words, negated_words, unary_words, bound_word, B_, added_small, AllSmall, items_small}

-- ---- what is known of a name

module _ {T : Type 0} where
  abbrev WordIf : Option (Known T) → Type 0
  WordIf None = Unit {0}
  WordIf (Some k) = KnownWord k

  abbrev WordSight : Sight T → Type 0
  WordSight None = Unit {0}
  WordSight (Some k) = KnownWord k.0

  found_by : (b : Bool) (k : Known T) (o : Option (Known T)) → KnownWord k → WordIf o → WordIf (cond b (Some k) o)
  found_by true k o p q = p
  found_by false k o p q = q

  found_words : (name : List ℕ) (es : List (List ℕ × Known T)) → NamesWords es → WordIf (find_name name es)
  found_words name [] all = tt
  found_words name (e ∷ es) all = found_by (same_name name e.0) e.1 (find_name name es) all.0
      (found_words name es all.1)

  at_place : (seen p : ℕ) (es : List (List ℕ × Known T)) (n : ℕ) → NamesWords es
      → WordSight (option_map (λ e. (e.1, nat_lt p seen)) (slice_get es n))
  at_place seen p [] n all = tt
  at_place seen p (e ∷ es) zero all = all.0
  at_place seen p (e ∷ es) (suc n) all = at_place seen p es n all.1

  seen_words : (seen : ℕ) (es : List (List ℕ × Known T)) (o : Option ℕ) → NamesWords es → WordSight (seen_at seen es o)
  seen_words seen es None all = tt
  seen_words seen es (Some p) all = at_place seen p es p all

  or_words : (a b : Sight T) → WordSight a → WordSight b → WordSight (or_outside a b)
  or_words None b p q = q
  or_words (Some k) b p q = p

  outside_words : (name : List ℕ) (bs : List (Block T)) (far : Sight T) → WordSight far → BlocksWords bs
      → WordSight (fold (nearer name) far bs)
  outside_words name [] far p all = p
  outside_words name (b ∷ bs) far p all =
      outside_words name bs (nearer name far b)
      (or_words (in_block name b) far (seen_words b.seen b.names (place_of name b.names) all.0) p) all.1

  around_words : (o : Option (Known T)) (far : Sight T) → WordIf o → WordSight far → WordSight (or_around o far)
  around_words None far p q = q
  around_words (Some k) far p q = p

module _ (g : Gathers) where
  abbrev Means_ : {T : Type 0} → Result Meaning T → Type 0
  Means_ r = Holds (MeaningWord) r

  declared_means : (at : Pos) (seen : Bool) (r : Result Meaning g.Reported) → Means_ r
      → Means_ (cond seen r (report g at rule.Undeclared))
  declared_means at true r p = p
  declared_means at false r p = reported_holds g at rule.Undeclared

  seen_means : (at : Pos) (k : Known g.Reported) (seen : Bool) → KnownWord k → Means_ (means_seen g at k seen)
  seen_means at Later seen p = plain_holds (reported_holds g at rule.Undeclared)
  seen_means at Ahead seen p = fine meaning.Ahead tt
  seen_means at Begun seen p = plain_holds (reported_holds g at rule.Undeclared)
  seen_means at (Headed r) seen p = p
  seen_means at (Declared o r) seen p = plain_holds (declared_means at seen r p)

  means_words : (at : Pos) (o : Sight g.Reported) → WordSight o → Means_ (means_as g at o)
  means_words at None p = plain_holds (reported_holds g at rule.Undeclared)
  means_words at (Some k) p = seen_means at k.0 k.1 p

  field_or : {T : Type 0} (o : Option OpenedField) (r : Result Meaning T) → Means_ r → Means_ (means_or o r)
  field_or (Some f) r p = fine (meaning.Field f) tt
  field_or None r p = p

  -- ---- what modules export

  abbrev ExportIf : Option Meaning → Type 0
  ExportIf None = Unit {0}
  ExportIf (Some m) = MeaningWord m

  export_by : (b : Bool) (m : Meaning) (o : Option Meaning) → MeaningWord m → ExportIf o → ExportIf (cond b (Some m) o)
  export_by true m o p q = p
  export_by false m o p q = q

  export_found : (name : List ℕ) (es : List (List ℕ × Meaning)) → ExportsWords es → ExportIf (find_name name es)
  export_found name [] all = tt
  export_found name (e ∷ es) all = export_by (same_name name e.0) e.1 (find_name name es) all.0
      (export_found name es all.1)

  export_at : (name : List ℕ) (ts : List Table) (k : ℕ) → TablesWords ts → ExportIf (exported_by name (slice_get ts k))
  export_at name [] k all = tt
  export_at name (t ∷ ts) zero all = export_found name t.exported all.0
  export_at name (t ∷ ts) (suc k) all = export_at name ts k all.1

  exported_means : (at : Pos) (o : Option Meaning) → ExportIf o → Means_ (export_of g at o)
  exported_means at None p = reported_holds g at rule.NotExported
  exported_means at (Some m) p = fine m p

module _ (g : Gathers) (s : Scope g.Reported) (h : ScopeWords s) where
  name_means : (name : Ident) → Means_ g (looked_up g s name)
  name_means name =
      field_or g (open_field s.types name.name s.withs) (means_as g name.pos (sight_of name.name s))
      (means_words g name.pos (sight_of name.name s)
      (around_words (find_name name.name s.own) (known_outside name.name s.outer)
      (found_words name.name s.own h.names) (outside_words name.name s.outer None tt h.outer)))

  member_means : (k : ℕ) (name : Ident) → Means_ g (exported_meaning g s.tables k name)
  member_means k name = exported_means g name.pos (exported_by name.name (slice_get s.tables k))
      (export_at g name.name s.tables k h.tables)

  -- ---- what designators and expressions stand for

  abbrev DenotedWord : Denoted → Type 0
  DenotedWord (denoted.Value v) = IsWord v
  DenotedWord (denoted.Type t) = Unit {0}
  DenotedWord denoted.Variable = Unit {0}
  DenotedWord denoted.Procedure = Unit {0}
  DenotedWord (denoted.Standard f) = Unit {0}
  DenotedWord (denoted.Module k) = Unit {0}

  abbrev D_ : Result Denoted g.Reported → Type 0
  D_ r = Holds DenotedWord r

  abbrev V_ : Result Value g.Reported → Type 0
  V_ r = Holds IsWord r

  abbrev FM : Part g.Reported → Type 0
  FM x = D_ (x.denotes s)

  abbrev FP : Pick g.Reported → Type 0
  FP p = (d : Result Denoted g.Reported) → D_ d → D_ (p s d)

  abbrev AllM : List (Part g.Reported) → Type 0
  AllM [] = Unit {0}
  AllM (x ∷ xs) = FM x × AllM xs

  abbrev AllP : List (Pick g.Reported) → Type 0
  AllP [] = Unit {0}
  AllP (x ∷ xs) = FP x × AllP xs

  by_meaning : (m : Meaning) → MeaningWord m → DenotedWord (denoted_by m)
  by_meaning (meaning.Constant v) p = p
  by_meaning (meaning.Type t n) p = tt
  by_meaning (meaning.Variable v) p = tt
  by_meaning (meaning.Local v) p = tt
  by_meaning (meaning.Field f) p = tt
  by_meaning (meaning.Procedure q) p = tt
  by_meaning (meaning.LocalProcedure q) p = tt
  by_meaning meaning.Ahead p = tt
  by_meaning (meaning.Standard f) p = tt
  by_meaning (meaning.Module k) p = tt

  denoted_words : {r : Result Meaning (Meaningless g.Reported)} → Holds MeaningWord r → D_ (denoted_of r)
  denoted_words (fine m p) = fine (denoted_by m) (by_meaning m p)
  denoted_words (broken (Broken e)) = broken e
  denoted_words (broken (Headless nested e)) = fine denoted.Procedure tt

  named_words : (name : Ident) → D_ (first_name g s name)
  named_words name = denoted_words (name_means name)

  component_words : (at : Pos) (d : Denoted) → D_ (component g at d)
  component_words at denoted.Variable = fine denoted.Variable tt
  component_words at (denoted.Value v) = reported_holds g at rule.WrongType
  component_words at (denoted.Type t) = fine denoted.Variable tt
  component_words at denoted.Procedure = fine denoted.Variable tt
  component_words at (denoted.Standard f) = fine denoted.Variable tt
  component_words at (denoted.Module k) = fine denoted.Variable tt

  field_words : (at : Pos) (name : Ident) (d : Denoted) → D_ (field_of g s at name d)
  field_words at name (denoted.Module k) =
      then_holds (member_means k name) (λ m p. fine (denoted_by m) (by_meaning m p))
  field_words at name denoted.Variable = component_words at denoted.Variable
  field_words at name (denoted.Value v) = component_words at (denoted.Value v)
  field_words at name (denoted.Type t) = component_words at (denoted.Type t)
  field_words at name denoted.Procedure = component_words at denoted.Procedure
  field_words at name (denoted.Standard f) = component_words at (denoted.Standard f)

  as_constant_words : (at : Pos) (d : Denoted) → DenotedWord d → V_ (as_constant g at d)
  as_constant_words at (denoted.Value v) p = fine v p
  as_constant_words at (denoted.Type t) p = reported_holds g at rule.NoConstant
  as_constant_words at denoted.Variable p = reported_holds g at rule.NoConstant
  as_constant_words at denoted.Procedure p = reported_holds g at rule.NoConstant
  as_constant_words at (denoted.Standard f) p = reported_holds g at rule.NoConstant
  as_constant_words at (denoted.Module k) p = reported_holds g at rule.NoConstant

  pub constant_words : (x : Part g.Reported) → FM x → V_ (constant g s x)
  constant_words x p = then_holds p (λ d k. as_constant_words x.at d k)

  value_words : {r : Result Value g.Reported} → V_ r → D_ (of_value r)
  value_words p = then_holds p (λ v k. fine (denoted.Value v) k)

  -- ---- calls

  sorted_words : (at : Pos) (f : Standard) (args : List (Part g.Reported)) (o : Sort) → V_ (by_sort g s at f args o)
  sorted_words at f args Unary = then_holds (any_holds (one g s at args)) (λ p k. unary_words g f p.0 p.1)
  sorted_words at f args Bound = then_holds (any_holds (type_only g s at args))
      (λ p k. fine (bound_by f p.0 p.1) (bound_word g f p.0 p.1))
  sorted_words at f args Conversion = conversion_words at args
    where
      converted_words : (t : TypeNo) (r : Range) (at : Pos) (o : Option Ordinal) → V_ (converted_part g t r at o)
      converted_words t r at None = reported_holds g at rule.WrongArgument
      converted_words t r at (Some a) = where_holds g _ at rule.OutOfRange (fine (bound_of t r a.number) tt)

      conversion_words : (at : Pos) (args : List (Part g.Reported)) → V_ (conversion g s at args)
      conversion_words at [] = reported_holds g at rule.ArgumentCount
      conversion_words at (t ∷ []) = reported_holds g at rule.ArgumentCount
      conversion_words at (t ∷ x ∷ []) = then_holds
          (any_holds (both g (type_argument g s.types t.at (t.names s)) (constant g s x)))
          (λ p k. converted_words p.0.0 p.0.1 x.at (whole_number p.1))
      conversion_words at (t ∷ x ∷ y ∷ xs) = reported_holds g at rule.ArgumentCount
  sorted_words at f args Never = reported_holds g at rule.NoConstant

  called_as_words : (at : Pos) (d : Denoted) (args : List (Part g.Reported)) → V_ (standard_call_value g s at d args)
  called_as_words at (denoted.Standard f) args = sorted_words at f args (sort_of f)
  called_as_words at (denoted.Value v) args = reported_holds g at rule.NoConstant
  called_as_words at (denoted.Type t) args = reported_holds g at rule.NoConstant
  called_as_words at denoted.Variable args = reported_holds g at rule.NoConstant
  called_as_words at denoted.Procedure args = reported_holds g at rule.NoConstant
  called_as_words at (denoted.Module k) args = reported_holds g at rule.NoConstant

  called_words : (at : Pos) (d : Result Denoted g.Reported) (args : List (Part g.Reported))
      → V_ (call_value g s at d args)
  called_words at d args = then_holds (any_holds d) (λ x k. called_as_words at x args)

  -- ---- operators

  abbrev AllT : {O : Type 0} → List (Operator O × Part g.Reported) → Type 0
  AllT [] = Unit {0}
  AllT (x ∷ xs) = FM x.1 × AllT xs

  combined_words : (o : BinaryOp) (spot at : Pos) {x : Result Value g.Reported} (at' : Pos)
      {y : Result Value g.Reported} → V_ x → V_ y → V_ (constant_operation g o spot at x at' y)
  combined_words o spot at at' p q = then_holds (both_holds g p q)
      (λ v k. binary_words g o spot at (operand_of v.0) at' (operand_of v.1) (operand_word v.0 k.0)
      (operand_word v.1 k.1))

  factors_words : (at : Pos) (rest : List (Operator MulOp × Part g.Reported)) (v : Result Value g.Reported) → V_ v
      → AllT rest → V_ (fold (factor g s at) v rest)
  factors_words at [] v p all = p
  factors_words at (x ∷ xs) v p all = factors_words at xs (factor g s at v x)
      (combined_words (mul_op x.0.op) x.0.pos at x.1.at p (constant_words x.1 all.0)) all.1

  terms_words : (at : Pos) (rest : List (Operator AddOp × Part g.Reported)) (v : Result Value g.Reported) → V_ v
      → AllT rest → V_ (fold (term g s at) v rest)
  terms_words at [] v p all = p
  terms_words at (x ∷ xs) v p all = terms_words at xs (term g s at v x)
      (combined_words (add_op x.0.op) x.0.pos at x.1.at p (constant_words x.1 all.0)) all.1

  first_words : (o : Option (Operator Sign)) {x : Result Value g.Reported} → V_ x → V_ (signed_first g o x)
  first_words None p = p
  first_words (Some o) p = then_holds p (λ v k. signed_words g o.op o.pos (operand_of v))

  picks_words : (ps : List (Pick g.Reported)) (d : Result Denoted g.Reported) → D_ d → AllP ps
      → D_ (fold (λ x p. p s x) d ps)
  picks_words [] d p all = p
  picks_words (x ∷ ps) d p all = picks_words ps (x s d) (all.0 d p) all.1

  -- ---- a layer, each part of which stands for such a value

  abbrev PE : Expr → Type 0
  PE e = FM (part g e)

  abbrev PS : Selector → Type 0
  PS e = FP (picks g e).fixed

  abbrev PD : Designator → Type 0
  PD e = FM (head g e).fixed

  abbrev PI : Item → Type 0
  PI e = B_ g (item g e s)

  abbrev SE : Type 0
  SE = (e : Expr) × PE e

  abbrev SS : Type 0
  SS = (e : Selector) × PS e

  abbrev SD : Type 0
  SD = (e : Designator) × PD e

  abbrev SI : Type 0
  SI = (e : Item) × PI e

  abbrev parts : Expr-F Expr Selector Designator Item
      → Expr-F (Meant g.Reported) (Picks g.Reported) (Meant g.Reported) (Adds g.Reported)
  parts x = map-Expr Expr Selector Designator Item (Meant g.Reported) (Picks g.Reported) (Meant g.Reported)
      (Adds g.Reported) (meanings_of g) (picks g) (head g) (item g) x

  abbrev parts_selector : Selector-F Expr Selector Designator Item
      → Selector-F (Meant g.Reported) (Picks g.Reported) (Meant g.Reported) (Adds g.Reported)
  parts_selector x = map-Selector Expr Selector Designator Item (Meant g.Reported) (Picks g.Reported) (Meant g.Reported)
      (Adds g.Reported) (meanings_of g) (picks g) (head g) (item g) x

  abbrev parts_designator : Designator-F Expr Selector Designator Item
      → Designator-F (Meant g.Reported) (Picks g.Reported) (Meant g.Reported) (Adds g.Reported)
  parts_designator x = map-Designator Expr Selector Designator Item (Meant g.Reported) (Picks g.Reported)
      (Meant g.Reported) (Adds g.Reported) (meanings_of g) (picks g) (head g) (item g) x

  abbrev parts_item : Item-F Expr Selector Designator Item
      → Item-F (Meant g.Reported) (Picks g.Reported) (Meant g.Reported) (Adds g.Reported)
  parts_item x = map-Item Expr Selector Designator Item (Meant g.Reported) (Picks g.Reported) (Meant g.Reported)
      (Adds g.Reported) (meanings_of g) (picks g) (head g) (item g) x

  at_expr : (e : Expr) (x : Expr-F Expr Selector Designator Item) → out-Expr e ≡ x
      → meanings_of g e ≡ expr_layer g (parts x)
  unfolding meanings_of picks head item
  at_expr e x q = fold_out-Expr (Meant g.Reported) (Picks g.Reported) (Meant g.Reported) (Adds g.Reported)
      (expr_layer g) (selector_layer g) (designator_layer g) (item_layer g) e
      ∙ ap (λ (y : Expr-F Expr Selector Designator Item). expr_layer g (parts y)) q

  at_selector : (e : Selector) (x : Selector-F Expr Selector Designator Item) → out-Selector e ≡ x
      → picks g e ≡ selector_layer g (parts_selector x)
  unfolding meanings_of picks head item
  at_selector e x q = fold_out-Selector (Meant g.Reported) (Picks g.Reported) (Meant g.Reported) (Adds g.Reported)
      (expr_layer g) (selector_layer g) (designator_layer g) (item_layer g) e
      ∙ ap (λ (y : Selector-F Expr Selector Designator Item). selector_layer g (parts_selector y)) q

  at_designator : (e : Designator) (x : Designator-F Expr Selector Designator Item) → out-Designator e ≡ x
      → head g e ≡ designator_layer g (parts_designator x)
  unfolding meanings_of picks head item
  at_designator e x q = fold_out-Designator (Meant g.Reported) (Picks g.Reported) (Meant g.Reported) (Adds g.Reported)
      (expr_layer g) (selector_layer g) (designator_layer g) (item_layer g) e
      ∙ ap (λ (y : Designator-F Expr Selector Designator Item). designator_layer g (parts_designator y)) q

  at_item : (e : Item) (x : Item-F Expr Selector Designator Item) → out-Item e ≡ x
      → item g e ≡ item_layer g (parts_item x)
  unfolding meanings_of picks head item
  at_item e x q = fold_out-Item (Meant g.Reported) (Picks g.Reported) (Meant g.Reported) (Adds g.Reported)
      (expr_layer g) (selector_layer g) (designator_layer g) (item_layer g) e
      ∙ ap (λ (y : Item-F Expr Selector Designator Item). item_layer g (parts_item y)) q

  abbrev bare : Expr-F SE SS SD SI → Expr-F Expr Selector Designator Item
  bare x = map-Expr SE SS SD SI Expr Selector Designator Item (λ e. e.0) (λ e. e.0) (λ e. e.0) (λ e. e.0) x

  abbrev bare_selector : Selector-F SE SS SD SI → Selector-F Expr Selector Designator Item
  bare_selector x = map-Selector SE SS SD SI Expr Selector Designator Item (λ e. e.0) (λ e. e.0) (λ e. e.0) (λ e. e.0) x

  abbrev bare_designator : Designator-F SE SS SD SI → Designator-F Expr Selector Designator Item
  bare_designator x = map-Designator SE SS SD SI Expr Selector Designator Item (λ e. e.0) (λ e. e.0) (λ e. e.0)
      (λ e. e.0) x

  abbrev bare_item : Item-F SE SS SD SI → Item-F Expr Selector Designator Item
  bare_item x = map-Item SE SS SD SI Expr Selector Designator Item (λ e. e.0) (λ e. e.0) (λ e. e.0) (λ e. e.0) x

  all_terms : {O : Type 0} (ys : List (Operator O × SE))
      → AllT (map (λ (y : Operator O × Meant g.Reported). (y.0, y.1.fixed))
      (map (λ (y : Operator O × Expr). (y.0, meanings_of g y.1)) (map (λ (a : Operator O × SE). (a.0, a.1.0)) ys)))
  all_terms [] = tt
  all_terms (y ∷ ys) = (y.1.1, all_terms ys)

  all_picks : (ys : List SS) → AllP (map (λ (e : Picks g.Reported). e.fixed) (map (picks g) (map (λ (e : SS). e.0) ys)))
  all_picks [] = tt
  all_picks (y ∷ ys) = (y.1, all_picks ys)

  all_items : (ys : List SI) → AllSmall g s (map (λ (i : Adds g.Reported). i) (map (item g) (map (λ (e : SI). e.0) ys)))
  all_items [] = tt
  all_items (y ∷ ys) = (y.1, all_items ys)

  expr_words : (y : Expr-F SE SS SD SI) → FM (expr_layer g (parts (bare y))).fixed
  expr_words (layer.Number p n) = fine (denoted.Value (value.Number (pos n))) tt
  expr_words (layer.Char p c) = fine (denoted.Value (number_value (Some char) (pos c))) tt
  expr_words (layer.Text p t) = fine (denoted.Value (value.Text t)) tt
  expr_words (layer.Set q p items) =
      then_holds (both_holds g (any_holds (set_type g s q))
      (items_small g s (map (λ (i : Adds g.Reported). i) (map (item g) (map (λ (e : SI). e.0) items))) (Ok 0)
      (fine 0 (omega arith)) (all_items items))) (λ (b : Unit {0} × ℕ) k. fine (denoted.Value (value.Set b.1)) k.1)
  expr_words (layer.Not p y) = value_words
      (then_holds (any_holds (constant g s (part g y.0))) (λ v k. negated_words g p (operand_of v)))
  expr_words (layer.Bracketed p y) = value_words (constant_words (part g y.0) y.1)
  expr_words (layer.Use d None) = d.1
  expr_words (layer.Use d (Some es)) = value_words
      (called_words (head g d.0).fixed.at ((head g d.0).fixed.denotes s)
      (map (λ (e : Meant g.Reported). e.fixed) (map (meanings_of g) (map (λ (e : SE). e.0) es))))
  expr_words (layer.Term y ys) =
      value_words (factors_words (part g y.0).at
      (map (λ (z : Operator MulOp × Meant g.Reported). (z.0, z.1.fixed))
      (map (λ (z : Operator MulOp × Expr). (z.0, meanings_of g z.1))
      (map (λ (a : Operator MulOp × SE). (a.0, a.1.0)) ys))) (constant g s (part g y.0))
      (constant_words (part g y.0) y.1) (all_terms ys))
  expr_words (layer.Sum o y ys) =
      value_words (terms_words (sign_place o (part g y.0).at)
      (map (λ (z : Operator AddOp × Meant g.Reported). (z.0, z.1.fixed))
      (map (λ (z : Operator AddOp × Expr). (z.0, meanings_of g z.1))
      (map (λ (a : Operator AddOp × SE). (a.0, a.1.0)) ys))) (signed_first g o (constant g s (part g y.0)))
      (first_words o (constant_words (part g y.0) y.1)) (all_terms ys))
  expr_words (layer.Relation a o b) = value_words
      (combined_words (op.Relation o.op) o.pos (part g a.0).at (part g b.0).at (constant_words (part g a.0) a.1)
      (constant_words (part g b.0) b.1))

  selector_words : (y : Selector-F SE SS SD SI) → FP (selector_layer g (parts_selector (bare_selector y))).fixed
  selector_words (layer.Field p name) = λ d q. then_holds q (λ z k. field_words p name z)
  selector_words (layer.Index p e) = λ d q. then_holds q (λ z k. component_words p z)

  designator_words : (y : Designator-F SE SS SD SI)
      → FM (designator_layer g (parts_designator (bare_designator y))).fixed
  designator_words y = picks_words (map (λ (e : Picks g.Reported). e.fixed)
      (map (picks g) (map (λ (e : SS). e.0) y.selectors))) (first_name g s y.name) (named_words y.name)
      (all_picks y.selectors)

  -- ---- the induction

  step_expr : (y : Expr-F Expr Selector Designator Item) (z : Expr-F SE SS SD SI) → bare z ≡ y → PE (roll-Expr y)
  step_expr y z q = subst (λ (m : Meant g.Reported). FM m.fixed)
      (sym (at_expr (roll-Expr y) (bare z) (out-roll-Expr y ∙ sym q))) (expr_words z)

  step_selector : (y : Selector-F Expr Selector Designator Item) (z : Selector-F SE SS SD SI) → bare_selector z ≡ y
      → PS (roll-Selector y)
  step_selector y z q = subst (λ (m : Picks g.Reported). FP m.fixed)
      (sym (at_selector (roll-Selector y) (bare_selector z) (out-roll-Selector y ∙ sym q))) (selector_words z)

  step_designator : (y : Designator-F Expr Selector Designator Item) (z : Designator-F SE SS SD SI)
      → bare_designator z ≡ y → PD (roll-Designator y)
  step_designator y z q = subst (λ (m : Meant g.Reported). FM m.fixed)
      (sym (at_designator (roll-Designator y) (bare_designator z) (out-roll-Designator y ∙ sym q))) (designator_words z)

  abbrev fixed_item : Item-F SE SS SD SI →
      Item-F (Part g.Reported) (Pick g.Reported) (Part g.Reported) (Adds g.Reported)
  fixed_item z = map-Item (Meant g.Reported) (Picks g.Reported) (Meant g.Reported) (Adds g.Reported) (Part g.Reported)
      (Pick g.Reported) (Part g.Reported) (Adds g.Reported) (λ e. e.fixed) (λ e. e.fixed) (λ e. e.fixed) (λ e. e)
      (parts_item (bare_item z))

  step_item : (y : Item-F Expr Selector Designator Item) (z : Item-F SE SS SD SI) → bare_item z ≡ y → PI (roll-Item y)
  step_item y z q = subst (λ (i : Adds g.Reported). B_ g (i s))
      (sym (at_item (roll-Item y) (bare_item z) (out-roll-Item y ∙ sym q)))
      (added_small g s (fixed_item z).low (fixed_item z).high)

  part_words : (e : Expr) → PE e
  part_words = ind-Expr PE PS PD PI step_expr step_selector step_designator step_item

  pub constants_words : (e : Expr) → Holds IsWord (constant g s (part g e))
  constants_words e = constant_words (part g e) (part_words e)
