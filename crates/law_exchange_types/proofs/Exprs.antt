-- Every expression moves with the numbers of modules.
use Rattle.check_const.specs.Operands.{number_value}
use Rattle.check_const.specs.Parts.{Part, Adds}
use Rattle.check_expr.specs.Meanings.{high, Meant, as_constant, meanings_of, selector_layer, expr_layer, item, designator_layer, part, item_layer, head, picks, Picks, expr_fixed}
use Rattle.check_scope.specs.Elaborated.{Gathers}
use Rattle.def_exchange.specs.Moved.{Exchange}
use Rattle.law_exchange_types.proofs.Fixed.{PartMoves, AddMoves, AddsMove, PartsMove, TermsMove, standing_moves, set_moves, not_moves, bracketed_moves, used_moves, term_moves, sum_moves, relation_moves, field_moves, index_moves, item_moves}
use Rattle.law_exchange_types.proofs.Meaning.{AllMove, AllPicked, MeantMoves, OperandsMove, PickedMoves, bracketed_means, constant_means, designator_moves, index_picks, meant_used_moves, not_means, relation_means, sum_means, term_means}
use Rattle.law_exchange_types.proofs.MeaningPieces.{field_at_moves}
use Rattle.m2_tree.specs.declared.expr.AddOp.{AddOp}
use Rattle.m2_tree.specs.declared.expr.Designator.{Designator, Designator-F, out-Designator, roll-Designator, out-roll-Designator, map-Designator, fold_out-Designator, ind-Designator}
use Rattle.m2_tree.specs.declared.expr.Expr.{Expr, Expr-F, out-Expr, roll-Expr, out-roll-Expr, map-Expr, fold_out-Expr, ind-Expr}
use Rattle.m2_tree.specs.declared.expr.Item.{Item, Item-F, out-Item, roll-Item, out-roll-Item, map-Item, fold_out-Item}
use Rattle.m2_tree.specs.declared.expr.MulOp.{MulOp}
use Rattle.m2_tree.specs.declared.expr.Operator.{Operator}
use Rattle.m2_tree.specs.declared.expr.Selector.{Selector, Selector-F, out-Selector, roll-Selector, out-roll-Selector, map-Selector, fold_out-Selector}
use Rattle.std.proofs.Common.{◌≡◌, List, None, Ok, Option, Some, ap, map, pos, refl, subst, sym, ◌∷◌, ◌∙◌, []}
use Rattle.typed_tree.specs.Types.{char}
use Rattle.typed_tree.specs.declared.meaning.Value.TheVariants as constant
use Rattle.check_const.specs.declared.denoted.Denoted.TheVariants as denoted
use Rattle.m2_tree.specs.declared.expr.Expr.TheOpen as layer
use Rattle.check_const.specs.declared.denoted.Denoted.TheVariants as denoted

module _ (z : Exchange) (g : Gathers) where
  abbrev PE : Expr → Type 0
  PE e = MeantMoves z g (meanings_of g e)

  abbrev PS : Selector → Type 0
  PS e = PickedMoves z g (picks g e)

  abbrev PD : Designator → Type 0
  PD e = MeantMoves z g (head g e)

  abbrev PI : Item → Type 0
  PI e = AddMoves z g (item g e)

  abbrev SE : Type 0
  SE = (e : Expr) × PE e

  abbrev SS : Type 0
  SS = (e : Selector) × PS e

  abbrev SD : Type 0
  SD = (e : Designator) × PD e

  abbrev SI : Type 0
  SI = (e : Item) × PI e

  abbrev opened : Expr-F Expr Selector Designator Item
      → Expr-F (Meant g.Reported) (Picks g.Reported) (Meant g.Reported) (Adds g.Reported)
  opened x = map-Expr Expr Selector Designator Item (Meant g.Reported) (Picks g.Reported) (Meant g.Reported)
      (Adds g.Reported) (meanings_of g) (picks g) (head g) (item g) x

  abbrev opened_selector : Selector-F Expr Selector Designator Item
      → Selector-F (Meant g.Reported) (Picks g.Reported) (Meant g.Reported) (Adds g.Reported)
  opened_selector x = map-Selector Expr Selector Designator Item (Meant g.Reported) (Picks g.Reported)
      (Meant g.Reported) (Adds g.Reported) (meanings_of g) (picks g) (head g) (item g) x

  abbrev opened_designator : Designator-F Expr Selector Designator Item
      → Designator-F (Meant g.Reported) (Picks g.Reported) (Meant g.Reported) (Adds g.Reported)
  opened_designator x = map-Designator Expr Selector Designator Item (Meant g.Reported) (Picks g.Reported)
      (Meant g.Reported) (Adds g.Reported) (meanings_of g) (picks g) (head g) (item g) x

  abbrev opened_item : Item-F Expr Selector Designator Item
      → Item-F (Meant g.Reported) (Picks g.Reported) (Meant g.Reported) (Adds g.Reported)
  opened_item x = map-Item Expr Selector Designator Item (Meant g.Reported) (Picks g.Reported)
      (Meant g.Reported) (Adds g.Reported) (meanings_of g) (picks g) (head g) (item g) x

  at_expr : (e : Expr) (x : Expr-F Expr Selector Designator Item) → out-Expr e ≡ x
      → meanings_of g e ≡ expr_layer g (opened x)
  unfolding meanings_of picks head item
  at_expr e x q = fold_out-Expr (Meant g.Reported) (Picks g.Reported) (Meant g.Reported) (Adds g.Reported)
      (expr_layer g) (selector_layer g) (designator_layer g) (item_layer g) e
      ∙ ap (λ (y : Expr-F Expr Selector Designator Item). expr_layer g (opened y)) q

  at_selector : (e : Selector) (x : Selector-F Expr Selector Designator Item) → out-Selector e ≡ x
      → picks g e ≡ selector_layer g (opened_selector x)
  unfolding meanings_of picks head item
  at_selector e x q = fold_out-Selector (Meant g.Reported) (Picks g.Reported) (Meant g.Reported) (Adds g.Reported)
      (expr_layer g) (selector_layer g) (designator_layer g) (item_layer g) e
      ∙ ap (λ (y : Selector-F Expr Selector Designator Item). selector_layer g (opened_selector y)) q

  at_designator : (e : Designator) (x : Designator-F Expr Selector Designator Item) → out-Designator e ≡ x
      → head g e ≡ designator_layer g (opened_designator x)
  unfolding meanings_of picks head item
  at_designator e x q = fold_out-Designator (Meant g.Reported) (Picks g.Reported) (Meant g.Reported) (Adds g.Reported)
      (expr_layer g) (selector_layer g) (designator_layer g) (item_layer g) e
      ∙ ap (λ (y : Designator-F Expr Selector Designator Item). designator_layer g (opened_designator y)) q

  at_item : (e : Item) (x : Item-F Expr Selector Designator Item) → out-Item e ≡ x
      → item g e ≡ item_layer g (opened_item x)
  unfolding meanings_of picks head item
  at_item e x q = fold_out-Item (Meant g.Reported) (Picks g.Reported) (Meant g.Reported) (Adds g.Reported)
      (expr_layer g) (selector_layer g) (designator_layer g) (item_layer g) e
      ∙ ap (λ (y : Item-F Expr Selector Designator Item). item_layer g (opened_item y)) q

  abbrev bare : Expr-F SE SS SD SI → Expr-F Expr Selector Designator Item
  bare x = map-Expr SE SS SD SI Expr Selector Designator Item (λ e. e.0) (λ e. e.0) (λ e. e.0) (λ e. e.0) x

  abbrev bare_selector : Selector-F SE SS SD SI → Selector-F Expr Selector Designator Item
  bare_selector x =
      map-Selector SE SS SD SI Expr Selector Designator Item (λ e. e.0) (λ e. e.0) (λ e. e.0) (λ e. e.0) x

  abbrev bare_designator : Designator-F SE SS SD SI → Designator-F Expr Selector Designator Item
  bare_designator x =
      map-Designator SE SS SD SI Expr Selector Designator Item (λ e. e.0) (λ e. e.0) (λ e. e.0) (λ e. e.0) x

  abbrev bare_item : Item-F SE SS SD SI → Item-F Expr Selector Designator Item
  bare_item x = map-Item SE SS SD SI Expr Selector Designator Item (λ e. e.0) (λ e. e.0) (λ e. e.0) (λ e. e.0) x

  all_terms : {O : Type 0} (xs : List (Operator O × SE))
      → OperandsMove z g (map (λ (x : Operator O × Expr). (x.0, meanings_of g x.1))
      (map (λ (a : Operator O × SE). (a.0, a.1.0)) xs))
  all_terms [] = tt
  all_terms (x ∷ xs) = (x.1.1, all_terms xs)

  fixed_terms : {O : Type 0} (xs : List (Operator O × SE))
      → TermsMove z g (map (λ (m : Operator O × Meant g.Reported). (m.0, m.1.fixed))
      (map (λ (x : Operator O × Expr). (x.0, meanings_of g x.1)) (map (λ (a : Operator O × SE). (a.0, a.1.0)) xs)))
  fixed_terms [] = tt
  fixed_terms (x ∷ xs) = (x.1.1.fixed, fixed_terms xs)

  all_args : (xs : List SE) → AllMove z g (map (meanings_of g) (map (λ (e : SE). e.0) xs))
  all_args [] = tt
  all_args (x ∷ xs) = (x.1, all_args xs)

  fixed_args : (xs : List SE)
      → PartsMove z g (map (λ (m : Meant g.Reported). m.fixed) (map (meanings_of g) (map (λ (e : SE). e.0) xs)))
  fixed_args [] = tt
  fixed_args (x ∷ xs) = (x.1.fixed, fixed_args xs)

  all_picks : (xs : List SS) → AllPicked z g (map (picks g) (map (λ (e : SS). e.0) xs))
  all_picks [] = tt
  all_picks (x ∷ xs) = (x.1, all_picks xs)

  all_items : (xs : List SI)
      → AddsMove z g (map (λ (a : Adds g.Reported). a) (map (item g) (map (λ (e : SI). e.0) xs)))
  all_items [] = tt
  all_items (x ∷ xs) = (x.1, all_items xs)

  abbrev constant_only : (p : Part g.Reported) → PartMoves z g p
      → MeantMoves z g (record { fixed = p; means = λ s. as_constant g s p })
  constant_only p h = record { fixed = h; means = λ s. constant_means z g s p h }

  expr_moves : (y : Expr-F SE SS SD SI) → MeantMoves z g (expr_layer g (opened (bare y)))
  expr_moves (layer.Number p n) =
      constant_only (expr_fixed g (opened (bare (layer.Number p n))))
      (standing_moves z g p (λ s. Ok (denoted.Value (constant.Number (pos n)))) (λ s. refl))
  expr_moves (layer.Char p n) =
      constant_only (expr_fixed g (opened (bare (layer.Char p n))))
      (standing_moves z g p (λ s. Ok (denoted.Value (number_value (Some char) (pos n)))) (λ s. refl))
  expr_moves (layer.Text p t) =
      constant_only (expr_fixed g (opened (bare (layer.Text p t))))
      (standing_moves z g p (λ s. Ok (denoted.Value (constant.Text t))) (λ s. refl))
  expr_moves (layer.Set q p items) =
      constant_only (expr_fixed g (opened (bare (layer.Set q p items))))
      (set_moves z g q p (map (λ (a : Adds g.Reported). a) (map (item g) (map (λ (e : SI). e.0) items)))
      (all_items items))
  expr_moves (layer.Not p e) = record {
    fixed = not_moves z g p (meanings_of g e.0).fixed e.1.fixed;
    means = λ s. not_means z g s p (meanings_of g e.0) e.1;
  }
  expr_moves (layer.Bracketed p e) = record {
    fixed = bracketed_moves z g p (meanings_of g e.0).fixed e.1.fixed;
    means = λ s. bracketed_means z g s (meanings_of g e.0) e.1;
  }
  expr_moves (layer.Use d None) = record {
    fixed = used_moves z g (head g d.0).fixed None d.1.fixed tt;
    means = λ s. meant_used_moves z g s (head g d.0) None d.1 tt;
  }
  expr_moves (layer.Use d (Some es)) = record {
    fixed = used_moves z g (head g d.0).fixed
        (Some (map (λ (m : Meant g.Reported). m.fixed) (map (meanings_of g) (map (λ (e : SE). e.0) es)))) d.1.fixed
        (fixed_args es);
    means = λ s. meant_used_moves z g s (head g d.0) (Some (map (meanings_of g) (map (λ (e : SE). e.0) es))) d.1
        (all_args es);
  }
  expr_moves (layer.Term e xs) = record {
    fixed = term_moves z g (meanings_of g e.0).fixed (map (λ (m : Operator MulOp × Meant g.Reported). (m.0, m.1.fixed))
        (map (λ (x : Operator MulOp × Expr). (x.0, meanings_of g x.1))
        (map (λ (a : Operator MulOp × SE). (a.0, a.1.0)) xs))) e.1.fixed (fixed_terms xs);
    means = λ s. term_means z g s (meanings_of g e.0) (map (λ (x : Operator MulOp × Expr). (x.0, meanings_of g x.1))
        (map (λ (a : Operator MulOp × SE). (a.0, a.1.0)) xs)) e.1 (all_terms xs);
  }
  expr_moves (layer.Sum o e xs) = record {
    fixed = sum_moves z g o (meanings_of g e.0).fixed (map (λ (m : Operator AddOp × Meant g.Reported). (m.0, m.1.fixed))
        (map (λ (x : Operator AddOp × Expr). (x.0, meanings_of g x.1))
        (map (λ (a : Operator AddOp × SE). (a.0, a.1.0)) xs))) e.1.fixed (fixed_terms xs);
    means = λ s. sum_means z g s o (meanings_of g e.0) (map (λ (x : Operator AddOp × Expr). (x.0, meanings_of g x.1))
        (map (λ (a : Operator AddOp × SE). (a.0, a.1.0)) xs)) e.1 (all_terms xs);
  }
  expr_moves (layer.Relation e o f) = record {
    fixed = relation_moves z g (meanings_of g e.0).fixed o (meanings_of g f.0).fixed e.1.fixed f.1.fixed;
    means = λ s. relation_means z g s (meanings_of g e.0) o (meanings_of g f.0) e.1 f.1;
  }

  selector_moves : (y : Selector-F SE SS SD SI) → PickedMoves z g (selector_layer g (opened_selector (bare_selector y)))
  selector_moves (layer.Field p name) = record {
    fixed = field_moves z g p name;
    picks = λ s d. field_at_moves z g s p name d;
  }
  selector_moves (layer.Index p e) = record {
    fixed = index_moves z g p;
    picks = λ s d. index_picks z g s p (meanings_of g e.0) d e.1;
  }

  item_at : (low : SE) (high : Option SE)
      → AddMoves z g (item_layer g (opened_item (bare_item (record { low = low; high = high }))))
  item_at low None = item_moves z g (meanings_of g low.0).fixed None low.1.fixed tt
  item_at low (Some high) =
      item_moves z g (meanings_of g low.0).fixed (Some (meanings_of g high.0).fixed) low.1.fixed high.1.fixed

  -- ---- the induction

  step_expr : (x : Expr-F Expr Selector Designator Item) (y : Expr-F SE SS SD SI) → bare y ≡ x → PE (roll-Expr x)
  step_expr x y q =
      subst (MeantMoves z g) (sym (at_expr (roll-Expr x) (bare y) (out-roll-Expr x ∙ sym q))) (expr_moves y)

  step_selector : (x : Selector-F Expr Selector Designator Item) (y : Selector-F SE SS SD SI) → bare_selector y ≡ x
      → PS (roll-Selector x)
  step_selector x y q =
      subst (PickedMoves z g) (sym (at_selector (roll-Selector x) (bare_selector y) (out-roll-Selector x ∙ sym q)))
      (selector_moves y)

  step_designator : (x : Designator-F Expr Selector Designator Item) (y : Designator-F SE SS SD SI)
      → bare_designator y ≡ x → PD (roll-Designator x)
  step_designator x y q =
      subst (MeantMoves z g)
      (sym (at_designator (roll-Designator x) (bare_designator y) (out-roll-Designator x ∙ sym q)))
      (designator_moves z g y.name (map (picks g) (map (λ (e : SS). e.0) y.selectors)) (all_picks y.selectors))

  step_item : (x : Item-F Expr Selector Designator Item) (y : Item-F SE SS SD SI) → bare_item y ≡ x
      → PI (roll-Item x)
  step_item x y q =
      subst (λ (a : Adds g.Reported). AddMoves z g a)
      (sym (at_item (roll-Item x) (bare_item y) (out-roll-Item x ∙ sym q))) (item_at y.low y.high)

  pub meant_moves : (e : Expr) → PE e
  meant_moves = ind-Expr PE PS PD PI step_expr step_selector step_designator step_item

  pub head_moves : (d : Designator) → PD d
  head_moves = ind-Designator PE PS PD PI step_expr step_selector step_designator step_item

  pub part_moves : (e : Expr) → PartMoves z g (part g e)
  part_moves e = (meant_moves e).fixed
