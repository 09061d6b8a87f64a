-- Every expression moves with the numbers of modules.
use Rattle.check_const.specs.Parts.{Part, Adds}
use Rattle.check_expr.specs.Meanings.{head, part, selector_layer, item, meanings_of, designator_layer, Picks, Meant, expr_layer, high, picks, item_layer}
use Rattle.check_scope.specs.Elaborated.{Gathers}
use Rattle.def_exchange.specs.Moved.{Exchange}
use Rattle.law_exchange_exprs.specs.Moving.{AddMoves, MeantMoves, MeantsMove, PartMoves, PicksMoves}
use Rattle.law_exchange_types.proofs.Exprs.{meant_moves, head_moves}
use Rattle.law_exchange_types.proofs.Fixed.{PartMoves as Found, field_moves, index_moves, item_moves}
use Rattle.law_exchange_types.proofs.Meaning.{MeantMoves as Known, index_picks}
use Rattle.law_exchange_types.proofs.MeaningPieces.{field_at_moves}
use Rattle.m2_tree.specs.declared.expr.Designator.{Designator}
use Rattle.m2_tree.specs.declared.expr.Expr.{Expr}
use Rattle.m2_tree.specs.declared.expr.Item.{Item, Item-F, out-Item, map-Item, fold_out-Item}
use Rattle.m2_tree.specs.declared.expr.Selector.{Selector, Selector-F, out-Selector, map-Selector, fold_out-Selector}
use Rattle.std.proofs.Common.{◌≡◌, List, None, Option, Some, map, subst, sym, ◌∷◌, []}
use Rattle.m2_tree.specs.declared.expr.Expr.TheOpen as layer

module _ (z : Exchange) (g : Gathers) where
  part_from : (p : Part g.Reported) → Found z g p → PartMoves z p
  part_from p h = record { denotes = h.denotes; names = h.names }

  meant_from : (m : Meant g.Reported) → Known z g m → MeantMoves z m
  meant_from m h = record { fixed = part_from m.fixed h.fixed; means = h.means }

  pub expression_moves : (e : Expr) → MeantMoves z (meanings_of g e)
  expression_moves e = meant_from (meanings_of g e) (meant_moves z g e)

  pub designator_is : (d : Designator) → MeantMoves z (head g d)
  designator_is d = meant_from (head g d) (head_moves z g d)

  pub constant_part_moves : (e : Expr) → PartMoves z (part g e)
  constant_part_moves e = (expression_moves e).fixed

  pub arguments_move : (es : List Expr) → MeantsMove z (map (meanings_of g) es)
  arguments_move [] = tt
  arguments_move (e ∷ es) = (expression_moves e, arguments_move es)

  -- ---- selectors, and elements of sets

  abbrev opened : Selector-F Expr Selector Designator Item
      → Selector-F (Meant g.Reported) (Picks g.Reported) (Meant g.Reported) (Adds g.Reported)
  opened x =
      map-Selector Expr Selector Designator Item (Meant g.Reported) (Picks g.Reported) (Meant g.Reported)
      (Adds g.Reported) (meanings_of g) (picks g) (head g) (item g) x

  abbrev opened_item : Item-F Expr Selector Designator Item
      → Item-F (Meant g.Reported) (Picks g.Reported) (Meant g.Reported) (Adds g.Reported)
  opened_item x =
      map-Item Expr Selector Designator Item (Meant g.Reported) (Picks g.Reported) (Meant g.Reported)
      (Adds g.Reported) (meanings_of g) (picks g) (head g) (item g) x

  at_selector : (e : Selector) → picks g e ≡ selector_layer g (opened (out-Selector e))
  unfolding meanings_of picks head item
  at_selector e =
      fold_out-Selector (Meant g.Reported) (Picks g.Reported) (Meant g.Reported) (Adds g.Reported) (expr_layer g)
      (selector_layer g) (designator_layer g) (item_layer g) e

  at_item : (e : Item) → item g e ≡ item_layer g (opened_item (out-Item e))
  unfolding meanings_of picks head item
  at_item e =
      fold_out-Item (Meant g.Reported) (Picks g.Reported) (Meant g.Reported) (Adds g.Reported) (expr_layer g)
      (selector_layer g) (designator_layer g) (item_layer g) e

  selector_at : (y : Selector-F Expr Selector Designator Item) → PicksMoves z (selector_layer g (opened y))
  selector_at (layer.Field p name) = record {
    fixed = field_moves z g p name;
    picks = λ s d. field_at_moves z g s p name d;
  }
  selector_at (layer.Index p e) = record {
    fixed = index_moves z g p;
    picks = λ s d. index_picks z g s p (meanings_of g e) d (meant_moves z g e);
  }

  pub selector_is : (x : Selector) → PicksMoves z (picks g x)
  selector_is x = subst (λ (p : Picks g.Reported). PicksMoves z p) (sym (at_selector x)) (selector_at (out-Selector x))

  item_at : (low : Expr) (high : Option Expr)
      → AddMoves z (item_layer g (opened_item (record { low = low; high = high })))
  item_at low None = item_moves z g (meanings_of g low).fixed None (meant_moves z g low).fixed tt
  item_at low (Some high) =
      item_moves z g (meanings_of g low).fixed (Some (meanings_of g high).fixed) (meant_moves z g low).fixed
      (meant_moves z g high).fixed

  pub item_is : (i : Item) → AddMoves z (item g i)
  item_is i =
      subst (λ (a : Adds g.Reported). AddMoves z a) (sym (at_item i)) (item_at (out-Item i).low (out-Item i).high)
