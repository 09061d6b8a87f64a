-- What an expression means, from its layer.
use Rattle.std.proofs.Common.{◌≡◌, ap, ◌∙◌}
use Rattle.m2_tree.specs.declared.expr.Expr.{Expr, Expr-F, out-Expr, map-Expr, fold_out-Expr}
use Rattle.m2_tree.specs.declared.expr.Selector.{Selector, Selector-F, out-Selector, map-Selector, fold_out-Selector}
use Rattle.m2_tree.specs.declared.expr.Designator.{Designator, Designator-F, out-Designator, map-Designator, fold_out-Designator}
use Rattle.m2_tree.specs.declared.expr.Item.{Item, Item-F, out-Item, map-Item, fold_out-Item}
use Rattle.check_scope.specs.Elaborated.{least}
use Rattle.check_const.specs.Parts.{Adds}
use Rattle.check_expr.specs.Meanings.{Meant, Picks, expr_layer, selector_layer, designator_layer, item_layer, meanings_of, picks, head, item}

abbrev T : Type 0
T = least.Reported

-- ---- a layer, each part of which has its meaning

abbrev pub opened : Expr-F Expr Selector Designator Item → Expr-F (Meant T) (Picks T) (Meant T) (Adds T)
opened x = map-Expr Expr Selector Designator Item (Meant T) (Picks T) (Meant T) (Adds T) (meanings_of least)
    (picks least) (head least) (item least) x

abbrev pub opened_selector : Selector-F Expr Selector Designator Item
    → Selector-F (Meant T) (Picks T) (Meant T) (Adds T)
opened_selector x = map-Selector Expr Selector Designator Item (Meant T) (Picks T) (Meant T) (Adds T)
    (meanings_of least) (picks least) (head least) (item least) x

abbrev pub opened_designator : Designator-F Expr Selector Designator Item
    → Designator-F (Meant T) (Picks T) (Meant T) (Adds T)
opened_designator x = map-Designator Expr Selector Designator Item (Meant T) (Picks T) (Meant T) (Adds T)
    (meanings_of least) (picks least) (head least) (item least) x

abbrev pub opened_item : Item-F Expr Selector Designator Item → Item-F (Meant T) (Picks T) (Meant T) (Adds T)
opened_item x = map-Item Expr Selector Designator Item (Meant T) (Picks T) (Meant T) (Adds T) (meanings_of least)
    (picks least) (head least) (item least) x

pub at : (e : Expr) (x : Expr-F Expr Selector Designator Item) → out-Expr e ≡ x
    → meanings_of least e ≡ expr_layer least (opened x)
unfolding meanings_of picks head item
at e x h = fold_out-Expr (Meant T) (Picks T) (Meant T) (Adds T) (expr_layer least) (selector_layer least)
    (designator_layer least) (item_layer least) e
    ∙ ap (λ (y : Expr-F Expr Selector Designator Item). expr_layer least (opened y)) h

pub at_selector : (e : Selector) (x : Selector-F Expr Selector Designator Item) → out-Selector e ≡ x
    → picks least e ≡ selector_layer least (opened_selector x)
unfolding meanings_of picks head item
at_selector e x h = fold_out-Selector (Meant T) (Picks T) (Meant T) (Adds T) (expr_layer least) (selector_layer least)
    (designator_layer least) (item_layer least) e
    ∙ ap (λ (y : Selector-F Expr Selector Designator Item). selector_layer least (opened_selector y)) h

pub at_designator : (e : Designator) (x : Designator-F Expr Selector Designator Item) → out-Designator e ≡ x
    → head least e ≡ designator_layer least (opened_designator x)
unfolding meanings_of picks head item
at_designator e x h = fold_out-Designator (Meant T) (Picks T) (Meant T) (Adds T) (expr_layer least)
    (selector_layer least) (designator_layer least) (item_layer least) e
    ∙ ap (λ (y : Designator-F Expr Selector Designator Item). designator_layer least (opened_designator y)) h

pub at_item : (e : Item) (x : Item-F Expr Selector Designator Item) → out-Item e ≡ x
    → item least e ≡ item_layer least (opened_item x)
unfolding meanings_of picks head item
at_item e x h = fold_out-Item (Meant T) (Picks T) (Meant T) (Adds T) (expr_layer least) (selector_layer least)
    (designator_layer least) (item_layer least) e
    ∙ ap (λ (y : Item-F Expr Selector Designator Item). item_layer least (opened_item y)) h
