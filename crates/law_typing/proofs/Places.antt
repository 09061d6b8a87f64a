-- Expressions by their layers: what they are elaborated to, and their first tokens.
use Rattle.std.proofs.Common.{◌≡◌, Some, None, refl, sym, ap, ◌∙◌}
use Rattle.std.specs.Prelude.{map}
use Rattle.m2_tree.specs.declared.pos.Pos.{Pos}
use Rattle.m2_tree.specs.declared.expr.Expr.{Expr, Expr-F, out-Expr, map-Expr, fold_out-Expr}
use Rattle.m2_tree.specs.declared.expr.Expr.TheOpen as layer
use Rattle.m2_tree.specs.declared.expr.Selector.{Selector, Selector-F, out-Selector, map-Selector, fold_out-Selector}
use Rattle.m2_tree.specs.declared.expr.Designator.{Designator, out-Designator, fold-Designator, fold_out-Designator}
use Rattle.m2_tree.specs.declared.expr.Item.{Item}
use Rattle.check_scope.specs.Elaborated.{Gathers}
use Rattle.check_const.specs.Parts.{Adds}
use Rattle.check_expr.specs.Meanings.{Meant, Picks, expr_layer, selector_layer, designator_layer, item_layer, meanings_of, picks, head, item}
use Rattle.def_typing.specs.Parts.{first, first_layer}
use Rattle.law_typing.proofs.Trees.{tree, IsTree, tree_number, tree_character, tree_string, tree_set, tree_name, tree_call, tree_not, tree_brackets, tree_term, tree_sum, tree_relation}

-- ---- the layers of the elaboration

module _ (g : Gathers) where
  abbrev pub opened : Expr-F Expr Selector Designator Item
      → Expr-F (Meant g.Reported) (Picks g.Reported) (Meant g.Reported) (Adds g.Reported)
  opened x = map-Expr Expr Selector Designator Item (Meant g.Reported) (Picks g.Reported) (Meant g.Reported)
      (Adds g.Reported) (meanings_of g) (picks g) (head g) (item g) x

  abbrev pub opened_selector : Selector-F Expr Selector Designator Item
      → Selector-F (Meant g.Reported) (Picks g.Reported) (Meant g.Reported) (Adds g.Reported)
  opened_selector x = map-Selector Expr Selector Designator Item (Meant g.Reported) (Picks g.Reported)
      (Meant g.Reported) (Adds g.Reported) (meanings_of g) (picks g) (head g) (item g) x

  pub meant_is : (e : Expr) (y : Expr-F Expr Selector Designator Item) → out-Expr e ≡ y
      → meanings_of g e ≡ expr_layer g (opened y)
  unfolding meanings_of picks head item
  meant_is e y h = fold_out-Expr (Meant g.Reported) (Picks g.Reported) (Meant g.Reported) (Adds g.Reported)
      (expr_layer g) (selector_layer g) (designator_layer g) (item_layer g) e
      ∙ ap (λ (y : Expr-F Expr Selector Designator Item). expr_layer g (opened y)) h

  pub picks_is : (x : Selector) (y : Selector-F Expr Selector Designator Item) → out-Selector x ≡ y
      → picks g x ≡ selector_layer g (opened_selector y)
  unfolding meanings_of picks head item
  picks_is x y h = fold_out-Selector (Meant g.Reported) (Picks g.Reported) (Meant g.Reported) (Adds g.Reported)
      (expr_layer g) (selector_layer g) (designator_layer g) (item_layer g) x
      ∙ ap (λ (y : Selector-F Expr Selector Designator Item). selector_layer g (opened_selector y)) h

  pub head_is : (d : Designator) → head g d
      ≡ designator_layer g (record {
        name = (out-Designator d).name;
        selectors =
            map (picks g) (out-Designator d).selectors;
      })
  unfolding meanings_of picks head item
  head_is d = fold_out-Designator (Meant g.Reported) (Picks g.Reported) (Meant g.Reported) (Adds g.Reported)
      (expr_layer g) (selector_layer g) (designator_layer g) (item_layer g) d

-- ---- first tokens

abbrev pub first_of : Expr-F Expr Selector Designator Item → Pos
first_of (layer.Number at n) = at
first_of (layer.Char at c) = at
first_of (layer.Text at t) = at
first_of (layer.Set None at items) = at
first_of (layer.Set (Some name) at items) = name.pos
first_of (layer.Not at e) = at
first_of (layer.Bracketed at e) = at
first_of (layer.Use d args) = (out-Designator d).name.pos
first_of (layer.Term e rest) = first e
first_of (layer.Sum None e rest) = first e
first_of (layer.Sum (Some sign) e rest) = sign.pos
first_of (layer.Relation a o b) = first a

unfoldable head_first : Designator → Pos
head_first = fold-Designator Pos (Unit {0}) Pos (Unit {0}) first_layer (λ s. tt) (λ d. d.name.pos) (λ i. tt)

head_first_is : (d : Designator) → head_first d ≡ (out-Designator d).name.pos
unfolding head_first
head_first_is d = fold_out-Designator Pos (Unit {0}) Pos (Unit {0}) first_layer (λ s. tt) (λ d. d.name.pos) (λ i. tt) d

first_by : (y : Expr-F Expr Selector Designator Item) (e : Expr) → out-Expr e ≡ y
    → first e ≡ first_layer (map-Expr Expr Selector Designator Item Pos (Unit {0}) Pos (Unit {0}) first (λ s. tt)
    head_first (λ i. tt) y)
unfolding first head_first
first_by y e h = fold_out-Expr Pos (Unit {0}) Pos (Unit {0}) first_layer (λ s. tt) (λ d. d.name.pos) (λ i. tt) e
    ∙ ap (λ (y : Expr-F Expr Selector Designator Item). first_layer
    (map-Expr Expr Selector Designator Item Pos (Unit {0}) Pos (Unit {0}) first (λ s. tt) head_first (λ i. tt) y)) h

layer_same : (y : Expr-F Expr Selector Designator Item)
    → first_layer (map-Expr Expr Selector Designator Item Pos (Unit {0}) Pos (Unit {0}) first (λ s. tt) head_first
    (λ i. tt) y) ≡ first_of y
layer_same (layer.Number at n) = refl
layer_same (layer.Char at c) = refl
layer_same (layer.Text at t) = refl
layer_same (layer.Set None at items) = refl
layer_same (layer.Set (Some name) at items) = refl
layer_same (layer.Not at e) = refl
layer_same (layer.Bracketed at e) = refl
layer_same (layer.Use d None) = head_first_is d
layer_same (layer.Use d (Some args)) = head_first_is d
layer_same (layer.Term e rest) = refl
layer_same (layer.Sum None e rest) = refl
layer_same (layer.Sum (Some sign) e rest) = refl
layer_same (layer.Relation a o b) = refl

pub first_is : (e : Expr) (y : Expr-F Expr Selector Designator Item) → out-Expr e ≡ y → first e ≡ first_of y
first_is e y h = first_by y e h ∙ layer_same y

module _ (g : Gathers) where
  layer_at : (e : Expr) (y : Expr-F Expr Selector Designator Item) → out-Expr e ≡ y
      → (expr_layer g (opened g y)).fixed.at ≡ first_of y → (meanings_of g e).fixed.at ≡ first e
  layer_at e y h p = ap (λ (m : Meant g.Reported). m.fixed.at) (meant_is g e y h) ∙ p ∙ sym (first_is e y h)

  pub head_at : (d : Designator) → (head g d).fixed.at ≡ (out-Designator d).name.pos
  head_at d = ap (λ (m : Meant g.Reported). m.fixed.at) (head_is g d)

  at_part : {e : Expr} → IsTree e → (meanings_of g e).fixed.at ≡ first e
  at_part {e = e} (tree_number {at = at} {n = n} h) = layer_at e (layer.Number at n) h refl
  at_part {e = e} (tree_character {at = at} {c = c} h) = layer_at e (layer.Char at c) h refl
  at_part {e = e} (tree_string {at = at} {text = text} h) = layer_at e (layer.Text at text) h refl
  at_part {e = e} (tree_set {name = None} {at = at} {items = items} h i) = layer_at e (layer.Set None at items) h refl
  at_part {e = e} (tree_set {name = Some name} {at = at} {items = items} h i) =
      layer_at e (layer.Set (Some name) at items) h refl
  at_part {e = e} (tree_name {d = d} h s) = layer_at e (layer.Use d None) h (head_at d)
  at_part {e = e} (tree_call {d = d} {args = args} h s a) = layer_at e (layer.Use d (Some args)) h (head_at d)
  at_part {e = e} (tree_not {at = at} {x = x} h i) = layer_at e (layer.Not at x) h refl
  at_part {e = e} (tree_brackets {at = at} {x = x} h i) = layer_at e (layer.Bracketed at x) h refl
  at_part {e = e} (tree_term {x = x} {rest = rest} h i o) = layer_at e (layer.Term x rest) h (at_part i)
  at_part {e = e} (tree_sum {sign = None} {x = x} {rest = rest} h i o) =
      layer_at e (layer.Sum None x rest) h (at_part i)
  at_part {e = e} (tree_sum {sign = Some sign} {x = x} {rest = rest} h i o) =
      layer_at e (layer.Sum (Some sign) x rest) h refl
  at_part {e = e} (tree_relation {a = a} {b = b} {o = o} h i k) = layer_at e (layer.Relation a o b) h (at_part i)

  -- the elaboration has the same places
  pub at_is : (e : Expr) → (meanings_of g e).fixed.at ≡ first e
  at_is e = at_part (tree e)
