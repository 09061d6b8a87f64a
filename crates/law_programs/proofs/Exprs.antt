-- Expressions, with what stands in brackets behind names.
use Rattle.std.proofs.Common.{◌≡◌, Bool, true, inl, inr, List, [], ◌∷◌, map, Option, Some, None, refl, ap, ◌∙◌}
use Rattle.std.specs.List.{list_all}
use Rattle.m2_tree.specs.declared.pos.Pos.{Pos}
use Rattle.m2_tree.specs.declared.name.Ident.{Ident}
use Rattle.m2_tree.specs.declared.token.Lexeme.{Lexeme}
use Rattle.m2_tree.specs.declared.token.Lexeme.TheVariants as lexeme
use Rattle.m2_tree.specs.declared.expr.Operator.{Operator}
use Rattle.m2_tree.specs.declared.expr.Sign.{Sign}
use Rattle.m2_tree.specs.declared.expr.Expr.{Expr, Expr-F, out-Expr, map-Expr, fold_out-Expr}
use Rattle.m2_tree.specs.declared.expr.Expr.TheOpen as layer
use Rattle.m2_tree.specs.declared.expr.Expr.TheVariants as expr
use Rattle.m2_tree.specs.declared.expr.Expr.TheVariants.{outs-Number, outs-Char, outs-Text, outs-Set, outs-Not, outs-Bracketed, outs-Use, outs-Term, outs-Sum, outs-Relation}
use Rattle.m2_tree.specs.declared.expr.Item.{Item, fold-Item}
use Rattle.m2_tree.specs.declared.expr.Selector.{Selector, Selector-F, out-Selector, map-Selector, fold_out-Selector}
use Rattle.m2_tree.specs.declared.expr.Selector.TheVariants as pick
use Rattle.m2_tree.specs.declared.expr.Selector.TheVariants.{outs-Field, outs-Index}
use Rattle.m2_tree.specs.declared.expr.Designator.{Designator, Designator-F, roll-Designator, out-roll-Designator, map-Designator, fold_out-Designator}
use Rattle.def_grammar.specs.Rule.{expr_rule, term_rule, factor_rule}
use Rattle.def_grammar.specs.Grammar.{El, token, ast, both, either, maybe, list}
use Rattle.def_grammar.specs.Ebnf.{grammar}
use Rattle.def_grammar.specs.Trees.{literal_said, relation_or_operand, sum_of, product_of, add_operand, multiply_operand, relation_of, factor_of, ident_of, with_first, if_any, selectors_of, flatten_lists}
use Rattle.law_well_formed.specs.FormedRanges.{itself, both_fit, fits_layer}
use Rattle.law_programs.specs.Typing.{fits_whole, fits_picked, fits_head, fits_selector, fits_designator, fits_item}
use Rattle.law_well_formed.specs.FormedFits.{lexeme_fits}
use Rattle.law_programs.proofs.Fits.{True, FitsEl, both_true, all_true, itself_true, appended}

abbrev whole_item : Item → Bool
whole_item e = fold-Item Bool Bool Bool Bool fits_layer fits_selector fits_designator fits_item e

abbrev mapped : Expr-F Expr Selector Designator Item → Expr-F Bool Bool Bool Bool
mapped x = map-Expr Expr Selector Designator Item Bool Bool Bool Bool fits_whole fits_picked fits_head whole_item x

abbrev mapped_selector : Selector-F Expr Selector Designator Item → Selector-F Bool Bool Bool Bool
mapped_selector x = map-Selector Expr Selector Designator Item Bool Bool Bool Bool fits_whole fits_picked fits_head
    whole_item x

abbrev mapped_designator : Designator-F Expr Selector Designator Item → Designator-F Bool Bool Bool Bool
mapped_designator x = map-Designator Expr Selector Designator Item Bool Bool Bool Bool fits_whole fits_picked fits_head
    whole_item x

made : (e : Expr) (x : Expr-F Expr Selector Designator Item) → out-Expr e ≡ x → fits_whole e ≡ fits_layer (mapped x)
unfolding fits_whole fits_picked fits_head
made e x q = fold_out-Expr Bool Bool Bool Bool fits_layer fits_selector fits_designator fits_item e
    ∙ ap (λ (y : Expr-F Expr Selector Designator Item). fits_layer (mapped y)) q

picked_made : (e : Selector) (x : Selector-F Expr Selector Designator Item) → out-Selector e ≡ x
    → fits_picked e ≡ fits_selector (mapped_selector x)
unfolding fits_whole fits_picked fits_head
picked_made e x q = fold_out-Selector Bool Bool Bool Bool fits_layer fits_selector fits_designator fits_item e
    ∙ ap (λ (y : Selector-F Expr Selector Designator Item). fits_selector (mapped_selector y)) q

head_made : (x : Designator-F Expr Selector Designator Item)
    → fits_head (roll-Designator x) ≡ fits_designator (mapped_designator x)
unfolding fits_whole fits_picked fits_head
head_made x = fold_out-Designator Bool Bool Bool Bool fits_layer fits_selector fits_designator fits_item
    (roll-Designator x) ∙ ap (λ (y : Designator-F Expr Selector Designator Item). fits_designator (mapped_designator y))
    (out-roll-Designator x)

pub head_fits : (name : Ident) (ss : List Selector) → True (list_all fits_picked ss)
    → True (fits_head (roll-Designator (record { name = name; selectors = ss })))
head_fits name ss h = head_made (record { name = name; selectors = ss }) ∙ itself_true fits_picked ss h

literal_fits : (p : Pos) (l : Lexeme) → True (lexeme_fits l) → True (fits_whole (literal_said p l))
literal_fits p (lexeme.Name n) h = made (expr.Number p 0) (layer.Number p 0) (outs-Number p 0)
literal_fits p (lexeme.Number n) h = made (expr.Number p n) (layer.Number p n) (outs-Number p n) ∙ h
literal_fits p (lexeme.Char c) h = made (expr.Char p c) (layer.Char p c) (outs-Char p c) ∙ h
literal_fits p (lexeme.Text q) h = made (expr.Text p q) (layer.Text p q) (outs-Text p q) ∙ h
literal_fits p (lexeme.Symbol s) h = made (expr.Number p 0) (layer.Number p 0) (outs-Number p 0)
literal_fits p lexeme.End h = made (expr.Number p 0) (layer.Number p 0) (outs-Number p 0)

factors_fit : (ps : El (list (both token (ast factor_rule)))) → FitsEl (list (both token (ast factor_rule))) ps
    → True (list_all both_fit (map (λ q. (q.0, fits_whole q.1)) (map multiply_operand ps)))
factors_fit [] h = refl
factors_fit (p ∷ ps) h = both_true (fits_whole p.1)
    (list_all both_fit (map (λ q. (q.0, fits_whole q.1)) (map multiply_operand ps))) h.0.1 (factors_fit ps h.1)

terms_fit : (ps : El (list (both token (ast term_rule)))) → FitsEl (list (both token (ast term_rule))) ps
    → True (list_all both_fit (map (λ q. (q.0, fits_whole q.1)) (map add_operand ps)))
terms_fit [] h = refl
terms_fit (p ∷ ps) h = both_true (fits_whole p.1)
    (list_all both_fit (map (λ q. (q.0, fits_whole q.1)) (map add_operand ps))) h.0.1 (terms_fit ps h.1)

pub product_fits : (a : Expr) (ps : El (list (both token (ast factor_rule)))) → True (fits_whole a)
    → FitsEl (list (both token (ast factor_rule))) ps → True (fits_whole (product_of a (map multiply_operand ps)))
product_fits a [] h hs = h
product_fits a (p ∷ ps) h hs =
    made (expr.Term a (map multiply_operand (p ∷ ps))) (layer.Term a (map multiply_operand (p ∷ ps)))
    (outs-Term a (map multiply_operand (p ∷ ps)))
    ∙ both_true (fits_whole a) (list_all both_fit
    (map (λ q. (q.0, fits_whole q.1)) (map multiply_operand (p ∷ ps)))) h (factors_fit (p ∷ ps) hs)

signed_fits : (s : Option (Operator Sign)) (a : Expr) (ps : El (list (both token (ast term_rule))))
    → True (fits_whole a) → FitsEl (list (both token (ast term_rule))) ps
    → True (fits_whole (expr.Sum s a (map add_operand ps)))
signed_fits s a ps h hs = made (expr.Sum s a (map add_operand ps)) (layer.Sum s a (map add_operand ps))
    (outs-Sum s a (map add_operand ps)) ∙ both_true (fits_whole a)
    (list_all both_fit (map (λ q. (q.0, fits_whole q.1)) (map add_operand ps))) h (terms_fit ps hs)

pub sum_fits : (s : Option (Operator Sign)) (a : Expr) (ps : El (list (both token (ast term_rule))))
    → True (fits_whole a) → FitsEl (list (both token (ast term_rule))) ps
    → True (fits_whole (sum_of s a (map add_operand ps)))
sum_fits None a [] h hs = h
sum_fits None a (p ∷ ps) h hs = signed_fits None a (p ∷ ps) h hs
sum_fits (Some s) a ps h hs = signed_fits (Some s) a ps h hs

pub relation_fits : (a : Expr) (p : El (maybe (both token (ast expr_rule)))) → True (fits_whole a)
    → FitsEl (maybe (both token (ast expr_rule))) p → True (fits_whole (relation_or_operand a p))
relation_fits a None h q = h
relation_fits a (Some p) h q = made (expr.Relation a (relation_of p.0) p.1) (layer.Relation a (relation_of p.0) p.1)
    (outs-Relation a (relation_of p.0) p.1) ∙ both_true (fits_whole a) (fits_whole p.1) h q.1

abbrev Arguments : Option (List Expr) → Type 0
Arguments None = Unit {0}
Arguments (Some xs) = True (list_all fits_whole xs)

use_fits : (d : Designator) (args : Option (List Expr)) → True (fits_head d) → Arguments args
    → True (fits_whole (expr.Use d args))
use_fits d None q h = made (expr.Use d None) (layer.Use d None) (outs-Use d None) ∙ both_true (fits_head d) true q refl
use_fits d (Some xs) q h = made (expr.Use d (Some xs)) (layer.Use d (Some xs)) (outs-Use d (Some xs))
    ∙ both_true (fits_head d) (list_all itself (map fits_whole xs)) q (itself_true fits_whole xs h)

pub factor_fits : (x : El (grammar factor_rule).shape) → FitsEl (grammar factor_rule).shape x
    → True (fits_whole (factor_of x))
factor_fits (inl t) h = literal_fits t.pos t.lexeme h
factor_fits (inr (inl (t, inl s))) h = made (expr.Set (Some (ident_of t)) s.0 s.1)
    (layer.Set (Some (ident_of t)) s.0 s.1) (outs-Set (Some (ident_of t)) s.0 s.1)
factor_fits (inr (inl (t, inr (ss, None)))) h =
    use_fits (roll-Designator (record { name = ident_of t; selectors = ss })) None (head_fits (ident_of t) ss h.1.0) tt
factor_fits (inr (inl (t, inr (ss, Some xs)))) h =
    use_fits (roll-Designator (record { name = ident_of t; selectors = ss })) (Some xs)
    (head_fits (ident_of t) ss h.1.0) h.1.1
factor_fits (inr (inr (inl s))) h = made (expr.Set None s.0 s.1) (layer.Set None s.0 s.1) (outs-Set None s.0 s.1)
factor_fits (inr (inr (inr (inl p)))) h = made (expr.Not p.0.pos p.1) (layer.Not p.0.pos p.1) (outs-Not p.0.pos p.1)
    ∙ h.1
factor_fits (inr (inr (inr (inr p)))) h =
    made (expr.Bracketed p.0.pos p.1) (layer.Bracketed p.0.pos p.1) (outs-Bracketed p.0.pos p.1) ∙ h.1

indices_fit : (p : Pos) (es : El (list (ast expr_rule))) → FitsEl (list (ast expr_rule)) es
    → True (list_all fits_picked (map (λ (e : Expr). pick.Index p e) es))
indices_fit p [] h = refl
indices_fit p (e ∷ es) h =
    both_true (fits_picked (pick.Index p e)) (list_all fits_picked (map (λ (e : Expr). pick.Index p e) es))
    (picked_made (pick.Index p e) (layer.Index p e) (outs-Index p e) ∙ h.0) (indices_fit p es h.1)

abbrev pub Picked : Type 0
Picked = El (list (either (both token token) (both token (both (ast expr_rule) (list (ast expr_rule))))))

pub selectors_fit : (xs : Picked) → FitsEl
    (list (either (both token token) (both token (both (ast expr_rule) (list (ast expr_rule)))))) xs
    → True (list_all fits_picked (flatten_lists (map selectors_of xs)))
selectors_fit [] h = refl
selectors_fit (inl p ∷ xs) h =
    both_true (fits_picked (pick.Field p.0.pos (ident_of p.1)))
    (list_all fits_picked (flatten_lists (map selectors_of xs)))
    (picked_made (pick.Field p.0.pos (ident_of p.1)) (layer.Field p.0.pos (ident_of p.1))
    (outs-Field p.0.pos (ident_of p.1))) (selectors_fit xs h.1)
selectors_fit (inr p ∷ xs) h = appended fits_picked (selectors_of (inr p)) (flatten_lists (map selectors_of xs))
    (indices_fit p.0.pos (with_first p.1) h.0.1) (selectors_fit xs h.1)

pub arguments_fit : (x : El (maybe (both (ast expr_rule) (list (ast expr_rule)))))
    → FitsEl (maybe (both (ast expr_rule) (list (ast expr_rule)))) x → True (list_all fits_whole (if_any x))
arguments_fit None h = refl
arguments_fit (Some p) h = all_true fits_whole (with_first p) h
