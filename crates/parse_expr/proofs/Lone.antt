-- An expression of one token is read by the grammar as what it is.
use Rattle.std.proofs.Common.{◌≡◌, ℕ, Bool, true, false, not, ◌||◌, ◌++◌, List, [], ◌∷◌, Option, Some, None, Ok, inl, inr, refl, sym, ap, ◌∙◌}
use Rattle.m2_tree.specs.declared.token.Symbol.TheVariants.{LeftBrace, LeftParen}
use Rattle.m2_tree.specs.declared.token.Lexeme.{Lexeme}
use Rattle.m2_tree.specs.declared.token.Lexeme.TheVariants as lexeme
use Rattle.m2_tree.specs.declared.token.Token.{Token}
use Rattle.m2_tree.specs.declared.pos.Pos.{Pos}
use Rattle.m2_tree.specs.declared.expr.Expr.{Expr}
use Rattle.def_grammar.specs.declared.kind.Kind.{Kind}
use Rattle.def_grammar.specs.declared.kind.Kind.TheVariants as the
use Rattle.def_grammar.specs.Kinds.{kind_of, kind_said, same_kind}
use Rattle.def_grammar.specs.Rule.{expr_rule, factor_rule, selectors_rule, sum_rule, term_rule}
use Rattle.def_grammar.specs.Grammar.{◌·◌}
use Rattle.def_grammar.specs.Ebnf.{add_op, factor, mul_op, selector, term}
use Rattle.def_grammar.specs.Tables.{add_ops, in_selector, mul_ops, relations, signs, symbols}
use Rattle.def_grammar.specs.Reading.{begins, is_among, map_outcome, one_token, read_rule}
use Rattle.def_grammar.proofs.Truth.{and_both, or_neither}
use Rattle.def_grammar.proofs.Sets.{not_true}
use Rattle.def_grammar.proofs.Turns.{many-is}
use Rattle.def_grammar.proofs.Items.{more_factors, more_selectors, more_terms}
use Rattle.def_grammar.proofs.Rules.{expr_is, factor_is, selectors_is, sum_is, term_is}
use Rattle.parse_expr.specs.Lone.{going_on, is_lone, lone_kinds, value_of}

-- what is in none of two lists together is in neither
neither : (k : Kind) (js ks : List Kind) → is_among k (js ++ ks) ≡ false → (is_among k js ≡ false)
    × (is_among k ks ≡ false)
neither k [] ks e = (refl, e)
neither k (j ∷ js) ks e =
    let p = or_neither (same_kind k j) (is_among k (js ++ ks)) e in
    let q = neither k js ks p.1 in
    (rw (p.0, q.0) refl, q.1)

-- what stands behind an expression, and goes on with no part of it
record Ends (ts : List Token) : Type 0 where
  no_relation : begins relations ts ≡ false
  no_term : begins add_ops ts ≡ false
  no_factor : begins mul_ops ts ≡ false
  no_selector : begins in_selector ts ≡ false
  no_arguments : begins (symbols (LeftParen ∷ [])) ts ≡ false
  no_set : begins (symbols (LeftBrace ∷ [])) ts ≡ false

abbrev brackets : List Kind
brackets = symbols (LeftParen ∷ LeftBrace ∷ [])

ends : (u : Token) (ts : List Token) → is_among (kind_of u) going_on ≡ false → Ends (u ∷ ts)
ends u ts e =
    let a = neither (kind_of u) relations (add_ops ++ (mul_ops ++ (in_selector ++ brackets))) e in
    let b = neither (kind_of u) add_ops (mul_ops ++ (in_selector ++ brackets)) a.1 in
    let c = neither (kind_of u) mul_ops (in_selector ++ brackets) b.1 in
    let d = neither (kind_of u) in_selector brackets c.1 in
    let f = neither (kind_of u) (symbols (LeftParen ∷ [])) (symbols (LeftBrace ∷ [])) d.1 in
    record { no_relation = a.0; no_term = b.0; no_factor = c.0; no_selector = d.0; no_arguments = f.0; no_set = f.1 }

module _ (n : ℕ) (ts : List Token) (e : Ends ts) where
  selectors_none : read_rule n selectors_rule ts ≡ Ok ([], ts)
  selectors_none = rw (selectors_is n ts, many-is selector n more_selectors ts, e.no_selector) refl

  factor_said : (l : Lexeme) (p : Pos) → is_among (kind_said l) lone_kinds ≡ true
      → read_rule n factor_rule (record { lexeme = l; pos = p } ∷ ts)
      ≡ Ok (value_of (record { lexeme = l; pos = p }), ts)
  unfolding same_kind
  factor_said (lexeme.Name name) p k = rw
      (factor_is n (record { lexeme = lexeme.Name name; pos = p } ∷ ts), e.no_set, selectors_none, e.no_arguments) refl
  factor_said (lexeme.Number number) p k = factor_is n (record { lexeme = lexeme.Number number; pos = p } ∷ ts)
  factor_said (lexeme.Char code) p k = factor_is n (record { lexeme = lexeme.Char code; pos = p } ∷ ts)
  factor_said (lexeme.Text text) p k = factor_is n (record { lexeme = lexeme.Text text; pos = p } ∷ ts)
  factor_said (lexeme.Symbol symbol) p k = absurd cc
  factor_said lexeme.End p k = absurd cc

  no_sign : (l : Lexeme) → is_among (kind_said l) lone_kinds ≡ true → is_among (kind_said l) signs ≡ false
  unfolding same_kind
  no_sign (lexeme.Name name) k = refl
  no_sign (lexeme.Number number) k = refl
  no_sign (lexeme.Char code) k = refl
  no_sign (lexeme.Text text) k = refl
  no_sign (lexeme.Symbol symbol) k = absurd cc
  no_sign lexeme.End k = absurd cc

  taken : (t : Token) → is_among (kind_of t) lone_kinds ≡ true
      → map_outcome value_of (one_token lone_kinds (t ∷ ts)) ≡ Ok (value_of t, ts)
  taken t k = rw k refl

  module _ (t : Token) (k : is_among (kind_of t) lone_kinds ≡ true) where
    term_read : read_rule n term_rule (t ∷ ts) ≡ Ok (value_of t, ts)
    term_read = rw (
      term_is n (t ∷ ts),
      factor_said t.lexeme t.pos k,
      many-is (mul_op · factor) n more_factors ts,
      e.no_factor,
    ) refl

    sum_read : read_rule n sum_rule (t ∷ ts) ≡ Ok (value_of t, ts)
    sum_read = rw (sum_is n (t ∷ ts), no_sign t.lexeme k, term_read, many-is (add_op · term) n more_terms ts, e.no_term)
        refl

    expr_read : read_rule n expr_rule (t ∷ ts) ≡ Ok (value_of t, ts)
    expr_read = rw (expr_is n (t ∷ ts), sum_read, e.no_relation) refl

pub lone_is : (n : ℕ) (ts : List Token) → is_lone ts ≡ true
    → read_rule n expr_rule ts ≡ map_outcome value_of (one_token lone_kinds ts)
lone_is n [] h = absurd cc
lone_is n (t ∷ []) h = absurd cc
lone_is n (t ∷ u ∷ ts) h =
    let p = and_both _ _ h in
    let e = ends u ts (not_true (is_among (kind_of u) going_on) p.1) in
    expr_read n (u ∷ ts) e t p.0 ∙ sym (taken n (u ∷ ts) e t p.0)
