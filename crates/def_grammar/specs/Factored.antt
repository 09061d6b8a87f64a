-- A factor as a grammar in EBNF has it, in which a set and a designator can both begin with the
-- same name.
use Rattle.std.specs.Prelude.{◌≡◌, List, Option, option_map, ◌⊎◌}
use Rattle.std.proofs.Common.{inl, inr}
use Rattle.m2_tree.specs.declared.pos.Pos.{Pos}
use Rattle.m2_tree.specs.declared.token.Symbol.TheVariants.{LeftParen, Not, RightParen}
use Rattle.m2_tree.specs.declared.token.Token.{Token}
use Rattle.m2_tree.specs.declared.expr.Expr.{Expr}
use Rattle.m2_tree.specs.declared.expr.Expr.TheVariants as e
use Rattle.m2_tree.specs.declared.expr.Designator.{Designator}
use Rattle.m2_tree.specs.declared.expr.Item.{Item}
use Rattle.def_grammar.specs.Rule.{factor_rule, set_rule, expr_rule, desig_rule, args_rule}
use Rattle.def_grammar.specs.Grammar.{Ty, El, Gr, token, ast, both, either, maybe, rule, ◌·◌, ◌∣◌, ◌◂◌, opt, nest}
use Rattle.def_grammar.specs.Ebnf.{literal, ident, symbol, set, factor, expr, desig, args}
use Rattle.def_grammar.specs.Trees.{ident_of, literal_of}
use Rattle.def_grammar.specs.Spelling.{Spells}

abbrev pub plain_shape : Ty
plain_shape =
    either token (either (both (maybe token) (ast set_rule))
    (either (both token (ast factor_rule))
    (either (both token (ast expr_rule)) (both (ast desig_rule) (maybe (ast args_rule))))))

abbrev pub plain_factor : Gr plain_shape
plain_factor =
    literal
    ∣ opt ident · set
    ∣ nest (symbol Not · factor)
    ∣ nest (symbol LeftParen · expr ◂ RightParen)
    ∣ desig · opt args

abbrev pub plain_tree : Token
    ⊎ ((Option Token × (Pos × List Item))
    ⊎ ((Token × Expr) ⊎ ((Token × Expr) ⊎ (Designator × Option (List Expr)))))
    → Expr
plain_tree (inl t) = literal_of t
plain_tree (inr (inl p)) = e.Set (option_map ident_of p.0) p.1.0 p.1.1
plain_tree (inr (inr (inl p))) = e.Not p.0.pos p.1
plain_tree (inr (inr (inr (inl p)))) = e.Bracketed p.0.pos p.1
plain_tree (inr (inr (inr (inr p)))) = e.Use p.0 p.1

-- The tokens are a factor by the plain form, and this is its tree.
abbrev pub IsPlainFactor : Expr → List Token → Type 0
IsPlainFactor x ts =
    (y : El plain_shape) × Spells plain_shape plain_factor y ts × (x ≡ plain_tree y)

-- The tokens are a factor by the grammar's own form.
abbrev pub IsFactor : Expr → List Token → Type 0
IsFactor x ts = Spells (ast factor_rule) (rule factor_rule) x ts
