-- Expressions of one token.
use Rattle.std.specs.Prelude.{Bool, true, false, not, ◌&&◌, List, [], ◌∷◌, ◌++◌, None}
use Rattle.std.proofs.Common.{inr}
use Rattle.m2_tree.specs.declared.token.Symbol.TheVariants.{LeftBrace, LeftParen}
use Rattle.m2_tree.specs.declared.token.Lexeme.{Lexeme}
use Rattle.m2_tree.specs.declared.token.Lexeme.TheVariants as lexeme
use Rattle.m2_tree.specs.declared.token.Token.{Token}
use Rattle.m2_tree.specs.declared.expr.Expr.{Expr}
use Rattle.def_grammar.specs.declared.kind.Kind.{Kind}
use Rattle.def_grammar.specs.declared.kind.Kind.TheVariants as the
use Rattle.def_grammar.specs.Kinds.{kind_of}
use Rattle.def_grammar.specs.Tables.{add_ops, in_selector, literals, mul_ops, relations, symbols}
use Rattle.def_grammar.specs.Trees.{begun_by, ident_of, literal_of}
use Rattle.def_grammar.specs.Reading.{is_among}

-- what an expression that begins with a name or a literal goes on with
abbrev pub going_on : List Kind
going_on =
    relations ++ (add_ops ++ (mul_ops ++ (in_selector ++ symbols (LeftParen ∷ LeftBrace ∷ []))))

abbrev pub lone_kinds : List Kind
lone_kinds = the.Name ∷ literals

-- whether the first token is the whole of an expression
abbrev pub is_lone : List Token → Bool
is_lone [] = false
is_lone (t ∷ []) = false
is_lone (t ∷ u ∷ ts) = is_among (kind_of t) lone_kinds && not (is_among (kind_of u) going_on)

abbrev pub value_said : Lexeme → Token → Expr
value_said (lexeme.Name n) t = begun_by (ident_of t) (inr ([], None))
value_said _ t = literal_of t

-- its tree
abbrev pub value_of : Token → Expr
value_of t = value_said t.lexeme t
