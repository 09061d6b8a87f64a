-- Which kind each token is, and whether two kinds are the same.
use Rattle.std.specs.Prelude.{Bool, true, false}
use denote.Enum.Bare.{sameb}
use Rattle.m2_tree.specs.contracts.token.Symbol.{the_type}
use Rattle.m2_tree.specs.declared.token.Lexeme.{Lexeme}
use Rattle.m2_tree.specs.declared.token.Lexeme.TheVariants as lexeme
use Rattle.m2_tree.specs.declared.token.Token.{Token}
use Rattle.m2_tree.specs.declared.token.Symbol.{Symbol}
use Rattle.def_grammar.specs.declared.kind.Kind.{Kind}
use Rattle.def_grammar.specs.declared.kind.Kind.TheVariants as the

abbrev pub kind_said : Lexeme → Kind
kind_said (lexeme.Name n) = the.Name
kind_said (lexeme.Number n) = the.Number
kind_said (lexeme.Char c) = the.Char
kind_said (lexeme.Text s) = the.Text
kind_said (lexeme.Symbol s) = the.Symbol s
kind_said lexeme.End = the.End

abbrev pub kind_of : Token → Kind
kind_of t = kind_said t.lexeme

unfoldable pub same_symbol : Symbol → Symbol → Bool
same_symbol = sameb the_type

unfoldable pub same_kind : Kind → Kind → Bool
same_kind the.Name the.Name = true
same_kind the.Number the.Number = true
same_kind the.Char the.Char = true
same_kind the.Text the.Text = true
same_kind (the.Symbol a) (the.Symbol b) = same_symbol a b
same_kind the.End the.End = true
same_kind _ _ = false
