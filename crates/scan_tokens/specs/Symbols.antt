-- The operators, delimiters and reserved words.
use Rattle.std.specs.Prelude.{List, [], ◌∷◌, Option, Some, None, codes, if◌then◌else◌}
use Rattle.std.specs.Str.{bytes_eq}
use Rattle.m2_tree.specs.declared.token.Symbol.{Symbol}
use Rattle.m2_tree.specs.declared.token.Symbol.TheVariants as s
use Rattle.scan_tokens.specs.Bytes.{Text}

abbrev pub Spellings : Type 0
Spellings = List (Text × Symbol)

abbrev pub words : Spellings
words =
    (codes "AND", s.And) ∷ (codes "ARRAY", s.Array) ∷ (codes "BEGIN", s.Begin) ∷ (codes "BY", s.By)
    ∷ (codes "CASE", s.Case) ∷ (codes "CONST", s.Const) ∷ (codes "DEFINITION", s.Definition)
    ∷ (codes "DIV", s.Div) ∷ (codes "DO", s.Do) ∷ (codes "ELSE", s.Else) ∷ (codes "ELSIF", s.Elsif)
    ∷ (codes "END", s.End) ∷ (codes "EXIT", s.Exit) ∷ (codes "EXPORT", s.Export)
    ∷ (codes "FOR", s.For) ∷ (codes "FROM", s.From) ∷ (codes "IF", s.If)
    ∷ (codes "IMPLEMENTATION", s.Implementation) ∷ (codes "IMPORT", s.Import) ∷ (codes "IN", s.In)
    ∷ (codes "LOOP", s.Loop) ∷ (codes "MOD", s.Mod) ∷ (codes "MODULE", s.Module)
    ∷ (codes "NOT", s.Not) ∷ (codes "OF", s.Of) ∷ (codes "OR", s.Or) ∷ (codes "POINTER", s.Pointer)
    ∷ (codes "PROCEDURE", s.Procedure) ∷ (codes "QUALIFIED", s.Qualified)
    ∷ (codes "RECORD", s.Record) ∷ (codes "REPEAT", s.Repeat) ∷ (codes "RETURN", s.Return)
    ∷ (codes "SET", s.Set) ∷ (codes "THEN", s.Then) ∷ (codes "TO", s.To) ∷ (codes "TYPE", s.Type)
    ∷ (codes "UNTIL", s.Until) ∷ (codes "VAR", s.Var) ∷ (codes "WHILE", s.While)
    ∷ (codes "WITH", s.With) ∷ []

abbrev pub signs : Spellings
signs =
    (codes "+", s.Plus) ∷ (codes "-", s.Minus) ∷ (codes "*", s.Star) ∷ (codes "/", s.Slash)
    ∷ (codes ":=", s.Assign) ∷ (codes "&", s.And) ∷ (codes ".", s.Dot) ∷ (codes ",", s.Comma)
    ∷ (codes ";", s.Semicolon) ∷ (codes "(", s.LeftParen) ∷ (codes "[", s.LeftBracket)
    ∷ (codes "{", s.LeftBrace) ∷ (codes "=", s.Equal) ∷ (codes "#", s.Unequal) ∷ (codes "<", s.Less)
    ∷ (codes ">", s.Greater) ∷ (codes "<>", s.Unequal) ∷ (codes "<=", s.AtMost)
    ∷ (codes ">=", s.AtLeast) ∷ (codes "..", s.DotDot) ∷ (codes ":", s.Colon)
    ∷ (codes ")", s.RightParen) ∷ (codes "]", s.RightBracket) ∷ (codes "}", s.RightBrace)
    ∷ (codes "|", s.Bar) ∷ (codes "~", s.Not) ∷ []

abbrev pub lookup : Spellings → Text → Option Symbol
lookup [] w = None
lookup (e ∷ es) w = if bytes_eq e.0 w then Some e.1 else lookup es w

-- the reserved word that these bytes are
unfoldable pub word_of : Text → Option Symbol
word_of = lookup words

-- the operator or delimiter that these bytes are
unfoldable pub sign_of : Text → Option Symbol
sign_of = lookup signs
