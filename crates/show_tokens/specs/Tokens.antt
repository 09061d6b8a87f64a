-- How tokens are shown: a line for each.
use Rattle.std.specs.Prelude.{ℕ, ◌/◌, ◌%◌, ◌+◌, List, [], ◌∷◌, ◌++◌, if◌then◌else◌, codes, decimal, ◌==◌}
use Rattle.std.specs.List.{flat_map, list_any}
use Rattle.m2_tree.specs.declared.token.Token.{Token}
use Rattle.m2_tree.specs.declared.token.Lexeme.{Lexeme}
use Rattle.m2_tree.specs.declared.token.Lexeme.TheVariants as lexeme
use Rattle.m2_tree.specs.declared.token.Symbol.{Symbol}
use Rattle.m2_tree.specs.declared.token.Symbol.TheVariants.{And, Array, Begin, By, Case, Const, Definition, Div, Do, Else, Elsif, End, Exit, Export, For, From, If, Implementation, Import, In, Loop, Mod, Module, Not, Of, Or, Pointer, Procedure, Qualified, Record, Repeat, Return, Set, Then, To, «Type», Until, Var, While, With, Plus, Minus, Star, Slash, Assign, Dot, Comma, Semicolon, LeftParen, LeftBracket, LeftBrace, Equal, Unequal, Less, Greater, AtMost, AtLeast, DotDot, Colon, RightParen, RightBracket, RightBrace, Bar}
use Rattle.show_code.specs.Pages.{place_text}

-- a sign or a reserved word, as it is written
abbrev pub spelling : Symbol → List ℕ
spelling And = codes "AND"
spelling Array = codes "ARRAY"
spelling Begin = codes "BEGIN"
spelling By = codes "BY"
spelling Case = codes "CASE"
spelling Const = codes "CONST"
spelling Definition = codes "DEFINITION"
spelling Div = codes "DIV"
spelling Do = codes "DO"
spelling Else = codes "ELSE"
spelling Elsif = codes "ELSIF"
spelling End = codes "END"
spelling Exit = codes "EXIT"
spelling Export = codes "EXPORT"
spelling For = codes "FOR"
spelling From = codes "FROM"
spelling If = codes "IF"
spelling Implementation = codes "IMPLEMENTATION"
spelling Import = codes "IMPORT"
spelling In = codes "IN"
spelling Loop = codes "LOOP"
spelling Mod = codes "MOD"
spelling Module = codes "MODULE"
spelling Not = codes "NOT"
spelling Of = codes "OF"
spelling Or = codes "OR"
spelling Pointer = codes "POINTER"
spelling Procedure = codes "PROCEDURE"
spelling Qualified = codes "QUALIFIED"
spelling Record = codes "RECORD"
spelling Repeat = codes "REPEAT"
spelling Return = codes "RETURN"
spelling Set = codes "SET"
spelling Then = codes "THEN"
spelling To = codes "TO"
spelling «Type» = codes "TYPE"
spelling Until = codes "UNTIL"
spelling Var = codes "VAR"
spelling While = codes "WHILE"
spelling With = codes "WITH"
spelling Plus = codes "+"
spelling Minus = codes "-"
spelling Star = codes "*"
spelling Slash = codes "/"
spelling Assign = codes ":="
spelling Dot = codes "."
spelling Comma = codes ","
spelling Semicolon = codes ";"
spelling LeftParen = codes "("
spelling LeftBracket = codes "["
spelling LeftBrace = codes "{"
spelling Equal = codes "="
spelling Unequal = codes "#"
spelling Less = codes "<"
spelling Greater = codes ">"
spelling AtMost = codes "<="
spelling AtLeast = codes ">="
spelling DotDot = codes ".."
spelling Colon = codes ":"
spelling RightParen = codes ")"
spelling RightBracket = codes "]"
spelling RightBrace = codes "}"
spelling Bar = codes "|"

-- the code of a character, as octal numbers write it
unfoldable pub octal : ℕ → List ℕ
octal code = (48 + code / 64) ∷ (48 + code / 8 % 8) ∷ (48 + code % 8) ∷ []

-- a string between quotes that do not stand in it
unfoldable pub quote_of : List ℕ → ℕ
quote_of bytes = if list_any (λ b. b == 34) bytes then 39 else 34

abbrev pub quote_bytes : List ℕ → List ℕ
quote_bytes bytes = quote_of bytes ∷ (bytes ++ quote_of bytes ∷ [])

-- what a token says, behind the sort of token that it is
abbrev pub lexeme_text : Lexeme → List ℕ
lexeme_text (lexeme.Name name) = codes "name " ++ name
lexeme_text (lexeme.Number number) = codes "number " ++ decimal number
lexeme_text (lexeme.Char code) = codes "character " ++ (octal code ++ codes "C")
lexeme_text (lexeme.Text bytes) = codes "string " ++ quote_bytes bytes
lexeme_text (lexeme.Symbol symbol) = spelling symbol
lexeme_text lexeme.End = codes "end"

-- what a token says, in a line
unfoldable pub lexeme_line : Lexeme → List ℕ
lexeme_line lexeme = lexeme_text lexeme ++ codes "\n"

-- the line of a token: its place, and what it says
unfoldable pub token_line : Token → List ℕ
token_line token = place_text token.pos ++ (codes " " ++ lexeme_line token.lexeme)

-- a line for each token, in order
abbrev pub tokens_text : List Token → List ℕ
tokens_text tokens = flat_map token_line tokens

-- the same without places
abbrev pub lexemes_text : List Token → List ℕ
lexemes_text tokens = flat_map (λ t. lexeme_line t.lexeme) tokens
