-- Tables of the grammar: what each production begins with, whether it can be nothing, and its rank.
-- They are tested against the grammar in proofs/OneAhead and proofs/Knot.
use Rattle.std.specs.Prelude.{ℕ, Bool, true, false, List, [], ◌∷◌, ◌++◌, map}
use Rattle.m2_tree.specs.declared.token.Symbol.{Symbol}
use Rattle.m2_tree.specs.declared.token.Symbol.TheVariants.{And, Array, Case, Const, Definition, Div, Else, Elsif, Exit, For, From, If, Implementation, Import, In, Loop, Mod, Module, Not, Or, Procedure, Record, Repeat, Return, «Type», Var, While, With, Begin, End, Plus, Minus, Star, Slash, Dot, Semicolon, LeftParen, LeftBracket, LeftBrace, Equal, Unequal, Less, Greater, AtMost, AtLeast}
use Rattle.def_grammar.specs.declared.kind.Kind.{Kind}
use Rattle.def_grammar.specs.declared.kind.Kind.TheVariants as the
use Rattle.def_grammar.specs.Rule.{Rule, module_rule, import_rule, idents_rule, def_rule, block_rule, decl_rule, constant_rule, type_decl_rule, variables_rule, formals_rule, section_rule, formal_rule, qual_rule, simple_rule, type_rule, dims_rule, parameter_rule, field_rule, stmts_rule, stmt_rule, rest_rule, arm_rule, item_rule, desig_rule, selectors_rule, args_rule, expr_rule, sum_rule, term_rule, factor_rule, set_rule}

abbrev pub symbols : List Symbol → List Kind
symbols = map the.Symbol

abbrev pub relations : List Kind
relations = symbols (Equal ∷ Unequal ∷ Less ∷ AtMost ∷ Greater ∷ AtLeast ∷ In ∷ [])

abbrev pub signs : List Kind
signs = symbols (Plus ∷ Minus ∷ [])

abbrev pub add_ops : List Kind
add_ops = symbols (Plus ∷ Minus ∷ Or ∷ [])

abbrev pub mul_ops : List Kind
mul_ops = symbols (Star ∷ Slash ∷ Div ∷ Mod ∷ And ∷ [])

abbrev pub literals : List Kind
literals = the.Number ∷ the.Char ∷ the.Text ∷ []

abbrev pub in_selector : List Kind
in_selector = symbols (Dot ∷ LeftBracket ∷ [])

abbrev pub in_factor : List Kind
in_factor = the.Number ∷ the.Char ∷ the.Text ∷ the.Name ∷ symbols (LeftBrace ∷ Not ∷ LeftParen ∷ [])

abbrev pub in_expr : List Kind
in_expr = the.Symbol Plus ∷ the.Symbol Minus ∷ in_factor

abbrev pub in_stmt : List Kind
in_stmt = the.Name ∷ symbols (If ∷ Case ∷ While ∷ Repeat ∷ Loop ∷ Exit ∷ Return ∷ For ∷ With ∷ [])

abbrev pub in_formal : List Kind
in_formal = the.Symbol Array ∷ the.Name ∷ []

abbrev pub in_simple : List Kind
in_simple = the.Name ∷ symbols (LeftParen ∷ LeftBracket ∷ [])

abbrev pub in_type : List Kind
in_type = in_simple ++ symbols (Array ∷ Record ∷ Procedure ∷ [])

abbrev pub in_decl : List Kind
in_decl = symbols (Const ∷ «Type» ∷ Var ∷ Procedure ∷ [])

abbrev pub starters : Rule → List Kind
starters module_rule = symbols (Definition ∷ Implementation ∷ Module ∷ [])
starters import_rule = symbols (From ∷ Import ∷ [])
starters idents_rule = the.Name ∷ []
starters def_rule = in_decl
starters block_rule = symbols (Begin ∷ End ∷ Const ∷ «Type» ∷ Var ∷ Procedure ∷ [])
starters decl_rule = in_decl
starters constant_rule = the.Name ∷ []
starters type_decl_rule = the.Name ∷ []
starters variables_rule = the.Name ∷ []
starters formals_rule = symbols (LeftParen ∷ [])
starters section_rule = the.Symbol Var ∷ the.Name ∷ []
starters formal_rule = in_formal
starters qual_rule = the.Name ∷ []
starters simple_rule = in_simple
starters type_rule = in_type
starters dims_rule = in_simple
starters parameter_rule = the.Symbol Var ∷ in_formal
starters field_rule = the.Name ∷ []
starters stmts_rule = the.Symbol Semicolon ∷ in_stmt
starters stmt_rule = in_stmt
starters rest_rule = symbols (Elsif ∷ Else ∷ [])
starters arm_rule = in_expr
starters item_rule = in_expr
starters desig_rule = the.Name ∷ []
starters selectors_rule = in_selector
starters args_rule = symbols (LeftParen ∷ [])
starters expr_rule = in_expr
starters sum_rule = in_expr
starters term_rule = in_factor
starters factor_rule = in_factor
starters set_rule = symbols (LeftBrace ∷ [])

abbrev pub vanishes : Rule → Bool
vanishes formals_rule = true
vanishes stmts_rule = true
vanishes rest_rule = true
vanishes selectors_rule = true
vanishes _ = false

-- A production without a level of nesting before it stands below the one that it is part of.
abbrev pub rank : Rule → ℕ
rank module_rule = 10
rank import_rule = 2
rank idents_rule = 1
rank def_rule = 8
rank block_rule = 9
rank decl_rule = 8
rank constant_rule = 7
rank type_decl_rule = 2
rank variables_rule = 2
rank formals_rule = 4
rank section_rule = 3
rank formal_rule = 2
rank qual_rule = 1
rank simple_rule = 7
rank type_rule = 1
rank dims_rule = 8
rank parameter_rule = 3
rank field_rule = 2
rank stmts_rule = 8
rank stmt_rule = 7
rank rest_rule = 9
rank arm_rule = 9
rank item_rule = 7
rank desig_rule = 2
rank selectors_rule = 1
rank args_rule = 1
rank expr_rule = 6
rank sum_rule = 5
rank term_rule = 4
rank factor_rule = 3
rank set_rule = 1
