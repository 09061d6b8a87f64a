-- The grammar. `{}` of a grammar in EBNF is `many` here, `[]` is `opt`, `|` is `∣`, and two parts
-- in a row have a `·` between them; a word or a symbol stands before `▸` or behind `◂`.
use Rattle.std.specs.Prelude.{List, [], ◌∷◌, map}
use Rattle.m2_tree.specs.declared.token.Symbol.{Symbol}
use Rattle.m2_tree.specs.declared.token.Symbol.TheVariants.{And, Array, Begin, By, Case, Const, Definition, Div, Do, Else, Elsif, End, Exit, For, From, If, Implementation, Import, In, Loop, Mod, Module, Not, Of, Or, Procedure, Record, Repeat, Return, Then, To, «Type», Until, Var, While, With, Plus, Minus, Star, Slash, Assign, Dot, Comma, Semicolon, LeftParen, LeftBracket, LeftBrace, Equal, Unequal, Less, Greater, AtMost, AtLeast, DotDot, Colon, RightParen, RightBracket, RightBrace, Bar}
use Rattle.def_grammar.specs.declared.kind.Kind.TheVariants as the
use Rattle.def_grammar.specs.Rule.{Rule, module_rule, import_rule, idents_rule, def_rule, block_rule, decl_rule, constant_rule, type_decl_rule, variables_rule, formals_rule, section_rule, formal_rule, qual_rule, simple_rule, type_rule, dims_rule, parameter_rule, field_rule, stmts_rule, stmt_rule, rest_rule, arm_rule, item_rule, desig_rule, selectors_rule, args_rule, expr_rule, sum_rule, term_rule, factor_rule, set_rule}
use Rattle.def_grammar.specs.Grammar.{Gr, token, ast, both, either, maybe, list, Production, is, tok, rule, ◌·◌, ◌∣◌, ◌▸◌, ◌◂◌, trail, opt, many, nest, named}

-- ---- the tokens

abbrev pub ident : Gr token
ident = tok the.Name []

abbrev pub literal : Gr token
literal = tok the.Number (the.Char ∷ the.Text ∷ [])

-- a symbol whose place is kept
abbrev pub symbol : Symbol → Gr token
symbol s = tok (the.Symbol s) []

-- one of these symbols
abbrev pub one_of : Symbol → List Symbol → Gr token
one_of s ss = tok (the.Symbol s) (map the.Symbol ss)

abbrev pub relation : Gr token
relation = one_of Equal (Unequal ∷ Less ∷ AtMost ∷ Greater ∷ AtLeast ∷ In ∷ [])

abbrev pub sign : Gr token
sign = one_of Plus (Minus ∷ [])

abbrev pub add_op : Gr token
add_op = one_of Plus (Minus ∷ Or ∷ [])

abbrev pub mul_op : Gr token
mul_op = one_of Star (Slash ∷ Div ∷ Mod ∷ And ∷ [])

-- ---- parts of productions

abbrev pub import : Gr (ast import_rule)
import = rule import_rule

abbrev pub idents : Gr (ast idents_rule)
idents = rule idents_rule

abbrev pub def : Gr (ast def_rule)
def = rule def_rule

abbrev pub block : Gr (ast block_rule)
block = rule block_rule

abbrev pub decl : Gr (ast decl_rule)
decl = rule decl_rule

abbrev pub constant : Gr (ast constant_rule)
constant = rule constant_rule

abbrev pub type_decl : Gr (ast type_decl_rule)
type_decl = rule type_decl_rule

abbrev pub variables : Gr (ast variables_rule)
variables = rule variables_rule

abbrev pub formals : Gr (ast formals_rule)
formals = rule formals_rule

abbrev pub section : Gr (ast section_rule)
section = rule section_rule

abbrev pub formal : Gr (ast formal_rule)
formal = rule formal_rule

abbrev pub qual : Gr (ast qual_rule)
qual = rule qual_rule

abbrev pub simple : Gr (ast simple_rule)
simple = rule simple_rule

abbrev pub dims : Gr (ast dims_rule)
dims = rule dims_rule

abbrev pub parameter : Gr (ast parameter_rule)
parameter = rule parameter_rule

abbrev pub field : Gr (ast field_rule)
field = rule field_rule

abbrev pub stmts : Gr (ast stmts_rule)
stmts = rule stmts_rule

abbrev pub stmt : Gr (ast stmt_rule)
stmt = rule stmt_rule

abbrev pub arm : Gr (ast arm_rule)
arm = rule arm_rule

abbrev pub item : Gr (ast item_rule)
item = rule item_rule

abbrev pub desig : Gr (ast desig_rule)
desig = rule desig_rule

abbrev pub selectors : Gr (ast selectors_rule)
selectors = rule selectors_rule

abbrev pub args : Gr (ast args_rule)
args = rule args_rule

abbrev pub expr : Gr (ast expr_rule)
expr = rule expr_rule

abbrev pub sum : Gr (ast sum_rule)
sum = rule sum_rule

abbrev pub term : Gr (ast term_rule)
term = rule term_rule

abbrev pub factor : Gr (ast factor_rule)
factor = rule factor_rule

abbrev pub set : Gr (ast set_rule)
set = rule set_rule

abbrev pub range : Gr (both token (both (ast expr_rule) (ast expr_rule)))
range = symbol LeftBracket · expr · DotDot ▸ expr ◂ RightBracket

abbrev pub result_type : Gr (maybe (ast qual_rule))
result_type = opt (Colon ▸ qual)

abbrev pub sections : Gr (both (ast section_rule) (list (ast section_rule)))
sections = section · many (Semicolon ▸ section)

abbrev pub parameters : Gr (both (ast parameter_rule) (list (ast parameter_rule)))
parameters = parameter · many (Comma ▸ parameter)

abbrev pub fields : Gr (both (maybe (ast field_rule)) (list (maybe (ast field_rule))))
fields = opt field · many (Semicolon ▸ opt field)

abbrev pub arms : Gr (both (maybe (ast arm_rule)) (list (maybe (ast arm_rule))))
arms = opt arm · many (Bar ▸ opt arm)

abbrev pub exprs : Gr (both (ast expr_rule) (list (ast expr_rule)))
exprs = expr · many (Comma ▸ expr)

abbrev pub items : Gr (both (ast item_rule) (list (ast item_rule)))
items = item · many (Comma ▸ item)

abbrev pub selector :
    Gr (either (both token token) (both token (both (ast expr_rule) (list (ast expr_rule)))))
selector = symbol Dot · ident ∣ nest (symbol LeftBracket · exprs ◂ RightBracket)

-- what a definition module and every other one have in common
abbrev pub common : Gr (either (list (ast constant_rule))
    (either (list (ast type_decl_rule)) (list (ast variables_rule))))
common = Const ▸ many constant ∣ «Type» ▸ many type_decl ∣ Var ▸ many variables

-- what stands between the two names of a definition module, of another module, and of a procedure
abbrev pub definitions : Gr (both (list (ast import_rule)) (list (ast def_rule)))
definitions = Semicolon ▸ many import · many def ◂ End

abbrev pub contents : Gr (both (list (ast import_rule)) (ast block_rule))
contents = Semicolon ▸ many import · block

abbrev pub procedure : Gr (both (ast formals_rule) (ast block_rule))
procedure = formals · Semicolon ▸ block

-- the sorts of types and of statements
abbrev pub array_type : Gr (both token (ast dims_rule))
array_type = symbol Array · dims

abbrev pub record_type :
    Gr (both token (both (maybe (ast field_rule)) (list (maybe (ast field_rule)))))
record_type = symbol Record · fields ◂ End

abbrev pub procedure_type : Gr (both token (maybe
    (both (maybe (both (ast parameter_rule) (list (ast parameter_rule)))) (maybe (ast qual_rule)))))
procedure_type = symbol Procedure · opt (LeftParen ▸ opt parameters · RightParen ▸ result_type)

abbrev pub structured_type : Gr (either (both token (ast dims_rule))
    (either (both token (both (maybe (ast field_rule)) (list (maybe (ast field_rule)))))
    (both token (maybe (both (maybe (both (ast parameter_rule) (list (ast parameter_rule))))
    (maybe (ast qual_rule)))))))
structured_type = array_type ∣ record_type ∣ procedure_type

abbrev pub simple_stmt : Gr (both (ast desig_rule) (either (ast expr_rule) (maybe (ast args_rule))))
simple_stmt = desig · (Assign ▸ expr ∣ opt args)

abbrev pub if_stmt : Gr (both (ast expr_rule) (both (ast stmts_rule) (ast rest_rule)))
if_stmt = If ▸ expr · Then ▸ stmts · rule rest_rule ◂ End

abbrev pub elsif_part : Gr (both (ast expr_rule) (both (ast stmts_rule) (ast rest_rule)))
elsif_part = Elsif ▸ expr · Then ▸ stmts · rule rest_rule

abbrev pub else_part : Gr (maybe (ast stmts_rule))
else_part = opt (Else ▸ stmts)

abbrev pub case_stmt : Gr (both (ast expr_rule)
    (both (both (maybe (ast arm_rule)) (list (maybe (ast arm_rule)))) (maybe (ast stmts_rule))))
case_stmt = Case ▸ expr · Of ▸ arms · else_part ◂ End

abbrev pub while_stmt : Gr (both (ast expr_rule) (ast stmts_rule))
while_stmt = While ▸ expr · Do ▸ stmts ◂ End

abbrev pub repeat_stmt : Gr (both (ast stmts_rule) (ast expr_rule))
repeat_stmt = Repeat ▸ stmts · Until ▸ expr

abbrev pub loop_stmt : Gr (ast stmts_rule)
loop_stmt = Loop ▸ stmts ◂ End

abbrev pub return_stmt : Gr (both token (maybe (ast expr_rule)))
return_stmt = symbol Return · opt expr

abbrev pub step : Gr (maybe (ast expr_rule))
step = opt (By ▸ expr)

abbrev pub for_stmt : Gr (both token
    (both (ast expr_rule) (both (ast expr_rule) (both (maybe (ast expr_rule)) (ast stmts_rule)))))
for_stmt = For ▸ ident · Assign ▸ expr · To ▸ expr · step · Do ▸ stmts ◂ End

abbrev pub with_stmt : Gr (both (ast desig_rule) (ast stmts_rule))
with_stmt = With ▸ desig · Do ▸ stmts ◂ End

abbrev pub other_stmt : Gr (either (both (ast stmts_rule) (ast expr_rule))
    (either (ast stmts_rule)
    (either token (either (both token (maybe (ast expr_rule)))
    (either
    (both token
    (both (ast expr_rule) (both (ast expr_rule) (both (maybe (ast expr_rule)) (ast stmts_rule)))))
    (both (ast desig_rule) (ast stmts_rule)))))))
other_stmt =
    nest repeat_stmt ∣ nest loop_stmt ∣ symbol Exit ∣ return_stmt ∣ nest for_stmt ∣ nest with_stmt

-- ---- the productions

abbrev pub grammar : Rule → Production
-- A file holds one module, and nothing after it.
grammar module_rule = is (trail (
    Definition ▸ Module ▸ named definitions ◂ Dot
    ∣ opt (symbol Implementation) · Module ▸ named contents ◂ Dot) the.End)
grammar import_rule = is (opt (From ▸ ident) · Import ▸ idents ◂ Semicolon)
grammar idents_rule = is (ident · many (Comma ▸ ident))
grammar def_rule = is (common ∣ Procedure ▸ ident · formals ◂ Semicolon)
grammar block_rule = is (many decl · opt (Begin ▸ stmts) ◂ End)
grammar decl_rule = is (common ∣ nest (Procedure ▸ named procedure ◂ Semicolon))
grammar constant_rule = is (ident · Equal ▸ expr ◂ Semicolon)
grammar type_decl_rule = is (ident · Equal ▸ rule type_rule ◂ Semicolon)
grammar variables_rule = is (idents · Colon ▸ rule type_rule ◂ Semicolon)
grammar formals_rule = is (opt (LeftParen ▸ opt sections · RightParen ▸ result_type))
grammar section_rule = is (opt (symbol Var) · idents · Colon ▸ formal)
grammar formal_rule = is (opt (symbol Array ◂ Of) · qual)
grammar qual_rule = is (ident · opt (Dot ▸ ident))
grammar simple_rule = is (qual · opt range ∣ symbol LeftParen · idents ◂ RightParen ∣ range)
grammar type_rule = is (nest (simple ∣ structured_type))
-- An inner array of ARRAY a, b OF T is one more level.
grammar dims_rule = is (simple · (Comma ▸ nest dims ∣ Of ▸ rule type_rule))
grammar parameter_rule = is (opt (symbol Var) · formal)
grammar field_rule = is (idents · Colon ▸ rule type_rule)
grammar stmts_rule = is (opt stmt · many (Semicolon ▸ opt stmt))
grammar stmt_rule = is (
    simple_stmt
    ∣ nest if_stmt
    ∣ nest case_stmt
    ∣ nest while_stmt
    ∣ other_stmt)
-- What follows the first part of an IF: an ELSIF is one more level up to the END.
grammar rest_rule = is (nest elsif_part ∣ else_part)
grammar arm_rule = is (items · Colon ▸ stmts)
grammar item_rule = is (expr · opt (DotDot ▸ expr))
grammar desig_rule = is (ident · selectors)
grammar selectors_rule = is (many selector)
grammar args_rule = is (nest (LeftParen ▸ opt exprs ◂ RightParen))
grammar expr_rule = is (sum · opt (relation · sum))
grammar sum_rule = is (opt sign · term · many (add_op · term))
grammar term_rule = is (factor · many (mul_op · factor))
-- A set with its type and a designator both begin with a name.
grammar factor_rule = is (
    literal
    ∣ ident · (set ∣ selectors · opt args)
    ∣ set
    ∣ nest (symbol Not · factor)
    ∣ nest (symbol LeftParen · expr ◂ RightParen))
grammar set_rule = is (nest (symbol LeftBrace · opt items ◂ RightBrace))
