-- What each production reads, for tactics.
use Rattle.std.proofs.Common.{◌≡◌, ℕ, List, [], ◌∷◌, ap, ◌∙◌}
use Rattle.m2_tree.specs.declared.token.Symbol.TheVariants.{Case, Elsif, For, If, LeftBrace, LeftBracket, LeftParen, Loop, Not, Procedure, Repeat, RightBrace, RightBracket, RightParen, Semicolon, While, With}
use Rattle.m2_tree.specs.declared.token.Token.{Token}
use Rattle.def_grammar.specs.declared.kind.Kind.TheVariants as the
use Rattle.def_grammar.specs.Rule.{module_rule, import_rule, idents_rule, def_rule, block_rule, decl_rule, constant_rule, type_decl_rule, variables_rule, formals_rule, section_rule, formal_rule, qual_rule, simple_rule, type_rule, dims_rule, parameter_rule, field_rule, stmts_rule, stmt_rule, rest_rule, arm_rule, item_rule, desig_rule, selectors_rule, args_rule, expr_rule, sum_rule, term_rule, factor_rule, set_rule}
use Rattle.def_grammar.specs.Grammar.{◌·◌, ◌∣◌, ◌▸◌, ◌◂◌, opt, nest, named}
use Rattle.def_grammar.specs.Ebnf.{simple, dims, expr, factor, symbol, exprs, items, procedure, structured_type, if_stmt, elsif_part, case_stmt, while_stmt, repeat_stmt, loop_stmt, for_stmt, with_stmt, grammar}
use Rattle.def_grammar.specs.Trees.{tree}
use Rattle.def_grammar.specs.Tables.{in_type, in_simple}
use Rattle.def_grammar.specs.Reading.{and_then, enter_level, map_outcome, read, read_rule, made_of}
use Rattle.def_grammar.proofs.Knot.{read_rule-is}
use Rattle.def_grammar.proofs.Loops.{nest-is}

-- ---- the productions

pub module_is : (n : ℕ) (ts : List Token)
    → read_rule n module_rule ts ≡ made_of module_rule (read (grammar module_rule).form n) ts
module_is n ts = read_rule-is n module_rule ts

pub import_is : (n : ℕ) (ts : List Token)
    → read_rule n import_rule ts ≡ made_of import_rule (read (grammar import_rule).form n) ts
import_is n ts = read_rule-is n import_rule ts

pub idents_is : (n : ℕ) (ts : List Token)
    → read_rule n idents_rule ts ≡ made_of idents_rule (read (grammar idents_rule).form n) ts
idents_is n ts = read_rule-is n idents_rule ts

pub def_is : (n : ℕ) (ts : List Token) → read_rule n def_rule ts ≡ made_of def_rule (read (grammar def_rule).form n) ts
def_is n ts = read_rule-is n def_rule ts

pub block_is : (n : ℕ) (ts : List Token)
    → read_rule n block_rule ts ≡ made_of block_rule (read (grammar block_rule).form n) ts
block_is n ts = read_rule-is n block_rule ts

pub decl_is : (n : ℕ) (ts : List Token) → read_rule n decl_rule ts
    ≡ made_of decl_rule (read (grammar decl_rule).form n) ts
decl_is n ts = read_rule-is n decl_rule ts

pub constant_is : (n : ℕ) (ts : List Token)
    → read_rule n constant_rule ts ≡ made_of constant_rule (read (grammar constant_rule).form n) ts
constant_is n ts = read_rule-is n constant_rule ts

pub type_decl_is : (n : ℕ) (ts : List Token)
    → read_rule n type_decl_rule ts ≡ made_of type_decl_rule (read (grammar type_decl_rule).form n) ts
type_decl_is n ts = read_rule-is n type_decl_rule ts

pub variables_is : (n : ℕ) (ts : List Token)
    → read_rule n variables_rule ts ≡ made_of variables_rule (read (grammar variables_rule).form n) ts
variables_is n ts = read_rule-is n variables_rule ts

pub formals_is : (n : ℕ) (ts : List Token)
    → read_rule n formals_rule ts ≡ made_of formals_rule (read (grammar formals_rule).form n) ts
formals_is n ts = read_rule-is n formals_rule ts

pub section_is : (n : ℕ) (ts : List Token)
    → read_rule n section_rule ts ≡ made_of section_rule (read (grammar section_rule).form n) ts
section_is n ts = read_rule-is n section_rule ts

pub formal_is : (n : ℕ) (ts : List Token)
    → read_rule n formal_rule ts ≡ made_of formal_rule (read (grammar formal_rule).form n) ts
formal_is n ts = read_rule-is n formal_rule ts

pub qual_is : (n : ℕ) (ts : List Token) → read_rule n qual_rule ts
    ≡ made_of qual_rule (read (grammar qual_rule).form n) ts
qual_is n ts = read_rule-is n qual_rule ts

pub simple_is : (n : ℕ) (ts : List Token)
    → read_rule n simple_rule ts ≡ made_of simple_rule (read (grammar simple_rule).form n) ts
simple_is n ts = read_rule-is n simple_rule ts

pub dims_is : (n : ℕ) (ts : List Token) → read_rule n dims_rule ts
    ≡ made_of dims_rule (read (grammar dims_rule).form n) ts
dims_is n ts = read_rule-is n dims_rule ts

pub parameter_is : (n : ℕ) (ts : List Token)
    → read_rule n parameter_rule ts ≡ made_of parameter_rule (read (grammar parameter_rule).form n) ts
parameter_is n ts = read_rule-is n parameter_rule ts

pub field_is : (n : ℕ) (ts : List Token)
    → read_rule n field_rule ts ≡ made_of field_rule (read (grammar field_rule).form n) ts
field_is n ts = read_rule-is n field_rule ts

pub stmts_is : (n : ℕ) (ts : List Token)
    → read_rule n stmts_rule ts ≡ made_of stmts_rule (read (grammar stmts_rule).form n) ts
stmts_is n ts = read_rule-is n stmts_rule ts

pub stmt_is : (n : ℕ) (ts : List Token) → read_rule n stmt_rule ts
    ≡ made_of stmt_rule (read (grammar stmt_rule).form n) ts
stmt_is n ts = read_rule-is n stmt_rule ts

pub rest_is : (n : ℕ) (ts : List Token) → read_rule n rest_rule ts
    ≡ made_of rest_rule (read (grammar rest_rule).form n) ts
rest_is n ts = read_rule-is n rest_rule ts

pub arm_is : (n : ℕ) (ts : List Token) → read_rule n arm_rule ts ≡ made_of arm_rule (read (grammar arm_rule).form n) ts
arm_is n ts = read_rule-is n arm_rule ts

pub item_is : (n : ℕ) (ts : List Token) → read_rule n item_rule ts
    ≡ made_of item_rule (read (grammar item_rule).form n) ts
item_is n ts = read_rule-is n item_rule ts

pub desig_is : (n : ℕ) (ts : List Token)
    → read_rule n desig_rule ts ≡ made_of desig_rule (read (grammar desig_rule).form n) ts
desig_is n ts = read_rule-is n desig_rule ts

pub selectors_is : (n : ℕ) (ts : List Token)
    → read_rule n selectors_rule ts ≡ made_of selectors_rule (read (grammar selectors_rule).form n) ts
selectors_is n ts = read_rule-is n selectors_rule ts

pub expr_is : (n : ℕ) (ts : List Token) → read_rule n expr_rule ts
    ≡ made_of expr_rule (read (grammar expr_rule).form n) ts
expr_is n ts = read_rule-is n expr_rule ts

pub sum_is : (n : ℕ) (ts : List Token) → read_rule n sum_rule ts ≡ made_of sum_rule (read (grammar sum_rule).form n) ts
sum_is n ts = read_rule-is n sum_rule ts

pub term_is : (n : ℕ) (ts : List Token) → read_rule n term_rule ts
    ≡ made_of term_rule (read (grammar term_rule).form n) ts
term_is n ts = read_rule-is n term_rule ts

pub factor_is : (n : ℕ) (ts : List Token)
    → read_rule n factor_rule ts ≡ made_of factor_rule (read (grammar factor_rule).form n) ts
factor_is n ts = read_rule-is n factor_rule ts

-- ---- parts that count as a level of nesting

pub type_is : (n : ℕ) (ts : List Token) → read_rule n type_rule ts
    ≡ map_outcome (tree type_rule) (and_then (enter_level in_type n ts) (read (simple ∣ structured_type)))
type_is n ts = read_rule-is n type_rule ts ∙ ap (map_outcome (tree type_rule)) (nest-is (simple ∣ structured_type) n ts)

pub args_is : (n : ℕ) (ts : List Token) → read_rule n args_rule ts
    ≡ map_outcome (tree args_rule) (and_then (enter_level (the.Symbol LeftParen ∷ []) n ts)
    (read (LeftParen ▸ opt exprs ◂ RightParen)))
args_is n ts = read_rule-is n args_rule ts
    ∙ ap (map_outcome (tree args_rule)) (nest-is (LeftParen ▸ opt exprs ◂ RightParen) n ts)

pub set_is : (n : ℕ) (ts : List Token) → read_rule n set_rule ts
    ≡ map_outcome (tree set_rule) (and_then (enter_level (the.Symbol LeftBrace ∷ []) n ts)
    (read (symbol LeftBrace · opt items ◂ RightBrace)))
set_is n ts = read_rule-is n set_rule ts
    ∙ ap (map_outcome (tree set_rule)) (nest-is (symbol LeftBrace · opt items ◂ RightBrace) n ts)

pub procedure_is : (n : ℕ) (ts : List Token)
    → read (nest (Procedure ▸ named procedure ◂ Semicolon)) n ts
    ≡ and_then (enter_level (the.Symbol Procedure ∷ []) n ts) (read (Procedure ▸ named procedure ◂ Semicolon))
procedure_is n ts = nest-is (Procedure ▸ named procedure ◂ Semicolon) n ts

pub inner_dims_is : (n : ℕ) (ts : List Token)
    → read (nest (dims)) n ts ≡ and_then (enter_level (in_simple) n ts) (read (dims))
inner_dims_is n ts = nest-is (dims) n ts

pub index_is : (n : ℕ) (ts : List Token)
    → read (nest (symbol LeftBracket · exprs ◂ RightBracket)) n ts
    ≡ and_then (enter_level (the.Symbol LeftBracket ∷ []) n ts) (read (symbol LeftBracket · exprs ◂ RightBracket))
index_is n ts = nest-is (symbol LeftBracket · exprs ◂ RightBracket) n ts

pub not_is : (n : ℕ) (ts : List Token) → read (nest (symbol Not · factor)) n ts
    ≡ and_then (enter_level (the.Symbol Not ∷ []) n ts) (read (symbol Not · factor))
not_is n ts = nest-is (symbol Not · factor) n ts

pub group_is : (n : ℕ) (ts : List Token)
    → read (nest (symbol LeftParen · expr ◂ RightParen)) n ts
    ≡ and_then (enter_level (the.Symbol LeftParen ∷ []) n ts) (read (symbol LeftParen · expr ◂ RightParen))
group_is n ts = nest-is (symbol LeftParen · expr ◂ RightParen) n ts

pub if_stmt_is : (n : ℕ) (ts : List Token)
    → read (nest (if_stmt)) n ts ≡ and_then (enter_level (the.Symbol If ∷ []) n ts) (read (if_stmt))
if_stmt_is n ts = nest-is (if_stmt) n ts

pub elsif_part_is : (n : ℕ) (ts : List Token)
    → read (nest (elsif_part)) n ts ≡ and_then (enter_level (the.Symbol Elsif ∷ []) n ts) (read (elsif_part))
elsif_part_is n ts = nest-is (elsif_part) n ts

pub case_stmt_is : (n : ℕ) (ts : List Token)
    → read (nest (case_stmt)) n ts ≡ and_then (enter_level (the.Symbol Case ∷ []) n ts) (read (case_stmt))
case_stmt_is n ts = nest-is (case_stmt) n ts

pub while_stmt_is : (n : ℕ) (ts : List Token)
    → read (nest (while_stmt)) n ts ≡ and_then (enter_level (the.Symbol While ∷ []) n ts) (read (while_stmt))
while_stmt_is n ts = nest-is (while_stmt) n ts

pub repeat_stmt_is : (n : ℕ) (ts : List Token)
    → read (nest (repeat_stmt)) n ts ≡ and_then (enter_level (the.Symbol Repeat ∷ []) n ts) (read (repeat_stmt))
repeat_stmt_is n ts = nest-is (repeat_stmt) n ts

pub loop_stmt_is : (n : ℕ) (ts : List Token)
    → read (nest (loop_stmt)) n ts ≡ and_then (enter_level (the.Symbol Loop ∷ []) n ts) (read (loop_stmt))
loop_stmt_is n ts = nest-is (loop_stmt) n ts

pub for_stmt_is : (n : ℕ) (ts : List Token)
    → read (nest (for_stmt)) n ts ≡ and_then (enter_level (the.Symbol For ∷ []) n ts) (read (for_stmt))
for_stmt_is n ts = nest-is (for_stmt) n ts

pub with_stmt_is : (n : ℕ) (ts : List Token)
    → read (nest (with_stmt)) n ts ≡ and_then (enter_level (the.Symbol With ∷ []) n ts) (read (with_stmt))
with_stmt_is n ts = nest-is (with_stmt) n ts

pub ruleset factor_steps = (factor_is, not_is, group_is)

pub ruleset dims_steps = (dims_is, inner_dims_is)

pub ruleset rest_steps = (rest_is, elsif_part_is)
