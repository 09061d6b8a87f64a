-- A tree is no larger than the text of it: four for each token.
use Rattle.std.proofs.Common.{◌≡◌, ◌⊎◌, inl, inr, ℕ, suc, ◌+◌, ◌*◌, ◌≤◌, Bool, true, false, List, [], ◌∷◌, length, Option, Some, None, refl, ap, length-append, arith}
use Rattle.std.specs.Prelude.{map}
use Rattle.m2_tree.specs.declared.pos.Pos.{Pos}
use Rattle.m2_tree.specs.declared.token.Lexeme.{Lexeme}
use Rattle.m2_tree.specs.declared.token.Lexeme.TheVariants as lexeme
use Rattle.m2_tree.specs.declared.token.Token.{Token}
use Rattle.m2_tree.specs.declared.expr.Qualified.{Qualified}
use Rattle.m2_tree.specs.declared.expr.Expr.{Expr}
use Rattle.m2_tree.specs.declared.expr.Item.{Item}
use Rattle.m2_tree.specs.declared.expr.Selector.{Selector}
use Rattle.m2_tree.specs.declared.expr.Selector.TheVariants as sel
use Rattle.m2_tree.specs.declared.stmt.Stmt.{Stmt}
use Rattle.m2_tree.specs.declared.stmt.Arm.{Arm}
use Rattle.m2_tree.specs.declared.expr.Designator.{Designator}
use Rattle.m2_tree.specs.declared.decl.Simple.{Simple}
use Rattle.m2_tree.specs.declared.decl.TypeExpr.{TypeExpr}
use Rattle.m2_tree.specs.declared.decl.Section.{Section}
use Rattle.m2_tree.specs.declared.decl.Parameter.{Parameter}
use Rattle.m2_tree.specs.declared.decl.Block.{Block}
use Rattle.m2_tree.specs.declared.decl.Decl.{Decl}
use Rattle.m2_tree.specs.declared.decl.Field.{Field}
use Rattle.m2_tree.specs.declared.token.Symbol.TheVariants.{Implementation, Begin}
use Rattle.m2_tree.specs.declared.decl.Module.{Module}
use Rattle.def_grammar.specs.Rule.{Rule, Ast, module_rule, import_rule, idents_rule, def_rule, block_rule, decl_rule, constant_rule, type_decl_rule, variables_rule, formals_rule, section_rule, formal_rule, qual_rule, simple_rule, type_rule, dims_rule, parameter_rule, field_rule, stmts_rule, stmt_rule, rest_rule, arm_rule, item_rule, desig_rule, selectors_rule, args_rule, expr_rule, sum_rule, term_rule, factor_rule, set_rule}
use Rattle.def_grammar.specs.Grammar.{Ty, ast, El, Gr, tok, rule, ◌·◌, ◌∣◌, lead, trail, opt, many, nest, named, ◌▸◌}
use Rattle.def_grammar.specs.Ebnf.{grammar, symbol, field, fields, selector, expr, stmt, stmts, arm, arms, else_part, step}
use Rattle.def_grammar.specs.Trees.{ident_of, literal_said, with_first, present, flatten_lists, is_there, sign_of, add_operand, multiply_operand, selectors_of, contents_with, tree}
use Rattle.def_grammar.specs.Spelling.{Spells, one, made, pair, left, right, before, behind, absent, there_is, none, more, nested, closed}
use Rattle.law_encoding.specs.Sizes.{sum_of, size_expr, size_selector, size_designator, size_item, size_if, size_argument, size_arguments, size_stmt, size_rest, size_arm, size_stmts, size_stmts_if, size_simple, size_type, size_field, size_section, size_constant, size_type_decl, size_variables, size_def, size_decl, size_block, size_import, size_contents, size_module}
use Rattle.law_encoding.proofs.Sums.{le_sum, le_trans, le_by, sum_below, sum_append, length_below}
use Rattle.law_encoding.proofs.Variants.{number_size, char_size, text_size, set_size, not_size, bracketed_size, use_size, size_operand, term_size, sum_size, relation_size, field_selector_size, index_size, designator_size, item_size, assign_size, call_size, if_size, case_size, while_size, repeat_size, loop_size, exit_size, return_size, for_size, with_size, elsif_size, else_size, size_label, arm_size, simple_type_size, array_size, record_size, procedure_size, field_size, constants_size, types_size, variables_size, body_size, block_size}

-- ---- what parts of the grammar count

-- a designator has a name at least, and two of its four are left
abbrev pub tree_size : (r : Rule) → Ast r → ℕ
tree_size module_rule x = size_module x
tree_size import_rule x = size_import x
tree_size idents_rule xs = 2 * length xs
tree_size def_rule x = size_def x
tree_size block_rule x = size_block x
tree_size decl_rule x = size_decl x
tree_size constant_rule x = size_constant x
tree_size type_decl_rule x = size_type_decl x
tree_size variables_rule x = size_variables x
tree_size formals_rule x = sum_of size_section x.0
tree_size section_rule x = size_section x
tree_size formal_rule x = 1
tree_size qual_rule x = 1
tree_size simple_rule x = size_simple x
tree_size type_rule x = size_type x
tree_size dims_rule x = size_simple x.0 + size_type x.1
tree_size parameter_rule x = 1
tree_size field_rule x = size_field x
tree_size stmts_rule xs = size_stmts xs
tree_size stmt_rule x = size_stmt x
tree_size rest_rule x = size_rest x
tree_size arm_rule x = size_arm x
tree_size item_rule x = size_item x
tree_size desig_rule x = 2 + size_designator x
tree_size selectors_rule xs = sum_of size_selector xs
tree_size args_rule xs = 1 + sum_of size_argument xs
tree_size expr_rule x = size_expr x
tree_size sum_rule x = size_expr x
tree_size term_rule x = size_expr x
tree_size factor_rule x = size_expr x
tree_size set_rule x = 1 + sum_of size_item x.1

abbrev pub weight : {a : Ty} → Gr a → El a → ℕ
weight (tok k ks) t = 4
weight (rule r) x = tree_size r x
weight (g · h) p = weight g p.0 + weight h p.1
weight (g ∣ h) (inl x) = weight g x
weight (g ∣ h) (inr y) = weight h y
weight (lead k g) x = 4 + weight g x
weight (trail g k) x = weight g x + 4
weight (opt g) None = 0
weight (opt g) (Some x) = weight g x
weight (many g) xs = sum_of (weight g) xs
weight (nest g) x = weight g x
weight (named g) p = 4 + (weight g p.1 + 4)

-- ---- lists

idents_below : (ts : List Token) → 2 * length (map ident_of ts) ≤ sum_of (λ (t : Token). 4 + 4) ts
idents_below [] = omega arith
idents_below (t ∷ ts) = let h = idents_below ts in omega (arith, h)

-- those that are there, where each is one of a list that may have gaps
present_below : {X : Type 0} (f : X → ℕ) (xs : List (Option X)) (w : Option X → ℕ) → ((x : X) → f x ≤ w (Some x))
    → sum_of f (present xs) ≤ sum_of w xs
present_below f [] w h = omega arith
present_below f (None ∷ xs) w h = more_below (sum_of f (present xs)) (sum_of w xs) (w None) (present_below f xs w h)
  where
    more_below : (a b c : ℕ) → a ≤ b → a ≤ c + b
    more_below a b c e = omega (arith, e)
present_below f (Some x ∷ xs) w h = le_sum (f x) (w (Some x)) (sum_of f (present xs)) (sum_of w xs) (h x)
    (present_below f xs w h)

-- ---- expressions

one_le_four : (n : ℕ) → n ≡ 1 → n ≤ 4
one_le_four n e = omega (arith, e)

said_below : (p : Pos) (l : Lexeme) → size_expr (literal_said p l) ≤ 4
said_below p (lexeme.Number n) = one_le_four _ (number_size p n)
said_below p (lexeme.Char c) = one_le_four _ (char_size p c)
said_below p (lexeme.Text t) = one_le_four _ (text_size p t)
said_below p (lexeme.Name n) = one_le_four _ (number_size p 0)
said_below p (lexeme.Symbol s) = one_le_four _ (number_size p 0)
said_below p lexeme.End = one_le_four _ (number_size p 0)

two_below : (a b n : ℕ) → n ≡ 2 + a + b → n ≤ a + (4 + b)
two_below a b n e = omega (arith, e)

abbrev pub Sized : (r : Rule) → El (grammar r).shape → Type 0
Sized r x = tree_size r (tree r x) ≤ weight (grammar r).form x

related_below : (x : Expr) (o : Option (Token × Expr)) → Sized expr_rule (x, o)
related_below x None = omega arith
related_below x (Some p) = two_below (size_expr x) (size_expr p.1) _ (relation_size x _ p.1)

adds_below : (ps : List (Token × Expr)) →
    sum_of size_operand (map add_operand ps) ≤ sum_of (λ (p : Token × Expr). 4 + size_expr p.1) ps
adds_below [] = omega arith
adds_below (p ∷ ps) = let h = adds_below ps in le_sum (2 + size_expr p.1) (4 + size_expr p.1) _ _ (omega arith) h

times_below : (ps : List (Token × Expr))
    → sum_of size_operand (map multiply_operand ps) ≤ sum_of (λ (p : Token × Expr). 4 + size_expr p.1) ps
times_below [] = omega arith
times_below (p ∷ ps) = let h = times_below ps in le_sum (2 + size_expr p.1) (4 + size_expr p.1) _ _ (omega arith) h

one_more : (n a b c d : ℕ) → n ≡ 1 + a + (2 + b + c) → c ≤ d → n ≤ 0 + (a + (4 + b + d))
one_more n a b c d e h = omega (arith, e, h)

with_sign : (n a c d : ℕ) → n ≡ 1 + a + c → c ≤ d → n ≤ 4 + (a + d)
with_sign n a c d e h = omega (arith, e, h)

sum_sized : (o : Option Token) (x : Expr) (ps : List (Token × Expr)) → Sized sum_rule (o, (x, ps))
sum_sized None x [] = omega arith
sum_sized None x (p ∷ ps) = one_more _ (size_expr x) (size_expr p.1) _ _ (sum_size None x (map add_operand (p ∷ ps)))
    (adds_below ps)
sum_sized (Some t) x ps = with_sign _ (size_expr x) _ _ (sum_size (Some (sign_of t)) x (map add_operand ps))
    (adds_below ps)

added_to : (n a c d : ℕ) → n ≡ a + c → c ≤ d → n ≤ a + d
added_to n a c d e h = omega (arith, e, h)

term_sized : (x : Expr) (ps : List (Token × Expr)) → Sized term_rule (x, ps)
term_sized x [] = omega arith
term_sized x (p ∷ ps) = added_to _ (size_expr x) _ _ (term_size x (map multiply_operand (p ∷ ps)))
    (times_below (p ∷ ps))

set_of_four : (n a : ℕ) → n ≡ 1 + a → n ≤ 4 + (1 + a)
set_of_four n a e = omega (arith, e)

set_alone : (n a : ℕ) → n ≡ 1 + a → n ≤ 1 + a
set_alone n a e = omega (arith, e)

use_below : (n d s a b : ℕ) → n ≡ 1 + d + a → d ≡ 2 + s → a ≤ b → n ≤ 4 + (s + b)
use_below n d s a b e f h = omega (arith, e, f, h)

no_more_args : (o : Option (List Expr)) → size_arguments o ≤ weight (opt (rule args_rule)) o
no_more_args None = omega arith
no_more_args (Some es) = omega arith

begun_sized : (t : Token) (x : (Pos × List Item) ⊎ (List Selector × Option (List Expr)))
    → Sized factor_rule (inr (inl (t, x)))
begun_sized t (inl q) = set_of_four _ _ (set_size (Some (ident_of t)) q.0 q.1)
begun_sized t (inr q) = use_below _ _ (sum_of size_selector q.0) _ _ (use_size _ q.1) (designator_size (ident_of t) q.0)
    (no_more_args q.1)

below_by : (n a : ℕ) → n ≡ 2 + a → n ≤ 4 + a
below_by n a e = omega (arith, e)

below_eight : (n a : ℕ) → n ≡ a → n ≤ 4 + (a + 4)
below_eight n a e = omega (arith, e)

factor_sized : (x : El (grammar factor_rule).shape) → Sized factor_rule x
factor_sized (inl t) = said_below t.pos t.lexeme
factor_sized (inr (inl p)) = begun_sized p.0 p.1
factor_sized (inr (inr (inl q))) = set_alone _ _ (set_size None q.0 q.1)
factor_sized (inr (inr (inr (inl p)))) = below_by _ _ (not_size p.0.pos p.1)
factor_sized (inr (inr (inr (inr p)))) = below_eight _ _ (bracketed_size p.0.pos p.1)

-- ---- selectors, arguments and sets

indexes_below : (p : Pos) (es : List Expr)
    → sum_of size_selector (map (sel.Index p) es) ≤ sum_of (λ (x : Expr). 4 + size_expr x) es
indexes_below p [] = omega arith
indexes_below p (x ∷ es) = le_sum _ (4 + size_expr x) _ _ (let h = index_size p x in omega (arith, h))
    (indexes_below p es)

first_index : (n e c d : ℕ) → n ≡ 1 + e → c ≤ d → n + c ≤ 4 + (e + d + 4)
first_index n e c d q h = omega (arith, q, h)

field_below : (n : ℕ) → n ≡ 1 → n + 0 ≤ 4 + 4
field_below n e = omega (arith, e)

selected_sized : (x : (Token × Token) ⊎ (Token × (Expr × List Expr)))
    → sum_of size_selector (selectors_of x) ≤ weight selector x
selected_sized (inl p) = field_below _ (field_selector_size p.0.pos (ident_of p.1))
selected_sized (inr p) = first_index _ (size_expr p.1.0) _ _ (index_size p.0.pos p.1.0) (indexes_below p.0.pos p.1.1)

selectors_sized : (xs : El (grammar selectors_rule).shape) → Sized selectors_rule xs
selectors_sized [] = omega arith
selectors_sized (x ∷ xs) =
    le_by _ _ _ (sum_append size_selector (selectors_of x) (flatten_lists (map selectors_of xs)))
    (le_sum _ _ _ _ (selected_sized x) (selectors_sized xs))

args_below : (es : List Expr) → sum_of size_argument es ≤ sum_of (λ (x : Expr). 4 + size_expr x) es
args_below es = sum_below size_argument (λ (x : Expr). 4 + size_expr x) (λ x. omega arith) es

first_argument : (e c d : ℕ) → c ≤ d → 1 + (1 + e + c) ≤ 4 + (e + d + 4)
first_argument e c d h = omega (arith, h)

args_sized : (o : Option (Expr × List Expr)) → Sized args_rule o
args_sized None = omega arith
args_sized (Some p) = first_argument (size_expr p.0) _ _ (args_below p.1)

items_below : (xs : List Item) → sum_of size_item xs ≤ sum_of (λ (x : Item). 4 + size_item x) xs
items_below xs = sum_below size_item (λ (x : Item). 4 + size_item x) (λ x. omega arith) xs

first_item : (e c d : ℕ) → c ≤ d → 1 + (e + c) ≤ 4 + (e + d + 4)
first_item e c d h = omega (arith, h)

set_sized : (t : Token) (o : Option (Item × List Item)) → Sized set_rule (t, o)
set_sized t None = omega arith
set_sized t (Some p) = first_item (size_item p.0) _ _ (items_below p.1)

item_sized : (x : Expr) (o : Option Expr) → Sized item_rule (x, o)
item_sized x None = added_to _ (size_expr x) _ _ (item_size x None) (omega arith)
item_sized x (Some y) = added_to _ (size_expr x) (size_expr y) (4 + size_expr y) (item_size x (Some y)) (omega arith)

name_below : (n a b : ℕ) → n ≡ 2 + a → 2 + n ≤ 4 + a
name_below n a b e = omega (arith, e)

desig_sized : (t : Token) (xs : List Selector) → Sized desig_rule (t, xs)
desig_sized t xs = name_below _ _ 0 (designator_size (ident_of t) xs)

-- ---- statements

if_below : (o : Option Expr) → size_if o ≤ weight (opt expr) o
if_below None = omega arith
if_below (Some x) = omega arith

stmts_below : (o : Option (List Stmt)) → size_stmts_if o ≤ weight (opt stmts) o
stmts_below None = omega arith
stmts_below (Some xs) = omega arith

else_below : (o : Option (List Stmt)) → size_stmts_if o ≤ weight else_part o
else_below None = omega arith
else_below (Some xs) = omega arith

assigned : (n d e : ℕ) → n ≡ 1 + d + e → n ≤ 2 + d + (4 + e)
assigned n d e q = omega (arith, q)

called : (n d a b : ℕ) → n ≡ 2 + d + a → a ≤ b → n ≤ 2 + d + b
called n d a b q h = omega (arith, q, h)

if_sum : (n c b r : ℕ) → n ≡ 1 + c + b + r → n ≤ 4 + (c + (4 + (b + (r + 4))))
if_sum n c b r q = omega (arith, q)

case_sum : (n e a b o p : ℕ) → n ≡ 6 + e + a + o → a ≤ b → o ≤ p → n ≤ 4 + (e + (4 + (b + (p + 4))))
case_sum n e a b o p q h k = omega (arith, q, h, k)

while_sum : (n c b : ℕ) → n ≡ 1 + c + b → n ≤ 4 + (c + (4 + (b + 4)))
while_sum n c b q = omega (arith, q)

repeat_sum : (n c b : ℕ) → n ≡ 1 + b + c → n ≤ 4 + (b + (4 + c))
repeat_sum n c b q = omega (arith, q)

loop_sum : (n b : ℕ) → n ≡ 1 + b → n ≤ 4 + (b + 4)
loop_sum n b q = omega (arith, q)

return_sum : (n a b : ℕ) → n ≡ 1 + a → a ≤ b → n ≤ 4 + b
return_sum n a b q h = omega (arith, q, h)

for_sum : (n x y o p b : ℕ) → n ≡ 9 + x + y + o + b → o ≤ p → n ≤ 4 + (4 + (4 + (x + (4 + (y + (p + (4 + (b + 4))))))))
for_sum n x y o p b q h = omega (arith, q, h)

with_sum : (n d b : ℕ) → n ≡ 1 + d + b → n ≤ 4 + (2 + d + (4 + (b + 4)))
with_sum n d b q = omega (arith, q)

step_below : (o : Option Expr) → size_if o ≤ weight step o
step_below None = omega arith
step_below (Some x) = omega arith

arms_below : (xs : List (Option Arm)) → sum_of size_arm (present xs) ≤ sum_of
    (λ (o : Option Arm). 4 + weight (opt arm) o) xs
arms_below xs = present_below size_arm xs (λ (o : Option Arm). 4 + weight (opt arm) o) (λ x. omega arith)

first_arm : (o : Option Arm) (xs : List (Option Arm)) → sum_of size_arm (present (o ∷ xs)) ≤ weight arms (o, xs)
first_arm None xs = let h = arms_below xs in omega (arith, h)
first_arm (Some x) xs = let h = arms_below xs in le_sum (size_arm x) (size_arm x) _ _ (omega arith) h

other_sized : (x : El (grammar stmt_rule).shape) → Sized stmt_rule x
other_sized (inl p) = simple_sized p.0 p.1 where
  simple_sized : (d : Designator) (x : Expr ⊎ Option (List Expr)) → Sized stmt_rule (inl (d, x))
  simple_sized d (inl v) = assigned _ _ _ (assign_size d v)
  simple_sized d (inr args) = called _ _ _ _ (call_size d args) (no_more_args args)
other_sized (inr (inl p)) = if_sum _ _ _ _ (if_size p.0 p.1.0 p.1.1)
other_sized (inr (inr (inl p))) = case_sum _ _ _ _ _ _ (case_size p.0 (present (with_first p.1.0)) p.1.1)
    (first_arm p.1.0.0 p.1.0.1) (else_below p.1.1)
other_sized (inr (inr (inr (inl p)))) = while_sum _ _ _ (while_size p.0 p.1)
other_sized (inr (inr (inr (inr (inl p))))) = repeat_sum _ _ _ (repeat_size p.0 p.1)
other_sized (inr (inr (inr (inr (inr (inl body)))))) = loop_sum _ _ (loop_size body)
other_sized (inr (inr (inr (inr (inr (inr (inl t))))))) = one_le_four _ (exit_size t.pos)
other_sized (inr (inr (inr (inr (inr (inr (inr (inl p)))))))) =
    return_sum _ _ _ (return_size p.0.pos p.1) (if_below p.1)
other_sized (inr (inr (inr (inr (inr (inr (inr (inr (inl p))))))))) =
    for_sum _ _ _ _ _ _ (for_size (ident_of p.0) p.1.0 p.1.1.0 p.1.1.1.0 p.1.1.1.1) (step_below p.1.1.1.0)
other_sized (inr (inr (inr (inr (inr (inr (inr (inr (inr p))))))))) = with_sum _ _ _ (with_size p.0 p.1)

rest_sum : (n c b r : ℕ) → n ≡ 1 + c + b + r → n ≤ 4 + (c + (4 + (b + r)))
rest_sum n c b r q = omega (arith, q)

rest_sized : (x : El (grammar rest_rule).shape) → Sized rest_rule x
rest_sized (inl p) = rest_sum _ _ _ _ (elsif_size p.0 p.1.0 p.1.1)
rest_sized (inr o) = le_by _ _ _ (else_size o) (else_below o)

some_stmts : (xs : List (Option Stmt)) →
    sum_of size_stmt (present xs) ≤ sum_of (λ (o : Option Stmt). 4 + weight (opt stmt) o) xs
some_stmts xs = present_below size_stmt xs (λ (o : Option Stmt). 4 + weight (opt stmt) o) (λ x. omega arith)

stmts_sized : (o : Option Stmt) (xs : List (Option Stmt)) → Sized stmts_rule (o, xs)
stmts_sized None xs = let h = some_stmts xs in omega (arith, h)
stmts_sized (Some x) xs = le_sum (size_stmt x) (size_stmt x) _ _ (omega arith) (some_stmts xs)

labels_below : (xs : List Item) → sum_of size_label xs ≤ sum_of (λ (x : Item). 4 + size_item x) xs
labels_below xs = sum_below size_label (λ (x : Item). 4 + size_item x) (λ x. omega arith) xs

arm_sum : (n i a b s : ℕ) → n ≡ 1 + (1 + i + a) + s → a ≤ b → n ≤ i + b + (4 + s)
arm_sum n i a b s q h = omega (arith, q, h)

arm_sized : (i : Item) (is : List Item) (body : List Stmt) → Sized arm_rule ((i, is), body)
arm_sized i is body = arm_sum _ (size_item i) _ _ _ (arm_size (i ∷ is) body) (labels_below is)

-- ---- types

range_sum : (a b : ℕ) → 1 + a + b ≤ 4 + (a + (4 + (b + 4)))
range_sum a b = omega arith

named_sized : (q : Qualified) (o : Option (Token × (Expr × Expr))) → Sized simple_rule (inl (q, o))
named_sized q None = omega arith
named_sized q (Some p) = let h = range_sum (size_expr p.1.0) (size_expr p.1.1) in omega (arith, h)

names_sum : (n : ℕ) → 1 + n ≤ 4 + (2 * n + 4)
names_sum n = omega arith

simple_sized : (x : El (grammar simple_rule).shape) → Sized simple_rule x
simple_sized (inl p) = named_sized p.0 p.1
simple_sized (inr (inl p)) = names_sum (length p.1)
simple_sized (inr (inr p)) = range_sum (size_expr p.1.0) (size_expr p.1.1)

array_sum : (n i t : ℕ) → n ≡ 1 + i + t → n ≤ 4 + (i + t)
array_sum n i t q = omega (arith, q)

some_fields : (xs : List (Option Field))
    → sum_of size_field (present xs) ≤ sum_of (λ (o : Option Field). 4 + weight (opt field) o) xs
some_fields xs = present_below size_field xs (λ (o : Option Field). 4 + weight (opt field) o) (λ x. omega arith)

first_field : (o : Option Field) (xs : List (Option Field))
    → sum_of size_field (present (o ∷ xs)) ≤ weight fields (o, xs)
first_field None xs = let h = some_fields xs in omega (arith, h)
first_field (Some x) xs = le_sum (size_field x) (size_field x) _ _ (omega arith) (some_fields xs)

record_sum : (n a b : ℕ) → n ≡ 1 + a → a ≤ b → n ≤ 4 + (b + 4)
record_sum n a b q h = omega (arith, q, h)

parameters_below : (xs : List Parameter) → length xs ≤ sum_of (λ (x : Parameter). 4 + 1) xs
parameters_below xs = length_below (λ (x : Parameter). 4 + 1) (λ x. omega arith) xs

formals_sum : (n a b r : ℕ) → n ≡ 1 + suc a → a ≤ b → n ≤ 4 + (4 + (1 + b + (4 + r)))
formals_sum n a b r q h = omega (arith, q, h)

no_formals : (n r : ℕ) → n ≡ 1 → n ≤ 4 + (4 + (0 + (4 + r)))
no_formals n r q = omega (arith, q)

bare_procedure : (n : ℕ) → n ≡ 1 → n ≤ 4 + 0
bare_procedure n q = omega (arith, q)

procedure_sized : (t : Token) (o : Option (Option (Parameter × List Parameter) × Option Qualified))
    → Sized type_rule (inr (inr (inr (t, o))))
procedure_sized t None = bare_procedure _ (procedure_size t.pos [] None)
procedure_sized t (Some p) = by p.0 p.1 where
  by : (xs : Option (Parameter × List Parameter)) (of : Option Qualified)
      → Sized type_rule (inr (inr (inr (t, Some (xs, of)))))
  by None of = no_formals _ _ (procedure_size t.pos [] of)
  by (Some q) of = formals_sum _ _ _ _ (procedure_size t.pos (q.0 ∷ q.1) of) (parameters_below q.1)

type_sized : (x : El (grammar type_rule).shape) → Sized type_rule x
type_sized (inl s) = le_by _ _ _ (simple_type_size s) (omega arith)
type_sized (inr (inl p)) = array_sum _ _ _ (array_size p.0.pos p.1.0 p.1.1)
type_sized (inr (inr (inl p))) = record_sum _ _ _ (record_size p.0.pos (present (with_first p.1)))
    (first_field p.1.0 p.1.1)
type_sized (inr (inr (inr p))) = procedure_sized p.0 p.1

dims_sum : (a n i t : ℕ) → n ≡ 1 + i + t → a + n ≤ a + (4 + (i + t))
dims_sum a n i t q = omega (arith, q)

dims_sized : (s : Simple) (x : (Simple × TypeExpr) ⊎ TypeExpr) → Sized dims_rule (s, x)
dims_sized s (inl p) = dims_sum (size_simple s) _ _ _ (array_size _ p.0 p.1)
dims_sized s (inr t) = omega arith

field_sum : (n a t : ℕ) → n ≡ a + t → n ≤ 2 * a + (4 + t)
field_sum n a t q = omega (arith, q)

-- ---- declarations and modules

sections_below : (xs : List Section) → sum_of size_section xs ≤ sum_of (λ (x : Section). 4 + size_section x) xs
sections_below xs = sum_below size_section (λ (x : Section). 4 + size_section x) (λ x. omega arith) xs

sections_sum : (e c d r : ℕ) → c ≤ d → e + c ≤ 4 + (e + d + (4 + r))
sections_sum e c d r h = omega (arith, h)

formals_sized : (o : Option (Option (Section × List Section) × Option Qualified)) → Sized formals_rule o
formals_sized None = omega arith
formals_sized (Some p) = by p.0 p.1 where
  by : (xs : Option (Section × List Section)) (of : Option Qualified) → Sized formals_rule (Some (xs, of))
  by None of = omega arith
  by (Some q) of = sections_sum (size_section q.0) _ _ _ (sections_below q.1)

idents_sum : (a b : ℕ) → 2 * a ≤ b → 2 * suc a ≤ 4 + b
idents_sum a b h = omega (arith, h)

idents_sized : (t : Token) (ts : List Token) → Sized idents_rule (t, ts)
idents_sized t ts = idents_sum _ _ (idents_below ts)

import_sum : (a n : ℕ) → 1 + n ≤ a + (4 + (2 * n + 4))
import_sum a n = omega arith

def_sized : (x : El (grammar def_rule).shape) → Sized def_rule x
def_sized (inl (inl cs)) = omega arith
def_sized (inl (inr (inl ts))) = omega arith
def_sized (inl (inr (inr vs))) = omega arith
def_sized (inr p) = heading_sum (sum_of size_section p.1.0) where
  heading_sum : (n : ℕ) → 1 + (1 + n) ≤ 4 + (4 + (n + 4))
  heading_sum n = omega arith

four_more : (n a : ℕ) → n ≡ a → n ≤ 4 + a
four_more n a q = omega (arith, q)

procedure_sum : (n s b : ℕ) → n ≡ 1 + (1 + s) + b → n ≤ 4 + (4 + (s + (4 + b) + 4) + 4)
procedure_sum n s b q = omega (arith, q)

decl_sized : (x : El (grammar decl_rule).shape) → Sized decl_rule x
decl_sized (inl (inl cs)) = four_more _ _ (constants_size cs)
decl_sized (inl (inr (inl ts))) = four_more _ _ (types_size ts)
decl_sized (inl (inr (inr vs))) = four_more _ _ (variables_size vs)
decl_sized (inr p) = procedure_sum _ _ _ (body_size _ p.1.1)

block_sum : (n a b c : ℕ) → n ≡ 1 + a + b → b ≤ c → n ≤ a + (c + 4)
block_sum n a b c q h = omega (arith, q, h)

block_sized : (ds : List Decl) (o : Option (List Stmt)) → Sized block_rule (ds, o)
block_sized ds o = block_sum _ _ _ _ (block_size ds o) (begin_below o) where
  begin_below : (b : Option (List Stmt)) → size_stmts_if b ≤ weight (opt (Begin ▸ stmts)) b
  begin_below None = omega arith
  begin_below (Some xs) = omega arith

module_sum : (i d : ℕ) → 1 + i + d ≤ 4 + (4 + (4 + (4 + (i + (d + 4)) + 4) + 4)) + 4
module_sum i d = omega arith

body_sum : (o i b : ℕ) → 1 + i + b ≤ o + (4 + (4 + (4 + (i + b) + 4) + 4)) + 4
body_sum o i b = omega arith

held_size : (h : Bool) (b : Block) → size_contents (contents_with h b) ≡ size_block b
held_size true b = refl
held_size false b = refl

module_sized : (x : El (grammar module_rule).shape) → Sized module_rule x
module_sized (inl p) = module_sum (sum_of size_import p.1.0) (sum_of size_def p.1.1)
module_sized (inr p) =
    le_by _ _ _ (ap (λ n. 1 + sum_of size_import p.1.1.0 + n) (held_size (is_there p.0) p.1.1.1))
    (body_sum (weight (opt (symbol Implementation)) p.0) (sum_of size_import p.1.1.0) (size_block p.1.1.1))

-- ---- all productions

sized : (r : Rule) (x : El (grammar r).shape) → Sized r x
sized module_rule x = module_sized x
sized import_rule x = import_sum _ (length x.1)
sized idents_rule x = idents_sized x.0 x.1
sized def_rule x = def_sized x
sized block_rule x = block_sized x.0 x.1
sized decl_rule x = decl_sized x
sized constant_rule x = omega arith
sized type_decl_rule x = omega arith
sized variables_rule x = omega arith
sized formals_rule x = formals_sized x
sized section_rule x = omega arith
sized formal_rule x = omega arith
sized qual_rule x = omega arith
sized simple_rule x = simple_sized x
sized type_rule x = type_sized x
sized dims_rule x = dims_sized x.0 x.1
sized parameter_rule x = omega arith
sized field_rule x = field_sum _ _ _ (field_size x.0 x.1)
sized stmts_rule x = stmts_sized x.0 x.1
sized stmt_rule x = other_sized x
sized rest_rule x = rest_sized x
sized arm_rule x = arm_sized x.0.0 x.0.1 x.1
sized item_rule x = item_sized x.0 x.1
sized desig_rule x = desig_sized x.0 x.1
sized selectors_rule x = selectors_sized x
sized args_rule x = args_sized x
sized expr_rule x = related_below x.0 x.1
sized sum_rule x = sum_sized x.0 x.1.0 x.1.1
sized term_rule x = term_sized x.0 x.1
sized factor_rule x = factor_sized x
sized set_rule x = set_sized x.0 x.1

-- ---- the induction

two_texts : (a b m n k : ℕ) → a ≤ 4 * m → b ≤ 4 * n → k ≡ m + n → a + b ≤ 4 * k
two_texts a b m n k h i e = omega (arith, h, i, e)

token_before : (a m : ℕ) → a ≤ 4 * m → 4 + a ≤ 4 * suc m
token_before a m h = omega (arith, h)

token_behind : (a m k : ℕ) → a ≤ 4 * m → k ≡ m + 1 → a + 4 ≤ 4 * k
token_behind a m k h e = omega (arith, h, e)

token_around : (a m k : ℕ) → a ≤ 4 * m → k ≡ m + 1 → 4 + (a + 4) ≤ 4 * suc k
token_around a m k h e = omega (arith, h, e)

pub spelled_below : {a : Ty} {g : Gr a} {x : El a} {ts : List Token} → Spells a g x ts → weight g x ≤ 4 * length ts
spelled_below (one i) = omega arith
spelled_below (made {r = r} {x = x} d) = le_trans _ _ _ (sized r x) (spelled_below d)
spelled_below (pair {ts = ts} {us = us} d c) =
    two_texts _ _ (length ts) (length us) _ (spelled_below d) (spelled_below c) (length-append ts us)
spelled_below (left d) = spelled_below d
spelled_below (right d) = spelled_below d
spelled_below (before {ts = ts} k d) = token_before _ (length ts) (spelled_below d)
spelled_below (behind {ts = ts} t d k) = token_behind _ (length ts) _ (spelled_below d) (length-append ts (t ∷ []))
spelled_below absent = omega arith
spelled_below (there_is d) = spelled_below d
spelled_below none = omega arith
spelled_below (more {ts = ts} {us = us} d c) =
    two_texts _ _ (length ts) (length us) _ (spelled_below d) (spelled_below c) (length-append ts us)
spelled_below (nested d) = spelled_below d
spelled_below (closed {ts = ts} t u k d l) = token_around _ (length ts) _ (spelled_below d) (length-append ts (u ∷ []))

pub module_below : (ts : List Token) (m : Module) → Spells (ast module_rule) (rule module_rule) m ts
    → size_module m ≤ 4 * length ts
module_below ts m d = spelled_below d
