-- A tree nests no deeper than the levels that its text may have.
use Rattle.std.proofs.Common.{◌≡◌, ◌⊎◌, inl, inr, ℕ, suc, ◌+◌, ◌*◌, ◌≤◌, zero, Bool, true, false, List, [], ◌∷◌, ◌++◌, Option, Some, None, refl, ap, subst, append_assoc, arith}
use Rattle.std.specs.Prelude.{map}
use Rattle.m2_tree.specs.declared.pos.Pos.{Pos}
use Rattle.m2_tree.specs.declared.token.Lexeme.{Lexeme}
use Rattle.m2_tree.specs.declared.token.Lexeme.TheVariants as lexeme
use Rattle.m2_tree.specs.declared.token.Token.{Token}
use Rattle.m2_tree.specs.declared.expr.Expr.{Expr}
use Rattle.m2_tree.specs.declared.expr.Item.{Item}
use Rattle.m2_tree.specs.declared.expr.Selector.{Selector}
use Rattle.m2_tree.specs.declared.expr.Selector.TheVariants as sel
use Rattle.m2_tree.specs.declared.stmt.Stmt.{Stmt}
use Rattle.m2_tree.specs.declared.stmt.Arm.{Arm}
use Rattle.m2_tree.specs.declared.expr.Designator.{Designator}
use Rattle.m2_tree.specs.declared.decl.Block.{Block}
use Rattle.m2_tree.specs.declared.decl.Decl.{Decl}
use Rattle.m2_tree.specs.declared.token.Symbol.TheVariants.{Implementation, Begin}
use Rattle.m2_tree.specs.declared.decl.Module.{Module}
use Rattle.def_grammar.specs.Rule.{Rule, Ast, module_rule, import_rule, idents_rule, def_rule, block_rule, decl_rule, constant_rule, type_decl_rule, variables_rule, formals_rule, section_rule, formal_rule, qual_rule, simple_rule, type_rule, dims_rule, parameter_rule, field_rule, stmts_rule, stmt_rule, rest_rule, arm_rule, item_rule, desig_rule, selectors_rule, args_rule, expr_rule, sum_rule, term_rule, factor_rule, set_rule}
use Rattle.def_grammar.specs.Grammar.{Ty, ast, El, Gr, tok, rule, ◌·◌, ◌∣◌, lead, trail, opt, many, nest, named, ◌▸◌}
use Rattle.def_grammar.specs.Ebnf.{grammar, symbol, selector, expr, stmt, stmts, arm, arms, else_part, step}
use Rattle.def_grammar.specs.Trees.{ident_of, literal_said, with_first, present, flatten_lists, is_there, sign_of, add_operand, multiply_operand, selectors_of, contents_with, tree}
use Rattle.def_grammar.specs.Spelling.{Spells, one, made, pair, left, right, before, behind, absent, there_is, none, more, nested, closed}
use Rattle.def_grammar.specs.Spelling.{Breaks, too_deep, in_rule, in_first, in_second, in_left, in_right, in_rest, in_front, in_opt, in_turn_now, in_turn_later, in_nest, in_named}
use Rattle.def_grammar.specs.declared.refusal.GrammarRule.TheVariants.{TooDeep}
use Rattle.def_grammar.specs.Reading.{nullable}
use Rattle.def_grammar.specs.Refusal.{IsTree, max_nesting}
use Rattle.def_grammar.proofs.Truth.{and_both}
use Rattle.def_grammar.proofs.Sets.{not_true, clash}
use Rattle.def_grammar.proofs.OneAhead.{one_ahead, tabled}
use Rattle.def_grammar.proofs.First.{FirstOf, first_of_text}
use Rattle.law_encoding.specs.Nesting.{◌⊔◌, deepest_of, case_levels, if_levels, loop_levels, depth_expr, depth_selector, depth_designator, depth_if, depth_argument, depth_arguments, depth_stmt, depth_rest, depth_arm, depth_stmts, depth_stmts_if, depth_decl, depth_block, depth_contents, depth_module}
use Rattle.law_encoding.specs.Nested.{expression_levels, most_nesting}
use Rattle.law_encoding.proofs.Sums.{le_trans, le_by}
use Rattle.law_encoding.proofs.Deepest.{both_below, deepest_below, deepest_append}
use Rattle.law_encoding.proofs.DeepTrees.{number_depth, char_depth, text_depth, set_depth, not_depth, bracketed_depth, use_depth, depth_operand, term_depth, sum_depth, relation_depth, field_selector_depth, index_depth, designator_depth, assign_depth, call_depth, if_depth, case_depth, while_depth, repeat_depth, loop_depth, exit_depth, return_depth, for_depth, with_depth, elsif_depth, else_depth, arm_depth, constants_depth, types_depth, variables_depth, body_depth, block_depth}

-- ---- what parts of the grammar count

-- a factor stands in a term, that in a sum, and that in a relation
abbrev pub tree_depth : (r : Rule) → Ast r → ℕ
tree_depth module_rule x = depth_module x
tree_depth import_rule x = 0
tree_depth idents_rule x = 0
tree_depth def_rule x = 0
tree_depth block_rule x = depth_block x
tree_depth decl_rule x = depth_decl x
tree_depth constant_rule x = 0
tree_depth type_decl_rule x = 0
tree_depth variables_rule x = 0
tree_depth formals_rule x = 0
tree_depth section_rule x = 0
tree_depth formal_rule x = 0
tree_depth qual_rule x = 0
tree_depth simple_rule x = 0
tree_depth type_rule x = 0
tree_depth dims_rule x = 0
tree_depth parameter_rule x = 0
tree_depth field_rule x = 0
tree_depth stmts_rule xs = depth_stmts xs
tree_depth stmt_rule x = depth_stmt x
tree_depth rest_rule x = depth_rest x
tree_depth arm_rule x = depth_arm x
tree_depth item_rule x = 0
tree_depth desig_rule x = 1 ⊔ depth_designator x
tree_depth selectors_rule xs = deepest_of (λ s. 3 + depth_selector s) xs
tree_depth args_rule xs = 4 + deepest_of depth_argument xs
tree_depth expr_rule x = depth_expr x
tree_depth sum_rule x = 1 + depth_expr x
tree_depth term_rule x = 2 + depth_expr x
tree_depth factor_rule x = 3 + depth_expr x
tree_depth set_rule x = 4

abbrev pub weight : {a : Ty} → Gr a → El a → ℕ
weight (tok k ks) t = 4
weight (rule r) x = tree_depth r x
weight (g · h) p = weight g p.0 ⊔ weight h p.1
weight (g ∣ h) (inl x) = weight g x
weight (g ∣ h) (inr y) = weight h y
weight (lead k g) x = 4 ⊔ weight g x
weight (trail g k) x = weight g x ⊔ 4
weight (opt g) None = 0
weight (opt g) (Some x) = weight g x
weight (many g) xs = deepest_of (weight g) xs
weight (nest g) x = 18 + weight g x
weight (named g) p = 4 ⊔ (weight g p.1 ⊔ 4)

-- ---- lists

-- those that are there, where each is one of a list that may have gaps
present_below : {X : Type 0} (f : X → ℕ) (xs : List (Option X)) (w : Option X → ℕ) → ((x : X) → f x ≤ w (Some x))
    → deepest_of f (present xs) ≤ deepest_of w xs
present_below f [] w h = omega arith
present_below f (None ∷ xs) w h = more_below (deepest_of f (present xs)) (deepest_of w xs) (w None)
    (present_below f xs w h) where
      more_below : (a b c : ℕ) → a ≤ b → a ≤ c ⊔ b
      more_below a b c e = omega (arith, e)
present_below f (Some x ∷ xs) w h = both_below (f x) (w (Some x)) (deepest_of f (present xs)) (deepest_of w xs) (h x)
    (present_below f xs w h)

-- ---- expressions

abbrev pub Shallow : (r : Rule) → El (grammar r).shape → Type 0
Shallow r x = tree_depth r (tree r x) ≤ weight (grammar r).form x

literal_below : (n : ℕ) → n ≡ 1 → 3 + n ≤ 4
literal_below n e = omega (arith, e)

said_below : (p : Pos) (l : Lexeme) → 3 + depth_expr (literal_said p l) ≤ 4
said_below p (lexeme.Number n) = literal_below _ (number_depth p n)
said_below p (lexeme.Char c) = literal_below _ (char_depth p c)
said_below p (lexeme.Text t) = literal_below _ (text_depth p t)
said_below p (lexeme.Name n) = literal_below _ (number_depth p 0)
said_below p (lexeme.Symbol s) = literal_below _ (number_depth p 0)
said_below p lexeme.End = literal_below _ (number_depth p 0)

two_below : (a b n : ℕ) → n ≡ 1 ⊔ a ⊔ (1 + b) → n ≤ (1 + a) ⊔ (4 ⊔ (1 + b))
two_below a b n e = omega (arith, e)

related_below : (x : Expr) (o : Option (Token × Expr)) → Shallow expr_rule (x, o)
related_below x None = omega arith
related_below x (Some p) = two_below (depth_expr x) (depth_expr p.1) _ (relation_depth x _ p.1)

add_step : (e c d : ℕ) → 1 + c ≤ 1 ⊔ d → 1 + ((1 + e) ⊔ c) ≤ 1 ⊔ ((4 ⊔ (2 + e)) ⊔ d)
add_step e c d h = omega (arith, h)

adds_below : (ps : List (Token × Expr)) →
    1 + deepest_of depth_operand (map add_operand ps) ≤ 1 ⊔ deepest_of (λ (p : Token × Expr). 4 ⊔ (2 + depth_expr p.1))
    ps
adds_below [] = omega arith
adds_below (p ∷ ps) = add_step (depth_expr p.1) _ _ (adds_below ps)

times_step : (e c d : ℕ) → 2 + c ≤ 2 ⊔ d → 2 + ((1 + e) ⊔ c) ≤ 2 ⊔ ((4 ⊔ (3 + e)) ⊔ d)
times_step e c d h = omega (arith, h)

times_below : (ps : List (Token × Expr))
    → 2 + deepest_of depth_operand (map multiply_operand ps) ≤ 2 ⊔ deepest_of
    (λ (p : Token × Expr). 4 ⊔ (3 + depth_expr p.1)) ps
times_below [] = omega arith
times_below (p ∷ ps) = times_step (depth_expr p.1) _ _ (times_below ps)

one_more : (n a b c d : ℕ) → n ≡ 1 ⊔ a ⊔ ((1 + b) ⊔ c) → 1 + c ≤ 1 ⊔ d → 1 + n ≤ 0 ⊔ ((2 + a) ⊔ ((4 ⊔ (2 + b)) ⊔ d))
one_more n a b c d e h = omega (arith, e, h)

with_sign : (n a c d : ℕ) → n ≡ 1 ⊔ a ⊔ c → 1 + c ≤ 1 ⊔ d → 1 + n ≤ 4 ⊔ ((2 + a) ⊔ d)
with_sign n a c d e h = omega (arith, e, h)

sum_below : (o : Option Token) (x : Expr) (ps : List (Token × Expr)) → Shallow sum_rule (o, (x, ps))
sum_below None x [] = omega arith
sum_below None x (p ∷ ps) = one_more _ (depth_expr x) (depth_expr p.1) _ _ (sum_depth None x (map add_operand (p ∷ ps)))
    (adds_below ps)
sum_below (Some t) x ps = with_sign _ (depth_expr x) _ _ (sum_depth (Some (sign_of t)) x (map add_operand ps))
    (adds_below ps)

added_to : (n a c d : ℕ) → n ≡ a ⊔ c → 2 + c ≤ 2 ⊔ d → 2 + n ≤ (3 + a) ⊔ d
added_to n a c d e h = omega (arith, e, h)

term_below : (x : Expr) (ps : List (Token × Expr)) → Shallow term_rule (x, ps)
term_below x [] = omega arith
term_below x (p ∷ ps) = added_to _ (depth_expr x) _ _ (term_depth x (map multiply_operand (p ∷ ps)))
    (times_below (p ∷ ps))

set_begun : (n : ℕ) → n ≡ 1 → 3 + n ≤ 4 ⊔ 4
set_begun n e = omega (arith, e)

use_below : (n d s a b c : ℕ) → n ≡ 1 ⊔ d ⊔ a → d ≡ 1 ⊔ s → 3 + s ≤ 3 ⊔ c → 3 + a ≤ 3 ⊔ b → 3 + n ≤ 4 ⊔ (c ⊔ b)
use_below n d s a b c e f g h = omega (arith, e, f, g, h)

picks_below : (xs : List Selector) → 3 + deepest_of depth_selector xs ≤ 3 ⊔ deepest_of (λ s. 3 + depth_selector s) xs
picks_below [] = omega arith
picks_below (x ∷ xs) = picks_step (depth_selector x) _ _ (picks_below xs) where
  picks_step : (a c d : ℕ) → 3 + c ≤ 3 ⊔ d → 3 + (a ⊔ c) ≤ 3 ⊔ ((3 + a) ⊔ d)
  picks_step a c d h = omega (arith, h)

no_more_args : (o : Option (List Expr)) → 3 + depth_arguments o ≤ 3 ⊔ weight (opt (rule args_rule)) o
no_more_args None = omega arith
no_more_args (Some es) = omega arith

begun_below : (t : Token) (x : (Pos × List Item) ⊎ (List Selector × Option (List Expr)))
    → Shallow factor_rule (inr (inl (t, x)))
begun_below t (inl q) = set_begun _ (set_depth (Some (ident_of t)) q.0 q.1)
begun_below t (inr q) = use_below _ _ (deepest_of depth_selector q.0) _ _ _ (use_depth _ q.1)
    (designator_depth (ident_of t) q.0) (picks_below q.0) (no_more_args q.1)

not_below : (n a : ℕ) → n ≡ 1 ⊔ a → 3 + n ≤ 18 + (4 ⊔ (3 + a))
not_below n a e = omega (arith, e)

bracketed_below : (n a : ℕ) → n ≡ a → 3 + n ≤ 18 + (4 ⊔ (a ⊔ 4))
bracketed_below n a e = omega (arith, e)

factor_below : (x : El (grammar factor_rule).shape) → Shallow factor_rule x
factor_below (inl t) = said_below t.pos t.lexeme
factor_below (inr (inl p)) = begun_below p.0 p.1
factor_below (inr (inr (inl q))) = literal_below _ (set_depth None q.0 q.1)
factor_below (inr (inr (inr (inl p)))) = not_below _ _ (not_depth p.0.pos p.1)
factor_below (inr (inr (inr (inr p)))) = bracketed_below _ _ (bracketed_depth p.0.pos p.1)

-- ---- selectors, arguments and sets

index_step : (n e c d : ℕ) → n ≡ 1 ⊔ e → c ≤ 18 + d → (3 + n) ⊔ c ≤ 18 + ((4 ⊔ e) ⊔ d)
index_step n e c d q h = omega (arith, q, h)

indexes_below : (p : Pos) (es : List Expr)
    → deepest_of (λ s. 3 + depth_selector s) (map (sel.Index p) es) ≤ 18 + deepest_of (λ (x : Expr). 4 ⊔ depth_expr x)
    es
indexes_below p [] = omega arith
indexes_below p (x ∷ es) = index_step _ (depth_expr x) _ _ (index_depth p x) (indexes_below p es)

first_index : (n e c d : ℕ) → n ≡ 1 ⊔ e → c ≤ 18 + d → (3 + n) ⊔ c ≤ 18 + (4 ⊔ (e ⊔ d ⊔ 4))
first_index n e c d q h = omega (arith, q, h)

field_below : (n : ℕ) → n ≡ 1 → (3 + n) ⊔ 0 ≤ 4 ⊔ 4
field_below n e = omega (arith, e)

selected_below : (x : (Token × Token) ⊎ (Token × (Expr × List Expr)))
    → deepest_of (λ s. 3 + depth_selector s) (selectors_of x) ≤ weight selector x
selected_below (inl p) = field_below _ (field_selector_depth p.0.pos (ident_of p.1))
selected_below (inr p) = first_index _ (depth_expr p.1.0) _ _ (index_depth p.0.pos p.1.0) (indexes_below p.0.pos p.1.1)

selectors_below : (xs : El (grammar selectors_rule).shape) → Shallow selectors_rule xs
selectors_below [] = omega arith
selectors_below (x ∷ xs) =
    le_by _ _ _ (deepest_append (λ s. 3 + depth_selector s) (selectors_of x) (flatten_lists (map selectors_of xs)))
    (both_below _ _ _ _ (selected_below x) (selectors_below xs))

args_below : (es : List Expr) → deepest_of depth_argument es ≤ deepest_of (λ (x : Expr). 4 ⊔ depth_expr x) es
args_below es = deepest_below depth_argument (λ (x : Expr). 4 ⊔ depth_expr x) (λ x. omega arith) es

first_argument : (e c d : ℕ) → c ≤ d → 4 + (1 ⊔ e ⊔ c) ≤ 18 + (4 ⊔ (e ⊔ d ⊔ 4))
first_argument e c d h = omega (arith, h)

args_all : (o : Option (Expr × List Expr)) → Shallow args_rule o
args_all None = omega arith
args_all (Some p) = first_argument (depth_expr p.0) _ _ (args_below p.1)

set_below : (n : ℕ) → 4 ≤ 18 + n
set_below n = omega arith

name_below : (n a c : ℕ) → n ≡ 1 ⊔ a → 3 + a ≤ 3 ⊔ c → 1 ⊔ n ≤ 4 ⊔ c
name_below n a c e h = omega (arith, e, h)

desig_below : (t : Token) (xs : List Selector) → Shallow desig_rule (t, xs)
desig_below t xs = name_below _ _ _ (designator_depth (ident_of t) xs) (picks_below xs)

-- ---- statements

if_there_below : (o : Option Expr) → depth_if o ≤ weight (opt expr) o
if_there_below None = omega arith
if_there_below (Some x) = omega arith

else_below : (o : Option (List Stmt)) → depth_stmts_if o ≤ weight else_part o
else_below None = omega arith
else_below (Some xs) = omega arith

assigned : (n d e : ℕ) → n ≡ 1 ⊔ d ⊔ e → n ≤ (1 ⊔ d) ⊔ (4 ⊔ e)
assigned n d e q = omega (arith, q)

called : (n d a b : ℕ) → n ≡ 1 ⊔ d ⊔ a → 3 + a ≤ 3 ⊔ b → n ≤ (1 ⊔ d) ⊔ b
called n d a b q h = omega (arith, q, h)

if_below : (n c b r : ℕ) → n ≡ if_levels + (c ⊔ b ⊔ r) → n ≤ 18 + (4 ⊔ (c ⊔ (4 ⊔ (b ⊔ (r ⊔ 4)))))
if_below n c b r q = omega (arith, q)

case_below : (n e a b o p : ℕ) → n ≡ case_levels + (e ⊔ a ⊔ o) → a ≤ b → o ≤ p
    → n ≤ 18 + (4 ⊔ (e ⊔ (4 ⊔ (b ⊔ (p ⊔ 4)))))
case_below n e a b o p q h k = omega (arith, q, h, k)

while_below : (n c b : ℕ) → n ≡ loop_levels + (c ⊔ b) → n ≤ 18 + (4 ⊔ (c ⊔ (4 ⊔ (b ⊔ 4))))
while_below n c b q = omega (arith, q)

repeat_below : (n c b : ℕ) → n ≡ if_levels + (b ⊔ c) → n ≤ 18 + (4 ⊔ (b ⊔ (4 ⊔ c)))
repeat_below n c b q = omega (arith, q)

loop_below : (n b : ℕ) → n ≡ loop_levels + b → n ≤ 18 + (4 ⊔ (b ⊔ 4))
loop_below n b q = omega (arith, q)

exit_below : (n : ℕ) → n ≡ 1 → n ≤ 4
exit_below n e = omega (arith, e)

return_below : (n a b : ℕ) → n ≡ 1 ⊔ a → a ≤ b → n ≤ 4 ⊔ b
return_below n a b q h = omega (arith, q, h)

here : (a b : ℕ) → a ≤ a ⊔ b
here a b = omega arith

later : (a b c : ℕ) → a ≤ c → a ≤ b ⊔ c
later a b c h = omega (arith, h)

around_three : (n x y b r : ℕ) → n ≡ loop_levels + (1 ⊔ x ⊔ y ⊔ b) → 4 ≤ r → x ≤ r → y ≤ r → b ≤ r → n ≤ 18 + r
around_three n x y b r q h i j k = omega (arith, q, h, i, j, k)

for_below : (n x y p b : ℕ) → n ≡ loop_levels + (1 ⊔ x ⊔ y ⊔ b)
    → n ≤ 18 + (4 ⊔ (4 ⊔ (4 ⊔ (x ⊔ (4 ⊔ (y ⊔ (p ⊔ (4 ⊔ (b ⊔ 4)))))))))
for_below n x y p b q =
    around_three n x y b _ q (here 4 _) (later x 4 _ (later x 4 _ (later x 4 _ (here x _))))
    (later y 4 _ (later y 4 _ (later y 4 _ (later y x _ (later y 4 _ (here y _))))))
    (later b 4 _ (later b 4 _ (later b 4 _
    (later b x _ (later b 4 _ (later b y _ (later b p _ (later b 4 _ (here b 4)))))))))

with_below : (n d b : ℕ) → n ≡ 1 ⊔ d ⊔ b → n ≤ 18 + (4 ⊔ ((1 ⊔ d) ⊔ (4 ⊔ (b ⊔ 4))))
with_below n d b q = omega (arith, q)

arms_below : (xs : List (Option Arm)) → deepest_of depth_arm (present xs) ≤ deepest_of
    (λ (o : Option Arm). 4 ⊔ weight (opt arm) o) xs
arms_below xs = present_below depth_arm xs (λ (o : Option Arm). 4 ⊔ weight (opt arm) o) (λ x. omega arith)

first_arm : (o : Option Arm) (xs : List (Option Arm)) → deepest_of depth_arm (present (o ∷ xs)) ≤ weight arms (o, xs)
first_arm None xs = let h = arms_below xs in omega (arith, h)
first_arm (Some x) xs = let h = arms_below xs in both_below (depth_arm x) (depth_arm x) _ _ (omega arith) h

stmt_below : (x : El (grammar stmt_rule).shape) → Shallow stmt_rule x
stmt_below (inl p) = simple_below p.0 p.1 where
  simple_below : (d : Designator) (x : Expr ⊎ Option (List Expr)) → Shallow stmt_rule (inl (d, x))
  simple_below d (inl v) = assigned _ _ _ (assign_depth d v)
  simple_below d (inr args) = called _ _ _ _ (call_depth d args) (no_more_args args)
stmt_below (inr (inl p)) = if_below _ _ _ _ (if_depth p.0 p.1.0 p.1.1)
stmt_below (inr (inr (inl p))) = case_below _ _ _ _ _ _ (case_depth p.0 (present (with_first p.1.0)) p.1.1)
    (first_arm p.1.0.0 p.1.0.1) (else_below p.1.1)
stmt_below (inr (inr (inr (inl p)))) = while_below _ _ _ (while_depth p.0 p.1)
stmt_below (inr (inr (inr (inr (inl p))))) = repeat_below _ _ _ (repeat_depth p.0 p.1)
stmt_below (inr (inr (inr (inr (inr (inl body)))))) = loop_below _ _ (loop_depth body)
stmt_below (inr (inr (inr (inr (inr (inr (inl t))))))) = exit_below _ (exit_depth t.pos)
stmt_below (inr (inr (inr (inr (inr (inr (inr (inl p)))))))) =
    return_below _ _ _ (return_depth p.0.pos p.1) (if_there_below p.1)
stmt_below (inr (inr (inr (inr (inr (inr (inr (inr (inl p))))))))) =
    for_below _ _ _ (weight step p.1.1.1.0) _ (for_depth (ident_of p.0) p.1.0 p.1.1.0 p.1.1.1.0 p.1.1.1.1)
stmt_below (inr (inr (inr (inr (inr (inr (inr (inr (inr p))))))))) = with_below _ _ _ (with_depth p.0 p.1)

elsif_below : (n c b r : ℕ) → n ≡ if_levels + (c ⊔ b ⊔ r) → n ≤ 18 + (4 ⊔ (c ⊔ (4 ⊔ (b ⊔ r))))
elsif_below n c b r q = omega (arith, q)

rest_below : (x : El (grammar rest_rule).shape) → Shallow rest_rule x
rest_below (inl p) = elsif_below _ _ _ _ (elsif_depth p.0 p.1.0 p.1.1)
rest_below (inr o) = le_by _ _ _ (else_depth o) (else_below o)

some_stmts : (xs : List (Option Stmt)) →
    deepest_of depth_stmt (present xs) ≤ deepest_of (λ (o : Option Stmt). 4 ⊔ weight (opt stmt) o) xs
some_stmts xs = present_below depth_stmt xs (λ (o : Option Stmt). 4 ⊔ weight (opt stmt) o) (λ x. omega arith)

stmts_below : (o : Option Stmt) (xs : List (Option Stmt)) → Shallow stmts_rule (o, xs)
stmts_below None xs = let h = some_stmts xs in omega (arith, h)
stmts_below (Some x) xs = both_below (depth_stmt x) (depth_stmt x) _ _ (omega arith) (some_stmts xs)

arm_step : (n i b s : ℕ) → n ≡ s → n ≤ i ⊔ b ⊔ (4 ⊔ s)
arm_step n i b s q = omega (arith, q)

arm_below : (i : Item) (is : List Item) (body : List Stmt) → Shallow arm_rule ((i, is), body)
arm_below i is body = arm_step _ _ _ _ (arm_depth (i ∷ is) body)

-- ---- declarations and modules

none_below : (n a : ℕ) → n ≡ 0 → n ≤ a
none_below n a e = omega (arith, e)

procedure_below : (n s b : ℕ) → n ≡ b → n ≤ 18 + (4 ⊔ (4 ⊔ (s ⊔ (4 ⊔ b) ⊔ 4) ⊔ 4))
procedure_below n s b q = omega (arith, q)

decl_below : (x : El (grammar decl_rule).shape) → Shallow decl_rule x
decl_below (inl (inl cs)) = none_below _ _ (constants_depth cs)
decl_below (inl (inr (inl ts))) = none_below _ _ (types_depth ts)
decl_below (inl (inr (inr vs))) = none_below _ _ (variables_depth vs)
decl_below (inr p) = procedure_below _ 0 _ (body_depth _ p.1.1)

block_step : (n a b c : ℕ) → n ≡ a ⊔ b → b ≤ c → n ≤ a ⊔ (c ⊔ 4)
block_step n a b c q h = omega (arith, q, h)

block_below : (ds : List Decl) (o : Option (List Stmt)) → Shallow block_rule (ds, o)
block_below ds o = block_step _ _ _ _ (block_depth ds o) (begin_below o) where
  begin_below : (b : Option (List Stmt)) → depth_stmts_if b ≤ weight (opt (Begin ▸ stmts)) b
  begin_below None = omega arith
  begin_below (Some xs) = omega arith

definition_below : (n : ℕ) → 0 ≤ n
definition_below n = omega arith

body_below : (o i b : ℕ) → b ≤ o ⊔ (4 ⊔ (4 ⊔ (4 ⊔ (i ⊔ b) ⊔ 4) ⊔ 4)) ⊔ 4
body_below o i b = omega arith

held_depth : (h : Bool) (b : Block) → depth_contents (contents_with h b) ≡ depth_block b
held_depth true b = refl
held_depth false b = refl

module_below : (x : El (grammar module_rule).shape) → Shallow module_rule x
module_below (inl p) = definition_below _
module_below (inr p) =
    le_by _ _ _ (held_depth (is_there p.0) p.1.1.1)
    (body_below (weight (opt (symbol Implementation)) p.0) _ (depth_block p.1.1.1))

-- ---- all productions

shallow : (r : Rule) (x : El (grammar r).shape) → Shallow r x
shallow module_rule x = module_below x
shallow import_rule x = omega arith
shallow idents_rule x = omega arith
shallow def_rule x = omega arith
shallow block_rule x = block_below x.0 x.1
shallow decl_rule x = decl_below x
shallow constant_rule x = omega arith
shallow type_decl_rule x = omega arith
shallow variables_rule x = omega arith
shallow formals_rule x = omega arith
shallow section_rule x = omega arith
shallow formal_rule x = omega arith
shallow qual_rule x = omega arith
shallow simple_rule x = omega arith
shallow type_rule x = omega arith
shallow dims_rule x = omega arith
shallow parameter_rule x = omega arith
shallow field_rule x = omega arith
shallow stmts_rule x = stmts_below x.0 x.1
shallow stmt_rule x = stmt_below x
shallow rest_rule x = rest_below x
shallow arm_rule x = arm_below x.0.0 x.0.1 x.1
shallow item_rule x = omega arith
shallow desig_rule x = desig_below x.0 x.1
shallow selectors_rule x = selectors_below x
shallow args_rule x = args_all x
shallow expr_rule x = related_below x.0 x.1
shallow sum_rule x = sum_below x.0 x.1.0 x.1.1
shallow term_rule x = term_below x.0 x.1
shallow factor_rule x = factor_below x
shallow set_rule x = set_below _

-- ---- the induction: no level more than are left

abbrev Bound : ℕ → ℕ
Bound n = case_levels * n + expression_levels

-- no rule on nesting is broken before what follows
abbrev NotDeep : {a : Ty} → Gr a → ℕ → List Token → Type 0
NotDeep g n ts = (at : List Token) → Breaks _ g n ts at TooDeep → ⊥

two_texts : (a b n : ℕ) → a ≤ Bound n → b ≤ Bound n → a ⊔ b ≤ Bound n
two_texts a b n h i = omega (arith, h, i)

token_below : (n : ℕ) → 4 ≤ Bound n
token_below n = omega arith

nothing_below : (n : ℕ) → 0 ≤ Bound n
nothing_below n = omega arith

token_before : (a n : ℕ) → a ≤ Bound n → 4 ⊔ a ≤ Bound n
token_before a n h = omega (arith, h)

token_behind : (a n : ℕ) → a ≤ Bound n → a ⊔ 4 ≤ Bound n
token_behind a n h = omega (arith, h)

token_around : (a n : ℕ) → a ≤ Bound n → 4 ⊔ (a ⊔ 4) ≤ Bound n
token_around a n h = omega (arith, h)

one_level : (a n : ℕ) → a ≤ Bound n → 18 + a ≤ Bound (suc n)
one_level a n h = omega (arith, h)

-- a part that counts has a token
begins_deep : {a : Ty} (g : Gr a) (x : El a) (ts us : List Token) → Spells a g x ts → nullable g ≡ false → FirstOf g ts
    → NotDeep (nest g) 0 (ts ++ us) → ⊥
begins_deep g x [] us p e f h = clash (nullable g) f e
begins_deep g x (t ∷ ts) us p e f h = h (t ∷ (ts ++ us)) (too_deep (x, ts, p))

pub spelled_below : {a : Ty} {g : Gr a} {x : El a} {ts : List Token} → Spells a g x ts → one_ahead g ≡ true
    → (n : ℕ) (us : List Token) → NotDeep g n (ts ++ us) → weight g x ≤ Bound n
spelled_below (one i) l n us h = token_below n
spelled_below (made {r = r} {x = x} d) l n us h =
    le_trans _ _ _ (shallow r x) (spelled_below d (tabled r).ahead n us (λ at b. h at (in_rule b)))
spelled_below (pair {g = g} {h = k} {ts = ts} {us = vs} d c) l n us h =
    let b = and_both (one_ahead g) _ l in
    let o = and_both (one_ahead k) _ b.1 in
    let all = subst (λ (ws : List Token). NotDeep (g · k) n ws) (append_assoc ts vs us) h in
    two_texts _ _ n (spelled_below d b.0 n (vs ++ us) (λ at x. all at (in_first x)))
    (spelled_below c o.0 n us (λ at x. all at (in_second d x)))
spelled_below (left {g = g} d) l n us h = let b = and_both (one_ahead g) _ l in
    spelled_below d b.0 n us (λ at x. h at (in_left x))
spelled_below (right {g = g} {h = k} d) l n us h =
    let b = and_both (one_ahead g) _ l in
    let o = and_both (one_ahead k) _ b.1 in
    spelled_below d o.0 n us (λ at x. h at (in_right x))
spelled_below (before k d) l n us h = token_before _ n (spelled_below d l n us (λ at x. h at (in_rest k x)))
spelled_below (behind {k = j} {g = g} {ts = ts} t d i) l n us h =
    let b = and_both (one_ahead g) _ l in
    let all = subst (λ (ws : List Token). NotDeep (trail g j) n ws) (append_assoc ts (t ∷ []) us) h in
    token_behind _ n (spelled_below d b.0 n (t ∷ us) (λ at x. all at (in_front x)))
spelled_below absent l n us h = nothing_below n
spelled_below (there_is {g = g} d) l n us h = let b = and_both (one_ahead g) _ l in
    spelled_below d b.0 n us (λ at x. h at (in_opt x))
spelled_below none l n us h = nothing_below n
spelled_below (more {g = g} {ts = ts} {us = vs} d c) l n us h =
    let b = and_both (one_ahead g) _ l in
    let all = subst (λ (ws : List Token). NotDeep (many g) n ws) (append_assoc ts vs us) h in
    two_texts _ _ n (spelled_below d b.0 n (vs ++ us) (λ at x. all at (in_turn_now x)))
    (spelled_below c l n us (λ at x. all at (in_turn_later d x)))
spelled_below (nested {g = g} {x = x} {ts = ts} d) l zero us h =
    let b = and_both (one_ahead g) _ l in absurd
    (begins_deep g x ts us d (not_true (nullable g) b.1) (first_of_text d) h)
spelled_below (nested {g = g} d) l (suc n) us h = let b = and_both (one_ahead g) _ l in
    one_level _ n (spelled_below d b.0 n us (λ at x. h at (in_nest x)))
spelled_below (closed {g = g} {ts = ts} t u k d i) l n us h =
    let b = and_both (one_ahead g) _ l in
    let all = subst (λ (ws : List Token). NotDeep (named g) n (t ∷ ws)) (append_assoc ts (u ∷ []) us) h in
    token_around _ n (spelled_below d b.0 n (u ∷ us) (λ at x. all at (in_named k x)))

-- ---- modules

no_more : (ts : List Token) → ts ++ [] ≡ ts
no_more [] = refl
no_more (t ∷ ts) = ap (λ (us : List Token). t ∷ us) (no_more ts)

pub tree_below : (ts : List Token) (m : Module) → IsTree ts m → depth_module m ≤ most_nesting
tree_below ts m d = spelled_below d.0 refl max_nesting []
    (λ at b. d.1 at TooDeep (subst (λ (us : List Token). Breaks (ast module_rule) (rule module_rule) max_nesting us at
    TooDeep) (no_more ts) b))
