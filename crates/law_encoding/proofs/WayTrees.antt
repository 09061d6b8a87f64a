-- How much trees allow in each of the three ways, and what each form of them leaves to its parts. A tree leads no
-- further
-- outwards than the procedure around it stands deep.
use Rattle.std.proofs.Common.{◌≡◌, ℕ, ◌+◌, ◌≤◌, List, [], ◌∷◌, Option, Some, None, refl, arith}
use Rattle.std.specs.Prelude.{map, ◌-◌}
use Rattle.m2_tree.specs.declared.pos.Pos.{Pos}
use Rattle.m2_tree.specs.declared.name.Ident.{Ident}
use Rattle.m2_tree.specs.declared.expr.AddOp.{AddOp}
use Rattle.m2_tree.specs.declared.expr.MulOp.{MulOp}
use Rattle.m2_tree.specs.declared.expr.RelOp.{RelOp}
use Rattle.m2_tree.specs.declared.expr.Sign.{Sign}
use Rattle.m2_tree.specs.declared.expr.Operator.{Operator}
use Rattle.m2_tree.specs.declared.expr.Expr.{Expr, Expr-F, out-Expr}
use Rattle.m2_tree.specs.declared.expr.Expr.TheOpen as layer
use Rattle.m2_tree.specs.declared.expr.Selector.{Selector, Selector-F, out-Selector}
use Rattle.m2_tree.specs.declared.expr.Designator.{Designator, Designator-F, out-Designator}
use Rattle.m2_tree.specs.declared.expr.Item.{Item}
use Rattle.m2_tree.specs.declared.stmt.Rest.{Rest, Rest-F, out-Rest}
use Rattle.m2_tree.specs.declared.stmt.Rest.TheOpen as rlayer
use Rattle.m2_tree.specs.declared.stmt.Stmt.{Stmt, Stmt-F, out-Stmt}
use Rattle.m2_tree.specs.declared.stmt.Arm.{Arm, Arm-F, out-Arm}
use Rattle.law_encoding.specs.Sizes.{sum_of, size_expr, size_selector, size_designator, size_stmt, size_rest, size_arm}
use Rattle.law_encoding.specs.Sizes as size
use Rattle.law_encoding.specs.Nesting.{◌⊔◌, deepest_of, deepest, depth_expr, depth_selector, depth_designator}
use Rattle.law_encoding.specs.Nesting.{depth_stmt, depth_rest, depth_arm}
use Rattle.law_encoding.specs.Nesting as nesting
use Rattle.law_encoding.proofs.Variants.{size_label}
use Rattle.law_encoding.proofs.Variants as sized
use Rattle.law_encoding.proofs.DeepTrees as deep
use Rattle.law_encoding.proofs.Ways.{Way, by_size, by_depth, by_distance, ◌⊕⟨◌⟩◌, node, up, operand, control}
use Rattle.law_encoding.proofs.Ways.{in_if, in_case, in_loop, labels, total_of, arguments, operands}

-- ---- what a name weighs by itself

abbrev pub base : Way → ℕ
base by_size = 3
base by_depth = 1
base (by_distance level) = level

-- in a procedure that stands no deeper than the way says
abbrev pub IsNear : Way → ℕ → Type 0
IsNear by_size n = Unit {0}
IsNear by_depth n = Unit {0}
IsNear (by_distance level) n = n ≤ level

pub constant_name : (w : Way) → node w ≤ base w
constant_name by_size = omega arith
constant_name by_depth = omega arith
constant_name (by_distance far) = omega arith

pub procedure_name : (w : Way) → node w ⊕⟨ w ⟩ node w ≤ base w
procedure_name by_size = omega arith
procedure_name by_depth = omega arith
procedure_name (by_distance far) = omega arith

pub global_name : (w : Way) (n : ℕ) → n ≡ node w ⊕⟨ w ⟩ up w 0 → node w ⊕⟨ w ⟩ n ≤ base w
global_name by_size n h = omega (arith, h)
global_name by_depth n h = omega (arith, h)
global_name (by_distance far) n h = omega (arith, h)

pub field_name : (w : Way) (n d c : ℕ) → n ≡ d ⊕⟨ w ⟩ c → d ≡ node w ⊕⟨ w ⟩ up w 0 → c ≡ node w
    → node w ⊕⟨ w ⟩ n ≤ base w
field_name by_size n d c h i j = omega (arith, h, i, j)
field_name by_depth n d c h i j = omega (arith, h, i, j)
field_name (by_distance far) n d c h i j = omega (arith, h, i, j)

pub local_name : (w : Way) (level own n : ℕ) → IsNear w level → n ≡ node w ⊕⟨ w ⟩ up w (level - own)
    → node w ⊕⟨ w ⟩ n ≤ base w
local_name by_size level own n h i = omega (arith, i)
local_name by_depth level own n h i = omega (arith, i)
local_name (by_distance far) level own n h i = omega (arith, h, i)

pub open_name : (w : Way) (level own : ℕ) → IsNear w level → node w ⊕⟨ w ⟩ (node w ⊕⟨ w ⟩ up w (level - own)) ≤ base w
open_name by_size level own h = omega arith
open_name by_depth level own h = omega arith
open_name (by_distance far) level own h = omega (arith, h)

pub nested_name : (w : Way) (level own : ℕ) → IsNear w level → node w ⊕⟨ w ⟩ up w (level - own) ≤ base w
nested_name by_size level own h = omega arith
nested_name by_depth level own h = omega arith
nested_name (by_distance far) level own h = omega (arith, h)

-- the variable of a FOR
abbrev pub control_base : Way → ℕ
control_base by_size = 5
control_base by_depth = 1
control_base (by_distance level) = level

pub global_control : (w : Way) (n : ℕ) → n ≡ node w ⊕⟨ w ⟩ up w 0 → control w n ≤ control_base w
global_control by_size n h = omega (arith, h)
global_control by_depth n h = omega (arith, h)
global_control (by_distance far) n h = omega (arith, h)

pub local_control : (w : Way) (level own n : ℕ) → IsNear w level → n ≡ node w ⊕⟨ w ⟩ up w (level - own)
    → control w n ≤ control_base w
local_control by_size level own n h i = omega (arith, i)
local_control by_depth level own n h i = omega (arith, i)
local_control (by_distance far) level own n h i = omega (arith, h, i)

pub base_again : (w : Way) (n : ℕ) → base w ≤ n → base w ≤ node w ⊕⟨ w ⟩ n
base_again by_size n h = omega (arith, h)
base_again by_depth n h = omega (arith, h)
base_again (by_distance far) n h = omega (arith, h)

pub base_still : (w : Way) (k n : ℕ) → base w ≤ k → base w ≤ k ⊕⟨ w ⟩ n
base_still by_size k n h = omega (arith, h)
base_still by_depth k n h = omega (arith, h)
base_still (by_distance far) k n h = omega (arith, h)

-- ---- expressions

abbrev pub bound_expr : Way → Expr → ℕ
bound_expr by_size = size_expr
bound_expr by_depth = depth_expr
bound_expr (by_distance level) = λ e. level

abbrev pub bound_selector : Way → Selector → ℕ
bound_selector by_size = size_selector
bound_selector by_depth = depth_selector
bound_selector (by_distance level) = λ s. level

abbrev pub bound_designator : Way → Designator → ℕ
bound_designator by_size = size_designator
bound_designator by_depth = depth_designator
bound_designator (by_distance level) = λ d. level

abbrev pub bound_if : Way → Option Expr → ℕ
bound_if w None = 0
bound_if w (Some e) = bound_expr w e

abbrev pub expr_form : Way → Expr-F Expr Selector Designator Item → ℕ
expr_form by_size y = size.expr_layer (sized.sizes_expr y)
expr_form by_depth y = nesting.expr_layer (deep.depths_expr y)
expr_form (by_distance level) y = level

abbrev pub selector_form : Way → Selector-F Expr Selector Designator Item → ℕ
selector_form by_size y = size.selector_layer (sized.sizes_selector y)
selector_form by_depth y = nesting.selector_layer (deep.depths_selector y)
selector_form (by_distance level) y = level

abbrev pub designator_form : Way → Designator-F Expr Selector Designator Item → ℕ
designator_form by_size y = size.designator_layer (sized.sizes_designator y)
designator_form by_depth y = nesting.designator_layer (deep.depths_designator y)
designator_form (by_distance level) y = level

pub expr_opened : (w : Way) (e : Expr) (y : Expr-F Expr Selector Designator Item) → out-Expr e ≡ y
    → bound_expr w e ≡ expr_form w y
expr_opened by_size e y h = sized.at e y h
expr_opened by_depth e y h = deep.at e y h
expr_opened (by_distance level) e y h = refl

pub selector_opened : (w : Way) (s : Selector) (y : Selector-F Expr Selector Designator Item) → out-Selector s ≡ y
    → bound_selector w s ≡ selector_form w y
selector_opened by_size s y h = sized.at_selector s y h
selector_opened by_depth s y h = deep.at_selector s y h
selector_opened (by_distance level) s y h = refl

pub designator_opened : (w : Way) (d : Designator) (y : Designator-F Expr Selector Designator Item)
    → out-Designator d ≡ y → bound_designator w d ≡ designator_form w y
designator_opened by_size d y h = sized.at_designator d y h
designator_opened by_depth d y h = deep.at_designator d y h
designator_opened (by_distance level) d y h = refl

-- so many parts of the same weight
all_as_far : {A : Type 0} (level : ℕ) (xs : List A) → deepest (map (λ (x : A). level) xs) ≤ level
all_as_far level [] = omega arith
all_as_far level (x ∷ xs) = omega (arith, all_as_far level xs)

arguments_as_far : {A : Type 0} (level : ℕ) (xs : List A)
    → arguments (by_distance level) (map (λ (x : A). level) xs) ≤ level
arguments_as_far level [] = omega arith
arguments_as_far level (x ∷ xs) = omega (arith, arguments_as_far level xs)

operands_as_far : {O A : Type 0} (level : ℕ) (xs : List (O × A))
    → operands (by_distance level) (map (λ (x : O × A). (x.0, level)) xs) ≤ level
operands_as_far level [] = omega arith
operands_as_far level (x ∷ xs) = omega (arith, operands_as_far level xs)

abbrev pub bound_arguments : Way → List Expr → ℕ
bound_arguments w es = arguments w (map (bound_expr w) es)

abbrev pub bound_operands : {O : Type 0} → Way → List (O × Expr) → ℕ
bound_operands w xs = operands w (map (λ (x : _). (x.0, bound_expr w x.1)) xs)

pub of_number : (w : Way) (at : Pos) (n : ℕ) → node w ≤ expr_form w (layer.Number at n)
of_number by_size at n = omega arith
of_number by_depth at n = omega arith
of_number (by_distance far) at n = omega arith

pub of_char : (w : Way) (at : Pos) (c : ℕ) → node w ≤ expr_form w (layer.Char at c)
of_char by_size at c = omega arith
of_char by_depth at c = omega arith
of_char (by_distance far) at c = omega arith

pub of_text : (w : Way) (at : Pos) (t : List ℕ) → node w ≤ expr_form w (layer.Text at t)
of_text by_size at t = omega arith
of_text by_depth at t = omega arith
of_text (by_distance far) at t = omega arith

pub of_set : (w : Way) (name : Option Ident) (at : Pos) (items : List Item)
    → node w ≤ expr_form w (layer.Set name at items)
of_set by_size name at items = omega arith
of_set by_depth name at items = omega arith
of_set (by_distance far) name at items = omega arith

pub of_not : (w : Way) (at : Pos) (e : Expr) → node w ⊕⟨ w ⟩ bound_expr w e ≤ expr_form w (layer.Not at e)
of_not by_size at e = omega arith
of_not by_depth at e = omega arith
of_not (by_distance far) at e = omega arith

pub of_brackets : (w : Way) (at : Pos) (e : Expr) → bound_expr w e ≤ expr_form w (layer.Bracketed at e)
of_brackets by_size at e = omega arith
of_brackets by_depth at e = omega arith
of_brackets (by_distance far) at e = omega arith

pub of_name : (w : Way) (d : Designator) → node w ⊕⟨ w ⟩ bound_designator w d ≤ expr_form w (layer.Use d None)
of_name by_size d = omega arith
of_name by_depth d = omega arith
of_name (by_distance far) d = omega arith

pub of_call : (w : Way) (d : Designator) (es : List Expr)
    → node w ⊕⟨ w ⟩ (node w ⊕⟨ w ⟩ bound_designator w d ⊕⟨ w ⟩ bound_arguments w es) ≤ expr_form w
    (layer.Use d (Some es))
of_call by_size d es = omega arith
of_call by_depth d es = omega arith
of_call (by_distance far) d es = omega (arith, arguments_as_far far es)

pub of_term : (w : Way) (e : Expr) (xs : List (Operator MulOp × Expr))
    → bound_expr w e ⊕⟨ w ⟩ bound_operands w xs ≤ expr_form w (layer.Term e xs)
of_term by_size e xs = omega arith
of_term by_depth e xs = omega arith
of_term (by_distance far) e xs = omega (arith, operands_as_far far xs)

pub of_sum : (w : Way) (o : Option (Operator Sign)) (e : Expr) (xs : List (Operator AddOp × Expr))
    → node w ⊕⟨ w ⟩ bound_expr w e ⊕⟨ w ⟩ bound_operands w xs ≤ expr_form w (layer.Sum o e xs)
of_sum by_size o e xs = omega arith
of_sum by_depth o e xs = omega arith
of_sum (by_distance far) o e xs = omega (arith, operands_as_far far xs)

pub of_relation : (w : Way) (a : Expr) (o : Operator RelOp) (b : Expr)
    → node w ⊕⟨ w ⟩ (bound_expr w a ⊕⟨ w ⟩ operand w (bound_expr w b)) ≤ expr_form w (layer.Relation a o b)
of_relation by_size a o b = omega arith
of_relation by_depth a o b = omega arith
of_relation (by_distance far) a o b = omega arith

pub of_field : (w : Way) (k : ℕ) (at : Pos) (name : Ident)
    → node w ⊕⟨ w ⟩ k ≤ k ⊕⟨ w ⟩ selector_form w (layer.Field at name)
of_field by_size k at name = omega arith
of_field by_depth k at name = omega arith
of_field (by_distance far) k at name = omega arith

pub of_index : (w : Way) (k : ℕ) (at : Pos) (e : Expr)
    → node w ⊕⟨ w ⟩ (k ⊕⟨ w ⟩ bound_expr w e) ≤ k ⊕⟨ w ⟩ selector_form w (layer.Index at e)
of_index by_size k at e = omega arith
of_index by_depth k at e = omega arith
of_index (by_distance far) k at e = omega arith

pub of_selectors : (w : Way) (d : Designator-F Expr Selector Designator Item)
    → base w ⊕⟨ w ⟩ total_of w (map (bound_selector w) d.selectors) ≤ node w ⊕⟨ w ⟩ designator_form w d
of_selectors by_size d = omega arith
of_selectors by_depth d = omega arith
of_selectors (by_distance far) d = omega (arith, all_as_far far d.selectors)

-- ---- statements

abbrev pub bound_stmt : Way → Stmt → ℕ
bound_stmt by_size = size_stmt
bound_stmt by_depth = depth_stmt
bound_stmt (by_distance level) = λ x. level

abbrev pub bound_rest : Way → Rest → ℕ
bound_rest by_size = size_rest
bound_rest by_depth = depth_rest
bound_rest (by_distance level) = λ x. level

abbrev pub bound_arm : Way → Arm → ℕ
bound_arm by_size = size_arm
bound_arm by_depth = depth_arm
bound_arm (by_distance level) = λ x. level

abbrev pub bound_stmts : Way → List Stmt → ℕ
bound_stmts w xs = total_of w (map (bound_stmt w) xs)

abbrev pub stmt_form : Way → Stmt-F Rest Stmt Arm → ℕ
stmt_form by_size y = size.stmt_layer (sized.sizes_stmt y)
stmt_form by_depth y = nesting.stmt_layer (deep.depths_stmt y)
stmt_form (by_distance level) y = level

abbrev pub rest_form : Way → Rest-F Rest Stmt Arm → ℕ
rest_form by_size y = size.rest_layer (sized.sizes_rest y)
rest_form by_depth y = nesting.rest_layer (deep.depths_rest y)
rest_form (by_distance level) y = level

abbrev pub arm_form : Way → Arm-F Rest Stmt Arm → ℕ
arm_form by_size y = size.arm_layer (sized.sizes_arm y)
arm_form by_depth y = nesting.arm_layer (deep.depths_arm y)
arm_form (by_distance level) y = level

pub stmt_opened : (w : Way) (x : Stmt) (y : Stmt-F Rest Stmt Arm) → out-Stmt x ≡ y → bound_stmt w x ≡ stmt_form w y
stmt_opened by_size x y h = sized.at_stmt x y h
stmt_opened by_depth x y h = deep.at_stmt x y h
stmt_opened (by_distance level) x y h = refl

pub rest_opened : (w : Way) (x : Rest) (y : Rest-F Rest Stmt Arm) → out-Rest x ≡ y → bound_rest w x ≡ rest_form w y
rest_opened by_size x y h = sized.at_rest x y h
rest_opened by_depth x y h = deep.at_rest x y h
rest_opened (by_distance level) x y h = refl

pub arm_opened : (w : Way) (x : Arm) (y : Arm-F Rest Stmt Arm) → out-Arm x ≡ y → bound_arm w x ≡ arm_form w y
arm_opened by_size x y h = sized.at_arm x y h
arm_opened by_depth x y h = deep.at_arm x y h
arm_opened (by_distance level) x y h = refl

pub of_return : (w : Way) (at : Pos) (e : Option Expr) → node w ⊕⟨ w ⟩ bound_if w e ≤ stmt_form w (rlayer.Return at e)
of_return by_size at None = omega arith
of_return by_size at (Some e) = omega arith
of_return by_depth at None = omega arith
of_return by_depth at (Some e) = omega arith
of_return (by_distance far) at None = omega arith
of_return (by_distance far) at (Some e) = omega arith

pub of_assign : (w : Way) (d : Designator) (e : Expr) → node w ⊕⟨ w ⟩ bound_designator w d ⊕⟨ w ⟩ bound_expr w e
    ≤ stmt_form w (rlayer.Assign d e)
of_assign by_size d e = omega arith
of_assign by_depth d e = omega arith
of_assign (by_distance far) d e = omega arith

pub of_plain_call : (w : Way) (d : Designator)
    → node w ⊕⟨ w ⟩ (node w ⊕⟨ w ⟩ bound_designator w d ⊕⟨ w ⟩ arguments w []) ≤ stmt_form w (rlayer.Call d None)
of_plain_call by_size d = omega arith
of_plain_call by_depth d = omega arith
of_plain_call (by_distance far) d = omega arith

pub of_call_with : (w : Way) (d : Designator) (es : List Expr)
    → node w ⊕⟨ w ⟩ (node w ⊕⟨ w ⟩ bound_designator w d ⊕⟨ w ⟩ bound_arguments w es) ≤ stmt_form w
    (rlayer.Call d (Some es))
of_call_with by_size d es = omega (arith, sized.arguments_map es)
of_call_with by_depth d es = omega (arith, deep.arguments_map es)
of_call_with (by_distance far) d es = omega (arith, arguments_as_far far es)

pub of_if : (w : Way) (c : Expr) (body : List Stmt) (rest : Rest)
    → in_if w (bound_expr w c ⊕⟨ w ⟩ bound_stmts w body ⊕⟨ w ⟩ bound_rest w rest) ≤ stmt_form w (rlayer.If c body rest)
of_if by_size c body rest = omega arith
of_if by_depth c body rest = omega arith
of_if (by_distance far) c body rest = omega (arith, all_as_far far body)

pub of_case : (w : Way) (e : Expr) (arms : List Arm)
    → in_case w (bound_expr w e ⊕⟨ w ⟩ total_of w (map (bound_arm w) arms) ⊕⟨ w ⟩ 0) ≤ stmt_form w
    (rlayer.Case e arms None)
of_case by_size e arms = omega arith
of_case by_depth e arms = omega arith
of_case (by_distance far) e arms = omega (arith, all_as_far far arms)

pub of_case_else : (w : Way) (e : Expr) (arms : List Arm) (body : List Stmt)
    → in_case w (bound_expr w e ⊕⟨ w ⟩ total_of w (map (bound_arm w) arms) ⊕⟨ w ⟩ bound_stmts w body) ≤ stmt_form w
    (rlayer.Case e arms (Some body))
of_case_else by_size e arms body = omega arith
of_case_else by_depth e arms body = omega arith
of_case_else (by_distance far) e arms body = omega (arith, all_as_far far arms, all_as_far far body)

pub of_while : (w : Way) (c : Expr) (body : List Stmt) → in_loop w (bound_expr w c ⊕⟨ w ⟩ bound_stmts w body)
    ≤ stmt_form w (rlayer.While c body)
of_while by_size c body = omega arith
of_while by_depth c body = omega arith
of_while (by_distance far) c body = omega (arith, all_as_far far body)

pub of_repeat : (w : Way) (body : List Stmt) (c : Expr) → in_if w (bound_stmts w body ⊕⟨ w ⟩ bound_expr w c) ≤ stmt_form
    w (rlayer.Repeat body c)
of_repeat by_size body c = omega arith
of_repeat by_depth body c = omega arith
of_repeat (by_distance far) body c = omega (arith, all_as_far far body)

pub of_loop : (w : Way) (body : List Stmt) → in_loop w (bound_stmts w body) ≤ stmt_form w (rlayer.Loop body)
of_loop by_size body = omega arith
of_loop by_depth body = omega arith
of_loop (by_distance far) body = omega (arith, all_as_far far body)

pub of_exit : (w : Way) (at : Pos) → node w ≤ stmt_form w (rlayer.Exit at)
of_exit by_size at = omega arith
of_exit by_depth at = omega arith
of_exit (by_distance far) at = omega arith

pub of_for : (w : Way) (name : Ident) (start limit : Expr) (by : Option Expr) (body : List Stmt)
    → in_loop w (control_base w ⊕⟨ w ⟩ bound_expr w start ⊕⟨ w ⟩ bound_expr w limit ⊕⟨ w ⟩ bound_stmts w body)
    ≤ stmt_form w (rlayer.For name start limit by body)
of_for by_size name start limit by body = omega arith
of_for by_depth name start limit by body = omega arith
of_for (by_distance far) name start limit by body = omega (arith, all_as_far far body)

pub of_with : (w : Way) (d : Designator) (body : List Stmt)
    → node w ⊕⟨ w ⟩ bound_designator w d ⊕⟨ w ⟩ bound_stmts w body ≤ stmt_form w (rlayer.With d body)
of_with by_size d body = omega arith
of_with by_depth d body = omega arith
of_with (by_distance far) d body = omega (arith, all_as_far far body)

pub of_elsif : (w : Way) (c : Expr) (body : List Stmt) (rest : Rest)
    → in_if w (bound_expr w c ⊕⟨ w ⟩ bound_stmts w body ⊕⟨ w ⟩ bound_rest w rest) ≤ rest_form w
    (rlayer.Elsif c body rest)
of_elsif by_size c body rest = omega arith
of_elsif by_depth c body rest = omega arith
of_elsif (by_distance far) c body rest = omega (arith, all_as_far far body)

pub of_else : (w : Way) (body : List Stmt) → bound_stmts w body ≤ rest_form w (rlayer.Else (Some body))
of_else by_size body = omega arith
of_else by_depth body = omega arith
of_else (by_distance far) body = omega (arith, all_as_far far body)

pub of_arm : (w : Way) (a : Arm-F Rest Stmt Arm) → labels w (0 + sum_of size_label a.labels) ⊕⟨ w ⟩ bound_stmts w a.body
    ≤ arm_form w a
of_arm by_size a = omega arith
of_arm by_depth a = omega arith
of_arm (by_distance far) a = omega (arith, all_as_far far a.body)
