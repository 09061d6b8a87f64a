-- The nesting of trees, by their variants.
use Rattle.std.proofs.Common.{◌≡◌, ℕ, ◌+◌, List, [], ◌∷◌, Option, Some, None, refl, ap, ◌∙◌}
use Rattle.std.specs.Prelude.{map}
use Rattle.m2_tree.specs.declared.name.Ident.{Ident}
use Rattle.m2_tree.specs.declared.pos.Pos.{Pos}
use Rattle.m2_tree.specs.declared.expr.Sign.{Sign}
use Rattle.m2_tree.specs.declared.expr.AddOp.{AddOp}
use Rattle.m2_tree.specs.declared.expr.MulOp.{MulOp}
use Rattle.m2_tree.specs.declared.expr.RelOp.{RelOp}
use Rattle.m2_tree.specs.declared.expr.Operator.{Operator}
use Rattle.m2_tree.specs.declared.expr.Expr.{Expr, Expr-F, out-Expr, map-Expr, fold_out-Expr}
use Rattle.m2_tree.specs.declared.expr.Expr.TheOpen as layer
use Rattle.m2_tree.specs.declared.expr.Expr.TheVariants as e
use Rattle.m2_tree.specs.declared.expr.Expr.TheVariants.{outs-Number, outs-Char, outs-Text, outs-Set, outs-Not, outs-Bracketed, outs-Use, outs-Term, outs-Sum, outs-Relation}
use Rattle.m2_tree.specs.declared.expr.Selector.{Selector, Selector-F, out-Selector, map-Selector, fold_out-Selector}
use Rattle.m2_tree.specs.declared.expr.Selector.TheVariants as sel
use Rattle.m2_tree.specs.declared.expr.Selector.TheVariants.{outs-Field, outs-Index}
use Rattle.m2_tree.specs.declared.expr.Designator.{Designator, Designator-F, out-Designator, roll-Designator, out-roll-Designator, map-Designator, fold_out-Designator}
use Rattle.m2_tree.specs.declared.expr.Item.{Item}
use Rattle.m2_tree.specs.declared.stmt.Rest.{Rest, Rest-F, out-Rest, map-Rest, fold_out-Rest}
use Rattle.m2_tree.specs.declared.stmt.Rest.TheOpen as rlayer
use Rattle.m2_tree.specs.declared.stmt.Rest.TheVariants as rest
use Rattle.m2_tree.specs.declared.stmt.Rest.TheVariants.{outs-Elsif, outs-Else}
use Rattle.m2_tree.specs.declared.stmt.Stmt.{Stmt, Stmt-F, out-Stmt, map-Stmt, fold_out-Stmt}
use Rattle.m2_tree.specs.declared.stmt.Stmt.TheVariants as s
use Rattle.m2_tree.specs.declared.stmt.Stmt.TheVariants.{outs-Assign, outs-Call, outs-If, outs-Case, outs-While, outs-Repeat, outs-Loop, outs-Exit, outs-Return, outs-For, outs-With}
use Rattle.m2_tree.specs.declared.stmt.Arm.{Arm, Arm-F, out-Arm, roll-Arm, out-roll-Arm, map-Arm, fold_out-Arm}
use Rattle.m2_tree.specs.declared.decl.Constant.{Constant}
use Rattle.m2_tree.specs.declared.decl.TypeDecl.{TypeDecl}
use Rattle.m2_tree.specs.declared.decl.Variables.{Variables}
use Rattle.m2_tree.specs.declared.decl.Heading.{Heading}
use Rattle.m2_tree.specs.declared.decl.Decl.{Decl, Decl-F, out-Decl, map-Decl, fold_out-Decl}
use Rattle.m2_tree.specs.declared.decl.Decl.TheOpen as dlayer
use Rattle.m2_tree.specs.declared.decl.Decl.TheVariants as decl
use Rattle.m2_tree.specs.declared.decl.Decl.TheVariants.{outs-Constants, outs-Types, outs-Variables}
use Rattle.m2_tree.specs.declared.decl.Decl.TheVariants.{outs-Procedure as outs-Body}
use Rattle.m2_tree.specs.declared.decl.Block.{Block, Block-F, out-Block, roll-Block, out-roll-Block, map-Block, fold_out-Block}
use Rattle.law_encoding.specs.Nesting.{◌⊔◌, deepest_of, deepest, case_levels, if_levels, loop_levels, expr_layer, selector_layer, designator_layer, item_layer, depth_expr, depth_selector, depth_designator, depth_item, depth_if, depth_argument, depth_arguments, rest_layer, stmt_layer, arm_layer, depth_stmt, depth_rest, depth_arm, depth_stmts, depth_stmts_if, decl_layer, block_layer, depth_decl, depth_block}
use Rattle.law_encoding.proofs.Deepest.{deepest_map}

-- ---- expressions

abbrev pub depths_expr : Expr-F Expr Selector Designator Item → Expr-F ℕ ℕ ℕ ℕ
depths_expr x = map-Expr Expr Selector Designator Item ℕ ℕ ℕ ℕ depth_expr depth_selector depth_designator depth_item x

abbrev pub depths_selector : Selector-F Expr Selector Designator Item → Selector-F ℕ ℕ ℕ ℕ
depths_selector x = map-Selector Expr Selector Designator Item ℕ ℕ ℕ ℕ depth_expr depth_selector depth_designator
    depth_item x

abbrev pub depths_designator : Designator-F Expr Selector Designator Item → Designator-F ℕ ℕ ℕ ℕ
depths_designator x = map-Designator Expr Selector Designator Item ℕ ℕ ℕ ℕ depth_expr depth_selector depth_designator
    depth_item x

pub at : (x : Expr) (y : Expr-F Expr Selector Designator Item) → out-Expr x ≡ y
    → depth_expr x ≡ expr_layer (depths_expr y)
unfolding depth_expr depth_selector depth_designator depth_item
at x y q = fold_out-Expr ℕ ℕ ℕ ℕ expr_layer selector_layer designator_layer item_layer x
    ∙ ap (λ (z : Expr-F Expr Selector Designator Item). expr_layer (depths_expr z)) q

pub at_selector : (x : Selector) (y : Selector-F Expr Selector Designator Item) → out-Selector x ≡ y
    → depth_selector x ≡ selector_layer (depths_selector y)
unfolding depth_expr depth_selector depth_designator depth_item
at_selector x y q = fold_out-Selector ℕ ℕ ℕ ℕ expr_layer selector_layer designator_layer item_layer x
    ∙ ap (λ (z : Selector-F Expr Selector Designator Item). selector_layer (depths_selector z)) q

pub at_designator : (x : Designator) (y : Designator-F Expr Selector Designator Item) → out-Designator x ≡ y
    → depth_designator x ≡ designator_layer (depths_designator y)
unfolding depth_expr depth_selector depth_designator depth_item
at_designator x y q = fold_out-Designator ℕ ℕ ℕ ℕ expr_layer selector_layer designator_layer item_layer x
    ∙ ap (λ (z : Designator-F Expr Selector Designator Item). designator_layer (depths_designator z)) q

pub number_depth : (p : Pos) (n : ℕ) → depth_expr (e.Number p n) ≡ 1
number_depth p n = at (e.Number p n) (layer.Number p n) (outs-Number p n)

pub char_depth : (p : Pos) (n : ℕ) → depth_expr (e.Char p n) ≡ 1
char_depth p n = at (e.Char p n) (layer.Char p n) (outs-Char p n)

pub text_depth : (p : Pos) (t : List ℕ) → depth_expr (e.Text p t) ≡ 1
text_depth p t = at (e.Text p t) (layer.Text p t) (outs-Text p t)

pub set_depth : (name : Option Ident) (p : Pos) (items : List Item) → depth_expr (e.Set name p items) ≡ 1
set_depth name p items = at (e.Set name p items) (layer.Set name p items) (outs-Set name p items)

pub not_depth : (p : Pos) (x : Expr) → depth_expr (e.Not p x) ≡ 1 ⊔ depth_expr x
not_depth p x = at (e.Not p x) (layer.Not p x) (outs-Not p x)

pub bracketed_depth : (p : Pos) (x : Expr) → depth_expr (e.Bracketed p x) ≡ depth_expr x
bracketed_depth p x = at (e.Bracketed p x) (layer.Bracketed p x) (outs-Bracketed p x)

pub arguments_map : (es : List Expr) → deepest_of (λ n. 1 ⊔ n) (map depth_expr es) ≡ deepest_of depth_argument es
arguments_map [] = refl
arguments_map (x ∷ es) = ap (λ n. 1 ⊔ depth_expr x ⊔ n) (arguments_map es)

pub use_depth : (d : Designator) (args : Option (List Expr))
    → depth_expr (e.Use d args) ≡ 1 ⊔ depth_designator d ⊔ depth_arguments args
use_depth d None = at (e.Use d None) (layer.Use d None) (outs-Use d None)
use_depth d (Some es) = at (e.Use d (Some es)) (layer.Use d (Some es)) (outs-Use d (Some es))
    ∙ ap (λ n. 1 ⊔ depth_designator d ⊔ (1 ⊔ n)) (arguments_map es)

-- an operator with its second operand
abbrev pub depth_operand : {O : Type 0} → O × Expr → ℕ
depth_operand p = 1 + depth_expr p.1

operands_map : {O : Type 0} (ps : List (O × Expr))
    → deepest_of (λ (p : O × ℕ). 1 + p.1) (map (λ (p : O × Expr). (p.0, depth_expr p.1)) ps)
    ≡ deepest_of depth_operand ps
operands_map [] = refl
operands_map (p ∷ ps) = ap (λ n. (1 + depth_expr p.1) ⊔ n) (operands_map ps)

pub term_depth : (x : Expr) (ps : List (Operator MulOp × Expr))
    → depth_expr (e.Term x ps) ≡ depth_expr x ⊔ deepest_of depth_operand ps
term_depth x ps = at (e.Term x ps) (layer.Term x ps) (outs-Term x ps) ∙ ap (λ n. depth_expr x ⊔ n) (operands_map ps)

pub sum_depth : (o : Option (Operator Sign)) (x : Expr) (ps : List (Operator AddOp × Expr))
    → depth_expr (e.Sum o x ps) ≡ 1 ⊔ depth_expr x ⊔ deepest_of depth_operand ps
sum_depth o x ps = at (e.Sum o x ps) (layer.Sum o x ps) (outs-Sum o x ps)
    ∙ ap (λ n. 1 ⊔ depth_expr x ⊔ n) (operands_map ps)

pub relation_depth : (x : Expr) (o : Operator RelOp) (y : Expr)
    → depth_expr (e.Relation x o y) ≡ 1 ⊔ depth_expr x ⊔ (1 + depth_expr y)
relation_depth x o y = at (e.Relation x o y) (layer.Relation x o y) (outs-Relation x o y)

pub field_selector_depth : (p : Pos) (name : Ident) → depth_selector (sel.Field p name) ≡ 1
field_selector_depth p name = at_selector (sel.Field p name) _ (outs-Field p name)

pub index_depth : (p : Pos) (x : Expr) → depth_selector (sel.Index p x) ≡ 1 ⊔ depth_expr x
index_depth p x = at_selector (sel.Index p x) _ (outs-Index p x)

pub designator_depth : (name : Ident) (xs : List Selector)
    → depth_designator (roll-Designator (record { name = name; selectors = xs })) ≡ 1 ⊔ deepest_of depth_selector xs
designator_depth name xs =
    at_designator (roll-Designator (record { name = name; selectors = xs })) (record { name = name; selectors = xs })
    (out-roll-Designator (record { name = name; selectors = xs }))
    ∙ ap (λ n. 1 ⊔ n) (deepest_map depth_selector xs)

-- ---- statements

abbrev pub depths_stmt : Stmt-F Rest Stmt Arm → Stmt-F ℕ ℕ ℕ
depths_stmt x = map-Stmt Rest Stmt Arm ℕ ℕ ℕ depth_rest depth_stmt depth_arm x

abbrev pub depths_rest : Rest-F Rest Stmt Arm → Rest-F ℕ ℕ ℕ
depths_rest x = map-Rest Rest Stmt Arm ℕ ℕ ℕ depth_rest depth_stmt depth_arm x

abbrev pub depths_arm : Arm-F Rest Stmt Arm → Arm-F ℕ ℕ ℕ
depths_arm x = map-Arm Rest Stmt Arm ℕ ℕ ℕ depth_rest depth_stmt depth_arm x

pub at_stmt : (x : Stmt) (y : Stmt-F Rest Stmt Arm) → out-Stmt x ≡ y → depth_stmt x ≡ stmt_layer (depths_stmt y)
unfolding depth_stmt depth_rest depth_arm
at_stmt x y q = fold_out-Stmt ℕ ℕ ℕ rest_layer stmt_layer arm_layer x
    ∙ ap (λ (z : Stmt-F Rest Stmt Arm). stmt_layer (depths_stmt z)) q

pub at_rest : (x : Rest) (y : Rest-F Rest Stmt Arm) → out-Rest x ≡ y → depth_rest x ≡ rest_layer (depths_rest y)
unfolding depth_stmt depth_rest depth_arm
at_rest x y q = fold_out-Rest ℕ ℕ ℕ rest_layer stmt_layer arm_layer x
    ∙ ap (λ (z : Rest-F Rest Stmt Arm). rest_layer (depths_rest z)) q

pub at_arm : (x : Arm) (y : Arm-F Rest Stmt Arm) → out-Arm x ≡ y → depth_arm x ≡ arm_layer (depths_arm y)
unfolding depth_stmt depth_rest depth_arm
at_arm x y q = fold_out-Arm ℕ ℕ ℕ rest_layer stmt_layer arm_layer x
    ∙ ap (λ (z : Arm-F Rest Stmt Arm). arm_layer (depths_arm z)) q

pub assign_depth : (d : Designator) (x : Expr) → depth_stmt (s.Assign d x) ≡ 1 ⊔ depth_designator d ⊔ depth_expr x
assign_depth d x = at_stmt (s.Assign d x) (rlayer.Assign d x) (outs-Assign d x)

pub call_depth : (d : Designator) (args : Option (List Expr))
    → depth_stmt (s.Call d args) ≡ 1 ⊔ depth_designator d ⊔ depth_arguments args
call_depth d args = at_stmt (s.Call d args) (rlayer.Call d args) (outs-Call d args)

pub if_depth : (x : Expr) (body : List Stmt) (others : Rest)
    → depth_stmt (s.If x body others) ≡ if_levels + (depth_expr x ⊔ depth_stmts body ⊔ depth_rest others)
if_depth x body others = at_stmt (s.If x body others) (rlayer.If x body others) (outs-If x body others)
    ∙ ap (λ n. if_levels + (depth_expr x ⊔ n ⊔ depth_rest others)) (deepest_map depth_stmt body)

pub case_depth : (x : Expr) (arms : List Arm) (others : Option (List Stmt))
    → depth_stmt (s.Case x arms others) ≡ case_levels +
    (depth_expr x ⊔ deepest_of depth_arm arms ⊔ depth_stmts_if others)
case_depth x arms None = at_stmt (s.Case x arms None) (rlayer.Case x arms None) (outs-Case x arms None)
    ∙ ap (λ n. case_levels + (depth_expr x ⊔ n ⊔ 0)) (deepest_map depth_arm arms)
case_depth x arms (Some ys) =
    at_stmt (s.Case x arms (Some ys)) (rlayer.Case x arms (Some ys)) (outs-Case x arms (Some ys))
    ∙ ap (λ n. case_levels + (depth_expr x ⊔ n ⊔ deepest (map depth_stmt ys))) (deepest_map depth_arm arms)
    ∙ ap (λ n. case_levels + (depth_expr x ⊔ deepest_of depth_arm arms ⊔ n)) (deepest_map depth_stmt ys)

pub while_depth : (x : Expr) (body : List Stmt)
    → depth_stmt (s.While x body) ≡ loop_levels + (depth_expr x ⊔ depth_stmts body)
while_depth x body = at_stmt (s.While x body) (rlayer.While x body) (outs-While x body)
    ∙ ap (λ n. loop_levels + (depth_expr x ⊔ n)) (deepest_map depth_stmt body)

pub repeat_depth : (body : List Stmt) (x : Expr)
    → depth_stmt (s.Repeat body x) ≡ if_levels + (depth_stmts body ⊔ depth_expr x)
repeat_depth body x = at_stmt (s.Repeat body x) (rlayer.Repeat body x) (outs-Repeat body x)
    ∙ ap (λ n. if_levels + (n ⊔ depth_expr x)) (deepest_map depth_stmt body)

pub loop_depth : (body : List Stmt) → depth_stmt (s.Loop body) ≡ loop_levels + (depth_stmts body)
loop_depth body = at_stmt (s.Loop body) (rlayer.Loop body) (outs-Loop body)
    ∙ ap (λ n. loop_levels + (n)) (deepest_map depth_stmt body)

pub exit_depth : (p : Pos) → depth_stmt (s.Exit p) ≡ 1
exit_depth p = at_stmt (s.Exit p) (rlayer.Exit p) (outs-Exit p)

pub return_depth : (p : Pos) (x : Option Expr) → depth_stmt (s.Return p x) ≡ 1 ⊔ depth_if x
return_depth p x = at_stmt (s.Return p x) (rlayer.Return p x) (outs-Return p x)

pub for_depth : (name : Ident) (start limit : Expr) (by : Option Expr) (body : List Stmt)
    → depth_stmt (s.For name start limit by body)
    ≡ loop_levels + (1 ⊔ depth_expr start ⊔ depth_expr limit ⊔ depth_stmts body)
for_depth name start limit by body =
    at_stmt (s.For name start limit by body) (rlayer.For name start limit by body) (outs-For name start limit by body)
    ∙ ap (λ n. loop_levels + (1 ⊔ depth_expr start ⊔ depth_expr limit ⊔ n)) (deepest_map depth_stmt body)

pub with_depth : (d : Designator) (body : List Stmt)
    → depth_stmt (s.With d body) ≡ 1 ⊔ depth_designator d ⊔ depth_stmts body
with_depth d body = at_stmt (s.With d body) (rlayer.With d body) (outs-With d body)
    ∙ ap (λ n. 1 ⊔ depth_designator d ⊔ n) (deepest_map depth_stmt body)

pub elsif_depth : (x : Expr) (body : List Stmt) (others : Rest)
    → depth_rest (rest.Elsif x body others) ≡ if_levels + (depth_expr x ⊔ depth_stmts body ⊔ depth_rest others)
elsif_depth x body others = at_rest (rest.Elsif x body others) (rlayer.Elsif x body others) (outs-Elsif x body others)
    ∙ ap (λ n. if_levels + (depth_expr x ⊔ n ⊔ depth_rest others)) (deepest_map depth_stmt body)

pub else_depth : (body : Option (List Stmt)) → depth_rest (rest.Else body) ≡ depth_stmts_if body
else_depth None = at_rest (rest.Else None) (rlayer.Else None) (outs-Else None)
else_depth (Some xs) = at_rest (rest.Else (Some xs)) (rlayer.Else (Some xs)) (outs-Else (Some xs))
    ∙ deepest_map depth_stmt xs

pub arm_depth : (labels : List Item) (body : List Stmt)
    → depth_arm (roll-Arm (record { labels = labels; body = body })) ≡ depth_stmts body
arm_depth labels body =
    at_arm (roll-Arm (record { labels = labels; body = body })) (record { labels = labels; body = body })
    (out-roll-Arm (record { labels = labels; body = body }))
    ∙ deepest_map depth_stmt body

-- ---- declarations

abbrev pub depths_decl : Decl-F Decl Block → Decl-F ℕ ℕ
depths_decl x = map-Decl Decl Block ℕ ℕ depth_decl depth_block x

abbrev pub depths_block : Block-F Decl Block → Block-F ℕ ℕ
depths_block x = map-Block Decl Block ℕ ℕ depth_decl depth_block x

pub at_decl : (d : Decl) (x : Decl-F Decl Block) → out-Decl d ≡ x → depth_decl d ≡ decl_layer (depths_decl x)
unfolding depth_decl depth_block
at_decl d x q = fold_out-Decl ℕ ℕ decl_layer block_layer d
    ∙ ap (λ (y : Decl-F Decl Block). decl_layer (depths_decl y)) q

pub at_block : (b : Block) (x : Block-F Decl Block) → out-Block b ≡ x → depth_block b ≡ block_layer (depths_block x)
unfolding depth_decl depth_block
at_block b x q = fold_out-Block ℕ ℕ decl_layer block_layer b
    ∙ ap (λ (y : Block-F Decl Block). block_layer (depths_block y)) q

pub constants_depth : (cs : List Constant) → depth_decl (decl.Constants cs) ≡ 0
constants_depth cs = at_decl (decl.Constants cs) (dlayer.Constants cs) (outs-Constants cs)

pub types_depth : (ts : List TypeDecl) → depth_decl (decl.Types ts) ≡ 0
types_depth ts = at_decl (decl.Types ts) (dlayer.Types ts) (outs-Types ts)

pub variables_depth : (vs : List Variables) → depth_decl (decl.Variables vs) ≡ 0
variables_depth vs = at_decl (decl.Variables vs) (dlayer.Variables vs) (outs-Variables vs)

pub body_depth : (x : Heading) (b : Block) → depth_decl (decl.Procedure x b) ≡ depth_block b
body_depth x b = at_decl (decl.Procedure x b) (dlayer.Procedure x b) (outs-Body x b)

pub block_depth : (ds : List Decl) (body : Option (List Stmt))
    → depth_block (roll-Block (record { decls = ds; body = body })) ≡ deepest_of depth_decl ds ⊔ depth_stmts_if body
block_depth ds body =
    at_block (roll-Block (record { decls = ds; body = body })) (record { decls = ds; body = body })
    (out-roll-Block (record { decls = ds; body = body }))
    ∙ ap (λ n. n ⊔ depth_stmts_if body) (deepest_map depth_decl ds)
