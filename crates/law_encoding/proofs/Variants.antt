-- The sizes of trees, by their variants.
use Rattle.std.proofs.Common.{◌≡◌, ℕ, ◌+◌, List, [], ◌∷◌, length, Option, Some, None, refl, ap, ◌∙◌}
use Rattle.std.specs.Prelude.{map}
use Rattle.m2_tree.specs.declared.name.Ident.{Ident}
use Rattle.m2_tree.specs.declared.pos.Pos.{Pos}
use Rattle.m2_tree.specs.declared.expr.Sign.{Sign}
use Rattle.m2_tree.specs.declared.expr.AddOp.{AddOp}
use Rattle.m2_tree.specs.declared.expr.MulOp.{MulOp}
use Rattle.m2_tree.specs.declared.expr.RelOp.{RelOp}
use Rattle.m2_tree.specs.declared.expr.Operator.{Operator}
use Rattle.m2_tree.specs.declared.expr.Qualified.{Qualified}
use Rattle.m2_tree.specs.declared.expr.Expr.{Expr, Expr-F, out-Expr, map-Expr, fold_out-Expr}
use Rattle.m2_tree.specs.declared.expr.Expr.TheOpen as layer
use Rattle.m2_tree.specs.declared.expr.Expr.TheVariants as e
use Rattle.m2_tree.specs.declared.expr.Expr.TheVariants.{outs-Number, outs-Char, outs-Text, outs-Set, outs-Not, outs-Bracketed, outs-Use, outs-Term, outs-Sum, outs-Relation}
use Rattle.m2_tree.specs.declared.expr.Selector.{Selector, Selector-F, out-Selector, map-Selector, fold_out-Selector}
use Rattle.m2_tree.specs.declared.expr.Selector.TheVariants as sel
use Rattle.m2_tree.specs.declared.expr.Selector.TheVariants.{outs-Field, outs-Index}
use Rattle.m2_tree.specs.declared.expr.Designator.{Designator, Designator-F, out-Designator, roll-Designator, out-roll-Designator, map-Designator, fold_out-Designator}
use Rattle.m2_tree.specs.declared.expr.Item.{Item, Item-F, out-Item, roll-Item, out-roll-Item, map-Item, fold_out-Item}
use Rattle.m2_tree.specs.declared.stmt.Rest.{Rest, Rest-F, out-Rest, map-Rest, fold_out-Rest}
use Rattle.m2_tree.specs.declared.stmt.Rest.TheOpen as rlayer
use Rattle.m2_tree.specs.declared.stmt.Rest.TheVariants as rest
use Rattle.m2_tree.specs.declared.stmt.Rest.TheVariants.{outs-Elsif, outs-Else}
use Rattle.m2_tree.specs.declared.stmt.Stmt.{Stmt, Stmt-F, out-Stmt, map-Stmt, fold_out-Stmt}
use Rattle.m2_tree.specs.declared.stmt.Stmt.TheVariants as s
use Rattle.m2_tree.specs.declared.stmt.Stmt.TheVariants.{outs-Assign, outs-Call, outs-If, outs-Case, outs-While, outs-Repeat, outs-Loop, outs-Exit, outs-Return, outs-For, outs-With}
use Rattle.m2_tree.specs.declared.stmt.Arm.{Arm, Arm-F, out-Arm, roll-Arm, out-roll-Arm, map-Arm, fold_out-Arm}
use Rattle.m2_tree.specs.declared.decl.Parameter.{Parameter}
use Rattle.m2_tree.specs.declared.decl.Simple.{Simple}
use Rattle.m2_tree.specs.declared.decl.TypeExpr.{TypeExpr, TypeExpr-F, out-TypeExpr, map-TypeExpr, fold_out-TypeExpr}
use Rattle.m2_tree.specs.declared.decl.TypeExpr.TheOpen as tlayer
use Rattle.m2_tree.specs.declared.decl.TypeExpr.TheVariants as ty
use Rattle.m2_tree.specs.declared.decl.TypeExpr.TheVariants.{outs-Simple, outs-Array, outs-Record, outs-Procedure}
use Rattle.m2_tree.specs.declared.decl.Field.{Field, Field-F, out-Field, roll-Field, out-roll-Field, map-Field, fold_out-Field}
use Rattle.m2_tree.specs.declared.decl.Constant.{Constant}
use Rattle.m2_tree.specs.declared.decl.TypeDecl.{TypeDecl}
use Rattle.m2_tree.specs.declared.decl.Variables.{Variables}
use Rattle.m2_tree.specs.declared.decl.Heading.{Heading}
use Rattle.m2_tree.specs.declared.decl.Decl.{Decl, Decl-F, out-Decl, map-Decl, fold_out-Decl}
use Rattle.m2_tree.specs.declared.decl.Decl.TheOpen as dlayer
use Rattle.m2_tree.specs.declared.decl.Decl.TheVariants as decl
use Rattle.m2_tree.specs.declared.decl.Decl.TheVariants.{outs-Constants, outs-Types, outs-Variables}
use Rattle.m2_tree.specs.declared.decl.Decl.TheVariants.{outs-Procedure as outs-Body}
use Rattle.m2_tree.specs.declared.decl.Block.{Block, Block-F, out-Block, roll-Block, out-roll-Block, map-Block, fold_out-Block}
use Rattle.law_encoding.specs.Sizes.{sum_of, total, expr_layer, selector_layer, designator_layer, item_layer, size_expr, size_selector, size_designator, size_item, size_if, size_argument, size_arguments, rest_layer, stmt_layer, arm_layer, size_stmt, size_rest, size_arm, size_stmts, size_stmts_if, size_simple, type_layer, field_layer, size_type, size_field, size_heading, size_constant, size_type_decl, size_variables, decl_layer, block_layer, size_decl, size_block}
use Rattle.law_encoding.proofs.Sums.{total_map}

-- ---- expressions

abbrev pub sizes_expr : Expr-F Expr Selector Designator Item → Expr-F ℕ ℕ ℕ ℕ
sizes_expr x = map-Expr Expr Selector Designator Item ℕ ℕ ℕ ℕ size_expr size_selector size_designator size_item x

abbrev pub sizes_selector : Selector-F Expr Selector Designator Item → Selector-F ℕ ℕ ℕ ℕ
sizes_selector x = map-Selector Expr Selector Designator Item ℕ ℕ ℕ ℕ size_expr size_selector size_designator size_item
    x

abbrev pub sizes_designator : Designator-F Expr Selector Designator Item → Designator-F ℕ ℕ ℕ ℕ
sizes_designator x = map-Designator Expr Selector Designator Item ℕ ℕ ℕ ℕ size_expr size_selector size_designator
    size_item x

abbrev sizes_item : Item-F Expr Selector Designator Item → Item-F ℕ ℕ ℕ ℕ
sizes_item x = map-Item Expr Selector Designator Item ℕ ℕ ℕ ℕ size_expr size_selector size_designator size_item x

pub at : (x : Expr) (y : Expr-F Expr Selector Designator Item) → out-Expr x ≡ y
    → size_expr x ≡ expr_layer (sizes_expr y)
unfolding size_expr size_selector size_designator size_item
at x y q = fold_out-Expr ℕ ℕ ℕ ℕ expr_layer selector_layer designator_layer item_layer x
    ∙ ap (λ (z : Expr-F Expr Selector Designator Item). expr_layer (sizes_expr z)) q

pub at_selector : (x : Selector) (y : Selector-F Expr Selector Designator Item) → out-Selector x ≡ y
    → size_selector x ≡ selector_layer (sizes_selector y)
unfolding size_expr size_selector size_designator size_item
at_selector x y q = fold_out-Selector ℕ ℕ ℕ ℕ expr_layer selector_layer designator_layer item_layer x
    ∙ ap (λ (z : Selector-F Expr Selector Designator Item). selector_layer (sizes_selector z)) q

pub at_designator : (x : Designator) (y : Designator-F Expr Selector Designator Item) → out-Designator x ≡ y
    → size_designator x ≡ designator_layer (sizes_designator y)
unfolding size_expr size_selector size_designator size_item
at_designator x y q = fold_out-Designator ℕ ℕ ℕ ℕ expr_layer selector_layer designator_layer item_layer x
    ∙ ap (λ (z : Designator-F Expr Selector Designator Item). designator_layer (sizes_designator z)) q

at_item : (x : Item) (y : Item-F Expr Selector Designator Item) → out-Item x ≡ y
    → size_item x ≡ item_layer (sizes_item y)
unfolding size_expr size_selector size_designator size_item
at_item x y q = fold_out-Item ℕ ℕ ℕ ℕ expr_layer selector_layer designator_layer item_layer x
    ∙ ap (λ (z : Item-F Expr Selector Designator Item). item_layer (sizes_item z)) q

pub number_size : (p : Pos) (n : ℕ) → size_expr (e.Number p n) ≡ 1
number_size p n = at (e.Number p n) (layer.Number p n) (outs-Number p n)

pub char_size : (p : Pos) (n : ℕ) → size_expr (e.Char p n) ≡ 1
char_size p n = at (e.Char p n) (layer.Char p n) (outs-Char p n)

pub text_size : (p : Pos) (t : List ℕ) → size_expr (e.Text p t) ≡ 1
text_size p t = at (e.Text p t) (layer.Text p t) (outs-Text p t)

pub set_size : (name : Option Ident) (p : Pos) (items : List Item)
    → size_expr (e.Set name p items) ≡ 1 + sum_of size_item items
set_size name p items = at (e.Set name p items) (layer.Set name p items) (outs-Set name p items)
    ∙ ap (λ n. 1 + n) (total_map size_item items)

pub not_size : (p : Pos) (x : Expr) → size_expr (e.Not p x) ≡ 2 + size_expr x
not_size p x = at (e.Not p x) (layer.Not p x) (outs-Not p x)

pub bracketed_size : (p : Pos) (x : Expr) → size_expr (e.Bracketed p x) ≡ size_expr x
bracketed_size p x = at (e.Bracketed p x) (layer.Bracketed p x) (outs-Bracketed p x)

pub arguments_map : (es : List Expr) → sum_of (λ n. 1 + n) (map size_expr es) ≡ sum_of size_argument es
arguments_map [] = refl
arguments_map (x ∷ es) = ap (λ n. 1 + size_expr x + n) (arguments_map es)

pub use_size : (d : Designator) (args : Option (List Expr))
    → size_expr (e.Use d args) ≡ 1 + size_designator d + size_arguments args
use_size d None = at (e.Use d None) (layer.Use d None) (outs-Use d None)
use_size d (Some es) = at (e.Use d (Some es)) (layer.Use d (Some es)) (outs-Use d (Some es))
    ∙ ap (λ n. 1 + size_designator d + (1 + n)) (arguments_map es)

-- an operator with its second operand
abbrev pub size_operand : {O : Type 0} → O × Expr → ℕ
size_operand p = 2 + size_expr p.1

operands_map : {O : Type 0} (ps : List (O × Expr))
    → sum_of (λ (p : O × ℕ). 2 + p.1) (map (λ (p : O × Expr). (p.0, size_expr p.1)) ps) ≡ sum_of size_operand ps
operands_map [] = refl
operands_map (p ∷ ps) = ap (λ n. 2 + size_expr p.1 + n) (operands_map ps)

pub term_size : (x : Expr) (ps : List (Operator MulOp × Expr))
    → size_expr (e.Term x ps) ≡ size_expr x + sum_of size_operand ps
term_size x ps = at (e.Term x ps) (layer.Term x ps) (outs-Term x ps) ∙ ap (λ n. size_expr x + n) (operands_map ps)

pub sum_size : (o : Option (Operator Sign)) (x : Expr) (ps : List (Operator AddOp × Expr))
    → size_expr (e.Sum o x ps) ≡ 1 + size_expr x + sum_of size_operand ps
sum_size o x ps = at (e.Sum o x ps) (layer.Sum o x ps) (outs-Sum o x ps)
    ∙ ap (λ n. 1 + size_expr x + n) (operands_map ps)

pub relation_size : (x : Expr) (o : Operator RelOp) (y : Expr)
    → size_expr (e.Relation x o y) ≡ 2 + size_expr x + size_expr y
relation_size x o y = at (e.Relation x o y) (layer.Relation x o y) (outs-Relation x o y)

pub field_selector_size : (p : Pos) (name : Ident) → size_selector (sel.Field p name) ≡ 1
field_selector_size p name = at_selector (sel.Field p name) _ (outs-Field p name)

pub index_size : (p : Pos) (x : Expr) → size_selector (sel.Index p x) ≡ 1 + size_expr x
index_size p x = at_selector (sel.Index p x) _ (outs-Index p x)

pub designator_size : (name : Ident) (xs : List Selector)
    → size_designator (roll-Designator (record { name = name; selectors = xs })) ≡ 2 + sum_of size_selector xs
designator_size name xs =
    at_designator (roll-Designator (record { name = name; selectors = xs })) (record { name = name; selectors = xs })
    (out-roll-Designator (record { name = name; selectors = xs }))
    ∙ ap (λ n. 2 + n) (total_map size_selector xs)

pub item_size : (low : Expr) (high : Option Expr)
    → size_item (roll-Item (record { low = low; high = high })) ≡ size_expr low + size_if high
item_size low None = at_item (roll-Item (record { low = low; high = None })) (record { low = low; high = None })
    (out-roll-Item (record { low = low; high = None }))
item_size low (Some x) = at_item (roll-Item (record { low = low; high = Some x })) (record { low = low; high = Some x })
    (out-roll-Item (record { low = low; high = Some x }))

-- ---- statements

abbrev pub sizes_stmt : Stmt-F Rest Stmt Arm → Stmt-F ℕ ℕ ℕ
sizes_stmt x = map-Stmt Rest Stmt Arm ℕ ℕ ℕ size_rest size_stmt size_arm x

abbrev pub sizes_rest : Rest-F Rest Stmt Arm → Rest-F ℕ ℕ ℕ
sizes_rest x = map-Rest Rest Stmt Arm ℕ ℕ ℕ size_rest size_stmt size_arm x

abbrev pub sizes_arm : Arm-F Rest Stmt Arm → Arm-F ℕ ℕ ℕ
sizes_arm x = map-Arm Rest Stmt Arm ℕ ℕ ℕ size_rest size_stmt size_arm x

pub at_stmt : (x : Stmt) (y : Stmt-F Rest Stmt Arm) → out-Stmt x ≡ y → size_stmt x ≡ stmt_layer (sizes_stmt y)
unfolding size_stmt size_rest size_arm
at_stmt x y q = fold_out-Stmt ℕ ℕ ℕ rest_layer stmt_layer arm_layer x
    ∙ ap (λ (z : Stmt-F Rest Stmt Arm). stmt_layer (sizes_stmt z)) q

pub at_rest : (x : Rest) (y : Rest-F Rest Stmt Arm) → out-Rest x ≡ y → size_rest x ≡ rest_layer (sizes_rest y)
unfolding size_stmt size_rest size_arm
at_rest x y q = fold_out-Rest ℕ ℕ ℕ rest_layer stmt_layer arm_layer x
    ∙ ap (λ (z : Rest-F Rest Stmt Arm). rest_layer (sizes_rest z)) q

pub at_arm : (x : Arm) (y : Arm-F Rest Stmt Arm) → out-Arm x ≡ y → size_arm x ≡ arm_layer (sizes_arm y)
unfolding size_stmt size_rest size_arm
at_arm x y q = fold_out-Arm ℕ ℕ ℕ rest_layer stmt_layer arm_layer x
    ∙ ap (λ (z : Arm-F Rest Stmt Arm). arm_layer (sizes_arm z)) q

pub assign_size : (d : Designator) (x : Expr) → size_stmt (s.Assign d x) ≡ 1 + size_designator d + size_expr x
assign_size d x = at_stmt (s.Assign d x) (rlayer.Assign d x) (outs-Assign d x)

pub call_size : (d : Designator) (args : Option (List Expr))
    → size_stmt (s.Call d args) ≡ 2 + size_designator d + size_arguments args
call_size d args = at_stmt (s.Call d args) (rlayer.Call d args) (outs-Call d args)

pub if_size : (x : Expr) (body : List Stmt) (others : Rest)
    → size_stmt (s.If x body others) ≡ 1 + size_expr x + size_stmts body + size_rest others
if_size x body others = at_stmt (s.If x body others) (rlayer.If x body others) (outs-If x body others)
    ∙ ap (λ n. 1 + size_expr x + n + size_rest others) (total_map size_stmt body)

pub case_size : (x : Expr) (arms : List Arm) (others : Option (List Stmt))
    → size_stmt (s.Case x arms others) ≡ 6 + size_expr x + sum_of size_arm arms + size_stmts_if others
case_size x arms None = at_stmt (s.Case x arms None) (rlayer.Case x arms None) (outs-Case x arms None)
    ∙ ap (λ n. 6 + size_expr x + n + 0) (total_map size_arm arms)
case_size x arms (Some ys) =
    at_stmt (s.Case x arms (Some ys)) (rlayer.Case x arms (Some ys)) (outs-Case x arms (Some ys))
    ∙ ap (λ n. 6 + size_expr x + n + total (map size_stmt ys)) (total_map size_arm arms)
    ∙ ap (λ n. 6 + size_expr x + sum_of size_arm arms + n) (total_map size_stmt ys)

pub while_size : (x : Expr) (body : List Stmt) → size_stmt (s.While x body) ≡ 1 + size_expr x + size_stmts body
while_size x body = at_stmt (s.While x body) (rlayer.While x body) (outs-While x body)
    ∙ ap (λ n. 1 + size_expr x + n) (total_map size_stmt body)

pub repeat_size : (body : List Stmt) (x : Expr) → size_stmt (s.Repeat body x) ≡ 1 + size_stmts body + size_expr x
repeat_size body x = at_stmt (s.Repeat body x) (rlayer.Repeat body x) (outs-Repeat body x)
    ∙ ap (λ n. 1 + n + size_expr x) (total_map size_stmt body)

pub loop_size : (body : List Stmt) → size_stmt (s.Loop body) ≡ 1 + size_stmts body
loop_size body = at_stmt (s.Loop body) (rlayer.Loop body) (outs-Loop body) ∙ ap (λ n. 1 + n) (total_map size_stmt body)

pub exit_size : (p : Pos) → size_stmt (s.Exit p) ≡ 1
exit_size p = at_stmt (s.Exit p) (rlayer.Exit p) (outs-Exit p)

pub return_size : (p : Pos) (x : Option Expr) → size_stmt (s.Return p x) ≡ 1 + size_if x
return_size p x = at_stmt (s.Return p x) (rlayer.Return p x) (outs-Return p x)

pub for_size : (name : Ident) (start limit : Expr) (by : Option Expr) (body : List Stmt)
    → size_stmt (s.For name start limit by body) ≡ 9 + size_expr start + size_expr limit + size_if by + size_stmts body
for_size name start limit by body =
    at_stmt (s.For name start limit by body) (rlayer.For name start limit by body) (outs-For name start limit by body)
    ∙ ap (λ n. 9 + size_expr start + size_expr limit + size_if by + n) (total_map size_stmt body)

pub with_size : (d : Designator) (body : List Stmt)
    → size_stmt (s.With d body) ≡ 1 + size_designator d + size_stmts body
with_size d body = at_stmt (s.With d body) (rlayer.With d body) (outs-With d body)
    ∙ ap (λ n. 1 + size_designator d + n) (total_map size_stmt body)

pub elsif_size : (x : Expr) (body : List Stmt) (others : Rest)
    → size_rest (rest.Elsif x body others) ≡ 1 + size_expr x + size_stmts body + size_rest others
elsif_size x body others = at_rest (rest.Elsif x body others) (rlayer.Elsif x body others) (outs-Elsif x body others)
    ∙ ap (λ n. 1 + size_expr x + n + size_rest others) (total_map size_stmt body)

pub else_size : (body : Option (List Stmt)) → size_rest (rest.Else body) ≡ size_stmts_if body
else_size None = at_rest (rest.Else None) (rlayer.Else None) (outs-Else None)
else_size (Some xs) = at_rest (rest.Else (Some xs)) (rlayer.Else (Some xs)) (outs-Else (Some xs))
    ∙ total_map size_stmt xs

-- a label, and the values that it stands for
abbrev pub size_label : Item → ℕ
size_label i = 1 + size_item i

pub arm_size : (labels : List Item) (body : List Stmt)
    → size_arm (roll-Arm (record { labels = labels; body = body })) ≡ 1 + sum_of size_label labels + size_stmts body
arm_size labels body =
    at_arm (roll-Arm (record { labels = labels; body = body })) (record { labels = labels; body = body })
    (out-roll-Arm (record { labels = labels; body = body }))
    ∙ ap (λ n. 1 + sum_of size_label labels + n) (total_map size_stmt body)

-- ---- types

abbrev sizes_type : TypeExpr-F TypeExpr Field → TypeExpr-F ℕ ℕ
sizes_type x = map-TypeExpr TypeExpr Field ℕ ℕ size_type size_field x

abbrev sizes_field : Field-F TypeExpr Field → Field-F ℕ ℕ
sizes_field x = map-Field TypeExpr Field ℕ ℕ size_type size_field x

at_type : (t : TypeExpr) (x : TypeExpr-F TypeExpr Field) → out-TypeExpr t ≡ x → size_type t ≡ type_layer (sizes_type x)
unfolding size_type size_field
at_type t x q = fold_out-TypeExpr ℕ ℕ type_layer field_layer t
    ∙ ap (λ (y : TypeExpr-F TypeExpr Field). type_layer (sizes_type y)) q

at_field : (f : Field) (x : Field-F TypeExpr Field) → out-Field f ≡ x → size_field f ≡ field_layer (sizes_field x)
unfolding size_type size_field
at_field f x q = fold_out-Field ℕ ℕ type_layer field_layer f
    ∙ ap (λ (y : Field-F TypeExpr Field). field_layer (sizes_field y)) q

pub simple_type_size : (t : Simple) → size_type (ty.Simple t) ≡ size_simple t
simple_type_size t = at_type (ty.Simple t) (tlayer.Simple t) (outs-Simple t)

pub array_size : (p : Pos) (i : Simple) (t : TypeExpr) → size_type (ty.Array p i t) ≡ 1 + size_simple i + size_type t
array_size p i t = at_type (ty.Array p i t) (tlayer.Array p i t) (outs-Array p i t)

pub record_size : (p : Pos) (fs : List Field) → size_type (ty.Record p fs) ≡ 1 + sum_of size_field fs
record_size p fs = at_type (ty.Record p fs) (tlayer.Record p fs) (outs-Record p fs)
    ∙ ap (λ n. 1 + n) (total_map size_field fs)

pub procedure_size : (p : Pos) (ps : List Parameter) (of : Option Qualified)
    → size_type (ty.Procedure p ps of) ≡ 1 + length ps
procedure_size p ps of = at_type (ty.Procedure p ps of) (tlayer.Procedure p ps of) (outs-Procedure p ps of)

pub field_size : (names : List Ident) (t : TypeExpr)
    → size_field (roll-Field (record { names = names; of = t })) ≡ length names + size_type t
field_size names t = at_field (roll-Field (record { names = names; of = t })) (record { names = names; of = t })
    (out-roll-Field (record { names = names; of = t }))

-- ---- declarations

abbrev pub sizes_decl : Decl-F Decl Block → Decl-F ℕ ℕ
sizes_decl x = map-Decl Decl Block ℕ ℕ size_decl size_block x

abbrev pub sizes_block : Block-F Decl Block → Block-F ℕ ℕ
sizes_block x = map-Block Decl Block ℕ ℕ size_decl size_block x

pub at_decl : (d : Decl) (x : Decl-F Decl Block) → out-Decl d ≡ x → size_decl d ≡ decl_layer (sizes_decl x)
unfolding size_decl size_block
at_decl d x q = fold_out-Decl ℕ ℕ decl_layer block_layer d ∙ ap (λ (y : Decl-F Decl Block). decl_layer (sizes_decl y)) q

pub at_block : (b : Block) (x : Block-F Decl Block) → out-Block b ≡ x → size_block b ≡ block_layer (sizes_block x)
unfolding size_decl size_block
at_block b x q = fold_out-Block ℕ ℕ decl_layer block_layer b
    ∙ ap (λ (y : Block-F Decl Block). block_layer (sizes_block y)) q

pub constants_size : (cs : List Constant) → size_decl (decl.Constants cs) ≡ sum_of size_constant cs
constants_size cs = at_decl (decl.Constants cs) (dlayer.Constants cs) (outs-Constants cs)

pub types_size : (ts : List TypeDecl) → size_decl (decl.Types ts) ≡ sum_of size_type_decl ts
types_size ts = at_decl (decl.Types ts) (dlayer.Types ts) (outs-Types ts)

pub variables_size : (vs : List Variables) → size_decl (decl.Variables vs) ≡ sum_of size_variables vs
variables_size vs = at_decl (decl.Variables vs) (dlayer.Variables vs) (outs-Variables vs)

pub body_size : (x : Heading) (b : Block) → size_decl (decl.Procedure x b) ≡ 1 + size_heading x + size_block b
body_size x b = at_decl (decl.Procedure x b) (dlayer.Procedure x b) (outs-Body x b)

pub block_size : (ds : List Decl) (body : Option (List Stmt))
    → size_block (roll-Block (record { decls = ds; body = body })) ≡ 1 + sum_of size_decl ds + size_stmts_if body
block_size ds body =
    at_block (roll-Block (record { decls = ds; body = body })) (record { decls = ds; body = body })
    (out-roll-Block (record { decls = ds; body = body }))
    ∙ ap (λ n. 1 + n + size_stmts_if body) (total_map size_decl ds)
