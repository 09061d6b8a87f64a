-- How large trees are. Each part counts its nodes, and some nodes more than once: no part counts
-- more than four for each of
-- its tokens, and what the checker makes of it counts no more than the part.
use Rattle.std.specs.Prelude.{ℕ, ◌+◌, ◌*◌, List, [], ◌∷◌, length, Option, Some, None}
use Rattle.m2_tree.specs.declared.expr.Expr.{Expr, Expr-F, fold-Expr}
use Rattle.m2_tree.specs.declared.expr.Expr.TheOpen as layer
use Rattle.m2_tree.specs.declared.expr.Selector.{Selector, Selector-F, fold-Selector}
use Rattle.m2_tree.specs.declared.expr.Designator.{Designator, Designator-F, fold-Designator}
use Rattle.m2_tree.specs.declared.expr.Item.{Item, Item-F, fold-Item}
use Rattle.m2_tree.specs.declared.stmt.Rest.{Rest, Rest-F, fold-Rest}
use Rattle.m2_tree.specs.declared.stmt.Stmt.{Stmt, Stmt-F, fold-Stmt}
use Rattle.m2_tree.specs.declared.stmt.Rest.TheOpen as rlayer
use Rattle.m2_tree.specs.declared.stmt.Arm.{Arm, Arm-F, fold-Arm}
use Rattle.m2_tree.specs.declared.decl.Simple.{Simple}
use Rattle.m2_tree.specs.declared.decl.Simple.TheVariants as simple
use Rattle.m2_tree.specs.declared.decl.TypeExpr.{TypeExpr, TypeExpr-F, fold-TypeExpr}
use Rattle.m2_tree.specs.declared.decl.TypeExpr.TheOpen as tlayer
use Rattle.m2_tree.specs.declared.decl.Field.{Field, Field-F, fold-Field}
use Rattle.m2_tree.specs.declared.decl.Section.{Section}
use Rattle.m2_tree.specs.declared.decl.Heading.{Heading}
use Rattle.m2_tree.specs.declared.decl.Constant.{Constant}
use Rattle.m2_tree.specs.declared.decl.TypeDecl.{TypeDecl}
use Rattle.m2_tree.specs.declared.decl.Variables.{Variables}
use Rattle.m2_tree.specs.declared.decl.Def.{Def}
use Rattle.m2_tree.specs.declared.decl.Def.TheVariants as def
use Rattle.m2_tree.specs.declared.decl.Decl.{Decl, Decl-F, fold-Decl}
use Rattle.m2_tree.specs.declared.decl.Decl.TheOpen as dlayer
use Rattle.m2_tree.specs.declared.decl.Block.{Block, Block-F, fold-Block}
use Rattle.m2_tree.specs.declared.decl.Import.{Import}
use Rattle.m2_tree.specs.declared.decl.Contents.{Contents}
use Rattle.m2_tree.specs.declared.decl.Contents.TheVariants as contents
use Rattle.m2_tree.specs.declared.decl.Module.{Module}

-- ---- sums

abbrev pub sum_of : {A : Type 0} → (A → ℕ) → List A → ℕ
sum_of f [] = 0
sum_of f (x ∷ xs) = f x + sum_of f xs

abbrev pub total : List ℕ → ℕ
total [] = 0
total (n ∷ ns) = n + total ns

abbrev pub if_there : Option ℕ → ℕ
if_there None = 0
if_there (Some n) = n

abbrev pub all_if_there : Option (List ℕ) → ℕ
all_if_there None = 0
all_if_there (Some ns) = total ns

-- ---- expressions

-- each argument counts one more than its expression, and one more if there is a list
abbrev pub arguments : List ℕ → ℕ
arguments ns = sum_of (λ n. 1 + n) ns

abbrev pub arguments_if : Option (List ℕ) → ℕ
arguments_if None = 0
arguments_if (Some ns) = 1 + arguments ns

-- an operator with its second operand
abbrev pub operand : {O : Type 0} → O × ℕ → ℕ
operand p = 2 + p.1

abbrev pub expr_layer : Expr-F ℕ ℕ ℕ ℕ → ℕ
expr_layer (layer.Number at n) = 1
expr_layer (layer.Char at c) = 1
expr_layer (layer.Text at t) = 1
expr_layer (layer.Set name at items) = 1 + total items
expr_layer (layer.Not at e) = 2 + e
expr_layer (layer.Bracketed at e) = e
expr_layer (layer.Use d args) = 1 + d + arguments_if args
expr_layer (layer.Term e rest) = e + sum_of operand rest
expr_layer (layer.Sum sign e rest) = 1 + e + sum_of operand rest
expr_layer (layer.Relation a o b) = 2 + a + b

abbrev pub selector_layer : Selector-F ℕ ℕ ℕ ℕ → ℕ
selector_layer (layer.Field at name) = 1
selector_layer (layer.Index at e) = 1 + e

-- a name may stand for a field of a record that is open
abbrev pub designator_layer : Designator-F ℕ ℕ ℕ ℕ → ℕ
designator_layer d = 2 + total d.selectors

abbrev pub item_layer : Item-F ℕ ℕ ℕ ℕ → ℕ
item_layer i = i.low + if_there i.high

unfoldable pub size_expr : Expr → ℕ
size_expr = fold-Expr ℕ ℕ ℕ ℕ expr_layer selector_layer designator_layer item_layer

unfoldable pub size_selector : Selector → ℕ
size_selector = fold-Selector ℕ ℕ ℕ ℕ expr_layer selector_layer designator_layer item_layer

unfoldable pub size_designator : Designator → ℕ
size_designator = fold-Designator ℕ ℕ ℕ ℕ expr_layer selector_layer designator_layer item_layer

unfoldable pub size_item : Item → ℕ
size_item = fold-Item ℕ ℕ ℕ ℕ expr_layer selector_layer designator_layer item_layer

abbrev pub size_if : Option Expr → ℕ
size_if None = 0
size_if (Some e) = size_expr e

-- what an argument counts
abbrev pub size_argument : Expr → ℕ
size_argument e = 1 + size_expr e

abbrev pub size_arguments : Option (List Expr) → ℕ
size_arguments None = 0
size_arguments (Some es) = 1 + sum_of size_argument es

-- ---- statements

-- the code of a CASE may have a table, and the code of a FOR has the place of its variable five
-- times
abbrev pub stmt_layer : Stmt-F ℕ ℕ ℕ → ℕ
stmt_layer (rlayer.Assign d e) = 1 + size_designator d + size_expr e
stmt_layer (rlayer.Call d args) = 2 + size_designator d + size_arguments args
stmt_layer (rlayer.If c body rest) = 1 + size_expr c + total body + rest
stmt_layer (rlayer.Case e arms otherwise) = 6 + size_expr e + total arms + all_if_there otherwise
stmt_layer (rlayer.While c body) = 1 + size_expr c + total body
stmt_layer (rlayer.Repeat body c) = 1 + total body + size_expr c
stmt_layer (rlayer.Loop body) = 1 + total body
stmt_layer (rlayer.Exit at) = 1
stmt_layer (rlayer.Return at e) = 1 + size_if e
stmt_layer (rlayer.For name start limit by body) =
    9 + size_expr start + size_expr limit + size_if by + total body
stmt_layer (rlayer.With d body) = 1 + size_designator d + total body

-- an ELSIF is an IF in the ELSE
abbrev pub rest_layer : Rest-F ℕ ℕ ℕ → ℕ
rest_layer (rlayer.Elsif c body rest) = 1 + size_expr c + total body + rest
rest_layer (rlayer.Else body) = all_if_there body

abbrev pub arm_layer : Arm-F ℕ ℕ ℕ → ℕ
arm_layer a = 1 + sum_of (λ i. 1 + size_item i) a.labels + total a.body

unfoldable pub size_stmt : Stmt → ℕ
size_stmt = fold-Stmt ℕ ℕ ℕ rest_layer stmt_layer arm_layer

unfoldable pub size_rest : Rest → ℕ
size_rest = fold-Rest ℕ ℕ ℕ rest_layer stmt_layer arm_layer

unfoldable pub size_arm : Arm → ℕ
size_arm = fold-Arm ℕ ℕ ℕ rest_layer stmt_layer arm_layer

abbrev pub size_stmts : List Stmt → ℕ
size_stmts xs = sum_of size_stmt xs

abbrev pub size_stmts_if : Option (List Stmt) → ℕ
size_stmts_if None = 0
size_stmts_if (Some xs) = size_stmts xs

-- ---- types and declarations

abbrev pub size_simple : Simple → ℕ
size_simple (simple.Named q) = 1
size_simple (simple.Enumeration at names) = 1 + length names
size_simple (simple.Subrange of at low high) = 1 + size_expr low + size_expr high

abbrev pub type_layer : TypeExpr-F ℕ ℕ → ℕ
type_layer (tlayer.Simple t) = size_simple t
type_layer (tlayer.Array at index of) = 1 + size_simple index + of
type_layer (tlayer.Record at fields) = 1 + total fields
type_layer (tlayer.Procedure at formals of) = 1 + length formals

abbrev pub field_layer : Field-F ℕ ℕ → ℕ
field_layer f = length f.names + f.of

unfoldable pub size_type : TypeExpr → ℕ
size_type = fold-TypeExpr ℕ ℕ type_layer field_layer

unfoldable pub size_field : Field → ℕ
size_field = fold-Field ℕ ℕ type_layer field_layer

-- a formal counts twice, in the type of the heading and in the procedure
abbrev pub size_section : Section → ℕ
size_section s = 2 * length s.names

abbrev pub size_heading : Heading → ℕ
size_heading h = 1 + sum_of size_section h.formals

abbrev pub size_constant : Constant → ℕ
size_constant c = 1 + size_expr c.value

abbrev pub size_type_decl : TypeDecl → ℕ
size_type_decl d = 1 + size_type d.of

abbrev pub size_variables : Variables → ℕ
size_variables v = length v.names + size_type v.of

abbrev pub size_def : Def → ℕ
size_def (def.Constants cs) = sum_of size_constant cs
size_def (def.Types ts) = sum_of size_type_decl ts
size_def (def.Variables vs) = sum_of size_variables vs
size_def (def.Procedure h) = 1 + size_heading h

abbrev pub decl_layer : Decl-F ℕ ℕ → ℕ
decl_layer (dlayer.Constants cs) = sum_of size_constant cs
decl_layer (dlayer.Types ts) = sum_of size_type_decl ts
decl_layer (dlayer.Variables vs) = sum_of size_variables vs
decl_layer (dlayer.Procedure h block) = 1 + size_heading h + block

abbrev pub block_layer : Block-F ℕ ℕ → ℕ
block_layer b = 1 + total b.decls + size_stmts_if b.body

unfoldable pub size_decl : Decl → ℕ
size_decl = fold-Decl ℕ ℕ decl_layer block_layer

unfoldable pub size_block : Block → ℕ
size_block = fold-Block ℕ ℕ decl_layer block_layer

abbrev pub size_import : Import → ℕ
size_import i = 1 + length i.names

abbrev pub size_contents : Contents → ℕ
size_contents (contents.Definition defs) = sum_of size_def defs
size_contents (contents.Implementation b) = size_block b
size_contents (contents.Program b) = size_block b

abbrev pub size_module : Module → ℕ
size_module m = 1 + sum_of size_import m.imports + size_contents m.contents
