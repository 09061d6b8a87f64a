-- What the tree of each production is, by its parts.
use Rattle.std.specs.Prelude.{Bool, true, false, ℕ, List, [], ◌∷◌, ◌++◌, map, Option, Some, None, option_map, ◌⊎◌}
use Rattle.std.proofs.Common.{inl, inr}
use Rattle.m2_tree.specs.declared.pos.Pos.{Pos}
use Rattle.m2_tree.specs.declared.name.Ident.{Ident}
use Rattle.m2_tree.specs.declared.token.Lexeme.{Lexeme}
use Rattle.m2_tree.specs.declared.token.Lexeme.TheVariants as lexeme
use Rattle.m2_tree.specs.declared.token.Symbol.TheVariants as sym
use Rattle.m2_tree.specs.declared.token.Token.{Token}
use Rattle.m2_tree.specs.declared.expr.RelOp.{RelOp}
use Rattle.m2_tree.specs.declared.expr.RelOp.TheVariants as rel
use Rattle.m2_tree.specs.declared.expr.Sign.{Sign}
use Rattle.m2_tree.specs.declared.expr.Sign.TheVariants as sign
use Rattle.m2_tree.specs.declared.expr.AddOp.{AddOp}
use Rattle.m2_tree.specs.declared.expr.AddOp.TheVariants as add
use Rattle.m2_tree.specs.declared.expr.MulOp.{MulOp}
use Rattle.m2_tree.specs.declared.expr.MulOp.TheVariants as mul
use Rattle.m2_tree.specs.declared.expr.Operator.{Operator}
use Rattle.m2_tree.specs.declared.expr.Qualified.{Qualified}
use Rattle.m2_tree.specs.declared.expr.Expr.{Expr}
use Rattle.m2_tree.specs.declared.expr.Expr.TheVariants as e
use Rattle.m2_tree.specs.declared.expr.Item.{Item, roll-Item}
use Rattle.m2_tree.specs.declared.expr.Selector.{Selector}
use Rattle.m2_tree.specs.declared.expr.Selector.TheVariants as sel
use Rattle.m2_tree.specs.declared.expr.Designator.{Designator, roll-Designator}
use Rattle.m2_tree.specs.declared.decl.Simple.{Simple}
use Rattle.m2_tree.specs.declared.decl.Simple.TheVariants as simple
use Rattle.m2_tree.specs.declared.decl.TypeExpr.{TypeExpr}
use Rattle.m2_tree.specs.declared.decl.TypeExpr.TheVariants as ty
use Rattle.m2_tree.specs.declared.decl.Field.{Field, roll-Field}
use Rattle.m2_tree.specs.declared.decl.Parameter.{Parameter}
use Rattle.m2_tree.specs.declared.decl.Section.{Section}
use Rattle.m2_tree.specs.declared.decl.Heading.{Heading}
use Rattle.m2_tree.specs.declared.decl.Constant.{Constant}
use Rattle.m2_tree.specs.declared.decl.TypeDecl.{TypeDecl}
use Rattle.m2_tree.specs.declared.decl.Variables.{Variables}
use Rattle.m2_tree.specs.declared.decl.Def.{Def}
use Rattle.m2_tree.specs.declared.decl.Def.TheVariants as def
use Rattle.m2_tree.specs.declared.decl.Decl.{Decl}
use Rattle.m2_tree.specs.declared.decl.Decl.TheVariants as decl
use Rattle.m2_tree.specs.declared.decl.Block.{Block, roll-Block}
use Rattle.m2_tree.specs.declared.decl.Import.{Import}
use Rattle.m2_tree.specs.declared.decl.Contents.{Contents}
use Rattle.m2_tree.specs.declared.decl.Contents.TheVariants as contents
use Rattle.m2_tree.specs.declared.decl.Module.{Module}
use Rattle.m2_tree.specs.declared.stmt.Stmt.{Stmt}
use Rattle.m2_tree.specs.declared.stmt.Stmt.TheVariants as s
use Rattle.m2_tree.specs.declared.stmt.Rest.{Rest}
use Rattle.m2_tree.specs.declared.stmt.Rest.TheVariants as rest
use Rattle.m2_tree.specs.declared.stmt.Arm.{Arm, roll-Arm}
use Rattle.def_grammar.specs.Rule.{Rule, Ast, module_rule, import_rule, idents_rule, def_rule, block_rule, decl_rule, constant_rule, type_decl_rule, variables_rule, formals_rule, section_rule, formal_rule, qual_rule, simple_rule, type_rule, dims_rule, parameter_rule, field_rule, stmts_rule, stmt_rule, rest_rule, arm_rule, item_rule, desig_rule, selectors_rule, args_rule, expr_rule, sum_rule, term_rule, factor_rule, set_rule}
use Rattle.def_grammar.specs.Grammar.{El}
use Rattle.def_grammar.specs.Ebnf.{grammar}

-- ---- tokens

-- the bytes of a name
abbrev pub name_said : Lexeme → List ℕ
name_said (lexeme.Name n) = n
name_said _ = []

abbrev pub name_of : Token → List ℕ
name_of t = name_said t.lexeme

abbrev pub ident_of : Token → Ident
ident_of t = record { name = name_of t; pos = t.pos }

abbrev pub literal_said : Pos → Lexeme → Expr
literal_said pos (lexeme.Char c) = e.Char pos c
literal_said pos (lexeme.Text q) = e.Text pos q
literal_said pos (lexeme.Number n) = e.Number pos n
literal_said pos _ = e.Number pos 0

abbrev pub literal_of : Token → Expr
literal_of t = literal_said t.pos t.lexeme

abbrev pub relation_said : Lexeme → RelOp
relation_said (lexeme.Symbol sym.Unequal) = rel.Unequal
relation_said (lexeme.Symbol sym.Less) = rel.Less
relation_said (lexeme.Symbol sym.AtMost) = rel.AtMost
relation_said (lexeme.Symbol sym.Greater) = rel.Greater
relation_said (lexeme.Symbol sym.AtLeast) = rel.AtLeast
relation_said (lexeme.Symbol sym.In) = rel.In
relation_said _ = rel.Equal

abbrev pub sign_said : Lexeme → Sign
sign_said (lexeme.Symbol sym.Minus) = sign.Minus
sign_said _ = sign.Plus

abbrev pub add_op_said : Lexeme → AddOp
add_op_said (lexeme.Symbol sym.Minus) = add.Minus
add_op_said (lexeme.Symbol sym.Or) = add.Or
add_op_said _ = add.Plus

abbrev pub mul_op_said : Lexeme → MulOp
mul_op_said (lexeme.Symbol sym.Slash) = mul.Over
mul_op_said (lexeme.Symbol sym.Div) = mul.Div
mul_op_said (lexeme.Symbol sym.Mod) = mul.Mod
mul_op_said (lexeme.Symbol sym.And) = mul.And
mul_op_said _ = mul.Times

abbrev pub relation_of : Token → Operator RelOp
relation_of t = record { op = relation_said t.lexeme; pos = t.pos }

abbrev pub sign_of : Token → Operator Sign
sign_of t = record { op = sign_said t.lexeme; pos = t.pos }

abbrev pub add_op_of : Token → Operator AddOp
add_op_of t = record { op = add_op_said t.lexeme; pos = t.pos }

abbrev pub mul_op_of : Token → Operator MulOp
mul_op_of t = record { op = mul_op_said t.lexeme; pos = t.pos }

-- ---- lists

abbrev pub with_first : {A : Type 0} → A × List A → List A
with_first p = p.0 ∷ p.1

-- those that are there
abbrev pub present : {A : Type 0} → List (Option A) → List A
present [] = []
present (None ∷ xs) = present xs
present (Some x ∷ xs) = x ∷ present xs

abbrev pub flatten_lists : {A : Type 0} → List (List A) → List A
flatten_lists [] = []
flatten_lists (x ∷ xs) = x ++ flatten_lists xs

-- a list that may be absent, by its first and the others
abbrev pub if_any : {A : Type 0} → Option (A × List A) → List A
if_any None = []
if_any (Some p) = with_first p

-- whether a word stands
abbrev pub is_there : {A : Type 0} → Option A → Bool
is_there None = false
is_there (Some x) = true

-- ---- expressions

abbrev pub add_operand : Token × Expr → Operator AddOp × Expr
add_operand p = (add_op_of p.0, p.1)

abbrev pub multiply_operand : Token × Expr → Operator MulOp × Expr
multiply_operand p = (mul_op_of p.0, p.1)

abbrev pub selectors_of : (Token × Token) ⊎ (Token × (Expr × List Expr)) → List Selector
selectors_of (inl p) = sel.Field p.0.pos (ident_of p.1) ∷ []
selectors_of (inr p) = map (sel.Index p.0.pos) (with_first p.1)

-- an operand alone is its own tree
abbrev pub relation_or_operand : Expr → Option (Token × Expr) → Expr
relation_or_operand a None = a
relation_or_operand a (Some p) = e.Relation a (relation_of p.0) p.1

abbrev pub sum_of : Option (Operator Sign) → Expr → List (Operator AddOp × Expr) → Expr
sum_of None a [] = a
sum_of None a (p ∷ ps) = e.Sum None a (p ∷ ps)
sum_of (Some sign) a ps = e.Sum (Some sign) a ps

abbrev pub product_of : Expr → List (Operator MulOp × Expr) → Expr
product_of a [] = a
product_of a (p ∷ ps) = e.Term a (p ∷ ps)

abbrev pub use_of : Ident → List Selector × Option (List Expr) → Expr
use_of name p = e.Use (roll-Designator (record { name = name; selectors = p.0 })) p.1

-- what begins with a name: a set with its type, or a use with arguments
abbrev pub begun_by : Ident → (Pos × List Item) ⊎ (List Selector × Option (List Expr)) → Expr
begun_by name (inl set) = e.Set (Some name) set.0 set.1
begun_by name (inr p) = use_of name p

abbrev pub factor_of : Token
    ⊎ ((Token × ((Pos × List Item) ⊎ (List Selector × Option (List Expr))))
    ⊎ ((Pos × List Item) ⊎ ((Token × Expr) ⊎ (Token × Expr))))
    → Expr
factor_of (inl t) = literal_of t
factor_of (inr (inl p)) = begun_by (ident_of p.0) p.1
factor_of (inr (inr (inl set))) = e.Set None set.0 set.1
factor_of (inr (inr (inr (inl p)))) = e.Not p.0.pos p.1
factor_of (inr (inr (inr (inr p)))) = e.Bracketed p.0.pos p.1

-- ---- types

abbrev pub qualified_name : Token → Option Token → Qualified
qualified_name first None = record { «module» = None; name = ident_of first }
qualified_name first (Some name) = record { «module» = Some (ident_of first); name = ident_of name }

abbrev pub subrange_of : Option Qualified → Token × (Expr × Expr) → Simple
subrange_of base p = simple.Subrange base p.0.pos p.1.0 p.1.1

abbrev pub named_simple : Qualified → Option (Token × (Expr × Expr)) → Simple
named_simple name None = simple.Named name
named_simple name (Some p) = subrange_of (Some name) p

abbrev pub simple_of :
    (Qualified × Option (Token × (Expr × Expr))) ⊎ ((Token × List Ident) ⊎ (Token × (Expr × Expr)))
    → Simple
simple_of (inl p) = named_simple p.0 p.1
simple_of (inr (inl p)) = simple.Enumeration p.0.pos p.1
simple_of (inr (inr p)) = subrange_of None p

-- the place of the first token
abbrev pub first_pos : Option Ident → Ident → Pos
first_pos None name = name.pos
first_pos (Some m) name = m.pos

abbrev pub qualified_pos : Qualified → Pos
qualified_pos q = first_pos q.«module» q.name

abbrev pub simple_pos : Simple → Pos
simple_pos (simple.Named name) = qualified_pos name
simple_pos (simple.Enumeration pos names) = pos
simple_pos (simple.Subrange None pos low high) = pos
simple_pos (simple.Subrange (Some base) pos low high) = qualified_pos base

-- an inner array begins at the first token of its index
abbrev pub element_of : (Simple × TypeExpr) ⊎ TypeExpr → TypeExpr
element_of (inl p) = ty.Array (simple_pos p.0) p.0 p.1
element_of (inr type) = type

abbrev pub formals_of : {A : Type 0} → Option (Option (A × List A) × Option Qualified)
    → List A × Option Qualified
formals_of None = ([], None)
formals_of (Some p) = (if_any p.0, p.1)

abbrev pub procedure_type_of : Pos → List Parameter × Option Qualified → TypeExpr
procedure_type_of pos p = ty.Procedure pos p.0 p.1

abbrev pub structured_of : (Token × (Simple × TypeExpr))
    ⊎ ((Token × (Option Field × List (Option Field)))
    ⊎ (Token × Option (Option (Parameter × List Parameter) × Option Qualified)))
    → TypeExpr
structured_of (inl p) = ty.Array p.0.pos p.1.0 p.1.1
structured_of (inr (inl p)) = ty.Record p.0.pos (present (with_first p.1))
structured_of (inr (inr p)) = procedure_type_of p.0.pos (formals_of p.1)

abbrev pub type_of : Simple
    ⊎ ((Token × (Simple × TypeExpr))
    ⊎ ((Token × (Option Field × List (Option Field)))
    ⊎ (Token × Option (Option (Parameter × List Parameter) × Option Qualified))))
    → TypeExpr
type_of (inl simple) = ty.Simple simple
type_of (inr structured) = structured_of structured

-- ---- statements

abbrev pub assigned_or_called : Designator → Expr ⊎ Option (List Expr) → Stmt
assigned_or_called to (inl value) = s.Assign to value
assigned_or_called to (inr args) = s.Call to args

abbrev pub if_of : Expr × (List Stmt × Rest) → Stmt
if_of p = s.If p.0 p.1.0 p.1.1

abbrev pub case_of : Expr × ((Option Arm × List (Option Arm)) × Option (List Stmt)) → Stmt
case_of p = s.Case p.0 (present (with_first p.1.0)) p.1.1

abbrev pub while_of : Expr × List Stmt → Stmt
while_of p = s.While p.0 p.1

abbrev pub repeat_of : List Stmt × Expr → Stmt
repeat_of p = s.Repeat p.0 p.1

abbrev pub return_of : Token × Option Expr → Stmt
return_of p = s.Return p.0.pos p.1

abbrev pub for_of : Token × (Expr × (Expr × (Option Expr × List Stmt))) → Stmt
for_of p = s.For (ident_of p.0) p.1.0 p.1.1.0 p.1.1.1.0 p.1.1.1.1

abbrev pub with_of : Designator × List Stmt → Stmt
with_of p = s.With p.0 p.1

abbrev pub other_of : (List Stmt × Expr)
    ⊎ (List Stmt
    ⊎ (Token
    ⊎ ((Token × Option Expr)
    ⊎ ((Token × (Expr × (Expr × (Option Expr × List Stmt))))
    ⊎ (Designator × List Stmt))))) → Stmt
other_of (inl p) = repeat_of p
other_of (inr (inl body)) = s.Loop body
other_of (inr (inr (inl t))) = s.Exit t.pos
other_of (inr (inr (inr (inl p)))) = return_of p
other_of (inr (inr (inr (inr (inl p))))) = for_of p
other_of (inr (inr (inr (inr (inr p))))) = with_of p

abbrev pub stmt_of : (Designator × (Expr ⊎ Option (List Expr)))
    ⊎ ((Expr × (List Stmt × Rest))
    ⊎ ((Expr × ((Option Arm × List (Option Arm)) × Option (List Stmt)))
    ⊎ ((Expr × List Stmt)
    ⊎ ((List Stmt × Expr)
    ⊎ (List Stmt
    ⊎ (Token
    ⊎ ((Token × Option Expr)
    ⊎ ((Token × (Expr × (Expr × (Option Expr × List Stmt))))
    ⊎ (Designator × List Stmt))))))))) → Stmt
stmt_of (inl p) = assigned_or_called p.0 p.1
stmt_of (inr (inl p)) = if_of p
stmt_of (inr (inr (inl p))) = case_of p
stmt_of (inr (inr (inr (inl p)))) = while_of p
stmt_of (inr (inr (inr (inr other)))) = other_of other

abbrev pub rest_of : (Expr × (List Stmt × Rest)) ⊎ Option (List Stmt) → Rest
rest_of (inl p) = rest.Elsif p.0 p.1.0 p.1.1
rest_of (inr other) = rest.Else other

-- ---- declarations and modules

abbrev pub heading_of : Token → List Section × Option Qualified → Heading
heading_of name p = record { name = ident_of name; formals = p.0; result = p.1 }

abbrev pub def_of :
    (List Constant ⊎ (List TypeDecl ⊎ List Variables)) ⊎ (Token × (List Section × Option Qualified))
    → Def
def_of (inl (inl constants)) = def.Constants constants
def_of (inl (inr (inl types))) = def.Types types
def_of (inl (inr (inr variables))) = def.Variables variables
def_of (inr p) = def.Procedure (heading_of p.0 p.1)

abbrev pub decl_of : (List Constant ⊎ (List TypeDecl ⊎ List Variables))
    ⊎ (Token × ((List Section × Option Qualified) × Block))
    → Decl
decl_of (inl (inl constants)) = decl.Constants constants
decl_of (inl (inr (inl types))) = decl.Types types
decl_of (inl (inr (inr variables))) = decl.Variables variables
decl_of (inr p) = decl.Procedure (heading_of p.0 p.1.0) p.1.1

abbrev pub module_with : Token → List Import → Contents → Module
module_with name imports held = record { name = ident_of name; imports = imports; contents = held }

abbrev pub contents_with : Bool → Block → Contents
contents_with true block = contents.Implementation block
contents_with false block = contents.Program block

abbrev pub module_of :
    (Token × (List Import × List Def)) ⊎ (Option Token × (Token × (List Import × Block))) → Module
module_of (inl p) = module_with p.0 p.1.0 (contents.Definition p.1.1)
module_of (inr p) = module_with p.1.0 p.1.1.0 (contents_with (is_there p.0) p.1.1.1)

-- ---- the productions

abbrev pub tree : (r : Rule) → El (grammar r).shape → Ast r
tree module_rule p = module_of p
tree import_rule p = record { from = option_map ident_of p.0; names = p.1 }
tree idents_rule p = map ident_of (with_first p)
tree def_rule p = def_of p
tree block_rule p = roll-Block (record { decls = p.0; body = p.1 })
tree decl_rule p = decl_of p
tree constant_rule p = record { name = ident_of p.0; value = p.1 }
tree type_decl_rule p = record { name = ident_of p.0; of = p.1 }
tree variables_rule p = record { names = p.0; of = p.1 }
tree formals_rule p = formals_of p
tree section_rule p = record { is_var = is_there p.0; names = p.1.0; of = p.1.1 }
tree formal_rule p = record { is_open = is_there p.0; of = p.1 }
tree qual_rule p = qualified_name p.0 p.1
tree simple_rule p = simple_of p
tree type_rule p = type_of p
tree dims_rule p = (p.0, element_of p.1)
tree parameter_rule p = record { is_var = is_there p.0; of = p.1 }
tree field_rule p = roll-Field (record { names = p.0; of = p.1 })
tree stmts_rule p = present (with_first p)
tree stmt_rule p = stmt_of p
tree rest_rule p = rest_of p
tree arm_rule p = roll-Arm (record { labels = with_first p.0; body = p.1 })
tree item_rule p = roll-Item (record { low = p.0; high = p.1 })
tree desig_rule p = roll-Designator (record { name = ident_of p.0; selectors = p.1 })
tree selectors_rule p = flatten_lists (map selectors_of p)
tree args_rule p = if_any p
tree expr_rule p = relation_or_operand p.0 p.1
tree sum_rule p = sum_of (option_map sign_of p.0) p.1.0 (map add_operand p.1.1)
tree term_rule p = product_of p.0 (map multiply_operand p.1)
tree factor_rule p = factor_of p
tree set_rule p = (p.0.pos, if_any p.1)
