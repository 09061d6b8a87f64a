-- The productions, and the type of each one's tree.
use Rattle.std.specs.Prelude.{List, Option}
use Rattle.m2_tree.specs.declared.name.Ident.{Ident}
use Rattle.m2_tree.specs.declared.pos.Pos.{Pos}
use Rattle.m2_tree.specs.declared.expr.Qualified.{Qualified}
use Rattle.m2_tree.specs.declared.expr.Expr.{Expr}
use Rattle.m2_tree.specs.declared.expr.Item.{Item}
use Rattle.m2_tree.specs.declared.expr.Selector.{Selector}
use Rattle.m2_tree.specs.declared.expr.Designator.{Designator}
use Rattle.m2_tree.specs.declared.decl.Simple.{Simple}
use Rattle.m2_tree.specs.declared.decl.TypeExpr.{TypeExpr}
use Rattle.m2_tree.specs.declared.decl.Field.{Field}
use Rattle.m2_tree.specs.declared.decl.FormalType.{FormalType}
use Rattle.m2_tree.specs.declared.decl.Parameter.{Parameter}
use Rattle.m2_tree.specs.declared.decl.Section.{Section}
use Rattle.m2_tree.specs.declared.decl.Constant.{Constant}
use Rattle.m2_tree.specs.declared.decl.TypeDecl.{TypeDecl}
use Rattle.m2_tree.specs.declared.decl.Variables.{Variables}
use Rattle.m2_tree.specs.declared.decl.Def.{Def}
use Rattle.m2_tree.specs.declared.decl.Decl.{Decl}
use Rattle.m2_tree.specs.declared.decl.Block.{Block}
use Rattle.m2_tree.specs.declared.decl.Import.{Import}
use Rattle.m2_tree.specs.declared.decl.Module.{Module}
use Rattle.m2_tree.specs.declared.stmt.Stmt.{Stmt}
use Rattle.m2_tree.specs.declared.stmt.Rest.{Rest}
use Rattle.m2_tree.specs.declared.stmt.Arm.{Arm}

pub data Rule : Type 0 where
  module_rule import_rule idents_rule : Rule
  def_rule block_rule decl_rule constant_rule type_decl_rule variables_rule formals_rule
      section_rule formal_rule : Rule
  qual_rule simple_rule type_rule dims_rule parameter_rule field_rule : Rule
  stmts_rule stmt_rule rest_rule arm_rule : Rule
  item_rule desig_rule selectors_rule args_rule expr_rule sum_rule term_rule factor_rule set_rule :
      Rule

abbrev pub Ast : Rule → Type 0
Ast module_rule = Module
Ast import_rule = Import
Ast idents_rule = List Ident
Ast def_rule = Def
Ast block_rule = Block
Ast decl_rule = Decl
Ast constant_rule = Constant
Ast type_decl_rule = TypeDecl
Ast variables_rule = Variables
Ast formals_rule = List Section × Option Qualified
Ast section_rule = Section
Ast formal_rule = FormalType
Ast qual_rule = Qualified
Ast simple_rule = Simple
Ast type_rule = TypeExpr
-- an index, and the elements
Ast dims_rule = Simple × TypeExpr
Ast parameter_rule = Parameter
Ast field_rule = Field
Ast stmts_rule = List Stmt
Ast stmt_rule = Stmt
Ast rest_rule = Rest
Ast arm_rule = Arm
Ast item_rule = Item
Ast desig_rule = Designator
Ast selectors_rule = List Selector
Ast args_rule = List Expr
Ast expr_rule = Expr
Ast sum_rule = Expr
Ast term_rule = Expr
Ast factor_rule = Expr
-- the place of the brace, and the elements
Ast set_rule = Pos × List Item
