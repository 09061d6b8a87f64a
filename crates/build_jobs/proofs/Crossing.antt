-- Trees may cross threads: a module's tree, and what is read of a file, are `Send` and `Sync`.
use denote.RattleType.{RattleType}
use denote.Param.Send.{IsSend, IsSync, sendable, recorded_send, recorded_sync, struct_send, struct_sync, enum_send, enum_sync}
use denote.Struct.Field.{u32-field, u8-field}
use denote.Enum.Declared as enum
use denote.Struct.Declared as struct
use denote.Struct.Tuple.{Tuple}
use mathlib.Core.List.{[], ◌∷◌}
use Rattle.std.proofs.Crossing.{Arc-send, Arc-sync}
use Rattle.std.proofs.option.Option.TheSendSync as option
use Rattle.std.specs.contracts.option.Option
use Rattle.tree_parts.proofs.boxed.Boxed.TheSendSync as boxed
use Rattle.tree_parts.proofs.items.Items.TheSendSync as items
use Rattle.m2_tree.proofs.name.Ident.TheSendSync as ident
use Rattle.m2_tree.proofs.pos.Pos.TheSendSync as pos
use Rattle.m2_tree.proofs.text.Quoted.TheSendSync as quoted
use Rattle.m2_tree.proofs.expr.AddOp.TheSendSync as add
use Rattle.m2_tree.proofs.expr.MulOp.TheSendSync as mul
use Rattle.m2_tree.proofs.expr.Operator.TheSendSync as operator
use Rattle.m2_tree.proofs.expr.Qualified.TheSendSync as qualified
use Rattle.m2_tree.proofs.expr.RelOp.TheSendSync as rel
use Rattle.m2_tree.proofs.expr.Sign.TheSendSync as sign
use Rattle.m2_tree.proofs.decl.Heading.TheSendSync as heading
use Rattle.m2_tree.proofs.decl.Import.TheSendSync as import
use Rattle.m2_tree.proofs.decl.Parameter.TheSendSync as parameter
use Rattle.m2_tree.proofs.expr.Expr.TheLaws.TheKnot as exprs
use Rattle.m2_tree.proofs.stmt.Rest.TheLaws.TheKnot as stmts
use Rattle.m2_tree.proofs.decl.TypeExpr.TheLaws.TheKnot as types
use Rattle.m2_tree.proofs.decl.Decl.TheLaws.TheKnot as decls
use Rattle.tree_parts.specs.contracts.boxed.Boxed
use Rattle.tree_parts.specs.contracts.items.Items
use Rattle.m2_tree.specs.contracts.name.Ident
use Rattle.m2_tree.specs.contracts.expr.AddOp
use Rattle.m2_tree.specs.contracts.expr.Designator
use Rattle.m2_tree.specs.contracts.expr.Expr
use Rattle.m2_tree.specs.contracts.expr.Item
use Rattle.m2_tree.specs.contracts.expr.MulOp
use Rattle.m2_tree.specs.contracts.expr.Operator
use Rattle.m2_tree.specs.contracts.expr.Qualified
use Rattle.m2_tree.specs.contracts.expr.RelOp
use Rattle.m2_tree.specs.contracts.expr.Sign
use Rattle.m2_tree.specs.contracts.stmt.Stmt
use Rattle.m2_tree.specs.contracts.decl.Block
use Rattle.m2_tree.specs.contracts.decl.Constant
use Rattle.m2_tree.specs.contracts.decl.Contents
use Rattle.m2_tree.specs.contracts.decl.Def
use Rattle.m2_tree.specs.contracts.decl.Import
use Rattle.m2_tree.specs.contracts.decl.Module
use Rattle.m2_tree.specs.contracts.decl.Parameter
use Rattle.m2_tree.specs.contracts.decl.Simple
use Rattle.m2_tree.specs.contracts.decl.TypeDecl
use Rattle.m2_tree.specs.contracts.decl.TypeExpr
use Rattle.m2_tree.specs.contracts.decl.Variables
use Rattle.build_jobs.specs.contracts.reading.Read

-- ---- `Send`
option_items_send : (h : RattleType) → IsSend h → IsSend (Option.the_row (Items.the_row h))
option_items_send h k = option.the_send (Items.the_row h) (items.the_send h k)

option_boxed_items_send : (h : RattleType) → IsSend h → IsSend (Option.the_row (Boxed.the_row (Items.the_row h)))
option_boxed_items_send h k = option.the_send (Boxed.the_row (Items.the_row h))
    (boxed.the_send (Items.the_row h) (items.the_send h k))

factors_send : (h : RattleType) → IsSend h → IsSend (Items.the_row (Tuple (Operator.the_row MulOp.the_row ∷ h ∷ [])))
factors_send h k = items.the_send (Tuple (Operator.the_row MulOp.the_row ∷ h ∷ []))
    (let o = operator.the_send MulOp.the_row mul.the_send in search sendable)

terms_send : (h : RattleType) → IsSend h → IsSend (Items.the_row (Tuple (Operator.the_row AddOp.the_row ∷ h ∷ [])))
terms_send h k = items.the_send (Tuple (Operator.the_row AddOp.the_row ∷ h ∷ []))
    (let o = operator.the_send AddOp.the_row add.the_send in search sendable)

option_ident_send : IsSend (Option.the_field Ident.the_row).row
option_ident_send = option.the_field_send Ident.the_row ident.the_send

option_sign_send : IsSend (Option.the_field (Operator.the_row Sign.the_row)).row
option_sign_send = option.the_field_send (Operator.the_row Sign.the_row) (operator.the_send Sign.the_row sign.the_send)

relation_send : IsSend (Operator.the_field RelOp.the_row).row
relation_send = operator.the_field_send RelOp.the_row rel.the_send

option_qualified_send : IsSend (Option.the_field Qualified.the_row).row
option_qualified_send = option.the_field_send Qualified.the_row qualified.the_send

idents_send : IsSend (Items.the_field Ident.the_row).row
idents_send = items.the_send Ident.the_row ident.the_send

number_send : IsSend (u32-field).row
number_send = search sendable

byte_send : IsSend (u8-field).row
byte_send = search sendable

-- expressions
expr_send_of : IsSend (Expr.the_field).row → IsSend Expr.the_row
expr_send_of k = recorded_send (Expr.the_field).row _ _ (Expr.the_type).to_one k

option_expr_send_of : IsSend (Expr.the_field).row → IsSend (Option.the_field Expr.the_row).row
option_expr_send_of k = option.the_field_send Expr.the_row (expr_send_of k)

expr_send' : IsSend (Expr.the_field).row
expr_send' = exprs.send-Expr pos.the_field_send number_send byte_send quoted.the_send option_ident_send items.the_send
    boxed.the_send option_boxed_items_send factors_send option_sign_send terms_send relation_send ident.the_field_send
    option.the_send option_expr_send_of

designator_send' : IsSend (Designator.the_field).row
designator_send' = exprs.send-Designator pos.the_field_send number_send byte_send quoted.the_send option_ident_send
    items.the_send boxed.the_send option_boxed_items_send factors_send option_sign_send terms_send relation_send
    ident.the_field_send option.the_send option_expr_send_of

item_send' : IsSend (Item.the_field).row
item_send' = exprs.send-Item pos.the_field_send number_send byte_send quoted.the_send option_ident_send items.the_send
    boxed.the_send option_boxed_items_send factors_send option_sign_send terms_send relation_send ident.the_field_send
    option.the_send option_expr_send_of

pub Expr-send : IsSend Expr.the_row
Expr-send = expr_send_of expr_send'

pub Designator-send : IsSend Designator.the_row
Designator-send = recorded_send (Designator.the_field).row _ _ (Designator.the_type).to_one designator_send'

pub Item-send : IsSend Item.the_row
Item-send = recorded_send (Item.the_field).row _ _ (Item.the_type).to_one item_send'

-- statements
option_exprs_send : IsSend (Option.the_field (Items.the_row Expr.the_row)).row
option_exprs_send = option.the_field_send (Items.the_row Expr.the_row) (items.the_send Expr.the_row Expr-send)

option_expr_send : IsSend (Option.the_field Expr.the_row).row
option_expr_send = option.the_field_send Expr.the_row Expr-send

boxed_expr_send : IsSend (Boxed.the_field Expr.the_row).row
boxed_expr_send = boxed.the_send Expr.the_row Expr-send

option_boxed_expr_send : IsSend (Option.the_field (Boxed.the_row Expr.the_row)).row
option_boxed_expr_send = option.the_field_send (Boxed.the_row Expr.the_row) (boxed.the_send Expr.the_row Expr-send)

labels_send : IsSend (Items.the_field Item.the_row).row
labels_send = items.the_send Item.the_row Item-send

stmt_send' : IsSend (Stmt.the_field).row
stmt_send' = stmts.send-Stmt expr_send' items.the_send boxed.the_send option_items_send designator_send'
    option_exprs_send pos.the_field_send option_expr_send ident.the_field_send boxed_expr_send option_boxed_expr_send
    labels_send

pub Stmt-send : IsSend Stmt.the_row
Stmt-send = recorded_send (Stmt.the_field).row _ _ (Stmt.the_type).to_one stmt_send'

-- types
simple_send' : IsSend (Simple.the_field).row
simple_send' = enum_send (enum.shape Simple.the_type) (
  (qualified.the_field_send, tt),
  (
    (pos.the_field_send, (idents_send, tt)),
    ((option_qualified_send, (pos.the_field_send, (boxed_expr_send, (boxed_expr_send, tt)))), tt),
  ),
)

parameters_send : IsSend (Items.the_field Parameter.the_row).row
parameters_send = items.the_send Parameter.the_row parameter.the_send

type_send' : IsSend (TypeExpr.the_field).row
type_send' = types.send-TypeExpr simple_send' pos.the_field_send boxed.the_send items.the_send parameters_send
    option_qualified_send idents_send

pub TypeExpr-send : IsSend TypeExpr.the_row
TypeExpr-send = recorded_send (TypeExpr.the_field).row _ _ (TypeExpr.the_type).to_one type_send'

-- declarations
constant_send' : IsSend (Constant.the_field).row
constant_send' = struct_send (struct.shape Constant.the_type) (ident.the_field_send, (expr_send', tt))

pub Constant-send : IsSend Constant.the_row
Constant-send = recorded_send (Constant.the_field).row _ _ (Constant.the_type).to_one constant_send'

type_decl_send' : IsSend (TypeDecl.the_field).row
type_decl_send' = struct_send (struct.shape TypeDecl.the_type) (ident.the_field_send, (type_send', tt))

pub TypeDecl-send : IsSend TypeDecl.the_row
TypeDecl-send = recorded_send (TypeDecl.the_field).row _ _ (TypeDecl.the_type).to_one type_decl_send'

variables_send' : IsSend (Variables.the_field).row
variables_send' = struct_send (struct.shape Variables.the_type) (idents_send, (type_send', tt))

pub Variables-send : IsSend Variables.the_row
Variables-send = recorded_send (Variables.the_field).row _ _ (Variables.the_type).to_one variables_send'

constants_send : IsSend (Items.the_field Constant.the_row).row
constants_send = items.the_send Constant.the_row Constant-send

type_decls_send : IsSend (Items.the_field TypeDecl.the_row).row
type_decls_send = items.the_send TypeDecl.the_row TypeDecl-send

variable_lists_send : IsSend (Items.the_field Variables.the_row).row
variable_lists_send = items.the_send Variables.the_row Variables-send

option_stmts_send : IsSend (Option.the_field (Items.the_row Stmt.the_row)).row
option_stmts_send = option.the_field_send (Items.the_row Stmt.the_row) (items.the_send Stmt.the_row Stmt-send)

block_send' : IsSend (Block.the_field).row
block_send' = decls.send-Block constants_send type_decls_send variable_lists_send heading.the_field_send boxed.the_send
    items.the_send option_stmts_send

-- modules
def_send' : IsSend (Def.the_field).row
def_send' = enum_send (enum.shape Def.the_type)
    ((constants_send, tt), ((type_decls_send, tt), ((variable_lists_send, tt), ((heading.the_field_send, tt), tt))))

pub Def-send : IsSend Def.the_row
Def-send = recorded_send (Def.the_field).row _ _ (Def.the_type).to_one def_send'

defs_send : IsSend (Items.the_field Def.the_row).row
defs_send = items.the_send Def.the_row Def-send

contents_send' : IsSend (Contents.the_field).row
contents_send' = enum_send (enum.shape Contents.the_type)
    ((defs_send, tt), ((block_send', tt), ((block_send', tt), tt)))

imports_send : IsSend (Items.the_field Import.the_row).row
imports_send = items.the_send Import.the_row import.the_send

module_send' : IsSend (Module.the_field).row
module_send' = struct_send (struct.shape Module.the_type) (ident.the_field_send, (imports_send, (contents_send', tt)))

pub Module-send : IsSend Module.the_row
Module-send = recorded_send (Module.the_field).row _ _ (Module.the_type).to_one module_send'

-- ---- `Sync`
option_items_sync : (h : RattleType) → IsSync h → IsSync (Option.the_row (Items.the_row h))
option_items_sync h k = option.the_sync (Items.the_row h) (items.the_sync h k)

option_boxed_items_sync : (h : RattleType) → IsSync h → IsSync (Option.the_row (Boxed.the_row (Items.the_row h)))
option_boxed_items_sync h k = option.the_sync (Boxed.the_row (Items.the_row h))
    (boxed.the_sync (Items.the_row h) (items.the_sync h k))

factors_sync : (h : RattleType) → IsSync h → IsSync (Items.the_row (Tuple (Operator.the_row MulOp.the_row ∷ h ∷ [])))
factors_sync h k = items.the_sync (Tuple (Operator.the_row MulOp.the_row ∷ h ∷ []))
    (let o = operator.the_sync MulOp.the_row mul.the_sync in search sendable)

terms_sync : (h : RattleType) → IsSync h → IsSync (Items.the_row (Tuple (Operator.the_row AddOp.the_row ∷ h ∷ [])))
terms_sync h k = items.the_sync (Tuple (Operator.the_row AddOp.the_row ∷ h ∷ []))
    (let o = operator.the_sync AddOp.the_row add.the_sync in search sendable)

option_ident_sync : IsSync (Option.the_field Ident.the_row).row
option_ident_sync = option.the_field_sync Ident.the_row ident.the_sync

option_sign_sync : IsSync (Option.the_field (Operator.the_row Sign.the_row)).row
option_sign_sync = option.the_field_sync (Operator.the_row Sign.the_row) (operator.the_sync Sign.the_row sign.the_sync)

relation_sync : IsSync (Operator.the_field RelOp.the_row).row
relation_sync = operator.the_field_sync RelOp.the_row rel.the_sync

option_qualified_sync : IsSync (Option.the_field Qualified.the_row).row
option_qualified_sync = option.the_field_sync Qualified.the_row qualified.the_sync

idents_sync : IsSync (Items.the_field Ident.the_row).row
idents_sync = items.the_sync Ident.the_row ident.the_sync

number_sync : IsSync (u32-field).row
number_sync = search sendable

byte_sync : IsSync (u8-field).row
byte_sync = search sendable

-- expressions
expr_sync_of : IsSync (Expr.the_field).row → IsSync Expr.the_row
expr_sync_of k = recorded_sync (Expr.the_field).row _ _ (Expr.the_type).to_one k

option_expr_sync_of : IsSync (Expr.the_field).row → IsSync (Option.the_field Expr.the_row).row
option_expr_sync_of k = option.the_field_sync Expr.the_row (expr_sync_of k)

expr_sync' : IsSync (Expr.the_field).row
expr_sync' = exprs.sync-Expr pos.the_field_sync number_sync byte_sync quoted.the_sync option_ident_sync items.the_sync
    boxed.the_sync option_boxed_items_sync factors_sync option_sign_sync terms_sync relation_sync ident.the_field_sync
    option.the_sync option_expr_sync_of

designator_sync' : IsSync (Designator.the_field).row
designator_sync' = exprs.sync-Designator pos.the_field_sync number_sync byte_sync quoted.the_sync option_ident_sync
    items.the_sync boxed.the_sync option_boxed_items_sync factors_sync option_sign_sync terms_sync relation_sync
    ident.the_field_sync option.the_sync option_expr_sync_of

item_sync' : IsSync (Item.the_field).row
item_sync' = exprs.sync-Item pos.the_field_sync number_sync byte_sync quoted.the_sync option_ident_sync items.the_sync
    boxed.the_sync option_boxed_items_sync factors_sync option_sign_sync terms_sync relation_sync ident.the_field_sync
    option.the_sync option_expr_sync_of

pub Expr-sync : IsSync Expr.the_row
Expr-sync = expr_sync_of expr_sync'

pub Designator-sync : IsSync Designator.the_row
Designator-sync = recorded_sync (Designator.the_field).row _ _ (Designator.the_type).to_one designator_sync'

pub Item-sync : IsSync Item.the_row
Item-sync = recorded_sync (Item.the_field).row _ _ (Item.the_type).to_one item_sync'

-- statements
option_exprs_sync : IsSync (Option.the_field (Items.the_row Expr.the_row)).row
option_exprs_sync = option.the_field_sync (Items.the_row Expr.the_row) (items.the_sync Expr.the_row Expr-sync)

option_expr_sync : IsSync (Option.the_field Expr.the_row).row
option_expr_sync = option.the_field_sync Expr.the_row Expr-sync

boxed_expr_sync : IsSync (Boxed.the_field Expr.the_row).row
boxed_expr_sync = boxed.the_sync Expr.the_row Expr-sync

option_boxed_expr_sync : IsSync (Option.the_field (Boxed.the_row Expr.the_row)).row
option_boxed_expr_sync = option.the_field_sync (Boxed.the_row Expr.the_row) (boxed.the_sync Expr.the_row Expr-sync)

labels_sync : IsSync (Items.the_field Item.the_row).row
labels_sync = items.the_sync Item.the_row Item-sync

stmt_sync' : IsSync (Stmt.the_field).row
stmt_sync' = stmts.sync-Stmt expr_sync' items.the_sync boxed.the_sync option_items_sync designator_sync'
    option_exprs_sync pos.the_field_sync option_expr_sync ident.the_field_sync boxed_expr_sync option_boxed_expr_sync
    labels_sync

pub Stmt-sync : IsSync Stmt.the_row
Stmt-sync = recorded_sync (Stmt.the_field).row _ _ (Stmt.the_type).to_one stmt_sync'

-- types
simple_sync' : IsSync (Simple.the_field).row
simple_sync' = enum_sync (enum.shape Simple.the_type) (
  (qualified.the_field_sync, tt),
  (
    (pos.the_field_sync, (idents_sync, tt)),
    ((option_qualified_sync, (pos.the_field_sync, (boxed_expr_sync, (boxed_expr_sync, tt)))), tt),
  ),
)

parameters_sync : IsSync (Items.the_field Parameter.the_row).row
parameters_sync = items.the_sync Parameter.the_row parameter.the_sync

type_sync' : IsSync (TypeExpr.the_field).row
type_sync' = types.sync-TypeExpr simple_sync' pos.the_field_sync boxed.the_sync items.the_sync parameters_sync
    option_qualified_sync idents_sync

pub TypeExpr-sync : IsSync TypeExpr.the_row
TypeExpr-sync = recorded_sync (TypeExpr.the_field).row _ _ (TypeExpr.the_type).to_one type_sync'

-- declarations
constant_sync' : IsSync (Constant.the_field).row
constant_sync' = struct_sync (struct.shape Constant.the_type) (ident.the_field_sync, (expr_sync', tt))

pub Constant-sync : IsSync Constant.the_row
Constant-sync = recorded_sync (Constant.the_field).row _ _ (Constant.the_type).to_one constant_sync'

type_decl_sync' : IsSync (TypeDecl.the_field).row
type_decl_sync' = struct_sync (struct.shape TypeDecl.the_type) (ident.the_field_sync, (type_sync', tt))

pub TypeDecl-sync : IsSync TypeDecl.the_row
TypeDecl-sync = recorded_sync (TypeDecl.the_field).row _ _ (TypeDecl.the_type).to_one type_decl_sync'

variables_sync' : IsSync (Variables.the_field).row
variables_sync' = struct_sync (struct.shape Variables.the_type) (idents_sync, (type_sync', tt))

pub Variables-sync : IsSync Variables.the_row
Variables-sync = recorded_sync (Variables.the_field).row _ _ (Variables.the_type).to_one variables_sync'

constants_sync : IsSync (Items.the_field Constant.the_row).row
constants_sync = items.the_sync Constant.the_row Constant-sync

type_decls_sync : IsSync (Items.the_field TypeDecl.the_row).row
type_decls_sync = items.the_sync TypeDecl.the_row TypeDecl-sync

variable_lists_sync : IsSync (Items.the_field Variables.the_row).row
variable_lists_sync = items.the_sync Variables.the_row Variables-sync

option_stmts_sync : IsSync (Option.the_field (Items.the_row Stmt.the_row)).row
option_stmts_sync = option.the_field_sync (Items.the_row Stmt.the_row) (items.the_sync Stmt.the_row Stmt-sync)

block_sync' : IsSync (Block.the_field).row
block_sync' = decls.sync-Block constants_sync type_decls_sync variable_lists_sync heading.the_field_sync boxed.the_sync
    items.the_sync option_stmts_sync

-- modules
def_sync' : IsSync (Def.the_field).row
def_sync' = enum_sync (enum.shape Def.the_type)
    ((constants_sync, tt), ((type_decls_sync, tt), ((variable_lists_sync, tt), ((heading.the_field_sync, tt), tt))))

pub Def-sync : IsSync Def.the_row
Def-sync = recorded_sync (Def.the_field).row _ _ (Def.the_type).to_one def_sync'

defs_sync : IsSync (Items.the_field Def.the_row).row
defs_sync = items.the_sync Def.the_row Def-sync

contents_sync' : IsSync (Contents.the_field).row
contents_sync' = enum_sync (enum.shape Contents.the_type)
    ((defs_sync, tt), ((block_sync', tt), ((block_sync', tt), tt)))

imports_sync : IsSync (Items.the_field Import.the_row).row
imports_sync = items.the_sync Import.the_row import.the_sync

module_sync' : IsSync (Module.the_field).row
module_sync' = struct_sync (struct.shape Module.the_type) (ident.the_field_sync, (imports_sync, (contents_sync', tt)))

pub Module-sync : IsSync Module.the_row
Module-sync = recorded_sync (Module.the_field).row _ _ (Module.the_type).to_one module_sync'

-- ---- what is read
pub Read-send : IsSend Read.the_row
Read-send = let t : IsSend _ = Arc-send Module.the_row Module-send Module-sync in
    recorded_send (Read.the_field).row _ _ (Read.the_type).to_one
    (enum_send (enum.shape Read.the_type) ((t, tt), ((pos.the_field_send, (number_send, tt)), tt)))

pub Read-sync : IsSync Read.the_row
Read-sync = let t : IsSync _ = Arc-sync Module.the_row Module-send Module-sync in
    recorded_sync (Read.the_field).row _ _ (Read.the_type).to_one
    (enum_sync (enum.shape Read.the_type) ((t, tt), ((pos.the_field_sync, (number_sync, tt)), tt)))

pub ruleset crosses = (Module-send, Module-sync, Read-send, Read-sync)
