-- Statements.
use Rattle.std.proofs.Common.{◌≡◌, Bool, true, ◌&&◌, inl, inr, List, map, Option, Some, None, refl, ap, ◌∙◌}
use Rattle.std.specs.List.{list_all}
use Rattle.m2_tree.specs.declared.pos.Pos.{Pos}
use Rattle.m2_tree.specs.declared.name.Ident.{Ident}
use Rattle.m2_tree.specs.declared.expr.Expr.{Expr}
use Rattle.m2_tree.specs.declared.expr.Designator.{Designator}
use Rattle.m2_tree.specs.declared.expr.Selector.{Selector}
use Rattle.m2_tree.specs.declared.expr.Item.{Item, Item-F, roll-Item, out-roll-Item}
use Rattle.m2_tree.specs.declared.stmt.Rest.{Rest, Rest-F, out-Rest, map-Rest, fold_out-Rest}
use Rattle.m2_tree.specs.declared.stmt.Rest.TheOpen as layer
use Rattle.m2_tree.specs.declared.stmt.Rest.TheVariants as rest
use Rattle.m2_tree.specs.declared.stmt.Rest.TheVariants.{outs-Elsif, outs-Else}
use Rattle.m2_tree.specs.declared.stmt.Stmt.{Stmt, Stmt-F, out-Stmt, map-Stmt, fold_out-Stmt}
use Rattle.m2_tree.specs.declared.stmt.Stmt.TheVariants as stmt
use Rattle.m2_tree.specs.declared.stmt.Stmt.TheVariants.{outs-Assign, outs-Call, outs-If, outs-Case, outs-While, outs-Repeat, outs-Loop, outs-Exit, outs-Return, outs-For, outs-With}
use Rattle.m2_tree.specs.declared.stmt.Arm.{Arm, Arm-F, roll-Arm, out-roll-Arm, map-Arm, fold_out-Arm}
use Rattle.def_grammar.specs.Rule.{stmt_rule, rest_rule}
use Rattle.def_grammar.specs.Grammar.{El}
use Rattle.def_grammar.specs.Ebnf.{grammar}
use Rattle.def_grammar.specs.Trees.{stmt_of, rest_of, ident_of, with_first, present}
use Rattle.law_well_formed.specs.FormedRanges.{itself, fits}
use Rattle.law_well_formed.proofs.Spelled.{PartFits, MaybeFits}
use Rattle.law_programs.specs.Typing.{fits_whole, fits_head}
use Rattle.law_programs.specs.TypingStmts.{fits_if, all_fit, fits_step, fits_label, fits_stmt, fits_rest, fits_arm, fits_stmt_layer, fits_rest_layer, fits_arm_layer}
use Rattle.law_programs.proofs.Fits.{True, FitsEl, both_true, itself_true, there_true}

abbrev mapped : Stmt-F Rest Stmt Arm → Stmt-F Bool Bool Bool
mapped x = map-Stmt Rest Stmt Arm Bool Bool Bool fits_rest fits_stmt fits_arm x

abbrev mapped_rest : Rest-F Rest Stmt Arm → Rest-F Bool Bool Bool
mapped_rest x = map-Rest Rest Stmt Arm Bool Bool Bool fits_rest fits_stmt fits_arm x

abbrev mapped_arm : Arm-F Rest Stmt Arm → Arm-F Bool Bool Bool
mapped_arm x = map-Arm Rest Stmt Arm Bool Bool Bool fits_rest fits_stmt fits_arm x

made : (e : Stmt) (x : Stmt-F Rest Stmt Arm) → out-Stmt e ≡ x → fits_stmt e ≡ fits_stmt_layer (mapped x)
unfolding fits_stmt fits_rest fits_arm
made e x q = fold_out-Stmt Bool Bool Bool fits_rest_layer fits_stmt_layer fits_arm_layer e
    ∙ ap (λ (y : Stmt-F Rest Stmt Arm). fits_stmt_layer (mapped y)) q

rest_made : (e : Rest) (x : Rest-F Rest Stmt Arm) → out-Rest e ≡ x → fits_rest e ≡ fits_rest_layer (mapped_rest x)
unfolding fits_stmt fits_rest fits_arm
rest_made e x q = fold_out-Rest Bool Bool Bool fits_rest_layer fits_stmt_layer fits_arm_layer e
    ∙ ap (λ (y : Rest-F Rest Stmt Arm). fits_rest_layer (mapped_rest y)) q

arm_made : (x : Arm-F Rest Stmt Arm) → fits_arm (roll-Arm x) ≡ fits_arm_layer (mapped_arm x)
unfolding fits_stmt fits_rest fits_arm
arm_made x = fold_out-Arm Bool Bool Bool fits_rest_layer fits_stmt_layer fits_arm_layer (roll-Arm x)
    ∙ ap (λ (y : Arm-F Rest Stmt Arm). fits_arm_layer (mapped_arm y)) (out-roll-Arm x)

pub arm_fits : (labels : List Item) (body : List Stmt) → True (list_all fits_label labels)
    → True (list_all fits_stmt body) → True (fits_arm (roll-Arm (record { labels = labels; body = body })))
arm_fits labels body h k = arm_made (record { labels = labels; body = body })
    ∙ both_true (list_all fits_label labels) (list_all itself (map fits_stmt body)) h (itself_true fits_stmt body k)

if_fits : (o : Option Expr) → MaybeFits (λ e. True (fits_whole e)) o → True (fits_if o)
if_fits None h = refl
if_fits (Some e) h = h

step_fits : (o : Option Expr) → MaybeFits (λ e. True (fits e)) o → True (fits_step o)
step_fits None h = refl
step_fits (Some e) h = h

args_fit : (o : Option (List Expr)) → MaybeFits (λ es. True (list_all fits_whole es)) o → True (all_fit o)
args_fit None h = refl
args_fit (Some es) h = h

pub label_fits : (low : Expr) (high : Option Expr) → True (fits_whole low) → MaybeFits (λ e. True (fits_whole e)) high
    → True (fits_label (roll-Item (record { low = low; high = high })))
label_fits low high h k =
    ap (λ (x : Item-F Expr Selector Designator Item). fits_whole x.low && fits_if x.high)
    (out-roll-Item (record { low = low; high = high }))
    ∙ both_true (fits_whole low) (fits_if high) h (if_fits high k)

assign_fits : (d : Designator) (e : Expr) → True (fits_head d) → True (fits_whole e)
    → True (fits_stmt (stmt.Assign d e))
assign_fits d e h k = made (stmt.Assign d e) (layer.Assign d e) (outs-Assign d e)
    ∙ both_true (fits_head d) (fits_whole e) h k

call_fits : (d : Designator) (args : Option (List Expr)) → True (fits_head d)
    → MaybeFits (λ es. True (list_all fits_whole es)) args → True (fits_stmt (stmt.Call d args))
call_fits d args h k = made (stmt.Call d args) (layer.Call d args) (outs-Call d args)
    ∙ both_true (fits_head d) (all_fit args) h (args_fit args k)

guarded : (c : Expr) (body : List Stmt) (more : Rest) → True (fits_whole c) → True (list_all fits_stmt body)
    → True (fits_rest more) → True (fits_whole c && (list_all itself (map fits_stmt body) && fits_rest more))
guarded c body more h k l =
    both_true (fits_whole c) (list_all itself (map fits_stmt body) && fits_rest more) h
    (both_true (list_all itself (map fits_stmt body)) (fits_rest more) (itself_true fits_stmt body k) l)

case_fits : (e : Expr) (arms : List Arm) (o : Option (List Stmt)) → True (fits_whole e) → True (list_all fits_arm arms)
    → MaybeFits (λ xs. True (list_all fits_stmt xs)) o → True (fits_stmt (stmt.Case e arms o))
case_fits e arms None h k l = made (stmt.Case e arms None) (layer.Case e arms None) (outs-Case e arms None)
    ∙ both_true (fits_whole e) (list_all itself (map fits_arm arms) && true) h
    (both_true (list_all itself (map fits_arm arms)) true (itself_true fits_arm arms k) refl)
case_fits e arms (Some xs) h k l =
    made (stmt.Case e arms (Some xs)) (layer.Case e arms (Some xs)) (outs-Case e arms (Some xs))
    ∙ both_true (fits_whole e) (list_all itself (map fits_arm arms) && list_all itself (map fits_stmt xs)) h
    (both_true (list_all itself (map fits_arm arms)) (list_all itself (map fits_stmt xs)) (itself_true fits_arm arms k)
    (itself_true fits_stmt xs l))

while_fits : (c : Expr) (body : List Stmt) → True (fits_whole c) → True (list_all fits_stmt body)
    → True (fits_stmt (stmt.While c body))
while_fits c body h k = made (stmt.While c body) (layer.While c body) (outs-While c body)
    ∙ both_true (fits_whole c) (list_all itself (map fits_stmt body)) h (itself_true fits_stmt body k)

repeat_fits : (body : List Stmt) (c : Expr) → True (list_all fits_stmt body) → True (fits_whole c)
    → True (fits_stmt (stmt.Repeat body c))
repeat_fits body c h k = made (stmt.Repeat body c) (layer.Repeat body c) (outs-Repeat body c)
    ∙ both_true (list_all itself (map fits_stmt body)) (fits_whole c) (itself_true fits_stmt body h) k

loop_fits : (body : List Stmt) → True (list_all fits_stmt body) → True (fits_stmt (stmt.Loop body))
loop_fits body h = made (stmt.Loop body) (layer.Loop body) (outs-Loop body) ∙ itself_true fits_stmt body h

return_fits : (p : Pos) (o : Option Expr) → MaybeFits (λ e. True (fits_whole e)) o → True (fits_stmt (stmt.Return p o))
return_fits p o h = made (stmt.Return p o) (layer.Return p o) (outs-Return p o) ∙ if_fits o h

for_fits : (name : Ident) (start limit : Expr) (by : Option Expr) (body : List Stmt) → True (fits_whole start)
    → True (fits_whole limit) → MaybeFits (λ e. True (fits e)) by → True (list_all fits_stmt body)
    → True (fits_stmt (stmt.For name start limit by body))
for_fits name start limit by body h k l m =
    made (stmt.For name start limit by body) (layer.For name start limit by body) (outs-For name start limit by body)
    ∙ both_true (fits_whole start) (fits_whole limit && (fits_step by && list_all itself (map fits_stmt body))) h
    (both_true (fits_whole limit) (fits_step by && list_all itself (map fits_stmt body)) k
    (both_true (fits_step by) (list_all itself (map fits_stmt body)) (step_fits by l)
    (itself_true fits_stmt body m)))

with_fits : (d : Designator) (body : List Stmt) → True (fits_head d) → True (list_all fits_stmt body)
    → True (fits_stmt (stmt.With d body))
with_fits d body h k = made (stmt.With d body) (layer.With d body) (outs-With d body)
    ∙ both_true (fits_head d) (list_all itself (map fits_stmt body)) h (itself_true fits_stmt body k)

pub stmt_fits : (x : El (grammar stmt_rule).shape) → PartFits (grammar stmt_rule).shape x
    → FitsEl (grammar stmt_rule).shape x → True (fits_stmt (stmt_of x))
stmt_fits (inl (d, inl e)) b h = assign_fits d e h.0 h.1
stmt_fits (inl (d, inr args)) b h = call_fits d args h.0 h.1
stmt_fits (inr (inl p)) b h = made (stmt.If p.0 p.1.0 p.1.1) (layer.If p.0 p.1.0 p.1.1) (outs-If p.0 p.1.0 p.1.1)
    ∙ guarded p.0 p.1.0 p.1.1 h.0 h.1.0 h.1.1
stmt_fits (inr (inr (inl p))) b h = case_fits p.0 (present (with_first p.1.0)) p.1.1 h.0
    (there_true fits_arm (with_first p.1.0) h.1.0) h.1.1
stmt_fits (inr (inr (inr (inl p)))) b h = while_fits p.0 p.1 h.0 h.1
stmt_fits (inr (inr (inr (inr (inl p))))) b h = repeat_fits p.0 p.1 h.0 h.1
stmt_fits (inr (inr (inr (inr (inr (inl body)))))) b h = loop_fits body h
stmt_fits (inr (inr (inr (inr (inr (inr (inl t))))))) b h = made (stmt.Exit t.pos) (layer.Exit t.pos) (outs-Exit t.pos)
stmt_fits (inr (inr (inr (inr (inr (inr (inr (inl p)))))))) b h = return_fits p.0.pos p.1 h.1
stmt_fits (inr (inr (inr (inr (inr (inr (inr (inr (inl p))))))))) b h =
    for_fits (ident_of p.0) p.1.0 p.1.1.0 p.1.1.1.0 p.1.1.1.1 h.1.0 h.1.1.0 b.1.1.1.0 h.1.1.1.1
stmt_fits (inr (inr (inr (inr (inr (inr (inr (inr (inr p))))))))) b h = with_fits p.0 p.1 h.0 h.1

pub rest_fits : (x : El (grammar rest_rule).shape) → FitsEl (grammar rest_rule).shape x → True (fits_rest (rest_of x))
rest_fits (inl p) h = rest_made (rest.Elsif p.0 p.1.0 p.1.1) (layer.Elsif p.0 p.1.0 p.1.1) (outs-Elsif p.0 p.1.0 p.1.1)
    ∙ guarded p.0 p.1.0 p.1.1 h.0 h.1.0 h.1.1
rest_fits (inr None) h = rest_made (rest.Else None) (layer.Else None) (outs-Else None)
rest_fits (inr (Some xs)) h = rest_made (rest.Else (Some xs)) (layer.Else (Some xs)) (outs-Else (Some xs))
    ∙ itself_true fits_stmt xs h
