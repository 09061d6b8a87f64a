-- One layer of a tree at a time: its code, and the signatures of its calls.
use Rattle.std.proofs.Common.{◌≡◌, ℕ, ap, ◌∙◌}
use Rattle.typed_tree.specs.declared.computed.Argument.{Argument, Argument-F, out-Argument, map-Argument, fold_out-Argument, fold-Argument}
use Rattle.typed_tree.specs.declared.computed.Call.{Call, Call-F, out-Call, map-Call, fold_out-Call}
use Rattle.typed_tree.specs.declared.computed.Component.{Component, Component-F, out-Component, map-Component, fold_out-Component, fold-Component}
use Rattle.typed_tree.specs.declared.computed.Link.{Link, Link-F, out-Link, map-Link, fold_out-Link, fold-Link}
use Rattle.typed_tree.specs.declared.computed.Place.{Place, Place-F, out-Place, map-Place, fold_out-Place}
use Rattle.typed_tree.specs.declared.computed.TypedExpr.{TypedExpr, TypedExpr-F, out-TypedExpr, map-TypedExpr, fold_out-TypedExpr}
use Rattle.typed_tree.specs.declared.statement.TypedArm.{TypedArm, TypedArm-F, out-TypedArm, map-TypedArm, fold_out-TypedArm, fold-TypedArm}
use Rattle.typed_tree.specs.declared.statement.TypedStmt.{TypedStmt, TypedStmt-F, out-TypedStmt, map-TypedStmt, fold_out-TypedStmt}
use Rattle.typed_tree.specs.declared.typed_module.TypedModule.{TypedModule}
use Rattle.def_scheme.specs.Coded.{Coded}
use Rattle.def_scheme.specs.Exprs.{Part, Linked, Numbered, argument_layer, call_layer, component_layer, link_layer, expr_layer, place_layer, expr_part, place_code, call_code}
use Rattle.def_scheme.specs.Steps.{Arm, step_layer, arm_layer, step_code}
use Rattle.def_scheme.specs.Signatures.{Signatures, of_expr, of_place, of_call, of_step}
use Rattle.def_scheme.specs.Signatures as sign
use Rattle.def_scheme.specs.Addresses.{addresses_of, addresses_armed}
use Rattle.def_scheme.specs.Addresses as count

-- ---- code

unfoldable pub argument_code : Numbered → Argument → Coded
argument_code n = fold-Argument Coded Coded Coded Linked Part Coded argument_layer (call_layer n) component_layer
    link_layer expr_layer place_layer

unfoldable pub component_code : Numbered → Component → Coded
component_code n = fold-Component Coded Coded Coded Linked Part Coded argument_layer (call_layer n) component_layer
    link_layer expr_layer place_layer

unfoldable pub link_part : Numbered → Link → Linked
link_part n = fold-Link Coded Coded Coded Linked Part Coded argument_layer (call_layer n) component_layer link_layer
    expr_layer place_layer

abbrev pub argument_opened : Numbered → Argument-F Argument Call Component Link TypedExpr Place
    → Argument-F Coded Coded Coded Linked Part Coded
argument_opened n x = map-Argument Argument Call Component Link TypedExpr Place Coded Coded Coded Linked Part Coded
    (argument_code n) (call_code n) (component_code n) (link_part n) (expr_part n) (place_code n) x

pub argument_at : (n : Numbered) (e : Argument) (x : Argument-F Argument Call Component Link TypedExpr Place)
    → out-Argument e ≡ x → argument_code n e ≡ argument_layer (argument_opened n x)
unfolding expr_part place_code call_code argument_code component_code link_part
argument_at n e x h = fold_out-Argument Coded Coded Coded Linked Part Coded argument_layer (call_layer n)
    component_layer link_layer expr_layer place_layer e
    ∙ ap (λ (y : Argument-F Argument Call Component Link TypedExpr Place). argument_layer (argument_opened n y)) h

abbrev pub call_opened : Numbered → Call-F Argument Call Component Link TypedExpr Place
    → Call-F Coded Coded Coded Linked Part Coded
call_opened n x = map-Call Argument Call Component Link TypedExpr Place Coded Coded Coded Linked Part Coded
    (argument_code n) (call_code n) (component_code n) (link_part n) (expr_part n) (place_code n) x

pub call_at : (n : Numbered) (e : Call) (x : Call-F Argument Call Component Link TypedExpr Place) → out-Call e ≡ x
    → call_code n e ≡ call_layer n (call_opened n x)
unfolding expr_part place_code call_code argument_code component_code link_part
call_at n e x h = fold_out-Call Coded Coded Coded Linked Part Coded argument_layer (call_layer n) component_layer
    link_layer expr_layer place_layer e ∙ ap
    (λ (y : Call-F Argument Call Component Link TypedExpr Place). call_layer n (call_opened n y)) h

abbrev pub component_opened : Numbered → Component-F Argument Call Component Link TypedExpr Place
    → Component-F Coded Coded Coded Linked Part Coded
component_opened n x = map-Component Argument Call Component Link TypedExpr Place Coded Coded Coded Linked Part Coded
    (argument_code n) (call_code n) (component_code n) (link_part n) (expr_part n) (place_code n) x

pub component_at : (n : Numbered) (e : Component) (x : Component-F Argument Call Component Link TypedExpr Place)
    → out-Component e ≡ x → component_code n e ≡ component_layer (component_opened n x)
unfolding expr_part place_code call_code argument_code component_code link_part
component_at n e x h = fold_out-Component Coded Coded Coded Linked Part Coded argument_layer (call_layer n)
    component_layer link_layer expr_layer place_layer e
    ∙ ap (λ (y : Component-F Argument Call Component Link TypedExpr Place). component_layer (component_opened n y)) h

abbrev pub link_opened : Numbered → Link-F Argument Call Component Link TypedExpr Place
    → Link-F Coded Coded Coded Linked Part Coded
link_opened n x = map-Link Argument Call Component Link TypedExpr Place Coded Coded Coded Linked Part Coded
    (argument_code n) (call_code n) (component_code n) (link_part n) (expr_part n) (place_code n) x

pub link_at : (n : Numbered) (e : Link) (x : Link-F Argument Call Component Link TypedExpr Place) → out-Link e ≡ x
    → link_part n e ≡ link_layer (link_opened n x)
unfolding expr_part place_code call_code argument_code component_code link_part
link_at n e x h = fold_out-Link Coded Coded Coded Linked Part Coded argument_layer (call_layer n) component_layer
    link_layer expr_layer place_layer e ∙ ap
    (λ (y : Link-F Argument Call Component Link TypedExpr Place). link_layer (link_opened n y)) h

abbrev pub expr_opened : Numbered → TypedExpr-F Argument Call Component Link TypedExpr Place
    → TypedExpr-F Coded Coded Coded Linked Part Coded
expr_opened n x = map-TypedExpr Argument Call Component Link TypedExpr Place Coded Coded Coded Linked Part Coded
    (argument_code n) (call_code n) (component_code n) (link_part n) (expr_part n) (place_code n) x

pub expr_at : (n : Numbered) (e : TypedExpr) (x : TypedExpr-F Argument Call Component Link TypedExpr Place)
    → out-TypedExpr e ≡ x → expr_part n e ≡ expr_layer (expr_opened n x)
unfolding expr_part place_code call_code argument_code component_code link_part
expr_at n e x h = fold_out-TypedExpr Coded Coded Coded Linked Part Coded argument_layer (call_layer n) component_layer
    link_layer expr_layer place_layer e ∙ ap
    (λ (y : TypedExpr-F Argument Call Component Link TypedExpr Place). expr_layer (expr_opened n y)) h

abbrev pub place_opened : Numbered → Place-F Argument Call Component Link TypedExpr Place
    → Place-F Coded Coded Coded Linked Part Coded
place_opened n x = map-Place Argument Call Component Link TypedExpr Place Coded Coded Coded Linked Part Coded
    (argument_code n) (call_code n) (component_code n) (link_part n) (expr_part n) (place_code n) x

pub place_at : (n : Numbered) (e : Place) (x : Place-F Argument Call Component Link TypedExpr Place) → out-Place e ≡ x
    → place_code n e ≡ place_layer (place_opened n x)
unfolding expr_part place_code call_code argument_code component_code link_part
place_at n e x h = fold_out-Place Coded Coded Coded Linked Part Coded argument_layer (call_layer n) component_layer
    link_layer expr_layer place_layer e ∙ ap
    (λ (y : Place-F Argument Call Component Link TypedExpr Place). place_layer (place_opened n y)) h

-- ---- signatures

unfoldable pub of_argument : TypedModule → Argument → Signatures
of_argument m = fold-Argument Signatures Signatures Signatures Signatures Signatures Signatures (sign.argument_layer m)
    (sign.call_layer m) (sign.component_layer m) (sign.link_layer m) (sign.expr_layer m) (sign.place_layer m)

unfoldable pub of_component : TypedModule → Component → Signatures
of_component m = fold-Component Signatures Signatures Signatures Signatures Signatures Signatures
    (sign.argument_layer m) (sign.call_layer m) (sign.component_layer m) (sign.link_layer m) (sign.expr_layer m)
    (sign.place_layer m)

unfoldable pub of_link : TypedModule → Link → Signatures
of_link m = fold-Link Signatures Signatures Signatures Signatures Signatures Signatures (sign.argument_layer m)
    (sign.call_layer m) (sign.component_layer m) (sign.link_layer m) (sign.expr_layer m) (sign.place_layer m)

abbrev pub argument_signed : TypedModule → Argument-F Argument Call Component Link TypedExpr Place
    → Argument-F Signatures Signatures Signatures Signatures Signatures Signatures
argument_signed m x = map-Argument Argument Call Component Link TypedExpr Place Signatures Signatures Signatures
    Signatures Signatures Signatures (of_argument m) (of_call m) (of_component m) (of_link m) (of_expr m) (of_place m) x

pub argument_signs : (m : TypedModule) (e : Argument) (x : Argument-F Argument Call Component Link TypedExpr Place)
    → out-Argument e ≡ x → of_argument m e ≡ sign.argument_layer m (argument_signed m x)
unfolding of_expr of_place of_call of_argument of_component of_link
argument_signs m e x h = fold_out-Argument Signatures Signatures Signatures Signatures Signatures Signatures
    (sign.argument_layer m) (sign.call_layer m) (sign.component_layer m) (sign.link_layer m) (sign.expr_layer m)
    (sign.place_layer m) e ∙ ap (λ (y : Argument-F Argument Call Component Link TypedExpr Place). sign.argument_layer m
    (argument_signed m y)) h

abbrev pub call_signed : TypedModule → Call-F Argument Call Component Link TypedExpr Place
    → Call-F Signatures Signatures Signatures Signatures Signatures Signatures
call_signed m x = map-Call Argument Call Component Link TypedExpr Place Signatures Signatures Signatures Signatures
    Signatures Signatures (of_argument m) (of_call m) (of_component m) (of_link m) (of_expr m) (of_place m) x

pub call_signs : (m : TypedModule) (e : Call) (x : Call-F Argument Call Component Link TypedExpr Place) → out-Call e ≡ x
    → of_call m e ≡ sign.call_layer m (call_signed m x)
unfolding of_expr of_place of_call of_argument of_component of_link
call_signs m e x h = fold_out-Call Signatures Signatures Signatures Signatures Signatures Signatures
    (sign.argument_layer m) (sign.call_layer m) (sign.component_layer m) (sign.link_layer m) (sign.expr_layer m)
    (sign.place_layer m) e ∙ ap (λ (y : Call-F Argument Call Component Link TypedExpr Place). sign.call_layer m
    (call_signed m y)) h

abbrev pub component_signed : TypedModule → Component-F Argument Call Component Link TypedExpr Place
    → Component-F Signatures Signatures Signatures Signatures Signatures Signatures
component_signed m x = map-Component Argument Call Component Link TypedExpr Place Signatures Signatures Signatures
    Signatures Signatures Signatures (of_argument m) (of_call m) (of_component m) (of_link m) (of_expr m) (of_place m) x

pub component_signs : (m : TypedModule) (e : Component) (x : Component-F Argument Call Component Link TypedExpr Place)
    → out-Component e ≡ x → of_component m e ≡ sign.component_layer m (component_signed m x)
unfolding of_expr of_place of_call of_argument of_component of_link
component_signs m e x h = fold_out-Component Signatures Signatures Signatures Signatures Signatures Signatures
    (sign.argument_layer m) (sign.call_layer m) (sign.component_layer m) (sign.link_layer m) (sign.expr_layer m)
    (sign.place_layer m) e ∙ ap (λ (y : Component-F Argument Call Component Link TypedExpr Place). sign.component_layer
    m (component_signed m y)) h

abbrev pub link_signed : TypedModule → Link-F Argument Call Component Link TypedExpr Place
    → Link-F Signatures Signatures Signatures Signatures Signatures Signatures
link_signed m x = map-Link Argument Call Component Link TypedExpr Place Signatures Signatures Signatures Signatures
    Signatures Signatures (of_argument m) (of_call m) (of_component m) (of_link m) (of_expr m) (of_place m) x

pub link_signs : (m : TypedModule) (e : Link) (x : Link-F Argument Call Component Link TypedExpr Place) → out-Link e ≡ x
    → of_link m e ≡ sign.link_layer m (link_signed m x)
unfolding of_expr of_place of_call of_argument of_component of_link
link_signs m e x h = fold_out-Link Signatures Signatures Signatures Signatures Signatures Signatures
    (sign.argument_layer m) (sign.call_layer m) (sign.component_layer m) (sign.link_layer m) (sign.expr_layer m)
    (sign.place_layer m) e ∙ ap (λ (y : Link-F Argument Call Component Link TypedExpr Place). sign.link_layer m
    (link_signed m y)) h

abbrev pub expr_signed : TypedModule → TypedExpr-F Argument Call Component Link TypedExpr Place
    → TypedExpr-F Signatures Signatures Signatures Signatures Signatures Signatures
expr_signed m x = map-TypedExpr Argument Call Component Link TypedExpr Place Signatures Signatures Signatures Signatures
    Signatures Signatures (of_argument m) (of_call m) (of_component m) (of_link m) (of_expr m) (of_place m) x

pub expr_signs : (m : TypedModule) (e : TypedExpr) (x : TypedExpr-F Argument Call Component Link TypedExpr Place)
    → out-TypedExpr e ≡ x → of_expr m e ≡ sign.expr_layer m (expr_signed m x)
unfolding of_expr of_place of_call of_argument of_component of_link
expr_signs m e x h = fold_out-TypedExpr Signatures Signatures Signatures Signatures Signatures Signatures
    (sign.argument_layer m) (sign.call_layer m) (sign.component_layer m) (sign.link_layer m) (sign.expr_layer m)
    (sign.place_layer m) e ∙ ap (λ (y : TypedExpr-F Argument Call Component Link TypedExpr Place). sign.expr_layer m
    (expr_signed m y)) h

abbrev pub place_signed : TypedModule → Place-F Argument Call Component Link TypedExpr Place
    → Place-F Signatures Signatures Signatures Signatures Signatures Signatures
place_signed m x = map-Place Argument Call Component Link TypedExpr Place Signatures Signatures Signatures Signatures
    Signatures Signatures (of_argument m) (of_call m) (of_component m) (of_link m) (of_expr m) (of_place m) x

pub place_signs : (m : TypedModule) (e : Place) (x : Place-F Argument Call Component Link TypedExpr Place)
    → out-Place e ≡ x → of_place m e ≡ sign.place_layer m (place_signed m x)
unfolding of_expr of_place of_call of_argument of_component of_link
place_signs m e x h = fold_out-Place Signatures Signatures Signatures Signatures Signatures Signatures
    (sign.argument_layer m) (sign.call_layer m) (sign.component_layer m) (sign.link_layer m) (sign.expr_layer m)
    (sign.place_layer m) e ∙ ap (λ (y : Place-F Argument Call Component Link TypedExpr Place). sign.place_layer m
    (place_signed m y)) h

-- ---- statements

unfoldable pub armed : Numbered → TypedArm → Arm
armed n = fold-TypedArm Coded Arm (step_layer n) (arm_layer n)

abbrev pub step_opened : Numbered → TypedStmt-F TypedStmt TypedArm → TypedStmt-F Coded Arm
step_opened n x = map-TypedStmt TypedStmt TypedArm Coded Arm (step_code n) (armed n) x

abbrev pub arm_opened : Numbered → TypedArm-F TypedStmt TypedArm → TypedArm-F Coded Arm
arm_opened n x = map-TypedArm TypedStmt TypedArm Coded Arm (step_code n) (armed n) x

pub step_at : (n : Numbered) (e : TypedStmt) (x : TypedStmt-F TypedStmt TypedArm) → out-TypedStmt e ≡ x
    → step_code n e ≡ step_layer n (step_opened n x)
unfolding step_code armed
step_at n e x h = fold_out-TypedStmt Coded Arm (step_layer n) (arm_layer n) e
    ∙ ap (λ (y : TypedStmt-F TypedStmt TypedArm). step_layer n (step_opened n y)) h

pub arm_at : (n : Numbered) (e : TypedArm) (x : TypedArm-F TypedStmt TypedArm) → out-TypedArm e ≡ x
    → armed n e ≡ arm_layer n (arm_opened n x)
unfolding step_code armed
arm_at n e x h = fold_out-TypedArm Coded Arm (step_layer n) (arm_layer n) e
    ∙ ap (λ (y : TypedArm-F TypedStmt TypedArm). arm_layer n (arm_opened n y)) h

unfoldable pub of_arm : TypedModule → TypedArm → Signatures
of_arm m = fold-TypedArm Signatures Signatures (sign.step_layer m) (sign.arm_layer m)

abbrev pub step_signed : TypedModule → TypedStmt-F TypedStmt TypedArm → TypedStmt-F Signatures Signatures
step_signed m x = map-TypedStmt TypedStmt TypedArm Signatures Signatures (of_step m) (of_arm m) x

abbrev pub arm_signed : TypedModule → TypedArm-F TypedStmt TypedArm → TypedArm-F Signatures Signatures
arm_signed m x = map-TypedArm TypedStmt TypedArm Signatures Signatures (of_step m) (of_arm m) x

pub step_signs : (m : TypedModule) (e : TypedStmt) (x : TypedStmt-F TypedStmt TypedArm) → out-TypedStmt e ≡ x
    → of_step m e ≡ sign.step_layer m (step_signed m x)
unfolding of_step of_arm
step_signs m e x h = fold_out-TypedStmt Signatures Signatures (sign.step_layer m) (sign.arm_layer m) e
    ∙ ap (λ (y : TypedStmt-F TypedStmt TypedArm). sign.step_layer m (step_signed m y)) h

pub arm_signs : (m : TypedModule) (e : TypedArm) (x : TypedArm-F TypedStmt TypedArm) → out-TypedArm e ≡ x
    → of_arm m e ≡ sign.arm_layer m (arm_signed m x)
unfolding of_step of_arm
arm_signs m e x h = fold_out-TypedArm Signatures Signatures (sign.step_layer m) (sign.arm_layer m) e
    ∙ ap (λ (y : TypedArm-F TypedStmt TypedArm). sign.arm_layer m (arm_signed m y)) h

-- ---- locals for addresses

abbrev pub step_counted : TypedStmt-F TypedStmt TypedArm → TypedStmt-F ℕ ℕ
step_counted x = map-TypedStmt TypedStmt TypedArm ℕ ℕ addresses_of addresses_armed x

abbrev pub arm_counted : TypedArm-F TypedStmt TypedArm → TypedArm-F ℕ ℕ
arm_counted x = map-TypedArm TypedStmt TypedArm ℕ ℕ addresses_of addresses_armed x

pub step_counts : (e : TypedStmt) (x : TypedStmt-F TypedStmt TypedArm) → out-TypedStmt e ≡ x
    → addresses_of e ≡ count.step_layer (step_counted x)
unfolding addresses_of addresses_armed
step_counts e x h = fold_out-TypedStmt ℕ ℕ count.step_layer count.arm_layer e
    ∙ ap (λ (y : TypedStmt-F TypedStmt TypedArm). count.step_layer (step_counted y)) h

pub arm_counts : (e : TypedArm) (x : TypedArm-F TypedStmt TypedArm) → out-TypedArm e ≡ x
    → addresses_armed e ≡ count.arm_layer (arm_counted x)
unfolding addresses_of addresses_armed
arm_counts e x h = fold_out-TypedArm ℕ ℕ count.step_layer count.arm_layer e
    ∙ ap (λ (y : TypedArm-F TypedStmt TypedArm). count.arm_layer (arm_counted y)) h
