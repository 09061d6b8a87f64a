-- One layer of a tree at a time: its code, and how many addresses it keeps.
use Rattle.std.proofs.Common.{◌≡◌, ℕ, ap, ◌∙◌}
use Rattle.typed_tree.specs.declared.computed.Argument.{Argument, Argument-F, out-Argument, map-Argument, fold_out-Argument, fold-Argument}
use Rattle.typed_tree.specs.declared.computed.Call.{Call, Call-F, out-Call, map-Call, fold_out-Call}
use Rattle.typed_tree.specs.declared.computed.Component.{Component, Component-F, out-Component, map-Component, fold_out-Component, fold-Component}
use Rattle.typed_tree.specs.declared.computed.Link.{Link, Link-F, out-Link, map-Link, fold_out-Link, fold-Link}
use Rattle.typed_tree.specs.declared.computed.Place.{Place, Place-F, out-Place, map-Place, fold_out-Place}
use Rattle.typed_tree.specs.declared.computed.TypedExpr.{TypedExpr, TypedExpr-F, out-TypedExpr, map-TypedExpr, fold_out-TypedExpr}
use Rattle.typed_tree.specs.declared.statement.TypedArm.{TypedArm, TypedArm-F, out-TypedArm, map-TypedArm, fold_out-TypedArm, fold-TypedArm}
use Rattle.typed_tree.specs.declared.statement.TypedStmt.{TypedStmt, TypedStmt-F, out-TypedStmt, map-TypedStmt, fold_out-TypedStmt}
use Rattle.def_scheme.specs.Coded.{Coded}
use Rattle.def_scheme.specs.Exprs.{Part, Linked, Numbered, argument_layer, call_layer, component_layer, link_layer, expr_layer, place_layer, expr_part, place_code, call_code}
use Rattle.def_scheme.specs.Steps.{Arm, step_layer, arm_layer, step_code}
use Rattle.def_scheme.specs.Addresses.{addresses_of, addresses_armed}
use Rattle.def_scheme.specs.Addresses as count

-- ---- code

unfoldable pub argument_code : Numbered → Argument → Coded
argument_code n = fold-Argument Coded Coded Coded Linked Part Coded argument_layer (call_layer n) component_layer
    link_layer expr_layer place_layer

unfoldable pub component_code : Numbered → Component → Coded
component_code n = fold-Component Coded Coded Coded Linked Part Coded argument_layer (call_layer n) component_layer
    link_layer expr_layer place_layer

unfoldable pub link_part : Numbered → Link → Linked
link_part n = fold-Link Coded Coded Coded Linked Part Coded argument_layer (call_layer n) component_layer link_layer
    expr_layer place_layer

abbrev pub argument_opened : Numbered → Argument-F Argument Call Component Link TypedExpr Place
    → Argument-F Coded Coded Coded Linked Part Coded
argument_opened n x = map-Argument Argument Call Component Link TypedExpr Place Coded Coded Coded Linked Part Coded
    (argument_code n) (call_code n) (component_code n) (link_part n) (expr_part n) (place_code n) x

pub argument_at : (n : Numbered) (e : Argument) (x : Argument-F Argument Call Component Link TypedExpr Place)
    → out-Argument e ≡ x → argument_code n e ≡ argument_layer (argument_opened n x)
unfolding expr_part place_code call_code argument_code component_code link_part
argument_at n e x h = fold_out-Argument Coded Coded Coded Linked Part Coded argument_layer (call_layer n)
    component_layer link_layer expr_layer place_layer e
    ∙ ap (λ (y : Argument-F Argument Call Component Link TypedExpr Place). argument_layer (argument_opened n y)) h

abbrev pub call_opened : Numbered → Call-F Argument Call Component Link TypedExpr Place
    → Call-F Coded Coded Coded Linked Part Coded
call_opened n x = map-Call Argument Call Component Link TypedExpr Place Coded Coded Coded Linked Part Coded
    (argument_code n) (call_code n) (component_code n) (link_part n) (expr_part n) (place_code n) x

pub call_at : (n : Numbered) (e : Call) (x : Call-F Argument Call Component Link TypedExpr Place) → out-Call e ≡ x
    → call_code n e ≡ call_layer n (call_opened n x)
unfolding expr_part place_code call_code argument_code component_code link_part
call_at n e x h = fold_out-Call Coded Coded Coded Linked Part Coded argument_layer (call_layer n) component_layer
    link_layer expr_layer place_layer e ∙ ap
    (λ (y : Call-F Argument Call Component Link TypedExpr Place). call_layer n (call_opened n y)) h

abbrev pub component_opened : Numbered → Component-F Argument Call Component Link TypedExpr Place
    → Component-F Coded Coded Coded Linked Part Coded
component_opened n x = map-Component Argument Call Component Link TypedExpr Place Coded Coded Coded Linked Part Coded
    (argument_code n) (call_code n) (component_code n) (link_part n) (expr_part n) (place_code n) x

pub component_at : (n : Numbered) (e : Component) (x : Component-F Argument Call Component Link TypedExpr Place)
    → out-Component e ≡ x → component_code n e ≡ component_layer (component_opened n x)
unfolding expr_part place_code call_code argument_code component_code link_part
component_at n e x h = fold_out-Component Coded Coded Coded Linked Part Coded argument_layer (call_layer n)
    component_layer link_layer expr_layer place_layer e
    ∙ ap (λ (y : Component-F Argument Call Component Link TypedExpr Place). component_layer (component_opened n y)) h

abbrev pub link_opened : Numbered → Link-F Argument Call Component Link TypedExpr Place
    → Link-F Coded Coded Coded Linked Part Coded
link_opened n x = map-Link Argument Call Component Link TypedExpr Place Coded Coded Coded Linked Part Coded
    (argument_code n) (call_code n) (component_code n) (link_part n) (expr_part n) (place_code n) x

pub link_at : (n : Numbered) (e : Link) (x : Link-F Argument Call Component Link TypedExpr Place) → out-Link e ≡ x
    → link_part n e ≡ link_layer (link_opened n x)
unfolding expr_part place_code call_code argument_code component_code link_part
link_at n e x h = fold_out-Link Coded Coded Coded Linked Part Coded argument_layer (call_layer n) component_layer
    link_layer expr_layer place_layer e ∙ ap
    (λ (y : Link-F Argument Call Component Link TypedExpr Place). link_layer (link_opened n y)) h

abbrev pub expr_opened : Numbered → TypedExpr-F Argument Call Component Link TypedExpr Place
    → TypedExpr-F Coded Coded Coded Linked Part Coded
expr_opened n x = map-TypedExpr Argument Call Component Link TypedExpr Place Coded Coded Coded Linked Part Coded
    (argument_code n) (call_code n) (component_code n) (link_part n) (expr_part n) (place_code n) x

pub expr_at : (n : Numbered) (e : TypedExpr) (x : TypedExpr-F Argument Call Component Link TypedExpr Place)
    → out-TypedExpr e ≡ x → expr_part n e ≡ expr_layer (expr_opened n x)
unfolding expr_part place_code call_code argument_code component_code link_part
expr_at n e x h = fold_out-TypedExpr Coded Coded Coded Linked Part Coded argument_layer (call_layer n) component_layer
    link_layer expr_layer place_layer e ∙ ap
    (λ (y : TypedExpr-F Argument Call Component Link TypedExpr Place). expr_layer (expr_opened n y)) h

abbrev pub place_opened : Numbered → Place-F Argument Call Component Link TypedExpr Place
    → Place-F Coded Coded Coded Linked Part Coded
place_opened n x = map-Place Argument Call Component Link TypedExpr Place Coded Coded Coded Linked Part Coded
    (argument_code n) (call_code n) (component_code n) (link_part n) (expr_part n) (place_code n) x

pub place_at : (n : Numbered) (e : Place) (x : Place-F Argument Call Component Link TypedExpr Place) → out-Place e ≡ x
    → place_code n e ≡ place_layer (place_opened n x)
unfolding expr_part place_code call_code argument_code component_code link_part
place_at n e x h = fold_out-Place Coded Coded Coded Linked Part Coded argument_layer (call_layer n) component_layer
    link_layer expr_layer place_layer e ∙ ap
    (λ (y : Place-F Argument Call Component Link TypedExpr Place). place_layer (place_opened n y)) h

-- ---- statements

unfoldable pub armed : Numbered → TypedArm → Arm
armed n = fold-TypedArm Coded Arm (step_layer n) (arm_layer n)

abbrev pub step_opened : Numbered → TypedStmt-F TypedStmt TypedArm → TypedStmt-F Coded Arm
step_opened n x = map-TypedStmt TypedStmt TypedArm Coded Arm (step_code n) (armed n) x

abbrev pub arm_opened : Numbered → TypedArm-F TypedStmt TypedArm → TypedArm-F Coded Arm
arm_opened n x = map-TypedArm TypedStmt TypedArm Coded Arm (step_code n) (armed n) x

pub step_at : (n : Numbered) (e : TypedStmt) (x : TypedStmt-F TypedStmt TypedArm) → out-TypedStmt e ≡ x
    → step_code n e ≡ step_layer n (step_opened n x)
unfolding step_code armed
step_at n e x h = fold_out-TypedStmt Coded Arm (step_layer n) (arm_layer n) e
    ∙ ap (λ (y : TypedStmt-F TypedStmt TypedArm). step_layer n (step_opened n y)) h

pub arm_at : (n : Numbered) (e : TypedArm) (x : TypedArm-F TypedStmt TypedArm) → out-TypedArm e ≡ x
    → armed n e ≡ arm_layer n (arm_opened n x)
unfolding step_code armed
arm_at n e x h = fold_out-TypedArm Coded Arm (step_layer n) (arm_layer n) e
    ∙ ap (λ (y : TypedArm-F TypedStmt TypedArm). arm_layer n (arm_opened n y)) h

-- ---- locals for addresses

abbrev pub step_counted : TypedStmt-F TypedStmt TypedArm → TypedStmt-F ℕ ℕ
step_counted x = map-TypedStmt TypedStmt TypedArm ℕ ℕ addresses_of addresses_armed x

abbrev pub arm_counted : TypedArm-F TypedStmt TypedArm → TypedArm-F ℕ ℕ
arm_counted x = map-TypedArm TypedStmt TypedArm ℕ ℕ addresses_of addresses_armed x

pub step_counts : (e : TypedStmt) (x : TypedStmt-F TypedStmt TypedArm) → out-TypedStmt e ≡ x
    → addresses_of e ≡ count.step_layer (step_counted x)
unfolding addresses_of addresses_armed
step_counts e x h = fold_out-TypedStmt ℕ ℕ count.step_layer count.arm_layer e
    ∙ ap (λ (y : TypedStmt-F TypedStmt TypedArm). count.step_layer (step_counted y)) h

pub arm_counts : (e : TypedArm) (x : TypedArm-F TypedStmt TypedArm) → out-TypedArm e ≡ x
    → addresses_armed e ≡ count.arm_layer (arm_counted x)
unfolding addresses_of addresses_armed
arm_counts e x h = fold_out-TypedArm ℕ ℕ count.step_layer count.arm_layer e
    ∙ ap (λ (y : TypedArm-F TypedStmt TypedArm). count.arm_layer (arm_counted y)) h
