-- What typed trees weigh, by their variants, in each of the three ways.
use Rattle.std.proofs.Common.{◌≡◌, ℕ, List, length, Some, None, refl, ap, ◌∙◌, arith}
use Rattle.std.specs.Prelude.{map}
use Rattle.typed_tree.specs.declared.computed.Argument.{Argument, Argument-F, out-Argument, map-Argument}
use Rattle.typed_tree.specs.declared.computed.Argument.{fold_out-Argument}
use Rattle.typed_tree.specs.declared.computed.Call.{Call, Call-F, out-Call, map-Call, fold_out-Call}
use Rattle.typed_tree.specs.declared.computed.Component.{Component, Component-F, out-Component, map-Component}
use Rattle.typed_tree.specs.declared.computed.Component.{fold_out-Component}
use Rattle.typed_tree.specs.declared.computed.Link.{Link, Link-F, out-Link, map-Link, fold_out-Link}
use Rattle.typed_tree.specs.declared.computed.TypedExpr.{TypedExpr, TypedExpr-F, out-TypedExpr, map-TypedExpr}
use Rattle.typed_tree.specs.declared.computed.TypedExpr.{fold_out-TypedExpr}
use Rattle.typed_tree.specs.declared.computed.Place.{Place, Place-F, out-Place, map-Place, fold_out-Place}
use Rattle.typed_tree.specs.declared.computed.Argument.TheOpen as layer
use Rattle.typed_tree.specs.declared.statement.TypedArm.{TypedArm, TypedArm-F, out-TypedArm, map-TypedArm}
use Rattle.typed_tree.specs.declared.statement.TypedArm.{fold_out-TypedArm}
use Rattle.typed_tree.specs.declared.statement.TypedStmt.{TypedStmt, TypedStmt-F, out-TypedStmt, map-TypedStmt}
use Rattle.typed_tree.specs.declared.statement.TypedStmt.{fold_out-TypedStmt}
use Rattle.typed_tree.specs.declared.statement.TypedStmt.TheOpen as slayer
use Rattle.law_encoding.specs.TypedSizes as size
use Rattle.law_encoding.specs.TypedSizes.{size_typed, size_place, size_component, size_link, size_call, size_passed}
use Rattle.law_encoding.specs.TypedSizes.{size_step, size_arm}
use Rattle.law_encoding.specs.TypedNesting as depth
use Rattle.law_encoding.specs.TypedNesting.{depth_typed, depth_place, depth_component, depth_link, depth_call}
use Rattle.law_encoding.specs.TypedNesting.{depth_passed, depth_step, depth_arm}
use Rattle.law_encoding.specs.Outward as far
use Rattle.law_encoding.specs.Outward.{outward_typed, outward_place, outward_component, outward_link, outward_call}
use Rattle.law_encoding.specs.Outward.{outward_passed, outward_step, outward_arm}
use Rattle.law_encoding.proofs.Ways.{Way, total_of, by_size, by_depth, by_distance, ◌⊕⟨◌⟩◌, node, up, operand, in_if}
use Rattle.law_encoding.proofs.Ways.{in_case}
use Rattle.law_encoding.proofs.Ways.{in_loop, control, labels, all_of, weight_root, weight_typed, weight_place}
use Rattle.law_encoding.proofs.Ways.{weight_component, weight_link, weight_call, weight_passed, weight_step, weight_arm}
use Rattle.law_encoding.proofs.Ways.{weight_body, weight_body_if}
use Rattle.law_encoding.proofs.WaySums.{total_all}

-- ---- the layers of typed trees

abbrev pub argument_layer : Way → Argument-F ℕ ℕ ℕ ℕ ℕ ℕ → ℕ
argument_layer by_size = size.argument_layer
argument_layer by_depth = depth.argument_layer
argument_layer (by_distance l) = far.argument_layer

abbrev pub weights_argument : Way → Argument-F Argument Call Component Link TypedExpr Place → Argument-F ℕ ℕ ℕ ℕ ℕ ℕ
weights_argument w x =
    map-Argument Argument Call Component Link TypedExpr Place ℕ ℕ ℕ ℕ ℕ ℕ
    (weight_passed w) (weight_call w) (weight_component w) (weight_link w) (weight_typed w) (weight_place w) x

pub at_argument : (w : Way) (e : Argument) (x : Argument-F Argument Call Component Link TypedExpr Place)
    → out-Argument e ≡ x → weight_passed w e ≡ argument_layer w (weights_argument w x)
unfolding size_passed size_call size_component size_link size_typed size_place depth_passed depth_call depth_component
    depth_link depth_typed depth_place outward_passed outward_call outward_component outward_link outward_typed
    outward_place
at_argument by_size e x h =
    fold_out-Argument _ _ _ _ _ _ _ _ _ _ _ _ e ∙ ap (argument_layer by_size) (ap (weights_argument by_size) h)
at_argument by_depth e x h =
    fold_out-Argument _ _ _ _ _ _ _ _ _ _ _ _ e ∙ ap (argument_layer by_depth) (ap (weights_argument by_depth) h)
at_argument (by_distance l) e x h = fold_out-Argument _ _ _ _ _ _ _ _ _ _ _ _ e ∙ ap (argument_layer (by_distance l))
    (ap (weights_argument (by_distance l)) h)

abbrev pub call_layer : Way → Call-F ℕ ℕ ℕ ℕ ℕ ℕ → ℕ
call_layer by_size = size.call_layer
call_layer by_depth = depth.call_layer
call_layer (by_distance l) = far.call_layer

abbrev pub weights_call : Way → Call-F Argument Call Component Link TypedExpr Place → Call-F ℕ ℕ ℕ ℕ ℕ ℕ
weights_call w x =
    map-Call Argument Call Component Link TypedExpr Place ℕ ℕ ℕ ℕ ℕ ℕ
    (weight_passed w) (weight_call w) (weight_component w) (weight_link w) (weight_typed w) (weight_place w) x

pub at_call : (w : Way) (e : Call) (x : Call-F Argument Call Component Link TypedExpr Place) → out-Call e ≡ x
    → weight_call w e ≡ call_layer w (weights_call w x)
unfolding size_passed size_call size_component size_link size_typed size_place depth_passed depth_call depth_component
    depth_link depth_typed depth_place outward_passed outward_call outward_component outward_link outward_typed
    outward_place
at_call by_size e x h = fold_out-Call _ _ _ _ _ _ _ _ _ _ _ _ e ∙ ap (call_layer by_size) (ap (weights_call by_size) h)
at_call by_depth e x h =
    fold_out-Call _ _ _ _ _ _ _ _ _ _ _ _ e ∙ ap (call_layer by_depth) (ap (weights_call by_depth) h)
at_call (by_distance l) e x h =
    fold_out-Call _ _ _ _ _ _ _ _ _ _ _ _ e ∙ ap (call_layer (by_distance l)) (ap (weights_call (by_distance l)) h)

abbrev pub component_layer : Way → Component-F ℕ ℕ ℕ ℕ ℕ ℕ → ℕ
component_layer by_size = size.component_layer
component_layer by_depth = depth.component_layer
component_layer (by_distance l) = far.component_layer

abbrev pub weights_component : Way → Component-F Argument Call Component Link TypedExpr Place → Component-F ℕ ℕ ℕ ℕ ℕ ℕ
weights_component w x =
    map-Component Argument Call Component Link TypedExpr Place ℕ ℕ ℕ ℕ ℕ ℕ
    (weight_passed w) (weight_call w) (weight_component w) (weight_link w) (weight_typed w) (weight_place w) x

pub at_component : (w : Way) (e : Component) (x : Component-F Argument Call Component Link TypedExpr Place)
    → out-Component e ≡ x → weight_component w e ≡ component_layer w (weights_component w x)
unfolding size_passed size_call size_component size_link size_typed size_place depth_passed depth_call depth_component
    depth_link depth_typed depth_place outward_passed outward_call outward_component outward_link outward_typed
    outward_place
at_component by_size e x h =
    fold_out-Component _ _ _ _ _ _ _ _ _ _ _ _ e ∙ ap (component_layer by_size) (ap (weights_component by_size) h)
at_component by_depth e x h =
    fold_out-Component _ _ _ _ _ _ _ _ _ _ _ _ e ∙ ap (component_layer by_depth) (ap (weights_component by_depth) h)
at_component (by_distance l) e x h = fold_out-Component _ _ _ _ _ _ _ _ _ _ _ _ e ∙ ap (component_layer (by_distance l))
    (ap (weights_component (by_distance l)) h)

abbrev pub link_layer : Way → Link-F ℕ ℕ ℕ ℕ ℕ ℕ → ℕ
link_layer by_size = size.link_layer
link_layer by_depth = depth.link_layer
link_layer (by_distance l) = far.link_layer

abbrev pub weights_link : Way → Link-F Argument Call Component Link TypedExpr Place → Link-F ℕ ℕ ℕ ℕ ℕ ℕ
weights_link w x =
    map-Link Argument Call Component Link TypedExpr Place ℕ ℕ ℕ ℕ ℕ ℕ
    (weight_passed w) (weight_call w) (weight_component w) (weight_link w) (weight_typed w) (weight_place w) x

pub at_link : (w : Way) (e : Link) (x : Link-F Argument Call Component Link TypedExpr Place) → out-Link e ≡ x
    → weight_link w e ≡ link_layer w (weights_link w x)
unfolding size_passed size_call size_component size_link size_typed size_place depth_passed depth_call depth_component
    depth_link depth_typed depth_place outward_passed outward_call outward_component outward_link outward_typed
    outward_place
at_link by_size e x h = fold_out-Link _ _ _ _ _ _ _ _ _ _ _ _ e ∙ ap (link_layer by_size) (ap (weights_link by_size) h)
at_link by_depth e x h =
    fold_out-Link _ _ _ _ _ _ _ _ _ _ _ _ e ∙ ap (link_layer by_depth) (ap (weights_link by_depth) h)
at_link (by_distance l) e x h =
    fold_out-Link _ _ _ _ _ _ _ _ _ _ _ _ e ∙ ap (link_layer (by_distance l)) (ap (weights_link (by_distance l)) h)

abbrev pub expr_layer : Way → TypedExpr-F ℕ ℕ ℕ ℕ ℕ ℕ → ℕ
expr_layer by_size = size.expr_layer
expr_layer by_depth = depth.expr_layer
expr_layer (by_distance l) = far.expr_layer

abbrev pub weights_expr : Way → TypedExpr-F Argument Call Component Link TypedExpr Place → TypedExpr-F ℕ ℕ ℕ ℕ ℕ ℕ
weights_expr w x =
    map-TypedExpr Argument Call Component Link TypedExpr Place ℕ ℕ ℕ ℕ ℕ ℕ
    (weight_passed w) (weight_call w) (weight_component w) (weight_link w) (weight_typed w) (weight_place w) x

pub at_expr : (w : Way) (e : TypedExpr) (x : TypedExpr-F Argument Call Component Link TypedExpr Place)
    → out-TypedExpr e ≡ x → weight_typed w e ≡ expr_layer w (weights_expr w x)
unfolding size_passed size_call size_component size_link size_typed size_place depth_passed depth_call depth_component
    depth_link depth_typed depth_place outward_passed outward_call outward_component outward_link outward_typed
    outward_place
at_expr by_size e x h =
    fold_out-TypedExpr _ _ _ _ _ _ _ _ _ _ _ _ e ∙ ap (expr_layer by_size) (ap (weights_expr by_size) h)
at_expr by_depth e x h =
    fold_out-TypedExpr _ _ _ _ _ _ _ _ _ _ _ _ e ∙ ap (expr_layer by_depth) (ap (weights_expr by_depth) h)
at_expr (by_distance l) e x h =
    fold_out-TypedExpr _ _ _ _ _ _ _ _ _ _ _ _ e ∙ ap (expr_layer (by_distance l)) (ap (weights_expr (by_distance l)) h)

abbrev pub place_layer : Way → Place-F ℕ ℕ ℕ ℕ ℕ ℕ → ℕ
place_layer by_size = size.place_layer
place_layer by_depth = depth.place_layer
place_layer (by_distance l) = far.place_layer

abbrev pub weights_place : Way → Place-F Argument Call Component Link TypedExpr Place → Place-F ℕ ℕ ℕ ℕ ℕ ℕ
weights_place w x =
    map-Place Argument Call Component Link TypedExpr Place ℕ ℕ ℕ ℕ ℕ ℕ
    (weight_passed w) (weight_call w) (weight_component w) (weight_link w) (weight_typed w) (weight_place w) x

pub at_place : (w : Way) (e : Place) (x : Place-F Argument Call Component Link TypedExpr Place) → out-Place e ≡ x
    → weight_place w e ≡ place_layer w (weights_place w x)
unfolding size_passed size_call size_component size_link size_typed size_place depth_passed depth_call depth_component
    depth_link depth_typed depth_place outward_passed outward_call outward_component outward_link outward_typed
    outward_place
at_place by_size e x h =
    fold_out-Place _ _ _ _ _ _ _ _ _ _ _ _ e ∙ ap (place_layer by_size) (ap (weights_place by_size) h)
at_place by_depth e x h =
    fold_out-Place _ _ _ _ _ _ _ _ _ _ _ _ e ∙ ap (place_layer by_depth) (ap (weights_place by_depth) h)
at_place (by_distance l) e x h =
    fold_out-Place _ _ _ _ _ _ _ _ _ _ _ _ e ∙ ap (place_layer (by_distance l)) (ap (weights_place (by_distance l)) h)

abbrev pub step_layer : Way → TypedStmt-F ℕ ℕ → ℕ
step_layer by_size = size.step_layer
step_layer by_depth = depth.step_layer
step_layer (by_distance l) = far.step_layer

abbrev pub weights_step : Way → TypedStmt-F TypedStmt TypedArm → TypedStmt-F ℕ ℕ
weights_step w x = map-TypedStmt TypedStmt TypedArm ℕ ℕ (weight_step w) (weight_arm w) x

pub at_step : (w : Way) (e : TypedStmt) (x : TypedStmt-F TypedStmt TypedArm) → out-TypedStmt e ≡ x
    → weight_step w e ≡ step_layer w (weights_step w x)
unfolding size_step size_arm depth_step depth_arm outward_step outward_arm
at_step by_size e x h = fold_out-TypedStmt _ _ _ _ e ∙ ap (step_layer by_size) (ap (weights_step by_size) h)
at_step by_depth e x h = fold_out-TypedStmt _ _ _ _ e ∙ ap (step_layer by_depth) (ap (weights_step by_depth) h)
at_step (by_distance l) e x h =
    fold_out-TypedStmt _ _ _ _ e ∙ ap (step_layer (by_distance l)) (ap (weights_step (by_distance l)) h)

abbrev pub arm_layer : Way → TypedArm-F ℕ ℕ → ℕ
arm_layer by_size = size.arm_layer
arm_layer by_depth = depth.arm_layer
arm_layer (by_distance l) = far.arm_layer

abbrev pub weights_arm : Way → TypedArm-F TypedStmt TypedArm → TypedArm-F ℕ ℕ
weights_arm w x = map-TypedArm TypedStmt TypedArm ℕ ℕ (weight_step w) (weight_arm w) x

pub at_arm : (w : Way) (e : TypedArm) (x : TypedArm-F TypedStmt TypedArm) → out-TypedArm e ≡ x
    → weight_arm w e ≡ arm_layer w (weights_arm w x)
unfolding size_step size_arm depth_step depth_arm outward_step outward_arm
at_arm by_size e x h = fold_out-TypedArm _ _ _ _ e ∙ ap (arm_layer by_size) (ap (weights_arm by_size) h)
at_arm by_depth e x h = fold_out-TypedArm _ _ _ _ e ∙ ap (arm_layer by_depth) (ap (weights_arm by_depth) h)
at_arm (by_distance l) e x h =
    fold_out-TypedArm _ _ _ _ e ∙ ap (arm_layer (by_distance l)) (ap (weights_arm (by_distance l)) h)

-- ---- lists of them

passed_all : (w : Way) (xs : List Argument) → total_of w (map (weight_passed w) xs) ≡ all_of w (weight_passed w) xs
passed_all w xs = total_all w (weight_passed w) xs

links_all : (w : Way) (xs : List Link) → total_of w (map (weight_link w) xs) ≡ all_of w (weight_link w) xs
links_all w xs = total_all w (weight_link w) xs

components_all : (w : Way) (xs : List Component)
    → total_of w (map (weight_component w) xs) ≡ all_of w (weight_component w) xs
components_all w xs = total_all w (weight_component w) xs

body_all : (w : Way) (xs : List TypedStmt) → total_of w (map (weight_step w) xs) ≡ all_of w (weight_step w) xs
body_all w xs = total_all w (weight_step w) xs

arms_all : (w : Way) (xs : List TypedArm) → total_of w (map (weight_arm w) xs) ≡ all_of w (weight_arm w) xs
arms_all w xs = total_all w (weight_arm w) xs

-- ---- expressions, designators, calls and arguments

abbrev pub weigh_argument : Way → Argument-F Argument Call Component Link TypedExpr Place → ℕ
weigh_argument w (layer.Value t e) = node w ⊕⟨ w ⟩ weight_typed w e
weigh_argument w (layer.Place d) = node w ⊕⟨ w ⟩ weight_place w d
weigh_argument w (layer.Array t d) = node w ⊕⟨ w ⟩ weight_place w d
weigh_argument w (layer.Open slot) = node w ⊕⟨ w ⟩ (node w ⊕⟨ w ⟩ up w slot.up)
weigh_argument w (layer.Text text) = node w

pub argument_is : (w : Way) (x : Argument) {y : Argument-F Argument Call Component Link TypedExpr Place}
    → out-Argument x ≡ y → weight_passed w x ≡ weigh_argument w y
argument_is by_size x {y = layer.Value t e} h = omega (arith, at_argument by_size x _ h)
argument_is by_size x {y = layer.Place d} h = omega (arith, at_argument by_size x _ h)
argument_is by_size x {y = layer.Array t d} h = omega (arith, at_argument by_size x _ h)
argument_is by_size x {y = layer.Open slot} h = omega (arith, at_argument by_size x _ h)
argument_is by_size x {y = layer.Text text} h = omega (arith, at_argument by_size x _ h)
argument_is by_depth x {y = layer.Value t e} h = omega (arith, at_argument by_depth x _ h)
argument_is by_depth x {y = layer.Place d} h = omega (arith, at_argument by_depth x _ h)
argument_is by_depth x {y = layer.Array t d} h = omega (arith, at_argument by_depth x _ h)
argument_is by_depth x {y = layer.Open slot} h = omega (arith, at_argument by_depth x _ h)
argument_is by_depth x {y = layer.Text text} h = omega (arith, at_argument by_depth x _ h)
argument_is (by_distance l) x {y = layer.Value t e} h = omega (arith, at_argument (by_distance l) x _ h)
argument_is (by_distance l) x {y = layer.Place d} h = omega (arith, at_argument (by_distance l) x _ h)
argument_is (by_distance l) x {y = layer.Array t d} h = omega (arith, at_argument (by_distance l) x _ h)
argument_is (by_distance l) x {y = layer.Open slot} h = omega (arith, at_argument (by_distance l) x _ h)
argument_is (by_distance l) x {y = layer.Text text} h = omega (arith, at_argument (by_distance l) x _ h)

abbrev pub weigh_call : Way → Call-F Argument Call Component Link TypedExpr Place → ℕ
weigh_call w (layer.Module f args) = node w ⊕⟨ w ⟩ all_of w (weight_passed w) args
weigh_call w (layer.Nested f args) = node w ⊕⟨ w ⟩ up w f.up ⊕⟨ w ⟩ all_of w (weight_passed w) args
weigh_call w (layer.Variable t d args) = node w ⊕⟨ w ⟩ weight_place w d ⊕⟨ w ⟩ all_of w (weight_passed w) args

pub call_is : (w : Way) (x : Call) {y : Call-F Argument Call Component Link TypedExpr Place} → out-Call x ≡ y
    → weight_call w x ≡ weigh_call w y
call_is by_size x {y = layer.Module f args} h = omega (arith, at_call by_size x _ h, passed_all by_size args)
call_is by_size x {y = layer.Nested f args} h = omega (arith, at_call by_size x _ h, passed_all by_size args)
call_is by_size x {y = layer.Variable t d args} h = omega (arith, at_call by_size x _ h, passed_all by_size args)
call_is by_depth x {y = layer.Module f args} h = omega (arith, at_call by_depth x _ h, passed_all by_depth args)
call_is by_depth x {y = layer.Nested f args} h = omega (arith, at_call by_depth x _ h, passed_all by_depth args)
call_is by_depth x {y = layer.Variable t d args} h = omega (arith, at_call by_depth x _ h, passed_all by_depth args)
call_is (by_distance l) x {y = layer.Module f args} h =
    omega (arith, at_call (by_distance l) x _ h, passed_all (by_distance l) args)
call_is (by_distance l) x {y = layer.Nested f args} h =
    omega (arith, at_call (by_distance l) x _ h, passed_all (by_distance l) args)
call_is (by_distance l) x {y = layer.Variable t d args} h =
    omega (arith, at_call (by_distance l) x _ h, passed_all (by_distance l) args)

abbrev pub weigh_component : Way → Component-F Argument Call Component Link TypedExpr Place → ℕ
weigh_component w (layer.Field t k) = node w
weigh_component w (layer.Element t i) = node w ⊕⟨ w ⟩ weight_typed w i
weigh_component w (layer.OpenElement slot t i) = node w ⊕⟨ w ⟩ up w slot.up ⊕⟨ w ⟩ weight_typed w i

pub component_is : (w : Way) (x : Component) {y : Component-F Argument Call Component Link TypedExpr Place}
    → out-Component x ≡ y → weight_component w x ≡ weigh_component w y
component_is by_size x {y = layer.Field t k} h = omega (arith, at_component by_size x _ h)
component_is by_size x {y = layer.Element t i} h = omega (arith, at_component by_size x _ h)
component_is by_size x {y = layer.OpenElement slot t i} h = omega (arith, at_component by_size x _ h)
component_is by_depth x {y = layer.Field t k} h = omega (arith, at_component by_depth x _ h)
component_is by_depth x {y = layer.Element t i} h = omega (arith, at_component by_depth x _ h)
component_is by_depth x {y = layer.OpenElement slot t i} h = omega (arith, at_component by_depth x _ h)
component_is (by_distance l) x {y = layer.Field t k} h = omega (arith, at_component (by_distance l) x _ h)
component_is (by_distance l) x {y = layer.Element t i} h = omega (arith, at_component (by_distance l) x _ h)
component_is (by_distance l) x {y = layer.OpenElement slot t i} h = omega (arith, at_component (by_distance l) x _ h)

abbrev pub weigh_link : Way → Link-F Argument Call Component Link TypedExpr Place → ℕ
weigh_link w (layer.Arithmetic o t e) = operand w (weight_typed w e)
weigh_link w (layer.And e) = operand w (weight_typed w e)
weigh_link w (layer.Or e) = operand w (weight_typed w e)
weigh_link w (layer.Combine o e) = operand w (weight_typed w e)

pub link_is : (w : Way) (x : Link) {y : Link-F Argument Call Component Link TypedExpr Place} → out-Link x ≡ y
    → weight_link w x ≡ weigh_link w y
link_is by_size x {y = layer.Arithmetic o t e} h = omega (arith, at_link by_size x _ h)
link_is by_size x {y = layer.And e} h = omega (arith, at_link by_size x _ h)
link_is by_size x {y = layer.Or e} h = omega (arith, at_link by_size x _ h)
link_is by_size x {y = layer.Combine o e} h = omega (arith, at_link by_size x _ h)
link_is by_depth x {y = layer.Arithmetic o t e} h = omega (arith, at_link by_depth x _ h)
link_is by_depth x {y = layer.And e} h = omega (arith, at_link by_depth x _ h)
link_is by_depth x {y = layer.Or e} h = omega (arith, at_link by_depth x _ h)
link_is by_depth x {y = layer.Combine o e} h = omega (arith, at_link by_depth x _ h)
link_is (by_distance l) x {y = layer.Arithmetic o t e} h = omega (arith, at_link (by_distance l) x _ h)
link_is (by_distance l) x {y = layer.And e} h = omega (arith, at_link (by_distance l) x _ h)
link_is (by_distance l) x {y = layer.Or e} h = omega (arith, at_link (by_distance l) x _ h)
link_is (by_distance l) x {y = layer.Combine o e} h = omega (arith, at_link (by_distance l) x _ h)

abbrev pub weigh_expr : Way → TypedExpr-F Argument Call Component Link TypedExpr Place → ℕ
weigh_expr w (layer.Constant t n) = node w
weigh_expr w (layer.Load t d) = node w ⊕⟨ w ⟩ weight_place w d
weigh_expr w (layer.Procedure f) = node w
weigh_expr w (layer.Plus t e) = node w ⊕⟨ w ⟩ weight_typed w e
weigh_expr w (layer.Negate e) = node w ⊕⟨ w ⟩ weight_typed w e
weigh_expr w (layer.Chain e ls) = node w ⊕⟨ w ⟩ weight_typed w e ⊕⟨ w ⟩ all_of w (weight_link w) ls
weigh_expr w (layer.Compare o a b) = node w ⊕⟨ w ⟩ weight_typed w a ⊕⟨ w ⟩ weight_typed w b
weigh_expr w (layer.Not e) = node w ⊕⟨ w ⟩ weight_typed w e
weigh_expr w (layer.Include o a b) = node w ⊕⟨ w ⟩ weight_typed w a ⊕⟨ w ⟩ weight_typed w b
weigh_expr w (layer.In a b) = node w ⊕⟨ w ⟩ weight_typed w a ⊕⟨ w ⟩ weight_typed w b
weigh_expr w (layer.Abs t e) = node w ⊕⟨ w ⟩ weight_typed w e
weigh_expr w (layer.Cap e) = node w ⊕⟨ w ⟩ weight_typed w e
weigh_expr w (layer.Chr e) = node w ⊕⟨ w ⟩ weight_typed w e
weigh_expr w (layer.Odd e) = node w ⊕⟨ w ⟩ weight_typed w e
weigh_expr w (layer.Ord e) = node w ⊕⟨ w ⟩ weight_typed w e
weigh_expr w (layer.Val t e) = node w ⊕⟨ w ⟩ weight_typed w e
weigh_expr w (layer.High slot) = node w ⊕⟨ w ⟩ up w slot.up
weigh_expr w (layer.Call t c) = node w ⊕⟨ w ⟩ weight_call w c

pub expr_is : (w : Way) (x : TypedExpr) {y : TypedExpr-F Argument Call Component Link TypedExpr Place}
    → out-TypedExpr x ≡ y → weight_typed w x ≡ weigh_expr w y
expr_is by_size x {y = layer.Constant t n} h = omega (arith, at_expr by_size x _ h)
expr_is by_size x {y = layer.Load t d} h = omega (arith, at_expr by_size x _ h)
expr_is by_size x {y = layer.Procedure f} h = omega (arith, at_expr by_size x _ h)
expr_is by_size x {y = layer.Plus t e} h = omega (arith, at_expr by_size x _ h)
expr_is by_size x {y = layer.Negate e} h = omega (arith, at_expr by_size x _ h)
expr_is by_size x {y = layer.Chain e ls} h = omega (arith, at_expr by_size x _ h, links_all by_size ls)
expr_is by_size x {y = layer.Compare o a b} h = omega (arith, at_expr by_size x _ h)
expr_is by_size x {y = layer.Not e} h = omega (arith, at_expr by_size x _ h)
expr_is by_size x {y = layer.Include o a b} h = omega (arith, at_expr by_size x _ h)
expr_is by_size x {y = layer.In a b} h = omega (arith, at_expr by_size x _ h)
expr_is by_size x {y = layer.Abs t e} h = omega (arith, at_expr by_size x _ h)
expr_is by_size x {y = layer.Cap e} h = omega (arith, at_expr by_size x _ h)
expr_is by_size x {y = layer.Chr e} h = omega (arith, at_expr by_size x _ h)
expr_is by_size x {y = layer.Odd e} h = omega (arith, at_expr by_size x _ h)
expr_is by_size x {y = layer.Ord e} h = omega (arith, at_expr by_size x _ h)
expr_is by_size x {y = layer.Val t e} h = omega (arith, at_expr by_size x _ h)
expr_is by_size x {y = layer.High slot} h = omega (arith, at_expr by_size x _ h)
expr_is by_size x {y = layer.Call t c} h = omega (arith, at_expr by_size x _ h)
expr_is by_depth x {y = layer.Constant t n} h = omega (arith, at_expr by_depth x _ h)
expr_is by_depth x {y = layer.Load t d} h = omega (arith, at_expr by_depth x _ h)
expr_is by_depth x {y = layer.Procedure f} h = omega (arith, at_expr by_depth x _ h)
expr_is by_depth x {y = layer.Plus t e} h = omega (arith, at_expr by_depth x _ h)
expr_is by_depth x {y = layer.Negate e} h = omega (arith, at_expr by_depth x _ h)
expr_is by_depth x {y = layer.Chain e ls} h = omega (arith, at_expr by_depth x _ h, links_all by_depth ls)
expr_is by_depth x {y = layer.Compare o a b} h = omega (arith, at_expr by_depth x _ h)
expr_is by_depth x {y = layer.Not e} h = omega (arith, at_expr by_depth x _ h)
expr_is by_depth x {y = layer.Include o a b} h = omega (arith, at_expr by_depth x _ h)
expr_is by_depth x {y = layer.In a b} h = omega (arith, at_expr by_depth x _ h)
expr_is by_depth x {y = layer.Abs t e} h = omega (arith, at_expr by_depth x _ h)
expr_is by_depth x {y = layer.Cap e} h = omega (arith, at_expr by_depth x _ h)
expr_is by_depth x {y = layer.Chr e} h = omega (arith, at_expr by_depth x _ h)
expr_is by_depth x {y = layer.Odd e} h = omega (arith, at_expr by_depth x _ h)
expr_is by_depth x {y = layer.Ord e} h = omega (arith, at_expr by_depth x _ h)
expr_is by_depth x {y = layer.Val t e} h = omega (arith, at_expr by_depth x _ h)
expr_is by_depth x {y = layer.High slot} h = omega (arith, at_expr by_depth x _ h)
expr_is by_depth x {y = layer.Call t c} h = omega (arith, at_expr by_depth x _ h)
expr_is (by_distance l) x {y = layer.Constant t n} h = omega (arith, at_expr (by_distance l) x _ h)
expr_is (by_distance l) x {y = layer.Load t d} h = omega (arith, at_expr (by_distance l) x _ h)
expr_is (by_distance l) x {y = layer.Procedure f} h = omega (arith, at_expr (by_distance l) x _ h)
expr_is (by_distance l) x {y = layer.Plus t e} h = omega (arith, at_expr (by_distance l) x _ h)
expr_is (by_distance l) x {y = layer.Negate e} h = omega (arith, at_expr (by_distance l) x _ h)
expr_is (by_distance l) x {y = layer.Chain e ls} h =
    omega (arith, at_expr (by_distance l) x _ h, links_all (by_distance l) ls)
expr_is (by_distance l) x {y = layer.Compare o a b} h = omega (arith, at_expr (by_distance l) x _ h)
expr_is (by_distance l) x {y = layer.Not e} h = omega (arith, at_expr (by_distance l) x _ h)
expr_is (by_distance l) x {y = layer.Include o a b} h = omega (arith, at_expr (by_distance l) x _ h)
expr_is (by_distance l) x {y = layer.In a b} h = omega (arith, at_expr (by_distance l) x _ h)
expr_is (by_distance l) x {y = layer.Abs t e} h = omega (arith, at_expr (by_distance l) x _ h)
expr_is (by_distance l) x {y = layer.Cap e} h = omega (arith, at_expr (by_distance l) x _ h)
expr_is (by_distance l) x {y = layer.Chr e} h = omega (arith, at_expr (by_distance l) x _ h)
expr_is (by_distance l) x {y = layer.Odd e} h = omega (arith, at_expr (by_distance l) x _ h)
expr_is (by_distance l) x {y = layer.Ord e} h = omega (arith, at_expr (by_distance l) x _ h)
expr_is (by_distance l) x {y = layer.Val t e} h = omega (arith, at_expr (by_distance l) x _ h)
expr_is (by_distance l) x {y = layer.High slot} h = omega (arith, at_expr (by_distance l) x _ h)
expr_is (by_distance l) x {y = layer.Call t c} h = omega (arith, at_expr (by_distance l) x _ h)

pub place_sum : (w : Way) (d : Place) → weight_place w d ≡ node w ⊕⟨ w ⟩ weight_root w d.root ⊕⟨ w ⟩ all_of w
    (weight_component w) d.components
place_sum by_size d = omega (arith, at_place by_size d (out-Place d) refl, components_all by_size d.components)
place_sum by_depth d = omega (arith, at_place by_depth d (out-Place d) refl, components_all by_depth d.components)
place_sum (by_distance l) d =
    omega (arith, at_place (by_distance l) d (out-Place d) refl, components_all (by_distance l) d.components)

-- ---- statements

abbrev pub weigh_step : Way → TypedStmt-F TypedStmt TypedArm → ℕ
weigh_step w (slayer.Assign d t e) = node w ⊕⟨ w ⟩ weight_place w d ⊕⟨ w ⟩ weight_typed w e
weigh_step w (slayer.Copy to from t) = node w ⊕⟨ w ⟩ weight_place w to ⊕⟨ w ⟩ weight_place w from
weigh_step w (slayer.CopyText d t text) = node w ⊕⟨ w ⟩ weight_place w d
weigh_step w (slayer.Call c) = weight_call w c
weigh_step w (slayer.Put e) = node w ⊕⟨ w ⟩ weight_typed w e
weigh_step w (slayer.Change o d t e) = node w ⊕⟨ w ⟩ node w ⊕⟨ w ⟩ weight_place w d ⊕⟨ w ⟩ weight_typed w e
weigh_step w (slayer.Membership o d e) = node w ⊕⟨ w ⟩ node w ⊕⟨ w ⟩ weight_place w d ⊕⟨ w ⟩ weight_typed w e
weigh_step w slayer.Halt = node w
weigh_step w (slayer.If e body others) =
    in_if w (weight_typed w e ⊕⟨ w ⟩ weight_body w body ⊕⟨ w ⟩ weight_body_if w others)
weigh_step w (slayer.Case e arms others) =
    in_case w (weight_typed w e ⊕⟨ w ⟩ all_of w (weight_arm w) arms ⊕⟨ w ⟩ weight_body_if w others)
weigh_step w (slayer.While e body) = in_loop w (weight_typed w e ⊕⟨ w ⟩ weight_body w body)
weigh_step w (slayer.Repeat body e) = in_if w (weight_body w body ⊕⟨ w ⟩ weight_typed w e)
weigh_step w (slayer.Loop body) = in_loop w (weight_body w body)
weigh_step w slayer.Exit = node w
weigh_step w slayer.Return = node w
weigh_step w (slayer.Give t e) = node w ⊕⟨ w ⟩ weight_typed w e
weigh_step w (slayer.For d t start limit by body) = in_loop w (control w (weight_place w d) ⊕⟨ w ⟩ weight_typed w
    start ⊕⟨ w ⟩ weight_typed w limit ⊕⟨ w ⟩ weight_body w body)
weigh_step w (slayer.With d body) = node w ⊕⟨ w ⟩ weight_place w d ⊕⟨ w ⟩ weight_body w body

pub step_is : (w : Way) (x : TypedStmt) {y : TypedStmt-F TypedStmt TypedArm} → out-TypedStmt x ≡ y
    → weight_step w x ≡ weigh_step w y
step_is by_size x {y = slayer.Assign d t e} h = omega (arith, at_step by_size x _ h)
step_is by_size x {y = slayer.Copy to from t} h = omega (arith, at_step by_size x _ h)
step_is by_size x {y = slayer.CopyText d t text} h = omega (arith, at_step by_size x _ h)
step_is by_size x {y = slayer.Call c} h = omega (arith, at_step by_size x _ h)
step_is by_size x {y = slayer.Put e} h = omega (arith, at_step by_size x _ h)
step_is by_size x {y = slayer.Change o d t e} h = omega (arith, at_step by_size x _ h)
step_is by_size x {y = slayer.Membership o d e} h = omega (arith, at_step by_size x _ h)
step_is by_size x {y = slayer.Halt} h = omega (arith, at_step by_size x _ h)
step_is by_size x {y = slayer.If e body None} h = omega (arith, at_step by_size x _ h, body_all by_size body)
step_is by_size x {y = slayer.If e body (Some xs)} h =
    omega (arith, at_step by_size x _ h, body_all by_size body, body_all by_size xs)
step_is by_size x {y = slayer.Case e arms None} h = omega (arith, at_step by_size x _ h, arms_all by_size arms)
step_is by_size x {y = slayer.Case e arms (Some xs)} h =
    omega (arith, at_step by_size x _ h, arms_all by_size arms, body_all by_size xs)
step_is by_size x {y = slayer.While e body} h = omega (arith, at_step by_size x _ h, body_all by_size body)
step_is by_size x {y = slayer.Repeat body e} h = omega (arith, at_step by_size x _ h, body_all by_size body)
step_is by_size x {y = slayer.Loop body} h = omega (arith, at_step by_size x _ h, body_all by_size body)
step_is by_size x {y = slayer.Exit} h = omega (arith, at_step by_size x _ h)
step_is by_size x {y = slayer.Return} h = omega (arith, at_step by_size x _ h)
step_is by_size x {y = slayer.Give t e} h = omega (arith, at_step by_size x _ h)
step_is by_size x {y = slayer.For d t start limit by body} h =
    omega (arith, at_step by_size x _ h, body_all by_size body)
step_is by_size x {y = slayer.With d body} h = omega (arith, at_step by_size x _ h, body_all by_size body)
step_is by_depth x {y = slayer.Assign d t e} h = omega (arith, at_step by_depth x _ h)
step_is by_depth x {y = slayer.Copy to from t} h = omega (arith, at_step by_depth x _ h)
step_is by_depth x {y = slayer.CopyText d t text} h = omega (arith, at_step by_depth x _ h)
step_is by_depth x {y = slayer.Call c} h = omega (arith, at_step by_depth x _ h)
step_is by_depth x {y = slayer.Put e} h = omega (arith, at_step by_depth x _ h)
step_is by_depth x {y = slayer.Change o d t e} h = omega (arith, at_step by_depth x _ h)
step_is by_depth x {y = slayer.Membership o d e} h = omega (arith, at_step by_depth x _ h)
step_is by_depth x {y = slayer.Halt} h = omega (arith, at_step by_depth x _ h)
step_is by_depth x {y = slayer.If e body None} h = omega (arith, at_step by_depth x _ h, body_all by_depth body)
step_is by_depth x {y = slayer.If e body (Some xs)} h =
    omega (arith, at_step by_depth x _ h, body_all by_depth body, body_all by_depth xs)
step_is by_depth x {y = slayer.Case e arms None} h = omega (arith, at_step by_depth x _ h, arms_all by_depth arms)
step_is by_depth x {y = slayer.Case e arms (Some xs)} h =
    omega (arith, at_step by_depth x _ h, arms_all by_depth arms, body_all by_depth xs)
step_is by_depth x {y = slayer.While e body} h = omega (arith, at_step by_depth x _ h, body_all by_depth body)
step_is by_depth x {y = slayer.Repeat body e} h = omega (arith, at_step by_depth x _ h, body_all by_depth body)
step_is by_depth x {y = slayer.Loop body} h = omega (arith, at_step by_depth x _ h, body_all by_depth body)
step_is by_depth x {y = slayer.Exit} h = omega (arith, at_step by_depth x _ h)
step_is by_depth x {y = slayer.Return} h = omega (arith, at_step by_depth x _ h)
step_is by_depth x {y = slayer.Give t e} h = omega (arith, at_step by_depth x _ h)
step_is by_depth x {y = slayer.For d t start limit by body} h =
    omega (arith, at_step by_depth x _ h, body_all by_depth body)
step_is by_depth x {y = slayer.With d body} h = omega (arith, at_step by_depth x _ h, body_all by_depth body)
step_is (by_distance l) x {y = slayer.Assign d t e} h = omega (arith, at_step (by_distance l) x _ h)
step_is (by_distance l) x {y = slayer.Copy to from t} h = omega (arith, at_step (by_distance l) x _ h)
step_is (by_distance l) x {y = slayer.CopyText d t text} h = omega (arith, at_step (by_distance l) x _ h)
step_is (by_distance l) x {y = slayer.Call c} h = omega (arith, at_step (by_distance l) x _ h)
step_is (by_distance l) x {y = slayer.Put e} h = omega (arith, at_step (by_distance l) x _ h)
step_is (by_distance l) x {y = slayer.Change o d t e} h = omega (arith, at_step (by_distance l) x _ h)
step_is (by_distance l) x {y = slayer.Membership o d e} h = omega (arith, at_step (by_distance l) x _ h)
step_is (by_distance l) x {y = slayer.Halt} h = omega (arith, at_step (by_distance l) x _ h)
step_is (by_distance l) x {y = slayer.If e body None} h =
    omega (arith, at_step (by_distance l) x _ h, body_all (by_distance l) body)
step_is (by_distance l) x {y = slayer.If e body (Some xs)} h =
    omega (arith, at_step (by_distance l) x _ h, body_all (by_distance l) body, body_all (by_distance l) xs)
step_is (by_distance l) x {y = slayer.Case e arms None} h =
    omega (arith, at_step (by_distance l) x _ h, arms_all (by_distance l) arms)
step_is (by_distance l) x {y = slayer.Case e arms (Some xs)} h =
    omega (arith, at_step (by_distance l) x _ h, arms_all (by_distance l) arms, body_all (by_distance l) xs)
step_is (by_distance l) x {y = slayer.While e body} h =
    omega (arith, at_step (by_distance l) x _ h, body_all (by_distance l) body)
step_is (by_distance l) x {y = slayer.Repeat body e} h =
    omega (arith, at_step (by_distance l) x _ h, body_all (by_distance l) body)
step_is (by_distance l) x {y = slayer.Loop body} h =
    omega (arith, at_step (by_distance l) x _ h, body_all (by_distance l) body)
step_is (by_distance l) x {y = slayer.Exit} h = omega (arith, at_step (by_distance l) x _ h)
step_is (by_distance l) x {y = slayer.Return} h = omega (arith, at_step (by_distance l) x _ h)
step_is (by_distance l) x {y = slayer.Give t e} h = omega (arith, at_step (by_distance l) x _ h)
step_is (by_distance l) x {y = slayer.For d t start limit by body} h =
    omega (arith, at_step (by_distance l) x _ h, body_all (by_distance l) body)
step_is (by_distance l) x {y = slayer.With d body} h =
    omega (arith, at_step (by_distance l) x _ h, body_all (by_distance l) body)

pub arm_sum : (w : Way) (x : TypedArm) → weight_arm w x ≡ labels w (length x.labels) ⊕⟨ w ⟩ weight_body w x.body
arm_sum by_size x = omega (arith, at_arm by_size x (out-TypedArm x) refl, body_all by_size x.body)
arm_sum by_depth x = omega (arith, at_arm by_depth x (out-TypedArm x) refl, body_all by_depth x.body)
arm_sum (by_distance l) x =
    omega (arith, at_arm (by_distance l) x (out-TypedArm x) refl, body_all (by_distance l) x.body)
