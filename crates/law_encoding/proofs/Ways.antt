-- Three ways to weigh what the checker makes: how large it is, how deep it nests, and how many procedures outwards it
-- goes. What the checker makes of a tree weighs no more than the tree allows. All three bounds have one proof, and what
-- it
-- needs of numbers is shown for each way.
use Rattle.std.proofs.Common.{ℕ, ◌+◌, ◌*◌, List, Option, Some, None}
use Rattle.typed_tree.specs.declared.computed.Argument.{Argument}
use Rattle.typed_tree.specs.declared.computed.Call.{Call}
use Rattle.typed_tree.specs.declared.computed.Component.{Component}
use Rattle.typed_tree.specs.declared.computed.Link.{Link}
use Rattle.typed_tree.specs.declared.computed.Place.{Place}
use Rattle.typed_tree.specs.declared.computed.Root.{Root}
use Rattle.typed_tree.specs.declared.computed.TypedExpr.{TypedExpr}
use Rattle.typed_tree.specs.declared.statement.TypedArm.{TypedArm}
use Rattle.typed_tree.specs.declared.statement.TypedStmt.{TypedStmt}
use Rattle.check_value.specs.declared.computed.Computed.{Computed}
use Rattle.check_value.specs.declared.computed.Computed.TheVariants as value
use Rattle.check_value.specs.declared.computed.Designated.{Designated}
use Rattle.check_value.specs.declared.computed.Designated.TheVariants as designated
use Rattle.law_encoding.specs.Sizes.{sum_of, total}
use Rattle.law_encoding.specs.Nesting.{◌⊔◌, deepest_of, deepest}
use Rattle.law_encoding.specs.TypedSizes.{size_typed, size_place, size_component, size_link, size_call, size_passed}
use Rattle.law_encoding.specs.TypedSizes.{size_step, size_arm}
use Rattle.law_encoding.specs.TypedNesting.{depth_typed, depth_place, depth_component, depth_link, depth_call}
use Rattle.law_encoding.specs.TypedNesting.{depth_passed, depth_step, depth_arm}
use Rattle.law_encoding.specs.Outward.{outward_root, outward_typed, outward_place, outward_component, outward_link}
use Rattle.law_encoding.specs.Outward.{outward_call, outward_passed, outward_step, outward_arm}

pub data Way : Type 0 where
  by_size : Way
  by_depth : Way
  -- in a procedure that stands no deeper than this
  by_distance : (level : ℕ) → Way

-- two parts
infixl 65 ◌⊕⟨◌⟩◌
abbrev pub ◌⊕⟨◌⟩◌ : ℕ → Way → ℕ → ℕ
m ⊕⟨ by_size ⟩ n = m + n
m ⊕⟨ by_depth ⟩ n = m ⊔ n
m ⊕⟨ by_distance level ⟩ n = m ⊔ n

-- what each node counts beside its parts
abbrev pub node : Way → ℕ
node by_size = 1
node by_depth = 1
node (by_distance level) = 0

-- what counts a name that is so many procedures outwards
abbrev pub up : Way → ℕ → ℕ
up by_size n = 0
up by_depth n = 0
up (by_distance level) n = n

-- a second operand of the checker's, and one of the tree
abbrev pub operand : Way → ℕ → ℕ
operand by_size n = 1 + n
operand by_depth n = 1 + n
operand (by_distance level) n = n

abbrev pub second : Way → ℕ → ℕ
second by_size n = 2 + n
second by_depth n = 1 + n
second (by_distance level) n = n

-- what stands in an IF, in a CASE and in a loop
abbrev pub in_if : Way → ℕ → ℕ
in_if by_size n = 1 + n
in_if by_depth n = 1 + n
in_if (by_distance level) n = n

abbrev pub in_case : Way → ℕ → ℕ
in_case by_size n = 6 + n
in_case by_depth n = 18 + n
in_case (by_distance level) n = n

abbrev pub in_loop : Way → ℕ → ℕ
in_loop by_size n = 1 + n
in_loop by_depth n = 2 + n
in_loop (by_distance level) n = n

-- the place of a FOR, and the labels of an arm
abbrev pub control : Way → ℕ → ℕ
control by_size n = 5 * n
control by_depth n = n
control (by_distance level) n = n

abbrev pub labels : Way → ℕ → ℕ
labels by_size n = 1 + n
labels by_depth n = 0
labels (by_distance level) n = 0

abbrev pub all_of : {A : Type 0} → Way → (A → ℕ) → List A → ℕ
all_of by_size f = sum_of f
all_of by_depth f = deepest_of f
all_of (by_distance level) f = deepest_of f

abbrev pub total_of : Way → List ℕ → ℕ
total_of by_size = total
total_of by_depth = deepest
total_of (by_distance level) = deepest

-- the arguments of a call, and the second operands of a term or a sum
abbrev pub arguments : Way → List ℕ → ℕ
arguments w ns = all_of w (λ n. node w ⊕⟨ w ⟩ n) ns

abbrev pub operands : {O : Type 0} → Way → List (O × ℕ) → ℕ
operands w ns = all_of w (λ p. second w p.1) ns

-- ---- typed trees

abbrev pub weight_root : Way → Root → ℕ
weight_root w r = up w (outward_root r)

abbrev pub weight_typed : Way → TypedExpr → ℕ
weight_typed by_size = size_typed
weight_typed by_depth = depth_typed
weight_typed (by_distance level) = outward_typed

abbrev pub weight_place : Way → Place → ℕ
weight_place by_size = size_place
weight_place by_depth = depth_place
weight_place (by_distance level) = outward_place

abbrev pub weight_component : Way → Component → ℕ
weight_component by_size = size_component
weight_component by_depth = depth_component
weight_component (by_distance level) = outward_component

abbrev pub weight_link : Way → Link → ℕ
weight_link by_size = size_link
weight_link by_depth = depth_link
weight_link (by_distance level) = outward_link

abbrev pub weight_call : Way → Call → ℕ
weight_call by_size = size_call
weight_call by_depth = depth_call
weight_call (by_distance level) = outward_call

abbrev pub weight_passed : Way → Argument → ℕ
weight_passed by_size = size_passed
weight_passed by_depth = depth_passed
weight_passed (by_distance level) = outward_passed

abbrev pub weight_step : Way → TypedStmt → ℕ
weight_step by_size = size_step
weight_step by_depth = depth_step
weight_step (by_distance level) = outward_step

abbrev pub weight_arm : Way → TypedArm → ℕ
weight_arm by_size = size_arm
weight_arm by_depth = depth_arm
weight_arm (by_distance level) = outward_arm

abbrev pub weight_body : Way → List TypedStmt → ℕ
weight_body w xs = all_of w (weight_step w) xs

abbrev pub weight_body_if : Way → Option (List TypedStmt) → ℕ
weight_body_if w None = 0
weight_body_if w (Some xs) = weight_body w xs

-- ---- what expressions mean

abbrev pub weight_value : Way → Computed → ℕ
weight_value w (value.Constant v) = node w
weight_value w (value.Scalar t b e) = weight_typed w e
weight_value w (value.Set e) = weight_typed w e
weight_value w (value.Routine t e) = weight_typed w e
weight_value w (value.Procedure f) = node w
weight_value w (value.Whole t d) = node w ⊕⟨ w ⟩ weight_place w d
weight_value w value.Untaken = 0

-- a variable weighs what its value does
abbrev pub weight_meant : Way → Designated → ℕ
weight_meant w (designated.Value x) = weight_value w x
weight_meant w (designated.Variable t d) = node w ⊕⟨ w ⟩ weight_place w d
weight_meant w (designated.Open t slot) = node w ⊕⟨ w ⟩ (node w ⊕⟨ w ⟩ up w slot.up)
weight_meant w (designated.Type t) = 0
weight_meant w (designated.Procedure f) = node w ⊕⟨ w ⟩ node w
weight_meant w (designated.Nested f) = node w ⊕⟨ w ⟩ up w f.up
weight_meant w (designated.Standard f) = 0
weight_meant w (designated.Module k) = 0
