-- Statements call through the table no more often than they count.
use Rattle.std.proofs.Common.{map, ◌≡◌, ℕ, ◌+◌, ◌*◌, ◌≤◌, List, [], ◌∷◌, length, Some, None, sym, ap, subst, ◌∙◌, arith}
use Rattle.typed_tree.specs.declared.statement.TypedArm.{TypedArm, TypedArm-F, out-TypedArm, roll-TypedArm, out-roll-TypedArm, map-TypedArm, fold_out-TypedArm, fold-TypedArm}
use Rattle.typed_tree.specs.declared.statement.TypedStmt.{TypedStmt, TypedStmt-F, out-TypedStmt, roll-TypedStmt, out-roll-TypedStmt, map-TypedStmt, fold_out-TypedStmt, ind-TypedStmt}
use Rattle.typed_tree.specs.declared.statement.TypedStmt.TheOpen as layer
use Rattle.typed_tree.specs.declared.typed_module.TypedModule.{TypedModule}
use Rattle.def_scheme.specs.Signatures.{Signatures, concatenation, of_step}
use Rattle.def_scheme.specs.Signatures as sign
use Rattle.law_encoding.specs.Sizes.{total}
use Rattle.law_encoding.specs.TypedSizes.{size_typed, size_place, size_call, size_step, size_arm}
use Rattle.law_encoding.specs.TypedSizes as sizes
use Rattle.law_encoding.proofs.Ways.{by_size}
use Rattle.law_encoding.proofs.Weighed as typed
use Rattle.law_encoding.proofs.TableCalls.{AllFew, both_few, all_few, one_more, expr_calls, place_calls, call_calls}

two_sum : (a n k : ℕ) → a ≤ n + k → a ≤ 1 + n + k
two_sum a n k l = omega (arith, l)

change_sum : (a n k : ℕ) → a ≤ n + k → a ≤ 2 + n + k
change_sum a n k l = omega (arith, l)

if_sum : (a n k o : ℕ) → a ≤ n + (k + o) → a ≤ 1 + n + k + o
if_sum a n k o l = omega (arith, l)

case_sum : (a n k o : ℕ) → a ≤ n + (k + o) → a ≤ 6 + n + k + o
case_sum a n k o l = omega (arith, l)

for_sum : (a d s l b : ℕ) → a ≤ d + (s + (l + b)) → a ≤ 1 + 5 * d + s + l + b
for_sum a d s l b h = omega (arith, h)

arm_sum : (a l b : ℕ) → a ≤ b → a ≤ 1 + l + b
arm_sum a l b h = omega (arith, h)

none_of : (n : ℕ) → 0 ≤ n
none_of n = omega arith

module _ (m : TypedModule) where
  abbrev pub of_arm : TypedArm → Signatures
  of_arm = fold-TypedArm Signatures Signatures (sign.step_layer m) (sign.arm_layer m)

  abbrev pub opened_step : TypedStmt-F TypedStmt TypedArm → TypedStmt-F Signatures Signatures
  opened_step x = map-TypedStmt TypedStmt TypedArm Signatures Signatures (of_step m) of_arm x

  abbrev pub opened_arm : TypedArm-F TypedStmt TypedArm → TypedArm-F Signatures Signatures
  opened_arm x = map-TypedArm TypedStmt TypedArm Signatures Signatures (of_step m) of_arm x

  pub at_step : (e : TypedStmt) (x : TypedStmt-F TypedStmt TypedArm) → out-TypedStmt e ≡ x
      → of_step m e ≡ sign.step_layer m (opened_step x)
  unfolding of_step
  at_step e x h = fold_out-TypedStmt Signatures Signatures (sign.step_layer m) (sign.arm_layer m) e
      ∙ ap (λ (y : TypedStmt-F TypedStmt TypedArm). sign.step_layer m (opened_step y)) h

  pub at_arm : (e : TypedArm) (x : TypedArm-F TypedStmt TypedArm) → out-TypedArm e ≡ x
      → of_arm e ≡ sign.arm_layer m (opened_arm x)
  unfolding of_step
  at_arm e x h = fold_out-TypedArm Signatures Signatures (sign.step_layer m) (sign.arm_layer m) e
      ∙ ap (λ (y : TypedArm-F TypedStmt TypedArm). sign.arm_layer m (opened_arm y)) h

  abbrev PS : TypedStmt → Type 0
  PS x = length (of_step m x) ≤ size_step x

  abbrev PA : TypedArm → Type 0
  PA x = length (of_arm x) ≤ size_arm x

  abbrev SS : Type 0
  SS = (x : TypedStmt) × PS x

  abbrev SA : Type 0
  SA = (x : TypedArm) × PA x

  abbrev bare_step : TypedStmt-F SS SA → TypedStmt-F TypedStmt TypedArm
  bare_step x = map-TypedStmt SS SA TypedStmt TypedArm (λ e. e.0) (λ e. e.0) x

  abbrev bare_arm : TypedArm-F SS SA → TypedArm-F TypedStmt TypedArm
  bare_arm x = map-TypedArm SS SA TypedStmt TypedArm (λ e. e.0) (λ e. e.0) x

  all_steps : (xs : List SS) → AllFew (map size_step (map (λ (e : SS). e.0) xs))
      (map (of_step m) (map (λ (e : SS). e.0) xs))
  all_steps [] = tt
  all_steps (x ∷ xs) = (x.1, all_steps xs)

  all_arms : (xs : List SA) → AllFew (map size_arm (map (λ (e : SA). e.0) xs)) (map of_arm (map (λ (e : SA). e.0) xs))
  all_arms [] = tt
  all_arms (x ∷ xs) = (x.1, all_arms xs)

  abbrev count : List SS → ℕ
  count xs = total (map size_step (map (λ (e : SS). e.0) xs))

  few_steps : (xs : List SS) → length (concatenation (map (of_step m) (map (λ (e : SS). e.0) xs))) ≤ count xs
  few_steps xs = all_few _ _ (all_steps xs)

  few_arms : (xs : List SA) → length (concatenation (map of_arm (map (λ (e : SA). e.0) xs))) ≤ total
      (map size_arm (map (λ (e : SA). e.0) xs))
  few_arms xs = all_few _ _ (all_arms xs)

  step_few : (y : TypedStmt-F SS SA) → length (sign.step_layer m (opened_step (bare_step y))) ≤ sizes.step_layer
      (typed.weights_step by_size (bare_step y))
  step_few (layer.Assign d t e) = two_sum _ _ _
      (both_few _ _ (size_place d) (size_typed e) (place_calls m d) (expr_calls m e))
  step_few (layer.Copy to from t) = two_sum _ _ _
      (both_few _ _ (size_place to) (size_place from) (place_calls m to) (place_calls m from))
  step_few (layer.CopyText d t text) = one_more _ _ (place_calls m d)
  step_few (layer.Call c) = call_calls m c
  step_few (layer.Put e) = one_more _ _ (expr_calls m e)
  step_few (layer.Change o d t e) = change_sum _ _ _
      (both_few _ _ (size_place d) (size_typed e) (place_calls m d) (expr_calls m e))
  step_few (layer.Membership o d e) = change_sum _ _ _
      (both_few _ _ (size_place d) (size_typed e) (place_calls m d) (expr_calls m e))
  step_few layer.Halt = none_of 1
  step_few (layer.If e body None) = if_sum _ _ _ _
      (both_few _ _ (size_typed e) (count body + 0) (expr_calls m e)
      (both_few _ [] (count body) 0 (few_steps body) (none_of 0)))
  step_few (layer.If e body (Some others)) =
      if_sum _ _ _ _ (both_few _ _ (size_typed e) (count body + count others) (expr_calls m e)
      (both_few _ _ (count body) (count others) (few_steps body) (few_steps others)))
  step_few (layer.Case e arms None) = case_sum _ _ _ _
      (both_few _ _ (size_typed e) _ (expr_calls m e) (both_few _ [] _ 0 (few_arms arms) (none_of 0)))
  step_few (layer.Case e arms (Some others)) =
      case_sum _ _ _ _ (both_few _ _ (size_typed e) _ (expr_calls m e)
      (both_few _ _ _ (count others) (few_arms arms) (few_steps others)))
  step_few (layer.While e body) = two_sum _ _ _
      (both_few _ _ (size_typed e) (count body) (expr_calls m e) (few_steps body))
  step_few (layer.Repeat body e) = two_sum _ _ _
      (both_few _ _ (count body) (size_typed e) (few_steps body) (expr_calls m e))
  step_few (layer.Loop body) = one_more _ _ (few_steps body)
  step_few layer.Exit = none_of 1
  step_few layer.Return = none_of 1
  step_few (layer.Give t e) = one_more _ _ (expr_calls m e)
  step_few (layer.For d t start limit by body) =
      for_sum _ (size_place d) (size_typed start) (size_typed limit) (count body)
      (both_few _ _ (size_place d) _ (place_calls m d)
      (both_few _ _ (size_typed start) _ (expr_calls m start)
      (both_few _ _ (size_typed limit) (count body) (expr_calls m limit) (few_steps body))))
  step_few (layer.With d body) = two_sum _ _ _
      (both_few _ _ (size_place d) (count body) (place_calls m d) (few_steps body))

  arm_few : (y : TypedArm-F SS SA) → length (sign.arm_layer m (opened_arm (bare_arm y))) ≤ sizes.arm_layer
      (typed.weights_arm by_size (bare_arm y))
  arm_few y = arm_sum _ (length y.labels) _ (few_steps y.body)

  step_step : (x : TypedStmt-F TypedStmt TypedArm) (y : TypedStmt-F SS SA) → bare_step y ≡ x → PS (roll-TypedStmt x)
  step_step x y q =
      let e = out-roll-TypedStmt x ∙ sym q in
      subst (λ (n : ℕ). length (of_step m (roll-TypedStmt x)) ≤ n)
      (sym (typed.at_step by_size (roll-TypedStmt x) (bare_step y) e))
      (subst (λ (z : Signatures). length z ≤ sizes.step_layer (typed.weights_step by_size (bare_step y)))
      (sym (at_step (roll-TypedStmt x) (bare_step y) e)) (step_few y))

  step_arm : (x : TypedArm-F TypedStmt TypedArm) (y : TypedArm-F SS SA) → bare_arm y ≡ x → PA (roll-TypedArm x)
  step_arm x y q =
      let e = out-roll-TypedArm x ∙ sym q in
      subst (λ (n : ℕ). length (of_arm (roll-TypedArm x)) ≤ n)
      (sym (typed.at_arm by_size (roll-TypedArm x) (bare_arm y) e))
      (subst (λ (z : Signatures). length z ≤ sizes.arm_layer (typed.weights_arm by_size (bare_arm y)))
      (sym (at_arm (roll-TypedArm x) (bare_arm y) e)) (arm_few y))

  pub step_calls : (x : TypedStmt) → PS x
  step_calls = ind-TypedStmt PS PA step_step step_arm
