-- The code of statements takes at most 1023 bytes for each that they count.
use Rattle.std.proofs.Common.{map, ◌≡◌, ℕ, suc, ◌+◌, ◌*◌, ◌≤◌, ℤ, pos, Bool, true, false, List, [], ◌∷◌, length, Some, None, refl, sym, ap, subst, ◌∙◌, arith}
use Rattle.std.specs.Prelude.{if◌then◌else◌, ◌-◌, ◌++◌, ◌&&◌, nat_le}
use Rattle.std.proofs.lemmas.Bool.{leb-true, false≢true}
use Rattle.wasm_tree.specs.declared.instr.Instr.{Instr}
use Rattle.wasm_tree.specs.declared.instr.Instr.TheVariants.{LocalGet, If, Br, BrIf}
use Rattle.typed_tree.specs.declared.statement.Change.{Change}
use Rattle.typed_tree.specs.declared.statement.Label.{Label}
use Rattle.typed_tree.specs.declared.statement.Membership.{Membership}
use Rattle.typed_tree.specs.declared.statement.TypedArm.{TypedArm, TypedArm-F, out-TypedArm, roll-TypedArm, out-roll-TypedArm, map-TypedArm, fold_out-TypedArm, fold-TypedArm}
use Rattle.typed_tree.specs.declared.statement.TypedStmt.{TypedStmt, TypedStmt-F, out-TypedStmt, roll-TypedStmt, out-roll-TypedStmt, map-TypedStmt, fold_out-TypedStmt, ind-TypedStmt}
use Rattle.typed_tree.specs.declared.statement.TypedStmt.TheOpen as layer
use Rattle.typed_tree.specs.declared.types.TypeNo.{TypeNo}
use Rattle.typed_tree.specs.Types.{char}
use Rattle.layout_storage.specs.Shapes.{tree}
use Rattle.layout_storage.specs.Sizes.{size}
use Rattle.def_scheme.specs.Coded.{Coded, plain, ◌⨾◌, within, all_coded, relation}
use Rattle.def_scheme.specs.Exprs.{Numbered, Part, expr_part}
use Rattle.def_scheme.specs.Steps.{Arm, block, loop, block_loop, leaving, under, if_else, tests_code, arm_code, chain_code, all_labels, all_values, least_of, span_of, is_dense, in_block, jump_arms, table_code, case_code, passes, for_turn, for_code, change_code, member_code, copy_text_code, step_layer, arm_layer, step_code, body_code}
use Rattle.law_encoding.specs.Nesting.{◌⊔◌, deepest}
use Rattle.law_encoding.specs.Sizes.{total}
use Rattle.law_encoding.specs.TypedSizes.{size_typed, size_place, size_call, size_step, size_arm, size_body}
use Rattle.law_encoding.specs.TypedSizes as sizes
use Rattle.law_encoding.specs.CodeBytes.{bytes}
use Rattle.law_encoding.specs.Short.{unit_bytes}
use Rattle.law_encoding.specs.Outward.{outward_typed, outward_place, outward_step, outward_arm, outward_body}
use Rattle.law_encoding.specs.Outward as outward
use Rattle.law_encoding.proofs.Ways.{by_size, by_distance}
use Rattle.law_encoding.proofs.Weighed as typed
use Rattle.law_encoding.proofs.CodeLengths.{bytes_append, block_bytes, loop_bytes, if_bytes, else_bytes, gets, sets, tees, amount, address, calls, computes, jumps, jumps_if, goes_back, Short, short_end, ◌▹◌, short_both}
use Rattle.law_encoding.proofs.ShortCode.{IsNear, short_fault, short_checked, short_loaded, short_stored, short_in_type, short_taken, short_tests, short_dispatch, short_changed, short_with_member, short_copied}
use Rattle.law_encoding.proofs.ShortTrees.{Costs, Wraps, AllCost, plain_costs, both_cost, settles, costs_more, extra_costs, within_costs, setting_costs, number_costs, address_costs, text_costs, all_cost, then_plain, then_setting, plain_then, alone, first_near, second_near, own, expr_short, place_short, call_short}

-- ---- blocks

three_more : (m a : ℕ) → m ≡ 3 + a → m ≤ a + 3
three_more m a e = omega (arith, e)

block_wraps : Wraps 3 block
block_wraps code = alone _ _ (three_more _ (bytes code) (block_bytes None code))

loop_wraps : Wraps 3 loop
loop_wraps code = alone _ _ (three_more _ (bytes code) (loop_bytes None code))

six_more : (m k a : ℕ) → m ≤ k + 3 → k ≤ a + 3 → m ≤ a + 6
six_more m k a h l = omega (arith, h, l)

block_loop_wraps : Wraps 6 block_loop
block_loop_wraps code = six_more _ (bytes (loop code)) (bytes code) (block_wraps (loop code)) (loop_wraps code)

four_more : (m a : ℕ) → m ≡ 4 + (a + 0) → m ≤ a + 4
four_more m a e = omega (arith, e)

only_wraps : Wraps 4 (λ code. If None code None ∷ [])
only_wraps code = alone _ _ (four_more _ (bytes code) (if_bytes None code))

as_it_is : Wraps 0 (λ code. code)
as_it_is code = no_more (bytes code) where
  no_more : (n : ℕ) → n ≤ n + 0
  no_more n = omega arith

wrapped_most : (m a n u w : ℕ) → m ≤ a + w → a ≤ unit_bytes * n + u → m ≤ unit_bytes * n + (u + w)
wrapped_most m a n u w h l = omega (arith, h, l)

leaving_costs : {n u : ℕ} (w exit : ℕ) (wrap : List Instr → List Instr) {x : Coded} → Wraps w wrap → Costs n u x
    → Costs n (u + w) (leaving exit wrap x)
leaving_costs {n} {u} w exit wrap h p = record {
  at_most =
      λ s c. wrapped_most _ _ n u w (h _) (p.at_most (record s { exit = exit }) c);
}

under_costs : {n u : ℕ} (w : ℕ) {x : Coded} → Costs n u x → Costs n u (under w x)
under_costs w p = record { at_most = λ s c. p.at_most (record s { withs = s.withs ++ w ∷ [] }) c }

boxed_costs : {n u : ℕ} {x : Coded} → Costs n u x → Costs n (u + 3) (in_block x)
boxed_costs {n} {u} p = record { at_most = λ s c. wrapped_most _ _ n u 3 (block_wraps _) (p.at_most s c) }

both_sides : (m a b n k u v : ℕ) → m ≡ 4 + (a + b) → a ≤ unit_bytes * n + u → b ≤ unit_bytes * k + v
    → m ≤ unit_bytes * (n + k) + (4 + (u + v))
both_sides m a b n k u v e h l = omega (arith, e, h, l)

else_costs : {n k u v : ℕ} {x y : Coded} → Costs n u x → Costs k v y → Costs (n + k) (4 + (u + v)) (if_else x y)
else_costs {n} {k} {u} {v} {x} {y} p q = record {
  at_most = λ s c. let i = record s { exit = suc s.exit } in
      alone _ _ (both_sides _ (bytes (x i c).0) (bytes (y i (x i c).1).0) n k u v
      (else_bytes None (x i c).0 (y i (x i c).1).0) (p.at_most i c) (q.at_most i (x i c).1));
}

-- ---- CASE

-- beside its code, an arm counts one, and one for each label
pub record ArmCosts (m : ℕ) (x : Arm) : Type 0 where
  pub count : ℕ
  pub costs : Costs count 0 x.code
  pub room : 1 + length x.labels + count ≤ m

abbrev ArmsCost : List ℕ → List Arm → Type 0
ArmsCost [] [] = Unit {0}
ArmsCost (n ∷ ns) (x ∷ xs) = ArmCosts n x × ArmsCost ns xs
ArmsCost [] (x ∷ xs) = ⊥
ArmsCost (n ∷ ns) [] = ⊥

arm_most : (m i tests j a b l : ℕ) → m ≤ i + 3 → i ≡ j + b → j ≤ tests + 3 → tests ≤ 36 * l + 6 → b ≤ a + 6
    → m ≤ a + (36 * l + 18)
arm_most m i tests j a b l h e k t p = omega (arith, h, e, k, t, p)

with_jump : (m a b : ℕ) → m ≡ a + b → b ≤ 6 → m ≤ a + 6
with_jump m a b e h = omega (arith, e, h)

one_jump : (l : ℕ) → Short 6 (Br l ∷ [])
one_jump l = jumps l ▹ short_end

arm_wraps : (t : ℕ) (labels : List Label)
    → Wraps (36 * length labels + 18) (λ code. block (block (tests_code t labels) ++ (code ++ Br 1 ∷ [])))
arm_wraps t labels code =
    arm_most _ (bytes (block (tests_code t labels) ++ (code ++ Br 1 ∷ []))) (bytes (tests_code t labels))
    (bytes (block (tests_code t labels))) (bytes code) (bytes (code ++ Br 1 ∷ [])) (length labels)
    (block_wraps (block (tests_code t labels) ++ (code ++ Br 1 ∷ [])))
    (bytes_append (block (tests_code t labels)) (code ++ Br 1 ∷ []))
    (block_wraps (tests_code t labels)) (short_tests t labels).at_most
    (with_jump _ (bytes code) (bytes (Br 1 ∷ [])) (bytes_append code (Br 1 ∷ [])) (one_jump 1).at_most)

arm_fits : (a n l m : ℕ) → 1 + l + n ≤ m → a ≤ unit_bytes * n + (0 + (36 * l + 18)) → a ≤ unit_bytes * m + 0
arm_fits a n l m h p = omega (arith, h, p)

arm_short : (t m : ℕ) (x : Arm) → ArmCosts m x → Costs m 0 (arm_code t x)
arm_short t m x p = record {
  at_most = λ s c. arm_fits _ p.count (length x.labels) m p.room
      ((within_costs (36 * length x.labels + 18) 1
      (λ code. block (block (tests_code t x.labels) ++ (code ++ Br 1 ∷ []))) (arm_wraps t x.labels) p.costs).at_most
      s c);
}

chained : (t : ℕ) (ns : List ℕ) (xs : List Arm) → ArmsCost ns xs → AllCost ns (map (arm_code t) xs)
chained t [] [] p = tt
chained t [] (x ∷ xs) p = absurd p
chained t (n ∷ ns) [] p = absurd p
chained t (n ∷ ns) (x ∷ xs) p = (arm_short t n x p.0, chained t ns xs p.1)

chain_costs : (t : ℕ) {o : ℕ} (ns : List ℕ) (xs : List Arm) {otherwise : Coded} → ArmsCost ns xs → Costs o 18 otherwise
    → Costs (total ns + o) 5210 (chain_code t xs otherwise)
chain_costs t ns xs p q = extra_costs refl
    (within_costs 3 1 block block_wraps (both_cost (all_cost ns (map (arm_code t) xs) (chained t ns xs p)) q))

jump_fits : (a k n l m u : ℕ) → 1 + l + n ≤ m → a ≤ unit_bytes * (k + n) + (u + 3 + (0 + 0 + 6))
    → a ≤ unit_bytes * (k + m) + u
jump_fits a k n l m u h p = omega (arith, h, p)

jump_costs : {k u : ℕ} (m : ℕ) (x : Arm) (labels label : ℕ) {inner : Coded} → Costs k u inner → ArmCosts m x
    → Costs (k + m) u (in_block inner ⨾ within labels (λ code. code) x.code ⨾ plain (Br label ∷ []))
jump_costs {k} {u} m x labels label q p = record {
  at_most = λ s c. jump_fits _ k p.count (length x.labels) m u p.room
      ((both_cost (boxed_costs q) (then_plain (one_jump label)
      (within_costs 0 labels (λ code. code) as_it_is p.costs))).at_most s c);
}

no_arms : (k : ℕ) → k ≤ k + 0
no_arms k = omega arith

sum_again : (k a b : ℕ) → k + a + b ≤ k + (a + b)
sum_again k a b = omega arith

jumps_cost : (k : ℕ) {u : ℕ} (ns : List ℕ) (xs : List Arm) {inner : Coded} → Costs k u inner → ArmsCost ns xs
    → Costs (k + total ns) u (jump_arms xs inner)
jumps_cost k [] [] q p = costs_more (no_arms k) q
jumps_cost k [] (x ∷ xs) q p = absurd p
jumps_cost k (n ∷ ns) [] q p = absurd p
jumps_cost k (n ∷ ns) (x ∷ xs) q p = costs_more (sum_again k n (total ns))
    (jumps_cost (k + n) ns xs (jump_costs n x (length xs + 2) (length xs + 1) q p.0) p.1)

from_none : (n o : ℕ) → 0 + n + o ≤ n + o
from_none n o = omega arith

table_costs : (t : ℕ) {o : ℕ} (ns : List ℕ) (xs : List Arm) {otherwise : Coded} → span_of (all_labels xs) ≤ 1024
    → ArmsCost ns xs → Costs o 18 otherwise → Costs (total ns + o) 5210 (table_code t xs otherwise)
table_costs t {o} ns xs h p q =
    costs_more (from_none (total ns) o)
    (boxed_costs (both_cost (boxed_costs (jumps_cost 0 ns xs
    (plain_costs (short_dispatch t xs (least_of (all_labels xs)) (span_of (all_labels xs)) h)) p))
    (within_costs 0 1 (λ code. code) as_it_is q)))

-- a CASE has a table if the labels are at most 1024
narrow : (a b c : Bool) (n : ℕ) → (a && (b && (nat_le n 1024 && c))) ≡ true → n ≤ 1024
narrow true true c n e = leb-true n 1024 (and_first (nat_le n 1024) c e) where
  and_first : (x y : Bool) → (x && y) ≡ true → x ≡ true
  and_first true y e = refl
  and_first false y e = e
narrow false b c n e = absurd (false≢true e)
narrow true false c n e = absurd (false≢true e)

by_density : (b : Bool) {l n u : ℕ} {x y : Coded} → (b ≡ true → l ≤ 1024) → (l ≤ 1024 → Costs n u x) → Costs n u y
    → Costs n u (if b then x else y)
by_density true h p q = p (h refl)
by_density false h p q = q

case_sum : (n a o : ℕ) → 6 + (n + (a + o)) ≤ 6 + n + a + o
case_sum n a o = omega arith

case_costs : {n o : ℕ} (ns : List ℕ) (xs : List Arm) {x otherwise : Coded} → Costs n 0 x → ArmsCost ns xs
    → Costs o 18 otherwise → Costs (6 + n + total ns + o) 0 (case_code x xs otherwise)
case_costs {n} {o} ns xs r p q =
    settles 6 refl (case_sum n (total ns) o)
    (both_cost r (number_costs (λ t. plain_then (sets t ▹ short_end)
    (by_density (is_dense (length xs) (all_labels xs))
    (narrow (nat_le (length xs) 16) (nat_le 4 (all_values (all_labels xs))) _ (span_of (all_labels xs)))
    (λ h. table_costs t ns xs h p q) (chain_costs t ns xs p q)))))

-- ---- FOR

turn_costs : {d b : ℕ} (t : TypeNo) (by : ℤ) (n : ℕ) {place body : Coded} → Costs d 0 place → Costs b 0 body
    → Costs (b + (d + (d + d))) 127 (for_turn place t by n body)
turn_costs t by n p q =
    both_cost q (both_cost (then_setting (λ s. short_loaded s.home.types t) p)
    (plain_then (amount _ ▹ computes _ ▹ gets n ▹ computes _ ▹ jumps_if 1 ▹ short_end)
    (both_cost p (then_setting (λ s. amount _ ▹ computes _ ▹ short_both (short_in_type s.home.types t 1)
    (short_both (short_stored s.home.types t) (jumps 0 ▹ short_end)))
    (then_setting (λ s. short_loaded s.home.types t) p)))))

short_passes : (n : ℕ) (by : ℤ) → Short 13 (LocalGet n ∷ relation (passes by) ∷ BrIf 0 ∷ [])
short_passes n by = gets n ▹ computes _ ▹ jumps_if 0 ▹ short_end

for_sum : (d s l b : ℕ) → 1 + (d + (s + (l + (0 + (d + (b + (d + (d + d)))))))) ≤ 1 + 5 * d + s + l + b
for_sum d s l b = omega arith

for_costs : {d k l b : ℕ} (t : TypeNo) (start limit : Part) (by : ℤ) {place body : Coded} → Costs d 0 place
    → Costs k 0 start.code → Costs l 0 limit.code → Costs b 0 body
    → Costs (1 + 5 * d + k + l + b) 0 (for_code place t start limit by body)
for_costs {d} {k} {l} {b} t start limit by p q r u =
    settles 1 refl (for_sum d k l b)
    (both_cost p (both_cost (then_setting (λ s. short_taken s.home.types t start.constant start.of) q)
    (both_cost r (number_costs
    (λ n. both_cost (plain_then (sets n ▹ short_end) (setting_costs (λ s. plain_costs (short_stored s.home.types t))))
    (within_costs 3 1 block block_wraps
    (both_cost (then_setting (λ s. short_loaded s.home.types t) p)
    (plain_then (short_passes n by) (within_costs 3 1 loop loop_wraps (turn_costs t by n p u))))))))))

-- ---- INC, DEC, INCL, EXCL and strings

change_sum : (d n : ℕ) → 2 + (d + (n + 0)) ≤ 2 + d + n
change_sum d n = omega arith

change_costs : {d n : ℕ} (o : Change) (t : TypeNo) {place x : Coded} → Costs d 0 place → Costs n 0 x
    → Costs (2 + d + n) 0 (change_code o place t x)
change_costs {d} {n} o t p q =
    settles 2 refl (change_sum d n)
    (both_cost p (address_costs (λ w. plain_then (sets w ▹ short_end) (both_cost q (number_costs
    (λ k. plain_then (sets k ▹ short_end) (setting_costs (λ s. plain_costs (short_changed o w k s.home.types t)))))))))

member_costs : {d n : ℕ} (o : Membership) {place x : Coded} → Costs d 0 place → Costs n 0 x
    → Costs (2 + d + n) 0 (member_code o place x)
member_costs {d} {n} o p q =
    settles 2 refl (change_sum d n)
    (both_cost p (address_costs (λ w. plain_then (sets w ▹ short_end)
    (both_cost q (plain_then (short_checked (pos 0) (pos 31) 1) (number_costs
    (λ k. plain_then (sets k ▹ short_end) (setting_costs
    (λ s. plain_costs (short_with_member o w k s.home.types))))))))))

text_sum : (d : ℕ) → 1 + (d + 0) ≤ 1 + d
text_sum d = omega arith

copied_costs : {d : ℕ} (t : TypeNo) (text : List ℕ) {place : Coded} → Costs d 0 place
    → Costs (1 + d) 0 (copy_text_code place t text)
copied_costs {d} t text p =
    settles 1 refl (text_sum d)
    (both_cost p (address_costs (λ w. plain_then (tees w ▹ short_end) (text_costs (length text)
    (λ at. setting_costs (λ s. plain_costs
    (short_copied at (length text) (size (tree s.home.types t) - length text) w)))))))

-- ---- statements

module _ (numbered : Numbered) where
  abbrev of_arm : TypedArm → Arm
  of_arm = fold-TypedArm Coded Arm (step_layer numbered) (arm_layer numbered)

  abbrev opened_step : TypedStmt-F TypedStmt TypedArm → TypedStmt-F Coded Arm
  opened_step x = map-TypedStmt TypedStmt TypedArm Coded Arm (step_code numbered) of_arm x

  abbrev opened_arm : TypedArm-F TypedStmt TypedArm → TypedArm-F Coded Arm
  opened_arm x = map-TypedArm TypedStmt TypedArm Coded Arm (step_code numbered) of_arm x

  at_step : (e : TypedStmt) (x : TypedStmt-F TypedStmt TypedArm) → out-TypedStmt e ≡ x
      → step_code numbered e ≡ step_layer numbered (opened_step x)
  unfolding step_code
  at_step e x h = fold_out-TypedStmt Coded Arm (step_layer numbered) (arm_layer numbered) e
      ∙ ap (λ (y : TypedStmt-F TypedStmt TypedArm). step_layer numbered (opened_step y)) h

  at_arm : (e : TypedArm) (x : TypedArm-F TypedStmt TypedArm) → out-TypedArm e ≡ x
      → of_arm e ≡ arm_layer numbered (opened_arm x)
  unfolding step_code
  at_arm e x h = fold_out-TypedArm Coded Arm (step_layer numbered) (arm_layer numbered) e
      ∙ ap (λ (y : TypedArm-F TypedStmt TypedArm). arm_layer numbered (opened_arm y)) h

  abbrev PS : TypedStmt → Type 0
  PS x = IsNear (outward_step x) → Costs (size_step x) 0 (step_code numbered x)

  abbrev PA : TypedArm → Type 0
  PA x = IsNear (outward_arm x) → ArmCosts (size_arm x) (of_arm x)

  abbrev SS : Type 0
  SS = (x : TypedStmt) × PS x

  abbrev SA : Type 0
  SA = (x : TypedArm) × PA x

  abbrev bare_step : TypedStmt-F SS SA → TypedStmt-F TypedStmt TypedArm
  bare_step x = map-TypedStmt SS SA TypedStmt TypedArm (λ e. e.0) (λ e. e.0) x

  abbrev bare_arm : TypedArm-F SS SA → TypedArm-F TypedStmt TypedArm
  bare_arm x = map-TypedArm SS SA TypedStmt TypedArm (λ e. e.0) (λ e. e.0) x

  abbrev steps_of : List SS → List TypedStmt
  steps_of xs = map (λ (e : SS). e.0) xs

  abbrev arms_of : List SA → List TypedArm
  arms_of xs = map (λ (e : SA). e.0) xs

  all_steps : (xs : List SS) → IsNear (deepest (map outward_step (steps_of xs)))
      → AllCost (map size_step (steps_of xs)) (map (step_code numbered) (steps_of xs))
  all_steps [] h = tt
  all_steps (x ∷ xs) h = (x.1 (first_near _ _ h), all_steps xs (second_near (outward_step x.0) _ h))

  all_arms : (xs : List SA) → IsNear (deepest (map outward_arm (arms_of xs)))
      → ArmsCost (map size_arm (arms_of xs)) (map of_arm (arms_of xs))
  all_arms [] h = tt
  all_arms (x ∷ xs) h = (x.1 (first_near _ _ h), all_arms xs (second_near (outward_arm x.0) _ h))

  abbrev count : List SS → ℕ
  count xs = total (map size_step (steps_of xs))

  abbrev far : List SS → ℕ
  far xs = deepest (map outward_step (steps_of xs))

  body_costs : (xs : List SS) → IsNear (far xs)
      → Costs (count xs) 0 (all_coded (map (step_code numbered) (steps_of xs)))
  body_costs xs h = all_cost _ _ (all_steps xs h)

  two_sum : (n k : ℕ) → 1 + (n + k) ≤ 1 + n + k
  two_sum n k = omega arith

  if_sum : (n k o : ℕ) → 1 + (n + (k + o)) ≤ 1 + n + k + o
  if_sum n k o = omega arith

  alone_sum : (n k : ℕ) → 1 + (n + k) ≤ 1 + n + k + 0
  alone_sum n k = omega arith

  one_alone : 1 + 0 ≤ 1
  one_alone = omega arith

  step_costs : (y : TypedStmt-F SS SA) → IsNear (outward.step_layer (typed.weights_step (by_distance 0) (bare_step y)))
      → Costs (sizes.step_layer (typed.weights_step by_size (bare_step y))) 0
      (step_layer numbered (opened_step (bare_step y)))
  step_costs (layer.Assign d t e) h =
      settles 1 refl (two_sum (size_place d) (size_typed e))
      (both_cost (place_short numbered d (first_near _ _ h))
      (then_setting (λ s. short_stored s.home.types t)
      (then_setting (λ s. short_taken s.home.types t _ _)
      (expr_short numbered e (second_near (outward_place d) _ h)))))
  step_costs (layer.Copy to from t) h =
      settles 1 refl (two_sum (size_place to) (size_place from))
      (both_cost (place_short numbered to (first_near _ _ h))
      (then_setting (λ s. address _ ▹ calls _ ▹ short_end)
      (place_short numbered from (second_near (outward_place to) _ h))))
  step_costs (layer.CopyText d t text) h = copied_costs t text (place_short numbered d h)
  step_costs (layer.Call c) h = call_short numbered c h
  step_costs (layer.Put e) h = settles 1 refl (own (size_typed e))
      (then_plain (calls _ ▹ short_end) (then_setting
      (λ s. short_taken s.home.types char (expr_part numbered e).constant (expr_part numbered e).of)
      (expr_short numbered e h)))
  step_costs (layer.Change o d t e) h = change_costs o t (place_short numbered d (first_near _ _ h))
      (expr_short numbered e (second_near (outward_place d) _ h))
  step_costs (layer.Membership o d e) h =
      member_costs o (place_short numbered d (first_near _ _ h))
      (expr_short numbered e (second_near (outward_place d) _ h))
  step_costs layer.Halt h = settles 1 refl one_alone (plain_costs (short_fault 9))
  step_costs (layer.If e body None) h =
      let l = first_near (outward_typed e ⊔ far body) 0 h in
      settles 1 refl (alone_sum (size_typed e) (count body))
      (both_cost (expr_short numbered e (first_near (outward_typed e) (far body) l))
      (plain_then (computes _ ▹ short_end)
      (within_costs 4 1 (λ code. If None code None ∷ []) only_wraps
      (body_costs body (second_near (outward_typed e) (far body) l)))))
  step_costs (layer.If e body (Some others)) h =
      let l = first_near (outward_typed e ⊔ far body) (far others) h in
      settles 1 refl (if_sum (size_typed e) (count body) (count others))
      (both_cost (expr_short numbered e (first_near (outward_typed e) (far body) l))
      (plain_then (computes _ ▹ short_end)
      (else_costs (body_costs body (second_near (outward_typed e) (far body) l))
      (body_costs others (second_near (outward_typed e ⊔ far body) (far others) h)))))
  step_costs (layer.Case e arms None) h =
      let far_arms = deepest (map outward_arm (arms_of arms)) in
      let l = first_near (outward_typed e ⊔ far_arms) 0 h in
      case_costs _ _ (expr_short numbered e (first_near (outward_typed e) far_arms l))
      (all_arms arms (second_near (outward_typed e) far_arms l)) (plain_costs (short_fault 5))
  step_costs (layer.Case e arms (Some others)) h =
      let far_arms = deepest (map outward_arm (arms_of arms)) in
      let l = first_near (outward_typed e ⊔ far_arms) (far others) h in
      case_costs _ _ (expr_short numbered e (first_near (outward_typed e) far_arms l))
      (all_arms arms (second_near (outward_typed e) far_arms l))
      (extra_costs refl (body_costs others (second_near (outward_typed e ⊔ far_arms) (far others) h)))
  step_costs (layer.While e body) h =
      settles 1 refl (two_sum (size_typed e) (count body))
      (within_costs 6 2 block_loop block_loop_wraps
      (both_cost (expr_short numbered e (first_near _ _ h))
      (plain_then (computes _ ▹ jumps_if 1 ▹ short_end)
      (then_plain (jumps 0 ▹ short_end) (body_costs body (second_near (outward_typed e) _ h))))))
  step_costs (layer.Repeat body e) h =
      settles 1 refl (two_sum (count body) (size_typed e))
      (within_costs 3 1 loop loop_wraps (both_cost (body_costs body (first_near _ _ h))
      (then_plain (computes _ ▹ jumps_if 0 ▹ short_end) (expr_short numbered e (second_near (far body) _ h)))))
  step_costs (layer.Loop body) h = settles 1 refl (own (count body))
      (leaving_costs 6 1 block_loop block_loop_wraps (then_plain (jumps 0 ▹ short_end) (body_costs body h)))
  step_costs layer.Exit h = settles 1 refl one_alone (setting_costs (λ s. plain_costs (jumps s.exit ▹ short_end)))
  step_costs layer.Return h = settles 1 refl one_alone (plain_costs (goes_back ▹ short_end))
  step_costs (layer.Give t e) h = settles 1 refl (own (size_typed e))
      (then_plain (goes_back ▹ short_end) (then_setting (λ s. short_taken s.home.types t _ _)
      (expr_short numbered e h)))
  step_costs (layer.For d t start limit by body) h =
      let l = first_near (outward_place d ⊔ outward_typed start ⊔ outward_typed limit) (far body) h in
      let k = first_near (outward_place d ⊔ outward_typed start) (outward_typed limit) l in
      for_costs t (expr_part numbered start) (expr_part numbered limit) by
      (place_short numbered d (first_near (outward_place d) (outward_typed start) k))
      (expr_short numbered start (second_near (outward_place d) (outward_typed start) k))
      (expr_short numbered limit (second_near (outward_place d ⊔ outward_typed start) (outward_typed limit) l))
      (body_costs body (second_near (outward_place d ⊔ outward_typed start ⊔ outward_typed limit) (far body) h))
  step_costs (layer.With d body) h =
      settles 1 refl (two_sum (size_place d) (count body))
      (both_cost (place_short numbered d (first_near _ _ h))
      (address_costs (λ w. plain_then (sets w ▹ short_end)
      (under_costs w (body_costs body (second_near (outward_place d) _ h))))))

  itself : (n : ℕ) → n ≤ n
  itself n = omega arith

  arm_costs : (y : TypedArm-F SS SA) → IsNear (outward.arm_layer (typed.weights_arm (by_distance 0) (bare_arm y)))
      → ArmCosts (sizes.arm_layer (typed.weights_arm by_size (bare_arm y)))
      (arm_layer numbered (opened_arm (bare_arm y)))
  arm_costs y h = record {
    count = count y.body;
    costs = body_costs y.body h;
    room =
        itself (1 + length y.labels + count y.body);
  }

  step_step : (x : TypedStmt-F TypedStmt TypedArm) (y : TypedStmt-F SS SA) → bare_step y ≡ x → PS (roll-TypedStmt x)
  step_step x y q h =
      let e = out-roll-TypedStmt x ∙ sym q in
      subst (λ (n : ℕ). Costs n 0 (step_code numbered (roll-TypedStmt x)))
      (sym (typed.at_step by_size (roll-TypedStmt x) (bare_step y) e))
      (subst (λ (z : Coded). Costs (sizes.step_layer (typed.weights_step by_size (bare_step y))) 0 z)
      (sym (at_step (roll-TypedStmt x) (bare_step y) e))
      (step_costs y (subst IsNear (typed.at_step (by_distance 0) (roll-TypedStmt x) (bare_step y) e) h)))

  step_arm : (x : TypedArm-F TypedStmt TypedArm) (y : TypedArm-F SS SA) → bare_arm y ≡ x → PA (roll-TypedArm x)
  step_arm x y q h =
      let e = out-roll-TypedArm x ∙ sym q in
      subst (λ (n : ℕ). ArmCosts n (of_arm (roll-TypedArm x)))
      (sym (typed.at_arm by_size (roll-TypedArm x) (bare_arm y) e))
      (subst (ArmCosts (sizes.arm_layer (typed.weights_arm by_size (bare_arm y))))
      (sym (at_arm (roll-TypedArm x) (bare_arm y) e))
      (arm_costs y (subst IsNear (typed.at_arm (by_distance 0) (roll-TypedArm x) (bare_arm y) e) h)))

  pub step_short : (x : TypedStmt) → PS x
  step_short = ind-TypedStmt PS PA step_step step_arm

  pub body_short : (xs : List TypedStmt) → IsNear (outward_body xs) → Costs (size_body xs) 0 (body_code numbered xs)
  body_short [] h = plain_costs short_end
  body_short (x ∷ xs) h = both_cost (step_short x (first_near _ _ h)) (body_short xs (second_near (outward_step x) _ h))
