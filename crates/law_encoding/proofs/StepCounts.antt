-- The code of statements takes no more locals than they count.
use Rattle.std.proofs.Common.{map, ◌≡◌, ℕ, suc, ◌+◌, ◌*◌, ◌≤◌, ℤ, pos, Bool, true, false, List, [], ◌∷◌, length, Some, None, sym, ap, subst, ◌∙◌, arith}
use Rattle.std.specs.Prelude.{if◌then◌else◌, ◌-◌, ◌++◌}
use Rattle.wasm_tree.specs.declared.instr.Instr.{Instr}
use Rattle.wasm_tree.specs.declared.instr.Instr.TheVariants.{LocalGet, LocalSet, LocalTee, If, Br, BrIf, Call as Invoke}
use Rattle.wasm_tree.specs.declared.instr.Operation.TheVariants.{Add}
use Rattle.typed_tree.specs.declared.statement.Change.{Change}
use Rattle.typed_tree.specs.declared.statement.Membership.{Membership}
use Rattle.typed_tree.specs.declared.statement.TypedArm.{TypedArm, TypedArm-F, out-TypedArm, roll-TypedArm, out-roll-TypedArm, map-TypedArm, fold_out-TypedArm, fold-TypedArm}
use Rattle.typed_tree.specs.declared.statement.TypedStmt.{TypedStmt, TypedStmt-F, out-TypedStmt, roll-TypedStmt, out-roll-TypedStmt, map-TypedStmt, fold_out-TypedStmt, ind-TypedStmt}
use Rattle.typed_tree.specs.declared.statement.TypedStmt.TheOpen as layer
use Rattle.typed_tree.specs.declared.types.TypeNo.{TypeNo}
use Rattle.layout_storage.specs.Shapes.{tree}
use Rattle.layout_storage.specs.Sizes.{size}
use Rattle.def_scheme.specs.Coded.{Coded, all_coded, number, operation, relation, wrap_word, is_zero, put, fault, check_code}
use Rattle.def_scheme.specs.Cells.{load_code, store_code, in_type}
use Rattle.def_scheme.specs.Exprs.{Numbered, Part, expr_part}
use Rattle.def_scheme.specs.Steps.{Arm, block, loop, block_loop, leaving, under, if_else, tests_code, arm_code, chain_code, all_labels, least_of, span_of, is_dense, dispatch, in_block, jump_arms, table_code, case_code, passes, for_turn, for_code, change_instructions, change_code, with_member, member_code, text_copied, copy_text_code, step_layer, arm_layer, step_code, body_code}
use Rattle.law_encoding.specs.Sizes.{total}
use Rattle.law_encoding.specs.TypedSizes.{size_typed, size_place, size_call, size_step, size_arm, size_body}
use Rattle.law_encoding.specs.TypedSizes as sizes
use Rattle.law_encoding.proofs.Ways.{by_size}
use Rattle.law_encoding.proofs.Weighed as typed
use Rattle.law_encoding.proofs.Counts.{Grows, AllGrow, plain_grows, both_grow, grows_more, within_grows, setting_grows, number_grows, address_grows, text_grows, all_grow, then_plain, then_setting, plain_then, expr_counts, place_counts, call_counts}

-- ---- blocks

leaving_grows : (n exit : ℕ) (wrap : List Instr → List Instr) {x : Coded} → Grows n x → Grows n (leaving exit wrap x)
leaving_grows n exit wrap p = record {
  numbers = λ s c. p.numbers (record s { exit = exit }) c;
  addresses =
      λ s c. p.addresses (record s { exit = exit }) c;
}

under_grows : (n w : ℕ) {x : Coded} → Grows n x → Grows n (under w x)
under_grows n w p = record {
  numbers = λ s c. p.numbers (record s { withs = s.withs ++ w ∷ [] }) c;
  addresses =
      λ s c. p.addresses (record s { withs = s.withs ++ w ∷ [] }) c;
}

boxed_grows : (n : ℕ) {x : Coded} → Grows n x → Grows n (in_block x)
boxed_grows n p = record { numbers = λ s c. p.numbers s c; addresses = λ s c. p.addresses s c }

in_turn : (a b c n k : ℕ) → b ≤ a + n → c ≤ b + k → c ≤ a + (n + k)
in_turn a b c n k h l = omega (arith, h, l)

else_grows : (n k : ℕ) {x y : Coded} → Grows n x → Grows k y → Grows (n + k) (if_else x y)
else_grows n k {x = x} p q = record {
  numbers = λ s c. let i = record s { exit = suc s.exit } in
      in_turn c.numbers (x i c).1.numbers _ n k (p.numbers i c) (q.numbers i (x i c).1);
  addresses = λ s c. let i = record s { exit = suc s.exit } in
      in_turn c.addresses (x i c).1.addresses _ n k (p.addresses i c) (q.addresses i (x i c).1);
}

-- ---- CASE

abbrev ArmsGrow : List ℕ → List Arm → Type 0
ArmsGrow [] [] = Unit {0}
ArmsGrow (n ∷ ns) (x ∷ xs) = Grows n x.code × ArmsGrow ns xs
ArmsGrow [] (x ∷ xs) = ⊥
ArmsGrow (n ∷ ns) [] = ⊥

chained : (t : ℕ) (ns : List ℕ) (xs : List Arm) → ArmsGrow ns xs → AllGrow ns (map (arm_code t) xs)
chained t [] [] p = tt
chained t [] (x ∷ xs) p = absurd p
chained t (n ∷ ns) [] p = absurd p
chained t (n ∷ ns) (x ∷ xs) p = (
  within_grows n 1 (λ code. block (block (tests_code t x.labels) ++ (code ++ Br 1 ∷ [])))
      p.0,
  chained t ns xs p.1,
)

chain_grows : (t o : ℕ) (ns : List ℕ) (xs : List Arm) {otherwise : Coded} → ArmsGrow ns xs → Grows o otherwise
    → Grows (total ns + o) (chain_code t xs otherwise)
chain_grows t o ns xs p q = within_grows (total ns + o) 1 block
    (both_grow (total ns) o (all_grow ns (map (arm_code t) xs) (chained t ns xs p)) q)

no_more : (k : ℕ) → k ≤ k + 0
no_more k = omega arith

sum_again : (k a b : ℕ) → k + a + b ≤ k + (a + b)
sum_again k a b = omega arith

jumps_grow : (k : ℕ) (ns : List ℕ) (xs : List Arm) {inner : Coded} → Grows k inner → ArmsGrow ns xs
    → Grows (k + total ns) (jump_arms xs inner)
jumps_grow k [] [] q p = grows_more k (k + 0) (no_more k) q
jumps_grow k [] (x ∷ xs) q p = absurd p
jumps_grow k (n ∷ ns) [] q p = absurd p
jumps_grow k (n ∷ ns) (x ∷ xs) q p =
    grows_more (k + n + total ns) (k + (n + total ns)) (sum_again k n (total ns))
    (jumps_grow (k + n) ns xs (both_grow k n (boxed_grows k q)
    (then_plain n (Br (length xs + 1) ∷ []) (within_grows n (length xs + 2) (λ code. code) p.0))) p.1)

from_none : (n o : ℕ) → 0 + n + o ≤ n + o
from_none n o = omega arith

table_grows : (t o : ℕ) (ns : List ℕ) (xs : List Arm) {otherwise : Coded} → ArmsGrow ns xs → Grows o otherwise
    → Grows (total ns + o) (table_code t xs otherwise)
table_grows t o ns xs p q =
    boxed_grows (total ns + o) (grows_more (0 + total ns + o) (total ns + o) (from_none (total ns) o)
    (both_grow (0 + total ns) o (boxed_grows (0 + total ns)
    (jumps_grow 0 ns xs (plain_grows 0 (dispatch t xs (least_of (all_labels xs)) (span_of (all_labels xs)))) p))
    (within_grows o 1 (λ code. code) q)))

by_density : (b : Bool) (n : ℕ) {x y : Coded} → Grows n x → Grows n y → Grows n (if b then x else y)
by_density true n p q = p
by_density false n p q = q

case_sum : (n a o : ℕ) → n + (1 + (a + o)) ≤ 6 + n + a + o
case_sum n a o = omega arith

case_grows : (n o : ℕ) (ns : List ℕ) (xs : List Arm) {x otherwise : Coded} → Grows n x → ArmsGrow ns xs
    → Grows o otherwise → Grows (6 + n + total ns + o) (case_code x xs otherwise)
case_grows n o ns xs r p q =
    grows_more (n + (1 + (total ns + o))) (6 + n + total ns + o) (case_sum n (total ns) o)
    (both_grow n (1 + (total ns + o)) r (number_grows (total ns + o)
    (λ t. plain_then (total ns + o) (LocalSet t ∷ [])
    (by_density (is_dense (length xs) (all_labels xs)) (total ns + o) (table_grows t o ns xs p q)
    (chain_grows t o ns xs p q)))))

-- ---- FOR

turn_grows : (d b : ℕ) (t : TypeNo) (by : ℤ) (n : ℕ) {place body : Coded} → Grows d place → Grows b body
    → Grows (b + (d + (d + d))) (for_turn place t by n body)
turn_grows d b t by n p q =
    both_grow b (d + (d + d)) q (both_grow d (d + d) (then_setting d (λ s. load_code s.home.types t) p)
    (plain_then (d + d) (number by ∷ operation Add ∷ LocalGet n ∷ relation (passes by) ∷ BrIf 1 ∷ [])
    (both_grow d d p (then_setting d (λ s. number by ∷ operation Add
    ∷ (in_type s.home.types t 1 ++ (store_code s.home.types t ++ Br 0 ∷ [])))
    (then_setting d (λ s. load_code s.home.types t) p)))))

for_sum : (d s l b : ℕ) → d + (s + (l + (1 + (0 + (d + (b + (d + (d + d)))))))) ≤ 1 + 5 * d + s + l + b
for_sum d s l b = omega arith

for_grows : (d k l b : ℕ) (t : TypeNo) (start limit : Part) (by : ℤ) {place body : Coded} → Grows d place
    → Grows k start.code → Grows l limit.code → Grows b body
    → Grows (1 + 5 * d + k + l + b) (for_code place t start limit by body)
for_grows d k l b t start limit by p q r u =
    grows_more _ _ (for_sum d k l b)
    (both_grow d _ p (both_grow k _ (then_setting k _ q) (both_grow l _ r (number_grows (0 + (d + (b + (d + (d + d)))))
    (λ n. both_grow 0 _ (plain_then 0 (LocalSet n ∷ [])
    (setting_grows 0 (λ s. plain_grows 0 (store_code s.home.types t))))
    (within_grows (d + (b + (d + (d + d)))) 1 block
    (both_grow d (b + (d + (d + d))) (then_setting d (λ s. load_code s.home.types t) p)
    (plain_then (b + (d + (d + d))) (LocalGet n ∷ relation (passes by) ∷ BrIf 0 ∷ [])
    (within_grows (b + (d + (d + d))) 1 loop (turn_grows d b t by n p u))))))))))

-- ---- INC, DEC, INCL, EXCL and strings

change_sum : (d n : ℕ) → d + (1 + (n + (1 + 0))) ≤ 2 + d + n
change_sum d n = omega arith

change_grows : (d n : ℕ) (o : Change) (t : TypeNo) {place x : Coded} → Grows d place → Grows n x
    → Grows (2 + d + n) (change_code o place t x)
change_grows d n o t p q =
    grows_more (d + (1 + (n + (1 + 0)))) (2 + d + n) (change_sum d n)
    (both_grow d (1 + (n + (1 + 0))) p (address_grows (n + (1 + 0))
    (λ w. plain_then (n + (1 + 0)) (LocalSet w ∷ []) (both_grow n (1 + 0) q (number_grows 0
    (λ k. plain_then 0 (LocalSet k ∷ []) (setting_grows 0
    (λ s. plain_grows 0 (change_instructions o w k s.home.types t)))))))))

member_grows : (d n : ℕ) (o : Membership) {place x : Coded} → Grows d place → Grows n x
    → Grows (2 + d + n) (member_code o place x)
member_grows d n o p q =
    grows_more (d + (1 + (n + (1 + 0)))) (2 + d + n) (change_sum d n)
    (both_grow d (1 + (n + (1 + 0))) p (address_grows (n + (1 + 0))
    (λ w. plain_then (n + (1 + 0)) (LocalSet w ∷ [])
    (both_grow n (1 + 0) q (plain_then (1 + 0) (check_code (pos 0) (pos 31) 1) (number_grows 0
    (λ k. plain_then 0 (LocalSet k ∷ []) (setting_grows 0 (λ s. plain_grows 0 (with_member o w k s.home.types))))))))))

text_sum : (d : ℕ) → d + (1 + 0) ≤ 1 + d
text_sum d = omega arith

copied_grows : (d : ℕ) (t : TypeNo) (text : List ℕ) {place : Coded} → Grows d place
    → Grows (1 + d) (copy_text_code place t text)
copied_grows d t text p =
    grows_more (d + (1 + 0)) (1 + d) (text_sum d)
    (both_grow d (1 + 0) p (address_grows 0
    (λ w. plain_then 0 (LocalTee w ∷ []) (text_grows 0 (length text)
    (λ at. setting_grows 0 (λ s. plain_grows 0
    (text_copied at (length text) (size (tree s.home.types t) - length text) w)))))))

-- ---- statements

module _ (numbered : Numbered) where
  abbrev of_arm : TypedArm → Arm
  of_arm = fold-TypedArm Coded Arm (step_layer numbered) (arm_layer numbered)

  abbrev opened_step : TypedStmt-F TypedStmt TypedArm → TypedStmt-F Coded Arm
  opened_step x = map-TypedStmt TypedStmt TypedArm Coded Arm (step_code numbered) of_arm x

  abbrev opened_arm : TypedArm-F TypedStmt TypedArm → TypedArm-F Coded Arm
  opened_arm x = map-TypedArm TypedStmt TypedArm Coded Arm (step_code numbered) of_arm x

  at_step : (e : TypedStmt) (x : TypedStmt-F TypedStmt TypedArm) → out-TypedStmt e ≡ x
      → step_code numbered e ≡ step_layer numbered (opened_step x)
  unfolding step_code
  at_step e x h = fold_out-TypedStmt Coded Arm (step_layer numbered) (arm_layer numbered) e
      ∙ ap (λ (y : TypedStmt-F TypedStmt TypedArm). step_layer numbered (opened_step y)) h

  at_arm : (e : TypedArm) (x : TypedArm-F TypedStmt TypedArm) → out-TypedArm e ≡ x
      → of_arm e ≡ arm_layer numbered (opened_arm x)
  unfolding step_code
  at_arm e x h = fold_out-TypedArm Coded Arm (step_layer numbered) (arm_layer numbered) e
      ∙ ap (λ (y : TypedArm-F TypedStmt TypedArm). arm_layer numbered (opened_arm y)) h

  abbrev PS : TypedStmt → Type 0
  PS x = Grows (size_step x) (step_code numbered x)

  abbrev PA : TypedArm → Type 0
  PA x = Grows (size_arm x) (of_arm x).code

  abbrev SS : Type 0
  SS = (x : TypedStmt) × PS x

  abbrev SA : Type 0
  SA = (x : TypedArm) × PA x

  abbrev bare_step : TypedStmt-F SS SA → TypedStmt-F TypedStmt TypedArm
  bare_step x = map-TypedStmt SS SA TypedStmt TypedArm (λ e. e.0) (λ e. e.0) x

  abbrev bare_arm : TypedArm-F SS SA → TypedArm-F TypedStmt TypedArm
  bare_arm x = map-TypedArm SS SA TypedStmt TypedArm (λ e. e.0) (λ e. e.0) x

  all_steps : (xs : List SS) → AllGrow (map size_step (map (λ (e : SS). e.0) xs))
      (map (step_code numbered) (map (λ (e : SS). e.0) xs))
  all_steps [] = tt
  all_steps (x ∷ xs) = (x.1, all_steps xs)

  all_arms : (xs : List SA) → ArmsGrow (map size_arm (map (λ (e : SA). e.0) xs)) (map of_arm (map (λ (e : SA). e.0) xs))
  all_arms [] = tt
  all_arms (x ∷ xs) = (x.1, all_arms xs)

  abbrev count : List SS → ℕ
  count xs = total (map size_step (map (λ (e : SS). e.0) xs))

  body_grows : (xs : List SS) → Grows (count xs) (all_coded (map (step_code numbered) (map (λ (e : SS). e.0) xs)))
  body_grows xs = all_grow _ _ (all_steps xs)

  one_more : (n : ℕ) → n ≤ 1 + n
  one_more n = omega arith

  two_sum : (n k : ℕ) → n + k ≤ 1 + n + k
  two_sum n k = omega arith

  if_sum : (n k o : ℕ) → n + (k + o) ≤ 1 + n + k + o
  if_sum n k o = omega arith

  alone_sum : (n k : ℕ) → n + k ≤ 1 + n + k + 0
  alone_sum n k = omega arith

  with_sum : (d b : ℕ) → d + (1 + b) ≤ 1 + d + b
  with_sum d b = omega arith

  step_grows : (y : TypedStmt-F SS SA) → Grows (sizes.step_layer (typed.weights_step by_size (bare_step y)))
      (step_layer numbered (opened_step (bare_step y)))
  step_grows (layer.Assign d t e) =
      grows_more (size_place d + size_typed e) _ (two_sum _ _)
      (both_grow (size_place d) (size_typed e) (place_counts numbered d)
      (then_setting (size_typed e) (λ s. store_code s.home.types t)
      (then_setting (size_typed e) _ (expr_counts numbered e))))
  step_grows (layer.Copy to from t) =
      grows_more (size_place to + size_place from) _ (two_sum _ _)
      (both_grow (size_place to) (size_place from) (place_counts numbered to)
      (then_setting (size_place from) _ (place_counts numbered from)))
  step_grows (layer.CopyText d t text) = copied_grows (size_place d) t text (place_counts numbered d)
  step_grows (layer.Call c) = call_counts numbered c
  step_grows (layer.Put e) = grows_more (size_typed e) _ (one_more _)
      (then_plain (size_typed e) (Invoke put ∷ []) (then_setting (size_typed e) _ (expr_counts numbered e)))
  step_grows (layer.Change o d t e) = change_grows (size_place d) (size_typed e) o t (place_counts numbered d)
      (expr_counts numbered e)
  step_grows (layer.Membership o d e) = member_grows (size_place d) (size_typed e) o (place_counts numbered d)
      (expr_counts numbered e)
  step_grows layer.Halt = plain_grows 1 (fault 9)
  step_grows (layer.If e body None) =
      grows_more (size_typed e + count body) _ (alone_sum _ _)
      (both_grow (size_typed e) (count body) (expr_counts numbered e)
      (plain_then (count body) (wrap_word ∷ [])
      (within_grows (count body) 1 (λ code. If None code None ∷ []) (body_grows body))))
  step_grows (layer.If e body (Some others)) =
      grows_more (size_typed e + (count body + count others)) _ (if_sum _ _ _)
      (both_grow (size_typed e) (count body + count others) (expr_counts numbered e)
      (plain_then (count body + count others) (wrap_word ∷ [])
      (else_grows (count body) (count others) (body_grows body) (body_grows others))))
  step_grows (layer.Case e arms None) = case_grows (size_typed e) 0 _ _ (expr_counts numbered e) (all_arms arms)
      (plain_grows 0 (fault 5))
  step_grows (layer.Case e arms (Some others)) =
      case_grows (size_typed e) (count others) _ _ (expr_counts numbered e) (all_arms arms) (body_grows others)
  step_grows (layer.While e body) =
      grows_more (size_typed e + count body) _ (two_sum _ _)
      (within_grows (size_typed e + count body) 2 block_loop
      (both_grow (size_typed e) (count body) (expr_counts numbered e)
      (plain_then (count body) (is_zero ∷ BrIf 1 ∷ []) (then_plain (count body) (Br 0 ∷ []) (body_grows body)))))
  step_grows (layer.Repeat body e) =
      grows_more (count body + size_typed e) _ (two_sum _ _)
      (within_grows (count body + size_typed e) 1 loop
      (both_grow (count body) (size_typed e) (body_grows body)
      (then_plain (size_typed e) (is_zero ∷ BrIf 0 ∷ []) (expr_counts numbered e))))
  step_grows (layer.Loop body) = grows_more (count body) _ (one_more _)
      (leaving_grows (count body) 1 block_loop (then_plain (count body) (Br 0 ∷ []) (body_grows body)))
  step_grows layer.Exit = setting_grows 1 (λ s. plain_grows 1 (Br s.exit ∷ []))
  step_grows layer.Return = plain_grows 1 _
  step_grows (layer.Give t e) = grows_more (size_typed e) _ (one_more _)
      (then_plain (size_typed e) _ (then_setting (size_typed e) _ (expr_counts numbered e)))
  step_grows (layer.For d t start limit by body) =
      for_grows (size_place d) (size_typed start) (size_typed limit) (count body) t (expr_part numbered start)
      (expr_part numbered limit) by (place_counts numbered d) (expr_counts numbered start)
      (expr_counts numbered limit) (body_grows body)
  step_grows (layer.With d body) =
      grows_more (size_place d + (1 + count body)) _ (with_sum _ _)
      (both_grow (size_place d) (1 + count body) (place_counts numbered d)
      (address_grows (count body) (λ w. plain_then (count body) (LocalSet w ∷ [])
      (under_grows (count body) w (body_grows body)))))

  arm_more : (l b : ℕ) → b ≤ 1 + l + b
  arm_more l b = omega arith

  arm_grows : (y : TypedArm-F SS SA) → Grows (sizes.arm_layer (typed.weights_arm by_size (bare_arm y)))
      (arm_layer numbered (opened_arm (bare_arm y))).code
  arm_grows y = grows_more (count y.body) _ (arm_more (length y.labels) (count y.body)) (body_grows y.body)

  step_step : (x : TypedStmt-F TypedStmt TypedArm) (y : TypedStmt-F SS SA) → bare_step y ≡ x → PS (roll-TypedStmt x)
  step_step x y q =
      let e = out-roll-TypedStmt x ∙ sym q in
      subst (λ (n : ℕ). Grows n (step_code numbered (roll-TypedStmt x)))
      (sym (typed.at_step by_size (roll-TypedStmt x) (bare_step y) e))
      (subst (Grows (sizes.step_layer (typed.weights_step by_size (bare_step y))))
      (sym (at_step (roll-TypedStmt x) (bare_step y) e)) (step_grows y))

  step_arm : (x : TypedArm-F TypedStmt TypedArm) (y : TypedArm-F SS SA) → bare_arm y ≡ x → PA (roll-TypedArm x)
  step_arm x y q =
      let e = out-roll-TypedArm x ∙ sym q in
      subst (λ (n : ℕ). Grows n (of_arm (roll-TypedArm x)).code)
      (sym (typed.at_arm by_size (roll-TypedArm x) (bare_arm y) e))
      (subst (λ (z : Arm). Grows (sizes.arm_layer (typed.weights_arm by_size (bare_arm y))) z.code)
      (sym (at_arm (roll-TypedArm x) (bare_arm y) e)) (arm_grows y))

  pub step_counts : (x : TypedStmt) → PS x
  step_counts = ind-TypedStmt PS PA step_step step_arm

  pub body_counts : (xs : List TypedStmt) → Grows (size_body xs) (body_code numbered xs)
  body_counts [] = plain_grows 0 []
  body_counts (x ∷ xs) = both_grow (size_step x) (size_body xs) (step_counts x) (body_counts xs)
