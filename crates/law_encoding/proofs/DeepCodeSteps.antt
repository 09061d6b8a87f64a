-- The code of statements nests no deeper than they do.
use Rattle.std.proofs.Common.{map, ◌≡◌, ℕ, suc, ◌+◌, ◌≤◌, ℤ, pos, Bool, true, false, List, [], ◌∷◌, length, Some, None, refl, sym, ap, subst, ◌∙◌, arith}
use Rattle.std.specs.Prelude.{if◌then◌else◌, ◌-◌, ◌++◌, ◌&&◌, nat_le}
use Rattle.wasm_tree.specs.declared.instr.Instr.{Instr}
use Rattle.wasm_tree.specs.declared.instr.Instr.TheVariants.{LocalGet, If, Br, BrIf}
use Rattle.typed_tree.specs.declared.statement.Change.{Change}
use Rattle.typed_tree.specs.declared.statement.Label.{Label}
use Rattle.typed_tree.specs.declared.statement.Membership.{Membership}
use Rattle.typed_tree.specs.declared.statement.TypedArm.{TypedArm, TypedArm-F, out-TypedArm, roll-TypedArm, out-roll-TypedArm, map-TypedArm, fold_out-TypedArm, fold-TypedArm}
use Rattle.typed_tree.specs.declared.statement.TypedStmt.{TypedStmt, TypedStmt-F, out-TypedStmt, roll-TypedStmt, out-roll-TypedStmt, map-TypedStmt, fold_out-TypedStmt, ind-TypedStmt}
use Rattle.typed_tree.specs.declared.statement.TypedStmt.TheOpen as layer
use Rattle.typed_tree.specs.declared.types.TypeNo.{TypeNo}
use Rattle.typed_tree.specs.Types.{char}
use Rattle.layout_storage.specs.Shapes.{tree}
use Rattle.layout_storage.specs.Sizes.{size}
use Rattle.std.proofs.lemmas.Bool.{leb-true}
use Rattle.def_scheme.specs.Coded.{Coded, all_coded, relation, put}
use Rattle.def_scheme.specs.Exprs.{Numbered, Part, expr_part}
use Rattle.def_scheme.specs.Steps.{Arm, block, loop, block_loop, leaving, under, if_else, tests_code, arm_code, chain_code, all_labels, least_of, span_of, is_dense, in_block, jump_arms, table_code, case_code, passes, for_turn, for_code, change_code, member_code, copy_text_code, step_layer, arm_layer, step_code, body_code}
use Rattle.law_encoding.specs.Nesting.{◌⊔◌, deepest, case_levels, if_levels, loop_levels}
use Rattle.law_encoding.specs.CodeNesting.{levels}
use Rattle.law_encoding.specs.TypedNesting.{depth_typed, depth_place, depth_call, depth_step, depth_arm, depth_body}
use Rattle.law_encoding.specs.TypedNesting as nesting
use Rattle.law_encoding.proofs.Ways.{by_depth}
use Rattle.law_encoding.proofs.Weighed as typed
use Rattle.law_encoding.proofs.Levels.{levels_append, block_levels, if_levels as if_nests, else_levels, gets, sets, tees, amount, address, calls, computes, jumps, jumps_if, goes_back, none_most, Flat, flat_end, ◌▹◌, flat_both}
use Rattle.law_encoding.proofs.Levels.{loop_levels as loop_nests}
use Rattle.law_encoding.proofs.FlatCode.{flat_fault, flat_checked, flat_loaded, flat_stored, flat_in_type, flat_taken, flat_tests, flat_dispatch, flat_changed, flat_with_member, flat_copied}
use Rattle.law_encoding.proofs.DeepCode.{Nests, Wraps, AllNest, plain_nests, both_nest, nests_more, within_nests, setting_nests, number_nests, address_nests, text_nests, all_nest, then_plain, then_setting, plain_then, one_instr, expr_levels, place_levels, call_levels}

-- ---- blocks

raised_by_one : (m a n : ℕ) → m ≡ 1 + a → a ≤ n → m ≤ 1 + n
raised_by_one m a n e l = omega (arith, e, l)

pub block_wraps : (n : ℕ) → Wraps n (1 + n) block
block_wraps n code l = one_instr _ (1 + n) (raised_by_one _ (levels code) n (block_levels None code) l)

loop_wraps : (n : ℕ) → Wraps n (1 + n) loop
loop_wraps n code l = one_instr _ (1 + n) (raised_by_one _ (levels code) n (loop_nests None code) l)

block_loop_wraps : (n : ℕ) → Wraps n (2 + n) block_loop
block_loop_wraps n code l = two_levels (block_wraps (1 + n) (loop code) (loop_wraps n code l)) where
  two_levels : {a : ℕ} → a ≤ 1 + (1 + n) → a ≤ 2 + n
  two_levels h = omega (arith, h)

leaving_nests : (n k exit : ℕ) (wrap : List Instr → List Instr) {x : Coded} → Wraps n k wrap → Nests n x
    → Nests k (leaving exit wrap x)
leaving_nests n k exit wrap h p = record { at_most = λ s c. h _ (p.at_most (record s { exit = exit }) c) }

under_nests : (n w : ℕ) {x : Coded} → Nests n x → Nests n (under w x)
under_nests n w p = record { at_most = λ s c. p.at_most (record s { withs = s.withs ++ w ∷ [] }) c }

boxed_nests : (n : ℕ) {x : Coded} → Nests n x → Nests (1 + n) (in_block x)
boxed_nests n p = record { at_most = λ s c. block_wraps n _ (p.at_most s c) }

one_side : (m a n : ℕ) → m ≡ 1 + (a ⊔ 0) → a ≤ n → m ≤ 1 + n
one_side m a n e l = omega (arith, e, l)

only_wraps : (n : ℕ) → Wraps n (1 + n) (λ code. If None code None ∷ [])
only_wraps n code l = one_instr _ (1 + n) (one_side _ (levels code) n (if_nests None code) l)

two_sides : (m a b n k : ℕ) → m ≡ 1 + (a ⊔ b) → a ≤ n → b ≤ k → m ≤ 1 + (n ⊔ k)
two_sides m a b n k e h l = omega (arith, e, h, l)

else_nests : (n k : ℕ) {x y : Coded} → Nests n x → Nests k y → Nests (1 + (n ⊔ k)) (if_else x y)
else_nests n k {x = x} {y = y} p q = record {
  at_most = λ s c. let i = record s { exit = suc s.exit } in
      one_instr _ (1 + (n ⊔ k)) (two_sides _ (levels (x i c).0) (levels (y i (x i c).1).0) n k
      (else_levels None (x i c).0 (y i (x i c).1).0) (p.at_most i c) (q.at_most i (x i c).1));
}

-- ---- CASE

abbrev ArmsNest : List ℕ → List Arm → Type 0
ArmsNest [] [] = Unit {0}
ArmsNest (n ∷ ns) (x ∷ xs) = Nests n x.code × ArmsNest ns xs
ArmsNest [] (x ∷ xs) = ⊥
ArmsNest (n ∷ ns) [] = ⊥

flat_levels : {code : List Instr} → Flat code → levels code ≤ 0
flat_levels {code} p = none_most (levels code) 0 p.none

behind_jump : (m a b n : ℕ) → m ≡ a ⊔ b → a ≤ n → b ≡ 0 → m ≤ n
behind_jump m a b n e h z = omega (arith, e, h, z)

with_jump : (n l : ℕ) (code : List Instr) → levels code ≤ n → levels (code ++ Br l ∷ []) ≤ n
with_jump n l code h = behind_jump _ (levels code) (levels (Br l ∷ [])) n (levels_append code (Br l ∷ [])) h
    (jumps_alone l).none where
      jumps_alone : (l : ℕ) → Flat (Br l ∷ [])
      jumps_alone l = jumps l ▹ flat_end

beside_tests : (m a b n : ℕ) → m ≡ a ⊔ b → a ≤ 1 + 0 → b ≤ n → m ≤ 1 ⊔ n
beside_tests m a b n e h l = omega (arith, e, h, l)

arm_wraps : (n t : ℕ) (labels : List Label)
    → Wraps n (1 + (1 ⊔ n)) (λ code. block (block (tests_code t labels) ++ (code ++ Br 1 ∷ [])))
arm_wraps n t labels code l =
    block_wraps (1 ⊔ n) (block (tests_code t labels) ++ (code ++ Br 1 ∷ []))
    (beside_tests _ (levels (block (tests_code t labels))) (levels (code ++ Br 1 ∷ [])) n
    (levels_append (block (tests_code t labels)) (code ++ Br 1 ∷ []))
    (block_wraps 0 (tests_code t labels) (flat_levels (flat_tests t labels))) (with_jump n 1 code l))

arm_more : (n : ℕ) → 1 + (1 ⊔ n) ≤ 2 + n
arm_more n = omega arith

arms_sum : (n m : ℕ) → (2 + n) ⊔ (2 + m) ≤ 2 + (n ⊔ m)
arms_sum n m = omega arith

chained : (t : ℕ) (ns : List ℕ) (xs : List Arm) → ArmsNest ns xs
    → Nests (2 + deepest ns) (all_coded (map (arm_code t) xs))
chained t [] [] p = plain_nests 2 flat_end
chained t [] (x ∷ xs) p = absurd p
chained t (n ∷ ns) [] p = absurd p
chained t (n ∷ ns) (x ∷ xs) p =
    nests_more _ (2 + (n ⊔ deepest ns)) (arms_sum n (deepest ns))
    (both_nest (2 + n) (2 + deepest ns) (nests_more (1 + (1 ⊔ n)) (2 + n) (arm_more n)
    (within_nests n (1 + (1 ⊔ n)) 1 (λ code. block (block (tests_code t x.labels) ++ (code ++ Br 1 ∷ [])))
    (arm_wraps n t x.labels) p.0)) (chained t ns xs p.1))

chain_sum : (a o : ℕ) → 1 + ((2 + a) ⊔ o) ≤ case_levels + (a ⊔ o)
chain_sum a o = omega arith

chain_nests : (t o : ℕ) (ns : List ℕ) (xs : List Arm) {otherwise : Coded} → ArmsNest ns xs → Nests o otherwise
    → Nests (case_levels + (deepest ns ⊔ o)) (chain_code t xs otherwise)
chain_nests t o ns xs p q =
    nests_more _ _ (chain_sum (deepest ns) o)
    (within_nests ((2 + deepest ns) ⊔ o) (1 + ((2 + deepest ns) ⊔ o)) 1 block (block_wraps _)
    (both_nest (2 + deepest ns) o (chained t ns xs p) q))

-- each arm stands in the blocks of those behind it
last_arm : (k : ℕ) → k ≤ 0 + (k ⊔ 0)
last_arm k = omega arith

arm_sum : (l k n a : ℕ) → l + (((1 + k) ⊔ n) ⊔ a) ≤ suc l + (k ⊔ (n ⊔ a))
arm_sum l k n a = omega arith

jumps_nest : (k : ℕ) (ns : List ℕ) (xs : List Arm) {inner : Coded} → Nests k inner → ArmsNest ns xs
    → Nests (length xs + (k ⊔ deepest ns)) (jump_arms xs inner)
jumps_nest k [] [] q p = nests_more k (0 + (k ⊔ 0)) (last_arm k) q
jumps_nest k [] (x ∷ xs) q p = absurd p
jumps_nest k (n ∷ ns) [] q p = absurd p
jumps_nest k (n ∷ ns) (x ∷ xs) q p =
    nests_more (length xs + (((1 + k) ⊔ n) ⊔ deepest ns)) (suc (length xs) + (k ⊔ (n ⊔ deepest ns)))
    (arm_sum (length xs) k n (deepest ns))
    (jumps_nest ((1 + k) ⊔ n) ns xs (both_nest (1 + k) n (boxed_nests k q)
    (then_plain n (jumps (length xs + 1) ▹ flat_end)
    (within_nests n n (length xs + 2) (λ code. code) (λ code l. l) p.0))) p.1)

few_arms : (l a o : ℕ) → l ≤ 16 → 1 + ((1 + (l + (0 ⊔ a))) ⊔ o) ≤ case_levels + (a ⊔ o)
few_arms l a o h = omega (arith, h)

table_nests : (t o : ℕ) (ns : List ℕ) (xs : List Arm) {otherwise : Coded} → length xs ≤ 16 → ArmsNest ns xs
    → Nests o otherwise → Nests (case_levels + (deepest ns ⊔ o)) (table_code t xs otherwise)
table_nests t o ns xs h p q =
    nests_more _ _ (few_arms (length xs) (deepest ns) o h)
    (boxed_nests ((1 + (length xs + (0 ⊔ deepest ns))) ⊔ o)
    (both_nest (1 + (length xs + (0 ⊔ deepest ns))) o
    (boxed_nests (length xs + (0 ⊔ deepest ns))
    (jumps_nest 0 ns xs (plain_nests 0 (flat_dispatch t xs (least_of (all_labels xs)) (span_of (all_labels xs))))
    p))
    (within_nests o o 1 (λ code. code) (λ code l. l) q)))

-- a CASE has a table if its arms are few
few : (n : ℕ) (b : Bool) → (nat_le n 16 && b) ≡ true → n ≤ 16
few n b e = leb-true n 16 (and_first (nat_le n 16) b e) where
  and_first : (x y : Bool) → (x && y) ≡ true → x ≡ true
  and_first true y e = refl
  and_first false y e = e

by_density : (b : Bool) (l n : ℕ) {x y : Coded} → (b ≡ true → l ≤ 16) → (l ≤ 16 → Nests n x) → Nests n y
    → Nests n (if b then x else y)
by_density true l n h p q = p (h refl)
by_density false l n h p q = q

case_sum : (n a o : ℕ) → n ⊔ (case_levels + (a ⊔ o)) ≤ case_levels + (n ⊔ a ⊔ o)
case_sum n a o = omega arith

case_nests : (n o : ℕ) (ns : List ℕ) (xs : List Arm) {x otherwise : Coded} → Nests n x → ArmsNest ns xs
    → Nests o otherwise → Nests (case_levels + (n ⊔ deepest ns ⊔ o)) (case_code x xs otherwise)
case_nests n o ns xs r p q =
    nests_more (n ⊔ (case_levels + (deepest ns ⊔ o))) _ (case_sum n (deepest ns) o)
    (both_nest n (case_levels + (deepest ns ⊔ o)) r (number_nests (case_levels + (deepest ns ⊔ o))
    (λ t. plain_then (case_levels + (deepest ns ⊔ o)) (sets t ▹ flat_end)
    (by_density (is_dense (length xs) (all_labels xs)) (length xs) (case_levels + (deepest ns ⊔ o)) (few (length xs) _)
    (λ h. table_nests t o ns xs h p q) (chain_nests t o ns xs p q)))))

-- ---- FOR

turn_nests : (d b : ℕ) (t : TypeNo) (by : ℤ) (n : ℕ) {place body : Coded} → Nests d place → Nests b body
    → Nests (b ⊔ (d ⊔ (d ⊔ d))) (for_turn place t by n body)
turn_nests d b t by n p q =
    both_nest b (d ⊔ (d ⊔ d)) q (both_nest d (d ⊔ d) (then_setting d (λ s. flat_loaded s.home.types t) p)
    (plain_then (d ⊔ d) (amount _ ▹ computes _ ▹ gets n ▹ computes _ ▹ jumps_if 1 ▹ flat_end)
    (both_nest d d p (then_setting d (λ s. amount _ ▹ computes _ ▹ flat_both (flat_in_type s.home.types t 1)
    (flat_both (flat_stored s.home.types t) (jumps 0 ▹ flat_end)))
    (then_setting d (λ s. flat_loaded s.home.types t) p)))))

flat_passes : (n : ℕ) (by : ℤ) → Flat (LocalGet n ∷ relation (passes by) ∷ BrIf 0 ∷ [])
flat_passes n by = gets n ▹ computes _ ▹ jumps_if 0 ▹ flat_end

for_sum : (d s l b : ℕ) → d ⊔ (s ⊔ (l ⊔ (0 ⊔ (1 + (d ⊔ (1 + (b ⊔ (d ⊔ (d ⊔ d))))))))) ≤ loop_levels + (d ⊔ s ⊔ l ⊔ b)
for_sum d s l b = omega arith

for_nests : (d k l b : ℕ) (t : TypeNo) (start limit : Part) (by : ℤ) {place body : Coded} → Nests d place
    → Nests k start.code → Nests l limit.code → Nests b body
    → Nests (loop_levels + (d ⊔ k ⊔ l ⊔ b)) (for_code place t start limit by body)
for_nests d k l b t start limit by p q r u =
    nests_more _ _ (for_sum d k l b)
    (both_nest d _ p (both_nest k _ (then_setting k (λ s. flat_taken s.home.types t start.constant start.of) q)
    (both_nest l _ r (number_nests (0 ⊔ (1 + (d ⊔ (1 + (b ⊔ (d ⊔ (d ⊔ d)))))))
    (λ n. both_nest 0 _ (plain_then 0 (sets n ▹ flat_end)
    (setting_nests 0 (λ s. plain_nests 0 (flat_stored s.home.types t))))
    (within_nests (d ⊔ (1 + (b ⊔ (d ⊔ (d ⊔ d))))) (1 + (d ⊔ (1 + (b ⊔ (d ⊔ (d ⊔ d)))))) 1 block (block_wraps _)
    (both_nest d (1 + (b ⊔ (d ⊔ (d ⊔ d)))) (then_setting d (λ s. flat_loaded s.home.types t) p)
    (plain_then (1 + (b ⊔ (d ⊔ (d ⊔ d)))) (flat_passes n by)
    (within_nests (b ⊔ (d ⊔ (d ⊔ d))) (1 + (b ⊔ (d ⊔ (d ⊔ d)))) 1 loop (loop_wraps _)
    (turn_nests d b t by n p u))))))))))

-- ---- INC, DEC, INCL, EXCL and strings

change_sum : (d n : ℕ) → d ⊔ (n ⊔ 0) ≤ 1 ⊔ d ⊔ n
change_sum d n = omega arith

change_nests : (d n : ℕ) (o : Change) (t : TypeNo) {place x : Coded} → Nests d place → Nests n x
    → Nests (1 ⊔ d ⊔ n) (change_code o place t x)
change_nests d n o t p q =
    nests_more (d ⊔ (n ⊔ 0)) (1 ⊔ d ⊔ n) (change_sum d n)
    (both_nest d (n ⊔ 0) p (address_nests (n ⊔ 0)
    (λ w. plain_then (n ⊔ 0) (sets w ▹ flat_end) (both_nest n 0 q (number_nests 0
    (λ k. plain_then 0 (sets k ▹ flat_end)
    (setting_nests 0 (λ s. plain_nests 0 (flat_changed o w k s.home.types t)))))))))

member_nests : (d n : ℕ) (o : Membership) {place x : Coded} → Nests d place → Nests n x
    → Nests (1 ⊔ d ⊔ n) (member_code o place x)
member_nests d n o p q =
    nests_more (d ⊔ (n ⊔ 0)) (1 ⊔ d ⊔ n) (change_sum d n)
    (both_nest d (n ⊔ 0) p (address_nests (n ⊔ 0)
    (λ w. plain_then (n ⊔ 0) (sets w ▹ flat_end)
    (both_nest n 0 q (plain_then 0 (flat_checked (pos 0) (pos 31) 1) (number_nests 0
    (λ k. plain_then 0 (sets k ▹ flat_end)
    (setting_nests 0 (λ s. plain_nests 0 (flat_with_member o w k s.home.types))))))))))

text_sum : (d : ℕ) → d ⊔ 0 ≤ 1 ⊔ d
text_sum d = omega arith

copied_nests : (d : ℕ) (t : TypeNo) (text : List ℕ) {place : Coded} → Nests d place
    → Nests (1 ⊔ d) (copy_text_code place t text)
copied_nests d t text p =
    nests_more (d ⊔ 0) (1 ⊔ d) (text_sum d)
    (both_nest d 0 p (address_nests 0
    (λ w. plain_then 0 (tees w ▹ flat_end) (text_nests 0 (length text)
    (λ at. setting_nests 0 (λ s. plain_nests 0
    (flat_copied at (length text) (size (tree s.home.types t) - length text) w)))))))

-- ---- statements

module _ (numbered : Numbered) where
  abbrev pub of_arm : TypedArm → Arm
  of_arm = fold-TypedArm Coded Arm (step_layer numbered) (arm_layer numbered)

  abbrev pub opened_step : TypedStmt-F TypedStmt TypedArm → TypedStmt-F Coded Arm
  opened_step x = map-TypedStmt TypedStmt TypedArm Coded Arm (step_code numbered) of_arm x

  abbrev pub opened_arm : TypedArm-F TypedStmt TypedArm → TypedArm-F Coded Arm
  opened_arm x = map-TypedArm TypedStmt TypedArm Coded Arm (step_code numbered) of_arm x

  pub at_step : (e : TypedStmt) (x : TypedStmt-F TypedStmt TypedArm) → out-TypedStmt e ≡ x
      → step_code numbered e ≡ step_layer numbered (opened_step x)
  unfolding step_code
  at_step e x h = fold_out-TypedStmt Coded Arm (step_layer numbered) (arm_layer numbered) e
      ∙ ap (λ (y : TypedStmt-F TypedStmt TypedArm). step_layer numbered (opened_step y)) h

  pub at_arm : (e : TypedArm) (x : TypedArm-F TypedStmt TypedArm) → out-TypedArm e ≡ x
      → of_arm e ≡ arm_layer numbered (opened_arm x)
  unfolding step_code
  at_arm e x h = fold_out-TypedArm Coded Arm (step_layer numbered) (arm_layer numbered) e
      ∙ ap (λ (y : TypedArm-F TypedStmt TypedArm). arm_layer numbered (opened_arm y)) h

  abbrev PS : TypedStmt → Type 0
  PS x = Nests (depth_step x) (step_code numbered x)

  abbrev PA : TypedArm → Type 0
  PA x = Nests (depth_arm x) (of_arm x).code

  abbrev SS : Type 0
  SS = (x : TypedStmt) × PS x

  abbrev SA : Type 0
  SA = (x : TypedArm) × PA x

  abbrev bare_step : TypedStmt-F SS SA → TypedStmt-F TypedStmt TypedArm
  bare_step x = map-TypedStmt SS SA TypedStmt TypedArm (λ e. e.0) (λ e. e.0) x

  abbrev bare_arm : TypedArm-F SS SA → TypedArm-F TypedStmt TypedArm
  bare_arm x = map-TypedArm SS SA TypedStmt TypedArm (λ e. e.0) (λ e. e.0) x

  all_steps : (xs : List SS) → AllNest (map depth_step (map (λ (e : SS). e.0) xs))
      (map (step_code numbered) (map (λ (e : SS). e.0) xs))
  all_steps [] = tt
  all_steps (x ∷ xs) = (x.1, all_steps xs)

  all_arms : (xs : List SA) → ArmsNest (map depth_arm (map (λ (e : SA). e.0) xs))
      (map of_arm (map (λ (e : SA). e.0) xs))
  all_arms [] = tt
  all_arms (x ∷ xs) = (x.1, all_arms xs)

  abbrev count : List SS → ℕ
  count xs = deepest (map depth_step (map (λ (e : SS). e.0) xs))

  body_nests : (xs : List SS) → Nests (count xs) (all_coded (map (step_code numbered) (map (λ (e : SS). e.0) xs)))
  body_nests xs = all_nest _ _ (all_steps xs)

  one_more : (n : ℕ) → n ≤ 1 ⊔ n
  one_more n = omega arith

  two_sum : (n k : ℕ) → n ⊔ k ≤ 1 ⊔ n ⊔ k
  two_sum n k = omega arith

  if_sum : (n k o : ℕ) → n ⊔ (1 + (k ⊔ o)) ≤ if_levels + (n ⊔ k ⊔ o)
  if_sum n k o = omega arith

  alone_sum : (n k : ℕ) → n ⊔ (1 + k) ≤ if_levels + (n ⊔ k ⊔ 0)
  alone_sum n k = omega arith

  with_sum : (d b : ℕ) → d ⊔ b ≤ 1 ⊔ d ⊔ b
  with_sum d b = omega arith

  step_nests : (y : TypedStmt-F SS SA) → Nests (nesting.step_layer (typed.weights_step by_depth (bare_step y)))
      (step_layer numbered (opened_step (bare_step y)))
  step_nests (layer.Assign d t e) =
      nests_more (depth_place d ⊔ depth_typed e) _ (two_sum _ _)
      (both_nest (depth_place d) (depth_typed e) (place_levels numbered d)
      (then_setting (depth_typed e) (λ s. flat_stored s.home.types t)
      (then_setting (depth_typed e) (λ s. flat_taken s.home.types t _ _) (expr_levels numbered e))))
  step_nests (layer.Copy to from t) =
      nests_more (depth_place to ⊔ depth_place from) _ (two_sum _ _)
      (both_nest (depth_place to) (depth_place from) (place_levels numbered to)
      (then_setting (depth_place from) (λ s. address _ ▹ calls _ ▹ flat_end) (place_levels numbered from)))
  step_nests (layer.CopyText d t text) = copied_nests (depth_place d) t text (place_levels numbered d)
  step_nests (layer.Call c) = call_levels numbered c
  step_nests (layer.Put e) = nests_more (depth_typed e) _ (one_more _)
      (then_plain (depth_typed e) (calls put ▹ flat_end)
      (then_setting (depth_typed e) (λ s. flat_taken s.home.types char (expr_part numbered e).constant
      (expr_part numbered e).of) (expr_levels numbered e)))
  step_nests (layer.Change o d t e) = change_nests (depth_place d) (depth_typed e) o t (place_levels numbered d)
      (expr_levels numbered e)
  step_nests (layer.Membership o d e) = member_nests (depth_place d) (depth_typed e) o (place_levels numbered d)
      (expr_levels numbered e)
  step_nests layer.Halt = plain_nests 1 (flat_fault 9)
  step_nests (layer.If e body None) =
      nests_more (depth_typed e ⊔ (1 + count body)) _ (alone_sum _ _)
      (both_nest (depth_typed e) (1 + count body) (expr_levels numbered e)
      (plain_then (1 + count body) (computes _ ▹ flat_end)
      (within_nests (count body) (1 + count body) 1 (λ code. If None code None ∷ []) (only_wraps (count body))
      (body_nests body))))
  step_nests (layer.If e body (Some others)) =
      nests_more (depth_typed e ⊔ (1 + (count body ⊔ count others))) _ (if_sum _ _ _)
      (both_nest (depth_typed e) (1 + (count body ⊔ count others)) (expr_levels numbered e)
      (plain_then (1 + (count body ⊔ count others)) (computes _ ▹ flat_end)
      (else_nests (count body) (count others) (body_nests body) (body_nests others))))
  step_nests (layer.Case e arms None) = case_nests (depth_typed e) 0 _ _ (expr_levels numbered e) (all_arms arms)
      (plain_nests 0 (flat_fault 5))
  step_nests (layer.Case e arms (Some others)) =
      case_nests (depth_typed e) (count others) _ _ (expr_levels numbered e) (all_arms arms) (body_nests others)
  step_nests (layer.While e body) =
      within_nests (depth_typed e ⊔ count body) (2 + (depth_typed e ⊔ count body)) 2 block_loop
      (block_loop_wraps (depth_typed e ⊔ count body))
      (both_nest (depth_typed e) (count body) (expr_levels numbered e)
      (plain_then (count body) (computes _ ▹ jumps_if 1 ▹ flat_end)
      (then_plain (count body) (jumps 0 ▹ flat_end) (body_nests body))))
  step_nests (layer.Repeat body e) =
      within_nests (count body ⊔ depth_typed e) (1 + (count body ⊔ depth_typed e)) 1 loop
      (loop_wraps (count body ⊔ depth_typed e))
      (both_nest (count body) (depth_typed e) (body_nests body)
      (then_plain (depth_typed e) (computes _ ▹ jumps_if 0 ▹ flat_end) (expr_levels numbered e)))
  step_nests (layer.Loop body) = leaving_nests (count body) (2 + count body) 1 block_loop
      (block_loop_wraps (count body)) (then_plain (count body) (jumps 0 ▹ flat_end) (body_nests body))
  step_nests layer.Exit = setting_nests 1 (λ s. plain_nests 1 (jumps s.exit ▹ flat_end))
  step_nests layer.Return = plain_nests 1 (goes_back ▹ flat_end)
  step_nests (layer.Give t e) = nests_more (depth_typed e) _ (one_more _)
      (then_plain (depth_typed e) (goes_back ▹ flat_end)
      (then_setting (depth_typed e) (λ s. flat_taken s.home.types t _ _) (expr_levels numbered e)))
  step_nests (layer.For d t start limit by body) =
      for_nests (depth_place d) (depth_typed start) (depth_typed limit) (count body) t (expr_part numbered start)
      (expr_part numbered limit) by (place_levels numbered d) (expr_levels numbered start)
      (expr_levels numbered limit) (body_nests body)
  step_nests (layer.With d body) =
      nests_more (depth_place d ⊔ count body) _ (with_sum _ _)
      (both_nest (depth_place d) (count body) (place_levels numbered d)
      (address_nests (count body) (λ w. plain_then (count body) (sets w ▹ flat_end)
      (under_nests (count body) w (body_nests body)))))

  arm_nests : (y : TypedArm-F SS SA) → Nests (nesting.arm_layer (typed.weights_arm by_depth (bare_arm y)))
      (arm_layer numbered (opened_arm (bare_arm y))).code
  arm_nests y = body_nests y.body

  step_step : (x : TypedStmt-F TypedStmt TypedArm) (y : TypedStmt-F SS SA) → bare_step y ≡ x → PS (roll-TypedStmt x)
  step_step x y q =
      let e = out-roll-TypedStmt x ∙ sym q in
      subst (λ (n : ℕ). Nests n (step_code numbered (roll-TypedStmt x)))
      (sym (typed.at_step by_depth (roll-TypedStmt x) (bare_step y) e))
      (subst (Nests (nesting.step_layer (typed.weights_step by_depth (bare_step y))))
      (sym (at_step (roll-TypedStmt x) (bare_step y) e)) (step_nests y))

  step_arm : (x : TypedArm-F TypedStmt TypedArm) (y : TypedArm-F SS SA) → bare_arm y ≡ x → PA (roll-TypedArm x)
  step_arm x y q =
      let e = out-roll-TypedArm x ∙ sym q in
      subst (λ (n : ℕ). Nests n (of_arm (roll-TypedArm x)).code)
      (sym (typed.at_arm by_depth (roll-TypedArm x) (bare_arm y) e))
      (subst (λ (z : Arm). Nests (nesting.arm_layer (typed.weights_arm by_depth (bare_arm y))) z.code)
      (sym (at_arm (roll-TypedArm x) (bare_arm y) e)) (arm_nests y))

  pub step_levels : (x : TypedStmt) → PS x
  step_levels = ind-TypedStmt PS PA step_step step_arm

  pub body_levels : (xs : List TypedStmt) → Nests (depth_body xs) (body_code numbered xs)
  body_levels [] = plain_nests 0 flat_end
  body_levels (x ∷ xs) = both_nest (depth_step x) (depth_body xs) (step_levels x) (body_levels xs)
