-- CASE: tests one after another, and a table of labels.
use Rattle.std.proofs.Common.{◌≡◌, ℕ, suc, ◌+◌, ◌≤◌, ℤ, pos, Bool, true, false, List, [], ◌∷◌, ◌++◌, map, length, Some, None, refl, subst, arith}
use Rattle.std.specs.Prelude.{All, slice_get, if◌then◌else◌, ◌+ℤ◌}
use Rattle.std.specs.List.{AllByRecursion as ByRecursion, range_with_len}
use Rattle.std.proofs.lemmas.List.Elements.{All-from_recursion}
use Rattle.wasm_tree.specs.declared.kinds.ValueType.TheVariants.{I64}
use Rattle.wasm_tree.specs.declared.instr.Instr.TheVariants.{Br}
use Rattle.wasm_tree.specs.declared.instr.Numeric.TheVariants as numeric
use Rattle.wasm_tree.specs.declared.instr.Operation.TheVariants.{Sub}
use Rattle.wasm_tree.specs.declared.instr.Relation.TheVariants.{LeU, GtU}
use Rattle.wasm_tree.specs.Validity.{Leads}
use Rattle.typed_tree.specs.declared.statement.Label.{Label}
use Rattle.def_scheme.specs.Coded.{Coded, plain, ◌⨾◌, all_coded, within}
use Rattle.def_scheme.specs.Addresses.{total}
use Rattle.def_scheme.specs.Steps.{Arm, block as block_of, tests_code, arm_code, chain_code, all_labels, least_of, span_of, is_dense, has_label, target, targets, dispatch, in_block, jump_arms, table_code, case_code}
use Rattle.law_modules.proofs.Leading.{Stack, then_leads, get, set, long, calc, br, br_if, br_table, block, done}
use Rattle.law_modules.proofs.Fits.{Body, Holds, Suits, Fits, labelled, IsNumber, blocks, block_label, moved, fits_plain, fits_nothing, fits_then, fits_given, fits_number, fits_as, fits_moved, fits_within, fits_boxed, fits_inside}
use Rattle.law_modules.proofs.Parts.{N}

-- ---- targets

if_most : (q : Bool) (a n : ℕ) → a ≤ n → (if q then 0 else suc a) ≤ suc n
if_most true a n le = omega arith
if_most false a n le = omega (arith, le)

target_most : (arms : List Arm) (v : ℤ) → target arms v ≤ length arms
target_most [] v = omega arith
target_most (x ∷ xs) v = if_most (has_label v x) (target xs v) (length xs) (target_most xs v)

mapped : (P : ℕ → Type 0) (f : ℕ → ℕ) → ((k : ℕ) → P (f k)) → (ks : List ℕ) → ByRecursion P (map f ks)
mapped P f h [] = tt
mapped P f h (k ∷ ks) = (h k, mapped P f h ks)

module _ (b : Body) (h : Holds b) (w : ℕ) (l : Bool) where
  abbrev T : ℕ → Type 0
  T t = Unit {0} × IsNumber b t

  -- ---- arms, and how many addresses each keeps

  abbrev pub FineArms : List Arm → List ℕ → Type 0
  FineArms [] [] = Unit {0}
  FineArms [] (k ∷ ks) = ⊥
  FineArms (x ∷ xs) [] = ⊥
  FineArms (x ∷ xs) (k ∷ ks) = Fits b (Unit {0}) w l (λ e. e) 0 x.code k [] [] × FineArms xs ks

  -- ---- one test after the other

  labels_lead : (ls : List Stack) (t : ℕ) → IsNumber b t → (xs : List Label)
      → Leads (labelled b ([] ∷ [] ∷ ls)) (tests_code t xs) [] []
  labels_lead ls t p [] = br 1 [] [] refl (done [])
  labels_lead ls t p (x ∷ xs) = get t I64 [] p
      (long _ N (calc (numeric.I64Operation Sub) []
      (long _ N (calc (numeric.I64Relation LeU) [] (br_if 0 [] refl (labels_lead ls t p xs))))))

  arm_fine : (t : ℕ) (x : Arm) (k : ℕ) → Fits b (Unit {0}) w l (λ e. e) 0 x.code k [] []
      → Fits b (T t) w l (λ e. e + 1) 1 (arm_code t x) k [] []
  arm_fine t x k p = fits_within
      (λ g ls code q. block None [] (block_of (tests_code t x.labels) ++ (code ++ Br 1 ∷ []))
      (block None [] (tests_code t x.labels) (labels_lead ([] ∷ ls) t g.1 x.labels)
      (then_leads q (br 1 [] [] refl (done [])))) (done []))
      (fits_moved (λ e ws ls s. moved_on e ws ls s) (fits_given (λ g. tt) p))
    where
      moved_on : (e : ℕ) (ws : List ℕ) (ls : List Stack) → Suits b w l e ws ls
          → Suits b w l (e + 1 + 1) ws ([] ∷ [] ∷ ls)
      moved_on e ws ls s = moved 1 (e + 1) ws ([] ∷ ls) (moved 1 e ws ls s)

  arms_fine : (t : ℕ) (xs : List Arm) (ks : List ℕ) → FineArms xs ks
      → Fits b (T t) w l (λ e. e + 1) 1 (all_coded (map (arm_code t) xs)) (total ks) [] []
  arms_fine t [] [] p = fits_nothing []
  arms_fine t [] (k ∷ ks) p = absurd p
  arms_fine t (x ∷ xs) [] p = absurd p
  arms_fine t (x ∷ xs) (k ∷ ks) p = fits_then (arm_fine t x k p.0) (arms_fine t xs ks p.1)

  chain_fine : (t : ℕ) (xs : List Arm) (ks : List ℕ) (other : Coded) (j : ℕ) → FineArms xs ks
      → Fits b (Unit {0}) w l (λ e. e) 0 other j [] []
      → Fits b (T t) w l (λ e. e) 0 (chain_code t xs other) (total ks + j) [] []
  chain_fine t xs ks other j p q = fits_within (λ g ls code k. block None [] code k (done []))
      (fits_then (arms_fine t xs ks p) (fits_moved (moved 1) (fits_given (λ g. tt) q)))

  -- ---- by a table

  dispatch_leads : (t : ℕ) → IsNumber b t → (xs : List Arm) (low : ℤ) (span : ℕ) (ls : List Stack)
      → Leads (labelled b (blocks (length xs + 2) ++ ls)) (dispatch t xs low span) [] []
  dispatch_leads t p xs low span ls =
      let all : All (λ k. slice_get (blocks (length xs + 2) ++ ls) k ≡ Some []) (targets xs low span) =
      All-from_recursion (λ k. slice_get (blocks (length xs + 2) ++ ls) k ≡ Some []) (targets xs low span)
      (mapped (λ k. slice_get (blocks (length xs + 2) ++ ls) k ≡ Some []) (λ k. target xs (low +ℤ pos k))
      (λ k. block_label (length xs + 2) (target xs (low +ℤ pos k)) ls
      (let i = target_most xs (low +ℤ pos k) in omega (arith, i))) (range_with_len 0 span))
      in
      let most : slice_get (blocks (length xs + 2) ++ ls) (length xs) ≡ Some [] =
      block_label (length xs + 2) (length xs) ls (omega arith) in
      get t I64 [] p (long _ N (calc (numeric.I64Operation Sub) []
      (long _ N (calc (numeric.I64Relation GtU) [] (br_if (length xs) [] most
      (get t I64 [] p (long _ N (calc (numeric.I64Operation Sub) []
      (calc numeric.I32WrapI64 [] (br_table (targets xs low span) (length xs) [] most all (done [])))))))))))

  jump_fine : (t : ℕ) (xs : List Arm) (ks : List ℕ) (inner : Coded) (j : ℕ) → FineArms xs ks
      → Fits b (T t) w l (λ e. e) (length xs + 2) inner j [] []
      → Fits b (T t) w l (λ e. e) 2 (jump_arms xs inner) (j + total ks) [] []
  jump_fine t [] [] inner j p q = fits_as refl (omega arith) q
  jump_fine t [] (k ∷ ks) inner j p q = absurd p
  jump_fine t (x ∷ xs) [] inner j p q = absurd p
  jump_fine t (x ∷ xs) (k ∷ ks) inner j p q =
      let n : ℕ = length xs + 2 in
      let deeper : Fits b (T t) w l (λ e. e) (suc n) inner j [] [] =
      subst (λ (i : ℕ). Fits b (T t) w l (λ e. e) i inner j [] [])
      (let i : suc (length xs) + 2 ≡ suc n = omega arith in i) q in
      let out : Fits b (T t) w l (λ e. e) n (plain (Br (length xs + 1) ∷ [])) 0 [] [] =
      fits_plain (λ g ls. br (length xs + 1) [] [] (block_label n (length xs + 1) ls (omega arith)) (done [])) in
      let arm : Fits b (T t) w l (λ e. e) n (within n (λ code. code) x.code) k [] [] =
      fits_inside n (fits_given (λ g. tt) p.0) in
      fits_as refl (omega arith) (jump_fine t xs ks
      (in_block inner ⨾ within n (λ code. code) x.code ⨾ plain (Br (length xs + 1) ∷ [])) (j + (k + 0)) p.1
      (fits_then (fits_boxed deeper) (fits_then arm out)))

  table_fine : (t : ℕ) (xs : List Arm) (ks : List ℕ) (other : Coded) (j : ℕ) → FineArms xs ks
      → Fits b (Unit {0}) w l (λ e. e) 0 other j [] []
      → Fits b (T t) w l (λ e. e) 0 (table_code t xs other) (total ks + j) [] []
  table_fine t xs ks other j p q =
      let low : ℤ = least_of (all_labels xs) in let span : ℕ = span_of (all_labels xs) in
      let first : Fits b (T t) w l (λ e. e) (length xs + 2) (plain (dispatch t xs low span)) 0 [] [] =
      fits_plain (λ g ls. dispatch_leads t g.1 xs low span ls) in
      fits_as refl (omega arith) (fits_boxed
      (fits_then (fits_boxed (jump_fine t xs ks (plain (dispatch t xs low span)) 0 p first))
      (fits_inside 1 (fits_given (λ g. tt) q))))

  -- ---- both

  either : (q : Bool) (t : ℕ) (xs : List Arm) (ks : List ℕ) (other : Coded) (j : ℕ) → FineArms xs ks
      → Fits b (Unit {0}) w l (λ e. e) 0 other j [] []
      → Fits b (T t) w l (λ e. e) 0 (if q then table_code t xs other else chain_code t xs other) (total ks + j) [] []
  either true t xs ks other j p q = table_fine t xs ks other j p q
  either false t xs ks other j p q = chain_fine t xs ks other j p q

  pub case_fine : (x : Coded) (xs : List Arm) (ks : List ℕ) (other : Coded) (j : ℕ)
      → Fits b (Unit {0}) w l (λ e. e) 0 x 0 [] N → FineArms xs ks → Fits b (Unit {0}) w l (λ e. e) 0 other j [] []
      → Fits b (Unit {0}) w l (λ e. e) 0 (case_code x xs other) (total ks + j) [] []
  case_fine x xs ks other j f p q = fits_as refl (omega arith) (fits_then f (fits_number h (λ t.
      fits_then (fits_plain (λ g ls. set t I64 [] g.1 (done [])))
      (either (is_dense (length xs) (all_labels xs)) t xs ks other j p q))))
