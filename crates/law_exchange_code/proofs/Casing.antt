-- The code of CASE has no numbers of modules, if that of its arms has none.
use Rattle.std.proofs.Common.{map, ◌≡◌, ℕ, suc, ◌+◌, ◌-◌, Bool, true, false, List, [], ◌∷◌, ◌++◌, length, refl, ap, ◌∙◌}
use Rattle.std.proofs.Math.Path.{fun_ext}
use Rattle.std.specs.Prelude.{ℤ, if◌then◌else◌, ◌+ℤ◌, pos}
use Rattle.std.specs.List.{range_with_len}
use Rattle.wasm_tree.specs.declared.instr.Instr.{Instr}
use Rattle.wasm_tree.specs.declared.instr.Instr.TheVariants.{Br, BrIf, BrTable, I64Const, LocalSet}
use Rattle.wasm_tree.specs.declared.instr.Relation.TheVariants.{GtU}
use Rattle.typed_tree.specs.declared.statement.Label.{Label}
use Rattle.def_scheme.specs.Coded.{Coded, plain, ◌⨾◌, all_coded, within, with_number, relation, wrap_word}
use Rattle.def_scheme.specs.Steps.{Arm, block, arm_code, chain_code, all_labels, least_of, span_of, is_dense, has_label, target, from_least, dispatch, in_block, jump_arms, table_code, case_code}
use Rattle.def_exchange.specs.Moved.{Exchange}
use Rattle.law_exchange_code.proofs.Lists.{two_paths, length_map, flat_kept}
use Rattle.law_exchange_code.proofs.ExprSeen.{seen}

module _ (x : Exchange) where
  abbrev pub seen_arm : Arm → Arm
  seen_arm a = record { labels = a.labels; code = seen x a.code }

  labels_kept : (arms : List Arm) → all_labels (map seen_arm arms) ≡ all_labels arms
  labels_kept arms = flat_kept seen_arm (λ a. a.labels) (λ a. a.labels) (λ a. refl) arms

  target_kept : (arms : List Arm) (v : ℤ) → target (map seen_arm arms) v ≡ target arms v
  target_kept [] v = refl
  target_kept (a ∷ arms) v = ap (λ (n : ℕ). if has_label v a then 0 else suc n) (target_kept arms v)

  targets_from : (arms : List Arm) (low : ℤ) (ks : List ℕ)
      → map (λ k. target (map seen_arm arms) (low +ℤ pos k)) ks ≡ map (λ k. target arms (low +ℤ pos k)) ks
  targets_from arms low [] = refl
  targets_from arms low (k ∷ ks) = two_paths (λ (n : ℕ) (ns : List ℕ). n ∷ ns) (target_kept arms (low +ℤ pos k))
      (targets_from arms low ks)

  abbrev dispatched : (t : ℕ) → ℤ → ℕ → List ℕ → ℕ → List Instr
  dispatched t low span ts n =
      from_least t low ++ (I64Const (span - 1) ∷ relation GtU ∷ BrIf n ∷ (from_least t low
      ++ (wrap_word ∷ BrTable ts n ∷ [])))

  dispatch_kept : (t : ℕ) (arms : List Arm) (low : ℤ) (span : ℕ)
      → dispatch t (map seen_arm arms) low span ≡ dispatch t arms low span
  dispatch_kept t arms low span =
      two_paths (dispatched t low span) (targets_from arms low (range_with_len 0 span)) (length_map seen_arm arms)

  jump_from : (n m : ℕ) (f g : Coded) → n ≡ m → within (n + 2) (λ code. code) (seen x f) ⨾ plain (Br (n + 1) ∷ [])
      ≡ seen x (within (m + 2) (λ code. code) f ⨾ plain (Br (m + 1) ∷ []))
  jump_from n m f g p = ap (λ (k : ℕ). within (k + 2) (λ code. code) (seen x f) ⨾ plain (Br (k + 1) ∷ [])) p

  jumps_seen : (arms : List Arm) (inner : Coded)
      → jump_arms (map seen_arm arms) (seen x inner) ≡ seen x (jump_arms arms inner)
  jumps_seen [] inner = refl
  jumps_seen (a ∷ arms) inner =
      ap (λ (z : Coded). jump_arms (map seen_arm arms) (in_block (seen x inner) ⨾ z))
      (jump_from (length (map seen_arm arms)) (length arms) a.code a.code (length_map seen_arm arms))
      ∙ jumps_seen arms (in_block inner ⨾ within (length arms + 2) (λ code. code) a.code ⨾ plain
      (Br (length arms + 1) ∷ []))

  table_seen : (t : ℕ) (arms : List Arm) (o : Coded)
      → table_code t (map seen_arm arms) (seen x o) ≡ seen x (table_code t arms o)
  table_seen t arms o =
      ap (λ (ls : List Label). in_block (in_block (jump_arms (map seen_arm arms)
      (plain (dispatch t (map seen_arm arms) (least_of ls) (span_of ls)))) ⨾ within 1 (λ code. code) (seen x o)))
      (labels_kept arms)
      ∙ ap (λ (code : List Instr). in_block (in_block (jump_arms (map seen_arm arms) (plain code)) ⨾ within 1
      (λ code. code) (seen x o)))
      (dispatch_kept t arms (least_of (all_labels arms)) (span_of (all_labels arms)))
      ∙ ap (λ (z : Coded). in_block (in_block z ⨾ within 1 (λ code. code) (seen x o)))
      (jumps_seen arms (plain (dispatch t arms (least_of (all_labels arms)) (span_of (all_labels arms)))))

  arms_seen : (t : ℕ) (arms : List Arm) → all_coded (map (arm_code t) (map seen_arm arms))
      ≡ seen x (all_coded (map (arm_code t) arms))
  arms_seen t [] = refl
  arms_seen t (a ∷ arms) = ap (λ (z : Coded). arm_code t (seen_arm a) ⨾ z) (arms_seen t arms)

  chain_seen : (t : ℕ) (arms : List Arm) (o : Coded)
      → chain_code t (map seen_arm arms) (seen x o) ≡ seen x (chain_code t arms o)
  chain_seen t arms o = ap (λ (z : Coded). within 1 block (z ⨾ seen x o)) (arms_seen t arms)

  either_seen : (b : Bool) (f g : Coded) → (if b then seen x f else seen x g) ≡ seen x (if b then f else g)
  either_seen true f g = refl
  either_seen false f g = refl

  abbrev chosen : (t : ℕ) → List Arm → Coded → Coded
  chosen t arms o = if is_dense (length arms) (all_labels arms) then table_code t arms o else chain_code t arms o

  chosen_seen : (t : ℕ) (arms : List Arm) (o : Coded)
      → chosen t (map seen_arm arms) (seen x o) ≡ seen x (chosen t arms o)
  chosen_seen t arms o =
      ap (λ (b : Bool). if b then table_code t (map seen_arm arms) (seen x o) else chain_code t (map seen_arm arms)
      (seen x o))
      (two_paths is_dense (length_map seen_arm arms) (labels_kept arms))
      ∙ two_paths (λ (f g : Coded). if is_dense (length arms) (all_labels arms) then f else g) (table_seen t arms o)
      (chain_seen t arms o)
      ∙ either_seen (is_dense (length arms) (all_labels arms)) (table_code t arms o) (chain_code t arms o)

  pub case_seen : (f : Coded) (arms : List Arm) (o : Coded)
      → case_code (seen x f) (map seen_arm arms) (seen x o) ≡ seen x (case_code f arms o)
  case_seen f arms o =
      ap (λ (z : ℕ → Coded). seen x f ⨾ with_number (λ t. plain (LocalSet t ∷ []) ⨾ z t))
      (fun_ext (λ t. chosen_seen t arms o))
