-- The first instruction of code: what it needs is there, and what it does is a reduction.
use Rattle.std.proofs.Math.Logic.{∥∥₁_map}
use Rattle.std.proofs.Common.{◌-◌, ◌∷◌, [], take, drop, ◌≡◌, ◌<◌, ◌≤◌, length, List, ap, sym, ◌∙◌, arith}
use Rattle.std.proofs.lemmas.List.{nil_from_length, take_all}
use Rattle.std.specs.Prelude.{Ok, slice_index_or}
use Rattle.wasm_tree.specs.declared.module.WModule.{WModule}
use Rattle.wasm_tree.specs.declared.instr.Instr.{out-Instr}
use Rattle.wasm_tree.specs.declared.code.Op.{Op}
use Rattle.wasm_tree.specs.declared.code.Op.TheVariants as op
use Rattle.wasm_tree.specs.Code.{tree, head, behind}
use Rattle.wasm_tree.proofs.Flat.{tree_front, tree_none}
use Rattle.wasm_tree.specs.declared.store.Store.{Store}
use Rattle.wasm_tree.specs.Machine.{Activation, Going, split_last}
use Rattle.wasm_sound.specs.Ready.{IsReady, IsReadyToEnd}
use Rattle.wasm_tree.specs.Machine.{reduce, next, begin_instruction, end_block}
use Rattle.wasm_sound.proofs.Soundness.{is_ready_to_begin, is_ready_to_end}
use Rattle.std.specs.Prelude.{Result, IfOk, Err}
use Rattle.wasm_machine.specs.Well.{IsWell}
use Rattle.wasm_machine.specs.declared.frame.Machine.{Machine}
use Rattle.wasm_machine.specs.declared.frame.Reduced.{Reduced}
use Rattle.wasm_machine.specs.Going.{progress}

-- ---- what the next instruction needs is there

-- the first of a list, and the others
abbrev pub first : List Op → Op
first ops = slice_index_or ops 0 op.Unreachable

abbrev pub others : List Op → List Op
others ops = take (length ops - 1) (drop 1 ops)

front_is : (ops : List Op) → 1 ≤ length ops → ops ≡ first ops ∷ others ops
front_is [] h = absurd (omega arith)
front_is (o ∷ ops) h = ap (λ (l : List Op). o ∷ l) (sym (take_all (length (o ∷ ops) - 1) ops (omega arith)))

-- the first instruction of code, and those behind it
pub front_trees : (ops : List Op) → 1 ≤ length ops
    → tree ops ≡ head tree (first ops) (others ops) ∷ tree (behind (first ops) (others ops))
front_trees ops h = ap tree (front_is ops h) ∙ tree_front (first ops) (others ops)

no_trees : (ops : List Op) → length ops < 1 → tree ops ≡ []
no_trees ops h = ap tree (nil_from_length ops none) ∙ tree_none
  where
    none : length ops ≡ 0
    none = omega arith

module _ (modules : List WModule) (st : Store) (now : Activation) (callers : List Activation) (ops : List Op)
    (is : now.rest ≡ tree ops) where
  pub front_ready : ∥ IsWell modules (Going st now callers) ∥₁ → 1 ≤ length ops
      → ∥ IsReady modules st (record now { rest = tree (behind (first ops) (others ops)) })
      (out-Instr (head tree (first ops) (others ops))) ∥₁
  front_ready w h = ∥∥₁_map w (λ a. is_ready_to_begin modules a.valid st now callers a.sound
      (head tree (first ops) (others ops)) (tree (behind (first ops) (others ops))) (is ∙ front_trees ops h))

  pub end_ready : ∥ IsWell modules (Going st now callers) ∥₁ → length ops < 1
      → ∥ IsReadyToEnd now (split_last now.labels) ∥₁
  end_ready w h = ∥∥₁_map w (λ a. is_ready_to_end modules a.valid st now callers a.sound (is ∙ no_trees ops h))

  -- a reduction, by what the code is
  begins : 1 ≤ length ops → begin_instruction modules st (record now { rest = tree (behind (first ops) (others ops)) })
      callers (head tree (first ops) (others ops)) ≡ reduce modules (Going st now callers)
  unfolding reduce
  begins h = sym (ap (next modules st now callers) (is ∙ front_trees ops h))

  ends : length ops < 1 → end_block st now callers (split_last now.labels) ≡ reduce modules (Going st now callers)
  unfolding reduce
  ends h = sym (ap (next modules st now callers) (is ∙ no_trees ops h))

  pub reduced_front : {E : Type 0} (r : Result Reduced E) (m : Machine) → 1 ≤ length ops
      → IfOk r (λ p. progress p m ≡ begin_instruction modules st
      (record now { rest = tree (behind (first ops) (others ops)) }) callers (head tree (first ops) (others ops)))
      → IfOk r (λ p. progress p m ≡ reduce modules (Going st now callers))
  reduced_front (Ok p) m e h = h ∙ begins e
  reduced_front (Err p) m e h = tt

  pub reduced_end : {E : Type 0} (r : Result Reduced E) (m : Machine) → length ops < 1
      → IfOk r (λ p. progress p m ≡ end_block st now callers (split_last now.labels))
      → IfOk r (λ p. progress p m ≡ reduce modules (Going st now callers))
  reduced_end (Ok p) m e h = h ∙ ends e
  reduced_end (Err p) m e h = tt
