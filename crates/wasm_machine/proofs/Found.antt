-- What is found where it is there.
use Rattle.std.proofs.Common.{◌≡◌, ℕ, ◌-◌, ◌<◌, ◌≤◌, List, [], ◌∷◌, ◌++◌, take, length, zero, suc, Option, Some, None, refl, sym, ap, ◌∙◌, arith}
use Rattle.std.specs.Prelude.{slice_get, slice_index_or}
use Rattle.wasm_tree.specs.declared.store.Value.{Value}
use Rattle.std.proofs.lemmas.Bool.{lt-ltb, le-leb}
use Rattle.std.specs.Prelude.{slice_set, Result, Ok, Err, IfOk}
use Rattle.wasm_tree.specs.declared.module.WModule.{WModule}
use Rattle.wasm_tree.specs.declared.store.Store.{Store}
use Rattle.wasm_tree.specs.declared.instr.Instr.TheVariants.{BrTable, Drop, LocalGet, LocalSet, LocalTee, GlobalGet, outs-GlobalGet, outs-BrTable, outs-Drop, outs-LocalGet, outs-LocalSet, outs-LocalTee}
use Rattle.wasm_tree.specs.Machine.{Activation, Going, split_last, top_i32, topmost, begin_instruction, begun_layer, or_trap, global_at, with_local, push_value, branch_by, branch_to}
use Rattle.wasm_machine.specs.declared.frame.Machine.{Machine}
use Rattle.wasm_machine.specs.declared.frame.Reduced.{Reduced}
use Rattle.wasm_machine.specs.Going.{progress}
use Rattle.wasm_operands.specs.Bits.{value_at, last_of}

pub at_place : (vs : List Value) (k : ℕ) → k < length vs → slice_get vs k ≡ Some (value_at vs k)
at_place [] k h = absurd (omega arith)
at_place (v ∷ vs) zero h = refl
at_place (v ∷ vs) (suc k) h = at_place vs k (omega arith)

pub top_there : (vs : List Value) → 0 < length vs → topmost vs ≡ Some (last_of vs)
top_there vs h = at_place vs (length vs - 1) (omega arith)

last_more : (v w : Value) (vs : List Value)
    → split_last (w ∷ vs) ≡ Some (take (length vs) (w ∷ vs), value_at (w ∷ vs) (length vs))
    → split_last (v ∷ w ∷ vs) ≡ Some (take (suc (length vs)) (v ∷ w ∷ vs), value_at (v ∷ w ∷ vs) (suc (length vs)))
last_more v w vs e = rw e refl

last_at : (v : Value) (vs : List Value) → split_last (v ∷ vs)
    ≡ Some (take (length vs) (v ∷ vs), value_at (v ∷ vs) (length vs))
last_at v [] = refl
last_at v (w ∷ vs) = last_more v w vs (last_at w vs)

pub last_there : (vs : List Value) → 0 < length vs → split_last vs ≡ Some (take (length vs - 1) vs, last_of vs)
last_there [] h = absurd (omega arith)
last_there (v ∷ vs) h = last_at v vs ∙ ap (λ (k : ℕ). Some (take k (v ∷ vs), value_at (v ∷ vs) k)) same
  where
    same : length vs ≡ length (v ∷ vs) - 1
    same = omega arith

-- ---- what instructions do where what they need is there

module _ (modules : List WModule) (st : Store) (now : Activation) (callers : List Activation) where
  pub begun_drop : 0 < length now.stack → begin_instruction modules st now callers Drop
      ≡ (Going st (record now { stack = take (length now.stack - 1) now.stack }) callers, [])
  begun_drop h = ap (begun_layer modules st now callers Drop) outs-Drop
      ∙ ap (λ (o : Option (List Value × Value)). or_trap o (λ p. (Going st (record now { stack = p.0 }) callers, [])))
      (last_there now.stack h)

  pub begun_get : (x : ℕ) → x < length now.locals
      → begin_instruction modules st now callers (LocalGet x)
      ≡ (Going st (record now { stack = now.stack ++ value_at now.locals x ∷ [] }) callers, [])
  begun_get x h = ap (begun_layer modules st now callers (LocalGet x)) (outs-LocalGet x)
      ∙ ap (λ (o : Option Value). or_trap o (push_value st now callers)) (at_place now.locals x h)

  -- of a global that stands at this place among all
  pub begun_global : (g place : ℕ) → global_at st now.instance g ≡ slice_get st.globals place
      → place < length st.globals → begin_instruction modules st now callers (GlobalGet g)
      ≡ (Going st (record now { stack = now.stack ++ value_at st.globals place ∷ [] }) callers, [])
  begun_global g place e h = ap (begun_layer modules st now callers (GlobalGet g)) (outs-GlobalGet g)
      ∙ ap (λ (o : Option Value). or_trap o (push_value st now callers)) (e ∙ at_place st.globals place h)

  pub begun_set : (x : ℕ) → x < length now.locals → 0 < length now.stack
      → begin_instruction modules st now callers (LocalSet x)
      ≡ (
        Going st (record now {
          locals = slice_set now.locals x (last_of now.stack);
          stack =
              take (length now.stack - 1) now.stack;
        }) callers,
        [],
      )
  begun_set x less some =
      ap (begun_layer modules st now callers (LocalSet x)) (outs-LocalSet x)
      ∙ (ap (λ (o : Option (List Value × Value)). or_trap o
      (λ p. with_local st (record now { stack = p.0 }) callers x p.1)) (last_there now.stack some)
      ∙ rw (lt-ltb x (length now.locals) less) refl)

  pub begun_tee : (x : ℕ) → x < length now.locals → 0 < length now.stack
      → begin_instruction modules st now callers (LocalTee x)
      ≡ (Going st (record now { locals = slice_set now.locals x (last_of now.stack) }) callers, [])
  begun_tee x less some =
      ap (begun_layer modules st now callers (LocalTee x)) (outs-LocalTee x)
      ∙ (ap (λ (o : Option Value). or_trap o (with_local st now callers x)) (top_there now.stack some)
      ∙ rw (lt-ltb x (length now.locals) less) refl)

-- a branch out of the function
branched_out : (st : Store) (now : Activation) (callers : List Activation) (l : ℕ) → l ≤ length now.labels
    → None ≡ split_last (take (length now.labels - l) now.labels)
    → branch_to st now callers None ≡ branch_by st now callers l
branched_out st now callers l h e = ap (branch_to st now callers) e ∙ sym (rw (le-leb l (length now.labels) h) refl)

pub leaves : {E : Type 0} (r : Result Reduced E) (m : Machine) (st : Store) (now : Activation)
    (callers : List Activation) (l : ℕ) → l ≤ length now.labels
    → None ≡ split_last (take (length now.labels - l) now.labels)
    → IfOk r (λ x. progress x m ≡ branch_to st now callers None)
    → IfOk r (λ x. progress x m ≡ branch_by st now callers l)
leaves (Ok x) m st now callers l h e is = is ∙ branched_out st now callers l h e
leaves (Err x) m st now callers l h e is = tt

-- a branch to the label that an operand numbers
pub tabled : {E : Type 0} (r : Result Reduced E) (m : Machine) (st : Store) (now : Activation)
    (callers : List Activation) (ls : List ℕ) (default n l : ℕ) (rest : List Value) → top_i32 now.stack ≡ Some (rest, n)
    → l ≡ slice_index_or ls n default
    → IfOk r (λ x. progress x m ≡ branch_by st (record now { stack = rest }) callers l)
    → IfOk r (λ x. (modules : List WModule)
    → progress x m ≡ begin_instruction modules st now callers (BrTable ls default))
tabled (Ok x) m st now callers ls default n l rest top is h = λ modules.
    h
    ∙ (ap (branch_by st (record now { stack = rest }) callers) is
    ∙ sym (ap (begun_layer modules st now callers (BrTable ls default)) (outs-BrTable ls default)
    ∙ ap (λ (o : Option (List Value × ℕ)). or_trap o
    (λ p. branch_by st (record now { stack = p.0 }) callers (slice_index_or ls p.1 default))) top))
tabled (Err x) m st now callers ls default n l rest top is h = tt
