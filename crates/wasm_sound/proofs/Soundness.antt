-- Each reduction of a configuration that is well typed leads to such a one, and what an instruction needs is there.
use Rattle.std.proofs.Common.{◌≡◌, ℕ, zero, suc, List, [], ◌∷◌, ◌++◌, map, refl, sym, ap, subst, ◌∙◌}
use Rattle.std.specs.Prelude.{All}
use Rattle.std.proofs.lemmas.List.{append-nil}
use Rattle.wasm_tree.specs.declared.kinds.ValueType.{ValueType}
use Rattle.wasm_tree.specs.declared.instr.Instr.{Instr, out-Instr}
use Rattle.wasm_tree.specs.declared.instr.Instr.TheOpen as layer
use Rattle.wasm_tree.specs.declared.module.WModule.{WModule}
use Rattle.wasm_tree.specs.declared.store.Store.{Store}
use Rattle.wasm_tree.specs.Validity.{Types, Leads, IsValid, result_types}
use Rattle.wasm_tree.specs.Machine.{Activation, Config, Going, Over, Trapped, split_last, next, reduce, run}
use Rattle.wasm_tree.specs.Linking.{type_of}
use Rattle.wasm_sound.specs.Sound.{Level, IsGoing, IsSound}
use Rattle.wasm_sound.specs.Ready.{IsReady, IsReadyToEnd}
use Rattle.wasm_sound.proofs.Rules.{Layered, layered, first_of}
use Rattle.wasm_sound.proofs.Scenes.{Outside, Scene, Works}
use Rattle.wasm_sound.proofs.Variables.{push, drop, local_get, local_set, local_tee, global_get, load, store, number}
use Rattle.wasm_sound.proofs.Blocks.{block, loop, conditional}
use Rattle.wasm_sound.proofs.Jumps.{jump, jump_if, jump_table, return}
use Rattle.wasm_sound.proofs.Calls.{call, call_indirect}
use Rattle.wasm_sound.proofs.Ends.{end}
use Rattle.wasm_tree.specs.declared.store.Value.TheVariants.{I32, I64}
use Rattle.wasm_tree.specs.declared.kinds.ValueType.TheVariants as types

-- ---- an instruction

at_types : (modules : List WModule) (a : Activation) (returns : List ValueType) (inner : Level)
    (p r q t : List ValueType) → p ≡ q → r ≡ t → Scene modules a returns inner p r → Scene modules a returns inner q t
at_types modules a returns inner p r q t e g s =
    subst (λ (x : List ValueType). Scene modules a returns inner q x) g
    (subst (λ (x : List ValueType). Scene modules a returns inner x r) e s)

retyped : (inner : Level) (i : Instr) (p r q t : List ValueType) → p ≡ q → r ≡ t → Types inner.context i p r
    → Types inner.context i q t
retyped inner i p r q t e g y = subst (λ (x : List ValueType). Types inner.context i q x) g
    (subst (λ (x : List ValueType). Types inner.context i x r) e y)

works : (modules : List WModule) (valid : All IsValid modules) (st : Store) (a : Activation) (callers : List Activation)
    (returns : List ValueType) (inner : Level) (o : Outside modules st callers returns) (i : Instr)
    (l : layer.Instr-F Instr) (p r : List ValueType)
    → Types inner.context i p r → Layered inner.context l p r → Scene modules a returns inner p r
    → Works modules st a callers i l
works modules valid st a callers returns inner o i layer.Unreachable p r y h s = (tt, tt)
works modules valid st a callers returns inner o i (layer.Block t body) p r y (e, g, h) s =
    block modules st a callers returns inner o i t body h (at_types modules a returns inner p r [] _ e g s)
works modules valid st a callers returns inner o i (layer.Loop t body) p r y (e, g, h) s =
    loop modules st a callers returns inner o i t body (retyped inner i p r [] (result_types t) e g y) h
    (at_types modules a returns inner p r [] _ e g s)
works modules valid st a callers returns inner o i (layer.If t body otherwise) p r y (e, g, h, k) s =
    conditional modules st a callers returns inner o i t body otherwise h k
    (at_types modules a returns inner p r _ _ e g s)
works modules valid st a callers returns inner o i (layer.Br l) p r y (taken, lower, e, g) s =
    jump modules st a callers returns inner o i l taken lower r e (at_types modules a returns inner p r _ r g refl s)
works modules valid st a callers returns inner o i (layer.BrIf l) p r y (taken, e, (g, k)) s =
    jump_if modules st a callers returns inner o i l taken e (at_types modules a returns inner p r _ _ g k s)
works modules valid st a callers returns inner o i (layer.BrTable ls default) p r y (taken, lower, e, all, g) s =
    jump_table modules st a callers returns inner o i ls default taken lower r e all
    (at_types modules a returns inner p r _ r g refl s)
works modules valid st a callers returns inner o i layer.Return p r y (lower, g) s =
    return modules st a callers returns inner o i lower r (at_types modules a returns inner p r _ r g refl s)
works modules valid st a callers returns inner o i (layer.Call f) p r y (x, t, e, g, (j, k)) s =
    call modules valid st a callers returns inner o i f x t e g (at_types modules a returns inner p r _ _ j k s)
works modules valid st a callers returns inner o i (layer.CallIndirect x) p r y (t, some, e, (j, k)) s =
    call_indirect modules valid st a callers returns inner o i x t some e
    (at_types modules a returns inner p r _ _ j k s)
works modules valid st a callers returns inner o i layer.Drop p r y (t, (j, k)) s =
    drop modules st a callers returns inner o i t (at_types modules a returns inner p r _ _ j k s)
works modules valid st a callers returns inner o i (layer.LocalGet x) p r y (t, e, (j, k)) s =
    local_get modules st a callers returns inner o i x t e (at_types modules a returns inner p r _ _ j k s)
works modules valid st a callers returns inner o i (layer.LocalSet x) p r y (t, e, (j, k)) s =
    local_set modules st a callers returns inner o i x t e (at_types modules a returns inner p r _ _ j k s)
works modules valid st a callers returns inner o i (layer.LocalTee x) p r y (t, e, (j, k)) s =
    local_tee modules st a callers returns inner o i x t e (at_types modules a returns inner p r _ _ j k s)
works modules valid st a callers returns inner o i (layer.GlobalGet g) p r y (t, e, (j, k)) s =
    global_get modules st a callers returns inner o i g t e (at_types modules a returns inner p r _ _ j k s)
works modules valid st a callers returns inner o i (layer.Load kind) p r y (some, (j, k)) s =
    load modules st a callers returns inner o i kind some (at_types modules a returns inner p r _ _ j k s)
works modules valid st a callers returns inner o i (layer.Store width) p r y (some, (j, k)) s =
    store modules st a callers returns inner o i width some (at_types modules a returns inner p r _ _ j k s)
works modules valid st a callers returns inner o i (layer.I32Const n) p r y (j, k) s = (
  tt,
  push modules st a callers returns inner o i (I32 n) types.I32 refl
      (at_types modules a returns inner p r _ _ j k s),
)
works modules valid st a callers returns inner o i (layer.I64Const n) p r y (j, k) s = (
  tt,
  push modules st a callers returns inner o i (I64 n) types.I64 refl
      (at_types modules a returns inner p r _ _ j k s),
)
works modules valid st a callers returns inner o i (layer.Numeric f) p r y (j, k) s =
    number modules st a callers returns inner o i f (at_types modules a returns inner p r _ _ j k s)

-- the code behind an instruction is nothing that it needs
ready : (modules : List WModule) (st : Store) (now : Activation) (rest : List Instr) (l : layer.Instr-F Instr)
    → IsReady modules st (record now { rest = rest }) l → IsReady modules st now l
ready modules st now rest layer.Unreachable r = r
ready modules st now rest l r = r

-- ---- a configuration that runs

module _ (modules : List WModule) (valid : All IsValid modules) (st : Store) (now : Activation)
    (callers : List Activation) (h : IsGoing modules st now callers) where
  outside : Outside modules st callers h.returns
  outside = record { store = h.store; first = h.first; waiting = h.waiting }

  -- an instruction is next
  begins : (i : Instr) (rest : List Instr) → now.rest ≡ i ∷ rest
      → Works modules st (record now { rest = rest }) callers i (out-Instr i)
  begins i rest e =
      let inner = h.running.inner in
      let f = first_of inner.context i rest h.running.above inner.gives
      (subst (λ (is : List Instr). Leads inner.context is h.running.above inner.gives) e h.running.leads) in
      let s : Scene modules (record now { rest = rest }) h.returns inner f.1 f.2 = record {
        context = h.running.context;
        frame = h.running.frame;
        labels = h.running.labels;
        lower = f.0;
        stack = sym (append-nil (map type_of now.stack)) ∙ h.running.stack
            ∙ ap (λ (x : List ValueType). inner.below ++ x) f.3;
        leads = f.5;
      } in
      works modules valid st (record now { rest = rest }) callers h.returns inner outside i (out-Instr i) f.1 f.2 f.4
      (layered inner.context i f.1 f.2 f.4) s

  -- what the next instruction needs is there
  pub is_ready : (i : Instr) (rest : List Instr) → now.rest ≡ i ∷ rest → IsReady modules st now (out-Instr i)
  is_ready i rest e = ready modules st now rest (out-Instr i) (begins i rest e).0

  -- also once the code before the others was taken off
  pub is_ready_to_begin : (i : Instr) (rest : List Instr) → now.rest ≡ i ∷ rest
      → IsReady modules st (record now { rest = rest }) (out-Instr i)
  is_ready_to_begin i rest e = (begins i rest e).0

  -- what the end of a block or of a function needs is there
  pub is_ready_to_end : now.rest ≡ [] → IsReadyToEnd now (split_last now.labels)
  is_ready_to_end e = (end modules st callers h.returns outside now h.running e).0

  next_is_sound : (code : List Instr) → now.rest ≡ code → IsSound modules (next modules st now callers code).0
  next_is_sound [] e = (end modules st callers h.returns outside now h.running e).1
  next_is_sound (i ∷ rest) e = (begins i rest e).1

-- preservation
pub reduce_is_sound : (modules : List WModule) (c : Config) → All IsValid modules → IsSound modules c
    → IsSound modules (reduce modules c).0
unfolding reduce
reduce_is_sound modules (Going st now callers) valid h = next_is_sound modules valid st now callers h now.rest refl
reduce_is_sound modules (Over k) valid h = tt
reduce_is_sound modules Trapped valid h = tt

pub run_is_sound : (modules : List WModule) (n : ℕ) (c : Config) → All IsValid modules → IsSound modules c
    → IsSound modules (run modules n c).0
unfolding run
run_is_sound modules zero c valid h = h
run_is_sound modules (suc n) c valid h =
    run_is_sound modules n (reduce modules c).0 valid (reduce_is_sound modules c valid h)
