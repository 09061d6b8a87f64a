-- What names stand for stays: no reduction changes which functions there are, nor what the modules' indices stand for.
use Rattle.std.proofs.Common.{◌≡◌, ℕ, zero, suc, Bool, true, false, List, [], ◌∷◌, ◌++◌, Option, Some, None, refl, ap₂, ◌∙◌}
use Rattle.std.specs.Prelude.{if◌then◌else◌, nat_le, nat_lt, ◌&&◌, ◌==◌, ◌+◌, ◌%◌, slice_get, slice_set, slice_index_or, length, take, ◌-◌}
use Rattle.std.specs.Option.{option_and_then}
use Rattle.wasm_tree.specs.declared.instr.Instr.{Instr, out-Instr}
use Rattle.wasm_tree.specs.declared.instr.Instr.TheOpen as layer
use Rattle.wasm_tree.specs.declared.module.WModule.{WModule}
use Rattle.wasm_tree.specs.declared.store.Value.{Value}
use Rattle.wasm_tree.specs.declared.store.Value.TheVariants.{I64}
use Rattle.wasm_tree.specs.Numbers.{load_size, load_number, store_bytes}
use Rattle.wasm_tree.specs.declared.store.Callee.{Callee}
use Rattle.wasm_tree.specs.declared.store.Callee.TheVariants.{Put, Stop, Own}
use Rattle.wasm_tree.specs.declared.store.Instance.{Instance}
use Rattle.wasm_tree.specs.declared.store.Store.{Store}
use Rattle.wasm_tree.specs.Machine.{Label, Activation, Config, Going, Over, Trapped, Progress, trap_now, or_trap, split_last, split_end, callee_at, agree, callee_type, call_function, call_typed, stop_with, own_function, enter_function, return_to, branch_to, keep_operands, branch_by, branched_if, with_local, loads, stores, paste_items, top_i32, top_i64, topmost, callee_in, type_at, global_at, memory_of, with_memory_bytes, calculation, results_of, side, push_value, bytes_at, inside, begun_layer, end_block, next, reduce, run}

-- the store has the same functions and instances
pub record SameNames (st new : Store) : Type 0 where
  pub instances : new.instances ≡ st.instances
  pub functions : new.functions ≡ st.functions

abbrev pub Keeps : Store → Config → Type 0
Keeps st (Going new now callers) = SameNames st new
Keeps st (Over k) = Unit {0}
Keeps st Trapped = Unit {0}

module _ (st : Store) where
  same : SameNames st st
  same = record { instances = refl; functions = refl }

  or_kept : {A : Type 0} (o : Option A) (go : A → Progress) → ((x : A) → Keeps st (go x).0) → Keeps st (or_trap o go).0
  or_kept None go h = tt
  or_kept (Some x) go h = h x

  if_kept : (b : Bool) (p : Progress) → Keeps st p.0 → Keeps st (if b then p else trap_now).0
  if_kept true p h = h
  if_kept false p h = tt

  one_kept : (b : Bool) (p q : Progress) → Keeps st p.0 → Keeps st q.0 → Keeps st (if b then p else q).0
  one_kept true p q h k = h
  one_kept false p q h k = k

  stopped_kept : (b : Bool) (k : ℕ) → Keeps st (if b then Over k else Trapped)
  stopped_kept true k = tt
  stopped_kept false k = tt

  back : (results : List Value) (o : Option (List Activation × Activation))
      → Keeps st (elim o as (λ _. Progress) [
        | None ↦ (Over 0, [])
        | Some p ↦
            (Going st (record p.1 { stack = p.1.stack ++ results }) p.0, [])
      ]).0
  back results None = tt
  back results (Some p) = same

  found_kept : (now : Activation) (callers : List Activation) (o : Option (List Label × Label))
      → Keeps st (branch_to st now callers o).0
  found_kept now callers None = or_kept (split_end now.arity now.stack) (λ p. return_to st callers p.1)
      (λ p. back p.1 (split_last callers))
  found_kept now callers (Some l) = or_kept (split_end l.1.arity now.stack)
      (λ p. (Going st (record now { labels = l.0; rest = l.1.again; stack = keep_operands l.1.height p }) callers, []))
      (λ p. same)

  branched_kept : (now : Activation) (callers : List Activation) (l : ℕ) → Keeps st (branch_by st now callers l).0
  branched_kept now callers l = if_kept (nat_le l (length now.labels))
      (branch_to st now callers (split_last (take (length now.labels - l) now.labels)))
      (found_kept now callers (split_last (take (length now.labels - l) now.labels)))

  called_kept : (modules : List WModule) (now : Activation) (callers : List Activation) (c : Callee)
      → Keeps st (call_function modules st now callers c).0
  called_kept modules now callers Put = or_kept (top_i64 now.stack)
      (λ p. (Going st (record now { stack = p.0 }) callers, p.1 % 256 ∷ [])) (λ p. same)
  called_kept modules now callers Stop = or_kept (top_i64 now.stack) (λ p. (stop_with p.1, []))
      (λ p. stopped_kept (nat_le 1 p.1 && nat_le p.1 255) p.1)
  called_kept modules now callers (Own m f) =
      or_kept (own_function modules m f) (λ t. or_trap (split_end (length t.type.params) now.stack)
      (λ p. (Going st (enter_function m t p.1) (callers ++ record now { stack = p.0 } ∷ []), [])))
      (λ t. or_kept (split_end (length t.type.params) now.stack)
      (λ p. (Going st (enter_function m t p.1) (callers ++ record now { stack = p.0 } ∷ []), [])) (λ p. same))

  local_kept : (now : Activation) (callers : List Activation) (x : ℕ) (v : Value)
      → Keeps st (with_local st now callers x v).0
  local_kept now callers x v = if_kept (nat_lt x (length now.locals))
      (Going st (record now { locals = slice_set now.locals x v }) callers, []) same

  module _ (modules : List WModule) (now : Activation) (callers : List Activation) (i : Instr) where
    begun_kept : (l : layer.Instr-F Instr) → Keeps st (begun_layer modules st now callers i l).0
    begun_kept layer.Unreachable = tt
    begun_kept (layer.Block t body) = same
    begun_kept (layer.Loop t body) = same
    begun_kept (layer.If t body otherwise) =
        or_kept (top_i32 now.stack) (λ p. inside st (record now { stack = p.0 }) callers (results_of t) now.rest
        (side p.1 body otherwise)) (λ p. same)
    begun_kept (layer.Br l) = branched_kept now callers l
    begun_kept (layer.BrIf l) =
        or_kept (top_i32 now.stack) (λ p. branched_if st (record now { stack = p.0 }) callers l p.1)
        (λ p. one_kept (p.1 == 0) (Going st (record now { stack = p.0 }) callers, [])
        (branch_by st (record now { stack = p.0 }) callers l) same
        (branched_kept (record now { stack = p.0 }) callers l))
    begun_kept (layer.BrTable ls default) =
        or_kept (top_i32 now.stack) (λ p. branch_by st (record now { stack = p.0 }) callers
        (slice_index_or ls p.1 default)) (λ p. branched_kept (record now { stack = p.0 }) callers
        (slice_index_or ls p.1 default))
    begun_kept layer.Return = found_kept now callers None
    begun_kept (layer.Call f) = or_kept (callee_at st now.instance f) (call_function modules st now callers)
        (λ c. called_kept modules now callers c)
    begun_kept (layer.CallIndirect t) =
        or_kept (top_i32 now.stack) (λ p. or_trap (callee_in st now.instance p.1)
        (call_typed modules st (record now { stack = p.0 }) callers (type_at modules now.instance t)))
        (λ p. or_kept (callee_in st now.instance p.1)
        (call_typed modules st (record now { stack = p.0 }) callers (type_at modules now.instance t))
        (λ c. if_kept (agree (type_at modules now.instance t) (callee_type modules c))
        (call_function modules st (record now { stack = p.0 }) callers c)
        (called_kept modules (record now { stack = p.0 }) callers c)))
    begun_kept layer.Drop = or_kept (split_last now.stack) (λ p. (Going st (record now { stack = p.0 }) callers, []))
        (λ p. same)
    begun_kept (layer.LocalGet x) = or_kept (slice_get now.locals x) (push_value st now callers) (λ p. same)
    begun_kept (layer.LocalSet x) = or_kept (split_last now.stack)
        (λ p. with_local st (record now { stack = p.0 }) callers x p.1)
        (λ p. local_kept (record now { stack = p.0 }) callers x p.1)
    begun_kept (layer.LocalTee x) = or_kept (topmost now.stack) (with_local st now callers x)
        (λ v. local_kept now callers x v)
    begun_kept (layer.GlobalGet g) = or_kept (global_at st now.instance g) (push_value st now callers) (λ p. same)
    begun_kept (layer.Load kind) =
        or_kept (top_i32 now.stack) (λ p. or_trap (memory_of st now.instance)
        (loads st (record now { stack = p.0 }) callers kind p.1))
        (λ p. or_kept (memory_of st now.instance) (loads st (record now { stack = p.0 }) callers kind p.1)
        (λ m. or_kept (bytes_at (load_size kind) p.1 m.1.bytes)
        (λ bytes. push_value st (record now { stack = p.0 }) callers (I64 (load_number kind bytes))) (λ b. same)))
    begun_kept (layer.Store width) =
        or_kept (top_i64 now.stack) (λ v. or_trap (top_i32 v.0)
        (λ p. or_trap (memory_of st now.instance)
        (stores st (record now { stack = p.0 }) callers p.1 (store_bytes width v.1))))
        (λ v. or_kept (top_i32 v.0) (λ p. or_trap (memory_of st now.instance)
        (stores st (record now { stack = p.0 }) callers p.1 (store_bytes width v.1)))
        (λ p. or_kept (memory_of st now.instance)
        (stores st (record now { stack = p.0 }) callers p.1 (store_bytes width v.1))
        (λ m. if_kept (nat_le (p.1 + length (store_bytes width v.1)) (length m.1.bytes)) (
          Going (with_memory_bytes st m.0 m.1 (paste_items m.1.bytes p.1 (store_bytes width v.1)))
              (record now { stack = p.0 }) callers,
          [],
        ) (record { instances = refl; functions = refl }))))
    begun_kept (layer.I32Const n) = same
    begun_kept (layer.I64Const n) = same
    begun_kept (layer.Numeric o) = or_kept (calculation o now.stack)
        (λ p. push_value st (record now { stack = p.0 }) callers p.1) (λ p. same)

  ended_kept : (now : Activation) (callers : List Activation) (o : Option (List Label × Label))
      → Keeps st (end_block st now callers o).0
  ended_kept now callers None = found_kept now callers None
  ended_kept now callers (Some l) = same

  next_kept : (modules : List WModule) (now : Activation) (callers : List Activation) (code : List Instr)
      → Keeps st (next modules st now callers code).0
  next_kept modules now callers [] = ended_kept now callers (split_last now.labels)
  next_kept modules now callers (i ∷ rest) = begun_kept modules (record now { rest = rest }) callers i (out-Instr i)

abbrev pub IsAtEnd : Config → Type 0
IsAtEnd (Going st now callers) = ⊥
IsAtEnd (Over k) = Unit {0}
IsAtEnd Trapped = Unit {0}

-- and what is over stays over
abbrev pub KeepsAs : Config → Config → Type 0
KeepsAs (Going st now callers) d = Keeps st d
KeepsAs (Over k) d = IsAtEnd d
KeepsAs Trapped d = IsAtEnd d

reduce_keeps : (modules : List WModule) (c : Config) → KeepsAs c (reduce modules c).0
unfolding reduce
reduce_keeps modules (Going st now callers) = next_kept st modules now callers now.rest
reduce_keeps modules (Over k) = tt
reduce_keeps modules Trapped = tt

keeps_itself : (c : Config) → KeepsAs c c
keeps_itself (Going st now callers) = record { instances = refl; functions = refl }
keeps_itself (Over k) = tt
keeps_itself Trapped = tt

at_end : (st : Store) (d : Config) → IsAtEnd d → Keeps st d
at_end st (Going new now callers) h = absurd h
at_end st (Over k) h = tt
at_end st Trapped h = tt

stays_at_end : (d e : Config) → IsAtEnd d → KeepsAs d e → IsAtEnd e
stays_at_end (Going new now callers) e h k = absurd h
stays_at_end (Over j) e h k = k
stays_at_end Trapped e h k = k

keeps_on : (st : Store) (d e : Config) → Keeps st d → KeepsAs d e → Keeps st e
keeps_on st (Going new now callers) (Going last running others) h k =
    record { instances = k.instances ∙ h.instances; functions = k.functions ∙ h.functions }
keeps_on st (Going new now callers) (Over j) h k = tt
keeps_on st (Going new now callers) Trapped h k = tt
keeps_on st (Over j) e h k = at_end st e k
keeps_on st Trapped e h k = at_end st e k

keeps_both : (c d e : Config) → KeepsAs c d → KeepsAs d e → KeepsAs c e
keeps_both (Going st now callers) d e h k = keeps_on st d e h k
keeps_both (Over j) d e h k = stays_at_end d e h k
keeps_both Trapped d e h k = stays_at_end d e h k

pub run_keeps : (modules : List WModule) (n : ℕ) (c : Config) → KeepsAs c (run modules n c).0
unfolding run
run_keeps modules zero c = keeps_itself c
run_keeps modules (suc n) c = keeps_both c (reduce modules c).0 (run modules n (reduce modules c).0).0
    (reduce_keeps modules c) (run_keeps modules n (reduce modules c).0)

-- so a function of an index is the one that it was
pub callee_kept : (st new : Store) (m g : ℕ) → SameNames st new → callee_at new m g ≡ callee_at st m g
callee_kept st new m g h =
    ap₂ (λ (is : List Instance) (fs : List Callee). option_and_then
    (λ (i : Instance). option_and_then (λ (a : ℕ). slice_get fs a) (slice_get i.functions g)) (slice_get is m))
    h.instances h.functions
