-- Each reduction keeps what fits.
use Rattle.std.proofs.Common.{◌≡◌, ℕ, zero, suc, ◌+◌, ◌-◌, ◌%◌, Bool, true, false, ◌&&◌, List, [], ◌∷◌, ◌++◌, length, take, drop, Option, Some, None, refl, sym, subst, arith}
use Rattle.std.specs.Prelude.{slice_get, slice_set, slice_index_or, All, nat_le, nat_lt, ◌==◌, if◌then◌else◌}
use Rattle.std.specs.Option.{option_and_then, option_map}
use Rattle.std.specs.List.{flat_map}
use Rattle.std.proofs.lemmas.List.Elements.{All-nil, All-append, All-take, All-drop, All-set, All-push, All-replicate}
use Rattle.std.proofs.lemmas.Option.{same_Some}
use Rattle.wasm_tree.specs.declared.kinds.ValueType.{ValueType}
use Rattle.wasm_tree.specs.declared.kinds.ValueType.TheVariants as types
use Rattle.wasm_tree.specs.declared.kinds.FuncType.{FuncType}
use Rattle.wasm_tree.specs.declared.instr.Instr.{Instr, out-Instr}
use Rattle.wasm_tree.specs.declared.instr.Instr.TheOpen as layer
use Rattle.wasm_tree.specs.declared.instr.Load.{Load}
use Rattle.wasm_tree.specs.declared.module.Locals.{Locals}
use Rattle.wasm_tree.specs.declared.module.Function.{Function}
use Rattle.wasm_tree.specs.declared.module.WModule.{WModule}
use Rattle.wasm_tree.specs.declared.store.Value.{Value}
use Rattle.wasm_tree.specs.declared.store.Value.TheVariants.{I32, I64}
use Rattle.wasm_tree.specs.declared.store.Callee.{Callee}
use Rattle.wasm_tree.specs.declared.store.Callee.TheVariants.{Put, Stop, Own}
use Rattle.wasm_tree.specs.declared.store.Memory.{Memory}
use Rattle.wasm_tree.specs.declared.store.Instance.{Instance}
use Rattle.wasm_tree.specs.declared.store.Store.{Store}
use Rattle.wasm_tree.specs.Numbers.{load_size, load_number, store_bytes}
use Rattle.wasm_tree.specs.Validity.{side_of}
use Rattle.wasm_tree.specs.Machine.{Label, Activation, Config, Going, Over, Trapped, Progress, Typed, trap_now, or_trap, split_last, split_end, topmost, top_i32, top_i64, calculation, callee_at, callee_in, instance_of, global_at, memory_of, own_function, type_at, callee_type, agree, zero_of, zeros, enter_function, stop_with, call_function, call_typed, push_value, return_to, inside, keep_operands, branch_to, branch_by, branched_if, with_local, paste_items, with_memory_bytes, loads, stores, results_of, side, begun_layer, end_block, next, reduce, run}
use Rattle.wasm_sound.specs.Ranges.{ValueFits, IsByte, ConstantFits, InstrFits, Plain, Block, Loop, If, CodeFits, More, ModuleFits, StoreFits, LabelFits, ActivationFits, GoingFits, ConfigFits}
use Rattle.wasm_sound.proofs.Lists.{at}
use Rattle.wasm_sound.proofs.Calls.{then_some}
use Rattle.wasm_sound.proofs.Segments.{map_some}
use Rattle.wasm_sound.proofs.Numbers.{loaded_fits, stored_fits}
use Rattle.wasm_sound.proofs.Ranged.{or_trap_fits, if_fits, last_fits, end_fits, top_i32_fits, top_i64_fits, calculated_fits}

-- ---- code

-- the constants and the code of an instruction, by cases on it
abbrev pub Laid : layer.Instr-F Instr → Type 0
Laid (layer.Block t body) = CodeFits body
Laid (layer.Loop t body) = CodeFits body
Laid (layer.If t body otherwise) = CodeFits body × CodeFits (side_of otherwise)
Laid l = ConstantFits l

plain_laid : (l : layer.Instr-F Instr) → ConstantFits l → Laid l
plain_laid (layer.Block t body) h = absurd h
plain_laid (layer.Loop t body) h = absurd h
plain_laid (layer.If t body otherwise) h = absurd h
plain_laid l h = h

pub laid : (i : Instr) → InstrFits i → Laid (out-Instr i)
laid i (Plain _ h) = plain_laid (out-Instr i) h
laid i (Block _ t body e h) = subst Laid (sym e) h
laid i (Loop _ t body e h) = subst Laid (sym e) h
laid i (If _ t body otherwise e h g) = subst Laid (sym e) (h, g)

pub first_fits : (i : Instr) (is : List Instr) → CodeFits (i ∷ is) → InstrFits i × CodeFits is
first_fits i is (More _ _ h g) = (h, g)

side_fits : (b : Bool) (n : ℕ) (body : List Instr) (otherwise : Option (List Instr)) → (n == 0) ≡ b → CodeFits body
    → CodeFits (side_of otherwise) → CodeFits (side n body otherwise)
side_fits true n body None e h g = rw e g
side_fits false n body None e h g = rw e h
side_fits true n body (Some other) e h g = rw e g
side_fits false n body (Some other) e h g = rw e h

-- ---- functions

zero_fits : (t : ValueType) → ValueFits (zero_of t)
zero_fits types.I32 = omega arith
zero_fits types.I64 = omega arith

zeros_fit : (groups : List Locals) → All ValueFits (flat_map zeros groups)
zeros_fit [] = All-nil ValueFits
zeros_fit (g ∷ groups) = All-append ValueFits (zeros g) (flat_map zeros groups)
    (All-replicate ValueFits g.count (zero_of g.value_type) (zero_fits g.value_type)) (zeros_fit groups)

own_code : (modules : List WModule) (m f : ℕ) (t : Typed) → All ModuleFits modules → own_function modules m f ≡ Some t
    → CodeFits t.function.body.code
own_code modules m f t h e =
    let tree = then_some (λ (tree : WModule). option_and_then
    (λ (function : Function). option_and_then (λ (u : FuncType). Some (record { type = u; function = function }))
    (slice_get tree.types function.type_index)) (slice_get tree.functions f)) (slice_get modules m) t e in
    let function = then_some (λ (function : Function). option_and_then
    (λ (u : FuncType). Some (record { type = u; function = function }))
    (slice_get tree.0.types function.type_index)) (slice_get tree.0.functions f) t tree.2 in
    let type = then_some (λ (u : FuncType). Some (record { type = u; function = function.0 }))
    (slice_get tree.0.types function.0.type_index) t function.2 in
    let is = at (λ (g : Function). CodeFits g.body.code) tree.0.functions f function.0
    (at ModuleFits modules m tree.0 h tree.1).functions function.1 in
    subst (λ (u : Typed). CodeFits u.function.body.code)
    (same_Some (record { type = type.0; function = function.0 }) t type.2) is

pub entered_fits : (modules : List WModule) (m f : ℕ) (t : Typed) (args : List Value) → All ModuleFits modules
    → own_function modules m f ≡ Some t → All ValueFits args → ActivationFits (enter_function m t args)
entered_fits modules m f t args h e a = record {
  locals = All-append ValueFits args (flat_map zeros t.function.body.locals) a (zeros_fit t.function.body.locals);
  stack = All-nil ValueFits;
  labels = All-nil LabelFits;
  rest = own_code modules m f t h e;
}

module _ (modules : List WModule) (all : All ModuleFits modules) (st : Store) (callers : List Activation)
    (store : StoreFits st) (waiting : All ActivationFits callers) where
  restacked : (a : Activation) (vs : List Value) → ActivationFits a → All ValueFits vs
      → GoingFits st (record a { stack = vs }) callers
  restacked a vs h g = record {
    store = store;
    running =
        record { locals = h.locals; stack = g; labels = h.labels; rest = h.rest };
    waiting = waiting;
  }

  push_fits : (a : Activation) (v : Value) → ActivationFits a → ValueFits v → ConfigFits (push_value st a callers v).0
  push_fits a v h g = restacked a (a.stack ++ v ∷ []) h (All-push ValueFits a.stack v h.stack g)

  -- ---- blocks, branches and returns

  inside_fits : (a : Activation) (arity : ℕ) (again body : List Instr) → ActivationFits a → CodeFits again
      → CodeFits body → ConfigFits (inside st a callers arity again body).0
  inside_fits a arity again body h g k =
      let new : Label = record { arity = arity; height = length a.stack; again = again; rest = a.rest } in
      record {
        store = store;
        running = record {
          locals = h.locals;
          stack = h.stack;
          labels =
              All-push LabelFits a.labels new h.labels (record { again = g; rest = h.rest });
          rest = k;
        };
        waiting = waiting;
      }

  returned_fits : (vs : List Value) → All ValueFits vs → ConfigFits (return_to st callers vs).0
  returned_fits vs h = go (split_last callers) refl
    where
      go : (p : Option (List Activation × Activation)) → split_last callers ≡ p
          → ConfigFits (elim p as (λ _. Progress)
          [ None ↦ (Over 0, []) | Some p ↦ (Going st (record p.1 { stack = p.1.stack ++ vs }) p.0, []) ]).0
      go None f = tt
      go (Some p) f =
          let both = last_fits ActivationFits callers p f waiting in
          record {
            store = store;
            running = record {
              locals = both.1.locals;
              stack =
                  All-append ValueFits p.1.stack vs both.1.stack h;
              labels = both.1.labels;
              rest = both.1.rest;
            };
            waiting =
                both.0;
          }

  found_fits : (a : Activation) (ls : List Label) (m : Option (List Label × Label)) → ActivationFits a
      → All LabelFits ls → split_last ls ≡ m → ConfigFits (branch_to st a callers m).0
  found_fits a ls None h g e = or_trap_fits (split_end a.arity a.stack) (λ p. return_to st callers p.1)
      (λ p q. returned_fits p.1 (end_fits ValueFits a.arity a.stack p q h.stack).1)
  found_fits a ls (Some l) h g e =
      or_trap_fits (split_end l.1.arity a.stack)
      (λ p. (
        Going st (record a { labels = l.0; rest = l.1.again; stack = keep_operands l.1.height p }) callers,
        [],
      ))
      (λ p q.
      let both = end_fits ValueFits l.1.arity a.stack p q h.stack in
      let labels = last_fits LabelFits ls l e g in
      record {
        store = store;
        running = record {
          locals = h.locals;
          stack =
              All-append ValueFits (take l.1.height p.0) p.1 (All-take ValueFits l.1.height p.0 both.0) both.1;
          labels =
              labels.0;
          rest = labels.1.again;
        };
        waiting = waiting;
      })

  branched_fits : (a : Activation) (l : ℕ) → ActivationFits a → ConfigFits (branch_by st a callers l).0
  branched_fits a l h =
      let ls = take (length a.labels - l) a.labels in
      if_fits (nat_le l (length a.labels)) (branch_to st a callers (split_last ls)) trap_now
      (found_fits a ls (split_last ls) h (All-take LabelFits (length a.labels - l) a.labels h.labels) refl) tt

  ended_fits : (a : Activation) (m : Option (List Label × Label)) → ActivationFits a → split_last a.labels ≡ m
      → ConfigFits (end_block st a callers m).0
  ended_fits a None h e = found_fits a a.labels None h h.labels e
  ended_fits a (Some l) h e =
      let labels = last_fits LabelFits a.labels l e h.labels in
      record {
        store = store;
        running = record {
          locals = h.locals;
          stack = h.stack;
          labels = labels.0;
          rest =
              labels.1.rest;
        };
        waiting = waiting;
      }

  -- ---- calls

  stop_fits : (b : Bool) (k : ℕ) → ConfigFits (if b then Over k else Trapped)
  stop_fits true k = tt
  stop_fits false k = tt

  called_fits : (a : Activation) (c : Callee) → ActivationFits a → ConfigFits (call_function modules st a callers c).0
  called_fits a Put h = or_trap_fits (top_i64 a.stack)
      (λ p. (Going st (record a { stack = p.0 }) callers, p.1 % 256 ∷ []))
      (λ p e. restacked a p.0 h (top_i64_fits a.stack p e h.stack).0)
  called_fits a Stop h = or_trap_fits (top_i64 a.stack) (λ p. (stop_with p.1, []))
      (λ p e. stop_fits (nat_le 1 p.1 && nat_le p.1 255) p.1)
  called_fits a (Own m f) h =
      or_trap_fits (own_function modules m f)
      (λ t. or_trap (split_end (length t.type.params) a.stack)
      (λ q. (Going st (enter_function m t q.1) (callers ++ record a { stack = q.0 } ∷ []), [])))
      (λ t e. or_trap_fits (split_end (length t.type.params) a.stack)
      (λ q. (Going st (enter_function m t q.1) (callers ++ record a { stack = q.0 } ∷ []), []))
      (λ q g.
      let both = end_fits ValueFits (length t.type.params) a.stack q g h.stack in
      record {
        store = store;
        running = entered_fits modules m f t q.1 all e both.1;
        waiting = All-push ActivationFits callers (record a { stack = q.0 }) waiting
            (record { locals = h.locals; stack = both.0; labels = h.labels; rest = h.rest });
      }))

  called_as_fits : (a : Activation) (asked : Option FuncType) (c : Callee) → ActivationFits a
      → ConfigFits (call_typed modules st a callers asked c).0
  called_as_fits a asked c h = if_fits (agree asked (callee_type modules c)) (call_function modules st a callers c)
      trap_now (called_fits a c h) tt

  -- ---- variables and memory

  with_local_fits : (a : Activation) (x : ℕ) (v : Value) → ActivationFits a → ValueFits v
      → ConfigFits (with_local st a callers x v).0
  with_local_fits a x v h g =
      if_fits (nat_lt x (length a.locals)) (Going st (record a { locals = slice_set a.locals x v }) callers, [])
      trap_now
      (record {
        store = store;
        running = record {
          locals = All-set ValueFits a.locals x v g h.locals;
          stack =
              h.stack;
          labels = h.labels;
          rest = h.rest;
        };
        waiting = waiting;
      }) tt

  global_fits : (m g : ℕ) (v : Value) → global_at st m g ≡ Some v → ValueFits v
  global_fits m g v e =
      let i = then_some (λ (j : Instance). option_and_then (λ (a : ℕ). slice_get st.globals a) (slice_get j.globals g))
      (instance_of st m) v e in
      let a = then_some (λ (a : ℕ). slice_get st.globals a) (slice_get i.0.globals g) v i.2 in
      at ValueFits st.globals a.0 v store.globals a.2

  memory_fits : (m : ℕ) (p : ℕ × Memory) → memory_of st m ≡ Some p → All IsByte p.1.bytes
  memory_fits m p e =
      let i = then_some (λ (j : Instance). option_and_then
      (λ (a : ℕ). option_map (λ (memory : Memory). (a, memory)) (slice_get st.memories a)) (slice_get j.memories 0))
      (instance_of st m) p e in
      let a = then_some (λ (a : ℕ). option_map (λ (memory : Memory). (a, memory)) (slice_get st.memories a))
      (slice_get i.0.memories 0) p i.2 in
      let memory_at = map_some (λ (memory : Memory). (a.0, memory)) (slice_get st.memories a.0) p a.2 in
      subst (λ (q : ℕ × Memory). All IsByte q.1.bytes) memory_at.2
      (at (λ (k : Memory). All IsByte k.bytes) st.memories a.0 memory_at.0 store.memories memory_at.1)

  loads_fit : (a : Activation) (kind : Load) (place : ℕ) (m : ℕ × Memory) → ActivationFits a → All IsByte m.1.bytes
      → ConfigFits (loads st a callers kind place m).0
  loads_fit a kind place m h g = go (nat_le (place + load_size kind) (length m.1.bytes))
    where
      go : (b : Bool) → ConfigFits (or_trap (if b then Some (take (load_size kind) (drop place m.1.bytes)) else None)
          (λ bytes. push_value st a callers (I64 (load_number kind bytes)))).0
      go true = push_fits a (I64 (load_number kind (take (load_size kind) (drop place m.1.bytes)))) h
          (loaded_fits kind (take (load_size kind) (drop place m.1.bytes))
          (All-take IsByte (load_size kind) (drop place m.1.bytes) (All-drop IsByte place m.1.bytes g)))
      go false = tt

  stores_fit : (a : Activation) (place : ℕ) (bytes : List ℕ) (m : ℕ × Memory) → ActivationFits a → All IsByte m.1.bytes
      → All IsByte bytes → ConfigFits (stores st a callers place bytes m).0
  stores_fit a place bytes m h g k =
      let written = paste_items m.1.bytes place bytes in
      let fits : All IsByte written =
      All-append IsByte (take place m.1.bytes ++ bytes) (drop (place + length bytes) m.1.bytes)
      (All-append IsByte (take place m.1.bytes) bytes (All-take IsByte place m.1.bytes g) k)
      (All-drop IsByte (place + length bytes) m.1.bytes g) in
      if_fits (nat_le (place + length bytes) (length m.1.bytes))
      (Going (with_memory_bytes st m.0 m.1 written) a callers, []) trap_now
      (record {
        store = record {
          globals = store.globals;
          memories =
              All-set (λ (w : Memory). All IsByte w.bytes) st.memories m.0 (record m.1 { bytes = written }) fits
              store.memories;
        };
        running = h;
        waiting = waiting;
      }) tt

  -- ---- an instruction

  -- the stack without its top
  popped : (a : Activation) (vs : List Value) → ActivationFits a → All ValueFits vs
      → ActivationFits (record a { stack = vs })
  popped a vs h g = record { locals = h.locals; stack = g; labels = h.labels; rest = h.rest }

  begun_fits : (a : Activation) (i : Instr) (l : layer.Instr-F Instr) → ActivationFits a → InstrFits i → Laid l
      → ConfigFits (begun_layer modules st a callers i l).0
  begun_fits a i layer.Unreachable h f c = tt
  begun_fits a i (layer.Block t body) h f c = inside_fits a (results_of t) a.rest body h h.rest c
  begun_fits a i (layer.Loop t body) h f c = inside_fits a 0 (i ∷ a.rest) body h (More i a.rest f h.rest) c
  begun_fits a i (layer.If t body otherwise) h f c =
      or_trap_fits (top_i32 a.stack) (λ p. inside st (record a { stack = p.0 }) callers (results_of t) a.rest
      (side p.1 body otherwise))
      (λ p e. inside_fits (record a { stack = p.0 }) (results_of t) a.rest (side p.1 body otherwise)
      (popped a p.0 h (top_i32_fits a.stack p e h.stack).0) h.rest
      (side_fits (p.1 == 0) p.1 body otherwise refl c.0 c.1))
  begun_fits a i (layer.Br x) h f c = branched_fits a x h
  begun_fits a i (layer.BrIf x) h f c =
      or_trap_fits (top_i32 a.stack) (λ p. branched_if st (record a { stack = p.0 }) callers x p.1)
      (λ p e.
      let below = popped a p.0 h (top_i32_fits a.stack p e h.stack).0 in
      if_fits (p.1 == 0) (Going st (record a { stack = p.0 }) callers, [])
      (branch_by st (record a { stack = p.0 }) callers x)
      (record { store = store; running = below; waiting = waiting })
      (branched_fits (record a { stack = p.0 }) x below))
  begun_fits a i (layer.BrTable xs x) h f c =
      or_trap_fits (top_i32 a.stack) (λ p. branch_by st (record a { stack = p.0 }) callers (slice_index_or xs p.1 x))
      (λ p e. branched_fits (record a { stack = p.0 }) (slice_index_or xs p.1 x)
      (popped a p.0 h (top_i32_fits a.stack p e h.stack).0))
  begun_fits a i layer.Return h f c = or_trap_fits (split_end a.arity a.stack) (λ p. return_to st callers p.1)
      (λ p q. returned_fits p.1 (end_fits ValueFits a.arity a.stack p q h.stack).1)
  begun_fits a i (layer.Call x) h f c = or_trap_fits (callee_at st a.instance x) (call_function modules st a callers)
      (λ k e. called_fits a k h)
  begun_fits a i (layer.CallIndirect x) h f c =
      or_trap_fits (top_i32 a.stack) (λ p. or_trap (callee_in st a.instance p.1)
      (call_typed modules st (record a { stack = p.0 }) callers (type_at modules a.instance x)))
      (λ p e. or_trap_fits (callee_in st a.instance p.1)
      (call_typed modules st (record a { stack = p.0 }) callers (type_at modules a.instance x))
      (λ k g. called_as_fits (record a { stack = p.0 }) (type_at modules a.instance x) k
      (popped a p.0 h (top_i32_fits a.stack p e h.stack).0)))
  begun_fits a i layer.Drop h f c = or_trap_fits (split_last a.stack)
      (λ p. (Going st (record a { stack = p.0 }) callers, []))
      (λ p e. restacked a p.0 h (last_fits ValueFits a.stack p e h.stack).0)
  begun_fits a i (layer.LocalGet x) h f c =
      or_trap_fits (slice_get a.locals x) (push_value st a callers)
      (λ v e. push_fits a v h (at ValueFits a.locals x v h.locals e))
  begun_fits a i (layer.LocalSet x) h f c =
      or_trap_fits (split_last a.stack) (λ p. with_local st (record a { stack = p.0 }) callers x p.1)
      (λ p e.
      let both = last_fits ValueFits a.stack p e h.stack in
      with_local_fits (record a { stack = p.0 }) x p.1 (popped a p.0 h both.0) both.1)
  begun_fits a i (layer.LocalTee x) h f c =
      or_trap_fits (topmost a.stack) (with_local st a callers x)
      (λ v e. with_local_fits a x v h (at ValueFits a.stack (length a.stack - 1) v h.stack e))
  begun_fits a i (layer.GlobalGet g) h f c =
      or_trap_fits (global_at st a.instance g) (push_value st a callers)
      (λ v e. push_fits a v h (global_fits a.instance g v e))
  begun_fits a i (layer.Load kind) h f c =
      or_trap_fits (top_i32 a.stack) (λ p. or_trap (memory_of st a.instance)
      (loads st (record a { stack = p.0 }) callers kind p.1))
      (λ p e. or_trap_fits (memory_of st a.instance) (loads st (record a { stack = p.0 }) callers kind p.1)
      (λ m g. loads_fit (record a { stack = p.0 }) kind p.1 m (popped a p.0 h (top_i32_fits a.stack p e h.stack).0)
      (memory_fits a.instance m g)))
  begun_fits a i (layer.Store width) h f c =
      or_trap_fits (top_i64 a.stack) (λ v. or_trap (top_i32 v.0)
      (λ p. or_trap (memory_of st a.instance)
      (stores st (record a { stack = p.0 }) callers p.1 (store_bytes width v.1))))
      (λ v d. or_trap_fits (top_i32 v.0) (λ p. or_trap (memory_of st a.instance)
      (stores st (record a { stack = p.0 }) callers p.1 (store_bytes width v.1)))
      (λ p e. or_trap_fits (memory_of st a.instance)
      (stores st (record a { stack = p.0 }) callers p.1 (store_bytes width v.1))
      (λ m g. stores_fit (record a { stack = p.0 }) p.1 (store_bytes width v.1) m
      (popped a p.0 h (top_i32_fits v.0 p e (top_i64_fits a.stack v d h.stack).0).0) (memory_fits a.instance m g)
      (stored_fits width v.1))))
  begun_fits a i (layer.I32Const n) h f c = push_fits a (I32 n) h c
  begun_fits a i (layer.I64Const n) h f c = push_fits a (I64 n) h c
  begun_fits a i (layer.Numeric o) h f c =
      or_trap_fits (calculation o a.stack) (λ p. push_value st (record a { stack = p.0 }) callers p.1)
      (λ p e.
      let both = calculated_fits o a.stack p e h.stack in
      push_fits (record a { stack = p.0 }) p.1 (popped a p.0 h both.0) both.1)

  next_fits : (a : Activation) (code : List Instr) → a.rest ≡ code → ActivationFits a
      → ConfigFits (next modules st a callers code).0
  next_fits a [] e h = ended_fits a (split_last a.labels) h refl
  next_fits a (i ∷ rest) e h =
      let code = first_fits i rest (subst CodeFits e h.rest) in
      begun_fits (record a { rest = rest }) i (out-Instr i)
      (record { locals = h.locals; stack = h.stack; labels = h.labels; rest = code.1 }) code.0 (laid i code.0)

-- ---- reductions

pub reduce_fits : (modules : List WModule) (c : Config) → All ModuleFits modules → ConfigFits c
    → ConfigFits (reduce modules c).0
unfolding reduce
reduce_fits modules (Going st now callers) all h =
    next_fits modules all st callers h.store h.waiting now now.rest refl h.running
reduce_fits modules (Over k) all h = tt
reduce_fits modules Trapped all h = tt

pub run_fits : (modules : List WModule) (n : ℕ) (c : Config) → All ModuleFits modules → ConfigFits c
    → ConfigFits (run modules n c).0
unfolding run
run_fits modules zero c all h = h
run_fits modules (suc n) c all h = run_fits modules n (reduce modules c).0 all (reduce_fits modules c all h)
