-- The machine prints at most one byte by a reduction. So what it has printed between two times was all that it had
-- printed at some time between them.
use Rattle.std.proofs.Common.{◌≡◌, ℕ, zero, suc, ◌+◌, ◌≤◌, Bool, true, false, List, [], ◌∷◌, ◌++◌, Option, Some, None, if◌then◌else◌, refl, sym, ap, subst, ◌∙◌, append_assoc, arith}
use Rattle.std.specs.Prelude.{◌==◌, ◌-◌, take, length, nat_le, nat_lt, slice_get, slice_index_or}
use Rattle.wasm_tree.specs.declared.instr.Instr.{Instr, Instr-F, out-Instr}
use Rattle.wasm_tree.specs.declared.instr.Instr.TheOpen as layer
use Rattle.wasm_tree.specs.declared.kinds.FuncType.{FuncType}
use Rattle.wasm_tree.specs.declared.module.WModule.{WModule}
use Rattle.wasm_tree.specs.declared.store.Callee.{Callee}
use Rattle.wasm_tree.specs.declared.store.Callee.TheVariants.{Put, Stop, Own}
use Rattle.wasm_tree.specs.declared.store.Store.{Store}
use Rattle.wasm_tree.specs.declared.store.Value.{Value}
use Rattle.wasm_tree.specs.Numbers.{store_bytes}
use Rattle.wasm_tree.specs.Machine.{Label, Activation, Config, Going, Over, Trapped, Progress, trap_now, or_trap, split_last, split_end, topmost, top_i32, top_i64, calculation, callee_at, callee_in, global_at, memory_of, own_function, type_at, callee_type, agree, enter_function, stop_with, call_function, call_typed, push_value, return_to, inside, keep_operands, branch_to, branch_by, branched_if, with_local, bytes_at, loads, stores, results_of, side, begun_layer, end_block, next, reduce, run}
use Rattle.law_effect.proofs.Reaching.{run-add}
use Rattle.def_meaning.specs.Later.{Begins}
use Rattle.def_meaning.proofs.After.{begins_more, joined}

data IsFew : List ℕ → Type 0 where
  nothing : IsFew []
  one : (b : ℕ) → IsFew (b ∷ [])

abbrev PrintsFew : Progress → Type 0
PrintsFew p = IsFew p.1

trap_few : {A : Type 0} (o : Option A) (f : A → Progress) → ((x : A) → PrintsFew (f x)) → PrintsFew (or_trap o f)
trap_few None f h = nothing
trap_few (Some x) f h = h x

if_few : (b : Bool) (p q : Progress) → PrintsFew p → PrintsFew q → PrintsFew (if b then p else q)
if_few true p q h k = h
if_few false p q h k = k

module _ (modules : List WModule) (st : Store) (callers : List Activation) where
  returned_few : (vs : List Value) → PrintsFew (return_to st callers vs)
  returned_few vs = go (split_last callers)
    where
      go : (p : Option (List Activation × Activation))
          → PrintsFew (elim p as (λ _. Progress)
          [ None ↦ (Over 0, []) | Some p ↦ (Going st (record p.1 { stack = p.1.stack ++ vs }) p.0, []) ])
      go None = nothing
      go (Some p) = nothing

  found_few : (a : Activation) (l : Option (List Label × Label)) → PrintsFew (branch_to st a callers l)
  found_few a None = trap_few (split_end a.arity a.stack) (λ p. return_to st callers p.1) (λ p. returned_few p.1)
  found_few a (Some l) = trap_few (split_end l.1.arity a.stack)
      (λ p. (Going st (record a { labels = l.0; rest = l.1.again; stack = keep_operands l.1.height p }) callers, []))
      (λ p. nothing)

  branched_few : (a : Activation) (l : ℕ) → PrintsFew (branch_by st a callers l)
  branched_few a l = if_few (nat_le l (length a.labels))
      (branch_to st a callers (split_last (take (length a.labels - l) a.labels))) trap_now
      (found_few a (split_last (take (length a.labels - l) a.labels))) nothing

  called_few : (a : Activation) (c : Callee) → PrintsFew (call_function modules st a callers c)
  called_few a Put = trap_few (top_i64 a.stack) _ (λ p. one _)
  called_few a Stop = trap_few (top_i64 a.stack) (λ p. (stop_with p.1, [])) (λ p. nothing)
  called_few a (Own m f) =
      trap_few (own_function modules m f) (λ t. or_trap (split_end (length t.type.params) a.stack)
      (λ p. (Going st (enter_function m t p.1) (callers ++ record a { stack = p.0 } ∷ []), [])))
      (λ t. trap_few (split_end (length t.type.params) a.stack)
      (λ p. (Going st (enter_function m t p.1) (callers ++ record a { stack = p.0 } ∷ []), [])) (λ p. nothing))

  called_as_few : (a : Activation) (asked : Option FuncType) (c : Callee)
      → PrintsFew (call_typed modules st a callers asked c)
  called_as_few a asked c = if_few (agree asked (callee_type modules c)) (call_function modules st a callers c) trap_now
      (called_few a c) nothing

  local_few : (a : Activation) (x : ℕ) (v : Value) → PrintsFew (with_local st a callers x v)
  local_few a x v = if_few (nat_lt x (length a.locals)) _ trap_now nothing nothing

  begun_few : (a : Activation) (i : Instr) (l : layer.Instr-F Instr) → PrintsFew (begun_layer modules st a callers i l)
  begun_few a i layer.Unreachable = nothing
  begun_few a i (layer.Block t body) = nothing
  begun_few a i (layer.Loop t body) = nothing
  begun_few a i (layer.If t body otherwise) =
      trap_few (top_i32 a.stack) (λ p. inside st (record a { stack = p.0 }) callers (results_of t) a.rest
      (side p.1 body otherwise)) (λ p. nothing)
  begun_few a i (layer.Br x) = branched_few a x
  begun_few a i (layer.BrIf x) =
      trap_few (top_i32 a.stack) (λ p. branched_if st (record a { stack = p.0 }) callers x p.1)
      (λ p. if_few (p.1 == 0) (Going st (record a { stack = p.0 }) callers, [])
      (branch_by st (record a { stack = p.0 }) callers x) nothing (branched_few (record a { stack = p.0 }) x))
  begun_few a i (layer.BrTable xs x) =
      trap_few (top_i32 a.stack) (λ p. branch_by st (record a { stack = p.0 }) callers (slice_index_or xs p.1 x))
      (λ p. branched_few (record a { stack = p.0 }) (slice_index_or xs p.1 x))
  begun_few a i layer.Return = found_few a None
  begun_few a i (layer.Call x) = trap_few (callee_at st a.instance x) (call_function modules st a callers)
      (λ c. called_few a c)
  begun_few a i (layer.CallIndirect x) =
      trap_few (top_i32 a.stack) (λ p. or_trap (callee_in st a.instance p.1)
      (call_typed modules st (record a { stack = p.0 }) callers (type_at modules a.instance x)))
      (λ p. trap_few (callee_in st a.instance p.1)
      (call_typed modules st (record a { stack = p.0 }) callers (type_at modules a.instance x))
      (λ c. called_as_few (record a { stack = p.0 }) (type_at modules a.instance x) c))
  begun_few a i layer.Drop = trap_few (split_last a.stack) (λ p. (Going st (record a { stack = p.0 }) callers, []))
      (λ p. nothing)
  begun_few a i (layer.LocalGet x) = trap_few (slice_get a.locals x) (push_value st a callers) (λ v. nothing)
  begun_few a i (layer.LocalSet x) = trap_few (split_last a.stack)
      (λ p. with_local st (record a { stack = p.0 }) callers x p.1) (λ p. local_few (record a { stack = p.0 }) x p.1)
  begun_few a i (layer.LocalTee x) = trap_few (topmost a.stack) (with_local st a callers x) (λ v. local_few a x v)
  begun_few a i (layer.GlobalGet g) = trap_few (global_at st a.instance g) (push_value st a callers) (λ v. nothing)
  begun_few a i (layer.Load kind) =
      trap_few (top_i32 a.stack) (λ p. or_trap (memory_of st a.instance)
      (loads st (record a { stack = p.0 }) callers kind p.1))
      (λ p. trap_few (memory_of st a.instance) (loads st (record a { stack = p.0 }) callers kind p.1)
      (λ m. trap_few (bytes_at _ p.1 m.1.bytes) _ (λ bytes. nothing)))
  begun_few a i (layer.Store width) =
      trap_few (top_i64 a.stack) (λ v. or_trap (top_i32 v.0)
      (λ p. or_trap (memory_of st a.instance)
      (stores st (record a { stack = p.0 }) callers p.1 (store_bytes width v.1))))
      (λ v. trap_few (top_i32 v.0) (λ p. or_trap (memory_of st a.instance)
      (stores st (record a { stack = p.0 }) callers p.1 (store_bytes width v.1)))
      (λ p. trap_few (memory_of st a.instance)
      (stores st (record a { stack = p.0 }) callers p.1 (store_bytes width v.1))
      (λ m. if_few _ _ trap_now nothing nothing)))
  begun_few a i (layer.I32Const n) = nothing
  begun_few a i (layer.I64Const n) = nothing
  begun_few a i (layer.Numeric o) = trap_few (calculation o a.stack)
      (λ p. push_value st (record a { stack = p.0 }) callers p.1) (λ p. nothing)

  ended_few : (a : Activation) (l : Option (List Label × Label)) → PrintsFew (end_block st a callers l)
  ended_few a None = found_few a None
  ended_few a (Some l) = nothing

  next_few : (a : Activation) (code : List Instr) → PrintsFew (next modules st a callers code)
  next_few a [] = ended_few a (split_last a.labels)
  next_few a (i ∷ rest) = begun_few (record a { rest = rest }) i (out-Instr i)

reduce_few : (modules : List WModule) (c : Config) → PrintsFew (reduce modules c)
unfolding reduce
reduce_few modules (Going st now callers) = next_few modules st callers now now.rest
reduce_few modules (Over k) = nothing
reduce_few modules Trapped = nothing

-- ---- a beginning of what is printed is printed at some time

-- the run from a configuration prints exactly this by some time
abbrev PrintsBy : List WModule → Config → List ℕ → Type 0
PrintsBy modules c out = (i : ℕ) × ((run modules i c).1 ≡ out)

module _ (modules : List WModule) where
  -- behind what the first reduction prints
  behind : (c : Config) (first : List ℕ) → (reduce modules c).1 ≡ first → (out : List ℕ)
      → PrintsBy modules (reduce modules c).0 out → PrintsBy modules c (first ++ out)
  unfolding run
  behind c first is out later = (
    suc later.0,
    ap (λ (xs : List ℕ). xs ++ (run modules later.0 (reduce modules c).0).1)
        is ∙ ap (λ (xs : List ℕ). first ++ xs) later.1,
  )

  abbrev AllBegin : ℕ → Type 0
  AllBegin j = (c : Config) (out more : List ℕ) → out ++ more ≡ (run modules j c).1 → PrintsBy modules c out

  by_first : (j : ℕ) → AllBegin j → (c : Config) (first : List ℕ) → IsFew first → (reduce modules c).1 ≡ first
      → (b : ℕ) (out more : List ℕ) → b ∷ (out ++ more) ≡ first ++ (run modules j (reduce modules c).0).1
      → PrintsBy modules c (b ∷ out)
  by_first j later c [] few is b out more e = behind c [] is (b ∷ out) (later (reduce modules c).0 (b ∷ out) more e)
  by_first j later c (x ∷ []) (one _) is b out more e =
      subst (λ (y : ℕ). PrintsBy modules c (y ∷ out)) (sym (cc e))
      (behind c (x ∷ []) is out (later (reduce modules c).0 out more (cc e)))
  by_first j later c (x ∷ (y ∷ ys)) few is b out more e = elim few [ ]

  begun_by : (j : ℕ) → AllBegin j
  unfolding run
  begun_by j c [] more e = (0, refl)
  begun_by zero c (b ∷ out) more e = cc e
  begun_by (suc j) c (b ∷ out) more e = by_first j (begun_by j) c (reduce modules c).1 (reduce_few modules c) refl b out
      more e

  -- between two times
  pub printed_between : (c : Config) (i j : ℕ) (out : List ℕ) → Begins (run modules i c).1 out
      → Begins out (run modules j c).1 → (m : ℕ) × (i ≤ m) × ((run modules m c).1 ≡ out)
  printed_between c i j out before later =
      let d : Config = (run modules i c).0 in
      let whole : (run modules (i + j) c).1 ≡ (run modules i c).1 ++ (run modules j d).1 =
      ap (λ (p : Progress). p.1) (run-add modules i j [] c) in
      let swapped : (run modules (i + j) c).1 ≡ (run modules j c).1 ++ (run modules i (run modules j c).0).1 =
      ap (λ (n : ℕ). (run modules n c).1) (omega arith) ∙ ap (λ (p : Progress). p.1) (run-add modules j i [] c) in
      let all : Begins out ((run modules i c).1 ++ (run modules j d).1) =
      subst (Begins out) (sym swapped ∙ whole)
      (joined later (begins_more (run modules j c).1 (run modules i (run modules j c).0).1)) in
      let tail : before.more ++ all.more ≡ (run modules j d).1 =
      dropped (run modules i c).1 (before.more ++ all.more) (run modules j d).1
      (sym (append_assoc (run modules i c).1 before.more all.more)
      ∙ ap (λ (xs : List ℕ). xs ++ all.more) before.rest ∙ all.rest) in
      let by : PrintsBy modules d before.more = begun_by j d before.more all.more tail in (
        i + by.0,
        omega arith,
        ap (λ (p : Progress). p.1) (run-add modules i by.0 [] c)
            ∙ ap (λ (xs : List ℕ). (run modules i c).1 ++ xs) by.1 ∙ before.rest,
      )
    where
      dropped : (xs ys zs : List ℕ) → xs ++ ys ≡ xs ++ zs → ys ≡ zs
      dropped [] ys zs e = e
      dropped (x ∷ xs) ys zs e = dropped xs ys zs (cc e)
