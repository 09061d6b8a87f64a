-- Runs that differ in the numbers of their instances alone.
use Rattle.std.proofs.Common.{◌≡◌, ℕ, zero, suc, ◌+◌, ◌-◌, Bool, true, false, List, [], ◌∷◌, ◌++◌, length, map, take, Option, Some, None, refl, sym, ap, subst, ◌∙◌}
use Rattle.std.specs.Prelude.{slice_get, slice_set, slice_index_or, nat_le, nat_lt, ◌&&◌, ◌==◌, if◌then◌else◌}
use Rattle.std.specs.Option.{option_and_then, option_map}
use Rattle.wasm_tree.specs.declared.kinds.FuncType.{FuncType}
use Rattle.wasm_tree.specs.declared.instr.Instr.{Instr, out-Instr}
use Rattle.wasm_tree.specs.declared.instr.Instr.TheOpen as layer
use Rattle.wasm_tree.specs.declared.instr.Load.{Load}
use Rattle.wasm_tree.specs.declared.module.WModule.{WModule}
use Rattle.wasm_tree.specs.declared.store.Value.{Value}
use Rattle.wasm_tree.specs.declared.store.Value.TheVariants.{I32, I64}
use Rattle.wasm_tree.specs.declared.store.Callee.{Callee}
use Rattle.wasm_tree.specs.declared.store.Callee.TheVariants.{Put, Stop, Own}
use Rattle.wasm_tree.specs.declared.store.Memory.{Memory}
use Rattle.wasm_tree.specs.declared.store.Store.{Store}
use Rattle.wasm_tree.specs.Numbers.{load_size, store_bytes}
use Rattle.wasm_tree.specs.Machine.{Label, Activation, Config, Going, Over, Trapped, Progress, trap_now, split_last, split_end, topmost, top_i32, top_i64, or_trap, callee_at, callee_in, global_at, memory_of, Typed, own_function, type_at, callee_type, agree, enter_function, stop_with, call_function, call_typed, push_value, return_to, inside, keep_operands, branch_to, branch_by, branched_if, with_local, bytes_at, paste_items, loads, stores, calculation, results_of, side, begun_layer, begin_instruction, end_block, next, reduce, run}
use Rattle.law_orders.specs.Renumbered.{renumber, renumber_activation, AreAlike, SameConfig, BothGo, BothEnd, BothTrap, SameProgress, RunsAreAlike}

map_end : {A B : Type 0} (f : A → B) (xs : List A) (x : A) → map f (xs ++ x ∷ []) ≡ map f xs ++ f x ∷ []
map_end f [] x = refl
map_end {B = B} f (y ∷ xs) x = ap (λ (ys : List B). f y ∷ ys) (map_end f xs x)

abbrev both_mapped : {A B : Type 0} → (A → B) → List A × A → List B × B
both_mapped f p = (map f p.0, f p.1)

split_mapped : {A B : Type 0} (f : A → B) (xs : List A)
    → split_last (map f xs) ≡ option_map (both_mapped f) (split_last xs)
split_mapped f [] = refl
split_mapped {A = A} {B = B} f (x ∷ xs) = ap (λ (o : Option (List B × B)). front_first o) (split_mapped f xs)
    ∙ by (split_last xs) where
      front_first : Option (List B × B) → Option (List B × B)
      front_first o = elim o [ None ↦ Some ([], f x) | Some p ↦ Some (f x ∷ p.0, p.1) ]

      by : (o : Option (List A × A)) → front_first (option_map (both_mapped f) o)
          ≡ option_map (both_mapped f) (elim o [ None ↦ Some ([], x) | Some p ↦ Some (x ∷ p.0, p.1) ])
      by None = refl
      by (Some p) = refl

module _ (number : ℕ → ℕ) (modules others : List WModule) (st new : Store)
    (alike : AreAlike number modules others st new) where
  abbrev P : Progress → Progress → Type 0
  P x y = SameProgress number st new x y

  abbrev old_at : List Memory → Store
  old_at ms = record st { memories = ms }

  abbrev new_at : List Memory → Store
  new_at ms = record new { memories = ms }

  abbrev all_moved : List Activation → List Activation
  all_moved callers = map (renumber_activation number) callers

  both_trap : P trap_now trap_now
  both_trap = record { config = BothTrap; printed = refl }

  go : (ms : List Memory) (now : Activation) (callers : List Activation) (out : List ℕ)
      → P (Going (old_at ms) now callers, out)
      (Going (new_at ms) (renumber_activation number now) (all_moved callers), out)
  go ms now callers out = record { config = BothGo ms now callers; printed = refl }

  or_same : {A : Type 0} (o : Option A) (f g : A → Progress) → ((x : A) → P (f x) (g x)) → P (or_trap o f) (or_trap o g)
  or_same None f g k = both_trap
  or_same (Some x) f g k = k x

  -- what stands for the same is found
  or_is : {A : Type 0} (o q : Option A) (f g : A → Progress) → q ≡ o → ((x : A) → P (f x) (g x))
      → P (or_trap o f) (or_trap q g)
  or_is {A = A} o q f g e k = subst (λ (q : Option A). P (or_trap o f) (or_trap q g)) (sym e) (or_same o f g k)

  or_callee : (o q : Option Callee) (f g : Callee → Progress) → q ≡ option_map (renumber number) o
      → ((x : Callee) → P (f x) (g (renumber number x))) → P (or_trap o f) (or_trap q g)
  or_callee o q f g e k = subst (λ (q : Option Callee). P (or_trap o f) (or_trap q g)) (sym e) (by o) where
    by : (o : Option Callee) → P (or_trap o f) (or_trap (option_map (renumber number) o) g)
    by None = both_trap
    by (Some x) = k x

  if_same : (b : Bool) (x y u v : Progress) → P x u → P y v → P (if b then x else y) (if b then u else v)
  if_same true x y u v p q = p
  if_same false x y u v p q = q

  own_same : (m f : ℕ) → own_function others (number m) f ≡ own_function modules m f
  own_same m f = rw (alike.trees m) refl

  type_same : (m t : ℕ) → type_at others (number m) t ≡ type_at modules m t
  type_same m t = rw (alike.trees m) refl

  callee_same : (c : Callee) → callee_type others (renumber number c) ≡ callee_type modules c
  callee_same Put = refl
  callee_same Stop = refl
  callee_same (Own m f) = rw (own_same m f) refl

  module _ (ms : List Memory) where
    pushes : (now : Activation) (callers : List Activation) (v : Value)
        → P (push_value (old_at ms) now callers v)
        (push_value (new_at ms) (renumber_activation number now) (all_moved callers) v)
    pushes now callers v = go ms (record now { stack = now.stack ++ v ∷ [] }) callers []

    returns : (callers : List Activation) (results : List Value)
        → P (return_to (old_at ms) callers results) (return_to (new_at ms) (all_moved callers) results)
    returns callers results =
        subst (λ (o : Option (List Activation × Activation)). P (return_to (old_at ms) callers results)
        (elim o [
          | None ↦ (Over 0, [])
          | Some p ↦
              (Going (new_at ms) (record p.1 { stack = p.1.stack ++ results }) p.0, [])
        ]))
        (sym (split_mapped (renumber_activation number) callers))
        (by (split_last callers))
      where
        by : (o : Option (List Activation × Activation))
            → P (elim o [
              | None ↦ (Over 0, [])
              | Some p ↦
                  (Going (old_at ms) (record p.1 { stack = p.1.stack ++ results }) p.0, [])
            ])
            (elim (option_map (both_mapped (renumber_activation number)) o) [
              | None ↦ (Over 0, [])
              | Some p ↦ (
                Going (new_at ms) (record p.1 { stack = p.1.stack ++ results }) p.0,
                [],
              )
            ])
        by None = record { config = BothEnd 0; printed = refl }
        by (Some p) = go ms (record p.1 { stack = p.1.stack ++ results }) p.0 []

    stops : (k : ℕ) → SameConfig number st new (stop_with k) (stop_with k)
    stops k = by (nat_le 1 k && nat_le k 255) where
      by : (b : Bool) → SameConfig number st new (if b then Over k else Trapped) (if b then Over k else Trapped)
      by true = BothEnd k
      by false = BothTrap

    calls : (now : Activation) (callers : List Activation) (c : Callee)
        → P (call_function modules (old_at ms) now callers c)
        (call_function others (new_at ms) (renumber_activation number now) (all_moved callers) (renumber number c))
    calls now callers Put = or_same (top_i64 now.stack) _ _ (λ p. go ms (record now { stack = p.0 }) callers _)
    calls now callers Stop = or_same (top_i64 now.stack) _ _ (λ p. record { config = stops p.1; printed = refl })
    calls now callers (Own m f) =
        or_is (own_function modules m f) (own_function others (number m) f) _ _ (own_same m f) (λ t.
        or_same (split_end (length t.type.params) now.stack) _ _ (λ p.
        subst (λ (xs : List Activation). P (
          Going (old_at ms) (enter_function m t p.1)
              (callers ++ record now { stack = p.0 } ∷ []),
          [],
        )
        (Going (new_at ms) (renumber_activation number (enter_function m t p.1)) xs, []))
        (map_end (renumber_activation number) callers (record now { stack = p.0 }))
        (go ms (enter_function m t p.1) (callers ++ record now { stack = p.0 } ∷ []) [])))

    calls_typed : (now : Activation) (callers : List Activation) (t u : Option FuncType) (c : Callee) → u ≡ t
        → P (call_typed modules (old_at ms) now callers t c)
        (call_typed others (new_at ms) (renumber_activation number now) (all_moved callers) u (renumber number c))
    calls_typed now callers t u c e =
        subst (λ (b : Bool). P (call_typed modules (old_at ms) now callers t c)
        (if b then call_function others (new_at ms) (renumber_activation number now) (all_moved callers)
        (renumber number c) else trap_now))
        (sym (ap (λ (x : Option FuncType). agree x (callee_type others (renumber number c))) e
        ∙ ap (agree t) (callee_same c)))
        (if_same (agree t (callee_type modules c)) _ _ _ _ (calls now callers c) both_trap)

    branches_to : (now : Activation) (callers : List Activation) (o : Option (List Label × Label))
        → P (branch_to (old_at ms) now callers o)
        (branch_to (new_at ms) (renumber_activation number now) (all_moved callers) o)
    branches_to now callers None = or_same (split_end now.arity now.stack) _ _ (λ p. returns callers p.1)
    branches_to now callers (Some l) = or_same (split_end l.1.arity now.stack) _ _
        (λ p. go ms (record now { labels = l.0; rest = l.1.again; stack = keep_operands l.1.height p }) callers [])

    branches_by : (now : Activation) (callers : List Activation) (label : ℕ)
        → P (branch_by (old_at ms) now callers label)
        (branch_by (new_at ms) (renumber_activation number now) (all_moved callers) label)
    branches_by now callers label = if_same (nat_le label (length now.labels)) _ _ _ _
        (branches_to now callers (split_last (take (length now.labels - label) now.labels))) both_trap

    begins : (now : Activation) (callers : List Activation) (arity : ℕ) (again body : List Instr)
        → P (inside (old_at ms) now callers arity again body)
        (inside (new_at ms) (renumber_activation number now) (all_moved callers) arity again body)
    begins now callers arity again body =
        go ms (record now {
          labels = now.labels
              ++ record { arity = arity; height = length now.stack; again = again; rest = now.rest } ∷ [];
          rest = body;
        })
        callers []

    sets : (now : Activation) (callers : List Activation) (x : ℕ) (v : Value)
        → P (with_local (old_at ms) now callers x v)
        (with_local (new_at ms) (renumber_activation number now) (all_moved callers) x v)
    sets now callers x v = if_same (nat_lt x (length now.locals)) _ _ _ _
        (go ms (record now { locals = slice_set now.locals x v }) callers []) both_trap

    loaded : (now : Activation) (callers : List Activation) (kind : Load) (place : ℕ) (m : ℕ × Memory)
        → P (loads (old_at ms) now callers kind place m)
        (loads (new_at ms) (renumber_activation number now) (all_moved callers) kind place m)
    loaded now callers kind place m = or_same (bytes_at (load_size kind) place m.1.bytes) _ _
        (λ bytes. pushes now callers _)

    stored : (now : Activation) (callers : List Activation) (place : ℕ) (bytes : List ℕ) (m : ℕ × Memory)
        → P (stores (old_at ms) now callers place bytes m)
        (stores (new_at ms) (renumber_activation number now) (all_moved callers) place bytes m)
    stored now callers place bytes m =
        if_same (nat_le (place + length bytes) (length m.1.bytes)) _ _ _ _
        (go (slice_set ms m.0 (record m.1 { bytes = paste_items m.1.bytes place bytes })) now callers []) both_trap

    layer_same : (now : Activation) (callers : List Activation) (i : Instr) (x : layer.Instr-F Instr)
        → P (begun_layer modules (old_at ms) now callers i x)
        (begun_layer others (new_at ms) (renumber_activation number now) (all_moved callers) i x)
    layer_same now callers i layer.Unreachable = both_trap
    layer_same now callers i (layer.Block t body) = begins now callers (results_of t) now.rest body
    layer_same now callers i (layer.Loop t body) = begins now callers 0 (i ∷ now.rest) body
    layer_same now callers i (layer.If t body otherwise) =
        or_same (top_i32 now.stack) _ _ (λ p. begins (record now { stack = p.0 }) callers (results_of t) now.rest
        (side p.1 body otherwise))
    layer_same now callers i (layer.Br label) = branches_by now callers label
    layer_same now callers i (layer.BrIf label) =
        or_same (top_i32 now.stack) _ _ (λ p. if_same (p.1 == 0) _ _ _ _ (go ms (record now { stack = p.0 }) callers [])
        (branches_by (record now { stack = p.0 }) callers label))
    layer_same now callers i (layer.BrTable labels default) =
        or_same (top_i32 now.stack) _ _ (λ p. branches_by (record now { stack = p.0 }) callers
        (slice_index_or labels p.1 default))
    layer_same now callers i layer.Return = branches_to now callers None
    layer_same now callers i (layer.Call f) =
        or_callee (callee_at st now.instance f) (callee_at new (number now.instance) f) _ _
        (alike.functions now.instance f) (λ c. calls now callers c)
    layer_same now callers i (layer.CallIndirect t) =
        or_same (top_i32 now.stack) _ _ (λ p.
        or_callee (callee_in st now.instance p.1) (callee_in new (number now.instance) p.1) _ _
        (alike.slots now.instance p.1) (λ c.
        calls_typed (record now { stack = p.0 }) callers (type_at modules now.instance t)
        (type_at others (number now.instance) t) c (type_same now.instance t)))
    layer_same now callers i layer.Drop = or_same (split_last now.stack) _ _
        (λ p. go ms (record now { stack = p.0 }) callers [])
    layer_same now callers i (layer.LocalGet x) = or_same (slice_get now.locals x) _ _ (λ v. pushes now callers v)
    layer_same now callers i (layer.LocalSet x) =
        or_same (split_last now.stack) _ _ (λ p. sets (record now { stack = p.0 }) callers x p.1)
    layer_same now callers i (layer.LocalTee x) = or_same (topmost now.stack) _ _ (λ v. sets now callers x v)
    layer_same now callers i (layer.GlobalGet g) =
        or_is (global_at st now.instance g) (global_at new (number now.instance) g) _ _ (alike.globals now.instance g)
        (λ v. pushes now callers v)
    layer_same now callers i (layer.Load kind) =
        or_same (top_i32 now.stack) _ _ (λ p. or_is (memory_of (old_at ms) now.instance)
        (memory_of (new_at ms) (number now.instance)) _ _ (alike.memories now.instance ms)
        (λ m. loaded (record now { stack = p.0 }) callers kind p.1 m))
    layer_same now callers i (layer.Store width) =
        or_same (top_i64 now.stack) _ _ (λ v.
        or_same (top_i32 v.0) _ _ (λ p.
        or_is (memory_of (old_at ms) now.instance) (memory_of (new_at ms) (number now.instance)) _ _
        (alike.memories now.instance ms) (λ m. stored (record now { stack = p.0 }) callers p.1
        (store_bytes width v.1) m)))
    layer_same now callers i (layer.I32Const n) = pushes now callers (I32 n)
    layer_same now callers i (layer.I64Const n) = pushes now callers (I64 n)
    layer_same now callers i (layer.Numeric o) =
        or_same (calculation o now.stack) _ _ (λ p. pushes (record now { stack = p.0 }) callers p.1)

    ends : (now : Activation) (callers : List Activation) (o : Option (List Label × Label))
        → P (end_block (old_at ms) now callers o)
        (end_block (new_at ms) (renumber_activation number now) (all_moved callers) o)
    ends now callers None = branches_to now callers None
    ends now callers (Some l) = go ms (record now { labels = l.0; rest = l.1.rest }) callers []

    next_same : (now : Activation) (callers : List Activation) (is : List Instr)
        → P (next modules (old_at ms) now callers is)
        (next others (new_at ms) (renumber_activation number now) (all_moved callers) is)
    next_same now callers [] = ends now callers (split_last now.labels)
    next_same now callers (i ∷ rest) = layer_same (record now { rest = rest }) callers i (out-Instr i)

  reduce_same : (c d : Config) → SameConfig number st new c d → P (reduce modules c) (reduce others d)
  unfolding reduce
  reduce_same _ _ (BothGo ms now callers) = next_same ms now callers now.rest
  reduce_same _ _ (BothEnd k) = record { config = BothEnd k; printed = refl }
  reduce_same _ _ BothTrap = both_trap

  run_same : (n : ℕ) (c d : Config) → SameConfig number st new c d → P (run modules n c) (run others n d)
  unfolding run
  run_same zero c d p = record { config = p; printed = refl }
  run_same (suc n) c d p =
      let one = reduce_same c d p in
      let rest = run_same n (reduce modules c).0 (reduce others d).0 one.config in
      record {
        config = rest.config;
        printed =
            ap (λ (out : List ℕ). out ++ (run others n (reduce others d).0).1) one.printed
            ∙ ap (λ (out : List ℕ). (reduce modules c).1 ++ out) rest.printed;
      }

pub runs_are_alike : RunsAreAlike
runs_are_alike number modules others st new alike c d p n = run_same number modules others st new alike n c d p
