-- What is there, in the words of the machine: for code that makes no test of it.
use Rattle.std.proofs.Common.{Option, ◌≡◌, ℕ, ◌-◌, ◌<◌, ◌≤◌, List, [], ◌∷◌, ◌++◌, length, take, drop, Some, refl, sym, ap, subst, ◌∙◌}
use Rattle.std.specs.Prelude.{slice_get, slice_index_or}
use Rattle.std.specs.Option.{option_and_then, option_map}
use Rattle.std.proofs.lemmas.Bool.{le-leb}
use Rattle.std.proofs.lemmas.Option.{same_Some}
use Rattle.wasm_tree.specs.declared.instr.Instr.{Instr, out-Instr}
use Rattle.wasm_tree.specs.declared.instr.Instr.TheVariants.{If, Br, BrIf, BrTable, Return, Call, CallIndirect, Drop, LocalGet, LocalSet, LocalTee, GlobalGet, outs-If, outs-Br, outs-BrIf, outs-BrTable, outs-Return, outs-Call, outs-CallIndirect, outs-Drop, outs-LocalGet, outs-LocalSet, outs-LocalTee, outs-GlobalGet, outs-Load, outs-Store, outs-Numeric}
use Rattle.wasm_tree.specs.declared.instr.Instr.TheVariants as variant
use Rattle.wasm_tree.specs.declared.instr.Instr.TheOpen as layer
use Rattle.wasm_tree.specs.declared.instr.Numeric.{Numeric}
use Rattle.wasm_tree.specs.declared.instr.Load.{Load}
use Rattle.wasm_tree.specs.declared.instr.StoreWidth.{StoreWidth}
use Rattle.wasm_tree.specs.declared.kinds.ValueType.{ValueType}
use Rattle.wasm_tree.specs.declared.module.WModule.{WModule}
use Rattle.wasm_tree.specs.declared.store.Value.{Value}
use Rattle.wasm_tree.specs.declared.store.Value.TheVariants.{I32, I64}
use Rattle.wasm_tree.specs.declared.store.Callee.{Callee}
use Rattle.wasm_tree.specs.declared.store.Memory.{Memory}
use Rattle.wasm_tree.specs.declared.store.Instance.{Instance}
use Rattle.wasm_tree.specs.declared.store.Store.{Store}
use Rattle.wasm_tree.specs.Machine.{Label, Activation, split_last, split_end, topmost, top_i32, top_i64, instance_of, callee_at, global_at, memory_of}
use Rattle.wasm_sound.specs.Ready.{IsGlobal, IsMemory, CanStore, CanSet, CanBranchIf, CanBranchTable, CanCallIndex, CanCallTop, AreNumbers, IsOne, IsI32, IsI64, AreI32, AreI64, CanBranch, CanCallIndirect, IsReady}
use Rattle.wasm_sound.proofs.Lists.{split_last-push}
use Rattle.wasm_sound.proofs.Operands.{top_i32_at, top_i64_at, topmost_at, two}
use Rattle.wasm_sound.proofs.Calls.{then_some}
use Rattle.wasm_sound.proofs.Segments.{map_some}

-- what an instruction needs, by its variant: the lemmas outs-Drop, outs-Br, .. of the variants give the second equation
pub ready_as : (modules : List WModule) (st : Store) (now : Activation) (i v : Instr) (l : layer.Instr-F Instr) → i ≡ v
    → out-Instr v ≡ l → IsReady modules st now (out-Instr i) → IsReady modules st now l
ready_as modules st now i v l e g h = subst (IsReady modules st now) (ap out-Instr e ∙ g) h

module _ (modules : List WModule) (st : Store) (now : Activation) (i : Instr) (h : IsReady modules st now (out-Instr i))
  where
    pub ready_if : (t : Option ValueType) (body : List Instr) (otherwise : Option (List Instr))
        → i ≡ If t body otherwise
        → IsI32 now.stack
    ready_if t body otherwise e = ready_as modules st now i (If t body otherwise) (layer.If t body otherwise) e
        (outs-If t body otherwise) h

    pub ready_branch : (l : ℕ) → i ≡ Br l → CanBranch now.labels now.arity now.stack l
    ready_branch l e = ready_as modules st now i (Br l) (layer.Br l) e (outs-Br l) h

    pub ready_branch_if : (l : ℕ) → i ≡ BrIf l → CanBranchIf now.labels now.arity now.stack l
    ready_branch_if l e = ready_as modules st now i (BrIf l) (layer.BrIf l) e (outs-BrIf l) h

    pub ready_branch_table : (ls : List ℕ) (default : ℕ) → i ≡ BrTable ls default
        → CanBranchTable now.labels now.arity now.stack ls default
    ready_branch_table ls default e = ready_as modules st now i (BrTable ls default) (layer.BrTable ls default) e
        (outs-BrTable ls default) h

    pub ready_return : i ≡ Return → now.arity ≤ length now.stack
    ready_return e = ready_as modules st now i Return layer.Return e outs-Return h

    pub ready_call : (f : ℕ) → i ≡ Call f → CanCallIndex modules st now.instance now.stack f
    ready_call f e = ready_as modules st now i (Call f) (layer.Call f) e (outs-Call f) h

    pub ready_call_indirect : (t : ℕ) → i ≡ CallIndirect t → CanCallTop modules st now.instance now.stack t
    ready_call_indirect t e = ready_as modules st now i (CallIndirect t) (layer.CallIndirect t) e (outs-CallIndirect t)
        h

    pub ready_drop : i ≡ Drop → IsOne now.stack
    ready_drop e = ready_as modules st now i Drop layer.Drop e outs-Drop h

    pub ready_local_get : (x : ℕ) → i ≡ LocalGet x → x < length now.locals
    ready_local_get x e = ready_as modules st now i (LocalGet x) (layer.LocalGet x) e (outs-LocalGet x) h

    pub ready_local_set : (x : ℕ) → i ≡ LocalSet x → CanSet now.locals now.stack x
    ready_local_set x e = ready_as modules st now i (LocalSet x) (layer.LocalSet x) e (outs-LocalSet x) h

    pub ready_local_tee : (x : ℕ) → i ≡ LocalTee x → CanSet now.locals now.stack x
    ready_local_tee x e = ready_as modules st now i (LocalTee x) (layer.LocalTee x) e (outs-LocalTee x) h

    pub ready_global_get : (g : ℕ) → i ≡ GlobalGet g → IsGlobal st now.instance g
    ready_global_get g e = ready_as modules st now i (GlobalGet g) (layer.GlobalGet g) e (outs-GlobalGet g) h

    pub ready_load : (kind : Load) → i ≡ variant.Load kind → IsI32 now.stack × IsMemory st now.instance
    ready_load kind e = ready_as modules st now i (variant.Load kind) (layer.Load kind) e (outs-Load kind) h

    pub ready_store : (width : StoreWidth) → i ≡ variant.Store width → CanStore st now.instance now.stack
    ready_store width e = ready_as modules st now i (variant.Store width) (layer.Store width) e (outs-Store width) h

    pub ready_numeric : (o : Numeric) → i ≡ variant.Numeric o → AreNumbers o now.stack
    ready_numeric o e = ready_as modules st now i (variant.Numeric o) (layer.Numeric o) e (outs-Numeric o) h

-- ---- operands

-- what a pop leaves and gives is what the machine finds
pub last_is : {A : Type 0} (old new : List A) (x : A) → old ≡ new ++ x ∷ [] → split_last old ≡ Some (new, x)
last_is old new x e = ap split_last e ∙ split_last-push new x

pub i32_is : (old new : List Value) (n : ℕ) → old ≡ new ++ I32 n ∷ [] → top_i32 old ≡ Some (new, n)
i32_is old new n e = ap top_i32 e ∙ top_i32_at new n

pub i64_is : (old new : List Value) (n : ℕ) → old ≡ new ++ I64 n ∷ [] → top_i64 old ≡ Some (new, n)
i64_is old new n e = ap top_i64 e ∙ top_i64_at new n

pub one_there : (stack : List Value) → IsOne stack → (p : List Value × Value) × (split_last stack ≡ Some p)
    × (topmost stack ≡ Some p.1)
one_there stack h = ((h.0, h.1), last_is stack h.0 h.1 h.2, ap topmost h.2 ∙ topmost_at h.0 h.1)

pub i32_there : (stack : List Value) → IsI32 stack → (p : List Value × ℕ) × (top_i32 stack ≡ Some p)
i32_there stack h = ((h.0, h.1), i32_is stack h.0 h.1 h.2)

pub i64_there : (stack : List Value) → IsI64 stack → (p : List Value × ℕ) × (top_i64 stack ≡ Some p)
i64_there stack h = ((h.0, h.1), i64_is stack h.0 h.1 h.2)

-- what is known of the operands below a number and of the number is known of what is taken
pub i32_taken : (P : List Value → ℕ → Type 0) (stack below : List Value) (n : ℕ) (p : List Value × ℕ)
    → stack ≡ below ++ I32 n ∷ [] → top_i32 stack ≡ Some p → P below n → P p.0 p.1
i32_taken P stack below n p e g h = subst (λ (q : List Value × ℕ). P q.0 q.1)
    (same_Some (below, n) p (sym (i32_is stack below n e) ∙ g)) h

pub i64_taken : (P : List Value → ℕ → Type 0) (stack below : List Value) (n : ℕ) (p : List Value × ℕ)
    → stack ≡ below ++ I64 n ∷ [] → top_i64 stack ≡ Some p → P below n → P p.0 p.1
i64_taken P stack below n p e g h = subst (λ (q : List Value × ℕ). P q.0 q.1)
    (same_Some (below, n) p (sym (i64_is stack below n e) ∙ g)) h

-- two operands, one after the other: the second is taken first
pub second_i32 : (stack : List Value) → AreI32 stack → IsI32 stack
second_i32 stack h = (h.0 ++ I32 h.1 ∷ [], h.2, h.3 ∙ two h.0 (I32 h.1) (I32 h.2))

pub first_i32 : (stack rest : List Value) (n : ℕ) → AreI32 stack → top_i32 stack ≡ Some (rest, n) → IsI32 rest
first_i32 stack rest n h e = i32_taken (λ s k. IsI32 s) stack (h.0 ++ I32 h.1 ∷ []) h.2 (rest, n)
    (h.3 ∙ two h.0 (I32 h.1) (I32 h.2)) e (h.0, h.1, refl)

pub second_i64 : (stack : List Value) → AreI64 stack → IsI64 stack
second_i64 stack h = (h.0 ++ I64 h.1 ∷ [], h.2, h.3 ∙ two h.0 (I64 h.1) (I64 h.2))

pub first_i64 : (stack rest : List Value) (n : ℕ) → AreI64 stack → top_i64 stack ≡ Some (rest, n) → IsI64 rest
first_i64 stack rest n h e = i64_taken (λ s k. IsI64 s) stack (h.0 ++ I64 h.1 ∷ []) h.2 (rest, n)
    (h.3 ∙ two h.0 (I64 h.1) (I64 h.2)) e (h.0, h.1, refl)

-- a number above an address
pub number_above : (stack below : List Value) (place n : ℕ) → stack ≡ below ++ I32 place ∷ I64 n ∷ [] → IsI64 stack
number_above stack below place n e = (below ++ I32 place ∷ [], n, e ∙ two below (I32 place) (I64 n))

pub address_below : (stack below rest : List Value) (place n k : ℕ) → stack ≡ below ++ I32 place ∷ I64 n ∷ []
    → top_i64 stack ≡ Some (rest, k) → IsI32 rest
address_below stack below rest place n k e g =
    i64_taken (λ s j. IsI32 s) stack (below ++ I32 place ∷ []) n (rest, k) (e ∙ two below (I32 place) (I64 n)) g
    (below, place, refl)

-- a branch below its condition or the number of its label, and a call below its slot
pub branch_below : (labels : List Label) (arity l : ℕ) (stack below rest : List Value) (n k : ℕ)
    → stack ≡ below ++ I32 n ∷ [] → top_i32 stack ≡ Some (rest, k) → CanBranch labels arity below l
    → CanBranch labels arity rest l
branch_below labels arity l stack below rest n k e g h =
    i32_taken (λ s j. CanBranch labels arity s l) stack below n (rest, k) e g h

pub table_below : (labels : List Label) (arity default : ℕ) (ls : List ℕ) (stack below rest : List Value) (n k : ℕ)
    → stack ≡ below ++ I32 n ∷ [] → top_i32 stack ≡ Some (rest, k)
    → CanBranch labels arity below (slice_index_or ls n default)
    → CanBranch labels arity rest (slice_index_or ls k default)
table_below labels arity default ls stack below rest n k e g h =
    i32_taken (λ s j. CanBranch labels arity s (slice_index_or ls j default)) stack below n (rest, k) e g h

pub call_below : (modules : List WModule) (st : Store) (m type_index : ℕ) (stack below rest : List Value) (n k : ℕ)
    → stack ≡ below ++ I32 n ∷ [] → top_i32 stack ≡ Some (rest, k)
    → CanCallIndirect modules st m below type_index n → CanCallIndirect modules st m rest type_index k
call_below modules st m type_index stack below rest n k e g h =
    i32_taken (λ s j. CanCallIndirect modules st m s type_index j) stack below n (rest, k) e g h

-- so many operands are there
pub many_there : (n : ℕ) (stack : List Value) → n ≤ length stack
    → split_end n stack ≡ Some (take (length stack - n) stack, drop (length stack - n) stack)
many_there n stack h = rw (le-leb n (length stack) h) refl

-- ---- places in the store

pub callee_parts : (st : Store) (m f : ℕ) (c : Callee) → callee_at st m f ≡ Some c → (i : Instance) × (a : ℕ)
    × (instance_of st m ≡ Some i) × (slice_get i.functions f ≡ Some a) × (slice_get st.functions a ≡ Some c)
callee_parts st m f c e =
    let i = then_some (λ (j : Instance). option_and_then (λ (a : ℕ). slice_get st.functions a)
    (slice_get j.functions f)) (instance_of st m) c e in
    let a = then_some (λ (a : ℕ). slice_get st.functions a) (slice_get i.0.functions f) c i.2 in
    (i.0, a.0, i.1, a.1, a.2)

pub global_parts : (st : Store) (m g : ℕ) (v : Value) → global_at st m g ≡ Some v → (i : Instance) × (a : ℕ)
    × (instance_of st m ≡ Some i) × (slice_get i.globals g ≡ Some a) × (slice_get st.globals a ≡ Some v)
global_parts st m g v e =
    let i = then_some (λ (j : Instance). option_and_then (λ (a : ℕ). slice_get st.globals a) (slice_get j.globals g))
    (instance_of st m) v e in
    let a = then_some (λ (a : ℕ). slice_get st.globals a) (slice_get i.0.globals g) v i.2 in
    (i.0, a.0, i.1, a.1, a.2)

pub memory_parts : (st : Store) (m : ℕ) (p : ℕ × Memory) → memory_of st m ≡ Some p → (i : Instance)
    × (instance_of st m ≡ Some i) × (slice_get i.memories 0 ≡ Some p.0) × (slice_get st.memories p.0 ≡ Some p.1)
memory_parts st m p e =
    let i = then_some (λ (j : Instance). option_and_then
    (λ (a : ℕ). option_map (λ (memory : Memory). (a, memory)) (slice_get st.memories a)) (slice_get j.memories 0))
    (instance_of st m) p e in
    let a = then_some (λ (a : ℕ). option_map (λ (memory : Memory). (a, memory)) (slice_get st.memories a))
    (slice_get i.0.memories 0) p i.2 in
    let found = map_some (λ (memory : Memory). (a.0, memory)) (slice_get st.memories a.0) p a.2 in (
      i.0,
      i.1,
      a.1 ∙ ap (λ (q : ℕ × Memory). Some q.0) found.2,
      ap (slice_get st.memories)
          (sym (ap (λ (q : ℕ × Memory). q.0) found.2)) ∙ (found.1 ∙ ap (λ (q : ℕ × Memory). Some q.1) found.2),
    )
