-- What is ready, for code that makes no test of it.
use Rattle.std.proofs.Math.Logic.{∥∥₁_map, ∥∥₁_elim}
use Rattle.std.proofs.Common.{◌≡◌, ℕ, zero, suc, ◌+◌, ◌-◌, ◌<◌, ◌≤◌, List, [], ◌∷◌, take, length, true, Option, Some, None, refl, sym, ap, subst, ◌∙◌, arith}
use Rattle.std.specs.Prelude.{slice_get, slice_index_or}
use Rattle.std.specs.Option.{option_and_then}
use Rattle.std.specs.Coded.{Coded-set, coded_bool}
use Rattle.std.proofs.lemmas.List.{take_all, length_push}
use Rattle.std.proofs.lemmas.Option.{same_Some, slice_get_within}
use Rattle.wasm_tree.specs.declared.kinds.FuncType.{FuncType}
use Rattle.wasm_tree.specs.declared.module.WModule.{WModule}
use Rattle.wasm_tree.specs.declared.store.Value.{Value}
use Rattle.wasm_tree.specs.declared.store.Callee.{Callee}
use Rattle.wasm_tree.specs.declared.store.Callee.TheVariants.{Own}
use Rattle.wasm_tree.specs.declared.store.Table.{Table}
use Rattle.wasm_tree.specs.declared.store.Instance.{Instance}
use Rattle.wasm_tree.specs.declared.store.Store.{Store}
use Rattle.wasm_tree.specs.Machine.{Label, Activation, Typed, split_last, top_i32, top_i64, instance_of, callee_at, callee_in, function_in_slot, memory_of, own_function, type_at, callee_type, is_same_type, agree}
use Rattle.wasm_sound.specs.Ready.{IsI32, IsI64, AreI32, AreI64, AreKept, CanBranch, CanBranchIf, CanBranchTable, CanCall, CanCallIndex, CanCallSlot, CanCallIndirect, CanCallTop, CanStore, CanSet, IsOne, IsReadyToEnd}
use Rattle.wasm_sound.proofs.Uses.{second_i32, first_i32, second_i64, first_i64, number_above, address_below, branch_below, table_below, call_below}
use Rattle.wasm_sound.proofs.Calls.{then_some}
use Rattle.wasm_machine.specs.There.{is_there, IsThere, HasSlots}
use Rattle.wasm_operands.proofs.Merely.{to_le, to_less}

pub some_there : {A : Type 0} (o : Option A) (x : A) → o ≡ Some x → IsThere o
some_there o x e = ap is_there e

pub there_by : {A X : Type 0} (o : Option X) → (A → (x : X) × (o ≡ Some x)) → ∥ A ∥₁ → IsThere o
there_by o f t = ∥∥₁_elim t (Coded-set coded_bool (is_there o) true) (λ a. some_there o (f a).0 (f a).1)

there_before : {A B : Type 0} (f : A → Option B) (o : Option A) → IsThere (option_and_then f o) → IsThere o
there_before f None h = h
there_before f (Some x) h = refl

-- what is there stands at a place of the list
pub there_within : {A : Type 0} (xs : List A) (k : ℕ) → IsThere (slice_get xs k) → k < length xs
there_within [] k h = absurd cc
there_within (x ∷ xs) zero h = omega arith
there_within (x ∷ xs) (suc k) h = let g = there_within xs k h in omega (arith, g)

pub to_there : {A X : Type 0} (o : Option X) → (A → IsThere o) → ∥ A ∥₁ → IsThere o
to_there o f t = ∥∥₁_elim t (Coded-set coded_bool (is_there o) true) f

-- ---- operands

pub topmost_i32 : (stack : List Value) → ∥ AreI32 stack ∥₁ → ∥ IsI32 stack ∥₁
topmost_i32 stack h = ∥∥₁_map h (second_i32 stack)

pub lower_i32 : (stack rest : List Value) (n : ℕ) → ∥ AreI32 stack ∥₁ → top_i32 stack ≡ Some (rest, n) → ∥ IsI32 rest ∥₁
lower_i32 stack rest n h e = ∥∥₁_map h (λ a. first_i32 stack rest n a e)

pub topmost_i64 : (stack : List Value) → ∥ AreI64 stack ∥₁ → ∥ IsI64 stack ∥₁
topmost_i64 stack h = ∥∥₁_map h (second_i64 stack)

pub lower_i64 : (stack rest : List Value) (n : ℕ) → ∥ AreI64 stack ∥₁ → top_i64 stack ≡ Some (rest, n) → ∥ IsI64 rest ∥₁
lower_i64 stack rest n h e = ∥∥₁_map h (λ a. first_i64 stack rest n a e)

pub number_on_top : (st : Store) (m : ℕ) (stack : List Value) → ∥ CanStore st m stack ∥₁ → ∥ IsI64 stack ∥₁
number_on_top st m stack h = ∥∥₁_map h (λ a. number_above stack a.0 a.1 a.2 a.3)

pub address_under : (st : Store) (m : ℕ) (stack rest : List Value) (n : ℕ) → ∥ CanStore st m stack ∥₁
    → top_i64 stack ≡ Some (rest, n) → ∥ IsI32 rest ∥₁
address_under st m stack rest n h e = ∥∥₁_map h (λ a. address_below stack a.0 rest a.1 a.2 n a.3 e)

pub memory_to_store : (st : Store) (m : ℕ) (stack : List Value) → ∥ CanStore st m stack ∥₁ → IsThere (memory_of st m)
memory_to_store st m stack h = there_by (memory_of st m) (λ a. a.4) h

pub one_less : (stack : List Value) → ∥ IsOne stack ∥₁ → 0 < length stack
one_less stack h = to_less 0 (length stack) (λ (p : IsOne stack). omega (arith, ap length p.2, length_push p.0 p.1)) h

-- ---- branches

module _ (labels : List Label) (arity : ℕ) (stack : List Value) (l : ℕ) (h : ∥ CanBranch labels arity stack l ∥₁) where
  pub label_within : l ≤ length labels
  label_within = to_le l (length labels) (λ (a : CanBranch labels arity stack l). a.0) h

  pub results_there : None ≡ split_last (take (length labels - l) labels) → arity ≤ length stack
  results_there e = to_le arity (length stack)
      (λ (a : CanBranch labels arity stack l). subst (AreKept arity stack) (sym e) a.1) h

  pub kept_there : (others : List Label) (label : Label)
      → Some (others, label) ≡ split_last (take (length labels - l) labels) → label.height + label.arity ≤ length stack
  kept_there others label e = to_le (label.height + label.arity) (length stack)
      (λ (a : CanBranch labels arity stack l). subst (AreKept arity stack) (sym e) a.1) h

pub condition_there : (labels : List Label) (arity l : ℕ) (stack : List Value) → ∥ CanBranchIf labels arity stack l ∥₁
    → ∥ IsI32 stack ∥₁
condition_there labels arity l stack h = ∥∥₁_map h (λ a. (a.0, a.1, a.2))

pub under_condition : (labels : List Label) (arity l : ℕ) (stack rest : List Value) (n : ℕ)
    → ∥ CanBranchIf labels arity stack l ∥₁ → top_i32 stack ≡ Some (rest, n) → ∥ CanBranch labels arity rest l ∥₁
under_condition labels arity l stack rest n h e =
    ∥∥₁_map h (λ a. branch_below labels arity l stack a.0 rest a.1 n a.2 e a.3)

pub choice_there : (labels : List Label) (arity default : ℕ) (ls : List ℕ) (stack : List Value)
    → ∥ CanBranchTable labels arity stack ls default ∥₁ → ∥ IsI32 stack ∥₁
choice_there labels arity default ls stack h = ∥∥₁_map h (λ a. (a.0, a.1, a.2))

pub under_choice : (labels : List Label) (arity default : ℕ) (ls : List ℕ) (stack rest : List Value) (n l : ℕ)
    → ∥ CanBranchTable labels arity stack ls default ∥₁ → top_i32 stack ≡ Some (rest, n)
    → l ≡ slice_index_or ls n default
    → ∥ CanBranch labels arity rest l ∥₁
under_choice labels arity default ls stack rest n l h e is =
    ∥∥₁_map h (λ a. subst (CanBranch labels arity rest) (sym is)
    (table_below labels arity default ls stack a.0 rest a.1 n a.2 e a.3))

pub results_at_end : (now : Activation) → ∥ IsReadyToEnd now (split_last now.labels) ∥₁
    → None ≡ split_last (take (length now.labels - 0) now.labels) → now.arity ≤ length now.stack
results_at_end now h e =
    let whole : take (length now.labels - 0) now.labels ≡ now.labels =
    take_all (length now.labels - 0) now.labels (omega arith) in
    to_le now.arity (length now.stack) (λ a. omega (arith, subst (IsReadyToEnd now) (sym (e ∙ ap split_last whole)) a))
    h

-- ---- calls

pub callee_there : (modules : List WModule) (st : Store) (m f : ℕ) (stack : List Value)
    → ∥ CanCallIndex modules st m stack f ∥₁ → IsThere (callee_at st m f)
callee_there modules st m f stack h = there_by (callee_at st m f) (λ a. (a.0, a.1)) h

pub callee_ready : (modules : List WModule) (st : Store) (m f : ℕ) (stack : List Value) (c : Callee)
    → ∥ CanCallIndex modules st m stack f ∥₁ → callee_at st m f ≡ Some c → ∥ CanCall modules stack c ∥₁
callee_ready modules st m f stack c h e =
    ∥∥₁_map h (λ a. subst (CanCall modules stack) (same_Some a.0 c (sym a.1 ∙ e)) a.2)

pub function_there : (modules : List WModule) (m f : ℕ) (stack : List Value) → ∥ CanCall modules stack (Own m f) ∥₁
    → IsThere (own_function modules m f)
function_there modules m f stack h = there_by (own_function modules m f) (λ a. (a.0, a.1)) h

pub params_there : (modules : List WModule) (m f : ℕ) (stack : List Value) (t : Typed)
    → ∥ CanCall modules stack (Own m f) ∥₁ → own_function modules m f ≡ Some t → length t.type.params ≤ length stack
params_there modules m f stack t h e =
    to_le (length t.type.params) (length stack)
    (λ (a : CanCall modules stack (Own m f)). subst (λ (u : Typed). length u.type.params ≤ length stack)
    (same_Some a.0 t (sym a.1 ∙ e)) a.2) h

pub slot_there : (modules : List WModule) (st : Store) (m index : ℕ) (stack : List Value)
    → ∥ CanCallTop modules st m stack index ∥₁ → ∥ IsI32 stack ∥₁
slot_there modules st m index stack h = ∥∥₁_map h (λ a. (a.0, a.1, a.2))

pub under_slot : (modules : List WModule) (st : Store) (m index : ℕ) (stack rest : List Value) (slot : ℕ)
    → ∥ CanCallTop modules st m stack index ∥₁ → top_i32 stack ≡ Some (rest, slot)
    → ∥ CanCallIndirect modules st m rest index slot ∥₁
under_slot modules st m index stack rest slot h e =
    ∥∥₁_map h (λ a. call_below modules st m index stack a.0 rest a.1 slot a.2 e a.3)

module _ (modules : List WModule) (st : Store) (m index : ℕ) (stack : List Value) (slot : ℕ) where
  slots : CanCallIndirect modules st m stack index slot → HasSlots st m slot
  slots h = (h.1, h.2, h.3, h.5, h.6, h.7, λ a f. some_there (slice_get st.functions a) (h.8 a f).0 (h.8 a f).2)

  pub slots_there : ∥ CanCallIndirect modules st m stack index slot ∥₁ → ∥ HasSlots st m slot ∥₁
  slots_there h = ∥∥₁_map h slots

  type_is : CanCallIndirect modules st m stack index slot → (t : FuncType) × (type_at modules m index ≡ Some t)
  type_is h = (h.0, h.4)

  pub type_there : ∥ CanCallIndirect modules st m stack index slot ∥₁ → IsThere (type_at modules m index)
  type_there h = there_by (type_at modules m index) type_is h

filled_by : (o : Option (Option ℕ)) (a : ℕ) → function_in_slot o ≡ Some a → o ≡ Some (Some a)
filled_by None a e = absurd (grind arith)
filled_by (Some x) a e = ap (λ (y : Option ℕ). Some y) e

in_slot : (st : Store) (m slot : ℕ) (c : Callee) (i : Instance) (place : ℕ) (table : Table) → instance_of st m ≡ Some i
    → slice_get i.tables 0 ≡ Some place → slice_get st.tables place ≡ Some table → callee_in st m slot ≡ Some c
    → (a : ℕ) × (slice_get table.slots slot ≡ Some (Some a)) × (slice_get st.functions a ≡ Some c)
in_slot st m slot c i place table e g k is =
    let j = then_some (λ (i : Instance). option_and_then
    (λ t. option_and_then (λ (table : Table). option_and_then (λ a. slice_get st.functions a)
    (function_in_slot (slice_get table.slots slot))) (slice_get st.tables t)) (slice_get i.tables 0))
    (instance_of st m) c is in
    let p = then_some (λ (t : ℕ). option_and_then
    (λ (table : Table). option_and_then (λ a. slice_get st.functions a)
    (function_in_slot (slice_get table.slots slot))) (slice_get st.tables t)) (slice_get j.0.tables 0) c j.2 in
    let q = then_some (λ (table : Table). option_and_then (λ a. slice_get st.functions a)
    (function_in_slot (slice_get table.slots slot))) (slice_get st.tables p.0) c p.2 in
    let a = then_some (λ (a : ℕ). slice_get st.functions a) (function_in_slot (slice_get q.0.slots slot)) c q.2 in
    let same_i : j.0 ≡ i = same_Some j.0 i (sym j.1 ∙ e) in
    let same_p : p.0 ≡ place = same_Some p.0 place (sym p.1 ∙ (ap (λ (x : Instance). slice_get x.tables 0) same_i ∙ g))
    in
    let same_t : q.0 ≡ table = same_Some q.0 table (sym q.1 ∙ (ap (slice_get st.tables) same_p ∙ k)) in
    (a.0, ap (λ (x : Table). slice_get x.slots slot) (sym same_t) ∙ filled_by (slice_get q.0.slots slot) a.0 a.1, a.2)

agreed : (modules : List WModule) (stack : List Value) (asked t : FuncType) (a : ℕ) (st : Store) (c : Callee)
    → CanCallSlot modules st stack asked a → slice_get st.functions a ≡ Some c → asked ≡ t
    → agree (Some t) (callee_type modules c) ≡ true → CanCall modules stack c
agreed modules stack asked t a st c h is same agrees =
    let one : h.0 ≡ c = same_Some h.0 c (sym h.2 ∙ is) in
    let type : callee_type modules c ≡ Some h.1 = ap (callee_type modules) (sym one) ∙ h.3 in
    let equal : is_same_type asked h.1 ≡ true = ap (λ (v : FuncType). is_same_type v h.1) same
    ∙ (ap (agree (Some t)) (sym type) ∙ agrees) in
    subst (CanCall modules stack) one (h.4 equal)

pub call_agreed : (modules : List WModule) (st : Store) (m index : ℕ) (stack : List Value) (slot : ℕ) (c : Callee)
    (t : FuncType) → ∥ CanCallIndirect modules st m stack index slot ∥₁ → callee_in st m slot ≡ Some c
    → type_at modules m index ≡ Some t
    → agree (Some t) (callee_type modules c) ≡ true → ∥ CanCall modules stack c ∥₁
call_agreed modules st m index stack slot c t h is type agrees = ∥∥₁_map h go
  where
    go : CanCallIndirect modules st m stack index slot → CanCall modules stack c
    go k =
        let a = in_slot st m slot c k.1 k.2 k.3 k.5 k.6 k.7 is in
        agreed modules stack k.0 t a.0 st c (k.8 a.0 a.1) a.2 (same_Some k.0 t (sym k.4 ∙ type)) agrees

-- the function in a slot that is filled has a type
pub called_there : (modules : List WModule) (st : Store) (m index : ℕ) (stack : List Value) (slot : ℕ) (c : Callee)
    → ∥ CanCallIndirect modules st m stack index slot ∥₁ → callee_in st m slot ≡ Some c
    → IsThere (callee_type modules c)
called_there modules st m index stack slot c h is = there_by (callee_type modules c) go h
  where
    go : CanCallIndirect modules st m stack index slot → (t : FuncType) × (callee_type modules c ≡ Some t)
    go k =
        let a = in_slot st m slot c k.1 k.2 k.3 k.5 k.6 k.7 is in
        let b = k.8 a.0 a.1 in
        (b.1, ap (callee_type modules) (same_Some c b.0 (sym a.2 ∙ b.2)) ∙ b.3)

-- a function that has a type is there
pub typed_there : (modules : List WModule) (m f : ℕ) → IsThere (callee_type modules (Own m f))
    → IsThere (own_function modules m f)
typed_there modules m f h = there_before (λ (t : Typed). Some t.type) (own_function modules m f) h

-- ---- slots

module _ (st : Store) (m slot : ℕ) (h : ∥ HasSlots st m slot ∥₁) where
  pub instance_there : IsThere (instance_of st m)
  instance_there = to_there (instance_of st m) (λ (a : HasSlots st m slot). some_there (instance_of st m) a.0 a.3) h

  module _ (i : Instance) (e : instance_of st m ≡ Some i) where
    pub table_there : IsThere (slice_get i.tables 0)
    table_there =
        to_there (slice_get i.tables 0) (λ (a : HasSlots st m slot). some_there (slice_get i.tables 0) a.1
        (ap (λ (j : Instance). slice_get j.tables 0) (same_Some i a.0 (sym e ∙ a.3)) ∙ a.4)) h

    module _ (p : ℕ) (g : slice_get i.tables 0 ≡ Some p) where
      same_place : (a : HasSlots st m slot) → p ≡ a.1
      same_place a = same_Some p a.1 (sym g ∙
          (ap (λ (j : Instance). slice_get j.tables 0) (same_Some i a.0 (sym e ∙ a.3)) ∙ a.4))

      pub place_there : IsThere (slice_get st.tables p)
      place_there = to_there (slice_get st.tables p)
          (λ (a : HasSlots st m slot). some_there (slice_get st.tables p) a.2
          (ap (slice_get st.tables) (same_place a) ∙ a.5)) h

      pub filling_there : (t : Table) (f : ℕ) → slice_get st.tables p ≡ Some t → slice_get t.slots slot ≡ Some (Some f)
          → IsThere (slice_get st.functions f)
      filling_there t f k l =
          to_there (slice_get st.functions f) (λ (a : HasSlots st m slot). a.6 f
          (ap (λ (u : Table). slice_get u.slots slot)
          (sym (same_Some t a.2 (sym k ∙ (ap (slice_get st.tables) (same_place a) ∙ a.5)))) ∙ l)) h

-- ---- variables

pub set_within : (locals stack : List Value) (x : ℕ) → ∥ CanSet locals stack x ∥₁ → x < length locals
set_within locals stack x h = to_less x (length locals)
    (λ (a : CanSet locals stack x). slice_get_within locals x a.2 a.4) h

pub set_one : (locals stack : List Value) (x : ℕ) → ∥ CanSet locals stack x ∥₁ → 0 < length stack
set_one locals stack x h = to_less 0 (length stack)
    (λ (a : CanSet locals stack x). omega (arith, ap length a.3, length_push a.0 a.1)) h
