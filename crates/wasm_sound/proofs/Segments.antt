-- Segments that are placed.
use Rattle.std.proofs.Common.{◌≡◌, ℕ, zero, suc, ◌+◌, Bool, true, false, List, [], ◌∷◌, ◌++◌, length, take, drop, Option, Some, None, Result, Ok, Err, refl, subst, arith}
use Rattle.std.specs.Prelude.{slice_get, slice_set, nat_le, if◌then◌else◌}
use Rattle.std.specs.Option.{option_map}
use Rattle.std.proofs.lemmas.Option.{none-some, same_Some}
use Rattle.wasm_tree.specs.declared.fault.WFault.{WFault}
use Rattle.wasm_tree.specs.declared.fault.WFault.TheVariants.{SegmentOutside}
use Rattle.wasm_tree.specs.declared.kinds.ValueType.{ValueType}
use Rattle.wasm_tree.specs.declared.kinds.Limits.{Limits}
use Rattle.wasm_tree.specs.declared.module.Element.{Element}
use Rattle.wasm_tree.specs.declared.module.Data.{Data}
use Rattle.wasm_tree.specs.declared.module.WModule.{WModule}
use Rattle.wasm_tree.specs.declared.store.Callee.{Callee}
use Rattle.wasm_tree.specs.declared.store.Table.{Table}
use Rattle.wasm_tree.specs.declared.store.Memory.{Memory}
use Rattle.wasm_tree.specs.declared.store.Store.{Store}
use Rattle.wasm_tree.specs.Format.{◌>>=◌}
use Rattle.wasm_tree.specs.Machine.{paste_items}
use Rattle.wasm_tree.specs.Linking.{Linked, value_of, offset_of, addresses, with_slots, some_address, with_element, with_bytes, with_segment}
use Rattle.wasm_sound.specs.Sound.{IsFunctionAt}
use Rattle.wasm_sound.proofs.Lists.{pair_back}
use Rattle.wasm_sound.proofs.Scenes.{set_there}
use Rattle.wasm_sound.proofs.Calls.{then_some}
use Rattle.wasm_sound.proofs.Growth.{ok_then, same_Ok, Grows, part_grows, instances_grow}
use Rattle.wasm_sound.proofs.Additions.{IsPartial}

-- ---- what holds at each index

abbrev EachAt : {A : Type 0} → (A → Type 0) → List A → Type 0
EachAt {A} P xs = (k : ℕ) (x : A) → slice_get xs k ≡ Some x → P x

each_at-cons : {A : Type 0} (P : A → Type 0) (x : A) (xs : List A) → P x → EachAt P xs → EachAt P (x ∷ xs)
each_at-cons P x xs p h zero y e = subst P (same_Some x y e) p
each_at-cons P x xs p h (suc k) y e = h k y e

each_at-append : {A : Type 0} (P : A → Type 0) (xs ys : List A) → EachAt P xs → EachAt P ys → EachAt P (xs ++ ys)
each_at-append P [] ys h g k y e = g k y e
each_at-append P (x ∷ xs) ys h g zero y e = h zero y e
each_at-append P (x ∷ xs) ys h g (suc k) y e = each_at-append P xs ys (λ j z q. h (suc j) z q) g k y e

each_at-take : {A : Type 0} (P : A → Type 0) (n : ℕ) (xs : List A) → EachAt P xs → EachAt P (take n xs)
each_at-take P zero xs h k y e = absurd (none-some y e)
each_at-take P (suc n) [] h k y e = absurd (none-some y e)
each_at-take P (suc n) (x ∷ xs) h zero y e = h zero y e
each_at-take P (suc n) (x ∷ xs) h (suc k) y e = each_at-take P n xs (λ j z q. h (suc j) z q) k y e

each_at-drop : {A : Type 0} (P : A → Type 0) (n : ℕ) (xs : List A) → EachAt P xs → EachAt P (drop n xs)
each_at-drop P zero xs h = h
each_at-drop P (suc n) [] h = h
each_at-drop P (suc n) (x ∷ xs) h = each_at-drop P n xs (λ j z q. h (suc j) z q)

each_at-pasted : {A : Type 0} (P : A → Type 0) (xs : List A) (place : ℕ) (ys : List A) → EachAt P xs → EachAt P ys
    → EachAt P (paste_items xs place ys)
each_at-pasted P xs place ys h g =
    each_at-append P (take place xs ++ ys) (drop (place + length ys) xs)
    (each_at-append P (take place xs) ys (each_at-take P place xs h) g) (each_at-drop P (place + length ys) xs h)

each_at-set : {A : Type 0} (P : A → Type 0) (xs : List A) (j : ℕ) (x : A) → EachAt P xs → P x
    → EachAt P (slice_set xs j x)
each_at-set P [] j x h p k y e = h k y e
each_at-set P (w ∷ xs) zero x h p zero y e = subst P (same_Some x y e) p
each_at-set P (w ∷ xs) zero x h p (suc k) y e = h (suc k) y e
each_at-set P (w ∷ xs) (suc j) x h p zero y e = h zero y e
each_at-set P (w ∷ xs) (suc j) x h p (suc k) y e = each_at-set P xs j x (λ i z q. h (suc i) z q) p k y e

-- ---- functions in slots

-- a slot that is filled has the address of a function
abbrev IsFilled : Store → Option ℕ → Type 0
IsFilled st None = Unit {0}
IsFilled st (Some f) = (c : Callee) × (slice_get st.functions f ≡ Some c)

pub map_some : {A B : Type 0} (f : A → B) (o : Option A) (y : B) → option_map f o ≡ Some y → (x : A) × (o ≡ Some x)
    × (f x ≡ y)
map_some f None y e = absurd (none-some y e)
map_some f (Some x) y e = (x, refl, same_Some (f x) y e)

module _ (modules linked : List WModule) (tree : WModule) (fs : List ℕ) (ts ms : List Limits) (gs : List ValueType)
    (l : Linked) (h : IsPartial modules linked tree fs ts ms gs l) where
  addressed : (is : List ℕ) (slots : List (Option ℕ)) → addresses l.instance is ≡ Some slots
      → EachAt (IsFilled l.store) slots
  addressed [] slots e = subst (EachAt (IsFilled l.store)) (same_Some [] slots e) (λ k x q. absurd (none-some x q))
  addressed (i ∷ is) slots e =
      let a = then_some (λ (b : ℕ). option_map (λ (rest : List (Option ℕ)). Some b ∷ rest) (addresses l.instance is))
      (slice_get l.instance.functions i) slots e in
      let rest = map_some (λ (r : List (Option ℕ)). Some a.0 ∷ r) (addresses l.instance is) slots a.2 in
      let found = pair_back (IsFunctionAt modules l.store tree) fs l.instance.functions i a.0 h.part.functions a.1 in
      subst (EachAt (IsFilled l.store)) rest.2
      (each_at-cons (IsFilled l.store) (Some a.0) rest.0 (found.2.2.0, found.2.2.1) (addressed is rest.0 rest.1))

  -- slots of a table are filled
  slots_placed : (place : ℕ) (t : Table) (slots : List (Option ℕ)) → slice_get l.store.tables place ≡ Some t
      → EachAt (IsFilled l.store) slots
      → (at : ℕ) → IsPartial modules linked tree fs ts ms gs
      (record l {
        store = record l.store {
          tables =
              slice_set l.store.tables place (record t { slots = paste_items t.slots at slots });
        };
      })
  slots_placed place t slots there filled at =
      let old = l.store in
      let table : Table = record t { slots = paste_items t.slots at slots } in
      let new : Store = record old { tables = slice_set old.tables place table } in
      let grows : Grows old new = record {
        functions = λ a d x. x;
        tables = λ k a x. set_there old.tables place a x.0 table x.1;
        memories = λ k a x. x;
        globals = λ k a x. x;
      } in
      let whole : EachAt (λ (k : Table). EachAt (IsFilled old) k.slots) new.tables =
      each_at-set (λ (k : Table). EachAt (IsFilled old) k.slots) old.tables place table (λ a k x. all_filled a k x)
      (each_at-pasted (IsFilled old) t.slots at slots (all_filled place t there) filled) in
      record {
        store = record {
          instances = instances_grow modules linked old new grows refl h.store.instances;
          functions = h.store.functions;
          slots = λ a k slot f x y. whole a k x slot (Some f) y;
        };
        part = part_grows modules old new tree fs ts ms gs l.instance grows h.part;
      }
    where
      all_filled : (a : ℕ) (k : Table) → slice_get l.store.tables a ≡ Some k → EachAt (IsFilled l.store) k.slots
      all_filled a k x slot None y = tt
      all_filled a k x slot (Some f) y = h.store.slots a k slot f x y

  with_slots_kept : (place at : ℕ) (t : Option Table) (slots : Option (List (Option ℕ))) (new : Linked)
      → slice_get l.store.tables place ≡ t →
      ((filled : List (Option ℕ)) → slots ≡ Some filled → EachAt (IsFilled l.store) filled)
      → with_slots l place at t slots ≡ Ok new → IsPartial modules linked tree fs ts ms gs new
  with_slots_kept place at None slots new there all e = absurd (grind arith)
  with_slots_kept place at (Some t) None new there all e = absurd (grind arith)
  with_slots_kept place at (Some t) (Some slots) new there all e = go (nat_le (at + length slots) (length t.slots)) e
    where
      go : (b : Bool) → ◌≡◌ {A = Result Linked WFault}
          (if b then Ok (record l {
            store = record l.store
                { tables = slice_set l.store.tables place (record t { slots = paste_items t.slots at slots }) };
          }) else Err
          SegmentOutside) (Ok new) → IsPartial modules linked tree fs ts ms gs new
      go true g = subst (IsPartial modules linked tree fs ts ms gs) (same_Ok _ new g)
          (slots_placed place t slots there (all slots refl) at)
      go false g = absurd (grind arith)

  pub element_placed : (x : Element) (new : Linked) → with_element x l ≡ Ok new
      → IsPartial modules linked tree fs ts ms gs new
  element_placed x new e =
      let at = ok_then (offset_of (value_of l x.offset))
      (λ (at : ℕ). some_address l.instance.tables x.table >>=
      λ (table : ℕ). with_slots l table at (slice_get l.store.tables table) (addresses l.instance x.functions)) new
      e in
      let table = ok_then (some_address l.instance.tables x.table)
      (λ (table : ℕ). with_slots l table at.0 (slice_get l.store.tables table) (addresses l.instance x.functions))
      new at.2 in
      with_slots_kept table.0 at.0 (slice_get l.store.tables table.0) (addresses l.instance x.functions) new refl
      (addressed x.functions) table.2

  -- bytes of a memory are written
  bytes_placed : (place : ℕ) (m : Memory) (bytes : List ℕ)
      → IsPartial modules linked tree fs ts ms gs
      (record l { store = record l.store { memories = slice_set l.store.memories place (record m { bytes = bytes }) } })
  bytes_placed place m bytes =
      let old = l.store in
      let memory : Memory = record m { bytes = bytes } in
      let new : Store = record old { memories = slice_set old.memories place memory } in
      let grows : Grows old new = record {
        functions = λ a d x. x;
        tables = λ k a x. x;
        memories = λ k a x. set_there old.memories place a x.0 memory x.1;
        globals = λ k a x. x;
      } in
      record {
        store = record {
          instances = instances_grow modules linked old new grows refl h.store.instances;
          functions =
              h.store.functions;
          slots = h.store.slots;
        };
        part = part_grows modules old new tree fs ts ms gs l.instance grows h.part;
      }

  with_bytes_kept : (place at : ℕ) (m : Option Memory) (bytes : List ℕ) (new : Linked)
      → with_bytes l place at m bytes ≡ Ok new → IsPartial modules linked tree fs ts ms gs new
  with_bytes_kept place at None bytes new e = absurd (grind arith)
  with_bytes_kept place at (Some m) bytes new e = go (nat_le (at + length bytes) (length m.bytes)) e
    where
      go : (b : Bool) → ◌≡◌ {A = Result Linked WFault}
          (if b then Ok (record l {
            store = record l.store
                { memories = slice_set l.store.memories place (record m { bytes = paste_items m.bytes at bytes }) };
          }) else
          Err SegmentOutside) (Ok new) → IsPartial modules linked tree fs ts ms gs new
      go true g = subst (IsPartial modules linked tree fs ts ms gs) (same_Ok _ new g)
          (bytes_placed place m (paste_items m.bytes at bytes))
      go false g = absurd (grind arith)

  pub segment_placed : (x : Data) (new : Linked) → with_segment x l ≡ Ok new
      → IsPartial modules linked tree fs ts ms gs new
  segment_placed x new e =
      let at = ok_then (offset_of (value_of l x.offset))
      (λ (at : ℕ). some_address l.instance.memories x.memory >>=
      λ (memory : ℕ). with_bytes l memory at (slice_get l.store.memories memory) x.bytes) new e in
      let memory = ok_then (some_address l.instance.memories x.memory)
      (λ (memory : ℕ). with_bytes l memory at.0 (slice_get l.store.memories memory) x.bytes) new at.2 in
      with_bytes_kept memory.0 at.0 (slice_get l.store.memories memory.0) x.bytes new memory.2
