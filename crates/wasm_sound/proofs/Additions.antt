-- What a module adds to the store.
use Rattle.std.proofs.Common.{◌≡◌, ℕ, zero, suc, List, [], ◌∷◌, ◌++◌, length, replicate, Option, Some, None, Ok, refl, sym, ap, subst, ◌∙◌, arith}
use Rattle.std.specs.Prelude.{slice_get}
use Rattle.std.proofs.lemmas.Option.{none-some, same_Some}
use Rattle.wasm_tree.specs.declared.kinds.ValueType.{ValueType}
use Rattle.wasm_tree.specs.declared.kinds.ValueType.TheVariants as types
use Rattle.wasm_tree.specs.declared.kinds.FuncType.{FuncType}
use Rattle.wasm_tree.specs.declared.kinds.Limits.{Limits}
use Rattle.wasm_tree.specs.declared.kinds.TableType.{TableType}
use Rattle.wasm_tree.specs.declared.kinds.MemoryType.{MemoryType}
use Rattle.wasm_tree.specs.declared.instr.Instr.{Instr, out-Instr}
use Rattle.wasm_tree.specs.declared.instr.Instr.TheVariants.{GlobalGet, I32Const, I64Const, outs-GlobalGet, outs-I32Const, outs-I64Const}
use Rattle.wasm_tree.specs.declared.instr.Instr.TheOpen as layer
use Rattle.wasm_tree.specs.declared.module.Global.{Global}
use Rattle.wasm_tree.specs.declared.module.WModule.{WModule}
use Rattle.wasm_tree.specs.declared.store.Value.{Value}
use Rattle.wasm_tree.specs.declared.store.Value.TheVariants.{I32, I64}
use Rattle.wasm_tree.specs.declared.store.Callee.{Callee}
use Rattle.wasm_tree.specs.declared.store.Table.{Table}
use Rattle.wasm_tree.specs.declared.store.Store.{Store}
use Rattle.wasm_tree.specs.Validity.{Context, Types, Leads, IsConstantOf}
use Rattle.wasm_tree.specs.Machine.{callee_type}
use Rattle.wasm_tree.specs.Linking.{Linked, with_function, fresh_table, with_table, fresh_memory, with_memory, constant, value_of, with_value, with_global, type_of}
use Rattle.wasm_sound.specs.Sound.{IsFunctionAt, IsTableAt, IsMemoryAt, IsGlobalAt, IsStore}
use Rattle.wasm_sound.proofs.Lists.{same_at, pair_at, pairs_push}
use Rattle.wasm_sound.proofs.Rules.{Layered, layered, no_code, first_of}
use Rattle.wasm_sound.proofs.Calls.{some_then}
use Rattle.wasm_sound.proofs.Growth.{same_Ok, get_front, get_seam, found_in_push, Grows, IsPart, part_grows, instances_grow}

-- a module of which these parts were added
pub record IsPartial (modules linked : List WModule) (tree : WModule) (fs : List ℕ) (ts ms : List Limits)
    (gs : List ValueType) (l : Linked) : Type 0 where
  pub store : IsStore modules linked l.store
  pub part : IsPart modules l.store tree fs ts ms gs l.instance

no_below : (below p : List ValueType) → [] ≡ below ++ p → below ≡ []
no_below [] p e = refl
no_below (x ∷ below) p e = absurd (grind arith)

-- an instruction by itself that gives one value
single : (c : Context) (i : Instr) (t : ValueType) → Leads c (i ∷ []) [] (t ∷ []) → (p r : List ValueType)
    × Types c i p r × (r ≡ t ∷ [])
single c i t h =
    let f = first_of c i [] [] (t ∷ []) h in (
      f.1,
      f.2,
      f.4,
      ap (λ (l : List ValueType). l ++ f.2) (sym (no_below f.0 f.1 f.3))
          ∙ no_code c (f.0 ++ f.2) (t ∷ []) f.5,
    )

layered_as : (c : Context) (i : Instr) (l : layer.Instr-F Instr) (p r : List ValueType) → out-Instr i ≡ l
    → Types c i p r → Layered c l p r
layered_as c i l p r e h = subst (λ (x : layer.Instr-F Instr). Layered c x p r) e (layered c i p r h)

same_head : (t u : ValueType) (v : Value) → type_of v ≡ t → t ∷ [] ≡ u ∷ [] → type_of v ≡ u
same_head t u v e g = cc

module _ (modules linked : List WModule) (tree : WModule) (fs : List ℕ) (ts ms : List Limits) (gs : List ValueType)
    (l : Linked) (h : IsPartial modules linked tree fs ts ms gs l) where
  -- ---- a function

  pub function_added : (c : Callee) (i : ℕ) (t : FuncType) → slice_get tree.types i ≡ Some t
      → callee_type modules c ≡ Some t → IsPartial modules linked tree (fs ++ i ∷ []) ts ms gs (with_function c l)
  function_added c i t e g =
      let old = l.store in
      let new : Store = record old { functions = old.functions ++ c ∷ [] } in
      let grows : Grows old new = record {
        functions = λ a d x. get_front old.functions (c ∷ []) a d x;
        tables = λ k a x. x;
        memories = λ k a x. x;
        globals = λ k a x. x;
      } in
      let part = part_grows modules old new tree fs ts ms gs l.instance grows h.part in
      record {
        store = record {
          instances = instances_grow modules linked old new grows refl h.store.instances;
          functions = found_in_push (λ d. (u : FuncType) × (callee_type modules d ≡ Some u)) old.functions c
              h.store.functions (t, g);
          slots = λ a table slot f x y.
              let d = h.store.slots a table slot f x y in
              (d.0, get_front old.functions (c ∷ []) f d.0 d.1);
        };
        part = record {
          functions = pairs_push (IsFunctionAt modules new tree) fs l.instance.functions i (length old.functions)
              part.functions (t, e, (c, get_seam old.functions c [], g));
          tables = part.tables;
          memories = part.memories;
          globals = part.globals;
        };
      }

  -- ---- a table

  no_slot : (n slot f : ℕ) → slice_get (replicate n None) slot ≡ Some (Some f) → ⊥
  no_slot zero slot f e = none-some (Some f) e
  no_slot (suc n) zero f e = none-some f (same_Some None (Some f) e)
  no_slot (suc n) (suc slot) f e = no_slot n slot f e

  fresh_slots : (n slot f : ℕ) → slice_get (replicate n None) slot ≡ Some (Some f) → (c : Callee)
      × (slice_get l.store.functions f ≡ Some c)
  fresh_slots n slot f e = absurd (no_slot n slot f e)

  table_pushed : (t : TableType) → IsPartial modules linked tree fs (ts ++ t.limits ∷ []) ms gs (record {
    store = record l.store { tables = l.store.tables ++ fresh_table t ∷ [] };
    instance = record l.instance { tables = l.instance.tables ++ length l.store.tables ∷ [] };
  })
  table_pushed t =
      let old = l.store in
      let new : Store = record old { tables = old.tables ++ fresh_table t ∷ [] } in
      let grows : Grows old new = record {
        functions = λ a d x. x;
        tables = λ k a x. (x.0, get_front old.tables (fresh_table t ∷ []) a x.0 x.1);
        memories = λ k a x. x;
        globals = λ k a x. x;
      } in
      let part = part_grows modules old new tree fs ts ms gs l.instance grows h.part in
      record {
        store = record {
          instances = instances_grow modules linked old new grows refl h.store.instances;
          functions = h.store.functions;
          slots = λ a table slot f x y.
              found_in_push (λ (k : Table). (s g : ℕ) → slice_get k.slots s ≡ Some (Some g) → (c : Callee)
              × (slice_get old.functions g ≡ Some c)) old.tables (fresh_table t)
              (λ b k z s g w. h.store.slots b k s g z w) (fresh_slots t.limits.min) a table x slot f y;
        };
        part = record {
          functions = part.functions;
          tables = pairs_push (IsTableAt new) ts l.instance.tables t.limits (length old.tables) part.tables
              (fresh_table t, get_seam old.tables (fresh_table t) []);
          memories = part.memories;
          globals = part.globals;
        };
      }

  pub table_added : (t : TableType) (new : Linked) → with_table t l ≡ Ok new
      → IsPartial modules linked tree fs (ts ++ t.limits ∷ []) ms gs new
  table_added t new e = subst (IsPartial modules linked tree fs (ts ++ t.limits ∷ []) ms gs) (same_Ok _ new e)
      (table_pushed t)

  -- ---- a memory

  memory_pushed : (t : MemoryType) → IsPartial modules linked tree fs ts (ms ++ t.limits ∷ []) gs (record {
    store = record l.store { memories = l.store.memories ++ fresh_memory t ∷ [] };
    instance = record l.instance { memories = l.instance.memories ++ length l.store.memories ∷ [] };
  })
  memory_pushed t =
      let old = l.store in
      let new : Store = record old { memories = old.memories ++ fresh_memory t ∷ [] } in
      let grows : Grows old new = record {
        functions = λ a d x. x;
        tables = λ k a x. x;
        memories = λ k a x. (x.0, get_front old.memories (fresh_memory t ∷ []) a x.0 x.1);
        globals = λ k a x. x;
      } in
      let part = part_grows modules old new tree fs ts ms gs l.instance grows h.part in
      record {
        store = record {
          instances = instances_grow modules linked old new grows refl h.store.instances;
          functions =
              h.store.functions;
          slots = h.store.slots;
        };
        part = record {
          functions = part.functions;
          tables = part.tables;
          memories = pairs_push (IsMemoryAt new) ms l.instance.memories t.limits (length old.memories) part.memories
              (fresh_memory t, get_seam old.memories (fresh_memory t) []);
          globals = part.globals;
        };
      }

  pub memory_added : (t : MemoryType) (new : Linked) → with_memory t l ≡ Ok new
      → IsPartial modules linked tree fs ts (ms ++ t.limits ∷ []) gs new
  memory_added t new e = subst (IsPartial modules linked tree fs ts (ms ++ t.limits ∷ []) gs) (same_Ok _ new e)
      (memory_pushed t)

  -- ---- a global

  constant_typed : (c : Context) (t : ValueType) (i : Instr) (v : Value) → Leads c (i ∷ []) [] (t ∷ [])
      → ((g : ℕ) (u : ValueType) → slice_get c.globals g ≡ Some u → slice_get gs g ≡ Some u) → constant l i ≡ Some v
      → type_of v ≡ t
  constant_typed c t (I32Const n) v y known e =
      let one = single c (I32Const n) t y in
      same_head types.I32 t v (ap type_of (sym (same_Some (I32 n) v e)))
      (sym (layered_as c (I32Const n) (layer.I32Const n) one.0 one.1 (outs-I32Const n) one.2).1 ∙ one.3)
  constant_typed c t (I64Const n) v y known e =
      let one = single c (I64Const n) t y in
      same_head types.I64 t v (ap type_of (sym (same_Some (I64 n) v e)))
      (sym (layered_as c (I64Const n) (layer.I64Const n) one.0 one.1 (outs-I64Const n) one.2).1 ∙ one.3)
  constant_typed c t (GlobalGet g) v y known e =
      let one = single c (GlobalGet g) t y in
      let is = layered_as c (GlobalGet g) (layer.GlobalGet g) one.0 one.1 (outs-GlobalGet g) one.2 in
      let found = pair_at (IsGlobalAt l.store) gs l.instance.globals g is.0 h.part.globals (known g is.0 is.1) in
      let value : constant l (GlobalGet g) ≡ Some found.2.0 =
      some_then (λ (a : ℕ). slice_get l.store.globals a) (slice_get l.instance.globals g) found.0 found.2.0 found.1
      found.2.1 in
      same_head is.0 t v (ap type_of (same_at (constant l (GlobalGet g)) v found.2.0 e value) ∙ found.2.2)
      (sym is.2.1 ∙ one.3)
  constant_typed c t _ v y known e = absurd (none-some v e)

  -- the value of a constant expression has its type
  pub value_typed : (c : Context) (t : ValueType) (is : List Instr) (v : Value) → Leads c is [] (t ∷ [])
      → ((g : ℕ) (u : ValueType) → slice_get c.globals g ≡ Some u → slice_get gs g ≡ Some u) → value_of l is ≡ Some v
      → type_of v ≡ t
  value_typed c t [] v y known e = absurd (none-some v e)
  value_typed c t (i ∷ []) v y known e = constant_typed c t i v y known e
  value_typed c t (i ∷ j ∷ is) v y known e = absurd (none-some v e)

  global_pushed : (v : Value) (t : ValueType) → type_of v ≡ t
      → IsPartial modules linked tree fs ts ms (gs ++ t ∷ []) (record {
        store = record l.store { globals = l.store.globals ++ v ∷ [] };
        instance = record l.instance { globals = l.instance.globals ++ length l.store.globals ∷ [] };
      })
  global_pushed v t e =
      let old = l.store in
      let new : Store = record old { globals = old.globals ++ v ∷ [] } in
      let grows : Grows old new = record {
        functions = λ a d x. x;
        tables = λ k a x. x;
        memories = λ k a x. x;
        globals = λ k a x. (x.0, get_front old.globals (v ∷ []) a x.0 x.1, x.2);
      } in
      let part = part_grows modules old new tree fs ts ms gs l.instance grows h.part in
      record {
        store = record {
          instances = instances_grow modules linked old new grows refl h.store.instances;
          functions =
              h.store.functions;
          slots = h.store.slots;
        };
        part = record {
          functions = part.functions;
          tables = part.tables;
          memories = part.memories;
          globals = pairs_push (IsGlobalAt new) gs l.instance.globals t (length old.globals) part.globals
              (v, get_seam old.globals v [], e);
        };
      }

  pub global_added : (c : Context) (g : Global) (new : Linked) → IsConstantOf c g.value_type g.value
      → ((x : ℕ) (u : ValueType) → slice_get c.globals x ≡ Some u → slice_get gs x ≡ Some u) → with_global g l ≡ Ok new
      → IsPartial modules linked tree fs ts ms (gs ++ g.value_type ∷ []) new
  global_added c g new is known e = go (value_of l g.value) refl e
    where
      go : (o : Option Value) → value_of l g.value ≡ o → with_value o l ≡ Ok new
          → IsPartial modules linked tree fs ts ms (gs ++ g.value_type ∷ []) new
      go None x y = absurd (grind arith)
      go (Some v) x y = subst (IsPartial modules linked tree fs ts ms (gs ++ g.value_type ∷ [])) (same_Ok _ new y)
          (global_pushed v g.value_type (value_typed c g.value_type g.value v is.typed known x))
