-- Valid modules that are linked give a configuration that is well typed.
use Rattle.std.proofs.Common.{◌≡◌, ℕ, zero, suc, Bool, true, false, List, [], ◌∷◌, ◌++◌, length, map, Option, Some, None, Result, Ok, Err, refl, sym, ap, ap₂, subst, ◌∙◌, append_assoc, arith}
use Rattle.std.specs.Prelude.{slice_get, All, if◌then◌else◌}
use Rattle.std.specs.List.{filter_map}
use Rattle.std.specs.Option.{option_and_then}
use Rattle.std.proofs.lemmas.List.{append-nil, map_push, length_push}
use Rattle.std.proofs.lemmas.List.Elements.{All-head, All-tail}
use Rattle.std.proofs.lemmas.Option.{none-some, same_Some}
use Rattle.wasm_tree.specs.declared.fault.WFault.{WFault}
use Rattle.wasm_tree.specs.declared.fault.WFault.TheVariants.{Unlinked}
use Rattle.wasm_tree.specs.declared.kinds.ValueType.{ValueType}
use Rattle.wasm_tree.specs.declared.kinds.FuncType.{FuncType}
use Rattle.wasm_tree.specs.declared.kinds.Limits.{Limits}
use Rattle.wasm_tree.specs.declared.kinds.TableType.{TableType}
use Rattle.wasm_tree.specs.declared.kinds.MemoryType.{MemoryType}
use Rattle.wasm_tree.specs.declared.module.ExportKind.{ExportKind}
use Rattle.wasm_tree.specs.declared.module.ExportKind.TheVariants as exported
use Rattle.wasm_tree.specs.declared.module.Global.{Global}
use Rattle.wasm_tree.specs.declared.module.Function.{Function}
use Rattle.wasm_tree.specs.declared.module.WModule.{WModule}
use Rattle.wasm_tree.specs.declared.store.Callee.{Callee}
use Rattle.wasm_tree.specs.declared.store.Callee.TheVariants.{Put, Stop, Own}
use Rattle.wasm_tree.specs.declared.store.Instance.{Instance}
use Rattle.wasm_tree.specs.declared.store.Store.{Store}
use Rattle.wasm_tree.specs.Validity.{context, initial_context, function_import, table_import, memory_import, global_import, IsFunction, IsGlobal, IsValid}
use Rattle.wasm_tree.specs.Machine.{Config, Going, run, Typed, own_function, callee_type, callee_at, host_type, enter_function}
use Rattle.wasm_tree.specs.Linking.{each, Linked, with_import, with_function, with_functions, with_table, with_memory, with_global, with_element, with_segment, no_instance, linked_one, linked_from, host_store, run_name, export_named, is_plain, run_index, run_of, start_run, start, link}
use Rattle.wasm_sound.specs.Sound.{Pairwise, IsFunctionAt, IsInstance, IsStore, IsSound}
use Rattle.wasm_sound.proofs.Lists.{at, same_at, pair_at, pairs_imply, pairs_push}
use Rattle.wasm_sound.proofs.Calls.{same_type, then_some, some_then, entered_typed}
use Rattle.wasm_sound.proofs.Growth.{ok_then, same_Ok, each_keeps, get_front, get_seam, Grows, instance_grows, whole_instance}
use Rattle.wasm_sound.proofs.Imports.{Imported, imports_answered}
use Rattle.wasm_sound.proofs.Additions.{IsPartial, function_added, table_added, memory_added, global_added}
use Rattle.wasm_sound.proofs.Soundness.{run_is_sound}
use Rattle.wasm_sound.proofs.Segments.{element_placed, segment_placed}

-- one more behind those that were mapped
more : {X Y : Type 0} (f : X → Y) (before : List Y) (done : List X) (x : X)
    → before ++ map f done ++ f x ∷ [] ≡ before ++ map f (done ++ x ∷ [])
more {X} {Y} f before done x = append_assoc before (map f done) (f x ∷ [])
    ∙ ap (λ (l : List Y). before ++ l) (sym (map_push f done x))

module _ (modules linked : List WModule) (m : ℕ) (tree : WModule) (valid : IsValid tree)
    (is_at : slice_get modules m ≡ Some tree) where
  abbrev fs : List ℕ
  fs = filter_map function_import tree.imports

  abbrev ts : List Limits
  ts = filter_map table_import tree.imports

  abbrev ms : List Limits
  ms = filter_map memory_import tree.imports

  abbrev gs : List ValueType
  gs = filter_map global_import tree.imports

  own_type : (k : ℕ) (f : Function) (t : FuncType) → slice_get tree.functions k ≡ Some f
      → slice_get tree.types f.type_index ≡ Some t → callee_type modules (Own m k) ≡ Some t
  own_type k f t e g =
      some_then (λ (u : Typed). Some u.type) (own_function modules m k) (record { type = t; function = f }) t
      (some_then (λ (w : WModule). option_and_then
      (λ (h : Function). option_and_then (λ (u : FuncType). Some (record { type = u; function = h }))
      (slice_get w.types h.type_index)) (slice_get w.functions k)) (slice_get modules m) tree
      (record { type = t; function = f }) is_at
      (some_then (λ (h : Function). option_and_then (λ (u : FuncType). Some (record { type = u; function = h }))
      (slice_get tree.types h.type_index)) (slice_get tree.functions k) f (record { type = t; function = f }) e
      (some_then (λ (u : FuncType). Some (record { type = u; function = f })) (slice_get tree.types f.type_index) t
      (record { type = t; function = f }) g refl))) refl

  -- its functions, of which those were added
  functions_kept : (tss mss : List Limits) (gss : List ValueType) (before : List ℕ) (done rest : List Function) (k : ℕ)
      (l : Linked) → tree.functions ≡ done ++ rest → k ≡ length done
      → IsPartial modules linked tree (before ++ map (λ (f : Function). f.type_index) done) tss mss gss l
      → IsPartial modules linked tree (before ++ map (λ (f : Function). f.type_index) (done ++ rest)) tss mss gss
      (with_functions m k rest l)
  unfolding with_functions
  functions_kept tss mss gss before done [] k l e n h =
      subst (λ (d : List Function). IsPartial modules linked tree (before ++ map (λ (f : Function). f.type_index) d) tss
      mss gss l) (sym (append-nil done)) h
  functions_kept tss mss gss before done (f ∷ rest) k l e n h =
      let there : slice_get tree.functions k ≡ Some f = ap₂ (λ (xs : List Function) (j : ℕ). slice_get xs j) e n
      ∙ get_seam done f rest in
      let is = at (IsFunction (context tree)) tree.functions k f valid.bodies.functions there in
      let one = function_added modules linked tree (before ++ map (λ (g : Function). g.type_index) done) tss mss gss l h
      (Own m k) f.type_index is.0 is.1 (own_type k f is.0 there is.1) in
      let grown = subst (λ (x : List ℕ). IsPartial modules linked tree x tss mss gss (with_function (Own m k) l))
      (more (λ (g : Function). g.type_index) before done f) one in
      let count : suc k ≡ length (done ++ f ∷ []) = omega (arith, n, length_push done f) in
      subst (λ (d : List Function). IsPartial modules linked tree (before ++ map (λ (g : Function). g.type_index) d) tss
      mss gss (with_functions m k (f ∷ rest) l)) (append_assoc done (f ∷ []) rest)
      (functions_kept tss mss gss before (done ++ f ∷ []) rest (suc k) (with_function (Own m k) l)
      (e ∙ sym (append_assoc done (f ∷ []) rest)) count grown)

  abbrev all_fs : List ℕ
  all_fs = fs ++ map (λ (f : Function). f.type_index) tree.functions

  abbrev all_ts : List Limits
  all_ts = ts ++ map (λ (t : TableType). t.limits) tree.tables

  abbrev all_ms : List Limits
  all_ms = ms ++ map (λ (t : MemoryType). t.limits) tree.memories

  abbrev all_gs : List ValueType
  all_gs = gs ++ map (λ (g : Global). g.value_type) tree.globals

  functions_done : (st : Store) (i : Instance) → IsStore modules linked st → Imported modules st tree tree.imports i
      → IsPartial modules linked tree all_fs ts ms gs
      (with_functions m 0 tree.functions (record { store = st; instance = i }))
  functions_done st i h p =
      let start : IsPartial modules linked tree (fs ++ []) ts ms gs (record { store = st; instance = i }) = record {
        store = h;
        part = record {
          functions = subst (λ (x : List ℕ). Pairwise (IsFunctionAt modules st tree) x i.functions)
              (sym (append-nil fs)) p.functions;
          tables = p.tables;
          memories = p.memories;
          globals = p.globals;
        };
      } in
      functions_kept ts ms gs fs [] tree.functions 0 (record { store = st; instance = i }) refl refl start

  tables_done : (l new : Linked) → IsPartial modules linked tree all_fs ts ms gs l
      → each with_table tree.tables l ≡ Ok new → IsPartial modules linked tree all_fs all_ts ms gs new
  tables_done l new h e =
      each_keeps with_table (λ t. Unit {0}) (λ done k. IsPartial modules linked tree all_fs
      (ts ++ map (λ (t : TableType). t.limits) done) ms gs k)
      (λ done t k n all p q. subst (λ (x : List Limits). IsPartial modules linked tree all_fs x ms gs n)
      (more (λ (u : TableType). u.limits) ts done t)
      (table_added modules linked tree all_fs (ts ++ map (λ (u : TableType). u.limits) done) ms gs k p t n q))
      [] tree.tables l new (λ k d lt. tt) (subst (λ (x : List Limits). IsPartial modules linked tree all_fs x ms gs l)
      (sym (append-nil ts)) h) e

  memories_done : (l new : Linked) → IsPartial modules linked tree all_fs all_ts ms gs l
      → each with_memory tree.memories l ≡ Ok new → IsPartial modules linked tree all_fs all_ts all_ms gs new
  memories_done l new h e =
      each_keeps with_memory (λ t. Unit {0})
      (λ done k. IsPartial modules linked tree all_fs all_ts (ms ++ map (λ (t : MemoryType). t.limits) done) gs k)
      (λ done t k n all p q. subst (λ (x : List Limits). IsPartial modules linked tree all_fs all_ts x gs n)
      (more (λ (u : MemoryType). u.limits) ms done t)
      (memory_added modules linked tree all_fs all_ts (ms ++ map (λ (u : MemoryType). u.limits) done) gs k p t n q))
      [] tree.memories l new (λ k d lt. tt) (subst
      (λ (x : List Limits). IsPartial modules linked tree all_fs all_ts x gs l) (sym (append-nil ms)) h) e

  globals_done : (l new : Linked) → IsPartial modules linked tree all_fs all_ts all_ms gs l
      → each with_global tree.globals l ≡ Ok new → IsPartial modules linked tree all_fs all_ts all_ms all_gs new
  globals_done l new h e =
      each_keeps with_global (IsGlobal (initial_context tree))
      (λ done k. IsPartial modules linked tree all_fs all_ts all_ms (gs ++ map (λ (g : Global). g.value_type) done)
      k)
      (λ done g k n is p q. subst (λ (x : List ValueType). IsPartial modules linked tree all_fs all_ts all_ms x n)
      (more (λ (u : Global). u.value_type) gs done g)
      (global_added modules linked tree all_fs all_ts all_ms (gs ++ map (λ (u : Global). u.value_type) done) k p
      (initial_context tree) g n is (λ x u y. get_front gs (map (λ (w : Global). w.value_type) done) x u y) q))
      [] tree.globals l new valid.globals (subst
      (λ (x : List ValueType). IsPartial modules linked tree all_fs all_ts all_ms x l) (sym (append-nil gs)) h) e

  elements_done : (l new : Linked) → IsPartial modules linked tree all_fs all_ts all_ms all_gs l
      → each with_element tree.elements l ≡ Ok new → IsPartial modules linked tree all_fs all_ts all_ms all_gs new
  elements_done l new h e =
      each_keeps with_element (λ x. Unit {0}) (λ done k. IsPartial modules linked tree all_fs all_ts all_ms all_gs k)
      (λ done x k n all p q. element_placed modules linked tree all_fs all_ts all_ms all_gs k p x n q) [] tree.elements
      l new (λ k d lt. tt) h e

  segments_done : (l new : Linked) → IsPartial modules linked tree all_fs all_ts all_ms all_gs l
      → each with_segment tree.data l ≡ Ok new → IsPartial modules linked tree all_fs all_ts all_ms all_gs new
  segments_done l new h e =
      each_keeps with_segment (λ x. Unit {0}) (λ done k. IsPartial modules linked tree all_fs all_ts all_ms all_gs k)
      (λ done x k n all p q. segment_placed modules linked tree all_fs all_ts all_ms all_gs k p x n q) [] tree.data l
      new (λ k d lt. tt) h e

  -- the module is there whole
  instance_added : (l : Linked) → IsPartial modules linked tree all_fs all_ts all_ms all_gs l
      → IsStore modules (linked ++ tree ∷ []) (record l.store { instances = l.store.instances ++ l.instance ∷ [] })
  instance_added l h =
      let old = l.store in
      let new : Store = record old { instances = old.instances ++ l.instance ∷ [] } in
      let whole = whole_instance modules old tree l.instance h.part in
      let grows : Grows old new = record {
        functions = λ a d x. x;
        tables = λ k a x. x;
        memories = λ k a x. x;
        globals =
            λ k a x. x;
      } in
      record {
        instances =
            pairs_imply (IsInstance modules old) (IsInstance modules new) (linked ++ tree ∷ [])
            (old.instances ++ l.instance ∷ []) (λ t i k. instance_grows modules old new t i grows k)
            (pairs_push (IsInstance modules old) linked old.instances tree l.instance h.store.instances whole);
        functions = h.store.functions;
        slots = h.store.slots;
      }

  one_linked : (st new : Store) → IsStore modules linked st → linked_one modules m tree st ≡ Ok new
      → IsStore modules (linked ++ tree ∷ []) new
  unfolding linked_one
  one_linked st new h e =
      let i = ok_then (each (with_import modules st tree) tree.imports no_instance) _ new e in
      let t = ok_then (each with_table tree.tables
      (with_functions m 0 tree.functions (record { store = st; instance = i.0 }))) _ new i.2 in
      let y = ok_then (each with_memory tree.memories t.0) _ new t.2 in
      let g = ok_then (each with_global tree.globals y.0) _ new y.2 in
      let x = ok_then (each with_element tree.elements g.0) _ new g.2 in
      let d = ok_then (each with_segment tree.data x.0) _ new x.2 in
      let first = functions_done st i.0 h (imports_answered modules st tree i.0 i.1) in
      let second = memories_done t.0 y.0 (tables_done
      (with_functions m 0 tree.functions (record { store = st; instance = i.0 })) t.0 first t.1) y.1 in
      let third = segments_done x.0 d.0 (elements_done g.0 x.0 (globals_done y.0 g.0 second g.1) x.1) d.1 in
      subst (IsStore modules (linked ++ tree ∷ [])) (same_Ok _ new d.2) (instance_added d.0 third)

-- ---- all modules

modules_linked : (modules linked trees : List WModule) (m : ℕ) (st new : Store) → All IsValid trees
    → modules ≡ linked ++ trees → m ≡ length linked → IsStore modules linked st
    → linked_from modules m trees st ≡ Ok new → IsStore modules modules new
unfolding linked_from
modules_linked modules linked [] m st new valid e n h g =
    subst (IsStore modules modules) (same_Ok st new g)
    (subst (λ (l : List WModule). IsStore modules l st) (sym (e ∙ append-nil linked)) h)
modules_linked modules linked (tree ∷ trees) m st new valid e n h g =
    let first = ok_then (linked_one modules m tree st) (linked_from modules (suc m) trees) new g in
    let there : slice_get modules m ≡ Some tree = ap₂ (λ (xs : List WModule) (j : ℕ). slice_get xs j) e n
    ∙ get_seam linked tree trees in
    let next = one_linked modules linked m tree (All-head IsValid tree trees valid) there st first.0 h first.1 in
    let count : suc m ≡ length (linked ++ tree ∷ []) = omega (arith, n, length_push linked tree) in
    modules_linked modules (linked ++ tree ∷ []) trees (suc m) first.0 new (All-tail IsValid tree trees valid)
    (e ∙ sym (append_assoc linked (tree ∷ []) trees)) count next first.2

host_functions : (modules : List WModule) (a : ℕ) (c : Callee) → slice_get (Put ∷ Stop ∷ []) a ≡ Some c → (t : FuncType)
    × (callee_type modules c ≡ Some t)
host_functions modules zero c e = (host_type, ap (callee_type modules) (sym (same_Some Put c e)))
host_functions modules (suc zero) c e = (host_type, ap (callee_type modules) (sym (same_Some Stop c e)))
host_functions modules (suc (suc a)) c e = absurd (none-some c e)

host_is_store : (modules : List WModule) → IsStore modules [] host_store
host_is_store modules = record {
  instances = tt;
  functions = host_functions modules;
  slots =
      λ a t slot f e g. absurd (none-some t e);
}

-- ---- the run

abbrev plain : FuncType
plain = record { params = []; results = [] }

plain_there : (o : Option FuncType) → is_plain o ≡ true → o ≡ Some plain
plain_there None e = absurd (grind arith)
plain_there (Some t) e = ap (λ (u : FuncType). Some u) (same_type t plain e)

-- the function that is run has neither parameters nor results
run_typed : (tree : WModule) (k : Option ExportKind) (f : ℕ) → run_index tree k ≡ Ok f → (x : ℕ)
    × (slice_get (context tree).functions f ≡ Some x) × (slice_get tree.types x ≡ Some plain)
run_typed tree None f e = absurd (grind arith)
run_typed tree (Some (exported.Function g)) f e =
    go (is_plain (option_and_then (λ t. slice_get tree.types t) (slice_get (context tree).functions g))) refl e
  where
    go : (b : Bool) → is_plain (option_and_then (λ t. slice_get tree.types t) (slice_get (context tree).functions g))
        ≡ b → ◌≡◌ {A = Result ℕ WFault} (if b then Ok g else Err Unlinked) (Ok f) → (x : ℕ)
        × (slice_get (context tree).functions f ≡ Some x) × (slice_get tree.types x ≡ Some plain)
    go true is q =
        let found = then_some (λ (t : ℕ). slice_get tree.types t) (slice_get (context tree).functions g) plain
        (plain_there (option_and_then (λ t. slice_get tree.types t) (slice_get (context tree).functions g)) is) in
        (found.0, ap (slice_get (context tree).functions) (sym (same_Ok g f q)) ∙ found.1, found.2)
    go false is q = absurd (grind arith)
run_typed tree (Some (exported.Table g)) f e = absurd (grind arith)
run_typed tree (Some (exported.Memory g)) f e = absurd (grind arith)
run_typed tree (Some (exported.Global g)) f e = absurd (grind arith)

run_of_typed : (modules : List WModule) (f : ℕ) → run_of modules ≡ Ok f → (tree : WModule) × (x : ℕ)
    × (slice_get modules 0 ≡ Some tree) × (slice_get (context tree).functions f ≡ Some x)
    × (slice_get tree.types x ≡ Some plain)
run_of_typed [] f e = absurd (grind arith)
run_of_typed (tree ∷ trees) f e = let r = run_typed tree (export_named run_name tree.exports) f e in
    (tree, r.0, refl, r.1, r.2)

module _ (modules : List WModule) (valid : All IsValid modules) (st : Store) (h : IsStore modules modules st) where
  started_sound : (m f : ℕ) (o : Option Typed) (c : Config) → own_function modules m f ≡ o
      → callee_type modules (Own m f) ≡ Some plain → start_run st o m ≡ Ok c → IsSound modules c
  started_sound m f None c e g s = absurd (grind arith)
  started_sound m f (Some t) c e g s =
      let found = then_some (λ (u : Typed). Some u.type) (own_function modules m f) plain g in
      let same : found.0 ≡ t = same_at (own_function modules m f) found.0 t found.1 e in
      let type : t.type ≡ plain = ap (λ (u : Typed). u.type) (sym same) ∙ same_Some found.0.type plain found.2 in
      subst (IsSound modules) (same_Ok (Going st (enter_function m t []) []) c s) (record {
        store = h;
        first = t.type.results;
        returns = t.type.results;
        waiting = refl;
        running = entered_typed modules m f t [] valid e (ap (λ (u : FuncType). u.params) (sym type));
      })

  start_sound : (o : Option Callee) (k : Callee) (c : Config) → o ≡ Some k → callee_type modules k ≡ Some plain
      → start modules st o ≡ Ok c → IsSound modules c
  start_sound None k c e g s = absurd (none-some k e)
  start_sound (Some Put) k c e g s = absurd (grind arith)
  start_sound (Some Stop) k c e g s = absurd (grind arith)
  start_sound (Some (Own m f)) k c e g s =
      started_sound m f (own_function modules m f) c refl (ap (callee_type modules) (same_Some (Own m f) k e) ∙ g) s

  run_sound : (tree : WModule) (x f : ℕ) (c : Config) → slice_get modules 0 ≡ Some tree
      → slice_get (context tree).functions f ≡ Some x → slice_get tree.types x ≡ Some plain
      → start modules st (callee_at st 0 f) ≡ Ok c → IsSound modules c
  run_sound tree x f c e g t s =
      let i = pair_at (IsInstance modules st) modules st.instances 0 tree h.instances e in
      let found = pair_at (IsFunctionAt modules st tree) (context tree).functions i.0.functions f x i.2.functions g in
      let type : found.2.0 ≡ plain = same_at (slice_get tree.types x) found.2.0 plain found.2.1 t in
      let k = found.2.2 in
      let there : callee_at st 0 f ≡ Some k.0 =
      some_then (λ (j : Instance). option_and_then (λ (b : ℕ). slice_get st.functions b) (slice_get j.functions f))
      (slice_get st.instances 0) i.0 k.0 i.1
      (some_then (λ (b : ℕ). slice_get st.functions b) (slice_get i.0.functions f) found.0 k.0 found.1 k.1) in
      start_sound (callee_at st 0 f) k.0 c there (k.2 ∙ ap (λ (u : FuncType). Some u) type) s

-- valid modules that are linked begin well typed
pub link_is_sound : (modules : List WModule) (c : Config) → All IsValid modules → link modules ≡ Ok c
    → IsSound modules c
unfolding link
link_is_sound modules c valid e =
    let f = ok_then (run_of modules) _ c e in
    let st = ok_then (linked_from modules 0 modules host_store) _ c f.2 in
    let h = modules_linked modules [] modules 0 host_store st.0 valid refl refl (host_is_store modules) st.1 in
    let r = run_of_typed modules f.0 f.1 in
    run_sound modules valid st.0 h r.0 r.1 f.0 c r.2 r.3 r.4 st.2

-- and stay so
pub linked_run_is_sound : (modules : List WModule) (c : Config) (n : ℕ) → All IsValid modules → link modules ≡ Ok c
    → IsSound modules (run modules n c).0
linked_run_is_sound modules c n valid e = run_is_sound modules n c valid (link_is_sound modules c valid e)
