-- Modules that fit and are linked give a configuration that fits.
use Rattle.std.proofs.Common.{◌≡◌, ℕ, suc, ◌+◌, ◌*◌, Bool, true, false, List, [], ◌∷◌, ◌++◌, length, take, drop, Option, Some, None, Result, Ok, Err, refl, subst, arith}
use Rattle.std.specs.Prelude.{slice_get, slice_set, All, nat_le, if◌then◌else◌}
use Rattle.std.proofs.lemmas.List.Elements.{All-nil, All-head, All-tail, All-append, All-take, All-drop, All-set, All-push, All-replicate}
use Rattle.std.proofs.lemmas.Option.{none-some, same_Some}
use Rattle.wasm_tree.specs.declared.fault.WFault.{WFault}
use Rattle.wasm_tree.specs.declared.fault.WFault.TheVariants.{SegmentOutside}
use Rattle.wasm_tree.specs.declared.kinds.TableType.{TableType}
use Rattle.wasm_tree.specs.declared.kinds.MemoryType.{MemoryType}
use Rattle.wasm_tree.specs.declared.instr.Instr.{Instr}
use Rattle.wasm_tree.specs.declared.instr.Instr.TheVariants.{GlobalGet, I32Const, I64Const, outs-I32Const, outs-I64Const}
use Rattle.wasm_tree.specs.declared.module.Global.{Global}
use Rattle.wasm_tree.specs.declared.module.Element.{Element}
use Rattle.wasm_tree.specs.declared.module.Data.{Data}
use Rattle.wasm_tree.specs.declared.module.Function.{Function}
use Rattle.wasm_tree.specs.declared.module.WModule.{WModule}
use Rattle.wasm_tree.specs.declared.store.Value.{Value}
use Rattle.wasm_tree.specs.declared.store.Value.TheVariants.{I32, I64}
use Rattle.wasm_tree.specs.declared.store.Callee.{Callee}
use Rattle.wasm_tree.specs.declared.store.Callee.TheVariants.{Put, Stop, Own}
use Rattle.wasm_tree.specs.declared.store.Table.{Table}
use Rattle.wasm_tree.specs.declared.store.Memory.{Memory}
use Rattle.wasm_tree.specs.declared.store.Store.{Store}
use Rattle.wasm_tree.specs.Format.{◌>>=◌}
use Rattle.wasm_tree.specs.Machine.{Config, Going, Typed, own_function, callee_at, enter_function, paste_items, run}
use Rattle.wasm_tree.specs.Linking.{each, Linked, with_import, with_function, with_functions, with_table, fresh_memory, with_memory, constant, value_of, with_value, with_global, offset_of, addresses, with_slots, some_address, with_element, with_bytes, with_segment, no_instance, linked_one, linked_from, host_store, run_of, start_run, start, link}
use Rattle.wasm_sound.specs.Ranges.{ValueFits, IsByte, InstrFits, CodeFits, ModuleFits, StoreFits, ActivationFits, ConfigFits}
use Rattle.wasm_sound.proofs.Lists.{at}
use Rattle.wasm_sound.proofs.Calls.{then_some}
use Rattle.wasm_sound.proofs.Growth.{ok_then, same_Ok, each_keeps}
use Rattle.wasm_sound.proofs.Fitting.{Laid, laid, first_fits, entered_fits, run_fits}

abbrev LinkedFits : Linked → Type 0
LinkedFits l = StoreFits l.store

functions_fit : (m k : ℕ) (fs : List Function) (l : Linked) → LinkedFits l → LinkedFits (with_functions m k fs l)
unfolding with_functions
functions_fit m k [] l h = h
functions_fit m k (f ∷ fs) l h = functions_fit m (suc k) fs (with_function (Own m k) l)
    (record { globals = h.globals; memories = h.memories })

-- the same numbers and bytes
same_fits : (new t : Linked) → ◌≡◌ {A = Result Linked WFault} (Ok t) (Ok new) → LinkedFits t → LinkedFits new
same_fits new t e h = subst LinkedFits (same_Ok t new e) h

table_fits : (t : TableType) (l new : Linked) → with_table t l ≡ Ok new → LinkedFits l → LinkedFits new
table_fits t l new e h = same_fits new _ e (record { globals = h.globals; memories = h.memories })

memory_fits : (t : MemoryType) (l new : Linked) → with_memory t l ≡ Ok new → LinkedFits l → LinkedFits new
memory_fits t l new e h =
    let empty : All IsByte (fresh_memory t).bytes = All-replicate IsByte (65536 * t.limits.min) 0 (omega arith) in
    same_fits new _ e (record {
      globals = h.globals;
      memories =
          All-push (λ (m : Memory). All IsByte m.bytes) l.store.memories (fresh_memory t) h.memories empty;
    })

-- ---- globals

constant_fits : (l : Linked) (i : Instr) (v : Value) → LinkedFits l → InstrFits i → constant l i ≡ Some v → ValueFits v
constant_fits l (I32Const n) v h f e = subst ValueFits (same_Some (I32 n) v e)
    (subst Laid (outs-I32Const n) (laid (I32Const n) f))
constant_fits l (I64Const n) v h f e = subst ValueFits (same_Some (I64 n) v e)
    (subst Laid (outs-I64Const n) (laid (I64Const n) f))
constant_fits l (GlobalGet g) v h f e =
    let a = then_some (λ (a : ℕ). slice_get l.store.globals a) (slice_get l.instance.globals g) v e in
    at ValueFits l.store.globals a.0 v h.globals a.2
constant_fits l _ v h f e = absurd (none-some v e)

value_fits : (l : Linked) (is : List Instr) (v : Value) → LinkedFits l → CodeFits is → value_of l is ≡ Some v
    → ValueFits v
value_fits l [] v h f e = absurd (none-some v e)
value_fits l (i ∷ []) v h f e = constant_fits l i v h (first_fits i [] f).0 e
value_fits l (i ∷ j ∷ is) v h f e = absurd (none-some v e)

global_fits : (g : Global) (l new : Linked) → CodeFits g.value → with_global g l ≡ Ok new → LinkedFits l
    → LinkedFits new
global_fits g l new f e h = go (value_of l g.value) refl e
  where
    go : (o : Option Value) → value_of l g.value ≡ o → with_value o l ≡ Ok new → LinkedFits new
    go None x y = absurd (grind arith)
    go (Some v) x y = same_fits new _ y (record {
      globals = All-push ValueFits l.store.globals v h.globals (value_fits l g.value v h f x);
      memories =
          h.memories;
    })

-- ---- segments

slots_fit : (l new : Linked) (place at : ℕ) (t : Option Table) (slots : Option (List (Option ℕ)))
    → with_slots l place at t slots ≡ Ok new → LinkedFits l → LinkedFits new
slots_fit l new place at None slots e h = absurd (grind arith)
slots_fit l new place at (Some t) None e h = absurd (grind arith)
slots_fit l new place at (Some t) (Some slots) e h = go (nat_le (at + length slots) (length t.slots)) e
  where
    go : (b : Bool) → ◌≡◌ {A = Result Linked WFault}
        (if b then Ok (record l {
          store = record l.store
              { tables = slice_set l.store.tables place (record t { slots = paste_items t.slots at slots }) };
        }) else Err
        SegmentOutside) (Ok new) → LinkedFits new
    go true g = same_fits new _ g (record { globals = h.globals; memories = h.memories })
    go false g = absurd (grind arith)

element_fits : (x : Element) (l new : Linked) → with_element x l ≡ Ok new → LinkedFits l → LinkedFits new
element_fits x l new e h =
    let at = ok_then (offset_of (value_of l x.offset))
    (λ (at : ℕ). some_address l.instance.tables x.table >>=
    λ (table : ℕ). with_slots l table at (slice_get l.store.tables table) (addresses l.instance x.functions)) new e
    in
    let table = ok_then (some_address l.instance.tables x.table)
    (λ (table : ℕ). with_slots l table at.0 (slice_get l.store.tables table) (addresses l.instance x.functions)) new
    at.2 in
    slots_fit l new table.0 at.0 (slice_get l.store.tables table.0) (addresses l.instance x.functions) table.2 h

bytes_fit : (l new : Linked) (place first : ℕ) (o : Option Memory) (bytes : List ℕ) → All IsByte bytes
    → slice_get l.store.memories place ≡ o → with_bytes l place first o bytes ≡ Ok new → LinkedFits l → LinkedFits new
bytes_fit l new place first None bytes all there e h = absurd (grind arith)
bytes_fit l new place first (Some m) bytes all there e h = go (nat_le (first + length bytes) (length m.bytes)) e
  where
    old : All IsByte m.bytes
    old = at (λ (k : Memory). All IsByte k.bytes) l.store.memories place m h.memories there

    written : All IsByte (paste_items m.bytes first bytes)
    written = All-append IsByte (take first m.bytes ++ bytes) (drop (first + length bytes) m.bytes)
        (All-append IsByte (take first m.bytes) bytes (All-take IsByte first m.bytes old) all)
        (All-drop IsByte (first + length bytes) m.bytes old)

    go : (b : Bool) → ◌≡◌ {A = Result Linked WFault}
        (if b then Ok (record l {
          store = record l.store
              { memories = slice_set l.store.memories place (record m { bytes = paste_items m.bytes first bytes }) };
        }) else
        Err SegmentOutside) (Ok new) → LinkedFits new
    go true g = same_fits new _ g (record {
      globals = h.globals;
      memories =
          All-set (λ (k : Memory). All IsByte k.bytes) l.store.memories place
          (record m { bytes = paste_items m.bytes first bytes }) written h.memories;
    })
    go false g = absurd (grind arith)

segment_fits : (x : Data) (l new : Linked) → All IsByte x.bytes → with_segment x l ≡ Ok new → LinkedFits l
    → LinkedFits new
segment_fits x l new all e h =
    let place = ok_then (offset_of (value_of l x.offset))
    (λ (at : ℕ). some_address l.instance.memories x.memory >>=
    λ (memory : ℕ). with_bytes l memory at (slice_get l.store.memories memory) x.bytes) new e in
    let memory = ok_then (some_address l.instance.memories x.memory)
    (λ (memory : ℕ). with_bytes l memory place.0 (slice_get l.store.memories memory) x.bytes) new place.2 in
    bytes_fit l new memory.0 place.0 (slice_get l.store.memories memory.0) x.bytes all refl memory.2 h

-- ---- modules

one_fits : (modules : List WModule) (m : ℕ) (tree : WModule) (st new : Store) → ModuleFits tree → StoreFits st
    → linked_one modules m tree st ≡ Ok new → StoreFits new
unfolding linked_one
one_fits modules m tree st new f h e =
    let i = ok_then (each (with_import modules st tree) tree.imports no_instance) _ new e in
    let l : Linked = record { store = st; instance = i.0 } in
    let t = ok_then (each with_table tree.tables (with_functions m 0 tree.functions l)) _ new i.2 in
    let y = ok_then (each with_memory tree.memories t.0) _ new t.2 in
    let g = ok_then (each with_global tree.globals y.0) _ new y.2 in
    let x = ok_then (each with_element tree.elements g.0) _ new g.2 in
    let d = ok_then (each with_segment tree.data x.0) _ new x.2 in
    let functions = functions_fit m 0 tree.functions l h in
    let tables = each_keeps with_table (λ k. Unit {0}) (λ done k. LinkedFits k)
    (λ done a s r u p q. table_fits a s r q p) [] tree.tables (with_functions m 0 tree.functions l) t.0
    (λ k b lt. tt) functions t.1 in
    let memories = each_keeps with_memory (λ k. Unit {0}) (λ done k. LinkedFits k)
    (λ done a s r u p q. memory_fits a s r q p) [] tree.memories t.0 y.0 (λ k b lt. tt) tables y.1 in
    let globals = each_keeps with_global (λ k. CodeFits k.value) (λ done k. LinkedFits k)
    (λ done a s r u p q. global_fits a s r u q p) [] tree.globals y.0 g.0 f.globals memories g.1 in
    let elements = each_keeps with_element (λ k. Unit {0}) (λ done k. LinkedFits k)
    (λ done a s r u p q. element_fits a s r q p) [] tree.elements g.0 x.0 (λ k b lt. tt) globals x.1 in
    let segments = each_keeps with_segment (λ k. All IsByte k.bytes) (λ done k. LinkedFits k)
    (λ done a s r u p q. segment_fits a s r u q p) [] tree.data x.0 d.0 f.segments elements d.1 in
    subst StoreFits (same_Ok _ new d.2) (record { globals = segments.globals; memories = segments.memories })

all_fit : (modules trees : List WModule) (m : ℕ) (st new : Store) → All ModuleFits trees → StoreFits st
    → linked_from modules m trees st ≡ Ok new → StoreFits new
unfolding linked_from
all_fit modules [] m st new f h e = subst StoreFits (same_Ok st new e) h
all_fit modules (tree ∷ trees) m st new f h e =
    let first = ok_then (linked_one modules m tree st) (linked_from modules (suc m) trees) new e in
    all_fit modules trees (suc m) first.0 new (All-tail ModuleFits tree trees f)
    (one_fits modules m tree st first.0 (All-head ModuleFits tree trees f) h first.1) first.2

started_fits : (modules : List WModule) (st : Store) (m f : ℕ) (o : Option Typed) (c : Config) → All ModuleFits modules
    → StoreFits st → own_function modules m f ≡ o → start_run st o m ≡ Ok c → ConfigFits c
started_fits modules st m f None c all h e s = absurd (grind arith)
started_fits modules st m f (Some t) c all h e s =
    subst ConfigFits (same_Ok (Going st (enter_function m t []) []) c s)
    (record {
      store = h;
      running = entered_fits modules m f t [] all e (All-nil ValueFits);
      waiting =
          All-nil ActivationFits;
    })

start_fits : (modules : List WModule) (st : Store) (o : Option Callee) (c : Config) → All ModuleFits modules
    → StoreFits st → start modules st o ≡ Ok c → ConfigFits c
start_fits modules st None c all h s = absurd (grind arith)
start_fits modules st (Some Put) c all h s = absurd (grind arith)
start_fits modules st (Some Stop) c all h s = absurd (grind arith)
start_fits modules st (Some (Own m f)) c all h s = started_fits modules st m f (own_function modules m f) c all h refl s

pub link_fits : (modules : List WModule) (c : Config) → All ModuleFits modules → link modules ≡ Ok c → ConfigFits c
unfolding link
link_fits modules c all e =
    let f = ok_then (run_of modules) _ c e in
    let st = ok_then (linked_from modules 0 modules host_store) _ c f.2 in
    let host : StoreFits host_store = record {
      globals = All-nil ValueFits;
      memories =
          All-nil (λ (m : Memory). All IsByte m.bytes);
    } in
    start_fits modules st.0 (callee_at st.0 0 f.0) c all (all_fit modules modules 0 host_store st.0 all host st.1) st.2

pub linked_run_fits : (modules : List WModule) (c : Config) (n : ℕ) → All ModuleFits modules → link modules ≡ Ok c
    → ConfigFits (run modules n c).0
linked_run_fits modules c n all e = run_fits modules n c all (link_fits modules c all e)
