-- Imports that are answered.
use Rattle.std.proofs.Common.{◌≡◌, ℕ, Bool, true, false, List, [], ◌∷◌, ◌++◌, Option, Some, None, Result, Ok, Err, refl, sym, ap, subst, arith}
use Rattle.std.specs.Prelude.{slice_get, if◌then◌else◌}
use Rattle.std.specs.List.{filter_map, cons_option}
use Rattle.std.specs.Option.{option_and_then}
use Rattle.std.proofs.lemmas.List.{append-nil}
use Rattle.wasm_tree.specs.declared.fault.WFault.{WFault}
use Rattle.wasm_tree.specs.declared.fault.WFault.TheVariants.{Unlinked}
use Rattle.wasm_tree.specs.declared.kinds.ValueType.{ValueType}
use Rattle.wasm_tree.specs.declared.kinds.FuncType.{FuncType}
use Rattle.wasm_tree.specs.declared.kinds.Limits.{Limits}
use Rattle.wasm_tree.specs.declared.module.ImportKind.{ImportKind}
use Rattle.wasm_tree.specs.declared.module.ImportKind.TheVariants as imported
use Rattle.wasm_tree.specs.declared.module.Import.{Import}
use Rattle.wasm_tree.specs.declared.module.WModule.{WModule}
use Rattle.wasm_tree.specs.declared.store.Value.{Value}
use Rattle.wasm_tree.specs.declared.store.Callee.{Callee}
use Rattle.wasm_tree.specs.declared.store.Table.{Table}
use Rattle.wasm_tree.specs.declared.store.Memory.{Memory}
use Rattle.wasm_tree.specs.declared.store.Extern.{Extern}
use Rattle.wasm_tree.specs.declared.store.Extern.TheVariants as extern
use Rattle.wasm_tree.specs.declared.store.Instance.{Instance}
use Rattle.wasm_tree.specs.declared.store.Store.{Store}
use Rattle.wasm_tree.specs.Validity.{function_import, table_import, memory_import, global_import}
use Rattle.wasm_tree.specs.Machine.{callee_type, agree}
use Rattle.wasm_tree.specs.Linking.{each, answer, suits, import_answer, has_table, has_memory, has_type, with_extern, with_import, no_instance, type_of}
use Rattle.wasm_sound.specs.Sound.{Pairwise, IsFunctionAt, IsTableAt, IsMemoryAt, IsGlobalAt}
use Rattle.wasm_sound.proofs.Lists.{pairs_push}
use Rattle.wasm_sound.proofs.Calls.{same_type, same_value_type, then_some}
use Rattle.wasm_sound.proofs.Growth.{ok_then, same_Ok, each_keeps, filter_map-push, IsPart}

-- what is answered suits
answered_suits : (modules : List WModule) (st : Store) (tree : WModule) (x : Import) (e : Extern)
    → import_answer modules st tree x ≡ Ok e → suits modules st tree x.kind e ≡ true
answered_suits modules st tree x e h = go (answer modules st x) h
  where
    checked : (b : Bool) (f : Extern) → b ≡ suits modules st tree x.kind f
        → ◌≡◌ {A = Result Extern WFault} (if b then Ok f else Err Unlinked) (Ok e)
        → suits modules st tree x.kind e ≡ true
    checked true f is g = subst (λ (y : Extern). suits modules st tree x.kind y ≡ true) (same_Ok f e g) (sym is)
    checked false f is g = absurd (grind arith)

    go : (o : Option Extern) → ◌≡◌ {A = Result Extern WFault}
        (elim o [ None ↦ Err Unlinked | Some y ↦ if suits modules st tree x.kind y then Ok y else Err Unlinked ]) (Ok e)
        → suits modules st tree x.kind e ≡ true
    go None g = absurd (grind arith)
    go (Some f) g = checked (suits modules st tree x.kind f) f refl g

-- ---- what suits is there

agreed : (modules : List WModule) (t : Option FuncType) (u : Option FuncType) → agree t u ≡ true → (w : FuncType)
    × (t ≡ Some w) × (u ≡ Some w)
agreed modules None u e = absurd (grind arith)
agreed modules (Some t) None e = absurd (grind arith)
agreed modules (Some t) (Some u) e = (t, refl, ap (λ (w : FuncType). Some w) (sym (same_type t u e)))

function_there : (modules : List WModule) (st : Store) (tree : WModule) (t a : ℕ)
    → suits modules st tree (imported.Function t) (extern.Function a) ≡ true → IsFunctionAt modules st tree t a
function_there modules st tree t a e =
    let w = agreed modules (slice_get tree.types t)
    (option_and_then (λ c. callee_type modules c) (slice_get st.functions a)) e in
    let c = then_some (λ (c : Callee). callee_type modules c) (slice_get st.functions a) w.0 w.2 in
    (w.0, w.1, (c.0, c.1, c.2))

table_there : (l : Limits) (o : Option Table) → has_table l o ≡ true → (t : Table) × (o ≡ Some t)
table_there l None e = absurd (grind arith)
table_there l (Some t) e = (t, refl)

memory_there : (l : Limits) (o : Option Memory) → has_memory l o ≡ true → (m : Memory) × (o ≡ Some m)
memory_there l None e = absurd (grind arith)
memory_there l (Some m) e = (m, refl)

global_there : (t : ValueType) (o : Option Value) → has_type t o ≡ true → (v : Value) × (o ≡ Some v) × (type_of v ≡ t)
global_there t None e = absurd (grind arith)
global_there t (Some v) e = (v, refl, sym (same_value_type t (type_of v) e))

-- ---- one after the other

-- the parts that these imports bring
abbrev pub Imported : List WModule → Store → WModule → List Import → Instance → Type 0
Imported modules st tree done i = IsPart modules st tree (filter_map function_import done)
    (filter_map table_import done) (filter_map memory_import done) (filter_map global_import done) i

-- the parts of one import behind others
abbrev Extended : List WModule → Store → WModule → List Import → Import → Instance → Type 0
Extended modules st tree done x i =
    IsPart modules st tree (filter_map function_import done ++ filter_map function_import (x ∷ []))
    (filter_map table_import done ++ filter_map table_import (x ∷ []))
    (filter_map memory_import done ++ filter_map memory_import (x ∷ []))
    (filter_map global_import done ++ filter_map global_import (x ∷ [])) i

joined : (modules : List WModule) (st : Store) (tree : WModule) (done : List Import) (x : Import) (i : Instance)
    → Extended modules st tree done x i → Imported modules st tree (done ++ x ∷ []) i
joined modules st tree done x i h = record {
  functions = subst (λ (l : List ℕ). Pairwise (IsFunctionAt modules st tree) l i.functions)
      (sym (filter_map-push function_import done x)) h.functions;
  tables = subst (λ (l : List Limits). Pairwise (IsTableAt st) l i.tables) (sym (filter_map-push table_import done x))
      h.tables;
  memories = subst (λ (l : List Limits). Pairwise (IsMemoryAt st) l i.memories)
      (sym (filter_map-push memory_import done x)) h.memories;
  globals = subst (λ (l : List ValueType). Pairwise (IsGlobalAt st) l i.globals)
      (sym (filter_map-push global_import done x)) h.globals;
}

module _ {X A : Type 0} (f : Import → Option X) (R : X → A → Type 0) (done : List Import) (x : Import) (ys : List A)
  where
    with_one : (t : X) (b : A) → f x ≡ Some t → R t b → Pairwise R (filter_map f done) ys
        → Pairwise R (filter_map f done ++ filter_map f (x ∷ [])) (ys ++ b ∷ [])
    with_one t b e r h = subst (λ (o : Option X). Pairwise R (filter_map f done ++ cons_option o []) (ys ++ b ∷ []))
        (sym e) (pairs_push R (filter_map f done) ys t b h r)

    with_none : f x ≡ None → Pairwise R (filter_map f done) ys
        → Pairwise R (filter_map f done ++ filter_map f (x ∷ [])) ys
    with_none e h = subst (λ (o : Option X). Pairwise R (filter_map f done ++ cons_option o []) ys) (sym e)
        (subst (λ (l : List X). Pairwise R l ys) (sym (append-nil (filter_map f done))) h)

-- the import with this kind
abbrev of_kind : Import → ImportKind → Import
of_kind x k = record x { kind = k }

extended : (modules : List WModule) (st : Store) (tree : WModule) (done : List Import) (x : Import) (k : ImportKind)
    (e : Extern) (i : Instance) → suits modules st tree k e ≡ true → Imported modules st tree done i
    → Imported modules st tree (done ++ of_kind x k ∷ []) (with_extern e i)
extended modules st tree done x (imported.Function t) (extern.Function a) i s h =
    let y = of_kind x (imported.Function t) in
    joined modules st tree done y (record i { functions = i.functions ++ a ∷ [] }) (record {
      functions = with_one function_import (IsFunctionAt modules st tree) done y i.functions t a refl
          (function_there modules st tree t a s) h.functions;
      tables = with_none table_import (IsTableAt st) done y i.tables refl h.tables;
      memories = with_none memory_import (IsMemoryAt st) done y i.memories refl h.memories;
      globals = with_none global_import (IsGlobalAt st) done y i.globals refl h.globals;
    })
extended modules st tree done x (imported.Table t) (extern.Table a) i s h =
    let y = of_kind x (imported.Table t) in
    joined modules st tree done y (record i { tables = i.tables ++ a ∷ [] }) (record {
      functions = with_none function_import (IsFunctionAt modules st tree) done y i.functions refl h.functions;
      tables = with_one table_import (IsTableAt st) done y i.tables t.limits a refl
          (table_there t.limits (slice_get st.tables a) s) h.tables;
      memories = with_none memory_import (IsMemoryAt st) done y i.memories refl h.memories;
      globals = with_none global_import (IsGlobalAt st) done y i.globals refl h.globals;
    })
extended modules st tree done x (imported.Memory t) (extern.Memory a) i s h =
    let y = of_kind x (imported.Memory t) in
    joined modules st tree done y (record i { memories = i.memories ++ a ∷ [] }) (record {
      functions = with_none function_import (IsFunctionAt modules st tree) done y i.functions refl h.functions;
      tables = with_none table_import (IsTableAt st) done y i.tables refl h.tables;
      memories = with_one memory_import (IsMemoryAt st) done y i.memories t.limits a refl
          (memory_there t.limits (slice_get st.memories a) s) h.memories;
      globals = with_none global_import (IsGlobalAt st) done y i.globals refl h.globals;
    })
extended modules st tree done x (imported.Global t) (extern.Global a) i s h =
    let y = of_kind x (imported.Global t) in
    joined modules st tree done y (record i { globals = i.globals ++ a ∷ [] }) (record {
      functions = with_none function_import (IsFunctionAt modules st tree) done y i.functions refl h.functions;
      tables = with_none table_import (IsTableAt st) done y i.tables refl h.tables;
      memories = with_none memory_import (IsMemoryAt st) done y i.memories refl h.memories;
      globals = with_one global_import (IsGlobalAt st) done y i.globals t a refl
          (global_there t (slice_get st.globals a) s) h.globals;
    })
extended modules st tree done x _ _ i s h = absurd (grind arith)

one_import : (modules : List WModule) (st : Store) (tree : WModule) (done : List Import) (x : Import) (i j : Instance)
    → Unit {0} → Imported modules st tree done i → with_import modules st tree x i ≡ Ok j
    → Imported modules st tree (done ++ x ∷ []) j
one_import modules st tree done x i j all h e =
    let first = ok_then (import_answer modules st tree x) (λ (y : Extern). Ok (with_extern y i)) j e in
    subst (λ (k : Instance). Imported modules st tree (done ++ x ∷ []) k) (same_Ok (with_extern first.0 i) j first.2)
    (extended modules st tree done x x.kind first.0 i (answered_suits modules st tree x first.0 first.1) h)

pub imports_answered : (modules : List WModule) (st : Store) (tree : WModule) (i : Instance)
    → each (with_import modules st tree) tree.imports no_instance ≡ Ok i → Imported modules st tree tree.imports i
imports_answered modules st tree i e =
    each_keeps (with_import modules st tree) (λ x. Unit {0}) (Imported modules st tree) (one_import modules st tree) []
    tree.imports no_instance i (λ k d lt. tt)
    (record { functions = tt; tables = tt; memories = tt; globals = tt }) e
