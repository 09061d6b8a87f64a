-- The module link is linked, and what bodies import from it.
use Rattle.std.proofs.Common.{◌≡◌, ℕ, suc, ◌+◌, ◌*◌, ◌/◌, ◌<◌, ◌≤◌, true, leb, List, [], ◌∷◌, ◌++◌, length, map, Option, Some, None, Ok, refl, sym, ap, ◌∙◌, append_assoc, replicate, codes, arith, Result}
use Rattle.std.specs.Prelude.{All}
use Rattle.std.proofs.lemmas.Bool.{le-leb}
use Rattle.std.proofs.lemmas.List.{length-replicate, length-append, length-map, append-nil}
use Rattle.std.proofs.lemmas.List.Elements.{All-head, All-tail}
use Rattle.std.proofs.Math.Nat.{mul-div_cancel_left}
use Rattle.wasm_tree.specs.declared.fault.WFault.{WFault}
use Rattle.wasm_tree.specs.declared.module.Import.{Import}
use Rattle.wasm_tree.specs.declared.module.ImportKind.TheVariants as imported
use Rattle.wasm_tree.specs.declared.module.ExportKind.TheVariants as exported
use Rattle.wasm_tree.specs.declared.module.WModule.{WModule}
use Rattle.wasm_tree.specs.declared.store.Value.{Value}
use Rattle.wasm_tree.specs.declared.store.Value.TheVariants.{I32}
use Rattle.wasm_tree.specs.declared.store.Callee.TheVariants.{Put, Stop, Own}
use Rattle.wasm_tree.specs.declared.store.Instance.{Instance}
use Rattle.wasm_tree.specs.declared.store.Store.{Store}
use Rattle.wasm_tree.specs.Linking.{each, Linked, with_functions, with_global, with_import, with_table, with_memory, with_element, with_segment, linked_one, host_store, no_instance, export_named}
use Rattle.typed_tree.specs.declared.typed_module.TypedModule.{TypedModule}
use Rattle.layout_storage.specs.Texts.{characters, module_texts}
use Rattle.def_scheme.specs.Scheme.{constant_global, imported_globals, host_imports, base_name, text_name, tab_name, from_link, from_host, at_least_one}
use Rattle.def_scheme.specs.Modules.{slots, imports, part_of, globals_from, typed_module, typed_link}
use Rattle.law_modules.specs.Linked.{Program, names, imported_names, all, variables, values, table_slots, image, places, base_at, text_at, tab_at, own_places, imported_places, slots_in, bytes_in, store, IsAmong}
use Rattle.law_modules.proofs.Stores.{image_length, global_place, link_value, place_within, link_exports, base_found, text_found, tab_found}

-- ---- a module in steps

pub linked_by : (modules : List WModule) (m : ℕ) (tree : WModule) (st : Store) (i : Instance) (a b c d e : Linked)
    → each (with_import modules st tree) tree.imports no_instance ≡ Ok i
    → each with_table tree.tables (with_functions m 0 tree.functions (record { store = st; instance = i })) ≡ Ok a
    → each with_memory tree.memories a ≡ Ok b → each with_global tree.globals b ≡ Ok c
    → each with_element tree.elements c ≡ Ok d → each with_segment tree.data d ≡ Ok e
    → linked_one modules m tree st ≡ Ok (record e.store { instances = e.store.instances ++ e.instance ∷ [] })
unfolding linked_one
linked_by modules m tree st i a b c d e p q r s t u = rw (p, q, r, s, t, u) refl

-- ---- one step of a row

pub step_on : {X S : Type 0} (step : X → S → Result S WFault) (x : X) (xs : List X) (s t : S) (r : Result S WFault)
    → step x s ≡ Ok t → each step xs t ≡ r → each step (x ∷ xs) s ≡ r
unfolding each
step_on step x xs s t r here rest = rw here rest

pub step_none : {X S : Type 0} (step : X → S → Result S WFault) (s : S) → each step [] s ≡ Ok s
unfolding each
step_none step s = refl

-- ---- link

-- one more global of link
added : ℕ → Linked → Linked
added n l = record {
  store = record l.store { globals = l.store.globals ++ I32 n ∷ [] };
  instance = record l.instance { globals = l.instance.globals ++ length l.store.globals ∷ [] };
}

with_constant : (n : ℕ) (l : Linked) → with_global (constant_global n) l ≡ Ok (added n l)
unfolding added
with_constant n l = refl

-- the globals of modules are there
with_values : (place slot : ℕ) → Program → Linked → Linked
with_values place slot p l = record {
  store = record l.store { globals = l.store.globals ++ values place slot p };
  instance = record l.instance { globals = l.instance.globals ++ places (length l.store.globals) p };
}

module _ (place slot : ℕ) (b : TypedModule) (bs : Program) (l : Linked) where
  -- where those behind it stand
  abbrev next : ℕ
  next = place + variables b + characters (module_texts b)

  abbrev made : List Value → List ℕ → Linked
  made g i = record { store = record l.store { globals = g }; instance = record l.instance { globals = i } }

  abbrev g₀ : List Value
  g₀ = l.store.globals

  abbrev i₀ : List ℕ
  i₀ = l.instance.globals

  abbrev g₁ : List Value
  g₁ = g₀ ++ I32 place ∷ []

  abbrev g₂ : List Value
  g₂ = g₁ ++ I32 (place + variables b) ∷ []

  abbrev g₃ : List Value
  g₃ = g₂ ++ I32 slot ∷ []

  values_joined : g₃ ++ values next (slot + slots b) bs ≡ g₀ ++ values place slot (b ∷ bs)
  values_joined = append_assoc g₂ (I32 slot ∷ []) (values next (slot + slots b) bs)
      ∙ append_assoc g₁ (I32 (place + variables b) ∷ []) _ ∙ append_assoc g₀ (I32 place ∷ []) _

  first : length g₁ ≡ length g₀ + 1
  first = length-append g₀ (I32 place ∷ [])

  second : length g₂ ≡ length g₀ + 2
  second = omega (arith, length-append g₁ (I32 (place + variables b) ∷ []), first)

  third : length g₃ ≡ length g₀ + 3
  third = omega (arith, length-append g₂ (I32 slot ∷ []), second)

  -- three places behind others
  abbrev behind : (a b c d : ℕ) → List ℕ
  behind a b c d = (((i₀ ++ a ∷ []) ++ b ∷ []) ++ c ∷ []) ++ places d bs

  places_joined : behind (length g₀) (length g₁) (length g₂) (length g₃) ≡ i₀ ++ places (length g₀) (b ∷ bs)
  places_joined =
      ap (λ (n : ℕ). behind (length g₀) n (length g₂) (length g₃)) first
      ∙ ap (λ (n : ℕ). behind (length g₀) (length g₀ + 1) n (length g₃)) second
      ∙ ap (λ (n : ℕ). behind (length g₀) (length g₀ + 1) (length g₀ + 2) n) third
      ∙ append_assoc ((i₀ ++ length g₀ ∷ []) ++ (length g₀ + 1) ∷ []) ((length g₀ + 2) ∷ []) (places (length g₀ + 3) bs)
      ∙ append_assoc (i₀ ++ length g₀ ∷ []) ((length g₀ + 1) ∷ []) _ ∙ append_assoc i₀ (length g₀ ∷ []) _

  three_more : with_values next (slot + slots b) bs (added slot (added (place + variables b) (added place l)))
      ≡ with_values place slot (b ∷ bs) l
  unfolding with_values added
  three_more = ap (λ (g : List Value). made g (behind (length g₀) (length g₁) (length g₂) (length g₃))) values_joined
      ∙ ap (made (g₀ ++ values place slot (b ∷ bs))) places_joined

globals_linked : (place slot : ℕ) (p : Program) (l : Linked)
    → each with_global (globals_from place slot (map part_of p)) l ≡ Ok (with_values place slot p l)
unfolding each with_values added
globals_linked place slot [] l = sym (rw (append-nil l.store.globals, append-nil l.instance.globals) refl)
globals_linked place slot (b ∷ bs) l =
    globals_linked (place + variables b + characters (module_texts b)) (slot + slots b) bs
    (added slot (added (place + variables b) (added place l))) ∙ ap Ok (three_more place slot b bs l)

empty_slots : (n : ℕ) → replicate {A = Option ℕ} (1 + n) None ≡ None ∷ replicate n None
empty_slots n = let e : 1 + n ≡ suc n = omega arith in ap (λ (m : ℕ). replicate {A = Option ℕ} m None) e

module _ (p : Program) (pages spare : ℕ) (room : bytes_in p + spare ≡ 65536 * pages) where
  -- link, before its modules' globals
  abbrev half : List (Option ℕ) → ℕ → Linked
  half s n = record {
    store = record {
      functions = Put ∷ Stop ∷ Own 0 0 ∷ [];
      tables = record { slots = s; max = Some (1 + slots_in p) } ∷ [];
      memories = record { bytes = replicate n 0; max = Some pages } ∷ [];
      globals = I32 (65536 * pages) ∷ [];
      instances = [];
    };
    instance = record { functions = 2 ∷ []; tables = 0 ∷ []; memories = 0 ∷ []; globals = 0 ∷ [] };
  }

  pub first_linked : linked_one (all p pages) 0 (typed_link p pages) host_store ≡ Ok (store p pages spare [] p)
  unfolding linked_one each with_functions with_values
  first_linked = rw (
    globals_linked 0 1 p (half (replicate (1 + slots_in p) None) (65536 * pages)),
    empty_slots
        (slots_in p),
    room,
  ) refl

-- the memory keeps its size
bytes_are : (p rest : Program) (pages spare : ℕ) → bytes_in p + (bytes_in rest + spare) ≡ 65536 * pages
    → length (image p ++ replicate (bytes_in rest + spare) 0) ≡ 65536 * pages
bytes_are p rest pages spare room =
    let i = length-append (image p) (replicate (bytes_in rest + spare) 0) in let j = image_length p in
    let k : length (replicate {A = ℕ} (bytes_in rest + spare) 0) ≡ bytes_in rest + spare =
    length-replicate (bytes_in rest + spare) 0 in
    omega (arith, i, j, k, room)

pages_fit : (p rest : Program) (pages spare : ℕ) → 1 ≤ pages → bytes_in p + (bytes_in rest + spare) ≡ 65536 * pages
    → leb 1 (length (image p ++ replicate (bytes_in rest + spare) 0) / 65536) ≡ true
pages_fit p rest pages spare le room = rw
    (bytes_are p rest pages spare room, mul-div_cancel_left pages {n = 65536} (omega arith)) (le-leb 1 pages le)

-- ---- the imports of a body

module _ (p : Program) (pages spare : ℕ) (before rest : Program) (b : TypedModule) (le : 1 ≤ pages)
    (room : bytes_in before + (bytes_in rest + spare) ≡ 65536 * pages) where
  abbrev there : Store
  there = store p pages spare before rest

  asks : Import → Instance → Result Instance WFault
  asks = with_import (all p pages) there (typed_module b)

  gets_memory : (i : Instance) → asks (record
      { module_name = codes "link"; name = codes "memory"; kind = imported.Memory (record { limits = at_least_one }) })
      i ≡ Ok (record i { memories = i.memories ++ 0 ∷ [] })
  unfolding asks
  gets_memory i = rw (pages_fit before rest pages spare le room) refl

  gets_table : (i : Instance) → asks (record
      { module_name = codes "link"; name = codes "table"; kind = imported.Table (record { limits = at_least_one }) }) i
      ≡ Ok (record i { tables = i.tables ++ 0 ∷ [] })
  unfolding asks
  gets_table i =
      let one : leb 1 (suc (length (table_slots 3 before ++ replicate {A = Option ℕ} (slots_in rest) None))) ≡ true =
      le-leb 1 _ (omega arith) in
      rw one refl

  gets_global : (name : List ℕ) (x : ℕ) (i : Instance) → export_named name (link_exports p) ≡ Some (exported.Global x)
      → x < 1 + 3 * length p → asks (from_link name) i ≡ Ok (record i { globals = i.globals ++ x ∷ [] })
  unfolding asks
  gets_global name x i e lt = rw (e, global_place x p lt, (link_value x p pages lt).1) refl

  gets_put : (i : Instance) → asks (from_host (codes "put")) i ≡ Ok (record i { functions = i.functions ++ 0 ∷ [] })
  unfolding asks
  gets_put i = refl

  gets_stop : (i : Instance) → asks (from_host (codes "stop")) i ≡ Ok (record i { functions = i.functions ++ 1 ∷ [] })
  unfolding asks
  gets_stop i = refl

  tab_within : (name : List ℕ) → IsAmong (names p) name → tab_at p name < 1 + 3 * length p
  tab_within name e = omega (arith, place_within name (names p) e, length-map p (λ (c : TypedModule). c.name))

  base_within : (name : List ℕ) → IsAmong (names p) name → base_at p name < 1 + 3 * length p
  base_within name e = omega (arith, tab_within name e)

  text_within : (name : List ℕ) → IsAmong (names p) name → text_at p name < 1 + 3 * length p
  text_within name e = omega (arith, tab_within name e)

  gets_base : (name : List ℕ) (i : Instance) → IsAmong (names p) name
      → asks (from_link (base_name name)) i ≡ Ok (record i { globals = i.globals ++ base_at p name ∷ [] })
  gets_base name i e = gets_global (base_name name) (base_at p name) i (base_found p name e) (base_within name e)

  gets_text : (name : List ℕ) (i : Instance) → IsAmong (names p) name
      → asks (from_link (text_name name)) i ≡ Ok (record i { globals = i.globals ++ text_at p name ∷ [] })
  gets_text name i e = gets_global (text_name name) (text_at p name) i (text_found p name e) (text_within name e)

  gets_tab : (name : List ℕ) (i : Instance) → IsAmong (names p) name
      → asks (from_link (tab_name name)) i ≡ Ok (record i { globals = i.globals ++ tab_at p name ∷ [] })
  gets_tab name i e = gets_global (tab_name name) (tab_at p name) i (tab_found p name e) (tab_within name e)

  abbrev limit_found : export_named (codes "limit") (link_exports p) ≡ Some (exported.Global 0)
  limit_found = refl

  -- what is imported from other modules, in front of more
  gets_imported : (ms : List (List ℕ)) (i : Instance) (ys : List Import) (r : Result Instance WFault)
      → All (IsAmong (names p)) ms
      → each asks ys (record i { globals = i.globals ++ imported_places p ms }) ≡ r
      → each asks (imported_globals ms ++ ys) i ≡ r
  gets_imported [] i ys r among go = ap (λ (g : List ℕ). each asks ys (record i { globals = g }))
      (sym (append-nil i.globals)) ∙ go
  gets_imported (m ∷ ms) i ys r among go =
      let here : IsAmong (names p) m = All-head (IsAmong (names p)) m ms among in
      let g₁ : List ℕ = i.globals ++ base_at p m ∷ [] in
      let g₂ : List ℕ = g₁ ++ tab_at p m ∷ [] in
      let joined : g₂ ++ imported_places p ms ≡ i.globals ++ imported_places p (m ∷ ms) =
      append_assoc g₁ (tab_at p m ∷ []) (imported_places p ms) ∙ append_assoc i.globals (base_at p m ∷ []) _ in
      let on : each asks (imported_globals ms ++ ys) (record i { globals = g₂ }) ≡ r =
      gets_imported ms (record i { globals = g₂ }) ys r (All-tail (IsAmong (names p)) m ms among)
      (ap (λ (g : List ℕ). each asks ys (record i { globals = g })) joined ∙ go)
      in
      step_on asks (from_link (base_name m)) (from_link (tab_name m) ∷ (imported_globals ms ++ ys)) i
      (record i { globals = g₁ }) r (gets_base m i here)
      (step_on asks (from_link (tab_name m)) (imported_globals ms ++ ys) (record i { globals = g₁ })
      (record i { globals = g₂ }) r (gets_tab m (record i { globals = g₁ }) here) on)

  abbrev got : (globals functions : List ℕ) → Instance
  got globals functions = record { functions = functions; tables = 0 ∷ []; memories = 0 ∷ []; globals = globals }

  abbrev all_places : List ℕ
  all_places = own_places p b.name ++ imported_places p (imported_names b)

  asked : IsAmong (names p) b.name → All (IsAmong (names p)) (imported_names b)
      → each asks (imports b) no_instance ≡ Ok (got all_places (0 ∷ 1 ∷ []))
  asked own among =
      step_on asks _ _ _ _ _ (gets_memory no_instance)
      (step_on asks _ _ _ _ _ (gets_table (record no_instance { memories = 0 ∷ [] }))
      (step_on asks _ _ _ _ _ (gets_global (codes "limit") 0 (got [] []) limit_found (omega arith))
      (step_on asks _ _ _ _ _ (gets_base b.name (got (0 ∷ []) []) own)
      (step_on asks _ _ _ _ _ (gets_text b.name (got (0 ∷ base_at p b.name ∷ []) []) own)
      (step_on asks _ _ _ _ _ (gets_tab b.name (got (0 ∷ base_at p b.name ∷ text_at p b.name ∷ []) []) own)
      (gets_imported (imported_names b) (got (own_places p b.name) []) host_imports _ among
      (step_on asks _ _ _ _ _ (gets_put (got all_places []))
      (step_on asks _ _ _ _ _ (gets_stop (got all_places (0 ∷ [])))
      (step_none asks (got all_places (0 ∷ 1 ∷ [])))))))))))

  pub body_imported : IsAmong (names p) b.name → All (IsAmong (names p)) (imported_names b)
      → each (with_import (all p pages) there (typed_module b)) (imports b) no_instance
      ≡ Ok (got all_places (0 ∷ 1 ∷ []))
  unfolding asks
  body_imported own among = asked own among
