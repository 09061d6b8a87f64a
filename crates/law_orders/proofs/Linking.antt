-- One body is linked, whichever were before it.
use Rattle.std.proofs.Common.{◌≡◌, ℕ, suc, ◌+◌, ◌*◌, ◌/◌, ◌<◌, ◌≤◌, true, leb, List, [], ◌∷◌, ◌++◌, length, map, Option, Some, None, Ok, refl, sym, ap, subst, ◌∙◌, append_assoc, replicate, codes, arith, Result}
use Rattle.std.specs.Prelude.{All, slice_get}
use Rattle.std.specs.List.{range_with_len}
use Rattle.std.proofs.lemmas.Bool.{le-leb}
use Rattle.std.proofs.lemmas.List.{length-replicate, length-append, length-map, append-nil}
use Rattle.std.proofs.lemmas.List.Elements.{All-head, All-tail}
use Rattle.std.proofs.Math.Nat.{mul-div_cancel_left}
use Rattle.wasm_tree.specs.declared.instr.Instr.TheVariants.{GlobalGet}
use Rattle.wasm_tree.specs.declared.fault.WFault.{WFault}
use Rattle.wasm_tree.specs.declared.module.Element.{Element}
use Rattle.wasm_tree.specs.declared.module.Import.{Import}
use Rattle.wasm_tree.specs.declared.module.ImportKind.TheVariants as imported
use Rattle.wasm_tree.specs.declared.module.ExportKind.TheVariants as exported
use Rattle.wasm_tree.specs.declared.module.WModule.{WModule}
use Rattle.wasm_tree.specs.declared.store.Value.TheVariants.{I32}
use Rattle.wasm_tree.specs.declared.store.Callee.{Callee}
use Rattle.wasm_tree.specs.declared.store.Callee.TheVariants.{Put, Stop, Own}
use Rattle.wasm_tree.specs.declared.store.Instance.{Instance}
use Rattle.wasm_tree.specs.declared.store.Store.{Store}
use Rattle.wasm_tree.specs.Validity.{AreDistinct}
use Rattle.wasm_tree.specs.Machine.{paste_items}
use Rattle.wasm_tree.specs.Linking.{each, Linked, with_functions, with_global, with_import, with_table, with_memory, with_element, with_segment, addresses, linked_one, no_instance, export_named}
use Rattle.typed_tree.specs.declared.typed_module.TypedModule.{TypedModule}
use Rattle.layout_storage.specs.Texts.{characters, module_texts}
use Rattle.def_scheme.specs.Scheme.{imported_globals, host_imports, base_name, text_name, tab_name, from_link, from_host, at_least_one}
use Rattle.def_scheme.specs.Coded.{body_index}
use Rattle.def_scheme.specs.Modules.{slots, functions, imports, data_of, part_of, typed_module, typed_link}
use Rattle.law_modules.specs.Linked.{Program, names, imported_names, variables, text, count, numbers_from, own_from, somes_from, place_of, base_at, text_at, tab_at, own_places, imported_places, module_instance, link_instance, link_values, slots_in, bytes_in, IsAmong}
use Rattle.law_modules.proofs.Stores.{text_length, somes_length, global_place, link_value, place_within, link_exports, base_found, text_found, tab_found, slot_is, text_is}
use Rattle.law_modules.proofs.Links.{linked_by, step_on, step_none}
use Rattle.law_modules.proofs.Placed.{own_place, own_among, enough, functions_added, paste_at, addresses_are}

-- a store with link's table, memory and globals, and with these functions, slots, bytes and
-- instances behind what is always there
abbrev pub store_with : (p : Program) (pages : ℕ) → List Callee → List (Option ℕ) → List ℕ → List Instance → Store
store_with p pages fs ss bytes is = record {
  functions = Put ∷ Stop ∷ fs;
  tables = record { slots = None ∷ ss; max = Some (1 + slots_in p) } ∷ [];
  memories = record { bytes = bytes; max = Some pages } ∷ [];
  globals = link_values p pages;
  instances = link_instance p ∷ is;
}

-- ---- imports

module _ (p : Program) (pages : ℕ) (trees : List WModule) (b : TypedModule) (le : 1 ≤ pages) (fs : List Callee)
    (ss : List (Option ℕ)) (bytes : List ℕ) (is : List Instance) (size : length bytes ≡ 65536 * pages) where
  abbrev modules : List WModule
  modules = typed_link p pages ∷ trees

  abbrev there : Store
  there = store_with p pages fs ss bytes is

  asks : Import → Instance → Result Instance WFault
  asks = with_import modules there (typed_module b)

  pages_fit : leb 1 (length bytes / 65536) ≡ true
  pages_fit = rw (size, mul-div_cancel_left pages {n = 65536} (omega arith)) (le-leb 1 pages le)

  gets_memory : (i : Instance) → asks (record
      { module_name = codes "link"; name = codes "memory"; kind = imported.Memory (record { limits = at_least_one }) })
      i ≡ Ok (record i { memories = i.memories ++ 0 ∷ [] })
  unfolding asks
  gets_memory i = rw pages_fit refl

  gets_table : (i : Instance) → asks (record
      { module_name = codes "link"; name = codes "table"; kind = imported.Table (record { limits = at_least_one }) }) i
      ≡ Ok (record i { tables = i.tables ++ 0 ∷ [] })
  unfolding asks
  gets_table i = let one : leb 1 (suc (length ss)) ≡ true = le-leb 1 _ (omega arith) in rw one refl

  gets_global : (name : List ℕ) (x : ℕ) (i : Instance) → export_named name (link_exports p) ≡ Some (exported.Global x)
      → x < 1 + 3 * length p → asks (from_link name) i ≡ Ok (record i { globals = i.globals ++ x ∷ [] })
  unfolding asks
  gets_global name x i e lt = rw (e, global_place x p lt, (link_value x p pages lt).1) refl

  gets_put : (i : Instance) → asks (from_host (codes "put")) i ≡ Ok (record i { functions = i.functions ++ 0 ∷ [] })
  unfolding asks
  gets_put i = refl

  gets_stop : (i : Instance) → asks (from_host (codes "stop")) i ≡ Ok (record i { functions = i.functions ++ 1 ∷ [] })
  unfolding asks
  gets_stop i = refl

  tab_within : (name : List ℕ) → IsAmong (names p) name → tab_at p name < 1 + 3 * length p
  tab_within name e = omega (arith, place_within name (names p) e, length-map p (λ (c : TypedModule). c.name))

  gets_base : (name : List ℕ) (i : Instance) → IsAmong (names p) name
      → asks (from_link (base_name name)) i ≡ Ok (record i { globals = i.globals ++ base_at p name ∷ [] })
  gets_base name i e = gets_global (base_name name) (base_at p name) i (base_found p name e)
      (omega (arith, tab_within name e))

  gets_text : (name : List ℕ) (i : Instance) → IsAmong (names p) name
      → asks (from_link (text_name name)) i ≡ Ok (record i { globals = i.globals ++ text_at p name ∷ [] })
  gets_text name i e = gets_global (text_name name) (text_at p name) i (text_found p name e)
      (omega (arith, tab_within name e))

  gets_tab : (name : List ℕ) (i : Instance) → IsAmong (names p) name
      → asks (from_link (tab_name name)) i ≡ Ok (record i { globals = i.globals ++ tab_at p name ∷ [] })
  gets_tab name i e = gets_global (tab_name name) (tab_at p name) i (tab_found p name e) (tab_within name e)

  abbrev limit_found : export_named (codes "limit") (link_exports p) ≡ Some (exported.Global 0)
  limit_found = refl

  -- what is imported from other modules, in front of more
  gets_imported : (ms : List (List ℕ)) (i : Instance) (ys : List Import) (r : Result Instance WFault)
      → All (IsAmong (names p)) ms
      → each asks ys (record i { globals = i.globals ++ imported_places p ms }) ≡ r
      → each asks (imported_globals ms ++ ys) i ≡ r
  gets_imported [] i ys r among go = ap (λ (g : List ℕ). each asks ys (record i { globals = g }))
      (sym (append-nil i.globals)) ∙ go
  gets_imported (m ∷ ms) i ys r among go =
      let here : IsAmong (names p) m = All-head (IsAmong (names p)) m ms among in
      let g₁ : List ℕ = i.globals ++ base_at p m ∷ [] in
      let g₂ : List ℕ = g₁ ++ tab_at p m ∷ [] in
      let joined : g₂ ++ imported_places p ms ≡ i.globals ++ imported_places p (m ∷ ms) =
      append_assoc g₁ (tab_at p m ∷ []) (imported_places p ms) ∙ append_assoc i.globals (base_at p m ∷ []) _ in
      let on : each asks (imported_globals ms ++ ys) (record i { globals = g₂ }) ≡ r =
      gets_imported ms (record i { globals = g₂ }) ys r (All-tail (IsAmong (names p)) m ms among)
      (ap (λ (g : List ℕ). each asks ys (record i { globals = g })) joined ∙ go)
      in
      step_on asks (from_link (base_name m)) (from_link (tab_name m) ∷ (imported_globals ms ++ ys)) i
      (record i { globals = g₁ }) r (gets_base m i here)
      (step_on asks (from_link (tab_name m)) (imported_globals ms ++ ys) (record i { globals = g₁ })
      (record i { globals = g₂ }) r (gets_tab m (record i { globals = g₁ }) here) on)

  abbrev got : (globals functions : List ℕ) → Instance
  got globals functions = record { functions = functions; tables = 0 ∷ []; memories = 0 ∷ []; globals = globals }

  abbrev all_places : List ℕ
  all_places = own_places p b.name ++ imported_places p (imported_names b)

  asked : IsAmong (names p) b.name → All (IsAmong (names p)) (imported_names b)
      → each asks (imports b) no_instance ≡ Ok (got all_places (0 ∷ 1 ∷ []))
  asked own among =
      step_on asks _ _ _ _ _ (gets_memory no_instance)
      (step_on asks _ _ _ _ _ (gets_table (record no_instance { memories = 0 ∷ [] }))
      (step_on asks _ _ _ _ _ (gets_global (codes "limit") 0 (got [] []) limit_found (omega arith))
      (step_on asks _ _ _ _ _ (gets_base b.name (got (0 ∷ []) []) own)
      (step_on asks _ _ _ _ _ (gets_text b.name (got (0 ∷ base_at p b.name ∷ []) []) own)
      (step_on asks _ _ _ _ _ (gets_tab b.name (got (0 ∷ base_at p b.name ∷ text_at p b.name ∷ []) []) own)
      (gets_imported (imported_names b) (got (own_places p b.name) []) host_imports _ among
      (step_on asks _ _ _ _ _ (gets_put (got all_places []))
      (step_on asks _ _ _ _ _ (gets_stop (got all_places (0 ∷ [])))
      (step_none asks (got all_places (0 ∷ 1 ∷ [])))))))))))

  pub body_imported : IsAmong (names p) b.name → All (IsAmong (names p)) (imported_names b)
      → each (with_import modules there (typed_module b)) (imports b) no_instance ≡ Ok (got all_places (0 ∷ 1 ∷ []))
  unfolding asks
  body_imported own among = asked own among

-- ---- the body

module _ (p : Program) (pages : ℕ) (trees : List WModule) (le : 1 ≤ pages) (before rest : Program) (b : TypedModule)
    (is : p ≡ before ++ b ∷ rest) (distinct : AreDistinct (names p)) (fs : List Callee)
    (front back : List (Option ℕ)) (low high : List ℕ) (instances : List Instance)
    (slots_long : length front ≡ slots_in before) (bytes_long : length low ≡ bytes_in before) where
  abbrev blank : List ℕ → List ℕ
  blank t = low ++ (replicate (variables b) 0 ++ (t ++ high))

  abbrev texts : ℕ
  texts = characters (module_texts b)

  place : place_of b.name (names p) ≡ length before
  place = ap (λ (q : Program). place_of b.name (names q)) is
      ∙ own_place before rest b (subst (λ (q : Program). AreDistinct (names q)) is distinct)

  -- link's globals of the module's slots and texts
  slot_value : slice_get (link_values p pages) (tab_at p b.name) ≡ Some (I32 (1 + slots_in before))
  slot_value =
      let e : tab_at p b.name ≡ suc (2 + 3 * length before) = omega (arith, place) in
      ap (slice_get (link_values p pages)) e
      ∙ ap (λ (q : Program). slice_get (link_values q pages) (suc (2 + 3 * length before))) is
      ∙ slot_is 0 1 before rest b

  text_value : slice_get (link_values p pages) (text_at p b.name) ≡ Some (I32 (bytes_in before + variables b))
  text_value =
      let e : text_at p b.name ≡ suc (1 + 3 * length before) = omega (arith, place) in
      ap (slice_get (link_values p pages)) e
      ∙ ap (λ (q : Program). slice_get (link_values q pages) (suc (1 + 3 * length before))) is
      ∙ text_is 0 1 before rest b ∙ ap (λ (n : ℕ). Some (I32 n)) (omega arith)

  -- the address of its first function
  abbrev address : ℕ
  address = suc (suc (length fs))

  abbrev row : List (Option ℕ)
  row = somes_from (address + 5) (slots b)

  abbrev old_slots : List (Option ℕ)
  old_slots = front ++ (replicate (slots b) None ++ back)

  abbrev new_slots : List (Option ℕ)
  new_slots = front ++ (row ++ back)

  empty_long : length (replicate {A = Option ℕ} (slots b) None) ≡ slots b
  empty_long = length-replicate (slots b) None

  slots_pasted : paste_items (None ∷ old_slots) (1 + slots_in before) row ≡ None ∷ new_slots
  slots_pasted =
      paste_at (None ∷ old_slots) (None ∷ front) (replicate (slots b) None) back row (1 + slots_in before) refl
      (omega (arith, slots_long)) (empty_long ∙ sym (somes_length (address + 5) (slots b)))

  slots_fit : leb (1 + slots_in before + length row) (length (None ∷ old_slots)) ≡ true
  slots_fit =
      let i = length-append front (replicate (slots b) None ++ back) in
      let j = length-append (replicate (slots b) None) back in let l = empty_long in
      let n = somes_length (address + 5) (slots b) in
      le-leb (1 + slots_in before + length row) (length (None ∷ old_slots)) (omega (arith, i, j, l, n, slots_long))

  abbrev old_bytes : List ℕ
  old_bytes = blank (replicate texts 0)

  zeros_long : length (replicate {A = ℕ} (variables b) 0) ≡ variables b
  zeros_long = length-replicate (variables b) 0

  front_long : bytes_in before + variables b ≡ length (low ++ replicate (variables b) 0)
  front_long = let i = length-append low (replicate (variables b) 0) in let l = zeros_long in
      omega (arith, i, l, bytes_long)

  bytes_pasted : (t : List ℕ) → length t ≡ texts → paste_items old_bytes (bytes_in before + variables b) t ≡ blank t
  bytes_pasted t many =
      paste_at old_bytes (low ++ replicate (variables b) 0) (replicate texts 0) high t (bytes_in before + variables b)
      (sym (append_assoc low (replicate (variables b) 0) (replicate texts 0 ++ high))) front_long
      (length-replicate texts 0 ∙ sym many)
      ∙ append_assoc low (replicate (variables b) 0) (t ++ high)

  bytes_fit : (t : List ℕ) → length t ≡ texts → leb (bytes_in before + variables b + length t) (length old_bytes) ≡ true
  bytes_fit t many =
      let z : List ℕ = replicate texts 0 in
      let i = length-append low (replicate (variables b) 0 ++ (z ++ high)) in
      let j = length-append (replicate (variables b) 0) (z ++ high) in let k = length-append z high in
      let l = zeros_long in let n : length (replicate {A = ℕ} texts 0) ≡ texts = length-replicate texts 0 in
      le-leb (bytes_in before + variables b + length t) (length old_bytes)
      (omega (arith, i, j, k, l, n, many, bytes_long))

  abbrev places_of : List ℕ
  places_of = own_places p b.name ++ imported_places p (imported_names b)

  abbrev begun_with : Store
  begun_with = store_with p pages fs old_slots old_bytes instances

  -- the module's functions, slots and bytes are these
  abbrev state : (m : ℕ) → List (Option ℕ) → List ℕ → Linked
  state m s bytes = record {
    store = store_with p pages (fs ++ own_from m 0 (count b)) s bytes instances;
    instance = record {
      functions = 0 ∷ 1 ∷ numbers_from address (count b);
      tables = 0 ∷ [];
      memories = 0 ∷ [];
      globals = places_of;
    };
  }

  abbrev element : Element
  element = record { table = 0; offset = GlobalGet 3 ∷ []; functions = range_with_len body_index (slots b) }

  slots_addressed : (m : ℕ) → addresses (state m old_slots old_bytes).instance (range_with_len body_index (slots b))
      ≡ Some row
  slots_addressed m = addresses_are (state m old_slots old_bytes).instance address (count b) (slots b) 5 refl (enough b)

  abbrev with_row : (m : ℕ) → List (Option ℕ) → Linked
  with_row m s = record (state m old_slots old_bytes) {
    store = record (state m old_slots old_bytes).store
        { tables = record { slots = s; max = Some (1 + slots_in p) } ∷ [] };
  }

  slot_filled : (m : ℕ) → with_element element (state m old_slots old_bytes) ≡ Ok (state m new_slots old_bytes)
  slot_filled m = rw (slot_value, slots_addressed m, slots_fit)
      (ap (λ (s : List (Option ℕ)). Ok (with_row m s)) slots_pasted)

  text_placed : (m : ℕ) (t : List ℕ) → length t ≡ texts
      → each with_segment (data_of t) (state m new_slots old_bytes) ≡ Ok (state m new_slots (blank t))
  text_placed m [] many =
      let none : replicate texts 0 ≡ [] = ap (λ (n : ℕ). replicate {A = ℕ} n 0) (sym many) in
      step_none with_segment (state m new_slots old_bytes) ∙ ap (λ (s : List ℕ). Ok (state m new_slots (blank s))) none
  text_placed m (c ∷ cs) many =
      let l : Linked = state m new_slots old_bytes in let after : Linked = state m new_slots (blank (c ∷ cs)) in
      step_on with_segment (record { memory = 0; offset = GlobalGet 2 ∷ []; bytes = c ∷ cs }) [] l after (Ok after)
      (rw (text_value, bytes_fit (c ∷ cs) many)
      (ap (λ (s : List ℕ). Ok (state m new_slots s)) (bytes_pasted (c ∷ cs) many))) (step_none with_segment after)

  -- imports alone
  abbrev host_only : Instance
  host_only = record { functions = 0 ∷ 1 ∷ []; tables = 0 ∷ []; memories = 0 ∷ []; globals = places_of }

  all_there : (m : ℕ) → with_functions m 0 (functions b) (record { store = begun_with; instance = host_only })
      ≡ state m old_slots old_bytes
  all_there m = functions_added m 0 (functions b) (record { store = begun_with; instance = host_only })

  pub body_linked : (m : ℕ) → length old_bytes ≡ 65536 * pages → All (IsAmong (names p)) (imported_names b)
      → linked_one (typed_link p pages ∷ trees) m (typed_module b) begun_with
      ≡ Ok (store_with p pages (fs ++ own_from m 0 (count b)) new_slots (blank (text b))
      (instances ++ module_instance p address b ∷ []))
  body_linked m size among =
      let own : IsAmong (names p) b.name = subst (λ (q : Program). IsAmong (names q) b.name) (sym is)
      (own_among before rest b) in
      let half : Linked = state m old_slots old_bytes in
      let slotted : Linked = state m new_slots old_bytes in
      let last : Linked = state m new_slots (blank (text b)) in
      linked_by (typed_link p pages ∷ trees) m (typed_module b) begun_with host_only half half half slotted last
      (body_imported p pages trees b le fs old_slots old_bytes instances size own among)
      (step_none _ (with_functions m 0 (functions b) (record { store = begun_with; instance = host_only }))
      ∙ ap Ok (all_there m)) (step_none _ half) (step_none _ half)
      (step_on with_element element [] half slotted (Ok slotted) (slot_filled m) (step_none with_element slotted))
      (text_placed m (text b) (text_length (module_texts b)))
