-- The modules of bodies are linked behind link.
use Rattle.std.proofs.Common.{◌≡◌, ◌≢◌, ℕ, zero, suc, ◌+◌, ◌*◌, ◌-◌, ◌<◌, ◌≤◌, Bool, true, false, leb, List, [], ◌∷◌, ◌++◌, length, Option, Some, None, Ok, refl, sym, ap, subst, ◌∙◌, append_assoc, replicate, map, drop, codes, arith}
use Rattle.std.specs.Prelude.{All, slice_get, take}
use Rattle.std.specs.List.{range_with_len}
use Rattle.std.specs.Str.{bytes_eq}
use Rattle.std.proofs.lemmas.Bool.{le-leb, eq-eqb}
use Rattle.std.proofs.lemmas.List.{length-append, length-replicate, append-nil, replicate-append-replicate}
use Rattle.std.proofs.lemmas.List.Elements.{All-head, All-tail}
use Rattle.std.proofs.lemmas.Slice.Eq.{bytes_eq-Decides}
use Rattle.wasm_tree.specs.declared.instr.Instr.TheVariants.{GlobalGet}
use Rattle.wasm_tree.specs.declared.module.Element.{Element}
use Rattle.wasm_tree.specs.declared.module.Function.{Function}
use Rattle.wasm_tree.specs.declared.module.ExportKind.TheVariants as exported
use Rattle.wasm_tree.specs.declared.store.Value.TheVariants.{I32}
use Rattle.wasm_tree.specs.declared.store.Callee.{Callee}
use Rattle.wasm_tree.specs.declared.store.Callee.TheVariants.{Put, Stop, Own}
use Rattle.wasm_tree.specs.declared.store.Instance.{Instance}
use Rattle.wasm_tree.specs.declared.store.Store.{Store}
use Rattle.wasm_tree.specs.Validity.{AreDistinct}
use Rattle.wasm_tree.specs.Machine.{Going, paste_items}
use Rattle.wasm_tree.specs.Linking.{each, Linked, with_function, with_functions, with_element, with_segment, addresses, linked_one, linked_from, link, export_named, host_store}
use Rattle.typed_tree.specs.declared.typed_module.Routine.{Routine}
use Rattle.typed_tree.specs.declared.typed_module.Which.{Which}
use Rattle.typed_tree.specs.declared.typed_module.Which.TheVariants as which
use Rattle.typed_tree.specs.declared.typed_module.TypedModule.{TypedModule}
use Rattle.layout_storage.specs.Texts.{characters, module_texts}
use Rattle.def_scheme.specs.Coded.{body_index}
use Rattle.def_scheme.specs.Functions.{functions_from}
use Rattle.def_scheme.specs.Modules.{slots, functions, numbering_of, data_of, part_of, exports_from, typed_module}
use Rattle.law_modules.specs.Linked.{Program, names, imported_names, all, variables, text, count, numbers_from, own_from, somes_from, owns, table_slots, image, place_of, tab_at, text_at, own_places, imported_places, instances, link_instance, link_values, slots_in, bytes_in, store, linked_store, begin, IsAmong, IsLinkable}
use Rattle.law_modules.proofs.Stores.{counts, text_length, owns_more, filled_more, instances_more, image_more, owns_length, somes_length, filled_length, image_length, slot_is, text_is, run_export}
use Rattle.law_modules.proofs.Links.{linked_by, step_on, step_none, first_linked, body_imported}

-- ---- where a module's own name stands

bytes_eq_same : (xs : List ℕ) → bytes_eq xs xs ≡ true
bytes_eq_same [] = refl
bytes_eq_same (x ∷ xs) = rw (eq-eqb x x refl) (bytes_eq_same xs)

all_at : (P : List ℕ → Type 0) (before rest : Program) (b : TypedModule) → All P (names (before ++ b ∷ rest)) → P b.name
all_at P [] rest b h = All-head P b.name (names rest) h
all_at P (x ∷ before) rest b h = all_at P before rest b (All-tail P x.name (names (before ++ b ∷ rest)) h)

not_same : (x y : List ℕ) → x ≢ y → bytes_eq x y ≡ false
not_same x y ne = by (bytes_eq x y) refl
  where
    by : (b : Bool) → bytes_eq x y ≡ b → b ≡ false
    by true e = absurd (ne ((bytes_eq-Decides x y).0 e))
    by false e = refl

pub own_place : (before rest : Program) (b : TypedModule) → AreDistinct (names (before ++ b ∷ rest))
    → place_of b.name (names (before ++ b ∷ rest)) ≡ length before
own_place [] rest b distinct = rw (bytes_eq_same b.name) refl
own_place (x ∷ before) rest b distinct =
    rw (not_same x.name b.name (all_at (λ y. x.name ≢ y) before rest b distinct.0))
    (ap suc (own_place before rest b distinct.1))

pub own_among : (before rest : Program) (b : TypedModule) → IsAmong (names (before ++ b ∷ rest)) b.name
own_among [] rest b = rw (bytes_eq_same b.name) refl
own_among (x ∷ before) rest b = by (bytes_eq x.name b.name) refl (own_among before rest b)
  where
    by : (t : Bool) → bytes_eq x.name b.name ≡ t → IsAmong (names (before ++ b ∷ rest)) b.name
        → IsAmong (names (x ∷ before ++ b ∷ rest)) b.name
    by true e h = rw e refl
    by false e h = rw e h

-- functions are added one by one
pub functions_added : (m first : ℕ) (fs : List Function) (l : Linked)
    → with_functions m first fs l ≡ record {
      store = record l.store { functions = l.store.functions ++ own_from m first (length fs) };
      instance = record l.instance {
        functions =
            l.instance.functions ++ numbers_from (length l.store.functions) (length fs);
      };
    }
unfolding with_functions
functions_added m first [] l = ap (λ (x : List Callee). with_both x l.instance.functions)
    (sym (append-nil l.store.functions)) ∙ ap (with_both (l.store.functions ++ []))
    (sym (append-nil l.instance.functions))
  where
    with_both : List Callee → List ℕ → Linked
    with_both x y = record { store = record l.store { functions = x }; instance = record l.instance { functions = y } }
functions_added m first (f ∷ fs) l =
    functions_added m (suc first) fs (with_function (Own m first) l)
    ∙ ap (λ (n : ℕ). with_both (more ++ own_from m (suc first) (length fs)) (numbers ++ numbers_from n (length fs)))
    grown
    ∙ ap (λ (x : List Callee). with_both x (numbers ++ numbers_from (suc (length l.store.functions)) (length fs)))
    (append_assoc l.store.functions (Own m first ∷ []) (own_from m (suc first) (length fs)))
    ∙ ap (with_both (l.store.functions ++ own_from m first (suc (length fs))))
    (append_assoc l.instance.functions (length l.store.functions ∷ [])
    (numbers_from (suc (length l.store.functions)) (length fs)))
  where
    with_both : List Callee → List ℕ → Linked
    with_both x y = record { store = record l.store { functions = x }; instance = record l.instance { functions = y } }

    more : List Callee
    more = l.store.functions ++ Own m first ∷ []

    numbers : List ℕ
    numbers = l.instance.functions ++ length l.store.functions ∷ []

    grown : length more ≡ suc (length l.store.functions)
    grown = omega (arith, length-append l.store.functions (Own m first ∷ []))

-- ---- others in place of a part of a list

drop_part : {A : Type 0} (part back : List A) (k : ℕ) → length part ≡ k → drop k (part ++ back) ≡ back
drop_part [] back zero e = refl
drop_part [] back (suc k) e = absurd (omega (arith, e))
drop_part (x ∷ part) back zero e = absurd (omega (arith, e))
drop_part (x ∷ part) back (suc k) e = drop_part part back k (omega (arith, e))

paste_part : {A : Type 0} (front part back new : List A) → length part ≡ length new
    → paste_items (front ++ (part ++ back)) (length front) new ≡ front ++ (new ++ back)
paste_part [] part back new e = let i : length part ≡ 0 + length new = omega (arith, e) in
    ap (λ (r : List _). new ++ r) (drop_part part back (0 + length new) i)
paste_part {A = A} (x ∷ front) part back new e =
    let i : suc (length front) + length new ≡ suc (length front + length new) = omega arith in
    ap (λ (n : ℕ). (take (suc (length front)) (x ∷ (front ++ (part ++ back))) ++ new)
    ++ drop n (x ∷ (front ++ (part ++ back)))) i ∙ ap (λ (r : List A). x ∷ r) (paste_part front part back new e)

pub paste_at : {A : Type 0} (xs front part back new : List A) (n : ℕ) → xs ≡ front ++ (part ++ back) → n ≡ length front
    → length part ≡ length new → paste_items xs n new ≡ front ++ (new ++ back)
paste_at xs front part back new n is at e = ap (λ (ys : List _). paste_items ys n new) is
    ∙ ap (λ (m : ℕ). paste_items (front ++ (part ++ back)) m new) at ∙ paste_part front part back new e

-- ---- the functions of a module

count_routines : (m : TypedModule) (w : ℕ → Which) (j : ℕ) (rs : List Routine)
    → length (functions_from (numbering_of m) m w j rs) ≡ length rs
count_routines m w j [] = refl
count_routines m w j (r ∷ rs) = ap suc (count_routines m w (suc j) rs)

-- helpers, the body and the procedures are there
pub enough : (m : TypedModule) → 5 + slots m ≤ count m
enough m =
    let own = functions_from (numbering_of m) m which.Module 0 m.procedures in
    let nested = functions_from (numbering_of m) m which.Local 0 m.locals in
    let a = length-append own nested in let b = count_routines m which.Module 0 m.procedures in
    omega (arith, a, b)

pub number_at : (a n k : ℕ) → k < n → slice_get (numbers_from a n) k ≡ Some (a + k)
number_at a zero k lt = absurd (omega (arith, lt))
number_at a (suc n) zero lt = ap Some (omega arith)
number_at a (suc n) (suc k) lt = number_at (suc a) n k (omega (arith, lt)) ∙ ap Some (omega arith)

-- the addresses of functions in a row
pub addresses_are : (i : Instance) (a all n k : ℕ) → i.functions ≡ 0 ∷ 1 ∷ numbers_from a all → k + n ≤ all
    → addresses i (range_with_len (2 + k) n) ≡ Some (somes_from (a + k) n)
addresses_are i a all zero k is le = refl
addresses_are i a all (suc n) k is le =
    let here : slice_get i.functions (2 + k) ≡ Some (a + k) =
    (let e : 2 + k ≡ suc (suc k) = omega arith in
    ap (λ (fs : List ℕ). slice_get fs (2 + k)) is ∙ ap (λ (j : ℕ). slice_get (0 ∷ 1 ∷ numbers_from a all) j) e
    ∙ number_at a all k (omega (arith, le))) in
    let next : addresses i (range_with_len (2 + k + 1) n) ≡ Some (somes_from (suc (a + k)) n) =
    (let e : 2 + k + 1 ≡ 2 + (k + 1) = omega arith in let f : a + (k + 1) ≡ suc (a + k) = omega arith in
    ap (λ (j : ℕ). addresses i (range_with_len j n)) e ∙ addresses_are i a all n (k + 1) is (omega (arith, le))
    ∙ ap (λ (j : ℕ). Some (somes_from j n)) f)
    in
    rw (here, next) refl

-- ---- a body

bytes_behind : (before rest : Program) → bytes_in (before ++ rest) ≡ bytes_in before + bytes_in rest
bytes_behind [] rest = omega arith
bytes_behind (x ∷ before) rest = let i = bytes_behind before rest in omega (arith, i)

module _ (p : Program) (pages spare : ℕ) (room : bytes_in p + spare ≡ 65536 * pages) (before rest : Program)
    (b : TypedModule) (is : p ≡ before ++ b ∷ rest) (distinct : AreDistinct (names p)) where
  abbrev k : ℕ
  k = length before

  place : place_of b.name (names p) ≡ k
  place = ap (λ (q : Program). place_of b.name (names q)) is
      ∙ own_place before rest b (subst (λ (q : Program). AreDistinct (names q)) is distinct)

  -- link's globals of the module's slots and texts
  slot_value : slice_get (link_values p pages) (tab_at p b.name) ≡ Some (I32 (1 + slots_in before))
  slot_value =
      let e : tab_at p b.name ≡ suc (2 + 3 * k) = omega (arith, place) in
      ap (slice_get (link_values p pages)) e
      ∙ ap (λ (q : Program). slice_get (link_values q pages) (suc (2 + 3 * k))) is ∙ slot_is 0 1 before rest b

  text_value : slice_get (link_values p pages) (text_at p b.name) ≡ Some (I32 (bytes_in before + variables b))
  text_value =
      let e : text_at p b.name ≡ suc (1 + 3 * k) = omega (arith, place) in
      ap (slice_get (link_values p pages)) e
      ∙ ap (λ (q : Program). slice_get (link_values q pages) (suc (1 + 3 * k))) is ∙ text_is 0 1 before rest b
      ∙ ap (λ (n : ℕ). Some (I32 n)) (omega arith)

  -- the address of the module's first function
  abbrev first_address : ℕ
  first_address = suc (suc (suc (length (owns 1 before))))

  address : first_address ≡ 3 + counts before
  address = omega (arith, owns_length 1 before)

  -- ---- the table

  abbrev old_slots : List (Option ℕ)
  old_slots = None ∷ (table_slots 3 before ++ replicate (slots_in (b ∷ rest)) None)

  abbrev new_slots : List (Option ℕ)
  new_slots = None ∷ (table_slots 3 (before ++ b ∷ []) ++ replicate (slots_in rest) None)

  slots_pasted : paste_items old_slots (1 + slots_in before) (somes_from (first_address + 5) (slots b)) ≡ new_slots
  slots_pasted =
      let front : List (Option ℕ) = None ∷ table_slots 3 before in
      let part : List (Option ℕ) = replicate (slots b) None in
      let back : List (Option ℕ) = replicate (slots_in rest) None in
      let new : List (Option ℕ) = somes_from (first_address + 5) (slots b) in
      let old : old_slots ≡ front ++ (part ++ back) =
      ap (λ (r : List (Option ℕ)). front ++ r) (sym (replicate-append-replicate (slots b) (slots_in rest) None)) in
      let many : length part ≡ length new = length-replicate (slots b) None
      ∙ sym (somes_length (first_address + 5) (slots b)) in
      let is_named : new ≡ somes_from (3 + counts before + 5) (slots b) =
      ap (λ (n : ℕ). somes_from (n + 5) (slots b)) address in
      paste_at old_slots front part back new (1 + slots_in before) old (omega (arith, filled_length 3 before)) many
      ∙ sym (append_assoc front new back) ∙ ap (λ (s : List (Option ℕ)). None ∷ ((table_slots 3 before ++ s) ++ back))
      is_named ∙ ap (λ (s : List (Option ℕ)). None ∷ (s ++ back)) (sym (filled_more 3 before b))

  slots_fit : leb (1 + slots_in before + length (somes_from (first_address + 5) (slots b))) (length old_slots) ≡ true
  slots_fit =
      let i = length-append (table_slots 3 before) (replicate {A = Option ℕ} (slots_in (b ∷ rest)) None) in
      let j = filled_length 3 before in let l : length (replicate {A = Option ℕ} (slots_in (b ∷ rest)) None)
      ≡ slots_in (b ∷ rest) = length-replicate (slots_in (b ∷ rest)) None in
      let n = somes_length (first_address + 5) (slots b) in
      le-leb (1 + slots_in before + length (somes_from (first_address + 5) (slots b))) (length old_slots)
      (omega (arith, i, j, l, n))

  -- ---- the memory

  abbrev old_bytes : List ℕ
  old_bytes = image before ++ replicate (bytes_in (b ∷ rest) + spare) 0

  abbrev new_bytes : List ℕ
  new_bytes = image (before ++ b ∷ []) ++ replicate (bytes_in rest + spare) 0

  abbrev with_text : List ℕ → List ℕ
  with_text t = (image before ++ replicate (variables b) 0) ++ (t ++ replicate (bytes_in rest + spare) 0)

  -- the place of the texts is still nought
  old_parts : old_bytes ≡ with_text (replicate (characters (module_texts b)) 0)
  old_parts =
      let v : ℕ = variables b in let c : ℕ = characters (module_texts b) in let r : ℕ = bytes_in rest + spare in
      let e : bytes_in (b ∷ rest) + spare ≡ v + (c + r) = omega arith in
      ap (λ (n : ℕ). image before ++ replicate n 0) e
      ∙ ap (λ (s : List ℕ). image before ++ s) (sym (replicate-append-replicate v (c + r) 0))
      ∙ ap (λ (s : List ℕ). image before ++ (replicate v 0 ++ s)) (sym (replicate-append-replicate c r 0))
      ∙ sym (append_assoc (image before) (replicate v 0) (replicate c 0 ++ replicate r 0))

  new_parts : with_text (text b) ≡ new_bytes
  new_parts =
      let z : List ℕ = replicate (bytes_in rest + spare) 0 in let v : List ℕ = replicate (variables b) 0 in
      sym (append_assoc (image before ++ v) (text b) z)
      ∙ ap (λ (s : List ℕ). s ++ z) (append_assoc (image before) v (text b))
      ∙ ap (λ (s : List ℕ). s ++ z) (sym (image_more before b))

  front_length : bytes_in before + variables b ≡ length (image before ++ replicate (variables b) 0)
  front_length =
      let i = length-append (image before) (replicate (variables b) 0) in let j = image_length before in
      let l : length (replicate {A = ℕ} (variables b) 0) ≡ variables b = length-replicate (variables b) 0 in
      omega (arith, i, j, l)

  bytes_pasted : (t : List ℕ) → length t ≡ characters (module_texts b)
      → paste_items old_bytes (bytes_in before + variables b) t ≡ with_text t
  bytes_pasted t many =
      paste_at old_bytes (image before ++ replicate (variables b) 0) (replicate (characters (module_texts b)) 0)
      (replicate (bytes_in rest + spare) 0) t (bytes_in before + variables b) old_parts front_length
      (length-replicate (characters (module_texts b)) 0 ∙ sym many)

  bytes_fit : (t : List ℕ) → length t ≡ characters (module_texts b)
      → leb (bytes_in before + variables b + length t) (length old_bytes) ≡ true
  bytes_fit t many =
      let i = length-append (image before) (replicate (bytes_in (b ∷ rest) + spare) 0) in let j = image_length before in
      let l : length (replicate {A = ℕ} (bytes_in (b ∷ rest) + spare) 0) ≡ bytes_in (b ∷ rest) + spare =
      length-replicate (bytes_in (b ∷ rest) + spare) 0 in
      le-leb (bytes_in before + variables b + length t) (length old_bytes) (omega (arith, i, j, l, many))

  -- ---- in steps

  abbrev there : Store
  there = store p pages spare before (b ∷ rest)

  abbrev places_of : List ℕ
  places_of = own_places p b.name ++ imported_places p (imported_names b)

  -- the module's functions, table and memory are these
  abbrev state : (m : ℕ) → List (Option ℕ) → List ℕ → Linked
  state m s bytes = record {
    store = record there {
      functions = Put ∷ Stop ∷ Own 0 0 ∷ (owns 1 before ++ own_from m 0 (count b));
      tables = record { slots = s; max = Some (1 + slots_in p) } ∷ [];
      memories = record { bytes = bytes; max = Some pages } ∷ [];
    };
    instance = record {
      functions = 0 ∷ 1 ∷ numbers_from first_address (count b);
      tables = 0 ∷ [];
      memories = 0 ∷ [];
      globals = places_of;
    };
  }

  abbrev element : Element
  element = record { table = 0; offset = GlobalGet 3 ∷ []; functions = range_with_len body_index (slots b) }

  slots_addressed : (m : ℕ) → addresses (state m old_slots old_bytes).instance (range_with_len body_index (slots b))
      ≡ Some (somes_from (first_address + 5) (slots b))
  slots_addressed m = addresses_are (state m old_slots old_bytes).instance first_address (count b) (slots b) 5 refl
      (enough b)

  slot_filled : (m : ℕ) → with_element element (state m old_slots old_bytes) ≡ Ok (state m new_slots old_bytes)
  slot_filled m = rw (slot_value, slots_addressed m, slots_fit)
      (ap (λ (s : List (Option ℕ)). Ok (state m s old_bytes)) slots_pasted)

  text_placed : (m : ℕ) (t : List ℕ) → length t ≡ characters (module_texts b)
      → each with_segment (data_of t) (state m new_slots old_bytes) ≡ Ok (state m new_slots (with_text t))
  text_placed m [] many =
      let none : replicate (characters (module_texts b)) 0 ≡ [] = ap (λ (n : ℕ). replicate {A = ℕ} n 0) (sym many) in
      step_none with_segment (state m new_slots old_bytes)
      ∙ ap (λ (s : List ℕ). Ok (state m new_slots s)) (old_parts ∙ ap with_text none)
  text_placed m (c ∷ cs) many =
      let l : Linked = state m new_slots old_bytes in let after : Linked = state m new_slots (with_text (c ∷ cs)) in
      step_on with_segment (record { memory = 0; offset = GlobalGet 2 ∷ []; bytes = c ∷ cs }) [] l after (Ok after)
      (rw (text_value, bytes_fit (c ∷ cs) many)
      (ap (λ (s : List ℕ). Ok (state m new_slots s)) (bytes_pasted (c ∷ cs) many))) (step_none with_segment after)

  functions_are : (m : ℕ) → m ≡ 1 + k → owns 1 before ++ own_from m 0 (count b) ≡ owns 1 (before ++ b ∷ [])
  functions_are m e = ap (λ (n : ℕ). owns 1 before ++ own_from n 0 (count b)) e ∙ sym (owns_more 1 before b)

  -- the instance, where its first function has this address
  abbrev own_instance : ℕ → Instance
  own_instance a = record {
    functions = 0 ∷ 1 ∷ numbers_from a (count b);
    tables = 0 ∷ [];
    memories = 0 ∷ [];
    globals =
        places_of;
  }

  instances_are : instances p 3 before ++ own_instance first_address ∷ [] ≡ instances p 3 (before ++ b ∷ [])
  instances_are = ap (λ (a : ℕ). instances p 3 before ++ own_instance a ∷ []) address
      ∙ sym (instances_more p 3 before b)

  -- the store with these functions, bytes and instances
  abbrev built : List Callee → List ℕ → List Instance → Store
  built f s i = record (store p pages spare (before ++ b ∷ []) rest) {
    functions = Put ∷ Stop ∷ Own 0 0 ∷ f;
    memories = record { bytes = s; max = Some pages } ∷ [];
    instances = link_instance p ∷ i;
  }

  -- imports alone
  abbrev got : Instance
  got = record { functions = 0 ∷ 1 ∷ []; tables = 0 ∷ []; memories = 0 ∷ []; globals = places_of }

  all_there : (m : ℕ) → with_functions m 0 (functions b) (record { store = there; instance = got })
      ≡ state m old_slots old_bytes
  all_there m = functions_added m 0 (functions b) (record { store = there; instance = got })

  pub body_linked : (m : ℕ) → m ≡ 1 + k → 1 ≤ pages → All (IsAmong (names p)) (imported_names b)
      → linked_one (all p pages) m (typed_module b) there ≡ Ok (store p pages spare (before ++ b ∷ []) rest)
  body_linked m e le among =
      let own : IsAmong (names p) b.name = subst (λ (q : Program). IsAmong (names q) b.name) (sym is)
      (own_among before rest b) in
      let size : bytes_in before + (bytes_in (b ∷ rest) + spare) ≡ 65536 * pages =
      (let i = bytes_behind before (b ∷ rest) in
      let j : bytes_in p ≡ bytes_in (before ++ b ∷ rest) = ap (λ (q : Program). bytes_in q) is in
      omega (arith, i, j, room))
      in
      let half : Linked = state m old_slots old_bytes in
      let slotted : Linked = state m new_slots old_bytes in
      let last : Linked = state m new_slots (with_text (text b)) in
      linked_by (all p pages) m (typed_module b) there got half half half slotted last
      (body_imported p pages spare before (b ∷ rest) b le size own among)
      (step_none _ (with_functions m 0 (functions b) (record { store = there; instance = got })) ∙ ap Ok (all_there m))
      (step_none _ half) (step_none _ half)
      (step_on with_element element [] half slotted (Ok slotted) (slot_filled m) (step_none with_element slotted))
      (text_placed m (text b) (text_length (module_texts b)))
      ∙ ap (λ (f : List Callee). Ok (built f (with_text (text b))
      (instances p 3 before ++ own_instance first_address ∷ []))) (functions_are m e)
      ∙ ap (λ (s : List ℕ). Ok (built (owns 1 (before ++ b ∷ [])) s
      (instances p 3 before ++ own_instance first_address ∷ []))) new_parts
      ∙ ap (λ (i : List Instance). Ok (built (owns 1 (before ++ b ∷ [])) new_bytes i)) instances_are

-- ---- all bodies

module _ (p : Program) (pages spare : ℕ) (room : bytes_in p + spare ≡ 65536 * pages) (le : 1 ≤ pages)
    (distinct : AreDistinct (names p)) where
  bodies_linked : (before rest : Program) → p ≡ before ++ rest → (m : ℕ) → m ≡ 1 + length before
      → All (λ b. All (IsAmong (names p)) (imported_names b)) rest
      → linked_from (all p pages) m (map typed_module rest) (store p pages spare before rest)
      ≡ Ok (store p pages spare p [])
  unfolding linked_from
  bodies_linked before [] is m e among = ap (λ (q : Program). Ok (store p pages spare q []))
      (sym (is ∙ append-nil before))
  bodies_linked before (b ∷ rest) is m e among =
      let here = body_linked p pages spare room before rest b is distinct m e le
      (All-head (λ b. All (IsAmong (names p)) (imported_names b)) b rest among) in
      let next : suc m ≡ 1 + length (before ++ b ∷ []) = omega (arith, e, length-append before (b ∷ [])) in
      rw here (bodies_linked (before ++ b ∷ []) rest (is ∙ sym (append_assoc before (b ∷ []) rest)) (suc m) next
      (All-tail (λ b. All (IsAmong (names p)) (imported_names b)) b rest among))

  pub all_linked : All (λ b. All (IsAmong (names p)) (imported_names b)) p
      → linked_from (all p pages) 0 (all p pages) host_store ≡ Ok (store p pages spare p [])
  unfolding linked_from
  all_linked among = rw (first_linked p pages spare room) (bodies_linked [] p refl 1 refl among)

-- ---- run

pub run_found : (g : ℕ) (p : Program) → export_named (codes "run") (exports_from g (map part_of p) ++ run_export ∷ [])
    ≡ Some (exported.Function 0)
run_found g [] = refl
run_found g (b ∷ bs) = run_found (g + 3) bs

begun : (p : Program) (pages spare : ℕ) → bytes_in p + spare ≡ 65536 * pages → 1 ≤ pages → AreDistinct (names p)
    → All (λ b. All (IsAmong (names p)) (imported_names b)) p
    → link (all p pages) ≡ Ok (Going (store p pages spare p []) (begin p) [])
unfolding link
begun p pages spare room le distinct among = rw (run_found 1 p, all_linked p pages spare room le distinct among) refl

pub modules_link : (p : Program) (pages : ℕ) → IsLinkable p pages
    → link (all p pages) ≡ Ok (Going (linked_store p pages) (begin p) [])
modules_link p pages h =
    let room = h.room in
    begun p pages (65536 * pages - bytes_in p) (omega (arith, room)) h.memory h.distinct h.imports
