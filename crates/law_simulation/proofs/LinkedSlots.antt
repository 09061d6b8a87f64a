-- The texts of a module, and the slots of procedures.
use Rattle.std.proofs.Common.{◌≡◌, ℕ, suc, ◌+◌, ◌-◌, ◌*◌, ◌<◌, ◌≤◌, Bool, true, false, List, [], ◌∷◌, ◌++◌, length, map, Some, if◌then◌else◌, refl, sym, ap, ◌∙◌, append_assoc, replicate, arith}
use Rattle.std.specs.Prelude.{slice_get, get_or}
use Rattle.std.proofs.lemmas.List.{length-append, length-replicate, get_or_append_left, get_or-append-add}
use Rattle.std.proofs.lemmas.Option.{slice_get_within}
use Rattle.wasm_tree.specs.declared.store.Value.TheVariants.{I32}
use Rattle.wasm_tree.specs.Validity.{AreDistinct}
use Rattle.wasm_tree.specs.Machine.{global_at}
use Rattle.law_effect.specs.Bytes.{byte}
use Rattle.law_effect.specs.Effect.{store_of}
use Rattle.typed_tree.specs.declared.typed_module.TypedModule.{TypedModule}
use Rattle.layout_storage.specs.Types.{Ty, Hidden, row, component}
use Rattle.layout_storage.specs.Sizes.{size, offset}
use Rattle.layout_storage.specs.Shapes.{tree}
use Rattle.layout_storage.specs.Texts.{characters, module_texts}
use Rattle.def_meaning.specs.Environment.{module_place, entries_before}
use Rattle.def_scheme.specs.Exprs.{is_own, import_place, slots_global}
use Rattle.def_scheme.specs.Modules.{slots}
use Rattle.law_modules.specs.Linked.{Program, names, imported_names, variables, text, image, base_at, text_at, tab_at, imported_places, slots_in, bytes_in}
use Rattle.law_modules.proofs.Stores.{text_length}
use Rattle.law_simulation.specs.RunsPrograms.{module_type, first_bytes, ground, fixtures_of}
use Rattle.law_simulation.proofs.Grounds.{top_is}
use Rattle.law_simulation.specs.Knows.{IsCoherent}
use Rattle.law_simulation.proofs.Globals.{Split, Import, imported_tab, tab_value, component_module, offset_module, here, global_at_place, known, name_there, its_place}

-- ---- the characters of texts

byte_is : (xs : List ℕ) (n : ℕ) → byte n xs ≡ get_or xs n 0
byte_is xs n = refl

-- they stand behind the variables of the module
text_byte : (before rest : Program) (m : TypedModule) (back : List ℕ) (n : ℕ) → n < length (text m)
    → get_or (image (before ++ m ∷ rest) ++ back) (bytes_in before + variables m + n) 0 ≡ get_or (text m) n 0
text_byte [] rest m back n h =
    let zeros : List ℕ = replicate (variables m) 0 in
    let long : length zeros ≡ variables m = length-replicate (variables m) 0 in
    ap (λ (xs : List ℕ). get_or xs (0 + variables m + n) 0) (append_assoc zeros (text m ++ image rest) back)
    ∙ ap (λ (i : ℕ). get_or (zeros ++ ((text m ++ image rest) ++ back)) i 0) (omega (arith, long))
    ∙ get_or-append-add zeros ((text m ++ image rest) ++ back) n 0
    ∙ ap (λ (xs : List ℕ). get_or xs n 0) (append_assoc (text m) (image rest) back)
    ∙ get_or_append_left (text m) (image rest ++ back) 0 n h
text_byte (x ∷ before) rest m back n h =
    let zeros : List ℕ = replicate (variables x) 0 in
    let front : List ℕ = zeros ++ text x in
    let behind : List ℕ = image (before ++ m ∷ rest) in
    let long : length zeros ≡ variables x = length-replicate (variables x) 0 in
    let both = length-append zeros (text x) in
    let chars = text_length (module_texts x) in
    ap (λ (xs : List ℕ). get_or xs (bytes_in (x ∷ before) + variables m + n) 0)
    (ap (λ (xs : List ℕ). xs ++ back) (sym (append_assoc zeros (text x) behind)) ∙ append_assoc front behind back)
    ∙ ap (λ (i : ℕ). get_or (front ++ (behind ++ back)) i 0) (omega (arith, long, both, chars))
    ∙ get_or-append-add front (behind ++ back) (bytes_in before + variables m + n) 0
    ∙ text_byte before rest m back n h

-- the entries of the table before those of a module
entries_are : (before rest : Program) (m : TypedModule)
    → entries_before (length before) (before ++ m ∷ rest) ≡ slots_in before
entries_are [] rest m = refl
entries_are (x ∷ before) rest m = ap (λ (n : ℕ). suc (length x.procedures) + n) (entries_are before rest m)

-- so many stand before a module's
pub entry_value : (p : Program) (j : ℕ) (m : TypedModule) (s : Split p j m) → slots_in s.before ≡ entries_before j p
entry_value p j m s = sym (entries_are s.before s.rest m) ∙ ap (entries_before (length s.before)) (sym s.is)
    ∙ ap (λ (i : ℕ). entries_before i p) s.long

pub slots_within : (before rest : Program) (m : TypedModule) → slots_in before + slots m ≤ slots_in (before ++ m ∷ rest)
slots_within [] rest m = omega arith
slots_within (x ∷ before) rest m = let e = slots_within before rest m in omega (arith, e)

room_offset : (ts : List Ty) (n : ℕ) → offset (row (ts ++ Hidden n ∷ [])) (length ts ∷ []) ≡ size (row ts)
unfolding offset size
room_offset [] n = refl
room_offset (t ∷ ts) n = ap (λ (o : ℕ). size t + o) (room_offset ts n)

room_type : (ts : List Ty) (n : ℕ) → component (row (ts ++ Hidden n ∷ [])) (length ts ∷ []) ≡ Some (Hidden n)
unfolding component
room_type [] n = refl
room_type (t ∷ ts) n = room_type ts n

pub same_module : (a b : TypedModule) → Some a ≡ Some b → a ≡ b
same_module a b e = cc e

module _ (p : Program) (pages place : ℕ) (distinct : AreDistinct (names p)) (m : TypedModule)
    (coherent : IsCoherent p place m) where
  abbrev h : Split p place m
  h = here p pages place distinct m coherent

  abbrev last : ℕ
  last = length (map (tree m.types) m.variables)

  abbrev room : List ℕ
  room = place ∷ last ∷ []

  pub room_there : component (row (ground p pages).base) room ≡ Some (Hidden (characters (module_texts m)))
  room_there =
      ap (λ (q : Program). component (row (map module_type q)) room) h.is
      ∙ ap (λ (j : ℕ). component (row (map module_type (h.before ++ m ∷ h.rest))) (j ∷ last ∷ [])) (sym h.long)
      ∙ component_module h.before h.rest m (last ∷ [])
      ∙ room_type (map (tree m.types) m.variables) (characters (module_texts m))

  pub room_at : offset (row (ground p pages).base) room ≡ bytes_in h.before + variables m
  room_at =
      ap (λ (q : Program). offset (row (map module_type q)) room) h.is
      ∙ ap (λ (j : ℕ). offset (row (map module_type (h.before ++ m ∷ h.rest))) (j ∷ last ∷ [])) (sym h.long)
      ∙ offset_module h.before h.rest m (last ∷ [])
      ∙ ap (λ (n : ℕ). n + offset (module_type m) (last ∷ [])) (top_is h.before)
      ∙ ap (λ (n : ℕ). bytes_in h.before + n)
      (room_offset (map (tree m.types) m.variables) (characters (module_texts m)))

  pub room_byte : (n : ℕ) → n < length (text m) → (ground p pages).texts room n ≡ get_or (text m) n 0
  room_byte n less =
      ap (λ (o : ℕ). byte (o + n) (first_bytes p pages)) room_at
      ∙ byte_is (first_bytes p pages) (bytes_in h.before + variables m + n)
      ∙ ap (λ (q : Program). get_or (image q ++ replicate (65536 * pages - bytes_in p) 0)
      (bytes_in h.before + variables m + n) 0) h.is
      ∙ text_byte h.before h.rest m (replicate (65536 * pages - bytes_in p) 0) n less

  within : place < length p
  within = slice_get_within p place m coherent.there

  pub tab_own : (bytes : List ℕ) (home : ℕ) → is_own m home ≡ true
      → global_at (store_of (fixtures_of p pages) bytes) (suc place) (slots_global m home)
      ≡ Some (I32 (1 + slots_in h.before))
  tab_own bytes home e =
      ap (λ (b : Bool). global_at (store_of (fixtures_of p pages) bytes) (suc place)
      (if b then 3 else 5 + 2 * import_place m home)) e
      ∙ global_at_place p pages place distinct m coherent bytes 3 (tab_at p m.name) (I32 (1 + slots_in h.before)) refl
      (tab_value p pages distinct h.before h.rest m h.is)

  pub tab_imported : (bytes : List ℕ) (home : ℕ) → is_own m home ≡ false → (i : Import m home)
      → global_at (store_of (fixtures_of p pages) bytes) (suc place) (slots_global m home)
      ≡ Some (I32 (1 + slots_in (its_place p pages place distinct m coherent home i).before))
  tab_imported bytes home e i =
      let s = its_place p pages place distinct m coherent home i in
      let k = known p pages place distinct m coherent home i in
      ap (λ (b : Bool). global_at (store_of (fixtures_of p pages) bytes) (suc place)
      (if b then 3 else 5 + 2 * import_place m home)) e
      ∙ global_at_place p pages place distinct m coherent bytes (5 + 2 * import_place m home) (tab_at p k.home.name)
      (I32 (1 + slots_in s.before))
      (ap (slice_get (0 ∷ base_at p m.name ∷ text_at p m.name ∷ tab_at p m.name ∷ imported_places p (imported_names m)))
      (let j : 5 + 2 * import_place m home ≡ suc (suc (suc (suc (suc (2 * import_place m home))))) = omega arith in
      j)
      ∙ imported_tab p (imported_names m) (import_place m home) k.home.name
      (name_there p pages place distinct m coherent home i))
      (tab_value p pages distinct s.before s.rest k.home s.is)

  -- the same, by the module that is there
  pub tab_elsewhere : (bytes : List ℕ) (home : ℕ) → is_own m home ≡ false → (i : Import m home)
      → (other : TypedModule) (found : slice_get p (module_place p home) ≡ Some other)
      (coherent' : IsCoherent p (module_place p home) other)
      → global_at (store_of (fixtures_of p pages) bytes) (suc place) (slots_global m home)
      ≡ Some (I32 (1 + slots_in (here p pages (module_place p home) distinct other coherent').before))
  tab_elsewhere bytes home e i other found coherent' =
      let s = its_place p pages place distinct m coherent home i in
      let t = here p pages (module_place p home) distinct other coherent' in
      let k = known p pages place distinct m coherent home i in
      let same : k.home ≡ other = same_module k.home other
      (sym k.there ∙ ap (λ (n : ℕ). slice_get p (module_place p n)) i.number ∙ found) in
      tab_imported bytes home e i
      ∙ ap (λ (n : ℕ). Some (I32 (1 + n))) (sym (entries_are s.before s.rest k.home)
      ∙ ap (entries_before (length s.before)) (sym s.is) ∙ ap (λ (j : ℕ). entries_before j p) (s.long ∙ sym t.long)
      ∙ ap (entries_before (length t.before)) t.is ∙ entries_are t.before t.rest other)
