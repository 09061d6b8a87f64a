-- The store while modules are linked: one module more, and what stands where.
use Rattle.std.proofs.Common.{◌≡◌, ℕ, zero, suc, ◌+◌, ◌*◌, ◌<◌, Bool, true, false, List, [], ◌∷◌, ◌++◌, length, map, replicate, Option, Some, refl, sym, ap, ◌∙◌, append_assoc, codes, arith}
use Rattle.std.specs.Prelude.{slice_get}
use Rattle.std.specs.Str.{bytes_eq}
use Rattle.std.proofs.lemmas.List.{length-append, length-replicate, append-nil}
use Rattle.wasm_tree.specs.declared.module.Export.{Export}
use Rattle.wasm_tree.specs.declared.module.ExportKind.{ExportKind}
use Rattle.wasm_tree.specs.declared.module.ExportKind.TheVariants as exported
use Rattle.wasm_tree.specs.declared.store.Callee.{Callee}
use Rattle.wasm_tree.specs.declared.store.Instance.{Instance}
use Rattle.wasm_tree.specs.declared.store.Value.TheVariants.{I32}
use Rattle.wasm_tree.specs.Linking.{export_named}
use Rattle.typed_tree.specs.declared.typed_module.TypedModule.{TypedModule}
use Rattle.layout_storage.specs.Texts.{Texts, characters, module_texts}
use Rattle.def_scheme.specs.Scheme.{base_name, text_name, tab_name, exported_as}
use Rattle.def_scheme.specs.Modules.{slots, all_characters, part_of, exports_from}
use Rattle.law_modules.specs.Linked.{Program, names, variables, text, count, values, own_from, somes_from, owns, table_slots, image, places, place_of, base_at, text_at, tab_at, module_instance, instances, link_instance, link_values, slots_in, bytes_in, IsAmong}

-- so many functions of modules
abbrev pub counts : Program → ℕ
counts [] = 0
counts (b ∷ bs) = count b + counts bs

-- ---- texts

pub text_length : (ts : Texts) → length (all_characters ts) ≡ characters ts
text_length [] = refl
text_length (t ∷ ts) = length-append t (all_characters ts) ∙ ap (λ (n : ℕ). length t + n) (text_length ts)

-- ---- one more module

pub owns_more : (m : ℕ) (bs : Program) (b : TypedModule)
    → owns m (bs ++ b ∷ []) ≡ owns m bs ++ own_from (m + length bs) 0 (count b)
owns_more m [] b = let e : m ≡ m + 0 = omega arith in
    append-nil (own_from m 0 (count b)) ∙ ap (λ (n : ℕ). own_from n 0 (count b)) e
owns_more m (x ∷ bs) b =
    let e : m + 1 + length bs ≡ m + suc (length bs) = omega arith in
    ap (λ (r : List Callee). own_from m 0 (count x) ++ r)
    (owns_more (m + 1) bs b ∙ ap (λ (n : ℕ). owns (m + 1) bs ++ own_from n 0 (count b)) e)
    ∙ sym (append_assoc (own_from m 0 (count x)) (owns (m + 1) bs) (own_from (m + suc (length bs)) 0 (count b)))

pub filled_more : (a : ℕ) (bs : Program) (b : TypedModule)
    → table_slots a (bs ++ b ∷ []) ≡ table_slots a bs ++ somes_from (a + counts bs + 5) (slots b)
filled_more a [] b = let e : a + 5 ≡ a + 0 + 5 = omega arith in
    append-nil (somes_from (a + 5) (slots b)) ∙ ap (λ (n : ℕ). somes_from n (slots b)) e
filled_more a (x ∷ bs) b =
    let e : a + count x + counts bs + 5 ≡ a + (count x + counts bs) + 5 = omega arith in
    ap (λ (r : List (Option ℕ)). somes_from (a + 5) (slots x) ++ r)
    (filled_more (a + count x) bs b ∙ ap (λ (n : ℕ). table_slots (a + count x) bs ++ somes_from n (slots b)) e)
    ∙ sym (append_assoc (somes_from (a + 5) (slots x)) (table_slots (a + count x) bs)
    (somes_from (a + (count x + counts bs) + 5) (slots b)))

pub instances_more : (p : Program) (a : ℕ) (bs : Program) (b : TypedModule)
    → instances p a (bs ++ b ∷ []) ≡ instances p a bs ++ module_instance p (a + counts bs) b ∷ []
instances_more p a [] b = let e : a ≡ a + 0 = omega arith in ap (λ (n : ℕ). module_instance p n b ∷ []) e
instances_more p a (x ∷ bs) b =
    let e : a + count x + counts bs ≡ a + (count x + counts bs) = omega arith in
    ap (λ (r : List Instance). module_instance p a x ∷ r)
    (instances_more p (a + count x) bs b ∙ ap
    (λ (n : ℕ). instances p (a + count x) bs ++ module_instance p n b ∷ []) e)

pub image_more : (bs : Program) (b : TypedModule)
    → image (bs ++ b ∷ []) ≡ image bs ++ (replicate (variables b) 0 ++ text b)
image_more [] b = ap (λ (r : List ℕ). replicate (variables b) 0 ++ r) (append-nil (text b))
image_more (x ∷ bs) b =
    let v : List ℕ = replicate (variables x) 0 in let last : List ℕ = replicate (variables b) 0 ++ text b in
    ap (λ (r : List ℕ). v ++ (text x ++ r)) (image_more bs b)
    ∙ ap (λ (r : List ℕ). v ++ r) (sym (append_assoc (text x) (image bs) last))
    ∙ sym (append_assoc v (text x ++ image bs) last)

pub slots_more : (bs : Program) (b : TypedModule) → slots_in (bs ++ b ∷ []) ≡ slots_in bs + slots b
slots_more [] b = omega arith
slots_more (x ∷ bs) b = let i = slots_more bs b in omega (arith, i)

-- ---- lengths

owned_length : (m f n : ℕ) → length (own_from m f n) ≡ n
owned_length m f zero = refl
owned_length m f (suc n) = ap suc (owned_length m (suc f) n)

pub owns_length : (m : ℕ) (bs : Program) → length (owns m bs) ≡ counts bs
owns_length m [] = refl
owns_length m (b ∷ bs) = let i = length-append (own_from m 0 (count b)) (owns (m + 1) bs) in
    let j = owned_length m 0 (count b) in let k = owns_length (m + 1) bs in omega (arith, i, j, k)

pub somes_length : (a n : ℕ) → length (somes_from a n) ≡ n
somes_length a zero = refl
somes_length a (suc n) = ap suc (somes_length (suc a) n)

pub filled_length : (a : ℕ) (bs : Program) → length (table_slots a bs) ≡ slots_in bs
filled_length a [] = refl
filled_length a (b ∷ bs) = let i = length-append (somes_from (a + 5) (slots b)) (table_slots (a + count b) bs) in
    let j = somes_length (a + 5) (slots b) in let k = filled_length (a + count b) bs in omega (arith, i, j, k)

pub image_length : (bs : Program) → length (image bs) ≡ bytes_in bs
image_length [] = refl
image_length (b ∷ bs) =
    let i = length-append (replicate (variables b) 0) (text b ++ image bs) in
    let j = length-append (text b) (image bs) in let k = image_length bs in
    let v : length (replicate {A = ℕ} (variables b) 0) ≡ variables b = length-replicate (variables b) 0 in
    let t = text_length (module_texts b) in
    omega (arith, i, j, k, v, t)

-- ---- what stands where

pub place_is : (from k : ℕ) (p : Program) → k < 3 * length p → slice_get (places from p) k ≡ Some (from + k)
place_is from k [] lt = absurd (omega (arith, lt))
place_is from zero (b ∷ bs) lt = ap Some (omega arith)
place_is from (suc zero) (b ∷ bs) lt = refl
place_is from (suc (suc zero)) (b ∷ bs) lt = refl
place_is from (suc (suc (suc k))) (b ∷ bs) lt = place_is (from + 3) k bs (omega (arith, lt)) ∙ ap Some (omega arith)

-- link's globals are numbered from 0
pub global_place : (k : ℕ) (p : Program) → k < 1 + 3 * length p → slice_get (link_instance p).globals k ≡ Some k
global_place zero p lt = refl
global_place (suc k) p lt = place_is 1 k p (omega (arith, lt)) ∙ ap Some (omega arith)

-- each of them is of 32 bits
value_is : (place slot k : ℕ) (p : Program) → k < 3 * length p → (n : ℕ)
    × (slice_get (values place slot p) k ≡ Some (I32 n))
value_is place slot k [] lt = absurd (omega (arith, lt))
value_is place slot zero (b ∷ bs) lt = (place, refl)
value_is place slot (suc zero) (b ∷ bs) lt = (place + variables b, refl)
value_is place slot (suc (suc zero)) (b ∷ bs) lt = (slot, refl)
value_is place slot (suc (suc (suc k))) (b ∷ bs) lt =
    value_is (place + variables b + characters (module_texts b)) (slot + slots b) k bs (omega (arith, lt))

pub link_value : (k : ℕ) (p : Program) (pages : ℕ) → k < 1 + 3 * length p → (n : ℕ)
    × (slice_get (link_values p pages) k ≡ Some (I32 n))
link_value zero p pages lt = (65536 * pages, refl)
link_value (suc k) p pages lt = value_is 0 1 k p (omega (arith, lt))

-- the first slot of a module, and the place of its texts
pub slot_is : (place slot : ℕ) (before rest : Program) (b : TypedModule)
    → slice_get (values place slot (before ++ b ∷ rest)) (2 + 3 * length before) ≡ Some (I32 (slot + slots_in before))
slot_is place slot [] rest b = ap (λ (n : ℕ). Some (I32 n)) (omega arith)
slot_is place slot (x ∷ before) rest b =
    let index : 2 + 3 * length (x ∷ before) ≡ suc (suc (suc (2 + 3 * length before))) = omega arith in
    ap (slice_get (values place slot (x ∷ before ++ b ∷ rest))) index
    ∙ slot_is (place + variables x + characters (module_texts x)) (slot + slots x) before rest b
    ∙ ap (λ (n : ℕ). Some (I32 n)) (omega arith)

pub text_is : (place slot : ℕ) (before rest : Program) (b : TypedModule)
    → slice_get (values place slot (before ++ b ∷ rest)) (1 + 3 * length before)
    ≡ Some (I32 (place + bytes_in before + variables b))
text_is place slot [] rest b = ap (λ (n : ℕ). Some (I32 n)) (omega arith)
text_is place slot (x ∷ before) rest b =
    let index : 1 + 3 * length (x ∷ before) ≡ suc (suc (suc (1 + 3 * length before))) = omega arith in
    ap (slice_get (values place slot (x ∷ before ++ b ∷ rest))) index
    ∙ text_is (place + variables x + characters (module_texts x)) (slot + slots x) before rest b
    ∙ ap (λ (n : ℕ). Some (I32 n)) (omega arith)

-- ---- names

pub place_within : (name : List ℕ) (xs : List (List ℕ)) → IsAmong xs name → place_of name xs < length xs
place_within name [] e = absurd cc
place_within name (x ∷ xs) e = by (bytes_eq x name) refl (λ h. place_within name xs h)
  where
    by : (b : Bool) → bytes_eq x name ≡ b → (IsAmong xs name → place_of name xs < length xs)
        → place_of name (x ∷ xs) < length (x ∷ xs)
    by true is onward = rw is (omega arith)
    by false is onward = let lt : place_of name xs < length xs = onward (sym (rw is refl) ∙ e) in
        rw is (omega (arith, lt))

-- the exports of a module are found under its names
record AreFound (name : List ℕ) (g : ℕ) (p : Program) (others : List Export) : Type 0 where
  base : export_named (base_name name) (exports_from g (map part_of p) ++ others)
      ≡ Some (exported.Global (g + 3 * place_of name (names p)))
  text : export_named (text_name name) (exports_from g (map part_of p) ++ others)
      ≡ Some (exported.Global (g + 1 + 3 * place_of name (names p)))
  tab : export_named (tab_name name) (exports_from g (map part_of p) ++ others)
      ≡ Some (exported.Global (g + 2 + 3 * place_of name (names p)))

abbrev global_of : ℕ → Option ExportKind
global_of n = Some (exported.Global n)

are_found : (name : List ℕ) (g : ℕ) (p : Program) (others : List Export) → IsAmong (names p) name
    → AreFound name g p others
are_found name g [] others e = absurd cc
are_found name g (b ∷ bs) others e = by (bytes_eq b.name name) refl (λ h. are_found name (g + 3) bs others h)
  where
    by : (t : Bool) → bytes_eq b.name name ≡ t → (IsAmong (names bs) name → AreFound name (g + 3) bs others)
        → AreFound name g (b ∷ bs) others
    by true is onward = record {
      base = rw is (ap global_of (omega arith));
      text = rw is (ap global_of (omega arith));
      tab = rw is (ap global_of (omega arith));
    }
    by false is onward =
        let h = onward (sym (rw is refl) ∙ e) in record {
          base = rw is (h.base ∙ ap global_of (omega arith));
          text = rw is (h.text ∙ ap global_of (omega arith));
          tab = rw is (h.tab ∙ ap global_of (omega arith));
        }

abbrev pub run_export : Export
run_export = exported_as (codes "run") (exported.Function 0)

abbrev pub link_exports : Program → List Export
link_exports p =
    exported_as (codes "memory") (exported.Memory 0) ∷ exported_as (codes "table") (exported.Table 0)
    ∷ exported_as (codes "limit") (exported.Global 0)
    ∷ (exports_from 1 (map part_of p) ++ run_export ∷ [])

module _ (p : Program) (name : List ℕ) (e : IsAmong (names p) name) where
  found : AreFound name 1 p (run_export ∷ [])
  found = are_found name 1 p (run_export ∷ []) e

  pub base_found : export_named (base_name name) (link_exports p) ≡ Some (exported.Global (base_at p name))
  base_found = found.base

  pub text_found : export_named (text_name name) (link_exports p) ≡ Some (exported.Global (text_at p name))
  text_found = found.text

  pub tab_found : export_named (tab_name name) (link_exports p) ≡ Some (exported.Global (tab_at p name))
  tab_found = found.tab
