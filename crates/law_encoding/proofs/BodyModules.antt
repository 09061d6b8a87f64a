-- The module of a body has room if its functions do and its tables, texts, names and types are small.
use Rattle.std.proofs.Common.{◌≡◌, ℕ, zero, suc, ◌+◌, ◌*◌, ◌^◌, ◌≤◌, ◌<◌, true, nat_lt, List, [], ◌∷◌, ◌++◌, length, refl, ◌∙◌, arith}
use Rattle.std.specs.List.{list_all, flat_map, range_with_len}
use Rattle.std.proofs.lemmas.Bool.{lt-ltb}
use Rattle.std.proofs.lemmas.List.{length-append, length-map}
use Rattle.std.proofs.lemmas.List.FromFn.{length-range_with_len}
use Rattle.wasm_tree.specs.declared.instr.Instr.TheVariants.{GlobalGet}
use Rattle.wasm_tree.specs.declared.instr.Instr.TheVariants.{outs-GlobalGet}
use Rattle.wasm_tree.specs.declared.instr.Instr.TheOpen as layer
use Rattle.wasm_tree.specs.declared.module.Function.{Function}
use Rattle.wasm_tree.specs.declared.module.Element.{Element}
use Rattle.wasm_tree.specs.declared.module.Data.{Data}
use Rattle.wasm_code.specs.Number.{unsigned}
use Rattle.wasm_code.specs.Parts.{vector, with_size, bytes_left, section}
use Rattle.wasm_code.specs.Instructions.{code}
use Rattle.wasm_binary.specs.Binary.{element_segment, data_segment, types_of, module_fits}
use Rattle.typed_tree.specs.declared.typed_module.TypedModule.{TypedModule}
use Rattle.def_scheme.specs.Coded.{body_index}
use Rattle.def_scheme.specs.Modules.{functions, slots, data_of, typed_module}
use Rattle.law_encoding.specs.Sizes.{sum_of}
use Rattle.law_encoding.specs.CodeBytes.{bytes, function_bytes}
use Rattle.law_encoding.specs.CodeNumbers.{code_numbers_fit}
use Rattle.law_encoding.specs.Fits.{max_bytes, few_entries, BodyHasRoom}
use Rattle.law_encoding.proofs.Levels.{Flat, flat_end, ◌▹◌, globals, none_most}
use Rattle.law_encoding.proofs.CodeLengths.{Short, short_end}
use Rattle.law_encoding.proofs.CodeLengths as lengths
use Rattle.law_encoding.proofs.CodeFits.{both_true, at_numbers}
use Rattle.law_encoding.proofs.EncodedBytes.{unsigned_short, labels_short}
use Rattle.law_encoding.proofs.FunctionsFit.{within_levels, ended_short, module_has_room}

-- ---- the types of the functions

-- each function takes eleven bytes at least
pub eleven : (fs : List Function) → 11 * length fs ≤ sum_of function_bytes fs
eleven [] = none where
  none : 11 * 0 ≤ 0
  none = omega arith
eleven (f ∷ fs) = one_more (length fs) (sum_of function_bytes fs) _ (eleven fs) where
  one_more : (n s k : ℕ) → 11 * n ≤ s → 11 * suc n ≤ 11 + k + s
  one_more n s k h = omega (arith, h)

short_uses : (m u b n s : ℕ) → m ≡ u + b → u ≤ 5 → b ≤ 5 * n → 11 * n ≤ s → 5 + s < max_bytes → m < max_bytes
short_uses m u b n s e h l k i = omega (arith, e, h, l, k, i)

same_many : (fs : List Function) → length (types_of fs) ≡ length fs
same_many fs = length-map fs (λ (f : Function). f.type_index)

some : (n : ℕ) → 0 < suc n
some n = omega arith

numbers_section : (n : ℕ) (ns : List ℕ) (k s : ℕ) → length (n ∷ ns) ≡ k → list_all unsigned.fits (n ∷ ns) ≡ true
    → 11 * k ≤ s → 5 + s < max_bytes → (section 3 unsigned).fits (n ∷ ns) ≡ true
numbers_section n ns k s c e h l =
    let few_of = few_by (length (n ∷ ns)) k s c h l in
    both_true _ _ (both_true _ _ (lt-ltb _ _ (some (length ns))) (both_true _ _ few_of e))
    (lt-ltb _ _ (short_uses _ (length (unsigned.encoding (length (n ∷ ns))))
    (length (flat_map unsigned.encoding (n ∷ ns))) (length (n ∷ ns)) s
    (length-append (unsigned.encoding (length (n ∷ ns))) (flat_map unsigned.encoding (n ∷ ns)))
    (unsigned_short (length (n ∷ ns)) few_of) (labels_short (n ∷ ns) e) (as_many (length (n ∷ ns)) k s c h) l)) where
      few_by : (a b t : ℕ) → a ≡ b → 11 * b ≤ t → 5 + t < max_bytes → nat_lt a max_bytes ≡ true
      few_by a b t c h l = lt-ltb _ _ (fewer a b t c h l) where
        fewer : (a b t : ℕ) → a ≡ b → 11 * b ≤ t → 5 + t < max_bytes → a < max_bytes
        fewer a b t c h l = omega (arith, c, h, l)

      as_many : (a b t : ℕ) → a ≡ b → 11 * b ≤ t → 11 * a ≤ t
      as_many a b t c h = omega (arith, c, h)

pub uses_fit : (fs : List Function) → list_all unsigned.fits (types_of fs) ≡ true
    → 5 + sum_of function_bytes fs < max_bytes → (section 3 unsigned).fits (types_of fs) ≡ true
uses_fit [] e h = refl
uses_fit (f ∷ fs) e h = numbers_section f.type_index (types_of fs) (length (f ∷ fs)) (sum_of function_bytes (f ∷ fs))
    (same_many (f ∷ fs)) e (eleven (f ∷ fs)) h

-- ---- the slots

one_global : (x : ℕ) → unsigned.fits x ≡ true → code_numbers_fit (GlobalGet x ∷ []) ≡ true
unfolding code_numbers_fit
one_global x e = both_true _ _ (at_numbers (GlobalGet x) (layer.GlobalGet x) (outs-GlobalGet x) ∙ e) refl

flat_global : (x : ℕ) → Flat (GlobalGet x ∷ [])
flat_global x = globals x ▹ flat_end

short_global : (x : ℕ) → Short 6 (GlobalGet x ∷ [])
short_global x = lengths.◌▹◌ (lengths.globals x) short_end

offset_fits : (x : ℕ) → unsigned.fits x ≡ true → code.fits (GlobalGet x ∷ []) ≡ true
offset_fits x e = within_levels (GlobalGet x ∷ []) (none_most _ 4096 (flat_global x).none) (one_global x e)

seven : (m b : ℕ) → m ≤ b + 1 → b ≤ 6 → m ≤ 7
seven m b h l = omega (arith, h, l)

offset_short : (x : ℕ) → unsigned.fits x ≡ true → length (code.encoding (GlobalGet x ∷ [])) ≤ 7
offset_short x e = seven _ (bytes (GlobalGet x ∷ [])) (ended_short (GlobalGet x ∷ []) (one_global x e))
    (short_global x).at_most

first_slot : (a n : ℕ) → a + suc n ≤ max_bytes → a < max_bytes
first_slot a n h = omega (arith, h)

next_slots : (a n : ℕ) → a + suc n ≤ max_bytes → a + 1 + n ≤ max_bytes
next_slots a n h = omega (arith, h)

slots_fit : (a n : ℕ) → a + n ≤ max_bytes → list_all unsigned.fits (range_with_len a n) ≡ true
slots_fit a zero h = refl
slots_fit a (suc n) h = both_true _ _ (lt-ltb _ _ (first_slot a n h)) (slots_fit (a + 1) n (next_slots a n h))

abbrev slots_of : ℕ → Element
slots_of n = record { table = 0; offset = GlobalGet 3 ∷ []; functions = range_with_len body_index n }

few_slots : (n k : ℕ) → k ≡ n → n ≤ few_entries → k < max_bytes
few_slots n k e h = omega (arith, e, h)

within_bytes : (n : ℕ) → n ≤ few_entries → 7 + n ≤ max_bytes
within_bytes n h = omega (arith, h)

slots_vector : (n : ℕ) → n ≤ few_entries → (vector unsigned).fits (range_with_len body_index n) ≡ true
slots_vector n h = both_true _ _ (lt-ltb _ _ (few_slots n _ (length-range_with_len body_index n) h))
    (slots_fit body_index n (within_bytes n h))

element_fits : (n : ℕ) → n ≤ few_entries → element_segment.fits (slots_of n) ≡ true
unfolding element_segment
element_fits n h = both_true _ _ refl (both_true _ _ (offset_fits 3 refl) (slots_vector n h))

element_sum : (m a r o v c f n k : ℕ) → m ≡ a + r → a ≤ 5 → r ≡ o + v → o ≤ 7 → v ≡ c + f → c ≤ 5 → f ≤ 5 * k → k ≡ n
    → m ≤ 17 + 5 * n
element_sum m a r o v c f n k e h g l i j p q = omega (arith, e, h, g, l, i, j, p, q)

element_short : (n : ℕ) → n ≤ few_entries → length (element_segment.encoding (slots_of n)) ≤ 17 + 5 * n
unfolding element_segment
element_short n h =
    let ns = range_with_len body_index n in
    let count = length-range_with_len body_index n in
    element_sum _ (length (unsigned.encoding 0))
    (length (code.encoding (GlobalGet 3 ∷ []) ++ (vector unsigned).encoding ns))
    (length (code.encoding (GlobalGet 3 ∷ []))) (length ((vector unsigned).encoding ns))
    (length (unsigned.encoding (length ns)))
    (length (flat_map unsigned.encoding ns)) n (length ns)
    (length-append (unsigned.encoding 0) (code.encoding (GlobalGet 3 ∷ []) ++ (vector unsigned).encoding ns))
    (unsigned_short 0 refl)
    (length-append (code.encoding (GlobalGet 3 ∷ [])) ((vector unsigned).encoding ns)) (offset_short 3 refl)
    (length-append (unsigned.encoding (length ns)) (flat_map unsigned.encoding ns))
    (unsigned_short (length ns) (lt-ltb _ _ (few_slots n _ count h)))
    (labels_short ns (slots_fit body_index n (within_bytes n h))) count

alone_sum : (m u b x : ℕ) → m ≡ u + b → b ≡ x + 0 → u ≤ 5 → x < 2 ^ 31 → m < max_bytes
alone_sum m u b x e f h l = omega (arith, e, f, h, l)

element_room : (m n : ℕ) → m ≤ 17 + 5 * n → n ≤ few_entries → m < 2 ^ 31
element_room m n h l = omega (arith, h, l)

elements_fit : (n : ℕ) → n ≤ few_entries → (section 9 element_segment).fits (slots_of n ∷ []) ≡ true
elements_fit n h =
    both_true _ _ (both_true true _ refl (both_true true _ refl (both_true _ _ (element_fits n h) refl)))
    (lt-ltb _ _ (alone_sum _ (length (unsigned.encoding 1)) (length (element_segment.encoding (slots_of n) ++ []))
    (length (element_segment.encoding (slots_of n)))
    (length-append (unsigned.encoding 1) (element_segment.encoding (slots_of n) ++ []))
    (length-append (element_segment.encoding (slots_of n)) []) (unsigned_short 1 refl)
    (element_room _ n (element_short n h) h)))

-- ---- the texts

abbrev segment_of : List ℕ → Data
segment_of bs = record { memory = 0; offset = GlobalGet 2 ∷ []; bytes = bs }

few_bytes : (n : ℕ) → n ≤ few_entries → n < max_bytes
few_bytes n h = omega (arith, h)

segment_fits : (bs : List ℕ) → list_all (λ b. nat_lt b 256) bs ≡ true → length bs ≤ few_entries
    → data_segment.fits (segment_of bs) ≡ true
unfolding data_segment
segment_fits bs e h = both_true _ _ refl
    (both_true _ _ (offset_fits 2 refl) (both_true _ _ e (lt-ltb _ _ (few_bytes (length bs) h))))

segment_sum : (m a r o v c n : ℕ) → m ≡ a + r → a ≤ 5 → r ≡ o + v → o ≤ 7 → v ≡ c + n → c ≤ 5 → n ≤ few_entries
    → m < 2 ^ 31
segment_sum m a r o v c n e h g l i j p = omega (arith, e, h, g, l, i, j, p)

segment_short : (bs : List ℕ) → length bs ≤ few_entries → length (data_segment.encoding (segment_of bs)) < 2 ^ 31
unfolding data_segment
segment_short bs h =
    segment_sum _ (length (unsigned.encoding 0))
    (length (code.encoding (GlobalGet 2 ∷ []) ++ (with_size bytes_left).encoding bs))
    (length (code.encoding (GlobalGet 2 ∷ []))) (length ((with_size bytes_left).encoding bs))
    (length (unsigned.encoding (length bs))) (length bs)
    (length-append (unsigned.encoding 0) (code.encoding (GlobalGet 2 ∷ []) ++ (with_size bytes_left).encoding bs))
    (unsigned_short 0 refl)
    (length-append (code.encoding (GlobalGet 2 ∷ [])) ((with_size bytes_left).encoding bs)) (offset_short 2 refl)
    (length-append (unsigned.encoding (length bs)) bs)
    (unsigned_short (length bs) (lt-ltb _ _ (few_bytes (length bs) h))) h

texts_fit : (bs : List ℕ) → list_all (λ b. nat_lt b 256) bs ≡ true → length bs ≤ few_entries
    → (section 11 data_segment).fits (data_of bs) ≡ true
texts_fit [] e h = refl
texts_fit (b ∷ bs) e h =
    both_true _ _ (both_true true _ refl (both_true true _ refl (both_true _ _ (segment_fits (b ∷ bs) e h) refl)))
    (lt-ltb _ _ (alone_sum _ (length (unsigned.encoding 1)) (length (data_segment.encoding (segment_of (b ∷ bs)) ++ []))
    (length (data_segment.encoding (segment_of (b ∷ bs))))
    (length-append (unsigned.encoding 1) (data_segment.encoding (segment_of (b ∷ bs)) ++ []))
    (length-append (data_segment.encoding (segment_of (b ∷ bs))) []) (unsigned_short 1 refl)
    (segment_short (b ∷ bs) h)))

-- ---- the module

pub body_has_room : (m : TypedModule) → BodyHasRoom m → module_fits (typed_module m) ≡ true
body_has_room m p = module_has_room (typed_module m) (record {
  types = p.types;
  imports = p.imported;
  uses = uses_fit (functions m) p.uses p.bodies.size;
  tables = refl;
  memories = refl;
  globals = refl;
  exports = refl;
  elements = elements_fit (slots m) p.table;
  functions = p.bodies;
  segments = texts_fit _ p.texts p.texts_size;
})
