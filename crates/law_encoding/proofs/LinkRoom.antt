-- The module link has room, if the program is small.
use Rattle.std.proofs.Common.{map, ◌≡◌, ℕ, suc, ◌+◌, ◌*◌, ◌≤◌, ◌<◌, true, List, [], ◌∷◌, ◌++◌, length, Some, refl, sym, subst, ◌∙◌, arith}
use Rattle.std.specs.Prelude.{codes}
use Rattle.std.specs.List.{list_all, flat_map}
use Rattle.std.proofs.lemmas.Bool.{and_parts, lt-ltb}
use Rattle.std.proofs.lemmas.List.{length-append, length-map}
use Rattle.wasm_tree.specs.declared.kinds.Limits.{Limits}
use Rattle.wasm_tree.specs.declared.kinds.ValueType.TheVariants.{I32}
use Rattle.wasm_tree.specs.declared.instr.Instr.TheOpen as layer
use Rattle.wasm_tree.specs.declared.instr.Instr.TheVariants.{I32Const, GlobalGet, CallIndirect, outs-I32Const, outs-GlobalGet, outs-CallIndirect}
use Rattle.wasm_tree.specs.declared.module.Export.{Export}
use Rattle.wasm_tree.specs.declared.module.ExportKind.{ExportKind}
use Rattle.wasm_tree.specs.declared.module.ExportKind.TheVariants as exported
use Rattle.wasm_tree.specs.declared.module.Global.{Global}
use Rattle.wasm_tree.specs.declared.kinds.TableType.{TableType}
use Rattle.wasm_code.specs.Number.{unsigned}
use Rattle.wasm_code.specs.Parts.{name, section}
use Rattle.wasm_code.specs.Instructions.{value_type}
use Rattle.wasm_binary.specs.Binary.{limits, table_type, memory_type, global, export_kind, export, func_type, module_fits}
use Rattle.typed_tree.specs.declared.typed_module.TypedModule.{TypedModule}
use Rattle.def_scheme.specs.Scheme.{type_from, constant_global, exported_as, base_name, text_name, tab_name}
use Rattle.def_scheme.specs.Modules.{max_pages, Part, part_of, globals_from, exports_from, stack_begin, all_slots, calls_from, typed_link}
use Rattle.law_encoding.specs.Sizes.{sum_of}
use Rattle.law_encoding.specs.CodeBytes.{bytes}
use Rattle.law_encoding.specs.CodeNumbers.{code_numbers_fit}
use Rattle.law_encoding.specs.Fits.{max_bytes, few_entries, FunctionsFit}
use Rattle.law_encoding.specs.LinkRoom.{LinkIsSmall}
use Rattle.law_encoding.proofs.Sums.{sum_append, sum_map}
use Rattle.law_encoding.proofs.CodeFits.{both_true, at_numbers}
use Rattle.law_encoding.proofs.CodeLengths.{Short, short_end}
use Rattle.law_encoding.proofs.CodeLengths as lengths
use Rattle.law_encoding.proofs.Levels.{Flat, flat_end, ◌▹◌, address, none_most}
use Rattle.law_encoding.proofs.EncodedBytes.{unsigned_short}
use Rattle.law_encoding.proofs.FunctionsFit.{ended_short, within_levels, module_has_room}
use Rattle.law_encoding.proofs.BodyModules.{uses_fit}
use Rattle.law_encoding.proofs.DeepFunctions.{link_low}
use Rattle.law_encoding.proofs.FewTypes.{type_bytes, some_bytes, type_fits, type_short}
use Rattle.law_encoding.proofs.Sections.{entries_fit, section_fits}
use Rattle.law_encoding.proofs.Names.{name_fits, name_short, ascii_fits}

-- ---- limits

limits_fit : (l : Limits) (n : ℕ) → l ≡ record { min = n; max = Some n } → n < max_bytes → limits.fits l ≡ true
unfolding limits
limits_fit l n e h = subst (λ (x : Limits). limits.fits x ≡ true) (sym e)
    (both_true _ _ (lt-ltb n max_bytes h) (lt-ltb n max_bytes h))

two_numbers : (m a b : ℕ) → m ≡ a + b → a ≤ 5 → b ≤ 5 → suc m ≤ 11
two_numbers m a b e h l = omega (arith, e, h, l)

limits_short : (n : ℕ) → n < max_bytes → length (limits.encoding (record { min = n; max = Some n })) ≤ 11
unfolding limits
limits_short n h =
    let s = unsigned_short n (lt-ltb n max_bytes h) in
    two_numbers _ (length (unsigned.encoding n)) (length (unsigned.encoding n))
    (length-append (unsigned.encoding n) (unsigned.encoding n)) s s

alone : (m u b x : ℕ) → m ≡ u + b → b ≡ x + 0 → u ≤ 5 → x ≤ 12 → m < max_bytes
alone m u b x e f h l = omega (arith, e, f, h, l)

one_more : (a : ℕ) → a ≤ 11 → suc a ≤ 12
one_more a h = omega (arith, h)

twelve : (a : ℕ) → a ≤ 11 → a ≤ 12
twelve a h = omega (arith, h)

-- a section of one entry
one_entry : (n : ℕ) (t : TableType) → t ≡ record { limits = record { min = n; max = Some n } } → n < max_bytes
    → (section 4 table_type).fits (t ∷ []) ≡ true
unfolding table_type
one_entry n t e h =
    let l : Limits = record { min = n; max = Some n } in
    subst (λ (x : TableType). (section 4 table_type).fits (x ∷ []) ≡ true) (sym e)
    (both_true _ _ (both_true true _ refl (both_true true _ refl (both_true _ _ (limits_fit l n refl h) refl)))
    (lt-ltb _ max_bytes (alone _ (length (unsigned.encoding 1)) (length ((0x70 ∷ limits.encoding l) ++ []))
    (length (0x70 ∷ limits.encoding l)) (length-append (unsigned.encoding 1) ((0x70 ∷ limits.encoding l) ++ []))
    (length-append (0x70 ∷ limits.encoding l) []) (unsigned_short 1 refl) (one_more _ (limits_short n h)))))

one_memory : (n : ℕ) → n < max_bytes → (section 5 memory_type).fits
    (record { limits = record { min = n; max = Some n } } ∷ []) ≡ true
unfolding memory_type
one_memory n h =
    let l : Limits = record { min = n; max = Some n } in
    both_true _ _ (both_true true _ refl (both_true true _ refl (both_true _ _ (limits_fit l n refl h) refl)))
    (lt-ltb _ max_bytes (alone _ (length (unsigned.encoding 1)) (length (limits.encoding l ++ []))
    (length (limits.encoding l)) (length-append (unsigned.encoding 1) (limits.encoding l ++ []))
    (length-append (limits.encoding l) []) (unsigned_short 1 refl) (twelve _ (limits_short n h))))

-- ---- globals

constant_numbers : (n : ℕ) → n < max_bytes → code_numbers_fit (I32Const n ∷ []) ≡ true
unfolding code_numbers_fit
constant_numbers n h = both_true _ _ (at_numbers (I32Const n) (layer.I32Const n) (outs-I32Const n)
    ∙ lt-ltb n max_bytes h) refl

flat_constant : (n : ℕ) → Flat (I32Const n ∷ [])
flat_constant n = address n ▹ flat_end

short_constant : (n : ℕ) → Short 6 (I32Const n ∷ [])
short_constant n = lengths.◌▹◌ (lengths.address n) short_end

global_fits : (n : ℕ) → n < max_bytes → global.fits (constant_global n) ≡ true
unfolding global value_type
global_fits n h = both_true true _ refl (within_levels (I32Const n ∷ []) (none_most _ 4096 (flat_constant n).none)
    (constant_numbers n h))

nine : (m b : ℕ) → m ≤ b + 1 → b ≤ 6 → suc (suc m) ≤ 9
nine m b h l = omega (arith, h, l)

global_short : (n : ℕ) → n < max_bytes → length (global.encoding (constant_global n)) ≤ 9
unfolding global value_type
global_short n h = nine _ (bytes (I32Const n ∷ [])) (ended_short (I32Const n ∷ []) (constant_numbers n h))
    (short_constant n).at_most

three_global : (m a b : ℕ) → m ≡ a + b → a ≤ 9 → (n : ℕ) → b ≤ n → m ≤ 9 + n
three_global m a b e h n l = omega (arith, e, h, l)

more_globals : (ns : List Global) (n k : ℕ) → n < max_bytes → length (flat_map global.encoding ns) ≤ k
    → length (flat_map global.encoding (constant_global n ∷ ns)) ≤ 9 + k
more_globals ns n k h l = three_global _ (length (global.encoding (constant_global n))) _
    (length-append (global.encoding (constant_global n)) (flat_map global.encoding ns)) (global_short n h) k l

first_place : (p v t s : ℕ) → p + (v + t + s) < max_bytes → p < max_bytes
first_place p v t s h = omega (arith, h)

second_place : (p v t s : ℕ) → p + (v + t + s) < max_bytes → p + v < max_bytes
second_place p v t s h = omega (arith, h)

next_place : (p v t s : ℕ) → p + (v + t + s) < max_bytes → p + v + t + s < max_bytes
next_place p v t s h = omega (arith, h)

first_slot : (a b s : ℕ) → a + (b + s) < max_bytes → a < max_bytes
first_slot a b s h = omega (arith, h)

next_slot : (a b s : ℕ) → a + (b + s) < max_bytes → a + b + s < max_bytes
next_slot a b s h = omega (arith, h)

globals_fit : (place slot : ℕ) (ms : List Part) → place + stack_begin ms < max_bytes → slot + all_slots ms < max_bytes
    → list_all global.fits (globals_from place slot ms) ≡ true
globals_fit place slot [] h l = refl
globals_fit place slot (m ∷ ms) h l =
    both_true _ _ (global_fits place (first_place place m.variables m.texts _ h))
    (both_true _ _ (global_fits (place + m.variables) (second_place place m.variables m.texts _ h))
    (both_true _ _ (global_fits slot (first_slot slot m.slots _ l))
    (globals_fit (place + m.variables + m.texts) (slot + m.slots) ms (next_place place m.variables m.texts _ h)
    (next_slot slot m.slots _ l))))

three_more : (a n : ℕ) → a ≤ 9 + (9 + (9 + 27 * n)) → a ≤ 27 * suc n
three_more a n h = omega (arith, h)

globals_short : (place slot : ℕ) (ms : List Part) → place + stack_begin ms < max_bytes → slot + all_slots ms < max_bytes
    → length (flat_map global.encoding (globals_from place slot ms)) ≤ 27 * length ms
globals_short place slot [] h l = omega arith
globals_short place slot (m ∷ ms) h l =
    three_more _ (length ms)
    (more_globals (constant_global (place + m.variables) ∷ constant_global slot
    ∷ globals_from (place + m.variables + m.texts) (slot + m.slots) ms) place _
    (first_place place m.variables m.texts _ h)
    (more_globals (constant_global slot ∷ globals_from (place + m.variables + m.texts) (slot + m.slots) ms)
    (place + m.variables) _ (second_place place m.variables m.texts _ h)
    (more_globals (globals_from (place + m.variables + m.texts) (slot + m.slots) ms) slot _
    (first_slot slot m.slots _ l) (globals_short (place + m.variables + m.texts) (slot + m.slots) ms
    (next_place place m.variables m.texts _ h) (next_slot slot m.slots _ l)))))

three_count : (a n : ℕ) → a ≤ 27 * n → suc (suc (suc a)) ≤ 27 * suc n
three_count a n h = omega (arith, h)

globals_few : (place slot : ℕ) (ms : List Part) → length (globals_from place slot ms) ≤ 27 * length ms
globals_few place slot [] = omega arith
globals_few place slot (m ∷ ms) = three_count _ (length ms)
    (globals_few (place + m.variables + m.texts) (slot + m.slots) ms)

-- ---- exports

kind_fits : (i : ℕ) → i < max_bytes → export_kind.fits (exported.Global i) ≡ true
unfolding export_kind
kind_fits i h = lt-ltb i max_bytes h

one_kind : (a : ℕ) → a ≤ 5 → suc a ≤ 6
one_kind a h = omega (arith, h)

kind_short : (k : ExportKind) → export_kind.fits k ≡ true → length (export_kind.encoding k) ≤ 6
unfolding export_kind
kind_short (exported.Function i) e = one_kind _ (unsigned_short i e)
kind_short (exported.Table i) e = one_kind _ (unsigned_short i e)
kind_short (exported.Memory i) e = one_kind _ (unsigned_short i e)
kind_short (exported.Global i) e = one_kind _ (unsigned_short i e)

abbrev export_bytes : Export → ℕ
export_bytes e = 11 + length e.name

some_export : (e : Export) → 1 ≤ export_bytes e
some_export e = some (length e.name) where
  some : (n : ℕ) → 1 ≤ 11 + n
  some n = omega arith

export_sum : (m a b n : ℕ) → m ≡ a + b → a ≤ 5 + n → b ≤ 6 → m ≤ 11 + n
export_sum m a b n e h l = omega (arith, e, h, l)

export_short : (e : Export) → export.fits e ≡ true → length (export.encoding e) ≤ export_bytes e
unfolding export
export_short e f =
    let both = and_parts (name.fits e.name) (export_kind.fits e.kind) f in
    export_sum _ (length (name.encoding e.name)) _ (length e.name)
    (length-append (name.encoding e.name) (export_kind.encoding e.kind)) (name_short e.name both.0)
    (kind_short e.kind both.1)

export_fits : (n : List ℕ) (k : ExportKind) → name.fits n ≡ true → export_kind.fits k ≡ true
    → export.fits (exported_as n k) ≡ true
unfolding export
export_fits n k e f = both_true _ _ e f

base_fits : name.fits (codes "base.") ≡ true
base_fits = ascii_fits (codes "base.") refl (omega arith)

text_fits : name.fits (codes "text.") ≡ true
text_fits = ascii_fits (codes "text.") refl (omega arith)

tab_fits : name.fits (codes "tab.") ≡ true
tab_fits = ascii_fits (codes "tab.") refl (omega arith)

first_export : (g n : ℕ) → g + 3 * suc n ≤ max_bytes → g < max_bytes
first_export g n h = omega (arith, h)

second_export : (g n : ℕ) → g + 3 * suc n ≤ max_bytes → g + 1 < max_bytes
second_export g n h = omega (arith, h)

third_export : (g n : ℕ) → g + 3 * suc n ≤ max_bytes → g + 2 < max_bytes
third_export g n h = omega (arith, h)

next_export : (g n : ℕ) → g + 3 * suc n ≤ max_bytes → g + 3 + 3 * n ≤ max_bytes
next_export g n h = omega (arith, h)

abbrev part_name : Part → ℕ
part_name m = length m.name

first_name : (a b : ℕ) → a + b ≤ few_entries → a ≤ few_entries
first_name a b h = omega (arith, h)

next_names : (a b : ℕ) → a + b ≤ few_entries → b ≤ few_entries
next_names a b h = omega (arith, h)

exports_fit : (g : ℕ) (ms : List Part) → g + 3 * length ms ≤ max_bytes
    → list_all (λ (m : Part). name.fits m.name) ms ≡ true → sum_of part_name ms ≤ few_entries
    → list_all export.fits (exports_from g ms) ≡ true
exports_fit g [] h e l = refl
exports_fit g (m ∷ ms) h e l =
    let both = and_parts (name.fits m.name) (list_all (λ (m : Part). name.fits m.name) ms) e in
    let few = first_name (length m.name) _ l in
    both_true _ _ (export_fits (base_name m.name) (exported.Global g)
    (name_fits (codes "base.") m.name base_fits (omega arith) both.0 few)
    (kind_fits g (first_export g (length ms) h)))
    (both_true _ _ (export_fits (text_name m.name) (exported.Global (g + 1))
    (name_fits (codes "text.") m.name text_fits (omega arith) both.0 few)
    (kind_fits (g + 1) (second_export g (length ms) h)))
    (both_true _ _ (export_fits (tab_name m.name) (exported.Global (g + 2))
    (name_fits (codes "tab.") m.name tab_fits (omega arith) both.0 few)
    (kind_fits (g + 2) (third_export g (length ms) h)))
    (exports_fit (g + 3) ms (next_export g (length ms) h) both.1 (next_names (length m.name) _ l))))

exports_sum : (a b c n s k r : ℕ) → a ≡ 5 + n → b ≡ 5 + n → c ≡ 4 + n → s ≤ 47 * k + 3 * r
    → 11 + a + (11 + b + (11 + c + s)) ≤ 47 * suc k + 3 * (n + r)
exports_sum a b c n s k r e f h l = omega (arith, e, f, h, l)

exports_short : (g : ℕ) (ms : List Part)
    → sum_of export_bytes (exports_from g ms) ≤ 47 * length ms + 3 * sum_of part_name ms
exports_short g [] = omega arith
exports_short g (m ∷ ms) =
    exports_sum _ _ _ (length m.name) _ (length ms) (sum_of part_name ms) (length-append (codes "base.") m.name)
    (length-append (codes "text.") m.name) (length-append (codes "tab.") m.name) (exports_short (g + 3) ms)

with_run : (xs ys : List Export) → list_all export.fits xs ≡ true → list_all export.fits ys ≡ true
    → list_all export.fits (xs ++ ys) ≡ true
with_run [] ys e h = h
with_run (x ∷ xs) ys e h = let both = and_parts (export.fits x) (list_all export.fits xs) e in
    both_true _ _ both.0 (with_run xs ys both.1 h)

-- ---- the function

one_global : (x : ℕ) → x < max_bytes → code_numbers_fit (GlobalGet x ∷ []) ≡ true
unfolding code_numbers_fit
one_global x h = both_true _ _ (at_numbers (GlobalGet x) (layer.GlobalGet x) (outs-GlobalGet x) ∙ lt-ltb x max_bytes h)
    refl

calls_numbers : (stack g : ℕ) (ms : List Part) → stack < max_bytes → g + 3 * length ms ≤ max_bytes
    → code_numbers_fit (calls_from stack g ms) ≡ true
unfolding code_numbers_fit
calls_numbers stack g [] h l = refl
calls_numbers stack g (m ∷ ms) h l =
    both_true _ _ (at_numbers (I32Const stack) (layer.I32Const stack) (outs-I32Const stack) ∙ lt-ltb stack max_bytes h)
    (both_true _ _ (at_numbers (GlobalGet g) (layer.GlobalGet g) (outs-GlobalGet g)
    ∙ lt-ltb g max_bytes (first_export g (length ms) l))
    (both_true _ _ (at_numbers (CallIndirect 1) (layer.CallIndirect 1) (outs-CallIndirect 1))
    (calls_numbers stack (g + 3) ms h (next_export g (length ms) l))))

call_sum : (a n : ℕ) → a ≤ 6 + (6 + (7 + 19 * n)) → a ≤ 19 * suc n
call_sum a n h = omega (arith, h)

calls_short : (stack g : ℕ) (ms : List Part) → bytes (calls_from stack g ms) ≤ 19 * length ms
calls_short stack g [] = short_end.at_most
calls_short stack g (m ∷ ms) =
    call_sum _ (length ms) (lengths.◌▹◌ (lengths.address stack)
    (lengths.◌▹◌ (lengths.globals g) (lengths.◌▹◌ (lengths.calls_by 1)
    (record { at_most = calls_short stack (g + 3) ms })))).at_most

-- ---- the module

module _ (ms : List TypedModule) (pages : ℕ) (small : LinkIsSmall ms pages) where
  abbrev ps : List Part
  ps = map part_of ms

  count_is : length ps ≡ length ms
  count_is = length-map ms part_of

  few_pages : (n : ℕ) → n ≤ max_pages → n < max_bytes
  few_pages n h = omega (arith, h)

  memory_end : (n : ℕ) → n ≤ max_pages → 65536 * n < max_bytes
  memory_end n h = omega (arith, h)

  function_room : (b n k : ℕ) → b ≤ 19 * n → n ≡ k → k ≤ few_entries → 5 + (11 + (6 * 0 + b) + 0) < max_bytes
  function_room b n k h e l = omega (arith, h, e, l)

  few_calls : (n k : ℕ) → n ≡ k → k ≤ few_entries → 3 + 3 * n ≤ max_bytes
  few_calls n k e h = omega (arith, e, h)

  few_exports : (n k : ℕ) → n ≡ k → k ≤ few_entries → 1 + 3 * n ≤ max_bytes
  few_exports n k e h = omega (arith, e, h)

  no_storage : (n : ℕ) → n < max_bytes → 0 + n < max_bytes
  no_storage n h = omega (arith, h)

  functions_fit : FunctionsFit (typed_link ms pages).functions
  functions_fit = record {
    nesting = none_most _ 4096 (link_low ms pages);
    numbers = both_true _ _ (calls_numbers (stack_begin ps) 3 ps small.storage
        (few_calls (length ps) (length ms) count_is small.modules)) refl;
    locals = omega arith;
    size = function_room (bytes (calls_from (stack_begin ps) 3 ps)) (length ps) (length ms)
        (calls_short (stack_begin ps) 3 ps) count_is small.modules;
  }

  globals_room : (n k : ℕ) → n ≡ k → k ≤ few_entries → 5 + (9 + 27 * n) < max_bytes
  globals_room n k e h = omega (arith, e, h)

  one_global_more : (a n : ℕ) → a ≤ n → suc a ≤ 9 + n
  one_global_more a n h = omega (arith, h)

  globals_section : (section 6 global).fits (typed_link ms pages).globals ≡ true
  globals_section =
      let end = memory_end pages small.memory in
      let s = no_storage (stack_begin ps) small.storage in
      entries_fit 6 global (constant_global (65536 * pages) ∷ globals_from 0 1 ps) (9 + 27 * length ps)
      (both_true _ _ (global_fits (65536 * pages) end) (globals_fit 0 1 ps s small.slots))
      (one_global_more _ (27 * length ps) (globals_few 0 1 ps))
      (more_globals (globals_from 0 1 ps) (65536 * pages) (27 * length ps) end (globals_short 0 1 ps s small.slots))
      (globals_room (length ps) (length ms) count_is small.modules)

  exports_room : (a b n k l : ℕ) → a ≡ b + (14 + 0) → b ≤ 47 * n + 3 * l → n ≡ k → k ≤ few_entries → l ≤ few_entries
      → 5 + (17 + (16 + (16 + a))) < max_bytes
  exports_room a b n k l e h f i j = omega (arith, e, h, f, i, j)

  names_are : (ms : List TypedModule) → list_all (λ (m : TypedModule). name.fits m.name) ms ≡ true
      → list_all (λ (m : Part). name.fits m.name) (map part_of ms) ≡ true
  names_are [] e = refl
  names_are (m ∷ ms) e = let both = and_parts (name.fits m.name) (list_all (λ (m : TypedModule). name.fits m.name) ms) e
      in both_true _ _ both.0 (names_are ms both.1)

  fixed_export : (n : List ℕ) (k : ExportKind) → name.fits n ≡ true → export_kind.fits k ≡ true → (es : List Export)
      → list_all export.fits es ≡ true → list_all export.fits (exported_as n k ∷ es) ≡ true
  fixed_export n k e f es h = both_true _ _ (export_fits n k e f) h

  memory_fits : name.fits (codes "memory") ≡ true
  memory_fits = ascii_fits (codes "memory") refl (omega arith)

  table_fits : name.fits (codes "table") ≡ true
  table_fits = ascii_fits (codes "table") refl (omega arith)

  limit_fits : name.fits (codes "limit") ≡ true
  limit_fits = ascii_fits (codes "limit") refl (omega arith)

  run_fits : name.fits (codes "run") ≡ true
  run_fits = ascii_fits (codes "run") refl (omega arith)

  nought_fits : (export_kind.fits (exported.Memory 0) ≡ true)
      × ((export_kind.fits (exported.Table 0) ≡ true)
      × ((export_kind.fits (exported.Global 0) ≡ true) × (export_kind.fits (exported.Function 0) ≡ true)))
  unfolding export_kind
  nought_fits = (refl, (refl, (refl, refl)))

  exports_section : (section 7 export).fits (typed_link ms pages).exports ≡ true
  exports_section =
      let names : sum_of part_name ps ≤ few_entries =
      subst (λ (n : ℕ). n ≤ few_entries) (sym (sum_map part_name part_of ms)) small.lengths in
      let run : List Export = exported_as (codes "run") (exported.Function 0) ∷ [] in
      let limit : List Export = exported_as (codes "limit") (exported.Global 0) ∷ (exports_from 1 ps ++ run) in
      let table : List Export = exported_as (codes "table") (exported.Table 0) ∷ limit in
      section_fits 7 export export_bytes some_export export_short (typed_link ms pages).exports
      (fixed_export (codes "memory") (exported.Memory 0) memory_fits nought_fits.0 table
      (fixed_export (codes "table") (exported.Table 0) table_fits nought_fits.1.0 limit
      (fixed_export (codes "limit") (exported.Global 0) limit_fits nought_fits.1.1.0 (exports_from 1 ps ++ run)
      (with_run (exports_from 1 ps) run (exports_fit 1 ps (few_exports (length ps) (length ms) count_is small.modules)
      (names_are ms small.names) names) (fixed_export (codes "run") (exported.Function 0) run_fits nought_fits.1.1.1
      [] refl)))))
      (exports_room _ (sum_of export_bytes (exports_from 1 ps)) (length ps) (length ms) (sum_of part_name ps)
      (sum_append export_bytes (exports_from 1 ps) run) (exports_short 1 ps) count_is small.modules names)

  types_section : (section 1 func_type).fits (typed_link ms pages).types ≡ true
  types_section =
      section_fits 1 func_type type_bytes some_bytes type_short (type_from [] [] ∷ type_from (I32 ∷ []) [] ∷ [])
      (both_true _ _ (type_fits (type_from [] []) (omega arith) (omega arith))
      (both_true _ _ (type_fits (type_from (I32 ∷ []) []) (omega arith) (omega arith)) refl)) (omega arith)

  pub link_has_room : module_fits (typed_link ms pages) ≡ true
  link_has_room = module_has_room (typed_link ms pages) (record {
    types = types_section;
    imports = refl;
    uses = uses_fit (typed_link ms pages).functions refl functions_fit.size;
    tables = one_entry (1 + all_slots ps) _ refl small.slots;
    memories = one_memory pages (few_pages pages small.memory);
    globals = globals_section;
    exports = exports_section;
    elements = refl;
    functions = functions_fit;
    segments = refl;
  })
