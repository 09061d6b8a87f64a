-- What fits is its own cut: a module that has an encoding is emitted as it is.
use Rattle.std.proofs.Common.{map, ◌≡◌, ℕ, zero, suc, ◌+◌, ◌^◌, ◌/◌, ◌%◌, ◌≤◌, ◌<◌, Bool, true, false, ◌&&◌, nat_lt, List, [], ◌∷◌, ◌++◌, length, Option, Some, None, refl, sym, ap, subst, ◌∙◌, arith}
use Rattle.std.specs.Prelude.{if◌then◌else◌}
use Rattle.std.specs.List.{list_all, concat, flat_map}
use Rattle.std.proofs.lemmas.Bool.{and_parts, ltb-true}
use Rattle.std.proofs.lemmas.List.{length-append, map-append}
use Rattle.std.proofs.lemmas.List.Sums.{sum_by-cons}
use Rattle.std.proofs.Math.Nat.{min-eq_left}
use Rattle.wasm_tree.specs.declared.kinds.ValueType.{ValueType}
use Rattle.wasm_tree.specs.declared.kinds.ValueType.TheVariants.{I32, I64}
use Rattle.wasm_tree.specs.declared.kinds.Limits.{Limits}
use Rattle.wasm_tree.specs.declared.kinds.TableType.{TableType}
use Rattle.wasm_tree.specs.declared.code.Op.{Op}
use Rattle.wasm_tree.specs.declared.code.Op.TheVariants as op
use Rattle.wasm_tree.specs.declared.instr.Instr.{Instr, Instr-F, out-Instr, roll-Instr, out-roll-Instr, map-Instr, fold_out-Instr, ind-Instr}
use Rattle.wasm_tree.specs.declared.instr.Instr.TheOpen as layer
use Rattle.wasm_tree.specs.declared.module.Locals.{Locals}
use Rattle.wasm_tree.specs.declared.module.Function.{Function}
use Rattle.wasm_tree.specs.declared.module.Global.{Global}
use Rattle.wasm_tree.specs.declared.module.ExportKind.{ExportKind}
use Rattle.wasm_tree.specs.declared.module.ExportKind.TheVariants as exported
use Rattle.wasm_tree.specs.declared.module.Export.{Export}
use Rattle.wasm_tree.specs.declared.module.Element.{Element}
use Rattle.wasm_tree.specs.declared.module.WModule.{WModule}
use Rattle.wasm_tree.specs.Format.{Format}
use Rattle.wasm_tree.specs.Code.{tree, join_ops, flat_step, flat_one, flat}
use Rattle.wasm_tree.proofs.Flat.{tree_flat, joined_is}
use Rattle.wasm_code.specs.Number.{groups, unsigned}
use Rattle.wasm_code.specs.Parts.{vector, entries, with_size, section, section_fits}
use Rattle.wasm_code.specs.Instructions.{encoding_step, instr_encoding, fits_step, instr_fits, value_type, code, code_within, max_levels}
use Rattle.wasm_binary.specs.Binary.{limits, table_type, global, export_kind, export, element_segment, local_count, locals, body, types_of, module_fits, module_encoding}
use Rattle.std.specs.List.{range_with_len}
use Rattle.std.proofs.lemmas.List.FromFn.{length-range_with_len}
use Rattle.wasm_tree.specs.declared.instr.Instr.TheVariants.{GlobalGet}
use Rattle.typed_tree.specs.declared.typed_module.TypedModule.{TypedModule}
use Rattle.layout_storage.specs.Sizes.{size}
use Rattle.layout_storage.specs.Frames.{module_row}
use Rattle.layout_storage.specs.Texts.{characters, module_texts}
use Rattle.def_scheme.specs.Coded.{body_index}
use Rattle.def_scheme.specs.Modules.{part_of, slots, typed_module}
use Rattle.emit_buffer.specs.Fitting.{sizes_fit}
use Rattle.m2_emit.specs.Emitted.{body_bytes, code_bytes, emitted, link_part}
use Rattle.emit_buffer.specs.Cut.{cut, cut_long, cut_op, cut_code, cut_locals, cut_function, cut_global, cut_bound, cut_limits, cut_table, cut_exported, cut_export, cut_element, cut_module}

-- ---- numbers

uncut : (n : ℕ) → unsigned.fits n ≡ true → cut n ≡ n
uncut n e = min-eq_left (least n (ltb-true n (2 ^ 32) e)) where
  least : (n : ℕ) → n < 2 ^ 32 → n ≤ 4294967295
  least n l = omega (arith, l)

uncut_below : (n : ℕ) → n < 2 ^ 32 → cut n ≡ n
uncut_below n l = min-eq_left (least n l) where
  least : (n : ℕ) → n < 2 ^ 32 → n ≤ 4294967295
  least n l = omega (arith, l)

uncut_long : (n : ℕ) → nat_lt n (2 ^ 64) ≡ true → cut_long n ≡ n
uncut_long n e = min-eq_left (least n (ltb-true n (2 ^ 64) e)) where
  least : (n : ℕ) → n < 2 ^ 64 → n ≤ 18446744073709551615
  least n l = omega (arith, l)

uncut_all : (ns : List ℕ) → list_all unsigned.fits ns ≡ true → map cut ns ≡ ns
uncut_all [] e = refl
uncut_all (n ∷ ns) e =
    let both = and_parts (unsigned.fits n) (list_all unsigned.fits ns) e in
    ap (λ (m : ℕ). m ∷ map cut ns) (uncut n both.0) ∙ ap (λ (ms : List ℕ). n ∷ ms) (uncut_all ns both.1)

-- ---- an instruction has no more operations than bytes

one_byte : (n : ℕ) → 1 ≤ length (unsigned.encoding n)
unfolding groups
one_byte n = by (nat_lt n 128) where
  more : (k : ℕ) → 1 ≤ suc k
  more k = omega arith

  by : (b : Bool) → 1 ≤ length (if b then n ∷ [] else (128 + n % 128) ∷ groups 9 (n / 128))
  by true = omega arith
  by false = more (length (groups 9 (n / 128)))

one_more : (a b : ℕ) → a ≤ b → suc a ≤ suc b
one_more a b h = omega (arith, h)

both_more : (s t a b c d : ℕ) → s ≡ a + b → t ≡ c + d → a ≤ c → b ≤ d → s ≤ t
both_more s t a b c d e f h l = omega (arith, e, f, h, l)

labels_few : (ls : List ℕ) → length (map (λ l. op.Br l) ls) ≤ length (flat_map unsigned.encoding ls)
labels_few [] = omega arith
labels_few (l ∷ ls) =
    sum _ _ _ _ (length-append (unsigned.encoding l) (flat_map unsigned.encoding ls)) (one_byte l) (labels_few ls) where
      sum : (s a b n : ℕ) → s ≡ a + b → 1 ≤ a → n ≤ b → suc n ≤ s
      sum s a b n e h k = omega (arith, e, h, k)

at_flat : (i : Instr) (x : Instr-F Instr) → out-Instr i ≡ x
    → flat_one i ≡ flat_step (map-Instr Instr (List Op) flat_one x)
unfolding flat_one
at_flat i x q = fold_out-Instr (List Op) flat_step i
    ∙ ap (λ (y : Instr-F Instr). flat_step (map-Instr Instr (List Op) flat_one y)) q

at_encoding : (i : Instr) (x : Instr-F Instr) → out-Instr i ≡ x
    → instr_encoding i ≡ encoding_step (map-Instr Instr (List ℕ) instr_encoding x)
unfolding instr_encoding
at_encoding i x q = fold_out-Instr (List ℕ) encoding_step i
    ∙ ap (λ (y : Instr-F Instr). encoding_step (map-Instr Instr (List ℕ) instr_encoding y)) q

at_fits : (i : Instr) (x : Instr-F Instr) (n : ℕ) → out-Instr i ≡ x
    → instr_fits i n ≡ fits_step (map-Instr Instr (ℕ → Bool) instr_fits x) n
unfolding instr_fits
at_fits i x n q = ap (λ (f : ℕ → Bool). f n) (fold_out-Instr (ℕ → Bool) fits_step i)
    ∙ ap (λ (y : Instr-F Instr). fits_step (map-Instr Instr (ℕ → Bool) instr_fits y) n) q

abbrev ops_in : List Instr → List Op
ops_in is = join_ops (map flat_one is)

abbrev bytes_in : List Instr → List ℕ
bytes_in is = concat (map instr_encoding is)

module _ where
  abbrev Few : Instr → Type 0
  Few i = length (flat_one i) ≤ length (instr_encoding i)

  abbrev S : Type 0
  S = (i : Instr) × Few i

  abbrev bare : Instr-F S → Instr-F Instr
  bare x = map-Instr S Instr (λ i. i.0) x

  abbrev code_of : List S → List Instr
  code_of xs = map (λ (i : S). i.0) xs

  all_few : (xs : List S) → length (ops_in (code_of xs)) ≤ length (bytes_in (code_of xs))
  all_few [] = omega arith
  all_few (x ∷ xs) =
      both_more _ _ _ _ _ _ (length-append (flat_one x.0) (ops_in (code_of xs)))
      (length-append (instr_encoding x.0) (bytes_in (code_of xs))) x.1 (all_few xs)

  block_sum : (s u t a b k : ℕ) → s ≡ u + k → u ≡ t + b → a ≤ b → suc a ≤ suc s
  block_sum s u t a b k e f h = omega (arith, e, f, h)

  block_few : (ops : List Op) (kind code end : List ℕ) → length ops ≤ length code
      → suc (length ops) ≤ suc (length (kind ++ code ++ end))
  block_few ops kind code end h = block_sum _ _ _ _ _ _ (length-append (kind ++ code) end) (length-append kind code) h

  sides_sum : (s u t a b w c d j k : ℕ) → s ≡ u + suc w → u ≡ t + b → w ≡ d + k → j ≡ a + c → a ≤ b → c ≤ d
      → suc j ≤ suc s
  sides_sum s u t a b w c d j k e f g i h l = omega (arith, e, f, g, i, h, l)

  sides_few : (ops more : List Op) (kind code others end : List ℕ) (b : ℕ) → length ops ≤ length code
      → length more ≤ length others
      → suc (length (ops ++ more)) ≤ suc (length (kind ++ code ++ (b ∷ (others ++ end))))
  sides_few ops more kind code others end b h l =
      sides_sum _ _ _ _ _ _ _ _ _ _ (length-append (kind ++ code) (b ∷ (others ++ end))) (length-append kind code)
      (length-append others end) (length-append ops more) h l

  table_sum : (s u a b c n : ℕ) → s ≡ u + c → u ≡ a + b → n ≤ b → suc n ≤ suc s
  table_sum s u a b c n e f h = omega (arith, e, f, h)

  table_few : (ls : List ℕ) (l : ℕ) → suc (length (map (λ l. op.Br l) ls)) ≤ suc
      (length ((vector unsigned).encoding ls ++ unsigned.encoding l))
  table_few ls l = table_sum _ _ _ _ _ _ (length-append ((vector unsigned).encoding ls) (unsigned.encoding l))
      (length-append (unsigned.encoding (length ls)) (flat_map unsigned.encoding ls)) (labels_few ls)

  at_least : (k : ℕ) → 1 ≤ suc k
  at_least k = omega arith

  few_one : (y : Instr-F S) → length (flat_step (map-Instr Instr (List Op) flat_one (bare y))) ≤ length
      (encoding_step (map-Instr Instr (List ℕ) instr_encoding (bare y)))
  few_one (layer.Block t xs) = block_few (ops_in (code_of xs)) _ (bytes_in (code_of xs)) _ (all_few xs)
  few_one (layer.Loop t xs) = block_few (ops_in (code_of xs)) _ (bytes_in (code_of xs)) _ (all_few xs)
  few_one (layer.If t xs None) = block_few (ops_in (code_of xs)) _ (bytes_in (code_of xs)) _ (all_few xs)
  few_one (layer.If t xs (Some ys)) = sides_few (ops_in (code_of xs)) (ops_in (code_of ys)) _ (bytes_in (code_of xs))
      (bytes_in (code_of ys)) _ _ (all_few xs) (all_few ys)
  few_one layer.Unreachable = omega arith
  few_one (layer.Br l) = at_least _
  few_one (layer.BrIf l) = at_least _
  few_one (layer.BrTable ls l) = table_few ls l
  few_one layer.Return = omega arith
  few_one (layer.Call f) = at_least _
  few_one (layer.CallIndirect t) = at_least _
  few_one layer.Drop = omega arith
  few_one (layer.LocalGet x) = at_least _
  few_one (layer.LocalSet x) = at_least _
  few_one (layer.LocalTee x) = at_least _
  few_one (layer.GlobalGet x) = at_least _
  few_one (layer.Load l) = at_least _
  few_one (layer.Store w) = at_least _
  few_one (layer.I32Const k) = at_least _
  few_one (layer.I64Const k) = at_least _
  few_one (layer.Numeric o) = at_least _

  step : (x : Instr-F Instr) (y : Instr-F S) → bare y ≡ x → Few (roll-Instr x)
  step x y q =
      let r = out-roll-Instr x ∙ sym q in
      subst (λ (os : List Op). length os ≤ length (instr_encoding (roll-Instr x)))
      (sym (at_flat (roll-Instr x) (bare y) r))
      (subst (λ (bs : List ℕ). length (flat_step (map-Instr Instr (List Op) flat_one (bare y))) ≤ length bs)
      (sym (at_encoding (roll-Instr x) (bare y) r)) (few_one y))

  few_ops : (i : Instr) → Few i
  few_ops = ind-Instr Few step

code_few : (is : List Instr) → length (ops_in is) ≤ length (bytes_in is)
code_few [] = omega arith
code_few (i ∷ is) =
    both_more _ _ _ _ _ _ (length-append (flat_one i) (ops_in is)) (length-append (instr_encoding i) (bytes_in is))
    (few_ops i) (code_few is)

-- ---- operations

abbrev Kept : Instr → Type 0
Kept i = (n : ℕ) → instr_fits i n ≡ true → length (instr_encoding i) < 2 ^ 32 → map cut_op (flat_one i) ≡ flat_one i

abbrev T : Type 0
T = (i : Instr) × Kept i

abbrev bare_of : Instr-F T → Instr-F Instr
bare_of x = map-Instr T Instr (λ i. i.0) x

abbrev code_in : List T → List Instr
code_in xs = map (λ (i : T). i.0) xs

first_short : (s a b : ℕ) → s ≡ a + b → s < 2 ^ 32 → a < 2 ^ 32
first_short s a b e h = omega (arith, e, h)

second_short : (s a b : ℕ) → s ≡ a + b → s < 2 ^ 32 → b < 2 ^ 32
second_short s a b e h = omega (arith, e, h)

all_kept : (xs : List T) (n : ℕ) → list_all (λ (f : ℕ → Bool). f n) (map instr_fits (code_in xs)) ≡ true
    → length (bytes_in (code_in xs)) < 2 ^ 32
    → map cut_op (ops_in (code_in xs)) ≡ ops_in (code_in xs)
all_kept [] n e h = refl
all_kept (x ∷ xs) n e h =
    let both = and_parts (instr_fits x.0 n) (list_all (λ (f : ℕ → Bool). f n) (map instr_fits (code_in xs))) e in
    let sum = length-append (instr_encoding x.0) (bytes_in (code_in xs)) in
    map-append cut_op (flat_one x.0) (ops_in (code_in xs))
    ∙ ap (λ (os : List Op). os ++ map cut_op (ops_in (code_in xs))) (x.1 n both.0 (first_short _ _ _ sum h))
    ∙ ap (λ (os : List Op). flat_one x.0 ++ os) (all_kept xs n both.1 (second_short _ _ _ sum h))

few_below : (a b : ℕ) → a ≤ b → b < 2 ^ 32 → a < 2 ^ 32
few_below a b h l = omega (arith, h, l)

-- code in a block, which says how many operations it has
block_kept : (make : ℕ → Op) → ((n : ℕ) → cut_op (make n) ≡ make (cut n)) → (xs : List T) (n : ℕ)
    → list_all (λ (f : ℕ → Bool). f n) (map instr_fits (code_in xs)) ≡ true
    → length (bytes_in (code_in xs)) < 2 ^ 32
    → map cut_op (make (length (ops_in (code_in xs))) ∷ ops_in (code_in xs)) ≡ make (length (ops_in (code_in xs)))
    ∷ ops_in (code_in xs)
block_kept make cuts xs n e h =
    let ops : List Op = ops_in (code_in xs) in
    let few : length ops < 2 ^ 32 = few_below _ _ (code_few (code_in xs)) h in
    ap (λ (o : Op). o ∷ map cut_op ops) (cuts (length ops) ∙ ap make (uncut_below (length ops) few))
    ∙ ap (λ (os : List Op). make (length ops) ∷ os) (all_kept xs n e h)

sides_kept : (t : Option ValueType) (xs ys : List T) (n : ℕ)
    → list_all (λ (f : ℕ → Bool). f n) (map instr_fits (code_in xs)) ≡ true
    → list_all (λ (f : ℕ → Bool). f n) (map instr_fits (code_in ys)) ≡ true → length (bytes_in (code_in xs)) < 2 ^ 32
    → length (bytes_in (code_in ys)) < 2 ^ 32
    → map cut_op (op.IfElse t (length (ops_in (code_in xs))) (length (ops_in (code_in ys)))
    ∷ (ops_in (code_in xs) ++ ops_in (code_in ys)))
    ≡ op.IfElse t (length (ops_in (code_in xs))) (length (ops_in (code_in ys)))
    ∷ (ops_in (code_in xs) ++ ops_in (code_in ys))
sides_kept t xs ys n e f h l =
    let a : List Op = ops_in (code_in xs) in
    let b : List Op = ops_in (code_in ys) in
    let ka = uncut_below (length a) (few_below _ _ (code_few (code_in xs)) h) in
    let kb = uncut_below (length b) (few_below _ _ (code_few (code_in ys)) l) in
    ap (λ (os : List Op). op.IfElse t (cut (length a)) (cut (length b)) ∷ os)
    (map-append cut_op a b ∙ ap (λ (os : List Op). os ++ map cut_op b) (all_kept xs n e h)
    ∙ ap (λ (os : List Op). a ++ os) (all_kept ys n f l))
    ∙ ap (λ (k : ℕ). op.IfElse t k (cut (length b)) ∷ (a ++ b)) ka
    ∙ ap (λ (k : ℕ). op.IfElse t (length a) k ∷ (a ++ b)) kb

labels_kept : (ls : List ℕ) → list_all unsigned.fits ls ≡ true
    → map cut_op (map (λ l. op.Br l) ls) ≡ map (λ l. op.Br l) ls
labels_kept [] e = refl
labels_kept (l ∷ ls) e =
    let both = and_parts (unsigned.fits l) (list_all unsigned.fits ls) e in
    ap (λ (k : ℕ). op.Br k ∷ map cut_op (map (λ l. op.Br l) ls)) (uncut l both.0)
    ∙ ap (λ (os : List Op). op.Br l ∷ os) (labels_kept ls both.1)

table_kept : (ls : List ℕ) (l : ℕ) → ((vector unsigned).fits ls && unsigned.fits l) ≡ true
    → map cut_op (op.BrTable (length ls) l ∷ map (λ l. op.Br l) ls) ≡ op.BrTable (length ls) l ∷ map (λ l. op.Br l) ls
table_kept ls l e =
    let both = and_parts ((vector unsigned).fits ls) (unsigned.fits l) e in
    let parts = and_parts (nat_lt (length ls) (2 ^ 32)) (list_all unsigned.fits ls) both.0 in
    ap (λ (k : ℕ). op.BrTable k (cut l) ∷ map cut_op (map (λ l. op.Br l) ls)) (uncut (length ls) parts.0)
    ∙ ap (λ (k : ℕ). op.BrTable (length ls) k ∷ map cut_op (map (λ l. op.Br l) ls)) (uncut l both.1)
    ∙ ap (λ (os : List Op). op.BrTable (length ls) l ∷ os) (labels_kept ls parts.1)

one_kept : (make : ℕ → Op) → (k : ℕ) → cut k ≡ k → make (cut k) ∷ [] ≡ make k ∷ []
one_kept make k e = ap (λ (n : ℕ). make n ∷ []) e

inner_short : (s u t b k : ℕ) → s ≡ u + k → u ≡ t + b → suc s < 2 ^ 32 → b < 2 ^ 32
inner_short s u t b k e f h = omega (arith, e, f, h)

in_block : (kind code end : List ℕ) → suc (length (kind ++ code ++ end)) < 2 ^ 32 → length code < 2 ^ 32
in_block kind code end h = inner_short _ _ _ _ _ (length-append (kind ++ code) end) (length-append kind code) h

other_short : (s u w d k : ℕ) → s ≡ u + suc w → w ≡ d + k → suc s < 2 ^ 32 → d < 2 ^ 32
other_short s u w d k e f h = omega (arith, e, f, h)

in_other : (front others end : List ℕ) (b : ℕ) → suc (length (front ++ (b ∷ (others ++ end)))) < 2 ^ 32
    → length others < 2 ^ 32
in_other front others end b h = other_short _ _ _ _ _ (length-append front (b ∷ (others ++ end)))
    (length-append others end) h

no_level : {X : Type 0} → false ≡ true → X
no_level e = absurd cc

kept_one : (y : Instr-F T) (n : ℕ) → fits_step (map-Instr Instr (ℕ → Bool) instr_fits (bare_of y)) n ≡ true
    → length (encoding_step (map-Instr Instr (List ℕ) instr_encoding (bare_of y))) < 2 ^ 32
    → map cut_op (flat_step (map-Instr Instr (List Op) flat_one (bare_of y)))
    ≡ flat_step (map-Instr Instr (List Op) flat_one (bare_of y))
kept_one (layer.Block t xs) zero e h = no_level e
kept_one (layer.Block t xs) (suc n) e h =
    block_kept (λ n. op.Block t n) (λ n. refl) xs n e (in_block _ (bytes_in (code_in xs)) _ h)
kept_one (layer.Loop t xs) zero e h = no_level e
kept_one (layer.Loop t xs) (suc n) e h =
    block_kept (λ n. op.Loop t n) (λ n. refl) xs n e (in_block _ (bytes_in (code_in xs)) _ h)
kept_one (layer.If t xs None) zero e h = no_level e
kept_one (layer.If t xs None) (suc n) e h =
    block_kept (λ n. op.If t n) (λ n. refl) xs n e (in_block _ (bytes_in (code_in xs)) _ h)
kept_one (layer.If t xs (Some ys)) zero e h = no_level e
kept_one (layer.If t xs (Some ys)) (suc n) e h =
    let both = and_parts (list_all (λ (f : ℕ → Bool). f n) (map instr_fits (code_in xs)))
    (list_all (λ (f : ℕ → Bool). f n) (map instr_fits (code_in ys))) e in
    sides_kept t xs ys n both.0 both.1 (in_block _ (bytes_in (code_in xs)) _ h)
    (in_other _ (bytes_in (code_in ys)) _ _ h)
kept_one layer.Unreachable n e h = refl
kept_one (layer.Br l) n e h = one_kept (λ l. op.Br l) l (uncut l e)
kept_one (layer.BrIf l) n e h = one_kept (λ l. op.BrIf l) l (uncut l e)
kept_one (layer.BrTable ls l) n e h = table_kept ls l e
kept_one layer.Return n e h = refl
kept_one (layer.Call f) n e h = one_kept (λ f. op.Call f) f (uncut f e)
kept_one (layer.CallIndirect t) n e h = one_kept (λ t. op.CallIndirect t) t (uncut t e)
kept_one layer.Drop n e h = refl
kept_one (layer.LocalGet x) n e h = one_kept (λ x. op.LocalGet x) x (uncut x e)
kept_one (layer.LocalSet x) n e h = one_kept (λ x. op.LocalSet x) x (uncut x e)
kept_one (layer.LocalTee x) n e h = one_kept (λ x. op.LocalTee x) x (uncut x e)
kept_one (layer.GlobalGet x) n e h = one_kept (λ x. op.GlobalGet x) x (uncut x e)
kept_one (layer.Load l) n e h = refl
kept_one (layer.Store w) n e h = refl
kept_one (layer.I32Const k) n e h = one_kept (λ k. op.I32Const k) k (uncut k e)
kept_one (layer.I64Const k) n e h = ap (λ (n : ℕ). op.I64Const n ∷ []) (uncut_long k e)
kept_one (layer.Numeric o) n e h = refl

kept_step : (x : Instr-F Instr) (y : Instr-F T) → bare_of y ≡ x → Kept (roll-Instr x)
kept_step x y q n e h =
    let r = out-roll-Instr x ∙ sym q in
    let same = at_flat (roll-Instr x) (bare_of y) r in
    subst (λ (os : List Op). map cut_op os ≡ os) (sym same)
    (kept_one y n (sym (at_fits (roll-Instr x) (bare_of y) n r) ∙ e)
    (subst (λ (bs : List ℕ). length bs < 2 ^ 32) (at_encoding (roll-Instr x) (bare_of y) r) h))

instr_kept : (i : Instr) → Kept i
instr_kept = ind-Instr Kept kept_step

-- ---- code

flat_kept : (is : List Instr) (n : ℕ) → list_all (λ i. instr_fits i n) is ≡ true
    → length (flat_map instr_encoding is) < 2 ^ 32 → map cut_op (flat is) ≡ flat is
flat_kept [] n e h = refl
flat_kept (i ∷ is) n e h =
    let both = and_parts (instr_fits i n) (list_all (λ i. instr_fits i n) is) e in
    let sum = length-append (instr_encoding i) (flat_map instr_encoding is) in
    map-append cut_op (flat_one i) (flat is)
    ∙ ap (λ (os : List Op). os ++ map cut_op (flat is)) (instr_kept i n both.0 (first_short _ _ _ sum h))
    ∙ ap (λ (os : List Op). flat_one i ++ os) (flat_kept is n both.1 (second_short _ _ _ sum h))

code_kept : (is : List Instr) → code.fits is ≡ true → length (code.encoding is) < 2 ^ 32 → cut_code is ≡ is
unfolding code
code_kept is e h =
    ap tree (flat_kept is max_levels e (first_short _ _ _ (length-append (flat_map instr_encoding is) _) h))
    ∙ tree_flat is

-- ---- functions

locals_kept : (ls : List Locals) → local_count ls < 2 ^ 32 → map cut_locals ls ≡ ls
locals_kept [] h = refl
locals_kept (l ∷ ls) h =
    let sum = sum_by-cons (λ (x : Locals). x.count) l ls in
    ap (λ (k : ℕ). record { count = k; value_type = l.value_type } ∷ map cut_locals ls)
    (uncut_below l.count (first_short _ _ _ sum h))
    ∙ ap (λ (xs : List Locals). l ∷ xs) (locals_kept ls (second_short _ _ _ sum h))

function_kept : (f : Function) → unsigned.fits f.type_index ≡ true → body.fits f.body ≡ true → cut_function f ≡ f
unfolding body locals
function_kept f e h =
    let sized = and_parts (locals.fits f.body.locals && code.fits f.body.code)
    (nat_lt (length (locals.encoding f.body.locals ++ code.encoding f.body.code)) (2 ^ 32)) h in
    let parts = and_parts (locals.fits f.body.locals) (code.fits f.body.code) sized.0 in
    let few = and_parts (nat_lt (length f.body.locals) (2 ^ 32)) (nat_lt (local_count f.body.locals) (2 ^ 32)) parts.0
    in
    let short = second_short _ _ _ (length-append (locals.encoding f.body.locals) (code.encoding f.body.code))
    (ltb-true _ (2 ^ 32) sized.1) in
    ap (λ (t : ℕ). record {
      type_index = t;
      body =
          record { locals = map cut_locals f.body.locals; code = cut_code f.body.code };
    }) (uncut f.type_index e)
    ∙ ap (λ (ls : List Locals). record {
      type_index = f.type_index;
      body =
          record { locals = ls; code = cut_code f.body.code };
    }) (locals_kept f.body.locals (ltb-true _ (2 ^ 32) few.1))
    ∙ ap (λ (is : List Instr). record {
      type_index = f.type_index;
      body =
          record { locals = f.body.locals; code = is };
    }) (code_kept f.body.code parts.1 short)

functions_kept : (fs : List Function) → list_all unsigned.fits (types_of fs) ≡ true
    → list_all (λ f. body.fits f.body) fs ≡ true → map cut_function fs ≡ fs
functions_kept [] e h = refl
functions_kept (f ∷ fs) e h =
    let types = and_parts (unsigned.fits f.type_index) (list_all unsigned.fits (types_of fs)) e in
    let bodies = and_parts (body.fits f.body) (list_all (λ f. body.fits f.body) fs) h in
    ap (λ (x : Function). x ∷ map cut_function fs) (function_kept f types.0 bodies.0)
    ∙ ap (λ (xs : List Function). f ∷ xs) (functions_kept fs types.1 bodies.1)

-- ---- sections

-- what each entry of a section has
record HasEntries {A : Type 0} (p : Format A) (xs : List A) : Type 0 where
  all : list_all p.fits xs ≡ true
  short : length (flat_map p.encoding xs) < 2 ^ 32

entries_in : {A : Type 0} (p : Format A) (xs : List A) → section_fits p xs ≡ true → HasEntries p xs
entries_in p [] e = record { all = refl; short = omega arith }
entries_in p (x ∷ xs) e =
    let sized = and_parts ((entries p).fits (x ∷ xs)) (nat_lt (length ((entries p).encoding (x ∷ xs))) (2 ^ 32)) e in
    let some = and_parts (nat_lt 0 (length (x ∷ xs))) ((vector p).fits (x ∷ xs)) sized.0 in
    let all = and_parts (nat_lt (length (x ∷ xs)) (2 ^ 32)) (list_all p.fits (x ∷ xs)) some.1 in
    record {
      all = all.1;
      short = second_short _ _ _ (length-append (unsigned.encoding (length (x ∷ xs))) (flat_map p.encoding (x ∷ xs)))
          (ltb-true _ (2 ^ 32) sized.1);
    }

bound_kept : (o : Option ℕ) → (elim o [ None ↦ true | Some m ↦ unsigned.fits m ]) ≡ true → cut_bound o ≡ o
bound_kept None e = refl
bound_kept (Some m) e = ap (λ (k : ℕ). Some k) (uncut m e)

limits_kept : (l : Limits) → limits.fits l ≡ true → cut_limits l ≡ l
unfolding limits
limits_kept l e =
    let both = and_parts (unsigned.fits l.min) (elim l.max [ None ↦ true | Some m ↦ unsigned.fits m ]) e in
    ap (λ (k : ℕ). record { min = k; max = cut_bound l.max }) (uncut l.min both.0)
    ∙ ap (λ (o : Option ℕ). record { min = l.min; max = o }) (bound_kept l.max both.1)

tables_kept : (ts : List TableType) → list_all table_type.fits ts ≡ true → map cut_table ts ≡ ts
unfolding table_type
tables_kept [] e = refl
tables_kept (t ∷ ts) e =
    let both = and_parts (limits.fits t.limits) (list_all table_type.fits ts) e in
    ap (λ (l : Limits). record { limits = l } ∷ map cut_table ts) (limits_kept t.limits both.0)
    ∙ ap (λ (xs : List TableType). t ∷ xs) (tables_kept ts both.1)

value_short : (s u v b : ℕ) → s ≡ u + v → u < b → s < b + v → s < b + v
value_short s u v b e h l = l

globals_kept : (gs : List Global) → list_all global.fits gs ≡ true → length (flat_map global.encoding gs) < 2 ^ 32
    → map cut_global gs ≡ gs
unfolding global
globals_kept [] e h = refl
globals_kept (g ∷ gs) e h =
    let both = and_parts (value_type.fits g.value_type && code.fits g.value) (list_all global.fits gs) e in
    let own = and_parts (value_type.fits g.value_type) (code.fits g.value) both.0 in
    let sum = length-append (global.encoding g) (flat_map global.encoding gs) in
    let code_short = second_short _ _ _ (length-append ((value_type.encoding g.value_type) ++ _ ∷ [])
    (code.encoding g.value)) (first_short _ _ _ sum h) in
    ap (λ (is : List Instr). record { value_type = g.value_type; value = is } ∷ map cut_global gs)
    (code_kept g.value own.1 code_short)
    ∙ ap (λ (xs : List Global). g ∷ xs) (globals_kept gs both.1 (second_short _ _ _ sum h))

exported_kept : (k : ExportKind) → export_kind.fits k ≡ true → cut_exported k ≡ k
unfolding export_kind
exported_kept (exported.Function n) e = ap (λ (k : ℕ). exported.Function k) (uncut n e)
exported_kept (exported.Table n) e = ap (λ (k : ℕ). exported.Table k) (uncut n e)
exported_kept (exported.Memory n) e = ap (λ (k : ℕ). exported.Memory k) (uncut n e)
exported_kept (exported.Global n) e = ap (λ (k : ℕ). exported.Global k) (uncut n e)

exports_kept : (xs : List Export) → list_all export.fits xs ≡ true → map cut_export xs ≡ xs
unfolding export
exports_kept [] e = refl
exports_kept (x ∷ xs) e =
    let both = and_parts (export.fits x) (list_all export.fits xs) e in
    let own = and_parts _ (export_kind.fits x.kind) both.0 in
    ap (λ (k : ExportKind). record { name = x.name; kind = k } ∷ map cut_export xs) (exported_kept x.kind own.1)
    ∙ ap (λ (ys : List Export). x ∷ ys) (exports_kept xs both.1)

elements_kept : (xs : List Element) → list_all element_segment.fits xs ≡ true → map cut_element xs ≡ xs
unfolding element_segment
elements_kept [] e = refl
elements_kept (x ∷ xs) e =
    let both = and_parts (element_segment.fits x) (list_all element_segment.fits xs) e in
    let own = and_parts (unsigned.fits x.table) (code.fits x.offset && (vector unsigned).fits x.functions) both.0 in
    let rest = and_parts (code.fits x.offset) ((vector unsigned).fits x.functions) own.1 in
    let all = and_parts (nat_lt (length x.functions) (2 ^ 32)) (list_all unsigned.fits x.functions) rest.1 in
    ap (λ (ns : List ℕ). record { table = x.table; offset = x.offset; functions = ns } ∷ map cut_element xs)
    (uncut_all x.functions all.1)
    ∙ ap (λ (ys : List Element). x ∷ ys) (elements_kept xs both.1)

-- ---- modules

-- the parts of a module fit, if it does
pub record PartsFit (w : WModule) : Type 0 where
  pub uses : section_fits unsigned (types_of w.functions) ≡ true
  pub tables : section_fits table_type w.tables ≡ true
  pub globals : section_fits global w.globals ≡ true
  pub exports : section_fits export w.exports ≡ true
  pub elements : section_fits element_segment w.elements ≡ true
  pub bodies : list_all (λ f. body.fits f.body) w.functions ≡ true

left : (a b : Bool) → (a && b) ≡ true → a ≡ true
left a b e = (and_parts a b e).0

right : (a b : Bool) → (a && b) ≡ true → b ≡ true
right a b e = (and_parts a b e).1

pub parts_fit : (w : WModule) → module_fits w ≡ true → PartsFit w
unfolding module_fits
parts_fit w e =
    let nine = left _ _ (left _ _ e) in
    let eight = left _ _ nine in
    let seven = left _ _ eight in
    let six = left _ _ seven in
    let five = left _ _ six in
    let four = left _ _ five in
    let three = left _ _ four in
    record {
      uses = right _ _ three;
      tables = right _ _ four;
      globals = right _ _ six;
      exports = right _ _ seven;
      elements = right _ _ eight;
      bodies = right _ _ nine;
    }

pub fits_uncut : (w : WModule) → module_fits w ≡ true → cut_module w ≡ w
fits_uncut w e =
    let p = parts_fit w e in
    let uses = entries_in unsigned (types_of w.functions) p.uses in
    let tables = entries_in table_type w.tables p.tables in
    let globals = entries_in global w.globals p.globals in
    let exports = entries_in export w.exports p.exports in
    let elements = entries_in element_segment w.elements p.elements in
    ap (λ (fs : List Function). record {
      types = w.types;
      imports = w.imports;
      functions = fs;
      tables = map cut_table w.tables;
      memories = w.memories;
      globals = map cut_global w.globals;
      exports = map cut_export w.exports;
      elements = map cut_element w.elements;
      «data» = w.«data»;
    }) (functions_kept w.functions uses.all p.bodies)
    ∙ ap (λ (ts : List TableType). record {
      types = w.types;
      imports = w.imports;
      functions = w.functions;
      tables = ts;
      memories = w.memories;
      globals = map cut_global w.globals;
      exports = map cut_export w.exports;
      elements = map cut_element w.elements;
      «data» = w.«data»;
    }) (tables_kept w.tables tables.all)
    ∙ ap (λ (gs : List Global). record {
      types = w.types;
      imports = w.imports;
      functions = w.functions;
      tables = w.tables;
      memories = w.memories;
      globals = gs;
      exports = map cut_export w.exports;
      elements = map cut_element w.elements;
      «data» = w.«data»;
    }) (globals_kept w.globals globals.all globals.short)
    ∙ ap (λ (xs : List Export). record {
      types = w.types;
      imports = w.imports;
      functions = w.functions;
      tables = w.tables;
      memories = w.memories;
      globals = w.globals;
      exports = xs;
      elements = map cut_element w.elements;
      «data» = w.«data»;
    }) (exports_kept w.exports exports.all)
    ∙ ap (λ (xs : List Element). record {
      types = w.types;
      imports = w.imports;
      functions = w.functions;
      tables = w.tables;
      memories = w.memories;
      globals = w.globals;
      exports = w.exports;
      elements = xs;
      «data» = w.«data»;
    }) (elements_kept w.elements elements.all)

-- its bytes are its encoding
pub fits_bytes : (w : WModule) → module_fits w ≡ true → code_bytes (cut_module w) ≡ module_encoding w
unfolding code_bytes
fits_bytes w e =
    ap (λ (v : WModule). if module_fits v then module_encoding v else []) (fits_uncut w e)
    ∙ ap (λ (b : Bool). if b then module_encoding w else []) e

-- ---- the module of a body

few_functions : (x : Element) → list_all element_segment.fits (x ∷ []) ≡ true → length x.functions < 2 ^ 32
unfolding element_segment
few_functions x e =
    let one = and_parts (element_segment.fits x) true e in
    let own = and_parts (unsigned.fits x.table) (code.fits x.offset && (vector unsigned).fits x.functions) one.0 in
    let rest = and_parts (code.fits x.offset) ((vector unsigned).fits x.functions) own.1 in
    let all = and_parts (nat_lt (length x.functions) (2 ^ 32)) (list_all unsigned.fits x.functions) rest.1 in
    ltb-true (length x.functions) (2 ^ 32) all.0

slots_kept : (m : TypedModule) → module_fits (typed_module m) ≡ true → cut (slots m) ≡ slots m
slots_kept m e =
    let x : Element = record { table = 0; offset = GlobalGet 3 ∷ []; functions = range_with_len body_index (slots m) }
    in
    let all = entries_in element_segment (x ∷ []) (parts_fit (typed_module m) e).elements in
    uncut_below (slots m) (subst (λ (n : ℕ). n < 2 ^ 32) (length-range_with_len body_index (slots m))
    (few_functions x all.all))

-- What is emitted of a module that has an encoding, if its types are kept uncut: its encoding, and
-- what link needs of it.
pub record IsKept (m : TypedModule) : Type 0 where
  pub bytes : (emitted m).bytes ≡ module_encoding (typed_module m)
  pub part : link_part (emitted m) ≡ part_of m

pub emitted_kept : (m : TypedModule) → sizes_fit m.types ≡ true → module_fits (typed_module m) ≡ true → IsKept m
unfolding emitted body_bytes
emitted_kept m s e = record {
  bytes = ap (λ (b : Bool). if b then code_bytes (cut_module (typed_module m)) else []) s
      ∙ fits_bytes (typed_module m) e;
  part = ap (λ (n : ℕ). record {
    name = m.name;
    variables = size (module_row m);
    texts =
        characters (module_texts m);
    slots = n;
  }) (slots_kept m e);
}
