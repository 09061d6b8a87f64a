-- The encoding of code takes no more bytes than are counted.
use Rattle.std.proofs.Common.{map, ◌≡◌, ℕ, zero, suc, ◌+◌, ◌-◌, ◌*◌, ◌/◌, ◌%◌, ◌^◌, ◌≤◌, ◌<◌, Bool, true, false, ◌&&◌, nat_lt, List, [], ◌∷◌, ◌++◌, length, Option, Some, None, refl, sym, ap, subst, ◌∙◌, arith}
use Rattle.std.specs.Prelude.{if◌then◌else◌}
use Rattle.std.specs.List.{list_all, concat, flat_map}
use Rattle.std.proofs.lemmas.Bool.{and_parts, ltb-true, ltb-false}
use Rattle.std.proofs.lemmas.List.{length-append}
use Rattle.wasm_tree.specs.declared.kinds.ValueType.{ValueType}
use Rattle.wasm_tree.specs.declared.kinds.ValueType.TheVariants.{I32, I64}
use Rattle.wasm_tree.specs.declared.instr.Instr.{Instr, Instr-F, out-Instr, roll-Instr, out-roll-Instr, map-Instr, fold_out-Instr, ind-Instr}
use Rattle.wasm_tree.specs.declared.instr.Instr.TheOpen as layer
use Rattle.wasm_code.specs.Number.{groups, signed_groups, shift_group, unsigned}
use Rattle.wasm_code.specs.Parts.{vector}
use Rattle.wasm_code.specs.Instructions.{block_type, value_type_encoding, encoding_step, instr_encoding}
use Rattle.law_encoding.specs.Sizes.{total}
use Rattle.law_encoding.specs.CodeBytes.{instr_layer, bytes_in, bytes}
use Rattle.law_encoding.specs.CodeNumbers.{all_fit, numbers_layer, numbers_fit, code_numbers_fit}
use Rattle.law_encoding.proofs.CodeFits.{at_numbers}

itself : (n : ℕ) → n ≤ n
itself n = omega arith

-- ---- numbers in groups of seven bits

-- so many groups after the first
abbrev many : ℕ → ℕ
many zero = 128
many (suc k) = many k * 128

no_more_groups : (n : ℕ) {X : Type 0} → n < 128 → 128 ≤ n → X
no_more_groups n h l = absurd (none h l) where
  none : n < 128 → 128 ≤ n → ⊥
  none h l = omega (arith, h, l)

fewer_groups : (n m : ℕ) → n < m * 128 → n / 128 < m
fewer_groups n m h = omega (arith, h)

one_group : (k : ℕ) → 1 ≤ suc k
one_group k = omega arith

next_group : (a k : ℕ) → a ≤ suc k → suc a ≤ suc (suc k)
next_group a k h = omega (arith, h)

by_size : (b : Bool) (k most n : ℕ) → nat_lt n 128 ≡ b → (b ≡ false → length (groups most (n / 128)) ≤ k)
    → length (if b then n ∷ [] else (128 + n % 128) ∷ groups most (n / 128)) ≤ suc k
by_size true k most n e h = one_group k
by_size false k most n e h = more (length (groups most (n / 128))) k (h refl) where
  more : (a k : ℕ) → a ≤ k → suc a ≤ suc k
  more a k l = omega (arith, l)

groups_short : (k most n : ℕ) → n < many k → length (groups most n) ≤ suc k
unfolding groups
groups_short k zero n h = none (suc k) where
  none : (m : ℕ) → 0 ≤ m
  none m = omega arith
groups_short zero (suc most) n h = by_size (nat_lt n 128) 0 most n refl (λ e. no_more_groups n h (ltb-false n 128 e))
groups_short (suc k) (suc most) n h = by_size (nat_lt n 128) (suc k) most n refl
    (λ e. groups_short k most (n / 128) (fewer_groups n (many k) h))

pub unsigned_short : (n : ℕ) → unsigned.fits n ≡ true → length (unsigned.encoding n) ≤ 5
unsigned_short n e = groups_short 4 10 n (wide n (ltb-true n (2 ^ 32) e)) where
  wide : (m : ℕ) → m < 2 ^ 32 → m < many 4
  wide m l = omega (arith, l)

signed_by : (a b : Bool) (most n : ℕ) (xs ys zs : List ℕ) → length xs ≤ suc most → length ys ≤ suc most
    → length zs ≤ suc most → length (if a then xs else (if b then ys else zs)) ≤ suc most
signed_by true b most n xs ys zs h k l = h
signed_by false true most n xs ys zs h k l = k
signed_by false false most n xs ys zs h k l = l

pub signed_short : (most top n : ℕ) → length (signed_groups most top n) ≤ most
unfolding signed_groups
signed_short zero top n = itself 0
signed_short (suc most) top n =
    signed_by (nat_lt n 64) (nat_lt (top - 64) n) most n (n ∷ []) ((n + 127 - top) ∷ [])
    ((128 + n % 128) ∷ signed_groups most top (shift_group top n)) (one_group most) (one_group most)
    (one_more (length (signed_groups most top (shift_group top n))) most (signed_short most top (shift_group top n)))
  where
    one_more : (a k : ℕ) → a ≤ k → suc a ≤ suc k
    one_more a k h = omega (arith, h)

-- ---- instructions

one_before : (a n : ℕ) → a ≤ n → suc a ≤ 1 + n
one_before a n h = omega (arith, h)

index_short : (n : ℕ) → unsigned.fits n ≡ true → suc (length (unsigned.encoding n)) ≤ 6
index_short n e = one_before _ 5 (unsigned_short n e)

type_sum : (m a : ℕ) → m ≡ a + 1 → a ≤ 5 → suc m ≤ 7
type_sum m a e h = omega (arith, e, h)

type_short : (t : ℕ) → unsigned.fits t ≡ true → suc (length (unsigned.encoding t ++ 0x00 ∷ [])) ≤ 7
type_short t e = type_sum _ (length (unsigned.encoding t)) (length-append (unsigned.encoding t) (0x00 ∷ []))
    (unsigned_short t e)

label_sum : (m a b n : ℕ) → m ≡ a + b → a ≤ 5 → b ≤ 5 * n → m ≤ 5 * suc n
label_sum m a b n e h l = omega (arith, e, h, l)

pub labels_short : (ls : List ℕ) → list_all unsigned.fits ls ≡ true
    → length (flat_map unsigned.encoding ls) ≤ 5 * length ls
labels_short [] e = itself 0
labels_short (l ∷ ls) e =
    let both = and_parts (unsigned.fits l) (list_all unsigned.fits ls) e in
    label_sum _ (length (unsigned.encoding l)) (length (flat_map unsigned.encoding ls)) (length ls)
    (length-append (unsigned.encoding l) (flat_map unsigned.encoding ls)) (unsigned_short l both.0)
    (labels_short ls both.1)

table_sum : (m v c b a n : ℕ) → m ≡ v + a → v ≡ c + b → c ≤ 5 → b ≤ 5 * n → a ≤ 5 → suc m ≤ 11 + 5 * n
table_sum m v c b a n e f h k l = omega (arith, e, f, h, k, l)

table_short : (ls : List ℕ) (l : ℕ) → ((vector unsigned).fits ls && unsigned.fits l) ≡ true
    → suc (length ((vector unsigned).encoding ls ++ unsigned.encoding l)) ≤ 11 + 5 * length ls
table_short ls l e =
    let both = and_parts ((vector unsigned).fits ls) (unsigned.fits l) e in
    let parts = and_parts (nat_lt (length ls) (2 ^ 32)) (list_all unsigned.fits ls) both.0 in
    table_sum _ (length ((vector unsigned).encoding ls)) (length (unsigned.encoding (length ls)))
    (length (flat_map unsigned.encoding ls)) (length (unsigned.encoding l)) (length ls)
    (length-append ((vector unsigned).encoding ls) (unsigned.encoding l))
    (length-append (unsigned.encoding (length ls)) (flat_map unsigned.encoding ls))
    (unsigned_short (length ls) parts.0) (labels_short ls parts.1) (unsigned_short l both.1)

value_type_byte : (t : ValueType) → length (value_type_encoding t) ≡ 1
value_type_byte I32 = refl
value_type_byte I64 = refl

block_type_byte : (t : Option ValueType) → length (block_type.encoding t) ≡ 1
unfolding block_type
block_type_byte None = refl
block_type_byte (Some t) = value_type_byte t

-- ---- the induction

at_bytes : (i : Instr) (x : Instr-F Instr) → out-Instr i ≡ x → bytes_in i ≡ instr_layer (map-Instr Instr ℕ bytes_in x)
unfolding bytes_in
at_bytes i x q = fold_out-Instr ℕ instr_layer i
    ∙ ap (λ (y : Instr-F Instr). instr_layer (map-Instr Instr ℕ bytes_in y)) q

at_encoding : (i : Instr) (x : Instr-F Instr) → out-Instr i ≡ x
    → instr_encoding i ≡ encoding_step (map-Instr Instr (List ℕ) instr_encoding x)
unfolding instr_encoding
at_encoding i x q = fold_out-Instr (List ℕ) encoding_step i
    ∙ ap (λ (y : Instr-F Instr). encoding_step (map-Instr Instr (List ℕ) instr_encoding y)) q

abbrev P : Instr → Type 0
P i = numbers_fit i ≡ true → length (instr_encoding i) ≤ bytes_in i

abbrev S : Type 0
S = (i : Instr) × P i

abbrev bare : Instr-F S → Instr-F Instr
bare x = map-Instr S Instr (λ i. i.0) x

abbrev code_of : List S → List Instr
code_of xs = map (λ (i : S). i.0) xs

abbrev inner : List S → List ℕ
inner xs = concat (map instr_encoding (code_of xs))

abbrev inner_bytes : List S → ℕ
inner_bytes xs = total (map bytes_in (code_of xs))

pair_sum : (m a b k n : ℕ) → m ≡ a + b → a ≤ k → b ≤ n → m ≤ k + n
pair_sum m a b k n e h l = omega (arith, e, h, l)

all_short : (xs : List S) → all_fit (map numbers_fit (code_of xs)) ≡ true → length (inner xs) ≤ inner_bytes xs
all_short [] e = itself 0
all_short (x ∷ xs) e =
    let both = and_parts (numbers_fit x.0) (all_fit (map numbers_fit (code_of xs))) e in
    pair_sum _ (length (instr_encoding x.0)) (length (inner xs)) (bytes_in x.0) (inner_bytes xs)
    (length-append (instr_encoding x.0) (inner xs)) (x.1 both.0) (all_short xs both.1)

block_sum : (m u t a k : ℕ) → m ≡ u + 1 → u ≡ t + a → t ≡ 1 → a ≤ k → suc m ≤ 3 + k
block_sum m u t a k e f g h = omega (arith, e, f, g, h)

block_short : (t : Option ValueType) (code : List ℕ) (k : ℕ) → length code ≤ k
    → suc (length (block_type.encoding t ++ code ++ 0x0B ∷ [])) ≤ 3 + k
block_short t code k h =
    block_sum _ (length (block_type.encoding t ++ code)) (length (block_type.encoding t)) (length code) k
    (length-append (block_type.encoding t ++ code) (0x0B ∷ [])) (length-append (block_type.encoding t) code)
    (block_type_byte t) h

only_sum : (m k : ℕ) → m ≤ 3 + k → m ≤ 4 + (k + 0)
only_sum m k h = omega (arith, h)

else_sum : (m u t a w b k n : ℕ) → m ≡ u + suc w → u ≡ t + a → t ≡ 1 → w ≡ b + 1 → a ≤ k → b ≤ n → suc m ≤ 4 + (k + n)
else_sum m u t a w b k n e f g i h l = omega (arith, e, f, g, i, h, l)

else_short : (t : Option ValueType) (code others : List ℕ) (k n : ℕ) → length code ≤ k → length others ≤ n
    → suc (length (block_type.encoding t ++ code ++ (0x05 ∷ (others ++ 0x0B ∷ [])))) ≤ 4 + (k + n)
else_short t code others k n h l =
    else_sum _ (length (block_type.encoding t ++ code)) (length (block_type.encoding t)) (length code)
    (length (others ++ 0x0B ∷ [])) (length others) k n
    (length-append (block_type.encoding t ++ code) (0x05 ∷ (others ++ 0x0B ∷ [])))
    (length-append (block_type.encoding t) code) (block_type_byte t) (length-append others (0x0B ∷ [])) h l

short_one : (y : Instr-F S) → numbers_layer (map-Instr Instr Bool numbers_fit (bare y)) ≡ true
    → length (encoding_step (map-Instr Instr (List ℕ) instr_encoding (bare y))) ≤ instr_layer
    (map-Instr Instr ℕ bytes_in (bare y))
short_one (layer.Block t xs) e = block_short t (inner xs) (inner_bytes xs) (all_short xs e)
short_one (layer.Loop t xs) e = block_short t (inner xs) (inner_bytes xs) (all_short xs e)
short_one (layer.If t xs None) e = only_sum _ (inner_bytes xs)
    (block_short t (inner xs) (inner_bytes xs)
    (all_short xs (and_parts (all_fit (map numbers_fit (code_of xs))) true e).0))
short_one (layer.If t xs (Some ys)) e =
    let both = and_parts (all_fit (map numbers_fit (code_of xs))) (all_fit (map numbers_fit (code_of ys))) e in
    else_short t (inner xs) (inner ys) (inner_bytes xs) (inner_bytes ys) (all_short xs both.0) (all_short ys both.1)
short_one layer.Unreachable e = itself 1
short_one (layer.Br l) e = index_short l e
short_one (layer.BrIf l) e = index_short l e
short_one (layer.BrTable ls l) e = table_short ls l e
short_one layer.Return e = itself 1
short_one (layer.Call f) e = index_short f e
short_one (layer.CallIndirect t) e = type_short t e
short_one layer.Drop e = itself 1
short_one (layer.LocalGet x) e = index_short x e
short_one (layer.LocalSet x) e = index_short x e
short_one (layer.LocalTee x) e = index_short x e
short_one (layer.GlobalGet x) e = index_short x e
short_one (layer.Load l) e = itself 3
short_one (layer.Store w) e = itself 3
short_one (layer.I32Const k) e = one_before _ 5 (signed_short 5 4294967295 k)
short_one (layer.I64Const k) e = one_before _ 10 (signed_short 10 18446744073709551615 k)
short_one (layer.Numeric o) e = itself 1

step : (x : Instr-F Instr) (y : Instr-F S) → bare y ≡ x → P (roll-Instr x)
step x y q e =
    let r = out-roll-Instr x ∙ sym q in
    subst (λ (n : ℕ). length (instr_encoding (roll-Instr x)) ≤ n) (sym (at_bytes (roll-Instr x) (bare y) r))
    (subst (λ (bs : List ℕ). length bs ≤ instr_layer (map-Instr Instr ℕ bytes_in (bare y)))
    (sym (at_encoding (roll-Instr x) (bare y) r))
    (short_one y (sym (at_numbers (roll-Instr x) (bare y) r) ∙ e)))

pub instr_short : (i : Instr) → P i
instr_short = ind-Instr P step

pub code_short : (code : List Instr) → code_numbers_fit code ≡ true → length (flat_map instr_encoding code) ≤ bytes code
unfolding bytes code_numbers_fit
code_short [] e = itself 0
code_short (i ∷ code) e =
    let both = and_parts (numbers_fit i) (list_all numbers_fit code) e in
    pair_sum _ (length (instr_encoding i)) (length (flat_map instr_encoding code)) (bytes_in i) (bytes code)
    (length-append (instr_encoding i) (flat_map instr_encoding code)) (instr_short i both.0)
    (code_short code both.1)
