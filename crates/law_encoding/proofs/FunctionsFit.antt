-- Functions have an encoding if they nest few levels, their numbers fit, and they are short.
use Rattle.std.proofs.Common.{◌≡◌, ℕ, suc, ◌+◌, ◌*◌, ◌≤◌, ◌<◌, Bool, true, ◌&&◌, nat_lt, List, [], ◌∷◌, ◌++◌, length, refl, arith}
use Rattle.std.specs.List.{list_all, flat_map}
use Rattle.std.proofs.lemmas.Bool.{and_parts, lt-ltb}
use Rattle.std.proofs.lemmas.List.{length-append}
use Rattle.std.proofs.lemmas.List.Sums.{sum_by-cons}
use Rattle.wasm_tree.specs.declared.kinds.ValueType.{ValueType}
use Rattle.wasm_tree.specs.declared.kinds.ValueType.TheVariants.{I32, I64}
use Rattle.wasm_tree.specs.declared.instr.Instr.{Instr}
use Rattle.wasm_tree.specs.declared.module.Locals.{Locals}
use Rattle.wasm_tree.specs.declared.module.Function.{Function}
use Rattle.wasm_tree.specs.declared.module.WModule.{WModule}
use Rattle.wasm_code.specs.Number.{unsigned}
use Rattle.wasm_code.specs.Instructions.{value_type, instr_encoding, code}
use Rattle.wasm_binary.specs.Binary.{locals_encoding, local_count, locals, body, body_encoding, bodies_encoding, module_fits}
use Rattle.law_encoding.specs.Sizes.{sum_of}
use Rattle.law_encoding.specs.Nesting.{◌⊔◌, deepest_of}
use Rattle.law_encoding.specs.CodeNesting.{levels, function_levels}
use Rattle.law_encoding.specs.CodeBytes.{bytes, function_bytes}
use Rattle.law_encoding.specs.CodeNumbers.{code_numbers_fit}
use Rattle.law_encoding.specs.Fits.{max_bytes, function_locals, FunctionsFit, HasRoom}
use Rattle.law_encoding.proofs.CodeFits.{code_fits, both_true}
use Rattle.law_encoding.proofs.EncodedBytes.{unsigned_short, code_short}

-- ---- locals

value_type_short : (t : ValueType) → length (value_type.encoding t) ≡ 1
unfolding value_type
value_type_short I32 = refl
value_type_short I64 = refl

first_fits : (a b : ℕ) → a + b < max_bytes → a < max_bytes
first_fits a b h = omega (arith, h)

second_fits : (a b : ℕ) → a + b < max_bytes → b < max_bytes
second_fits a b h = omega (arith, h)

group_sum : (m a u t b n : ℕ) → m ≡ a + b → a ≡ u + t → u ≤ 5 → t ≡ 1 → b ≤ 6 * n → m ≤ 6 * suc n
group_sum m a u t b n e f h g l = omega (arith, e, f, h, g, l)

in_all : (a b : ℕ) → a ≡ b → a < max_bytes → b < max_bytes
in_all a b e h = omega (arith, e, h)

groups_short : (ls : List Locals) → local_count ls < max_bytes → length (flat_map locals_encoding ls) ≤ 6 * length ls
groups_short [] h = none where
  none : 0 ≤ 0
  none = omega arith
groups_short (l ∷ ls) g =
    let h = in_all (local_count (l ∷ ls)) (l.count + local_count ls) (sum_by-cons (λ (x : Locals). x.count) l ls) g in
    group_sum _ (length (locals_encoding l)) (length (unsigned.encoding l.count))
    (length (value_type.encoding l.value_type)) (length (flat_map locals_encoding ls)) (length ls)
    (length-append (locals_encoding l) (flat_map locals_encoding ls))
    (length-append (unsigned.encoding l.count) (value_type.encoding l.value_type))
    (unsigned_short l.count (lt-ltb _ _ (first_fits l.count (local_count ls) h))) (value_type_short l.value_type)
    (groups_short ls (second_fits l.count (local_count ls) h))

-- ---- bodies

-- what stands behind the size of a body
abbrev inner : Function → List ℕ
inner f = locals.encoding f.body.locals ++ code.encoding f.body.code

locals_sum : (m a b k : ℕ) → m ≡ a + b → a ≤ 5 → b ≤ 6 * k → m ≤ 5 + 6 * k
locals_sum m a b k e h l = omega (arith, e, h, l)

locals_short : (ls : List Locals) → nat_lt (length ls) max_bytes ≡ true → local_count ls < max_bytes
    → length (locals.encoding ls) ≤ 5 + 6 * length ls
unfolding locals
locals_short ls e h =
    locals_sum _ (length (unsigned.encoding (length ls))) (length (flat_map locals_encoding ls)) (length ls)
    (length-append (unsigned.encoding (length ls)) (flat_map locals_encoding ls))
    (unsigned_short (length ls) e) (groups_short ls h)

ended_sum : (m a k : ℕ) → m ≡ a + 1 → a ≤ k → m ≤ k + 1
ended_sum m a k e h = omega (arith, e, h)

pub ended_short : (is : List Instr) → code_numbers_fit is ≡ true → length (code.encoding is) ≤ bytes is + 1
unfolding code
ended_short is e = ended_sum _ (length (flat_map instr_encoding is)) (bytes is)
    (length-append (flat_map instr_encoding is) (0x0B ∷ [])) (code_short is e)

few_groups : (k b : ℕ) → 11 + (6 * k + b) < max_bytes → k < max_bytes
few_groups k b h = omega (arith, h)

inner_sum : (m a c k b : ℕ) → m ≡ a + c → a ≤ 5 + 6 * k → c ≤ b + 1 → m + 5 ≤ 11 + (6 * k + b)
inner_sum m a c k b e h l = omega (arith, e, h, l)

abbrev Fitting : Function → Type 0
Fitting f = (levels f.body.code ≤ 4096) × (code_numbers_fit f.body.code ≡ true)
    × (local_count f.body.locals < max_bytes) × (function_bytes f < max_bytes)

inner_short : (f : Function) → Fitting f → length (inner f) + 5 ≤ function_bytes f
inner_short f h =
    inner_sum _ (length (locals.encoding f.body.locals)) (length (code.encoding f.body.code)) (length f.body.locals)
    (bytes f.body.code) (length-append (locals.encoding f.body.locals) (code.encoding f.body.code))
    (locals_short f.body.locals (lt-ltb _ _ (few_groups (length f.body.locals) (bytes f.body.code) h.3)) h.2)
    (ended_short f.body.code h.1)

below : (a n : ℕ) → a + 5 ≤ n → n < max_bytes → a < max_bytes
below a n h l = omega (arith, h, l)

locals_fit : (ls : List Locals) → nat_lt (length ls) max_bytes ≡ true → nat_lt (local_count ls) max_bytes ≡ true
    → locals.fits ls ≡ true
unfolding locals
locals_fit ls e h = both_true _ _ e h

pub within_levels : (is : List Instr) → levels is ≤ 4096 → code_numbers_fit is ≡ true → code.fits is ≡ true
unfolding code
within_levels is h e = code_fits 4096 is h e

body_fits : (f : Function) → Fitting f → body.fits f.body ≡ true
unfolding body
body_fits f h =
    both_true _ _
    (both_true _ _ (locals_fit f.body.locals (lt-ltb _ _ (few_groups (length f.body.locals) (bytes f.body.code) h.3))
    (lt-ltb _ _ h.2)) (within_levels f.body.code h.0 h.1))
    (lt-ltb _ _ (below (length (inner f)) (function_bytes f) (inner_short f h) h.3))

body_sum : (m u i n : ℕ) → m ≡ u + i → u ≤ 5 → i + 5 ≤ n → m ≤ n
body_sum m u i n e h l = omega (arith, e, h, l)

body_short : (f : Function) → Fitting f → length (body_encoding f) ≤ function_bytes f
unfolding body
body_short f h =
    body_sum _ (length (unsigned.encoding (length (inner f)))) (length (inner f)) (function_bytes f)
    (length-append (unsigned.encoding (length (inner f))) (inner f))
    (unsigned_short (length (inner f)) (lt-ltb _ _ (below (length (inner f)) (function_bytes f) (inner_short f h) h.3)))
    (inner_short f h)

-- ---- all functions

abbrev AllFit : List Function → Type 0
AllFit [] = Unit {0}
AllFit (f ∷ fs) = Fitting f × AllFit fs

first_low : (a b n : ℕ) → a ⊔ b ≤ n → a ≤ n
first_low a b n h = omega (arith, h)

others_low : (a b n : ℕ) → a ⊔ b ≤ n → b ≤ n
others_low a b n h = omega (arith, h)

first_few : (a b : ℕ) → a ⊔ b < max_bytes → a < max_bytes
first_few a b h = omega (arith, h)

others_few : (a b : ℕ) → a ⊔ b < max_bytes → b < max_bytes
others_few a b h = omega (arith, h)

all_fitting : (fs : List Function) → deepest_of function_levels fs ≤ 4096
    → list_all (λ f. code_numbers_fit f.body.code) fs ≡ true → deepest_of function_locals fs < max_bytes
    → sum_of function_bytes fs < max_bytes → AllFit fs
all_fitting [] h e l s = tt
all_fitting (f ∷ fs) h e l s =
    let numbers = and_parts (code_numbers_fit f.body.code) (list_all (λ f. code_numbers_fit f.body.code) fs) e in (
      (
        first_low (function_levels f) _ 4096 h,
        numbers.0,
        first_few (function_locals f) _ l,
        first_fits
            (function_bytes f) _ s,
      ),
      all_fitting fs (others_low (function_levels f) _ 4096 h) numbers.1 (others_few (function_locals f) _ l)
          (second_fits (function_bytes f) _ s),
    )

each_fits : (fs : List Function) → AllFit fs → list_all (λ f. body.fits f.body) fs ≡ true
each_fits [] h = refl
each_fits (f ∷ fs) h = both_true _ _ (body_fits f h.0) (each_fits fs h.1)

pair_sum : (m a b k n : ℕ) → m ≡ a + b → a ≤ k → b ≤ n → m ≤ k + n
pair_sum m a b k n e h l = omega (arith, e, h, l)

each_short : (fs : List Function) → AllFit fs → length (flat_map body_encoding fs) ≤ sum_of function_bytes fs
each_short [] h = none where
  none : 0 ≤ 0
  none = omega arith
each_short (f ∷ fs) h = pair_sum _ (length (body_encoding f)) (length (flat_map body_encoding fs)) (function_bytes f)
    (sum_of function_bytes fs) (length-append (body_encoding f) (flat_map body_encoding fs)) (body_short f h.0)
    (each_short fs h.1)

one_each : (n m k : ℕ) → n ≤ m → suc n ≤ 11 + k + m
one_each n m k h = omega (arith, h)

number_of : (fs : List Function) → length fs ≤ sum_of function_bytes fs
number_of [] = none where
  none : 0 ≤ 0
  none = omega arith
number_of (f ∷ fs) = one_each (length fs) (sum_of function_bytes fs) _ (number_of fs)

few : (n s : ℕ) → n ≤ s → 5 + s < max_bytes → n < max_bytes
few n s h l = omega (arith, h, l)

without_count : (s : ℕ) → 5 + s < max_bytes → s < max_bytes
without_count s h = omega (arith, h)

section_sum : (m u b s : ℕ) → m ≡ u + b → u ≤ 5 → b ≤ s → 5 + s < max_bytes → m < max_bytes
section_sum m u b s e h l k = omega (arith, e, h, l, k)

pub bodies_fit : (fs : List Function) → FunctionsFit fs → (list_all (λ f. body.fits f.body) fs ≡ true)
    × (nat_lt (length (bodies_encoding fs)) max_bytes ≡ true)
bodies_fit fs p =
    let all = all_fitting fs p.nesting p.numbers p.locals (without_count _ p.size) in (
      each_fits fs all,
      lt-ltb _ _ (section_sum _ (length (unsigned.encoding (length fs))) (length (flat_map body_encoding fs))
          (sum_of function_bytes fs) (length-append (unsigned.encoding (length fs)) (flat_map body_encoding fs))
          (unsigned_short (length fs) (lt-ltb _ _ (few (length fs) (sum_of function_bytes fs) (number_of fs) p.size)))
          (each_short fs all) p.size),
    )

-- ---- a module

all_true : (a b c d e f g h i j k : Bool) → a ≡ true → b ≡ true → c ≡ true → d ≡ true → e ≡ true → f ≡ true → g ≡ true
    → h ≡ true → i ≡ true → j ≡ true → k ≡ true
    → (a && b && c && d && e && f && g && h && i && j && k) ≡ true
all_true a b c d e f g h i j k p q r s t u v w x y z =
    both_true _ _ (both_true _ _ (both_true _ _
    (both_true _ _ (both_true _ _ (both_true _ _
    (both_true _ _ (both_true _ _ (both_true _ _ (both_true _ _ p q) r) s) t) u) v) w) x) y) z

pub module_has_room : (m : WModule) → HasRoom m → module_fits m ≡ true
unfolding module_fits
module_has_room m p =
    let bodies = bodies_fit m.functions p.functions in
    all_true _ _ _ _ _ _ _ _ _ _ _ p.types p.imports p.uses p.tables p.memories p.globals p.exports p.elements bodies.0
    bodies.1 p.segments
