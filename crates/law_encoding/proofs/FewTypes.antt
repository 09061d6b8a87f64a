-- Few types of functions have an encoding.
use Rattle.std.proofs.Common.{map, ◌≡◌, ℕ, zero, suc, ◌+◌, ◌*◌, ◌≤◌, ◌<◌, Bool, true, false, nat_lt, List, [], ◌∷◌, ◌++◌, length, refl, ap, arith}
use Rattle.std.specs.List.{list_all, flat_map, AllByRecursion}
use Rattle.std.proofs.lemmas.Bool.{and_parts, lt-ltb}
use Rattle.std.proofs.lemmas.List.{length-append}
use Rattle.wasm_tree.specs.declared.kinds.ValueType.{ValueType}
use Rattle.wasm_tree.specs.declared.kinds.ValueType.TheVariants.{I32, I64}
use Rattle.wasm_tree.specs.declared.kinds.FuncType.{FuncType}
use Rattle.wasm_code.specs.Number.{unsigned}
use Rattle.wasm_code.specs.Parts.{vector, section}
use Rattle.wasm_code.specs.Instructions.{value_type}
use Rattle.wasm_binary.specs.Binary.{func_type}
use Rattle.typed_tree.specs.declared.typed_module.TypedModule.{TypedModule}
use Rattle.def_scheme.specs.Scheme.{body_types}
use Rattle.def_scheme.specs.Signatures.{Signatures, signatures_needed, so_many, results_of, type_of}
use Rattle.def_scheme.specs.Modules.{signatures}
use Rattle.law_encoding.specs.Sizes.{sum_of}
use Rattle.law_encoding.specs.Fits.{max_bytes, few_entries}
use Rattle.law_encoding.specs.FunctionTypes.{types_count}
use Rattle.law_encoding.proofs.Sums.{sum_append}
use Rattle.law_encoding.proofs.CodeFits.{both_true}
use Rattle.law_encoding.proofs.EncodedBytes.{unsigned_short}
use Rattle.law_encoding.proofs.Sections.{section_fits}
use Rattle.law_encoding.proofs.ListedTypes.{listed_few}

-- ---- lists of types of values

all_types : (ts : List ValueType) → list_all value_type.fits ts ≡ true
unfolding value_type
all_types [] = refl
all_types (t ∷ ts) = all_types ts

one_byte : (t : ValueType) → length (value_type.encoding t) ≤ 1
unfolding value_type
one_byte I32 = omega arith
one_byte I64 = omega arith

one_more : (m a b n : ℕ) → m ≡ a + b → a ≤ 1 → b ≤ n → m ≤ suc n
one_more m a b n e h l = omega (arith, e, h, l)

types_short : (ts : List ValueType) → length (flat_map value_type.encoding ts) ≤ length ts
types_short [] = omega arith
types_short (t ∷ ts) = one_more _ (length (value_type.encoding t)) _ (length ts)
    (length-append (value_type.encoding t) (flat_map value_type.encoding ts)) (one_byte t) (types_short ts)

vector_sum : (m a b n : ℕ) → m ≡ a + b → a ≤ 5 → b ≤ n → m ≤ 5 + n
vector_sum m a b n e h l = omega (arith, e, h, l)

vector_short : (ts : List ValueType) → nat_lt (length ts) max_bytes ≡ true
    → length ((vector value_type).encoding ts) ≤ 5 + length ts
vector_short ts e = vector_sum _ (length (unsigned.encoding (length ts))) _ (length ts)
    (length-append (unsigned.encoding (length ts)) (flat_map value_type.encoding ts)) (unsigned_short (length ts) e)
    (types_short ts)

-- ---- types of functions

abbrev pub type_bytes : FuncType → ℕ
type_bytes t = 11 + (length t.params + length t.results)

pub some_bytes : (t : FuncType) → 1 ≤ type_bytes t
some_bytes t = some (length t.params + length t.results) where
  some : (n : ℕ) → 1 ≤ 11 + n
  some n = omega arith

few_each : (n : ℕ) → n ≤ suc few_entries → n < max_bytes
few_each n h = omega (arith, h)

pub type_fits : (t : FuncType) → length t.params ≤ suc few_entries → length t.results ≤ suc few_entries
    → func_type.fits t ≡ true
unfolding func_type
type_fits t h l = both_true _ _ (both_true _ _ (lt-ltb _ max_bytes (few_each _ h)) (all_types t.params))
    (both_true _ _ (lt-ltb _ max_bytes (few_each _ l)) (all_types t.results))

parts_sum : (m a b n k : ℕ) → m ≡ a + b → a ≤ 5 + n → b ≤ 5 + k → suc m ≤ 11 + (n + k)
parts_sum m a b n k e h l = omega (arith, e, h, l)

pub type_short : (t : FuncType) → func_type.fits t ≡ true → length (func_type.encoding t) ≤ type_bytes t
unfolding func_type
type_short t e =
    let both = and_parts ((vector value_type).fits t.params) ((vector value_type).fits t.results) e in
    let first = and_parts (nat_lt (length t.params) max_bytes) (list_all value_type.fits t.params) both.0 in
    let second = and_parts (nat_lt (length t.results) max_bytes) (list_all value_type.fits t.results) both.1 in
    parts_sum _ (length ((vector value_type).encoding t.params)) _ (length t.params) (length t.results)
    (length-append ((vector value_type).encoding t.params) ((vector value_type).encoding t.results))
    (vector_short t.params first.0) (vector_short t.results second.0)

-- ---- signatures

pub many_long : (n : ℕ) → length (so_many n) ≡ n
many_long zero = refl
many_long (suc n) = ap suc (many_long n)

one_result : (b : Bool) → length (results_of b) ≤ 1
one_result true = omega arith
one_result false = omega arith

params_few : (l n k : ℕ) → l ≡ n → 1 + n + k ≤ few_entries → suc l ≤ suc few_entries
params_few l n k e h = omega (arith, e, h)

results_few : (n : ℕ) → n ≤ 1 → n ≤ suc few_entries
results_few n h = omega (arith, h)

rest_few : (a b : ℕ) → 1 + a + b ≤ few_entries → b ≤ few_entries
rest_few a b h = omega (arith, h)

all_fit : (ss : Signatures) → types_count ss ≤ few_entries → list_all func_type.fits (map type_of ss) ≡ true
all_fit [] h = refl
all_fit (s ∷ ss) h =
    both_true _ _ (type_fits (type_of s) (params_few _ s.arguments _ (many_long s.arguments) h)
    (results_few _ (one_result s.result))) (all_fit ss (rest_few s.arguments (types_count ss) h))

signature_sum : (l n r a b : ℕ) → l ≡ n → r ≤ 1 → a ≤ 13 * b → 11 + (suc l + r) + a ≤ 13 * (1 + n + b)
signature_sum l n r a b e h k = omega (arith, e, h, k)

signatures_short : (ss : Signatures) → sum_of type_bytes (map type_of ss) ≤ 13 * types_count ss
signatures_short [] = omega arith
signatures_short (s ∷ ss) = signature_sum _ s.arguments _ _ (types_count ss) (many_long s.arguments)
    (one_result s.result) (signatures_short ss)

whole_sum : (m a b n : ℕ) → m ≡ a + b → a ≡ 81 → b ≤ 13 * n → n ≤ few_entries → 5 + m < max_bytes
whole_sum m a b n e q h l = omega (arith, e, q, h, l)

listed_within : (a b : ℕ) → a ≤ b → b ≤ few_entries → a ≤ few_entries
listed_within a b h l = omega (arith, h, l)

-- a type with few arguments and results
abbrev IsFew : FuncType → Type 0
IsFew t = (length t.params ≤ suc few_entries) × (length t.results ≤ suc few_entries)

with_few : (us ts : List FuncType) → AllByRecursion IsFew us → list_all func_type.fits ts ≡ true
    → list_all func_type.fits (us ++ ts) ≡ true
with_few [] ts a e = e
with_few (u ∷ us) ts a e = both_true _ _ (type_fits u a.0.0 a.0.1) (with_few us ts a.1 e)

body_types_few : AllByRecursion IsFew body_types
body_types_few = (
  (omega arith, omega arith),
  (
    (omega arith, omega arith),
    (
      (omega arith, omega arith),
      ((omega arith, omega arith), ((omega arith, omega arith), ((omega arith, omega arith), tt))),
    ),
  ),
)

pub types_fit : (m : TypedModule) → types_count (signatures_needed m) ≤ few_entries
    → (section 1 func_type).fits (body_types ++ map type_of (signatures m)) ≡ true
types_fit m h =
    let few = listed_within _ _ (listed_few (signatures_needed m)) h in
    let ts = map type_of (signatures m) in
    section_fits 1 func_type type_bytes some_bytes type_short (body_types ++ ts)
    (with_few body_types ts body_types_few (all_fit (signatures m) few))
    (whole_sum _ (sum_of type_bytes body_types) _ (types_count (signatures m)) (sum_append type_bytes body_types ts)
    refl (signatures_short (signatures m)) few)
