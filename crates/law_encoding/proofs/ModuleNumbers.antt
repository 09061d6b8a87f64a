-- The indexes in the code of a valid module with few parts fit.
use Rattle.std.proofs.Common.{map, ◌≡◌, ℕ, zero, suc, ◌+◌, ◌*◌, ◌≤◌, ◌<◌, true, List, [], ◌∷◌, ◌++◌, length, Option, Some, None, refl, sym, subst, ◌∙◌, arith}
use Rattle.std.specs.Prelude.{slice_get, replicate, All}
use Rattle.std.specs.List.{list_all, filter_map, cons_option, AllByRecursion}
use Rattle.std.proofs.lemmas.List.Sums.{sum_by-cons}
use Rattle.std.proofs.lemmas.Bool.{and_parts, lt-ltb}
use Rattle.std.proofs.lemmas.List.{length-append, length-map, length-replicate}
use Rattle.std.proofs.lemmas.List.Elements.{All-head, All-tail}
use Rattle.wasm_tree.specs.declared.kinds.FuncType.{FuncType}
use Rattle.wasm_tree.specs.declared.module.Function.{Function}
use Rattle.wasm_tree.specs.declared.module.Locals.{Locals}
use Rattle.wasm_tree.specs.Validity as valid
use Rattle.wasm_tree.specs.Validity.{Context, context, function_context, function_import, global_import, IsFunction, IsValid}
use Rattle.wasm_code.specs.Number.{unsigned}
use Rattle.wasm_binary.specs.Binary.{local_count, types_of}
use Rattle.typed_tree.specs.declared.typed_module.TypedModule.{TypedModule}
use Rattle.def_scheme.specs.Scheme.{body_types, own_imports, imported_globals, host_imports}
use Rattle.def_scheme.specs.Signatures.{Signature, Signatures, signatures_needed, type_of}
use Rattle.def_scheme.specs.Modules.{functions, signatures, imports, typed_module}
use Rattle.law_modules.specs.WellFormed.{IsWellFormed}
use Rattle.law_modules.proofs.Modules.{typed_module_valid}
use Rattle.law_well_formed.proofs.Places.{is_within}
use Rattle.law_encoding.specs.Sizes.{sum_of}
use Rattle.law_encoding.specs.Nesting.{◌⊔◌, deepest_of}
use Rattle.law_encoding.specs.CodeBytes.{bytes, function_bytes}
use Rattle.law_encoding.specs.CodeNumbers.{code_numbers_fit}
use Rattle.law_encoding.specs.Fits.{few_entries, max_bytes, function_locals}
use Rattle.law_encoding.specs.FunctionTypes.{type_counts, types_count}
use Rattle.law_encoding.specs.ValidNumbers.{code_constants_fit, AreFew}
use Rattle.law_encoding.specs.ModuleNumbers.{HasFewParts}
use Rattle.law_encoding.proofs.Sums.{length_below}
use Rattle.law_encoding.proofs.CodeFits.{both_true}
use Rattle.law_encoding.proofs.BodyModules.{eleven}
use Rattle.law_encoding.proofs.ListedTypes.{listed_few}
use Rattle.law_encoding.proofs.FewTypes.{many_long}
use Rattle.law_encoding.proofs.ValidNumbers.{code_fits}

-- ---- types with few arguments

abbrev FewParams : FuncType → Type 0
FewParams t = length t.params ≤ suc few_entries

few_at : (ts : List FuncType) → AllByRecursion FewParams ts → (k : ℕ) (t : FuncType) → slice_get ts k ≡ Some t
    → FewParams t
few_at [] a k t e = absurd cc
few_at (u ∷ ts) a zero t e = let q : u ≡ t = cc in subst FewParams q a.0
few_at (u ∷ ts) a (suc k) t e = few_at ts a.1 k t e

params_few : (l n k : ℕ) → l ≡ n → 1 + n + k ≤ few_entries → suc l ≤ suc few_entries
params_few l n k e h = omega (arith, e, h)

rest_few : (a b : ℕ) → 1 + a + b ≤ few_entries → b ≤ few_entries
rest_few a b h = omega (arith, h)

listed_params : (ss : Signatures) → types_count ss ≤ few_entries → AllByRecursion FewParams (map type_of ss)
listed_params [] h = tt
listed_params (s ∷ ss) h = (
  params_few _ s.arguments (types_count ss) (many_long s.arguments) h,
  listed_params ss
      (rest_few s.arguments _ h),
)

all_params : (ss : Signatures) → types_count ss ≤ few_entries → AllByRecursion FewParams (body_types ++ map type_of ss)
all_params ss h = (
  omega arith,
  (
    omega arith,
    (omega arith, (omega arith, (omega arith, (omega arith, listed_params ss h)))),
  ),
)

-- ---- how much there is

kept_few : {B : Type 0} (o : Option B) (ys : List B) (n : ℕ) → length ys ≤ n → length (cons_option o ys) ≤ suc n
kept_few None ys n h = omega (arith, h)
kept_few (Some y) ys n h = omega (arith, h)

filter_few : {A B : Type 0} (f : A → Option B) (xs : List A) → length (filter_map f xs) ≤ length xs
filter_few f [] = omega arith
filter_few f (x ∷ xs) = kept_few (f x) (filter_map f xs) (length xs) (filter_few f xs)

imported_two : (ns : List (List ℕ)) → length (imported_globals ns) ≡ 2 * length ns
imported_two [] = refl
imported_two (n ∷ ns) = two (length (imported_globals ns)) (length ns) (imported_two ns) where
  two : (a b : ℕ) → a ≡ 2 * b → suc (suc a) ≡ 2 * suc b
  two a b e = omega (arith, e)

imports_sum : (m a b n k : ℕ) → m ≡ 6 + a → a ≡ b + 2 → b ≡ 2 * n → n ≡ k → m ≡ 8 + 2 * k
imports_sum m a b n k e h l q = omega (arith, e, h, l, q)

imports_count : (m : TypedModule) → length (imports m) ≡ 8 + 2 * length m.imports
imports_count m =
    let ns = map (λ i. i.name) m.imports in
    imports_sum _ (length (imported_globals ns ++ host_imports)) (length (imported_globals ns)) (length ns)
    (length m.imports) (length-append (own_imports m.name) (imported_globals ns ++ host_imports))
    (length-append (imported_globals ns) host_imports) (imported_two ns) (length-map m.imports (λ i. i.name))

declared_step : (m a b n k : ℕ) → m ≡ a + b → a ≡ n → b ≡ k → m ≡ n + k
declared_step m a b n k e h l = omega (arith, e, h, l)

-- ---- the functions of a module

module _ (c : Context) where
  -- what its functions may name
  pub record NamesFew : Type 0 where
    pub types : length c.types ≤ max_bytes
    pub functions : length c.functions ≤ max_bytes
    pub globals : length c.globals ≤ max_bytes
    pub params : AllByRecursion FewParams c.types

  -- the locals of a function are its arguments and those that it declares
  declared_count : (gs : List Locals) → length (valid.local_types gs) ≡ local_count gs
  declared_count [] = refl
  declared_count (g ∷ gs) =
      declared_step _ (length (replicate g.count g.value_type)) (length (valid.local_types gs)) g.count (local_count gs)
      (length-append (replicate g.count g.value_type) (valid.local_types gs))
      (length-replicate g.count g.value_type) (declared_count gs)
      ∙ sym (sum_by-cons (λ (x : Locals). x.count) g gs)

  locals_few : (m p n d k : ℕ) → m ≡ p + n → p ≤ suc few_entries → n ≡ d → d ⊔ k ≤ few_entries → m ≤ max_bytes
  locals_few m p n d k e h q l = omega (arith, e, h, q, l)

  first_few : (a b : ℕ) → a ⊔ b ≤ few_entries → b ≤ few_entries
  first_few a b h = omega (arith, h)

  body_room : (l b s : ℕ) → 5 + (11 + (6 * l + b) + s) < max_bytes → 1 + b ≤ max_bytes
  body_room l b s h = omega (arith, h)

  rest_room : (f s : ℕ) → 5 + (f + s) < max_bytes → 5 + s < max_bytes
  rest_room f s h = omega (arith, h)

  index_few : (k n : ℕ) → k < n → n ≤ max_bytes → k < max_bytes
  index_few k n h l = omega (arith, h, l)

  module _ (few : NamesFew) where
    names_few : (t : FuncType) (f : Function) (s : ℕ) → FewParams t → function_locals f ⊔ s ≤ few_entries
        → AreFew (function_context c t f.body.locals)
    names_few t f s p h = record {
      types = few.types;
      functions = few.functions;
      globals = few.globals;
      locals = locals_few _ (length t.params) _ (local_count f.body.locals) s
          (length-append t.params (valid.local_types f.body.locals)) p (declared_count f.body.locals) h;
    }

    numbers_fit : (fs : List Function) → All (IsFunction c) fs → deepest_of function_locals fs ≤ few_entries
        → 5 + sum_of function_bytes fs < max_bytes
        → list_all (λ (f : Function). code_constants_fit f.body.code) fs ≡ true
        → list_all (λ (f : Function). code_numbers_fit f.body.code) fs ≡ true
    numbers_fit [] a l h e = refl
    numbers_fit (f ∷ fs) a l h e =
        let v = All-head (IsFunction c) f fs a in
        let both = and_parts (code_constants_fit f.body.code)
        (list_all (λ (f : Function). code_constants_fit f.body.code) fs) e in
        both_true _ _
        (code_fits (function_context c v.0 f.body.locals) f.body.code [] v.0.results v.2
        (names_few v.0 f (deepest_of function_locals fs) (few_at c.types few.params f.type_index v.0 v.1) l)
        (body_room (length f.body.locals) (bytes f.body.code) (sum_of function_bytes fs) h) both.0)
        (numbers_fit fs (All-tail (IsFunction c) f fs a) (first_few (function_locals f) _ l)
        (rest_room (function_bytes f) _ h) both.1)

    uses_fit : (fs : List Function) → All (IsFunction c) fs → list_all unsigned.fits (types_of fs) ≡ true
    uses_fit [] a = refl
    uses_fit (f ∷ fs) a =
        let v = All-head (IsFunction c) f fs a in
        both_true _ _ (lt-ltb f.type_index max_bytes
        (index_few f.type_index (length c.types) (is_within c.types f.type_index v.0 v.1) few.types))
        (uses_fit fs (All-tail (IsFunction c) f fs a))

-- ---- the module of a body

types_few : (l n k : ℕ) → l ≡ 6 + n → n ≤ k → k ≤ few_entries → l ≤ max_bytes
types_few l n k e h q = omega (arith, e, h, q)

functions_few : (l a b i n f s : ℕ) → l ≡ a + b → a ≤ i → i ≡ 8 + 2 * n → n ≤ few_entries → b ≡ f → 11 * f ≤ s
    → 5 + s < max_bytes → l ≤ max_bytes
functions_few l a b i n f s e h q k r p j = omega (arith, e, h, q, k, r, p, j)

globals_few : (l a i n : ℕ) → l ≡ a + 0 → a ≤ i → i ≡ 8 + 2 * n → n ≤ few_entries → l ≤ max_bytes
globals_few l a i n e h q k = omega (arith, e, h, q, k)

one_at_least : (s : Signature) → 1 ≤ type_counts s
one_at_least s = one s.arguments where
  one : (n : ℕ) → 1 ≤ 1 + n
  one n = omega arith

within_few : (a b : ℕ) → a ≤ b → b ≤ few_entries → a ≤ few_entries
within_few a b h l = omega (arith, h, l)

module_names : (m : TypedModule) → HasFewParts m → NamesFew (context (typed_module m))
module_names m p =
    let few = within_few _ _ (listed_few (signatures_needed m)) p.types in
    record {
      types = types_few _ (length (map type_of (signatures m))) (types_count (signatures m))
          (length-append body_types (map type_of (signatures m))) (le_mapped (signatures m)) few;
      functions =
          functions_few _ (length (filter_map function_import (imports m)))
          (length (map (λ (f : Function). f.type_index) (functions m))) (length (imports m)) (length m.imports)
          (length (functions m)) (sum_of function_bytes (functions m))
          (length-append (filter_map function_import (imports m)) (map (λ (f : Function). f.type_index) (functions m)))
          (filter_few function_import (imports m)) (imports_count m) p.imported
          (length-map (functions m) (λ (f : Function). f.type_index))
          (eleven (functions m)) p.size;
      globals = globals_few _ (length (filter_map global_import (imports m))) (length (imports m)) (length m.imports)
          (length-append (filter_map global_import (imports m)) []) (filter_few global_import (imports m))
          (imports_count m) p.imported;
      params = all_params (signatures m) few;
    }
  where
    le_mapped : (ss : Signatures) → length (map type_of ss) ≤ types_count ss
    le_mapped ss = by (length (map type_of ss)) (length ss) (types_count ss) (length-map ss type_of)
        (length_below type_counts one_at_least ss) where
          by : (a b k : ℕ) → a ≡ b → b ≤ k → a ≤ k
          by a b k e h = omega (arith, e, h)

pub module_uses : (m : TypedModule) → IsWellFormed m → HasFewParts m
    → list_all unsigned.fits (types_of (functions m)) ≡ true
module_uses m formed p = let v : IsValid (typed_module m) = typed_module_valid m formed in
    uses_fit (context (typed_module m)) (module_names m p) (functions m) v.bodies.functions

pub module_numbers : (m : TypedModule) → IsWellFormed m → HasFewParts m
    → list_all (λ (f : Function). code_constants_fit f.body.code) (functions m) ≡ true
    → list_all (λ (f : Function). code_numbers_fit f.body.code) (functions m) ≡ true
module_numbers m formed p e = let v : IsValid (typed_module m) = typed_module_valid m formed in
    numbers_fit (context (typed_module m)) (module_names m p) (functions m) v.bodies.functions p.locals p.size e
