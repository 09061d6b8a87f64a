-- What the module of a body has: its functions with their types, globals, memory and table.
use Rattle.std.proofs.Common.{◌≡◌, ℕ, zero, suc, ◌+◌, ◌*◌, ◌<◌, Bool, true, false, List, [], ◌∷◌, ◌++◌, map, length, Some, refl, ap, subst, ◌∙◌, arith}
use Rattle.std.specs.Prelude.{All, slice_get, if◌then◌else◌, nat_lt}
use Rattle.std.specs.List.{filter_map, flat_map}
use Rattle.std.proofs.lemmas.List.Elements.{All-head, All-tail}
use Rattle.std.proofs.lemmas.Bool.{or_left, or_right, lt-ltb, le-ltb}
use Rattle.wasm_tree.specs.declared.kinds.ValueType.TheVariants.{I32, I64}
use Rattle.wasm_tree.specs.declared.kinds.FuncType.{FuncType}
use Rattle.wasm_tree.specs.declared.module.Import.{Import}
use Rattle.wasm_tree.specs.declared.module.Function.{Function}
use Rattle.wasm_tree.specs.declared.module.WModule.{WModule}
use Rattle.wasm_tree.specs.Validity.{Context, context, function_import, table_import, memory_import, global_import}
use Rattle.typed_tree.specs.declared.typed_module.Routine.{Routine}
use Rattle.typed_tree.specs.declared.typed_module.Which.{Which}
use Rattle.typed_tree.specs.declared.typed_module.Which.TheVariants as which
use Rattle.typed_tree.specs.declared.typed_module.Imported.{Imported}
use Rattle.typed_tree.specs.declared.typed_module.TypedModule.{TypedModule}
use Rattle.layout_storage.specs.Frames.{formals_of}
use Rattle.def_scheme.specs.Scheme.{type_from, imported_globals, host_imports}
use Rattle.def_scheme.specs.Coded.{put, stop, copy, fill, check, quotient, remainder, body_index}
use Rattle.def_scheme.specs.Exprs.{Numbered, all_arguments, has_result}
use Rattle.def_scheme.specs.Functions.{numbers_of, link_arguments, functions_from}
use Rattle.def_scheme.specs.Signatures.{Signatures, Signature, signature, is_same, is_among, concatenation, signatures_needed, of_step, of_routine, type_of}
use Rattle.def_scheme.specs.Modules.{typed_module, numbering_of}
use Rattle.law_modules.specs.WellFormed.{IsWellFormed}
use Rattle.law_modules.proofs.Leading.{Callable}
use Rattle.law_modules.proofs.Exprs.{AreKnown}
use Rattle.law_modules.proofs.Numbers.{any_left, any_right, same_self, typed_at}

-- ---- lists

pub append_at : {A : Type 0} (xs ys : List A) (k : ℕ) → slice_get (xs ++ ys) (length xs + k) ≡ slice_get ys k
append_at [] ys k = let e : 0 + k ≡ k = omega arith in ap (λ (j : ℕ). slice_get ys j) e
append_at (x ∷ xs) ys k = let e : suc (length xs) + k ≡ suc (length xs + k) = omega arith in
    ap (λ (j : ℕ). slice_get (x ∷ (xs ++ ys)) j) e ∙ append_at xs ys k

pub front_at : {A : Type 0} (xs ys : List A) (k : ℕ) (x : A) → slice_get xs k ≡ Some x → slice_get (xs ++ ys) k ≡ Some x
front_at [] ys k x h = absurd cc
front_at (y ∷ xs) ys zero x h = h
front_at (y ∷ xs) ys (suc k) x h = front_at xs ys k x h

-- what holds of all holds of each
pub at_place : (P : Routine → Type 0) (rs : List Routine) (k : ℕ) (r : Routine) → slice_get rs k ≡ Some r → All P rs
    → P r
at_place P [] k r h all = absurd cc
at_place P (x ∷ rs) zero r h all = let e : x ≡ r = cc in subst P e (All-head P x rs all)
at_place P (x ∷ rs) (suc k) r h all = at_place P rs k r h (All-tail P x rs all)

-- ---- signatures of parts are among those of the whole

pub record Within (whole part : Signatures) : Type 0 where
  pub has : (s : Signature) → is_among part s ≡ true → is_among whole s ≡ true

pub all_known : (whole part : Signatures) → Within whole part → AreKnown whole part
all_known whole [] h = tt
all_known whole (s ∷ ss) h = (
  h.has s (or_left (is_same s s) (is_among ss s) (same_self s)),
  all_known whole ss
      (record { has = λ t k. h.has t (or_right (is_same t s) (is_among ss t) k) }),
)

within_left : (xs ys part : Signatures) → Within xs part → Within (xs ++ ys) part
within_left xs ys part h = record { has = λ s k. any_left (is_same s) xs ys (h.has s k) }

within_right : (xs ys part : Signatures) → Within ys part → Within (xs ++ ys) part
within_right xs ys part h = record { has = λ s k. any_right (is_same s) xs ys (h.has s k) }

within_self : (xs : Signatures) → Within xs xs
within_self xs = record { has = λ s k. k }

within_one : (f : Routine → Signatures) (rs : List Routine) (k : ℕ) (r : Routine) → slice_get rs k ≡ Some r
    → Within (flat_map f rs) (f r)
within_one f [] k r h = absurd cc
within_one f (x ∷ rs) zero r h = let e : x ≡ r = cc in
    subst (λ (y : Routine). Within (f x ++ flat_map f rs) (f y)) e
    (within_left (f x) (flat_map f rs) (f x) (within_self (f x)))
within_one f (x ∷ rs) (suc k) r h = within_right (f x) (flat_map f rs) (f r) (within_one f rs k r h)

joined_is : {A : Type 0} (f : A → Signatures) (xs : List A) → flat_map f xs ≡ concatenation (map f xs)
joined_is f [] = refl
joined_is f (x ∷ xs) = ap (λ (ss : Signatures). f x ++ ss) (joined_is f xs)

-- ---- numbers of arguments

pub own_count : (m : TypedModule) (r : Routine) (q : Bool) → nat_lt 1 r.level ≡ q → r.level ≡ 1
    → numbers_of m.types r ≡ all_arguments (formals_of m.types r.heading)
own_count m r q e level =
    let none : nat_lt 1 r.level ≡ false = le-ltb 1 r.level (omega (arith, level)) in
    let count : link_arguments r ≡ 0 = ap (λ (p : Bool). if p then 1 else 0) none in
    omega (arith, count)

pub nested_count : (m : TypedModule) (r : Routine) → 1 < r.level
    → numbers_of m.types r ≡ suc (all_arguments (formals_of m.types r.heading))
nested_count m r level =
    let some : nat_lt 1 r.level ≡ true = lt-ltb 1 r.level level in
    let count : link_arguments r ≡ 1 = ap (λ (p : Bool). if p then 1 else 0) some in
    omega (arith, count)

-- ---- what is imported behind the module's own globals

abbrev rest_imports : List (List ℕ) → List Import
rest_imports ms = imported_globals ms ++ host_imports

rest_functions : (ms : List (List ℕ)) → filter_map function_import (rest_imports ms) ≡ 0 ∷ 0 ∷ []
rest_functions [] = refl
rest_functions (m ∷ ms) = rest_functions ms

rest_tables : (ms : List (List ℕ)) → filter_map table_import (rest_imports ms) ≡ []
rest_tables [] = refl
rest_tables (m ∷ ms) = rest_tables ms

rest_memories : (ms : List (List ℕ)) → filter_map memory_import (rest_imports ms) ≡ []
rest_memories [] = refl
rest_memories (m ∷ ms) = rest_memories ms

rest_globals : (ms : List (List ℕ)) (k : ℕ) → k < 2 * length ms
    → slice_get (filter_map global_import (rest_imports ms) ++ []) k ≡ Some I32
rest_globals [] k lt = absurd (omega (arith, lt))
rest_globals (m ∷ ms) zero lt = refl
rest_globals (m ∷ ms) (suc zero) lt = refl
rest_globals (m ∷ ms) (suc (suc k)) lt = rest_globals ms k (omega (arith, lt))

names_count : (is : List Imported) → length (map (λ i. i.name) is) ≡ length is
names_count [] = refl
names_count (i ∷ is) = ap suc (names_count is)

-- ---- procedures

abbrev pub indices : List Function → List ℕ
indices fs = map (λ f. f.type_index) fs

module _ (n : Numbered) (m : TypedModule) where
  abbrev index_of : Routine → ℕ
  index_of r = n (numbers_of m.types r) (has_result m.types r.heading)

  routine_index : (w : ℕ → Which) (j : ℕ) (rs : List Routine) (more : List Function) (k : ℕ) (r : Routine)
      → slice_get rs k ≡ Some r → slice_get (indices (functions_from n m w j rs ++ more)) k ≡ Some (index_of r)
  routine_index w j [] more k r h = absurd cc
  routine_index w j (x ∷ rs) more zero r h = let e : x ≡ r = cc in ap (λ (y : Routine). Some (index_of y)) e
  routine_index w j (x ∷ rs) more (suc k) r h = routine_index w (suc j) rs more k r h

  behind_routines : (w : ℕ → Which) (j : ℕ) (rs : List Routine) (more : List Function) (k : ℕ)
      → slice_get (indices (functions_from n m w j rs ++ more)) (length rs + k) ≡ slice_get (indices more) k
  behind_routines w j [] more k = let e : 0 + k ≡ k = omega arith in ap (λ (i : ℕ). slice_get (indices more) i) e
  behind_routines w j (x ∷ rs) more k =
      let e : suc (length rs) + k ≡ suc (length rs + k) = omega arith in
      ap (λ (i : ℕ). slice_get (indices (functions_from n m w j (x ∷ rs) ++ more)) i) e
      ∙ behind_routines w (suc j) rs more k

  alone_index : (w : ℕ → Which) (j : ℕ) (rs : List Routine) (k : ℕ) (r : Routine) → slice_get rs k ≡ Some r
      → slice_get (indices (functions_from n m w j rs)) k ≡ Some (index_of r)
  alone_index w j [] k r h = absurd cc
  alone_index w j (x ∷ rs) zero r h = let e : x ≡ r = cc in ap (λ (y : Routine). Some (index_of y)) e
  alone_index w j (x ∷ rs) (suc k) r h = alone_index w (suc j) rs k r h

pub at_eight : (ks : List ℕ) (a b c d e f g h k : ℕ)
    → slice_get (a ∷ b ∷ c ∷ d ∷ e ∷ f ∷ g ∷ h ∷ ks) (8 + k) ≡ slice_get ks k
at_eight ks a b c d e f g h k = let i : 8 + k ≡ suc (suc (suc (suc (suc (suc (suc (suc k))))))) = omega arith in
    ap (λ (j : ℕ). slice_get (a ∷ b ∷ c ∷ d ∷ e ∷ f ∷ g ∷ h ∷ ks) j) i

-- ---- the module

module _ (m : TypedModule) where
  abbrev pub whole : WModule
  whole = typed_module m

  abbrev pub own : Context
  own = context whole

  abbrev pub routines : List Function
  routines = functions_from (numbering_of m) m which.Module 0 m.procedures
      ++ functions_from (numbering_of m) m which.Local 0 m.locals

  abbrev pub all_indices : List ℕ
  all_indices = 0 ∷ 0 ∷ 1 ∷ 2 ∷ 3 ∷ 4 ∷ 4 ∷ 5 ∷ indices routines

  pub functions_are : own.functions ≡ all_indices
  functions_are = ap (λ (ks : List ℕ). ks ++ (1 ∷ 2 ∷ 3 ∷ 4 ∷ 4 ∷ 5 ∷ indices routines))
      (rest_functions (map (λ i. i.name) m.imports))

  pub tables_count : length own.tables ≡ 1
  tables_count = rw (rest_tables (map (λ i. i.name) m.imports)) refl

  pub memories_count : length own.memories ≡ 1
  memories_count = rw (rest_memories (map (λ i. i.name) m.imports)) refl

  pub globals_are : (k : ℕ) → k < 4 + 2 * length m.imports → slice_get own.globals k ≡ Some I32
  globals_are zero lt = refl
  globals_are (suc zero) lt = refl
  globals_are (suc (suc zero)) lt = refl
  globals_are (suc (suc (suc zero))) lt = refl
  globals_are (suc (suc (suc (suc k)))) lt =
      rest_globals (map (λ i. i.name) m.imports) k (let e = names_count m.imports in omega (arith, lt, e))

  function_at : (f i : ℕ) → slice_get all_indices f ≡ Some i → slice_get own.functions f ≡ Some i
  function_at f i e = ap (λ (fs : List ℕ). slice_get fs f) functions_are ∙ e

  helper_at : (f i : ℕ) (t : FuncType) → slice_get all_indices f ≡ Some i → slice_get own.types i ≡ Some t
      → Callable own f t
  helper_at f i t e k = (i, function_at f i e, k)

  pub put_at : Callable own put (type_from (I64 ∷ []) [])
  put_at = helper_at 0 0 (type_from (I64 ∷ []) []) refl refl

  pub stop_at : Callable own stop (type_from (I64 ∷ []) [])
  stop_at = helper_at 1 0 (type_from (I64 ∷ []) []) refl refl

  pub copy_at : Callable own copy (type_from (I32 ∷ I32 ∷ I32 ∷ []) [])
  copy_at = helper_at 2 1 (type_from (I32 ∷ I32 ∷ I32 ∷ []) []) refl refl

  pub fill_at : Callable own fill (type_from (I32 ∷ I32 ∷ []) [])
  fill_at = helper_at 3 2 (type_from (I32 ∷ I32 ∷ []) []) refl refl

  pub check_at : Callable own check (type_from (I64 ∷ I64 ∷ I64 ∷ I64 ∷ []) (I64 ∷ []))
  check_at = helper_at 4 3 (type_from (I64 ∷ I64 ∷ I64 ∷ I64 ∷ []) (I64 ∷ [])) refl refl

  pub quotient_at : Callable own quotient (type_from (I64 ∷ I64 ∷ []) (I64 ∷ []))
  quotient_at = helper_at 5 4 (type_from (I64 ∷ I64 ∷ []) (I64 ∷ [])) refl refl

  pub remainder_at : Callable own remainder (type_from (I64 ∷ I64 ∷ []) (I64 ∷ []))
  remainder_at = helper_at 6 4 (type_from (I64 ∷ I64 ∷ []) (I64 ∷ [])) refl refl

  -- ---- types

  pub typed_in : (s : Signature) → is_among (signatures_needed m) s ≡ true
      → slice_get own.types (numbering_of m s.arguments s.result) ≡ Some (type_of s)
  typed_in s h = typed_at (signatures_needed m) s h

  -- what a procedure of the module, one in a procedure, and the body need
  pub of_own : (k : ℕ) (r : Routine) → slice_get m.procedures k ≡ Some r → Within (signatures_needed m) (of_routine m r)
  of_own k r h = within_left (flat_map (of_routine m) m.procedures)
      (flat_map (of_routine m) m.locals ++ flat_map (of_step m) m.body) (of_routine m r)
      (within_one (of_routine m) m.procedures k r h)

  pub of_nested : (k : ℕ) (r : Routine) → slice_get m.locals k ≡ Some r → Within (signatures_needed m) (of_routine m r)
  of_nested k r h =
      within_right (flat_map (of_routine m) m.procedures)
      (flat_map (of_routine m) m.locals ++ flat_map (of_step m) m.body) (of_routine m r)
      (within_left (flat_map (of_routine m) m.locals) (flat_map (of_step m) m.body) (of_routine m r)
      (within_one (of_routine m) m.locals k r h))

  pub of_body : Within (signatures_needed m) (flat_map (of_step m) m.body)
  of_body =
      within_right (flat_map (of_routine m) m.procedures)
      (flat_map (of_routine m) m.locals ++ flat_map (of_step m) m.body) (flat_map (of_step m) m.body)
      (within_right (flat_map (of_routine m) m.locals) (flat_map (of_step m) m.body) (flat_map (of_step m) m.body)
      (within_self (flat_map (of_step m) m.body)))

  abbrev pub routine_signature : Routine → Signature
  routine_signature r = signature (numbers_of m.types r) (has_result m.types r.heading)

  pub routine_known : (r : Routine) → Within (signatures_needed m) (of_routine m r)
      → is_among (signatures_needed m) (routine_signature r) ≡ true
  routine_known r h = h.has (routine_signature r)
      (or_left (is_same (routine_signature r) (routine_signature r))
      (is_among (flat_map (of_step m) r.body) (routine_signature r)) (same_self (routine_signature r)))

  pub body_known : (r : Routine) → Within (signatures_needed m) (of_routine m r)
      → AreKnown (signatures_needed m) (concatenation (map (of_step m) r.body))
  body_known r h =
      let inner : Within (signatures_needed m) (flat_map (of_step m) r.body) =
      record {
        has = λ s k. h.has s (or_right (is_same s (routine_signature r))
            (is_among (flat_map (of_step m) r.body) s) k);
      } in
      subst (λ (ss : Signatures). AreKnown (signatures_needed m) ss) (joined_is (of_step m) r.body)
      (all_known (signatures_needed m) (flat_map (of_step m) r.body) inner)

  pub module_known : AreKnown (signatures_needed m) (concatenation (map (of_step m) m.body))
  module_known = subst (λ (ss : Signatures). AreKnown (signatures_needed m) ss) (joined_is (of_step m) m.body)
      (all_known (signatures_needed m) (flat_map (of_step m) m.body) of_body)

  -- ---- procedures

  own_index : (k : ℕ) (r : Routine) → slice_get m.procedures k ≡ Some r
      → slice_get own.functions (8 + k) ≡ Some (numbering_of m (numbers_of m.types r) (has_result m.types r.heading))
  own_index k r h = function_at (8 + k) _
      (at_eight (indices routines) 0 0 1 2 3 4 4 5 k
      ∙ routine_index (numbering_of m) m which.Module 0 m.procedures
      (functions_from (numbering_of m) m which.Local 0 m.locals) k r h)

  nested_index : (k : ℕ) (r : Routine) → slice_get m.locals k ≡ Some r
      → slice_get own.functions (8 + (length m.procedures + k))
      ≡ Some (numbering_of m (numbers_of m.types r) (has_result m.types r.heading))
  nested_index k r h =
      function_at (8 + (length m.procedures + k)) _
      (at_eight (indices routines) 0 0 1 2 3 4 4 5 (length m.procedures + k)
      ∙ behind_routines (numbering_of m) m which.Module 0 m.procedures
      (functions_from (numbering_of m) m which.Local 0 m.locals) k
      ∙ alone_index (numbering_of m) m which.Local 0 m.locals k r h)

  pub own_at : IsWellFormed m → (k : ℕ) (r : Routine) → slice_get m.procedures k ≡ Some r
      → Callable own (suc body_index + k) (type_of
      (signature (all_arguments (formals_of m.types r.heading)) (has_result m.types r.heading)))
  own_at wf k r h =
      let level : r.level ≡ 1 = at_place (λ r. r.level ≡ 1) m.procedures k r h wf.levels in
      subst (λ (n : ℕ). Callable own (suc body_index + k) (type_of (signature n (has_result m.types r.heading))))
      (own_count m r (nat_lt 1 r.level) refl level)
      (_, own_index k r h, typed_in (routine_signature r) (routine_known r (of_own k r h)))

  pub nested_at : IsWellFormed m → (k : ℕ) (r : Routine) → slice_get m.locals k ≡ Some r
      → Callable own (suc body_index + (length m.procedures + k))
      (type_of (signature (suc (all_arguments (formals_of m.types r.heading))) (has_result m.types r.heading)))
  nested_at wf k r h =
      let level : 1 < r.level = at_place (λ r. 1 < r.level) m.locals k r h wf.nested in
      subst (λ (n : ℕ). Callable own (suc body_index + (length m.procedures + k))
      (type_of (signature n (has_result m.types r.heading)))) (nested_count m r level)
      (_, nested_index k r h, typed_in (routine_signature r) (routine_known r (of_nested k r h)))
