-- Where the functions, globals and slots of a module stand once a program is linked.
use Rattle.std.proofs.Common.{◌≡◌, ℕ, zero, suc, ◌+◌, ◌*◌, ◌<◌, List, [], ◌∷◌, ◌++◌, length, map, Option, Some, refl, sym, ap, ◌∙◌, arith}
use Rattle.std.specs.Prelude.{slice_get}
use Rattle.std.specs.Option.{option_and_then}
use Rattle.wasm_tree.specs.declared.store.Callee.TheVariants.{Put, Stop, Own}
use Rattle.wasm_tree.specs.declared.store.Instance.{Instance}
use Rattle.wasm_tree.specs.declared.store.Memory.{Memory}
use Rattle.wasm_tree.specs.declared.store.Value.TheVariants.{I32}
use Rattle.wasm_tree.specs.Machine.{callee_at, global_at, memory_of}
use Rattle.law_effect.specs.Effect.{store_of}
use Rattle.typed_tree.specs.declared.typed_module.TypedModule.{TypedModule}
use Rattle.layout_storage.specs.Texts.{characters, module_texts}
use Rattle.def_scheme.specs.Modules.{slots, typed_module}
use Rattle.law_modules.specs.Linked.{Program, all, variables, count, values, own_from, somes_from, owns, table_slots, module_instance, instances, link_values, slots_in, bytes_in}
use Rattle.law_modules.proofs.Stores.{counts, somes_length}
use Rattle.law_modules.proofs.Placed.{number_at}
use Rattle.law_simulation.specs.RunsPrograms.{fixtures_of}

-- ---- lists

append_at : {A : Type 0} (xs ys : List A) (k : ℕ) → slice_get (xs ++ ys) (length xs + k) ≡ slice_get ys k
append_at [] ys k = let e : 0 + k ≡ k = omega arith in ap (λ (j : ℕ). slice_get ys j) e
append_at (x ∷ xs) ys k = let e : suc (length xs) + k ≡ suc (length xs + k) = omega arith in
    ap (λ (j : ℕ). slice_get (x ∷ (xs ++ ys)) j) e ∙ append_at xs ys k

front_at : {A : Type 0} (xs ys : List A) (k : ℕ) (x : A) → slice_get xs k ≡ Some x → slice_get (xs ++ ys) k ≡ Some x
front_at [] ys k x h = absurd cc
front_at (y ∷ xs) ys zero x h = h
front_at (y ∷ xs) ys (suc k) x h = front_at xs ys k x h

owned_length : (m f n : ℕ) → length (own_from m f n) ≡ n
owned_length m f zero = refl
owned_length m f (suc n) = ap suc (owned_length m (suc f) n)

behind_at : {A : Type 0} (front back : List A) (n j : ℕ) → length front ≡ n
    → slice_get (front ++ back) (n + j) ≡ slice_get back j
behind_at front back n j e = ap (λ (i : ℕ). slice_get (front ++ back) (i + j)) (sym e) ∙ append_at front back j

owned_at : (k first n j : ℕ) → j < n → slice_get (own_from k first n) j ≡ Some (Own k (first + j))
owned_at k first zero j h = absurd (omega (arith, h))
owned_at k first (suc n) zero h = ap (λ (f : ℕ). Some (Own k f)) (omega arith)
owned_at k first (suc n) (suc j) h = owned_at k (suc first) n j (omega (arith, h))
    ∙ ap (λ (f : ℕ). Some (Own k f)) (omega arith)

some_at : (a n j : ℕ) → j < n → slice_get (somes_from a n) j ≡ Some (Some (a + j))
some_at a zero j h = absurd (omega (arith, h))
some_at a (suc n) zero h = ap (λ (f : ℕ). Some (Some f)) (omega arith)
some_at a (suc n) (suc j) h = some_at (suc a) n j (omega (arith, h)) ∙ ap (λ (f : ℕ). Some (Some f)) (omega arith)

-- the functions of a module
pub owns_at : (k : ℕ) (before rest : Program) (m : TypedModule) (j : ℕ) → j < count m
    → slice_get (owns k (before ++ m ∷ rest)) (counts before + j) ≡ Some (Own (k + length before) j)
owns_at k [] rest m j h =
    front_at (own_from k 0 (count m)) (owns (k + 1) rest) (0 + j) (Own (k + 0) j)
    (ap (slice_get (own_from k 0 (count m))) (let i : 0 + j ≡ j = omega arith in i) ∙ owned_at k 0 (count m) j h
    ∙ ap (λ (f : ℕ). Some (Own k f)) (let i : 0 + j ≡ j = omega arith in i)
    ∙ ap (λ (n : ℕ). Some (Own n j)) (omega arith))
owns_at k (x ∷ before) rest m j h =
    ap (slice_get (owns k (x ∷ before ++ m ∷ rest)))
    (let i : count x + counts before + j ≡ count x + (counts before + j) = omega arith in i)
    ∙ behind_at (own_from k 0 (count x)) (owns (k + 1) (before ++ m ∷ rest)) (count x) (counts before + j)
    (owned_length k 0 (count x))
    ∙ owns_at (k + 1) before rest m j h
    ∙ ap (λ (n : ℕ). Some (Own n j)) (omega arith)

-- and its slots
pub filled_at : (a : ℕ) (before rest : Program) (m : TypedModule) (j : ℕ) → j < slots m
    → slice_get (table_slots a (before ++ m ∷ rest)) (slots_in before + j) ≡ Some (Some (a + counts before + 5 + j))
filled_at a [] rest m j h =
    front_at (somes_from (a + 5) (slots m)) (table_slots (a + count m) rest) (0 + j) (Some (a + 0 + 5 + j))
    (ap (slice_get (somes_from (a + 5) (slots m))) (let i : 0 + j ≡ j = omega arith in i)
    ∙ some_at (a + 5) (slots m) j h ∙ ap (λ (n : ℕ). Some (Some n)) (omega arith))
filled_at a (x ∷ before) rest m j h =
    ap (slice_get (table_slots a (x ∷ before ++ m ∷ rest)))
    (let i : slots x + slots_in before + j ≡ slots x + (slots_in before + j) = omega arith in i)
    ∙ behind_at (somes_from (a + 5) (slots x)) (table_slots (a + count x) (before ++ m ∷ rest)) (slots x)
    (slots_in before + j) (somes_length (a + 5) (slots x))
    ∙ filled_at (a + count x) before rest m j h
    ∙ ap (λ (n : ℕ). Some (Some n)) (omega arith)

-- the place of its variables
pub base_is : (place slot : ℕ) (before rest : Program) (b : TypedModule)
    → slice_get (values place slot (before ++ b ∷ rest)) (3 * length before) ≡ Some (I32 (place + bytes_in before))
base_is place slot [] rest b = ap (λ (n : ℕ). Some (I32 n)) (omega arith)
base_is place slot (x ∷ before) rest b =
    let index : 3 * length (x ∷ before) ≡ suc (suc (suc (3 * length before))) = omega arith in
    ap (slice_get (values place slot (x ∷ before ++ b ∷ rest))) index
    ∙ base_is (place + variables x + characters (module_texts x)) (slot + slots x) before rest b
    ∙ ap (λ (n : ℕ). Some (I32 n)) (omega arith)

instances_at : (p : Program) (a : ℕ) (before rest : Program) (m : TypedModule)
    → slice_get (instances p a (before ++ m ∷ rest)) (length before) ≡ Some (module_instance p (a + counts before) m)
instances_at p a [] rest m = ap (λ (n : ℕ). Some (module_instance p n m)) (omega arith)
instances_at p a (x ∷ before) rest m = instances_at p (a + count x) before rest m
    ∙ ap (λ (n : ℕ). Some (module_instance p n m)) (omega arith)

modules_at : (before rest : Program) (m : TypedModule)
    → slice_get (map typed_module (before ++ m ∷ rest)) (length before) ≡ Some (typed_module m)
modules_at [] rest m = refl
modules_at (x ∷ before) rest m = modules_at before rest m

-- ---- one module

module _ (p : Program) (pages : ℕ) (before rest : Program) (m : TypedModule) (is : p ≡ before ++ m ∷ rest) where
  abbrev pub own : ℕ
  own = suc (length before)

  abbrev pub instance : Instance
  instance = module_instance p (3 + counts before) m

  pub instance_there : (bytes : List ℕ) → slice_get (store_of (fixtures_of p pages) bytes).instances own ≡ Some instance
  instance_there bytes = ap (λ (q : Program). slice_get (instances p 3 q) (length before)) is
      ∙ instances_at p 3 before rest m

  pub module_there : slice_get (all p pages) own ≡ Some (typed_module m)
  module_there = ap (λ (q : Program). slice_get (map typed_module q) (length before)) is ∙ modules_at before rest m

  -- function j of the module, after the two of the host
  pub callee_there : (bytes : List ℕ) (j : ℕ) → j < count m
      → callee_at (store_of (fixtures_of p pages) bytes) own (suc (suc j)) ≡ Some (Own own j)
  callee_there bytes j less =
      ap (λ (o : Option Instance). option_and_then
      (λ (i : Instance). option_and_then (λ (a : ℕ). slice_get (Put ∷ Stop ∷ Own 0 0 ∷ owns 1 p) a)
      (slice_get i.functions (suc (suc j)))) o) (instance_there bytes)
      ∙ ap (λ (o : Option ℕ). option_and_then (λ (a : ℕ). slice_get (Put ∷ Stop ∷ Own 0 0 ∷ owns 1 p) a) o)
      (number_at (3 + counts before) (count m) j less)
      ∙ ap (λ (a : ℕ). slice_get (Put ∷ Stop ∷ Own 0 0 ∷ owns 1 p) a)
      (let i : 3 + counts before + j ≡ suc (suc (suc (counts before + j))) = omega arith in i)
      ∙ ap (λ (q : Program). slice_get (owns 1 q) (counts before + j)) is
      ∙ owns_at 1 before rest m j less
      ∙ ap (λ (n : ℕ). Some (Own n j)) (let i : 1 + length before ≡ suc (length before) = omega arith in i)

  pub put_there : (bytes : List ℕ) → callee_at (store_of (fixtures_of p pages) bytes) own 0 ≡ Some Put
  put_there bytes = ap (λ (o : Option Instance). option_and_then
      (λ (i : Instance). option_and_then (λ (a : ℕ). slice_get (Put ∷ Stop ∷ Own 0 0 ∷ owns 1 p) a)
      (slice_get i.functions 0)) o) (instance_there bytes)

  pub stop_there : (bytes : List ℕ) → callee_at (store_of (fixtures_of p pages) bytes) own 1 ≡ Some Stop
  stop_there bytes = ap (λ (o : Option Instance). option_and_then
      (λ (i : Instance). option_and_then (λ (a : ℕ). slice_get (Put ∷ Stop ∷ Own 0 0 ∷ owns 1 p) a)
      (slice_get i.functions 1)) o) (instance_there bytes)

  pub memory_there : (bytes : List ℕ) → memory_of (store_of (fixtures_of p pages) bytes) own
      ≡ Some (0, record { bytes = bytes; max = (fixtures_of p pages).max })
  memory_there bytes = ap (λ (o : Option Instance). memory_in o) (instance_there bytes)
    where
      memory_in : Option Instance → Option (ℕ × Memory)
      memory_in o = option_and_then (λ (i : Instance). option_and_then
          (λ (a : ℕ). option_and_then (λ (x : Memory). Some (a, x))
          (slice_get (store_of (fixtures_of p pages) bytes).memories a)) (slice_get i.memories 0)) o

  pub global_in : (bytes : List ℕ) (g : ℕ)
      → global_at (store_of (fixtures_of p pages) bytes) own g
      ≡ option_and_then (λ (a : ℕ). slice_get (link_values p pages) a) (slice_get instance.globals g)
  global_in bytes g = ap (λ (o : Option Instance). option_and_then
      (λ (i : Instance). option_and_then (λ (a : ℕ). slice_get (link_values p pages) a) (slice_get i.globals g)) o)
      (instance_there bytes)

  pub limit_there : (bytes : List ℕ) → global_at (store_of (fixtures_of p pages) bytes) own 0
      ≡ Some (I32 (65536 * pages))
  limit_there bytes = global_in bytes 0
