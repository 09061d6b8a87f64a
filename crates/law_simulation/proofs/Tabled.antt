-- The bodies stand in link's table, and link's run calls them in start order.
use Rattle.std.proofs.Common.{◌≡◌, ℕ, zero, suc, ◌+◌, ◌*◌, ◌<◌, List, [], ◌∷◌, ◌++◌, length, map, Option, Some, None, refl, sym, ap, subst, ◌∙◌, append_assoc, arith}
use Rattle.std.specs.Prelude.{slice_get, replicate}
use Rattle.std.specs.Option.{option_and_then}
use Rattle.std.proofs.lemmas.List.{length-append}
use Rattle.wasm_tree.specs.declared.instr.Instr.{Instr}
use Rattle.wasm_tree.specs.declared.instr.Instr.TheVariants as instr
use Rattle.wasm_tree.specs.declared.module.Function.{Function}
use Rattle.wasm_tree.specs.declared.module.WModule.{WModule}
use Rattle.wasm_tree.specs.declared.store.Callee.TheVariants.{Put, Stop, Own}
use Rattle.wasm_tree.specs.declared.store.Value.TheVariants.{I32}
use Rattle.wasm_tree.specs.Machine as machine
use Rattle.wasm_tree.specs.Machine.{global_at, callee_in, own_function}
use Rattle.law_effect.specs.Effect.{store_of}
use Rattle.typed_tree.specs.declared.typed_module.TypedModule.{TypedModule}
use Rattle.def_scheme.specs.Modules.{slots, part_of, typed_module, calls_from}
use Rattle.law_memory.specs.Bodies.{BodyAt, IsThere, AreThere, bodies_code}
use Rattle.law_modules.specs.Linked.{Program, all, count, values, own_from, somes_from, owns, table_slots, link_values, slots_in}
use Rattle.law_modules.proofs.Stores.{counts, global_place, slot_is, slots_more}
use Rattle.law_modules.proofs.Placed.{enough}
use Rattle.law_simulation.specs.RunsPrograms.{body_typed, bodies_at, fixtures_of}

-- ---- link's code

calls_are : (stack g slot own : ℕ) (ms : Program)
    → calls_from stack g (map part_of ms) ≡ bodies_code stack 1 (bodies_at g slot own ms)
calls_are stack g slot own [] = refl
calls_are stack g slot own (m ∷ ms) = ap
    (λ (code : List Instr). instr.I32Const stack ∷ instr.GlobalGet g ∷ instr.CallIndirect 1 ∷ code)
    (calls_are stack (g + 3) (slot + slots m) (own + 1) ms)

pub link_calls : (stack : ℕ) (p : Program)
    → calls_from stack 3 (map part_of p) ≡ bodies_code stack 1 (bodies_at 3 1 1 p)
link_calls stack p = calls_are stack 3 1 1 p

-- ---- places in lists

get_behind : {A : Type 0} (front back : List A) (n j : ℕ) → length front ≡ n
    → slice_get (front ++ back) (n + j) ≡ slice_get back j
get_behind [] back n j e = ap (slice_get back) (omega (arith, e))
get_behind (x ∷ front) back n j e =
    ap (slice_get (x ∷ front ++ back)) (let i : n + j ≡ suc (length front + j) = omega (arith, e) in i)
    ∙ get_behind front back (length front) j refl

get_front : {A : Type 0} (front back : List A) (j : ℕ) (x : A) → slice_get front j ≡ Some x
    → slice_get (front ++ back) j ≡ Some x
get_front [] back j x e = absurd (cc e)
get_front (y ∷ front) back zero x e = e
get_front (y ∷ front) back (suc j) x e = get_front front back j x e

own_at : (k first n j : ℕ) → j < n → slice_get (own_from k first n) j ≡ Some (Own k (first + j))
own_at k first zero j h = absurd (omega (arith, h))
own_at k first (suc n) zero h = ap (λ (f : ℕ). Some (Own k f)) (omega arith)
own_at k first (suc n) (suc j) h = own_at k (suc first) n j (omega (arith, h))
    ∙ ap (λ (f : ℕ). Some (Own k f)) (omega arith)

own_length : (k first n : ℕ) → length (own_from k first n) ≡ n
own_length k first zero = refl
own_length k first (suc n) = ap suc (own_length k (suc first) n)

some_length : (a n : ℕ) → length (somes_from a n) ≡ n
some_length a zero = refl
some_length a (suc n) = ap suc (some_length (suc a) n)

-- the function of a body
owns_at : (k : ℕ) (before rest : Program) (m : TypedModule)
    → slice_get (owns k (before ++ m ∷ rest)) (counts before + 5) ≡ Some (Own (k + length before) 5)
owns_at k [] rest m =
    let few = enough m in
    get_front (own_from k 0 (count m)) (owns (k + 1) rest) (0 + 5) (Own (k + 0) 5)
    (own_at k 0 (count m) (0 + 5) (omega (arith, few)) ∙ ap (λ (j : ℕ). Some (Own j 5)) (omega arith))
owns_at k (x ∷ before) rest m =
    ap (slice_get (owns k (x ∷ before ++ m ∷ rest)))
    (let i : count x + counts before + 5 ≡ count x + (counts before + 5) = omega arith in i)
    ∙ get_behind (own_from k 0 (count x)) (owns (k + 1) (before ++ m ∷ rest)) (count x) (counts before + 5)
    (own_length k 0 (count x))
    ∙ owns_at (k + 1) before rest m
    ∙ ap (λ (j : ℕ). Some (Own j 5)) (omega arith)

-- and its slot
filled_at : (a : ℕ) (before rest : Program) (m : TypedModule)
    → slice_get (table_slots a (before ++ m ∷ rest)) (slots_in before) ≡ Some (Some (a + counts before + 5))
filled_at a [] rest m = ap (λ (n : ℕ). Some (Some n)) (omega arith)
filled_at a (x ∷ before) rest m =
    ap (slice_get (table_slots a (x ∷ before ++ m ∷ rest))) refl
    ∙ get_behind (somes_from (a + 5) (slots x)) (table_slots (a + count x) (before ++ m ∷ rest)) (slots x)
    (slots_in before) (some_length (a + 5) (slots x))
    ∙ filled_at (a + count x) before rest m
    ∙ ap (λ (n : ℕ). Some (Some n)) (omega arith)

module_at : (before rest : Program) (m : TypedModule)
    → slice_get (map typed_module (before ++ m ∷ rest)) (length before) ≡ Some (typed_module m)
module_at [] rest m = refl
module_at (x ∷ before) rest m = module_at before rest m

-- ---- all bodies

module _ (p : Program) (pages : ℕ) where
  module _ (before rest : Program) (m : TypedModule) (is : p ≡ before ++ m ∷ rest) where
    within : length before < length p
    within = let a = length-append before (m ∷ rest) in let b = ap (λ (ms : Program). length ms) is in
        omega (arith, a, b)

    slot_there : (bytes : List ℕ) → global_at (store_of (fixtures_of p pages) bytes) 0 (suc (2 + 3 * length before))
        ≡ Some (I32 (1 + slots_in before))
    slot_there bytes =
        let k : ℕ = suc (2 + 3 * length before) in
        ap (option_and_then (λ (a : ℕ). slice_get (link_values p pages) a)) (global_place k p (omega (arith, within)))
        ∙ ap (λ (ms : Program). slice_get (values 0 1 ms) (2 + 3 * length before)) is
        ∙ slot_is 0 1 before rest m

    callee_there : (bytes : List ℕ) → callee_in (store_of (fixtures_of p pages) bytes) 0 (suc (slots_in before))
        ≡ Some (Own (1 + length before) 5)
    callee_there bytes =
        let spare : List (Option ℕ) = replicate (slots_in []) None in
        let found : slice_get (table_slots 3 p ++ spare) (slots_in before) ≡ Some (Some (3 + counts before + 5)) =
        get_front (table_slots 3 p) spare (slots_in before) (Some (3 + counts before + 5))
        (ap (λ (ms : Program). slice_get (table_slots 3 ms) (slots_in before)) is ∙ filled_at 3 before rest m)
        in
        ap (λ (o : Option (Option ℕ)). option_and_then (λ (a : ℕ). slice_get (Put ∷ Stop ∷ Own 0 0 ∷ owns 1 p) a)
        (machine.function_in_slot o)) found
        ∙ ap (λ (a : ℕ). slice_get (Put ∷ Stop ∷ Own 0 0 ∷ owns 1 p) a)
        (let i : 3 + counts before + 5 ≡ suc (suc (suc (counts before + 5))) = omega arith in i)
        ∙ ap (λ (ms : Program). slice_get (owns 1 ms) (counts before + 5)) is
        ∙ owns_at 1 before rest m

    typed_there : own_function (all p pages) (suc (length before)) 5 ≡ Some (body_typed m)
    typed_there =
        ap (λ (o : Option WModule). own_in o)
        (ap (λ (ms : Program). slice_get (map typed_module ms) (length before)) is ∙ module_at before rest m)
      where
        own_in : Option WModule → Option machine.Typed
        own_in o = option_and_then (λ (tree : WModule). option_and_then
            (λ (function : Function). option_and_then (λ t. Some (record { type = t; function = function }))
            (slice_get tree.types function.type_index))
            (slice_get tree.functions 5)) o

    body_there : (b : BodyAt) → b ≡ record {
      global = 3 + 3 * length before;
      slot = 1 + slots_in before;
      own =
          1 + length before;
      function = 5;
      typed = body_typed m;
    } → IsThere (all p pages) (fixtures_of p pages) 0 1 b
    body_there b e = subst (IsThere (all p pages) (fixtures_of p pages) 0 1) (sym e) (record {
      slot = λ bytes. let i : 3 + 3 * length before ≡ suc (2 + 3 * length before) = omega arith in
          ap (global_at (store_of (fixtures_of p pages) bytes) 0) i ∙ slot_there bytes;
      callee = λ bytes. let i : 1 + slots_in before ≡ suc (slots_in before) = omega arith in
          ap (callee_in (store_of (fixtures_of p pages) bytes) 0) i ∙ callee_there bytes;
      typed = let i : 1 + length before ≡ suc (length before) = omega arith in
          ap (λ (j : ℕ). own_function (all p pages) j 5) i ∙ typed_there;
      agrees = refl;
      is_body = refl;
    })

  same_body : (g slot own g' slot' own' : ℕ) (m : TypedModule) → g ≡ g' → slot ≡ slot' → own ≡ own'
      → ◌≡◌ {A = BodyAt} (record { global = g; slot = slot; own = own; function = 5; typed = body_typed m })
      (record { global = g'; slot = slot'; own = own'; function = 5; typed = body_typed m })
  same_body g slot own g' slot' own' m a b c =
      ap (λ (n : ℕ). at n slot own) a ∙ ap (λ (n : ℕ). at g' n own) b ∙ ap (λ (n : ℕ). at g' slot' n) c
    where
      at : (g slot own : ℕ) → BodyAt
      at g slot own = record { global = g; slot = slot; own = own; function = 5; typed = body_typed m }

  all_there : (before rest : Program) (g slot own : ℕ) → g ≡ 3 + 3 * length before → slot ≡ 1 + slots_in before
      → own ≡ 1 + length before → p ≡ before ++ rest
      → AreThere (all p pages) (fixtures_of p pages) 0 1 (bodies_at g slot own rest)
  all_there before [] g slot own a b c is = tt
  all_there before (m ∷ rest) g slot own a b c is =
      let long = length-append before (m ∷ []) in
      let more = slots_more before m in (
        body_there before rest m is _ (same_body g slot own (3 + 3 * length before) (1 + slots_in before)
            (1 + length before) m a b c),
        all_there (before ++ m ∷ []) rest (g + 3) (slot + slots m) (own + 1) (omega (arith, a, long))
            (omega (arith, b, more)) (omega (arith, c, long)) (is ∙ sym (append_assoc before (m ∷ []) rest)),
      )

  pub bodies_there : AreThere (all p pages) (fixtures_of p pages) 0 1 (bodies_at 3 1 1 p)
  bodies_there = all_there [] p 3 1 1 refl refl refl refl
