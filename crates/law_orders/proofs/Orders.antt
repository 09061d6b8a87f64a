-- Modules that are linked in any order lead to configurations that differ in the numbers of instances alone.
use Rattle.std.proofs.Common.{◌≡◌, ℕ, zero, suc, ◌+◌, ◌-◌, ◌*◌, ◌<◌, ◌≤◌, Bool, true, false, List, [], ◌∷◌, ◌++◌, length, map, Option, Some, None, Result, Ok, if◌then◌else◌, refl, sym, ap, subst, ◌∙◌, append_assoc, replicate, codes, arith}
use Rattle.std.specs.Prelude.{All, slice_get, nat_lt}
use Rattle.std.specs.Option.{option_and_then, option_map}
use Rattle.std.proofs.lemmas.Bool.{ltb-true}
use Rattle.std.proofs.lemmas.List.{length-append, length-map, append-nil, replicate-append-replicate}
use Rattle.std.proofs.lemmas.List.Elements.{All-cons, All-head, All-tail}
use Rattle.wasm_tree.specs.declared.fault.WFault.{WFault}
use Rattle.wasm_tree.specs.declared.module.WModule.{WModule}
use Rattle.wasm_tree.specs.declared.store.Callee.{Callee}
use Rattle.wasm_tree.specs.declared.store.Callee.TheVariants.{Put, Stop, Own}
use Rattle.wasm_tree.specs.declared.store.Instance.{Instance}
use Rattle.wasm_tree.specs.declared.store.Memory.{Memory}
use Rattle.wasm_tree.specs.declared.store.Store.{Store}
use Rattle.wasm_tree.specs.declared.store.Table.{Table}
use Rattle.wasm_tree.specs.declared.store.Value.{Value}
use Rattle.wasm_tree.specs.Validity.{AreDistinct}
use Rattle.wasm_tree.specs.Machine.{Config, Going, callee_at, callee_in, function_in_slot, global_at, memory_of}
use Rattle.wasm_tree.specs.Linking.{each, linked_one, linked_from, link, host_store}
use Rattle.typed_tree.specs.declared.typed_module.TypedModule.{TypedModule}
use Rattle.def_meaning.specs.Outcome.{Outcome}
use Rattle.def_scheme.specs.Modules.{slots, typed_module, typed_link}
use Rattle.law_modules.specs.Linked.{Program, names, imported_names, all, variables, text, count, numbers_from, own_from, somes_from, owns, table_slots, image, module_instance, instances, link_instance, link_values, slots_in, bytes_in, store, linked_store, begin, IsAmong, IsLinkable}
use Rattle.law_modules.proofs.Links.{first_linked}
use Rattle.law_modules.proofs.Placed.{enough, number_at, run_found, modules_link}
use Rattle.law_simulation.specs.Behaves.{Behaves}
use Rattle.law_orders.specs.Renumbered.{renumber, AreAlike, SameConfig, BothGo}
use Rattle.law_orders.specs.Order.{IsOrder, NoModules, OneModule}
use Rattle.law_orders.specs.Orders.{all_in, LinksAlike, OrdersLinkAlike, OrdersBehave}
use Rattle.law_orders.proofs.Linking.{store_with}
use Rattle.law_orders.proofs.Marks.{Mark, Marks, homes, unmarked, with_left, left, marked_slots, marked_bytes, homes_unmarked, left_unmarked, slots_unmarked, bytes_unmarked, behind_host, get_more, get_behind, own_at, IsPlaced, AllMarked, AllLinked, order_linked}
use Rattle.law_orders.proofs.Behaving.{behaves_so}

-- ---- lists

some_same : {A : Type 0} (x y : A) → ◌≡◌ {A = Option A} (Some x) (Some y) → x ≡ y
some_same x y e = cc e

past : {A B : Type 0} (xs : List A) (ys : List B) (k : ℕ) → length ys ≡ length xs → slice_get xs k ≡ None
    → slice_get ys k ≡ None
past [] [] k l e = refl
past [] (y ∷ ys) k l e = absurd (omega (arith, l))
past (x ∷ xs) [] k l e = absurd (omega (arith, l))
past (x ∷ xs) (y ∷ ys) zero l e = absurd cc
past (x ∷ xs) (y ∷ ys) (suc k) l e = past xs ys k (omega (arith, l)) e

order_length : (p q : Program) → IsOrder p q → length q ≡ length p
order_length _ _ NoModules = refl
order_length _ _ (OneModule before rest q b o) =
    let i = order_length (before ++ rest) q o in let j = length-append before rest in
    let k = length-append before (b ∷ rest) in omega (arith, i, j, k)

all_front : (P : TypedModule → Type 0) (before rest : Program) (b : TypedModule) → All P (before ++ b ∷ rest) → P b
all_front P [] rest b h = All-head P b rest h
all_front P (x ∷ before) rest b h = all_front P before rest b (All-tail P x (before ++ b ∷ rest) h)

all_rest : (P : TypedModule → Type 0) (before rest : Program) (b : TypedModule) → All P (before ++ b ∷ rest)
    → All P (before ++ rest)
all_rest P [] rest b h = All-tail P b rest h
all_rest P (x ∷ before) rest b h = All-cons P x (before ++ rest) (All-head P x (before ++ b ∷ rest) h)
    (all_rest P before rest b (All-tail P x (before ++ b ∷ rest) h))

-- what holds of all modules holds of them in each order
order_all : (P : TypedModule → Type 0) (p q : Program) → IsOrder p q → All P p → All P q
order_all P _ _ NoModules h = h
order_all P _ _ (OneModule before rest q b o) h =
    All-cons P b q (all_front P before rest b h) (order_all P (before ++ rest) q o (all_rest P before rest b h))

-- ---- start order, in marks

marks_from : (a m : ℕ) → Program → Marks
marks_from a m [] = []
marks_from a m (b ∷ bs) = (b, Some (a, m)) ∷ marks_from (a + count b) (suc m) bs

module _ (p : Program) where
  marked_from : (bs : Program) (a m : ℕ) (fs : List Callee) (is : List Instance) (trees : List WModule)
      → a ≡ length (behind_host fs) → m ≡ length is → m ≡ length trees
      → AllMarked p (fs ++ owns (suc m) bs) (is ++ instances p a bs) (trees ++ map typed_module bs) (marks_from a m bs)
  unfolding marks_from
  marked_from [] a m fs is trees ea em et = tt
  marked_from (b ∷ bs) a m fs is trees ea em et =
      let own : List Callee = own_from (suc m) 0 (count b) in
      let i : Instance = module_instance p a b in
      let here : IsPlaced p (fs ++ (own ++ owns (suc m + 1) bs)) (is ++ i ∷ instances p (a + count b) bs)
      (trees ++ typed_module b ∷ map typed_module bs) b a m = record {
        functions = λ j lt.
            ap (λ (k : ℕ). slice_get (behind_host (fs ++ (own ++ owns (suc m + 1) bs))) (k + j)) ea
            ∙ get_behind (behind_host fs) (own ++ owns (suc m + 1) bs) j
            ∙ get_more own (owns (suc m + 1) bs) j (Own (suc m) j)
            (own_at (suc m) 0 (count b) j lt ∙ ap (λ (k : ℕ). Some (Own (suc m) k)) (omega arith));
        instance = at is i (instances p (a + count b) bs) m em;
        tree = at trees (typed_module b) (map typed_module bs) m et;
      } in
      let fs' : List Callee = fs ++ own in
      let is' : List Instance = is ++ i ∷ [] in
      let ts' : List WModule = trees ++ typed_module b ∷ [] in
      let la : a + count b ≡ length (behind_host fs') =
      (let l = length-append fs own in let k = own_length (suc m) 0 (count b) in omega (arith, l, k, ea)) in
      let lm : suc m ≡ length is' = (let l = length-append is (i ∷ []) in omega (arith, l, em)) in
      let lt : suc m ≡ length ts' = (let l = length-append trees (typed_module b ∷ []) in omega (arith, l, et)) in
      let next : AllMarked p (fs' ++ owns (suc (suc m)) bs) (is' ++ instances p (a + count b) bs)
      (ts' ++ map typed_module bs) (marks_from (a + count b) (suc m) bs) =
      marked_from bs (a + count b) (suc m) fs' is' ts' la lm lt in
      let e : suc (suc m) ≡ suc m + 1 = omega arith in (
        here,
        subst (λ (xs : List Callee). AllMarked p xs (is ++ i ∷ instances p (a + count b) bs)
            (trees ++ typed_module b ∷ map typed_module bs) (marks_from (a + count b) (suc m) bs))
            (append_assoc fs own (owns (suc m + 1) bs))
            (subst (λ (k : ℕ). AllMarked p (fs' ++ owns k bs) (is ++ i ∷ instances p (a + count b) bs)
            (trees ++ typed_module b ∷ map typed_module bs) (marks_from (a + count b) (suc m) bs)) e
            (subst (λ (xs : List Instance). AllMarked p (fs' ++ owns (suc (suc m)) bs) xs
            (trees ++ typed_module b ∷ map typed_module bs) (marks_from (a + count b) (suc m) bs))
            (append_assoc is (i ∷ []) (instances p (a + count b) bs))
            (subst (λ (xs : List WModule). AllMarked p (fs' ++ owns (suc (suc m)) bs)
            (is' ++ instances p (a + count b) bs) xs (marks_from (a + count b) (suc m) bs))
            (append_assoc trees (typed_module b ∷ []) (map typed_module bs)) next))),
      )
    where
      at : {A : Type 0} (xs : List A) (x : A) (ys : List A) (k : ℕ) → k ≡ length xs
          → slice_get (xs ++ x ∷ ys) k ≡ Some x
      at xs x ys k e = let f : k ≡ length xs + 0 = omega (arith, e) in
          ap (slice_get (xs ++ x ∷ ys)) f ∙ get_behind xs (x ∷ ys) 0

      own_length : (m first n : ℕ) → length (own_from m first n) ≡ n
      own_length m first zero = refl
      own_length m first (suc n) = ap suc (own_length m (suc first) n)

  instances_length : (a : ℕ) (bs : Program) → length (instances p a bs) ≡ length bs
  instances_length a [] = refl
  instances_length a (b ∷ bs) = ap suc (instances_length (a + count b) bs)

-- ---- the number of each instance

mark_number : Mark → ℕ → ℕ
mark_number None n = n
mark_number (Some w) n = w.1

-- that of the module at a place, and past the modules the number itself
number_from : Marks → (k n : ℕ) → ℕ
number_from [] k n = n
number_from (x ∷ ms) zero n = mark_number x.1 n
number_from (x ∷ ms) (suc k) n = number_from ms k n

number_past : (ms : Marks) (k n : ℕ) → slice_get (homes ms) k ≡ None → number_from ms k n ≡ n
unfolding number_from
number_past [] k n e = refl
number_past (x ∷ ms) zero n e = absurd cc
number_past (x ∷ ms) (suc k) n e = number_past ms k n e

pub number_in : Marks → ℕ → ℕ
number_in ms zero = zero
number_in ms (suc k) = suc (number_from ms k k)

-- ---- what the indices of an instance stand for

own_callee : (m n index : ℕ) → Option Callee
own_callee m n zero = Some Put
own_callee m n (suc zero) = Some Stop
own_callee m n (suc (suc j)) = slice_get (own_from m 0 n) j

row_is : (fs : List Callee) (m n first a : ℕ)
    → ((i : ℕ) → i < n → slice_get (behind_host fs) (a + i) ≡ Some (Own m (first + i))) → (j : ℕ)
    → option_and_then (λ x. slice_get (behind_host fs) x) (slice_get (numbers_from a n) j)
    ≡ slice_get (own_from m first n) j
row_is fs m zero first a f j = refl
row_is fs m (suc n) first a f zero =
    let e : a ≡ a + 0 = omega arith in let g : first + 0 ≡ first = omega arith in
    ap (slice_get (behind_host fs)) e ∙ f 0 (omega arith) ∙ ap (λ (k : ℕ). Some (Own m k)) g
row_is fs m (suc n) first a f (suc j) =
    row_is fs m n (suc first) (suc a) (λ i lt.
    let e : suc a + i ≡ a + suc i = omega arith in let g : first + suc i ≡ suc first + i = omega arith in
    ap (slice_get (behind_host fs)) e ∙ f (suc i) (omega (arith, lt)) ∙ ap (λ (k : ℕ). Some (Own m k)) g) j

row_renumbered : (number : ℕ → ℕ) (m n first j : ℕ)
    → slice_get (own_from (number m) first n) j ≡ option_map (renumber number) (slice_get (own_from m first n) j)
row_renumbered number m zero first j = refl
row_renumbered number m (suc n) first zero = refl
row_renumbered number m (suc n) first (suc j) = row_renumbered number m n (suc first) j

module _ (p : Program) (pages : ℕ) (fs : List Callee) (ss : List (Option ℕ)) (bytes : List ℕ) (is : List Instance)
    (trees : List WModule) (b : TypedModule) (a m : ℕ) (placed : IsPlaced p fs is trees b a m) where
  callee_is : (index : ℕ) → callee_at (store_with p pages fs ss bytes is) (suc m) index
      ≡ own_callee (suc m) (count b) index
  unfolding own_callee
  callee_is index = ap (λ (o : Option Instance). option_and_then
      (λ (i : Instance). option_and_then (λ x. slice_get (behind_host fs) x) (slice_get i.functions index)) o)
      placed.instance ∙ by index
    where
      by : (index : ℕ) → option_and_then (λ x. slice_get (behind_host fs) x)
          (slice_get (0 ∷ 1 ∷ numbers_from a (count b)) index) ≡ own_callee (suc m) (count b) index
      by zero = refl
      by (suc zero) = refl
      by (suc (suc j)) =
          row_is fs (suc m) (count b) 0 a (λ i lt. placed.functions i lt
          ∙ (let e : i ≡ 0 + i = omega arith in ap (λ (k : ℕ). Some (Own (suc m) k)) e)) j

own_renumbered : (number : ℕ → ℕ) (m n index : ℕ)
    → own_callee (number m) n index ≡ option_map (renumber number) (own_callee m n index)
unfolding own_callee
own_renumbered number m n zero = refl
own_renumbered number m n (suc zero) = refl
own_renumbered number m n (suc (suc j)) = row_renumbered number m n 0 j

-- the function in a slot
abbrev in_row : List Callee → List (Option ℕ) → (slot : ℕ) → Option Callee
in_row fs ss slot = option_and_then (λ a. slice_get (behind_host fs) a) (function_in_slot (slice_get ss slot))

row_alike : (number : ℕ → ℕ) (fs gs : List Callee) (n x y : ℕ) (xs ys : List (Option ℕ))
    → ((i : ℕ) → i < n → slice_get (behind_host gs) (y + i)
    ≡ option_map (renumber number) (slice_get (behind_host fs) (x + i)))
    → ((slot : ℕ) → in_row gs ys slot ≡ option_map (renumber number) (in_row fs xs slot)) → (slot : ℕ)
    → in_row gs (somes_from y n ++ ys) slot ≡ option_map (renumber number) (in_row fs (somes_from x n ++ xs) slot)
row_alike number fs gs zero x y xs ys f rest slot = rest slot
row_alike number fs gs (suc n) x y xs ys f rest zero =
    let e : y + 0 ≡ y = omega arith in let g : x + 0 ≡ x = omega arith in
    ap (slice_get (behind_host gs)) (sym e) ∙ f 0 (omega arith)
    ∙ ap (λ (k : ℕ). option_map (renumber number) (slice_get (behind_host fs) k)) g
row_alike number fs gs (suc n) x y xs ys f rest (suc slot) =
    row_alike number fs gs n (suc x) (suc y) xs ys (λ i lt.
    let e : suc y + i ≡ y + suc i = omega arith in let g : x + suc i ≡ suc x + i = omega arith in
    ap (slice_get (behind_host gs)) e ∙ f (suc i) (omega (arith, lt))
    ∙ ap (λ (k : ℕ). option_map (renumber number) (slice_get (behind_host fs) k)) g) rest slot

-- ---- two orders

module _ (p : Program) (pages : ℕ) (fs gs : List Callee) (is js : List Instance) (trees others : List WModule)
    (all_marks : Marks) where
  abbrev number : ℕ → ℕ
  number = number_in all_marks

  -- a module in both
  record BothAt (k : ℕ) : Type 0 where
    home : TypedModule
    a₁ : ℕ
    a₂ : ℕ
    m₂ : ℕ
    one : IsPlaced p fs is trees home a₁ k
    two : IsPlaced p gs js others home a₂ m₂
    same : number_from all_marks k k ≡ m₂

  -- the marks from a place on
  abbrev FromHere : Marks → ℕ → Type 0
  FromHere ms m = (k n : ℕ) → number_from ms k n ≡ number_from all_marks (m + k) n

  from_next : (x : TypedModule × Mark) (ms : Marks) (m : ℕ) → FromHere (x ∷ ms) m → FromHere ms (suc m)
  unfolding number_from
  from_next x ms m h k n = h (suc k) n ∙ (let e : m + suc k ≡ suc m + k = omega arith in
      ap (λ (i : ℕ). number_from all_marks i n) e)

  mark_here : (b : TypedModule) (w : ℕ × ℕ) (ms : Marks) (m : ℕ) → FromHere ((b, Some w) ∷ ms) m
      → number_from all_marks m m ≡ w.1
  unfolding number_from mark_number
  mark_here b w ms m h = let e : m ≡ m + 0 = omega arith in ap (λ (i : ℕ). number_from all_marks i m) e ∙ sym (h 0 m)

  both_at : (bs : Program) (ms : Marks) (a m : ℕ) → homes ms ≡ bs → left ms ≡ []
      → AllMarked p fs is trees (marks_from a m bs) → AllMarked p gs js others ms → FromHere ms m
      → (k : ℕ) (b : TypedModule) → slice_get bs k ≡ Some b → BothAt (m + k)
  unfolding marks_from
  both_at [] ms a m e l h g t k b at = absurd cc
  both_at (c ∷ bs) [] a m e l h g t k b at = absurd cc
  both_at (c ∷ bs) ((d, None) ∷ ms) a m e l h g t k b at = absurd cc
  both_at (c ∷ bs) ((d, Some w) ∷ ms) a m e l h g t zero b at =
      let same : d ≡ c = cc in
      let z : m + 0 ≡ m = omega arith in
      subst (λ (i : ℕ). BothAt i) (sym z)
      (record {
        home = c;
        a₁ = a;
        a₂ = w.0;
        m₂ = w.1;
        one = h.0;
        two =
            subst (λ (x : TypedModule). IsPlaced p gs js others x w.0 w.1) same g.0;
        same = mark_here d w ms m t;
      })
  both_at (c ∷ bs) ((d, Some w) ∷ ms) a m e l h g t (suc k) b at =
      let rest : homes ms ≡ bs = cc in
      let z : m + suc k ≡ suc m + k = omega arith in
      subst (λ (i : ℕ). BothAt i) (sym z) (both_at bs ms (a + count c) (suc m) rest l h.1 g.1
      (from_next (d, Some w) ms m t) k b at)

  -- ---- slots

  slots_alike : (bs : Program) (ms : Marks) (a m : ℕ) → homes ms ≡ bs → left ms ≡ []
      → AllMarked p fs is trees (marks_from a m bs) → AllMarked p gs js others ms → FromHere ms m
      → (slot : ℕ) → in_row gs (marked_slots ms) slot ≡ option_map (renumber number) (in_row fs (table_slots a bs) slot)
  unfolding marks_from number_in
  slots_alike [] [] a m e l h g t slot = refl
  slots_alike [] (x ∷ ms) a m e l h g t slot = absurd cc
  slots_alike (c ∷ bs) [] a m e l h g t slot = absurd cc
  slots_alike (c ∷ bs) ((d, None) ∷ ms) a m e l h g t slot = absurd cc
  slots_alike (c ∷ bs) ((d, Some w) ∷ ms) a m e l h g t slot =
      let same : d ≡ c = cc in
      let rest : homes ms ≡ bs = cc in
      let two : IsPlaced p gs js others c w.0 w.1 =
      subst (λ (x : TypedModule). IsPlaced p gs js others x w.0 w.1) same g.0 in
      subst (λ (x : TypedModule). in_row gs (somes_from (w.0 + 5) (slots x) ++ marked_slots ms) slot
      ≡ option_map (renumber number) (in_row fs (somes_from (a + 5) (slots c) ++ table_slots (a + count c) bs)
      slot)) (sym same)
      (row_alike number fs gs (slots c) (a + 5) (w.0 + 5) (table_slots (a + count c) bs) (marked_slots ms)
      (λ i lt. one i lt two (mark_here d w ms m t))
      (slots_alike bs ms (a + count c) (suc m) rest l h.1 g.1 (from_next (d, Some w) ms m t)) slot)
    where
      one : (i : ℕ) → i < slots c → IsPlaced p gs js others c w.0 w.1 → number_from all_marks m m ≡ w.1
          → slice_get (behind_host gs) (w.0 + 5 + i)
          ≡ option_map (renumber number) (slice_get (behind_host fs) (a + 5 + i))
      one i lt two q =
          let within : 5 + i < count c = (let n = enough c in omega (arith, n, lt)) in
          let x : w.0 + 5 + i ≡ w.0 + (5 + i) = omega arith in
          let y : a + 5 + i ≡ a + (5 + i) = omega arith in
          ap (slice_get (behind_host gs)) x ∙ two.functions (5 + i) within
          ∙ ap (λ (k : ℕ). Some (Own (suc k) (5 + i))) (sym q)
          ∙ sym (ap (λ (k : ℕ). option_map (renumber number) (slice_get (behind_host fs) k)) y
          ∙ ap (option_map (renumber number)) (h.0.functions (5 + i) within))

-- ---- all modules are linked

none_marked : (p : Program) (fs : List Callee) (is : List Instance) (trees : List WModule) (bs : Program)
    → AllMarked p fs is trees (unmarked bs)
none_marked p fs is trees [] = tt
none_marked p fs is trees (b ∷ bs) = (tt, none_marked p fs is trees bs)

bytes_marked : (ms : Marks) → left ms ≡ [] → marked_bytes ms ≡ image (homes ms)
bytes_marked [] e = refl
bytes_marked ((b, None) ∷ ms) e = absurd cc
bytes_marked ((b, Some w) ∷ ms) e = ap (λ (xs : List ℕ). replicate (variables b) 0 ++ (text b ++ xs))
    (bytes_marked ms e)

module _ (p : Program) (pages spare : ℕ) (room : bytes_in p + spare ≡ 65536 * pages) (le : 1 ≤ pages)
    (distinct : AreDistinct (names p)) (among : All (λ b. All (IsAmong (names p)) (imported_names b)) p) (q : Program)
    (o : IsOrder p q) where
  abbrev trees : List WModule
  trees = map typed_module q

  abbrev start : Store
  start = store_with p pages (Own 0 0 ∷ []) (marked_slots (unmarked p)) (marked_bytes (unmarked p) ++ replicate spare 0)
      []

  start_is : store p pages spare [] p ≡ start
  start_is =
      ap (λ (ss : List (Option ℕ)). store_with p pages (Own 0 0 ∷ []) ss (replicate (bytes_in p + spare) 0) [])
      (sym (slots_unmarked p))
      ∙ ap (λ (bs : List ℕ). store_with p pages (Own 0 0 ∷ []) (marked_slots (unmarked p)) bs [])
      (sym (ap (λ (xs : List ℕ). xs ++ replicate spare 0) (bytes_unmarked p)
      ∙ replicate-append-replicate (bytes_in p) spare 0))

  -- link imports nothing
  first_alike : linked_one (all_in p pages q) 0 (typed_link p pages) host_store
      ≡ linked_one (all p pages) 0 (typed_link p pages) host_store
  unfolding linked_one each
  first_alike = refl

  pub rest_linked : (result : Store) × (linked_from (all_in p pages q) 1 trees start ≡ Ok result)
      × AllLinked p pages spare trees result
  rest_linked =
      order_linked p pages spare room le distinct trees q p o [] [] (unmarked p) (left_unmarked p) (homes_unmarked p)
      (none_marked p (Own 0 0 ∷ []) [] trees p) [] refl refl
      (order_all (λ b. All (IsAmong (names p)) (imported_names b)) p q o among)

  abbrev l : AllLinked p pages spare trees rest_linked.0
  l = rest_linked.2

  -- the bytes are those of start order
  abbrev bytes : List ℕ
  bytes = image p ++ replicate (bytes_in [] + spare) 0

  bytes_are : marked_bytes l.marks ++ replicate spare 0 ≡ bytes
  bytes_are =
      let e : spare ≡ bytes_in [] + spare = omega arith in
      ap (λ (xs : List ℕ). xs ++ replicate spare 0) (bytes_marked l.marks l.none_left ∙ ap image l.homes_are)
      ∙ ap (λ (n : ℕ). image p ++ replicate n 0) e

  abbrev new : Store
  new = store_with p pages (Own 0 0 ∷ l.functions) (marked_slots l.marks) bytes l.instances

  new_is : rest_linked.0 ≡ new
  new_is = l.is ∙ ap (λ (bs : List ℕ). store_with p pages (Own 0 0 ∷ l.functions) (marked_slots l.marks) bs l.instances)
      bytes_are

  all_in_linked : linked_from (all_in p pages q) 0 (all_in p pages q) host_store ≡ Ok new
  unfolding linked_from
  all_in_linked = rw (first_alike ∙ first_linked p pages spare room ∙ ap Ok start_is) (rest_linked.1 ∙ ap Ok new_is)

  pub links_so : link (all_in p pages q) ≡ Ok (Going new (begin p) [])
  unfolding link
  links_so = rw (run_found 1 p, all_in_linked) refl

  -- ---- what stands for what

  abbrev fs : List Callee
  fs = Own 0 0 ∷ owns 1 p

  abbrev gs : List Callee
  gs = Own 0 0 ∷ l.functions

  abbrev is : List Instance
  is = instances p 3 p

  abbrev ss : List (Option ℕ)
  ss = table_slots 3 p ++ replicate (slots_in []) None

  abbrev old : Store
  old = store_with p pages fs ss bytes is

  abbrev σ : ℕ → ℕ
  σ = number_in l.marks

  first_marks : AllMarked p fs is (map typed_module p) (marks_from 3 0 p)
  first_marks = marked_from p p 3 0 (Own 0 0 ∷ []) [] [] refl refl refl

  from_start : (k n : ℕ) → number_from l.marks k n ≡ number_from l.marks (0 + k) n
  from_start k n = let e : k ≡ 0 + k = omega arith in ap (λ (i : ℕ). number_from l.marks i n) e

  abbrev Both : ℕ → Type 0
  Both k = BothAt p pages fs gs is l.instances (map typed_module p) trees l.marks k

  both : (k : ℕ) (b : TypedModule) → slice_get p k ≡ Some b → Both k
  both k b e =
      let z : 0 + k ≡ k = omega arith in
      subst (λ (i : ℕ). Both i) z (both_at p pages fs gs is l.instances (map typed_module p) trees l.marks p l.marks 3 0
      l.homes_are l.none_left first_marks l.placed from_start k b e)

  -- past the modules nothing stands in either
  record Nothing (k : ℕ) : Type 0 where
    same : number_from l.marks k k ≡ k
    one : slice_get is k ≡ None
    two : slice_get l.instances k ≡ None
    tree : slice_get (map typed_module p) k ≡ None
    tree' : slice_get trees k ≡ None

  nothing : (k : ℕ) → slice_get p k ≡ None → Nothing k
  nothing k e =
      let n : length trees ≡ length p = length-map q typed_module ∙ order_length p q o in record {
        same = number_past l.marks k k (ap (λ (x : Program). slice_get x k) l.homes_are ∙ e);
        one = past p is k (instances_length p 3 p) e;
        two = past p l.instances k (l.counted ∙ n) e;
        tree = past p (map typed_module p) k (length-map p typed_module) e;
        tree' = past p trees k n e;
      }

  data Found (k : ℕ) : Type 0 where
    InBoth : (x : Both k) → Found k
    InNone : (x : Nothing k) → Found k

  found : (k : ℕ) → Found k
  found k = by (slice_get p k) refl where
    by : (x : Option TypedModule) → slice_get p k ≡ x → Found k
    by None e = InNone (nothing k e)
    by (Some b) e = InBoth (both k b e)

  -- ---- one after the other

  trees_alike : (m : ℕ) → slice_get (all_in p pages q) (σ m) ≡ slice_get (all p pages) m
  unfolding number_in
  trees_alike zero = refl
  trees_alike (suc k) = by (found k) where
    by : Found k → slice_get trees (number_from l.marks k k) ≡ slice_get (map typed_module p) k
    by (InBoth x) = ap (slice_get trees) x.same ∙ x.two.tree ∙ sym x.one.tree
    by (InNone x) = ap (slice_get trees) x.same ∙ x.tree' ∙ sym x.tree

  functions_alike : (m index : ℕ) → callee_at new (σ m) index ≡ option_map (renumber σ) (callee_at old m index)
  unfolding number_in
  functions_alike zero zero = refl
  functions_alike zero (suc index) = refl
  functions_alike (suc k) index = by (found k) where
    by : Found k → callee_at new (σ (suc k)) index ≡ option_map (renumber σ) (callee_at old (suc k) index)
    by (InBoth x) =
        ap (λ (n : ℕ). callee_at new (suc n) index) x.same
        ∙ callee_is p pages gs (marked_slots l.marks) bytes l.instances trees x.home x.a₂ x.m₂ x.two index
        ∙ ap (λ (n : ℕ). own_callee (suc n) (count x.home) index) (sym x.same)
        ∙ own_renumbered σ (suc k) (count x.home) index
        ∙ sym (ap (option_map (renumber σ)) (callee_is p pages fs ss bytes is (map typed_module p) x.home x.a₁ k x.one
        index))
    by (InNone x) =
        ap (λ (n : ℕ). callee_at new (suc n) index) x.same ∙ none gs l.instances x.two
        ∙ sym (ap (option_map (renumber σ)) (none fs is x.one))
      where
        none : (cs : List Callee) (js : List Instance) → slice_get js k ≡ None
            → option_and_then (λ (i : Instance). option_and_then (λ a. slice_get (behind_host cs) a)
            (slice_get i.functions index)) (slice_get js k) ≡ None
        none cs js e = ap (option_and_then (λ (i : Instance). option_and_then (λ a. slice_get (behind_host cs) a)
            (slice_get i.functions index))) e

  rows_alike : (slot : ℕ) → in_row gs (None ∷ marked_slots l.marks) slot
      ≡ option_map (renumber σ) (in_row fs (None ∷ ss) slot)
  rows_alike zero = refl
  rows_alike (suc slot) =
      slots_alike p pages fs gs is l.instances (map typed_module p) trees l.marks p l.marks 3 0 l.homes_are l.none_left
      first_marks l.placed from_start slot
      ∙ ap (λ (xs : List (Option ℕ)). option_map (renumber σ) (in_row fs xs slot)) (sym (append-nil (table_slots 3 p)))

  abbrev through : List Callee → List (Option ℕ) → ℕ → Option Instance → Option Callee
  through cs xs slot i =
      option_and_then (λ (i : Instance). option_and_then
      (λ t. option_and_then (λ (table : Table). option_and_then (λ a. slice_get (behind_host cs) a)
      (function_in_slot (slice_get table.slots slot)))
      (slice_get (record { slots = None ∷ xs; max = Some (1 + slots_in p) } ∷ []) t)) (slice_get i.tables 0)) i

  slots_are : (m slot : ℕ) → callee_in new (σ m) slot ≡ option_map (renumber σ) (callee_in old m slot)
  unfolding number_in
  slots_are zero slot = rows_alike slot
  slots_are (suc k) slot = by (found k) where
    by : Found k → through gs (marked_slots l.marks) slot (slice_get l.instances (number_from l.marks k k))
        ≡ option_map (renumber σ) (through fs ss slot (slice_get is k))
    by (InBoth x) =
        ap (through gs (marked_slots l.marks) slot) (ap (slice_get l.instances) x.same ∙ x.two.instance)
        ∙ rows_alike slot ∙ sym (ap (λ (i : Option Instance). option_map (renumber σ) (through fs ss slot i))
        x.one.instance)
    by (InNone x) =
        ap (through gs (marked_slots l.marks) slot) (ap (slice_get l.instances) x.same ∙ x.two)
        ∙ sym (ap (λ (i : Option Instance). option_map (renumber σ) (through fs ss slot i)) x.one)

  abbrev global_of : ℕ → Option Instance → Option Value
  global_of index i = option_and_then (λ (i : Instance). option_and_then (λ a. slice_get (link_values p pages) a)
      (slice_get i.globals index)) i

  globals_are : (m index : ℕ) → global_at new (σ m) index ≡ global_at old m index
  unfolding number_in
  globals_are zero index = refl
  globals_are (suc k) index = by (found k) where
    by : Found k → global_of index (slice_get l.instances (number_from l.marks k k)) ≡ global_of index (slice_get is k)
    by (InBoth x) = ap (global_of index) (ap (slice_get l.instances) x.same ∙ x.two.instance)
        ∙ sym (ap (global_of index) x.one.instance)
    by (InNone x) = ap (global_of index) (ap (slice_get l.instances) x.same ∙ x.two) ∙ sym (ap (global_of index) x.one)

  abbrev memory_in : List Memory → Option Instance → Option (ℕ × Memory)
  memory_in ms i = option_and_then (λ (i : Instance). option_and_then
      (λ a. option_map (λ memory. (a, memory)) (slice_get ms a)) (slice_get i.memories 0)) i

  memories_are : (m : ℕ) (ms : List Memory)
      → memory_of (record new { memories = ms }) (σ m) ≡ memory_of (record old { memories = ms }) m
  unfolding number_in
  memories_are zero ms = refl
  memories_are (suc k) ms = by (found k) where
    by : Found k → memory_in ms (slice_get l.instances (number_from l.marks k k)) ≡ memory_in ms (slice_get is k)
    by (InBoth x) = ap (memory_in ms) (ap (slice_get l.instances) x.same ∙ x.two.instance)
        ∙ sym (ap (memory_in ms) x.one.instance)
    by (InNone x) = ap (memory_in ms) (ap (slice_get l.instances) x.same ∙ x.two) ∙ sym (ap (memory_in ms) x.one)

  pub alike_so : AreAlike σ (all p pages) (all_in p pages q) old new
  alike_so = record {
    trees = trees_alike;
    functions = functions_alike;
    slots = slots_are;
    globals = globals_are;
    memories = memories_are;
  }

  pub same_so : SameConfig σ old new (Going old (begin p) []) (Going new (begin p) [])
  unfolding number_in
  same_so = BothGo old.memories (begin p) []

-- ---- the laws

pub orders_link_alike : OrdersLinkAlike
orders_link_alike p pages h q o =
    let fits = h.room in
    let spare : ℕ = 65536 * pages - bytes_in p in
    let room : bytes_in p + spare ≡ 65536 * pages = omega (arith, fits) in record {
      config = Going (new p pages spare room h.memory h.distinct h.imports q o) (begin p) [];
      links = links_so p pages spare room h.memory h.distinct h.imports q o;
      number = σ p pages spare room h.memory h.distinct h.imports q o;
      new = new p pages spare room h.memory h.distinct h.imports q o;
      alike = alike_so p pages spare room h.memory h.distinct h.imports q o;
      same = same_so p pages spare room h.memory h.distinct h.imports q o;
    }

pub orders_behave : OrdersBehave
orders_behave p pages h program c links behaves q o =
    let a = orders_link_alike p pages h q o in
    let first : c ≡ Going (linked_store p pages) (begin p) [] =
    ok_same c (Going (linked_store p pages) (begin p) []) (sym links ∙ modules_link p pages h) in (
      a.config,
      a.links,
      behaves_so a.number (all p pages) (all_in p pages q) (linked_store p pages) a.new a.alike
          (Going (linked_store p pages) (begin p) []) a.config a.same program
          (subst (λ (x : Config). Behaves (all p pages) x program) first behaves),
    )
  where
    ok_same : (x y : Config) → ◌≡◌ {A = Result Config WFault} (Ok x) (Ok y) → x ≡ y
    ok_same x y e = cc e
