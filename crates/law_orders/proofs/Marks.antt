-- The modules of a program, of which some are linked: where the functions of each stand, and as which instance.
use Rattle.std.proofs.Common.{◌≡◌, ℕ, zero, suc, ◌+◌, ◌*◌, ◌<◌, ◌≤◌, Bool, true, false, List, [], ◌∷◌, ◌++◌, length, map, Option, Some, None, Ok, refl, sym, ap, subst, ◌∙◌, append_assoc, replicate, arith}
use Rattle.std.specs.Prelude.{All, slice_get}
use Rattle.std.proofs.lemmas.List.{length-replicate, length-append, append-nil, replicate-append-replicate}
use Rattle.std.proofs.lemmas.List.Elements.{All-head, All-tail}
use Rattle.wasm_tree.specs.declared.module.WModule.{WModule}
use Rattle.wasm_tree.specs.declared.store.Callee.{Callee}
use Rattle.wasm_tree.specs.declared.store.Callee.TheVariants.{Put, Stop, Own}
use Rattle.wasm_tree.specs.declared.store.Instance.{Instance}
use Rattle.wasm_tree.specs.declared.store.Store.{Store}
use Rattle.wasm_tree.specs.Validity.{AreDistinct}
use Rattle.wasm_tree.specs.Linking.{linked_one, linked_from}
use Rattle.typed_tree.specs.declared.typed_module.TypedModule.{TypedModule}
use Rattle.layout_storage.specs.Texts.{characters, module_texts}
use Rattle.def_scheme.specs.Modules.{slots, typed_module, typed_link}
use Rattle.law_modules.specs.Linked.{Program, names, imported_names, variables, text, count, own_from, somes_from, module_instance, link_instance, slots_in, bytes_in, IsAmong}
use Rattle.law_modules.proofs.Stores.{text_length, somes_length}
use Rattle.law_modules.proofs.Placed.{enough}
use Rattle.law_orders.specs.Order.{IsOrder, NoModules, OneModule}
use Rattle.law_orders.proofs.Linking.{store_with, body_linked}

-- the address of its first function, and its number, if it is linked
abbrev pub Mark : Type 0
Mark = Option (ℕ × ℕ)

abbrev pub Marks : Type 0
Marks = List (TypedModule × Mark)

abbrev pub homes : Marks → Program
homes [] = []
homes (x ∷ ms) = x.0 ∷ homes ms

abbrev pub unmarked : Program → Marks
unmarked [] = []
unmarked (b ∷ bs) = (b, None) ∷ unmarked bs

-- the modules that are not linked yet
abbrev pub with_left : TypedModule → Mark → Program → Program
with_left b None bs = b ∷ bs
with_left b (Some w) bs = bs

abbrev pub left : Marks → Program
left [] = []
left (x ∷ ms) = with_left x.0 x.1 (left ms)

abbrev pub slot_row : TypedModule → Mark → List (Option ℕ)
slot_row b None = replicate (slots b) None
slot_row b (Some w) = somes_from (w.0 + 5) (slots b)

abbrev pub marked_slots : Marks → List (Option ℕ)
marked_slots [] = []
marked_slots (x ∷ ms) = slot_row x.0 x.1 ++ marked_slots ms

abbrev pub text_row : TypedModule → Mark → List ℕ
text_row b None = replicate (characters (module_texts b)) 0
text_row b (Some w) = text b

abbrev pub marked_bytes : Marks → List ℕ
marked_bytes [] = []
marked_bytes (x ∷ ms) = replicate (variables x.0) 0 ++ (text_row x.0 x.1 ++ marked_bytes ms)

-- ---- parts of marks

pub homes_append : (ms ns : Marks) → homes (ms ++ ns) ≡ homes ms ++ homes ns
homes_append [] ns = refl
homes_append (x ∷ ms) ns = ap (λ (p : Program). x.0 ∷ p) (homes_append ms ns)

pub homes_unmarked : (p : Program) → homes (unmarked p) ≡ p
homes_unmarked [] = refl
homes_unmarked (b ∷ bs) = ap (λ (p : Program). b ∷ p) (homes_unmarked bs)

pub left_unmarked : (p : Program) → left (unmarked p) ≡ p
left_unmarked [] = refl
left_unmarked (b ∷ bs) = ap (λ (p : Program). b ∷ p) (left_unmarked bs)

with_left_append : (b : TypedModule) (w : Mark) (p q : Program) → with_left b w (p ++ q) ≡ with_left b w p ++ q
with_left_append b None p q = refl
with_left_append b (Some w) p q = refl

left_append : (ms ns : Marks) → left (ms ++ ns) ≡ left ms ++ left ns
left_append [] ns = refl
left_append (x ∷ ms) ns = ap (with_left x.0 x.1) (left_append ms ns) ∙ with_left_append x.0 x.1 (left ms) (left ns)

slots_append : (ms ns : Marks) → marked_slots (ms ++ ns) ≡ marked_slots ms ++ marked_slots ns
slots_append [] ns = refl
slots_append (x ∷ ms) ns = ap (λ (ss : List (Option ℕ)). slot_row x.0 x.1 ++ ss) (slots_append ms ns)
    ∙ sym (append_assoc (slot_row x.0 x.1) (marked_slots ms) (marked_slots ns))

bytes_append : (ms ns : Marks) → marked_bytes (ms ++ ns) ≡ marked_bytes ms ++ marked_bytes ns
bytes_append [] ns = refl
bytes_append (x ∷ ms) ns =
    let v : List ℕ = replicate (variables x.0) 0 in let t : List ℕ = text_row x.0 x.1 in
    ap (λ (bs : List ℕ). v ++ (t ++ bs)) (bytes_append ms ns)
    ∙ ap (λ (bs : List ℕ). v ++ bs) (sym (append_assoc t (marked_bytes ms) (marked_bytes ns)))
    ∙ sym (append_assoc v (t ++ marked_bytes ms) (marked_bytes ns))

row_long : (b : TypedModule) (w : Mark) → length (slot_row b w) ≡ slots b
row_long b None = length-replicate (slots b) None
row_long b (Some w) = somes_length (w.0 + 5) (slots b)

pub slots_long : (ms : Marks) → length (marked_slots ms) ≡ slots_in (homes ms)
slots_long [] = refl
slots_long (x ∷ ms) = let i = length-append (slot_row x.0 x.1) (marked_slots ms) in let j = row_long x.0 x.1 in
    let k = slots_long ms in omega (arith, i, j, k)

text_long : (b : TypedModule) (w : Mark) → length (text_row b w) ≡ characters (module_texts b)
text_long b None = length-replicate (characters (module_texts b)) 0
text_long b (Some w) = text_length (module_texts b)

pub bytes_long : (ms : Marks) → length (marked_bytes ms) ≡ bytes_in (homes ms)
bytes_long [] = refl
bytes_long (x ∷ ms) =
    let i = length-append (replicate (variables x.0) 0) (text_row x.0 x.1 ++ marked_bytes ms) in
    let j = length-append (text_row x.0 x.1) (marked_bytes ms) in
    let v : length (replicate {A = ℕ} (variables x.0) 0) ≡ variables x.0 = length-replicate (variables x.0) 0 in
    let t = text_long x.0 x.1 in let k = bytes_long ms in omega (arith, i, j, v, t, k)

pub slots_unmarked : (p : Program) → marked_slots (unmarked p) ≡ replicate (slots_in p) None
slots_unmarked [] = refl
slots_unmarked (b ∷ bs) = ap (λ (ss : List (Option ℕ)). replicate (slots b) None ++ ss) (slots_unmarked bs)
    ∙ replicate-append-replicate (slots b) (slots_in bs) None

pub bytes_unmarked : (p : Program) → marked_bytes (unmarked p) ≡ replicate (bytes_in p) 0
bytes_unmarked [] = refl
bytes_unmarked (b ∷ bs) =
    let v : ℕ = variables b in let c : ℕ = characters (module_texts b) in let n : ℕ = bytes_in bs in
    ap (λ (xs : List ℕ). replicate v 0 ++ (replicate c 0 ++ xs)) (bytes_unmarked bs)
    ∙ ap (λ (xs : List ℕ). replicate v 0 ++ xs) (replicate-append-replicate c n 0)
    ∙ replicate-append-replicate v (c + n) 0
    ∙ ap (λ (k : ℕ). replicate {A = ℕ} k 0) (omega arith)

-- where a module that is not linked stands
record Split (ms : Marks) (before : Program) (b : TypedModule) (rest : Program) : Type 0 where
  front : Marks
  back : Marks
  is : ms ≡ front ++ (b, None) ∷ back
  front_left : left front ≡ before
  back_left : left back ≡ rest

one_same : (b c : TypedModule) (p q : Program) → b ∷ p ≡ c ∷ q → (b ≡ c) × (p ≡ q)
one_same b c p q e = (cc e, cc e)

split_by : (b c : TypedModule) (w : Mark) (ms : Marks) (before rest : Program)
    → with_left c w (left ms) ≡ before ++ b ∷ rest
    → ((front : Program) → left ms ≡ front ++ b ∷ rest → Split ms front b rest) → Split ((c, w) ∷ ms) before b rest
split_by b c (Some w) ms before rest e on =
    let s = on before e in
    record {
      front = (c, Some w) ∷ s.front;
      back = s.back;
      is = ap (λ (xs : Marks). (c, Some w) ∷ xs) s.is;
      front_left =
          s.front_left;
      back_left = s.back_left;
    }
split_by b c None ms [] rest e on =
    let k = one_same c b (left ms) rest e in
    record {
      front = [];
      back = ms;
      is = ap (λ (x : TypedModule). (x, None) ∷ ms) k.0;
      front_left = refl;
      back_left =
          k.1;
    }
split_by b c None ms (x ∷ before) rest e on =
    let k = one_same c x (left ms) (before ++ b ∷ rest) e in
    let s = on before k.1 in
    record {
      front = (c, None) ∷ s.front;
      back = s.back;
      is = ap (λ (xs : Marks). (c, None) ∷ xs) s.is;
      front_left =
          ap (λ (y : TypedModule). y ∷ left s.front) k.0 ∙ ap (λ (p : Program). x ∷ p) s.front_left;
      back_left =
          s.back_left;
    }

split_at : (ms : Marks) (before : Program) (b : TypedModule) (rest : Program) → left ms ≡ before ++ b ∷ rest
    → Split ms before b rest
split_at [] [] b rest e = absurd cc
split_at [] (x ∷ before) b rest e = absurd cc
split_at (x ∷ ms) before b rest e = split_by b x.0 x.1 ms before rest e (λ front g. split_at ms front b rest g)

-- ---- what stands where

abbrev pub behind_host : List Callee → List Callee
behind_host fs = Put ∷ Stop ∷ fs

pub get_more : {A : Type 0} (xs ys : List A) (i : ℕ) (x : A) → slice_get xs i ≡ Some x → slice_get (xs ++ ys) i ≡ Some x
get_more [] ys i x e = absurd cc
get_more (y ∷ xs) ys zero x e = e
get_more (y ∷ xs) ys (suc i) x e = get_more xs ys i x e

pub get_behind : {A : Type 0} (xs ys : List A) (i : ℕ) → slice_get (xs ++ ys) (length xs + i) ≡ slice_get ys i
get_behind [] ys i = ap (slice_get ys) (omega arith)
get_behind (x ∷ xs) ys i = let e : suc (length xs) + i ≡ suc (length xs + i) = omega arith in
    ap (slice_get (x ∷ (xs ++ ys))) e ∙ get_behind xs ys i

pub own_at : (m first n i : ℕ) → i < n → slice_get (own_from m first n) i ≡ Some (Own m (first + i))
own_at m first zero i lt = absurd (omega (arith, lt))
own_at m first (suc n) zero lt = ap (λ (k : ℕ). Some (Own m k)) (omega arith)
own_at m first (suc n) (suc i) lt = own_at m (suc first) n i (omega (arith, lt))
    ∙ ap (λ (k : ℕ). Some (Own m k)) (omega arith)

-- the module is linked as this instance
pub record IsPlaced (p : Program) (fs : List Callee) (is : List Instance) (trees : List WModule) (b : TypedModule)
    (a m : ℕ) : Type 0 where
  pub functions : (j : ℕ) → j < count b → slice_get (behind_host fs) (a + j) ≡ Some (Own (suc m) j)
  pub instance : slice_get is m ≡ Some (module_instance p a b)
  pub tree : slice_get trees m ≡ Some (typed_module b)

abbrev pub IsMarked : (p : Program) → List Callee → List Instance → List WModule → TypedModule → Mark → Type 0
IsMarked p fs is trees b None = Unit {0}
IsMarked p fs is trees b (Some w) = IsPlaced p fs is trees b w.0 w.1

abbrev pub AllMarked : (p : Program) → List Callee → List Instance → List WModule → Marks → Type 0
AllMarked p fs is trees [] = Unit {0}
AllMarked p fs is trees (x ∷ ms) = IsMarked p fs is trees x.0 x.1 × AllMarked p fs is trees ms

module _ (p : Program) (fs more : List Callee) (is others : List Instance) (trees : List WModule) where
  placed_more : (b : TypedModule) (w : Mark) → IsMarked p fs is trees b w
      → IsMarked p (fs ++ more) (is ++ others) trees b w
  placed_more b None h = tt
  placed_more b (Some w) h = record {
    functions = λ j lt. get_more (behind_host fs) more (w.0 + j) (Own (suc w.1) j) (h.functions j lt);
    instance = get_more is others w.1 (module_instance p w.0 b) h.instance;
    tree = h.tree;
  }

  marked_more : (ms : Marks) → AllMarked p fs is trees ms → AllMarked p (fs ++ more) (is ++ others) trees ms
  marked_more [] h = tt
  marked_more (x ∷ ms) h = (placed_more x.0 x.1 h.0, marked_more ms h.1)

marked_set : (p : Program) (fs : List Callee) (is : List Instance) (trees : List WModule) (front back : Marks)
    (b : TypedModule) (w : Mark) → AllMarked p fs is trees (front ++ (b, None) ∷ back) → IsMarked p fs is trees b w
    → AllMarked p fs is trees (front ++ (b, w) ∷ back)
marked_set p fs is trees [] back b w h k = (k, h.1)
marked_set p fs is trees (x ∷ front) back b w h k = (h.0, marked_set p fs is trees front back b w h.1 k)

-- ---- linking in any order

-- all modules are linked
pub record AllLinked (p : Program) (pages spare : ℕ) (trees : List WModule) (result : Store) : Type 0 where
  pub functions : List Callee
  pub instances : List Instance
  pub marks : Marks
  pub homes_are : homes marks ≡ p
  pub none_left : left marks ≡ []
  pub placed : AllMarked p (Own 0 0 ∷ functions) instances trees marks
  pub counted : length instances ≡ length trees
  pub is : result ≡ store_with p pages (Own 0 0 ∷ functions) (marked_slots marks)
      (marked_bytes marks ++ replicate spare 0) instances

module _ (p : Program) (pages spare : ℕ) (room : bytes_in p + spare ≡ 65536 * pages) (le : 1 ≤ pages)
    (distinct : AreDistinct (names p)) (trees : List WModule) where
  abbrev state : List Callee → Marks → List Instance → Store
  state fs ms is = store_with p pages (Own 0 0 ∷ fs) (marked_slots ms) (marked_bytes ms ++ replicate spare 0) is

  module _ (fs : List Callee) (is : List Instance) (front back : Marks) (b : TypedModule)
      (here : homes (front ++ (b, None) ∷ back) ≡ p) where
    abbrev with_mark : Mark → Marks
    with_mark w = front ++ (b, w) ∷ back

    abbrev address : ℕ
    address = suc (suc (suc (length fs)))

    abbrev high : List ℕ
    high = marked_bytes back ++ replicate spare 0

    slots_parts : (w : Mark) → marked_slots (with_mark w) ≡ marked_slots front ++ (slot_row b w ++ marked_slots back)
    slots_parts w = slots_append front ((b, w) ∷ back)

    bytes_parts : (w : Mark) → marked_bytes (with_mark w) ++ replicate spare 0 ≡ marked_bytes front
        ++ (replicate (variables b) 0 ++ (text_row b w ++ high))
    bytes_parts w =
        let z : List ℕ = replicate spare 0 in let v : List ℕ = replicate (variables b) 0 in
        let t : List ℕ = text_row b w in
        ap (λ (xs : List ℕ). xs ++ z) (bytes_append front ((b, w) ∷ back))
        ∙ append_assoc (marked_bytes front) (v ++ (t ++ marked_bytes back)) z
        ∙ ap (λ (xs : List ℕ). marked_bytes front ++ xs)
        (append_assoc v (t ++ marked_bytes back) z
        ∙ ap (λ (xs : List ℕ). v ++ xs) (append_assoc t (marked_bytes back) z))

    parts : p ≡ homes front ++ b ∷ homes back
    parts = sym here ∙ homes_append front ((b, None) ∷ back)

    size : length (marked_bytes front ++ (replicate (variables b) 0
        ++ (replicate (characters (module_texts b)) 0 ++ high))) ≡ 65536 * pages
    size =
        let i = length-append (marked_bytes (with_mark None)) (replicate spare 0) in
        let j = bytes_long (with_mark None) in
        let z : length (replicate {A = ℕ} spare 0) ≡ spare = length-replicate spare 0 in
        let k : bytes_in (homes (with_mark None)) ≡ bytes_in p = ap (λ (q : Program). bytes_in q) here in
        ap (λ (xs : List ℕ). length xs) (sym (bytes_parts None)) ∙ omega (arith, i, j, z, k, room)

    one_linked : (m : ℕ) → All (IsAmong (names p)) (imported_names b)
        → linked_one (typed_link p pages ∷ trees) (suc m) (typed_module b) (state fs (with_mark None) is)
        ≡ Ok (state (fs ++ own_from (suc m) 0 (count b)) (with_mark (Some (address, m)))
        (is ++ module_instance p address b ∷ []))
    one_linked m among =
        ap (λ (ss : List (Option ℕ)). linked_one (typed_link p pages ∷ trees) (suc m) (typed_module b)
        (store_with p pages (Own 0 0 ∷ fs) ss (marked_bytes (with_mark None) ++ replicate spare 0) is))
        (slots_parts None)
        ∙ ap (λ (xs : List ℕ). linked_one (typed_link p pages ∷ trees) (suc m) (typed_module b)
        (store_with p pages (Own 0 0 ∷ fs) (marked_slots front ++ (replicate (slots b) None ++ marked_slots back))
        xs is)) (bytes_parts None)
        ∙ body_linked p pages trees le (homes front) (homes back) b parts distinct (Own 0 0 ∷ fs) (marked_slots front)
        (marked_slots back) (marked_bytes front) high is (slots_long front) (bytes_long front) (suc m) size among
        ∙ ap (λ (ss : List (Option ℕ)). Ok (store_with p pages (Own 0 0 ∷ (fs ++ own_from (suc m) 0 (count b))) ss
        (marked_bytes front ++ (replicate (variables b) 0 ++ (text b ++ high)))
        (is ++ module_instance p address b ∷ []))) (sym (slots_parts (Some (address, m))))
        ∙ ap (λ (xs : List ℕ). Ok (store_with p pages (Own 0 0 ∷ (fs ++ own_from (suc m) 0 (count b)))
        (marked_slots (with_mark (Some (address, m)))) xs (is ++ module_instance p address b ∷ [])))
        (sym (bytes_parts (Some (address, m))))

    one_placed : (m : ℕ) → length is ≡ m → slice_get trees m ≡ Some (typed_module b)
        → IsPlaced p (Own 0 0 ∷ (fs ++ own_from (suc m) 0 (count b))) (is ++ module_instance p address b ∷ []) trees b
        address m
    one_placed m counted tree = record {
      functions = λ j lt.
          get_behind (Put ∷ Stop ∷ Own 0 0 ∷ fs) (own_from (suc m) 0 (count b)) j ∙ own_at (suc m) 0 (count b) j lt
          ∙ ap (λ (k : ℕ). Some (Own (suc m) k)) (omega arith);
      instance =
          subst (λ (k : ℕ). slice_get (is ++ module_instance p address b ∷ []) k ≡ Some (module_instance p address b))
          counted
          (let e : length is ≡ length is + 0 = omega arith in
          ap (slice_get (is ++ module_instance p address b ∷ [])) e
          ∙ get_behind is (module_instance p address b ∷ []) 0);
      tree = tree;
    }

  -- from some marks on, the modules that are left in this order
  pub order_linked : (q : Program) (todo : Program) → IsOrder todo q
      → (fs : List Callee) (is : List Instance) (ms : Marks) → left ms ≡ todo → homes ms ≡ p
      → AllMarked p (Own 0 0 ∷ fs) is trees ms → (before : List WModule) → length is ≡ length before
      → trees ≡ before ++ map typed_module q → All (λ b. All (IsAmong (names p)) (imported_names b)) q
      → (result : Store) × (linked_from (typed_link p pages ∷ trees) (suc (length is)) (map typed_module q)
      (state fs ms is) ≡ Ok result) × AllLinked p pages spare trees result
  unfolding linked_from
  order_linked _ _ NoModules fs is ms todo here placed before counted rest among = (
    state fs ms is,
    refl,
    record {
      functions = fs;
      instances = is;
      marks = ms;
      homes_are = here;
      none_left = todo;
      placed = placed;
      counted = counted ∙ sym (ap (λ (ts : List WModule). length ts) (rest ∙ append-nil before));
      is = refl;
    },
  )
  order_linked _ _ (OneModule front rest q b o) fs is ms todo here placed before counted trees_are among =
      let s = split_at ms front b rest todo in
      let m : ℕ = length is in
      let a : ℕ = suc (suc (suc (length fs))) in
      let i : Instance = module_instance p a b in
      let more : List Callee = own_from (suc m) 0 (count b) in
      let now : Marks = s.front ++ (b, Some (a, m)) ∷ s.back in
      let here' : homes (s.front ++ (b, None) ∷ s.back) ≡ p = sym (ap homes s.is) ∙ here in
      let tree : slice_get trees m ≡ Some (typed_module b) =
      ap (λ (ts : List WModule). slice_get ts m) trees_are
      ∙ ap (λ (k : ℕ). slice_get (before ++ typed_module b ∷ map typed_module q) k) counted
      ∙ (let e : length before ≡ length before + 0 = omega arith in
      ap (slice_get (before ++ typed_module b ∷ map typed_module q)) e
      ∙ get_behind before (typed_module b ∷ map typed_module q) 0)
      in
      let old : AllMarked p (Own 0 0 ∷ (fs ++ more)) (is ++ i ∷ []) trees (s.front ++ (b, None) ∷ s.back) =
      marked_more p (Own 0 0 ∷ fs) more is (i ∷ []) trees (s.front ++ (b, None) ∷ s.back)
      (subst (AllMarked p (Own 0 0 ∷ fs) is trees) s.is placed) in
      let new : AllMarked p (Own 0 0 ∷ (fs ++ more)) (is ++ i ∷ []) trees now =
      marked_set p (Own 0 0 ∷ (fs ++ more)) (is ++ i ∷ []) trees s.front s.back b (Some (a, m)) old
      (one_placed fs is s.front s.back b here' m refl tree) in
      let longer : length (is ++ i ∷ []) ≡ suc m = (let l = length-append is (i ∷ []) in omega (arith, l)) in
      let longer' : length (before ++ typed_module b ∷ []) ≡ suc m =
      (let l = length-append before (typed_module b ∷ []) in omega (arith, l, counted)) in
      let next = order_linked q (front ++ rest) o (fs ++ more) (is ++ i ∷ []) now
      (left_append s.front ((b, Some (a, m)) ∷ s.back) ∙ ap (λ (x : Program). x ++ left s.back) s.front_left
      ∙ ap (λ (x : Program). front ++ x) s.back_left)
      (homes_append s.front ((b, Some (a, m)) ∷ s.back) ∙ sym (homes_append s.front ((b, None) ∷ s.back)) ∙ here') new
      (before ++ typed_module b ∷ []) (longer ∙ sym longer')
      (trees_are ∙ sym (append_assoc before (typed_module b ∷ []) (map typed_module q)))
      (All-tail (λ b. All (IsAmong (names p)) (imported_names b)) b q among)
      in
      let first = subst (λ (xs : Marks). linked_one (typed_link p pages ∷ trees) (suc m) (typed_module b)
      (state fs xs is) ≡ Ok (state (fs ++ more) now (is ++ i ∷ []))) (sym s.is)
      (one_linked fs is s.front s.back b here' m (All-head (λ b. All (IsAmong (names p)) (imported_names b)) b q among))
      in (
        next.0,
        rw first (subst (λ (k : ℕ). linked_from (typed_link p pages ∷ trees) (suc k) (map typed_module q)
            (state (fs ++ more) now (is ++ i ∷ [])) ≡ Ok next.0) longer next.1),
        next.2,
      )
