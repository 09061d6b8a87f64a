-- The prerequisites of a job have smaller numbers.
use Rattle.std.proofs.Common.{◌≡◌, ◌<◌, ◌≤◌, ℕ, zero, suc, ◌+◌, Bool, true, false, not, cond, ◌&&◌, ◌||◌, ◌==◌, List, [], ◌∷◌, ◌++◌, length, take, get_or, map, refl, sym, ap, subst, ◌∙◌, inl, inr, arith, Option, Some, None, All, slice_index, eq-eqb}
use Rattle.std.specs.List.{filter_map, cons_option, AllZip, list_all}
use Rattle.std.specs.Option.{option_map, option_to_list}
use Rattle.std.proofs.lemmas.Bool.{cases_Bool, cases_lt, and_parts, false≢true, eqb-true}
use Rattle.std.proofs.lemmas.List.{get_or-map, length-map, length-append, get_or_past, take_all}
use Rattle.std.proofs.lemmas.List.Elements.{All-nil, All-cons}
use Rattle.std.specs.Borrow.{Bor}
use Rattle.m2_tree.specs.declared.decl.Module.{Module}
use Rattle.m2_tree.specs.declared.name.Ident.{Ident}
use Rattle.graph_walk.specs.Links.{has, times, AreEachOnce, flag, targets}
use Rattle.m2_graph.specs.Imports.{is_definition, first_that, defines, definition_of, imports_of, links_of, links, needs_of, own_definition}
use Rattle.m2_graph.specs.Jobs.{number_of, numbers_of, AreJobs}
use Rattle.graph_walk.specs.Numbering.{IsNumbering}
use Rattle.m2_graph.specs.Order.{body_numbers, IsJob, needs}
use Rattle.m2_graph.proofs.Importing.{first_within}
use Rattle.graph_walk.proofs.Marking.{has-append, marked_within, times_once_each}
use Rattle.graph_walk.proofs.Chains.{or_true, times_has, has_at, done_before}
use Rattle.m2_graph.proofs.Cycles.{passes}

-- ---- lists of numbers

pub times_once : (once all : List ℕ) (k : ℕ) → AreEachOnce once all → times once k ≤ 1
times_once once all k h = subst (λ (n : ℕ). n ≤ 1) (sym (times_once_each once all h k)) (small (has all k))
  where
    small : (b : Bool) → cond b 1 0 ≤ 1
    small true = omega arith
    small false = omega arith

pub once_among : (once all : List ℕ) (k : ℕ) → AreEachOnce once all → has once k ≡ true → has all k ≡ true
once_among once all k h e = some (has all k)
    (subst (λ (n : ℕ). 1 ≤ n) (times_once_each once all h k) (times_has once k e))
  where
    some : (b : Bool) → 1 ≤ cond b 1 0 → b ≡ true
    some true l = refl
    some false l = absurd (omega arith)

has_filtered : (h : ℕ → Option ℕ) (xs : List ℕ) (y : ℕ) → has (filter_map h xs) y ≡ true → (x : ℕ) × (has xs x ≡ true)
    × (h x ≡ Some y)
has_filtered h [] y e = absurd (false≢true e)
has_filtered h (x ∷ xs) y e = step (has_filtered h xs y) (h x) refl e
  where
    later : (z : ℕ) → has xs z ≡ true → has (x ∷ xs) z ≡ true
    later z f = elim (cases_Bool (x == z)) [ inl s ↦ ap (λ b. b || has xs z) s | inr n ↦ ap (λ b. b || has xs z) n ∙ f ]

    step : (has (filter_map h xs) y ≡ true → (z : ℕ) × (has xs z ≡ true) × (h z ≡ Some y)) → (o : Option ℕ) → h x ≡ o
        → has (cons_option o (filter_map h xs)) y ≡ true → (z : ℕ) × (has (x ∷ xs) z ≡ true) × (h z ≡ Some y)
    step more None q f = let r = more f in (r.0, later r.0 r.1, r.2)
    step more (Some w) q f = elim (or_true (w == y) (has (filter_map h xs) y) f) [
      | inl same ↦ (x, ap (λ b. b || has xs x) (eq-eqb x x refl), q ∙ ap Some (eqb-true w y same))
      | inr there ↦
          (let r = more there in (r.0, later r.0 r.1, r.2))
    ]

-- ---- the first place

upto_step : {X : Type 0} (t : X → Bool) (x : X) (xs : List X) (k p : ℕ) (d : X) (b : Bool) (r : Option ℕ) → t x ≡ b
    → t (get_or (x ∷ xs) k d) ≡ true → ((j i : ℕ) → k ≡ suc j → t (get_or xs j d) ≡ true → r ≡ Some i → i ≤ j)
    → cond b (Some 0) (option_map suc r) ≡ Some p → p ≤ k
upto_step t x xs k p d true r f g later e = let z : 0 ≡ p = cc in omega arith
upto_step t x xs k p d false None f g later e = cc
upto_step t x xs zero p d false (Some i) f g later e = absurd (false≢true (sym f ∙ g))
upto_step t x xs (suc j) p d false (Some i) f g later e = let z : suc i ≡ p = cc in let h = later j i refl g refl in
    omega (arith, h)

first_upto : {X : Type 0} (t : X → Bool) (xs : List X) (k p : ℕ) (d : X) → k < length xs → t (get_or xs k d) ≡ true
    → first_that t xs ≡ Some p → p ≤ k
first_upto t [] k p d l e f = absurd (omega arith)
first_upto t (x ∷ xs) k p d l e f = upto_step t x xs k p d (t x) (first_that t xs) refl e
    (λ j i s g q. first_upto t xs j i d (omega arith) g q) f

-- ---- what a job needs is a definition

flag_definition : (ms : List Module) (name : List ℕ) (t : ℕ) → definition_of ms name ≡ Some t
    → flag (map is_definition ms) t ≡ true
flag_definition ms name t e = step ms refl
  where
    step : (xs : List Module) → ms ≡ xs → flag (map is_definition ms) t ≡ true
    step [] q = absurd (omega (arith, first_within (defines name) ms t e, ap length q))
    step (m ∷ more) q = get_or-map is_definition ms t m false (first_within (defines name) ms t e)
        ∙ (and_parts (is_definition (get_or ms t m)) _ (passes (defines name) ms t m e)).0

pub linked : (ms : List Module) (xs : List Ident) (t : ℕ)
    → has (filter_map (λ (i : Ident). definition_of ms i.name) xs) t ≡ true → flag (map is_definition ms) t ≡ true
linked ms [] t e = absurd (false≢true e)
linked ms (x ∷ xs) t e = step (linked ms xs t) (definition_of ms x.name) refl e
  where
    step : (has (filter_map (λ (i : Ident). definition_of ms i.name) xs) t ≡ true
        → flag (map is_definition ms) t ≡ true) → (o : Option ℕ) → definition_of ms x.name ≡ o
        → has (cons_option o (filter_map (λ (i : Ident). definition_of ms i.name) xs)) t ≡ true
        → flag (map is_definition ms) t ≡ true
    step later None q f = later f
    step later (Some w) q f = elim (or_true (w == t) (has (filter_map (λ (i : Ident). definition_of ms i.name) xs) t) f)
        [ inl same ↦ flag_definition ms x.name t (q ∙ ap Some (eqb-true w t same)) | inr more ↦ later more ]

needed : (ms : List Module) (m : Module) (t : ℕ) → has (needs_of ms m) t ≡ true → flag (map is_definition ms) t ≡ true
needed ms m t e = elim (or_true (has (own_definition ms m) t) (has (links_of ms m) t)
    (sym (has-append (own_definition ms m) (links_of ms m) t) ∙ e)) [
      | inl own ↦ step (is_definition m) (definition_of ms m.name.name) refl own
      | inr more ↦ linked ms (imports_of m) t
          more
    ]
  where
    step : (b : Bool) (o : Option ℕ) → definition_of ms m.name.name ≡ o → has (cond b [] (option_to_list o)) t ≡ true
        → flag (map is_definition ms) t ≡ true
    step true o q f = absurd (false≢true f)
    step false None q f = absurd (false≢true f)
    step false (Some w) q f = elim (or_true (w == t) false f) [
      | inl same ↦ flag_definition ms m.name.name t (q ∙ ap Some (eqb-true w t same))
      | inr no_more ↦ absurd
          (false≢true no_more)
    ]

-- ---- the numbers of bodies

pub at_least : (n : ℕ) (ms : List Module) (k : ℕ) → has (body_numbers n ms) k ≡ true → (n ≤ k) × (k < n + length ms)
at_least n [] k e = absurd (false≢true e)
at_least n (m ∷ ms) k e = step (at_least (n + 1) ms k) (is_definition m) e
  where
    step : (has (body_numbers (n + 1) ms) k ≡ true → (n + 1 ≤ k) × (k < (n + 1) + length ms)) → (b : Bool)
        → has (cond b [] (n ∷ []) ++ body_numbers (n + 1) ms) k ≡ true → (n ≤ k) × (k < n + length (m ∷ ms))
    step later true f = let h = later f in (omega (arith, h.0), omega (arith, h.1))
    step later false f = elim (or_true (n == k) (has (body_numbers (n + 1) ms) k) f) [
      | inl same ↦ (let q = eqb-true n k same in (omega (arith, q), omega (arith, q)))
      | inr more ↦
          (let h = later more in (omega (arith, h.0), omega (arith, h.1)))
    ]

no_body : (n : ℕ) (ms : List Module) (k j : ℕ) → j ≡ n + k → has (body_numbers n ms) j ≡ true
    → flag (map is_definition ms) k ≡ false
no_body n [] k j e h = absurd (false≢true h)
no_body n (m ∷ ms) zero j e h = step (is_definition m) refl h
  where
    step : (b : Bool) → is_definition m ≡ b → has (cond b [] (n ∷ []) ++ body_numbers (n + 1) ms) j ≡ true
        → is_definition m ≡ false
    step true q f = let g = at_least (n + 1) ms j f in absurd (omega (arith, g.0))
    step false q f = q
no_body n (m ∷ ms) (suc k) j e h = step (no_body (n + 1) ms k j (omega arith)) (is_definition m) h
  where
    step : (has (body_numbers (n + 1) ms) j ≡ true → flag (map is_definition ms) k ≡ false) → (b : Bool)
        → has (cond b [] (n ∷ []) ++ body_numbers (n + 1) ms) j ≡ true → flag (map is_definition ms) k ≡ false
    step later true f = later f
    step later false f = elim (or_true (n == j) (has (body_numbers (n + 1) ms) j) f)
        [ inl same ↦ (let q = eqb-true n j same in absurd (omega (arith, q))) | inr more ↦ later more ]

-- ---- the order of the jobs

has_index : (xs : List ℕ) (p : ℕ) → p < length xs → has xs (slice_index xs p) ≡ true
has_index [] p l = absurd (omega arith)
has_index (x ∷ xs) zero l = ap (λ b. b || has xs x) (eq-eqb x x refl)
has_index (x ∷ xs) (suc p) l = right (x == slice_index xs p) (has xs (slice_index xs p)) (has_index xs p (omega arith))
  where
    right : (b c : Bool) → c ≡ true → (b || c) ≡ true
    right true c f = refl
    right false c f = f

index_left : (xs ys : List ℕ) (p : ℕ) → p < length xs → slice_index (xs ++ ys) p ≡ slice_index xs p
index_left [] ys p l = absurd (omega arith)
index_left (x ∷ xs) ys zero l = refl
index_left (x ∷ xs) ys (suc p) l = index_left xs ys p (omega arith)

index_right : (xs ys : List ℕ) (p : ℕ) → length xs ≤ p → p < length (xs ++ ys)
    → has ys (slice_index (xs ++ ys) p) ≡ true
index_right [] ys p l g = has_index ys p g
index_right (x ∷ xs) ys zero l g = absurd (omega arith)
index_right (x ∷ xs) ys (suc p) l g = index_right xs ys p (omega arith) (omega arith)

node_needs : (ms : List Module) (d : Module) (node t : ℕ) → node < length ms → flag (map is_definition ms) node ≡ true
    → has (targets (needs ms) node) t ≡ true → has (targets (links ms) node) t ≡ true
node_needs ms d node t l e h =
    let m = get_or ms node d in
    let is_so : is_definition m ≡ true = sym (get_or-map is_definition ms node d false l) ∙ e in
    let a : targets (needs ms) node ≡ needs_of ms m = get_or-map (needs_of ms) ms node d [] l in
    let b : targets (links ms) node ≡ links_of ms m = get_or-map (links_of ms) ms node d [] l in
    let own : own_definition ms m ≡ [] = ap (λ c. cond c [] (option_to_list (definition_of ms m.name.name))) is_so in
    ap (λ (ts : List ℕ). has ts t) (b ∙ sym (ap (λ (xs : List ℕ). xs ++ links_of ms m) own) ∙ sym a) ∙ h

links_only : (ms : List Module) (node t : ℕ) → flag (map is_definition ms) node ≡ true
    → has (targets (needs ms) node) t ≡ true → has (targets (links ms) node) t ≡ true
links_only [] node t e h = absurd (false≢true e)
links_only (m ∷ ms) node t e h = node_needs (m ∷ ms) m node t
    (omega (arith, marked_within (map is_definition (m ∷ ms)) node e, length-map (m ∷ ms) is_definition)) e h

needs_definition : (ms : List Module) (node t : ℕ) → has (targets (needs ms) node) t ≡ true
    → flag (map is_definition ms) t ≡ true
needs_definition [] node t h = absurd (false≢true h)
needs_definition (m ∷ ms) node t h = elim (cases_lt node (length (m ∷ ms))) [
  | inl l ↦ needed (m ∷ ms) (get_or (m ∷ ms) node m) t
      (ap (λ (ts : List ℕ). has ts t) (sym (get_or-map (needs_of (m ∷ ms)) (m ∷ ms) node m [] l)) ∙ h)
  | inr g ↦ absurd (false≢true (ap (λ (ts : List ℕ). has ts t)
      (sym (get_or_past (needs (m ∷ ms)) node [] (omega (arith, g, length-map (m ∷ ms) (needs_of (m ∷ ms)))))) ∙ h))
]

-- what the job of a definition needs has a smaller number
definition_smaller : (ms : List Module) (definitions : List ℕ) (job n p : ℕ)
    → IsNumbering (links ms) (map is_definition ms) definitions → job < length definitions
    → has (targets (needs ms) (slice_index definitions job)) n ≡ true
    → number_of (definitions ++ body_numbers 0 ms) n ≡ Some p → p < job
definition_smaller ms definitions job n p numbering is h e =
    let flags = map is_definition ms in
    let node = slice_index definitions job in
    let next = numbering.each job is in
    let d : flag flags node ≡ true = (and_parts (flag flags node) (not (has (take job definitions) node))
    (and_parts (flag flags node && not (has (take job definitions) node))
    (list_all (has (take job definitions)) (targets (links ms) node)) next.ready).0).0 in
    let before : has (take job definitions) n ≡ true =
    done_before (links ms) flags (has (take job definitions)) node n next (links_only ms node n d h) in
    let k = has_at definitions job n before in
    let there : slice_index (definitions ++ body_numbers 0 ms) k.0 ≡ n =
    index_left definitions (body_numbers 0 ms) k.0 k.2 ∙ k.3 in
    let up : p ≤ k.0 = first_upto (λ one. one == n) (definitions ++ body_numbers 0 ms) k.0 p 0
    (omega (arith, k.2, length-append definitions (body_numbers 0 ms)))
    (eq-eqb (slice_index (definitions ++ body_numbers 0 ms) k.0) n there) e in
    omega (arith, up, k.1)

-- a definition has its number before any body
body_smaller : (ms : List Module) (definitions : List ℕ) (job n p : ℕ) → length definitions ≤ job
    → flag (map is_definition ms) n ≡ true → number_of (definitions ++ body_numbers 0 ms) n ≡ Some p → p < job
body_smaller ms definitions job n p g d e =
    elim (cases_lt p (length definitions)) [ inl l ↦ omega arith | inr past ↦ absurd (not_so past) ]
  where
    not_so : length definitions ≤ p → ⊥
    not_so past =
        let order = definitions ++ body_numbers 0 ms in
        let is : slice_index order p ≡ n = eqb-true (slice_index order p) n (passes (λ one. one == n) order p 0 e) in
        let b : has (body_numbers 0 ms) (slice_index order p) ≡ true =
        index_right definitions (body_numbers 0 ms) p past (first_within (λ one. one == n) order p e) in
        let f : flag (map is_definition ms) n ≡ false =
        no_body 0 ms n n (omega arith) (subst (λ (k : ℕ). has (body_numbers 0 ms) k ≡ true) is b) in
        false≢true (sym f ∙ d)

need_smaller : (ms : List Module) (definitions : List ℕ) (job n p : ℕ)
    → IsNumbering (links ms) (map is_definition ms) definitions
    → has (targets (needs ms) (slice_index (definitions ++ body_numbers 0 ms) job)) n ≡ true
    → number_of (definitions ++ body_numbers 0 ms) n ≡ Some p → p < job
need_smaller ms definitions job n p numbering h e = elim (cases_lt job (length definitions)) [
  | inl is ↦ definition_smaller ms definitions job n p numbering is
      (subst (λ (k : ℕ). has (targets (needs ms) k) n ≡ true) (index_left definitions (body_numbers 0 ms) job is) h) e
  | inr g ↦ body_smaller ms definitions job n p g
      (needs_definition ms (slice_index (definitions ++ body_numbers 0 ms) job) n h) e
]

zip_at : (R : ℕ → List ℕ → Type 0) (xs : List ℕ) (ys : List (List ℕ)) → AllZip R xs ys → (k : ℕ) → k < length ys
    → R (slice_index xs k) (targets ys k)
zip_at R [] [] h k l = absurd (omega arith)
zip_at R [] (y ∷ ys) h k l = absurd h
zip_at R (x ∷ xs) [] h k l = absurd h
zip_at R (x ∷ xs) (y ∷ ys) h zero l = h.0
zip_at R (x ∷ xs) (y ∷ ys) h (suc k) l = zip_at R xs ys h.1 k (omega arith)

jobs_smaller : (ms : List Module) (definitions : List ℕ) (jobs : List (List ℕ))
    → IsNumbering (links ms) (map is_definition ms) definitions
    → AllZip (IsJob ms (definitions ++ body_numbers 0 ms)) (definitions ++ body_numbers 0 ms) jobs → AreJobs jobs
jobs_smaller ms definitions jobs numbering z job p =
    elim (cases_lt job (length jobs)) [ inl l ↦ inside l | inr g ↦ outside g ]
  where
    inside : job < length jobs → (has (targets jobs job) p ≡ true → p < job) × (times (targets jobs job) p ≤ 1)
    inside l =
        let order = definitions ++ body_numbers 0 ms in
        let numbers = numbers_of order (targets (needs ms) (slice_index order job)) in
        let is_job : AreEachOnce (targets jobs job) numbers = zip_at (IsJob ms order) order jobs z job l in (
          (λ h. let r = has_filtered (number_of order) (targets (needs ms) (slice_index order job)) p
              (once_among (targets jobs job) numbers p is_job h) in
              need_smaller ms definitions job r.0 p numbering r.1 r.2),
          times_once (targets jobs job) numbers p is_job,
        )

    outside : length jobs ≤ job → (has (targets jobs job) p ≡ true → p < job) × (times (targets jobs job) p ≤ 1)
    outside g =
        let past : targets jobs job ≡ [] = get_or_past jobs job [] g in (
          (λ h. absurd (false≢true (ap (λ (ts : List ℕ). has ts p) (sym past) ∙ h))),
          subst
              (λ (ts : List ℕ). times ts p ≤ 1) (sym past) (omega arith),
        )

pub are_jobs : (ms : List Module) (definitions order : List ℕ) (jobs : List (List ℕ))
    → IsNumbering (links ms) (map is_definition ms) definitions → order ≡ definitions ++ body_numbers 0 ms
    → AllZip (IsJob ms order) order jobs → AreJobs jobs
are_jobs ms definitions order jobs numbering e z =
    jobs_smaller ms definitions jobs numbering
    (subst (λ (xs : List ℕ). AllZip {A = ℕ} {B = List ℕ} (IsJob ms xs) xs jobs) e z)

-- ---- each number in the order is that of a module

pub has_place : (xs : List ℕ) (x : ℕ) → has xs x ≡ true → (k : ℕ) × (k < length xs) × (slice_index xs k ≡ x)
has_place xs x e = let k = has_at xs (length xs) x
    (ap (λ (ys : List ℕ). has ys x) (take_all (length xs) xs (omega arith)) ∙ e) in (k.0, k.2, k.3)

all_from_has : (P : ℕ → Type 0) (xs : List ℕ) → ((x : ℕ) → has xs x ≡ true → P x) → All P xs
all_from_has P [] h = All-nil P
all_from_has P (x ∷ xs) h = All-cons P x xs (h x (ap (λ b. b || has xs x) (eq-eqb x x refl)))
    (all_from_has P xs (λ y e. h y (elim (cases_Bool (x == y))
    [ inl s ↦ ap (λ b. b || has xs y) s | inr n ↦ ap (λ b. b || has xs y) n ∙ e ])))

pub numbered_definition : (links : List (List ℕ)) (flags : List Bool) (definitions : List ℕ) (x : ℕ)
    → IsNumbering links flags definitions → has definitions x ≡ true → flag flags x ≡ true
numbered_definition links flags definitions x numbering e =
    let k = has_place definitions x e in
    let next = numbering.each k.0 k.1 in
    let node = slice_index definitions k.0 in
    subst (λ (j : ℕ). flag flags j ≡ true) k.2
    (and_parts (flag flags node) (not (has (take k.0 definitions) node))
    (and_parts (flag flags node && not (has (take k.0 definitions) node))
    (list_all (has (take k.0 definitions)) (targets links node)) next.ready).0).0

pub nodes_within : (ms : List Module) (definitions order : List ℕ)
    → IsNumbering (links ms) (map is_definition ms) definitions → order ≡ definitions ++ body_numbers 0 ms
    → All (λ node. node < length ms) order
nodes_within ms definitions order numbering e = all_from_has (λ node. node < length ms) order within
  where
    of_definition : (x : ℕ) → has definitions x ≡ true → x < length ms
    of_definition x h = omega (
      arith,
      marked_within (map is_definition ms) x
          (numbered_definition (links ms) (map is_definition ms) definitions x numbering h),
      length-map ms is_definition,
    )

    of_body : (x : ℕ) → has (body_numbers 0 ms) x ≡ true → x < length ms
    of_body x h = let g = at_least 0 ms x h in omega (arith, g.1)

    within : (x : ℕ) → has order x ≡ true → x < length ms
    within x h = elim (or_true (has definitions x) (has (body_numbers 0 ms) x)
        (sym (has-append definitions (body_numbers 0 ms) x) ∙ ap (λ (xs : List ℕ). has xs x) (sym e) ∙ h))
        [ inl d ↦ of_definition x d | inr b ↦ of_body x b ]

-- ---- the same of borrowed modules

abbrev trees_in : List (Bor Module) → List Module
trees_in xs = map (λ (m : Bor Module). m.now) xs

pub order_within : (xs : List (Bor Module)) (definitions order borrowed : List ℕ)
    → IsNumbering (links (trees_in xs)) (map is_definition (trees_in xs)) definitions
    → order ≡ definitions ++ body_numbers 0 (trees_in xs) → borrowed ≡ order → All (λ node. node < length xs) borrowed
order_within xs definitions order borrowed numbering e1 e2 =
    subst (λ (n : ℕ). All (λ node. node < n) borrowed) (length-map xs (λ (m : Bor Module). m.now))
    (nodes_within (trees_in xs) definitions borrowed numbering (e2 ∙ e1))

pub order_jobs : (xs : List (Bor Module)) (definitions order borrowed : List ℕ) (jobs : List (List ℕ))
    → IsNumbering (links (trees_in xs)) (map is_definition (trees_in xs)) definitions
    → order ≡ definitions ++ body_numbers 0 (trees_in xs) → borrowed ≡ order
    → AllZip (IsJob (trees_in xs) borrowed) borrowed jobs → AreJobs jobs
order_jobs xs definitions order borrowed jobs numbering e1 e2 z =
    are_jobs (trees_in xs) definitions borrowed jobs numbering (e2 ∙ e1) z
