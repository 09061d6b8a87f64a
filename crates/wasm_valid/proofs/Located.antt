-- Locals by their groups, and labels by their blocks.
use Rattle.std.proofs.Common.{◌≡◌, ℕ, zero, suc, ◌+◌, ◌-◌, ◌<◌, ◌≤◌, List, [], ◌∷◌, ◌++◌, Option, Some, None, length, get_or, drop, replicate, reverse, refl, sym, ap, subst, ◌∙◌, add-one, leb, true, false, arith}
use Rattle.std.specs.Prelude.{slice_get}
use Rattle.std.specs.Option.{option_map}
use Rattle.std.specs.List.Sorted.{IsNonDecreasingBy, IsPartitionPoint}
use Rattle.std.proofs.Math.Seq.{drop-cons}
use Rattle.std.proofs.lemmas.List.{append_assoc, append-nil, drop_all, length-reverse, get_or-reverse}
use Rattle.std.specs.Prelude.{All, map}
use Rattle.std.proofs.lemmas.List.Elements.{All-nil, All-cons, All-head, All-tail}
use Rattle.std.proofs.lemmas.Bool.{leb-true, leb-false}
use Rattle.std.proofs.lemmas.Option.{slice_get-map, slice_get-get_or, slice_get_past}
use Rattle.wasm_tree.specs.declared.kinds.ValueType.{ValueType}
use Rattle.wasm_tree.specs.declared.module.Locals.{Locals}
use Rattle.wasm_tree.specs.Validity.{local_types, result_types}
use Rattle.wasm_valid.specs.Framed.{labels_of}
use Rattle.wasm_valid.specs.Ends.{ends_from}

get_front : {A : Type 0} (xs ys : List A) (k : ℕ) → k < length xs → slice_get (xs ++ ys) k ≡ slice_get xs k
get_front [] ys k h = absurd (omega arith)
get_front (x ∷ xs) ys zero h = refl
get_front (x ∷ xs) ys (suc k) h = let g : k < length xs = omega arith in get_front xs ys k g

get_behind : {A : Type 0} (xs ys : List A) (k : ℕ) → length xs ≤ k
    → slice_get (xs ++ ys) k ≡ slice_get ys (k - length xs)
get_behind [] ys k h = let e : k - 0 ≡ k = omega arith in ap (slice_get ys) (sym e)
get_behind (x ∷ xs) ys zero h = absurd (omega arith)
get_behind (x ∷ xs) ys (suc k) h =
    let g : length xs ≤ k = omega arith in
    let e : k - length xs ≡ suc k - length (x ∷ xs) = omega arith in
    get_behind xs ys k g ∙ ap (slice_get ys) e

pub local_behind : (params locals : List ValueType) (k : ℕ) → length params ≤ k
    → slice_get (params ++ locals) k ≡ slice_get locals (k - length params)
local_behind params locals k h = get_behind params locals k h

pub local_front : (params locals : List ValueType) (k : ℕ) (d : ValueType) → k < length params
    → Some (get_or params k d) ≡ slice_get (params ++ locals) k
local_front params locals k d h = sym (get_front params locals k h ∙ slice_get-get_or params k d h)

get_replicate : (n k : ℕ) (t : ValueType) → k < n → slice_get (replicate n t) k ≡ Some t
get_replicate zero k t h = absurd (omega arith)
get_replicate (suc n) zero t h = refl
get_replicate (suc n) (suc k) t h = let g : k < n = omega arith in get_replicate n k t g

length_replicate : (n : ℕ) (t : ValueType) → length (replicate n t) ≡ n
length_replicate zero t = refl
length_replicate (suc n) t = ap suc (length_replicate n t)

groups_cut : (groups : List Locals) (k : ℕ) (d : Locals) → k < length groups
    → drop k groups ≡ get_or groups k d ∷ drop (k + 1) groups
groups_cut groups k d h = rw (add-one) (drop-cons groups k d h)

-- ---- where groups end

pub ends_more : (groups : List Locals) (k end next : ℕ) (d : Locals) (ends more whole : List ℕ) → k < length groups
    → next ≡ end + (get_or groups k d).count → more ≡ ends ++ next ∷ [] → ends ++ ends_from end (drop k groups) ≡ whole
    → more ++ ends_from next (drop (k + 1) groups) ≡ whole
ends_more groups k end next d ends more whole lt e pushed h =
    let after = end + (get_or groups k d).count in
    ap (λ (x : List ℕ). x ++ ends_from next (drop (k + 1) groups)) pushed
    ∙ ap (λ (n : ℕ). (ends ++ n ∷ []) ++ ends_from n (drop (k + 1) groups)) e
    ∙ append_assoc ends (after ∷ []) (ends_from after (drop (k + 1) groups))
    ∙ ap (λ (x : List Locals). ends ++ ends_from end x) (sym (groups_cut groups k d lt))
    ∙ h

pub ends_all : (groups : List Locals) (k end : ℕ) (ends whole : List ℕ) → length groups ≤ k
    → ends ++ ends_from end (drop k groups) ≡ whole → ends ≡ whole
ends_all groups k end ends whole le h = sym (append-nil ends)
    ∙ ap (λ (x : List Locals). ends ++ ends_from end x) (sym (drop_all k groups le)) ∙ h

-- how many locals the first k groups have
abbrev before : (k : ℕ) → List Locals → ℕ
before zero groups = 0
before (suc k) [] = 0
before (suc k) (g ∷ groups) = g.count + before k groups

before_rises : (i j : ℕ) (groups : List Locals) → i ≤ j → before i groups ≤ before j groups
before_rises zero j groups h = omega arith
before_rises (suc i) zero groups h = absurd (omega arith)
before_rises (suc i) (suc j) [] h = omega arith
before_rises (suc i) (suc j) (g ∷ groups) h =
    let le : i ≤ j = omega arith in
    let rest : before i groups ≤ before j groups = before_rises i j groups le in
    omega arith

ends_length : (n : ℕ) (groups : List Locals) → length (ends_from n groups) ≡ length groups
ends_length n [] = refl
ends_length n (g ∷ groups) = ap suc (ends_length (n + g.count) groups)

ends_at : (n k d : ℕ) (groups : List Locals) → k < length groups
    → get_or (ends_from n groups) k d ≡ n + before (suc k) groups
ends_at n k d [] h = absurd (omega arith)
ends_at n zero d (g ∷ groups) h =
    let e : n + g.count ≡ n + (g.count + 0) = omega arith in
    e
ends_at n (suc k) d (g ∷ groups) h =
    let lt : k < length groups = omega arith in
    let e : n + g.count + before (suc k) groups ≡ n + (g.count + before (suc k) groups) = omega arith in
    ends_at (n + g.count) k d groups lt ∙ e

rise_of : (groups : List Locals) → IsNonDecreasingBy (λ (n : ℕ). n) (ends_from 0 groups)
rise_of groups i j d le lt =
    let within : j < length groups = subst (λ (n : ℕ). j < n) (ends_length 0 groups) lt in
    let rise : before (suc i) groups ≤ before (suc j) groups = before_rises (suc i) (suc j) groups (omega arith) in
    let at_i : get_or (ends_from 0 groups) i d ≡ 0 + before (suc i) groups = ends_at 0 i d groups (omega arith) in
    let at_j : get_or (ends_from 0 groups) j d ≡ 0 + before (suc j) groups = ends_at 0 j d groups within in
    omega arith

pub ends_rise : (groups : List Locals) (ends : List ℕ) → ends ≡ ends_from 0 groups
    → IsNonDecreasingBy (λ (n : ℕ). n) ends
ends_rise groups ends e = subst (λ (x : List ℕ). IsNonDecreasingBy (λ (n : ℕ). n) x) (sym e) (rise_of groups)

type_at : (groups : List Locals) (k index : ℕ) → before k groups ≤ index
    → (k < length groups → index < before (suc k) groups)
    → slice_get (local_types groups) index ≡ option_map (λ (g : Locals). g.value_type) (slice_get groups k)
type_at [] k index from to = refl
type_at (g ∷ groups) zero index from to =
    let first : 0 < length (g ∷ groups) = omega arith in
    let below : index < g.count + 0 = to first in
    let here : index < g.count = omega arith in
    let inside : index < length (replicate g.count g.value_type) =
    subst (λ (n : ℕ). index < n) (sym (length_replicate g.count g.value_type)) here in
    get_front (replicate g.count g.value_type) (local_types groups) index inside
    ∙ get_replicate g.count index g.value_type here
type_at (g ∷ groups) (suc k) index from to =
    let start : g.count + before k groups ≤ index = from in
    let size = length_replicate g.count g.value_type in
    let le : g.count ≤ index = omega arith in
    let behind : length (replicate g.count g.value_type) ≤ index = subst (λ (n : ℕ). n ≤ index) (sym size) le in
    let left : before k groups ≤ index - g.count = omega arith in
    let right : k < length groups → index - g.count < before (suc k) groups = λ lt.
    let more : suc k < length (g ∷ groups) = omega arith in
    let below : index < g.count + before (suc k) groups = to more in
    omega arith in
    get_behind (replicate g.count g.value_type) (local_types groups) index behind
    ∙ ap (λ (n : ℕ). slice_get (local_types groups) (index - n)) size
    ∙ type_at groups k (index - g.count) left right

index_below : (groups : List Locals) (k index : ℕ) → k < length groups
    → IsPartitionPoint (λ n. leb n index ≡ true) (λ n. leb n index ≡ false) (ends_from 0 groups) k
    → index < before (suc k) groups
index_below groups k index lt point =
    let within : k < length (ends_from 0 groups) = subst (λ (n : ℕ). k < n) (sym (ends_length 0 groups)) lt in
    let e : get_or (ends_from 0 groups) k 0 ≡ 0 + before (suc k) groups = ends_at 0 k 0 groups lt in
    let past : index < get_or (ends_from 0 groups) k 0 = leb-false _ _ (point.1 k 0 (omega arith) within) in
    omega arith

type_in : (groups : List Locals) (k index : ℕ) → k ≤ length (ends_from 0 groups)
    → IsPartitionPoint (λ n. leb n index ≡ true) (λ n. leb n index ≡ false) (ends_from 0 groups) k
    → slice_get (local_types groups) index ≡ option_map (λ (g : Locals). g.value_type) (slice_get groups k)
type_in groups zero index le point = type_at groups zero index (omega arith)
    (λ lt. index_below groups zero index lt point)
type_in groups (suc k) index le point =
    let within : k < length (ends_from 0 groups) = omega arith in
    let lt : k < length groups = subst (λ (n : ℕ). k < n) (ends_length 0 groups) within in
    let e : get_or (ends_from 0 groups) k 0 ≡ 0 + before (suc k) groups = ends_at 0 k 0 groups lt in
    let up : get_or (ends_from 0 groups) k 0 ≤ index = leb-true _ _ (point.0 k 0 (omega arith) (omega arith)) in
    let from : before (suc k) groups ≤ index = omega arith in
    type_at groups (suc k) index from (λ more. index_below groups (suc k) index more point)

-- where the first k groups end no later than at the index, and the others behind it
pub type_found : (groups : List Locals) (ends : List ℕ) (k index : ℕ) → ends ≡ ends_from 0 groups → k ≤ length ends
    → IsPartitionPoint (λ n. leb n index ≡ true) (λ n. leb n index ≡ false) ends k
    → slice_get (local_types groups) index ≡ option_map (λ (g : Locals). g.value_type) (slice_get groups k)
type_found groups ends k index e le point =
    type_in groups k index (subst (λ (x : List ℕ). k ≤ length x) e le)
    (subst (λ (x : List ℕ). IsPartitionPoint (λ n. leb n index ≡ true) (λ n. leb n index ≡ false) x k) e point)

pub label_found : (blocks : List (Option ValueType)) (k : ℕ) (d : Option ValueType) → k < length blocks
    → Some (result_types (get_or blocks (length blocks - 1 - k) d)) ≡ slice_get (labels_of blocks) k
label_found blocks k d h =
    let within : k < length (reverse blocks) = subst (λ (n : ℕ). k < n) (sym (length-reverse blocks)) h in
    sym (slice_get-map result_types (reverse blocks) k
    ∙ ap (λ (o : Option (Option ValueType)). option_map result_types o)
    (slice_get-get_or (reverse blocks) k d within
    ∙ ap (λ (t : Option ValueType). Some t) (get_or-reverse blocks k d h)))

pub label_none : (blocks : List (Option ValueType)) (k : ℕ) → length blocks ≤ k → None ≡ slice_get (labels_of blocks) k
label_none blocks k h =
    let past : length (reverse blocks) ≤ k = subst (λ (n : ℕ). n ≤ k) (sym (length-reverse blocks)) h in
    sym (slice_get-map result_types (reverse blocks) k
    ∙ ap (λ (o : Option (Option ValueType)). option_map result_types o) (slice_get_past (reverse blocks) k past))

pub all_names : {X Y : Type 0} (P : Y → Type 0) (f : X → Y) (xs : List X) → All P (map f xs) → All (λ x. P (f x)) xs
all_names P f [] h = All-nil (λ x. P (f x))
all_names P f (x ∷ xs) h = All-cons (λ y. P (f y)) x xs (All-head P (f x) (map f xs) h)
    (all_names P f xs (All-tail P (f x) (map f xs) h))
