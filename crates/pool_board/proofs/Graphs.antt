-- The checks and the tables of a graph, as they are made.
use Rattle.std.proofs.Common.{◌≡◌, ℕ, Bool, eqb, ltb, cond, true, false, ◌||◌, eq-eqb, ne_eqb, subst, zero, suc, ◌+◌, ◌<◌, ◌≤◌, ◌≢◌, List, [], ◌∷◌, ◌++◌, length, get_or, set, take, sym, refl, ap, ◌∙◌, ⊎_elim, arith, append-nil, get_or-set_same, get_or-set_other}
use Rattle.std.proofs.lemmas.Bool.{lt-ltb}
use Rattle.std.proofs.lemmas.List.{take_more, length-take-le, same_lists, get_or_default}
use Rattle.std.specs.List.{list_any}
use Rattle.pool_board.specs.Lists.{weigh, times}
use Rattle.pool_board.specs.Graph.{IsJob, naming_from, targets_of, targets_table}
use Rattle.pool_board.proofs.Weights.{weigh-push}
use Rattle.pool_board.proofs.Consistent.{bit, one_if}
use Rattle.pool_board.proofs.Targets.{targets_table-length, targets_table-at}

pub any_times : (xs : List ℕ) (job : ℕ) → list_any (λ y. eqb y job) xs ≡ ltb 0 (times job xs)
any_times [] job = refl
any_times (x ∷ xs) job = ⊎_elim
    (λ (t : (x ≡ job) × (bit (eqb x job) ≡ 1)). let on : bit (eqb x job) ≡ 1 = t.1 in
    let some_time : 0 < times job (x ∷ xs) = omega arith in
    ap (λ (b : Bool). b || list_any (λ y. eqb y job) xs) (eq-eqb x job t.0)
    ∙ sym (lt-ltb 0 (times job (x ∷ xs)) some_time))
    (λ (t : (x ≢ job) × (bit (eqb x job) ≡ 0)). let off : bit (eqb x job) ≡ 0 = t.1 in
    let same : times job (x ∷ xs) ≡ times job xs = omega arith in
    ap (λ (b : Bool). b || list_any (λ y. eqb y job) xs) (ne_eqb x job t.0)
    ∙ (any_times xs job ∙ ap (ltb 0) (sym same)))
    (one_if x job)

pub weigh-take : (h : ℕ → ℕ) (xs : List ℕ) (i : ℕ) → weigh h (take i xs) ≤ weigh h xs
weigh-take h [] zero = omega arith
weigh-take h [] (suc i) = omega arith
weigh-take h (x ∷ xs) zero = omega arith
weigh-take h (x ∷ xs) (suc i) = omega (arith, weigh-take h xs i)

pub more_times : (xs : List ℕ) (i p : ℕ) → i < length xs
    → times p (take (i + 1) xs) ≡ times p (take i xs) + bit (eqb (get_or xs i 0) p)
more_times xs i p l = ap (times p) (take_more xs i 0 l) ∙ weigh-push (λ y. bit (eqb y p)) (take i xs) (get_or xs i 0)

pub sound_more : (xs : List ℕ) (i job : ℕ) → i < length xs → get_or xs i 0 < job → times (get_or xs i 0) (take i xs) ≡ 0
    → IsJob (take i xs) job → IsJob (take (i + 1) xs) job
sound_more xs i job l low fresh sound = λ p. let x : ℕ = get_or xs i 0 in ⊎_elim
    (λ (t : (x ≡ p) × (bit (eqb x p) ≡ 1)). let clear : times p (take i xs) ≡ 0 =
    subst (λ (k : ℕ). times k (take i xs) ≡ 0) t.0 fresh in
    ((λ _. subst (λ (k : ℕ). k < job) t.0 low), omega (arith, more_times xs i p l)))
    (λ (t : (x ≢ p) × (bit (eqb x p) ≡ 0)). let off : bit (eqb x p) ≡ 0 = t.1 in
    ((λ s. (sound p).0 (omega (arith, more_times xs i p l))), omega (arith, more_times xs i p l, (sound p).1)))
    (one_if x p)

here_once : (xs : List ℕ) (i : ℕ) → i < length xs → times (get_or xs i 0) (take i xs) + 1 ≤ times (get_or xs i 0) xs
here_once xs i l = let x : ℕ = get_or xs i 0 in let on : bit (eqb x x) ≡ 1 = ap bit (eq-eqb x x refl) in
    omega (arith, more_times xs i x l, weigh-take (λ y. bit (eqb y x)) xs (i + 1))

pub low_prerequisite : (xs : List ℕ) (i job : ℕ) → i < length xs → IsJob xs job → get_or xs i 0 < job
low_prerequisite xs i job l sound = (sound (get_or xs i 0)).0 (omega (arith, here_once xs i l))

pub too_great : (xs : List ℕ) (i job : ℕ) → i < length xs → job ≤ get_or xs i 0 → IsJob xs job → ⊥
too_great xs i job l high sound = let low = (sound (get_or xs i 0)).0 (omega (arith, here_once xs i l)) in omega arith

pub twice : (xs : List ℕ) (i job : ℕ) → i < length xs → 0 < times (get_or xs i 0) (take i xs) → IsJob xs job → ⊥
twice xs i job l again sound = let once = (sound (get_or xs i 0)).1 in omega (arith, here_once xs i l)

naming_some : (job p : ℕ) (list : List ℕ) → 0 < times p list → naming_from job (list ∷ []) p ≡ job ∷ []
naming_some job p list some_time = rw (lt-ltb 0 (times p list) some_time) refl

naming_none : (job p : ℕ) (list : List ℕ) → times p list ≡ 0 → naming_from job (list ∷ []) p ≡ []
naming_none job p list none = rw none refl

-- the rows, where the job stands in those of these prerequisites
abbrev pub ArePut : List (List ℕ) → List (List ℕ) → ℕ → List ℕ → Type 0
ArePut before rows job list = (p : ℕ) → p < length before
    → get_or rows p [] ≡ get_or before p [] ++ naming_from job (list ∷ []) p

pub put_more : (before rows : List (List ℕ)) (job : ℕ) (list : List ℕ) (i : ℕ) → i < length list
    → get_or list i 0 < length rows → length rows ≡ length before → IsJob list job
    → ArePut before rows job (take i list)
    → ArePut before (set rows (get_or list i 0) (get_or rows (get_or list i 0) [] ++ job ∷ [])) job
    (take (i + 1) list)
put_more before rows job list i l room len sound put p low = let q : ℕ = get_or list i 0 in
    let row : List ℕ = get_or rows q [] ++ job ∷ [] in ⊎_elim
    (λ (t : (q ≡ p) × (bit (eqb q p) ≡ 1)). let on : bit (eqb q p) ≡ 1 = t.1 in
    let once : times q list ≤ 1 = (sound q).1 in
    let none : times q (take i list) ≡ 0 = omega (arith, here_once list i l) in
    let here : q < length before = omega arith in
    let self_on : bit (eqb q q) ≡ 1 = ap bit (eq-eqb q q refl) in
    let some_time : 0 < times q (take (i + 1) list) = omega (arith, more_times list i q l) in
    subst (λ (k : ℕ). get_or (set rows q row) k [] ≡ get_or before k [] ++ naming_from job (take (i + 1) list ∷ []) k)
    t.0
    (get_or-set_same rows q row [] room
    ∙ (ap (λ (r : List ℕ). r ++ job ∷ []) (put q here
    ∙ (ap (λ (r : List ℕ). get_or before q [] ++ r) (naming_none job q (take i list) none)
    ∙ append-nil (get_or before q [])))
    ∙ ap (λ (r : List ℕ). get_or before q [] ++ r) (sym (naming_some job q (take (i + 1) list) some_time)))))
    (λ (t : (q ≢ p) × (bit (eqb q p) ≡ 0)). let off : bit (eqb q p) ≡ 0 = t.1 in
    let same : times p (take i list) ≡ times p (take (i + 1) list) = omega (arith, more_times list i p l) in
    get_or-set_other rows q p row [] (λ e. t.0 (sym e))
    ∙ (put p low ∙ ap (λ (n : ℕ). get_or before p [] ++ cond (ltb 0 n) (job ∷ []) []) same))
    (one_if q p)

cond_append : (b : Bool) (x : ℕ) (all front back : List ℕ) → all ≡ front ++ back
    → cond b (x ∷ all) all ≡ cond b (x ∷ front) front ++ back
cond_append true x all front back is = ap (λ (l : List ℕ). x ∷ l) is
cond_append false x all front back is = is

naming-append : (first : ℕ) (rows more : List (List ℕ)) (p : ℕ)
    → naming_from first (rows ++ more) p ≡ naming_from first rows p ++ naming_from (first + length rows) more p
naming-append first [] more p = let same : first ≡ first + 0 = omega arith in ap (λ (n : ℕ). naming_from n more p) same
naming-append first (row ∷ rows) more p = let same : suc first + length rows ≡ first + suc (length rows) =
    omega arith in
    cond_append (ltb 0 (times p row)) first _ _ _
    (naming-append (suc first) rows more p
    ∙ ap (λ (n : ℕ). naming_from (suc first) rows p ++ naming_from n more p) same)

-- one more job names its prerequisites
pub naming_more : (graph : List (List ℕ)) (k p : ℕ) → k < length graph
    → naming_from 0 (take (k + 1) graph) p ≡ naming_from 0 (take k graph) p ++ naming_from k (get_or graph k [] ∷ []) p
naming_more graph k p l = let at : 0 + length (take k graph) ≡ k =
    omega (arith, length-take-le k graph (omega arith)) in
    ap (λ (g : List (List ℕ)). naming_from 0 g p) (take_more graph k [] l)
    ∙ (naming-append 0 (take k graph) (get_or graph k [] ∷ []) p
    ∙ ap (λ (n : ℕ). naming_from 0 (take k graph) p ++ naming_from n (get_or graph k [] ∷ []) p) at)

-- rows that are the targets of each job are the table
pub whole_table : (graph rows : List (List ℕ)) → length rows ≡ length graph
    → ((p : ℕ) → p < length graph → get_or rows p [] ≡ targets_of graph p) → rows ≡ targets_table graph
whole_table graph rows len each = same_lists rows (targets_table graph) (len ∙ sym (targets_table-length graph))
    (λ k d l. let low : k < length graph = omega arith in
    let high : k < length (targets_table graph) = omega (arith, targets_table-length graph) in
    get_or_default rows k d [] l ∙ (each k low
    ∙ (sym (targets_table-at graph k low) ∙ get_or_default (targets_table graph) k [] d high)))
