-- The laws of results: of those that one definition gives, and of an answer each of whose parts comes of the parts
-- before it.
use Rattle.std.proofs.Common.{◌≡◌, ℕ, eqb, zero, suc, ◌+◌, ◌-◌, ◌<◌, ◌≤◌, ◌≢◌, List, [], ◌∷◌, ◌++◌, length, map, take, replicate, refl, sym, ap, ◌∙◌, subst, ⊎_elim, arith, length-append, Some, None, Option}
use Rattle.std.specs.Prelude.{slice_get}
use Rattle.std.specs.Option.{option_map}
use Rattle.std.proofs.lemmas.List.{length-map}
use Rattle.std.proofs.lemmas.Option.{slice_get-map}
use Rattle.pool_board.specs.Lists.{times}
use Rattle.pool_board.specs.Graph.{IsJobGraph, prerequisites_of}
use Rattle.pool_board.proofs.Consistent.{bit, one_if}
use Rattle.pool_board.specs.Results.{with_item, items_at, results_below, results, AreResults, IsCopy}

get-front : {X : Type 0} (xs ys : List X) (i : ℕ) → i < length xs → slice_get (xs ++ ys) i ≡ slice_get xs i
get-front [] ys i l = absurd (omega arith)
get-front (x ∷ xs) ys zero l = refl
get-front (x ∷ xs) ys (suc i) l = get-front xs ys i (omega arith)

pub get_last : {X : Type 0} (xs : List X) (x : X) (i : ℕ) → i ≡ length xs → slice_get (xs ++ x ∷ []) i ≡ Some x
get_last [] x zero e = refl
get_last [] x (suc i) e = absurd (omega arith)
get_last (y ∷ ys) x zero e = absurd (omega arith)
get_last (y ∷ ys) x (suc i) e = get_last ys x i (omega arith)

module _ {X : Type 0} (graph : List (List ℕ)) (defined : ℕ → List X → X) where
  pub results-length : (n : ℕ) → length (results_below graph defined n) ≡ n
  results-length zero = refl
  results-length (suc n) = omega (
    arith,
    results-length n,
    length-append (results_below graph defined n)
        (defined n (items_at (results_below graph defined n) (prerequisites_of graph n)) ∷ []),
  )

  -- later results change no earlier one
  later : (n m job : ℕ) → job < n → slice_get (results_below graph defined (m + n)) job
      ≡ slice_get (results_below graph defined n) job
  later n zero job l = let same : 0 + n ≡ n = omega arith in
      ap (λ (k : ℕ). slice_get (results_below graph defined k) job) same
  later n (suc m) job l =
      let same : suc m + n ≡ suc (m + n) = omega arith in
      ap (λ (k : ℕ). slice_get (results_below graph defined k) job) same
      ∙ (get-front (results_below graph defined (m + n))
      (defined (m + n) (items_at (results_below graph defined (m + n)) (prerequisites_of graph (m + n))) ∷ []) job
      (omega (arith, results-length (m + n)))
      ∙ later n m job l)

  picked_same : (xs ys : List X) (ps : List ℕ) → ((p : ℕ) → 0 < times p ps → slice_get xs p ≡ slice_get ys p)
      → items_at xs ps ≡ items_at ys ps
  picked_same xs ys [] same = refl
  picked_same xs ys (p ∷ ps) same =
      let here : bit (eqb p p) ≡ 1 = ⊎_elim (λ (t : (p ≡ p) × (bit (eqb p p) ≡ 1)). t.1)
      (λ (t : (p ≢ p) × (bit (eqb p p) ≡ 0)). absurd (t.0 refl)) (one_if p p) in
      ap (λ (o : Option X). with_item o (items_at xs ps)) (same p (omega arith))
      ∙ ap (with_item (slice_get ys p)) (picked_same xs ys ps (λ q l. same q (omega arith)))

  pub result_at : IsJobGraph graph → (job : ℕ) → job < length graph
      → slice_get (results graph defined) job
      ≡ Some (defined job (items_at (results graph defined) (prerequisites_of graph job)))
  result_at is_graph job low =
      let m : ℕ = length graph - suc job in
      let n : ℕ = length graph - job in
      let whole : length graph ≡ m + suc job = omega arith in
      let whole' : length graph ≡ n + job = omega arith in
      let before : List X = results_below graph defined job in
      ap (λ (k : ℕ). slice_get (results_below graph defined k) job) whole
      ∙ (later (suc job) m job (omega arith)
      ∙ (get_last before (defined job (items_at before (prerequisites_of graph job))) job (sym (results-length job))
      ∙ ap (λ (outs : List X). Some (defined job outs))
      (picked_same before (results graph defined) (prerequisites_of graph job)
      (λ p some_time. let less = (is_graph job p low).0 some_time in
      sym (ap (λ (k : ℕ). slice_get (results_below graph defined k) p) whole' ∙ later job n p less)))))

-- ---- answers

pub here_once : (p : ℕ) (ps : List ℕ) → 0 < times p (p ∷ ps)
here_once p ps =
    let here : bit (eqb p p) ≡ 1 = ⊎_elim (λ (t : (p ≡ p) × (bit (eqb p p) ≡ 1)). t.1)
    (λ (t : (p ≢ p) × (bit (eqb p p) ≡ 0)). absurd (t.0 refl)) (one_if p p) in
    omega arith

pub there_too : (p q : ℕ) (ps : List ℕ) → 0 < times q ps → 0 < times q (p ∷ ps)
there_too p q ps l = omega arith

-- the n-th item
pub item : {X : Type 0} (xs : List X) (n : ℕ) → n < length xs → (x : X) × (slice_get xs n ≡ Some x)
    × (take (suc n) xs ≡ take n xs ++ x ∷ [])
item [] n l = absurd (omega arith)
item (y ∷ ys) zero l = (y, refl, refl)
item (y ∷ ys) (suc n) l = let t = item ys n (omega arith) in (t.0, t.1, ap (λ l. y ∷ l) t.2)

-- the first items are there in a longer list too
pub get_before : {X : Type 0} (xs ys : List X) (i : ℕ) → i < length xs → slice_get (xs ++ ys) i ≡ slice_get xs i
get_before xs ys i l = get-front xs ys i l

-- what is there has a place
pub inside : {X : Type 0} (xs : List X) (i : ℕ) (x : X) → slice_get xs i ≡ Some x → i < length xs
inside [] i x is = absurd (cc is)
inside (y ∷ ys) zero x is = omega arith
inside (y ∷ ys) (suc i) x is = omega (arith, inside ys i x is)

-- lists of one length with the same items are one
pub same_items : {V : Type 0} (xs ys : List V) → length xs ≡ length ys
    → ((i : ℕ) → i < length xs → slice_get xs i ≡ slice_get ys i) → xs ≡ ys
same_items [] [] long same = refl
same_items [] (y ∷ ys) long same = absurd (omega arith)
same_items (x ∷ xs) [] long same = absurd (omega arith)
same_items (x ∷ xs) (y ∷ ys) long same =
    let head : Some x ≡ Some y = same 0 (omega arith) in
    let one : x ≡ y = cc head in
    ap (λ v. v ∷ xs) one ∙ ap (λ l. y ∷ l) (same_items xs ys (omega arith) (λ i l. same (suc i) (omega arith)))

-- what is seen of picked items is picked of what is seen of all
pub map_picked : {X V : Type 0} (value : X → V) (xs : List X) (ps : List ℕ)
    → map value (items_at xs ps) ≡ items_at (map value xs) ps
map_picked value xs [] = refl
map_picked {X} {V} value xs (p ∷ ps) =
    by (slice_get xs p) (items_at xs ps)
    ∙ (ap (λ (o : Option V). with_item o (map value (items_at xs ps))) (sym (slice_get-map value xs p))
    ∙ ap (with_item (slice_get (map value xs) p)) (map_picked value xs ps))
  where
    by : (o : Option X) (rest : List X) → map value (with_item o rest) ≡ with_item (option_map value o) (map value rest)
    by None rest = refl
    by (Some x) rest = refl

-- the same items are picked of lists that have the same at these places
pub same_picked : {X : Type 0} (xs ys : List X) (ps : List ℕ)
    → ((p : ℕ) → 0 < times p ps → slice_get xs p ≡ slice_get ys p) → items_at xs ps ≡ items_at ys ps
same_picked xs ys [] same = refl
same_picked {X} xs ys (p ∷ ps) same =
    ap (λ (o : Option X). with_item o (items_at xs ps)) (same p (here_once p ps))
    ∙ ap (with_item (slice_get ys p)) (same_picked xs ys ps (λ q l. same q (there_too p q ps l)))

module _ {X V : Type 0} (graph : List (List ℕ)) (defines : ℕ → List X → X → Type 0) (value : X → V) (f : ℕ → List V → V)
  where
    module _ (is_graph : IsJobGraph graph) (gives : (job : ℕ) (outs : List X) (x : X) → defines job outs x
        → value x ≡ f job (map value outs)) (xs : List X) (are : AreResults graph defines xs) where
      -- the value of a job is that of the definition, and so are those of all jobs before a number
      at_job : (n job : ℕ) → job < n → job < length graph
          → slice_get (map value xs) job ≡ slice_get (results graph f) job
      at_job zero job before low = absurd (omega arith)
      at_job (suc n) job before low =
          let there = item xs job (omega (arith, are.count_is)) in
          let comes : value there.0 ≡ f job (map value (items_at xs (prerequisites_of graph job))) =
          gives job (items_at xs (prerequisites_of graph job)) there.0 (are.coherent job there.0 there.1) in
          let inputs : map value (items_at xs (prerequisites_of graph job))
          ≡ items_at (results graph f) (prerequisites_of graph job) =
          map_picked value xs (prerequisites_of graph job)
          ∙ same_picked (map value xs) (results graph f) (prerequisites_of graph job)
          (λ p some_time. let less : p < job = (is_graph job p low).0 some_time in
          at_job n p (omega arith) (omega arith)) in
          slice_get-map value xs job
          ∙ (ap (option_map value) there.1
          ∙ (ap Some (comes ∙ ap (f job) inputs) ∙ sym (result_at graph f is_graph job low)))

      -- where a definition gives the values, those of the answer are its results
      pub as_defined : map value xs ≡ results graph f
      as_defined =
          let many : length (map value xs) ≡ length graph = length-map xs value ∙ are.count_is in
          same_items (map value xs) (results graph f) (many ∙ sym (results-length graph f (length graph)))
          (λ i l. at_job (suc i) i (omega arith) (omega (arith, many)))

-- the same value is a copy
pub same_is_copy : {X : Type 0} (defines : ℕ → List X → X → Type 0) (out x : X) → x ≡ out → IsCopy defines out x
same_is_copy {X} defines out x same = record {
  comes = λ job outs d. subst (λ z. defines job outs z) (sym same) d;
  serves = λ job before after y d. subst (λ (z : X). defines job (before ++ z ∷ after) y) (sym same) d;
}
