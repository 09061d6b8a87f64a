-- What keeps the facts on the lists of all seats.
use Rattle.std.proofs.Common.{◌≡◌, ℕ, Bool, eqb, cond, ◌&&◌, subst, eq-eqb, ne_eqb, zero, suc, ◌+◌, ◌<◌, ◌≤◌, ◌≢◌, ◌⊎◌, List, [], ◌∷◌, length, get_or, sym, refl, ap, ◌∙◌, inl, inr, ⊎_elim, arith}
use Rattle.std.proofs.lemmas.Bool.{cases_eq}
use Rattle.pool_board.specs.declared.rule.Counted.{Counted}
use Rattle.pool_board.specs.Lists.{weigh, times}
use Rattle.pool_board.specs.Graph.{IsJobGraph, prerequisites_of, targets_of, waiting_of}
use Rattle.pool_board.specs.Rule.{count_of_edge, target_of, counted_to, left_at, IsConsistent}
use Rattle.pool_board.proofs.Weights.{Same, Adds}
use Rattle.pool_board.proofs.Targets.{target_names, targets_apart}

-- 1 for yes
abbrev pub bit : Bool → ℕ
bit b = cond b 1 0

pub one_if : (a b : ℕ) → ((a ≡ b) × (bit (eqb a b) ≡ 1)) ⊎ ((a ≢ b) × (bit (eqb a b) ≡ 0))
one_if a b = ⊎_elim (λ e. inl (e, rw (eq-eqb a b e) refl)) (λ n. inr (n, rw (ne_eqb a b n) refl)) (cases_eq a b)

pub one_if_both : (a b c d : ℕ) → ((a ≡ b) × (c ≡ d) × (bit (eqb a b && eqb c d) ≡ 1))
    ⊎ (((a ≡ b) → (c ≡ d) → ⊥) × (bit (eqb a b && eqb c d) ≡ 0))
one_if_both a b c d = ⊎_elim
    (λ e. ⊎_elim (λ g. inl (e, g, rw (eq-eqb a b e, eq-eqb c d g) refl))
    (λ n. inr ((λ _ g. n g), rw (eq-eqb a b e, ne_eqb c d n) refl)) (cases_eq c d))
    (λ n. inr ((λ e _. n e), rw (ne_eqb a b n) refl))
    (cases_eq a b)

pub none_or_some : (n : ℕ) → (n ≡ 0) ⊎ (0 < n)
none_or_some zero = inl refl
none_or_some (suc n) = inr (omega arith)

pub weigh_none : {A : Type 0} (h : A → ℕ) (xs : List A) → ((x : A) → h x ≡ 0) → weigh h xs ≡ 0
weigh_none h [] z = refl
weigh_none h (x ∷ xs) z = omega (arith, z x, weigh_none h xs z)

pub weigh_plus : {A : Type 0} (g h : A → ℕ) (xs : List A) → weigh (λ x. g x + h x) xs ≡ weigh g xs + weigh h xs
weigh_plus g h [] = omega arith
weigh_plus g h (x ∷ xs) = omega (arith, weigh_plus g h xs)

-- a table of weights, by rows and by columns
pub weigh_swap : {A B : Type 0} (h : A → B → ℕ) (xs : List A) (ys : List B)
    → weigh (λ a. weigh (h a) ys) xs ≡ weigh (λ b. weigh (λ a. h a b) xs) ys
weigh_swap h [] ys = sym (weigh_none (λ _. 0) ys (λ _. refl))
weigh_swap h (x ∷ xs) ys = omega (arith, weigh_swap h xs ys, weigh_plus (h x) (λ b. weigh (λ a. h a b) xs) ys)

-- weights of at most 1, one of them 0
pub weigh_most : (h : ℕ → ℕ) (xs : List ℕ) → ((y : ℕ) → h y ≤ 1) → weigh h xs ≤ length xs
weigh_most h [] most = omega arith
weigh_most h (y ∷ ys) most = omega (arith, most y, weigh_most h ys most)

pub weigh_short : (h : ℕ → ℕ) (xs : List ℕ) (x : ℕ) → ((y : ℕ) → h y ≤ 1) → h x ≡ 0 → 0 < times x xs
    → weigh h xs < length xs
weigh_short h [] x most none there = absurd (omega arith)
weigh_short h (y ∷ ys) x most none there = ⊎_elim
    (λ (t : (y ≡ x) × (bit (eqb y x) ≡ 1)). let here : h y ≡ 0 = ap h t.0 ∙ none in omega (arith, weigh_most h ys most))
    (λ (t : (y ≢ x) × (bit (eqb y x) ≡ 0)). let off : bit (eqb y x) ≡ 0 = t.1 in
    let later : weigh h ys < length ys = weigh_short h ys x most none (omega arith) in omega (arith, most y))
    (one_if y x)

module _ (graph : List (List ℕ)) where
  abbrev pub Valid : List Counted → Type 0
  Valid counts = (from edge : ℕ) → 0 < count_of_edge from edge counts → edge < length (targets_of graph from)

  abbrev pub EachOnce : List Counted → Type 0
  EachOnce counts = (from edge : ℕ) → count_of_edge from edge counts ≤ 1

  itself : (c : Counted) → bit (eqb c.from c.from && eqb c.edge c.edge) ≡ 1
  itself c = rw (eq-eqb c.from c.from refl, eq-eqb c.edge c.edge refl) refl

  valid_head : (c : Counted) (cs : List Counted) → Valid (c ∷ cs) → c.edge < length (targets_of graph c.from)
  valid_head c cs v = v c.from c.edge (omega (arith, itself c))

  valid_tail : (c : Counted) (cs : List Counted) → Valid (c ∷ cs) → Valid cs
  valid_tail c cs v from edge l = v from edge (omega arith)

  once_tail : (c : Counted) (cs : List Counted) → EachOnce (c ∷ cs) → EachOnce cs
  once_tail c cs o from edge = let h = o from edge in omega arith

  -- a count of an edge from the job `from` to the job `to`
  abbrev goes : ℕ → ℕ → Counted → ℕ
  goes to from c = bit (eqb (target_of graph c) to && eqb from c.from)

  only_edge : (to from edge : ℕ) → edge < length (targets_of graph from) → get_or (targets_of graph from) edge 0 ≡ to
      → (cs : List Counted) → Valid cs
      → weigh (goes to from) cs ≤ count_of_edge from edge cs
  only_edge to from edge l is [] v = omega arith
  only_edge to from edge l is (c ∷ cs) v = let ih = only_edge to from edge l is cs (valid_tail c cs v) in
      ⊎_elim (λ (t : (target_of graph c ≡ to) × (from ≡ c.from) × (goes to from c ≡ 1)).
      let mine : c.edge < length (targets_of graph from) =
      subst (λ (f : ℕ). c.edge < length (targets_of graph f)) (sym t.1) (valid_head c cs v) in
      let goal : get_or (targets_of graph from) c.edge 0 ≡ get_or (targets_of graph from) edge 0 =
      ap (λ (f : ℕ). get_or (targets_of graph f) c.edge 0) t.1 ∙ (t.0 ∙ sym is) in
      let same : c.edge ≡ edge = targets_apart graph from c.edge edge mine l goal in
      let one : bit (eqb c.from from && eqb c.edge edge) ≡ 1 =
      rw (eq-eqb c.from from (sym t.1), eq-eqb c.edge edge same) refl in
      omega (arith, t.2))
      (λ (t : ((target_of graph c ≡ to) → (from ≡ c.from) → ⊥) × (goes to from c ≡ 0)). let none : goes to from c ≡ 0 =
      t.1 in omega arith)
      (one_if_both (target_of graph c) to from c.from)

  one_each : (to from : ℕ) (cs : List Counted) → Valid cs → EachOnce cs → weigh (goes to from) cs ≤ 1
  one_each to from [] v o = omega arith
  one_each to from (c ∷ cs) v o = let ih = one_each to from cs (valid_tail c cs v) (once_tail c cs o) in
      ⊎_elim (λ (t : (target_of graph c ≡ to) × (from ≡ c.from) × (goes to from c ≡ 1)).
      let mine : c.edge < length (targets_of graph from) =
      subst (λ (f : ℕ). c.edge < length (targets_of graph f)) (sym t.1) (valid_head c cs v) in
      let goal : get_or (targets_of graph from) c.edge 0 ≡ to = ap (λ (f : ℕ). get_or (targets_of graph f) c.edge 0) t.1
      ∙ t.0 in
      let rest = only_edge to from c.edge mine goal cs (valid_tail c cs v) in
      let one : bit (eqb c.from from && eqb c.edge c.edge) ≡ 1 =
      rw (eq-eqb c.from from (sym t.1), eq-eqb c.edge c.edge refl) refl in
      omega (arith, t.2, o from c.edge))
      (λ (t : ((target_of graph c ≡ to) → (from ≡ c.from) → ⊥) × (goes to from c ≡ 0)). let none : goes to from c ≡ 0 =
      t.1 in omega arith)
      (one_if_both (target_of graph c) to from c.from)

  -- a counted edge is one of those that its target names
  named_once : IsJobGraph graph → (to : ℕ) (c : Counted) → c.edge < length (targets_of graph c.from)
      → weigh (λ from. goes to from c) (prerequisites_of graph to) ≡ bit (eqb (target_of graph c) to)
  named_once is_graph to c l = let n = target_names graph c.from c.edge l in ⊎_elim
      (λ (t : (target_of graph c ≡ to) × (bit (eqb (target_of graph c) to) ≡ 1)).
      let low : to < length graph = subst (λ (k : ℕ). k < length graph) t.0 n.0 in
      let some_time : 0 < times c.from (prerequisites_of graph to) =
      subst (λ (k : ℕ). 0 < times c.from (prerequisites_of graph k)) t.0 n.1 in
      rw (eq-eqb (target_of graph c) to t.0) (omega (arith, (is_graph to c.from low).1)))
      (λ (t : (target_of graph c ≢ to) × (bit (eqb (target_of graph c) to) ≡ 0)).
      rw (ne_eqb (target_of graph c) to t.0) (weigh_none (λ _. 0) (prerequisites_of graph to) (λ _. refl)))
      (one_if (target_of graph c) to)

  by_sources : IsJobGraph graph → (to : ℕ) (cs : List Counted) → Valid cs
      → weigh (λ c. weigh (λ from. goes to from c) (prerequisites_of graph to)) cs ≡ counted_to graph to cs
  by_sources is_graph to [] v = refl
  by_sources is_graph to (c ∷ cs) v = omega
      (arith, named_once is_graph to c (valid_head c cs v), by_sources is_graph to cs (valid_tail c cs v))

  -- an edge that was not counted leaves its target waiting
  pub room : IsJobGraph graph → (cs : List Counted) (from edge : ℕ) → Valid cs → EachOnce cs
      → edge < length (targets_of graph from) → count_of_edge from edge cs ≡ 0
      → let to = get_or (targets_of graph from) edge 0 in counted_to graph to cs < waiting_of graph to
  room is_graph cs from edge v o l fresh = let to : ℕ = get_or (targets_of graph from) edge 0 in
      let none : weigh (goes to from) cs ≡ 0 = omega (arith, only_edge to from edge l refl cs v) in
      let short = weigh_short (λ f. weigh (goes to f) cs) (prerequisites_of graph to) from (λ f. one_each to f cs v o)
      none (target_names graph from edge l).1 in
      omega (arith, by_sources is_graph to cs v, weigh_swap (λ f c. goes to f c) (prerequisites_of graph to) cs)

module _ (graph : List (List ℕ)) where
  pub consistent_same : (had had' met met' : List ℕ) (cs cs' : List Counted) → Same had had' → Same met met'
      → Same cs cs' → IsConsistent graph had met cs → IsConsistent graph had' met' cs'
  consistent_same had had' met met' cs cs' sh sm sc f = record {
    once = λ job. rw (sh (λ y. bit (eqb y job))) (f.once job);
    jobs = λ job. rw (sh (λ y. bit (eqb y job))) (f.jobs job);
    met_had = λ job. rw (sh (λ y. bit (eqb y job)), sm (λ y. bit (eqb y job))) (f.met_had job);
    edges = λ from edge. rw (sc (λ c. bit (eqb c.from from && eqb c.edge edge))) (f.edges from edge);
    counted_once = λ from edge. rw (sc (λ c. bit (eqb c.from from && eqb c.edge edge))) (f.counted_once from edge);
    enough = λ job. rw (sc (λ c. bit (eqb (target_of graph c) job))) (f.enough job);
    left_once = λ job number. rw (
      sc (λ c. bit (eqb (target_of graph c) job)),
      sc
          (λ c. bit (eqb (target_of graph c) job && eqb c.left number)),
    ) (f.left_once job number);
    left_within = λ job number. rw (
      sc (λ c. bit (eqb (target_of graph c) job)),
      sc
          (λ c. bit (eqb (target_of graph c) job && eqb c.left number)),
    ) (f.left_within job number);
  }

  -- a job that nobody had is had
  pub consistent_had : (had had' met met' : List ℕ) (cs cs' : List Counted) (job : ℕ) → Adds had job had'
      → Same met met' → Same cs cs' → times job had ≡ 0 → job < length graph
      → IsConsistent graph had met cs → IsConsistent graph had' met' cs'
  consistent_had had had' met met' cs cs' job ah sm sc none low f =
      let grown : (j : ℕ) → times j had' ≡ times j had + bit (eqb job j) = λ j. ah (λ y. bit (eqb y j)) in
      let g = consistent_same had had met met' cs cs' (λ _. refl) sm sc f in record {
        once = λ j. ⊎_elim (λ (t : (job ≡ j) × (bit (eqb job j) ≡ 1)). let zero_there : times j had ≡ 0 =
            subst (λ (k : ℕ). times k had ≡ 0) t.0 none in omega (arith, grown j))
            (λ t. omega (arith, grown j, g.once j)) (one_if job j);
        jobs = λ j some_time. ⊎_elim (λ t. omega arith)
            (λ (t : (job ≢ j) × (bit (eqb job j) ≡ 0)). let off : bit (eqb job j) ≡ 0 = t.1 in
            g.jobs j (omega (arith, grown j))) (one_if job j);
        met_had = λ j some_time. omega (arith, grown j, g.met_had j some_time);
        edges = g.edges;
        counted_once = g.counted_once;
        enough = g.enough;
        left_once = g.left_once;
        left_within = g.left_within;
      }

  -- a job that is had is met
  pub consistent_met : (had had' met met' : List ℕ) (cs cs' : List Counted) (job : ℕ) → Same had had'
      → Adds met job met' → Same cs cs' → 0 < times job had
      → IsConsistent graph had met cs → IsConsistent graph had' met' cs'
  consistent_met had had' met met' cs cs' job sh am sc there f =
      let grown : (j : ℕ) → times j met' ≡ times j met + bit (eqb job j) = λ j. am (λ y. bit (eqb y j)) in
      let g = consistent_same had had' met met cs cs' sh (λ _. refl) sc f in
      let there' : 0 < times job had' = rw (sh (λ y. bit (eqb y job))) there in record {
        once = g.once;
        jobs = g.jobs;
        met_had = λ j some_time. ⊎_elim (λ (t : (job ≡ j) × (bit (eqb job j) ≡ 1)). subst (λ (k : ℕ). 0 < times k had')
            t.0 there')
            (λ (t : (job ≢ j) × (bit (eqb job j) ≡ 0)). let off : bit (eqb job j) ≡ 0 = t.1 in
            g.met_had j (omega (arith, grown j))) (one_if job j);
        edges = g.edges;
        counted_once = g.counted_once;
        enough = g.enough;
        left_once = g.left_once;
        left_within = g.left_within;
      }

  -- an edge that was not counted is counted
  pub consistent_counts : (had had' met met' : List ℕ) (cs cs' : List Counted) (c : Counted) → Same had had'
      → Same met met' → Adds cs c cs'
      → c.edge < length (targets_of graph c.from) → count_of_edge c.from c.edge cs ≡ 0
      → c.left + suc (counted_to graph (target_of graph c) cs) ≡ waiting_of graph (target_of graph c)
      → IsConsistent graph had met cs → IsConsistent graph had' met' cs'
  consistent_counts had had' met met' cs cs' c sh sm ac valid fresh left f =
      let g = consistent_same had had' met met' cs cs sh sm (λ _. refl) f in
      let edge_grown : (from edge : ℕ) → count_of_edge from edge cs'
      ≡ count_of_edge from edge cs + bit (eqb c.from from && eqb c.edge edge) =
      λ from edge. ac (λ d. bit (eqb d.from from && eqb d.edge edge)) in
      let to_grown : (j : ℕ) → counted_to graph j cs' ≡ counted_to graph j cs + bit (eqb (target_of graph c) j) =
      λ j. ac (λ d. bit (eqb (target_of graph d) j)) in
      let left_grown : (j n : ℕ) → left_at graph j n cs'
      ≡ left_at graph j n cs + bit (eqb (target_of graph c) j && eqb c.left n) =
      λ j n. ac (λ d. bit (eqb (target_of graph d) j && eqb d.left n)) in record {
        once = g.once;
        jobs = g.jobs;
        met_had = g.met_had;
        edges = λ from edge some_time. ⊎_elim
            (λ (t : (c.from ≡ from) × (c.edge ≡ edge) × (bit (eqb c.from from && eqb c.edge edge) ≡ 1)). subst
            (λ (k : ℕ). edge < length (targets_of graph k)) t.0
            (subst (λ (k : ℕ). k < length (targets_of graph c.from)) t.1 valid))
            (λ (t : ((c.from ≡ from) → (c.edge ≡ edge) → ⊥) × (bit (eqb c.from from && eqb c.edge edge) ≡ 0)). let off :
            bit (eqb c.from from && eqb c.edge edge) ≡ 0 = t.1 in
            g.edges from edge (omega (arith, edge_grown from edge)))
            (one_if_both c.from from c.edge edge);
        counted_once = λ from edge. ⊎_elim
            (λ (t : (c.from ≡ from) × (c.edge ≡ edge) × (bit (eqb c.from from && eqb c.edge edge) ≡ 1)).
            let none : count_of_edge from edge cs ≡ 0 =
            subst (λ (k : ℕ). count_of_edge k edge cs ≡ 0) t.0
            (subst (λ (k : ℕ). count_of_edge c.from k cs ≡ 0) t.1 fresh) in omega (arith, edge_grown from edge))
            (λ t. omega (arith, edge_grown from edge, g.counted_once from edge))
            (one_if_both c.from from c.edge edge);
        enough = λ j. ⊎_elim
            (λ (t : (target_of graph c ≡ j) × (bit (eqb (target_of graph c) j) ≡ 1)). let here : c.left + suc
            (counted_to graph j cs) ≡ waiting_of graph j =
            subst (λ (k : ℕ). c.left + suc (counted_to graph k cs) ≡ waiting_of graph k) t.0 left in
            omega (arith, to_grown j))
            (λ t. omega (arith, to_grown j, g.enough j))
            (one_if (target_of graph c) j);
        left_once = λ j n low high. ⊎_elim
            (λ (t : (target_of graph c ≡ j) × (bit (eqb (target_of graph c) j) ≡ 1)).
            let here : c.left + suc (counted_to graph j cs) ≡ waiting_of graph j =
            subst (λ (k : ℕ). c.left + suc (counted_to graph k cs) ≡ waiting_of graph k) t.0 left in
            ⊎_elim
            (λ (u : (target_of graph c ≡ j) × (c.left ≡ n) × (bit (eqb (target_of graph c) j && eqb c.left n) ≡ 1)).
            let none : left_at graph j n cs ≡ 0 =
            ⊎_elim (λ z. z) (λ some_time. let w = g.left_within j n some_time in absurd (omega arith))
            (none_or_some (left_at graph j n cs)) in
            omega (arith, left_grown j n))
            (λ (u : ((target_of graph c ≡ j) → (c.left ≡ n) → ⊥)
            × (bit (eqb (target_of graph c) j && eqb c.left n) ≡ 0)).
            let other : c.left ≢ n = u.0 t.0 in
            let before = g.left_once j n (omega (arith, to_grown j)) high in
            omega (arith, left_grown j n))
            (one_if_both (target_of graph c) j c.left n))
            (λ (t : (target_of graph c ≢ j) × (bit (eqb (target_of graph c) j) ≡ 0)).
            let off : bit (eqb (target_of graph c) j) ≡ 0 = t.1 in
            let before = g.left_once j n (omega (arith, to_grown j)) high in
            ⊎_elim (λ (u : (target_of graph c ≡ j) × (c.left ≡ n)
            × (bit (eqb (target_of graph c) j && eqb c.left n) ≡ 1)). absurd (t.0 u.0))
            (λ u. omega (arith, left_grown j n)) (one_if_both (target_of graph c) j c.left n))
            (one_if (target_of graph c) j);
        left_within = λ j n some_time. ⊎_elim
            (λ (u : (target_of graph c ≡ j) × (c.left ≡ n) × (bit (eqb (target_of graph c) j && eqb c.left n) ≡ 1)).
            let here : c.left + suc (counted_to graph j cs) ≡ waiting_of graph j =
            subst (λ (k : ℕ). c.left + suc (counted_to graph k cs) ≡ waiting_of graph k) u.0 left in
            let one : bit (eqb (target_of graph c) j) ≡ 1 = rw (eq-eqb (target_of graph c) j u.0) refl in
            let same : c.left ≡ n = u.1 in
            (omega (arith, to_grown j), omega arith))
            (λ (u : ((target_of graph c ≡ j) → (c.left ≡ n) → ⊥)
            × (bit (eqb (target_of graph c) j && eqb c.left n) ≡ 0)).
            let off : bit (eqb (target_of graph c) j && eqb c.left n) ≡ 0 = u.1 in
            let before = g.left_within j n (omega (arith, left_grown j n)) in
            (omega (arith, to_grown j), before.1))
            (one_if_both (target_of graph c) j c.left n);
      }
