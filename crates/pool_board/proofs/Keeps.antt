-- Each step on the board keeps its rule.
use Rattle.std.proofs.Common.{◌≡◌, ℕ, eqb, ◌&&◌, subst, eq-eqb, ne_eqb, zero, suc, ◌+◌, ◌-◌, ◌%◌, ◌^◌, ◌<◌, ◌≤◌, ◌≢◌, List, [], ◌∷◌, ◌++◌, length, get_or, set, sym, refl, ap, ◌∙◌, ⊎_elim, arith, length-set, get_or-set_other, get_or-set_same}
use mathlib.Core.Option.{some, none, some-injective, some-ne-none}
use lib.ListN.{get_elem?}
use Rattle.atomic_table.specs.Table.{State, Me, step, keeps, Allows, Enters, Splits, Joins, opening, Seen}
use Rattle.atomic_table.proofs.Lists.{at_set, at_snoc}
use Rattle.pool_board.specs.declared.rule.Counted.{Counted}
use Rattle.pool_board.specs.declared.rule.Record.{Record}
use Rattle.pool_board.specs.Lists.{weigh, times, together}
use Rattle.pool_board.specs.Graph.{IsJobGraph, targets_of, waiting_of}
use Rattle.pool_board.specs.Rule.{count_of_edge, target_of, counted_to, IsConsistent, IsKept, IsFresh, blank, had_of, met_of, counts_of}
use Rattle.pool_board.specs.Steps.{Claims, CountsDown, with_had, with_met, with_count, count_of, less_one, join_records}
use Rattle.pool_board.proofs.Weights.{Same, Adds, weigh-push, weigh-append, set_same, set_adds, snoc_same, weigh_set, weigh_at, together_set, own_part}
use Rattle.pool_board.proofs.Consistent.{bit, one_if, one_if_both, none_or_some, consistent_same, consistent_had, consistent_met, consistent_counts, room}

-- a fact of each seat, after one of them changed
each_seat : (P : Record → Type 0) (views : List Record) (id : ℕ) (w : Record) → P w
    → ((k : ℕ) (v : Record) → get_elem? views k ≡ some v → P v)
    → (k : ℕ) (v : Record) → get_elem? (set views id w) k ≡ some v → P v
each_seat P views id w mine others k v at =
    ⊎_elim (λ (t : (k ≡ id) × (w ≡ v)). subst P t.1 mine)
    (λ (t : (k ≢ id) × (get_elem? views k ≡ some v)). others k v t.1) (at_set views id k w v at)

abbrev Spent : Record → Type 0
Spent v = v.share ≡ 0 → v ≡ blank 0

abbrev Sourced : Record → Type 0
Sourced v = (from edge : ℕ) → 0 < count_of_edge from edge v.counts → 0 < times from v.had

module _ (S : Type 0) (graph : List (List ℕ)) (workers : ℕ) where
  abbrev Kept : State S Record → Type 0
  Kept = IsKept {S = S} graph workers

  same_share : (s : State S Record) → Kept s → (id : ℕ) (v w : Record) → get_elem? s.views id ≡ some v
      → w.share ≡ v.share → weigh (λ (u : Record). u.share) (set s.views id w) ≡ workers
  same_share s k id v w at same = omega (arith, weigh_set (λ (u : Record). u.share) s.views id v w at, k.shares)

  -- what a claim changes in the words, where the word becomes 1
  pub claims : (slots id job : ℕ) (me : Me S Record) → job < length graph → 0 < me.0.share
      → Allows Kept slots id me job (λ _. 1) (Claims (step slots job 1 0 none) me)
  claims slots id job me low mine s k _ at _ = ⊎_elim
      (λ (t : get_or s.words job 0 ≡ 0).
      let w : Record = with_had me.0 job in
      let views' : List Record = set s.views id w in
      let none_had : times job (together had_of s.views) ≡ 0 = sym (k.claimed job low) ∙ t in
      let adds : Adds (together had_of s.views) job (together had_of views') =
      set_adds had_of s.views id me.0 w job at refl in
      let same_met : Same (together met_of s.views) (together met_of views') =
      set_same met_of s.views id me.0 w at refl in
      let same_counts : Same (together counts_of s.views) (together counts_of views') =
      set_same counts_of s.views id me.0 w at refl in
      let not_mine : times job me.0.had ≡ 0 =
      omega (arith, own_part had_of s.views id me.0 at (λ y. bit (eqb y job))) in (
        w,
        keeps,
        tt,
        record {
          words = length-set s.words job 1 ∙ k.words;
          shares = same_share s k id me.0 w at refl;
          spent = each_seat Spent s.views id w (λ z. absurd (omega arith)) k.spent;
          claimed = λ j l. ⊎_elim
              (λ (u : (job ≡ j) × (bit (eqb job j) ≡ 1)). subst
              (λ (x : ℕ). get_or (set s.words job 1) x 0 ≡ times x (together had_of views')) u.0
              (let now = get_or-set_same s.words job 1 0 (omega (arith, k.words)) in
              let one : bit (eqb job job) ≡ 1 = rw (eq-eqb job job refl) refl in
              omega (arith, adds (λ y. bit (eqb y job)))))
              (λ (u : (job ≢ j) × (bit (eqb job j) ≡ 0)). let off : bit (eqb job j) ≡ 0 = u.1 in
              let other : j ≢ job = λ e. u.0 (sym e) in
              let stays = get_or-set_other s.words job j 1 0 other in
              omega (arith, adds (λ y. bit (eqb y j)), k.claimed j l))
              (one_if job j);
          waits = λ j l. let other : length graph + j ≢ job = λ e. absurd (omega arith) in
              let stays = get_or-set_other s.words job (length graph + j) 1 0 other in
              omega (arith, same_counts (λ c. bit (eqb (target_of graph c) j)), k.waits j l);
          sources = each_seat Sourced s.views id w
              (λ from edge some_time. let before = k.sources id me.0 at from edge some_time in
              omega (arith, weigh-push (λ y. bit (eqb y from)) me.0.had job)) k.sources;
          consistent = consistent_had graph _ _ _ _ _ _ job adds same_met same_counts none_had low k.consistent;
        },
        (refl, rw (eq-eqb (get_or s.words job 0) 0 t) (refl, not_mine)),
      ))
      (λ (t : 0 < get_or s.words job 0).
      let w : Record = with_met me.0 job in
      let views' : List Record = set s.views id w in
      let there : 0 < times job (together had_of s.views) = omega (arith, k.claimed job low) in
      let adds : Adds (together met_of s.views) job (together met_of views') =
      set_adds met_of s.views id me.0 w job at refl in
      let same_had : Same (together had_of s.views) (together had_of views') =
      set_same had_of s.views id me.0 w at refl in
      let same_counts : Same (together counts_of s.views) (together counts_of views') =
      set_same counts_of s.views id me.0 w at refl in
      let not_none : get_or s.words job 0 ≢ 0 = λ e. absurd (omega arith) in (
        w,
        keeps,
        tt,
        record {
          words = length-set s.words job 1 ∙ k.words;
          shares = same_share s k id me.0 w at refl;
          spent = each_seat Spent s.views id w (λ z. absurd (omega arith)) k.spent;
          claimed = λ j l. ⊎_elim
              (λ (u : (job ≡ j) × (bit (eqb job j) ≡ 1)). subst
              (λ (x : ℕ). get_or (set s.words job 1) x 0 ≡ times x (together had_of views')) u.0
              (let now = get_or-set_same s.words job 1 0 (omega (arith, k.words)) in
              omega (arith, same_had (λ y. bit (eqb y job)), k.claimed job low, k.consistent.once job)))
              (λ (u : (job ≢ j) × (bit (eqb job j) ≡ 0)). let other : j ≢ job = λ e. u.0 (sym e) in
              let stays = get_or-set_other s.words job j 1 0 other in
              omega (arith, same_had (λ y. bit (eqb y j)), k.claimed j l))
              (one_if job j);
          waits = λ j l. let other : length graph + j ≢ job = λ e. absurd (omega arith) in
              let stays = get_or-set_other s.words job (length graph + j) 1 0 other in
              omega (arith, same_counts (λ c. bit (eqb (target_of graph c) j)), k.waits j l);
          sources = each_seat Sourced s.views id w (k.sources id me.0 at) k.sources;
          consistent = consistent_met graph _ _ _ _ _ _ job same_had adds same_counts there k.consistent;
        },
        (refl, rw (ne_eqb (get_or s.words job 0) 0 not_none) refl),
      ))
      (none_or_some (get_or s.words job 0))

-- where no seat has the job `from`, none counted its edges
none_counted : (from edge : ℕ) (views : List Record) → ((k : ℕ) (u : Record) → get_elem? views k ≡ some u → Sourced u)
    → times from (together had_of views) ≡ 0
    → count_of_edge from edge (together counts_of views) ≡ 0
none_counted from edge [] sources zero_had = refl
none_counted from edge (x ∷ xs) sources zero_had =
    let parts = weigh-append (λ y. bit (eqb y from)) x.had (together had_of xs) in
    let later = none_counted from edge xs (λ k u at. sources (suc k) u at) (omega arith) in
    let here : count_of_edge from edge x.counts ≡ 0 =
    ⊎_elim (λ z. z) (λ some_time. let h = sources 0 x refl from edge some_time in absurd (omega arith))
    (none_or_some (count_of_edge from edge x.counts)) in
    omega (arith, weigh-append (λ c. bit (eqb c.from from && eqb c.edge edge)) x.counts (together counts_of xs))

-- only the seat that has the source can have counted the edge
none_elsewhere : (from edge : ℕ) (views : List Record) (id : ℕ) (v : Record) → get_elem? views id ≡ some v
    → ((k : ℕ) (u : Record) → get_elem? views k ≡ some u → Sourced u)
    → times from (together had_of views) ≤ 1 → 0 < times from v.had → count_of_edge from edge v.counts ≡ 0
    → count_of_edge from edge (together counts_of views) ≡ 0
none_elsewhere from edge [] id v at sources once mine fresh = absurd (some-ne-none v (sym at))
none_elsewhere from edge (x ∷ xs) zero v at sources once mine fresh =
    let is : x ≡ v = some-injective x v at in
    let mine' : 0 < times from x.had = subst (λ (z : Record). 0 < times from z.had) (sym is) mine in
    let fresh' : count_of_edge from edge x.counts ≡ 0 =
    subst (λ (z : Record). count_of_edge from edge z.counts ≡ 0) (sym is) fresh in
    let parts = weigh-append (λ y. bit (eqb y from)) x.had (together had_of xs) in
    let later = none_counted from edge xs (λ k u at'. sources (suc k) u at') (omega arith) in
    omega (arith, weigh-append (λ c. bit (eqb c.from from && eqb c.edge edge)) x.counts (together counts_of xs))
none_elsewhere from edge (x ∷ xs) (suc id) v at sources once mine fresh =
    let parts = weigh-append (λ y. bit (eqb y from)) x.had (together had_of xs) in
    let part = own_part had_of xs id v at (λ y. bit (eqb y from)) in
    let later = none_elsewhere from edge xs id v at (λ k u at'. sources (suc k) u at') (omega arith) mine fresh in
    let here : count_of_edge from edge x.counts ≡ 0 =
    ⊎_elim (λ z. z) (λ some_time. let h = sources 0 x refl from edge some_time in absurd (omega arith))
    (none_or_some (count_of_edge from edge x.counts)) in
    omega (arith, weigh-append (λ c. bit (eqb c.from from && eqb c.edge edge)) x.counts (together counts_of xs))

module _ (S : Type 0) (graph : List (List ℕ)) (workers : ℕ) where
  pub counts_down : IsJobGraph graph → (slots id from edge : ℕ) (me : Me S Record)
      → edge < length (targets_of graph from) → get_or (targets_of graph from) edge 0 < length graph
      → count_of_edge from edge me.0.counts ≡ 0 → 0 < times from me.0.had → 0 < me.0.share
      → let word = length graph + get_or (targets_of graph from) edge 0 in
      Allows (IsKept {S = S} graph workers) slots id me word (λ n. (n + (2 ^ 64 - 1)) % 2 ^ 64)
      (CountsDown from edge (step slots word 1 0 none) me)
  counts_down is_graph slots id from edge me valid low fresh had mine s k _ at small =
      let to : ℕ = get_or (targets_of graph from) edge 0 in
      let word : ℕ = length graph + to in
      let x : ℕ = get_or s.words word 0 in
      let left : ℕ = x - 1 in
      let new : ℕ = (x + (2 ^ 64 - 1)) % 2 ^ 64 in
      let c : Counted = count_of from edge left in
      let w : Record = with_count me.0 c in
      let views' : List Record = set s.views id w in
      let cs : List Counted = together counts_of s.views in
      let fresh' : count_of_edge from edge cs ≡ 0 =
      none_elsewhere from edge s.views id me.0 at k.sources (k.consistent.once from) had fresh in
      let more : counted_to graph to cs < waiting_of graph to =
      room graph is_graph cs from edge k.consistent.edges k.consistent.counted_once valid fresh' in
      let waits : x + counted_to graph to cs ≡ waiting_of graph to = k.waits to low in
      let some_left : 0 < x = omega arith in
      let fits : x < 18446744073709551616 = small in
      let less : (x + 18446744073709551615) % 18446744073709551616 ≡ left = omega arith in
      let found : x ≡ suc left = omega arith in
      let adds : Adds cs c (together counts_of views') = set_adds counts_of s.views id me.0 w c at refl in
      let same_had : Same (together had_of s.views) (together had_of views') =
      set_same had_of s.views id me.0 w at refl in
      let same_met : Same (together met_of s.views) (together met_of views') =
      set_same met_of s.views id me.0 w at refl in (
        w,
        keeps,
        tt,
        record {
          words = length-set s.words word new ∙ k.words;
          shares = same_share S graph workers s k id me.0 w at refl;
          spent = each_seat Spent s.views id w (λ z. absurd (omega arith)) k.spent;
          claimed = λ j l. let other : j ≢ word = λ e. absurd (omega arith) in
              let stays = get_or-set_other s.words word j new 0 other in
              omega (arith, same_had (λ y. bit (eqb y j)), k.claimed j l);
          waits = λ j l. ⊎_elim
              (λ (u : (to ≡ j) × (bit (eqb to j) ≡ 1)). subst
              (λ (i : ℕ). get_or (set s.words word new) (length graph + i) 0 + counted_to graph i
              (together counts_of views') ≡ waiting_of graph i) u.0
              (let now : get_or (set s.words word new) word 0 ≡ new =
              get_or-set_same s.words word new 0 (omega (arith, k.words)) in
              let one : bit (eqb to to) ≡ 1 = rw (eq-eqb to to refl) refl in
              let less' : new ≡ left = less in
              omega (arith, adds (λ d. bit (eqb (target_of graph d) to)))))
              (λ (u : (to ≢ j) × (bit (eqb to j) ≡ 0)). let off : bit (eqb to j) ≡ 0 = u.1 in
              let other : length graph + j ≢ word = λ e. u.0 (omega arith) in
              let stays = get_or-set_other s.words word (length graph + j) new 0 other in
              omega (arith, adds (λ d. bit (eqb (target_of graph d) j)), k.waits j l))
              (one_if to j);
          sources = each_seat Sourced s.views id w (λ f e some_time. ⊎_elim
              (λ (u : (from ≡ f) × (edge ≡ e) × (bit (eqb from f && eqb edge e) ≡ 1)). subst
              (λ (i : ℕ). 0 < times i me.0.had) u.0 had)
              (λ (u : ((from ≡ f) → (edge ≡ e) → ⊥) × (bit (eqb from f && eqb edge e) ≡ 0)). let off : bit
              (eqb from f && eqb edge e) ≡ 0 = u.1 in
              k.sources id me.0 at f e (omega (
                arith,
                weigh-push (λ d. bit (eqb d.from f && eqb d.edge e)) me.0.counts
                    c,
              )))
              (one_if_both from f edge e)) k.sources;
          consistent = consistent_counts graph _ _ _ _ _ _ c same_had same_met adds valid fresh' (omega arith)
              k.consistent;
        },
        (refl, (left, found, refl)),
      )

  -- a seat that did nothing gives a share away
  pub splits : (id share : ℕ) → Splits (IsKept {S = S} graph workers) id (blank (suc share))
      (less_one (blank (suc share))) (blank 1)
  splits id share s k at =
      let left : Record = less_one (blank (suc share)) in
      let v1 : List Record = set s.views id left in
      let same_had : Same (together had_of s.views) (together had_of (v1 ++ blank 1 ∷ [])) =
      λ h. snoc_same had_of v1 (blank 1) refl h ∙ set_same had_of s.views id (blank (suc share)) left at refl h in
      let same_met : Same (together met_of s.views) (together met_of (v1 ++ blank 1 ∷ [])) =
      λ h. snoc_same met_of v1 (blank 1) refl h ∙ set_same met_of s.views id (blank (suc share)) left at refl h in
      let same_counts : Same (together counts_of s.views) (together counts_of (v1 ++ blank 1 ∷ [])) =
      λ h. snoc_same counts_of v1 (blank 1) refl h
      ∙ set_same counts_of s.views id (blank (suc share)) left at refl h in
      let each : (P : Record → Type 0) → P left → P (blank 1)
      → ((j : ℕ) (v : Record) → get_elem? s.views j ≡ some v → P v) → (j : ℕ) (v : Record)
      → get_elem? (v1 ++ blank 1 ∷ []) j ≡ some v → P v
      = λ P a b rest j v is. ⊎_elim (λ old. each_seat P s.views id left a rest j v old)
      (λ (e : blank 1 ≡ v). subst P e b) (at_snoc v1 (blank 1) v j is) in record {
        words = k.words;
        shares = omega (
          arith,
          weigh-push (λ (v : Record). v.share) v1 (blank 1),
          weigh_set (λ (v : Record). v.share)
              s.views id (blank (suc share)) left at,
          k.shares,
        );
        spent = each Spent (λ z. ap blank z) (λ z. absurd (omega arith)) k.spent;
        claimed = λ j l. k.claimed j l ∙ sym (same_had (λ y. bit (eqb y j)));
        waits = λ j l. omega (arith, same_counts (λ c. bit (eqb (target_of graph c) j)), k.waits j l);
        sources = each Sourced (λ f e l. absurd (omega arith)) (λ f e l. absurd (omega arith)) k.sources;
        consistent = consistent_same graph _ _ _ _ _ _ same_had same_met same_counts k.consistent;
      }

  -- a list of a seat joins that of another
  join_same : {A : Type 0} (f : Record → List A) (views : List Record) (id other : ℕ) (v w both : Record)
      → get_elem? views id ≡ some v → get_elem? (set views id both) other ≡ some w
      → f both ≡ f v ++ f w → f (blank 0) ≡ []
      → Same (together f views) (together f (set (set views id both) other (blank 0)))
  join_same f views id other v w both at there is clear h =
      let a : weigh h (f both) ≡ weigh h (f v ++ f w) = ap (weigh h) is in
      let b : weigh h (f (blank 0)) ≡ 0 = ap (weigh h) clear in
      omega (
        arith,
        weigh-append h (f v) (f w),
        together_set f h views id v both at,
        together_set f h
            (set views id both) other w (blank 0) there,
      )

  pub joins : (id other : ℕ) (v w : Record)
      → Joins (IsKept {S = S} graph workers) id v other w (join_records v w) (blank 0)
  joins id other v w s k at apart there =
      let both : Record = join_records v w in
      let v1 : List Record = set s.views id both in
      let v2 : List Record = set v1 other (blank 0) in
      let same_had : Same (together had_of s.views) (together had_of v2) =
      join_same had_of s.views id other v w both at there refl refl in
      let same_met : Same (together met_of s.views) (together met_of v2) =
      join_same met_of s.views id other v w both at there refl refl in
      let same_counts : Same (together counts_of s.views) (together counts_of v2) =
      join_same counts_of s.views id other v w both at there refl refl in
      let theirs : Sourced w = ⊎_elim (λ (t : (other ≡ id) × (both ≡ w)). absurd (apart t.0))
      (λ (t : (other ≢ id) × (get_elem? s.views other ≡ some w)). k.sources other w t.1)
      (at_set s.views id other both w there) in
      let theirs_spent : Spent w = ⊎_elim (λ (t : (other ≡ id) × (both ≡ w)). absurd (apart t.0))
      (λ (t : (other ≢ id) × (get_elem? s.views other ≡ some w)). k.spent other w t.1)
      (at_set s.views id other both w there) in
      let spent_both : Spent both = λ z. (λ i. join_records (k.spent id v at (omega arith) i)
      (theirs_spent (omega arith) i)) in
      let sourced : Sourced both = λ f e some_time. let n : ℕ = count_of_edge f e v.counts in
      let m : ℕ = count_of_edge f e w.counts in
      let had_parts = weigh-append (λ y. bit (eqb y f)) v.had w.had in
      let count_parts : count_of_edge f e both.counts ≡ n + m =
      weigh-append (λ d. bit (eqb d.from f && eqb d.edge e)) v.counts w.counts in
      ⊎_elim (λ (z : n ≡ 0). let there' = theirs f e (omega arith) in omega arith)
      (λ (z : 0 < n). let here = k.sources id v at f e z in omega arith) (none_or_some n) in record {
        words = k.words;
        shares = omega (
          arith,
          weigh_set (λ (u : Record). u.share) s.views id v both at,
          weigh_set
              (λ (u : Record). u.share) v1 other w (blank 0) there,
          k.shares,
        );
        spent = each_seat Spent v1 other (blank 0) (λ _. refl) (each_seat Spent s.views id both spent_both k.spent);
        claimed = λ j l. k.claimed j l ∙ sym (same_had (λ y. bit (eqb y j)));
        waits = λ j l. omega (arith, same_counts (λ c. bit (eqb (target_of graph c) j)), k.waits j l);
        sources = each_seat Sourced v1 other (blank 0) (λ f e l. absurd (omega arith))
            (each_seat Sourced s.views id both sourced k.sources);
        consistent = consistent_same graph _ _ _ _ _ _ same_had same_met same_counts k.consistent;
      }

  -- a new seat comes, which did nothing
  pub enters : (slots word : ℕ) → Enters (IsKept {S = S} graph workers) slots word (λ found w. w ≡ blank 0)
  enters slots word s k _ _ =
      let w : Record = blank 0 in
      let v1 : List Record = s.views ++ w ∷ [] in
      let same_had : Same (together had_of s.views) (together had_of v1) = snoc_same had_of s.views w refl in
      let same_met : Same (together met_of s.views) (together met_of v1) = snoc_same met_of s.views w refl in
      let same_counts : Same (together counts_of s.views) (together counts_of v1) =
      snoc_same counts_of s.views w refl in (
        w,
        record {
          words = k.words;
          shares = omega (arith, weigh-push (λ (v : Record). v.share) s.views w, k.shares);
          spent = λ j v is. ⊎_elim (λ old. k.spent j v old) (λ (e : blank 0 ≡ v). λ _. sym e)
              (at_snoc s.views w v j is);
          claimed = λ j l. k.claimed j l ∙ sym (same_had (λ y. bit (eqb y j)));
          waits = λ j l. omega (arith, same_counts (λ c. bit (eqb (target_of graph c) j)), k.waits j l);
          sources = λ j v is. ⊎_elim (λ old. k.sources j v old)
              (λ (e : blank 0 ≡ v). subst Sourced e (λ f g l. absurd (omega arith))) (at_snoc s.views w v j is);
          consistent = consistent_same graph _ _ _ _ _ _ same_had same_met same_counts k.consistent;
        },
        refl,
      )

  pub opens : (words : List ℕ) (slots : List S) → IsFresh graph words
      → IsKept {S = S} graph workers (opening words slots (blank workers))
  opens words slots fresh = record {
    words = fresh.length_is;
    shares = omega arith;
    spent = λ j v at z. only j v at z;
    claimed = fresh.unclaimed;
    waits = λ j l. omega (arith, fresh.waiting j l);
    sources = λ j v at f e some_time. absurd (empty j v at f e some_time);
    consistent = record {
      once = λ j. omega arith;
      jobs = λ j l. absurd (omega arith);
      met_had = λ j l. absurd (omega arith);
      edges = λ f e l. absurd (omega arith);
      counted_once = λ f e. omega arith;
      enough = λ j. omega arith;
      left_once = λ j n a b. absurd (omega arith);
      left_within = λ j n l. absurd (omega arith);
    };
  } where
    first : (j : ℕ) (v : Record) → get_elem? (blank workers ∷ []) j ≡ some v → v ≡ blank workers
    first zero v at = sym (some-injective (blank workers) v at)
    first (suc j) v at = absurd (some-ne-none v (sym at))

    only : (j : ℕ) (v : Record) → get_elem? (blank workers ∷ []) j ≡ some v → v.share ≡ 0 → v ≡ blank 0
    only j v at z = let is = first j v at in is ∙ ap blank (sym (ap (λ (u : Record). u.share) is) ∙ z)

    empty : (j : ℕ) (v : Record) → get_elem? (blank workers ∷ []) j ≡ some v → (f e : ℕ)
        → 0 < count_of_edge f e v.counts → ⊥
    empty j v at f e l = let none : count_of_edge f e v.counts ≡ 0 =
        ap (λ (u : Record). count_of_edge f e u.counts) (first j v at) in omega arith

-- where the shares of a list of seats are 0, the seats did nothing
nothing : {A : Type 0} (f : Record → List A) → f (blank 0) ≡ [] → (views : List Record)
    → ((k : ℕ) (u : Record) → get_elem? views k ≡ some u → Spent u) → weigh (λ (u : Record). u.share) views ≡ 0
    → (h : A → ℕ) → weigh h (together f views) ≡ 0
nothing f clear [] spent zero_share h = refl
nothing f clear (x ∷ xs) spent zero_share h =
    let is : x ≡ blank 0 = spent 0 x refl (omega arith) in
    let here : weigh h (f x) ≡ 0 = ap (λ (u : Record). weigh h (f u)) is ∙ ap (weigh h) clear in
    omega (
      arith,
      weigh-append h (f x) (together f xs),
      nothing f clear xs (λ k u at. spent (suc k) u at) (omega arith)
          h,
    )

-- the lists of a seat with every share are those of all
alone : {A : Type 0} (f : Record → List A) → f (blank 0) ≡ [] → (views : List Record) (id : ℕ) (v : Record)
    → get_elem? views id ≡ some v
    → ((k : ℕ) (u : Record) → get_elem? views k ≡ some u → Spent u) → weigh (λ (u : Record). u.share) views ≡ v.share
    → Same (together f views) (f v)
alone f clear [] id v at spent all h = absurd (some-ne-none v (sym at))
alone f clear (x ∷ xs) zero v at spent all h =
    let is : x ≡ v = some-injective x v at in
    let share_is : x.share ≡ v.share = ap (λ (u : Record). u.share) is in
    let same : weigh h (f x) ≡ weigh h (f v) = ap (λ (u : Record). weigh h (f u)) is in
    omega (
      arith,
      weigh-append h (f x) (together f xs),
      nothing f clear xs (λ k u at'. spent (suc k) u at')
          (omega arith) h,
    )
alone f clear (x ∷ xs) (suc id) v at spent all h =
    let part = weigh_at (λ (u : Record). u.share) xs id v at in
    let is : x ≡ blank 0 = spent 0 x refl (omega arith) in
    let here : weigh h (f x) ≡ 0 = ap (λ (u : Record). weigh h (f u)) is ∙ ap (weigh h) clear in
    omega (
      arith,
      weigh-append h (f x) (together f xs),
      alone f clear xs id v at (λ k u at'. spent (suc k) u at')
          (omega arith) h,
    )

-- what a seat with every share knows
pub record IsClosed (graph : List (List ℕ)) (v : Record) (words : List ℕ) : Type 0 where
  pub consistent : IsConsistent graph v.had v.met v.counts
  pub claimed : (job : ℕ) → job < length graph → get_or words job 0 ≡ times job v.had
  pub length_is : length words ≡ suc (length graph + length graph)

pub closes : {S : Type 0} (graph : List (List ℕ)) (workers id : ℕ) (v : Record) → v.share ≡ workers
    → (s : State S Record) → Seen (IsKept {S = S} graph workers) id v s → IsClosed graph v s.words
closes graph workers id v every s seen = let k = seen.0 in
    let all = k.shares ∙ sym every in
    let same_had = alone had_of refl s.views id v seen.1 k.spent all in
    let same_met = alone met_of refl s.views id v seen.1 k.spent all in
    let same_counts = alone counts_of refl s.views id v seen.1 k.spent all in record {
      consistent = consistent_same graph _ _ _ _ _ _ same_had same_met same_counts k.consistent;
      claimed = λ j l. k.claimed j l ∙ sym (same_had (λ y. bit (eqb y j)));
      length_is = k.words;
    }
