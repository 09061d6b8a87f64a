-- Cycles, found from behind.
use Rattle.std.proofs.Common.{◌≡◌, ◌<◌, ◌≤◌, ◌↔◌, ℕ, Bool, true, false, ◌&&◌, ◌||◌, ◌==◌, List, [], ◌∷◌, ◌++◌, length, take, drop, set, replicate, refl, sym, ap, subst, ◌∙◌, inl, inr, arith, ◌⊎◌, append_assoc, append-nil, IsTrue, eq-eqb}
use Rattle.std.proofs.lemmas.Bool.{cases_Bool, false≢true, eqb-true, and_parts, and_from}
use Rattle.std.proofs.lemmas.List.{length-replicate, length-set}
use Rattle.graph_walk.specs.Links.{has, flag, Leads, Longer}
use Rattle.graph_walk.specs.Cycles.{IsClosed, IsCycleOrder, Sweeps}
use Rattle.graph_walk.proofs.Marking.{flag_fresh, flag_set, marked_within, has_itself, or_none}
use Rattle.graph_walk.proofs.Reaching.{written_back}
use Rattle.graph_walk.proofs.Chains.{or_true, leads_from}

in_left : (b c : Bool) → b ≡ true → (b || c) ≡ true
in_left true c e = refl
in_left false c e = absurd (false≢true e)

in_right : (b c : Bool) → c ≡ true → (b || c) ≡ true
in_right true c e = refl
in_right false c e = e

-- ---- one node

pub sweeps_past : (links : List (List ℕ)) (node : ℕ) (led cyclic : List Bool) → length links ≤ node
    → length led ≡ length links → length cyclic ≡ length links → Sweeps links node led cyclic led cyclic
sweeps_past links node led cyclic g e1 e2 = record {
  same_led = refl;
  same_cyclic = refl;
  marked = λ k. (
    (λ h. inl h),
    (λ s. elim s
        [ inl h ↦ h | inr l ↦ absurd (let w = leads_from links node k l in omega (arith, w)) ]),
  );
  reported = λ k. or_none (flag cyclic k) (has (node ∷ []) k && flag led k) (never k);
}
  where
    never : (k : ℕ) → (has (node ∷ []) k && flag led k) ≡ false
    never k = elim (cases_Bool (has (node ∷ []) k && flag led k)) [
      | inr f ↦ f
      | inl t ↦ absurd (let p = and_parts (has (node ∷ []) k) (flag led k) t in
          let w = marked_within led k p.1 in elim (or_true (node == k) false p.0)
          [ inl s ↦ (let q = eqb-true node k s in omega (arith, w)) | inr f ↦ false≢true f ])
    ]

only_one : (n k : ℕ) → has (n ∷ []) k ≡ true → n ≡ k
only_one n k e = elim (or_true (n == k) false e) [ inl s ↦ eqb-true n k s | inr f ↦ absurd (false≢true f) ]

reported_now : (c h l : Bool) → l ≡ true → (c || h) ≡ (c || (h && l))
reported_now c true true e = refl
reported_now c false true e = refl
reported_now c h false e = absurd (false≢true e)

reported_not : (c h l : Bool) → h ≡ false → (c || h) ≡ (c || (h && l))
reported_not c true l e = absurd (false≢true (sym e))
reported_not c false l e = refl

pub sweeps_on : (links : List (List ℕ)) (node : ℕ) (led led' cyclic cyclic' : List Bool) → node < length cyclic
    → length led' ≡ length led → ((k : ℕ) → IsTrue (flag led' k) ↔ (IsTrue (flag led k) ⊎ Leads links node k))
    → flag led' node ≡ true → cyclic' ≡ set cyclic node true → Sweeps links node led cyclic led' cyclic'
sweeps_on links node led led' cyclic cyclic' l e m is e2 = record {
  same_led = e;
  same_cyclic = ap length e2 ∙ length-set cyclic node true;
  marked = m;
  reported = λ k. ap (λ (fs : List Bool). flag fs k) e2 ∙ flag_set cyclic node k l ∙ step k;
}
  where
    step : (k : ℕ) → (flag cyclic k || has (node ∷ []) k) ≡ (flag cyclic k || (has (node ∷ []) k && flag led' k))
    step k = elim (cases_Bool (has (node ∷ []) k)) [
      | inl h ↦ reported_now (flag cyclic k) (has (node ∷ []) k) (flag led' k)
          (subst (λ (j : ℕ). flag led' j ≡ true) (only_one node k h) is)
      | inr n ↦ reported_not (flag cyclic k)
          (has (node ∷ []) k) (flag led' k) n
    ]

pub sweeps_not : (links : List (List ℕ)) (node : ℕ) (led led' cyclic : List Bool) → length led' ≡ length led
    → ((k : ℕ) → IsTrue (flag led' k) ↔ (IsTrue (flag led k) ⊎ Leads links node k)) → flag led' node ≡ false
    → Sweeps links node led cyclic led' cyclic
sweeps_not links node led led' cyclic e m is = record {
  same_led = e;
  same_cyclic = refl;
  marked = m;
  reported = λ k. or_none (flag cyclic k) (has (node ∷ []) k && flag led' k) (never k);
}
  where
    never : (k : ℕ) → (has (node ∷ []) k && flag led' k) ≡ false
    never k = elim (cases_Bool (has (node ∷ []) k && flag led' k)) [
      | inr f ↦ f
      | inl t ↦ absurd (let p = and_parts (has (node ∷ []) k) (flag led' k) t in
          false≢true (sym is ∙ subst (λ (j : ℕ). flag led' j ≡ true) (sym (only_one node k p.0)) p.1))
    ]

-- ---- one after another

-- what is known while nodes are left
pub record Swept (links : List (List ℕ)) (order rest : List ℕ) (led cyclic : List Bool) : Type 0 where
  pub done : List ℕ
  pub split : order ≡ rest ++ done
  pub same_led : length led ≡ length links
  pub same_cyclic : length cyclic ≡ length links
  pub closed : IsClosed links led
  pub marked : (k : ℕ) → IsTrue (flag led k) ↔ ((from : ℕ) × (has done from ≡ true) × Leads links from k)
  pub sound : (k : ℕ) → flag cyclic k ≡ true → Leads links k k
  pub complete : (k : ℕ) → has done k ≡ true → Leads links k k → flag cyclic k ≡ true

pub swept_none : (links : List (List ℕ)) (order : List ℕ) (n : ℕ) (led cyclic : List Bool) → led ≡ replicate n false
    → cyclic ≡ replicate n false → n ≡ length links → Swept links order order led cyclic
swept_none links order n led cyclic e1 e2 e3 = record {
  done = [];
  split = sym (append-nil order);
  same_led = ap length e1 ∙ length-replicate n false ∙ e3;
  same_cyclic = ap length e2 ∙ length-replicate n false ∙ e3;
  closed = λ k to h p. absurd (fresh led k e1 h);
  marked = λ k. ((λ h. absurd (fresh led k e1 h)), (λ s. absurd (false≢true s.1)));
  sound = λ k h. absurd (fresh cyclic k e2 h);
  complete = λ k h l. absurd (false≢true h);
}
  where
    fresh : (flags : List Bool) (k : ℕ) → flags ≡ replicate n false → flag flags k ≡ true → ⊥
    fresh flags k e h = false≢true (sym (flag_fresh n k) ∙ ap (λ (fs : List Bool). flag fs k) (sym e) ∙ h)

pub swept_more : (links : List (List ℕ)) (order left rest : List ℕ) (node : ℕ) (led cyclic led' cyclic' : List Bool)
    → IsCycleOrder links order → left ≡ rest ++ node ∷ [] → Swept links order left led cyclic
    → Sweeps links node led cyclic led' cyclic' → Swept links order rest led' cyclic'
swept_more links order left rest node led cyclic led' cyclic' o e r s = record {
  done = node ∷ r.done;
  split = split;
  same_led = s.same_led ∙ r.same_led;
  same_cyclic = s.same_cyclic ∙ r.same_cyclic;
  closed = λ k to h p. elim ((s.marked k).0 h)
      [ inl old ↦ (s.marked to).1 (inl (r.closed k to old p)) | inr l ↦ (s.marked to).1 (inr (Longer k to l p)) ];
  marked = λ k. (from_mark k, to_mark k);
  sound = sound;
  complete = complete;
}
  where
    split : order ≡ rest ++ node ∷ r.done
    split = r.split ∙ ap (λ (xs : List ℕ). xs ++ r.done) e ∙ append_assoc rest (node ∷ []) r.done

    from_mark : (k : ℕ) → flag led' k ≡ true → (from : ℕ) × (has (node ∷ r.done) from ≡ true) × Leads links from k
    from_mark k h = elim ((s.marked k).0 h) [
      | inl old ↦ (let f = (r.marked k).0 old in (f.0, in_right (node == f.0) (has r.done f.0) f.1, f.2))
      | inr l ↦
          (node, in_left (node == node) (has r.done node) (eq-eqb node node refl), l)
    ]

    to_mark : (k : ℕ) → ((from : ℕ) × (has (node ∷ r.done) from ≡ true) × Leads links from k) → flag led' k ≡ true
    to_mark k f = elim (or_true (node == f.0) (has r.done f.0) f.1) [
      | inl same ↦ (s.marked k).1 (inr (subst (λ (j : ℕ). Leads links j k) (sym (eqb-true node f.0 same)) f.2))
      | inr
          more ↦ (s.marked k).1 (inl ((r.marked k).1 (f.0, more, f.2)))
    ]

    sound : (k : ℕ) → flag cyclic' k ≡ true → Leads links k k
    sound k h = elim (or_true (flag cyclic k) (has (node ∷ []) k && flag led' k) (sym (s.reported k) ∙ h)) [
      | inl old ↦ r.sound k old
      | inr now ↦ (let p = and_parts (has (node ∷ []) k) (flag led' k) now in let same = only_one node k p.0 in
          let f = from_mark node (subst (λ (j : ℕ). flag led' j ≡ true) (sym same) p.1) in
          subst (λ (j : ℕ). Leads links j j) same (o.cycles rest r.done node f.0 split f.1 f.2))
    ]

    complete : (k : ℕ) → has (node ∷ r.done) k ≡ true → Leads links k k → flag cyclic' k ≡ true
    complete k h l = s.reported k ∙ elim (or_true (node == k) (has r.done k) h) [
      | inl same ↦ (let q = eqb-true node k same in
          in_right (flag cyclic k) (has (node ∷ []) k && flag led' k)
          (and_from (has (node ∷ []) k) (flag led' k) (subst (λ (j : ℕ). has (node ∷ []) j ≡ true) q (has_itself node))
          ((s.marked k).1 (inr (subst (λ (j : ℕ). Leads links j k) (sym q) l)))))
      | inr more ↦ in_left (flag cyclic k) (has (node ∷ []) k && flag led' k) (r.complete k more l)
    ]

pub swept_next : (links : List (List ℕ)) (order left rest : List ℕ) (node n m : ℕ)
    (led led_now led_new cyclic cyclic_now cyclic_new : List Bool) → IsCycleOrder links order → left ≡ rest ++ node ∷ []
    → led_now ≡ led → length led ≡ n → cyclic_now ≡ cyclic → length cyclic ≡ m → Swept links order left led cyclic
    → Sweeps links node led_now cyclic_now led_new cyclic_new →
    Swept links order rest (take n (led_new ++ drop (length led_new) led))
    (take m (cyclic_new ++ drop (length cyclic_new) cyclic))
swept_next links order left rest node n m led led_now led_new cyclic cyclic_now cyclic_new o e e1 e2 e3 e4 r s =
    let is : Sweeps links node led cyclic led_new cyclic_new =
    subst (λ (p : List Bool × List Bool). Sweeps links node p.0 p.1 led_new cyclic_new)
    (let q : (led_now, cyclic_now) ≡ (led, cyclic) = cc in q) s in
    subst (λ (p : List Bool × List Bool). Swept links order rest p.0 p.1)
    (let q1 = written_back led led_new n (is.same_led ∙ e2) e2 in
    let q2 = written_back cyclic cyclic_new m (is.same_cyclic ∙ e4) e4 in
    let q : (led_new, cyclic_new) ≡ (
      take n (led_new ++ drop (length led_new) led),
      take m
          (cyclic_new ++ drop (length cyclic_new) cyclic),
    ) = cc in q)
    (swept_more links order left rest node led cyclic led_new cyclic_new o e r is)

pub swept_all : (links : List (List ℕ)) (order rest : List ℕ) (led cyclic : List Bool) → IsCycleOrder links order
    → rest ≡ [] → Swept links order rest led cyclic → (k : ℕ) → k < length links
    → IsTrue (flag cyclic k) ↔ Leads links k k
swept_all links order rest led cyclic o e r k l = (
  r.sound k,
  r.complete k (ap (λ (xs : List ℕ). has xs k) (sym (r.split ∙ ap (λ (xs : List ℕ). xs ++ r.done) e))
      ∙ o.whole k l),
)

-- ---- the first that is marked

pub none_marked : (links : List (List ℕ)) (flags : List Bool) (n : ℕ) → n ≡ length links
    → ((k : ℕ) → k < length links → IsTrue (flag flags k) ↔ Leads links k k) → ((k : ℕ) → k < n → flag flags k ≡ false)
    → (k : ℕ) → k < length links → Leads links k k → ⊥
none_marked links flags n e h none k l c = false≢true (sym (none k (omega arith)) ∙ (h k l).1 c)

pub one_marked : (links : List (List ℕ)) (flags : List Bool) (node : ℕ) → node < length links
    → ((k : ℕ) → k < length links → IsTrue (flag flags k) ↔ Leads links k k)
    → ((k : ℕ) → k < node → flag flags k ≡ false) → flag flags node ≡ true → (node < length links)
    × Leads links node node × ((k : ℕ) → k < node → Leads links k k → ⊥)
one_marked links flags node l h none is =
    (l, (h node l).0 is, (λ k m c. false≢true (sym (none k m) ∙ (h k (omega arith)).1 c)))
