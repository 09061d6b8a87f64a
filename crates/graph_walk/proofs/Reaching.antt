-- Marks on the nodes to which one leads.
use Rattle.std.proofs.Common.{◌≡◌, ◌<◌, ℕ, Bool, true, false, not, ◌&&◌, ◌||◌, ◌==◌, eqb-true, List, [], ◌∷◌, ◌++◌, length, take, drop, get_or, replicate, All, refl, sym, ap, subst, ◌∙◌, inl, inr, arith, ◌⊎◌}
use Rattle.std.proofs.lemmas.Bool.{cases_Bool, or_cases, or_left, or_right, and_parts, and_from, not_from_false, false≢true}
use Rattle.std.proofs.lemmas.List.{drop_all, take_all, append-nil}
use Rattle.graph_walk.specs.Links.{has, flag, targets, AreNodes, Leads, Pair, Longer}
use Rattle.graph_walk.specs.Marks.{Marks}
use Rattle.graph_walk.specs.Cycles.{IsClosed}
use Rattle.graph_walk.proofs.Marking.{has-append, has_itself, flag_fresh, marked_within}

-- what holds while nodes to be done are left
pub record Reaches (links : List (List ℕ)) (from : ℕ) (old flags : List Bool) (todo : List ℕ) : Type 0 where
  pub same : length flags ≡ length links
  pub kept : (k : ℕ) → flag old k ≡ true → flag flags k ≡ true
  pub sound : (k : ℕ) → flag flags k ≡ true → (flag old k ≡ true) ⊎ Leads links from k
  pub waiting : (k : ℕ) → has todo k ≡ true → flag flags k ≡ true
  pub led : (k : ℕ) → has todo k ≡ true → Leads links from k
  pub first : (k : ℕ) → has (targets links from) k ≡ true → flag flags k ≡ true
  pub closed : (k to : ℕ) → flag flags k ≡ true → has todo k ≡ false → has (targets links k) to ≡ true
      → flag flags to ≡ true

differ : (b : Bool) → b ≡ true → b ≡ false → ⊥
differ b t f = false≢true (sym f ∙ t)

pub reaches_first : (links : List (List ℕ)) (from : ℕ) (old flags : List Bool) (todo : List ℕ)
    → length old ≡ length links → IsClosed links old → Marks (targets links from) old [] flags todo
    → Reaches links from old flags todo
reaches_first links from old flags todo e c m = record {
  same = m.same ∙ e;
  kept = kept;
  sound = λ k h. elim (or_cases (flag old k) (has (targets links from) k) (sym (m.marked k) ∙ h))
      [ inl before ↦ inl before | inr new ↦ inr (Pair k new) ];
  waiting = λ k h. m.marked k ∙ or_right (flag old k) (has (targets links from) k) (there k h);
  led = λ k h. Pair k (there k h);
  first = λ k h. m.marked k ∙ or_right (flag old k) (has (targets links from) k) h;
  closed = λ k to h not_so p. elim (cases_Bool (flag old k)) [
    | inl before ↦ kept to (c k to before p)
    | inr fresh ↦ absurd (differ (has todo k)
        (m.added k ∙ and_from (has (targets links from) k) (not (flag old k)) (new k fresh h)
        (not_from_false (flag old k) fresh)) not_so)
  ];
}
  where
    kept : (k : ℕ) → flag old k ≡ true → flag flags k ≡ true
    kept k h = m.marked k ∙ or_left (flag old k) (has (targets links from) k) h

    there : (k : ℕ) → has todo k ≡ true → has (targets links from) k ≡ true
    there k h = (and_parts (has (targets links from) k) (not (flag old k)) (sym (m.added k) ∙ h)).0

    new : (k : ℕ) → flag old k ≡ false → flag flags k ≡ true → has (targets links from) k ≡ true
    new k fresh h = sym (ap (λ b. b || has (targets links from) k) fresh) ∙ sym (m.marked k) ∙ h

-- the node that is done leads on to what is marked now
pub reaches_more : (links : List (List ℕ)) (from node : ℕ) (old flags flags' : List Bool) (todo rest todo' : List ℕ)
    → todo ≡ rest ++ node ∷ [] → Reaches links from old flags todo → Marks (targets links node) flags rest flags' todo'
    → Reaches links from old flags' todo'
reaches_more links from node old flags flags' todo rest todo' e r m = record {
  same = m.same ∙ r.same;
  kept = λ k h. kept k (r.kept k h);
  sound = sound;
  waiting = waiting;
  led = led;
  first = λ k h. kept k (r.first k h);
  closed = closed;
}
  where
    kept : (k : ℕ) → flag flags k ≡ true → flag flags' k ≡ true
    kept k h = m.marked k ∙ or_left (flag flags k) (has (targets links node) k) h

    here : has todo node ≡ true
    here = ap (λ (xs : List ℕ). has xs node) e ∙ has-append rest (node ∷ []) node
        ∙ or_right (has rest node) (has (node ∷ []) node) (has_itself node)

    was : (k : ℕ) → has rest k ≡ true → has todo k ≡ true
    was k h = ap (λ (xs : List ℕ). has xs k) e ∙ has-append rest (node ∷ []) k
        ∙ or_left (has rest k) (has (node ∷ []) k) h

    sound : (k : ℕ) → flag flags' k ≡ true → (flag old k ≡ true) ⊎ Leads links from k
    sound k h = elim (or_cases (flag flags k) (has (targets links node) k) (sym (m.marked k) ∙ h))
        [ inl before ↦ r.sound k before | inr new ↦ inr (Longer node k (r.led node here) new) ]

    added : (k : ℕ) → has todo' k ≡ true → (has rest k ≡ true) ⊎ (has (targets links node) k ≡ true)
    added k h = elim (or_cases (has rest k) (has (targets links node) k && not (flag flags k)) (sym (m.added k) ∙ h))
        [ inl before ↦ inl before | inr new ↦ inr (and_parts (has (targets links node) k) (not (flag flags k)) new).0 ]

    waiting : (k : ℕ) → has todo' k ≡ true → flag flags' k ≡ true
    waiting k h = elim (added k h) [
      | inl before ↦ kept k (r.waiting k (was k before))
      | inr new ↦ m.marked k
          ∙ or_right (flag flags k) (has (targets links node) k) new
    ]

    led : (k : ℕ) → has todo' k ≡ true → Leads links from k
    led k h = elim (added k h) [ inl before ↦ r.led k (was k before) | inr new ↦ Longer node k (r.led node here) new ]

    not_left : (k : ℕ) → has todo' k ≡ false → has rest k ≡ true → ⊥
    not_left k not_so h = differ (has todo' k)
        (m.added k ∙ or_left (has rest k) (has (targets links node) k && not (flag flags k)) h) not_so

    is_node : (k : ℕ) → has (node ∷ []) k ≡ true → node ≡ k
    is_node k h = elim (or_cases (node == k) false h) [ inl s ↦ eqb-true node k s | inr x ↦ absurd (false≢true x) ]

    was_done : (k to : ℕ) → flag flags k ≡ true → has todo' k ≡ false → has (targets links k) to ≡ true
        → flag flags' to ≡ true
    was_done k to h not_so t = elim (cases_Bool (has todo k)) [
      | inr done ↦ kept to (r.closed k to h done t)
      | inl left ↦ elim (or_cases (has rest k) (has (node ∷ []) k)
          (sym (has-append rest (node ∷ []) k) ∙ ap (λ (xs : List ℕ). has xs k) (sym e) ∙ left)) [
            | inl old ↦ absurd (not_left k not_so old)
            | inr now ↦ m.marked to ∙ or_right (flag flags to) (has (targets links node) to)
                (ap (λ (j : ℕ). has (targets links j) to) (is_node k now) ∙ t)
          ]
    ]

    closed : (k to : ℕ) → flag flags' k ≡ true → has todo' k ≡ false → has (targets links k) to ≡ true
        → flag flags' to ≡ true
    closed k to h not_so t = elim (cases_Bool (flag flags k)) [
      | inl old ↦ was_done k to old not_so t
      | inr new ↦ absurd (differ (has todo' k)
          (m.added k ∙ or_right (has rest k) (has (targets links node) k && not (flag flags k))
          (and_from (has (targets links node) k) (not (flag flags k))
          (sym (ap (λ b. b || has (targets links node) k) new) ∙ sym (m.marked k) ∙ h)
          (not_from_false (flag flags k) new))) not_so)
    ]

reaches_all : (links : List (List ℕ)) (from : ℕ) (old flags : List Bool) → Reaches links from old flags [] → (k : ℕ)
    → Leads links from k → flag flags k ≡ true
reaches_all links from old flags r k (Pair to h) = r.first to h
reaches_all links from old flags r k (Longer middle to l h) =
    r.closed middle to (reaches_all links from old flags r middle l) refl h

pub waiting_within : (links : List (List ℕ)) (from node : ℕ) (old flags : List Bool) (todo rest : List ℕ)
    → todo ≡ rest ++ node ∷ [] → Reaches links from old flags todo → node < length links
waiting_within links from node old flags todo rest e r =
    subst (λ (n : ℕ). node < n) r.same (marked_within flags node
    (r.waiting node (ap (λ (xs : List ℕ). has xs node) e ∙ has-append rest (node ∷ []) node
    ∙ or_right (has rest node) (has (node ∷ []) node) (has_itself node))))

-- what a slice borrowed of a list gives back
pub written_back : {X : Type 0} (items borrowed : List X) (n : ℕ) → length borrowed ≡ n → length items ≡ n
    → take n (borrowed ++ drop (length borrowed) items) ≡ borrowed
written_back items borrowed n e1 e2 = ap (λ xs. take n (borrowed ++ xs))
    (drop_all (length borrowed) items (omega arith)) ∙ ap (λ xs. take n xs) (append-nil borrowed)
    ∙ take_all n borrowed (omega arith)

pub reaches_begins : (links : List (List ℕ)) (from : ℕ) (old flags : List Bool) (before todo ts : List ℕ)
    → length old ≡ length links → IsClosed links old → before ≡ [] → ts ≡ targets links from
    → Marks ts old before flags todo → Reaches links from old flags todo
reaches_begins links from old flags before todo ts e c e1 e2 m =
    reaches_first links from old flags todo e c
    (subst (λ (p : List ℕ × List ℕ). Marks p.0 old p.1 flags todo)
    (let s : (ts, before) ≡ (targets links from, []) = cc in s) m)

pub reaches_goes_on : (links : List (List ℕ)) (from node : ℕ) (old flags flags' : List Bool)
    (todo rest todo' ts : List ℕ) → todo ≡ rest ++ node ∷ [] → ts ≡ targets links node
    → Reaches links from old flags todo → Marks ts flags rest flags' todo' → Reaches links from old flags' todo'
reaches_goes_on links from node old flags flags' todo rest todo' ts e1 e2 r m =
    reaches_more links from node old flags flags' todo rest todo' e1 r
    (subst (λ (xs : List ℕ). Marks xs flags rest flags' todo') e2 m)

pub reaches_ends : (links : List (List ℕ)) (from : ℕ) (old flags : List Bool) (todo : List ℕ) → todo ≡ []
    → Reaches links from old flags todo → (k : ℕ) → (flag flags k ≡ true → (flag old k ≡ true) ⊎ Leads links from k)
    × ((flag old k ≡ true) ⊎ Leads links from k → flag flags k ≡ true)
reaches_ends links from old flags todo e r k = (
  r.sound k,
  (λ h. elim h [
    | inl before ↦ r.kept k before
    | inr l ↦ reaches_all links from old flags
        (subst (λ (t : List ℕ). Reaches links from old flags t) e r) k l
  ]),
)

pub fresh_closed : (links : List (List ℕ)) (n : ℕ) (flags : List Bool) → flags ≡ replicate n false
    → IsClosed links flags
fresh_closed links n flags e k to h p = absurd
    (false≢true (sym (flag_fresh n k) ∙ ap (λ (fs : List Bool). flag fs k) (sym e) ∙ h))

pub from_fresh : (links : List (List ℕ)) (from n len : ℕ) (items now flags : List Bool) → items ≡ replicate n false
    → now ≡ items → length items ≡ len → length flags ≡ length now
    → ((k : ℕ) → (flag flags k ≡ true → (flag now k ≡ true) ⊎ Leads links from k)
    × ((flag now k ≡ true) ⊎ Leads links from k → flag flags k ≡ true)) →
    (k : ℕ) → (flag (take len (flags ++ drop (length flags) items)) k ≡ true → Leads links from k)
    × (Leads links from k → flag (take len (flags ++ drop (length flags) items)) k ≡ true)
from_fresh links from n len items now flags e1 e2 e3 e4 h k =
    subst (λ (fs : List Bool). (flag fs k ≡ true → Leads links from k) × (Leads links from k → flag fs k ≡ true))
    (sym (written_back items flags len (e4 ∙ ap length e2 ∙ e3) e3)) (
      (λ s. elim ((h k).0 s) [
        | inl old ↦ absurd
            (false≢true (sym (flag_fresh n k) ∙ ap (λ (fs : List Bool). flag fs k) (sym (e2 ∙ e1)) ∙ old))
        | inr l ↦ l
      ]),
      (λ l. (h k).1 (inr l)),
    )

pub are_nodes : (links : List (List ℕ)) (node n : ℕ) (ts : List ℕ) → AreNodes links → node < length links
    → ts ≡ targets links node → n ≡ length links → (k d : ℕ) → k < length ts → get_or ts k d < n
are_nodes links node n ts h l e1 e2 k d g =
    let a : All (λ t. t < length links) (targets links node) = h node [] l in
    let b : All (λ t. t < length links) ts = subst (λ (xs : List ℕ). All (λ t. t < length links) xs) (sym e1) a in
    let i : get_or ts k d < length links = b k d g in
    omega (arith, i)
