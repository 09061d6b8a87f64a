-- Whether a chain of pairs leads from one node to another is decided.
use Rattle.std.proofs.Common.{◌≡◌, ℕ, true, ◌==◌, List, [], ◌∷◌, ◌++◌, refl, sym, ap, ◌∙◌, inl, inr, eq-eqb, ◌⊎◌}
use Rattle.std.proofs.lemmas.Bool.{cases_Bool, false≢true, or_left, or_right}
use Rattle.graph_walk.specs.Links.{has, targets, Leads, Pair, Longer}
use Rattle.graph_walk.specs.Starts.{Walked, One, Each, Walks, Again, Enters, Nothing, Then}
use Rattle.graph_walk.proofs.Chains.{pair_first}
use Rattle.graph_walk.proofs.Finishing.{has_either}
use Rattle.law_graph.proofs.Lists.{has_among, among_cases}
use Rattle.law_graph.proofs.StartWalking.{Closes, closes}
use Rattle.law_graph.proofs.Entering.{Walk, walk_each}

-- the node is another, or a chain leads to it from the other
abbrev ComesFrom : List (List ℕ) → ℕ → ℕ → Type 0
ComesFrom links from k = (from ≡ k) ⊎ Leads links from k

-- the same of what is walked
abbrev Comes : List (List ℕ) → Walked → ℕ → Type 0
Comes links (One node) k = ComesFrom links node k
Comes links (Each nodes) k = (from : ℕ) × (has nodes from ≡ true) × ComesFrom links from k

abbrev AllCome : List (List ℕ) → Walked → List ℕ → Type 0
AllCome links w started = (k : ℕ) → has started k ≡ true → Comes links w k

is_one : (node k : ℕ) → has (node ∷ []) k ≡ true → node ≡ k
is_one node k h = elim (among_cases node [] k (has_among (node ∷ []) k h))
    [ inl e ↦ e | inr none ↦ absurd (let e = none.1 in cc) ]

pairs_come : (links : List (List ℕ)) (node k : ℕ) → Comes links (Each (targets links node)) k → Leads links node k
pairs_come links node k (from, pair, inl e) = Pair k (ap (has (targets links node)) (sym e) ∙ pair)
pairs_come links node k (from, pair, inr l) = pair_first links node from k pair l

entered_come : (links : List (List ℕ)) (node : ℕ) (started : List ℕ) → AllCome links (Each (targets links node)) started
    → AllCome links (One node) (started ++ node ∷ [])
entered_come links node started more k h =
    elim (has_either started (node ∷ []) k h)
    [ inl s ↦ inr (pairs_come links node k (more k s)) | inr last ↦ inl (is_one node k last) ]

both_come : (links : List (List ℕ)) (node : ℕ) (nodes first rest : List ℕ) → AllCome links (One node) first
    → AllCome links (Each nodes) rest → AllCome links (Each (node ∷ nodes)) (first ++ rest)
both_come links node nodes first rest a b k h = elim (has_either first rest k h) [
  | inl s ↦ (node, or_left (node == node) (has nodes node) (eq-eqb node node refl), a k s)
  | inr s ↦ (let r = b k s in (r.0, or_right (node == r.0) (has nodes r.0) r.1, r.2))
]

none_come : (links : List (List ℕ)) (w : Walked) → AllCome links w []
none_come links w k h = absurd (false≢true h)

-- what a walk starts is walked, or a chain leads to it
all_come : (links : List (List ℕ)) (w : Walked) (e s l : List ℕ) → Walks links w e s l → AllCome links w s
all_come links w e s l (Again node entered h) = none_come links (One node)
all_come links w e s l (Enters node entered started later h walk) =
    entered_come links node started (all_come links (Each (targets links node)) (node ∷ entered) started later walk)
all_come links w e s l (Nothing entered) = none_come links (Each [])
all_come links w e s l (Then node nodes entered first between rest later one more) =
    both_come links node nodes first rest (all_come links (One node) entered first between one)
    (all_come links (Each nodes) between rest later more)

module _ (links : List (List ℕ)) (from : ℕ) where
  walk : Walk links (Each (targets links from)) []
  walk = walk_each links (targets links from) []

  facts : Closes links (Each (targets links from)) [] walk.started walk.later
  facts = closes links (Each (targets links from)) [] walk.started walk.later walk.is

  starts_too : (k : ℕ) → has walk.later k ≡ true → has walk.started k ≡ true
  starts_too k h = elim (facts.new k h) [ inl none ↦ absurd (false≢true none) | inr s ↦ s ]

  start_all : (k : ℕ) → Leads links from k → has walk.started k ≡ true
  start_all k (Pair to h) = starts_too to (facts.reaches to h)
  start_all k (Longer middle to l h) = starts_too to (facts.closed middle to (start_all middle l) h)

  pub leads_or_not : (to : ℕ) → Leads links from to ⊎ (Leads links from to → ⊥)
  leads_or_not to = elim (cases_Bool (has walk.started to)) [
    | inl s ↦ inl (pairs_come links from to
        (all_come links (Each (targets links from)) [] walk.started walk.later walk.is to s))
    | inr never ↦ inr (λ l. false≢true (sym never ∙ start_all to l))
  ]
