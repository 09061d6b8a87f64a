-- A walk is the same where pairs are left out that go to nodes which were entered before.
use Rattle.std.proofs.Common.{◌≡◌, ℕ, Bool, true, false, ◌||◌, ◌==◌, List, [], ◌∷◌, ◌++◌, map, refl, sym, ap, ap₂, subst, ◌∙◌, inl, inr, eq-eqb, ◌⊎◌}
use Rattle.std.proofs.lemmas.Bool.{false≢true, cases_Bool, eqb-true, or_cases, or_left, or_right, ne_eqb}
use Rattle.graph_walk.specs.Links.{has, targets}
use Rattle.graph_walk.specs.Starts.{Walked, One, Each, Walks, Again, Enters, Nothing, Then}
use Rattle.law_graph.proofs.StartWalking.{closes, IsWalked}

-- The second list is the first one without some of those that were seen, or came before in it.
abbrev pub Thins : (seen : List ℕ) → List ℕ → List ℕ → Type 0
Thins seen [] ts = ts ≡ []
Thins seen (r ∷ rs) ts = ((has seen r ≡ true) × Thins seen rs ts)
    ⊎ ((us : List ℕ) × (ts ≡ r ∷ us) × Thins (r ∷ seen) rs us)

-- all of them are
abbrev pub AreAll : (ℕ → Type 0) → List ℕ → Type 0
AreAll P ks = (k : ℕ) → has ks k ≡ true → P k

abbrev pub AreIn : List ℕ → List ℕ → Type 0
AreIn xs ys = (k : ℕ) → has xs k ≡ true → has ys k ≡ true

pub map_append : (f : ℕ → ℕ) (xs ys : List ℕ) → map f (xs ++ ys) ≡ map f xs ++ map f ys
map_append f [] ys = refl
map_append f (x ∷ xs) ys = ap (λ (zs : List ℕ). f x ∷ zs) (map_append f xs ys)

-- ---- walks of what is thinned

module _ (links : List (List ℕ)) where
  -- nothing new is left
  walks_none : (rs seen entered : List ℕ) → Thins seen rs [] → AreIn seen entered
      → Walks links (Each rs) entered [] entered
  walks_none [] seen entered t i = Nothing entered
  walks_none (r ∷ rs) seen entered t i = elim t [
    | inl old ↦ Then r rs entered [] entered [] entered (Again r entered (i r old.0))
        (walks_none rs seen entered old.1 i)
    | inr new ↦ absurd (let e : [] ≡ r ∷ new.0 = new.1 in cc)
  ]

  -- what is walked behind the first that is new
  abbrev Behind : (ts between rest later : List ℕ) → Type 0
  Behind ts between rest later = (rs seen : List ℕ) → Thins seen rs ts → AreIn seen between
      → Walks links (Each rs) between rest later

  grown : (t : ℕ) (seen entered first between : List ℕ) → AreIn seen entered → Walks links (One t) entered first between
      → AreIn (t ∷ seen) between
  grown t seen entered first between i one k h =
      let c = closes links (One t) entered first between one in
      elim (or_cases (t == k) (has seen k) h) [ inl e ↦ c.reaches k (eqb-true t k e) | inr old ↦ c.kept k (i k old) ]

  walks_some : (t : ℕ) (ts entered first between rest later : List ℕ) → Walks links (One t) entered first between
      → Behind ts between rest later → Behind (t ∷ ts) entered (first ++ rest) later
  walks_some t ts entered first between rest later one behind [] seen thin i = absurd (let e : t ∷ ts ≡ [] = thin in cc)
  walks_some t ts entered first between rest later one behind (r ∷ rs) seen thin i = elim thin [
    | inl old ↦ Then r rs entered [] entered (first ++ rest) later (Again r entered (i r old.0))
        (walks_some t ts entered first between rest later one behind rs seen old.1 i)
    | inr new ↦ (
        let s : t ≡ r = same_first new.0 r new.1 in
        let u : ts ≡ new.0 = same_rest new.0 r new.1 in
        let w : Walks links (One r) entered first between =
        subst (λ (n : ℕ). Walks links (One n) entered first between) s one in
        let more : Thins (r ∷ seen) rs ts = subst (λ (us : List ℕ). Thins (r ∷ seen) rs us) (sym u) new.2 in
        Then r rs entered first between rest later w
        (behind rs (r ∷ seen) more (grown r seen entered first between i w)))
  ]
    where
      same_first : (us : List ℕ) (r : ℕ) → t ∷ ts ≡ r ∷ us → t ≡ r
      same_first us r e = cc

      same_rest : (us : List ℕ) (r : ℕ) → t ∷ ts ≡ r ∷ us → ts ≡ us
      same_rest us r e = cc

-- ---- walks of two graphs

-- Good nodes of the first graph have images in the second, no two the same one. Pairs go from a node to good nodes, and
-- from its image to
-- their images, but that an image which came before may stand there again.
pub record Matching (links others : List (List ℕ)) (Good : ℕ → Type 0) (image : ℕ → ℕ) : Type 0 where
  pub apart : (j k : ℕ) → Good j → Good k → image j ≡ image k → j ≡ k
  pub closed : (j : ℕ) → AreAll Good (targets links j)
  pub thins : (j : ℕ) → Good j → Thins [] (targets others (image j)) (map image (targets links j))

module _ (links others : List (List ℕ)) (Good : ℕ → Type 0) (image : ℕ → ℕ) (s : Matching links others Good image) where
  entered_same : (entered : List ℕ) (k : ℕ) → AreAll Good entered → Good k
      → has (map image entered) (image k) ≡ has entered k
  entered_same [] k all g = refl
  entered_same (x ∷ xs) k all g = ap₂ (λ (b c : Bool). b || c)
      (elim (cases_Bool (x == k)) [ inl e ↦ same e | inr e ↦ other e ])
      (entered_same xs k (λ j h. all j (or_right (x == j) (has xs j) h)) g)
    where
      same : (x == k) ≡ true → (image x == image k) ≡ (x == k)
      same e = eq-eqb (image x) (image k) (ap image (eqb-true x k e)) ∙ sym e

      other : (x == k) ≡ false → (image x == image k) ≡ (x == k)
      other e = ne_eqb (image x) (image k) (λ q. false≢true
          (sym e ∙ eq-eqb x k (s.apart x k (all x (or_left (x == x) (has xs x) (eq-eqb x x refl))) g q))) ∙ sym e

  -- what is walked is good
  abbrev AreGood : Walked → Type 0
  AreGood (One node) = Good node
  AreGood (Each nodes) = AreAll Good nodes

  -- the same walk in the second graph
  abbrev Follows : Walked → (entered started later : List ℕ) → Type 0
  Follows (One node) entered started later =
      Walks others (One (image node)) (map image entered) (map image started) (map image later)
  Follows (Each nodes) entered started later =
      Behind others (map image nodes) (map image entered) (map image started) (map image later)

  stays : (j : ℕ) (entered : List ℕ) → Good j → AreAll Good entered → AreAll Good (j ∷ entered)
  stays j entered g all k h = elim (or_cases (j == k) (has entered k) h)
      [ inl e ↦ subst Good (eqb-true j k e) g | inr old ↦ all k old ]

  -- what was started is good
  pub are_good : (w : Walked) (entered started later : List ℕ) → Walks links w entered started later → AreGood w
      → AreAll Good started
  are_good w entered started later walk good k h = elim ((closes links w entered started later walk).origin k h) [
    | inl e ↦ walked w k good e
    | inr from ↦ s.closed from.0 k from.1
  ]
    where
      walked : (w : Walked) (k : ℕ) → AreGood w → IsWalked w k → Good k
      walked (One node) k g e = subst Good e g
      walked (Each nodes) k g h = g k h

  -- what has then been entered is good
  later_good : (w : Walked) (entered started later : List ℕ) → Walks links w entered started later → AreGood w
      → AreAll Good entered → AreAll Good later
  later_good w entered started later walk good all k h = elim ((closes links w entered started later walk).new k h) [
    | inl old ↦ all k old
    | inr new ↦ are_good w entered started later walk good k new
  ]

  -- A walk of good nodes is, in the second graph, the walk of their images.
  pub follows : (w : Walked) (entered started later : List ℕ) → Walks links w entered started later → AreGood w
      → AreAll Good entered → Follows w entered started later
  follows w e first l (Again node entered h) good all =
      Again (image node) (map image entered) (entered_same entered node all good ∙ h)
  follows w e first l (Enters node entered started later h walk) good all =
      let inner = follows (Each (targets links node)) (node ∷ entered) started later walk (s.closed node)
      (stays node entered good all) in
      let each = inner (targets others (image node)) [] (s.thins node good) (λ k n. absurd (false≢true n)) in
      subst (λ (order : List ℕ). Walks others (One (image node)) (map image entered) order (map image later))
      (sym (map_append image started (node ∷ [])))
      (Enters (image node) (map image entered) (map image started) (map image later)
      (entered_same entered node all good ∙ h) each)
  follows w e first l (Nothing entered) good all =
      λ rs seen thin within. walks_none others rs seen (map image entered) thin within
  follows w e first l (Then node nodes entered begun between rest later one more) good all =
      let mine : Good node = good node (or_left (node == node) (has nodes node) (eq-eqb node node refl)) in
      let a = follows (One node) entered begun between one mine all in
      let b = follows (Each nodes) between rest later more (λ k h. good k (or_right (node == k) (has nodes k) h))
      (later_good (One node) entered begun between one mine all) in
      subst (λ (order : List ℕ). Behind others (map image (node ∷ nodes)) (map image entered) order (map image later))
      (sym (map_append image begun rest))
      (walks_some others (image node) (map image nodes) (map image entered) (map image begun) (map image between)
      (map image rest) (map image later) a b)
