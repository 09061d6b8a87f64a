-- A walk starts one list of nodes and no other.
use Rattle.std.proofs.Common.{◌≡◌, ℕ, true, false, List, [], ◌∷◌, ◌++◌, refl, sym, ap, ap₂, subst, ◌∙◌, inl, inr, ◌⊎◌}
use Rattle.std.proofs.lemmas.Bool.{false≢true}
use Rattle.graph_walk.specs.Links.{has, targets}
use Rattle.graph_walk.specs.Starts.{Walked, One, Each, Walks, Again, Enters, Nothing, Then, IsStartOrder}

-- a walk of a node that is not entered yet
record Entered (imports : List (List ℕ)) (node : ℕ) (entered started later : List ℕ) : Type 0 where
  pub fresh : has entered node ≡ false
  pub first : List ℕ
  pub walk : Walks imports (Each (targets imports node)) (node ∷ entered) first later
  pub is : started ≡ first ++ node ∷ []

-- a walk of several nodes
record Both (imports : List (List ℕ)) (node : ℕ) (nodes entered started later : List ℕ) : Type 0 where
  pub first : List ℕ
  pub between : List ℕ
  pub rest : List ℕ
  pub one : Walks imports (One node) entered first between
  pub more : Walks imports (Each nodes) between rest later
  pub is : started ≡ first ++ rest

-- what a walk is made of
abbrev Parts : List (List ℕ) → Walked → List ℕ → List ℕ → List ℕ → Type 0
Parts imports (One node) entered started later = ((has entered node ≡ true) × (started ≡ []) × (later ≡ entered))
    ⊎ Entered imports node entered started later
Parts imports (Each []) entered started later = (started ≡ []) × (later ≡ entered)
Parts imports (Each (node ∷ nodes)) entered started later = Both imports node nodes entered started later

parts : (imports : List (List ℕ)) (w : Walked) (e s l : List ℕ) → Walks imports w e s l → Parts imports w e s l
parts imports w e s l (Again node entered h) = inl (h, refl, refl)
parts imports w e s l (Enters node entered started later h walk) =
    inr (record { fresh = h; first = started; walk = walk; is = refl })
parts imports w e s l (Nothing entered) = (refl, refl)
parts imports w e s l (Then node nodes entered first between rest later one more) =
    record { first = first; between = between; rest = rest; one = one; more = more; is = refl }

-- from the nodes already entered, another walk of the same starts the same, and has then entered the same
abbrev pub IsOnly : List (List ℕ) → Walked → List ℕ → List ℕ → List ℕ → Type 0
IsOnly imports w entered started later = (s l : List ℕ) → Walks imports w entered s l → (started ≡ s) × (later ≡ l)

only_again : (imports : List (List ℕ)) (node : ℕ) (entered : List ℕ) → has entered node ≡ true
    → IsOnly imports (One node) entered [] entered
only_again imports node entered h s l walk = elim (parts imports (One node) entered s l walk) [
  | inl p ↦ (sym p.1, sym p.2)
  | inr p ↦ absurd (false≢true (sym p.fresh ∙ h))
]

only_enters : (imports : List (List ℕ)) (node : ℕ) (entered started later : List ℕ) → has entered node ≡ false
    → IsOnly imports (Each (targets imports node)) (node ∷ entered) started later
    → IsOnly imports (One node) entered (started ++ node ∷ []) later
only_enters imports node entered started later h only s l walk = elim (parts imports (One node) entered s l walk) [
  | inl p ↦ absurd (false≢true (sym h ∙ p.0))
  | inr p ↦ (let r = only p.first l p.walk in (ap (λ (xs : List ℕ). xs ++ node ∷ []) r.0 ∙ sym p.is, r.1))
]

only_nothing : (imports : List (List ℕ)) (entered : List ℕ) → IsOnly imports (Each []) entered [] entered
only_nothing imports entered s l walk = let p = parts imports (Each []) entered s l walk in (sym p.0, sym p.1)

only_then : (imports : List (List ℕ)) (node : ℕ) (nodes entered first between rest later : List ℕ)
    → IsOnly imports (One node) entered first between → IsOnly imports (Each nodes) between rest later
    → IsOnly imports (Each (node ∷ nodes)) entered (first ++ rest) later
only_then imports node nodes entered first between rest later one more s l walk =
    let p : Both imports node nodes entered s l = parts imports (Each (node ∷ nodes)) entered s l walk in
    let a = one p.first p.between p.one in
    let b = more p.rest l (subst (λ (e : List ℕ). Walks imports (Each nodes) e p.rest l) (sym a.1) p.more) in
    (ap₂ (λ (xs ys : List ℕ). xs ++ ys) a.0 b.0 ∙ sym p.is, b.1)

-- A walk is determined by what is walked and by the nodes already entered.
pub one_walk : (imports : List (List ℕ)) (w : Walked) (e s l : List ℕ) → Walks imports w e s l → IsOnly imports w e s l
one_walk imports w e s l (Again node entered h) = only_again imports node entered h
one_walk imports w e s l (Enters node entered started later h walk) =
    only_enters imports node entered started later h
    (one_walk imports (Each (targets imports node)) (node ∷ entered) started later walk)
one_walk imports w e s l (Nothing entered) = only_nothing imports entered
one_walk imports w e s l (Then node nodes entered first between rest later one more) =
    only_then imports node nodes entered first between rest later
    (one_walk imports (One node) entered first between one) (one_walk imports (Each nodes) between rest later more)

-- The order in which the nodes start that are reached from one is determined.
pub one_start_order : (imports : List (List ℕ)) (from : ℕ) (a b : List ℕ) → IsStartOrder imports from a
    → IsStartOrder imports from b → a ≡ b
one_start_order imports from a b x y = (one_walk imports (One from) [] a x.0 x.1 b y.0 y.1).0
