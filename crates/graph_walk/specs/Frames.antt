-- What is left of a walk, while some nodes are entered and did not start yet.
use Rattle.std.specs.Prelude.{◌≡◌, ◌<◌, ℕ, ◌+◌, ◌-◌, Bool, List, [], ◌∷◌, ◌++◌, length, drop, reverse}
use Rattle.std.specs.List.{All}
use Rattle.graph_walk.specs.Links.{has, flag, targets}
use Rattle.graph_walk.specs.Marks.{weight}
use Rattle.graph_walk.specs.Starts.{Each, Walks}
use Rattle.graph_walk.specs.declared.starts.Frame.{Frame}

abbrev pub entering : ℕ → Frame
entering node = record { node = node; next = 0 }

-- The frame walks what is left of its imports, starts its node, and then more starts.
pub record Continues (imports : List (List ℕ)) (f : Frame) (entered out : List ℕ)
    (More : List ℕ → List ℕ → Type 0) : Type 0 where
  pub started : List ℕ
  pub later : List ℕ
  pub more : List ℕ
  pub walks : Walks imports (Each (drop f.next (targets imports f.node))) entered started later
  pub is : out ≡ (started ++ f.node ∷ []) ++ more
  pub rest : More later more

-- From the nodes already entered these frames, one after another, start these nodes.
abbrev pub Rest : List (List ℕ) → List Frame → List ℕ → List ℕ → Type 0
Rest imports [] entered out = out ≡ []
Rest imports (f ∷ fs) entered out = Continues imports f entered out (Rest imports fs)

-- What is left leads from where the walk began to what started so far and what will.
pub record Going (imports : List (List ℕ)) (from : ℕ) (entered : List Bool) (todo : List Frame)
    (order : List ℕ) : Type 0 where
  pub same : length entered ≡ length imports
  pub nodes : All (λ f. f.node < length imports) todo
  pub walked : List ℕ
  pub marks : (k : ℕ) → flag entered k ≡ has walked k
  pub leads : (out : List ℕ) → Rest imports (reverse todo) walked out
      → Rest imports (entering from ∷ []) (from ∷ []) (order ++ out)

-- for each frame, the imports that it has not walked, and one
abbrev pub frames_weight : List (List ℕ) → List Frame → ℕ
frames_weight imports [] = 0
frames_weight imports (f ∷ fs) =
    (length (targets imports f.node) - f.next) + 1 + frames_weight imports fs

pub record Advances (imports : List (List ℕ)) (entered : List Bool) (todo : List Frame)
    (order : List ℕ) (entered' : List Bool) (todo' : List Frame) (order' : List ℕ) : Type 0 where
  pub keeps : (from : ℕ) → Going imports from entered todo order
      → Going imports from entered' todo' order'
  pub less : weight imports entered' + frames_weight imports todo'
      < weight imports entered + frames_weight imports todo
