-- Constant expressions of declarations, read again behind the headings of the block: what is known
-- of the scopes in which they are read.
use Rattle.std.specs.Prelude.{◌≡◌, ◌↔◌, ℕ, ◌+◌, ◌<◌, ◌≤◌, Bool, false, List, [], ◌∷◌, ◌++◌, Some}
use Rattle.m2_rule.specs.declared.breach.Breach.{Breach}
use Rattle.m2_tree.specs.declared.name.Ident.{Ident}
use Rattle.typed_tree.specs.Names.{place_of}
use Rattle.check_scope.specs.declared.scope.Scope.{Scope}
use Rattle.check_scope.specs.Elaborated.{Gathers}
use Rattle.check_scope.specs.Inwards.{inwards}
use Rattle.def_typing.specs.Things.{Standing}
use Rattle.def_typing.specs.Parts.{Named}
use Rattle.def_typing.specs.Declarations.{Declaration, names_of, constants_of, AnyDeclares}
use Rattle.def_typing.specs.Seen as seen
use Rattle.law_typing.specs.Judging.{Judges}
use Rattle.law_typing.specs.Known.{Knows, Repeats}

-- ---- names of a block, in order

-- the names that declarations declare, the constants of enumerations behind the other names of each
abbrev pub all_names : List Declaration → List Ident
all_names [] = []
all_names (d ∷ ds) = (names_of d ++ constants_of d) ++ all_names ds

module _ {V : Type 0} (own : List (List ℕ × V)) where
  -- The name is one of the first of them.
  abbrev pub IsBefore : ℕ → List ℕ → Type 0
  IsBefore n name = (place : ℕ) × (place_of name own ≡ Some place) × (place < n)

  -- From this place on, names stand one behind the other, each where it comes for the first time.
  pub data StandInTurn : ℕ → List Ident → Type 0 where
    no_more : {n : ℕ} → StandInTurn n []
    stood_before : {n : ℕ} {x : Ident} {xs : List Ident} → IsBefore n x.name → StandInTurn n xs
        → StandInTurn n (x ∷ xs)
    stands_next : {n : ℕ} {x : Ident} {xs : List Ident} → place_of x.name own ≡ Some n
        → StandInTurn (n + 1) xs → StandInTurn n (x ∷ xs)

  -- start: how many names were there where the block begins. If so many names stand in front, those
  -- of the block among them are these.
  pub record StandInFront (start : ℕ) (taken : List ℕ → Bool) (block : List Declaration)
      (front : List Ident) (n : ℕ) : Type 0 where
    pub not_less : start ≤ n
    pub are_these : (name : List ℕ) → taken name ≡ false → AnyDeclares block name
        → Named front name ↔ IsBefore n name

-- ---- the scope behind the declarations of a block

module _ (g : Gathers) (j : Judges g) (exports : ℕ → Ident → Standing) (names : Ident → Standing)
    (s : Scope g.Reported) (taken : List ℕ → Bool) (block : List Declaration) where
  -- What names stand for where these of the block stand in front.
  abbrev pub AllSeen : (front : List Ident) → (Ident → Standing) → Type 0
  AllSeen front sight =
      (name : Ident) → seen.Sees taken block (Named front) names name (sight name)

  -- the scope of a procedure that has so many names in front of it, which are these of the block
  pub record KnowsInside (front : List Ident) (n : ℕ) : Type 0 where
    -- Each name stands for something in it.
    pub there : (sight : Ident → Standing) × AllSeen front sight
    -- Whatever names stand for, its scope knows it.
    pub known : (sight : Ident → Standing) → AllSeen front sight
        → Knows g j sight exports (inwards s n)
    -- What the use of a name repeats there is what its use repeats behind the declarations.
    pub repeated : (sight : Ident → Standing) → AllSeen front sight
        → (f : Breach) → Repeats g j sight (inwards s n) f → Repeats g j names s f

  -- start: how many names were there where the block begins
  pub record ReadsAgain (start : ℕ) : Type 0 where
    -- The names of the block stand behind them, in order.
    pub in_turn : StandInTurn s.own start (all_names block)
    pub none_before : (name : List ℕ) → taken name ≡ false → AnyDeclares block name
        → IsBefore s.own start name → ⊥
    -- All is known of each scope in which an expression is read again.
    pub inside : (front : List Ident) (n : ℕ) → StandInFront s.own start taken block front n
        → KnowsInside front n
