-- What the names of a definition stand for, and which rules are broken in its declarations.
use Rattle.std.specs.Prelude.{◌≡◌, ℕ, Bool, true, false, ◌||◌, List, [], ◌∷◌, ◌++◌, Option, Some, None}
use Rattle.m2_rule.specs.declared.breach.Breach.{Breach}
use Rattle.m2_tree.specs.declared.name.Ident.{Ident}
use Rattle.typed_tree.specs.declared.types.TypeNo.{TypeNo}
use Rattle.typed_tree.specs.declared.known_types.Types.{Types}
use Rattle.typed_tree.specs.Names.{find_name}
use Rattle.def_typing.specs.Things.{Standing}
use Rattle.def_typing.specs.Parts.{Among, Named}
use Rattle.def_typing.specs.TypeExprs.{Twice, with_types, Member, member_stands, Added, Setting}
use Rattle.def_typing.specs.Declarations as blocks
use Rattle.def_typing.specs.Declarations.{Declaration, names_of, constants_of, formals_in, Declares, is_among, without, Says, Brings, Misdeclares}

-- what is known where a declaration stands
pub record Context : Type 0 where
  pub types : Types
  -- what names stand for, if the declarations from here on do not count
  pub names : Ident → Standing
  -- the names of imports, and of the declarations in front
  pub taken : List ℕ → Bool

-- a declaration, with what is known where it stands, what it adds, and the declarations behind it
pub record Placed : Type 0 where
  pub at : Context
  pub what : Declaration
  pub adds : Added
  pub left : List Declaration

-- A definition awaits no heading of another.
abbrev pub none_awaited : List ℕ → Option TypeNo
none_awaited n = None

module _ (exports : ℕ → Ident → Standing) (p : Placed) where
  -- A declaration is read as the first of a block, in which those behind it stand too. Names of the
  -- definition mean its own declarations wherever they stand, and are declared before use.
  abbrev pub AllStand : (Ident → Standing) → Type 0
  AllStand names =
      blocks.AllStand p.at.types exports p.at.names p.at.taken none_awaited false
      (p.what ∷ p.left) [] names

  abbrev pub setting : (Ident → Standing) → Setting
  setting names =
      blocks.setting p.at.types exports p.at.names p.at.taken none_awaited false
      (p.what ∷ p.left) [] p.what names

  -- It adds what the rules say. No name stands in the way of a procedure's type.
  pub data IsAdded : Type 0 where
    is_added : {names : Ident → Standing} → AllStand names
        → Brings exports (setting names) (λ n. ⊥) p.what p.adds → IsAdded

  -- what it says of its own names
  pub data Means : Standing → Type 0 where
    says : {names : Ident → Standing} {s : Standing} → AllStand names
        → Says exports (setting names) false p.what p.adds s → Means s
    -- Rules are broken in it.
    says_nothing : {names : Ident → Standing} → AllStand names
        → ((a : Added) (s : Standing) → Says exports (setting names) false p.what a s → ⊥)
        → Means (without false p.what)

  -- what a name stands for behind it: the first declaration of a name holds
  pub data Behind (name : Ident) : Standing → Type 0 where
    its_own : {s : Standing} → p.at.taken name.name ≡ false
        → Named (names_of p.what) name.name → Means s → Behind name s
    -- a constant of an enumeration in its type
    its_constant : {e : Member} → p.at.taken name.name ≡ false
        → (Named (names_of p.what) name.name → ⊥) → Declares p.what name.name
        → find_name name.name p.adds.brings ≡ Some e → Behind name (member_stands e)
    as_before : (p.at.taken name.name ≡ false → Declares p.what name.name → ⊥)
        → Behind name (p.at.names name)

  -- what is known behind it
  pub record Follows (c : Context) : Type 0 where
    pub types : c.types ≡ with_types p.at.types p.adds.makes
    pub names : (x : Ident) → Behind x (c.names x)
    pub taken : (n : List ℕ)
        → c.taken n ≡ (is_among n (names_of p.what ++ constants_of p.what) || p.at.taken n)

  -- its refusals
  pub data Breaks (f : Breach) : Type 0 where
    inside : {names : Ident → Standing} → AllStand names
        → Misdeclares exports (setting names) p.what f → Breaks f
    -- A name twice in a scope is refused at the second, and so is one of a formal.
    twice : Twice (λ n. p.at.taken n ≡ true) (names_of p.what) f → Breaks f
    formal_twice : Twice (λ n. ⊥) (formals_in p.what) f → Breaks f

module _ (exports : ℕ → Ident → Standing) where
  -- Declarations follow one another, from what is known in front of them to what is known behind.
  pub data AllFollow : Context → List Declaration → List Placed → Context → Type 0 where
    nothing_follows : {c : Context} → AllFollow c [] [] c
    one_follows : {p : Placed} {c last : Context} {ps : List Placed} → IsAdded exports p
        → Follows exports p c → AllFollow c p.left ps last
        → AllFollow p.at (p.what ∷ p.left) (p ∷ ps) last

  -- the refusals in declarations
  abbrev pub BrokenIn : List Placed → Breach → Type 0
  BrokenIn ps f = (p : Placed) × Among p ps × Breaks exports p f
