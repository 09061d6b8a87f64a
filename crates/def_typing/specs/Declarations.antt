-- What the names of a block stand for, and which rules are broken in its declarations.
use Rattle.std.specs.Prelude.{◌≡◌, ◌⊎◌, ℕ, Bool, true, false, ◌||◌, List, [], ◌∷◌, ◌++◌, map, Option, Some}
use Rattle.std.specs.List.{list_any}
use Rattle.m2_tree.specs.Names.{same_name}
use Rattle.typed_tree.specs.Names.{find_name}
use Rattle.m2_rule.specs.declared.breach.Breach.{Breach}
use Rattle.m2_rule.specs.declared.rule.Rule.TheVariants as rule
use Rattle.m2_tree.specs.declared.pos.Pos.{Pos}
use Rattle.m2_tree.specs.declared.name.Ident.{Ident}
use Rattle.m2_tree.specs.declared.decl.Constant.{Constant}
use Rattle.m2_tree.specs.declared.decl.TypeDecl.{TypeDecl}
use Rattle.m2_tree.specs.declared.decl.Variables.{Variables}
use Rattle.m2_tree.specs.declared.decl.Decl.{Decl, Decl-F, out-Decl}
use Rattle.m2_tree.specs.declared.decl.Decl.TheOpen as layer
use Rattle.m2_tree.specs.declared.decl.Block.{Block}
use Rattle.m2_tree.specs.declared.decl.Section.{Section}
use Rattle.m2_tree.specs.declared.decl.Heading.{Heading}
use Rattle.typed_tree.specs.declared.types.TypeNo.{TypeNo}
use Rattle.typed_tree.specs.declared.shape.Signature.{Signature}
use Rattle.typed_tree.specs.declared.known_types.Types.{Types}
use Rattle.def_typing.specs.Operators.{◌!◌, Kind}
use Rattle.def_typing.specs.Things.{Thing, AValue, AVariable, AType, AProcedure, ANested, Headless, Standing, Known, Ahead, Undeclared, Unknown}
use Rattle.def_typing.specs.Parts.{Among, Named}
use Rattle.def_typing.specs.Constants.{AConstant, Fixes}
use Rattle.def_typing.specs.Expressions.{BrokenAsConstant}
use Rattle.def_typing.specs.TypeExprs.{Twice, constants_in, with_types, next_type, Member, member_stands, Added, nothing_added, type_added, Setting, IsTypeOf, Adds, BrokenType}
use Rattle.def_typing.specs.Headings.{procedure_made, IsHeading, BrokenHeading}
use Rattle.def_typing.specs.Agreements.{Disagrees}

-- ---- declarations

pub data Declaration : Type 0 where
  OfConstant : Constant → Declaration
  OfType : TypeDecl → Declaration
  OfVariables : Variables → Declaration
  OfProcedure : Heading → Declaration

abbrev pub names_of : Declaration → List Ident
names_of (OfConstant c) = c.name ∷ []
names_of (OfType d) = d.name ∷ []
names_of (OfVariables v) = v.names
names_of (OfProcedure h) = h.name ∷ []

abbrev pub names_in : List Section → List Ident
names_in [] = []
names_in (x ∷ xs) = x.names ++ names_in xs

-- the names of formals
abbrev pub formals_in : Declaration → List Ident
formals_in (OfProcedure h) = names_in h.formals
formals_in other = []

abbrev pub declared_by : Decl-F Decl Block → List Declaration
declared_by (layer.Constants cs) = map OfConstant cs
declared_by (layer.Types ts) = map OfType ts
declared_by (layer.Variables vs) = map OfVariables vs
declared_by (layer.Procedure h b) = OfProcedure h ∷ []

abbrev pub declarations_of : List Decl → List Declaration
declarations_of [] = []
declarations_of (d ∷ ds) = declared_by (out-Decl d) ++ declarations_of ds

-- the constants of the enumerations in its type
abbrev pub constants_of : Declaration → List Ident
constants_of (OfType d) = constants_in d.of
constants_of (OfVariables v) = constants_in v.of
constants_of other = []

-- Its own names come before these constants.
abbrev pub Declares : Declaration → List ℕ → Type 0
Declares d n = Named (names_of d ++ constants_of d) n

abbrev pub AnyDeclares : List Declaration → List ℕ → Type 0
AnyDeclares ds n = (d : Declaration) × Among d ds × Declares d n

-- It is a heading of this name.
abbrev pub Heads : Declaration → List ℕ → Type 0
Heads (OfProcedure h) n = h.name.name ≡ n
Heads other n = ⊥

-- the first declaration of a name in a block
pub data IsFirst (n : List ℕ) (d : Declaration) : List Declaration → Type 0 where
  at_first : {ds : List Declaration} → Declares d n → IsFirst n d (d ∷ ds)
  later_on : {x : Declaration} {ds : List Declaration} → (Declares x n → ⊥) → IsFirst n d ds
      → IsFirst n d (x ∷ ds)

-- ---- declarations in front of a place, the nearest one first

-- a declaration with the types that it makes and the constants that it brings
pub record Declared : Type 0 where
  pub what : Declaration
  pub adds : Added

-- the same in the order of the text
abbrev pub in_order : List Declared → List Declaration
in_order [] = []
in_order (d ∷ front) = in_order front ++ d.what ∷ []

abbrev pub IsThere : List Declared → List ℕ → Type 0
IsThere front n = AnyDeclares (map (λ d. d.what) front) n

-- A heading of this name is there.
abbrev pub IsHeaded : List Declared → List ℕ → Type 0
IsHeaded front n = (d : Declared) × Among d front × Heads d.what n

-- the first declaration of a name, and those in front of it
pub data IsNamed (n : List ℕ) (d : Declared) (before : List Declared) : List Declared → Type 0 where
  nearest : Declares d.what n → (IsThere before n → ⊥) → IsNamed n d before (d ∷ before)
  farther : {x : Declared} {front : List Declared} → IsNamed n d before front
      → IsNamed n d before (x ∷ front)

abbrev pub types_behind : Types → List Declared → Types
types_behind types [] = types
types_behind types (d ∷ front) = with_types (types_behind types front) d.adds.makes

abbrev pub is_among : List ℕ → List Ident → Bool
is_among n xs = list_any (λ x. same_name x.name n) xs

-- whether a name is there behind these
abbrev pub is_there : List Declared → List ℕ → Bool
is_there [] n = false
is_there (d ∷ front) n = is_among n (names_of d.what ++ constants_of d.what) || is_there front n

-- ---- one declaration, by what names stand for

-- in a procedure, or in a module
abbrev pub procedure : Bool → TypeNo → Thing
procedure true t = ANested t
procedure false t = AProcedure t

abbrev pub is_variables : Declaration → Bool
is_variables (OfVariables v) = true
is_variables other = false

-- what a name stands for before its declaration
abbrev pub in_front_of : Declaration → Standing
in_front_of (OfProcedure h) = Ahead
in_front_of other = Undeclared

-- what it stands for if rules are broken in its declaration
abbrev pub without : (nested : Bool) → Declaration → Standing
without nested (OfProcedure h) = Known (Headless nested)
without nested other = Unknown

module _ (exports : ℕ → Ident → Standing) (w : Setting) where
  -- what it adds, and what its own names stand for
  pub data Says (nested : Bool) : Declaration → Added → Standing → Type 0 where
    constant : {c : Constant} {k : Kind} → Fixes w.types w.names exports c.value (AConstant k)
        → Says nested (OfConstant c) nothing_added (Known (AValue k))
    a_type : {d : TypeDecl} {a : Added} {t : TypeNo} → IsTypeOf exports w d.of a t
        → Says nested (OfType d) a (Known (AType t))
    variables : {v : Variables} {a : Added} {t : TypeNo} → IsTypeOf exports w v.of a t
        → Says nested (OfVariables v) a (Known (AVariable t))
    a_procedure : {h : Heading} {s : Signature} → IsHeading w.types w.names exports h s
        → Says nested (OfProcedure h) (type_added (procedure_made s))
        (Known (procedure nested (next_type w.types)))

  -- what it adds behind names that are there, whether rules are broken in it or not
  pub data Brings (There : List ℕ → Type 0) : Declaration → Added → Type 0 where
    constant_brings : {c : Constant} → Brings There (OfConstant c) nothing_added
    type_brings : {d : TypeDecl} {a : Added} → Adds exports w d.of a → Brings There (OfType d) a
    variables_bring : {v : Variables} {a : Added} → Adds exports w v.of a
        → Brings There (OfVariables v) a
    procedure_brings : {h : Heading} {s : Signature} → (There h.name.name → ⊥)
        → IsHeading w.types w.names exports h s
        → Brings There (OfProcedure h) (type_added (procedure_made s))
    -- A procedure makes no type if its name is there, or if rules are broken in its heading.
    name_there : {h : Heading} → There h.name.name → Brings There (OfProcedure h) nothing_added
    no_heading : {h : Heading}
        → ((s : Signature) → IsHeading w.types w.names exports h s → ⊥)
        → Brings There (OfProcedure h) nothing_added

  pub data Misdeclares : Declaration → Breach → Type 0 where
    in_constant : {c : Constant} {f : Breach} → BrokenAsConstant w.types w.names exports c.value f
        → Misdeclares (OfConstant c) f
    in_type : {d : TypeDecl} {f : Breach} → BrokenType exports w d.of f → Misdeclares (OfType d) f
    in_variables : {v : Variables} {f : Breach} → BrokenType exports w v.of f
        → Misdeclares (OfVariables v) f
    in_heading : {h : Heading} {f : Breach} → BrokenHeading w.types w.names exports h f
        → Misdeclares (OfProcedure h) f

  -- the refusals of a heading that a procedure of this type awaits
  pub data Differs (t : TypeNo) : Declaration → Breach → Type 0 where
    differs : {h : Heading} {f : Breach} → Disagrees w.types w.names exports t h f
        → Differs t (OfProcedure h) f

-- ---- a block

-- The types that are known where it begins, what modules export, what names stand for outside,
-- which names are taken by imports, by formals or by the module's own definition, the types of this
-- definition's procedures, which await their headings, and whether the block is a procedure's.
module _ (types : Types) (exports : ℕ → Ident → Standing) (outside : Ident → Standing)
    (taken : List ℕ → Bool) (awaited : List ℕ → Option TypeNo) (nested : Bool)
    (block : List Declaration) where
  -- where the type of a declaration stands: its own names are there
  abbrev pub setting : List Declared → Declaration → (Ident → Standing) → Setting
  setting front d names = record {
    types = types_behind types front;
    names = names;
    there = λ n. is_among n (names_of d) || (taken n || is_there front n);
  }

  abbrev pub There : List Declared → List ℕ → Type 0
  There front n = (taken n ≡ true) ⊎ IsThere front n

  -- A heading is awaited until one of this name stands in the block. Its name stands for the
  -- definition's procedure, in front of it and behind it.
  pub data IsAwaited (front : List Declared) (t : TypeNo) : Declaration → Type 0 where
    is_awaited : {h : Heading} → awaited h.name.name ≡ Some t
        → (IsHeaded front h.name.name → ⊥) → IsAwaited front t (OfProcedure h)

  -- A procedure of the definition has a heading in the implementation; else the refusal is at the
  -- module's name.
  pub data Lacks (at : Pos) (front : List Declared) : Breach → Type 0 where
    missing : {n : List ℕ} {t : TypeNo} → awaited n ≡ Some t → (IsHeaded front n → ⊥)
        → Lacks at front (at ! rule.MissingProcedure)

  mutual
    -- what a name stands for behind these declarations
    pub data StandsFor : List Declared → Ident → Standing → Type 0 where
      declared : {front before : List Declared} {d : Declared} {name : Ident} {s : Standing}
          → taken name.name ≡ false → IsNamed name.name d before front
          → Named (names_of d.what) name.name → Means before d s → StandsFor front name s
      -- a constant of an enumeration
      enumerated : {front before : List Declared} {d : Declared} {name : Ident} {e : Member}
          → taken name.name ≡ false → IsNamed name.name d before front
          → (Named (names_of d.what) name.name → ⊥) → IsAdded before d
          → find_name name.name d.adds.brings ≡ Some e → StandsFor front name (member_stands e)
      -- Names of a block mean the block's own declaration wherever they stand, and are declared
      -- before use.
      not_yet : {front : List Declared} {name : Ident} {d : Declaration} → taken name.name ≡ false
          → IsFirst name.name d block → (IsThere front name.name → ⊥)
          → StandsFor front name (in_front_of d)
      from_outside : {front : List Declared} {name : Ident}
          → (taken name.name ≡ false → AnyDeclares block name.name → ⊥)
          → StandsFor front name (outside name)

    -- what a declaration adds behind these
    pub data IsAdded : List Declared → Declared → Type 0 where
      is_added : {front : List Declared} {d : Declared} {names : Ident → Standing}
          → ((x : Ident) → StandsFor front x (names x))
          → Brings exports (setting front d.what names) (There front) d.what d.adds
          → IsAdded front d

    -- what a declaration says of its own names behind these
    pub data Means : List Declared → Declared → Standing → Type 0 where
      says : {front : List Declared} {d : Declared} {names : Ident → Standing} {s : Standing}
          → ((x : Ident) → StandsFor front x (names x))
          → Says exports (setting front d.what names) nested d.what d.adds s → Means front d s
      -- Rules are broken in it.
      says_nothing : {front : List Declared} {d : Declared} {names : Ident → Standing}
          → ((x : Ident) → StandsFor front x (names x))
          → ((a : Added) (s : Standing)
          → Says exports (setting front d.what names) nested d.what a s → ⊥)
          → Means front d (without nested d.what)

  abbrev pub AllStand : List Declared → (Ident → Standing) → Type 0
  AllStand front names = (x : Ident) → StandsFor front x (names x)

  -- whether it is a variable that the block declares, or one of those outside that count as own
  pub data IsOwn (outer : Ident → Bool) (front : List Declared) (name : Ident) : Bool → Type 0 where
    of_block : {d : Declared} {before : List Declared} → taken name.name ≡ false
        → IsNamed name.name d before front → Named (names_of d.what) name.name
        → IsOwn outer front name (is_variables d.what)
    of_enumeration : {d : Declared} {before : List Declared} → taken name.name ≡ false
        → IsNamed name.name d before front → (Named (names_of d.what) name.name → ⊥)
        → IsOwn outer front name false
    of_none : taken name.name ≡ false → AnyDeclares block name.name
        → (IsThere front name.name → ⊥) → IsOwn outer front name false
    of_outside : (taken name.name ≡ false → AnyDeclares block name.name → ⊥)
        → IsOwn outer front name (outer name)

  -- Each declaration adds what the rules say.
  pub data AllAdded : List Declared → Type 0 where
    nothing_declared : AllAdded []
    each_added : {front : List Declared} {d : Declared} → IsAdded front d → AllAdded front
        → AllAdded (d ∷ front)

  -- the refusals in declarations
  pub data BrokenIn : List Declared → Breach → Type 0 where
    inside : {front : List Declared} {d : Declared} {names : Ident → Standing} {f : Breach}
        → AllStand front names → Misdeclares exports (setting front d.what names) d.what f
        → BrokenIn (d ∷ front) f
    -- A name twice in a scope is refused at the second, but for a heading that is awaited, and so
    -- is one of a formal.
    twice : {front : List Declared} {d : Declared} {f : Breach}
        → ((t : TypeNo) → IsAwaited front t d.what → ⊥)
        → Twice (There front) (names_of d.what) f → BrokenIn (d ∷ front) f
    -- A heading that is awaited agrees with the definition's.
    other_heading : {front : List Declared} {d : Declared} {names : Ident → Standing} {t : TypeNo}
        {f : Breach} → IsAwaited front t d.what → AllStand front names
        → Differs exports (setting front d.what names) t d.what f → BrokenIn (d ∷ front) f
    formal_twice : {front : List Declared} {d : Declared} {f : Breach}
        → Twice (λ n. ⊥) (formals_in d.what) f → BrokenIn (d ∷ front) f
    in_front : {front : List Declared} {d : Declared} {f : Breach} → BrokenIn front f
        → BrokenIn (d ∷ front) f
