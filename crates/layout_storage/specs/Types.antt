-- The types of variables, and of their components.
use Rattle.std.specs.Prelude.{◌≡◌, ℕ, zero, suc, Bool, ℤ, pos, negsuc, ◌-ℤ◌, ◌≤ℤ◌, nat_lt, List, [], ◌∷◌, Option, Some, None, if◌then◌else◌}

-- how an argument is passed: by its value, as another name of a variable behind VAR, or as an array
-- of any length
pub data Passing : Type 0 where
  ByValue : Passing
  ByName : Passing
  AsOpen : (is_var : Bool) → Passing

mutual
  -- numbers from 0 to a greatest one (CARDINAL, CHAR, enumerations, BITSET), INTEGER, subranges,
  -- and the procedures with a heading
  pub data Scalar : Type 0 where
    Natural : (greatest : ℕ) → Scalar
    Integer : Scalar
    Between : (least greatest : ℤ) → Scalar
    Callable : (heading : Heading) → Scalar

  -- a type: a scalar, n of one type, or a record, which is a field and then the others. Hidden is
  -- room in a frame in which no variable stands
  pub data Ty : Type 0 where
    Cell : Scalar → Ty
    Hidden : (n : ℕ) → Ty
    Array : (n : ℕ) → (element : Ty) → Ty
    Nothing : Ty
    Field : (field others : Ty) → Ty

  -- the heading of a procedure: its formals, each with how it is passed and its type or the type of
  -- its elements, and at the end the type of the result, if there is one
  pub data Heading : Type 0 where
    Proper : Heading
    Function : (result : Ty) → Heading
    Takes : (passing : Passing) → (formal : Ty) → (others : Heading) → Heading

-- the record of these fields
abbrev pub row : List Ty → Ty
row [] = Nothing
row (t ∷ ts) = Field t (row ts)

-- a frame: sixteen reserved bytes, the link in the first of them, and the variables of these types
abbrev pub frame_of : List Ty → Ty
frame_of vars = Field (row (Hidden 8 ∷ Hidden 8 ∷ [])) (row vars)

-- the type of the component that these numbers lead to
unfoldable pub component : Ty → List ℕ → Option Ty
component t [] = Some t
component (Cell c) (i ∷ p) = None
component (Hidden n) (i ∷ p) = None
component (Array n t) (i ∷ p) = if nat_lt i n then component t p else None
component Nothing (i ∷ p) = None
component (Field t others) (zero ∷ p) = component t p
component (Field t others) (suc i ∷ p) = component others (i ∷ p)

abbrev pub least : Scalar → ℤ
least (Natural g) = pos 0
least Integer = negsuc 2147483647
least (Between l g) = l
least (Callable h) = pos 0

abbrev pub greatest : Scalar → ℤ
greatest (Natural g) = pos g
greatest Integer = pos 2147483647
greatest (Between l g) = g
greatest (Callable h) = pos 4294967295

-- the number is one of the type
pub record IsOf (c : Scalar) (v : ℤ) : Type 0 where
  pub low : least c ≤ℤ v
  pub high : v ≤ℤ greatest c

-- a scalar type of the language
pub record IsScalar (c : Scalar) : Type 0 where
  pub low : negsuc 2147483647 ≤ℤ least c
  pub high : greatest c ≤ℤ pos 4294967295
  pub some : least c ≤ℤ greatest c
  pub narrow : (greatest c -ℤ least c) ≤ℤ pos 4294967295

-- what a fresh variable holds
abbrev pub first : Scalar → ℤ
first (Natural g) = pos 0
first Integer = pos 0
first (Between l g) = l
first (Callable h) = pos 0

-- ---- types of variables

-- no hidden room in it, as in each type that a program can write
abbrev pub IsPlain : Ty → Type 0
IsPlain (Cell c) = IsScalar c
IsPlain (Hidden n) = ⊥
IsPlain (Array n t) = IsPlain t
IsPlain Nothing = Unit {0}
IsPlain (Field t others) = IsPlain t × IsPlain others

-- what a type in a frame has is scalars of the language and hidden room
pub record IsFit (t : Ty) : Type 0 where
  pub scalars : (r : List ℕ) (c : Scalar) → component t r ≡ Some (Cell c) → IsScalar c
