-- Uses of definitions, held against one another in order.
use Rattle.std.specs.Prelude.{◌≡◌, ℕ, cond, List, [], ◌∷◌, map, Option, Some, None, Result, Ok, Err}
use Rattle.std.specs.String.{string_bytes}
use Rattle.m2_tree.specs.Names.{same_name}
use Rattle.typed_tree.specs.Names.{find_name, enter_name}
use Rattle.link_parts.specs.declared.fitting.Seen.{Seen}
use Rattle.link_parts.specs.declared.fault.LinkFault.{LinkFault}
use Rattle.link_parts.specs.declared.fault.LinkFault.TheVariants as fault
use Rattle.link_parts.specs.Fitting.{Use}

-- the number of the module that first used a name, and the checksum
abbrev pub Known : Type 0
Known = List (List ℕ × (ℕ × List ℕ))

abbrev pub seen_of : Seen → ℕ × List ℕ
seen_of s = (s.by, string_bytes s.sum)

abbrev pub known_of : List (List ℕ × Seen) → Known
known_of es = map (λ e. (e.0, seen_of e.1)) es

-- a use held against the first of its name: the number of the module of that one, if its checksum
-- is another
abbrev pub held_against : Use → Known → Option (ℕ × List ℕ) → Result Known (ℕ × Use)
held_against u known None = Ok (enter_name u.name (u.by, u.sum) known)
held_against u known (Some p) = cond (same_name p.1 u.sum) (Ok known) (Err (p.0, u))

-- what is known with one more use
abbrev pub with_use : Use → Known → Result Known (ℕ × Use)
with_use u known = held_against u known (find_name u.name known)

infixl 10 ◌>>=◌
abbrev pub ◌>>=◌ : {A B E : Type 0} → Result A E → (A → Result B E) → Result B E
(Ok x) >>= f = f x
(Err e) >>= f = Err e

unfoldable pub with_uses : List Use → Known → Result Known (ℕ × Use)
with_uses [] known = Ok known
with_uses (u ∷ us) known = with_use u known >>= with_uses us

-- what is answered of uses, and what is known then
abbrev pub Tells : Result (Unit {0}) LinkFault → Known → Result Known (ℕ × Use) → Type 0
Tells (Ok fine) now (Ok known) = now ≡ known
Tells (Ok fine) now (Err e) = ⊥
Tells (Err fault.NoMemory) now all = Unit {0}
Tells (Err (fault.Interfaces m n name)) now (Ok known) = ⊥
Tells (Err (fault.Interfaces m n name)) now (Err e) =
    (m ≡ e.0) × (n ≡ e.1.by) × (string_bytes name ≡ e.1.name)
Tells (Err other) now all = ⊥
