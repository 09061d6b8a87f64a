-- Cells of numbers, and which procedure a number as a value is.
use Rattle.std.proofs.Common.{◌≡◌, ℕ, zero, suc, ◌+◌, ℤ, pos, List, [], ◌∷◌, ◌++◌, length, Some, refl, ap, ◌∙◌, arith}
use Rattle.std.specs.Prelude.{slice_get}
use Rattle.std.proofs.lemmas.Int.{ints}
use Rattle.std.proofs.lemmas.Option.{none-some}
use Rattle.typed_tree.specs.declared.typed_module.Routine.{Routine}
use Rattle.typed_tree.specs.declared.typed_module.TypedModule.{TypedModule}
use Rattle.layout_storage.specs.Types.{Scalar, Natural, Integer, Between, Callable, Heading, IsScalar}
use Rattle.def_meaning.specs.Environment.{Modules, Entry, Procedure, numbered_from, entries_from, entries_before, entry_of}
use Rattle.law_memory.specs.Relation.{Means, IsNumber, value_number}

-- a number stands for itself
pub number_means : (program : Modules) (c : Scalar) (v : ℤ) → IsNumber c → Means program c v
number_means program (Natural g) v is = tt
number_means program Integer v is = tt
number_means program (Between l g) v is = tt
number_means program (Callable h) v is = absurd is

-- cells of procedure types are those of a scalar type
pub callable_scalar : (h : Heading) → IsScalar (Callable h)
callable_scalar h = record {
  low = omega (arith, ints);
  high = omega (arith, ints);
  some = omega (arith, ints);
  narrow =
      omega (arith, ints);
}

-- ---- the entries of all modules

same_some : {A : Type 0} (x y : A) → Some x ≡ Some y → x ≡ y
same_some x y e = cc e

get_behind : (xs ys : List Entry) (j : ℕ) → slice_get (xs ++ ys) (length xs + j) ≡ slice_get ys j
get_behind [] ys j = ap (slice_get ys) (let e : 0 + j ≡ j = omega arith in e)
get_behind (x ∷ xs) ys j = ap (slice_get ((x ∷ xs) ++ ys))
    (let e : suc (length xs) + j ≡ suc (length xs + j) = omega arith in e) ∙ get_behind xs ys j

numbered_length : (place n : ℕ) (rs : List Routine) → length (numbered_from place n rs) ≡ length rs
numbered_length place n [] = refl
numbered_length place n (r ∷ rs) = ap suc (numbered_length place (suc n) rs)

numbered_there : (place n : ℕ) (rs : List Routine) (more : List Entry) (j : ℕ) (r : Routine) → slice_get rs j ≡ Some r
    → slice_get (numbered_from place n rs ++ more) j ≡ Some (Procedure place (n + j))
numbered_there place n [] more j r e = absurd (none-some r e)
numbered_there place n (s ∷ rs) more zero r e =
    ap (λ (i : ℕ). Some (Procedure place i)) (let f : n ≡ n + 0 = omega arith in f)
numbered_there place n (s ∷ rs) more (suc j) r e = numbered_there place (suc n) rs more j r e
    ∙ ap (λ (i : ℕ). Some (Procedure place i)) (let f : suc n + j ≡ n + suc j = omega arith in f)

entry_from : (first : ℕ) (p : Modules) (place number : ℕ) (home : TypedModule) (r : Routine)
    → slice_get p place ≡ Some home → slice_get home.procedures number ≡ Some r
    → slice_get (entries_from first p) (suc (entries_before place p + number)) ≡ Some (Procedure (first + place) number)
entry_from first [] place number home r there is = absurd (none-some home there)
entry_from first (m ∷ ms) zero number home r there is =
    ap (slice_get (numbered_from first 0 m.procedures ++ entries_from (suc first) ms))
    (let f : 0 + number ≡ number = omega arith in f)
    ∙ numbered_there first 0 m.procedures (entries_from (suc first) ms) number r
    (ap (λ (m : TypedModule). slice_get m.procedures number) (same_some m home there) ∙ is)
    ∙ ap (λ (i : ℕ). Some (Procedure first i)) (let f : 0 + number ≡ number = omega arith in f)
    ∙ ap (λ (i : ℕ). Some (Procedure i number)) (let f : first ≡ first + 0 = omega arith in f)
entry_from first (m ∷ ms) (suc place) number home r there is =
    let front : List Entry = numbered_from first 0 m.procedures in
    let back : List Entry = entries_from (suc first) ms in
    let long = numbered_length first 0 m.procedures in
    ap (slice_get (front ++ back)) (let f : suc (length m.procedures) + entries_before place ms + number
    ≡ length front + suc (entries_before place ms + number) = omega (arith, long) in f)
    ∙ get_behind front back (suc (entries_before place ms + number))
    ∙ entry_from (suc first) ms place number home r there is
    ∙ ap (λ (i : ℕ). Some (Procedure i number)) (let f : suc first + place ≡ first + suc place = omega arith in f)

-- the procedure that a number as a value is
pub entry_there : (p : Modules) (place number : ℕ) (home : TypedModule) (r : Routine) → slice_get p place ≡ Some home
    → slice_get home.procedures number ≡ Some r
    → entry_of p (pos (value_number p place number)) ≡ Some (Procedure place number)
entry_there p place number home r there is = entry_from 0 p place number home r there is
    ∙ ap (λ (i : ℕ). Some (Procedure i number)) (let f : 0 + place ≡ place = omega arith in f)
