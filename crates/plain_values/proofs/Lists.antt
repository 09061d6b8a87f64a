-- Lists that are seen element by element.
use Rattle.std.proofs.Common.{◌≡◌, ℕ, zero, suc, ◌+◌, ◌-◌, ◌<◌, ◌≤◌, Bool, true, false, List, [], ◌∷◌, ◌++◌, map, length, drop, Option, Some, None, refl, ap, sym, ◌∙◌, lt-ltb, le-ltb, arith}
use Rattle.std.specs.Prelude.{slice_get, cond, not, nat_lt}
use Rattle.std.specs.Option.{option_map, unwrap_or}
use Rattle.std.specs.List.{position, position_or_len}
use Rattle.def_meaning.specs.Environment.{Named as Name, or_empty}
use Rattle.plain_values.specs.declared.program.Named.{Named}
use Rattle.plain_values.specs.Surroundings.{name_of, frames_of}

pub got : {A B : Type 0} (f : A → B) (xs : List A) (k : ℕ) → slice_get (map f xs) k ≡ option_map f (slice_get xs k)
got f [] k = refl
got f (x ∷ xs) zero = refl
got f (x ∷ xs) (suc k) = got f xs k

pub named_none : (fs : List (List Named)) (up number : ℕ) → slice_get fs up ≡ None
    → slice_get (or_empty (slice_get (frames_of fs) up)) number ≡ None
named_none fs up number h = ap (λ (o : Option (List Name)). slice_get (or_empty o) number) (got (map name_of) fs up)
    ∙ ap (λ (o : Option (List Named)). slice_get (or_empty (option_map (map name_of) o)) number) h

pub named_some : (fs : List (List Named)) (ns : List Named) (up number : ℕ) → slice_get fs up ≡ Some ns
    → slice_get (or_empty (slice_get (frames_of fs) up)) number ≡ option_map name_of (slice_get ns number)
named_some fs ns up number h = ap (λ (o : Option (List Name)). slice_get (or_empty o) number) (got (map name_of) fs up)
    ∙ ap (λ (o : Option (List Named)). slice_get (or_empty (option_map (map name_of) o)) number) h
    ∙ got name_of ns number

pub place_there : {A : Type 0} (p : A → Bool) (xs : List A) (k n : ℕ) → k ≡ position_or_len p xs → n ≡ length xs → k < n
    → unwrap_or (position p xs) 0 ≡ k
place_there p xs k n e l h = ap (λ (b : Bool). unwrap_or (cond b (Some (position_or_len p xs)) None) 0)
    (lt-ltb (position_or_len p xs) (length xs) (omega (arith, h, e, l))) ∙ sym e

pub place_nowhere : {A : Type 0} (p : A → Bool) (xs : List A) (k n : ℕ) → k ≡ position_or_len p xs → n ≡ length xs
    → n ≤ k → unwrap_or (position p xs) 0 ≡ 0
place_nowhere p xs k n e l h = ap (λ (b : Bool). unwrap_or (cond b (Some (position_or_len p xs)) None) 0)
    (le-ltb (position_or_len p xs) (length xs) (omega (arith, h, e, l)))
