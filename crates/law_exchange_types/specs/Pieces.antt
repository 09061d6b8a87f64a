-- What moves, in pieces.
use Rattle.std.specs.Prelude.{ℕ, map, List, Result, Ok, Err}

-- what is reported has no number of a module
abbrev pub map_ok : {A B R : Type 0} → (A → B) → Result A R → Result B R
map_ok f (Ok a) = Ok (f a)
map_ok f (Err e) = Err e

abbrev pub same : {A : Type 0} → A → A
same a = a

abbrev pub moved_pair : {A B C D : Type 0} → (A → C) → (B → D) → A × B → C × D
moved_pair f h p = (f p.0, h p.1)

abbrev pub moved_triple : {A B C D E F : Type 0} → (A → D) → (B → E) → (C → F) → A × B × C
    → D × E × F
moved_triple f h k p = (f p.0, h p.1, k p.2)

abbrev pub moved_entries : {V W : Type 0} → (V → W) → List (List ℕ × V) → List (List ℕ × W)
moved_entries f es = map (λ e. (e.0, f e.1)) es
