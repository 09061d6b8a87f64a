-- What a loop has tested of each element so far.
use Rattle.std.proofs.Common.{◌≡◌, ◌≢◌, ℕ, suc, ◌+◌, ◌<◌, ◌≤◌, List, ◌∷◌, length, get_or, take, drop, map, sym, subst, add-one}
use Rattle.std.proofs.Math.Seq.{drop-cons}
use Rattle.std.specs.Prelude.{All}
use Rattle.std.proofs.lemmas.List.{take_all}
use Rattle.std.proofs.lemmas.List.Elements.{All-more, All-map}
use Rattle.wasm_tree.specs.declared.fault.WFault.{WFault}
use Rattle.wasm_tree.specs.Validity.{AreDistinct}
use Rattle.wasm_valid.specs.Typing.{Refuses}
use Rattle.wasm_valid.proofs.Located.{all_names}
use Rattle.wasm_valid.proofs.Stacks.{refuses_so}

pub each_more : {X : Type 0} (P : X → Type 0) (xs : List X) (k : ℕ) (x : X) → k < length xs → x ≡ get_or xs k x
    → All P (take k xs) → P x → All P (take (k + 1) xs)
each_more P xs k x lt is before here = All-more P xs k x lt before (subst P is here)

pub each_all : {X : Type 0} (P : X → Type 0) (xs : List X) (k : ℕ) → length xs ≤ k → All P (take k xs) → All P xs
each_all {X} P xs k le all = subst (λ (ys : List X). All P ys) (take_all k xs le) all

-- where one is refused, so are all
pub each_refused : {X : Type 0} (P : X → Type 0) (xs : List X) (k : ℕ) (x : X) (e : WFault) → k < length xs
    → x ≡ get_or xs k x → Refuses e (¬ P x) → Refuses e (¬ All P xs)
each_refused P xs k x e lt is h = refuses_so e (¬ P x) (¬ All P xs) (λ n all. n (subst P (sym is) (all k x lt))) h

-- names that are distinct from the next one on are so from this one on, where this one differs from the others
pub distinct_more : {X : Type 0} (name : X → List ℕ) (xs : List X) (k : ℕ) (d : X) → k < length xs
    → All (λ x. name (get_or xs k d) ≢ name x) (drop (k + 1) xs) → AreDistinct (map name (drop (k + 1) xs))
    → AreDistinct (map name (drop k xs))
distinct_more {X} name xs k d lt new rest =
    rw (drop-cons xs k d lt) (
      All-map (λ y. name (get_or xs k d) ≢ y) name (drop (suc k) xs) (rw add-one at new),
      rw
          add-one at rest,
    )

-- and back
pub distinct_less : {X : Type 0} (name : X → List ℕ) (xs : List X) (k : ℕ) (d : X) → k < length xs
    → AreDistinct (map name (drop k xs)) → All (λ x. name (get_or xs k d) ≢ name x) (drop (k + 1) xs)
    × AreDistinct (map name (drop (k + 1) xs))
distinct_less {X} name xs k d lt h =
    let both : AreDistinct (map name (get_or xs k d ∷ drop (suc k) xs)) =
    subst (λ (ys : List X). AreDistinct (map name ys)) (drop-cons xs k d lt) h in
    rw (add-one) (all_names (λ y. name (get_or xs k d) ≢ y) name (drop (suc k) xs) both.0, both.1)
