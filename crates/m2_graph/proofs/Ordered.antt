-- Files in order.
use Rattle.std.proofs.Common.{◌≡◌, ℕ, ◌+◌, ◌<◌, Bool, true, false, cond, List, [], ◌∷◌, ◌++◌, length, take, get_or, refl, sym, ap, subst, ◌∙◌, arith}
use Rattle.std.specs.Prelude.{map}
use Rattle.std.specs.Borrow.{Bor}
use Rattle.std.specs.List.{filter}
use Rattle.std.specs.List.Sorted.{IsPermutation, IsSortedBy, IsStableBy, ties}
use Rattle.std.proofs.lemmas.List.{get_or-map as mapped_at, length-map, map-append, take_more, length-take-le}
use Rattle.std.proofs.lemmas.List.Sorted.{IsPermutation-map}
use Rattle.std.proofs.Math.ListN.{get_or-map}
use Rattle.m2_tree.specs.declared.decl.Module.{Module}
use Rattle.m2_graph.specs.declared.sources.Source.{Source}
use Rattle.m2_graph.specs.Files.{File, is_before, AreInOrder, number_files, trees, given_of}
use Rattle.m2_graph.specs.Sources.{file_of}

filter_through : {X Y : Type 0} (p : Y → Bool) (f : X → Y) (xs : List X)
    → filter p (map f xs) ≡ map f (filter (λ x. p (f x)) xs)
filter_through p f [] = refl
filter_through p f (x ∷ xs) = step (p (f x)) (filter_through p f xs)
  where
    step : (b : Bool) → filter p (map f xs) ≡ map f (filter (λ x. p (f x)) xs)
        → cond b (f x ∷ filter p (map f xs)) (filter p (map f xs))
        ≡ map f (cond b (x ∷ filter (λ x. p (f x)) xs) (filter (λ x. p (f x)) xs))
    step true e = ap (λ ys. f x ∷ ys) e
    step false e = e

abbrev at : File → Source
at f = record {
  name = record { ref_ptr = (0, 0); now = f.name };
  tree =
      record { ref_ptr = (0, 0); now = f.tree };
  given = f.given;
}

abbrev pub goes_before : Source → Source → Bool
goes_before f g = is_before (file_of f) (file_of g)

as_many : (xs : List Source) → length (map file_of xs) ≡ length xs
as_many xs = rw length-map refl

pub order_of : (files : List File) (first last : List Source) → map file_of first ≡ files → IsPermutation first last
    → IsSortedBy goes_before last → IsStableBy goes_before first last → AreInOrder files (map file_of last)
order_of files first last is same sorted stable =
    subst (λ (fs : List File). AreInOrder fs (map file_of last)) is record {
      same = IsPermutation-map file_of first last same;
      sorted = λ k d zero_le h. subst (λ (b : Bool). b ≡ false)
          (sym (rw (← get_or-map file_of last (k + 1) (at d), ← get_or-map file_of last k (at d)) refl))
          (sorted k (at d) zero_le (subst (λ (n : ℕ). k + 1 < n) (as_many last) h));
      stable = λ x. filter_through (ties is_before x) file_of last ∙ ap (map file_of) (stable (at x))
          ∙ sym (filter_through (ties is_before x) file_of first);
    }

numbered_push : (n : ℕ) (xs : List (List ℕ × Module)) (x : List ℕ × Module) (k : ℕ) → n + length xs ≡ k
    → number_files n (xs ++ x ∷ []) ≡ number_files n xs ++ number_files k (x ∷ [])
numbered_push n [] x k e = ap (λ j. number_files j (x ∷ [])) (let s : n ≡ k = omega arith in s)
numbered_push n (y ∷ ys) x k e = ap (λ zs. record { name = y.0; tree = y.1; given = n } ∷ zs)
    (numbered_push (n + 1) ys x k (omega arith))

abbrev pub of_pair : Bor (List ℕ) × Bor Module → List ℕ × Module
of_pair p = (p.0.now, p.1.now)

pub borrowed_more : (xs : List (Bor (List ℕ) × Bor Module)) (i : ℕ) (d : Bor (List ℕ) × Bor Module)
    (all all' : List Source) → i < length xs → map file_of all ≡ number_files 0 (map of_pair (take i xs))
    → all' ≡ all ++ record { name = (get_or xs i d).0; tree = (get_or xs i d).1; given = i } ∷ []
    → map file_of all' ≡ number_files 0 (map of_pair (take (i + 1) xs))
borrowed_more xs i d all all' l is more =
    let x = get_or xs i d in
    let much : 0 + length (map of_pair (take i xs)) ≡ i =
    rw length-map (omega (arith, length-take-le i xs (omega arith))) in
    ap (map file_of) more ∙ map-append file_of all (record { name = x.0; tree = x.1; given = i } ∷ [])
    ∙ ap (λ ys. ys ++ number_files i (of_pair x ∷ [])) is
    ∙ sym (numbered_push 0 (map of_pair (take i xs)) (of_pair x) i much)
    ∙ ap (number_files 0) (sym (map-append of_pair (take i xs) (x ∷ []))
    ∙ ap (map of_pair) (sym (take_more xs i d l)))

pub trees_of : (xs : List Source) → map (λ (s : Source). s.tree.now) xs ≡ trees (map file_of xs)
trees_of [] = refl
trees_of (x ∷ xs) = ap (λ ms. x.tree.now ∷ ms) (trees_of xs)

pub borrowed_next : (xs : List (Bor (List ℕ) × Bor Module)) (i : ℕ) (x : Bor (List ℕ) × Bor Module)
    (all all' : List Source) → i < length xs → x ≡ get_or xs i x
    → map file_of all ≡ number_files 0 (map of_pair (take i xs))
    → all' ≡ all ++ record { name = x.0; tree = x.1; given = i } ∷ []
    → map file_of all' ≡ number_files 0 (map of_pair (take (i + 1) xs))
borrowed_next xs i x all all' l e is more =
    borrowed_more xs i x all all' l is (subst
    (λ (y : Bor (List ℕ) × Bor Module). all' ≡ all ++ record { name = y.0; tree = y.1; given = i } ∷ []) e more)

pub given_at : (xs : List Source) (i : ℕ) (x : Source) → i < length xs
    → (get_or xs i x).given ≡ given_of (map file_of xs) i
given_at xs i x l =
    let inside : i < length (map file_of xs) = rw length-map l in
    sym (mapped_at (λ (f : File). f.given) (map file_of xs) i (file_of x) 0 inside
    ∙ ap (λ (f : File). f.given) (mapped_at file_of xs i x (file_of x) l))
